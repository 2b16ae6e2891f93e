-- Texts as bytes, checked against the numbers of the ASCII table.
use Rattle.std.specs.Prelude.{◌≡◌, refl, [], ◌∷◌}
use Rattle.notation.specs.Text.{bytes, byte}

pub bytes_ascii : bytes "get_x3\t\n" ≡ 103 ∷ 101 ∷ 116 ∷ 95 ∷ 120 ∷ 51 ∷ 9 ∷ 10 ∷ []
bytes_ascii = refl

pub byte_ascii : byte "0" ≡ 48
byte_ascii = refl
