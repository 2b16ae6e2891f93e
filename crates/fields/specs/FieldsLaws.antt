-- Laws of what is left of a line: a field at a time, until none is left.
use Rattle.std.specs.Prelude.{ℕ, zero, suc, ◌+◌, ◌-◌, ◌≤◌, ◌<◌, ◌≡◌, refl, List, [], ◌∷◌, true, false, eqb, length, take, drop}
use Rattle.std.proofs.Common.{ap, arith, length-drop}
use Rattle.std.proofs.Math.Seq.{take-nil}
use Rattle.std.specs.Prelude.{if◌then◌else◌}
use Rattle.split.specs.Split.{tab, before, split, in_front}
use Rattle.split.specs.SplitLaws.{before_le, take-before}
use Rattle.fields.specs.Fields.{field_end, fields_left}

-- the parts of a list are the first, and those that are left from its end on
pub parts_left : (mark : ℕ) (s : List ℕ) → split mark s ≡ before mark s ∷ fields_left mark (drop (length (before mark s)) s)
unfolding before split in_front fields_left
parts_left mark [] = refl
parts_left mark (c ∷ cs) =
    elim (eqb c mark) as
    (λ t. (if t then [] ∷ split mark cs else in_front c (split mark cs))
    ≡ (if t then [] else c ∷ before mark cs)
    ∷ fields_left mark (drop (length (if t then [] else c ∷ before mark cs)) (c ∷ cs)))
    [ true ↦ refl | false ↦ rw (parts_left mark cs) ]

-- rule 2.2: the fields of a line are its word and those that are left behind it
pub line_fields : (line : List ℕ) → split tab line ≡ before tab line ∷ fields_left tab (drop (length (before tab line)) line)
line_fields line = parts_left tab line

pub left_none : (mark : ℕ) (rest : List ℕ) → length rest ≡ 0 → fields_left mark rest ≡ []
unfolding fields_left
left_none mark [] h = refl
left_none mark (c ∷ cs) h = absurd (omega arith)

-- the next field, and those that are left behind it
pub left_some :
    (mark : ℕ) (rest : List ℕ) → 0 < length rest
    → fields_left mark rest ≡ take (field_end mark rest - 1) (drop 1 rest) ∷ fields_left mark (drop (field_end mark rest) rest)
unfolding fields_left field_end
left_some mark [] h = absurd (omega arith)
left_some mark (c ∷ cs) h =
    let size : 1 + length (before mark cs) - 1 ≡ length (before mark cs) = omega arith in
    let end : 1 + length (before mark cs) ≡ suc (length (before mark cs)) = omega arith in
    rw (size, end, take-before mark cs) (parts_left mark cs)

end_positive : (mark : ℕ) (rest : List ℕ) → 0 < field_end mark rest
unfolding field_end
end_positive mark rest = omega arith

-- its end lies within what is left
pub end_within : (mark : ℕ) (rest : List ℕ) → 0 < length rest → field_end mark rest ≤ length rest
unfolding field_end
end_within mark rest h = omega (arith, before_le mark (drop 1 rest), length-drop 1 rest)

-- where that is the whole end, it is the last field
pub left_last :
    (mark : ℕ) (rest : List ℕ) → field_end mark rest ≡ length rest
    → fields_left mark rest ≡ take (field_end mark rest - 1) (drop 1 rest) ∷ []
left_last mark rest h =
    let some : 0 < length rest = omega (arith, end_positive mark rest) in
    rw (left_some mark rest some, left_none mark (drop (field_end mark rest) rest) (omega (arith, length-drop (field_end mark rest) rest)))

-- what is left behind it is shorter: a walk from field to field ends
pub left_shorter : (mark : ℕ) (rest : List ℕ) → 0 < length rest → length (drop (field_end mark rest) rest) < length rest
unfolding field_end
left_shorter mark rest h = omega (arith, length-drop (1 + length (before mark (drop 1 rest))) rest)

-- the code's two cuts: at the field's end, and behind the mark before it
pub field_part : (end : ℕ) (rest : List ℕ) → drop 1 (take end rest) ≡ take (end - 1) (drop 1 rest)
field_part zero rest = refl
field_part (suc k) [] = rw (take-nil {A = ℕ} (suc k - 1))
field_part (suc k) (c ∷ cs) = let size : k ≡ suc k - 1 = omega arith in ap (λ (n : ℕ). take n cs) size
