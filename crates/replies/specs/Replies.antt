-- What a program prints of a sheet: rule 22.1.
use Rattle.std.specs.Prelude.{ℕ, ◌≤◌, ◌≡◌, Bool, List, Ok, Err}
use Rattle.refusals.specs.Refusals.{number_of as refusal_number}
use Rattle.sizes.specs.Sizes.{largest_number}
use Rattle.printing.specs.Printing.{Put}
use Rattle.answered.specs.Answered.{Answered, refusal_text}
use Rattle.event_sheets.specs.EventSheets.{sheet_ran, answered as events_answered}
use Rattle.bundles.specs.Bundles.{bundle_ran, answered as bundle_answered}
use Rattle.check_sheets.specs.CheckSheets.{word_of, answered as check_answered}

abbrev pub replied : Answered → List ℕ → List ℕ
replied (Ok count) text = text
replied (Err told) text = refusal_text told.line (refusal_number told.refusal)

-- the reply to a sheet with so much room for its answer
unfoldable pub event_reply : List ℕ → ℕ → List ℕ
event_reply sheet room = replied (events_answered sheet room) (sheet_ran sheet).text

unfoldable pub bundle_reply : List ℕ → ℕ → List ℕ
bundle_reply bundle room = replied (bundle_answered bundle room) (bundle_ran bundle).text

unfoldable pub check_reply : Bool → List ℕ → ℕ → List ℕ
check_reply right sheet room = replied (check_answered right sheet room) (word_of right)

-- ---- On the way: an answer whose lent bytes are filled already

-- a refused line's number is one that can be printed
abbrev pub Printable : Answered → Type 0
Printable (Ok count) = Unit {0}
Printable (Err told) = told.line ≤ largest_number

-- the bytes stay as the answer left them, up to its count; or a refusal's line is put
abbrev pub Told : Answered → List ℕ → ℕ → List ℕ → Type 0
Told (Ok count) out next after = (next ≡ count) × (after ≡ out)
Told (Err told) out next after = Put out 0 (refusal_text told.line (refusal_number told.refusal)) next after
