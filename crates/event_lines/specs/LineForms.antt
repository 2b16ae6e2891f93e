-- Forms of what stands behind a line's word: one field after the other, or a list. Rules 2.3, 2.4, 4.13, 5.3 to 5.5.
use Rattle.std.specs.Prelude.{ℕ, Bool, true, ◌&&◌, length, Option, Some, None, is_some, option_and_then}
use mathlib.Core.List.{List, [], ◌∷◌, tail}
use Rattle.std.specs.Prelude.{if◌then◌else◌}
use Rattle.notation.specs.Text.{byte, bytes}
use Rattle.split.specs.Split.{split}
use Rattle.words.specs.Words.{same}
use Rattle.numbers.specs.Numbers.{number_of}
use Rattle.forms.specs.declared.GenContext.{GenContext}
use Rattle.forms.specs.declared.Level.{Level}
use Rattle.targets.specs.declared.Target.{Target}
use Rattle.events.specs.declared.Entries.{Entries}
use Rattle.events.specs.declared.Entries.TheVariants.{Uses}
use Rattle.events.specs.declared.Event.{Event}
use Rattle.event_lines.specs.declared.Said.{Said}
use Rattle.event_fields.specs.EventFields.{target_of, level_of, context_of, entry_of}

-- what a line says, where it has a form
abbrev pub Line : Type 0
Line = Option Said

abbrev pub saying : Event → ℕ → Line
saying event n = Some (record { event = event; entries = n })

-- how the fields behind a word are read: what they say, an A making the event of what they hold; and the entries of their list
pub record Form (A : Type 0) : Type 0 where
  pub says : A → List (List ℕ) → Line
  pub entries : List (List ℕ) → List ℕ

-- ---- No further field

unfoldable pub end_says : Event → List (List ℕ) → Line
end_says event [] = saying event 0
end_says event (field ∷ fields) = None

abbrev pub end : Form Event
end = record { says = end_says; entries = λ fields. [] }

-- ---- A field, and the others behind it: each has to have its form, rule 2.4

module _ {A B : Type 0} (read : List ℕ → Option B) (others : Form A) where
  unfoldable pub field_says : (B → A) → List (List ℕ) → Line
  field_says event [] = None
  field_says event (field ∷ fields) = option_and_then (λ b. others.says (event b) fields) (read field)

  -- the entries are those behind it, also where the field itself has no form
  abbrev pub field_and : Form (B → A)
  field_and = record { says = field_says; entries = λ fields. others.entries (tail fields) }

module _ {A : Type 0} (others : Form A) where
  abbrev pub number : Form (ℕ → A)
  number = field_and number_of others

  abbrev pub target : Form (Target → A)
  target = field_and target_of others

  abbrev pub level : Form (Level → A)
  level = field_and level_of others

  abbrev pub context : Form (GenContext → A)
  context = field_and context_of others

-- ---- A list

-- rule 4.13: whether the list, taken whole, has its form
unfoldable pub all_entries : Entries → List (List ℕ) → Bool
all_entries kind [] = true
all_entries kind (part ∷ parts) = is_some (entry_of kind part) && all_entries kind parts

unfoldable pub list_says : Entries → Event → List (List ℕ) → Line
list_says kind event parts = if all_entries kind parts then saying event (length parts) else None

abbrev pub in_front_of : Option ℕ → List ℕ → List ℕ
in_front_of (Some n) ns = n ∷ ns
in_front_of None ns = []

-- the entries up to the first that has no form
unfoldable pub leading : Entries → List (List ℕ) → List ℕ
leading kind [] = []
leading kind (part ∷ parts) = in_front_of (entry_of kind part) (leading kind parts)

-- a field for each entry
abbrev pub list : Entries → Form Event
list kind = record { says = list_says kind; entries = leading kind }

abbrev pub comma : ℕ
comma = byte ","

-- rule 5.5: `-` for none, or uses with a comma between two
unfoldable pub uses_in : List ℕ → List (List ℕ)
uses_in field = if same field (bytes "-") then [] else split comma field

unfoldable pub uses_say : Event → List (List ℕ) → Line
uses_say event [] = None
uses_say event (field ∷ []) = list_says Uses event (uses_in field)
uses_say event (field ∷ (next ∷ fields)) = None

unfoldable pub uses_list : List (List ℕ) → List ℕ
uses_list [] = []
uses_list (field ∷ []) = leading Uses (uses_in field)
uses_list (field ∷ (next ∷ fields)) = []

-- all in one field
abbrev pub uses_field : Form Event
uses_field = record { says = uses_say; entries = uses_list }
