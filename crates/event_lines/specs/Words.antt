-- The words of an event sheet's lines, each with what stands behind it and the event that its line says: rules 5.6 to 5.27.
use Rattle.std.specs.Prelude.{ℕ, List, [], ◌∷◌}
use Rattle.notation.specs.Text.{bytes}
use Rattle.events.specs.declared.Entries.TheVariants.{Arguments, Variables}
use Rattle.events.specs.declared.Event.TheVariants.{Temp, Perm, Sets, Head, Args, Var, Anon, NonVar, Cut, Incr, Free, Safe, Give, Tail, Next, Open, Arm, Take, Close, Reset, Contents, ClearFree}
use Rattle.event_lines.specs.LineForms.{Line, Form, end, number, target, level, context, list, uses_field}

-- how a word is spelled, what its line says by the fields behind it, and the entries of its list
pub record Word : Type 0 where
  pub spelled : List ℕ
  pub says : List (List ℕ) → Line
  pub entries : List (List ℕ) → List ℕ

abbrev pub word : {A : Type 0} → List ℕ → Form A → A → Word
word spelled form event = record { spelled = spelled; says = form.says event; entries = form.entries }

-- a word, the fields behind it, and its event; the code numbers the words from 1 in this order
-- rules 5.14, 5.16: `cut` names its variable first, `free` its chunk; rules 13.3, 13.4: nothing of `nonvar` asks for its target
unfoldable pub line_words : List Word
line_words =
    word (bytes "sets") end Sets
    ∷ word (bytes "next") end Next
    ∷ word (bytes "take") end Take
    ∷ word (bytes "reset") end Reset
    ∷ word (bytes "contents") end Contents
    ∷ word (bytes "clearfree") end ClearFree
    ∷ word (bytes "perm") (number end) Perm
    ∷ word (bytes "args") (number end) Args
    ∷ word (bytes "incr") (number end) Incr
    ∷ word (bytes "safe") (number end) Safe
    ∷ word (bytes "give") (number end) Give
    ∷ word (bytes "tail") (number end) Tail
    ∷ word (bytes "cut") (number (number end)) Cut
    ∷ word (bytes "free") (number (number end)) Free
    ∷ word (bytes "arm") (number (number end)) Arm
    ∷ word (bytes "open") (number (number (number end))) Open
    ∷ word (bytes "var") (target (level (context (number end)))) Var
    ∷ word (bytes "anon") (target (level (context end))) Anon
    ∷ word (bytes "nonvar") (target (level (context (number end)))) (λ t. NonVar)
    ∷ word (bytes "temp") (context (number uses_field)) Temp
    ∷ word (bytes "head") (list Arguments) Head
    ∷ word (bytes "close") (number (list Variables)) Close
    ∷ []
