-- One run over the clauses of a bundle: what refuses it before, what it answers, and what holds between two clauses.
use Rattle.std.specs.Prelude.{ℕ, ◌+◌, ◌*◌, ◌≤◌, ◌≡◌, true, false, List, ◌++◌, ltb, length, take, Option}
use Rattle.std.specs.Prelude.{if◌then◌else◌}
use Rattle.refusals.specs.declared.Refusal.{Refusal}
use Rattle.refusals.specs.Refusals.{accepted, refused_form, refused_order, refused_full}
use Rattle.sizes.specs.Sizes.{sheet_bytes}
use Rattle.split.specs.Split.{line_feed, before}
use Rattle.split.specs.SplitTrips.{all_free}
use Rattle.answers.specs.AnswersLaws.{longest}
use Rattle.event_sheets.specs.EventSheets.{Ran, refused_at}
use Rattle.bundles.specs.Bundles.{lines_of, is_unended, is_stray, has_more, until_clause, clauses, clause_texts, sheet_of, all_ran}

-- the first three of rule 18.6: length, LF, order
unfoldable pub refusal_before : List ℕ → Option Refusal
refusal_before bundle =
    if ltb sheet_bytes (length bundle) then refused_full
    else if is_unended bundle then refused_form else if is_stray (lines_of bundle) then refused_order else accepted

-- the fourth: the fields of `clause` lines
unfoldable pub clauses_ran : List (List ℕ) → Ran
clauses_ran lines = if has_more lines then refused_at 0 refused_form else all_ran (clause_texts (clauses lines))

-- a text behind the bytes before a place, as far as there is room: nothing is said of what lies past it
pub record Fronts (out : List ℕ) (at : ℕ) (text after : List ℕ) : Type 0 where
  pub front : take (at + length text) after ≡ take (length out) (take at out ++ text)
  pub room : length after ≡ length out

-- between two lines of a clause: the lines so far and those that are left make those of the clause
pub record Seeking (rest left : List ℕ) (bytes end : ℕ) : Type 0 where
  pub counts : bytes + length (sheet_of (until_clause (lines_of left))) ≡ length (sheet_of (until_clause (lines_of rest)))
  pub ends : end ≡ length (before line_feed left)
  pub within : bytes + length left ≤ length rest

-- between two clauses: the texts of those that are left, behind what stands so far, make the whole
pub record Going (whole : List (List ℕ)) (empty rest : List ℕ) (count : ℕ) (out : List ℕ) : Type 0 where
  pub lines : List (List ℕ)
  pub left : rest ≡ sheet_of lines
  pub free : all_free line_feed lines ≡ true
  pub begins : is_stray lines ≡ false
  pub more : has_more lines ≡ has_more whole
  pub counts : count + length (clause_texts (clauses lines)) ≡ length (clause_texts (clauses whole))
  pub prints : take (length empty) (take count out ++ clause_texts (clauses lines)) ≡ take (length empty) (clause_texts (clauses whole))
  pub room : length out ≡ length empty
  pub short : count + longest * length rest ≤ longest * sheet_bytes
