-- Laws of the answer: there is one, its lines come in order, the first bad one decides, and it stays within the room.
use Rattle.std.specs.Prelude.{ℕ, suc, ◌+◌, ◌-◌, ◌*◌, ◌≤◌, ◌≡◌, refl, Bool, true, false, not, ◌&&◌, List, [], ◌∷◌, ◌++◌, ltb, length, drop, Ok, Some, None}
use Rattle.std.proofs.Common.{ap, sym, ◌∙◌, append_assoc, add-zero, arith, length-append, ltb-false}
use Rattle.std.proofs.lemmas.Bool.{not-true}
use Rattle.std.specs.Prelude.{if◌then◌else◌}
use Rattle.notation.specs.ChoiceLaws.{both_true, either}
use Rattle.refusals.specs.declared.Refusal.{Refusal}
use Rattle.refusals.specs.declared.Refusal.TheVariants.{Full, Room}
use Rattle.refusals.specs.Refusals.{refused_form, is_refused}
use Rattle.sizes.specs.Sizes.{sheet_bytes}
use Rattle.split.specs.Split.{line_feed, before, split}
use Rattle.split.specs.SplitLaws.{split-some, split_le}
use Rattle.debray_allocator.specs.declared.State.{State}
use Rattle.debray_allocator.specs.declared.Answer.{Answer}
use Rattle.debray_allocator.specs.State.{fresh_state}
use Rattle.answers.specs.Answers.{text_of}
use Rattle.answers.specs.AnswersLaws.{longest, text_short, end_short}
use Rattle.answered.specs.Answered.{Answered, refused, filled_by}
use Rattle.answered.specs.AnsweredLaws.{Within, written_bound, refused_bound, filled_by-length}
use Rattle.event_sheets.specs.EventSheets.{
  Ran,
  refused_at,
  behind,
  max_reg_allocated,
  num_perm_vars,
  ended,
  last_ran,
  line_answer,
  line_ran,
  ran,
  sheet_ran,
  refused_or,
  answered_by,
  answered,
  filled,
}
use Rattle.event_sheets.specs.RunningLaws.{ran-refused, ran-accepted}

-- ---- No second answer fits (rule 25.2)

pub answer_unique :
    (sheet out : List ℕ) {a b : Answered} {after after' : List ℕ}
    → a ≡ answered sheet (length out)
    → after ≡ filled sheet out
    → b ≡ answered sheet (length out)
    → after' ≡ filled sheet out
    → (a ≡ b) × (after ≡ after')
answer_unique sheet out a after b after' = (a ∙ sym b, after ∙ sym after')

-- ---- The lines in order

-- lines carried out one after the other: the state behind them, their text, and whether none is refused
pub record Carried : Type 0 where
  pub state : State
  pub text : List ℕ
  pub accepts : Bool

abbrev pub line_first : Answer → Carried → Carried
line_first a later =
    record {
      state = later.state;
      text = text_of a ++ later.text;
      accepts = not (is_refused a.refusal) && later.accepts;
    }

unfoldable pub carried_lines : State → List (List ℕ) → Carried
carried_lines s [] = record { state = s; text = []; accepts = true }
carried_lines s (line ∷ lines) = line_first (line_answer s line) (carried_lines (line_answer s line).state lines)

ran-before :
    (s : State) (number : ℕ) (line : List ℕ) (lines : List (List ℕ)) (next : List ℕ) (others : List (List ℕ))
    → ran s number (line ∷ (lines ++ (next ∷ others)))
    ≡ line_ran number (line_answer s line) (λ after. ran after (suc number) (lines ++ (next ∷ others)))
unfolding ran
ran-before s number line [] next others = refl
ran-before s number line (second ∷ lines) next others = refl

behind-behind : (first second : List ℕ) (r : Ran) → behind first (behind second r) ≡ behind (first ++ second) r
behind-behind first second r =
    ap (λ text. record { text = text; line = r.line; refusal = r.refusal }) (sym (append_assoc first second r.text))

-- what lines that are not refused print stands first, and the lines behind them are run from the state that they leave
pub lines_in_order :
    (lines : List (List ℕ)) (s : State) (number : ℕ) (next : List ℕ) (others : List (List ℕ))
    → (carried_lines s lines).accepts ≡ true
    → ran s number (lines ++ (next ∷ others))
    ≡ behind (carried_lines s lines).text (ran (carried_lines s lines).state (number + length lines) (next ∷ others))
unfolding carried_lines
lines_in_order [] s number next others h = ap (λ k. ran s k (next ∷ others)) (sym (add-zero number))
lines_in_order (line ∷ lines) s number next others h =
    let b = both_true (not (is_refused (line_answer s line).refusal)) (carried_lines (line_answer s line).state lines).accepts h in
    let good = not-true _ b.0 in
    let later = lines_in_order lines (line_answer s line).state (suc number) next others b.1 in
    let text = text_of (line_answer s line) in
    let n : suc number + length lines ≡ number + suc (length lines) = omega arith in
    ran-before s number line lines next others
    ∙ ran-accepted number _ (line_answer s line) good
    ∙ ap (behind text) later
    ∙ behind-behind text (carried_lines (line_answer s line).state lines).text _
    ∙ ap (λ k. behind (text ++ (carried_lines (line_answer s line).state lines).text) (ran (carried_lines (line_answer s line).state lines).state k (next ∷ others))) n

-- rule 4.11: so the first bad line decides, whatever stands behind it
pub first_bad_decides :
    (lines : List (List ℕ)) (s : State) (number : ℕ) (line next : List ℕ) (others : List (List ℕ))
    → (carried_lines s lines).accepts ≡ true
    → is_refused (line_answer (carried_lines s lines).state line).refusal ≡ true
    → ran s number (lines ++ (line ∷ (next ∷ others)))
    ≡ behind (carried_lines s lines).text (refused_at (number + length lines) (line_answer (carried_lines s lines).state line).refusal)
first_bad_decides lines s number line next others h bad =
    lines_in_order lines s number line (next ∷ others) h
    ∙ ap (behind (carried_lines s lines).text)
    (ran-before (carried_lines s lines).state (number + length lines) line [] next others
    ∙ ran-refused (number + length lines) _ (line_answer (carried_lines s lines).state line) bad)

-- of a sheet: its text begins with what its first lines print, whatever stands behind them
pub sheet_in_order :
    (sheet : List ℕ) (lines : List (List ℕ)) (next : List ℕ) (others : List (List ℕ))
    → split line_feed sheet ≡ lines ++ (next ∷ others)
    → (carried_lines fresh_state lines).accepts ≡ true
    → sheet_ran sheet
    ≡ behind (carried_lines fresh_state lines).text (ran (carried_lines fresh_state lines).state (1 + length lines) (next ∷ others))
unfolding sheet_ran
sheet_in_order sheet lines next others parts h = ap (ran fresh_state 1) parts ∙ lines_in_order lines fresh_state 1 next others h

-- ---- Within the room, and no sheet has more lines than its bytes and one more

ran_line : (parts : List (List ℕ)) (s : State) (number : ℕ) → (ran s number parts).line ≤ number + length parts - 1
unfolding ran last_ran line_ran
ran_line [] s number = omega arith
ran_line (left ∷ []) s number =
    elim (ltb 0 (length left)) as
    (λ t. (if t then refused_at number refused_form else ended s.counters).line ≤ number + 1 - 1)
    [ true ↦ omega arith | false ↦ omega arith ]
ran_line (line ∷ (next ∷ parts)) s number =
    elim (is_refused (line_answer s line).refusal) as
    (λ t. (if t then refused_at number (line_answer s line).refusal else behind (text_of (line_answer s line)) (ran (line_answer s line).state (suc number) (next ∷ parts))).line ≤ number + suc (suc (length parts)) - 1) [
      | true ↦ omega arith
      | false ↦ omega (arith, ran_line (next ∷ parts) (line_answer s line).state (suc number))
    ]

pub sheet-line : (sheet : List ℕ) → (sheet_ran sheet).line ≤ length sheet + 1
unfolding sheet_ran
sheet-line sheet = omega (arith, ran_line (split line_feed sheet) fresh_state 1, split_le line_feed sheet)

-- what a sheet prints is no longer than the longest that its lines and its end can
ran_short :
    (parts : List (List ℕ)) (part : List ℕ) (s : State) (number : ℕ)
    → length (ran s number (part ∷ parts)).text ≤ longest * suc (length parts)
unfolding ran last_ran line_ran
ran_short [] left s number =
    either (λ (r : Ran). length r.text ≤ longest * 1) (ltb 0 (length left)) (omega arith) (omega (arith, end_short (max_reg_allocated s.counters) (num_perm_vars s.counters)))
ran_short (next ∷ parts) line s number =
    let a = line_answer s line in
    let later = ran a.state (suc number) (next ∷ parts) in
    either (λ (r : Ran). length r.text ≤ longest * suc (suc (length parts))) (is_refused a.refusal) (omega arith)
    (omega (arith, length-append (text_of a) later.text, text_short a, ran_short parts next a.state (suc number)))

pub sheet_short : (sheet : List ℕ) → length (sheet_ran sheet).text ≤ longest * (length sheet + 1)
unfolding sheet_ran
sheet_short sheet =
    let e = split-some line_feed sheet in
    let parts = drop 1 (split line_feed sheet) in
    let short = ran_short parts (before line_feed sheet) fresh_state 1 in
    omega (arith, ap (λ p. length (ran fresh_state 1 p).text) e, short, ap length e, split_le line_feed sheet)

pub answered_by_within : (r : Ran) (room lines : ℕ) → r.line ≤ lines → Within room r.text lines (answered_by r room)
unfolding answered_by
answered_by_within r room lines h =
    elim r.refusal as
    (λ refusal. Within room r.text lines (refused_or r.line refusal (if ltb room (length r.text) then refused 0 Room else Ok (length r.text)))) [
      | Some refusal ↦ h
      | None ↦ elim (ltb room (length r.text)) as
          (λ t. ltb room (length r.text) ≡ t → Within room r.text lines (if t then refused 0 Room else Ok (length r.text))) [
            | true ↦ λ e. omega arith
            | false ↦ λ e. (ltb-false room (length r.text) e, refl)
          ]
          refl
    ]

pub answered_within : (sheet : List ℕ) (room : ℕ) → Within room (sheet_ran sheet).text (sheet_bytes + 1) (answered sheet room)
unfolding answered
answered_within sheet room =
    elim (ltb sheet_bytes (length sheet)) as
    (λ t. ltb sheet_bytes (length sheet) ≡ t → Within room (sheet_ran sheet).text (sheet_bytes + 1) (if t then refused 0 Full else answered_by (sheet_ran sheet) room)) [
      | true ↦ λ e. omega arith
      | false ↦ λ e. answered_by_within (sheet_ran sheet) room (sheet_bytes + 1) (omega (arith, sheet-line sheet, ltb-false sheet_bytes (length sheet) e))
    ]
    refl

-- the count of bytes is the text's, and there is room for it
pub written_within :
    (sheet : List ℕ) (room count : ℕ) → answered sheet room ≡ Ok count
    → (count ≤ room) × (count ≡ length (sheet_ran sheet).text)
written_within sheet room count e = written_bound room _ _ (answered sheet room) (answered_within sheet room) e

pub line_within : (sheet : List ℕ) (room line : ℕ) (refusal : Refusal) → answered sheet room ≡ refused line refusal → line ≤ sheet_bytes + 1
line_within sheet room line refusal e = refused_bound room _ _ (answered sheet room) (answered_within sheet room) e

-- the lent bytes stay as many
pub filled-length : (sheet out : List ℕ) → length (filled sheet out) ≡ length out
unfolding filled
filled-length sheet out =
    filled_by-length (sheet_ran sheet).text out (sheet_bytes + 1) (answered sheet (length out)) (answered_within sheet (length out))

-- rule 1.3: and a refusal leaves each of them as it was
pub refused_untouched :
    (sheet out : List ℕ) (line : ℕ) (refusal : Refusal) → answered sheet (length out) ≡ refused line refusal → filled sheet out ≡ out
unfolding filled
refused_untouched sheet out line refusal e = ap (λ a. filled_by a (sheet_ran sheet).text out) e
