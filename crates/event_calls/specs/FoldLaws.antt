-- Rule 17.8: the whole sheet is the fold of the line call over its lines: the same text, the same refusal at the same line.
use Rattle.std.specs.Prelude.{ℕ, suc, ◌≤◌, ◌≡◌, true, false, eqb, leb, length, Option, Some, None}
use Rattle.std.proofs.Math.Path.{refl, ap, ap₂}
use Rattle.std.proofs.Common.{subst, sym, ◌∙◌, arith, length-append, length-drop, le-leb, leb-true}
use mathlib.Core.List.{List, [], ◌∷◌, ◌++◌, append-nil}
use Rattle.std.proofs.Math.ListN.{drop}
use Rattle.std.proofs.Math.Seq.{take-append_seam}
use Rattle.std.specs.Prelude.{if◌then◌else◌}
use Rattle.notation.specs.ChoiceLaws.{both_true}
use Rattle.refusals.specs.declared.Refusal.{Refusal}
use Rattle.refusals.specs.Refusals.{accepted, is_refused}
use Rattle.sizes.specs.Sizes.{sheet_bytes}
use Rattle.split.specs.Split.{line_feed, split, in_front, joined}
use Rattle.split.specs.SplitLaws.{split-some}
use Rattle.split.specs.SplitTrips.{free, all_free, all_free-split, split-joined, joined-split}
use Rattle.events.specs.declared.Event.{Event}
use Rattle.debray_allocator.specs.declared.State.{State}
use Rattle.debray_allocator.specs.declared.Answer.{Answer}
use Rattle.debray_allocator.specs.State.{fresh_state}
use Rattle.debray_allocator.specs.DebrayAllocator.{refused_with, stepped}
use Rattle.event_lines.specs.LineForms.{Line}
use Rattle.event_lines.specs.EventLines.{line_says, line_list}
use Rattle.answers.specs.Answers.{text_of}
use Rattle.answers.specs.AnswersLaws.{longest, text_short, end_short}
use Rattle.answered.specs.Answered.{filled_by}
use Rattle.event_sheets.specs.EventSheets.{refused_at, behind, max_reg_allocated, num_perm_vars, ended, said_answer, line_answer, last_ran, line_ran, ran, sheet_ran}
use Rattle.event_sheets.specs.RunningLaws.{ran-refused, ran-accepted}
use Rattle.valid_states.specs.ValidStates.{is_valid}
use Rattle.valid_states.specs.ValidStatesLaws.{fresh_valid}
use Rattle.valid_stays.specs.Fits.{Full}
use Rattle.valid_stays.proofs.ValidStays.{valid_stays_lem, lengths_stay}
use Rattle.valid_stays.specs.Reachable.{Reachable, fresh}
use Rattle.valid_stays.proofs.ReachableLaws.{reachable_valid, reachable_step}
use Rattle.event_calls.specs.EventCalls.{parts_answer, bytes_answer, called_by, called, call_filled, last_filled}
use Rattle.event_calls.specs.CallLaws.{called_valid, by-refused, by_written, last_fits}
use Rattle.event_calls.specs.Fold.{with_feed, gathered, nothing_more, fed, all_valid, lines_fit, all_within}

-- ---- A line and its LF

fed_parts : (line : List ℕ) → free line_feed line ≡ true → split line_feed (with_feed line) ≡ line ∷ ([] ∷ [])
unfolding joined all_free free
fed_parts line h = split-joined line_feed line ([] ∷ []) (simp h)

fed-answer : (s : State) (line : List ℕ) → free line_feed line ≡ true → bytes_answer s (with_feed line) ≡ line_answer s line
unfolding bytes_answer
fed-answer s line h = ap (parts_answer s) (fed_parts line h)

-- ---- One call

module _
    (s : State) (out line : List ℕ)
    (alone : free line_feed line ≡ true) (valid : is_valid s ≡ true) (fits : length (with_feed line) ≤ sheet_bytes) where
  abbrev answer : Answer
  answer = line_answer s line

  abbrev text : List ℕ
  text = text_of answer

  called-line : called s (with_feed line) (length out) ≡ called_by s answer (length out)
  called-line = called_valid s (with_feed line) (length out) valid fits ∙ ap (λ a. called_by s a (length out)) (fed-answer s line alone)

  module _ (number : ℕ) (lines : List (List ℕ)) where
    fed_bad : {refusal : Refusal} → answer.refusal ≡ Some refusal → fed s out number (line ∷ lines) ≡ refused_at number (Some refusal)
    unfolding fed
    fed_bad h =
        ap (λ c. gathered number c.answered (call_filled s (with_feed line) out) (fed c.state (call_filled s (with_feed line) out) (suc number) lines))
        (called-line ∙ by-refused s answer (length out) h)

    fed_good :
        answer.refusal ≡ accepted → length text ≤ length out
        → fed s out number (line ∷ lines) ≡ behind text (fed answer.state (text ++ drop (length text) out) (suc number) lines)
    unfolding fed call_filled
    fed_good good short =
        let c = called-line ∙ by_written s answer (length out) good short in
        let f : call_filled s (with_feed line) out ≡ text ++ drop (length text) out =
        ap₂ (λ c a. filled_by c.answered (text_of a) out) c (fed-answer s line alone)
        in
        ap₂ (λ c after. gathered number c.answered after (fed c.state after (suc number) lines)) c f
        ∙ ap (λ t. behind t (fed answer.state (text ++ drop (length text) out) (suc number) lines)) (take-append_seam text (drop (length text) out))

fed-end :
    (s : State) (out : List ℕ) (number : ℕ) → is_valid s ≡ true → length (ended s.counters).text ≤ length out
    → fed s out number [] ≡ ended s.counters
unfolding fed last_filled
fed-end s out number valid short =
    let text = (ended s.counters).text in
    ap (λ a. gathered number a (filled_by a text out) nothing_more) (sym (last_fits s out valid short))
    ∙ ap (λ t. behind t nothing_more) (take-append_seam text (drop (length text) out))
    ∙ ap (λ t. record { text = t; line = 0; refusal = accepted }) (append-nil text)

-- ---- All lines

ran-end : (s : State) (number : ℕ) → ran s number ([] ∷ []) ≡ ended s.counters
unfolding ran last_ran
ran-end s number = refl

ran_first :
    (s : State) (number : ℕ) (line : List ℕ) (lines : List (List ℕ))
    → ran s number (line ∷ (lines ++ ([] ∷ [])))
    ≡ line_ran number (line_answer s line) (λ after. ran after (suc number) (lines ++ ([] ∷ [])))
unfolding ran
ran_first s number line [] = refl
ran_first s number line (next ∷ lines) = refl

pub fed-ran :
    (lines : List (List ℕ)) (s : State) (out : List ℕ) (number : ℕ) → all_free line_feed lines ≡ true
    → all_valid s lines ≡ true
    → lines_fit lines ≡ true
    → all_within (length out) s lines ≡ true
    → fed s out number lines ≡ ran s number (lines ++ ([] ∷ []))
unfolding all_free all_valid lines_fit all_within
fed-ran [] s out number alone valid fit within =
    fed-end s out number valid (leb-true _ _ within) ∙ sym (ran-end s number)
fed-ran (line ∷ lines) s out number alone valid fit within =
    let a = line_answer s line in
    let text = text_of a in
    let f = both_true (free line_feed line) (all_free line_feed lines) alone in
    let v = both_true (is_valid s) (all_valid a.state lines) valid in
    let l = both_true (leb (length (with_feed line)) sheet_bytes) (lines_fit lines) fit in
    let fits : length (with_feed line) ≤ sheet_bytes = leb-true _ _ l.0 in
    let w = both_true (leb (length text) (length out)) (all_within (length out) a.state lines) within in
    let short : length text ≤ length out = leb-true _ _ w.0 in
    let n : length (text ++ drop (length text) out) ≡ length out = omega (arith, length-append text (drop (length text) out), length-drop (length text) out) in
    let later = fed-ran lines a.state (text ++ drop (length text) out) (suc number) f.1 v.1 l.1 (rw n w.1) in
    elim a.refusal as
    (λ (r : Option Refusal). a.refusal ≡ r → fed s out number (line ∷ lines) ≡ ran s number (line ∷ (lines ++ ([] ∷ [])))) [
      | Some refusal ↦ λ e. fed_bad s out line f.0 v.0 fits number lines e
          ∙ sym (ran_first s number line lines ∙ ran-refused number _ a (ap is_refused e) ∙ ap (refused_at number) e)
      | None ↦ λ e. fed_good s out line f.0 v.0 fits number lines e short
          ∙ ap (behind text) later
          ∙ sym (ran_first s number line lines ∙ ran-accepted number _ a (ap is_refused e))
    ]
    refl

-- ---- A sheet

all_free-first :
    (lines : List (List ℕ)) (others : List (List ℕ)) → all_free line_feed (lines ++ others) ≡ true → all_free line_feed lines ≡ true
unfolding all_free
all_free-first [] others h = refl
all_free-first (line ∷ lines) others h =
    let b = both_true (free line_feed line) (all_free line_feed (lines ++ others)) h in
    simp (b.0, all_free-first lines others b.1)

longer :
    (c : ℕ) (parts : List (List ℕ)) (part : List ℕ) (rest others : List (List ℕ)) → parts ≡ part ∷ rest
    → in_front c (parts ++ others) ≡ in_front c parts ++ others
unfolding in_front
longer c parts part rest others e = rw e refl

lines_of : (text : List ℕ) → split line_feed (with_feed text) ≡ split line_feed text ++ ([] ∷ [])
unfolding split
lines_of [] = refl
lines_of (c ∷ cs) =
    elim (eqb c line_feed) as
    (λ t. (if t then [] ∷ split line_feed (with_feed cs) else in_front c (split line_feed (with_feed cs)))
    ≡ (if t then [] ∷ split line_feed cs else in_front c (split line_feed cs)) ++ ([] ∷ [])) [
      | true ↦ ap (λ (l : List (List ℕ)). [] ∷ l) (lines_of cs)
      | false ↦ ap (in_front c) (lines_of cs) ∙ longer c (split line_feed cs) _ _ ([] ∷ []) (split-some line_feed cs)
    ]

module _ (out : List ℕ) where
  -- nothing stands behind the last LF: the fold over the lines is the whole sheet
  pub fed-sheet :
      (sheet : List ℕ) (lines : List (List ℕ)) → split line_feed sheet ≡ lines ++ ([] ∷ [])
      → all_valid fresh_state lines ≡ true
      → lines_fit lines ≡ true
      → all_within (length out) fresh_state lines ≡ true
      → fed fresh_state out 1 lines ≡ sheet_ran sheet
  unfolding sheet_ran
  fed-sheet sheet lines parts valid fit within =
      let alone = all_free-first lines ([] ∷ []) (subst (λ l. all_free line_feed l ≡ true) parts (all_free-split line_feed sheet)) in
      fed-ran lines fresh_state out 1 alone valid fit within ∙ ap (ran fresh_state 1) (sym parts)

  -- so it is for the empty sheet
  pub fed-empty : all_within (length out) fresh_state [] ≡ true → fed fresh_state out 1 [] ≡ sheet_ran []
  unfolding split all_valid lines_fit
  fed-empty within = fed-sheet [] [] refl fresh_valid refl within

  -- and for every sheet that ends in LF: its lines are the parts of what stands before that
  pub fed_lines :
      (text : List ℕ) → all_valid fresh_state (split line_feed text) ≡ true
      → lines_fit (split line_feed text) ≡ true
      → all_within (length out) fresh_state (split line_feed text) ≡ true
      → fed fresh_state out 1 (split line_feed text) ≡ sheet_ran (with_feed text)
  fed_lines text valid fit within = fed-sheet (with_feed text) (split line_feed text) (lines_of text) valid fit within

-- ---- Where the conditions hold

-- every line fits where all of them do, each with its LF
joined_fit : (lines : List (List ℕ)) → length (with_feed (joined line_feed lines)) ≤ sheet_bytes → lines_fit lines ≡ true
unfolding lines_fit joined
joined_fit [] h = refl
joined_fit (line ∷ []) h = simp (le-leb _ _ h)
joined_fit (line ∷ (next ∷ lines)) h =
    let later = joined line_feed (next ∷ lines) in
    let all = length-append (line ++ (line_feed ∷ later)) (line_feed ∷ []) in
    let parts = length-append line (line_feed ∷ later) in
    let one : length (with_feed line) ≤ sheet_bytes = omega (arith, length-append line (line_feed ∷ []), all, parts) in
    let others : length (with_feed later) ≤ sheet_bytes = omega (arith, length-append later (line_feed ∷ []), all, parts) in
    simp (le-leb _ _ one, joined_fit (next ∷ lines) others)

lines_fit_lem : (text : List ℕ) → length (with_feed text) ≤ sheet_bytes → lines_fit (split line_feed text) ≡ true
lines_fit_lem text h = joined_fit (split line_feed text) (rw (joined-split line_feed text) h)

-- every text finds room where there is room for the longest
pub short_within : (room : ℕ) → longest ≤ room → (lines : List (List ℕ)) (s : State) → all_within room s lines ≡ true
unfolding all_within
short_within room h [] s =
    let n : length (ended s.counters).text ≤ room = omega (arith, end_short (max_reg_allocated s.counters) (num_perm_vars s.counters)) in
    le-leb _ _ n
short_within room h (line ∷ lines) s =
    let a = line_answer s line in
    let n : length (text_of a) ≤ room = omega (arith, text_short a) in
    simp (le-leb _ _ n, short_within room h lines a.state)

-- what holds of a state, and after every event, holds after every line, since one that has no form changes nothing
module _
    (P : State → Type 0) (s : State) (holds : P s)
    (stays : (event : Event) (list : List ℕ) → P (stepped s event list).state) where
  said_keeps : (said : Line) (list : List ℕ) → P (said_answer s said list).state
  unfolding refused_with
  said_keeps None list = holds
  said_keeps (Some said) list = stays said.event list

  line_keeps : (line : List ℕ) → P (line_answer s line).state
  unfolding line_answer
  line_keeps line = said_keeps (line_says line) (line_list line)

-- rule 17.7: so any valid state stays valid
pub line_valid :
    (s : State) → Full s → is_valid s ≡ true → (line : List ℕ)
    → (Full (line_answer s line).state) × (is_valid (line_answer s line).state ≡ true)
line_valid s full valid =
    line_keeps (λ s. (Full s) × (is_valid s ≡ true)) s (full, valid)
    (λ event list. (lengths_stay s full valid event list, valid_stays_lem s full valid event list))

-- and a reachable one reachable
pub line_reachable : {s : State} → Reachable s → (line : List ℕ) → Reachable (line_answer s line).state
line_reachable {s} r = line_keeps Reachable s r (reachable_step r)

-- so every state on the way from a fresh clause is valid
pub lines_valid : (lines : List (List ℕ)) {s : State} → Reachable s → all_valid s lines ≡ true
unfolding all_valid
lines_valid [] r = reachable_valid r
lines_valid (line ∷ lines) r = simp (reachable_valid r, lines_valid lines (line_reachable r line))

-- rule 17.8: so a host that lends room for the longest text is answered as the sheet is, where that is not too long
pub fold_is-sheet :
    (text out : List ℕ) → length (with_feed text) ≤ sheet_bytes → longest ≤ length out
    → fed fresh_state out 1 (split line_feed text) ≡ sheet_ran (with_feed text)
fold_is-sheet text out fits h =
    fed_lines out text
    (lines_valid (split line_feed text) fresh)
    (lines_fit_lem text fits)
    (short_within (length out) h (split line_feed text) fresh_state)
