-- Laws of a call: there is one answer, it stays within the room, and a refusal leaves state and room as they were.
use Rattle.std.specs.Prelude.{ℕ, ◌≤◌, ◌≡◌, refl, true, false, not, List, ltb, length, Ok, Some, None}
use Rattle.std.proofs.Common.{ap, sym, ◌∙◌, arith, ltb-false}
use Rattle.std.specs.Prelude.{if◌then◌else◌}
use Rattle.notation.specs.ChoiceLaws.{either}
use Rattle.refusals.specs.declared.Refusal.{Refusal}
use Rattle.refusals.specs.declared.Refusal.TheVariants.{Size, Full, Room}
use Rattle.sizes.specs.Sizes.{sheet_bytes}
use Rattle.debray_allocator.specs.declared.State.{State}
use Rattle.debray_allocator.specs.declared.Answer.{Answer}
use Rattle.answers.specs.Answers.{text_of}
use Rattle.answered.specs.Answered.{Answered, refused, filled_by}
use Rattle.answered.specs.AnsweredLaws.{Within, filled_by-length}
use Rattle.event_sheets.specs.EventSheets.{ended, answered_by}
use Rattle.valid_states.specs.ValidStates.{is_valid}
use Rattle.event_calls.specs.declared.Called.{Called}
use Rattle.event_calls.specs.EventCalls.{bytes_answer, refused_call, refused_or, called_by, called, call_filled, last_answered, last_filled}

-- ---- No second answer fits (rule 25.2)

pub call_unique :
    (s : State) (bytes out : List ℕ) {a b : Called} {after after' : List ℕ}
    → a ≡ called s bytes (length out)
    → after ≡ call_filled s bytes out
    → b ≡ called s bytes (length out)
    → after' ≡ call_filled s bytes out
    → (a ≡ b) × (after ≡ after')
call_unique s bytes out a after b after' = (a ∙ sym b, after ∙ sym after')

pub last_unique :
    (s : State) (out : List ℕ) {a b : Answered} {after after' : List ℕ}
    → a ≡ last_answered s (length out)
    → after ≡ last_filled s out
    → b ≡ last_answered s (length out)
    → after' ≡ last_filled s out
    → (a ≡ b) × (after ≡ after')
last_unique s out a after b after' = (a ∙ sym b, after ∙ sym after')

-- ---- Within the room, and untouched where it is refused

-- a count is the text's and there is room for it, a line is 1 at most, and a refusal keeps the state
record Kept (s : State) (text : List ℕ) (room : ℕ) (c : Called) : Type 0 where
  within : Within room text 1 c.answered
  state : (line : ℕ) (refusal : Refusal) → c.answered ≡ refused line refusal → c.state ≡ s

refused-kept :
    (s : State) (text : List ℕ) (room line : ℕ) (refusal : Refusal) → line ≤ 1 → Kept s text room (refused_call s line refusal)
refused-kept s text room line refusal h = record { within = h; state = λ l r e. refl }

written-kept :
    (s after : State) (text : List ℕ) (room : ℕ) → length text ≤ room
    → Kept s text room (record { state = after; answered = Ok (length text) })
written-kept s after text room h =
    record {
      within = (h, refl);
      state = λ line refusal e. (let z : ◌≡◌ {A = ℕ} 0 1 = cc in absurd (omega arith));
    }

by-kept : (s : State) (a : Answer) (room : ℕ) → Kept s (text_of a) room (called_by s a room)
unfolding called_by
by-kept s a room =
    elim a.refusal as
    (λ r. Kept s (text_of a) room (refused_or s r (if ltb room (length (text_of a)) then refused_call s 0 Room else record { state = a.state; answered = Ok (length (text_of a)) }))) [
      | Some refusal ↦ refused-kept s (text_of a) room 1 refusal (omega arith)
      | None ↦ elim (ltb room (length (text_of a))) as
          (λ t. ltb room (length (text_of a)) ≡ t → Kept s (text_of a) room (if t then refused_call s 0 Room else record { state = a.state; answered = Ok (length (text_of a)) })) [
            | true ↦ λ e. refused-kept s (text_of a) room 0 Room (omega arith)
            | false ↦ λ e. written-kept s a.state (text_of a) room (ltb-false _ _ e)
          ]
          refl
    ]

call_kept : (s : State) (bytes : List ℕ) (room : ℕ) → Kept s (text_of (bytes_answer s bytes)) room (called s bytes room)
unfolding called
call_kept s bytes room =
    let text = text_of (bytes_answer s bytes) in
    either (Kept s text room) (not (is_valid s)) (refused-kept s text room 0 Size (omega arith))
    (either (Kept s text room) (ltb sheet_bytes (length bytes)) (refused-kept s text room 0 Full (omega arith))
    (by-kept s (bytes_answer s bytes) room))

pub call_within :
    (s : State) (bytes : List ℕ) (room : ℕ)
    → Within room (text_of (bytes_answer s bytes)) 1 (called s bytes room).answered
call_within s bytes room = (call_kept s bytes room).within

-- the lent bytes stay as many
pub call_length : (s : State) (bytes out : List ℕ) → length (call_filled s bytes out) ≡ length out
unfolding call_filled
call_length s bytes out =
    filled_by-length (text_of (bytes_answer s bytes)) out 1 (called s bytes (length out)).answered
    (call_within s bytes (length out))

-- rule 1.3: a refusal leaves state and room as they were
pub refused_untouched :
    (s : State) (bytes out : List ℕ) (line : ℕ) (refusal : Refusal) → (called s bytes (length out)).answered ≡ refused line refusal
    → ((called s bytes (length out)).state ≡ s) × (call_filled s bytes out ≡ out)
unfolding call_filled
refused_untouched s bytes out line refusal e =
    ((call_kept s bytes (length out)).state line refusal e, ap (λ a. filled_by a (text_of (bytes_answer s bytes)) out) e)

-- ---- The same of what a sheet ends with

pub last_within : (s : State) (room : ℕ) → Within room (ended s.counters).text 0 (last_answered s room)
unfolding last_answered answered_by
last_within s room =
    let text = (ended s.counters).text in
    elim (is_valid s) as
    (λ t. Within room text 0 (if t then if ltb room (length text) then refused 0 Room else Ok (length text) else refused 0 Size)) [
      | true ↦ elim (ltb room (length text)) as
          (λ t. ltb room (length text) ≡ t → Within room text 0 (if t then refused 0 Room else Ok (length text)))
          [ true ↦ λ e. omega arith | false ↦ λ e. (ltb-false _ _ e, refl) ]
          refl
      | false ↦ omega arith
    ]

pub last-length : (s : State) (out : List ℕ) → length (last_filled s out) ≡ length out
unfolding last_filled
last-length s out =
    filled_by-length (ended s.counters).text out 0 (last_answered s (length out)) (last_within s (length out))

pub last_untouched :
    (s : State) (out : List ℕ) (line : ℕ) (refusal : Refusal) → last_answered s (length out) ≡ refused line refusal
    → last_filled s out ≡ out
unfolding last_filled
last_untouched s out line refusal e = ap (λ a. filled_by a (ended s.counters).text out) e
