-- Laws of a call: the line, the state and the room, and the text that is made aside.
use Rattle.std.specs.Prelude.{ℕ, ◌+◌, ◌≤◌, ◌<◌, ◌≡◌, refl, true, false, eqb, Ok, Some, None}
use Rattle.std.proofs.Math.Path.{ap, sym}
use Rattle.std.proofs.Common.{ap₂, ◌∙◌, arith, length-take, take_all}
use mathlib.Core.List.{List, [], ◌∷◌, ◌++◌}
use Rattle.std.proofs.Math.Nat.{zero-add}
use Rattle.std.proofs.Math.ListN.{length, take, drop, length-append, length-drop, drop_of_length-le}
use borrow.Author.Tests.{le-leb, lt-ltb, le-ltb}
use Rattle.std.specs.Prelude.{if◌then◌else◌}
use Rattle.refusals.specs.declared.Refusal.{Refusal}
use Rattle.refusals.specs.declared.Refusal.TheVariants.{Size, Full, Room}
use Rattle.refusals.specs.Refusals.{accepted, refused_form}
use Rattle.sizes.specs.Sizes.{sheet_bytes}
use Rattle.split.specs.Split.{line_feed, before, after, split, in_front}
use Rattle.split.specs.SplitLaws.{split-last, split_more, split-some, take-before, drop-before}
use Rattle.printing.specs.Printing.{printed, place_after, Put}
use Rattle.printing.specs.PrintingLaws.{printed-length}
use Rattle.events.specs.declared.Event.{Event}
use Rattle.event_lines.specs.LineForms.{Line, saying}
use Rattle.event_lines.specs.EventLines.{line_says, line_list}
use Rattle.event_lines.specs.EventLinesLaws.{list_read}
use Rattle.debray_allocator.specs.declared.State.{State}
use Rattle.debray_allocator.specs.declared.Answer.{Answer}
use Rattle.debray_allocator.specs.DebrayAllocator.{refused_with, stepped}
use Rattle.answers.specs.Answers.{text_of, end_text}
use Rattle.answers.specs.AnswersLaws.{longest, text_short, end_short, added}
use Rattle.answered.specs.Answered.{Answered, refused, filled_by}
use Rattle.event_sheets.specs.EventSheets.{max_reg_allocated, num_perm_vars, ended, said_answer, line_answer, answered_by}
use Rattle.valid_states.specs.ValidStates.{is_valid}
use Rattle.event_calls.specs.declared.Called.{Called}
use Rattle.event_calls.specs.EventCalls.{parts_answer, bytes_answer, refused_call, called_by, called, call_filled, last_answered, last_filled}

-- ---- A line

module _ (line : List ℕ) {said : Line} (e : said ≡ line_says line) where
  pub line-malformed :
      (s : State) {a : Answer} → said ≡ None → a ≡ refused_with s refused_form → a ≡ line_answer s line
  unfolding line_answer
  line-malformed s m refused = refused ∙ sym (ap (λ l. said_answer s l (line_list line)) (sym e ∙ m))

  module _
      (list : List ℕ) {event : Event} {count : ℕ} {read : List ℕ} (m : said ≡ saying event count)
      (room : length (line_list line) ≤ length list) (told : read ≡ printed list 0 (line_list line)) where
    entries-read : (take count (printed list 0 (line_list line)) ≡ line_list line) × (count ≡ length (line_list line))
    entries-read = list_read line list event count room (sym e ∙ m)

    pub count_within : count ≤ length read
    count_within = omega (arith, entries-read.1, ap length told, printed-length list 0 (line_list line))

    -- a line is carried out with the entries that were read
    pub line_said :
        (s : State) {entries : List ℕ} {a : Answer} → entries ≡ take count read → a ≡ stepped s event entries
        → a ≡ line_answer s line
    unfolding line_answer
    line_said s taken made =
        made
        ∙ ap (stepped s event) (taken ∙ ap (take count) told ∙ entries-read.0)
        ∙ sym (ap (λ l. said_answer s l (line_list line)) (sym e ∙ m))

-- ---- The bytes of a call

-- what stands behind the first LF is no line of this call
more_refused :
    (s : State) (line more : List ℕ) → 0 < length more
    → parts_answer s (line ∷ split line_feed more) ≡ refused_with s refused_form
unfolding split in_front
more_refused s line [] h = absurd (omega arith)
more_refused s line (c ∷ cs) h =
    elim (eqb c line_feed) as
    (λ t. parts_answer s (line ∷ (if t then [] ∷ split line_feed cs else in_front c (split line_feed cs))) ≡ refused_with s refused_form) [
      | true ↦ ap (λ parts. parts_answer s (line ∷ ([] ∷ parts))) (split-some line_feed cs)
      | false ↦ ap (λ parts. parts_answer s (line ∷ in_front c parts)) (split-some line_feed cs)
    ]

-- a line is no longer than the bytes in which it stands
pub line-fits :
    (bytes : List ℕ) {end : ℕ} {line : List ℕ} → end ≡ length (before line_feed bytes) → line ≡ take end bytes
    → length bytes ≤ sheet_bytes
    → length line ≤ sheet_bytes
line-fits bytes {end} e taken h = omega (arith, ap length taken, length-take end bytes)

module _ (s : State) (bytes : List ℕ) {end : ℕ} {a : Answer} (e : end ≡ length (before line_feed bytes)) where
  -- no LF
  pub bytes-open : length bytes ≤ end → a ≡ refused_with s refused_form → a ≡ bytes_answer s bytes
  unfolding bytes_answer
  bytes-open h refused = refused ∙ sym (ap (parts_answer s) (split-last line_feed bytes (omega (arith, e))))

  -- bytes behind it
  pub bytes_more : end + 1 < length bytes → a ≡ refused_with s refused_form → a ≡ bytes_answer s bytes
  unfolding bytes_answer
  bytes_more h refused =
      let more : 0 < length (after line_feed bytes) =
      omega (arith, e, ap length (drop-before line_feed bytes), length-drop (length (before line_feed bytes) + 1) bytes)
      in
      refused
      ∙ sym (ap (parts_answer s) (split_more line_feed bytes (omega (arith, e)))
      ∙ more_refused s (before line_feed bytes) (after line_feed bytes) more)

  -- a line and its LF
  pub bytes-line :
      {line : List ℕ} → end < length bytes → length bytes ≤ end + 1
      → line ≡ take end bytes
      → a ≡ line_answer s line
      → a ≡ bytes_answer s bytes
  unfolding bytes_answer split
  bytes-line found last taken made =
      let nothing : after line_feed bytes ≡ [] =
      sym (drop-before line_feed bytes) ∙ drop_of_length-le bytes {i = length (before line_feed bytes) + 1} (omega (arith, e))
      in
      made
      ∙ ap (line_answer s) (taken ∙ ap (λ (k : ℕ). take k bytes) e ∙ take-before line_feed bytes)
      ∙ sym (ap (parts_answer s)
      (split_more line_feed bytes (omega (arith, e)) ∙ ap (λ rest. before line_feed bytes ∷ split line_feed rest) nothing))

-- ---- A text that is made aside

module _
    {aside text kept : List ℕ} {count : ℕ}
    (room : length text ≤ length aside) (put : Put aside 0 text count kept) where
  counted : count ≡ length text
  unfolding place_after
  counted = put.place ∙ rw zero-add (simp (le-leb _ _ room))

  -- and copied where there is room for it
  copied :
      {out copy after : List ℕ} {next : ℕ} → count ≤ length out → copy ≡ take count kept → Put out 0 copy next after
      → after ≡ text ++ drop (length text) out
  unfolding printed
  copied {out} short taken copy =
      let n : length (text ++ drop (length text) out) ≤ length out =
      omega (arith, counted, length-append text (drop (length text) out), length-drop (length text) out)
      in
      (added room put taken copy).put.bytes
      ∙ rw zero-add (take_all (length out) (text ++ drop (length text) out) n)

-- ---- The answer to a call

module _ (s : State) (a : Answer) (room : ℕ) where
  pub by-refused : {refusal : Refusal} → a.refusal ≡ Some refusal → called_by s a room ≡ refused_call s 1 refusal
  unfolding called_by
  by-refused h = simp h

  module _ (good : a.refusal ≡ accepted) where
    by_longer : room < length (text_of a) → called_by s a room ≡ refused_call s 0 Room
    unfolding called_by
    by_longer h = simp (good, lt-ltb _ _ h)

    pub by_written :
        length (text_of a) ≤ room
        → called_by s a room ≡ record { state = a.state; answered = Ok (length (text_of a)) }
    unfolding called_by
    by_written h = simp (good, le-ltb _ _ h)

module _ (s : State) (bytes : List ℕ) (room : ℕ) where
  called_invalid : is_valid s ≡ false → called s bytes room ≡ refused_call s 0 Size
  unfolding called
  called_invalid h = simp h

  module _ (valid : is_valid s ≡ true) where
    called_long : sheet_bytes < length bytes → called s bytes room ≡ refused_call s 0 Full
    unfolding called
    called_long h = simp (valid, lt-ltb _ _ h)

    pub called_valid : length bytes ≤ sheet_bytes → called s bytes room ≡ called_by s (bytes_answer s bytes) room
    unfolding called
    called_valid h = simp (valid, le-ltb _ _ h)

module _ (s : State) (bytes out : List ℕ) where
  -- the lent bytes go by the answer
  call_by :
      {r : Called} {after : List ℕ} → r ≡ called s bytes (length out)
      → after ≡ filled_by r.answered (text_of (bytes_answer s bytes)) out
      → (r ≡ called s bytes (length out)) × (after ≡ call_filled s bytes out)
  unfolding call_filled
  call_by e f = (e, f ∙ ap (λ r. filled_by r.answered (text_of (bytes_answer s bytes)) out) e)

  untouched :
      {r : Called} (line : ℕ) (refusal : Refusal) → r ≡ refused_call s line refusal → called s bytes (length out) ≡ refused_call s line refusal
      → (r ≡ called s bytes (length out)) × (out ≡ call_filled s bytes out)
  untouched line refusal e w = call_by (e ∙ sym w) (ap (λ r. filled_by r.answered (text_of (bytes_answer s bytes)) out) (sym e))

  -- the state first
  pub call_invalid :
      {r : Called} → is_valid s ≡ false → r ≡ refused_call s 0 Size
      → (r ≡ called s bytes (length out)) × (out ≡ call_filled s bytes out)
  call_invalid h e = untouched 0 Size e (called_invalid s bytes (length out) h)

  -- then the length
  pub call_long :
      {r : Called} → is_valid s ≡ true → sheet_bytes < length bytes → r ≡ refused_call s 0 Full
      → (r ≡ called s bytes (length out)) × (out ≡ call_filled s bytes out)
  call_long valid h e = untouched 0 Full e (called_long s bytes (length out) valid h)

  module _
      (valid : is_valid s ≡ true) (short : length bytes ≤ sheet_bytes) {a : Answer} (made : a ≡ bytes_answer s bytes) where
    called_by_lem : called s bytes (length out) ≡ called_by s a (length out)
    called_by_lem = called_valid s bytes (length out) valid short ∙ ap (λ a. called_by s a (length out)) (sym made)

    -- then the line
    pub call-refused :
        {r : Called} {refusal : Refusal} → a.refusal ≡ Some refusal → r ≡ refused_call s 1 refusal
        → (r ≡ called s bytes (length out)) × (out ≡ call_filled s bytes out)
    call-refused {refusal = refusal} h e = untouched 1 refusal e (called_by_lem ∙ by-refused s a (length out) h)

    module _
        {aside kept : List ℕ} {count : ℕ}
        (good : a.refusal ≡ accepted) (scratch : length aside ≡ longest) (put : Put aside 0 (text_of a) count kept) where
      fits : length (text_of a) ≤ length aside
      fits = omega (arith, scratch, text_short a)

      -- room last
      pub call_longer :
          {r : Called} → length out < count → r ≡ refused_call s 0 Room
          → (r ≡ called s bytes (length out)) × (out ≡ call_filled s bytes out)
      call_longer h e = untouched 0 Room e (called_by_lem ∙ by_longer s a (length out) good (omega (arith, counted fits put)))

      pub call-written :
          {r : Called} {copy after : List ℕ} {next : ℕ} → count ≤ length out → copy ≡ take count kept
          → Put out 0 copy next after
          → r ≡ record { state = a.state; answered = Ok count }
          → (r ≡ called s bytes (length out)) × (after ≡ call_filled s bytes out)
      call-written h taken copy e =
          let n = counted fits put in
          let w = e ∙ ap (λ (n : ℕ). record { state = a.state; answered = Ok n }) n in
          call_by
          (w ∙ sym (called_by_lem ∙ by_written s a (length out) good (omega (arith, n))))
          (copied fits put h taken copy
          ∙ ap (λ a'. text_of a' ++ drop (length (text_of a)) out) made
          ∙ sym (ap (λ r. filled_by r.answered (text_of (bytes_answer s bytes)) out) w))

-- ---- What a sheet ends with

last-by :
    (s : State) (out : List ℕ) {r : Answered} {after : List ℕ} → r ≡ last_answered s (length out)
    → after ≡ filled_by r (ended s.counters).text out
    → (r ≡ last_answered s (length out)) × (after ≡ last_filled s out)
unfolding last_filled
last-by s out e f = (e, f ∙ ap (λ r. filled_by r (ended s.counters).text out) e)

module _ (s : State) (out : List ℕ) where
  last-refused : is_valid s ≡ false → refused 0 Size ≡ last_answered s (length out)
  unfolding last_answered
  last-refused h = simp h

  pub last_invalid :
      is_valid s ≡ false → (refused 0 Size ≡ last_answered s (length out)) × (out ≡ last_filled s out)
  last_invalid h = last-by s out (last-refused h) (refl)

  module _ (valid : is_valid s ≡ true) where
    last-wide : length out < length (ended s.counters).text → refused 0 Room ≡ last_answered s (length out)
    unfolding last_answered answered_by
    last-wide h = simp (valid, lt-ltb _ _ h)

    pub last_fits :
        length (ended s.counters).text ≤ length out
        → Ok (length (ended s.counters).text) ≡ last_answered s (length out)
    unfolding last_answered answered_by
    last_fits h = simp (valid, le-ltb _ _ h)

    module _
        {aside kept : List ℕ} {registers slots count : ℕ}
        (most : registers ≡ max_reg_allocated s.counters) (variables : slots ≡ num_perm_vars s.counters)
        (scratch : length aside ≡ longest) (put : Put aside 0 (end_text registers slots) count kept) where
      text : end_text registers slots ≡ (ended s.counters).text
      text = ap₂ end_text most variables

      room : length (end_text registers slots) ≤ length aside
      room = omega (arith, scratch, end_short registers slots)

      length-is : count ≡ length (ended s.counters).text
      length-is = counted room put ∙ ap length text

      pub last_longer :
          length out < count → (refused 0 Room ≡ last_answered s (length out)) × (out ≡ last_filled s out)
      last_longer h = last-by s out (last-wide (omega (arith, length-is))) refl

      pub last_written :
          {copy after : List ℕ} {next : ℕ} → count ≤ length out → copy ≡ take count kept → Put out 0 copy next after
          → (Ok count ≡ last_answered s (length out)) × (after ≡ last_filled s out)
      last_written h taken copy =
          last-by s out
          (ap Ok length-is ∙ last_fits (omega (arith, length-is)))
          (copied room put h taken copy
          ∙ ap₂ (λ (k : ℕ) t. t ++ drop k out) (sym (counted room put)) text)
