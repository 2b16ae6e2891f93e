-- Laws of a run: a line, what stands between two lines, and the end.
use Rattle.std.specs.Prelude.{ℕ, suc, ◌+◌, ◌≤◌, ◌<◌, ◌≡◌, refl, true, false, Option, List, [], ◌∷◌, ◌++◌, take, drop, Some, None}
use Rattle.std.proofs.Math.Path.{ap, sym}
use Rattle.std.proofs.Common.{ap₂, ◌∙◌, add-one, add-zero, zero-add, arith, length-append, take-append-drop, take_all, lt-ltb, le-ltb}
use Rattle.std.proofs.Math.ListN.{length}
use Rattle.refusals.specs.declared.Refusal.{Refusal}
use Rattle.refusals.specs.Refusals.{accepted, refused_form, refused_full, is_refused}
use Rattle.sizes.specs.Sizes.{sheet_bytes}
use Rattle.split.specs.Split.{line_feed, before, after, split}
use Rattle.split.specs.SplitLaws.{split_more, split-some, split-last, take-before, drop-before, after-length}
use Rattle.printing.specs.Printing.{printed, place_after, Put}
use Rattle.printing.specs.PrintingLaws.{put_then, put-length}
use Rattle.allocator_state.specs.declared.Counters.{Counters}
use Rattle.events.specs.declared.Event.{Event}
use Rattle.event_lines.specs.LineForms.{Line, saying}
use Rattle.event_lines.specs.EventLines.{line_says, line_list}
use Rattle.event_lines.specs.EventLinesLaws.{list_le, list_read}
use Rattle.debray_allocator.specs.declared.State.{State}
use Rattle.debray_allocator.specs.declared.Acted.{Acted}
use Rattle.debray_allocator.specs.declared.Answer.{Answer}
use Rattle.debray_allocator.specs.State.{fresh_state}
use Rattle.debray_allocator.specs.DebrayAllocator.{by_refusal, with_counters, refused_with, acted}
use Rattle.debray_allocator.specs.DebrayAllocatorLaws.{stepped-refused, stepped-accepted}
use Rattle.answers.specs.declared.Adding.{Adding}
use Rattle.answers.specs.Adding.{Added}
use Rattle.answers.specs.Answers.{text_of, end_text}
use Rattle.answers.specs.AnswersLaws.{text_short}
use Rattle.event_sheets.specs.declared.Run.{Run}
use Rattle.event_sheets.specs.EventSheets.{Ran, refused_at, behind, max_reg_allocated, num_perm_vars, ended, said_answer, line_answer, last_ran, line_ran, ran, sheet_ran}
use Rattle.event_sheets.specs.Running.{said_acted, line_acted, whole_ran, told, told_behind, Going}

-- ---- A line

module _ (s : State) (line : List ℕ) where
  pub line-malformed :
      {said : Line} {a : Acted}
      → said ≡ line_says line
      → said ≡ None
      → a ≡ by_refusal s.counters refused_form
      → with_counters s a ≡ line_acted s line
  unfolding line_acted
  line-malformed e m refused = ap (with_counters s) refused ∙ sym (ap (λ l. said_acted s l (line_list line)) (sym e ∙ m))

  -- a line is carried out with the entries that were read
  pub line_said :
      (list : List ℕ) {said : Line} {event : Event} {count : ℕ} {read entries : List ℕ} {b : Answer}
      → said ≡ line_says line
      → said ≡ saying event count
      → read ≡ printed list 0 (line_list line)
      → entries ≡ take count read
      → length line ≤ length list
      → b ≡ acted s event entries
      → b ≡ line_acted s line
  unfolding line_acted
  line_said list {event = event} {count = count} e m read taken room made =
      let cells : length (line_list line) ≤ length list = omega (arith, list_le line) in
      let entries = taken ∙ ap (take count) read ∙ (list_read line list event count cells (sym e ∙ m)).0 in
      made ∙ ap (acted s event) entries ∙ sym (ap (λ l. said_acted s l (line_list line)) (sym e ∙ m))

-- how far a line got decides whether it is refused or answered
refused_said :
    (s : State) (said : Line) (list : List ℕ) (b : Answer) → b ≡ said_acted s said list → is_refused b.refusal ≡ true
    → said_answer s said list ≡ refused_with s b.refusal
unfolding refused_with
refused_said s None list b e h = ap (refused_with s) (sym (ap (λ a. a.refusal) e))
refused_said s (Some said) list b e h = sym (stepped-refused s said.event list b e h)

accepted_said :
    (s : State) (said : Line) (list : List ℕ) (b : Answer) → b ≡ said_acted s said list → is_refused b.refusal ≡ false
    → b ≡ said_answer s said list
accepted_said s None list b e h = absurd (let never : true ≡ false = sym (ap (λ a. is_refused a.refusal) e) ∙ h in cc)
accepted_said s (Some said) list b e h = stepped-accepted s said.event list b e h

line_refused :
    (s : State) (line : List ℕ) (b : Answer) → b ≡ line_acted s line → is_refused b.refusal ≡ true
    → line_answer s line ≡ refused_with s b.refusal
unfolding line_answer line_acted
line_refused s line b e h = refused_said s (line_says line) (line_list line) b e h

line-accepted :
    (s : State) (line : List ℕ) (b : Answer) → b ≡ line_acted s line → is_refused b.refusal ≡ false → b ≡ line_answer s line
unfolding line_answer line_acted
line-accepted s line b e h = accepted_said s (line_says line) (line_list line) b e h

-- ---- The lines one after the other

module _ (number : ℕ) (others : State → Ran) where
  pub ran-refused : (a : Answer) → is_refused a.refusal ≡ true → line_ran number a others ≡ refused_at number a.refusal
  unfolding line_ran
  ran-refused a h = simp h

  pub ran-accepted :
      (a : Answer) → is_refused a.refusal ≡ false
      → line_ran number a others ≡ behind (text_of a) (others a.state)
  unfolding line_ran
  ran-accepted a h = simp h

refused_refusal : (s : State) (refusal : Option Refusal) → (refused_with s refusal).refusal ≡ refusal
unfolding refused_with
refused_refusal s refusal = refl

ran-next :
    (s : State) (number : ℕ) (line : List ℕ) (parts : List (List ℕ)) (next : List ℕ) (others : List (List ℕ))
    → parts ≡ next ∷ others
    → ran s number (line ∷ parts) ≡ line_ran number (line_answer s line) (λ after. ran after (suc number) parts)
unfolding ran
ran-next s number line parts next others e = rw e refl

module _ (s : State) (number : ℕ) (rest : List ℕ) where
  -- where a line feed is left, the line before it comes first
  ran_more :
      length (before line_feed rest) < length rest
      → ran s number (split line_feed rest)
      ≡ line_ran number (line_answer s (before line_feed rest)) (λ next. ran next (suc number) (split line_feed (after line_feed rest)))
  ran_more h =
      ap (ran s number) (split_more line_feed rest h)
      ∙ ran-next s number (before line_feed rest) (split line_feed (after line_feed rest)) _ _ (split-some line_feed (after line_feed rest))

  ran-last : length rest ≤ length (before line_feed rest) → ran s number (split line_feed rest) ≡ last_ran s.counters number rest
  unfolding ran
  ran-last h = ap (ran s number) (split-last line_feed rest h)

  -- a line that is refused, and one that is answered
  module _ (b : Answer) (h : length (before line_feed rest) < length rest) (e : b ≡ line_acted s (before line_feed rest)) where
    ran_bad : is_refused b.refusal ≡ true → ran s number (split line_feed rest) ≡ refused_at number b.refusal
    ran_bad bad =
        let a = line_refused s (before line_feed rest) b e bad in
        let r : (line_answer s (before line_feed rest)).refusal ≡ b.refusal = ap (λ a. a.refusal) a ∙ refused_refusal s b.refusal in
        ran_more h
        ∙ ran-refused number _ (line_answer s (before line_feed rest)) (ap is_refused r ∙ bad)
        ∙ ap (refused_at number) r

    ran_good :
        is_refused b.refusal ≡ false
        → ran s number (split line_feed rest)
        ≡ behind (text_of b) (ran b.state (suc number) (split line_feed (after line_feed rest)))
    ran_good good =
        ran_more h
        ∙ ap (λ a. line_ran number a (λ next. ran next (suc number) (split line_feed (after line_feed rest)))) (sym (line-accepted s (before line_feed rest) b e good))
        ∙ ran-accepted number _ b good

-- ---- What stands behind the last line feed

last-refused : (c : Counters) (number : ℕ) (left : List ℕ) → 0 < length left → last_ran c number left ≡ refused_at number refused_form
unfolding last_ran
last-refused c number left h = simp (lt-ltb _ _ h)

last-ended : (c : Counters) (number : ℕ) (left : List ℕ) → length left ≤ 0 → last_ran c number left ≡ ended c
unfolding last_ran
last-ended c number left h = simp (le-ltb _ _ h)

-- ---- Texts behind one another

printed-nothing : (out : List ℕ) (at : ℕ) → printed out at [] ≡ out
unfolding printed
printed-nothing out at = rw (add-zero at, take-append-drop at out) (take_all (length out) out (omega arith))

printed-next :
    {out : List ℕ} {at : ℕ} {x : List ℕ} {next : ℕ} {after : List ℕ} (y : List ℕ)
    → Put out at x next after → printed after next y ≡ printed out at (x ++ y)
printed-next {next = next} {after = after} y p =
    let q : Put after next y (place_after (length after) next y) (printed after next y) = record { place = refl; bytes = refl } in
    (put_then p q).bytes

told_behind_lem :
    (count k : ℕ) (text : List ℕ) (r : Ran) → k ≡ length text → told_behind (count + k) r ≡ told_behind count (behind text r)
told_behind_lem count k text r e =
    let n : count + k + length r.text ≡ count + length (text ++ r.text) = omega (arith, length-append text r.text) in
    ap (λ (n : ℕ). record { line = r.line; refusal = r.refusal; length = n }) n

-- ---- The last part, as the code answers it

module _ (c : Counters) (number count at : ℕ) (out left : List ℕ) where
  pub told-refused :
      0 < length left
      → (record { line = number; refusal = refused_form; length = count } ≡ told_behind count (last_ran c number left))
      × (out ≡ printed out at (last_ran c number left).text)
  told-refused h =
      let w = last-refused c number left h in (
        ap (λ (n : ℕ). record { line = number; refusal = refused_form; length = n }) (sym (add-zero count))
            ∙ ap (told_behind count) (sym w),
        sym (printed-nothing out at) ∙ ap (λ r. printed out at r.text) (sym w),
      )

  pub told-ended :
      {scratch scratch_after out_after : List ℕ} {adding : Adding} {registers slots : ℕ}
      → length left ≤ 0
      → registers ≡ max_reg_allocated c
      → slots ≡ num_perm_vars c
      → Added scratch out at (end_text registers slots) adding scratch_after out_after
      → (record { line = 0; refusal = accepted; length = count + adding.length } ≡ told_behind count (last_ran c number left))
      × (out_after ≡ printed out at (last_ran c number left).text)
  told-ended {adding = adding} h registers slots added =
      let w = last-ended c number left h in
      let text = ap₂ end_text registers slots in (
        ap (λ (n : ℕ). record { line = 0; refusal = accepted; length = count + n }) (added.counted ∙ ap length text)
            ∙ ap (told_behind count) (sym w),
        added.put.bytes ∙ ap (printed out at) text ∙ ap (λ r. printed out at r.text) (sym w),
      )

-- ---- A sheet of any length

module _ (sheet : List ℕ) where
  pub whole_full : sheet_bytes < length sheet → whole_ran sheet ≡ refused_at 0 refused_full
  unfolding whole_ran
  whole_full h = simp (lt-ltb _ _ h)

  pub whole_within : length sheet ≤ sheet_bytes → whole_ran sheet ≡ sheet_ran sheet
  unfolding whole_ran
  whole_within h = simp (le-ltb _ _ h)

  module _ (out : List ℕ) (at : ℕ) where
    -- one that is too long leaves the lent bytes as they are
    pub run_full :
        sheet_bytes < length sheet
        → (record { line = 0; refusal = refused_full; length = 0 } ≡ told (whole_ran sheet))
        × (out ≡ printed out at (whole_ran sheet).text)
    run_full h =
        let w = sym (whole_full h) in
        (ap told w, sym (printed-nothing out at) ∙ ap (λ r. printed out at r.text) w)

    pub run_within :
        {run : Run} {after : List ℕ} → length sheet ≤ sheet_bytes → run ≡ told (sheet_ran sheet)
        → after ≡ printed out at (sheet_ran sheet).text
        → (run ≡ told (whole_ran sheet)) × (after ≡ printed out at (whole_ran sheet).text)
    run_within h tells prints =
        let w = sym (whole_within h) in
        (tells ∙ ap told w, prints ∙ ap (λ r. printed out at r.text) w)

-- ---- Between two lines

pub going-first :
    (sheet out : List ℕ) (from : ℕ) {s : State} {end : ℕ} → s ≡ fresh_state → end ≡ length (before line_feed sheet)
    → Going sheet out from s sheet end 1 0 from out
unfolding sheet_ran
going-first sheet out from fresh e =
    record {
      tells = rw zero-add (ap (λ s. told (ran s 1 (split line_feed sheet))) fresh);
      prints = ap (λ s. printed out from (ran s 1 (split line_feed sheet)).text) fresh;
      room = refl;
      ends = e;
      lines = omega arith;
      short = omega arith;
    }

module _
    {sheet empty : List ℕ} {from : ℕ} {s : State} {rest : List ℕ} {end number count at : ℕ} {out : List ℕ}
    (g : Going sheet empty from s rest end number count at out) where
  pub going-last :
      {r : Run} {after : List ℕ} → length rest ≤ end
      → r ≡ told_behind count (last_ran s.counters number rest)
      → after ≡ printed out at (last_ran s.counters number rest).text
      → (r ≡ told (sheet_ran sheet)) × (after ≡ printed empty from (sheet_ran sheet).text)
  going-last h tells prints =
      let w = ran-last s number rest (omega (arith, g.ends)) in (
        tells ∙ ap (told_behind count) (sym w) ∙ g.tells,
        prints ∙ ap (λ r. printed out at r.text) (sym w) ∙ g.prints,
      )

  module _
      {line : List ℕ} {b : Answer}
      (h : end < length rest) (taken : line ≡ take end rest) (e : b ≡ line_acted s line) where
    found : length (before line_feed rest) < length rest
    found = omega (arith, g.ends)

    made : b ≡ line_acted s (before line_feed rest)
    made = e ∙ ap (line_acted s) (taken ∙ ap (λ (k : ℕ). take k rest) g.ends ∙ take-before line_feed rest)

    pub going-refused :
        is_refused b.refusal ≡ true
        → (record { line = number; refusal = b.refusal; length = count } ≡ told (sheet_ran sheet))
        × (out ≡ printed empty from (sheet_ran sheet).text)
    going-refused bad =
        let w = ran_bad s number rest b found made bad in (
          ap (λ (n : ℕ). record { line = number; refusal = b.refusal; length = n }) (sym (add-zero count))
              ∙ ap (told_behind count) (sym w)
              ∙ g.tells,
          sym (printed-nothing out at) ∙ ap (λ r. printed out at r.text) (sym w) ∙ g.prints,
        )

    pub going_on_lem :
        {scratch next scratch_after out_after : List ℕ} {adding : Adding} {last : ℕ}
        → is_refused b.refusal ≡ false
        → Added scratch out at (text_of b) adding scratch_after out_after
        → next ≡ drop (end + 1) rest
        → last ≡ length (before line_feed next)
        → Going sheet empty from b.state next last (number + 1) (count + adding.length) adding.place out_after
    going_on_lem {next = next} {out_after = out_after} {adding = adding} good added dropped last =
        let n : next ≡ after line_feed rest = dropped ∙ ap (λ (k : ℕ). drop (k + 1) rest) g.ends ∙ drop-before line_feed rest in
        let w = ran_good s number rest b found made good in
        let text = text_of b in
        let later = ran b.state (suc number) (split line_feed (after line_feed rest)) in
        let same : ran b.state (number + 1) (split line_feed next) ≡ later = ap₂ (λ k l. ran b.state k (split line_feed l)) (add-one number) n in
        record {
          tells =
              ap (told_behind (count + adding.length)) same
              ∙ told_behind_lem count adding.length text later added.counted
              ∙ ap (told_behind count) (sym w)
              ∙ g.tells;
          prints =
              ap (λ r. printed out_after adding.place r.text) same
              ∙ printed-next later.text added.put
              ∙ ap (λ r. printed out at r.text) (sym w)
              ∙ g.prints;
          room = put-length added.put ∙ g.room;
          ends = last;
          lines = omega (arith, ap length n, after-length line_feed rest found, g.lines);
          short = omega (arith, added.counted, text_short b, g.short);
        }
