-- Laws of a run over a bundle: what refuses it before, where a clause ends, a clause, and what stands between two of them.
use Rattle.std.specs.Prelude.{ℕ, zero, suc, ◌+◌, ◌-◌, ◌*◌, ◌≤◌, ◌<◌, ◌≡◌, not, get_or, drop, Some, None}
use Rattle.std.proofs.Math.Path.{refl, ap, ap₂, sym, subst}
use Rattle.std.proofs.Common.{◌∙◌, zero-add, arith, take_all, take_at, drop_at}
use Rattle.std.proofs.Math.Bool.{true, false}
use mathlib.Core.List.{List, [], ◌∷◌, ◌++◌, append-nil}
use Rattle.std.proofs.Math.Dec.{ltb}
use Rattle.std.proofs.Math.ListN.{length, take, length-append, length-take}
use borrow.Author.Tests.{lt-ltb, le-ltb, eq-eqb, ne_eqb, ltb-true, ltb-false}
use Rattle.std.specs.Prelude.{if◌then◌else◌}
use Rattle.notation.specs.Text.{bytes}
use Rattle.notation.specs.ChoiceLaws.{both_true}
use Rattle.refusals.specs.declared.Refusal.{Refusal}
use Rattle.refusals.specs.Refusals.{number_of as refusal_number, accepted, refused_form, refused_order, refused_full, is_refused}
use Rattle.sizes.specs.Sizes.{sheet_bytes}
use Rattle.split.specs.Split.{tab, line_feed, before, after, joined}
use Rattle.split.specs.SplitLaws.{take-before, drop-before, after-length}
use Rattle.split.specs.SplitTrips.{free, all_free}
use Rattle.words.specs.Words.{same}
use Rattle.numbers.specs.Numbers.{decimal}
use Rattle.printing.specs.Printing.{printed}
use Rattle.instructions.specs.Instructions as instructions
use Rattle.answers.specs.AnswersLaws.{longest, decimal-length}
use Rattle.answered.specs.Answered.{refusal_text}
use Rattle.event_sheets.specs.declared.Run.{Run}
use Rattle.event_sheets.specs.EventSheets.{refused_at, sheet_ran}
use Rattle.event_sheets.specs.EventSheetsLaws.{sheet-line, sheet_short}
use Rattle.event_sheets.specs.Running.{whole_ran, told}
use Rattle.event_sheets.specs.RunningLaws.{whole_within}
use Rattle.bundles.specs.Bundles.{
  lines_of,
  clause_word,
  is_clause,
  until_clause,
  clauses,
  sheet_of,
  told_or,
  ran_text,
  clause_text,
  clause_texts,
  is_unended,
  is_stray,
  is_more,
  has_more,
  all_ran,
  bundle_ran,
}
use Rattle.bundles.specs.LinesLaws.{lines_more, lines_last, whole_lines, lines_free, lines_sheet, before-line, after_line, sheet_append, from_clause, until_from, free-from, clauses-from, more_from, stray_from, stray_none}
use Rattle.bundles.specs.Running.{refusal_before, clauses_ran, Fronts, Seeking, Going}
use Rattle.bundles.specs.FrontLaws.{fronts_printed, fronts_over, fronts_then}

-- ---- Before the clauses

module _ (bundle : List ℕ) where
  pub before_full : sheet_bytes < length bundle → refused_full ≡ refusal_before bundle
  unfolding refusal_before
  before_full h = simp (lt-ltb _ _ h)

  module _ (short : length bundle ≤ sheet_bytes) where
    pub before_unended : is_unended bundle ≡ true → refused_form ≡ refusal_before bundle
    unfolding refusal_before
    before_unended e = simp (le-ltb _ _ short, e)

    module _ (ended : is_unended bundle ≡ false) where
      pub before_stray : is_stray (lines_of bundle) ≡ true → refused_order ≡ refusal_before bundle
      unfolding refusal_before
      before_stray e = simp (le-ltb _ _ short, ended, e)

      pub before-none : is_stray (lines_of bundle) ≡ false → accepted ≡ refusal_before bundle
      unfolding refusal_before
      before-none e = simp (le-ltb _ _ short, ended, e)

-- the last byte decides, where there is one
get_d_any : (l : List ℕ) (i d e : ℕ) → i < length l → get_or l i d ≡ get_or l i e
get_d_any [] i d e h = absurd (omega arith)
get_d_any (c ∷ cs) zero d e h = refl
get_d_any (c ∷ cs) (suc i) d e h = get_d_any cs i d e (omega arith)

module _ (bundle : List ℕ) (some : 0 < length bundle) where
  last_byte : get_or bundle (length bundle - 1) line_feed ≡ get_or bundle (length bundle - 1) 0
  last_byte = get_d_any bundle (length bundle - 1) line_feed 0 (omega arith)

  pub unended_last : (get_or bundle (length bundle - 1) 0 ≡ line_feed → ⊥) → is_unended bundle ≡ true
  unfolding is_unended
  unended_last h = simp (last_byte, ne_eqb _ _ h)

  pub ended-last : get_or bundle (length bundle - 1) 0 ≡ line_feed → is_unended bundle ≡ false
  unfolding is_unended
  ended-last h = simp (last_byte, eq-eqb _ _ h)

pub ended-empty : (bundle : List ℕ) → length bundle ≤ 0 → is_unended bundle ≡ false
unfolding is_unended
ended-empty [] h = refl
ended-empty (c ∷ cs) h = absurd (omega arith)

-- an LF is found where the last byte is one
ended_found : (bundle : List ℕ) → is_unended bundle ≡ false → 0 < length bundle → length (before line_feed bundle) < length bundle
unfolding sheet_of
ended_found bundle ended some =
    elim (ltb (length (before line_feed bundle)) (length bundle)) as
    (λ t. ltb (length (before line_feed bundle)) (length bundle) ≡ t → length (before line_feed bundle) < length bundle) [
      | true ↦ λ e. ltb-true _ _ e
      | false ↦ λ e. (let none = lines_last bundle (ltb-false _ _ e) in
          absurd (omega (arith, ap length (sym (whole_lines bundle ended) ∙ ap sheet_of none))))
    ]
    refl

-- whether the first line is a clause's
pub stray_first : (line : List ℕ) (lines : List (List ℕ)) → is_stray (line ∷ lines) ≡ not (is_clause line)
unfolding is_stray until_clause
stray_first line lines =
    elim (is_clause line) as (λ t. ltb 0 (length (if t then [] else line ∷ until_clause lines)) ≡ not t)
    [ true ↦ refl | false ↦ lt-ltb 0 (suc (length (until_clause lines))) (omega arith) ]

stray_bundle :
    (bundle : List ℕ) → is_unended bundle ≡ false → 0 < length bundle
    → is_stray (lines_of bundle) ≡ not (is_clause (before line_feed bundle))
stray_bundle bundle ended some =
    ap is_stray (lines_more bundle (ended_found bundle ended some)) ∙ stray_first (before line_feed bundle) (lines_of (after line_feed bundle))

pub stray_clause :
    (bundle : List ℕ) → is_unended bundle ≡ false → 0 < length bundle → {end : ℕ} {line : List ℕ} → end ≡ length (before line_feed bundle)
    → line ≡ take end bundle
    → is_stray (lines_of bundle) ≡ not (is_clause line)
stray_clause bundle ended some ends taken =
    stray_bundle bundle ended some
    ∙ ap (λ l. not (is_clause l)) (sym (taken ∙ ap (λ (n : ℕ). take n bundle) ends ∙ take-before line_feed bundle))

pub stray_empty : (bundle : List ℕ) → length bundle ≤ 0 → is_stray (lines_of bundle) ≡ false
unfolding is_stray until_clause
stray_empty bundle h = ap is_stray (lines_last bundle (omega arith))

-- ---- The whole bundle: before its clauses, or by them

module _ (bundle : List ℕ) where
  pub bundle-refused : is_refused (refusal_before bundle) ≡ true → bundle_ran bundle ≡ refused_at 0 (refusal_before bundle)
  unfolding bundle_ran refusal_before
  bundle-refused =
      elim (ltb sheet_bytes (length bundle)) as
      (λ t. is_refused (if t then refused_full else if is_unended bundle then refused_form else if is_stray (lines_of bundle) then refused_order else accepted) ≡ true
      → (if t then refused_at 0 refused_full else if is_unended bundle then refused_at 0 refused_form else if is_stray (lines_of bundle) then refused_at 0 refused_order else if has_more (lines_of bundle) then refused_at 0 refused_form else all_ran (clause_texts (clauses (lines_of bundle))))
      ≡ refused_at 0 (if t then refused_full else if is_unended bundle then refused_form else if is_stray (lines_of bundle) then refused_order else accepted)) [
        | true ↦ λ h. refl
        | false ↦ elim (is_unended bundle) as
            (λ t. is_refused (if t then refused_form else if is_stray (lines_of bundle) then refused_order else accepted) ≡ true
            → (if t then refused_at 0 refused_form else if is_stray (lines_of bundle) then refused_at 0 refused_order else if has_more (lines_of bundle) then refused_at 0 refused_form else all_ran (clause_texts (clauses (lines_of bundle))))
            ≡ refused_at 0 (if t then refused_form else if is_stray (lines_of bundle) then refused_order else accepted)) [
              | true ↦ λ h. refl
              | false ↦ elim (is_stray (lines_of bundle)) as
                  (λ t. is_refused (if t then refused_order else accepted) ≡ true
                  → (if t then refused_at 0 refused_order else if has_more (lines_of bundle) then refused_at 0 refused_form else all_ran (clause_texts (clauses (lines_of bundle))))
                  ≡ refused_at 0 (if t then refused_order else accepted))
                  [ true ↦ λ h. refl | false ↦ λ h. cc ]
            ]
      ]

  -- what is known where nothing refuses it before
  pub record Begins : Type 0 where
    pub short : length bundle ≤ sheet_bytes
    pub ended : is_unended bundle ≡ false
    pub begun : is_stray (lines_of bundle) ≡ false

  pub bundle-begins : refusal_before bundle ≡ accepted → Begins
  unfolding refusal_before
  bundle-begins =
      elim (ltb sheet_bytes (length bundle)) as
      (λ t. ltb sheet_bytes (length bundle) ≡ t
      → (if t then refused_full else if is_unended bundle then refused_form else if is_stray (lines_of bundle) then refused_order else accepted) ≡ accepted
      → Begins) [
        | true ↦ λ e h. cc
        | false ↦ λ e. elim (is_unended bundle) as
            (λ t. is_unended bundle ≡ t → (if t then refused_form else if is_stray (lines_of bundle) then refused_order else accepted) ≡ accepted → Begins) [
              | true ↦ λ u h. cc
              | false ↦ λ u. elim (is_stray (lines_of bundle)) as
                  (λ t. is_stray (lines_of bundle) ≡ t → (if t then refused_order else accepted) ≡ accepted → Begins) [
                    | true ↦ λ b h. cc
                    | false ↦ λ b h. record { short = ltb-false _ _ e; ended = u; begun = b }
                  ]
                  refl
            ]
            refl
      ]
      refl

  pub bundle-run : Begins → bundle_ran bundle ≡ clauses_ran (lines_of bundle)
  unfolding bundle_ran clauses_ran
  bundle-run b = simp (le-ltb _ _ b.short, b.ended, b.begun)

-- ---- Where a clause ends

module _ (s : List ℕ) where
  until_clause_lem :
      length (before line_feed s) < length s → is_clause (before line_feed s) ≡ true
      → length (sheet_of (until_clause (lines_of s))) ≡ 0
  unfolding until_clause sheet_of
  until_clause_lem h e = ap (λ ls. length (sheet_of (until_clause ls))) (lines_more s h) ∙ simp e

  until_line :
      length (before line_feed s) < length s → is_clause (before line_feed s) ≡ false
      → length (sheet_of (until_clause (lines_of s)))
      ≡ length (before line_feed s) + 1 + length (sheet_of (until_clause (lines_of (after line_feed s))))
  unfolding until_clause sheet_of
  until_line h e =
      ap (λ ls. length (sheet_of (until_clause ls))) (lines_more s h)
      ∙ simp e
      (omega (arith, length-append (before line_feed s) (line_feed ∷ sheet_of (until_clause (lines_of (after line_feed s))))))

  until_last : length s ≤ length (before line_feed s) → length (sheet_of (until_clause (lines_of s))) ≡ 0
  unfolding until_clause sheet_of
  until_last h = ap (λ ls. length (sheet_of (until_clause ls))) (lines_last s h)

pub seeking_first : (rest : List ℕ) {end : ℕ} → end ≡ length (before line_feed rest) → Seeking rest rest 0 end
seeking_first rest e = record { counts = omega arith; ends = e; within = omega arith }

module _ {rest left : List ℕ} {bytes end : ℕ} (k : Seeking rest left bytes end) where
  pub seeking_last : length left ≤ end → bytes ≡ length (sheet_of (until_clause (lines_of rest)))
  seeking_last h = omega (arith, until_last left (omega (arith, k.ends)), k.counts)

  module _ {line : List ℕ} (h : end < length left) (taken : line ≡ take end left) where
    found : length (before line_feed left) < length left
    found = omega (arith, k.ends)

    is-line : line ≡ before line_feed left
    is-line = taken ∙ ap (λ (n : ℕ). take n left) k.ends ∙ take-before line_feed left

    pub seeking_found : is_clause line ≡ true → bytes ≡ length (sheet_of (until_clause (lines_of rest)))
    seeking_found e = omega (arith, until_clause_lem left found (ap is_clause (sym is-line) ∙ e), k.counts)

    pub seeking_on :
        {next : List ℕ} {last : ℕ} → is_clause line ≡ false → next ≡ drop (end + 1) left → last ≡ length (before line_feed next)
        → Seeking rest next (bytes + (end + 1)) last
    seeking_on {next} e dropped last =
        let n : next ≡ after line_feed left = dropped ∙ ap (λ (j : ℕ). drop (j + 1) left) k.ends ∙ drop-before line_feed left in
        record {
          counts = omega (arith, until_line left found (ap is_clause (sym is-line) ∙ e), ap (λ l. length (sheet_of (until_clause (lines_of l)))) n, k.counts, k.ends);
          ends = last;
          within = omega (arith, ap length n, after-length line_feed left found, k.within, k.ends);
        }

-- ---- What a clause prints

-- the line of a refusal has at most so many bytes: as many as the code keeps for it
abbrev pub refusal_bytes : ℕ
refusal_bytes = 32

pub refusal_short : (number refusal : ℕ) → length (refusal_text number refusal) ≤ refusal_bytes
unfolding refusal_text instructions.line joined
refusal_short number refusal =
    omega (
      arith,
      length-append (bytes "no" ++ (tab ∷ (decimal number ++ (tab ∷ decimal refusal)))) (line_feed ∷ []),
      length-append (decimal number) (tab ∷ decimal refusal),
      decimal-length number,
      decimal-length refusal,
    )

module _ (sheet : List ℕ) where
  text-refused : {refusal : Refusal} → (sheet_ran sheet).refusal ≡ Some refusal → ran_text (sheet_ran sheet) ≡ refusal_text (sheet_ran sheet).line (refusal_number refusal)
  unfolding ran_text
  text-refused h = simp h

  text-accepted : (sheet_ran sheet).refusal ≡ accepted → ran_text (sheet_ran sheet) ≡ (sheet_ran sheet).text
  unfolding ran_text
  text-accepted h = simp h

  -- it is no longer than the longest that its lines can
  pub clause_short : length (ran_text (sheet_ran sheet)) ≤ longest * (length sheet + 1)
  unfolding ran_text
  clause_short =
      elim (sheet_ran sheet).refusal as (λ r. length (told_or (sheet_ran sheet).line r (sheet_ran sheet).text) ≤ longest * (length sheet + 1))
      [ Some refusal ↦ omega (arith, refusal_short (sheet_ran sheet).line (refusal_number refusal)) | None ↦ sheet_short sheet ]

  module _ (short : length sheet ≤ sheet_bytes) {run : Run} (e : run ≡ told (whole_ran sheet)) where
    is-told : run ≡ told (sheet_ran sheet)
    is-told = e ∙ ap told (whole_within sheet short)

    pub line_small : run.line ≤ sheet_bytes + 1
    line_small = omega (arith, ap (λ r. r.line) is-told, sheet-line sheet)

    module _ (out : List ℕ) (at : ℕ) where
      pub clause_refused :
          {n : ℕ} {refusal : Refusal} {between after : List ℕ} → run.refusal ≡ Some refusal → between ≡ printed out at (whole_ran sheet).text
          → n ≡ length (refusal_text run.line (refusal_number refusal))
          → after ≡ printed between at (refusal_text run.line (refusal_number refusal))
          → (n ≡ length (ran_text (sheet_ran sheet))) × Fronts out at (ran_text (sheet_ran sheet)) after
      clause_refused {refusal = refusal} bad first counted put =
          let text = ap (λ line. refusal_text line (refusal_number refusal)) (ap (λ r. r.line) is-told) ∙ sym (text-refused (sym (ap (λ r. r.refusal) is-told) ∙ bad)) in
          (counted ∙ ap length text, fronts_over out at _ _ first (put ∙ ap (printed _ at) text))

      pub clause_printed :
          {after : List ℕ} → run.refusal ≡ accepted → after ≡ printed out at (whole_ran sheet).text
          → (run.length ≡ length (ran_text (sheet_ran sheet))) × Fronts out at (ran_text (sheet_ran sheet)) after
      clause_printed good put =
          let text = text-accepted (sym (ap (λ r. r.refusal) is-told) ∙ good) in (
            ap (λ r. r.length) is-told ∙ ap length (sym text),
            fronts_printed out at _ (put ∙ ap (λ r. printed out at r.text) (whole_within sheet short) ∙ ap (printed out at) (sym text)),
          )

-- ---- Between two clauses

-- what is left begins with a clause's line
record Begun (rest : List ℕ) (lines : List (List ℕ)) : Type 0 where
  line : List ℕ
  others : List (List ℕ)
  is : lines ≡ line ∷ others
  first : before line_feed rest ≡ line
  next : after line_feed rest ≡ sheet_of others
  size : length rest ≡ length line + 1 + length (sheet_of others)
  free : all_free line_feed others ≡ true
  clause : is_clause line ≡ true

begun :
    (rest : List ℕ) (lines : List (List ℕ)) → rest ≡ sheet_of lines → all_free line_feed lines ≡ true → is_stray lines ≡ false
    → 0 < length rest → Begun rest lines
unfolding sheet_of all_free
begun rest [] left line_free begins some = absurd (omega (arith, ap length left))
begun rest (line ∷ others) left line_free begins some =
    let b = both_true (free line_feed line) (all_free line_feed others) line_free in
    record {
      line = line;
      others = others;
      is = refl;
      first = ap (before line_feed) left ∙ before-line line (sheet_of others) b.0;
      next = ap (after line_feed) left ∙ after_line line (sheet_of others) b.0;
      size = ap length left ∙ omega (arith, length-append line (line_feed ∷ sheet_of others));
      free = b.1;
      clause = stray_none line others begins;
    }

module _ (line : List ℕ) (lines : List (List ℕ)) (e : is_clause line ≡ true) where
  clauses_clause : clauses (line ∷ lines) ≡ until_clause lines ∷ clauses lines
  unfolding clauses
  clauses_clause = simp e

  more_here : same line clause_word ≡ false → has_more (line ∷ lines) ≡ true
  unfolding has_more is_more
  more_here other = simp (e, other)

  more_later : same line clause_word ≡ true → has_more (line ∷ lines) ≡ has_more lines
  unfolding has_more is_more
  more_later only = simp (e, only)

pub texts-first : (lines : List (List ℕ)) (others : List (List (List ℕ))) → clause_texts (lines ∷ others) ≡ clause_text lines ++ clause_texts others
unfolding clause_texts
texts-first lines others = refl

pub going-first :
    (bundle out : List ℕ) → length bundle ≤ sheet_bytes → is_unended bundle ≡ false → is_stray (lines_of bundle) ≡ false
    → Going (lines_of bundle) out bundle 0 out
going-first bundle out short ended begins =
    record {
      lines = lines_of bundle;
      left = sym (whole_lines bundle ended);
      free = lines_free bundle;
      begins = begins;
      more = refl;
      counts = omega arith;
      prints = refl;
      room = refl;
      short = omega arith;
    }

module _ {whole : List (List ℕ)} {empty rest : List ℕ} {count : ℕ} {out : List ℕ} (g : Going whole empty rest count out) where
  ran-refused : has_more whole ≡ true → clauses_ran whole ≡ refused_at 0 refused_form
  unfolding clauses_ran
  ran-refused e = simp e

  ran_all : has_more whole ≡ false → clauses_ran whole ≡ all_ran (clause_texts (clauses whole))
  unfolding clauses_ran
  ran_all e = simp e

  module _ (some : 0 < length rest) where
    b : Begun rest g.lines
    b = begun rest g.lines g.left g.free g.begins some

    module _ {end : ℕ} {line : List ℕ} (ends : end ≡ length (before line_feed rest)) (taken : line ≡ take end rest) where
      its_line : line ≡ b.line
      its_line = taken ∙ ap (λ (n : ℕ). take n rest) ends ∙ take-before line_feed rest ∙ b.first

      -- a `clause` line with more fields
      pub going-refused :
          {out' : List ℕ} → same line clause_word ≡ false
          → (record { line = 0; refusal = refused_form; length = 0 } ≡ told (clauses_ran whole))
          × (refused_form ≡ accepted → Fronts empty 0 (clauses_ran whole).text out')
      going-refused other =
          let more = sym g.more ∙ ap has_more b.is ∙ more_here b.line b.others b.clause (ap (λ l. same l clause_word) (sym its_line) ∙ other) in
          (ap told (sym (ran-refused more)), λ h. cc)

      module _
          {behind lines next : List ℕ} {size : ℕ}
          (only : same line clause_word ≡ true)
          (dropped : behind ≡ drop (end + 1) rest)
          (sized : size ≡ length (sheet_of (until_clause (lines_of behind))))
          (cut : lines ≡ take size behind)
          (left : next ≡ drop size behind) where
        is-behind : behind ≡ sheet_of b.others
        is-behind = dropped ∙ ap (λ (n : ℕ). drop (n + 1) rest) ends ∙ drop-before line_feed rest ∙ b.next

        parted : behind ≡ sheet_of (until_clause b.others) ++ sheet_of (from_clause b.others)
        parted = is-behind ∙ ap sheet_of (sym (until_from b.others)) ∙ sheet_append (until_clause b.others) (from_clause b.others)

        is_size : length (sheet_of (until_clause b.others)) ≡ size
        is_size = sym (sized ∙ ap (λ ls. length (sheet_of (until_clause ls))) (ap lines_of is-behind ∙ lines_sheet b.others b.free))

        its_lines : lines ≡ sheet_of (until_clause b.others)
        its_lines = cut ∙ ap (take size) parted ∙ take_at (sheet_of (until_clause b.others)) (sheet_of (from_clause b.others)) size is_size

        is-next : next ≡ sheet_of (from_clause b.others)
        is-next = left ∙ ap (drop size) parted ∙ drop_at (sheet_of (until_clause b.others)) (sheet_of (from_clause b.others)) size is_size

        sizes : length rest ≡ length b.line + 1 + (length lines + length next)
        sizes =
            omega (arith, b.size, ap length is-behind, ap length parted, length-append (sheet_of (until_clause b.others)) (sheet_of (from_clause b.others)), ap length its_lines, ap length is-next)

        pub lines_short : length lines ≤ length rest
        lines_short = omega (arith, sizes)

        pub next_shorter : length next < length rest
        next_shorter = omega (arith, sizes)

        pub count_short : {n : ℕ} → n ≡ length (ran_text (sheet_ran lines)) → count + n + longest * length next ≤ longest * sheet_bytes
        count_short counted = omega (arith, counted, clause_short lines, sizes, g.short)

        texts : clause_texts (clauses g.lines) ≡ ran_text (sheet_ran lines) ++ clause_texts (clauses (from_clause b.others))
        unfolding clause_text
        texts =
            ap clause_texts (ap clauses b.is ∙ clauses_clause b.line b.others b.clause)
            ∙ texts-first (until_clause b.others) (clauses b.others)
            ∙ ap₂ (λ (l : List ℕ) ls. ran_text (sheet_ran l) ++ clause_texts ls) (sym its_lines) (sym (clauses-from b.others))

        pub going_on_lem :
            {n : ℕ} {after : List ℕ} → n ≡ length (ran_text (sheet_ran lines)) → Fronts out count (ran_text (sheet_ran lines)) after
            → Going whole empty next (count + n) after
        going_on_lem {n} {after} counted f =
            let text = ran_text (sheet_ran lines) in
            let later = clause_texts (clauses (from_clause b.others)) in
            record {
              lines = from_clause b.others;
              left = is-next;
              free = free-from line_feed b.others b.free;
              begins = stray_from b.others;
              more = more_from b.others
                  ∙ sym (more_later b.line b.others b.clause (ap (λ l. same l clause_word) (sym its_line) ∙ only))
                  ∙ ap has_more (sym b.is)
                  ∙ g.more;
              counts = omega (arith, counted, ap length texts, length-append text later, g.counts);
              prints = ap (λ (k : ℕ). take (length empty) (take (count + k) after ++ later)) counted
                  ∙ fronts_then empty out count text later _ g.room f (ap (λ (l : List ℕ). take (length empty) (take count out ++ l)) (sym texts) ∙ g.prints);
              room = f.room ∙ g.room;
              short = count_short counted;
            }

  -- nothing is left
  done : (lines : List (List ℕ)) → rest ≡ sheet_of lines → length rest ≤ 0 → lines ≡ []
  unfolding sheet_of
  done [] left h = refl
  done (line ∷ others) left h = absurd (omega (arith, ap length left, length-append line (line_feed ∷ sheet_of others)))

  pub going-last :
      length rest ≤ 0
      → (record { line = 0; refusal = accepted; length = count } ≡ told (clauses_ran whole))
      × (accepted ≡ accepted → Fronts empty 0 (clauses_ran whole).text out)
  unfolding has_more clauses clause_texts
  going-last h =
      let none = done g.lines g.left h in
      let text = clause_texts (clauses whole) in
      let all = ran_all (sym g.more ∙ ap has_more none) in
      let n : count ≡ length text = omega (arith, g.counts, ap (λ ls. length (clause_texts (clauses ls))) none) in
      let made : take (length empty) (take count out) ≡ take (length empty) text =
      ap (take (length empty)) (sym (append-nil (take count out)))
      ∙ ap (λ ls. take (length empty) (take count out ++ clause_texts (clauses ls))) (sym none)
      ∙ g.prints in
      let front : take (0 + length text) out ≡ take (length empty) text =
      ap (λ (k : ℕ). take k out) (zero-add (length text) ∙ sym n)
      ∙ sym (take_all (length empty) (take count out) (omega (arith, length-take count out, g.room)))
      ∙ made in (
        ap (λ (k : ℕ). record { line = 0; refusal = accepted; length = k }) n ∙ ap told (sym all),
        λ _. subst (λ r. Fronts empty 0 r.text out) (sym all) (record { front = front; room = g.room }),
      )
