-- Laws of a run: a line, what stands between two lines, and the end.
use Rattle.std.specs.Prelude.{ℕ, suc, ◌+◌, ◌-◌, ◌≤◌, ◌<◌, ◌≡◌, Bool, Option, List, [], ◌∷◌, length, drop, Ok, Some, None}
use Rattle.std.proofs.Math.Path.{refl, ap, ap₂}
use Rattle.std.proofs.Common.{sym, ◌∙◌, add-one, arith}
use Rattle.std.proofs.Math.Bool.{true, false}
use Rattle.std.proofs.Math.Dec.{ltb}
use Rattle.std.proofs.Math.ListN.{take}
use borrow.Author.Tests.{lt-ltb, le-ltb}
use Rattle.std.specs.Prelude.{if◌then◌else◌}
use Rattle.refusals.specs.declared.Refusal.{Refusal}
use Rattle.refusals.specs.declared.Refusal.TheVariants.{Form, Order as WrongOrder}
use Rattle.refusals.specs.Refusals.{accepted, refused_form, refused_order, is_refused}
use Rattle.sizes.specs.Sizes.{steps}
use Rattle.split.specs.Split.{line_feed, before, after, split}
use Rattle.split.specs.SplitLaws.{split_more, split-some, split-last, take-before, drop-before, after-length}
use Rattle.steps.specs.declared.CheckLine.{CheckLine}
use Rattle.steps.specs.declared.Order.{Order}
use Rattle.steps.specs.declared.Judged.{Judged}
use Rattle.steps.specs.Steps.{steps_of, is_uncalled, refusal_of}
use Rattle.steps.specs.Order.{fresh_order, judged, refusal_at_end}
use Rattle.steps.specs.OrderLaws.{steps-kept}
use Rattle.steps.specs.Sums.{Sums}
use Rattle.steps.proofs.SumsLaws.{sums_none, sums_refusal, sums_accepted, sums_end}
use Rattle.check_lines.specs.Behind.{Line}
use Rattle.check_lines.specs.CheckLines.{line_says}
use Rattle.symbolic.specs.declared.Symbols.{Symbols}
use Rattle.symbolic.specs.TablesLaws.{taken_few}
use Rattle.symbolic.specs.Symbolic.{fresh_symbols, carried, carried_all, Taking, taking, taken_as, taken}
use Rattle.verdict.specs.Verdict.{decided}
use Rattle.answered.specs.Answered.{refused}
use Rattle.check_sheets.specs.CheckSheets.{Reading, bad, reads, with_line, last_read, line_read, read_from, reading}
use Rattle.check_sheets.specs.Running.{Run, said_taken, line_taken, run_from, run_of, refused_or, last_run, Going}

-- ---- A line

pub line-malformed :
    (order : Order) (s : Symbols) (line : List ℕ) {said : Line} {t : Taking}
    → said ≡ line_says line → said ≡ None → t ≡ taking order s refused_form → t ≡ line_taken order s line
unfolding line_taken
line-malformed order s line e m told = told ∙ sym (ap (said_taken order s) (sym e ∙ m))

pub line_said :
    (order : Order) (s : Symbols) (line : List ℕ) {said : Line} {says : CheckLine} {t : Taking}
    → said ≡ line_says line → said ≡ Some says → t ≡ taken order s says → t ≡ line_taken order s line
unfolding line_taken
line_said order s line e m told = told ∙ sym (ap (said_taken order s) (sym e ∙ m))

-- a judged line is refused, or carried out
module _ (order : Order) (few : order.steps ≤ steps) (s : Symbols) (line : CheckLine) where
  as_refused : (j : Judged) → (taken_as s line j).refusal ≡ j.refusal
  unfolding taken_as
  as_refused j =
      elim j.refusal as
      (λ r. (if is_refused r then taking j.order s r else taking j.order (carried j.order.steps s line) accepted).refusal ≡ r)
      [ None ↦ refl | Some refusal ↦ refl ]

  taken_refusal : (taken order s line).refusal ≡ (judged order line).refusal
  taken_refusal = ap (λ t. t.refusal) (taken_few order s line few) ∙ as_refused (judged order line)

  as_accepted : (j : Judged) → j.refusal ≡ accepted → taken_as s line j ≡ taking j.order (carried j.order.steps s line) accepted
  unfolding taken_as
  as_accepted j good = simp good

  taken-accepted :
      (judged order line).refusal ≡ accepted
      → taken order s line ≡ taking (judged order line).order (carried (judged order line).order.steps s line) accepted
  taken-accepted good = taken_few order s line few ∙ as_accepted (judged order line) good

-- ---- The lines one after the other

-- a line read in front of others is carried out before them
in_front_lem :
    (order : Order) (s : Symbols) (line : CheckLine) (r : Reading)
    → run_from order s (with_line line r) ≡ run_from (judged order line).order (carried (judged order line).order.steps s line) r
unfolding carried_all
in_front_lem order s line (bad number refusal) = refl
in_front_lem order s line (reads lines) = refl

module _
    (order : Order) (few : order.steps ≤ steps) (earlier : List CheckLine) (summed : Sums order earlier) (s : Symbols) where
  -- an accepted line is summed up with those before it
  said_sums :
      (line : CheckLine) (t : Taking) → t ≡ taken order s line → t.refusal ≡ accepted → Sums t.order (line ∷ earlier)
  said_sums line t e h =
      let r : t.refusal ≡ (judged order line).refusal = ap (λ t. t.refusal) e ∙ taken_refusal order few s line in
      let w = e ∙ taken-accepted order few s line (sym r ∙ h) in
      rw (ap (λ t. t.order) w) (sums_accepted order earlier summed line (sym r ∙ h))

  steps_stay : (said : Line) (t : Taking) → t ≡ said_taken order s said → t.refusal ≡ accepted → t.order.steps ≤ steps
  steps_stay None t e h = absurd (let never : refused_form ≡ accepted = sym (ap (λ t. t.refusal) e) ∙ h in cc)
  steps_stay (Some line) t e h =
      let r : t.refusal ≡ (judged order line).refusal = ap (λ t. t.refusal) e ∙ taken_refusal order few s line in
      let w = e ∙ taken-accepted order few s line (sym r ∙ h) in
      omega (arith, ap (λ t. t.order.steps) w, steps-kept order line few)

  module _ (number : ℕ) (others : List CheckLine → Reading) where
    said_refused :
        (said : Line) (t : Taking) {refusal : Refusal} → t ≡ said_taken order s said → t.refusal ≡ Some refusal
        → line_read earlier number said others ≡ bad number refusal
    said_refused None t e h = (let same : refused_form ≡ t.refusal = sym (ap (λ t. t.refusal) e) in cc)
    said_refused (Some line) t e h =
        let r : t.refusal ≡ refusal_of earlier line = ap (λ t. t.refusal) e ∙ taken_refusal order few s line ∙ sums_refusal order earlier summed line in
        rw (sym r ∙ h) refl

    record Next (t : Taking) (said : Line) : Type 0 where
      now : List CheckLine
      sums : Sums t.order now
      tells : run_from order s (line_read earlier number said others) ≡ run_from t.order t.symbols (others now)

    said_accepted : (said : Line) (t : Taking) → t ≡ said_taken order s said → t.refusal ≡ accepted → Next t said
    said_accepted None t e h = absurd (let never : refused_form ≡ accepted = sym (ap (λ t. t.refusal) e) ∙ h in cc)
    said_accepted (Some line) t e h =
        let r : t.refusal ≡ (judged order line).refusal = ap (λ t. t.refusal) e ∙ taken_refusal order few s line in
        let w = e ∙ taken-accepted order few s line (sym r ∙ h) in
        let good : refusal_of earlier line ≡ accepted = sym (sums_refusal order earlier summed line) ∙ sym r ∙ h in
        record {
          now = line ∷ earlier;
          sums = said_sums line t e h;
          tells = rw good
              (in_front_lem order s line (others (line ∷ earlier)) ∙ sym (ap (λ t. run_from t.order t.symbols (others (line ∷ earlier))) w));
        }

read_next :
    (earlier : List CheckLine) (number : ℕ) (line : List ℕ) (parts : List (List ℕ)) (next : List ℕ) (rest : List (List ℕ))
    → parts ≡ next ∷ rest
    → read_from earlier number (line ∷ parts) ≡ line_read earlier number (line_says line) (λ sofar. read_from sofar (suc number) parts)
unfolding read_from
read_next earlier number line parts next rest e = rw e refl

module _ (earlier : List CheckLine) (number : ℕ) (rest : List ℕ) where
  -- where a line feed is left, the line before it comes first
  read_more :
      length (before line_feed rest) < length rest
      → read_from earlier number (split line_feed rest)
      ≡ line_read earlier number (line_says (before line_feed rest)) (λ sofar. read_from sofar (suc number) (split line_feed (after line_feed rest)))
  read_more h =
      ap (read_from earlier number) (split_more line_feed rest h)
      ∙ read_next earlier number (before line_feed rest) (split line_feed (after line_feed rest)) _ _ (split-some line_feed (after line_feed rest))

  read-last : length rest ≤ length (before line_feed rest) → read_from earlier number (split line_feed rest) ≡ last_read earlier number rest
  unfolding read_from
  read-last h = ap (read_from earlier number) (split-last line_feed rest h)

-- ---- What stands behind the last line feed

module _ (order : Order) (number : ℕ) (left : List ℕ) (right : Bool) where
  pub last_left : 0 < length left → refused number Form ≡ last_run order number left right
  unfolding last_run
  last_left h = simp (lt-ltb _ _ h)

  module _ (none : length left ≤ 0) {refusal : Option Refusal} (e : refusal ≡ refusal_at_end order) where
    pub last_uncalled : {last : ℕ} {why : Refusal} → refusal ≡ Some why → last ≡ number - 1 → refused last why ≡ last_run order number left right
    unfolding last_run
    last_uncalled h one =
        simp (le-ltb _ _ none, one, sym e ∙ h)

    pub last-judged : {r : Bool} → refusal ≡ accepted → r ≡ right → Ok r ≡ last_run order number left right
    unfolding last_run
    last-judged h judges = ap (λ b. Ok b) judges ∙ simp (le-ltb _ _ none, sym e ∙ h)

-- it is the run's answer
last_run_lem :
    (order : Order) (earlier : List CheckLine) → Sums order earlier → (s : Symbols) (number : ℕ) (left : List ℕ)
    → last_run order number left (decided s) ≡ run_from order s (last_read earlier number left)
unfolding last_run last_read carried_all
last_run_lem order earlier sums s number left =
    rw (sums_end order earlier sums)
    (elim (ltb 0 (length left)) as
    (λ b. (if b then refused number Form else refused_or (number - 1) (if is_uncalled (steps_of earlier) then refused_order else accepted) (Ok (decided s)))
    ≡ run_from order s (if b then bad number Form else if is_uncalled (steps_of earlier) then bad (number - 1) WrongOrder else reads [])) [
      | true ↦ refl
      | false ↦ elim (is_uncalled (steps_of earlier)) as
          (λ b. refused_or (number - 1) (if b then refused_order else accepted) (Ok (decided s))
          ≡ run_from order s (if b then bad (number - 1) WrongOrder else reads []))
          [ true ↦ refl | false ↦ refl ]
    ])

-- ---- Between two lines

pub going-first :
    (sheet : List ℕ) {order : Order} {s : Symbols} {end : ℕ}
    → order ≡ fresh_order → s ≡ fresh_symbols → end ≡ length (before line_feed sheet) → Going sheet order s sheet end 1
unfolding reading
going-first sheet fresh none e =
    record {
      earlier = [];
      sums = rw fresh sums_none;
      tells = ap₂ (λ o s. run_from o s (read_from [] 1 (split line_feed sheet))) fresh none;
      ends = e;
      lines = omega arith;
      few = omega (arith, ap (λ o. o.steps) fresh);
    }

module _
    {sheet : List ℕ} {order : Order} {s : Symbols} {rest : List ℕ} {end number : ℕ}
    (g : Going sheet order s rest end number) where
  pub going-last : {r : Run} → length rest ≤ end → r ≡ last_run order number rest (decided s) → r ≡ run_of (reading sheet)
  going-last h tells =
      tells
      ∙ last_run_lem order g.earlier g.sums s number rest
      ∙ ap (run_from order s) (sym (read-last g.earlier number rest (omega (arith, g.ends))))
      ∙ g.tells

  module _ {line : List ℕ} {t : Taking} (h : end < length rest) (cut : line ≡ take end rest) (e : t ≡ line_taken order s line) where
    found : length (before line_feed rest) < length rest
    found = omega (arith, g.ends)

    made : t ≡ said_taken order s (line_says (before line_feed rest))
    unfolding line_taken
    made = e ∙ ap (line_taken order s) (cut ∙ ap (λ (k : ℕ). take k rest) g.ends ∙ take-before line_feed rest)

    abbrev others : List CheckLine → Reading
    others sofar = read_from sofar (suc number) (split line_feed (after line_feed rest))

    pub going-refused : {r : Run} {refusal : Refusal} → t.refusal ≡ Some refusal → r ≡ refused number refusal → r ≡ run_of (reading sheet)
    going-refused refused told =
        told
        ∙ ap (run_from order s) (sym (read_more g.earlier number rest found ∙ said_refused order g.few g.earlier g.sums s number others (line_says (before line_feed rest)) t made refused))
        ∙ g.tells

    pub going_on_lem :
        {next : List ℕ} {last : ℕ} → t.refusal ≡ accepted → next ≡ drop (end + 1) rest → last ≡ length (before line_feed next)
        → Going sheet t.order t.symbols next last (number + 1)
    going_on_lem {next = next} good dropped last =
        let n : next ≡ after line_feed rest = dropped ∙ ap (λ (k : ℕ). drop (k + 1) rest) g.ends ∙ drop-before line_feed rest in
        let w = said_accepted order g.few g.earlier g.sums s number others (line_says (before line_feed rest)) t made good in
        record {
          earlier = w.now;
          sums = w.sums;
          tells =
              ap₂ (λ k l. run_from t.order t.symbols (read_from w.now k (split line_feed l))) (add-one number) n
              ∙ sym w.tells
              ∙ ap (run_from order s) (sym (read_more g.earlier number rest found))
              ∙ g.tells;
          ends = last;
          lines = omega (arith, ap length n, after-length line_feed rest found, g.lines);
          few = steps_stay order g.few g.earlier g.sums s (line_says (before line_feed rest)) t made good;
        }
