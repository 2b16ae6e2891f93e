-- Laws of tables of pairs, read and written cell by cell, and of lines taken.
use Prim.Native.Nat.{ℕ, zero, suc, ◌+◌, ◌-◌, ◌≤◌, ◌<◌}
use Rattle.std.specs.Prelude.{◌≡◌, true, Option, Some, None, List, [], ◌∷◌, ◌++◌, length, get_or, set, take, drop, replicate}
use Rattle.std.proofs.Math.Path.{refl, ap}
use Rattle.std.proofs.Common.{sym, ◌∙◌, add-zero, zero-add, arith, take_all, take-suc-set, ext_get_or}
use Rattle.std.proofs.Math.Numerals.{add-one}
use borrow.Author.Tests.{le-ltb, lt-ltb}
use Rattle.std.proofs.Math.ListN.{length-set}
use Rattle.std.proofs.lemmas.List.{set-get_or}
use Rattle.notation.specs.Lists.{numbers_from}
use Rattle.notation.specs.ListLaws.{length_numbers, get_or_numbers}
use Rattle.refusals.specs.Refusals.{accepted, refused_full, is_refused}
use Rattle.sizes.specs.Sizes.{registers, variables, steps}
use Rattle.registers.specs.declared.RegType.TheVariants.{Temp}
use Rattle.steps.specs.declared.Step.{Step}
use Rattle.steps.specs.declared.Step.TheVariants.{Head}
use Rattle.steps.specs.declared.CheckLine.{CheckLine}
use Rattle.steps.specs.declared.CheckLine.TheVariants.{Begins}
use Rattle.steps.specs.declared.Order.{Order}
use Rattle.steps.specs.declared.Judged.{Judged}
use Rattle.steps.specs.Steps.{step_fits, fits}
use Rattle.steps.specs.Order.{judged}
use Rattle.steps.specs.OrderLaws.{argument_and_variable_lem, line-fits, steps-kept}
use Rattle.classes.specs.Classes.{pairs_of}
use Rattle.classes.specs.ClassesLaws.{pairs_next, pairs_end}
use Rattle.symbolic.specs.declared.Pairs.{Pairs}
use Rattle.symbolic.specs.declared.Wanting.{Wanting}
use Rattle.symbolic.specs.declared.Symbols.{Symbols}
use Rattle.symbolic.specs.Names.{place_name, place_cells, call_name, pair_cells}
use Rattle.symbolic.specs.Symbolic.{pairs, pushed, listed, doing, held, put, spoilt_up_to, spoilt_at, wanting, value_of, wanted, claimed, claimed_at, symbols, carried, nothing, fresh_symbols, taking, taken_as, taken}

-- ---- A pair more

module _ (cells : List ℕ) (count a b : ℕ) where
  pub pushed-fits :
      count + 1 < pair_cells
      → pairs (set (set cells count a) (count + 1) b) (count + 2) ≡ pushed (pairs cells count) a b
  unfolding pushed
  pushed-fits h = simp (lt-ltb _ _ h)

  pub pushed_full : pair_cells ≤ count + 1 → pairs cells count ≡ pushed (pairs cells count) a b
  unfolding pushed
  pushed_full h = simp (le-ltb _ _ h)

-- ---- The arguments that `call` reads

module _ (places arguments : List ℕ) (i : ℕ) where
  pub claimed_more :
      (claims : Pairs) {name : ℕ} {next : Pairs}
      → i + 1 < length arguments
      → name ≡ held places (Temp (get_or arguments i 0))
      → next ≡ pushed claims name (get_or arguments (i + 1) 0)
      → claimed places next (pairs_of (drop (i + 2) arguments)) ≡ claimed places claims (pairs_of (drop i arguments))
  unfolding claimed
  claimed_more claims h reads pushes =
      let pushed-held = pushes ∙ ap (λ n. pushed claims n (get_or arguments (i + 1) 0)) reads in
      rw (pairs_next arguments i h) (ap (λ p. claimed places p (pairs_of (drop (i + 2) arguments))) pushed-held)

  pub claimed-end : (claims : Pairs) → length arguments ≤ i + 1 → claimed places claims (pairs_of (drop i arguments)) ≡ claims
  unfolding claimed
  claimed-end claims h = rw (pairs_end arguments i h)

pub listed_all : (cells : List ℕ) (count : ℕ) → length cells ≤ count → listed (pairs cells count) ≡ pairs_of cells
unfolding listed
listed_all cells count h = ap pairs_of (take_all count cells h)

-- ---- The registers that `call` spoils

module _ (call : ℕ) (places : List ℕ) where
  pub spoilt-none : places ≡ spoilt_up_to call 0 places
  unfolding spoilt_up_to
  spoilt-none = refl

  pub spoilt_more :
      (r : ℕ) {name : ℕ} {now after : List ℕ} → 1 ≤ r → now ≡ spoilt_up_to call (r - 1) places → name ≡ call_name call r
      → after ≡ put now (Temp r) name → after ≡ spoilt_up_to call r places
  unfolding spoilt_up_to
  spoilt_more zero some spoilt named puts = absurd (omega arith)
  spoilt_more (suc r) some spoilt named puts = (let before : suc r - 1 ≡ r = omega arith in rw (puts, spoilt, named, before))

  pub length-spoilt : (r : ℕ) → length (spoilt_up_to call r places) ≡ length places
  unfolding spoilt_up_to
  length-spoilt zero = refl
  length-spoilt (suc r) =
      length-set (spoilt_up_to call r places) (place_name (Temp (suc r))) (call_name call (suc r)) ∙ length-spoilt r

-- ---- A variable's value

module _ (values : List (Option ℕ)) (v offered : ℕ) {value : Option ℕ} (reads : value ≡ get_or values v None) where
  pub value-first : value ≡ None → offered ≡ value_of (get_or values v None) offered
  unfolding value_of
  value-first h = simp (← reads, h)

  module _ {name : ℕ} where
    pub value-later : value ≡ Some name → name ≡ value_of (get_or values v None) offered
    unfolding value_of
    value-later h = simp (← reads, h)

    pub value_kept_lem : value ≡ Some name → values ≡ set values v (Some (value_of (get_or values v None) offered))
    value_kept_lem h =
        sym (set-get_or values v None) ∙ ap (set values v) (sym reads ∙ h ∙ ap (λ n. Some n) (value-later h))

-- ---- Rising numbers, put into a table

numbers_next : (first n : ℕ) → numbers_from first (suc n) ≡ numbers_from first n ++ (first + n) ∷ []
unfolding numbers_from
numbers_next first zero = rw (add-zero first)
numbers_next first (suc n) =
    let e : first + suc n ≡ suc first + n = omega arith in
    rw e (ap (λ l. first ∷ l) (numbers_next (suc first) n))

pub filled_more :
    (table : List ℕ) (i : ℕ) → i < length table → take i table ≡ numbers_from 0 i
    → take (i + 1) (set table i i) ≡ numbers_from 0 (i + 1)
filled_more table i h filled = rw (add-one i, take-suc-set table i i h, numbers_next 0 i, filled, zero-add i)

pub filled-end : (table : List ℕ) (i : ℕ) → length table ≤ i → take i table ≡ numbers_from 0 i → table ≡ numbers_from 0 i
filled-end table i h filled = sym (take_all i table h) ∙ filled

-- ---- A table of places that hold their own names

pub own_names :
    (table : List ℕ) → length table ≡ place_cells → ((name : ℕ) → name < place_cells → get_or table name 0 ≡ name)
    → table ≡ numbers_from 0 place_cells
own_names table size own =
    ext_get_or 0 table (numbers_from 0 place_cells) (size ∙ sym (length_numbers 0 place_cells))
    (λ name h. own name (omega (arith, size)) ∙ sym (get_or_numbers 0 place_cells name 0 (omega (arith, size)) ∙ omega arith))

-- ---- Lines

-- the argument of a head step that fits
pub head_register : {begins : Step} {k v : ℕ} → begins ≡ Head k v → step_fits begins ≡ true → k ≤ registers
head_register {k} {v} told fits = (argument_and_variable_lem k v (sym (ap step_fits told) ∙ fits)).1

pub begins-fits : {line : CheckLine} {begins : Step} → line ≡ Begins begins → fits line ≡ true → step_fits begins ≡ true
begins-fits told good = sym (ap fits told) ∙ good

-- a step line from its parts: what is claimed, what is wanted, and what the places hold
module _ (step : ℕ) (s : Symbols) where
  pub carried-begins :
      {line : CheckLine} {begins : Step} {places : List ℕ} {before after : Wanting} {claims : Pairs} → line ≡ Begins begins
      → claims ≡ claimed_at s.doing.places s.claims s.wanting.goal begins
      → after ≡ wanted step before begins → before ≡ s.wanting
      → places ≡ spoilt_at step s.doing.places begins
      → symbols (doing places s.doing.demands s.doing.made) after claims ≡ carried step s line
  carried-begins told claimed wants same spoils = rw (told, claimed, wants, same, spoils)

-- what is judged accepted is inside its sizes
module _ (order : Order) (line : CheckLine) {j : Judged} (judges : j ≡ judged order line) where
  pub judged_few : order.steps ≤ steps → j.order.steps ≤ steps
  judged_few few = rw judges (steps-kept order line few)

  pub judged-fits : j.refusal ≡ accepted → fits line ≡ true
  judged-fits good =
      let same = ap (λ (k : Judged). k.refusal) judges in
      line-fits order line (sym same ∙ good)

module _ (order : Order) (s : Symbols) (line : CheckLine) where
  pub taken_late : steps < order.steps → taking order s refused_full ≡ taken order s line
  unfolding taken
  taken_late h = simp (lt-ltb _ _ h)

  -- behind the lines of a sheet a line is judged, and carried out where it is accepted
  pub taken_few : order.steps ≤ steps → taken order s line ≡ taken_as s line (judged order line)
  unfolding taken
  taken_few h = simp (le-ltb _ _ h)

  pub taken_refused :
      {j : Judged} → j ≡ judged order line → order.steps ≤ steps → is_refused j.refusal ≡ true
      → taking j.order s j.refusal ≡ taken order s line
  unfolding taken_as
  taken_refused {j} judges few refused =
      rw (taken_few few, ← judges) (simp refused)

  pub taken-carried :
      {j : Judged} {after : Symbols} → j ≡ judged order line → order.steps ≤ steps → j.refusal ≡ accepted
      → after ≡ carried j.order.steps s line
      → taking j.order after j.refusal ≡ taken order s line
  unfolding taken_as
  taken-carried {j} {after} judges few good carries =
      ap (taking j.order after) good ∙ rw (taken_few few, ← judges, carries) (simp good)

-- ---- At the start

pub fresh_symbols_lem :
    symbols
    (doing
    (numbers_from 0 place_cells)
    (pairs (replicate pair_cells 0) 0)
    (pairs (replicate pair_cells 0) 0))
    (wanting
    (replicate variables None)
    (pairs (replicate pair_cells 0) 0)
    (pairs (replicate pair_cells 0) 0)
    (pairs (replicate pair_cells 0) 0))
    (pairs (replicate pair_cells 0) 0)
    ≡ fresh_symbols
fresh_symbols_lem = refl

-- nothing, and the places with their own names
pub begun_lem :
    {s : Symbols} {places : List ℕ} → s ≡ nothing → places ≡ numbers_from 0 place_cells
    → symbols (doing places s.doing.demands s.doing.made) s.wanting s.claims ≡ fresh_symbols
begun_lem none named = rw (none, named) fresh_symbols_lem
