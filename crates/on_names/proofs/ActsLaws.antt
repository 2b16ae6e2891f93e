-- Laws of what the instructions do: under a choice the machine holds the values of the names that the run on names holds.
use Prim.Native.Nat.{ℕ, zero, suc, ◌+◌, ◌*◌, ◌≤◌, ◌<◌}
use Rattle.std.specs.Prelude.{◌≡◌, Bool, true, false, ◌&&◌, List, map}
use Rattle.std.proofs.Math.Path.{refl}
use Rattle.std.proofs.Common.{sym, ap, ◌∙◌, length-set, get_or-set_same, get_or-set_other, eqb-true}
use Rattle.std.proofs.lemmas.Bool.{false≢true, eqb-false}
use Rattle.std.proofs.Math.Logic.{⊎_elim}
use native.Mathlib.Omega.{arith}
use Rattle.std.proofs.Math.ListN.{length}
use Rattle.std.specs.Prelude.{if◌then◌else◌}
use Rattle.notation.specs.ChoiceLaws.{both_true}
use Rattle.sizes.specs.Sizes.{registers, steps, is_register}
use Rattle.sizes.specs.SizesLaws.{register_exactly}
use Rattle.registers.specs.declared.RegType.{RegType}
use Rattle.registers.specs.declared.RegType.TheVariants.{Temp, Perm}
use Rattle.instructions.specs.declared.Instruction.{Instruction}
use Rattle.instructions.specs.declared.Instruction.TheVariants.{GetVariable, GetValue, PutVariable, PutValue, PutUnsafeValue, SetVariable, SetValue, SetLocalValue, UnifyVariable, UnifyValue, UnifyLocalValue}
use Rattle.steps.specs.Steps.{is_get_value_or_unify, place_fits, instruction_fits}
use Rattle.machine.specs.Machine.{Contents, same_place, written, spoilt, Machine, writes, demands, adds, does}
use Rattle.classes.specs.Cases.{less_or_not}
use Rattle.classes.specs.Classes.{in_names}
use Rattle.symbolic.specs.Names.{place_name, step_name, place_cells, call_name, no_name, pair_cells}
use Rattle.symbolic.specs.declared.Doing.{Doing}
use Rattle.symbolic.specs.Symbolic.{pushed, listed, doing, held, put, did, spoilt_up_to}
use Rattle.symbolic.specs.TablesLaws.{length-spoilt}
use Rattle.on_names.specs.OnNames.{both, named}
use Rattle.on_names.proofs.PairsLaws.{snoc_map, Table, table_more, listed-pushed, table-pushed, labelled_pushed}

-- ---- Places and their names

pub place_name_lem : (place : RegType) → place_fits place ≡ true → place_name place < place_cells
place_name_lem (Temp r) h = omega (arith, (register_exactly r).0 h)
place_name_lem (Perm r) h = omega (arith, (register_exactly r).0 h)

same_name : (place other : RegType) → same_place place other ≡ true → place_name place ≡ place_name other
unfolding same_place
same_name (Temp r) (Temp q) h = ap (λ (n : ℕ). 3 * n) (eqb-true r q h)
same_name (Temp r) (Perm q) h = absurd (false≢true h)
same_name (Perm r) (Temp q) h = absurd (false≢true h)
same_name (Perm r) (Perm q) h = ap (λ (n : ℕ). 3 * n + 1) (eqb-true r q h)

other_name : (place other : RegType) → same_place place other ≡ false → place_name place ≡ place_name other → ⊥
unfolding same_place
other_name (Temp r) (Temp q) h e = eqb-false r q h (omega arith)
other_name (Temp r) (Perm q) h e = omega arith
other_name (Perm r) (Temp q) h e = omega arith
other_name (Perm r) (Perm q) h e = eqb-false r q h (omega arith)

-- ---- What the places hold

pub record Places (ρ : ℕ → ℕ) (places : List ℕ) (contents : Contents) : Type 0 where
  pub size : length places ≡ place_cells
  pub holds : (place : RegType) → place_fits place ≡ true → contents place ≡ ρ (held places place)

-- every place holds a name that has a label, as before any call
abbrev pub AllLabelled : List ℕ → Type 0
AllLabelled places = (place : RegType) → place_fits place ≡ true → held places place < no_name

module _ (places : List ℕ) (place : RegType) (name : ℕ) where
  held_same : (other : RegType) → place_name other ≡ place_name place → place_name place < length places → held (put places place name) other ≡ name
  held_same other e h = rw e (get_or-set_same places (place_name place) name 0 h)

  held-other : (other : RegType) → (place_name other ≡ place_name place → ⊥) → held (put places place name) other ≡ held places other
  held-other other e = get_or-set_other places (place_name place) (place_name other) name 0 e

module _ (places : List ℕ) (size : length places ≡ place_cells) (place : RegType) (fit : place_fits place ≡ true) (name : ℕ) where
  fits_here : place_name place < length places
  fits_here = omega (arith, size, place_name_lem place fit)

  -- what holds of the name that is put, and of what the other places hold, holds of what every place holds
  put_cases :
      (P : RegType → Bool → ℕ → Type 0) (other : RegType) → P other true name → P other false (held places other)
      → P other (same_place other place) (held (put places place name) other)
  put_cases P other here there =
      (elim (same_place other place) as
      (λ t. same_place other place ≡ t → P other t (held (put places place name) other)) [
        | true ↦ λ e. rw (held_same places place name other (same_name other place e) fits_here) here
        | false ↦ λ e. rw (held-other places place name other (other_name other place e)) there
      ])
      refl

  labelled_put : AllLabelled places → name < no_name → AllLabelled (put places place name)
  labelled_put h low other fits = put_cases (λ q t n. n < no_name) other low (h other fits)

  module _ (ρ : ℕ → ℕ) (contents : Contents) (p : Places ρ places contents) (n : ℕ) (same : n ≡ ρ name) where
    pub places_written : Places ρ (put places place name) (written place n contents)
    places_written =
        record {
          size = length-set places (place_name place) name ∙ size;
          holds = λ other h. put_cases (λ q t k. (if t then n else contents q) ≡ ρ k) other same (p.holds other h);
        }

-- ---- What `call` leaves

module _ (call : ℕ) (places : List ℕ) where
  held-spoilt :
      length places ≡ place_cells → (last r : ℕ) → last ≤ registers → 1 ≤ r → r ≤ last
      → held (spoilt_up_to call last places) (Temp r) ≡ call_name call r
  unfolding spoilt_up_to
  held-spoilt size zero r few some h = absurd (omega arith)
  held-spoilt size (suc last) r few some h =
      let now = spoilt_up_to call last places in
      let here : place_name (Temp (suc last)) < length now = omega (arith, length-spoilt call places last, size) in
      ⊎_elim
      (λ before. (let other : place_name (Temp r) ≡ place_name (Temp (suc last)) → ⊥ = λ e. omega arith in
      held-other now (Temp (suc last)) (call_name call (suc last)) (Temp r) other ∙ held-spoilt size last r (omega arith) some (omega arith)))
      (λ last_one. (let same : r ≡ suc last = omega arith in
      rw same (held_same now (Temp (suc last)) (call_name call (suc last)) (Temp (suc last)) refl here)))
      (less_or_not r (suc last))

  held_kept : (last slot : ℕ) → held (spoilt_up_to call last places) (Perm slot) ≡ held places (Perm slot)
  unfolding spoilt_up_to
  held_kept zero slot = refl
  held_kept (suc last) slot =
      let other : place_name (Perm slot) ≡ place_name (Temp (suc last)) → ⊥ = λ e. omega arith in
      held-other (spoilt_up_to call last places) (Temp (suc last)) (call_name call (suc last)) (Perm slot) other ∙ held_kept last slot

module _
    (ρ : ℕ → ℕ)
    (places : List ℕ)
    (contents : Contents)
    (p : Places ρ places contents)
    (call : ℕ)
    (left : ℕ → ℕ)
    (leaves : (r : ℕ) → is_register r ≡ true → left r ≡ ρ (call_name call r))
  where
    spoilt_holds : (place : RegType) → place_fits place ≡ true → spoilt left contents place ≡ ρ (held (spoilt_up_to call registers places) place)
    spoilt_holds (Temp r) h =
        let fit = (register_exactly r).0 h in
        leaves r h ∙ sym (ap ρ (held-spoilt call places p.size registers r (omega arith) fit.0 fit.1))
    spoilt_holds (Perm slot) h = p.holds (Perm slot) h ∙ sym (ap ρ (held_kept call places registers slot))

    pub places_spoilt : Places ρ (spoilt_up_to call registers places) (spoilt left contents)
    places_spoilt = record { size = length-spoilt call places registers ∙ p.size; holds = spoilt_holds }

-- ---- Places, equalities demanded and subterms made

pub record Acts (ρ : ℕ → ℕ) (step most_demands most_made : ℕ) (d : Doing) (m : Machine) : Type 0 where
  pub steps : m.steps ≡ step
  pub places : Places ρ d.places m.contents
  pub demands : Table most_demands d.demands
  pub demands_labelled : in_names (listed d.demands) ≡ true
  pub made : Table most_made d.made
  pub equalities : m.equalities ≡ map (both ρ) (listed d.demands)
  pub subterms : m.subterms ≡ map (named ρ) (listed d.made)

module _ (ρ : ℕ → ℕ) (step x y : ℕ) (d : Doing) (m : Machine) (a : Acts ρ step x y d m) where
  pub acts_more : (most : ℕ) → x ≤ most → y ≤ most → Acts ρ step most most d m
  acts_more most hx hy =
      record {
        steps = a.steps;
        places = a.places;
        demands = table_more most hx a.demands;
        demands_labelled = a.demands_labelled;
        made = table_more most hy a.made;
        equalities = a.equalities;
        subterms = a.subterms;
      }

  acts_writes :
      (place : RegType) → place_fits place ≡ true → (name n : ℕ) → n ≡ ρ name
      → Acts ρ step x y (doing (put d.places place name) d.demands d.made) (writes m place n)
  acts_writes place fit name n same =
      record {
        steps = a.steps;
        places = places_written d.places a.places.size place fit name ρ m.contents a.places n same;
        demands = a.demands;
        demands_labelled = a.demands_labelled;
        made = a.made;
        equalities = a.equalities;
        subterms = a.subterms;
      }

  acts_demands :
      2 * x + 2 ≤ pair_cells → (name other n k : ℕ) → name < no_name → other < no_name → n ≡ ρ name → k ≡ ρ other
      → Acts ρ step (suc x) y (doing d.places (pushed d.demands name other) d.made) (demands m n k)
  acts_demands room name other n k low low' same same' =
      record {
        steps = a.steps;
        places = a.places;
        demands = table-pushed x d.demands name other a.demands room;
        demands_labelled = labelled_pushed x d.demands name other a.demands room low low' a.demands_labelled;
        made = a.made;
        equalities =
            snoc_map (both ρ) (listed d.demands) (name, other) m.equalities (n, k) a.equalities (λ i. (same i, same' i))
            ∙ sym (ap (map (both ρ)) (listed-pushed x d.demands name other a.demands room));
        subterms = a.subterms;
      }

  acts_adds :
      2 * y + 2 ≤ pair_cells → (name n : ℕ) → n ≡ ρ name
      → Acts ρ step x (suc y) (doing d.places d.demands (pushed d.made step name)) (adds m n)
  acts_adds room name n same =
      record {
        steps = a.steps;
        places = a.places;
        demands = a.demands;
        demands_labelled = a.demands_labelled;
        made = table-pushed y d.made step name a.made room;
        equalities = a.equalities;
        subterms =
            snoc_map (named ρ) (listed d.made) (step, name) m.subterms (m.steps, n) a.subterms (λ i. (a.steps i, same i))
            ∙ sym (ap (map (named ρ)) (listed-pushed y d.made step name a.made room));
      }

-- ---- An instruction; its step's number is the value of the step's name

fits_both : (place : RegType) (k : ℕ) → (place_fits place && is_register k) ≡ true → (place_fits place ≡ true) × (is_register k ≡ true)
fits_both place k h = both_true (place_fits place) (is_register k) h

module _
    (ρ : ℕ → ℕ)
    (step most : ℕ)
    (d : Doing)
    (m : Machine)
    (a : Acts ρ step most most d m)
    (few : step ≤ steps)
    (room : 2 * most + 2 ≤ pair_cells)
  where
    own_name : step_name step < no_name
    own_name = omega arith

    -- a place gets a name
    writes-name :
        (place : RegType) → place_fits place ≡ true → (name n : ℕ) → n ≡ ρ name
        → Acts ρ step (suc most) (suc most) (doing (put d.places place name) d.demands d.made) (writes m place n)
    writes-name place fit name n same =
        acts_more ρ step most most _ _ (acts_writes ρ step most most d m a place fit name n same) (suc most) (omega arith) (omega arith)

    -- a place gets what another place holds
    copies :
        (place from : RegType) → place_fits place ≡ true → place_fits from ≡ true
        → Acts
        ρ
        step
        (suc most)
        (suc most)
        (doing (put d.places place (held d.places from)) d.demands d.made)
        (writes m place (m.contents from))
    copies place from fit fit' =
        writes-name place fit (held d.places from) (m.contents from) (a.places.holds from fit')

    -- a place and the subterm list get the step's number
    fills :
        (place : RegType) → place_fits place ≡ true
        → Acts
        ρ
        step
        (suc most)
        (suc most)
        (doing (put d.places place (step_name step)) d.demands (pushed d.made step (step_name step)))
        (adds (writes m place (ρ (step_name step))) (ρ (step_name step)))
    fills place fit =
        let n = ρ (step_name step) in
        let w = acts_writes ρ step most most d m a place fit (step_name step) n refl in
        let e = acts_adds ρ step most most _ _ w room (step_name step) n refl in
        acts_more ρ step most (suc most) _ _ e (suc most) (omega arith) (omega arith)

    -- the subterm list gets what a place holds
    hands :
        (place : RegType) → place_fits place ≡ true
        → Acts
        ρ
        step
        (suc most)
        (suc most)
        (doing d.places d.demands (pushed d.made step (held d.places place)))
        (adds m (m.contents place))
    hands place fit =
        let e = acts_adds ρ step most most d m a room (held d.places place) (m.contents place) (a.places.holds place fit) in
        acts_more ρ step most (suc most) _ _ e (suc most) (omega arith) (omega arith)

    -- what a place holds is to be the step's number, which the subterm list gets
    meets :
        AllLabelled d.places → (place : RegType) → place_fits place ≡ true
        → Acts
        ρ
        step
        (suc most)
        (suc most)
        (doing d.places (pushed d.demands (held d.places place) (step_name step)) (pushed d.made step (step_name step)))
        (adds (demands m (m.contents place) (ρ (step_name step))) (ρ (step_name step)))
    meets named place fit =
        let n = ρ (step_name step) in
        let here = held d.places place in
        let low = named place fit in
        let same = a.places.holds place fit in
        let e = acts_demands ρ step most most d m a room here (step_name step) (m.contents place) n low own_name same refl in
        acts_adds ρ step (suc most) most _ _ e room (step_name step) n refl

    -- what a place holds is to be what a register holds
    compares :
        AllLabelled d.places → (place from : RegType) → place_fits place ≡ true → place_fits from ≡ true
        → Acts
        ρ
        step
        (suc most)
        (suc most)
        (doing d.places (pushed d.demands (held d.places place) (held d.places from)) d.made)
        (demands m (m.contents place) (m.contents from))
    compares named place from fit fit' =
        let low = named place fit in
        let low' = named from fit' in
        let same = a.places.holds place fit in
        let same' = a.places.holds from fit' in
        let e = acts_demands ρ step most most d m a room _ _ (m.contents place) (m.contents from) low low' same same' in
        acts_more ρ step (suc most) most _ _ e (suc most) (omega arith) (omega arith)

    -- a place and a register get the step's number
    names-both :
        (place from : RegType) → place_fits place ≡ true → place_fits from ≡ true
        → Acts
        ρ
        step
        (suc most)
        (suc most)
        (doing (put (put d.places place (step_name step)) from (step_name step)) d.demands d.made)
        (writes (writes m place (ρ (step_name step))) from (ρ (step_name step)))
    names-both place from fit fit' =
        let n = ρ (step_name step) in
        let w = acts_writes ρ step most most d m a place fit (step_name step) n refl in
        let e = acts_writes ρ step most most _ _ w from fit' (step_name step) n refl in
        acts_more ρ step most most _ _ e (suc most) (omega arith) (omega arith)

    -- equalities are demanded of names that have labels
    pub does_stands :
        (instruction : Instruction) → instruction_fits instruction ≡ true → (is_get_value_or_unify instruction ≡ true → AllLabelled d.places)
        → Acts ρ step (suc most) (suc most) (did step d instruction) (does (ρ (step_name step)) m instruction)
    does_stands (GetVariable place k) h named =
        let f = fits_both place k h in
        copies place (Temp k) f.0 f.1
    does_stands (GetValue place k) h named =
        let f = fits_both place k h in
        compares (named refl) place (Temp k) f.0 f.1
    does_stands (PutVariable place k) h named =
        let f = fits_both place k h in
        names-both place (Temp k) f.0 f.1
    does_stands (PutValue place k) h named =
        let f = fits_both place k h in
        copies (Temp k) place f.1 f.0
    does_stands (PutUnsafeValue slot k) h named =
        let f = fits_both (Perm slot) k h in
        copies (Temp k) (Perm slot) f.1 f.0
    does_stands (SetVariable place) h named = fills place h
    does_stands (SetValue place) h named = hands place h
    does_stands (SetLocalValue place) h named = hands place h
    does_stands (UnifyVariable place) h named = fills place h
    does_stands (UnifyValue place) h named = meets (named refl) place h
    does_stands (UnifyLocalValue place) h named = meets (named refl) place h

    -- and where every place holds such a name, every place still does
    pub does_labelled :
        AllLabelled d.places → (instruction : Instruction) → instruction_fits instruction ≡ true
        → AllLabelled (did step d instruction).places
    does_labelled named (GetVariable place k) h =
        let f = fits_both place k h in
        labelled_put d.places a.places.size place f.0 _ named (named (Temp k) f.1)
    does_labelled named (GetValue place k) h = named
    does_labelled named (PutVariable place k) h =
        let f = fits_both place k h in
        let size = length-set d.places (place_name place) (step_name step) ∙ a.places.size in
        labelled_put (put d.places place (step_name step)) size (Temp k) f.1 _ (labelled_put d.places a.places.size place f.0 _ named own_name) own_name
    does_labelled named (PutValue place k) h =
        let f = fits_both place k h in
        labelled_put d.places a.places.size (Temp k) f.1 _ named (named place f.0)
    does_labelled named (PutUnsafeValue slot k) h =
        let f = fits_both (Perm slot) k h in
        labelled_put d.places a.places.size (Temp k) f.1 _ named (named (Perm slot) f.0)
    does_labelled named (SetVariable place) h = labelled_put d.places a.places.size place h _ named own_name
    does_labelled named (SetValue place) h = named
    does_labelled named (SetLocalValue place) h = named
    does_labelled named (UnifyVariable place) h = labelled_put d.places a.places.size place h _ named own_name
    does_labelled named (UnifyValue place) h = named
    does_labelled named (UnifyLocalValue place) h = named
