-- Laws of what the steps want: under a choice each variable's value, and what is wanted, is the value of the name in its place.
use Rattle.std.specs.Prelude.{ℕ, suc, ◌+◌, ◌*◌, ◌≤◌, ◌<◌, ◌≡◌, refl, true, false, eqb, length, get_or, set, Option, Some, None}
use Rattle.std.proofs.Math.Path.{sym}
use Rattle.std.proofs.Common.{ap, ◌∙◌, length-set, get_or-set_same, get_or-set_other, eqb-true, ltb-true}
use mathlib.Core.List.{List, [], ◌∷◌, ◌++◌, map, append-nil}
use native.Mathlib.Omega.{arith}
use Rattle.std.proofs.lemmas.Bool.{eqb-false}
use Rattle.std.specs.Prelude.{if◌then◌else◌}
use Rattle.sizes.specs.Sizes.{variables, steps}
use Rattle.sizes.specs.SizesLaws.{register_exactly}
use Rattle.registers.specs.declared.RegType.TheVariants.{Temp}
use Rattle.steps.specs.declared.Step.{Step}
use Rattle.steps.specs.declared.Step.TheVariants.{Head, HeadDeep, Goal, GoalDeep, Call}
use Rattle.steps.specs.Steps.{step_fits}
use Rattle.steps.specs.OrderLaws.{argument_and_variable_lem}
use Rattle.machine.specs.Machine.{Contents}
use Rattle.machine.specs.Wanted.{Value, unfixed, fixed, Wanted, value_or, valued, demanded, wants}
use Rattle.classes.specs.Classes.{in_names}
use Rattle.symbolic.specs.Names.{place_name, step_name, no_name, pair_cells}
use Rattle.symbolic.specs.declared.Pairs.{Pairs}
use Rattle.symbolic.specs.declared.Wanting.{Wanting}
use Rattle.symbolic.specs.Symbolic.{pushed, listed, value_of, again, wanted}
use Rattle.on_names.specs.OnNames.{both, named}
use Rattle.on_names.proofs.ChoiceLaws.{Agrees}
use Rattle.on_names.proofs.PairsLaws.{snoc_map, Table, table_more, listed-pushed, table-pushed, labelled_pushed}

-- ---- The name in the place of a variable's value

abbrev pub ValueNamed : (ℕ → ℕ) → Option ℕ → Value → Type 0
ValueNamed ρ held unfixed = held ≡ None
ValueNamed ρ held (fixed n) = (name : ℕ) × (held ≡ Some name) × (name < no_name) × (n ≡ ρ name)

pub record Values (ρ : ℕ → ℕ) (names : List (Option ℕ)) (values : ℕ → Value) : Type 0 where
  pub size : length names ≡ variables
  pub stands : (v : ℕ) → v < variables → ValueNamed ρ (get_or names v None) (values v)

-- a value, where a step offers a name, whose value is n
module _ (ρ : ℕ → ℕ) (offered n : ℕ) (low : offered < no_name) (same : n ≡ ρ offered) where
  pub value_stands :
      (held : Option ℕ) (value : Value) → ValueNamed ρ held value
      → (value_of held offered < no_name) × (value_or value n ≡ ρ (value_of held offered))
  unfolding value_of
  value_stands held unfixed h = simp h (low, same)
  value_stands held (fixed k) h = simp h.1 (h.2, h.3)

  -- what a later head step demands
  pub again_stands :
      (most : ℕ) → 2 * most + 2 ≤ pair_cells → (wants : Pairs) → Table most wants → in_names (listed wants) ≡ true
      → (equalities : List (ℕ × ℕ)) → equalities ≡ map (both ρ) (listed wants)
      → (held : Option ℕ) (value : Value) → ValueNamed ρ held value
      → Table (suc most) (again wants held offered)
      × (in_names (listed (again wants held offered)) ≡ true)
      × (equalities ++ demanded value n ≡ map (both ρ) (listed (again wants held offered)))
  unfolding again
  again_stands most room wants t named equalities e held unfixed h =
      simp h (table_more (suc most) (omega arith) t, named, append-nil equalities ∙ e)
  again_stands most room wants t named equalities e held (fixed k) h =
      let name = h.0 in
      simp h.1 (
        table-pushed most wants name offered t room,
        labelled_pushed most wants name offered t room h.2 low named,
        snoc_map (both ρ) (listed wants) (name, offered) equalities (k, n) e (λ i. (h.3 i, same i))
            ∙ sym (ap (map (both ρ)) (listed-pushed most wants name offered t room)),
      )

  pub values_fixed :
      (names : List (Option ℕ)) (values : ℕ → Value) → Values ρ names values → (v : ℕ) → v < variables
      → Values ρ (set names v (Some (value_of (get_or names v None) offered))) (valued v (value_or (values v) n) values)
  values_fixed names values h v small =
      let name = value_of (get_or names v None) offered in
      let now = value_stands (get_or names v None) (values v) (h.stands v small) in
      let here : v < length names = omega (arith, h.size) in
      record {
        size = length-set names v (Some name) ∙ h.size;
        stands = λ other fits. (
            (elim (eqb other v) as
            (λ t. eqb other v ≡ t → ValueNamed ρ (get_or (set names v (Some name)) other None) (if t then fixed (value_or (values v) n) else values other)) [
              | true ↦ λ e. (
                  let its_own : get_or (set names v (Some name)) other None ≡ Some name = rw (eqb-true other v e) (get_or-set_same names v (Some name) None here) in
                  (name, its_own, now.0, now.1)
                  )
              | false ↦ λ e. rw (get_or-set_other names v other (Some name) None (eqb-false other v e)) (h.stands other fits)
            ])
            refl
            );
      }

-- ---- Values, equalities wanted and subterms due

pub record Asks (ρ : ℕ → ℕ) (step : ℕ) (w : Wanting) (v : Wanted) : Type 0 where
  pub steps : v.steps ≡ step
  pub values : Values ρ w.values v.values
  pub wants : Table step w.wants
  pub wants_labelled : in_names (listed w.wants) ≡ true
  pub due : Table step w.due
  pub equalities : v.equalities ≡ map (both ρ) (listed w.wants)
  pub subterms : v.subterms ≡ map (named ρ) (listed w.due)

-- the step that begins
module _
    {ρ : ℕ → ℕ}
    {entry : Contents}
    {number : ℕ → ℕ}
    {left_by : ℕ → ℕ → ℕ}
    (agrees : Agrees ρ entry number left_by)
    (step next : ℕ)
    (follows : next ≡ suc step)
    (few : next ≤ steps)
    (w : Wanting)
    (wanted-so-far : Wanted)
    (a : Asks ρ step w wanted-so-far)
  where
    room : 2 * step + 2 ≤ pair_cells
    room = omega arith

    counted : suc wanted-so-far.steps ≡ next
    counted = ap suc a.steps ∙ sym follows

    -- the step's number
    pub offers : number (suc wanted-so-far.steps) ≡ ρ (step_name next)
    offers = ap number counted ∙ agrees.numbers next

    own_name : step_name next < no_name
    own_name = omega arith

    more : (p : Pairs) → Table step p → Table next p
    more p t = table_more next (omega arith) t

    grown : (p : Pairs) → Table (suc step) p → Table next p
    grown p t = table_more next (omega arith) t

    demands-again :
        (offered n : ℕ) → offered < no_name → n ≡ ρ offered → (v : ℕ) → v < variables
        → Table (suc step) (again w.wants (get_or w.values v None) offered)
        × (in_names (listed (again w.wants (get_or w.values v None) offered)) ≡ true)
        × (wanted-so-far.equalities ++ demanded (wanted-so-far.values v) n ≡ map (both ρ) (listed (again w.wants (get_or w.values v None) offered)))
    demands-again offered n low same v small =
        again_stands
        ρ
        offered
        n
        low
        same
        step
        room
        w.wants
        a.wants
        a.wants_labelled
        wanted-so-far.equalities
        a.equalities
        (get_or w.values v None)
        (wanted-so-far.values v)
        (a.values.stands v small)

    subterm_due :
        (name n : ℕ) → n ≡ ρ name
        → Table next (pushed w.due next name)
        × (wanted-so-far.subterms ++ (suc wanted-so-far.steps, n) ∷ [] ≡ map (named ρ) (listed (pushed w.due next name)))
    subterm_due name n same = (
      grown _ (table-pushed step w.due next name a.due room),
      snoc_map (named ρ) (listed w.due) (next, name) wanted-so-far.subterms (suc wanted-so-far.steps, n) a.subterms (λ i. (counted i, same i))
          ∙ sym (ap (map (named ρ)) (listed-pushed step w.due next name a.due room)),
    )

    pub wants_stands :
        (begins : Step) → step_fits begins ≡ true
        → Asks ρ next (wanted next w begins) (wants entry number wanted-so-far begins)
    wants_stands (Head k v) h =
        let f = argument_and_variable_lem k v h in
        let o = place_name (Temp k) in
        let low : o < no_name = omega arith in
        let same = agrees.entries (Temp k) ((register_exactly k).1 (f.0, f.1)) in
        let demand = demands-again o (entry (Temp k)) low same v f.2 in
        record {
          steps = counted;
          values = values_fixed ρ o (entry (Temp k)) low same w.values wanted-so-far.values a.values v f.2;
          wants = grown _ demand.0;
          wants_labelled = demand.1;
          due = more _ a.due;
          equalities = demand.2;
          subterms = append-nil wanted-so-far.subterms ∙ a.subterms;
        }
    wants_stands (HeadDeep v) h =
        let small = ltb-true v variables h in
        let o = step_name next in
        let n = number (suc wanted-so-far.steps) in
        let demand = demands-again o n own_name offers v small in
        let value = value_stands ρ o n own_name offers (get_or w.values v None) (wanted-so-far.values v) (a.values.stands v small) in
        let due-now = subterm_due (value_of (get_or w.values v None) o) (value_or (wanted-so-far.values v) n) value.1 in
        record {
          steps = counted;
          values = values_fixed ρ o n own_name offers w.values wanted-so-far.values a.values v small;
          wants = grown _ demand.0;
          wants_labelled = demand.1;
          due = due-now.0;
          equalities = demand.2;
          subterms = due-now.1;
        }
    wants_stands (Goal k v) h =
        let f = argument_and_variable_lem k v h in
        let o = step_name next in
        let n = number (suc wanted-so-far.steps) in
        record {
          steps = counted;
          values = values_fixed ρ o n own_name offers w.values wanted-so-far.values a.values v f.2;
          wants = more _ a.wants;
          wants_labelled = a.wants_labelled;
          due = more _ a.due;
          equalities = append-nil wanted-so-far.equalities ∙ a.equalities;
          subterms = append-nil wanted-so-far.subterms ∙ a.subterms;
        }
    wants_stands (GoalDeep v) h =
        let small = ltb-true v variables h in
        let o = step_name next in
        let n = number (suc wanted-so-far.steps) in
        let value = value_stands ρ o n own_name offers (get_or w.values v None) (wanted-so-far.values v) (a.values.stands v small) in
        let due-now = subterm_due (value_of (get_or w.values v None) o) (value_or (wanted-so-far.values v) n) value.1 in
        record {
          steps = counted;
          values = values_fixed ρ o n own_name offers w.values wanted-so-far.values a.values v small;
          wants = more _ a.wants;
          wants_labelled = a.wants_labelled;
          due = due-now.0;
          equalities = append-nil wanted-so-far.equalities ∙ a.equalities;
          subterms = due-now.1;
        }
    wants_stands Call h =
        record {
          steps = counted;
          values = a.values;
          wants = more _ a.wants;
          wants_labelled = a.wants_labelled;
          due = more _ a.due;
          equalities = a.equalities;
          subterms = a.subterms;
        }
