-- The run on names stands for the machine's run and for what is wanted: under every choice each holds the values of the names.
use Rattle.std.specs.Prelude.{ℕ, suc, ◌+◌, ◌*◌, ◌≤◌, ◌<◌, ◌≡◌, refl, true, not, get_or, Option, None}
use Rattle.std.proofs.Common.{sym, ap, subst, ◌∙◌, arith}
use mathlib.Core.List.{List, [], ◌∷◌, map}
use Rattle.std.proofs.Math.ListN.{length-replicate, get_or-replicate}
use Rattle.std.proofs.lemmas.Bool.{not-true}
use Rattle.notation.specs.ChoiceLaws.{both_true}
use Rattle.notation.specs.Lists.{numbers_from}
use Rattle.notation.specs.ListLaws.{length_numbers, get_or_numbers}
use Rattle.refusals.specs.Refusals.{accepted, is_refused}
use Rattle.refusals.specs.RefusalsLaws.{not_refused}
use Rattle.sizes.specs.Sizes.{variables, steps, instructions, is_register}
use Rattle.sizes.specs.SizesLaws.{register_exactly}
use Rattle.registers.specs.declared.RegType.{RegType}
use Rattle.instructions.specs.declared.Instruction.{Instruction}
use Rattle.instructions.specs.declared.Instruction.TheVariants.{GetVariable, GetValue, PutVariable, PutValue, PutUnsafeValue, SetVariable, SetValue, SetLocalValue, UnifyVariable, UnifyValue, UnifyLocalValue}
use Rattle.steps.specs.declared.Step.{Step}
use Rattle.steps.specs.declared.Step.TheVariants.{Head, HeadDeep, Goal, GoalDeep, Call}
use Rattle.steps.specs.declared.CheckLine.{CheckLine}
use Rattle.steps.specs.declared.CheckLine.TheVariants.{Begins, Does}
use Rattle.steps.specs.declared.Order.{Order}
use Rattle.steps.specs.Steps.{is_get_value_or_unify, fits}
use Rattle.steps.specs.Order.{head_step, kind_of, fresh_order, begun, done, following, judged}
use Rattle.steps.specs.OrderLaws.{line-fits, accepted_order, begins_few, does_few, head_goes_on, demands_in_head, argument_and_variable_lem}
use Rattle.classes.specs.Classes.{pairs_of, in_names}
use Rattle.machine.specs.Machine.{Contents, Machine, begins, does, stepped, run_from, at_entry, run}
use Rattle.machine.specs.Machine.{carried as machine_carried}
use Rattle.machine.specs.Wanted.{Wanted, wants, wanted_by, wanted_from, nothing_wanted}
use Rattle.machine.specs.Wanted.{wanted as wanted_of}
use Rattle.symbolic.specs.Names.{place_name, step_name, place_cells, call_name, no_name, pair_cells}
use Rattle.symbolic.specs.declared.Symbols.{Symbols}
use Rattle.symbolic.specs.Symbolic.{listed, doing, spoilt_at, wanted, claimed_at, carried, no_pairs, fresh_symbols, all_accepted, carried_all}
use Rattle.on_names.specs.OnNames.{both, named, first, second, symbols_of}
use Rattle.on_names.proofs.ChoiceLaws.{Agrees, values_agree}
use Rattle.on_names.proofs.PairsLaws.{Table, table_more, table-fresh}
use Rattle.on_names.proofs.ActsLaws.{place_name_lem, Places, AllLabelled, places_spoilt, Acts, acts_more, does_stands, does_labelled}
use Rattle.on_names.proofs.AsksLaws.{value_stands, Asks, offers, wants_stands}
use Rattle.on_names.proofs.ReadsLaws.{register, Reads, reads_same, reads_argument, reads_call}

-- ---- What stands between lines

-- no more pairs are demanded, and no more subterms made, than instructions may have stood so far
abbrev pub most_done : Order → ℕ
most_done order = instructions * order.steps + order.instructions

pub record Standing (ρ : ℕ → ℕ) (order : Order) (s : Symbols) (m : Machine) (w : Wanted) : Type 0 where
  pub few : order.steps ≤ steps
  pub short : order.instructions ≤ instructions
  pub acts : Acts ρ order.steps (most_done order) (most_done order) s.doing m
  -- equalities are demanded in the head alone, where no call has left anything
  pub labelled : order.kind ≤ head_step → AllLabelled s.doing.places
  pub asks : Asks ρ order.steps s.wanting w
  pub reads : Reads ρ order.steps s.wanting.goal s.claims m.goal w.goal m.read w.arguments

-- ---- A step line

module _
    {ρ : ℕ → ℕ}
    {entry : Contents}
    {number : ℕ → ℕ}
    {left_by : ℕ → ℕ → ℕ}
    (agrees : Agrees ρ entry number left_by)
    (order : Order)
    (s : Symbols)
    (m : Machine)
    (w : Wanted)
    (h : Standing ρ order s m w)
  where
    next : order.steps + 1 ≡ suc order.steps
    next = omega arith

    acts_begun :
        (step : Step) (places : List ℕ) (contents : Contents) (goal read : List ℕ) → Places ρ places contents
        → Acts
        ρ
        (order.steps + 1)
        (most_done (begun order step))
        (most_done (begun order step))
        (doing places s.doing.demands s.doing.made)
        (begins m contents goal read)
    acts_begun step places contents goal read p =
        record {
          steps = ap suc h.acts.steps ∙ sym next;
          places = p;
          demands = table_more _ (omega (arith, h.short)) h.acts.demands;
          demands_labelled = h.acts.demands_labelled;
          made = table_more _ (omega (arith, h.short)) h.acts.made;
          equalities = h.acts.equalities;
          subterms = h.acts.subterms;
        }

    labelled_begun :
        (step : Step) → (judged order (Begins step)).refusal ≡ accepted → kind_of step ≤ head_step
        → AllLabelled (spoilt_at (order.steps + 1) s.doing.places step)
    labelled_begun (Head k v) good e = h.labelled (head_goes_on order (Head k v) good refl)
    labelled_begun (HeadDeep v) good e = h.labelled (head_goes_on order (HeadDeep v) good refl)
    labelled_begun (Goal k v) good e = absurd (omega arith)
    labelled_begun (GoalDeep v) good e = absurd (omega arith)
    labelled_begun Call good e = absurd (omega arith)

    module _ (bounded : order.steps + 1 ≤ steps) where
      leaves : (r : ℕ) → is_register r ≡ true → left_by (suc m.steps) r ≡ ρ (call_name (order.steps + 1) r)
      leaves r fit =
          agrees.leaves m.steps r fit ∙ ap (λ (call : ℕ). ρ (call_name call r)) (ap suc h.acts.steps ∙ sym next)

      acts_step :
          (step : Step)
          → Acts
          ρ
          (order.steps + 1)
          (most_done (begun order step))
          (most_done (begun order step))
          (doing (spoilt_at (order.steps + 1) s.doing.places step) s.doing.demands s.doing.made)
          (stepped left_by m step)
      acts_step (Head k v) = acts_begun (Head k v) _ _ m.goal m.read h.acts.places
      acts_step (HeadDeep v) = acts_begun (HeadDeep v) _ _ m.goal m.read h.acts.places
      acts_step (Goal k v) = acts_begun (Goal k v) _ _ _ m.read h.acts.places
      acts_step (GoalDeep v) = acts_begun (GoalDeep v) _ _ m.goal m.read h.acts.places
      acts_step Call =
          acts_begun Call _ _ [] _ (places_spoilt ρ s.doing.places m.contents h.acts.places (order.steps + 1) (left_by (suc m.steps)) leaves)

      reads_step :
          (step : Step) → fits (Begins step) ≡ true
          → Reads
          ρ
          (order.steps + 1)
          (wanted (order.steps + 1) s.wanting step).goal
          (claimed_at s.doing.places s.claims s.wanting.goal step)
          (stepped left_by m step).goal
          (wants entry number w step).goal
          (stepped left_by m step).read
          (wants entry number w step).arguments
      reads_step (Head k v) f = reads_same ρ _ _ next bounded _ _ _ _ _ _ h.reads
      reads_step (HeadDeep v) f = reads_same ρ _ _ next bounded _ _ _ _ _ _ h.reads
      reads_step (Goal k v) f =
          let a = argument_and_variable_lem k v f in
          let e = (register_exactly k).1 (a.0, a.1) in
          let o = step_name (order.steps + 1) in
          let low : o < no_name = omega arith in
          let n = number (suc w.steps) in
          let same = offers agrees order.steps (order.steps + 1) next bounded s.wanting w h.asks in
          let value = value_stands ρ o n low same (get_or s.wanting.values v None) (w.values v) (h.asks.values.stands v a.2) in
          reads_argument ρ _ _ next bounded _ _ _ _ _ _ h.reads k _ _ e value.1
      reads_step (GoalDeep v) f = reads_same ρ _ _ next bounded _ _ _ _ _ _ h.reads
      reads_step Call f = reads_call ρ _ _ next bounded _ _ _ _ _ _ h.reads s.doing.places m.contents h.acts.places

      begins_stands :
          (step : Step) → (judged order (Begins step)).refusal ≡ accepted
          → Standing ρ (begun order step) (carried (order.steps + 1) s (Begins step)) (stepped left_by m step) (wants entry number w step)
      begins_stands step good =
          let fit = line-fits order (Begins step) good in
          record {
            few = bounded;
            short = omega arith;
            acts = acts_step step;
            labelled = labelled_begun step good;
            asks = wants_stands agrees order.steps (order.steps + 1) next bounded s.wanting w h.asks step fit;
            reads = reads_step step fit;
          }

    -- ---- An instruction

    reads_does :
        (n : ℕ) (instruction : Instruction)
        → Reads ρ order.steps s.wanting.goal s.claims (does n m instruction).goal w.goal (does n m instruction).read w.arguments
    reads_does n (GetVariable place k) = h.reads
    reads_does n (GetValue place k) = h.reads
    reads_does n (PutVariable place k) = h.reads
    reads_does n (PutValue place k) = h.reads
    reads_does n (PutUnsafeValue slot k) = h.reads
    reads_does n (SetVariable place) = h.reads
    reads_does n (SetValue place) = h.reads
    reads_does n (SetLocalValue place) = h.reads
    reads_does n (UnifyVariable place) = h.reads
    reads_does n (UnifyValue place) = h.reads
    reads_does n (UnifyLocalValue place) = h.reads

    own-number : number m.steps ≡ ρ (step_name order.steps)
    own-number = ap number h.acts.steps ∙ agrees.numbers order.steps

    line_does :
        (instruction : Instruction) → (judged order (Does instruction)).refusal ≡ accepted
        → Standing ρ (done order instruction) (carried order.steps s (Does instruction)) (does (number m.steps) m instruction) w
    line_does instruction good =
        let under = does_few order instruction good in
        let fit = line-fits order (Does instruction) good in
        let room : 2 * most_done order + 2 ≤ pair_cells = omega (arith, h.few) in
        let in_head : is_get_value_or_unify instruction ≡ true → AllLabelled s.doing.places =
        λ demands. h.labelled (omega (arith, demands_in_head order instruction good demands)) in
        let acts-now = does_stands ρ order.steps (most_done order) s.doing m h.acts h.few room instruction fit in_head in
        rw own-number
        record {
          few = h.few;
          short = omega arith;
          acts = acts_more ρ _ _ _ _ _ acts-now _ (omega arith) (omega arith);
          labelled = λ e. does_labelled ρ order.steps (most_done order) s.doing m h.acts h.few room (h.labelled e) instruction fit;
          asks = h.asks;
          reads = reads_does _ instruction;
        }

-- ---- A line that is accepted, and lines

module _ {ρ : ℕ → ℕ} {entry : Contents} {number : ℕ → ℕ} {left_by : ℕ → ℕ → ℕ} (agrees : Agrees ρ entry number left_by) where
  following_stands :
      (order : Order) (s : Symbols) (m : Machine) (w : Wanted) (line : CheckLine)
      → (judged order line).refusal ≡ accepted → Standing ρ order s m w
      → Standing
      ρ
      (following order line)
      (carried (following order line).steps s line)
      (machine_carried number left_by m line)
      (wanted_by entry number w line)
  following_stands order s m w (Begins step) good h =
      let few = begins_few order step good in
      begins_stands agrees order s m w h (omega arith) step good
  following_stands order s m w (Does instruction) good h = line_does agrees order s m w h instruction good

  line_stands :
      (order : Order) (s : Symbols) (m : Machine) (w : Wanted) (line : CheckLine)
      → (judged order line).refusal ≡ accepted → Standing ρ order s m w
      → Standing
      ρ
      (judged order line).order
      (carried (judged order line).order.steps s line)
      (machine_carried number left_by m line)
      (wanted_by entry number w line)
  line_stands order s m w line good h =
      subst
      (λ (o : Order). Standing ρ o (carried o.steps s line) (machine_carried number left_by m line) (wanted_by entry number w line))
      (sym (accepted_order order line good))
      (following_stands order s m w line good h)

  lines_stand :
      (order : Order) (s : Symbols) (m : Machine) (w : Wanted) (lines : List CheckLine)
      → all_accepted order lines ≡ true → Standing ρ order s m w
      → (last : Order) × Standing ρ last (carried_all order s lines) (run_from number left_by m lines) (wanted_from entry number w lines)
  unfolding all_accepted carried_all run_from wanted_from
  lines_stand order s m w [] e h = (order, h)
  lines_stand order s m w (line ∷ lines) e h =
      let b = both_true (not (is_refused (judged order line).refusal)) (all_accepted (judged order line).order lines) e in
      let good = not_refused (judged order line).refusal (not-true _ b.0) in
      lines_stand (judged order line).order _ _ _ lines b.1 (line_stands order s m w line good h)

-- ---- Before the first line

-- every place holds its own name
held-fresh : (place : RegType) → place_name place < place_cells → get_or (numbers_from 0 place_cells) (place_name place) 0 ≡ place_name place
held-fresh place h = get_or_numbers 0 place_cells (place_name place) 0 h ∙ omega arith

fresh_labelled : AllLabelled (numbers_from 0 place_cells)
fresh_labelled place h = omega (arith, held-fresh place (place_name_lem place h), place_name_lem place h)

none-listed : {A : Type 0} (f : ℕ × ℕ → A) → ◌≡◌ {A = List A} [] (map f (listed no_pairs))
unfolding listed pairs_of
none-listed f = refl

module _ {ρ : ℕ → ℕ} {entry : Contents} {number : ℕ → ℕ} {left_by : ℕ → ℕ → ℕ} (agrees : Agrees ρ entry number left_by) where
  fresh_places_lem : Places ρ (numbers_from 0 place_cells) entry
  fresh_places_lem =
      record {
        size = length_numbers 0 place_cells;
        holds = λ place h. agrees.entries place h ∙ sym (ap ρ (held-fresh place (place_name_lem place h)));
      }

  fresh_stands : Standing ρ fresh_order fresh_symbols (at_entry entry) nothing_wanted
  unfolding listed pairs_of in_names
  fresh_stands =
      record {
        few = omega arith;
        short = omega arith;
        acts =
            record {
              steps = refl;
              places = fresh_places_lem;
              demands = table-fresh;
              demands_labelled = refl;
              made = table-fresh;
              equalities = none-listed (both ρ);
              subterms = none-listed (named ρ);
            };
        labelled = λ e. fresh_labelled;
        asks =
            record {
              steps = refl;
              values = record { size = length-replicate {A = Option ℕ} variables None; stands = λ v h. get_or-replicate {A = Option ℕ} variables v None None h };
              wants = table-fresh;
              wants_labelled = refl;
              due = table-fresh;
              equalities = none-listed (both ρ);
              subterms = none-listed (named ρ);
            };
        reads =
            record {
              goal_table = table-fresh;
              claims_table = table-fresh;
              few = omega arith;
              fit = tt;
              goal_registers = none-listed register;
              goal_names = none-listed (second ρ);
              claims_read = none-listed (first ρ);
              claims_wanted = none-listed (second ρ);
            };
      }

-- ---- A sheet whose lines are all accepted

-- under a choice: what the machine's run m and what is wanted, w, hold, from the run on names
pub record Stands (ρ : ℕ → ℕ) (s : Symbols) (m : Machine) (w : Wanted) : Type 0 where
  pub demands : m.equalities ≡ map (both ρ) (listed s.doing.demands)
  pub wants : w.equalities ≡ map (both ρ) (listed s.wanting.wants)
  pub made : m.subterms ≡ map (named ρ) (listed s.doing.made)
  pub due : w.subterms ≡ map (named ρ) (listed s.wanting.due)
  pub read : m.read ≡ map (first ρ) (listed s.claims)
  pub arguments : w.arguments ≡ map (second ρ) (listed s.claims)

-- no table is ever full
pub record Bounded (s : Symbols) : Type 0 where
  pub demands : Table (instructions * (steps + 1)) s.doing.demands
  pub made : Table (instructions * (steps + 1)) s.doing.made
  pub wants : Table steps s.wanting.wants
  pub due : Table steps s.wanting.due
  pub claims : Table steps s.claims

-- equalities are about names that have labels
pub record Labelled (s : Symbols) : Type 0 where
  pub demands : in_names (listed s.doing.demands) ≡ true
  pub wants : in_names (listed s.wanting.wants) ≡ true

module _ (lines : List CheckLine) (good : all_accepted fresh_order lines ≡ true) where
  at_end :
      {ρ : ℕ → ℕ} {entry : Contents} {number : ℕ → ℕ} {left_by : ℕ → ℕ → ℕ} → Agrees ρ entry number left_by
      → (last : Order) × Standing ρ last (symbols_of lines) (run entry number left_by lines) (wanted_of entry number lines)
  unfolding run wanted_of
  at_end agrees = lines_stand agrees fresh_order fresh_symbols (at_entry _) nothing_wanted lines good (fresh_stands agrees)

  pub sheet_stands :
      {ρ : ℕ → ℕ} {entry : Contents} {number : ℕ → ℕ} {left_by : ℕ → ℕ → ℕ} → Agrees ρ entry number left_by
      → Stands ρ (symbols_of lines) (run entry number left_by lines) (wanted_of entry number lines)
  sheet_stands agrees =
      let h = (at_end agrees).1 in
      record {
        demands = h.acts.equalities;
        wants = h.asks.equalities;
        made = h.acts.subterms;
        due = h.asks.subterms;
        read = h.reads.claims_read;
        arguments = h.reads.claims_wanted;
      }

  pub sheet_bounded : Bounded (symbols_of lines)
  sheet_bounded =
      let h = (at_end (values_agree (λ name. name))).1 in
      record {
        demands = table_more _ (omega (arith, h.few, h.short)) h.acts.demands;
        made = table_more _ (omega (arith, h.few, h.short)) h.acts.made;
        wants = table_more _ h.few h.asks.wants;
        due = table_more _ h.few h.asks.due;
        claims = table_more _ h.few h.reads.claims_table;
      }

  pub sheet_labelled : Labelled (symbols_of lines)
  sheet_labelled =
      let h = (at_end (values_agree (λ name. name))).1 in
      record { demands = h.acts.demands_labelled; wants = h.asks.wants_labelled }
