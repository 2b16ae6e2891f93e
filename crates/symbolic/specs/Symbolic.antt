-- The run of a check sheet on names: each place, each step's number and what a call leaves in each register stands for itself,
-- and everything that the machine ever holds is a name. Both sides of the sheet are carried along, line by line.
use Rattle.std.specs.Prelude.{ℕ, zero, suc, ◌+◌, Bool, true, not, ◌&&◌, Option, Some, None, List, [], ◌∷◌, ltb, get_or, set, take, replicate}
use Rattle.std.specs.Prelude.{if◌then◌else◌}
use Rattle.std.specs.Option.{unwrap_or}
use Rattle.notation.specs.Lists.{numbers_from}
use Rattle.refusals.specs.declared.Refusal.{Refusal}
use Rattle.refusals.specs.Refusals.{accepted, refused_full, is_refused}
use Rattle.sizes.specs.Sizes.{registers, variables, steps}
use Rattle.registers.specs.declared.RegType.{RegType}
use Rattle.registers.specs.declared.RegType.TheVariants.{Temp, Perm}
use Rattle.instructions.specs.declared.Instruction.{Instruction}
use Rattle.instructions.specs.declared.Instruction.TheVariants.{GetVariable, GetValue, PutVariable, PutValue, PutUnsafeValue, SetVariable, SetValue, SetLocalValue, UnifyVariable, UnifyValue, UnifyLocalValue}
use Rattle.steps.specs.declared.Step.{Step}
use Rattle.steps.specs.declared.Step.TheVariants.{Head, HeadDeep, Goal, GoalDeep, Call}
use Rattle.steps.specs.declared.CheckLine.{CheckLine}
use Rattle.steps.specs.declared.CheckLine.TheVariants.{Begins, Does}
use Rattle.steps.specs.declared.Order.{Order}
use Rattle.steps.specs.declared.Judged.{Judged}
use Rattle.steps.specs.Order.{judged}
use Rattle.classes.specs.Classes.{pairs_of}
use Rattle.symbolic.specs.declared.Pairs.{Pairs}
use Rattle.symbolic.specs.declared.Doing.{Doing}
use Rattle.symbolic.specs.declared.Wanting.{Wanting}
use Rattle.symbolic.specs.declared.Symbols.{Symbols}
use Rattle.symbolic.specs.Names.{place_name, step_name, place_cells, call_name, pair_cells}

-- ---- Pairs of numbers in a table, two cells each, and how many cells count

abbrev pub pairs : List ℕ → ℕ → Pairs
pairs cells count = record { cells = cells; count = count }

-- one pair more; a table that is full stays as it is
unfoldable pub pushed : Pairs → ℕ → ℕ → Pairs
pushed p a b =
    if ltb (p.count + 1) pair_cells
    then pairs (set (set p.cells p.count a) (p.count + 1) b) (p.count + 2)
    else p

-- the pairs that count, in order
unfoldable pub listed : Pairs → List (ℕ × ℕ)
listed p = pairs_of (take p.count p.cells)

-- ---- What the instructions do

abbrev pub doing : List ℕ → Pairs → Pairs → Doing
doing places demands made = record { places = places; demands = demands; made = made }

abbrev pub held : List ℕ → RegType → ℕ
held places place = get_or places (place_name place) 0

abbrev pub put : List ℕ → RegType → ℕ → List ℕ
put places place name = set places (place_name place) name

abbrev pub did : ℕ → Doing → Instruction → Doing
did step d (GetVariable place k) = doing (put d.places place (held d.places (Temp k))) d.demands d.made
did step d (GetValue place k) = doing d.places (pushed d.demands (held d.places place) (held d.places (Temp k))) d.made
did step d (PutVariable place k) = doing (put (put d.places place (step_name step)) (Temp k) (step_name step)) d.demands d.made
did step d (PutValue place k) = doing (put d.places (Temp k) (held d.places place)) d.demands d.made
did step d (PutUnsafeValue slot k) = doing (put d.places (Temp k) (held d.places (Perm slot))) d.demands d.made
did step d (SetVariable place) = doing (put d.places place (step_name step)) d.demands (pushed d.made step (step_name step))
did step d (SetValue place) = doing d.places d.demands (pushed d.made step (held d.places place))
did step d (SetLocalValue place) = doing d.places d.demands (pushed d.made step (held d.places place))
did step d (UnifyVariable place) = doing (put d.places place (step_name step)) d.demands (pushed d.made step (step_name step))
did step d (UnifyValue place) = doing d.places (pushed d.demands (held d.places place) (step_name step)) (pushed d.made step (step_name step))
did step d (UnifyLocalValue place) = doing d.places (pushed d.demands (held d.places place) (step_name step)) (pushed d.made step (step_name step))

-- the registers from the first to the r-th hold, each, the name of what the call leaves there
unfoldable pub spoilt_up_to : ℕ → ℕ → List ℕ → List ℕ
spoilt_up_to call zero places = places
spoilt_up_to call (suc r) places = put (spoilt_up_to call r places) (Temp (suc r)) (call_name call (suc r))

-- `call` spoils them all
abbrev pub spoilt_at : ℕ → List ℕ → Step → List ℕ
spoilt_at step places (Head k v) = places
spoilt_at step places (HeadDeep v) = places
spoilt_at step places (Goal k v) = places
spoilt_at step places (GoalDeep v) = places
spoilt_at step places Call = spoilt_up_to step registers places

-- ---- What the steps want

abbrev pub wanting : List (Option ℕ) → Pairs → Pairs → Pairs → Wanting
wanting values wants due goal = record { values = values; wants = wants; due = due; goal = goal }

-- a variable's value, where its step offers a name: its own, or the name where this step is its first
unfoldable pub value_of : Option ℕ → ℕ → ℕ
value_of value offered = unwrap_or value offered

-- a later head step demands equality
unfoldable pub again : Pairs → Option ℕ → ℕ → Pairs
again wants None offered = wants
again wants (Some value) offered = pushed wants value offered

module _ (w : Wanting) (v : ℕ) (offered : ℕ) where
  abbrev pub value : ℕ
  value = value_of (get_or w.values v None) offered

  abbrev pub valued : List (Option ℕ)
  valued = set w.values v (Some value)

  abbrev pub demanded : Pairs
  demanded = again w.wants (get_or w.values v None) offered

abbrev pub wanted : ℕ → Wanting → Step → Wanting
wanted step w (Head k v) = wanting (valued w v (place_name (Temp k))) (demanded w v (place_name (Temp k))) w.due w.goal
wanted step w (HeadDeep v) = wanting (valued w v (step_name step)) (demanded w v (step_name step)) (pushed w.due step (value w v (step_name step))) w.goal
wanted step w (Goal k v) = wanting (valued w v (step_name step)) w.wants w.due (pushed w.goal k (value w v (step_name step)))
wanted step w (GoalDeep v) = wanting (valued w v (step_name step)) w.wants (pushed w.due step (value w v (step_name step))) w.goal
wanted step w Call = wanting w.values w.wants w.due (pairs w.goal.cells 0)

-- `call` reads each argument of this goal: what it holds and what it has to hold
unfoldable pub claimed : List ℕ → Pairs → List (ℕ × ℕ) → Pairs
claimed places claims [] = claims
claimed places claims ((k, name) ∷ arguments) = claimed places (pushed claims (held places (Temp k)) name) arguments

abbrev pub claimed_at : List ℕ → Pairs → Pairs → Step → Pairs
claimed_at places claims goal (Head k v) = claims
claimed_at places claims goal (HeadDeep v) = claims
claimed_at places claims goal (Goal k v) = claims
claimed_at places claims goal (GoalDeep v) = claims
claimed_at places claims goal Call = claimed places claims (listed goal)

-- ---- Both, line by line

abbrev pub symbols : Doing → Wanting → Pairs → Symbols
symbols doing wanting claims = record { doing = doing; wanting = wanting; claims = claims }

-- a line; the step is the one that begins, or that the instruction stands under
abbrev pub carried : ℕ → Symbols → CheckLine → Symbols
carried step s (Begins begins) =
    symbols
    (doing (spoilt_at step s.doing.places begins) s.doing.demands s.doing.made)
    (wanted step s.wanting begins)
    (claimed_at s.doing.places s.claims s.wanting.goal begins)
carried step s (Does instruction) = symbols (did step s.doing instruction) s.wanting s.claims

abbrev pub no_pairs : Pairs
no_pairs = pairs (replicate pair_cells 0) 0

-- every place holds the name 0, and nothing is demanded or wanted
abbrev pub nothing : Symbols
nothing =
    symbols
    (doing (replicate place_cells 0) no_pairs no_pairs)
    (wanting (replicate variables None) no_pairs no_pairs no_pairs)
    no_pairs

-- at the start every place holds its own name, and nothing is demanded or wanted
abbrev pub fresh_symbols : Symbols
fresh_symbols =
    symbols
    (doing (numbers_from 0 place_cells) no_pairs no_pairs)
    (wanting (replicate variables None) no_pairs no_pairs no_pairs)
    no_pairs

-- ---- A line judged, and carried out where it is accepted

pub record Taking : Type 0 where
  pub order : Order
  pub symbols : Symbols
  pub refusal : Option Refusal

abbrev pub taking : Order → Symbols → Option Refusal → Taking
taking order symbols refusal = record { order = order; symbols = symbols; refusal = refusal }

-- the symbols after a line, with the order and the refusal that it is answered with
abbrev pub taking_of : Symbols → Judged → Taking
taking_of symbols judged = taking judged.order symbols judged.refusal

unfoldable pub taken_as : Symbols → CheckLine → Judged → Taking
taken_as s line j =
    if is_refused j.refusal then taking j.order s j.refusal
    else taking j.order (carried j.order.steps s line) accepted

-- an order of more step lines than there are names for, which no lines lead to, is full
unfoldable pub taken : Order → Symbols → CheckLine → Taking
taken order s line = if ltb steps order.steps then taking order s refused_full else taken_as s line (judged order line)

-- lines one after the other, each of which is accepted
unfoldable pub all_accepted : Order → List CheckLine → Bool
all_accepted order [] = true
all_accepted order (line ∷ lines) = not (is_refused (judged order line).refusal) && all_accepted (judged order line).order lines

unfoldable pub carried_all : Order → Symbols → List CheckLine → Symbols
carried_all order s [] = s
carried_all order s (line ∷ lines) =
    carried_all (judged order line).order (carried (judged order line).order.steps s line) lines
