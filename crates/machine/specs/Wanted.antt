-- What a check sheet's step lines want, for a choice of the entry contents and of each step's number: rules 21.1 to 21.4.
use Rattle.std.specs.Prelude.{ℕ, suc, List, [], ◌∷◌, ◌++◌, eqb}
use Rattle.std.specs.Prelude.{if◌then◌else◌}
use Rattle.registers.specs.declared.RegType.TheVariants.{Temp}
use Rattle.steps.specs.declared.Step.{Step}
use Rattle.steps.specs.declared.Step.TheVariants.{Head, HeadDeep, Goal, GoalDeep, Call}
use Rattle.steps.specs.declared.CheckLine.{CheckLine}
use Rattle.steps.specs.declared.CheckLine.TheVariants.{Begins, Does}
use Rattle.machine.specs.Machine.{Contents}

-- a variable's value, once a step has fixed it
pub data Value : Type 0 where
  unfixed : Value
  fixed : ℕ → Value

pub record Wanted : Type 0 where
  pub steps : ℕ
  pub values : ℕ → Value
  pub equalities : List (ℕ × ℕ)
  pub subterms : List (ℕ × ℕ)
  -- the values that the arguments of this goal have to hold at its `call`
  pub goal : List ℕ
  pub arguments : List ℕ

-- rule 21.1: the value of a variable whose step offers n: its own, or n where this step is its first
abbrev pub value_or : Value → ℕ → ℕ
value_or unfixed n = n
value_or (fixed value) n = value

abbrev pub valued : ℕ → ℕ → (ℕ → Value) → ℕ → Value
valued v n values other = if eqb other v then fixed n else values other

-- rule 21.2: what a head step demands of a variable that has its value
abbrev pub demanded : Value → ℕ → List (ℕ × ℕ)
demanded unfixed n = []
demanded (fixed value) n = (value, n) ∷ []

module _ (w : Wanted) (v n : ℕ) where
  abbrev pub value : ℕ
  value = value_or (w.values v) n

  abbrev pub begins : List (ℕ × ℕ) → List (ℕ × ℕ) → List ℕ → Wanted
  begins equalities subterms goal =
      record {
        steps = suc w.steps;
        values = valued v value w.values;
        equalities = w.equalities ++ equalities;
        subterms = w.subterms ++ subterms;
        goal = w.goal ++ goal;
        arguments = w.arguments;
      }

-- rules 21.1 to 21.4 for each kind of step; its own number is the one of the step that begins
abbrev pub wants : Contents → (ℕ → ℕ) → Wanted → Step → Wanted
wants entry number w (Head k v) = begins w v (entry (Temp k)) (demanded (w.values v) (entry (Temp k))) [] []
wants entry number w (HeadDeep v) =
    let n = number (suc w.steps) in
    begins w v n (demanded (w.values v) n) ((suc w.steps, value w v n) ∷ []) []
wants entry number w (Goal k v) =
    let n = number (suc w.steps) in
    begins w v n [] [] (value w v n ∷ [])
wants entry number w (GoalDeep v) =
    let n = number (suc w.steps) in
    begins w v n [] ((suc w.steps, value w v n) ∷ []) []
wants entry number w Call =
    record {
      steps = suc w.steps;
      values = w.values;
      equalities = w.equalities;
      subterms = w.subterms;
      goal = [];
      arguments = w.arguments ++ w.goal;
    }

abbrev pub wanted_by : Contents → (ℕ → ℕ) → Wanted → CheckLine → Wanted
wanted_by entry number w (Begins step) = wants entry number w step
wanted_by entry number w (Does instruction) = w

unfoldable pub wanted_from : Contents → (ℕ → ℕ) → Wanted → List CheckLine → Wanted
wanted_from entry number w [] = w
wanted_from entry number w (line ∷ lines) = wanted_from entry number (wanted_by entry number w line) lines

abbrev pub nothing_wanted : Wanted
nothing_wanted = record { steps = 0; values = λ v. unfixed; equalities = []; subterms = []; goal = []; arguments = [] }

unfoldable pub wanted : Contents → (ℕ → ℕ) → List CheckLine → Wanted
wanted entry number lines = wanted_from entry number nothing_wanted lines
