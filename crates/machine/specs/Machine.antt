-- The machine of a check sheet: rules 20.1 to 20.9. After Aït-Kaci, Warren's Abstract Machine: A Tutorial Reconstruction.
use Rattle.std.specs.Prelude.{ℕ, suc, Bool, false, List, [], ◌∷◌, ◌++◌, map, eqb}
use Rattle.std.specs.Prelude.{if◌then◌else◌}
use Rattle.registers.specs.declared.RegType.{RegType}
use Rattle.registers.specs.declared.RegType.TheVariants.{Temp, Perm}
use Rattle.instructions.specs.declared.Instruction.{Instruction}
use Rattle.instructions.specs.declared.Instruction.TheVariants.{GetVariable, GetValue, PutVariable, PutValue, PutUnsafeValue, SetVariable, SetValue, SetLocalValue, UnifyVariable, UnifyValue, UnifyLocalValue}
use Rattle.steps.specs.declared.Step.{Step}
use Rattle.steps.specs.declared.Step.TheVariants.{Head, HeadDeep, Goal, GoalDeep, Call}
use Rattle.steps.specs.declared.CheckLine.{CheckLine}
use Rattle.steps.specs.declared.CheckLine.TheVariants.{Begins, Does}

-- ---- What the places hold (rule 20.1); a sheet that is read names registers and slots 1 to 63 alone

abbrev pub Contents : Type 0
Contents = RegType → ℕ

unfoldable pub same_place : RegType → RegType → Bool
same_place (Temp r) (Temp q) = eqb r q
same_place (Temp r) (Perm q) = false
same_place (Perm r) (Temp q) = false
same_place (Perm r) (Perm q) = eqb r q

-- a number written to a place
abbrev pub written : RegType → ℕ → Contents → Contents
written place n contents other = if same_place other place then n else contents other

-- rule 20.9: what the places hold behind a call
abbrev pub spoilt : (ℕ → ℕ) → Contents → Contents
spoilt left contents (Temp r) = left r
spoilt left contents (Perm r) = contents (Perm r)

-- ---- A run: what the places hold, the equalities demanded, the subterm list, what the calls read

pub record Machine : Type 0 where
  -- the step lines so far; the last of them is the step that instructions stand under
  pub steps : ℕ
  pub contents : Contents
  pub equalities : List (ℕ × ℕ)
  -- each with its step
  pub subterms : List (ℕ × ℕ)
  -- the arguments of this goal, which the next `call` reads
  pub goal : List ℕ
  pub read : List ℕ

module _ (m : Machine) where
  abbrev pub writes : RegType → ℕ → Machine
  writes place n =
      record {
        steps = m.steps;
        contents = written place n m.contents;
        equalities = m.equalities;
        subterms = m.subterms;
        goal = m.goal;
        read = m.read;
      }

  abbrev pub demands : ℕ → ℕ → Machine
  demands a b =
      record {
        steps = m.steps;
        contents = m.contents;
        equalities = m.equalities ++ (a, b) ∷ [];
        subterms = m.subterms;
        goal = m.goal;
        read = m.read;
      }

  abbrev pub adds : ℕ → Machine
  adds n =
      record {
        steps = m.steps;
        contents = m.contents;
        equalities = m.equalities;
        subterms = m.subterms ++ (m.steps, n) ∷ [];
        goal = m.goal;
        read = m.read;
      }

  -- a step line: `g` k v makes k an argument of this goal, and `call` alters what the places hold
  abbrev pub begins : Contents → List ℕ → List ℕ → Machine
  begins contents goal read =
      record {
        steps = suc m.steps;
        contents = contents;
        equalities = m.equalities;
        subterms = m.subterms;
        goal = goal;
        read = read;
      }

-- ---- What each instruction does, and the subterm that it adds (rule 20.8); n is the step's number

abbrev pub does : ℕ → Machine → Instruction → Machine
-- rule 20.2
does n m (GetVariable place k) = writes m place (m.contents (Temp k))
-- rule 20.3
does n m (GetValue place k) = demands m (m.contents place) (m.contents (Temp k))
-- rule 20.4
does n m (PutVariable place k) = writes (writes m place n) (Temp k) n
-- rule 20.5
does n m (PutValue place k) = writes m (Temp k) (m.contents place)
does n m (PutUnsafeValue slot k) = writes m (Temp k) (m.contents (Perm slot))
-- rule 20.6
does n m (SetVariable place) = adds (writes m place n) n
does n m (UnifyVariable place) = adds (writes m place n) n
-- rule 20.8
does n m (SetValue place) = adds m (m.contents place)
does n m (SetLocalValue place) = adds m (m.contents place)
-- rule 20.7
does n m (UnifyValue place) = adds (demands m (m.contents place) n) n
does n m (UnifyLocalValue place) = adds (demands m (m.contents place) n) n

-- rule 20.9: a call reads first, then spoils; the count of step lines tells one call from another
abbrev pub stepped : (ℕ → ℕ → ℕ) → Machine → Step → Machine
stepped left_by m (Head k v) = begins m m.contents m.goal m.read
stepped left_by m (HeadDeep v) = begins m m.contents m.goal m.read
stepped left_by m (Goal k v) = begins m m.contents (m.goal ++ k ∷ []) m.read
stepped left_by m (GoalDeep v) = begins m m.contents m.goal m.read
stepped left_by m Call =
    begins m (spoilt (left_by (suc m.steps)) m.contents) [] (m.read ++ map (λ k. m.contents (Temp k)) m.goal)

-- ---- The run of a sheet, for a choice of the entry contents, of each step's number, and of what is left by each call

abbrev pub carried : (ℕ → ℕ) → (ℕ → ℕ → ℕ) → Machine → CheckLine → Machine
carried number left_by m (Begins step) = stepped left_by m step
carried number left_by m (Does instruction) = does (number m.steps) m instruction

unfoldable pub run_from : (ℕ → ℕ) → (ℕ → ℕ → ℕ) → Machine → List CheckLine → Machine
run_from number left_by m [] = m
run_from number left_by m (line ∷ lines) = run_from number left_by (carried number left_by m line) lines

abbrev pub at_entry : Contents → Machine
at_entry entry = record { steps = 0; contents = entry; equalities = []; subterms = []; goal = []; read = [] }

unfoldable pub run : Contents → (ℕ → ℕ) → (ℕ → ℕ → ℕ) → List CheckLine → Machine
run entry number left_by lines = run_from number left_by (at_entry entry) lines
