-- What a mark does to a record leaves it of its kind, in its place.
use Rattle.std.specs.Prelude.{ℕ, Option, Some, None}
use Rattle.notation.specs.ChoiceLaws.{either}
use Rattle.forms.specs.declared.Branch.{Branch}
use Rattle.forms.specs.declared.GenContext.{GenContext}
use Rattle.forms.specs.declared.GenContext.TheVariants.{Head, Mid, Last}
use Rattle.forms.specs.declared.Level.{Level}
use Rattle.forms.specs.declared.Level.TheVariants.{Root, Shallow, Deep}
use Rattle.registers.specs.declared.RegType.{RegType}
use Rattle.targets.specs.declared.Target.{Target}
use Rattle.variable_records.specs.declared.VarSafetyStatus.{VarSafetyStatus}
use Rattle.variable_records.specs.declared.PermVarAllocation.TheVariants.{Done, Pending}
use Rattle.variable_records.specs.declared.VarAlloc.{VarAlloc}
use Rattle.variable_records.specs.declared.VarAlloc.TheVariants.{Temp, Perm}
use Rattle.variable_records.specs.declared.VariableRecord.{VariableRecord}
use Rattle.variable_records.specs.Safety.{safety_unneeded}
use Rattle.record_marks.specs.declared.MarkedSafe.{MarkedSafe}
use Rattle.record_marks.specs.declared.MarkedSafe.TheVariants.{Safe, FromTemporary}
use Rattle.record_marks.specs.declared.Valued.{Valued}
use Rattle.record_marks.specs.RecordMarks.{argument_safe, argument_value_of, argument_value, subterm_value_of, subterm_value}
use Rattle.record_marks.specs.RecordMarks.{safe_in, safe_argument, safe_at, marked_safe_of, marked_safe, unconditionally_of, marked_unconditionally, remembered_of, remembered_perm}
use Rattle.invariants.specs.Kept.{Wanted, Holds}

module _ (k : Wanted) (w : ℕ) where
  -- a record that comes out of a mark is of its kind, in a good place
  abbrev pub HoldsMade : Option VariableRecord → Type 0
  HoldsMade (Some variable) = Holds k w variable.allocation
  HoldsMade None = Unit {0}

  abbrev pub HoldsSafe : Option MarkedSafe → Type 0
  HoldsSafe (Some (Safe variable)) = Holds k w variable.allocation
  HoldsSafe (Some FromTemporary) = Unit {0}
  HoldsSafe None = Unit {0}

  abbrev pub HoldsValue : Option Valued → Type 0
  HoldsValue (Some valued) = Holds k w valued.variable.allocation
  HoldsValue None = Unit {0}

  module _ (variable : VariableRecord) where
    -- ---- Not new

    argument_of_holds :
        (allocation : VarAlloc) → Holds k w allocation → Holds k w variable.allocation
        → (target : Target) (place : RegType) (n tail : ℕ) (branch : Branch)
        → HoldsValue (argument_value_of allocation variable target place n tail branch)
    unfolding argument_value_of
    argument_of_holds (Temp context register safety to_perm) h was target place n tail branch = was
    argument_of_holds (Perm slot Pending) h was target place n tail branch = tt
    argument_of_holds (Perm slot (Done shallow deep)) h was target place n tail branch =
        either HoldsValue (argument_safe tail shallow branch) was h

    subterm_of_holds :
        (allocation : VarAlloc) → Holds k w allocation → Holds k w variable.allocation
        → (target : Target) (place : RegType) (branch : Branch)
        → HoldsValue (subterm_value_of allocation variable target place branch)
    unfolding subterm_value_of
    subterm_of_holds (Temp context register safety to_perm) h was target place branch =
        either HoldsValue (safety_unneeded safety branch) was h
    subterm_of_holds (Perm slot Pending) h was target place branch = tt
    subterm_of_holds (Perm slot (Done shallow deep)) h was target place branch =
        either HoldsValue (safety_unneeded deep branch) was h

    -- ---- New

    module _ (slot : ℕ) (permanent : Holds k w (Perm slot Pending)) (branch : Branch) where
      safe_in_holds : Holds k w (safe_in variable slot branch).allocation
      unfolding safe_in
      safe_in_holds = permanent

      safe_argument_holds : (deep : VarSafetyStatus) (context : GenContext) → HoldsSafe (Some (safe_argument variable slot deep context))
      safe_argument_holds deep Head = permanent
      safe_argument_holds deep (Mid chunk) = tt
      safe_argument_holds deep (Last chunk) = tt

      safe_at_holds :
          (level : Level) (deep : VarSafetyStatus) (context : GenContext)
          → HoldsSafe (Some (safe_at level variable slot deep context branch))
      safe_at_holds Deep deep context = safe_in_holds
      safe_at_holds Root deep context = safe_argument_holds deep context
      safe_at_holds Shallow deep context = safe_argument_holds deep context

    safe_of_holds :
        (allocation : VarAlloc) → Holds k w allocation → (level : Level) (context : GenContext) (branch : Branch)
        → HoldsSafe (marked_safe_of allocation variable level context branch)
    safe_of_holds (Temp at register safety to_perm) h level context branch = h
    safe_of_holds (Perm slot Pending) h level context branch = tt
    safe_of_holds (Perm slot (Done shallow deep)) h level context branch = safe_at_holds slot h branch level deep context

    unconditionally_of_holds :
        (allocation : VarAlloc) → Holds k w allocation → (branch : Branch) → HoldsMade (unconditionally_of allocation variable branch)
    unconditionally_of_holds (Temp context register safety to_perm) h branch = h
    unconditionally_of_holds (Perm slot Pending) h branch = tt
    unconditionally_of_holds (Perm slot (Done shallow deep)) h branch = safe_in_holds slot h branch

    remembered_of_holds : (allocation : VarAlloc) → Holds k w allocation → (v : ℕ) → HoldsMade (remembered_of allocation variable v)
    remembered_of_holds (Temp context register safety to_perm) h v = h
    remembered_of_holds (Perm slot allocation) h v = tt

    -- ---- By the record's own allocation

    module _ (h : Holds k w variable.allocation) where
      pub argument_holds :
          (target : Target) (place : RegType) (n tail : ℕ) (branch : Branch)
          → HoldsValue (argument_value variable target place n tail branch)
      argument_holds = argument_of_holds variable.allocation h h

      pub subterm_holds :
          (target : Target) (place : RegType) (branch : Branch)
          → HoldsValue (subterm_value variable target place branch)
      subterm_holds = subterm_of_holds variable.allocation h h

      pub safe_holds :
          (level : Level) (context : GenContext) (branch : Branch)
          → HoldsSafe (marked_safe variable level context branch)
      safe_holds = safe_of_holds variable.allocation h

      pub unconditionally_holds : (branch : Branch) → HoldsMade (marked_unconditionally variable branch)
      unconditionally_holds = unconditionally_of_holds variable.allocation h

      pub remembered_holds : (v : ℕ) → HoldsMade (remembered_perm variable v)
      remembered_holds = remembered_of_holds variable.allocation h
