-- What a mark does to a record that fits leaves it one that fits.
use Rattle.std.specs.Prelude.{ℕ, ◌<◌, eqb, ltb, Option, Some, None}
use Rattle.std.proofs.Common.{lt-ltb}
use Rattle.notation.specs.ChoiceLaws.{either}
use Rattle.forms.specs.declared.Branch.{Branch}
use Rattle.forms.specs.declared.GenContext.{GenContext}
use Rattle.forms.specs.declared.GenContext.TheVariants.{Head, Mid, Last}
use Rattle.forms.specs.declared.Level.{Level}
use Rattle.forms.specs.declared.Level.TheVariants.{Root, Shallow, Deep}
use Rattle.registers.specs.declared.RegType.{RegType}
use Rattle.targets.specs.declared.Target.{Target}
use Rattle.variable_records.specs.declared.VarSafetyStatus.{VarSafetyStatus}
use Rattle.variable_records.specs.declared.PermVarAllocation.TheVariants.{Done, Pending}
use Rattle.variable_records.specs.declared.VarAlloc.{VarAlloc}
use Rattle.variable_records.specs.declared.VarAlloc.TheVariants.{Temp, Perm}
use Rattle.variable_records.specs.declared.VariableRecord.{VariableRecord}
use Rattle.variable_records.specs.Records.{allocated}
use Rattle.variable_records.specs.Rows.{unset}
use Rattle.variable_records.specs.Safety.{safety_unneeded}
use Rattle.record_marks.specs.declared.MarkedSafe.{MarkedSafe}
use Rattle.record_marks.specs.declared.MarkedSafe.TheVariants.{Safe, FromTemporary}
use Rattle.record_marks.specs.declared.Valued.{Valued}
use Rattle.record_marks.specs.RecordMarks.{argument_safe, argument_value_of, argument_value, subterm_value_of, subterm_value}
use Rattle.record_marks.specs.RecordMarks.{safe_in, safe_argument, safe_at, marked_safe_of, marked_safe, unconditionally_of, marked_unconditionally, remembered_of, remembered_perm}
use Rattle.valid_stays.specs.Tests.{right_so}
use Rattle.valid_stays.specs.Fits.{Kinds, AllocFits, RecordFits}

module _ (k : Kinds) (w : ℕ) where
  pub allocated-fits :
      {variable : VariableRecord} → RecordFits k w variable → (allocation : VarAlloc) → AllocFits k w allocation
      → RecordFits k w (allocated variable allocation)
  allocated-fits h allocation a = record { alloc = a; occurrences = h.occurrences; running = h.running }

  -- a record that comes out of a mark fits
  abbrev pub MadeFits : Option VariableRecord → Type 0
  MadeFits (Some variable) = RecordFits k w variable
  MadeFits None = Unit {0}

  abbrev pub SafeFits : Option MarkedSafe → Type 0
  SafeFits (Some (Safe variable)) = RecordFits k w variable
  SafeFits (Some FromTemporary) = Unit {0}
  SafeFits None = Unit {0}

  abbrev pub ValueFits : Option Valued → Type 0
  ValueFits (Some valued) = RecordFits k w valued.variable
  ValueFits None = Unit {0}

  module _ (variable : VariableRecord) (h : RecordFits k w variable) where
    -- ---- Met before

    argument_of-fits :
        (allocation : VarAlloc) → AllocFits k w allocation
        → (target : Target) (place : RegType) (n tail : ℕ) (branch : Branch)
        → ValueFits (argument_value_of allocation variable target place n tail branch)
    unfolding argument_value_of
    argument_of-fits (Temp context register safety to_perm) a target place n tail branch = h
    argument_of-fits (Perm slot Pending) a target place n tail branch = tt
    argument_of-fits (Perm slot (Done shallow deep)) a target place n tail branch =
        either ValueFits (argument_safe tail shallow branch) h (allocated-fits h _ a)

    subterm_of_fits :
        (allocation : VarAlloc) → AllocFits k w allocation → (target : Target) (place : RegType) (branch : Branch)
        → ValueFits (subterm_value_of allocation variable target place branch)
    unfolding subterm_value_of
    subterm_of_fits (Temp context register safety to_perm) a target place branch =
        either ValueFits (safety_unneeded safety branch) h (allocated-fits h _ a)
    subterm_of_fits (Perm slot Pending) a target place branch = tt
    subterm_of_fits (Perm slot (Done shallow deep)) a target place branch =
        either ValueFits (safety_unneeded deep branch) h (allocated-fits h _ a)

    -- ---- Met for the first time

    module _ (slot : ℕ) (a : AllocFits k w (Perm slot Pending)) (branch : Branch) where
      safe_in-fits : RecordFits k w (safe_in variable slot branch)
      unfolding safe_in
      safe_in-fits = allocated-fits h _ a

      safe_argument-fits : (deep : VarSafetyStatus) (context : GenContext) → SafeFits (Some (safe_argument variable slot deep context))
      safe_argument-fits deep Head = allocated-fits h _ a
      safe_argument-fits deep (Mid chunk) = tt
      safe_argument-fits deep (Last chunk) = tt

      safe_at-fits :
          (level : Level) (deep : VarSafetyStatus) (context : GenContext)
          → SafeFits (Some (safe_at level variable slot deep context branch))
      safe_at-fits Deep deep context = safe_in-fits
      safe_at-fits Root deep context = safe_argument-fits deep context
      safe_at-fits Shallow deep context = safe_argument-fits deep context

    safe_of_fits :
        (allocation : VarAlloc) → AllocFits k w allocation → (level : Level) (context : GenContext) (branch : Branch)
        → SafeFits (marked_safe_of allocation variable level context branch)
    safe_of_fits (Temp at register safety to_perm) a level context branch = allocated-fits h _ a
    safe_of_fits (Perm slot Pending) a level context branch = tt
    safe_of_fits (Perm slot (Done shallow deep)) a level context branch = safe_at-fits slot a branch level deep context

    unconditionally_of-fits :
        (allocation : VarAlloc) → AllocFits k w allocation → (branch : Branch) → MadeFits (unconditionally_of allocation variable branch)
    unconditionally_of-fits (Temp context register safety to_perm) a branch = allocated-fits h _ a
    unconditionally_of-fits (Perm slot Pending) a branch = tt
    unconditionally_of-fits (Perm slot (Done shallow deep)) a branch = safe_in-fits slot a branch

    remembered_of-fits :
        (allocation : VarAlloc) → AllocFits k w allocation → (v : ℕ) → v < k.count
        → MadeFits (remembered_of allocation variable v)
    remembered_of-fits (Temp context register safety to_perm) a v known =
        allocated-fits h (Temp context register safety v)
        (a.0, a.1, a.2, right_so (eqb v unset) (ltb v k.count) (lt-ltb v k.count known))
    remembered_of-fits (Perm slot allocation) a v known = tt

    -- ---- By the record's own allocation

    pub argument_fits :
        (target : Target) (place : RegType) (n tail : ℕ) (branch : Branch)
        → ValueFits (argument_value variable target place n tail branch)
    argument_fits = argument_of-fits variable.allocation h.alloc

    pub subterm_fits :
        (target : Target) (place : RegType) (branch : Branch)
        → ValueFits (subterm_value variable target place branch)
    subterm_fits = subterm_of_fits variable.allocation h.alloc

    pub safe_fits :
        (level : Level) (context : GenContext) (branch : Branch)
        → SafeFits (marked_safe variable level context branch)
    safe_fits = safe_of_fits variable.allocation h.alloc

    pub unconditionally_fits : (branch : Branch) → MadeFits (marked_unconditionally variable branch)
    unconditionally_fits = unconditionally_of-fits variable.allocation h.alloc

    pub remembered-fits : (v : ℕ) → v < k.count → MadeFits (remembered_perm variable v)
    remembered-fits = remembered_of-fits variable.allocation h.alloc
