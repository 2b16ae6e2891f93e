-- Safety: where handing on a value has to be guarded.
use Rattle.std.specs.Prelude.{Bool, true, false, ltb}
use Rattle.std.specs.Prelude.{if◌then◌else◌}
use Rattle.forms.specs.declared.Branch.{Branch}
use Rattle.forms.specs.Forms.{has_as_subbranch}
use Rattle.variable_records.specs.declared.VarSafetyStatus.{VarSafetyStatus}
use Rattle.variable_records.specs.declared.VarSafetyStatus.TheVariants.{Needed, LocallyUnneeded, GloballyUnneeded}

-- rule 11.2: unneeded in a branch, or everywhere where the branch starts at 0
unfoldable pub unneeded_in : Branch → VarSafetyStatus
unneeded_in branch = if ltb 0 branch.start then LocallyUnneeded branch else GloballyUnneeded

-- rule 15.6: Needed where the variable is to be guarded, and otherwise unneeded in the branch
unfoldable pub needed_if : Bool → Branch → VarSafetyStatus
needed_if needed branch = if needed then Needed else unneeded_in branch

-- rule 11.1: unneeded in a branch, if it is unneeded everywhere or in a branch that contains this one
abbrev pub safety_unneeded : VarSafetyStatus → Branch → Bool
safety_unneeded Needed branch = false
safety_unneeded (LocallyUnneeded planter) branch = has_as_subbranch planter branch
safety_unneeded GloballyUnneeded branch = true
