-- `mark_var::instruct`: each way of the code is a case of the definition. Assumes nothing.
use Rattle.std.specs.Prelude.{◌≡◌}
use Rattle.std.proofs.Common.{⊎_elim}
use Rattle.forms.specs.declared.Level.TheVariants.{Root, Shallow}
use Rattle.mark_var.proofs.instruct.Goals as goal

pub returns-in-Deep : goal.returns-in-Deep
returns-in-Deep c = simp (← c.current_branch_designator-branch.ensures, c.in-Deep.is, ← c.put_subterm.ensures)

pub returns-in-Root : goal.returns-in-Root
returns-in-Root c =
    ⊎_elim
    (λ (root : c.args.mark.level ≡ Root). simp (← c.current_branch_designator-branch.ensures, root, c.mark_argument.ensures))
    (λ (shallow : c.args.mark.level ≡ Shallow). simp (← c.current_branch_designator-branch.ensures, shallow, c.mark_argument.ensures))
    c.in-Root.is
