-- `other_marks::mark_non_var`: each way of the code is a case of the definition. Assumes nothing.
use Rattle.std.specs.Prelude.{◌≡◌}
use Rattle.std.proofs.Common.{⊎_elim}
use Rattle.forms.specs.declared.Level.TheVariants.{Root, Deep}
use Rattle.other_marks.specs.OtherMarks.{non_var_marked}
use Rattle.other_marks.proofs.mark_non_var.Goals as goal

pub returns-in-Root : goal.returns-in-Root
unfolding non_var_marked
returns-in-Root c =
    ⊎_elim
    (λ (root : c.args.level ≡ Root). simp (root, c.mark_cell.ensures))
    (λ (deep : c.args.level ≡ Deep). simp (deep, c.mark_cell.ensures))
    c.in-Root.is

pub returns-in-Shallow : goal.returns-in-Shallow
unfolding non_var_marked
returns-in-Shallow c = simp (c.in-Shallow.is, c.put_non_var_argument.ensures)
