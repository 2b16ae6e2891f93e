-- `marks::alloc_reg_to_var`: each way of the code is a case of the definition. Assumes nothing.
use Rattle.std.specs.Prelude.{◌≡◌}
use Rattle.std.proofs.Common.{⊎_elim}
use Rattle.forms.specs.declared.Level.TheVariants.{Root, Deep}
use Rattle.marks.proofs.alloc_reg_to_var.Goals as goal

pub returns-in-Root : goal.returns-in-Root
returns-in-Root c =
    ⊎_elim
    (λ (root : c.args.level ≡ Root). simp (root, c.alloc_apart.ensures))
    (λ (deep : c.args.level ≡ Deep). simp (deep, c.alloc_apart.ensures))
    c.in-Root.is

pub returns-in-Mid : goal.returns-in-Mid
returns-in-Mid c = simp (c.in-Shallow.is, c.in-Mid.is, c.alloc_apart-in-Mid.ensures)

pub returns-in-Head : goal.returns-in-Head
returns-in-Head c = simp (c.in-Shallow.is, c.in-Head.is, c.alloc_shallow.ensures)

pub returns-in-Last : goal.returns-in-Last
returns-in-Last c = simp (c.in-Shallow.is, c.in-Last.is, c.alloc_shallow-in-Last.ensures)
