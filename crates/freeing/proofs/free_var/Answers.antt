-- `freeing::free_var`: each way of the code is a case of the definition. Assumes nothing.
use mathlib.Core.Path.{ap, ◌∙◌}
use Rattle.freeing.specs.Freeing.{with_records, freed}
use Rattle.freeing.proofs.free_var.Goals as goal

pub returns-in-Temp : goal.returns-in-Temp
unfolding freed
returns-in-Temp c = simp (← c.load-variable.ensures, c.in-Temp.is)

pub returns-in-Perm : goal.returns-in-Perm
unfolding freed
returns-in-Perm c =
    ap (with_records _) c.add_perm_to_free_list.ensures
    ∙ simp (← c.load-variable.ensures, c.in-Perm.is, ← c.allocated.ensures, ← c.store.ensures)
