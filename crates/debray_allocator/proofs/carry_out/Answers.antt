-- `debray_allocator::carry_out`: each event is what was called for it. Assumes nothing.
use mathlib.Core.Path.{refl}
use Rattle.debray_allocator.specs.DebrayAllocator.{with_recording, with_restricting, with_heading, only_counters, with_var_mark, with_mark, with_cut, with_counting, with_release_of, with_freed_register, with_stack, with_branch_step, with_clearing}
use Rattle.debray_allocator.specs.DebrayAllocatorLaws.{carried}
use Rattle.debray_allocator.proofs.carry_out.Goals as goal

pub returns-in-Temp : goal.returns-in-Temp
returns-in-Temp c =
    carried with_recording _ _ _ _ _ _ _ _
    c.in-Temp.is
    c.released.ensures
    c.add_temp.ensures
    refl
    refl

pub returns-in-Perm : goal.returns-in-Perm
returns-in-Perm c =
    carried with_recording _ _ _ _ _ _ _ _
    c.in-Perm.is
    c.released-in-Perm.ensures
    c.add_perm.ensures
    refl
    refl

pub returns-in-Sets : goal.returns-in-Sets
returns-in-Sets c =
    carried with_restricting _ _ _ _ _ _ _ _
    c.in-Sets.is
    c.plain.ensures
    c.populate.ensures
    refl
    refl

pub returns-in-Head : goal.returns-in-Head
returns-in-Head c =
    carried with_heading _ _ _ _ _ _ _ _
    c.in-Head.is
    c.plain-in-Head.ensures
    c.reset_at_head.ensures
    refl
    refl

pub returns-in-Args : goal.returns-in-Args
returns-in-Args c =
    carried only_counters _ _ _ _ _ _ _ _
    c.in-Args.is
    c.plain-in-Args.ensures
    c.reset_arg.ensures
    refl
    refl

pub returns-in-Var : goal.returns-in-Var
returns-in-Var c =
    carried with_var_mark _ _ _ _ _ _ _ _
    c.in-Var.is
    c.marked.ensures
    c.mark_var.ensures
    refl
    refl

pub returns-in-Anon : goal.returns-in-Anon
returns-in-Anon c =
    carried with_mark _ _ _ _ _ _ _ _
    c.in-Anon.is
    c.marked-in-Anon.ensures
    c.mark_anon_var.ensures
    refl
    refl

pub returns-in-NonVar : goal.returns-in-NonVar
returns-in-NonVar c =
    carried with_mark _ _ _ _ _ _ _ _
    c.in-NonVar.is
    c.marked-in-NonVar.ensures
    c.mark_non_var.ensures
    refl
    refl

pub returns-in-Cut : goal.returns-in-Cut
returns-in-Cut c =
    carried with_cut _ _ _ _ _ _ _ _
    c.in-Cut.is
    c.marked-in-Cut.ensures
    c.mark_cut_var.ensures
    refl
    refl

pub returns-in-Incr : goal.returns-in-Incr
returns-in-Incr c =
    carried with_counting _ _ _ _ _ _ _ _
    c.in-Incr.is
    c.refused.ensures
    c.increment_running_count.ensures
    refl
    refl

pub returns-in-Free : goal.returns-in-Free
returns-in-Free c =
    carried with_release_of _ _ _ _ _ _ _ _
    c.in-Free.is
    c.released-in-Free.ensures
    c.free_var.ensures
    refl
    refl

pub returns-in-Safe : goal.returns-in-Safe
returns-in-Safe c =
    carried with_counting _ _ _ _ _ _ _ _
    c.in-Safe.is
    c.refused-in-Safe.ensures
    c.mark_safe_var_unconditionally-refusal.ensures
    refl
    refl

pub returns-in-Give : goal.returns-in-Give
returns-in-Give c =
    carried with_freed_register _ _ _ _ _ _ _ _
    c.in-Give.is
    c.released-in-Give.ensures
    c.add_reg_to_free_list.ensures
    refl
    refl

pub returns-in-Tail : goal.returns-in-Tail
returns-in-Tail c =
    carried only_counters _ _ _ _ _ _ _ _
    c.in-Tail.is
    c.plain-in-Tail.ensures
    c.set_tail_position.ensures
    refl
    refl

pub returns-in-Next : goal.returns-in-Next
returns-in-Next c =
    carried only_counters _ _ _ _ _ _ _ _
    c.in-Next.is
    c.plain-in-Next.ensures
    c.advance_arg.ensures
    refl
    refl

pub returns-in-Open : goal.returns-in-Open
returns-in-Open c =
    carried with_stack _ _ _ _ _ _ _ _
    c.in-Open.is
    c.released-in-Open.ensures
    c.«open».ensures
    refl
    refl

pub returns-in-Arm : goal.returns-in-Arm
returns-in-Arm c =
    carried with_stack _ _ _ _ _ _ _ _
    c.in-Arm.is
    c.released-in-Arm.ensures
    c.arm.ensures
    refl
    refl

pub returns-in-Take : goal.returns-in-Take
returns-in-Take c =
    carried with_branch_step _ _ _ _ _ _ _ _
    c.in-Take.is
    c.released-in-Take.ensures
    c.take.ensures
    refl
    refl

pub returns-in-Close : goal.returns-in-Close
returns-in-Close c =
    carried with_branch_step _ _ _ _ _ _ _ _
    c.in-Close.is
    c.released-in-Close.ensures
    c.close.ensures
    refl
    refl

pub returns-in-Reset : goal.returns-in-Reset
returns-in-Reset c =
    carried with_clearing _ _ _ _ _ _ _ _
    c.in-Reset.is
    c.plain-in-Reset.ensures
    c.reset.ensures
    refl
    refl

pub returns-in-Contents : goal.returns-in-Contents
returns-in-Contents c =
    carried with_clearing _ _ _ _ _ _ _ _
    c.in-Contents.is
    c.plain-in-Contents.ensures
    c.reset_contents.ensures
    refl
    refl

pub returns-in-ClearFree : goal.returns-in-ClearFree
returns-in-ClearFree c =
    carried only_counters _ _ _ _ _ _ _ _
    c.in-ClearFree.is
    c.plain-in-ClearFree.ensures
    c.reset_free_list.ensures
    refl
    refl
