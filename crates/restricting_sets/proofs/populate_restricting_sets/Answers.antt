-- `restricting_sets::populate_restricting_sets`: the rows passed are made, in both tables. Assumes nothing.
use mathlib.Core.Path.{◌≡◌, refl, ap₂, ◌∙◌}
use native.Mathlib.Omega.{arith}
use Rattle.sizes.specs.Sizes.{variables}
use Rattle.restricting_sets.specs.Restricting.{no_use_of, conflict_at}
use Rattle.restricting_sets.specs.AnewLaws.{anew_none, anew_next, anew_end}
use Rattle.restricting_sets.proofs.populate_restricting_sets.Goals as goal

pub loop-v-init : goal.loop-v-init
loop-v-init c = (refl, refl, anew_none _ _, anew_none _ _)

pub loop-v-preserved : goal.loop-v-preserved
loop-v-preserved c =
    let inside = c.loop-v-test.true in
    let l = c.loop-v in
    let chunks = c.args.chunks.now in
    let restricted = c.no_use_of-restricted.ensures ∙ ap₂ (λ uses counts. no_use_of uses counts chunks c.load-no_use_set.result l.v) l.invariant.0 l.invariant.1 in
    let conflicting = c.conflict_of-conflicting.ensures ∙ ap₂ (λ uses counts. conflict_at uses counts chunks c.load-conflict_set.result l.v) l.invariant.0 l.invariant.1 in (
      l.invariant.0,
      l.invariant.1,
      anew_next _ _ l.v inside l.invariant.2 c.load-no_use_set.ensures restricted c.store.ensures,
      anew_next _ _ l.v inside l.invariant.3 c.load-conflict_set.ensures conflicting c.store-in-loop-v.ensures,
    )

pub returns : goal.returns
returns c =
    let l = c.loop-v in
    let all : l.v ≡ variables = omega arith in
    record {
      use_sets = l.invariant.0;
      use_counts = l.invariant.1;
      no_uses = l.invariant.2 ∙ anew_end _ _ l.v all;
      conflicts = l.invariant.3 ∙ anew_end _ _ l.v all;
    }
