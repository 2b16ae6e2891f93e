-- The stack of open branches stays valid: what is put at a level fits, and so do the sets that are joined.
use Rattle.std.specs.Prelude.{ℕ, zero, suc, ◌+◌, ◌-◌, ◌≤◌, ◌<◌, ◌≡◌, leb}
use Rattle.std.proofs.Math.Path.{refl}
use Rattle.std.proofs.Common.{sym, subst, ◌∙◌, ⊎_elim, arith}
use Rattle.std.proofs.Math.Bool.{true, false}
use Rattle.std.proofs.lemmas.Bool.{false≢true}
use mathlib.Core.List.{List, [], ◌∷◌}
use Rattle.std.proofs.Math.Dec.{eqb}
use borrow.Author.Tests.{eqb-true, eqb-false, leb-true, leb-false}
use Rattle.std.specs.Prelude.{if◌then◌else◌}
use Rattle.notation.specs.ChoiceLaws.{either, by_test}
use Rattle.notation.specs.Lists.{numbers_from}
use Rattle.refusals.specs.Refusals.{is_refused}
use Rattle.sizes.specs.Sizes.{variables, counts, open_branches}
use Rattle.bit_set.specs.BitSet.{last_member, has, empty_set, inserted, union}
use Rattle.bit_set.specs.BitSetLaws.{has-empty, has-inserted, inserted_outside, has-union}
use Rattle.forms.specs.declared.Branch.{Branch}
use Rattle.forms.specs.Forms.{default_branch}
use Rattle.branch_stack.specs.declared.BranchOccurrences.{BranchOccurrences}
use Rattle.branch_stack.specs.BranchStack.{occurrences_at, rows_put, sets_put, branch_opened}
use Rattle.branch_stack.specs.BranchStackLaws.{occurrences_put-same, occurrences_put-other, rows_put-length, sets_put-length}
use Rattle.branches.specs.Lists.{members, members_among}
use Rattle.branches.specs.Branches.{top_of, rows_top, sets_top, occurrence_added, recorded, rows_recorded, sets_recorded, record_refusal}
use Rattle.branches.specs.Branches.{shallow_joined, deep_joined, branch_met, occurrences_added, inserted_if, shallow_taken, deep_taken, guards_at, safety_taken}
use Rattle.invariants.specs.Lists.{All, each_keeps}
use Rattle.valid_stays.specs.Tests.{one_of}
use Rattle.valid_stays.specs.Fits.{Kinds, AllIn, Permanent, Variable, BranchFits, Branches}

-- ---- Sets

module _ (P : ℕ → Type 0) where
  pub all_empty : AllIn P empty_set
  all_empty v h e = absurd (false≢true (sym (has-empty v) ∙ e))

  pub all_inserted : (set n : ℕ) → AllIn P set → P n → AllIn P (inserted set n)
  all_inserted set n all p v h =
      elim (leb n last_member) as (λ t. leb n last_member ≡ t → has (inserted set n) v ≡ true → P v) [
        | true ↦ λ e member.
            ⊎_elim (all v h) (λ same. subst P (sym (eqb-true v n same)) p)
            (one_of (has set v) (eqb v n) (sym (has-inserted set n v (leb-true n last_member e)) ∙ member))
        | false ↦ λ e member. all v h (subst (λ (s : ℕ). has s v ≡ true) (inserted_outside set n (leb-false n last_member e)) member)
      ]
      refl

  pub all_union : (set other : ℕ) → AllIn P set → AllIn P other → AllIn P (union set other)
  all_union set other all more v h member =
      ⊎_elim (all v h) (more v h) (one_of (has set v) (has other v) (sym (has-union set other v) ∙ member))

  -- the members of a set, as a list
  pub all_members : (set : ℕ) → AllIn P set → (vs : List ℕ) → All (λ v. v < variables) vs → All P (members_among set vs)
  unfolding members_among
  all_members set all [] small = tt
  all_members set all (v ∷ vs) small =
      by_test (All P) (has set v) (λ e. (all v small.0 e, all_members set all vs small.1))
      (λ e. all_members set all vs small.1)

pub numbers_below_lem : (end first n : ℕ) → first + n ≤ end → All (λ v. v < end) (numbers_from first n)
unfolding numbers_from
numbers_below_lem end first zero h = tt
numbers_below_lem end first (suc n) h = (omega arith, numbers_below_lem end (suc first) n (omega arith))

module _ (k : Kinds) where
  pub opened-fits : (branch : Branch) (arms : ℕ) → arms ≤ counts → BranchFits k (branch_opened branch arms)
  opened-fits branch arms small =
      record {
        arms = small;
        arm = omega arith;
        shallow = all_empty (Variable k);
        deep = all_empty (Variable k);
        hits = all_empty (Permanent k);
      }

  -- ---- The levels

  module _ {opened : ℕ} {rows sets : List ℕ} (all : Branches k opened rows sets) where
    pub fewer_levels : (left : ℕ) → left ≤ opened → Branches k left rows sets
    fewer_levels left less =
        record { rows_full = all.rows_full; sets_full = all.sets_full; level = λ level h. all.level level (omega arith) }

    pub top_fits : BranchFits k (top_of rows sets opened)
    unfolding top_of
    top_fits =
        by_test (BranchFits k) (eqb opened 0) (λ e. opened-fits default_branch 0 (omega arith))
        (λ e. (let some = eqb-false opened 0 e in all.level (opened - 1) (omega arith)))

    module _ (at : ℕ) (inside : at < open_branches) (branch : BranchOccurrences) (fits : BranchFits k branch) where
      put-level :
          (level : ℕ) → level < open_branches → ((level ≡ at → ⊥) → level < opened)
          → BranchFits k (occurrences_at (rows_put rows at branch) (sets_put sets at branch) level)
      put-level level small others =
          elim (eqb level at) as
          (λ t. eqb level at ≡ t → BranchFits k (occurrences_at (rows_put rows at branch) (sets_put sets at branch) level)) [
            | true ↦ λ e.
                subst (λ (level : ℕ). BranchFits k (occurrences_at (rows_put rows at branch) (sets_put sets at branch) level))
                (sym (eqb-true level at e))
                (subst (BranchFits k) (sym (occurrences_put-same rows sets at branch all.rows_full all.sets_full)) fits)
            | false ↦ λ e.
                let differ = eqb-false level at e in
                subst (BranchFits k) (sym (occurrences_put-other rows sets at branch level inside small (λ same. differ (sym same))))
                (all.level level (others differ))
          ]
          refl

      -- the stack afterwards, as many levels of it as were there or are put
      pub branches_put :
          (count : ℕ) → count ≤ open_branches → ((level : ℕ) → level < count → (level ≡ at → ⊥) → level < opened)
          → Branches k count (rows_put rows at branch) (sets_put sets at branch)
      branches_put count small others =
          record {
            rows_full = rows_put-length rows at branch ∙ all.rows_full;
            sets_full = sets_put-length sets at branch ∙ all.sets_full;
            level = λ level h. put-level level (omega arith) (others level h);
          }

    module _ (small : opened ≤ open_branches) where
      pub top_put :
          (branch : BranchOccurrences) → BranchFits k branch
          → Branches k opened (rows_top rows opened branch) (sets_top sets opened branch)
      unfolding rows_top sets_top
      top_put branch fits =
          elim (eqb opened 0) as
          (λ t. eqb opened 0 ≡ t
          → Branches k opened (if t then rows else rows_put rows (opened - 1) branch) (if t then sets else sets_put sets (opened - 1) branch)) [
            | true ↦ λ e. all
            | false ↦ λ e.
                let some = eqb-false opened 0 e in
                branches_put (opened - 1) (omega arith) branch fits opened small (λ level h other. h)
          ]
          refl

      -- ---- An occurrence

      pub branches_recorded :
          (v : ℕ) → Permanent k v → Branches k opened (rows_recorded rows sets opened v) (sets_recorded rows sets opened v)
      unfolding rows_recorded sets_recorded
      branches_recorded v permanent =
          let top = top_of rows sets opened in
          let t = top_fits in
          let put = top_put (occurrence_added top v)
          (record {
            arms = t.arms;
            arm = t.arm;
            shallow = t.shallow;
            deep = t.deep;
            hits = all_inserted (Permanent k) top.subsumed_hits v t.hits permanent;
          }) in
          elim (is_refused (record_refusal (recorded rows sets opened))) as
          (λ t. Branches k opened
          (if t then rows else rows_top rows opened (occurrence_added top v))
          (if t then sets else sets_top sets opened (occurrence_added top v)))
          [ true ↦ all | false ↦ put ]

  module _ {opened : ℕ} {rows sets : List ℕ} (all : Branches k opened rows sets) where
    -- ---- `close`: the branch left on top, joined by the levels removed

    module _ (left : ℕ) (less : left ≤ opened) where
      met-fits : BranchFits k (branch_met rows sets left opened)
      unfolding branch_met
      met-fits =
          let t = top_fits (fewer_levels all left less) in
          let top = top_of rows sets left in
          let removed = numbers_below_lem opened left (opened - left) (omega arith) in
          record {
            arms = t.arms;
            arm = t.arm;
            shallow = each_keeps (AllIn (Variable k)) (λ level. level < opened) (shallow_joined rows sets)
                (λ set level h p. all_union (Variable k) set (occurrences_at rows sets level).shallow_safety p (all.level level h).shallow)
                top.shallow_safety (numbers_from left (opened - left)) removed t.shallow;
            deep = each_keeps (AllIn (Variable k)) (λ level. level < opened) (deep_joined rows sets)
                (λ set level h p. all_union (Variable k) set (occurrences_at rows sets level).deep_safety p (all.level level h).deep)
                top.deep_safety (numbers_from left (opened - left)) removed t.deep;
            hits = t.hits;
          }

      pub branches_popped :
          opened ≤ open_branches → (vs : List ℕ) → All (Permanent k) vs
          → Branches k left
          (rows_top rows left (occurrences_added (branch_met rows sets left opened) vs))
          (sets_top sets left (occurrences_added (branch_met rows sets left opened) vs))
      branches_popped small vs permanent =
          let t = met-fits in
          top_put (fewer_levels all left less) (omega arith) (occurrences_added (branch_met rows sets left opened) vs)
          (record {
            arms = t.arms;
            arm = t.arm;
            shallow = t.shallow;
            deep = t.deep;
            hits = each_keeps (AllIn (Permanent k)) (Permanent k) inserted (λ set v p all. all_inserted (Permanent k) set v all p)
                (branch_met rows sets left opened).subsumed_hits vs permanent t.hits;
          })

    -- ---- `take`

    pub hits_permanent : All (Permanent k) (members (top_of rows sets opened).subsumed_hits)
    hits_permanent =
        all_members (Permanent k) (top_of rows sets opened).subsumed_hits (top_fits all).hits (numbers_from 0 variables)
        (numbers_below_lem variables 0 variables (omega arith))

    taken-fits : (records : List ℕ) → BranchFits k (safety_taken records (top_of rows sets opened))
    unfolding safety_taken inserted_if
    taken-fits records =
        let t = top_fits all in
        let top = top_of rows sets opened in
        let Within = AllIn (Variable k) in
        record {
          arms = t.arms;
          arm = t.arm;
          shallow = each_keeps Within (Permanent k) (shallow_taken records top)
              (λ set v p all. either Within (guards_at records top v).shallow (all_inserted (Variable k) set v all p.0) all)
              top.shallow_safety (members top.subsumed_hits) hits_permanent t.shallow;
          deep = each_keeps Within (Permanent k) (deep_taken records top)
              (λ set v p all. either Within (guards_at records top v).deep (all_inserted (Variable k) set v all p.0) all)
              top.deep_safety (members top.subsumed_hits) hits_permanent t.deep;
          hits = all_empty (Permanent k);
        }

    pub branches_taken :
        opened ≤ open_branches → (records : List ℕ)
        → Branches k opened
        (rows_top rows opened (safety_taken records (top_of rows sets opened)))
        (sets_top sets opened (safety_taken records (top_of rows sets opened)))
    branches_taken small records = top_put all small (safety_taken records (top_of rows sets opened)) (taken-fits records)
