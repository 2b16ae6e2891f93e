-- Laws of branches: the search for a temporary, a variable at a time; what is done for the members of a set only; and a
-- close or take that is not refused.
use Rattle.std.specs.Prelude.{ℕ, zero, suc, ◌+◌, ◌-◌, ◌≤◌, ◌≡◌, Bool, ◌&&◌, ◌||◌, List, [], ◌∷◌}
use Rattle.std.specs.List.{list_any, range_with_len}
use Rattle.std.proofs.Math.Path.{refl, ap, sym}
use Rattle.std.proofs.Common.{◌∙◌, arith, add-one}
use native.Mathlib.Numerals.{unary_clauses}
use Rattle.std.proofs.Math.Bool.{true, false}
use Rattle.std.specs.Prelude.{if◌then◌else◌, Ok}
use Rattle.bit_set.specs.BitSet.{has, inserted}
use Rattle.branch_stack.specs.declared.BranchOccurrences.{BranchOccurrences}
use Rattle.variable_records.specs.Rows.{is_temporary}
use Rattle.notation.specs.Lists.{numbers_from}
use Rattle.branches.specs.Lists.{members_among, members, each}
use Rattle.branches.specs.Branches.{names_temporary, no_guards, guards_at, guards_if_member, inserted_if, shallow_taken, deep_taken}
use Rattle.branches.specs.Branches.{rows_top, sets_top, with_subsumed, branch_met, variable_closed, occurrences_added, popped, left_on_top, records_popped, rows_popped, sets_popped}
use Rattle.branches.specs.Branches.{top_of, safety_taken, variable_pended, taken, records_taken, rows_taken, sets_taken}

-- ---- The search for a temporary

module _ (records : List ℕ) where
  module _ (set : ℕ) where
    -- whether a number is a member of a set, and a temporary
    abbrev pub temporary_member : ℕ → Bool
    temporary_member v = has set v && is_temporary records v

    member_next :
        (i : ℕ) (vs : List ℕ)
        → names_temporary records (members_among set (i ∷ vs)) ≡ (temporary_member i || names_temporary records (members_among set vs))
    unfolding names_temporary members_among
    member_next i vs =
        elim (has set i) as
        (λ t. names_temporary records (if t then i ∷ members_among set vs else members_among set vs)
        ≡ ((t && is_temporary records i) || names_temporary records (members_among set vs)))
        [ true ↦ refl | false ↦ refl ]

    -- the search of m numbers from i on, where no number from the next, j, up to the n-th is a member
    pub any_member :
        (i m n j : ℕ) → i + m ≡ j → m ≤ n → members_among set (numbers_from j (n - m)) ≡ []
        → list_any temporary_member (range_with_len i m) ≡ names_temporary records (members_among set (numbers_from i n))
    unfolding names_temporary numbers_from
    any_member i zero n j e h none =
        let here : i ≡ j = omega (arith, e) in
        let nowhere : members_among set (numbers_from i n) ≡ [] = rw here (simp unary_clauses at none) in
        sym (ap (names_temporary records) nowhere)
    any_member i (suc m) zero j e h none = absurd (omega arith)
    any_member i (suc m) (suc n) j e h none =
        let less : n - m ≡ suc n - suc m = omega arith in
        let later = any_member (suc i) m n j (omega (arith, e)) (omega arith) (rw less none) in
        let searched : list_any temporary_member (range_with_len (i + 1) m) ≡ names_temporary records (members_among set (numbers_from (suc i) n)) =
        rw (add-one i) later
        in
        ap (λ (t : Bool). temporary_member i || t) searched ∙ sym (member_next i (numbers_from (suc i) n))

-- ---- What is done for the members of a set only

module _ (records : List ℕ) (top : BranchOccurrences) (set v : ℕ) where
  pub shallow_if_member :
      inserted_if set v (guards_if_member records top v).shallow
      ≡ (if has top.subsumed_hits v then shallow_taken records top set v else set)
  unfolding guards_if_member inserted_if
  shallow_if_member =
      elim (has top.subsumed_hits v) as
      (λ t. inserted_if set v (if t then guards_at records top v else no_guards).shallow
      ≡ (if t then shallow_taken records top set v else set))
      [ true ↦ refl | false ↦ refl ]

  pub deep_if_member :
      inserted_if set v (guards_if_member records top v).deep
      ≡ (if has top.subsumed_hits v then deep_taken records top set v else set)
  unfolding guards_if_member inserted_if
  deep_if_member =
      elim (has top.subsumed_hits v) as
      (λ t. inserted_if set v (if t then guards_at records top v else no_guards).deep
      ≡ (if t then deep_taken records top set v else set))
      [ true ↦ refl | false ↦ refl ]

-- ---- A close that is not refused: `top` is the branch left on top, and `subsumed` what it has recorded then

module _
    (records rows sets : List ℕ) (opened depth : ℕ) (vs : List ℕ) (top : BranchOccurrences) (subsumed : ℕ)
    (closes : popped records rows sets opened depth vs ≡ Ok (opened - depth))
    (meets : top ≡ branch_met rows sets (opened - depth) opened)
    (joins : subsumed ≡ each inserted top.subsumed_hits vs)
  where
    left_on_top_lem : with_subsumed top subsumed ≡ occurrences_added (left_on_top records rows sets opened depth vs) vs
    left_on_top_lem = ap (with_subsumed top) joins ∙ ap (λ (b : BranchOccurrences). occurrences_added b vs) meets

    pub records_popped_lem : each (variable_closed top) records vs ≡ records_popped records rows sets opened depth vs
    unfolding records_popped
    records_popped_lem = simp closes (ap (λ (b : BranchOccurrences). each (variable_closed b) records vs) meets)

    pub rows_popped_lem : rows_top rows (opened - depth) (with_subsumed top subsumed) ≡ rows_popped records rows sets opened depth vs
    unfolding rows_popped
    rows_popped_lem = simp closes (ap (rows_top rows (opened - depth)) left_on_top_lem)

    pub sets_popped_lem : sets_top sets (opened - depth) (with_subsumed top subsumed) ≡ sets_popped records rows sets opened depth vs
    unfolding sets_popped
    sets_popped_lem = simp closes (ap (sets_top sets (opened - depth)) left_on_top_lem)

-- ---- A take that is not refused: `top` is the innermost branch, and `after` what becomes of it

module _
    (records rows sets : List ℕ) (opened : ℕ) (top after : BranchOccurrences)
    (takes : taken records rows sets opened ≡ Ok tt)
    (here : top ≡ top_of rows sets opened)
    (safety : after ≡ safety_taken records top)
  where
    pub records_taken_lem : each variable_pended records (members top.subsumed_hits) ≡ records_taken records rows sets opened
    unfolding records_taken
    records_taken_lem = simp takes (ap (λ (b : BranchOccurrences). each variable_pended records (members b.subsumed_hits)) here)

    pub rows_taken_lem : rows_top rows opened after ≡ rows_taken records rows sets opened
    unfolding rows_taken
    rows_taken_lem = simp takes (ap (rows_top rows opened) (safety ∙ ap (safety_taken records) here))

    pub sets_taken_lem : sets_top sets opened after ≡ sets_taken records rows sets opened
    unfolding sets_taken
    sets_taken_lem = simp takes (ap (sets_top sets opened) (safety ∙ ap (safety_taken records) here))
