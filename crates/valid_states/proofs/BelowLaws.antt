-- Laws of a test that all numbers below a count pass, or all of a list: made from the first on it is the definition's, made
-- from the last on.
use Prim.Native.Nat.{ℕ, zero, suc, ◌+◌, ◌≤◌, ◌<◌}
use Rattle.std.specs.Prelude.{◌≡◌, refl, Bool, true, List, [], ◌∷◌, length, get_or, take, drop}
use Rattle.std.specs.List.{list_all, range_with_len}
use Rattle.std.proofs.Common.{ap, sym, ◌∙◌, eq-or-lt_of_le, length-take, arith}
use Rattle.std.proofs.Math.Seq.{get_or-take, get_or-drop}
use Rattle.std.proofs.Math.Logic.{⊎_elim}
use Rattle.notation.specs.ChoiceLaws.{both_true}
use Rattle.temp_var_data.specs.TestLaws.{same_tests}
use Rattle.valid_states.specs.ValidStates.{all_below}
use Rattle.valid_states.specs.ValidStatesLaws.{below_all, all_below_lem}

module _ (test : ℕ → Bool) where
  -- ---- A range

  each_of_range :
      (n a : ℕ) → list_all test (range_with_len a n) ≡ true → (i : ℕ) → a ≤ i → i < a + n → test i ≡ true
  each_of_range zero a h i l m = absurd (omega arith)
  each_of_range (suc n) a h i l m =
      let b = both_true (test a) (list_all test (range_with_len (a + 1) n)) h in
      ⊎_elim (λ same. ap test (sym same) ∙ b.0) (λ less. each_of_range n (a + 1) b.1 i (omega (arith, less)) (omega arith)) (eq-or-lt_of_le l)

  range_of_each : (n a : ℕ) → ((i : ℕ) → a ≤ i → i < a + n → test i ≡ true) → list_all test (range_with_len a n) ≡ true
  range_of_each zero a f = refl
  range_of_each (suc n) a f = simp (f a (omega arith) (omega arith), range_of_each n (a + 1) (λ i l m. f i (omega arith) (omega arith)))

  pub range-below : (n : ℕ) → list_all test (range_with_len 0 n) ≡ all_below n test
  range-below n =
      same_tests _ _
      (λ h. all_below_lem test n (λ i l. each_of_range n 0 h i (omega arith) (omega arith)))
      (λ h. range_of_each n 0 (λ i l m. below_all test n i h (omega arith)))

  -- ---- A list

  each_of_list : (ns : List ℕ) → list_all test ns ≡ true → (i : ℕ) → i < length ns → test (get_or ns i 0) ≡ true
  each_of_list [] h i l = absurd (omega arith)
  each_of_list (n ∷ ns) h zero l = (both_true (test n) (list_all test ns) h).0
  each_of_list (n ∷ ns) h (suc i) l = each_of_list ns (both_true (test n) (list_all test ns) h).1 i (omega arith)

  list_of_each : (ns : List ℕ) → ((i : ℕ) → i < length ns → test (get_or ns i 0) ≡ true) → list_all test ns ≡ true
  list_of_each [] f = refl
  list_of_each (n ∷ ns) f = simp (f 0 (omega arith), list_of_each ns (λ i l. f (suc i) (omega arith)))

  pub list-below : (ns : List ℕ) (n : ℕ) → length ns ≡ n → list_all test ns ≡ all_below n (λ i. test (get_or ns i 0))
  list-below ns n e =
      same_tests _ _
      (λ h. all_below_lem (λ i. test (get_or ns i 0)) n (λ i l. each_of_list ns h i (omega arith)))
      (λ h. list_of_each ns (λ i l. below_all (λ i. test (get_or ns i 0)) n i h (omega arith)))

  -- the first n of a list
  pub part-below :
      (ns : List ℕ) (n : ℕ) → n ≤ length ns → list_all test (take n ns) ≡ all_below n (λ i. test (get_or ns i 0))
  part-below ns n few =
      same_tests _ _
      (λ h. all_below_lem (λ i. test (get_or ns i 0)) n (λ i l. ap test (sym (get_or-take n ns i 0 l)) ∙ each_of_list (take n ns) h i (omega (arith, l, length-take n ns))))
      (λ h. list_of_each (take n ns) (λ i l.
      let m : i < n = omega (arith, l, length-take n ns) in
      ap test (get_or-take n ns i 0 m) ∙ below_all (λ i. test (get_or ns i 0)) n i h m))

  -- the n entries of a list from `first` on
  pub row-below :
      (ns : List ℕ) (first n : ℕ) → n ≤ length (drop first ns)
      → list_all test (take n (drop first ns)) ≡ all_below n (λ i. test (get_or ns (first + i) 0))
  row-below ns first n few =
      let part = λ (i : ℕ). test (get_or (drop first ns) i 0) in
      let whole = λ (i : ℕ). test (get_or ns (first + i) 0) in
      part-below (drop first ns) n few
      ∙ same_tests _ _
      (λ h. all_below_lem whole n (λ i l. ap test (sym (get_or-drop first ns i 0)) ∙ below_all part n i h l))
      (λ h. all_below_lem part n (λ i l. ap test (get_or-drop first ns i 0) ∙ below_all whole n i h l))
