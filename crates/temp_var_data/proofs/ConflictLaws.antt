-- Laws of conflict sets: what is a member, and how the two loops that make one do.
use Rattle.std.specs.Prelude.{ℕ, suc, ◌+◌, ◌≤◌, ◌<◌, max, ◌≡◌, refl, Bool, true, false, not, ◌&&◌, ◌||◌, List, [], ◌∷◌, ◌↔◌, length, get_or, take}
use Rattle.std.proofs.Common.{sym, ◌∙◌, arith, take_all, leb-true, le-leb, ltb-true, lt-ltb, eqb-true}
use Rattle.std.proofs.lemmas.Bool.{false≢true, eqb-false, not-true}
use Rattle.std.proofs.Math.Bool.{and-true, or-true, or-false}
use Rattle.std.proofs.Math.Dec.{eqb}
use Rattle.notation.specs.ChoiceLaws.{both_true}
use Rattle.sizes.specs.Sizes.{registers}
use Rattle.bit_set.specs.BitSet.{has, empty_set, inserted, removed}
use Rattle.bit_set.specs.Collected.{collected_below, collected}
use Rattle.bit_set.specs.CollectedLaws.{has-collected, collected-same, inserted-collected, removed-collected}
use Rattle.temp_var_data.specs.TestLaws.{refuted, same_tests}
use Rattle.temp_var_data.specs.Lists.{any, ◌∈◌}
use Rattle.temp_var_data.specs.ListLaws.{any_passed}
use Rattle.temp_var_data.specs.Uses.{last_context, use_code, register_of, uses_register, is_up_to, up_to, conflict_of}
use Rattle.temp_var_data.specs.UsesLaws.{uses_register_exactly}

-- ---- Members

is_up_to_lem : (end r : ℕ) → is_up_to end r ≡ true → (1 ≤ r) × (r < end)
is_up_to_lem end r e = let b = both_true _ _ e in (leb-true 1 r b.0, ltb-true r end b.1)

up_to-is : (end r : ℕ) → 1 ≤ r → r < end → is_up_to end r ≡ true
up_to-is end r low high = simp (le-leb _ _ low, lt-ltb _ _ high)

-- rule 7.3: the conflict set has r exactly if r is 1 or more, below the number of entries, and no entry has it
pub conflict_exactly :
    (use_set : List ℕ) (r : ℕ) → r ≤ registers
    → (has (conflict_of use_set) r ≡ true) ↔ ((1 ≤ r) × (r < length use_set) × ((code : ℕ) → code ∈ use_set → r ≡ register_of code → ⊥))
unfolding conflict_of
conflict_exactly use_set r h =
    let member = has-collected (λ r. is_up_to (length use_set) r && not (uses_register use_set r)) r h in
    let used = uses_register_exactly use_set r in (
      λ e. (let b = both_true _ _ (sym member ∙ e) in
          let u = is_up_to_lem (length use_set) r b.0 in (
            u.0,
            u.1,
            λ code s same. false≢true (sym (not-true _ b.1) ∙ used.1 (code, s, same)),
          )),
      λ s. member ∙ simp (up_to-is (length use_set) r s.0 s.1, refuted _ (λ e. (let u = used.0 e in s.2 u.0 u.1 u.2))),
    )

-- rule 24.3: of the uses l1:1, l1:4, l1:5 the conflict set is {2}
pub conflict_of-sheet_3 :
    conflict_of (use_code (last_context 1) 1 ∷ use_code (last_context 1) 4 ∷ use_code (last_context 1) 5 ∷ []) ≡ inserted empty_set 2
unfolding conflict_of collected collected_below uses_register any inserted
conflict_of-sheet_3 = refl

-- ---- The loop that inserts

pub up_to_start : empty_set ≡ up_to 1
unfolding up_to collected collected_below inserted
up_to_start = refl

up_to-same : (m n r : ℕ) → (1 ≤ r → r < m → r < n) → (1 ≤ r → r < n → r < m) → is_up_to m r ≡ is_up_to n r
up_to-same m n r f g =
    same_tests (is_up_to m r) (is_up_to n r)
    (λ e. (let b = is_up_to_lem m r e in up_to-is n r b.0 (f b.0 b.1)))
    (λ e. (let b = is_up_to_lem n r e in up_to-is m r b.0 (g b.0 b.1)))

one_more : (n r : ℕ) → 1 ≤ n → (is_up_to n r || eqb r n) ≡ is_up_to (n + 1) r
one_more n r h =
    elim (eqb r n) as (λ t. eqb r n ≡ t → (is_up_to n r || t) ≡ is_up_to (n + 1) r) [
      | true ↦ λ e. (let same = eqb-true r n e in or-true (is_up_to n r) ∙ sym (up_to-is (n + 1) r (omega arith) (omega arith)))
      | false ↦ λ e. (let other = eqb-false r n e in or-false (is_up_to n r) ∙ up_to-same n (n + 1) r (λ l u. omega arith) (λ l u. omega (arith, other)))
    ]
    refl

pub up_to-next : (n : ℕ) → 1 ≤ n → inserted (up_to n) n ≡ up_to (n + 1)
unfolding up_to
up_to-next n h = inserted-collected (is_up_to n) n ∙ collected-same _ _ (λ r k. one_more n r h)

pub up_to-end : (end n : ℕ) → end ≤ n → n ≤ max 1 end → up_to n ≡ up_to end
unfolding up_to
up_to-end end n h k = collected-same (is_up_to n) (is_up_to end) (λ r m. up_to-same n end r (λ l u. omega arith) (λ l u. omega arith))

-- ---- The loop that removes: so many uses have been passed

unfoldable pub without_first : List ℕ → ℕ → ℕ
without_first use_set i = collected (λ r. is_up_to (length use_set) r && not (uses_register (take i use_set) r))

pub without-none : (use_set : List ℕ) → up_to (length use_set) ≡ without_first use_set 0
unfolding up_to without_first uses_register any
without-none use_set = collected-same _ _ (λ r h. sym (and-true (is_up_to (length use_set) r)))

less_both : (a b c : Bool) → (a && not b && not c) ≡ (a && not (b || c))
less_both false b c = refl
less_both true true c = refl
less_both true false c = refl

module _ (use_set : List ℕ) (i : ℕ) (h : i < length use_set) where
  used_next :
      (r : ℕ) → uses_register (take (suc i) use_set) r ≡ (uses_register (take i use_set) r || eqb r (register_of (get_or use_set i 0)))
  unfolding uses_register
  used_next r = any_passed (λ code. eqb r (register_of code)) use_set i h

  pub without-next : removed (without_first use_set i) (register_of (get_or use_set i 0)) ≡ without_first use_set (suc i)
  unfolding without_first
  without-next =
      removed-collected _ (register_of (get_or use_set i 0))
      ∙ collected-same _ _
      (λ r k. rw (used_next r) (less_both (is_up_to (length use_set) r) (uses_register (take i use_set) r) (eqb r (register_of (get_or use_set i 0)))))

pub without_all : (use_set : List ℕ) (i : ℕ) → length use_set ≤ i → without_first use_set i ≡ conflict_of use_set
unfolding without_first conflict_of
without_all use_set i h = rw (take_all i use_set h)
