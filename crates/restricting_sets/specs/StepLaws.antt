-- The steps of `sets`: after one use, after the uses of a variable, after those of all.
use Prim.Native.Nat.{ℕ, suc, ◌≤◌, ◌<◌}
use Rattle.std.specs.Prelude.{◌≡◌, refl, Bool, true, false, not, ◌&&◌, ◌||◌, List, eqb, ltb, length, Option, Some, None, is_some}
use Rattle.std.proofs.Math.Path.{sym, ap}
use Rattle.std.proofs.Common.{◌∙◌, arith}
use Rattle.std.proofs.lemmas.Bool.{false≢true}
use Rattle.std.proofs.Math.Bool.{and-true, and-false, or_assoc, or-false}
use Rattle.std.proofs.Math.ListN.{get_or}
use borrow.Author.Tests.{eq-eqb, ne_eqb, eqb-true, eqb-false, lt-ltb, le-ltb}
use Rattle.std.specs.Prelude.{if◌then◌else◌}
use Rattle.sizes.specs.Sizes.{variables, registers}
use Rattle.bit_set.specs.BitSet.{Set, has, inserted, union}
use Rattle.bit_set.specs.BitSetLaws.{has-union, set-union}
use Rattle.bit_set.specs.Collected.{collected, less}
use Rattle.bit_set.specs.CollectedLaws.{has-collected, collected-is, collected-same, set-less, has-less}
use Rattle.temp_var_data.specs.Lists.{any}
use Rattle.temp_var_data.specs.Uses.{last_context, use_code, register_of, uses_of, uses_register, contains_use, conflict_of}
use Rattle.temp_var_data.specs.UsesLaws.{register_of_use}
use Rattle.temp_var_data.specs.GivenLaws.{given_first, given_next, given_all}
use Rattle.restricting_sets.specs.Restricting.{below, chunk_of, is_temporary, before_or_free, restricts, no_use_in, no_use_of, conflict_at}
use Rattle.restricting_sets.specs.BelowLaws.{any-below-next}

-- a set to which nothing comes
nothing_more_lem : (s : ℕ) (more : ℕ → Bool) → Set s → ((r : ℕ) → more r ≡ false) → s ≡ collected (λ r. has s r || more r)
nothing_more_lem s more h e = collected-is s _ h (λ r k. rw (e r) (sym (or-false (has s r))))

-- ---- The uses of one variable, one by one: those in a context

module _ (context : ℕ) where
  abbrev pub is_in : ℕ → ℕ → Bool
  is_in r code = eqb (use_code context r) code

  unfoldable pub with_use : ℕ → ℕ → ℕ
  with_use given code = if is_in (register_of code) code then inserted given (register_of code) else given

  module _ (given code register : ℕ) (e : register ≡ register_of code) where
    pub use_elsewhere : (use_code context register ≡ code → ⊥) → given ≡ with_use given code
    unfolding with_use
    use_elsewhere other = rw (← e) (simp (ne_eqb _ _ other))

    pub use_inserted : use_code context register ≡ code → inserted given register ≡ with_use given code
    unfolding with_use
    use_inserted same = rw (← e) (simp (eq-eqb _ _ same))

  register_known : (code r : ℕ) → r ≤ registers → use_code context r ≡ code → r ≡ register_of code
  register_known code r h same = sym (register_of_use context r (omega arith)) ∙ ap register_of same

  -- a use is one of r in the context if its register is r and its context is the context
  same_use : (code r : ℕ) → r ≤ registers → is_in r code ≡ (is_in (register_of code) code && eqb r (register_of code))
  same_use code r h =
      let register : ℕ = register_of code in
      elim (eqb r register) as (λ t. eqb r register ≡ t → is_in r code ≡ (is_in register code && t)) [
        | true ↦ λ e. ap (λ (q : ℕ). is_in q code) (eqb-true r register e) ∙ sym (and-true (is_in register code))
        | false ↦ λ e. (let other = ne_eqb _ code (λ same. eqb-false r register e (register_known code r h same)) in
            other ∙ sym (and-false (is_in register code)))
      ]
      refl

  pub with_next :
      (use_set : List ℕ) (i before : ℕ) → before ≡ given_first is_in use_set i → i < length use_set
      → with_use before (get_or use_set i 0) ≡ given_first is_in use_set (suc i)
  unfolding with_use
  with_next use_set i before e h =
      let code : ℕ = get_or use_set i 0 in
      rw e (given_next is_in use_set i (register_of code) (is_in (register_of code) code) h (same_use code))

-- the registers that a use set has in the last goal of a chunk
unfoldable pub last_uses : List ℕ → ℕ → ℕ
last_uses use_set chunk = collected (λ r. contains_use use_set (use_code (last_context chunk) r))

pub with_all :
    (use_set : List ℕ) (chunk i : ℕ) → length use_set ≤ i → given_first (is_in (last_context chunk)) use_set i ≡ last_uses use_set chunk
unfolding last_uses contains_use
with_all use_set chunk i h = given_all (is_in (last_context chunk)) use_set i h

-- ---- What they keep from v

module _ (no_use_set last own u v : ℕ) where
  -- u ≠ v has the uses `last`, v those of `own`
  unfoldable pub with_last : ℕ
  with_last = collected (λ r. has no_use_set r || (not (eqb u v) && has last r && (ltb u v || not (has own r))))

  module _ (s : Set no_use_set) where
    pub with_own : u ≡ v → no_use_set ≡ with_last
    unfolding with_last
    with_own e = nothing_more_lem no_use_set _ s (λ r. simp (eq-eqb u v e))

    pub with_earlier_lem : Set last → (u ≡ v → ⊥) → u < v → union no_use_set last ≡ with_last
    unfolding with_last
    with_earlier_lem l other h =
        collected-is _ _ (set-union no_use_set last s l)
        (λ r k. has-union no_use_set last r ∙ simp (ne_eqb u v other, lt-ltb u v h, and-true))

    pub with_later : (u ≡ v → ⊥) → v ≤ u → union no_use_set (less last own) ≡ with_last
    unfolding with_last
    with_later other h =
        collected-is _ _ (set-union no_use_set (less last own) s (set-less last own))
        (λ r k. has-union no_use_set (less last own) r
        ∙ ap (λ (b : Bool). has no_use_set r || b) (has-less last own r k)
        ∙ simp (ne_eqb u v other, le-ltb u v h))

module _ (use_sets use_counts : List ℕ) (chunks : List (Option ℕ)) (v : ℕ) where
  -- ---- The uses of the variables below n, in the last goal of a chunk

  module _ (chunk : ℕ) where
    unfoldable pub with_below : ℕ → ℕ → ℕ
    with_below no_use_set n = collected (λ r. has no_use_set r || any (λ u. restricts use_sets use_counts chunks chunk u v r) (below n))

    pub below_none : (no_use_set : ℕ) → Set no_use_set → no_use_set ≡ with_below no_use_set 0
    unfolding with_below any below
    below_none no_use_set s = nothing_more_lem no_use_set _ s (λ r. refl)

    abbrev last : ℕ → ℕ
    last u = last_uses (uses_of use_sets use_counts u) chunk

    has_last :
        (u r : ℕ) → r ≤ registers
        → has (last u) r ≡ contains_use (uses_of use_sets use_counts u) (use_code (last_context chunk) r)
    unfolding last_uses
    has_last u r h = has-collected _ r h

    abbrev own : ℕ
    own = collected (uses_register (uses_of use_sets use_counts v))

    module _ (no_use_set n before : ℕ) (e : before ≡ with_below no_use_set n) where
      abbrev others : ℕ → Bool
      others r = any (λ u. restricts use_sets use_counts chunks chunk u v r) (below n)

      has-before : (r : ℕ) → r ≤ registers → has before r ≡ (has no_use_set r || others r)
      unfolding with_below
      has-before r h = ap (λ (s : ℕ). has s r) e ∙ has-collected _ r h

      one_more :
          (r : ℕ)
          → (has no_use_set r || any (λ u. restricts use_sets use_counts chunks chunk u v r) (below (suc n)))
          ≡ (has no_use_set r || others r || restricts use_sets use_counts chunks chunk n v r)
      one_more r =
          rw (any-below-next (λ u. restricts use_sets use_counts chunks chunk u v r) n)
          (sym (or_assoc (has no_use_set r) (others r) (restricts use_sets use_counts chunks chunk n v r)))

      pub below_permanent : is_temporary chunks n ≡ false → before ≡ with_below no_use_set (suc n)
      unfolding with_below restricts
      below_permanent permanent =
          e ∙ collected-same _ _ (λ r h. sym (one_more r ∙ simp (permanent, or-false)))

      pub below-temporary : is_temporary chunks n ≡ true → with_last before (last n) own n v ≡ with_below no_use_set (suc n)
      unfolding with_last with_below restricts before_or_free
      below-temporary temporary =
          collected-same _ _
          (λ r h. rw (has-before r h, has_last n r h, has-collected (uses_register (uses_of use_sets use_counts v)) r h)
          (sym (one_more r ∙ simp temporary)))

    pub below_all :
        (no_use_set n : ℕ) → n ≡ variables → chunk_of chunks v ≡ Some chunk
        → with_below no_use_set n ≡ no_use_of use_sets use_counts chunks no_use_set v
    unfolding with_below no_use_of
    below_all no_use_set n all e = ap (with_below no_use_set) all ∙ simp e

  -- ---- Whether v is a temporary at all

  pub no_use-kept : (no_use_set : ℕ) → is_temporary chunks v ≡ false → no_use_of use_sets use_counts chunks no_use_set v ≡ no_use_set
  unfolding no_use_of is_temporary
  no_use-kept no_use_set =
      elim (chunk_of chunks v) as (λ o. is_some o ≡ false → no_use_in use_sets use_counts chunks o no_use_set v ≡ no_use_set) [
        | None ↦ λ e. refl
        | Some chunk ↦ λ e. absurd (false≢true (sym e))
      ]

  pub conflict_kept :
      (conflict_set : ℕ) → is_temporary chunks v ≡ false → conflict_at use_sets use_counts chunks conflict_set v ≡ conflict_set
  unfolding conflict_at
  conflict_kept conflict_set e = simp e

  pub conflict_made :
      (conflict_set : ℕ) → is_temporary chunks v ≡ true
      → conflict_at use_sets use_counts chunks conflict_set v ≡ conflict_of (uses_of use_sets use_counts v)
  unfolding conflict_at
  conflict_made conflict_set e = simp e
