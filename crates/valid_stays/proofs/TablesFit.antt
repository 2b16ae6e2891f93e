-- Mappings, the queue and the freed registers fit after one entry has changed.
use Rattle.std.specs.Prelude.{ℕ, ◌+◌, ◌-◌, ◌*◌, ◌%◌, ◌≤◌, ◌<◌, ◌≡◌, refl, true, false, List, eqb, leb, ltb, get_or, set, replicate}
use Rattle.std.proofs.Common.{sym, ap, subst, ◌∙◌, ⊎_elim, arith, get_or-set_same, get_or-set_other}
use Rattle.std.proofs.Math.Logic.{inl}
use Rattle.std.proofs.Math.Nat.{mod-mod, mod-add-mod}
use Rattle.std.proofs.Math.ListN.{length-set}
use Rattle.std.proofs.lemmas.List.{length-replicate, get_or-replicate}
use borrow.Author.Tests.{ltb-true, leb-true, leb-false, eqb-true, eqb-false, ne_eqb}
use Rattle.notation.specs.ChoiceLaws.{either, by_test}
use Rattle.sizes.specs.Sizes.{variables, registers, counters, freed_registers, freed_slots}
use Rattle.bit_set.specs.BitSet.{last_member, has, inserted, removed}
use Rattle.bit_set.specs.BitSetLaws.{has-inserted, inserted_outside}
use Rattle.bit_set.specs.DigitLaws.{has-and}
use Rattle.shallow_temp_mappings.specs.Mappings.{unmapped, mapped_at, mapped_with}
use Rattle.perm_free_list.specs.declared.FreedSlot.{FreedSlot}
use Rattle.perm_free_list.specs.PermFreeList.{entry_cells, entry_at, entry_put}
use Rattle.perm_free_list.specs.TableLaws.{entry_put-same, entry_put-other, entry_put-length}
use Rattle.allocator_state.specs.State.{counter_after}
use Rattle.valid_stays.specs.Fits.{Kinds, Placed, Counter, Temporary, Named, Mappings, EntryFits, Queue, Freed}

-- ---- Numbers

pub counter_after_lem : (n : ℕ) → Counter (counter_after n)
unfolding counter_after
counter_after_lem n =
    by_test Counter (ltb n counters) (λ e. record { some = omega arith; last = omega (arith, ltb-true n counters e) })
    (λ e. record { some = omega arith; last = omega arith })

-- a set without 0 stays so
pub inserted_usable : (s n : ℕ) → has s 0 ≡ false → 1 ≤ n → has (inserted s n) 0 ≡ false
inserted_usable s n h some =
    elim (leb n last_member) as (λ t. leb n last_member ≡ t → has (inserted s n) 0 ≡ false) [
      | true ↦ λ e. simp (has-inserted s n 0 (leb-true n last_member e), h, ne_eqb 0 n (omega arith))
      | false ↦ λ e. simp (inserted_outside s n (leb-false n last_member e), h)
    ]
    refl

pub removed_usable : (s n : ℕ) → has s 0 ≡ false → has (removed s n) 0 ≡ false
unfolding removed
removed_usable s n h = either (λ (t : ℕ). has t 0 ≡ false) (leb n last_member) (simp (has-and, h)) h

-- ---- Tables

turned :
    (f d i : ℕ)
    → ((f + d) % freed_slots % freed_slots + i) % freed_slots ≡ (f + (i + d)) % freed_slots
turned f d i =
    let same : f + d + i ≡ f + (i + d) = omega arith in
    rw (mod-mod (f + d) freed_slots, mod-add-mod (f + d) freed_slots i) (ap (λ (n : ℕ). n % freed_slots) same)

abbrev entry_from : List ℕ → ℕ → FreedSlot
entry_from list place = record { chunk = get_or list (place * entry_cells) 0; variable = get_or list (place * entry_cells + 1) 0 }

module _ (k : Kinds) where
  -- who is mapped, and not to none, is a temporary
  pub named-temporary : (v : ℕ) → Named k v → v < variables → Temporary k v
  named-temporary v name h = ⊎_elim (λ e. absurd (omega arith)) (λ t. t) name

  module _ {mappings : List ℕ} (all : Mappings k mappings) (r : ℕ) where
    pub mapped_at_lem : Named k (mapped_at mappings r)
    unfolding mapped_at
    mapped_at_lem = by_test (Named k) (leb r registers) (λ e. all.named r (omega (arith, leb-true r registers e))) (λ e. inl refl)

    module _ (v : ℕ) (name : Named k v) where
      set-named : (q : ℕ) → q < registers + 1 → Named k (get_or (set mappings r v) q 0)
      set-named q hq =
          elim (eqb q r) as (λ t. eqb q r ≡ t → Named k (get_or (set mappings r v) q 0)) [
            | true ↦ λ e.
                let same = eqb-true q r e in
                subst (λ (q : ℕ). Named k (get_or (set mappings r v) q 0)) (sym same)
                (subst (Named k) (sym (get_or-set_same mappings r v 0 (omega (arith, all.full)))) name)
            | false ↦ λ e. subst (Named k) (sym (get_or-set_other mappings r q v 0 (eqb-false q r e))) (all.named q hq)
          ]
          refl

      pub mapped_with_lem : Mappings k (mapped_with mappings r v)
      unfolding mapped_with
      mapped_with_lem =
          either (Mappings k) (leb r registers) (record { full = length-set mappings r v ∙ all.full; named = set-named }) all

  pub none_mapped : Mappings k (replicate (registers + 1) unmapped)
  none_mapped =
      record {
        full = length-replicate {A = ℕ} (registers + 1) unmapped;
        named = λ r h. inl (get_or-replicate (registers + 1) r unmapped 0 h);
      }

  -- the queue without its front, and with an entry behind its last
  entry_moved :
      (list : List ℕ) (first dropped i : ℕ) → i + dropped < freed_slots
      → entry_at list ((first % freed_slots + dropped % freed_slots) % freed_slots) i ≡ entry_at list first (i + dropped)
  entry_moved list first dropped i h =
      let d : dropped % freed_slots ≡ dropped = omega arith in
      let j : i % freed_slots ≡ i = omega arith in
      let s : (i + dropped) % freed_slots ≡ i + dropped = omega arith in
      ap (entry_from list) (rw (d, j, s) (turned (first % freed_slots) dropped i))

  module _ {first count : ℕ} {list : List ℕ} (queue : Queue k first count list) where
    pub queue_front :
        (dropped : ℕ) → dropped ≤ count → count ≤ freed_slots
        → Queue k ((first % freed_slots + dropped % freed_slots) % freed_slots) (count - dropped) list
    queue_front dropped less small =
        record {
          full = queue.full;
          entry = λ i h.
              subst (EntryFits k) (sym (entry_moved list first dropped i (omega arith))) (queue.entry (i + dropped) (omega arith));
        }

    module _ (entry : FreedSlot) (fits : EntryFits k entry) (room : count < freed_slots) where
      pushed_entry : (i : ℕ) → i < count + 1 → EntryFits k (entry_at (entry_put list first count entry) first i)
      pushed_entry i hi =
          elim (eqb count i) as (λ t. eqb count i ≡ t → EntryFits k (entry_at (entry_put list first count entry) first i)) [
            | true ↦ λ e.
                subst (λ (i : ℕ). EntryFits k (entry_at (entry_put list first count entry) first i)) (eqb-true count i e)
                (subst (EntryFits k) (sym (entry_put-same list first count entry queue.full)) fits)
            | false ↦ λ e.
                let differ = eqb-false count i e in
                subst (EntryFits k) (sym (entry_put-other list first count entry i room (omega arith) differ)) (queue.entry i (omega arith))
          ]
          refl

      pub queue_pushed : Queue k first (count + 1) (entry_put list first count entry)
      queue_pushed = record { full = entry_put-length list first count entry ∙ queue.full; entry = pushed_entry }

-- the freed registers with one more, and with fewer
pub freed_more :
    {count : ℕ} {list : List ℕ} → Freed count list → (r : ℕ) → Placed r → count < freed_registers
    → Freed (count + 1) (set list count r)
freed_more {count} {list} all r placed room =
    record {
      full = length-set list count r ∙ all.full;
      register = λ i h.
          elim (eqb i count) as (λ t. eqb i count ≡ t → Placed (get_or (set list count r) i 0)) [
            | true ↦ λ e.
                subst (λ (i : ℕ). Placed (get_or (set list count r) i 0)) (sym (eqb-true i count e))
                (subst Placed (sym (get_or-set_same list count r 0 (omega (arith, all.full)))) placed)
            | false ↦ λ e.
                let differ = eqb-false i count e in
                subst Placed (sym (get_or-set_other list count i r 0 differ)) (all.register i (omega arith))
          ]
          refl;
    }

pub freed_fewer : {count : ℕ} {list : List ℕ} → Freed count list → (left : ℕ) → left ≤ count → Freed left list
freed_fewer all left less = record { full = all.full; register = λ i h. all.register i (omega arith) }
