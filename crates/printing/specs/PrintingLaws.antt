-- Laws of printing: one byte, one text behind another, and what stands at each place afterwards.
use Prim.Native.Nat.{ℕ, suc, ◌+◌, ◌-◌, ◌≤◌, ◌<◌}
use Rattle.std.specs.Prelude.{◌≡◌, refl, List, [], ◌∷◌, ◌++◌, true, false, ◌↔◌, leb, set, take}
use Rattle.std.proofs.Math.Path.{ap}
use Rattle.std.proofs.Common.{sym, ◌∙◌, append_assoc, add-zero, add-suc, suc-add, length-append, take-append-drop, length-set, take_all, take-suc-set, drop-set-lt, le-leb, leb-true, leb-false}
use native.Mathlib.Omega.{arith}
use Rattle.std.proofs.Math.ListN.{length, get_or, drop, length-take, get_or-append}
use Rattle.std.proofs.lemmas.List.Edits.{sets}
use Rattle.std.proofs.Math.Seq.{length-sets, set_out, get_or-take, get_or-drop, get_or-append-add, length-take-le}
use Rattle.std.proofs.lemmas.List.{take-append-le}
use Rattle.std.proofs.lemmas.Bool.{lt-leb}
use Rattle.printing.specs.Printing.{printed, place_after, Put}

-- where the room has ended nothing is put
printed_past : (out : List ℕ) (at : ℕ) (text : List ℕ) → length out ≤ at → printed out at text ≡ out
unfolding printed
printed_past out at text h =
    rw (take_all at out h)
    (take-append-le (length out) out (text ++ drop (at + length text) out) (omega arith) ∙ take_all (length out) out (omega arith))

printed-nothing : (out : List ℕ) (at : ℕ) → printed out at [] ≡ out
unfolding printed
printed-nothing out at = rw (add-zero at, take-append-drop at out) (take_all (length out) out (omega arith))

-- ---- A text is put byte by byte

printed_cons :
    (out : List ℕ) (at c : ℕ) (text : List ℕ) → at < length out
    → printed (set out at c) (suc at) text ≡ printed out at (c ∷ text)
unfolding printed
printed_cons out at c text h =
    let e : at + suc (length text) ≡ suc at + length text = omega arith in
    rw (length-set, take-suc-set out at c h, drop-set-lt (suc at + length text) out at c (omega arith), e)
    (ap (λ (l : List ℕ). take (length out) l) (append_assoc (take at out) (c ∷ []) (text ++ drop (suc at + length text) out)))

printed_stores : (text out : List ℕ) (at : ℕ) → printed out at text ≡ sets out at text
printed_stores [] out at = printed-nothing out at
printed_stores (c ∷ text) out at =
    elim (leb (length out) at) as (λ t. leb (length out) at ≡ t → printed out at (c ∷ text) ≡ sets (set out at c) (suc at) text) [
      | true ↦ λ e. (let h = leb-true (length out) at e in
          rw (set_out out at c h)
          (printed_past out at (c ∷ text) h ∙ sym (sym (printed_stores text out (suc at)) ∙ printed_past out (suc at) text (omega arith))))
      | false ↦ λ e. sym (printed_cons out at c text (leb-false (length out) at e)) ∙ printed_stores text (set out at c) (suc at)
    ]
    refl

pub printed-length : (out : List ℕ) (at : ℕ) (text : List ℕ) → length (printed out at text) ≡ length out
printed-length out at text = ap length (printed_stores text out at) ∙ length-sets out at text

printed-one : (out : List ℕ) (at c : ℕ) → printed out at (c ∷ []) ≡ set out at c
printed-one out at c = printed_stores (c ∷ []) out at

stores_append : (x y out : List ℕ) (at : ℕ) → sets out at (x ++ y) ≡ sets (sets out at x) (at + length x) y
stores_append [] y out at = rw add-zero
stores_append (c ∷ x) y out at = stores_append x y (set out at c) (suc at) ∙ rw (suc-add, add-suc)

printed_append :
    (out : List ℕ) (at : ℕ) (x y : List ℕ) → printed (printed out at x) (at + length x) y ≡ printed out at (x ++ y)
printed_append out at x y =
    rw (printed_stores x out at, printed_stores y (sets out at x) (at + length x), printed_stores (x ++ y) out at)
    (sym (stores_append x y out at))

-- ---- One text behind another

place_fits_lem : (room at : ℕ) (text : List ℕ) → at + length text ≤ room → place_after room at text ≡ at + length text
unfolding place_after
place_fits_lem room at text h = simp (le-leb _ _ h)

place_past : (room at : ℕ) (text : List ℕ) → room < at + length text → place_after room at text ≡ room + 1
unfolding place_after
place_past room at text h = simp (lt-leb _ _ h)

-- the second text stands at the place after the first, in the lent bytes and for the place after both
printed_then :
    (out : List ℕ) (at : ℕ) (x y : List ℕ)
    → printed (printed out at x) (place_after (length out) at x) y ≡ printed out at (x ++ y)
printed_then out at x y =
    elim (leb (at + length x) (length out)) as
    (λ t. leb (at + length x) (length out) ≡ t → printed (printed out at x) (place_after (length out) at x) y ≡ printed out at (x ++ y)) [
      | true ↦ λ e. rw (place_fits_lem (length out) at x (leb-true _ _ e)) (printed_append out at x y)
      | false ↦ λ e. (let h = leb-false (at + length x) (length out) e in
          let l = printed-length out at x in
          rw (place_past (length out) at x h)
          (printed_past (printed out at x) (length out + 1) y (omega arith)
          ∙ sym (sym (printed_append out at x y) ∙ printed_past (printed out at x) (at + length x) y (omega arith))))
    ]
    refl

place_append : (room at : ℕ) (x y : List ℕ) → place_after room (at + length x) y ≡ place_after room at (x ++ y)
unfolding place_after
place_append room at x y =
    let e : at + length x + length y ≡ at + length (x ++ y) = omega (arith, length-append x y) in
    rw e

place_then :
    (room at : ℕ) (x y : List ℕ) → place_after room (place_after room at x) y ≡ place_after room at (x ++ y)
place_then room at x y =
    elim (leb (at + length x) room) as
    (λ t. leb (at + length x) room ≡ t → place_after room (place_after room at x) y ≡ place_after room at (x ++ y)) [
      | true ↦ λ e. rw (place_fits_lem room at x (leb-true _ _ e)) (place_append room at x y)
      | false ↦ λ e. (let h = leb-false (at + length x) room e in
          rw (place_past room at x h)
          (place_past room (room + 1) y (omega arith)
          ∙ sym (place_past room at (x ++ y) (omega (arith, length-append x y)))))
    ]
    refl

pub put-nothing : (out : List ℕ) (at : ℕ) → at ≤ length out → Put out at [] at out
put-nothing out at h =
    record {
      place = sym (place_fits_lem (length out) at [] (omega arith) ∙ omega arith);
      bytes = sym (printed-nothing out at);
    }

pub put_one : (out : List ℕ) (at c : ℕ) → at < length out → Put out at (c ∷ []) (at + 1) (set out at c)
put_one out at c h =
    record { place = sym (place_fits_lem (length out) at (c ∷ []) (omega arith)); bytes = sym (printed-one out at c) }

pub put_past :
    (out : List ℕ) (at : ℕ) (text : List ℕ)
    → length out < at + length text → length out ≤ at → Put out at text (length out + 1) out
put_past out at text h past =
    record { place = sym (place_past (length out) at text h); bytes = sym (printed_past out at text past) }

pub put-length :
    {out : List ℕ} {at : ℕ} {text : List ℕ} {next : ℕ} {after : List ℕ}
    → Put out at text next after → length after ≡ length out
put-length {out} {at} {text} p = ap length p.bytes ∙ printed-length out at text

-- what a second text finds where a first was put is what both find together
pub put_then :
    {out : List ℕ} {at : ℕ} {x : List ℕ} {next : ℕ} {after : List ℕ} {y : List ℕ} {last : ℕ} {end : List ℕ}
    → Put out at x next after → Put after next y last end → Put out at (x ++ y) last end
put_then {out} {at} {x} {y = y} p q =
    record {
      place = q.place ∙ rw (put-length p, p.place) (place_then (length out) at x y);
      bytes = q.bytes ∙ rw (p.bytes, p.place) (printed_then out at x y);
    }

-- and no second answer fits
pub put_unique :
    {out : List ℕ} {at : ℕ} {text : List ℕ} {next next' : ℕ} {after after' : List ℕ}
    → Put out at text next after → Put out at text next' after' → (next ≡ next') × (after ≡ after')
put_unique p q = (p.place ∙ sym q.place, p.bytes ∙ sym q.bytes)

-- all of a run of texts fitted exactly if the place after it is within the room
pub place_exactly : (room at : ℕ) (text : List ℕ) → (place_after room at text ≤ room) ↔ (at + length text ≤ room)
place_exactly room at text = (
  λ h. elim (leb (at + length text) room) as (λ t. leb (at + length text) room ≡ t → at + length text ≤ room) [
    | true ↦ λ e. leb-true _ _ e
    | false ↦ λ e. absurd (omega (arith, place_past room at text (leb-false (at + length text) room e)))
  ]
      refl,
  λ h. omega (arith, place_fits_lem room at text h),
)

-- ---- What stands at each place afterwards

module _ (out : List ℕ) (at : ℕ) (text : List ℕ) (i : ℕ) where
  -- the text, as far as there is room
  pub printed-text : i < length text → at + i < length out → get_or (printed out at text) (at + i) 0 ≡ get_or text i 0
  unfolding printed
  printed-text ht ho =
      let front : length (take at out) ≡ at = length-take-le at out (omega arith) in
      get_or-take (length out) _ (at + i) 0 ho
      ∙ ap (λ (k : ℕ). get_or (take at out ++ (text ++ drop (at + length text) out)) (k + i) 0) (sym front)
      ∙ get_or-append-add (take at out) (text ++ drop (at + length text) out) i 0
      ∙ get_or-append text (drop (at + length text) out) 0 i ht

  -- every byte before the text and every byte behind it stays
  pub printed-before : i < at → i < length out → get_or (printed out at text) i 0 ≡ get_or out i 0
  unfolding printed
  printed-before h ho =
      get_or-take (length out) _ i 0 ho
      ∙ get_or-append (take at out) (text ++ drop (at + length text) out) 0 i (omega (arith, length-take at out))
      ∙ get_or-take at out i 0 h

  pub printed-behind : at + length text ≤ i → i < length out → get_or (printed out at text) i 0 ≡ get_or out i 0
  unfolding printed
  printed-behind h ho =
      let front : length (take at out) ≡ at = length-take-le at out (omega arith) in
      let k : ℕ = i - (at + length text) in
      let whole : i ≡ length (take at out) + (length text + k) = omega arith in
      let there : at + length text + k ≡ i = omega arith in
      get_or-take (length out) _ i 0 ho
      ∙ ap (λ (j : ℕ). get_or (take at out ++ (text ++ drop (at + length text) out)) j 0) whole
      ∙ get_or-append-add (take at out) (text ++ drop (at + length text) out) (length text + k) 0
      ∙ get_or-append-add text (drop (at + length text) out) k 0
      ∙ get_or-drop (at + length text) out k 0
      ∙ ap (λ (j : ℕ). get_or out j 0) there
