-- Laws of texts at the front of lent bytes, of which nothing is said past the text.
use Rattle.std.specs.Prelude.{ℕ, ◌+◌, ◌≤◌, ◌<◌, ◌≡◌, refl, true, false, leb}
use Rattle.std.proofs.Math.Path.{ap, ap₂}
use Rattle.std.proofs.Common.{sym, subst, ◌∙◌, zero-add, arith, length-take, take-take, leb-true, leb-false}
use mathlib.Core.List.{List, ◌++◌, append_assoc}
use Rattle.std.proofs.Math.ListN.{length, take, drop, length-append}
use Rattle.std.proofs.Math.Seq.{take_all, take-append-le, length-take-le}
use Rattle.printing.specs.Printing.{printed}
use Rattle.printing.specs.PrintingLaws.{printed-length, put_past}
use Rattle.bundles.specs.Running.{Fronts}

-- ---- As many bytes of a list as there are, or fewer

-- the front of a front is the shorter of both
take-either : (a b : ℕ) (l : List ℕ) → take a (take b l) ≡ take b (take a l)
take-either a b l =
    elim (leb a b) as (λ t. leb a b ≡ t → take a (take b l) ≡ take b (take a l)) [
      | true ↦ λ e. (let h : a ≤ b = leb-true a b e in
          take-take a b l h ∙ sym (take_all b (take a l) (omega (arith, length-take a l))))
      | false ↦ λ e. (let h : b < a = leb-false a b e in
          take_all a (take b l) (omega (arith, length-take b l)) ∙ sym (take-take b a l (omega arith)))
    ]
    refl

-- what finds no room there is left out whatever follows
take_again : (n : ℕ) (x y : List ℕ) → take n (take n x ++ y) ≡ take n (x ++ y)
take_again n x y =
    elim (leb (length x) n) as (λ t. leb (length x) n ≡ t → take n (take n x ++ y) ≡ take n (x ++ y)) [
      | true ↦ λ e. ap (λ (l : List ℕ). take n (l ++ y)) (take_all n x (leb-true (length x) n e))
      | false ↦ λ e. (let h : n < length x = leb-false (length x) n e in
          take-append-le n (take n x) y (omega (arith, length-take-le n x (omega arith)))
          ∙ take-take n n x (omega arith)
          ∙ sym (take-append-le n x y (omega arith)))
    ]
    refl

-- ---- A text that is printed stands there

-- past the room nothing is put
printed_past : (out : List ℕ) (at : ℕ) (text : List ℕ) → length out < at → printed out at text ≡ out
printed_past out at text h = sym (put_past out at text (omega arith) (omega arith)).bytes

-- the bytes before its place are as they were
kept-before : (out : List ℕ) (at : ℕ) (text : List ℕ) → take at (printed out at text) ≡ take at out
unfolding printed
kept-before out at text =
    elim (leb at (length out)) as (λ t. leb at (length out) ≡ t → take at (printed out at text) ≡ take at out) [
      | true ↦ λ e. (let h : at ≤ length out = leb-true at (length out) e in
          take-take at (length out) (take at out ++ (text ++ drop (at + length text) out)) h
          ∙ take-append-le at (take at out) (text ++ drop (at + length text) out) (omega (arith, length-take-le at out h))
          ∙ take-take at at out (omega arith))
      | false ↦ λ e. ap (take at) (printed_past out at text (leb-false at (length out) e))
    ]
    refl

-- a text printed into bytes that are the same before its place
module _ (out base : List ℕ) (at : ℕ) (text : List ℕ) (size : length base ≡ length out) (same : take at base ≡ take at out) where
  front_within : at ≤ length out → take (at + length text) (printed base at text) ≡ take (length out) (take at out ++ text)
  unfolding printed
  front_within h =
      let tail = drop (at + length text) base in
      let before = take at base in
      let n : length (before ++ text) ≡ at + length text = omega (arith, length-append before text, length-take-le at base (omega arith)) in
      take-either (at + length text) (length base) (before ++ (text ++ tail))
      ∙ ap (take (length base))
      (ap (take (at + length text)) (sym (append_assoc before text tail))
      ∙ take-append-le (at + length text) (before ++ text) tail (omega arith)
      ∙ take_all (at + length text) (before ++ text) (omega arith))
      ∙ ap₂ (λ (k : ℕ) (l : List ℕ). take k (l ++ text)) size same

  front_past : length out < at → take (at + length text) (printed base at text) ≡ take (length out) (take at out ++ text)
  front_past h =
      let whole : take at base ≡ base = take_all at base (omega arith) in
      let all : take at out ≡ out = take_all at out (omega arith) in
      ap (take (at + length text)) (printed_past base at text (omega arith))
      ∙ take_all (at + length text) base (omega arith)
      ∙ sym whole
      ∙ same
      ∙ all
      ∙ sym (take_all (length out) out (omega arith))
      ∙ sym (take-append-le (length out) out text (omega arith))
      ∙ ap (λ (l : List ℕ). take (length out) (l ++ text)) (sym all)

  pub fronts_same : Fronts out at text (printed base at text)
  fronts_same =
      record {
        front = elim (leb at (length out)) as
            (λ t. leb at (length out) ≡ t → take (at + length text) (printed base at text) ≡ take (length out) (take at out ++ text))
            [ true ↦ λ e. front_within (leb-true at (length out) e) | false ↦ λ e. front_past (leb-false at (length out) e) ]
            refl;
        room = printed-length base at text ∙ size;
      }

module _ (out : List ℕ) (at : ℕ) where
  pub fronts_printed : (text : List ℕ) {after : List ℕ} → after ≡ printed out at text → Fronts out at text after
  fronts_printed text e = subst (Fronts out at text) (sym e) (fronts_same out out at text refl refl)

  -- also where another text was printed there before
  pub fronts_over :
      (first text : List ℕ) {between after : List ℕ} → between ≡ printed out at first → after ≡ printed between at text
      → Fronts out at text after
  fronts_over first text b e =
      let base = printed out at first in
      subst (Fronts out at text) (sym (e ∙ ap (λ (l : List ℕ). printed l at text) b))
      (fronts_same out base at text (printed-length out at first) (kept-before out at first))

-- ---- One text behind another

pub fronts_then :
    (empty out : List ℕ) (at : ℕ) (text later whole : List ℕ) {after : List ℕ} → length out ≡ length empty
    → Fronts out at text after
    → take (length empty) (take at out ++ (text ++ later)) ≡ whole
    → take (length empty) (take (at + length text) after ++ later) ≡ whole
fronts_then empty out at text later whole size f makes =
    ap (λ (l : List ℕ). take (length empty) (l ++ later)) (f.front ∙ ap (λ (k : ℕ). take k (take at out ++ text)) size)
    ∙ take_again (length empty) (take at out ++ text) later
    ∙ ap (take (length empty)) (append_assoc (take at out) text later)
    ∙ makes

-- a text for which there is room is read back
pub fronts_whole : (out text : List ℕ) {after : List ℕ} → length text ≤ length out → Fronts out 0 text after → take (length text) after ≡ text
fronts_whole out text {after} h f =
    ap (λ (k : ℕ). take k after) (sym (zero-add (length text))) ∙ f.front ∙ take_all (length out) text h
