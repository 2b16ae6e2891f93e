-- Laws of fields that are one letter, and of entries: what is outside its size is refused by it, and nothing else is.
use Rattle.std.specs.Prelude.{ℕ, ◌≤◌, ◌≡◌, refl, List, [], ◌∷◌, true, false, ◌&&◌, eqb, leb, ltb}
use Rattle.std.proofs.Common.{sym, arith, le-leb, leb-true, le-ltb, ltb-true, ltb-false, ne_eqb}
use Rattle.std.specs.Prelude.{if◌then◌else◌}
use Rattle.notation.specs.ChoiceLaws.{both_true}
use Rattle.words.specs.Words.{same}
use Rattle.sizes.specs.Sizes.{variables, registers, chunks, is_register, is_chunk}
use Rattle.forms.specs.declared.GenContext.{GenContext}
use Rattle.forms.specs.declared.GenContext.TheVariants.{Head, Mid, Last}
use Rattle.forms.specs.Forms.{chunk_num}
use Rattle.temp_var_data.specs.Uses.{head_context, mid_context, last_context, use_code}
use Rattle.temp_var_data.specs.UsesLaws.{context_of_use, register_of_use}
use Rattle.events.specs.declared.Entries.TheVariants.{Arguments}
use Rattle.events.specs.Events.{is_context, is_use, entry_fits}
use Rattle.event_fields.specs.EventFields.{code_in, no_use, use_in, no_such_variable, variable_entry}

-- ---- Letters

-- in the place of a field's one byte: no letter has that number
abbrev pub no_letter : ℕ
no_letter = 0

-- the one byte of a field that has no other
unfoldable pub only_byte : List ℕ → ℕ
only_byte [] = no_letter
only_byte (c ∷ []) = c
only_byte (c ∷ (d ∷ ds)) = no_letter

-- a field is the word of one letter exactly if its one byte is that letter
pub same_letter :
    (letter : ℕ) → eqb no_letter letter ≡ false → (field : List ℕ) → same field (letter ∷ []) ≡ eqb (only_byte field) letter
unfolding only_byte same
same_letter letter h [] = sym h
same_letter letter h (c ∷ []) = elim (eqb c letter) as (λ t. (t && true) ≡ t) [ true ↦ refl | false ↦ refl ]
same_letter letter h (c ∷ (d ∷ ds)) =
    elim (eqb c letter) as (λ t. (t && false) ≡ eqb no_letter letter) [ true ↦ sym h | false ↦ sym h ]

-- ---- Uses

use_context : (context register : ℕ) → is_register register ≡ true → is_use (use_code context register) ≡ is_context context
unfolding is_use
use_context context register h =
    let small = leb-true register registers (both_true (leb 1 register) (leb register registers) h).1 in
    rw (register_of_use context register (omega arith), context_of_use context register, h)

mid_context_lem : (chunk : ℕ) → chunk ≤ chunks → is_context (mid_context chunk) ≡ true
unfolding is_context
mid_context_lem chunk h =
    simp (
      ne_eqb (mid_context chunk) head_context (λ e. omega arith),
      le-leb (mid_context 0) (mid_context chunk) (omega arith),
      le-leb (mid_context chunk) (last_context chunks) (omega arith),
    )

last_context_lem : (chunk : ℕ) → chunk ≤ chunks → is_context (last_context chunk) ≡ true
unfolding is_context
last_context_lem chunk h =
    simp (
      ne_eqb (last_context chunk) head_context (λ e. omega arith),
      le-leb (mid_context 0) (last_context chunk) (omega arith),
      le-leb (last_context chunk) (last_context chunks) (omega arith),
    )

head_context_lem : is_context head_context ≡ true
unfolding is_context
head_context_lem = refl

code-is_use :
    (context : GenContext) (register : ℕ) → is_register register ≡ true → is_chunk (chunk_num context) ≡ true
    → is_use (code_in context register) ≡ true
code-is_use Head register r h = rw (use_context head_context register r) head_context_lem
code-is_use (Mid chunk) register r h = rw (use_context (mid_context chunk) register r) (mid_context_lem chunk (leb-true chunk chunks h))
code-is_use (Last chunk) register r h = rw (use_context (last_context chunk) register r) (last_context_lem chunk (leb-true chunk chunks h))

no_use_lem : is_use no_use ≡ false
unfolding is_use
no_use_lem = refl

-- a use is inside its size exactly if there is such a register and such a chunk
pub use_exactly :
    (context : GenContext) (register : ℕ) → is_use (use_in context register) ≡ (is_register register && is_chunk (chunk_num context))
unfolding use_in
use_exactly context register =
    elim (is_register register && is_chunk (chunk_num context)) as
    (λ t. (is_register register && is_chunk (chunk_num context)) ≡ t → is_use (if t then code_in context register else no_use) ≡ t) [
      | true ↦ λ e. (let b = both_true (is_register register) (is_chunk (chunk_num context)) e in code-is_use context register b.0 b.1)
      | false ↦ λ e. no_use_lem
    ]
    refl

-- ---- Arguments

-- the entry of an argument fits exactly if there is such a variable
pub argument_exactly :
    (records v : ℕ) → records ≤ variables → entry_fits Arguments records (variable_entry v) ≡ ltb v records
unfolding variable_entry
argument_exactly records v h =
    elim (ltb v variables) as
    (λ t. ltb v variables ≡ t → entry_fits Arguments records (if t then v else no_such_variable) ≡ ltb v records) [
      | true ↦ λ e. (let l = ltb-true v variables e in simp (ne_eqb v variables (λ s. omega arith)))
      | false ↦ λ e. (let l = ltb-false v variables e in simp (le-ltb no_such_variable records (omega arith), le-ltb v records (omega arith)))
    ]
    refl
