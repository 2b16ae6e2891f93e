-- What an event prints is short.
use Rattle.std.specs.Prelude.{ℕ, zero, suc, ◌+◌, ◌≤◌, ◌/◌, ◌%◌, ◌≡◌, true, false, List, [], ◌∷◌, ◌++◌, ltb, length, take, drop, Option, Some, None}
use Rattle.std.proofs.Common.{refl, sym, zero-le, ap₂, subst, ◌∙◌, arith, zero-add, length-append, take_all, take-take, le-leb}
use Rattle.std.proofs.lemmas.List.{take-append-le}
use Rattle.std.specs.Prelude.{if◌then◌else◌}
use Rattle.notation.specs.Text.{bytes}
use Rattle.split.specs.Split.{joined, tab, line_feed}
use Rattle.numbers.specs.Numbers.{digit, written, decimal}
use Rattle.registers.specs.declared.RegType.{RegType}
use Rattle.registers.specs.declared.RegType.TheVariants.{Temp, Perm}
use Rattle.registers.specs.Registers.{register_text}
use Rattle.instructions.specs.declared.Instruction.{Instruction}
use Rattle.instructions.specs.declared.Instruction.TheVariants.{GetVariable, GetValue, PutVariable, PutValue, PutUnsafeValue, SetVariable, SetValue, SetLocalValue, UnifyVariable, UnifyValue, UnifyLocalValue}
use Rattle.instructions.specs.Instructions.{line, instruction_text, at_text}
use Rattle.code_deque.specs.declared.CodeDeque.{CodeDeque}
use Rattle.code_deque.specs.declared.CodeDeque.TheVariants.{Empty, One, Two, Three}
use Rattle.debray_allocator.specs.declared.Answer.{Answer}
use Rattle.printing.specs.Printing.{printed, place_after, Put}
use Rattle.answers.specs.declared.Adding.{Adding}
use Rattle.answers.specs.Adding.{Added}
use Rattle.answers.specs.Answers.{code_text, place_text, answer_text, text_of, end_text}

written-length : (digits n : ℕ) → length (written digits n) ≤ digits
unfolding written
written-length zero n = zero-le
written-length (suc digits) n =
    elim (ltb n 10) as
    (λ t. length (if t then digit n ∷ [] else written digits (n / 10) ++ (digit (n % 10) ∷ [])) ≤ suc digits) [
      | true ↦ omega arith
      | false ↦ omega (arith, length-append (written digits (n / 10)) (digit (n % 10) ∷ []), written-length digits (n / 10))
    ]

-- a number has at most ten digits
pub decimal-length : (n : ℕ) → length (decimal n) ≤ 10
unfolding decimal
decimal-length n = written-length 10 n

register-length : (place : RegType) → length (register_text place) ≤ 11
unfolding register_text
register-length (Temp r) = omega (arith, decimal-length r)
register-length (Perm r) = omega (arith, decimal-length r)

two_fields_lem : (word : List ℕ) (place : RegType) → length (line (word ∷ register_text place ∷ [])) ≤ length word + 13
unfolding line joined
two_fields_lem word place =
    omega (
      arith,
      length-append (word ++ (tab ∷ register_text place)) (line_feed ∷ []),
      length-append word (tab ∷ register_text place),
      register-length place,
    )

three_fields :
    (word : List ℕ) (place : RegType) (k : ℕ)
    → length (line (word ∷ register_text place ∷ decimal k ∷ [])) ≤ length word + 24
unfolding line joined
three_fields word place k =
    omega (
      arith,
      length-append (word ++ (tab ∷ (register_text place ++ (tab ∷ decimal k)))) (line_feed ∷ []),
      length-append word (tab ∷ (register_text place ++ (tab ∷ decimal k))),
      length-append (register_text place) (tab ∷ decimal k),
      register-length place,
      decimal-length k,
    )

instruction_length : (i : Instruction) → length (instruction_text i) ≤ 64
unfolding instruction_text
instruction_length (GetVariable place k) = omega (arith, three_fields (bytes "get_variable") place k)
instruction_length (GetValue place k) = omega (arith, three_fields (bytes "get_value") place k)
instruction_length (PutVariable place k) = omega (arith, three_fields (bytes "put_variable") place k)
instruction_length (PutValue place k) = omega (arith, three_fields (bytes "put_value") place k)
instruction_length (PutUnsafeValue slot k) = omega (arith, three_fields (bytes "put_unsafe_value") (Perm slot) k)
instruction_length (SetVariable place) = omega (arith, two_fields_lem (bytes "set_variable") place)
instruction_length (SetValue place) = omega (arith, two_fields_lem (bytes "set_value") place)
instruction_length (SetLocalValue place) = omega (arith, two_fields_lem (bytes "set_local_value") place)
instruction_length (UnifyVariable place) = omega (arith, two_fields_lem (bytes "unify_variable") place)
instruction_length (UnifyValue place) = omega (arith, two_fields_lem (bytes "unify_value") place)
instruction_length (UnifyLocalValue place) = omega (arith, two_fields_lem (bytes "unify_local_value") place)

code-length : (code : CodeDeque) → length (code_text code) ≤ 192
code-length Empty = zero-le
code-length (One i) = omega (arith, instruction_length i)
code-length (Two i j) = omega (arith, length-append (instruction_text i) (instruction_text j), instruction_length i, instruction_length j)
code-length (Three i j k) =
    omega (
      arith,
      length-append (instruction_text i ++ instruction_text j) (instruction_text k),
      length-append (instruction_text i) (instruction_text j),
      instruction_length i,
      instruction_length j,
      instruction_length k,
    )

place_length : (place : Option RegType) → length (place_text place) ≤ 64
unfolding at_text
place_length None = zero-le
place_length (Some place) = omega (arith, two_fields_lem (bytes "at") place)

-- at most so many bytes
abbrev pub longest : ℕ
longest = 256

pub answer_short : (code : CodeDeque) (place : Option RegType) → length (answer_text code place) ≤ longest
unfolding answer_text
answer_short code place =
    omega (arith, length-append (code_text code) (place_text place), code-length code, place_length place)

pub text_short : (a : Answer) → length (text_of a) ≤ longest
text_short a = answer_short a.code a.at

pub end_short : (max_reg_allocated num_perm_vars : ℕ) → length (end_text max_reg_allocated num_perm_vars) ≤ longest
unfolding end_text line joined
end_short m p =
    omega (
      arith,
      length-append (bytes "end" ++ (tab ∷ (decimal m ++ (tab ∷ decimal p)))) (line_feed ∷ []),
      length-append (decimal m) (tab ∷ decimal p),
      decimal-length m,
      decimal-length p,
    )

-- a text put at the start of a scratch in which it fits is read back from there
pub read_back : (scratch text : List ℕ) → length text ≤ length scratch → take (length text) (printed scratch 0 text) ≡ text
unfolding printed
read_back scratch text h =
    rw zero-add
    (take-take (length text) (length scratch) (text ++ drop (length text) scratch) h
    ∙ take-append-le (length text) text (drop (length text) scratch) (omega arith)
    ∙ take_all (length text) text (omega arith))

place_within : (room : ℕ) (text : List ℕ) → length text ≤ room → place_after room 0 text ≡ length text
unfolding place_after
place_within room text h = rw zero-add (simp (le-leb _ _ h))

-- so a text that is put there and then copied on is added
pub added :
    {scratch out : List ℕ} {at : ℕ} {text : List ℕ} {length' next : ℕ} {scratch_after copied after : List ℕ}
    → length text ≤ length scratch
    → Put scratch 0 text length' scratch_after
    → copied ≡ take length' scratch_after
    → Put out at copied next after
    → Added scratch out at text (record { place = next; length = length' }) scratch_after after
added {scratch} {out} {at} {text} {next = next} {after = after} short put e copy =
    let n : _ ≡ length text = put.place ∙ place_within (length scratch) text short in
    let c = e ∙ ap₂ take n put.bytes ∙ read_back scratch text short in
    record { put = subst (λ t. Put out at t next after) c copy; counted = n; scratched = put.bytes }

-- and so is one of which only the length is told, and where what was copied ends
pub added_on :
    {scratch out : List ℕ} {at : ℕ} {text : List ℕ} {length' : ℕ} {scratch_after after : List ℕ} {r : Adding}
    → length text ≤ length scratch
    → Put scratch 0 text length' scratch_after
    → Put out at (take length' scratch_after) r.place after × (r.length ≡ length')
    → Added scratch out at text r scratch_after after
added_on {scratch} {out} {at} {text} {scratch_after = scratch_after} {after = after} {r = r} short put copy =
    subst (λ n. Added scratch out at text (record { place = r.place; length = n }) scratch_after after) (sym copy.1) (added short put refl copy.0)
