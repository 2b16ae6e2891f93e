-- Rule 19.2: an instruction's printed line, without its LF, reads back as the instruction.
use Rattle.std.specs.Prelude.{ℕ, zero, suc, ◌/◌, ◌%◌, ◌≤◌, ◌≡◌, refl, true, false, not, eqb, ltb, Some}
use Rattle.std.proofs.Common.{◌∙◌, arith, ne_eqb}
use mathlib.Core.List.{List, [], ◌∷◌, ◌++◌}
use Rattle.std.specs.Prelude.{if◌then◌else◌}
use Rattle.notation.specs.ChoiceLaws.{both_true}
use Rattle.notation.specs.Text.{bytes}
use Rattle.sizes.specs.Sizes.{largest_number}
use Rattle.split.specs.Split.{tab, line_feed, joined}
use Rattle.split.specs.SplitTrips.{free, all_free, split-joined}
use Rattle.words.specs.Words.{same}
use Rattle.numbers.specs.Numbers.{digit, written, decimal}
use Rattle.numbers.specs.NumberTrips.{printed-is-read}
use Rattle.registers.specs.declared.RegType.{RegType}
use Rattle.registers.specs.declared.RegType.TheVariants.{Temp, Perm}
use Rattle.registers.specs.Registers.{register_text}
use Rattle.instructions.specs.declared.Instruction.{Instruction}
use Rattle.instructions.specs.declared.Instruction.TheVariants.{GetVariable, GetValue, PutVariable, PutValue, PutUnsafeValue, SetVariable, SetValue, SetLocalValue, UnifyVariable, UnifyValue, UnifyLocalValue}
use Rattle.instructions.specs.Instructions.{line, instruction_text}
use Rattle.instructions.specs.Codes.{code_of, word_of, fields_of}
use Rattle.instructions.specs.InstructionsLaws.{text-by-number}
use Rattle.steps.specs.declared.CheckLine.TheVariants.{Does}
use Rattle.check_lines.specs.Behind.{Behind, no_more, a_number, a_place, slot_only, place_alone, place_and_argument, slot_and_argument}
use Rattle.check_lines.specs.Words.{line_words}
use Rattle.check_lines.specs.CheckLines.{said_among, fields_say, line_says}

abbrev pub printed_line : Instruction → List ℕ
printed_line instruction = joined tab (fields_of (code_of instruction))

pub line-and_feed : (instruction : Instruction) → instruction_text instruction ≡ printed_line instruction ++ line_feed ∷ []
unfolding line
line-and_feed instruction = text-by-number instruction

-- the number that stands in a place
abbrev pub in_place : RegType → ℕ
in_place (Temp r) = r
in_place (Perm r) = r

-- ---- No printed field holds a tab

free_append : (mark : ℕ) (s t : List ℕ) → free mark s ≡ true → free mark t ≡ true → free mark (s ++ t) ≡ true
unfolding free
free_append mark [] t hs ht = ht
free_append mark (c ∷ cs) t hs ht =
    let b = both_true (not (eqb c mark)) (free mark cs) hs in
    simp (b.0, free_append mark cs t b.1 ht)

empty-free : free tab [] ≡ true
unfolding free
empty-free = refl

digit-free : (d : ℕ) → free tab (digit d ∷ []) ≡ true
unfolding free
digit-free d = simp (ne_eqb (digit d) tab (λ e. omega arith))

written-free : (digits n : ℕ) → free tab (written digits n) ≡ true
unfolding written
written-free zero n = empty-free
written-free (suc digits) n =
    elim (ltb n 10) as (λ t. free tab (if t then digit n ∷ [] else written digits (n / 10) ++ (digit (n % 10) ∷ [])) ≡ true) [
      | true ↦ digit-free n
      | false ↦ free_append tab (written digits (n / 10)) (digit (n % 10) ∷ []) (written-free digits (n / 10)) (digit-free (n % 10))
    ]

decimal-free : (n : ℕ) → free tab (decimal n) ≡ true
unfolding decimal
decimal-free n = written-free 10 n

place_free : (place : RegType) → free tab (register_text place) ≡ true
unfolding register_text free
place_free (Temp r) = decimal-free r
place_free (Perm r) = decimal-free r

-- ---- The fields read back

place_read :
    (place : RegType) → in_place place ≤ largest_number → (more : RegType → Behind) (fields : List (List ℕ))
    → a_place more (register_text place ∷ fields) ≡ more place fields
unfolding a_place register_text same
place_read (Temp r) h more fields = simp (printed-is-read r h)
place_read (Perm r) h more fields = simp (printed-is-read r h)

number_read :
    (n : ℕ) → n ≤ largest_number → (more : ℕ → Behind) (fields : List (List ℕ))
    → a_number more (decimal n ∷ fields) ≡ more n fields
unfolding a_number
number_read n h more fields = rw (printed-is-read n h)

module _ (place : RegType) (h : in_place place ≤ largest_number) where
  place_said :
      (instruction : RegType → Instruction)
      → place_alone instruction (register_text place ∷ []) ≡ Some (Does (instruction place))
  unfolding no_more
  place_said instruction = place_read place h (λ p. no_more (Does (instruction p))) []

  argument_said :
      (instruction : RegType → ℕ → Instruction) (k : ℕ) → k ≤ largest_number
      → place_and_argument instruction (register_text place ∷ decimal k ∷ []) ≡ Some (Does (instruction place k))
  unfolding no_more
  argument_said instruction k m =
      place_read place h (λ p. a_number (λ n. no_more (Does (instruction p n)))) (decimal k ∷ [])
      ∙ number_read k m (λ n. no_more (Does (instruction place n))) []

slot_said :
    (instruction : ℕ → ℕ → Instruction) (slot : ℕ) → slot ≤ largest_number → (k : ℕ) → k ≤ largest_number
    → slot_and_argument instruction (register_text (Perm slot) ∷ decimal k ∷ []) ≡ Some (Does (instruction slot k))
unfolding no_more
slot_said instruction slot h k m =
    place_read (Perm slot) h (slot_only (λ s. a_number (λ n. no_more (Does (instruction s n))))) (decimal k ∷ [])
    ∙ number_read k m (λ n. no_more (Does (instruction slot n))) []

module _ (word : List ℕ) (place : RegType) (clear : free tab word ≡ true) where
  two_said_lem :
      line_says (joined tab (word ∷ register_text place ∷ [])) ≡ said_among line_words word (register_text place ∷ [])
  unfolding line_says fields_say all_free
  two_said_lem = rw (split-joined tab word (register_text place ∷ []) (simp (clear, place_free place)))

  three_said :
      (k : ℕ)
      → line_says (joined tab (word ∷ register_text place ∷ decimal k ∷ []))
      ≡ said_among line_words word (register_text place ∷ decimal k ∷ [])
  unfolding line_says fields_say all_free
  three_said k =
      rw (split-joined tab word (register_text place ∷ decimal k ∷ []) (simp (clear, place_free place, decimal-free k)))

-- what is printed says the instruction
pub instruction_read :
    (instruction : Instruction) → in_place (code_of instruction).place ≤ largest_number → (code_of instruction).argument ≤ largest_number
    → line_says (printed_line instruction) ≡ Some (Does instruction)
unfolding fields_of word_of said_among same free
instruction_read (GetVariable place k) h m = three_said (bytes "get_variable") place refl k ∙ argument_said place h GetVariable k m
instruction_read (GetValue place k) h m = three_said (bytes "get_value") place refl k ∙ argument_said place h GetValue k m
instruction_read (PutVariable place k) h m = three_said (bytes "put_variable") place refl k ∙ argument_said place h PutVariable k m
instruction_read (PutValue place k) h m = three_said (bytes "put_value") place refl k ∙ argument_said place h PutValue k m
instruction_read (PutUnsafeValue slot k) h m = three_said (bytes "put_unsafe_value") (Perm slot) refl k ∙ slot_said PutUnsafeValue slot h k m
instruction_read (SetVariable place) h m = two_said_lem (bytes "set_variable") place refl ∙ place_said place h SetVariable
instruction_read (SetValue place) h m = two_said_lem (bytes "set_value") place refl ∙ place_said place h SetValue
instruction_read (SetLocalValue place) h m = two_said_lem (bytes "set_local_value") place refl ∙ place_said place h SetLocalValue
instruction_read (UnifyVariable place) h m = two_said_lem (bytes "unify_variable") place refl ∙ place_said place h UnifyVariable
instruction_read (UnifyValue place) h m = two_said_lem (bytes "unify_value") place refl ∙ place_said place h UnifyValue
instruction_read (UnifyLocalValue place) h m = two_said_lem (bytes "unify_local_value") place refl ∙ place_said place h UnifyLocalValue
