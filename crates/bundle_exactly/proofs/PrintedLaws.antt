-- What is printed is whole lines. A clause's last line is its only one with the word `end` or `no` (rule 18.8). A clause is
-- refused at one of its own lines, so that none begins with the fields `no`, `0` (rule 18.4).
use Prim.Native.Nat.{ℕ, zero, suc, ◌≤◌, ◌<◌, ◌/◌, ◌%◌}
use Rattle.std.specs.Prelude.{◌≡◌, Bool, true, false, ◌&&◌, ◌⊎◌, eqb, ltb, length, take, Option, Some, None, Ok}
use Rattle.std.proofs.Math.Path.{refl, ap}
use Rattle.std.proofs.Common.{ap₂, subst, sym, ◌∙◌, arith, length-append, take_at, true≢false}
use Rattle.std.proofs.Math.Bool.{not, false≢true}
use Rattle.std.proofs.Math.Logic.{inl, inr, ⊎_elim}
use mathlib.Core.List.{List, [], ◌∷◌, ◌++◌, append_assoc}
use borrow.Author.Tests.{ne_eqb, not-true, ltb-true, ltb-false}
use Rattle.notation.specs.ChoiceLaws.{both_true, either, by_test}
use Rattle.notation.specs.Text.{byte, bytes}
use Rattle.refusals.specs.declared.Refusal.{Refusal}
use Rattle.refusals.specs.Refusals.{number_of as refusal_number, refused_form, is_refused}
use Rattle.split.specs.Split.{tab, line_feed, before, split, joined}
use Rattle.split.specs.SplitLaws.{split-some}
use Rattle.split.specs.SplitTrips.{free, all_free, split-joined}
use Rattle.words.specs.Words.{same}
use Rattle.words.specs.WordsLaws.{same_exactly}
use Rattle.numbers.specs.Numbers.{digit, written, decimal}
use Rattle.numbers.specs.DecimalLaws.{written_more, decimal_digit}
use Rattle.registers.specs.declared.RegType.{RegType}
use Rattle.registers.specs.declared.RegType.TheVariants.{Temp, Perm}
use Rattle.registers.specs.Registers.{register_text}
use Rattle.instructions.specs.declared.Instruction.{Instruction}
use Rattle.instructions.specs.declared.Instruction.TheVariants.{GetVariable, GetValue, PutVariable, PutValue, PutUnsafeValue, SetVariable, SetValue, SetLocalValue, UnifyVariable, UnifyValue, UnifyLocalValue}
use Rattle.instructions.specs.Instructions.{line, instruction_text, at_text}
use Rattle.code_deque.specs.declared.CodeDeque.{CodeDeque}
use Rattle.code_deque.specs.declared.CodeDeque.TheVariants.{Empty, One, Two, Three}
use Rattle.debray_allocator.specs.declared.State.{State}
use Rattle.debray_allocator.specs.declared.Answer.{Answer}
use Rattle.debray_allocator.specs.State.{fresh_state}
use Rattle.answers.specs.Answers.{code_text, place_text, answer_text, text_of, end_text}
use Rattle.answered.specs.Answered.{refusal_text}
use Rattle.event_sheets.specs.EventSheets.{
  Ran,
  refused_at,
  behind,
  max_reg_allocated,
  num_perm_vars,
  ended,
  line_answer,
  last_ran,
  line_ran,
  ran,
  sheet_ran,
}
use Rattle.bundles.specs.Bundles.{lines_of, clauses, sheet_of, told_or, ran_text, clause_text, clause_texts, is_unended, answered, filled}
use Rattle.bundles.specs.LinesLaws.{lines_sheet, sheet_append, sheet-ended}
use Rattle.bundle_exactly.specs.Exactly.{Body, bundle_text, NoAtZero, EndsAnswer, Each, EndsOnce}
use Rattle.bundle_exactly.proofs.ReadBackLaws.{free_append}
use Rattle.bundle_exactly.proofs.RefusedLaws.{written_exactly, written-filled}

-- ---- The line of a refusal

abbrev From : ℕ → Ran → Type 0
From number r = is_refused r.refusal ≡ true → number ≤ r.line

-- what a line prints, and the lines behind it
abbrev later : State → ℕ → List ℕ → List (List ℕ) → Ran
later s number text parts =
    behind (text_of (line_answer s text)) (ran (line_answer s text).state (suc number) parts)

ran-from : (parts : List (List ℕ)) (s : State) (number : ℕ) → From number (ran s number parts)
unfolding ran last_ran line_ran
ran-from [] s number = λ h. absurd (false≢true h)
ran-from (left ∷ []) s number =
    by_test (From number) (ltb 0 (length left)) {a = refused_at number refused_form} {b = ended s.counters}
    (λ e h. omega arith)
    (λ e h. absurd (false≢true h))
ran-from (text ∷ (next ∷ parts)) s number =
    by_test (From number) (is_refused (line_answer s text).refusal)
    {a = refused_at number (line_answer s text).refusal} {b = later s number text (next ∷ parts)}
    (λ e h. omega arith)
    (λ e h. omega (arith, ran-from (next ∷ parts) (line_answer s text).state (suc number) h))

-- rule 18.4: what is refused in a clause is refused at one of its lines, which are counted from 1
pub clause_line_positive : (sheet : List ℕ) → is_refused (sheet_ran sheet).refusal ≡ true → 1 ≤ (sheet_ran sheet).line
unfolding sheet_ran
clause_line_positive sheet = ran-from (split line_feed sheet) fresh_state 1

-- ---- Numbers and places hold no mark below the digits

bytes_append : (mark : ℕ) (a b : List ℕ) → free mark a ≡ true → free mark b ≡ true → free mark (a ++ b) ≡ true
unfolding free
bytes_append mark [] b ha hb = hb
bytes_append mark (c ∷ cs) b ha hb =
    let both = both_true (not (eqb c mark)) (free mark cs) ha in
    simp (both.0, bytes_append mark cs b both.1 hb)

module _ (mark : ℕ) (low : mark < byte "0") where
  digit-free : (d : ℕ) → free mark (digit d ∷ []) ≡ true
  unfolding free
  digit-free d = simp (ne_eqb (digit d) mark (λ e. omega arith))

  written-free : (digits n : ℕ) → free mark (written digits n) ≡ true
  unfolding written free
  written-free zero n = refl
  written-free (suc digits) n =
      either (λ (s : List ℕ). free mark s ≡ true) (ltb n 10)
      (digit-free n)
      (bytes_append mark (written digits (n / 10)) (digit (n % 10) ∷ []) (written-free digits (n / 10)) (digit-free (n % 10)))

  decimal-free : (n : ℕ) → free mark (decimal n) ≡ true
  unfolding decimal
  decimal-free n = written-free 10 n

  place_free : (place : RegType) → free mark (register_text place) ≡ true
  unfolding register_text free
  place_free (Temp r) = simp (ne_eqb (byte "x") mark (λ e. omega arith), decimal-free r)
  place_free (Perm r) = simp (ne_eqb (byte "y") mark (λ e. omega arith), decimal-free r)

some-digit : (n : ℕ) → 0 < length (written 9 n)
unfolding written
some-digit n =
    either (λ (s : List ℕ). 0 < length s) (ltb n 10)
    (omega arith)
    (omega (arith, length-append (written 8 (n / 10)) (digit (n % 10) ∷ [])))

-- no number but 0 is printed so
zero-printed : (n : ℕ) → decimal n ≡ bytes "0" → n ≡ 0
unfolding decimal
zero-printed n e =
    elim (ltb n 10) as (λ t. ltb n 10 ≡ t → n ≡ 0) [
      | true ↦ λ small. (let alike : digit n ≡ byte "0" = cc (decimal_digit n (ltb-true n 10 small)) in omega arith)
      | false ↦ λ large. (let two = sym (written_more 9 n (ltb-false n 10 large)) ∙ e in
          absurd (omega (arith, ap length two, length-append (written 9 (n / 10)) (digit (n % 10) ∷ []), some-digit (n / 10))))
    ]
    refl

-- ---- Texts that are lines, of each of which something is so

record Lines (So : List ℕ → Type 0) (text : List ℕ) : Type 0 where
  lines : List (List ℕ)
  clear : all_free line_feed lines ≡ true
  each : Each So lines
  made : text ≡ sheet_of lines

no_lines : {So : List ℕ → Type 0} → Lines So []
unfolding all_free sheet_of
no_lines = record { lines = []; clear = refl; each = tt; made = refl }

module _ (So : List ℕ → Type 0) where
  each_append : (a b : List (List ℕ)) → Each So a → Each So b → Each So (a ++ b)
  each_append [] b ea eb = eb
  each_append (first ∷ others) b ea eb = (ea.0, each_append others b ea.1 eb)

  each-among :
      (front : List (List ℕ)) (text : List ℕ) (others : List (List ℕ)) → Each So (front ++ (text ∷ others)) → So text
  each-among [] text others each = each.0
  each-among (first ∷ front) text others each = each-among front text others each.1

module _ {So : List ℕ → Type 0} where
  lines_append : {a b : List ℕ} → Lines So a → Lines So b → Lines So (a ++ b)
  lines_append a b =
      record {
        lines = a.lines ++ b.lines;
        clear = free_append line_feed a.lines b.lines a.clear b.clear;
        each = each_append So a.lines b.lines a.each b.each;
        made = ap₂ (λ (x y : List ℕ). x ++ y) a.made b.made ∙ sym (sheet_append a.lines b.lines);
      }

  -- the lines of the text are those
  lines_are : {text : List ℕ} (l : Lines So text) → lines_of text ≡ l.lines
  lines_are l = ap lines_of l.made ∙ lines_sheet l.lines l.clear

each_weaker :
    {So Then : List ℕ → Type 0} → ((line : List ℕ) → So line → Then line) → (lines : List (List ℕ)) → Each So lines
    → Each Then lines
each_weaker then [] each = tt
each_weaker then (line ∷ lines) each = (then line each.0, each_weaker then lines each.1)

lines_weaker :
    {So Then : List ℕ → Type 0} → ((line : List ℕ) → So line → Then line) → {text : List ℕ} → Lines So text → Lines Then text
lines_weaker then l =
    record { lines = l.lines; clear = l.clear; each = each_weaker then l.lines l.each; made = l.made }

-- ---- Lines that do not end an answer, and one that does

abbrev GoesOn : List ℕ → Type 0
GoesOn line = ¬ EndsAnswer line

abbrev NotAtZero : List ℕ → Type 0
NotAtZero line = ¬ NoAtZero line

-- a line that does not end an answer is no `no` line
going-not-zero : (line : List ℕ) → GoesOn line → NotAtZero line
going-not-zero line goes told =
    let word : before tab line ≡ bytes "no" = cc (split-some tab line, told.1) in
    goes (inr word)

-- a text that is one line, by which an answer ends
record Last (text : List ℕ) : Type 0 where
  last : List ℕ
  clear : free line_feed last ≡ true
  ends : EndsAnswer last
  not-zero : NotAtZero last
  made : text ≡ sheet_of (last ∷ [])

-- such a text behind lines that do not end it
record Closed (text : List ℕ) : Type 0 where
  going : List ℕ
  ending : List ℕ
  front : Lines GoesOn going
  end : Last ending
  made : text ≡ going ++ ending

last_lines : {So : List ℕ → Type 0} {text : List ℕ} (l : Last text) → So l.last → Lines So text
unfolding all_free
last_lines l so = record { lines = l.last ∷ []; clear = simp l.clear; each = (so, tt); made = l.made }

only-last : {text : List ℕ} → Last text → Closed text
only-last {text} l = record { going = []; ending = text; front = no_lines; end = l; made = refl }

going_before : {a b : List ℕ} → Lines GoesOn a → Closed b → Closed (a ++ b)
going_before {a} {b} l rest =
    record {
      going = a ++ rest.going;
      ending = rest.ending;
      front = lines_append l rest.front;
      end = rest.end;
      made = ap (λ (x : List ℕ). a ++ x) rest.made ∙ sym (append_assoc a rest.going rest.ending);
    }

module _ {text : List ℕ} (a : Closed text) where
  both-not-zero : Lines NotAtZero (a.going ++ a.ending)
  both-not-zero = lines_append (lines_weaker going-not-zero a.front) (last_lines a.end a.end.not-zero)

  closed-not-zero : Lines NotAtZero text
  closed-not-zero = subst (Lines NotAtZero) (sym a.made) both-not-zero

  closed_once : EndsOnce text
  unfolding both-not-zero lines_append lines_weaker last_lines
  closed_once =
      record {
        front = a.front.lines;
        last = a.end.last;
        parted = ap lines_of a.made ∙ lines_are both-not-zero;
        goes_on = a.front.each;
        ends = a.end.ends;
      }

-- fields that hold no LF make a line that holds none
fields_free : (fields : List (List ℕ)) → all_free line_feed fields ≡ true → free line_feed (joined tab fields) ≡ true
unfolding joined all_free free
fields_free [] h = refl
fields_free (field ∷ []) h = (both_true (free line_feed field) true h).0
fields_free (field ∷ (next ∷ fields)) h =
    let b = both_true (free line_feed field) (all_free line_feed (next ∷ fields)) h in
    bytes_append line_feed field (tab ∷ joined tab (next ∷ fields)) b.0 (fields_free (next ∷ fields) b.1)

module _ (word : List ℕ) (others : List (List ℕ)) where
  -- neither a tab nor an LF in any field
  Clear : Type 0
  Clear = (all_free tab (word ∷ others) ≡ true) × (all_free line_feed (word ∷ others) ≡ true)

  module _ (c : Clear) where
    own-word : before tab (joined tab (word ∷ others)) ≡ word
    unfolding Clear
    own-word = cc (split-some tab (joined tab (word ∷ others)), split-joined tab word others c.0)

    going-line : same word (bytes "end") ≡ false → same word (bytes "no") ≡ false → Lines GoesOn (line (word ∷ others))
    unfolding Clear line sheet_of all_free
    going-line no_end no_no =
        record {
          lines = joined tab (word ∷ others) ∷ [];
          clear = simp (fields_free (word ∷ others) c.1);
          each = (
            ⊎_elim
                (λ e. false≢true (sym no_end ∙ (same_exactly word (bytes "end")).1 (sym own-word ∙ e)))
                (λ e. false≢true (sym no_no ∙ (same_exactly word (bytes "no")).1 (sym own-word ∙ e))),
            tt,
          );
          made = refl;
        }

    last_line :
        (word ≡ bytes "end") ⊎ (word ≡ bytes "no")
        → ((fields : List (List ℕ)) → word ∷ others ≡ bytes "no" ∷ (bytes "0" ∷ fields) → ⊥)
        → Last (line (word ∷ others))
    unfolding Clear line sheet_of
    last_line ends never =
        record {
          last = joined tab (word ∷ others);
          clear = fields_free (word ∷ others) c.1;
          ends = ⊎_elim (λ e. inl (own-word ∙ e)) (λ e. inr (own-word ∙ e)) ends;
          not-zero = λ told. never told.0 (sym (split-joined tab word others c.0) ∙ told.1);
          made = refl;
        }

-- ---- The lines of an event's answer

low_tab : tab < byte "0"
low_tab = omega arith

low_feed : line_feed < byte "0"
low_feed = omega arith

-- a word of a line that ends no answer
is_word : List ℕ → Bool
is_word word = free tab word && free line_feed word && not (same word (bytes "end")) && not (same word (bytes "no"))

record IsWord (word : List ℕ) : Type 0 where
  no_tab : free tab word ≡ true
  no_feed : free line_feed word ≡ true
  no_end : same word (bytes "end") ≡ false
  no_no : same word (bytes "no") ≡ false

module _ (word : List ℕ) (h : is_word word ≡ true) where
  word_known : IsWord word
  unfolding is_word
  word_known =
      let b = both_true (free tab word && free line_feed word && not (same word (bytes "end"))) (not (same word (bytes "no"))) h in
      let c = both_true (free tab word && free line_feed word) (not (same word (bytes "end"))) b.0 in
      let d = both_true (free tab word) (free line_feed word) c.0 in
      record { no_tab = d.0; no_feed = d.1; no_end = not-true _ c.1; no_no = not-true _ b.1 }

  word_line :
      (others : List (List ℕ)) → all_free tab others ≡ true → all_free line_feed others ≡ true
      → Lines GoesOn (line (word ∷ others))
  unfolding Clear all_free
  word_line others t f =
      let w = word_known in
      going-line word others (simp (w.no_tab, t), simp (w.no_feed, f)) w.no_end w.no_no

  place_line : (place : RegType) → Lines GoesOn (line (word ∷ register_text place ∷ []))
  unfolding all_free
  place_line place =
      word_line (register_text place ∷ []) (simp (place_free tab low_tab place)) (simp (place_free line_feed low_feed place))

  argument_line : (place : RegType) (k : ℕ) → Lines GoesOn (line (word ∷ register_text place ∷ decimal k ∷ []))
  unfolding all_free
  argument_line place k =
      word_line (register_text place ∷ decimal k ∷ [])
      (simp (place_free tab low_tab place, decimal-free tab low_tab k))
      (simp (place_free line_feed low_feed place, decimal-free line_feed low_feed k))

instruction_line : (i : Instruction) → Lines GoesOn (instruction_text i)
unfolding instruction_text is_word free same
instruction_line (GetVariable place k) = argument_line (bytes "get_variable") refl place k
instruction_line (GetValue place k) = argument_line (bytes "get_value") refl place k
instruction_line (PutVariable place k) = argument_line (bytes "put_variable") refl place k
instruction_line (PutValue place k) = argument_line (bytes "put_value") refl place k
instruction_line (PutUnsafeValue slot k) = argument_line (bytes "put_unsafe_value") refl (Perm slot) k
instruction_line (SetVariable place) = place_line (bytes "set_variable") refl place
instruction_line (SetValue place) = place_line (bytes "set_value") refl place
instruction_line (SetLocalValue place) = place_line (bytes "set_local_value") refl place
instruction_line (UnifyVariable place) = place_line (bytes "unify_variable") refl place
instruction_line (UnifyValue place) = place_line (bytes "unify_value") refl place
instruction_line (UnifyLocalValue place) = place_line (bytes "unify_local_value") refl place

code_lines : (code : CodeDeque) → Lines GoesOn (code_text code)
code_lines Empty = no_lines
code_lines (One i) = instruction_line i
code_lines (Two i j) = lines_append (instruction_line i) (instruction_line j)
code_lines (Three i j k) = lines_append (lines_append (instruction_line i) (instruction_line j)) (instruction_line k)

place_lines : (place : Option RegType) → Lines GoesOn (place_text place)
unfolding at_text is_word free same
place_lines None = no_lines
place_lines (Some place) = place_line (bytes "at") refl place

answer_lines : (a : Answer) → Lines GoesOn (text_of a)
unfolding answer_text
answer_lines a = lines_append (code_lines a.code) (place_lines a.at)

numbers_free : (mark : ℕ) → mark < byte "0" → (m n : ℕ) → all_free mark (decimal m ∷ decimal n ∷ []) ≡ true
unfolding all_free
numbers_free mark low m n = simp (decimal-free mark low m, decimal-free mark low n)

end-last : (m p : ℕ) → Last (end_text m p)
unfolding end_text Clear all_free free
end-last m p =
    last_line (bytes "end") (decimal m ∷ decimal p ∷ [])
    (numbers_free tab low_tab m p, numbers_free line_feed low_feed m p)
    (inl refl)
    (λ fields e. (let alike : bytes "end" ≡ bytes "no" = cc in omega (arith, ap length alike)))

refusal_last : (number refusal : ℕ) → 1 ≤ number → Last (refusal_text number refusal)
unfolding refusal_text Clear all_free free
refusal_last number refusal some =
    last_line (bytes "no") (decimal number ∷ decimal refusal ∷ [])
    (numbers_free tab low_tab number refusal, numbers_free line_feed low_feed number refusal)
    (inr refl)
    (λ fields e. (let at_zero : decimal number ≡ bytes "0" = cc in omega (arith, zero-printed number at_zero)))

-- ---- The lines of a clause's answer

-- a run that is not refused
abbrev ClosedBy : Ran → Type 0
ClosedBy r = is_refused r.refusal ≡ false → Closed r.text

ended-closed : (s : State) → ClosedBy (ended s.counters)
ended-closed s h = only-last (end-last (max_reg_allocated s.counters) (num_perm_vars s.counters))

ran-closed : (parts : List (List ℕ)) (s : State) (number : ℕ) → ClosedBy (ran s number parts)
unfolding ran last_ran line_ran
ran-closed [] s number = ended-closed s
ran-closed (left ∷ []) s number =
    either ClosedBy (ltb 0 (length left)) {a = refused_at number refused_form} {b = ended s.counters}
    (λ h. absurd (true≢false h))
    (ended-closed s)
ran-closed (text ∷ (next ∷ parts)) s number =
    let a = line_answer s text in
    by_test ClosedBy (is_refused a.refusal)
    {a = refused_at number a.refusal} {b = later s number text (next ∷ parts)}
    (λ e h. absurd (true≢false (sym e ∙ h)))
    (λ e h. going_before (answer_lines a) (ran-closed (next ∷ parts) a.state (suc number) h))

clause_closed : (body : Body) → Closed (clause_text body)
unfolding clause_text ran_text sheet_ran
clause_closed body =
    let r = sheet_ran (sheet_of body) in
    elim r.refusal as (λ (refusal : Option Refusal). r.refusal ≡ refusal → Closed (told_or r.line refusal r.text)) [
      | Some refusal ↦ λ e. only-last (refusal_last r.line (refusal_number refusal) (clause_line_positive (sheet_of body) (ap is_refused e)))
      | None ↦ λ e. ran-closed (split line_feed (sheet_of body)) fresh_state 1 (ap is_refused e)
    ]
    refl

-- rule 18.8: so a host can cut what is written into the answers of its clauses, behind each `end` or `no` line
pub cut_behind : (body : Body) → EndsOnce (clause_text body)
cut_behind body = closed_once (clause_closed body)

-- ---- The lines of a bundle's answer

clause_lines : (body : Body) → Lines NotAtZero (clause_text body)
clause_lines body = closed-not-zero (clause_closed body)

texts_lines : (bodies : List Body) → Lines NotAtZero (clause_texts bodies)
unfolding clause_texts
texts_lines [] = no_lines
texts_lines (body ∷ bodies) = lines_append (clause_lines body) (texts_lines bodies)

module _ (bundle out : List ℕ) {count : ℕ} (h : answered bundle (length out) ≡ Ok count) where
  written_lines : Lines NotAtZero (take count (filled bundle out))
  written_lines =
      let told = (written_exactly bundle (length out)).0 h in
      subst (Lines NotAtZero)
      (sym (ap (take count) (written-filled bundle out told.0 told.1) ∙ take_at (bundle_text bundle) _ count (sym told.2)))
      (texts_lines (clauses (lines_of bundle)))

  -- what is written is whole lines
  pub written-ended : is_unended (take count (filled bundle out)) ≡ false
  written-ended = ap is_unended written_lines.made ∙ sheet-ended written_lines.lines

  -- and none of them begins with the fields `no`, `0`
  pub never_at_zero :
      (front : List (List ℕ)) (text : List ℕ) (others : List (List ℕ))
      → lines_of (take count (filled bundle out)) ≡ front ++ (text ∷ others)
      → ¬ NoAtZero text
  never_at_zero front text others e =
      each-among NotAtZero front text others (subst (Each NotAtZero) (sym (lines_are written_lines) ∙ e) written_lines.each)
