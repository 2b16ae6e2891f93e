-- A line of each word, and lines that have no form: rules 2.4, 5.6 to 5.27.
use Rattle.std.specs.Prelude.{ℕ, ◌≡◌, refl, List, [], ◌∷◌, map, None}
use Rattle.notation.specs.Text.{bytes}
use Rattle.split.specs.Split.{before, after, split, in_front}
use Rattle.words.specs.Words.{same}
use Rattle.numbers.specs.Numbers.{number_of, is_number, all_digits, is_digit, value_from, needless_zero}
use Rattle.forms.specs.declared.GenContext.TheVariants.{Head as InHead, Mid, Last}
use Rattle.forms.specs.declared.Level.TheVariants.{Root, Shallow, Deep}
use Rattle.targets.specs.declared.Target.TheVariants.{Fact, Query}
use Rattle.temp_var_data.specs.Uses.{head_context, last_context, use_code}
use Rattle.events.specs.declared.Event.TheVariants.{Temp, Perm, Sets, Head, Args, Var, Anon, NonVar, Cut, Incr, Free, Safe, Give, Tail, Next, Open, Arm, Take, Close, Reset, Contents, ClearFree}
use Rattle.events.specs.Events.{no_variable}
use Rattle.event_fields.specs.EventFields.{target_of, level_of, context_of, use_in, use_of, no_use, no_such_variable, variable_entry, argument_of}
use Rattle.event_lines.specs.LineForms.{Line, saying, end_says, field_says, all_entries, list_says, leading, uses_in, uses_say, uses_list}
use Rattle.event_lines.specs.Words.{line_words}
use Rattle.event_lines.specs.EventLines.{word_among, fields_say, fields_list, line_says, line_list}

-- each word, in the order of its rules
abbrev well_formed : List (List ℕ × Line)
well_formed =
    (bytes "temp\tl1\t1\th:1,l2:3", saying (Temp (Last 1) 1) 2)
    ∷ (bytes "perm\t1", saying (Perm 1) 0)
    ∷ (bytes "sets", saying Sets 0)
    ∷ (bytes "head\t0\t-\t64", saying Head 3)
    ∷ (bytes "args\t2", saying (Args 2) 0)
    ∷ (bytes "var\tf\ts\th\t0", saying (Var Fact Shallow InHead 0) 0)
    ∷ (bytes "anon\tq\tr\tm300", saying (Anon Query Root (Mid 300)) 0)
    ∷ (bytes "nonvar\tq\td\tl1\t2", saying (NonVar Deep (Last 1) 2) 0)
    ∷ (bytes "cut\t3\t1", saying (Cut 3 1) 0)
    ∷ (bytes "incr\t3", saying (Incr 3) 0)
    ∷ (bytes "free\t1\t3", saying (Free 1 3) 0)
    ∷ (bytes "safe\t3", saying (Safe 3) 0)
    ∷ (bytes "give\t4", saying (Give 4) 0)
    ∷ (bytes "tail\t1", saying (Tail 1) 0)
    ∷ (bytes "next", saying Next 0)
    ∷ (bytes "open\t8\t4\t2", saying (Open 8 4 2) 0)
    ∷ (bytes "arm\t8\t2", saying (Arm 8 2) 0)
    ∷ (bytes "take", saying Take 0)
    ∷ (bytes "close\t1\t5\t6", saying (Close 1) 2)
    ∷ (bytes "reset", saying Reset 0)
    ∷ (bytes "contents", saying Contents 0)
    ∷ (bytes "clearfree", saying ClearFree 0)
    ∷ (bytes "temp\th\t1\t-", saying (Temp InHead 1) 0)
    ∷ (bytes "head", saying Head 0)
    ∷ (bytes "close\t0", saying (Close 0) 0)
    ∷ []

abbrev malformed : List (List ℕ)
malformed =
    bytes ""
    ∷ bytes "Sets"
    ∷ bytes "sets\t"
    ∷ bytes "perm"
    ∷ bytes "perm\t01"
    ∷ bytes "cut\t1"
    ∷ bytes "arm\t1\t2\t3"
    ∷ bytes "head\t"
    ∷ bytes "close"
    ∷ bytes "temp\th\t1"
    ∷ bytes "temp\th\t1\th:1,"
    ∷ bytes "temp\th\t1\t-,h:1"
    ∷ bytes "temp\th0\t1\t-"
    ∷ bytes "var\tf\ts\tm\t0"
    ∷ bytes "anon\tf\ts\th\t0"
    ∷ []

-- the lists of lines: a register or a chunk that there is not is no use, and 64 is no `-`
abbrev lists : List (List ℕ × List ℕ)
lists =
    (bytes "temp\tl1\t1\th:1,l2:3,h:64,m256:1", use_code head_context 1 ∷ use_code (last_context 2) 3 ∷ no_use ∷ no_use ∷ [])
    ∷ (bytes "head\t0\t-\t63\t64", 0 ∷ no_variable ∷ 63 ∷ no_such_variable ∷ [])
    ∷ (bytes "close\t1\t5\t6", 5 ∷ 6 ∷ [])
    ∷ (bytes "close\t1\t5\tx\t6", 5 ∷ [])
    ∷ (bytes "perm\t1", [])
    ∷ []

pub lines_read : map (λ (e : List ℕ × Line). line_says e.0) well_formed ≡ map (λ (e : List ℕ × Line). e.1) well_formed
unfolding line_says line_list fields_say fields_list word_among line_words split in_front same end_says field_says list_says all_entries leading uses_in uses_say uses_list number_of is_number all_digits is_digit value_from needless_zero target_of level_of context_of use_of use_in before after argument_of variable_entry
lines_read = refl

pub lines_refused : map line_says malformed ≡ map (λ (line : List ℕ). None) malformed
unfolding line_says line_list fields_say fields_list word_among line_words split in_front same end_says field_says list_says all_entries leading uses_in uses_say uses_list number_of is_number all_digits is_digit value_from needless_zero target_of level_of context_of use_of use_in before after argument_of variable_entry
lines_refused = refl

pub lists-read : map (λ (e : List ℕ × List ℕ). line_list e.0) lists ≡ map (λ (e : List ℕ × List ℕ). e.1) lists
unfolding line_says line_list fields_say fields_list word_among line_words split in_front same end_says field_says list_says all_entries leading uses_in uses_say uses_list number_of is_number all_digits is_digit value_from needless_zero target_of level_of context_of use_of use_in before after argument_of variable_entry
lists-read = refl
