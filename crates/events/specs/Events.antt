-- What a line of an event sheet says, and what refuses it before it is carried out.
use Rattle.std.specs.Prelude.{ℕ, Bool, true, false, ◌&&◌, ◌||◌, List, [], ◌∷◌, eqb, leb, ltb, length}
use Rattle.std.specs.Prelude.{if◌then◌else◌, Option}
use Rattle.refusals.specs.declared.Refusal.{Refusal}
use Rattle.refusals.specs.Refusals.{accepted, refused_order, refused_size, refused_full}
use Rattle.sizes.specs.Sizes.{variables, uses, registers, counters, chunks, is_register, is_argument, is_chunk, is_count}
use Rattle.forms.specs.declared.GenContext.{GenContext}
use Rattle.forms.specs.declared.Level.{Level}
use Rattle.forms.specs.declared.Level.TheVariants.{Root, Shallow, Deep}
use Rattle.forms.specs.Forms.{chunk_num}
use Rattle.temp_var_data.specs.Uses.{head_context, mid_context, last_context, context_of, register_of}
use Rattle.allocator_state.specs.declared.Counters.{Counters}
use Rattle.events.specs.declared.Entries.{Entries}
use Rattle.events.specs.declared.Entries.TheVariants.{Uses, Arguments, Variables}
use Rattle.events.specs.declared.Event.{Event}
use Rattle.events.specs.declared.Event.TheVariants.{Temp, Perm, Sets, Head, Args, Var, Anon, NonVar, Cut, Incr, Free, Safe, Give, Tail, Next, Open, Arm, Take, Close, Reset, Contents, ClearFree}

-- ---- Sizes: rule 4.3

-- a context: the head's, or one of a chunk that there is, rule 3.6
unfoldable pub is_context : ℕ → Bool
is_context n = eqb n head_context || leb (mid_context 0) n && leb n (last_context chunks)

-- a use of a register that there is, rule 3.4
unfoldable pub is_use : ℕ → Bool
is_use code = is_register (register_of code) && is_context (context_of code)

-- in the place of a head's variable: the argument is none
abbrev pub no_variable : ℕ
no_variable = variables

-- an entry of a list is inside its size, or names one of so many variables
abbrev pub entry_fits : Entries → ℕ → ℕ → Bool
entry_fits Uses records n = is_use n
entry_fits Arguments records n = eqb n no_variable || ltb n records
entry_fits Variables records n = ltb n records

unfoldable pub all_fit : Entries → ℕ → List ℕ → Bool
all_fit entries records [] = true
all_fit entries records (n ∷ ns) = entry_fits entries records n && all_fit entries records ns

abbrev pub context_fits : GenContext → Bool
context_fits context = is_chunk (chunk_num context)

-- rules 3.4 to 3.7, 3.12 and 3.13: every number of a line is inside its size or names one of so many variables
abbrev pub in_size : ℕ → Event → List ℕ → Bool
in_size records (Temp context occurrences) list = context_fits context && (is_count occurrences && all_fit Uses records list)
in_size records (Perm occurrences) list = is_count occurrences
in_size records Sets list = true
in_size records Head list = all_fit Arguments records list
in_size records (Args count) list = is_argument count
in_size records (Var target level context v) list = context_fits context && ltb v records
in_size records (Anon target level context) list = context_fits context
in_size records (NonVar level context cell) list = context_fits context && is_argument cell
in_size records (Cut v chunk) list = ltb v records && is_chunk chunk
in_size records (Incr v) list = ltb v records
in_size records (Free chunk v) list = is_chunk chunk && ltb v records
in_size records (Safe v) list = ltb v records
in_size records (Give r) list = is_register r
in_size records (Tail tail) list = leb tail 1
in_size records Next list = true
in_size records (Open start span arms) list = is_count arms
in_size records (Arm start span) list = true
in_size records Take list = true
in_size records (Close depth) list = all_fit Variables records list
in_size records Reset list = true
in_size records Contents list = true
in_size records ClearFree list = true

-- ---- What is full: rule 4.7

-- rules 12.3, 13.1, 13.3 and 13.4: at `r` and `s` a variable is an argument, any other term only at `s`
abbrev pub takes_argument : Level → Bool
takes_argument Root = true
takes_argument Shallow = true
takes_argument Deep = false

abbrev pub is_shallow : Level → Bool
is_shallow Root = false
is_shallow Shallow = true
is_shallow Deep = false

-- a list of so many entries is too long, rule 3.14, the record is the 65th, or the argument counter stands at 64
abbrev pub is_full : Counters → Event → ℕ → Bool
is_full c (Temp context occurrences) entries = ltb uses entries || leb variables c.records
is_full c (Perm occurrences) entries = leb variables c.records
is_full c Sets entries = false
is_full c Head entries = ltb registers entries
is_full c (Args count) entries = false
is_full c (Var target level context v) entries = takes_argument level && leb counters c.arg_c
is_full c (Anon target level context) entries = takes_argument level && leb counters c.arg_c
is_full c (NonVar level context cell) entries = is_shallow level && leb counters c.arg_c
is_full c (Cut v chunk) entries = false
is_full c (Incr v) entries = false
is_full c (Free chunk v) entries = false
is_full c (Safe v) entries = false
is_full c (Give r) entries = false
is_full c (Tail tail) entries = false
is_full c Next entries = leb counters c.arg_c
is_full c (Open start span arms) entries = false
is_full c (Arm start span) entries = false
is_full c Take entries = false
is_full c (Close depth) entries = ltb variables entries
is_full c Reset entries = false
is_full c Contents entries = false
is_full c ClearFree entries = false

-- ---- In which order they refuse: rules 4.12 and 4.13

abbrev pub is_record : Event → Bool
is_record (Temp context occurrences) = true
is_record (Perm occurrences) = true
is_record Sets = false
is_record Head = false
is_record (Args count) = false
is_record (Var target level context v) = false
is_record (Anon target level context) = false
is_record (NonVar level context cell) = false
is_record (Cut v chunk) = false
is_record (Incr v) = false
is_record (Free chunk v) = false
is_record (Safe v) = false
is_record (Give r) = false
is_record (Tail tail) = false
is_record Next = false
is_record (Open start span arms) = false
is_record (Arm start span) = false
is_record Take = false
is_record (Close depth) = false
is_record Reset = false
is_record Contents = false
is_record ClearFree = false

unfoldable pub refusal_by_size : Counters → Event → List ℕ → Option Refusal
refusal_by_size c event list =
    if in_size c.records event list then if is_full c event (length list) then refused_full else accepted else refused_size

-- rules 5.1 and 5.2: records stand first; one behind an event is refused for that, whatever else is wrong
unfoldable pub refusal_before : Counters → Event → List ℕ → Option Refusal
refusal_before c event list =
    if is_record event && ltb 0 c.events_seen then refused_order else refusal_by_size c event list
