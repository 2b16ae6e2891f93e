-- What one field of an event's line says, or one entry of its list; other bytes have no form: rules 2.4, 5.3 to 5.5, 5.9.
use Rattle.std.specs.Prelude.{ℕ, ◌+◌, ◌&&◌, List, ltb, take, drop, Option, Some, None, option_map}
use Rattle.std.specs.Prelude.{if◌then◌else◌}
use Rattle.notation.specs.Text.{byte, bytes}
use Rattle.sizes.specs.Sizes.{variables, is_register, is_chunk}
use Rattle.split.specs.Split.{before, after}
use Rattle.words.specs.Words.{same}
use Rattle.numbers.specs.Numbers.{number_of}
use Rattle.forms.specs.declared.GenContext.{GenContext}
use Rattle.forms.specs.declared.GenContext.TheVariants.{Head, Mid, Last}
use Rattle.forms.specs.declared.Level.{Level}
use Rattle.forms.specs.declared.Level.TheVariants.{Root, Shallow, Deep}
use Rattle.forms.specs.Forms.{chunk_num}
use Rattle.targets.specs.declared.Target.{Target}
use Rattle.targets.specs.declared.Target.TheVariants.{Fact, Query}
use Rattle.temp_var_data.specs.Uses.{head_context, mid_context, last_context, use_code}
use Rattle.events.specs.declared.Entries.{Entries}
use Rattle.events.specs.declared.Entries.TheVariants.{Uses, Arguments, Variables}
use Rattle.events.specs.Events.{no_variable}

-- ---- Target, level and context

-- rule 5.4: a fact or a query
unfoldable pub target_of : List ℕ → Option Target
target_of field =
    if same field (bytes "f") then Some Fact else if same field (bytes "q") then Some Query else None

-- rule 5.4: by itself, an argument, or deep
unfoldable pub level_of : List ℕ → Option Level
level_of field =
    if same field (bytes "r")
    then Some Root
    else if same field (bytes "s") then Some Shallow else if same field (bytes "d") then Some Deep else None

-- rule 5.3: the head, inside a chunk, or the last goal of one
unfoldable pub context_of : List ℕ → Option GenContext
context_of field =
    if same field (bytes "h")
    then Some Head
    else if same (take 1 field) (bytes "m")
    then option_map Mid (number_of (drop 1 field))
    else if same (take 1 field) (bytes "l") then option_map Last (number_of (drop 1 field)) else None

-- ---- Entries: a use, an argument of a head, a variable

abbrev pub code_in : GenContext → ℕ → ℕ
code_in Head register = use_code head_context register
code_in (Mid chunk) register = use_code (mid_context chunk) register
code_in (Last chunk) register = use_code (last_context chunk) register

-- in the place of a use: its register is 0, and no register has that number
abbrev pub no_use : ℕ
no_use = 0

-- the number of a use, where there is such a register and such a chunk
unfoldable pub use_in : GenContext → ℕ → ℕ
use_in context register = if is_register register && is_chunk (chunk_num context) then code_in context register else no_use

abbrev pub coded : Option GenContext → Option ℕ → Option ℕ
coded (Some context) (Some register) = Some (use_in context register)
coded (Some context) None = None
coded None register = None

abbrev pub colon : ℕ
colon = byte ":"

-- rule 5.5: one use, which is a context, a colon and a register
unfoldable pub use_of : List ℕ → Option ℕ
use_of part = coded (context_of (before colon part)) (number_of (after colon part))

-- in the place of a head's variable: there cannot be one with that number
abbrev pub no_such_variable : ℕ
no_such_variable = no_variable + 1

unfoldable pub variable_entry : ℕ → ℕ
variable_entry v = if ltb v variables then v else no_such_variable

-- rule 5.9: one argument of a head
unfoldable pub argument_of : List ℕ → Option ℕ
argument_of field = if same field (bytes "-") then Some no_variable else option_map variable_entry (number_of field)

abbrev pub entry_of : Entries → List ℕ → Option ℕ
entry_of Uses part = use_of part
entry_of Arguments part = argument_of part
entry_of Variables part = number_of part
