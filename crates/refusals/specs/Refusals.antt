-- The refusals and their numbers: rules 4.1 to 4.9.
use Rattle.std.specs.Prelude.{ℕ, Bool, Option, Some, None, is_some}
use Rattle.refusals.specs.declared.Refusal.{Refusal}
use Rattle.refusals.specs.declared.Refusal.TheVariants.{Form, Order, Size, Stop, Register, Slot, Full, Unreachable, Room}

-- the number by which a refusal is told
abbrev pub number_of : Refusal → ℕ
number_of Form = 1
number_of Order = 2
number_of Size = 3
number_of Stop = 4
number_of Register = 5
number_of Slot = 6
number_of Full = 7
number_of Unreachable = 8
number_of Room = 9

-- ---- What a step says: nothing, or a refusal

-- not refused
abbrev pub accepted : Option Refusal
accepted = None

-- rule 4.1: the form of a line
abbrev pub refused_form : Option Refusal
refused_form = Some Form

-- rule 4.2: the order of lines
abbrev pub refused_order : Option Refusal
refused_order = Some Order

-- rule 4.3: the size of a number, or no record has it
abbrev pub refused_size : Option Refusal
refused_size = Some Size

-- rule 4.4: the original stops
abbrev pub refused_stop : Option Refusal
refused_stop = Some Stop

-- rule 4.5: no register up to 63 is found
abbrev pub refused_register : Option Refusal
refused_register = Some Register

-- rule 4.6: no slot up to 63 is left
abbrev pub refused_slot : Option Refusal
refused_slot = Some Slot

-- rule 4.7: something is full or too long
abbrev pub refused_full : Option Refusal
refused_full = Some Full

-- rule 4.8: what the original holds it cannot meet; given to no sheet
abbrev pub refused_unreachable : Option Refusal
refused_unreachable = Some Unreachable

-- rule 4.9: the text is longer than its room
abbrev pub refused_room : Option Refusal
refused_room = Some Room

abbrev pub is_refused : Option Refusal → Bool
is_refused refusal = is_some refusal
