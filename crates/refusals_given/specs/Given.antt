-- Which refusals a line of an event sheet can be given, by what it says, and which of them only while it is carried out.
use Rattle.std.specs.Prelude.{ℕ, Option, Some, None, List, [], ◌∷◌}
use Rattle.refusals.specs.declared.Refusal.{Refusal}
use Rattle.refusals.specs.Refusals.{number_of, refused_order, refused_size, refused_stop, refused_register, refused_slot, refused_full}
use Rattle.events.specs.declared.Event.{Event}
use Rattle.events.specs.declared.Event.TheVariants.{Temp, Perm, Sets, Head, Args, Var, Anon, NonVar, Cut, Incr, Free, Safe, Give, Tail, Next, Open, Arm, Take, Close, Reset, Contents, ClearFree}

-- the number of what a line is given, 0 for nothing
abbrev pub number_in : Option Refusal → ℕ
number_in None = 0
number_in (Some refusal) = number_of refusal

-- what holds of each of some refusals
abbrev pub AllGiven : (Option Refusal → Type 0) → List (Option Refusal) → Type 0
AllGiven P [] = Unit {0}
AllGiven P (refusal ∷ others) = P refusal × AllGiven P others

-- a line whose form is right; by rule 4.8 no row has 8
abbrev pub refusals_of : Event → List (Option Refusal)
refusals_of (Temp context occurrences) = refused_order ∷ (refused_size ∷ (refused_full ∷ []))
refusals_of (Perm occurrences) = refused_order ∷ (refused_size ∷ (refused_full ∷ []))
refusals_of Sets = []
refusals_of Head = refused_size ∷ (refused_full ∷ [])
refusals_of (Args count) = refused_size ∷ []
refusals_of (Var target level context v) = refused_size ∷ (refused_stop ∷ (refused_register ∷ (refused_slot ∷ (refused_full ∷ []))))
refusals_of (Anon target level context) = refused_size ∷ (refused_register ∷ (refused_full ∷ []))
refusals_of (NonVar level context cell) = refused_size ∷ (refused_register ∷ (refused_full ∷ []))
refusals_of (Cut v chunk) = refused_size ∷ (refused_register ∷ (refused_slot ∷ []))
refusals_of (Incr v) = refused_size ∷ (refused_full ∷ [])
refusals_of (Free chunk v) = refused_size ∷ (refused_full ∷ [])
refusals_of (Safe v) = refused_size ∷ (refused_stop ∷ [])
refusals_of (Give r) = refused_size ∷ (refused_full ∷ [])
refusals_of (Tail tail) = refused_size ∷ []
refusals_of Next = refused_full ∷ []
refusals_of (Open start span arms) = refused_size ∷ (refused_full ∷ [])
refusals_of (Arm start span) = refused_stop ∷ (refused_full ∷ [])
refusals_of Take = refused_stop ∷ []
refusals_of (Close depth) = refused_size ∷ (refused_stop ∷ (refused_full ∷ []))
refusals_of Reset = []
refusals_of Contents = []
refusals_of ClearFree = []

-- by a line that nothing refused before
abbrev pub carrying_refusals : Event → List (Option Refusal)
carrying_refusals (Temp context occurrences) = []
carrying_refusals (Perm occurrences) = []
carrying_refusals Sets = []
carrying_refusals Head = []
carrying_refusals (Args count) = []
carrying_refusals (Var target level context v) = refused_stop ∷ (refused_register ∷ (refused_slot ∷ (refused_full ∷ [])))
carrying_refusals (Anon target level context) = refused_register ∷ []
carrying_refusals (NonVar level context cell) = refused_register ∷ []
carrying_refusals (Cut v chunk) = refused_register ∷ (refused_slot ∷ [])
carrying_refusals (Incr v) = refused_full ∷ []
carrying_refusals (Free chunk v) = refused_full ∷ []
carrying_refusals (Safe v) = refused_stop ∷ []
carrying_refusals (Give r) = refused_full ∷ []
carrying_refusals (Tail tail) = []
carrying_refusals Next = []
carrying_refusals (Open start span arms) = refused_full ∷ []
carrying_refusals (Arm start span) = refused_stop ∷ (refused_full ∷ [])
carrying_refusals Take = refused_stop ∷ []
carrying_refusals (Close depth) = refused_stop ∷ []
carrying_refusals Reset = []
carrying_refusals Contents = []
carrying_refusals ClearFree = []
