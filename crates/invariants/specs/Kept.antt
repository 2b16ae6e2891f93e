-- What every step keeps of every record: its kind, and that its place's number is good.
use Rattle.std.specs.Prelude.{ℕ, ◌%◌, ◌≤◌, Bool, true, false, List}
use Rattle.std.proofs.Common.{arith}
use Rattle.sizes.specs.Sizes.{variables, registers}
use Rattle.registers.specs.Registers.{number_of_place}
use Rattle.variable_records.specs.declared.VarAlloc.{VarAlloc}
use Rattle.variable_records.specs.declared.VarAlloc.TheVariants.{Temp, Perm}
use Rattle.variable_records.specs.declared.VariableRecord.{VariableRecord}
use Rattle.variable_records.specs.Records.{place_of_alloc, placed_alloc, placed_at}
use Rattle.variable_records.specs.Rows.{record_at, record_put, temporary}
use Rattle.invariants.specs.Every.{Every, every_at, every_put}

-- what is wanted of a variable that is a temporary or is not, and of the number of a place: any up to 63 is good
pub record Wanted : Type 1 where
  pub Kind : ℕ → Bool → Type 0
  pub Good : ℕ → Type 0
  pub small : (n : ℕ) → n ≤ registers → Good n

-- variable w is of its kind, in a good place
abbrev pub Holds : Wanted → ℕ → VarAlloc → Type 0
Holds k w (Temp context register safety to_perm) = k.Kind w true × k.Good register
Holds k w (Perm slot allocation) = k.Kind w false × k.Good slot

module _ (k : Wanted) where
  abbrev Wants : ℕ → VariableRecord → Type 0
  Wants w variable = Holds k w variable.allocation

  abbrev pub Kept : List ℕ → Type 0
  Kept records = Every Wants records

  pub none_good : k.Good 0
  none_good = k.small 0 (omega arith)

  -- ---- One record

  pub holds_so :
      (w : ℕ) (allocation : VarAlloc) → k.Kind w (temporary allocation) → k.Good (number_of_place (place_of_alloc allocation)) → Holds k w allocation
  unfolding temporary
  holds_so w (Temp context register safety to_perm) kind good = (kind, good)
  holds_so w (Perm slot allocation) kind good = (kind, good)

  pub holds_kind : (w : ℕ) (allocation : VarAlloc) → Holds k w allocation → k.Kind w (temporary allocation)
  unfolding temporary
  holds_kind w (Temp context register safety to_perm) h = h.0
  holds_kind w (Perm slot allocation) h = h.0

  pub holds_place : (w : ℕ) (allocation : VarAlloc) → Holds k w allocation → k.Good (number_of_place (place_of_alloc allocation))
  holds_place w (Temp context register safety to_perm) h = h.1
  holds_place w (Perm slot allocation) h = h.1

  -- another good place
  holds_placed :
      (w : ℕ) (allocation : VarAlloc) (place : ℕ) → Holds k w allocation → k.Good place → Holds k w (placed_alloc allocation place)
  holds_placed w (Temp context register safety to_perm) place h good = (h.0, good)
  holds_placed w (Perm slot allocation) place h good = (h.0, good)

  -- ---- The table

  module _ {records : List ℕ} (every : Kept records) (v : ℕ) where
    pub kept_at : Holds k (v % variables) (record_at records v).allocation
    kept_at = every_at Wants every v

    pub kept_put :
        (variable : VariableRecord) → Holds k (v % variables) variable.allocation
        → Kept (record_put records v variable)
    kept_put variable h = every_put Wants every v variable h

    pub kept_placed : (place : ℕ) → k.Good place → Kept (record_put records v (placed_at (record_at records v) place))
    kept_placed place good =
        kept_put (placed_at (record_at records v) place) (holds_placed (v % variables) (record_at records v).allocation place kept_at good)
