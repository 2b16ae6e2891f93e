-- Use sets, rule 7.1, kept beside the records as rows of one table, and what is read off them.
use Rattle.std.specs.Prelude.{ℕ, ◌+◌, ◌*◌, ◌/◌, ◌%◌, min, ◌≡◌, Bool, not, ◌&&◌, List, eqb, leb, ltb, length, get_or, take, drop, set}
use Rattle.std.specs.Prelude.{if◌then◌else◌}
use Rattle.sizes.specs.Sizes.{variables, uses}
use Rattle.bit_set.specs.Collected.{collected}
use Rattle.temp_var_data.specs.Lists.{any}

-- ---- A use is a context and a register, kept as one number

-- a chunk takes a byte of it, and so does a register; a larger number is cut to its lowest byte
abbrev pub low_byte : ℕ → ℕ
low_byte n = n % 256

abbrev pub head_context : ℕ
head_context = 0

abbrev pub mid_context : ℕ → ℕ
mid_context chunk = 256 + low_byte chunk

abbrev pub last_context : ℕ → ℕ
last_context chunk = 512 + low_byte chunk

abbrev pub use_code : ℕ → ℕ → ℕ
use_code context register = 256 * context + low_byte register

abbrev pub context_of : ℕ → ℕ
context_of code = code / 256

abbrev pub register_of : ℕ → ℕ
register_of code = low_byte code

-- ---- The use set of a variable

-- as many entries of the row of v as count, in order; no row has more than rule 3.3 allows
unfoldable pub uses_of : List ℕ → List ℕ → ℕ → List ℕ
uses_of use_sets use_counts v = take (min (get_or use_counts v 0) uses) (drop (v * uses) use_sets)

unfoldable pub uses_register : List ℕ → ℕ → Bool
uses_register use_set register = any (λ code. eqb register (register_of code)) use_set

unfoldable pub contains_use : List ℕ → ℕ → Bool
contains_use use_set code = any (λ entry. eqb code entry) use_set

-- ---- One use more, rule 5.5: it stands last, and is left out where it is there already; a full row stays as it is

module _ (use_sets use_counts : List ℕ) (v code : ℕ) where
  -- whether there is room in the row of v, and the use is not there yet
  unfoldable pub takes_use : Bool
  takes_use =
      ltb v variables && ltb (get_or use_counts v 0) uses && not (contains_use (uses_of use_sets use_counts v) code)

  unfoldable pub use_sets_with : List ℕ
  use_sets_with = if takes_use then set use_sets (v * uses + get_or use_counts v 0) code else use_sets

  unfoldable pub use_counts_with : List ℕ
  use_counts_with = if takes_use then set use_counts v (get_or use_counts v 0 + 1) else use_counts

-- both tables afterwards
pub record UseAdded (use_sets use_counts : List ℕ) (v code : ℕ) (sets_after counts_after : List ℕ) : Type 0 where
  pub sets : sets_after ≡ use_sets_with use_sets use_counts v code
  pub counts : counts_after ≡ use_counts_with use_sets use_counts v code

-- ---- The conflict set, rule 7.3: from 1 up to, but not including, the number of entries, without registers that are used

abbrev pub is_up_to : ℕ → ℕ → Bool
is_up_to end r = leb 1 r && ltb r end

unfoldable pub up_to : ℕ → ℕ
up_to end = collected (is_up_to end)

unfoldable pub conflict_of : List ℕ → ℕ
conflict_of use_set = collected (λ r. is_up_to (length use_set) r && not (uses_register use_set r))
