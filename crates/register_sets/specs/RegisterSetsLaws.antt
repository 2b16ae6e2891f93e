-- Laws of tables of register sets: what is read after a set was stored. Every register fits a set.
use Rattle.std.specs.Prelude.{ℕ, ◌%◌, ◌≤◌, ◌<◌, ◌≡◌, ◌≢◌, List, length}
use Rattle.std.proofs.Common.{arith, length-set, get_or-set_same, get_or-set_other}
use Rattle.sizes.specs.Sizes.{variables, registers}
use Rattle.bit_set.specs.BitSet.{last_member}
use Rattle.register_sets.specs.RegisterSets.{set_at, set_put}

-- a set of registers is one word: no register has a number past the word's last
pub every_register-fits : registers ≤ last_member
every_register-fits = omega arith

pub set_put-same : (sets : List ℕ) (v s : ℕ) → length sets ≡ variables → set_at (set_put sets v s) v ≡ s
unfolding set_at set_put
set_put-same sets v s size = get_or-set_same sets (v % variables) s 0 (omega arith)

pub set_put-other :
    (sets : List ℕ) (v w s : ℕ) → v < variables → w < variables → v ≢ w → set_at (set_put sets v s) w ≡ set_at sets w
unfolding set_at set_put
set_put-other sets v w s hv hw differ = get_or-set_other sets (v % variables) (w % variables) s 0 (omega arith)

pub set_put-length : (sets : List ℕ) (v s : ℕ) → length (set_put sets v s) ≡ length sets
unfolding set_put
set_put-length sets v s = length-set sets (v % variables) s
