-- A text added to an answer, with its length.
use Rattle.std.specs.Prelude.{ℕ, ◌≡◌, List, length}
use Rattle.printing.specs.Printing.{printed, Put}
use Rattle.answers.specs.declared.Adding.{Adding}

-- the text is put into the lent bytes, its length is given, and it stands in the scratch
pub record Added (scratch out : List ℕ) (at : ℕ) (text : List ℕ) (r : Adding) (scratch_after after : List ℕ) : Type 0 where
  pub put : Put out at text r.place after
  pub counted : r.length ≡ length text
  pub scratched : scratch_after ≡ printed scratch 0 text
