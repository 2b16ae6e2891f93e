-- Contexts and branches.
use Rattle.std.specs.Prelude.{ℕ, ◌+◌, Bool, ◌&&◌, leb, ltb}
use Rattle.forms.specs.declared.GenContext.{GenContext}
use Rattle.forms.specs.declared.GenContext.TheVariants.{Head, Mid, Last}
use Rattle.forms.specs.declared.Branch.{Branch}

-- rule 5.3: the chunk of a context, 0 for the head
abbrev pub chunk_num : GenContext → ℕ
chunk_num Head = 0
chunk_num (Mid chunk) = chunk
chunk_num (Last chunk) = chunk

-- rule 6.6: branch a contains branch b; the sum may pass the largest number of a sheet
abbrev pub has_as_subbranch : Branch → Branch → Bool
has_as_subbranch a b = leb a.start b.start && ltb b.start (a.start + a.span)

-- rule 6.6: where no branch is open; nothing looks at its span
abbrev pub default_branch : Branch
default_branch = record { start = 0; span = 0 }
