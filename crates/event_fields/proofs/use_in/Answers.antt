-- `event_fields::use_in`: each way of the code is a case of the definition. Assumes nothing.
use Rattle.event_fields.specs.EventFields.{use_in}
use Rattle.event_fields.proofs.use_in.Goals as goal
use Rattle.event_fields.proofs.use_in.Goals.{else-is_register-via-then-is_register+else-is_chunk, else-is_register-via-else-is_register}

pub returns-then-is_chunk : goal.returns-then-is_chunk
unfolding use_in
returns-then-is_chunk c = simp (← c.is_register.ensures, c.if-is_register.true, ← c.chunk_num.ensures, ← c.is_chunk.ensures, c.if-is_chunk.true, ← c.code_in.ensures)

pub returns : goal.returns
unfolding use_in
returns c =
    elim c.else-is_register.branch [
      | else-is_register-via-then-is_register+else-is_chunk w ↦ simp (← c.is_register.ensures, w.if-is_register.true, ← w.chunk_num.ensures, ← w.is_chunk.ensures, w.if-is_chunk.false)
      | else-is_register-via-else-is_register w ↦ simp (← c.is_register.ensures, w.if-is_register.false)
    ]
