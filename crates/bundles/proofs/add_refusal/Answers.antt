-- `bundles::add_refusal`: the line is put into the scratch, counted there, and copied on. Assumes nothing.
use borrow.Author.Rules.{rules}
use Rattle.answers.specs.AnswersLaws.{added}
use Rattle.bundles.specs.RunningLaws.{refusal_short}
use Rattle.bundles.proofs.add_refusal.Goals as goal

pub returns : goal.returns
returns c =
    rw (← c.number.ensures)
    (let line = added (search (rules, refusal_short c.args.line c.number.result)) c.put_refusal-length.ensures c.part_before.ensures c.put_word.ensures in (record { value = line.counted; out_after = line.put.bytes }))
