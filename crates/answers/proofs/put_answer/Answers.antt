-- `answers::put_answer`: the texts stand behind each other. Assumes nothing.
use Rattle.printing.specs.PrintingLaws.{put_then}
use Rattle.answers.specs.Answers.{answer_text}
use Rattle.answers.proofs.put_answer.Goals as goal

pub returns : goal.returns
unfolding answer_text
returns c = put_then c.put_code-next.ensures c.put_place.ensures
