-- What the answer to a check sheet computes with: the definitions that an `unfolding` of these three names opens.
use Rattle.std.specs.Prelude.{ℕ, Bool, List, Option}
use Rattle.notation.specs.Lists.{numbers_from}
use Rattle.bit_set.specs.BitSet.{has, inserted}
use Rattle.refusals.specs.declared.Refusal.{Refusal}
use Rattle.split.specs.Split.{split, in_front}
use Rattle.words.specs.Words.{same}
use Rattle.numbers.specs.Numbers.{is_digit, all_digits, value_from, needless_zero, is_number, number_of}
use Rattle.steps.specs.declared.CheckLine.{CheckLine}
use Rattle.steps.specs.Steps.{steps_of, instructions_of, past_head, in_goal, number_taken, is_uncalled, refusal_of}
use Rattle.steps.specs.Order.{misplaced_under, refusal_by, judged_as, judged}
use Rattle.check_lines.specs.Behind.{Line, no_more, a_number, a_place}
use Rattle.check_lines.specs.CheckLines.{said_among, fields_say, line_says}
use Rattle.classes.specs.Classes.{pairs_of, both_names, label_of, exchanged, joined, labels_after, own_labels, labelling, all_same}
use Rattle.symbolic.specs.Symbolic.{pushed, listed, spoilt_up_to, value_of, again, claimed, carried_all}
use Rattle.verdict.specs.Verdict.{same_subterms, decided_by}
use Rattle.check_sheets.specs.Running.{verdict}

-- a line read
unfoldable pub check_line_read : List ℕ → Line
unfolding line_says fields_say said_among no_more a_number a_place is_digit all_digits value_from needless_zero is_number number_of same split in_front
check_line_read bytes = line_says bytes

-- its refusal behind the lines before it, and whether a `call` is missing at the end
unfoldable pub line_refusal : List CheckLine → CheckLine → Option Refusal
unfolding refusal_of steps_of instructions_of past_head in_goal number_taken is_uncalled
line_refusal earlier line = refusal_of earlier line

-- the verdict on all lines
unfoldable pub lines_decided : List CheckLine → Bool
unfolding verdict judged judged_as refusal_by misplaced_under has inserted decided_by same_subterms carried_all claimed again value_of spoilt_up_to listed pushed pairs_of both_names label_of exchanged joined labels_after own_labels labelling all_same numbers_from
lines_decided lines = verdict lines
