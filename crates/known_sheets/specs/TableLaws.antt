-- Rule 25.6: every row of the table holds, by computation.
use Rattle.std.specs.Prelude.{refl}
use Rattle.event_sheets.specs.EventSheets.{line_answer, max_reg_allocated, last_ran, line_ran, ran, sheet_ran, answered_by, answered as events_answered, filled as events_filled}
use Rattle.check_sheets.specs.CheckSheets.{last_read, read_from, reading, roomed, answered as check_answered, filled as check_filled}
use Rattle.check_sheets.specs.TellsLaws.{by-verdict}
use Rattle.known_sheets.specs.Known.{AllHold, state_after, sheet_state}
use Rattle.known_sheets.specs.EventComputing.{line_read, line_step, line_printed}
use Rattle.known_sheets.specs.CheckComputing.{check_line_read, line_refusal, lines_decided}
use Rattle.known_sheets.specs.Table.{table}

pub table_holds : AllHold table
unfolding line_read line_step line_printed line_answer max_reg_allocated last_ran line_ran ran sheet_ran answered_by events_answered events_filled state_after sheet_state check_line_read line_refusal lines_decided last_read read_from reading roomed check_answered check_filled
table_holds = ((refl, refl), (refl, ((refl, refl), (refl, ((refl, refl), ((refl, refl), ((refl, refl), ((refl, refl), ((refl, refl), ((refl, refl), (by-verdict _ (refl, refl), (by-verdict _ (refl, refl), (by-verdict _ (refl, refl), (by-verdict _ (refl, refl), (by-verdict _ (refl, refl), (by-verdict _ (refl, refl), (by-verdict _ (refl, refl), ((refl, refl), (by-verdict _ (refl, refl), (by-verdict _ (refl, refl), (by-verdict _ (refl, refl), (by-verdict _ (refl, refl), (by-verdict _ (refl, refl), (by-verdict _ (refl, refl), (by-verdict _ (refl, refl), (by-verdict _ (refl, refl), (by-verdict _ (refl, refl), (by-verdict _ (refl, refl), (by-verdict _ (refl, refl), (by-verdict _ (refl, refl), (by-verdict _ (refl, refl), (by-verdict _ (refl, refl), (by-verdict _ (refl, refl), (by-verdict _ (refl, refl), (by-verdict _ (refl, refl), (by-verdict _ (refl, refl), (by-verdict _ (refl, refl), (by-verdict _ (refl, refl), (by-verdict _ (refl, refl), (by-verdict _ (refl, refl), (by-verdict _ (refl, refl), (by-verdict _ (refl, refl), tt))))))))))))))))))))))))))))))))))))))))))
