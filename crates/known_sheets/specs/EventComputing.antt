-- What the answer to an event sheet computes with: the definitions that an `unfolding` of these three names opens.
use Rattle.std.specs.Prelude.{ℕ, List}
use Rattle.notation.specs.Lists.{numbers_from}
use Rattle.bit_set.specs.BitSet.{has, inserted, union, removed}
use Rattle.bit_set.specs.Collected.{collected_below, collected}
use Rattle.split.specs.Split.{before, after, split, in_front, joined}
use Rattle.words.specs.Words.{same}
use Rattle.numbers.specs.Numbers.{is_digit, all_digits, value_from, needless_zero, is_number, number_of, decimal, written}
use Rattle.registers.specs.Registers.{register_text}
use Rattle.instructions.specs.Instructions.{line as text_line, instruction_text, at_text}
use Rattle.variable_records.specs.Rows.{record_at, record_put, record_of, allocation_of, perm_of, safety_of, context_of, temporary, is_temporary}
use Rattle.variable_records.specs.Safety.{unneeded_in, needed_if}
use Rattle.register_sets.specs.RegisterSets.{set_at, set_put}
use Rattle.temp_var_data.specs.Lists.{any}
use Rattle.temp_var_data.specs.Uses.{uses_of, uses_register, contains_use, takes_use, use_sets_with, use_counts_with, conflict_of, up_to}
use Rattle.restricting_sets.specs.Restricting.{below, sets_anew, chunk_of, is_temporary as has_chunk, before_or_free, restricts, no_use_of, conflict_at}
use Rattle.shallow_temp_mappings.specs.Mappings.{mapped_at, mapped_with}
use Rattle.perm_free_list.specs.PermFreeList.{free_slot, entries, looked}
use Rattle.branch_stack.specs.BranchStack.{current_branch}
use Rattle.allocator_state.specs.State.{counter_after}
use Rattle.choice.specs.Choice.{in_use, is_free, first, registers_from, first_unused, least_free, otherwise, chosen}
use Rattle.evacuation.specs.Evacuation.{hint, moved_to, evacuated_by, evacuated}
use Rattle.allocation.specs.Allocation.{slot_given, slot_taken, new_slot, slot_found, perm_placed}
use Rattle.branches.specs.Lists.{each}
use Rattle.branches.specs.Branches.{top_of, rows_top, sets_top, recorded, rows_recorded, sets_recorded}
use Rattle.freeing.specs.Freeing.{pushed_free, freed, counted_or_freed}
use Rattle.record_marks.specs.RecordMarks.{argument_safe, argument_value_of, safe_in, subterm_value_of}
use Rattle.reserved_var.specs.ReservedVar.{remembered, safe_made, instructed_after, argument_made, others_out, advanced_by, marked_after, argument_marked, shallow_in_head, met, subterm_made}
use Rattle.marks.specs.Marks.{alloc_apart, after_evacuation, alloc_shallow}
use Rattle.mark_var.specs.MarkVar.{noted_slot, settled, finished_after, finished, reserved_after, reserved_marked, marked_at, new_temporary_after, new_temporary_marked, new_slot_after, new_slot_marked, temporary_marked, permanent_marked, var_marked}
use Rattle.resets.specs.Resets.{awaits_register, argument_placed, arguments_placed, head_reset}
use Rattle.clause_records.specs.ClauseRecords.{rows_put, perm_recorded, uses_given, temp_recorded, chunk_at, chunks_of, populated}
use Rattle.events.specs.declared.Event.{Event}
use Rattle.events.specs.Events.{is_context, is_use, all_fit, refusal_by_size, refusal_before}
use Rattle.debray_allocator.specs.declared.State.{State}
use Rattle.debray_allocator.specs.declared.Answer.{Answer}
use Rattle.debray_allocator.specs.DebrayAllocator.{seen_after, refused_with, acted, unless_refused, stepped}
use Rattle.event_fields.specs.EventFields.{target_of, level_of, context_of as context_field, use_in, use_of, variable_entry, argument_of}
use Rattle.event_lines.specs.LineForms.{Line, end_says, field_says, all_entries, list_says, leading, uses_in, uses_say, uses_list}
use Rattle.event_lines.specs.Words.{line_words}
use Rattle.event_lines.specs.EventLines.{word_among, fields_say, fields_list, line_says, line_list}
use Rattle.answers.specs.Answers.{answer_text, text_of, end_text}

-- a line read
unfoldable pub line_read : List ℕ → Line
unfolding line_says line_list fields_say fields_list word_among line_words end_says field_says all_entries list_says leading uses_in uses_say uses_list context_field target_of level_of use_in use_of variable_entry argument_of is_digit all_digits value_from needless_zero is_number number_of same before after split in_front
line_read bytes = line_says bytes

-- its event carried out
unfoldable pub line_step : State → Event → List ℕ → Answer
unfolding stepped unless_refused acted refused_with seen_after refusal_before refusal_by_size all_fit is_use is_context perm_recorded temp_recorded rows_put set_at set_put uses_given each takes_use use_sets_with use_counts_with contains_use uses_register any uses_of chunk_at chunks_of populated below sets_anew chunk_of has_chunk before_or_free restricts no_use_of conflict_at conflict_of collected collected_below record_put record_at record_of allocation_of perm_of safety_of context_of temporary is_temporary mapped_at mapped_with current_branch top_of rows_top sets_top recorded rows_recorded sets_recorded counter_after in_use is_free first registers_from first_unused least_free otherwise chosen hint moved_to evacuated_by evacuated has inserted union numbers_from entries looked free_slot slot_given slot_taken new_slot slot_found perm_placed remembered safe_in safe_made instructed_after argument_safe argument_value_of argument_made others_out advanced_by marked_after argument_marked alloc_apart after_evacuation alloc_shallow noted_slot settled finished_after finished reserved_after reserved_marked marked_at new_temporary_after new_temporary_marked new_slot_after new_slot_marked temporary_marked permanent_marked var_marked counted_or_freed freed pushed_free unneeded_in needed_if removed up_to subterm_value_of shallow_in_head met subterm_made awaits_register argument_placed arguments_placed head_reset
line_step s event list = stepped s event list

-- what it prints
unfoldable pub line_printed : Answer → List ℕ
unfolding answer_text end_text text_line instruction_text at_text register_text decimal written joined
line_printed a = text_of a
