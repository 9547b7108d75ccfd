-- Every definition, opened: what computes a turn, a level file or an image by `refl` says `unfolding opened`.
use Rattle.std.specs.Fmt.{digits}
use Rattle.std.specs.Prelude.{ℕ}
use Rattle.hex.specs.Hex.{encode_with}
use Rattle.uuid.specs.Text.{by_index}
use Rattle.nb_fields.specs.Opened.{opened as fields_opened}
use Rattle.nb_model.specs.Image.{cut, trimmed, image_in, with_page, written_at, overwritten}
use Rattle.nb_model.specs.Account.{with_entry}
use Rattle.nb_model.specs.Strokes.{controlled, with_control, merged_page, noted, fixed, merged, on_base, records_of, base_after, records_after, base_in, after}
use Rattle.nb_model.specs.Forms.{old_page, wrote, written, is_kind, needs, scn_entry, is_free_page, has_entry, entry_written, entry_raised, raised, put, with_bit, set_bit, free_from, lowest_free, needs_inventories, other_kind, first_not, maps_from, entry_page, is_kept, needed_at, system_payload, system_page, new_within}
use Rattle.nb_model.specs.Causes.{first_cause, not_raw, lowest_broken, is_free_entry, not_database}
use Rattle.nb_model.specs.Outcomes.{unless, changes}
use Rattle.nb_model.specs.Pages.{new_turn, write_turn, read_turn, free_turn, begin_turn, end_strokes, end_scn, ends_by, end_turn, activated, activate_turn, byte_strokes, forced_turn, access_turn, delta_count, header_turn, image_turn, cache_turn}
use Rattle.nb_model.specs.Chains.{row_slot, table_slot, backup_slot, is_slot, slots_from, slots_in, is_in_chain, walk, pages_of, found_pages, spots_on, spots_of, spots, first_such, last_such, free_spot, table_spot, row_spot, backup_spot, put_slot, grown, place_slot}
use Rattle.nb_model.specs.Rows.{with_row, without_row, row_at, rows_in, rows, used, table_chains, chains, pages_of_all, keys_of, names_of}
use Rattle.nb_model.specs.Tables.{with_spot, create_turn, in_table, all_given, drop_turn, insert_turn, in_row, update_turn, delete_turn, get_turn, scan_turn}
use Rattle.nb_model.specs.Levels.{taken_from, may_have_changed, changed_from, numbered_from, head_then, end_bytes, single_bytes, runs_behind, runs_of, run_bytes, body_bytes, level_bytes, file_for, file_of, count_in, is_first_page, first_fault, read_end, read_singles, pages_in, read_runs, head_in, read_pages, begins_level, read_level}
use Rattle.nb_model.specs.Backups.{needs_taken, room_in, ask_of, starts, backup_turn, level_behind, since_turn, close_backup, copy_turn, close_copy, count_from, taken_of, all_needed, pages_turn}
use Rattle.nb_model.specs.Facts.{breaks, first_from, first_broken, unsound}
use Rattle.nb_model.specs.Leaks.{leaked}
use Rattle.nb_model.specs.Checks.{check_turn, reclaim_turn}
use Rattle.nb_model.specs.Turns.{first_turn, turn}
use Rattle.nb_model.specs.Owner.{entry_for, slot_page, main_page, owned_page, owned_from, owned, diverted_base, owner_with, owner_in, owner, entry_of_files, not_opened}
use Rattle.nb_model.specs.Run.{with_made, account_after, outcome, stands_then, take_turn, one_turn, play, rounds, done_opening, opening, strokes_of, replies_of, files_made}
use Rattle.nb_model.specs.Output.{text_of, status_of, acked_in, acked}
use Rattle.nb_model.specs.Lines.{word_text, spaced, line_text}
use Rattle.nb_model.specs.Restoring.{not_whole, first_link, not_behind, next_link, next_links, verdict, all_over, applied}
use Rattle.nb_model.specs.InPlace.{written_since, not_next, not_finishing, not_mergeable, in_place_of, not_standby, in_place}
use Rattle.nb_model.specs.Stands.{is_history_page}
use Rattle.nb_model.specs.Waiting.{seen, rank_of}
use Rattle.nb_model.specs.Words.{read_words, number_in_word, job_of_flags, job_read, job_of}
use Rattle.nb_model.specs.Jobs.{all_sized, restore_turn, not_fixable, fixup_turn, apply_turn, turn_of, account_behind}
use Rattle.nb_model.specs.Line.{first_file, next_files}
use Rattle.nb_model.specs.Seeds.{stepped, session_of, seeded}
use Rattle.nb_model.specs.Generated.{line_of, backup_line, lines_from, generated, said_by_generated}
use Rattle.nb_model.specs.Worked.{nowhere, g, given_from, opened_with, events, run_of, replies, says, marks, strokes, base_then, files_of, made, pages_held, refused, chain_files, main_file, delta_file, stalled_file, not_open, broken_place, bytes_made, level_1_file, standby, merged_standby, apply_reply, restore_reply, restored_text, fixup_reply}

unfoldable pub opened : ℕ
unfolding fields_opened digits encode_with by_index cut trimmed image_in with_page written_at overwritten with_entry controlled with_control merged_page noted fixed merged on_base records_of base_after records_after base_in after old_page wrote written is_kind needs scn_entry is_free_page has_entry entry_written entry_raised raised put with_bit set_bit free_from lowest_free needs_inventories other_kind first_not maps_from entry_page is_kept needed_at system_payload system_page new_within first_cause not_raw lowest_broken is_free_entry not_database unless changes new_turn write_turn read_turn free_turn begin_turn end_strokes end_scn ends_by end_turn activated activate_turn byte_strokes forced_turn access_turn delta_count header_turn image_turn cache_turn row_slot table_slot backup_slot is_slot slots_from slots_in is_in_chain walk pages_of found_pages spots_on spots_of spots first_such last_such free_spot table_spot row_spot backup_spot put_slot grown place_slot with_row without_row row_at rows_in rows used table_chains chains pages_of_all keys_of names_of with_spot create_turn in_table all_given drop_turn insert_turn in_row update_turn delete_turn get_turn scan_turn taken_from may_have_changed changed_from numbered_from head_then end_bytes single_bytes runs_behind runs_of run_bytes body_bytes level_bytes file_for file_of count_in is_first_page first_fault read_end read_singles pages_in read_runs head_in read_pages begins_level read_level needs_taken room_in ask_of starts backup_turn level_behind since_turn close_backup copy_turn close_copy count_from taken_of all_needed pages_turn breaks first_from first_broken unsound leaked check_turn reclaim_turn first_turn turn entry_for slot_page main_page owned_page owned_from owned diverted_base owner_with owner_in owner entry_of_files not_opened with_made account_after outcome stands_then take_turn one_turn play rounds done_opening opening strokes_of replies_of files_made text_of status_of acked_in acked word_text spaced line_text not_whole first_link not_behind next_link next_links verdict all_over applied written_since not_next not_finishing not_mergeable in_place_of not_standby in_place is_history_page seen rank_of read_words number_in_word job_of_flags job_read job_of all_sized restore_turn not_fixable fixup_turn apply_turn turn_of account_behind first_file next_files stepped session_of seeded line_of backup_line lines_from generated said_by_generated nowhere g given_from opened_with events run_of replies says marks strokes base_then files_of made pages_held refused chain_files main_file delta_file stalled_file not_open broken_place bytes_made level_1_file standby merged_standby apply_reply restore_reply restored_text fixup_reply
opened = 0
