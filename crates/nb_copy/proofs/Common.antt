-- The definitions that the proofs of this crate speak in, and the laws of other crates that they cite, passed on from one place. Declares nothing.
pub use Rattle.nb_alloc.proofs.CauseLaws.{told_some, unless_allowed, unless_refused}
pub use Rattle.nb_alloc.proofs.DoesLaws.{sure_of, tested_on, tries_after, tries_opened, tries_passed, unless_some}
pub use Rattle.nb_alloc.proofs.PutLaws.{other-with}
pub use Rattle.nb_alloc.proofs.RaiseLaws.{entry-is, scn_page-is}
pub use Rattle.nb_base.proofs.AttachLaws.{first_here, first_next}
pub use Rattle.nb_base.specs.Open.{OfFiles}
pub use Rattle.nb_base.specs.Takes.{Strikes, after_strokes}
pub use Rattle.nb_cases.proofs.StateLaws.{goes, only_normal, only_stalled}
pub use Rattle.nb_cases.specs.Events.{OnOpen}
pub use Rattle.nb_cases.specs.contracts.events.Case.{the_type}
pub use Rattle.nb_change.proofs.CallLaws.{page_others, remade_alone, remade_step, still_alone}
pub use Rattle.nb_change.proofs.ChangesLaws.{composed_within, left_with, remade_on, rested, weakened, weaker_has}
pub use Rattle.nb_change.proofs.MomentLaws.{left_before}
pub use Rattle.nb_change.proofs.MovedLaws.{remade_begun, remade_weaker}
pub use Rattle.nb_change.proofs.NameLaws.{with_file-other, with_file-same}
pub use Rattle.nb_change.proofs.ReachedLaws.{after_all-joined, reached_back, reached_first, reached_front}
pub use Rattle.nb_change.proofs.ResultLaws.{passed_on}
pub use Rattle.nb_change.specs.Changes.{Changes, Names, Only, Other, Reached, Remade}
pub use Rattle.nb_change.specs.Gave.{GaveNothing}
pub use Rattle.nb_copy.specs.Closing.{BackupTurn, CloseLeft, Closes, GaveTimeAtMost, OfBackup}
unfoldable pub use Rattle.nb_copy.specs.Copying.{front_pages}
pub use Rattle.nb_copy.specs.Copying.{Copying, IsBegun, IsCopying, IsOf}
pub use Rattle.nb_copy.specs.FileCopies.{CopiesFile, StartsCopy, copy_cause}
pub use Rattle.nb_copy.specs.FileCopying.{FileCounts, FileTurn, IsFileCopying, IsSameFile, file_count, file_name, file_next, file_written, whole_count, whole_file}
pub use Rattle.nb_copy.specs.FileStarting.{IsNewFile, IsStartedFile}
pub use Rattle.nb_copy.specs.LevelCopying.{HasEntriesOf, IsLevelCopying, IsLevelOf, LevelCopying, taken_below, whole_level}
unfoldable pub use Rattle.nb_copy.specs.Reading.{is_above, loads_entries, reads_at, sum_below}
pub use Rattle.nb_copy.specs.Reading.{asked_scn, earlier_scn, one_if, page_reads}
pub use Rattle.nb_copy.specs.Starting.{Backed, BeginsFor, HasNotBegun, IsBackingUp, IsItsLevel, IsNotMemory, IsStarted, KnowsFree, OfStart, StartLeft, StartMakes, StartsBackup, ask_by, ask_in, earlier_cause, earlier_row, file_cause, row_cause, turn_since}
pub use Rattle.nb_copy.specs.Turns.{CopyTurn, Fetched}
pub use Rattle.nb_copy.specs.declared.file_copy.FileCopy.{FileCopy}
pub use Rattle.nb_copy.specs.declared.file_copy.FileCopy.TheVariants.{Pages}
pub use Rattle.nb_copy.specs.declared.since.Since.{Since}
pub use Rattle.nb_copy.specs.declared.since.Since.TheVariants.{Guid, Level}
pub use Rattle.nb_engine.proofs.WalkLaws.{IsData, history_least, last_data}
pub use Rattle.nb_engine.specs.Room.{IsRoomIn, linked_payload, no_rows, room_cause, write_cause}
pub use Rattle.nb_engine.specs.Tries.{Tries}
pub use Rattle.nb_engine.specs.Turns.{Starts, starting_cause}
pub use Rattle.nb_engine.specs.declared.rows.HistoryRow.{HistoryRow}
pub use Rattle.nb_fields.proofs.SizeLaws.{size_facts}
pub use Rattle.nb_fields.proofs.ZeroLaws.{zeros-behind, zeros-take}
unfoldable pub use Rattle.nb_fields.specs.Bytes.{number_in}
pub use Rattle.nb_fields.specs.Bytes.{is_zeros}
unfoldable pub use Rattle.nb_fields.specs.Header.{is_header}
pub use Rattle.nb_fields.specs.Header.{guid_of, scn_of, size_of, state_of}
pub use Rattle.nb_fields.specs.Page.{kind_of, stamp_of}
unfoldable pub use Rattle.nb_fields.specs.Places.{is_scn_place, is_system_place}
pub use Rattle.nb_fields.specs.Places.{bits_in, entries_in, is_page_size, most_pages, scn_place}
pub use Rattle.nb_fields.specs.States.{normal_state, stalled_state}
pub use Rattle.nb_gather.proofs.QuietLaws.{blank_empty, is_made, made_quiet, quiet_alone, quiet_gave, quiet_then, remade_twice, renamed, sync_kept, sync_then, taken_quiet}
pub use Rattle.nb_gather.proofs.TouchLaws.{touches_named, touches_page, touches_quiet, touches_still, touches_then}
pub use Rattle.nb_gather.specs.Gathering.{HasTaken, IsHeaded, LevelWriting, MayHave}
pub use Rattle.nb_gather.specs.Making.{IsBlank, IsEmpty, IsFreeOr, IsKept, IsMade, IsUnfinished, IsUnfinishedOr}
pub use Rattle.nb_host.proofs.NameLaws.{with_file-named}
pub use Rattle.nb_host.proofs.PlainLaws.{all_front, far_behind, lt_holds, none_some, on_ok, true_or_false}
pub use Rattle.nb_host.specs.Calls.{IsStill, Remakes, Syncs, WritesPage}
pub use Rattle.nb_host.specs.Crash.{IsDurable, Leaves, LeavesAll, PageLeft}
unfoldable pub use Rattle.nb_host.specs.Files.{padded, put_at, with_file}
pub use Rattle.nb_host.specs.Files.{File, Files}
pub use Rattle.nb_host.specs.Moments.{IsTimely, Passes}
pub use Rattle.nb_host.specs.World.{World}
pub use Rattle.nb_host.specs.declared.faults.Fault.{Fault}
pub use Rattle.nb_host.specs.declared.faults.Fault.TheVariants.{Device, Memory}
pub use Rattle.nb_host.specs.declared.faults.HostFault.{HostFault}
pub use Rattle.nb_host.specs.declared.refusals.Refusal.{Refusal}
pub use Rattle.nb_host.specs.declared.refusals.Refusal.TheVariants.{Access, BackupRunning, FileExists, NoGuid, NoHistory, ScnExhausted, WrongState}
pub use Rattle.nb_level.specs.Heads.{head_of}
pub use Rattle.nb_level.specs.declared.head.LevelHead.{LevelHead}
pub use Rattle.nb_model.proofs.DraftLaws.{drafted_is, drafts_are, either, either_need, either_page, grown_keeps, needs_keeps}
pub use Rattle.nb_model.proofs.HeaderLaws.{header-long, header-size}
pub use Rattle.nb_model.proofs.ImageLaws.{all-take}
pub use Rattle.nb_model.proofs.MainLaws.{IsLaid, some_page}
pub use Rattle.nb_model.proofs.PutSound.{needs_image, no_first}
pub use Rattle.nb_model.proofs.RoomThere.{taken_keeps}
pub use Rattle.nb_model.proofs.SoundLaws.{inventory_place_some, kind_of_header, scn_place_of}
pub use Rattle.nb_model.proofs.TurnCases.{no_cause, one_cause}
pub use Rattle.nb_model.specs.Account.{Ask, Base}
unfoldable pub use Rattle.nb_model.specs.Backups.{ask_of, backup_turn, close_backup, copy_turn, level_behind, needs_taken, room_in, since_turn, starts}
pub use Rattle.nb_model.specs.Backups.{Room}
unfoldable pub use Rattle.nb_model.specs.Causes.{first_cause, is_free_entry}
pub use Rattle.nb_model.specs.Causes.{Cause, Tested, broken_at, no_room, no_scn, not_free, not_of_form, not_state, read_only, runs_any, short_for, when}
unfoldable pub use Rattle.nb_model.specs.Chains.{backup_slot, backup_spot, found_pages, free_spot, grown, pages_of, put_slot, spots}
pub use Rattle.nb_model.specs.Chains.{History, Spot, guid_in, last_of, level_in}
unfoldable pub use Rattle.nb_model.specs.Forms.{entry_raised, entry_written, first_not, free_from, has_entry, is_free_page, is_kind, lowest_free, needed_at, needs, new_within, put, raised, scn_entry, set_bit, system_page, written, wrote}
pub use Rattle.nb_model.specs.Forms.{Draft, HasItsEntry, drafted, inventory_of, scn_page_of, system_kind}
unfoldable pub use Rattle.nb_model.specs.Image.{with_page}
pub use Rattle.nb_model.specs.Image.{Image, Numbered, Page, first_page, image_guid, image_scn, image_size, image_state, is_read_only, page_at}
unfoldable pub use Rattle.nb_model.specs.Levels.{changed_from, count_in, file_for, file_of, level_bytes, may_have_changed, taken_from}
pub use Rattle.nb_model.specs.Levels.{AreOfSize, AreRising, changed, joined}
unfoldable pub use Rattle.nb_model.specs.Outcomes.{unless}
pub use Rattle.nb_model.specs.Outcomes.{Backing, ClosesBackup, ClosesCopy, Copies, Outcome, Seen, next_guid, next_time, says, without_guid}
unfoldable pub use Rattle.nb_model.specs.Owner.{owner}
pub use Rattle.nb_model.specs.Owner.{delta_name}
pub use Rattle.nb_model.specs.Sound.{HasHeader, IsOfSize}
unfoldable pub use Rattle.nb_model.specs.Strokes.{base_after, on_base, with_control}
pub use Rattle.nb_model.specs.Strokes.{Stroke, begin}
unfoldable pub use Rattle.nb_model.specs.Trail.{after_stroke}
pub use Rattle.nb_model.specs.Trail.{ShowsIn, StandsIn, StandsOn, Trail}
pub use Rattle.nb_model.specs.declared.reply.Reply.TheVariants.{Refused}
pub use Rattle.nb_page.proofs.BlankLaws.{blank_free, blank_left}
unfoldable pub use Rattle.nb_page.specs.Free.{is_free_name}
pub use Rattle.nb_page.specs.Quiet.{Quiet}
unfoldable pub use Rattle.nb_scn.specs.Entries.{entries}
pub use Rattle.nb_state.proofs.LooksLaws.{looks_quiet, looks_then}
pub use Rattle.nb_state.proofs.MakesLaws.{after_base, goes_nowhere, goes_on, open_quiet, open_running, open_still, still_open}
pub use Rattle.nb_state.proofs.ShownLaws.{open_beside}
pub use Rattle.nb_state.proofs.TurnLaws.{given_guid, still_struck, struck_front, unless_none}
pub use Rattle.nb_state.specs.Does.{WhereEnded, has_only_told, unless_by}
pub use Rattle.nb_state.specs.Open.{Held, IsOpen, but_pages, name_of}
pub use Rattle.nb_state.specs.Turns.{GaveAtMost}
pub use Rattle.nb_state.specs.declared.turns.Progress.{Progress}
pub use Rattle.std.proofs.Math.Nat.{div-eq_of_lt, div-mul-le_self, mod-eq-sub-div-mul, mod-eq_of_lt}
pub use Rattle.std.proofs.lemmas.Bool.{and_from, and_left, and_parts, eq-eqb, eqb-true, lt-ltb, ne_eqb, or_left, or_right, true≢false}
pub use Rattle.std.proofs.lemmas.List.{append-nil, drop_all, length-replicate, length-take-le, take-append-le, take_all, with_items_is}
pub use Rattle.std.specs.Vec.{with_items}
pub use denote.Enum.Bare.{same_false, same_true}
