-- The definitions that the proofs of this crate speak in, and the laws of other crates that they cite, passed on from one place. Declares nothing.
pub use Rattle.nb_fields.proofs.FreshLaws.{bit_of-inventory, entry_of-scn, fresh_shows, length-taken_bits, taken_bits-free}
pub use Rattle.nb_fields.proofs.HeaderLaws.{is_header-long, is_header-short, is_header-take}
pub use Rattle.nb_fields.proofs.LengthLaws.{fresh_count-most}
pub use Rattle.nb_fields.proofs.NumberLaws.{bit_at-most, length-bytes_of, number_of-bytes_of}
pub use Rattle.nb_fields.proofs.PageLaws.{drop-page_of, kind_of-page_of, length-head_of, length-padded, length-page_of, padded_whole, part-append, stamp_of-page_of}
pub use Rattle.nb_fields.proofs.PartLaws.{drop-with_part, length-part, length-with_part, number_in-take, number_in-with_part, number_in-with_part_other, part-take, part-with_part, part-with_part_other}
pub use Rattle.nb_fields.proofs.PlaceLaws.{bits-least, entries-least, fresh_kind-scn, inventory_index, scn_place-some}
pub use Rattle.nb_fields.proofs.SizeLaws.{SizeFacts, size_facts}
unfoldable pub use Rattle.nb_fields.specs.Bytes.{bytes_of, number_in, number_of, padded}
pub use Rattle.nb_fields.specs.Bytes.{AreApart, is_zeros, part, with_part}
unfoldable pub use Rattle.nb_fields.specs.Free.{is_free_file}
pub use Rattle.nb_fields.specs.Free.{is_unfinished}
unfoldable pub use Rattle.nb_fields.specs.Fresh.{fresh, fresh_count, fresh_kind, fresh_page, fresh_payload, length_after, next_plain}
pub use Rattle.nb_fields.specs.Fresh.{ShowsFresh}
unfoldable pub use Rattle.nb_fields.specs.Header.{is_header, is_marked}
pub use Rattle.nb_fields.specs.Header.{guid_of, is_sound, pending_of, scn_of, signature, size_of, state_of, version}
pub use Rattle.nb_fields.specs.Kinds.{code_of, data_kind, header_kind, inventory_kind, raw_kind, scn_kind}
unfoldable pub use Rattle.nb_fields.specs.Page.{head_of, page_of, stamped}
pub use Rattle.nb_fields.specs.Page.{generation_of, kind_of, stamp_of}
unfoldable pub use Rattle.nb_fields.specs.Payloads.{control_block, data_payload, header_payload, inventory_payload, same_entries, scn_payload, text_payload}
pub use Rattle.nb_fields.specs.Payloads.{bit_of, entry_of}
unfoldable pub use Rattle.nb_fields.specs.Places.{is_inventory_place, is_scn_place, is_system_place}
pub use Rattle.nb_fields.specs.Places.{bits_in, entries_in, inventory_place, is_page_size, most_pages, scn_place}
pub use Rattle.nb_fields.specs.States.{applying_state, merge_state, normal_state, stalled_state}
unfoldable pub use Rattle.nb_fields.specs.Table.{page_in, slot_place}
pub use Rattle.nb_fields.specs.declared.kinds.PageKind.{PageKind}
pub use Rattle.nb_fields.specs.declared.kinds.PageKind.TheVariants.{Data, Header, Inventory, Raw, ScnInventory}
pub use Rattle.nb_host.proofs.NameLaws.{decide, same_self}
pub use Rattle.nb_host.proofs.PlainLaws.{all_append, all_both, all_front, all_go, all_parts, append_none, cons_nil, eq_other, eq_self, err_not_ok, err_ok, false_true, head_same, lt_holds, nil_cons, none_and_some, none_in, none_some, not_false, not_le, not_lt, not_there, not_true, ok_same, or_false, or_true, some_none, some_same, tail_same}
unfoldable pub use Rattle.nb_host.specs.Files.{put_at, with_file}
pub use Rattle.nb_host.specs.Files.{File, Files}
pub use Rattle.nb_host.specs.Names.{delta_suffix, is_delta, is_name, same_name}
pub use Rattle.nb_host.specs.World.{World}
pub use Rattle.nb_host.specs.declared.refusals.Refusal.{Refusal}
pub use Rattle.nb_host.specs.declared.refusals.Refusal.TheVariants.{BadDelta, FileExists, Full, KeyExists, NoFile, NoGuid, NoHistory, NotDatabase, TableExists, TooManyTables, Unfinished, Usage, WrongState}
unfoldable pub use Rattle.nb_model.specs.Account.{with_entry}
pub use Rattle.nb_model.specs.Account.{Account, Ask, Base, Entry, IsBase, Kept, Missing, Plain, base_of}
unfoldable pub use Rattle.nb_model.specs.Backups.{all_needed, ask_of, backup_turn, close_backup, close_copy, copy_turn, level_behind, needs_taken, pages_turn, room_in, since_turn, starts}
pub use Rattle.nb_model.specs.Backups.{Room}
pub use Rattle.nb_model.specs.Behind.{IsBehind, IsEntering, IsOnTheWay, IsRead, IsRewritten}
unfoldable pub use Rattle.nb_model.specs.Causes.{first_cause, is_free_entry, lowest_broken, not_database, not_raw}
pub use Rattle.nb_model.specs.Causes.{Cause, broken_at, no_room, no_scn, not_free, not_kind, not_of_form, not_state, read_only, runs_any, runs_other, short_for, too_long, too_short, when}
unfoldable pub use Rattle.nb_model.specs.Chains.{backup_slot, backup_spot, first_such, found_pages, free_spot, grown, is_in_chain, is_slot, last_such, pages_of, place_slot, put_slot, row_slot, row_spot, slots_from, slots_in, spots, spots_of, spots_on, table_slot, table_spot, walk}
pub use Rattle.nb_model.specs.Chains.{Catalogue, Chain, History, RowsFrom, Slot, Spot, first_in, first_of, free_slot, guid_in, is_filled, is_used, key_of, last_of, length_in, level_in, linked, next_in, owner_in, owner_of, place_at, scn_in, table_of, text_in}
unfoldable pub use Rattle.nb_model.specs.Checks.{check_turn, reclaim_turn}
pub use Rattle.nb_model.specs.Checks.{check_cause, reclaim_cause, reclaimed, unsound_by}
pub use Rattle.nb_model.specs.Earlier.{AreInStep, IsCovered, IsEarlier, LowersNone}
pub use Rattle.nb_model.specs.Follows.{Follows, IsMixed}
unfoldable pub use Rattle.nb_model.specs.Forms.{entry_page, entry_raised, entry_written, first_not, free_from, has_entry, is_free_page, is_kept, is_kind, lowest_free, maps_from, needed_at, needs, new_within, old_page, other_kind, put, raised, scn_entry, set_bit, system_page, system_payload, with_bit, written, wrote}
pub use Rattle.nb_model.specs.Forms.{Draft, HasItsEntry, Need, bit_number, drafted, entry_number, give_page, inventory_of, new_page, no_page, scn_page_of, system_kind, take_page, wants}
pub use Rattle.nb_model.specs.Going.{AreBeginnings, AreMerging, AreNamed, HasRoom, IsAt, IsGoing, IsMaking, IsNamed, IsPlainRoom, Runs, backs_up, copies, merges, waits}
unfoldable pub use Rattle.nb_model.specs.Image.{cut, image_in, overwritten, trimmed, with_page, written_at}
pub use Rattle.nb_model.specs.Image.{Image, Numbered, Page, first_page, image_guid, image_scn, image_size, image_state, is_forced, is_read_only, page_at}
unfoldable pub use Rattle.nb_model.specs.Leaks.{leaked}
pub use Rattle.nb_model.specs.Leaks.{is_among, is_leaked, is_taken_data, reached}
unfoldable pub use Rattle.nb_model.specs.Levels.{begins_level, body_bytes, changed_from, end_bytes, file_for, file_of, first_fault, head_in, head_then, is_first_page, level_bytes, may_have_changed, numbered_from, pages_in, read_end, read_level, read_pages, read_runs, read_singles, run_bytes, runs_behind, runs_of, single_bytes, taken_from}
pub use Rattle.nb_model.specs.Levels.{AreOfSize, AreRising, Contents, Head, IsHead, IsLevel, Stretch, Test, barred_after, behind, changed, end_mark, ends_before, head_for, is_bad_number, joined, level_signature, taken, with_head}
unfoldable pub use Rattle.nb_model.specs.Line.{first_file, next_files}
pub use Rattle.nb_model.specs.Line.{AreZeroPages, HoldLine, HoldsFirst, HoldsNext, IsKeptNext, IsLine, last_in}
unfoldable pub use Rattle.nb_model.specs.Lines.{line_text, spaced}
pub use Rattle.nb_model.specs.Lines.{reply_words}
pub use Rattle.nb_model.specs.Main.{HoldsMain}
unfoldable pub use Rattle.nb_model.specs.Making.{making, making_all, with_files}
pub use Rattle.nb_model.specs.Making.{AreAmong, IsNoBackup, IsNoneOf, IsOfKept, MadeFile, NamesOnce, its_file, its_pages, kept_of, making_by, under_way}
unfoldable pub use Rattle.nb_model.specs.NewGuids.{guids_in}
pub use Rattle.nb_model.specs.NewGuids.{AreNew, ComeOnce, IsUnnamed}
unfoldable pub use Rattle.nb_model.specs.Outcomes.{changes, unless}
pub use Rattle.nb_model.specs.Outcomes.{Backing, Begins, ClosesBackup, ClosesCopy, Copies, DoesNothing, Ends, Finishes, Given, Merges, Outcome, Seen, Turn, next_guid, next_time, passes, says, without_guid, without_hold}
unfoldable pub use Rattle.nb_model.specs.Output.{acked, acked_in, status_of, text_of}
pub use Rattle.nb_model.specs.Output.{output, status_after}
unfoldable pub use Rattle.nb_model.specs.Owner.{diverted_base, entry_for, entry_of_files, main_page, not_opened, owned, owned_from, owned_page, owner, owner_with, slot_page}
pub use Rattle.nb_model.specs.Owner.{behind_entries, delta_name, entry_in}
unfoldable pub use Rattle.nb_model.specs.Pages.{access_turn, begin_turn, byte_strokes, cache_turn, end_scn, end_strokes, end_turn, activated, activate_turn, ends_by, forced_turn, free_turn, header_turn, image_turn, new_turn, read_turn, write_turn}
pub use Rattle.nb_model.specs.Pagewise.{AgreesWith, IsPagewise}
unfoldable pub use Rattle.nb_model.specs.Restoring.{all_over, applied, first_link, next_link, next_links, not_behind, not_whole, verdict}
pub use Rattle.nb_model.specs.Restoring.{Link, is_bad_length, level_link, whole_link}
pub use Rattle.nb_model.specs.RowChanges.{ChangesRows, GivesRows, KeepsRows}
unfoldable pub use Rattle.nb_model.specs.Rows.{chains, keys_of, names_of, pages_of_all, row_at, rows, rows_in, table_chains, used, with_row, without_row}
pub use Rattle.nb_model.specs.Rows.{AreDistinct, IsNeat, IsRising, RowMap}
unfoldable pub use Rattle.nb_model.specs.Run.{account_after, done_opening, files_made, one_turn, opening, outcome, play, replies_of, rounds, stands_then, strokes_of, take_turn, with_made}
pub use Rattle.nb_model.specs.Run.{AreFinished, Event, IsPlayed, IsRun, Now, Opening, Played, all_sessions, base_now, begun, event_of, opening_unless, refused_opening}
pub use Rattle.nb_model.specs.Sound.{HasBitsBelow, HasEntries, HasHeader, HasNoZeros, HasStamps, HasSystemPages, IsOfSize, IsSoundImage, SoundInventory}
unfoldable pub use Rattle.nb_model.specs.Stands.{is_history_page}
pub use Rattle.nb_model.specs.Stands.{Belongs, FollowsHistory, GoesOn, GoesOnFrom, HasApplyingStandbys, HasNoStrayDelta, HasOldEntries, HasRows, HasSoundImages, HoldsItsRecord, IsAncestor, IsBegun, IsCopyOf, IsFileOf, IsFrozenMain, IsKeptAs, IsLineTo, IsParent, IsRaised, IsRemembered, IsSameImage, IsSpan, IsStopped, KeepsRecords, NamesItsPast, NamesPast, Stands, is_applying, nil, to_base, to_record}
unfoldable pub use Rattle.nb_model.specs.Steps.{acked_turns, after_step, after_steps, made, steps_of, strokes_in}
pub use Rattle.nb_model.specs.Steps.{AreForced, IsForcedAt, Step, acked_steps, makes, settles, steps_in}
unfoldable pub use Rattle.nb_model.specs.Strokes.{after, base_after, base_in, controlled, fixed, merged_page, noted, on_base, records_after, records_of, with_control}
pub use Rattle.nb_model.specs.Strokes.{Stroke, begin, ends, finish, fix, make, merge, page}
pub use Rattle.nb_model.specs.TableNames.{is_table_byte, is_table_name}
unfoldable pub use Rattle.nb_model.specs.Tables.{all_given, create_turn, delete_turn, drop_turn, get_turn, in_row, in_table, insert_turn, scan_turn, update_turn, with_spot}
unfoldable pub use Rattle.nb_model.specs.Trail.{after_stroke, after_strokes, settles_at}
pub use Rattle.nb_model.specs.Trail.{AreSynced, HasPage, IsBehindFirst, IsFirm, IsLeft, IsMixture, IsRest, ShowsIn, StandsIn, StandsOn, Trail, bases_of, images, settled}
unfoldable pub use Rattle.nb_model.specs.Turns.{first_turn, turn}
pub use Rattle.nb_model.specs.Way.{IsFreshBehind, IsMadeBehind, entry_on, fresh_here, made_here, map_entry_on, maps_on, needed_on, next_place, same_fresh, same_made}
pub use Rattle.nb_model.specs.Well.{IsOfRecord, IsStalled, IsWell, IsWellBase, IsWellBaseIn, IsWellIn, is_on_pages}
pub use Rattle.nb_model.specs.WellTrail.{AllGoOn, IsOverFrozen, IsSoundTrail, IsWellTrail}
pub use Rattle.nb_model.specs.declared.reply.Reply.{Reply}
pub use Rattle.nb_model.specs.declared.reply.Reply.TheVariants.{Done, Freed, Opened, Pages, Refused, Rows, Scn, Value}
pub use Rattle.nb_model.specs.declared.statement.Statement.{Statement}
pub use Rattle.nb_model.specs.declared.statement.Statement.TheVariants.{Access, Backup, BackupSince, BeginBackup, Check, CopyTo, CreateDb, CreateTable, Delete, DropTable, EndBackup, Activate, Forced, Free, Get, Insert, OpenDb, PageNew, Read, Reclaim, Scan, ShowCache, ShowHeader, ShowImage, ShowPages, Sync, Update, Write}
pub use Rattle.std.proofs.Math.Nat.{div-eq_of_lt, div-mul-le_self, mod-eq_of_lt, mul-div_cancel, mul-mod_left, pow-suc, suc-mul}
pub use Rattle.std.proofs.Math.Seq.{get_or-append_seam, set-append_seam, take-append-add}
pub use Rattle.std.proofs.lemmas.Bool.{and_from, and_left, and_parts, and_right, cases_Bool, cases_lt, cond-false, cond-true, cond_both, eq-eqb, eqb-false, eqb-true, false_from_ne_true, le-leb, leb-true, lt-leb, lt-ltb, ltb-false, ltb-true, ne_eqb, or_cases, or_from, or_parts, or_right, true≢false}
pub use Rattle.std.proofs.lemmas.Bool.Decides.{eqb_tells, leb_tells}
pub use Rattle.std.proofs.lemmas.List.{append-nil, drop-append-le, drop-drop, drop-replicate, drop_all, drop_at, get_or-append_right, get_or-drop, get_or-set_other, get_or-set_same, get_or_append_left, get_or_past, length-drop, length-replicate, length-set, length-take-le, map-append, nil_from_length, replicate-append-replicate, set_split, take-append-drop, take-append-le, take_all, take_at}
pub use Rattle.std.proofs.lemmas.List.Elements.{Contains-append_cases, Contains-append_left, Contains-append_right, Contains-push}
pub use Rattle.std.specs.Cmp.Lexicographic.{pointwise, told_text}
pub use Rattle.std.specs.List.{AllByRecursion, filter, flat_map, list_all, list_any, range_with_len, slice_index_or, sum_by}
