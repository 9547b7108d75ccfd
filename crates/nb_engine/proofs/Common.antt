-- The definitions that the proofs of this crate speak in, and the laws of other crates that they cite, passed on from one place. Declares nothing.
pub use Rattle.nb_alloc.proofs.BehindLaws.{entry_by, lacking_cause, other_by, other_none, other_page, page_alone}
pub use Rattle.nb_alloc.proofs.CauseLaws.{judged_by, refused_by, told_some, unless_allowed, unless_refused, unless_these}
pub use Rattle.nb_alloc.proofs.ContentLaws.{data_short, new_named, payload_filled}
pub use Rattle.nb_alloc.proofs.DoesLaws.{if_err, if_ok, refused_does, seeing, tested_by_name, tested_does, tested_on, tries_after, tries_does, tries_early, tries_failed, tries_front, tries_made, tries_next, tries_opened, tries_other, tries_passed, tries_stops, tries_these, tries_valued, valued_does}
pub use Rattle.nb_alloc.proofs.MakeLaws.{tries_fault, tries_named}
pub use Rattle.nb_alloc.proofs.MarkLaws.{entries_some, mark_form, mark_room}
pub use Rattle.nb_alloc.proofs.NewLaws.{image_is, told}
pub use Rattle.nb_alloc.proofs.PutLaws.{none_broken, old_below, put_form, put_refused, put_room, put_stroke-after, put_strokes}
pub use Rattle.nb_alloc.proofs.ReadyLaws.{page_strokes_are}
pub use Rattle.nb_alloc.proofs.RoomsLaws.{IsFreeBehind, behind_long, behind_short, free_behind, grown_judged, grown_unmade, needs_broken, no_entry_broken, unmade_long, unmade_short}
pub use Rattle.nb_alloc.proofs.SearchReads.{inventory_most}
pub use Rattle.nb_alloc.proofs.TestLaws.{at_ok, inventory_place_is, le_from, lt_from, read_broken, read_refused, read_says, text_short, vec_whole, write_closed, write_fits, write_long}
pub use Rattle.nb_alloc.proofs.WantLaws.{Stays, not_passed, refused_memory, short_first, wanted_by, strikes_after}
pub use Rattle.nb_alloc.specs.Behind.{behind_cause, entry_broken, give_broken, page_in}
pub use Rattle.nb_alloc.specs.Data.{data_cause, new_behind, new_data, owner_by, put_data, second_data, unmade}
pub use Rattle.nb_alloc.specs.Make.{new_of, new_raw, page_strokes}
pub use Rattle.nb_alloc.specs.Mark.{mark_cause, mark_strokes}
pub use Rattle.nb_alloc.specs.Put.{Reads, entry_cause, raise_strokes, raw_stroke}
pub use Rattle.nb_alloc.specs.Search.{IsSearchable, IsShort}
pub use Rattle.nb_alloc.specs.Tries.{StopsShort, Tries, WhereMemory}
pub use Rattle.nb_base.proofs.AttachLaws.{applies, first_here, first_next}
pub use Rattle.nb_base.specs.Takes.{IsNoRefusal, Strikes, after_strokes}
pub use Rattle.nb_change.proofs.FaultLaws.{counts_passed, memory_wanted, none_wanted}
pub use Rattle.nb_engine.specs.History.{IsPlaced, gathered, meets, room_at, row_at, row_in}
pub use Rattle.nb_engine.specs.Replies.{done, page_made, valued}
pub use Rattle.nb_engine.specs.Room.{IsGrown, IsRoomIn, grow_cause, linked_payload, no_rows, room_cause, taken_draft, write_cause}
pub use Rattle.nb_engine.specs.Turns.{DoesBegin, DoesEnd, Starts, starting_cause}
pub use Rattle.nb_engine.specs.declared.rows.HistoryRow.{HistoryRow}
pub use Rattle.nb_engine.specs.declared.walk.Room.{Room}
pub use Rattle.nb_engine.specs.declared.walk.Walked.{Walked}
pub use Rattle.nb_fields.proofs.NumberLaws.{length-bytes_of}
pub use Rattle.nb_fields.proofs.PageLaws.{padded_whole, with_part-padded_next}
pub use Rattle.nb_fields.proofs.PartLaws.{length-with_part, part-with_part_before, put_mid-with_part}
pub use Rattle.nb_fields.proofs.PlaceLaws.{entries-least, scn_place-some}
pub use Rattle.nb_fields.proofs.SizeLaws.{SizeFacts, size_facts}
unfoldable pub use Rattle.nb_fields.specs.Bytes.{bytes_of, number_in, padded}
pub use Rattle.nb_fields.specs.Bytes.{is_zeros, part, with_part}
unfoldable pub use Rattle.nb_fields.specs.Header.{is_header}
pub use Rattle.nb_fields.specs.Kinds.{data_kind, inventory_kind, raw_kind, scn_kind}
unfoldable pub use Rattle.nb_fields.specs.Page.{stamped, with_payload}
pub use Rattle.nb_fields.specs.Page.{kind_of}
unfoldable pub use Rattle.nb_fields.specs.Payloads.{data_payload, text_payload}
pub use Rattle.nb_fields.specs.Payloads.{text_length, text_of}
unfoldable pub use Rattle.nb_fields.specs.Places.{is_scn_place}
pub use Rattle.nb_fields.specs.Places.{bits_in, entries_in, inventory_place, is_page_size, most_pages, scn_place}
pub use Rattle.nb_fields.specs.States.{normal_state}
pub use Rattle.nb_host.proofs.PlainLaws.{append_none, le_yes, none_some, not_false}
pub use Rattle.nb_host.specs.Faults.{as_fault}
pub use Rattle.nb_host.specs.World.{World}
pub use Rattle.nb_host.specs.declared.faults.Fault.{Fault}
pub use Rattle.nb_host.specs.declared.faults.Fault.TheVariants.{Device, Memory}
pub use Rattle.nb_host.specs.declared.refusals.Refusal.{Refusal}
pub use Rattle.nb_host.specs.declared.refusals.Refusal.TheVariants.{Access, Full, NotDatabase, SystemPage, WrongState}
pub use Rattle.nb_model.proofs.HeaderLaws.{header-kind, header-long, header-other, same-header}
pub use Rattle.nb_model.proofs.PutSound.{needs_image, no_first, not_when}
pub use Rattle.nb_model.proofs.ReadLaws.{eq_yes, le_no, lt_no, lt_yes}
pub use Rattle.nb_model.proofs.RoundLaws.{kind_found, needs_found}
pub use Rattle.nb_model.proofs.SearchLaws.{draft_cause}
pub use Rattle.nb_model.proofs.SoundLaws.{all_at, inventory_place_some, scn_place_before}
pub use Rattle.nb_model.proofs.StepLaws.{IsShaped, IsWritten, Puts, form_written, inventory_has, kind_parts, put_on, written_shaped, written_size}
pub use Rattle.nb_model.proofs.TurnCases.{is_so, no_cause, one_cause}
pub use Rattle.nb_model.proofs.WholeLaws.{when_false}
pub use Rattle.nb_model.specs.Account.{Ask, Base}
unfoldable pub use Rattle.nb_model.specs.Backups.{needs_taken, room_in}
unfoldable pub use Rattle.nb_model.specs.Causes.{first_cause, lowest_broken, not_raw}
pub use Rattle.nb_model.specs.Causes.{Cause, Tested, broken_at, lowest_of, no_room, no_scn, not_kind, not_of_form, not_state, past_end, read_only, short_for, too_long, too_short, when}
unfoldable pub use Rattle.nb_model.specs.Chains.{backup_slot, backup_spot, first_such, found_pages, free_spot, grown, is_in_chain, is_slot, last_such, pages_of, put_slot, slots_from, slots_in, spots, spots_of, spots_on}
pub use Rattle.nb_model.specs.Chains.{Chain, History, Slot, Spot, file_in, is_used, last_of, next_in, owner_of}
unfoldable pub use Rattle.nb_model.specs.Forms.{entry_raised, entry_written, has_entry, is_free_page, is_kind, needs, old_page, other_kind, put, raised, scn_entry, set_bit, with_bit, written, wrote}
pub use Rattle.nb_model.specs.Forms.{Draft, HasItsEntry, bit_number, drafted, entry_number, give_page, inventory_of, scn_page_of}
unfoldable pub use Rattle.nb_model.specs.Image.{with_page}
pub use Rattle.nb_model.specs.Image.{Image, Page, first_page, image_scn, image_size, is_read_only, page_at}
pub use Rattle.nb_model.specs.Lines.{flag}
unfoldable pub use Rattle.nb_model.specs.Outcomes.{unless}
pub use Rattle.nb_model.specs.Outcomes.{Outcome, Seen, next_guid, says, without_guid}
unfoldable pub use Rattle.nb_model.specs.Pages.{access_turn, begin_turn, byte_strokes, end_scn, end_strokes, end_turn, ends_by, forced_turn, free_turn, new_turn, read_turn, write_turn}
unfoldable pub use Rattle.nb_model.specs.Strokes.{merged_page}
pub use Rattle.nb_model.specs.Strokes.{Stroke, begin, page}
pub use Rattle.nb_model.specs.Trail.{Trail}
pub use Rattle.nb_model.specs.declared.reply.Reply.TheVariants.{Done, PageMade, Refused, Scn, Value}
pub use Rattle.nb_page.proofs.QuietLaws.{quiet_begun, quiet_joined}
pub use Rattle.nb_page.specs.Quiet.{Quiet}
pub use Rattle.nb_state.proofs.LooksLaws.{looks_begun, looks_named, looks_then}
pub use Rattle.nb_state.proofs.MakesLaws.{makes_none, none_refused, none_yet, open_still}
pub use Rattle.nb_state.specs.Does.{Does, Makes, has_only_told, unless_by}
pub use Rattle.nb_state.specs.Looks.{Looks}
pub use Rattle.nb_state.specs.Open.{Held, IsOpen, NoPageWaits, but_pages, name_of}
pub use Rattle.nb_walk.proofs.SlotLaws.{byte_at, filled_of, passes_here, passes_next, slot_inside, test_first, used_of}
pub use Rattle.nb_walk.proofs.SpotLaws.{Comes, comes_first, comes_last, comes_next, spots_found, spots_more}
pub use Rattle.nb_walk.proofs.WalkLaws.{Walks, walks_all, walks_broken, walks_first, walks_last, walks_length, walks_next, walks_none, walks_over}
pub use Rattle.nb_walk.specs.Walks.{not_linked}
pub use Rattle.std.proofs.lemmas.Bool.{and_parts, eqb-true, false≢true, leb-true, true≢false}
pub use Rattle.std.proofs.lemmas.Bool.Decides.{eqb_tells, leb_tells}
pub use Rattle.std.proofs.lemmas.List.{append-nil, drop_all, length-set, length-take-le, take-append-drop, take-append-le, take-take, take_rest}
pub use Rattle.std.proofs.lemmas.Result.{IfOk-weaker}
pub use Rattle.std.specs.List.{list_all}
pub use borrow.Rule.Slice.PartMut.{put_mid}
