-- The definitions that the proofs of this crate speak in, and the laws of other crates that they cite, passed on from one place. Declares nothing.
pub use Rattle.nb_alloc.proofs.CauseLaws.{first_front, first_rest, judged_by, refused_by, unless_allowed, unless_refused}
pub use Rattle.nb_alloc.proofs.DataLaws.{owner_is}
pub use Rattle.nb_alloc.proofs.DoesLaws.{makes_valued, refused_does, seeing, sure_of, tested_does, tested_on, tries_after, tries_does, tries_early, tries_front, tries_made, tries_opened, tries_other, tries_passed, tries_stops, tries_then, tries_valued, valued_does}
pub use Rattle.nb_alloc.proofs.MakeLaws.{tries_named}
pub use Rattle.nb_alloc.proofs.NewLaws.{image_is}
pub use Rattle.nb_alloc.proofs.RoomsLaws.{IsFreeBehind, free_behind, grown_named, joined_clear, lowest_append, no_entry_broken, slot_alone, slot_named, unmade_is}
pub use Rattle.nb_alloc.proofs.TestLaws.{kind_is}
pub use Rattle.nb_alloc.proofs.WantLaws.{not_passed, short_after, short_front, short_then, wanted_as, wanted_so}
pub use Rattle.nb_base.proofs.AttachLaws.{applies, first_here, first_next}
pub use Rattle.nb_base.specs.Takes.{IsNoRefusal, after_strokes}
pub use Rattle.nb_engine.proofs.DataLaws.{by_entry, data_there}
pub use Rattle.nb_engine.proofs.NotedLaws.{In, IsGivenOn, Notes, give_by, give_same, given_cause, given_on, kept_raised, lowest_same, notes_given, notes_none, notes_put, notes_raised}
pub use Rattle.nb_engine.specs.Behind.{behind_cause, entry_broken, give_broken}
pub use Rattle.nb_engine.specs.Data.{data_cause, not_data, put_data, second_data, unmade, unmade_behind}
pub use Rattle.nb_engine.specs.Find.{need_cause}
pub use Rattle.nb_engine.specs.Mark.{mark_cause}
pub use Rattle.nb_engine.specs.Put.{entry_cause}
pub use Rattle.nb_engine.specs.Replies.{done, valued}
pub use Rattle.nb_engine.specs.Tries.{StopsShort, Tries, WhereMemory}
pub use Rattle.nb_fields.proofs.PartLaws.{length-with_part, put_mid-with_part}
unfoldable pub use Rattle.nb_fields.specs.Bytes.{bytes_of, padded}
pub use Rattle.nb_fields.specs.Bytes.{part, with_part}
pub use Rattle.nb_fields.specs.Kinds.{data_kind, header_kind, inventory_kind, scn_kind}
unfoldable pub use Rattle.nb_fields.specs.Places.{is_scn_place}
pub use Rattle.nb_fields.specs.Places.{is_page_size, most_pages}
pub use Rattle.nb_host.proofs.PlainLaws.{all_both, all_go, append_none, err_ok, false_true, le_yes, none_some, some_none, some_same}
pub use Rattle.nb_host.specs.World.{World}
pub use Rattle.nb_host.specs.declared.faults.Fault.{Fault}
pub use Rattle.nb_host.specs.declared.refusals.Refusal.{Refusal}
pub use Rattle.nb_host.specs.declared.refusals.Refusal.TheVariants.{Full, KeyExists, NoKey, NoTable, NotDatabase, TableExists, TooManyTables}
pub use Rattle.nb_model.proofs.ChainWalks.{IsWalk, StaysLinked, linked_same, ok_found, pages_stay, walk_cases, walk_zero}
pub use Rattle.nb_model.proofs.DraftLaws.{IsOf, drafted_is, drafts_are, new_keeps, put_keeps, set_bit_keeps}
pub use Rattle.nb_model.proofs.DropTurns.{given_none, join_given}
pub use Rattle.nb_model.proofs.LeakTurns.{given_first}
pub use Rattle.nb_model.proofs.PutSound.{no_first}
pub use Rattle.nb_model.proofs.ReadLaws.{eq_no, eq_yes, le_no, lt_no, lt_yes}
pub use Rattle.nb_model.proofs.RoomLaws.{chain_owner, first_found, in_chain, pages_found}
pub use Rattle.nb_model.proofs.SearchLaws.{draft_cause}
pub use Rattle.nb_model.proofs.SoundLaws.{all_at, kind_of_header, scn_place_before, scn_place_of}
pub use Rattle.nb_model.proofs.SpotMaps.{has_key, other_key, unused_key}
pub use Rattle.nb_model.proofs.StepLaws.{IsShaped, Puts, kind_parts, put_on}
pub use Rattle.nb_model.proofs.TableTurns.{name_short, table_length}
pub use Rattle.nb_model.proofs.TurnCases.{is_so, no_cause, one_cause}
pub use Rattle.nb_model.proofs.WholeLaws.{when_false}
unfoldable pub use Rattle.nb_model.specs.Causes.{first_cause, lowest_broken}
pub use Rattle.nb_model.specs.Causes.{Cause, Tested, broken_at, lowest_of, no_room, not_kind, not_of_form, read_only, short_for, too_long, too_short, when}
unfoldable pub use Rattle.nb_model.specs.Chains.{first_such, found_pages, free_spot, grown, is_in_chain, is_slot, pages_of, place_slot, put_slot, row_slot, row_spot, slots_from, slots_in, spots, spots_of, spots_on, table_slot, table_spot, walk}
pub use Rattle.nb_model.specs.Chains.{Catalogue, Chain, RowsFrom, Slot, Spot, first_in, first_of, free_slot, is_filled, is_used, key_of, last_of, length_in, next_in, owner_in, owner_of, text_in}
unfoldable pub use Rattle.nb_model.specs.Forms.{is_kind, needs, other_kind, put, set_bit, with_bit}
pub use Rattle.nb_model.specs.Forms.{Draft, HasItsEntry, bit_number, drafted, give_page, inventory_of, scn_page_of, wants}
pub use Rattle.nb_model.specs.Image.{Image, Page, image_scn, image_size, is_read_only, page_at}
unfoldable pub use Rattle.nb_model.specs.Outcomes.{changes, unless}
pub use Rattle.nb_model.specs.Outcomes.{Outcome, Seen, says}
unfoldable pub use Rattle.nb_model.specs.Rows.{row_at, rows_in, used, with_row}
pub use Rattle.nb_model.specs.Rows.{RowMap}
pub use Rattle.nb_model.specs.Strokes.{Stroke}
unfoldable pub use Rattle.nb_model.specs.Tables.{all_given, create_turn, delete_turn, drop_turn, get_turn, in_row, in_table, insert_turn, scan_turn, update_turn, with_spot}
unfoldable pub use Rattle.nb_model.specs.Trail.{after_stroke}
pub use Rattle.nb_model.specs.Trail.{Trail}
pub use Rattle.nb_model.specs.declared.reply.Reply.TheVariants.{Done, Refused, Value}
pub use Rattle.nb_page.proofs.QuietLaws.{quiet_begun, quiet_joined}
pub use Rattle.nb_page.specs.Quiet.{Quiet}
pub use Rattle.nb_state.proofs.LooksLaws.{looks_begun, looks_then}
pub use Rattle.nb_state.proofs.MakesLaws.{goes_nowhere, goes_on, makes_after, makes_front, makes_none, makes_then}
pub use Rattle.nb_state.proofs.TurnLaws.{unless_none}
pub use Rattle.nb_state.specs.Does.{Does, Goes, Makes}
pub use Rattle.nb_state.specs.Looks.{Looks}
pub use Rattle.nb_state.specs.Open.{Held, IsOpen, but_pages}
pub use Rattle.nb_table.specs.Creates.{created_behind, created_in, first_made, new_cause}
pub use Rattle.nb_table.specs.Drops.{IsGivable, IsWholeTable, drop_broken, dropped}
pub use Rattle.nb_table.specs.Rows.{chain_cause, place_cause, rows_cause}
pub use Rattle.nb_table.specs.Walks.{IsPlaced, chain_of, found_at, found_of, gathered, has, is_sought, place_at, place_of, spot_of}
pub use Rattle.nb_table.specs.declared.look.Found.{Found}
pub use Rattle.nb_table.specs.declared.look.Place.{Place}
pub use Rattle.nb_table.specs.declared.look.Sought.TheVariants.{Row, Table}
pub use Rattle.nb_table.specs.declared.look.Walked.{Walked}
pub use Rattle.nb_table.specs.declared.rows.Rows.{Rows}
pub use Rattle.nb_walk.proofs.FirstLaws.{first_held, first_miss, hits, misses, stays}
pub use Rattle.nb_walk.proofs.SlotLaws.{filled_of, passes_here, passes_next, slot_inside, test_first, used_of}
pub use Rattle.nb_walk.proofs.SpotLaws.{Comes, comes_first, comes_last, comes_next, spots_found, spots_more}
pub use Rattle.nb_walk.proofs.SpotPages.{free_kind, last_kind, row_kind, spot_on}
pub use Rattle.nb_walk.proofs.WalkLaws.{Walks, walks_all, walks_broken, walks_first, walks_last, walks_length, walks_next, walks_none, walks_over}
pub use Rattle.nb_walk.specs.Walks.{not_linked}
pub use Rattle.std.proofs.lemmas.Bool.{and_from, and_parts, eqb-true, leb-true, true≢false}
pub use Rattle.std.proofs.lemmas.Bool.Decides.{eqb_tells, leb_tells}
pub use Rattle.std.proofs.lemmas.List.{append-nil}
pub use Rattle.std.specs.BTreeMap.{BTreeMap, insert_entry, is_at}
pub use Rattle.std.specs.List.{AllByRecursion, list_all}
pub use borrow.Rule.Slice.PartMut.{put_mid}
