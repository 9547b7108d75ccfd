-- The definitions that the proofs of this crate speak in, and the laws of other crates that they cite, passed on from one place. Declares nothing.
pub use Rattle.nb_alloc.proofs.DoesLaws.{refused_does, seeing, sure_of, tested_by_name, tested_does, tested_on, tries_after, tries_does, tries_made, tries_other, tries_passed, tries_stops, tries_valued, valued_does}
pub use Rattle.nb_alloc.proofs.WantLaws.{early_quiet, early_short, short_front, short_then, wanted_any, wanted_so}
pub use Rattle.nb_base.specs.Takes.{IsNoRefusal, after_strokes}
pub use Rattle.nb_change.proofs.ResultLaws.{on_ok_then, passed_on}
pub use Rattle.nb_check.specs.Passes.{AreSized, HasEntryOf, HoldsTaken, IsFirstBelow, IsLowestAt, IsMapOf, IsOf}
unfoldable pub use Rattle.nb_check.specs.Sets.{has, pages_in}
pub use Rattle.nb_check.specs.Sets.{IsWithout, room_of}
pub use Rattle.nb_check.specs.Findings.{said_of}
pub use Rattle.nb_check.specs.Marks.{IsReached, is_hit}
pub use Rattle.nb_check.specs.Walks.{chains_on}
pub use Rattle.nb_check.specs.declared.checking.Findings.{Findings}
pub use Rattle.nb_check.specs.declared.set.Marks.{Marks}
pub use Rattle.nb_check.specs.declared.facts.Broken.{Broken}
pub use Rattle.nb_check.specs.declared.facts.Extent.{Extent}
pub use Rattle.nb_engine.specs.Mark.{mark_cause}
pub use Rattle.nb_engine.specs.Tries.{StopsEarly, StopsShort, Tries, WhereMemory}
pub use Rattle.nb_fields.proofs.PlaceLaws.{bits-least, entries-least}
pub use Rattle.nb_fields.proofs.SizeLaws.{SizeFacts, size_facts}
pub use Rattle.nb_fields.specs.Bytes.{is_zeros, part}
pub use Rattle.nb_fields.specs.Kinds.{data_kind, inventory_kind, scn_kind}
pub use Rattle.nb_fields.specs.Page.{kind_of, stamp_of}
pub use Rattle.nb_fields.specs.Payloads.{bit_of, entry_of}
unfoldable pub use Rattle.nb_fields.specs.Places.{is_inventory_place, is_scn_place, is_system_place}
pub use Rattle.nb_fields.specs.Places.{bits_in, entries_in, inventory_place, is_page_size, most_pages, scn_place}
pub use Rattle.nb_host.proofs.PlainLaws.{all_both, all_go, first_twice, head_same, le_yes, never, nil_cons, none_some, not_both, not_false, or_assoc, or_false, or_true, some_none, tail_same}
pub use Rattle.nb_host.specs.World.{World}
pub use Rattle.nb_host.specs.declared.faults.Fault.{Fault}
pub use Rattle.nb_host.specs.declared.faults.Fault.TheVariants.{Memory}
pub use Rattle.nb_host.specs.declared.refusals.Refusal.{Refusal}
pub use Rattle.nb_host.specs.declared.refusals.Refusal.TheVariants.{Access, Unsound}
pub use Rattle.nb_model.proofs.Along.{Along, along_append, along_front, put_along}
pub use Rattle.nb_model.proofs.BitSound.{bit_put}
pub use Rattle.nb_model.proofs.DraftLaws.{drafted_is, drafts_are, set_bit_keeps}
pub use Rattle.nb_model.proofs.DropTurns.{given_none}
pub use Rattle.nb_model.proofs.FitLaws.{Fits, IsWhole, fits_first}
pub use Rattle.nb_model.proofs.LeakTurns.{given_first, leaked_plain, leaked_two}
pub use Rattle.nb_model.proofs.PutSound.{IsPlace, Raises, header_whole, is_raised, no_first}
pub use Rattle.nb_model.proofs.ReadLaws.{eq_no, eq_yes, le_no, lt_no, lt_yes}
pub use Rattle.nb_model.proofs.RoomLaws.{first_found, in_chain, old_there, pages_found}
pub use Rattle.nb_model.proofs.RoundLaws.{AnyPage, bit_by, kind_found, no_place, put_here, put_inventory, put_long, raises}
pub use Rattle.nb_model.proofs.SoundLaws.{all_at, all_from, inventory_place_some, inventory_there, scn_page_there}
pub use Rattle.nb_model.proofs.TableDrafts.{bit_inventory, bit_longer, bit_plain, bit_size}
pub use Rattle.nb_model.specs.Account.{Base, base_of}
unfoldable pub use Rattle.nb_model.specs.Causes.{first_cause}
pub use Rattle.nb_model.specs.Causes.{Cause, Tested, broken_at, read_only, when}
unfoldable pub use Rattle.nb_model.specs.Chains.{first_such, found_pages, is_in_chain, is_slot, pages_of, slots_from, slots_in, spots, spots_of, spots_on, table_spot, walk}
pub use Rattle.nb_model.specs.Chains.{Catalogue, Chain, History, RowsFrom, Slot, Spot, first_in, first_of, is_used, linked, next_in, owner_in, owner_of, table_of}
unfoldable pub use Rattle.nb_model.specs.Checks.{check_turn, reclaim_turn}
pub use Rattle.nb_model.specs.Checks.{chains_cause, check_cause, reclaim_cause, reclaimed, unsound_by}
unfoldable pub use Rattle.nb_model.specs.Danger.{in_danger, is_twice}
pub use Rattle.nb_model.specs.Danger.{is_in_danger}
unfoldable pub use Rattle.nb_model.specs.Facts.{breaks, first_broken, first_from, unsound}
pub use Rattle.nb_model.specs.Facts.{covered, facts, is_entry_late, is_entry_low, number_of}
unfoldable pub use Rattle.nb_model.specs.Forms.{has_entry, is_free_page, old_page, put, raised, scn_entry, with_bit}
pub use Rattle.nb_model.specs.Forms.{Draft, bit_number, drafted, entry_number, give_page, inventory_of, scn_page_of}
pub use Rattle.nb_model.specs.Image.{Image, Page, first_page, image_scn, image_size, page_at}
unfoldable pub use Rattle.nb_model.specs.Leaks.{leaked}
pub use Rattle.nb_model.specs.Leaks.{is_among, is_leaked, is_taken_data, reached}
unfoldable pub use Rattle.nb_model.specs.Outcomes.{unless}
pub use Rattle.nb_model.specs.Outcomes.{Outcome, Seen, says}
unfoldable pub use Rattle.nb_model.specs.Rows.{chains, keys_of, names_of, pages_of_all, rows, rows_in, table_chains, used}
pub use Rattle.nb_model.specs.Rows.{AreDistinct, IsNeat, RowMap}
pub use Rattle.nb_model.specs.Sound.{HasHeader, IsOfSize, IsSoundImage, SoundInventory}
unfoldable pub use Rattle.nb_model.specs.Strokes.{base_after}
pub use Rattle.nb_model.specs.Strokes.{Stroke}
unfoldable pub use Rattle.nb_model.specs.Tables.{all_given}
unfoldable pub use Rattle.nb_model.specs.Trail.{after_stroke}
pub use Rattle.nb_model.specs.Trail.{Trail}
pub use Rattle.nb_model.specs.declared.fact.Fact.{Fact}
pub use Rattle.nb_model.specs.declared.fact.Fact.TheVariants.{BlankPage, HeaderStamp, LateStamp, SystemPlace, TakenPast, WrongEntry}
pub use Rattle.nb_model.specs.declared.reply.Reply.TheVariants.{Freed, Leaked, Refused}
pub use Rattle.nb_page.proofs.QuietLaws.{quiet_begun, quiet_joined}
pub use Rattle.nb_page.proofs.StampLaws.{stamp_in}
unfoldable pub use Rattle.nb_page.specs.Head.{head_in}
pub use Rattle.nb_page.specs.Quiet.{Quiet}
pub use Rattle.nb_page.specs.declared.page.PageHead.{PageHead}
pub use Rattle.nb_pip.proofs.BitLaws.{SetsBit, SetsBit-clear, SetsBit-or, get_or-bits}
unfoldable pub use Rattle.nb_scn.specs.Entries.{entries}
pub use Rattle.nb_state.proofs.LooksLaws.{looks_begun, looks_then}
pub use Rattle.nb_state.proofs.MakesLaws.{goes_nowhere, goes_on, makes_front, makes_none, makes_then}
pub use Rattle.nb_state.specs.Does.{Does, Goes, Makes, unless_by}
pub use Rattle.nb_state.specs.Looks.{Looks}
pub use Rattle.nb_state.specs.Open.{Held, IsOpen}
pub use Rattle.nb_walk.proofs.SlotLaws.{slot_inside, slots_step}
pub use Rattle.nb_walk.proofs.WalkLaws.{Walks, so, walks_all, walks_broken, walks_first, walks_length, walks_next, walks_none, walks_over, walks_split}
pub use Rattle.nb_walk.specs.Walks.{chain_by, not_linked}
pub use Rattle.std.proofs.Math.Nat.{lt-div-mul-add, mod-lt, mul_assoc}
pub use Rattle.std.proofs.lemmas.Bool.{and_from, and_left, and_parts, and_right, cases_Bool, cases_eq, cases_lt, eqb-true, false_from_ne_true, leb-false, leb-true, ltb-false, ltb-true, not_from_false, or_cases, or_parts, or_right, true≢false}
pub use Rattle.std.proofs.lemmas.Bool.Decides.{eqb_tells}
pub use Rattle.std.proofs.lemmas.List.{append-nil, get_or-replicate, get_or-set_other, get_or-set_same, get_or_past, length-replicate}
pub use Rattle.std.proofs.lemmas.List.Folds.{list_any-append}
pub use Rattle.std.proofs.lemmas.Nat.{div-add-mod', div-mul-add, mod-mul-add}
pub use Rattle.std.proofs.lemmas.Nat.Bits.{bit_at-lt, bit_at-zero, shr_and_one}
pub use Rattle.std.specs.List.{AllByRecursion, filter, list_all, list_any, range_with_len}
