-- The definitions that the proofs of this crate speak in, and the laws of other crates that they cite, passed on from one place. Declares nothing.
pub use Rattle.nb_alloc.specs.Behind.{EndsAlike, IsKnown, Judges, behind_cause, entry_broken, gone, judged, page_if, page_in, passed}
pub use Rattle.nb_alloc.specs.Data.{new_behind, new_data, not_data, owner_by, second_data, unmade, unmade_behind}
pub use Rattle.nb_alloc.specs.Find.{AreMaps, AreTaken, EndsAt, HoldsMap, IsEnd, IsFreeNear, IsMap, RefusedFor, need_cause}
pub use Rattle.nb_alloc.specs.Make.{GoesOn, IsOnward, IsSupplied, IsWell, behind, content, new_of, new_reads, page_strokes, round, system_cause, system_strokes}
pub use Rattle.nb_alloc.specs.Mark.{bit_for, bit_stroke, mark_cause, mark_stroke, mark_strokes}
pub use Rattle.nb_alloc.specs.Put.{Reads, entry_cause, must_raise, not_taken, put_stroke, raise_stroke, raise_strokes}
pub use Rattle.nb_alloc.specs.Search.{AtKnown, AtPlace, EndsBy, Finds, GoesTo, IsSearchable, IsShort, Refuses, Searches}
pub use Rattle.nb_alloc.specs.Tries.{StopsEarly, StopsShort, Tries, WhereMemory}
pub use Rattle.nb_alloc.specs.Way.{way_cause}
pub use Rattle.nb_alloc.specs.declared.behind.Behind.{Behind}
pub use Rattle.nb_base.proofs.AttachLaws.{applies, first_here, first_next}
pub use Rattle.nb_base.specs.Takes.{IsNoRefusal, Strikes, StrikesIn, after_strokes}
pub use Rattle.nb_change.proofs.FaultLaws.{counts_passed, memory_wanted, none_wanted}
pub use Rattle.nb_change.proofs.ReachedLaws.{after_all-joined, strokes_composed}
pub use Rattle.nb_change.proofs.ResultLaws.{passed_on}
pub use Rattle.nb_fields.proofs.NumberLaws.{length-bytes_of}
pub use Rattle.nb_fields.proofs.PageLaws.{filled, padded_whole}
pub use Rattle.nb_fields.proofs.PartLaws.{length-part, length-with_part, number_in-take, number_in-with_part_other, put_mid-with_part}
pub use Rattle.nb_fields.proofs.PlaceLaws.{bits-least, entries-least, inventory_index, inventory_place-some, scn_place-some}
pub use Rattle.nb_fields.proofs.SizeLaws.{SizeFacts, size_facts}
unfoldable pub use Rattle.nb_fields.specs.Bytes.{bytes_of, number_in, padded}
pub use Rattle.nb_fields.specs.Bytes.{is_zeros, with_part}
unfoldable pub use Rattle.nb_fields.specs.Header.{is_header}
pub use Rattle.nb_fields.specs.Header.{scn_of, size_of}
pub use Rattle.nb_fields.specs.Kinds.{code_of, data_kind, inventory_kind, raw_kind, scn_kind}
unfoldable pub use Rattle.nb_fields.specs.Page.{head_of, page_of, stamped, with_payload}
pub use Rattle.nb_fields.specs.Page.{generation_of, kind_of}
unfoldable pub use Rattle.nb_fields.specs.Payloads.{data_payload, inventory_payload, scn_payload, text_payload}
pub use Rattle.nb_fields.specs.Payloads.{bit_of, entry_of, text_length, text_of}
unfoldable pub use Rattle.nb_fields.specs.Places.{is_inventory_place, is_scn_place, is_system_place}
pub use Rattle.nb_fields.specs.Places.{bits_in, entries_in, inventory_place, is_page_size, most_pages, scn_place}
pub use Rattle.nb_host.proofs.PlainLaws.{append_none, le_yes, never, none_some, none_there, on_ok, or_false, or_true, some_none, some_same}
pub use Rattle.nb_host.specs.Faults.{as_answer, as_fault}
pub use Rattle.nb_host.specs.World.{World}
pub use Rattle.nb_host.specs.declared.faults.Fault.{Fault}
pub use Rattle.nb_host.specs.declared.faults.Fault.TheVariants.{Device, Memory, Refused}
pub use Rattle.nb_host.specs.declared.refusals.Refusal.{Refusal}
pub use Rattle.nb_host.specs.declared.refusals.Refusal.TheVariants.{Access, Full, NotAllocated, NotDatabase, PageRange, SystemPage, TextLong}
pub use Rattle.nb_model.proofs.DraftJoin.{join_new, join_set_bit, joined, joined_new}
pub use Rattle.nb_model.proofs.DraftLaws.{IsOf, drafted_is, drafts_are, either, page_image, put_keeps, set_bit_keeps, system_keeps}
pub use Rattle.nb_model.proofs.FirstFree.{IsLowestFree, free_from_is, lowest_is}
pub use Rattle.nb_model.proofs.NeedLaws.{behind_none, behind_some, first_append, first_behind, first_none, maps_found, maps_split}
pub use Rattle.nb_model.proofs.NewSound.{inventory_before, places_apart, plain_place}
pub use Rattle.nb_model.proofs.OnwardLaws.{IsOnTheWay, kind_same, way_begins, way_further}
pub use Rattle.nb_model.proofs.PlaceOrder.{div_rises, map_place_is}
pub use Rattle.nb_model.proofs.ReadLaws.{eq_no, eq_yes, le_no, lt_no, lt_yes}
pub use Rattle.nb_model.proofs.RoundLaws.{kind_found, lowest_behind, needs_found}
pub use Rattle.nb_model.proofs.SearchLaws.{Met, clear_cause, draft_cause, joined_cause, last_map, met, round_at, try_full, try_last, try_more, try_stops}
pub use Rattle.nb_model.proofs.SoundLaws.{inventory_place_some, inventory_there, scn_page_there, with_page_length}
pub use Rattle.nb_model.proofs.StepLaws.{IsClear, IsPutOn, IsReady, IsShaped, IsVisited, Visits, kind_moves, kind_parts, map_entry_before, plain_unkept, plain_visits, put_on, scn_page_moves, system_visits}
pub use Rattle.nb_model.proofs.StrokeLaws.{base_after-append, stroke_other, stroke_page}
pub use Rattle.nb_model.proofs.TurnCases.{is_so, no_cause, one_cause}
pub use Rattle.nb_model.proofs.WholeLaws.{when_false}
pub use Rattle.nb_model.specs.Account.{Base}
unfoldable pub use Rattle.nb_model.specs.Causes.{first_cause, lowest_broken, not_raw}
pub use Rattle.nb_model.specs.Causes.{Cause, Tested, lowest_of, no_room, no_text, not_kind, not_of_form, past_end, read_only, too_long, too_short, when}
unfoldable pub use Rattle.nb_model.specs.Chains.{grown, put_slot}
pub use Rattle.nb_model.specs.Chains.{Chain, Slot, last_of, owner_in, owner_of}
unfoldable pub use Rattle.nb_model.specs.Forms.{entry_page, entry_raised, entry_written, first_not, free_from, has_entry, is_free_page, is_kept, is_kind, lowest_free, maps_from, needed_at, needs, new_within, old_page, other_kind, put, raised, scn_entry, set_bit, system_page, system_payload, with_bit, written, wrote}
pub use Rattle.nb_model.specs.Forms.{Draft, HasItsEntry, Need, bit_number, drafted, entry_number, inventory_of, new_page, no_page, scn_page_of, system_kind, take_page, wants}
unfoldable pub use Rattle.nb_model.specs.Image.{with_page}
pub use Rattle.nb_model.specs.Image.{Image, Page, first_page, image_scn, image_size, is_read_only, page_at}
unfoldable pub use Rattle.nb_model.specs.Outcomes.{changes, unless}
pub use Rattle.nb_model.specs.Outcomes.{Outcome, Seen, says}
unfoldable pub use Rattle.nb_model.specs.Strokes.{base_after, merged_page, on_base}
pub use Rattle.nb_model.specs.Strokes.{Stroke, page}
unfoldable pub use Rattle.nb_model.specs.Trail.{after_stroke}
pub use Rattle.nb_model.specs.Trail.{StandsIn, Trail}
pub use Rattle.nb_model.specs.Way.{IsFreshBehind, IsMadeBehind, entry_on, fresh_here, made_here, map_entry_on, maps_on, maps_up_to, needed_on, next_place, own_entry_on, same_fresh, same_made}
pub use Rattle.nb_model.specs.declared.reply.Reply.{Reply}
pub use Rattle.nb_model.specs.declared.reply.Reply.TheVariants.{Value}
pub use Rattle.nb_page.proofs.QuietLaws.{quiet_begun, quiet_joined}
pub use Rattle.nb_page.proofs.StampLaws.{stamped-with_payload}
pub use Rattle.nb_page.specs.Quiet.{Quiet}
pub use Rattle.nb_pip.proofs.BitLaws.{get_or-bits}
unfoldable pub use Rattle.nb_pip.specs.Bits.{bits}
pub use Rattle.nb_pip.specs.Bits.{AreUsed}
pub use Rattle.nb_state.proofs.LooksLaws.{looks_begun, looks_then}
pub use Rattle.nb_state.proofs.MakesLaws.{after_base, goes_nowhere, goes_on, makes_after, makes_before, makes_front, makes_none, makes_not, makes_then, none_refused, none_yet, where_ended}
pub use Rattle.nb_state.proofs.TurnLaws.{unless_none}
pub use Rattle.nb_state.specs.Does.{Answers, Does, Goes, Makes, WhereEnded, has_only_told, only_tells, unless_by}
pub use Rattle.nb_state.specs.Looks.{Looks}
pub use Rattle.nb_state.specs.Open.{Held, IsOpen, but_pages, name_of}
pub use Rattle.std.proofs.Math.Nat.{div-mul-le_self, div-zero, lt-div-mul-add, mod-eq_of_lt, mul-add-mod_self_right, mul-div_cancel}
pub use Rattle.std.proofs.lemmas.Bool.{and_left, and_parts, eq-eqb, eqb-true, lt-ltb, ltb-true, ne_eqb, or_cases, or_from, or_left, or_parts, or_right, true≢false}
pub use Rattle.std.proofs.lemmas.Bool.Decides.{eqb_tells, leb_tells}
pub use Rattle.std.proofs.lemmas.List.{append-nil, drop-drop, drop_at, length-set, length-take, length-take-le, replicate-append-replicate, take-append-drop, take-set-le, take_at}
pub use Rattle.std.proofs.lemmas.Nat.{div-mul-add, le-div}
pub use Rattle.std.specs.Prelude.{unwrap_or}
