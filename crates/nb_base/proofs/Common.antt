-- The definitions that the proofs of this crate speak in, and the laws of other crates that they cite, passed on from one place. Declares nothing.
pub use Rattle.nb_base.specs.Attach.{AttachesFor, IsBlank, IsStart, length_cause, main_cause, start_cause}
pub use Rattle.nb_base.specs.Beginnings.{Attaches, CreateLeft, CreateReads, Creates, CreatesFile, IsAttached, IsSettled, first_of}
pub use Rattle.nb_base.specs.Control.{ControlLeft, HasImage, HasRoom, IsImageOf, in_state, next_guid, next_scn}
pub use Rattle.nb_base.specs.Firm.{StandsFirm, StandsFirmOn, is_kept_place, must_sync}
pub use Rattle.nb_base.specs.Going.{GoesIn, HasPageIn, IsSlotted, MaySlot, StandsAs}
pub use Rattle.nb_base.specs.Open.{Agrees, AreMerged, Fits, Held, IsMerged, IsOpen, OfFiles}
pub use Rattle.nb_base.specs.Put.{MayPut, PutLeft}
pub use Rattle.nb_base.specs.Reads.{table_reads, zero_pages}
pub use Rattle.nb_base.specs.Seen.{IsSeen, IsWrite, noted_in}
pub use Rattle.nb_base.specs.Takes.{Strikes, StrikesFirm, TakesFirm}
pub use Rattle.nb_base.specs.Touches.{WritesIn}
pub use Rattle.nb_base.specs.contracts.files.TwoFiles.{the_view}
pub use Rattle.nb_base.specs.declared.attach.Start.{Start}
pub use Rattle.nb_cases.proofs.StateLaws.{diverted_stalled, opened_not_applying, plain_not_stalled, unfinished_applying}
pub use Rattle.nb_cases.specs.Events.{OnAttach, OnWrite}
pub use Rattle.nb_cases.specs.contracts.events.Case.{the_type}
pub use Rattle.nb_change.proofs.CallLaws.{page_alone, page_more, still_alone}
pub use Rattle.nb_change.proofs.ChangesLaws.{all_before, begun, composed, composed_within, left_with, moved_on, one_more, rested, still_more, weakened, weaker_has}
pub use Rattle.nb_change.proofs.MomentLaws.{left_before, untouched_fewer}
pub use Rattle.nb_change.proofs.NameLaws.{whole-other, with_file-other, with_file-same}
pub use Rattle.nb_change.proofs.ReachedLaws.{reached_weaker, strokes_composed}
pub use Rattle.nb_change.proofs.ResultLaws.{whole_on_ok}
pub use Rattle.nb_change.proofs.SettledLaws.{durable_is, durable_still}
pub use Rattle.nb_change.specs.Changes.{Changes, Moved, Names, Only, Reached, Remade, Touches}
pub use Rattle.nb_change.specs.Gave.{GaveNothing}
pub use Rattle.nb_delta.proofs.PageLaws.{length-page_in, put_here}
pub use Rattle.nb_delta.proofs.TellLaws.{apart_at, table_read}
pub use Rattle.nb_delta.specs.Entries.{AreEntries, place_of}
pub use Rattle.nb_delta.specs.Known.{Known}
pub use Rattle.nb_delta.specs.Slots.{AddStep, Adds, HasTable, SlotPut, SlotStep, slot_page}
pub use Rattle.nb_delta.specs.Waiting.{FrontStep, Fronts, HasAll, Stays, Waits}
pub use Rattle.nb_fields.proofs.PartLaws.{length-part, length-with_part, number_in-take, part-take}
pub use Rattle.nb_fields.proofs.SizeLaws.{size_facts}
unfoldable pub use Rattle.nb_fields.specs.Bytes.{number_in}
pub use Rattle.nb_fields.specs.Bytes.{is_zeros, part, with_part}
unfoldable pub use Rattle.nb_fields.specs.Fresh.{fresh, fresh_count, fresh_page}
unfoldable pub use Rattle.nb_fields.specs.Header.{is_header}
pub use Rattle.nb_fields.specs.Header.{guid_of, is_sound, scn_of, size_of, state_of}
unfoldable pub use Rattle.nb_fields.specs.Places.{is_scn_place}
pub use Rattle.nb_fields.specs.Places.{is_page_size, most_pages, slots_in}
pub use Rattle.nb_fields.specs.States.{applying_state, merge_state, normal_state, stalled_state}
unfoldable pub use Rattle.nb_fields.specs.Table.{page_in, slot_place, table_of}
pub use Rattle.nb_host.proofs.FileLaws.{IsLong, device_memory, long_file}
pub use Rattle.nb_host.proofs.NameLaws.{with_file-named}
pub use Rattle.nb_host.proofs.PlainLaws.{err_ok, false_true, le_yes, nil_cons, no_err, none_some, none_there, not_le, ok_equal, ok_same, on_ok, some_none, some_same}
pub use Rattle.nb_host.specs.Calls.{IsSilent, IsStill, ReadsBytes, ReadsPage, Remakes, Syncs, WholeOrNot, WritesPage}
pub use Rattle.nb_host.specs.Crash.{IsDurable, Leaves, LeavesAll, PageLeft, Untouched}
unfoldable pub use Rattle.nb_host.specs.Files.{padded, put_at, with_file}
pub use Rattle.nb_host.specs.Files.{File, Files, bytes_of}
pub use Rattle.nb_host.specs.Moments.{IsTimely, Passes}
pub use Rattle.nb_host.specs.World.{World}
pub use Rattle.nb_host.specs.declared.faults.Fault.{Fault}
pub use Rattle.nb_host.specs.declared.faults.Fault.TheVariants.{Device, Memory, Refused}
pub use Rattle.nb_host.specs.declared.refusals.Refusal.{Refusal}
pub use Rattle.nb_host.specs.declared.refusals.Refusal.TheVariants.{BadDelta, NoFile, NotDatabase, Unfinished}
pub use Rattle.nb_model.proofs.BehindLaws.{enter_left, way_left}
pub use Rattle.nb_model.proofs.ControlLaws.{control_header, control_length, control_other, control_size, control_state}
pub use Rattle.nb_model.proofs.EntryLaws.{for_here, for_nothing}
pub use Rattle.nb_model.proofs.FormLaws.{formed, unheaded}
pub use Rattle.nb_model.proofs.FreshImageLaws.{fresh_count-least, fresh_forced, fresh_length, fresh_main, fresh_rebuilt, fresh_size, fresh_state, length-fresh_page}
pub use Rattle.nb_model.proofs.HeadSound.{all_zeros}
pub use Rattle.nb_model.proofs.HeaderLaws.{header-long, header-other, header-room, header-scn, header-size, header-state, same-header, same-number}
pub use Rattle.nb_model.proofs.ImageLaws.{AreZeros, IsTrimmed, all-append, all-drop, all-left, all-replicate, all-right, all-take, joined-flat_map, length-joined, page-joined, trimmed-append_zeros, trimmed-before, trimmed-drop, trimmed-nothing, trimmed-over, trimmed-zeros, trimming}
pub use Rattle.nb_model.proofs.MainLaws.{IsLaid, IsLaidOut, image_in-is, laid, laid-front, laid-wide, main_facts, owned-first, owned-front, owner-formed, owner-none, owner-refused, owner_in-normal, owner_main, some_page, trimmed_laid, whole_laid}
pub use Rattle.nb_model.proofs.OverLaws.{owned-none, owned_at, owned_length}
pub use Rattle.nb_model.proofs.OwnerLaws.{main_here, main_past, named, other_page, written_length}
pub use Rattle.nb_model.proofs.PutLaws.{laid_grown, laid_put, put-first, put-joined, put-next, with_page-split}
pub use Rattle.nb_model.proofs.SoundLaws.{all_at, with_page_length}
pub use Rattle.nb_model.proofs.StrokeLaws.{stroke-frozen, stroke-diverted, stroke_page, with_page_other, with_page_same}
pub use Rattle.nb_model.proofs.TrailLaws.{itself_firm, settles_after, trail_base, waits_after}
pub use Rattle.nb_model.proofs.TrimLaws.{finish_base, trimmed_alike, trimmed_at, trimmed_front, trimmed_length, trimmed_page, trimmed_zeros}
pub use Rattle.nb_model.proofs.WayLaws.{put_first, put_long, put_other, put_same, same_pages}
pub use Rattle.nb_model.specs.Account.{Ask, Base, base_of}
pub use Rattle.nb_model.specs.Behind.{IsBehind, IsEntering, IsOnTheWay, IsRewritten}
unfoldable pub use Rattle.nb_model.specs.Causes.{first_cause, not_database}
pub use Rattle.nb_model.specs.Causes.{Cause, Tested, when}
unfoldable pub use Rattle.nb_model.specs.Image.{image_in, trimmed, with_page, written_at}
pub use Rattle.nb_model.specs.Image.{Image, Page, first_page, image_guid, image_scn, image_size, image_state, is_forced, page_at}
pub use Rattle.nb_model.specs.Levels.{joined}
unfoldable pub use Rattle.nb_model.specs.Owner.{diverted_base, entry_for, main_page, owned, owned_page, owner, owner_in, owner_with}
pub use Rattle.nb_model.specs.Owner.{behind_entries, delta_name}
pub use Rattle.nb_model.specs.Sound.{IsOfSize}
unfoldable pub use Rattle.nb_model.specs.Strokes.{controlled, merged_page, noted, on_base, with_control}
pub use Rattle.nb_model.specs.Strokes.{Stroke, begin, ends, finish, page}
unfoldable pub use Rattle.nb_model.specs.Trail.{after_stroke, settles_at}
pub use Rattle.nb_model.specs.Trail.{HasPage, IsFirm, IsMixture, ShowsIn, StandsIn, StandsOn, Trail, bases_of, is_synced, settled}
pub use Rattle.nb_page.proofs.BlankLaws.{blank_free, blank_left, blank_put}
pub use Rattle.nb_page.proofs.QuietLaws.{quiet_begun, quiet_joined}
pub use Rattle.nb_page.specs.Quiet.{Quiet}
pub use Rattle.std.proofs.Math.Nat.{div-eq_of_lt, mul-div_cancel}
pub use Rattle.std.proofs.lemmas.Bool.{cases_Bool, cases_eq, cond-false, cond-true, ne_eqb, or_right, true_from_ne_false, true≢false}
pub use Rattle.std.proofs.lemmas.Bool.Decides.{eqb_tells, leb_tells}
pub use Rattle.std.proofs.lemmas.List.{append-nil, drop_all, drop_at, ext_get_or, get_or-append_right, get_or_append_left, get_or_past, length-drop, length-replicate, length-take, length-take-le, nil_from_length, replicate-append-replicate, take-append-drop, take-append-le, take-take, take_all, take_at, take_more}
pub use Rattle.std.proofs.lemmas.Result.{err_from_is_err_and, on_ok_weaker}
unfoldable pub use Rattle.std.specs.List.{IsDistinct}
pub use Rattle.std.specs.List.{flat_map, list_any, position_from, range_with_len}
pub use denote.Enum.Bare.{same_false, same_true}
