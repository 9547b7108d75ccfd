-- The definitions that the proofs of this crate speak in, and the laws of other crates that they cite, passed on from one place. Declares nothing.
pub use Rattle.nb_change.proofs.CallLaws.{page_alone, page_others, remade_alone, remade_step, still_alone}
pub use Rattle.nb_change.proofs.ChangesLaws.{begun, kept_on, still_more}
pub use Rattle.nb_change.proofs.MovedLaws.{moved_begun, moved_joined, moved_weaker}
pub use Rattle.nb_change.proofs.NameLaws.{with_file-same}
pub use Rattle.nb_change.proofs.ResultLaws.{whole_on_ok}
pub use Rattle.nb_change.proofs.SettledLaws.{durable_is}
pub use Rattle.nb_change.specs.Changes.{Changes, Moved, NoNames, Only, Remade}
pub use Rattle.nb_delta.specs.Entries.{AreEntries, IsIndex, place_of}
pub use Rattle.nb_delta.specs.Groups.{Empties, GroupPut, GroupStep, IsOfGroup, NotesAll, NotesSome}
pub use Rattle.nb_delta.specs.Known.{Known}
pub use Rattle.nb_delta.specs.Noting.{HasRoom, IsAllocation, IsNewest, IsReady, MakesRoom, NoteStep, Notes, Prepared}
pub use Rattle.nb_delta.specs.Pages.{Grows, PageStep, Put, SamePages, WithPage}
pub use Rattle.nb_delta.specs.Reading.{Counts, Reads, ReadsGroup, ReadsOn, is_unfit}
pub use Rattle.nb_delta.specs.Slots.{AddStep, Adds, HasSlot, HasTable, HasZeros, IsBlank, Keeps, SlotPut, SlotStep, slot_page}
pub use Rattle.nb_delta.specs.Waiting.{FrontStep, Fronts, HasAll, HasFront, Stays, Waits}
pub use Rattle.nb_fields.proofs.SizeLaws.{SizeFacts, size_facts}
unfoldable pub use Rattle.nb_fields.specs.Bytes.{number_in, number_of}
pub use Rattle.nb_fields.specs.Bytes.{AreApart, part}
pub use Rattle.nb_fields.specs.Places.{is_page_size, most_pages, slots_in}
unfoldable pub use Rattle.nb_fields.specs.Table.{alloc_place, entries_from, groups_from, page_in, slot_place, table_of}
pub use Rattle.nb_host.proofs.FileLaws.{IsLong, length-front, long_file}
pub use Rattle.nb_host.proofs.PlainLaws.{all_parts, err_ok, false_true, none_some, on_ok, some_none}
pub use Rattle.nb_host.specs.Calls.{IsSilent, ReadsBytes, ReadsPage, Remakes, WritesPage}
pub use Rattle.nb_host.specs.Crash.{IsDurable, LeavesAll, PageLeft}
unfoldable pub use Rattle.nb_host.specs.Files.{padded, put_at, with_file}
pub use Rattle.nb_host.specs.Files.{File, Files, bytes_of, with_page}
pub use Rattle.nb_host.specs.Moments.{IsTimely, Passes}
pub use Rattle.nb_host.specs.World.{World}
pub use Rattle.nb_host.specs.declared.faults.Fault.{Fault}
pub use Rattle.nb_host.specs.declared.faults.Fault.TheVariants.{Device, Memory, Refused}
pub use Rattle.nb_host.specs.declared.refusals.Refusal.TheVariants.{BadDelta}
pub use Rattle.std.proofs.Math.Nat.{mul-le-mul_right}
pub use Rattle.std.proofs.lemmas.Bool.{and_cases, and_from, and_left, and_right, cases_Bool, cases_eq, cases_lt, cases_order, cond-false, cond-true, eq-eqb, eqb-false, eqb-true, le-ltb, leb-false, lt-leb, lt-ltb, ltb-false, ne_eqb, or_cases, or_from, or_left, or_parts, or_right}
pub use Rattle.std.proofs.lemmas.List.{append-nil, append_assoc, drop-drop, drop-replicate, drop_all, ext_get_or, get_or-append-add, get_or-append_right, get_or-drop, get_or-replicate, get_or_append_left, get_or_read, length-replicate, length-take-le, nil_from_length, places, replicate-append-replicate, take-append-drop, take-append-le, take-replicate, take_all}
pub use Rattle.std.proofs.lemmas.List.Folds.{list_any-append}
pub use Rattle.std.proofs.lemmas.Nat.{le-div}
pub use Rattle.std.proofs.lemmas.Result.{on_ok_weaker}
unfoldable pub use Rattle.std.specs.List.{IsDistinct}
pub use Rattle.std.specs.List.{AllByRecursion, list_any, position_from}
pub use Rattle.std.specs.Result.{IsErrAnd}
