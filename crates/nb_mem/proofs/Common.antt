-- The definitions that the proofs of this crate speak in, and the laws of other crates that they cite, passed on from one place. Declares nothing.
pub use Rattle.nb_host.proofs.FileLaws.{padded-short}
pub use Rattle.nb_host.proofs.NameLaws.{at_other, at_same, decide, same_other, same_self, to_other, to_same, with_file-again, with_file-keep, with_file-other, with_file-same, with_file-swap}
pub use Rattle.nb_host.specs.Calls.{IsSilent, IsStill, Syncs}
pub use Rattle.nb_host.specs.Crash.{AppendLeft, IsDurable, IsTornFrom, Leaves, PageLeft}
unfoldable pub use Rattle.nb_host.specs.Files.{padded, put_at, with_file}
pub use Rattle.nb_host.specs.Files.{File, bytes_of, with_bytes}
pub use Rattle.nb_host.specs.Names.{same_name}
pub use Rattle.nb_mem.specs.Changes.{BackAfter, NowAfter, file_after}
unfoldable pub use Rattle.nb_mem.specs.Chosen.{anew_by, behind, bytes_by, choices_after, outcome_after, outcome_by, page_by, torn_by, with_name}
pub use Rattle.nb_mem.specs.Chosen.{begun, grown, is_yes, left_by, picked, placed_all, settled}
unfoldable pub use Rattle.nb_mem.specs.Crashes.{settled_file}
pub use Rattle.nb_mem.specs.Crashes.{AnewMay, BytesMay, LeavesAfter, LosesAll, OthersMay, PagesMay, PicksReach, SyncedMay, settled_after}
unfoldable pub use Rattle.nb_mem.specs.Histories.{guid_of}
pub use Rattle.nb_mem.specs.Histories.{Back, Now, files_of, guids_behind, guids_of, reads_of, times_of, with_guids, world_of}
pub use Rattle.nb_mem.specs.HistoryLaws.{reads_left, seen}
pub use Rattle.nb_mem.specs.Memory.{Memory}
pub use Rattle.nb_mem.specs.Outcomes.{IsLeft, IsOther, MayBe, placed}
pub use Rattle.nb_mem.specs.Slots.{files_in, names_in}
pub use Rattle.nb_mem.specs.declared.choices.Choices.{Choices}
pub use Rattle.nb_mem.specs.declared.entry.Change.{Change}
pub use Rattle.nb_mem.specs.declared.entry.Change.TheVariants.{Appended, Made, Paged, Placed, Removed, Synced}
pub use Rattle.nb_mem.specs.declared.entry.Entry.{Entry}
pub use Rattle.nb_mem.specs.declared.entry.Entry.TheVariants.{Asked, Changed, Said}
pub use Rattle.nb_mem.specs.declared.outcome.Outcome.{Outcome}
pub use Rattle.nb_mem.specs.declared.slots.Slot.{Slot}
pub use Rattle.std.proofs.lemmas.Bool.{cases_lt, eq-eqb, eqb-true, le-leb, leb-true}
pub use Rattle.std.proofs.lemmas.Iterator.Adapters.{position_from-zero}
pub use Rattle.std.proofs.lemmas.List.{append-nil, drop_all, get_or-append_right, get_or-take, get_or_append_left, length-replicate, length-reverse, length-take-le, replicate-append-replicate, take-append-le, take_all, take_more}
pub use Rattle.std.specs.List.{position, position_from}
