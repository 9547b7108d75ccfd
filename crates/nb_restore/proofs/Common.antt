-- The definitions that the proofs of this crate speak in, and the laws of other crates that they cite, passed on from one place. Declares nothing.
pub use Rattle.nb_chain.proofs.ImageLaws.{length-written, over, written-inside, written-past}
pub use Rattle.nb_chain.proofs.LinkLaws.{next_broken, split}
pub use Rattle.nb_change.proofs.CallLaws.{bytes_alone, page_alone, page_others, remade_alone, remade_step}
pub use Rattle.nb_change.proofs.ChangesLaws.{composed, kept_then, remade_on, rested, still_more, weaker_has}
pub use Rattle.nb_change.proofs.GaveLaws.{gave_begun, nothing_joined}
pub use Rattle.nb_change.proofs.MovedLaws.{moved_begun, moved_from, moved_joined, moved_still, remade_begun}
pub use Rattle.nb_change.proofs.ResultLaws.{on_ok_then, whole_on_ok}
pub use Rattle.nb_change.proofs.SettledLaws.{durable_is, reads_has, synced}
pub use Rattle.nb_change.specs.Changes.{Changes, Moved, NoNames, Only, Remade}
pub use Rattle.nb_change.specs.Gave.{GaveNothing}
pub use Rattle.nb_fields.proofs.HeaderLaws.{is_free_file-take, is_header-long, is_header-take}
pub use Rattle.nb_fields.proofs.PartLaws.{length-part, length-with_part, number_in-take, number_in-with_part, number_in-with_part_other, part-with_part_other}
pub use Rattle.nb_fields.proofs.SizeLaws.{size_facts}
pub use Rattle.nb_fields.proofs.ZeroLaws.{zeros-take}
unfoldable pub use Rattle.nb_fields.specs.Bytes.{number_in, number_of}
pub use Rattle.nb_fields.specs.Bytes.{is_zeros, with_part}
unfoldable pub use Rattle.nb_fields.specs.Free.{is_free_file}
pub use Rattle.nb_fields.specs.Free.{is_unfinished}
unfoldable pub use Rattle.nb_fields.specs.Header.{is_header, is_marked}
pub use Rattle.nb_fields.specs.Header.{guid_of, header_length, is_sound, pending_of, scn_of, signature, size_of, state_of, version}
pub use Rattle.nb_fields.specs.Page.{kind_of, number_of_page, stamp_of}
pub use Rattle.nb_fields.specs.Places.{is_page_size, most_pages}
pub use Rattle.nb_fields.specs.States.{applying_state, normal_state, stalled_state}
pub use Rattle.nb_host.proofs.FileLaws.{passed}
pub use Rattle.nb_host.proofs.NameLaws.{with_file-named}
pub use Rattle.nb_host.proofs.PlainLaws.{err_not_ok, far_behind, not_false, not_lt, ok_same, some_none, some_same}
pub use Rattle.nb_host.specs.Answers.{IsGiven}
pub use Rattle.nb_host.specs.Calls.{AppendsBytes, IsStill, ReadsBytes, ReadsPage, Remakes, Syncs, WritesPage}
pub use Rattle.nb_host.specs.Crash.{AppendLeft, IsDurable, Leaves, LeavesAll, PageLeft}
unfoldable pub use Rattle.nb_host.specs.Files.{padded, put_at}
pub use Rattle.nb_host.specs.Files.{File, Files, bytes_of, with_bytes, with_page}
pub use Rattle.nb_host.specs.Moments.{IsTimely, Passes}
pub use Rattle.nb_host.specs.Names.{is_delta, same_name}
pub use Rattle.nb_host.specs.World.{World}
pub use Rattle.nb_host.specs.declared.faults.Fault.{Fault}
pub use Rattle.nb_host.specs.declared.faults.Fault.TheVariants.{Device, Memory, Refused}
pub use Rattle.nb_host.specs.declared.refusals.Refusal.{Refusal}
pub use Rattle.nb_host.specs.declared.refusals.Refusal.TheVariants.{BadLevel, ChainGuid, ChainLevel, ChainScn, ChainSize, NoFile}
pub use Rattle.nb_level.proofs.ToldLaws.{IsTold, level_told, with_head-is}
pub use Rattle.nb_level.specs.Answers.{NextSays, StartSays}
unfoldable pub use Rattle.nb_level.specs.Reading.{still_to_come}
pub use Rattle.nb_level.specs.Reading.{Reading}
pub use Rattle.nb_model.proofs.ChainLaws.{kept_accepted, step_there}
pub use Rattle.nb_model.proofs.FirstPageLaws.{IsLaterFirst, first, first_goes_on, first_past, first_sound, new_header, with_first}
pub use Rattle.nb_model.proofs.HeaderLaws.{form, header-long, header-other, header-room, header-scn, header-size, same-header}
pub use Rattle.nb_model.proofs.ImageLaws.{Pages, Trimming, all-append, all-drop, all-replicate, all-right, all-take, cut-joined, drop-joined, joined-append, joined-zeros, length-joined, page-joined, pages_of, trimmed-before, trimmed-other, trimming}
pub use Rattle.nb_model.proofs.MainLaws.{IsLaid, laid, main_laid, owner_main}
pub use Rattle.nb_model.proofs.OpenedLaws.{copy_image, joined_front}
pub use Rattle.nb_model.proofs.PutLaws.{put-first, put-joined}
pub use Rattle.nb_model.proofs.ReadLaws.{eq_no, eq_yes}
pub use Rattle.nb_model.proofs.StandsLaws.{header_no_level, no_level_begins, not_level}
pub use Rattle.nb_model.proofs.WholeLaws.{chain_accepted, chain_gives, copy_accepted, first_fields, verdict_there}
pub use Rattle.nb_model.specs.Account.{Account, Ask, Base, Kept, base_of}
unfoldable pub use Rattle.nb_model.specs.Causes.{first_cause, not_database}
pub use Rattle.nb_model.specs.Causes.{Cause, when}
unfoldable pub use Rattle.nb_model.specs.Image.{cut, image_in, overwritten, trimmed, written_at}
pub use Rattle.nb_model.specs.Image.{Image, Numbered, Page, first_page, image_size, page_at}
unfoldable pub use Rattle.nb_model.specs.Levels.{begins_level, body_bytes, end_bytes, file_for, file_of, head_in, head_then, is_first_page, level_bytes, read_level}
pub use Rattle.nb_model.specs.Levels.{AreRising, Contents, Head, IsHead, behind, changed, head_for, joined, taken}
unfoldable pub use Rattle.nb_model.specs.Line.{first_file, next_files}
pub use Rattle.nb_model.specs.Line.{HoldLine, HoldsFirst, HoldsNext, last_in}
pub use Rattle.nb_model.specs.Main.{HoldsMain}
unfoldable pub use Rattle.nb_model.specs.Restoring.{all_over, applied, first_link, next_link, next_links, not_behind, not_whole, verdict}
pub use Rattle.nb_model.specs.Restoring.{Link, is_bad_length, level_link, linked, whole_link}
pub use Rattle.nb_model.specs.Sound.{HasHeader, HasNoZeros, IsOfSize, IsSoundImage}
pub use Rattle.nb_model.specs.Stands.{GoesOn, GoesOnFrom, IsBegun, IsCopyOf, IsKeptAs, IsLineTo, IsParent, IsSpan, NamesPast, Stands, nil, to_record}
unfoldable pub use Rattle.nb_model.specs.Strokes.{fixed}
pub use Rattle.nb_model.specs.Trail.{ShowsIn, settled}
pub use Rattle.nb_model.specs.Well.{IsWell, IsWellBase, IsWellIn}
unfoldable pub use Rattle.nb_page.specs.Header.{header_in}
pub use Rattle.nb_page.specs.Header.{HasForm}
pub use Rattle.nb_page.specs.Quiet.{Quiet}
pub use Rattle.nb_page.specs.declared.header.Header.{Header}
pub use Rattle.nb_restore.specs.Copied.{BeginsWith, Holds, IsDone, KeepsFront, Overwrites, OverwritesAll}
pub use Rattle.nb_restore.specs.Kept.{AreKept, AreLinksOf, GiveLast, GivesKept, HoldChain, HoldLevels, HoldsCopy, HoldsLevel, IsLinkOf, last_guid}
pub use Rattle.nb_restore.specs.Plan.{IsAccepted, IsPrepared, PlanSays}
pub use Rattle.nb_restore.specs.Restore.{IsRestoredTo, RestoreAnswers, RestoreLeft, Restores, base_from}
pub use Rattle.nb_restore.specs.Sources.{AreHeaded, AreOfPages, AreReady, AreSources, IsHeaded, IsLevel0, IsReady, IsSource}
pub use Rattle.nb_restore.specs.Target.{IsFree, IsFreeOr, IsKept, IsPlan, IsUnfinishedPage, IsWhole, KeepsWhole, ReadsOr, restored}
pub use Rattle.std.proofs.Math.Seq.{drop-cons, take-add}
pub use Rattle.std.proofs.lemmas.Bool.{and_from, and_parts, cases_eq, cases_lt, eqb-true, or_left, or_parts, or_right, true≢false}
pub use Rattle.std.proofs.lemmas.List.{append-nil, drop-drop, drop_all, drop_at, length-replicate, length-take-le, nil_from_length, set_split, take-append-le, take-take, take_all, take_at, with_items_is}
pub use Rattle.std.specs.List.{AllByRecursion}
