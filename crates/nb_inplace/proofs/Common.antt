-- The definitions that the proofs of this crate speak in, and the laws of other crates that they cite, passed on from one place. Declares nothing.
pub use Rattle.nb_cases.specs.Events.{IsFileIn, OnApply}
pub use Rattle.nb_chain.proofs.ImageLaws.{length-written, written-inside, written-past}
pub use Rattle.nb_chain.proofs.StartLaws.{header_same, size_is, state_is}
unfoldable pub use Rattle.nb_chain.specs.Overlay.{without_blank}
pub use Rattle.nb_change.proofs.ChangesLaws.{composed, kept_on, kept_then, remade_on, rested, weaker_has}
pub use Rattle.nb_change.proofs.GaveLaws.{gave_begun, nothing_joined}
pub use Rattle.nb_change.proofs.MovedLaws.{moved_begun, moved_from, moved_joined, moved_still, remade_begun, remade_weaker}
pub use Rattle.nb_change.specs.Changes.{Changes, Moved, NoNames, Only, Remade}
pub use Rattle.nb_change.specs.Gave.{GaveNothing}
pub use Rattle.nb_fields.proofs.PartLaws.{length-part, length-with_part, number_in-take, number_in-with_part, number_in-with_part_other, part-take, part-with_part, part-with_part_other}
pub use Rattle.nb_fields.proofs.SizeLaws.{size_facts}
unfoldable pub use Rattle.nb_fields.specs.Bytes.{number_in, number_of}
pub use Rattle.nb_fields.specs.Bytes.{AreApart, is_zeros, part, with_part}
unfoldable pub use Rattle.nb_fields.specs.Header.{is_header, is_marked}
pub use Rattle.nb_fields.specs.Header.{guid_of, is_sound, pending_of, scn_of, size_of, state_of}
pub use Rattle.nb_fields.specs.Page.{stamp_of}
pub use Rattle.nb_fields.specs.Places.{is_page_size, most_pages}
pub use Rattle.nb_fields.specs.States.{applying_state, merge_state, normal_state, stalled_state}
pub use Rattle.nb_fixup.proofs.AnswerLaws.{refused, tested_by}
pub use Rattle.nb_fixup.proofs.CauseLaws.{fits, no_page, parted, too_few, too_many}
pub use Rattle.nb_host.proofs.FileLaws.{IsLong, long_file, passed}
pub use Rattle.nb_host.proofs.NameLaws.{same_other, same_self, with_file-named}
pub use Rattle.nb_host.proofs.PlainLaws.{err_not_ok, head_same, none_some, not_false, ok_same, some_none, some_same}
pub use Rattle.nb_host.specs.Answers.{IsTaken}
pub use Rattle.nb_host.specs.Calls.{IsStill, ReadsPage, WritesPage}
pub use Rattle.nb_host.specs.Crash.{IsDurable, Leaves, LeavesAll, PageLeft}
unfoldable pub use Rattle.nb_host.specs.Files.{put_at}
pub use Rattle.nb_host.specs.Files.{File, Files, bytes_of, with_page}
pub use Rattle.nb_host.specs.Names.{is_delta, same_name}
pub use Rattle.nb_host.specs.World.{World}
pub use Rattle.nb_host.specs.declared.faults.Fault.{Fault}
pub use Rattle.nb_host.specs.declared.faults.Fault.TheVariants.{Device, Memory, Refused}
pub use Rattle.nb_host.specs.declared.refusals.Refusal.{Refusal}
pub use Rattle.nb_host.specs.declared.refusals.Refusal.TheVariants.{Access, BadLevel, ChainGuid, ChainScn, ChainSize, NoFile, NotDatabase, Unfinished, WrongState}
pub use Rattle.nb_inplace.specs.Accepted.{AcceptSays, IsFitFor, IsReaderOf}
pub use Rattle.nb_inplace.specs.Apply.{Applies, ApplyAnswers, ApplyLeft, IsHalfIn, IsMergedTo, base_with, pages_of}
pub use Rattle.nb_inplace.specs.Half.{IsBetween, IsHalf, applying_page}
pub use Rattle.nb_inplace.specs.Merging.{IsHalfFile, IsHalfOr, IsMergedFile, KeepsHalf, KeepsMerged, begun_file, merged_pages, pages_with}
pub use Rattle.nb_inplace.specs.Plan.{IsPlan}
pub use Rattle.nb_inplace.specs.Ready.{ReadySays}
pub use Rattle.nb_inplace.specs.Standby.{IsStandby, IsWholeStandby}
pub use Rattle.nb_inplace.specs.Tests.{head_cause, not_behind, not_the_same, stamp_cause}
pub use Rattle.nb_inplace.specs.Verdict.{IsMergeable}
pub use Rattle.nb_inplace.specs.declared.standby.Standby.{Standby}
pub use Rattle.nb_level.proofs.PagesLaws.{level_pages}
pub use Rattle.nb_level.proofs.ToldLaws.{level_told, with_head-is}
pub use Rattle.nb_level.specs.Answers.{NextSays, Rises, StartSays}
pub use Rattle.nb_level.specs.Heads.{head_of}
unfoldable pub use Rattle.nb_level.specs.Reading.{still_to_come}
pub use Rattle.nb_level.specs.Reading.{Reading}
pub use Rattle.nb_level.specs.declared.head.LevelHead.{LevelHead}
pub use Rattle.nb_model.proofs.FormLaws.{Formed, formed, no_cause, unheaded}
pub use Rattle.nb_model.proofs.FrontLaws.{plain_base}
pub use Rattle.nb_model.proofs.HeadSound.{all_zeros}
pub use Rattle.nb_model.proofs.HeaderLaws.{form, header-long, header-other, header-room, header-scn, header-size, header-state, same-header, same-number}
pub use Rattle.nb_model.proofs.ImageLaws.{AreZeros, Trimming, all-append, all-drop, all-replicate, all-right, all-take, cut-joined, drop-joined, first_and_rest, joined-append, joined-zeros, length-joined, page-joined, take-joined, trimmed-append_zeros, trimmed-before, trimmed-no_zeros, trimmed-other, trimming, zeros-are}
pub use Rattle.nb_model.proofs.MainLaws.{IsLaid, image_in-is, laid, laid-front, laid-wide, main_laid, owner-formed, owner_main, some_page}
pub use Rattle.nb_model.proofs.OwnerLaws.{main_here, main_past, other_page}
pub use Rattle.nb_model.proofs.PutLaws.{put-first}
pub use Rattle.nb_model.proofs.ReadLaws.{lt_no, lt_yes}
pub use Rattle.nb_model.proofs.SoundLaws.{all_at, all_from}
pub use Rattle.nb_model.proofs.StandsLaws.{StandsUnder, header_no_level, opened_entry, stands_with_both}
pub use Rattle.nb_model.proofs.TrimLaws.{main_tail, trimmed_alike, trimmed_page, zeros_behind}
unfoldable pub use Rattle.nb_model.specs.Account.{with_entry}
pub use Rattle.nb_model.specs.Account.{Account, Ask, Base, IsBase, Kept, Plain, base_of}
unfoldable pub use Rattle.nb_model.specs.Causes.{first_cause, not_database}
pub use Rattle.nb_model.specs.Causes.{Cause, TestedByReads, when}
unfoldable pub use Rattle.nb_model.specs.Image.{cut, image_in, overwritten, trimmed, written_at}
pub use Rattle.nb_model.specs.Image.{Image, Numbered, Page, first_page, image_guid, image_size, is_read_only, page_at}
unfoldable pub use Rattle.nb_model.specs.InPlace.{in_place, in_place_of, not_finishing, not_mergeable, not_next, not_standby, written_since}
pub use Rattle.nb_model.specs.InPlace.{is_another, other_pages}
unfoldable pub use Rattle.nb_model.specs.Levels.{head_in, level_bytes, read_level, taken_from}
pub use Rattle.nb_model.specs.Levels.{Contents, Head, behind, head_for, joined, taken, with_head}
pub use Rattle.nb_model.specs.Main.{HoldsMain}
unfoldable pub use Rattle.nb_model.specs.Owner.{entry_of_files, main_page, owner, owner_in}
pub use Rattle.nb_model.specs.Owner.{delta_name}
unfoldable pub use Rattle.nb_model.specs.Restoring.{next_link, next_links}
pub use Rattle.nb_model.specs.Restoring.{Link, level_link}
pub use Rattle.nb_model.specs.Sound.{HasHeader, HasNoZeros, IsOfSize, IsSoundImage}
pub use Rattle.nb_model.specs.Stands.{GoesOn, HoldsItsRecord, IsAncestor, IsBegun, IsKeptAs, IsLineTo, IsSpan, IsStopped, NamesItsPast, NamesPast, Stands, is_applying, nil, to_base, to_record}
unfoldable pub use Rattle.nb_model.specs.Strokes.{merged}
pub use Rattle.nb_model.specs.Strokes.{as_standby, standby_page}
pub use Rattle.nb_page.proofs.QuietLaws.{quiet_begun, quiet_joined}
unfoldable pub use Rattle.nb_page.specs.Header.{header_in}
pub use Rattle.nb_page.specs.Quiet.{Quiet}
pub use Rattle.nb_page.specs.declared.header.Header.{Header}
pub use Rattle.nb_restore.proofs.CopiedLaws.{all_over-one, first-written, overwrites_first, overwrites_joined, overwrites_none, overwrites_page, put-written, written-behind, written-sizes, written-zero}
pub use Rattle.nb_restore.proofs.FrontLaws.{put_on_ok}
pub use Rattle.nb_restore.proofs.HeadLaws.{HasHead, head_all, level-headed}
pub use Rattle.nb_restore.specs.Copied.{Holds, IsDone, Overwrites}
pub use Rattle.nb_restore.specs.Target.{IsKept, IsWhole}
pub use Rattle.std.proofs.Math.Nat.{mul-div_cancel}
pub use Rattle.std.proofs.lemmas.Bool.{and_from, and_parts, cases_eq, cases_lt, eq-eqb, eqb-false, eqb-true, or_from, or_parts, or_right, true≢false}
pub use Rattle.std.proofs.lemmas.List.{append-nil, drop-drop, drop-replicate, drop_all, get_or-append_right, get_or-drop, get_or-set_same, length-replicate, length-take, length-take-le, replicate-append-replicate, take-append-drop, take-append-le, take-replicate, take-take, take_all, take_at, with_items_is}
