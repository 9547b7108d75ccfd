-- The definitions that the proofs of this crate speak in, and the laws of other crates that they cite, passed on from one place. Declares nothing.
pub use Rattle.nb_change.proofs.ChangesLaws.{kept_on, kept_then, rested}
pub use Rattle.nb_change.proofs.GaveLaws.{gave_begun, nothing_joined}
pub use Rattle.nb_change.specs.Changes.{NoNames, Only, Remade}
pub use Rattle.nb_change.specs.Gave.{GaveNothing}
unfoldable pub use Rattle.nb_fields.specs.Header.{is_header}
pub use Rattle.nb_fields.specs.Header.{guid_of, scn_of, size_of, state_of}
pub use Rattle.nb_fields.specs.Places.{is_page_size, most_pages}
pub use Rattle.nb_fields.specs.States.{stalled_state}
pub use Rattle.nb_fold.specs.Checking.{AddSays, AreAlike, AreChained, IsAdded, IsLast, first_size, open_reads}
pub use Rattle.nb_fold.specs.Fold.{FoldAnswers, FoldLeft, Folds, fold_reads}
unfoldable pub use Rattle.nb_fold.specs.Folding.{folded, folded_from}
pub use Rattle.nb_fold.specs.Folding.{bytes_for, first_head, folded_head, folded_pages, last_head, last_page, or_before, page_of, pages_of_each, with_number}
pub use Rattle.nb_fold.specs.Merging.{AllOfSize, AllRise, AreApart, FallsOn, FoldsOn, HasFolded, IsFolding, IsReady, Makes, MakesOr, pages_left}
pub use Rattle.nb_fold.specs.Same.{GiveTheSame, Gives, IsFoldOf, IsMergedInto, links_of, merged_each}
pub use Rattle.nb_fold.specs.Sources.{AllWait, AreAtEnd, AreOfPages, AreOpened, Held, IsLeast, IsOpened, Waits, WaitsBy, count_at, counts_at, due, due_by, rest_after, rests, waiting_page, waits_at}
unfoldable pub use Rattle.nb_fold.specs.Verdict.{file_after, files_after}
pub use Rattle.nb_fold.specs.Verdict.{chained, fold_verdict, not_after, with_files}
pub use Rattle.nb_gather.proofs.QuietLaws.{is_made, remade_twice, taken_quiet, unfinished_empty}
pub use Rattle.nb_gather.specs.Gathering.{HasTaken, LevelWriting, MayHave}
pub use Rattle.nb_gather.specs.Making.{IsKept, IsMade, IsUnfinished, IsUnfinishedOr}
pub use Rattle.nb_host.proofs.AnswerLaws.{fails_alike}
pub use Rattle.nb_host.proofs.FileLaws.{passed}
pub use Rattle.nb_host.proofs.NameLaws.{with_file-named}
pub use Rattle.nb_host.proofs.PlainLaws.{err_not_ok, head_same, none_and_some, none_some, ok_same, some_none, some_same}
pub use Rattle.nb_host.specs.Answers.{IsGiven, IsTaken}
pub use Rattle.nb_host.specs.Crash.{Leaves, LeavesAll}
pub use Rattle.nb_host.specs.Files.{File, Files, bytes_of}
pub use Rattle.nb_host.specs.World.{World}
pub use Rattle.nb_host.specs.declared.faults.Fault.{Fault}
pub use Rattle.nb_host.specs.declared.faults.Fault.TheVariants.{Device, Memory, Refused}
pub use Rattle.nb_host.specs.declared.refusals.Refusal.{Refusal}
pub use Rattle.nb_host.specs.declared.refusals.Refusal.TheVariants.{BadLevel, ChainLevel, FileExists, NoFile}
pub use Rattle.nb_level.proofs.PagesLaws.{HasPages, level_pages}
pub use Rattle.nb_level.specs.Heads.{head_of}
pub use Rattle.nb_level.specs.declared.head.LevelHead.{LevelHead}
pub use Rattle.nb_model.proofs.HeaderLaws.{header-other, header-room}
pub use Rattle.nb_model.proofs.OwnerLaws.{main_here, main_past, other_page}
pub use Rattle.nb_model.proofs.ReadLaws.{eq_no, eq_yes}
pub use Rattle.nb_model.proofs.TrimLaws.{main_tail, trimmed_alike, trimmed_page}
pub use Rattle.nb_model.specs.Causes.{Cause, TestedAlone}
unfoldable pub use Rattle.nb_model.specs.Image.{overwritten, trimmed, written_at}
pub use Rattle.nb_model.specs.Image.{Image, Numbered, Page, image_size}
unfoldable pub use Rattle.nb_model.specs.Levels.{begins_level, is_first_page, level_bytes, read_level}
pub use Rattle.nb_model.specs.Levels.{AreOfSize, AreRising, Contents, Head, with_head}
unfoldable pub use Rattle.nb_model.specs.Owner.{main_page}
unfoldable pub use Rattle.nb_model.specs.Restoring.{all_over, applied, first_link, next_link, next_links, not_behind, verdict}
pub use Rattle.nb_model.specs.Restoring.{Link, level_link, linked}
pub use Rattle.nb_page.proofs.QuietLaws.{quiet_begun, quiet_joined}
pub use Rattle.nb_page.specs.Quiet.{Quiet}
pub use Rattle.nb_restore.proofs.ChainLaws.{GoesBehind, goes_behind}
pub use Rattle.nb_restore.proofs.CopiedLaws.{all_over-append, written-sizes}
pub use Rattle.std.proofs.lemmas.Bool.{and_parts, eqb-true, true≢false}
pub use Rattle.std.proofs.lemmas.Bool.Decides.{eqb_tells, leb_tells}
pub use Rattle.std.proofs.lemmas.List.{append-nil, drop-drop, drop-set-lt, drop_all, take_all, take_more}
pub use Rattle.std.specs.List.{AllByRecursion}
