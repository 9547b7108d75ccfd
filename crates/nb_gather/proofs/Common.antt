-- The definitions that the proofs of this crate speak in, and the laws of other crates that they cite, passed on from one place. Declares nothing.
pub use Rattle.nb_change.proofs.CallLaws.{bytes_alone, bytes_others, page_alone, remade_step, still_alone}
pub use Rattle.nb_change.proofs.ChangesLaws.{begun, composed, remade_on, rested, still_more, weaker_has}
pub use Rattle.nb_change.proofs.MomentLaws.{goes_on, left_before, started}
pub use Rattle.nb_change.proofs.MovedLaws.{remade_begun, remade_weaker}
pub use Rattle.nb_change.proofs.NameLaws.{decide, with_file-other, with_file-same}
pub use Rattle.nb_change.specs.Changes.{ChangedLeft, Changes, Moved, Only, Remade}
pub use Rattle.nb_fields.proofs.SizeLaws.{size_facts}
unfoldable pub use Rattle.nb_fields.specs.Bytes.{bytes_of, number_in, number_of}
pub use Rattle.nb_fields.specs.Page.{stamp_of}
pub use Rattle.nb_fields.specs.Places.{is_page_size, most_pages}
unfoldable pub use Rattle.nb_gather.specs.Gathering.{complete, incomplete}
pub use Rattle.nb_gather.specs.Gathering.{HasTaken, Holds, HoldsAll, IsHeaded, IsTornFile, LevelWriting, MayHave, Reads, Waiting, level_front}
pub use Rattle.nb_gather.specs.Making.{IsBlank, IsEmpty, IsKept, IsMade, IsNoBackup, IsUnfinished, IsUnfinishedOr}
pub use Rattle.nb_host.proofs.NameLaws.{with_file-named}
pub use Rattle.nb_host.proofs.PlainLaws.{err_ok, lt_holds, not_both, true_or_false}
pub use Rattle.nb_host.specs.Calls.{AppendsBytes, IsStill, Remakes, Syncs, WritesPage}
pub use Rattle.nb_host.specs.Crash.{AppendLeft, IsDurable, IsTornFrom, Leaves}
unfoldable pub use Rattle.nb_host.specs.Files.{with_file}
pub use Rattle.nb_host.specs.Files.{File, Files, with_bytes}
pub use Rattle.nb_host.specs.Moments.{IsTimely, Passes}
pub use Rattle.nb_host.specs.World.{World}
pub use Rattle.nb_level.specs.Adding.{AddsTwo, IsWhileAdding, TwoLeft}
pub use Rattle.nb_level.specs.Heads.{head_of}
pub use Rattle.nb_level.specs.declared.head.LevelHead.{LevelHead}
pub use Rattle.nb_model.proofs.GatherLaws.{gathered_total, run_front, total}
pub use Rattle.nb_model.proofs.ImageLaws.{all-append, joined-append, length-joined}
pub use Rattle.nb_model.proofs.ReadLaws.{AreClear, eight_bytes, end_tests, eq_yes, run_tests}
pub use Rattle.nb_model.specs.Image.{Numbered, Page}
unfoldable pub use Rattle.nb_model.specs.Levels.{body_bytes, end_bytes, first_fault, head_then, level_bytes, pages_in, read_end, read_level, read_pages, read_runs, run_bytes, runs_behind, runs_of, taken_from}
pub use Rattle.nb_model.specs.Levels.{AreOfSize, AreRising, Contents, Head, Stretch, Test, barred_after, behind, end_mark, joined}
pub use Rattle.nb_page.proofs.BlankLaws.{blank_free}
pub use Rattle.nb_page.proofs.StampLaws.{stamp_in}
pub use Rattle.nb_page.specs.Quiet.{Quiet}
pub use Rattle.std.proofs.Math.Nat.{mul-div_cancel, suc-mul}
pub use Rattle.std.proofs.lemmas.Bool.{and_parts, and_right, eqb-true, or_cases, or_parts}
pub use Rattle.std.proofs.lemmas.Bool.Decides.{eqb_tells, leb_tells}
pub use Rattle.std.proofs.lemmas.List.{append-nil, drop-drop, drop_all, drop_at, length-drop, length-take-le, take-append-drop, take_all}
