-- The definitions that the proofs of this crate speak in, and the laws of other crates that they cite, passed on from one place. Declares nothing.
pub use Rattle.nb_cases.specs.Events.{IsFileIn, OnFixup}
pub use Rattle.nb_fields.proofs.SizeLaws.{size_facts}
unfoldable pub use Rattle.nb_fields.specs.Header.{is_header}
pub use Rattle.nb_fields.specs.Header.{guid_of, size_of, state_of}
pub use Rattle.nb_fields.specs.Places.{is_page_size, most_pages}
pub use Rattle.nb_fixup.specs.Fixup.{FixAnswers, FixLeft, Fixes, IsFixable, IsFixed, fixed_bytes, fixup_cause}
pub use Rattle.nb_fixup.specs.Tests.{IsPageOf, copy_cause, file_cause}
pub use Rattle.nb_host.proofs.FileLaws.{IsLong, long_file, passed}
pub use Rattle.nb_host.proofs.PlainLaws.{some_none}
pub use Rattle.nb_host.specs.Crash.{Leaves, LeavesAll, PageLeft}
unfoldable pub use Rattle.nb_host.specs.Files.{padded, put_at}
pub use Rattle.nb_host.specs.Files.{File, Files, with_page}
pub use Rattle.nb_host.specs.declared.faults.Fault.{Fault}
pub use Rattle.nb_host.specs.declared.faults.Fault.TheVariants.{Device, Memory, Refused}
pub use Rattle.nb_host.specs.declared.refusals.Refusal.{Refusal}
pub use Rattle.nb_host.specs.declared.refusals.Refusal.TheVariants.{DeltaPresent, NoFile, NotDatabase, WrongState}
pub use Rattle.nb_model.proofs.FormLaws.{Formed, formed, no_cause, unheaded}
pub use Rattle.nb_model.proofs.HeaderLaws.{same-header, same-number}
pub use Rattle.nb_model.proofs.MainLaws.{IsLaid, laid, laid-front, owner_main, some_page}
unfoldable pub use Rattle.nb_model.specs.Causes.{first_cause, not_database}
pub use Rattle.nb_model.specs.Causes.{Cause, TestedByReads, when}
unfoldable pub use Rattle.nb_model.specs.Image.{image_in, trimmed}
pub use Rattle.nb_model.specs.Image.{Image, Page, first_page, image_size}
unfoldable pub use Rattle.nb_model.specs.Jobs.{not_fixable}
pub use Rattle.nb_model.specs.Main.{HoldsMain}
pub use Rattle.nb_model.specs.Owner.{delta_name}
unfoldable pub use Rattle.nb_model.specs.Strokes.{fixed}
pub use Rattle.nb_restore.proofs.FinishLaws.{normal_page, two, written_whole}
pub use Rattle.std.proofs.Math.Nat.{div-eq_of_lt, mul-mod_left}
pub use Rattle.std.proofs.lemmas.Bool.{or_right}
pub use Rattle.std.proofs.lemmas.List.{drop-drop, drop-take, length-take, length-take-le, take-append-drop, take-take, take_at}
