-- The definitions that the proofs of this crate speak in, and the laws of other crates that they cite, passed on from one place. Declares nothing.
pub use Rattle.nb_cases.specs.Events.{AreTheCases, Diverts, DivertsNone, IsFileIn, IsMainAlone, IsTheCase, IsWithDelta, OnAttach, OnOpen, OnWrite, case_at, none_to_end}
pub use Rattle.nb_cases.specs.Syncs.{AreTheSyncs, IsKept, SyncsOf, column_of, row_of, syncs_at}
pub use Rattle.nb_fields.specs.Cases.{cell}
pub use Rattle.nb_fields.specs.States.{applying_state, merge_state, normal_state, stalled_state}
pub use Rattle.nb_host.specs.declared.refusals.Refusal.TheVariants.{DeltaPresent, NoFile}
pub use Rattle.nb_model.specs.Account.{Base, base_of}
unfoldable pub use Rattle.nb_model.specs.Causes.{first_cause}
pub use Rattle.nb_model.specs.Causes.{Cause, not_state, when}
pub use Rattle.nb_model.specs.Image.{Image, Page, image_state}
unfoldable pub use Rattle.nb_model.specs.Owner.{entry_for, owner_in, owner_with}
pub use Rattle.nb_model.specs.Owner.{delta_name}
unfoldable pub use Rattle.nb_model.specs.Strokes.{noted, on_base}
pub use Rattle.nb_model.specs.Strokes.{page}
