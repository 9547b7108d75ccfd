-- The definitions that the proofs of this crate speak in, and the laws of other crates that they cite, passed on from one place. Declares nothing.
pub use Rattle.nb_chain.specs.Level.{LevelRefused, WholeSays}
pub use Rattle.nb_fields.proofs.HeaderLaws.{is_header-short}
pub use Rattle.nb_fields.specs.Header.{guid_of, is_header, pending_of, scn_of, size_of, state_of}
unfoldable pub use Rattle.nb_fields.specs.Free.{is_free_file}
pub use Rattle.nb_fields.specs.States.{applying_state, normal_state, stalled_state}
pub use Rattle.nb_host.proofs.FileLaws.{passed}
pub use Rattle.nb_host.proofs.NameLaws.{same_other, same_self}
pub use Rattle.nb_host.proofs.PlainLaws.{err_not_ok, not_false, ok_same}
pub use Rattle.nb_host.specs.Files.{File, Files, bytes_of}
pub use Rattle.nb_host.specs.Names.{same_name}
pub use Rattle.nb_host.specs.declared.faults.Fault.{Fault}
pub use Rattle.nb_host.specs.declared.faults.Fault.TheVariants.{Device, Memory, Refused}
pub use Rattle.nb_host.specs.declared.refusals.Refusal.{Refusal}
pub use Rattle.nb_host.specs.declared.refusals.Refusal.TheVariants.{Access, BadLevel, ChainGuid, FileExists, NoFile, Unfinished}
pub use Rattle.nb_inplace.proofs.AcceptLaws.{standby_there}
pub use Rattle.nb_inplace.proofs.VerdictLaws.{standby_state}
pub use Rattle.nb_inplace.specs.Standby.{IsStandby}
pub use Rattle.nb_inplace.specs.declared.standby.Standby.{Standby}
pub use Rattle.nb_level.specs.Heads.{head_of}
pub use Rattle.nb_level.specs.declared.head.LevelHead.{LevelHead}
pub use Rattle.nb_model.proofs.FreeLaws.{free_no_level}
pub use Rattle.nb_model.proofs.HeaderLaws.{same-header}
pub use Rattle.nb_model.proofs.StandsLaws.{header_no_level}
unfoldable pub use Rattle.nb_model.specs.Causes.{first_cause, not_database}
pub use Rattle.nb_model.specs.Causes.{Cause, TestedByReads, when}
pub use Rattle.nb_model.specs.Image.{image_in, is_read_only}
unfoldable pub use Rattle.nb_model.specs.InPlace.{not_standby}
pub use Rattle.nb_model.specs.InPlace.{is_another}
unfoldable pub use Rattle.nb_model.specs.Levels.{begins_level, first_fault, read_level}
pub use Rattle.nb_model.specs.Levels.{Contents, Head}
pub use Rattle.nb_page.proofs.FreeLaws.{is_free_name-false}
pub use Rattle.nb_page.specs.Free.{has_delta, is_free_name}
unfoldable pub use Rattle.nb_page.specs.Header.{header_in}
pub use Rattle.nb_page.specs.declared.header.Header.{Header}
pub use Rattle.nb_ship.specs.Answers.{HasHead, HeadSays, Says}
pub use Rattle.nb_ship.specs.Finds.{Finds, HoldsApplied, HoldsLevel, HoldsNext, HoldsNone, HoldsPending, IsFor, IsIn, IsReady}
pub use Rattle.nb_ship.specs.Looks.{by_head, by_pending, by_ship, by_standby, read_in, with_guid}
unfoldable pub use Rattle.nb_ship.specs.Looks.{found_in, is_foreign, look_at}
pub use Rattle.nb_ship.specs.Names.{ship_of}
pub use Rattle.nb_ship.specs.declared.found.Found.{Found}
pub use Rattle.nb_ship.specs.declared.found.Found.TheVariants.{Applied, Broken, Next, Nothing, Pending}
pub use Rattle.nb_ship.specs.declared.found.Look.{Look}
pub use Rattle.std.proofs.lemmas.Bool.{and_parts, eq-eqb, or_from, or_parts, true≢false}
pub use Rattle.std.proofs.lemmas.List.{take-take}
pub use Rattle.std.specs.Cmp.Lexicographic.{told_text}
