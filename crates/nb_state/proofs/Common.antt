-- The definitions that the proofs of this crate speak in, and the laws of other crates that they cite, passed on from one place. Declares nothing.
pub use Rattle.nb_base.proofs.ControlLaws.{with_control-first}
pub use Rattle.nb_base.proofs.WriteLaws.{not_done}
pub use Rattle.nb_base.specs.Open.{AreMerged, Fits, IsMerged, OfFiles}
pub use Rattle.nb_base.specs.Stays.{EndsWithin, FileIs, GrowsWithin, HasAfterFirst, KeepsFile}
pub use Rattle.nb_base.specs.Takes.{IsNoRefusal, Strikes, StrikesIn, StrikesOn, TakesOn, after_strokes}
pub use Rattle.nb_base.specs.Touches.{WritesIn, WrittenIn}
pub use Rattle.nb_cache.specs.Held.{NoneWaits}
pub use Rattle.nb_cases.proofs.StateLaws.{goes, only_normal, some_backup}
pub use Rattle.nb_cases.specs.Events.{OnOpen, none_to_end}
pub use Rattle.nb_cases.specs.contracts.events.Case.{the_type}
pub use Rattle.nb_change.proofs.ChangesLaws.{rested, weaker_has}
pub use Rattle.nb_change.proofs.ReachedLaws.{after_all-joined, reached_first, reached_front, strokes_composed}
pub use Rattle.nb_change.proofs.ResultLaws.{passed_on}
pub use Rattle.nb_change.specs.Gave.{GaveNothing}
pub use Rattle.nb_fields.proofs.SizeLaws.{size_facts}
unfoldable pub use Rattle.nb_fields.specs.Bytes.{number_in}
pub use Rattle.nb_fields.specs.Bytes.{part}
unfoldable pub use Rattle.nb_fields.specs.Header.{is_header}
pub use Rattle.nb_fields.specs.Header.{guid_of, scn_of, state_of}
pub use Rattle.nb_fields.specs.States.{merge_state, normal_state, stalled_state}
pub use Rattle.nb_host.specs.Calls.{IsStill}
pub use Rattle.nb_host.specs.Faults.{as_answer, as_fault}
pub use Rattle.nb_host.specs.Files.{File, Files, bytes_of}
pub use Rattle.nb_host.specs.Moments.{IsTimely}
pub use Rattle.nb_host.specs.World.{World}
pub use Rattle.nb_host.specs.declared.faults.Fault.{Fault}
pub use Rattle.nb_host.specs.declared.faults.Fault.TheVariants.{Device, Memory, Refused}
pub use Rattle.nb_host.specs.declared.faults.RunError.{RunError}
pub use Rattle.nb_host.specs.declared.refusals.Refusal.{Refusal}
pub use Rattle.nb_host.specs.declared.refusals.Refusal.TheVariants.{BackupRunning, ScnExhausted, WrongState}
pub use Rattle.nb_model.proofs.ControlLaws.{control_guid, control_other, control_scn, control_state}
pub use Rattle.nb_model.proofs.HeaderLaws.{header-long, header-room, same-number}
pub use Rattle.nb_model.proofs.MainLaws.{some_page}
pub use Rattle.nb_model.proofs.StrokeLaws.{begun_image, ended_image}
pub use Rattle.nb_model.proofs.TrailLaws.{trail_base}
pub use Rattle.nb_model.proofs.TurnCases.{one_cause}
pub use Rattle.nb_model.specs.Account.{Ask, Base, base_of}
unfoldable pub use Rattle.nb_model.specs.Causes.{first_cause}
pub use Rattle.nb_model.specs.Causes.{Cause, Tested, no_scn, not_state, runs_other, when}
unfoldable pub use Rattle.nb_model.specs.Image.{image_in, trimmed}
pub use Rattle.nb_model.specs.Image.{Image, Page, first_page, image_guid, image_scn, image_size, image_state, page_at}
unfoldable pub use Rattle.nb_model.specs.Owner.{owner}
pub use Rattle.nb_model.specs.Owner.{delta_name}
unfoldable pub use Rattle.nb_model.specs.Strokes.{base_after, controlled, with_control}
pub use Rattle.nb_model.specs.Strokes.{Stroke, begin, ends, finish, page}
unfoldable pub use Rattle.nb_model.specs.Trail.{after_stroke}
pub use Rattle.nb_model.specs.Trail.{ShowsIn, StandsIn, Trail, settled}
pub use Rattle.nb_owner.proofs.WaitLaws.{files_open, files_shown, open_of, open_settled, settled_none}
pub use Rattle.nb_owner.specs.Open.{AreOf, Pages, but_drafts}
pub use Rattle.nb_page.proofs.QuietLaws.{quiet_begun, quiet_joined}
pub use Rattle.nb_page.specs.Quiet.{Quiet}
pub use Rattle.nb_state.specs.Does.{Goes, Makes, WhereEnded, unless_by}
pub use Rattle.nb_state.specs.Looks.{Looks}
pub use Rattle.nb_state.specs.Open.{AgreesWith, HasBlock, Held, IsOpen, NoPageWaits, but_pages, name_of, pair_of}
pub use Rattle.nb_state.specs.Turns.{Begins, Ends, Merges, begin_cause, end_cause}
pub use Rattle.std.proofs.lemmas.Bool.{eq-eqb, ne_eqb}
pub use Rattle.std.proofs.lemmas.Result.{on_ok_weaker}
pub use denote.Enum.Bare.{same_false, same_true}
