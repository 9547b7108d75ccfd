-- The definitions that the proofs of this crate speak in, and the laws of other crates that they cite, passed on from one place. Declares nothing.
pub use Rattle.nb_base.specs.Open.{OfFiles}
pub use Rattle.nb_catalog.specs.Answers.{Says, with_first}
unfoldable pub use Rattle.nb_catalog.specs.NameLists.{list_of, names_on, some_names_on}
pub use Rattle.nb_catalog.specs.NameLists.{is_next}
pub use Rattle.nb_catalog.specs.Plans.{Retention}
unfoldable pub use Rattle.nb_catalog.specs.Turns.{plan_turn, planned}
pub use Rattle.nb_catalog.specs.Turns.{names_in, plan_reply}
pub use Rattle.nb_change.proofs.ChangesLaws.{left_with, rested, weaker_has}
pub use Rattle.nb_change.proofs.MomentLaws.{joined, left_before, untouched_fewer, weaker}
pub use Rattle.nb_change.proofs.NameLaws.{decide, with_file-other, with_file-same}
pub use Rattle.nb_change.specs.Changes.{ChangedLeft, Changes, Names, NoNames, Only, Other, Remade}
pub use Rattle.nb_change.specs.Gave.{GaveNothing}
unfoldable pub use Rattle.nb_fields.specs.Free.{is_free_file}
unfoldable pub use Rattle.nb_fields.specs.Fresh.{fresh, fresh_count}
unfoldable pub use Rattle.nb_fields.specs.Header.{is_header}
pub use Rattle.nb_fields.specs.Header.{signature, size_of, state_of}
pub use Rattle.nb_fields.specs.Page.{stamp_of}
pub use Rattle.nb_fields.specs.States.{applying_state, normal_state, stalled_state}
pub use Rattle.nb_fixup.specs.Fixup.{FixAnswers, FixLeft, Fixes, IsFixable, fixup_cause}
pub use Rattle.nb_fold.proofs.SameLaws.{GoesAfter, files_rise, folded_page, goes_after, next_files}
unfoldable pub use Rattle.nb_fold.specs.Folding.{folded}
pub use Rattle.nb_fold.specs.Folding.{bytes_for, first_head, folded_head, folded_pages, last_head, last_page, or_before, page_of, pages_of_each}
unfoldable pub use Rattle.nb_fold.specs.Verdict.{file_after, files_after, fold_turn}
pub use Rattle.nb_fold.specs.Verdict.{chained, fold_verdict, made_turn, not_after}
pub use Rattle.nb_gather.proofs.QuietLaws.{quiet_gave}
pub use Rattle.nb_gather.specs.Making.{IsKept, IsUnfinished, IsUnfinishedOr}
pub use Rattle.nb_gen.proofs.GeneratedScript.{creates_its_own, generated_text}
pub use Rattle.nb_gen.proofs.WrittenLaws.{text_in_use, text_no_backup}
pub use Rattle.nb_gen.specs.Texts.{IsScriptText, generated_first}
pub use Rattle.nb_host.proofs.FileLaws.{device_memory, passed}
pub use Rattle.nb_host.proofs.PlainLaws.{both_true, err_not_ok, err_ok, false_true, no_err, none_and_some, none_some, not_some, not_true, ok_equal, ok_same, some_none, some_same, take_self}
pub use Rattle.nb_host.specs.Causes.{CountsRun, FaultCount}
pub use Rattle.nb_host.specs.Crash.{Leaves, LeavesAll, Untouched}
unfoldable pub use Rattle.nb_host.specs.Files.{with_file}
pub use Rattle.nb_host.specs.Files.{File, Files, bytes_of}
pub use Rattle.nb_host.specs.Moments.{AtEachMoment, IsNow, IsTimely}
pub use Rattle.nb_host.specs.Names.{delta_suffix, is_delta, is_name, is_name_byte, same_name}
pub use Rattle.nb_host.specs.World.{World}
pub use Rattle.nb_host.specs.declared.faults.Fault.{Fault}
pub use Rattle.nb_host.specs.declared.faults.Fault.TheVariants.{Device, Memory, Refused}
pub use Rattle.nb_host.specs.declared.faults.RunError.{RunError}
pub use Rattle.nb_host.specs.declared.refusals.Refusal.{Refusal}
pub use Rattle.nb_host.specs.declared.refusals.Refusal.TheVariants.{BadDelta, BadLevel, BadScript, ChainGuid, ChainLevel, ChainScn, ChainSize, FileExists, NoFile, ScriptLong, Unfinished, Usage}
pub use Rattle.nb_inplace.specs.Verdict.{IsMergeable}
pub use Rattle.nb_level.proofs.ToldLaws.{level_told}
unfoldable pub use Rattle.nb_mem.specs.Histories.{guid_of}
pub use Rattle.nb_mem.specs.Histories.{Back, files_of, guids_behind, world_of}
pub use Rattle.nb_model.proofs.AccountLaws.{IsGrown, begun_grown, files_kept, files_none, stands_grown}
pub use Rattle.nb_model.proofs.FreeLaws.{stands_files, stands_free}
pub use Rattle.nb_model.proofs.FrontLaws.{owner_of_entry}
pub use Rattle.nb_model.proofs.GoingLaws.{begun_going, begun_making, name_short, own_in_use}
pub use Rattle.nb_model.proofs.GrownLaws.{new_unused, stands_along}
pub use Rattle.nb_model.proofs.GuidLaws.{front_new, guids_append, last_steps_new, seen_strokes, strokes_in_append, strokes_in_steps}
pub use Rattle.nb_model.proofs.MadeLaws.{IsInMaking, IsWholeFile, is_free, span_bytes, span_whole, stands_closed, stands_making, stands_those, those_kept, unfinished, whole, whole_among, with_those}
pub use Rattle.nb_model.proofs.MainLaws.{main_state, owner-formed, owner-refused, owner_main}
pub use Rattle.nb_model.proofs.MakingLaws.{free_play, level_used, made_once}
pub use Rattle.nb_model.proofs.OpenedLaws.{has_main, opened_trail, stands_with_well_in, stood_stands}
pub use Rattle.nb_model.proofs.OpeningLaws.{IsCreated, created, free_entry, not_created, opened_in_use, owner_applying, run_ends, run_on, with_kept}
pub use Rattle.nb_model.proofs.OutputLaws.{output-quiet, output_no_event, output_one, status_one}
pub use Rattle.nb_model.proofs.ReopenLaws.{IsReopened, not_reopened, reopened}
pub use Rattle.nb_model.proofs.RunLaws.{base_in_base, entry_same, play_is}
pub use Rattle.nb_model.proofs.StandsLaws.{delta_named, delta_same, entry_other, formed_header, no_main, opened_entry, stands_same}
pub use Rattle.nb_model.proofs.StatusLaws.{status_refused}
pub use Rattle.nb_model.proofs.SteadyLaws.{WellAlong, along_front, along_last, kept_along, kept_append, kept_is}
pub use Rattle.nb_model.proofs.StepsLaws.{acked_steps_most, acked_steps_none, after_no_step, after_steps_append, steps_append, steps_length, steps_one, steps_seen, turns_before}
pub use Rattle.nb_model.proofs.TrailLaws.{settled_shows, shows_settled}
pub use Rattle.nb_model.proofs.UsageCauses.{IsOther, none_other, other_database, other_first, other_when}
unfoldable pub use Rattle.nb_model.specs.Account.{with_entry}
pub use Rattle.nb_model.specs.Account.{Account, Base, Entry, IsBase, Kept, Missing, Plain, base_of}
unfoldable pub use Rattle.nb_model.specs.Causes.{first_cause, is_free_entry, not_database}
pub use Rattle.nb_model.specs.Causes.{Cause, not_free, when}
unfoldable pub use Rattle.nb_model.specs.Generated.{generated, said_by_generated}
pub use Rattle.nb_model.specs.Generated.{last_or_refusal}
pub use Rattle.nb_model.specs.Gifts.{Foretells, WasGiven}
pub use Rattle.nb_model.specs.Going.{IsGoing, IsMaking, IsNamed}
unfoldable pub use Rattle.nb_model.specs.Image.{image_in}
pub use Rattle.nb_model.specs.Image.{Image, Page, first_page, image_guid, image_scn, image_size, image_state}
unfoldable pub use Rattle.nb_model.specs.InPlace.{in_place, in_place_of, not_finishing, not_mergeable, not_next, not_standby, written_since}
pub use Rattle.nb_model.specs.InPlace.{other_pages}
unfoldable pub use Rattle.nb_model.specs.Jobs.{account_behind, all_sized, apply_turn, fixup_turn, not_fixable, restore_turn, turn_of}
pub use Rattle.nb_model.specs.Jobs.{IsAttaching, asks_of, asks_size, only_refusal, only_turn, quiet, refusal_in, sized}
unfoldable pub use Rattle.nb_model.specs.Levels.{begins_level, file_for, level_bytes, read_level, taken_from}
pub use Rattle.nb_model.specs.Levels.{AreRising, Contents, Head, changed, head_for, taken}
unfoldable pub use Rattle.nb_model.specs.Lines.{line_text}
pub use Rattle.nb_model.specs.Main.{HoldsMain}
unfoldable pub use Rattle.nb_model.specs.Making.{with_files}
pub use Rattle.nb_model.specs.Making.{AreAmong, IsNoBackup, IsNoneOf, IsOfKept, MadeFile, NamesOnce, under_way}
unfoldable pub use Rattle.nb_model.specs.NewGuids.{guids_in}
pub use Rattle.nb_model.specs.NewGuids.{AreNew, ComeOnce}
pub use Rattle.nb_model.specs.Outcomes.{Begins, Given}
unfoldable pub use Rattle.nb_model.specs.Output.{status_of, text_of}
pub use Rattle.nb_model.specs.Output.{output, status_after}
unfoldable pub use Rattle.nb_model.specs.Owner.{diverted_base, entry_of_files, not_opened, owner, owner_in, owner_with}
pub use Rattle.nb_model.specs.Owner.{delta_name, entry_in}
unfoldable pub use Rattle.nb_model.specs.Restoring.{applied, first_link, next_link, next_links, not_behind, not_whole, verdict}
pub use Rattle.nb_model.specs.Restoring.{Link, is_bad_length, level_link, linked, whole_link}
unfoldable pub use Rattle.nb_model.specs.Run.{account_after, done_opening, files_made, opening, play, replies_of, rounds, strokes_of, with_made}
pub use Rattle.nb_model.specs.Run.{AreFinished, Event, IsRest, IsRun, Now, Opening, Played, base_now, begun, opening_unless, refused_opening}
pub use Rattle.nb_model.specs.Sound.{HasHeader, IsSoundImage}
pub use Rattle.nb_model.specs.Stands.{Belongs, GoesOn, IsAncestor, IsKeptAs, IsLineTo, IsSameImage, IsSpan, Stands, nil, to_base, to_record}
unfoldable pub use Rattle.nb_model.specs.Steps.{acked_turns, after_step, after_steps, made, steps_of, strokes_in}
pub use Rattle.nb_model.specs.Steps.{Step, acked_steps, makes, settles, steps_in}
unfoldable pub use Rattle.nb_model.specs.Strokes.{base_after, base_in, fixed, merged, on_base, records_after, records_of}
pub use Rattle.nb_model.specs.Strokes.{Stroke, as_standby, fix, make, merge}
unfoldable pub use Rattle.nb_model.specs.Trail.{after_stroke, settles_at}
pub use Rattle.nb_model.specs.Trail.{ShowsIn, StandsIn, Trail, settled}
pub use Rattle.nb_model.specs.Well.{IsWell, IsWellBaseIn}
pub use Rattle.nb_model.specs.WellTrail.{AllGoOn, IsWellTrail}
unfoldable pub use Rattle.nb_model.specs.Words.{job_of, job_of_flags, job_read, number_in_word, read_words}
pub use Rattle.nb_model.specs.Words.{Word, apply_job, are_flags, ask_job, asks_change, asks_one, backup_job, count_in_word, fixup_job, fold_job, gen_job, is_database, is_file, job_if, job_of_three, named_job, plain_job, plan_job, restore_job, ship_job}
pub use Rattle.nb_model.specs.declared.job.Ask.{Ask}
pub use Rattle.nb_model.specs.declared.job.Ask.TheVariants.{Activate, Backup, BackupSince, Check, Lock, LockWithSize, Reclaim, Stat, Unlock}
pub use Rattle.nb_model.specs.declared.job.Deed.{Deed}
pub use Rattle.nb_model.specs.declared.job.Deed.TheVariants.{Apply, Fixup, Fold, Restore}
pub use Rattle.nb_model.specs.declared.job.Job.{Job}
pub use Rattle.nb_model.specs.declared.job.Job.TheVariants.{Attach, Gen, Run, Ship, Turn}
pub use Rattle.nb_model.specs.declared.reply.Reply.{Reply}
pub use Rattle.nb_model.specs.declared.reply.Reply.TheVariants.{Level, Opened, Pages, PagesShown, Planned}
pub use Rattle.nb_model.specs.declared.statement.Statement.{Statement}
pub use Rattle.nb_model.specs.declared.statement.Statement.TheVariants.{CopyTo, CreateDb, CreateTable, OpenDb}
pub use Rattle.nb_page.proofs.QuietLaws.{quiet_begun, quiet_joined}
unfoldable pub use Rattle.nb_page.specs.Free.{has_delta, is_free_name}
pub use Rattle.nb_page.specs.Quiet.{Quiet}
pub use Rattle.nb_restore.proofs.KeptLaws.{chain_kept, restored_well}
pub use Rattle.nb_restore.proofs.ParentLaws.{leads_on}
pub use Rattle.nb_script.proofs.AskedLaws.{answer_is_askable}
pub use Rattle.nb_script.specs.Asked.{IsAskable, IsFirst, IsFurther}
pub use Rattle.nb_script.specs.Fits.{FitsFirst, IsFile}
unfoldable pub use Rattle.nb_script.specs.Lines.{lines_of}
pub use Rattle.nb_script.specs.Lines.{left}
unfoldable pub use Rattle.nb_script.specs.Scripts.{of_lines, order_in, script_of, with_lines, with_order}
pub use Rattle.nb_script.specs.Scripts.{IsAnswer, Numbered, Plan, or_bad, started, with_statement}
pub use Rattle.nb_script.specs.Words.{Bytes, is_given}
pub use Rattle.nb_session.proofs.GiftLaws.{foretold_itself, given_joined, given_nothing, grows_joined, grows_none}
pub use Rattle.nb_session.proofs.HowFarLaws.{begun_none, open_front, open_one}
pub use Rattle.nb_session.proofs.NameLaws.{begun_asked, begun_plain, made_named}
pub use Rattle.nb_session.proofs.OthersLaws.{leaves_among, leaves_changes, leaves_line, leaves_quiet, leaves_then, now_left}
pub use Rattle.nb_session.proofs.ReadyLaws.{free_same, own_entry}
pub use Rattle.nb_session.proofs.SaysLaws.{says_other}
pub use Rattle.nb_session.proofs.StopLaws.{AreApart}
pub use Rattle.nb_session.proofs.ToldLaws.{status_unsaid}
pub use Rattle.nb_session.specs.Acts.{AreKept, MadeLeft, Touched}
unfoldable pub use Rattle.nb_session.specs.HowFar.{begun_turns, open_turns}
pub use Rattle.nb_session.specs.HowFar.{open_steps}
pub use Rattle.nb_session.specs.MadeNames.{AnyAsks, AnySessionAsks, Asks, ScriptMakes}
pub use Rattle.nb_session.specs.Others.{IsAdded, LeavesOthers, OthersLeft}
pub use Rattle.nb_session.specs.Ready.{IsReady}
pub use Rattle.nb_session.specs.Replies.{is_refusal, only_told}
pub use Rattle.nb_session.specs.Says.{FrontSaid, SaysLine}
pub use Rattle.nb_session.specs.Stops.{IsSaid, PlayedOut, Plays, StopLeft}
pub use Rattle.nb_state.proofs.ShownLaws.{shown, shown_settled}
pub use Rattle.nb_state.specs.Beginnings.{Attaches, CreateAnswers, Creates, IsAttached}
pub use Rattle.nb_state.specs.Open.{Held, IsOpen, NoPageWaits, name_of}
pub use Rattle.nb_top.specs.ByTurns.{AskedByTurns, EndsEarly, ending_by, ReadByTurns, RunByTurns, RunsOpened, ScriptByTurns, StillWhereOpened, TakesTold, TurnsFrom, WrittenByTurns}
pub use Rattle.nb_top.specs.Ends.{EndsAs}
pub use Rattle.nb_top.specs.Done.{EndsSo, IsDone}
pub use Rattle.nb_top.specs.Goes.{Goes}
pub use Rattle.nb_top.specs.OneTurn.{AreOfKept, DoesTurn, FileLeft, FitsDeed, HoldsSpan, IsAsWas, IsDoneFor, IsOnItsWay, OfName, OneTurn, Read, TakesFiles, TakesKept, TurnEnded, TurnLeft, TurnStands, Was, behind, fixing, folding, leaves_all, merging, one_turn, planning, restoring}
pub use Rattle.nb_top.specs.Performed.{EndsIn, Finished, GoesTo, HasSmallScn, HoldsUnder, IsEnded, IsFileRead, IsPerformed, IsReadRun, IsScriptRun, IsSure, IsUnasked, IsUnbegun, IsUndone, IsWrittenRun, Knows, KnowsAsked, KnowsNames, KnowsOpened, MayBeGiven, Performs, PerformsRun, PlaysOpened, PlaysTold, ReadsAsked, RunLeft, RunReads, RunStands, RunsTo, StandsAfter, StandsAsked, StandsWithin, Target, begins_refused, cache_asked, first_event, is_all, kept_after, only_opens, opened_reply, pages_first, played_behind, refused_at, refused_job, run_in, script_made, seen_after, target_asked, target_named, target_of, told, told_first, told_later, told_turns}
pub use Rattle.nb_top.specs.Requests.{Asked, Does, FitsAsk, FitsJob, IsAskedBy, IsReadJob, Request, Runs, Ships, ToGenerate, ToRun, attached, plan_of, request_asked, request_of, script_in, to_plan, to_run}
pub use Rattle.nb_top.specs.Served.{IsRefusedWith, IsServed, ServedAs, Serves, TurnsTo, reply_told, status_told}
pub use Rattle.nb_top.specs.Shown.{BreaksAt, IfShown, IsShownOf}
pub use Rattle.nb_top.specs.Standing.{HoldsKept, NextMayBegin, StandsFor}
pub use Rattle.nb_top.specs.Touched.{AsksToMake, MayTouch, OfAsked, OfShip, OfTarget, ReadMakes, SaysRefusal, TouchesOnly, ends_refused}
pub use Rattle.nb_top.specs.Worlds.{AreCopies, ArePlain, HaveNames, LeaveNames, NameNone, StartsFrom, account_of, empty, no_files}
pub use Rattle.nb_ended.specs.Numbers.{number_of}
pub use Rattle.nb_ended.specs.declared.status.Status.{Status}
pub use Rattle.nb_ended.specs.declared.status.Status.TheVariants.{Done}
pub use Rattle.nb_top.specs.declared.telling.Telling.{Telling}
pub use Rattle.nb_top.specs.declared.telling.Telling.TheVariants.{All, Quietly, Sparingly, WithSize}
pub use Rattle.std.proofs.lemmas.Bool.{and_from, and_parts, le-leb, le-ltb, leb-true, lt-ltb, true≢false}
pub use Rattle.std.proofs.lemmas.Bool.Decides.{eqb_tells, leb_tells}
pub use Rattle.std.proofs.lemmas.List.{append-nil, length-map, take-append-le, take-take, take_all}
pub use Rattle.std.proofs.lemmas.List.Elements.{Contains-append_left}
pub use Rattle.std.specs.List.{AllByRecursion, list_all}
pub use Rattle.std.specs.Result.{IsErr}
