-- The definitions that the proofs of this crate speak in, and the laws of other crates that they cite, passed on from one place. Declares nothing.
pub use Rattle.nb_base.specs.Open.{Agrees, OfFiles}
pub use Rattle.nb_base.specs.Takes.{IsNoRefusal, Strikes, Takes, after_strokes}
pub use Rattle.nb_change.proofs.ChangesLaws.{left_with, rested, weakened}
pub use Rattle.nb_change.proofs.MomentLaws.{goes_on, left_before, untouched_begun, untouched_fewer, untouched_joined, weaker}
pub use Rattle.nb_change.proofs.NameLaws.{decide, with_file-same}
pub use Rattle.nb_change.proofs.ReachedLaws.{reached_by, reached_first}
pub use Rattle.nb_change.specs.Changes.{Changes, Names, Only, Reached, Remade}
pub use Rattle.nb_change.specs.Gave.{GaveNothing}
pub use Rattle.nb_copy.proofs.InUseLaws.{not_free}
pub use Rattle.nb_copy.specs.Copying.{Copying, IsBegun, IsCopying}
pub use Rattle.nb_copy.specs.FileCopies.{CopiesFile, IsCopyStarted, IsCopyingTo, KnowsUnused, StartsCopy}
pub use Rattle.nb_copy.specs.FileCopying.{IsFileCopying, file_count, file_name, file_next, file_written, whole_file}
pub use Rattle.nb_copy.specs.Starting.{Backed, IsBackingUp, IsStarted, KnowsFree, OfStart, StartLeft, StartMakes, StartsBackup}
pub use Rattle.nb_engine.specs.Replies.{done, page_made, scn_is, valued}
pub use Rattle.nb_engine.specs.Turns.{DoesBegin, DoesEnd, SaysNone}
unfoldable pub use Rattle.nb_fields.specs.Free.{is_free_file}
pub use Rattle.nb_fields.specs.States.{normal_state, stalled_state}
pub use Rattle.nb_gather.proofs.QuietLaws.{blank_empty}
pub use Rattle.nb_gather.specs.Making.{IsEmpty, IsKept, IsUnfinishedOr}
pub use Rattle.nb_host.proofs.PlainLaws.{all_append, all_front, both_true, false_true, no_err, none_some, not_true, or_assoc, or_false, some_none, take_self}
pub use Rattle.nb_host.specs.Calls.{IsStill}
pub use Rattle.nb_host.specs.Causes.{CountsDevice, CountsRun, FaultCount}
pub use Rattle.nb_host.specs.Crash.{IsDurable, Leaves, LeavesAll, Untouched}
unfoldable pub use Rattle.nb_host.specs.Files.{with_file}
pub use Rattle.nb_host.specs.Files.{File, Files}
pub use Rattle.nb_host.specs.Moments.{AtEachMoment, IsTimely, IsWhileSaying, PassesSaying}
pub use Rattle.nb_host.specs.Names.{is_delta}
pub use Rattle.nb_host.specs.World.{World}
pub use Rattle.nb_host.specs.declared.faults.Fault.{Fault}
pub use Rattle.nb_host.specs.declared.faults.Fault.TheVariants.{Device, Memory, Refused}
pub use Rattle.nb_host.specs.declared.faults.HostFault.{HostFault}
pub use Rattle.nb_host.specs.declared.faults.RunError.{RunError}
pub use Rattle.nb_host.specs.declared.refusals.Refusal.{Refusal}
pub use Rattle.nb_model.proofs.GoingLaws.{IsUndisturbed, making_play, making_turn, one_cases, one_runs, other_todo, others_stay, own_in_use, own_todo}
pub use Rattle.nb_model.proofs.MakingLaws.{beginnings_make, event_makes, finished_none, free_play, free_turn, made_among, made_append, made_once, made_used, names_once, one_held, played_used, turn_makes, under_among, under_play}
pub use Rattle.nb_model.proofs.OutputLaws.{front_behind, front_more, output-quiet, output_append, output_no_event, output_one, status_events, status_no_event, status_one, strokes_one}
pub use Rattle.nb_model.proofs.RunLaws.{base_in_base, entry_same, play-append, strokes_of-append, turn_stands}
pub use Rattle.nb_model.proofs.StandsLaws.{delta_named, delta_same, entry_other, no_main}
pub use Rattle.nb_model.proofs.StatusLaws.{status_or, status_plain}
pub use Rattle.nb_model.proofs.StepsLaws.{acked_steps_behind, acked_steps_front, acked_steps_most, acked_steps_none, after_no_step, after_settling, after_steps_append, steps_append, steps_behind, steps_front, steps_length, steps_none, steps_one, steps_plain, steps_seen, strokes_front, strokes_within, turns_before, turns_behind, turns_front, turns_most}
pub use Rattle.nb_model.proofs.TodoLaws.{IsSingle, begin_single, one_turn_idle}
pub use Rattle.nb_model.proofs.TurnCases.{IsFrom, IsOnce, MayStart, activate_either, backup_either, begin_either, copy_either, end_either, left_by, left_guids, pages_once, refused, since_either, started, statement_cases, turn_holds}
pub use Rattle.nb_model.specs.Account.{Ask, Base, IsBase, Plain}
unfoldable pub use Rattle.nb_model.specs.Backups.{close_backup, close_copy, copy_turn, room_in}
pub use Rattle.nb_model.specs.Backups.{Room}
unfoldable pub use Rattle.nb_model.specs.Causes.{first_cause, is_free_entry}
pub use Rattle.nb_model.specs.Causes.{Cause, runs_other, when}
pub use Rattle.nb_model.specs.Forms.{HasItsEntry}
pub use Rattle.nb_model.specs.Gifts.{Foretells, WasGiven}
pub use Rattle.nb_model.specs.Going.{AreBeginnings, AreMerging, IsAt, IsBeginning, IsGoing, IsMaking, IsNamed, Runs, backs_up, copies, ends, merges, waits}
pub use Rattle.nb_model.specs.Image.{Image, image_guid, image_scn, image_size, image_state, is_forced, is_read_only}
unfoldable pub use Rattle.nb_model.specs.Levels.{count_in, file_of}
pub use Rattle.nb_model.specs.Levels.{joined}
unfoldable pub use Rattle.nb_model.specs.Lines.{line_text}
pub use Rattle.nb_model.specs.Lines.{flag}
unfoldable pub use Rattle.nb_model.specs.Making.{making, making_all}
pub use Rattle.nb_model.specs.Making.{AreAmong, IsNoneOf, MadeFile, NamesOnce, kept_of, making_by, under_way}
unfoldable pub use Rattle.nb_model.specs.Outcomes.{unless}
pub use Rattle.nb_model.specs.Outcomes.{Backing, Begins, ClosesBackup, ClosesCopy, Copies, DoesNothing, Ends, Finishes, Given, Merges, Outcome, Seen, Turn, next_guid, next_hold, next_time, passes, says, without_guid, without_hold, without_time}
unfoldable pub use Rattle.nb_model.specs.Output.{status_of}
pub use Rattle.nb_model.specs.Output.{output, status_after}
pub use Rattle.nb_model.specs.Owner.{delta_name}
unfoldable pub use Rattle.nb_model.specs.Pages.{activate_turn, activated, begin_turn, cache_turn, delta_count, end_scn, end_strokes, end_turn, ends_by, header_turn, write_turn}
unfoldable pub use Rattle.nb_model.specs.Run.{account_after, files_made, one_turn, outcome, play, replies_of, rounds, stands_then, strokes_of, take_turn, with_made}
pub use Rattle.nb_model.specs.Run.{AreFinished, Event, Now, Played, all_sessions, base_now, begun, event_of, is_sync}
unfoldable pub use Rattle.nb_model.specs.Steps.{acked_turns, after_step, after_steps, made, steps_of}
pub use Rattle.nb_model.specs.Steps.{Step, acked_steps, settles, steps_in}
unfoldable pub use Rattle.nb_model.specs.Strokes.{base_after, base_in, on_base}
pub use Rattle.nb_model.specs.Strokes.{Stroke, begin, finish, page}
unfoldable pub use Rattle.nb_model.specs.Trail.{after_stroke}
pub use Rattle.nb_model.specs.Trail.{StandsIn, Trail, settled}
unfoldable pub use Rattle.nb_model.specs.Turns.{first_turn, turn}
pub use Rattle.nb_model.specs.declared.reply.Reply.{Reply}
pub use Rattle.nb_model.specs.declared.reply.Reply.TheVariants.{Activated, CacheShown, Done, Freed, HeaderShown, ImageShown, Leaked, Level, PageMade, Pages, PagesShown, Rows, Scn, Value}
pub use Rattle.nb_model.specs.declared.statement.Statement.{Statement}
pub use Rattle.nb_model.specs.declared.statement.Statement.TheVariants.{Activate, BackupSince, BeginBackup, CopyTo, EndBackup, ShowCache, Sync}
pub use Rattle.nb_page.proofs.BlankLaws.{blank_free}
pub use Rattle.nb_page.proofs.QuietLaws.{quiet_begun}
unfoldable pub use Rattle.nb_page.specs.Free.{has_delta, is_free_name}
pub use Rattle.nb_page.specs.Quiet.{Quiet}
pub use Rattle.nb_sched.specs.Turns.{AllDone, EndsWith, FailsBehind, IsDone, Kind, Moves, Rests, Scene, TakesTurns, agent_of, kind, scene}
pub use Rattle.nb_script.specs.Asked.{IsAskable, IsFurther}
pub use Rattle.nb_script.specs.Fits.{FitsAsked, IsFile, IsSession}
pub use Rattle.nb_script.specs.Scripts.{Plan}
pub use Rattle.nb_session.specs.Acts.{Acts, AreKept, AreSixteen, AreWhole, Grows, MadeLeft, MayAct, Says, Touched, TurnLeft, shown_by}
pub use Rattle.nb_session.specs.Askers.{Asker, HasTodo, IsBackup, IsEnd, IsFit, IsMerging, IsOneTurn, KeepsOthers, TaskFits, any_refused, copy_first, copy_rest, file_asked, first_askers, fresh_asker, left_of, left_refused, left_task, merge_first, merge_rest, task_first, task_left, task_rest, task_todo, todo_of}
unfoldable pub use Rattle.nb_session.specs.HowFar.{begun_turns, open_turns}
pub use Rattle.nb_session.specs.HowFar.{open_steps}
pub use Rattle.nb_session.specs.InTurn.{EndsBy, HasNone, InTurn, RunsInTurn, TakesOne}
pub use Rattle.nb_session.specs.Others.{IsAdded, LeavesOthers, OthersLeft}
pub use Rattle.nb_session.specs.Ready.{IsApart, IsReady, TaskGoes}
pub use Rattle.nb_session.specs.Replies.{HasEnded, Replies, end_reply, header_of, is_refusal, only_told, some_said}
pub use Rattle.nb_session.specs.Says.{EndsEarly, FrontSaid, SaysLine}
pub use Rattle.nb_session.specs.Steps.{GoesFurther, IsBehind, Steps, TakesNext, Turns, as_played, begun_first, begun_in, left_making, shown_first, shown_next, touching, touching_by}
pub use Rattle.nb_session.specs.Stops.{IsSaid, PlayedOut, Plays, StopLeft}
pub use Rattle.nb_session.specs.Todo.{PlaysInTurn}
pub use Rattle.nb_session.specs.Told.{told_events, told_line, told_reply, told_status, told_turns}
pub use Rattle.nb_session.specs.declared.task.Left.{Left}
pub use Rattle.nb_session.specs.declared.task.Left.TheVariants.{Other, Same}
pub use Rattle.nb_session.specs.declared.task.Taken.{Taken}
pub use Rattle.nb_session.specs.declared.task.Task.{Task}
pub use Rattle.nb_session.specs.declared.task.Task.TheVariants.{Backup, Copy, End, Merge}
pub use Rattle.nb_session.specs.declared.told.Told.{Told}
pub use Rattle.nb_state.proofs.MakesLaws.{after_base, gave_none, makes_none, none_yet, open_quiet, open_running, still_open, where_ended}
pub use Rattle.nb_state.specs.Does.{Answers, Does, Goes, WhereEnded, has_only_told}
pub use Rattle.nb_state.specs.Open.{AgreesWith, Held, IsOpen, but_pages, name_of}
pub use Rattle.nb_state.specs.Turns.{GaveAtMost, GoesOn}
pub use Rattle.nb_state.specs.declared.turns.Progress.{Progress}
pub use Rattle.nb_state.specs.declared.turns.Progress.TheVariants.{Finished, More}
pub use Rattle.std.proofs.Math.ListN.{get_or-map}
pub use Rattle.std.proofs.Math.Seq.{take-append-add}
pub use Rattle.std.proofs.lemmas.Bool.{and_parts, cases_lt, ne_eqb, true≢false}
pub use Rattle.std.proofs.lemmas.Bool.Decides.{eqb_tells}
pub use Rattle.std.proofs.lemmas.List.{append-nil, append_cancel_left, append_cancel_right, drop_more, get_or_past, length-map, take-append-le, take_all, take_more}
pub use Rattle.std.proofs.lemmas.List.Elements.{Contains-append_cases, Contains-append_left, Contains-append_right}
pub use Rattle.std.proofs.lemmas.Result.{IfOk-from_err}
pub use Rattle.std.specs.List.{AllByRecursion, list_all, range_with_len, slice_index_or}
