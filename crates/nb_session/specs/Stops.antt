-- What a crash leaves while turns are taken, and what they did.
use Rattle.std.specs.Prelude.{◌≡◌, ◌⊎◌, ℕ, ◌≤◌, List, [], ◌++◌, length, take, Bool, true, Result, IfOk, Contains, if◌then◌else◌}
use Rattle.std.specs.List.{list_all}
use Rattle.nb_host.specs.Files.{File, Files}
use Rattle.nb_host.specs.World.{World}
use Rattle.nb_host.specs.Crash.{Leaves, Untouched}
use Rattle.nb_host.specs.Moments.{AtEachMoment}
use Rattle.nb_host.specs.declared.faults.RunError.{RunError}
use Rattle.nb_change.specs.Changes.{Other}
use Rattle.nb_model.specs.Gifts.{WasGiven}
use Rattle.nb_model.specs.Making.{MadeFile}
use Rattle.nb_model.specs.Run.{Event, Now, Played, files_made, replies_of}
use Rattle.nb_model.specs.Output.{output, status_of}
use Rattle.nb_model.specs.Steps.{steps_of, after_steps, acked_steps, acked_turns}
use Rattle.nb_model.specs.Trail.{Trail, StandsIn}
use Rattle.nb_base.specs.Open.{OfFiles}
use Rattle.nb_state.specs.Open.{Held, name_of}
use Rattle.nb_gather.specs.Making.{IsUnfinishedOr}
use Rattle.nb_session.specs.Acts.{Touched, MadeLeft, AreKept, AreWhole}
use Rattle.nb_session.specs.HowFar.{begun_turns, open_steps}
use Rattle.nb_session.specs.Replies.{only_told}
use Rattle.nb_session.specs.Ready.{IsReady}

-- What was said since `old` is a front of the lines of these events.
pub record IsSaid (old : World) (events : List Event) (said : List ℕ) : Type 0 where
  pub part : List ℕ
  pub is : said ≡ old.said ++ part
  pub front : part ≡ take (length part) (output events)

-- So many steps of these events, each acknowledged one among them, and none past the first turn that has a line of which a byte wasn't said.
pub record IsFront (events : List Event) (said count : ℕ) : Type 0 where
  pub most : count ≤ length (steps_of events)
  pub acknowledged : acked_steps events said ≤ count
  pub unsaid : count ≤ open_steps events said

-- While these events happen to a database that is open, and these files are made: a front of their lines was said, and the files hold what
-- may be left of what was seen after so many of their steps, each acknowledged one among them, and none past the first turn whose line wasn't
-- said whole. A file that is made is as it was, unfinished or whole, and whole once its turn is acknowledged, or a step of that turn or of a
-- later one stands. Other files are as a crash would have left them before.
pub record StopLeft (old : World) (name : List ℕ) (t : Trail) (events : List Event) (made : List MadeFile) (files : Files) (said : List ℕ) : Type 0 where
  pub out : IsSaid old events said
  pub count : ℕ
  pub front : IsFront events (length out.part) count
  pub database : StandsIn name (after_steps t (take count (steps_of events))) files
  pub each : MadeLeft old made files
  pub whole : AreWhole (files_made (take (acked_turns events (length out.part)) events)) files
  pub begun : AreWhole (files_made (take (begun_turns events count) events)) files
  pub others : (m : List ℕ) → Other (Touched name made) m → Leaves old m (files m)

-- Turns were taken to their end: the database is open as they leave it, all their lines were said, whether one was refused, what was given is
-- what they ask for, and the files that they made whole are kept for good.
pub record PlayedOut (refused : Bool) (old new : World) (held : Held) (t : Trail) (now : Now) (played : Played) : Type 0 where
  pub ready : IsReady new held (after_steps t (steps_of played.0)) played.1
  pub said : new.said ≡ old.said ++ output played.0
  pub status : status_of (replies_of played.0) ≡ (if refused then 1 else 0)
  pub given : WasGiven old new now.given played.1.given
  pub kept : AreKept new (files_made played.0)

-- Turns were taken, or some of them until a call of the host failed or memory ran out, and these files were made. None of them is one of the
-- database's two. Where each turn was only to tell something, from a settled point on, no file has changed, however they ended.
pub record Plays (result : Result Bool RunError) (old new : World) (before after : Held) (t : Trail) (now : Now) (played : Played) (made : List MadeFile) : Type 0 where
  pub stops : AtEachMoment old new (StopLeft old (name_of before) t played.0 made)
  pub left : (name bytes : List ℕ) (file : File) → Contains made (name, bytes) → Leaves new name file → Leaves old name file ⊎ IsUnfinishedOr bytes file
  pub apart : (name bytes : List ℕ) → Contains made (name, bytes) → OfFiles (name_of before) name → ⊥
  pub others : Untouched old new (Other (Touched (name_of before) made))
  pub others_read : (m : List ℕ) → Other (Touched (name_of before) made) m → new.files m ≡ old.files m
  pub unchanged : t.earlier ≡ [] → list_all only_told played.0 ≡ true → new.files ≡ old.files
  pub name : name_of after ≡ name_of before
  pub done : IfOk result (λ refused. PlayedOut refused old new after t now played)
