-- What a run leaves alone, whatever stands in the files.
use Rattle.std.specs.Prelude.{◌≡◌, ◌⊎◌, ℕ, List, ◌++◌, Bool, true, false, Option, None, Some, Result, Ok, Err}
use Rattle.nb_host.specs.Files.{File, Files}
use Rattle.nb_host.specs.World.{World}
use Rattle.nb_host.specs.Crash.{Leaves}
use Rattle.nb_host.specs.Moments.{AtEachMoment}
use Rattle.nb_host.specs.declared.refusals.Refusal.{Refusal}
use Rattle.nb_change.specs.Changes.{Names, Other}
use Rattle.nb_model.specs.declared.reply.Reply.TheVariants.{Refused as RefusedReply}
use Rattle.nb_model.specs.Generated.{generated}
use Rattle.nb_model.specs.Lines.{line_text}
use Rattle.nb_base.specs.Open.{OfFiles}
use Rattle.nb_script.specs.Scripts.{Plan, script_of}
use Rattle.nb_session.specs.MadeNames.{ScriptMakes}
use Rattle.nb_session.specs.Others.{IsAdded, OthersLeft}
use Rattle.nb_ended.specs.declared.status.Status.{Status}
use Rattle.nb_ship.specs.Names.{ship_of}
use Rattle.nb_ended.specs.declared.status.Status.TheVariants.{Refused as RefusedStatus, Usage as UsageStatus}
use Rattle.nb_top.specs.Requests.{Request, ToRun, ToGenerate, Asked, Runs, Does, Ships}
use Rattle.nb_top.specs.OneTurn.{OfName, one_turn}
use Rattle.nb_top.specs.Performed.{Target, target_asked}

-- the two files of the database that is asked for
abbrev pub OfTarget : Option Target → Names
OfTarget None m = ⊥
OfTarget (Some target) m = OfFiles target.name m

-- the files that a script may make, where one was read
abbrev pub ReadMakes : Result Plan Refusal → Names
ReadMakes (Err refusal) m = ⊥
ReadMakes (Ok plan) m = ScriptMakes plan m

-- The files that are to be made: those of the backups and copies that statements ask for, and that of a script which is written first.
abbrev pub AsksToMake : Request → Names
AsksToMake (ToRun plan telling) m = ScriptMakes plan m
AsksToMake (ToGenerate number name) m = (m ≡ name) ⊎ ReadMakes (script_of (generated number)) m

-- all files that a run may touch
abbrev pub MayTouch : Result Request Refusal → Names
MayTouch (Err refusal) m = ⊥
MayTouch (Ok request) m = OfTarget (target_asked request) m ⊎ AsksToMake request m

-- the files that a ship may touch: the two of the primary, the standby, and the ship file
abbrev pub OfShip : (primary standby : List ℕ) → Names
OfShip primary standby m = OfFiles primary m ⊎ ((m ≡ standby) ⊎ (m ≡ ship_of standby))

-- All files that what is asked for may touch: those of a run, or the one of a job of one turn, if it has one, or those of a ship.
abbrev pub OfAsked : Files → Asked → Names
OfAsked files (Runs asked) m = MayTouch asked m
OfAsked files (Does deed) m = OfName (one_turn files deed).name m
OfAsked files (Ships primary standby) m = OfShip primary standby m

-- a run that ends so has refused something
abbrev pub ends_refused : Status → Bool
ends_refused RefusedStatus = true
ends_refused UsageStatus = true
ends_refused other = false

-- Among what was said is the line of a refusal.
pub record SaysRefusal (old new : World) : Type 0 where
  pub session : ℕ
  pub refusal : Refusal
  pub before : List ℕ
  pub behind : List ℕ
  pub is : new.said ≡ old.said ++ (before ++ (line_text session (RefusedReply refusal) ++ behind))

-- At each moment of a run, and after it, of every file but those of these names a crash leaves what it would have left before, and it reads as it did.
-- What was said stays said, and where the run ends as one that has refused something, a line said so.
pub record TouchesOnly (status : Status) (old new : World) (names : Names) : Type 0 where
  pub moments : AtEachMoment old new (OthersLeft old names)
  pub left : (m : List ℕ) (file : File) → Other names m → Leaves new m file → Leaves old m file
  pub reads : (m : List ℕ) → Other names m → new.files m ≡ old.files m
  pub added : IsAdded old new.said
  pub says : ends_refused status ≡ true → SaysRefusal old new
