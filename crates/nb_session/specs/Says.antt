-- A line is said.
use Rattle.std.specs.Prelude.{◌≡◌, ℕ, List, ◌++◌, take, Result, Err, OnOk}
use Rattle.nb_host.specs.Files.{Files}
use Rattle.nb_host.specs.World.{World}
use Rattle.nb_host.specs.Crash.{LeavesAll}
use Rattle.nb_host.specs.Calls.{IsStill}
use Rattle.nb_host.specs.Moments.{AtEachMoment}
use Rattle.nb_host.specs.declared.faults.Fault.{Fault}
use Rattle.nb_host.specs.declared.faults.Fault.TheVariants.{Refused, Device, Memory}
use Rattle.nb_host.specs.declared.faults.RunError.{RunError}
use Rattle.nb_host.specs.declared.faults.RunError.TheVariants.{Device as DeviceError, Memory as MemoryError}
use Rattle.nb_change.specs.Gave.{GaveNothing}
use Rattle.nb_model.specs.declared.reply.Reply.TheVariants.{Refused as RefusedBy}
use Rattle.nb_model.specs.Lines.{line_text}

-- A front of these bytes was said after what had been said, and a crash leaves what it would have left before.
pub record FrontSaid (old : World) (bytes : List ℕ) (files : Files) (said : List ℕ) : Type 0 where
  pub count : ℕ
  pub is : said ≡ old.said ++ take count bytes
  pub left : LeavesAll old files

-- Nothing changes but what was said: at each moment a front of the line, and all of it at Ok.
pub record SaysLine {T E : Type 0} (result : Result T E) (old new : World) (line : List ℕ) : Type 0 where
  pub still : IsStill old new
  pub moments : AtEachMoment old new (FrontSaid old line)
  pub said : OnOk result (new.said ≡ old.said ++ line)
  pub gave : GaveNothing old new

-- What ended a statement early: where it is a refusal its line is said, and a failure is handed on, and the host is the same then.
abbrev pub EndsEarly : {T : Type 0} → (session : ℕ) → Fault → Result T RunError → (old new : World) → (same : Type 0) → Type 0
EndsEarly session (Refused refusal) result old new same = SaysLine result old new (line_text session (RefusedBy refusal))
EndsEarly session Device result old new same = (result ≡ Err DeviceError) × same
EndsEarly session Memory result old new same = (result ≡ Err MemoryError) × same
