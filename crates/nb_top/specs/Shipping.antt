-- What a ship has to begin with: the first refusal, or the first step and the backup that its copy goes on from.
use Rattle.std.specs.Prelude.{◌≡◌, ℕ, List, Bool, true, false, ◌==◌, not, is_some, None, Some, Result, Ok, Err}
use Rattle.nb_fields.specs.States.{normal_state}
use Rattle.nb_host.specs.Files.{Files}
use Rattle.nb_host.specs.Names.{same_name}
use Rattle.nb_host.specs.World.{World}
use Rattle.nb_host.specs.declared.faults.Fault.{Fault}
use Rattle.nb_host.specs.declared.faults.Fault.TheVariants.{Refused, Device, Memory}
use Rattle.nb_host.specs.declared.refusals.Refusal.{Refusal}
use Rattle.nb_host.specs.declared.refusals.Refusal.TheVariants.{WrongState}
use Rattle.nb_model.specs.Account.{Base}
use Rattle.nb_model.specs.Causes.{Cause, broken_at, when}
use Rattle.nb_model.specs.Chains.{History, backup_spot, guid_in, pages_of}
use Rattle.nb_model.specs.Image.{Image, image_state}
use Rattle.nb_model.specs.Owner.{delta_name, owner}
use Rattle.nb_model.specs.Trail.{ShowsIn, settled}
use Rattle.nb_state.specs.Open.{Held, IsOpen}
use Rattle.nb_ship.specs.Looks.{look_at}
use Rattle.nb_ship.specs.Steps.{first_step, since}
use Rattle.nb_ship.specs.declared.found.Found.{Found}
use Rattle.nb_ship.specs.declared.found.Found.TheVariants.{Next}
use Rattle.nb_ship.specs.declared.found.Look.{Look}
use Rattle.nb_top.specs.declared.ship_plan.ShipPlan.{ShipPlan}

-- the history of the primary names the backup of that GUID
abbrev pub names_backup : Image → (guid : List ℕ) → Bool
names_backup image guid = is_some (backup_spot (λ slot. same_name (guid_in slot) guid) image)

-- it names the backup of the next increment, of which the other cases don't ask
abbrev pub is_known : Image → Found → Bool
is_known image (Next guid) = names_backup image guid
is_known image other = false

-- it is asked, and breaks its form
abbrev pub not_asked : Image → Found → Cause
not_asked image (Next guid) = broken_at (pages_of History image)
not_asked image other = None

-- the plan by what was found, and by whether that is known
abbrev pub plan_by : Look → (known : Bool) → ShipPlan
plan_by look known = record { first = first_step look.found known; since = since look.guid look.found known }

-- the plan after a look
abbrev pub after_look : (primary : Image) → Look → Result ShipPlan Refusal
after_look primary look = elim (not_asked primary look.found) [ Some refusal ↦ Err refusal | None ↦ Ok (plan_by look (is_known primary look.found)) ]

-- a primary that was opened isn't in the normal state
abbrev pub not_normal : Image → Cause
not_normal primary = when (not (image_state primary == normal_state)) (WrongState (image_state primary))

-- the plan of a primary that was opened, with what a look tells
abbrev pub plan_with : (primary : Image) → Result Look Refusal → Result ShipPlan Refusal
plan_with primary looked = elim (not_normal primary) [ Some refusal ↦ Err refusal | None ↦ elim looked [ Err refusal ↦ Err refusal | Ok look ↦ after_look primary look ] ]

-- The plan, or the first refusal: why the primary isn't opened, that it isn't in the normal state, why a look is refused, or that its history breaks the
-- form, where the ship file is the next one.
unfoldable pub ship_plan : Files → (primary standby : List ℕ) → Result ShipPlan Refusal
ship_plan files primary standby = elim (owner primary (files primary) (files (delta_name primary))) [ Err refusal ↦ Err refusal | Ok b ↦ plan_with b.image (look_at files standby) ]

-- The primary is open, as the files show it, and in the normal state.
pub record IsOpenNormal (files : Files) (primary : List ℕ) (w : World) (held : Held) : Type 0 where
  pub base : Base
  pub shows : ShowsIn primary base files
  pub normal : not_normal base.image ≡ None
  pub opened : IsOpen w held (settled base)

-- it is opened so, or a ship is refused for it, whatever the standby
abbrev pub OpensNormal : Result Held Fault → (files : Files) (primary : List ℕ) (w : World) → Type 0
OpensNormal (Ok held) files primary w = IsOpenNormal files primary w held
OpensNormal (Err (Refused refusal)) files primary w = (standby : List ℕ) → ship_plan files primary standby ≡ Err refusal
OpensNormal (Err Device) files primary w = Unit {0}
OpensNormal (Err Memory) files primary w = Unit {0}
