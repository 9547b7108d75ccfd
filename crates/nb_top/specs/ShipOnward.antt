-- Where a further ship goes on: what the primary, the standby and the ship file have to be.
use Rattle.std.specs.Prelude.{◌≡◌, ℕ, ◌+◌, ◌≤◌, List, true, false, None, Ok}
use Rattle.std.specs.List.{AllByRecursion}
use Rattle.nb_fields.specs.Header.{guid_of, scn_of, size_of, state_of}
use Rattle.nb_fields.specs.Page.{stamp_of}
use Rattle.nb_fields.specs.States.{applying_state}
use Rattle.nb_host.specs.Files.{Files}
use Rattle.nb_inplace.specs.Verdict.{IsMergeable}
use Rattle.nb_model.specs.Account.{Account, Base, Kept}
use Rattle.nb_model.specs.Backups.{room_in}
use Rattle.nb_model.specs.Causes.{not_of_form, short_for}
use Rattle.nb_model.specs.Chains.{History, free_spot, spots}
use Rattle.nb_model.specs.Image.{Image, image_scn, image_in, image_size, is_forced, is_read_only}
use Rattle.nb_model.specs.InPlace.{in_place, other_pages}
use Rattle.nb_model.specs.Levels.{Contents}
use Rattle.nb_model.specs.Rows.{IsNeat}
use Rattle.nb_model.specs.Stands.{IsKeptAs, Stands}
use Rattle.nb_model.specs.Trail.{ShowsIn}
use Rattle.nb_ship.specs.Finds.{Finds, IsReady}
use Rattle.nb_ship.specs.Names.{ship_of}
use Rattle.nb_ship.specs.declared.found.Found.{Found}
use Rattle.nb_ship.specs.declared.steps.Step.TheVariants.{Apply}
use Rattle.nb_top.specs.declared.ship_plan.ShipPlan.{ShipPlan}
use Rattle.nb_top.specs.Shipping.{names_backup, ship_plan}

-- The standby rests on this kept backup: it is in the normal state and read-only, names the backup, and has the pages that its begin kept, but for page 0. None
-- of them was stamped since.
pub record RestsOn (files : Files) (kept : List Kept) (standby bytes : List ℕ) (r : Kept) : Type 0 where
  pub ready : IsReady files standby bytes
  pub kept_as : IsKeptAs kept (guid_of bytes) r
  pub size : size_of bytes ≡ image_size r.image
  pub scn : scn_of bytes ≡ r.scn + 1
  pub pages : other_pages (image_in bytes) ≡ other_pages r.image
  pub unwritten : AllByRecursion (λ page. stamp_of page ≤ r.scn) (other_pages r.image)

-- The standby rests on a kept backup that the history of the primary names, and the ship file is one that a look doesn't refuse; or a merge of the ship file
-- into it was begun, whose backup the history names.
pub data WaitsForMore (files : Files) (kept : List Kept) (primary : Image) (standby : List ℕ) : Type 0 where
  rests : (bytes : List ℕ) (r : Kept) → RestsOn files kept standby bytes r → names_backup primary (guid_of bytes) ≡ true → (found : Found) → Finds files standby bytes found → WaitsForMore files kept primary standby
  is_begun : (half : List ℕ) (c : Contents) → IsMergeable files standby (ship_of standby) half c → state_of half ≡ applying_state → names_backup primary c.head.guid ≡ true → WaitsForMore files kept primary standby

-- A further ship goes on from these files: they stand for the account, the primary can be opened, is read-write with forced writes on, and neat, and the
-- standby waits for more.
pub record CanShip (files : Files) (account : Account) (primary standby : List ℕ) : Type 0 where
  pub stands : Stands files account
  pub base : Base
  pub shows : ShowsIn primary base files
  pub writable : is_read_only base.image ≡ false
  pub forced : is_forced base.image ≡ true
  pub neat : IsNeat base.image
  pub waits : WaitsForMore files account.kept base.image standby

-- What a ship begins with there: a plan, and no refusal. Its copy goes on from a backup that the history of the primary names, and a merge that comes first is
-- accepted.
pub record BeginsWell (files : Files) (primary standby : List ℕ) (image : Image) : Type 0 where
  pub plan : ShipPlan
  pub is : ship_plan files primary standby ≡ Ok plan
  pub named : names_backup image plan.since ≡ true
  pub accepts : plan.first ≡ Apply → (c : Contents) × (in_place files standby (ship_of standby) ≡ Ok c)

-- SCNs and pages aren't used up for one backup more: there are two SCNs, and a place for its row in the history, or a page for one.
pub record HasRoomFor (image : Image) : Type 0 where
  pub scn : image_scn image ≤ 4294967293
  pub long : short_for (free_spot (spots History image)) image ≡ None
  pub formed : not_of_form (room_in image).draft ≡ None
  pub left : (room_in image).draft.full ≡ false
