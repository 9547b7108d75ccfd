-- What each thing that a look finds says of the files, and each first step.
use Rattle.std.specs.Prelude.{◌≡◌, ◌≢◌, ◌⊎◌, ℕ, List, Some, None, Ok, Err, Bool, true, false}
use Rattle.nb_fields.specs.Header.{state_of, guid_of, pending_of}
use Rattle.nb_fields.specs.States.{normal_state, applying_state}
use Rattle.nb_host.specs.Files.{Files}
use Rattle.nb_model.specs.Causes.{not_database}
use Rattle.nb_model.specs.Image.{image_in, is_read_only}
use Rattle.nb_model.specs.Levels.{Contents}
use Rattle.nb_page.specs.Free.{is_free_name, has_delta}
use Rattle.nb_ship.specs.Looks.{is_foreign, read_in}
use Rattle.nb_ship.specs.Names.{ship_of}
use Rattle.nb_ship.specs.declared.found.Found.{Found}
use Rattle.nb_ship.specs.declared.found.Found.TheVariants.{Nothing, Broken, Applied, Next, Pending}
use Rattle.nb_ship.specs.declared.steps.Step.{Step}
use Rattle.nb_ship.specs.declared.steps.Step.TheVariants.{Copy, Apply, Discard}

-- the standby is a database of these bytes, in that state
pub record IsIn (files : Files) (standby bytes : List ℕ) (state : ℕ) : Type 0 where
  pub there : files standby ≡ Some bytes
  pub formed : not_database bytes ≡ None
  pub is : state_of bytes ≡ state

-- it is in the normal state, and no statement may change a page of it
pub record IsReady (files : Files) (standby bytes : List ℕ) : Type 0 where
  pub normal : IsIn files standby bytes normal_state
  pub read_only : is_read_only (image_in bytes) ≡ true

-- the file of that name is a level file, with no difference file beside it
pub record HoldsLevel (files : Files) (name : List ℕ) (c : Contents) : Type 0 where
  pub read : read_in files name ≡ Ok c
  pub alone : has_delta files name ≡ false

-- It is no level file, but one that a copy may have left which was stopped: its name isn't free, and it isn't foreign.
pub record HoldsNone (files : Files) (name : List ℕ) : Type 0 where
  pub at : ℕ
  pub read : read_in files name ≡ Err at
  pub used : is_free_name files name ≡ false
  pub own : is_foreign files name ≡ false

-- the level of the backup that the standby has
pub record HoldsApplied (files : Files) (standby bytes : List ℕ) : Type 0 where
  pub contents : Contents
  pub level : HoldsLevel files (ship_of standby) contents
  pub has : contents.head.guid ≡ guid_of bytes

-- one that goes on from it, of that GUID
pub record HoldsNext (files : Files) (standby bytes guid : List ℕ) : Type 0 where
  pub contents : Contents
  pub level : HoldsLevel files (ship_of standby) contents
  pub named : contents.head.guid ≡ guid
  pub goes_on : contents.head.previous ≡ guid_of bytes
  pub new : guid ≢ guid_of bytes

-- the one whose merge was begun, whatever stands beside it
pub record HoldsPending (files : Files) (standby bytes guid : List ℕ) : Type 0 where
  pub contents : Contents
  pub read : read_in files (ship_of standby) ≡ Ok contents
  pub named : contents.head.guid ≡ guid
  pub goes_on : contents.head.previous ≡ guid_of bytes
  pub pending : pending_of bytes ≡ guid

-- so that is found of a standby of these bytes
abbrev pub Finds : Files → (standby bytes : List ℕ) → Found → Type 0
Finds files standby bytes Nothing = IsReady files standby bytes × (is_free_name files (ship_of standby) ≡ true)
Finds files standby bytes Broken = IsReady files standby bytes × HoldsNone files (ship_of standby)
Finds files standby bytes Applied = IsReady files standby bytes × HoldsApplied files standby bytes
Finds files standby bytes (Next guid) = IsReady files standby bytes × HoldsNext files standby bytes guid
Finds files standby bytes (Pending guid) = IsIn files standby bytes applying_state × HoldsPending files standby bytes guid

-- ---- the steps

-- The ship file goes on from the standby, and its merge was begun, or its backup is one that the primary's history names.
pub record IsToMerge (files : Files) (standby bytes : List ℕ) (known : Bool) : Type 0 where
  pub contents : Contents
  pub read : read_in files (ship_of standby) ≡ Ok contents
  pub goes_on : contents.head.previous ≡ guid_of bytes
  pub why : ((state_of bytes ≡ applying_state) × (pending_of bytes ≡ contents.head.guid)) ⊎ (IsReady files standby bytes × (known ≡ true))

-- It is of no use: it is no level file, or it was merged, or its backup is none that the history names.
abbrev pub IsOfNoUse : Files → (standby bytes : List ℕ) → (known : Bool) → Type 0
IsOfNoUse files standby bytes known =
    HoldsNone files (ship_of standby) ⊎ (HoldsApplied files standby bytes ⊎ ((guid : List ℕ) × HoldsNext files standby bytes guid × (known ≡ false)))

-- What each step is for: a copy is made where its file's name is free, a ship file is merged that goes on, and one that is of no use is removed,
-- while no merge of it is begun.
abbrev pub IsFor : Files → (standby bytes : List ℕ) → (known : Bool) → Step → Type 0
IsFor files standby bytes known Copy = IsReady files standby bytes × (is_free_name files (ship_of standby) ≡ true)
IsFor files standby bytes known Apply = IsToMerge files standby bytes known
IsFor files standby bytes known Discard = IsReady files standby bytes × IsOfNoUse files standby bytes known
