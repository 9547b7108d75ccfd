-- Calls on the one file that is made, after calls that change nothing.
use Rattle.std.proofs.Common.{◌≡◌, refl, inl, inr, ⊎_elim, ℕ, List, [], ap, subst, ◌∙◌, Bool, IsTrue, Result, Ok, Some, OnOk}
use Rattle.nb_gather.proofs.Common.{File, Files, World, IsDurable, Leaves, Remakes, Syncs, Passes, Changes, Only, Remade, rested, composed, remade_on, still_more, left_before, Quiet, IsKept, IsMade, with_file-named, Numbered, LevelWriting, HasTaken, IsBlank, blank_free, IsUnfinished}
use Rattle.nb_change.specs.Gave.{GaveNothing}
use Rattle.nb_change.proofs.ResultLaws.{on_ok_then}
use Rattle.nb_change.proofs.SettledLaws.{synced}

module _ (name : List ℕ) (made : File → Type 0) where
  -- calls that change nothing
  pub quiet_alone : (old new : World) → Quiet old new → Changes old new (Only name) (Remade old name made)
  quiet_alone old new quiet = rested old new (Only name) (Remade old name made) quiet.still quiet.said quiet.moments (λ files left. inl (left name))

  -- and before others
  pub quiet_then : (old mid new : World) → Quiet old mid → Changes mid new (Only name) (Remade mid name made) → Changes old new (Only name) (Remade old name made)
  quiet_then old mid new quiet second =
      composed old mid new (Only name) (Remade old name made) (Remade mid name made) (Remade old name made) (quiet_alone old mid quiet) second (λ files has. has)
      (λ files. ⊎_elim (λ left. inl (left_before old mid _ quiet.still.left name (files name) tt left)) inr)

  -- a sync leaves no more than stood before
  pub sync_then : {T E : Type 0} (tells : Bool) (result : Result T E) (old mid new : World) → Changes old mid (Only name) (Remade old name made) → Syncs tells result mid new name → new.said ≡ mid.said → Passes mid new → Changes old new (Only name) (Remade old name made)
  sync_then tells result old mid new so_far syncs silent time = still_more old mid new (Only name) (Remade old name made) so_far time syncs.still silent

-- calls that change nothing give nothing
pub quiet_gave : (old new : World) → Quiet old new → GaveNothing old new
quiet_gave old new quiet = record { guids = quiet.guids; times = quiet.times }

-- a file that was made
pub is_made : {T E : Type 0} (tells : Bool) (value : T) (old new : World) (name : List ℕ) → IsTrue tells → Remakes {E = E} tells (Ok value) old new name (Some []) → IsMade new name
is_made tells value old new name told makes = record { reads = with_file-named old.files new.files name (Some []) (makes.files told); only = makes.done }

-- and calls that change nothing keep it so
pub made_quiet : (old new : World) (name : List ℕ) → Quiet old new → IsMade old name → IsMade new name
made_quiet old new name quiet made = record { reads = ap (λ (f : Files). f name) quiet.still.files ∙ made.reads; only = λ c now. made.only c (quiet.still.left.now name c tt now) }

-- a sync keeps what reads
pub sync_kept : {T E : Type 0} (tells : Bool) (result : Result T E) (old new : World) (name bytes : List ℕ) → IsTrue tells → old.files name ≡ Some bytes → Syncs tells result old new name → OnOk result (IsKept new name bytes)
sync_kept tells result old new name bytes told reads syncs =
    let same : new.files name ≡ Some bytes = ap (λ (f : Files). f name) syncs.still.files ∙ reads in
    on_ok_then result (λ (durable : IsDurable new name (new.files name)). record { durable = subst (λ (f : File). IsDurable new name f) same durable; reads = same }) (synced tells result old new name told syncs)

-- the same name
pub renamed : (old new : World) (n m : List ℕ) (made : File → Type 0) → n ≡ m → Changes old new (Only n) (Remade old n made) → Changes old new (Only m) (Remade old m made)
renamed old new n m made same changes = subst (λ (x : List ℕ). Changes old new (Only x) (Remade old x made)) same changes

-- one run of calls on it after another
pub remade_twice : (old mid new : World) (name : List ℕ) (made : File → Type 0) → Leaves mid name (mid.files name) → Changes old mid (Only name) (Remade old name made) → Changes mid new (Only name) (Remade mid name made) → Changes old new (Only name) (Remade old name made)
remade_twice old mid new name made was first second =
    remade_on old mid new (Only name) (Remade old name made) (Remade old name made) name made (mid.files name) first second refl was (λ files has. has) (λ before files left has is done others. inr done)

-- and what was taken into a level file
pub taken_quiet : (old new : World) (file : LevelWriting) (rs : List Numbered) → Quiet old new → HasTaken old file rs → HasTaken new file rs
taken_quiet old new file rs quiet has = record {
  stands = record { reads = ap (λ (f : Files). f file.name) quiet.still.files ∙ has.stands.reads; torn = λ c now. has.stands.torn c (quiet.still.left.now file.name c tt now) };
  waits = has.waits;
  counted = has.counted;
}

-- an empty file has a free name
pub blank_empty : IsBlank (Some [])
blank_empty = refl

pub unfinished_empty : IsUnfinished (Some [])
unfinished_empty = inl (blank_free (Some []) blank_empty)
