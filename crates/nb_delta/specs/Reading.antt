-- What was read of a difference file, beside what its form says: the entries, or the page that breaks it.
use Rattle.std.specs.Prelude.{◌≡◌, ℕ, ◌+◌, ◌<◌, ◌≤◌, Bool, true, false, ◌||◌, nat_eq, nat_le, List, Result, Ok, Err}
use Rattle.std.specs.List.{list_any}
use Rattle.nb_fields.specs.Places.{most_pages}
use Rattle.nb_host.specs.declared.faults.Fault.{Fault}
use Rattle.nb_host.specs.declared.faults.Fault.TheVariants.{Refused, Device, Memory}
use Rattle.nb_host.specs.declared.refusals.Refusal.{Refusal}
use Rattle.nb_host.specs.declared.refusals.Refusal.TheVariants.{BadDelta}

-- the number of an entry is no page's, or that of a page named before
abbrev pub is_unfit : ℕ → List ℕ → Bool
is_unfit number found = nat_le most_pages number || list_any (nat_eq number) found

-- the refusal names the page that breaks the form
pub record NamesBroken (form : Result (List ℕ) ℕ) (refusal : Refusal) : Type 0 where
  pub page : ℕ
  pub broken : form ≡ Err page
  pub named : refusal ≡ BadDelta page

-- the answer is that of the form, but for faults of the device and want of memory
abbrev pub Reads : (form : Result (List ℕ) ℕ) → Result (Unit {0}) Fault → (entries : List ℕ) → Type 0
Reads form (Ok value) entries = form ≡ Ok entries
Reads form (Err (Refused refusal)) entries = NamesBroken form refusal
Reads form (Err Device) entries = Unit {0}
Reads form (Err Memory) entries = Unit {0}

-- so far the answer is that of the form, and `rest` is left of it
abbrev pub ReadsOn : (form : Result (List ℕ) ℕ) → Result (Unit {0}) Fault → (rest : Result (List ℕ) ℕ) → Type 0
ReadsOn form (Ok value) rest = form ≡ rest
ReadsOn form (Err (Refused refusal)) rest = NamesBroken form refusal
ReadsOn form (Err Device) rest = Unit {0}
ReadsOn form (Err Memory) rest = Unit {0}

-- a group was read: after a full one `rest` is left, and any other is the last
abbrev pub ReadsGroup : (form : Result (List ℕ) ℕ) → Result Bool Fault → (rest : Result (List ℕ) ℕ) → (entries : List ℕ) → Type 0
ReadsGroup form (Ok true) rest entries = form ≡ rest
ReadsGroup form (Ok false) rest entries = form ≡ Ok entries
ReadsGroup form (Err (Refused refusal)) rest entries = NamesBroken form refusal
ReadsGroup form (Err Device) rest entries = Unit {0}
ReadsGroup form (Err Memory) rest entries = Unit {0}

-- a full group has as many entries as there is room for, and any other fewer
abbrev pub Counts : Bool → (room before after : ℕ) → Type 0
Counts true room before after = (after ≡ before + room) × (after ≤ most_pages)
Counts false room before after = (before ≤ after) × (after < before + room)
