-- What stands now: what a crash leaves after a sync, and what reads.
use Rattle.std.proofs.Common.{◌≡◌, ⊎_elim, ℕ, Bool, List, sym, subst, Result, OnOk, IsTrue}
use Rattle.nb_change.proofs.Common.{File, Files, World, Leaves, IsDurable, IsStill, Syncs, Names, Changes}
use Rattle.nb_change.proofs.ResultLaws.{on_ok_then}

-- a crash leaves of a durable file that file alone
pub durable_is : (w : World) (name : List ℕ) (file : File) → IsDurable w name file → (c : File) → Leaves w name c → c ≡ file
durable_is w name file durable c left = ⊎_elim (durable.none_back c) (durable.only c) left

-- a durable file stays durable where a crash gains no outcome
pub durable_still : (old new : World) (name : List ℕ) (file : File) → IsStill old new → IsDurable old name file → IsDurable new name file
durable_still old new name file still durable = record {
  none_back = λ c is. durable.none_back c (still.left.back name c tt is);
  only = λ c is. durable.only c (still.left.now name c tt is);
}

-- and where another file alone was touched
pub durable_other : (old new : World) (names : Names) (P : Files → Type 0) (name : List ℕ) (file : File) → Changes old new names P → (names name → ⊥) → IsDurable old name file → IsDurable new name file
durable_other old new names P name file is other durable = record {
  none_back = λ c b. durable.none_back c (is.others.back name c other b);
  only = λ c n. durable.only c (is.others.now name c other n);
}

-- what reads now is what a crash leaves after a sync
pub synced : {T E : Type 0} (tells : Bool) (result : Result T E) (old new : World) (name : List ℕ) → IsTrue tells → Syncs tells result old new name → OnOk result (IsDurable new name (new.files name))
synced tells result old new name told syncs =
    on_ok_then result (subst (λ (f : Files). IsDurable new name (f name)) (sym syncs.still.files)) (syncs.durable told)

-- what reads after a run of calls has what a crash leaves
pub reads_has : (old new : World) (names : Names) (P : Files → Type 0) → Changes old new names P → ((m : List ℕ) → Leaves new m (new.files m)) → P new.files
reads_has old new names P is left = is.now new.files left
