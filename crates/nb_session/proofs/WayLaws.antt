-- What a session has to do next, and what the database is like then.
use Rattle.std.proofs.Common.{◌≡◌, ℕ, zero, suc, List, [], ◌∷◌, ◌++◌, ◌<◌, length, replicate, refl, ap, subst, ◌∙◌, Bool, Option, Some, None, true}
use Rattle.nb_session.proofs.Common.{Reply, is_free_entry, HasItsEntry, AreBeginnings, AreMerging, Runs, IsAt, waits, backs_up, copies, ends, merges, Turn, Begins, Copies, ClosesBackup, ClosesCopy, Ends, Merges, Finishes, Backing, Now, base_now, copy_first, copy_rest, merge_first, merge_rest}

-- so many turns and a last one
pub copy_turns : (left : ℕ) (last : Turn) → replicate left Copies ++ last ∷ [] ≡ copy_first left last ∷ copy_rest left last
copy_turns zero last = refl
copy_turns (suc left) last = refl

pub merge_turns : (left : ℕ) (last : Turn) → replicate left Merges ++ last ∷ [] ≡ merge_first left last ∷ merge_rest left last
merge_turns zero last = refl
merge_turns (suc left) last = refl

-- the first turn that copies no page
closing : List Turn → Option Turn
closing [] = None
closing (Begins statement ∷ ts) = Some (Begins statement)
closing (Copies ∷ ts) = closing ts
closing (ClosesBackup b ∷ ts) = Some (ClosesBackup b)
closing (ClosesCopy name ∷ ts) = Some (ClosesCopy name)
closing (Ends reply ∷ ts) = Some (Ends reply)
closing (Merges ∷ ts) = Some Merges
closing (Finishes reply ∷ ts) = Some (Finishes reply)

closing_behind : (left : ℕ) (ts : List Turn) → closing (replicate left Copies ++ ts) ≡ closing ts
unfolding closing
closing_behind zero ts = refl
closing_behind (suc left) ts = closing_behind left ts

closing_backup : (left : ℕ) (b : Backing) (more : List Turn) → closing (copy_first left (ClosesBackup b) ∷ (copy_rest left (ClosesBackup b) ++ more)) ≡ Some (ClosesBackup b)
unfolding closing
closing_backup zero b more = refl
closing_backup (suc left) b more = by left
  where
    by : (n : ℕ) → closing ((replicate n Copies ++ ClosesBackup b ∷ []) ++ more) ≡ Some (ClosesBackup b)
    by zero = refl
    by (suc n) = by n

closing_copy : (left : ℕ) (name : List ℕ) (more : List Turn) → closing (copy_first left (ClosesCopy name) ∷ (copy_rest left (ClosesCopy name) ++ more)) ≡ Some (ClosesCopy name)
unfolding closing
closing_copy zero name more = refl
closing_copy (suc left) name more = by left
  where
    by : (n : ℕ) → closing ((replicate n Copies ++ ClosesCopy name ∷ []) ++ more) ≡ Some (ClosesCopy name)
    by zero = refl
    by (suc n) = by n

closing_begins : (ts : List Turn) → AreBeginnings ts → (u : Turn) → closing ts ≡ Some u → AreBeginnings (u ∷ [])
unfolding closing
closing_begins [] all u is = absurd (cc (is))
closing_begins (Begins statement ∷ ts) all u is = let same : Begins statement ≡ u = cc in subst (λ (x : Turn). AreBeginnings (x ∷ [])) same (all.0, tt)
closing_begins (Copies ∷ ts) all u is = absurd all.0
closing_begins (ClosesBackup b ∷ ts) all u is = absurd all.0
closing_begins (ClosesCopy name ∷ ts) all u is = absurd all.0
closing_begins (Ends reply ∷ ts) all u is = absurd all.0
closing_begins (Merges ∷ ts) all u is = absurd all.0
closing_begins (Finishes reply ∷ ts) all u is = absurd all.0

-- a merge
abbrev IsOfMerge : Turn → Type 0
IsOfMerge Merges = Unit {0}
IsOfMerge (Finishes reply) = Unit {0}
IsOfMerge other = ⊥

closing_merges : (ts : List Turn) → AreMerging ts → (u : Turn) → closing ts ≡ Some u → IsOfMerge u
unfolding closing
closing_merges [] all u is = absurd all
closing_merges (Merges ∷ ts) all u is = let same : Merges ≡ u = cc in subst IsOfMerge same tt
closing_merges (Finishes reply ∷ ts) all u is = let same : Finishes reply ≡ u = cc in subst IsOfMerge same tt
closing_merges (Begins statement ∷ ts) all u is = absurd all
closing_merges (Copies ∷ ts) all u is = absurd all
closing_merges (ClosesBackup b ∷ ts) all u is = absurd all
closing_merges (ClosesCopy name ∷ ts) all u is = absurd all
closing_merges (Ends reply ∷ ts) all u is = absurd all

-- Its place in the history is free, and so is the name of its file.
pub record BacksUp (now : Now) (place : ℕ) (b : Backing) : Type 0 where
  pub runs : Runs now place 1
  pub below : b.page < length (base_now now).image
  pub entry : HasItsEntry (base_now now).image b.page
  pub free : is_free_entry (now.account.entry b.name) ≡ true

module _ (now : Now) (place : ℕ) where
  backs_by : {sound : Bool} (ts : List Turn) (b : Backing) → closing ts ≡ Some (ClosesBackup b) → IsAt sound now place ts → BacksUp now place b
  unfolding closing
  backs_by ts b is (waits all) = absurd (closing_begins ts all (ClosesBackup b) is).0
  backs_by ts b is (backs_up left d rest todo all runs room free) =
      let here : closing ts ≡ Some (ClosesBackup d) = ap closing todo ∙ closing_behind left (ClosesBackup d ∷ rest) in
      let same : d ≡ b = cc in
      subst (BacksUp now place) same (record { runs = runs; below = room.below; entry = room.entry; free = free })
  backs_by ts b is (copies left name rest todo all runs free) =
      let here : closing ts ≡ Some (ClosesCopy name) = ap closing todo ∙ closing_behind left (ClosesCopy name ∷ rest) in
      absurd (cc)
  backs_by ts b is (ends reply rest todo all runs) = let here : closing ts ≡ Some (Ends reply) = ap closing todo in absurd (cc)
  backs_by ts b is (merges all runs) = absurd (closing_merges ts all (ClosesBackup b) is)

  -- a backup that goes on
  pub backing_at : {sound : Bool} (left : ℕ) (b : Backing) (more : List Turn) → IsAt sound now place (copy_first left (ClosesBackup b) ∷ (copy_rest left (ClosesBackup b) ++ more)) → BacksUp now place b
  backing_at left b more at = backs_by _ b (closing_backup left b more) at

  copies_by : {sound : Bool} (ts : List Turn) (name : List ℕ) → closing ts ≡ Some (ClosesCopy name) → IsAt sound now place ts → Runs now place 1 × (is_free_entry (now.account.entry name) ≡ true)
  unfolding closing
  copies_by ts name is (waits all) = absurd (closing_begins ts all (ClosesCopy name) is).0
  copies_by ts name is (backs_up left d rest todo all runs room free) =
      let here : closing ts ≡ Some (ClosesBackup d) = ap closing todo ∙ closing_behind left (ClosesBackup d ∷ rest) in
      absurd (cc)
  copies_by ts name is (copies left n rest todo all runs free) =
      let here : closing ts ≡ Some (ClosesCopy n) = ap closing todo ∙ closing_behind left (ClosesCopy n ∷ rest) in
      let same : n ≡ name = cc in
      (runs, subst (λ (m : List ℕ). is_free_entry (now.account.entry m) ≡ true) same free)
  copies_by ts name is (ends reply rest todo all runs) = let here : closing ts ≡ Some (Ends reply) = ap closing todo in absurd (cc)
  copies_by ts name is (merges all runs) = absurd (closing_merges ts all (ClosesCopy name) is)

  -- a copy that goes on
  pub copying_at : {sound : Bool} (left : ℕ) (name : List ℕ) (more : List Turn) → IsAt sound now place (copy_first left (ClosesCopy name) ∷ (copy_rest left (ClosesCopy name) ++ more)) → Runs now place 1 × (is_free_entry (now.account.entry name) ≡ true)
  copying_at left name more at = copies_by _ name (closing_copy left name more) at

  -- an end after a backup
  pub ending_at : {sound : Bool} (reply : Reply) (more : List Turn) → IsAt sound now place (Ends reply ∷ more) → Runs now place 1
  unfolding closing
  ending_at reply more (waits all) = absurd all.0
  ending_at reply more (backs_up left d rest todo all runs room free) =
      let here : closing (Ends reply ∷ more) ≡ Some (ClosesBackup d) = ap closing todo ∙ closing_behind left (ClosesBackup d ∷ rest) in
      absurd (cc)
  ending_at reply more (copies left n rest todo all runs free) =
      let here : closing (Ends reply ∷ more) ≡ Some (ClosesCopy n) = ap closing todo ∙ closing_behind left (ClosesCopy n ∷ rest) in
      absurd (cc)
  ending_at reply more (ends r rest todo all runs) = runs
  ending_at reply more (merges all runs) = absurd all
