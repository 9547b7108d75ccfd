-- Where a run makes files and no database, what stands at its end is the account with them.
use Rattle.std.proofs.Common.{◌≡◌, ℕ, List, true, false, sym, subst, None, Contains}
use Rattle.nb_top.proofs.Common.{is_free_file, File, Files, is_delta, World, Leaves, LeavesAll, Account, MadeFile, IsNoneOf, with_files, delta_name, Stands, files_kept, IsWholeFile, MadeLeft, AreKept, HoldsKept, StandsFor}
use Rattle.nb_top.proofs.MadeStand.{IsNewFile, none_delta, free_name, free_left, made_holds}
use Rattle.nb_top.proofs.MadeWhole.{stands_with_whole}

module _ (old new : World) (account : Account) (stands : StandsFor old account) (before : (m : List ℕ) → Leaves old m (old.files m)) (made : List MadeFile) (each : (f : MadeFile) → Contains made f → IsNewFile account f)
    (whole : (f : MadeFile) → Contains made f → IsWholeFile account.kept f.1) (read : (m : List ℕ) → IsNoneOf made m → new.files m ≡ old.files m) (reads : (m : List ℕ) → Leaves new m (new.files m))
    (left : (files : Files) → LeavesAll new files → MadeLeft old made files × ((m : List ℕ) → IsNoneOf made m → Leaves old m (files m))) where
  holds : (files : Files) → LeavesAll new files → HoldsKept files account.kept
  holds files leaves = let l = left files leaves in made_holds old account stands before made each files l.0 l.1 whole

  free_then : (n : List ℕ) → is_delta n ≡ false → is_free_file (new.files n) ≡ true → new.files (delta_name n) ≡ None → (d : File) → Leaves new (delta_name n) d → d ≡ None
  free_then n plain =
      let none : IsNoneOf made (delta_name n) = none_delta account made each n in
      free_left old account stands made each new reads n (read n) (read (delta_name n) none) plain (λ files leaves. (left files leaves).1 (delta_name n) none)

  -- Whether they are whole by then or not, the world stands for an account with the same records.
  pub made_after : (later : Account) × StandsFor new later × (later.kept ≡ account.kept)
  made_after =
      let its : HoldsKept new.files account.kept = holds new.files reads in
      (its.account, record { now = its.stands; left = λ files leaves. subst (HoldsKept files) (sym its.same) (holds files leaves); free = free_then }, its.same)

  -- At its end they are.
  module _ (kept : AreKept new made) where
    now_stands : Stands new.files (with_files made account)
    now_stands =
        stands_with_whole old.files new.files made account stands.now
        (λ f there. record { plain = (each f there).plain; alone = (free_name old account stands f (each f there)).1; there = (kept f.0 f.1 there).reads; is = whole f there }) read

    left_holds : (files : Files) → LeavesAll new files → HoldsKept files (with_files made account).kept
    left_holds files leaves = subst (HoldsKept files) (sym (files_kept made account)) (holds files leaves)

    pub made_stands : StandsFor new (with_files made account)
    made_stands = record { now = now_stands; left = left_holds; free = free_then }
