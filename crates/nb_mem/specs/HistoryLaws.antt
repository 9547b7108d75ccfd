-- The two laws of a host, for the world of a history.
use Rattle.std.proofs.Common.{◌≡◌, inl, inr, ℕ, ◌≤◌, Bool, true, false, List, [], ◌∷◌, length, refl, subst, arith}
use Rattle.std.specs.Prelude.{MatchBool, if◌then◌else◌}
use Rattle.std.specs.Cmp.Lexicographic.{told_text}
use Rattle.nb_host.specs.Names.{same_name}
use Rattle.nb_host.specs.Files.{File, Files, with_file}
use Rattle.nb_host.specs.Crash.{Leaves, LeavesAll}
use Rattle.nb_host.specs.Moments.{IsNow, IsTimely}
use Rattle.nb_mem.specs.declared.entry.Change.{Change}
use Rattle.nb_mem.specs.declared.entry.Change.TheVariants.{Placed, Made, Removed, Paged, Appended, Synced}
use Rattle.nb_mem.specs.declared.entry.Entry.{Entry}
use Rattle.nb_mem.specs.declared.entry.Entry.TheVariants.{Changed, Said, Asked}
use Rattle.nb_mem.specs.Changes.{file_after, NowAfter}
use Rattle.nb_mem.specs.Histories.{files_of, Now, said_of, LeftSince, world_of}

-- a change that is kept whole is among what a crash leaves
seen_after : (change : Change) (file : File) (now : File → Type 0) → now file → NowAfter change file now (file_after change file)
seen_after (Placed bytes) file now is = refl
seen_after Made file now is = refl
seen_after Removed file now is = refl
seen_after (Paged at page) file now is = (file, is, inr (inl refl))
seen_after (Appended bytes) file now is = (file, is, inr (bytes, record { no_longer = omega arith; each = λ i low. inl refl }, refl, refl))
seen_after Synced file now is = refl

-- what reads may stay
pub seen : (es : List Entry) (m : List ℕ) → Now es m (files_of es m)
unfolding with_file
seen [] m = refl
seen (Changed n change ∷ es) m = by_test (same_name m n) refl (seen es m)
  where
    by_test : (b : Bool) → b ≡ same_name m n → Now es m (files_of es m)
        → MatchBool b (NowAfter change (files_of es m) (Now es m) (if b then file_after change (files_of es n) else files_of es m)) (Now es m (if b then file_after change (files_of es n) else files_of es m))
    by_test true is now = subst (λ q. NowAfter change (files_of es m) (Now es m) (file_after change (files_of es q))) (told_text m n true is) (seen_after change (files_of es m) (Now es m) now)
    by_test false is now = now
seen (Said bytes ∷ es) m = seen es m
seen (Asked question ∷ es) m = seen es m

pub reads_left : (es : List Entry) (m : List ℕ) → Leaves (world_of es) m (files_of es m)
reads_left es m = inr (seen es m)

-- no moment has a number above that of the calls
since-bound : (es : List Entry) (t : ℕ) (files : Files) (said : List ℕ) → LeftSince es t files said → t ≤ length es
since-bound [] t files said since = since.0
since-bound (e ∷ es) t files said (inl now) = omega (arith, now.0)
since-bound (e ∷ es) t files said (inr before) = omega (arith, since-bound es t files said before)

pub timely : (es : List Entry) → IsTimely (world_of es)
timely es = record { counts_now = λ t files le left. counts es t files le left; only_now = λ files said since. only es files said since }
  where
    counts : (es : List Entry) (t : ℕ) (files : Files) → t ≤ length es → LeavesAll (world_of es) files → LeftSince es t files (said_of es)
    counts [] t files le left = (le, record { left = left; output = refl })
    counts (e ∷ es) t files le left = inl (omega arith, record { left = left; output = refl })

    only : (es : List Entry) (files : Files) (said : List ℕ) → LeftSince es (length es) files said → IsNow (world_of es) files said
    only [] files said since = record { left = since.1.left; output = since.1.output }
    only (e ∷ es) files said (inl now) = record { left = now.1.left; output = now.1.output }
    only (e ∷ es) files said (inr before) = absurd (let low = since-bound es (length (e ∷ es)) files said before in omega arith)
