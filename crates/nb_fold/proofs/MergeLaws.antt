-- A page more of the files is folded.
use Rattle.std.proofs.Common.{◌≡◌, ◌≢◌, ◌⊎◌, inl, inr, ⊎_elim, ℕ, ◌+◌, ◌<◌, ◌≤◌, List, [], ◌∷◌, ◌++◌, refl, sym, ap, subst, ◌∙◌, arith, append_assoc, Bool, IsTrue, Some, None, Option, Result, Ok, Err, true, false}
use Rattle.nb_fold.proofs.Common.{append-nil, most_pages, File, Files, bytes_of, World, Leaves, LeavesAll, Only, NoNames, Remade, rested, kept_on, Quiet, LevelHead, head_of, Page, Numbered, level_bytes, LevelWriting, HasTaken, MayHave, IsUnfinished, IsUnfinishedOr, remade_twice, or_before, folded_pages, AllRise, AreApart, HasFolded, IsFolding, IsReady, Makes, MakesOr, Held, AllWait, AreAtEnd, IsLeast, WaitsBy, count_at, counts_at, rests, waiting_page, waits_at, with_file-named, taken_quiet, unfinished_empty, none_some}
use Rattle.nb_host.specs.Moments.{IsTimely, Passes}
use Rattle.nb_host.specs.Calls.{Remakes}
use Rattle.nb_change.proofs.MovedLaws.{remade_begun, remade_weaker}
use Rattle.nb_change.proofs.CallLaws.{remade_alone}
use Rattle.nb_gather.proofs.CloseLaws.{still_unfinished}
use Rattle.nb_gather.proofs.FitLaws.{may_front}
use Rattle.nb_fold.proofs.FoldedLaws.{all_end, all_from, folded_ends, folded_least, left_after, page_is, rests_next}

-- Nothing was made yet, and what reads is unfinished.
pub makes_none : (w : World) (file : LevelWriting) (sources : List Held) (whole : List Numbered) (most : ℕ) → IsTimely w → IsFolding w file sources whole most → Makes w w file.name IsUnfinished
makes_none w file sources whole most timely folding = record {
  left = remade_begun w (Only file.name) file.name IsUnfinished timely;
  reads = still_unfinished w file folding.done folding.has (may_front file.head folding.done (folded_pages folding.coming) (subst (MayHave file.head) folding.all folding.may));
}

-- calls that change nothing
pub makes_quiet : (old mid new : World) (name : List ℕ) (made : File → Type 0) → Makes old mid name made → Quiet mid new → Makes old new name made
makes_quiet old mid new name made makes quiet = record {
  left = kept_on old mid new (Only name) (Remade old name made) makes.left (rested mid new NoNames (LeavesAll mid) quiet.still quiet.said quiet.moments (λ files left. left));
  reads = subst made (sym (ap (λ (f : Files). f name) quiet.still.files)) makes.reads;
}

-- one run of calls after another
pub makes_then : (old mid new : World) (name : List ℕ) (made : File → Type 0) → Leaves mid name (mid.files name) → Makes old mid name made → Makes mid new name made → Makes old new name made
makes_then old mid new name made was first second = record { left = remade_twice old mid new name made was first.left second.left; reads = second.reads }

-- the other files read as they did
all_wait : (old new : Files) (name : List ℕ) (ss : List Held) (rss : List (List Numbered)) → ((m : List ℕ) → m ≢ name → new m ≡ old m) → AreApart name ss → AllWait old ss rss → AllWait new ss rss
all_wait old new name [] [] others apart waits = tt
all_wait old new name [] (rs ∷ rss) others apart waits = absurd waits
all_wait old new name (s ∷ ss) [] others apart waits = absurd waits
all_wait old new name (s ∷ ss) (rs ∷ rss) others apart waits =
    (subst (λ (f : File). WaitsBy (bytes_of f) s.reader s.page s.waiting rs) (sym (others s.reader.name apart.0)) waits.0, all_wait old new name ss rss others apart.1 waits.1)

-- a page waits
counted : (n : ℕ) (page : Page) (ss : List Held) → waiting_page n ss ≡ Some page → 1 ≤ counts_at n ss
counted n page [] is = absurd (none_some page is)
counted n page (s ∷ ss) is = by (λ p there. counted n p ss there) (waiting_page n ss) refl (waits_at n s.waiting) refl
  where
    by : ((p : Page) → waiting_page n ss ≡ Some p → 1 ≤ counts_at n ss) → (rest : Option Page) → waiting_page n ss ≡ rest → (here : Bool) → waits_at n s.waiting ≡ here → 1 ≤ counts_at n (s ∷ ss)
    by later (Some p) rest here at = let more = later p rest in omega (arith, more)
    by later None rest true at = rw (at, count_at) (omega arith)
    by later None rest false at = absurd (none_some page (sym (ap (λ o. or_before o (elim (waits_at n s.waiting) as (λ b. Option Page) [ true ↦ Some s.page | false ↦ None ])) rest ∙ ap (λ b. elim b as (λ x. Option Page) [ true ↦ Some s.page | false ↦ None ]) at) ∙ is))

pub falls_by : (n : ℕ) (page : Page) (ss : List Held) (new old : ℕ) → waiting_page n ss ≡ Some page → new + counts_at n ss ≤ old → new + 1 ≤ old
falls_by n page ss new old is few = let some = counted n page ss is in omega (arith, some, few)

module _ (w : World) (file : LevelWriting) (sources : List Held) (whole : List Numbered) (most : ℕ) (folding : IsFolding w file sources whole most) where
  -- no page is left
  pub folds_end : AreAtEnd sources → HasFolded w file whole most
  folds_end ends =
      let none = folded_ends folding.coming (all_end w.files sources folding.coming folding.waits ends) in
      record {
        has = subst (HasTaken w file) (sym (folding.all ∙ ap (λ (xs : List Numbered). folding.done ++ xs) none ∙ append-nil folding.done)) folding.has;
        may = folding.may;
        reads = omega (arith, folding.reads);
      }

  -- where files are read on after the page of that number, also where one of them fails
  pub reads_on : (n : ℕ) (mid new : World) → mid.reads ≡ w.reads → new.reads ≤ mid.reads + counts_at n sources → new.reads ≤ most
  reads_on n mid new same reads = let left = left_after w.files n sources folding.coming folding.waits in omega (arith, folding.reads, reads, same, left)

  -- this page comes next
  module _ (n : ℕ) (page : Page) (below : n < most_pages) (least : IsLeast n sources) (is : waiting_page n sources ≡ Some page) where
    rise : AllRise n folding.coming
    rise = all_from w.files n folding.least sources folding.coming folding.waits folding.rises least

    all : whole ≡ (folding.done ++ (n, page) ∷ []) ++ folded_pages (rests n folding.coming)
    all =
        folding.all ∙ ap (λ (xs : List Numbered). folding.done ++ xs) (folded_least n page folding.coming below rise (sym (page_is w.files n sources folding.coming folding.waits rise) ∙ is))
        ∙ sym (append_assoc folding.done ((n, page) ∷ []) (folded_pages (rests n folding.coming)))

    pub may_take : MayHave file.head (folding.done ++ (n, page) ∷ [])
    may_take = may_front file.head (folding.done ++ (n, page) ∷ []) (folded_pages (rests n folding.coming)) (subst (MayHave file.head) all folding.may)

    -- its file has it, and the others are read on
    module _ (mid new : World) (later : LevelWriting) (rest : List Held) (name : later.name ≡ file.name) (head : later.head ≡ file.head) (others : (m : List ℕ) → m ≢ file.name → mid.files m ≡ w.files m) where
      pub waits_mid : AllWait mid.files sources folding.coming
      waits_mid = all_wait w.files mid.files file.name sources folding.coming others folding.apart folding.waits

      pub folds_on : HasTaken mid later (folding.done ++ (n, page) ∷ []) → mid.reads ≡ w.reads → AllWait mid.files rest (rests n folding.coming) → Quiet mid new → new.reads ≤ mid.reads + counts_at n sources → AreApart file.name rest → IsFolding new later rest whole most
      folds_on has same waits quiet reads apart = record {
        done = folding.done ++ (n, page) ∷ [];
        coming = rests n folding.coming;
        all = all;
        has = taken_quiet mid new later _ quiet has;
        may = subst (λ (h : LevelHead). MayHave h whole) (sym head) folding.may;
        waits = subst (λ (f : Files). AllWait f rest (rests n folding.coming)) (sym quiet.still.files) waits;
        least = n + 1;
        rises = rests_next n folding.coming rise;
        apart = subst (λ (m : List ℕ). AreApart m rest) (sym name) apart;
        reads = let left = left_after w.files n sources folding.coming folding.waits in omega (arith, folding.reads, reads, same, left);
      }

-- The file is made, also where that fails.
pub made_first : {T E : Type 0} (tells : Bool) (result : Result T E) (old new : World) (name : List ℕ) → IsTrue tells → IsTimely old → Remakes tells result old new name (Some []) → new.said ≡ old.said → Passes old new → MakesOr old new name IsUnfinished
made_first tells result old new name told timely makes silent time = record {
  left = remade_alone tells result old new name (Some []) IsUnfinished told timely makes silent time unfinished_empty;
  reads = by result makes;
}
  where
    by : {T E : Type 0} (r : Result T E) → Remakes tells r old new name (Some []) → (new.files name ≡ old.files name) ⊎ IsUnfinished (new.files name)
    by (Ok value) m = inr (subst IsUnfinished (sym (with_file-named old.files new.files name (Some []) (m.files told))) unfinished_empty)
    by (Err e) m = ⊎_elim (λ same. inl (ap (λ (f : Files). f name) same)) (λ made. inr (subst IsUnfinished (sym (with_file-named old.files new.files name (Some []) made)) unfinished_empty)) (m.files told)

pub makes_or : (old mid new : World) (name : List ℕ) (made : File → Type 0) → Leaves mid name (mid.files name) → MakesOr old mid name made → Makes mid new name made → MakesOr old new name made
makes_or old mid new name made was first second = record { left = remade_twice old mid new name made was first.left second.left; reads = inr second.reads }

pub makes_weaker : (old new : World) (name : List ℕ) (made all : File → Type 0) → ((c : File) → made c → all c) → MakesOr old new name made → MakesOr old new name all
makes_weaker old new name made all by makes = record { left = remade_weaker old new (Only name) name made all makes.left by; reads = ⊎_elim inl (λ is. inr (by _ is)) makes.reads }

-- Its head stands there, and no page was folded.
pub folding_begun : (old mid : World) (file : LevelWriting) (sources : List Held) (whole : List Numbered) (most : ℕ) → IsReady old file sources whole most → HasTaken mid file [] → mid.reads ≡ old.reads → ((m : List ℕ) → m ≢ file.name → mid.files m ≡ old.files m) → IsFolding mid file sources whole most
folding_begun old mid file sources whole most ready has same others = record {
  done = [];
  coming = ready.coming;
  all = ready.all;
  has = has;
  may = ready.may;
  waits = all_wait old.files mid.files file.name sources ready.coming others ready.apart ready.waits;
  least = 0;
  rises = ready.rises;
  apart = ready.apart;
  reads = omega (arith, ready.reads, same);
}

-- The file was made, also where that failed.
module _ (old one : World) (file : LevelWriting) (out : List ℕ) (named_so : file.name ≡ out) (sources : List Held) (whole : List Numbered) (most : ℕ) (ready : IsReady old file sources whole most) (first : MakesOr old one out IsUnfinished) where
  -- its head stands there
  pub folding_made : HasTaken one file [] → one.reads ≡ old.reads → IsFolding one file sources whole most
  folding_made has same = folding_begun old one file sources whole most ready has same (λ m other. first.left.others_read m (λ e. other (e ∙ sym named_so)))

  -- pages are folded into it
  pub folded_or : (two : World) → Leaves one out (one.files out) → Makes one two file.name IsUnfinished → MakesOr old two out IsUnfinished
  folded_or two was makes = makes_or old one two out IsUnfinished was first (subst (λ (n : List ℕ). Makes one two n IsUnfinished) named_so makes)

  -- and it is closed
  pub closed_or : (two three : World) (later : LevelWriting) → later.name ≡ file.name → later.head ≡ file.head → Leaves one out (one.files out) → Leaves two out (two.files out) → Makes one two file.name IsUnfinished
      → Makes two three later.name (IsUnfinishedOr (level_bytes 102 (head_of later.head) whole)) → MakesOr old three out (IsUnfinishedOr (level_bytes 102 (head_of file.head) whole))
  closed_or two three later name head was then_was makes closes =
      let all : File → Type 0 = IsUnfinishedOr (level_bytes 102 (head_of file.head) whole) in
      let last : Makes two three later.name all = subst (λ (h : LevelHead). Makes two three later.name (IsUnfinishedOr (level_bytes 102 (head_of h) whole))) head closes in
      makes_or old two three out all then_was (makes_weaker old two out IsUnfinished all (λ f is. inl is) (folded_or two was makes)) (subst (λ (n : List ℕ). Makes two three n all) (name ∙ named_so) last)
