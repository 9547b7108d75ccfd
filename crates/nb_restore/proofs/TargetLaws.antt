-- The target is made, so that a crash leaves its name free, and made whole by its page 0.
use Rattle.std.proofs.Common.{◌≡◌, inl, inr, ⊎_elim, ℕ, ◌+◌, ◌-◌, ◌*◌, ◌≤◌, List, [], ◌++◌, length, take, drop, replicate, refl, sym, ap, subst, ◌∙◌, arith, Bool, ◌&&◌, ◌==◌, IsTrue, None, Some, Result, Ok, Err, OnOk}
use Rattle.nb_restore.proofs.Common.{or_left, or_right, and_from, append-nil, drop_all, is_zeros, is_free_file, is_unfinished, is_header, state_of, pending_of, is_free_file-take, applying_state, File, Files, bytes_of, padded, put_at, with_page, World, Leaves, PageLeft, IsDurable, Remakes, WritesPage, Syncs, IsTimely, Passes, Changes, Only, Moved, Remade, still_more, weaker_has, remade_on, page_others, remade_alone, remade_step, moved_from, remade_begun, on_ok_then, synced, Page, BeginsWith, KeepsFront, IsFree, IsFreeOr, IsKept, IsUnfinishedPage, ReadsOr, zeros-take, with_file-named}
use Rattle.nb_restore.proofs.FrontLaws.{page_read}

free_zeros : (n : ℕ) → IsFree (Some (replicate n 0))
unfolding is_free_file
free_zeros n = or_left (is_zeros (take 64 (replicate n 0))) (is_unfinished (replicate n 0)) (zeros-take 64 n)

pub free_empty : IsFree (Some [])
free_empty = free_zeros 0

free_page : (page : Page) → IsUnfinishedPage page → IsFree (Some page)
unfolding is_free_file
free_page page is =
    or_right (is_zeros (take 64 page)) (is_unfinished page)
    (and_from (is_header page && state_of page == applying_state) (is_zeros (pending_of page)) (and_from (is_header page) (state_of page == applying_state) is.header (ap (λ n. n == 3) is.state)) is.pending)

-- a file that begins with such a page
pub free_front : (page : Page) (file : File) → IsUnfinishedPage page → BeginsWith (take 64 page) file → IsFree file
free_front page None is begins = absurd (let few : 64 ≤ 0 = begins.long in omega (arith, few))
free_front page (Some bytes) is begins = sym (is_free_file-take bytes) ∙ ap (λ (x : List ℕ). is_free_file (Some x)) begins.is ∙ is_free_file-take page ∙ free_page page is

-- page 0 is the first that is written
put-alone : (page : Page) → with_page (Some []) (0 * length page) page ≡ Some page
unfolding put_at padded
put-alone page =
    ap (λ k. Some (take k ([] ++ replicate {A = ℕ} (k - 0) 0) ++ (page ++ drop (k + length page) []))) (let e : 0 * length page ≡ 0 = omega arith in e)
    ∙ ap (λ (x : List ℕ). Some (page ++ x)) (drop_all (0 + length page) [] (omega arith)) ∙ ap Some (append-nil page)

first_left : (page : Page) (c d : File) → IsUnfinishedPage page → c ≡ Some [] → PageLeft (0 * length page) page c d → IsFree d
first_left page c d is empty (inl same) = subst IsFree (sym (same ∙ empty)) free_empty
first_left page c d is empty (inr (inl put)) = subst IsFree (sym (put ∙ ap (λ (f : File). with_page f (0 * length page) page) empty ∙ put-alone page)) (free_page page is)
first_left page c d is empty (inr (inr (k, fits, grown))) = subst IsFree (sym (grown ∙ ap (λ (f : File). Some (bytes_of f ++ replicate (k * length page) 0)) empty)) (free_zeros (k * length page))

module _ (target : List ℕ) where
  -- the file is made, also where that fails
  pub made : {T E : Type 0} (tells : Bool) (result : Result T E) (old new : World) → IsTrue tells → IsTimely old → Remakes tells result old new target (Some []) → new.said ≡ old.said → Passes old new
      → Changes old new (Only target) (Remade old target IsFree)
  made tells result old new told timely remakes silent time = remade_alone tells result old new target (Some []) IsFree told timely remakes silent time free_empty

  -- page 0 is written into the empty file, also where that fails
  pub page_made : {T E : Type 0} (tells : Bool) (result : Result T E) (old mid new : World) (page : Page) → IsTrue tells → IsUnfinishedPage page → Changes old mid (Only target) (Remade old target IsFree) → ((c : File) → mid.now target c → c ≡ Some [])
      → WritesPage tells result mid new target (0 * length page) page → new.said ≡ mid.said → Passes mid new → Changes old new (Only target) (Remade old target IsFree)
  page_made tells result old mid new page told is so_far empty writes silent time =
      remade_step old mid new target IsFree (λ c. c ≡ Some []) IsFree (PageLeft (0 * length page) page) so_far time writes.left (page_others tells result mid new target (0 * length page) page told writes) silent
      empty (λ c free. free) (λ c d e left. first_left page c d is e left)

  -- a sync leaves no more than stood before
  pub sync_more : {T E : Type 0} (tells : Bool) (result : Result T E) (made : File → Type 0) (old mid new : World) → Changes old mid (Only target) (Remade old target made) → Syncs tells result mid new target → new.said ≡ mid.said → Passes mid new
      → Changes old new (Only target) (Remade old target made)
  sync_more tells result made old mid new so_far syncs silent time = still_more old mid new (Only target) (Remade old target made) so_far time syncs.still silent

  -- and keeps what reads
  pub sync_kept : {T E : Type 0} (tells : Bool) (result : Result T E) (old new : World) (file : File) → IsTrue tells → old.files target ≡ file → Syncs tells result old new target → OnOk result (IsKept new target file)
  sync_kept tells result old new file told reads syncs =
      let same : new.files target ≡ file = ap (λ (f : Files). f target) syncs.still.files ∙ reads in
      on_ok_then result (λ (durable : IsDurable new target (new.files target)). record { durable = subst (λ (f : File). IsDurable new target f) same durable; reads = same }) (synced tells result old new target told syncs)

  pub kept_page : {T E : Type 0} (tells : Bool) (result : Result T E) (before : File) (old new : World) (page : Page) → IsTrue tells → before ≡ Some [] → old.files target ≡ with_page before (0 * length page) page → Syncs tells result old new target → OnOk result (IsKept new target (Some page))
  kept_page tells result before old new page told empty reads syncs = sync_kept tells result old new (Some page) told (reads ∙ ap (λ (f : File). with_page f (0 * length page) page) empty ∙ put-alone page) syncs

  -- the pages are synced before page 0, also where that fails
  pub sync_first : {T E : Type 0} (tells : Bool) (result : Result T E) (old new : World) (made : File → Type 0) → IsTimely old → Syncs tells result old new target → new.said ≡ old.said → Passes old new → Changes old new (Only target) (Remade old target made)
  sync_first tells result old new made timely syncs silent time = sync_more tells result made old old new (remade_begun old (Only target) target made timely) syncs silent time

  -- and then page 0 is written, also where that fails
  pub page_last : {T E : Type 0} (tells : Bool) (result : Result T E) (old mid new : World) (file : File) (page : Page) → IsTrue tells → Changes old mid (Only target) (Remade old target (PageLeft (0 * length page) page file)) → IsDurable mid target file
      → WritesPage tells result mid new target (0 * length page) page → new.said ≡ mid.said → Passes mid new → Changes old new (Only target) (Remade old target (PageLeft (0 * length page) page file))
  page_last tells result old mid new file page told so_far durable writes silent time =
      remade_step old mid new target (PageLeft (0 * length page) page file) (λ c. c ≡ file) (PageLeft (0 * length page) page file) (PageLeft (0 * length page) page) so_far time writes.left
      (page_others tells result mid new target (0 * length page) page told writes) silent
      durable.only (λ c left. left) (λ c d e left. subst (λ (f : File). PageLeft (0 * length page) page f d) e left)

  -- as the file reads while it is made
  pub made_reads : {T E : Type 0} (tells : Bool) (result : Result T E) (old new : World) → IsTrue tells → Remakes tells result old new target (Some []) → ReadsOr old new target IsFree
  made_reads tells (Ok value) old new told remakes = inr (subst IsFree (sym (with_file-named old.files new.files target (Some []) (remakes.files told))) free_empty)
  made_reads tells (Err e) old new told remakes =
      ⊎_elim (λ same. inl (ap (λ (f : Files). f target) same)) (λ made. inr (subst IsFree (sym (with_file-named old.files new.files target (Some []) made)) free_empty)) (remakes.files told)

  -- and while page 0 is written into it
  pub page_reads : {T E : Type 0} (tells : Bool) (result : Result T E) (mid new : World) (page : Page) → IsTrue tells → IsUnfinishedPage page → mid.files target ≡ Some [] → WritesPage tells result mid new target (0 * length page) page → IsFree (new.files target)
  page_reads tells result mid new page told is empty writes = ⊎_elim (λ same. subst IsFree (sym (same ∙ empty)) free_empty) (λ put. subst IsFree (sym (put ∙ ap (λ (f : File). with_page f (0 * length page) page) empty ∙ put-alone page)) (free_page page is)) (page_read tells result mid new target (0 * length page) page told writes)

  -- After the page that says that a restore goes on, other pages are written: whatever a crash leaves begins with that page.
  pub begun_then : (mid new : World) (page : Page) → IsUnfinishedPage page → 64 ≤ length page → IsKept mid target (Some page) → Changes mid new (Only target) (Moved mid target KeepsFront) → Changes mid new (Only target) (λ files. IsFree (files target))
  begun_then mid new page is long kept more =
      weaker_has mid new (Only target) (Moved mid target KeepsFront) (λ files. IsFree (files target)) more
      (λ files moved. free_front page (files target) is (moved_from mid target (Some page) KeepsFront files kept.durable moved (take 64 page) (record { long = long; is = refl })))

  -- Then page 0 is written over it: a crash leaves the name free, or the whole.
  pub then_done : (old mid new : World) (whole : File → Type 0) (made : File → Type 0) (there : File) → Changes old mid (Only target) (λ files. IsFree (files target)) → Leaves mid target there → Changes mid new (Only target) (Remade mid target made)
      → ((c : File) → made c → IsFreeOr whole c) → Changes old new (Only target) (λ files. IsFreeOr whole (files target))
  then_done old mid new whole made there first was second by =
      remade_on old mid new (Only target) (λ files. IsFree (files target)) (λ files. IsFreeOr whole (files target)) target made there first second refl was (λ files free. inl free) (λ before files left has is done others. by (files target) done)
