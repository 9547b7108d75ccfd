-- The file of a copy: made, with a page more, and made whole by page 0.
use Rattle.std.proofs.Common.{◌≡◌, inl, inr, ℕ, ◌+◌, ◌*◌, ◌<◌, ◌≤◌, List, [], length, sym, ap, subst, ◌∙◌, arith, Bool, IsTrue, Some, Result, Ok, OnOk}
use Rattle.nb_copy.proofs.Common.{File, Files, World, PageLeft, IsDurable, Remakes, WritesPage, Syncs, IsTimely, Passes, Changes, Only, Remade, page_others, remade_alone, remade_step, remade_begun, Quiet, Page, Image, page_at, first_page, joined, IsBlank, IsFreeOr, IsKept, IsMade, Copying, front_pages, IsOf, IsBegun, quiet_then, sync_then, sync_kept, zeros-behind, with_file-named, far_behind, blank_free, blank_left, blank_empty, is_page_size, size_facts}
use Rattle.nb_host.specs.Files.{with_page}
use Rattle.nb_copy.proofs.FrontLaws.{front_next, front_whole, front_blank}

-- and calls that change nothing
pub quiet_keeps : (old new : World) (copy : Copying) (frozen : Image) → Quiet old new → IsBegun old copy frozen → IsBegun new copy frozen
quiet_keeps old new copy frozen quiet begun = record {
  first = begun.first;
  reads = ap (λ (f : Files). f copy.name) quiet.still.files ∙ begun.reads;
  blank = λ c now. begun.blank c (quiet.still.left.now copy.name c tt now);
}

module _ (name : List ℕ) where
  -- the file is made, also where that fails
  pub made : {T E : Type 0} (tells : Bool) (result : Result T E) (old new : World) → IsTrue tells → IsTimely old → Remakes tells result old new name (Some []) → new.said ≡ old.said → Passes old new
      → Changes old new (Only name) (Remade old name IsBlank)
  made tells result old new told timely remakes silent time = remade_alone tells result old new name (Some []) IsBlank told timely remakes silent time blank_empty

  -- a page is written, also where that fails
  pub page_written : {T E : Type 0} (tells : Bool) (result : Result T E) (old mid new : World) (k : ℕ) (page : Page) → IsTrue tells → Quiet old mid → IsTimely mid → ((c : File) → old.now name c → IsBlank c) → 1 ≤ k → 1024 ≤ length page
      → WritesPage tells result mid new name (k * length page) page → new.said ≡ mid.said → Passes mid new → Changes old new (Only name) (Remade old name IsBlank)
  page_written tells result old mid new k page told quiet timely blank some wide writes silent time =
      quiet_then name IsBlank old mid new quiet
      (remade_step mid mid new name IsBlank IsBlank IsBlank (PageLeft (k * length page) page) (remade_begun mid (Only name) name IsBlank timely) time writes.left (page_others tells result mid new name (k * length page) page told writes) silent
      (λ c now. blank c (quiet.still.left.now name c tt now)) (λ c is. is) (λ c d is left. blank_left (k * length page) page c d (far_behind k (length page) some wide) is left))

  -- page 0 is written after the sync of the others, also where that fails
  pub first_written : {T E : Type 0} (tells : Bool) (result : Result T E) (old mid new : World) (file whole : List ℕ) (page : Page) → IsTrue tells → Changes old mid (Only name) (Remade old name (IsFreeOr whole)) → IsDurable mid name (Some file) → IsBlank (Some file)
      → with_page (Some file) (0 * length page) page ≡ Some whole → ((c : File) → PageLeft (0 * length page) page (Some file) c → IsFreeOr whole c)
      → WritesPage tells result mid new name (0 * length page) page → new.said ≡ mid.said → Passes mid new → Changes old new (Only name) (Remade old name (IsFreeOr whole))
  first_written tells result old mid new file whole page told so_far durable blank put left writes silent time =
      remade_step old mid new name (IsFreeOr whole) (λ c. c ≡ Some file) (IsFreeOr whole) (PageLeft (0 * length page) page) so_far time writes.left
      (page_others tells result mid new name (0 * length page) page told writes) silent
      durable.only (λ c is. is) (λ c d e step. left d (subst (λ (f : File). PageLeft (0 * length page) page f d) e step))

-- The file was made.
pub begun_made : (w : World) (copy : Copying) (frozen : Image) → copy.next ≡ 0 → IsMade w copy.name → IsBegun w copy frozen
unfolding front_pages
begun_made w copy frozen next made = record {
  first = λ some. absurd (omega (arith, some, next));
  reads = made.reads ∙ ap (λ n. Some (joined (front_pages copy.size n frozen))) (sym next);
  blank = λ c now. subst IsBlank (sym (made.only c now)) blank_empty;
}

-- Page 0 was taken.
pub begun_first : (old new : World) (before after : Copying) (frozen : Image) → Quiet old new → IsBegun old before frozen → before.next ≡ 0 → after ≡ record before { next = 1; first = after.first } → after.first ≡ first_page frozen → IsBegun new after frozen
unfolding front_pages
begun_first old new before after frozen quiet begun none same first =
    subst (λ (c : Copying). IsBegun new c frozen) (sym same) (record {
      first = λ some. first;
      reads = ap (λ (f : Files). f before.name) quiet.still.files ∙ begun.reads ∙ ap (λ n. Some (joined (front_pages before.size n frozen))) none;
      blank = λ c now. begun.blank c (quiet.still.left.now before.name c tt now);
    })

-- A page more was written.
pub begun_next : {T E : Type 0} (tells : Bool) (result : Result T E) (old new : World) (before after : Copying) (frozen : Image) (page : Page) → IsOf before frozen → IsBegun old before frozen
    → after ≡ record before { next = before.next + 1 } → 1 ≤ before.next → before.next < before.count → 1024 ≤ length page → length page ≡ before.size → page ≡ page_at frozen before.next
    → WritesPage tells result old new before.name (before.next * length page) page → new.files before.name ≡ with_page (old.files before.name) (before.next * length page) page → IsBegun new after frozen
begun_next tells result old new before after frozen page of begun same some low wide long is writes put =
    subst (λ (c : Copying). IsBegun new c frozen) (sym same) (record {
      first = λ more. begun.first some;
      reads = put ∙ ap (λ (f : File). with_page f (before.next * length page) page) begun.reads
          ∙ ap (λ n. with_page (Some (joined (front_pages before.size before.next frozen))) (before.next * n) page) long
          ∙ ap Some (front_next before.size before.next frozen page of.sizes some (omega (arith, low, of.long)) is long);
      blank = λ c now. let from = writes.left.now c now in blank_left (before.next * length page) page from.0 c (far_behind before.next (length page) some wide) (begun.blank from.0 from.1) from.2;
    })

-- All pages were written: page 0 makes the file whole.
module _ (w : World) (copy : Copying) (frozen : Image) (of : IsOf copy frozen) (begun : IsBegun w copy frozen) (all : copy.next ≡ copy.count) where
  -- the file before that
  abbrev pub before_whole : List ℕ
  before_whole = joined (front_pages copy.size copy.next frozen)

  pub whole_put : with_page (Some before_whole) (0 * length copy.first) copy.first ≡ Some (joined frozen)
  whole_put = ap Some (front_whole copy.size copy.next frozen copy.first of.sizes (omega (arith, of.least, of.long, all)) (omega (arith, of.long, all)) (begun.first (omega (arith, of.least, of.long, all))))

  module _ (wide : 64 ≤ copy.size) where
    pub before_blank : IsBlank (Some before_whole)
    before_blank = front_blank copy.size copy.next frozen wide

    -- whatever a crash leaves of that write
    pub whole_left : (c : File) → PageLeft (0 * length copy.first) copy.first (Some before_whole) c → IsFreeOr (joined frozen) c
    whole_left c (inl same) = inl (blank_free c (subst IsBlank (sym same) before_blank))
    whole_left c (inr (inl put)) = inr (put ∙ whole_put)
    whole_left c (inr (inr (k, fits, grown))) = inl (blank_free c (subst IsBlank (sym grown) (zeros-behind 64 (k * length copy.first) before_whole before_blank)))

-- the same page
pub page_is : {T E : Type 0} (tells : Bool) (result : Result T E) (old new : World) (name p q : List ℕ) → p ≡ q → WritesPage tells result old new name (0 * length p) p → WritesPage tells result old new name (0 * length q) q
page_is tells result old new name p q same writes = subst (λ (x : List ℕ). WritesPage tells result old new name (0 * length x) x) same writes

-- The last turn: a sync, page 0, and a sync.
module _ (old : World) (outer copy : Copying) (view : copy ≡ outer) (frozen : Image) (of_outer : IsOf outer frozen) (begun_outer : IsBegun old outer frozen) (all_outer : outer.next ≡ outer.count) (sized : IsTrue (is_page_size copy.size)) where
  of : IsOf copy frozen
  of = subst (λ (v : Copying). IsOf v frozen) (sym view) of_outer

  begun : IsBegun old copy frozen
  begun = subst (λ (v : Copying). IsBegun old v frozen) (sym view) begun_outer

  all : copy.next ≡ copy.count
  all = subst (λ (v : Copying). v.next ≡ v.count) (sym view) all_outer

  wide : 64 ≤ copy.size
  wide = let least = (size_facts copy.size sized).at_least in omega (arith, least)

  abbrev Left : (new : World) → Type 0
  Left new = Changes old new (Only copy.name) (Remade old copy.name (IsFreeOr (joined frozen)))

  close_synced : {T E : Type 0} (tells : Bool) (result : Result T E) (new : World) → IsTimely old → Syncs tells result old new copy.name → new.said ≡ old.said → Passes old new → Left new
  close_synced tells result new timely syncs silent time =
      sync_then copy.name (IsFreeOr (joined frozen)) tells result old old new (remade_begun old (Only copy.name) copy.name (IsFreeOr (joined frozen)) timely) syncs silent time

  pub close_written : {T E U F : Type 0} (tells : Bool) (value : U) (result : Result T E) (mid new : World) → IsTrue tells → IsTimely old → Syncs {E = F} tells (Ok value) old mid copy.name → mid.said ≡ old.said → Passes old mid
      → WritesPage tells result mid new copy.name (0 * length copy.first) copy.first → new.said ≡ mid.said → Passes mid new → Left new
  close_written {T} {E} {U} {F} tells value result mid new told timely syncs silent time writes then_silent then_time =
      first_written copy.name tells result old mid new (before_whole old copy frozen of begun all) (joined frozen) copy.first told (close_synced {T = U} {E = F} tells (Ok value) mid timely syncs silent time) (subst (λ (f : File). IsDurable mid copy.name f) begun.reads (syncs.durable told))
      (before_blank old copy frozen of begun all wide) (whole_put old copy frozen of begun all) (whole_left old copy frozen of begun all wide) writes then_silent then_time

  pub close_kept : {T E U F V G : Type 0} (tells : Bool) (value : U) (written : V) (result : Result T E) (mid there new : World) → IsTrue tells → Syncs {E = F} tells (Ok value) old mid copy.name
      → WritesPage {E = G} tells (Ok written) mid there copy.name (0 * length copy.first) copy.first → Syncs tells result there new copy.name → OnOk result (IsKept new copy.name (joined frozen))
  close_kept tells value written result mid there new told first writes last =
      let before : mid.files copy.name ≡ Some (before_whole old copy frozen of begun all) = ap (λ (f : Files). f copy.name) first.still.files ∙ begun.reads in
      let reads : there.files copy.name ≡ Some (joined frozen) =
      with_file-named mid.files there.files copy.name (with_page (mid.files copy.name) (0 * length copy.first) copy.first) (writes.files told)
      ∙ ap (λ (f : File). with_page f (0 * length copy.first) copy.first) before ∙ whole_put old copy frozen of begun all in
      sync_kept tells result there new copy.name (joined frozen) told reads last
