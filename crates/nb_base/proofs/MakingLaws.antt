-- The file of a new database while it is made: until page 0 is written it has no header, whatever a crash leaves of it.
use Rattle.std.proofs.Common.{◌≡◌, ◌≢◌, ◌⊎◌, inl, inr, ⊎_elim, ℕ, ◌*◌, ◌<◌, ◌≤◌, List, [], length, take, sym, ◌∙◌, ap, subst, Bool, true, IsTrue, Some, Result, Ok, Err, OnOk}
use Rattle.nb_base.proofs.Common.{on_ok_weaker, is_zeros, fresh, fresh_count, fresh_page, is_page_size, File, Files, bytes_of, with_file, World, Leaves, LeavesAll, PageLeft, IsDurable, Untouched, WholeOrNot, Remakes, WritesPage, Syncs, IsSilent, Passes, IsTimely, Changes, Only, GaveNothing, untouched_fewer, whole-other, begun, one_more, still_more, durable_is, Image, base_of, owner, delta_name, ShowsIn, CreateLeft, CreateReads, IsSettled, with_file-named, blank_free, blank_put, blank_left}
use Rattle.nb_fields.specs.Free.{is_free_file}
use Rattle.nb_host.specs.Causes.{FaultCount}
use Rattle.nb_host.specs.Files.{with_page}
use Rattle.nb_base.proofs.CreateLaws.{HasRest, whole_shows}
use Rattle.nb_page.proofs.BlankLaws.{IsBlank}
use Rattle.nb_fields.proofs.ZeroLaws.{zeros-behind}
use Rattle.nb_base.specs.Stays.{FileIs, EndsWithin}
use Rattle.nb_base.proofs.StaysLaws.{put_within}

blank-empty : (c : File) → c ≡ Some [] → IsBlank c
blank-empty c is = ap (λ (x : File). is_zeros (take 64 (bytes_of x))) is

blank-same : (b c : File) → c ≡ b → IsBlank b → IsBlank c
blank-same b c same h = subst (λ (x : File). IsBlank x) (sym same) h

-- a file that was changed, whole or not, reads as before, or as it was to be
own_reads : {T E : Type 0} (result : Result T E) (old new : Files) (name : List ℕ) (file : File) → WholeOrNot result old (with_file old name file) new → (new name ≡ old name) ⊎ (new name ≡ file)
own_reads (Ok value) old new name file is = inr (with_file-named old new name file is)
own_reads (Err e) old new name file (inl same) = inl (ap (λ (f : Files). f name) same)
own_reads (Err e) old new name file (inr done) = inr (with_file-named old new name file done)

-- The new file has no header yet, and is the only one that was touched.
pub record Making (old w : World) (name : List ℕ) (image : Image) : Type 0 where
  pub so_far : Changes old w (Only name) (CreateLeft old name image)
  pub back : (c : File) → w.back name c → Leaves old name c
  pub blank : (c : File) → w.now name c → IsBlank c
  pub reads : IsBlank (w.files name)

module _ (name : List ℕ) (image : Image) where
  -- one call more that touches the new file alone
  call_more : (old mid new : World) → Changes old mid (Only name) (CreateLeft old name image) → Passes mid new → IsSilent mid new → Untouched mid new (λ m. m ≢ name)
      → ((n : List ℕ) → n ≢ name → new.files n ≡ mid.files n) → ((files : Files) → LeavesAll new files → CreateLeft old name image files) → Changes old new (Only name) (CreateLeft old name image)
  call_more old mid new so_far time silent others read here = one_more old mid new (Only name) _ _ so_far time others read silent.said (λ files has. has) here

  -- one call more that leaves it blank
  blank_more : (old mid new : World) → Changes old mid (Only name) (CreateLeft old name image) → Passes mid new → IsSilent mid new → Untouched mid new (λ m. m ≢ name)
      → ((n : List ℕ) → n ≢ name → new.files n ≡ mid.files n) → ((c : File) → new.back name c → Leaves old name c) → ((c : File) → new.now name c → IsBlank c) → IsBlank (new.files name) → Making old new name image
  blank_more old mid new so_far time silent others read back blank reads = record {
    so_far = call_more old mid new so_far time silent others read (λ files left. ⊎_elim (λ b. inl (back (files name) b)) (λ n. inr (inl (blank_free (files name) (blank (files name) n)))) (left name));
    back = back;
    blank = blank;
    reads = reads;
  }

  not_begun : (old : World) → IsTimely old → Changes old old (Only name) (CreateLeft old name image)
  not_begun old timely = begun old (Only name) _ timely (λ files left. inl (left name))

  -- the file is made, also where that fails
  pub made : {T E : Type 0} (tells : Bool) (result : Result T E) (old new : World) → IsTrue tells → IsTimely old → Remakes tells result old new name (Some []) → IsSilent old new → Passes old new
      → Changes old new (Only name) (CreateLeft old name image)
  made tells result old new so timely is silent time =
      call_more old old new (not_begun old timely) time silent is.others (whole-other result old.files new.files name (Some []) (is.files so))
      (λ files left. ⊎_elim (λ b. inl (is.back (files name) b)) (λ n. ⊎_elim (λ l. inl l) (λ e. inr (inl (blank_free (files name) (blank-empty (files name) e)))) (is.now (files name) n)) (left name))

  -- and so it reads
  pub made_reads : {T E : Type 0} (tells : Bool) (result : Result T E) (old new : World) → IsTrue tells → Remakes tells result old new name (Some []) → CreateReads old name image new.files
  made_reads tells result old new so is = ⊎_elim inl (λ e. inr (inl (blank_free (new.files name) (blank-empty (new.files name) e)))) (own_reads result old.files new.files name (Some []) (is.files so))

  -- a file without a header reads as one whose name is free
  pub making_reads : (old w : World) → Making old w name image → CreateReads old name image w.files
  making_reads old w making = inr (inl (blank_free (w.files name) making.reads))

  -- and the making has begun
  pub making_begun : {T E : Type 0} (tells : Bool) (value : T) (old new : World) → IsTrue tells → IsTimely old → Remakes {T = T} {E = E} tells (Ok value) old new name (Some []) → IsSilent old new → Passes old new → Making old new name image
  making_begun {T} {E} tells value old new so timely is silent time =
      blank_more old old new (not_begun old timely) time silent is.others (whole-other {T = T} {E = E} (Ok value) old.files new.files name (Some []) (is.files so)) is.back
      (λ c n. blank-empty c (is.done c n)) (blank-empty (new.files name) (with_file-named old.files new.files name (Some []) (is.files so)))

  -- a page after page 0 is written, also where that fails
  pub page_more : {T E : Type 0} (tells : Bool) (result : Result T E) (old mid new : World) (at : ℕ) (page : List ℕ) → IsTrue tells → 64 ≤ at → Making old mid name image → WritesPage tells result mid new name at page → IsSilent mid new
      → Passes mid new → Making old new name image
  page_more tells result old mid new at page so far making is silent time =
      blank_more old mid new making.so_far time silent is.left.others (whole-other result mid.files new.files name _ (is.files so)) (λ c b. making.back c (is.left.back c b))
      (λ c n. let from = is.left.now c n in blank_left at page from.0 c far (making.blank from.0 from.1) from.2)
      (⊎_elim
      (λ same. blank-same (mid.files name) (new.files name) same making.reads)
      (λ put. blank-same (with_page (mid.files name) at page) (new.files name) put (blank_put at page (mid.files name) far making.reads))
      (own_reads result mid.files new.files name (with_page (mid.files name) at page) (is.files so)))

  -- the file is synced, also where that fails
  pub synced : {T E : Type 0} (tells : Bool) (result : Result T E) (old mid new : World) → Making old mid name image → Syncs tells result mid new name → IsSilent mid new → Passes mid new → Making old new name image
  synced tells result old mid new making is silent time =
      blank_more old mid new making.so_far time silent (untouched_fewer mid new _ _ is.still.left (λ n other. tt)) (λ n other. ap (λ (f : Files). f n) is.still.files)
      (λ c b. making.back c (is.still.left.back name c tt b)) (λ c n. making.blank c (is.still.left.now name c tt n))
      (blank-same (mid.files name) (new.files name) (ap (λ (f : Files). f name) is.still.files) making.reads)

  -- the whole file is synced, also where that fails
  pub synced_whole : {T E : Type 0} (tells : Bool) (result : Result T E) (old mid new : World) → Changes old mid (Only name) (CreateLeft old name image) → Syncs tells result mid new name → IsSilent mid new → Passes mid new
      → Changes old new (Only name) (CreateLeft old name image)
  synced_whole tells result old mid new so_far is silent time = still_more old mid new (Only name) _ so_far time is.still silent.said

-- How far the making has come: the pages from 1 on, up to this number, are written, and no call failed.
pub record MakesFile {H : Type 0} (tells : Bool) (world : H → World) (faults : H → FaultCount) (start here : H) (name : List ℕ) (size raw number : ℕ) : Type 0 where
  pub making : IsTrue tells → Making (world start) (world here) name (fresh size raw)
  pub pages : IsTrue tells → HasRest size raw number ((world here).files name)
  pub gave : GaveNothing (world start) (world here)
  pub cause : faults here ≡ faults start

-- The pages from 1 on are kept for good, and page 0 makes the file whole.
pub record KeepsRest (old w : World) (name : List ℕ) (size raw : ℕ) : Type 0 where
  pub file : File
  pub reads : w.files name ≡ file
  pub making : Making old w name (fresh size raw)
  pub durable : IsDurable w name file
  pub whole : (page : List ℕ) → page ≡ fresh_page size raw 0 → (d : File) → owner name (with_page file (0 * length page) page) d ≡ Ok (base_of (fresh size raw))

-- all pages but the first were written, and synced
pub rest_kept : {H T E : Type 0} (tells : Bool) (world : H → World) (faults : H → FaultCount) (start here : H) (name : List ℕ) (size raw number count : ℕ) (value : T) (new : World) → IsTrue tells → IsTrue (is_page_size size) → raw ≤ 65535
    → count ≡ fresh_count size raw → count ≤ number → (1 ≤ count → number ≤ count) → MakesFile tells world faults start here name size raw number
    → Syncs {T = T} {E = E} tells (Ok value) (world here) new name → IsSilent (world here) new → Passes (world here) new → KeepsRest (world start) new name size raw
rest_kept {H} {T} {E} tells world faults start here name size raw number count value new so is few count_is done within makes sync silent time = record {
  file = (world here).files name;
  reads = ap (λ (f : Files). f name) sync.still.files;
  making = synced name (fresh size raw) {T = T} {E = E} tells (Ok value) (world start) (world here) new (makes.making so) sync silent time;
  durable = sync.durable so;
  whole = λ page page_is. whole_shows size raw is name number count page ((world here).files name) few count_is done within page_is (makes.pages so);
}

-- page 0 is written, also where that fails
pub first_page : {T E : Type 0} (tells : Bool) (result : Result T E) (old mid new : World) (name : List ℕ) (size raw : ℕ) (page : List ℕ) → IsTrue tells → page ≡ fresh_page size raw 0 → KeepsRest old mid name size raw
    → WritesPage tells result mid new name (0 * length page) page → IsSilent mid new → Passes mid new → Changes old new (Only name) (CreateLeft old name (fresh size raw))
first_page tells result old mid new name size raw page so page_is kept is silent time =
    let making = kept.making in
    call_more name (fresh size raw) old mid new making.so_far time silent is.left.others (whole-other result mid.files new.files name _ (is.files so))
    (λ files left. ⊎_elim (λ b. inl (making.back (files name) (is.left.back (files name) b))) (λ n. let from = is.left.now (files name) n in inr (by from.0 (files name) (files (delta_name name)) from.1 from.2)) (left name))
  where
    by : (b c d : File) → mid.now name b → PageLeft (0 * length page) page b c → (is_free_file c ≡ true) ⊎ (owner name c d ≡ Ok (base_of (fresh size raw)))
    by b c d n (inl same) = inl (blank_free c (blank-same b c same (kept.making.blank b n)))
    by b c d n (inr (inl put)) = inr (subst (λ (x : File). owner name x d ≡ Ok (base_of (fresh size raw))) (sym (put ∙ ap (λ (x : File). with_page x (0 * length page) page) (kept.durable.only b n))) (kept.whole page page_is d))
    by b c d n (inr (inr (k, fits, grown))) = inl (blank_free c (subst IsBlank (sym grown) (zeros-behind 64 (k * length page) (bytes_of b) (kept.making.blank b n))))

-- and so it reads
pub first_page_reads : {T E : Type 0} (tells : Bool) (result : Result T E) (old mid new : World) (name : List ℕ) (size raw : ℕ) (page : List ℕ) → IsTrue tells → page ≡ fresh_page size raw 0 → KeepsRest old mid name size raw
    → WritesPage tells result mid new name (0 * length page) page → CreateReads old name (fresh size raw) new.files
first_page_reads tells result old mid new name size raw page so page_is kept is = by (own_reads result mid.files new.files name (with_page (mid.files name) (0 * length page) page) (is.files so))
  where
    whole : new.files name ≡ with_page kept.file (0 * length page) page → ShowsIn name (base_of (fresh size raw)) new.files
    whole put = subst (λ (x : File). owner name x (new.files (delta_name name)) ≡ Ok (base_of (fresh size raw))) (sym put) (kept.whole page page_is (new.files (delta_name name)))

    by : (new.files name ≡ mid.files name) ⊎ (new.files name ≡ with_page (mid.files name) (0 * length page) page) → CreateReads old name (fresh size raw) new.files
    by (inl same) = inr (inl (blank_free (new.files name) (blank-same (mid.files name) (new.files name) same kept.making.reads)))
    by (inr put) = inr (inr (whole (put ∙ ap (λ (x : File). with_page x (0 * length page) page) kept.reads)))

-- a sync changes nothing of that
pub synced_reads : {T E : Type 0} (tells : Bool) (result : Result T E) (old mid new : World) (name : List ℕ) (image : Image) → CreateReads old name image mid.files → Syncs tells result mid new name → CreateReads old name image new.files
synced_reads tells result old mid new name image reads is = subst (CreateReads old name image) (sym is.still.files) reads

-- after the last sync nothing but the new database is left
pub settled : {T E : Type 0} (tells : Bool) (result : Result T E) (old mid written new : World) (name : List ℕ) (size raw : ℕ) (page : List ℕ) → IsTrue tells → page ≡ fresh_page size raw 0 → KeepsRest old mid name size raw
    → written.files ≡ with_file mid.files name (with_page (mid.files name) (0 * length page) page) → Syncs tells result written new name → OnOk result (IsSettled new name (base_of (fresh size raw)))
settled tells result old mid written new name size raw page so page_is kept put is = on_ok_weaker result by (is.durable so)
  where
    reads : written.files name ≡ with_page kept.file (0 * length page) page
    reads = with_file-named mid.files written.files name _ put ∙ ap (λ (x : File). with_page x (0 * length page) page) kept.reads

    shown : (d : File) → owner name (written.files name) d ≡ Ok (base_of (fresh size raw))
    shown d = subst (λ (x : File). owner name x d ≡ Ok (base_of (fresh size raw))) (sym reads) (kept.whole page page_is d)

    by : IsDurable new name (written.files name) → IsSettled new name (base_of (fresh size raw))
    by durable = record {
      left = λ files left. subst (λ (x : File). owner name x (files (delta_name name)) ≡ Ok (base_of (fresh size raw))) (sym (durable_is new name (written.files name) durable (files name) (left name))) (shown (files (delta_name name)));
      shows = subst (λ (f : Files). ShowsIn name (base_of (fresh size raw)) f) (sym is.still.files) (shown (written.files (delta_name name)));
    }

-- and it is no longer than its pages
pub made_within : {T E : Type 0} (tells : Bool) (result : Result T E) (mid written new : World) (name : List ℕ) (most size : ℕ) (page : List ℕ) → IsTrue tells → EndsWithin (most * size) (mid.files name) × (0 < most) → length page ≡ size
    → written.files ≡ with_file mid.files name (with_page (mid.files name) (0 * length page) page) → Syncs tells result written new name → OnOk result (FileIs new name (EndsWithin (most * size)))
made_within tells result mid written new name most size page so within long put is = on_ok_weaker result by (is.durable so)
  where
    reads : EndsWithin (most * size) (written.files name)
    reads = subst (EndsWithin (most * size)) (sym (with_file-named mid.files written.files name _ put)) (put_within 0 most size page (mid.files name) long within.1 within.0)

    by : IsDurable new name (written.files name) → FileIs new name (EndsWithin (most * size))
    by durable = record {
      reads = subst (λ (f : Files). EndsWithin (most * size) (f name)) (sym is.still.files) reads;
      left = λ c left. subst (EndsWithin (most * size)) (sym (durable_is new name (written.files name) durable c left)) reads;
    }
