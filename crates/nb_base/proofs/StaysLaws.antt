-- How what holds of one file goes on: through calls that don't touch it, through a page write, and through operations one after another.
use Rattle.std.proofs.Common.{◌≡◌, ◌≢◌, inl, inr, ⊎_elim, ℕ, suc, ◌+◌, ◌*◌, ◌<◌, ◌≤◌, List, [], ◌∷◌, ◌++◌, length, take, drop, replicate, refl, sym, ◌∙◌, ap, subst, arith, length-append, mul-le-mul_right, suc-mul, Bool, IsTrue, Result, Ok, Err}
use Rattle.nb_base.proofs.Common.{drop_all, drop_at, length-drop, length-replicate, stalled_state, File, Files, bytes_of, with_file, put_at, padded, World, PageLeft, IsStill, IsDurable, WholeOrNot, WritesPage, IsTimely, Passes, Names, Only, Changes, WritesIn, Quiet, delta_name, durable_is, left_before, with_file-same, Stroke, Trail, after_stroke, Base, Page, merged_page, stroke_page, trail_base, with_page_length}
use Rattle.nb_host.specs.Files.{with_page}
use Rattle.nb_host.specs.Names.{delta_suffix}
use Rattle.nb_model.specs.Strokes.{page as page_stroke}
use Rattle.nb_host.proofs.FileLaws.{length-front}
use Rattle.nb_change.proofs.MomentLaws.{started, goes_on, joined, weaker}
use Rattle.nb_base.specs.Stays.{FileIs, FileStays, KeepsFile, EndsWithin, HasAfterFirst, AreWithin, GrowsWithin}
use Rattle.nb_base.specs.Takes.{after_strokes}

-- a weaker fact
pub stays_weaker : (old new : World) (name : List ℕ) (P Q : File → Type 0) → FileStays old new name P → ((c : File) → P c → Q c) → FileStays old new name Q
stays_weaker old new name P Q is pq = record {
  moments = weaker old new _ _ is.moments (λ files said p. pq (files name) p);
  now = record { reads = pq (new.files name) is.now.reads; left = λ c left. pq c (is.now.left c left) };
}

-- calls that change no file
pub still_is : (old new : World) (name : List ℕ) (P : File → Type 0) → IsStill old new → FileIs old name P → FileIs new name P
still_is old new name P still is = record {
  reads = subst (λ (f : Files). P (f name)) (sym still.files) is.reads;
  left = λ c left. is.left c (left_before old new _ still.left name c tt left);
}

pub quiet_keeps : (old new : World) (name : List ℕ) (P : File → Type 0) → Quiet old new → KeepsFile old new name P
quiet_keeps old new name P quiet is = record {
  moments = weaker old new _ _ quiet.moments (λ files said now. is.left (files name) (now.left name));
  now = still_is old new name P quiet.still is;
}

-- calls that don't touch it
pub other_keeps : (old new : World) (names : Names) (Q : Files → Type 0) (name : List ℕ) (P : File → Type 0) → Changes old new names Q → (names name → ⊥) → KeepsFile old new name P
other_keeps old new names Q name P changes other is = record {
  moments = weaker old new _ _ changes.moments (λ files said left. is.left (files name) (left.others name other));
  now = record { reads = subst P (sym (changes.others_read name other)) is.reads; left = λ c left. is.left c (left_before old new _ changes.others name c other left) };
}

-- no call
pub begun_keeps : (old : World) (name : List ℕ) (P : File → Type 0) → IsTimely old → KeepsFile old old name P
begun_keeps old name P timely is = record { moments = started old _ timely (λ files said now. is.left (files name) (now.left name)); now = is }

-- calls after calls
pub keeps_joined : (old mid new : World) (name : List ℕ) (P : File → Type 0) → KeepsFile old mid name P → KeepsFile mid new name P → KeepsFile old new name P
keeps_joined old mid new name P first second is =
    let one = first is in
    let two = second one.now in
    record { moments = joined old mid new _ _ _ one.moments two.moments (λ files said p. p) (λ files said p. p); now = two.now }

-- one call
pub call_keeps : (old new : World) (name : List ℕ) (P : File → Type 0) → IsTimely old → Passes old new → FileIs old name P → FileIs new name P → FileStays old new name P
call_keeps old new name P timely time is now = record {
  moments = goes_on old old new _ _ (started old _ timely (λ files said here. is.left (files name) (here.left name))) time (λ files said here. now.left (files name) (here.left name));
  now = now;
}

-- one call that changes no file
pub still_keeps : (old new : World) (name : List ℕ) (P : File → Type 0) → IsTimely old → Passes old new → IsStill old new → KeepsFile old new name P
still_keeps old new name P timely time still is = call_keeps old new name P timely time is (still_is old new name P still is)

-- a page write
pub page_is : {T E : Type 0} (tells : Bool) (result : Result T E) (old new : World) (name : List ℕ) (at : ℕ) (page : List ℕ) (P : File → Type 0) → IsTrue tells → WritesPage tells result old new name at page
    → ((b c : File) → P b → PageLeft at page b c → P c) → FileIs old name P → FileIs new name P
page_is {T} {E} tells result old new name at page P told writes by is = record {
  reads = read result (writes.files told);
  left = λ c. ⊎_elim (λ back. is.left c (inl (writes.left.back c back))) (λ now. let from = writes.left.now c now in by from.0 c (is.left from.0 (inr from.1)) from.2);
}
  where
    put : File
    put = with_page (old.files name) at page

    done : new.files ≡ with_file old.files name put → P (new.files name)
    done same = subst P (sym (ap (λ (f : Files). f name) same ∙ with_file-same old.files name put)) (by (old.files name) put is.reads (inr (inl refl)))

    read : (result : Result T E) → WholeOrNot result old.files (with_file old.files name put) new.files → P (new.files name)
    read (Ok value) same = done same
    read (Err fault) either = ⊎_elim (λ same. subst (λ (f : Files). P (f name)) (sym same) is.reads) done either

pub page_keeps : {T E : Type 0} (tells : Bool) (result : Result T E) (old new : World) (name : List ℕ) (at : ℕ) (page : List ℕ) (P : File → Type 0) → IsTrue tells → IsTimely old → WritesPage tells result old new name at page → Passes old new
    → ((b c : File) → P b → PageLeft at page b c → P c) → KeepsFile old new name P
page_keeps tells result old new name at page P told timely writes time by is = call_keeps old new name P timely time is (page_is tells result old new name at page P told writes by is)

-- the length of a file with a page at that place
put-within : (most at : ℕ) (bytes page : List ℕ) → at + length page ≤ most → length bytes ≤ most → length (put_at bytes at page) ≤ most
unfolding put_at
put-within most at bytes page inside within =
    let all : length (put_at bytes at page) ≡ at + (length page + length (drop (at + length page) bytes)) = length-append (take at (padded bytes at)) _ ∙ ap (λ n. n + length (page ++ drop (at + length page) bytes)) (length-front bytes at) ∙ ap (λ n. at + n) (length-append page _) in
    omega (arith, all, length-drop (at + length page) bytes, inside, within)

left-within : (most at : ℕ) (page : List ℕ) → at + length page ≤ most → (b c : File) → EndsWithin most b → PageLeft at page b c → EndsWithin most c
left-within most at page inside b c within (inl same) = subst (EndsWithin most) (sym same) within
left-within most at page inside b c within (inr (inl put)) = subst (EndsWithin most) (sym put) (put-within most at (bytes_of b) page inside within)
left-within most at page inside b c within (inr (inr (k, fits, grown))) =
    subst (EndsWithin most) (sym grown) (omega (arith, length-append (bytes_of b) (replicate (k * length page) 0), length-replicate {A = ℕ} (k * length page) 0, fits, inside))

-- a page put where it is one of at most so many
inside_pages : (p most size n : ℕ) → n ≡ size → p < most → p * n + n ≤ most * size
inside_pages p most size n long inside = let enough : suc p * size ≤ most * size = mul-le-mul_right size inside in omega (arith, enough, suc-mul p size, ap (λ k. p * k) long, long)

pub put_within : (p most size : ℕ) (page : List ℕ) (file : File) → length page ≡ size → p < most → EndsWithin (most * size) file → EndsWithin (most * size) (with_page file (p * length page) page)
put_within p most size page file long inside within = put-within (most * size) (p * length page) (bytes_of file) page (inside_pages p most size (length page) long inside) within

-- page p of a file of at most so many pages
pub page_within : {T E : Type 0} (tells : Bool) (result : Result T E) (old new : World) (name : List ℕ) (p most size : ℕ) (page : List ℕ) → IsTrue tells → IsTimely old → WritesPage tells result old new name (p * length page) page → Passes old new
    → length page ≡ size → p < most → KeepsFile old new name (EndsWithin (most * size))
page_within tells result old new name p most size page told timely writes time long inside =
    page_keeps tells result old new name (p * length page) page _ told timely writes time
    (left-within (most * size) (p * length page) page (inside_pages p most size (length page) long inside))

-- page 0
first-put : (size : ℕ) (page bytes : List ℕ) → length page ≡ size → drop size (put_at bytes (0 * length page) page) ≡ drop size bytes
unfolding put_at
first-put size page bytes long =
    let none : 0 * length page ≡ 0 = omega arith in
    ap (λ n. drop size (take n (padded bytes n) ++ (page ++ drop (n + length page) bytes))) none ∙ drop_at page (drop (0 + length page) bytes) size long ∙ ap (λ n. drop n bytes) (let e : 0 + length page ≡ size = omega (arith, long) in e)

first-left : (size : ℕ) (rest page : List ℕ) → length page ≡ size → (b c : File) → HasAfterFirst size rest b → PageLeft (0 * length page) page b c → HasAfterFirst size rest c
first-left size rest page long b c is (inl same) = subst (HasAfterFirst size rest) (sym same) is
first-left size rest page long b c is (inr (inl put)) = subst (HasAfterFirst size rest) (sym put) (first-put size page (bytes_of b) long ∙ is)
first-left size rest page long b c is (inr (inr (k, fits, grown))) =
    let short : length (bytes_of b ++ replicate (k * length page) 0) ≤ size = omega (arith, length-append (bytes_of b) (replicate (k * length page) 0), length-replicate {A = ℕ} (k * length page) 0, fits, long) in
    subst (HasAfterFirst size rest) (sym grown) (drop_all size (bytes_of b ++ replicate (k * length page) 0) short ∙ sym (drop_all size (bytes_of b) (omega (arith, short, length-append (bytes_of b) (replicate (k * length page) 0)))) ∙ is)

pub first_rest : {T E : Type 0} (tells : Bool) (result : Result T E) (old new : World) (name : List ℕ) (size : ℕ) (rest page : List ℕ) → IsTrue tells → IsTimely old → WritesPage tells result old new name (0 * length page) page → Passes old new
    → length page ≡ size → KeepsFile old new name (HasAfterFirst size rest)
first_rest tells result old new name size rest page told timely writes time long = page_keeps tells result old new name (0 * length page) page _ told timely writes time (first-left size rest page long)

-- images on the way, of the first operations and of those after them
pub within_first : (most : ℕ) (t : Trail) (xs : List Stroke) → AreWithin most t xs → length t.base.image ≤ most
within_first most t [] is = is
within_first most t (x ∷ xs) is = is.0

pub within_front : (most : ℕ) (t : Trail) (xs ys : List Stroke) → AreWithin most t (xs ++ ys) → AreWithin most t xs
within_front most t [] ys is = within_first most t ys is
within_front most t (x ∷ xs) ys is = (is.0, within_front most (after_stroke x t) xs ys is.1)

pub within_past : (most : ℕ) (t : Trail) (xs ys : List Stroke) → AreWithin most t (xs ++ ys) → AreWithin most (after_strokes t xs) ys
within_past most t [] ys is = is
within_past most t (x ∷ xs) ys is = within_past most (after_stroke x t) xs ys is.1

-- operations after operations
pub grows_joined : (old mid new : World) (name : List ℕ) (size : ℕ) (t : Trail) (xs ys : List Stroke) → GrowsWithin old mid name size t xs → GrowsWithin mid new name size (after_strokes t xs) ys → GrowsWithin old new name size t (xs ++ ys)
grows_joined old mid new name size t xs ys first second most within =
    keeps_joined old mid new name _ (first most (within_front most t xs ys within)) (second most (within_past most t xs ys within))

pub grows_front : (old new : World) (name : List ℕ) (size : ℕ) (t : Trail) (xs ys : List Stroke) → GrowsWithin old new name size t xs → GrowsWithin old new name size t (xs ++ ys)
grows_front old new name size t xs ys grows most within = grows most (within_front most t xs ys within)

-- and where none was made yet
pub grows_first : (old new : World) (name : List ℕ) (size : ℕ) (t : Trail) (xs : List Stroke) → GrowsWithin old new name size t [] → GrowsWithin old new name size t xs
grows_first old new name size t xs grows most within = grows most (within_first most t xs within)

pub grows_not : (old new : World) (name : List ℕ) (size : ℕ) (t : Trail) (xs : List Stroke) → Quiet old new → GrowsWithin old new name size t xs
grows_not old new name size t xs quiet most within = quiet_keeps old new name _ quiet

-- the difference file has another name
pub delta-other : (name : List ℕ) → name ≢ delta_name name
delta-other name same = absurd (omega (arith, ap length same, length-append name delta_suffix))

-- in the stalled state the main file stays byte for byte
pub frozen_keeps : (old new : World) (state : ℕ) (name : List ℕ) (P : File → Type 0) → state ≡ stalled_state → WritesIn old new state name → KeepsFile old new name P
frozen_keeps old new state name P stalled is =
    other_keeps old new (Only (delta_name name)) _ name P (subst (λ n. WritesIn old new n name) stalled is) (delta-other name)

-- a durable file is that file
pub durable_file : (w : World) (name : List ℕ) (file : File) → w.files name ≡ file → IsDurable w name file → FileIs w name (λ f. f ≡ file)
durable_file w name file reads durable = record { reads = reads; left = durable_is w name file durable }

-- what is written beside the main file, under the name of the difference file
pub delta_keeps : (old new : World) (name delta : List ℕ) (Q : Files → Type 0) (P : File → Type 0) → delta ≡ delta_name name → Changes old new (Only delta) Q → KeepsFile old new name P
delta_keeps old new name delta Q P named is = other_keeps old new (Only delta) Q name P is (λ same. delta-other name (same ∙ named))

-- the same length in other words
pub keeps_sized : (old new : World) (name : List ℕ) (most a b : ℕ) → a ≡ b → KeepsFile old new name (EndsWithin (most * a)) → KeepsFile old new name (EndsWithin (most * b))
keeps_sized old new name most a b same is = subst (λ n. KeepsFile old new name (EndsWithin (most * n))) same is

-- the same world in other words
pub keeps_from : (old mid new : World) (name : List ℕ) (P : File → Type 0) → mid ≡ old → KeepsFile mid new name P → KeepsFile old new name P
keeps_from old mid new name P same is = subst (λ (w : World). KeepsFile w new name P) same is

-- no call
pub grows_none : (old new : World) (name : List ℕ) (size : ℕ) (t : Trail) (xs : List Stroke) → IsTimely old → new ≡ old → GrowsWithin old new name size t xs
grows_none old new name size t xs timely same most within = subst (λ (w : World). KeepsFile old w name (EndsWithin (most * size))) (sym same) (begun_keeps old name (EndsWithin (most * size)) timely)

-- a page that is written is one of the image that is seen then
pub written_within : (most : ℕ) (t : Trail) (p : ℕ) (bytes : Page) → p ≤ length t.base.image → AreWithin most t (page_stroke p bytes ∷ []) → p < most
written_within most t p bytes low within =
    let now = ap (λ (b : Base). length b.image) (trail_base (page_stroke p bytes) t) ∙ ap length (stroke_page t.base p bytes) ∙ with_page_length p (merged_page p bytes t.base.image) t.base.image low in
    omega (arith, within.1, now)
