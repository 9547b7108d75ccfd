-- Files that are written over an image one after the other, and all at once by their fold.
use Rattle.std.proofs.Common.{◌≡◌, ◌≢◌, inl, inr, ℕ, zero, suc, ◌+◌, ◌<◌, ◌≤◌, List, [], ◌∷◌, ◌++◌, refl, sym, ap, subst, ◌∙◌, arith, true, false, Option, Some, None, Result, Ok, Err}
use Rattle.nb_fold.proofs.Common.{AllByRecursion, eqb_tells, leb_tells, most_pages, File, Files, Refusal, NoFile, BadLevel, Cause, Page, Image, Numbered, trimmed, written_at, overwritten, Contents, Head, AreRising, read_level, main_page, Link, all_over, applied, level_link, other_page, eq_no, trimmed_alike, goes_behind, folded, folded_from, folded_pages, last_page, or_before, page_of, pages_of_each, with_number, AllRise, links_of, chained, file_after, files_after, not_after, with_files, level_pages, all_over-append, ok_same, err_not_ok}
use Rattle.nb_inplace.proofs.PagesLaws.{written_page}
use Rattle.nb_fold.proofs.FoldedLaws.{folded_rises, none_above, none_below}

-- the page that is seen where one is written, or none
abbrev pub seen : Option Page → (before : Page) → Page
seen (Some page) before = page
seen None before = before

seen-or : (a b : Option Page) (before : Page) → seen a (seen b before) ≡ seen (or_before a b) before
seen-or (Some page) b before = refl
seen-or None b before = refl

-- the pages of a file over those of an image
pub page_over : (size least : ℕ) (rs : List Numbered) (image : Image) (p : ℕ) → AreRising least rs → main_page size (overwritten size rs image) p ≡ seen (page_of p rs) (main_page size image p)
unfolding overwritten
page_over size least [] image p rise = refl
page_over size least (r ∷ rs) image p rise =
    page_over size (r.0 + 1) rs (written_at size r image) p rise.2 ∙ elim (eqb_tells r.0 p) [
      | inl w ↦
          ap (λ o. seen o (main_page size (written_at size r image) p)) (none_below p (r.0 + 1) rs rise.2 (omega (arith, w.1))) ∙ ap (main_page size (written_at size r image)) (sym w.1) ∙ written_page size r image
          ∙ sym (ap (λ b. seen (elim b as (λ x. Option Page) [ true ↦ Some r.1 | false ↦ page_of p rs ]) (main_page size image p)) w.0)
      | inr w ↦
          let other : p ≢ r.0 = λ e. w.1 (sym e) in
          ap (seen (page_of p rs)) (other_page size r.0 r.1 image p other) ∙ sym (ap (λ b. seen (elim b as (λ x. Option Page) [ true ↦ Some r.1 | false ↦ page_of p rs ]) (main_page size image p)) w.0)
    ]

-- those of several files, one after the other
abbrev pub over_each : (size : ℕ) → List (List Numbered) → Image → Image
over_each size [] image = image
over_each size (rs ∷ rss) image = over_each size rss (overwritten size rs image)

pub page_each : (size : ℕ) (rss : List (List Numbered)) (image : Image) (p : ℕ) → AllRise 0 rss → main_page size (over_each size rss image) p ≡ seen (last_page p rss) (main_page size image p)
page_each size [] image p rise = refl
page_each size (rs ∷ rss) image p rise =
    page_each size rss (overwritten size rs image) p rise.1 ∙ ap (seen (last_page p rss)) (page_over size 0 rs image p rise.0) ∙ seen-or (last_page p rss) (page_of p rs) (main_page size image p)

-- The fold has of each number the page of the last file that has it.
number_there : (p : ℕ) (o : Option Page) (rs : List Numbered) → page_of p rs ≡ None → page_of p (with_number p o rs) ≡ o
number_there p (Some page) rs none = elim (eqb_tells p p) [ inl w ↦ rw (w.0, page_of) refl | inr w ↦ absurd (w.1 refl) ]
number_there p None rs none = none

number_other : (p k : ℕ) (o : Option Page) (rs : List Numbered) → k ≢ p → page_of p (with_number k o rs) ≡ page_of p rs
number_other p k (Some page) rs other = rw (eq_no k p other, page_of) refl
number_other p k None rs other = refl

folded_has : (left k p : ℕ) (rss : List (List Numbered)) → k + left ≤ most_pages → k ≤ p → p < k + left → page_of p (folded_from left k rss) ≡ last_page p rss
unfolding folded_from
folded_has zero k p rss most low high = absurd (omega (arith, low, high))
folded_has (suc left) k p rss most low high = elim (eqb_tells k p) [
  | inl w ↦
      ap (λ n. page_of p (with_number n (last_page n rss) (folded_from left (k + 1) rss))) w.1
      ∙ number_there p (last_page p rss) (folded_from left (k + 1) rss) (none_below p (k + 1) (folded_from left (k + 1) rss) (folded_rises left (k + 1) rss (omega (arith, most))) (omega (arith, w.1)))
  | inr w ↦ number_other p k (last_page k rss) (folded_from left (k + 1) rss) w.1 ∙ folded_has left (k + 1) p rss (omega (arith, most)) (above k p low w.1) (omega (arith, high))
]
  where
    above : (a b : ℕ) → a ≤ b → a ≢ b → a + 1 ≤ b
    above a b l other = elim (eqb_tells a b) [ inl e ↦ absurd (other e.1) | inr e ↦ omega (arith, l, e.1) ]

last_above : (p : ℕ) (rss : List (List Numbered)) → AllRise 0 rss → most_pages ≤ p → last_page p rss ≡ None
last_above p [] rise high = refl
last_above p (rs ∷ rss) rise high = ap (λ o. or_before o (page_of p rs)) (last_above p rss rise.1 high) ∙ none_above p 0 rs rise.0 high

-- the page of a number in the fold is that of the last file that has it
pub folded_page : (p : ℕ) (rss : List (List Numbered)) → AllRise 0 rss → page_of p (folded_pages rss) ≡ last_page p rss
folded_page p rss rise = elim (leb_tells (suc p) most_pages) [
  | inl w ↦ folded_has most_pages 0 p rss (omega arith) (omega arith) (omega (arith, w.1))
  | inr w ↦ none_above p 0 (folded_pages rss) (folded_rises most_pages 0 rss (omega arith)) (omega (arith, w.1)) ∙ sym (last_above p rss rise (omega (arith, w.1)))
]

-- So the image is the same, but for pages of zeros at its end.
pub folded_over : (size : ℕ) (rss : List (List Numbered)) (image : Image) → AllRise 0 rss → trimmed (over_each size rss image) ≡ trimmed (overwritten size (folded_pages rss) image)
folded_over size rss image rise =
    trimmed_alike size (over_each size rss image) (overwritten size (folded_pages rss) image)
    (λ p. page_each size rss image p rise ∙ ap (λ o. seen o (main_page size image p)) (sym (folded_page p rss rise)) ∙ sym (page_over size 0 (folded_pages rss) image p (folded_rises most_pages 0 rss (omega arith))))

-- files whose pages have that size
abbrev pub AreOf : (size : ℕ) → List Contents → Type 0
AreOf size = AllByRecursion (λ (c : Contents). c.head.size ≡ size)

links_over : (size : ℕ) (cs : List Contents) (image : Image) → AreOf size cs → all_over (links_of cs) image ≡ over_each size (pages_of_each cs) image
unfolding all_over
links_over size [] image same = refl
links_over size (c ∷ cs) image same = ap (λ n. all_over (links_of cs) (overwritten n c.pages image)) same.0 ∙ links_over size cs (overwritten size c.pages image) same.1

pub applied_same : (before : List Link) (cs : List Contents) → AreOf (folded cs).head.size cs → AllRise 0 (pages_of_each cs) → applied (before ++ links_of cs) ≡ applied (before ++ level_link (folded cs) ∷ [])
unfolding applied all_over folded
applied_same before cs same rise =
    let size : ℕ = (folded cs).head.size in
    ap trimmed (all_over-append before (links_of cs) [] ∙ links_over size cs (all_over before []) same) ∙ folded_over size (pages_of_each cs) (all_over before []) rise
    ∙ ap trimmed (sym (all_over-append before (level_link (folded cs) ∷ []) []))

-- What files hold that go on from one another: what a head names of the file before it.
pub record GoesAfter (last h : Head) : Type 0 where
  pub level : h.level ≡ last.level + 1
  pub previous : h.previous ≡ last.guid
  pub size : h.size ≡ last.size
  pub previous_scn : h.previous_scn ≡ last.scn

pub goes_after : (last : Contents) (name : List ℕ) (c : Contents) → not_after (Some last) name c ≡ None → GoesAfter last.head c.head
goes_after last name c none =
    let goes = goes_behind (last.head.level + 1) (level_link last) name c none in
    record { level = goes.level; previous = goes.previous; size = goes.size; previous_scn = goes.previous_scn }

-- the next file
pub record IsNextFile (files : Files) (last : Option Contents) (name : List ℕ) (c : Contents) : Type 0 where
  pub bytes : List ℕ
  pub there : files name ≡ Some bytes
  pub read : read_level bytes ≡ Ok c
  pub after : not_after last name c ≡ None

pub next_file : (files : Files) (last : Option Contents) (name : List ℕ) (c : Contents) → file_after files last name ≡ Ok c → IsNextFile files last name c
unfolding file_after
next_file files last name c e = by (files name) refl e
  where
    tested : (bytes : List ℕ) (d : Contents) → files name ≡ Some bytes → read_level bytes ≡ Ok d → (cause : Cause) → not_after last name d ≡ cause → elim cause as (λ x. Result Contents Refusal) [ Some refusal ↦ Err refusal | None ↦ Ok d ] ≡ Ok c → IsNextFile files last name c
    tested bytes d there read (Some r) is h = absurd (err_not_ok r c (Err r) refl h)
    tested bytes d there read None is h =
        let same : d ≡ c = ok_same d c (Ok d) refl h in
        record { bytes = bytes; there = there; read = read ∙ ap Ok same; after = subst (λ (x : Contents). not_after last name x ≡ None) same is }

    whole : (bytes : List ℕ) → files name ≡ Some bytes → (r : Result Contents ℕ) → read_level bytes ≡ r
        → elim r as (λ x. Result Contents Refusal) [ Err at ↦ Err (BadLevel name at) | Ok d ↦ elim (not_after last name d) as (λ x. Result Contents Refusal) [ Some refusal ↦ Err refusal | None ↦ Ok d ] ] ≡ Ok c → IsNextFile files last name c
    whole bytes there (Err at) is h = absurd (err_not_ok (BadLevel name at) c (Err (BadLevel name at)) refl h)
    whole bytes there (Ok d) is h = tested bytes d there is (not_after last name d) refl h

    by : (file : File) → files name ≡ file
        → elim file as (λ x. Result Contents Refusal) [
          | None ↦ Err (NoFile name)
          | Some bytes ↦ elim (read_level bytes) as (λ x. Result Contents Refusal) [ Err at ↦ Err (BadLevel name at) | Ok d ↦ elim (not_after last name d) as (λ x. Result Contents Refusal) [ Some refusal ↦ Err refusal | None ↦ Ok d ] ]
        ] ≡ Ok c → IsNextFile files last name c
    by None is h = absurd (err_not_ok (NoFile name) c (Err (NoFile name)) refl h)
    by (Some bytes) is h = whole bytes is (read_level bytes) refl h

-- and those after it
pub record AreNextFiles (files : Files) (last : Option Contents) (name : List ℕ) (names : List (List ℕ)) (cs : List Contents) : Type 0 where
  pub first : Contents
  pub next : IsNextFile files last name first
  pub rest : List Contents
  pub all : cs ≡ first ∷ rest
  pub more : files_after files (Some first) names ≡ Ok rest

pub next_files : (files : Files) (last : Option Contents) (name : List ℕ) (names : List (List ℕ)) (cs : List Contents) → files_after files last (name ∷ names) ≡ Ok cs → AreNextFiles files last name names cs
unfolding files_after
next_files files last name names cs e = by (file_after files last name) refl e
  where
    behind : (c : Contents) → file_after files last name ≡ Ok c → (r : Result (List Contents) Refusal) → files_after files (Some c) names ≡ r → with_files (c ∷ []) r ≡ Ok cs → AreNextFiles files last name names cs
    behind c is (Err x) more h = absurd (err_not_ok x cs (Err x) refl h)
    behind c is (Ok rest) more h = record { first = c; next = next_file files last name c is; rest = rest; all = ok_same cs (c ∷ rest) (Ok (c ∷ rest)) h refl; more = more }

    by : (r : Result Contents Refusal) → file_after files last name ≡ r → elim r as (λ x. Result (List Contents) Refusal) [ Err refusal ↦ Err refusal | Ok c ↦ with_files (c ∷ []) (files_after files (Some c) names) ] ≡ Ok cs → AreNextFiles files last name names cs
    by (Err x) is h = absurd (err_not_ok x cs (Err x) refl h)
    by (Ok c) is h = behind c is (files_after files (Some c) names) refl h

pub no_files : (files : Files) (last : Option Contents) (cs : List Contents) → files_after files last [] ≡ Ok cs → cs ≡ []
unfolding files_after
no_files files last cs e = sym (ok_same [] cs (Ok []) refl e)

-- their pages rise
pub files_rise : (files : Files) (last : Option Contents) (names : List (List ℕ)) (cs : List Contents) → files_after files last names ≡ Ok cs → AllRise 0 (pages_of_each cs)
files_rise files last [] cs e = subst (λ (x : List Contents). AllRise 0 (pages_of_each x)) (sym (no_files files last cs e)) tt
files_rise files last (name ∷ names) cs e =
    let are = next_files files last name names cs e in
    subst (λ (x : List Contents). AllRise 0 (pages_of_each x)) (sym are.all) ((level_pages are.next.bytes are.first are.next.read).rising, files_rise files (Some are.first) names are.rest are.more)

-- and have one size
sizes_after : (files : Files) (last : Contents) (names : List (List ℕ)) (cs : List Contents) → files_after files (Some last) names ≡ Ok cs → AreOf last.head.size cs
sizes_after files last [] cs e = subst (AreOf last.head.size) (sym (no_files files (Some last) cs e)) tt
sizes_after files last (name ∷ names) cs e =
    let are = next_files files (Some last) name names cs e in
    let same = (goes_after last name are.first are.next.after).size in
    subst (AreOf last.head.size) (sym are.all) (same, subst (λ n. AreOf n are.rest) same (sizes_after files are.first names are.rest are.more))

pub sizes_alike : (files : Files) (names : List (List ℕ)) (cs : List Contents) → chained files names ≡ Ok cs → AreOf (folded cs).head.size cs
unfolding folded
sizes_alike files [] cs e = subst (λ (x : List Contents). AreOf (folded x).head.size x) (sym (no_files files None cs e)) tt
sizes_alike files (name ∷ names) cs e =
    let are = next_files files None name names cs e in
    subst (λ (x : List Contents). AreOf (folded x).head.size x) (sym are.all) (refl, sizes_after files are.first names are.rest are.more)

pub same_image : (files : Files) (names : List (List ℕ)) (cs : List Contents) (before : List Link) → chained files names ≡ Ok cs → applied (before ++ links_of cs) ≡ applied (before ++ level_link (folded cs) ∷ [])
same_image files names cs before e = applied_same before cs (sizes_alike files names cs e) (files_rise files None names cs e)
