-- What level files say of pages tells which pages of the image that a chain gives are all zeros.
use Rattle.std.proofs.Common.{◌≡◌, ◌≢◌, inl, inr, ℕ, zero, suc, ◌+◌, ◌-◌, ◌*◌, ◌/◌, ◌<◌, ◌≤◌, List, [], ◌∷◌, ◌++◌, length, replicate, get_or, set, refl, sym, ap, ◌∙◌, arith, length-append, get_or-set_other, Bool, true, false, nat_lt, max}
use Rattle.nb_chain.proofs.Common.{cases_lt, cases_eq, get_or_append_left, get_or-append_right, get_or-set_same, get_or_past, is_zeros, part, size_of, Page, Image, Numbered, page_at, cut, trimmed, written_at, overwritten, Link, whole_link, all_over, applied, Pages, pages_of, cut-joined, page-joined, zeros-are, lt_no, lt_yes, Mark, mark_of, grown, noted, all_noted, links_noted, is_blank_by, is_blank, without_blank}
use Rattle.std.proofs.Math.ListN.{length-set, length-replicate}
use Rattle.std.proofs.Math.Nat.{mul-div_cancel}
use Rattle.nb_chain.specs.declared.overlay.Mark.TheVariants.{Untouched, Zeros, Filled}
use Rattle.nb_chain.proofs.CountLaws.{length_trimmed, counted_alike}
use Rattle.nb_model.proofs.LineLaws.{writes_all}
use Rattle.nb_model.proofs.OwnerLaws.{tail_length}

-- room after a list is read as its end
same-grown : {X : Type 0} (xs : List X) (k p : ℕ) (d : X) → get_or (xs ++ replicate k d) p d ≡ get_or xs p d
same-grown [] k p d = past k p
  where
    past : (k p : ℕ) → get_or (replicate k d) p d ≡ d
    past zero p = refl
    past (suc k) zero = refl
    past (suc k) (suc p) = past k p
same-grown (x ∷ xs) k zero d = refl
same-grown (x ∷ xs) k (suc p) d = same-grown xs k p d

-- The pages of an image are all zeros where the marks say so, and where they say nothing as before. Pages before are below n.
record Shows (before : ℕ → Bool) (n : ℕ) (image : Image) (marks : List Mark) : Type 0 where
  pub long : length image ≡ max n (length marks)
  pub blank : (p : ℕ) → is_zeros (page_at image p) ≡ is_blank_by (get_or marks p Untouched) (before p)

marked : (page : Page) (before : Bool) → is_blank_by (mark_of page) before ≡ is_zeros page
unfolding mark_of
marked page before = from (is_zeros page)
  where
    from : (b : Bool) → is_blank_by (elim b [ true ↦ Zeros | false ↦ Filled ]) before ≡ b
    from true = refl
    from false = refl

-- the marks with one noted
length-grown : (marks : List Mark) (n : ℕ) → length (grown marks n) ≡ max (length marks) (n + 1)
length-grown marks n = omega (arith, length-append marks (replicate (n + 1 - length marks) Untouched), length-replicate (n + 1 - length marks) Untouched)

length-noted : (marks : List Mark) (r : Numbered) → length (noted marks r) ≡ max (length marks) (r.0 + 1)
unfolding noted
length-noted marks r = length-set (grown marks r.0) r.0 (mark_of r.1) ∙ length-grown marks r.0

noted-here : (marks : List Mark) (r : Numbered) → get_or (noted marks r) r.0 Untouched ≡ mark_of r.1
unfolding noted
noted-here marks r = get_or-set_same (grown marks r.0) r.0 (mark_of r.1) Untouched (omega (arith, length-grown marks r.0))

noted-other : (marks : List Mark) (r : Numbered) (p : ℕ) → p ≢ r.0 → get_or (noted marks r) p Untouched ≡ get_or marks p Untouched
unfolding noted
noted-other marks r p h = get_or-set_other (grown marks r.0) r.0 p (mark_of r.1) Untouched h ∙ same-grown marks (r.0 + 1 - length marks) p Untouched

-- the image with one page written over
pub written-inside : (size : ℕ) (r : Numbered) (image : Image) → r.0 < length image → written_at size r image ≡ set image r.0 r.1
unfolding written_at
written-inside size r image h = rw (lt_yes r.0 (length image) h, written_at) refl

pub written-past : (size : ℕ) (r : Numbered) (image : Image) → length image ≤ r.0 → written_at size r image ≡ image ++ (replicate (r.0 - length image) (replicate size 0) ++ r.1 ∷ [])
unfolding written_at
written-past size r image h = rw (lt_no r.0 (length image) h, written_at) refl

gap-last : (k : ℕ) (z p : Page) → get_or (replicate k z ++ p ∷ []) k [] ≡ p
gap-last zero z p = refl
gap-last (suc k) z p = gap-last k z p

gap-zeros : (k i : ℕ) (z p : Page) → is_zeros z ≡ true → i ≢ k → is_zeros (get_or (replicate k z ++ p ∷ []) i []) ≡ true
gap-zeros zero zero z p e h = absurd (h refl)
gap-zeros zero (suc i) z p e h = refl
gap-zeros (suc k) zero z p e h = e
gap-zeros (suc k) (suc i) z p e h = gap-zeros k i z p e (λ same. h (ap suc same))

pub length-written : (size : ℕ) (r : Numbered) (image : Image) → length (written_at size r image) ≡ max (length image) (r.0 + 1)
length-written size r image = elim (cases_lt r.0 (length image)) [
  | inl w ↦ ap length (written-inside size r image w) ∙ length-set image r.0 r.1 ∙ omega arith
  | inr w ↦
      let gap : List Page = replicate (r.0 - length image) (replicate size 0) ++ r.1 ∷ [] in
      ap length (written-past size r image w) ∙ omega (arith, length-append image gap, tail_length (r.0 - length image) (replicate size 0) r.1)
]

written-here : (size : ℕ) (r : Numbered) (image : Image) → page_at (written_at size r image) r.0 ≡ r.1
written-here size r image = elim (cases_lt r.0 (length image)) [
  | inl w ↦ ap (λ (x : Image). page_at x r.0) (written-inside size r image w) ∙ get_or-set_same image r.0 r.1 [] w
  | inr w ↦
      let k : ℕ = r.0 - length image in
      ap (λ (x : Image). page_at x r.0) (written-past size r image w)
      ∙ get_or-append_right image (replicate k (replicate size 0) ++ r.1 ∷ []) (length image) r.0 [] refl w ∙ gap-last k (replicate size 0) r.1
]

written-other : (size : ℕ) (r : Numbered) (image : Image) (p : ℕ) → p ≢ r.0 → is_zeros (page_at (written_at size r image) p) ≡ is_zeros (page_at image p)
written-other size r image p h = elim (cases_lt r.0 (length image)) [
  | inl w ↦ ap (λ (x : Image). is_zeros (page_at x p)) (written-inside size r image w) ∙ ap is_zeros (get_or-set_other image r.0 p r.1 [] h)
  | inr w ↦
      let k : ℕ = r.0 - length image in
      let gap : List Page = replicate k (replicate size 0) ++ r.1 ∷ [] in
      ap (λ (x : Image). is_zeros (page_at x p)) (written-past size r image w) ∙ elim (cases_lt p (length image)) [
        | inl v ↦ ap is_zeros (get_or_append_left image gap [] p v)
        | inr v ↦
            let apart : p - length image ≢ k = λ same. h (omega arith) in
            ap is_zeros (get_or-append_right image gap (length image) p [] refl v) ∙ gap-zeros k (p - length image) (replicate size 0) r.1 (zeros-are size) apart
            ∙ sym (ap is_zeros (get_or_past image p [] v))
      ]
]

-- one page more
shows-one : (before : ℕ → Bool) (n size : ℕ) (r : Numbered) (image : Image) (marks : List Mark) → Shows before n image marks → Shows before n (written_at size r image) (noted marks r)
shows-one before n size r image marks shows = record {
  long = omega (arith, shows.long, length-written size r image, length-noted marks r);
  blank = λ p. elim (cases_eq p r.0) [
    | inl w ↦
        ap (λ (k : ℕ). is_zeros (page_at (written_at size r image) k)) w ∙ ap is_zeros (written-here size r image) ∙ sym (marked r.1 (before p))
        ∙ sym (ap (λ (m : Mark). is_blank_by m (before p)) (ap (λ (k : ℕ). get_or (noted marks r) k Untouched) w ∙ noted-here marks r))
    | inr w ↦ written-other size r image p w ∙ shows.blank p ∙ sym (ap (λ (m : Mark). is_blank_by m (before p)) (noted-other marks r p w))
  ];
}

-- the pages of a file, and of each file
shows-file : (before : ℕ → Bool) (n size : ℕ) (rs : List Numbered) (image : Image) (marks : List Mark) → Shows before n image marks → Shows before n (overwritten size rs image) (all_noted rs marks)
unfolding overwritten all_noted
shows-file before n size [] image marks shows = shows
shows-file before n size (r ∷ rs) image marks shows = shows-file before n size rs (written_at size r image) (noted marks r) (shows-one before n size r image marks shows)

shows-files : (before : ℕ → Bool) (n : ℕ) (ls : List Link) (image : Image) (marks : List Mark) → Shows before n image marks → Shows before n (all_over ls image) (links_noted ls marks)
unfolding all_over links_noted
shows-files before n [] image marks shows = shows
shows-files before n (l ∷ ls) image marks shows = shows-files before n ls (overwritten l.size l.pages image) (all_noted l.pages marks) (shows-file before n l.size l.pages image marks shows)

-- so many pages of bytes, one by one
before_page : (size n : ℕ) → List ℕ → ℕ → Bool
before_page size n bytes p = elim (nat_lt p n) [ true ↦ is_zeros (part (p * size) size bytes) | false ↦ true ]

blank_is : (bytes : List ℕ) (size n : ℕ) (marks : List Mark) (p : ℕ) → is_blank bytes size n marks p ≡ is_blank_by (get_or marks p Untouched) (before_page size n bytes p)
unfolding is_blank before_page
blank_is bytes size n marks p = refl

page_inside : (size n : ℕ) (bytes : List ℕ) (p : ℕ) → p < n → before_page size n bytes p ≡ is_zeros (part (p * size) size bytes)
unfolding before_page
page_inside size n bytes p h = rw (lt_yes p n h, before_page) refl

page_outside : (size n : ℕ) (bytes : List ℕ) (p : ℕ) → n ≤ p → before_page size n bytes p ≡ true
unfolding before_page
page_outside size n bytes p h = rw (lt_no p n h, before_page) refl

-- nothing is said of whole pages as yet
module _ (size n : ℕ) (bytes : List ℕ) (wide : 0 < size) (long : length bytes ≡ n * size) where
  all : Pages size bytes n
  all = pages_of size n bytes long

  cut_is : cut size n bytes ≡ all.pages
  cut_is = ap (cut size n) all.is ∙ cut-joined size n all.pages all.sizes wide (omega (arith, all.count))

  shows-none : Shows (before_page size n bytes) n (cut size n bytes) []
  shows-none = record {
    long = omega (arith, ap (λ (x : Image). length x) cut_is, all.count);
    blank = λ p. elim (cases_lt p n) [
      | inl w ↦
          ap (λ (x : Image). is_zeros (page_at x p)) cut_is ∙ ap is_zeros (sym (page-joined size p all.pages all.sizes (omega (arith, w, all.count))))
          ∙ ap (λ (x : List ℕ). is_zeros (part (p * size) size x)) (sym all.is) ∙ sym (page_inside size n bytes p w)
      | inr w ↦
          ap (λ (x : Image). is_zeros (page_at x p)) cut_is ∙ ap is_zeros (get_or_past all.pages p [] (omega (arith, w, all.count))) ∙ sym (page_outside size n bytes p w)
    ];
  }

-- After whole pages come the files of a chain.
module _ (bytes : List ℕ) (n : ℕ) (ls : List Link) (wide : 0 < size_of bytes) (long : length bytes ≡ n * size_of bytes) where
  pub over : all_over (whole_link bytes ∷ ls) [] ≡ all_over ls (cut (size_of bytes) n bytes)
  unfolding all_over
  over =
      let count : length bytes / size_of bytes ≡ n = ap (λ x. x / size_of bytes) long ∙ mul-div_cancel n wide in
      ap (all_over ls) (writes_all (size_of bytes) 0 [] (cut (size_of bytes) (length bytes / size_of bytes) bytes) refl) ∙ ap (λ (k : ℕ). all_over ls (cut (size_of bytes) k bytes)) count

  shows : Shows (before_page (size_of bytes) n bytes) n (all_over ls (cut (size_of bytes) n bytes)) (links_noted ls [])
  shows = shows-files (before_page (size_of bytes) n bytes) n ls (cut (size_of bytes) n bytes) [] (shows-none (size_of bytes) n bytes wide long)

  -- how many pages there are, pages of zeros at the end among them
  pub chain_length : length (all_over (whole_link bytes ∷ ls) []) ≡ max n (length (links_noted ls []))
  chain_length = ap (λ (x : Image). length x) over ∙ shows.long

  -- and without them
  pub chain_count : length (applied (whole_link bytes ∷ ls)) ≡ without_blank (is_blank bytes (size_of bytes) n (links_noted ls [])) (max n (length (links_noted ls [])))
  unfolding applied
  chain_count =
      let image : Image = all_over ls (cut (size_of bytes) n bytes) in
      ap (λ (x : Image). length (trimmed x)) over ∙ length_trimmed image
      ∙ counted_alike (λ p. is_zeros (page_at image p)) (is_blank bytes (size_of bytes) n (links_noted ls []))
      (λ p. shows.blank p ∙ sym (blank_is bytes (size_of bytes) n (links_noted ls []) p)) (length image)
      ∙ ap (without_blank (is_blank bytes (size_of bytes) n (links_noted ls []))) shows.long
