-- Laws of lineage.
use Rattle.std.proofs.Common.{◌≡◌, ◌≢◌, inl, inr, ℕ, zero, suc, ◌+◌, ◌-◌, ◌<◌, ◌≤◌, List, [], ◌∷◌, ◌++◌, length, drop, refl, sym, ap, subst, ◌∙◌, set, arith, length-append, length-set, get_or-set_same, get_or-set_other, append_assoc, Contains}
use Rattle.nb_model.proofs.Common.{append-nil, get_or_append_left, eqb_tells, leb_tells, set-append_seam, get_or-append_seam, stamp_of, Page, Image, page_at, image_size, first_page, written_at, overwritten, taken_from, taken, Follows, IsMixed, drop_all}

-- lineage goes on
pub follows_on : {a b c : Image} {s t : ℕ} → Follows a s b → Follows b t c → s ≤ t → Follows a s c
follows_on {a} {b} {c} {s} {t} f g le = record {
  size = g.size ∙ f.size;
  no_shorter = omega (arith, f.no_shorter, g.no_shorter);
  same = λ p h low.
      let later = g.same p h (omega arith) in
      let earlier = f.same p later.0 (subst (λ (x : Page). stamp_of x ≤ s) later.1 low) in
      (earlier.0, later.1 ∙ earlier.1);
}

-- a page at a place with a stamp above s is no page with a stamp of at most s
too_high : (b : Image) (s p q : ℕ) (page : Page) → page_at b p ≡ page → s < stamp_of page → q ≡ p → stamp_of (page_at b q) ≤ s → ⊥
too_high b s p q page is high e low =
    let now : stamp_of page ≤ s = subst (λ (x : Page). stamp_of x ≤ s) is (subst (λ (n : ℕ). stamp_of (page_at b n) ≤ s) e low) in
    omega arith

-- a page that is stamped above s is written over one
pub follows_set : {a b : Image} {s : ℕ} (p : ℕ) (page : Page) → Follows a s b → p < length b → s < stamp_of page → image_size (set b p page) ≡ image_size b → Follows a s (set b p page)
follows_set {a} {b} {s} p page f h high size = record {
  size = size ∙ f.size;
  no_shorter = omega (arith, f.no_shorter, length-set b p page);
  same = λ q k low.
      elim (eqb_tells q p) [
        | inl w ↦ absurd (too_high (set b p page) s p q page (get_or-set_same b p page [] h) high w.1 low)
        | inr w ↦
            let is : page_at (set b p page) q ≡ page_at b q = get_or-set_other b p q page [] w.1 in
            let old = f.same q (omega (arith, length-set b p page)) (subst (λ (x : Page). stamp_of x ≤ s) is low) in
            (old.0, is ∙ old.1)
      ];
}

-- such a page is added at the end
pub follows_add : {a b : Image} {s : ℕ} (page : Page) → Follows a s b → 1 ≤ length b → s < stamp_of page → Follows a s (b ++ page ∷ [])
follows_add {a} {b} {s} page f some high =
    let long : length (b ++ page ∷ []) ≡ length b + 1 = length-append b (page ∷ []) in
    record {
      size = ap (λ (x : Page). image_size (x ∷ [])) (get_or_append_left b (page ∷ []) [] 0 (omega arith)) ∙ f.size;
      no_shorter = omega (arith, f.no_shorter);
      same = λ q k low.
          elim (leb_tells (suc q) (length b)) [
            | inl w ↦
                let is : page_at (b ++ page ∷ []) q ≡ page_at b q = get_or_append_left b (page ∷ []) [] q w.1 in
                let old = f.same q w.1 (subst (λ (x : Page). stamp_of x ≤ s) is low) in
                (old.0, is ∙ old.1)
            | inr w ↦ absurd (too_high (b ++ page ∷ []) s (length b) q page (get_or-append_seam b page [] []) high (omega arith) low)
          ];
    }

-- each page is that of some image that follows
pub follows_mixed : {a : Image} {s : ℕ} (images : List Image) (c : Image) → ((m : Image) → Contains images m → Follows a s m) → image_size c ≡ image_size a → IsMixed images s c → Follows a s c
follows_mixed {a} {s} images c all size mixed =
    let longest : Follows a s mixed.as_long.0 = all mixed.as_long.0 mixed.as_long.1 in
    let long = mixed.as_long.2 in
    record {
      size = size;
      no_shorter = omega (arith, longest.no_shorter);
      same = λ q k low.
          elim (eqb_tells q 0) [
            | inl w ↦ absurd (too_high c s 0 q (first_page c) refl mixed.head w.1 low)
            | inr w ↦
                let ne : q ≢ 0 = w.1 in
                let from = mixed.each q (omega arith) k in
                let f : Follows a s from.0 = all from.0 from.1 in
                let old = f.same q from.2 (subst (λ (x : Page). stamp_of x ≤ s) from.3 low) in
                (old.0, from.3 ∙ old.1)
          ];
    }

-- lineage by recursion: the pages of two images from one number on
abbrev pub Meets : (s : ℕ) → Image → Image → Type 0
Meets s [] [] = Unit {0}
Meets s (p ∷ ps) [] = Unit {0}
Meets s [] (q ∷ qs) = (s < stamp_of q) × Meets s [] qs
Meets s (p ∷ ps) (q ∷ qs) = (stamp_of q ≤ s → q ≡ p) × Meets s ps qs

pub meets : (s : ℕ) (a b : Image) → ((p : ℕ) → p < length b → stamp_of (page_at b p) ≤ s → (p < length a) × (page_at b p ≡ page_at a p)) → Meets s a b
meets s [] [] same = tt
meets s (p ∷ ps) [] same = tt
meets s [] (q ∷ qs) same = (
  elim (leb_tells (suc s) (stamp_of q)) [ inl w ↦ w.1 | inr w ↦ let none = same 0 (omega arith) (omega arith) in absurd (omega arith) ],
  meets s [] qs (λ n h low. let none = same (suc n) (omega arith) low in absurd (omega arith)),
)
meets s (p ∷ ps) (q ∷ qs) same = (
  (λ low. (same 0 (omega arith) low).1),
  meets s ps qs (λ n h low. let old = same (suc n) (omega arith) low in (omega (arith, old.0), old.1)),
)

-- a page is written at the end, or over one
pub written_end : (size n : ℕ) (front : Image) (q : Page) → length front ≡ n → written_at size (n, q) (front ++ []) ≡ (front ++ q ∷ []) ++ []
unfolding written_at
written_end size n front q e =
    let same : front ++ [] ≡ front = append-nil front in
    let long : length (front ++ []) ≡ n = ap length same ∙ e in
    elim (leb_tells (suc n) (length (front ++ []))) [
      | inl w ↦ absurd (omega arith)
      | inr w ↦
          let none : n - length (front ++ []) ≡ 0 = omega arith in
          rw (w.0, written_at) (rw none (ap (λ (x : Image). x ++ q ∷ []) same ∙ sym (append-nil (front ++ q ∷ []))))
    ]

pub written_over : (size n : ℕ) (front : Image) (q p : Page) (ps : Image) → length front ≡ n → written_at size (n, q) (front ++ p ∷ ps) ≡ (front ++ q ∷ []) ++ ps
unfolding written_at
written_over size n front q p ps e =
    elim (leb_tells (suc n) (length (front ++ p ∷ ps))) [
      | inl w ↦ rw (w.0, written_at) (ap (λ k. set (front ++ p ∷ ps) k q) (sym e) ∙ set-append_seam front p ps q ∙ sym (append_assoc front (q ∷ []) ps))
      | inr w ↦ absurd (omega (arith, length-append front (p ∷ ps)))
    ]

drop_none : (k : ℕ) → drop {A = Page} k [] ≡ []
drop_none zero = refl
drop_none (suc k) = refl

-- the pages that are stamped above s, written over, give the second image, and what was behind it
pub overwrites : (size s n : ℕ) (front a b : Image) → length front ≡ n → Meets s a b → overwritten size (taken_from n s b) (front ++ a) ≡ front ++ (b ++ drop (length b) a)
unfolding overwritten taken_from
overwrites size s n front [] [] e h = refl
overwrites size s n front (p ∷ ps) [] e h = refl
overwrites size s n front [] (q ∷ qs) e h =
    let next : length (front ++ q ∷ []) ≡ n + 1 = omega (arith, length-append front (q ∷ [])) in
    elim (leb_tells (suc s) (stamp_of q)) [
      | inl w ↦ rw (w.0, taken_from) (ap (overwritten size (taken_from (n + 1) s qs)) (written_end size n front q e) ∙ overwrites size s (n + 1) (front ++ q ∷ []) [] qs next h.1
          ∙ append_assoc front (q ∷ []) (qs ++ drop (length qs) []) ∙ ap (λ (x : Image). front ++ q ∷ (qs ++ x)) (drop_none (length qs)))
      | inr w ↦ absurd (omega (arith, h.0))
    ]
overwrites size s n front (p ∷ ps) (q ∷ qs) e h =
    let next : length (front ++ q ∷ []) ≡ n + 1 = omega (arith, length-append front (q ∷ [])) in
    elim (leb_tells (suc s) (stamp_of q)) [
      | inl w ↦ rw (w.0, taken_from) (ap (overwritten size (taken_from (n + 1) s qs)) (written_over size n front q p ps e) ∙ overwrites size s (n + 1) (front ++ q ∷ []) ps qs next h.1
          ∙ append_assoc front (q ∷ []) (qs ++ drop (length qs) ps))
      | inr w ↦
          let is : q ≡ p = h.0 (omega (arith, w.1)) in
          rw (w.0, taken_from) (ap (λ (x : Page). overwritten size (taken_from (n + 1) s qs) (front ++ x ∷ ps)) (sym is)
          ∙ ap (overwritten size (taken_from (n + 1) s qs)) (sym (append_assoc front (q ∷ []) ps))
          ∙ overwrites size s (n + 1) (front ++ q ∷ []) ps qs next h.1 ∙ append_assoc front (q ∷ []) (qs ++ drop (length qs) ps))
    ]

-- an image with the pages of one that follows it written over, which are stamped above s, is that one
pub follows_overwritten : (size : ℕ) {a b : Image} {s : ℕ} → Follows a s b → overwritten size (taken s b) a ≡ b
follows_overwritten size {a} {b} {s} f =
    overwrites size s 0 [] a b refl (meets s a b f.same) ∙ ap (λ (x : Image). b ++ x) (drop_all (length b) a f.no_shorter) ∙ append-nil b
