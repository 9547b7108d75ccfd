-- The links of the history lead to a page: where the history is of the form, the page is one of it. Strokes that write no page of the history
-- leave that so, also where they break it.
use Rattle.std.proofs.Common.{◌≡◌, ◌≢◌, ◌⊎◌, inl, inr, ℕ, zero, suc, ◌<◌, ◌≤◌, List, [], ◌∷◌, length, refl, sym, ap, subst, ◌∙◌, arith, true, false, ◌==◌, nat_lt, Contains, Ok, None}
use Rattle.nb_model.proofs.Common.{true≢false, cases_lt, and_from, and_parts, eq-eqb, false_from_ne_true, ltb-true, eqb_tells, kind_of, data_kind, Base, broken_at, History, first_of, owner_in, next_in, is_in_chain, walk, pages_of, found_pages, last_of, Page, Image, page_at, with_page, is_history_page, Stroke, page, on_base, base_after, merged_page, err_ok}
use Rattle.nb_model.proofs.ChainWalks.{HasForm, form_there, there_by, IsWalk, ends, leads, Walks, walk_cases, walk_zero, ok_found}
use Rattle.nb_model.proofs.FitLaws.{IsWhole, IsFitting, AreFitting, whole_one}
use Rattle.nb_model.proofs.NoRows.{HasNoRows}
use Rattle.nb_model.proofs.SoundLaws.{FitsAt, written_other, with_page_length}
use Rattle.nb_model.proofs.StrokeLaws.{with_page_same}

-- Links lead from page p along these pages to page q: each page before the last is linked to the next one, or is none of the history.
abbrev pub AreLinks : Image → (p : ℕ) → List ℕ → (q : ℕ) → Type 0
AreLinks image p [] q = p ≡ q
AreLinks image p (r ∷ rs) q = (is_in_chain History image p ≡ true → next_in (page_at image p) ≡ r) × (0 < r) × AreLinks image r rs q

pub record LeadsTo (image : Image) (q : ℕ) : Type 0 where
  pub way : List ℕ
  pub links : AreLinks image (first_of History) way q

one_more : (p q : ℕ) (ps : List ℕ) → Contains ps q → Contains (p ∷ ps) q
one_more p q ps (k, low, is) = (suc k, omega (arith, low), is)

-- A walk that ends well comes by the page.
walk_leads : (left p q : ℕ) (image : Image) (ps way : List ℕ) → walk left History image p ≡ Ok ps → AreLinks image p way q → Contains ps q
walk_leads zero p q image ps way e links = absurd (err_ok p ps (sym (walk_zero History image p) ∙ e))
walk_leads (suc left) p q image ps way e links = by way ps w.goes links (λ r rs rest is more. walk_leads left r q image rs rest is more)
  where
    w : Walks History image left p ps
    w = walk_cases left History image p ps e

    by : (steps qs : List ℕ) → IsWalk History image left p qs → AreLinks image p steps q → ((r : ℕ) (rs rest : List ℕ) → walk left History image r ≡ Ok rs → AreLinks image r rest q → Contains rs q) → Contains qs q
    by [] qs (ends last) here go = (0, omega arith, here)
    by [] qs (leads rs more is) here go = (0, omega arith, here)
    by (r ∷ steps) qs (ends last) here go = absurd (let next = here.0 w.in_it in let some = here.1 in omega (arith, next, some, last))
    by (r ∷ steps) qs (leads rs more is) here go = one_more p q rs (go r rs steps (subst (λ (n : ℕ). walk left History image n ≡ Ok rs) (here.0 w.in_it) is) here.2)

pub leads_found : (image : Image) (q : ℕ) → LeadsTo image q → broken_at (pages_of History image) ≡ None → Contains (found_pages History image) q
unfolding pages_of
leads_found image q l formed = walk_leads (length image) (first_of History) q image (found_pages History image) l.way (ok_found History image formed) l.links

not_zero : (n : ℕ) → (n == 0) ≡ false → 0 < n
not_zero zero e = absurd (true≢false e)
not_zero (suc n) e = omega arith

-- So a page of the history is led to.
leads_by : (left p q : ℕ) (image : Image) (ps : List ℕ) → walk left History image p ≡ Ok ps → Contains ps q → (way : List ℕ) × AreLinks image p way q
leads_by zero p q image ps e at = absurd (err_ok p ps (sym (walk_zero History image p) ∙ e))
leads_by (suc left) p q image ps e at = by ps (walk_cases left History image p ps e).goes at (λ r rs is more. leads_by left r q image rs is more)
  where
    by : (qs : List ℕ) → IsWalk History image left p qs → Contains qs q → ((r : ℕ) (rs : List ℕ) → walk left History image r ≡ Ok rs → Contains rs q → (way : List ℕ) × AreLinks image r way q) → (way : List ℕ) × AreLinks image p way q
    by qs (ends last) (zero, low, is) go = ([], is)
    by qs (ends last) (suc k, low, is) go = absurd (omega (arith, low))
    by qs (leads rs more is) (zero, low, here) go = ([], here)
    by qs (leads rs more is) (suc k, low, here) go =
        let next : ℕ = next_in (page_at image p) in
        let rest = go next rs is (k, omega (arith, low), here) in
        (next ∷ rest.0, ((λ in_it. refl), not_zero next more, rest.1))

pub found_leads : (image : Image) (q : ℕ) → broken_at (pages_of History image) ≡ None → Contains (found_pages History image) q → LeadsTo image q
unfolding pages_of
found_leads image q formed at = let by = leads_by (length image) (first_of History) q image (found_pages History image) (ok_found History image formed) at in record { way = by.0; links = by.1 }

-- After the first page another image has the pages of this one, but for some that are none of the history.
abbrev pub KeepsHistory : Image → Image → Type 0
KeepsHistory x y = (p : ℕ) → 0 < p → ((p < length x) × (page_at y p ≡ page_at x p)) ⊎ (is_in_chain History y p ≡ false)

links_kept : (x y : Image) → KeepsHistory x y → (p q : ℕ) (way : List ℕ) → 0 < p → AreLinks x p way q → AreLinks y p way q
links_kept x y keeps p q [] some links = links
links_kept x y keeps p q (r ∷ way) some links = (
  λ in_it. elim (keeps p some) [
    | inl same ↦ ap next_in same.1 ∙ links.0 (there_by History x p same.0 (subst (HasForm History) same.1 (form_there History y p in_it)))
    | inr none ↦ absurd (true≢false (sym in_it ∙ none))
  ],
  links.1,
  links_kept x y keeps r q way links.1 links.2,
)

pub leads_kept : (x y : Image) (q : ℕ) → KeepsHistory x y → LeadsTo x q → LeadsTo y q
leads_kept x y q keeps l = record { way = l.way; links = links_kept x y keeps (first_of History) q l.way (omega arith) l.links }

-- a page that has no rows of the history is none of it
no_history_page : (y : Image) (p : ℕ) (bytes : Page) → page_at y p ≡ bytes → HasNoRows bytes → is_in_chain History y p ≡ false
unfolding is_history_page
no_history_page y p bytes same none = false_from_ne_true _ (λ in_it.
    let form : HasForm History bytes = subst (HasForm History) same (form_there History y p in_it) in
    absurd (true≢false (sym (and_from (kind_of bytes == data_kind) _ (eq-eqb (kind_of bytes) 5 form.of_kind) (and_from (owner_in bytes == 1) _ (eq-eqb (owner_in bytes) 1 form.owner) form.slots)) ∙ none)))

pub past_chain : (y : Image) (p : ℕ) → length y ≤ p → is_in_chain History y p ≡ false
unfolding is_in_chain
past_chain y p past = false_from_ne_true _ (λ in_it. let low = ltb-true p (length y) (and_parts (nat_lt p (length y)) _ in_it).0 in absurd (omega (arith, low, past)))

-- A page without rows of the history is written.
pub written_keeps : (x : Image) (p : ℕ) (bytes : Page) → IsWhole x → FitsAt x p bytes → HasNoRows bytes → KeepsHistory x (with_page p bytes x)
written_keeps x p bytes h fits none q some = elim (eqb_tells q p) [
  | inl w ↦ inr (no_history_page (with_page p bytes x) q bytes (ap (page_at (with_page p bytes x)) w.1 ∙ with_page_same p bytes x fits.there) none)
  | inr w ↦ elim (cases_lt q (length x)) [
    | inl low ↦ inl (low, written_other x p bytes h.fields h.sound fits q w.1)
    | inr past ↦ inr (past_chain (with_page p bytes x) q (let there = fits.there in omega (arith, past, w.1, there, with_page_length p bytes x there)))
  ]
]

one_leads : (q : ℕ) (s : Stroke) (b : Base) → IsWhole b.image → IsFitting HasNoRows b.image s → LeadsTo b.image q → LeadsTo (on_base s b).image q
unfolding on_base
one_leads q (page p bytes) b h fits l = leads_kept b.image (with_page p (merged_page p bytes b.image) b.image) q (written_keeps b.image p (merged_page p bytes b.image) h fits.0 fits.1) l
one_leads q other b h fits l = absurd fits

-- So do strokes that fit.
pub strokes_lead : (q : ℕ) (ss : List Stroke) (b : Base) → IsWhole b.image → AreFitting HasNoRows b ss → LeadsTo b.image q → LeadsTo (base_after b ss).image q
unfolding base_after
strokes_lead q [] b h fits l = l
strokes_lead q (s ∷ ss) b h fits l = strokes_lead q ss (on_base s b) (whole_one HasNoRows s b fits.0 h) fits.1 (one_leads q s b h fits.0 l)

last_more : (p : ℕ) (ps : List ℕ) → 1 ≤ length ps → last_of (p ∷ ps) ≡ last_of ps
last_more p [] some = absurd (omega (arith, some))
last_more p (q ∷ ps) some = refl

-- A page is linked after the last one of the history. Of the history no page changes but the last, and the linked one if that was one of it.
behind_last : (left p : ℕ) (x y : Image) (n : ℕ) → 0 < n → (ps : List ℕ) → walk left History x p ≡ Ok ps → (last : ℕ) → last ≡ last_of ps
    → ((z : ℕ) → is_in_chain History x z ≡ true → z ≢ n → z ≢ last → page_at y z ≡ page_at x z) → next_in (page_at y last) ≡ n → (way : List ℕ) × AreLinks y p way n
behind_last zero p x y n some ps e last ends_at same linked = absurd (err_ok p ps (sym (walk_zero History x p) ∙ e))
behind_last (suc left) p x y n some ps e last ends_at same linked = elim (eqb_tells p n) [
  | inl here ↦ ([], here.1)
  | inr off ↦ elim (eqb_tells p last) [
    | inl here ↦ (n ∷ [], ((λ in_it. ap (λ (z : ℕ). next_in (page_at y z)) here.1 ∙ linked), some, refl))
    | inr apart ↦ by ps w.goes ends_at off.1 apart.1 (λ rs is ends_there. behind_last left (next_in (page_at x p)) x y n some rs is last ends_there same linked)
  ]
]
  where
    w : Walks History x left p ps
    w = walk_cases left History x p ps e

    -- a walk that ends well comes by some page
    comes : (m r : ℕ) (rs : List ℕ) → walk m History x r ≡ Ok rs → 1 ≤ length rs
    comes zero r rs is = absurd (err_ok r rs (sym (walk_zero History x r) ∙ is))
    comes (suc m) r rs is = some_of rs (walk_cases m History x r rs is).goes
      where
        some_of : (qs : List ℕ) → IsWalk History x m r qs → 1 ≤ length qs
        some_of qs (ends end) = omega arith
        some_of qs (leads us more go) = omega arith

    by : (qs : List ℕ) → IsWalk History x left p qs → last ≡ last_of qs → p ≢ n → p ≢ last
        → ((rs : List ℕ) → walk left History x (next_in (page_at x p)) ≡ Ok rs → last ≡ last_of rs → (way : List ℕ) × AreLinks y (next_in (page_at x p)) way n) → (way : List ℕ) × AreLinks y p way n
    by qs (ends end) at off apart go = absurd (apart (sym at))
    by qs (leads rs more is) at off apart go =
        let rest = go rs is (at ∙ last_more p rs (comes left (next_in (page_at x p)) rs is)) in
        (next_in (page_at x p) ∷ rest.0, ((λ in_it. ap next_in (same p w.in_it off apart)), not_zero (next_in (page_at x p)) more, rest.1))

pub linked_leads : (x y : Image) (n : ℕ) → 0 < n → broken_at (pages_of History x) ≡ None
    → ((z : ℕ) → is_in_chain History x z ≡ true → z ≢ n → z ≢ last_of (found_pages History x) → page_at y z ≡ page_at x z) → next_in (page_at y (last_of (found_pages History x))) ≡ n → LeadsTo y n
unfolding pages_of
linked_leads x y n some formed same linked =
    let by = behind_last (length x) (first_of History) x y n some (found_pages History x) (ok_found History x formed) (last_of (found_pages History x)) refl same linked in
    record { way = by.0; links = by.1 }
