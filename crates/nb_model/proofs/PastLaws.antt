-- Where a page is written that fits, the image names the same backups.
use Rattle.std.proofs.Common.{◌≡◌, ◌≢◌, inl, inr, ℕ, suc, ◌<◌, ◌≤◌, List, ◌++◌, length, refl, sym, ap, subst, ◌∙◌, arith, set, true, false, ◌==◌}
use Rattle.nb_model.proofs.Common.{true≢false, and_left, ne_eqb, eqb_tells, leb_tells, Contains-append_left, kind_of, stamp_of, data_kind, Page, Image, page_at, image_size, image_guid, with_page, Kept, IsSoundImage, Slot, is_used, slots_in, guid_in, Follows, IsKeptAs, is_history_page, GoesOn, IsRemembered, HasRows, NamesPast, all_go}
use Rattle.nb_model.proofs.StrokeLaws.{with_page_same}
use Rattle.nb_model.proofs.FollowsLaws.{follows_set, follows_add}
use Rattle.nb_model.proofs.SoundLaws.{written_other, with_page_length, HasFields, FitsAt, size_stays, scn_stays, guid_stays}

-- a page that fits changes nothing of lineage
follows_written : (a image : Image) (n p : ℕ) (bytes : Page) → Follows a n image → p ≤ length image → n < stamp_of bytes → 1 ≤ length image → image_size (with_page p bytes image) ≡ image_size image → Follows a n (with_page p bytes image)
unfolding with_page
follows_written a image n p bytes f there high some size = elim (leb_tells (suc p) (length image)) [
  | inl w ↦
      let whole : with_page p bytes image ≡ set image p bytes = rw (w.0, with_page) refl in
      subst (Follows a n) (sym whole) (follows_set p bytes f w.1 high (sym (ap image_size whole) ∙ size))
  | inr w ↦ rw (w.0, with_page) (follows_add bytes f some high)
]

pub no_history : (bytes : Page) → kind_of bytes ≢ data_kind → is_history_page bytes ≡ false
unfolding is_history_page
no_history bytes other = and_left (kind_of bytes == data_kind) _ (ne_eqb (kind_of bytes) 5 other)

-- a page that fits changes nothing of what the image goes on from
pub goes_on_still : (image : Image) (p : ℕ) (bytes : Page) → HasFields image → IsSoundImage image → FitsAt image p bytes → (r : Kept) → GoesOn r image → GoesOn r (with_page p bytes image)
goes_on_still image p bytes fields is fits r on =
    let least = is.least in
    record {
      earlier = subst (λ (n : ℕ). r.scn < n) (sym (scn_stays image p bytes fields is fits)) on.earlier;
      follows = follows_written r.image image r.scn p bytes on.follows fits.there (subst (λ (n : ℕ). r.scn < n) (sym fits.stamp) on.earlier) (omega arith) (size_stays image p bytes fields is fits);
    }

-- What passes one test passes another.
module _ (kept : List Kept) (P R : Kept → Type 0) (goes : (r : Kept) → P r → R r) where
  pub remembered_with : (row : Slot) → IsRemembered kept P row → IsRemembered kept R row
  remembered_with row h = record { backup = h.backup; kept_as = h.kept_as; scn = h.scn; level = h.level; passes = goes h.backup h.passes }

  pub rows_with : (page : Page) → HasRows kept P page → HasRows kept R page
  rows_with page rows history =
      all_go {X = Slot} (λ row. is_used row ≡ true → IsRemembered kept P row) (λ row. is_used row ≡ true → IsRemembered kept R row) (slots_in page) (λ row h used. remembered_with row (h used)) (rows history)

  pub past_with : (image : Image) → NamesPast kept P image → NamesPast kept R image
  past_with image past = record {
    rows = λ p low. rows_with (page_at image p) (past.rows p low);
    last = λ some. let old = past.last some in (old.0, old.1, goes old.0 old.2);
  }

  -- So it is where a page is written whose rows pass it.
  pub past_written : (image : Image) (p : ℕ) (bytes : Page) → HasFields image → IsSoundImage image → FitsAt image p bytes → HasRows kept R bytes → NamesPast kept P image → NamesPast kept R (with_page p bytes image)
  past_written image p bytes fields is fits rows past = record {
    rows = λ q low. elim (eqb_tells q p) [
      | inl w ↦ subst (HasRows kept R) (sym (ap (page_at (with_page p bytes image)) w.1 ∙ with_page_same p bytes image fits.there)) rows
      | inr w ↦
          subst (HasRows kept R) (sym (written_other image p bytes fields is fits q w.1))
          (rows_with (page_at image q) (past.rows q (omega (arith, with_page_length p bytes image fits.there, w.1))))
    ];
    last = λ some.
        let old = past.last (λ none. some (guid_stays image p bytes fields is fits ∙ none)) in
        (old.0, subst (λ (guid : List ℕ). IsKeptAs kept guid old.0) (sym (guid_stays image p bytes fields is fits)) old.1, goes old.0 old.2);
  }

-- More records may be kept.
module _ (kept more : List Kept) where
  pub kept_more : (guid : List ℕ) (r : Kept) → IsKeptAs kept guid r → IsKeptAs (kept ++ more) guid r
  kept_more guid r h = record { there = Contains-append_left kept more r h.there; named = h.named }

  pub past_more : (P : Kept → Type 0) (image : Image) → NamesPast kept P image → NamesPast (kept ++ more) P image
  past_more P image past = record {
    rows = λ p low history.
        all_go {X = Slot} (λ row. is_used row ≡ true → IsRemembered kept P row) (λ row. is_used row ≡ true → IsRemembered (kept ++ more) P row) (slots_in (page_at image p))
        (λ row h used. let old : IsRemembered kept P row = h used in record { backup = old.backup; kept_as = kept_more (guid_in row) old.backup old.kept_as; scn = old.scn; level = old.level; passes = old.passes })
        (past.rows p low history);
    last = λ some. let old = past.last some in (old.0, kept_more (image_guid image) old.0 old.1, old.2);
  }

-- a page without rows has none that fail
pub no_rows_pass : (kept : List Kept) (R : Kept → Type 0) (bytes : Page) → is_history_page bytes ≡ false → HasRows kept R bytes
no_rows_pass kept R bytes none history = absurd (true≢false (sym history ∙ none))
