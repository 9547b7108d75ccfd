-- How many pages a database has without those of zeros at its end.
use Rattle.std.proofs.Common.{◌≡◌, inl, inr, ℕ, suc, ◌+◌, ◌-◌, ◌<◌, ◌≤◌, List, [], ◌∷◌, length, refl, sym, ap, subst, ◌∙◌, arith, true, false, Some, None, max}
use Rattle.nb_base.proofs.Common.{true≢false, leb_tells, is_zeros, is_header, IsStill, Files, bytes_of, World, strokes_composed, Quiet, Image, page_at, first_page, image_size, trimmed, delta_name, entry_for, behind_entries, Stroke, Trail, after_stroke, trimming, some_page, main_here, trimmed_front, trimmed_length, trimmed_at, trimmed_zeros, StandsFirm, Held, OfFiles, IsOpen, IsMerged, AreMerged, StrikesFirm, none_there, for_here, owned-none}
use Rattle.nb_base.proofs.AgreeLaws.{open_seen, seen_open}
use Rattle.nb_base.proofs.AttachLaws.{last_other}
use Rattle.nb_base.proofs.MergingLaws.{seen_still, struck_quiet}
use Rattle.nb_base.proofs.OwnedLaws.{Holds, entry-later, later, main-some, base-length, base-page}
use Rattle.nb_base.proofs.StrokeLaws.{h0}

-- The image has so many pages or fewer.
module _ (image : Image) (n : ℕ) (some : 1 ≤ n) (most : n ≤ length image) (low : length (trimmed image) ≤ n) where
  -- the last of them is zeros, so that it has fewer
  pub fewer_filled : is_zeros (page_at image (n - 1)) ≡ true → length (trimmed image) ≤ n - 1
  fewer_filled zeros = elim (leb_tells (length (trimmed image)) (n - 1)) [
    | inl w ↦ w.1
    | inr w ↦
        let long : length (trimmed image) ≡ suc (n - 1) = omega (arith, some, low, w.1) in
        absurd (true≢false (sym zeros ∙ ap is_zeros (sym (trimmed_at image (n - 1) (omega (arith, long)))) ∙ last_other (n - 1) (trimmed image) (trimming image).whole long))
  ]

  -- it isn't, so that it has just these
  pub all_filled : is_zeros (page_at image (n - 1)) ≡ false → n ≡ length (trimmed image)
  all_filled other = elim (leb_tells n (length (trimmed image))) [
    | inl w ↦ omega (arith, low, w.1)
    | inr w ↦ absurd (true≢false (sym (trimmed_zeros image (n - 1) (omega (arith, some, w.1)) (omega (arith, some, most))) ∙ other))
  ]

-- page 0 is a header, so that it is one of them
pub some_filled : (image : Image) → is_header (first_page image) ≡ true → 1 ≤ length (trimmed image)
some_filled image header = some_page (trimmed image) (ap is_header (trimmed_front image header) ∙ header)

-- some entry is the greatest
record IsGreatest (table : List ℕ) : Type 0 where
  pub page : ℕ
  pub entry : ℕ
  pub at : entry_for page table ≡ Some entry
  pub last : page + 1 ≡ behind_entries table

greatest : (table : List ℕ) → 0 < behind_entries table → IsGreatest table
greatest [] some = absurd (omega (arith, some))
greatest (q ∷ qs) some = elim (leb_tells (behind_entries qs) (q + 1)) [
  | inl w ↦ record { page = q; entry = 0; at = for_here q q qs refl; last = omega (arith, w.1) }
  | inr w ↦ by (greatest qs (omega (arith, w.1))) (omega (arith, w.1))
]
  where
    by : IsGreatest qs → q + 1 < behind_entries qs → IsGreatest (q ∷ qs)
    by g above = record { page = g.page; entry = suc g.entry; at = entry-later g.page q qs (λ e. absurd (omega (arith, e, above, g.last))) ∙ ap later g.at; last = omega (arith, g.last, above) }

-- Where no entry names the last page it is the main file's, which isn't zeros.
pub none_cut : (old : World) (held : Held) (t : Trail) → IsOpen old held t → entry_for (held.count - 1) held.entries ≡ None → held.count ≡ length (trimmed t.base.image)
none_cut old held t is none = is.agrees.count ∙ all_filled t.base.image (length t.base.image) some (omega arith) low (ap is_zeros last_page ∙ last_other (length t.base.image - 1) h.main h.has.laid.whole (omega (arith, some, alone)))
  where
    h : Holds t.base (old.files held.name) (old.files (delta_name held.name))
    h = h0 old held t is

    unnamed : entry_for (length t.base.image - 1) t.base.diverted ≡ None
    unnamed = ap (λ n. entry_for (n - 1) t.base.diverted) (sym is.agrees.count) ∙ ap (entry_for (held.count - 1)) (sym is.agrees.entries) ∙ none

    long : length t.base.image ≡ max (length h.main) (behind_entries t.base.diverted)
    long = base-length t.base _ _ h

    some : 1 ≤ length t.base.image
    some = omega (arith, long, main-some t.base _ _ h)

    alone : length t.base.image ≡ length h.main
    alone = elim (leb_tells (behind_entries t.base.diverted) (length h.main)) [
      | inl w ↦ omega (arith, long, w.1)
      | inr w ↦
          let g : IsGreatest t.base.diverted = greatest t.base.diverted (omega (arith, w.1)) in
          absurd (none_there (sym unnamed ∙ ap (λ n. entry_for n t.base.diverted) (let e : length t.base.image - 1 ≡ g.page = omega (arith, long, w.1, g.last) in e) ∙ g.at))
    ]

    last_page : page_at t.base.image (length t.base.image - 1) ≡ page_at h.main (length t.base.image - 1)
    last_page =
        base-page t.base _ _ h (length t.base.image - 1) (omega (arith, some)) ∙ owned-none (image_size h.main) h.main (bytes_of (old.files (delta_name held.name))) t.base.diverted (length t.base.image - 1) unnamed
        ∙ main_here (image_size h.main) h.main (length t.base.image - 1) (omega (arith, some, alone))

    low : length (trimmed t.base.image) ≤ length t.base.image
    low = trimmed_length t.base.image

-- Calls that change nothing leave what is open and what is merged, and strokes after them are as if they had not been made.
pub open_still : (old new : World) (held : Held) (t : Trail) → IsStill old new → IsOpen old held t → IsOpen new held t
open_still old new held t still is = seen_open new held t (seen_still old new held.name t still (open_seen old held t is)) is.agrees is.drafted

pub merged_still : (old new : World) (held : Held) (k : ℕ) → IsStill old new → AreMerged old held k → AreMerged new held k
merged_still old new held k still merged j low inside = subst (λ (f : Files). IsMerged held f j) (sym still.files) (merged j low inside)

pub quiet_struck : (old mid new : World) (held : Held) (t : Trail) (strokes : List Stroke) → Quiet old mid → IsOpen old held t → StrikesFirm mid new held.name t strokes → StrikesFirm old new held.name t strokes
quiet_struck old mid new held t strokes quiet is struck = strokes_composed after_stroke (StandsFirm held.name) (OfFiles held.name) old mid new t [] strokes (struck_quiet old mid held.name t quiet (open_seen old held t is)) struck
