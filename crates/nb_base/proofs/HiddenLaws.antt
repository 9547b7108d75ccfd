-- A page is written into the main file where an entry hides it: what is seen stays, at each moment. The page may be zeros.
use Rattle.std.proofs.Common.{◌≡◌, ◌≢◌, ⊎_elim, ℕ, ◌*◌, ◌<◌, ◌≤◌, [], List, length, take, refl, sym, ap, subst, ◌∙◌, inl, inr, arith, Bool, Some, IsTrue, Ok, Result}
use Rattle.nb_base.proofs.Common.{most_pages, stalled_state, merge_state, File, Files, bytes_of, with_file, World, PageLeft, WritesPage, IsTimely, Passes, Changes, with_file-same, with_file-other, begun, page_more, Base, Page, Image, page_at, image_size, image_state, trimmed, written_at, delta_name, entry_for, owner, IsOfSize, Trail, IsFirm, same-header, same-number, all-left, some_page, itself_firm, trimmed_at, StandsFirmOn, StandsFirm, OfFiles, Fits, IsSeen, IsWrite, StrikesFirm}
use Rattle.nb_host.specs.Files.{with_page as with_page_at}
use Rattle.nb_base.proofs.LeftLaws.{fits_left, state_left, size_left}
use Rattle.nb_base.proofs.OwnedLaws.{Holds, holds, shows, main-some, main-long, base-front, base-state, base-size, front_stays, main_hidden}
use Rattle.nb_base.proofs.StepLaws.{main_moved}
use Rattle.nb_base.proofs.WrittenLaws.{HasMain, MayLay, main_overlaid}
use Rattle.nb_base.proofs.WriteLaws.{delta_apart}

-- a page that may be written after an entry that hides it
pub record MayHide (t : Trail) (p : ℕ) (bytes : Page) : Type 0 where
  pub fits : Fits p bytes t.base.image
  pub long : length bytes ≡ image_size t.base.image
  pub below : p < most_pages

pub hides : (t : Trail) (p : ℕ) (bytes : Page) → IsWrite t p bytes → MayHide t p bytes
hides t p bytes is = record { fits = is.fits; long = is.long; below = is.below }

module _ (t : Trail) (p : ℕ) (bytes : Page) (is : MayHide t p bytes) (merges : image_state t.base.image ≡ merge_state) where
  -- What one outcome holds.
  module _ (b : Base) (left : IsFirm t b) (m d : File) (h : Holds b m d) where
    main_size : image_size h.main ≡ image_size t.base.image
    main_size = sym (base-size b m d h) ∙ size_left t p bytes is.fits b left

    not_stalled : image_state h.main ≢ stalled_state
    not_stalled e = absurd (omega (arith, sym (base-state b m d h) ∙ state_left t p bytes is.fits b left ∙ merges, e))

    front_main : p ≡ 0 → take 64 bytes ≡ take 64 (page_at h.main 0)
    front_main e = (fits_left t p bytes is.fits b left).front e ∙ base-front b m d h

    pub may_lay : MayLay p bytes h.main
    may_lay = record {
      below = is.below;
      long = is.long ∙ sym main_size;
      header = λ e. same-header bytes (page_at h.main 0) (front_main e) ∙ h.has.laid.header;
      size = λ e. same-number bytes (page_at h.main 0) (front_main e) 24 4 (omega arith);
    }

    abbrev laid_over : Image
    laid_over = trimmed (written_at (image_size h.main) (p, bytes) h.main)

    stays : (c : File) → HasMain h.main c → Holds b c d
    stays c has = main_moved b b m d c h h.main not_stalled has refl refl refl h.image

    -- the main file with that page
    hidden : (k : ℕ) → entry_for p b.diverted ≡ Some k → (c : File) → HasMain (trimmed (written_at (image_size h.main) (p, bytes) h.main)) c → Holds b c d
    hidden k at c has =
        let there : 1 ≤ length laid_over = some_page laid_over has.laid.header in
        let sizes : IsOfSize (image_size h.main) h.main = all-left (λ page. length page ≡ image_size h.main) h.main h.has.laid.rest h.has.laid.sizes in
        main_moved b b m d c h laid_over not_stalled has
        (ap (take 64) (trimmed_at (written_at (image_size h.main) (p, bytes) h.main) 0 there) ∙ front_stays (image_size h.main) h.main (bytes_of d) b.diverted p bytes (main-some b m d h) (main-long b m d h) front_main) refl refl
        (h.image ∙ sym (main_hidden (image_size h.main) h.main (bytes_of d) b.diverted p bytes (main-some b m d h) (main-long b m d h) front_main k at sizes h.has.laid.whole (is.long ∙ sym main_size) there))

    hidden_main : (k : ℕ) → entry_for p b.diverted ≡ Some k → (c : File) → PageLeft (p * length bytes) bytes m c → Holds b c d
    hidden_main k at c step = ⊎_elim (stays c) (hidden k at c) (main_overlaid h.main m c p bytes h.has may_lay step)

  module _ (name : List ℕ) (k : ℕ) (at : entry_for p t.base.diverted ≡ Some k) where
    stands_hidden : (m d c : File) → StandsFirmOn name t m d → PageLeft (p * length bytes) bytes m c → StandsFirmOn name t c d
    stands_hidden m d c o step =
        let h : Holds o.base m d = holds name o.base m d o.opens in
        record { base = o.base; opens = shows name o.base c d (hidden_main o.base o.left m d h k (ap (entry_for p) (o.left.rest.merging merges) ∙ at) c step); left = o.left }

    shows_hidden : (m d c : File) → owner name m d ≡ Ok t.base → PageLeft (p * length bytes) bytes m c → owner name c d ≡ Ok t.base
    shows_hidden m d c o step = shows name t.base c d (hidden_main t.base (itself_firm t) m d (holds name t.base m d o) k at c step)

    -- The call.
    module _ (old mid : World) (timely : IsTimely old) (seen : IsSeen old name t) where
      start : Changes old old (OfFiles name) (StandsFirm name t)
      start = begun old (OfFiles name) (StandsFirm name t) timely seen.left

      pub struck_hidden : {T E : Type 0} (tells : Bool) (result : Result T E) → IsTrue tells → WritesPage tells result old mid name (p * length bytes) bytes → mid.said ≡ old.said → Passes old mid → StrikesFirm old mid name t []
      struck_hidden tells result told writes silent time =
          page_more tells result old old mid (OfFiles name) (StandsFirm name t) (StandsFirm name t) name (p * length bytes) bytes told start (inl refl) writes silent time (λ files o. o)
          (λ before files all o step others.
          stands_hidden (before name) (files (delta_name name)) (files name) (subst (λ (x : File). StandsFirmOn name t (before name) x) (sym (others (delta_name name) (delta_apart name))) o) step)

      pub hidden_seen : mid.files ≡ with_file old.files name (with_page_at (old.files name) (p * length bytes) bytes) → StrikesFirm old mid name t [] → IsSeen mid name t
      hidden_seen put left =
          let here : mid.files name ≡ with_page_at (old.files name) (p * length bytes) bytes = ap (λ (f : Files). f name) put ∙ with_file-same old.files name _ in
          let beside : mid.files (delta_name name) ≡ old.files (delta_name name) = ap (λ (f : Files). f (delta_name name)) put ∙ with_file-other old.files name _ (delta_name name) (delta_apart name) in
          record {
            left = left.now;
            shows = ap (owner name (mid.files name)) beside ∙ shows_hidden (old.files name) (old.files (delta_name name)) (mid.files name) seen.shows (inr (inl here));
          }
