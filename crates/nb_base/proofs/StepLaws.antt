-- One outcome and one step: what two files hold after a page of one of them was written.
use Rattle.std.proofs.Common.{◌≡◌, ◌≢◌, ◌⊎◌, inl, inr, ⊎_elim, ℕ, ◌*◌, ◌<◌, ◌≤◌, List, length, take, refl, sym, ap, subst, ◌∙◌, arith, Option, Some, None}
use Rattle.nb_base.proofs.Common.{page_in, slot_place, stalled_state, File, bytes_of, PageLeft, HasTable, slot_page, Page, Image, page_at, first_page, image_size, image_state, with_page, written_at, Base, Stroke, page, on_base, merged_page, entry_for, owned, Trail, IsFirm, same-header, same-number, IsWrite, none_there, stroke_page, stroke-frozen, stroke-diverted}
use Rattle.nb_host.specs.Files.{with_page as with_page_at}
use Rattle.nb_base.proofs.WrittenLaws.{HasMain, MayWrite, main_put, main_written}
use Rattle.nb_base.proofs.OwnedLaws.{Holds, main-some, main-long, base-front, base-state, base-size, front_stays, main_shows, slots_stay, slot_shows, entry-front}
use Rattle.nb_base.proofs.LeftLaws.{stroke-stalled, noted-there, fits_left, state_left, size_left, put_is}

-- Another main file with the same header, in the normal and the merge state.
pub main_moved : (b new : Base) (m d c : File) (h : Holds b m d) (main : Image) → image_state h.main ≢ stalled_state → HasMain main c → take 64 (first_page main) ≡ take 64 (first_page h.main)
    → new.diverted ≡ b.diverted → new.frozen ≡ b.frozen → new.image ≡ owned (image_size h.main) main (bytes_of d) b.diverted → Holds new c d
main_moved b new m d c h main other has front diverted frozen image =
    let state : image_state main ≡ image_state h.main = same-number (first_page main) (first_page h.main) front 22 2 (omega arith) in
    let size : image_size main ≡ image_size h.main = same-number (first_page main) (first_page h.main) front 24 4 (omega arith) in
    record {
      main = main;
      has = has;
      opened = omega (arith, state, h.opened);
      entries = record {
        none = λ e. diverted ∙ h.entries.none (sym state ∙ e);
        some = λ some. subst (λ n. HasTable n d new.diverted) (sym size) (subst (λ (x : List ℕ). HasTable (image_size h.main) d x) (sym diverted) (h.entries.some (omega (arith, some, state))));
      };
      image = image ∙ ap (λ n. owned n main (bytes_of d) b.diverted) (sym size) ∙ ap (λ (x : List ℕ). owned (image_size main) main (bytes_of d) x) (sym diverted);
      frozen = record { stalled = λ e. absurd (other (sym state ∙ e)); other = λ ne. frozen ∙ h.frozen.other other };
    }

-- Another difference file beside the same main file, in the stalled and the merge state.
pub delta_moved : (b new : Base) (m d c : File) (h : Holds b m d) → 0 < image_state h.main → HasTable (image_size h.main) c new.diverted → new.frozen ≡ b.frozen
    → new.image ≡ owned (image_size h.main) h.main (bytes_of c) new.diverted → Holds new m c
delta_moved b new m d c h diverts table frozen image = record {
  main = h.main;
  has = h.has;
  opened = h.opened;
  entries = record { none = λ e. absurd (omega (arith, e, diverts)); some = λ some. table };
  image = image;
  frozen = record { stalled = λ e. frozen ∙ h.frozen.stalled e; other = λ ne. frozen ∙ h.frozen.other ne };
}

module _ (t : Trail) (p : ℕ) (bytes : Page) (is : IsWrite t p bytes) where
  abbrev s : Stroke
  s = page p bytes

  abbrev now : Image
  now = t.base.image

  -- What one outcome holds.
  module _ (b : Base) (left : IsFirm t b) (m d : File) (h : Holds b m d) where
    pub main-state : image_state h.main ≡ image_state now
    main-state = sym (base-state b m d h) ∙ state_left t p bytes is.fits b left

    pub main-size : image_size h.main ≡ image_size now
    main-size = sym (base-size b m d h) ∙ size_left t p bytes is.fits b left

    front_main : p ≡ 0 → take 64 bytes ≡ take 64 (page_at h.main 0)
    front_main e = (fits_left t p bytes is.fits b left).front e ∙ base-front b m d h

    pub may : MayWrite p bytes h.main
    may = record {
      below = is.below;
      long = is.long ∙ sym main-size;
      other = is.other;
      header = λ e. same-header bytes (page_at h.main 0) (front_main e) ∙ h.has.laid.header;
      size = λ e. same-number bytes (page_at h.main 0) (front_main e) 24 4 (omega arith);
    }

    -- the main file with that page
    abbrev new_main : Image
    new_main = written_at (image_size h.main) (p, bytes) h.main

    new_front : take 64 (first_page (written_at (image_size h.main) (p, bytes) h.main)) ≡ take 64 (first_page h.main)
    new_front = front_stays (image_size h.main) h.main (bytes_of d) b.diverted p bytes (main-some b m d h) (main-long b m d h) front_main

    -- which shows it where no entry names it
    shows_main : image_state now ≢ stalled_state → entry_for p b.diverted ≡ None → (c : File) → HasMain (written_at (image_size h.main) (p, bytes) h.main) c → Holds (on_base s b) c d
    shows_main other none c has =
        let low : p ≤ length (owned (image_size h.main) h.main (bytes_of d) b.diverted) = omega (arith, (fits_left t p bytes is.fits b left).low, ap length h.image) in
        main_moved b (on_base s b) m d c h new_main (λ e. other (sym main-state ∙ e)) has new_front
        (stroke-diverted b p bytes (λ e. other (sym (state_left t p bytes is.fits b left) ∙ e))) (stroke-frozen b p bytes)
        (put_is t p bytes is.fits b left ∙ ap (λ (x : Image). with_page p bytes x) h.image
        ∙ sym (main_shows (image_size h.main) h.main (bytes_of d) b.diverted p bytes (main-some b m d h) (main-long b m d h) front_main none low))

    pub holds_main : image_state now ≢ stalled_state → entry_for p b.diverted ≡ None → (c : File) → c ≡ with_page_at m (p * length bytes) bytes → Holds (on_base s b) c d
    holds_main other none c put = shows_main other none c (main_put h.main m c p bytes h.has may put)

    same_main : image_state now ≢ stalled_state → (c : File) → HasMain h.main c → Holds b c d
    same_main other c has = main_moved b b m d c h h.main (λ e. other (sym main-state ∙ e)) has refl refl refl h.image

    -- what a crash leaves of the write
    pub left_main : image_state now ≢ stalled_state → entry_for p b.diverted ≡ None → (c : File) → PageLeft (p * length bytes) bytes m c → Holds b c d ⊎ Holds (on_base s b) c d
    left_main other none c step = ⊎_elim (λ has. inl (same_main other c has)) (λ has. inr (shows_main other none c has)) (main_written h.main m c p bytes h.has may step)

    -- Of the difference file the table and the slots of the entries stay.
    pub holds_slots : 0 < image_state now → (c : File) → HasTable (image_size now) c b.diverted
        → ((k : ℕ) → k < length b.diverted → slot_page (image_size now) c k ≡ slot_page (image_size now) d k) → Holds b m c
    holds_slots diverts c table same =
        delta_moved b b m d c h (omega (arith, diverts, main-state)) (subst (λ n. HasTable n c b.diverted) (sym main-size) table) refl
        (h.image ∙ sym (slots_stay (image_size h.main) h.main (bytes_of d) (bytes_of c) b.diverted
        (λ k low. subst (λ n. page_in n (bytes_of c) (slot_place n k) ≡ page_in n (bytes_of d) (slot_place n k)) (sym main-size) (same k low))))

    -- The slot of the page's entry is written.
    pub holds_slot : 0 < image_state now → (k : ℕ) → entry_for p b.diverted ≡ Some k → (c : File) → HasTable (image_size now) c b.diverted → slot_page (image_size now) c k ≡ bytes
        → ((j : ℕ) → j < length b.diverted → j ≢ k → slot_page (image_size now) c j ≡ slot_page (image_size now) d j) → Holds (on_base s b) m c
    holds_slot diverts k at c table slot same =
        let kept : (on_base s b).diverted ≡ b.diverted = entries_stay k at in
        let slot_ : page_in (image_size h.main) (bytes_of c) (slot_place (image_size h.main) k) ≡ bytes = subst (λ n. page_in n (bytes_of c) (slot_place n k) ≡ bytes) (sym main-size) slot in
        delta_moved b (on_base s b) m d c h (omega (arith, diverts, main-state))
        (subst (λ n. HasTable n c (on_base s b).diverted) (sym main-size) (subst (λ (x : List ℕ). HasTable (image_size now) c x) (sym kept) table)) (stroke-frozen b p bytes)
        (stroke_page b p bytes ∙ ap (λ (x : Image). with_page p (merged_page p bytes x) x) h.image
        ∙ sym (slot_shows (image_size h.main) h.main (bytes_of d) (bytes_of c) (main-some b m d h) (main-long b m d h) b.diverted p k bytes at slot_
        (λ j low ne. subst (λ n. page_in n (bytes_of c) (slot_place n j) ≡ page_in n (bytes_of d) (slot_place n j)) (sym main-size) (same j low ne)))
        ∙ ap (λ (x : List ℕ). owned (image_size h.main) h.main (bytes_of c) x) (sym kept))
      where
        entries_stay : (k : ℕ) → entry_for p b.diverted ≡ Some k → (on_base s b).diverted ≡ b.diverted
        entries_stay k at = elim (Rattle.std.proofs.lemmas.Bool.Decides.eqb_tells (image_state b.image) 1) [
          | inl w ↦ stroke-stalled b p bytes w.1 ∙ noted-there p b.diverted k at
          | inr w ↦ stroke-diverted b p bytes w.1
        ]

    -- no entry names it here where none does in what was seen
    pub none_left : entry_for p t.base.diverted ≡ None → entry_for p b.diverted ≡ None
    none_left none = by (entry_for p b.diverted) refl
      where
        by : (x : Option ℕ) → entry_for p b.diverted ≡ x → entry_for p b.diverted ≡ None
        by None e = e
        by (Some k) e = absurd (none_there (sym none ∙ ap (entry_for p) left.rest.diverted.1 ∙ entry-front p b.diverted left.rest.diverted.0 k e))
