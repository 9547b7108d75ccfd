-- What is held of page 0 after a stroke.
use Rattle.std.proofs.Common.{◌≡◌, inl, inr, ℕ, zero, suc, ◌<◌, ◌≤◌, List, length, refl, sym, ap, subst, ◌∙◌, arith, true, not, ◌==◌}
use Rattle.nb_state.proofs.Common.{number_in, part, is_header, scn_of, guid_of, merge_state, World, Page, Image, first_page, image_scn, image_guid, Base, page, controlled, with_control, Trail, after_stroke, control_other, control_scn, control_guid, header-long, same-number, some_page, AreMerged, Fits, with_control-first, Held, AgreesWith, IsOpen, Goes}
use Rattle.std.proofs.lemmas.Bool.Decides.{eqb_tells}
use Rattle.nb_fields.proofs.PartLaws.{part-take}
use Rattle.nb_base.proofs.AgreeLaws.{first_written, first_stays}
use Rattle.nb_base.proofs.LeftLaws.{later_front}
use Rattle.nb_owner.specs.Open.{IsOpen as PairOpen}

-- what is held of page 0 goes by page 0 alone
pub agrees_front : (held : Held) (a b : Base) → first_page b.image ≡ first_page a.image → AgreesWith held a → AgreesWith held b
agrees_front held a b same agrees = record {
  scn = agrees.scn ∙ ap scn_of (sym same);
  four = agrees.four;
  guid = agrees.guid ∙ ap guid_of (sym same);
  read_only = agrees.read_only ∙ ap (λ (x : Page). not (number_in 65 1 x == 0)) (sym same);
}

-- After another control block: the SCN and the GUID are those of the block, and the flags stay.
module _ (held now : Held) (before after : Base) (state scn : ℕ) (guid : List ℕ) where
  pub agrees_control : AgreesWith held before → is_header (first_page before.image) ≡ true → length guid ≡ 16 → scn < 4294967296 → after.image ≡ with_control state scn guid before.image
      → now.scn ≡ scn → now.guid ≡ guid → now.read_only ≡ held.read_only → AgreesWith now after
  agrees_control agrees header sixteen low is scn_is guid_is read_only =
      let first : first_page after.image ≡ controlled state scn guid (first_page before.image) = ap first_page is ∙ with_control-first state scn guid before.image (some_page before.image header) in
      let long = header-long (first_page before.image) header in
      record {
        scn = scn_is ∙ sym (ap scn_of first ∙ control_scn state scn guid (first_page before.image) long sixteen low);
        four = subst (λ (n : ℕ). n < 4294967296) (sym scn_is) low;
        guid = guid_is ∙ sym (ap guid_of first ∙ control_guid state scn guid (first_page before.image) long sixteen);
        read_only = read_only ∙ agrees.read_only
            ∙ ap (λ n. not (n == 0)) (sym (ap (number_in 65 1) first
            ∙ control_other state scn guid (first_page before.image) long sixteen 65 1 (inl (omega arith)) (inl (omega arith)) (inl (omega arith)) (inl (omega arith)) (inl (omega arith))));
      }

-- After a page write.
module _ (t : Trail) (p : ℕ) (bytes : Page) (fits : Fits p bytes t.base.image) where
  abbrev later : Image
  later = (after_stroke (page p bytes) t).base.image

  scn_stays : image_scn later ≡ image_scn t.base.image
  scn_stays = same-number (first_page later) (first_page t.base.image) (later_front t p bytes fits) 28 4 (omega arith)

  guid_stays : image_guid later ≡ image_guid t.base.image
  guid_stays = sym (part-take 64 32 16 (first_page later) (omega arith)) ∙ ap (part 32 16) (later_front t p bytes fits) ∙ part-take 64 32 16 (first_page t.base.image) (omega arith)

  module _ (held : Held) (pair : Rattle.nb_owner.specs.Open.Held) where
    -- what is held, with the flags of the page that was written
    abbrev flagged : Held
    flagged = record held { files = pair.files; pages = pair.pages; cap = pair.cap; read_only = not (number_in 65 1 bytes == 0) }

    abbrev same : Held
    same = record held { files = pair.files; pages = pair.pages; cap = pair.cap }

    agrees_first : p ≡ 0 → AgreesWith held t.base → AgreesWith flagged (after_stroke (page p bytes) t).base
    agrees_first e agrees = record {
      scn = agrees.scn ∙ sym scn_stays;
      four = agrees.four;
      guid = agrees.guid ∙ sym guid_stays;
      read_only = ap (λ (x : Page). not (number_in 65 1 x == 0)) (sym (first_written t p bytes fits e));
    }

    agrees_other : 0 < p → AgreesWith held t.base → AgreesWith same (after_stroke (page p bytes) t).base
    agrees_other some agrees = record {
      scn = agrees.scn ∙ sym scn_stays;
      four = agrees.four;
      guid = agrees.guid ∙ sym guid_stays;
      read_only = agrees.read_only ∙ ap (λ (x : Page). not (number_in 65 1 x == 0)) (sym (first_stays t p bytes fits some));
    }

    -- the database is open after it
    pub open_written : (old new : World) (after : Held) → (p ≡ 0 → after ≡ flagged) → (0 < p → after ≡ same) → IsOpen old held t → pair.files.state ≡ held.files.state → (held.files.state ≡ merge_state → pair.files.entries ≡ held.files.entries)
        → PairOpen new pair (after_stroke (page p bytes) t) → (held.files.state ≡ merge_state → AreMerged new pair.files held.merged) → IsOpen new after (after_stroke (page p bytes) t)
    open_written old new after first other is state entries opened merged = elim (eqb_tells p 0) [
      | inl w ↦ subst (λ (h : Held). IsOpen new h (after_stroke (page p bytes) t)) (sym (first w.1)) (record { files = opened; agrees = agrees_first w.1 is.agrees; merged = λ s. merged (sym state ∙ s); most = most })
      | inr w ↦
          let some : 0 < p = above p w.1 in
          subst (λ (h : Held). IsOpen new h (after_stroke (page p bytes) t)) (sym (other some)) (record { files = opened; agrees = agrees_other some is.agrees; merged = λ s. merged (sym state ∙ s); most = most })
    ]
      where
        most : pair.files.state ≡ merge_state → held.merged ≤ length pair.files.entries
        most s = subst (λ (es : List ℕ). held.merged ≤ length es) (sym (entries (sym state ∙ s))) (is.most (sym state ∙ s))

        above : (n : ℕ) → (n ≡ 0 → ⊥) → 0 < n
        above zero ne = absurd (ne refl)
        above (suc n) ne = omega arith

-- The two files and the pages in memory alone are others.
pub goes_files : (held : Held) (pair : Rattle.nb_owner.specs.Open.Held) → pair.files.name ≡ held.files.name → pair.files.page_size ≡ held.files.page_size → pair.files.state ≡ held.files.state
    → held.files.count ≤ pair.files.count → (held.files.state ≡ merge_state → pair.files.entries ≡ held.files.entries) → pair.cap ≡ held.cap → Goes held (record held { files = pair.files; pages = pair.pages; cap = pair.cap })
goes_files held pair name size state longer entries cap = record { name = name; page_size = size; state = state; longer = longer; entries = entries; running = refl; merged = refl; cap = cap }

-- and the flags
pub goes_written : (p : ℕ) (bytes : Page) (held after : Held) (pair : Rattle.nb_owner.specs.Open.Held)
    → (p ≡ 0 → after ≡ record held { files = pair.files; pages = pair.pages; cap = pair.cap; read_only = not (number_in 65 1 bytes == 0) }) → (0 < p → after ≡ record held { files = pair.files; pages = pair.pages; cap = pair.cap }) → Goes held (record held { files = pair.files; pages = pair.pages; cap = pair.cap })
    → Goes held after
goes_written zero bytes held after pair first other goes = subst (λ (h : Held). Goes held h) (sym (first refl)) (record { name = goes.name; page_size = goes.page_size; state = goes.state; longer = goes.longer; entries = goes.entries; running = refl; merged = refl; cap = goes.cap })
goes_written (suc p) bytes held after pair first other goes = subst (λ (h : Held). Goes held h) (sym (other (omega arith))) goes
