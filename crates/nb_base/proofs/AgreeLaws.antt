-- What is held agrees with the database after a page write, as it did before.
use Rattle.std.proofs.Common.{◌≡◌, inl, inr, ℕ, zero, suc, ◌+◌, ◌<◌, List, length, refl, sym, ap, subst, ◌∙◌, arith, Bool, ◌||◌, not, ◌==◌, nat_le, max, Result}
use Rattle.nb_base.proofs.Common.{eqb_tells, number_in, Page, Image, first_page, image_size, image_state, is_forced, with_page, Base, Stroke, page, on_base, Trail, after_stroke, is_kept_place, must_sync, same-header, with_page_same, with_page_other, trail_base, World, Held, Agrees, Fits, IsOpen, IsSeen, noted_in, TakesFirm, stroke_page}
use Rattle.nb_base.proofs.LeftLaws.{merged_fits, later_size, later_state, later_length, later_front, later_frozen}
use Rattle.nb_base.proofs.ForcedLaws.{forced_in}

-- what a page write makes of what is held
abbrev pub written_held : Held → (p : ℕ) → Held
written_held held p = record held { entries = noted_in held.state p held.entries; count = max held.count (p + 1) }

stroke-entries : (b : Base) (p : ℕ) (bytes : Page) → (on_base (page p bytes) b).diverted ≡ noted_in (image_state b.image) p b.diverted
unfolding on_base
stroke-entries b p bytes = Rattle.std.proofs.Common.refl

-- page 0 behind a page write
module _ (t : Trail) (p : ℕ) (bytes : Page) (fits : Fits p bytes t.base.image) where
  abbrev later : Image
  later = (after_stroke (page p bytes) t).base.image

  written : later ≡ with_page p bytes t.base.image
  written =
      ap (λ (b : Base). b.image) (trail_base (page p bytes) t) ∙ stroke_page t.base p bytes
      ∙ ap (λ (x : Page). with_page p x t.base.image) (merged_fits p bytes t.base.image fits.front)

  pub first_written : p ≡ 0 → first_page later ≡ bytes
  first_written e = ap first_page written ∙ ap (λ (n : ℕ). first_page (with_page n bytes t.base.image)) e ∙ with_page_same 0 bytes t.base.image (omega arith)

  pub first_stays : 0 < p → first_page later ≡ first_page t.base.image
  first_stays some = ap first_page written ∙ with_page_other p 0 bytes t.base.image fits.low (λ e. absurd (omega (arith, e, some)))

  -- so a page 0 that is written says whether writes are forced, and any other leaves it as it is
  pub later_forced : (before after : Bool) → before ≡ is_forced t.base.image → (p ≡ 0 → after ≡ not (number_in 64 1 bytes == 0)) → (0 < p → after ≡ before) → after ≡ is_forced later
  later_forced before after was first other = elim (eqb_tells p 0) [
    | inl w ↦ first w.1 ∙ ap (λ (x : Page). not (number_in 64 1 x == 0)) (sym (first_written w.1))
    | inr w ↦ let some : 0 < p = above p w.1 in other some ∙ was ∙ sym (forced_in later t.base.image (first_stays some))
  ]
    where
      above : (n : ℕ) → (n ≡ 0 → ⊥) → 0 < n
      above zero ne = absurd (ne refl)
      above (suc n) ne = omega arith

pub agrees_later : (held : Held) (t : Trail) (p : ℕ) (bytes : Page) (forced : Bool) → Fits p bytes t.base.image → forced ≡ is_forced (after_stroke (page p bytes) t).base.image → Agrees held t.base
    → Agrees (record (written_held held p) { forced = forced }) (after_stroke (page p bytes) t).base
agrees_later held t p bytes forced fits forced_is a = record {
  header = same-header _ (first_page t.base.image) (later_front t p bytes fits) ∙ a.header;
  page_size = a.page_size ∙ sym (later_size t p bytes fits);
  state = a.state ∙ sym (later_state t p bytes fits);
  opened = a.opened;
  forced = forced_is;
  count = ap (λ n. max n (p + 1)) a.count ∙ sym (later_length t p bytes fits);
  main_count = λ stalled. a.main_count stalled ∙ ap (λ (x : Image). length x) (sym (later_frozen t p bytes fits));
  entries = ap (λ n. noted_in n p held.entries) a.state ∙ ap (noted_in (image_state t.base.image) p) a.entries ∙ sym (ap (λ (b : Base). b.diverted) (trail_base (page p bytes) t) ∙ stroke-entries t.base p bytes);
}

-- what is open is seen, and what is seen and agrees is open
pub open_seen : (w : World) (held : Held) (t : Trail) → IsOpen w held t → IsSeen w held.name t
open_seen w held t o = record { left = o.left; shows = o.shows }

pub seen_open : (w : World) (held : Held) (t : Trail) → IsSeen w held.name t → Agrees held t.base → held.drafted ≡ 0 → IsOpen w held t
seen_open w held t seen agrees none_drafted = record { left = seen.left; shows = seen.shows; agrees = agrees; drafted = none_drafted }

-- which write is synced
pub synced_is : (held : Held) (b : Base) (p : ℕ) → Agrees held b
    → (held.forced || is_kept_place held.page_size p || nat_le held.count p) ≡ must_sync b.image p
synced_is held b p a =
    ap (λ (f : Bool). f || is_kept_place held.page_size p || nat_le held.count p) a.forced
    ∙ ap (λ n. is_forced b.image || is_kept_place n p || nat_le held.count p) a.page_size
    ∙ ap (λ n. is_forced b.image || is_kept_place (image_size b.image) p || nat_le n p) a.count

-- what a call took, under another word for the name
pub takes_named : {T E : Type 0} (result : Result T E) (old new : World) (a b : Held) (t : Trail) (strokes : List Stroke) → a ≡ b → TakesFirm result old new a.name (IsSeen new a.name) t strokes → TakesFirm result old new b.name (IsSeen new b.name) t strokes
takes_named result old new a b t strokes same takes = subst (λ (h : Held). TakesFirm result old new h.name (IsSeen new h.name) t strokes) same takes
