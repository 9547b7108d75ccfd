-- What is seen is what the files hold, with each page that waits written over.
use Rattle.std.proofs.Common.{◌≡◌, ◌≢◌, inl, inr, ℕ, suc, ◌<◌, List, [], ◌∷◌, length, ◌++◌, refl, sym, ap, subst, ◌∙◌, arith, get_or-set_other, false, nat_eq, is_some, Option, None, Some}
use Rattle.nb_owner.proofs.Common.{AllByRecursion, IsDistinct, keys_of, eqb_tells, leb_tells, IsDistinct-head, IsDistinct-tail, World, Page, Image, Numbered, page_at, image_size, written_at, overwritten, Base, Trail, same_pages, Slot, rank_of, Pages, Held, AreOf, IsOpen, waits, eq_self}
use Rattle.nb_model.specs.Waiting.{seen}
use Rattle.nb_model.proofs.OwnerLaws.{written_length}
use Rattle.nb_base.proofs.WrittenLaws.{written_same}
use Rattle.nb_owner.specs.Seen.{IsSeenOver, waiting_in}
use Rattle.nb_owner.proofs.RankLaws.{rank_here, rank_next}

-- a page that isn't in memory doesn't wait
none_waits : (p : ℕ) (es : Pages) → AllByRecursion (λ k. nat_eq p k ≡ false) (keys_of es) → rank_of es p ≡ None
none_waits p [] apart = refl
none_waits p (e ∷ es) apart = rank_next p e es apart.0 ∙ none_waits p es apart.1

-- each page that waits is one of the image
abbrev AreLow : Image → Pages → Type 0
AreLow t es = (p rank : ℕ) → rank_of es p ≡ Some rank → p < length t

-- but for the pages that wait the images are the same
abbrev AgreeBut : Pages → (f t : Image) → Type 0
AgreeBut es f t = (p : ℕ) → waits es p ≡ false → page_at f p ≡ page_at t p

low_behind : (t : Image) (e : ℕ × Slot) (es : Pages) → IsDistinct nat_eq (keys_of (e ∷ es)) → AreLow t (e ∷ es) → AreLow t es
low_behind t e es once low p rank is = elim (eqb_tells p e.0) [
  | inl w ↦ absurd (let h : None ≡ Some rank = sym (none_waits p es (subst (λ (k : ℕ). AllByRecursion (λ (q : ℕ). nat_eq k q ≡ false) (keys_of es)) (sym w.1) (IsDistinct-head nat_eq e.0 (keys_of es) once))) ∙ is in cc)
  | inr w ↦ low p rank (rank_next p e es w.0 ∙ is)
]

-- the other pages of an image in which one was written over
written_other : (size n : ℕ) (page : Page) (f : Image) (p : ℕ) → n < length f → p ≢ n → page_at (written_at size (n, page) f) p ≡ page_at f p
unfolding written_at
written_other size n page f p there ne = elim (leb_tells (suc n) (length f)) [
  | inl w ↦ rw (w.0, written_at) (get_or-set_other f n p page [] ne)
  | inr w ↦ absurd (omega (arith, there, w.1))
]

-- a waiting page is written over, and the others are still to come
agree_written : (size : ℕ) (t : Image) (e : ℕ × Slot) (es : Pages) (f : Image) → e.1.bytes ≡ page_at t e.0 → e.0 < length f → length f ≡ length t → AgreeBut (e ∷ es) f t
    → AgreeBut es (written_at size (e.0, e.1.bytes) f) t
agree_written size t e es f of there long agree p none = elim (eqb_tells p e.0) [
  | inl w ↦ subst (λ (q : ℕ). page_at (written_at size (e.0, e.1.bytes) f) q ≡ page_at t q) (sym w.1) (written_same size e.0 e.1.bytes f ∙ of)
  | inr w ↦ other (agree p (ap is_some (rank_next p e es w.0) ∙ none)) w.1
]
  where
    other : page_at f p ≡ page_at t p → p ≢ e.0 → page_at (written_at size (e.0, e.1.bytes) f) p ≡ page_at t p
    other same ne = written_other size e.0 e.1.bytes f p there ne ∙ same

-- with all of them written over, the files' image is that which is seen
pub overwrites : (size : ℕ) (t : Image) (es : Pages) (f : Image) → IsDistinct nat_eq (keys_of es) → AreOf t es → AreLow t es → length f ≡ length t → AgreeBut es f t
    → overwritten size (waiting_in es) f ≡ t
unfolding overwritten
overwrites size t [] f once of low long agree = same_pages f t long (λ p. agree p refl)
overwrites size t (e ∷ es) f once of low long agree =
    by (λ g same ahead. overwrites size t es g (IsDistinct-tail nat_eq e.0 (keys_of es) once) of.1 (low_behind t e es once low) same ahead) e.1.rank refl
  where
    quiet : e.1.rank ≡ None → AgreeBut es f t
    quiet is p none = elim (eqb_tells p e.0) [
      | inl w ↦ agree p (ap is_some (rank_here p e es w.0 ∙ is))
      | inr w ↦ agree p (ap is_some (rank_next p e es w.0) ∙ none)
    ]

    by : ((g : Image) → length g ≡ length t → AgreeBut es g t → overwritten size (waiting_in es) g ≡ t) → (r : Option ℕ) → e.1.rank ≡ r → overwritten size (waiting_in (e ∷ es)) f ≡ t
    by rest None is = rw is (rest f long (quiet is))
    by rest (Some rank) is =
        let there : e.0 < length f = let h = low e.0 rank (rank_here e.0 e es (eq_self e.0) ∙ is) in omega (arith, h, long) in
        rw is (rest (written_at size (e.0, e.1.bytes) f) (omega (arith, long, there, written_length size e.0 e.1.bytes f)) (agree_written size t e es f of.0 there long agree))

-- the parts of a database that is seen so
parts : (b f : Base) (waiting : List Numbered) (drafts : List ℕ) → overwritten (image_size f.image) waiting f.image ≡ b.image → f.frozen ≡ b.frozen → b.diverted ≡ f.diverted ++ drafts
    → b ≡ seen f waiting drafts
unfolding seen
parts b f waiting drafts image frozen diverted = sym (rw image (rw frozen (rw (sym diverted) refl)))

-- an open database is seen so
pub seen_over : (w : World) (held : Held) (t : Trail) → IsDistinct nat_eq (keys_of held.pages) → IsOpen w held t → IsSeenOver w held t.base
seen_over w held t once o = record {
  files = o.sees.base;
  shows = o.files.shows;
  drafts = o.waits.drafts.drafts;
  many = o.waits.drafts.many;
  is = parts t.base o.sees.base (waiting_in held.pages) o.waits.drafts.drafts
      (overwrites (image_size o.sees.base.image) t.base.image held.pages o.sees.base.image once o.pages (λ p rank is. (o.waits.each p rank is).low) o.waits.behind.long o.waits.clean)
      o.waits.behind.frozen o.waits.drafts.all;
}
