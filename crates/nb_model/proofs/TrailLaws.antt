-- Laws of trails: what a crash may leave of one that is settled, and that writes that are synced keep it settled.
use Rattle.std.proofs.Common.{◌≡◌, ℕ, zero, suc, ◌≤◌, List, [], ◌∷◌, ◌++◌, length, take, refl, sym, ap, subst, ◌∙◌, set, arith, Bool, true, false, ◌||◌, ◌==◌, nat_le, nat_lt, Ok}
use Rattle.nb_model.proofs.Common.{AllByRecursion, true≢false, append-nil, number_of, number_in, File, Files, Page, Image, is_forced, with_page, Base, owner, Stroke, make, page, begin, ends, finish, fix, merge, on_base, base_after, Trail, settled, bases_of, settles_at, after_stroke, after_strokes, AreSynced, IsBehindFirst, IsLeft, IsFirm, StandsOn, StandsIn, ShowsIn, Contains-push, or_true}
use Rattle.nb_model.proofs.StrokeLaws.{whole_page, stroke_page}
use Rattle.nb_model.proofs.CoveredLaws.{firm_left}

-- A crash may leave what was seen last.
pub itself_firm : (t : Trail) → IsFirm t t.base
itself_firm t = record {
  mixed = record { long = refl; first = refl; each = λ p low. record { base = t.base; there = Contains-push t.earlier t.base; below = low; same = refl } };
  kept = λ p at. refl;
  rest = record { frozen = refl; diverted = ([], sym (append-nil t.base.diverted)); merging = λ is. refl; whole = λ none. refl };
}

pub left_itself : (t : Trail) → IsLeft t t.base
left_itself t = firm_left t t.base (itself_firm t)

pub shows_stands : (name : List ℕ) (t : Trail) (files : Files) → ShowsIn name t.base files → StandsIn name t files
shows_stands name t files shows = record { base = t.base; opens = shows; left = left_itself t }

-- At a settled point it leaves nothing else.
pub settled_shows : (name : List ℕ) (b : Base) (m d : File) → StandsOn name (settled b) m d → owner name m d ≡ Ok b
settled_shows name b m d s = s.opens ∙ ap (λ (c : Base). Ok c) (s.left.rest.whole refl)

pub shows_settled : (name : List ℕ) (b : Base) (m d : File) → owner name m d ≡ Ok b → StandsOn name (settled b) m d
shows_settled name b m d opens = record { base = b; opens = opens; left = left_itself (settled b) }

-- the database of a trail goes on by the strokes, settled or not
pub trail_base : (s : Stroke) (t : Trail) → (after_stroke s t).base ≡ on_base s t.base
unfolding after_stroke
trail_base s t = by (settles_at t s)
  where
    by : (u : Bool) → (elim u as (λ z. Trail) [ true ↦ settled (on_base s t.base) | false ↦ record { base = on_base s t.base; earlier = bases_of t } ]).base ≡ on_base s t.base
    by true = refl
    by false = refl

-- a stroke that settles
pub settles_after : (s : Stroke) (t : Trail) → settles_at t s ≡ true → after_stroke s t ≡ settled (on_base s t.base)
unfolding after_stroke
settles_after s t is = ap (λ (u : Bool). elim u as (λ z. Trail) [ true ↦ settled (on_base s t.base) | false ↦ record { base = on_base s t.base; earlier = bases_of t } ]) is

-- and one that doesn't
pub waits_after : (s : Stroke) (t : Trail) → settles_at t s ≡ false → after_stroke s t ≡ record { base = on_base s t.base; earlier = bases_of t }
unfolding after_stroke
waits_after s t is = ap (λ (u : Bool). elim u as (λ z. Trail) [ true ↦ settled (on_base s t.base) | false ↦ record { base = on_base s t.base; earlier = bases_of t } ]) is

-- After strokes that settle the trail is settled.
pub synced_front : (ss : List Stroke) (b : Base) → AreSynced (settled b) ss → (k : ℕ) → after_strokes (take k ss) (settled b) ≡ settled (base_after b (take k ss))
unfolding after_strokes base_after
synced_front ss b synced zero = refl
synced_front [] b synced (suc k) = refl
synced_front (s ∷ ss) b synced (suc k) =
    let one : after_stroke s (settled b) ≡ settled (on_base s b) = settles_after s (settled b) synced.0 in
    ap (after_strokes (take k ss)) one ∙ synced_front ss (on_base s b) (subst (λ (t : Trail). AreSynced t ss) one synced.1) k

-- So files that stand for it show the database after a front of the strokes.
pub synced_shows : (name : List ℕ) (ss : List Stroke) (b : Base) → AreSynced (settled b) ss → (k : ℕ) (m d : File) → StandsOn name (after_strokes (take k ss) (settled b)) m d → owner name m d ≡ Ok (base_after b (take k ss))
synced_shows name ss b synced k m d s = settled_shows name (base_after b (take k ss)) m d (subst (λ (t : Trail). StandsOn name t m d) (synced_front ss b synced k) s)

-- a page write on a settled database with forced writes on
pub forced_settles : (b : Base) (p : ℕ) (bytes : Page) → is_forced b.image ≡ true → settles_at (settled b) (page p bytes) ≡ true
unfolding settles_at
forced_settles b p bytes forced = ap (λ (u : Bool). u || (p == 0 || nat_le (length b.image) p)) forced

-- page 0
pub first_settles : (b : Base) (bytes : Page) → settles_at (settled b) (page 0 bytes) ≡ true
unfolding settles_at
first_settles b bytes = or_true (is_forced b.image)

-- A write of a page that isn't page 0 keeps forced writes on.
forced_stays : (p : ℕ) (bytes : Page) (image : Image) → 1 ≤ p → is_forced image ≡ true → is_forced (with_page p bytes image) ≡ true
unfolding with_page number_in number_of
forced_stays zero bytes image some forced = absurd (omega arith)
forced_stays (suc p) bytes [] some forced = absurd (true≢false (sym forced))
forced_stays (suc p) bytes (x ∷ xs) some forced = by (nat_lt (suc p) (length (x ∷ xs)))
  where
    by : (u : Bool) → is_forced (elim u as (λ z. Image) [ true ↦ set (x ∷ xs) (suc p) bytes | false ↦ (x ∷ xs) ++ bytes ∷ [] ]) ≡ true
    by true = forced
    by false = forced

-- So with forced writes on each such write is synced.
pub forced_synced : (ss : List Stroke) (b : Base) → is_forced b.image ≡ true → AllByRecursion IsBehindFirst ss → AreSynced (settled b) ss
forced_synced [] b forced pages = tt
forced_synced (page p bytes ∷ ss) b forced pages =
    let one : settles_at (settled b) (page p bytes) ≡ true = forced_settles b p bytes forced in
    let image : (on_base (page p bytes) b).image ≡ with_page p bytes b.image = stroke_page b p bytes ∙ ap (λ (x : Page). with_page p x b.image) (whole_page p bytes b.image pages.0) in
    let still : is_forced (on_base (page p bytes) b).image ≡ true = ap is_forced image ∙ forced_stays p bytes b.image pages.0 forced in (
      one,
      subst (λ (t : Trail). AreSynced t ss) (sym (settles_after (page p bytes) (settled b) one)) (forced_synced ss (on_base (page p bytes) b) still pages.1),
    )
forced_synced (make image ∷ ss) b forced pages = absurd pages.0
forced_synced (begin guid ask ∷ ss) b forced pages = absurd pages.0
forced_synced (ends ∷ ss) b forced pages = absurd pages.0
forced_synced (finish ∷ ss) b forced pages = absurd pages.0
forced_synced (fix ∷ ss) b forced pages = absurd pages.0
forced_synced (merge records ∷ ss) b forced pages = absurd pages.0
