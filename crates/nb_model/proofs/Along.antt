-- What holds of the image before strokes and after each of them.
use Rattle.std.proofs.Common.{◌≡◌, ◌⊎◌, inl, inr, ℕ, zero, suc, List, [], ◌∷◌, ◌++◌, take, refl, sym, ap, subst, ◌∙◌, Bool, true, false, nat_lt}
use Rattle.nb_model.proofs.Common.{stamped, Base, Draft, drafted, old_page, put, raised, needs, is_kind, has_entry, scn_entry, scn_page_of, entry_raised, entry_written, written, wrote, Page, Image, image_scn, Stroke, page, on_base, base_after}
use Rattle.nb_model.proofs.DraftLaws.{IsOf, drafted_is, drafts_are, raised_keeps, put_keeps}
use Rattle.nb_model.proofs.StrokeLaws.{base_after-append}

abbrev pub Along : (Q : Image → Type 0) → Base → List Stroke → Type 0
Along Q b [] = Q b.image
Along Q b (s ∷ ss) = Q b.image × Along Q (on_base s b) ss

pub along_front : (Q : Image → Type 0) (b : Base) (ss : List Stroke) → Along Q b ss → (k : ℕ) → Q (base_after b (take k ss)).image
unfolding base_after
along_front Q b [] along zero = along
along_front Q b [] along (suc k) = along
along_front Q b (s ∷ ss) along zero = along.0
along_front Q b (s ∷ ss) along (suc k) = along_front Q (on_base s b) ss along.1 k

pub along_append : (Q : Image → Type 0) (b : Base) (xs ys : List Stroke) → Along Q b xs → Along Q (base_after b xs) ys → Along Q b (xs ++ ys)
unfolding base_after
along_append Q b [] ys first rest = rest
along_append Q b (x ∷ xs) ys first rest = (first.0, along_append Q (on_base x b) xs ys first.1 rest)

pub along_end : (Q : Image → Type 0) (b : Base) (ss : List Stroke) → Along Q b ss → Q (base_after b ss).image
unfolding base_after
along_end Q b [] along = along
along_end Q b (s ∷ ss) along = along_end Q (on_base s b) ss along.1

pub along_more : (Q R : Image → Type 0) (b : Base) (ss : List Stroke) → ((x : Image) → Q x → R x) → Along Q b ss → Along R b ss
along_more Q R b [] goes along = goes b.image along
along_more Q R b (s ∷ ss) goes along = (goes b.image along.0, along_more Q R (on_base s b) ss goes along.1)

-- Of a draft's strokes: one at most comes before the page that is put.
abbrev IsShort : List Stroke → Type 0
IsShort ss = (ss ≡ []) ⊎ ((s : Stroke) × (ss ≡ s ∷ []))

wrote_short : (q : ℕ) (bytes : Page) (d : Draft) → d.strokes ≡ [] → IsShort (wrote q bytes d).strokes
unfolding wrote
wrote_short q bytes d none = inr (page q bytes, ap (λ (ss : List Stroke). ss ++ page q bytes ∷ []) none)

entry_short : (p : ℕ) (d : Draft) → d.strokes ≡ [] → IsShort (entry_written p d).strokes
unfolding entry_written written
entry_short p d none = wrote_short _ _ d none

entry_raised_short : (p : ℕ) (d : Draft) → d.strokes ≡ [] → IsShort (entry_raised p d).strokes
unfolding entry_raised
entry_raised_short p d none = by (nat_lt (scn_entry d.image p) (image_scn d.image))
  where
    by : (t : Bool) → IsShort (elim t as (λ z. Draft) [ true ↦ entry_written p d | false ↦ d ]).strokes
    by true = entry_short p d none
    by false = inl none

needed_none : (kind q : ℕ) (x : Image) → (needs kind q (drafted x)).strokes ≡ []
unfolding needs
needed_none kind q x = by (is_kind x kind q)
  where
    by : (t : Bool) → (elim t as (λ z. Draft) [ true ↦ drafted x | false ↦ record (drafted x) { broken = q ∷ [] } ]).strokes ≡ []
    by true = refl
    by false = refl

raised_short : (p : ℕ) (x : Image) → IsShort (raised p (drafted x)).strokes
unfolding raised
raised_short p x = by (has_entry x p)
  where
    by : (t : Bool) → IsShort (elim t as (λ z. Draft) [ true ↦ entry_raised p (needs 10 (scn_page_of x p) (drafted x)) | false ↦ drafted x ]).strokes
    by true = entry_raised_short p (needs 10 (scn_page_of x p) (drafted x)) (needed_none 10 (scn_page_of x p) x)
    by false = inl refl

short_along : (Q : Image → Type 0) (b : Base) (ss : List Stroke) → IsShort ss → Q b.image → Q (base_after b ss).image → Along Q b ss
unfolding base_after
short_along Q b ss (inl none) first last = subst (Along Q b) (sym none) first
short_along Q b ss (inr (s, one)) first last = subst (Along Q b) (sym one) (first, subst (λ (ts : List Stroke). Q (base_after b ts).image) one last)

put_strokes_are : (p kind : ℕ) (payload : List ℕ) (d : Draft) → (put p kind payload d).strokes ≡ (raised p d).strokes ++ page p (stamped (old_page p (raised p d).image) kind payload (image_scn (raised p d).image) p) ∷ []
unfolding put written wrote
put_strokes_are p kind payload d = refl

one_after : (s : Stroke) (c : Base) → (on_base s c).image ≡ (base_after c (s ∷ [])).image
unfolding base_after
one_after s c = refl

-- A page is put.
pub put_along : (Q : Image → Type 0) (b : Base) (x : Image) (p kind : ℕ) (payload : List ℕ) → b.image ≡ x → Q x → Q (raised p (drafted x)).image → Q (put p kind payload (drafted x)).image → Along Q b (put p kind payload (drafted x)).strokes
put_along Q b x p kind payload e first between last =
    subst (λ (y : Image). Along Q b (put p kind payload (drafted y)).strokes) e
    (at_own (subst Q (sym e) first) (subst (λ (y : Image). Q (raised p (drafted y)).image) (sym e) between) (subst (λ (y : Image). Q (put p kind payload (drafted y)).image) (sym e) last))
  where
    d : Draft
    d = drafted b.image

    ss : List Stroke
    ss = (raised p d).strokes

    stroke : Stroke
    stroke = page p (stamped (old_page p (raised p d).image) kind payload (image_scn (raised p d).image) p)

    mid_is : (base_after b ss).image ≡ (raised p d).image
    mid_is = (raised_keeps (IsOf b) (drafts_are b) p d (drafted_is b)).is

    last_is : (base_after b (put p kind payload d).strokes).image ≡ (put p kind payload d).image
    last_is = (put_keeps (IsOf b) (drafts_are b) p kind payload d (drafted_is b)).is

    behind : (c : Base) → Q c.image → Q (on_base stroke c).image → Along Q c (stroke ∷ [])
    behind c first last = (first, last)

    last_base : (on_base stroke (base_after b ss)).image ≡ (put p kind payload d).image
    last_base = one_after stroke (base_after b ss) ∙ sym (ap (λ (c : Base). c.image) (base_after-append b ss (stroke ∷ []))) ∙ ap (λ (ts : List Stroke). (base_after b ts).image) (sym (put_strokes_are p kind payload d)) ∙ last_is

    at_own : Q b.image → Q (raised p d).image → Q (put p kind payload d).image → Along Q b (put p kind payload d).strokes
    at_own first between last =
        subst (Along Q b) (sym (put_strokes_are p kind payload d))
        (along_append Q b ss (stroke ∷ []) (short_along Q b ss (raised_short p b.image) first (subst Q (sym mid_is) between))
        (behind (base_after b ss) (subst Q (sym mid_is) between) (subst Q (sym last_base) last)))
