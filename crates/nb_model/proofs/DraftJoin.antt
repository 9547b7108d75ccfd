-- A form that goes on from a draft makes that draft's strokes, and then those that it makes from its image alone.
use Rattle.std.proofs.Common.{◌≡◌, ℕ, zero, suc, ◌+◌, ◌*◌, List, [], ◌∷◌, ◌++◌, drop, refl, sym, ap, ◌∙◌, append_assoc, Bool, true, false, ◌||◌, ◌==◌, nat_lt, Option, Some, None}
use Rattle.nb_model.proofs.Common.{append-nil, bytes_of, with_part, is_system_place, most_pages, inventory_kind, Image, page_at, image_size, image_scn, Stroke, Draft, drafted, wrote, written, needs, is_kind, other_kind, wants, scn_page_of, inventory_of, bit_number, entry_number, scn_entry, has_entry, with_bit, entry_written, entry_raised, raised, put, set_bit, take_page, lowest_free, first_not, needed_at, system_kind, system_payload, system_page, no_page, new_within}

-- the strokes of a draft, and then those of another that goes on from its image
abbrev pub joined : Draft → Draft → Draft
joined d e = record { image = e.image; strokes = d.strokes ++ e.strokes; broken = e.broken ++ d.broken; full = e.full || d.full }

-- it makes the same strokes from the image, whatever was made before
abbrev pub Joins : (Draft → Draft) → Type 0
Joins f = (d : Draft) → f d ≡ joined d (f (drafted d.image))

or_grouped : (a b c : Bool) → (a || (b || c)) ≡ ((a || b) || c)
or_grouped true b c = refl
or_grouped false b c = refl

pub joined_grouped : (d e g : Draft) → joined (joined d e) g ≡ joined d (joined e g)
joined_grouped d e g =
    ap (λ (ss : List Stroke). record { image = g.image; strokes = ss; broken = g.broken ++ (e.broken ++ d.broken); full = g.full || (e.full || d.full) }) (append_assoc d.strokes e.strokes g.strokes)
    ∙ ap (λ (ps : List ℕ). record { image = g.image; strokes = d.strokes ++ (e.strokes ++ g.strokes); broken = ps; full = g.full || (e.full || d.full) }) (sym (append_assoc g.broken e.broken d.broken))
    ∙ ap (λ (t : Bool). record { image = g.image; strokes = d.strokes ++ (e.strokes ++ g.strokes); broken = (g.broken ++ e.broken) ++ d.broken; full = t }) (or_grouped g.full e.full d.full)

-- no form, one form after another, and one or another by a test of the image
pub join_none : Joins (λ d. d)
join_none d = ap (λ (ss : List Stroke). record { image = d.image; strokes = ss; broken = d.broken; full = d.full }) (sym (append-nil d.strokes))

pub join_then : (f g : Draft → Draft) → Joins f → Joins g → Joins (λ d. g (f d))
join_then f g jf jg d =
    let e : Draft = f (drafted d.image) in
    jg (f d) ∙ ap (λ (x : Draft). joined x (g (drafted x.image))) (jf d) ∙ joined_grouped d e (g (drafted e.image)) ∙ ap (joined d) (sym (jg e))

pub join_choice : (test : Image → Bool) (f g : Draft → Draft) → Joins f → Joins g → Joins (λ d. elim (test d.image) as (λ z. Draft) [ true ↦ f d | false ↦ g d ])
join_choice test f g jf jg d = by (test d.image)
  where
    by : (t : Bool) → (elim t as (λ z. Draft) [ true ↦ f d | false ↦ g d ]) ≡ joined d (elim t as (λ z. Draft) [ true ↦ f (drafted d.image) | false ↦ g (drafted d.image) ])
    by true = jf d
    by false = jg d

-- what a form takes from the image before it
pub join_at : (f : Image → Draft → Draft) → ((image : Image) → Joins (f image)) → Joins (λ d. f d.image d)
join_at f jf d = jf d.image d

join_written : (p kind : ℕ) (payload : List ℕ) → Joins (written p kind payload)
unfolding written wrote
join_written p kind payload d = refl

join_broken : (p : ℕ) → Joins (λ d. record d { broken = p ∷ d.broken })
join_broken p d = ap (λ (ss : List Stroke). record { image = d.image; strokes = ss; broken = p ∷ d.broken; full = d.full }) (sym (append-nil d.strokes))

pub join_needs : (kind p : ℕ) → Joins (needs kind p)
unfolding needs
join_needs kind p d = join_choice (λ image. is_kind image kind p) (λ x. x) (λ x. record x { broken = p ∷ x.broken }) join_none (join_broken p) d

join_entry_written : (p : ℕ) → Joins (entry_written p)
unfolding entry_written
join_entry_written p d =
    join_at (λ image x. written (scn_page_of image p) 10 (drop 16 (with_part (32 + 4 * entry_number image p) (bytes_of 4 (image_scn image)) (page_at image (scn_page_of image p)))) x)
    (λ image. join_written (scn_page_of image p) 10 _) d

join_entry_raised : (p : ℕ) → Joins (entry_raised p)
unfolding entry_raised
join_entry_raised p d = join_choice (λ image. nat_lt (scn_entry image p) (image_scn image)) (entry_written p) (λ x. x) (join_entry_written p) join_none d

join_raised : (p : ℕ) → Joins (raised p)
unfolding raised
join_raised p d =
    join_choice (λ image. has_entry image p) (λ x. entry_raised p (needs 10 (scn_page_of x.image p) x)) (λ x. x)
    (join_at (λ image x. entry_raised p (needs 10 (scn_page_of image p) x)) (λ image. join_then (needs 10 (scn_page_of image p)) (entry_raised p) (join_needs 10 (scn_page_of image p)) (join_entry_raised p)))
    join_none d

pub join_put : (p kind : ℕ) (payload : List ℕ) → Joins (put p kind payload)
unfolding put
join_put p kind payload d = join_then (raised p) (written p kind payload) (join_raised p) (join_written p kind payload) d

pub join_set_bit : (bit p : ℕ) → Joins (set_bit bit p)
unfolding set_bit
join_set_bit bit p d =
    join_at (λ image x. put (inventory_of image p) inventory_kind (drop 16 (with_bit (bit_number image p) bit (page_at image (inventory_of image p)))) (needs 2 (inventory_of image p) x))
    (λ image. join_then (needs 2 (inventory_of image p)) (put (inventory_of image p) inventory_kind _) (join_needs 2 (inventory_of image p)) (join_put (inventory_of image p) 2 _)) d

pub join_system : (p : ℕ) → Joins (system_page p)
unfolding system_page
join_system p d =
    join_choice (λ image. is_kind image (system_kind image p) p) (λ x. x) (λ x. put p (system_kind x.image p) (system_payload x.image p) x) join_none
    (join_at (λ image x. put p (system_kind image p) (system_payload image p) x) (λ image. join_put p (system_kind image p) (system_payload image p))) d

join_full : Joins no_page
join_full d = ap (λ (ss : List Stroke). record { image = d.image; strokes = ss; broken = d.broken; full = true }) (sym (append-nil d.strokes))

-- what an image wants of a page
pub join_wants : (image : Image) (kind p : ℕ) (d e : Draft) → wants image kind p (joined d e) ≡ joined d (wants image kind p e)
join_wants image kind p d e = ap (λ (ps : List ℕ). record { image = e.image; strokes = d.strokes ++ e.strokes; broken = ps; full = e.full || d.full }) (sym (append_assoc (other_kind image kind p) e.broken d.broken))

-- a round of the search for a new page
pub join_round : (p : ℕ) → Joins (λ d. take_page p (system_page p d))
join_round p d = join_then (system_page p) (take_page p) (join_system p) (join_set_bit 0 p) d

pub join_last : (p kind : ℕ) (payload : List ℕ) → Joins (λ d. take_page p (put p kind payload d))
join_last p kind payload d = join_then (put p kind payload) (take_page p) (join_put p kind payload) (join_set_bit 0 p) d

-- a new page and its number
abbrev pub joined_new : Draft → Draft × ℕ → Draft × ℕ
joined_new d made = (joined d made.0, made.1)

-- it makes the same strokes from the image
abbrev JoinsNew : (tries kind : ℕ) (payload : ℕ → List ℕ) → Type 0
JoinsNew tries kind payload = (d : Draft) → new_within tries kind payload d ≡ joined_new d (new_within tries kind payload (drafted d.image))

-- so a new page that is asked for after other strokes is made by the same strokes
pub join_new : (tries kind : ℕ) (payload : ℕ → List ℕ) → JoinsNew tries kind payload
unfolding new_within
join_new zero kind payload d = ap (λ (x : Draft). (x, 0)) (join_full d)
join_new (suc tries) kind payload d = by_need (λ x. join_new tries kind payload x) (first_not d.image (needed_at d.image p))
  where
    p : ℕ
    p = lowest_free d.image

    round : Draft → Draft
    round x = take_page p (system_page p x)

    last : Draft → Draft
    last x = take_page p (put p kind (payload p) x)

    again : JoinsNew tries kind payload → new_within tries kind payload (round d) ≡ joined_new d (new_within tries kind payload (round (drafted d.image)))
    again before =
        let e : Draft = round (drafted d.image) in
        before (round d)
        ∙ ap (λ (x : Draft). joined_new x (new_within tries kind payload (drafted x.image))) (join_round p d)
        ∙ ap (λ (x : Draft). (x, (new_within tries kind payload (drafted e.image)).1)) (joined_grouped d e (new_within tries kind payload (drafted e.image)).0)
        ∙ ap (joined_new d) (sym (before e))

    by_place : JoinsNew tries kind payload → (t : Bool) → (elim t as (λ z. Draft × ℕ) [ true ↦ new_within tries kind payload (round d) | false ↦ (last d, p) ])
        ≡ joined_new d (elim t as (λ z. Draft × ℕ) [ true ↦ new_within tries kind payload (round (drafted d.image)) | false ↦ (last (drafted d.image), p) ])
    by_place before true = again before
    by_place before false = ap (λ (x : Draft). (x, p)) (join_last p kind (payload p) d)

    by_end : JoinsNew tries kind payload → (t : Bool)
        → (elim t as (λ z. Draft × ℕ) [
          | true ↦ (no_page d, p)
          | false ↦ elim (is_system_place (image_size d.image) p) as (λ z. Draft × ℕ) [ true ↦ new_within tries kind payload (round d) | false ↦ (last d, p) ]
        ])
        ≡ joined_new d (elim t as (λ z. Draft × ℕ) [
          | true ↦ (no_page (drafted d.image), p)
          | false ↦ elim (is_system_place (image_size d.image) p) as (λ z. Draft × ℕ) [ true ↦ new_within tries kind payload (round (drafted d.image)) | false ↦ (last (drafted d.image), p) ]
        ])
    by_end before true = ap (λ (x : Draft). (x, p)) (join_full d)
    by_end before false = by_place before (is_system_place (image_size d.image) p)

    go : Draft → Draft × ℕ
    go x = elim (p == most_pages) [
      | true ↦ (no_page x, p)
      | false ↦ elim (is_system_place (image_size d.image) p) [ true ↦ new_within tries kind payload (round x) | false ↦ (last x, p) ]
    ]

    by_need : JoinsNew tries kind payload → (o : Option ℕ)
        → (elim o as (λ z. Draft × ℕ) [ Some q ↦ (record d { broken = q ∷ d.broken }, 0) | None ↦ go d ])
        ≡ joined_new d (elim o as (λ z. Draft × ℕ) [ Some q ↦ (record (drafted d.image) { broken = q ∷ [] }, 0) | None ↦ go (drafted d.image) ])
    by_need before (Some q) = ap (λ (x : Draft). (x, 0)) (join_broken q d)
    by_need before None = by_end before (p == most_pages)
