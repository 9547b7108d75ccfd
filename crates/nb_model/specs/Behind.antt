-- Files that are behind what is seen, and the way on which the pages that wait go out into them.
use Rattle.std.specs.Prelude.{◌≡◌, ◌⊎◌, ℕ, ◌<◌, List, ◌++◌, length, Bool, true, false, Some, None}
use Rattle.nb_fields.specs.Places.{is_scn_place}
use Rattle.nb_fields.specs.States.{stalled_state, merge_state}
use Rattle.nb_model.specs.Image.{page_at, first_page, image_size, image_state}
use Rattle.nb_model.specs.Account.{Base}
use Rattle.nb_model.specs.Owner.{entry_for}
use Rattle.nb_model.specs.Trail.{Trail, bases_of, HasPage}

-- What the files have seen, `f`, is a part of what was seen, `t`. Neither the length nor page 0 nor the frozen image waits, and in the
-- merge state no entry does.
pub record IsBehind (f t : Trail) : Type 0 where
  pub before : List Base
  pub behind : List Base
  pub part : bases_of t ≡ before ++ (bases_of f ++ behind)
  pub long : length f.base.image ≡ length t.base.image
  pub first : first_page f.base.image ≡ first_page t.base.image
  pub frozen : f.base.frozen ≡ t.base.frozen
  pub diverted : (rest : List ℕ) × (t.base.diverted ≡ f.base.diverted ++ rest)
  pub merging : image_state t.base.image ≡ merge_state → f.base.diverted ≡ t.base.diverted

-- in the stalled state an entry that is left names page p, and the page is as it is seen
pub record IsRewritten (t : Trail) (b : Base) (p : ℕ) : Type 0 where
  pub stalled : image_state t.base.image ≡ stalled_state
  pub entry : ℕ
  pub named : entry_for p b.diverted ≡ Some entry
  pub same : page_at b.image p ≡ page_at t.base.image p

-- A crash while pages go into their slots, or SCN pages into the main file: an SCN page is as the files had it or as it is seen, and every
-- other page as the files may have had it, or rewritten.
pub record IsOnTheWay (f t : Trail) (b : Base) : Type 0 where
  pub long : length b.image ≡ length t.base.image
  pub first : first_page b.image ≡ first_page t.base.image
  pub scn_pages : (p : ℕ) → p < length b.image → is_scn_place (image_size t.base.image) p ≡ true → (page_at b.image p ≡ page_at f.base.image p) ⊎ (page_at b.image p ≡ page_at t.base.image p)
  pub others : (p : ℕ) → p < length b.image → is_scn_place (image_size t.base.image) p ≡ false → HasPage (bases_of f) p (page_at b.image p) ⊎ IsRewritten t b p
  pub below : image_state t.base.image ≡ stalled_state → (p k : ℕ) → entry_for p b.diverted ≡ Some k → p < length b.image
  pub frozen : b.frozen ≡ f.base.frozen
  pub diverted : (rest : List ℕ) × (f.base.diverted ≡ b.diverted ++ rest)
  pub merging : image_state t.base.image ≡ merge_state → b.diverted ≡ f.base.diverted

-- A crash in the stalled state once all slots are written: each page that an entry names is as it is seen, every other as the files had it,
-- and of the entries that waited the first are there.
pub record IsEntering (f t : Trail) (b : Base) : Type 0 where
  pub stalled : image_state t.base.image ≡ stalled_state
  pub long : length b.image ≡ length t.base.image
  pub first : first_page b.image ≡ first_page t.base.image
  pub named : (p k : ℕ) → entry_for p b.diverted ≡ Some k → page_at b.image p ≡ page_at t.base.image p
  pub others : (p : ℕ) → entry_for p b.diverted ≡ None → page_at b.image p ≡ page_at f.base.image p
  pub frozen : b.frozen ≡ f.base.frozen
  pub front : (entered : List ℕ) × (b.diverted ≡ f.base.diverted ++ entered)
  pub diverted : (rest : List ℕ) × (t.base.diverted ≡ b.diverted ++ rest)

-- What reads on the way: the pages that still wait as the files had them, every other as it is seen.
pub record IsRead (f t : Trail) (waits : ℕ → Bool) (r : Base) : Type 0 where
  pub long : length r.image ≡ length t.base.image
  pub first : first_page r.image ≡ first_page t.base.image
  pub waiting : (p : ℕ) → waits p ≡ true → page_at r.image p ≡ page_at f.base.image p
  pub others : (p : ℕ) → waits p ≡ false → page_at r.image p ≡ page_at t.base.image p
  pub frozen : r.frozen ≡ t.base.frozen
  pub diverted : r.diverted ≡ t.base.diverted
