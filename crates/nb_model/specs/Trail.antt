-- What was seen of a database since its last settled point, after which nothing can be lost, and what a crash may leave of it.
--
-- With forced writes off a page may wait: it is seen at once, and the files get it later. So what a crash leaves may be older than what is
-- seen, in each page by itself, and its SCN pages with it. What makes a mixture sound is kept: where the databases of the trail are in
-- step, the SCN entries that are left cover the pages that are left.
use Rattle.std.specs.Prelude.{◌≡◌, ℕ, ◌<◌, ◌≤◌, List, [], ◌∷◌, ◌++◌, length, Contains, Bool, true, false, ◌||◌, ◌==◌, nat_le, Ok}
use Rattle.nb_fields.specs.Places.{is_scn_place}
use Rattle.nb_fields.specs.States.{merge_state}
use Rattle.nb_host.specs.Files.{File, Files}
use Rattle.nb_model.specs.Image.{Page, Image, page_at, first_page, image_size, image_state, is_forced}
use Rattle.nb_model.specs.Account.{Base}
use Rattle.nb_model.specs.Strokes.{Stroke, make, page, begin, ends, finish, fix, merge, on_base}
use Rattle.nb_model.specs.Owner.{delta_name, owner}
use Rattle.nb_model.specs.Earlier.{IsCovered, AreInStep}

-- the database as it is seen, and what it was before that, from the last settled point on, the oldest first
pub record Trail : Type 0 where
  pub base : Base
  pub earlier : List Base

-- a settled point
abbrev pub settled : Base → Trail
settled b = record { base = b; earlier = [] }

-- all databases since the settled point
abbrev pub bases_of : Trail → List Base
bases_of t = t.earlier ++ t.base ∷ []

-- the images of databases
abbrev pub images : List Base → List Image
images [] = []
images (b ∷ bs) = b.image ∷ images bs

-- nothing was written since the settled point
abbrev pub is_settled : Trail → Bool
is_settled t = elim t.earlier [ [] ↦ true | b ∷ bs ↦ false ]

-- A write of that page never waits: forced writes are on, or it is page 0, or it makes the database longer.
abbrev pub is_synced : Image → (p : ℕ) → Bool
is_synced image p = is_forced image || (p == 0 || nat_le (length image) p)

-- The stroke ends in a settled point: all but page writes do, and a page write that never waits does where nothing waited.
unfoldable pub settles_at : Trail → Stroke → Bool
settles_at t (make image) = true
settles_at t (page p bytes) = elim (is_settled t) [ true ↦ is_synced t.base.image p | false ↦ false ]
settles_at t (begin guid ask) = true
settles_at t ends = true
settles_at t finish = true
settles_at t fix = true
settles_at t (merge records) = true

-- one stroke later
unfoldable pub after_stroke : Stroke → Trail → Trail
after_stroke s t = elim (settles_at t s) [
  | true ↦ settled (on_base s t.base)
  | false ↦ record { base = on_base s t.base; earlier = bases_of t }
]

-- strokes later, in order
unfoldable pub after_strokes : List Stroke → Trail → Trail
after_strokes [] t = t
after_strokes (s ∷ ss) t = after_strokes ss (after_stroke s t)

-- each of these strokes ends in a settled point
abbrev pub AreSynced : Trail → List Stroke → Type 0
AreSynced t [] = Unit {0}
AreSynced t (s ∷ ss) = (settles_at t s ≡ true) × AreSynced (after_stroke s t) ss

-- a write of a page that isn't page 0
abbrev pub IsBehindFirst : Stroke → Type 0
IsBehindFirst (page p bytes) = 1 ≤ p
IsBehindFirst other = ⊥

-- one of the databases has this page there
pub record HasPage (bases : List Base) (p : ℕ) (page : Page) : Type 0 where
  pub base : Base
  pub there : Contains bases base
  pub below : p < length base.image
  pub same : page ≡ page_at base.image p

-- The length and page 0 are those of `now`, and every page is that of one of the databases.
pub record IsMixture (bases : List Base) (now image : Image) : Type 0 where
  pub long : length image ≡ length now
  pub first : first_page image ≡ first_page now
  pub each : (p : ℕ) → p < length image → HasPage bases p (page_at image p)

-- Beside its pages a crash leaves this: the frozen image stays, the last entries of the difference file may be missing, but for the merge
-- state, and where nothing was written since the settled point it is the database itself.
pub record IsRest (t : Trail) (b : Base) : Type 0 where
  pub frozen : b.frozen ≡ t.base.frozen
  pub diverted : (rest : List ℕ) × (t.base.diverted ≡ b.diverted ++ rest)
  pub merging : image_state t.base.image ≡ merge_state → b.diverted ≡ t.base.diverted
  pub whole : t.earlier ≡ [] → b ≡ t.base

-- What a crash may leave of the database: each page by itself is one that was seen since the settled point. Where all that was seen is in
-- step, the SCN entries cover the pages.
pub record IsLeft (t : Trail) (b : Base) : Type 0 where
  pub mixed : IsMixture (bases_of t) t.base.image b.image
  pub covered : AreInStep (bases_of t) → IsCovered b
  pub rest : IsRest t b

-- What a crash may leave where no SCN page waits: its SCN pages are those that are seen.
pub record IsFirm (t : Trail) (b : Base) : Type 0 where
  pub mixed : IsMixture (bases_of t) t.base.image b.image
  pub kept : (p : ℕ) → is_scn_place (image_size t.base.image) p ≡ true → page_at b.image p ≡ page_at t.base.image p
  pub rest : IsRest t b

-- its two files can be opened, and hold what a crash may leave
pub record StandsOn (name : List ℕ) (t : Trail) (m d : File) : Type 0 where
  pub base : Base
  pub opens : owner name m d ≡ Ok base
  pub left : IsLeft t base

abbrev pub StandsIn : (name : List ℕ) → Trail → Files → Type 0
StandsIn name t files = StandsOn name t (files name) (files (delta_name name))

-- its two files are those of this database
abbrev pub ShowsIn : (name : List ℕ) → Base → Files → Type 0
ShowsIn name b files = owner name (files name) (files (delta_name name)) ≡ Ok b
