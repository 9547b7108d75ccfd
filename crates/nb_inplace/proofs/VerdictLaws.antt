-- What an accepted merge is: a standby in the normal or the applying state, and the level file that goes on from it.
use Rattle.std.proofs.Common.{◌≡◌, ◌⊎◌, inl, inr, ℕ, zero, suc, ◌-◌, ◌≤◌, List, refl, sym, ap, ◌∙◌, arith, Bool, true, false, not, ◌==◌, Some, None, Result, Ok, Err}
use Rattle.nb_inplace.proofs.Common.{eqb-true, eqb-false, or_parts, state_of, size_of, scn_of, guid_of, pending_of, normal_state, stalled_state, merge_state, applying_state, File, Files, same_name, Refusal, NoFile, WrongState, BadLevel, Unfinished, ChainGuid, ChainSize, ChainScn, Access, Cause, not_database, image_in, is_read_only, written_since, other_pages, not_next, not_finishing, not_mergeable, in_place_of, not_standby, bytes_of, in_place, Contents, read_level, formed, header-state, IsMergeable, not_false, ok_same, err_not_ok}
use Rattle.std.specs.Cmp.Lexicographic.{told_text}
use Rattle.nb_model.proofs.PutSound.{no_first, not_when}
use Rattle.nb_model.proofs.TurnCases.{is_so}

same_text : (a b : List ℕ) → same_name a b ≡ true → a ≡ b
same_text a b e = told_text a b true (sym e)

-- what the head of a level file names, where it goes on from a standby as it stands, which isn't written since
pub record GoesOnFrom (name bytes : List ℕ) (c : Contents) : Type 0 where
  pub previous : c.head.previous ≡ guid_of bytes
  pub size : c.head.size ≡ size_of bytes
  pub previous_scn : c.head.previous_scn ≡ scn_of bytes - 1
  pub read_only : is_read_only (image_in bytes) ≡ true
  pub unwritten : written_since name c.head.previous_scn (other_pages (image_in bytes)) ≡ None

goes_on : (name bytes : List ℕ) (c : Contents) → not_next name bytes c ≡ None → GoesOnFrom name bytes c
unfolding not_next
goes_on name bytes c none =
    let guid = no_first _ _ none in
    let size = no_first _ _ guid.1 in
    let scn = no_first _ _ size.1 in
    let access = no_first _ _ scn.1 in
    let stamps = no_first _ _ access.1 in
    record {
      previous = same_text c.head.previous (guid_of bytes) (is_so (same_name c.head.previous (guid_of bytes)) (ChainGuid name c.head.previous (guid_of bytes)) guid.0);
      size = eqb-true c.head.size (size_of bytes) (is_so (c.head.size == size_of bytes) (ChainSize name c.head.size (size_of bytes)) size.0);
      previous_scn = eqb-true c.head.previous_scn (scn_of bytes - 1) (is_so (c.head.previous_scn == scn_of bytes - 1) (ChainScn name c.head.previous_scn (scn_of bytes - 1)) scn.0);
      read_only = is_so (is_read_only (image_in bytes)) (Access 0) access.0;
      unwritten = stamps.0;
    }

-- the level file is the one that the merge was begun with
pub record IsTheSame (bytes : List ℕ) (c : Contents) : Type 0 where
  pub pending : pending_of bytes ≡ c.head.guid
  pub previous : guid_of bytes ≡ c.head.previous
  pub size : c.head.size ≡ size_of bytes

-- By the state: it goes on from the standby as it stands, or finishes what was begun.
pub data IsFor (name bytes : List ℕ) (c : Contents) : Type 0 where
  as_it_stands : state_of bytes ≡ normal_state → GoesOnFrom name bytes c → IsFor name bytes c
  begun : state_of bytes ≡ applying_state → IsTheSame bytes c → IsFor name bytes c

-- all that is known of an accepted merge
pub record IsAccepted (files : Files) (name bytes : List ℕ) (c : Contents) : Type 0 where
  pub formed : not_database bytes ≡ None
  pub level : List ℕ
  pub there : files name ≡ Some level
  pub read : read_level level ≡ Ok c
  pub size : c.head.size ≡ size_of bytes
  pub for : IsFor name bytes c

-- a standby of the form is in one of the two states
pub standby_state : (name bytes : List ℕ) → not_standby name (Some bytes) ≡ None → (not_database bytes ≡ None) × ((state_of bytes ≡ normal_state) ⊎ (state_of bytes ≡ applying_state))
unfolding not_standby
standby_state name bytes none =
    let form = no_first _ _ none in
    let state = no_first _ _ form.1 in
    let other = or_parts (state_of bytes == stalled_state) (state_of bytes == merge_state) (not_when _ (WrongState (state_of bytes)) state.0) in
    (form.0, by (state_of bytes) (header-state bytes (formed bytes form.0).header) (eqb-false (state_of bytes) 1 other.0) (eqb-false (state_of bytes) 2 other.1))
  where
    by : (n : ℕ) → n ≤ 3 → (n ≡ 1 → ⊥) → (n ≡ 2 → ⊥) → (n ≡ 0) ⊎ (n ≡ 3)
    by zero low one two = inl refl
    by (suc zero) low one two = absurd (one refl)
    by (suc (suc zero)) low one two = absurd (two refl)
    by (suc (suc (suc zero))) low one two = inr refl
    by (suc (suc (suc (suc n)))) low one two = absurd (omega arith)

-- the file that finishes what was begun
the_same : (name bytes : List ℕ) (c : Contents) → not_finishing name bytes c ≡ None → IsTheSame bytes c
unfolding not_finishing
the_same name bytes c none =
    let guids = no_first _ _ none in
    let size = no_first _ _ guids.1 in
    let parts = or_parts (not (same_name (pending_of bytes) c.head.guid)) (not (same_name (guid_of bytes) c.head.previous)) (not_when _ Unfinished guids.0) in
    record {
      pending = same_text (pending_of bytes) c.head.guid (not_false _ parts.0);
      previous = same_text (guid_of bytes) c.head.previous (not_false _ parts.1);
      size = eqb-true c.head.size (size_of bytes) (is_so (c.head.size == size_of bytes) (ChainSize name c.head.size (size_of bytes)) size.0);
    }

-- the tests by the state
abbrev pub by_state : (stopped : Bool) (bytes name : List ℕ) → Contents → Cause
by_state stopped bytes name c = elim stopped [ true ↦ not_finishing name bytes c | false ↦ not_next name bytes c ]

pub mergeable_by : (bytes name : List ℕ) (c : Contents) → not_mergeable bytes name c ≡ by_state (state_of bytes == applying_state) bytes name c
unfolding not_mergeable
mergeable_by bytes name c = refl

is_for : (bytes name : List ℕ) (c : Contents) → (state_of bytes ≡ normal_state) ⊎ (state_of bytes ≡ applying_state) → not_mergeable bytes name c ≡ None → IsFor name bytes c
is_for bytes name c (inl is) none = as_it_stands is (goes_on name bytes c (sym (mergeable_by bytes name c ∙ ap (λ (n : ℕ). by_state (n == 3) bytes name c) is) ∙ none))
is_for bytes name c (inr is) none = begun is (the_same name bytes c (sym (mergeable_by bytes name c ∙ ap (λ (n : ℕ). by_state (n == 3) bytes name c) is) ∙ none))

-- what was read, and nothing against it
in_place_parts : (bytes name level : List ℕ) (c : Contents) → in_place_of bytes name level ≡ Ok c → (read_level level ≡ Ok c) × (not_mergeable bytes name c ≡ None)
unfolding in_place_of
in_place_parts bytes name level c e = by (read_level level) refl e
  where
    clear : (d : Contents) → read_level level ≡ Ok d → (cause : Cause) → not_mergeable bytes name d ≡ cause
        → elim cause as (λ x. Result Contents Refusal) [ Some refusal ↦ Err refusal | None ↦ Ok d ] ≡ Ok c → (read_level level ≡ Ok c) × (not_mergeable bytes name c ≡ None)
    clear d is (Some r) found h = absurd (err_not_ok r c (Err r) refl h)
    clear d is None found h = let same : d ≡ c = ok_same d c (Ok d) refl h in (is ∙ ap Ok same, ap (not_mergeable bytes name) (sym same) ∙ found)

    by : (r : Result Contents ℕ) → read_level level ≡ r
        → elim r as (λ x. Result Contents Refusal) [
          | Err at ↦ Err (BadLevel name at)
          | Ok d ↦ elim (not_mergeable bytes name d) as (λ x. Result Contents Refusal) [ Some refusal ↦ Err refusal | None ↦ Ok d ]
        ] ≡ Ok c → (read_level level ≡ Ok c) × (not_mergeable bytes name c ≡ None)
    by (Err at) is h = absurd (err_not_ok (BadLevel name at) c (Err (BadLevel name at)) refl h)
    by (Ok d) is h = clear d is (not_mergeable bytes name d) refl h

-- of the model's verdict
record IsInPlace (files : Files) (standby name bytes : List ℕ) (c : Contents) : Type 0 where
  stands : not_standby standby (Some bytes) ≡ None
  level : List ℕ
  there : files name ≡ Some level
  is : in_place_of bytes name level ≡ Ok c

in_place_is : (files : Files) (standby name bytes : List ℕ) (c : Contents) → files standby ≡ Some bytes → in_place files standby name ≡ Ok c → IsInPlace files standby name bytes c
unfolding in_place
in_place_is files standby name bytes c there e = by (not_standby standby (files standby)) refl (files name) refl e
  where
    by : (cause : Cause) → not_standby standby (files standby) ≡ cause → (level : File) → files name ≡ level
        → elim cause as (λ x. Result Contents Refusal) [
          | Some refusal ↦ Err refusal
          | None ↦ elim level as (λ x. Result Contents Refusal) [ None ↦ Err (NoFile name) | Some bytes ↦ in_place_of (bytes_of (files standby)) name bytes ]
        ] ≡ Ok c → IsInPlace files standby name bytes c
    by (Some r) is level found h = absurd (err_not_ok r c (Err r) refl h)
    by None is None found h = absurd (err_not_ok (NoFile name) c (Err (NoFile name)) refl h)
    by None is (Some level) found h = record {
      stands = ap (not_standby standby) (sym there) ∙ is;
      level = level;
      there = found;
      is = ap (λ (f : File). in_place_of (bytes_of f) name level) (sym there) ∙ h;
    }

-- either way the pages have the standby's size
for_size : (name bytes : List ℕ) (c : Contents) → IsFor name bytes c → c.head.size ≡ size_of bytes
for_size name bytes c (as_it_stands is on) = on.size
for_size name bytes c (begun is same) = same.size

pub accepted : (files : Files) (standby name bytes : List ℕ) (c : Contents) → IsMergeable files standby name bytes c → IsAccepted files name bytes c
accepted files standby name bytes c m =
    let found = in_place_is files standby name bytes c m.there m.accepted in
    let stands = standby_state standby bytes found.stands in
    let read = in_place_parts bytes name found.level c found.is in
    let is = is_for bytes name c stands.1 read.1 in
    record { formed = stands.0; level = found.level; there = found.there; read = read.0; size = for_size name bytes c is; for = is }

-- The verdict, test by test: on the standby alone,
pub unfit : (files : Files) (standby name : List ℕ) (r : Refusal) → not_standby standby (files standby) ≡ Some r → in_place files standby name ≡ Err r
unfolding in_place
unfit files standby name r e = rw (e, in_place) refl

-- on the level file alone,
pub no_level : (files : Files) (standby name : List ℕ) → not_standby standby (files standby) ≡ None → files name ≡ None → in_place files standby name ≡ Err (NoFile name)
unfolding in_place
no_level files standby name e none = rw (e, in_place) (rw (none, in_place) refl)

pub bad_level : (files : Files) (standby name level : List ℕ) (at : ℕ) → not_standby standby (files standby) ≡ None → files name ≡ Some level → read_level level ≡ Err at → in_place files standby name ≡ Err (BadLevel name at)
unfolding in_place in_place_of
bad_level files standby name level at e there read = rw (e, in_place) (rw (there, in_place) (rw (read, in_place_of) refl))

-- and on both
abbrev pub answered : Contents → Cause → Result Contents Refusal
answered c cause = elim cause as (λ x. Result Contents Refusal) [ Some refusal ↦ Err refusal | None ↦ Ok c ]

module _ (files : Files) (standby name bytes level : List ℕ) (c : Contents) (here : files standby ≡ Some bytes) (stands : not_standby standby (Some bytes) ≡ None) (there : files name ≡ Some level) (read : read_level level ≡ Ok c) where
  pub verdict_by : in_place files standby name ≡ answered c (not_mergeable bytes name c)
  unfolding in_place in_place_of
  verdict_by =
      ap (λ (f : File). by_standby (not_standby standby f) (files name) f) here ∙ ap (λ (cause : Cause). by_standby cause (files name) (Some bytes)) stands
      ∙ ap (λ (f : File). by_standby None f (Some bytes)) there
      ∙ ap (λ (r : Result Contents ℕ). elim r as (λ x. Result Contents Refusal) [ Err at ↦ Err (BadLevel name at) | Ok d ↦ answered d (not_mergeable bytes name d) ]) read
    where
      by_standby : Cause → (level file : File) → Result Contents Refusal
      by_standby cause level file = elim cause as (λ x. Result Contents Refusal) [
        | Some refusal ↦ Err refusal
        | None ↦ elim level as (λ x. Result Contents Refusal) [ None ↦ Err (NoFile name) | Some bytes ↦ in_place_of (bytes_of file) name bytes ]
      ]
