-- What is in memory is what was seen last, after each call.
use Rattle.std.proofs.Common.{◌≡◌, ◌≢◌, ◌⊎◌, inl, inr, ⊎_elim, ℕ, zero, suc, ◌+◌, ◌-◌, ◌<◌, ◌≤◌, Bool, nat_eq, true, false, List, [], ◌∷◌, length, take, Option, Some, None, refl, sym, ap, subst, ◌∙◌, arith, is_some, slice_get, MatchOption, if◌then◌else◌}
use Rattle.nb_owner.proofs.Common.{option_and_then, option_map, option_map_or, AllByRecursion, IsDistinct, keys_of, lookup_entry, remove_entry, true≢false, eqb-false, leb_tells, normal_state, lru_cache, promoted, put_entries, Page, Image, page_at, first_page, image_scn, image_guid, trimmed, with_page, Ask, Base, page, begin, ends, finish, with_control, Trail, after_stroke, trail_base, World, Fits, merged_fits, Slot, slot_of, rank_of, with_rank, dropped, NoneWaits, IsNoLater, GoesFirst, Held, Pages, IsOpen, HasBlock, AreOf, IsValid, bare, used, behind_first, but_below, begun_image, ended_image, stroke_page}
use Rattle.nb_model.proofs.StrokeLaws.{with_page_same, with_page_other}
use Rattle.nb_model.proofs.TrimLaws.{trimmed_length, trimmed_at, trimmed_past, finish_base}
use Rattle.nb_base.specs.Open.{IsOpen as AreOpen}
use Rattle.nb_base.proofs.ControlLaws.{with_control-behind}
use Rattle.nb_base.proofs.EndLaws.{finished_length}
use Rattle.nb_owner.proofs.UsedLaws.{All-dropped, All-put, All-found, once_put, once_removed, promoted_put, promoted_absent}
use Rattle.nb_owner.proofs.RankLaws.{none_found, marked_keys, marked_long, found_rank, slot_put}

-- the pages once this one is first, with that rank
abbrev pub put_first : Pages → (cap p : ℕ) → Slot → Pages
put_first pages cap p v = put_entries nat_eq (lru_cache pages cap) p v

module _ (pages : Pages) (once : IsDistinct nat_eq (keys_of pages)) where
  -- a page as it was read
  pub of_read : (image : Image) (cap p : ℕ) (v : Slot) → v.bytes ≡ page_at image p → AreOf image pages → AreOf image (put_first pages cap p v)
  of_read image cap p v is all = All-put p pages once cap _ (λ e. e.1.bytes ≡ page_at image e.0) (λ e. e.1.bytes ≡ page_at image e.0) (λ e apart of. of) is all

  -- a page as it was written
  pub of_written : (t : Trail) (cap p : ℕ) (bytes : Page) (rank : Option ℕ) → Fits p bytes t.base.image → AreOf t.base.image pages → AreOf (after_stroke (page p bytes) t).base.image (put_first pages cap p (record { bytes = bytes; rank = rank }))
  of_written t cap p bytes rank fits all =
      subst (λ (image : Image). AreOf image (put_first pages cap p (record { bytes = bytes; rank = rank }))) (sym written)
      (All-put p pages once cap _ (λ e. e.1.bytes ≡ page_at t.base.image e.0) (λ e. e.1.bytes ≡ page_at (with_page p bytes t.base.image) e.0)
      (λ e apart of. of ∙ sym (with_page_other p e.0 bytes t.base.image fits.low (λ same. eqb-false p e.0 apart (sym same)))) (sym (with_page_same p bytes t.base.image fits.low)) all)
    where
      written : (after_stroke (page p bytes) t).base.image ≡ with_page p bytes t.base.image
      written =
          ap (λ (b : Base). b.image) (trail_base (page p bytes) t) ∙ stroke_page t.base p bytes
          ∙ ap (λ (x : Page). with_page p x t.base.image) (merged_fits p bytes t.base.image fits.front)

  -- page 0 has another control block
  of_control : (before after : Image) (state scn : ℕ) (guid : List ℕ) → after ≡ with_control state scn guid before → AreOf before pages → AreOf after (behind_first pages)
  of_control before after state scn guid is all =
      subst (λ (image : Image). AreOf image (behind_first pages)) (sym is)
      (All-dropped 0 pages once (λ e. e.1.bytes ≡ page_at before e.0) (λ e. e.1.bytes ≡ page_at (with_control state scn guid before) e.0)
      (λ e apart of. of ∙ sym (with_control-behind state scn guid before e.0 (λ first. eqb-false 0 e.0 apart (sym first)))) all)

  pub of_begun : (t : Trail) (guid : List ℕ) (ask : Option Ask) → AreOf t.base.image pages → AreOf (after_stroke (begin guid ask) t).base.image (behind_first pages)
  of_begun t guid ask all = of_control t.base.image _ 1 _ guid (ap (λ (b : Base). b.image) (trail_base (begin guid ask) t) ∙ begun_image t.base guid ask) all

  pub of_ended : (t : Trail) → AreOf t.base.image pages → AreOf (after_stroke ends t).base.image (behind_first pages)
  of_ended t all = of_control t.base.image _ 2 _ _ (ap (λ (b : Base). b.image) (trail_base ends t) ∙ ended_image t.base) all

  -- where none waits, none does once a page is dropped, as page 0 is
  pub none_waits_gone : (p : ℕ) → NoneWaits pages → NoneWaits (remove_entry (nat_eq p) pages)
  none_waits_gone p none = All-dropped p pages once (λ e. e.1.rank ≡ None) (λ e. e.1.rank ≡ None) (λ e apart waits. waits) none

  none_waits_dropped : NoneWaits pages → NoneWaits (behind_first pages)
  none_waits_dropped none = none_waits_gone 0 none

-- Pages of so many numbers below one are held no longer.
abbrev Outside : (low top : ℕ) → ℕ × Slot → Type 0
Outside low top e = (e.0 < low) ⊎ (top ≤ e.0)

below_once : (k top : ℕ) (pages : Pages) → IsDistinct nat_eq (keys_of pages) → IsDistinct nat_eq (keys_of (but_below k top pages))
below_once zero top pages once = once
below_once (suc k) top pages once = once_removed (top - suc k) (but_below k top pages) (below_once k top pages once)

below_all : (P : ℕ × Slot → Type 0) (k top : ℕ) (pages : Pages) → k ≤ top → IsDistinct nat_eq (keys_of pages) → AllByRecursion P pages → AllByRecursion (λ e. P e × Outside (top - k) top e) (but_below k top pages)
below_all P zero top pages low once all = each pages all
  where
    inside : (n : ℕ) → (n < top - 0) ⊎ (top ≤ n)
    inside n = elim (leb_tells top n) [ inl w ↦ inr w.1 | inr w ↦ inl (omega (arith, w.1)) ]

    each : (es : Pages) → AllByRecursion P es → AllByRecursion (λ e. P e × Outside (top - 0) top e) es
    each [] all = tt
    each (e ∷ es) all = ((all.0, inside e.0), each es all.1)
below_all P (suc k) top pages low once all =
    All-dropped (top - suc k) (but_below k top pages) (below_once k top pages once) (λ e. P e × Outside (top - k) top e) (λ e. P e × Outside (top - suc k) top e)
    (λ e apart has. (has.0, ⊎_elim (λ inside. inl (less e.0 (eqb-false (top - suc k) e.0 apart) inside)) (λ past. inr past) has.1)) (below_all P k top pages (omega (arith, low)) once all)
  where
    less : (n : ℕ) → top - suc k ≢ n → n < top - k → n < top - suc k
    less n other inside = elim (leb_tells (top - suc k) n) [
      | inl w ↦ absurd (other (let e : top - suc k ≡ n = omega (arith, w.1, inside) in e))
      | inr w ↦ w.1
    ]

-- none of them waits where none did
pub below_waits : (k top : ℕ) (pages : Pages) → k ≤ top → IsDistinct nat_eq (keys_of pages) → NoneWaits pages → NoneWaits (but_below k top pages)
below_waits k top pages low once none = each (but_below k top pages) (below_all (λ e. e.1.rank ≡ None) k top pages low once none)
  where
    each : (es : Pages) → AllByRecursion (λ e. (e.1.rank ≡ None) × Outside (top - k) top e) es → NoneWaits es
    each [] all = tt
    each (e ∷ es) all = (all.0.0, each es all.1)

-- one after another, from the top down
pub below_none : (top : ℕ) (pages : Pages) → but_below (top - top) top pages ≡ pages
below_none top pages = ap (λ k. but_below k top pages) (let e : top - top ≡ 0 = omega arith in e)

pub below_next : (top n : ℕ) (pages : Pages) → n ≤ top → 1 ≤ n → remove_entry (nat_eq (n - 1)) (but_below (top - n) top pages) ≡ but_below (top - (n - 1)) top pages
below_next top n pages low some =
    ap (λ m. remove_entry (nat_eq m) (but_below (top - n) top pages)) (let e : n - 1 ≡ top - suc (top - n) = omega (arith, low, some) in e)
    ∙ ap (λ k. but_below k top pages) (let e : suc (top - n) ≡ top - (n - 1) = omega (arith, low, some) in e)

-- how many pages the files have once the merge is finished
pub finished_count : (w : World) (files : Rattle.nb_base.specs.Open.Held) (t : Trail) → AreOpen w files (after_stroke finish t) → files.count ≡ length (trimmed t.base.image)
finished_count w files t is = is.agrees.count ∙ ap (λ (b : Base). length b.image) (trail_base finish t) ∙ finished_length t.base

-- The merge is finished: page 0 has another control block, and pages of zeros at the end are none.
pub of_finished : (pages : Pages) → IsDistinct nat_eq (keys_of pages) → (t : Trail) (count : ℕ) → count ≡ length (trimmed t.base.image) → AreOf t.base.image pages
    → AreOf (after_stroke finish t).base.image (but_below (length t.base.image - count) (length t.base.image) (behind_first pages))
of_finished pages once t count filled all =
    subst (λ (x : Image). AreOf x (but_below (length t.base.image - count) (length t.base.image) (behind_first pages))) (sym (ap (λ (b : Base). b.image) (trail_base finish t ∙ finish_base t.base)))
    (each (but_below (length t.base.image - count) (length t.base.image) (behind_first pages))
    (below_all (λ e. (e.1.bytes ≡ page_at t.base.image e.0) × (e.0 ≢ 0)) (length t.base.image - count) (length t.base.image) (behind_first pages) (omega arith) (once_removed 0 pages once)
    (All-dropped 0 pages once (λ e. e.1.bytes ≡ page_at t.base.image e.0) (λ e. (e.1.bytes ≡ page_at t.base.image e.0) × (e.0 ≢ 0)) (λ e apart of. (of, λ first. eqb-false 0 e.0 apart (sym first))) all)))
  where
    few : count ≤ length t.base.image
    few = omega (arith, filled, trimmed_length t.base.image)

    seen : (q : ℕ) → (q < length t.base.image - (length t.base.image - count)) ⊎ (length t.base.image ≤ q) → page_at (trimmed t.base.image) q ≡ page_at t.base.image q
    seen q = ⊎_elim (λ low. trimmed_at t.base.image q (omega (arith, low, few, filled))) (trimmed_past t.base.image q)

    each : (es : Pages) → AllByRecursion (λ e. ((e.1.bytes ≡ page_at t.base.image e.0) × (e.0 ≢ 0)) × Outside (length t.base.image - (length t.base.image - count)) (length t.base.image) e) es
        → AreOf (with_control normal_state (image_scn t.base.image) (image_guid t.base.image) (trimmed t.base.image)) es
    each [] all = tt
    each (e ∷ es) all = (all.0.0.0 ∙ sym (seen e.0 all.0.1) ∙ sym (with_control-behind normal_state (image_scn t.base.image) (image_guid t.base.image) (trimmed t.base.image) e.0 all.0.0.1), each es all.1)

none_at : (pages : Pages) (n : ℕ) → NoneWaits pages → option_and_then (λ (e : ℕ × Slot). option_map (λ _. e.0) e.1.rank) (slice_get pages n) ≡ None
none_at [] n none = refl
none_at (e ∷ es) zero none = ap (option_map (λ _. e.0)) none.0
none_at (e ∷ es) (suc n) none = none_at es n none.1

-- so none goes that waits
pub none_dropped : (held : Rattle.nb_cache.specs.Held.Held) (p : ℕ) → NoneWaits held.pages → dropped held p ≡ None
none_dropped held p none = by (is_some (slot_of held.pages p))
  where
    by : (b : Bool) → option_and_then (λ (e : ℕ × Slot). option_map (λ _. e.0) e.1.rank) (if b then None else slice_get held.pages (held.cap - 1)) ≡ None
    by true = refl
    by false = none_at held.pages (held.cap - 1) none

-- How many pages there are.
taken_long : (n : ℕ) (es : Pages) → length (take n es) ≤ n
taken_long zero es = omega arith
taken_long (suc n) [] = omega arith
taken_long (suc n) (e ∷ es) = let rest = taken_long n es in omega (arith, rest)

removed_long : (p : ℕ) (es : Pages) → length (remove_entry (nat_eq p) es) ≤ length es
removed_long p [] = omega arith
removed_long p (e ∷ es) = (elim (nat_eq p e.0) as (λ b. nat_eq p e.0 ≡ b → length (remove_entry (nat_eq p) (e ∷ es)) ≤ length (e ∷ es)) [
  | true ↦ λ is. rw is (omega arith)
  | false ↦ λ is. rw is (let rest = removed_long p es in omega (arith, rest))
]) refl

removed_less : (p : ℕ) (es : Pages) (e : ℕ × Slot) → lookup_entry (nat_eq p) es ≡ Some e → length (remove_entry (nat_eq p) es) + 1 ≡ length es
removed_less p [] e is = absurd (let h : None ≡ Some e = is in cc)
removed_less p (x ∷ xs) e is = (elim (nat_eq p x.0) as (λ b. nat_eq p x.0 ≡ b → length (remove_entry (nat_eq p) (x ∷ xs)) + 1 ≡ length (x ∷ xs)) [
  | true ↦ λ at. rw at (omega arith)
  | false ↦ λ at. rw at (let rest = removed_less p xs e (rw at at is) in omega (arith, rest))
]) refl

put_long : (p cap : ℕ) (v : Slot) (es : Pages) → 0 < cap → length es ≤ cap → length (put_first es cap p v) ≤ cap
put_long p cap v es some most = by (lookup_entry (nat_eq p) es) refl
  where
    by : (o : Option (ℕ × Slot)) → lookup_entry (nat_eq p) es ≡ o → length (option_map_or (λ e. (e.0, v) ∷ remove_entry (nat_eq p) es) o ((p, v) ∷ take (cap - 1) es)) ≤ cap
    by None is = let rest = taken_long (cap - 1) es in omega (arith, rest, some)
    by (Some e) is = let rest = removed_less p es e is in omega (arith, rest, most)

promoted_long : (p : ℕ) (es : Pages) → length (promoted (nat_eq p) es) ≡ length es
promoted_long p es = by (lookup_entry (nat_eq p) es) refl
  where
    by : (o : Option (ℕ × Slot)) → lookup_entry (nat_eq p) es ≡ o → length (option_map_or (λ e. e ∷ remove_entry (nat_eq p) es) o es) ≡ length es
    by None is = refl
    by (Some e) is = let rest = removed_less p es e is in omega (arith, rest)

-- The pages whatever their ranks.
bare_taken : (n : ℕ) (es : Pages) → bare (take n es) ≡ take n (bare es)
bare_taken zero es = refl
bare_taken (suc n) [] = refl
bare_taken (suc n) (e ∷ es) = ap (λ (xs : List (ℕ × List ℕ)). (e.0, e.1.bytes) ∷ xs) (bare_taken n es)

pub bare_removed : (p : ℕ) (es : Pages) → bare (remove_entry (nat_eq p) es) ≡ remove_entry (nat_eq p) (bare es)
bare_removed p [] = refl
bare_removed p (e ∷ es) = (elim (nat_eq p e.0) as (λ b. nat_eq p e.0 ≡ b → bare (remove_entry (nat_eq p) (e ∷ es)) ≡ remove_entry (nat_eq p) (bare (e ∷ es))) [
  | true ↦ λ is. rw is refl
  | false ↦ λ is. rw is (ap (λ (xs : List (ℕ × List ℕ)). (e.0, e.1.bytes) ∷ xs) (bare_removed p es))
]) refl

abbrev bare_entry : ℕ × Slot → ℕ × List ℕ
bare_entry e = (e.0, e.1.bytes)

bare_found : (p : ℕ) (es : Pages) → lookup_entry (nat_eq p) (bare es) ≡ option_map bare_entry (lookup_entry (nat_eq p) es)
bare_found p [] = refl
bare_found p (e ∷ es) = (elim (nat_eq p e.0) as (λ b. nat_eq p e.0 ≡ b → lookup_entry (nat_eq p) (bare (e ∷ es)) ≡ option_map bare_entry (lookup_entry (nat_eq p) (e ∷ es))) [
  | true ↦ λ is. rw is refl
  | false ↦ λ is. rw is (bare_found p es)
]) refl

pub bare_put : (p cap : ℕ) (v : Slot) (es : Pages) → bare (put_first es cap p v) ≡ used (bare es) cap p v.bytes
bare_put p cap v es = by (lookup_entry (nat_eq p) es) refl
  where
    by : (o : Option (ℕ × Slot)) → lookup_entry (nat_eq p) es ≡ o → bare (option_map_or (λ e. (e.0, v) ∷ remove_entry (nat_eq p) es) o ((p, v) ∷ take (cap - 1) es)) ≡ used (bare es) cap p v.bytes
    by None is =
        ap (λ (xs : List (ℕ × List ℕ)). (p, v.bytes) ∷ xs) (bare_taken (cap - 1) es)
        ∙ sym (ap (λ o. option_map_or (λ e. (e.0, v.bytes) ∷ remove_entry (nat_eq p) (bare es)) o ((p, v.bytes) ∷ take (cap - 1) (bare es))) (bare_found p es ∙ ap (option_map bare_entry) is))
    by (Some e) is =
        ap (λ (xs : List (ℕ × List ℕ)). (e.0, v.bytes) ∷ xs) (bare_removed p es)
        ∙ sym (ap (λ o. option_map_or (λ f. (f.0, v.bytes) ∷ remove_entry (nat_eq p) (bare es)) o ((p, v.bytes) ∷ take (cap - 1) (bare es))) (bare_found p es ∙ ap (option_map bare_entry) is))

module _ (cache after : Rattle.nb_cache.specs.Held.Held) (before size : ℕ) (valid : IsValid cache before) (same : size ≡ before) where
  -- a page is kept
  module _ (p : ℕ) (v : Slot) (kept : after ≡ record cache { pages = put_entries nat_eq (lru_cache cache.pages cache.cap) p v }) where
    pub kept_pages : after.pages ≡ put_first cache.pages cache.cap p v
    kept_pages = ap (λ (h : Rattle.nb_cache.specs.Held.Held). h.pages) kept

    pub valid_kept : IsValid after size
    valid_kept = subst (λ (h : Rattle.nb_cache.specs.Held.Held). IsValid h size) (sym kept) (record {
      wide = valid.wide ∙ sym same;
      once = once_put p cache.pages valid.once cache.cap v;
      some = valid.some;
      most = put_long p cache.cap v cache.pages valid.some valid.most;
    })

  -- a page is marked
  pub valid_marked : (p : ℕ) (rank : Option ℕ) → after ≡ record cache { pages = with_rank p rank cache.pages } → IsValid after size
  valid_marked p rank marked = subst (λ (h : Rattle.nb_cache.specs.Held.Held). IsValid h size) (sym marked) (record {
    wide = valid.wide ∙ sym same;
    once = subst (λ (ks : List ℕ). IsDistinct nat_eq ks) (sym (marked_keys p rank cache.pages)) valid.once;
    some = valid.some;
    most = let long = marked_long p rank cache.pages in omega (arith, long, valid.most);
  })

  -- a page is dropped
  pub valid_dropped : (p : ℕ) → after ≡ record cache { pages = remove_entry (nat_eq p) cache.pages } → IsValid after size
  valid_dropped p gone = subst (λ (h : Rattle.nb_cache.specs.Held.Held). IsValid h size) (sym gone) (record {
    wide = valid.wide ∙ sym same;
    once = once_removed p cache.pages valid.once;
    some = valid.some;
    most = let less = removed_long p cache.pages in omega (arith, less, valid.most);
  })

  -- page 0 is
  module _ (gone : after ≡ record cache { pages = behind_first cache.pages }) where
    pub gone_behind : after.pages ≡ behind_first cache.pages
    gone_behind = ap (λ (h : Rattle.nb_cache.specs.Held.Held). h.pages) gone

    pub valid_gone : IsValid after size
    valid_gone = valid_dropped 0 gone

    -- and none waits where none did
    pub none_gone : NoneWaits cache.pages → NoneWaits after.pages
    none_gone none = subst (λ (ps : Pages). NoneWaits ps) (sym gone_behind) (none_waits_dropped cache.pages valid.once none)

  -- a page is looked for
  module _ (p : ℕ) (looked : after ≡ record cache { pages = promoted (nat_eq p) cache.pages }) where
    pub missed_same : slot_of cache.pages p ≡ None → after ≡ cache
    missed_same none = looked ∙ ap (λ (ps : Pages). record cache { pages = ps }) (promoted_absent p cache.pages none)

    pub found_put : (slot : Slot) → slot_of cache.pages p ≡ Some slot → after.pages ≡ put_first cache.pages cache.cap p slot
    found_put slot there = ap (λ (h : Rattle.nb_cache.specs.Held.Held). h.pages) looked ∙ promoted_put p cache.pages slot there cache.cap

    valid_as : (o : Option Slot) → slot_of cache.pages p ≡ o → IsValid after size
    valid_as None none = subst (λ (h : Rattle.nb_cache.specs.Held.Held). IsValid h size) (sym (missed_same none)) (record { wide = valid.wide ∙ sym same; once = valid.once; some = valid.some; most = valid.most })
    valid_as (Some slot) there = subst (λ (h : Rattle.nb_cache.specs.Held.Held). IsValid h size) (sym looked) (record {
      wide = valid.wide ∙ sym same;
      once = subst (λ (ps : Pages). IsDistinct nat_eq (keys_of ps)) (sym (promoted_put p cache.pages slot there cache.cap)) (once_put p cache.pages valid.once cache.cap slot);
      some = valid.some;
      most = let long = promoted_long p cache.pages in omega (arith, long, valid.most);
    })

    pub valid_looked : IsValid after size
    valid_looked = valid_as (slot_of cache.pages p) refl

-- what a look says of a page that it found
pub found_slot : (o : Option Slot) (into old : List ℕ) → is_some o ≡ true → MatchOption o (into ≡ old) (λ slot. into ≡ slot.bytes) → (slot : Slot) × (o ≡ Some slot) × (into ≡ slot.bytes)
found_slot None into old is filled = cc
found_slot (Some slot) into old is filled = (slot, refl, filled)

-- it is that page of the image
pub found_page : (image : Image) (pages : Pages) (p : ℕ) (slot : Slot) → slot_of pages p ≡ Some slot → AreOf image pages → slot.bytes ≡ page_at image p
found_page image pages p slot there all = All-found p pages slot there (λ e. e.1.bytes ≡ page_at image e.0) all

pub put_page : (image : Image) (pages : Pages) (cap p : ℕ) (slot : Slot) → AreOf image (put_first pages cap p slot) → slot.bytes ≡ page_at image p
put_page image pages cap p slot all = found_page image (put_first pages cap p slot) p slot (slot_put p slot pages cap) all

-- page 0 has its control block
pub first_block : (image : Image) (p : ℕ) (bytes : Page) → p ≡ 0 → bytes ≡ page_at image p → take 64 bytes ≡ take 64 (first_page image)
first_block image p bytes first is = ap (take 64) (is ∙ ap (page_at image) first)

-- a page that may be written
pub may_write : (w : World) (held : Held) (t : Trail) (p : ℕ) (bytes : Page) → IsOpen w held t → p ≤ held.files.count → (p ≡ 0 → HasBlock w held bytes) → Fits p bytes t.base.image
may_write w held t p bytes is low block = record { low = omega (arith, low, is.agrees.count); front = λ first. block first t is }

-- a new one
pub valid_blank : (cache : Rattle.nb_cache.specs.Held.Held) (pages made size : ℕ) → cache ≡ record { pages = []; cap = pages; page_size = made } → size ≡ made → 0 < pages → IsValid cache size
unfolding IsDistinct
valid_blank cache pages made size is same some = subst (λ (h : Rattle.nb_cache.specs.Held.Held). IsValid h size) (sym is) (record { wide = sym same; once = tt; some = some; most = omega arith })

-- a page that is kept with the rank that it had lets none wait where none did
pub none_waits_kept : (pages : Pages) → IsDistinct nat_eq (keys_of pages) → (cap p : ℕ) (bytes : List ℕ) → NoneWaits pages → NoneWaits (put_first pages cap p (record { bytes = bytes; rank = rank_of pages p }))
none_waits_kept pages once cap p bytes none = All-put p pages once cap _ (λ e. e.1.rank ≡ None) (λ e. e.1.rank ≡ None) (λ e apart waits. waits) (none_found pages none p) none

-- A page that waits is in memory as it is seen.
pub peeked : (image : Image) (pages : Pages) (p rank : ℕ) (into old : List ℕ) → rank_of pages p ≡ Some rank → AreOf image pages → MatchOption (slot_of pages p) (into ≡ old) (λ slot. into ≡ slot.bytes) → into ≡ page_at image p
peeked image pages p rank into old waiting all filled = by (slot_of pages p) refl waiting filled
  where
    by : (o : Option Slot) → slot_of pages p ≡ o → option_and_then (λ slot. slot.rank) o ≡ Some rank → MatchOption o (into ≡ old) (λ slot. into ≡ slot.bytes) → into ≡ page_at image p
    by None is waits is_old = absurd (let h : None ≡ Some rank = waits in cc)
    by (Some slot) is waits same = same ∙ found_page image pages p slot is all

-- the page that goes out first
module _ (pages : Pages) (once : IsDistinct nat_eq (keys_of pages)) (p rank : ℕ) (goes : GoesFirst pages p rank) where
  pub first_waits : rank_of pages p ≡ Some rank
  first_waits = found_rank pages once p (record { bytes = goes.waits.0; rank = Some rank }) goes.waits.1

  -- every other has no lower rank
  pub first_lowest : (q r : ℕ) → rank_of pages q ≡ Some r → rank ≤ r
  first_lowest q r is = by (slot_of pages q) refl is
    where
      by : (o : Option Slot) → slot_of pages q ≡ o → option_and_then (λ slot. slot.rank) o ≡ Some r → rank ≤ r
      by None there e = absurd (let h : None ≡ Some r = e in cc)
      by (Some slot) there e =
          ⊎_elim (λ (lower : rank < r). omega arith) (λ (same : (rank ≡ r) × (p ≤ q)). omega (arith, same.0)) (All-found q pages slot there (IsNoLater p rank) goes.first r e)

-- a page that is looked for lets none wait where none did
pub looked_none : (cache after : Rattle.nb_cache.specs.Held.Held) (p : ℕ) → after ≡ record cache { pages = promoted (nat_eq p) cache.pages } → IsDistinct nat_eq (keys_of cache.pages) → NoneWaits cache.pages → NoneWaits after.pages
looked_none cache after p looked once none = by (slot_of cache.pages p) refl
  where
    moved : after.pages ≡ promoted (nat_eq p) cache.pages
    moved = ap (λ (h : Rattle.nb_cache.specs.Held.Held). h.pages) looked

    by : (o : Option Slot) → slot_of cache.pages p ≡ o → NoneWaits after.pages
    by None is = subst (λ (ps : Pages). NoneWaits ps) (sym (moved ∙ promoted_absent p cache.pages is)) none
    by (Some slot) is =
        subst (λ (ps : Pages). NoneWaits ps) (sym (moved ∙ promoted_put p cache.pages slot is cache.cap))
        (All-put p cache.pages once cache.cap slot (λ e. e.1.rank ≡ None) (λ e. e.1.rank ≡ None) (λ e apart waits. waits) (All-found p cache.pages slot is (λ e. e.1.rank ≡ None) none) none)

-- a page that is in memory drops none
pub kept_drops : (held : Rattle.nb_cache.specs.Held.Held) (p : ℕ) (slot : Slot) → slot_of held.pages p ≡ Some slot → is_some (dropped held p) ≡ true → ⊥
kept_drops held p slot there some =
    true≢false (sym some ∙ ap (λ (b : Bool). is_some (option_and_then (λ (e : ℕ × Slot). option_map (λ _. e.0) e.1.rank) (if b then None else slice_get held.pages (held.cap - 1)))) (ap is_some there))
