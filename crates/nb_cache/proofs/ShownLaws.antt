-- The held pages that frames show, as frames move.
use Rattle.std.proofs.Common.{◌≡◌, ℕ, suc, ◌+◌, ◌-◌, ◌<◌, ◌≤◌, nat_eq, Bool, true, false, inl, inr, List, [], ◌∷◌, ◌++◌, length, take, map, min, Option, Some, None, IsSome, refl, sym, ap, ◌∙◌, subst, arith, length-append}
use Rattle.nb_cache.proofs.Common.{AllByRecursion, slice_get, option_map_or, option_and_then, option_map, lookup, lookup_entry, remove_entry, set_value, take-append-add, eq-eqb, ne_eqb, cases_lt, map-append, take-append-le, append-nil, take_all, take-take, take-map, length-take-le, LruCache, last_entry, lru_cache, promoted, demoted, put_entries, Frame, Slot, Held, slot_of, rank_of, with_rank, Frames, slot_in, shown, NoneHolds, Split, FoundAt, IsLast, IsCache, all_append, all_parts}
use Rattle.std.proofs.lemmas.Option.{slice_get-map}
use Rattle.nb_cache.proofs.KeyedLaws.{Misses, lookup-at, lookup_entry-at, lookup-absent, lookup_entry-absent, remove_entry-absent, remove_entry-at, set_value-at, promoted-at, demoted-at}

pub some_is : {X : Type 0} (o : Option X) (x : X) → o ≡ Some x → IsSome o
some_is o x e = subst IsSome (sym e) refl

-- the pages alone change
pub same_pages : (l m : List (ℕ × Slot)) (cap size : ℕ) → l ≡ m → let old : Held = record { pages = l; cap = cap; page_size = size } in let new : Held = record { pages = m; cap = cap; page_size = size } in old ≡ new
same_pages l m cap size e = ap (λ (ps : List (ℕ × Slot)). let h : Held = record { pages = ps; cap = cap; page_size = size } in h) e

-- a front of a front
take_of_take : {X : Type 0} (m n : ℕ) (xs : List X) → n ≤ length xs → take m (take n xs) ≡ take (min n m) xs
take_of_take m n xs h = elim (cases_lt m n) [
  | inl below ↦ take-take m n xs (omega arith) ∙ ap (λ k. take k xs) (omega arith)
  | inr above ↦ take_all m (take n xs) (omega (arith, length-take-le n xs h)) ∙ ap (λ k. take k xs) (omega arith)
]

-- frames that don't hold the page show none of it
misses_shown : (page : ℕ) (es : Frames) → NoneHolds page es → Misses (nat_eq page) (map slot_in es)
misses_shown page [] none = tt
misses_shown page (e ∷ es) none = (none.0, misses_shown page es none.1)

-- the frame of a key
module _ (es : Frames) (key : ℕ) (split : Split es key) where
  abbrev here : ℕ × Frame
  here = (key, split.frame)

  abbrev others : Frames
  others = split.before ++ split.behind

  pub lookup-split : lookup (nat_eq key) es ≡ Some split.frame
  lookup-split = ap (lookup (nat_eq key)) split.parts ∙ lookup-at (nat_eq key) here split.behind (eq-eqb key key refl) split.before split.only

  pub promoted-split : promoted (nat_eq key) es ≡ here ∷ others
  promoted-split = ap (promoted (nat_eq key)) split.parts ∙ promoted-at (nat_eq key) here split.behind (eq-eqb key key refl) split.before split.only

  pub demoted-split : demoted (nat_eq key) es ≡ others ++ here ∷ []
  demoted-split = ap (demoted (nat_eq key)) split.parts ∙ demoted-at (nat_eq key) here split.behind (eq-eqb key key refl) split.before split.only

  pub set_value-split : (w : Frame) → set_value (nat_eq key) es w ≡ split.before ++ (key, w) ∷ split.behind
  set_value-split w = ap (λ l. set_value (nat_eq key) l w) split.parts ∙ set_value-at (nat_eq key) here split.behind (eq-eqb key key refl) w split.before split.only

  -- a frame that has just been put into
  pub set_value-promoted : (w : Frame) → set_value (nat_eq key) (promoted (nat_eq key) es) w ≡ (key, w) ∷ others
  set_value-promoted w = ap (λ l. set_value (nat_eq key) l w) promoted-split ∙ set_value-at (nat_eq key) here others (eq-eqb key key refl) w [] tt

  pub lookup-promoted : lookup (nat_eq key) (promoted (nat_eq key) es) ≡ Some split.frame
  lookup-promoted = ap (lookup (nat_eq key)) promoted-split ∙ lookup-at (nat_eq key) here others (eq-eqb key key refl) [] tt

  pub length-split : length es ≡ suc (length others)
  length-split =
      let whole : length es ≡ length split.before + suc (length split.behind) = ap length split.parts ∙ length-append split.before (here ∷ split.behind) in
      omega (arith, length-append split.before split.behind)

  module _ (cap held size : ℕ) (cache : IsCache es cap held size) where
    abbrev IsSized : ℕ × Frame → Type 0
    IsSized e = length e.1.bytes.items ≡ size

    sized : AllByRecursion IsSized split.before × (IsSized here × AllByRecursion IsSized split.behind)
    sized = all_parts IsSized split.before (here ∷ split.behind) (subst (AllByRecursion IsSized) split.parts cache.sizes)

    pub size_here : length split.frame.bytes.items ≡ size
    size_here = sized.1.0

    -- the frame goes first, with what was put into it
    pub IsCache-front : (w : Frame) (more : ℕ) → length w.bytes.items ≡ size → more ≤ cap → IsCache ((key, w) ∷ others) cap more size
    IsCache-front w more fits within = record {
      all_there = sym length-split ∙ cache.all_there;
      some = cache.some;
      few = cache.few;
      within = within;
      sizes = (fits, all_append IsSized split.before split.behind sized.0 sized.1.1);
    }

    -- the frame goes last
    pub IsCache-back : (fewer : ℕ) → fewer ≤ cap → IsCache (others ++ here ∷ []) cap fewer size
    IsCache-back fewer within = record {
      all_there = omega (arith, length-append others (here ∷ []), length-split, cache.all_there);
      some = cache.some;
      few = cache.few;
      within = within;
      sizes = all_append IsSized others (here ∷ []) (all_append IsSized split.before split.behind sized.0 sized.1.1) (sized.1.0, tt);
    }

    -- the frame stays in its place
    pub IsCache-same : (w : Frame) → length w.bytes.items ≡ size → IsCache (split.before ++ (key, w) ∷ split.behind) cap held size
    IsCache-same w fits = record {
      all_there = omega (arith, length-append split.before ((key, w) ∷ split.behind), length-append split.before split.behind, length-split, cache.all_there);
      some = cache.some;
      few = cache.few;
      within = cache.within;
      sizes = all_append IsSized split.before ((key, w) ∷ split.behind) sized.0 (fits, sized.1.1);
    }

    pub IsCache-promoted : IsCache (promoted (nat_eq key) es) cap held size
    IsCache-promoted = subst (λ (l : Frames). IsCache l cap held size) (sym promoted-split) (IsCache-front split.frame held size_here cache.within)

    pub IsCache-put : (w : Frame) (more : ℕ) → length w.bytes.items ≡ size → more ≤ cap → IsCache (set_value (nat_eq key) (promoted (nat_eq key) es) w) cap more size
    IsCache-put w more fits within = subst (λ (l : Frames). IsCache l cap more size) (sym (set_value-promoted w)) (IsCache-front w more fits within)

    pub IsCache-demoted : (fewer : ℕ) → fewer ≤ cap → IsCache (demoted (nat_eq key) es) cap fewer size
    IsCache-demoted fewer within = subst (λ (l : Frames). IsCache l cap fewer size) (sym demoted-split) (IsCache-back fewer within)

    pub IsCache-set : (w : Frame) → length w.bytes.items ≡ size → IsCache (set_value (nat_eq key) es w) cap held size
    IsCache-set w fits = subst (λ (l : Frames). IsCache l cap held size) (sym (set_value-split w)) (IsCache-same w fits)

with_rank-at : (page : ℕ) (rank : Option ℕ) (s : ℕ × Slot) (behind : List (ℕ × Slot)) → nat_eq page s.0 ≡ true → (before : List (ℕ × Slot)) → Misses (nat_eq page) before → with_rank page rank (before ++ s ∷ behind) ≡ before ++ (s.0, record s.1 { rank = rank }) ∷ behind
with_rank-at page rank s behind passes [] none = rw passes
with_rank-at page rank s behind passes (e ∷ es) none = rw none.0 (ap (λ l. e ∷ l) (with_rank-at page rank s behind passes es none.1))

with_rank-absent : (page : ℕ) (rank : Option ℕ) (es : List (ℕ × Slot)) → Misses (nat_eq page) es → with_rank page rank es ≡ es
with_rank-absent page rank [] none = refl
with_rank-absent page rank (e ∷ es) none = rw none.0 (ap (λ l. e ∷ l) (with_rank-absent page rank es none.1))

-- the first frame that holds a page
module _ (es : Frames) (held page key : ℕ) (found : FoundAt es held page key) where
  abbrev split : Split es key
  split = found.split

  abbrev x : ℕ × Frame
  x = (key, split.frame)

  abbrev n : ℕ
  n = held - suc (length split.before)

  -- what the frames before and after it show
  abbrev A : List (ℕ × Slot)
  A = map slot_in split.before

  abbrev B : List (ℕ × Slot)
  B = map slot_in (take n split.behind)

  pub shown-same : (w : Frame) → shown held (split.before ++ (key, w) ∷ split.behind) ≡ A ++ slot_in (key, w) ∷ B
  shown-same w =
      let y : ℕ × Frame = (key, w) in
      let e : held ≡ length split.before + suc n = omega (arith, found.inside) in
      ap (λ m. shown m (split.before ++ y ∷ split.behind)) e
      ∙ ap (map slot_in) (take-append-add split.before (y ∷ split.behind) (suc n))
      ∙ map-append slot_in split.before (y ∷ take n split.behind)

  pub shown-found : shown held es ≡ A ++ slot_in x ∷ B
  shown-found = ap (shown held) split.parts ∙ shown-same split.frame

  pub misses : Misses (nat_eq page) A
  misses = misses_shown page split.before found.first

  pub passes : nat_eq page split.frame.page ≡ true
  passes = eq-eqb page split.frame.page found.holds

  pub slot_of-found : slot_of (shown held es) page ≡ Some (slot_in x).1
  slot_of-found = ap (λ l. slot_of l page) shown-found ∙ lookup-at (nat_eq page) (slot_in x) B passes A misses

  pub promoted-found : promoted (nat_eq page) (shown held es) ≡ slot_in x ∷ (A ++ B)
  promoted-found = ap (promoted (nat_eq page)) shown-found ∙ promoted-at (nat_eq page) (slot_in x) B passes A misses

  pub removed-found : remove_entry (nat_eq page) (shown held es) ≡ A ++ B
  removed-found = ap (remove_entry (nat_eq page)) shown-found ∙ remove_entry-at (nat_eq page) (slot_in x) B passes A misses

  pub shown-front : (w : Frame) → shown held ((key, w) ∷ (split.before ++ split.behind)) ≡ slot_in (key, w) ∷ (A ++ B)
  shown-front w =
      let y : ℕ × Frame = (key, w) in
      let e : held ≡ suc (length split.before + n) = omega (arith, found.inside) in
      ap (λ m. shown m (y ∷ (split.before ++ split.behind))) e
      ∙ ap (λ l. slot_in y ∷ map slot_in l) (take-append-add split.before split.behind n)
      ∙ ap (λ l. slot_in y ∷ l) (map-append slot_in split.before (take n split.behind))

  pub shown-back : held ≤ length es → shown (held - 1) ((split.before ++ split.behind) ++ x ∷ []) ≡ A ++ B
  shown-back within =
      let e : held - 1 ≡ length split.before + n = omega (arith, found.inside) in
      let rest : Frames = split.before ++ split.behind in
      let size : length es ≡ length split.before + suc (length split.behind) = ap length split.parts ∙ length-append split.before (x ∷ split.behind) in
      ap (map slot_in) (take-append-le (held - 1) rest (x ∷ []) (omega (arith, length-append split.before split.behind)))
      ∙ ap (λ m. shown m rest) e
      ∙ ap (map slot_in) (take-append-add split.before split.behind n)
      ∙ map-append slot_in split.before (take n split.behind)

  pub with_rank-found : (rank : Option ℕ) → with_rank page rank (shown held es) ≡ A ++ (split.frame.page, record { bytes = split.frame.bytes.items; rank = rank }) ∷ B
  with_rank-found rank = ap (with_rank page rank) shown-found ∙ with_rank-at page rank (slot_in x) B passes A misses

  pub put_entries-found : (cap : ℕ) (v : Slot) → put_entries nat_eq (lru_cache (shown held es) cap) page v ≡ (split.frame.page, v) ∷ (A ++ B)
  put_entries-found cap v =
      let entry : lookup_entry (nat_eq page) (shown held es) ≡ Some (slot_in x) = ap (lookup_entry (nat_eq page)) shown-found ∙ lookup_entry-at (nat_eq page) (slot_in x) B passes A misses in
      ap (λ o. option_map_or (λ e. (e.0, v) ∷ remove_entry (nat_eq page) (shown held es)) o ((page, v) ∷ take (cap - 1) (shown held es))) entry
      ∙ ap (λ l. (split.frame.page, v) ∷ l) removed-found

  pub shown-promoted : shown held (promoted (nat_eq key) es) ≡ promoted (nat_eq page) (shown held es)
  shown-promoted = ap (shown held) (promoted-split es key split) ∙ shown-front split.frame ∙ sym promoted-found

  pub shown-demoted : held ≤ length es → shown (held - 1) (demoted (nat_eq key) es) ≡ remove_entry (nat_eq page) (shown held es)
  shown-demoted within = ap (shown (held - 1)) (demoted-split es key split) ∙ shown-back within ∙ sym removed-found

  pub shown-marked : (rank : Option ℕ) (w : Frame) → slot_in (key, w) ≡ (split.frame.page, record { bytes = split.frame.bytes.items; rank = rank }) → shown held (set_value (nat_eq key) es w) ≡ with_rank page rank (shown held es)
  shown-marked rank w is =
      ap (shown held) (set_value-split es key split w) ∙ shown-same w ∙ ap (λ s. A ++ s ∷ B) is ∙ sym (with_rank-found rank)

  pub shown-renewed : (cap : ℕ) (v : Slot) (w : Frame) → slot_in (key, w) ≡ (page, v) → shown held (set_value (nat_eq key) (promoted (nat_eq key) es) w) ≡ put_entries nat_eq (lru_cache (shown held es) cap) page v
  shown-renewed cap v w is =
      ap (shown held) (set_value-promoted es key split w) ∙ shown-front w ∙ ap (λ s. s ∷ (A ++ B)) (is ∙ ap (λ p. (p, v)) found.holds) ∙ sym (put_entries-found cap v)

  pub rank_of-found : rank_of (shown held es) page ≡ split.frame.rank
  rank_of-found = ap (option_and_then (λ slot. slot.rank)) slot_of-found

-- a page that no frame holds
module _ (es : Frames) (held page : ℕ) (none : NoneHolds page (take held es)) where
  pub slot_of-absent : slot_of (shown held es) page ≡ None
  slot_of-absent = lookup-absent (nat_eq page) (shown held es) (misses_shown page (take held es) none)

  absent : Misses (nat_eq page) (shown held es)
  absent = misses_shown page (take held es) none

  pub promoted-absent : promoted (nat_eq page) (shown held es) ≡ shown held es
  promoted-absent = ap (λ o. option_map_or (λ e. e ∷ remove_entry (nat_eq page) (shown held es)) o (shown held es)) (lookup_entry-absent (nat_eq page) (shown held es) absent)

  pub removed-absent : remove_entry (nat_eq page) (shown held es) ≡ shown held es
  removed-absent = remove_entry-absent (nat_eq page) (shown held es) absent

  pub ranked-absent : (rank : Option ℕ) → with_rank page rank (shown held es) ≡ shown held es
  ranked-absent rank = with_rank-absent page rank (shown held es) absent

  pub put_entries-absent : (cap : ℕ) (v : Slot) → put_entries nat_eq (lru_cache (shown held es) cap) page v ≡ (page, v) ∷ take (cap - 1) (shown held es)
  put_entries-absent cap v =
      ap (λ o. option_map_or (λ e. (e.0, v) ∷ remove_entry (nat_eq page) (shown held es)) o ((page, v) ∷ take (cap - 1) (shown held es))) (lookup_entry-absent (nat_eq page) (shown held es) absent)

  -- the last frame goes first, and its page is dropped where it held one
  pub shown-new : (cap key : ℕ) (last : IsLast es key) (w : Frame) → length es ≡ cap → held ≤ cap → shown (min (held + 1) cap) ((key, w) ∷ (last.split.before ++ last.split.behind)) ≡ slot_in (key, w) ∷ take (cap - 1) (shown held es)
  shown-new cap key last w all within =
      let y : ℕ × Frame = (key, w) in
      let front : Frames = last.split.before in
      let parts : es ≡ front ++ (key, last.split.frame) ∷ [] = last.split.parts ∙ ap (λ l. front ++ (key, last.split.frame) ∷ l) last.last in
      let size : length es ≡ length front + 1 = ap length parts ∙ length-append front ((key, last.split.frame) ∷ []) in
      let k : ℕ = min held (cap - 1) in
      let one : min (held + 1) cap ≡ suc k = omega arith in
      let same : take k front ≡ take k es = sym (take-append-le k front ((key, last.split.frame) ∷ []) (omega arith)) ∙ ap (take k) (sym parts) in
      ap (λ l. shown (min (held + 1) cap) (y ∷ l)) (ap (λ l. front ++ l) last.last ∙ append-nil front)
      ∙ ap (λ m. shown m (y ∷ front)) one
      ∙ ap (λ l. slot_in y ∷ map slot_in l) same
      ∙ ap (λ l. slot_in y ∷ l) (ap (map slot_in) (sym (take_of_take (cap - 1) held es (omega arith))) ∙ sym (take-map slot_in (cap - 1) (take held es)))

  pub shown-put : (cap key : ℕ) (last : IsLast es key) (v : Slot) (w : Frame) → slot_in (key, w) ≡ (page, v) → length es ≡ cap → held ≤ cap → shown (min (held + 1) cap) (set_value (nat_eq key) (promoted (nat_eq key) es) w) ≡ put_entries nat_eq (lru_cache (shown held es) cap) page v
  shown-put cap key last v w is all within =
      ap (shown (min (held + 1) cap)) (set_value-promoted es key last.split w) ∙ shown-new cap key last w all within ∙ ap (λ s. s ∷ take (cap - 1) (shown held es)) is ∙ sym (put_entries-absent cap v)

  pub rank_of-absent : rank_of (shown held es) page ≡ None
  rank_of-absent = ap (option_and_then (λ slot. slot.rank)) slot_of-absent

-- a frame whose key is above those that are there is put before them
pub put-new : (c : LruCache ℕ Frame) (key : ℕ) (frame : Frame) → AllByRecursion (λ e. e.0 < key) c.entries → length c.entries < c.cap → put_entries nat_eq c key frame ≡ (key, frame) ∷ c.entries
put-new c key frame below room =
    ap (λ o. option_map_or (λ e. (e.0, frame) ∷ remove_entry (nat_eq key) c.entries) o ((key, frame) ∷ take (c.cap - 1) c.entries)) (lookup_entry-absent (nat_eq key) c.entries (apart c.entries below))
    ∙ ap (λ l. (key, frame) ∷ l) (take_all (c.cap - 1) c.entries (omega arith)) where
      apart : (es : Frames) → AllByRecursion (λ e. e.0 < key) es → Misses (nat_eq key) es
      apart [] none = tt
      apart (e ∷ es) none = (ne_eqb key e.0 (λ same. omega (arith, none.0)), apart es none.1)

pub keys-below : (key : ℕ) (es : Frames) → AllByRecursion (λ e. e.0 < key) es → AllByRecursion (λ e. e.0 < key + 1) es
keys-below key [] below = tt
keys-below key (e ∷ es) below = (omega (arith, below.0), keys-below key es below.1)

-- what a full cache would drop
pub waiting-shown : (o : Option (ℕ × Frame)) → option_and_then (λ e. option_map (λ _. e.1.page) e.1.rank) o ≡ option_and_then (λ e. option_map (λ _. e.0) e.1.rank) (option_map slot_in o)
waiting-shown None = refl
waiting-shown (Some e) = refl

pub last-shown : (es : Frames) (n held : ℕ) → length es ≡ n → n ≤ held → slice_get (shown held es) (n - 1) ≡ option_map slot_in (last_entry es)
last-shown es n held all full =
    ap (λ l. slice_get (map slot_in l) (n - 1)) (take_all held es (omega arith)) ∙ ap (λ m. slice_get (map slot_in es) (m - 1)) (sym all) ∙ slice_get-map slot_in es (length es - 1)

-- a page that waits no longer
pub rank_of-cleaned : (page : ℕ) (pages : List (ℕ × Slot)) → rank_of (with_rank page None pages) page ≡ None
rank_of-cleaned page [] = refl
rank_of-cleaned page (e ∷ es) = from (nat_eq page e.0) refl (rank_of-cleaned page es) where
  from : (b : Bool) → nat_eq page e.0 ≡ b → rank_of (with_rank page None es) page ≡ None → rank_of (with_rank page None (e ∷ es)) page ≡ None
  from true is rest = rw (is, is) refl
  from false is rest = rw (is, is) rest
