-- What is open while pages wait, and that one more waits.
use Rattle.std.proofs.Common.{◌≡◌, ◌≢◌, inl, inr, ⊎_elim, ℕ, suc, ◌+◌, ◌<◌, ◌≤◌, List, [], ◌∷◌, ◌++◌, length, refl, sym, ap, subst, ◌∙◌, arith, append_assoc, length-append, Bool, true, false, ◌==◌, ◌&&◌, not, nat_eq, nat_lt, Option, Some, None, is_some}
use Rattle.nb_owner.proofs.Common.{AllByRecursion, true≢false, eqb_tells, leb_tells, append-nil, lru_cache, put_entries, is_scn_place, most_pages, is_header, state_of, size_of, normal_state, stalled_state, World, option_and_then, Page, Image, page_at, first_page, image_size, image_state, is_forced, Base, entry_for, page, on_base, Trail, after_stroke, ShowsIn, behind_left, behind_firm, trail_base, same_pages, put_same, put_other, put_first, put_long, put_longer, wait_behind, wait_unsettled, behind_itself, Agrees, StandsFirm, Drafts, stroke-stalled, noted-there, noted-new, entry-later, entry-added, entry-front, entry_at, later, Slot, slot_of, rank_of, with_rank, dropped, NoneWaits, Held, Pages, AreOf, waits, IsWaiting, AreDrafted, Waits, IsOpen, IsValid, may_wait, cache_of, rank_in, both_true, eq_self, not_true, some_same, not_there, stroke-frozen, stroke-diverted}
use Rattle.nb_fields.specs.Bytes.{is_zeros, number_in}
use Rattle.nb_host.specs.Calls.{IsStill}
use Rattle.nb_model.specs.Waiting.{rank_of as rank_for}
use Rattle.nb_base.specs.Open.{IsOpen as AreOpen}
use Rattle.nb_base.specs.Seen.{IsSeen}
use Rattle.nb_base.proofs.MergingLaws.{seen_still}
use Rattle.nb_owner.proofs.UsedLaws.{All-put}
use Rattle.nb_owner.proofs.RankLaws.{rank_kept, rank_kept_other, rank_marked, rank_marked_other, none_found, slot_kept, marked_of}
use Rattle.nb_model.proofs.EntryLaws.{for_here}

-- what is held of a database agrees with one that has the same page 0, length, frozen image and entries
pub agrees_same : (held : Rattle.nb_base.specs.Open.Held) (a b : Base) → length a.image ≡ length b.image → first_page a.image ≡ first_page b.image → a.frozen ≡ b.frozen → a.diverted ≡ b.diverted → Agrees held a → Agrees held b
agrees_same held a b long first frozen table is = record {
  header = ap is_header (sym first) ∙ is.header;
  page_size = is.page_size ∙ ap size_of first;
  state = is.state ∙ ap state_of first;
  opened = is.opened;
  forced = is.forced ∙ ap (λ (x : Page). not (number_in 64 1 x == 0)) first;
  count = is.count ∙ long;
  main_count = λ stalled. is.main_count stalled ∙ ap length frozen;
  entries = is.entries ∙ table;
}

-- Files that are behind, and the pages that they lack, are an open database.
pub open_of : (w : World) (held : Held) (f t : Trail) → IsSeen w held.files.name f → Agrees held.files t.base → Waits held.pages held.files.drafted f t → AreOf t.base.image held.pages → IsOpen w held t
open_of w held f t files agrees waiting pages = record {
  left = λ now all.
      let s : StandsFirm held.files.name f now = files.left now all in
      record { base = s.base; opens = s.opens; left = behind_left f t waiting.behind s.base s.left };
  agrees = agrees;
  pages = pages;
  sees = f;
  files = files;
  waits = waiting;
}

pub none_waits : (es : Pages) → NoneWaits es → (p : ℕ) → waits es p ≡ false
none_waits es none p = ap is_some (none_found es none p)

-- where no page waits, the files are not behind
pub none_behind : (es : Pages) (drafted : ℕ) (t : Trail) → NoneWaits es → drafted ≡ 0 → Waits es drafted t t
none_behind es drafted t none no_drafts = record {
  behind = behind_itself t;
  drafts = record { drafts = []; all = sym (append-nil t.base.diverted); many = sym no_drafts; wait = tt };
  stalled = λ other. no_drafts;
  clean = λ p waiting. refl;
  each = λ p rank is. absurd (let h : None ≡ Some rank = sym (none_found es none p) ∙ is in cc);
}

pub open_settled : (w : World) (held : Held) (t : Trail) → NoneWaits held.pages → AreOpen w held.files t → AreOf t.base.image held.pages → IsOpen w held t
open_settled w held t none files pages = open_of w held t t (record { left = files.left; shows = files.shows }) files.agrees (none_behind held.pages held.files.drafted t none files.drafted) pages

-- no entry is drafted then, and the table is the one that is seen
pub none_drafted : (es : Pages) (drafted : ℕ) (f t : Trail) → ((p : ℕ) → waits es p ≡ false) → Waits es drafted f t → (drafted ≡ 0) × (f.base.diverted ≡ t.base.diverted)
none_drafted es drafted f t none is = by is.drafts.drafts is.drafts.all is.drafts.many is.drafts.wait
  where
    by : (xs : List ℕ) → t.base.diverted ≡ f.base.diverted ++ xs → length xs ≡ drafted → AllByRecursion (λ p. waits es p ≡ true) xs → (drafted ≡ 0) × (f.base.diverted ≡ t.base.diverted)
    by [] all many wait = (sym many, sym (all ∙ append-nil f.base.diverted))
    by (x ∷ xs) all many wait = absurd (true≢false (sym wait.0 ∙ none x))

-- where none is drafted the table is the one that is seen
pub plain_table : (es : Pages) (drafted : ℕ) (f t : Trail) → drafted ≡ 0 → Waits es drafted f t → f.base.diverted ≡ t.base.diverted
plain_table es drafted f t no_drafts is = by is.drafts.drafts is.drafts.all is.drafts.many
  where
    by : (xs : List ℕ) → t.base.diverted ≡ f.base.diverted ++ xs → length xs ≡ drafted → f.base.diverted ≡ t.base.diverted
    by [] all many = sym (all ∙ append-nil f.base.diverted)
    by (x ∷ xs) all many = absurd (omega (arith, many, no_drafts))

-- The files hold what was seen then.
pub files_shown : (w : World) (held : Held) (t : Trail) → ((p : ℕ) → waits held.pages p ≡ false) → IsOpen w held t → AreOpen w held.files t
files_shown w held t none is = record {
  left = λ files all.
      let s : StandsFirm held.files.name is.sees files = is.files.left files all in
      record { base = s.base; opens = s.opens; left = behind_firm is.sees t is.waits.behind (λ p at. is.waits.clean p (none p)) s.base s.left };
  shows = subst (λ (b : Base). ShowsIn held.files.name b w.files) same is.files.shows;
  agrees = is.agrees;
  drafted = both.0;
}
  where
    both : (held.files.drafted ≡ 0) × (is.sees.base.diverted ≡ t.base.diverted)
    both = none_drafted held.pages held.files.drafted is.sees t none is.waits

    image : is.sees.base.image ≡ t.base.image
    image = same_pages is.sees.base.image t.base.image is.waits.behind.long (λ p. is.waits.clean p (none p))

    same : is.sees.base ≡ t.base
    same = λ i. record { image = image i; frozen = is.waits.behind.frozen i; diverted = both.1 i }

pub files_open : (w : World) (held : Held) (t : Trail) → NoneWaits held.pages → IsOpen w held t → AreOpen w held.files t
files_open w held t none is = files_shown w held t (none_waits held.pages none) is

-- At a settled point no page waits.
pub settled_none : (w : World) (held : Held) (t : Trail) → IsOpen w held t → t.earlier ≡ [] → (p : ℕ) → waits held.pages p ≡ false
settled_none w held t is none p = by (rank_of held.pages p) refl
  where
    by : (o : Option ℕ) → rank_of held.pages p ≡ o → waits held.pages p ≡ false
    by None at = ap is_some at
    by (Some rank) at = absurd ((is.waits.each p rank at).unsettled none)

-- Nor does one where writes are forced.
pub forced_none : (w : World) (held : Held) (t : Trail) → IsOpen w held t → is_forced t.base.image ≡ true → (p : ℕ) → waits held.pages p ≡ false
forced_none w held t is forced p = by (rank_of held.pages p) refl
  where
    by : (o : Option ℕ) → rank_of held.pages p ≡ o → waits held.pages p ≡ false
    by None at = ap is_some at
    by (Some rank) at = absurd (true≢false (sym forced ∙ (is.waits.each p rank at).loose))

-- Calls that change nothing leave it open.
pub still_open : (old new : World) (held : Held) (t : Trail) → IsStill old new → IsOpen old held t → IsOpen new held t
still_open old new held t still is = open_of new held is.sees t (seen_still old new held.files.name is.sees still is.files) is.agrees is.waits is.pages

pub files_still : (old new : World) (held : Held) (t : Trail) (files : Rattle.nb_base.specs.Open.Held) → files ≡ held.files → IsStill old new → IsOpen old held t → IsOpen new (record held { files = files }) t
files_still old new held t files same still is = subst (λ (f : Rattle.nb_base.specs.Open.Held). IsOpen new (record held { files = f }) t) (sym same) (still_open old new held t still is)

-- Other pages in memory, of which the same wait.
wait_same : (es after : Pages) (ps : List ℕ) → ((q : ℕ) → waits es q ≡ true → waits after q ≡ true) → AllByRecursion (λ p. waits es p ≡ true) ps → AllByRecursion (λ p. waits after p ≡ true) ps
wait_same es after [] same all = tt
wait_same es after (p ∷ ps) same all = (same p all.0, wait_same es after ps same all.1)

pub waits_same : (es after : Pages) (drafted : ℕ) (f t : Trail) → ((q : ℕ) → rank_of after q ≡ rank_of es q) → Waits es drafted f t → Waits after drafted f t
waits_same es after drafted f t same is = record {
  behind = is.behind;
  drafts = record { drafts = is.drafts.drafts; all = is.drafts.all; many = is.drafts.many; wait = wait_same es after is.drafts.drafts (λ q waiting. ap is_some (same q) ∙ waiting) is.drafts.wait };
  stalled = is.stalled;
  clean = λ p clean. is.clean p (ap is_some (sym (same p)) ∙ clean);
  each = λ p rank at. is.each p rank (sym (same p) ∙ at);
}

pub open_with : (w : World) (held : Held) (t : Trail) (after : Pages) → IsOpen w held t → ((q : ℕ) → rank_of after q ≡ rank_of held.pages q) → AreOf t.base.image after → IsOpen w (record held { pages = after }) t
open_with w held t after is same pages = open_of w (record held { pages = after }) is.sees t is.files is.agrees (waits_same held.pages after held.files.drafted is.sees t same is.waits) pages

-- a page that isn't in memory doesn't wait, so the files have it as it is seen
pub absent_waits : (es : Pages) (p : ℕ) → slot_of es p ≡ None → rank_of es p ≡ None
absent_waits es p none = ap (λ (o : Option Slot). option_and_then (λ slot. slot.rank) o) none

pub absent_page : (w : World) (held : Held) (t : Trail) (is : IsOpen w held t) (p : ℕ) → slot_of held.pages p ≡ None → page_at is.sees.base.image p ≡ page_at t.base.image p
absent_page w held t is p none = is.waits.clean p (ap is_some (absent_waits held.pages p none))

-- An entry stands in the front of a table where the rest doesn't name the page.
entry_front : (p : ℕ) (xs ys : List ℕ) → entry_for p ys ≡ None → entry_for p (xs ++ ys) ≡ entry_for p xs
unfolding entry_for
entry_front p [] ys none = none
entry_front p (x ∷ xs) ys none = elim (eqb_tells p x) [
  | inl e ↦ for_here p x (xs ++ ys) e.1 ∙ sym (for_here p x xs e.1)
  | inr e ↦ entry-later p x (xs ++ ys) e.1 ∙ ap later (entry_front p xs ys none) ∙ sym (entry-later p x xs e.1)
]

-- no entry that is drafted names a page that doesn't wait
not_drafted : (es : Pages) (p : ℕ) (ps : List ℕ) → waits es p ≡ false → AllByRecursion (λ q. waits es q ≡ true) ps → entry_for p ps ≡ None
unfolding entry_for
not_drafted es p [] clean all = refl
not_drafted es p (q ∷ qs) clean all = elim (eqb_tells p q) [
  | inl e ↦ absurd (true≢false (sym all.0 ∙ ap (λ n. waits es n) (sym e.1) ∙ clean))
  | inr e ↦ entry-later p q qs e.1 ∙ ap later (not_drafted es p qs clean all.1)
]

-- so its entry is one of the table
pub clean_entry : (w : World) (held : Held) (t : Trail) (is : IsOpen w held t) (p : ℕ) → waits held.pages p ≡ false → entry_for p held.files.entries ≡ entry_for p is.sees.base.diverted
clean_entry w held t is p clean =
    ap (entry_for p) (is.agrees.entries ∙ is.waits.drafts.all) ∙ entry_front p is.sees.base.diverted is.waits.drafts.drafts (not_drafted held.pages p is.waits.drafts.drafts clean is.waits.drafts.wait)

-- a page whose entry is drafted waits
pub drafted_waits : (es : Pages) (drafted : ℕ) (f t : Trail) → Waits es drafted f t → (p k : ℕ) → entry_for p t.base.diverted ≡ Some k → length f.base.diverted ≤ k → waits es p ≡ true
drafted_waits es drafted f t is p k at late = by (waits es p) refl
  where
    by : (u : Bool) → waits es p ≡ u → waits es p ≡ true
    by true e = e
    by false e =
        let in_f : entry_for p f.base.diverted ≡ Some k = sym (ap (entry_for p) is.drafts.all ∙ entry_front p f.base.diverted is.drafts.drafts (not_drafted es p is.drafts.drafts e is.drafts.wait)) ∙ at in
        absurd (let low = (entry_at p f.base.diverted k in_f).below in omega (arith, low, late))

-- what the files have seen has the page size and the state that are held
pub sees_size : (w : World) (held : Held) (t : Trail) (is : IsOpen w held t) → held.files.page_size ≡ image_size is.sees.base.image
sees_size w held t is = is.agrees.page_size ∙ sym (ap size_of is.waits.behind.first)

-- A page that was not in memory is kept: the same pages wait.
pub kept_ranks : (held : Held) (valid : IsValid (cache_of held) held.files.page_size) (p : ℕ) (bytes : Page) → slot_of held.pages p ≡ None → dropped (cache_of held) p ≡ None
    → (q : ℕ) → rank_of (put_entries nat_eq (lru_cache held.pages held.cap) p (record { bytes = bytes; rank = None })) q ≡ rank_of held.pages q
kept_ranks held valid p bytes absent drops_none q = elim (eqb_tells q p) [
  | inl e ↦ ap (rank_of (put_entries nat_eq (lru_cache held.pages held.cap) p (record { bytes = bytes; rank = None }))) e.1
      ∙ rank_kept (cache_of held) p (record { bytes = bytes; rank = None }) valid.some valid.most drops_none ∙ sym (ap (rank_of held.pages) e.1 ∙ absent_waits held.pages p absent)
  | inr e ↦ rank_kept_other (cache_of held) p (record { bytes = bytes; rank = None }) valid.some valid.most drops_none q e.1
]

-- A page that was read is kept.
module _ (w : World) (held : Held) (t : Trail) (is : IsOpen w held t) (valid : IsValid (cache_of held) held.files.page_size) (p : ℕ) (bytes : Page) (absent : slot_of held.pages p ≡ None)
    (drops_none : dropped (cache_of held) p ≡ None) (same : bytes ≡ page_at t.base.image p) where
  pub read_open : IsOpen w (record held { pages = put_entries nat_eq (lru_cache held.pages held.cap) p (record { bytes = bytes; rank = None }) }) t
  read_open = open_with w held t (put_entries nat_eq (lru_cache held.pages held.cap) p (record { bytes = bytes; rank = None })) is
      (kept_ranks held valid p bytes absent drops_none)
      (All-put p held.pages valid.once held.cap (record { bytes = bytes; rank = None }) (λ e. e.1.bytes ≡ page_at t.base.image e.0) (λ e. e.1.bytes ≡ page_at t.base.image e.0) (λ e apart of. of) same is.pages)

pub may_wait_parts : (held : Held) (p : ℕ) → may_wait held p ≡ true → (held.files.forced ≡ false) × (held.files.state ≤ 1) × (1 ≤ p) × (p < held.files.count) × (dropped (cache_of held) p ≡ None)
may_wait_parts held p is =
    let a = both_true (not held.files.forced) (nat_lt held.files.state 2 && (not (p == 0) && (nat_lt p held.files.count && not (is_some (dropped (cache_of held) p))))) is in
    let b = both_true (nat_lt held.files.state 2) (not (p == 0) && (nat_lt p held.files.count && not (is_some (dropped (cache_of held) p)))) a.1 in
    let c = both_true (not (p == 0)) (nat_lt p held.files.count && not (is_some (dropped (cache_of held) p))) b.1 in
    let d = both_true (nat_lt p held.files.count) (not (is_some (dropped (cache_of held) p))) c.1 in (
      not_true held.files.forced a.0,
      elim (leb_tells (suc held.files.state) 2) [ inl w ↦ omega (arith, w.1) | inr w ↦ absurd (true≢false (sym b.0 ∙ w.0)) ],
      elim (eqb_tells p 0) [ inl w ↦ absurd (true≢false (sym (sym (not_true (p == 0) c.0) ∙ w.0))) | inr w ↦ some p w.1 ],
      elim (leb_tells (suc p) held.files.count) [ inl w ↦ omega (arith, w.1) | inr w ↦ absurd (true≢false (sym d.0 ∙ w.0)) ],
      not_there (dropped (cache_of held) p) (not_true (is_some (dropped (cache_of held) p)) d.1),
    )
  where
    some : (p : ℕ) → p ≢ 0 → 1 ≤ p
    some p ne = omega (arith, ne)

-- The rank goes by page 0.
rank_same : (a b : Image) (p : ℕ) → first_page a ≡ first_page b → rank_for a p ≡ rank_for b p
unfolding rank_for
rank_same a b p first = ap (λ (x : Page). elim (state_of x == stalled_state) as (λ z. ℕ) [ true ↦ 0 | false ↦ elim (is_scn_place (size_of x) p) as (λ z. ℕ) [ true ↦ 2 | false ↦ 3 ] ]) first

-- One more page waits.
module _ (w : World) (held : Held) (t : Trail) (is : IsOpen w held t) (valid : IsValid (cache_of held) held.files.page_size) (p rank : ℕ) (bytes : Page)
    (some : 1 ≤ p) (low : p < held.files.count) (below : p < most_pages) (wide : length bytes ≡ held.files.page_size) (other : is_zeros bytes ≡ false) (early : held.files.state ≤ 1) (loose : is_forced t.base.image ≡ false)
    (drops_none : dropped (cache_of held) p ≡ None) (ranked : rank ≡ rank_for t.base.image p) where
  abbrev later_t : Trail
  later_t = after_stroke (page p bytes) t

  abbrev kept : Pages
  kept = put_entries nat_eq (lru_cache held.pages held.cap) p (record { bytes = bytes; rank = rank_of held.pages p })

  abbrev marked : Pages
  marked = with_rank p (Some rank) (put_entries nat_eq (lru_cache held.pages held.cap) p (record { bytes = bytes; rank = rank_of held.pages p }))

  low_t : p < length t.base.image
  low_t = omega (arith, low, is.agrees.count)

  base_is : (after_stroke (page p bytes) t).base ≡ on_base (page p bytes) t.base
  base_is = trail_base (page p bytes) t

  page_other : (q : ℕ) → q ≢ p → page_at (after_stroke (page p bytes) t).base.image q ≡ page_at t.base.image q
  page_other q ne = ap (λ (b : Base). page_at b.image q) base_is ∙ put_other t.base p bytes some low_t q ne

  page_same : page_at (after_stroke (page p bytes) t).base.image p ≡ bytes
  page_same = ap (λ (b : Base). page_at b.image p) base_is ∙ put_same t.base p bytes some low_t

  first : first_page (after_stroke (page p bytes) t).base.image ≡ first_page t.base.image
  first = ap (λ (b : Base). first_page b.image) base_is ∙ put_first t.base p bytes some low_t

  long : length (after_stroke (page p bytes) t).base.image ≡ length t.base.image
  long = ap (λ (b : Base). length b.image) base_is ∙ put_long t.base p bytes some low_t

  frozen : (after_stroke (page p bytes) t).base.frozen ≡ t.base.frozen
  frozen = ap (λ (b : Base). b.frozen) base_is ∙ stroke-frozen t.base p bytes

  unsettled : (after_stroke (page p bytes) t).earlier ≢ []
  unsettled = wait_unsettled is.sees t p bytes is.waits.behind some low_t loose

  -- the entries then
  more : (xs : List ℕ) × ((after_stroke (page p bytes) t).base.diverted ≡ t.base.diverted ++ xs)
  more = let longer = put_longer t.base p bytes some low_t in (longer.0, ap (λ (b : Base). b.diverted) base_is ∙ longer.1)

  table_main : image_state t.base.image ≢ stalled_state → (after_stroke (page p bytes) t).base.diverted ≡ t.base.diverted
  table_main main = ap (λ (b : Base). b.diverted) base_is ∙ stroke-diverted t.base p bytes main

  table_there : image_state t.base.image ≡ stalled_state → (k : ℕ) → entry_for p t.base.diverted ≡ Some k → (after_stroke (page p bytes) t).base.diverted ≡ t.base.diverted
  table_there stalled k at = ap (λ (b : Base). b.diverted) base_is ∙ stroke-stalled t.base p bytes stalled ∙ noted-there p t.base.diverted k at

  table_new : image_state t.base.image ≡ stalled_state → entry_for p t.base.diverted ≡ None → (after_stroke (page p bytes) t).base.diverted ≡ t.base.diverted ++ p ∷ []
  table_new stalled none = ap (λ (b : Base). b.diverted) base_is ∙ stroke-stalled t.base p bytes stalled ∙ noted-new p t.base.diverted none

  named_own : image_state (after_stroke (page p bytes) t).base.image ≡ 1 → (k : ℕ) × (entry_for p (after_stroke (page p bytes) t).base.diverted ≡ Some k)
  named_own stalled = by (entry_for p t.base.diverted) refl
    where
      stalled_t : image_state t.base.image ≡ stalled_state
      stalled_t = sym (ap state_of first) ∙ stalled

      by : (x : Option ℕ) → entry_for p t.base.diverted ≡ x → (k : ℕ) × (entry_for p later_t.base.diverted ≡ Some k)
      by (Some k) at = (k, ap (entry_for p) (table_there stalled_t k at) ∙ at)
      by None none = (length t.base.diverted, ap (entry_for p) (table_new stalled_t none) ∙ entry-added p t.base.diverted none)

  there : is_some (slot_of (put_entries nat_eq (lru_cache held.pages held.cap) p (record { bytes = bytes; rank = rank_of held.pages p })) p) ≡ true
  there = slot_kept p (record { bytes = bytes; rank = rank_of held.pages p }) held.pages held.cap

  rank_own : rank_of (with_rank p (Some rank) (put_entries nat_eq (lru_cache held.pages held.cap) p (record { bytes = bytes; rank = rank_of held.pages p }))) p ≡ Some rank
  rank_own = rank_marked p (Some rank) kept there

  rank_other : (q : ℕ) → q ≢ p → rank_of (with_rank p (Some rank) (put_entries nat_eq (lru_cache held.pages held.cap) p (record { bytes = bytes; rank = rank_of held.pages p }))) q ≡ rank_of held.pages q
  rank_other q ne = rank_marked_other p q (Some rank) kept ne ∙ rank_kept_other (cache_of held) p (record { bytes = bytes; rank = rank_of held.pages p }) valid.some valid.most drops_none q ne

  waiting_own : IsWaiting (after_stroke (page p bytes) t) p rank
  waiting_own = record {
    some = some;
    low = omega (arith, low_t, long);
    below = below;
    early = omega (arith, ap state_of first, is.agrees.state, early);
    named = named_own;
    loose = ap (λ (x : Page). not (number_in 64 1 x == 0)) first ∙ loose;
    ranked = ranked ∙ sym (rank_same (after_stroke (page p bytes) t).base.image t.base.image p first);
    sized = ap length page_same ∙ wide ∙ is.agrees.page_size ∙ sym (ap size_of first);
    other = ap is_zeros page_same ∙ other;
    unsettled = unsettled;
  }

  waiting_other : (q r : ℕ) → q ≢ p → IsWaiting t q r → IsWaiting (after_stroke (page p bytes) t) q r
  waiting_other q r ne old = record {
    some = old.some;
    low = omega (arith, old.low, long);
    below = old.below;
    early = omega (arith, ap state_of first, old.early);
    named = λ stalled.
        let at = old.named (sym (ap state_of first) ∙ stalled) in
        (at.0, ap (entry_for q) more.1 ∙ entry-front q t.base.diverted more.0 at.0 at.1);
    loose = ap (λ (x : Page). not (number_in 64 1 x == 0)) first ∙ old.loose;
    ranked = old.ranked ∙ sym (rank_same (after_stroke (page p bytes) t).base.image t.base.image q first);
    sized = ap length (page_other q ne) ∙ old.sized ∙ sym (ap size_of first);
    other = ap is_zeros (page_other q ne) ∙ old.other;
    unsettled = unsettled;
  }

  -- what waited waits still
  still : (q : ℕ) → waits held.pages q ≡ true → waits (with_rank p (Some rank) (put_entries nat_eq (lru_cache held.pages held.cap) p (record { bytes = bytes; rank = rank_of held.pages p }))) q ≡ true
  still q waiting = elim (eqb_tells q p) [
    | inl e ↦ ap (λ (n : ℕ). waits marked n) e.1 ∙ ap is_some rank_own
    | inr e ↦ ap is_some (rank_other q e.1) ∙ waiting
  ]

  all_still : (qs : List ℕ) → AllByRecursion (λ q. waits held.pages q ≡ true) qs → AllByRecursion (λ q. waits (with_rank p (Some rank) (put_entries nat_eq (lru_cache held.pages held.cap) p (record { bytes = bytes; rank = rank_of held.pages p }))) q ≡ true) qs
  all_still qs all = wait_same held.pages marked qs still all

  pages_more : AreOf (after_stroke (page p bytes) t).base.image (with_rank p (Some rank) (put_entries nat_eq (lru_cache held.pages held.cap) p (record { bytes = bytes; rank = rank_of held.pages p })))
  pages_more = marked_of (after_stroke (page p bytes) t).base.image p (Some rank) kept
      (All-put p held.pages valid.once held.cap (record { bytes = bytes; rank = rank_of held.pages p }) (λ e. e.1.bytes ≡ page_at t.base.image e.0) (λ e. e.1.bytes ≡ page_at later_t.base.image e.0)
      (λ e apart of. of ∙ sym (page_other e.0 (λ same. absurd (true≢false (sym (eq_self p) ∙ subst (λ (n : ℕ). nat_eq p n ≡ false) same apart))))) (sym page_same) is.pages)

  -- With these entries, of which so many are drafted.
  module _ (entries : List ℕ) (drafted : ℕ) (entries_are : entries ≡ (after_stroke (page p bytes) t).base.diverted)
      (drafts : AreDrafted (with_rank p (Some rank) (put_entries nat_eq (lru_cache held.pages held.cap) p (record { bytes = bytes; rank = rank_of held.pages p }))) drafted is.sees (after_stroke (page p bytes) t))
      (plain : image_state t.base.image ≢ stalled_state → drafted ≡ 0) where
    waits_more : Waits (with_rank p (Some rank) (put_entries nat_eq (lru_cache held.pages held.cap) p (record { bytes = bytes; rank = rank_of held.pages p }))) drafted is.sees (after_stroke (page p bytes) t)
    waits_more = record {
      behind = wait_behind is.sees t p bytes is.waits.behind some low_t loose;
      drafts = drafts;
      stalled = λ main. plain (λ e. main (ap state_of first ∙ e));
      clean = λ q clean. elim (eqb_tells q p) [
        | inl e ↦ absurd (true≢false (sym (ap (λ (n : ℕ). waits marked n) e.1 ∙ ap is_some rank_own) ∙ clean))
        | inr e ↦ is.waits.clean q (ap is_some (sym (rank_other q e.1)) ∙ clean) ∙ sym (page_other q e.1)
      ];
      each = λ q r at. elim (eqb_tells q p) [
        | inl e ↦ subst (λ (n : ℕ). IsWaiting later_t n r) (sym e.1) (subst (IsWaiting later_t p) (some_same {X = ℕ} _ _ (sym rank_own ∙ sym (ap (rank_of marked) e.1) ∙ at)) waiting_own)
        | inr e ↦ waiting_other q r e.1 (is.waits.each q r (sym (rank_other q e.1) ∙ at))
      ];
    }

    agrees_more : Agrees (record held.files { entries = entries; drafted = drafted }) (after_stroke (page p bytes) t).base
    agrees_more = record {
      header = ap is_header first ∙ is.agrees.header;
      page_size = is.agrees.page_size ∙ sym (ap size_of first);
      state = is.agrees.state ∙ sym (ap state_of first);
      opened = is.agrees.opened;
      forced = is.agrees.forced ∙ sym (ap (λ (x : Page). not (number_in 64 1 x == 0)) first);
      count = is.agrees.count ∙ sym long;
      main_count = λ stalled. is.agrees.main_count stalled ∙ ap length (sym frozen);
      entries = entries_are;
    }

    wait_open : IsOpen w (record { files = record held.files { entries = entries; drafted = drafted }; pages = with_rank p (Some rank) (put_entries nat_eq (lru_cache held.pages held.cap) p (record { bytes = bytes; rank = rank_of held.pages p })); cap = held.cap }) (after_stroke (page p bytes) t)
    wait_open = open_of w (record { files = record held.files { entries = entries; drafted = drafted }; pages = marked; cap = held.cap }) is.sees later_t (record { left = is.files.left; shows = is.files.shows }) agrees_more waits_more pages_more

  -- No entry is added,
  same_drafts : (after_stroke (page p bytes) t).base.diverted ≡ t.base.diverted → AreDrafted (with_rank p (Some rank) (put_entries nat_eq (lru_cache held.pages held.cap) p (record { bytes = bytes; rank = rank_of held.pages p }))) held.files.drafted is.sees (after_stroke (page p bytes) t)
  same_drafts same = record { drafts = is.waits.drafts.drafts; all = same ∙ is.waits.drafts.all; many = is.waits.drafts.many; wait = all_still is.waits.drafts.drafts is.waits.drafts.wait }

  pub wait_main : image_state t.base.image ≢ stalled_state → IsOpen w (record held { pages = with_rank p (Some rank) (put_entries nat_eq (lru_cache held.pages held.cap) p (record { bytes = bytes; rank = rank_of held.pages p })) }) (after_stroke (page p bytes) t)
  wait_main main = wait_open held.files.entries held.files.drafted (is.agrees.entries ∙ sym (table_main main)) (same_drafts (table_main main)) is.waits.stalled

  pub wait_there : image_state t.base.image ≡ stalled_state → (k : ℕ) → entry_for p t.base.diverted ≡ Some k
      → IsOpen w (record held { pages = with_rank p (Some rank) (put_entries nat_eq (lru_cache held.pages held.cap) p (record { bytes = bytes; rank = rank_of held.pages p })) }) (after_stroke (page p bytes) t)
  wait_there stalled k at = wait_open held.files.entries held.files.drafted (is.agrees.entries ∙ sym (table_there stalled k at)) (same_drafts (table_there stalled k at)) is.waits.stalled

  -- or one is drafted.
  pub wait_new : image_state t.base.image ≡ stalled_state → entry_for p t.base.diverted ≡ None
      → IsOpen w (record { files = record held.files { entries = held.files.entries ++ p ∷ []; drafted = held.files.drafted + 1 }; pages = with_rank p (Some rank) (put_entries nat_eq (lru_cache held.pages held.cap) p (record { bytes = bytes; rank = rank_of held.pages p })); cap = held.cap }) (after_stroke (page p bytes) t)
  wait_new stalled none = wait_open (held.files.entries ++ p ∷ []) (held.files.drafted + 1) (ap (λ (xs : List ℕ). xs ++ p ∷ []) is.agrees.entries ∙ sym (table_new stalled none)) (record {
    drafts = is.waits.drafts.drafts ++ p ∷ [];
    all = table_new stalled none ∙ ap (λ (xs : List ℕ). xs ++ p ∷ []) is.waits.drafts.all ∙ append_assoc is.sees.base.diverted is.waits.drafts.drafts (p ∷ []);
    many = omega (arith, length-append is.waits.drafts.drafts (p ∷ []), is.waits.drafts.many);
    wait = all_more is.waits.drafts.drafts (all_still is.waits.drafts.drafts is.waits.drafts.wait);
  }) (λ main. absurd (main stalled))
    where
      all_more : (qs : List ℕ) → AllByRecursion (λ q. waits marked q ≡ true) qs → AllByRecursion (λ q. waits marked q ≡ true) (qs ++ p ∷ [])
      all_more [] all = (ap is_some rank_own, tt)
      all_more (q ∷ qs) all = (all.0, all_more qs all.1)

-- the rank by what is held of the files
ranked_in : (files : Rattle.nb_base.specs.Open.Held) (b : Base) (p : ℕ) → Agrees files b → rank_in files.state files.page_size p ≡ rank_for b.image p
unfolding rank_for
ranked_in files b p agrees = ap (λ n. rank_in n files.page_size p) agrees.state ∙ ap (λ n. rank_in (image_state b.image) n p) agrees.page_size

-- A page is in memory, where it waits, and has an entry in the stalled state.
module _ (w : World) (held : Held) (t : Trail) (is : IsOpen w held t) (valid : IsValid (cache_of held) held.files.page_size) (p : ℕ) (bytes : Page)
    (some : 1 ≤ p) (low : p < held.files.count) (below : p < most_pages) (wide : length bytes ≡ held.files.page_size) (other : is_zeros bytes ≡ false) (early : held.files.state ≤ 1) (loose : is_forced t.base.image ≡ false) (drops_none : dropped (cache_of held) p ≡ None)
    (after : Held)
    (pages_are : after.pages ≡ with_rank p (Some (rank_in held.files.state held.files.page_size p)) (put_entries nat_eq (lru_cache held.pages held.cap) p (record { bytes = bytes; rank = rank_of held.pages p })))
    (cap_is : after.cap ≡ held.cap) (normal : held.files.state ≡ normal_state → after.files ≡ held.files) (drafts : held.files.state ≡ stalled_state → Drafts p held.files after.files) where
  abbrev rank : ℕ
  rank = rank_in held.files.state held.files.page_size p

  abbrev pages : Pages
  pages = with_rank p (Some (rank_in held.files.state held.files.page_size p)) (put_entries nat_eq (lru_cache held.pages held.cap) p (record { bytes = bytes; rank = rank_of held.pages p }))

  ranked : rank_in held.files.state held.files.page_size p ≡ rank_for t.base.image p
  ranked = ranked_in held.files t.base p is.agrees

  with_files : (files : Rattle.nb_base.specs.Open.Held) → after.files ≡ files → IsOpen w (record { files = files; pages = pages; cap = held.cap }) (after_stroke (page p bytes) t) → IsOpen w after (after_stroke (page p bytes) t)
  with_files files same opened = subst (λ (h : Held). IsOpen w h (after_stroke (page p bytes) t)) (λ i. record { files = sym same i; pages = sym pages_are i; cap = sym cap_is i }) opened

  pub held_open : IsOpen w after (after_stroke (page p bytes) t)
  held_open = elim (eqb_tells held.files.state 0) [
    | inl e ↦ with_files held.files (normal e.1) (wait_main w held t is valid p rank bytes some low below wide other early loose drops_none ranked (λ stalled. absurd (omega (arith, e.1, stalled, is.agrees.state))))
    | inr e ↦
        let one : held.files.state ≡ stalled_state = omega (arith, e.1, early) in
        let stalled : image_state t.base.image ≡ stalled_state = sym is.agrees.state ∙ one in
        ⊎_elim
        (λ has. with_files held.files has.1 (wait_there w held t is valid p rank bytes some low below wide other early loose drops_none ranked stalled has.0.0 (ap (entry_for p) (sym is.agrees.entries) ∙ has.0.1)))
        (λ none. with_files (record held.files { entries = held.files.entries ++ p ∷ []; drafted = held.files.drafted + 1 }) none.1
        (wait_new w held t is valid p rank bytes some low below wide other early loose drops_none ranked stalled (ap (entry_for p) (sym is.agrees.entries) ∙ none.0)))
        (drafts one)
  ]
