-- Making a page: its strokes and what they leave, and what is never refused where the inventories agree with the pages.
use Rattle.std.proofs.Common.{◌≡◌, ◌≢◌, ℕ, ◌+◌, ◌-◌, ◌/◌, ◌<◌, ◌≤◌, List, [], ◌∷◌, ◌++◌, length, take, drop, replicate, refl, sym, ap, subst, ◌∙◌, arith, Bool, true, false, not, IsTrue, None, Result, Ok, IsErr, IsErrAnd, IfErr, max}
use Rattle.nb_alloc.proofs.Common.{inventory_kind, size_of, is_page_size, bits_in, entries_in, inventory_place, is_inventory_place, is_scn_place, inventory_payload, scn_payload, SizeFacts, size_facts, padded_whole, kind_of, stamped, with_payload, World, Fault, Device, NotDatabase, Quiet, stamped-with_payload, Page, Image, page_at, image_size, image_scn, Base, Stroke, page, on_base, base_after, merged_page, Trail, Draft, drafted, old_page, put, inventory_of, has_entry, scn_page_of, is_kind, system_kind, system_payload, system_page, Cause, when, not_kind, base_after-append, stroke_page, stroke_other, with_page_length, inventory_there, inventory_place_some, scn_page_there, inventory_before, places_apart, lt_no, kind_parts, after_strokes, IsNoRefusal, Held, IsOpen, but_pages, Makes, unless_by, makes_not, StopsShort, Tries, WhereMemory, entry_cause, must_raise, raise_strokes, mark_cause, IsMap, IsWell, page_strokes, system_strokes, system_cause, first_next, scn_place-some, is_so, no_cause}
use Rattle.nb_model.proofs.PutSound.{IsPlace}
use Rattle.nb_model.proofs.FreshSound.{inventory_length, scn_length}
use Rattle.nb_model.proofs.FitLaws.{IsWhole}
use Rattle.nb_model.proofs.RoundLaws as rounds
use Rattle.nb_alloc.proofs.DoesLaws.{tries_opened, tries_passed, tries_then}
use Rattle.nb_alloc.proofs.PutLaws.{stroke_long, may_raise, raised_once, raised_not, no_entry_cause, entry_cause-is}
use Rattle.nb_alloc.proofs.PageLaws.{makes_one}
use Rattle.nb_alloc.proofs.WantLaws.{Stays, short_first, wanted_so}
use Rattle.nb_alloc.proofs.TestLaws.{kind_is}

-- its image as the model's laws see it
pub well : (image : Image) → IsWell image → IsWhole image
well image is = record { fields = record { size = is.size; scn = is.scn }; sound = is.sound }

-- the page of its entry is of the form
pub entry_none : (image : Image) (p : ℕ) → IsWell image → IsPlace image p → entry_cause image p ≡ None
entry_none image p is at = by (has_entry image p) refl
  where
    by : (t : Bool) → has_entry image p ≡ t → entry_cause image p ≡ None
    by false e = no_entry_cause image p e
    by true e = entry_cause-is image p e ∙ ap (λ (t : Bool). when (not t) (NotDatabase (scn_page_of image p))) (rounds.scn_page_found image (well image is) p at e)

-- and so are the inventory page of a page below the length and the page of that one's entry
pub mark_none : (image : Image) (p : ℕ) → IsWell image → 2 ≤ p → p < length image → mark_cause image p ≡ None
mark_none image p is two low =
    let i : ℕ = inventory_of image p in
    let before : i < p = inventory_before (image_size image) p is.size two in
    let there : i < length image = omega (arith, before, low) in
    let kind : kind_of (page_at image i) ≡ inventory_kind = is.sound.sound.system.inventories i there (inventory_there (image_size image) (p / bits_in (image_size image)) is.size) in
    let at : IsPlace image i = record { behind = inventory_place_some (image_size image) (p / bits_in (image_size image)) is.size; there = omega (arith, there); most = let most = is.sound.most in omega (arith, there, most) } in
    first_next (not_kind image inventory_kind i) (entry_cause image i ∷ []) (kind_is image inventory_kind i there kind) ∙ first_next (entry_cause image i) [] (entry_none image i is at) ∙ no_cause

-- no inventory page is the SCN page of a page
map_apart : (x : Image) (p q : ℕ) → IsTrue (is_page_size (image_size x)) → is_inventory_place (image_size x) q ≡ true → q ≢ scn_page_of x p
map_apart x p q size at e = places_apart (image_size x) q size at (ap (is_scn_place (image_size x)) e ∙ scn_page_there (image_size x) (p / entries_in (image_size x)) size)

-- a read failed before any stroke, and `?` passed it on
pub tries_fault : {T : Type 0} (result : Result T Fault) (old new : World) (a b : Held) (t : Trail) (cause : Cause) (xs : List Stroke) → IsErr result × IsErrAnd result (λ f. f ≡ Device) → but_pages b ≡ but_pages a → Quiet old new → IsOpen old a t
    → Tries result old new a b t cause xs
tries_fault {T} result old new a b t cause xs passed same quiet is = tries_passed result Device (λ r. Tries r old new a b t cause xs) passed (record { test = tt; makes = makes_not T Device old new a b t (unless_by cause xs) tt same quiet is; idle = λ r some. quiet; stops = tt })

-- cause and strokes by other names
pub tries_named : {T : Type 0} (result : Result T Fault) (old new : World) (a b : Held) (t : Trail) (cause other : Cause) (xs ys : List Stroke) → cause ≡ other → xs ≡ ys → Tries result old new a b t cause xs
    → Tries result old new a b t other ys
tries_named result old new a b t cause other xs ys same are tries =
    subst (λ (c : Cause). Tries result old new a b t c ys) same (subst (λ (ss : List Stroke). Tries result old new a b t cause ss) are tries)

-- What the raise of an entry changes: the SCN page of page p alone.
pub record RaisesAlone (image after : Image) (p : ℕ) : Type 0 where
  pub long : length after ≡ length image
  pub others : (q : ℕ) → q ≢ scn_page_of image p → page_at after q ≡ page_at image q

pub raise_alone : (b : Base) (p : ℕ) → entry_cause b.image p ≡ None → RaisesAlone b.image (base_after b (raise_strokes b.image p)).image p
unfolding base_after
raise_alone b p none = by (must_raise b.image p) refl
  where
    after : List Stroke → Type 0
    after ss = RaisesAlone b.image (base_after b ss).image p

    by : (t : Bool) → must_raise b.image p ≡ t → after (raise_strokes b.image p)
    by false must = subst after (sym (raised_not b.image p must)) (record { long = refl; others = λ q other. refl })
    by true must =
        let may = may_raise b.image p none must in
        subst after (sym (raised_once b.image p must)) (record { long = stroke_long b (scn_page_of b.image p) _ may.low; others = λ q other. stroke_other b (scn_page_of b.image p) q _ (omega (arith, may.low)) other })

-- then the page is written, whose bytes were made before
pub put_then : {T : Type 0} (result : Result T Fault) (old mid new : World) (a b c : Held) (t : Trail) (p : ℕ) (written bytes : Page)
    → Tries {T = Unit {0}} (Ok tt) old mid a b t (entry_cause t.base.image p) (raise_strokes t.base.image p) → written ≡ bytes → IfErr result IsNoRefusal
    → ((u : Trail) → IsOpen mid b u → Makes result mid new b c u (page p written ∷ []))
    → ((u : Trail) → IsOpen mid b u → WhereMemory result (Stays mid new b c u))
    → Tries result old new a c t (entry_cause t.base.image p) (raise_strokes t.base.image p ++ page p bytes ∷ [])
put_then result old mid new a b c t p written bytes first same never writes stays =
    let image : Image = t.base.image in
    let u : Trail = after_strokes t (raise_strokes image p) in
    let opened = tries_opened tt old mid a b t (entry_cause image p) (raise_strokes image p) first in
    tries_then tt result old mid new a b c t (entry_cause image p) (raise_strokes image p) (page p bytes ∷ []) first never
    (makes_one result mid new b c u (page p written) (page p bytes) (ap (λ (x : Page). page p x) same) (writes u opened))
    (wanted_so result (Stays mid new b c u) (StopsShort mid new b c u (page p bytes ∷ [])) (short_first mid new b c u (page p bytes) []) (stays u opened))

-- A page was written or added.
module _ (b : Base) (p kind : ℕ) (payload : List ℕ) (none : entry_cause b.image p ≡ None) (low : p ≤ length b.image) where
  abbrev raised_base : Base
  raised_base = base_after b (raise_strokes b.image p)

  abbrev bytes : Page
  bytes = stamped (old_page p b.image) kind payload (image_scn b.image) p

  abbrev paged : Base
  paged = base_after b (page_strokes b.image p kind payload)

  alone : RaisesAlone b.image raised_base.image p
  alone = raise_alone b p none

  paged_is : paged ≡ on_base (page p bytes) raised_base
  unfolding base_after
  paged_is = base_after-append b (raise_strokes b.image p) (page p bytes ∷ [])

  there_still : p ≤ length raised_base.image
  there_still = omega (arith, low, alone.long)

  page_long : length paged.image ≡ max (length b.image) (p + 1)
  page_long =
      ap (λ (x : Base). length x.image) paged_is ∙ ap length (stroke_page raised_base p bytes) ∙ with_page_length p (merged_page p bytes raised_base.image) raised_base.image there_still ∙ ap (λ (n : ℕ). max n (p + 1)) alone.long

  page_other : (q : ℕ) → q ≢ p → q ≢ scn_page_of b.image p → page_at paged.image q ≡ page_at b.image q
  page_other q ne entry = ap (λ (x : Base). page_at x.image q) paged_is ∙ stroke_other raised_base p q bytes there_still ne ∙ alone.others q entry

  -- its inventory page is as it was
  pub map_kept : (map : Page) → IsTrue (is_page_size (image_size b.image)) → 5 ≤ p → IsMap b.image p map → IsMap paged.image p map
  map_kept map is five held =
      let size : ℕ = image_size b.image in
      let q : ℕ = inventory_of b.image p in
      let before : q < p = inventory_before size p is (omega (arith, five)) in
      let place : is_inventory_place size q ≡ true = inventory_there size (p / bits_in size) is in
      let two = scn_place-some size (p / entries_in size) is in
      let read : page_at paged.image q ≡ page_at b.image q = page_other q (λ e. absurd (omega (arith, e, before))) (map_apart b.image p q is place) in
      let first : page_at paged.image 0 ≡ page_at b.image 0 = page_other 0 (λ e. absurd (omega (arith, e, five))) (λ e. absurd (omega (arith, e, two))) in
      let same : inventory_of paged.image p ≡ q = ap (λ (s : ℕ). inventory_place s (p / bits_in s)) (ap size_of first) in
      let parts = kind_parts b.image inventory_kind q (is_so (is_kind b.image inventory_kind q) (NotDatabase q) held.kind) in
      let inside : q < length paged.image = omega (arith, before, page_long) in
      record {
        kind = ap (λ (r : ℕ). not_kind paged.image inventory_kind r) same ∙ kind_is paged.image inventory_kind q inside (ap kind_of read ∙ parts.1);
        page = held.page ∙ sym read ∙ ap (page_at paged.image) (sym same);
      }

-- the page that was stamped is that of the stroke
pub stamped_page : (image : Image) (p code kind scn : ℕ) (payload : List ℕ) (before now : Page) → before ≡ with_payload (old_page p image) payload → now ≡ stamped before code (drop 16 before) scn p → code ≡ kind → scn ≡ image_scn image
    → 16 + length payload ≤ length (old_page p image) → now ≡ stamped (old_page p image) kind payload (image_scn image) p
stamped_page image p code kind scn payload before now filled stamp same current room =
    stamp ∙ ap (λ (k : ℕ). stamped before k (drop 16 before) scn p) same ∙ ap (λ (x : Page). stamped x kind (drop 16 x) scn p) filled
    ∙ stamped-with_payload (old_page p image) kind payload scn p room ∙ ap (λ (n : ℕ). stamped (old_page p image) kind payload n p) current

-- zeros, where a page is added
pub old_past : (p : ℕ) (image : Image) → length image ≤ p → old_page p image ≡ replicate (image_size image) 0
unfolding old_page
old_past p image far = ap (λ (t : Bool). elim t as (λ z. Page) [ true ↦ page_at image p | false ↦ replicate (image_size image) 0 ]) (lt_no p (length image) far)

-- bytes that fill a page after its head
pub filled_page : (old payload new : Page) → length payload ≡ length old - 16 → new ≡ take 16 old ++ payload → new ≡ with_payload old payload
unfolding with_payload
filled_page old payload new long is = is ∙ ap (λ (xs : List ℕ). take 16 old ++ xs) (sym (padded_whole (length old - 16) payload long))

-- what a system place holds, by its kind
module _ (image : Image) (p : ℕ) where
  abbrev by_place : Bool → List ℕ
  by_place t = elim t as (λ z. List ℕ) [
    | true ↦ inventory_payload (image_size image) ((p + 1) / bits_in (image_size image)) 0
    | false ↦ scn_payload (image_size image) (p / entries_in (image_size image)) (image_scn image)
  ]

  pub payload_of_place : (t : Bool) → is_inventory_place (image_size image) p ≡ t → system_payload image p ≡ by_place t
  unfolding system_payload
  payload_of_place t e = ap by_place e

  -- it fills the page
  pub payload_whole : IsTrue (is_page_size (image_size image)) → length (system_payload image p) ≡ image_size image - 16
  payload_whole size = by (is_inventory_place (image_size image) p) refl
    where
      facts : SizeFacts (image_size image)
      facts = size_facts (image_size image) size

      by : (t : Bool) → is_inventory_place (image_size image) p ≡ t → length (system_payload image p) ≡ image_size image - 16
      by true e = ap length (payload_of_place true e) ∙ omega (arith, facts.at_least, inventory_length (image_size image) ((p + 1) / bits_in (image_size image)) 0)
      by false e = ap length (payload_of_place false e) ∙ omega (arith, facts.at_least, facts.in_fours, scn_length (image_size image) (p / entries_in (image_size image)) (image_scn image))

  -- its system page is there, or is put there
  pub system_there : is_kind image (system_kind image p) p ≡ true → (system_page p (drafted image)).strokes ≡ []
  unfolding system_page
  system_there e = ap (λ (t : Bool). (elim t as (λ z. Draft) [ true ↦ drafted image | false ↦ put p (system_kind image p) (system_payload image p) (drafted image) ]).strokes) e

  pub system_put : is_kind image (system_kind image p) p ≡ false → (system_page p (drafted image)).strokes ≡ (put p (system_kind image p) (system_payload image p) (drafted image)).strokes
  unfolding system_page
  system_put e = ap (λ (t : Bool). (elim t as (λ z. Draft) [ true ↦ drafted image | false ↦ put p (system_kind image p) (system_payload image p) (drafted image) ]).strokes) e

  -- by the strokes that it takes
  pub system_made : is_kind image (system_kind image p) p ≡ true → system_strokes image p ≡ []
  system_made e = ap (λ (t : Bool). elim t as (λ z. List Stroke) [ true ↦ [] | false ↦ page_strokes image p (system_kind image p) (system_payload image p) ]) e

  pub system_unmade : is_kind image (system_kind image p) p ≡ false → system_strokes image p ≡ page_strokes image p (system_kind image p) (system_payload image p)
  system_unmade e = ap (λ (t : Bool). elim t as (λ z. List Stroke) [ true ↦ [] | false ↦ page_strokes image p (system_kind image p) (system_payload image p) ]) e

  pub system_free : is_kind image (system_kind image p) p ≡ true → system_cause image p ≡ None
  system_free e = ap (λ (t : Bool). elim t as (λ z. Cause) [ true ↦ None | false ↦ entry_cause image p ]) e

  pub system_asks : is_kind image (system_kind image p) p ≡ false → system_cause image p ≡ entry_cause image p
  system_asks e = ap (λ (t : Bool). elim t as (λ z. Cause) [ true ↦ None | false ↦ entry_cause image p ]) e
