-- The page of an entry is written into the main file: what a crash leaves, and that the entry is equal in both files then.
use Rattle.std.proofs.Common.{◌≡◌, ◌≢◌, inl, inr, ℕ, zero, suc, ◌+◌, ◌*◌, ◌<◌, ◌≤◌, List, [], ◌∷◌, length, get_or, take, drop, refl, sym, ap, subst, ◌∙◌, arith, false, nat_eq, Some, None}
use Rattle.nb_base.proofs.Common.{IsDistinct, eqb_tells, drop_at, length-take-le, size_of, true≢false, page_in, slot_place, most_pages, merge_state, File, Files, bytes_of, with_file, World, IsStill, with_file-same, with_file-other, rested, composed, all_before, AreEntries, apart_at, Quiet, Page, Image, page_at, image_size, image_state, image_in, trimmed, written_at, not_database, IsOfSize, delta_name, entry_for, main_page, owned_page, Trail, ShowsIn, StandsFirm, named, main_here, other_page, written_length, all-left, some_page, itself_firm, trimmed_page, Held, OfFiles, IsOpen, IsMerged, AreMerged, IsSeen, StrikesFirm, for_here, some_same}
use Rattle.nb_host.specs.Files.{with_page as with_page_at}
use Rattle.nb_model.specs.Owner.{slot_page}
use Rattle.nb_base.proofs.MergeLaws.{page_in-main}
use Rattle.nb_base.proofs.OwnedLaws.{Holds, entry-later, later, owned-entry, base-length, base-page, base-size, bytes-size, main-some, main-long}
use Rattle.nb_base.proofs.HiddenLaws.{MayHide, may_lay}
use Rattle.nb_base.proofs.StrokeLaws.{h0}
use Rattle.nb_base.proofs.WrittenLaws.{HasMain, MayLay, main_over, written_same, written_sizes, laid_formed, laid_image}
use Rattle.nb_base.proofs.WriteLaws.{delta_apart}

-- no page is named twice, so that each entry is its page's
pub entry_named : (table : List ℕ) (k : ℕ) → IsDistinct nat_eq table → k < length table → entry_for (get_or table k 0) table ≡ Some k
unfolding IsDistinct
entry_named [] k once low = absurd (omega (arith, low))
entry_named (x ∷ xs) zero once low = for_here x x xs refl
entry_named (x ∷ xs) (suc k) once low = entry-later (get_or xs k 0) x xs (λ e. other (apart_at x xs k once.0 (omega (arith, low))) e) ∙ ap later (entry_named xs k once.1 (omega (arith, low)))
  where
    other : nat_eq (get_or xs k 0) x ≡ false → get_or xs k 0 ≡ x → ⊥
    other apart same = elim (eqb_tells (get_or xs k 0) x) [ inl w ↦ true≢false (sym w.0 ∙ apart) | inr w ↦ absurd (w.1 same) ]

-- calls that change nothing
pub seen_still : (old new : World) (name : List ℕ) (t : Trail) → IsStill old new → IsSeen old name t → IsSeen new name t
seen_still old new name t still seen = record {
  left = λ files left. seen.left files (all_before old new still.left files left);
  shows = subst (λ (f : Files). ShowsIn name t.base f) (sym still.files) seen.shows;
}

pub struck_quiet : (old new : World) (name : List ℕ) (t : Trail) → Quiet old new → IsSeen old name t → StrikesFirm old new name t []
struck_quiet old new name t quiet seen = rested old new (OfFiles name) (StandsFirm name t) quiet.still quiet.said quiet.moments seen.left

pub struck_joined : (old mid new : World) (name : List ℕ) (t : Trail) → StrikesFirm old mid name t [] → StrikesFirm mid new name t [] → StrikesFirm old new name t []
struck_joined old mid new name t first second = composed old mid new (OfFiles name) (StandsFirm name t) (StandsFirm name t) (StandsFirm name t) first second (λ files stands. stands) (λ files stands. stands)

-- what the main file of an open database has, as bytes
module _ (old : World) (held : Held) (t : Trail) (is : IsOpen old held t) where
  pub read_formed : not_database (h0 old held t is).has.bytes ≡ None
  read_formed = laid_formed (h0 old held t is).main (h0 old held t is).has.bytes (h0 old held t is).has.laid

  pub read_size : size_of (h0 old held t is).has.bytes ≡ held.page_size
  read_size =
      sym (bytes-size (h0 old held t is).has.bytes read_formed) ∙ ap image_size (laid_image (h0 old held t is).main (h0 old held t is).has.bytes (h0 old held t is).has.laid)
      ∙ sym (base-size t.base _ _ (h0 old held t is)) ∙ sym is.agrees.page_size

-- The page of entry k of an open database was read, in the merge state.
pub record ReadsEntry (old : World) (held : Held) (t : Trail) (k number : ℕ) (page : Page) : Type 0 where
  pub is : IsOpen old held t
  pub merges : held.state ≡ merge_state
  pub inside : k < length held.entries
  pub are : AreEntries held.entries
  pub names : number ≡ get_or held.entries k 0
  pub below : number < most_pages
  pub long : length page ≡ held.page_size
  pub owned : page ≡ owned_page held.page_size (image_in (h0 old held t is).has.bytes) (bytes_of (old.files (delta_name held.name))) held.entries number

module _ (old : World) (held : Held) (t : Trail) (k number : ℕ) (page : Page) (o : ReadsEntry old held t k number page) where
  abbrev g : Holds t.base (old.files held.name) (old.files (delta_name held.name))
  g = h0 old held t o.is

  abbrev delta : List ℕ
  delta = bytes_of (old.files (delta_name held.name))

  pub its_entry : entry_for number t.base.diverted ≡ Some k
  its_entry = ap (λ n. entry_for n t.base.diverted) o.names ∙ ap (λ (l : List ℕ). entry_for (get_or l k 0) t.base.diverted) o.is.agrees.entries
      ∙ entry_named t.base.diverted k (subst (λ (l : List ℕ). IsDistinct nat_eq l) o.is.agrees.entries o.are.once) (omega (arith, o.inside, ap length o.is.agrees.entries))

  low : number < length t.base.image
  low = let last = named number t.base.diverted k its_entry in omega (arith, last, base-length t.base _ _ g)

  -- it is a page of the database
  pub its_place : number < length t.base.image
  its_place = low

  pub merging : image_state t.base.image ≡ merge_state
  merging = sym o.is.agrees.state ∙ o.merges

  size : held.page_size ≡ image_size g.main
  size = o.is.agrees.page_size ∙ base-size t.base _ _ g

  read : page ≡ owned_page (image_size g.main) g.main delta held.entries number
  read = o.owned ∙ ap (λ n. owned_page n (image_in g.has.bytes) delta held.entries number) size ∙ ap (λ (x : Image). owned_page (image_size g.main) x delta held.entries number) (laid_image g.main g.has.bytes g.has.laid)

  page_is : page ≡ page_at t.base.image number
  page_is = read ∙ ap (λ (l : List ℕ). owned_page (image_size g.main) g.main delta l number) o.is.agrees.entries ∙ sym (base-page t.base _ _ g number low)

  pub its_hiding : MayHide t number page
  its_hiding = record {
    fits = record { low = omega (arith, low); front = λ e. ap (take 64) page_is ∙ ap (λ n. take 64 (page_at t.base.image n)) e };
    long = o.long ∙ o.is.agrees.page_size;
    below = o.below;
  }

  slot : page ≡ slot_page (image_size g.main) g.main delta number k
  slot = read ∙ ap (λ (l : List ℕ). owned_page (image_size g.main) g.main delta l number) o.is.agrees.entries ∙ owned-entry (image_size g.main) g.main delta t.base.diverted number k its_entry

  -- what the main file's bytes have then
  module _ (new : Files) (put : new ≡ with_file old.files held.name (with_page_at (old.files held.name) (number * length page) page)) where
    abbrev laid_over : Image
    laid_over = written_at (image_size g.main) (number, page) g.main

    abbrev after : Image
    after = trimmed laid_over

    laying : MayLay number page g.main
    laying = may_lay t number page its_hiding merging t.base (itself_firm t) _ _ g

    has : HasMain after (new held.name)
    has = main_over g.main (old.files held.name) (new held.name) number page g.has laying (ap (λ (f : Files). f held.name) put ∙ with_file-same old.files held.name _)

    beside : new (delta_name held.name) ≡ old.files (delta_name held.name)
    beside = ap (λ (f : Files). f (delta_name held.name)) put ∙ with_file-other old.files held.name _ (delta_name held.name) (delta_apart held.name)

    some : 1 ≤ length g.main
    some = main-some t.base _ _ g

    longer : 1 ≤ length after
    longer = some_page after has.laid.header

    sizes : IsOfSize (image_size g.main) g.main
    sizes = all-left (λ x. length x ≡ image_size g.main) g.main g.has.laid.rest g.has.laid.sizes

    -- each page is seen so, with the pages of zeros at the end or without them
    after_page : (q : ℕ) → main_page (image_size g.main) after q ≡ main_page (image_size g.main) laid_over q
    after_page q = trimmed_page (image_size g.main) laid_over (written_sizes (image_size g.main) number page g.main sizes laying.long) q

    other_after : (q : ℕ) → q ≢ number → main_page (image_size g.main) after q ≡ main_page (image_size g.main) g.main q
    other_after q other = after_page q ∙ other_page (image_size g.main) number page g.main q other

    here : main_page (image_size g.main) after number ≡ page
    here = after_page number ∙ main_here (image_size g.main) laid_over number (omega (arith, written_length (image_size g.main) number page g.main)) ∙ written_same (image_size g.main) number page g.main

    later_size : image_size after ≡ image_size g.main
    later_size = elim (eqb_tells number 0) [
      | inl w ↦ ap size_of (sym (main_here (image_size g.main) after 0 longer) ∙ ap (main_page (image_size g.main) after) (sym w.1) ∙ here) ∙ laying.size w.1
      | inr w ↦ ap size_of (sym (main_here (image_size g.main) after 0 longer) ∙ other_after 0 (λ e. w.1 (sym e)) ∙ main_here (image_size g.main) g.main 0 some)
    ]

    page_now : (q : ℕ) → page_in held.page_size (bytes_of (new held.name)) q ≡ main_page (image_size g.main) after q
    page_now q = ap (λ n. page_in n (bytes_of (new held.name)) q) (size ∙ sym later_size) ∙ ap (λ (f : File). page_in (image_size after) (bytes_of f) q) has.there ∙ page_in-main after has.bytes has.laid q ∙ ap (λ n. main_page n after q) later_size

    page_then : (q : ℕ) → page_in held.page_size (bytes_of (old.files held.name)) q ≡ main_page (image_size g.main) g.main q
    page_then q = ap (λ n. page_in n (bytes_of (old.files held.name)) q) size ∙ ap (λ (f : File). page_in (image_size g.main) (bytes_of f) q) g.has.there ∙ page_in-main g.main g.has.bytes g.has.laid q

    first_now : page_at (image_in (bytes_of (new held.name))) 0 ≡ main_page (image_size g.main) after 0
    first_now = ap (λ (f : File). page_at (image_in (bytes_of f)) 0) has.there ∙ ap (λ (x : Image). page_at x 0) (laid_image after has.bytes has.laid) ∙ sym (main_here (image_size g.main) after 0 longer)

    first_then : page_at (image_in (bytes_of (old.files held.name))) 0 ≡ main_page (image_size g.main) g.main 0
    first_then = ap (λ (f : File). page_at (image_in (bytes_of f)) 0) g.has.there ∙ ap (λ (x : Image). page_at x 0) (laid_image g.main g.has.bytes g.has.laid) ∙ sym (main_here (image_size g.main) g.main 0 some)

    slot_now : (j : ℕ) → page_in held.page_size (bytes_of (new (delta_name held.name))) (slot_place held.page_size j) ≡ page_in held.page_size delta (slot_place held.page_size j)
    slot_now j = ap (λ (f : File). page_in held.page_size (bytes_of f) (slot_place held.page_size j)) beside

    -- the entry itself, and another
    slot_first : (n : ℕ) → n ≡ 0 → drop 64 (slot_page (image_size g.main) g.main delta n k) ≡ drop 64 (page_in held.page_size delta (slot_place held.page_size k))
    unfolding slot_page
    slot_first zero e =
        drop_at (take 64 (page_at g.main 0)) (drop 64 (page_in (image_size g.main) delta (slot_place (image_size g.main) k))) 64 (length-take-le 64 (page_at g.main 0) (main-long t.base _ _ g))
        ∙ ap (λ n. drop 64 (page_in n delta (slot_place n k))) (sym size)
    slot_first (suc n) e = absurd (omega (arith, e))

    slot_behind : (n : ℕ) → 0 < n → slot_page (image_size g.main) g.main delta n k ≡ page_in held.page_size delta (slot_place held.page_size k)
    unfolding slot_page
    slot_behind zero above = absurd (omega (arith, above))
    slot_behind (suc n) above = ap (λ n. page_in n delta (slot_place n k)) (sym size)

    merged_here : IsMerged held new k
    merged_here = record {
      later = λ e.
          let zero : number ≡ 0 = o.names ∙ e in
          ap (drop 64) first_now ∙ ap (λ n. drop 64 (main_page (image_size g.main) after n)) (sym zero) ∙ ap (drop 64) (here ∙ slot) ∙ slot_first number zero ∙ ap (drop 64) (sym (slot_now k));
      same = λ some. ap (page_in held.page_size (bytes_of (new held.name))) (sym o.names) ∙ page_now number ∙ here ∙ slot ∙ slot_behind number (omega (arith, o.names, some)) ∙ sym (slot_now k);
    }

    merged_other : (j : ℕ) → j < length held.entries → j ≢ k → IsMerged held old.files j → IsMerged held new j
    merged_other j fits other was =
        let once : IsDistinct nat_eq held.entries = o.are.once in
        let apart : get_or held.entries j 0 ≢ number = λ e.
        other (some_same {X = ℕ} _ _ (sym (entry_named held.entries j once fits) ∙ ap (λ n. entry_for n held.entries) (e ∙ o.names) ∙ entry_named held.entries k once o.inside)) in
        record {
          later = λ e. ap (drop 64) (first_now ∙ other_after 0 (λ z. apart (e ∙ z)) ∙ sym first_then) ∙ was.later e ∙ ap (drop 64) (sym (slot_now j));
          same = λ some. page_now (get_or held.entries j 0) ∙ other_after (get_or held.entries j 0) apart ∙ sym (page_then (get_or held.entries j 0)) ∙ was.same some ∙ sym (slot_now j);
        }

    pub merged_next : (w : World) → w.files ≡ new → AreMerged old held k → AreMerged w held (k + 1)
    merged_next w same so_far j low fits = subst (λ (f : Files). IsMerged held f j) (sym same) (elim (eqb_tells j k) [
      | inl e ↦ subst (λ n. IsMerged held new n) (sym e.1) merged_here
      | inr ne ↦ merged_other j fits ne.1 (so_far j (omega (arith, low, ne.1)) fits)
    ])
