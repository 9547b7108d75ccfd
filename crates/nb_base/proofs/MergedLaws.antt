-- Entries that are equal in both files stay so, whatever page is written in the merge state.
use Rattle.std.proofs.Common.{◌≡◌, ◌≢◌, inl, inr, ℕ, ◌+◌, ◌*◌, ◌<◌, ◌≤◌, List, length, drop, refl, sym, ap, subst, ◌∙◌, arith, IsTrue, nat_eq, Some, None, slice_index}
use Rattle.nb_base.proofs.Common.{IsDistinct, eqb_tells, is_page_size, page_in, size_facts, merge_state, File, Files, bytes_of, with_file, World, HasTable, SlotPut, slot_page, put_here, table_read, Page, Image, page_at, image_size, image_state, image_in, written_at, delta_name, entry_for, Trail, itself_firm, some_page, main_here, other_page, written_length, Held, IsMerged, AreMerged, IsSeen, IsWrite, with_file-same, with_file-other, none_there, some_same}
use Rattle.nb_host.specs.Files.{with_page as with_page_at}
use Rattle.nb_delta.proofs.PageLaws.{put_other}
use Rattle.nb_base.proofs.WrittenLaws.{HasMain, MayWrite, main_put, laid_image, written_same}
use Rattle.nb_base.proofs.OwnedLaws.{Holds, holds, base-state, base-size, later}
use Rattle.nb_base.proofs.StepLaws.{may}
use Rattle.nb_base.proofs.WriteLaws.{delta_apart, main_apart}
use Rattle.nb_base.proofs.MergingLaws.{entry_named}

-- the table of a difference file names no page twice
table_apart : (size : ℕ) (file : File) (table : List ℕ) → IsTrue (is_page_size size) → HasTable size file table → IsDistinct nat_eq table
table_apart size None table is has = absurd has
table_apart size (Some bytes) table is has =
    let facts = size_facts size is in
    let room : 0 < Rattle.nb_fields.specs.Places.slots_in size = omega (arith, facts.at_least) in
    (table_read size bytes table room (omega (arith, facts.at_least)) has).holds.are.once

-- A page is written into the main file.
module _ (held : Held) (old new : Files) (image : Image) (p : ℕ) (bytes : Page) (has : HasMain image (old held.name)) (may_ : MayWrite p bytes image) (size : image_size image ≡ held.page_size)
    (put : new held.name ≡ with_page_at (old held.name) (p * length bytes) bytes) where
  now : HasMain (written_at (image_size image) (p, bytes) image) (new held.name)
  now = main_put image (old held.name) (new held.name) p bytes has may_ put

  image_now : image_in (bytes_of (new held.name)) ≡ written_at (image_size image) (p, bytes) image
  image_now = ap (λ (f : File). image_in (bytes_of f)) now.there ∙ laid_image _ now.bytes now.laid

  image_was : image_in (bytes_of (old held.name)) ≡ image
  image_was = ap (λ (f : File). image_in (bytes_of f)) has.there ∙ laid_image image has.bytes has.laid

  some : 1 ≤ length image
  some = some_page image has.laid.header

  put_is : bytes_of (new held.name) ≡ Rattle.nb_host.specs.Files.put_at (bytes_of (old held.name)) (p * held.page_size) bytes
  put_is = ap bytes_of put ∙ ap (λ n. Rattle.nb_host.specs.Files.put_at (bytes_of (old held.name)) (p * n) bytes) (may_.long ∙ size)

  -- another entry stays equal
  other_merged : (j : ℕ) → slice_index held.entries j ≢ p → slot_page held.page_size (new (delta_name held.name)) j ≡ slot_page held.page_size (old (delta_name held.name)) j → IsMerged held old j → IsMerged held new j
  other_merged j other slot merged = record {
    later = λ zero_.
        let ne : 0 ≢ p = λ e. other (zero_ ∙ e) in
        let long : length (written_at (image_size image) (p, bytes) image) ≡ Rattle.std.specs.Prelude.max (length image) (p + 1) = written_length (image_size image) p bytes image in
        let first : page_at (written_at (image_size image) (p, bytes) image) 0 ≡ page_at image 0 =
        sym (main_here (image_size image) (written_at (image_size image) (p, bytes) image) 0 (omega (arith, long))) ∙ other_page (image_size image) p bytes image 0 ne ∙ main_here (image_size image) image 0 (omega (arith, some)) in
        ap (λ (x : Image). drop 64 (page_at x 0)) image_now ∙ ap (drop 64) first ∙ sym (ap (λ (x : Image). drop 64 (page_at x 0)) image_was) ∙ merged.later zero_ ∙ sym (ap (drop 64) slot);
    same = λ above.
        ap (λ (x : List ℕ). page_in held.page_size x (slice_index held.entries j)) put_is
        ∙ put_other held.page_size (bytes_of (old held.name)) p bytes (slice_index held.entries j) (may_.long ∙ size) other ∙ merged.same above ∙ sym slot;
  }

  -- and the entry of the page is equal, with its slot written
  own_merged : (j : ℕ) → slice_index held.entries j ≡ p → slot_page held.page_size (new (delta_name held.name)) j ≡ bytes → IsMerged held new j
  own_merged j is slot = record {
    later = λ zero_.
        ap (λ (x : Image). drop 64 (page_at x 0)) image_now ∙ ap (λ n. drop 64 (page_at (written_at (image_size image) (p, bytes) image) n)) (sym zero_ ∙ is)
        ∙ ap (drop 64) (written_same (image_size image) p bytes image) ∙ sym (ap (drop 64) slot);
    same = λ above.
        ap (λ (x : List ℕ). page_in held.page_size x (slice_index held.entries j)) put_is ∙ ap (page_in held.page_size _) is
        ∙ put_here held.page_size (bytes_of (old held.name)) p bytes (may_.long ∙ size) ∙ sym slot;
  }

-- A page write in the merge state, with the main file's page and, where it has an entry, its slot.
module _ (old new : World) (held : Held) (t : Trail) (p : ℕ) (bytes : Page) (is : IsWrite t p bytes) (seen : IsSeen old held.name t) (merges : image_state t.base.image ≡ merge_state)
    (entries : t.base.diverted ≡ held.entries) (size : held.page_size ≡ image_size t.base.image) (sized : IsTrue (is_page_size held.page_size))
    (put : new.files held.name ≡ with_page_at (old.files held.name) (p * length bytes) bytes) where
  abbrev h : Holds t.base (old.files held.name) (old.files (delta_name held.name))
  h = holds held.name t.base (old.files held.name) (old.files (delta_name held.name)) seen.shows

  size_is : image_size (holds held.name t.base (old.files held.name) (old.files (delta_name held.name)) seen.shows).main ≡ held.page_size
  size_is = sym (base-size t.base (old.files held.name) (old.files (delta_name held.name)) (holds held.name t.base (old.files held.name) (old.files (delta_name held.name)) seen.shows)) ∙ sym size

  apart : IsDistinct nat_eq held.entries
  apart =
      let state : image_state h.main ≡ merge_state = sym (base-state t.base (old.files held.name) (old.files (delta_name held.name)) h) ∙ merges in
      table_apart held.page_size (old.files (delta_name held.name)) held.entries sized
      (subst (λ (x : List ℕ). HasTable held.page_size (old.files (delta_name held.name)) x) entries (subst (λ n. HasTable n (old.files (delta_name held.name)) t.base.diverted) size_is (h.entries.some (omega (arith, state)))))

  pub plain_merged : entry_for p held.entries ≡ None → new.files (delta_name held.name) ≡ old.files (delta_name held.name) → (k : ℕ) → AreMerged old held k → AreMerged new held k
  plain_merged none beside k merged j low inside =
      other_merged held old.files new.files h.main p bytes h.has (may t p bytes is t.base (itself_firm t) (old.files held.name) (old.files (delta_name held.name)) h) size_is put j
      (λ same. none_there (sym none ∙ ap (λ n. entry_for n held.entries) (sym same) ∙ entry_named held.entries j apart inside))
      (ap (λ (f : File). slot_page held.page_size f j) beside) (merged j low inside)

  pub both_merged : (i : ℕ) → entry_for p held.entries ≡ Some i → SlotPut held.page_size i bytes (old.files (delta_name held.name)) (new.files (delta_name held.name)) → (k : ℕ) → AreMerged old held k → AreMerged new held k
  both_merged i at slot k merged j low inside = elim (eqb_tells (slice_index held.entries j) p) [
    | inl w ↦
        let same : j ≡ i = some_same {X = ℕ} _ _ (sym (entry_named held.entries j apart inside) ∙ ap (λ n. entry_for n held.entries) w.1 ∙ at) in
        own_merged held old.files new.files h.main p bytes h.has (may t p bytes is t.base (itself_firm t) (old.files held.name) (old.files (delta_name held.name)) h) size_is put j w.1
        (ap (slot_page held.page_size (new.files (delta_name held.name))) same ∙ slot.slot)
    | inr w ↦
        other_merged held old.files new.files h.main p bytes h.has (may t p bytes is t.base (itself_firm t) (old.files held.name) (old.files (delta_name held.name)) h) size_is put j w.1
        (slot.others j (λ same. w.1 (ap (λ n. slice_index held.entries n) same ∙ named i at))) (merged j low inside)
  ]
    where
      named : (i : ℕ) → entry_for p held.entries ≡ Some i → slice_index held.entries i ≡ p
      named i at = (Rattle.nb_base.proofs.OwnedLaws.entry_at p held.entries i at).names

-- the entries alone decide which are equal, with the name and the page size
pub merged_held : (w : World) (a b : Held) (k : ℕ) → a.name ≡ b.name → a.page_size ≡ b.page_size → a.entries ≡ b.entries → AreMerged w a k → AreMerged w b k
merged_held w a b k name size entries merged =
    subst (λ (h : Held). AreMerged w h k) (λ i. record { name = name i; page_size = size i; state = b.state; forced = b.forced; count = b.count; main_count = b.main_count; entries = entries i; drafted = b.drafted }) merged_
  where
    merged_ : AreMerged w (record { name = a.name; page_size = a.page_size; state = b.state; forced = b.forced; count = b.count; main_count = b.main_count; entries = a.entries; drafted = b.drafted }) k
    merged_ j low inside = record { later = (merged j low inside).later; same = (merged j low inside).same }

-- The same by what each call of a write tells.
module _ (old : World) (held : Held) (t : Trail) (p : ℕ) (bytes : Page) (is : IsWrite t p bytes) (seen : IsSeen old held.name t) (merges : image_state t.base.image ≡ merge_state)
    (entries : t.base.diverted ≡ held.entries) (name dname : List ℕ) (size : ℕ) (named : held.name ≡ name) (sized : held.page_size ≡ size) (beside : dname ≡ delta_name name)
    (long : length bytes ≡ size) (is_size : IsTrue (is_page_size (length bytes))) where
  size_same : held.page_size ≡ image_size t.base.image
  size_same = sized ∙ sym long ∙ is.long

  size_one : IsTrue (is_page_size held.page_size)
  size_one = subst (λ n. IsTrue (is_page_size n)) (long ∙ sym sized) is_size

  -- the main file reads so
  main_reads : (mid new : World) → new.files ≡ with_file mid.files name (with_page_at (mid.files name) (p * length bytes) bytes) → mid.files name ≡ old.files name → new.files held.name ≡ with_page_at (old.files held.name) (p * length bytes) bytes
  main_reads mid new put same =
      ap new.files named ∙ ap (λ (f : Files). f name) put ∙ with_file-same mid.files name _ ∙ ap (λ (f : File). with_page_at f (p * length bytes) bytes) same
      ∙ ap (λ (n : List ℕ). with_page_at (old.files n) (p * length bytes) bytes) (sym named)

  delta_reads : (mid new : World) → new.files ≡ with_file mid.files name (with_page_at (mid.files name) (p * length bytes) bytes) → new.files (delta_name held.name) ≡ mid.files (delta_name held.name)
  delta_reads mid new put =
      ap (λ (n : List ℕ). new.files (delta_name n)) named ∙ ap (λ (f : Files). f (delta_name name)) put ∙ with_file-other mid.files name _ (delta_name name) (delta_apart name)
      ∙ ap (λ (n : List ℕ). mid.files (delta_name n)) (sym named)

  pub plain_after : (new : World) → entry_for p held.entries ≡ None → new.files ≡ with_file old.files name (with_page_at (old.files name) (p * length bytes) bytes) → (k : ℕ) → AreMerged old held k → AreMerged new held k
  plain_after new none put k merged =
      plain_merged old new held t p bytes is seen merges entries size_same size_one (main_reads old new put refl) none (delta_reads old new put) k merged

  pub both_after : (mid new : World) (i : ℕ) → entry_for p held.entries ≡ Some i → ((m : List ℕ) → m ≢ dname → mid.files m ≡ old.files m) → SlotPut size i bytes (old.files dname) (mid.files dname)
      → new.files ≡ with_file mid.files name (with_page_at (mid.files name) (p * length bytes) bytes) → (k : ℕ) → AreMerged old held k → AreMerged new held k
  both_after mid new i at others slot put k merged =
      let apart_ : name ≢ dname = λ e. main_apart name (e ∙ beside) in
      let where_ : dname ≡ delta_name held.name = beside ∙ ap delta_name (sym named) in
      let slot_ : SlotPut held.page_size i bytes (old.files (delta_name held.name)) (mid.files (delta_name held.name)) =
      subst (λ n. SlotPut n i bytes (old.files (delta_name held.name)) (mid.files (delta_name held.name))) (sym sized) (subst (λ (d : List ℕ). SlotPut size i bytes (old.files d) (mid.files d)) where_ slot) in
      both_merged old new held t p bytes is seen merges entries size_same size_one (main_reads mid new put (others name apart_)) i at
      (subst (λ (f : File). SlotPut held.page_size i bytes (old.files (delta_name held.name)) f) (sym (delta_reads mid new put)) slot_) k merged
