-- Bringing the entries that wait into the table: what the two steps of it leave, by the groups that were computed.
use Rattle.std.proofs.Common.{◌≡◌, inl, inr, ℕ, ◌+◌, ◌-◌, ◌*◌, ◌/◌, ◌<◌, List, length, subst, IsTrue}
use Rattle.nb_delta.proofs.Common.{IsDurable, File, World, is_page_size, slots_in, Only, Changes, Moved, moved_weaker, moved_joined, durable_is, AreEntries, HasZeros, Waits, Stays, FrontStep, HasAll, Empties, NotesSome, NotesAll}
use Rattle.nb_delta.proofs.FrontLaws as front
use Rattle.nb_delta.proofs.FrontLaws.{Places, places_found, waits_long}
use Rattle.nb_delta.proofs.StepLaws.{some_slots}

module _ (size room count drafted : ℕ) (entries table waiting : List ℕ) (old : File) (is_size : IsTrue (is_page_size size)) (room_is : room ≡ slots_in size) (count_is : count ≡ length entries) (are : AreEntries entries)
    (some : 0 < drafted) (waits : Waits size entries drafted table waiting old) where
  abbrev first : ℕ
  first = (count - drafted) / room

  abbrev last : ℕ
  last = count / room

  abbrev end : ℕ
  end = (count - 1) / room + 1

  places : Places (slots_in size) (length table) (length entries) first last end
  places = places_found (slots_in size) (length entries) room count room_is count_is (length table) drafted (some_slots size is_size) some (waits_long size entries drafted table waiting old waits)

  module _ (start mid : World) (name : List ℕ) (readied : (n : ℕ) → n < (first + 1) * slots_in size → Changes start mid (Only name) (Moved start name (Stays size n))) where
    -- the pages are ready for the entries
    pub ready : Changes start mid (Only name) (Moved start name (FrontStep size table waiting old))
    ready = moved_weaker start mid (Only name) name (Stays size (length table)) (FrontStep size table waiting old) (readied (length table) places.within) (λ b c was stays. inl stays)

    -- and then some of the entries are noted; the page has the size that it had
    pub noted : (new : World) (page : ℕ) → page ≡ size → Empties size first last old (mid.files name) → IsDurable mid name (mid.files name) → Changes mid new (Only name) (Moved mid name (NotesSome page entries first end))
        → Changes start new (Only name) (Moved start name (FrontStep size table waiting old))
    noted new page same emptied durable notes =
        moved_joined start mid new name (Stays size (length table)) (NotesSome page entries first end) (FrontStep size table waiting old) (readied (length table) places.within) notes (λ b c was stays. inl stays)
        (λ b c d was left stays noting.
        let is : c ≡ mid.files name = durable_is mid name (mid.files name) durable c left in
        let from : NotesSome size entries first end (mid.files name) d = subst (λ (f : File). NotesSome size entries first end f d) is (subst (λ (n : ℕ). NotesSome n entries first end c d) same noting) in
        inr (front.fronts size is_size entries table waiting drafted first last end old (mid.files name) d are waits places emptied from))

  -- once all of them are noted
  module _ (mid new : File) (page : ℕ) (same : page ≡ size) (emptied : Empties size first last old mid) (all : NotesAll page entries first end mid new) where
    notes : NotesAll size entries first end mid new
    notes = subst (λ (n : ℕ). NotesAll n entries first end mid new) same all

    pub has_all : HasAll size entries old new
    has_all = front.has_all size is_size entries table waiting drafted first last end old mid new are waits places emptied notes.some notes

    pub zeros : HasZeros size new (length entries)
    zeros = front.zeros size is_size entries table waiting drafted first last end old mid new are waits places emptied notes.some notes.all
