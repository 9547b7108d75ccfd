-- An SCN inventory page, read as its list of entries.
use Rattle.std.proofs.Common.{◌≡◌, ◌≢◌, ℕ, ◌<◌, inl, inr, List, length, get_or, replicate, sym, ap, ◌∙◌, arith}
use Rattle.nb_scn.proofs.Common.{set, cases_eq, cases_lt, length-set, get_or-set_other, length-replicate, get_or-replicate, AreApart, entries_in, entry_of, entries, entry_place}
use Rattle.std.proofs.lemmas.Grind.{same_number_lists, get_or-set_at}
use Rattle.std.proofs.lemmas.List.FromFn.{length-map-range_with_len, get_or-map-range_with_len}

pub length-entries : (page : List ℕ) → length (entries page) ≡ entries_in (length page)
unfolding entries
length-entries page = length-map-range_with_len (entry_of page) 0 (entries_in (length page))

-- the list of entries, read at one place
pub get_or-entries : (page : List ℕ) (k : ℕ) → k < entries_in (length page) → get_or (entries page) k 0 ≡ entry_of page k
unfolding entries
get_or-entries page k h = get_or-map-range_with_len (entry_of page) 0 (entries_in (length page)) k k 0 h (omega arith)

-- two entries share no byte
pub are_apart : (index k : ℕ) → k ≢ index → AreApart (entry_place index) 4 (entry_place k) 4
are_apart index k other = elim (cases_lt k index) [
  | inl before ↦ inr (omega arith)
  | inr behind ↦ inl (omega arith)
]

-- where one entry changes, so does the list at one place
pub entries-set : (old new : List ℕ) (index v : ℕ) → length new ≡ length old → index < entries_in (length old) → entry_of new index ≡ v → ((k : ℕ) → k ≢ index → entry_of new k ≡ entry_of old k) → entries new ≡ set (entries old) index v
entries-set old new index v size inside here others =
    let count : length (entries new) ≡ entries_in (length old) = length-entries new ∙ ap entries_in size in
    same_number_lists (entries new) (set (entries old) index v)
    (count ∙ sym (length-set (entries old) index v ∙ length-entries old))
    (λ k h. get_or-entries new k (omega (arith, length-entries new)) ∙ elim (cases_eq k index) [
      | inl e ↦ ap (entry_of new) e ∙ here ∙ sym (get_or-set_at (entries old) index k v 0 e (omega (arith, length-entries old)))
      | inr ne ↦ others k ne ∙ sym (get_or-set_other (entries old) index k v 0 ne ∙ get_or-entries old k (omega arith))
    ])

-- where each entry is the same, the list is so many of it
pub entries-replicate : (page : List ℕ) (v : ℕ) → ((k : ℕ) → k < entries_in (length page) → entry_of page k ≡ v) → entries page ≡ replicate (entries_in (length page)) v
entries-replicate page v each =
    let n : ℕ = entries_in (length page) in
    same_number_lists (entries page) (replicate n v) (length-entries page ∙ sym (length-replicate n v))
    (λ k h. let inside : k < n = omega (arith, length-entries page) in get_or-entries page k inside ∙ each k inside ∙ sym (get_or-replicate n k v 0 inside))
