-- The files of a catalogue with their places.
use Rattle.std.proofs.Common.{◌≡◌, inl, inr, ℕ, suc, ◌+◌, ◌<◌, ◌≤◌, List, [], ◌∷◌, ◌++◌, length, drop, refl, sym, ap, ◌∙◌, arith, append_assoc}
use Rattle.nb_catalog.proofs.Common.{slice_index_or, append-nil, at_drop_more, at_drop_all, LevelHead, Entry, entries_from, entries_of}
use Rattle.nb_catalog.proofs.InLaws.{In}

abbrev pub entry_at : ℕ → LevelHead → Entry
entry_at n h = record { place = n; level = h.level; scn = h.scn }

first_entry : (n : ℕ) (h : LevelHead) (hs : List LevelHead) → entries_from n (h ∷ hs) ≡ entry_at n h ∷ entries_from (n + 1) hs
unfolding entries_from
first_entry n h hs = refl

no_entries : (n : ℕ) → entries_from n [] ≡ []
unfolding entries_from
no_entries n = refl

-- one file more
pub entries_more : (heads : List LevelHead) (done new : List Entry) (n : ℕ) (d : LevelHead) → n < length heads → done ++ entries_from n (drop n heads) ≡ entries_of heads
    → new ≡ done ++ entry_at n (slice_index_or heads n d) ∷ [] → new ++ entries_from (n + 1) (drop (n + 1) heads) ≡ entries_of heads
entries_more heads done new n d there so_far is =
    let h = slice_index_or heads n d in
    let rest = entries_from (n + 1) (drop (n + 1) heads) in
    ap (λ (es : List Entry). es ++ rest) is ∙ append_assoc done (entry_at n h ∷ []) rest
    ∙ ap (λ (es : List Entry). done ++ es) (sym (at_drop_more (entries_from n) heads n d there ∙ first_entry n h (drop (n + 1) heads))) ∙ so_far

-- all of them
pub entries_all : (heads : List LevelHead) (done : List Entry) (n : ℕ) → length heads ≤ n → done ++ entries_from n (drop n heads) ≡ entries_of heads → done ≡ entries_of heads
entries_all heads done n end so_far = sym (append-nil done) ∙ ap (λ (es : List Entry). done ++ es) (sym (at_drop_all (entries_from n) heads n end ∙ no_entries n)) ∙ so_far

-- there are as many as files
pub length-entries : (n : ℕ) (heads : List LevelHead) → length (entries_from n heads) ≡ length heads
unfolding entries_from
length-entries n [] = refl
length-entries n (h ∷ hs) = ap suc (length-entries (n + 1) hs)

-- each is a file in its place
pub in_entries : (n : ℕ) (heads : List LevelHead) (e : Entry) (d : LevelHead) → In (entries_from n heads) e → (i : ℕ) × (i < length heads) × (entry_at (n + i) (slice_index_or heads i d) ≡ e)
unfolding entries_from
in_entries n [] e d is = absurd is
in_entries n (h ∷ hs) e d (inl same) = (0, omega arith, ap (λ (k : ℕ). entry_at k h) (omega arith) ∙ same)
in_entries n (h ∷ hs) e d (inr is) =
    let found = in_entries (n + 1) hs e d is in
    (suc found.0, omega (arith, found.1), ap (λ (k : ℕ). entry_at k (slice_index_or hs found.0 d)) (omega arith) ∙ found.2)
