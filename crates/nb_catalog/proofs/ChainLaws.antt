-- The line of each restore point is a chain.
use Rattle.std.proofs.Common.{◌≡◌, ℕ, zero, suc, ◌+◌, ◌<◌, List, [], ◌∷◌, ◌++◌, length, map, refl, sym, ap, subst, ◌∙◌, arith, append_assoc, true, Option, Some, None, Ok, is_some, Contains}
use Rattle.nb_catalog.proofs.Common.{slice_index_or, append-nil, map-append, get_or-map, position-Some, Files, Link, first_link, next_link, next_links, linked, verdict, LevelHead, Entry, whole_head, read_files, is_parent, parent, parents_of, line_at, entries_of, line, is_point, points, names_at, IsChained}
use Rattle.nb_catalog.proofs.InLaws.{in_from, in_filter}
use Rattle.nb_catalog.proofs.EntryLaws.{entry_at, in_entries}
use Rattle.nb_catalog.proofs.LineLaws.{line_split, length-line}
use Rattle.nb_catalog.proofs.ReadLaws.{IsRead, is_read, each_read, parent_level}
use Rattle.nb_model.proofs.ChainLaws.{none_left}
use Rattle.nb_model.proofs.WholeLaws.{verdict_there}

-- a file after another in a chain
next_there : (files : Files) (k : ℕ) (last l : Link) (name bytes : List ℕ) (names : List (List ℕ)) → files name ≡ Some bytes → next_link k last name bytes ≡ Ok l → next_links files k last (name ∷ names) ≡ linked l (next_links files (k + 1) l names)
unfolding next_links
next_there files k last l name bytes names there accepted = rw (there, next_links) (rw (accepted, next_links) refl)

-- with it the chain goes on
goes_on : (files : Files) (level : ℕ) (before l : Link) (name bytes : List ℕ) (behind : List (List ℕ)) (ls : List Link) → files name ≡ Some bytes → next_link (level + 1) before name bytes ≡ Ok l
    → next_links files (suc level + 1) l behind ≡ Ok ls → next_links files (level + 1) before (name ∷ behind) ≡ Ok (l ∷ ls)
goes_on files level before l name bytes behind ls there accepted next =
    let same : level + 1 + 1 ≡ suc level + 1 = omega arith in
    next_there files (level + 1) before l name bytes behind there accepted ∙ ap (λ (k : ℕ). linked l (next_links files k l behind)) same ∙ ap (linked l) next

-- the names of a line, and those after
names_joined : (names : List (List ℕ)) (l front : List ℕ) (place : ℕ) (behind : List (List ℕ)) → l ≡ front ++ place ∷ [] → names_at names l ++ behind ≡ names_at names front ++ (slice_index_or names place [] ∷ behind)
names_joined names l front place behind is =
    let f : ℕ → List ℕ = λ p. slice_index_or names p [] in
    ap (λ (ps : List ℕ). names_at names ps ++ behind) is ∙ ap (λ (ns : List (List ℕ)). ns ++ behind) (map-append f front (place ∷ [])) ∙ append_assoc (map f front) (f place ∷ []) behind

-- the first file, and those after
begins_with : (files : Files) (names : List (List ℕ)) (l : List ℕ) (place : ℕ) (bytes : List ℕ) (link : Link) (behind : List (List ℕ)) (ls : List Link) → place ∷ [] ≡ l → files (slice_index_or names place []) ≡ Some bytes
    → first_link (slice_index_or names place []) bytes ≡ Ok link → next_links files 1 link behind ≡ Ok ls → verdict files (names_at names l ++ behind) ≡ Ok (link ∷ ls)
begins_with files names l place bytes link behind ls same there accepted next =
    ap (λ (ps : List ℕ). verdict files (names_at names ps ++ behind)) (sym same) ∙ verdict_there files (slice_index_or names place []) behind bytes link there accepted ∙ ap (linked link) next

module _ (files : Files) (names : List (List ℕ)) (heads : List LevelHead) (read : read_files files names ≡ Ok heads) where
  abbrev head : ℕ → LevelHead
  head p = slice_index_or heads p (whole_head [])

  abbrev name : ℕ → List ℕ
  name p = slice_index_or names p []

  file_at : (p : ℕ) → p < length heads → IsRead (name p) (files (name p)) (head p)
  file_at p there = is_read (name p) (files (name p)) (head p) (each_read files names heads read p [] (whole_head []) there)

  -- the parent stands in the list, and the file goes on from it
  record IsParent (place above : ℕ) : Type 0 where
    pub there : above < length heads
    pub parent : is_parent (head place) (head above) ≡ true

  parent_is : (place above : ℕ) → place < length heads → slice_index_or (parents_of heads) place None ≡ Some above → IsParent place above
  parent_is place above within is =
      let found : parent heads (head place) ≡ Some above = sym (get_or-map (parent heads) heads place (whole_head []) None within) ∙ is in
      let parts = position-Some (is_parent (head place)) heads above (whole_head []) found in
      record { there = parts.0; parent = parts.1 }

  -- The line of a file is a chain where what stands after the file goes on from it.
  chain_from : (level place : ℕ) (l : List ℕ) → line_at (parents_of heads) level place ≡ Some l → (within : place < length heads) → (head place).level ≡ level → (behind : List (List ℕ)) (ls : List Link)
      → next_links files (level + 1) (file_at place within).link behind ≡ Ok ls → (links : List Link) × (verdict files (names_at names l ++ behind) ≡ Ok links)
  unfolding line_at
  chain_from zero place l lined within level behind ls next =
      let is = file_at place within in
      (is.link ∷ ls, begins_with files names l place is.bytes is.link behind ls (cc lined) is.there (is.first level) next)
  chain_from (suc level) place l lined within leveled behind ls next =
      let parts = line_split (parents_of heads) level place l lined in
      let goes = parent_is place parts.0 within parts.2 in
      let is = file_at place within in
      let before = file_at parts.0 goes.there in
      let low : (head parts.0).level ≡ level = omega (arith, parent_level (head place) (head parts.0) goes.parent, leveled) in
      let here : (head place).level ≡ level + 1 = omega (arith, leveled) in
      let accepted = subst (λ (k : ℕ). next_link k before.link (name place) is.bytes ≡ Ok is.link) here (is.next before.link (head parts.0) before.same goes.parent) in
      let further = goes_on files level before.link is.link (name place) is.bytes behind ls is.there accepted next in
      let found = chain_from level parts.0 parts.1 parts.3 goes.there low (name place ∷ behind) (is.link ∷ ls) further in
      (found.0, ap (verdict files) (names_joined names l parts.1 place behind parts.4) ∙ found.1)

  some_line : (o : Option (List ℕ)) → is_some o ≡ true → (l : List ℕ) × (o ≡ Some l)
  some_line None is = absurd (cc is)
  some_line (Some l) is = (l, refl)

  at_entry : (i : ℕ) → i < length heads → is_point heads (entry_at i (head i)) ≡ true → IsChained files names heads (entry_at i (head i))
  at_entry i within lined =
      let found = some_line (line heads (entry_at i (head i))) lined in
      let is = file_at i within in
      let chain = chain_from (head i).level i found.0 found.1 within refl [] [] (none_left files ((head i).level + 1) is.link) in
      let long = length-line (parents_of heads) (head i).level i found.0 found.1 in
      record {
        chain = found.0;
        is = found.1;
        links = chain.0;
        accepted = ap (verdict files) (sym (append-nil (names_at names found.0))) ∙ chain.1;
        most = omega (arith, long, is.low);
      }

  pub points_chained : (e : Entry) → Contains (points heads) e → IsChained files names heads e
  points_chained e is =
      let kept = in_filter (is_point heads) (entries_of heads) e (in_from (points heads) e is) in
      let found = in_entries 0 heads e (whole_head []) kept.0 in
      let here : entry_at found.0 (head found.0) ≡ e = ap (λ (k : ℕ). entry_at k (head found.0)) (omega arith) ∙ found.2 in
      subst (λ (x : Entry). IsChained files names heads x) here (at_entry found.0 found.1 (ap (is_point heads) here ∙ kept.1))
