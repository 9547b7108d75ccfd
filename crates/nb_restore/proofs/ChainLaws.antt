-- What the files of an accepted chain are: level 0, and the level files after it.
use Rattle.std.proofs.Common.{◌≡◌, ◌≢◌, ℕ, zero, suc, ◌+◌, ◌*◌, ◌<◌, ◌≤◌, List, [], ◌∷◌, length, take, drop, get_or, refl, sym, ap, subst, ◌∙◌, arith, Bool, true, false, not, ◌==◌, Some, None, Result, Ok, Err, Contains}
use Rattle.nb_restore.proofs.Common.{eqb-true, take-take, number_in, is_free_file, is_header, signature, state_of, size_of, is_header-take, number_in-take, stalled_state, File, Files, same_name, Refusal, NoFile, BadLevel, ChainLevel, ChainGuid, ChainSize, ChainScn, Page, first_page, Cause, first_cause, when, Head, Contents, begins_level, joined, read_level, Link, level_link, whole_link, is_bad_length, not_whole, first_link, not_behind, next_link, linked, next_links, verdict, IsOfSize, page-joined, IsSource, AreSources, ok_same, err_not_ok, some_none}
use Rattle.std.specs.Cmp.Lexicographic.{told_text}
use Rattle.nb_model.proofs.FreeLaws.{free_no_level, free_header}
use Rattle.nb_model.proofs.PutSound.{no_first, not_when}
use Rattle.nb_model.proofs.TurnCases.{is_so}

-- what the head of a level file in place k names of the file before it
pub record GoesBehind (k : ℕ) (last : Link) (h : Head) : Type 0 where
  pub level : h.level ≡ k
  pub previous : h.previous ≡ last.guid
  pub size : h.size ≡ last.size
  pub previous_scn : h.previous_scn ≡ last.scn

pub goes_behind : (k : ℕ) (last : Link) (name : List ℕ) (c : Contents) → not_behind k last name c ≡ None → GoesBehind k last c.head
unfolding not_behind
goes_behind k last name c none =
    let level = no_first _ _ none in
    let guid = no_first _ _ level.1 in
    let size = no_first _ _ guid.1 in
    let scn = no_first _ _ size.1 in
    record {
      level = eqb-true c.head.level k (is_so (c.head.level == k) (ChainLevel name c.head.level k) level.0);
      previous = told_text c.head.previous last.guid true (sym (is_so (same_name c.head.previous last.guid) (ChainGuid name c.head.previous last.guid) guid.0));
      size = eqb-true c.head.size last.size (is_so (c.head.size == last.size) (ChainSize name c.head.size last.size) size.0);
      previous_scn = eqb-true c.head.previous_scn last.scn (is_so (c.head.previous_scn == last.scn) (ChainScn name c.head.previous_scn last.scn) scn.0);
    }

-- the file after another is a level file
pub record IsLevelFile (k : ℕ) (last : Link) (bytes : List ℕ) (l : Link) : Type 0 where
  pub contents : Contents
  pub read : read_level bytes ≡ Ok contents
  pub behind : GoesBehind k last contents.head
  pub is : l ≡ level_link contents

level_file : (k : ℕ) (last : Link) (name bytes : List ℕ) (l : Link) → next_link k last name bytes ≡ Ok l → IsLevelFile k last bytes l
unfolding next_link
level_file k last name bytes l e = by (begins_level bytes) (number_in 16 4 bytes == signature) (read_level bytes) refl e
  where
    behind : (c : Contents) → read_level bytes ≡ Ok c → (cause : Cause) → not_behind k last name c ≡ cause
        → elim cause as (λ x. Result Link Refusal) [ Some refusal ↦ Err refusal | None ↦ Ok (level_link c) ] ≡ Ok l → IsLevelFile k last bytes l
    behind c read (Some r) is h = absurd (err_not_ok r l (Err r) refl h)
    behind c read None is h = record { contents = c; read = read; behind = goes_behind k last name c is; is = ok_same l (level_link c) (Ok (level_link c)) h refl }

    by : (begins signed : Bool) (r : Result Contents ℕ) → read_level bytes ≡ r
        → elim begins as (λ x. Result Link Refusal) [
          | false ↦ elim signed as (λ x. Result Link Refusal) [ true ↦ Err (ChainLevel name 0 k) | false ↦ Err (BadLevel name 0) ]
          | true ↦ elim r as (λ x. Result Link Refusal) [
            | Err at ↦ Err (BadLevel name at)
            | Ok c ↦ elim (not_behind k last name c) as (λ x. Result Link Refusal) [ Some refusal ↦ Err refusal | None ↦ Ok (level_link c) ]
          ]
        ] ≡ Ok l → IsLevelFile k last bytes l
    by false true r is h = absurd (err_not_ok (ChainLevel name 0 k) l (Err (ChainLevel name 0 k)) refl h)
    by false false r is h = absurd (err_not_ok (BadLevel name 0) l (Err (BadLevel name 0)) refl h)
    by true signed (Err at) is h = absurd (err_not_ok (BadLevel name at) l (Err (BadLevel name at)) refl h)
    by true signed (Ok c) is h = behind c is (not_behind k last name c) refl h

-- links with one before them
record IsLinked (l : Link) (links : List Link) (rest : Result (List Link) Refusal) : Type 0 where
  more : List Link
  all : links ≡ l ∷ more
  is : rest ≡ Ok more

linked_parts : (l : Link) (links : List Link) (rest : Result (List Link) Refusal) → linked l rest ≡ Ok links → IsLinked l links rest
linked_parts l links (Ok more) e = record { more = more; all = ok_same links (l ∷ more) (Ok (l ∷ more)) e refl; is = refl }
linked_parts l links (Err r) e = absurd (err_not_ok r links (Err r) refl e)

-- the files after another begin with a level file
pub record IsNextSplit (files : Files) (k : ℕ) (last : Link) (name : List ℕ) (names : List (List ℕ)) (links : List Link) : Type 0 where
  pub bytes : List ℕ
  pub there : files name ≡ Some bytes
  pub link : Link
  pub accepted : next_link k last name bytes ≡ Ok link
  pub level : IsLevelFile k last bytes link
  pub rest : List Link
  pub all : links ≡ link ∷ rest
  pub next : next_links files (k + 1) link names ≡ Ok rest

pub split_next : (files : Files) (k : ℕ) (last : Link) (name : List ℕ) (names : List (List ℕ)) (links : List Link) → next_links files k last (name ∷ names) ≡ Ok links → IsNextSplit files k last name names links
unfolding next_links
split_next files k last name names links e = by (files name) refl e
  where
    one : (bytes : List ℕ) → files name ≡ Some bytes → (answer : Result Link Refusal) → next_link k last name bytes ≡ answer
        → elim answer as (λ x. Result (List Link) Refusal) [ Err refusal ↦ Err refusal | Ok l ↦ linked l (next_links files (k + 1) l names) ] ≡ Ok links → IsNextSplit files k last name names links
    one bytes there (Err r) is h = absurd (err_not_ok r links (Err r) refl h)
    one bytes there (Ok l) is h =
        let parts = linked_parts l links (next_links files (k + 1) l names) h in
        record { bytes = bytes; there = there; link = l; accepted = is; level = level_file k last name bytes l is; rest = parts.more; all = parts.all; next = parts.is }

    by : (file : File) → files name ≡ file
        → elim file as (λ x. Result (List Link) Refusal) [
          | None ↦ Err (NoFile name)
          | Some bytes ↦ elim (next_link k last name bytes) as (λ x. Result (List Link) Refusal) [ Err refusal ↦ Err refusal | Ok l ↦ linked l (next_links files (k + 1) l names) ]
        ] ≡ Ok links → IsNextSplit files k last name names links
    by None is h = absurd (err_not_ok (NoFile name) links (Err (NoFile name)) refl h)
    by (Some bytes) is h = one bytes is (next_link k last name bytes) refl h

pub none_next : (files : Files) (k : ℕ) (last : Link) (links : List Link) → next_links files k last [] ≡ Ok links → [] ≡ links
unfolding next_links
none_next files k last links e = ok_same [] links (Ok []) refl e

module _ (files : Files) (target : List ℕ) (free : is_free_file (files target) ≡ true) where
  -- no file that is free is the target's
  free_there : (name bytes : List ℕ) → files name ≡ Some bytes → name ≡ target → is_free_file (Some bytes) ≡ true
  free_there name bytes there same = ap is_free_file (sym there ∙ ap files same) ∙ free

  source_of : (k : ℕ) (last : Link) (name bytes : List ℕ) (l : Link) (size : ℕ) → files name ≡ Some bytes → last.size ≡ size → IsLevelFile k last bytes l → IsSource files target name size l
  source_of k last name bytes l size there same is = record {
    apart = λ e. free_no_level bytes is.contents (free_there name bytes there e) is.read;
    bytes = bytes;
    there = there;
    contents = is.contents;
    read = is.read;
    pages = ap (λ (x : Link). x.pages) is.is;
    sized = ap (λ (x : Link). x.size) is.is ∙ is.behind.size ∙ same;
    same = is.behind.size ∙ same;
  }

  -- the files after level 0 are level files of its page size
  pub sources : (size k : ℕ) (last : Link) (names : List (List ℕ)) (links : List Link) → last.size ≡ size → next_links files k last names ≡ Ok links → AreSources files target names size links
  sources size k last [] links same e = subst (λ (ls : List Link). AreSources files target [] size ls) (none_next files k last links e) tt
  sources size k last (name ∷ names) links same e =
      let n = split_next files k last name names links e in
      let source : IsSource files target name size n.link = source_of k last name n.bytes n.link size n.there same n.level in
      subst (λ (ls : List Link). AreSources files target (name ∷ names) size ls) (sym n.all) (source, sources size (k + 1) n.link names n.rest source.sized n.next)

-- an accepted chain begins with level 0
pub record IsSplit (files : Files) (name : List ℕ) (others : List (List ℕ)) (links : List Link) : Type 0 where
  pub bytes : List ℕ
  pub there : files name ≡ Some bytes
  pub first : Link
  pub accepted : first_link name bytes ≡ Ok first
  pub rest : List Link
  pub all : links ≡ first ∷ rest
  pub next : next_links files 1 first others ≡ Ok rest

pub split_chain : (files : Files) (name : List ℕ) (others : List (List ℕ)) (links : List Link) → verdict files (name ∷ others) ≡ Ok links → IsSplit files name others links
unfolding verdict
split_chain files name others links e = by (files name) refl e
  where
    one : (bytes : List ℕ) → files name ≡ Some bytes → (answer : Result Link Refusal) → first_link name bytes ≡ answer
        → elim answer as (λ x. Result (List Link) Refusal) [ Err refusal ↦ Err refusal | Ok l ↦ linked l (next_links files 1 l others) ] ≡ Ok links → IsSplit files name others links
    one bytes there (Err r) is h = absurd (err_not_ok r links (Err r) refl h)
    one bytes there (Ok l) is h =
        let parts = linked_parts l links (next_links files 1 l others) h in
        record { bytes = bytes; there = there; first = l; accepted = is; rest = parts.more; all = parts.all; next = parts.is }

    by : (file : File) → files name ≡ file
        → elim file as (λ x. Result (List Link) Refusal) [
          | None ↦ Err (NoFile name)
          | Some bytes ↦ elim (first_link name bytes) as (λ x. Result (List Link) Refusal) [ Err refusal ↦ Err refusal | Ok l ↦ linked l (next_links files 1 l others) ]
        ] ≡ Ok links → IsSplit files name others links
    by None is h = absurd (err_not_ok (NoFile name) links (Err (NoFile name)) refl h)
    by (Some bytes) is h = one bytes is (first_link name bytes) refl h

-- level 0 is a database in the stalled state
pub record IsCopy (bytes : List ℕ) (l : Link) : Type 0 where
  pub is : l ≡ whole_link bytes
  pub header : is_header bytes ≡ true
  pub stalled : state_of bytes ≡ stalled_state
  pub whole : is_bad_length bytes ≡ false

whole_parts : (name bytes : List ℕ) → not_whole name bytes ≡ None → (is_header bytes ≡ true) × (state_of bytes ≡ stalled_state) × (is_bad_length bytes ≡ false)
unfolding not_whole
whole_parts name bytes e = by (is_header bytes) refl e
  where
    by : (header : Bool) → is_header bytes ≡ header
        → elim header as (λ x. Cause) [
          | false ↦ Some (BadLevel name 0)
          | true ↦ first_cause (when (not (state_of bytes == stalled_state)) (BadLevel name 22) ∷ when (is_bad_length bytes) (BadLevel name (length bytes)) ∷ [])
        ] ≡ None → (is_header bytes ≡ true) × (state_of bytes ≡ stalled_state) × (is_bad_length bytes ≡ false)
    by false is h = absurd (some_none (BadLevel name 0) h)
    by true is h =
        let state = no_first _ _ h in
        let long = no_first _ _ state.1 in
        (is, eqb-true (state_of bytes) 1 (is_so (state_of bytes == stalled_state) (BadLevel name 22) state.0), not_when (is_bad_length bytes) (BadLevel name (length bytes)) long.0)

pub copy_of : (name bytes : List ℕ) (l : Link) → first_link name bytes ≡ Ok l → IsCopy bytes l
unfolding first_link
copy_of name bytes l e = by (begins_level bytes) (read_level bytes) (not_whole name bytes) refl e
  where
    by : (begins : Bool) (r : Result Contents ℕ) (cause : Cause) → not_whole name bytes ≡ cause
        → elim begins as (λ x. Result Link Refusal) [
          | true ↦ elim r as (λ x. Result Link Refusal) [ Err at ↦ Err (BadLevel name at) | Ok c ↦ Err (ChainLevel name c.head.level 0) ]
          | false ↦ elim cause as (λ x. Result Link Refusal) [ Some refusal ↦ Err refusal | None ↦ Ok (whole_link bytes) ]
        ] ≡ Ok l → IsCopy bytes l
    by true (Err at) cause is h = absurd (err_not_ok (BadLevel name at) l (Err (BadLevel name at)) refl h)
    by true (Ok c) cause is h = absurd (err_not_ok (ChainLevel name c.head.level 0) l (Err (ChainLevel name c.head.level 0)) refl h)
    by false r (Some refusal) is h = absurd (err_not_ok refusal l (Err refusal) refl h)
    by false r None is h = let parts = whole_parts name bytes is in record { is = ok_same l (whole_link bytes) (Ok (whole_link bytes)) h refl; header = parts.0; stalled = parts.1; whole = parts.2 }

-- so its name isn't free
pub copy_apart : (files : Files) (target name bytes : List ℕ) (l : Link) → is_free_file (files target) ≡ true → files name ≡ Some bytes → IsCopy bytes l → name ≢ target
copy_apart files target name bytes l free there copy same = let applying = (free_header bytes (free_there files target free name bytes there same) copy.header).0 in absurd (omega (arith, applying, copy.stalled))

-- its page 0 has the header of the file
module _ (size : ℕ) (bytes : List ℕ) (pages : List Page) (is : bytes ≡ joined pages) (sizes : IsOfSize size pages) (some : 1 ≤ length pages) (wide : 64 ≤ size) where
  page_0_is : first_page pages ≡ take size bytes
  page_0_is =
      sym (page-joined size 0 pages sizes (omega (arith, some))) ∙ ap (λ i. take size (drop i (joined pages))) (let e : 0 * size ≡ 0 = omega arith in e) ∙ ap (take size) (sym is)

  front : take 64 (first_page pages) ≡ take 64 bytes
  front = ap (take 64) page_0_is ∙ take-take 64 size bytes wide

  pub page_0_header : is_header (first_page pages) ≡ is_header bytes
  page_0_header = sym (is_header-take (first_page pages)) ∙ ap is_header front ∙ is_header-take bytes

  pub page_0_size : size_of (first_page pages) ≡ size_of bytes
  page_0_size = sym (number_in-take 64 24 4 (first_page pages) (omega arith)) ∙ ap (λ (x : List ℕ). number_in 24 4 x) front ∙ number_in-take 64 24 4 bytes (omega arith)

-- none of the files is the target
pub others_apart : (files : Files) (target : List ℕ) (size : ℕ) (names : List (List ℕ)) (links : List Link) → AreSources files target names size links → (k : ℕ) (name : List ℕ) → k < length names → get_or names k name ≡ name → name ≢ target
others_apart files target size [] links sources k name below is = absurd (omega (arith, below))
others_apart files target size (n ∷ names) [] sources k name below is = absurd sources
others_apart files target size (n ∷ names) (l ∷ ls) sources zero name below is = λ same. sources.0.apart (is ∙ same)
others_apart files target size (n ∷ names) (l ∷ ls) sources (suc k) name below is = others_apart files target size names ls sources.1 k name (omega (arith, below)) is

pub all_apart : (files : Files) (target : List ℕ) (size : ℕ) (level_0 : List ℕ) (names : List (List ℕ)) (links : List Link) → level_0 ≢ target → AreSources files target names size links → (name : List ℕ) → Contains (level_0 ∷ names) name → name ≢ target
all_apart files target size level_0 names links first sources name (zero, below, is) = λ same. first (is ∙ same)
all_apart files target size level_0 names links first sources name (suc k, below, is) = others_apart files target size names links sources k name (omega (arith, below)) is
