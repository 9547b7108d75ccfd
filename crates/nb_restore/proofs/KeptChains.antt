-- Files that are those of a chain of kept backups are accepted. A file after them that isn't in its place, or is foreign, is refused.
use Rattle.std.proofs.Common.{◌≡◌, ◌≢◌, ℕ, ◌+◌, ◌≤◌, List, [], ◌∷◌, ◌++◌, length, refl, sym, ap, subst, ◌∙◌, arith, Bool, true, false, ◌&&◌, ◌==◌, nat_le, Option, Some, None, Ok, Err, Contains}
use Rattle.nb_restore.proofs.Common.{AllByRecursion, and_parts, number_in, header_length, is_header, is_marked, is_sound, signature, version, state_of, size_of, scn_of, Files, is_delta, Refusal, ChainLevel, ChainGuid, image_size, Ask, Kept, Account, first_cause, Contents, begins_level, read_level, file_of, taken, HoldLine, first_file, next_files, last_in, Link, level_link, whole_link, first_link, not_behind, next_link, next_links, linked, verdict, HasNoZeros, IsSoundImage, to_record, Stands, kept_accepted, step_there, eq_no, eq_yes, no_level_begins, not_level, chain_accepted, chain_gives, copy_accepted, verdict_there, first_fields, AreLinksOf, GiveLast, HoldChain, HoldLevels, HoldsCopy, HoldsLevel, IsLinkOf, next_broken, err_not_ok}
use Rattle.nb_model.proofs.SoundLaws.{kind_of_header}
use Rattle.nb_restore.proofs.AskLaws.{with_ask}
use Rattle.nb_restore.proofs.ChainLaws.{IsCopy, IsLevelFile}
use Rattle.nb_restore.proofs.KeptFirst.{HoldsKeptFirst, kept_first}
use Rattle.nb_restore.proofs.KeptNext.{HoldsKeptNext, kept_next}
use Rattle.nb_host.proofs.NameLaws.{same_other}

-- a line tells of these records, with other asks at most
abbrev AreAlike : List Kept → List Kept → Type 0
AreAlike [] [] = Unit {0}
AreAlike [] (r ∷ rs) = ⊥
AreAlike (q ∷ qs) [] = ⊥
AreAlike (q ∷ qs) (r ∷ rs) = (o : Option Ask) × (q ≡ with_ask o r) × AreAlike qs rs

-- the files of these names are those of a line after r that tells of these records
record IsHeldLine (files : Files) (k : ℕ) (r : Kept) (names : List (List ℕ)) (rs : List Kept) : Type 0 where
  line : List Kept
  alike : AreAlike line rs
  holds : HoldLine files k r names line

-- the last of it is the last of them
last_alike : (q r : Kept) (o : Option Ask) (qs rs : List Kept) → q ≡ with_ask o r → AreAlike qs rs → (a : Option Ask) × (last_in q qs ≡ with_ask a (last_in r rs))
last_alike q r o [] [] is alike = (o, is)
last_alike q r o [] (s ∷ rs) is alike = absurd alike
last_alike q r o (p ∷ qs) [] is alike = absurd alike
last_alike q r o (p ∷ qs) (s ∷ rs) is alike = last_alike p s alike.0 qs rs alike.1 alike.2

-- and its links are those of them
link_alike : (l : Link) (q r : Kept) (o : Option Ask) → q ≡ with_ask o r → IsLinkOf l q → IsLinkOf l r
link_alike l q r o is of = record { guid = of.guid ∙ ap (λ (x : Kept). x.guid) is; scn = of.scn ∙ ap (λ (x : Kept). x.scn) is; size = of.size ∙ ap (λ (x : Kept). image_size x.image) is }

links_alike : (p : Kept) (qs rs : List Kept) → AreAlike qs rs → AreLinksOf (next_files p qs) rs
unfolding next_files
links_alike p [] [] alike = tt
links_alike p [] (r ∷ rs) alike = absurd alike
links_alike p (q ∷ qs) [] alike = absurd alike
links_alike p (q ∷ qs) (r ∷ rs) alike = (link_alike _ q r alike.0 alike.1 (record { guid = refl; scn = refl; size = refl }), links_alike q qs rs alike.2)

module _ (files : Files) (account : Account) (stands : Stands files account) where
  -- a level in its place after a kept record is the file of its record
  level_held : (k : ℕ) → 1 ≤ k → (q : Kept) → Contains account.kept q → (o : Option Ask) → (name : List ℕ) → is_delta name ≡ false → (r : Kept) → HoldsLevel files account.kept k q name r → HoldsKeptNext files k (with_ask o q) name r
  level_held k some q there o name plain r holds =
      let c : Contents = holds.contents in
      let last : Link = record { guid = q.guid; scn = c.head.previous_scn; size = c.head.size; pages = [] } in
      let file : IsLevelFile k last holds.bytes (level_link c) = record { contents = c; read = holds.read; behind = record { level = holds.level; previous = holds.previous; size = refl; previous_scn = refl }; is = refl } in
      kept_next files account stands k some q there o last refl name holds.bytes holds.there (level_link c) file r holds.kept_as plain

  levels_held : (k : ℕ) → 1 ≤ k → (q : Kept) → Contains account.kept q → (o : Option Ask) → (names : List (List ℕ)) → AllByRecursion (λ (n : List ℕ). is_delta n ≡ false) names
      → (rs : List Kept) → HoldLevels files account.kept k q names rs → IsHeldLine files k (with_ask o q) names rs
  levels_held k some q there o [] plain [] holds = record { line = []; alike = tt; holds = tt }
  levels_held k some q there o [] plain (r ∷ rs) holds = absurd holds
  levels_held k some q there o (name ∷ names) plain [] holds = absurd holds
  levels_held k some q there o (name ∷ names) plain (r ∷ rs) holds =
      let next = level_held k some q there o name plain.0 r holds.0 in
      let rest = levels_held (k + 1) (omega arith) r holds.0.kept_as.there (Some next.ask) names plain.1 rs holds.1 in
      record { line = with_ask (Some next.ask) r ∷ rest.line; alike = (Some next.ask, refl, rest.alike); holds = (next.holds, rest.holds) }

  -- a copy holds the pages of its record
  copy_held : (name : List ℕ) → is_delta name ≡ false → (r : Kept) → HoldsCopy files account.kept name r → HoldsKeptFirst files name r
  copy_held name plain r holds =
      let copy : IsCopy holds.bytes (whole_link holds.bytes) = record { is = refl; header = holds.header; stalled = holds.stalled; whole = holds.whole } in
      kept_first files account stands name holds.bytes plain holds.there (whole_link holds.bytes) copy r holds.kept_as

  module _ (name : List ℕ) (names : List (List ℕ)) (r : Kept) (rs : List Kept) (chain : HoldChain files account.kept name names r rs) where
    first : HoldsKeptFirst files name r
    first = copy_held name chain.plain.0 r chain.first

    held : IsHeldLine files 1 (with_ask None r) names rs
    held = levels_held 1 (omega arith) r chain.first.kept_as.there None names chain.plain.1 rs chain.next

    abbrev none : Kept
    none = with_ask None r

    -- each record of the chain is kept
    last_there : (k : ℕ) (q : Kept) → Contains account.kept q → (ns : List (List ℕ)) (qs : List Kept) → HoldLevels files account.kept k q ns qs → Contains account.kept (last_in q qs)
    last_there k q there [] [] holds = there
    last_there k q there [] (p ∷ qs) holds = absurd holds
    last_there k q there (n ∷ ns) [] holds = absurd holds
    last_there k q there (n ∷ ns) (p ∷ qs) holds = last_there (k + 1) p holds.0.kept_as.there ns qs holds.1

    -- the link of the first
    first_is : IsLinkOf (first_file none first.zeros) r
    first_is = let same = first_fields none first.zeros in record { guid = same.0; scn = same.1; size = same.2 }

    -- it is a chain, and gives the image of its last
    pub chain_of : GiveLast files (name ∷ names) r rs
    chain_of =
        let last = last_alike none r None held.line rs refl held.alike in
        let kept : Contains account.kept (last_in r rs) = last_there 1 r chain.first.kept_as.there names rs chain.next in
        let sound : IsSoundImage (last_in r rs).image = stands.sound_images.images (last_in r rs).image (to_record (last_in r rs) kept refl) in
        let no_zeros : HasNoZeros (last_in none held.line).image = subst (λ (x : Kept). HasNoZeros x.image) (sym last.1) sound.sound.no_zeros in
        record {
          links = first_file none first.zeros ∷ next_files none held.line;
          accepted = chain_accepted files none first.zeros held.line name names first.holds held.holds;
          are = (first_is, links_alike none held.line rs held.alike);
          image = chain_gives files none first.zeros held.line name names first.holds held.holds no_zeros ∙ ap (λ (x : Kept). x.image) last.1;
        }

    -- What is refused after the last of them is refused of all.
    pub behind_refused : (refusal : Refusal) (more : List (List ℕ)) → ((l : Link) → l.guid ≡ (last_in r rs).guid → next_links files (1 + length names) l more ≡ Err refusal) → verdict files (name ∷ (names ++ more)) ≡ Err refusal
    behind_refused refusal more refused =
        let last = last_alike none r None held.line rs refl held.alike in
        verdict_there files name (names ++ more) _ (first_file none first.zeros) first.holds.is (copy_accepted files none first.zeros name first.holds)
        ∙ ap (linked (first_file none first.zeros))
        (walk 1 none (first_file none first.zeros) names held.line (first_fields none first.zeros).0 (first_fields none first.zeros).1 (first_fields none first.zeros).2 held.holds (λ l guid. refused l (guid ∙ ap (λ (x : Kept). x.guid) last.1)))
      where
        walk : (k : ℕ) (q : Kept) (l : Link) (ns : List (List ℕ)) (qs : List Kept) → l.guid ≡ q.guid → l.scn ≡ q.scn → l.size ≡ image_size q.image → HoldLine files k q ns qs
            → ((m : Link) → m.guid ≡ (last_in q qs).guid → next_links files (k + length ns) m more ≡ Err refusal) → next_links files k l (ns ++ more) ≡ Err refusal
        walk k q l [] [] eg es ez holds at_end = ap (λ n. next_links files n l more) (let e : k ≡ k + 0 = omega arith in e) ∙ at_end l eg
        walk k q l [] (p ∷ qs) eg es ez holds at_end = absurd holds
        walk k q l (n ∷ ns) [] eg es ez holds at_end = absurd holds
        walk k q l (n ∷ ns) (p ∷ qs) eg es ez holds at_end =
            let m : Link = record { guid = p.guid; scn = p.scn; size = image_size p.image; pages = taken q.scn p.image } in
            step_there files k l n (ns ++ more) (file_of holds.0.version p) m holds.0.is (kept_accepted k holds.0.version q l n p holds.0.ask eg es ez holds.0.next)
            ∙ ap (linked m) (walk (k + 1) p m ns qs refl refl refl holds.1 (λ x guid. ap (λ i. next_links files i x more) (let e : (k + 1) + length ns ≡ k + length (n ∷ ns) = omega arith in e) ∙ at_end x guid))

-- a file that is read as a level begins as one
pub level_begins : (bytes : List ℕ) (c : Contents) → read_level bytes ≡ Ok c → begins_level bytes ≡ true
level_begins bytes c read = by (begins_level bytes) refl
  where
    by : (b : Bool) → begins_level bytes ≡ b → begins_level bytes ≡ true
    by true is = is
    by false is = absurd (err_not_ok 0 c (read_level bytes) (not_level bytes is) read)

-- a level stands in the place of level 0
first_refused : (name bytes : List ℕ) (c : Contents) → begins_level bytes ≡ true → read_level bytes ≡ Ok c → first_link name bytes ≡ Err (ChainLevel name c.head.level 0)
unfolding first_link
first_refused name bytes c begins read = rw (begins, first_link) (rw (read, first_link) refl)

pub verdict_first : (files : Files) (name : List ℕ) (names : List (List ℕ)) (bytes : List ℕ) (c : Contents) → files name ≡ Some bytes → read_level bytes ≡ Ok c → verdict files (name ∷ names) ≡ Err (ChainLevel name c.head.level 0)
unfolding verdict
verdict_first files name names bytes c there read = rw (there, verdict) (rw (first_refused name bytes c (level_begins bytes c read) read, verdict) refl)

pub level_refused : (k : ℕ) (last : Link) (name bytes : List ℕ) (c : Contents) (refusal : Refusal) → begins_level bytes ≡ true → read_level bytes ≡ Ok c → not_behind k last name c ≡ Some refusal → next_link k last name bytes ≡ Err refusal
unfolding next_link
level_refused k last name bytes c refusal begins read refused = rw (begins, next_link) (rw (read, next_link) (rw (refused, next_link) refl))

-- for its level, or for the GUID that it names
pub wrong_level : (k : ℕ) (last : Link) (name : List ℕ) (c : Contents) → c.head.level ≢ k → not_behind k last name c ≡ Some (ChainLevel name c.head.level k)
unfolding not_behind first_cause
wrong_level k last name c other = rw (eq_no c.head.level k other, first_cause) refl

pub wrong_guid : (k : ℕ) (last : Link) (name : List ℕ) (c : Contents) → c.head.level ≡ k → c.head.previous ≢ last.guid → not_behind k last name c ≡ Some (ChainGuid name c.head.previous last.guid)
unfolding not_behind first_cause
wrong_guid k last name c same other = rw (eq_yes c.head.level k same, first_cause) (rw (same_other c.head.previous last.guid other, first_cause) refl)

pub level_behind : (files : Files) (k : ℕ) (last : Link) (name : List ℕ) (names : List (List ℕ)) (bytes : List ℕ) (c : Contents) (refusal : Refusal) → files name ≡ Some bytes → read_level bytes ≡ Ok c → not_behind k last name c ≡ Some refusal
    → next_links files k last (name ∷ names) ≡ Err refusal
level_behind files k last name names bytes c refusal there read refused = next_broken files k last name names bytes refusal there (level_refused k last name bytes c refusal (level_begins bytes c read) read refused)

-- pages with a header are no level, and have the signature
header_signed : (bytes : List ℕ) → is_header bytes ≡ true → (number_in 16 4 bytes == signature) ≡ true
unfolding is_header is_marked
header_signed bytes header =
    let parts = and_parts (nat_le header_length (length bytes)) (is_marked bytes && is_sound (state_of bytes) (size_of bytes) (scn_of bytes)) header in
    let marked = and_parts (is_marked bytes) (is_sound (state_of bytes) (size_of bytes) (scn_of bytes)) parts.1 in
    let three = and_parts (number_in 0 1 bytes == 1 && number_in 12 4 bytes == 0 && number_in 16 4 bytes == signature) (number_in 20 2 bytes == version) marked.0 in
    (and_parts (number_in 0 1 bytes == 1 && number_in 12 4 bytes == 0) (number_in 16 4 bytes == signature) three.0).1

pages_refused : (k : ℕ) (last : Link) (name bytes : List ℕ) → begins_level bytes ≡ false → (number_in 16 4 bytes == signature) ≡ true → next_link k last name bytes ≡ Err (ChainLevel name 0 k)
unfolding next_link
pages_refused k last name bytes begins signed = rw (begins, next_link) (rw (signed, next_link) refl)

pub copy_behind : (files : Files) (k : ℕ) (last : Link) (name : List ℕ) (names : List (List ℕ)) (bytes : List ℕ) → files name ≡ Some bytes → is_header bytes ≡ true → next_links files k last (name ∷ names) ≡ Err (ChainLevel name 0 k)
copy_behind files k last name names bytes there header =
    next_broken files k last name names bytes (ChainLevel name 0 k) there (pages_refused k last name bytes (no_level_begins bytes (kind_of_header bytes header)) (header_signed bytes header))
