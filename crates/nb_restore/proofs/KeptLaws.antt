-- A chain of kept backups gives the image that the begin of its last one kept, and what is restored of it is well.
use Rattle.std.proofs.Common.{◌≡◌, ℕ, ◌+◌, ◌≤◌, List, [], ◌∷◌, length, refl, sym, ap, subst, ◌∙◌, arith, false, Option, Some, None, Ok, Contains}
use Rattle.nb_restore.proofs.Common.{AllByRecursion, Files, is_delta, Image, image_size, first_page, Ask, Kept, Base, base_of, Account, taken, HoldLine, first_file, next_files, last_in, Link, first_link, next_link, next_links, verdict, applied, HasHeader, HasNoZeros, IsSoundImage, to_record, Stands, fixed, settled, IsWellBase, kept_accepted, header-room, copy_accepted, chain_accepted, chain_gives, AreKept, last_guid, GivesKept, IsLinkOf, some_same, ok_same}
use Rattle.nb_model.specs.WellTrail.{IsWellTrail}
use Rattle.nb_model.proofs.WellTrailLaws.{settled_well, well_normal}
use Rattle.nb_restore.proofs.AskLaws.{with_ask}
use Rattle.nb_restore.proofs.ChainLaws.{split_chain, split_next, copy_of}
use Rattle.nb_restore.proofs.FixedLaws.{fixed_well}
use Rattle.nb_restore.proofs.KeptFirst.{HoldsKeptFirst, kept_first}
use Rattle.nb_restore.proofs.KeptNext.{HoldsKeptNext, kept_next}

-- no name is that of a difference file
abbrev ArePlain : List (List ℕ) → Type 0
ArePlain = AllByRecursion (λ (name : List ℕ). is_delta name ≡ false)

-- the files of these names are those of a line after r, whose last record is kept
record HoldsKeptLine (files : Files) (kept : List Kept) (k : ℕ) (r : Kept) (names : List (List ℕ)) : Type 0 where
  line : List Kept
  last : Kept
  there : Contains kept last
  ask : Option Ask
  ends : last_in r line ≡ with_ask ask last
  holds : HoldLine files k r names line

module _ (files : Files) (account : Account) (stands : Stands files account) where
  -- the link of a file tells of the record that the file holds
  next_told : (k : ℕ) (r : Kept) (o : Option Ask) (last : Link) → IsLinkOf last r → (name bytes : List ℕ) (l : Link) → files name ≡ Some bytes → next_link k last name bytes ≡ Ok l
      → (q : Kept) → HoldsKeptNext files k (with_ask o r) name q → IsLinkOf l q
  next_told k r o last of name bytes l there accepted q next =
      let same = some_same _ bytes (sym next.holds.is ∙ there) in
      let answer = ap (next_link k last name) (sym same) ∙ kept_accepted k next.holds.version (with_ask o r) last name (with_ask (Some next.ask) q) next.holds.ask of.guid of.scn of.size next.holds.next in
      let is = ok_same l _ (next_link k last name bytes) accepted answer in
      record { guid = ap (λ (x : Link). x.guid) is; scn = ap (λ (x : Link). x.scn) is; size = ap (λ (x : Link). x.size) is }

  first_told : (name bytes : List ℕ) (l : Link) → files name ≡ Some bytes → first_link name bytes ≡ Ok l → (r : Kept) → HoldsKeptFirst files name r → IsLinkOf l r
  unfolding first_file
  first_told name bytes l there accepted r first =
      let same = some_same _ bytes (sym first.holds.is ∙ there) in
      let is = ok_same l _ (first_link name bytes) accepted (ap (first_link name) (sym same) ∙ copy_accepted files (with_ask None r) first.zeros name first.holds) in
      record { guid = ap (λ (x : Link). x.guid) is; scn = ap (λ (x : Link). x.scn) is; size = ap (λ (x : Link). x.size) is }

  -- the files after r are those of a line of backups, each with the ask that its file spells
  kept_line : (k : ℕ) → 1 ≤ k → (r : Kept) → Contains account.kept r → (o : Option Ask) → (last : Link) → IsLinkOf last r → (names : List (List ℕ)) → ArePlain names
      → (links : List Link) → next_links files k last names ≡ Ok links → AreKept account.kept links → HoldsKeptLine files account.kept k (with_ask o r) names
  kept_line k some r there o last of [] plain links e kept = record { line = []; last = r; there = there; ask = o; ends = refl; holds = tt }
  kept_line k some r there o last of (name ∷ names) plain links e kept =
      let split = split_next files k last name names links e in
      let named = subst (λ (ls : List Link). AreKept account.kept ls) split.all kept in
      let next = kept_next files account stands k some r there o last of.guid name split.bytes split.there split.link split.level named.0.0 named.0.1 plain.0 in
      let told : IsLinkOf split.link named.0.0 = next_told k r o last of name split.bytes split.link split.there split.accepted named.0.0 next in
      let rest = kept_line (k + 1) (omega arith) named.0.0 named.0.1.there (Some next.ask) split.link told names plain.1 split.rest split.next named.1 in
      record { line = with_ask (Some next.ask) named.0.0 ∷ rest.line; last = rest.last; there = rest.there; ask = rest.ask; ends = rest.ends; holds = (next.holds, rest.holds) }

-- the GUID of the last file
last_named : (l : Link) (r : Kept) (line : List Kept) → l.guid ≡ r.guid → last_guid (l ∷ next_files r line) ≡ (last_in r line).guid
unfolding next_files
last_named l r [] e = e
last_named l r (q ∷ qs) e = last_named (record { guid = q.guid; scn = q.scn; size = image_size q.image; pages = taken r.scn q.image }) q qs refl

first_named : (r : Kept) (zeros : Image) → (first_file r zeros).guid ≡ r.guid
unfolding first_file
first_named r zeros = refl

-- no names are no chain
no_links : (files : Files) (links : List Link) → verdict files [] ≡ Ok links → [] ≡ links
unfolding verdict
no_links files links e = ok_same [] links (Ok []) refl e

-- A chain of kept backups gives the image that the begin of its last one kept.
pub chain_kept : (files : Files) (account : Account) (names : List (List ℕ)) (links : List Link) → Stands files account → AllByRecursion (λ (name : List ℕ). is_delta name ≡ false) names → verdict files names ≡ Ok links → 1 ≤ length links → AreKept account.kept links
    → GivesKept account.kept links
chain_kept files account [] links stands plain e some kept = absurd (let long = ap length (no_links files links e) in omega arith)
chain_kept files account (name ∷ names) links stands plain e some kept =
    let split = split_chain files name names links e in
    let named = subst (λ (ls : List Link). AreKept account.kept ls) split.all kept in
    let first = kept_first files account stands name split.bytes plain.0 split.there split.first (copy_of name split.bytes split.first split.accepted) named.0.0 named.0.1 in
    let told : IsLinkOf split.first named.0.0 = first_told files account stands name split.bytes split.first split.there split.accepted named.0.0 first in
    let rest = kept_line files account stands 1 (omega arith) named.0.0 named.0.1.there None split.first told names plain.1 split.rest split.next named.1 in
    let r : Kept = with_ask None named.0.0 in
    let all : links ≡ first_file r first.zeros ∷ next_files r rest.line = ok_same links _ (verdict files (name ∷ names)) e (chain_accepted files r first.zeros rest.line name names first.holds rest.holds) in
    let sound : IsSoundImage rest.last.image = stands.sound_images.images rest.last.image (to_record rest.last rest.there refl) in
    let none : HasNoZeros (last_in r rest.line).image = subst (λ (x : Kept). HasNoZeros x.image) (sym rest.ends) sound.sound.no_zeros in
    record {
      backup = rest.last;
      kept_as = record {
        there = rest.there;
        named = sym (ap last_guid all ∙ last_named (first_file r first.zeros) r rest.line (first_named r first.zeros) ∙ ap (λ (x : Kept). x.guid) rest.ends);
      };
      image = ap applied all ∙ chain_gives files r first.zeros rest.line name names first.holds rest.holds none ∙ ap (λ (x : Kept). x.image) rest.ends;
    }

-- What is restored of a kept backup is well in the normal state.
pub restored_well : (files : Files) (account : Account) (r : Kept) → Stands files account → Contains account.kept r → IsWellTrail account.kept (settled (base_of (fixed r.image)))
restored_well files account r stands there =
    let begun = stands.sound_images.records r there in
    let header : HasHeader r.image = record { header = begun.header; scn = omega (arith, header-room (first_page r.image) begun.header begun.state) } in
    let sound = stands.sound_images.images r.image (to_record r there refl) in
    let b : Base = base_of (fixed r.image) in
    let w : IsWellBase account.kept b = record { told = refl; well = fixed_well r.image header sound account.kept (stands.history.images r.image (to_record r there refl)) } in
    settled_well account.kept b (well_normal account.kept b w) (λ stalled. absurd (omega (arith, stalled, w.well.state)))
