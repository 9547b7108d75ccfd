-- A level file of a chain whose records are kept: it is the file of a record that goes on from the one before it.
use Rattle.std.proofs.Common.{◌≡◌, ◌≢◌, inl, inr, ℕ, ◌≤◌, List, [], ◌∷◌, ◌++◌, length, take, refl, sym, ap, subst, ◌∙◌, arith, Bool, true, false, ◌&&◌, ◌==◌, nat_le, Option, Some, None, Ok, Contains}
use Rattle.nb_restore.proofs.Common.{append-nil, is_header, Files, is_delta, Image, Numbered, first_page, Ask, Kept, Account, Head, Contents, IsHead, joined, taken, changed, body_bytes, end_bytes, head_then, head_in, head_for, file_for, file_of, level_bytes, read_level, HoldsNext, Link, IsSoundImage, nil, to_record, IsKeptAs, IsBegun, Stands, header-size, header-room, same-header, eq_no, joined_front, header_no_level, IsTold, level_told, some_same}
use Rattle.nb_fields.specs.Bytes.{bytes_of}
use Rattle.nb_model.proofs.ChangedLaws.{sound_changed}
use Rattle.nb_restore.proofs.AskLaws.{with_ask, begun_with, guid_long}
use Rattle.nb_restore.proofs.ChainLaws.{IsLevelFile}
use Rattle.nb_restore.proofs.ParentLaws.{LeadsTo, AsksFrom, own_asks, span_asks}
use Rattle.nb_restore.proofs.ReadLaws.{reads_level, reads_previous}

-- pages with a header are no level file
no_pages : (image : Image) (bytes : List ℕ) (c : Contents) → is_header (first_page image) ≡ true → read_level bytes ≡ Ok c → bytes ≡ joined image → ⊥
no_pages image bytes c header reads is =
    let all : bytes ≡ joined (image ++ []) = is ∙ ap joined (sym (append-nil image)) in
    header_no_level bytes c (same-header bytes (first_page image) (ap (take 64) all ∙ joined_front image [] header) ∙ header) reads

-- so the file of a record that is read as a level is one
pub file_level : (version : ℕ) (q : Kept) (o : Option Ask) (bytes : List ℕ) (c : Contents) → IsBegun q → IsSoundImage q.image → read_level bytes ≡ Ok c → bytes ≡ file_for version q o
    → (ask : Ask) × (o ≡ Some ask) × (bytes ≡ level_bytes version (head_for q ask) (taken ask.previous_scn q.image))
unfolding file_for
file_level version q None bytes c begun whole reads is = absurd (no_pages q.image bytes c begun.header reads is)
file_level version q (Some ask) bytes c begun whole reads is = by (ask.level == 0) is
  where
    by : (t : Bool) → bytes ≡ elim t as (λ x. List ℕ) [ true ↦ joined q.image | false ↦ level_bytes version (head_for q ask) (changed ask.previous_scn q.image) ]
        → (a : Ask) × (Some ask ≡ Some a) × (bytes ≡ level_bytes version (head_for q a) (taken a.previous_scn q.image))
    by true k = absurd (no_pages q.image bytes c begun.header reads k)
    by false k = (ask, refl, k ∙ ap (level_bytes version (head_for q ask)) (sound_changed ask.previous_scn q.image whole))

pub own_file : (version : ℕ) (q : Kept) → file_of version q ≡ file_for version q q.ask
unfolding file_of
own_file version q = refl

-- the level is written in two bytes
same_level : (version : ℕ) (h : Head) (k : ℕ) (rs : List Numbered) → bytes_of 2 h.level ≡ bytes_of 2 k → level_bytes version h rs ≡ level_bytes version (record h { level = k }) rs
unfolding level_bytes head_then
same_level version h k rs e =
    ap (λ (bs : List ℕ). 78 ∷ 66 ∷ 65 ∷ 75 ∷ (bytes_of 2 version ++ (bs ++ (h.guid ++ (h.previous ++ (bytes_of 4 h.size ++ (bytes_of 4 h.scn ++ (bytes_of 4 h.previous_scn ++ (body_bytes version rs ++ end_bytes (length rs)))))))))) e

level_file_of : (version : ℕ) (q : Kept) (ask : Ask) → 1 ≤ ask.level → IsSoundImage q.image → file_of version (with_ask (Some ask) q) ≡ level_bytes version (head_for q ask) (taken ask.previous_scn q.image)
unfolding file_of file_for
level_file_of version q ask some whole =
    let spelled : file_of version (with_ask (Some ask) q) ≡ level_bytes version (head_for q ask) (changed ask.previous_scn q.image) = rw (eq_no ask.level 0 (λ e. absurd (omega arith)), file_for) refl in
    spelled ∙ ap (level_bytes version (head_for q ask)) (sound_changed ask.previous_scn q.image whole)

-- the file of that name is that of a record, with some ask
pub record HoldsKeptNext (files : Files) (k : ℕ) (r : Kept) (name : List ℕ) (q : Kept) : Type 0 where
  pub ask : Ask
  pub holds : HoldsNext files k r name (with_ask (Some ask) q)

module _ (files : Files) (account : Account) (stands : Stands files account) (k : ℕ) (some : 1 ≤ k) (r : Kept) (r_there : Contains account.kept r) (o : Option Ask) (last : Link) (guid : last.guid ≡ r.guid)
    (name bytes : List ℕ) (there : files name ≡ Some bytes) (l : Link) (file : IsLevelFile k last bytes l) (q : Kept) (named : IsKeptAs account.kept l.guid q) where
  read : IsTold bytes file.contents
  read = level_told bytes file.contents file.read

  begun : IsBegun q
  begun = stands.sound_images.records q named.there

  whole : IsSoundImage q.image
  whole = stands.sound_images.images q.image (to_record q named.there refl)

  -- with this ask
  module _ (ask : Ask) (is : bytes ≡ level_bytes file.contents.version (head_for q ask) (taken ask.previous_scn q.image)) where
    abbrev rs : List Numbered
    rs = taken ask.previous_scn q.image

    abbrev now : Ask
    now = record { level = k; previous = ask.previous; previous_scn = ask.previous_scn }

    head_is : file.contents.head ≡ head_in (level_bytes file.contents.version (head_for q ask) rs)
    head_is = read.head ∙ ap head_in is

    -- it names the record before
    before : length ask.previous ≡ 16 → ask.previous ≡ r.guid
    before sixteen = sym (ap (λ (h : Head). h.previous) head_is ∙ reads_previous file.contents.version (head_for q ask) rs (guid_long q begun) sixteen) ∙ file.behind.previous ∙ guid

    not_none : ask.previous ≢ nil
    not_none none = stands.kept_records.not_nil r r_there (sym (before (ap length none)) ∙ none)

    level : bytes_of 2 ask.level ≡ bytes_of 2 k
    level = sym (reads_level file.contents.version (head_for q ask) rs) ∙ ap (λ (h : Head). bytes_of 2 h.level) (sym head_is) ∙ ap (bytes_of 2) file.behind.level

    its_file : bytes ≡ file_of file.contents.version (with_ask (Some now) q)
    its_file = is ∙ same_level file.contents.version (head_for q ask) k rs level ∙ sym (level_file_of file.contents.version q now some whole)

    goes_on : AsksFrom account.kept q ask → HoldsKeptNext files k (with_ask o r) name q
    goes_on asks =
        let sixteen : length ask.previous ≡ 16 = ap length (sym asks.kept_as.named) ∙ guid_long asks.from (stands.sound_images.records asks.from asks.kept_as.there) in
        let from : asks.from ≡ r = stands.kept_records.distinct asks.from r asks.kept_as.there r_there (asks.kept_as.named ∙ before sixteen) in
        let leads : LeadsTo r q = subst (λ (x : Kept). LeadsTo x q) from asks.leads in
        let scn : ask.previous_scn ≡ r.scn = asks.scn ∙ ap (λ (x : Kept). x.scn) from in
        let head : IsHead (head_for q now) = record {
          level = ap (λ (n : ℕ). nat_le 1 n && nat_le n 9) (sym file.behind.level) ∙ read.level;
          guid = guid_long q begun;
          previous = sixteen;
          size = header-size (first_page q.image) begun.header;
          scn = omega (arith, begun.scn, header-room (first_page q.image) begun.header begun.state);
          later = omega (arith, scn, leads.earlier);
        } in
        record {
          ask = now;
          holds = record {
            version = file.contents.version;
            ask = now;
            is = there ∙ ap (λ (x : List ℕ). Some x) its_file;
            next = record {
              known = read.known;
              asked = refl;
              level = refl;
              some = some;
              guid = before sixteen;
              scn = scn;
              later = leads.earlier;
              head = head;
              whole = whole;
              begun = begun_with (Some now) q begun;
              follows = leads.follows;
            };
          };
        }

  pub kept_next : is_delta name ≡ false → HoldsKeptNext files k (with_ask o r) name q
  kept_next plain =
      let its : IsKeptAs account.kept file.contents.head.guid q = subst (λ (x : Link). IsKeptAs account.kept x.guid q) file.is named in
      elim ((stands.kept_records.levels name bytes plain there).level file.contents q file.read its) [
        | inl own ↦
            let is = file_level file.contents.version q q.ask bytes file.contents begun whole file.read (own ∙ own_file file.contents.version q) in
            goes_on is.0 is.2 (own_asks files account stands q is.0 named.there is.1 (not_none is.0 is.2))
        | inr span ↦
            let is = file_level file.contents.version q (Some span.0) bytes file.contents begun whole file.read span.2 in
            goes_on is.0 is.2 (subst (λ (a : Ask). AsksFrom account.kept q a) (some_same span.0 is.0 is.1) (span_asks files account stands q span.0 named.there span.1))
      ]
