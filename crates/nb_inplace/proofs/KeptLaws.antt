-- A level file whose record is kept: which record it goes on from, and what it holds.
use Rattle.std.proofs.Common.{◌≡◌, ◌≢◌, ◌⊎◌, inl, inr, ℕ, ◌≤◌, List, [], ◌∷◌, length, refl, sym, ap, subst, ◌∙◌, false, nat_le, Some, None, Ok, Contains}
use Rattle.nb_inplace.proofs.Common.{and_parts, true≢false, Files, is_delta, Ask, Kept, Account, image_size, Head, Contents, taken, head_in, head_for, level_bytes, read_level, Link, level_link, next_link, next_links, IsSoundImage, nil, to_record, IsKeptAs, IsBegun, IsLineTo, IsAncestor, IsSpan, Stands, level_told, some_same, ok_same, head_same}
use Rattle.std.proofs.lemmas.Bool.Decides.{leb_tells}
use Rattle.nb_model.proofs.ChainLaws.{kept_accepted}
use Rattle.nb_restore.proofs.AskLaws.{with_ask, guid_long}
use Rattle.nb_restore.proofs.ChainLaws.{split_next}
use Rattle.nb_restore.proofs.KeptNext.{HoldsKeptNext, kept_next, file_level, own_file}
use Rattle.nb_restore.proofs.ParentLaws.{LeadsTo, AsksFrom, own_asks, span_asks}
use Rattle.nb_restore.proofs.ReadLaws.{reads_previous}

-- an ancestor is kept
pub ancestor_there : (kept : List Kept) (between : List Kept) (q r : Kept) → IsLineTo kept q r between → Contains kept q
ancestor_there kept [] q r line = line.parent.there
ancestor_there kept (p ∷ ps) q r line = ancestor_there kept ps q p line.1

-- the files after one, where there is one
one_next : (files : Files) (k : ℕ) (last : Link) (name bytes : List ℕ) (l : Link) → files name ≡ Some bytes → next_link k last name bytes ≡ Ok l → next_links files k last (name ∷ []) ≡ Ok (l ∷ [])
unfolding next_links
one_next files k last name bytes l there accepted = rw (there, next_links) (rw (accepted, next_links) refl)

-- what the file of the record r holds: the pages of r since the record that it goes on from
pub record IsOfRecord (kept : List Kept) (r : Kept) (c : Contents) : Type 0 where
  pub from : Kept
  pub there : Contains kept from
  pub previous : c.head.previous ≡ from.guid
  pub ancestor : IsAncestor kept from r
  pub leads : LeadsTo from r
  pub scn : c.head.previous_scn ≡ from.scn
  pub own_scn : c.head.scn ≡ r.scn
  pub size : c.head.size ≡ image_size r.image
  pub pages : c.pages ≡ taken from.scn r.image

module _ (files : Files) (account : Account) (stands : Stands files account) (name level : List ℕ) (c : Contents) (r : Kept) (plain : is_delta name ≡ false) (there : files name ≡ Some level) (read : read_level level ≡ Ok c)
    (named : IsKeptAs account.kept c.head.guid r) (some : c.head.previous ≢ nil) where
  begun : IsBegun r
  begun = stands.sound_images.records r named.there

  whole : IsSoundImage r.image
  whole = stands.sound_images.images r.image (to_record r named.there refl)

  -- with some ask, its own or that of a span
  record IsAsked : Type 0 where
    ask : Ask
    is : level ≡ level_bytes c.version (head_for r ask) (taken ask.previous_scn r.image)
    either : (r.ask ≡ Some ask) ⊎ IsSpan account.kept r ask

  asked : IsAsked
  asked = elim ((stands.kept_records.levels name level plain there).level c r read named) [
    | inl own ↦ let is = file_level c.version r r.ask level c begun whole read (own ∙ own_file c.version r) in record { ask = is.0; is = is.2; either = inl is.1 }
    | inr span ↦
        let is = file_level c.version r (Some span.0) level c begun whole read span.2 in
        record { ask = is.0; is = is.2; either = inr (subst (IsSpan account.kept r) (some_same span.0 is.0 is.1) span.1) }
  ]

  abbrev ask : Ask
  ask = asked.ask

  previous_is : length ask.previous ≡ 16 → c.head.previous ≡ ask.previous
  previous_is sixteen =
      ap (λ (h : Head). h.previous) ((level_told level c read).head ∙ ap head_in asked.is) ∙ reads_previous c.version (head_for r ask) (taken ask.previous_scn r.image) (guid_long r begun) sixteen

  not_none : ask.previous ≢ nil
  not_none none = some (previous_is (ap length none) ∙ none)

  asks : AsksFrom account.kept r ask
  asks = elim asked.either [
    | inl own ↦ own_asks files account stands r ask named.there own not_none
    | inr span ↦ span_asks files account stands r ask named.there span
  ]

  abbrev from : Kept
  from = asks.from

  previous : c.head.previous ≡ from.guid
  previous = previous_is (ap length (sym asks.kept_as.named) ∙ guid_long from (stands.sound_images.records from asks.kept_as.there)) ∙ sym asks.kept_as.named

  ancestor : IsAncestor account.kept from r
  ancestor = by asked.either
    where
      by : (r.ask ≡ Some ask) ⊎ IsSpan account.kept r ask → IsAncestor account.kept from r
      by (inl own) = record { between = []; line = record { ask = ask; is = own; parent = asks.kept_as } }
      by (inr span) =
          let same : span.from ≡ from =
          stands.kept_records.distinct span.from from (ancestor_there account.kept span.ancestor.between span.from r span.ancestor.line) asks.kept_as.there (sym span.guid ∙ sym asks.kept_as.named) in
          subst (λ (q : Kept). IsAncestor account.kept q r) same span.ancestor

  -- so it is accepted after that record in a chain, which tells what it holds
  abbrev behind : Link
  behind = record { guid = c.head.previous; scn = c.head.previous_scn; size = c.head.size; pages = [] }

  some_level : 1 ≤ c.head.level
  some_level = elim (leb_tells 1 c.head.level) [ inl w ↦ w.1 | inr w ↦ absurd (true≢false (sym (and_parts (nat_le 1 c.head.level) (nat_le c.head.level 9) (level_told level c read).level).0 ∙ w.0)) ]

  next : HoldsKeptNext files c.head.level (with_ask None from) name r
  next =
      kept_next files account stands c.head.level some_level from asks.kept_as.there None behind previous name level there (level_link c)
      (record { contents = c; read = read; behind = record { level = refl; previous = refl; size = refl; previous_scn = refl }; is = refl }) r named plain

  abbrev base : Link
  base = record { guid = from.guid; scn = from.scn; size = image_size from.image; pages = [] }

  abbrev link : Link
  link = record { guid = r.guid; scn = r.scn; size = image_size r.image; pages = taken from.scn r.image }

  accepted : next_link c.head.level base name level ≡ Ok link
  accepted =
      ap (next_link c.head.level base name) (some_same level _ (sym there ∙ next.holds.is))
      ∙ kept_accepted c.head.level next.holds.version (with_ask None from) base name (with_ask (Some next.ask) r) next.holds.ask refl refl refl next.holds.next

  pub of_record : IsOfRecord account.kept r c
  of_record =
      let split = split_next files c.head.level base name [] (link ∷ []) (one_next files c.head.level base name level link there accepted) in
      let contents : split.level.contents ≡ c = ok_same split.level.contents c (read_level level) (ap read_level (some_same level split.bytes (sym there ∙ split.there)) ∙ split.level.read) read in
      let first : link ≡ split.link = head_same link split.link [] split.rest split.all in
      let link_is : link ≡ level_link c = first ∙ split.level.is ∙ ap level_link contents in
      record {
        from = from;
        there = asks.kept_as.there;
        previous = previous;
        ancestor = ancestor;
        leads = asks.leads;
        scn = ap (λ (x : Contents). x.head.previous_scn) (sym contents) ∙ split.level.behind.previous_scn;
        own_scn = sym (ap (λ (l : Link). l.scn) link_is);
        size = sym (ap (λ (l : Link). l.size) link_is);
        pages = sym (ap (λ (l : Link). l.pages) link_is);
      }
