-- Level files of kept backups, folded: what they tell is the file of the last backup that goes on from what the first goes on from.
use Rattle.std.proofs.Common.{◌≡◌, ◌≢◌, inl, inr, ℕ, suc, ◌+◌, ◌<◌, ◌≤◌, List, [], ◌∷◌, ◌++◌, length, refl, sym, ap, ap₂, subst, ◌∙◌, arith, Bool, true, false, nat_lt, nat_le, Option, Some, None, Ok, Contains}
use Rattle.nb_top.proofs.Common.{AllByRecursion, and_from, and_parts, leb-true, le-leb, eqb_tells, leb_tells, stamp_of, Files, is_delta, Kept, Account, Page, Image, image_size, AreRising, Contents, Head, file_for, head_for, level_bytes, taken, taken_from, changed, IsSoundImage, IsAncestor, IsKeptAs, IsLineTo, IsSpan, Stands, nil, to_record, span_bytes, level_told, bytes_for, first_head, folded, folded_head, folded_pages, last_head, last_page, or_before, page_of, pages_of_each, chained, files_after, GoesAfter, files_rise, folded_page, goes_after, next_files, AreOfKept, leads_on, none_and_some, some_same}
use Rattle.nb_fields.specs.Places.{most_pages}
use Rattle.nb_model.specs.Account.{Ask}
use Rattle.nb_model.specs.Image.{Numbered}
use Rattle.nb_model.proofs.ChainLaws.{taken_rise}
use Rattle.nb_model.proofs.ChangedLaws.{sound_changed}
use Rattle.nb_model.proofs.FollowsLaws.{Meets, meets}
use Rattle.nb_model.proofs.ReadLaws.{eq_no, eq_yes, lt_no, lt_yes}
use Rattle.nb_restore.proofs.ParentLaws.{LeadsTo}
use Rattle.nb_inplace.proofs.KeptLaws.{IsOfRecord, of_record}
use Rattle.nb_fold.proofs.FoldedLaws.{folded_rises, none_below}
use Rattle.nb_fold.proofs.SameLaws.{no_files}

-- ---- the pages that a level takes, by their numbers

page_below : (p n s : ℕ) (xs : Image) → p < n → page_of p (taken_from n s xs) ≡ None
unfolding taken_from
page_below p n s [] low = refl
page_below p n s (x ∷ xs) low = by (nat_lt s (stamp_of x)) (page_below p (n + 1) s xs (omega (arith, low)))
  where
    by : (b : Bool) → page_of p (taken_from (n + 1) s xs) ≡ None → page_of p (elim b as (λ z. List Numbered) [ true ↦ (n, x) ∷ taken_from (n + 1) s xs | false ↦ taken_from (n + 1) s xs ]) ≡ None
    by true rest = ap (λ (t : Bool). elim t as (λ z. Option Page) [ true ↦ Some x | false ↦ page_of p (taken_from (n + 1) s xs) ]) (eq_no n p (λ e. absurd (omega (arith, low, e)))) ∙ rest
    by false rest = rest

-- the first page, where it is taken
abbrev first_page_of : (s : ℕ) → Page → Option Page
first_page_of s x = elim (nat_lt s (stamp_of x)) [ true ↦ Some x | false ↦ None ]

page_here : (n s : ℕ) (x : Page) (xs : Image) → page_of n (taken_from n s (x ∷ xs)) ≡ first_page_of s x
unfolding taken_from
page_here n s x xs = by (nat_lt s (stamp_of x))
  where
    by : (b : Bool) → page_of n (elim b as (λ z. List Numbered) [ true ↦ (n, x) ∷ taken_from (n + 1) s xs | false ↦ taken_from (n + 1) s xs ]) ≡ elim b as (λ z. Option Page) [ true ↦ Some x | false ↦ None ]
    by true = ap (λ (t : Bool). elim t as (λ z. Option Page) [ true ↦ Some x | false ↦ page_of n (taken_from (n + 1) s xs) ]) (eq_yes n n refl)
    by false = page_below n (n + 1) s xs (omega arith)

page_at_first : (p n s : ℕ) (x : Page) (xs : Image) → n ≡ p → page_of p (taken_from n s (x ∷ xs)) ≡ first_page_of s x
page_at_first p n s x xs same = subst (λ (m : ℕ). page_of m (taken_from n s (x ∷ xs)) ≡ first_page_of s x) same (page_here n s x xs)

page_behind : (p n s : ℕ) (x : Page) (xs : Image) → n ≢ p → page_of p (taken_from n s (x ∷ xs)) ≡ page_of p (taken_from (n + 1) s xs)
unfolding taken_from
page_behind p n s x xs off = by (nat_lt s (stamp_of x))
  where
    by : (b : Bool) → page_of p (elim b as (λ z. List Numbered) [ true ↦ (n, x) ∷ taken_from (n + 1) s xs | false ↦ taken_from (n + 1) s xs ]) ≡ page_of p (taken_from (n + 1) s xs)
    by true = ap (λ (t : Bool). elim t as (λ z. Option Page) [ true ↦ Some x | false ↦ page_of p (taken_from (n + 1) s xs) ]) (eq_no n p off)
    by false = refl

no_page : (p n s : ℕ) → page_of p (taken_from n s []) ≡ None
unfolding taken_from
no_page p n s = refl

is_taken : (s : ℕ) (x : Page) → s < stamp_of x → first_page_of s x ≡ Some x
is_taken s x high = ap (λ (t : Bool). elim t as (λ z. Option Page) [ true ↦ Some x | false ↦ None ]) (lt_yes s (stamp_of x) high)

not_taken : (s : ℕ) (x : Page) → stamp_of x ≤ s → first_page_of s x ≡ None
not_taken s x low = ap (λ (t : Bool). elim t as (λ z. Option Page) [ true ↦ Some x | false ↦ None ]) (lt_no s (stamp_of x) low)

-- What b took since t, and else what a took since s, is what b took since s, where b meets a.
pub meets_pages : (p n s t : ℕ) (a b : Image) → s ≤ t → length a ≤ length b → Meets t a b → or_before (page_of p (taken_from n t b)) (page_of p (taken_from n s a)) ≡ page_of p (taken_from n s b)
meets_pages p n s t [] [] le long meet = ap₂ or_before (no_page p n t) (no_page p n s) ∙ sym (no_page p n s)
meets_pages p n s t (x ∷ xs) [] le long meet = absurd (omega (arith, long))
meets_pages p n s t [] (q ∷ qs) le long meet = elim (eqb_tells n p) [
  | inl w ↦
      ap (λ (o : Option Page). or_before o (page_of p (taken_from n s []))) (page_at_first p n t q qs w.1 ∙ is_taken t q meet.0)
      ∙ sym (page_at_first p n s q qs w.1 ∙ is_taken s q (omega (arith, le, meet.0)))
  | inr w ↦
      ap₂ or_before (page_behind p n t q qs w.1) (no_page p n s ∙ sym (no_page p (n + 1) s)) ∙ meets_pages p (n + 1) s t [] qs le (omega arith) meet.1 ∙ sym (page_behind p n s q qs w.1)
]
meets_pages p n s t (x ∷ xs) (q ∷ qs) le long meet = elim (eqb_tells n p) [
  | inl w ↦ elim (leb_tells (suc t) (stamp_of q)) [
    | inl high ↦
        ap (λ (o : Option Page). or_before o (page_of p (taken_from n s (x ∷ xs)))) (page_at_first p n t q qs w.1 ∙ is_taken t q high.1)
        ∙ sym (page_at_first p n s q qs w.1 ∙ is_taken s q (omega (arith, le, high.1)))
    | inr low ↦
        let old : stamp_of q ≤ t = omega (arith, low.1) in
        ap₂ or_before (page_at_first p n t q qs w.1 ∙ not_taken t q old) (page_at_first p n s x xs w.1 ∙ ap (first_page_of s) (sym (meet.0 old))) ∙ sym (page_at_first p n s q qs w.1)
  ]
  | inr w ↦
      ap₂ or_before (page_behind p n t q qs w.1) (page_behind p n s x xs w.1) ∙ meets_pages p (n + 1) s t xs qs le (omega (arith, long)) meet.1 ∙ sym (page_behind p n s q qs w.1)
]

-- ---- pages with rising numbers are told by what stands under each

first_is : (r : Numbered) (rs : List Numbered) → page_of r.0 (r ∷ rs) ≡ Some r.1
first_is r rs = ap (λ (t : Bool). elim t as (λ z. Option Page) [ true ↦ Some r.1 | false ↦ page_of r.0 rs ]) (eq_yes r.0 r.0 refl)

later_is : (p : ℕ) (r : Numbered) (rs : List Numbered) → r.0 ≢ p → page_of p (r ∷ rs) ≡ page_of p rs
later_is p r rs off = ap (λ (t : Bool). elim t as (λ z. Option Page) [ true ↦ Some r.1 | false ↦ page_of p rs ]) (eq_no r.0 p off)

from_first : (k : ℕ) (r : Numbered) (rs : List Numbered) → AreRising k (r ∷ rs) → AreRising r.0 (r ∷ rs)
from_first k r rs rise = (omega arith, rise.1, rise.2)

pub rising_same : (k : ℕ) (a b : List Numbered) → AreRising k a → AreRising k b → ((p : ℕ) → page_of p a ≡ page_of p b) → a ≡ b
rising_same k [] [] rise other same = refl
rising_same k [] (q ∷ qs) rise other same = absurd (none_and_some (page_of q.0 (q ∷ qs)) q.1 (sym (same q.0)) (first_is q qs))
rising_same k (r ∷ rs) [] rise other same = absurd (none_and_some (page_of r.0 (r ∷ rs)) r.1 (same r.0) (first_is r rs))
rising_same k (r ∷ rs) (q ∷ qs) rise other same = elim (eqb_tells r.0 q.0) [
  | inl w ↦
      let number : r.0 ≡ q.0 = w.1 in
      let page : r.1 ≡ q.1 = some_same r.1 q.1 (sym (first_is r rs) ∙ same r.0 ∙ ap (λ (n : ℕ). page_of n (q ∷ qs)) number ∙ first_is q qs) in
      let low : AreRising (r.0 + 1) qs = subst (λ (n : ℕ). AreRising (n + 1) qs) (sym number) other.2 in
      let rest : rs ≡ qs = rising_same (r.0 + 1) rs qs rise.2 low (λ p. elim (eqb_tells r.0 p) [
        | inl here ↦ none_below p (r.0 + 1) rs rise.2 (omega (arith, here.1)) ∙ sym (none_below p (r.0 + 1) qs low (omega (arith, here.1)))
        | inr off ↦ sym (later_is p r rs off.1) ∙ same p ∙ later_is p q qs (λ e. off.1 (number ∙ e))
      ]) in
      ap₂ (λ (n : ℕ) (x : Page). (n, x) ∷ rs) number page ∙ ap (λ (xs : List Numbered). q ∷ xs) rest
  | inr w ↦ elim (leb_tells (suc r.0) q.0) [
    | inl low ↦ absurd (none_and_some (page_of r.0 (q ∷ qs)) r.1 (none_below r.0 q.0 (q ∷ qs) (from_first k q qs other) (omega (arith, low.1))) (sym (same r.0) ∙ first_is r rs))
    | inr high ↦
        let above : q.0 < r.0 = below q.0 r.0 (omega (arith, high.1)) (λ e. w.1 (sym e)) in
        absurd (none_and_some (page_of q.0 (r ∷ rs)) q.1 (none_below q.0 r.0 (r ∷ rs) (from_first k r rs rise) above) (same q.0 ∙ first_is q qs))
  ]
]
  where
    below : (a b : ℕ) → a ≤ b → a ≢ b → a < b
    below a b le off = elim (leb_tells (suc a) b) [ inl w ↦ w.1 | inr w ↦ absurd (off (omega (arith, le, w.1))) ]

-- ---- the records of the files

ancestor_joined : (kept : List Kept) (a b c : Kept) → IsAncestor kept a b → IsAncestor kept b c → IsAncestor kept a c
ancestor_joined kept a b c first second = record { between = second.between ++ b ∷ first.between; line = by second.between c second.line }
  where
    by : (between : List Kept) (r : Kept) → IsLineTo kept b r between → IsLineTo kept a r (between ++ b ∷ first.between)
    by [] r line = (line, first.line)
    by (p ∷ ps) r line = (line.0, by ps p line.1)

-- What the files tell together: the pages of the last record since the one that the first goes on from.
pub record IsOfLine (kept : List Kept) (cs : List Contents) : Type 0 where
  pub from : Kept
  pub last : Kept
  pub from_there : Contains kept from
  pub kept_as : IsKeptAs kept (last_head cs).guid last
  pub previous : (first_head cs).previous ≡ from.guid
  pub previous_scn : (first_head cs).previous_scn ≡ from.scn
  pub scn : (last_head cs).scn ≡ last.scn
  pub size : (first_head cs).size ≡ image_size last.image
  pub level : 1 ≤ (first_head cs).level
  pub low : (first_head cs).level ≤ 9
  pub ancestor : IsAncestor kept from last
  pub leads : LeadsTo from last
  pub pages : (p : ℕ) → last_page p (pages_of_each cs) ≡ page_of p (taken from.scn last.image)

module _ (files : Files) (account : Account) (stands : Stands files account) where
  -- one file
  of_one : (c : Contents) (r : Kept) → IsKeptAs account.kept c.head.guid r → IsOfRecord account.kept r c → 1 ≤ c.head.level → c.head.level ≤ 9 → IsOfLine account.kept (c ∷ [])
  of_one c r named one level low = record {
    from = one.from;
    last = r;
    from_there = one.there;
    kept_as = named;
    previous = one.previous;
    previous_scn = one.scn;
    scn = one.own_scn;
    size = one.size;
    level = level;
    low = low;
    ancestor = one.ancestor;
    leads = one.leads;
    pages = λ p. ap (page_of p) one.pages;
  }

  -- one more before them
  of_more : (c d : Contents) (ds : List Contents) (r : Kept) → IsKeptAs account.kept c.head.guid r → IsOfRecord account.kept r c → 1 ≤ c.head.level → c.head.level ≤ 9 → GoesAfter c.head d.head → IsOfLine account.kept (d ∷ ds) → IsOfLine account.kept (c ∷ d ∷ ds)
  of_more c d ds r named one level low after rest =
      let same : rest.from ≡ r = stands.kept_records.distinct rest.from r rest.from_there named.there (sym rest.previous ∙ after.previous ∙ sym named.named) in
      let leads : LeadsTo r rest.last = subst (λ (x : Kept). LeadsTo x rest.last) same rest.leads in
      let ancestor : IsAncestor account.kept r rest.last = subst (λ (x : Kept). IsAncestor account.kept x rest.last) same rest.ancestor in
      record {
        from = one.from;
        last = rest.last;
        from_there = one.there;
        kept_as = rest.kept_as;
        previous = one.previous;
        previous_scn = one.scn;
        scn = rest.scn;
        size = sym after.size ∙ rest.size;
        level = level;
        low = low;
        ancestor = ancestor_joined account.kept one.from r rest.last one.ancestor ancestor;
        leads = leads_on one.from r rest.last one.leads leads;
        pages = λ p.
            ap₂ or_before (rest.pages p ∙ ap (λ (x : Kept). page_of p (taken x.scn rest.last.image)) same) (ap (page_of p) one.pages)
            ∙ meets_pages p 0 one.from.scn r.scn r.image rest.last.image (omega (arith, one.leads.earlier)) leads.follows.no_shorter (meets r.scn r.image rest.last.image leads.follows.same);
      }

  -- all of them
  pub of_line : (last : Option Contents) (name : List ℕ) (names : List (List ℕ)) (cs : List Contents) → files_after files last (name ∷ names) ≡ Ok cs → AllByRecursion (λ (n : List ℕ). is_delta n ≡ false) (name ∷ names)
      → AreOfKept account.kept cs → (first_head cs).previous ≢ nil → IsOfLine account.kept cs
  of_line last name [] cs e plain kept some =
      let are = next_files files last name [] cs e in
      let all : cs ≡ are.first ∷ [] = are.all ∙ ap (λ (x : List Contents). are.first ∷ x) (no_files files (Some are.first) are.rest are.more) in
      let named = (subst (AreOfKept account.kept) all kept).0 in
      let one = of_record files account stands name are.next.bytes are.first named.0 plain.0 are.next.there are.next.read named.1 (subst (λ (x : List Contents). (first_head x).previous ≢ nil) all some) in
      let level = and_parts (nat_le 1 are.first.head.level) (nat_le are.first.head.level 9) (level_told are.next.bytes are.first are.next.read).level in
      subst (IsOfLine account.kept) (sym all) (of_one are.first named.0 named.1 one (leb-true 1 are.first.head.level level.0) (leb-true are.first.head.level 9 level.1))
  of_line last name (m ∷ ms) cs e plain kept some =
      let are = next_files files last name (m ∷ ms) cs e in
      let more = next_files files (Some are.first) m ms are.rest are.more in
      let all : cs ≡ are.first ∷ more.first ∷ more.rest = are.all ∙ ap (λ (x : List Contents). are.first ∷ x) more.all in
      let each = subst (AreOfKept account.kept) all kept in
      let named = each.0 in
      let one = of_record files account stands name are.next.bytes are.first named.0 plain.0 are.next.there are.next.read named.1 (subst (λ (x : List Contents). (first_head x).previous ≢ nil) all some) in
      let after : GoesAfter are.first.head more.first.head = goes_after are.first m more.first more.next.after in
      let not_none : more.first.head.previous ≢ nil = λ none. stands.kept_records.not_nil named.0 named.1.there (named.1.named ∙ sym after.previous ∙ none) in
      let rest = of_line (Some are.first) m ms are.rest are.more plain.1 (subst (AreOfKept account.kept) (sym more.all) each.1) (subst (λ (x : List Contents). (first_head x).previous ≢ nil) (sym more.all) not_none) in
      let level = and_parts (nat_le 1 are.first.head.level) (nat_le are.first.head.level 9) (level_told are.next.bytes are.first are.next.read).level in
      subst (IsOfLine account.kept) (sym all) (of_more are.first more.first more.rest named.0 named.1 one (leb-true 1 are.first.head.level level.0) (leb-true are.first.head.level 9 level.1) after (subst (IsOfLine account.kept) more.all rest))

  -- the file that they are folded into
  module _ (names : List (List ℕ)) (cs : List Contents) (accepted : chained files names ≡ Ok cs) (line : IsOfLine account.kept cs) where
    abbrev pub span_ask : Ask
    span_ask = record { level = (first_head cs).level; previous = line.from.guid; previous_scn = line.from.scn }

    pub is_span : IsSpan account.kept line.last span_ask
    is_span = record {
      from = line.from;
      ancestor = line.ancestor;
      guid = refl;
      scn = refl;
      level = and_from (nat_le 1 (first_head cs).level) (nat_le (first_head cs).level 9) (le-leb 1 (first_head cs).level line.level) (le-leb (first_head cs).level 9 line.low);
    }

    sound : IsSoundImage line.last.image
    sound = stands.sound_images.images line.last.image (to_record line.last line.kept_as.there refl)

    pages_same : folded_pages (pages_of_each cs) ≡ changed line.from.scn line.last.image
    pages_same =
        rising_same 0 (folded_pages (pages_of_each cs)) (taken line.from.scn line.last.image) (folded_rises most_pages 0 (pages_of_each cs) (omega arith)) (taken_rise 0 line.from.scn line.last.image (omega (arith, sound.most)))
        (λ p. folded_page p (pages_of_each cs) (files_rise files None names cs accepted) ∙ line.pages p)
        ∙ sym (sound_changed line.from.scn line.last.image sound)

    head_same : folded_head cs ≡ head_for line.last span_ask
    head_same =
        ap (λ (g : List ℕ). record (first_head cs) { guid = g; scn = (last_head cs).scn }) (sym line.kept_as.named)
        ∙ ap (λ (n : ℕ). record (first_head cs) { guid = line.last.guid; scn = n }) line.scn
        ∙ ap (λ (g : List ℕ). record { level = (first_head cs).level; guid = line.last.guid; previous = g; size = (first_head cs).size; scn = line.last.scn; previous_scn = (first_head cs).previous_scn }) line.previous
        ∙ ap (λ (n : ℕ). record { level = (first_head cs).level; guid = line.last.guid; previous = line.from.guid; size = n; scn = line.last.scn; previous_scn = (first_head cs).previous_scn }) line.size
        ∙ ap (λ (n : ℕ). record { level = (first_head cs).level; guid = line.last.guid; previous = line.from.guid; size = image_size line.last.image; scn = line.last.scn; previous_scn = n }) line.previous_scn

    pub folded_span : bytes_for (folded cs) ≡ file_for 102 line.last (Some span_ask)
    unfolding folded
    folded_span =
        ap (λ (h : Head). level_bytes 102 h (folded_pages (pages_of_each cs))) head_same ∙ ap (level_bytes 102 (head_for line.last span_ask)) pages_same ∙ sym (span_bytes line.last span_ask line.level)
