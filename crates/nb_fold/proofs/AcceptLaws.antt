-- A fold is a level file, and a chain that ends with it is accepted exactly where one is that ends with the files it was made of.
use Rattle.std.proofs.Common.{◌≡◌, ◌≢◌, inl, inr, ℕ, ◌+◌, ◌^◌, ◌<◌, ◌≤◌, List, [], ◌∷◌, ◌++◌, length, refl, sym, ap, subst, ◌∙◌, arith, true, ◌&&◌, ◌==◌, Option, Some, None, Result, Ok, Err}
use Rattle.nb_fold.proofs.Common.{AllByRecursion, and_parts, eqb-true, eqb_tells, is_header, state_of, size_of, scn_of, guid_of, most_pages, stalled_state, File, Files, Refusal, NoFile, ChainLevel, Cause, Image, Page, Numbered, AreOfSize, AreRising, Contents, Head, begins_level, is_first_page, level_bytes, read_level, Link, applied, first_link, level_link, linked, next_link, next_links, not_behind, verdict, header-room, eq_yes, GoesBehind, goes_behind, bytes_for, folded, folded_head, folded_pages, last_head, last_page, or_before, page_of, pages_of_each, AllOfSize, GiveTheSame, Gives, IsFoldOf, links_of, chained, files_after, HasPages, level_pages, some_none, some_same, ok_same, err_not_ok, none_and_some}
use Rattle.nb_host.specs.Names.{same_name}
use Rattle.nb_model.proofs.ChainLaws.{when_not, accepts, four_none, none_left}
use Rattle.nb_model.proofs.LevelLaws.{level_read}
use Rattle.nb_restore.proofs.KeptChains.{verdict_first, level_begins, level_refused}
use Rattle.nb_fold.proofs.FoldedLaws.{folded_rises, folded_sizes, none_below}
use Rattle.nb_model.proofs.LevelWalk.{FirstIsZero}
use Rattle.nb_fold.proofs.SameLaws.{AreNextFiles, AreOf, files_rise, folded_page, goes_after, next_files, no_files, same_image, sizes_alike}
use Rattle.nb_host.proofs.NameLaws.{same_self}

-- ---- what each file holds

abbrev pub AllHave : List Contents → Type 0
AllHave = AllByRecursion (λ (c : Contents). HasPages c.head c.pages)

pub files_have : (files : Files) (last : Option Contents) (names : List (List ℕ)) (cs : List Contents) → files_after files last names ≡ Ok cs → AllHave cs
files_have files last [] cs e = subst AllHave (sym (no_files files last cs e)) tt
files_have files last (name ∷ names) cs e =
    let are = next_files files last name names cs e in
    subst AllHave (sym are.all) (level_pages are.next.bytes are.first are.next.read, files_have files (Some are.first) names are.rest are.more)

-- the SCNs rise
last_later : (files : Files) (last : Contents) (names : List (List ℕ)) (cs : List Contents) → files_after files (Some last) names ≡ Ok cs → last.head.scn ≤ (last_head (last ∷ cs)).scn
last_later files last [] cs e = subst (λ (x : List Contents). last.head.scn ≤ (last_head (last ∷ x)).scn) (sym (no_files files (Some last) cs e)) (omega arith)
last_later files last (name ∷ names) cs e =
    let are = next_files files (Some last) name names cs e in
    let after = goes_after last name are.first are.next.after in
    let have = level_pages are.next.bytes are.first are.next.read in
    let rest : are.first.head.scn ≤ (last_head (are.first ∷ are.rest)).scn = last_later files are.first names are.rest are.more in
    let low : last.head.scn ≤ (last_head (are.first ∷ are.rest)).scn = omega (arith, after.previous_scn, have.later, rest) in
    subst (λ (x : List Contents). last.head.scn ≤ (last_head (last ∷ x)).scn) (sym are.all) low

last_size : (size : ℕ) (c : Contents) (cs : List Contents) → AreOf size (c ∷ cs) → (last_head (c ∷ cs)).size ≡ size
last_size size c [] same = same.0
last_size size c (d ∷ ds) same = last_size size d ds same.1

last_guid : (c : Contents) (cs : List Contents) → AllHave (c ∷ cs) → length (last_head (c ∷ cs)).guid ≡ 16
last_guid c [] have = have.0.guid
last_guid c (d ∷ ds) have = last_guid d ds have.1

all_of_size : (size : ℕ) (cs : List Contents) → AllHave cs → AreOf size cs → AllOfSize size (pages_of_each cs)
all_of_size size [] have same = tt
all_of_size size (c ∷ cs) have same = (subst (λ (n : ℕ). AreOfSize n c.pages) same.0 have.0.sizes, all_of_size size cs have.1 same.1)

-- ---- page 0

-- a page is there, and is the first of a level file with that head
pub record IsFirst (h : Head) (o : Option Page) : Type 0 where
  pub page : Page
  pub is : o ≡ Some page
  pub first : is_first_page h page ≡ true

pub zero_there : (h : Head) (rs : List Numbered) → FirstIsZero h rs → IsFirst h (page_of 0 rs)
zero_there h [] first = absurd first
zero_there h (r ∷ rs) first = record { page = r.1; is = ap (λ (n : ℕ). page_of 0 ((n, r.1) ∷ rs)) first.0; first = first.1 }

pub last_zero : (c : Contents) (cs : List Contents) → AllHave (c ∷ cs) → IsFirst (last_head (c ∷ cs)) (last_page 0 (pages_of_each (c ∷ cs)))
last_zero c [] have = zero_there c.head c.pages have.0.first
last_zero c (d ∷ ds) have =
    let more = last_zero d ds have.1 in
    record { page = more.page; is = ap (λ (o : Option Page). or_before o (page_of 0 c.pages)) more.is; first = more.first }

-- the SCN after the head's isn't the last one
scn_room : (h : Head) (page : Page) → is_first_page h page ≡ true → h.scn < 2 ^ 32
unfolding is_first_page
scn_room h page is =
    let one = and_parts (is_header page) _ is in
    let two = and_parts (state_of page == stalled_state) _ one.1 in
    let three = and_parts (size_of page == h.size) _ two.1 in
    let four = and_parts (same_name (guid_of page) h.guid) (scn_of page == h.scn + 1) three.1 in
    let scn = eqb-true (scn_of page) (h.scn + 1) four.1 in
    let room = header-room page one.0 (eqb-true (state_of page) 1 two.0) in
    omega (arith, scn, room)

first_of_size : (h : Head) (size : ℕ) (page : Page) → h.size ≡ size → is_first_page h page ≡ true → is_first_page (record h { size = size }) page ≡ true
unfolding is_first_page
first_of_size h size page same is = sym (ap (λ (n : ℕ). is_header page && (state_of page == stalled_state && (size_of page == n && (same_name (guid_of page) h.guid && scn_of page == h.scn + 1)))) same) ∙ is

-- pages that rise, with a page 0, begin with it
record BeginsWith (page : Page) (rs : List Numbered) : Type 0 where
  pub more : List Numbered
  pub is : rs ≡ (0, page) ∷ more
  pub rising : AreRising 1 more

begins : (page : Page) (rs : List Numbered) → AreRising 0 rs → page_of 0 rs ≡ Some page → BeginsWith page rs
begins page [] rise there = absurd (some_none page (sym there))
begins page (r ∷ rs) rise there = elim (eqb_tells r.0 0) [
  | inl w ↦
      let number : r.0 ≡ 0 = w.1 in
      let here : page_of 0 (r ∷ rs) ≡ Some r.1 = ap (λ (n : ℕ). page_of 0 ((n, r.1) ∷ rs)) number in
      let same : r.1 ≡ page = some_same r.1 page (sym here ∙ there) in
      record { more = rs; is = ap (λ (n : ℕ). (n, r.1) ∷ rs) number ∙ ap (λ (x : Page). (0, x) ∷ rs) same; rising = subst (λ (n : ℕ). AreRising (n + 1) rs) number rise.2 }
  | inr w ↦
      let some : 1 ≤ r.0 = above r.0 w.1 in
      absurd (some_none page (sym there ∙ none_below 0 1 (r ∷ rs) (some, rise.1, rise.2) (omega arith)))
]
  where
    above : (n : ℕ) → n ≢ 0 → 1 ≤ n
    above n other = omega (arith, other)

-- ---- the fold is read

-- page 0 is told by the size, the GUID and the SCN
of_first : (c : Contents) (cs : List Contents) (page : Page) → is_first_page (record (last_head (c ∷ cs)) { size = c.head.size }) page ≡ true → is_first_page (folded_head (c ∷ cs)) page ≡ true
unfolding is_first_page
of_first c cs page is = is

read_of : (c : Contents) (cs : List Contents) → AllHave (c ∷ cs) → AreOf c.head.size (c ∷ cs) → AreRising 0 (folded_pages (pages_of_each (c ∷ cs))) → page_of 0 (folded_pages (pages_of_each (c ∷ cs))) ≡ last_page 0 (pages_of_each (c ∷ cs))
    → c.head.previous_scn < (last_head (c ∷ cs)).scn → read_level (bytes_for (folded (c ∷ cs))) ≡ Ok (folded (c ∷ cs))
unfolding folded
read_of c cs have same rise zero_is later =
    let h : Head = folded_head (c ∷ cs) in
    let rss : List (List Numbered) = pages_of_each (c ∷ cs) in
    let first = last_zero c cs have in
    let begin = begins first.page (folded_pages rss) rise (zero_is ∙ first.is) in
    let sizes : AreOfSize h.size (folded_pages rss) = folded_sizes h.size most_pages 0 rss (all_of_size h.size (c ∷ cs) have same) in
    level_read (level_bytes 102 h (folded_pages rss)) 102 h (0, first.page) begin.more (record {
      spelled = ap (level_bytes 102 h) begin.is;
      known = refl;
      head = record {
        level = have.0.level;
        guid = last_guid c cs have;
        previous = have.0.previous;
        size = have.0.size;
        scn = scn_room (last_head (c ∷ cs)) first.page first.first;
        later = later;
      };
      first = refl;
      header = of_first c cs first.page (first_of_size (last_head (c ∷ cs)) c.head.size first.page (last_size c.head.size c cs same) first.first);
      rising = begin.rising;
      sizes = subst (AreOfSize h.size) begin.is sizes;
    })
    ∙ ap (λ (rs : List Numbered). Ok (record { version = 102; head = h; pages = rs })) (sym begin.is)

same : (c : Contents) (cs : List Contents) → AreOf (folded (c ∷ cs)).head.size (c ∷ cs) → AreOf c.head.size (c ∷ cs)
unfolding folded
same c cs are = are

pub fold_read : (files : Files) (name : List ℕ) (names : List (List ℕ)) (cs : List Contents) → chained files (name ∷ names) ≡ Ok cs → read_level (bytes_for (folded cs)) ≡ Ok (folded cs)
fold_read files name names cs e =
    let are = next_files files None name names cs e in
    let all : chained files (name ∷ names) ≡ Ok (are.first ∷ are.rest) = e ∙ ap (λ (x : List Contents). Ok x) are.all in
    let have = files_have files None (name ∷ names) (are.first ∷ are.rest) all in
    let rise = files_rise files None (name ∷ names) (are.first ∷ are.rest) all in
    let later = last_later files are.first names are.rest are.more in
    subst (λ (x : List Contents). read_level (bytes_for (folded x)) ≡ Ok (folded x)) (sym are.all)
    (read_of are.first are.rest have (same are.first are.rest (sizes_alike files (name ∷ names) (are.first ∷ are.rest) all)) (folded_rises most_pages 0 (pages_of_each (are.first ∷ are.rest)) (omega arith))
    (folded_page 0 (pages_of_each (are.first ∷ are.rest)) rise) (let low = have.0.later in omega (arith, low, later)))

-- ---- what goes on from a link

is_behind : (k : ℕ) (last : Link) (name : List ℕ) (c : Contents) → GoesBehind k last c.head → not_behind k last name c ≡ None
unfolding not_behind
is_behind k last name c goes =
    four_none _ _ _ _ (when_not _ _ (eq_yes _ _ goes.level)) (when_not _ _ (ap (λ (g : List ℕ). same_name g last.guid) goes.previous ∙ same_self last.guid)) (when_not _ _ (eq_yes _ _ goes.size))
    (when_not _ _ (eq_yes _ _ goes.previous_scn))

-- ---- a file of a chain

module _ (files : Files) (k : ℕ) (last : Link) (name : List ℕ) (names : List (List ℕ)) where
  next_there : (bytes : List ℕ) (l : Link) → files name ≡ Some bytes → next_link k last name bytes ≡ Ok l → next_links files k last (name ∷ names) ≡ linked l (next_links files (k + 1) l names)
  unfolding next_links
  next_there bytes l there link = rw (there, next_links) (rw (link, next_links) refl)

  next_broken : (bytes : List ℕ) (r : Refusal) → files name ≡ Some bytes → next_link k last name bytes ≡ Err r → next_links files k last (name ∷ names) ≡ Err r
  unfolding next_links
  next_broken bytes r there link = rw (there, next_links) (rw (link, next_links) refl)

  next_missing : files name ≡ None → next_links files k last (name ∷ names) ≡ Err (NoFile name)
  unfolding next_links
  next_missing none = rw (none, next_links) refl

module _ (files : Files) (name : List ℕ) (names : List (List ℕ)) where
  first_there : (bytes : List ℕ) (l : Link) → files name ≡ Some bytes → first_link name bytes ≡ Ok l → verdict files (name ∷ names) ≡ linked l (next_links files 1 l names)
  unfolding verdict
  first_there bytes l there link = rw (there, verdict) (rw (link, verdict) refl)

  first_broken : (bytes : List ℕ) (r : Refusal) → files name ≡ Some bytes → first_link name bytes ≡ Err r → verdict files (name ∷ names) ≡ Err r
  unfolding verdict
  first_broken bytes r there link = rw (there, verdict) (rw (link, verdict) refl)

  first_missing : files name ≡ None → verdict files (name ∷ names) ≡ Err (NoFile name)
  unfolding verdict
  first_missing none = rw (none, verdict) refl

-- files that go on from one another are a chain's
chain_links : (files : Files) (k : ℕ) (c : Contents) (names : List (List ℕ)) (cs : List Contents) → c.head.level + 1 ≡ k → files_after files (Some c) names ≡ Ok cs → next_links files k (level_link c) names ≡ Ok (links_of cs)
chain_links files k c [] cs level e = none_left files k (level_link c) ∙ ap (λ (x : List Contents). Ok (links_of x)) (sym (no_files files (Some c) cs e))
chain_links files k c (name ∷ names) cs level e =
    let are = next_files files (Some c) name names cs e in
    let next = are.next in
    let after = goes_after c name are.first next.after in
    let accepted = accepts k (level_link c) name next.bytes are.first (level_begins next.bytes are.first next.read) next.read (subst (λ (n : ℕ). not_behind n (level_link c) name are.first ≡ None) level next.after) in
    next_there files k (level_link c) name names next.bytes (level_link are.first) next.there accepted
    ∙ ap (linked (level_link are.first)) (chain_links files (k + 1) are.first names are.rest (ap (λ (n : ℕ). n + 1) (after.level ∙ level)) are.more) ∙ ap (λ (x : List Contents). Ok (links_of x)) (sym are.all)

-- ---- chains with these ends

-- both are accepted, or neither is
abbrev Alike : (cs : List Contents) → (many one : Result (List Link) Refusal) → Type 0
Alike cs (Ok ls) (Ok ms) = (front : List Link) × (ls ≡ front ++ links_of cs) × (ms ≡ front ++ level_link (folded cs) ∷ [])
Alike cs (Ok ls) (Err r) = ⊥
Alike cs (Err r) (Ok ms) = ⊥
Alike cs (Err r) (Err q) = Unit {0}

alike_more : (cs : List Contents) (l : Link) (many one : Result (List Link) Refusal) → Alike cs many one → Alike cs (linked l many) (linked l one)
alike_more cs l (Ok ls) (Ok ms) is = (l ∷ is.0, ap (λ (x : List Link). l ∷ x) is.1, ap (λ (x : List Link). l ∷ x) is.2)
alike_more cs l (Ok ls) (Err r) is = absurd is
alike_more cs l (Err r) (Ok ms) is = absurd is
alike_more cs l (Err r) (Err q) is = tt

alike_are : (cs : List Contents) (many one xs ys : Result (List Link) Refusal) → many ≡ xs → one ≡ ys → Alike cs xs ys → Alike cs many one
alike_are cs many one xs ys e f is = subst (λ (x : Result (List Link) Refusal). Alike cs x one) (sym e) (subst (λ (x : Result (List Link) Refusal). Alike cs xs x) (sym f) is)

module _ (files : Files) (name : List ℕ) (names : List (List ℕ)) (out : List ℕ) (cs : List Contents) (fold : IsFoldOf files name names out cs) where
  are : AreNextFiles files None name names cs
  are = next_files files None name names cs fold.accepted

  read : read_level (bytes_for (folded cs)) ≡ Ok (folded cs)
  read = fold_read files name names cs fold.accepted

  -- the fold goes on from what the first goes on from
  same_level : (folded cs).head.level ≡ are.first.head.level
  unfolding folded
  same_level = ap (λ (x : List Contents). (folded_head x).level) are.all

  same_previous : (folded cs).head.previous ≡ are.first.head.previous
  unfolding folded
  same_previous = ap (λ (x : List Contents). (folded_head x).previous) are.all

  same_size : (folded cs).head.size ≡ are.first.head.size
  unfolding folded
  same_size = ap (λ (x : List Contents). (folded_head x).size) are.all

  same_scn : (folded cs).head.previous_scn ≡ are.first.head.previous_scn
  unfolding folded
  same_scn = ap (λ (x : List Contents). (folded_head x).previous_scn) are.all

  ends_alike : (k : ℕ) (last : Link) → Alike cs (next_links files k last (name ∷ names)) (next_links files k last (out ∷ []))
  ends_alike k last = by (not_behind k last name are.first) (not_behind k last out (folded cs)) refl refl
    where
      many_begin : begins_level are.next.bytes ≡ true
      many_begin = level_begins are.next.bytes are.first are.next.read

      one_begins : begins_level (bytes_for (folded cs)) ≡ true
      one_begins = level_begins (bytes_for (folded cs)) (folded cs) read

      many_go : not_behind k last name are.first ≡ None → next_links files k last (name ∷ names) ≡ Ok (links_of cs)
      many_go none =
          let goes = goes_behind k last name are.first none in
          next_there files k last name names are.next.bytes (level_link are.first) are.next.there (accepts k last name are.next.bytes are.first many_begin are.next.read none)
          ∙ ap (linked (level_link are.first)) (chain_links files (k + 1) are.first names are.rest (ap (λ (n : ℕ). n + 1) goes.level) are.more) ∙ ap (λ (x : List Contents). Ok (links_of x)) (sym are.all)

      one_goes : not_behind k last out (folded cs) ≡ None → next_links files k last (out ∷ []) ≡ Ok (level_link (folded cs) ∷ [])
      one_goes none =
          next_there files k last out [] (bytes_for (folded cs)) (level_link (folded cs)) fold.there (accepts k last out (bytes_for (folded cs)) (folded cs) one_begins read none)
          ∙ ap (linked (level_link (folded cs))) (none_left files (k + 1) (level_link (folded cs)))

      many_stop : (r : Refusal) → not_behind k last name are.first ≡ Some r → next_links files k last (name ∷ names) ≡ Err r
      many_stop r is = next_broken files k last name names are.next.bytes r are.next.there (level_refused k last name are.next.bytes are.first r many_begin are.next.read is)

      one_stops : (r : Refusal) → not_behind k last out (folded cs) ≡ Some r → next_links files k last (out ∷ []) ≡ Err r
      one_stops r is = next_broken files k last out [] (bytes_for (folded cs)) r fold.there (level_refused k last out (bytes_for (folded cs)) (folded cs) r one_begins read is)

      one_if_many : not_behind k last name are.first ≡ None → not_behind k last out (folded cs) ≡ None
      one_if_many none =
          let goes = goes_behind k last name are.first none in
          is_behind k last out (folded cs) (record { level = same_level ∙ goes.level; previous = same_previous ∙ goes.previous; size = same_size ∙ goes.size; previous_scn = same_scn ∙ goes.previous_scn })

      many_if_one : not_behind k last out (folded cs) ≡ None → not_behind k last name are.first ≡ None
      many_if_one none =
          let goes = goes_behind k last out (folded cs) none in
          is_behind k last name are.first
          (record { level = sym same_level ∙ goes.level; previous = sym same_previous ∙ goes.previous; size = sym same_size ∙ goes.size; previous_scn = sym same_scn ∙ goes.previous_scn })

      by : (a b : Cause) → not_behind k last name are.first ≡ a → not_behind k last out (folded cs) ≡ b → Alike cs (next_links files k last (name ∷ names)) (next_links files k last (out ∷ []))
      by None None e f = alike_are cs _ _ (Ok (links_of cs)) (Ok (level_link (folded cs) ∷ [])) (many_go e) (one_goes f) ([], refl, refl)
      by None (Some r) e f = absurd (none_and_some (not_behind k last out (folded cs)) r (one_if_many e) f)
      by (Some r) None e f = absurd (none_and_some (not_behind k last name are.first) r (many_if_one f) e)
      by (Some r) (Some q) e f = alike_are cs _ _ (Err r) (Err q) (many_stop r e) (one_stops q f) tt

  links_alike : (before : List (List ℕ)) (k : ℕ) (last : Link) → Alike cs (next_links files k last (before ++ name ∷ names)) (next_links files k last (before ++ out ∷ []))
  links_alike [] k last = ends_alike k last
  links_alike (b ∷ bs) k last = by (files b) refl (λ l. links_alike bs (k + 1) l)
    where
      by_link : (bytes : List ℕ) → files b ≡ Some bytes → (r : Result Link Refusal) → next_link k last b bytes ≡ r → ((l : Link) → Alike cs (next_links files (k + 1) l (bs ++ name ∷ names)) (next_links files (k + 1) l (bs ++ out ∷ [])))
          → Alike cs (next_links files k last (b ∷ bs ++ name ∷ names)) (next_links files k last (b ∷ bs ++ out ∷ []))
      by_link bytes there (Err r) is further =
          alike_are cs _ _ (Err r) (Err r) (next_broken files k last b (bs ++ name ∷ names) bytes r there is) (next_broken files k last b (bs ++ out ∷ []) bytes r there is) tt
      by_link bytes there (Ok l) is further =
          alike_are cs _ _ (linked l (next_links files (k + 1) l (bs ++ name ∷ names))) (linked l (next_links files (k + 1) l (bs ++ out ∷ []))) (next_there files k last b (bs ++ name ∷ names) bytes l there is)
          (next_there files k last b (bs ++ out ∷ []) bytes l there is) (alike_more cs l _ _ (further l))

      by : (file : File) → files b ≡ file → ((l : Link) → Alike cs (next_links files (k + 1) l (bs ++ name ∷ names)) (next_links files (k + 1) l (bs ++ out ∷ [])))
          → Alike cs (next_links files k last (b ∷ bs ++ name ∷ names)) (next_links files k last (b ∷ bs ++ out ∷ []))
      by None is further = alike_are cs _ _ (Err (NoFile b)) (Err (NoFile b)) (next_missing files k last b (bs ++ name ∷ names) is) (next_missing files k last b (bs ++ out ∷ []) is) tt
      by (Some bytes) is further = by_link bytes is (next_link k last b bytes) refl further

  verdicts_alike : (before : List (List ℕ)) → Alike cs (verdict files (before ++ name ∷ names)) (verdict files (before ++ out ∷ []))
  verdicts_alike [] =
      alike_are cs _ _ (Err (ChainLevel name are.first.head.level 0)) (Err (ChainLevel out (folded cs).head.level 0)) (verdict_first files name names are.next.bytes are.first are.next.there are.next.read)
      (verdict_first files out [] (bytes_for (folded cs)) (folded cs) fold.there read) tt
  verdicts_alike (b ∷ bs) = by (files b) refl
    where
      by_link : (bytes : List ℕ) → files b ≡ Some bytes → (r : Result Link Refusal) → first_link b bytes ≡ r → Alike cs (verdict files (b ∷ bs ++ name ∷ names)) (verdict files (b ∷ bs ++ out ∷ []))
      by_link bytes there (Err r) is = alike_are cs _ _ (Err r) (Err r) (first_broken files b (bs ++ name ∷ names) bytes r there is) (first_broken files b (bs ++ out ∷ []) bytes r there is) tt
      by_link bytes there (Ok l) is =
          alike_are cs _ _ (linked l (next_links files 1 l (bs ++ name ∷ names))) (linked l (next_links files 1 l (bs ++ out ∷ []))) (first_there files b (bs ++ name ∷ names) bytes l there is)
          (first_there files b (bs ++ out ∷ []) bytes l there is) (alike_more cs l _ _ (links_alike bs 1 l))

      by : (file : File) → files b ≡ file → Alike cs (verdict files (b ∷ bs ++ name ∷ names)) (verdict files (b ∷ bs ++ out ∷ []))
      by None is = alike_are cs _ _ (Err (NoFile b)) (Err (NoFile b)) (first_missing files b (bs ++ name ∷ names) is) (first_missing files b (bs ++ out ∷ []) is) tt
      by (Some bytes) is = by_link bytes is (first_link b bytes) refl

  pub give_the_same : (before : List (List ℕ)) → GiveTheSame files (before ++ name ∷ names) (before ++ out ∷ [])
  give_the_same before =
      record { one_gives = λ image gives. to_one (verdict files many) (verdict files one) refl refl (verdicts_alike before) image gives; many_give = λ image gives. to_many (verdict files many) (verdict files one) refl refl (verdicts_alike before) image gives }
    where
      many : List (List ℕ)
      many = before ++ name ∷ names

      one : List (List ℕ)
      one = before ++ out ∷ []

      same : (ls ms : List Link) → Alike cs (Ok ls) (Ok ms) → applied ls ≡ applied ms
      same ls ms is = ap applied is.1 ∙ same_image files (name ∷ names) cs is.0 fold.accepted ∙ ap applied (sym is.2)

      to_one : (x y : Result (List Link) Refusal) → verdict files many ≡ x → verdict files one ≡ y → Alike cs x y → (image : Image) → Gives files many image → Gives files one image
      to_one (Ok ls) (Ok ms) e f is image gives =
          record { links = ms; accepted = f; image_is = sym (same ls ms is) ∙ ap applied (ok_same ls gives.links (verdict files many) e gives.accepted) ∙ gives.image_is }
      to_one (Ok ls) (Err r) e f is image gives = absurd is
      to_one (Err r) y e f is image gives = absurd (err_not_ok r gives.links (verdict files many) e gives.accepted)

      to_many : (x y : Result (List Link) Refusal) → verdict files many ≡ x → verdict files one ≡ y → Alike cs x y → (image : Image) → Gives files one image → Gives files many image
      to_many (Ok ls) (Ok ms) e f is image gives =
          record { links = ls; accepted = e; image_is = same ls ms is ∙ ap applied (ok_same ms gives.links (verdict files one) f gives.accepted) ∙ gives.image_is }
      to_many (Err r) (Ok ms) e f is image gives = absurd is
      to_many x (Err r) e f is image gives = absurd (err_not_ok r gives.links (verdict files one) f gives.accepted)
