-- The chains of the tables that the catalogue names, slot by slot and page by page.
use Rattle.std.proofs.Common.{◌≡◌, ℕ, ◌+◌, ◌-◌, ◌*◌, ◌/◌, ◌<◌, ◌≤◌, List, [], ◌∷◌, ◌++◌, length, refl, sym, ap, subst, ◌∙◌, arith, append_assoc, length-append, Bool, true, false, Some, None, Result, Ok, Err}
use Rattle.nb_check.proofs.Common.{append-nil, part, Refusal, Page, Image, page_at, Cause, first_cause, broken_at, Chain, Catalogue, History, RowsFrom, Slot, Spot, is_used, first_in, slots_from, slots_in, spots_on, spots_of, spots, pages_of, found_pages, used, table_chains, chains, pages_of_all, reached, slots_step, walk, Walks, chains_cause, chains_on, none_some, some_none}
use Rattle.nb_check.specs.declared.set.Marks.{Marks}
use Rattle.nb_check.specs.Marks.{IsReached}
use Rattle.nb_check.proofs.MarkLaws.{reached_none, reached_both}
use Rattle.nb_check.specs.Most.{chains_most}
use Rattle.nb_host.specs.declared.refusals.Refusal.TheVariants.{NotDatabase}
use Rattle.nb_model.proofs.ChainWalks.{found_is}
use Rattle.nb_model.proofs.GrowthTurns.{spots_both}
use Rattle.nb_walk.proofs.WalkLaws.{behind}

-- the chains in slots
pub chains_in : List Slot → List Chain
chains_in [] = []
chains_in (s ∷ ss) = elim (is_used s) [ true ↦ RowsFrom (first_in s) ∷ chains_in ss | false ↦ chains_in ss ]

-- wherever the slots stand
pub chains_spots : (p slot : ℕ) (ss : List Slot) → table_chains (used (spots_on p slot ss)) ≡ chains_in ss
unfolding table_chains used spots_on chains_in
chains_spots p slot [] = refl
chains_spots p slot (s ∷ ss) = by (is_used s) (chains_spots p (slot + 1) ss)
  where
    by : (t : Bool) → table_chains (used (spots_on p (slot + 1) ss)) ≡ chains_in ss
        → table_chains (elim t as (λ z. List Spot) [ true ↦ record { page = p; slot = slot; bytes = s } ∷ used (spots_on p (slot + 1) ss) | false ↦ used (spots_on p (slot + 1) ss) ])
        ≡ elim t as (λ z. List Chain) [ true ↦ RowsFrom (first_in s) ∷ chains_in ss | false ↦ chains_in ss ]
    by true rest = ap (λ (cs : List Chain). RowsFrom (first_in s) ∷ cs) rest
    by false rest = rest

used_append : (xs ys : List Spot) → table_chains (used (xs ++ ys)) ≡ table_chains (used xs) ++ table_chains (used ys)
unfolding table_chains used
used_append [] ys = refl
used_append (x ∷ xs) ys = by (is_used x.bytes) (used_append xs ys)
  where
    by : (t : Bool) → table_chains (used (xs ++ ys)) ≡ table_chains (used xs) ++ table_chains (used ys)
        → table_chains (elim t as (λ z. List Spot) [ true ↦ x ∷ used (xs ++ ys) | false ↦ used (xs ++ ys) ])
        ≡ table_chains (elim t as (λ z. List Spot) [ true ↦ x ∷ used xs | false ↦ used xs ]) ++ table_chains (used ys)
    by true rest = ap (λ (cs : List Chain). RowsFrom (first_in x.bytes) ∷ cs) rest
    by false rest = rest

-- the tables that pages of the catalogue name
abbrev pub chains_of_pages : Image → List ℕ → List Chain
chains_of_pages image ps = table_chains (used (spots_of image ps))

chains_both : (image : Image) (ps qs : List ℕ) → chains_of_pages image (ps ++ qs) ≡ chains_of_pages image ps ++ chains_of_pages image qs
chains_both image ps qs = ap (λ (ss : List Spot). table_chains (used ss)) (spots_both image ps qs) ∙ used_append (spots_of image ps) (spots_of image qs)

-- what the first of these pages names comes first
chains_first : (image : Image) (p : ℕ) (qs : List ℕ) → chains_of_pages image (p ∷ qs) ≡ chains_on (page_at image p) ++ chains_of_pages image qs
unfolding spots_of
chains_first image p qs =
    used_append (spots_on p 0 (slots_in (page_at image p))) (spots_of image qs)
    ∙ ap (λ (cs : List Chain). cs ++ chains_of_pages image qs) (chains_spots p 0 (slots_in (page_at image p)) ∙ sym (chains_spots 0 0 (slots_in (page_at image p))))

-- no page names none
chains_none : (image : Image) → chains_of_pages image [] ≡ []
unfolding table_chains used spots_of
chains_none image = refl

-- with one page more
chains_more : (image : Image) (ps : List ℕ) (p : ℕ) → chains_of_pages image (ps ++ p ∷ []) ≡ chains_of_pages image ps ++ chains_on (page_at image p)
chains_more image ps p =
    chains_both image ps (p ∷ []) ∙ ap (λ (cs : List Chain). chains_of_pages image ps ++ cs) (chains_first image p [] ∙ ap (λ (cs : List Chain). chains_on (page_at image p) ++ cs) (chains_none image) ∙ append-nil (chains_on (page_at image p)))

pub pages_append : (image : Image) (cs ds : List Chain) → pages_of_all image (cs ++ ds) ≡ pages_of_all image cs ++ pages_of_all image ds
unfolding pages_of_all
pages_append image [] ds = refl
pages_append image (c ∷ cs) ds = ap (λ (ps : List ℕ). found_pages c image ++ ps) (pages_append image cs ds) ∙ sym (append_assoc (found_pages c image) (pages_of_all image cs) (pages_of_all image ds))

-- the first cause of a list, after one
abbrev or_else : Cause → Cause → Cause
or_else c d = elim c as (λ z. Cause) [ None ↦ d | Some r ↦ Some r ]

cause_first : (image : Image) (c : Chain) (cs : List Chain) → chains_cause image (c ∷ cs) ≡ or_else (broken_at (pages_of c image)) (chains_cause image cs)
unfolding first_cause
cause_first image c cs = refl

pub cause_none : (image : Image) → chains_cause image [] ≡ None
unfolding first_cause
cause_none image = refl

-- the chains of a list are of the form, and so the first that isn't is behind them
pub cause_behind : (image : Image) (cs ds : List Chain) → chains_cause image cs ≡ None → chains_cause image (cs ++ ds) ≡ chains_cause image ds
cause_behind image [] ds none = refl
cause_behind image (c ∷ cs) ds none = by (broken_at (pages_of c image)) refl (cause_behind image cs ds)
  where
    by : (o : Cause) → broken_at (pages_of c image) ≡ o → (chains_cause image cs ≡ None → chains_cause image (cs ++ ds) ≡ chains_cause image ds) → chains_cause image ((c ∷ cs) ++ ds) ≡ chains_cause image ds
    by (Some r) e rest = absurd (some_none r (sym (cause_first image c cs ∙ ap (λ (o : Cause). or_else o (chains_cause image cs)) e) ∙ none))
    by None e rest =
        cause_first image c (cs ++ ds) ∙ ap (λ (o : Cause). or_else o (chains_cause image (cs ++ ds))) e
        ∙ rest (sym (cause_first image c cs ∙ ap (λ (o : Cause). or_else o (chains_cause image cs)) e) ∙ none)

pub cause_here : (image : Image) (c : Chain) (cs : List Chain) (r : Refusal) → broken_at (pages_of c image) ≡ Some r → chains_cause image (c ∷ cs) ≡ Some r
cause_here image c cs r e = cause_first image c cs ∙ ap (λ (o : Cause). or_else o (chains_cause image cs)) e

pub cause_later : (image : Image) (c : Chain) (cs : List Chain) → broken_at (pages_of c image) ≡ None → chains_cause image (c ∷ cs) ≡ chains_cause image cs
cause_later image c cs e = cause_first image c cs ∙ ap (λ (o : Cause). or_else o (chains_cause image cs)) e

-- or the first that isn't is among them
cause_front : (image : Image) (cs ds : List Chain) (r : Refusal) → chains_cause image cs ≡ Some r → chains_cause image (cs ++ ds) ≡ Some r
cause_front image [] ds r some = absurd (none_some r (sym (cause_none image) ∙ some))
cause_front image (c ∷ cs) ds r some = by (broken_at (pages_of c image)) refl (cause_front image cs ds r)
  where
    by : (o : Cause) → broken_at (pages_of c image) ≡ o → (chains_cause image cs ≡ Some r → chains_cause image (cs ++ ds) ≡ Some r) → chains_cause image (c ∷ (cs ++ ds)) ≡ Some r
    by None e rest = cause_later image c (cs ++ ds) e ∙ rest (sym (cause_later image c cs e) ∙ some)
    by (Some q) e rest = cause_here image c (cs ++ ds) q e ∙ sym (cause_here image c cs q e) ∙ some

-- These chains are of the form, and their pages were taken out of the set, each by one read at most.
pub record AreOut (image : Image) (cs : List Chain) (before after : Marks) (old now : ℕ) : Type 0 where
  pub formed : chains_cause image cs ≡ None
  pub out : IsReached before (pages_of_all image cs) after
  pub few : now ≤ old + length (pages_of_all image cs)

pub out_none : (image : Image) (set : Marks) (reads : ℕ) → AreOut image [] set set reads reads
unfolding pages_of_all
out_none image set reads = record { formed = cause_none image; out = reached_none set; few = omega arith }

pub out_one : (image : Image) (c : Chain) (before after : Marks) (old now : ℕ) → broken_at (pages_of c image) ≡ None → IsReached before (found_pages c image) after → now ≤ old + length (found_pages c image) → AreOut image (c ∷ []) before after old now
unfolding pages_of_all
out_one image c before after old now formed out few =
    let all : found_pages c image ++ [] ≡ found_pages c image = append-nil (found_pages c image) in
    record {
      formed = cause_later image c [] formed ∙ cause_none image;
      out = subst (λ (ps : List ℕ). IsReached before ps after) (sym all) out;
      few = (let same = ap length all in omega (arith, few, same));
    }

pub out_both : (image : Image) (cs ds : List Chain) (before mid after : Marks) (old then now : ℕ) → AreOut image cs before mid old then → AreOut image ds mid after then now → AreOut image (cs ++ ds) before after old now
out_both image cs ds before mid after old then now one two =
    let all = pages_append image cs ds in
    record {
      formed = cause_behind image cs ds one.formed ∙ two.formed;
      out = subst (λ (ps : List ℕ). IsReached before ps after) (sym all) (reached_both before (pages_of_all image cs) mid (pages_of_all image ds) after one.out two.out);
      few = (let same = ap length all ∙ length-append (pages_of_all image cs) (pages_of_all image ds) in let first = one.few in let second = two.few in omega (arith, first, second, same));
    }

-- The chains in the slots of a page of the catalogue, up to one slot.
pub record Lists (image : Image) (listed : Page) (before after : Marks) (old now count slot : ℕ) : Type 0 where
  pub front : List Chain
  pub are : chains_on listed ≡ front ++ chains_in (slots_from (count - slot) (32 + 256 * slot) listed)
  pub out : AreOut image front before after old now

pub lists_first : (image : Image) (listed : Page) (set : Marks) (reads count : ℕ) → count ≡ (length listed - 32) / 256 → Lists image listed set set reads reads count 0
unfolding slots_in
lists_first image listed set reads count many =
    let all : (length listed - 32) / 256 ≡ count - 0 = omega (arith, many) in
    record { front = []; are = chains_spots 0 0 (slots_in listed) ∙ ap (λ (n : ℕ). chains_in (slots_from n 32 listed)) all; out = out_none image set reads }

module _ (image : Image) (listed : Page) (before : Marks) (old count slot : ℕ) (low : slot < count) where
  abbrev here : Slot
  here = part (32 + 256 * slot) 256 listed

  abbrev rest : List Slot
  rest = slots_from (count - (slot + 1)) (32 + 256 * (slot + 1)) listed

  by_use : (t : Bool) → is_used here ≡ t → chains_in (here ∷ rest) ≡ elim t as (λ z. List Chain) [ true ↦ RowsFrom (first_in here) ∷ chains_in rest | false ↦ chains_in rest ]
  unfolding chains_in
  by_use t e = ap (λ (u : Bool). elim u as (λ z. List Chain) [ true ↦ RowsFrom (first_in here) ∷ chains_in rest | false ↦ chains_in rest ]) e

  module _ (after : Marks) (now : ℕ) (l : Lists image listed before after old now count slot) where
    are_here : (t : Bool) → is_used here ≡ t → chains_on listed ≡ l.front ++ elim t as (λ z. List Chain) [ true ↦ RowsFrom (first_in here) ∷ chains_in rest | false ↦ chains_in rest ]
    are_here t e = l.are ∙ ap (λ (ss : List Slot). l.front ++ chains_in ss) (slots_step listed count slot low) ∙ ap (λ (cs : List Chain). l.front ++ cs) (by_use t e)

    -- a slot that isn't used names none
    pub lists_free : is_used here ≡ false → Lists image listed before after old now count (slot + 1)
    lists_free e = record { front = l.front; are = are_here false e; out = l.out }

    -- one that is used names a chain that is of the form
    pub lists_used : (then_set : Marks) (then : ℕ) → is_used here ≡ true → broken_at (pages_of (RowsFrom (first_in here)) image) ≡ None → IsReached after (found_pages (RowsFrom (first_in here)) image) then_set
        → then ≤ now + length (found_pages (RowsFrom (first_in here)) image) → Lists image listed before then_set old then count (slot + 1)
    lists_used then_set then e formed out few = record {
      front = l.front ++ RowsFrom (first_in here) ∷ [];
      are = are_here true e ∙ sym (append_assoc l.front (RowsFrom (first_in here) ∷ []) (chains_in rest));
      out = out_both image l.front (RowsFrom (first_in here) ∷ []) before after then_set old now then l.out (out_one image (RowsFrom (first_in here)) after then_set now then formed out few);
    }

    -- or one that isn't
    pub lists_broken : (r : Refusal) → is_used here ≡ true → broken_at (pages_of (RowsFrom (first_in here)) image) ≡ Some r → chains_cause image (chains_on listed) ≡ Some r
    lists_broken r e broken =
        ap (chains_cause image) (are_here true e) ∙ cause_behind image l.front (RowsFrom (first_in here) ∷ chains_in rest) l.out.formed ∙ cause_here image (RowsFrom (first_in here)) (chains_in rest) r broken

pub lists_last : (image : Image) (listed : Page) (before after : Marks) (old now count slot : ℕ) → count ≤ slot → Lists image listed before after old now count slot → AreOut image (chains_on listed) before after old now
unfolding slots_from chains_in
lists_last image listed before after old now count slot far l =
    let none : count - slot ≡ 0 = omega (arith, far) in
    let all : chains_on listed ≡ l.front = l.are ∙ ap (λ (n : ℕ). l.front ++ chains_in (slots_from n (32 + 256 * slot) listed)) none ∙ append-nil l.front in
    subst (λ (cs : List Chain). AreOut image cs before after old now) (sym all) l.out

-- what was read so far is no more than all chains of the page take
pub lists_few : (image : Image) (listed : Page) (before after : Marks) (old now count slot : ℕ) → Lists image listed before after old now count slot → now ≤ old + length (pages_of_all image (chains_on listed))
lists_few image listed before after old now count slot l =
    let rest : List Chain = chains_in (slots_from (count - slot) (32 + 256 * slot) listed) in
    let all : length (pages_of_all image (chains_on listed)) ≡ length (pages_of_all image l.front) + length (pages_of_all image rest) =
    ap (λ (cs : List Chain). length (pages_of_all image cs)) l.are ∙ ap length (pages_append image l.front rest) ∙ length-append (pages_of_all image l.front) (pages_of_all image rest) in
    let few = l.out.few in omega (arith, all, few)

-- The tables that the pages of the catalogue so far name.
pub tables_begun : (image : Image) (set : Marks) (reads : ℕ) → AreOut image (chains_of_pages image []) set set (reads + 0) reads
tables_begun image set reads =
    let none : reads ≡ reads + 0 = omega arith in
    subst (λ (cs : List Chain). AreOut image cs set set (reads + 0) reads) (sym (chains_none image)) (subst (λ (n : ℕ). AreOut image [] set set n reads) none (out_none image set reads))

pub tables_more : (image : Image) (ps : List ℕ) (p : ℕ) (listed : Page) (before mid after : Marks) (old reads taken now : ℕ) → listed ≡ page_at image p → AreOut image (chains_of_pages image ps) before mid (old + length ps) reads → taken ≤ reads + 1
    → chains_cause image (chains_on listed) ≡ None → IsReached mid (pages_of_all image (chains_on listed)) after → now ≤ taken + length (pages_of_all image (chains_on listed))
    → AreOut image (chains_of_pages image (ps ++ p ∷ [])) before after (old + length (ps ++ p ∷ [])) now
tables_more image ps p listed before mid after old reads taken now at so one formed out few =
    let all : chains_of_pages image (ps ++ p ∷ []) ≡ chains_of_pages image ps ++ chains_on listed = chains_more image ps p ∙ ap (λ (page : Page). chains_of_pages image ps ++ chains_on page) (sym at) in
    let both : pages_of_all image (chains_of_pages image (ps ++ p ∷ [])) ≡ pages_of_all image (chains_of_pages image ps) ++ pages_of_all image (chains_on listed) =
    ap (pages_of_all image) all ∙ pages_append image (chains_of_pages image ps) (chains_on listed) in
    record {
      formed = ap (chains_cause image) all ∙ cause_behind image (chains_of_pages image ps) (chains_on listed) so.formed ∙ formed;
      out = subst (λ (qs : List ℕ). IsReached before qs after) (sym both) (reached_both before (pages_of_all image (chains_of_pages image ps)) mid (pages_of_all image (chains_on listed)) after so.out out);
      few =
          (let first = so.few in
          let more = length-append ps (p ∷ []) in
          let same = ap length both ∙ length-append (pages_of_all image (chains_of_pages image ps)) (pages_of_all image (chains_on listed)) in
          omega (arith, first, one, few, more, same));
    }

-- all tables of the catalogue
abbrev pub tables : Image → List Chain
tables image = table_chains (used (spots Catalogue image))

pub tables_are : (image : Image) → chains_of_pages image (found_pages Catalogue image) ≡ tables image
unfolding spots
tables_are image = refl

pub tables_broken : (image : Image) (ps : List ℕ) (p : ℕ) (rest : List ℕ) (listed : Page) (r : Refusal) → found_pages Catalogue image ≡ ps ++ (p ∷ rest) → listed ≡ page_at image p → chains_cause image (chains_of_pages image ps) ≡ None
    → chains_cause image (chains_on listed) ≡ Some r → chains_cause image (tables image) ≡ Some r
tables_broken image ps p rest listed r found at formed broken =
    ap (chains_cause image) (sym (tables_are image) ∙ ap (chains_of_pages image) found ∙ chains_both image ps (p ∷ rest))
    ∙ cause_behind image (chains_of_pages image ps) (chains_of_pages image (p ∷ rest)) formed ∙ ap (chains_cause image) (chains_first image p rest)
    ∙ cause_front image (chains_on (page_at image p)) (chains_of_pages image rest) r (ap (λ (page : Page). chains_cause image (chains_on page)) (sym at) ∙ broken)

-- The catalogue is of the form, and these are its first pages: what was read of them and of the tables that they name leaves the reads of the others.
pub tables_few : (image : Image) (seen rest : List ℕ) (old now : ℕ) → found_pages Catalogue image ≡ seen ++ rest → now ≤ old + length seen + length (pages_of_all image (chains_of_pages image seen))
    → now + length rest + length (pages_of_all image (chains_of_pages image rest)) ≤ old + length (found_pages Catalogue image) + length (pages_of_all image (tables image))
tables_few image seen rest old now is so =
    let long : length (found_pages Catalogue image) ≡ length seen + length rest = ap length is ∙ length-append seen rest in
    let all : tables image ≡ chains_of_pages image seen ++ chains_of_pages image rest = sym (tables_are image) ∙ ap (chains_of_pages image) is ∙ chains_both image seen rest in
    let pages : length (pages_of_all image (tables image)) ≡ length (pages_of_all image (chains_of_pages image seen)) + length (pages_of_all image (chains_of_pages image rest)) =
    ap (λ (cs : List Chain). length (pages_of_all image cs)) all ∙ ap length (pages_append image (chains_of_pages image seen) (chains_of_pages image rest))
    ∙ length-append (pages_of_all image (chains_of_pages image seen)) (pages_of_all image (chains_of_pages image rest)) in
    omega (arith, long, pages, so)

-- the same, where the next of them is read, and some of the tables that it names
pub listed_few : (image : Image) (seen : List ℕ) (p : ℕ) (rest : List ℕ) (listed : Page) (old before mid now more : ℕ) → found_pages Catalogue image ≡ seen ++ (p ∷ rest) → listed ≡ page_at image p → before ≤ old + length seen + length (pages_of_all image (chains_of_pages image seen))
    → mid ≤ before + 1 → now ≤ mid + length (pages_of_all image (chains_on listed)) + more → now ≤ old + length (found_pages Catalogue image) + length (pages_of_all image (tables image)) + more
listed_few image seen p rest listed old before mid now more is at so one few =
    let all = tables_few image seen (p ∷ rest) old before is so in
    let here : length (pages_of_all image (chains_of_pages image (p ∷ rest))) ≡ length (pages_of_all image (chains_on listed)) + length (pages_of_all image (chains_of_pages image rest)) =
    ap (λ (cs : List Chain). length (pages_of_all image cs)) (chains_first image p rest ∙ ap (λ (page : Page). chains_on page ++ chains_of_pages image rest) (sym at))
    ∙ ap length (pages_append image (chains_on listed) (chains_of_pages image rest)) ∙ length-append (pages_of_all image (chains_on listed)) (pages_of_all image (chains_of_pages image rest)) in
    omega (arith, all, here, one, few)

-- a walk over a chain of the form has come by its first pages
pub seen_first : (chain : Chain) (image : Image) (P : List ℕ → Type 0) (left number : ℕ) (walks : Walks chain image P left number) → broken_at (pages_of chain image) ≡ None → (rest : List ℕ) × (found_pages chain image ≡ walks.seen ++ rest)
seen_first chain image P left number walks formed = by (walk left chain image number) walks.are
  where
    by : (r : Result (List ℕ) ℕ) → pages_of chain image ≡ behind walks.seen r → (rest : List ℕ) × (found_pages chain image ≡ walks.seen ++ rest)
    by (Ok ps) are = (ps, found_is chain image (walks.seen ++ ps) are)
    by (Err p) are = absurd (none_some (NotDatabase p) (sym formed ∙ ap broken_at are))

-- The catalogue, the history, and then the tables.
pub first_broken : (image : Image) (r : Refusal) → broken_at (pages_of Catalogue image) ≡ Some r → chains_cause image (chains image) ≡ Some r
unfolding chains
first_broken image r e = cause_here image Catalogue (History ∷ tables image) r e

pub second_broken : (image : Image) (r : Refusal) → broken_at (pages_of Catalogue image) ≡ None → broken_at (pages_of History image) ≡ Some r → chains_cause image (chains image) ≡ Some r
unfolding chains
second_broken image r one e = cause_later image Catalogue (History ∷ tables image) one ∙ cause_here image History (tables image) r e

pub rest_cause : (image : Image) → broken_at (pages_of Catalogue image) ≡ None → broken_at (pages_of History image) ≡ None → chains_cause image (chains image) ≡ chains_cause image (tables image)
unfolding chains
rest_cause image one two = cause_later image Catalogue (History ∷ tables image) one ∙ cause_later image History (tables image) two

reached_is : (image : Image) → reached image ≡ found_pages Catalogue image ++ (found_pages History image ++ pages_of_all image (tables image))
unfolding chains pages_of_all
reached_is image = refl

pub reached_out : (image : Image) (before one two after : Marks) → IsReached before (found_pages Catalogue image) one → IsReached one (found_pages History image) two → IsReached two (pages_of_all image (tables image)) after → IsReached before (reached image) after
reached_out image before one two after first second third =
    subst (λ (ps : List ℕ). IsReached before ps after) (sym (reached_is image))
    (reached_both before (found_pages Catalogue image) one (found_pages History image ++ pages_of_all image (tables image)) after first
    (reached_both one (found_pages History image) two (pages_of_all image (tables image)) after second third))

reached_long : (image : Image) → length (reached image) ≡ length (found_pages Catalogue image) + length (found_pages History image) + length (pages_of_all image (tables image))
reached_long image =
    let all = ap length (reached_is image) in
    let first = length-append (found_pages Catalogue image) (found_pages History image ++ pages_of_all image (tables image)) in
    let second = length-append (found_pages History image) (pages_of_all image (tables image)) in
    omega (arith, all, first, second)

-- so many reads, of the catalogue, the history, and the tables
pub reached_few : (image : Image) (old one two now : ℕ) → one ≤ old + length (found_pages Catalogue image) → two ≤ one + length (found_pages History image)
    → now ≤ two + length (found_pages Catalogue image) + length (pages_of_all image (tables image)) → now ≤ old + length (found_pages Catalogue image) + length (reached image)
reached_few image old one two now first second third = (let all = reached_long image in omega (arith, first, second, third, all))

-- and where one of them is broken
pub reached_within : (image : Image) (old one two now more : ℕ) → one ≤ old + length (found_pages Catalogue image) → two ≤ one + length (found_pages History image)
    → now ≤ two + length (found_pages Catalogue image) + length (pages_of_all image (tables image)) + more → now ≤ old + chains_most image + more
reached_within image old one two now more first second third = (let all = reached_long image in omega (arith, first, second, third, all))

pub second_within : (image : Image) (old one now more : ℕ) → one ≤ old + length (found_pages Catalogue image) → now ≤ one + more → now ≤ old + chains_most image + more
second_within image old one now more first second = omega (arith, first, second)
