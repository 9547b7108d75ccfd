-- An accepted chain is read again as what it was, and gives a plan.
use Rattle.std.proofs.Common.{◌≡◌, ◌≢◌, ℕ, ◌*◌, ◌≤◌, List, [], ◌∷◌, length, drop, sym, ap, subst, ◌∙◌, arith, true, Some, Ok, Err, Contains}
use Rattle.nb_restore.proofs.Common.{and_parts, is_free_file, is_header, size_of, size_facts, most_pages, Files, Fault, Refused, Device, Memory, HasForm, Page, first_page, cut, joined, Link, whole_link, first_link, verdict, all_over, IsOfSize, Pages, pages_of, cut-joined, Reading, over, IsDone, IsAccepted, IsPrepared, PlanSays, IsLevel0, AreSources, AreReady, IsGiven, IsPlan, IsUnfinishedPage, some_same, ok_same}
use Rattle.std.specs.Global.{Vec}
use Rattle.nb_page.specs.Free.{is_free_name}
use Rattle.nb_chain.specs.declared.first_file.First.{First}
use Rattle.nb_chain.specs.Chain.{IsFirstOf}
use Rattle.nb_chain.specs.First.{FirstSays}
use Rattle.nb_chain.proofs.StartLaws.{size_is}
use Rattle.nb_restore.proofs.ChainLaws.{sources, IsSplit, split_chain, IsCopy, copy_of, copy_apart, page_0_header, page_0_size, all_apart}

-- nothing but the device fails, and memory
pub given_fails : (T : Type 0) (P : T → Type 0) (files : Files) (target : List ℕ) (names : List (List ℕ)) (fault : Fault) → IsGiven {T = T} (Err fault) P → PlanSays files target names (Err fault)
given_fails T P files target names (Refused refusal) says = absurd says
given_fails T P files target names Device says = tt
given_fails T P files target names Memory says = tt

pub done_fails : (T P : Type 0) (files : Files) (target : List ℕ) (names : List (List ℕ)) (fault : Fault) → IsDone {T = T} (Err fault) P → PlanSays files target names (Err fault)
done_fails T P files target names (Refused refusal) says = absurd says
done_fails T P files target names Device says = tt
done_fails T P files target names Memory says = absurd says

free_file : (files : Files) (name : List ℕ) → is_free_name files name ≡ true → is_free_file (files name) ≡ true
unfolding is_free_name
free_file files name free = (and_parts (is_free_file (files name)) _ free).0

module _ (files : Files) (target : List ℕ) (names : List (List ℕ)) (count : ℕ) (accepted : IsAccepted files target names count) (name : List ℕ) (others : List (List ℕ)) (named : names ≡ name ∷ others) where
  pub split : IsSplit files name others accepted.links
  split = split_chain files name others accepted.links (ap (verdict files) (sym named) ∙ accepted.accepted)

  free : is_free_file (files target) ≡ true
  free = free_file files target accepted.free

  module _ (first : First) (listed : IsFirstOf files names first) (form : HasForm first.header) (least : 5 ≤ first.pages) (most : first.pages ≤ most_pages) where
    pub says : FirstSays (files name) name (Ok first)
    says = subst (λ (ns : List (List ℕ)). IsFirstOf files ns first) named listed

    abbrev size : ℕ
    size = first.header.page_size

    abbrev bytes : List ℕ
    bytes = says.0

    there : files name ≡ Some bytes
    there = says.1

    first_is : split.first ≡ whole_link bytes
    first_is = ok_same split.first (whole_link bytes) (first_link name split.bytes) split.accepted (ap (first_link name) (some_same split.bytes bytes (sym split.there ∙ there)) ∙ says.2.accepted)

    copy : IsCopy bytes (whole_link bytes)
    copy = copy_of name bytes (whole_link bytes) says.2.accepted

    same_size : size ≡ size_of bytes
    same_size = size_is bytes first.header says.2.header

    wide : 1024 ≤ size
    wide = (size_facts size form.size).at_least

    pub whole : Pages size bytes first.pages
    whole = pages_of size first.pages bytes says.2.pages

    some : 1 ≤ length whole.pages
    some = omega (arith, whole.count, least)

    -- level 0 and the files after it
    pub level_0 : IsLevel0 files target name size first.pages whole.pages
    level_0 = record {
      apart = copy_apart files target name bytes (whole_link bytes) free there copy;
      there = there ∙ ap Some whole.is;
      long = whole.count;
      sizes = whole.sizes;
      least = least;
      most = most;
      header = page_0_header size bytes whole.pages whole.is whole.sizes some (omega (arith, wide)) ∙ copy.header;
      same = page_0_size size bytes whole.pages whole.is whole.sizes some (omega (arith, wide)) ∙ sym same_size;
    }

    pub behind : AreSources files target others size split.rest
    behind = sources files target free size 1 split.first others split.rest (ap (λ (l : Link). l.size) first_is ∙ sym same_size) split.next

    pub behind_now : (later : Files) (names_left : List (List ℕ)) → later ≡ files → names_left ≡ others → AreSources later target names_left size split.rest
    behind_now later names_left same left = subst (λ (f : Files). AreSources f target names_left size split.rest) (sym same) (subst (λ (ns : List (List ℕ)). AreSources files target ns size split.rest) (sym left) behind)

    -- the pages of the chain are those of level 0, written over
    gives : all_over accepted.links [] ≡ all_over split.rest whole.pages
    gives =
        let long : length bytes ≡ first.pages * size_of bytes = says.2.pages ∙ ap (λ k. first.pages * k) same_size in
        let cut_is : cut (size_of bytes) first.pages bytes ≡ whole.pages =
        ap (λ k. cut k first.pages bytes) (sym same_size) ∙ ap (cut size first.pages) whole.is ∙ cut-joined size first.pages whole.pages whole.sizes (omega (arith, wide)) (omega (arith, whole.count)) in
        ap (λ (ls : List Link). all_over ls []) (split.all ∙ ap (λ (l : Link). l ∷ split.rest) first_is)
        ∙ over bytes first.pages split.rest (omega (arith, wide, same_size)) long ∙ ap (all_over split.rest) cut_is

    apart : (n : List ℕ) → Contains names n → n ≢ target
    apart n among = all_apart files target size name others split.rest level_0.apart behind n (subst (λ (ns : List (List ℕ)). Contains ns n) named among)

    -- what is answered of page 0, where it is read
    pub page_0_of : (P : List Page → Type 0) (later : Files) (asked : List ℕ) (room : ℕ) → later ≡ files → asked ≡ name → room ≡ size
        → ((ps : List Page) → later asked ≡ Some (joined ps) → IsOfSize room ps → 1 ≤ length ps → is_header (first_page ps) ≡ true → P ps) → P whole.pages
    page_0_of P later asked room same is long answer =
        answer whole.pages (ap later is ∙ ap (λ (f : Files). f name) same ∙ level_0.there) (subst (λ k. IsOfSize k whole.pages) (sym long) whole.sizes) some level_0.header

    pub prepared : (start page : Vec ℕ) (readers : Vec Reading) (later : Files) → length page.items ≡ size → later ≡ files → AreReady later target size split.rest readers.items → (start.items ≡ first_page whole.pages) × IsUnfinishedPage page.items
        → IsPrepared files target names (record { count = count; pages = first.pages; first = start; page = page; readers = readers })
    prepared start page readers later long same ready read = record {
      chain = accepted;
      apart = apart;
      level_0 = name;
      others = others;
      named = named;
      pages = whole.pages;
      links = split.rest;
      rest = sym (ap (drop 1) split.all);
      gives = gives;
      plan_is = subst (λ k. IsPlan files target name k first.pages readers.items start.items page.items whole.pages split.rest) (sym long) (record {
        whole = level_0;
        ready = subst (λ (f : Files). AreReady f target size split.rest readers.items) same ready;
        page_0 = read.0;
        stands = read.1;
      });
    }
