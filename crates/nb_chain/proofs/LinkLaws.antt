-- Accepting the files of a chain one by one.
use Rattle.std.proofs.Common.{◌≡◌, ℕ, suc, ◌+◌, ◌<◌, ◌≤◌, List, [], ◌∷◌, ◌++◌, length, drop, get_or, refl, sym, ap, subst, ◌∙◌, arith, append_assoc, Some, None, Result, Ok, Err}
use Rattle.nb_chain.proofs.Common.{append-nil, drop_all, File, Files, Fault, Refused, Device, Memory, Refusal, NoFile, Link, next_link, next_links, not_behind, linked, first_link, verdict, Mark, Tip, Chain, all_noted, links_noted, level_reads, IsLast, tip_link, last_of, IsNext, NextRefused, NextSays, LevelsSay, AreNext}
use Rattle.std.proofs.Math.Seq.{drop-cons}
use Rattle.nb_model.proofs.ChainLaws.{none_left, step_there}

-- a link without its pages
abbrev pub bare : Link → Link
bare l = record l { pages = [] }

-- with these links before
abbrev pub linked_all : List Link → Result (List Link) Refusal → Result (List Link) Refusal
linked_all ls (Ok more) = Ok (ls ++ more)
linked_all ls (Err refusal) = Err refusal

linked_none : (r : Result (List Link) Refusal) → linked_all [] r ≡ r
linked_none (Ok more) = refl
linked_none (Err refusal) = refl

linked_more : (ls : List Link) (l : Link) (r : Result (List Link) Refusal) → linked_all ls (linked l r) ≡ linked_all (ls ++ l ∷ []) r
linked_more ls l (Ok more) = ap (λ (x : List Link). Ok x) (sym (append_assoc ls (l ∷ []) more))
linked_more ls l (Err refusal) = refl

-- what goes on from a link looks at no page of it
pub links_bare : (files : Files) (k : ℕ) (l : Link) (names : List (List ℕ)) → next_links files k l names ≡ next_links files k (record l { pages = [] }) names
unfolding next_links next_link not_behind
links_bare files k l [] = refl
links_bare files k l (name ∷ names) = refl

pub next_broken : (files : Files) (k : ℕ) (last : Link) (name : List ℕ) (names : List (List ℕ)) (bytes : List ℕ) (r : Refusal) → files name ≡ Some bytes → next_link k last name bytes ≡ Err r
    → next_links files k last (name ∷ names) ≡ Err r
unfolding next_links
next_broken files k last name names bytes r is link = rw (is, next_links) (rw (link, next_links) refl)

next_missing : (files : Files) (k : ℕ) (last : Link) (name : List ℕ) (names : List (List ℕ)) → files name ≡ None → next_links files k last (name ∷ names) ≡ Err (NoFile name)
unfolding next_links
next_missing files k last name names is = rw (is, next_links) refl

pub first_broken : (files : Files) (name : List ℕ) (names : List (List ℕ)) (bytes : List ℕ) (r : Refusal) → files name ≡ Some bytes → first_link name bytes ≡ Err r → verdict files (name ∷ names) ≡ Err r
unfolding verdict
first_broken files name names bytes r is link = rw (is, verdict) (rw (link, verdict) refl)

pub first_missing : (files : Files) (name : List ℕ) (names : List (List ℕ)) → files name ≡ None → verdict files (name ∷ names) ≡ Err (NoFile name)
unfolding verdict
first_missing files name names is = rw (is, verdict) refl

-- what is noted of one file more
noted_none : (marks : List Mark) → links_noted [] marks ≡ marks
unfolding links_noted
noted_none marks = refl

noted_more : (ls : List Link) (l : Link) (marks : List Mark) → links_noted (ls ++ l ∷ []) marks ≡ all_noted l.pages (links_noted ls marks)
unfolding links_noted
noted_more [] l marks = refl
noted_more (m ∷ ls) l marks = noted_more ls l (all_noted m.pages marks)

last_more : (first : Link) (ls : List Link) (l : Link) → last_of first (ls ++ l ∷ []) ≡ l
last_more first [] l = refl
last_more first (m ∷ ls) l = last_more m ls l

reads_more : (ls : List Link) (l : Link) → level_reads (ls ++ l ∷ []) ≡ level_reads ls + (length l.pages + 3)
reads_more [] l = omega arith
reads_more (m ∷ ls) l = let rest = reads_more ls l in omega (arith, rest)

-- So far these links were accepted after the first, up to place k, and these names are left.
pub record Accepted (files : Files) (first : Tip) (all : List (List ℕ)) (k : ℕ) (last : Tip) (left : List (List ℕ)) (old new : List Mark) (before after : ℕ) : Type 0 where
  pub links : List Link
  pub so_far : next_links files 1 (tip_link first) all ≡ linked_all links (next_links files k (tip_link last) left)
  pub next : tip_link last ≡ record (last_of (tip_link first) links) { pages = [] }
  pub marks : new ≡ links_noted links old
  pub reads : after ≤ before + level_reads links

pub accepted_none : (files : Files) (first : Tip) (all : List (List ℕ)) (marks : List Mark) (reads : ℕ) → Accepted files first all 1 first all marks marks reads reads
accepted_none files first all marks reads = record { links = []; so_far = sym (linked_none (next_links files 1 (tip_link first) all)); next = refl; marks = sym (noted_none marks); reads = omega arith }

-- the first of the names that are left
pub left_from : {X : Type 0} (xs : List X) (k : ℕ) (x : X) → k < length xs → x ≡ get_or xs k x → drop k xs ≡ x ∷ drop (k + 1) xs
left_from xs k x h is = drop-cons xs k x h ∙ ap (λ y. y ∷ drop (suc k) xs) (sym is) ∙ ap (λ (n : ℕ). x ∷ drop n xs) (let e : suc k ≡ k + 1 = omega arith in e)

pub accepted_at : (files : Files) (first : Tip) (all : List (List ℕ)) (k : ℕ) (last : Tip) (names : List (List ℕ)) (name : List ℕ) (old new : List Mark) (before after : ℕ) → k < length names → name ≡ get_or names k name
    → Accepted files first all k last (drop k names) old new before after → Accepted files first all k last (name ∷ drop (k + 1) names) old new before after
accepted_at files first all k last names name old new before after inside is accepted =
    subst (λ (left : List (List ℕ)). Accepted files first all k last left old new before after) (left_from names k name inside is) accepted

-- and after the last of them
pub accepted_end : (files : Files) (first : Tip) (all : List (List ℕ)) (k : ℕ) (last : Tip) (names : List (List ℕ)) (old new : List Mark) (before after : ℕ) → length names ≤ k
    → Accepted files first all k last (drop k names) old new before after → Accepted files first all k last [] old new before after
accepted_end files first all k last names old new before after outside accepted =
    subst (λ (left : List (List ℕ)). Accepted files first all k last left old new before after) (drop_all k names outside) accepted

pub split : {X : Type 0} (xs : List X) (x : X) → 1 ≤ length xs → x ≡ get_or xs 0 x → xs ≡ x ∷ drop 1 xs
split [] x h is = absurd (omega arith)
split (y ∷ ys) x h is = ap (λ z. z ∷ ys) (sym is)

module _ (files : Files) (first : Tip) (all : List (List ℕ)) (k : ℕ) (last : Tip) (name : List ℕ) (names : List (List ℕ)) (old new : List Mark) (before after : ℕ)
    (accepted : Accepted files first all k last (name ∷ names) old new before after) where
  -- one file more
  pub accepted_more : (tip : Tip) (new' : List Mark) (after' : ℕ) → IsNext (files name) k last name new new' after after' tip → Accepted files first all (k + 1) tip names old new' before after'
  accepted_more tip new' after' is = record {
    links = accepted.links ++ is.link ∷ [];
    so_far =
        accepted.so_far ∙ ap (linked_all accepted.links) (step_there files k (tip_link last) name names is.bytes is.link is.there is.accepted)
        ∙ linked_more accepted.links is.link (next_links files (k + 1) is.link names)
        ∙ ap (linked_all (accepted.links ++ is.link ∷ [])) (links_bare files (k + 1) is.link names ∙ sym (ap (λ (l : Link). next_links files (k + 1) l names) is.next));
    next = is.next ∙ sym (ap (λ (l : Link). bare l) (last_more (tip_link first) accepted.links is.link));
    marks = is.marks ∙ ap (all_noted is.link.pages) accepted.marks ∙ sym (noted_more accepted.links is.link old);
    reads = omega (arith, is.reads, accepted.reads, reads_more accepted.links is.link);
  }

  -- it is refused
  accepted_refused : (r : Refusal) → NextRefused (files name) k last name r → next_links files 1 (tip_link first) all ≡ Err r
  accepted_refused r refused = accepted.so_far ∙ ap (linked_all accepted.links) (from (files name) refl refused)
    where
      from : (file : File) → files name ≡ file → NextRefused file k last name r → next_links files k (tip_link last) (name ∷ names) ≡ Err r
      from None is refused = next_missing files k (tip_link last) name names is ∙ ap (λ (x : Refusal). Err x) (sym refused)
      from (Some bytes) is refused = next_broken files k (tip_link last) name names bytes r is refused

  -- a fault is passed on
  pub accepted_fault : (file : File) (new' marks : List Mark) (after' done : ℕ) (fault : Fault) → file ≡ files name → NextSays file k last name new new' after after' (Err fault) → LevelsSay files first all old marks before done (Err fault)
  accepted_fault file new' marks after' done (Refused r) there says = accepted_refused r (subst (λ (f : File). NextRefused f k last name r) there says)
  accepted_fault file new' marks after' done Device there says = tt
  accepted_fault file new' marks after' done Memory there says = tt

-- none is left
pub accepted_all : (files : Files) (first : Tip) (all : List (List ℕ)) (k : ℕ) (last : Tip) (old new : List Mark) (before after : ℕ) → Accepted files first all k last [] old new before after
    → AreNext files first all old new before after last
accepted_all files first all k last old new before after accepted = record {
  links = accepted.links;
  accepted = accepted.so_far ∙ ap (linked_all accepted.links) (none_left files k (tip_link last)) ∙ ap (λ (ls : List Link). Ok ls) (append-nil accepted.links);
  next = accepted.next;
  marks = accepted.marks;
  reads = accepted.reads;
}

-- the fields of a chain are those of the last link
pub is_last : (chain : Chain) (first : Link) (ls : List Link) → chain.page_size ≡ (last_of first ls).size → chain.guid ≡ (last_of first ls).guid → chain.scn ≡ (last_of first ls).scn → IsLast chain (first ∷ ls)
is_last chain first [] size guid scn = (size, guid, scn)
is_last chain first (m ∷ ls) size guid scn = is_last chain m ls size guid scn

-- and they don't depend on the pages of the first
pub last_bare : (first : Link) (ls : List Link) → bare (last_of (record first { pages = [] }) ls) ≡ bare (last_of first ls)
last_bare first [] = refl
last_bare first (m ∷ ls) = refl
