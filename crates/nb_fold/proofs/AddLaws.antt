-- A file that is added after others that go on from one another.
use Rattle.std.proofs.Common.{◌≡◌, ℕ, suc, ◌+◌, ◌-◌, ◌<◌, ◌≤◌, List, [], ◌∷◌, ◌++◌, length, get_or, drop, refl, sym, ap, subst, ◌∙◌, arith, append_assoc, Some, None, Option, Result, Ok, Err, false, ◌==◌}
use Rattle.nb_fold.proofs.Common.{true≢false, append-nil, drop_all, File, Files, Fault, Refused, Device, Memory, Refusal, Cause, Contents, read_level, level_link, not_behind, head_of, LevelHead, TestedAlone, AddSays, AreAlike, AreChained, IsAdded, IsLast, open_reads, first_size, Held, IsGiven, IsOpened, AreOpened, AreOfPages, chained, file_after, files_after, not_after, with_files}
use Rattle.nb_chain.specs.Level.{WholeSays, LevelRefused, IsWhole}
use Rattle.nb_chain.specs.Most.{level_most}
use Rattle.nb_fold.specs.Most.{open_most}
use Rattle.nb_chain.specs.Next.{tip_link}
use Rattle.nb_chain.specs.declared.tip.Tip.{Tip}

-- the last of some files
pub last_there : (ss : List Held) (s : Held) (last : Option Contents) → 0 < length ss → s ≡ get_or ss (length ss - 1) s → IsLast ss last → (c : Contents) × (last ≡ Some c) × (head_of s.reader.head ≡ c.head)
last_there [] s last some is l = absurd (omega (arith, some))
last_there (t ∷ []) s None some is l = absurd l
last_there (t ∷ []) s (Some c) some is l = (c, refl, ap (λ (x : Held). head_of x.reader.head) is ∙ l)
last_there (t ∷ u ∷ us) s last some is l =
    last_there (u ∷ us) s last (omega arith) (is ∙ ap (λ n. get_or (t ∷ u ∷ us) n s) (let e : suc (suc (length us)) - 1 ≡ suc (suc (length us) - 1) = omega arith in e)) l

pub last_alike : (size : ℕ) (ss : List Held) (s : Held) → 0 < length ss → s ≡ get_or ss (length ss - 1) s → AreOfPages size ss → s.reader.head.page_size ≡ size
last_alike size [] s some is all = absurd (omega (arith, some))
last_alike size (t ∷ []) s some is all = ap (λ (x : Held). x.reader.head.page_size) is ∙ all.0
last_alike size (t ∷ u ∷ us) s some is all =
    last_alike size (u ∷ us) s (omega arith) (is ∙ ap (λ n. get_or (t ∷ u ∷ us) n s) (let e : suc (suc (length us)) - 1 ≡ suc (suc (length us) - 1) = omega arith in e)) all.1

pub some_of : (ss : List Held) → (length ss == 0) ≡ false → 0 < length ss
some_of [] e = absurd (true≢false e)
some_of (s ∷ ss) e = omega arith

pub no_last : (ss : List Held) (last : Option Contents) → length ss ≡ 0 → IsLast ss last → last ≡ None
no_last [] None none l = refl
no_last [] (Some c) none l = absurd l
no_last (s ∷ ss) last none l = absurd (omega (arith, none))

-- with one file more
pub last_more : (ss : List Held) (s : Held) (last : Option Contents) (c : Contents) → IsLast ss last → head_of s.reader.head ≡ c.head → IsLast (ss ++ s ∷ []) (Some c)
last_more [] s last c l is = is
last_more (t ∷ []) s last c l is = is
last_more (t ∷ u ∷ us) s last c l is = last_more (u ∷ us) s last c l is

pages_more : (size : ℕ) (ss : List Held) (s : Held) → AreOfPages size ss → s.reader.head.page_size ≡ size → AreOfPages size (ss ++ s ∷ [])
pages_more size [] s all is = (is, tt)
pages_more size (t ∷ ts) s all is = (all.0, pages_more size ts s all.1 is)

pub alike_more : (ss : List Held) (s : Held) → AreAlike ss → (0 < length ss → AreAlike ss → s.reader.head.page_size ≡ first_size ss) → AreAlike (ss ++ s ∷ [])
alike_more [] s all is = (refl, tt)
alike_more (t ∷ ts) s all is = (refl, pages_more t.reader.head.page_size ts s all.1 (is (omega arith) all))

opened_more : (files : Files) (ns : List (List ℕ)) (ss : List Held) (cs : List Contents) (n : List ℕ) (s : Held) (c : Contents) → AreOpened files ns ss cs → IsOpened files n s c → AreOpened files (ns ++ n ∷ []) (ss ++ s ∷ []) (cs ++ c ∷ [])
opened_more files [] [] [] n s c all one = (one, tt)
opened_more files [] [] (d ∷ ds) n s c all one = absurd all
opened_more files [] (t ∷ ts) cs n s c all one = absurd all
opened_more files (m ∷ ms) [] cs n s c all one = absurd all
opened_more files (m ∷ ms) (t ∷ ts) [] n s c all one = absurd all
opened_more files (m ∷ ms) (t ∷ ts) (d ∷ ds) n s c all one = (all.0, opened_more files ms ts ds n s c all.1 one)

reads_more : (cs : List Contents) (c : Contents) → open_reads (cs ++ c ∷ []) ≡ open_reads cs + (length c.pages + 4)
reads_more [] c = omega arith
reads_more (d ∷ ds) c = let rest = reads_more ds c in omega (arith, rest)

-- what goes on from the last of them goes on from its tip
pub same_test : (k j : ℕ) (tip : Tip) (last : Contents) (name : List ℕ) (c : Contents) → k ≡ j → tip.guid ≡ last.head.guid → tip.scn ≡ last.head.scn → tip.page_size ≡ last.head.size
    → not_behind k (tip_link tip) name c ≡ not_behind j (level_link last) name c
unfolding not_behind
same_test k j tip last name c place guid scn size =
    let test : (k : ℕ) (guid : List ℕ) (scn size : ℕ) → Cause = λ k guid scn size. not_behind k (record { guid = guid; scn = scn; size = size; pages = [] }) name c in
    ap (λ n. test n tip.guid tip.scn tip.page_size) place ∙ ap (λ g. test j g tip.scn tip.page_size) guid ∙ ap (λ n. test j last.head.guid n tip.page_size) scn ∙ ap (λ n. test j last.head.guid last.head.scn n) size

-- What the next file is.
module _ (files : Files) (name : List ℕ) (last : Option Contents) where
  missing : files name ≡ None → (r : Refusal) → LevelRefused None name r → file_after files last name ≡ Err r
  unfolding file_after
  missing is r refused = rw (is, file_after) (ap Err (sym refused))

  broken : (bytes : List ℕ) → files name ≡ Some bytes → (r : Refusal) → LevelRefused (Some bytes) name r → file_after files last name ≡ Err r
  unfolding file_after
  broken bytes is r refused = rw (is, file_after) (rw (refused.1, file_after) (ap Err (sym refused.2)))

  apart : (bytes : List ℕ) (c : Contents) (r : Refusal) → files name ≡ Some bytes → read_level bytes ≡ Ok c → not_after last name c ≡ Some r → file_after files last name ≡ Err r
  unfolding file_after
  apart bytes c r is read test = rw (is, file_after) (rw (read, file_after) (rw (test, file_after) refl))

  pub goes_on : (bytes : List ℕ) (c : Contents) → files name ≡ Some bytes → read_level bytes ≡ Ok c → not_after last name c ≡ None → file_after files last name ≡ Ok c
  unfolding file_after
  goes_on bytes c is read test = rw (is, file_after) (rw (read, file_after) (rw (test, file_after) refl))

  -- it is none that can be folded
  pub refused_file : (r : Refusal) (file : File) → files name ≡ file → LevelRefused file name r → file_after files last name ≡ Err r
  refused_file r None is refused = missing is r refused
  refused_file r (Some bytes) is refused = broken bytes is r refused

  pub add_unread : (old new : List Held) (before mid after : ℕ) (fault : Fault) → WholeSays (files name) name before mid (Err fault) → AddSays files name last old new before after (Err fault)
  add_unread old new before mid after (Refused r) says = refused_file r (files name) refl says
  add_unread old new before mid after Device says = tt
  add_unread old new before mid after Memory says = tt

  pub add_unopened : {T : Type 0} (P : T → Type 0) (old new : List Held) (before after : ℕ) (fault : Fault) → IsGiven (Err fault) P → AddSays files name last old new before after (Err fault)
  add_unopened P old new before after (Refused r) says = absurd says
  add_unopened P old new before after Device says = tt
  add_unopened P old new before after Memory says = tt

  module _ (before mid : ℕ) (head : LevelHead) (whole : IsWhole (files name) before mid head) where
    -- it doesn't go on from the last
    pub add_apart : (old new : List Held) (after : ℕ) (fault : Fault) → TestedAlone {T = Unit {0}} (Err fault) (not_after last name whole.contents) → AddSays files name last old new before after (Err fault)
    add_apart old new after (Refused r) tested = apart whole.bytes whole.contents r whole.there whole.read tested
    add_apart old new after Device tested = tt
    add_apart old new after Memory tested = tt

    -- it does
    pub add_done : (old new : List Held) (source : Held) (after : ℕ) → new ≡ old ++ source ∷ [] → IsOpened files name source whole.contents → not_after last name whole.contents ≡ None → after ≤ mid + 2 → IsAdded files name last old new before after
    add_done old new source after is opened test few = record {
      source = source;
      contents = whole.contents;
      added = is;
      accepted = goes_on whole.bytes whole.contents whole.there whole.read test;
      opened = opened;
      reads = omega (arith, whole.reads, few);
    }

-- with files before
with-with : (cs ds : List Contents) (r : Result (List Contents) Refusal) → with_files cs (with_files ds r) ≡ with_files (cs ++ ds) r
with-with cs ds (Ok more) = ap Ok (sym (append_assoc cs ds more))
with-with cs ds (Err e) = refl

with-none : (r : Result (List Contents) Refusal) → with_files [] r ≡ r
with-none (Ok more) = refl
with-none (Err e) = refl

-- these files go on from one another, and those are left
pub record SoFarOpened (files : Files) (all left : List (List ℕ)) (sources : List Held) (before after : ℕ) : Type 0 where
  pub done : List (List ℕ)
  pub names : all ≡ done ++ left
  pub contents : List Contents
  pub last : Option Contents
  pub is_last : IsLast sources last
  pub so_far : chained files all ≡ with_files contents (files_after files last left)
  pub opened : AreOpened files done sources contents
  pub reads : after ≤ before + open_reads contents

pub opened_none : (files : Files) (all : List (List ℕ)) (sources : List Held) (reads : ℕ) → sources ≡ [] → SoFarOpened files all all sources reads reads
opened_none files all sources reads none = record {
  done = [];
  names = refl;
  contents = [];
  last = None;
  is_last = subst (λ (ss : List Held). IsLast ss None) (sym none) tt;
  so_far = sym (with-none (chained files all));
  opened = subst (λ (ss : List Held). AreOpened files [] ss []) (sym none) tt;
  reads = omega arith;
}

next_is : (files : Files) (last : Option Contents) (name : List ℕ) (left : List (List ℕ)) (c : Contents) → file_after files last name ≡ Ok c → files_after files last (name ∷ left) ≡ with_files (c ∷ []) (files_after files (Some c) left)
unfolding files_after
next_is files last name left c is = rw (is, files_after) refl

next_refused : (files : Files) (last : Option Contents) (name : List ℕ) (left : List (List ℕ)) (r : Refusal) → file_after files last name ≡ Err r → files_after files last (name ∷ left) ≡ Err r
unfolding files_after
next_refused files last name left r is = rw (is, files_after) refl

module _ (files : Files) (all left : List (List ℕ)) (name : List ℕ) (old : List Held) (before mid : ℕ) (so_far : SoFarOpened files all (name ∷ left) old before mid) where
  pub opened_refused : (new : List Held) (after : ℕ) (r : Refusal) → AddSays files name so_far.last old new mid after (Err (Refused r)) → chained files all ≡ Err r
  opened_refused new after r says = so_far.so_far ∙ ap (with_files so_far.contents) (next_refused files so_far.last name left r says)

  pub opened_one : (new : List Held) (after : ℕ) → IsAdded files name so_far.last old new mid after → SoFarOpened files all left new before after
  opened_one new after is = record {
    done = so_far.done ++ name ∷ [];
    names = so_far.names ∙ sym (append_assoc so_far.done (name ∷ []) left);
    contents = so_far.contents ++ is.contents ∷ [];
    last = Some is.contents;
    is_last = subst (λ (ss : List Held). IsLast ss (Some is.contents)) (sym is.added) (last_more old is.source so_far.last is.contents so_far.is_last is.opened.head);
    so_far = so_far.so_far ∙ ap (with_files so_far.contents) (next_is files so_far.last name left is.contents is.accepted) ∙ with-with so_far.contents (is.contents ∷ []) (files_after files (Some is.contents) left);
    opened = subst (λ (ss : List Held). AreOpened files (so_far.done ++ name ∷ []) ss (so_far.contents ++ is.contents ∷ [])) (sym is.added) (opened_more files so_far.done old so_far.contents name is.source is.contents so_far.opened is.opened);
    reads = omega (arith, so_far.reads, is.reads, reads_more so_far.contents is.contents);
  }

pub opened_all : (files : Files) (all : List (List ℕ)) (k : ℕ) (sources : List Held) (before after : ℕ) → length all ≤ k → SoFarOpened files all (drop k all) sources before after → AreChained files all before after sources
unfolding files_after
opened_all files all k sources before after past so_far =
    let none : drop k all ≡ [] = drop_all k all past in
    let names : all ≡ so_far.done = so_far.names ∙ ap (λ (ns : List (List ℕ)). so_far.done ++ ns) none ∙ append-nil so_far.done in
    record {
      contents = so_far.contents;
      accepted = so_far.so_far ∙ ap (λ (ns : List (List ℕ)). with_files so_far.contents (files_after files so_far.last ns)) none ∙ ap Ok (append-nil so_far.contents);
      opened = subst (λ (ns : List (List ℕ)). AreOpened files ns sources so_far.contents) (sym names) so_far.opened;
      reads = so_far.reads;
    }

-- one file more was read to its end, and begun once more
pub open_next : (files now : Files) (all left : List (List ℕ)) (name : List ℕ) (from : List (List ℕ)) (before mid after : ℕ) → now ≡ files → from ≡ name ∷ left → mid + open_most files from ≤ before + open_most files all → after ≤ mid + (level_most (now name) + 2)
    → after + open_most files left ≤ before + open_most files all
open_next files now all left name from before mid after same named so_far read =
    let most : open_most files from ≡ level_most (files name) + 2 + open_most files left = ap (open_most files) named in
    let one : after ≤ mid + (level_most (files name) + 2) = subst (λ (f : Files). after ≤ mid + (level_most (f name) + 2)) same read in
    omega (arith, most, so_far, one)
