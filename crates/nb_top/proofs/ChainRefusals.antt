-- Files of a chain, of a fold or of a plan are never refused as words are that name no job.
use Rattle.std.proofs.Common.{◌≡◌, ◌≢◌, ℕ, ◌+◌, List, [], ◌∷◌, length, true, false, ap, subst, Bool, ◌==◌, not, Option, None, Some, Result, Ok, Err}
use Rattle.nb_top.proofs.Common.{is_header, signature, state_of, stalled_state, File, Files, same_name, Refusal, Usage, NoFile, BadLevel, ChainLevel, ChainGuid, ChainSize, ChainScn, Cause, first_cause, when, Contents, read_level, begins_level, Link, whole_link, level_link, is_bad_length, not_whole, first_link, not_behind, next_link, linked, next_links, verdict, chained, file_after, files_after, not_after, with_first, Retention, planned, IsOther, other_first, other_when, some_same, none_some, FileExists}
use Rattle.nb_fields.specs.Bytes.{number_in}
use Rattle.nb_fold.specs.Verdict.{with_files}
use Rattle.nb_catalog.specs.Heads.{level_head, read_file, read_files, whole_head}
use Rattle.nb_catalog.specs.Plans.{plan_of}
use Rattle.nb_level.specs.declared.head.LevelHead.{LevelHead}

-- it isn't refused, or for another reason
abbrev pub IsFine : {T : Type 0} → Result T Refusal → Type 0
IsFine (Ok value) = Unit {0}
IsFine (Err refusal) = refusal ≢ Usage

pub exists_usage : (name : List ℕ) → FileExists name ≢ Usage
exists_usage name h = cc

pub some_other : (r : Refusal) → r ≢ Usage → IsOther (Some r)
some_other r h e = h (some_same r Usage e)

-- a cause that refuses, or what comes where none does
pub by_cause : {T : Type 0} (c : Cause) (x : T) → IsOther c → IsFine (elim c as (λ z. Result T Refusal) [ Some refusal ↦ Err refusal | None ↦ Ok x ])
by_cause None x h = tt
by_cause (Some r) x h = λ e. h (ap (λ (y : Refusal). Some y) e)

whole_other : (name bytes : List ℕ) → IsOther (not_whole name bytes)
unfolding not_whole
whole_other name bytes = by (is_header bytes)
  where
    by : (t : Bool) → IsOther (elim t as (λ z. Cause) [
      | false ↦ Some (BadLevel name 0)
      | true ↦ first_cause (when (not (state_of bytes == stalled_state)) (BadLevel name 22) ∷ when (is_bad_length bytes) (BadLevel name (length bytes)) ∷ [])
    ])
    by false = some_other (BadLevel name 0) (λ e. cc)
    by true = other_first (when (not (state_of bytes == stalled_state)) (BadLevel name 22) ∷ when (is_bad_length bytes) (BadLevel name (length bytes)) ∷ []) (
      other_when (not (state_of bytes == stalled_state)) (BadLevel name 22) (λ e. cc),
      (other_when (is_bad_length bytes) (BadLevel name (length bytes)) (λ e. cc), tt),
    )

first_fine : (name bytes : List ℕ) → IsFine (first_link name bytes)
unfolding first_link
first_fine name bytes = by (begins_level bytes) (read_level bytes)
  where
    by : (t : Bool) (r : Result Contents ℕ) → IsFine (elim t as (λ z. Result Link Refusal) [
      | true ↦ elim r as (λ z. Result Link Refusal) [ Err at ↦ Err (BadLevel name at) | Ok c ↦ Err (ChainLevel name c.head.level 0) ]
      | false ↦ elim (not_whole name bytes) as (λ z. Result Link Refusal) [ Some refusal ↦ Err refusal | None ↦ Ok (whole_link bytes) ]
    ])
    by true (Err at) = λ e. cc
    by true (Ok c) = λ e. cc
    by false r = by_cause (not_whole name bytes) (whole_link bytes) (whole_other name bytes)

behind_other : (k : ℕ) (last : Link) (name : List ℕ) (c : Contents) → IsOther (not_behind k last name c)
unfolding not_behind
behind_other k last name c = other_first (
    when (not (c.head.level == k)) (ChainLevel name c.head.level k)
    ∷ when (not (same_name c.head.previous last.guid)) (ChainGuid name c.head.previous last.guid)
    ∷ when (not (c.head.size == last.size)) (ChainSize name c.head.size last.size)
    ∷ when (not (c.head.previous_scn == last.scn)) (ChainScn name c.head.previous_scn last.scn)
    ∷ []) (
      other_when (not (c.head.level == k)) (ChainLevel name c.head.level k) (λ e. cc),
      (
        other_when (not (same_name c.head.previous last.guid)) (ChainGuid name c.head.previous last.guid) (λ e. cc),
        (
          other_when (not (c.head.size == last.size)) (ChainSize name c.head.size last.size) (λ e. cc),
          (other_when (not (c.head.previous_scn == last.scn)) (ChainScn name c.head.previous_scn last.scn) (λ e. cc), tt),
        ),
      ),
    )

next_fine : (k : ℕ) (last : Link) (name bytes : List ℕ) → IsFine (next_link k last name bytes)
unfolding next_link
next_fine k last name bytes = by (begins_level bytes) (number_in 16 4 bytes == signature) (read_level bytes)
  where
    by : (t signed : Bool) (r : Result Contents ℕ) → IsFine (elim t as (λ z. Result Link Refusal) [
      | false ↦ elim signed as (λ z. Result Link Refusal) [ true ↦ Err (ChainLevel name 0 k) | false ↦ Err (BadLevel name 0) ]
      | true ↦ elim r as (λ z. Result Link Refusal) [
        | Err at ↦ Err (BadLevel name at)
        | Ok c ↦ elim (not_behind k last name c) as (λ z. Result Link Refusal) [ Some refusal ↦ Err refusal | None ↦ Ok (level_link c) ]
      ]
    ])
    by false true r = λ e. cc
    by false false r = λ e. cc
    by true signed (Err at) = λ e. cc
    by true signed (Ok c) = by_cause (not_behind k last name c) (level_link c) (behind_other k last name c)

linked_fine : (l : Link) (rest : Result (List Link) Refusal) → IsFine rest → IsFine (linked l rest)
linked_fine l (Ok links) h = tt
linked_fine l (Err refusal) h = h

-- a file that is there, and those after it
file_fine : (answer : Result Link Refusal) (rest : Link → Result (List Link) Refusal) → IsFine answer → ((l : Link) → IsFine (rest l))
    → IsFine (elim answer as (λ z. Result (List Link) Refusal) [ Err refusal ↦ Err refusal | Ok l ↦ linked l (rest l) ])
file_fine (Ok l) rest h later = linked_fine l (rest l) (later l)
file_fine (Err refusal) rest h later = h

named_fine : (name : List ℕ) (file : File) (link : List ℕ → Result Link Refusal) (rest : Link → Result (List Link) Refusal) → ((bytes : List ℕ) → IsFine (link bytes)) → ((l : Link) → IsFine (rest l))
    → IsFine (elim file as (λ z. Result (List Link) Refusal) [
      | None ↦ Err (NoFile name)
      | Some bytes ↦ elim (link bytes) as (λ z. Result (List Link) Refusal) [ Err refusal ↦ Err refusal | Ok l ↦ linked l (rest l) ]
    ])
named_fine name None link rest h later = λ e. cc
named_fine name (Some bytes) link rest h later = file_fine (link bytes) rest (h bytes) later

nexts_fine : (files : Files) (k : ℕ) (last : Link) (names : List (List ℕ)) → IsFine (next_links files k last names)
unfolding next_links
nexts_fine files k last [] = tt
nexts_fine files k last (name ∷ names) = named_fine name (files name) (next_link k last name) (λ (l : Link). next_links files (k + 1) l names) (next_fine k last name) (λ l. nexts_fine files (k + 1) l names)

chain_fine : (files : Files) (names : List (List ℕ)) → IsFine (verdict files names)
unfolding verdict
chain_fine files [] = tt
chain_fine files (name ∷ names) = named_fine name (files name) (first_link name) (λ (l : Link). next_links files 1 l names) (first_fine name) (λ l. nexts_fine files 1 l names)

pub refused_chain : (files : Files) (names : List (List ℕ)) (refusal : Refusal) → verdict files names ≡ Err refusal → refusal ≢ Usage
refused_chain files names refusal is = subst (λ (r : Result (List Link) Refusal). IsFine r) is (chain_fine files names)

-- ---- files that are folded

after_other : (last : Option Contents) (name : List ℕ) (c : Contents) → IsOther (not_after last name c)
after_other None name c = λ e. none_some Usage e
after_other (Some last) name c = behind_other (last.head.level + 1) (level_link last) name c

after_fine : (files : Files) (last : Option Contents) (name : List ℕ) → IsFine (file_after files last name)
unfolding file_after
after_fine files last name = by (files name)
  where
    read : (r : Result Contents ℕ) → IsFine (elim r as (λ z. Result Contents Refusal) [
      | Err at ↦ Err (BadLevel name at)
      | Ok c ↦ elim (not_after last name c) as (λ z. Result Contents Refusal) [ Some refusal ↦ Err refusal | None ↦ Ok c ]
    ])
    read (Err at) = λ e. cc
    read (Ok c) = by_cause (not_after last name c) c (after_other last name c)

    by : (file : File) → IsFine (elim file as (λ z. Result Contents Refusal) [
      | None ↦ Err (NoFile name)
      | Some bytes ↦ elim (read_level bytes) as (λ z. Result Contents Refusal) [
        | Err at ↦ Err (BadLevel name at)
        | Ok c ↦ elim (not_after last name c) as (λ z. Result Contents Refusal) [ Some refusal ↦ Err refusal | None ↦ Ok c ]
      ]
    ])
    by None = λ e. cc
    by (Some bytes) = read (read_level bytes)

with_fine : (cs : List Contents) (rest : Result (List Contents) Refusal) → IsFine rest → IsFine (with_files cs rest)
with_fine cs (Ok more) h = tt
with_fine cs (Err refusal) h = h

more_fine : (answer : Result Contents Refusal) (rest : Contents → Result (List Contents) Refusal) → IsFine answer → ((c : Contents) → IsFine (rest c))
    → IsFine (elim answer as (λ z. Result (List Contents) Refusal) [ Err refusal ↦ Err refusal | Ok c ↦ with_files (c ∷ []) (rest c) ])
more_fine (Err refusal) rest h later = h
more_fine (Ok c) rest h later = with_fine (c ∷ []) (rest c) (later c)

folds_fine : (files : Files) (last : Option Contents) (names : List (List ℕ)) → IsFine (files_after files last names)
unfolding files_after
folds_fine files last [] = tt
folds_fine files last (name ∷ names) = more_fine (file_after files last name) (λ (c : Contents). files_after files (Some c) names) (after_fine files last name) (λ c. folds_fine files (Some c) names)

pub refused_files : (files : Files) (names : List (List ℕ)) (refusal : Refusal) → chained files names ≡ Err refusal → refusal ≢ Usage
refused_files files names refusal is = subst (λ (r : Result (List Contents) Refusal). IsFine r) is (folds_fine files None names)

-- ---- files that are planned for

read_fine : (name : List ℕ) (file : File) → IsFine (read_file name file)
unfolding read_file
read_fine name None = λ e. cc
read_fine name (Some bytes) = by (begins_level bytes) (read_level bytes)
  where
    by : (t : Bool) (r : Result Contents ℕ) → IsFine (elim t as (λ z. Result LevelHead Refusal) [
      | true ↦ elim r as (λ z. Result LevelHead Refusal) [ Err at ↦ Err (BadLevel name at) | Ok c ↦ Ok (level_head c.head) ]
      | false ↦ elim (not_whole name bytes) as (λ z. Result LevelHead Refusal) [ Some refusal ↦ Err refusal | None ↦ Ok (whole_head bytes) ]
    ])
    by true (Err at) = λ e. cc
    by true (Ok c) = tt
    by false r = by_cause (not_whole name bytes) (whole_head bytes) (whole_other name bytes)

heads_fine : (head : LevelHead) (rest : Result (List LevelHead) Refusal) → IsFine rest → IsFine (with_first head rest)
heads_fine head (Ok heads) h = tt
heads_fine head (Err refusal) h = h

head_fine : (answer : Result LevelHead Refusal) (rest : Result (List LevelHead) Refusal) → IsFine answer → IsFine rest
    → IsFine (elim answer as (λ z. Result (List LevelHead) Refusal) [ Err refusal ↦ Err refusal | Ok head ↦ with_first head rest ])
head_fine (Err refusal) rest h later = h
head_fine (Ok head) rest h later = heads_fine head rest later

reads_fine : (files : Files) (names : List (List ℕ)) → IsFine (read_files files names)
unfolding read_files
reads_fine files [] = tt
reads_fine files (name ∷ names) = head_fine (read_file name (files name)) (read_files files names) (read_fine name (files name)) (reads_fine files names)

plan_fine : (files : Files) (names : List (List ℕ)) (keep : ℕ) → IsFine (planned files names keep)
unfolding planned
plan_fine files names keep = by (read_files files names) (reads_fine files names)
  where
    by : (answer : Result (List LevelHead) Refusal) → IsFine answer → IsFine (elim answer as (λ z. Result Retention Refusal) [ Err refusal ↦ Err refusal | Ok heads ↦ Ok (plan_of heads keep) ])
    by (Err refusal) h = h
    by (Ok heads) h = tt

pub refused_plan : (files : Files) (names : List (List ℕ)) (keep : ℕ) (refusal : Refusal) → planned files names keep ≡ Err refusal → refusal ≢ Usage
refused_plan files names keep refusal is = subst (λ (r : Result Retention Refusal). IsFine r) is (plan_fine files names keep)
