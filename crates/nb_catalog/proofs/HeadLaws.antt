-- What the answers of the calls below say of a file.
use Rattle.std.proofs.Common.{◌≡◌, ℕ, ◌-◌, List, take, drop, refl, sym, ap, ◌∙◌, arith, nat_eq, ◌+◌, length, ◌≤◌, Bool, true, false, Some, None, Result, Ok, Err, IfOk}
use Rattle.nb_catalog.proofs.Common.{take-take, File, bytes_of, Fault, Refused, Device, Memory, Refusal, NoFile, BadLevel, ChainLevel, Cause, Head, Contents, begins_level, level_signature, read_level, Link, first_link, not_whole, whole_link, LevelHead, Says, level_head, whole_head, read_file, WholeSays, IsWhole, file_most, reads_of}
use Rattle.nb_chain.specs.Most.{first_most, level_most}
use Rattle.std.specs.Cmp.Lexicographic.{pointwise}
use Rattle.nb_page.specs.Header.{header_in}
use Rattle.nb_page.specs.declared.header.Header.{Header}
use Rattle.nb_model.specs.Stands.{nil}
use Rattle.nb_model.proofs.StandsLaws.{not_level}
use Rattle.nb_chain.specs.declared.first_file.First.{First}
use Rattle.nb_chain.specs.First.{FirstSays}

-- four bytes tell a level file
pub first_begins : (first bytes : List ℕ) → first ≡ take 4 (drop 0 bytes) → begins_level first ≡ begins_level bytes
unfolding begins_level
first_begins first bytes read = ap (λ l. pointwise nat_eq (take 4 l) level_signature) read ∙ ap (λ l. pointwise nat_eq l level_signature) (take-take 4 4 bytes (omega arith))

-- what a file is read as, case by case
pub read_none : (name : List ℕ) → read_file name None ≡ Err (NoFile name)
unfolding read_file
read_none name = refl

module _ (name bytes : List ℕ) where
  read_by_begin : (begins : Bool) → begins_level bytes ≡ begins → read_file name (Some bytes) ≡ elim begins [
    | true ↦ elim (read_level bytes) [ Err at ↦ Err (BadLevel name at) | Ok c ↦ Ok (level_head c.head) ]
    | false ↦ elim (not_whole name bytes) [ Some refusal ↦ Err refusal | None ↦ Ok (whole_head bytes) ]
  ]
  unfolding read_file
  read_by_begin begins is = ap (λ (b : Bool). elim b as (λ x. Result LevelHead Refusal) [
    | true ↦ elim (read_level bytes) [ Err at ↦ Err (BadLevel name at) | Ok c ↦ Ok (level_head c.head) ]
    | false ↦ elim (not_whole name bytes) [ Some refusal ↦ Err refusal | None ↦ Ok (whole_head bytes) ]
  ]) is

  pub read_level_ok : (c : Contents) → begins_level bytes ≡ true → read_level bytes ≡ Ok c → read_file name (Some bytes) ≡ Ok (level_head c.head)
  read_level_ok c begins read = read_by_begin true begins ∙ ap (λ (r : Result Contents ℕ). elim r as (λ x. Result LevelHead Refusal) [ Err at ↦ Err (BadLevel name at) | Ok c ↦ Ok (level_head c.head) ]) read

  pub read_level_err : (at : ℕ) → begins_level bytes ≡ true → read_level bytes ≡ Err at → read_file name (Some bytes) ≡ Err (BadLevel name at)
  read_level_err at begins read = read_by_begin true begins ∙ ap (λ (r : Result Contents ℕ). elim r as (λ x. Result LevelHead Refusal) [ Err at ↦ Err (BadLevel name at) | Ok c ↦ Ok (level_head c.head) ]) read

  pub by_cause : (cause : Cause) → not_whole name bytes ≡ cause → begins_level bytes ≡ false → read_file name (Some bytes) ≡ elim cause [ Some refusal ↦ Err refusal | None ↦ Ok (whole_head bytes) ]
  by_cause cause is begins = read_by_begin false begins ∙ ap (λ (c : Cause). elim c as (λ x. Result LevelHead Refusal) [ Some refusal ↦ Err refusal | None ↦ Ok (whole_head bytes) ]) is

  link_by_cause : begins_level bytes ≡ false → first_link name bytes ≡ elim (not_whole name bytes) [ Some refusal ↦ Err refusal | None ↦ Ok (whole_link bytes) ]
  unfolding first_link
  link_by_cause begins = ap (λ (b : Bool). elim b as (λ x. Result Link Refusal) [
    | true ↦ elim (read_level bytes) [ Err at ↦ Err (BadLevel name at) | Ok c ↦ Err (ChainLevel name c.head.level 0) ]
    | false ↦ elim (not_whole name bytes) [ Some refusal ↦ Err refusal | None ↦ Ok (whole_link bytes) ]
  ]) begins

  -- a file that is accepted or refused as level 0 of a chain is read so
  accepted_cause : (cause : Cause) (l : Link) → (elim cause as (λ x. Result Link Refusal) [ Some refusal ↦ Err refusal | None ↦ Ok (whole_link bytes) ]) ≡ Ok l → cause ≡ None
  accepted_cause None l is = refl
  accepted_cause (Some r) l is = absurd (cc is)

  refused_cause : (cause : Cause) (r : Refusal) → (elim cause as (λ x. Result Link Refusal) [ Some refusal ↦ Err refusal | None ↦ Ok (whole_link bytes) ]) ≡ Err r → cause ≡ Some r
  refused_cause None r is = absurd (cc is)
  refused_cause (Some s) r is = ap Some (cc is)

  pub read_whole_ok : (l : Link) → begins_level bytes ≡ false → first_link name bytes ≡ Ok l → read_file name (Some bytes) ≡ Ok (whole_head bytes)
  read_whole_ok l begins is = by_cause None (accepted_cause (not_whole name bytes) l (sym (link_by_cause begins) ∙ is)) begins

  pub read_whole_err : (r : Refusal) → begins_level bytes ≡ false → first_link name bytes ≡ Err r → read_file name (Some bytes) ≡ Err r
  read_whole_err r begins is = by_cause (Some r) (refused_cause (not_whole name bytes) r (sym (link_by_cause begins) ∙ is)) begins

-- whole pages
pub whole_fault : (file : File) (name : List ℕ) (fault : Fault) → begins_level (bytes_of file) ≡ false → FirstSays file name (Err fault) → Says {T = LevelHead} (read_file name file) (Err fault)
whole_fault None name (Refused r) begins is = read_none name ∙ ap (λ (x : Refusal). Err x) (sym is)
whole_fault (Some bytes) name (Refused r) begins is = read_whole_err name bytes r begins is
whole_fault file name Device begins is = tt
whole_fault file name Memory begins is = tt

whole_same : (header : Header) (bytes : List ℕ) → header ≡ header_in bytes → record { level = 0; guid = header.guid; previous = nil; page_size = header.page_size; scn = header.scn - 1; previous_scn = 0 } ≡ whole_head bytes
unfolding header_in
whole_same header bytes is = ap (λ (h : Header). record { level = 0; guid = h.guid; previous = nil; page_size = h.page_size; scn = h.scn - 1; previous_scn = 0 }) is

pub whole_read : (file : File) (name : List ℕ) (first : First) → begins_level (bytes_of file) ≡ false → FirstSays file name (Ok first)
    → read_file name file ≡ Ok (record { level = 0; guid = first.header.guid; previous = nil; page_size = first.header.page_size; scn = first.header.scn - 1; previous_scn = 0 })
whole_read file name first begins is =
    let bytes = is.0 in
    let there = is.1 in
    ap (read_file name) there ∙ read_whole_ok name bytes (whole_link bytes) (sym (ap (λ (f : File). begins_level (bytes_of f)) there) ∙ begins) is.2.accepted
    ∙ ap (λ (h : LevelHead). Ok h) (sym (whole_same first.header bytes is.2.header))

-- a level file
pub level_says : (file : File) (name : List ℕ) (before after : ℕ) (result : Result LevelHead Fault) → begins_level (bytes_of file) ≡ true → WholeSays file name before after result → Says (read_file name file) result
level_says file name before after (Ok head) begins is =
    ap (read_file name) is.there ∙ read_level_ok name is.bytes is.contents (sym (ap (λ (f : File). begins_level (bytes_of f)) is.there) ∙ begins) is.read
    ∙ ap (λ (h : Head). Ok (level_head h)) (sym is.named)
level_says None name before after (Err (Refused r)) begins is = read_none name ∙ ap (λ (x : Refusal). Err x) (sym is)
level_says (Some bytes) name before after (Err (Refused r)) begins is = read_level_err name bytes is.0 begins is.1 ∙ ap (λ (x : Refusal). Err x) (sym is.2)
level_says file name before after (Err Device) begins is = tt
level_says file name before after (Err Memory) begins is = tt

-- how many reads a file takes
pub level_reads : (file : File) (before after : ℕ) (head : LevelHead) → (is : IsWhole file before after head) → reads_of file ≡ length is.contents.pages + 3
unfolding reads_of
level_reads file before after head is =
    ap reads_of is.there ∙ ap (λ (r : Result Contents ℕ). elim r as (λ x. ℕ) [ Err at ↦ 2 | Ok c ↦ length c.pages + 3 ]) is.read

pub whole_reads : (file : File) (bytes : List ℕ) → file ≡ Some bytes → begins_level (bytes_of file) ≡ false → reads_of file ≡ 2
unfolding reads_of
whole_reads file bytes there begins =
    ap reads_of there ∙ ap (λ (r : Result Contents ℕ). elim r as (λ x. ℕ) [ Err at ↦ 2 | Ok c ↦ length c.pages + 3 ]) (not_level bytes (sym (ap (λ (f : File). begins_level (bytes_of f)) there) ∙ begins))

pub level_counted : (file : File) (name : List ℕ) (result : Result LevelHead Fault) (start before after : ℕ) → WholeSays file name before after result → before ≤ start + 1 → IfOk result (λ head. after ≤ start + reads_of file)
level_counted file name (Ok head) start before after is begun = omega (arith, is.reads, begun, level_reads file before after head is)
level_counted file name (Err fault) start before after is begun = tt

pub whole_counted : (file : File) (name : List ℕ) (result : Result LevelHead Fault) (start before after : ℕ) → begins_level (bytes_of file) ≡ false → Says (read_file name file) result → IfOk result (λ head. after ≤ before + 1) → before ≤ start + 1
    → IfOk result (λ head. after ≤ start + reads_of file)
whole_counted None name (Ok head) start before after begins is counted begun = absurd (cc (sym (read_none name) ∙ is))
whole_counted (Some bytes) name (Ok head) start before after begins is counted begun = omega (arith, counted, begun, whole_reads (Some bytes) bytes refl begins)
whole_counted file name (Err fault) start before after begins is counted begun = tt

-- and how many at most, of a file that begins as a level file, and of another
pub level_within : (file now : File) (start before after : ℕ) → now ≡ file → begins_level (bytes_of file) ≡ true → before ≤ start + 1 → after ≤ before + level_most now → after ≤ start + file_most file
level_within file now start before after same begins begun more =
    let most : file_most file ≡ 1 + level_most file = ap (λ (b : Bool). 1 + elim b as (λ x. ℕ) [ true ↦ level_most file | false ↦ 1 ]) begins in
    omega (arith, most, begun, more, ap level_most same)

pub other_within : (file : File) (start before after : ℕ) → begins_level (bytes_of file) ≡ false → before ≤ start + 1 → after ≤ before + 1 → after ≤ start + file_most file
other_within file start before after begins begun more =
    let most : file_most file ≡ 2 = ap (λ (b : Bool). 1 + elim b as (λ x. ℕ) [ true ↦ level_most file | false ↦ 1 ]) begins in
    omega (arith, most, begun, more)

pub first_once : (file : File) (before after : ℕ) → begins_level (bytes_of file) ≡ false → after ≤ before + first_most file → after ≤ before + 1
first_once None before after begins more = more
first_once (Some bytes) before after begins more =
    let most : first_most (Some bytes) ≡ 1 = ap (λ (b : Bool). elim b as (λ x. ℕ) [ true ↦ 1 + level_most (Some bytes) | false ↦ 1 ]) begins in
    omega (arith, most, more)

-- one read more than none
pub start_within : (file : File) (start before : ℕ) → before ≤ start + 1 → before ≤ start + file_most file
start_within file start before begun = omega (arith, begun)
