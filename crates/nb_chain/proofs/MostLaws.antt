-- How much is read of a file, page after page.
use Rattle.std.proofs.Common.{◌≡◌, ℕ, suc, ◌+◌, ◌*◌, ◌/◌, ◌<◌, ◌≤◌, List, ◌∷◌, length, take, drop, get_or, sym, ap, subst, ◌∙◌, arith, length-drop, suc-mul, Bool, true, false, IsTrue, Some, None, Result, Ok, Err, max}
use Rattle.nb_chain.proofs.Common.{part, number_in, is_page_size, File, Files, bytes_of, Fault, Refused, Device, Memory, begins_level, Reading, ReadsRoom, RefusedReads, chain_most, first_most, level_most, levels_most}
use Rattle.nb_fields.proofs.SizeLaws.{size_facts}
use Rattle.nb_chain.proofs.LinkLaws.{left_from}
use Rattle.nb_level.specs.Answers.{GivesAt, IsThere}
use Rattle.nb_level.specs.Reading.{StandsFirst}
use Rattle.nb_level.specs.declared.item.Item.{Item}
use Rattle.nb_level.specs.declared.item.Item.TheVariants.{PageAt}
use Rattle.std.proofs.Math.Nat.{le-div_iff_mul-le}
use Rattle.std.proofs.lemmas.List.{length-take}
use Rattle.nb_host.proofs.PlainLaws.{some_same}

-- so many pages were read so far, each of which the file has
pub record IsAhead (bytes : List ℕ) (first now : Reading) (before after : ℕ) : Type 0 where
  pub count : ℕ
  pub reads : after ≤ before + count
  pub at : first.place.at + count * first.head.page_size ≤ now.place.at
  pub inside : 1 ≤ first.head.page_size → now.place.at ≤ max first.place.at (length bytes)

pub ahead_none : (bytes : List ℕ) (r : Reading) (reads : ℕ) → IsAhead bytes r r reads reads
ahead_none bytes r reads = record { count = 0; reads = omega arith; at = omega arith; inside = λ some. omega arith }

-- a page that is there lies in the file
page_inside : (bytes page : List ℕ) (at lead size : ℕ) → page ≡ part lead size (drop at bytes) → length page ≡ size → 1 ≤ size → at + lead + size ≤ length bytes
page_inside bytes page at lead size is long some =
    let all : length (take size (drop lead (drop at bytes))) ≡ size = sym (ap length is) ∙ long in
    omega (arith, all, length-take size (drop lead (drop at bytes)), length-drop lead (drop at bytes), length-drop at bytes, some)

module _ (bytes : List ℕ) (first now : Reading) (before after : ℕ) (so_far : IsAhead bytes first now before after) where
  -- one page more
  pub ahead_more : (next : Reading) (n : ℕ) (page : List ℕ) (lead due after' : ℕ) → IsThere bytes lead due now next n page → length page ≡ first.head.page_size → now.head.page_size ≡ first.head.page_size → after' ≤ after + 1
      → IsAhead bytes first next before after'
  ahead_more next n page lead due after' there long same reads = record {
    count = suc so_far.count;
    reads = omega (arith, so_far.reads, reads);
    at = omega (arith, so_far.at, there.stands, same, suc-mul so_far.count first.head.page_size);
    inside = λ some.
        let fits : now.place.at + lead + now.head.page_size ≤ length bytes = page_inside bytes page now.place.at lead now.head.page_size there.page (long ∙ sym same) (omega (arith, some, same)) in
        omega (arith, fits, there.stands);
  }

  -- and once more at most
  pub ahead_ends : (after' : ℕ) → after' ≤ after + 1 → ReadsRoom bytes first before after'
  ahead_ends after' reads = record { count = so_far.count; reads = omega (arith, so_far.reads, reads); room = λ some. let inside : now.place.at ≤ max first.place.at (length bytes) = so_far.inside some in omega (arith, so_far.at, inside) }

-- what stands there, of the file as it was
pub there_is : (file file' : File) (now next : Reading) (item : Item) (lead due n : ℕ) (page : List ℕ) (tells : Bool) → item ≡ PageAt n → IsTrue tells → GivesAt tells file' lead due now next page (Ok item) → file' ≡ file
    → IsThere (bytes_of file) lead due now next n page
there_is file file' now next item lead due n page tells is told gives same =
    subst (λ (f : File). IsThere (bytes_of f) lead due now next n page) same (subst (λ (i : Item). GivesAt tells file' lead due now next page (Ok i)) is gives told)

-- so many pages have room in the file
fits : (bytes : List ℕ) (count size : ℕ) → 1 ≤ size → size ≡ number_in 40 4 bytes → 52 + count * size ≤ max 52 (length bytes) → count ≤ length bytes / number_in 40 4 bytes
fits bytes count size some same low =
    let inside : count * size ≤ length bytes = omega (arith, low) in
    subst (λ (k : ℕ). count ≤ length bytes / k) same ((le-div_iff_mul-le some).1 inside)

-- a level file that was read from its start
pub level_read : (file : File) (bytes : List ℕ) (r : Reading) (before middle after : ℕ) → file ≡ Some bytes → StandsFirst (bytes_of file) r → 1 ≤ r.head.page_size → ReadsRoom (bytes_of file) r middle after → middle ≤ before + 1 → after ≤ before + level_most file
level_read None bytes r before middle after there first some room start = absurd (let e : None ≡ Some bytes = there in cc)
level_read (Some own) bytes r before middle after there first some room start =
    let low : room.count ≤ length own / number_in 40 4 own =
    fits own room.count r.head.page_size some first.size (subst (λ (k : ℕ). k + room.count * r.head.page_size ≤ max k (length own)) first.place (room.room some)) in
    omega (arith, low, room.reads, start)

-- the first file
pub first_some : (file : File) → 1 ≤ first_most file
first_some None = omega arith
first_some (Some bytes) = by (begins_level bytes)
  where
    by : (b : Bool) → 1 ≤ elim b as (λ z. ℕ) [ true ↦ 1 + level_most (Some bytes) | false ↦ 1 ]
    by true = omega arith
    by false = omega arith

pub first_level : (file : File) (bytes : List ℕ) → file ≡ Some bytes → begins_level bytes ≡ true → first_most file ≡ 1 + level_most file
first_level None bytes there begins = absurd (let e : None ≡ Some bytes = there in cc)
first_level (Some own) bytes there begins =
    let same : own ≡ bytes = some_same own bytes there in
    ap (λ (b : Bool). elim b as (λ z. ℕ) [ true ↦ 1 + level_most (Some own) | false ↦ 1 ]) (ap begins_level same ∙ begins)

-- a level file, read from its start by a reader of that name
pub level_whole : (files now : Files) (name bytes : List ℕ) (r : Reading) (size before middle after : ℕ) → r.name ≡ name → files name ≡ Some bytes → now ≡ files → StandsFirst (bytes_of (files name)) r → size ≡ r.head.page_size → IsTrue (is_page_size size)
    → ReadsRoom (bytes_of (now r.name)) r middle after → middle ≤ before + 1 → after ≤ before + level_most (files name)
level_whole files now name bytes r size before middle after named there same first is sized room start =
    let wide : 1024 ≤ size = (size_facts size sized).at_least in
    level_read (files name) bytes r before middle after there first (omega (arith, wide, is))
    (subst (λ (f : File). ReadsRoom (bytes_of f) r middle after) (ap (λ (f : Files). f r.name) same ∙ ap files named) room) start

-- a file after the first, whose start was read before
pub next_within : (files now : Files) (name : List ℕ) (before middle after : ℕ) → now ≡ files → middle ≤ before + 1 → after ≤ middle + level_most (now name) → after ≤ before + (1 + level_most (files name))
next_within files now name before middle after same start read =
    let more : after ≤ middle + level_most (files name) = subst (λ (f : Files). after ≤ middle + level_most (f name)) same read in
    omega (arith, start, more)

-- one of the files that are left
pub levels_more : (files now : Files) (names : List (List ℕ)) (name : List ℕ) (k total start after : ℕ) → now ≡ files → k < length names → name ≡ get_or names k name → start + levels_most files (drop k names) ≤ total
    → after ≤ start + (1 + level_most (now name)) → after + levels_most files (drop (k + 1) names) ≤ total
levels_more files now names name k total start after same inside is so_far read =
    let more : after ≤ start + (1 + level_most (files name)) = subst (λ (f : Files). after ≤ start + (1 + level_most (f name))) same read in
    let left : start + levels_most files (name ∷ drop (k + 1) names) ≤ total = subst (λ (ns : List (List ℕ)). start + levels_most files ns ≤ total) (left_from names k name inside is) so_far in
    omega (arith, more, left)

-- the first file is a level file
pub first_within : (files now : Files) (name bytes : List ℕ) (before middle after : ℕ) → now ≡ files → files name ≡ Some bytes → begins_level bytes ≡ true → middle ≤ before + 1 → after ≤ middle + level_most (now name) → after ≤ before + first_most (files name)
first_within files now name bytes before middle after same there begins start read =
    let more : after ≤ middle + level_most (files name) = subst (λ (f : Files). after ≤ middle + level_most (f name)) same read in
    omega (arith, start, more, first_level (files name) bytes there begins)

pub start_within : (file : File) (before after : ℕ) → after ≤ before + 1 → after ≤ before + first_most file
start_within file before after start = omega (arith, start, first_some file)

-- what a call reads that refuses
pub refused_within : (T : Type 0) (fault : Fault) (before most after : ℕ) → after ≤ before + most → RefusedReads {T = T} (Err fault) before most after
refused_within T (Refused refusal) before most after within = within
refused_within T Device before most after within = tt
refused_within T Memory before most after within = tt

-- the files of a chain
pub chain_first : (files : Files) (names : List (List ℕ)) (name : List ℕ) (rest : List (List ℕ)) (before after : ℕ) → names ≡ name ∷ rest → after ≤ before + first_most (files name) → after ≤ before + chain_most files names
chain_first files names name rest before after named read =
    subst (λ (ns : List (List ℕ)). after ≤ before + chain_most files ns) (sym named) (let low : after ≤ before + (first_most (files name) + levels_most files rest) = omega (arith, read) in low)

pub chain_levels : (files now : Files) (names : List (List ℕ)) (name : List ℕ) (rest : List (List ℕ)) (before middle after : ℕ) → names ≡ name ∷ rest → now ≡ files → middle ≤ before + 1 → after ≤ middle + levels_most now rest → after ≤ before + chain_most files names
chain_levels files now names name rest before middle after named same start read =
    let more : after ≤ middle + levels_most files rest = subst (λ (f : Files). after ≤ middle + levels_most f rest) same read in
    subst (λ (ns : List (List ℕ)). after ≤ before + chain_most files ns) (sym named) (let low : after ≤ before + (first_most (files name) + levels_most files rest) = omega (arith, more, start, first_some (files name)) in low)

-- a refusal is passed on
pub refused_as : (S T : Type 0) (fault : Fault) (before most after : ℕ) → RefusedReads {T = S} (Err fault) before most after → RefusedReads {T = T} (Err fault) before most after
refused_as S T (Refused refusal) before most after within = within
refused_as S T Device before most after within = tt
refused_as S T Memory before most after within = tt

-- after other reads, of files that stay
pub refused_later : (T : Type 0) (result : Result T Fault) (files now : Files) (names : List (List ℕ)) (before k middle after : ℕ) → now ≡ files → middle ≡ before + k → RefusedReads result middle (chain_most now names) after → RefusedReads result before (k + chain_most files names) after
refused_later T (Ok value) files now names before k middle after same start within = tt
refused_later T (Err (Refused refusal)) files now names before k middle after same start within =
    let more : after ≤ middle + chain_most files names = subst (λ (f : Files). after ≤ middle + chain_most f names) same within in
    omega (arith, more, start)
refused_later T (Err Device) files now names before k middle after same start within = tt
refused_later T (Err Memory) files now names before k middle after same start within = tt
