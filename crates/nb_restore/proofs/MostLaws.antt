-- How much is read of level files, page after page, and of level 0, piece after piece.
use Rattle.std.proofs.Common.{◌≡◌, ◌≢◌, ℕ, suc, ◌+◌, ◌-◌, ◌*◌, ◌/◌, ◌%◌, ◌<◌, ◌≤◌, List, [], ◌∷◌, ◌++◌, length, drop, refl, sym, ap, subst, ◌∙◌, arith, IsTrue, Bool, Some, Result, Ok, Err}
use Rattle.nb_restore.proofs.Common.{bytes_of, File, Files, Numbered, Page, behind, Link, Reading, verdict, joined, length-joined, IsOfSize, still_to_come, NextSays, AreReady, err_not_ok, ok_same}
use Rattle.nb_restore.specs.Most.{copy_most, pages_most, piece_length, pieces_in, ready_most, restore_most}
use Rattle.nb_chain.specs.Most.{check_most}
use Rattle.nb_chain.proofs.PageLaws.{gives_there}
use Rattle.nb_level.specs.declared.item.Item.{Item}
use Rattle.nb_level.specs.declared.item.Item.TheVariants.{PageAt}
use Rattle.nb_restore.proofs.LevelLaws.{next_ready}
use Rattle.std.proofs.Math.Nat.{div-add-mod, mul-mod_right, mul-suc}

-- these pages are still to come, and one read was made for each that isn't
pub record ReadSoFar (bytes : List ℕ) (reader : Reading) (records : List Numbered) (before after : ℕ) : Type 0 where
  pub rest : List Numbered
  pub coming : still_to_come bytes reader ≡ Ok rest
  pub reads : after + length rest ≤ before + length records

pub read_none : (bytes : List ℕ) (reader : Reading) (records : List Numbered) (reads : ℕ) → still_to_come bytes reader ≡ Ok records → ReadSoFar bytes reader records reads reads
read_none bytes reader records reads coming = record { rest = records; coming = coming; reads = omega arith }

-- one fewer
rest_fewer : (r : Numbered) (rest : List Numbered) (more : Result (List Numbered) ℕ) → Ok rest ≡ behind (r ∷ []) more → (next : List Numbered) × (more ≡ Ok next) × (length rest ≡ 1 + length next)
rest_fewer r rest (Ok next) e = (next, refl, (let fewer : length rest ≡ suc (length next) = ap length (ok_same rest (r ∷ next) (Ok rest) refl e) in omega (arith, fewer)))
rest_fewer r rest (Err at) e = absurd (err_not_ok at rest (Err at) refl (sym e))

-- the next page was read
pub read_next : (tells : Bool) (told : IsTrue tells) (file now : File) (there : now ≡ file) (reader next : Reading) (records : List Numbered) (before middle after : ℕ) (item : Item) (n : ℕ) (page : Page)
    → ReadSoFar (bytes_of file) reader records before middle → item ≡ PageAt n → NextSays tells now reader next page (Ok item) → after ≤ middle + 1 → ReadSoFar (bytes_of file) next records before after
read_next tells told file now there reader next records before middle after item n page so_far is says once =
    let found = rest_fewer (n, page) so_far.rest (still_to_come (bytes_of file) next) (sym so_far.coming ∙ gives_there file now reader next item page n tells is told says there) in
    record { rest = found.0; coming = found.1; reads = omega (arith, so_far.reads, found.2, once) }

-- and once more at most
pub read_ends : (bytes : List ℕ) (reader : Reading) (records : List Numbered) (before middle after : ℕ) → ReadSoFar bytes reader records before middle → after ≤ middle + 1 → after ≤ before + length records + 1
read_ends bytes reader records before middle after so_far once = omega (arith, so_far.reads, once)

-- these files are still to come, and the pages of the others were read
pub record ReadAllSoFar (files : Files) (target : List ℕ) (size : ℕ) (links : List Link) (more : List Reading) (before after : ℕ) : Type 0 where
  pub rest : List Link
  pub ready : AreReady files target size rest more
  pub reads : after + pages_most rest ≤ before + pages_most links

pub read_all_none : (files : Files) (target : List ℕ) (size : ℕ) (links : List Link) (readers more : List Reading) (reads : ℕ) → readers ≡ [] ++ more → AreReady files target size links readers → ReadAllSoFar files target size links more reads reads
read_all_none files target size links readers more reads same ready = record { rest = links; ready = subst (λ (rs : List Reading). AreReady files target size links rs) same ready; reads = omega arith }

module _ (files now : Files) (target : List ℕ) (size : ℕ) (links : List Link) (reader : Reading) (more : List Reading) (before middle after : ℕ) (so_far : ReadAllSoFar files target size links (reader ∷ more) before middle)
    (others : (m : List ℕ) → m ≢ target → now m ≡ files m)
    (read : (records : List Numbered) → reader.name ≢ target → still_to_come (bytes_of (now reader.name)) reader ≡ Ok records → after ≤ middle + length records + 1) where
  -- the pages of one more
  pub read_all_next : ReadAllSoFar files target size links more before after
  read_all_next =
      let next = next_ready files target size so_far.rest reader more so_far.ready in
      let once : after ≤ middle + length next.link.pages + 1 = read next.link.pages next.ready.apart (ap (λ (f : File). still_to_come (bytes_of f) reader) (others reader.name next.ready.apart) ∙ next.ready.pages) in
      let most : pages_most so_far.rest ≡ length next.link.pages + 1 + pages_most next.others = ap pages_most next.is in
      record { rest = next.others; ready = next.behind; reads = omega (arith, so_far.reads, most, once) }

  -- whatever comes of it
  pub read_all_within : after ≤ before + pages_most links
  read_all_within = let next = read_all_next in let reads = next.reads in omega (arith, reads)

pub read_all_ends : (files : Files) (target : List ℕ) (size : ℕ) (links : List Link) (more : List Reading) (before after : ℕ) → ReadAllSoFar files target size links more before after → after ≤ before + pages_most links
read_all_ends files target size links more before after so_far = let reads = so_far.reads in omega (arith, reads)

-- level 0, up to the end of a piece: so many pieces were read, and one more at the end
pub piece_next : (before at count end reads after : ℕ) → at < end → at + count ≤ end → (at + count < end → (at + count) % piece_length ≡ 0) → 0 < count → (at < end → reads ≤ before + at / piece_length) → after ≤ reads + 1
    → (at + count < end → after ≤ before + (at + count) / piece_length) × (after ≤ before + pieces_in end)
piece_next before at count end reads after more inside whole some so_far once =
    let low : reads ≤ before + at / 262144 = so_far more in
    (λ further. let even : (at + count) % 262144 ≡ 0 = whole further in omega (arith, low, even, some, once), omega (arith, low, once, more))

-- a piece ends at a multiple of the length of pieces, which is that of the room for one
pub piece_even : (at end : ℕ) (before now : List ℕ) → length now ≡ length before → length before ≡ piece_length → (at < end → at % length now ≡ 0) → at < end → at % piece_length ≡ 0
piece_even at end before now same long whole further = subst (λ (k : ℕ). at % k ≡ 0) (same ∙ long) (whole further)

-- a piece that ends before the file does
pub piece_whole_at : (at longest : ℕ) → at % longest < longest → (at + (longest - at % longest)) % longest ≡ 0
piece_whole_at at longest low =
    let split : at + (longest - at % longest) ≡ longest * suc (at / longest) = omega (arith, div-add-mod at longest, low, mul-suc longest (at / longest)) in
    ap (λ (k : ℕ). k % longest) split ∙ mul-mod_right longest (suc (at / longest))

-- a chain that is accepted was made ready
pub ready_within : (files : Files) (names : List (List ℕ)) (links : List Link) (before middle after : ℕ) → verdict files names ≡ Ok links → middle ≤ before + (1 + check_most files names) → after ≤ middle + length names
    → after ≤ before + (1 + check_most files names + ready_most names (verdict files names))
ready_within files names links before middle after accepted check more =
    let most : ready_most names (verdict files names) ≡ length names = ap (ready_most names) accepted in
    omega (arith, most, check, more)

-- and copied
pub copied_within : (files : Files) (names : List (List ℕ)) (name : List ℕ) (others : List (List ℕ)) (links rest : List Link) (bytes : List ℕ) (before middle after : ℕ) → verdict files names ≡ Ok links → names ≡ name ∷ others → rest ≡ drop 1 links → files name ≡ Some bytes
    → middle ≤ before + (1 + check_most files names + ready_most names (verdict files names)) → after ≤ middle + (pieces_in (length bytes) + pages_most rest) → after ≤ before + restore_most files names
copied_within files names name others links rest bytes before middle after accepted named left there ready more =
    let long : length (bytes_of (files name)) ≡ length bytes = ap (λ (f : File). length (bytes_of f)) there in
    let pieces : pieces_in (length (bytes_of (files name))) ≡ pieces_in (length bytes) = ap pieces_in long in
    let pages : pages_most rest ≡ pages_most (drop 1 links) = ap pages_most left in
    let most : copy_most files names (verdict files names) ≡ pieces_in (length (bytes_of (files name))) + pages_most (drop 1 links) =
    ap (copy_most files names) accepted ∙ ap (λ (ns : List (List ℕ)). copy_most files ns (Ok links)) named in
    omega (arith, most, pieces, pages, ready, more)

-- a plan alone reads no more than a restore
pub prepared_within : (files : Files) (names : List (List ℕ)) (before after : ℕ) → after ≤ before + (1 + check_most files names + ready_most names (verdict files names)) → after ≤ before + restore_most files names
prepared_within files names before after ready = omega (arith, ready)

-- how many pieces the pages of level 0 are
pub pieces_of : (size count : ℕ) (pages : List Page) → IsOfSize size pages → length pages ≡ count → pieces_in (count * size) ≡ pieces_in (length (joined pages))
pieces_of size count pages sizes long = ap pieces_in (sym (length-joined size pages sizes ∙ ap (λ (k : ℕ). k * size) long))

-- a check of files that stay, after one read
pub check_later : (files now : Files) (names : List (List ℕ)) (before middle after : ℕ) → now ≡ files → middle ≤ before + 1 → after ≤ middle + check_most now names → after ≤ before + (1 + check_most files names)
check_later files now names before middle after same start check =
    let more : after ≤ middle + check_most files names = subst (λ (f : Files). after ≤ middle + check_most f names) same check in
    omega (arith, start, more)
