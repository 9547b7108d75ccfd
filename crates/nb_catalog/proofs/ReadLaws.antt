-- A file that was read, in a chain.
use Rattle.std.proofs.Common.{◌≡◌, ℕ, zero, suc, ◌+◌, ◌<◌, ◌≤◌, List, [], ◌∷◌, length, refl, sym, ap, ◌∙◌, arith, eq-eqb, Bool, true, false, ◌==◌, nat_le, Some, None, Result, Ok, Err}
use Rattle.nb_catalog.proofs.Common.{slice_index_or, and_parts, leb-true, eqb-true, File, Files, same_name, Refusal, Cause, first_cause, Contents, begins_level, read_level, Link, level_link, whole_link, first_link, next_link, not_behind, not_whole, LevelHead, with_first, level_head, whole_head, read_file, read_files, is_parent}
use Rattle.nb_level.proofs.ToldLaws.{level_told}
use Rattle.nb_chain.proofs.StartLaws.{first_whole, next_accepted}
use Rattle.nb_catalog.proofs.HeadLaws.{read_none, read_level_ok, read_level_err, by_cause}
use Rattle.nb_catalog.proofs.FileLaws.{none_left, by_first}

-- the level of a level file is 1 to 9
level_low : (bytes : List ℕ) (c : Contents) → read_level bytes ≡ Ok c → (1 ≤ c.head.level) × (c.head.level ≤ 9)
level_low bytes c e =
    let parts = and_parts (nat_le 1 c.head.level) (nat_le c.head.level 9) (level_told bytes c e).level in
    (leb-true 1 c.head.level parts.0, leb-true c.head.level 9 parts.1)

-- it goes on from a file of these fields
none_behind : (k : ℕ) (last : Link) (name : List ℕ) (c : Contents) → (c.head.level == k) ≡ true → same_name c.head.previous last.guid ≡ true → (c.head.size == last.size) ≡ true → (c.head.previous_scn == last.scn) ≡ true
    → not_behind k last name c ≡ None
unfolding not_behind first_cause
none_behind k last name c level guid size scn = rw (level, first_cause) (rw (guid, first_cause) (rw (size, first_cause) (rw (scn, first_cause) refl)))

-- what a chain knows of a file is what its head says
pub record AreSame (link : Link) (head : LevelHead) : Type 0 where
  pub guid : link.guid ≡ head.guid
  pub scn : link.scn ≡ head.scn
  pub size : link.size ≡ head.page_size

-- a file with this head, as it stands in a chain
pub record IsRead (name : List ℕ) (file : File) (head : LevelHead) : Type 0 where
  pub bytes : List ℕ
  pub there : file ≡ Some bytes
  pub link : Link
  pub same : AreSame link head
  pub low : head.level ≤ 9
  pub first : head.level ≡ 0 → first_link name bytes ≡ Ok link
  pub next : (last : Link) (parent : LevelHead) → AreSame last parent → is_parent head parent ≡ true → next_link head.level last name bytes ≡ Ok link

-- the parts of the test of a parent
pub parent_level : (child parent : LevelHead) → is_parent child parent ≡ true → child.level ≡ parent.level + 1
parent_level child parent is = eqb-true child.level (parent.level + 1) (and_parts (child.level == parent.level + 1) _ is).0

eq_self : (n : ℕ) → (n == n) ≡ true
eq_self n = eq-eqb n n refl

module _ (name bytes : List ℕ) (head : LevelHead) (read : read_file name (Some bytes) ≡ Ok head) where
  as_level : (c : Contents) → begins_level bytes ≡ true → read_level bytes ≡ Ok c → IsRead name (Some bytes) head
  as_level c begins is =
      let same : level_head c.head ≡ head = cc (sym (read_level_ok name bytes c begins is) ∙ read) in
      let low = level_low bytes c is in
      let level : c.head.level ≡ head.level = ap (λ (h : LevelHead). h.level) same in
      record {
        bytes = bytes;
        there = refl;
        link = level_link c;
        same = record { guid = ap (λ (h : LevelHead). h.guid) same; scn = ap (λ (h : LevelHead). h.scn) same; size = ap (λ (h : LevelHead). h.page_size) same };
        low = omega (arith, low.1, level);
        first = λ zero_. absurd (omega (arith, low.0, level, zero_));
        next = λ last parent fits is_parent_.
            let parts = and_parts (c.head.level == parent.level + 1) _ (ap (λ (h : LevelHead). is_parent h parent) same ∙ is_parent_) in
            let further = and_parts (same_name c.head.previous parent.guid) _ parts.1 in
            let sizes = and_parts (c.head.previous_scn == parent.scn) (c.head.size == parent.page_size) further.1 in
            next_accepted name bytes head.level last c begins is
            (none_behind head.level last name c (ap (λ (n : ℕ). c.head.level == n) (sym level) ∙ eq_self c.head.level) (ap (same_name c.head.previous) fits.guid ∙ further.0)
            (ap (λ (n : ℕ). c.head.size == n) fits.size ∙ sizes.1) (ap (λ (n : ℕ). c.head.previous_scn == n) fits.scn ∙ sizes.0));
      }

  as_whole : begins_level bytes ≡ false → not_whole name bytes ≡ None → IsRead name (Some bytes) head
  as_whole begins whole =
      let same : whole_head bytes ≡ head = cc (sym (by_cause name bytes None whole begins) ∙ read) in
      let level : 0 ≡ head.level = ap (λ (h : LevelHead). h.level) same in
      record {
        bytes = bytes;
        there = refl;
        link = whole_link bytes;
        same = record { guid = ap (λ (h : LevelHead). h.guid) same; scn = ap (λ (h : LevelHead). h.scn) same; size = ap (λ (h : LevelHead). h.page_size) same };
        low = omega (arith, level);
        first = λ zero_. first_whole name bytes begins whole;
        next = λ last parent fits is_parent_. absurd (omega (arith, parent_level head parent is_parent_, level));
      }

  some_read : IsRead name (Some bytes) head
  some_read = by (begins_level bytes) refl
    where
      by_level : begins_level bytes ≡ true → (r : Result Contents ℕ) → read_level bytes ≡ r → IsRead name (Some bytes) head
      by_level begins (Ok c) is = as_level c begins is
      by_level begins (Err at) is = absurd (cc (sym (read_level_err name bytes at begins is) ∙ read))

      by_whole : begins_level bytes ≡ false → (c : Cause) → not_whole name bytes ≡ c → IsRead name (Some bytes) head
      by_whole begins None is = as_whole begins is
      by_whole begins (Some r) is = absurd (cc (sym (by_cause name bytes (Some r) is begins) ∙ read))

      by : (b : Bool) → begins_level bytes ≡ b → IsRead name (Some bytes) head
      by true begins = by_level begins (read_level bytes) refl
      by false begins = by_whole begins (not_whole name bytes) refl

pub is_read : (name : List ℕ) (file : File) (head : LevelHead) → read_file name file ≡ Ok head → IsRead name file head
is_read name None head read = absurd (cc (sym (read_none name) ∙ read))
is_read name (Some bytes) head read = some_read name bytes head read

-- each file was read
pub each_read : (files : Files) (names : List (List ℕ)) (heads : List LevelHead) → read_files files names ≡ Ok heads → (p : ℕ) (dn : List ℕ) (dh : LevelHead) → p < length heads
    → read_file (slice_index_or names p dn) (files (slice_index_or names p dn)) ≡ Ok (slice_index_or heads p dh)
each_read files [] heads read p dn dh there = let none : [] ≡ heads = cc (sym (none_left files) ∙ read) in absurd (omega (arith, there, ap length none))
each_read files (name ∷ names) heads read p dn dh there = by (read_file name (files name)) refl (read_files files names) refl (each_read files names)
  where
    at : (h : LevelHead) (hs : List LevelHead) → read_file name (files name) ≡ Ok h → h ∷ hs ≡ heads → (q : ℕ) → q ≡ p
        → ((k : ℕ) → k < length hs → read_file (slice_index_or names k dn) (files (slice_index_or names k dn)) ≡ Ok (slice_index_or hs k dh))
        → read_file (slice_index_or (name ∷ names) q dn) (files (slice_index_or (name ∷ names) q dn)) ≡ Ok (slice_index_or heads q dh)
    at h hs is all zero same behind = is ∙ ap (λ (l : List LevelHead). Ok (slice_index_or l 0 dh)) all
    at h hs is all (suc q) same behind = behind q (omega (arith, there, same, ap length all)) ∙ ap (λ (l : List LevelHead). Ok (slice_index_or l (suc q) dh)) all

    by : (r : Result LevelHead Refusal) → read_file name (files name) ≡ r → (more : Result (List LevelHead) Refusal) → read_files files names ≡ more
        → ((hs : List LevelHead) → read_files files names ≡ Ok hs → (p : ℕ) (dn : List ℕ) (dh : LevelHead) → p < length hs → read_file (slice_index_or names p dn) (files (slice_index_or names p dn)) ≡ Ok (slice_index_or hs p dh))
        → read_file (slice_index_or (name ∷ names) p dn) (files (slice_index_or (name ∷ names) p dn)) ≡ Ok (slice_index_or heads p dh)
    by (Err refusal) is more rest further = absurd (cc (sym (by_first files name names (Err refusal) is) ∙ read))
    by (Ok h) is (Err refusal) rest further = absurd (cc (sym (by_first files name names (Ok h) is ∙ ap (with_first h) rest) ∙ read))
    by (Ok h) is (Ok hs) rest further =
        let all : h ∷ hs ≡ heads = cc (sym (by_first files name names (Ok h) is ∙ ap (with_first h) rest) ∙ read) in
        at h hs is all p refl (λ k within. further hs rest k dn dh within)
