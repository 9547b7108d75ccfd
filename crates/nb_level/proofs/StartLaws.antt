-- A head that was read from the front of a file.
use Rattle.std.proofs.Common.{◌≡◌, inl, inr, ℕ, ◌+◌, ◌<◌, ◌≤◌, nat_eq, List, [], ◌∷◌, length, take, drop, refl, sym, ap, ◌∙◌, arith, Option, Some, None, Result, Err, Bool, true, false, not, ◌&&◌, ◌||◌, ◌==◌, nat_lt, nat_le}
use Rattle.nb_level.proofs.Common.{pointwise, cases_lt, take_all, take-take, length-take-le, part, number_in, is_page_size, part-take, number_in-take, Numbered, Head, Contents, first_fault, read_level, read_pages, read_singles, read_runs, with_head, head_in, begins_level, level_signature, end_mark, lt_no, head_of, Reading, head_fault, read_rest, still_to_come, IsBegun, StandsFirst, and_right}
use Rattle.nb_level.specs.declared.place.Place.{Place}
use Rattle.nb_level.proofs.ReadingLaws.{rest-none}

-- what a file holds, by the first fault of its head
abbrev by_fault : List ℕ → Option ℕ → Result Contents ℕ
by_fault bytes (Some place) = Err place
by_fault bytes None = with_head (number_in 4 2 bytes) (head_in bytes) (read_pages (number_in 4 2 bytes) (head_in bytes) bytes)

level-by_fault : (bytes : List ℕ) → read_level bytes ≡ by_fault bytes (head_fault bytes)
unfolding read_level head_fault head_in
level-by_fault bytes = from (head_fault bytes) where
  from : (o : Option ℕ) → elim o [ Some place ↦ Err place | None ↦ with_head (number_in 4 2 bytes) (head_in bytes) (read_pages (number_in 4 2 bytes) (head_in bytes) bytes) ] ≡ by_fault bytes o
  from (Some place) = refl
  from None = refl

-- a head by its fields
abbrev by_head : (begins cut : Bool) (place version level size previous scn : ℕ) → Option ℕ
by_head begins cut place version level size previous scn = first_fault (
    (not begins, 0)
    ∷ (cut, place)
    ∷ (not (version == 101 || version == 102), 4)
    ∷ (not (nat_le 1 level && nat_le level 9), 6)
    ∷ (not (is_page_size size), 40)
    ∷ (not (nat_lt previous scn), 44)
    ∷ [])

begins-take : (bytes : List ℕ) → begins_level (take 52 bytes) ≡ begins_level bytes
unfolding begins_level
begins-take bytes = ap (λ l. pointwise nat_eq l level_signature) (take-take 4 52 bytes (omega arith))

-- the front of a file tells as much of its head as all of it
fault-window : (bytes : List ℕ) → head_fault (take 52 bytes) ≡ head_fault bytes
unfolding head_fault first_fault
fault-window bytes = elim (cases_lt (length bytes) 52) [
  | inl short ↦ ap head_fault (take_all 52 bytes (omega arith))
  | inr long ↦
      let w : List ℕ = take 52 bytes in
      let size : length w ≡ 52 = length-take-le 52 bytes long in
      let b : Bool = begins_level bytes in
      let v : ℕ = number_in 4 2 bytes in
      let l : ℕ = number_in 6 2 bytes in
      let z : ℕ = number_in 40 4 bytes in
      let p : ℕ = number_in 48 4 bytes in
      let s : ℕ = number_in 44 4 bytes in
      let one : by_head (begins_level w) (nat_lt (length w) 52) (0 + length w) (number_in 4 2 w) (number_in 6 2 w) (number_in 40 4 w) (number_in 48 4 w) (number_in 44 4 w) ≡ by_head b false (0 + length w) v l z p s =
      ap (λ (x : Bool). by_head x (nat_lt (length w) 52) (0 + length w) (number_in 4 2 w) (number_in 6 2 w) (number_in 40 4 w) (number_in 48 4 w) (number_in 44 4 w)) (begins-take bytes)
      ∙ ap (λ (x : Bool). by_head b x (0 + length w) (number_in 4 2 w) (number_in 6 2 w) (number_in 40 4 w) (number_in 48 4 w) (number_in 44 4 w)) (lt_no (length w) 52 (omega arith))
      ∙ ap (λ (x : ℕ). by_head b false (0 + length w) x (number_in 6 2 w) (number_in 40 4 w) (number_in 48 4 w) (number_in 44 4 w)) (number_in-take 52 4 2 bytes (omega arith))
      ∙ ap (λ (x : ℕ). by_head b false (0 + length w) v x (number_in 40 4 w) (number_in 48 4 w) (number_in 44 4 w)) (number_in-take 52 6 2 bytes (omega arith))
      ∙ ap (λ (x : ℕ). by_head b false (0 + length w) v l x (number_in 48 4 w) (number_in 44 4 w)) (number_in-take 52 40 4 bytes (omega arith))
      ∙ ap (λ (x : ℕ). by_head b false (0 + length w) v l z x (number_in 44 4 w)) (number_in-take 52 48 4 bytes (omega arith))
      ∙ ap (λ (x : ℕ). by_head b false (0 + length w) v l z p x) (number_in-take 52 44 4 bytes (omega arith)) in
      let two : by_head b false (0 + length bytes) v l z p s ≡ by_head b (nat_lt (length bytes) 52) (0 + length bytes) v l z p s =
      ap (λ (x : Bool). by_head b x (0 + length bytes) v l z p s) (sym (lt_no (length bytes) 52 long)) in
      one ∙ two
]

abbrev made : (level : ℕ) (guid previous : List ℕ) (size scn previous_scn : ℕ) → Head
made level guid previous size scn previous_scn = record { level = level; guid = guid; previous = previous; size = size; scn = scn; previous_scn = previous_scn }

head-window : (bytes : List ℕ) → head_in (take 52 bytes) ≡ head_in bytes
unfolding head_in
head-window bytes =
    let w : List ℕ = take 52 bytes in
    let l : ℕ = number_in 6 2 bytes in
    let g : List ℕ = part 8 16 bytes in
    let p : List ℕ = part 24 16 bytes in
    let z : ℕ = number_in 40 4 bytes in
    let s : ℕ = number_in 44 4 bytes in
    ap (λ (x : ℕ). made x (part 8 16 w) (part 24 16 w) (number_in 40 4 w) (number_in 44 4 w) (number_in 48 4 w)) (number_in-take 52 6 2 bytes (omega arith))
    ∙ ap (λ (x : List ℕ). made l x (part 24 16 w) (number_in 40 4 w) (number_in 44 4 w) (number_in 48 4 w)) (part-take 52 8 16 bytes (omega arith))
    ∙ ap (λ (x : List ℕ). made l g x (number_in 40 4 w) (number_in 44 4 w) (number_in 48 4 w)) (part-take 52 24 16 bytes (omega arith))
    ∙ ap (λ (x : ℕ). made l g p x (number_in 44 4 w) (number_in 48 4 w)) (number_in-take 52 40 4 bytes (omega arith))
    ∙ ap (λ (x : ℕ). made l g p z x (number_in 48 4 w)) (number_in-take 52 44 4 bytes (omega arith))
    ∙ ap (λ (x : ℕ). made l g p z s x) (number_in-take 52 48 4 bytes (omega arith))

-- a head that is broken
pub start-broken : (bytes seen : List ℕ) (place : ℕ) → seen ≡ take 52 bytes → Some place ≡ head_fault seen → read_level bytes ≡ Err place
start-broken bytes seen place same fault = level-by_fault bytes ∙ ap (by_fault bytes) (sym (fault ∙ ap head_fault same ∙ fault-window bytes))

-- a reader that begins has all pages still to come
abbrev by_place : List ℕ → Head → Place → Bool → Result (List Numbered) ℕ
by_place bytes h p single = elim single [
  | true ↦ read_singles (length bytes) h p.at p.count p.least (drop p.at bytes)
  | false ↦ read_rest (length bytes) p.left h p.at p.count p.least p.barred (drop p.at bytes)
]

abbrev first_place : Place
first_place = record { at = 52; count = 0; least = 0; barred = end_mark; left = 0 }

pages_from : (bytes : List ℕ) (h : Head) (single : Bool) → by_place bytes h first_place single ≡ elim single [ true ↦ read_singles (length bytes) h 52 0 0 (drop 52 bytes) | false ↦ read_runs (length bytes) h 52 0 0 end_mark (drop 52 bytes) ]
pages_from bytes h true = refl
pages_from bytes h false = rest-none (length bytes) h 52 0 0 end_mark (drop 52 bytes)

pub begun-pages : (bytes : List ℕ) (r : Reading) → r.place ≡ first_place → still_to_come bytes r ≡ read_pages r.version (head_of r.head) bytes
unfolding still_to_come read_pages
begun-pages bytes r at_start = ap (λ (p : Place). by_place bytes (head_of r.head) p (r.version == 101)) at_start ∙ pages_from bytes (head_of r.head) (r.version == 101)

-- a head that is of the form
pub start-begun : (bytes seen first name : List ℕ) (r : Reading) → seen ≡ take 52 bytes → first ≡ take 52 bytes → None ≡ head_fault seen → IsBegun name first r
    → read_level bytes ≡ with_head r.version (head_of r.head) (still_to_come bytes r)
start-begun bytes seen first name r same whole fault begun =
    let v : number_in 4 2 bytes ≡ r.version = sym (begun.version ∙ ap (number_in 4 2) whole ∙ number_in-take 52 4 2 bytes (omega arith)) in
    let h : head_in bytes ≡ head_of r.head = sym (begun.head ∙ ap head_in whole ∙ head-window bytes) in
    level-by_fault bytes ∙ ap (by_fault bytes) (sym (fault ∙ ap head_fault same ∙ fault-window bytes))
    ∙ ap (λ (x : ℕ). with_head x (head_in bytes) (read_pages x (head_in bytes) bytes)) v
    ∙ ap (λ (x : Head). with_head r.version x (read_pages r.version x bytes)) h
    ∙ ap (with_head r.version (head_of r.head)) (sym (begun-pages bytes r begun.place))

-- where the reader stands then, and what size its pages have
pub start-first : (bytes first name : List ℕ) (r : Reading) → first ≡ take 52 bytes → IsBegun name first r → StandsFirst bytes r
unfolding head_in
start-first bytes first name r whole begun = record {
  place = ap (λ (p : Place). p.at) begun.place;
  size = ap (λ (h : Head). h.size) begun.head ∙ ap (number_in 40 4) whole ∙ number_in-take 52 40 4 bytes (omega arith);
}

-- too few bytes to begin as a level file does
pub begins-short : (bytes : List ℕ) → length bytes < 4 → begins_level bytes ≡ false
unfolding begins_level
begins-short [] short = refl
begins-short (a ∷ []) short = and_right (nat_eq a 78) false refl
begins-short (a ∷ (b ∷ [])) short = and_right (nat_eq a 78) _ (and_right (nat_eq b 66) false refl)
begins-short (a ∷ (b ∷ (c ∷ []))) short = and_right (nat_eq a 78) _ (and_right (nat_eq b 66) _ (and_right (nat_eq c 65) false refl))
begins-short (a ∷ (b ∷ (c ∷ (d ∷ l)))) short = absurd (omega arith)

-- a front that is long enough is all that was read
pub front_whole : (got size : ℕ) (after : List ℕ) → length after ≡ size → size ≤ length (take got after) → take got after ≡ after
front_whole got size after room long = elim (cases_lt got size) [
  | inl low ↦ absurd (let n : length (take got after) ≡ got = length-take-le got after (omega arith) in omega arith)
  | inr high ↦ take_all got after (omega arith)
]
