-- The slots of a new data page: its first holds what it was made with, and the others are free.
use Rattle.std.proofs.Common.{◌≡◌, ℕ, zero, suc, ◌+◌, ◌-◌, ◌/◌, ◌≤◌, List, [], ◌∷◌, ◌++◌, length, take, drop, replicate, refl, sym, ap, ◌∙◌, arith, Bool, true, false, ◌&&◌, ◌||◌, ◌==◌, slice_index}
use Rattle.nb_model.proofs.Common.{AllByRecursion, and_parts, eq-eqb, eqb-true, ne_eqb, take_at, drop_at, drop-drop, bytes_of, number_of, number_in, part, padded, is_zeros, stamped, data_payload, number_of-bytes_of, drop-page_of, data_kind, Chain, Slot, is_used, is_filled, is_slot, next_in, slots_from, slots_in, Page}
use Rattle.nb_model.proofs.ImageLaws.{zeros-are}
use Rattle.nb_model.proofs.SlotLaws.{front_zeros, rest_zeros, stamped_long}

-- a slot is free
abbrev pub IsFree : Slot → Type 0
IsFree slot = slice_index slot 0 ≡ 0

pub free_is_unused : (slot : Slot) → IsFree slot → is_used slot ≡ false
free_is_unused slot free = ne_eqb (slice_index slot 0) 1 (λ e. absurd (omega (arith, e, free)))

pub free_fits : (chain : Chain) (slot : Slot) → IsFree slot → is_slot chain slot ≡ true
unfolding is_slot
free_fits chain slot free = ap (λ (t : Bool). t || (is_used slot && is_filled chain slot)) (eq-eqb (slice_index slot 0) 0 free)

zeros_free : (slot : Slot) → is_zeros slot ≡ true → IsFree slot
zeros_free [] zeros = refl
zeros_free (b ∷ bs) zeros = eqb-true b 0 (and_parts (b == 0) (is_zeros bs) zeros).0

-- Where a page is zeros from a place on, its slots from there on are free.
pub zero_free : (page : Page) (from : ℕ) → is_zeros (drop from page) ≡ true → (count at : ℕ) → from ≤ at → AllByRecursion IsFree (slots_from count at page)
unfolding slots_from
zero_free page from zeros zero at less = tt
zero_free page from zeros (suc count) at less =
    let sum : from + (at - from) ≡ at = omega (arith, less) in
    let none : is_zeros (drop at page) ≡ true = ap (λ (k : ℕ). is_zeros (drop k page)) (sym sum) ∙ ap is_zeros (sym (drop-drop (at - from) from page)) ∙ rest_zeros (at - from) (drop from page) zeros in
    (zeros_free (part at 256 page) (front_zeros 256 (drop at page) none), zero_free page from zeros count (at + 256) (omega (arith, less)))

module _ (old : Page) (owner : ℕ) (slots : List ℕ) (scn number : ℕ) where
  abbrev page : Page
  page = stamped old data_kind (data_payload 0 owner slots) scn number

  abbrev zeros : List ℕ
  zeros = replicate (length old - 16 - length (data_payload 0 owner slots)) 0

  behind_head : drop 16 page ≡ data_payload 0 owner slots ++ zeros
  unfolding stamped padded
  behind_head = drop-page_of (length old) 5 _ scn number (data_payload 0 owner slots)

  behind_fields : drop 16 (data_payload 0 owner slots ++ zeros) ≡ slots ++ zeros
  unfolding data_payload bytes_of
  behind_fields = refl

  behind : drop 32 page ≡ slots ++ zeros
  behind = sym (drop-drop 16 16 page) ∙ ap (drop 16) behind_head ∙ behind_fields

  front_fields : take 4 (data_payload 0 owner slots ++ zeros) ≡ bytes_of 4 0
  unfolding data_payload bytes_of
  front_fields = refl

  -- it leads to no other
  pub new_next : next_in page ≡ 0
  unfolding number_in
  new_next = ap (λ (xs : List ℕ). number_of (take 4 xs)) behind_head ∙ ap number_of front_fields ∙ number_of-bytes_of 4 0 (omega arith)

  zeros_are : is_zeros zeros ≡ true
  zeros_are = zeros-are (length old - 16 - length (data_payload 0 owner slots))

-- without slots all are free
pub none_used : (old : Page) (owner scn number : ℕ) → AllByRecursion IsFree (slots_in (stamped old data_kind (data_payload 0 owner []) scn number))
unfolding slots_in
none_used old owner scn number =
    let page : Page = stamped old data_kind (data_payload 0 owner []) scn number in
    zero_free page 32 (ap is_zeros (behind old owner [] scn number) ∙ zeros_are old owner [] scn number) ((length page - 32) / 256) 32 (omega arith)

-- with one it is the first, and the others are free
pub record BeginsWith (slot : Slot) (ss : List Slot) : Type 0 where
  pub rest : List Slot
  pub are : ss ≡ slot ∷ rest
  pub free : AllByRecursion IsFree rest

begins : (page : Page) (slot : Slot) (n : ℕ) → part 32 256 page ≡ slot → is_zeros (drop 288 page) ≡ true → BeginsWith slot (slots_from (suc n) 32 page)
unfolding slots_from
begins page slot n here later = record { rest = slots_from n 288 page; are = ap (λ (s : Slot). s ∷ slots_from n 288 page) here; free = zero_free page 288 later n 288 (omega arith) }

pub data_long : (owner : ℕ) (slot : Slot) → length slot ≡ 256 → length (data_payload 0 owner slot) ≡ 272
unfolding data_payload bytes_of
data_long owner slot sized = omega (arith, sized)

pub one_used : (old : Page) (owner : ℕ) (slot : Slot) (scn number : ℕ) → 1024 ≤ length old → length slot ≡ 256 → BeginsWith slot (slots_in (stamped old data_kind (data_payload 0 owner slot) scn number))
unfolding slots_in
one_used old owner slot scn number long sized = by ((length page - 32) / 256) (some (length page) page_long)
  where
    page : Page
    page = stamped old data_kind (data_payload 0 owner slot) scn number

    payload_long : length (data_payload 0 owner slot) ≡ 272
    payload_long = data_long owner slot sized

    page_long : 1024 ≤ length page
    page_long = omega (arith, long, stamped_long old (data_payload 0 owner slot) 5 scn number (omega (arith, long, payload_long)))

    some : (n : ℕ) → 1024 ≤ n → 1 ≤ (n - 32) / 256
    some n less = omega (arith, less)

    here : part 32 256 page ≡ slot
    here = ap (take 256) (behind old owner slot scn number) ∙ take_at slot (zeros old owner slot scn number) 256 sized

    later : is_zeros (drop 288 page) ≡ true
    later = ap is_zeros (sym (drop-drop 256 32 page) ∙ ap (drop 256) (behind old owner slot scn number) ∙ drop_at slot (zeros old owner slot scn number) 256 sized) ∙ zeros_are old owner slot scn number

    by : (count : ℕ) → 1 ≤ count → BeginsWith slot (slots_from count 32 page)
    by zero less = absurd (omega (arith, less))
    by (suc count) less = begins page slot count here later
