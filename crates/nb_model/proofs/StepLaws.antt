-- What the forms leave of lengths, kinds and bits, whatever stands in the image.
use Rattle.std.proofs.Common.{◌≡◌, ◌≢◌, inl, inr, ℕ, suc, ◌+◌, ◌-◌, ◌*◌, ◌/◌, ◌%◌, ◌^◌, ◌<◌, ◌≤◌, List, [], ◌++◌, length, drop, refl, sym, ap, subst, ◌∙◌, arith, length-drop, Bool, true, false, ◌==◌, ◌||◌, ◌&&◌, nat_lt, IsTrue, max}
use Rattle.nb_model.proofs.Common.{true≢false, and_parts, ltb-true, eqb-true, eqb_tells, leb_tells, length-replicate, is_page_size, entries_in, bits_in, inventory_place, scn_place, is_inventory_place, is_scn_place, is_system_place, size_of, kind_of, page_of, generation_of, stamped, bit_of, inventory_payload, scn_payload, SizeFacts, size_facts, bits-least, entries-least, scn_place-some, bytes_of, with_part, length-bytes_of, length-with_part, length-page_of, taken_bits-free, bit_of-inventory, inventory_kind, scn_kind, Page, Image, page_at, image_size, image_scn, HasItsEntry, Draft, drafted, old_page, wrote, written, needs, is_kind, inventory_of, scn_page_of, bit_number, entry_number, has_entry, scn_entry, is_free_page, entry_written, entry_raised, raised, put, with_bit, set_bit, take_page, system_kind, system_payload, system_page, is_kept, IsOfSize, and_right}
use Rattle.nb_model.proofs.DraftJoin.{join_set_bit}
use Rattle.nb_model.proofs.StrokeLaws.{with_page_same, with_page_other}
use Rattle.nb_model.proofs.SoundLaws.{all_at, all_from, inventory_there, inventory_place_some, scn_page_there, scn_place_before, with_page_length}
use Rattle.nb_model.proofs.FitLaws.{form_page, written_image}
use Rattle.nb_model.proofs.NewSound.{places_apart, inventory_before, stamped_kind, plain_place, system_is}
use Rattle.nb_model.proofs.FreshSound.{inventory_length, scn_length}
use Rattle.nb_model.proofs.BitLaws.{bit_else, bit_here, with_bit_length, bit_behind, one_bit}
use Rattle.nb_model.proofs.RoundLaws.{kind_found, needs_found}

-- long enough for the first page of the SCN inventory, of whole pages
pub record IsShaped (x : Image) : Type 0 where
  pub size : IsTrue (is_page_size (image_size x))
  pub least : 3 ≤ length x
  pub sizes : IsOfSize (image_size x) x

-- y is x with page p written, of that kind
pub record IsWritten (x y : Image) (p kind : ℕ) : Type 0 where
  pub long : length y ≡ max (length x) (p + 1)
  pub here : kind_of (page_at y p) ≡ kind
  pub wide : length (page_at y p) ≡ image_size x
  pub others : (r : ℕ) → r ≢ p → page_at y r ≡ page_at x r

pub kind_parts : (x : Image) (kind p : ℕ) → is_kind x kind p ≡ true → (p < length x) × (kind_of (page_at x p) ≡ kind)
unfolding is_kind
kind_parts x kind p is =
    let both = and_parts (nat_lt p (length x)) (kind_of (page_at x p) == kind) is in
    (ltb-true p (length x) both.0, eqb-true (kind_of (page_at x p)) kind both.1)

old_long : (x : Image) (p : ℕ) → IsShaped x → length (old_page p x) ≡ image_size x
unfolding old_page
old_long x p h = elim (leb_tells (suc p) (length x)) [
  | inl w ↦ rw (w.0, old_page) (all_at (λ page. length page ≡ image_size x) x h.sizes p w.1)
  | inr w ↦ rw (w.0, old_page) (length-replicate (image_size x) 0)
]

stamped_long : (old : Page) (kind : ℕ) (payload : List ℕ) (scn number : ℕ) → 16 + length payload ≤ length old → length (stamped old kind payload scn number) ≡ length old
unfolding stamped
stamped_long old kind payload scn number room = length-page_of (length old) kind _ scn number payload room

pub form_written : (d : Draft) (p kind : ℕ) (payload : List ℕ) → IsShaped d.image → 1 ≤ p → p ≤ length d.image → 16 + length payload ≤ image_size d.image → IsWritten d.image (written p kind payload d).image p kind
form_written d p kind payload h behind there room = subst (λ (y : Image). IsWritten d.image y p kind) (sym (written_image p kind payload d behind)) (record {
  long = with_page_length p bytes d.image there;
  here = ap kind_of (with_page_same p bytes d.image there) ∙ stamped_kind (old_page p d.image) kind payload (image_scn d.image) p;
  wide = ap length (with_page_same p bytes d.image there) ∙ stamped_long (old_page p d.image) kind payload (image_scn d.image) p (omega (arith, room, old_long d.image p h)) ∙ old_long d.image p h;
  others = λ r ne. with_page_other p r bytes d.image there ne;
})
  where
    bytes : Page
    bytes = form_page p kind payload d.image

module _ (x y : Image) (p kind : ℕ) (behind : 1 ≤ p) (w : IsWritten x y p kind) where
  pub written_size : image_size y ≡ image_size x
  written_size = ap size_of (w.others 0 (λ e. absurd (omega (arith, e, behind))))

  pub written_kinds : (r : ℕ) → r ≢ p → kind_of (page_at y r) ≡ kind_of (page_at x r)
  written_kinds r ne = ap kind_of (w.others r ne)

  pub written_shaped : IsShaped x → p ≤ length x → IsShaped y
  written_shaped h there = record {
    size = subst (λ (s : ℕ). IsTrue (is_page_size s)) (sym written_size) h.size;
    least = let least = h.least in omega (arith, w.long, least);
    sizes = all_from (λ page. length page ≡ image_size y) y (λ r low. elim (eqb_tells r p) [
      | inl e ↦ ap (λ (n : ℕ). length (page_at y n)) e.1 ∙ w.wide ∙ sym written_size
      | inr e ↦ ap length (w.others r e.1) ∙ all_at (λ page. length page ≡ image_size x) x h.sizes r (omega (arith, low, w.long, e.1)) ∙ sym written_size
    ]);
  }

-- no inventory page is an SCN page
pub inventory_has : (x : Image) (k : ℕ) → IsTrue (is_page_size (image_size x)) → has_entry x (inventory_place (image_size x) k) ≡ true
unfolding has_entry
inventory_has x k is = by (q == 0) (is_scn_place (image_size x) q) refl refl
  where
    q : ℕ
    q = inventory_place (image_size x) k

    by : (s t : Bool) → (q == 0) ≡ s → is_scn_place (image_size x) q ≡ t → elim (q == 0 || is_scn_place (image_size x) q) as (λ z. Bool) [ true ↦ false | false ↦ true ] ≡ true
    by true t e f = absurd (omega (arith, eqb-true q 0 e, inventory_place_some (image_size x) k is))
    by false true e f = absurd (places_apart (image_size x) q is (inventory_there (image_size x) k is) f)
    by false false e f = ap (λ (u : Bool). elim (u || is_scn_place (image_size x) q) as (λ z. Bool) [ true ↦ false | false ↦ true ]) e ∙ ap (λ (u : Bool). elim u as (λ z. Bool) [ true ↦ false | false ↦ true ]) f

-- y is x with the entry of page p raised, or as it was
pub record IsRaisedOn (x y : Image) (p : ℕ) : Type 0 where
  pub size : image_size y ≡ image_size x
  pub long : length y ≡ length x
  pub shaped : IsShaped y
  pub kinds : (r : ℕ) → kind_of (page_at y r) ≡ kind_of (page_at x r)
  pub others : (r : ℕ) → r ≢ scn_page_of x p → page_at y r ≡ page_at x r

raised_same : (x : Image) (p : ℕ) → IsShaped x → IsRaisedOn x x p
raised_same x p h = record { size = refl; long = refl; shaped = h; kinds = λ r. refl; others = λ r ne. refl }

-- what a draft leaves that broke nothing
abbrev pub IsClear : Draft → Type 0
IsClear d = (d.broken ≡ []) × (d.full ≡ false)

-- an SCN page with an entry written
entry_on : (d : Draft) (p : ℕ) → IsShaped d.image → is_kind d.image scn_kind (scn_page_of d.image p) ≡ true → IsRaisedOn d.image (entry_written p d).image p
unfolding entry_written
entry_on d p h found = record {
  size = written_size x y s 10 some w;
  long = omega (arith, w.long, low);
  shaped = written_shaped x y s 10 some w h (omega (arith, low));
  kinds = λ r. elim (eqb_tells r s) [
    | inl e ↦ ap (λ (n : ℕ). kind_of (page_at y n)) e.1 ∙ w.here ∙ sym (kind_parts x scn_kind s found).1 ∙ ap (λ (n : ℕ). kind_of (page_at x n)) (sym e.1)
    | inr e ↦ written_kinds x y s 10 some w r e.1
  ];
  others = w.others;
}
  where
    x : Image
    x = d.image

    s : ℕ
    s = scn_page_of x p

    low : s < length x
    low = (kind_parts x scn_kind s found).0

    some : 1 ≤ s
    some = omega (arith, scn_place-some (image_size x) (p / entries_in (image_size x)) h.size)

    entries : Page
    entries = with_part (32 + 4 * entry_number x p) (bytes_of 4 (image_scn x)) (page_at x s)

    inside : 32 + 4 * entry_number x p + 4 ≤ image_size x
    inside =
        let facts : SizeFacts (image_size x) = size_facts (image_size x) h.size in
        let least = entries-least (image_size x) h.size in
        let below : entry_number x p < entries_in (image_size x) = omega arith in
        omega (arith, facts.at_least)

    page_long : length (page_at x s) ≡ image_size x
    page_long = all_at (λ page. length page ≡ image_size x) x h.sizes s low

    entries_long : length entries ≡ image_size x
    entries_long =
        let four = length-bytes_of 4 (image_scn x) in
        length-with_part (32 + 4 * entry_number x p) (bytes_of 4 (image_scn x)) (page_at x s) (omega (arith, page_long, inside, four)) ∙ page_long

    room : 16 + length (drop 16 entries) ≤ image_size x
    room = let facts : SizeFacts (image_size x) = size_facts (image_size x) h.size in omega (arith, facts.at_least, entries_long, length-drop 16 entries)

    y : Image
    y = (written s 10 (drop 16 entries) d).image

    w : IsWritten x y s 10
    w = form_written d s 10 (drop 16 entries) h some (omega (arith, low)) room

-- What an entry that is raised leaves: nothing is broken where its SCN page is of its kind.
pub record Raised (x : Image) (p : ℕ) (d : Draft) : Type 0 where
  pub clear : IsClear d
  pub on : IsRaisedOn x d.image p

either_raised : (x : Image) (p : ℕ) (t : Bool) (d e : Draft) → Raised x p d → Raised x p e → Raised x p (elim t as (λ z. Draft) [ true ↦ d | false ↦ e ])
either_raised x p true d e rd re = rd
either_raised x p false d e rd re = re

entry_clear : (p : ℕ) (x : Image) → IsClear (entry_written p (drafted x))
unfolding entry_written written wrote
entry_clear p x = (refl, refl)

raising : (x : Image) (p : ℕ) → IsShaped x → is_kind x scn_kind (scn_page_of x p) ≡ true → Raised x p (entry_raised p (drafted x))
unfolding entry_raised
raising x p h e = either_raised x p (nat_lt (scn_entry x p) (image_scn x)) (entry_written p (drafted x)) (drafted x)
    (record { clear = entry_clear p x; on = entry_on (drafted x) p h e })
    (record { clear = (refl, refl); on = raised_same x p h })

pub raised_on : (x : Image) (p : ℕ) → IsShaped x → HasItsEntry x p → Raised x p (raised p (drafted x))
unfolding raised
raised_on x p h there = by (has_entry x p) refl
  where
    by : (t : Bool) → has_entry x p ≡ t → Raised x p (elim t as (λ z. Draft) [ true ↦ entry_raised p (needs 10 (scn_page_of x p) (drafted x)) | false ↦ drafted x ])
    by true e = subst (λ (d : Draft). Raised x p (entry_raised p d)) (sym (needs_found x 10 (scn_page_of x p) (there e))) (raising x p h (there e))
    by false e = record { clear = (refl, refl); on = raised_same x p h }

-- y is x with page p put, of that kind: its SCN entry may be raised too
pub record IsPutOn (x y : Image) (p kind : ℕ) (payload : List ℕ) : Type 0 where
  pub size : image_size y ≡ image_size x
  pub long : length y ≡ max (length x) (p + 1)
  pub shaped : IsShaped y
  pub here : kind_of (page_at y p) ≡ kind
  pub kinds : (r : ℕ) → r ≢ p → kind_of (page_at y r) ≡ kind_of (page_at x r)
  pub others : (r : ℕ) → r ≢ p → r ≢ scn_page_of x p → page_at y r ≡ page_at x r
  pub old : Page
  pub scn : ℕ
  pub old_is : length old ≡ image_size x
  pub page : page_at y p ≡ stamped old kind payload scn p

pub record Puts (x : Image) (p kind : ℕ) (payload : List ℕ) (d : Draft) : Type 0 where
  pub clear : IsClear d
  pub on : IsPutOn x d.image p kind payload

written_clear : (p kind : ℕ) (payload : List ℕ) (e : Draft) → IsClear e → IsClear (written p kind payload e)
unfolding written wrote
written_clear p kind payload e c = c

pub put_on : (x : Image) (p kind : ℕ) (payload : List ℕ) → IsShaped x → HasItsEntry x p → 1 ≤ p → p ≤ length x → 16 + length payload ≤ image_size x → Puts x p kind payload (put p kind payload (drafted x))
unfolding put
put_on x p kind payload h there behind below room = record {
  clear = written_clear p kind payload d r.clear;
  on = record {
    size = written_size m y p kind behind w ∙ on.size;
    long = omega (arith, w.long, on.long);
    shaped = written_shaped m y p kind behind w on.shaped below_m;
    here = w.here;
    kinds = λ q ne. written_kinds m y p kind behind w q ne ∙ on.kinds q;
    others = λ q ne other. w.others q ne ∙ on.others q other;
    old = old_page p m;
    scn = image_scn m;
    old_is = old_long m p on.shaped ∙ on.size;
    page = ap (λ (z : Image). page_at z p) (written_image p kind payload d behind) ∙ with_page_same p (form_page p kind payload m) m below_m;
  };
}
  where
    d : Draft
    d = raised p (drafted x)

    r : Raised x p d
    r = raised_on x p h there

    on : IsRaisedOn x d.image p
    on = r.on

    m : Image
    m = d.image

    y : Image
    y = (written p kind payload d).image

    below_m : p ≤ length m
    below_m = omega (arith, below, on.long)

    w : IsWritten m y p kind
    w = form_written d p kind payload on.shaped behind below_m (omega (arith, room, on.size))

-- y is x with the bit of page p written, in an inventory page of its kind
pub record IsTakenOn (x y : Image) (p : ℕ) : Type 0 where
  pub size : image_size y ≡ image_size x
  pub long : length y ≡ length x
  pub shaped : IsShaped y
  pub kinds : (r : ℕ) → kind_of (page_at y r) ≡ kind_of (page_at x r)
  pub here : is_free_page y p ≡ false
  pub others : (q : ℕ) → q ≢ p → is_free_page y q ≡ is_free_page x q

pub record Takes (x : Image) (p : ℕ) (d : Draft) : Type 0 where
  pub clear : IsClear d
  pub on : IsTakenOn x d.image p

module _ (x : Image) (p : ℕ) (h : IsShaped x) (found : is_kind x inventory_kind (inventory_of x p) ≡ true) (there : HasItsEntry x (inventory_of x p)) where
  abbrev i : ℕ
  i = inventory_of x p

  abbrev row : Page
  row = with_bit (bit_number x p) 0 (page_at x i)

  low : i < length x
  low = (kind_parts x inventory_kind i found).0

  i_long : length (page_at x i) ≡ image_size x
  i_long = all_at (λ page. length page ≡ image_size x) x h.sizes i low

  row_long : length row ≡ image_size x
  row_long = with_bit_length (bit_number x p) 0 (page_at x i) ∙ i_long

  abbrev taking : Draft
  taking = put i inventory_kind (drop 16 row) (drafted x)

  puts : Puts x i 2 (drop 16 row) taking
  puts =
      let facts : SizeFacts (image_size x) = size_facts (image_size x) h.size in
      put_on x i 2 (drop 16 row) h there (inventory_place_some (image_size x) (p / bits_in (image_size x)) h.size) (omega (arith, low)) (omega (arith, facts.at_least, row_long, length-drop 16 row))

  on : IsPutOn x taking.image i 2 (drop 16 row)
  on = puts.on

  take_is : take_page p (drafted x) ≡ taking
  unfolding set_bit
  take_is = ap (put i inventory_kind (drop 16 row)) (needs_found x 2 i found)

  -- a bit of that inventory page
  row_bit : (j : ℕ) → bit_of (page_at taking.image i) j ≡ bit_of row j
  row_bit j =
      let facts : SizeFacts (image_size x) = size_facts (image_size x) h.size in
      ap (λ (z : Page). bit_of z j) on.page ∙ bit_behind on.old 2 on.scn i j row (row_long ∙ sym on.old_is) (omega (arith, facts.at_least, on.old_is))

  inside : 32 + bit_number x p / 8 < length (page_at x i)
  inside =
      let facts : SizeFacts (image_size x) = size_facts (image_size x) h.size in
      let least = bits-least (image_size x) h.size in
      let below : bit_number x p < bits_in (image_size x) = omega arith in
      omega (arith, facts.at_least, i_long)

  free_now : (q : ℕ) → is_free_page taking.image q ≡ (bit_of (page_at taking.image (inventory_of x q)) (bit_number x q) == 1)
  unfolding is_free_page
  free_now q = ap (λ (s : ℕ). bit_of (page_at taking.image (inventory_place s (q / bits_in s))) (q % bits_in s) == 1) on.size

  free_here : is_free_page taking.image p ≡ false
  free_here = free_now p ∙ ap (λ (n : ℕ). n == 1) (row_bit (bit_number x p) ∙ bit_here (bit_number x p) 0 (page_at x i) (omega arith) inside)

  bit_other : (q : ℕ) → q ≢ p → bit_of (page_at taking.image (inventory_of x q)) (bit_number x q) ≡ bit_of (page_at x (inventory_of x q)) (bit_number x q)
  bit_other q other = elim (eqb_tells (inventory_of x q) i) [
    | inl w ↦
        ap (λ (n : ℕ). bit_of (page_at taking.image n) (bit_number x q)) w.1 ∙ row_bit (bit_number x q)
        ∙ bit_else (bit_number x p) (bit_number x q) 0 (page_at x i) (omega arith) inside (λ e. other (one_bit (image_size x) p q h.size w.1 e))
        ∙ ap (λ (n : ℕ). bit_of (page_at x n) (bit_number x q)) (sym w.1)
    | inr w ↦ ap (λ (z : Page). bit_of z (bit_number x q)) (on.others (inventory_of x q) w.1 (no_entries q))
  ]
    where
      no_entries : (q : ℕ) → inventory_of x q ≢ scn_page_of x i
      no_entries q e = places_apart (image_size x) (inventory_of x q) h.size (inventory_there (image_size x) (q / bits_in (image_size x)) h.size)
          (subst (λ (n : ℕ). is_scn_place (image_size x) n ≡ true) (sym e) (scn_page_there (image_size x) (i / entries_in (image_size x)) h.size))

  free_other : (q : ℕ) → q ≢ p → is_free_page taking.image q ≡ is_free_page x q
  unfolding is_free_page
  free_other q other = free_now q ∙ ap (λ (n : ℕ). n == 1) (bit_other q other)

  pub take_on : Takes x p (take_page p (drafted x))
  take_on = subst (Takes x p) (sym take_is) (record {
    clear = puts.clear;
    on = record {
      size = on.size;
      long = omega (arith, on.long, low);
      shaped = on.shaped;
      kinds = λ r. elim (eqb_tells r i) [
        | inl w ↦ ap (λ (n : ℕ). kind_of (page_at taking.image n)) w.1 ∙ on.here ∙ sym (kind_parts x inventory_kind i found).1 ∙ ap (λ (n : ℕ). kind_of (page_at x n)) (sym w.1)
        | inr w ↦ on.kinds r w.1
      ];
      here = free_here;
      others = free_other;
    };
  })

-- where entries and bits of a page stand goes by the page size
has_moves : (x y : Image) (q : ℕ) → image_size y ≡ image_size x → has_entry y q ≡ has_entry x q
unfolding has_entry
has_moves x y q same = ap (λ (s : ℕ). elim (q == 0 || is_scn_place s q) as (λ z. Bool) [ true ↦ false | false ↦ true ]) same

pub scn_page_moves : (x y : Image) (q : ℕ) → image_size y ≡ image_size x → (is_kind x scn_kind (scn_page_of x q) ≡ true → is_kind y scn_kind (scn_page_of x q) ≡ true) → HasItsEntry x q → HasItsEntry y q
scn_page_moves x y q same keeps there has = subst (λ (s : ℕ). is_kind y scn_kind (scn_place s (q / entries_in s)) ≡ true) (sym same) (keeps (there (sym (has_moves x y q same) ∙ has)))

-- a page that is of a kind stays so
pub kind_moves : (x y : Image) (kind p : ℕ) → length x ≤ length y → kind_of (page_at y p) ≡ kind_of (page_at x p) → is_kind x kind p ≡ true → is_kind y kind p ≡ true
kind_moves x y kind p long same is = let parts = kind_parts x kind p is in kind_found y kind p (omega (arith, parts.0, long)) (same ∙ parts.1)

-- the SCN page of an inventory page stands before what has its bit there
pub map_entry_before : (x : Image) (p : ℕ) → IsTrue (is_page_size (image_size x)) → 3 ≤ p → scn_page_of x (inventory_of x p) < p
map_entry_before x p is three =
    let before = inventory_before (image_size x) p is (omega (arith, three)) in
    elim (scn_place_before (image_size x) (inventory_of x p) is) [ inl second ↦ omega (arith, second, three) | inr first ↦ omega (arith, first, before) ]

-- What a page that is put leaves of bits.
module _ (x y : Image) (p kind : ℕ) (payload : List ℕ) (size : IsTrue (is_page_size (image_size x))) (on : IsPutOn x y p kind payload) where
  free_at : (q : ℕ) → is_free_page y q ≡ (bit_of (page_at y (inventory_of x q)) (bit_number x q) == 1)
  unfolding is_free_page
  free_at q = ap (λ (s : ℕ). bit_of (page_at y (inventory_place s (q / bits_in s))) (q % bits_in s) == 1) on.size

  pub put_keeps_bit : (q : ℕ) → inventory_of x q ≢ p → is_free_page y q ≡ is_free_page x q
  unfolding is_free_page
  put_keeps_bit q other = free_at q ∙ ap (λ (z : Page). bit_of z (bit_number x q) == 1) (on.others (inventory_of x q) other (λ e. places_apart (image_size x) (inventory_of x q) size (inventory_there (image_size x) (q / bits_in (image_size x)) size)
      (subst (λ (n : ℕ). is_scn_place (image_size x) n ≡ true) (sym e) (scn_page_there (image_size x) (p / entries_in (image_size x)) size))))

-- all bits of a fresh inventory page say free
fresh_bit : (size k : ℕ) (old : Page) (scn p i : ℕ) → length old ≡ size → i / 8 < size - 32 → bit_of (stamped old inventory_kind (inventory_payload size k 0) scn p) i ≡ 1
unfolding stamped
fresh_bit size k old scn p i long byte =
    let g : ℕ = (generation_of old + 1) % 2 ^ 32 in
    ap (λ (s : ℕ). bit_of (page_of s 2 g scn p (inventory_payload size k 0)) i) long ∙ bit_of-inventory size 2 g scn p k 0 i byte ∙ taken_bits-free (size - 32) 0 i byte (omega arith)

fresh_free : (x y : Image) (p k : ℕ) → IsTrue (is_page_size (image_size x)) → IsPutOn x y p 2 (inventory_payload (image_size x) k 0) → (q : ℕ) → inventory_of x q ≡ p → is_free_page y q ≡ true
fresh_free x y p k size on q own =
    let facts : SizeFacts (image_size x) = size_facts (image_size x) size in
    let least = bits-least (image_size x) size in
    let below : bit_number x q < bits_in (image_size x) = omega arith in
    let byte : bit_number x q / 8 < image_size x - 32 = omega (arith, facts.at_least) in
    free_at x y p 2 (inventory_payload (image_size x) k 0) size on q
    ∙ ap (λ (r : ℕ). bit_of (page_at y r) (bit_number x q) == 1) own
    ∙ ap (λ (z : Page). bit_of z (bit_number x q) == 1) on.page
    ∙ ap (λ (n : ℕ). n == 1) (fresh_bit (image_size x) k on.old on.scn p (bit_number x q) on.old_is byte)

-- What the search leaves of an image after page p, which is taken then and of that kind.
pub record IsVisited (x y : Image) (p kind : ℕ) : Type 0 where
  pub size : image_size y ≡ image_size x
  pub long : length y ≡ max (length x) (p + 1)
  pub shaped : IsShaped y
  pub of_kind : kind_of (page_at y p) ≡ kind
  pub kinds : (r : ℕ) → r ≢ p → kind_of (page_at y r) ≡ kind_of (page_at x r)
  pub here : is_free_page y p ≡ false
  pub others : (q : ℕ) → q ≢ p → inventory_of x q ≢ p → is_free_page y q ≡ is_free_page x q
  pub kept_map : is_kind x inventory_kind p ≡ true → (q : ℕ) → q ≢ p → inventory_of x q ≡ p → is_free_page y q ≡ is_free_page x q
  pub new_map : is_kind x inventory_kind p ≡ false → (q : ℕ) → q ≢ p → inventory_of x q ≡ p → is_free_page y q ≡ true

-- The draft leaves it, and breaks nothing.
pub record Visits (x : Image) (p kind : ℕ) (d : Draft) : Type 0 where
  pub clear : IsClear d
  pub on : IsVisited x d.image p kind

-- what stands before the bit is taken
pub record IsStood (x y : Image) (p kind : ℕ) : Type 0 where
  pub size : image_size y ≡ image_size x
  pub long : length y ≡ max (length x) (p + 1)
  pub shaped : IsShaped y
  pub of_kind : kind_of (page_at y p) ≡ kind
  pub kinds : (r : ℕ) → r ≢ p → kind_of (page_at y r) ≡ kind_of (page_at x r)
  pub others : (q : ℕ) → inventory_of x q ≢ p → is_free_page y q ≡ is_free_page x q
  pub kept_map : is_kind x inventory_kind p ≡ true → (q : ℕ) → inventory_of x q ≡ p → is_free_page y q ≡ is_free_page x q
  pub new_map : is_kind x inventory_kind p ≡ false → (q : ℕ) → inventory_of x q ≡ p → is_free_page y q ≡ true

-- what a new page at p needs is of its kind
pub record IsReady (x : Image) (p : ℕ) : Type 0 where
  pub map : is_kind x inventory_kind (inventory_of x p) ≡ true
  pub map_entry : HasItsEntry x (inventory_of x p)
  pub entry : is_kept x p ≡ false → HasItsEntry x p

module _ (x : Image) (p kind : ℕ) (h : IsShaped x) (five : 5 ≤ p) (ready : IsReady x p) (d : Draft) (clear : IsClear d) (on : IsStood x d.image p kind) where
  abbrev m : Image
  m = d.image

  map_before : inventory_of x p < p
  map_before = inventory_before (image_size x) p h.size (omega (arith, five))

  moves : (k r : ℕ) → r ≢ p → is_kind x k r ≡ true → is_kind m k r ≡ true
  moves k r ne is = kind_moves x m k r (omega (arith, on.long)) (on.kinds r ne) is

  map_is : inventory_of m p ≡ inventory_of x p
  map_is = ap (λ (s : ℕ). inventory_place s (p / bits_in s)) on.size

  map_there : is_kind m inventory_kind (inventory_of m p) ≡ true
  map_there = ap (is_kind m inventory_kind) map_is ∙ moves 2 (inventory_of x p) (λ e. absurd (omega (arith, e, map_before))) ready.map

  entry_there : HasItsEntry m (inventory_of m p)
  entry_there = subst (HasItsEntry m) (sym map_is) (scn_page_moves x m (inventory_of x p) on.size (moves 10 (scn_page_of x (inventory_of x p)) (λ e. absurd (let before = map_entry_before x p h.size (omega (arith, five)) in omega (arith, e, before)))) ready.map_entry)

  taken : Takes m p (take_page p (drafted m))
  taken = take_on m p on.shaped map_there entry_there

  pub visits : Visits x p kind (take_page p d)
  visits = subst (Visits x p kind) (sym (join_set_bit 0 p d)) (record {
    clear = (ap (λ (ps : List ℕ). ps ++ d.broken) taken.clear.0 ∙ clear.0, ap (λ (t : Bool). t || d.full) taken.clear.1 ∙ clear.1);
    on = let t = taken.on in record {
      size = t.size ∙ on.size;
      long = t.long ∙ on.long;
      shaped = t.shaped;
      of_kind = t.kinds p ∙ on.of_kind;
      kinds = λ r ne. t.kinds r ∙ on.kinds r ne;
      here = t.here;
      others = λ q ne other. t.others q ne ∙ on.others q other;
      kept_map = λ is q ne own. t.others q ne ∙ on.kept_map is q own;
      new_map = λ no q ne own. t.others q ne ∙ on.new_map no q own;
    };
  })

-- a page of that kind stands there
here_stood : (x : Image) (p kind : ℕ) → IsShaped x → is_kind x kind p ≡ true → (is_kind x inventory_kind p ≡ false → (q : ℕ) → inventory_of x q ≢ p) → IsStood x x p kind
here_stood x p kind h is no_map =
    let parts = kind_parts x kind p is in
    record {
      size = refl;
      long = omega (arith, parts.0);
      shaped = h;
      of_kind = parts.1;
      kinds = λ r ne. refl;
      others = λ q other. refl;
      kept_map = λ two q own. refl;
      new_map = λ no q own. absurd (no_map no q own);
    }

-- or is put, where no inventory page has its place,
put_stood : (x y : Image) (p kind : ℕ) (payload : List ℕ) → IsShaped x → IsPutOn x y p kind payload → ((q : ℕ) → inventory_of x q ≢ p) → IsStood x y p kind
put_stood x y p kind payload h on no_map = record {
  size = on.size;
  long = on.long;
  shaped = on.shaped;
  of_kind = on.here;
  kinds = on.kinds;
  others = λ q other. put_keeps_bit x y p kind payload h.size on q other;
  kept_map = λ two q own. absurd (no_map q own);
  new_map = λ no q own. absurd (no_map q own);
}

-- and where one has, as one of free bits.
fresh_stood : (x y : Image) (p k : ℕ) → IsShaped x → IsPutOn x y p 2 (inventory_payload (image_size x) k 0) → is_kind x inventory_kind p ≡ false → IsStood x y p 2
fresh_stood x y p k h on none = record {
  size = on.size;
  long = on.long;
  shaped = on.shaped;
  of_kind = on.here;
  kinds = on.kinds;
  others = λ q other. put_keeps_bit x y p 2 (inventory_payload (image_size x) k 0) h.size on q other;
  kept_map = λ two q own. absurd (true≢false (sym two ∙ none));
  new_map = λ no q own. fresh_free x y p k h.size on q own;
}

-- a page that is no inventory page has no bits
no_map_at : (x : Image) (p : ℕ) → IsTrue (is_page_size (image_size x)) → is_inventory_place (image_size x) p ≡ false → (q : ℕ) → inventory_of x q ≢ p
no_map_at x p size none q e = true≢false (sym (inventory_there (image_size x) (q / bits_in (image_size x)) size) ∙ ap (is_inventory_place (image_size x)) e ∙ none)

-- where page p isn't of the kind of its place it is written
unkept_is : (x : Image) (p kind : ℕ) → system_kind x p ≡ kind → is_kind x kind p ≡ false → is_kept x p ≡ false
unfolding is_kept
unkept_is x p kind e none = ap (λ (t : Bool). is_system_place (image_size x) p && t) (ap (λ (k : ℕ). is_kind x k p) e ∙ none) ∙ and_right (is_system_place (image_size x) p) false refl

pub plain_unkept : (x : Image) (p : ℕ) → is_system_place (image_size x) p ≡ false → is_kept x p ≡ false
unfolding is_kept
plain_unkept x p plain = ap (λ (t : Bool). t && is_kind x (system_kind x p) p) plain

map_payload : (x : Image) (p : ℕ) → is_inventory_place (image_size x) p ≡ true → system_payload x p ≡ inventory_payload (image_size x) ((p + 1) / bits_in (image_size x)) 0
unfolding system_payload
map_payload x p map = ap (λ (t : Bool). elim t as (λ z. List ℕ) [ true ↦ inventory_payload (image_size x) ((p + 1) / bits_in (image_size x)) 0 | false ↦ scn_payload (image_size x) (p / entries_in (image_size x)) (image_scn x) ]) map

entries_payload : (x : Image) (p : ℕ) → is_inventory_place (image_size x) p ≡ false → system_payload x p ≡ scn_payload (image_size x) (p / entries_in (image_size x)) (image_scn x)
unfolding system_payload
entries_payload x p map = ap (λ (t : Bool). elim t as (λ z. List ℕ) [ true ↦ inventory_payload (image_size x) ((p + 1) / bits_in (image_size x)) 0 | false ↦ scn_payload (image_size x) (p / entries_in (image_size x)) (image_scn x) ]) map

-- A system page, made where none of its kind stands, and taken.
module _ (x : Image) (p : ℕ) (h : IsShaped x) (five : 5 ≤ p) (below : p ≤ length x) (ready : IsReady x p) (place : is_system_place (image_size x) p ≡ true) where
  -- it is written only where it isn't kept
  unkept : (kind : ℕ) → system_kind x p ≡ kind → is_kind x kind p ≡ false → HasItsEntry x p
  unkept kind e none = ready.entry (unkept_is x p kind e none)

  of_map : is_inventory_place (image_size x) p ≡ true → Visits x p (system_kind x p) (take_page p (system_page p (drafted x)))
  of_map map = subst (λ (n : ℕ). Visits x p n (take_page p (system_page p (drafted x)))) (sym kind) (subst (λ (d : Draft). Visits x p 2 (take_page p d)) (sym (system_is p inventory_kind bits (drafted x) kind payload)) (by (is_kind x inventory_kind p) refl))
    where
      k : ℕ
      k = (p + 1) / bits_in (image_size x)

      bits : List ℕ
      bits = inventory_payload (image_size x) k 0

      kind : system_kind x p ≡ 2
      kind = ap (λ (t : Bool). elim t as (λ z. ℕ) [ true ↦ 2 | false ↦ 10 ]) map

      payload : system_payload x p ≡ bits
      payload = map_payload x p map

      room : 16 + length bits ≤ image_size x
      room = let facts : SizeFacts (image_size x) = size_facts (image_size x) h.size in omega (arith, facts.at_least, inventory_length (image_size x) k 0)

      by : (t : Bool) → is_kind x inventory_kind p ≡ t → Visits x p 2 (take_page p (elim t as (λ z. Draft) [ true ↦ drafted x | false ↦ put p inventory_kind bits (drafted x) ]))
      by true e = visits x p 2 h five ready (drafted x) (refl, refl) (here_stood x p 2 h e (λ no. absurd (true≢false (sym e ∙ no))))
      by false e =
          let puts : Puts x p 2 bits (put p inventory_kind bits (drafted x)) = put_on x p 2 bits h (unkept 2 kind e) (omega (arith, five)) below room in
          visits x p 2 h five ready (put p inventory_kind bits (drafted x)) puts.clear (fresh_stood x (put p inventory_kind bits (drafted x)).image p k h puts.on e)

  of_entries : is_inventory_place (image_size x) p ≡ false → Visits x p (system_kind x p) (take_page p (system_page p (drafted x)))
  of_entries map = subst (λ (n : ℕ). Visits x p n (take_page p (system_page p (drafted x)))) (sym kind) (subst (λ (d : Draft). Visits x p 10 (take_page p d)) (sym (system_is p scn_kind entries (drafted x) kind payload)) (by (is_kind x scn_kind p) refl))
    where
      entries : List ℕ
      entries = scn_payload (image_size x) (p / entries_in (image_size x)) (image_scn x)

      kind : system_kind x p ≡ 10
      kind = ap (λ (t : Bool). elim t as (λ z. ℕ) [ true ↦ 2 | false ↦ 10 ]) map

      payload : system_payload x p ≡ entries
      payload = entries_payload x p map

      room : 16 + length entries ≤ image_size x
      room = let facts : SizeFacts (image_size x) = size_facts (image_size x) h.size in omega (arith, facts.at_least, scn_length (image_size x) (p / entries_in (image_size x)) (image_scn x))

      by : (t : Bool) → is_kind x scn_kind p ≡ t → Visits x p 10 (take_page p (elim t as (λ z. Draft) [ true ↦ drafted x | false ↦ put p scn_kind entries (drafted x) ]))
      by true e = visits x p 10 h five ready (drafted x) (refl, refl) (here_stood x p 10 h e (λ no. no_map_at x p h.size map))
      by false e =
          let puts : Puts x p 10 entries (put p scn_kind entries (drafted x)) = put_on x p 10 entries h (unkept 10 kind e) (omega (arith, five)) below room in
          visits x p 10 h five ready (put p scn_kind entries (drafted x)) puts.clear (put_stood x (put p scn_kind entries (drafted x)).image p 10 entries h puts.on (no_map_at x p h.size map))

  pub system_visits : Visits x p (system_kind x p) (take_page p (system_page p (drafted x)))
  system_visits = by (is_inventory_place (image_size x) p) refl
    where
      by : (t : Bool) → is_inventory_place (image_size x) p ≡ t → Visits x p (system_kind x p) (take_page p (system_page p (drafted x)))
      by true e = of_map e
      by false e = of_entries e

-- A page that is no system page, made and taken.
pub plain_visits : (x : Image) (p kind : ℕ) (payload : List ℕ) → IsShaped x → 5 ≤ p → p ≤ length x → IsReady x p → is_system_place (image_size x) p ≡ false → length payload ≤ 1008
    → Visits x p kind (take_page p (put p kind payload (drafted x)))
plain_visits x p kind payload h five below ready plain short =
    let facts : SizeFacts (image_size x) = size_facts (image_size x) h.size in
    let puts : Puts x p kind payload (put p kind payload (drafted x)) = put_on x p kind payload h (ready.entry (plain_unkept x p plain)) (omega (arith, five)) below (omega (arith, short, facts.at_least)) in
    visits x p kind h five ready (put p kind payload (drafted x)) puts.clear (put_stood x (put p kind payload (drafted x)).image p kind payload h puts.on (no_map_at x p h.size (plain_place (image_size x) p plain).0))
