-- A new database: its image, and the file that holds it.
use Rattle.std.proofs.Common.{◌≡◌, ℕ, zero, suc, ◌+◌, ◌-◌, ◌*◌, ◌/◌, ◌<◌, ◌≤◌, List, [], ◌∷◌, ◌++◌, length, drop, map, refl, sym, ap, subst, ◌∙◌, arith, append-nil, Bool, true, false, IsTrue, not, ◌&&◌, ◌||◌, ◌==◌, nat_le, nat_lt, Some, if◌then◌else◌}
use Rattle.nb_model.proofs.Common.{AllByRecursion, flat_map, range_with_len, cond_both, PageKind, Header, Inventory, Data, Raw, ScnInventory, bytes_of, number_of, number_in, padded, is_zeros, code_of, is_page_size, is_system_place, entries_in, bits_in, head_of, page_of, control_block, header_payload, inventory_payload, same_entries, scn_payload, data_payload, text_payload, is_header, is_marked, is_sound, state_of, size_of, scn_of, next_plain, length_after, fresh_count, fresh_kind, fresh_payload, fresh_page, fresh, number_of-bytes_of, SizeFacts, size_facts, is_header-long, length-page_of, fresh_count-most, length-taken_bits, normal_state, put_at, Page, Image, page_at, first_page, image_size, image_state, image_scn, is_forced, is_read_only, joined, HasNoZeros, IsOfSize, HoldsMain}
use Rattle.std.proofs.lemmas.List.FromFn.{length-map-range_with_len, get_or-map-range_with_len}
use Rattle.nb_model.proofs.ImageLaws.{joined-flat_map, trimmed-no_zeros, first_and_rest}
use Rattle.nb_model.proofs.MainLaws.{IsLaid, main_laid}
use Rattle.nb_model.proofs.PutLaws.{put-first}
use Rattle.nb_model.proofs.SoundLaws.{page_no_zeros}

-- how many pages there are
next_plain-least : (size p : ℕ) → p ≤ next_plain size p
unfolding next_plain
next_plain-least size p =
    cond_both (is_system_place size p) (if is_system_place size (p + 1) then p + 2 else p + 1) p (λ n. p ≤ n)
    (λ at_p. cond_both (is_system_place size (p + 1)) (p + 2) (p + 1) (λ n. p ≤ n) (λ at_next. omega arith) (λ plain. omega arith)) (λ plain. omega arith)

length_after-least : (size raw p : ℕ) → p ≤ length_after size raw p
unfolding length_after
length_after-least size zero p = omega arith
length_after-least size (suc raw) p = let next = next_plain-least size p in let rest = length_after-least size raw (next_plain size p + 1) in omega arith

pub fresh_count-least : (size raw : ℕ) → 5 ≤ fresh_count size raw
unfolding fresh_count
fresh_count-least size raw = length_after-least size raw 5

pub fresh_length : (size raw : ℕ) → length (fresh size raw) ≡ fresh_count size raw
unfolding fresh
fresh_length size raw = length-map-range_with_len (fresh_page size raw) 0 (fresh_count size raw)

-- each page of the image
pub fresh_page_at : (size raw p : ℕ) → p < fresh_count size raw → page_at (fresh size raw) p ≡ fresh_page size raw p
unfolding fresh
fresh_page_at size raw p low = get_or-map-range_with_len (fresh_page size raw) 0 (fresh_count size raw) p p [] low (omega arith)

-- the payloads fit
pub length-same_entries : (scn n : ℕ) → length (same_entries scn n) ≡ 4 * n
unfolding same_entries bytes_of
length-same_entries scn zero = omega arith
length-same_entries scn (suc n) = let rest = length-same_entries scn n in omega arith

payload-fits : (size raw p : ℕ) (kind : PageKind) → 1024 ≤ size → 16 + length (fresh_payload size raw p kind) ≤ size
unfolding fresh_payload header_payload control_block inventory_payload scn_payload data_payload text_payload bytes_of
payload-fits size raw p Header wide = omega arith
payload-fits size raw p Inventory wide = omega (arith, length-taken_bits (size - 32) (fresh_count size raw - (p + 1) / bits_in size * bits_in size))
payload-fits size raw p ScnInventory wide = omega (arith, length-same_entries 1 (entries_in size))
payload-fits size raw p Data wide = omega arith
payload-fits size raw p Raw wide = omega arith

pub length-fresh_page : (size raw p : ℕ) → IsTrue (is_page_size size) → length (fresh_page size raw p) ≡ size
unfolding fresh_page
length-fresh_page size raw p is =
    let wide : 1024 ≤ size = (size_facts size is).at_least in
    length-page_of size (code_of (fresh_kind size p)) 1 1 p (fresh_payload size raw p (fresh_kind size p)) (payload-fits size raw p (fresh_kind size p) wide)

-- no page is all zeros
pub code-other : (kind : PageKind) → (code_of kind == 0) ≡ false
code-other Header = refl
code-other Inventory = refl
code-other Data = refl
code-other Raw = refl
code-other ScnInventory = refl

pub fresh_page-other : (size raw p : ℕ) → is_zeros (fresh_page size raw p) ≡ false
unfolding fresh_page
fresh_page-other size raw p = page_no_zeros size (code_of (fresh_kind size p)) 1 1 p (fresh_payload size raw p (fresh_kind size p)) (code-other (fresh_kind size p))

-- what holds of each page
each : (P : Page → Type 0) (f : ℕ → Page) (from n : ℕ) → ((p : ℕ) → P (f p)) → AllByRecursion P (map f (range_with_len from n))
each P f from zero h = tt
each P f from (suc n) h = (h from, each P f (from + 1) n h)

pub fresh_no_zeros : (size raw : ℕ) → HasNoZeros (fresh size raw)
unfolding fresh
fresh_no_zeros size raw = each (λ page. is_zeros page ≡ false) (fresh_page size raw) 0 (fresh_count size raw) (fresh_page-other size raw)

pub fresh_sizes : (size raw : ℕ) → IsTrue (is_page_size size) → IsOfSize size (fresh size raw)
unfolding fresh
fresh_sizes size raw is = each (λ page. length page ≡ size) (fresh_page size raw) 0 (fresh_count size raw) (λ p. length-fresh_page size raw p is)

-- the header
pub fresh_first : (size raw : ℕ) → first_page (fresh size raw) ≡ fresh_page size raw 0
fresh_first size raw = let some = fresh_count-least size raw in fresh_page_at size raw 0 (omega arith)

first-size : (size raw : ℕ) → size < 4294967296 → size_of (fresh_page size raw 0) ≡ size
unfolding fresh_page fresh_kind fresh_payload page_of head_of padded header_payload control_block bytes_of number_in
first-size size raw small = number_of-bytes_of 4 size small

first-state : (size raw : ℕ) → state_of (fresh_page size raw 0) ≡ normal_state
unfolding fresh_page fresh_kind fresh_payload page_of head_of padded header_payload control_block bytes_of number_in number_of
first-state size raw = refl

first-scn : (size raw : ℕ) → scn_of (fresh_page size raw 0) ≡ 1
unfolding fresh_page fresh_kind fresh_payload page_of head_of padded header_payload control_block bytes_of number_in number_of
first-scn size raw = refl

first-forced : (size raw : ℕ) → number_in 64 1 (fresh_page size raw 0) ≡ 1
unfolding fresh_page fresh_kind fresh_payload page_of head_of padded header_payload control_block bytes_of number_in number_of
first-forced size raw = refl

first-access : (size raw : ℕ) → number_in 65 1 (fresh_page size raw 0) ≡ 0
unfolding fresh_page fresh_kind fresh_payload page_of head_of padded header_payload control_block bytes_of number_in number_of
first-access size raw = refl

first-marked : (size raw : ℕ) → is_marked (fresh_page size raw 0) ≡ true
unfolding fresh_page fresh_kind fresh_payload page_of head_of padded header_payload control_block bytes_of number_in number_of is_marked
first-marked size raw = refl

sound : (state size scn : ℕ) → state ≡ normal_state → IsTrue (is_page_size size) → scn ≡ 1 → is_sound state size scn ≡ true
sound state size scn normal is one =
    ap (λ x. is_sound x size scn) normal ∙ ap (λ x. is_sound 0 size x) one ∙ ap (λ (b : Bool). nat_le 0 3 && b && nat_le 1 1 && (not (0 == 1) || nat_lt 1 4294967295)) is

first-header : (size raw : ℕ) → IsTrue (is_page_size size) → is_header (fresh_page size raw 0) ≡ true
first-header size raw is =
    let facts : SizeFacts size = size_facts size is in
    let page : Page = fresh_page size raw 0 in
    let same : size_of page ≡ size = first-size size raw (omega (arith, facts.at_most)) in
    is_header-long page (omega (arith, length-fresh_page size raw 0 is, facts.at_least))
    ∙ ap (λ (b : Bool). b && is_sound (state_of page) (size_of page) (scn_of page)) (first-marked size raw)
    ∙ sound (state_of page) (size_of page) (scn_of page) (first-state size raw) (subst (λ x. IsTrue (is_page_size x)) (sym same) is) (first-scn size raw)

pub fresh_size : (size raw : ℕ) → IsTrue (is_page_size size) → image_size (fresh size raw) ≡ size
fresh_size size raw is = let most = (size_facts size is).at_most in ap size_of (fresh_first size raw) ∙ first-size size raw (omega arith)

pub fresh_state : (size raw : ℕ) → image_state (fresh size raw) ≡ normal_state
fresh_state size raw = ap state_of (fresh_first size raw) ∙ first-state size raw

pub fresh_scn : (size raw : ℕ) → image_scn (fresh size raw) ≡ 1
fresh_scn size raw = ap scn_of (fresh_first size raw) ∙ first-scn size raw

pub fresh_forced : (size raw : ℕ) → is_forced (fresh size raw) ≡ true
fresh_forced size raw = ap (λ x. not (x == 0)) (ap (number_in 64 1) (fresh_first size raw) ∙ first-forced size raw)

pub fresh_open : (size raw : ℕ) → is_read_only (fresh size raw) ≡ false
fresh_open size raw = ap (λ x. not (x == 0)) (ap (number_in 65 1) (fresh_first size raw) ∙ first-access size raw)

-- the pages one after another are a main file that holds the image
fresh_laid : (size raw : ℕ) → IsTrue (is_page_size size) → raw ≤ 65535 → IsLaid (fresh size raw) (joined (fresh size raw))
fresh_laid size raw is few =
    let same : image_size (fresh size raw) ≡ size = fresh_size size raw is in
    let none : fresh size raw ≡ fresh size raw ++ [] = sym (append-nil (fresh size raw)) in
    let most = fresh_count-most size raw in
    let least = fresh_count-least size raw in
    record {
      rest = [];
      is = ap joined none;
      size = subst (λ x. IsTrue (is_page_size x)) (sym same) is;
      sizes = subst (λ x. IsOfSize x (fresh size raw ++ [])) (sym same) (subst (λ (x : List Page). IsOfSize size x) none (fresh_sizes size raw is));
      zeros = tt;
      whole = trimmed-no_zeros (fresh size raw) (fresh_no_zeros size raw);
      header = ap is_header (fresh_first size raw) ∙ first-header size raw is;
      least = omega (arith, ap length none, fresh_length size raw);
      most = omega (arith, ap length none, fresh_length size raw);
    }

pub fresh_main : (size raw : ℕ) → IsTrue (is_page_size size) → raw ≤ 65535 → HoldsMain (fresh size raw) (Some (flat_map (λ p. p) (fresh size raw)))
fresh_main size raw is few =
    subst (λ (x : List ℕ). HoldsMain (fresh size raw) (Some x)) (joined-flat_map (fresh size raw)) (main_laid (fresh size raw) (joined (fresh size raw)) (fresh_laid size raw is few) (fresh_state size raw))

-- Where the other pages stand after bytes of one page, page 0 written over those makes the file whole.
pub fresh_rebuilt : (size raw : ℕ) (old : Page) → IsTrue (is_page_size size) → length old ≡ size
    → put_at (flat_map (λ p. p) (old ∷ drop 1 (fresh size raw))) 0 (fresh_page size raw 0) ≡ flat_map (λ p. p) (fresh size raw)
fresh_rebuilt size raw old is long =
    let first : fresh size raw ≡ fresh_page size raw 0 ∷ drop 1 (fresh size raw) = first_and_rest (fresh size raw) (omega (arith, fresh_length size raw, fresh_count-least size raw)) ∙ ap (λ (p : Page). p ∷ drop 1 (fresh size raw)) (fresh_first size raw) in
    let sizes : IsOfSize size (fresh_page size raw 0 ∷ drop 1 (fresh size raw)) = subst (λ (x : Image). IsOfSize size x) first (fresh_sizes size raw is) in
    ap (λ (x : List ℕ). put_at x 0 (fresh_page size raw 0)) (sym (joined-flat_map (old ∷ drop 1 (fresh size raw))))
    ∙ put-first size old (fresh_page size raw 0) (drop 1 (fresh size raw)) (long, sizes.1) sizes.0 ∙ joined-flat_map (fresh_page size raw 0 ∷ drop 1 (fresh size raw)) ∙ ap (λ (x : Image). flat_map (λ p. p) x) (sym first)
