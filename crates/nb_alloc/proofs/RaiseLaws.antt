-- The bytes of the pages that a write of a raw page makes.
use Rattle.std.proofs.Common.{◌≡◌, ℕ, ◌+◌, ◌*◌, ◌/◌, ◌%◌, ◌^◌, ◌<◌, ◌≤◌, inr, List, length, drop, refl, ap, subst, ◌∙◌, arith, length-append, false, ◌==◌, slice_index}
use Rattle.nb_alloc.proofs.Common.{bytes_of, with_part, is_zeros, entries_in, scn_place, head_of, page_of, with_payload, stamped, generation_of, text_payload, entry_of, length-bytes_of, length-with_part, number_in-with_part_other, raw_kind, scn_kind, stamped-with_payload, Page, Image, page_at, image_size, image_scn, page, scn_page_of, entry_number, scn_entry, raise_stroke}
use Rattle.nb_scn.specs.Entries.{entries, entry_place}
use Rattle.nb_scn.proofs.EntryLaws.{get_or-entries}

-- a stamped page isn't all zeros, whatever it holds
pub stamped-some : (old : Page) (kind : ℕ) (payload : List ℕ) (scn number : ℕ) → (kind == 0) ≡ false → is_zeros (stamped old kind payload scn number) ≡ false
unfolding stamped page_of head_of
stamped-some old kind payload scn number other = rw other refl

-- the page that a text and then a stamp make
pub texted : (old written new : Page) (text : List ℕ) (code scn p : ℕ) → written ≡ with_payload old (text_payload text) → new ≡ stamped written code (drop 16 written) scn p → code ≡ 8
    → length text ≤ 200 → 1024 ≤ length old → new ≡ stamped old raw_kind (text_payload text) scn p
unfolding text_payload
texted old written new text code scn p put stamp raw short long =
    stamp ∙ ap (λ (k : ℕ). stamped written k (drop 16 written) scn p) raw ∙ ap (λ (x : Page). stamped x raw_kind (drop 16 x) scn p) put
    ∙ stamped-with_payload old 8 (text_payload text) scn p (omega (arith, length-append (bytes_of 2 (length text)) text, length-bytes_of 2 (length text), short, long))

-- so it is that of the stroke
pub raw_page : (image : Image) (old written new : Page) (text : List ℕ) (code scn p : ℕ) → written ≡ with_payload old (text_payload text) → new ≡ stamped written code (drop 16 written) scn p → code ≡ 8
    → length text ≤ 200 → 1024 ≤ length old → old ≡ page_at image p → scn ≡ image_scn image → new ≡ stamped (page_at image p) raw_kind (text_payload text) (image_scn image) p
raw_page image old written new text code scn p put stamp raw short long is now =
    texted old written new text code scn p put stamp raw short long
    ∙ ap (λ (x : Page). stamped x raw_kind (text_payload text) scn p) is ∙ ap (λ n. stamped (page_at image p) raw_kind (text_payload text) n p) now

-- a stamp goes by the old generation and length
pub stamped-over : (old other : Page) (kind : ℕ) (payload : List ℕ) (scn number : ℕ) → length other ≡ length old → generation_of other ≡ generation_of old
    → stamped other kind payload scn number ≡ stamped old kind payload scn number
unfolding stamped
stamped-over old other kind payload scn number long generation =
    ap (λ n. page_of n kind ((generation_of other + 1) % 2 ^ 32) scn number payload) long ∙ ap (λ g. page_of (length old) kind ((g + 1) % 2 ^ 32) scn number payload) generation

-- the page that a raised entry and then a stamp make
pub entered : (old raised new : Page) (index scn code place : ℕ) → raised ≡ with_part (entry_place index) (bytes_of 4 scn) old → new ≡ stamped raised code (drop 16 raised) scn place → code ≡ 10
    → index < entries_in (length old) → new ≡ stamped old scn_kind (drop 16 (with_part (32 + 4 * index) (bytes_of 4 scn) old)) scn place
entered old raised new index scn code place put stamp inventory inside =
    let with_entry : Page = with_part (32 + 4 * index) (bytes_of 4 scn) old in
    let four : length (bytes_of 4 scn) ≡ 4 = length-bytes_of 4 scn in
    let room : 32 + 4 * index + 4 ≤ length old = omega (arith, inside) in
    let long : length with_entry ≡ length old = length-with_part (32 + 4 * index) (bytes_of 4 scn) old (omega (arith, room, four)) in
    let generation : generation_of with_entry ≡ generation_of old = number_in-with_part_other (32 + 4 * index) 4 4 4 (bytes_of 4 scn) old four room (inr (omega arith)) in
    stamp ∙ ap (λ (k : ℕ). stamped raised k (drop 16 raised) scn place) inventory ∙ ap (λ (x : Page). stamped x scn_kind (drop 16 x) scn place) put
    ∙ stamped-over old with_entry 10 (drop 16 with_entry) scn place long generation

-- the page at which the entry of page p stands, and the entry's place there
pub scn_page-is : (image : Image) (size k p place : ℕ) → size ≡ image_size image → k ≡ p / entries_in size → place ≡ scn_place size k → place ≡ scn_page_of image p
scn_page-is image size k p place same cover at = at ∙ ap (λ n. scn_place size n) cover ∙ ap (λ n. scn_place n (p / entries_in n)) same

-- an entry of that page is that of page p
pub entry-is : (image : Image) (size p index : ℕ) (old : Page) → size ≡ image_size image → index ≡ p % entries_in size → size ≡ length old → index < entries_in size → old ≡ page_at image (scn_page_of image p)
    → slice_index (entries old) index ≡ scn_entry image p
unfolding scn_entry
entry-is image size p index old same number long inside is =
    get_or-entries old index (subst (λ n. index < entries_in n) long inside)
    ∙ ap (λ (x : Page). entry_of x index) is
    ∙ ap (λ n. entry_of (page_at image (scn_page_of image p)) n) (number ∙ ap (λ n. p % entries_in n) same)

-- so the raise is that of the stroke
pub raise_stroke-is : (image : Image) (size p k index place scn : ℕ) (old new : Page) → size ≡ image_size image → k ≡ p / entries_in size → index ≡ p % entries_in size → place ≡ scn_place size k
    → size ≡ length old → index < entries_in size → old ≡ page_at image (scn_page_of image p) → scn ≡ image_scn image → scn_entry image p < image_scn image
    → (slice_index (entries old) index < scn → new ≡ stamped old scn_kind (drop 16 (with_part (32 + 4 * index) (bytes_of 4 scn) old)) scn place) → page place new ≡ raise_stroke image p
raise_stroke-is image size p k index place scn old new same cover number at long inside is now below made =
    let q : ℕ = scn_page_of image p in
    let old_entry : slice_index (entries old) index ≡ scn_entry image p = entry-is image size p index old same number long inside is in
    let low : slice_index (entries old) index < scn = omega (arith, old_entry, below, now) in
    let there : place ≡ q = scn_page-is image size k p place same cover at in
    let entry : index ≡ p % entries_in (image_size image) = number ∙ ap (λ n. p % entries_in n) same in
    ap (λ (x : Page). page place x) (made low)
    ∙ ap (λ n. page n (stamped old scn_kind (drop 16 (with_part (32 + 4 * index) (bytes_of 4 scn) old)) scn n)) there
    ∙ ap (λ (x : Page). page q (stamped x scn_kind (drop 16 (with_part (32 + 4 * index) (bytes_of 4 scn) x)) scn q)) is
    ∙ ap (λ n. page q (stamped (page_at image q) scn_kind (drop 16 (with_part (32 + 4 * n) (bytes_of 4 scn) (page_at image q))) scn q)) entry
    ∙ ap (λ n. page q (stamped (page_at image q) scn_kind (drop 16 (with_part (32 + 4 * entry_number image p) (bytes_of 4 n) (page_at image q))) n q)) now
