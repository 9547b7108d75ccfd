-- The form of a header, by the fields that were read.
use Rattle.std.proofs.Common.{◌≡◌, ℕ, ◌+◌, ◌≤◌, List, ◌++◌, length, refl, ap, sym, true, arith, ◌<◌, ◌^◌, take, drop, append_assoc, ⊎_elim, length-drop, length-append, ◌∙◌, ◌&&◌, ◌||◌, ◌==◌, not, nat_le, nat_lt}
use Rattle.nb_page.proofs.Common.{cases_eq, and_from, or_left, or_right, ne_eqb, lt-ltb, le-leb, not_from_false, length-take-le, take_at, drop_at, drop-drop, bytes_of, number_of, number_in, part, with_part, is_zeros, number_of-bytes_of, is_page_size, part-with_part_before, signature, is_header, is_marked, is_sound, state_of, pending_of, is_unfinished, control_block, written_next, part-append, is_header-long, stalled_state, applying_state, Header, header_in, HasForm}

pub is_header-fields : (first : List ℕ) (header : Header) → 64 ≤ length first → header ≡ header_in first
    → is_header first ≡ (is_marked first && is_sound header.state header.page_size header.scn)
unfolding header_in
is_header-fields first header enough read =
    is_header-long first enough ∙ ap (λ (h : Header). is_marked first && is_sound h.state h.page_size h.scn) (sym read)

-- the fields of the control block, written one after another, are the control block
pub control_block_written : (p0 p1 p2 p3 p4 p5 p6 p7 : List ℕ) (size state scn : ℕ) (guid pending : List ℕ) → length guid ≡ 16 → 64 ≤ length p0
    → p1 ≡ with_part 16 (bytes_of 4 signature) p0 → p2 ≡ with_part 20 (bytes_of 2 1) p1 → p3 ≡ with_part 22 (bytes_of 2 state) p2 → p4 ≡ with_part 24 (bytes_of 4 size) p3
    → p5 ≡ with_part 28 (bytes_of 4 scn) p4 → p6 ≡ with_part 32 guid p5 → p7 ≡ with_part 48 pending p6
    → p7 ≡ with_part 16 (control_block size state scn guid pending) p0
unfolding control_block bytes_of
control_block_written p0 p1 p2 p3 p4 p5 p6 p7 size state scn guid pending len room one two three four five six seven =
    let a : List ℕ = bytes_of 4 signature in
    let b : List ℕ = a ++ bytes_of 2 1 in
    let c : List ℕ = b ++ bytes_of 2 state in
    let d : List ℕ = c ++ bytes_of 4 size in
    let e : List ℕ = d ++ bytes_of 4 scn in
    let to_b : p2 ≡ with_part 16 b p0 = written_next 16 20 a (bytes_of 2 1) p0 p1 p2 one two refl (omega arith) in
    let to_c : p3 ≡ with_part 16 c p0 = written_next 16 22 b (bytes_of 2 state) p0 p2 p3 to_b three refl (omega arith) in
    let to_d : p4 ≡ with_part 16 d p0 = written_next 16 24 c (bytes_of 4 size) p0 p3 p4 to_c four refl (omega arith) in
    let to_e : p5 ≡ with_part 16 e p0 = written_next 16 28 d (bytes_of 4 scn) p0 p4 p5 to_d five refl (omega arith) in
    let to_guid : p6 ≡ with_part 16 (e ++ guid) p0 = written_next 16 32 e guid p0 p5 p6 to_e six refl (omega arith) in
    written_next 16 48 (e ++ guid) pending p0 p6 p7 to_guid seven (omega arith) (omega arith)

-- a restore was stopped, by the fields that were read
pub is_unfinished-fields : (first : List ℕ) (header : Header) → is_header first ≡ true → header ≡ header_in first
    → is_unfinished first ≡ ((header.state == applying_state) && is_zeros header.pending)
unfolding header_in
is_unfinished-fields first header form read =
    ap (λ b. b && (state_of first == applying_state) && is_zeros (pending_of first)) form ∙ ap (λ (h : Header). (h.state == applying_state) && is_zeros h.pending) (sym read)

pub length-control_block : (size state scn : ℕ) (guid pending : List ℕ) → length guid ≡ 16 → length pending ≡ 16 → length (control_block size state scn guid pending) ≡ 48
unfolding control_block bytes_of
length-control_block size state scn guid pending len1 len2 = omega (arith, length-append guid pending)

-- the control block that was written is read back
pub header_in-control_block : (page : List ℕ) (header : Header) → 64 ≤ length page → length header.guid ≡ 16 → length header.pending ≡ 16
    → header.page_size < 2 ^ 32 → header.state < 2 ^ 16 → header.scn < 2 ^ 32
    → header_in (with_part 16 (control_block header.page_size header.state header.scn header.guid header.pending) page) ≡ header
unfolding header_in control_block bytes_of number_in
header_in-control_block page header long guid_len pending_len size_fits state_fits scn_fits =
    let front : List ℕ = take 16 page in
    let len : length front ≡ 16 = length-take-le 16 page (omega arith) in
    let block : List ℕ = control_block header.page_size header.state header.scn header.guid header.pending in
    let rest : List ℕ = block ++ drop (16 + length block) page in
    let guids : (header.guid ++ header.pending) ++ drop (16 + length block) page ≡ header.guid ++ (header.pending ++ drop (16 + length block) page) = append_assoc header.guid header.pending _ in
    let size : number_in 24 4 (front ++ rest) ≡ header.page_size = ap number_of (part-append 16 8 4 front rest len) ∙ number_of-bytes_of 4 header.page_size size_fits in
    let state : number_in 22 2 (front ++ rest) ≡ header.state = ap number_of (part-append 16 6 2 front rest len) ∙ number_of-bytes_of 2 header.state state_fits in
    let scn : number_in 28 4 (front ++ rest) ≡ header.scn = ap number_of (part-append 16 12 4 front rest len) ∙ number_of-bytes_of 4 header.scn scn_fits in
    let guid : part 32 16 (front ++ rest) ≡ header.guid = part-append 16 16 16 front rest len ∙ ap (take 16) guids ∙ take_at header.guid _ 16 guid_len in
    let pending : part 48 16 (front ++ rest) ≡ header.pending =
    part-append 16 32 16 front rest len ∙ ap (take 16) (sym (drop-drop 16 16 rest) ∙ ap (drop 16) guids ∙ drop_at header.guid _ 16 guid_len) ∙ take_at header.pending _ 16 pending_len in
    rw (size, state, scn, guid, pending) refl

-- what the form asks of the fields, as the test of it
pub is_sound-form : (header : Header) → HasForm header → is_sound header.state header.page_size header.scn ≡ true
is_sound-form header form =
    let room : (not (header.state == stalled_state) || nat_lt header.scn 4294967295) ≡ true = ⊎_elim
    (λ stalled. or_right (not (header.state == stalled_state)) (nat_lt header.scn 4294967295) (lt-ltb header.scn 4294967295 (form.room stalled)))
    (λ other. or_left (not (header.state == stalled_state)) (nat_lt header.scn 4294967295) (not_from_false (header.state == stalled_state) (ne_eqb header.state 1 other)))
    (cases_eq header.state 1) in
    and_from (nat_le header.state 3 && is_page_size header.page_size && nat_le 1 header.scn) _
    (and_from (nat_le header.state 3 && is_page_size header.page_size) (nat_le 1 header.scn)
    (and_from (nat_le header.state 3) (is_page_size header.page_size) (le-leb header.state 3 form.state) form.size)
    (le-leb 1 header.scn form.scn))
    room

-- page 0 with such a control block is a header
pub is_header-control_block : (page : List ℕ) (header : Header) → 64 ≤ length page
    → header_in (with_part 16 (control_block header.page_size header.state header.scn header.guid header.pending) page) ≡ header
    → number_in 0 1 page ≡ 1 → number_in 12 4 page ≡ 0 → HasForm header
    → is_header (with_part 16 (control_block header.page_size header.state header.scn header.guid header.pending) page) ≡ true
unfolding is_marked control_block bytes_of number_in
is_header-control_block page header long read kind number form =
    let block : List ℕ = control_block header.page_size header.state header.scn header.guid header.pending in
    let front : List ℕ = take 16 page in
    let len : length front ≡ 16 = length-take-le 16 page (omega arith) in
    let rest : List ℕ = block ++ drop (16 + length block) page in
    let enough : 64 ≤ length (front ++ rest) = omega (arith, length-append front rest, length-append block (drop (16 + length block) page), length-drop (16 + length block) page) in
    let same_kind : number_in 0 1 (front ++ rest) ≡ 1 = ap number_of (part-with_part_before 16 0 1 block page (omega arith) (omega arith)) ∙ kind in
    let same_number : number_in 12 4 (front ++ rest) ≡ 0 = ap number_of (part-with_part_before 16 12 4 block page (omega arith) (omega arith)) ∙ number in
    let sign : number_in 16 4 (front ++ rest) ≡ signature = ap number_of (part-append 16 0 4 front rest len) ∙ number_of-bytes_of 4 signature (omega arith) in
    let version : number_in 20 2 (front ++ rest) ≡ 1 = ap number_of (part-append 16 4 2 front rest len) ∙ number_of-bytes_of 2 1 (omega arith) in
    let marked : is_marked (front ++ rest) ≡ true = rw (same_kind, same_number, sign, version) refl in
    is_header-fields (front ++ rest) header enough (sym read) ∙ and_from (is_marked (front ++ rest)) (is_sound header.state header.page_size header.scn) marked (is_sound-form header form)
