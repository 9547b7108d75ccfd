-- What the writes after the head of a blank page leave.
use Rattle.std.proofs.Common.{◌≡◌, ℕ, zero, suc, ◌+◌, ◌-◌, ◌/◌, ◌%◌, ◌^◌, ◌<◌, ◌≤◌, List, [], ◌∷◌, ◌++◌, length, take, drop, replicate, refl, sym, ap, ◌∙◌, arith, append_assoc, length-append, length-drop, slice_set, Bool, true, false, if◌then◌else◌}
use Rattle.nb_page.proofs.Common.{length-take-le, length-replicate, length-set, take-append-drop, take-append-le, take_at, take_more_set, take-replicate, drop_all, append-nil, replicate-append-replicate, put_mid, bytes_of, with_part, padded, page_of, with_payload, stamped, taken_bits, same_entries, put_mid-with_part, padded-append, padded-append-zeros, with_part-padded, with_part-padded_next, stamped-zeros}
use mir.Val.{bool_byte}
use Rattle.nb_page.specs.Blank.{IsBlank}

-- a blank page is its head with zeros after
pub blank_page : (page : List ℕ) → 16 ≤ length page → IsBlank page → page ≡ padded (length page) (take 16 page)
unfolding padded
blank_page page long blank =
    let len = length-take-le 16 page long in
    sym (take-append-drop 16 page) ∙ ap (λ zs. take 16 page ++ zs) (blank ∙ ap (λ n. replicate n 0) (let e : length page - 16 ≡ length page - length (take 16 page) = omega arith in e))

-- bytes after the head of a page are its payload
pub payload_behind : (page bytes : List ℕ) → 16 ≤ length page → padded (length page) (take 16 page ++ bytes) ≡ with_payload page bytes
unfolding with_payload
payload_behind page bytes long =
    padded-append (length page) (take 16 page) bytes ∙ ap (λ n. take 16 page ++ padded (length page - n) bytes) (length-take-le 16 page long)

-- the control block, then one byte at 64, and then two numbers at 72 and 76
pub header_filled : (page block forced catalogue history : List ℕ) → length block ≡ 48 → length forced ≡ 1 → length catalogue ≡ 4 → length history ≡ 4 → 80 ≤ length page → IsBlank page
    → with_part 76 history (with_part 72 catalogue (with_part 64 forced (with_part 16 block page))) ≡ with_payload page (block ++ (forced ++ (replicate 7 0 ++ (catalogue ++ history))))
header_filled page block forced catalogue history len1 len2 len3 len4 long blank =
    let n : ℕ = length page in
    let head : List ℕ = take 16 page in
    let head_len : length head ≡ 16 = length-take-le 16 page (omega arith) in
    let a : List ℕ = head ++ block in
    let a_len : length a ≡ 64 = omega (arith, length-append head block) in
    let b : List ℕ = a ++ forced in
    let b_len : length b ≡ 65 = omega (arith, length-append a forced) in
    let c : List ℕ = b ++ (replicate 7 0 ++ catalogue) in
    let c_len : length c ≡ 76 = omega (arith, length-append b (replicate 7 0 ++ catalogue), length-append {A = ℕ} (replicate 7 0) catalogue) in
    let to_a : with_part 16 block page ≡ padded n a = ap (with_part 16 block) (blank_page page (omega arith) blank) ∙ with_part-padded_next n 16 block head head_len (omega arith) in
    let to_b : with_part 64 forced (padded n a) ≡ padded n b = with_part-padded_next n 64 forced a a_len (omega arith) in
    let to_c : with_part 72 catalogue (padded n b) ≡ padded n c = with_part-padded n 72 catalogue b (omega arith) (omega arith) ∙ ap (λ m. padded n (b ++ (replicate m 0 ++ catalogue))) (let e : 72 - length b ≡ 7 = omega arith in e) in
    let to_end : with_part 76 history (padded n c) ≡ padded n (c ++ history) = with_part-padded_next n 76 history c c_len (omega arith) in
    let grouped : c ++ history ≡ head ++ (block ++ (forced ++ (replicate 7 0 ++ (catalogue ++ history)))) =
    append_assoc b (replicate 7 0 ++ catalogue) history ∙ append_assoc a forced _ ∙ append_assoc head block _
    ∙ ap (λ zs. head ++ (block ++ (forced ++ zs))) (append_assoc (replicate 7 0) catalogue history) in
    ap (λ p. with_part 76 history (with_part 72 catalogue (with_part 64 forced p))) to_a
    ∙ ap (λ p. with_part 76 history (with_part 72 catalogue p)) to_b
    ∙ ap (with_part 76 history) to_c
    ∙ to_end ∙ ap (padded n) grouped ∙ payload_behind page _ (omega arith)

-- a number at 16, and then the rest of the page from 32 on
pub numbered_filled : (page number rest : List ℕ) (k : ℕ) → length number ≡ 4 → length rest ≡ length page - 32 → k ≡ length page - 32 → 32 ≤ length page → IsBlank page
    → put_mid 32 k (with_part 16 number page) rest ≡ with_payload page (number ++ (replicate 12 0 ++ rest))
numbered_filled page number rest k len1 len2 same long blank =
    let n : ℕ = length page in
    let head : List ℕ = take 16 page in
    let head_len : length head ≡ 16 = length-take-le 16 page (omega arith) in
    let a : List ℕ = head ++ number in
    let a_len : length a ≡ 20 = omega (arith, length-append head number) in
    put_mid-with_part 32 k rest (with_part 16 number page) (omega arith)
    ∙ ap (with_part 32 rest) (ap (with_part 16 number) (blank_page page (omega arith) blank) ∙ with_part-padded_next n 16 number head head_len (omega arith))
    ∙ with_part-padded n 32 rest a (omega arith) (omega arith)
    ∙ ap (λ m. padded n (a ++ (replicate m 0 ++ rest))) (let e : 32 - length a ≡ 12 = omega arith in e)
    ∙ ap (padded n) (append_assoc head number (replicate 12 0 ++ rest))
    ∙ payload_behind page _ (omega arith)

-- a number at 20
pub owner_filled : (page owner : List ℕ) → length owner ≡ 4 → 32 ≤ length page → IsBlank page
    → with_part 20 owner page ≡ with_payload page (replicate 4 0 ++ (owner ++ (replicate 8 0 ++ [])))
owner_filled page owner len long blank =
    let n : ℕ = length page in
    let head : List ℕ = take 16 page in
    let head_len : length head ≡ 16 = length-take-le 16 page (omega arith) in
    let a : List ℕ = head ++ (replicate 4 0 ++ owner) in
    let a_len : length a ≡ 24 = omega (arith, length-append head (replicate 4 0 ++ owner), length-append {A = ℕ} (replicate 4 0) owner) in
    ap (with_part 20 owner) (blank_page page (omega arith) blank)
    ∙ with_part-padded n 20 owner head (omega arith) (omega arith)
    ∙ ap (λ m. padded n (head ++ (replicate m 0 ++ owner))) (let e : 20 - length head ≡ 4 = omega arith in e)
    ∙ sym (padded-append-zeros n 8 a (omega arith))
    ∙ ap (padded n) (append_assoc head (replicate 4 0 ++ owner) (replicate 8 0) ∙ ap (λ zs. head ++ zs) (append_assoc (replicate 4 0) owner (replicate 8 0)))
    ∙ payload_behind page _ (omega arith)

-- one entry more at the end
pub same_entries-push : (scn n : ℕ) → same_entries scn n ++ bytes_of 4 scn ≡ same_entries scn (suc n)
unfolding same_entries
same_entries-push scn zero = sym (append-nil (bytes_of 4 scn))
same_entries-push scn (suc n) = append_assoc (bytes_of 4 scn) (same_entries scn n) (bytes_of 4 scn) ∙ ap (λ zs. bytes_of 4 scn ++ zs) (same_entries-push scn n)

pub same_entries-none : (scn : ℕ) → same_entries scn 0 ≡ []
unfolding same_entries
same_entries-none scn = refl

-- zeros, one byte of bits, and then free ones
pub bits_filled : (n taken b k : ℕ) → taken / 8 < n → b ≡ 256 - 2 ^ (taken % 8) → k ≡ n - (taken / 8 + 1)
    → put_mid (taken / 8 + 1) k (slice_set (replicate n 0) (taken / 8) b) (replicate k 255) ≡ taken_bits n taken
unfolding taken_bits
bits_filled n taken b k inside byte rest =
    let w : ℕ = taken / 8 in
    let zeros : List ℕ = replicate n 0 in
    let zeros_len : length zeros ≡ n = length-replicate n 0 in
    let written : List ℕ = slice_set zeros w b in
    let written_len : length written ≡ n = length-set zeros w b ∙ zeros_len in
    let front : List ℕ = replicate w 0 ++ (b ∷ []) in
    let free : List ℕ = replicate k 255 in
    let start : take (w + 1) written ≡ front = take_more_set zeros w b (omega arith) ∙ ap (λ zs. zs ++ (b ∷ [])) (take-replicate w n 0 (omega arith)) in
    let behind : drop k (drop (w + 1) written) ≡ [] = drop_all k (drop (w + 1) written) (omega (arith, length-drop (w + 1) written)) in
    let many : replicate n 255 ≡ free ++ replicate (w + 1) 255 = ap (λ m. replicate m 255) (let e : n ≡ k + (w + 1) = omega arith in e) ∙ sym (replicate-append-replicate k (w + 1) 255) in
    let grouped : replicate w 0 ++ (b ∷ replicate n 255) ≡ (front ++ free) ++ replicate (w + 1) 255 =
    ap (λ zs. replicate w 0 ++ (b ∷ zs)) many ∙ sym (append_assoc (replicate w 0) (b ∷ []) (free ++ replicate (w + 1) 255)) ∙ sym (append_assoc front free (replicate (w + 1) 255)) in
    let len : length (front ++ free) ≡ n = omega (arith, length-append front free, length-append (replicate w 0) (b ∷ []), length-replicate {A = ℕ} w 0, length-replicate {A = ℕ} k 255) in
    ap (λ zs. zs ++ (free ++ drop k (drop (w + 1) written))) start
    ∙ ap (λ zs. front ++ (free ++ zs)) behind
    ∙ ap (λ zs. front ++ zs) (append-nil free)
    ∙ sym (take_at (front ++ free) (replicate (w + 1) 255) n len)
    ∙ ap (take n) (sym grouped)
    ∙ ap (λ c. take n (replicate w 0 ++ (c ∷ replicate n 255))) byte

-- all bits taken
pub bits_all : (n taken : ℕ) → n ≤ taken / 8 → replicate n 0 ≡ taken_bits n taken
unfolding taken_bits
bits_all n taken past =
    let w : ℕ = taken / 8 in
    let len : length (replicate {A = ℕ} w 0) ≡ w = length-replicate {A = ℕ} w 0 in
    let within : n ≤ length (replicate {A = ℕ} w 0) = omega arith in
    sym (take-append-le n (replicate w 0) ((256 - 2 ^ (taken % 8)) ∷ replicate n 255) within ∙ take-replicate n w 0 past)

-- a test as a number
pub number-of_test : (b : Bool) → bool_byte b ≡ (if b then 1 else 0)
number-of_test true = refl
number-of_test false = refl

-- a page of zeros that was stamped, with the fields as they were read
pub page_begun : (size code kind number : ℕ) (zeros page : List ℕ) → 16 ≤ size → zeros ≡ replicate size 0 → code ≡ kind → page ≡ stamped zeros code (drop 16 zeros) 1 number
    → page ≡ page_of size kind 1 1 number []
page_begun size code kind number zeros page long are same written =
    written ∙ ap (λ xs. stamped xs code (drop 16 xs) 1 number) are ∙ ap (λ k. stamped (replicate size 0) k (drop 16 (replicate size 0)) 1 number) same ∙ stamped-zeros size kind 1 number long
