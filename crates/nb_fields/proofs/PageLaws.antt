-- Pages made of a head and a payload.
use Rattle.std.proofs.Common.{◌≡◌, ℕ, ◌+◌, ◌*◌, ◌-◌, ◌%◌, ◌^◌, ◌<◌, ◌≤◌, List, [], ◌∷◌, ◌++◌, length, take, drop, replicate, refl, sym, ap, ◌∙◌, arith, append_assoc, length-append, length-drop}
use Rattle.nb_fields.proofs.Common.{length-take-le, length-replicate, drop_all, drop_at, take_at, drop-drop, take-append-le, drop-append-le, append-nil, drop-replicate, take-replicate, replicate-append-replicate, put_mid, bytes_of, number_of, number_in, with_part, padded, part, head_of, page_of, with_payload, stamped, generation_of, text_payload, text_of}
use Rattle.nb_fields.proofs.NumberLaws.{number_of-bytes_of}

pub length-padded : (size : ℕ) (bytes : List ℕ) → length bytes ≤ size → length (padded size bytes) ≡ size
unfolding padded
length-padded size bytes h = omega (arith, length-append bytes (replicate (size - length bytes) 0), length-replicate {A = ℕ} (size - length bytes) 0)

-- a whole page needs no zeros
pub padded_whole : (size : ℕ) (bytes : List ℕ) → length bytes ≡ size → padded size bytes ≡ bytes
unfolding padded
padded_whole size bytes h = ap (λ n. bytes ++ replicate n 0) (let e : size - length bytes ≡ 0 = omega arith in e) ∙ append-nil bytes

-- zeros that are there already
pub padded-append-zeros : (size n : ℕ) (bytes : List ℕ) → length bytes + n ≤ size → padded size (bytes ++ replicate n 0) ≡ padded size bytes
unfolding padded
padded-append-zeros size n bytes h =
    let len : length (bytes ++ replicate n 0) ≡ length bytes + n = omega (arith, length-append bytes (replicate n 0), length-replicate {A = ℕ} n 0) in
    append_assoc bytes (replicate n 0) _ ∙ ap (λ zs. bytes ++ zs) (replicate-append-replicate n (size - length (bytes ++ replicate n 0)) 0 ∙ ap (λ m. replicate m 0) (let e : n + (size - length (bytes ++ replicate n 0)) ≡ size - length bytes = omega arith in e))

-- the zeros stand after what follows
pub padded-append : (size : ℕ) (front bytes : List ℕ) → padded size (front ++ bytes) ≡ front ++ padded (size - length front) bytes
unfolding padded
padded-append size front bytes =
    append_assoc front bytes _ ∙ ap (λ n. front ++ (bytes ++ replicate n 0)) (let e : size - length (front ++ bytes) ≡ size - length front - length bytes = omega (arith, length-append front bytes) in e)

pub take-padded : (n size : ℕ) (bytes : List ℕ) → length bytes ≤ n → n ≤ size → take n (padded size bytes) ≡ padded n bytes
unfolding padded
take-padded n size bytes h k =
    let zeros : replicate {A = ℕ} (size - length bytes) 0 ≡ replicate {A = ℕ} (n - length bytes) 0 ++ replicate {A = ℕ} (size - n) 0 = ap (λ m. replicate m 0) (let e : size - length bytes ≡ n - length bytes + (size - n) = omega arith in e) ∙ sym (replicate-append-replicate (n - length bytes) (size - n) 0) in
    let front : List ℕ = bytes ++ replicate (n - length bytes) 0 in
    let len : length front ≡ n = omega (arith, length-append bytes (replicate (n - length bytes) 0), length-replicate {A = ℕ} (n - length bytes) 0) in
    ap (λ zs. take n (bytes ++ zs)) zeros ∙ ap (take n) (sym (append_assoc bytes (replicate (n - length bytes) 0) (replicate (size - n) 0))) ∙ take_at front (replicate (size - n) 0) n len

-- bytes written after what stands, where zeros stand
pub with_part-padded : (size at : ℕ) (bytes front : List ℕ) → length front ≤ at → at + length bytes ≤ size
    → with_part at bytes (padded size front) ≡ padded size (front ++ (replicate (at - length front) 0 ++ bytes))
unfolding padded
with_part-padded size at bytes front h k =
    let gap : ℕ = at - length front in
    let w : ℕ = length bytes in
    let zeros : List ℕ = replicate (size - length front) 0 in
    let start : take at (front ++ zeros) ≡ padded at front = ap (λ n. take at (front ++ replicate n 0)) refl ∙ take-padded at size front h (omega arith) in
    let behind : drop (at + w) (front ++ zeros) ≡ replicate (size - (at + w)) 0 =
    ap (λ n. drop n (front ++ zeros)) (let e : at + w ≡ length front + (gap + w) = omega arith in e)
    ∙ sym (drop-drop (gap + w) (length front) (front ++ zeros))
    ∙ ap (drop (gap + w)) (drop_at front zeros (length front) refl)
    ∙ drop-replicate (gap + w) (size - length front) 0
    ∙ ap (λ n. replicate n 0) (let e : size - length front - (gap + w) ≡ size - (at + w) = omega arith in e) in
    let len : length (front ++ (replicate gap 0 ++ bytes)) ≡ at + w = omega (arith, length-append front (replicate gap 0 ++ bytes), length-append (replicate gap 0) bytes, length-replicate {A = ℕ} gap 0) in
    ap (λ xs. xs ++ (bytes ++ drop (at + w) (front ++ zeros))) start
    ∙ ap (λ xs. (front ++ replicate gap 0) ++ (bytes ++ xs)) behind
    ∙ append_assoc front (replicate gap 0) (bytes ++ replicate (size - (at + w)) 0)
    ∙ ap (λ xs. front ++ xs) (sym (append_assoc (replicate gap 0) bytes (replicate (size - (at + w)) 0)))
    ∙ sym (append_assoc front (replicate gap 0 ++ bytes) (replicate (size - (at + w)) 0))
    ∙ ap (λ n. (front ++ (replicate gap 0 ++ bytes)) ++ replicate n 0) (let e : size - (at + w) ≡ size - length (front ++ (replicate gap 0 ++ bytes)) = omega arith in e)

-- bytes written one after another are written at once
pub with_part-append : (at : ℕ) (xs ys page : List ℕ) → at + length xs ≤ length page → with_part (at + length xs) ys (with_part at xs page) ≡ with_part at (xs ++ ys) page
with_part-append at xs ys page h =
    let front : length (take at page) ≡ at = length-take-le at page (omega arith) in
    let rest : List ℕ = drop (at + length xs) page in
    let start : take (at + length xs) (with_part at xs page) ≡ take at page ++ xs =
    ap (take (at + length xs)) (sym (append_assoc (take at page) xs rest)) ∙ take_at (take at page ++ xs) rest (at + length xs) (omega (arith, length-append (take at page) xs)) in
    let behind : drop (at + length xs + length ys) (with_part at xs page) ≡ drop (at + length (xs ++ ys)) page =
    sym (drop-drop (length ys) (at + length xs) (with_part at xs page))
    ∙ ap (drop (length ys)) (ap (drop (at + length xs)) (sym (append_assoc (take at page) xs rest)) ∙ drop_at (take at page ++ xs) rest (at + length xs) (omega (arith, length-append (take at page) xs)))
    ∙ drop-drop (length ys) (at + length xs) page
    ∙ ap (λ n. drop n page) (let e : at + length xs + length ys ≡ at + length (xs ++ ys) = omega (arith, length-append xs ys) in e) in
    ap (λ zs. zs ++ (ys ++ drop (at + length xs + length ys) (with_part at xs page))) start
    ∙ ap (λ zs. (take at page ++ xs) ++ (ys ++ zs)) behind
    ∙ append_assoc (take at page) xs (ys ++ drop (at + length (xs ++ ys)) page)
    ∙ ap (λ zs. take at page ++ zs) (sym (append_assoc xs ys (drop (at + length (xs ++ ys)) page)))

-- the same for three pages, one after another
pub written_next : (at next : ℕ) (xs ys first second third : List ℕ) → second ≡ with_part at xs first → third ≡ with_part next ys second → next ≡ at + length xs → at + length xs ≤ length first
    → third ≡ with_part at (xs ++ ys) first
written_next at next xs ys first second third one two place h =
    two ∙ ap (λ page. with_part next ys page) one ∙ ap (λ n. with_part n ys (with_part at xs first)) place ∙ with_part-append at xs ys first h

pub length-head_of : (kind generation scn number : ℕ) → length (head_of kind generation scn number) ≡ 16
unfolding head_of bytes_of
length-head_of kind generation scn number = refl

pub length-page_of : (size kind generation scn number : ℕ) (payload : List ℕ) → 16 + length payload ≤ size → length (page_of size kind generation scn number payload) ≡ size
unfolding page_of
length-page_of size kind generation scn number payload h =
    omega (arith, length-append (head_of kind generation scn number) (padded (size - 16) payload), length-head_of kind generation scn number, length-padded (size - 16) payload (omega arith))

-- another payload after the same head
pub with_payload-page_of : (size kind generation scn number : ℕ) (old payload : List ℕ) → 16 + length old ≤ size
    → with_payload (page_of size kind generation scn number old) payload ≡ page_of size kind generation scn number payload
unfolding with_payload page_of
with_payload-page_of size kind generation scn number old payload h =
    let head : List ℕ = head_of kind generation scn number in
    ap (λ xs. xs ++ padded (length (head ++ padded (size - 16) old) - 16) payload) (take_at head (padded (size - 16) old) 16 (length-head_of kind generation scn number))
    ∙ ap (λ n. head ++ padded (n - 16) payload) (let e : length (head ++ padded (size - 16) old) ≡ size = length-page_of size kind generation scn number old h in e)

-- the fields of a page's head
module _ (size kind generation scn number : ℕ) (payload : List ℕ) where
  number_in-page_of : (at w : ℕ) → at + w ≤ 16 → number_in at w (page_of size kind generation scn number payload) ≡ number_in at w (head_of kind generation scn number)
  unfolding page_of number_in
  number_in-page_of at w h =
      let head : List ℕ = head_of kind generation scn number in
      let len = length-head_of kind generation scn number in
      ap (λ xs. number_of (take w xs)) (drop-append-le at head (padded (size - 16) payload) (omega arith))
      ∙ ap number_of (take-append-le w (drop at head) (padded (size - 16) payload) (omega (arith, length-drop at head)))

  pub kind_of-page_of : number_in 0 1 (page_of size kind generation scn number payload) ≡ kind
  unfolding number_in head_of number_of
  kind_of-page_of = number_in-page_of 0 1 (omega arith) ∙ (let e : kind + 256 * 0 ≡ kind = omega arith in e)

  pub generation_of-page_of : generation < 2 ^ 32 → number_in 4 4 (page_of size kind generation scn number payload) ≡ generation
  unfolding number_in head_of bytes_of
  generation_of-page_of h = number_in-page_of 4 4 (omega arith) ∙ number_of-bytes_of 4 generation h

  pub stamp_of-page_of : scn < 2 ^ 32 → number_in 8 4 (page_of size kind generation scn number payload) ≡ scn
  unfolding number_in head_of bytes_of
  stamp_of-page_of h = number_in-page_of 8 4 (omega arith) ∙ number_of-bytes_of 4 scn h

  pub number_of_page-page_of : number < 2 ^ 32 → number_in 12 4 (page_of size kind generation scn number payload) ≡ number
  unfolding number_in head_of bytes_of
  number_of_page-page_of h = number_in-page_of 12 4 (omega arith) ∙ number_of-bytes_of 4 number h

-- bytes written somewhere, and zeros from there to the page's end
pub filled : (at end k : ℕ) (bytes page zeros : List ℕ) → at ≤ length page → end ≡ at + length bytes → end ≤ length page → k ≡ length page - end → zeros ≡ replicate k 0
    → put_mid end k (with_part at bytes page) zeros ≡ take at page ++ padded (length page - at) bytes
unfolding padded
filled at end k bytes page zeros before place room rest are =
    let front : length (take at page) ≡ at = length-take-le at page before in
    let tail : List ℕ = drop (at + length bytes) page in
    let whole : with_part at bytes page ≡ (take at page ++ bytes) ++ tail = sym (append_assoc (take at page) bytes tail) in
    let len : length (take at page ++ bytes) ≡ end = omega (arith, length-append (take at page) bytes) in
    let start : take end (with_part at bytes page) ≡ take at page ++ bytes = ap (take end) whole ∙ take_at (take at page ++ bytes) tail end len in
    let behind : drop k (drop end (with_part at bytes page)) ≡ [] =
    ap (λ xs. drop k xs) (ap (drop end) whole ∙ drop_at (take at page ++ bytes) tail end len) ∙ drop_all k tail (omega (arith, length-drop (at + length bytes) page)) in
    let zeros_are : zeros ≡ replicate (length page - at - length bytes) 0 = are ∙ ap (λ n. replicate n 0) (let e : k ≡ length page - at - length bytes = omega arith in e) in
    ap (λ xs. xs ++ (zeros ++ drop k (drop end (with_part at bytes page)))) start
    ∙ ap (λ xs. (take at page ++ bytes) ++ (zeros ++ xs)) behind
    ∙ ap (λ xs. (take at page ++ bytes) ++ xs) (append-nil zeros ∙ zeros_are)
    ∙ append_assoc (take at page) bytes (replicate (length page - at - length bytes) 0)

-- the text of a page is the text that was put into it
pub text_of-payload : (size : ℕ) (head text : List ℕ) → length head ≡ 16 → length text ≤ 200 → text_of (head ++ padded size (text_payload text)) ≡ text
unfolding text_payload number_in padded bytes_of
text_of-payload size head text len short =
    let n : ℕ = length text in
    let zeros : List ℕ = replicate (size - length (bytes_of 2 n ++ text)) 0 in
    let payload : List ℕ = (bytes_of 2 n ++ text) ++ zeros in
    let behind : drop 16 (head ++ payload) ≡ payload = drop_at head payload 16 len in
    let read : number_in 16 2 (head ++ payload) ≡ n = ap (λ xs. number_of (take 2 xs)) behind ∙ number_of-bytes_of 2 n (omega arith) in
    let text_there : drop 18 (head ++ payload) ≡ text ++ zeros = sym (drop-drop 2 16 (head ++ payload)) ∙ ap (drop 2) behind in
    ap (λ m. take m (drop 18 (head ++ payload))) read ∙ ap (take n) text_there ∙ take_at text zeros n refl

-- the text of a page that gets it as payload, under a head of its own
pub text_of-with_payload : (page text : List ℕ) → 16 ≤ length page → length text ≤ 200 → text_of (with_payload page (text_payload text)) ≡ text
unfolding with_payload
text_of-with_payload page text long short = text_of-payload (length page - 16) (take 16 page) text (length-take-le 16 page long) short

-- what is left of a page after its head, stamped
pub stamped-rest : (old : List ℕ) (kind scn number : ℕ) → 16 ≤ length old
    → stamped old kind (drop 16 old) scn number ≡ head_of kind ((generation_of old + 1) % 2 ^ 32) scn number ++ drop 16 old
unfolding stamped page_of
stamped-rest old kind scn number long =
    ap (λ xs. head_of kind ((generation_of old + 1) % 2 ^ 32) scn number ++ xs) (padded_whole (length old - 16) (drop 16 old) (length-drop 16 old))

-- the fields of a head, written one after another
pub head_written : (p0 p1 p2 p3 p4 p5 p6 : List ℕ) (kind generation scn number : ℕ) → kind < 256 → 16 ≤ length p0
    → p1 ≡ with_part 0 (bytes_of 1 kind) p0 → p2 ≡ with_part 1 (bytes_of 1 0) p1 → p3 ≡ with_part 2 (bytes_of 2 0) p2
    → p4 ≡ with_part 4 (bytes_of 4 generation) p3 → p5 ≡ with_part 8 (bytes_of 4 scn) p4 → p6 ≡ with_part 12 (bytes_of 4 number) p5
    → p6 ≡ head_of kind generation scn number ++ drop 16 p0
unfolding bytes_of head_of
head_written p0 p1 p2 p3 p4 p5 p6 kind generation scn number small room one two three four five six =
    let same : kind % 256 ≡ kind = omega arith in
    let first : p1 ≡ with_part 0 (kind ∷ []) p0 = one ∙ ap (λ k. with_part 0 (k ∷ []) p0) same in
    let a : List ℕ = kind ∷ 0 ∷ [] in
    let b : List ℕ = kind ∷ 0 ∷ 0 ∷ 0 ∷ [] in
    let c : List ℕ = b ++ bytes_of 4 generation in
    let d : List ℕ = c ++ bytes_of 4 scn in
    let to_a : p2 ≡ with_part 0 a p0 = written_next 0 1 (kind ∷ []) (bytes_of 1 0) p0 p1 p2 first two refl (omega arith) in
    let to_b : p3 ≡ with_part 0 b p0 = written_next 0 2 a (bytes_of 2 0) p0 p2 p3 to_a three refl (omega arith) in
    let to_c : p4 ≡ with_part 0 c p0 = written_next 0 4 b (bytes_of 4 generation) p0 p3 p4 to_b four refl (omega arith) in
    let to_d : p5 ≡ with_part 0 d p0 = written_next 0 8 c (bytes_of 4 scn) p0 p4 p5 to_c five refl (omega arith) in
    written_next 0 12 d (bytes_of 4 number) p0 p5 p6 to_d six refl (omega arith)

-- the same where the bytes stand right after
pub with_part-padded_next : (size at : ℕ) (bytes front : List ℕ) → length front ≡ at → at + length bytes ≤ size → with_part at bytes (padded size front) ≡ padded size (front ++ bytes)
with_part-padded_next size at bytes front place room =
    with_part-padded size at bytes front (omega arith) room ∙ ap (λ n. padded size (front ++ (replicate n 0 ++ bytes))) (let e : at - length front ≡ 0 = omega arith in e)

-- a page of zeros that is stamped is written once
pub stamped-zeros : (size kind scn number : ℕ) → 16 ≤ size
    → stamped (replicate size 0) kind (drop 16 (replicate size 0)) scn number ≡ page_of size kind 1 scn number []
unfolding stamped page_of padded number_in number_of
stamped-zeros size kind scn number long =
    let zeros : List ℕ = replicate size 0 in
    let len : length zeros ≡ size = length-replicate size 0 in
    let never : generation_of zeros ≡ 0 = ap (λ xs. number_of (take 4 xs)) (drop-replicate 4 size 0) ∙ ap number_of (take-replicate 4 (size - 4) 0 (omega arith)) in
    let once : (generation_of zeros + 1) % 2 ^ 32 ≡ 1 = ap (λ n. (n + 1) % 2 ^ 32) never in
    let rest : drop 16 zeros ≡ replicate (size - 16) 0 = drop-replicate 16 size 0 in
    let whole : padded (length zeros - 16) (drop 16 zeros) ≡ replicate (size - 16 - 0) 0 =
    padded_whole (length zeros - 16) (drop 16 zeros) (length-drop 16 zeros) ∙ rest ∙ ap (λ n. replicate n 0) (let e : size - 16 ≡ size - 16 - 0 = omega arith in e) in
    ap (λ xs. head_of kind ((generation_of zeros + 1) % 2 ^ 32) scn number ++ xs) whole ∙ ap (λ g. head_of kind g scn number ++ replicate (size - 16 - 0) 0) once

-- what stands after the head of a page without a payload
pub drop-page_of-none : (size kind generation scn number : ℕ) → drop 16 (page_of size kind generation scn number []) ≡ replicate (size - 16) 0
unfolding page_of padded
drop-page_of-none size kind generation scn number =
    drop_at (head_of kind generation scn number) (replicate (size - 16 - 0) 0) 16 (length-head_of kind generation scn number) ∙ ap (λ n. replicate n 0) (let e : size - 16 - 0 ≡ size - 16 = omega arith in e)

-- parts after a front of the page
pub part-append : (n at w : ℕ) (front rest : List ℕ) → length front ≡ n → part (n + at) w (front ++ rest) ≡ part at w rest
part-append n at w front rest len = ap (take w) (sym (drop-drop at n (front ++ rest)) ∙ ap (drop at) (drop_at front rest n len))

-- what stands after the head of a page, whole again
pub drop-page_of : (size kind generation scn number : ℕ) (payload : List ℕ) → drop 16 (page_of size kind generation scn number payload) ≡ padded (size - 16) payload
unfolding page_of
drop-page_of size kind generation scn number payload = drop_at (head_of kind generation scn number) (padded (size - 16) payload) 16 (length-head_of kind generation scn number)
