-- What a new page has after its head, by its number.
use Rattle.std.proofs.Common.{◌≡◌, ℕ, zero, suc, ◌+◌, ◌-◌, ◌≤◌, List, ◌∷◌, ◌++◌, length, take, drop, replicate, refl, sym, ap, ◌∙◌, arith, append_assoc, length-append, length-drop, Bool, true, false, ◌==◌, Option, Some, None, is_some, not}
use Rattle.nb_alloc.proofs.Common.{unwrap_or, replicate-append-replicate, take-append-drop, take_at, drop_at, drop-drop, length-take-le, bytes_of, with_part, padded, with_payload, data_payload, is_system_place, most_pages, length-bytes_of, length-with_part, Image, image_size, Draft, drafted, put, take_page, system_page, first_not, needed_at, no_page, lowest_free, new_within, owner_by, new_data, content, new_of}

-- it is as long as the bytes that are given
pub content_short : (own : Bool) (bytes : List ℕ) (p : ℕ) → (own ≡ true → 8 ≤ length bytes) → length (content own bytes p) ≡ length bytes
content_short false bytes p room = refl
content_short true bytes p room = length-with_part 4 (bytes_of 4 p) bytes (omega (arith, length-bytes_of 4 p, room refl))

-- a part that is written over another of its length
with_inner : (at : ℕ) (front mid rest bytes : List ℕ) → length front ≡ at → length bytes ≡ length mid → with_part at bytes (front ++ (mid ++ rest)) ≡ front ++ (bytes ++ rest)
with_inner at front mid rest bytes here same =
    let behind : drop (at + length bytes) (front ++ (mid ++ rest)) ≡ rest =
    ap (drop (at + length bytes)) (sym (append_assoc front mid rest)) ∙ drop_at (front ++ mid) rest (at + length bytes) (omega (arith, length-append front mid)) in
    ap (λ (xs : List ℕ). xs ++ (bytes ++ drop (at + length bytes) (front ++ (mid ++ rest)))) (take_at front (mid ++ rest) at here) ∙ ap (λ (xs : List ℕ). front ++ (bytes ++ xs)) behind

regroup : (h f m r z : List ℕ) → h ++ ((f ++ (m ++ r)) ++ z) ≡ (h ++ f) ++ (m ++ (r ++ z))
regroup h f m r z = ap (λ (xs : List ℕ). h ++ xs) (append_assoc f (m ++ r) z) ∙ ap (λ (xs : List ℕ). h ++ (f ++ xs)) (append_assoc m r z) ∙ sym (append_assoc h f (m ++ (r ++ z)))

-- the number of a page that owns itself is written into its payload, or into the page
pub content_put : (page bytes : List ℕ) (p : ℕ) → 16 ≤ length page → 8 ≤ length bytes → with_part 20 (bytes_of 4 p) (with_payload page bytes) ≡ with_payload page (content true bytes p)
unfolding with_payload padded
content_put page bytes p head room =
    let n : ℕ = length page - 16 in
    let h : List ℕ = take 16 page in
    let f : List ℕ = take 4 bytes in
    let m : List ℕ = take 4 (drop 4 bytes) in
    let r : List ℕ = drop 8 bytes in
    let v : List ℕ = bytes_of 4 p in
    let z : List ℕ = replicate (n - length bytes) 0 in
    let four : length v ≡ 4 = length-bytes_of 4 p in
    let h_long : length h ≡ 16 = length-take-le 16 page head in
    let f_long : length f ≡ 4 = length-take-le 4 bytes (omega (arith, room)) in
    let m_long : length m ≡ 4 = length-take-le 4 (drop 4 bytes) (omega (arith, room, length-drop 4 bytes)) in
    let whole : bytes ≡ f ++ (m ++ r) =
    sym (take-append-drop 4 bytes) ∙ ap (λ (xs : List ℕ). f ++ xs) (sym (take-append-drop 4 (drop 4 bytes)) ∙ ap (λ (xs : List ℕ). m ++ xs) (drop-drop 4 4 bytes)) in
    let part : content true bytes p ≡ f ++ (v ++ r) = ap (λ (k : ℕ). f ++ (v ++ drop (4 + k) bytes)) four in
    let long : length (content true bytes p) ≡ length bytes = content_short true bytes p (λ e. room) in
    ap (λ (xs : List ℕ). with_part 20 v (h ++ (xs ++ z))) whole
    ∙ ap (with_part 20 v) (regroup h f m r z)
    ∙ with_inner 20 (h ++ f) m (r ++ z) v (omega (arith, length-append h f, h_long, f_long)) (omega (arith, four, m_long))
    ∙ sym (regroup h f v r z)
    ∙ ap (λ (xs : List ℕ). h ++ (xs ++ z)) (sym part)
    ∙ ap (λ (k : ℕ). h ++ (content true bytes p ++ replicate (n - k) 0)) (sym long)

-- the payload of a data page with another owner
pub content_own : (owner p : ℕ) (slots : List ℕ) → content true (data_payload 0 owner slots) p ≡ data_payload 0 p slots
unfolding data_payload
content_own owner p slots =
    with_inner 4 (bytes_of 4 0) (bytes_of 4 owner) (replicate 8 0 ++ slots) (bytes_of 4 p) (length-bytes_of 4 0) (omega (arith, length-bytes_of 4 p, length-bytes_of 4 owner))

-- what a page of zeros becomes by its owner and its slots
pub payload_filled : (owner n : ℕ) (slots page : List ℕ) → n ≡ 16 + length slots → page ≡ with_part 4 (bytes_of 4 owner) (replicate n 0) → take 16 page ++ slots ≡ data_payload 0 owner slots
unfolding data_payload bytes_of
payload_filled owner n slots page long is =
    let v : List ℕ = bytes_of 4 owner in
    let rest : List ℕ = replicate (n - 16) 0 in
    let front : List ℕ = replicate 4 0 ++ (v ++ replicate 8 0) in
    let four : length v ≡ 4 = length-bytes_of 4 owner in
    let last : replicate 8 0 ++ rest ≡ replicate (n - 8) 0 = replicate-append-replicate 8 (n - 16) 0 ∙ ap (λ (k : ℕ). replicate k 0) (let e : 8 + (n - 16) ≡ n - 8 = omega (arith, long) in e) in
    let mid : replicate 4 0 ++ (replicate 8 0 ++ rest) ≡ replicate (n - 4) 0 =
    ap (λ (xs : List ℕ). replicate 4 0 ++ xs) last ∙ replicate-append-replicate 4 (n - 8) 0 ∙ ap (λ (k : ℕ). replicate k 0) (let e : 4 + (n - 8) ≡ n - 4 = omega (arith, long) in e) in
    let zeros : replicate n 0 ≡ replicate 4 0 ++ (replicate 4 0 ++ (replicate 8 0 ++ rest)) =
    sym (ap (λ (xs : List ℕ). replicate 4 0 ++ xs) mid ∙ replicate-append-replicate 4 (n - 4) 0 ∙ ap (λ (k : ℕ). replicate k 0) (let e : 4 + (n - 4) ≡ n = omega (arith, long) in e)) in
    let whole : page ≡ front ++ rest =
    is ∙ ap (with_part 4 v) zeros ∙ with_inner 4 (replicate 4 0) (replicate 4 0) (replicate 8 0 ++ rest) v refl (omega (arith, four))
    ∙ ap (λ (xs : List ℕ). replicate 4 0 ++ xs) (sym (append_assoc v (replicate 8 0) rest)) ∙ sym (append_assoc (replicate 4 0) (v ++ replicate 8 0) rest) in
    let sixteen : length front ≡ 16 = omega (arith, length-append (replicate 4 0) (v ++ replicate 8 0), length-append v (replicate 8 0), four) in
    ap (λ (xs : List ℕ). take 16 xs ++ slots) whole ∙ ap (λ (xs : List ℕ). xs ++ slots) (take_at front rest 16 sixteen) ∙ append_assoc (replicate 4 0) (v ++ replicate 8 0) slots
    ∙ ap (λ (xs : List ℕ). replicate 4 0 ++ xs) (append_assoc v (replicate 8 0) slots)

-- one try of a new page, with what is made where the search goes on
abbrev tried : (tries kind : ℕ) (payload : ℕ → List ℕ) (d : Draft) → (full system : Bool) → Draft × ℕ
tried tries kind payload d full system =
    let p : ℕ = lowest_free d.image in
    elim full as (λ z. Draft × ℕ) [
      | true ↦ (no_page d, p)
      | false ↦ elim system as (λ z. Draft × ℕ) [
        | true ↦ new_within tries kind payload (take_page p (system_page p d))
        | false ↦ (take_page p (put p kind (payload p) d), p)
      ]
    ]

abbrev needed : (tries kind : ℕ) (payload : ℕ → List ℕ) (d : Draft) → Option ℕ → (full system : Bool) → Draft × ℕ
needed tries kind payload d first full system = elim first as (λ z. Draft × ℕ) [ Some q ↦ (record d { broken = q ∷ d.broken }, 0) | None ↦ tried tries kind payload d full system ]

-- pages with the same payloads are made alike
pub new_same : (tries kind : ℕ) (f g : ℕ → List ℕ) (d : Draft) → ((p : ℕ) → f p ≡ g p) → new_within tries kind f d ≡ new_within tries kind g d
unfolding new_within
new_same zero kind f g d same = refl
new_same (suc tries) kind f g d same =
    by (λ e. new_same tries kind f g e same) (first_not d.image (needed_at d.image (lowest_free d.image))) (lowest_free d.image == most_pages) (is_system_place (image_size d.image) (lowest_free d.image))
  where
    by : ((e : Draft) → new_within tries kind f e ≡ new_within tries kind g e) → (first : Option ℕ) (full system : Bool) → needed tries kind f d first full system ≡ needed tries kind g d first full system
    by again (Some q) full system = refl
    by again None true system = refl
    by again None false true = let p : ℕ = lowest_free d.image in again (take_page p (system_page p d))
    by again None false false = let p : ℕ = lowest_free d.image in ap (λ (xs : List ℕ). (take_page p (put p kind xs d), p)) (same p)

-- The bytes of a new data page by the owner that is named.
pub content_named : (owner : Option ℕ) (own : Bool) (bytes slots : List ℕ) → is_some owner ≡ not own → bytes ≡ data_payload 0 (unwrap_or owner 0) slots → (p : ℕ) → content own bytes p ≡ data_payload 0 (owner_by owner p) slots
content_named None true bytes slots is are p = ap (λ (xs : List ℕ). content true xs p) are ∙ content_own 0 p slots
content_named None false bytes slots is are p = cc
content_named (Some owner) false bytes slots is are p = are
content_named (Some owner) true bytes slots is are p = cc

-- it fits into each page
pub data_short : (owner : ℕ) (slots : List ℕ) → length slots ≤ 992 → length (data_payload 0 owner slots) ≤ 1008
unfolding data_payload
data_short owner slots short =
    omega (arith, short, length-bytes_of 4 0, length-bytes_of 4 owner, length-append (bytes_of 4 0) (bytes_of 4 owner ++ (replicate 8 0 ++ slots)), length-append (bytes_of 4 owner) (replicate 8 0 ++ slots), length-append (replicate 8 0) slots)

-- so it is made as the definition has it
pub new_named : (owner : Option ℕ) (own : Bool) (bytes slots : List ℕ) → is_some owner ≡ not own → bytes ≡ data_payload 0 (unwrap_or owner 0) slots → (image : Image) → new_of 5 (content own bytes) image ≡ new_data owner slots image
new_named owner own bytes slots is are image = new_same (length image + 4) 5 (content own bytes) (λ p. data_payload 0 (owner_by owner p) slots) (drafted image) (content_named owner own bytes slots is are)
