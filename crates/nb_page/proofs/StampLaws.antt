-- A page that gets a text and is stamped, in either order, is the page stamped with that text.
-- The other order is `with_payload-stamped` of `nb_fields`.
use Rattle.std.proofs.Common.{◌≡◌, ℕ, ◌+◌, ◌-◌, ◌%◌, ◌^◌, ◌≤◌, List, ◌++◌, length, take, drop, ap, ◌∙◌, arith, length-drop, refl}
use Rattle.nb_page.proofs.Common.{length-take-le, drop_at, drop-append-le, take-append-le, number_of, number_in, padded, head_of, page_of, with_payload, stamped, generation_of, number_in-take, padded_whole}
use Rattle.nb_fields.specs.Page.{stamp_of}
use Rattle.nb_page.specs.Head.{head_in}

pub drop-with_payload : (page payload : List ℕ) → 16 ≤ length page → drop 16 (with_payload page payload) ≡ padded (length page - 16) payload
unfolding with_payload
drop-with_payload page payload long = drop_at (take 16 page) (padded (length page - 16) payload) 16 (length-take-le 16 page long)

-- the head stays
pub number_in-with_payload : (page payload : List ℕ) (at w : ℕ) → 16 ≤ length page → at + w ≤ 16 → number_in at w (with_payload page payload) ≡ number_in at w page
unfolding with_payload number_in
number_in-with_payload page payload at w long inside =
    let front : List ℕ = take 16 page in
    let len = length-take-le 16 page long in
    let rest : List ℕ = padded (length page - 16) payload in
    ap (λ xs. number_of (take w xs)) (drop-append-le at front rest (omega arith))
    ∙ ap number_of (take-append-le w (drop at front) rest (omega (arith, length-drop at front)))
    ∙ number_in-take 16 at w page inside

pub stamped-with_payload : (page : List ℕ) (kind : ℕ) (payload : List ℕ) (scn number : ℕ) → 16 + length payload ≤ length page
    → stamped (with_payload page payload) kind (drop 16 (with_payload page payload)) scn number ≡ stamped page kind payload scn number
unfolding stamped page_of
stamped-with_payload page kind payload scn number h =
    let written : List ℕ = with_payload page payload in
    let rest : List ℕ = padded (length page - 16) payload in
    let generation = number_in-with_payload page payload 4 4 (omega arith) (omega arith) in
    let behind : padded (length written - 16) (drop 16 written) ≡ rest =
    padded_whole (length written - 16) (drop 16 written) (length-drop 16 written) ∙ drop-with_payload page payload (omega arith) in
    ap (λ xs. head_of kind ((generation_of written + 1) % 2 ^ 32) scn number ++ xs) behind ∙ ap (λ g. head_of kind ((g + 1) % 2 ^ 32) scn number ++ rest) generation

-- the stamp of a page, as its head has it
pub stamp_in : (page : List ℕ) → (head_in page).scn ≡ stamp_of page
unfolding head_in
stamp_in page = refl
