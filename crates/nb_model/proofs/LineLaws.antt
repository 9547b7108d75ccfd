-- The files of a line of backups give the image of its last.
use Rattle.std.proofs.Common.{◌≡◌, ℕ, zero, suc, ◌+◌, ◌-◌, ◌<◌, ◌≤◌, List, [], ◌∷◌, ◌++◌, length, drop, refl, sym, ap, ◌∙◌, arith, length-append, append_assoc, true}
use Rattle.nb_model.proofs.Common.{append-nil, get_or_append_left, is_zeros, stamp_of, Image, page_at, image_size, trimmed, written_at, overwritten, Kept, taken, numbered_from, all_over, applied, Follows, HasNoZeros, IsLine, last_in, AreZeroPages, first_file, next_files}
use Rattle.nb_model.proofs.FollowsLaws.{meets, overwrites, written_end}
use Rattle.nb_model.proofs.ImageLaws.{all-drop, trimmed-no_zeros, trimmed-append_zeros}

-- pages of zeros at the end go
pub trimmed_all : (ps zs : Image) → HasNoZeros ps → AreZeroPages zs → trimmed (ps ++ zs) ≡ ps
trimmed_all ps zs h z = trimmed-append_zeros ps zs z ∙ trimmed-no_zeros ps h

-- all pages written give the image
pub writes_all : (size n : ℕ) (front a : Image) → length front ≡ n → overwritten size (numbered_from n a) front ≡ front ++ a
unfolding overwritten numbered_from
writes_all size n front [] e = sym (append-nil front)
writes_all size n front (p ∷ ps) e =
    let next : length (front ++ p ∷ []) ≡ n + 1 = omega (arith, length-append front (p ∷ [])) in
    let here : written_at size (n, p) front ≡ front ++ p ∷ [] = ap (written_at size (n, p)) (sym (append-nil front)) ∙ written_end size n front p e ∙ append-nil (front ++ p ∷ []) in
    ap (overwritten size (numbered_from (n + 1) ps)) here ∙ writes_all size (n + 1) (front ++ p ∷ []) ps next ∙ append_assoc front (p ∷ []) ps

meets_behind : {a b : Image} {s : ℕ} (zs : Image) → Follows a s b → (p : ℕ) → p < length b → stamp_of (page_at b p) ≤ s → (p < length (a ++ zs)) × (page_at b p ≡ page_at (a ++ zs) p)
meets_behind {a} {b} {s} zs f p h low =
    let old = f.same p h low in
    (omega (arith, old.0, length-append a zs), old.1 ∙ sym (get_or_append_left a zs [] p old.0))

drop_behind : (n : ℕ) (xs ys : Image) → length xs ≤ n → drop n (xs ++ ys) ≡ drop (n - length xs) ys
drop_behind n [] ys h = ap (λ k. drop k ys) (omega arith)
drop_behind zero (x ∷ xs) ys h = absurd (omega arith)
drop_behind (suc n) (x ∷ xs) ys h = drop_behind n xs ys (omega arith) ∙ ap (λ k. drop k ys) (omega arith)

-- one level more
one_level : (size s : ℕ) (a b zs : Image) → Follows a s b → AreZeroPages zs → (left : Image) × AreZeroPages left × (overwritten size (taken s b) (a ++ zs) ≡ b ++ left)
one_level size s a b zs f z =
    let k : ℕ = length b - length a in
    let split : drop (length b) (a ++ zs) ≡ drop k zs = drop_behind (length b) a zs f.no_shorter in
    (drop k zs, all-drop (λ page. is_zeros page ≡ true) k zs z, overwrites size s 0 [] (a ++ zs) b refl (meets s (a ++ zs) b (meets_behind zs f)) ∙ ap (λ (x : Image). b ++ x) split)

-- all levels of a line
line_over : (r : Kept) (qs : List Kept) (zs : Image) → IsLine r qs → AreZeroPages zs → (left : Image) × AreZeroPages left × (all_over (next_files r qs) (r.image ++ zs) ≡ (last_in r qs).image ++ left)
unfolding all_over next_files
line_over r [] zs line z = (zs, z, refl)
line_over r (q ∷ qs) zs line z =
    let step = one_level (image_size q.image) r.scn r.image q.image zs line.0.follows z in
    let rest = line_over q qs step.0 line.1 step.1 in
    (rest.0, rest.1, ap (all_over (next_files q qs)) step.2 ∙ rest.2)

-- what the files of a line give is the image of its last backup
pub line_applied : (r : Kept) (qs : List Kept) (zs : Image) → IsLine r qs → AreZeroPages zs → HasNoZeros (last_in r qs).image → applied (first_file r zs ∷ next_files r qs) ≡ (last_in r qs).image
unfolding applied all_over first_file
line_applied r qs zs line z none =
    let rest = line_over r qs zs line z in
    ap (λ (x : Image). trimmed (all_over (next_files r qs) x)) (writes_all (image_size r.image) 0 [] (r.image ++ zs) refl) ∙ ap trimmed rest.2 ∙ trimmed_all (last_in r qs).image rest.0 none rest.1
