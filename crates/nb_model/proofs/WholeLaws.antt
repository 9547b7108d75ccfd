-- A copy of a kept image is accepted as the first file of a chain, and a kept chain gives the kept image.
use Rattle.std.proofs.Common.{◌≡◌, ℕ, ◌+◌, ◌-◌, ◌*◌, ◌/◌, ◌%◌, ◌<◌, ◌≤◌, List, [], ◌∷◌, ◌++◌, length, take, refl, sym, ap, subst, ◌∙◌, arith, length-append, Bool, true, false, not, nat_lt, Some, None, Ok}
use Rattle.nb_model.proofs.Common.{take-append-le, mul-mod_left, mul-div_cancel, number_of, number_in, part, is_header, state_of, size_of, scn_of, guid_of, is_header-take, part-take, most_pages, stalled_state, Files, Refusal, Page, Image, image_size, first_page, cut, Kept, Cause, first_cause, when, joined, numbered_from, begins_level, Link, whole_link, is_bad_length, not_whole, first_link, next_links, verdict, applied, IsOfSize, HasNoZeros, HoldLine, HoldsFirst, first_file, next_files, last_in, or_from}
use Rattle.nb_model.specs.Restoring.{linked}
use Rattle.nb_model.proofs.HeaderLaws.{first_byte, header-long, header-kind}
use Rattle.nb_model.proofs.ImageLaws.{all-append, length-joined, cut-joined}
use Rattle.nb_model.proofs.ReadLaws.{eq_yes, lt_no}
use Rattle.nb_model.proofs.LineLaws.{line_applied}
use Rattle.nb_model.proofs.ChainLaws.{line_accepted, held_line}

one_is_no_level : (bs : List ℕ) → begins_level (1 ∷ bs) ≡ false
unfolding begins_level
one_is_no_level bs = refl

-- a page with a header begins no level file
no_level : (p : Page) (rest : List ℕ) → is_header p ≡ true → begins_level (p ++ rest) ≡ false
no_level [] rest h = absurd (let few : 64 ≤ 0 = header-long [] h in omega (arith, few))
no_level (b ∷ bs) rest h = ap (λ (x : ℕ). begins_level (x ∷ (bs ++ rest))) (sym (first_byte b bs) ∙ header-kind (b ∷ bs) h) ∙ one_is_no_level (bs ++ rest)

-- the first 64 bytes of a file are those of its first page
module _ (p : Page) (rest : List ℕ) (long : 64 ≤ length p) where
  front : take 64 (p ++ rest) ≡ take 64 p
  front = take-append-le 64 p rest long

  field : (at w : ℕ) → at + w ≤ 64 → part at w (p ++ rest) ≡ part at w p
  field at w h = sym (part-take 64 at w (p ++ rest) h) ∙ ap (λ (x : List ℕ). part at w x) front ∙ part-take 64 at w p h

  number : (at w : ℕ) → at + w ≤ 64 → number_in at w (p ++ rest) ≡ number_in at w p
  unfolding number_in
  number at w h = ap number_of (field at w h)

  header : is_header (p ++ rest) ≡ is_header p
  header = sym (is_header-take (p ++ rest)) ∙ ap is_header front ∙ is_header-take p

-- so many whole pages as a database may have
good_length : (bytes : List ℕ) (n size : ℕ) → size_of bytes ≡ size → length bytes ≡ n * size → 0 < size → 5 ≤ n → n ≤ most_pages → is_bad_length bytes ≡ false
good_length bytes n size e long some least most =
    let whole : length bytes % size_of bytes ≡ 0 = ap (λ x. length bytes % x) e ∙ ap (λ x. x % size) long ∙ mul-mod_left n size in
    let count : length bytes / size_of bytes ≡ n = ap (λ x. length bytes / x) e ∙ ap (λ x. x / size) long ∙ mul-div_cancel n some in
    or_from _ _ (ap not (eq_yes _ _ whole)) (or_from _ _ (ap (λ x. nat_lt x 5) count ∙ lt_no n 5 least) (ap (λ x. nat_lt most_pages x) count ∙ lt_no most_pages n most))

pub when_false : (t : Bool) (r : Refusal) → t ≡ false → when t r ≡ None
when_false t r e = rw e refl

pub two_none : (a b : Cause) → a ≡ None → b ≡ None → first_cause (a ∷ b ∷ []) ≡ None
unfolding first_cause
two_none a b ea eb = rw (ea, first_cause) (rw (eb, first_cause) refl)

is_whole : (name bytes : List ℕ) → is_header bytes ≡ true → state_of bytes ≡ stalled_state → is_bad_length bytes ≡ false → not_whole name bytes ≡ None
unfolding not_whole
is_whole name bytes header state good =
    rw (header, not_whole) (two_none _ _ (when_false _ _ (ap not (eq_yes _ _ state))) (when_false _ _ good))

whole_accepted : (name bytes : List ℕ) → begins_level bytes ≡ false → not_whole name bytes ≡ None → first_link name bytes ≡ Ok (whole_link bytes)
unfolding first_link
whole_accepted name bytes level whole = rw (level, first_link) (rw (whole, first_link) refl)

-- the link that a copy gives
copy_link : (r : Kept) (zeros : Image) (bytes : List ℕ) (n : ℕ) → guid_of bytes ≡ r.guid → scn_of bytes ≡ r.scn + 1 → size_of bytes ≡ image_size r.image → length bytes / size_of bytes ≡ n
    → cut (image_size r.image) n bytes ≡ r.image ++ zeros → whole_link bytes ≡ first_file r zeros
unfolding first_file
copy_link r zeros bytes n guid scn size count pages =
    let below : scn_of bytes - 1 ≡ r.scn = omega (arith, scn) in
    let cut_is : cut (size_of bytes) (length bytes / size_of bytes) bytes ≡ r.image ++ zeros = ap (λ s. cut s (length bytes / size_of bytes) bytes) size ∙ ap (λ k. cut (image_size r.image) k bytes) count ∙ pages in
    λ i. record { guid = guid i; scn = below i; size = size i; pages = numbered_from 0 (cut_is i) }

-- an image of at least one page
abbrev behind_first : Image → Image
behind_first [] = []
behind_first (p ∷ ps) = ps

split : (image : Image) → 1 ≤ length image → image ≡ first_page image ∷ behind_first image
split [] h = absurd (omega arith)
split (p ∷ ps) h = refl

-- a copy of a kept image is accepted
pub copy_accepted : (files : Files) (r : Kept) (zeros : Image) (name : List ℕ) → HoldsFirst files r zeros name → first_link name (joined (r.image ++ zeros)) ≡ Ok (first_file r zeros)
copy_accepted files r zeros name holds =
    let p : Page = first_page r.image in
    let size : ℕ = image_size r.image in
    let pages : Image = r.image ++ zeros in
    let bytes : List ℕ = joined pages in
    let rest : List ℕ = joined (behind_first r.image ++ zeros) in
    let some : 1 ≤ length r.image = omega (arith, holds.whole.least) in
    let is : bytes ≡ p ++ rest = ap (λ (x : Image). joined (x ++ zeros)) (split r.image some) in
    let sizes : IsOfSize size pages = all-append (λ (page : Page). length page ≡ size) r.image zeros holds.whole.sizes holds.sizes in
    let first : IsOfSize size (p ∷ behind_first r.image) = subst (λ (x : Image). IsOfSize size x) (split r.image some) holds.whole.sizes in
    let long : 64 ≤ length p = header-long p holds.begun.header in
    let wide : 0 < size = omega (arith, long, first.0) in
    let n : ℕ = length pages in
    let least : 5 ≤ n = omega (arith, holds.whole.least, length-append r.image zeros) in
    let all : length bytes ≡ n * size = length-joined size pages sizes in
    let is_header_too : is_header bytes ≡ true = ap is_header is ∙ header p rest long ∙ holds.begun.header in
    let state : state_of bytes ≡ stalled_state = ap state_of is ∙ number p rest long 22 2 (omega arith) ∙ holds.begun.state in
    let size_too : size_of bytes ≡ size = ap size_of is ∙ number p rest long 24 4 (omega arith) in
    let scn : scn_of bytes ≡ r.scn + 1 = ap scn_of is ∙ number p rest long 28 4 (omega arith) ∙ holds.begun.scn in
    let guid : guid_of bytes ≡ r.guid = ap guid_of is ∙ field p rest long 32 16 (omega arith) ∙ holds.begun.guid in
    let count : length bytes / size_of bytes ≡ n = ap (λ x. length bytes / x) size_too ∙ ap (λ x. x / size) all ∙ mul-div_cancel n wide in
    whole_accepted name bytes (ap begins_level is ∙ no_level p rest holds.begun.header)
    (is_whole name bytes is_header_too state (good_length bytes n size size_too all wide least holds.most))
    ∙ ap (λ (l : Link). Ok l) (copy_link r zeros bytes n guid scn size_too count (cut-joined size (length pages) pages sizes wide (omega arith)))

pub verdict_there : (files : Files) (name : List ℕ) (names : List (List ℕ)) (bytes : List ℕ) (l : Link) → files name ≡ Some bytes → first_link name bytes ≡ Ok l → verdict files (name ∷ names) ≡ linked l (next_links files 1 l names)
unfolding verdict
verdict_there files name names bytes l is link = rw (is, verdict) (rw (link, verdict) refl)

pub first_fields : (r : Kept) (zeros : Image) → ((first_file r zeros).guid ≡ r.guid) × ((first_file r zeros).scn ≡ r.scn) × ((first_file r zeros).size ≡ image_size r.image)
unfolding first_file
first_fields r zeros = (refl, refl, refl)

-- the files of a line of kept backups are a chain
pub chain_accepted : (files : Files) (r : Kept) (zeros : Image) (qs : List Kept) (name : List ℕ) (names : List (List ℕ)) → HoldsFirst files r zeros name → HoldLine files 1 r names qs
    → verdict files (name ∷ names) ≡ Ok (first_file r zeros ∷ next_files r qs)
chain_accepted files r zeros qs name names holds line =
    let same = first_fields r zeros in
    verdict_there files name names (joined (r.image ++ zeros)) (first_file r zeros) holds.is (copy_accepted files r zeros name holds)
    ∙ ap (linked (first_file r zeros)) (line_accepted files 1 r (first_file r zeros) names qs same.0 same.1 same.2 line)

-- and give the image of its last
pub chain_gives : (files : Files) (r : Kept) (zeros : Image) (qs : List Kept) (name : List ℕ) (names : List (List ℕ)) → HoldsFirst files r zeros name → HoldLine files 1 r names qs → HasNoZeros (last_in r qs).image
    → applied (first_file r zeros ∷ next_files r qs) ≡ (last_in r qs).image
chain_gives files r zeros qs name names holds line none = line_applied r qs zeros (held_line files 1 r names qs line) holds.zero none
