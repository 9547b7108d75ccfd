use Rattle.std.proofs.Common.{◌≡◌, ℕ, length, sym, ap, ◌∙◌, arith, Bool, true, false, ◌&&◌, ◌||◌, ◌==◌, not}
use Rattle.nb_check.proofs.Common.{is_zeros, kind_of, stamp_of, is_inventory_place, is_scn_place, inventory_kind, scn_kind, head_in, PageHead, Page, Image, page_at, image_size, image_scn, breaks, WrongEntry, eq_no, eq_yes, lt_yes, lt_no, stamp_in}
use Rattle.nb_check.proofs.FactLaws.{of_entries, kind_in, lowest_blank, lowest_place, lowest_late, lowest_entry, lowest_header, lowest_none, header_only, header_test}
use Rattle.nb_check.proofs.facts.fact_at.Goals as goal

-- what the tests of the page say of the page of the image
zeros_are : (image : Image) (n : ℕ) (page : Page) (t : Bool) → page ≡ page_at image n → t ≡ is_zeros page → is_zeros (page_at image n) ≡ t
zeros_are image n page t at is = ap is_zeros (sym at) ∙ sym is

stamp_is : (image : Image) (n : ℕ) (page : Page) (head : PageHead) → page ≡ page_at image n → head ≡ head_in page → head.scn ≡ stamp_of (page_at image n)
stamp_is image n page head at is = ap (λ (h : PageHead). h.scn) is ∙ stamp_in page ∙ ap stamp_of at

place_is : (image : Image) (n size : ℕ) (page : Page) (head : PageHead) (t : Bool) → size ≡ image_size image → page ≡ page_at image n → head ≡ head_in page
    → t ≡ ((is_inventory_place size n && not (head.kind == 2)) || (is_scn_place size n && not (head.kind == 10)))
    → ((is_inventory_place (image_size image) n && not (kind_of (page_at image n) == inventory_kind)) || (is_scn_place (image_size image) n && not (kind_of (page_at image n) == scn_kind))) ≡ t
place_is image n size page head t same at is e =
    let kind : head.kind ≡ kind_of (page_at image n) = ap (λ (h : PageHead). h.kind) is ∙ kind_in page ∙ ap kind_of at in
    sym (e ∙ ap (λ (s : ℕ). (is_inventory_place s n && not (head.kind == 2)) || (is_scn_place s n && not (head.kind == 10))) same
    ∙ ap (λ (k : ℕ). (is_inventory_place (image_size image) n && not (k == 2)) || (is_scn_place (image_size image) n && not (k == 10))) kind)

pub returns-then-are_zeros : goal.returns-then-are_zeros
returns-then-are_zeros c image of at page =
    let n : ℕ = c.args.number in
    lowest_blank image n (omega (arith, c.requires.below, of.count)) (zeros_are image n c.args.page.now _ at c.are_zeros.ensures ∙ c.if-are_zeros.true)

pub returns-then-lacks_system : goal.returns-then-lacks_system
returns-then-lacks_system c image of at page =
    let n : ℕ = c.args.number in
    lowest_place image n (omega (arith, c.requires.below, of.count)) (zeros_are image n c.args.page.now _ at c.are_zeros.ensures ∙ c.if-are_zeros.false)
    (place_is image n (length c.args.page.now) c.args.page.now c.read_head-head.result _ of.size at c.read_head-head.ensures c.lacks_system.ensures ∙ c.if-lacks_system.true)

pub returns-then-head-extent : goal.returns-then-head-extent
returns-then-head-extent c image of at page =
    let n : ℕ = c.args.number in
    let stamp = stamp_is image n c.args.page.now c.read_head-head.result at c.read_head-head.ensures in
    lowest_late image n (omega (arith, c.requires.below, of.count)) (zeros_are image n c.args.page.now _ at c.are_zeros.ensures ∙ c.if-are_zeros.false)
    (place_is image n (length c.args.page.now) c.args.page.now c.read_head-head.result _ of.size at c.read_head-head.ensures c.lacks_system.ensures ∙ c.if-lacks_system.false)
    (lt_yes (image_scn image) (stamp_of (page_at image n)) (omega (arith, stamp, of.scn, c.if-head-extent.true)))

pub returns-then-has_wrong_entry : goal.returns-then-has_wrong_entry
returns-then-has_wrong_entry c image of at page =
    let n : ℕ = c.args.number in
    let stamp = stamp_is image n c.args.page.now c.read_head-head.result at c.read_head-head.ensures in
    let wrong : breaks image WrongEntry n ≡ true = sym (c.has_wrong_entry.ensures image (of_entries image _ _ c.args.extent c.requires.entries of) stamp page) ∙ c.if-has_wrong_entry.true in
    lowest_entry image n (omega (arith, c.requires.below, of.count)) (zeros_are image n c.args.page.now _ at c.are_zeros.ensures ∙ c.if-are_zeros.false)
    (place_is image n (length c.args.page.now) c.args.page.now c.read_head-head.result _ of.size at c.read_head-head.ensures c.lacks_system.ensures ∙ c.if-lacks_system.false)
    (lt_no (image_scn image) (stamp_of (page_at image n)) (omega (arith, stamp, of.scn, c.if-head-extent.false))) wrong

pub returns-then-number-gt0 : goal.returns-then-number-gt0
returns-then-number-gt0 c image of at page =
    let n : ℕ = c.args.number in
    let stamp = stamp_is image n c.args.page.now c.read_head-head.result at c.read_head-head.ensures in
    let right : breaks image WrongEntry n ≡ false = sym (c.has_wrong_entry.ensures image (of_entries image _ _ c.args.extent c.requires.entries of) stamp page) ∙ c.if-has_wrong_entry.false in
    lowest_none image n (omega (arith, c.requires.below, of.count)) (zeros_are image n c.args.page.now _ at c.are_zeros.ensures ∙ c.if-are_zeros.false)
    (place_is image n (length c.args.page.now) c.args.page.now c.read_head-head.result _ of.size at c.read_head-head.ensures c.lacks_system.ensures ∙ c.if-lacks_system.false)
    (lt_no (image_scn image) (stamp_of (page_at image n)) (omega (arith, stamp, of.scn, c.if-head-extent.false))) right (header_only image n (λ e. absurd (omega (arith, e, c.if-number-gt0.true))))

pub returns-then-head-extent-2 : goal.returns-then-head-extent-2
returns-then-head-extent-2 c image of at page =
    let n : ℕ = c.args.number in
    let stamp = stamp_is image n c.args.page.now c.read_head-head.result at c.read_head-head.ensures in
    let right : breaks image WrongEntry n ≡ false = sym (c.has_wrong_entry.ensures image (of_entries image _ _ c.args.extent c.requires.entries of) stamp page) ∙ c.if-has_wrong_entry.false in
    lowest_header image n (omega (arith, c.requires.below, of.count)) (zeros_are image n c.args.page.now _ at c.are_zeros.ensures ∙ c.if-are_zeros.false)
    (place_is image n (length c.args.page.now) c.args.page.now c.read_head-head.result _ of.size at c.read_head-head.ensures c.lacks_system.ensures ∙ c.if-lacks_system.false)
    (lt_no (image_scn image) (stamp_of (page_at image n)) (omega (arith, stamp, of.scn, c.if-head-extent.false))) right
    (header_test image n (omega (arith, c.if-number-gt0.false)) ∙ ap not (eq_no _ _ (λ e. c.if-head-extent-2.true (stamp ∙ e ∙ sym of.scn))))

pub returns : goal.returns
returns c image of at page =
    let n : ℕ = c.args.number in
    let stamp = stamp_is image n c.args.page.now c.read_head-head.result at c.read_head-head.ensures in
    let right : breaks image WrongEntry n ≡ false = sym (c.has_wrong_entry.ensures image (of_entries image _ _ c.args.extent c.requires.entries of) stamp page) ∙ c.if-has_wrong_entry.false in
    lowest_none image n (omega (arith, c.requires.below, of.count)) (zeros_are image n c.args.page.now _ at c.are_zeros.ensures ∙ c.if-are_zeros.false)
    (place_is image n (length c.args.page.now) c.args.page.now c.read_head-head.result _ of.size at c.read_head-head.ensures c.lacks_system.ensures ∙ c.if-lacks_system.false)
    (lt_no (image_scn image) (stamp_of (page_at image n)) (omega (arith, stamp, of.scn, c.if-head-extent.false))) right
    (header_test image n (omega (arith, c.if-number-gt0.false)) ∙ ap not (eq_yes _ _ (sym stamp ∙ c.if-head-extent-2.false ∙ of.scn)))
