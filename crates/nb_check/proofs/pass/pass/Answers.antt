use Rattle.std.proofs.Common.{◌≡◌, ℕ, ◌-◌, ◌≤◌, List, length, sym, ap, subst, ◌∙◌, arith, IsTrue}
use Rattle.nb_check.proofs.Common.{is_page_size, covered, image_size, Held, IsOf, IsFirstBelow, HoldsTaken, AreSized, IsMapOf, HasEntryOf, looks_then}
use Rattle.nb_check.proofs.CoverLaws.{first_far, none_few, none_far, group_end, group_within, valid_of, ends_of}
use Rattle.nb_engine.proofs.FlagLaws.{some_first}
use Rattle.nb_check.proofs.pass.pass.Goals as goal

pub pass_pages-requires-clause-room : goal.pass_pages-requires-clause-room
pass_pages-requires-clause-room g c = omega (arith, c.requires.room, ap (λ (h : Held). h.files.page_size) c.in_ok-read_first.ensures.looks.same)

pub pass_pages-requires-clause-map : goal.pass_pages-requires-clause-map
pass_pages-requires-clause-map g c = omega (arith, c.read_first.auto.map, c.requires.map)

pub pass_pages-requires-clause-entries : goal.pass_pages-requires-clause-entries
pass_pages-requires-clause-entries g c = omega (arith, c.read_first.auto.entries, c.requires.entries)

pub pass_pages-requires-clause-fits : goal.pass_pages-requires-clause-fits
pass_pages-requires-clause-fits g c = omega (arith, c.requires.fits, ap (λ (h : Held). h.files.count) c.in_ok-read_first.ensures.looks.same)

pub returns-in_err-pass_pages-clause-once : goal.returns-in_err-pass_pages-clause-once
returns-in_err-pass_pages-clause-once g c tells = omega (arith, c.in_ok-read_first.ensures.once tells, c.in_err-pass_pages.ensures.once tells, ap (λ (h : Held). h.files.count) c.in_ok-read_first.ensures.looks.same)

pub returns-then-extent-le1-clause-broken : goal.returns-then-extent-le1-clause-broken
returns-then-extent-le1-clause-broken g c t tells is first =
    let image = t.base.image in
    let still = c.in_ok-read_first.ensures.looks.opened t tells is in
    let valid : IsTrue (is_page_size (image_size image)) = subst (λ (s : ℕ). IsTrue (is_page_size s)) (c.requires.room ∙ is.files.agrees.page_size) c.requires.size in
    let few : length image ≤ 1 = omega (arith, c.if-extent-le1.true, c.count.ensures.value, is.files.agrees.count) in
    first_far image (length image) (covered image) c.pass_pages.new.found.broken (omega arith) (λ f p past low. none_few image valid (some_first image is.files.agrees.header) few f p past)
    (subst (λ (n : ℕ). IsFirstBelow image n c.pass_pages.new.found.broken) still.files.agrees.count (c.in_ok-pass_pages.ensures.broken t tells still (c.in_ok-read_first.ensures.entries t tells is) first))

pub returns-then-extent-le1-clause-taken : goal.returns-then-extent-le1-clause-taken
returns-then-extent-le1-clause-taken g c t tells is some held =
    let still = c.in_ok-read_first.ensures.looks.opened t tells is in
    subst (λ (n : ℕ). HoldsTaken t.base.image n c.pass_pages.new.found.taken) still.files.agrees.count (c.in_ok-pass_pages.ensures.taken t tells still (c.in_ok-read_first.ensures.map t tells is) some held)

pub returns-then-extent-le1-clause-sizes : goal.returns-then-extent-le1-clause-sizes
returns-then-extent-le1-clause-sizes g c t tells is =
    subst (λ (n : ℕ). AreSized t.base.image n (length c.args.page.now)) (ap (λ (h : Held). h.files.count) c.in_ok-read_first.ensures.looks.same) (c.in_ok-pass_pages.ensures.sizes t tells (c.in_ok-read_first.ensures.looks.opened t tells is))

pub returns-then-extent-le1-clause-once : goal.returns-then-extent-le1-clause-once
returns-then-extent-le1-clause-once g c tells = omega (arith, c.in_ok-read_first.ensures.once tells, c.in_ok-pass_pages.ensures.once tells, ap (λ (h : Held). h.files.count) c.in_ok-read_first.ensures.looks.same)

pub look_past-requires-clause-size : goal.look_past-requires-clause-size
look_past-requires-clause-size g c =
    let same : length c.args.page.now ≡ length c.pass_pages.new.map = omega (arith, c.pass_pages.auto.map, c.read_first.auto.map, c.requires.map) in
    subst (λ (s : ℕ). IsTrue (is_page_size s)) same c.requires.size

pub look_past-requires-clause-entries : goal.look_past-requires-clause-entries
look_past-requires-clause-entries g c = omega (arith, c.pass_pages.auto.map, c.read_first.auto.map, c.requires.map, c.pass_pages.auto.entries, c.read_first.auto.entries, c.requires.entries)

pub returns-clause-broken : goal.returns-clause-broken
returns-clause-broken g c t tells is first =
    let image = t.base.image in
    let still = c.in_ok-read_first.ensures.looks.opened t tells is in
    let long : length c.pass_pages.new.map ≡ length c.args.page.now = omega (arith, c.pass_pages.auto.map, c.read_first.auto.map, c.requires.map) in
    let here : IsTrue (is_page_size (length c.pass_pages.new.map)) = subst (λ (s : ℕ). IsTrue (is_page_size s)) (sym long) c.requires.size in
    let count : c.read_first.new.engine.files.count ≡ c.count.result = ap (λ (h : Held). h.files.count) c.in_ok-read_first.ensures.looks.same ∙ sym c.count.ensures.value in
    let of : IsOf image (length c.pass_pages.new.map) (record { count = c.count.result; scn = c.scn.result }) =
    record { size = long ∙ c.requires.room ∙ is.files.agrees.page_size; count = c.count.ensures.value ∙ is.files.agrees.count; scn = c.scn.ensures ∙ ap (λ (h : Held). h.scn) c.store.ensures ∙ is.agrees.scn } in
    let map = subst (λ (n : ℕ). IsMapOf image n c.pass_pages.new.map) count (c.in_ok-pass_pages.ensures.map t tells still (c.in_ok-read_first.ensures.map t tells is)) in
    let entries = subst (λ (n : ℕ). HasEntryOf image (n - 1) c.pass_pages.new.entries) count (c.in_ok-pass_pages.ensures.entries t tells still (c.in_ok-read_first.ensures.entries t tells is)) in
    let pages = subst (λ (n : ℕ). IsFirstBelow image n c.pass_pages.new.found.broken) count (c.in_ok-pass_pages.ensures.broken t tells still (c.in_ok-read_first.ensures.entries t tells is) first) in
    let valid : IsTrue (is_page_size (image_size image)) = valid_of image (length c.pass_pages.new.map) _ here of in
    first_far image (group_end image valid) (covered image) c.look_past.new.found.broken (group_within image valid) (λ f p past low. none_far image valid (some_first image is.files.agrees.header) f p past)
    (subst (λ (n : ℕ). IsFirstBelow image n c.look_past.new.found.broken) (ends_of image (length c.pass_pages.new.map) _ here of) (c.look_past.ensures.broken image of map entries pages))

pub returns-clause-taken : goal.returns-clause-taken
returns-clause-taken g c t tells is some held =
    let still = c.in_ok-read_first.ensures.looks.opened t tells is in
    subst (λ (set : List ℕ). HoldsTaken t.base.image (length t.base.image) set) (sym c.look_past.ensures.taken)
    (subst (λ (n : ℕ). HoldsTaken t.base.image n c.pass_pages.new.found.taken) still.files.agrees.count (c.in_ok-pass_pages.ensures.taken t tells still (c.in_ok-read_first.ensures.map t tells is) some held))

pub returns-clause-sizes : goal.returns-clause-sizes
returns-clause-sizes g c t tells is =
    subst (λ (n : ℕ). AreSized t.base.image n (length c.args.page.now)) (ap (λ (h : Held). h.files.count) c.in_ok-read_first.ensures.looks.same) (c.in_ok-pass_pages.ensures.sizes t tells (c.in_ok-read_first.ensures.looks.opened t tells is))

pub returns-clause-taken_room : goal.returns-clause-taken_room
returns-clause-taken_room g c = ap (λ (set : List ℕ). length set) c.look_past.ensures.taken ∙ c.in_ok-pass_pages.ensures.taken_room

pub returns-clause-once : goal.returns-clause-once
returns-clause-once g c tells = omega (arith, c.in_ok-read_first.ensures.once tells, c.in_ok-pass_pages.ensures.once tells, ap (λ (h : Held). h.files.count) c.in_ok-read_first.ensures.looks.same)

pub returns-in_err-pass_pages-clause-looks : goal.returns-in_err-pass_pages-clause-looks
returns-in_err-pass_pages-clause-looks g c = looks_then c.in_ok-read_first.ensures.looks c.in_err-pass_pages.ensures.looks

pub returns-then-extent-le1-clause-looks : goal.returns-then-extent-le1-clause-looks
returns-then-extent-le1-clause-looks g c = looks_then c.in_ok-read_first.ensures.looks c.in_ok-pass_pages.ensures.looks

pub returns-clause-looks : goal.returns-clause-looks
returns-clause-looks g c = looks_then c.in_ok-read_first.ensures.looks c.in_ok-pass_pages.ensures.looks
