use Rattle.std.proofs.Common.{ℕ, length, sym, ap, subst, ◌∙◌, arith, IsTrue}
use Rattle.nb_check.proofs.Common.{is_page_size, is_inventory_place, is_scn_place, Page, Held}
use Rattle.nb_check.proofs.PassLaws.{entries_kept, map_kept_on}
use Rattle.nb_check.proofs.pass.pass_page.Goals as goal

pub returns-clause-entries : goal.returns-clause-entries
returns-clause-entries g c t tells is has =
    let image = t.base.image in
    let size = c.requires.room ∙ is.files.agrees.page_size in
    let at = c.in_ok-read.ensures.page t tells is (omega (arith, c.requires.below, is.files.agrees.count)) in
    entries_kept image c.args.number c.read.new.into c.args.entries.now c.keep_wanted.new.kept c.is_scn_place.result (subst (λ (s : ℕ). IsTrue (is_page_size s)) size c.requires.size)
    (c.is_scn_place.ensures ∙ ap (λ (s : ℕ). is_scn_place s c.args.number) (c.page_size-size.ensures.value ∙ is.files.agrees.page_size)) c.keep_wanted.ensures.new c.keep_wanted.ensures.old at has

pub returns-clause-broken : goal.returns-clause-broken
returns-clause-broken g c t tells is has first =
    let image = t.base.image in
    let size = c.requires.room ∙ is.files.agrees.page_size in
    let at = c.in_ok-read.ensures.page t tells is (omega (arith, c.requires.below, is.files.agrees.count)) in
    let entries =
    entries_kept image c.args.number c.read.new.into c.args.entries.now c.keep_wanted.new.kept c.is_scn_place.result (subst (λ (s : ℕ). IsTrue (is_page_size s)) size c.requires.size)
    (c.is_scn_place.ensures ∙ ap (λ (s : ℕ). is_scn_place s c.args.number) (c.page_size-size.ensures.value ∙ is.files.agrees.page_size)) c.keep_wanted.ensures.new c.keep_wanted.ensures.old at has in
    c.look_at.ensures.broken image
    (record { size = c.read.auto.into ∙ size; count = c.count.ensures.value ∙ is.files.agrees.count; scn = c.scn.ensures ∙ ap (λ (h : Held). h.scn) c.store.ensures ∙ is.agrees.scn }) at entries first

pub returns-clause-taken : goal.returns-clause-taken
returns-clause-taken g c t tells is map some held =
    let image = t.base.image in
    let size = c.requires.room ∙ is.files.agrees.page_size in
    let at = c.in_ok-read.ensures.page t tells is (omega (arith, c.requires.below, is.files.agrees.count)) in
    c.look_at.ensures.taken image
    (record { size = c.read.auto.into ∙ size; count = c.count.ensures.value ∙ is.files.agrees.count; scn = c.scn.ensures ∙ ap (λ (h : Held). h.scn) c.store.ensures ∙ is.agrees.scn }) at map some held

pub returns-clause-map : goal.returns-clause-map
returns-clause-map g c t tells is map =
    let image = t.base.image in
    let size = c.requires.room ∙ is.files.agrees.page_size in
    let at = c.in_ok-read.ensures.page t tells is (omega (arith, c.requires.below, is.files.agrees.count)) in
    map_kept_on image c.args.number c.read.new.into c.args.map.now c.keep_wanted-2.new.kept c.is_inventory_place.result (subst (λ (s : ℕ). IsTrue (is_page_size s)) size c.requires.size)
    (c.is_inventory_place.ensures ∙ ap (λ (s : ℕ). is_inventory_place s c.args.number) (c.page_size-size.ensures.value ∙ is.files.agrees.page_size)) c.keep_wanted-2.ensures.new c.keep_wanted-2.ensures.old at map

pub returns-clause-sized : goal.returns-clause-sized
returns-clause-sized g c t tells is =
    ap (λ (page : Page). length page) (sym (c.in_ok-read.ensures.page t tells is (omega (arith, c.requires.below, is.files.agrees.count)))) ∙ c.read.auto.into
