use Rattle.std.proofs.Common.{◌≡◌, inl, inr, ⊎_elim, length, ap, subst, ◌∙◌, arith, sym, IsTrue}
use Rattle.nb_copy.proofs.Common.{with_items_is, is_page_size, LevelHead, LevelCopying, page_at, image_size}
use Rattle.nb_copy.proofs.PlaceLaws.{loaded_place}
use Rattle.nb_copy.proofs.ReadLaws.{loads_seen}
use Rattle.nb_copy.proofs.level_copy.LevelCopy.load.Goals as goal

pub returns-in_ok-read_main-clause-entries : goal.returns-in_ok-read_main-clause-entries
returns-in_ok-read_main-clause-entries g c t tells open_ stalled of ready =
    let frozen = t.base.frozen in
    let page = with_items_is c.self.inside.scn_page c.read_main.new.into (omega (arith, c.read_main.auto.into, ap length c.deref_mut.ensures.value, c.self.inside.scn_page.ok.0)) in
    let head = ap (λ (h : LevelHead). h.page_size) c.head.ensures in
    let size : c.head.result.now.page_size ≡ image_size frozen = head ∙ ap (λ (v : LevelCopying). v.file.head.page_size) c.self.view_is ∙ of.size in
    let next = ap (λ (v : LevelCopying). v.next) c.self.view_is in
    let count = ap (λ (v : LevelCopying). v.count) c.self.view_is in
    let place = loaded_place frozen c.head.result.now.page_size c.self.inside.next c.covers-k.result.0 c.covers-k.result.1 c.place_of.result size (subst (λ n. IsTrue (is_page_size n)) (sym head) c.self.invariant.is_size) (omega (arith, c.requires.some, next))
    c.covers-k.ensures.number c.covers-k.ensures.index c.place_of.ensures (⊎_elim inl (λ e. inr e.1) c.then-self-eq1.either) of.least (omega (arith, c.requires.below, of.long, next)) in
    page ∙ c.in_ok-read_main.ensures.page t tells open_ stalled place.1 ∙ ap (page_at frozen) place.0 ∙ ap (λ n. page_at frozen (Rattle.nb_model.specs.Forms.scn_page_of frozen n)) next

pub returns-in_err-read_main-clause-loads : goal.returns-in_err-read_main-clause-loads
returns-in_err-read_main-clause-loads g c tells =
    let size = ap (λ (h : LevelHead). h.page_size) c.head.ensures ∙ ap (λ (v : LevelCopying). v.file.head.page_size) c.self.view_is in
    let loads = loads_seen c.args.self.now.file.head.page_size c.args.self.now.next c.head.result.now.page_size c.self.inside.next c.covers-k.result.1 size (ap (λ (v : LevelCopying). v.next) c.self.view_is) c.covers-k.ensures.index
    (⊎_elim inl (λ e. inr e.1) c.then-self-eq1.either) in
    omega (arith, loads, c.read_main.ensures.once tells)

pub returns-in_ok-read_main-clause-loads : goal.returns-in_ok-read_main-clause-loads
returns-in_ok-read_main-clause-loads g c tells =
    let size = ap (λ (h : LevelHead). h.page_size) c.head.ensures ∙ ap (λ (v : LevelCopying). v.file.head.page_size) c.self.view_is in
    let loads = loads_seen c.args.self.now.file.head.page_size c.args.self.now.next c.head.result.now.page_size c.self.inside.next c.covers-k.result.1 size (ap (λ (v : LevelCopying). v.next) c.self.view_is) c.covers-k.ensures.index
    (⊎_elim inl (λ e. inr e.1) c.then-self-eq1.either) in
    omega (arith, loads, c.read_main.ensures.once tells)
