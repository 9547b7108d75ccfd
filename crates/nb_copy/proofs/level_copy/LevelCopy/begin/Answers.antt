use Rattle.std.proofs.Common.{List, length, ap, subst, ◌∙◌, arith, sym, refl, ◌<◌, OnOk}
use Rattle.nb_copy.proofs.Common.{with_items_is, head_of, Numbered, HasTaken, IsHeaded, LevelCopying, IsMade, IsUnfinished, renamed, quiet_then, made_quiet, remade_twice, touches_named, touches_then, touches_quiet}
use Rattle.nb_copy.proofs.LevelLaws.{below_none, may_next, taken_next}
use Rattle.nb_copy.proofs.PlaceLaws.{may_first}
use Rattle.nb_copy.proofs.level_copy.LevelCopy.begin.Goals as goal

pub returns-in_err-begin-clause-left : goal.returns-in_err-begin-clause-left
returns-in_err-begin-clause-left g c t tells open_ stalled of fresh made =
    let quiet = c.in_ok-read_main.ensures.quiet in
    let headed = subst (λ (v : LevelCopying). IsHeaded (head_of v.file.head)) (sym c.self.view_is) of.formed in
    let empty = made_quiet _ _ _ quiet (subst (λ (v : LevelCopying). IsMade (g.H.Host.world c.args.host.now) v.file.name) (sym c.self.view_is) made) in
    renamed _ _ _ _ IsUnfinished (ap (λ (v : LevelCopying). v.file.name) c.self.view_is) (quiet_then c.self.inside.file.name IsUnfinished _ _ _ quiet (c.begin.ensures.left tells headed empty))

pub returns-clause-left : goal.returns-clause-left
returns-clause-left g c t tells open_ stalled of fresh made =
    let frozen = t.base.frozen in
    let name = ap (λ (v : LevelCopying). v.file.name) c.self.view_is in
    let quiet = c.in_ok-read_main.ensures.quiet in
    let empty = made_quiet _ _ _ quiet (subst (λ (v : LevelCopying). IsMade (g.H.Host.world c.args.host.now) v.file.name) (sym c.self.view_is) made) in
    let begun = subst (λ (rs : List Numbered). HasTaken (g.H.Host.world c.begin.new.host) c.self.inside.file rs) (sym (below_none c.args.self.now frozen of))
    (c.in_ok-begin.ensures.begun tells empty (ap (λ (v : LevelCopying). v.file.run.count) c.self.view_is ∙ fresh.no_run) (ap (λ (v : LevelCopying). v.file.written) c.self.view_is ∙ fresh.no_page)) in
    let into = with_items_is c.self.inside.page c.read_main.new.into (omega (arith, c.read_main.auto.into, ap length c.deref_mut.ensures.value, c.self.inside.page.ok.0)) in
    let page = c.deref.ensures.value ∙ into ∙ c.in_ok-read_main.ensures.page t tells open_ stalled (omega (arith, of.least)) in
    let headed = ap (λ (v : LevelCopying). v.file.head) c.self.view_is in
    let low : 0 < length frozen = omega (arith, of.least) in
    let may = may_next c.args.self.now frozen of c.self.inside.file.head headed 0 0 refl c.deref.result.now low page (may_first frozen c.args.self.now.file.head.previous_scn) in
    let begin = c.in_ok-begin.ensures.left tells (subst (λ (v : LevelCopying). IsHeaded (head_of v.file.head)) (sym c.self.view_is) of.formed) empty in
    renamed _ _ _ _ IsUnfinished name (quiet_then c.self.inside.file.name IsUnfinished _ _ _ quiet (remade_twice _ _ _ c.self.inside.file.name IsUnfinished (g.met.H.Host.reads_left _ tells _) begin (c.take.ensures.left tells _ begun may)))

pub returns-clause-begun : goal.returns-clause-begun
returns-clause-begun g c t tells open_ stalled of fresh made =
    let frozen = t.base.frozen in
    let quiet = c.in_ok-read_main.ensures.quiet in
    let empty = made_quiet _ _ _ quiet (subst (λ (v : LevelCopying). IsMade (g.H.Host.world c.args.host.now) v.file.name) (sym c.self.view_is) made) in
    let begun = subst (λ (rs : List Numbered). HasTaken (g.H.Host.world c.begin.new.host) c.self.inside.file rs) (sym (below_none c.args.self.now frozen of))
    (c.in_ok-begin.ensures.begun tells empty (ap (λ (v : LevelCopying). v.file.run.count) c.self.view_is ∙ fresh.no_run) (ap (λ (v : LevelCopying). v.file.written) c.self.view_is ∙ fresh.no_page)) in
    let into = with_items_is c.self.inside.page c.read_main.new.into (omega (arith, c.read_main.auto.into, ap length c.deref_mut.ensures.value, c.self.inside.page.ok.0)) in
    let page = c.deref.ensures.value ∙ into ∙ c.in_ok-read_main.ensures.page t tells open_ stalled (omega (arith, of.least)) in
    let headed = ap (λ (v : LevelCopying). v.file.head) c.self.view_is in
    let low : 0 < length frozen = omega (arith, of.least) in
    let may = may_next c.args.self.now frozen of c.self.inside.file.head headed 0 0 refl c.deref.result.now low page (may_first frozen c.args.self.now.file.head.previous_scn) in
    subst (λ (rs : List Numbered). OnOk c.take.result (HasTaken (g.H.Host.world c.take.new.host) c.take.new.self rs))
    (taken_next c.args.self.now frozen of c.self.inside.file.head headed 0 0 refl c.deref.result.now low page (may_first frozen c.args.self.now.file.head.previous_scn)) (c.take.ensures.taken tells _ begun may)

pub returns-in_err-read_main-clause-touches : goal.returns-in_err-read_main-clause-touches
returns-in_err-read_main-clause-touches g c tells = touches_quiet _ _ _ c.in_err-read_main.ensures.quiet

pub returns-in_err-begin-clause-touches : goal.returns-in_err-begin-clause-touches
returns-in_err-begin-clause-touches g c tells = touches_named _ _ _ _ (ap (λ (v : LevelCopying). v.file.name) c.self.view_is) (touches_then c.self.inside.file.name _ _ _ (touches_quiet _ _ _ c.in_ok-read_main.ensures.quiet) (c.in_err-begin.ensures.touches tells))

pub returns-clause-touches : goal.returns-clause-touches
returns-clause-touches g c tells =
    touches_named _ _ _ _ (ap (λ (v : LevelCopying). v.file.name) c.self.view_is)
    (touches_then c.self.inside.file.name _ _ _ (touches_quiet _ _ _ c.in_ok-read_main.ensures.quiet) (touches_then _ _ _ _ (c.in_ok-begin.ensures.touches tells) (c.take.ensures.touches tells)))
