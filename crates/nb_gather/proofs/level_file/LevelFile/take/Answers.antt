use Rattle.std.proofs.Common.{◌≡◌, ◌<◌, ◌≤◌, List, ◌++◌, sym, ap, subst, ◌∙◌, arith, OnOk}
use Rattle.nb_gather.proofs.Common.{append-nil, stamp_of, Numbered, Only, remade_begun, LevelWriting, HasTaken, MayHave, IsUnfinished, stamp_in}
use Rattle.nb_page.specs.declared.page.PageHead.{PageHead}
use Rattle.nb_gather.proofs.CloseLaws.{taken_one, taken_none}
use Rattle.nb_gather.proofs.TouchLaws.{touches_none}
use Rattle.nb_gather.proofs.level_file.LevelFile.take.Goals as goal

pub returns-then-read_head-self-clause-left : goal.returns-then-read_head-self-clause-left
returns-then-read_head-self-clause-left g c tells rs has may = remade_begun _ (Only c.args.self.now.name) c.args.self.now.name IsUnfinished (g.met.H.Host.timely _)

pub returns-then-read_head-self-clause-taken : goal.returns-then-read_head-self-clause-taken
returns-then-read_head-self-clause-taken g c tells rs has may =
    let stamp : c.read_head.result.scn ≡ stamp_of c.args.page.now = ap (λ (h : PageHead). h.scn) c.read_head.ensures ∙ stamp_in c.args.page.now in
    let low : stamp_of c.args.page.now ≤ c.args.self.now.head.previous_scn = omega (arith, c.if-read_head-self.true, stamp, ap (λ (v : LevelWriting). v.head.previous_scn) c.self.view_is) in
    subst (λ (xs : List Numbered). HasTaken (g.H.Host.world c.args.host.now) c.args.self.now xs) (sym (append-nil rs) ∙ ap (λ (xs : List Numbered). rs ++ xs) (sym (taken_none c.args.number c.args.self.now.head.previous_scn c.args.page.now low))) has

pub returns-clause-left : goal.returns-clause-left
returns-clause-left g c tells rs has may =
    let stamp : c.read_head.result.scn ≡ stamp_of c.args.page.now = ap (λ (h : PageHead). h.scn) c.read_head.ensures ∙ stamp_in c.args.page.now in
    let above : c.args.self.now.head.previous_scn < stamp_of c.args.page.now = omega (arith, c.if-read_head-self.false, stamp, ap (λ (v : LevelWriting). v.head.previous_scn) c.self.view_is) in
    let one = ap (λ (xs : List Numbered). rs ++ xs) (taken_one c.args.number c.args.self.now.head.previous_scn c.args.page.now above) in
    c.gather.ensures.left tells rs has (subst (MayHave c.args.self.now.head) one may)

pub returns-clause-taken : goal.returns-clause-taken
returns-clause-taken g c tells rs has may =
    let stamp : c.read_head.result.scn ≡ stamp_of c.args.page.now = ap (λ (h : PageHead). h.scn) c.read_head.ensures ∙ stamp_in c.args.page.now in
    let above : c.args.self.now.head.previous_scn < stamp_of c.args.page.now = omega (arith, c.if-read_head-self.false, stamp, ap (λ (v : LevelWriting). v.head.previous_scn) c.self.view_is) in
    let one = ap (λ (xs : List Numbered). rs ++ xs) (taken_one c.args.number c.args.self.now.head.previous_scn c.args.page.now above) in
    subst (λ (xs : List Numbered). OnOk c.gather.result (HasTaken (g.H.Host.world c.gather.new.host) c.gather.new.self xs)) (sym one) (c.gather.ensures.taken tells rs has (subst (MayHave c.args.self.now.head) one may))

pub returns-then-read_head-self-clause-touches : goal.returns-then-read_head-self-clause-touches
returns-then-read_head-self-clause-touches g c tells = touches_none _ _ (g.met.H.Host.timely _)
