use Rattle.std.proofs.Common.{sym, ap, subst, ◌∙◌, ◌≢◌, OnOk}
use Rattle.nb_gather.proofs.Common.{eqb-true, runs_of, eq_yes, LevelWriting, HasTaken, MayHave, Reads, level_front, IsUnfinished, not_both}
use Rattle.nb_gather.proofs.QuietLaws.{renamed}
use Rattle.nb_gather.proofs.CloseLaws.{all_there, still_unfinished, last_left, last_reads, last_read}
use Rattle.nb_gather.proofs.TouchLaws.{touches_named, touches_none, touches_two}
use Rattle.nb_gather.proofs.level_file.LevelFile.finish.Goals as goal

pub returns-then-is_empty-clause-finished : goal.returns-then-is_empty-clause-finished
returns-then-is_empty-clause-finished g c tells rs has may =
    let none = eqb-true c.self.inside.run.count 0 (sym c.is_empty.ensures ∙ c.if-is_empty.true) in
    all_there _ c.args.self.now rs has may (sym (ap (λ (v : LevelWriting). v.run.count) c.self.view_is) ∙ none)

pub returns-clause-left : goal.returns-clause-left
returns-clause-left g c tells rs has may =
    let before = subst (λ (v : LevelWriting). HasTaken (g.H.Host.world c.args.host.now) v rs) (sym c.self.view_is) has in
    let fits = subst (λ (v : LevelWriting). MayHave v.head rs) (sym c.self.view_is) may in
    let some : c.self.inside.run.count ≢ 0 = λ e. absurd (not_both _ (eq_yes c.self.inside.run.count 0 e) (sym c.is_empty.ensures ∙ c.if-is_empty.false)) in
    renamed _ _ _ _ IsUnfinished (ap (λ (v : LevelWriting). v.name) c.self.view_is) (last_left _ _ rs before fits some _ _ (g.met.H.Host.timely _) (c.append.ensures.adds tells) c.append.ensures.log.said)

pub returns-clause-finished : goal.returns-clause-finished
returns-clause-finished g c tells rs has may =
    let before = subst (λ (v : LevelWriting). HasTaken (g.H.Host.world c.args.host.now) v rs) (sym c.self.view_is) has in
    let fits = subst (λ (v : LevelWriting). MayHave v.head rs) (sym c.self.view_is) may in
    let some : c.self.inside.run.count ≢ 0 = λ e. absurd (not_both _ (eq_yes c.self.inside.run.count 0 e) (sym c.is_empty.ensures ∙ c.if-is_empty.false)) in
    subst (λ (v : LevelWriting). OnOk c.append.result (Reads (g.H.Host.world c.append.new.host) v.name (level_front v.head (runs_of rs)))) c.self.view_is (last_read _ _ rs before fits some _ _ (c.append.ensures.adds tells))

pub returns-then-is_empty-clause-touches : goal.returns-then-is_empty-clause-touches
returns-then-is_empty-clause-touches g c tells = touches_none _ _ (g.met.H.Host.timely _)

pub returns-clause-touches : goal.returns-clause-touches
returns-clause-touches g c tells = let append = c.append.ensures in touches_named _ _ _ _ (ap (λ (v : LevelWriting). v.name) c.self.view_is) (touches_two _ _ _ _ _ _ (g.met.H.Host.timely _) (append.adds tells) append.log.said)

pub returns-then-is_empty-clause-reads : goal.returns-then-is_empty-clause-reads
returns-then-is_empty-clause-reads g c tells rs has may = still_unfinished _ c.args.self.now rs has may

pub returns-clause-reads : goal.returns-clause-reads
returns-clause-reads g c tells rs has may =
    let before = subst (λ (v : LevelWriting). HasTaken (g.H.Host.world c.args.host.now) v rs) (sym c.self.view_is) has in
    let fits = subst (λ (v : LevelWriting). MayHave v.head rs) (sym c.self.view_is) may in
    let some : c.self.inside.run.count ≢ 0 = λ e. absurd (not_both _ (eq_yes c.self.inside.run.count 0 e) (sym c.is_empty.ensures ∙ c.if-is_empty.false)) in
    subst (λ (v : LevelWriting). IsUnfinished ((g.H.Host.world c.append.new.host).files v.name)) c.self.view_is (last_reads _ _ rs before fits some _ _ (c.append.ensures.adds tells))
