use Rattle.std.proofs.Common.{[], ◌∷◌, sym, ap, ◌∙◌}
use Rattle.nb_gather.proofs.Common.{Only, remade_begun, Numbered, LevelWriting, IsUnfinished}
use Rattle.nb_gather.proofs.CloseLaws.{still_unfinished}
use Rattle.nb_gather.proofs.FitLaws.{may_front}
use Rattle.nb_gather.proofs.RunLaws.{one_run}
use Rattle.nb_gather.proofs.WaitingLaws.{holds_one}
use Rattle.nb_gather.proofs.GatherLaws.{run_still, run_full, run_other, appends_left, appends_reads, appends_taken}
use Rattle.nb_gather.proofs.TouchLaws.{touches_named, touches_none, touches_two}
use Rattle.nb_gather.proofs.level_file.LevelFile.gather.Goals as goal

pub returns-in_err-append-clause-left : goal.returns-in_err-append-clause-left
returns-in_err-append-clause-left g c tells rs has may =
    let add = c.add.ensures in
    let full = run_full _ _ c.self.view_is _ rs (c.args.number, c.args.page.now) has may c.add.new.self add.first add.more add.alone add.bytes add.count (sym c.takes.ensures ∙ c.if-takes.true) (sym c.is_full.ensures ∙ c.if-is_full.true) in
    appends_left _ _ c.self.view_is _ rs (c.args.number, c.args.page.now) has may c.add.new.self [] full _ _ (g.met.H.Host.timely _) (c.append.ensures.adds tells) c.append.ensures.log.said

pub returns-in_ok-append-clause-left : goal.returns-in_ok-append-clause-left
returns-in_ok-append-clause-left g c tells rs has may =
    let add = c.add.ensures in
    let full = run_full _ _ c.self.view_is _ rs (c.args.number, c.args.page.now) has may c.add.new.self add.first add.more add.alone add.bytes add.count (sym c.takes.ensures ∙ c.if-takes.true) (sym c.is_full.ensures ∙ c.if-is_full.true) in
    appends_left _ _ c.self.view_is _ rs (c.args.number, c.args.page.now) has may c.add.new.self [] full _ _ (g.met.H.Host.timely _) (c.append.ensures.adds tells) c.append.ensures.log.said

pub returns-in_ok-append-clause-taken : goal.returns-in_ok-append-clause-taken
returns-in_ok-append-clause-taken g c tells rs has may =
    let add = c.add.ensures in
    let full = run_full _ _ c.self.view_is _ rs (c.args.number, c.args.page.now) has may c.add.new.self add.first add.more add.alone add.bytes add.count (sym c.takes.ensures ∙ c.if-takes.true) (sym c.is_full.ensures ∙ c.if-is_full.true) in
    appends_taken _ _ c.self.view_is _ rs (c.args.number, c.args.page.now) has may c.add.new.self [] full _ _ c.append.new.self c.in_ok-append.ensures.none (c.in_ok-append.ensures.adds tells)

pub returns-else-is_full-clause-left : goal.returns-else-is_full-clause-left
returns-else-is_full-clause-left g c tells rs has may =
    remade_begun _ (Only c.args.self.now.name) c.args.self.now.name IsUnfinished (g.met.H.Host.timely _)

pub returns-else-is_full-clause-taken : goal.returns-else-is_full-clause-taken
returns-else-is_full-clause-taken g c tells rs has may =
    let add = c.add.ensures in
    run_still _ _ c.self.view_is _ rs (c.args.number, c.args.page.now) has may c.add.new.self add.first add.more add.alone add.bytes add.count (sym c.takes.ensures ∙ c.if-takes.true) (sym c.is_full.ensures ∙ c.if-is_full.false)

pub returns-in_err-append-2-clause-left : goal.returns-in_err-append-2-clause-left
returns-in_err-append-2-clause-left g c tells rs has may =
    let page : Numbered = (c.args.number, c.args.page.now) in
    appends_left _ _ c.self.view_is _ rs page has may c.self.inside.run (one_run page ∷ []) (run_other _ _ c.self.view_is _ rs page has may (sym c.takes.ensures ∙ c.if-takes.false)) _ _ (g.met.H.Host.timely _) (c.append-2.ensures.adds tells) c.append-2.ensures.log.said

pub returns-clause-left : goal.returns-clause-left
returns-clause-left g c tells rs has may =
    let page : Numbered = (c.args.number, c.args.page.now) in
    appends_left _ _ c.self.view_is _ rs page has may c.self.inside.run (one_run page ∷ []) (run_other _ _ c.self.view_is _ rs page has may (sym c.takes.ensures ∙ c.if-takes.false)) _ _ (g.met.H.Host.timely _) (c.append-2.ensures.adds tells) c.append-2.ensures.log.said

pub returns-clause-taken : goal.returns-clause-taken
returns-clause-taken g c tells rs has may =
    let page : Numbered = (c.args.number, c.args.page.now) in
    let other = run_other _ _ c.self.view_is _ rs page has may (sym c.takes.ensures ∙ c.if-takes.false) in
    let add = c.add-2.ensures in
    let last = holds_one c.append-2.new.self c.add-2.new.self page add.first add.more add.alone add.bytes add.count c.in_ok-append-2.ensures.none in
    appends_taken _ _ c.self.view_is _ rs page has may c.self.inside.run (one_run page ∷ []) other _ _ c.add-2.new.self last (c.in_ok-append-2.ensures.adds tells)

pub returns-in_err-append-clause-touches : goal.returns-in_err-append-clause-touches
returns-in_err-append-clause-touches g c tells = let append = c.append.ensures in touches_named _ _ _ _ (ap (λ (v : LevelWriting). v.name) c.self.view_is) (touches_two _ _ _ _ _ _ (g.met.H.Host.timely _) (append.adds tells) append.log.said)

pub returns-in_ok-append-clause-touches : goal.returns-in_ok-append-clause-touches
returns-in_ok-append-clause-touches g c tells = let append = c.append.ensures in touches_named _ _ _ _ (ap (λ (v : LevelWriting). v.name) c.self.view_is) (touches_two _ _ _ _ _ _ (g.met.H.Host.timely _) (append.adds tells) append.log.said)

pub returns-else-is_full-clause-touches : goal.returns-else-is_full-clause-touches
returns-else-is_full-clause-touches g c tells = touches_none _ _ (g.met.H.Host.timely _)

pub returns-in_err-append-2-clause-touches : goal.returns-in_err-append-2-clause-touches
returns-in_err-append-2-clause-touches g c tells = let append = c.append-2.ensures in touches_named _ _ _ _ (ap (λ (v : LevelWriting). v.name) c.self.view_is) (touches_two _ _ _ _ _ _ (g.met.H.Host.timely _) (append.adds tells) append.log.said)

pub returns-clause-touches : goal.returns-clause-touches
returns-clause-touches g c tells = let append = c.append-2.ensures in touches_named _ _ _ _ (ap (λ (v : LevelWriting). v.name) c.self.view_is) (touches_two _ _ _ _ _ _ (g.met.H.Host.timely _) (append.adds tells) append.log.said)

pub returns-in_err-append-clause-reads : goal.returns-in_err-append-clause-reads
returns-in_err-append-clause-reads g c tells rs has may =
    let add = c.add.ensures in
    let full = run_full _ _ c.self.view_is _ rs (c.args.number, c.args.page.now) has may c.add.new.self add.first add.more add.alone add.bytes add.count (sym c.takes.ensures ∙ c.if-takes.true) (sym c.is_full.ensures ∙ c.if-is_full.true) in
    appends_reads _ _ c.self.view_is _ rs (c.args.number, c.args.page.now) has may c.add.new.self [] full _ _ (c.append.ensures.adds tells)

pub returns-in_ok-append-clause-reads : goal.returns-in_ok-append-clause-reads
returns-in_ok-append-clause-reads g c tells rs has may =
    let add = c.add.ensures in
    let full = run_full _ _ c.self.view_is _ rs (c.args.number, c.args.page.now) has may c.add.new.self add.first add.more add.alone add.bytes add.count (sym c.takes.ensures ∙ c.if-takes.true) (sym c.is_full.ensures ∙ c.if-is_full.true) in
    appends_reads _ _ c.self.view_is _ rs (c.args.number, c.args.page.now) has may c.add.new.self [] full _ _ (c.append.ensures.adds tells)

pub returns-else-is_full-clause-reads : goal.returns-else-is_full-clause-reads
returns-else-is_full-clause-reads g c tells rs has may =
    still_unfinished _ c.args.self.now rs has (may_front c.args.self.now.head rs ((c.args.number, c.args.page.now) ∷ []) may)

pub returns-in_err-append-2-clause-reads : goal.returns-in_err-append-2-clause-reads
returns-in_err-append-2-clause-reads g c tells rs has may =
    let page : Numbered = (c.args.number, c.args.page.now) in
    appends_reads _ _ c.self.view_is _ rs page has may c.self.inside.run (one_run page ∷ []) (run_other _ _ c.self.view_is _ rs page has may (sym c.takes.ensures ∙ c.if-takes.false)) _ _ (c.append-2.ensures.adds tells)

pub returns-clause-reads : goal.returns-clause-reads
returns-clause-reads g c tells rs has may =
    let page : Numbered = (c.args.number, c.args.page.now) in
    appends_reads _ _ c.self.view_is _ rs page has may c.self.inside.run (one_run page ∷ []) (run_other _ _ c.self.view_is _ rs page has may (sym c.takes.ensures ∙ c.if-takes.false)) _ _ (c.append-2.ensures.adds tells)
