use Rattle.std.proofs.Common.{List, sym, ap, subst, ◌∙◌, arith, Ok, Result}
use Rattle.nb_copy.proofs.Common.{Fault, Device, close_backup, next_time, Stroke, Held, Progress, passed_on, IsFileCopying, FileTurn, FileCounts, Backed, ask_by, asked_scn, BackupTurn}
use Rattle.nb_copy.proofs.ClosingLaws.{asked_before, mid_open, turn_failed, turn_more, close_failed, close_finished, its_end, its_goes, its_reads}
use Rattle.nb_copy.proofs.copier.Copier.turn.Goals as goal

pub returns-in_err-turn-clause-turn : goal.returns-in_err-turn-clause-turn
returns-in_err-turn-clause-turn g c s t tells same is stalled entry backing below apart given =
    let copier : Backed = c.args.self.now in
    let filed = ap (λ (v : Backed). v.file) c.self.view_is in
    let reads = g.met.H.Host.reads_left c.args.host.now tells copier.backing.name in
    let head = c.self.inside.head in
    let later : Backed = record {
      backing = record { name = c.self.inside.name; ask = ask_by head; scn = head.scn; guid = head.guid; page = c.self.inside.room.page; slot = c.self.inside.room.slot };
      page_size = head.page_size;
      file = c.turn.new.self;
    } in
    let old = g.H.Host.world c.args.host.now in
    let mid = g.H.Host.world c.turn.new.host in
    let xs : List Stroke = (close_backup s copier.backing).strokes in
    subst (λ (r : Result Progress Fault). BackupTurn r old mid c.args.engine.now c.turn.new.engine copier later t (next_time s.given) xs) (sym (passed_on c.from_residual.result Device c.from_residual.ensures))
    (turn_failed _ _ c.args.engine.now c.turn.new.engine copier t is stalled apart reads c.turn.ensures.engine backing c.self.inside.file filed (c.turn.ensures.left t tells is stalled) c.turn.ensures.gave later (next_time s.given) xs)

pub returns-in-More-clause-turn : goal.returns-in-More-clause-turn
returns-in-More-clause-turn g c s t tells same is stalled entry backing below apart given =
    let copier : Backed = c.args.self.now in
    let filed = ap (λ (v : Backed). v.file) c.self.view_is in
    let reads = g.met.H.Host.reads_left c.args.host.now tells copier.backing.name in
    turn_more _ _ c.args.engine.now c.turn.new.engine copier t is stalled apart reads c.turn.ensures.engine backing c.self.inside.file filed (c.turn.ensures.left t tells is stalled) c.turn.ensures.gave _ (next_time s.given) (close_backup s copier.backing).strokes (ap (λ (v : Backed). v.backing) c.self.view_is) (c.in_ok-turn.ensures.same t.base.frozen)
    (λ goes. subst (λ (p : Progress). FileTurn (Ok p) (g.H.Host.world c.turn.new.host) c.self.inside.file c.turn.new.self t.base.frozen) c.in-More.is (c.in_ok-turn.ensures.answer t tells is stalled goes))

pub turn-requires : goal.turn-requires
turn-requires g c = record { size = c.self.invariant.2 ∙ ap (λ (v : Backed). v.page_size) c.self.view_is ∙ c.requires.size }

pub close-requires : goal.close-requires
close-requires g c = record { size = ap (λ (v : Backed). v.page_size) c.self.view_is ∙ c.requires.size ∙ sym (ap (λ (h : Held). h.files.page_size) c.turn.ensures.engine) }

pub returns-in_err-close-in-Finished-clause-turn : goal.returns-in_err-close-in-Finished-clause-turn
returns-in_err-close-in-Finished-clause-turn g c s t tells same is stalled entry backing below apart given =
    let copier : Backed = c.args.self.now in
    let filed = ap (λ (v : Backed). v.file) c.self.view_is in
    let reads = g.met.H.Host.reads_left c.args.host.now tells copier.backing.name in
    let head = c.self.inside.head in
    let later : Backed = record {
      backing = record { name = c.self.inside.name; ask = ask_by head; scn = head.scn; guid = head.guid; page = c.self.inside.room.page; slot = c.self.inside.room.slot };
      page_size = head.page_size;
      file = c.turn.new.self;
    } in
    let backed = ap (λ (v : Backed). v.backing) c.self.view_is in
    let counts = subst (λ (p : Progress). FileCounts (Ok p) c.self.inside.file c.turn.new.self) c.in-Finished.is c.in_ok-turn.ensures.counts in
    let finished = λ (goes : IsFileCopying (g.H.Host.world c.args.host.now) c.self.inside.file t.base.frozen).
    subst (λ (p : Progress). FileTurn (Ok p) (g.H.Host.world c.turn.new.host) c.self.inside.file c.turn.new.self t.base.frozen) c.in-Finished.is (c.in_ok-turn.ensures.answer t tells is stalled goes) in
    let fault = c.in_err-close-in-Finished.field-0.0 in
    subst (λ (r : Result Progress Fault). BackupTurn r (g.H.Host.world c.args.host.now) (g.H.Host.world c.close.new.host) c.args.engine.now c.close.new.engine copier later t (next_time s.given) (close_backup s copier.backing).strokes)
    (sym (passed_on c.from_residual-in_err-close-in-Finished.result fault c.from_residual-in_err-close-in-Finished.ensures))
    (close_failed _ _ c.args.engine.now c.turn.new.engine copier t is stalled apart reads c.turn.ensures.engine backing c.self.inside.file filed (c.turn.ensures.left t tells is stalled) c.turn.ensures.gave s _ c.close.new.engine later finished counts.0 _ backed entry below given fault
    (λ here its low asked. c.in_err-close-in-Finished.ensures.closes s t tells same here its low asked))

pub returns-in_ok-close-in-Finished-clause-turn : goal.returns-in_ok-close-in-Finished-clause-turn
returns-in_ok-close-in-Finished-clause-turn g c s t tells same is stalled entry backing below apart given =
    let copier : Backed = c.args.self.now in
    let filed = ap (λ (v : Backed). v.file) c.self.view_is in
    let reads = g.met.H.Host.reads_left c.args.host.now tells copier.backing.name in
    let backed = ap (λ (v : Backed). v.backing) c.self.view_is in
    let counts = subst (λ (p : Progress). FileCounts (Ok p) c.self.inside.file c.turn.new.self) c.in-Finished.is c.in_ok-turn.ensures.counts in
    let finished = λ (goes : IsFileCopying (g.H.Host.world c.args.host.now) c.self.inside.file t.base.frozen).
    subst (λ (p : Progress). FileTurn (Ok p) (g.H.Host.world c.turn.new.host) c.self.inside.file c.turn.new.self t.base.frozen) c.in-Finished.is (c.in_ok-turn.ensures.answer t tells is stalled goes) in
    close_finished _ _ c.args.engine.now c.turn.new.engine copier t is stalled apart reads c.turn.ensures.engine backing c.self.inside.file filed (c.turn.ensures.left t tells is stalled) c.turn.ensures.gave s _ c.close.new.engine _ finished counts.0 _ backed entry below given
    (λ here its low asked. c.in_ok-close-in-Finished.ensures.closes s t tells same here its low asked) counts.2

pub returns-in_err-close-in-Finished-clause-asks : goal.returns-in_err-close-in-Finished-clause-asks
returns-in_err-close-in-Finished-clause-asks g c t tells is stalled backing apart =
    let copier : Backed = c.args.self.now in
    let filed = ap (λ (v : Backed). v.file) c.self.view_is in
    let reads = g.met.H.Host.reads_left c.args.host.now tells copier.backing.name in
    let asks = c.close.ensures.asks t tells (mid_open _ _ c.args.engine.now c.turn.new.engine copier t is stalled apart reads c.turn.ensures.engine backing c.self.inside.file filed (c.turn.ensures.left t tells is stalled) c.turn.ensures.gave) in
    (asks.0, asked_before (g.H.Host.world c.args.host.now) (g.H.Host.world c.turn.new.host) (g.H.Host.world c.close.new.host) asks.0 c.turn.ensures.gave asks.1)

pub returns-in_ok-close-in-Finished-clause-asks : goal.returns-in_ok-close-in-Finished-clause-asks
returns-in_ok-close-in-Finished-clause-asks g c t tells is stalled backing apart =
    let copier : Backed = c.args.self.now in
    let filed = ap (λ (v : Backed). v.file) c.self.view_is in
    let reads = g.met.H.Host.reads_left c.args.host.now tells copier.backing.name in
    let asks = c.close.ensures.asks t tells (mid_open _ _ c.args.engine.now c.turn.new.engine copier t is stalled apart reads c.turn.ensures.engine backing c.self.inside.file filed (c.turn.ensures.left t tells is stalled) c.turn.ensures.gave) in
    (asks.0, asked_before (g.H.Host.world c.args.host.now) (g.H.Host.world c.turn.new.host) (g.H.Host.world c.close.new.host) asks.0 c.turn.ensures.gave asks.1)

pub returns-in_err-turn-clause-reads : goal.returns-in_err-turn-clause-reads
returns-in_err-turn-clause-reads g c t tells is stalled backing left =
    let copier : Backed = c.args.self.now in
    let filed = ap (λ (v : Backed). v.file) c.self.view_is in
    let asked = its_reads copier c.self.inside.file t.base.frozen filed (c.self.invariant.4 ∙ ap (λ (v : Backed). asked_scn v.backing.ask) c.self.view_is) in
    omega (arith, asked, c.turn.ensures.reads t tells is stalled (its_goes _ copier c.self.inside.file t.base.frozen filed backing))

pub returns-in-More-clause-reads : goal.returns-in-More-clause-reads
returns-in-More-clause-reads g c t tells is stalled backing left =
    let copier : Backed = c.args.self.now in
    let filed = ap (λ (v : Backed). v.file) c.self.view_is in
    let asked = its_reads copier c.self.inside.file t.base.frozen filed (c.self.invariant.4 ∙ ap (λ (v : Backed). asked_scn v.backing.ask) c.self.view_is) in
    omega (arith, asked, c.turn.ensures.reads t tells is stalled (its_goes _ copier c.self.inside.file t.base.frozen filed backing))

pub returns-in_err-close-in-Finished-clause-reads : goal.returns-in_err-close-in-Finished-clause-reads
returns-in_err-close-in-Finished-clause-reads g c t tells is stalled backing left =
    let counts = subst (λ (p : Progress). FileCounts (Ok p) c.self.inside.file c.turn.new.self) c.in-Finished.is c.in_ok-turn.ensures.counts in
    absurd (omega (arith, left, its_end c.args.self.now c.self.inside.file (ap (λ (v : Backed). v.file) c.self.view_is) counts.0))

pub returns-in_ok-close-in-Finished-clause-reads : goal.returns-in_ok-close-in-Finished-clause-reads
returns-in_ok-close-in-Finished-clause-reads g c t tells is stalled backing left =
    let counts = subst (λ (p : Progress). FileCounts (Ok p) c.self.inside.file c.turn.new.self) c.in-Finished.is c.in_ok-turn.ensures.counts in
    absurd (omega (arith, left, its_end c.args.self.now c.self.inside.file (ap (λ (v : Backed). v.file) c.self.view_is) counts.0))
