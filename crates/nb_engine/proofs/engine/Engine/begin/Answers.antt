use Rattle.std.proofs.Common.{inl, ◌≡◌, replicate, refl, sym, subst, ◌∙◌, true, None}
use Rattle.nb_engine.proofs.Common.{quiet_begun, is_read_only, read_only, next_guid, begin_turn, Held, IsOpen, DoesBegin, Starts}
use Rattle.nb_engine.proofs.FreeLaws.{closed_cause, open_cause}
use Rattle.nb_engine.proofs.BackupLaws.{does_begin, refused_begin, not_started, started}
use Rattle.nb_engine.proofs.engine.Engine.begin.Goals as goal

pub returns-then-is_read_only-clause-turn : goal.returns-then-is_read_only-clause-turn
returns-then-is_read_only-clause-turn g c s t tells same is given =
    let first = g.H.Host.world c.args.host.now in
    let here = subst (λ (h : Held). IsOpen first h t) (sym c.self.view_is) is in
    let closed : is_read_only t.base.image ≡ true = sym here.agrees.read_only ∙ sym c.is_read_only.ensures ∙ c.if-is_read_only.true in
    refused_begin _ first first c.args.self.now t s same (quiet_begun first (g.met.H.Host.timely c.args.host.now)) is (closed_cause t.base.image closed)

pub returns-clause-turn : goal.returns-clause-turn
returns-clause-turn g c s t tells same is given =
    let old = g.H.Host.world c.args.host.now in
    let new = g.H.Host.world c.begin.new.host in
    let here = subst (λ (h : Held). IsOpen old h t) (sym c.self.view_is) is in
    let free : read_only t.base.image ≡ None = open_cause t.base.image (sym here.agrees.read_only ∙ sym c.is_read_only.ensures ∙ c.if-is_read_only.false) in
    subst (λ (h : Held). DoesBegin c.begin.result old new h c.begin.new.self t (next_guid s.given) (begin_turn s)) c.self.view_is
    (does_begin old new c.self.inside.store c.begin.new.self t s here c.begin.result same free (c.begin.ensures.begins t (next_guid s.given) None tells here given))

pub returns-then-is_read_only-clause-asks : goal.returns-then-is_read_only-clause-asks
returns-then-is_read_only-clause-asks g c tells = (replicate 16 0, refl, inl refl)

pub returns-then-is_read_only-clause-starts : goal.returns-then-is_read_only-clause-starts
returns-then-is_read_only-clause-starts g c t guid ask tells is given =
    let w = g.H.Host.world c.args.host.now in
    let here = subst (λ (h : Held). IsOpen w h t) (sym c.self.view_is) is in
    let closed : is_read_only t.base.image ≡ true = sym here.agrees.read_only ∙ sym c.is_read_only.ensures ∙ c.if-is_read_only.true in
    not_started t guid ask w c.args.self.now (quiet_begun w (g.met.H.Host.timely c.args.host.now)) is (closed_cause t.base.image closed)

pub returns-clause-starts : goal.returns-clause-starts
returns-clause-starts g c t guid ask tells is given =
    let old = g.H.Host.world c.args.host.now in
    let new = g.H.Host.world c.begin.new.host in
    let here = subst (λ (h : Held). IsOpen old h t) (sym c.self.view_is) is in
    let free : read_only t.base.image ≡ None = open_cause t.base.image (sym here.agrees.read_only ∙ sym c.is_read_only.ensures ∙ c.if-is_read_only.false) in
    subst (λ (h : Held). Starts c.begin.result old new h c.begin.new.self t guid ask) c.self.view_is
    (started t guid ask c.begin.result old new c.self.inside.store c.begin.new.self free (c.begin.ensures.begins t guid ask tells here given))
