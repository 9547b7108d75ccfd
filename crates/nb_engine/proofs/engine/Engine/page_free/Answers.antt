use Rattle.std.proofs.Common.{◌≡◌, refl, sym, subst, ◌∙◌, ap, true, None}
use Rattle.nb_engine.proofs.Common.{Done, is_read_only, read_only, Seen, free_turn, Held, IsOpen, but_pages, done, seeing, tested_does, refused_does, tries_does, tries_stops, if_ok, tries_after, not_passed}
use Rattle.nb_engine.proofs.WriteLaws.{no_header}
use Rattle.nb_engine.proofs.FreeLaws.{free_untaken, free_closed, free_is, closed_cause, open_cause}
use Rattle.nb_engine.proofs.engine.Engine.page_free.Goals as goal

pub returns-in_err-read_raw-clause-turn : goal.returns-in_err-read_raw-clause-turn
returns-in_err-read_raw-clause-turn g c s t tells same is =
    let here = subst (λ (h : Held). IsOpen (g.H.Host.world c.args.host.now) h t) (sym c.self.view_is) is in
    let raw = c.in_err-read_raw.ensures in
    tested_does (Unit {0}) (Unit {0}) done _ _ _ _ _ _ t s (λ (x : Seen). free_turn x c.args.number) _ c.from_residual.ensures same (raw.looks.same ∙ ap but_pages c.self.view_is) raw.looks.quiet is (raw.looks.opened t tells here)
    (raw.reads t tells here).test (free_untaken (seeing s t.base) c.args.number)

pub returns-then-number-eq0-clause-turn : goal.returns-then-number-eq0-clause-turn
returns-then-number-eq0-clause-turn g c s t tells same is =
    let here = subst (λ (h : Held). IsOpen (g.H.Host.world c.args.host.now) h t) (sym c.self.view_is) is in
    absurd (no_header t.base.image c.args.number is.files.agrees.header (c.in_ok-read_raw.ensures.reads t tells here).test c.if-number-eq0.true)

pub returns-then-is_read_only-clause-turn : goal.returns-then-is_read_only-clause-turn
returns-then-is_read_only-clause-turn g c s t tells same is =
    let here = subst (λ (h : Held). IsOpen (g.H.Host.world c.args.host.now) h t) (sym c.self.view_is) is in
    let raw = c.in_ok-read_raw.ensures in
    let still = raw.looks.opened t tells here in
    let closed : is_read_only t.base.image ≡ true = sym still.agrees.read_only ∙ sym c.is_read_only.ensures ∙ c.if-is_read_only.true in
    refused_does done _ _ _ _ _ t s (λ (x : Seen). free_turn x c.args.number) same (raw.looks.same ∙ ap but_pages c.self.view_is) raw.looks.quiet is (raw.looks.opened t tells here)
    (free_closed (seeing s t.base) c.args.number (raw.reads t tells here).test _ (closed_cause t.base.image closed))

pub returns-clause-turn : goal.returns-clause-turn
returns-clause-turn g c s t tells same is =
    let image = t.base.image in
    let old = g.H.Host.world c.args.host.now in
    let here = subst (λ (h : Held). IsOpen old h t) (sym c.self.view_is) is in
    let raw = c.in_ok-read_raw.ensures in
    let still = raw.looks.opened t tells here in
    let free : read_only image ≡ None = open_cause image (sym still.agrees.read_only ∙ sym c.is_read_only.ensures ∙ c.if-is_read_only.false) in
    let tries = tries_after c.mark.result _ _ _ _ _ _ t _ _ (raw.looks.same ∙ ap but_pages c.self.view_is) raw.looks.quiet is (c.mark.ensures.tries t tells still) in
    tries_does done c.mark.result old _ _ _ t s (λ (x : Seen). free_turn x c.args.number) _ Done refl _ same (free_is (seeing s t.base) c.args.number (raw.reads t tells here).test free) (if_ok c.mark.result _ (λ value. refl)) tries

pub returns-clause-on_memory : goal.returns-clause-on_memory
returns-clause-on_memory g c s t tells same is =
    let image = t.base.image in
    let old = g.H.Host.world c.args.host.now in
    let here = subst (λ (h : Held). IsOpen old h t) (sym c.self.view_is) is in
    let raw = c.in_ok-read_raw.ensures in
    let still = raw.looks.opened t tells here in
    let free : read_only image ≡ None = open_cause image (sym still.agrees.read_only ∙ sym c.is_read_only.ensures ∙ c.if-is_read_only.false) in
    let tries = tries_after c.mark.result _ _ _ _ _ _ t _ _ (raw.looks.same ∙ ap but_pages c.self.view_is) raw.looks.quiet is (c.mark.ensures.tries t tells still) in
    tries_stops c.mark.result old _ _ _ t s (λ (x : Seen). free_turn x c.args.number) _ Done _ same (free_is (seeing s t.base) c.args.number (raw.reads t tells here).test free) tries

pub returns-in_err-read_raw-clause-on_memory : goal.returns-in_err-read_raw-clause-on_memory
returns-in_err-read_raw-clause-on_memory g c s t tells same is = not_passed c.from_residual.result c.in_err-read_raw.field-0.0 _ c.from_residual.ensures c.in_err-read_raw.ensures.takes_none
