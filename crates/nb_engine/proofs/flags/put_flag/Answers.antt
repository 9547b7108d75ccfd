use Rattle.std.proofs.Common.{◌≤◌, List, [], length, take, refl, sym, ap, subst, ◌∙◌, arith, Ok, Err, None}
use Rattle.nb_engine.proofs.Common.{as_fault, size_facts, flag, Stroke, byte_strokes, Quiet, counts_passed, memory_wanted, none_wanted, Held, but_pages, Makes, none_refused, StopsShort, Tries, WhereMemory, tries_early, tries_passed, tries_after, tries_made, short_first, wanted_by}
use Rattle.nb_engine.proofs.FlagLaws.{byte_is, front_stays, flagged-some, flag_strokes}
use Rattle.nb_engine.proofs.flags.put_flag.Goals as goal

pub write-requires-clause-some : goal.write-requires-clause-some
write-requires-clause-some g c =
    let size = size_facts (length c.args.page.now) c.requires.size in
    let long : c.args.at ≤ length c.read_first.new.page = omega (arith, c.read_first.auto.page, size.at_least, c.requires.inside) in
    flagged-some c.args.at _ c.read_first.new.page c.put_number.new.page c.put_number.ensures.written c.requires.behind long c.in_ok-read_first.ensures.header

pub write-requires-clause-control_block : goal.write-requires-clause-control_block
write-requires-clause-control_block g c first tells t opened =
    let size = size_facts (length c.args.page.now) c.requires.size in
    let long : c.args.at ≤ length c.read_first.new.page = omega (arith, c.read_first.auto.page, size.at_least, c.requires.inside) in
    ap (take 64) c.put_number.ensures.written ∙ front_stays c.args.at _ c.read_first.new.page c.requires.behind long ∙ c.in_ok-read_first.ensures.control_block tells t opened

pub returns-in_err-read_first-clause-tries : goal.returns-in_err-read_first-clause-tries
returns-in_err-read_first-clause-tries g c t tells is =
    let read = c.in_err-read_first.ensures in
    tries_early (Unit {0}) (Unit {0}) _ _ _ _ _ _ t None None _ c.from_residual.ensures read.takes_none (λ r e. e) (read.reads t tells is).test read.looks.same read.looks.quiet is (read.looks.opened t tells is)

pub returns-in_err-write-clause-tries : goal.returns-in_err-write-clause-tries
returns-in_err-write-clause-tries g c t tells is =
    let image = t.base.image in
    let read = c.in_ok-read_first.ensures in
    let first = (read.reads t tells is).page in
    let still = read.looks.opened t tells is in
    let new = g.H.Host.world c.write.new.host in
    let fault = as_fault c.in_err-write.field-0.0 in
    let strokes = flag_strokes c.args.at c.from.result c.args.on c.read_first.new.page c.put_number.new.page image (c.from.ensures ∙ byte_is c.args.on) first c.put_number.ensures.written in
    let makes = c.in_err-write.ensures.makes t tells still in
    tries_passed c.from_residual-in_err-write.result fault (λ r. Tries r (g.H.Host.world c.args.host.now) new c.args.store.now c.write.new.self t None (byte_strokes c.args.at (flag c.args.on) image)) c.from_residual-in_err-write.ensures
    (tries_after {T = Unit {0}} (Err fault) _ _ _ _ _ _ t _ _ read.looks.same read.looks.quiet is
    (tries_made {T = Unit {0}} (Err fault) _ _ _ _ t None _ refl (none_refused c.in_err-write.field-0.0)
    (subst (λ (ss : List Stroke). Makes {T = Unit {0}} (Err fault) (g.H.Host.world c.read_first.new.host) new c.read_first.new.store c.write.new.self t ss) strokes makes)
    (subst (λ (ss : List Stroke). WhereMemory {T = Unit {0}} (Err fault) (StopsShort (g.H.Host.world c.read_first.new.host) new c.read_first.new.store c.write.new.self t ss)) strokes
    (wanted_by (Unit {0}) (Unit {0}) c.in_err-write.field-0.0 _ (λ e. short_first _ _ c.read_first.new.store c.write.new.self t _ [] (c.in_err-write.ensures.on_memory t tells still e))))))

pub returns-clause-tries : goal.returns-clause-tries
returns-clause-tries g c t tells is =
    let image = t.base.image in
    let read = c.in_ok-read_first.ensures in
    let first = (read.reads t tells is).page in
    let still = read.looks.opened t tells is in
    let strokes = flag_strokes c.args.at c.from.result c.args.on c.read_first.new.page c.put_number.new.page image (c.from.ensures ∙ byte_is c.args.on) first c.put_number.ensures.written in
    let makes = c.in_ok-write.ensures.makes t tells still in
    tries_after {T = Unit {0}} (Ok tt) _ _ _ _ _ _ t _ _ read.looks.same read.looks.quiet is
    (tries_made {T = Unit {0}} (Ok tt) _ _ _ _ t None _ refl tt
    (subst (λ (ss : List Stroke). Makes {T = Unit {0}} (Ok tt) (g.H.Host.world c.read_first.new.host) (g.H.Host.world c.write.new.host) c.read_first.new.store c.write.new.self t ss) strokes makes) tt)

pub returns-in_err-write-clause-forced : goal.returns-in_err-write-clause-forced
returns-in_err-write-clause-forced g c t tells is forced memory =
    let read = c.in_ok-read_first.ensures in
    let wants = memory_wanted c.from_residual-in_err-write.result c.in_err-write.field-0.0 c.from_residual-in_err-write.ensures (Unit {0}) memory in
    let same = c.in_err-write.ensures.forced t tells (read.looks.opened t tells is) (ap (λ (h : Held). h.files.forced) read.looks.same ∙ forced) wants in
    (ap but_pages same.0 ∙ read.looks.same, subst (λ host. Quiet (g.H.Host.world c.args.host.now) (g.H.Host.world host)) (sym same.1) read.looks.quiet)

pub returns-in_err-write-clause-idle : goal.returns-in_err-write-clause-idle
returns-in_err-write-clause-idle g c none memory =
    let read = c.in_ok-read_first.ensures in
    let wants = memory_wanted c.from_residual-in_err-write.result c.in_err-write.field-0.0 c.from_residual-in_err-write.ensures (Unit {0}) memory in
    let same = c.in_err-write.ensures.idle (read.none_waits none) wants in
    (ap but_pages same.0 ∙ read.looks.same, subst (λ host. Quiet (g.H.Host.world c.args.host.now) (g.H.Host.world host)) (sym same.1) read.looks.quiet)

pub returns-in_err-write-clause-cause : goal.returns-in_err-write-clause-cause
returns-in_err-write-clause-cause g c =
    counts_passed c.from_residual-in_err-write.result c.in_err-write.field-0.0 c.from_residual-in_err-write.ensures (Unit {0}) _ _ _ c.in_ok-read_first.ensures.cause c.in_err-write.ensures.cause

pub returns-in_err-write-clause-takes_none : goal.returns-in_err-write-clause-takes_none
returns-in_err-write-clause-takes_none g c unstalled =
    none_wanted c.from_residual-in_err-write.result c.in_err-write.field-0.0 c.from_residual-in_err-write.ensures
    (c.in_err-write.ensures.takes_none (λ one. unstalled (sym (ap (λ (h : Held). h.files.state) c.in_ok-read_first.ensures.looks.same) ∙ one)))
