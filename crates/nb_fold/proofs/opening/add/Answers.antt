use Rattle.std.proofs.Common.{◌<◌, List, sym, ap, subst, ◌∙◌, length, arith}
use Rattle.nb_fold.proofs.Common.{Files, head_of, LevelHead, AddSays, AreAlike, IsLast, first_size, Held, IsOpened, passed}
use Rattle.nb_fold.proofs.AddLaws.{add_unread, add_unopened, add_apart, add_done, alike_more}
use Rattle.nb_fold.proofs.opening.add.Goals as goal

pub returns-in_err-whole-clause-answer : goal.returns-in_err-whole-clause-answer
returns-in_err-whole-clause-answer g c tells last is_last =
    passed _ (λ r. AddSays (g.H.Host.world c.args.host.now).files c.args.name.now last c.args.sources.now.items c.args.sources.now.items (g.H.Host.world c.args.host.now).reads (g.H.Host.world c.whole.new.host).reads r)
    c.from_residual.result c.in_err-whole.field-0.0 c.from_residual.ensures (add_unread _ _ last c.args.sources.now.items c.args.sources.now.items (g.H.Host.world c.args.host.now).reads (g.H.Host.world c.whole.new.host).reads (g.H.Host.world c.whole.new.host).reads c.in_err-whole.field-0.0 (c.in_err-whole.ensures.answer tells))

pub returns-in_err-source-clause-answer : goal.returns-in_err-source-clause-answer
returns-in_err-source-clause-answer g c tells last is_last =
    let whole = c.in_ok-whole.ensures.answer tells in
    let same = c.whole.ensures.quiet.still.files in
    passed _ (λ r. AddSays (g.H.Host.world c.args.host.now).files c.args.name.now last c.args.sources.now.items c.args.sources.now.items (g.H.Host.world c.args.host.now).reads (g.H.Host.world c.start.new.host).reads r)
    c.from_residual-in_err-source.result c.in_err-source.field-0.0 c.from_residual-in_err-source.ensures
    (add_unopened _ _ last (λ (source : Held). IsOpened (g.H.Host.world c.whole.new.host).files c.args.name.now source whole.contents) c.args.sources.now.items c.args.sources.now.items (g.H.Host.world c.args.host.now).reads (g.H.Host.world c.start.new.host).reads c.in_err-source.field-0.0 (c.in_err-source.ensures.opened tells whole.bytes whole.contents (ap (λ (f : Files). f c.args.name.now) same ∙ whole.there) whole.read))

pub returns-in_err-goes_on_from-clause-answer : goal.returns-in_err-goes_on_from-clause-answer
returns-in_err-goes_on_from-clause-answer g c tells last is_last =
    let whole = c.in_ok-whole.ensures.answer tells in
    let same = c.whole.ensures.quiet.still.files in
    let opened : IsOpened (g.H.Host.world c.whole.new.host).files c.args.name.now c.in_ok-source.source whole.contents = c.in_ok-source.ensures.opened tells whole.bytes whole.contents (ap (λ (f : Files). f c.args.name.now) same ∙ whole.there) whole.read in
    passed _ (λ r. AddSays (g.H.Host.world c.args.host.now).files c.args.name.now last c.args.sources.now.items c.args.sources.now.items (g.H.Host.world c.args.host.now).reads (g.H.Host.world c.start.new.host).reads r)
    c.from_residual-in_err-goes_on_from.result c.in_err-goes_on_from.field-0.0 c.from_residual-in_err-goes_on_from.ensures
    (add_apart _ _ last (g.H.Host.world c.args.host.now).reads _ _ whole c.args.sources.now.items c.args.sources.now.items (g.H.Host.world c.start.new.host).reads c.in_err-goes_on_from.field-0.0
    (c.in_err-goes_on_from.ensures.test last whole.contents (subst (λ (ss : List Held). IsLast ss last) (sym c.deref.ensures.value) is_last) (sym opened.head ∙ ap head_of (sym c.head.ensures.value))))

pub returns-clause-answer : goal.returns-clause-answer
returns-clause-answer g c tells last is_last =
    let whole = c.in_ok-whole.ensures.answer tells in
    let same = c.whole.ensures.quiet.still.files in
    let opened : IsOpened (g.H.Host.world c.whole.new.host).files c.args.name.now c.in_ok-source.source whole.contents = c.in_ok-source.ensures.opened tells whole.bytes whole.contents (ap (λ (f : Files). f c.args.name.now) same ∙ whole.there) whole.read in
    add_done _ _ last _ _ _ whole _ _ c.in_ok-source.source _ c.in_ok-push.ensures.items (subst (λ (f : Files). IsOpened f c.args.name.now c.in_ok-source.source whole.contents) same opened)
    (c.in_ok-goes_on_from.ensures.test last whole.contents (subst (λ (ss : List Held). IsLast ss last) (sym c.deref.ensures.value) is_last) (sym opened.head ∙ ap head_of (sym c.head.ensures.value)))
    (c.in_ok-source.ensures.reads tells)

pub returns-clause-alike : goal.returns-clause-alike
returns-clause-alike g c alike =
    subst AreAlike (sym c.in_ok-push.ensures.items)
    (alike_more c.args.sources.now.items c.in_ok-source.source alike
    (λ some all. ap (λ (h : LevelHead). h.page_size) (sym c.head.ensures.value)
    ∙ c.in_ok-goes_on_from.ensures.size (subst (λ (ss : List Held). 0 < length ss) (sym c.deref.ensures.value) some) (subst AreAlike (sym c.deref.ensures.value) all) ∙ ap first_size c.deref.ensures.value))

pub returns-in_err-source-clause-within : goal.returns-in_err-source-clause-within
returns-in_err-source-clause-within g c tells = let whole = c.whole.ensures.within tells in let start = c.start.ensures.reads tells in omega (arith, whole, start)

pub returns-in_err-goes_on_from-clause-within : goal.returns-in_err-goes_on_from-clause-within
returns-in_err-goes_on_from-clause-within g c tells = let whole = c.whole.ensures.within tells in let start = c.start.ensures.reads tells in omega (arith, whole, start)

pub returns-in_err-push-clause-within : goal.returns-in_err-push-clause-within
returns-in_err-push-clause-within g c tells = let whole = c.whole.ensures.within tells in let start = c.start.ensures.reads tells in omega (arith, whole, start)

pub returns-clause-within : goal.returns-clause-within
returns-clause-within g c tells = let whole = c.whole.ensures.within tells in let start = c.start.ensures.reads tells in omega (arith, whole, start)

pub returns-in_err-whole-clause-within : goal.returns-in_err-whole-clause-within
returns-in_err-whole-clause-within g c tells = let whole = c.whole.ensures.within tells in omega (arith, whole)
