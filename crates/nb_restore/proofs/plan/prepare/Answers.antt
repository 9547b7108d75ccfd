use Rattle.std.proofs.Common.{◌≡◌, ◌+◌, ◌≤◌, length, refl, sym, ap, subst, ◌∙◌, arith, Err}
use Rattle.nb_restore.proofs.Common.{with_items_is, split, verdict, first_page, IsDone, PlanSays, IsUnfinishedPage, passed}
use Rattle.std.specs.Vec.{with_items}
use Rattle.nb_restore.proofs.PreparedLaws.{given_fails, done_fails, behind_now, page_0_of, prepared}
use Rattle.nb_chain.specs.Most.{RefusedReads, chain_most, check_most}
use Rattle.nb_restore.specs.Most.{ready_most}
use Rattle.nb_restore.proofs.MostLaws.{ready_within}
use Rattle.nb_chain.specs.declared.checking.Chain.{Chain}
use Rattle.nb_restore.specs.declared.plan.Plan.{Plan}
use Rattle.nb_chain.proofs.MostLaws.{refused_as}
use Rattle.nb_restore.proofs.RefusedLaws.{done_refuses, given_refuses}
use Rattle.nb_restore.proofs.plan.prepare.Goals as goal

pub returns-in_err-readers-clause-answer : goal.returns-in_err-readers-clause-answer
returns-in_err-readers-clause-answer g c tells =
    let chain = c.in_ok-chain.ensures in
    passed _ (λ r. PlanSays (g.H.Host.world c.args.host.now).files c.args.target.now c.args.files.now r) c.from_residual-in_err-readers.result c.in_err-readers.field-0.0 c.from_residual-in_err-readers.ensures
    (given_fails _ _ _ _ _ c.in_err-readers.field-0.0 (c.in_err-readers.ensures.ready tells c.args.target.now _
    (behind_now _ _ _ _ (chain.answer tells) c.index-files-0.result _ (split c.args.files.now c.index-files-0.result c.requires.some c.index-files-0.is) c.in_ok-chain.chain.first (chain.first tells) chain.form chain.least chain.pages _ _ chain.quiet.still.files refl)))

pub returns-in_err-read_page_0-clause-answer : goal.returns-in_err-read_page_0-clause-answer
returns-in_err-read_page_0-clause-answer g c tells =
    let chain = c.in_ok-chain.ensures in
    passed _ (λ r. PlanSays (g.H.Host.world c.args.host.now).files c.args.target.now c.args.files.now r) c.from_residual-in_err-read_page_0.result c.in_err-read_page_0.field-0.0 c.from_residual-in_err-read_page_0.ensures
    (done_fails (Unit {0}) _ _ _ _ c.in_err-read_page_0.field-0.0
    (page_0_of _ _ _ _ (chain.answer tells) c.index-files-0.result _ (split c.args.files.now c.index-files-0.result c.requires.some c.index-files-0.is) c.in_ok-chain.chain.first (chain.first tells) chain.form chain.least chain.pages
    (λ ps. IsDone {T = Unit {0}} (Err c.in_err-read_page_0.field-0.0) ((c.read_page_0.new.first ≡ first_page ps) × IsUnfinishedPage c.read_page_0.new.page)) _ _ _ (c.in_ok-readers.ensures.quiet.still.files ∙ chain.quiet.still.files) refl (omega (arith, ap length c.deref_mut.ensures.value, c.in_ok-first.ensures.len, c.in_ok-first.first.ok.0)) (c.in_err-read_page_0.ensures.answer tells)))

pub returns-clause-answer : goal.returns-clause-answer
returns-clause-answer g c tells =
    let chain = c.in_ok-chain.ensures in
    let named = split c.args.files.now c.index-files-0.result c.requires.some c.index-files-0.is in
    let start : (with_items c.in_ok-first.first c.read_page_0.new.first).items ≡ c.read_page_0.new.first =
    with_items_is c.in_ok-first.first c.read_page_0.new.first (omega (arith, c.read_page_0.auto.first, ap length c.deref_mut.ensures.value, c.in_ok-first.first.ok.0)) in
    let page : (with_items c.in_ok-page.page c.read_page_0.new.page).items ≡ c.read_page_0.new.page =
    with_items_is c.in_ok-page.page c.read_page_0.new.page (omega (arith, c.read_page_0.auto.page, ap length c.deref_mut-2.ensures.value, c.in_ok-page.page.ok.0)) in
    let read = page_0_of _ _ _ _ (chain.answer tells) c.index-files-0.result _ named c.in_ok-chain.chain.first (chain.first tells) chain.form chain.least chain.pages
    (λ ps. (c.read_page_0.new.first ≡ first_page ps) × IsUnfinishedPage c.read_page_0.new.page) _ _ _ (c.in_ok-readers.ensures.quiet.still.files ∙ chain.quiet.still.files) refl (omega (arith, ap length c.deref_mut.ensures.value, c.in_ok-first.ensures.len, c.in_ok-first.first.ok.0)) (c.in_ok-read_page_0.ensures.answer tells) in
    prepared _ _ _ _ (chain.answer tells) c.index-files-0.result _ named c.in_ok-chain.chain.first (chain.first tells) chain.form chain.least chain.pages
    _ _ c.in_ok-readers.readers _ (ap length page ∙ omega (arith, c.read_page_0.auto.page, ap length c.deref_mut-2.ensures.value, c.in_ok-page.ensures.len, c.in_ok-page.page.ok.0)) chain.quiet.still.files
    (c.in_ok-readers.ensures.ready tells c.args.target.now _ (behind_now _ _ _ _ (chain.answer tells) c.index-files-0.result _ named c.in_ok-chain.chain.first (chain.first tells) chain.form chain.least chain.pages _ _ chain.quiet.still.files refl))
    (start ∙ read.0, subst IsUnfinishedPage (sym page) read.1)

pub returns-in_err-chain-clause-refused : goal.returns-in_err-chain-clause-refused
returns-in_err-chain-clause-refused g c tells =
    passed _ (λ r. RefusedReads r (g.H.Host.world c.args.host.now).reads (1 + chain_most (g.H.Host.world c.args.host.now).files c.args.files.now) (g.H.Host.world c.accept.new.host).reads) c.from_residual.result c.in_err-chain.field-0.0 c.from_residual.ensures
    (refused_as Chain Plan _ _ _ _ (c.in_err-chain.ensures.refused tells))

pub returns-in_err-readers-clause-refused : goal.returns-in_err-readers-clause-refused
returns-in_err-readers-clause-refused g c tells =
    let chain = c.in_ok-chain.ensures in
    passed _ (λ r. RefusedReads r (g.H.Host.world c.args.host.now).reads (1 + chain_most (g.H.Host.world c.args.host.now).files c.args.files.now) (g.H.Host.world c.start_readers.new.host).reads) c.from_residual-in_err-readers.result c.in_err-readers.field-0.0 c.from_residual-in_err-readers.ensures
    (given_refuses _ Plan _ c.in_err-readers.field-0.0 _ _ _ (c.in_err-readers.ensures.ready tells c.args.target.now _
    (behind_now _ _ _ _ (chain.answer tells) c.index-files-0.result _ (split c.args.files.now c.index-files-0.result c.requires.some c.index-files-0.is) c.in_ok-chain.chain.first (chain.first tells) chain.form chain.least chain.pages _ _ chain.quiet.still.files refl)))

pub returns-in_err-read_page_0-clause-refused : goal.returns-in_err-read_page_0-clause-refused
returns-in_err-read_page_0-clause-refused g c tells =
    let chain = c.in_ok-chain.ensures in
    passed _ (λ r. RefusedReads r (g.H.Host.world c.args.host.now).reads (1 + chain_most (g.H.Host.world c.args.host.now).files c.args.files.now) (g.H.Host.world c.read_page_0.new.host).reads) c.from_residual-in_err-read_page_0.result c.in_err-read_page_0.field-0.0 c.from_residual-in_err-read_page_0.ensures
    (done_refuses (Unit {0}) Plan _ c.in_err-read_page_0.field-0.0 _ _ _
    (page_0_of _ _ _ _ (chain.answer tells) c.index-files-0.result _ (split c.args.files.now c.index-files-0.result c.requires.some c.index-files-0.is) c.in_ok-chain.chain.first (chain.first tells) chain.form chain.least chain.pages
    (λ ps. IsDone {T = Unit {0}} (Err c.in_err-read_page_0.field-0.0) ((c.read_page_0.new.first ≡ first_page ps) × IsUnfinishedPage c.read_page_0.new.page)) _ _ _ (c.in_ok-readers.ensures.quiet.still.files ∙ chain.quiet.still.files) refl (omega (arith, ap length c.deref_mut.ensures.value, c.in_ok-first.ensures.len, c.in_ok-first.first.ok.0)) (c.in_err-read_page_0.ensures.answer tells)))

pub returns-in_err-chain-clause-within : goal.returns-in_err-chain-clause-within
returns-in_err-chain-clause-within g c tells =
    let accept = c.accept.ensures.within tells in
    let few : (g.H.Host.world c.accept.new.host).reads
    ≤ (g.H.Host.world c.args.host.now).reads + (1 + check_most (g.H.Host.world c.args.host.now).files c.args.files.now + ready_most c.args.files.now (verdict (g.H.Host.world c.args.host.now).files c.args.files.now)) = omega (arith, accept) in
    few

pub returns-in_err-readers-clause-within : goal.returns-in_err-readers-clause-within
returns-in_err-readers-clause-within g c tells =
    let chain = c.in_ok-chain.ensures.answer tells in
    let accept = c.accept.ensures.within tells in
    let start = c.start_readers.ensures.within tells in
    ready_within _ c.args.files.now chain.links _ (g.H.Host.world c.accept.new.host).reads _ chain.accepted accept (omega (arith, start, c.requires.some))

pub returns-in_err-first-clause-within : goal.returns-in_err-first-clause-within
returns-in_err-first-clause-within g c tells =
    let chain = c.in_ok-chain.ensures.answer tells in
    let accept = c.accept.ensures.within tells in
    let start = c.start_readers.ensures.within tells in
    ready_within _ c.args.files.now chain.links _ (g.H.Host.world c.accept.new.host).reads _ chain.accepted accept (omega (arith, start, c.requires.some))

pub returns-in_err-page-clause-within : goal.returns-in_err-page-clause-within
returns-in_err-page-clause-within g c tells =
    let chain = c.in_ok-chain.ensures.answer tells in
    let accept = c.accept.ensures.within tells in
    let start = c.start_readers.ensures.within tells in
    ready_within _ c.args.files.now chain.links _ (g.H.Host.world c.accept.new.host).reads _ chain.accepted accept (omega (arith, start, c.requires.some))

pub returns-in_err-read_page_0-clause-within : goal.returns-in_err-read_page_0-clause-within
returns-in_err-read_page_0-clause-within g c tells =
    let chain = c.in_ok-chain.ensures.answer tells in
    let accept = c.accept.ensures.within tells in
    let start = c.start_readers.ensures.within tells in
    let once = c.read_page_0.ensures.once tells in
    ready_within _ c.args.files.now chain.links _ (g.H.Host.world c.accept.new.host).reads _ chain.accepted accept (omega (arith, start, once, c.requires.some))

pub returns-clause-within : goal.returns-clause-within
returns-clause-within g c tells =
    let chain = c.in_ok-chain.ensures.answer tells in
    let accept = c.accept.ensures.within tells in
    let start = c.start_readers.ensures.within tells in
    let once = c.read_page_0.ensures.once tells in
    ready_within _ c.args.files.now chain.links _ (g.H.Host.world c.accept.new.host).reads _ chain.accepted accept (omega (arith, start, once, c.requires.some))
