use Rattle.std.proofs.Common.{List, sym, ap, subst, ◌∙◌, arith, IsTrue, Err}
use Rattle.nb_fold.proofs.Common.{is_page_size, Files, head_of, LevelHead, AreAlike, first_size, Held, AreOfPages, AreOpened, chained}
use Rattle.nb_fold.proofs.FoldLaws.{due_few, most_free, opened_within, prepared, verdict_free, verdict_taken}
use Rattle.nb_fold.proofs.OpenLaws.{fault_is}
use Rattle.nb_fold.proofs.folding.prepare.Goals as goal

pub returns-clause-due : goal.returns-clause-due
returns-clause-due g c = let all = c.in_ok-sources.ensures.all in let few = c.requires.few in let most = due_few c.in_ok-sources.sources.items in omega (arith, all, few, most)

pub returns-clause-ready : goal.returns-clause-ready
returns-clause-ready g c tells =
    let items : List Held = c.in_ok-sources.sources.items in
    let all = c.in_ok-sources.ensures.all in
    let two = c.requires.some in
    let head = c.in_ok-file.ensures.head in
    let slice = c.deref.ensures.value in
    prepared (g.H.Host.world c.args.host.now) (g.H.Host.world c.check_out.new.host) (g.H.Host.world c.open_all.new.host) c.args.out.now c.args.files.now items c.in_ok-file.file
    (c.in_ok-check_out.ensures.free tells) c.check_out.ensures.quiet (c.in_ok-check_out.ensures.once tells) (c.in_ok-sources.ensures.answer tells) c.open_all.ensures.quiet (c.open_all.ensures.within tells)
    (omega (arith, all, two)) c.in_ok-file.ensures.name (subst (λ (h : LevelHead). IsTrue (is_page_size h.page_size)) (sym head) c.folded_head-head.ensures.size)
    (λ cs opened. ap head_of head ∙ c.folded_head-head.ensures.head (g.H.Host.world c.check_out.new.host).files c.args.files.now cs (subst (λ (ss : List Held). AreOpened (g.H.Host.world c.check_out.new.host).files c.args.files.now ss cs) (sym slice) opened))
    (subst (λ n. AreOfPages n items) (sym (ap (λ (h : LevelHead). h.page_size) head ∙ c.folded_head-head.ensures.alike (subst AreAlike (sym slice) c.in_ok-sources.ensures.alike) ∙ ap first_size slice)) c.in_ok-sources.ensures.alike)

pub returns-in_err-check_out-clause-refused : goal.returns-in_err-check_out-clause-refused
returns-in_err-check_out-clause-refused g c tells refusal is =
    let taken = c.in_err-check_out.ensures.taken tells refusal (ap Err (fault_is _ c.from_residual.result c.in_err-check_out.field-0.0 _ c.from_residual.ensures is)) in
    verdict_taken (g.H.Host.world c.args.host.now).files c.args.out.now c.args.files.now taken.0 ∙ ap Err (sym taken.1)

pub returns-in_err-sources-clause-refused : goal.returns-in_err-sources-clause-refused
returns-in_err-sources-clause-refused g c tells refusal is =
    verdict_free (g.H.Host.world c.args.host.now).files c.args.out.now c.args.files.now (c.in_ok-check_out.ensures.free tells) ∙ ap (λ (f : Files). chained f c.args.files.now) (sym c.check_out.ensures.quiet.still.files)
    ∙ c.in_err-sources.ensures.refused tells refusal (ap Err (fault_is _ c.from_residual-in_err-sources.result c.in_err-sources.field-0.0 _ c.from_residual-in_err-sources.ensures is))

pub returns-in_err-sources-clause-within : goal.returns-in_err-sources-clause-within
returns-in_err-sources-clause-within g c tells =
    let old = g.H.Host.world c.args.host.now in
    let mid = g.H.Host.world c.check_out.new.host in
    let free = c.in_ok-check_out.ensures.free tells in
    let opened = opened_within old.files mid.files c.args.out.now c.args.files.now _ _ _ free c.check_out.ensures.quiet.still.files (c.check_out.ensures.once tells) (c.open_all.ensures.within tells) in
    omega (arith, most_free old.files c.args.out.now c.args.files.now free, opened)

pub returns-in_err-file-clause-within : goal.returns-in_err-file-clause-within
returns-in_err-file-clause-within g c tells =
    let old = g.H.Host.world c.args.host.now in
    let mid = g.H.Host.world c.check_out.new.host in
    let free = c.in_ok-check_out.ensures.free tells in
    let opened = opened_within old.files mid.files c.args.out.now c.args.files.now _ _ _ free c.check_out.ensures.quiet.still.files (c.check_out.ensures.once tells) (c.open_all.ensures.within tells) in
    omega (arith, most_free old.files c.args.out.now c.args.files.now free, opened)

pub returns-clause-within : goal.returns-clause-within
returns-clause-within g c tells =
    let old = g.H.Host.world c.args.host.now in
    let mid = g.H.Host.world c.check_out.new.host in
    let free = c.in_ok-check_out.ensures.free tells in
    let opened = opened_within old.files mid.files c.args.out.now c.args.files.now _ _ _ free c.check_out.ensures.quiet.still.files (c.check_out.ensures.once tells) (c.open_all.ensures.within tells) in
    omega (arith, most_free old.files c.args.out.now c.args.files.now free, opened)
