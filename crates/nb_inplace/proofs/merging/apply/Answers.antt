use Rattle.std.proofs.Common.{◌≡◌, ℕ, List, length, take, length-take-le, sym, ap, subst, ◌∙◌, arith, Ok, Err, IsTrue}
use Rattle.nb_inplace.proofs.Common.{with_items_is, is_page_size, size_facts, Leaves, IsDurable, Files, Memory, LevelHead, first_page, quiet_begun, quiet_joined, Applies, applying_page, ReadySays, stamp_cause, passed}
use Rattle.std.specs.Global.{Vec}
use Rattle.std.specs.Vec.{with_items}
use Rattle.nb_inplace.proofs.ApplyLaws.{pages, sizes, there, long, apply_memory, apply_refused, ready_fails, apply_done, apply_takes, apply_within}
use Rattle.nb_chain.specs.Most.{RefusedReads}
use Rattle.nb_chain.proofs.MostLaws.{refused_within as fault_within}
use Rattle.nb_inplace.specs.Most.{refused_most}
use Rattle.nb_inplace.proofs.MostLaws.{accept_refused, refused_within, unwritten_within}
use Rattle.nb_inplace.proofs.merging.apply.Goals as goal

pub returns-in_err-piece-clause-applies : goal.returns-in_err-piece-clause-applies
returns-in_err-piece-clause-applies g c tells =
    passed ℕ (λ r. Applies r (g.H.Host.world c.args.host.now) (g.H.Host.world c.args.host.now) c.args.standby.now c.args.file.now) c.from_residual.result Memory c.from_residual.ensures (apply_memory _ _ _ _ (quiet_begun _ (g.met.H.Host.timely _)))

pub returns-in_err-found-clause-applies : goal.returns-in_err-found-clause-applies
returns-in_err-found-clause-applies g c tells =
    passed ℕ (λ r. Applies r (g.H.Host.world c.args.host.now) (g.H.Host.world c.accept.new.host) c.args.standby.now c.args.file.now) c.from_residual-in_err-found.result c.in_err-found.field-0.0 c.from_residual-in_err-found.ensures
    (apply_refused _ _ _ _ c.in_err-found.ensures.quiet c.in_err-found.field-0.0 (c.in_err-found.ensures.answer tells))

pub returns-in_err-first-clause-applies : goal.returns-in_err-first-clause-applies
returns-in_err-first-clause-applies g c tells =
    passed ℕ (λ r. Applies r (g.H.Host.world c.args.host.now) (g.H.Host.world c.accept.new.host) c.args.standby.now c.args.file.now) c.from_residual-in_err-first.result Memory c.from_residual-in_err-first.ensures (apply_memory _ _ _ _ c.in_ok-found.ensures.quiet)

pub returns-in_err-make_ready-clause-applies : goal.returns-in_err-make_ready-clause-applies
returns-in_err-make_ready-clause-applies g c tells =
    let found = c.in_ok-found.ensures in
    let ready = c.in_err-make_ready.ensures in
    let fit = found.answer tells in
    let old = g.H.Host.world c.args.host.now in
    let ps = pages old _ _ _ _ fit in
    let says = ready.answer tells ps (ap (λ (f : Files). f c.args.standby.now) found.quiet.still.files ∙ there old _ _ _ _ fit) (sizes old _ _ _ _ fit) (long old _ _ _ _ fit) in
    passed ℕ (λ r. Applies r old (g.H.Host.world c.make_ready.new.host) c.args.standby.now c.args.file.now) c.from_residual-in_err-make_ready.result c.in_err-make_ready.field-0.0 c.from_residual-in_err-make_ready.ensures
    (apply_refused old _ _ _ (quiet_joined _ _ _ found.quiet ready.quiet) c.in_err-make_ready.field-0.0
    (ready_fails old _ _ _ _ fit (applying_page c.in_ok-found.reader.head.guid (first_page ps)) c.make_ready.new.first c.in_err-make_ready.field-0.0
    (subst (λ (h : LevelHead). ReadySays (stamp_cause c.in_ok-found.found c.args.file.now h.previous_scn ps) (applying_page h.guid (first_page ps)) c.make_ready.new.first (Err c.in_err-make_ready.field-0.0)) c.head.ensures.value says)))

-- a page is no longer than the piece
room : (n : ℕ) (piece : List ℕ) → IsTrue (is_page_size n) → length piece ≡ 262144 → n ≡ length (take n piece)
room n piece is wide = let most = (size_facts n is).at_most in sym (length-take-le n piece (omega (arith, most, wide)))

-- what is lent is as long afterwards
as_long : (v : Vec ℕ) (lent back now : List ℕ) → v.len ≡ length v.items → lent ≡ v.items → length back ≡ length lent → now ≡ (with_items v back).items → (now ≡ back) × (length now ≡ v.len)
as_long v lent back now own before same after =
    let is : now ≡ back = after ∙ with_items_is v back (omega (arith, same, ap length before, own)) in
    (is, omega (arith, ap length is, same, ap length before, own))

pub slice_bounds-page-end : goal.slice_bounds-page-end
slice_bounds-page-end g c =
    room _ _ c.in_ok-found.ensures.whole.form.size ((as_long c.in_ok-piece.piece _ _ _ c.in_ok-piece.piece.ok.0 c.deref_mut-2.ensures.value c.make_ready.auto.piece c.deref_mut-3.ensures.value).1 ∙ c.in_ok-piece.ensures.len)

pub merge-requires-clause-size : goal.merge-requires-clause-size
merge-requires-clause-size g c =
    let size = c.in_ok-found.ensures.whole.form.size in
    let same = room c.in_ok-found.found.header.page_size _ size ((as_long c.in_ok-piece.piece _ _ _ c.in_ok-piece.piece.ok.0 c.deref_mut-2.ensures.value c.make_ready.auto.piece c.deref_mut-3.ensures.value).1 ∙ c.in_ok-piece.ensures.len) in
    subst (λ (n : ℕ). IsTrue (is_page_size n)) same size

pub merge-requires-clause-reader : goal.merge-requires-clause-reader
merge-requires-clause-reader g c =
    c.in_ok-found.ensures.size
    ∙ room _ _ c.in_ok-found.ensures.whole.form.size ((as_long c.in_ok-piece.piece _ _ _ c.in_ok-piece.piece.ok.0 c.deref_mut-2.ensures.value c.make_ready.auto.piece c.deref_mut-3.ensures.value).1 ∙ c.in_ok-piece.ensures.len)

pub merge-requires-clause-first : goal.merge-requires-clause-first
merge-requires-clause-first g c =
    (as_long c.in_ok-first.first _ _ _ c.in_ok-first.first.ok.0 c.deref_mut.ensures.value c.make_ready.auto.first c.deref_mut-4.ensures.value).1 ∙ c.in_ok-first.ensures.len
    ∙ room _ _ c.in_ok-found.ensures.whole.form.size ((as_long c.in_ok-piece.piece _ _ _ c.in_ok-piece.piece.ok.0 c.deref_mut-2.ensures.value c.make_ready.auto.piece c.deref_mut-3.ensures.value).1 ∙ c.in_ok-piece.ensures.len)

pub returns-clause-applies : goal.returns-clause-applies
returns-clause-applies g c tells =
    let found = c.in_ok-found.ensures in
    let ready = c.in_ok-make_ready.ensures in
    let fit = found.answer tells in
    let old = g.H.Host.world c.args.host.now in
    let ps = pages old _ _ _ _ fit in
    let n = length (take c.in_ok-found.found.header.page_size c.deref_mut-3.result.now) in
    let says = ready.answer tells ps (ap (λ (f : Files). f c.args.standby.now) found.quiet.still.files ∙ there old _ _ _ _ fit) (sizes old _ _ _ _ fit) (long old _ _ _ _ fit) in
    let first = as_long c.in_ok-first.first _ _ _ c.in_ok-first.first.ok.0 c.deref_mut.ensures.value c.make_ready.auto.first c.deref_mut-4.ensures.value in
    let is_ready : ReadySays (stamp_cause c.in_ok-found.found c.args.file.now c.in_ok-found.reader.head.previous_scn ps) (applying_page c.in_ok-found.reader.head.guid (first_page ps)) c.deref_mut-4.result.now (Ok tt) =
    subst (λ (h : LevelHead). ReadySays (stamp_cause c.in_ok-found.found c.args.file.now h.previous_scn ps) (applying_page h.guid (first_page ps)) c.deref_mut-4.result.now (Ok tt)) c.head.ensures.value (says.0, first.0 ∙ says.1) in
    let same = room _ _ found.whole.form.size ((as_long c.in_ok-piece.piece _ _ _ c.in_ok-piece.piece.ok.0 c.deref_mut-2.ensures.value c.make_ready.auto.piece c.deref_mut-3.ensures.value).1 ∙ c.in_ok-piece.ensures.len) in
    let kept = subst (λ (f : Files). IsDurable (g.H.Host.world c.make_ready.new.host) c.args.standby.now (f c.args.standby.now)) (sym ready.quiet.still.files) (ready.kept tells) in
    let stays : (m : List ℕ) → Leaves (g.H.Host.world c.merge.new.host) m ((g.H.Host.world c.merge.new.host).files m) = g.met.H.Host.reads_left c.merge.new.host tells in
    apply_done old _ _ _ _ fit found.whole found.size c.deref_mut-4.result.now tt is_ready (g.H.Host.world c.make_ready.new.host) (g.H.Host.world c.merge.new.host) (quiet_joined _ _ _ found.quiet ready.quiet) n same kept stays c.merge.result
    (c.merge.ensures.done tells) (c.merge.ensures.left tells) c.merge.ensures.gave

pub returns-in_err-piece-clause-refused : goal.returns-in_err-piece-clause-refused
returns-in_err-piece-clause-refused g c tells = passed ℕ (λ r. RefusedReads r (g.H.Host.world c.args.host.now).reads (refused_most (g.H.Host.world c.args.host.now).files c.args.standby.now c.args.file.now) (g.H.Host.world c.args.host.now).reads) c.from_residual.result Memory c.from_residual.ensures tt

pub returns-in_err-found-clause-refused : goal.returns-in_err-found-clause-refused
returns-in_err-found-clause-refused g c tells =
    passed ℕ (λ r. RefusedReads r (g.H.Host.world c.args.host.now).reads (refused_most (g.H.Host.world c.args.host.now).files c.args.standby.now c.args.file.now) (g.H.Host.world c.accept.new.host).reads)
    c.from_residual-in_err-found.result c.in_err-found.field-0.0 c.from_residual-in_err-found.ensures (fault_within ℕ c.in_err-found.field-0.0 (g.H.Host.world c.args.host.now).reads (refused_most (g.H.Host.world c.args.host.now).files c.args.standby.now c.args.file.now) (g.H.Host.world c.accept.new.host).reads (accept_refused (g.H.Host.world c.args.host.now).files c.args.standby.now c.args.file.now (g.H.Host.world c.args.host.now).reads (g.H.Host.world c.accept.new.host).reads (c.accept.ensures.within tells)))

pub returns-in_err-first-clause-refused : goal.returns-in_err-first-clause-refused
returns-in_err-first-clause-refused g c tells = passed ℕ (λ r. RefusedReads r (g.H.Host.world c.args.host.now).reads (refused_most (g.H.Host.world c.args.host.now).files c.args.standby.now c.args.file.now) (g.H.Host.world c.accept.new.host).reads) c.from_residual-in_err-first.result Memory c.from_residual-in_err-first.ensures tt

pub returns-in_err-make_ready-clause-refused : goal.returns-in_err-make_ready-clause-refused
returns-in_err-make_ready-clause-refused g c tells =
    let fit = c.in_ok-found.ensures.answer tells in
    passed ℕ (λ r. RefusedReads r (g.H.Host.world c.args.host.now).reads (refused_most (g.H.Host.world c.args.host.now).files c.args.standby.now c.args.file.now) (g.H.Host.world c.make_ready.new.host).reads)
    c.from_residual-in_err-make_ready.result c.in_err-make_ready.field-0.0 c.from_residual-in_err-make_ready.ensures
    (fault_within ℕ c.in_err-make_ready.field-0.0 (g.H.Host.world c.args.host.now).reads (refused_most (g.H.Host.world c.args.host.now).files c.args.standby.now c.args.file.now) (g.H.Host.world c.make_ready.new.host).reads
    (refused_within (g.H.Host.world c.args.host.now).files c.args.standby.now c.args.file.now fit.bytes c.in_ok-found.found.is_begun c.in_ok-found.found.pages c.in_ok-found.found.header.page_size (g.H.Host.world c.args.host.now).reads (g.H.Host.world c.accept.new.host).reads (g.H.Host.world c.make_ready.new.host).reads fit.there fit.is.begun fit.is.pages (c.accept.ensures.within tells) (c.make_ready.ensures.within tells)))

pub returns-clause-refused : goal.returns-clause-refused
returns-clause-refused g c tells =
    let found = c.in_ok-found.ensures in
    let ready = c.in_ok-make_ready.ensures in
    let fit = found.answer tells in
    let old = g.H.Host.world c.args.host.now in
    let ps = pages old _ _ _ _ fit in
    let n = length (take c.in_ok-found.found.header.page_size c.deref_mut-3.result.now) in
    let says = ready.answer tells ps (ap (λ (f : Files). f c.args.standby.now) found.quiet.still.files ∙ there old _ _ _ _ fit) (sizes old _ _ _ _ fit) (long old _ _ _ _ fit) in
    let first = as_long c.in_ok-first.first _ _ _ c.in_ok-first.first.ok.0 c.deref_mut.ensures.value c.make_ready.auto.first c.deref_mut-4.ensures.value in
    let is_ready : ReadySays (stamp_cause c.in_ok-found.found c.args.file.now c.in_ok-found.reader.head.previous_scn ps) (applying_page c.in_ok-found.reader.head.guid (first_page ps)) c.deref_mut-4.result.now (Ok tt) =
    subst (λ (h : LevelHead). ReadySays (stamp_cause c.in_ok-found.found c.args.file.now h.previous_scn ps) (applying_page h.guid (first_page ps)) c.deref_mut-4.result.now (Ok tt)) c.head.ensures.value (says.0, first.0 ∙ says.1) in
    let same = room _ _ found.whole.form.size ((as_long c.in_ok-piece.piece _ _ _ c.in_ok-piece.piece.ok.0 c.deref_mut-2.ensures.value c.make_ready.auto.piece c.deref_mut-3.ensures.value).1 ∙ c.in_ok-piece.ensures.len) in
    let kept = subst (λ (f : Files). IsDurable (g.H.Host.world c.make_ready.new.host) c.args.standby.now (f c.args.standby.now)) (sym ready.quiet.still.files) (ready.kept tells) in
    apply_takes old _ _ _ _ fit found.whole found.size c.deref_mut-4.result.now tt is_ready (g.H.Host.world c.make_ready.new.host) (g.H.Host.world c.merge.new.host) (quiet_joined _ _ _ found.quiet ready.quiet) n same kept c.merge.result
    (c.merge.ensures.done tells) _ _ _

pub returns-in_err-piece-clause-within : goal.returns-in_err-piece-clause-within
returns-in_err-piece-clause-within g c tells = omega arith

-- the merge isn't accepted, or memory is wanted then
pub returns-in_err-found-clause-within : goal.returns-in_err-found-clause-within
returns-in_err-found-clause-within g c tells =
    let old = g.H.Host.world c.args.host.now in
    let new = g.H.Host.world c.accept.new.host in
    unwritten_within old.files c.args.standby.now c.args.file.now old.reads new.reads (accept_refused old.files c.args.standby.now c.args.file.now old.reads new.reads (c.accept.ensures.within tells))

pub returns-in_err-first-clause-within : goal.returns-in_err-first-clause-within
returns-in_err-first-clause-within g c tells =
    let old = g.H.Host.world c.args.host.now in
    let new = g.H.Host.world c.accept.new.host in
    unwritten_within old.files c.args.standby.now c.args.file.now old.reads new.reads (accept_refused old.files c.args.standby.now c.args.file.now old.reads new.reads (c.accept.ensures.within tells))

pub returns-in_err-make_ready-clause-within : goal.returns-in_err-make_ready-clause-within
returns-in_err-make_ready-clause-within g c tells =
    let fit = c.in_ok-found.ensures.answer tells in
    let old = g.H.Host.world c.args.host.now in
    let new = g.H.Host.world c.make_ready.new.host in
    unwritten_within old.files c.args.standby.now c.args.file.now old.reads new.reads
    (refused_within old.files c.args.standby.now c.args.file.now fit.bytes c.in_ok-found.found.is_begun c.in_ok-found.found.pages c.in_ok-found.found.header.page_size old.reads (g.H.Host.world c.accept.new.host).reads new.reads fit.there fit.is.begun fit.is.pages
    (c.accept.ensures.within tells) (c.make_ready.ensures.within tells))

pub returns-clause-within : goal.returns-clause-within
returns-clause-within g c tells =
    let found = c.in_ok-found.ensures in
    let ready = c.in_ok-make_ready.ensures in
    let fit = found.answer tells in
    let old = g.H.Host.world c.args.host.now in
    let ps = pages old _ _ _ _ fit in
    let n = length (take c.in_ok-found.found.header.page_size c.deref_mut-3.result.now) in
    let says = ready.answer tells ps (ap (λ (f : Files). f c.args.standby.now) found.quiet.still.files ∙ there old _ _ _ _ fit) (sizes old _ _ _ _ fit) (long old _ _ _ _ fit) in
    let first = as_long c.in_ok-first.first _ _ _ c.in_ok-first.first.ok.0 c.deref_mut.ensures.value c.make_ready.auto.first c.deref_mut-4.ensures.value in
    let is_ready : ReadySays (stamp_cause c.in_ok-found.found c.args.file.now c.in_ok-found.reader.head.previous_scn ps) (applying_page c.in_ok-found.reader.head.guid (first_page ps)) c.deref_mut-4.result.now (Ok tt) =
    subst (λ (h : LevelHead). ReadySays (stamp_cause c.in_ok-found.found c.args.file.now h.previous_scn ps) (applying_page h.guid (first_page ps)) c.deref_mut-4.result.now (Ok tt)) c.head.ensures.value (says.0, first.0 ∙ says.1) in
    let same = room _ _ found.whole.form.size ((as_long c.in_ok-piece.piece _ _ _ c.in_ok-piece.piece.ok.0 c.deref_mut-2.ensures.value c.make_ready.auto.piece c.deref_mut-3.ensures.value).1 ∙ c.in_ok-piece.ensures.len) in
    let kept = subst (λ (f : Files). IsDurable (g.H.Host.world c.make_ready.new.host) c.args.standby.now (f c.args.standby.now)) (sym ready.quiet.still.files) (ready.kept tells) in
    apply_within old _ _ _ _ fit found.whole found.size c.deref_mut-4.result.now tt is_ready (g.H.Host.world c.make_ready.new.host) (g.H.Host.world c.merge.new.host) (quiet_joined _ _ _ found.quiet ready.quiet) n same kept (c.merge.ensures.within tells)
    (refused_within old.files c.args.standby.now c.args.file.now fit.bytes c.in_ok-found.found.is_begun c.in_ok-found.found.pages c.in_ok-found.found.header.page_size old.reads (g.H.Host.world c.accept.new.host).reads (g.H.Host.world c.make_ready.new.host).reads fit.there fit.is.begun fit.is.pages
    (c.accept.ensures.within tells) (c.make_ready.ensures.within tells))
