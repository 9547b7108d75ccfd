use Rattle.std.proofs.Common.{sym, ap, ◌∙◌}
use Rattle.nb_inplace.proofs.Common.{Files, not_standby, head_of, Reading, Standby, AcceptSays, passed}
use Rattle.nb_inplace.proofs.AcceptLaws.{standby_fails, standby_there, reader_fails, level_fails, reader_of, head_fails}
use Rattle.nb_inplace.proofs.MostLaws.{accept_within}
use Rattle.nb_inplace.proofs.VerdictLaws.{standby_state}
use Rattle.nb_inplace.proofs.accepting.accept.Goals as goal

pub returns-in_err-found-clause-answer : goal.returns-in_err-found-clause-answer
returns-in_err-found-clause-answer g c tells =
    let files = (g.H.Host.world c.args.host.now).files in
    passed (Standby × Reading) (AcceptSays files c.args.standby.now c.args.file.now) c.from_residual.result c.in_err-found.field-0.0 c.from_residual.ensures
    (standby_fails files c.args.standby.now c.args.file.now c.in_err-found.field-0.0 (c.in_err-found.ensures.test tells))

pub returns-in_err-reader-clause-answer : goal.returns-in_err-reader-clause-answer
returns-in_err-reader-clause-answer g c tells =
    let files = (g.H.Host.world c.args.host.now).files in
    let found = c.in_ok-found.ensures in
    passed (Standby × Reading) (AcceptSays files c.args.standby.now c.args.file.now) c.from_residual-in_err-reader.result c.in_err-reader.field-0.0 c.from_residual-in_err-reader.ensures
    (reader_fails files (g.H.Host.world c.read_standby.new.host).files c.args.standby.now c.args.file.now (found.test tells) (ap (λ (f : Files). f c.args.file.now) found.quiet.still.files) g.H.Host.tells tells c.in_err-reader.field-0.0 c.in_err-reader.ensures.answer)

pub returns-in_err-whole-clause-answer : goal.returns-in_err-whole-clause-answer
returns-in_err-whole-clause-answer g c tells =
    let files = (g.H.Host.world c.args.host.now).files in
    let found = c.in_ok-found.ensures in
    let start = c.in_ok-reader.ensures in
    passed (Standby × Reading) (AcceptSays files c.args.standby.now c.args.file.now) c.from_residual-in_err-whole.result c.in_err-whole.field-0.0 c.from_residual-in_err-whole.ensures
    (level_fails files (g.H.Host.world c.start.new.host).files c.args.standby.now c.args.file.now (found.test tells) (ap (λ (f : Files). f c.args.file.now) (start.quiet.still.files ∙ found.quiet.still.files)) (g.H.Host.world c.start.new.host).reads (g.H.Host.world c.whole.new.host).reads c.in_err-whole.field-0.0 (c.in_err-whole.ensures.answer tells))

pub returns-in_err-accept_head-clause-answer : goal.returns-in_err-accept_head-clause-answer
returns-in_err-accept_head-clause-answer g c tells =
    let files = (g.H.Host.world c.args.host.now).files in
    let found = c.in_ok-found.ensures in
    let start = c.in_ok-reader.ensures in
    let there = standby_there files c.args.standby.now (found.test tells) in
    let stands = ap (not_standby c.args.standby.now) (sym there.1) ∙ found.test tells in
    let level = reader_of files (g.H.Host.world c.start.new.host).files c.args.standby.now c.args.file.now (found.test tells) (ap (λ (f : Files). f c.args.file.now) (start.quiet.still.files ∙ found.quiet.still.files)) g.H.Host.tells tells _ _ c.in_ok-reader.reader c.in_ok-whole.field-0 _ (ap (λ (f : Files). f c.args.file.now) found.quiet.still.files) start.answer (c.in_ok-whole.ensures.answer tells) in
    passed (Standby × Reading) (AcceptSays files c.args.standby.now c.args.file.now) c.from_residual-in_err-accept_head.result c.in_err-accept_head.field-0.0 c.from_residual-in_err-accept_head.ensures
    (head_fails files c.args.standby.now c.args.file.now there.0 c.in_ok-found.found (c.in_ok-whole.ensures.answer tells).contents c.in_ok-reader.reader (Unit {0}) c.in_err-accept_head.field-0.0 there.1 stands (found.value tells there.0 there.1) level
    (c.in_err-accept_head.ensures.test (c.in_ok-whole.ensures.answer tells).contents (sym level.head ∙ ap head_of (sym c.head.ensures.value))))

pub returns-clause-answer : goal.returns-clause-answer
returns-clause-answer g c tells =
    let files = (g.H.Host.world c.args.host.now).files in
    let found = c.in_ok-found.ensures in
    let start = c.in_ok-reader.ensures in
    let there = standby_there files c.args.standby.now (found.test tells) in
    let stands = ap (not_standby c.args.standby.now) (sym there.1) ∙ found.test tells in
    let level = reader_of files (g.H.Host.world c.start.new.host).files c.args.standby.now c.args.file.now (found.test tells) (ap (λ (f : Files). f c.args.file.now) (start.quiet.still.files ∙ found.quiet.still.files)) g.H.Host.tells tells _ _ c.in_ok-reader.reader c.in_ok-whole.field-0 _ (ap (λ (f : Files). f c.args.file.now) found.quiet.still.files) start.answer (c.in_ok-whole.ensures.answer tells) in
    record {
      bytes = there.0;
      there = there.1;
      formed = (standby_state c.args.standby.now there.0 stands).0;
      stands = stands;
      is = found.value tells there.0 there.1;
      contents = (c.in_ok-whole.ensures.answer tells).contents;
      level = level;
      clear = c.in_ok-accept_head.ensures.test (c.in_ok-whole.ensures.answer tells).contents (sym level.head ∙ ap head_of (sym c.head.ensures.value));
    }

pub returns-in_err-whole-clause-within : goal.returns-in_err-whole-clause-within
returns-in_err-whole-clause-within g c tells =
    accept_within _ _ c.args.file.now _ _ _ _ (c.in_ok-reader.ensures.quiet.still.files ∙ c.in_ok-found.ensures.quiet.still.files) (c.read_standby.ensures.reads tells) (c.start.ensures.reads tells) (c.whole.ensures.within tells)

pub returns-in_err-accept_head-clause-within : goal.returns-in_err-accept_head-clause-within
returns-in_err-accept_head-clause-within g c tells =
    accept_within _ _ c.args.file.now _ _ _ _ (c.in_ok-reader.ensures.quiet.still.files ∙ c.in_ok-found.ensures.quiet.still.files) (c.read_standby.ensures.reads tells) (c.start.ensures.reads tells) (c.whole.ensures.within tells)

pub returns-clause-within : goal.returns-clause-within
returns-clause-within g c tells =
    accept_within _ _ c.args.file.now _ _ _ _ (c.in_ok-reader.ensures.quiet.still.files ∙ c.in_ok-found.ensures.quiet.still.files) (c.read_standby.ensures.reads tells) (c.start.ensures.reads tells) (c.whole.ensures.within tells)
