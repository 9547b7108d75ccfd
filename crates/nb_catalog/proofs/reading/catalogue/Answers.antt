use Rattle.std.proofs.Common.{ℕ, ◌+◌, List, [], ◌∷◌, length, ap, subst, ◌∙◌, length-append, arith, Ok, Err}
use Rattle.nb_catalog.proofs.Common.{File, Files, LevelHead, Says, read_file, read_files, all_reads, file_most, files_most, reads_of, passed}
use Rattle.nb_page.proofs.QuietLaws.{quiet_joined}
use Rattle.nb_catalog.proofs.ChainLaws.{points_chained}
use Rattle.nb_catalog.proofs.FileLaws.{most_same, reads_more, reads_all, read_more, read_fault, read_all}
use Rattle.nb_catalog.proofs.reading.catalogue.Goals as goal

pub returns-in_err-head-clause-answer : goal.returns-in_err-head-clause-answer
returns-in_err-head-clause-answer g c tells =
    let loop = c.loop-name.invariant in
    let files : Files = (g.H.Host.world c.args.host.now).files in
    let name : List ℕ = c.name-item.result in
    let fault = c.in_err-head.field-0.0 in
    passed _ (λ r. Says (read_files files c.args.files.now) r) c.from_residual.result fault c.from_residual.ensures
    (read_fault files c.args.files.now c.loop-name.catalogue c.loop-name.name-index (loop.so_far tells) name name c.name-item.is c.loop-name-test.true fault
    (subst (λ (f : File). Says {T = LevelHead} (read_file name f) (Err fault)) (ap (λ (f : Files). f name) loop.quiet.still.files) (c.in_err-head.ensures.answer tells)))

pub loop-name-preserved : goal.loop-name-preserved
loop-name-preserved g c =
    let loop = c.loop-name.invariant in
    record {
      quiet = quiet_joined _ _ _ loop.quiet c.read_head.ensures.quiet;
      cause = c.in_ok-head.ensures.cause ∙ loop.cause;
      count = ap length c.in_ok-add.ensures ∙ length-append c.loop-name.catalogue (c.in_ok-head.head ∷ []) ∙ ap (λ (n : ℕ). n + 1) loop.count;
      so_far = λ tells.
          let files : Files = (g.H.Host.world c.args.host.now).files in
          let name : List ℕ = c.name-item.result in
          read_more files c.args.files.now c.loop-name.catalogue c.loop-name.name-index (loop.so_far tells) name name c.name-item.is c.loop-name-test.true c.in_ok-head.head c.add.new.self
          (subst (λ (f : File). Says {T = LevelHead} (read_file name f) (Ok c.in_ok-head.head)) (ap (λ (f : Files). f name) loop.quiet.still.files) (c.in_ok-head.ensures.answer tells)) c.in_ok-add.ensures;
      reads = λ tells.
          let files : Files = (g.H.Host.world c.args.host.now).files in
          let name : List ℕ = c.name-item.result in
          let same = ap (λ (f : Files). reads_of (f name)) loop.quiet.still.files in
          reads_more (λ m. reads_of (files m)) c.args.files.now c.loop-name.name-index name (g.H.Host.world c.args.host.now).reads (g.H.Host.world c.loop-name.host).reads (g.H.Host.world c.read_head.new.host).reads (all_reads files c.args.files.now) c.name-item.is
          c.loop-name-test.true (loop.reads tells) (omega (arith, c.in_ok-head.ensures.reads tells, same));
      within = λ tells.
          let files : Files = (g.H.Host.world c.args.host.now).files in
          let name : List ℕ = c.name-item.result in
          let read = c.read_head.ensures.within tells in
          let same = ap (λ (f : Files). file_most (f name)) loop.quiet.still.files in
          reads_more (λ m. file_most (files m)) c.args.files.now c.loop-name.name-index name _ _ _ (files_most files c.args.files.now) c.name-item.is c.loop-name-test.true (loop.within tells) (most_same _ _ _ _ same read);
    }

pub returns-clause-answer : goal.returns-clause-answer
returns-clause-answer g c tells =
    read_all (g.H.Host.world c.args.host.now).files c.args.files.now c.loop-name.catalogue c.loop-name.name-index (c.loop-name.invariant.so_far tells) c.loop-name-test.false

pub returns-clause-chained : goal.returns-clause-chained
returns-clause-chained g c tells =
    let files : Files = (g.H.Host.world c.args.host.now).files in
    points_chained files c.args.files.now c.loop-name.catalogue (read_all files c.args.files.now c.loop-name.catalogue c.loop-name.name-index (c.loop-name.invariant.so_far tells) c.loop-name-test.false)

pub returns-clause-reads : goal.returns-clause-reads
returns-clause-reads g c tells =
    let files : Files = (g.H.Host.world c.args.host.now).files in
    reads_all (λ m. reads_of (files m)) c.args.files.now c.loop-name.name-index (g.H.Host.world c.args.host.now).reads (g.H.Host.world c.loop-name.host).reads (all_reads files c.args.files.now) (c.loop-name.invariant.reads tells)

pub returns-in_err-head-clause-within : goal.returns-in_err-head-clause-within
returns-in_err-head-clause-within g c tells =
    let loop = c.loop-name.invariant in
    let files : Files = (g.H.Host.world c.args.host.now).files in
    let name : List ℕ = c.name-item.result in
    let read = c.read_head.ensures.within tells in
    let same = ap (λ (f : Files). file_most (f name)) loop.quiet.still.files in
    reads_all (λ m. file_most (files m)) c.args.files.now (c.loop-name.name-index + 1) _ _ (files_most files c.args.files.now)
    (reads_more (λ m. file_most (files m)) c.args.files.now c.loop-name.name-index name _ _ _ (files_most files c.args.files.now) c.name-item.is c.loop-name-test.true (loop.within tells) (most_same _ _ _ _ same read))

pub returns-in_err-add-clause-within : goal.returns-in_err-add-clause-within
returns-in_err-add-clause-within g c tells =
    let loop = c.loop-name.invariant in
    let files : Files = (g.H.Host.world c.args.host.now).files in
    let name : List ℕ = c.name-item.result in
    let read = c.read_head.ensures.within tells in
    let same = ap (λ (f : Files). file_most (f name)) loop.quiet.still.files in
    reads_all (λ m. file_most (files m)) c.args.files.now (c.loop-name.name-index + 1) _ _ (files_most files c.args.files.now)
    (reads_more (λ m. file_most (files m)) c.args.files.now c.loop-name.name-index name _ _ _ (files_most files c.args.files.now) c.name-item.is c.loop-name-test.true (loop.within tells) (most_same _ _ _ _ same read))

pub returns-clause-within : goal.returns-clause-within
returns-clause-within g c tells =
    let files : Files = (g.H.Host.world c.args.host.now).files in
    reads_all (λ m. file_most (files m)) c.args.files.now c.loop-name.name-index _ _ (files_most files c.args.files.now) (c.loop-name.invariant.within tells)
