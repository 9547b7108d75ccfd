use Rattle.std.proofs.Common.{sym, subst, refl}
use Rattle.nb_cli.proofs.Common.{IsAskedBy, EndsRun}
use Rattle.nb_cli.proofs.ReadWords.{asked_by, can_be_read}
use Rattle.std.specs.Process.{exit_status}
use Rattle.nb_cli.proofs.ArgLaws.{code_neither, code_two, memory_read, no_job_read, no_text_read}
use Rattle.nb_host.specs.Files.{Files}
use Rattle.nb_top.specs.Dangers.{IsDanger}
use Rattle.nb_cli.proofs.serve_words.Goals as goal

pub run_out-status-requires-clause-read : goal.run_out-status-requires-clause-read
run_out-status-requires-clause-read g c = can_be_read c.args.words.now c.prepared-job.result.0 c.prepared-job.ensures.read

pub returns-clause-ends : goal.returns-clause-ends
returns-clause-ends g c asked ask =
    let job = c.prepared-job.result.0 in
    let old = c.args.host.now in
    let begun = c.prepared-job.new.host in
    let begins = c.prepared-job.ensures.begins in
    let by = subst (λ (files : Files). IsAskedBy job files asked) (sym begins.still.files) (asked_by c.args.words.now job (g.H.Host.world old).files asked c.prepared-job.ensures.read ask) in
    record {
      job = job;
      script = c.prepared-job.result.1.script;
      begun = begun;
      begins = begins;
      status = c.run_out-status.result;
      ends = subst (λ (h : g.row.H.Denot). EndsRun g.H.Host.tells g.H.Host.world c.run_out-status.result begun h asked) (sym c.tell.ensures.same) (c.run_out-status.ensures.ends asked by);
      number = c.exit_code.ensures;
      end = _;
      tells_end = c.tell.ensures.told;
      tells_status = refl;
      shows = λ tells. c.run_out-status.ensures.shown asked tells by;
      danger = λ tells. subst (λ (files : Files). IsDanger c.run_out-status.result c.run_out-status.new.danger files job) begins.still.files (c.run_out-status.ensures.danger tells);
    }

pub returns-clause-no_job : goal.returns-clause-no_job
returns-clause-no_job g c =
    no_job_read c.args.words.now c.prepared-job.result.0 (exit_status c.exit_code.result) c.prepared-job.ensures.read (λ err. code_neither c.run_out-status.result (exit_status c.exit_code.result) c.exit_code.ensures (c.run_out-status.ensures.no_job err))

pub returns-clause-no_text : goal.returns-clause-no_text
returns-clause-no_text g c =
    no_text_read c.args.words.now c.prepared-job.result.0 (exit_status c.exit_code.result) c.prepared-job.ensures.read (λ err. code_neither c.run_out-status.result (exit_status c.exit_code.result) c.exit_code.ensures (c.run_out-status.ensures.no_job err))

pub returns-clause-memory : goal.returns-clause-memory
returns-clause-memory g c =
    memory_read c.args.words.now c.prepared-job.result.0 (exit_status c.exit_code.result) c.prepared-job.ensures.read (λ err. code_neither c.run_out-status.result (exit_status c.exit_code.result) c.exit_code.ensures (c.run_out-status.ensures.no_job err))
    (λ two. c.run_out-status.ensures.usage (code_two c.run_out-status.result (exit_status c.exit_code.result) c.exit_code.ensures two))
