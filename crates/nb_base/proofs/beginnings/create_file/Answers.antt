use Rattle.std.proofs.Common.{sym, ◌∙◌}
use Rattle.nb_base.proofs.Common.{fresh_length}
use Rattle.nb_base.proofs.CreatedLaws.{quiet_then, quiet_then_reads, not_taken, failed}
use Rattle.nb_base.proofs.beginnings.create_file.Goals as goal

pub returns-in_err-make_file-clause-creates : goal.returns-in_err-make_file-clause-creates
returns-in_err-make_file-clause-creates g c tells =
    failed _ _ _ _ _ c.from_residual-in_err-make_file.ensures.1 (quiet_then _ _ _ _ _ c.in_ok-is_free.ensures.quiet (c.in_err-make_file.ensures.left tells))
    (quiet_then_reads _ _ _ _ (g.H.Host.world c.make_file.new.host).files c.in_ok-is_free.ensures.quiet (c.in_err-make_file.ensures.reads tells))
    (not_taken _ _ _ _ c.if-not-branch.false (c.in_ok-is_free.ensures.answer tells))

pub returns-clause-creates : goal.returns-clause-creates
returns-clause-creates g c tells = record {
  answer = (
    sym (c.in_ok-is_free.ensures.answer tells) ∙ c.if-not-branch.false,
    c.fresh_count-count.ensures.value ∙ sym (fresh_length _ _),
    c.in_ok-make_file.ensures.made tells,
  );
  left = quiet_then _ _ _ _ _ c.in_ok-is_free.ensures.quiet (c.in_ok-make_file.ensures.left tells);
  reads = quiet_then_reads _ _ _ _ (g.H.Host.world c.make_file.new.host).files c.in_ok-is_free.ensures.quiet (c.in_ok-make_file.ensures.reads tells);
  taken = not_taken _ _ _ _ c.if-not-branch.false (c.in_ok-is_free.ensures.answer tells);
}
