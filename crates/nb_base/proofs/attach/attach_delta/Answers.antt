use Rattle.std.proofs.Common.{arith}
use Rattle.nb_base.proofs.AttachLaws.{blank_for}
use Rattle.nb_base.proofs.OpeningReads.{none_read, table_read}
use Rattle.nb_base.proofs.attach.attach_delta.Goals as goal

pub returns-then-start-eq0-clause-answer : goal.returns-then-start-eq0-clause-answer
returns-then-start-eq0-clause-answer g c tells = record {
  normal = λ e. blank_for c.blank.result _ _ c.blank.ensures.ok c.blank.ensures.only_memory;
  other = λ some. absurd (omega (arith, some, c.if-start-eq0.true));
}

pub returns-clause-answer : goal.returns-clause-answer
returns-clause-answer g c tells = record {
  normal = λ e. absurd (c.if-start-eq0.false e);
  other = λ some. c.attach.ensures.answer tells;
}

pub returns-then-start-eq0-clause-reads : goal.returns-then-start-eq0-clause-reads
returns-then-start-eq0-clause-reads g c tells = none_read c.blank.result _ _ _

pub returns-clause-reads : goal.returns-clause-reads
returns-clause-reads g c tells = table_read c.attach.result _ _ _ _ c.if-start-eq0.false (c.attach.ensures.reads tells)
