use Rattle.std.proofs.Common.{sym, subst}
use Rattle.nb_ended.specs.Shown.{ArePrintable}
use Rattle.nb_ended.proofs.ShownLaws.{text_printable}
use Rattle.nb_ended.proofs.broken.broken_by.Goals as goal

pub returns-in_ok-text-in-BadScript-clause-printable : goal.returns-in_ok-text-in-BadScript-clause-printable
returns-in_ok-text-in-BadScript-clause-printable c all = subst ArePrintable (sym c.in_ok-text-in-BadScript.ensures) (text_printable c.args.bytes.now _ c.args.wanted.now all)
