-- What a check has found, and what it answers.
use Rattle.nb_check.specs.declared.checking.Findings.{Findings}
use Rattle.nb_model.specs.declared.reply.Reply.{Reply}
use Rattle.nb_model.specs.declared.reply.Reply.TheVariants.{Leaked}

-- the leaked pages are answered
abbrev pub said_of : Findings → Reply
said_of findings = Leaked findings.leaked
