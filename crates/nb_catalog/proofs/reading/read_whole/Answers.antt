use Rattle.std.proofs.Common.{ℕ, List}
use Rattle.nb_catalog.proofs.Common.{File, LevelHead, Says, read_file, passed}
use Rattle.nb_catalog.proofs.HeadLaws.{first_once, whole_fault, whole_read}
use Rattle.nb_catalog.proofs.reading.read_whole.Goals as goal

pub returns-in_err-page_size-clause-answer : goal.returns-in_err-page_size-clause-answer
returns-in_err-page_size-clause-answer g c tells begins =
    let name : List ℕ = c.args.name.now in
    let file : File = (g.H.Host.world c.args.host.now).files name in
    let fault = c.in_err-page_size.field-0.0 in
    passed LevelHead (λ r. Says (read_file name file) r) c.from_residual.result fault c.from_residual.ensures (whole_fault file name fault begins (c.in_err-page_size.ensures.answer tells))

pub returns-clause-answer : goal.returns-clause-answer
returns-clause-answer g c tells begins = whole_read ((g.H.Host.world c.args.host.now).files c.args.name.now) c.args.name.now c.in_ok-page_size.field-0 begins (c.in_ok-page_size.ensures.answer tells)

pub returns-in_err-page_size-clause-once : goal.returns-in_err-page_size-clause-once
returns-in_err-page_size-clause-once g c tells begins = first_once _ _ _ begins (c.read_first.ensures.within tells)

pub returns-clause-once : goal.returns-clause-once
returns-clause-once g c tells begins = first_once _ _ _ begins (c.read_first.ensures.within tells)
