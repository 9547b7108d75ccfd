use Rattle.std.proofs.Common.{ap, arith}
use Rattle.nb_chain.proofs.MostLaws.{level_whole}
use Rattle.nb_level.specs.declared.head.LevelHead.{LevelHead}
use Rattle.nb_chain.proofs.level_file.whole.Goals as goal

pub returns-in_err-reader-clause-within : goal.returns-in_err-reader-clause-within
returns-in_err-reader-clause-within g c tells = omega (arith, c.in_err-reader.ensures.reads tells)

pub returns-in_err-page-clause-within : goal.returns-in_err-page-clause-within
returns-in_err-page-clause-within g c tells = omega (arith, c.in_ok-reader.ensures.reads tells)

pub returns-in_err-read_to_end-clause-within : goal.returns-in_err-read_to_end-clause-within
returns-in_err-read_to_end-clause-within g c tells =
    let start = c.in_ok-reader.ensures in
    level_whole _ _ _ _ c.in_ok-reader.reader _ _ _ _ start.answer.0 (start.answer.1 tells).1 start.quiet.still.files (start.first tells) (ap (λ (h : LevelHead). h.page_size) c.head-head.ensures.value) c.head-head.ensures.size
    (c.read_to_end.ensures.within tells) (start.reads tells)

pub returns-clause-within : goal.returns-clause-within
returns-clause-within g c tells =
    let start = c.in_ok-reader.ensures in
    level_whole _ _ _ _ c.in_ok-reader.reader _ _ _ _ start.answer.0 (start.answer.1 tells).1 start.quiet.still.files (start.first tells) (ap (λ (h : LevelHead). h.page_size) c.head-head.ensures.value) c.head-head.ensures.size
    (c.read_to_end.ensures.within tells) (start.reads tells)
