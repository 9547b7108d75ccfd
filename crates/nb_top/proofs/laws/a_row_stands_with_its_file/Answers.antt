use Rattle.nb_top.proofs.RowLaws.{file_first, row_with_file}
use Rattle.nb_top.proofs.laws.a_row_stands_with_its_file.Goals as goal

pub returns-clause-file : goal.returns-clause-file
returns-clause-file g c = λ account target before behind closing name bytes files said is left. file_first closing behind name bytes is (g.H.Host.world c.args._before.now) account target before files said left

pub returns-clause-row : goal.returns-clause-row
returns-clause-row g c = λ account t before behind closing name bytes files said is left. row_with_file closing behind name bytes is (g.H.Host.world c.args._before.now) account t before files said left
