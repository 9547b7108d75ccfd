use Rattle.std.proofs.Common.{◌∙◌, ℕ, List, ◌++◌, ap, codes}
use Rattle.nb_gen.proofs.Common.{decimal, ended, generated, lines_from}
use Rattle.nb_gen.proofs.LineLaws.{all_parts}
use Rattle.nb_gen.proofs.script.generate.Goals as goal

pub returns-clause-script : goal.returns-clause-script
unfolding generated
returns-clause-script c =
    let n = c.args.n in
    let first : List ℕ = ended (codes "1: create database 'gen.db' page_size 4096 raw 100") in
    let second : List ℕ = ended (codes "seed " ++ decimal n) in
    let third : List ℕ = ended (codes "1: create table t") in
    c.in_ok-extend_from_slice.ensures.items
    ∙ ap (λ (l : List ℕ). l ++ ended (codes "1: show pages")) (c.in_ok-put_lines.ensures ∙ ap (λ (l : List ℕ). l ++ lines_from 1000 1 n) (c.in_ok-put_head.ensures ∙ ap (λ (l : List ℕ). l ++ (first ++ (second ++ third))) c.new-out.ensures.items))
    ∙ all_parts first second third (lines_from 1000 1 n) (ended (codes "1: show pages"))
