use Rattle.std.proofs.Common.{◌∙◌, ℕ, List, ◌++◌, ap, codes}
use Rattle.nb_gen.proofs.Common.{decimal}
use Rattle.nb_gen.proofs.LineLaws.{with_number}
use Rattle.nb_gen.proofs.script.put_head.Goals as goal

pub returns : goal.returns
returns c =
    c.in_ok-extend_from_slice-2.ensures.items
    ∙ ap (λ (l : List ℕ). l ++ codes "\n1: create table t\n") (c.in_ok-put_number.ensures ∙ ap (λ (l : List ℕ). l ++ decimal c.args.n) c.in_ok-extend_from_slice.ensures.items)
    ∙ with_number c.args.out.now.items (codes "1: create database 'gen.db' page_size 4096 raw 100\n") (codes "seed ") (decimal c.args.n) (codes "1: create table t\n")
