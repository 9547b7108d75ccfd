use Rattle.std.proofs.Common.{◌∙◌, ap, not, List, ℕ, rules}
use Rattle.std.proofs.lemmas.Fn.{filter_same}
use Rattle.nb_host.specs.Names.{same_name}
use Rattle.nb_file.proofs.AbsentLaws.{has_left, has_other}
use Rattle.nb_file.specs.Absent.{has_name}
use Rattle.nb_file.proofs.absent.Absent.forget.Goals as goal

pub returns-clause-gone : goal.returns-clause-gone
returns-clause-gone c =
    ap (λ (names : List (List ℕ)). has_name names c.args.name.now) (filter_same _ (λ own. not (same_name own c.args.name.now)) _ (λ x b f' k. search rules) _ _ c.retain.ensures.filtered)
    ∙ has_left c.self.inside.names.items c.args.name.now

pub returns-clause-others : goal.returns-clause-others
returns-clause-others c other apart =
    ap (λ (names : List (List ℕ)). has_name names other) (filter_same _ (λ own. not (same_name own c.args.name.now)) _ (λ x b f' k. search rules) _ _ c.retain.ensures.filtered)
    ∙ has_other c.self.inside.names.items c.args.name.now other apart ∙ ap (λ (names : List (List ℕ)). has_name names other) c.self.view_is
