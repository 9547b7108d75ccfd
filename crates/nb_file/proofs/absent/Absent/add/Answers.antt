use Rattle.std.proofs.Common.{◌∙◌, ap, List, ℕ, [], ◌∷◌, ◌++◌}
use Rattle.nb_file.proofs.AbsentLaws.{has_added}
use Rattle.nb_file.specs.Absent.{has_name}
use Rattle.nb_file.proofs.absent.Absent.add.Goals as goal

pub returns-clause-added : goal.returns-clause-added
returns-clause-added c = ap (λ (names : List (List ℕ)). has_name names c.args.name.now) (c.in_ok-push.ensures.items ∙ ap (λ (name : List ℕ). c.self.inside.names.items ++ name ∷ []) c.copied.ensures) ∙ has_added c.self.inside.names.items c.args.name.now
