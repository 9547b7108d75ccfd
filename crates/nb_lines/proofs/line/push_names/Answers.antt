use Rattle.std.proofs.Common.{◌≡◌, ℕ, List, [], ◌∷◌, ◌++◌, sym, subst, arith}
use Rattle.nb_lines.proofs.Common.{append-nil, spaced, is}
use Rattle.nb_lines.proofs.WordLaws.{one_name_more}
use Rattle.nb_lines.proofs.line.push_names.Goals as goal

pub loop-name-init : goal.loop-name-init
unfolding spaced
loop-name-init c = sym (append-nil c.args.line.now.items)

pub loop-name-preserved : goal.loop-name-preserved
loop-name-preserved c =
    let name : List ℕ = c.name-item.result in
    one_name_more c.args.names.now c.loop-name.name-index name c.args.line.now.items c.loop-name.line.items c.push_words.new.line.items (omega arith) c.loop-name.invariant
    (subst (λ (n : List ℕ). c.push_words.new.line.items ≡ c.loop-name.line.items ++ spaced (is n ∷ [])) c.name-item.is c.in_ok-push_words.ensures)
