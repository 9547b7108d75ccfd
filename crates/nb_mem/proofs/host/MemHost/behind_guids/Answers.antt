use Rattle.std.proofs.Common.{List, ◌∙◌, sym, ap, subst}
use Rattle.nb_mem.proofs.Common.{IsStill, guids_of, with_guids, world_of, Memory, Entry}
use Rattle.nb_mem.proofs.GuidLaws.{given_guids, given_still}
use Rattle.nb_mem.proofs.host.MemHost.behind_guids.Goals as goal

pub returns-clause-still : goal.returns-clause-still
returns-clause-still c =
    let is = c.in_ok-give_guids.ensures ∙ ap (λ (m : Memory). with_guids c.args.count m.history) c.self.view_is in
    subst (λ (es : List Entry). IsStill (world_of c.args.self.history) (world_of es)) (sym is) (given_still c.args.count c.args.self.history)

pub returns-clause-guids : goal.returns-clause-guids
returns-clause-guids c =
    let is = c.in_ok-give_guids.ensures ∙ ap (λ (m : Memory). with_guids c.args.count m.history) c.self.view_is in
    ap guids_of is ∙ given_guids c.args.count c.args.self.history
