use Rattle.std.proofs.Common.{List, ℕ, sym, subst}
use Rattle.nb_fold.proofs.Common.{IsMade, IsUnfinished, is_made, Makes}
use Rattle.nb_fold.proofs.MergeLaws.{made_first, makes_or}
use Rattle.nb_fold.proofs.writing.begin.Goals as goal

pub returns-in_err-make-clause-makes : goal.returns-in_err-make-clause-makes
returns-in_err-make-clause-makes g c tells formed = let make = c.make.ensures in made_first _ _ _ _ _ tells (g.met.H.Host.timely _) make.files make.log.said make.time

pub returns-clause-makes : goal.returns-clause-makes
returns-clause-makes g c tells formed =
    let make = c.make.ensures in
    let out = c.args.out.now in
    let made : IsMade (g.H.Host.world c.make.new.self) c.args.file.now.name = subst (λ (n : List ℕ). IsMade (g.H.Host.world c.make.new.self) n) (sym c.requires) (is_made g.H.Host.tells _ _ _ out tells c.in_ok-make.ensures.files) in
    makes_or _ (g.H.Host.world c.make.new.self) _ out IsUnfinished (g.met.H.Host.reads_left _ tells out) (made_first _ _ _ _ _ tells (g.met.H.Host.timely _) make.files make.log.said make.time)
    (subst (λ (n : List ℕ). Makes (g.H.Host.world c.make.new.self) (g.H.Host.world c.begin.new.host) n IsUnfinished) c.requires (record { left = c.begin.ensures.left tells formed made; reads = c.begin.ensures.reads tells formed made }))

pub returns-clause-begun : goal.returns-clause-begun
returns-clause-begun g c tells none fresh =
    let made : IsMade (g.H.Host.world c.make.new.self) c.args.file.now.name = subst (λ (n : List ℕ). IsMade (g.H.Host.world c.make.new.self) n) (sym c.requires) (is_made g.H.Host.tells _ _ _ c.args.out.now tells c.in_ok-make.ensures.files) in
    c.begin.ensures.begun tells made none fresh
