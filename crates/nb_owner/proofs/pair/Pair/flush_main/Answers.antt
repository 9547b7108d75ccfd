use Rattle.std.proofs.Common.{arith, ◌*◌, List, ℕ, subst, ap}
use Rattle.nb_owner.proofs.Common.{Only, Changes, composed, StandsIn}
use Rattle.nb_base.specs.Stays.{KeepsFile, EndsWithin}
use Rattle.nb_base.proofs.StaysLaws.{keeps_joined}
use Rattle.nb_owner.proofs.pair.Pair.flush_main.Goals as goal

pub returns-in_err-flush_first-clause-left : goal.returns-in_err-flush_first-clause-left
returns-in_err-flush_first-clause-left g c t tells is normal =
    let waiting = is.waits.each c.requires.some.0 c.requires.some.1 c.requires.some.2 in
    c.flush_first.ensures.left t tells is waiting.unsettled normal

pub returns-clause-left : goal.returns-clause-left
returns-clause-left g c t tells is normal =
    let old = g.H.Host.world c.args.host.now in
    let mid = g.H.Host.world c.flush_first.new.host in
    let new = g.H.Host.world c.flush_pages.new.host in
    let name = c.args.self.now.files.name in
    let waiting = is.waits.each c.requires.some.0 c.requires.some.1 c.requires.some.2 in
    let out = c.in_ok-flush_first.ensures.out t is tells waiting.unsettled normal in
    composed old mid new (Only name) (StandsIn name t) (StandsIn name t) (StandsIn name t) (c.flush_first.ensures.left t tells is waiting.unsettled normal)
    (subst (λ (n : List ℕ). Changes mid new (Only n) (StandsIn n t)) (ap (λ f. f.name) c.flush_first.ensures.files) (c.flush_pages.ensures.left is.sees t tells out.0 out.1)) (λ files so. so) (λ files so. so)

pub returns-clause-out : goal.returns-clause-out
returns-clause-out g c t tells is normal =
    let waiting = is.waits.each c.requires.some.0 c.requires.some.1 c.requires.some.2 in
    let out = c.in_ok-flush_first.ensures.out t is tells waiting.unsettled normal in
    c.flush_pages.ensures.out is.sees t tells out.0 out.1

pub returns-in_err-flush_first-clause-within : goal.returns-in_err-flush_first-clause-within
returns-in_err-flush_first-clause-within g c t most tells is normal long = c.flush_first.ensures.within most tells (λ p rank at. omega (arith, (is.waits.each p rank at).low, long))

pub returns-clause-within : goal.returns-clause-within
returns-clause-within g c t most tells is normal long =
    let mid = g.H.Host.world c.flush_first.new.host in
    let new = g.H.Host.world c.flush_pages.new.host in
    let waiting = is.waits.each c.requires.some.0 c.requires.some.1 c.requires.some.2 in
    let out = c.in_ok-flush_first.ensures.out t is tells waiting.unsettled normal in
    keeps_joined _ mid new c.args.self.now.files.name _ (c.flush_first.ensures.within most tells (λ p rank at. omega (arith, (is.waits.each p rank at).low, long)))
    (subst (λ (f : Rattle.nb_base.specs.Open.Held). KeepsFile mid new f.name (EndsWithin (most * f.page_size))) c.flush_first.ensures.files (c.flush_pages.ensures.within most tells (λ p rank at. omega (arith, (out.0.each p rank at).low, long))))
