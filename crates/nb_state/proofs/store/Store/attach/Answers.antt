use Rattle.std.proofs.Common.{refl, ◌∙◌, arith}
use Rattle.nb_state.proofs.Common.{size_facts}
use Rattle.nb_state.proofs.BeginLaws.{attached, open_read}
use Rattle.nb_state.proofs.store.Store.attach.Goals as goal

pub front_of-front-requires : goal.front_of-front-requires
front_of-front-requires g c =
    let pair = c.in_ok-pair.ensures in
    let size = size_facts c.in_ok-pair.pair.files.page_size pair.page_size in
    omega (arith, size.at_least, pair.long, c.deref.ensures.len)

pub returns-clause-attaches : goal.returns-clause-attaches
returns-clause-attaches g c tells =
    let pair = c.in_ok-pair.ensures in
    let front = c.front_of-front.result in
    let is = c.front_of-front.ensures in
    let new = g.H.Host.world c.attach.new.host in
    attached _ c.in_ok-pair.pair _ new c.args.name.now (pair.attaches tells) pair.blank.none (pair.durable tells) refl refl (λ t files open_. open_read new c.in_ok-pair.pair t _ open_ (c.deref.ensures.value ∙ pair.page t tells files) front.scn front.guid front.read_only is.four is.scn is.guid is.read_only)
