use Rattle.std.proofs.Common.{refl, ◌∙◌, arith}
use Rattle.nb_cache.proofs.Common.{last_entry}
use Rattle.nb_cache.proofs.ShownLaws.{slot_of-found, slot_of-absent, waiting-shown, last-shown}
use Rattle.nb_cache.proofs.cache.Cache.would_drop.Goals as goal

pub returns-in-Some : goal.returns-in-Some
returns-in-Some c =
    let es = c.self.inside.frames.entries in
    let held = c.self.inside.held in
    let found = c.in-Some.ensures held c.self.invariant.1 (omega arith) in
    rw (← c.self.view_is, slot_of-found es held c.args.page c.in-Some.field-0 found) refl

pub returns-in-None : goal.returns-in-None
returns-in-None c =
    let es = c.self.inside.frames.entries in
    let held = c.self.inside.held in
    let none = c.in-None.ensures held c.self.invariant.1 (omega arith) in
    rw (← c.self.view_is, slot_of-absent es held c.args.page none, last-shown es c.self.inside.cap held c.self.invariant.0.all_there c.if-self.false)
    (c.waiting_last.ensures ∙ waiting-shown (last_entry es))
