use Rattle.std.proofs.Common.{rules, ◌≡◌, ℕ, List, length, drop, subst, sym}
use Rattle.nb_alloc.proofs.Common.{take_at, scn_kind, not_kind, Reads}
use Rattle.nb_alloc.proofs.pages.ScnPage.read.Goals as goal

pub returns-clause-reads : goal.returns-clause-reads
returns-clause-reads g c t tells is =
    let whole : length c.read_system.new.into ≡ c.self.inside.bytes.len = search rules in
    subst (λ (bytes : List ℕ). Reads c.read_system.result t.base.image (not_kind t.base.image scn_kind c.args.place) c.args.place bytes)
    (sym (take_at c.read_system.new.into (drop (length c.read_system.new.into) c.self.inside.bytes.items) c.self.inside.bytes.len whole)) (c.read_system.ensures.reads t tells is)
