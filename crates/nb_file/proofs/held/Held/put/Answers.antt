use Rattle.nb_file.proofs.HeldLaws.{measured_after}
use Rattle.nb_file.proofs.PartLaws.{empty_part}
use Rattle.nb_file.proofs.held.Held.put.Goals as goal

pub invariant_of-self-2 : goal.invariant_of-self-2
invariant_of-self-2 g c = record {
  measured = λ told sure. measured_after c.put_whole-outcome.result c.args.self.now.state.is_lost _ c.is_ok.result c.args.self.now.state.len _ c.args.at c.in-Some.end _ _ c.args.bytes.now
      c.is_ok.ensures.value c.wrote-2.ensures.lost c.wrote-2.ensures.len c.in-Some.ensures.1 (c.args.self.now.measured told) (c.put_whole-outcome.ensures.bytes told) sure;
  fetched = λ told. empty_part c.forget.new.self.at c.forget.new.self.count c.forget.new.self.bytes.items _ c.forget.ensures;
}
