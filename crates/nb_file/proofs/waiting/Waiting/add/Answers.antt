use Rattle.std.proofs.Common.{◌≡◌, ◌++◌, List, ℕ, ap, sym, ◌∙◌, Result, is_ok, if◌then◌else◌, OnOk, Ok, Err}
use Rattle.nb_file.proofs.Common.{put_at, seen}
use Rattle.nb_file.proofs.GatheredLaws.{seen-more}
use Rattle.nb_file.proofs.waiting.Waiting.add.Goals as goal

pub returns-else-is_empty-clause-seen : goal.returns-else-is_empty-clause-seen
returns-else-is_empty-clause-seen c =
    added c.extend_from_slice.result c.extend_from_slice.new.self.items c.extend_from_slice.ensures.items
  where
    added : {E : Type 0} (r : Result Unit E) (items : List ℕ) → items ≡ if◌then◌else◌ (is_ok r) (c.args.self.now.bytes.items ++ c.args.bytes.now) c.args.self.now.bytes.items
        → OnOk r ((file : List ℕ) → seen c.args.self.now.name c.args.self.now.at items c.args.name.now file ≡ put_at (seen c.args.self.now.name c.args.self.now.at c.args.self.now.bytes.items c.args.name.now file) c.args.at c.args.bytes.now)
    added (Ok u) items is = λ file. ap (λ (l : List ℕ). seen c.args.self.now.name c.args.self.now.at l c.args.name.now file) is
        ∙ seen-more c.args.self.now.name c.args.self.now.at c.args.self.now.bytes.items c.args.bytes.now c.args.name.now c.args.at (sym c.is_empty.ensures ∙ c.if-is_empty.false) c.requires.next c.requires.mine file
    added (Err e) items is = tt
