use Rattle.std.proofs.Common.{◌≡◌, List, ℕ, take, drop, length, refl, sym, ap, ◌∙◌, arith}
use Rattle.nb_level.proofs.Common.{bytes_of, Reading}
use Rattle.nb_level.proofs.NextLaws.{read_cut, read_whole, run-cut, run-more}
use Rattle.nb_level.proofs.reader.LevelReader.next_in_run.Goals as goal

pub returns-then-count-into-clause-answer : goal.returns-then-count-into-clause-answer
returns-then-count-into-clause-answer g c =
    let i = c.self.inside in
    let r : Reading = record { name = i.name; version = i.version; head = i.head; place = i.place } in
    let bytes : List ℕ = bytes_of ((g.H.Host.world c.args.host.now).files i.name) in
    let view : r ≡ c.args.self.now = c.self.view_is in
    let size : length c.args.into.now ≡ i.head.page_size = c.requires.size ∙ sym (ap (λ (v : Reading). v.head.page_size) view) in
    let version : i.version ≡ 102 = ap (λ (v : Reading). v.version) view ∙ c.requires.run.0 in
    rw (c.broken.ensures, ← c.self.view_is) (
      refl,
      refl,
      λ told.
          let read = c.in_ok-count.ensures.answer told in
          let cut = read_cut (length c.args.into.now) c.in_ok-count.count c.read_at.new.into (drop i.place.at bytes) (omega arith) read.bytes (omega arith) in
          run-cut bytes r version (omega (arith, ap (λ (v : Reading). v.place.left) view, c.requires.run.1)) c.in_ok-count.count cut (omega (arith, size)),
    )

pub returns-clause-answer : goal.returns-clause-answer
returns-clause-answer g c =
    let i = c.self.inside in
    let r : Reading = record { name = i.name; version = i.version; head = i.head; place = i.place } in
    let bytes : List ℕ = bytes_of ((g.H.Host.world c.args.host.now).files i.name) in
    let view : r ≡ c.args.self.now = c.self.view_is in
    let size : length c.args.into.now ≡ i.head.page_size = c.requires.size ∙ sym (ap (λ (v : Reading). v.head.page_size) view) in
    let version : i.version ≡ 102 = ap (λ (v : Reading). v.version) view ∙ c.requires.run.0 in
    rw (← c.self.view_is) (λ told.
    let read = c.in_ok-count.ensures.answer told in
    let rest : List ℕ = drop i.place.at bytes in
    let got : c.in_ok-count.count ≡ i.head.page_size = omega (arith, size) in
    let whole = read_whole i.head.page_size c.read_at.new.into rest (omega (arith, size)) (window c.in_ok-count.count i.head.page_size (length c.args.into.now) c.read_at.new.into rest read.bytes got size) in
    run-more bytes r version (omega (arith, ap (λ (v : Reading). v.place.left) view, c.requires.run.1)) c.in_ok-count.count c.read_at.new.into got whole.0 whole.1 _ refl) where
      window : (count size room : ℕ) (after rest : List ℕ) → take count after ≡ take room rest → count ≡ size → room ≡ size → take size after ≡ take size rest
      window count size room after rest same one two = ap (λ n. take n after) (sym one) ∙ same ∙ ap (λ n. take n rest) two
