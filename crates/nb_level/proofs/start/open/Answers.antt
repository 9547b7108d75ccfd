use Rattle.std.proofs.Common.{ℕ, List, take, arith, sym, ◌∙◌}
use Rattle.nb_level.proofs.Common.{bytes_of}
use Rattle.nb_level.proofs.StartLaws.{start-broken, start-begun, start-first, front_whole}
use Rattle.nb_level.proofs.start.open.Goals as goal

pub returns-in-Some-clause-answer : goal.returns-in-Some-clause-answer
returns-in-Some-clause-answer g c =
    let bytes : List ℕ = bytes_of ((g.H.Host.world c.args.host.now).files c.args.name.now) in
    (c.copied.ensures, λ told. start-broken bytes (take c.in_ok-got.got c.read_at.new.into) c.in-Some.at (c.in_ok-got.ensures.answer told).bytes c.in-Some.ensures.place)

pub returns-in_ok-reader-in-None-clause-answer : goal.returns-in_ok-reader-in-None-clause-answer
returns-in_ok-reader-in-None-clause-answer g c =
    let bytes : List ℕ = bytes_of ((g.H.Host.world c.args.host.now).files c.args.name.now) in
    let seen : List ℕ = take c.in_ok-got.got c.read_at.new.into in
    let begun = c.in_ok-reader-in-None.ensures in (
      begun.file,
      λ told.
          let read = (c.in_ok-got.ensures.answer told).bytes in
          let whole = front_whole c.in_ok-got.got 52 c.read_at.new.into (omega arith) c.in-None.ensures.form.0 in
          start-begun bytes seen c.read_at.new.into c.args.name.now c.in_ok-reader-in-None.reader read (sym whole ∙ read) c.in-None.ensures.place begun,
    )

pub returns-in_ok-reader-in-None-clause-first : goal.returns-in_ok-reader-in-None-clause-first
returns-in_ok-reader-in-None-clause-first g c told =
    let whole = front_whole c.in_ok-got.got 52 c.read_at.new.into (omega arith) c.in-None.ensures.form.0 in
    start-first _ c.read_at.new.into c.args.name.now c.in_ok-reader-in-None.reader (sym whole ∙ (c.in_ok-got.ensures.answer told).bytes) c.in_ok-reader-in-None.ensures
