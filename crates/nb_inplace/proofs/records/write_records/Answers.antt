use Rattle.std.proofs.Common.{◌≡◌, ℕ, List, length, refl, ap, subst, ◌∙◌, arith, Contains}
use Rattle.nb_inplace.proofs.Common.{Files, World, Changes, Only, Moved, gave_begun, nothing_joined, Numbered, Reading, Overwrites, IsTaken, KeepsHalf, pages_with, passed}
use Rattle.nb_inplace.proofs.RecordLaws.{half_none, half_joined, half_still, none_written, is_record, one_written, all_written, reader_stops, number_low}
use Rattle.nb_restore.proofs.MostLaws.{read_none, read_next, read_ends}
use Rattle.nb_inplace.proofs.records.write_records.Goals as goal

-- records of pages of the same size
sized : (old new : World) (name : List ℕ) (records : List Numbered) (m n : ℕ) → m ≡ n → Changes old new (Only name) (Moved old name (KeepsHalf m records)) → Changes old new (Only name) (Moved old name (KeepsHalf n records))
sized old new name records m n same = subst (λ (k : ℕ). Changes old new (Only name) (Moved old name (KeepsHalf k records))) same

pub loop-number-init : goal.loop-number-init
loop-number-init g c = record {
  same = refl;
  left = λ tells records apart coming. half_none _ _ records _ (g.met.H.Host.timely _);
  so_far = λ tells records apart coming. none_written _ _ _ _ _ _ _ coming;
  within = λ tells records apart coming. read_none _ _ _ _ coming;
  gave = gave_begun _;
  cause = refl;
  most = c.requires.most;
}

pub returns-in_err-number-clause-left : goal.returns-in_err-number-clause-left
returns-in_err-number-clause-left g c tells records apart coming =
    let next = c.next.ensures in half_still _ _ records _ _ _ (c.loop-number.invariant.left tells records apart coming) (g.met.H.Host.timely _) next.files next.log.said next.time

pub returns-in_err-number-clause-pages : goal.returns-in_err-number-clause-pages
returns-in_err-number-clause-pages g c tells records apart coming =
    let loop = c.loop-number.invariant in
    passed ℕ (λ r. IsTaken r (λ count. (count ≡ pages_with records c.args.pages) × Overwrites (length c.args.page.now) records ((g.H.Host.world c.args.host.now).files c.args.standby.now) ((g.H.Host.world c.next.new.host).files c.args.standby.now) c.args.first.now c.loop-number.first))
    c.from_residual.result c.in_err-number.field-0.0 c.from_residual.ensures
    (reader_stops _ c.loop-number.reader records g.H.Host.tells tells _ _ (ap (λ (r : Reading). (g.H.Host.world c.loop-number.host).files r.name) loop.same ∙ (loop.left tells records apart coming).others_read _ apart) _ _ _ _ _ _ (loop.so_far tells records apart coming)
    ℕ _ c.next.new.self c.next.new.into c.in_err-number.field-0.0 c.in_err-number.ensures.answer)

pub returns-in_err-put_page-clause-left : goal.returns-in_err-put_page-clause-left
returns-in_err-put_page-clause-left g c tells records apart coming =
    let loop = c.loop-number.invariant in
    let next = c.in_ok-number.ensures in
    let there : Contains records (c.in-PageAt.number, c.next.new.into) =
    is_record _ c.loop-number.reader records g.H.Host.tells tells _ _ (ap (λ (r : Reading). (g.H.Host.world c.loop-number.host).files r.name) loop.same ∙ (loop.left tells records apart coming).others_read _ apart) _ _ _ _ _ _ (loop.so_far tells records apart coming)
    c.next.new.self c.in_ok-number.field-0 c.in-PageAt.number c.next.new.into c.in-PageAt.is next.answer in
    half_joined _ _ records _ _ _ (half_still _ _ records _ _ _ (loop.left tells records apart coming) (g.met.H.Host.timely _) next.files next.log.said next.time)
    (sized _ _ _ records _ _ (c.next.auto.into ∙ c.loop-number.auto.page) (c.put_page.ensures.left tells records there))

pub loop-number-preserved : goal.loop-number-preserved
loop-number-preserved g c =
    let loop = c.loop-number.invariant in
    let next = c.in_ok-number.ensures in
    let put = c.in_ok-put_page.ensures in
    record {
      same = next.same ∙ ap (λ (r : Reading). record r { place = c.next.new.self.place }) loop.same;
      left = λ tells records apart coming.
          let there : Contains records (c.in-PageAt.number, c.next.new.into) =
          is_record _ c.loop-number.reader records g.H.Host.tells tells _ _ (ap (λ (r : Reading). (g.H.Host.world c.loop-number.host).files r.name) loop.same ∙ (loop.left tells records apart coming).others_read _ apart) _ _ _ _ _ _ (loop.so_far tells records apart coming)
          c.next.new.self c.in_ok-number.field-0 c.in-PageAt.number c.next.new.into c.in-PageAt.is next.answer in
          half_joined _ _ records _ _ _ (half_still _ _ records _ _ _ (loop.left tells records apart coming) (g.met.H.Host.timely _) next.files next.log.said next.time)
          (sized _ _ _ records _ _ (c.next.auto.into ∙ c.loop-number.auto.page) (put.left tells records there));
      so_far = λ tells records apart coming.
          one_written _ c.loop-number.reader records g.H.Host.tells tells _ _ (ap (λ (r : Reading). (g.H.Host.world c.loop-number.host).files r.name) loop.same ∙ (loop.left tells records apart coming).others_read _ apart) _ _ _ _ _ _ (loop.so_far tells records apart coming)
          c.next.new.self c.in_ok-number.field-0 c.in-PageAt.number c.next.new.into c.in-PageAt.is next.answer _ _ _ _ (ap (λ (f : Files). f c.args.standby.now) next.files.files) (c.next.auto.into ∙ c.loop-number.auto.page) (put.pages tells) c.max-pages.ensures;
      within = λ tells records apart coming.
          read_next g.H.Host.tells tells _ _ (ap (λ (r : Reading). (g.H.Host.world c.loop-number.host).files r.name) loop.same ∙ (loop.left tells records apart coming).others_read _ apart) c.loop-number.reader c.next.new.self records _ _ _
          c.in_ok-number.field-0 c.in-PageAt.number c.next.new.into (loop.within tells records apart coming) c.in-PageAt.is next.answer (let once = next.log.reads tells in omega (arith, once, put.no_read));
      gave = nothing_joined _ _ _ (nothing_joined _ _ _ loop.gave (record { guids = next.log.guids; times = next.log.times })) put.gave;
      cause = put.cause ∙ next.cause ∙ loop.cause;
      most = let low = number_low c.loop-number.reader c.next.new.self c.in_ok-number.field-0 c.in-PageAt.number c.in-PageAt.is next.rises in omega (arith, c.max-pages.ensures, loop.most, low);
    }

pub returns-clause-left : goal.returns-clause-left
returns-clause-left g c tells records apart coming =
    let next = c.next.ensures in half_still _ _ records _ _ _ (c.loop-number.invariant.left tells records apart coming) (g.met.H.Host.timely _) next.files next.log.said next.time

pub returns-clause-pages : goal.returns-clause-pages
returns-clause-pages g c tells records apart coming =
    let loop = c.loop-number.invariant in
    let next = c.in_ok-number.ensures in
    all_written _ c.loop-number.reader records g.H.Host.tells tells _ _ (ap (λ (r : Reading). (g.H.Host.world c.loop-number.host).files r.name) loop.same ∙ (loop.left tells records apart coming).others_read _ apart) _ _ _ _ _ _ (loop.so_far tells records apart coming)
    c.next.new.self c.in_ok-number.field-0 c.in_default.field-0 c.next.new.into _ c.in_default.is next.answer (ap (λ (f : Files). f c.args.standby.now) next.files.files)

pub returns-in_err-number-clause-within : goal.returns-in_err-number-clause-within
returns-in_err-number-clause-within g c tells records apart coming = read_ends _ _ records _ _ _ (c.loop-number.invariant.within tells records apart coming) (c.next.ensures.log.reads tells)

pub returns-in_err-put_page-clause-within : goal.returns-in_err-put_page-clause-within
returns-in_err-put_page-clause-within g c tells records apart coming =
    read_ends _ _ records _ _ _ (c.loop-number.invariant.within tells records apart coming) (let once = c.next.ensures.log.reads tells in omega (arith, once, c.put_page.ensures.no_read))

pub returns-clause-within : goal.returns-clause-within
returns-clause-within g c tells records apart coming = read_ends _ _ records _ _ _ (c.loop-number.invariant.within tells records apart coming) (c.next.ensures.log.reads tells)
