use Rattle.std.proofs.Common.{◌≡◌, ℕ, ◌+◌, ◌≤◌, List, [], ◌∷◌, length, arith, refl, ap, ◌∙◌, replicate, IsTrue}
use Rattle.nb_inplace.proofs.Common.{with_part, Page, Numbered, overwritten, standby_page, IsTaken, KeepsMerged, IsDurable, IsPlan, passed}
use Rattle.nb_fields.specs.Bytes.{bytes_of}
use Rattle.nb_host.proofs.AnswerLaws.{fails_alike}
use Rattle.nb_inplace.proofs.MergeLaws.{begun_on, records_on, level_there, counted_on, counted_within, written, part_left, ended_on, ended_kept, IsWritten}
use Rattle.nb_inplace.specs.Most.{count_most, merge_most}
use Rattle.nb_inplace.proofs.merging.merge.Goals as goal
use Rattle.nb_inplace.proofs.merging.merge.Goals.{After-count_pages, After-put-3}

pub returns-in_err-begin-clause-left : goal.returns-in_err-begin-clause-left
returns-in_err-begin-clause-left g c tells guid ps records plan durable =
    let old = g.H.Host.world c.args.host.now in
    let was = g.met.H.Host.reads_left c.args.host.now tells c.args.standby.now in
    part_left old _ _ _ _ _ _ _ _ _ c.requires.size plan _ (begun_on old _ _ _ _ _ _ _ _ _ c.requires.size plan _ was (c.in_err-begin.ensures.left tells durable))

pub returns-in_err-pages-clause-left : goal.returns-in_err-pages-clause-left
returns-in_err-pages-clause-left g c tells guid ps records plan durable =
    let old = g.H.Host.world c.args.host.now in
    let was = g.met.H.Host.reads_left c.args.host.now tells c.args.standby.now in
    let first = begun_on old _ _ _ _ _ _ _ _ _ c.requires.size plan _ was (c.in_ok-begin.ensures.left tells durable) in
    let kept = c.in_ok-begin.ensures.done tells durable in
    let there = level_there old _ _ _ _ _ _ _ _ _ c.requires.size plan _ first kept in
    part_left old _ _ _ _ _ _ _ _ _ c.requires.size plan _ (records_on old _ _ _ _ _ _ _ _ _ c.requires.size plan _ first kept _ (c.in_err-pages.ensures.left tells records plan.level.apart there))

pub returns-in_err-pages-clause-done : goal.returns-in_err-pages-clause-done
returns-in_err-pages-clause-done g c tells guid ps records plan durable =
    let old = g.H.Host.world c.args.host.now in
    let was = g.met.H.Host.reads_left c.args.host.now tells c.args.standby.now in
    let first = begun_on old _ _ _ _ _ _ _ _ _ c.requires.size plan _ was (c.in_ok-begin.ensures.left tells durable) in
    let kept = c.in_ok-begin.ensures.done tells durable in
    let there = level_there old _ _ _ _ _ _ _ _ _ c.requires.size plan _ first kept in
    passed ℕ (λ r. IsTaken r (KeepsMerged (g.H.Host.world c.write_records.new.host) c.args.standby.now (length c.args.page.now) records ps)) c.from_residual-in_err-pages.result c.in_err-pages.field-0.0 c.from_residual-in_err-pages.ensures
    (fails_alike _ _ _ (c.in_err-pages.ensures.pages tells records plan.level.apart there))

pub returns-in_err-count-clause-left : goal.returns-in_err-count-clause-left
returns-in_err-count-clause-left g c tells guid ps records plan durable =
    let old = g.H.Host.world c.args.host.now in
    let was = g.met.H.Host.reads_left c.args.host.now tells c.args.standby.now in
    let first = begun_on old _ _ _ _ _ _ _ _ _ c.requires.size plan _ was (c.in_ok-begin.ensures.left tells durable) in
    let kept = c.in_ok-begin.ensures.done tells durable in
    let there = level_there old _ _ _ _ _ _ _ _ _ c.requires.size plan _ first kept in
    let so_far = records_on old _ _ _ _ _ _ _ _ _ c.requires.size plan _ first kept _ (c.in_ok-pages.ensures.left tells records plan.level.apart there) in
    part_left old _ _ _ _ _ _ _ _ _ c.requires.size plan _ (counted_on old _ _ _ _ _ _ _ _ _ c.requires.size plan _ _ so_far c.in_err-count.ensures.quiet)

one_byte : bytes_of 1 1 ≡ 1 ∷ []
unfolding bytes_of
one_byte = refl

-- page 0 as it is written last
last_page : (noted one two last : Page) → one ≡ with_part 65 (bytes_of 1 1) noted → two ≡ with_part 48 (replicate 16 0) one → last ≡ with_part 22 (bytes_of 2 0) two → last ≡ standby_page noted
last_page noted one two last is_one is_two is_last =
    is_last ∙ ap (with_part 22 (bytes_of 2 0)) (is_two ∙ ap (with_part 48 (replicate 16 0)) (is_one ∙ ap (λ (b : List ℕ). with_part 65 b noted) one_byte))

-- All but page 0 is written.
module _ (g : _) (c : goal.After-put-3 g) (tells : IsTrue g.H.Host.tells) (guid : List ℕ) (ps : List Page) (records : List Numbered)
    (plan : IsPlan (g.H.Host.world c.args.host.now).files c.args.standby.now (length c.args.page.now) c.args.found.now.pages c.args.found.now.is_begun c.args.reader.now c.args.first.now guid ps records)
    (durable : IsDurable (g.H.Host.world c.args.host.now) c.args.standby.now ((g.H.Host.world c.args.host.now).files c.args.standby.now)) where
  so_far : IsWritten (g.H.Host.world c.args.host.now) c.args.standby.now (length c.args.page.now) c.args.found.now.pages c.args.found.now.is_begun c.args.reader.now c.args.first.now guid ps records c.requires.size plan
      (g.H.Host.world c.count_pages.new.host) c.write_records.new.first c.in_ok-count.count
  so_far =
      let old = g.H.Host.world c.args.host.now in
      let was = g.met.H.Host.reads_left c.args.host.now tells c.args.standby.now in
      let first = begun_on old _ _ _ _ _ _ _ _ _ c.requires.size plan _ was (c.in_ok-begin.ensures.left tells durable) in
      let kept = c.in_ok-begin.ensures.done tells durable in
      let there = level_there old _ _ _ _ _ _ _ _ _ c.requires.size plan _ first kept in
      let pages = c.in_ok-pages.ensures in
      let count = c.in_ok-count.ensures in
      let over = pages.pages tells records plan.level.apart there in
      written old _ _ _ _ _ _ _ _ _ c.requires.size plan _ _ (g.H.Host.world c.count_pages.new.host) first kept (pages.left tells records plan.level.apart there) (g.met.H.Host.reads_left c.write_records.new.host tells) _ over.1 count.quiet
      _ c.in_ok-count.count (length c.write_records.new.page) over.0 c.write_records.auto.page (count.answer tells)

pub returns-in_err-write_first-clause-left : goal.returns-in_err-write_first-clause-left
returns-in_err-write_first-clause-left g c tells guid ps records plan durable =
    let all = so_far g (goal.at.returns-in_err-write_first-clause-left g c).After-put-3 tells guid ps records plan durable in
    let left = g.met.H.Host.reads_left c.count_pages.new.host tells c.args.standby.now in
    let last = last_page _ _ _ _ c.put.ensures.written c.put-2.ensures.written c.put-3.ensures.written in
    ended_on (g.H.Host.world c.args.host.now) _ _ _ _ _ _ _ _ _ c.requires.size plan _ all.left all.reads left _ all.holds _ last _ (c.in_err-write_first.ensures.left tells)

pub returns-clause-left : goal.returns-clause-left
returns-clause-left g c tells guid ps records plan durable =
    let all = so_far g (goal.at.returns-clause-left g c).After-put-3 tells guid ps records plan durable in
    let left = g.met.H.Host.reads_left c.count_pages.new.host tells c.args.standby.now in
    let last = last_page _ _ _ _ c.put.ensures.written c.put-2.ensures.written c.put-3.ensures.written in
    ended_on (g.H.Host.world c.args.host.now) _ _ _ _ _ _ _ _ _ c.requires.size plan _ all.left all.reads left _ all.holds _ last _ (c.in_ok-write_first.ensures.left tells)

pub returns-clause-done : goal.returns-clause-done
returns-clause-done g c tells guid ps records plan durable =
    let all = so_far g (goal.at.returns-clause-done g c).After-put-3 tells guid ps records plan durable in
    let left = g.met.H.Host.reads_left c.count_pages.new.host tells c.args.standby.now in
    let last = last_page _ _ _ _ c.put.ensures.written c.put-2.ensures.written c.put-3.ensures.written in
    ended_kept (g.H.Host.world c.args.host.now) _ _ _ _ _ _ _ _ _ c.requires.size plan _ all.left all.reads left _ all.holds _ last _ _ all.counted (c.in_ok-write_first.ensures.done tells)

pub returns-in_err-pages-clause-within : goal.returns-in_err-pages-clause-within
returns-in_err-pages-clause-within g c tells guid ps records plan durable =
    let old = g.H.Host.world c.args.host.now in
    let was = g.met.H.Host.reads_left c.args.host.now tells c.args.standby.now in
    let first = begun_on old _ _ _ _ _ _ _ _ _ c.requires.size plan _ was (c.in_ok-begin.ensures.left tells durable) in
    let there = level_there old _ _ _ _ _ _ _ _ _ c.requires.size plan _ first (c.in_ok-begin.ensures.done tells durable) in
    let read = c.write_records.ensures.within tells records plan.level.apart there in
    omega (arith, c.begin.ensures.no_read, read)

-- The pages are counted, also where that fails.
module _ (g : _) (c : goal.After-count_pages g) (tells : IsTrue g.H.Host.tells) (guid : List ℕ) (ps : List Page) (records : List Numbered)
    (plan : IsPlan (g.H.Host.world c.args.host.now).files c.args.standby.now (length c.args.page.now) c.args.found.now.pages c.args.found.now.is_begun c.args.reader.now c.args.first.now guid ps records)
    (durable : IsDurable (g.H.Host.world c.args.host.now) c.args.standby.now ((g.H.Host.world c.args.host.now).files c.args.standby.now)) where
  all_read : (g.H.Host.world c.count_pages.new.host).reads ≤ (g.H.Host.world c.args.host.now).reads + merge_most (length c.args.page.now) records ps
  all_read =
      let old = g.H.Host.world c.args.host.now in
      let was = g.met.H.Host.reads_left c.args.host.now tells c.args.standby.now in
      let first = begun_on old _ _ _ _ _ _ _ _ _ c.requires.size plan _ was (c.in_ok-begin.ensures.left tells durable) in
      let kept = c.in_ok-begin.ensures.done tells durable in
      let there = level_there old _ _ _ _ _ _ _ _ _ c.requires.size plan _ first kept in
      let read = c.write_records.ensures.within tells records plan.level.apart there in
      let over = c.in_ok-pages.ensures.pages tells records plan.level.apart there in
      let counted : (g.H.Host.world c.count_pages.new.host).reads ≤ (g.H.Host.world c.write_records.new.host).reads + count_most (overwritten (length c.args.page.now) records ps) =
      counted_within old _ _ _ _ _ _ _ _ _ c.requires.size plan _ (g.H.Host.world c.write_records.new.host) first kept _ over.1 _ (length c.write_records.new.page) _ _ over.0 c.write_records.auto.page (c.count_pages.ensures.within tells) in
      omega (arith, c.begin.ensures.no_read, read, counted)

pub returns-in_err-count-clause-within : goal.returns-in_err-count-clause-within
returns-in_err-count-clause-within g c tells guid ps records plan durable = all_read g (goal.at.returns-in_err-count-clause-within g c).After-count_pages tells guid ps records plan durable

pub returns-in_err-write_first-clause-within : goal.returns-in_err-write_first-clause-within
returns-in_err-write_first-clause-within g c tells guid ps records plan durable =
    let all = all_read g (goal.at.returns-in_err-write_first-clause-within g c).After-count_pages tells guid ps records plan durable in omega (arith, all, c.write_first.ensures.reads)

pub returns-clause-within : goal.returns-clause-within
returns-clause-within g c tells guid ps records plan durable =
    let all = all_read g (goal.at.returns-clause-within g c).After-count_pages tells guid ps records plan durable in omega (arith, all, c.write_first.ensures.reads)
