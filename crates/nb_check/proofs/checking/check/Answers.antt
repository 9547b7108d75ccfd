use Rattle.std.proofs.Common.{◌≡◌, ℕ, List, [], length, sym, ap, subst, ◌∙◌, arith, IsTrue}
use Rattle.nb_check.proofs.Common.{is_page_size, quiet_joined, Leaked, Marks, Findings, Held, said_of, Page, image_size, says, chains, all_from, goes_nowhere, seeing, valued_does, tested_does, tested_on, unsound, leaked, unsound_by, chains_cause, check_cause, check_turn, looks_then}
use Rattle.nb_check.proofs.CauseLaws.{unsound_fails, chain_fails, check_free, check_refused, check_says}
use Rattle.nb_check.proofs.MarkLaws.{danger_pages}
use Rattle.nb_check.proofs.ReportLaws.{leaked_pages}
use Rattle.nb_check.proofs.SoundLaws.{check_long, sound_whole, no_unsound}
use Rattle.nb_check.proofs.checking.check.Goals as goal

pub returns-in_err-marks-clause-turn : goal.returns-in_err-marks-clause-turn
returns-in_err-marks-clause-turn g c s t tells same is =
    let found = c.in_err-marks.ensures in
    tested_does Marks Findings said_of _ _ _ _ _ _ t s check_turn (unsound_by (unsound t.base.image)) c.from_residual.ensures same found.looks.same found.looks.quiet is (found.looks.opened t tells is) (found.test t tells is)
    (λ r e. check_refused (seeing s t.base) r (unsound_fails t.base.image r e))

pub returns-in_err-mark_reached-clause-turn : goal.returns-in_err-mark_reached-clause-turn
returns-in_err-mark_reached-clause-turn g c s t tells same is =
    let found = c.in_ok-marks.ensures in
    let left = c.in_err-mark_reached.ensures in
    let still = found.looks.opened t tells is in
    tested_does (Unit {0}) Findings said_of _ _ _ _ _ _ t s check_turn (chains_cause t.base.image (chains t.base.image)) c.from_residual-in_err-mark_reached.ensures same (left.looks.same ∙ found.looks.same) (quiet_joined _ _ _ found.looks.quiet left.looks.quiet) is (left.looks.opened t tells still)
    (left.test t tells still) (λ r e. check_refused (seeing s t.base) r (chain_fails t.base.image (found.test t tells is) r e))

pub returns-in_err-marks-clause-test : goal.returns-in_err-marks-clause-test
returns-in_err-marks-clause-test g c t tells is =
    tested_on Marks Findings _ _ (unsound_by (unsound t.base.image)) (check_cause t.base.image) c.from_residual.ensures (unsound_fails t.base.image) (c.in_err-marks.ensures.test t tells is)

pub returns-in_err-mark_reached-clause-test : goal.returns-in_err-mark_reached-clause-test
returns-in_err-mark_reached-clause-test g c t tells is =
    let found = c.in_ok-marks.ensures in
    tested_on (Unit {0}) Findings _ _ (chains_cause t.base.image (chains t.base.image)) (check_cause t.base.image) c.from_residual-in_err-mark_reached.ensures (chain_fails t.base.image (found.test t tells is))
    (c.in_err-mark_reached.ensures.test t tells (found.looks.opened t tells is))

pub returns-clause-test : goal.returns-clause-test
returns-clause-test g c t tells is =
    let found = c.in_ok-marks.ensures in
    check_free t.base.image (found.test t tells is) (c.in_ok-mark_reached.ensures.test t tells (found.looks.opened t tells is))

pub returns-clause-leaked : goal.returns-clause-leaked
returns-clause-leaked g c t tells is =
    let found = c.in_ok-marks.ensures in
    let marked = c.in_ok-mark_reached.ensures.reached t tells (found.looks.opened t tells is) in
    c.of.ensures
    ∙ leaked_pages t.base.image c.in_ok-marks.marks.left c.mark_reached.new.marks.left (found.taken t tells is (check_long t.base.image (returns-clause-test g c t tells is))) marked.left
    (omega (arith, found.left_room, marked.left_room, is.files.agrees.count))

pub returns-clause-in_danger : goal.returns-clause-in_danger
returns-clause-in_danger g c t tells is =
    let found = c.in_ok-marks.ensures in
    let marked = c.in_ok-mark_reached.ensures.reached t tells (found.looks.opened t tells is) in
    c.of-2.ensures
    ∙ danger_pages t.base.image c.in_ok-marks.marks c.mark_reached.new.marks (found.taken t tells is (check_long t.base.image (returns-clause-test g c t tells is))) found.safe marked
    (omega (arith, found.danger_room, marked.danger_room, is.files.agrees.count))

pub returns-clause-turn : goal.returns-clause-turn
returns-clause-turn g c s t tells same is =
    let found = c.in_ok-marks.ensures in
    let left = c.in_ok-mark_reached.ensures in
    let pages : c.of.result ≡ leaked t.base.image = returns-clause-leaked g c t tells is in
    valued_does said_of _ _ _ _ _ t s check_turn same (left.looks.same ∙ found.looks.same) (quiet_joined _ _ _ found.looks.quiet left.looks.quiet) is (left.looks.opened t tells (found.looks.opened t tells is))
    (check_says (seeing s t.base) (returns-clause-test g c t tells is) ∙ ap (λ (ps : List ℕ). says (seeing s t.base) (Leaked ps) []) (sym pages))

pub returns-clause-sound : goal.returns-clause-sound
returns-clause-sound g c t tells is =
    let image = t.base.image in
    let valid = subst (λ (s : ℕ). IsTrue (is_page_size s)) (c.page_size-size.ensures.value ∙ is.files.agrees.page_size) c.page_size-size.ensures.one_of in
    sound_whole image valid (returns-clause-test g c t tells is) (all_from (λ (page : Page). length page ≡ image_size image) image (c.in_ok-marks.ensures.sizes t tells is))
    (omega (arith, c.count-count.ensures.value, c.count-count.ensures.most, is.files.agrees.count))

pub returns-clause-once : goal.returns-clause-once
returns-clause-once g c t tells is =
    let found = c.in_ok-marks.ensures in
    let reads = found.once tells in
    let more = c.in_ok-mark_reached.ensures.once t tells (found.looks.opened t tells is) in
    omega (arith, reads, more)

pub returns-in_err-marks-clause-early : goal.returns-in_err-marks-clause-early
returns-in_err-marks-clause-early g c t tells is some = c.in_err-marks.ensures.once tells

pub returns-in_err-mark_reached-clause-early : goal.returns-in_err-mark_reached-clause-early
returns-in_err-mark_reached-clause-early g c t tells is some = absurd (no_unsound (unsound t.base.image) (c.in_ok-marks.ensures.test t tells is) some)

pub returns-clause-early : goal.returns-clause-early
returns-clause-early g c t tells is some = absurd (no_unsound (unsound t.base.image) (c.in_ok-marks.ensures.test t tells is) some)

pub returns-in_err-marks-clause-goes : goal.returns-in_err-marks-clause-goes
returns-in_err-marks-clause-goes g c = goes_nowhere _ _ c.in_err-marks.ensures.looks.same

pub returns-in_err-mark_reached-clause-goes : goal.returns-in_err-mark_reached-clause-goes
returns-in_err-mark_reached-clause-goes g c = goes_nowhere _ _ (c.in_err-mark_reached.ensures.looks.same ∙ c.in_ok-marks.ensures.looks.same)

pub returns-clause-goes : goal.returns-clause-goes
returns-clause-goes g c = goes_nowhere _ _ (c.in_ok-mark_reached.ensures.looks.same ∙ c.in_ok-marks.ensures.looks.same)

pub returns-in_err-mark_reached-clause-looks : goal.returns-in_err-mark_reached-clause-looks
returns-in_err-mark_reached-clause-looks g c = looks_then c.in_ok-marks.ensures.looks c.in_err-mark_reached.ensures.looks

pub returns-clause-looks : goal.returns-clause-looks
returns-clause-looks g c = looks_then c.in_ok-marks.ensures.looks c.in_ok-mark_reached.ensures.looks

pub returns-in_err-marks-clause-within : goal.returns-in_err-marks-clause-within
returns-in_err-marks-clause-within g c t tells is = let once = c.taken_data.ensures.once tells in omega (arith, once)

pub returns-in_err-mark_reached-clause-within : goal.returns-in_err-mark_reached-clause-within
returns-in_err-mark_reached-clause-within g c t tells is =
    let found = c.in_ok-marks.ensures in
    let reads = c.taken_data.ensures.once tells in
    let more = c.mark_reached.ensures.within t tells (found.looks.opened t tells is) in
    omega (arith, reads, more, ap (λ (h : Held). h.files.count) found.looks.same)

pub returns-clause-within : goal.returns-clause-within
returns-clause-within g c t tells is =
    let found = c.in_ok-marks.ensures in
    let reads = c.taken_data.ensures.once tells in
    let more = c.mark_reached.ensures.within t tells (found.looks.opened t tells is) in
    omega (arith, reads, more, ap (λ (h : Held). h.files.count) found.looks.same)
