use Rattle.std.proofs.Common.{◌≡◌, ◌*◌, ◌+◌, ◌≤◌, length, take, drop, ap, ◌∙◌, arith, add-mul, mul-le-mul_right}
use Rattle.nb_inplace.proofs.Common.{joined, length-joined}
use Rattle.nb_restore.proofs.PieceLaws.{piece_short, piece_whole}
use Rattle.nb_inplace.proofs.StampLaws.{read_part}
use Rattle.nb_inplace.proofs.stamps.read_pages.Goals as goal

pub returns-then-got-pages-clause-pages : goal.returns-then-got-pages-clause-pages
returns-then-got-pages-clause-pages g c tells ps count there sizes long low =
    let at : c.from.result * c.from-2.result ≡ c.args.number * c.args.page_size = ap (λ k. k * c.from-2.result) c.from.ensures ∙ ap (λ k. c.args.number * k) c.from-2.ensures in
    let all : length (joined ps) ≡ length ps * c.args.page_size = length-joined c.args.page_size ps sizes in
    let fits : (c.args.number + count) * c.args.page_size ≤ length ps * c.args.page_size = mul-le-mul_right c.args.page_size low in
    absurd (piece_short _ (joined ps) c.args.pages.now c.read_at.new.into _ c.in_ok-got.got there (omega (arith, at, all, fits, long, add-mul c.args.number count c.args.page_size)) (c.in_ok-got.ensures.answer tells) (omega (arith, c.if-got-pages.true, c.read_at.auto.into)) c.read_at.auto.into)

pub returns-clause-pages : goal.returns-clause-pages
returns-clause-pages g c tells ps count there sizes long low =
    let at : c.from.result * c.from-2.result ≡ c.args.number * c.args.page_size = ap (λ k. k * c.from-2.result) c.from.ensures ∙ ap (λ k. c.args.number * k) c.from-2.ensures in
    let all : length (joined ps) ≡ length ps * c.args.page_size = length-joined c.args.page_size ps sizes in
    let fits : (c.args.number + count) * c.args.page_size ≤ length ps * c.args.page_size = mul-le-mul_right c.args.page_size low in
    piece_whole _ (joined ps) c.args.pages.now c.read_at.new.into _ c.in_ok-got.got there (omega (arith, at, all, fits, long, add-mul c.args.number count c.args.page_size)) (c.in_ok-got.ensures.answer tells) (omega (arith, c.if-got-pages.false, c.read_at.auto.into)) c.read_at.auto.into
    ∙ ap (λ k. take k (drop (c.from.result * c.from-2.result) (joined ps))) long ∙ ap (λ k. take (count * c.args.page_size) (drop k (joined ps))) at
    ∙ read_part c.args.page_size ps sizes c.args.number count low
