use Rattle.std.proofs.Common.{◌≡◌, ◌∙◌, ℕ, ◌-◌, List, [], length, drop, replicate, sym, subst, ap, arith}
use Rattle.nb_page.proofs.Common.{page_of, with_payload, fresh_kind, fresh_payload, fresh_page, ShowsFresh, size_facts, drop-page_of-none, with_payload-page_of, fresh_count-most}
use Rattle.nb_fields.specs.Kinds.{code_of}
use Rattle.nb_fields.proofs.FreshLaws.{fresh_shows}
use Rattle.nb_page.proofs.FillLaws.{page_begun}
use Rattle.nb_page.proofs.fresh_page.fresh.Goals as goal
use Rattle.nb_page.proofs.fresh_page.fresh.Goals.{After-stamp}

pub fresh_kind-kind-requires-clause-below : goal.fresh_kind-kind-requires-clause-below
fresh_kind-kind-requires-clause-below c =
    let most = fresh_count-most (length c.args.page.now) c.args.raw in omega arith

-- the page that was stamped
begun : (c : After-stamp) → c.stamp.new.page ≡ page_of (length c.args.page.now) (code_of (fresh_kind (length c.args.page.now) c.args.number)) 1 1 c.args.number []
begun c =
    let size = size_facts (length c.args.page.now) c.requires.size in
    page_begun (length c.args.page.now) c.code.result (code_of (fresh_kind (length c.args.page.now) c.args.number)) c.args.number c.fill.new.self c.stamp.new.page
    (omega arith) (c.fill.ensures.after (λ y e. e)) (c.code.ensures ∙ ap code_of c.fresh_kind-kind.ensures) c.stamp.ensures.written

pub fill_payload-requires-clause-blank : goal.fill_payload-requires-clause-blank
fill_payload-requires-clause-blank c =
    let n : ℕ = length c.args.page.now in
    let page = begun (goal.at.fill_payload-requires-clause-blank c).After-stamp in
    let len : length c.stamp.new.page ≡ n = c.stamp.auto.page ∙ c.fill.ensures.len in
    ap (drop 16) page ∙ drop-page_of-none n (code_of (fresh_kind n c.args.number)) 1 1 c.args.number ∙ ap (λ m. replicate (m - 16) 0) (sym len)

pub returns-clause-image : goal.returns-clause-image
unfolding fresh_page
returns-clause-image c =
    let n : ℕ = length c.args.page.now in
    let number : ℕ = c.args.number in
    let size = size_facts n c.requires.size in
    let page = begun (goal.at.returns-clause-image c).After-stamp in
    let len : length c.stamp.new.page ≡ n = c.stamp.auto.page ∙ c.fill.ensures.len in
    c.fill_payload.ensures
    ∙ ap (λ m. with_payload c.stamp.new.page (fresh_payload m c.args.raw number c.fresh_kind-kind.result)) len
    ∙ ap (λ k. with_payload c.stamp.new.page (fresh_payload n c.args.raw number k)) c.fresh_kind-kind.ensures
    ∙ ap (λ p. with_payload p (fresh_payload n c.args.raw number (fresh_kind n number))) page
    ∙ with_payload-page_of n (code_of (fresh_kind n number)) 1 1 number [] (fresh_payload n c.args.raw number (fresh_kind n number)) (omega arith)

pub returns-clause-shows : goal.returns-clause-shows
returns-clause-shows c =
    let n : ℕ = length c.args.page.now in
    subst (λ (page : List ℕ). ShowsFresh n c.args.raw c.args.number page) (sym (returns-clause-image c)) (fresh_shows n c.args.raw c.args.number c.requires.size c.requires.raw c.requires.inside)
