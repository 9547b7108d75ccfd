use Rattle.std.proofs.Common.{◌∙◌, ℕ, List, length, sym, ap, arith, Bool}
use Rattle.nb_alloc.proofs.Common.{bytes_of, with_part, with_payload, size_facts, content}
use Rattle.nb_alloc.proofs.ContentLaws.{content_put}
use Rattle.nb_alloc.proofs.make.put_content.Goals as goal

pub returns-then-not-own : goal.returns-then-not-own
returns-then-not-own c = c.put_payload.ensures ∙ ap (λ (t : Bool). with_payload c.args.page.now (content t c.args.payload.now c.args.number)) (sym c.if-not-own.true)

pub returns : goal.returns
returns c =
    let page : List ℕ = c.args.page.now in
    let bytes : List ℕ = c.args.payload.now in
    let p : ℕ = c.args.number in
    let own = c.if-not-own.false in
    let size = size_facts (length page) c.requires.size in
    c.put.ensures.written ∙ ap (λ (v : ℕ). with_part 20 (bytes_of 4 v) c.put_payload.new.page) c.from.ensures ∙ ap (λ (xs : List ℕ). with_part 20 (bytes_of 4 p) xs) c.put_payload.ensures
    ∙ content_put page bytes p (omega (arith, size.at_least)) (c.requires.owner own) ∙ ap (λ (t : Bool). with_payload page (content t bytes p)) (sym own)
