use Rattle.std.proofs.Common.{ℕ, List, ◌∙◌, sym, ap}
use Rattle.nb_page.proofs.Common.{Files, has_delta}
use Rattle.nb_page.proofs.FreeLaws.{is_free_file-start, is_free_name-true, is_free_name-false}
use Rattle.nb_page.proofs.free.is_free.Goals as goal

pub returns-then-is_free_start-clause-answer : goal.returns-then-is_free_start-clause-answer
returns-then-is_free_start-clause-answer g c tells =
    let files : Files = (g.H.Host.world c.args.host.now).files in
    let name : List ℕ = c.args.name.now in
    let read = (c.in_ok-count.ensures.answer tells).bytes in
    let start = is_free_file-start (files name) _ read in
    let same = c.in_ok-has_delta.ensures.answer tells ∙ ap (λ (f : Files). has_delta f name) c.in_ok-count.ensures.files.files in
    is_free_name-true files name c.in_ok-has_delta.has_delta (sym start ∙ sym c.is_free_start.ensures ∙ c.if-is_free_start.true) same

pub returns-else-is_free_start-clause-answer : goal.returns-else-is_free_start-clause-answer
returns-else-is_free_start-clause-answer g c tells =
    let files : Files = (g.H.Host.world c.args.host.now).files in
    let name : List ℕ = c.args.name.now in
    let start = is_free_file-start (files name) _ (c.in_ok-count.ensures.answer tells).bytes in
    c.if-is_free_start.false ∙ sym (is_free_name-false files name (sym start ∙ sym c.is_free_start.ensures ∙ c.if-is_free_start.false))
