use Rattle.std.proofs.Common.{◌≡◌, ℕ, ◌%◌, ◌<◌, length, sym, ap, ◌∙◌, arith, IsTrue, not}
use Rattle.nb_check.proofs.Common.{mod-lt, kind_of, is_page_size, bits_in, bits-least, head_in, PageHead, Page, Image, page_at, is_free_page}
use Rattle.nb_check.proofs.FactLaws.{kind_in, used_is}
use Rattle.nb_check.proofs.TakenLaws.{taken_passed, taken_more, other_kind, not_taken, taken_data}
use Rattle.nb_check.proofs.pass.look_at.Goals as goal

kind_is : (image : Image) (n : ℕ) (page : Page) (head : PageHead) → page ≡ page_at image n → head ≡ head_in page → head.kind ≡ kind_of (page_at image n)
kind_is image n page head at is = ap (λ (h : PageHead). h.kind) is ∙ kind_in page ∙ ap kind_of at

bit_inside : (size p : ℕ) → IsTrue (is_page_size size) → p % bits_in size < bits_in size
bit_inside size p valid = mod-lt p {m = bits_in size} (let some = bits-least size valid in omega (arith, some))

pub returns-then-read_head-code-clause-broken : goal.returns-then-read_head-code-clause-broken
returns-then-read_head-code-clause-broken c image of at entries first = c.first_of-found.ensures image first (c.fact_at-fact.ensures image of at entries)

pub returns-then-not-is_used-clause-broken : goal.returns-then-not-is_used-clause-broken
returns-then-not-is_used-clause-broken c image of at entries first = c.first_of-found.ensures image first (c.fact_at-fact.ensures image of at entries)

pub returns-clause-broken : goal.returns-clause-broken
returns-clause-broken c image of at entries first = c.first_of-found.ensures image first (c.fact_at-fact.ensures image of at entries)

pub returns-then-read_head-code-clause-taken : goal.returns-then-read_head-code-clause-taken
returns-then-read_head-code-clause-taken c image of at map some held =
    let kind = kind_is image c.args.number c.args.page.now c.read_head.result at c.read_head.ensures in
    taken_passed image c.args.number _ held (other_kind image c.args.number (λ e. c.if-read_head-code.true (kind ∙ e ∙ sym c.code.ensures)))

pub returns-then-not-is_used-clause-taken : goal.returns-then-not-is_used-clause-taken
returns-then-not-is_used-clause-taken c image of at map some held =
    let n : ℕ = c.args.number in
    let size : ℕ = length c.args.page.now in
    let used : c.is_used.result ≡ not (is_free_page image n) = used_is image size n c.args.map.now of.size (map some) c.requires.map (bit_inside size n c.requires.size) c.is_used.result (rw c.bits_in.ensures.value at c.is_used.ensures) in
    taken_passed image n _ held (not_taken image n (sym used ∙ c.if-not-is_used.true))

pub returns-clause-taken : goal.returns-clause-taken
returns-clause-taken c image of at map some held =
    let n : ℕ = c.args.number in
    let size : ℕ = length c.args.page.now in
    let kind = kind_is image n c.args.page.now c.read_head.result at c.read_head.ensures in
    let used : c.is_used.result ≡ not (is_free_page image n) = used_is image size n c.args.map.now of.size (map some) c.requires.map (bit_inside size n c.requires.size) c.is_used.result (rw c.bits_in.ensures.value at c.is_used.ensures) in
    taken_more image n _ held _ (taken_data image n (sym used ∙ c.if-not-is_used.false) (sym kind ∙ c.if-read_head-code.false ∙ c.code.ensures)) c.insert.ensures.pages
