use Rattle.std.proofs.Common.{◌≡◌, ℕ, ◌+◌, ◌≤◌, ◌<◌, ◌++◌, List, [], length, ap, sym, subst, ◌∙◌, arith}
use Rattle.nb_engine.proofs.Common.{text_length, text_of, Value, page_at, Seen, says, read_turn, Held, IsOpen, but_pages, valued, seeing, valued_does, refused_does, tested_does, at_ok, vec_whole, lt_from, le_from, text_short, read_refused, read_broken, read_says}
use Rattle.nb_engine.proofs.engine.Engine.page_read.Goals as goal

pub returns-in_err-read_raw-clause-turn : goal.returns-in_err-read_raw-clause-turn
returns-in_err-read_raw-clause-turn g c s t tells same is =
    let here = subst (λ (h : Held). IsOpen (g.H.Host.world c.args.host.now) h t) (sym c.self.view_is) is in
    let raw = c.in_err-read_raw.ensures in
    tested_does (Unit {0}) _ valued _ _ _ _ _ _ t s (λ (x : Seen). read_turn x c.args.number) _ c.from_residual.ensures same (raw.looks.same ∙ ap but_pages c.self.view_is) raw.looks.quiet is (raw.looks.opened t tells here)
    (raw.reads t tells here).test (read_refused (seeing s t.base) c.args.number)

pub returns-in_default-clause-turn : goal.returns-in_default-clause-turn
returns-in_default-clause-turn g c s t tells same is =
    let here = subst (λ (h : Held). IsOpen (g.H.Host.world c.args.host.now) h t) (sym c.self.view_is) is in
    let raw = c.in_ok-read_raw.ensures in
    let reads = raw.reads t tells here in
    let page : c.deref.result.now ≡ page_at t.base.image c.args.number = vec_whole _ c.read_raw.new.page _ _ c.deref.ensures.value (omega (arith, c.read_raw.auto.page, c.deref_mut.ensures.len)) ∙ reads.page in
    let long : 200 < text_length (page_at t.base.image c.args.number) = omega (arith, lt_from _ _ c.in_default.ensures.exact, ap text_length page) in
    refused_does valued _ _ _ _ _ t s (λ (x : Seen). read_turn x c.args.number) same (raw.looks.same ∙ ap but_pages c.self.view_is) raw.looks.quiet is (raw.looks.opened t tells here) (read_broken (seeing s t.base) c.args.number reads.test long)

pub returns-clause-turn : goal.returns-clause-turn
returns-clause-turn g c s t tells same is =
    let here = subst (λ (h : Held). IsOpen (g.H.Host.world c.args.host.now) h t) (sym c.self.view_is) is in
    let raw = c.in_ok-read_raw.ensures in
    let reads = raw.reads t tells here in
    let x : Seen = seeing s t.base in
    let page : c.deref.result.now ≡ page_at t.base.image c.args.number = vec_whole _ c.read_raw.new.page _ _ c.deref.ensures.value (omega (arith, c.read_raw.auto.page, c.deref_mut.ensures.len)) ∙ reads.page in
    let read : c.in-Some.text.now ≡ text_of (page_at t.base.image c.args.number) = c.in-Some.ensures.text ∙ ap text_of page in
    let short : text_length (page_at t.base.image c.args.number) ≤ 200 = omega (arith, le_from _ _ c.in-Some.ensures.exact, ap text_length page) in
    let fits : length c.new-copy.result.items + length c.in-Some.text.now ≤ 200 = omega (arith, ap length c.new-copy.ensures, ap length read, text_short _ short) in
    let copied = at_ok c.try_extend_from_slice.result (c.try_extend_from_slice.ensures.variant.1 fits) c.try_extend_from_slice.ensures.ok in
    let items : c.try_extend_from_slice.new.self.items ≡ text_of (page_at t.base.image c.args.number) = copied ∙ ap (λ (i : List ℕ). i ++ c.in-Some.text.now) c.new-copy.ensures ∙ read in
    valued_does valued _ _ _ _ _ t s (λ (y : Seen). read_turn y c.args.number) same (raw.looks.same ∙ ap but_pages c.self.view_is) raw.looks.quiet is (raw.looks.opened t tells here)
    (read_says x c.args.number reads.test short ∙ ap (λ (i : List ℕ). says x (Value i) []) (sym items))
