use Rattle.std.proofs.Common.{◌≡◌, ℕ, ◌+◌, ◌*◌, ◌<◌, List, length, replicate, sym, ap, ◌∙◌, subst, IsTrue}
use Rattle.nb_delta.proofs.Common.{length-replicate, Files, is_page_size, slots_in, Only, Changes, Moved, kept_on, Stays, Empties, on_ok}
use Rattle.nb_delta.proofs.waiting.make_ready.Goals as goal

pub empty_groups-requires-clause-size : goal.empty_groups-requires-clause-size
empty_groups-requires-clause-size g c =
    let long : length c.fill.new.self ≡ length c.args.page.now = ap (λ (xs : List ℕ). length xs) (c.fill.ensures.after (λ y e. e)) ∙ length-replicate {A = ℕ} (length c.args.page.now) 0 in
    subst (λ (n : ℕ). IsTrue (is_page_size n)) (sym long) c.requires.size

pub empty_groups-requires-clause-zeros : goal.empty_groups-requires-clause-zeros
empty_groups-requires-clause-zeros g c =
    let zeros : c.fill.new.self ≡ replicate (length c.args.page.now) 0 = c.fill.ensures.after (λ y e. e) in
    let long : length c.fill.new.self ≡ length c.args.page.now = ap (λ (xs : List ℕ). length xs) zeros ∙ length-replicate {A = ℕ} (length c.args.page.now) 0 in
    zeros ∙ ap (λ (n : ℕ). replicate n 0) (sym long)

pub returns-in_err-empty_groups-clause-changes : goal.returns-in_err-empty_groups-clause-changes
returns-in_err-empty_groups-clause-changes g c tells =
    let long : length c.fill.new.self ≡ length c.args.page.now = ap (λ (xs : List ℕ). length xs) (c.fill.ensures.after (λ y e. e)) ∙ length-replicate {A = ℕ} (length c.args.page.now) 0 in
    subst (λ (m : ℕ). (k : ℕ) → k < (c.args.first + 1) * slots_in m → Changes (g.H.Host.world c.args.host.now) (g.H.Host.world c.empty_groups.new.host) (Only c.args.name.now) (Moved (g.H.Host.world c.args.host.now) c.args.name.now (Stays m k)))
    long (c.empty_groups.ensures.changes tells)

pub returns-clause-changes : goal.returns-clause-changes
returns-clause-changes g c tells n low =
    let long : length c.fill.new.self ≡ length c.args.page.now = ap (λ (xs : List ℕ). length xs) (c.fill.ensures.after (λ y e. e)) ∙ length-replicate {A = ℕ} (length c.args.page.now) 0 in
    kept_on (g.H.Host.world c.args.host.now) (g.H.Host.world c.empty_groups.new.host) (g.H.Host.world c.sync_if.new.host) (Only c.args.name.now) (Moved (g.H.Host.world c.args.host.now) c.args.name.now (Stays (length c.args.page.now) n))
    (subst (λ (m : ℕ). (k : ℕ) → k < (c.args.first + 1) * slots_in m → Changes (g.H.Host.world c.args.host.now) (g.H.Host.world c.empty_groups.new.host) (Only c.args.name.now) (Moved (g.H.Host.world c.args.host.now) c.args.name.now (Stays m k)))
    long (c.empty_groups.ensures.changes tells) n low)
    c.sync_if.ensures.changes

pub returns-clause-emptied : goal.returns-clause-emptied
returns-clause-emptied g c tells =
    let long : length c.fill.new.self ≡ length c.args.page.now = ap (λ (xs : List ℕ). length xs) (c.fill.ensures.after (λ y e. e)) ∙ length-replicate {A = ℕ} (length c.args.page.now) 0 in
    on_ok c.sync_if.result
    (subst (λ (f : Files). Empties (length c.args.page.now) c.args.first c.args.last ((g.H.Host.world c.args.host.now).files c.args.name.now) (f c.args.name.now)) (sym c.sync_if.ensures.still.files)
    (subst (λ (m : ℕ). Empties m c.args.first c.args.last ((g.H.Host.world c.args.host.now).files c.args.name.now) ((g.H.Host.world c.empty_groups.new.host).files c.args.name.now)) long (c.in_ok-empty_groups.ensures.emptied tells)))
