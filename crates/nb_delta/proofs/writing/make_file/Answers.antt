use Rattle.std.proofs.Common.{◌≡◌, ℕ, ◌*◌, List, [], length, replicate, inl, inr, refl, ap, ◌∙◌, Some}
use Rattle.nb_delta.proofs.Common.{on_ok_weaker, Files, Only, Remade, with_file-same, still_more, remade_alone, IsBlank, on_ok}
use Rattle.nb_delta.proofs.MoveLaws.{written, durable_now}
use Rattle.nb_delta.proofs.BlankLaws.{blank_put, blank_table, blank_made}
use Rattle.nb_delta.proofs.writing.make_file.Goals as goal

pub returns-in_err-make-clause-changes : goal.returns-in_err-make-clause-changes
returns-in_err-make-clause-changes g c tells =
    remade_alone g.H.Host.tells c.make.result (g.H.Host.world c.args.host.now) (g.H.Host.world c.make.new.self) c.args.name.now (Some []) (IsBlank (length c.args.page.now)) tells (g.met.H.Host.timely c.args.host.now)
    c.make.ensures.files c.make.ensures.log.said c.make.ensures.time (inl refl)

pub returns-in_err-write_page-clause-changes : goal.returns-in_err-write_page-clause-changes
returns-in_err-write_page-clause-changes g c tells =
    let size : ℕ = length c.args.page.now in
    let page : List ℕ = c.fill.new.self in
    let zeros : page ≡ replicate size 0 = c.fill.ensures.after (λ y e. e) in
    blank_made size c.requires g.H.Host.tells c.make.result c.write_page.result (g.H.Host.world c.args.host.now) (g.H.Host.world c.make.new.self) (g.H.Host.world c.write_page.new.self) c.args.name.now page zeros tells (g.met.H.Host.timely c.args.host.now)
    c.make.ensures.files c.make.ensures.log.said c.make.ensures.time c.in_ok-make.ensures.files.done c.write_page.ensures.files c.write_page.ensures.log.said c.write_page.ensures.time

pub returns-clause-changes : goal.returns-clause-changes
returns-clause-changes g c tells =
    let size : ℕ = length c.args.page.now in
    let page : List ℕ = c.fill.new.self in
    let zeros : page ≡ replicate size 0 = c.fill.ensures.after (λ y e. e) in
    still_more (g.H.Host.world c.args.host.now) (g.H.Host.world c.write_page.new.self) (g.H.Host.world c.sync.new.self) (Only c.args.name.now) (Remade (g.H.Host.world c.args.host.now) c.args.name.now (IsBlank size))
    (blank_made size c.requires g.H.Host.tells c.make.result c.write_page.result (g.H.Host.world c.args.host.now) (g.H.Host.world c.make.new.self) (g.H.Host.world c.write_page.new.self) c.args.name.now page zeros tells (g.met.H.Host.timely c.args.host.now)
    c.make.ensures.files c.make.ensures.log.said c.make.ensures.time c.in_ok-make.ensures.files.done c.write_page.ensures.files c.write_page.ensures.log.said c.write_page.ensures.time)
    c.sync.ensures.time c.sync.ensures.files.still c.sync.ensures.log.said

pub returns-clause-made : goal.returns-clause-made
returns-clause-made g c tells =
    let size : ℕ = length c.args.page.now in
    let page : List ℕ = c.fill.new.self in
    let name : List ℕ = c.args.name.now in
    let zeros : page ≡ replicate size 0 = c.fill.ensures.after (λ y e. e) in
    let old : Files = (g.H.Host.world c.args.host.now).files in
    let mid : Files = (g.H.Host.world c.make.new.self).files in
    let new : Files = (g.H.Host.world c.write_page.new.self).files in
    let empty : mid name ≡ Some [] = ap (λ (f : Files). f name) (c.in_ok-make.ensures.files.files tells) ∙ with_file-same old name (Some []) in
    on_ok c.sync.result
    (ap (λ (f : Files). f name) c.sync.ensures.files.still.files ∙ blank_put size c.requires page zeros (mid name) (new name) empty (written mid new name page (0 * length page) (c.in_ok-write_page.ensures.files.files tells)))

pub returns-clause-table : goal.returns-clause-table
returns-clause-table g c tells = on_ok_weaker c.sync.result (λ made. blank_table (length c.args.page.now) c.requires ((g.H.Host.world c.sync.new.self).files c.args.name.now) (inr made)) (returns-clause-made g c tells)

pub returns-clause-durable : goal.returns-clause-durable
returns-clause-durable g c tells =
    on_ok_weaker c.sync.result (durable_now (g.H.Host.world c.write_page.new.self) (g.H.Host.world c.sync.new.self) c.args.name.now c.sync.ensures.files.still.files) (c.sync.ensures.files.durable tells)
