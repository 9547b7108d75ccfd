use Rattle.std.proofs.Common.{◌≡◌, ◌<◌, ◌+◌, ◌*◌, ◌/◌, ◌%◌, ℕ, length, sym, ap, ◌∙◌, arith, Option}
use Rattle.nb_alloc.proofs.Common.{bits_in, bits-least, inventory_kind, page_at, not_kind}
use Rattle.nb_alloc.proofs.DoesLaws.{tested_on, on_err}
use Rattle.nb_alloc.proofs.TestLaws.{inventory_place_is}
use Rattle.nb_alloc.proofs.FindLaws.{none_near, one_near}
use Rattle.nb_alloc.proofs.find.free_near.Goals as goal

pub returns-in_err-read-clause-reads : goal.returns-in_err-read-clause-reads
returns-in_err-read-clause-reads g c t tells is =
    let image = t.base.image in
    let there = inventory_place_is image _ c.args.from _ _ c.place_of.ensures c.covers-k.ensures.number (c.page_size-page_size.ensures.value ∙ is.files.agrees.page_size) in
    record {
      test = tested_on (Unit {0}) (Option ℕ) _ _ _ _ c.from_residual.ensures (λ r e. ap (λ (q : ℕ). not_kind image inventory_kind q) (sym there) ∙ e) (c.in_err-read.ensures.reads t tells is).test;
      page = on_err _ _ _ c.from_residual.ensures;
    }

pub returns-in-Some-clause-reads : goal.returns-in-Some-clause-reads
returns-in-Some-clause-reads g c t tells is =
    let image = t.base.image in
    let there = inventory_place_is image _ c.args.from _ _ c.place_of.ensures c.covers-k.ensures.number (c.page_size-page_size.ensures.value ∙ is.files.agrees.page_size) in
    let read = c.in_ok-read.ensures.reads t tells is in
    record { test = ap (λ (q : ℕ). not_kind image inventory_kind q) (sym there) ∙ read.test; page = read.page ∙ ap (page_at image) there }

pub returns-in-None-clause-reads : goal.returns-in-None-clause-reads
returns-in-None-clause-reads g c t tells is =
    let image = t.base.image in
    let there = inventory_place_is image _ c.args.from _ _ c.place_of.ensures c.covers-k.ensures.number (c.page_size-page_size.ensures.value ∙ is.files.agrees.page_size) in
    let read = c.in_ok-read.ensures.reads t tells is in
    record { test = ap (λ (q : ℕ). not_kind image inventory_kind q) (sym there) ∙ read.test; page = read.page ∙ ap (page_at image) there }

pub returns-in-Some-clause-found : goal.returns-in-Some-clause-found
returns-in-Some-clause-found g c t tells is =
    let image = t.base.image in
    let size = c.args.store.now.files.page_size in
    let there = inventory_place_is image _ c.args.from _ _ c.place_of.ensures c.covers-k.ensures.number (c.page_size-page_size.ensures.value ∙ is.files.agrees.page_size) in
    let read = c.in_ok-read.ensures.reads t tells is in
    let long : length c.read.new.self ≡ size = omega (arith, c.in_ok-read.ensures.room, c.requires.room) in
    let least : 0 < bits_in size = omega (arith, bits-least c.page_size-page_size.result c.page_size-page_size.ensures.one_of, c.page_size-page_size.ensures.value) in
    let behind : c.behind_bits.result ≡ (c.args.from / bits_in size + 1) * bits_in size = c.behind_bits.ensures ∙ ap (λ (n : ℕ). (c.args.from / bits_in n + 1) * bits_in n) c.page_size-page_size.ensures.value in
    one_near image size c.args.from c.read.new.self is.files.agrees.page_size (read.page ∙ ap (page_at image) there) long
    c.covers-k.result.1 c.min-end.result c.args.store.now.files.count least (c.covers-k.ensures.index ∙ ap (λ (n : ℕ). c.args.from % bits_in n) c.page_size-page_size.ensures.value) (omega (arith, c.min-end.ensures, behind, c.count-count.ensures.value)) is.files.agrees.count c.in-Some.free c.in-Some.ensures

pub returns-in-None-clause-found : goal.returns-in-None-clause-found
returns-in-None-clause-found g c t tells is =
    let image = t.base.image in
    let size = c.args.store.now.files.page_size in
    let there = inventory_place_is image _ c.args.from _ _ c.place_of.ensures c.covers-k.ensures.number (c.page_size-page_size.ensures.value ∙ is.files.agrees.page_size) in
    let read = c.in_ok-read.ensures.reads t tells is in
    let long : length c.read.new.self ≡ size = omega (arith, c.in_ok-read.ensures.room, c.requires.room) in
    let least : 0 < bits_in size = omega (arith, bits-least c.page_size-page_size.result c.page_size-page_size.ensures.one_of, c.page_size-page_size.ensures.value) in
    let behind : c.behind_bits.result ≡ (c.args.from / bits_in size + 1) * bits_in size = c.behind_bits.ensures ∙ ap (λ (n : ℕ). (c.args.from / bits_in n + 1) * bits_in n) c.page_size-page_size.ensures.value in
    none_near image size c.args.from c.read.new.self is.files.agrees.page_size (read.page ∙ ap (page_at image) there) long
    c.covers-k.result.1 c.min-end.result c.args.store.now.files.count least (c.covers-k.ensures.index ∙ ap (λ (n : ℕ). c.args.from % bits_in n) c.page_size-page_size.ensures.value) (omega (arith, c.min-end.ensures, behind, c.count-count.ensures.value)) is.files.agrees.count c.in-None.ensures
