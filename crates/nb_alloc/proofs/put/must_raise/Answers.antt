use Rattle.std.proofs.Common.{◌≡◌, ◌/◌, ℕ, length, sym, ap, ◌∙◌, arith, Bool, false, nat_lt}
use Rattle.nb_alloc.proofs.Common.{entries_in, scn_place, scn_kind, page_at, scn_entry, has_entry, not_kind, entry_cause, true≢false}
use Rattle.nb_alloc.proofs.put.must_raise.Goals.{then-number-eq0-via-then-number-eq0, then-number-eq0-via-else-number-eq0+then-is_place}
use Rattle.nb_alloc.proofs.PutLaws.{first-without, scn_page-without, other-with, no_entry_cause, not_raised, must_raise-is, entry_cause-is}
use Rattle.nb_alloc.proofs.RaiseLaws.{scn_page-is, entry-is}
use Rattle.nb_alloc.proofs.DoesLaws.{tested_on, if_err}
use Rattle.nb_alloc.proofs.SearchReads.{scn_place_some}
use Rattle.nb_alloc.proofs.put.must_raise.Goals as goal

pub returns-then-number-eq0-clause-tells : goal.returns-then-number-eq0-clause-tells
returns-then-number-eq0-clause-tells g c t tells is =
    let image = t.base.image in
    let p : ℕ = c.args.number in
    let size = c.page_size-page_size.ensures.value ∙ is.files.agrees.page_size in
    let without : has_entry image p ≡ false = elim c.then-number-eq0.branch [
      | then-number-eq0-via-then-number-eq0 w ↦ first-without image p w.if-number-eq0.true
      | then-number-eq0-via-else-number-eq0+then-is_place w ↦ scn_page-without image p c.page_size-page_size.result size (sym w.is_place.ensures.value ∙ w.if-is_place.true)
    ] in
    record { test = no_entry_cause image p without; value = sym (not_raised image p without); page = λ e. cc }

pub returns-in_err-read-clause-tells : goal.returns-in_err-read-clause-tells
returns-in_err-read-clause-tells g c t tells is =
    let image = t.base.image in
    let p : ℕ = c.args.number in
    let size = c.page_size-page_size.ensures.value ∙ is.files.agrees.page_size in
    let has = other-with image p _ size c.if-number-eq0.false (sym c.is_place.ensures.value ∙ c.if-is_place.false) in
    let there = scn_page-is image _ c.covers-k.result.0 p c.place_of.result size c.covers-k.ensures.number c.place_of.ensures in
    let same : not_kind image scn_kind c.place_of.result ≡ entry_cause image p = ap (λ (q : ℕ). not_kind image scn_kind q) there ∙ sym (entry_cause-is image p has) in
    record {
      test = tested_on (Unit {0}) Bool _ _ _ _ c.from_residual.ensures (λ r e. sym same ∙ e) (c.in_err-read.ensures.reads t tells is).test;
      value = if_err _ _ _ c.from_residual.ensures;
      page = if_err _ _ _ c.from_residual.ensures;
    }

pub returns-clause-tells : goal.returns-clause-tells
returns-clause-tells g c t tells is =
    let image = t.base.image in
    let p : ℕ = c.args.number in
    let size = c.page_size-page_size.ensures.value ∙ is.files.agrees.page_size in
    let has = other-with image p _ size c.if-number-eq0.false (sym c.is_place.ensures.value ∙ c.if-is_place.false) in
    let there = scn_page-is image _ c.covers-k.result.0 p c.place_of.result size c.covers-k.ensures.number c.place_of.ensures in
    let same : not_kind image scn_kind c.place_of.result ≡ entry_cause image p = ap (λ (q : ℕ). not_kind image scn_kind q) there ∙ sym (entry_cause-is image p has) in
    let reads = c.in_ok-read.ensures.reads t tells is in
    let long : c.page_size-page_size.result ≡ length c.read.new.self = omega (arith, c.in_ok-read.ensures.room, c.requires.room, c.page_size-page_size.ensures.value) in
    let read = reads.page ∙ ap (λ (q : ℕ). page_at image q) there in
    let entry = entry-is image _ p c.covers-k.result.1 c.read.new.self size c.covers-k.ensures.index long c.covers-k.ensures.inside read in
    record {
      test = sym same ∙ reads.test;
      value = ap (λ (n : ℕ). nat_lt n c.scn.result) (c.entry.ensures ∙ entry) ∙ ap (λ (n : ℕ). nat_lt (scn_entry image p) n) (c.scn.ensures ∙ ap (λ (h : _). h.scn) c.in_ok-read.ensures.looks.same ∙ is.agrees.scn) ∙ sym (must_raise-is image p has);
      page = λ e. read;
    }

pub returns-in_err-read-clause-once : goal.returns-in_err-read-clause-once
returns-in_err-read-clause-once g c tells =
    let some = scn_place_some c.page_size-page_size.result c.covers-k.result.0 c.page_size-page_size.ensures.one_of in
    c.in_err-read.ensures.once tells (omega (arith, some, c.place_of.ensures))

pub returns-clause-once : goal.returns-clause-once
returns-clause-once g c tells =
    let some = scn_place_some c.page_size-page_size.result c.covers-k.result.0 c.page_size-page_size.ensures.one_of in
    c.in_ok-read.ensures.once tells (omega (arith, some, c.place_of.ensures))

pub returns-clause-below : goal.returns-clause-below
returns-clause-below g c must =
    let at = c.place_of.ensures ∙ ap (λ (k : ℕ). scn_place c.page_size-page_size.result k) c.covers-k.ensures.number ∙ ap (λ (s : ℕ). scn_place s (c.args.number / entries_in s)) c.page_size-page_size.ensures.value in
    omega (arith, at, c.in_ok-read.ensures.below)

pub returns-then-number-eq0-clause-below : goal.returns-then-number-eq0-clause-below
returns-then-number-eq0-clause-below g c must = absurd (true≢false (sym must))
