use Rattle.std.proofs.Common.{◌≡◌, ℕ, List, [], ◌∷◌, inl, refl, sym, subst, ap, ◌∙◌, arith, is_some, nat_eq}
use Rattle.nb_owner.proofs.Common.{true≢false, on_ok_weaker, on_err_weaker, lru_cache, put_entries, begun, weaker_has, strokes_composed, Reached, page, StandsIn, after_stroke, OfFiles, AreMerged, Strikes, WritesIn, none_touched, touched_joined, not_done, Slot, rank_of, Held, Pages, IsOpen, cache_of, bare, used}
use Rattle.nb_host.specs.Causes.{CountsRun, FaultCount}
use Rattle.nb_owner.proofs.RankLaws.{marked_bare, rank_marked, rank_marked_other, rank_kept_other, slot_kept}
use Rattle.nb_owner.proofs.OpenLaws.{bare_put, may_write}
use Rattle.nb_owner.proofs.WaitLaws.{may_wait_parts, held_open}
use Rattle.nb_base.specs.Stays.{GrowsWithin}
use Rattle.nb_base.proofs.StaysLaws.{grows_none, grows_first, grows_joined}
use Rattle.nb_owner.proofs.pair.Pair.write.Goals as goal

pub hold-requires-clause-early : goal.hold-requires-clause-early
hold-requires-clause-early g c = (may_wait_parts c.args.self.now c.args.number (sym c.may_wait.ensures.value ∙ c.if-may_wait.true)).1

pub hold-requires-clause-drops_none : goal.hold-requires-clause-drops_none
hold-requires-clause-drops_none g c = (may_wait_parts c.args.self.now c.args.number (sym c.may_wait.ensures.value ∙ c.if-may_wait.true)).4

pub returns-in_err-hold-clause-takes : goal.returns-in_err-hold-clause-takes
returns-in_err-hold-clause-takes g c t tells is =
    let old = g.H.Host.world c.args.host.now in
    let name = c.args.self.now.files.name in
    record {
      left = subst (λ host. Strikes old (g.H.Host.world host) name t (page c.args.number c.args.page.now ∷ [])) (sym c.hold.ensures.no_call)
          (begun old (OfFiles name) (Reached after_stroke (StandsIn name) t (page c.args.number c.args.page.now ∷ [])) (g.met.H.Host.timely c.args.host.now) (λ files all. inl (is.left files all)));
      done = not_done c.from_residual.result _ c.from_residual.ensures.0;
    }

pub returns-then-may_wait-clause-takes : goal.returns-then-may_wait-clause-takes
returns-then-may_wait-clause-takes g c t tells is =
    let w = g.H.Host.world c.args.host.now in
    let name = c.args.self.now.files.name in
    let parts = may_wait_parts c.args.self.now c.args.number (sym c.may_wait.ensures.value ∙ c.if-may_wait.true) in
    let ok = c.in_ok-hold.ensures in
    record {
      left = subst (λ host. Strikes w (g.H.Host.world host) name t (page c.args.number c.args.page.now ∷ [])) (sym c.hold.ensures.no_call)
          (begun w (OfFiles name) (Reached after_stroke (StandsIn name) t (page c.args.number c.args.page.now ∷ [])) (g.met.H.Host.timely c.args.host.now) (λ files all. inl (is.left files all)));
      done = subst (λ host. IsOpen (g.H.Host.world host) c.hold.new.self (after_stroke (page c.args.number c.args.page.now) t)) (sym c.hold.ensures.no_call)
          (held_open w c.args.self.now t is c.may_wait.ensures.valid c.args.number c.args.page.now parts.2 parts.3 c.requires.most c.requires.size c.requires.some parts.1 (sym is.agrees.forced ∙ parts.0) parts.4 c.hold.new.self ok.held ok.cap (λ normal. (ok.normal normal).1) ok.drafts);
    }

pub returns-then-may_wait-clause-merged : goal.returns-then-may_wait-clause-merged
returns-then-may_wait-clause-merged g c t k tells is merges merged =
    let parts = may_wait_parts c.args.self.now c.args.number (sym c.may_wait.ensures.value ∙ c.if-may_wait.true) in
    absurd (omega (arith, merges, parts.1))

pub returns-then-may_wait-clause-waits : goal.returns-then-may_wait-clause-waits
returns-then-may_wait-clause-waits g c may = (
  (λ normal. refl),
  tt,
  c.hold.ensures.no_call,
  ap (λ (ps : Pages). is_some (rank_of ps c.args.number)) c.in_ok-hold.ensures.held
      ∙ ap is_some (rank_marked c.args.number _ (put_entries nat_eq (lru_cache c.args.self.now.pages c.args.self.now.cap) c.args.number (record { bytes = c.args.page.now; rank = rank_of c.args.self.now.pages c.args.number }))
      (slot_kept c.args.number (record { bytes = c.args.page.now; rank = rank_of c.args.self.now.pages c.args.number }) c.args.self.now.pages c.args.self.now.cap)),
)

pub returns-then-may_wait-clause-used : goal.returns-then-may_wait-clause-used
returns-then-may_wait-clause-used g c =
    ap (λ (ps : Pages). bare ps) c.in_ok-hold.ensures.held
    ∙ marked_bare c.args.number _ (put_entries nat_eq (lru_cache c.args.self.now.pages c.args.self.now.cap) c.args.number (record { bytes = c.args.page.now; rank = rank_of c.args.self.now.pages c.args.number }))
    ∙ bare_put c.args.number c.args.self.now.cap (record { bytes = c.args.page.now; rank = rank_of c.args.self.now.pages c.args.number }) c.args.self.now.pages

pub returns-in_err-write_out-clause-takes : goal.returns-in_err-write_out-clause-takes
returns-in_err-write_out-clause-takes g c t tells is = record {
  left = weaker_has (g.H.Host.world c.args.host.now) (g.H.Host.world c.write_out.new.host) (OfFiles c.args.self.now.files.name) _ _ (c.write_out.ensures.takes t tells is).left (λ files so. inl so);
  done = not_done c.from_residual-in_err-write_out.result _ c.from_residual-in_err-write_out.ensures.0;
}

pub returns-in_err-write_out-clause-waits : goal.returns-in_err-write_out-clause-waits
returns-in_err-write_out-clause-waits g c may = absurd (true≢false (sym may ∙ sym c.may_wait.ensures.value ∙ c.if-may_wait.false))

pub returns-clause-takes : goal.returns-clause-takes
returns-clause-takes g c t tells is =
    let fits = may_write (g.H.Host.world c.args.host.now) c.args.self.now t c.args.number c.args.page.now is c.requires.low (λ first. c.requires.control_block first tells) in
    let old = g.H.Host.world c.args.host.now in
    let mid = g.H.Host.world c.write_out.new.host in
    let new = g.H.Host.world c.write_through.new.host in
    let name = c.args.self.now.files.name in
    let first = c.in_ok-write_out.ensures.takes t tells is in
    let second = c.write_through.ensures.takes t tells first.done fits in
    record {
      left = strokes_composed after_stroke (StandsIn name) (OfFiles name) old mid new t [] (page c.args.number c.args.page.now ∷ []) first.left
          (subst (λ (n : List ℕ). Strikes mid new n t (page c.args.number c.args.page.now ∷ [])) (ap (λ f. f.name) c.write_out.ensures.files) second.left);
      done = second.done;
    }

pub returns-clause-merged : goal.returns-clause-merged
returns-clause-merged g c t k tells is merges merged =
    let fits = may_write (g.H.Host.world c.args.host.now) c.args.self.now t c.args.number c.args.page.now is c.requires.low (λ first. c.requires.control_block first tells) in
    let idle = c.write_out.ensures.outside merges in
    let first = c.in_ok-write_out.ensures.takes t tells is in
    c.write_through.ensures.merged t k tells first.done fits (ap (λ (h : Held). h.files.state) idle.1 ∙ merges)
    (subst (λ (h : Held). AreMerged (g.H.Host.world c.write_out.new.host) h.files k) (sym idle.1) (subst (λ host. AreMerged (g.H.Host.world host) c.args.self.now.files k) (sym idle.2) merged))

pub returns-clause-waits : goal.returns-clause-waits
returns-clause-waits g c may = absurd (true≢false (sym may ∙ sym c.may_wait.ensures.value ∙ c.if-may_wait.false))

pub returns-clause-used : goal.returns-clause-used
returns-clause-used g c =
    on_ok_weaker c.write_through.result
    (λ put. put ∙ ap (λ ps. used ps c.write_out.new.self.cap c.args.number c.args.page.now) c.write_out.ensures.bare ∙ ap (λ cap. used (bare c.args.self.now.pages) cap c.args.number c.args.page.now) c.write_out.ensures.cap)
    c.write_through.ensures.used

pub returns-clause-failed : goal.returns-clause-failed
returns-clause-failed g c = on_err_weaker c.write_through.result (λ (same : c.write_through.new.self.pages ≡ c.write_out.new.self.pages). ap (λ (ps : Pages). bare ps) same ∙ c.write_out.ensures.bare) c.write_through.ensures.failed

pub returns-clause-cause : goal.returns-clause-cause
returns-clause-cause g c = subst (λ (n : FaultCount). CountsRun c.write_through.result n (g.H.Host.faults c.write_through.new.host)) c.in_ok-write_out.ensures.cause c.write_through.ensures.cause

pub returns-clause-takes_none : goal.returns-clause-takes_none
returns-clause-takes_none g c unstalled = c.write_through.ensures.takes_none (λ stalled. unstalled (sym (ap (λ f. f.state) c.write_out.ensures.files) ∙ stalled))

pub returns-clause-on_memory : goal.returns-clause-on_memory
returns-clause-on_memory g c t tells is memory =
    let old = g.H.Host.world c.args.host.now in
    let first = c.in_ok-write_out.ensures.takes t tells is in
    let same = c.write_through.ensures.on_memory memory in (
      subst (λ host. Strikes old (g.H.Host.world host) c.args.self.now.files.name t []) (sym same.1) first.left,
      subst (λ (h : Held). IsOpen (g.H.Host.world c.write_through.new.host) h t) (sym same.0) (subst (λ host. IsOpen (g.H.Host.world host) c.write_out.new.self t) (sym same.1) first.done),
    )

pub returns-clause-forced : goal.returns-clause-forced
returns-clause-forced g c t tells is forced memory =
    let idle = c.write_out.ensures.at_forced t tells is forced in
    let same = c.write_through.ensures.on_memory memory in
    (same.0 ∙ idle.1, same.1 ∙ idle.2)

pub returns-clause-idle : goal.returns-clause-idle
returns-clause-idle g c none no_drafts memory =
    let idle = c.write_out.ensures.idle none no_drafts in
    let same = c.write_through.ensures.on_memory memory in
    (same.0 ∙ idle.1, same.1 ∙ idle.2)

pub returns-then-may_wait-clause-goes_out : goal.returns-then-may_wait-clause-goes_out
returns-then-may_wait-clause-goes_out g c goes = absurd (true≢false (sym c.if-may_wait.true ∙ c.may_wait.ensures.value ∙ goes))

pub returns-then-may_wait-clause-others : goal.returns-then-may_wait-clause-others
returns-then-may_wait-clause-others g c may p other =
    let parts = may_wait_parts c.args.self.now c.args.number may in
    let slot : Slot = record { bytes = c.args.page.now; rank = rank_of c.args.self.now.pages c.args.number } in
    ap (λ (ps : Pages). rank_of ps p) c.in_ok-hold.ensures.held
    ∙ rank_marked_other c.args.number p _ (put_entries nat_eq (lru_cache c.args.self.now.pages c.args.self.now.cap) c.args.number slot) other
    ∙ rank_kept_other (cache_of c.args.self.now) c.args.number slot c.may_wait.ensures.valid.some c.may_wait.ensures.valid.most parts.4 p other

pub returns-in_err-write_out-clause-others : goal.returns-in_err-write_out-clause-others
returns-in_err-write_out-clause-others g c may = absurd (true≢false (sym may ∙ sym c.may_wait.ensures.value ∙ c.if-may_wait.false))

pub returns-clause-others : goal.returns-clause-others
returns-clause-others g c may = absurd (true≢false (sym may ∙ sym c.may_wait.ensures.value ∙ c.if-may_wait.false))

pub returns-in_err-hold-clause-touches : goal.returns-in_err-hold-clause-touches
returns-in_err-hold-clause-touches g c t tells is = none_touched (g.H.Host.world c.args.host.now) (g.H.Host.world c.hold.new.host) _ (g.met.H.Host.timely c.args.host.now) (ap g.H.Host.world c.hold.ensures.no_call)

pub returns-then-may_wait-clause-touches : goal.returns-then-may_wait-clause-touches
returns-then-may_wait-clause-touches g c t tells is = none_touched (g.H.Host.world c.args.host.now) (g.H.Host.world c.hold.new.host) _ (g.met.H.Host.timely c.args.host.now) (ap g.H.Host.world c.hold.ensures.no_call)

pub returns-clause-touches : goal.returns-clause-touches
returns-clause-touches g c t tells is =
    let mid = g.H.Host.world c.write_out.new.host in
    let new = g.H.Host.world c.write_through.new.host in
    touched_joined (g.H.Host.world c.args.host.now) mid new _ (c.write_out.ensures.touches t tells is)
    (subst (λ (f : Rattle.nb_base.specs.Open.Held). WritesIn mid new f.state f.name) c.write_out.ensures.files (c.write_through.ensures.touches t tells (c.in_ok-write_out.ensures.takes t tells is).done))

pub returns-in_err-hold-clause-takes_none : goal.returns-in_err-hold-clause-takes_none
returns-in_err-hold-clause-takes_none g c plain =
    let parts = may_wait_parts c.args.self.now c.args.number (sym c.may_wait.ensures.value ∙ c.if-may_wait.true) in
    absurd (true≢false (sym (c.in_err-hold.ensures.normal (omega (arith, plain, parts.1))).0))

pub returns-in_err-hold-clause-on_memory : goal.returns-in_err-hold-clause-on_memory
returns-in_err-hold-clause-on_memory g c t tells is memory =
    let old = g.H.Host.world c.args.host.now in
    let name = c.args.self.now.files.name in (
      subst (λ host. Strikes old (g.H.Host.world host) name t []) (sym c.hold.ensures.no_call) (begun old (OfFiles name) (Reached after_stroke (StandsIn name) t []) (g.met.H.Host.timely c.args.host.now) (λ files all. is.left files all)),
      subst (λ host. IsOpen (g.H.Host.world host) c.hold.new.self t) (sym c.hold.ensures.no_call) (subst (λ (h : Held). IsOpen old h t) (sym c.in_err-hold.ensures.only_memory.1) is),
    )

pub returns-in_err-hold-clause-within : goal.returns-in_err-hold-clause-within
returns-in_err-hold-clause-within g c t tells is = grows_none (g.H.Host.world c.args.host.now) (g.H.Host.world c.hold.new.host) c.args.self.now.files.name c.args.self.now.files.page_size t (page c.args.number c.args.page.now ∷ []) (g.met.H.Host.timely c.args.host.now) (ap g.H.Host.world c.hold.ensures.no_call)

pub returns-then-may_wait-clause-within : goal.returns-then-may_wait-clause-within
returns-then-may_wait-clause-within g c t tells is = grows_none (g.H.Host.world c.args.host.now) (g.H.Host.world c.hold.new.host) c.args.self.now.files.name c.args.self.now.files.page_size t (page c.args.number c.args.page.now ∷ []) (g.met.H.Host.timely c.args.host.now) (ap g.H.Host.world c.hold.ensures.no_call)

pub returns-in_err-write_out-clause-within : goal.returns-in_err-write_out-clause-within
returns-in_err-write_out-clause-within g c t tells is = grows_first (g.H.Host.world c.args.host.now) (g.H.Host.world c.write_out.new.host) c.args.self.now.files.name c.args.self.now.files.page_size t (page c.args.number c.args.page.now ∷ []) (c.write_out.ensures.within t tells is)

pub returns-clause-within : goal.returns-clause-within
returns-clause-within g c t tells is =
    let old = g.H.Host.world c.args.host.now in
    let mid = g.H.Host.world c.write_out.new.host in
    let new = g.H.Host.world c.write_through.new.host in
    let held = c.args.self.now in
    let fits = may_write old held t c.args.number c.args.page.now is c.requires.low (λ first. c.requires.control_block first tells) in
    grows_joined old mid new held.files.name held.files.page_size t [] (page c.args.number c.args.page.now ∷ []) (c.write_out.ensures.within t tells is)
    (subst (λ (f : Rattle.nb_base.specs.Open.Held). GrowsWithin mid new f.name f.page_size t (page c.args.number c.args.page.now ∷ [])) c.write_out.ensures.files
    (c.write_through.ensures.within t tells (c.in_ok-write_out.ensures.takes t tells is).done fits))
