use Rattle.std.proofs.Common.{◌≡◌, length, sym, ap, ◌∙◌}
use Rattle.nb_session.proofs.Common.{ne_eqb, image_state, delta_count}
use Rattle.nb_session.proofs.HeaderLaws.{delta_none, delta_some, shown}
use Rattle.nb_session.proofs.statement.header_shown.Goals.{then-state-eq0, else-state-eq0}
use Rattle.nb_session.proofs.statement.header_shown.Goals as goal

pub returns : goal.returns
returns c b files agrees =
    let state = c.state-state.ensures.value ∙ ap (λ h. h.files.state) c.store-store.ensures in
    let delta : c.if-state-eq0.delta ≡ delta_count b = elim c.if-state-eq0.branch [
      | then-state-eq0 w ↦ w.delta-is ∙ sym (delta_none b (sym files.state ∙ sym state ∙ w.if-state-eq0.true))
      | else-state-eq0 w ↦ w.delta-is ∙ w.delta_count-delta.ensures ∙ ap (λ h. length h.files.entries) c.store-store.ensures ∙ ap length files.entries
          ∙ sym (delta_some b (ne_eqb (image_state b.image) 0 (λ e. w.if-state-eq0.false (state ∙ files.state ∙ e))))
    ] in
    shown c.args.engine.now b c.page_size.result c.count.result c.state-state.result c.scn.result c.guid.result c.forced.result c.access.result c.if-state-eq0.delta files agrees
    c.page_size.ensures.value c.count.ensures.value state (c.scn.ensures ∙ ap (λ h. h.scn) c.store-store.ensures) (c.guid.ensures ∙ ap (λ h. h.guid) c.store-store.ensures) c.forced.ensures c.access.ensures delta
