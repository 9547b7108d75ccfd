use Rattle.std.proofs.Common.{◌+◌, [], ◌∷◌, ◌++◌, inl, inr, sym, ap, ◌∙◌}
use Rattle.nb_base.proofs.Common.{Known, entry_for, Held}
use Rattle.nb_base.proofs.PlaceLaws.{slot_answered, none_found}
use Rattle.nb_base.proofs.files.TwoFiles.draft.Goals as goal

pub returns-in-Some-clause-drafts : goal.returns-in-Some-clause-drafts
returns-in-Some-clause-drafts g c =
    let slot = slot_answered c.slot_of.result c.self.inside.delta.page_size c.in-Some.field-0 c.args.number c.self.inside.delta.entries c.in_ok-slot_of.field-0 c.in_ok-slot_of.was c.slot_of.ensures.slot c.in-Some.is in
    inl (
      (slot.k, ap (λ (h : Held). entry_for c.args.number h.entries) (sym c.self.view_is) ∙ slot.at),
      ap (λ (k : Known). record { name = c.self.inside.name; page_size = k.page_size; state = c.self.inside.state; forced = c.self.inside.forced; count = c.self.inside.count; main_count = c.self.inside.main_count; entries = k.entries; drafted = k.drafted }) c.slot_of.ensures.same
          ∙ c.self.view_is,
    )

pub returns-in_ok-draft-in-None-clause-drafts : goal.returns-in_ok-draft-in-None-clause-drafts
returns-in_ok-draft-in-None-clause-drafts g c =
    inr (
      ap (λ (h : Held). entry_for c.args.number h.entries) (sym c.self.view_is) ∙ none_found c.args.number c.self.inside.delta.entries (c.in_ok-slot_of.ensures.none c.in-None.is),
      ap (λ (k : Known). record { name = c.self.inside.name; page_size = k.page_size; state = c.self.inside.state; forced = c.self.inside.forced; count = c.self.inside.count; main_count = c.self.inside.main_count; entries = k.entries; drafted = k.drafted })
          (c.in_ok-draft-in-None.ensures.drafted ∙ ap (λ (k : Known). record k { entries = k.entries ++ c.args.number ∷ []; drafted = k.drafted + 1 }) c.slot_of.ensures.same)
          ∙ ap (λ (h : Held). record h { entries = h.entries ++ c.args.number ∷ []; drafted = h.drafted + 1 }) c.self.view_is,
    )
