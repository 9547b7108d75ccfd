use Rattle.std.proofs.Common.{◌≡◌, ℕ, List, [], ◌∷◌, sym, ap, subst, ◌∙◌, IsTrue, true, None, Ok, Err}
use Rattle.nb_engine.proofs.Common.{kind_of, data_kind, quiet_joined, page_at, Stroke, Trail, drafted, is_kind, first_cause, broken_at, not_of_form, no_room, no_scn, short_for, History, pages_of, found_pages, spots, free_spot, last_of, grown, room_in, Held, IsOpen, but_pages, Makes, makes_none, Room, Walked, room_cause, taken_draft, grow_cause, IsSearchable, Tries, tries_early, tries_passed, tries_made, tries_after, tries_other, tries_valued, tries_named, first_here, kind_found}
use Rattle.nb_engine.proofs.KeepLaws.{IsSpot, kept_room, kept_below, kept_none, kept_cause, grown_room, grown_low, grown_draft, grown_cause, room_some, room_none}
use Rattle.nb_engine.proofs.NewTurn.{searchable_of}
use Rattle.nb_engine.proofs.WalkLaws.{last_data, spot_data, history_least}
use Rattle.nb_engine.proofs.engine.Engine.history_room.Goals as goal
use Rattle.nb_engine.proofs.engine.Engine.history_room.Goals.{In-Some, In-None}

-- The walk has found a free slot.
module _ (g : _) (c : goal.In-Some g) (t : Trail) (tells : IsTrue g.H.Host.tells) (is : IsOpen (g.H.Host.world c.args.host.now) c.args.self.now t) where
  walked_some : IsOpen (g.H.Host.world c.walk.new.host) c.walk.new.store t
  walked_some = c.in_ok-walked.ensures.looks.opened t tells (subst (λ (h : Held). IsOpen (g.H.Host.world c.args.host.now) h t) (sym c.self.view_is) is)

  linked_some : broken_at (pages_of History t.base.image) ≡ None
  linked_some = c.in_ok-walked.ensures.test t tells (subst (λ (h : Held). IsOpen (g.H.Host.world c.args.host.now) h t) (sym c.self.view_is) is)

  kept : IsSpot (free_spot (spots History t.base.image)) c.in-Some.room
  kept =
      let here = subst (λ (h : Held). IsOpen (g.H.Host.world c.args.host.now) h t) (sym c.self.view_is) is in
      room_some _ c.in-Some.room (sym (ap (λ (x : Walked). x.room) (c.in_ok-walked.ensures.walked t tells here)) ∙ c.in-Some.is)

  kind : kind_of (page_at t.base.image c.in-Some.room.page) ≡ data_kind
  kind = ap (λ (n : ℕ). kind_of (page_at t.base.image n)) kept.page ∙ (spot_data t.base.image linked_some kept.spot kept.is).kind

  cause_is : room_cause t.base.image ≡ first_cause (not_of_form (taken_draft t.base.image c.in-Some.room.page) ∷ no_scn t.base.image ∷ [])
  cause_is = sym (ap (λ (n : ℕ). first_cause (not_of_form (taken_draft t.base.image n) ∷ no_scn t.base.image ∷ [])) kept.page ∙ kept_cause t.base.image kept.spot kept.is linked_some)

-- Or it has found none, and the last page of the history.
module _ (g : _) (c : goal.In-None g) (t : Trail) (tells : IsTrue g.H.Host.tells) (is : IsOpen (g.H.Host.world c.args.host.now) c.args.self.now t) where
  walked_none : IsOpen (g.H.Host.world c.walk.new.host) c.walk.new.store t
  walked_none = c.in_ok-walked.ensures.looks.opened t tells (subst (λ (h : Held). IsOpen (g.H.Host.world c.args.host.now) h t) (sym c.self.view_is) is)

  linked_none : broken_at (pages_of History t.base.image) ≡ None
  linked_none = c.in_ok-walked.ensures.test t tells (subst (λ (h : Held). IsOpen (g.H.Host.world c.args.host.now) h t) (sym c.self.view_is) is)

  none : free_spot (spots History t.base.image) ≡ None
  none =
      let here = subst (λ (h : Held). IsOpen (g.H.Host.world c.args.host.now) h t) (sym c.self.view_is) is in
      room_none _ (sym (ap (λ (x : Walked). x.room) (c.in_ok-walked.ensures.walked t tells here)) ∙ c.in-None.is)

  last_is : c.in_ok-walked.last ≡ last_of (found_pages History t.base.image)
  last_is = c.in_ok-walked.ensures.last t tells (subst (λ (h : Held). IsOpen (g.H.Host.world c.args.host.now) h t) (sym c.self.view_is) is)

  is_data : is_kind t.base.image data_kind c.in_ok-walked.last ≡ true
  is_data =
      let data_page = last_data t.base.image linked_none in
      ap (is_kind t.base.image data_kind) last_is ∙ kind_found t.base.image data_kind (last_of (found_pages History t.base.image)) data_page.low data_page.kind

  shaped : IsSearchable t.base.image
  shaped = searchable_of _ _ t (subst (λ (h : Held). IsOpen (g.H.Host.world c.args.host.now) h t) (sym c.self.view_is) is) c.self.invariant.0 (history_least t.base.image linked_none)

pub returns-in_err-walked-clause-makes : goal.returns-in_err-walked-clause-makes
returns-in_err-walked-clause-makes g c t tells is =
    let w = g.H.Host.world c.args.host.now in
    let here = subst (λ (h : Held). IsOpen w h t) (sym c.self.view_is) is in
    let image = t.base.image in
    let walked = c.in_err-walked.ensures in
    tries_early (Walked × ℕ) Room _ _ _ _ _ _ t (broken_at (pages_of History image)) (room_cause image) (room_in image).draft.strokes c.from_residual.ensures walked.takes_none
    (λ r e. first_here (broken_at (pages_of History image)) (short_for (free_spot (spots History image)) image ∷ not_of_form (room_in image).draft ∷ no_room (room_in image).draft ∷ no_scn image ∷ []) r e) (walked.test t tells here) (walked.looks.same ∙ ap but_pages c.self.view_is) walked.looks.quiet is (walked.looks.opened t tells here)

pub returns-in_err-check_room-in-Some-clause-makes : goal.returns-in_err-check_room-in-Some-clause-makes
returns-in_err-check_room-in-Some-clause-makes g c t tells is =
    let at = (goal.at.returns-in_err-check_room-in-Some-clause-makes g c).In-Some in
    let walked = c.in_ok-walked.ensures in
    let tests = c.in_err-check_room-in-Some.ensures in
    tries_early (Unit {0}) Room _ _ _ _ _ _ t _ (room_cause t.base.image) (room_in t.base.image).draft.strokes c.from_residual-in_err-check_room-in-Some.ensures tests.takes_none (λ r e. cause_is g at t tells is ∙ e)
    (tests.test t tells (walked_some g at t tells is) (kind g at t tells is)) (tests.looks.same ∙ walked.looks.same ∙ ap but_pages c.self.view_is) (quiet_joined _ _ _ walked.looks.quiet tests.looks.quiet) is (tests.looks.opened t tells (walked_some g at t tells is))

pub returns-in_ok-check_room-in-Some-clause-makes : goal.returns-in_ok-check_room-in-Some-clause-makes
returns-in_ok-check_room-in-Some-clause-makes g c t tells is =
    let at = (goal.at.returns-in_ok-check_room-in-Some-clause-makes g c).In-Some in
    let slot = kept g at t tells is in
    let walked = c.in_ok-walked.ensures in
    let tests = c.in_ok-check_room-in-Some.ensures in
    tries_made (Ok c.in-Some.room) _ _ _ _ t (room_cause t.base.image) (room_in t.base.image).draft.strokes (cause_is g at t tells is ∙ tests.test t tells (walked_some g at t tells is) (kind g at t tells is)) tt
    (subst (λ (ss : List Stroke). Makes (Ok c.in-Some.room) (g.H.Host.world c.args.host.now) (g.H.Host.world c.check_room.new.host) c.args.self.now c.check_room.new.store t ss) (sym (kept_none t.base.image slot.spot slot.is))
    (makes_none (Ok c.in-Some.room) _ _ _ _ t (tests.looks.same ∙ walked.looks.same ∙ ap but_pages c.self.view_is) (quiet_joined _ _ _ walked.looks.quiet tests.looks.quiet) is (tests.looks.opened t tells (walked_some g at t tells is)))) tt

pub returns-in_err-number-in-None-clause-makes : goal.returns-in_err-number-in-None-clause-makes
returns-in_err-number-in-None-clause-makes g c t tells is =
    let at = (goal.at.returns-in_err-number-in-None-clause-makes g c).In-None in
    let image = t.base.image in
    let pages : List ℕ = found_pages History image in
    let fault = c.in_err-number-in-None.field-0.0 in
    let w = g.H.Host.world c.args.host.now in
    let new = g.H.Host.world c.grow.new.host in
    tries_passed c.from_residual-in_err-number-in-None.result fault (λ r. Tries r w new c.args.self.now c.grow.new.store t (room_cause image) (room_in image).draft.strokes) c.from_residual-in_err-number-in-None.ensures
    (tries_named {T = Room} (Err fault) w new c.args.self.now c.grow.new.store t (grow_cause image pages) (room_cause image) (grown History pages [] (drafted image)).0.strokes (room_in image).draft.strokes (grown_cause image (none g at t tells is) (linked_none g at t tells is)) (sym (grown_draft image (none g at t tells is)))
    (tries_other ℕ Room fault _ _ _ _ t _ _
    (tries_after {T = ℕ} (Err fault) _ _ _ _ _ _ t _ _ (c.in_ok-walked.ensures.looks.same ∙ ap but_pages c.self.view_is) c.in_ok-walked.ensures.looks.quiet is
    (c.in_err-number-in-None.ensures.makes t pages tells (walked_none g at t tells is) (shaped g at t tells is) (last_is g at t tells is) (is_data g at t tells is)))))

pub returns-in_ok-number-in-None-clause-makes : goal.returns-in_ok-number-in-None-clause-makes
returns-in_ok-number-in-None-clause-makes g c t tells is =
    let at = (goal.at.returns-in_ok-number-in-None-clause-makes g c).In-None in
    let image = t.base.image in
    let pages : List ℕ = found_pages History image in
    let room : Room = record { page = c.in_ok-number-in-None.number; slot = 0 } in
    tries_named (Ok room) _ _ c.args.self.now c.grow.new.store t (grow_cause image pages) (room_cause image) (grown History pages [] (drafted image)).0.strokes (room_in image).draft.strokes (grown_cause image (none g at t tells is) (linked_none g at t tells is)) (sym (grown_draft image (none g at t tells is)))
    (tries_valued c.in_ok-number-in-None.number room _ _ _ _ t _ _
    (tries_after (Ok c.in_ok-number-in-None.number) _ _ _ _ _ _ t _ _ (c.in_ok-walked.ensures.looks.same ∙ ap but_pages c.self.view_is) c.in_ok-walked.ensures.looks.quiet is
    (c.in_ok-number-in-None.ensures.makes t pages tells (walked_none g at t tells is) (shaped g at t tells is) (last_is g at t tells is) (is_data g at t tells is))))

pub returns-in_ok-check_room-in-Some-clause-room : goal.returns-in_ok-check_room-in-Some-clause-room
returns-in_ok-check_room-in-Some-clause-room g c t tells is =
    let slot = kept g (goal.at.returns-in_ok-check_room-in-Some-clause-room g c).In-Some t tells is in
    kept_room t.base.image slot.spot slot.is c.in-Some.room slot.page slot.slot

pub returns-in_ok-number-in-None-clause-room : goal.returns-in_ok-number-in-None-clause-room
returns-in_ok-number-in-None-clause-room g c t tells is =
    let at = (goal.at.returns-in_ok-number-in-None-clause-room g c).In-None in
    grown_room t.base.image (none g at t tells is) c.in_ok-number-in-None.number (c.in_ok-number-in-None.ensures.grown t (found_pages History t.base.image) tells (walked_none g at t tells is) (shaped g at t tells is) (is_data g at t tells is)).is

pub returns-in_ok-check_room-in-Some-clause-below : goal.returns-in_ok-check_room-in-Some-clause-below
returns-in_ok-check_room-in-Some-clause-below g c t tells is =
    let at = (goal.at.returns-in_ok-check_room-in-Some-clause-below g c).In-Some in
    let slot = kept g at t tells is in
    kept_below t.base.image slot.spot slot.is c.in-Some.room slot.page (spot_data t.base.image (linked_some g at t tells is) slot.spot slot.is)

pub returns-in_ok-number-in-None-clause-below : goal.returns-in_ok-number-in-None-clause-below
returns-in_ok-number-in-None-clause-below g c t tells is =
    let at = (goal.at.returns-in_ok-number-in-None-clause-below g c).In-None in
    grown_low t.base.image (none g at t tells is) c.in_ok-number-in-None.number (c.in_ok-number-in-None.ensures.grown t (found_pages History t.base.image) tells (walked_none g at t tells is) (shaped g at t tells is) (is_data g at t tells is)).below
