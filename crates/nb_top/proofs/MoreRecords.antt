-- What was seen of a database stays well where more records are kept.
use Rattle.std.proofs.Common.{◌≡◌, ℕ, List, ◌++◌, take, drop, sym, ap, subst, ◌∙◌, take-append-drop}
use Rattle.nb_top.proofs.Common.{Kept, Base, image_guid, GoesOn, Step, after_steps, strokes_in, records_after, Trail, IsWellBaseIn, AllGoOn, IsWellTrail, WellAlong, along_front, along_last, kept_along, kept_append, kept_is}
use Rattle.nb_model.proofs.PastLaws.{kept_more, past_more}

module _ (kept more : List Kept) where
  base_more : (b : Base) → IsWellBaseIn kept b → IsWellBaseIn (kept ++ more) b
  base_more b is = record {
    state = is.state;
    well = record { header = is.well.header; scn = is.well.scn; state = is.well.state; sound = is.well.sound; past = past_more kept more (λ r. GoesOn r b.image) b.image is.well.past };
    normal = is.normal;
    stalled = is.stalled;
    backup = λ stalled. let own = is.backup stalled in record { backup = own.backup; kept_as = kept_more kept more (image_guid b.image) own.backup own.kept_as; same = own.same };
    merge = is.merge;
  }

  trail_more : (t : Trail) → IsWellTrail kept t → IsWellTrail (kept ++ more) t
  trail_more t is = record { base = base_more t.base is.base; over = is.over; sound = is.sound; past = λ b there. past_more kept more (AllGoOn t) b.image (is.past b there) }

-- After a front of steps it is well with the records that are kept along all of them.
pub front_well : (kept : List Kept) (t : Trail) (ss : List Step) → WellAlong kept t ss → (k : ℕ) → IsWellTrail (kept_along kept t ss) (after_steps t (take k ss))
front_well kept t ss along k =
    let front : List Step = take k ss in
    let rest : List Step = drop k ss in
    let then : Trail = after_steps t front in
    let all : kept_along kept t front ++ records_after then.base (strokes_in rest) ≡ kept_along kept t ss =
    sym (kept_is (kept_along kept t front) then rest) ∙ sym (kept_append kept t front rest) ∙ ap (kept_along kept t) (take-append-drop k ss) in
    subst (λ (rs : List Kept). IsWellTrail rs then) all (trail_more (kept_along kept t front) (records_after then.base (strokes_in rest)) then (along_last kept t front (along_front kept t ss along k)))
