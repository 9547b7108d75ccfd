-- The end of the stalled state and of the merge: what a crash leaves at each moment, and what is open after.
use Rattle.std.proofs.Common.{◌≡◌, ◌≢◌, inr, ℕ, List, [], ◌∷◌, length, refl, sym, ap, subst, ◌∙◌, arith, None, Ok}
use Rattle.nb_base.proofs.Common.{normal_state, stalled_state, merge_state, File, Files, World, Leaves, IsDurable, IsStill, Changes, Only, Remade, left_before, composed_within, durable_is, Image, image_size, image_state, image_scn, trimmed, Base, ends, finish, on_base, delta_name, owner, Trail, after_stroke, bases_of, StandsFirmOn, StandsFirm, header-room, trail_base, finish_base, in_state, HasRoom, HasImage, IsImageOf, ControlLeft, Held, OfFiles, Agrees, IsOpen, AreMerged, IsSeen, StrikesFirm}
use Rattle.nb_model.proofs.MixtureLaws.{mixed_state}
use Rattle.nb_base.proofs.FirmLaws.{last_firm}
use Rattle.nb_base.proofs.BlockLaws.{to_main, of_main}
use Rattle.nb_base.proofs.ControlLaws.{with_control-length}
use Rattle.nb_base.proofs.MergeLaws.{merged_alone}
use Rattle.nb_base.proofs.OwnedLaws.{Holds, holds, shows, base-state, base-size}
use Rattle.nb_base.proofs.ForcedLaws.{ended_forced, finished_forced}
use Rattle.nb_base.proofs.StateLaws.{same_main, agrees_by, in_state-state, in_state-size, kept_sixteen, ended_holds, finished_holds}
use Rattle.nb_base.proofs.StrokeLaws.{h0, main_state, stands_after, ends-settles, finish-settles, struck, struck_open}
use Rattle.nb_base.proofs.WrittenLaws.{HasMain, one_main}
use Rattle.nb_base.proofs.WriteLaws.{main_apart, delta_apart, with_delta, with_main}

ended_length : (b : Base) → length (on_base ends b).image ≡ length b.image
unfolding on_base
ended_length b = with_control-length _ _ _ b.image

ended_entries : (b : Base) → (on_base ends b).diverted ≡ b.diverted
unfolding on_base
ended_entries b = refl

pub finished_length : (b : Base) → length (on_base finish b).image ≡ length (trimmed b.image)
finished_length b = ap (λ (c : Base). length c.image) (finish_base b) ∙ with_control-length _ _ _ (trimmed b.image)

finished_entries : (b : Base) → (on_base finish b).diverted ≡ []
unfolding on_base
finished_entries b = refl

module _ (old : World) (held : Held) (t : Trail) (is : IsOpen old held t) (reads : (m : List ℕ) → Leaves old m (old.files m)) where
  abbrev m0 : File
  m0 = old.files held.name

  abbrev d0 : File
  d0 = old.files (delta_name held.name)

  abbrev g0 : Holds t.base (old.files held.name) (old.files (delta_name held.name))
  g0 = h0 old held t is

  state : image_state g0.main ≡ held.state
  state = main_state old held t is

  pub size : held.page_size ≡ image_size (h0 old held t is).main
  size = is.agrees.page_size ∙ base-size t.base m0 d0 g0

  seen : IsSeen old held.name t
  seen = record { left = is.left; shows = is.shows }

  -- The stalled state ends.
  module _ (stalled : held.state ≡ stalled_state) where
    one : image_state g0.main ≡ stalled_state
    one = state ∙ stalled

    -- the main file is frozen, whatever a crash leaves
    frozen_main : (m d : File) → StandsFirmOn held.name t m d → HasImage g0.main m
    frozen_main m d o =
        let h : Holds o.base m d = holds held.name o.base m d o.opens in
        let state : image_state h.main ≡ stalled_state =
        sym (base-state o.base m d h) ∙ mixed_state (bases_of t) t.base o.base.image o.left.mixed ∙ base-state t.base m0 d0 g0 ∙ one in
        let same : h.main ≡ g0.main = sym (h.frozen.stalled state) ∙ o.left.rest.frozen ∙ g0.frozen.stalled one in
        subst (λ (x : Image). HasImage x m) same (of_main h.main m h.has)

    pub end_image : (mid : World) → IsStill old mid → IsImageOf mid held.name (h0 old held t is).main
    end_image mid still = record {
      left = λ m left. frozen_main m d0 (with_main old reads held.name t seen m (left_before old mid _ still.left held.name m tt left));
      reads = subst (λ (f : Files). HasImage g0.main (f held.name)) (sym still.files) (of_main g0.main m0 g0.has);
    }

    pub end_room : HasRoom 2 (image_scn (h0 old held t is).main)
    end_room = record { stalled = λ e. absurd (omega (arith, e)); other = λ some. header-room _ g0.has.laid.header one }

    module _ (mid new : World) (so_far : Changes old mid (OfFiles held.name) (StandsFirm held.name t)) (durable : IsDurable mid (delta_name held.name) (old.files (delta_name held.name)))
        (block : Changes mid new (Only held.name) (ControlLeft held.name (h0 old held t is).main (in_state merge_state None (h0 old held t is).main))) where
      beside : (files : Files) → ((m : List ℕ) → m ≢ held.name → Leaves mid m (files m)) → files (delta_name held.name) ≡ d0
      beside files others = durable_is mid (delta_name held.name) d0 durable (files (delta_name held.name)) (others (delta_name held.name) (delta_apart held.name))

      stays : (files : Files) → ((m : List ℕ) → m ≢ held.name → Leaves mid m (files m)) → HasImage g0.main (files held.name) → StandsFirm held.name t files
      stays files others was =
          last_firm held.name t files (ap (owner held.name (files held.name)) (beside files others) ∙ shows held.name t.base (files held.name) d0 (same_main t.base m0 d0 (files held.name) g0 (to_main g0.main (files held.name) was)))

      goes : (files : Files) → ((m : List ℕ) → m ≢ held.name → Leaves mid m (files m)) → HasImage (in_state merge_state None g0.main) (files held.name) → Holds (on_base ends t.base) (files held.name) (files (delta_name held.name))
      goes files others put = subst (λ (d : File). Holds (on_base ends t.base) (files held.name) d) (sym (beside files others)) (ended_holds t.base m0 d0 g0 one (files held.name) put)

      pub end_struck : StrikesFirm old new held.name t (ends ∷ [])
      end_struck = struck old mid new held.name t ends g0.main (in_state merge_state None g0.main) so_far block stays goes (ends-settles t)

      pub end_open : IsImageOf new held.name (in_state merge_state None (h0 old held t is).main) → ((m : List ℕ) → Leaves mid m (mid.files m)) → (now : Held) → now.name ≡ held.name → now.page_size ≡ held.page_size → now.state ≡ merge_state
          → now.forced ≡ held.forced → now.count ≡ held.count → now.entries ≡ held.entries → now.drafted ≡ 0 → IsOpen new now (after_stroke ends t)
      end_open image read now named sized two forced count entries none_drafted =
          let sixteen : length (Rattle.nb_model.specs.Image.image_guid g0.main) ≡ 16 = kept_sixteen g0.main m0 g0.has in
          struck_open old mid new held.name t ends g0.main (in_state merge_state None g0.main) so_far block stays goes (ends-settles t) image read now named
          (sized ∙ size ∙ sym (in_state-size g0.main m0 g0.has 2 None (omega arith) sixteen)) (two ∙ sym (in_state-state g0.main m0 g0.has 2 None (omega arith) sixteen))
          (forced ∙ is.agrees.forced ∙ sym (ended_forced t.base is.agrees.header)) (count ∙ is.agrees.count ∙ sym (ended_length t.base)) (λ stalled. absurd (omega (arith, two, stalled))) (entries ∙ is.agrees.entries ∙ sym (ended_entries t.base)) none_drafted

  -- The merge is finished.
  module _ (merges : held.state ≡ merge_state) (merged : AreMerged old held (length held.entries)) where
    two : image_state g0.main ≡ merge_state
    two = state ∙ merges

    alone : trimmed t.base.image ≡ g0.main
    alone = merged_alone held old.files t.base g0 size is.agrees.entries (λ k low. merged k low low)

    pub finish_room : HasRoom 0 (image_scn (h0 old held t is).main)
    finish_room = record { stalled = λ e. absurd (omega (arith, e)); other = λ some. absurd (omega (arith, some)) }

    -- another file with the main file's image, beside what may be left of the difference file
    stood : (m d : File) → StandsFirmOn held.name t m0 d → HasImage g0.main m → StandsFirmOn held.name t m d
    stood m d o was =
        let h : Holds o.base m0 d = holds held.name o.base m0 d o.opens in
        let same : g0.main ≡ h.main = one_main g0.main h.main m0 g0.has h.has in
        record { base = o.base; opens = shows held.name o.base m d (same_main o.base m0 d m h (subst (λ (x : Image). HasMain x m) same (to_main g0.main m was))); left = o.left }

    module _ (mid new : World) (so_far : Changes old mid (OfFiles held.name) (StandsFirm held.name t)) (still : IsStill old mid)
        (block : Changes mid new (Only held.name) (ControlLeft held.name (h0 old held t is).main (in_state normal_state None (h0 old held t is).main))) where
      rests : (files : Files) → ((m : List ℕ) → m ≢ held.name → Leaves mid m (files m)) → HasImage g0.main (files held.name) → StandsFirm held.name t files
      rests files others was =
          let d : File = files (delta_name held.name) in
          stood (files held.name) d (with_delta old reads held.name t seen d (left_before old mid _ still.left (delta_name held.name) d tt (others (delta_name held.name) (delta_apart held.name)))) was

      ends_in : (files : Files) → HasImage (in_state normal_state None g0.main) (files held.name) → Holds (on_base finish t.base) (files held.name) (files (delta_name held.name))
      ends_in files put = finished_holds t.base m0 d0 g0 two alone (files held.name) (files (delta_name held.name)) put

      pub finish_struck : StrikesFirm old new held.name t (finish ∷ [])
      finish_struck = struck old mid new held.name t finish g0.main (in_state normal_state None g0.main) so_far block rests (λ files others put. ends_in files put) (finish-settles t)

      -- then the difference file goes
      module _ (last : World) (image : IsImageOf new held.name (in_state normal_state None (h0 old held t is).main)) (gone : File → Type 0) (removed : Changes new last (Only (delta_name held.name)) (Remade new (delta_name held.name) gone)) where
        pub removed_struck : StrikesFirm old last held.name t (finish ∷ [])
        removed_struck =
            composed_within old new last (OfFiles held.name) (Only (delta_name held.name)) (OfFiles held.name) _ _ _ finish_struck removed (λ m one. one) (λ m is. inr is) (λ files others r. r)
            (λ files others r. inr (stands_after held.name finish t (files held.name) (files (delta_name held.name)) (finish-settles t) (ends_in files (image.left (files held.name) (others held.name (main_apart held.name))))))

        pub finish_open : (now : Held) → now.name ≡ held.name → now.page_size ≡ held.page_size → now.state ≡ normal_state → now.forced ≡ held.forced → now.count ≡ length (trimmed t.base.image) → now.entries ≡ [] → now.drafted ≡ 0 → IsOpen last now (after_stroke finish t)
        finish_open now named sized zero forced count entries none_drafted =
            let sixteen : length (Rattle.nb_model.specs.Image.image_guid g0.main) ≡ 16 = kept_sixteen g0.main m0 g0.has in
            let here : Holds (on_base finish t.base) (last.files held.name) (last.files (delta_name held.name)) =
            ends_in last.files (subst (λ (x : File). HasImage (in_state normal_state None g0.main) x) (sym (removed.others_read held.name (main_apart held.name))) image.reads) in
            let one : here.main ≡ in_state normal_state None g0.main = one_main here.main (in_state normal_state None g0.main) (last.files held.name) here.has
            (to_main (in_state normal_state None g0.main) (last.files held.name) (subst (λ (x : File). HasImage (in_state normal_state None g0.main) x) (sym (removed.others_read held.name (main_apart held.name))) image.reads)) in
            subst (λ (n : List ℕ). IsOpen last (record now { name = n }) (after_stroke finish t)) (sym named) (record {
              left = λ files left. stands_after held.name finish t (files held.name) (files (delta_name held.name)) (finish-settles t)
                  (ends_in files (image.left (files held.name) (left_before new last _ removed.others held.name (files held.name) (main_apart held.name) (left held.name))));
              shows = shows held.name (on_base finish t.base) (last.files held.name) (last.files (delta_name held.name)) here ∙ ap (λ (b : Base). Ok b) (sym (trail_base finish t));
              agrees = subst (λ (b : Base). Agrees (record now { name = held.name }) b) (sym (trail_base finish t))
                  (agrees_by (record now { name = held.name }) (on_base finish t.base) (last.files held.name) (last.files (delta_name held.name)) here
                  (sized ∙ size ∙ sym (in_state-size g0.main m0 g0.has 0 None (omega arith) sixteen) ∙ ap image_size (sym one)) (zero ∙ sym (in_state-state g0.main m0 g0.has 0 None (omega arith) sixteen) ∙ ap image_state (sym one))
                  (forced ∙ is.agrees.forced ∙ sym (finished_forced t.base is.agrees.header)) (count ∙ sym (finished_length t.base)) (λ stalled. absurd (omega (arith, zero, stalled))) (entries ∙ sym (finished_entries t.base)));
              drafted = none_drafted;
            })
