-- The control strokes: what a crash leaves at each moment, and what is open after.
use Rattle.std.proofs.Common.{◌≡◌, ◌≢◌, inl, inr, ⊎_elim, ℕ, ◌<◌, List, [], ◌∷◌, length, refl, sym, ap, subst, ◌∙◌, arith, true, Option, Some, Ok}
use Rattle.nb_base.proofs.Common.{normal_state, stalled_state, File, Files, World, Leaves, IsDurable, IsStill, IsTimely, Passes, Changes, Only, Remade, left_before, weaker_has, composed_within, still_alone, durable_is, HasTable, Image, image_size, image_state, image_scn, is_forced, Ask, Base, Stroke, begin, ends, finish, on_base, delta_name, Trail, settles_at, after_stroke, StandsFirmOn, StandsFirm, settles_after, trail_base, same-number, in_state, HasRoom, HasImage, IsImageOf, ControlLeft, Held, OfFiles, Agrees, IsOpen, StrikesFirm}
use Rattle.nb_base.proofs.FirmLaws.{last_firm, shows_firm}
use Rattle.nb_base.proofs.BlockLaws.{to_main, of_main}
use Rattle.nb_base.proofs.OpenedLaws.{holds_whatever}
use Rattle.nb_base.proofs.OwnedLaws.{Holds, holds, shows, base-front, base-state, base-size}
use Rattle.nb_base.proofs.ForcedLaws.{begun_forced}
use Rattle.nb_base.proofs.StateLaws.{same_main, normal_image, agrees_by, in_state-state, in_state-size, in_state-length, begun_holds}
use Rattle.nb_base.proofs.WrittenLaws.{one_main}
use Rattle.nb_base.proofs.WriteLaws.{main_apart, delta_apart}

begin-settles : (t : Trail) (guid : List ℕ) (ask : Option Ask) → settles_at t (begin guid ask) ≡ true
unfolding settles_at
begin-settles t guid ask = refl

pub ends-settles : (t : Trail) → settles_at t ends ≡ true
unfolding settles_at
ends-settles t = refl

pub finish-settles : (t : Trail) → settles_at t finish ≡ true
unfolding settles_at
finish-settles t = refl

-- files that hold the database after a stroke that settles
pub stands_after : (name : List ℕ) (s : Stroke) (t : Trail) (m d : File) → settles_at t s ≡ true → Holds (on_base s t.base) m d → StandsFirmOn name (after_stroke s t) m d
stands_after name s t m d settles h = subst (λ (x : Trail). StandsFirmOn name x m d) (sym (settles_after s t settles)) (shows_firm name (on_base s t.base) m d (shows name (on_base s t.base) m d h))

-- The files while nothing is changed yet, also where a sync failed.
pub waits : (old new : World) (held : Held) (t : Trail) → IsOpen old held t → IsTimely old → IsStill old new → new.said ≡ old.said → Passes old new → Changes old new (OfFiles held.name) (StandsFirm held.name t)
waits old new held t is timely still silent time = still_alone old new (OfFiles held.name) (StandsFirm held.name t) timely still silent time is.left

pub not_struck : (old new : World) (name : List ℕ) (t : Trail) (s : Stroke) → Changes old new (OfFiles name) (StandsFirm name t) → StrikesFirm old new name t (s ∷ [])
not_struck old new name t s so_far = weaker_has old new (OfFiles name) (StandsFirm name t) _ so_far (λ files stands. inl stands)

-- A control block is written after calls that changed no database.
module _ (old mid new : World) (name : List ℕ) (t : Trail) (s : Stroke) (before after : Image) (so_far : Changes old mid (OfFiles name) (StandsFirm name t)) (block : Changes mid new (Only name) (ControlLeft name before after))
    (stay : (files : Files) → ((m : List ℕ) → m ≢ name → Leaves mid m (files m)) → HasImage before (files name) → StandsFirm name t files)
    (go : (files : Files) → ((m : List ℕ) → m ≢ name → Leaves mid m (files m)) → HasImage after (files name) → Holds (on_base s t.base) (files name) (files (delta_name name))) (settles : settles_at t s ≡ true) where
  pub struck : StrikesFirm old new name t (s ∷ [])
  struck =
      composed_within old mid new (OfFiles name) (Only name) (OfFiles name) (StandsFirm name t) (ControlLeft name before after) _ so_far block (λ m one. one) (λ m is. inl is)
      (λ files others stands. inl stands)
      (λ files others. ⊎_elim (λ was. inl (stay files others was)) (λ put. inr (stands_after name s t (files name) (files (delta_name name)) settles (go files others put))))

  -- and stands once it is kept for good
  module _ (is : IsImageOf new name after) (reads : (m : List ℕ) → Leaves mid m (mid.files m)) where
    here : Holds (on_base s t.base) (new.files name) (new.files (delta_name name))
    here = go new.files (λ m other. subst (λ (f : File). Leaves mid m f) (sym (block.others_read m other)) (reads m)) is.reads

    pub struck_open : (held : Held) → held.name ≡ name → held.page_size ≡ image_size after → held.state ≡ image_state after → held.forced ≡ is_forced (on_base s t.base).image → held.count ≡ length (on_base s t.base).image → (held.state ≡ stalled_state → held.main_count ≡ length after)
        → held.entries ≡ (on_base s t.base).diverted → held.drafted ≡ 0 → IsOpen new held (after_stroke s t)
    struck_open held named sized stated forced count main_count entries none_drafted =
        let one : here.main ≡ after = one_main here.main after (new.files name) here.has (to_main after (new.files name) is.reads) in
        subst (λ (n : List ℕ). IsOpen new (record held { name = n }) (after_stroke s t)) (sym named) (record {
          left = λ files left. stands_after name s t (files name) (files (delta_name name)) settles (go files (λ n other. left_before mid new _ block.others n (files n) other (left n)) (is.left (files name) (left name)));
          shows = shows name (on_base s t.base) (new.files name) (new.files (delta_name name)) here ∙ ap (λ (b : Base). Ok b) (sym (trail_base s t));
          agrees = subst (λ (b : Base). Agrees (record held { name = name }) b) (sym (trail_base s t))
              (agrees_by (record held { name = name }) (on_base s t.base) (new.files name) (new.files (delta_name name)) here (sized ∙ ap image_size (sym one)) (stated ∙ ap image_state (sym one)) forced count
              (λ stalled. main_count stalled ∙ ap length (sym one)) entries);
          drafted = none_drafted;
        })

-- What a begin leaves before its control block, also where it failed: the database is as it was, and its main file has that image.
pub record IsReady (old new : World) (name : List ℕ) (t : Trail) (main : Image) : Type 0 where
  pub so_far : Changes old new (OfFiles name) (StandsFirm name t)
  pub image : IsImageOf new name main

-- what is open before
module _ (old : World) (held : Held) (t : Trail) (is : IsOpen old held t) where
  abbrev m0 : File
  m0 = old.files held.name

  abbrev d0 : File
  d0 = old.files (delta_name held.name)

  abbrev pub h0 : Holds t.base (old.files held.name) (old.files (delta_name held.name))
  h0 = holds held.name t.base (old.files held.name) (old.files (delta_name held.name)) is.shows

  pub main_state : image_state h0.main ≡ held.state
  main_state = sym (base-state t.base m0 d0 h0) ∙ sym is.agrees.state

  main_scn : image_scn t.base.image ≡ image_scn h0.main
  main_scn = same-number _ _ (base-front t.base m0 d0 h0) 28 4 (omega arith)

  -- one of the files is durable, or its outcomes are those of a moment when it was
  pub durable_main : (w : World) → IsDurable w held.name (old.files held.name) → w.files held.name ≡ old.files held.name → IsImageOf w held.name h0.main
  durable_main w durable reads = record {
    left = λ m left. subst (λ (x : File). HasImage h0.main x) (sym (durable_is w held.name m0 durable m left)) (of_main h0.main m0 h0.has);
    reads = subst (λ (x : File). HasImage h0.main x) (sym reads) (of_main h0.main m0 h0.has);
  }

  -- A backup begins.
  module _ (guid : List ℕ) (ask : Option Ask) (sixteen : length guid ≡ 16) (normal : held.state ≡ normal_state) where
    zero : image_state h0.main ≡ normal_state
    zero = main_state ∙ normal

    abbrev frozen : Image
    frozen = in_state stalled_state (Some guid) h0.main

    -- in the normal state the main file alone shows it
    stays : (files : Files) → HasImage h0.main (files held.name) → StandsFirm held.name t files
    stays files was =
        last_firm held.name t files (shows held.name t.base (files held.name) (files (delta_name held.name))
        (holds_whatever t.base (files held.name) d0 (files (delta_name held.name)) (same_main t.base m0 d0 (files held.name) h0 (to_main h0.main (files held.name) was)) zero))

    begin_made : (mid new : World) → Changes old mid (OfFiles held.name) (StandsFirm held.name t) → IsImageOf mid held.name h0.main → (blank : File → Type 0) → Changes mid new (Only (delta_name held.name)) (Remade mid (delta_name held.name) blank)
        → Changes old new (OfFiles held.name) (StandsFirm held.name t)
    begin_made mid new so_far is blank made =
        composed_within old mid new (OfFiles held.name) (Only (delta_name held.name)) (OfFiles held.name) _ _ (StandsFirm held.name t) so_far made (λ m one. one) (λ m is. inr is) (λ files others stands. stands)
        (λ files others remade. stays files (is.left (files held.name) (others held.name (main_apart held.name))))

    begin_image : (mid new : World) → IsImageOf mid held.name h0.main → (blank : File → Type 0) → Changes mid new (Only (delta_name held.name)) (Remade mid (delta_name held.name) blank) → IsImageOf new held.name h0.main
    begin_image mid new is blank made = record {
      left = λ m left. is.left m (left_before mid new _ made.others held.name m (main_apart held.name) left);
      reads = subst (λ (x : File). HasImage h0.main x) (sym (made.others_read held.name (main_apart held.name))) is.reads;
    }

    -- the main file was kept for good, and the difference file made
    pub begin_ready : (mid new : World) → IsTimely old → IsStill old mid → mid.said ≡ old.said → Passes old mid → IsDurable mid held.name (old.files held.name) → (blank : File → Type 0)
        → Changes mid new (Only (delta_name held.name)) (Remade mid (delta_name held.name) blank) → IsReady old new held.name t h0.main
    begin_ready mid new timely still silent time durable blank made =
        let main = durable_main mid durable (ap (λ (f : Files). f held.name) still.files) in
        record { so_far = begin_made mid new (waits old mid held t is timely still silent time) main blank made; image = begin_image mid new main blank made }

    pub begin_room : image_scn t.base.image < 4294967294 → HasRoom 1 (image_scn h0.main)
    begin_room low = record { stalled = λ one. omega (arith, low, main_scn); other = λ some. omega (arith, low, main_scn) }

    pub begin_size : held.page_size ≡ image_size h0.main
    begin_size = is.agrees.page_size ∙ base-size t.base m0 d0 h0

    -- and then the control block
    module _ (mid new : World) (so_far : Changes old mid (OfFiles held.name) (StandsFirm held.name t)) (empty : HasTable held.page_size (mid.files (delta_name held.name)) []) (durable : IsDurable mid (delta_name held.name) (mid.files (delta_name held.name)))
        (block : Changes mid new (Only held.name) (ControlLeft held.name h0.main (in_state stalled_state (Some guid) h0.main))) where
      goes : (files : Files) → ((m : List ℕ) → m ≢ held.name → Leaves mid m (files m)) → HasImage (in_state stalled_state (Some guid) h0.main) (files held.name) → Holds (on_base (begin guid ask) t.base) (files held.name) (files (delta_name held.name))
      goes files others put =
          let beside : files (delta_name held.name) ≡ mid.files (delta_name held.name) = durable_is mid (delta_name held.name) _ durable (files (delta_name held.name)) (others (delta_name held.name) (delta_apart held.name)) in
          begun_holds t.base m0 d0 h0 guid ask sixteen zero (files held.name) (files (delta_name held.name)) put
          (subst (λ n. HasTable n (files (delta_name held.name)) []) begin_size (subst (λ (f : File). HasTable held.page_size f []) (sym beside) empty))

      pub begin_struck : StrikesFirm old new held.name t (begin guid ask ∷ [])
      begin_struck = struck old mid new held.name t (begin guid ask) h0.main frozen so_far block (λ files others was. stays files was) goes (begin-settles t guid ask)

      begun_image : (on_base (begin guid ask) t.base).image ≡ in_state stalled_state (Some guid) h0.main
      unfolding on_base
      begun_image = ap (in_state stalled_state (Some guid)) (normal_image t.base m0 d0 h0 zero)

      begun_none : (on_base (begin guid ask) t.base).diverted ≡ []
      unfolding on_base
      begun_none = refl

      pub begin_open : IsImageOf new held.name (in_state stalled_state (Some guid) h0.main) → ((m : List ℕ) → Leaves mid m (mid.files m)) → (now : Held) → now.name ≡ held.name → now.page_size ≡ held.page_size → now.state ≡ stalled_state → now.forced ≡ held.forced → now.count ≡ held.count
          → now.main_count ≡ held.count → now.entries ≡ [] → now.drafted ≡ 0 → IsOpen new now (after_stroke (begin guid ask) t)
      begin_open image reads now named sized one forced count main_count none none_drafted =
          let long : length frozen ≡ length h0.main = in_state-length h0.main m0 h0.has 1 (Some guid) (omega arith) sixteen in
          let all : held.count ≡ length h0.main = is.agrees.count ∙ ap length (normal_image t.base m0 d0 h0 zero) in
          struck_open old mid new held.name t (begin guid ask) h0.main frozen so_far block (λ files others was. stays files was) goes (begin-settles t guid ask) image reads now named
          (sized ∙ begin_size ∙ sym (in_state-size h0.main m0 h0.has 1 (Some guid) (omega arith) sixteen)) (one ∙ sym (in_state-state h0.main m0 h0.has 1 (Some guid) (omega arith) sixteen))
          (forced ∙ is.agrees.forced ∙ sym (begun_forced guid ask t.base is.agrees.header sixteen))
          (count ∙ all ∙ sym long ∙ ap length (sym begun_image)) (λ stalled. main_count ∙ all ∙ sym long) (none ∙ sym begun_none) none_drafted
