-- What page 0 becomes as a backup begins, as the stalled state ends, and as the merge does: a header each time.
use Rattle.std.proofs.Common.{◌≡◌, ℕ, ◌+◌, ◌≤◌, length, refl, arith, true, ◌==◌, ◌||◌, ◌&&◌, not, nat_le, nat_lt, List, IsTrue}
use Rattle.nb_model.proofs.Common.{and_from, le-leb, lt-ltb, is_sound, is_page_size, length-part, stalled_state, Image, first_page, image_size, image_state, image_scn, image_guid, HasHeader}
use Rattle.nb_model.proofs.ControlSound.{MayControl}
use Rattle.nb_model.proofs.HeaderLaws.{header-long, header-size, header-scn, header-room}

-- a state and an SCN that a header may have
sound_fields : (state size scn : ℕ) → state ≤ 3 → IsTrue (is_page_size size) → 1 ≤ scn → (not (state == stalled_state) || nat_lt scn 4294967295) ≡ true → is_sound state size scn ≡ true
sound_fields state size scn low is some last =
    and_from (nat_le state 3 && is_page_size size && nat_le 1 scn) (not (state == stalled_state) || nat_lt scn 4294967295)
    (and_from (nat_le state 3 && is_page_size size) (nat_le 1 scn) (and_from (nat_le state 3) (is_page_size size) (le-leb state 3 low) is) (le-leb 1 scn some)) last

module _ (image : Image) (h : HasHeader image) where
  wide : IsTrue (is_page_size (image_size image))
  wide = header-size (first_page image) h.header

  some : 1 ≤ image_scn image
  some = header-scn (first_page image) h.header

  its_guid : length (image_guid image) ≡ 16
  its_guid = length-part 32 16 (first_page image) (omega (arith, header-long (first_page image) h.header))

  pub may_begin : (guid : List ℕ) → length guid ≡ 16 → image_scn image ≤ 4294967293 → MayControl 1 (image_scn image + 1) guid image
  may_begin guid sixteen room = record {
    sixteen = sixteen;
    four = omega (arith, room);
    later = omega arith;
    known = omega arith;
    sound = sound_fields 1 (image_size image) (image_scn image + 1) (omega arith) wide (omega arith) (lt-ltb (image_scn image + 1) 4294967295 (omega (arith, room)));
  }

  pub may_end : image_state image ≡ stalled_state → MayControl 2 (image_scn image + 1) (image_guid image) image
  may_end stalled = record {
    sixteen = its_guid;
    four = omega (arith, header-room (first_page image) h.header stalled);
    later = omega arith;
    known = omega arith;
    sound = sound_fields 2 (image_size image) (image_scn image + 1) (omega arith) wide (omega arith) refl;
  }

  pub may_finish : MayControl 0 (image_scn image) (image_guid image) image
  may_finish = record {
    sixteen = its_guid;
    four = h.scn;
    later = omega arith;
    known = omega arith;
    sound = sound_fields 0 (image_size image) (image_scn image) (omega arith) wide some refl;
  }
