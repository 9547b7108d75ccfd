-- What keeps an image sound: pages that fit, the control strokes of a backup, and its start and its end.
use Rattle.std.proofs.Common.{◌≡◌, ℕ, ◌+◌, ◌<◌, ◌≤◌, List, [], ◌∷◌, length, refl, sym, ap, subst, ◌∙◌, arith, Option, Some}
use Rattle.nb_model.proofs.Common.{stalled_state, Ask, Base, room_in, close_backup, backup_slot, Page, Image, image_size, image_state, image_scn, image_guid, Backing, Seen, next_guid, next_time, Now, base_now, HasHeader, IsSoundImage, Stroke, begin, ends, finish, on_base, base_after, with_control}
use Rattle.nb_model.proofs.ControlMay.{may_begin, may_end, may_finish}
use Rattle.nb_model.proofs.ControlSound.{MayControl, control_sound, control_long, new_size, new_scn, new_state, new_header}
use Rattle.nb_model.proofs.FitLaws.{IsWhole, AreFitting, Stays, whole_after, all_keep, fitting_stays}
use Rattle.nb_model.proofs.PutSound.{header_whole}
use Rattle.nb_model.proofs.RoomLaws.{HasPlainRoom, AnyPage, any_history, room_fits, room_there, room_begun, backup_length, slot_fits}
use Rattle.nb_model.proofs.SoundLaws.{header_stays, fields_stay}
use Rattle.nb_model.proofs.StrokeLaws.{base_after-append}
use Rattle.nb_model.proofs.TrimLaws.{finish_full}
use Rattle.nb_model.proofs.TurnCases.{MayStart, started}

-- What strokes leave of a sound image: a sound one of the same page size, and no shorter.
pub record StaysSound (old new : Base) : Type 0 where
  pub header : HasHeader new.image
  pub sound : IsSoundImage new.image
  pub size : image_size new.image ≡ image_size old.image
  pub longer : length old.image ≤ length new.image

abbrev pub KeepsSound : Base → List Stroke → Type 0
KeepsSound b ss = StaysSound b (base_after b ss)

sound_both : (a b c : Base) → StaysSound a b → StaysSound b c → StaysSound a c
sound_both a b c x y = record { header = y.header; sound = y.sound; size = y.size ∙ x.size; longer = omega (arith, x.longer, y.longer) }

-- pages that fit
pub fitting_keeps : (K : Page → Type 0) (ss : List Stroke) (b : Base) → AreFitting K b ss → HasHeader b.image → IsSoundImage b.image → KeepsSound b ss
fitting_keeps K ss b fits header sound =
    let whole : IsWhole b.image = header_whole b.image header sound in
    let stays : Stays b (base_after b ss) = fitting_stays K ss b fits whole in
    record {
      header = all_keep HasHeader K
          (λ image p bytes fields is at holds h. record { header = header_stays image p bytes fields is at ∙ h.header; scn = (fields_stay image p bytes fields is at).scn }) ss b fits whole header;
      sound = (whole_after K ss b fits whole).sound;
      size = stays.size;
      longer = stays.longer;
    }

-- page 0 gets another state, SCN and GUID
pub control_keeps : (state scn : ℕ) (guid : List ℕ) (old new : Base) → HasHeader old.image → IsSoundImage old.image → MayControl state scn guid old.image
    → new.image ≡ with_control state scn guid old.image → StaysSound old new × (image_state new.image ≡ state)
control_keeps state scn guid old new header sound may is = (
  record {
    header = subst HasHeader (sym is) (record { header = new_header state scn guid old.image header sound may; scn = subst (λ (n : ℕ). n < 4294967296) (sym (new_scn state scn guid old.image header sound may)) may.four });
    sound = subst IsSoundImage (sym is) (control_sound state scn guid old.image header sound may);
    size = ap image_size is ∙ new_size state scn guid old.image header sound may;
    longer = omega (arith, ap length is, control_long state scn guid old.image);
  },
  ap image_state is ∙ new_state state scn guid old.image header sound may,
)

pub begin_keeps : (b : Base) (guid : List ℕ) (ask : Option Ask) → HasHeader b.image → IsSoundImage b.image → image_scn b.image ≤ 4294967293 → length guid ≡ 16
    → KeepsSound b (begin guid ask ∷ []) × (image_state (base_after b (begin guid ask ∷ [])).image ≡ 1)
unfolding base_after on_base
begin_keeps b guid ask header sound scn sixteen = control_keeps 1 (image_scn b.image + 1) guid b _ header sound (may_begin b.image header guid sixteen scn) refl

pub ends_keep : (b : Base) → HasHeader b.image → IsSoundImage b.image → image_state b.image ≡ stalled_state → KeepsSound b (ends ∷ []) × (image_state (base_after b (ends ∷ [])).image ≡ 2)
unfolding base_after on_base
ends_keep b header sound stalled = control_keeps 2 (image_scn b.image + 1) (image_guid b.image) b _ header sound (may_end b.image header stalled) refl

pub finish_keeps : (b : Base) → HasHeader b.image → IsSoundImage b.image → KeepsSound b (finish ∷ []) × (image_state (base_after b (finish ∷ [])).image ≡ 0)
unfolding base_after
finish_keeps b header sound = control_keeps 0 (image_scn b.image) (image_guid b.image) b (on_base finish b) header sound (may_finish b.image header) (ap (λ (c : Base). c.image) (finish_full b sound.sound.no_zeros))

-- The start of a backup: what stands after its strokes.
pub record IsStarted (b new : Base) (page slot : ℕ) : Type 0 where
  pub keeps : StaysSound b new
  pub state : image_state new.image ≡ stalled_state
  pub frozen : new.frozen ≡ new.image
  pub room : HasPlainRoom new.image page slot

pub start_keeps : (s : Seen) (session : ℕ) (name : List ℕ) (ask : Ask) → HasHeader s.base.image → IsSoundImage s.base.image → MayStart s name → length (next_guid s.given) ≡ 16
    → IsStarted s.base (base_after s.base (started s session name ask).strokes) (room_in s.base.image).page (room_in s.base.image).slot
unfolding base_after on_base
start_keeps s session name ask header sound may sixteen =
    let b : Base = s.base in
    let guid : List ℕ = next_guid s.given in
    let ss : List Stroke = (room_in b.image).draft.strokes in
    let mid : Base = base_after b ss in
    let each : AreFitting AnyPage b ss = (room_fits b header sound may.unbroken AnyPage any_history (λ p there. tt) may.left).each in
    let first : KeepsSound b ss = fitting_keeps AnyPage ss b each header sound in
    let scn : image_scn mid.image ≤ 4294967293 = omega (arith, (fitting_stays AnyPage ss b each (header_whole b.image header sound)).scn, may.may.scn) in
    let begun = begin_keeps mid guid (Some ask) first.header first.sound scn sixteen in
    subst (λ (x : Base). IsStarted b x (room_in b.image).page (room_in b.image).slot) (sym (base_after-append b ss (begin guid (Some ask) ∷ [])))
    (record {
      keeps = sound_both b mid _ first begun.0;
      state = begun.1;
      frozen = frozen_then mid guid;
      room = room_then mid guid (room_begun mid guid (Some ask) (room_in b.image).page (room_in b.image).slot first.header first.sound sixteen scn (room_there b header sound may.unbroken may.left));
    })
  where
    frozen_then : (mid : Base) (guid : List ℕ) → (base_after mid (begin guid (Some ask) ∷ [])).frozen ≡ (base_after mid (begin guid (Some ask) ∷ [])).image
    frozen_then mid guid = refl

    room_then : (mid : Base) (guid : List ℕ) → HasPlainRoom (on_base (begin guid (Some ask)) mid).image (room_in s.base.image).page (room_in s.base.image).slot
        → HasPlainRoom (base_after mid (begin guid (Some ask) ∷ [])).image (room_in s.base.image).page (room_in s.base.image).slot
    room_then mid guid room = room

-- its close: the row is written
pub record HasPlace (image : Image) (b : Backing) : Type 0 where
  pub room : HasPlainRoom image b.page b.slot
  pub sixteen : length b.guid ≡ 16
  pub short : length b.name ≤ 224

pub close_fits : (s : Seen) (b : Backing) → HasHeader s.base.image → IsSoundImage s.base.image → HasPlace s.base.image b → AreFitting AnyPage s.base (close_backup s b).strokes
unfolding close_backup
close_fits s b header sound place =
    (slot_fits AnyPage (λ bytes e. tt) s.base b.page b.slot (backup_slot b.ask.level b.scn (next_time s.given) b.guid b.name) header sound place.room
    (backup_length b.ask.level b.scn (next_time s.given) b.guid b.name place.sixteen place.short) tt).each

-- what a turn sees
abbrev pub seen_now : Now → Seen
seen_now now = record { base = base_now now; cache = now.cache; running = now.running; entry = now.account.entry; given = now.given }
