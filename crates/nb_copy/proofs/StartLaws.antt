-- The start of a backup: tests, room in the history, and the begin.
use Rattle.std.proofs.Common.{◌≡◌, ◌⊎◌, inl, ℕ, zero, suc, List, [], ◌∷◌, ◌++◌, length, replicate, refl, sym, ap, subst, ◌∙◌, true, Option, Some, None, is_none, Err, IsErr, IsErrAnd, Result}
use Rattle.nb_copy.proofs.Common.{normal_state, GaveAtMost, World, Fault, Device, Memory, Refusal, NoHistory, NoGuid, Quiet, GaveNothing, Strikes, LevelHead, Refused, Ask, Base, room_in, starts, backup_turn, since_turn, Cause, first_cause, when, read_only, not_state, not_free, no_scn, no_room, not_of_form, broken_at, short_for, History, Spot, pages_of, spots, free_spot, Image, image_scn, Outcome, Copies, ClosesBackup, Seen, next_guid, without_guid, says, unless, Stroke, begin, Trail, Held, IsOpen, but_pages, name_of, Tested, has_only_told, unless_by, struck_front, room_cause, told_some, unless_refused, unless_allowed, HasNotBegun, StartsBackup, earlier_row, row_cause, earlier_cause, file_cause, ask_in, turn_since, Backed, Since, Level, Guid, passed_on, first_here}
use Rattle.nb_host.specs.declared.faults.Fault.TheVariants.{Refused as RefusedFault}
use Rattle.nb_copy.proofs.BesideLaws.{starts_quiet}
use Rattle.nb_copy.proofs.StartCauses.{after_none}
use Rattle.nb_base.specs.Stays.{GrowsWithin}
use Rattle.nb_base.proofs.StaysLaws.{grows_front, grows_not}
use Rattle.nb_alloc.specs.Tries.{StopsShort}
use Rattle.nb_alloc.proofs.WantLaws.{early_quiet, short_front}
use Rattle.nb_engine.proofs.BackupLaws.{strokes_by}

-- the tests in the order of the calls are those of the turn
at_once : (a b c d e f g h i : Cause) → first_cause (first_cause (first_cause (a ∷ b ∷ c ∷ []) ∷ first_cause (d ∷ e ∷ []) ∷ []) ∷ first_cause (d ∷ f ∷ g ∷ h ∷ i ∷ []) ∷ []) ≡ first_cause (a ∷ b ∷ c ∷ d ∷ e ∷ f ∷ g ∷ h ∷ i ∷ [])
unfolding first_cause
at_once (Some r) b c d e f g h i = refl
at_once None (Some r) c d e f g h i = refl
at_once None None (Some r) d e f g h i = refl
at_once None None None (Some r) e f g h i = refl
at_once None None None None (Some r) f g h i = refl
at_once None None None None None (Some r) g h i = refl
at_once None None None None None None (Some r) h i = refl
at_once None None None None None None None (Some r) i = refl
at_once None None None None None None None None (Some r) = refl
at_once None None None None None None None None None = refl

none_early : (a b c d f g h i : Cause) → first_cause (first_cause (first_cause (a ∷ b ∷ c ∷ []) ∷ None ∷ []) ∷ first_cause (d ∷ f ∷ g ∷ h ∷ i ∷ []) ∷ []) ≡ first_cause (a ∷ b ∷ c ∷ d ∷ None ∷ f ∷ g ∷ h ∷ i ∷ [])
unfolding first_cause
none_early (Some r) b c d f g h i = refl
none_early None (Some r) c d f g h i = refl
none_early None None (Some r) d f g h i = refl
none_early None None None (Some r) f g h i = refl
none_early None None None None (Some r) g h i = refl
none_early None None None None None (Some r) h i = refl
none_early None None None None None None (Some r) i = refl
none_early None None None None None None None (Some r) = refl
none_early None None None None None None None None = refl

-- the turn of one that begins
abbrev started_by : Seen → (session : ℕ) → (name : List ℕ) → Ask → Outcome
started_by s session name ask = record {
  strokes = (room_in s.base.image).draft.strokes ++ begin (next_guid s.given) (Some ask) ∷ [];
  reply = None;
  next = replicate (length (room_in s.base.image).draft.image) Copies
      ++ ClosesBackup (record { name = name; ask = ask; scn = image_scn s.base.image; guid = next_guid s.given; page = (room_in s.base.image).page; slot = (room_in s.base.image).slot }) ∷ [];
  running = Some session;
  made = None;
  given = without_guid s.given;
}

module _ (s : Seen) (session : ℕ) (since : Since) (name : List ℕ) where
  abbrev image : Image
  image = s.base.image

  abbrev pub early : Cause
  early = first_cause (file_cause s name ∷ earlier_cause since image ∷ [])

  abbrev pub start_cause : Cause
  start_cause = first_cause (early ∷ room_cause image ∷ [])

  abbrev pub strokes : List Stroke
  strokes = (room_in image).draft.strokes ++ begin (next_guid s.given) (Some (ask_in since image)) ∷ []

  abbrev pub started : Outcome
  started = started_by s session name (ask_in since image)

-- where a row is looked for
row_turn : (s : Seen) (session : ℕ) (name : List ℕ) (ask : Ask) (row : Option Spot) (missing : Refusal)
    → starts s session name ask (when (is_none row) missing) ≡ unless s (first_cause (first_cause (file_cause s name ∷ row_cause s.base.image row missing ∷ []) ∷ room_cause s.base.image ∷ [])) (started_by s session name ask)
unfolding starts
row_turn s session name ask row missing =
    ap (λ (c : Cause). unless s c (started_by s session name ask))
    (sym (at_once (read_only s.base.image) (not_state normal_state s.base.image) (not_free name (s.entry name)) (broken_at (pages_of History s.base.image)) (when (is_none row) missing) (short_for (free_spot (spots History s.base.image)) s.base.image)
    (not_of_form (room_in s.base.image).draft) (no_room (room_in s.base.image).draft) (no_scn s.base.image)))

turn_by : (s : Seen) (session : ℕ) (since : Since) (name : List ℕ) → turn_since s session since name ≡ unless s (start_cause s session since name) (started s session since name)
unfolding backup_turn since_turn starts
turn_by s session (Level zero) name =
    ap (λ (c : Cause). unless s c (started s session (Level zero) name))
    (sym (none_early (read_only s.base.image) (not_state normal_state s.base.image) (not_free name (s.entry name)) (broken_at (pages_of History s.base.image)) (short_for (free_spot (spots History s.base.image)) s.base.image)
    (not_of_form (room_in s.base.image).draft) (no_room (room_in s.base.image).draft) (no_scn s.base.image)))
turn_by s session (Level (suc below)) name = row_turn s session name (ask_in (Level (suc below)) s.base.image) (earlier_row (Level (suc below)) s.base.image) (NoHistory below)
turn_by s session (Guid guid) name = row_turn s session name (ask_in (Guid guid) s.base.image) (earlier_row (Guid guid) s.base.image) (NoGuid guid)

pub struck_some : (old new : World) (n : List ℕ) (t : Trail) (cause : Cause) (xs ys : List Stroke) → Strikes old new n t (unless_by cause xs) → Strikes old new n t (unless_by cause (xs ++ ys))
struck_some old new n t None xs ys struck = struck_front old new n t xs ys struck
struck_some old new n t (Some r) xs ys struck = struck

pub struck_most : (old new : World) (n : List ℕ) (t : Trail) (cause : Cause) (xs : List Stroke) → Strikes old new n t (unless_by cause xs) → Strikes old new n t xs
struck_most old new n t None xs struck = struck
struck_most old new n t (Some r) xs struck = struck_front old new n t [] xs struck

-- the same of how long the main file grows, and where memory ran out
pub grown_some : (old new : World) (n : List ℕ) (size : ℕ) (t : Trail) (cause : Cause) (xs ys : List Stroke) → GrowsWithin old new n size t (unless_by cause xs) → GrowsWithin old new n size t (unless_by cause (xs ++ ys))
grown_some old new n size t None xs ys grows = grows_front old new n size t xs ys grows
grown_some old new n size t (Some r) xs ys grows = grows

pub short_some : (old new : World) (a b : Held) (t : Trail) (cause : Cause) (xs ys : List Stroke) → StopsShort old new a b t (unless_by cause xs) → StopsShort old new a b t (unless_by cause (xs ++ ys))
short_some old new a b t None xs ys stops = short_front old new a b t xs ys stops
short_some old new a b t (Some r) xs ys stops = stops

-- The turn, by what the calls found.
module _ (s : Seen) (session : ℕ) (since : Since) (name : List ℕ) where
  abbrev turn : Outcome
  turn = turn_since s session since name

  -- it is refused before room is made
  turn_early : (r : Refusal) → early s session since name ≡ Some r → turn ≡ says s (Refused r) []
  turn_early r e =
      turn_by s session since name
      ∙ unless_refused s (start_cause s session since name) (started s session since name) r (first_here (early s session since name) (room_cause s.base.image ∷ []) r e)

  module _ (none : early s session since name ≡ None) where
    room_decides : start_cause s session since name ≡ room_cause s.base.image
    room_decides = sym (after_none (early s session since name) (room_cause s.base.image) none)

    pub turn_late : (r : Refusal) → room_cause s.base.image ≡ Some r → turn ≡ says s (Refused r) []
    turn_late r e = turn_by s session since name ∙ unless_refused s (start_cause s session since name) (started s session since name) r (room_decides ∙ e)

    pub turn_told : has_only_told turn.reply ≡ true → (r : Refusal) × (room_cause s.base.image ≡ Some r)
    turn_told told =
        let by = subst (λ (o : Outcome). has_only_told o.reply ≡ true) (turn_by s session since name) told in
        let some = told_some s (start_cause s session since name) (started s session since name) refl by in
        (some.0, sym room_decides ∙ some.1)

    pub turn_strokes : turn.strokes ≡ unless_by (room_cause s.base.image) (strokes s session since name)
    turn_strokes =
        ap (λ (o : Outcome). o.strokes) (turn_by s session since name) ∙ strokes_by s (start_cause s session since name) (started s session since name)
        ∙ ap (λ (c : Cause). unless_by c (strokes s session since name)) room_decides

    pub turn_started : room_cause s.base.image ≡ None → turn ≡ started s session since name
    turn_started e = turn_by s session since name ∙ unless_allowed s (start_cause s session since name) (started s session since name) (room_decides ∙ e)

-- The call that begins a backup.
module _ (old mid : World) (a b : Held) (t : Trail) (s : Seen) (session : ℕ) (since : Since) (name : List ℕ) (at : t.base ≡ s.base) (runs : a.running ≡ s.running) (is : IsOpen old a t) (same : but_pages b ≡ but_pages a) (quiet : Quiet old mid) (still : IsOpen mid b t) where
  abbrev outcome : Outcome
  outcome = turn_since s session since name

  none_begun : (o : Outcome) → HasNotBegun old mid name (name_of a) t o
  none_begun o = record { guids = quiet.guids; room = starts_quiet old mid a t name o (room_in t.base.image).draft.strokes quiet is }

  -- it was refused, or failed, before room was made
  pub start_refused : (r : Refusal) → early s session since name ≡ Some r → StartsBackup (Err (RefusedFault r)) old mid a b t name (next_guid s.given) outcome
  start_refused r e =
      let o = turn_early s session since name r e in
      subst (λ (x : Outcome). StartsBackup (Err (RefusedFault r)) old mid a b t name (next_guid s.given) x) (sym o) (record {
        says = refl;
        left = starts_quiet old mid a t name (says s (Refused r) []) [] quiet is;
        long = grows_not old mid (name_of a) a.files.page_size t [] quiet;
        frozen = tt;
        stops = tt;
        begun = inl (none_begun (says s (Refused r) []));
        opened = still;
        running = ap (λ (h : Held). h.running) same ∙ runs;
        gave = tt;
        times = quiet.times;
        idle = λ told. quiet;
        name = ap (λ (h : Held). h.files.name) same;
        started = tt;
      })

  pub start_failed : (fault : Fault) → Tested {T = LevelHead} (Err fault) (early s session since name) → StartsBackup (Err fault) old mid a b t name (next_guid s.given) outcome
  start_failed (RefusedFault r) e = start_refused r e
  start_failed Device e = record {
    says = tt;
    left = starts_quiet old mid a t name outcome outcome.strokes quiet is;
    long = grows_not old mid (name_of a) a.files.page_size t outcome.strokes quiet;
    frozen = tt;
    stops = tt;
    begun = inl (none_begun outcome);
    opened = tt;
    running = tt;
    gave = tt;
    times = quiet.times;
    idle = λ told. quiet;
    name = ap (λ (h : Held). h.files.name) same;
    started = tt;
  }
  start_failed Memory e = record {
    says = tt;
    left = starts_quiet old mid a t name outcome outcome.strokes quiet is;
    long = grows_not old mid (name_of a) a.files.page_size t outcome.strokes quiet;
    frozen = tt;
    stops = early_quiet old mid a b t outcome.strokes quiet is still;
    begun = inl (none_begun outcome);
    opened = tt;
    running = tt;
    gave = tt;
    times = quiet.times;
    idle = λ told. quiet;
    name = ap (λ (h : Held). h.files.name) same;
    started = tt;
  }

-- the GUID is asked for after the room
pub given_later : (old mid new : World) (id : List ℕ) → GaveNothing old mid → GaveAtMost old new id → GaveAtMost mid new id
given_later old mid new id gave given = subst (λ (gs : List (List ℕ)). (new.guids ≡ gs) ⊎ (new.guids ≡ gs ++ id ∷ [])) (sym gave.guids) given

pub given_before : (old mid new : World) (id : List ℕ) → GaveNothing old mid → GaveAtMost mid new id → GaveAtMost old new id
given_before old mid new id gave given = subst (λ (gs : List (List ℕ)). (new.guids ≡ gs) ⊎ (new.guids ≡ gs ++ id ∷ [])) gave.guids given

-- The turn is that of what is seen, whose database is that of the trail.
pub starts_of : (result : Result Backed Fault) (old new : World) (a b : Held) (t : Trail) (s : Seen) (session : ℕ) (since : Since) (name : List ℕ) → t.base ≡ s.base
    → StartsBackup result old new a b t name (next_guid s.given) (turn_since (record s { base = t.base }) session since name) → StartsBackup result old new a b t name (next_guid s.given) (turn_since s session since name)
starts_of result old new a b t s session since name same starts = subst (λ (x : Base). StartsBackup result old new a b t name (next_guid s.given) (turn_since (record s { base = x }) session since name)) same starts

-- the same where `?` passes a fault on
pub starts_passed : (result : Result Backed Fault) (fault : Fault) (old new : World) (a b : Held) (t : Trail) (s : Seen) (session : ℕ) (since : Since) (name : List ℕ) → IsErr result × IsErrAnd result (λ f. f ≡ fault) → t.base ≡ s.base
    → StartsBackup (Err fault) old new a b t name (next_guid s.given) (turn_since (record s { base = t.base }) session since name) → StartsBackup result old new a b t name (next_guid s.given) (turn_since s session since name)
starts_passed result fault old new a b t s session since name passed same starts =
    starts_of result old new a b t s session since name same
    (subst (λ (r : Result Backed Fault). StartsBackup r old new a b t name (next_guid s.given) (turn_since (record s { base = t.base }) session since name)) (sym (passed_on result fault passed)) starts)
