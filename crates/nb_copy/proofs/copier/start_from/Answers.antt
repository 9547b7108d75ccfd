use Rattle.std.proofs.Common.{◌≡◌, ◌≢◌, inl, inr, ◌<◌, ◌≤◌, ℕ, List, length, replicate, refl, sym, ap, subst, ◌∙◌, true, IsTrue, Result, Ok, Err, IsErr, IsErrAnd, None, Some}
use Rattle.nb_copy.proofs.Common.{is_page_size, is_free_name, KnowsFree, GaveAtMost, Files, World, Leaves, Fault, Device, Memory, Changes, Only, Remade, GaveNothing, remade_alone, LevelHead, Base, image_state, Seen, next_guid, delta_name, Stroke, Trail, Held, IsOpen, but_pages, after_strokes, Tested, Tries, passed_on, Backed, BeginsFor, StartsBackup, IsNotMemory, IsItsLevel, Since, FileCopy, IsNewFile, IsStartedFile, IsRoomIn, turn_since, Quiet, quiet_gave, room_cause, tries_after, room_in, ask_in, ask_by, given_guid, IsEmpty, IsMade, is_made, OfFiles, name_of, goes_nowhere, goes_on}
use Rattle.nb_change.proofs.GaveLaws.{nothing_joined}
use Rattle.nb_engine.specs.declared.walk.Room.{Room}
use Rattle.nb_copy.proofs.StartLaws.{early, start_failed, given_later, given_before, starts_of, starts_passed}
use Rattle.nb_copy.proofs.InUseLaws.{free_apart}
use Rattle.nb_copy.proofs.RoomStartLaws.{start_roomless, start_unmade, made_open, start_unbegun, start_done, started_is}
use Rattle.nb_copy.proofs.BesideLaws.{made_kept}
use Rattle.nb_copy.proofs.AsideLaws.{open_aside}
use Rattle.nb_copy.proofs.copier.start_from.Goals as goal

-- what is seen, where its database is that of the trail
knows_seen : (files : Files) (s : Seen) (b : Base) (name : List ℕ) → b ≡ s.base → KnowsFree 0 files s name → KnowsFree 0 files (record s { base = b }) name
knows_seen files s b name same free = λ zero. free (sym (ap (λ (x : Base). image_state x.image) same) ∙ zero)

-- a call failed before room was made
failed_before : (result : Result Backed Fault) (fault : Fault) (old mid : World) (a m : Held) (t : Trail) (s : Seen) (session : ℕ) (since : Since) (name : List ℕ) → IsErr result × IsErrAnd result (λ f. f ≡ fault) → t.base ≡ s.base → a.running ≡ s.running
    → IsOpen old a t → but_pages m ≡ but_pages a → Quiet old mid → IsOpen mid m t → Tested {T = LevelHead} (Err fault) (early (record s { base = t.base }) session since name) → StartsBackup result old mid a m t name (next_guid s.given) (turn_since s session since name)
failed_before result fault old mid a m t s session since name passed same runs is but quiet still tested =
    starts_passed result fault old mid a m t s session since name passed same (start_failed old mid a m t (record s { base = t.base }) session since name refl runs is but quiet still fault tested)

abbrev copier_of : LevelHead → Room → FileCopy → (name : List ℕ) → Backed
copier_of head room file name = record { backing = record { name = name; ask = ask_by head; scn = head.scn; guid = head.guid; page = room.page; slot = room.slot }; page_size = head.page_size; file = file }

-- After the tests, by what the calls answered.
module _ (old mid : World) (a m : Held) (t : Trail) (s : Seen) (session : ℕ) (since : Since) (name : List ℕ) (same : t.base ≡ s.base) (runs : a.running ≡ s.running) (is : IsOpen old a t) (but : but_pages m ≡ but_pages a) (quiet : Quiet old mid)
    (free : is_free_name old.files name ≡ true) (plain : name ≡ delta_name (name_of a) → ⊥) (none : early (record s { base = t.base }) session since name ≡ None) where
  abbrev seen : Seen
  seen = record s { base = t.base }

  abbrev xs : List Stroke
  xs = (room_in t.base.image).draft.strokes

  apart : OfFiles (name_of a) name → ⊥
  apart = free_apart old a t name is free plain

  -- no room was made
  roomless : (result : Result Backed Fault) (fault : Fault) (new : World) (b : Held) → IsErr result × IsErrAnd result (λ f. f ≡ fault) → Tries {T = Room} (Err fault) mid new m b t (room_cause t.base.image) xs
      → StartsBackup result old new a b t name (next_guid s.given) (turn_since s session since name)
  roomless result fault new b passed makes =
      starts_passed result fault old new a b t s session since name passed same
      (start_roomless old new a b t seen session since name runs refl is apart none Room fault (tries_after {T = Room} (Err fault) old mid new a m b t (room_cause t.base.image) xs but quiet is makes))

  -- room was made
  module _ (there made : World) (b : Held) (room : Room) (makes : Tries {T = Room} (Ok room) mid there m b t (room_cause t.base.image) xs) (file : Changes there made (Only name) (Remade there name IsEmpty)) (gave : GaveNothing there made) (reads : (n : List ℕ) → Leaves there n (there.files n)) where
    tries : Tries {T = Room} (Ok room) old there a b t (room_cause t.base.image) xs
    tries = tries_after {T = Room} (Ok room) old mid there a m b t (room_cause t.base.image) xs but quiet is makes

    -- but no file
    unmade : (result : Result Backed Fault) → IsErr result × IsErrAnd result (λ f. f ≡ Device) → StartsBackup result old made a b t name (next_guid s.given) (turn_since s session since name)
    unmade result passed = starts_passed result Device old made a b t s session since name passed same (start_unmade old there a b t seen session since name runs refl is apart none Room room tries made reads file gave)

    opened : IsOpen made b (after_strokes t xs)
    opened = made_open old there a b t seen session since name runs refl is apart none Room room tries made reads file gave

    -- and the file, and the backup was to begin
    module _ (new : World) (d : Held) (empty : IsMade made name) (left : (n : List ℕ) → Leaves made n (made.files n)) (bare : LevelHead) (given : GaveAtMost old new (next_guid s.given)) where
      late : GaveAtMost made new (next_guid s.given)
      late = given_later old made new (next_guid s.given) (nothing_joined old there made tries.makes.gave gave) given

      unbegun : (result : Result Backed Fault) (fault : Fault) → IsErr result × IsErrAnd result (λ f. f ≡ fault) → fault ≢ Memory
          → (IsOpen made b (after_strokes t xs) → GaveAtMost made new (next_guid s.given) → BeginsFor (Err fault) made new b d (after_strokes t xs) (next_guid s.given) (Some (ask_in since t.base.image)) session bare)
          → StartsBackup result old new a d t name (next_guid s.given) (turn_since s session since name)
      unbegun result fault passed sure begins =
          starts_passed result fault old new a d t s session since name passed same
          (start_unbegun old there a b t seen session since name runs refl is apart none Room room tries made reads file gave new d empty left bare fault sure (begins opened late))

      begun : (head : LevelHead) → (IsOpen made b (after_strokes t xs) → GaveAtMost made new (next_guid s.given) → BeginsFor (Ok head) made new b d (after_strokes t xs) (next_guid s.given) (Some (ask_in since t.base.image)) session bare)
          → (f g : FileCopy) (count : ℕ) (copied : List ℕ) → ((guid : List ℕ) × (length guid ≡ 16) × GaveAtMost made new guid) → ask_by bare ≡ ask_in since t.base.image → IsRoomIn t.base.image room → room.page < length (room_in t.base.image).draft.image
          → IsNewFile name bare f → IsStartedFile f g head count → count ≡ d.files.count → bare.level ≤ 9 → length bare.previous ≡ 16 → IsTrue (is_page_size bare.page_size) → bare.page_size ≡ a.files.page_size → copied ≡ name
          → StartsBackup (Ok (copier_of head room g copied)) old new a d t name (next_guid s.given) (turn_since s session since name)
      begun head begins f g count copied asks asked roomed low is_new is_started counted nine previous sized size name_is =
          let it = begins opened late in
          let sixteen : length (next_guid s.given) ≡ 16 = ap length (sym (given_guid made.guids new.guids (next_guid s.given) asks.0 it.gave asks.2)) ∙ asks.1 in
          let started = started_is old there a b t seen session since name runs refl is apart none Room room tries made reads file gave new d empty left bare head it room f g count sixteen asked roomed low is_new is_started counted nine previous sized size in
          starts_of (Ok (copier_of head room g copied)) old new a d t s session since name same
          (subst (λ (n : List ℕ). StartsBackup (Ok (copier_of head room g n)) old new a d t name (next_guid s.given) (turn_since seen session since name)) (sym name_is)
          (start_done old there a b t seen session since name runs refl is apart none Room room tries made reads file gave new d empty left bare head it (copier_of head room g name) started))

-- the GUID is asked for after all else
asked_before : (old mid there made new : World) → Quiet old mid → GaveNothing mid there → GaveNothing there made → ((guid : List ℕ) × (length guid ≡ 16) × GaveAtMost made new guid) → (guid : List ℕ) × (length guid ≡ 16) × GaveAtMost old new guid
asked_before old mid there made new quiet gave none asks =
    (asks.0, asks.1, given_before old made new asks.0 (nothing_joined old there made (nothing_joined old mid there (quiet_gave old mid quiet) gave) none) asks.2)

-- however the begin ends, the file stays as it was made
made_since : (there made new : World) (a b d : Held) (u : Trail) (name : List ℕ) (result : Result LevelHead Fault) (session : ℕ) (bare : LevelHead) → name_of b ≡ name_of a → (OfFiles (name_of a) name → ⊥) → IsOpen there b u → ((n : List ℕ) → Leaves there n (there.files n))
    → Changes there made (Only name) (Remade there name IsEmpty) → IsMade made name → ((guid : List ℕ) × (length guid ≡ 16) × GaveAtMost made new guid)
    → ((guid : List ℕ) → IsOpen made b u → GaveAtMost made new guid → BeginsFor result made new b d u guid None session bare) → IsMade new name
made_since there made new a b d u name result session bare own plain is reads file empty asks begins =
    let apart : OfFiles (name_of b) name → ⊥ = λ its. plain (subst (λ (n : List ℕ). OfFiles n name) own its) in
    let opened = open_aside there made b u is reads (Only name) (λ m same its. apart (subst (OfFiles (name_of b)) same its)) _ file in
    made_kept made new _ _ name (begins asks.0 opened asks.2).left apart empty

pub returns-in_err-head-clause-turn : goal.returns-in_err-head-clause-turn
returns-in_err-head-clause-turn g c s t tells same runs is free plain given =
    let check = c.check_start.ensures in
    failed_before c.from_residual.result c.in_err-head.field-0.0 _ _ c.args.engine.now c.check_start.new.engine t s c.args.session c.args.since c.args.name.now c.from_residual.ensures same runs is check.looks.same check.looks.quiet (check.looks.opened t tells is)
    (c.in_err-head.ensures.test (record s { base = t.base }) t tells refl is (knows_seen (g.H.Host.world c.args.host.now).files s t.base c.args.name.now same free))

pub returns-in_err-file-clause-turn : goal.returns-in_err-file-clause-turn
returns-in_err-file-clause-turn g c s t tells same runs is free plain given =
    let check = c.check_start.ensures in
    failed_before c.from_residual-in_err-file.result Memory _ _ c.args.engine.now c.check_start.new.engine t s c.args.session c.args.since c.args.name.now c.from_residual-in_err-file.ensures same runs is check.looks.same check.looks.quiet (check.looks.opened t tells is) tt

pub returns-in_err-head-clause-asks : goal.returns-in_err-head-clause-asks
returns-in_err-head-clause-asks g c t tells is = (replicate 16 0, refl, inl c.check_start.ensures.looks.quiet.guids)

pub returns-in_err-file-clause-asks : goal.returns-in_err-file-clause-asks
returns-in_err-file-clause-asks g c t tells is = (replicate 16 0, refl, inl c.check_start.ensures.looks.quiet.guids)

pub returns-in_err-room-clause-turn : goal.returns-in_err-room-clause-turn
returns-in_err-room-clause-turn g c s t tells same runs is free plain given =
    let check = c.in_ok-head.ensures in
    roomless _ _ c.args.engine.now c.check_start.new.engine t s c.args.session c.args.since c.args.name.now same runs is check.looks.same check.looks.quiet (check.free tells) plain (check.test (record s { base = t.base }) t tells refl is (knows_seen (g.H.Host.world c.args.host.now).files s t.base c.args.name.now same free))
    c.from_residual-in_err-room.result c.in_err-room.field-0.0 _ c.history_room.new.self c.from_residual-in_err-room.ensures (c.in_err-room.ensures.makes t tells (check.looks.opened t tells is))

pub returns-in_err-room-clause-asks : goal.returns-in_err-room-clause-asks
returns-in_err-room-clause-asks g c t tells is =
    let here = c.check_start.ensures.looks.opened t tells is in
    (replicate 16 0, refl, inl ((c.in_err-room.ensures.makes t tells here).makes.gave.guids ∙ c.check_start.ensures.looks.quiet.guids))

pub returns-in_err-make-clause-turn : goal.returns-in_err-make-clause-turn
returns-in_err-make-clause-turn g c s t tells same runs is free plain given =
    let check = c.in_ok-head.ensures in
    let make = c.in_err-make.ensures in
    unmade _ _ c.args.engine.now c.check_start.new.engine t s c.args.session c.args.since c.args.name.now same runs is check.looks.same check.looks.quiet (check.free tells) plain (check.test (record s { base = t.base }) t tells refl is (knows_seen (g.H.Host.world c.args.host.now).files s t.base c.args.name.now same free))
    (g.H.Host.world c.history_room.new.host) (g.H.Host.world c.make.new.self) c.history_room.new.self c.in_ok-room.room (c.in_ok-room.ensures.makes t tells (check.looks.opened t tells is))
    (remade_alone _ _ (g.H.Host.world c.history_room.new.host) (g.H.Host.world c.make.new.self) c.args.name.now _ IsEmpty tells (g.met.H.Host.timely _) make.files make.log.said make.time refl) (record { guids = make.log.guids; times = make.log.times }) (λ n. g.met.H.Host.reads_left _ tells n)
    c.from_residual-in_err-make.result c.from_residual-in_err-make.ensures

pub returns-in_err-make-clause-asks : goal.returns-in_err-make-clause-asks
returns-in_err-make-clause-asks g c t tells is =
    let here = c.check_start.ensures.looks.opened t tells is in
    (replicate 16 0, refl, inl (c.in_err-make.ensures.log.guids ∙ (c.in_ok-room.ensures.makes t tells here).makes.gave.guids ∙ c.check_start.ensures.looks.quiet.guids))

pub returns-in_err-head-2-clause-turn : goal.returns-in_err-head-2-clause-turn
returns-in_err-head-2-clause-turn g c s t tells same runs is free plain given =
    let check = c.in_ok-head.ensures in
    let make = c.in_ok-make.ensures in
    unbegun _ _ c.args.engine.now c.check_start.new.engine t s c.args.session c.args.since c.args.name.now same runs is check.looks.same check.looks.quiet (check.free tells) plain (check.test (record s { base = t.base }) t tells refl is (knows_seen (g.H.Host.world c.args.host.now).files s t.base c.args.name.now same free))
    (g.H.Host.world c.history_room.new.host) (g.H.Host.world c.make.new.self) c.history_room.new.self c.in_ok-room.room (c.in_ok-room.ensures.makes t tells (check.looks.opened t tells is))
    (remade_alone _ _ (g.H.Host.world c.history_room.new.host) (g.H.Host.world c.make.new.self) c.args.name.now _ IsEmpty tells (g.met.H.Host.timely _) make.files make.log.said make.time refl) (record { guids = make.log.guids; times = make.log.times }) (λ n. g.met.H.Host.reads_left _ tells n)
    (g.H.Host.world c.begin.new.host) c.begin.new.engine (is_made _ _ _ _ c.args.name.now tells make.files) (λ n. g.met.H.Host.reads_left _ tells n) c.in_ok-head.head given
    c.from_residual-in_err-head-2.result c.in_err-head-2.field-0.0 c.from_residual-in_err-head-2.ensures c.in_err-head-2.ensures.takes_none (λ opened late. c.in_err-head-2.ensures.begins (after_strokes t (room_in t.base.image).draft.strokes) (next_guid s.given) (Some (ask_in c.args.since t.base.image)) tells opened late)

pub returns-in_err-head-2-clause-asks : goal.returns-in_err-head-2-clause-asks
returns-in_err-head-2-clause-asks g c t tells is =
    let log = c.in_ok-make.ensures.log in
    asked_before (g.H.Host.world c.args.host.now) (g.H.Host.world c.check_start.new.host) (g.H.Host.world c.history_room.new.host) (g.H.Host.world c.make.new.self) (g.H.Host.world c.begin.new.host) c.check_start.ensures.looks.quiet
    (c.in_ok-room.ensures.makes t tells (c.check_start.ensures.looks.opened t tells is)).makes.gave (record { guids = log.guids; times = log.times }) (c.begin.ensures.asks tells)

pub returns-clause-asks : goal.returns-clause-asks
returns-clause-asks g c t tells is =
    let log = c.in_ok-make.ensures.log in
    asked_before (g.H.Host.world c.args.host.now) (g.H.Host.world c.check_start.new.host) (g.H.Host.world c.history_room.new.host) (g.H.Host.world c.make.new.self) (g.H.Host.world c.begin.new.host) c.check_start.ensures.looks.quiet
    (c.in_ok-room.ensures.makes t tells (c.check_start.ensures.looks.opened t tells is)).makes.gave (record { guids = log.guids; times = log.times }) (c.begin.ensures.asks tells)

pub returns-clause-turn : goal.returns-clause-turn
returns-clause-turn g c s t tells same runs is free plain given =
    let check = c.in_ok-head.ensures in
    let make = c.in_ok-make.ensures in
    let here = check.looks.opened t tells is in
    begun _ _ c.args.engine.now c.check_start.new.engine t s c.args.session c.args.since c.args.name.now same runs is check.looks.same check.looks.quiet (check.free tells) plain (check.test (record s { base = t.base }) t tells refl is (knows_seen (g.H.Host.world c.args.host.now).files s t.base c.args.name.now same free))
    (g.H.Host.world c.history_room.new.host) (g.H.Host.world c.make.new.self) c.history_room.new.self c.in_ok-room.room (c.in_ok-room.ensures.makes t tells here)
    (remade_alone _ _ (g.H.Host.world c.history_room.new.host) (g.H.Host.world c.make.new.self) c.args.name.now _ IsEmpty tells (g.met.H.Host.timely _) make.files make.log.said make.time refl) (record { guids = make.log.guids; times = make.log.times }) (λ n. g.met.H.Host.reads_left _ tells n)
    (g.H.Host.world c.begin.new.host) c.begin.new.engine (is_made _ _ _ _ c.args.name.now tells make.files) (λ n. g.met.H.Host.reads_left _ tells n) c.in_ok-head.head given
    c.in_ok-head-2.head (λ opened late. c.in_ok-head-2.ensures.begins (after_strokes t (room_in t.base.image).draft.strokes) (next_guid s.given) (Some (ask_in c.args.since t.base.image)) tells opened late)
    c.in_ok-file.file c.start.new.self c.count.result c.copied.result (c.begin.ensures.asks tells) (check.head t tells is) (c.in_ok-room.ensures.room t tells here) (c.in_ok-room.ensures.below t tells here)
    c.in_ok-file.ensures c.start.ensures c.count.ensures.value check.level check.previous check.sized check.size c.copied.ensures

pub returns-clause-its_level : goal.returns-clause-its_level
returns-clause-its_level g c = subst (IsItsLevel c.args.since) (sym c.in_ok-head-2.ensures.level) c.in_ok-head.ensures.its_level

pub returns-in_err-head-clause-made_first : goal.returns-in_err-head-clause-made_first
returns-in_err-head-clause-made_first g c t tells is plain = let check = c.in_err-head.ensures in inl (quiet_gave _ _ check.looks.quiet, goes_nowhere _ _ check.looks.same)

pub returns-in_err-file-clause-made_first : goal.returns-in_err-file-clause-made_first
returns-in_err-file-clause-made_first g c t tells is plain = let check = c.in_ok-head.ensures in inl (quiet_gave _ _ check.looks.quiet, goes_nowhere _ _ check.looks.same)

pub returns-in_err-room-clause-made_first : goal.returns-in_err-room-clause-made_first
returns-in_err-room-clause-made_first g c t tells is plain =
    let check = c.in_ok-head.ensures in
    let makes = (c.in_err-room.ensures.makes t tells (check.looks.opened t tells is)).makes in
    inl (nothing_joined _ _ _ (quiet_gave _ _ check.looks.quiet) makes.gave, goes_on _ _ _ (goes_nowhere _ _ check.looks.same) makes.goes)

pub returns-in_err-make-clause-made_first : goal.returns-in_err-make-clause-made_first
returns-in_err-make-clause-made_first g c t tells is plain =
    let check = c.in_ok-head.ensures in
    let log = c.in_err-make.ensures.log in
    let makes = (c.in_ok-room.ensures.makes t tells (check.looks.opened t tells is)).makes in
    inl (nothing_joined _ _ _ (nothing_joined _ _ _ (quiet_gave _ _ check.looks.quiet) makes.gave) (record { guids = log.guids; times = log.times }), goes_on _ _ _ (goes_nowhere _ _ check.looks.same) makes.goes)

pub returns-in_err-head-2-clause-made_first : goal.returns-in_err-head-2-clause-made_first
returns-in_err-head-2-clause-made_first g c t tells is plain =
    let check = c.in_ok-head.ensures in
    let make = c.in_ok-make.ensures in
    let makes = (c.in_ok-room.ensures.makes t tells (check.looks.opened t tells is)).makes in
    let fault = c.in_err-head-2.field-0.0 in
    let sure = subst (λ (r : Result Backed Fault). IsNotMemory r) (sym (passed_on c.from_residual-in_err-head-2.result fault c.from_residual-in_err-head-2.ensures)) c.in_err-head-2.ensures.takes_none in
    inr (
      made_since (g.H.Host.world c.history_room.new.host) (g.H.Host.world c.make.new.self) (g.H.Host.world c.begin.new.host) c.args.engine.now c.history_room.new.self c.begin.new.engine _ c.args.name.now (Err fault) c.args.session c.in_ok-head.head (makes.goes.name ∙ ap name_of check.looks.same)
          (free_apart (g.H.Host.world c.args.host.now) c.args.engine.now t c.args.name.now is (check.free tells) plain) makes.opened (λ n. g.met.H.Host.reads_left _ tells n) (remade_alone _ _ (g.H.Host.world c.history_room.new.host) (g.H.Host.world c.make.new.self) c.args.name.now _ IsEmpty tells (g.met.H.Host.timely _) make.files make.log.said make.time refl)
          (is_made _ _ _ _ c.args.name.now tells make.files) (c.begin.ensures.asks tells) (λ guid opened given. c.in_err-head-2.ensures.begins _ guid None tells opened given),
      sure,
    )

pub returns-clause-made_first : goal.returns-clause-made_first
returns-clause-made_first g c t tells is plain =
    let check = c.in_ok-head.ensures in
    let make = c.in_ok-make.ensures in
    let makes = (c.in_ok-room.ensures.makes t tells (check.looks.opened t tells is)).makes in
    inr (
      made_since (g.H.Host.world c.history_room.new.host) (g.H.Host.world c.make.new.self) (g.H.Host.world c.begin.new.host) c.args.engine.now c.history_room.new.self c.begin.new.engine _ c.args.name.now (Ok c.in_ok-head-2.head) c.args.session c.in_ok-head.head (makes.goes.name ∙ ap name_of check.looks.same)
          (free_apart (g.H.Host.world c.args.host.now) c.args.engine.now t c.args.name.now is (check.free tells) plain) makes.opened (λ n. g.met.H.Host.reads_left _ tells n) (remade_alone _ _ (g.H.Host.world c.history_room.new.host) (g.H.Host.world c.make.new.self) c.args.name.now _ IsEmpty tells (g.met.H.Host.timely _) make.files make.log.said make.time refl)
          (is_made _ _ _ _ c.args.name.now tells make.files) (c.begin.ensures.asks tells) (λ guid opened given. c.in_ok-head-2.ensures.begins _ guid None tells opened given),
      tt,
    )
