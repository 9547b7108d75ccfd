-- The start of a backup after its tests: room in the history, the file, and the begin.
use Rattle.std.proofs.Common.{◌≡◌, ◌≢◌, inl, inr, ℕ, ◌<◌, ◌≤◌, List, [], ◌∷◌, ◌++◌, length, replicate, refl, sym, ap, subst, ◌∙◌, arith, true≢false, not, ◌==◌, nat_lt, IsTrue, Some, None, Result, Ok, Err}
use Rattle.nb_copy.proofs.Common.{number_in, state_of, scn_of, size_of, is_page_size, normal_state, stalled_state, World, Leaves, Fault, Device, Memory, Access, WrongState, ScnExhausted, Changes, Only, Remade, GaveNothing, after_all-joined, OfFiles, Strikes, after_strokes, LevelHead, Refused, Ask, Base, room_in, Cause, first_cause, when, read_only, not_state, not_free, no_scn, no_room, not_of_form, broken_at, short_for, History, pages_of, spots, free_spot, Page, Image, first_page, image_scn, image_size, Backing, Outcome, Copies, ClosesBackup, Seen, next_guid, says, HasHeader, Stroke, begin, base_after, Trail, after_stroke, no_first, Held, IsOpen, name_of, after_base, room_cause, IsRoomIn, Tries, starting_cause, unless_some, tries_opened, history_least, Backed, StartMakes, HasNotBegun, StartsBackup, IsStarted, BeginsFor, earlier_cause, file_cause, ask_in, ask_by, turn_since, Since, FileCopy, IsNewFile, IsStartedFile, file_count, IsEmpty, IsMade, first_next, no_cause, unless_none, none_some}
use Rattle.nb_host.specs.declared.faults.Fault.TheVariants.{Refused as RefusedFault}
use Rattle.nb_model.proofs.PagesOnly.{WritesPages, drafts_write_pages, pages_stay}
use Rattle.nb_model.proofs.RoomThere.{room_keeps}
use Rattle.nb_engine.specs.declared.walk.Room.{Room as Kept}
use Rattle.nb_base.specs.Stays.{FileIs, GrowsWithin}
use Rattle.nb_base.proofs.StaysLaws.{grows_front, grows_joined, other_keeps}
use Rattle.nb_base.proofs.TouchLaws.{strikes_in}
use Rattle.nb_state.specs.Does.{Makes}
use Rattle.nb_host.specs.Files.{File}
use Rattle.nb_alloc.specs.Tries.{StopsEarly}
use Rattle.nb_alloc.proofs.WantLaws.{early_short}
use Rattle.std.proofs.lemmas.List.{append-nil}
use Rattle.nb_copy.proofs.AsideLaws.{open_aside}
use Rattle.nb_copy.proofs.BegunLaws.{begun_frozen, begun_long, begun_size, begun_state}
use Rattle.nb_copy.proofs.FileCopyLaws.{IsFrozenOf, frozen_parts}
use Rattle.nb_copy.proofs.FileStartLaws.{file_first, file_starts}
use Rattle.nb_copy.proofs.RoomedLaws.{roomed_is, roomed_first}
use Rattle.nb_copy.proofs.BesideLaws.{starts_struck, starts_made, starts_then, starts_more, made_kept}
use Rattle.nb_copy.proofs.StartLaws.{early, strokes, started, grown_some, short_some, struck_some, struck_most, turn_late, turn_told, turn_strokes, turn_started}

-- what a page 0 says of why no backup begins
abbrev starting_of : Page → Cause
starting_of p =
    first_cause (when (not (number_in 65 1 p == 0)) (Access 1) ∷ when (not (state_of p == normal_state)) (WrongState (state_of p)) ∷ when (nat_lt 4294967293 (scn_of p)) (ScnExhausted (scn_of p)) ∷ [])

-- After the tests.
module _ (old mid : World) (a b : Held) (t : Trail) (s : Seen) (session : ℕ) (since : Since) (name : List ℕ) (runs : a.running ≡ s.running) (at : t.base ≡ s.base) (is : IsOpen old a t) (apart : OfFiles (name_of a) name → ⊥)
    (none : early s session since name ≡ None) where
  abbrev image : Image
  image = s.base.image

  abbrev xs : List Stroke
  xs = (room_in image).draft.strokes

  abbrev ask : Ask
  ask = ask_in since image

  abbrev guid : List ℕ
  guid = next_guid s.given

  abbrev outcome : Outcome
  outcome = turn_since s session since name

  -- the two files of the database are touched at most
  struck_by : {T : Type 0} {result : Result T Fault} {w : World} {d : Held} {ss : List Stroke} → Makes result old w a d t ss → Strikes old w (name_of a) t ss
  struck_by {w = w} {ss = ss} makes = strikes_in old w a.files.state (name_of a) t ss makes.left

  not_begun : (w : World) (o : Outcome) → w.guids ≡ old.guids → StartMakes old w name (name_of a) t o xs → HasNotBegun old w name (name_of a) t o
  not_begun w o guids makes = record { guids = guids; room = subst (λ (x : Base). StartMakes old w name (name_of a) t o (room_in x.image).draft.strokes) (sym at) makes }

  -- no room was made
  module _ (T : Type 0) where
    roomless : (fault : Fault) (o : Outcome) → Tries {T = T} (Err fault) old mid a b t (room_cause image) xs → HasNotBegun old mid name (name_of a) t o
    roomless fault o tries = not_begun mid o tries.makes.gave.guids (starts_struck name (name_of a) apart t o old mid xs (struck_most old mid (name_of a) t (room_cause image) xs (struck_by tries.makes)))

    -- strokes that more would have followed
    roomless_left : (fault : Fault) → Tries {T = T} (Err fault) old mid a b t (room_cause image) xs → StartMakes old mid name (name_of a) t outcome outcome.strokes
    roomless_left fault tries =
        starts_struck name (name_of a) apart t outcome old mid outcome.strokes
        (subst (λ (ss : List Stroke). Strikes old mid (name_of a) t ss) (sym (turn_strokes s session since name none)) (struck_some old mid (name_of a) t (room_cause image) xs (begin guid (Some ask) ∷ []) (struck_by tries.makes)))

    roomless_long : (fault : Fault) → Tries {T = T} (Err fault) old mid a b t (room_cause image) xs → GrowsWithin old mid (name_of a) a.files.page_size t outcome.strokes
    roomless_long fault tries =
        subst (λ (ss : List Stroke). GrowsWithin old mid (name_of a) a.files.page_size t ss) (sym (turn_strokes s session since name none))
        (grown_some old mid (name_of a) a.files.page_size t (room_cause image) xs (begin guid (Some ask) ∷ []) tries.makes.long)

    roomless_early : Tries {T = T} (Err Memory) old mid a b t (room_cause image) xs → StopsEarly old mid a b t outcome.strokes
    roomless_early tries =
        subst (λ (ss : List Stroke). StopsEarly old mid a b t ss) (sym (turn_strokes s session since name none))
        (early_short old mid a b t _ (short_some old mid a b t (room_cause image) xs (begin guid (Some ask) ∷ []) tries.stops))

    pub start_roomless : (fault : Fault) → Tries {T = T} (Err fault) old mid a b t (room_cause image) xs → StartsBackup (Err fault) old mid a b t name guid outcome
    start_roomless (RefusedFault r) tries =
        let nothing = unless_some (room_cause image) xs r tries.test in
        let o : Outcome = says s (Refused r) [] in
        subst (λ (x : Outcome). StartsBackup (Err (RefusedFault r)) old mid a b t name guid x) (sym (turn_late s session since name none r tries.test)) (record {
          says = refl;
          left = starts_struck name (name_of a) apart t o old mid [] (subst (λ (ss : List Stroke). Strikes old mid (name_of a) t ss) nothing (struck_by tries.makes));
          long = subst (λ (ss : List Stroke). GrowsWithin old mid (name_of a) a.files.page_size t ss) nothing tries.makes.long;
          frozen = tt;
          stops = tt;
          begun = inl (roomless (RefusedFault r) o tries);
          opened = subst (λ (ss : List Stroke). IsOpen mid b (after_strokes t ss)) nothing tries.makes.opened;
          running = tries.makes.goes.running ∙ runs;
          gave = tt;
          times = tries.makes.gave.times;
          idle = λ told. tries.idle r tries.test;
          name = tries.makes.goes.name;
          started = tt;
        })
    start_roomless Device tries = record {
      says = tt;
      left = roomless_left Device tries;
      long = roomless_long Device tries;
      frozen = tt;
      stops = tt;
      begun = inl (roomless Device outcome tries);
      opened = tt;
      running = tt;
      gave = tt;
      times = tries.makes.gave.times;
      idle = λ told. let some = turn_told s session since name none told in tries.idle some.0 some.1;
      name = tries.makes.goes.name;
      started = tt;
    }
    start_roomless Memory tries = record {
      says = tt;
      left = roomless_left Memory tries;
      long = roomless_long Memory tries;
      frozen = tt;
      stops = roomless_early tries;
      begun = inl (roomless Memory outcome tries);
      opened = tt;
      running = tt;
      gave = tt;
      times = tries.makes.gave.times;
      idle = λ told. let some = turn_told s session since name none told in tries.idle some.0 some.1;
      name = tries.makes.goes.name;
      started = tt;
    }

  -- room was made
  module _ (T : Type 0) (value : T) (tries : Tries (Ok value) old mid a b t (room_cause image) xs) where
    abbrev u : Trail
    u = after_strokes t xs

    header : HasHeader image
    header = subst (λ (x : Base). HasHeader x.image) at (record { header = is.files.agrees.header; scn = omega (arith, is.agrees.scn, is.agrees.four) })

    abbrev short : Cause
    short = short_for (free_spot (spots History image)) image

    abbrev room_tests : List Cause
    room_tests = not_of_form (room_in image).draft ∷ no_room (room_in image).draft ∷ no_scn image ∷ []

    decided : (broken_at (pages_of History image) ≡ None) × (first_cause room_tests ≡ None)
    decided =
        let linked = no_first (broken_at (pages_of History image)) (short ∷ room_tests) tries.test in
        (linked.0, (no_first short room_tests linked.1).1)

    pub may_go_on : no_scn image ≡ None
    may_go_on =
        (no_first (no_scn image) []
        (no_first (no_room (room_in image).draft) (no_scn image ∷ []) (no_first (not_of_form (room_in image).draft) (no_room (room_in image).draft ∷ no_scn image ∷ []) decided.1).1).1).0

    pub seen : u.base.image ≡ (room_in image).draft.image
    seen = subst (λ (x : Base). (after_strokes t (room_in x.image).draft.strokes).base.image ≡ (room_in x.image).draft.image) at (roomed_is t)

    pub same_first : first_page u.base.image ≡ first_page image
    same_first = ap first_page seen ∙ roomed_first image header decided.0

    -- page 4 is there, and the room makes the database no shorter
    least : 5 ≤ length u.base.image
    least =
        let longer = (pages_stay xs s.base (room_keeps WritesPages drafts_write_pages image tt) header).stays.longer in
        let after = ap (λ (b : Base). length b.image) (after_base t xs ∙ ap (λ (b : Base). base_after b xs) at) in
        omega (arith, history_least image decided.0, longer, after)

    starts_here : starting_cause image ≡ None
    starts_here =
        let tests = no_first (file_cause s name) (earlier_cause since image ∷ []) none in
        let first = no_first (read_only image) (not_state normal_state image ∷ not_free name (s.entry name) ∷ []) tests.0 in
        let second = no_first (not_state normal_state image) (not_free name (s.entry name) ∷ []) first.1 in
        first_next (read_only image) (not_state normal_state image ∷ no_scn image ∷ []) first.0 ∙ first_next (not_state normal_state image) (no_scn image ∷ []) second.0 ∙ first_next (no_scn image) [] may_go_on ∙ no_cause

    pub starts_there : starting_cause u.base.image ≡ None
    starts_there = ap starting_of same_first ∙ starts_here

    room_open : IsOpen mid b u
    room_open = tries_opened value old mid a b t (room_cause image) xs tries

    room_left : Strikes old mid (name_of a) t xs
    room_left = subst (λ (ss : List Stroke). Strikes old mid (name_of a) t ss) (unless_none (room_cause image) xs tries.test) (struck_by tries.makes)

    room_long : GrowsWithin old mid (name_of a) a.files.page_size t xs
    room_long = subst (λ (ss : List Stroke). GrowsWithin old mid (name_of a) a.files.page_size t ss) (unless_none (room_cause image) xs tries.test) tries.makes.long

    -- a call on the file of the backup
    module _ (there : World) (reads : (m : List ℕ) → Leaves mid m (mid.files m)) (makes : Changes mid there (Only name) (Remade mid name IsEmpty)) (gave : GaveNothing mid there) where
      room_made : (o : Outcome) → o.reply ≡ None → StartMakes old there name (name_of a) t o xs
      room_made o silent = starts_made name (name_of a) apart t o old mid there xs silent room_left (reads name) makes

      -- no file of the database is that one
      made_long : GrowsWithin old there (name_of a) a.files.page_size t xs
      made_long =
          subst (λ (ss : List Stroke). GrowsWithin old there (name_of a) a.files.page_size t ss) (append-nil xs)
          (grows_joined old mid there (name_of a) a.files.page_size t xs [] room_long (λ most within. other_keeps mid there (Only name) _ (name_of a) _ makes (λ same. apart (inl (sym same)))))

      pub made_gave : GaveNothing old there
      made_gave = record { guids = gave.guids ∙ tries.makes.gave.guids; times = gave.times ∙ tries.makes.gave.times }

      -- the file couldn't be made
      pub start_unmade : StartsBackup (Err Device) old there a b t name guid outcome
      start_unmade =
          subst (λ (x : Outcome). StartsBackup (Err Device) old there a b t name guid x) (sym (turn_started s session since name none tries.test)) (record {
            says = tt;
            left = starts_more name (name_of a) apart t (started s session since name) old there xs (begin guid (Some ask) ∷ []) (room_made (started s session since name) refl);
            long = grows_front old there (name_of a) a.files.page_size t xs (begin guid (Some ask) ∷ []) made_long;
            frozen = tt;
            stops = tt;
            begun = inl (not_begun there (started s session since name) made_gave.guids (room_made (started s session since name) refl));
            opened = tt;
            running = tt;
            gave = tt;
            times = made_gave.times;
            idle = λ told. absurd (true≢false (sym told));
            name = tries.makes.goes.name;
            started = tt;
          })

      -- it was made, and the database is open beside it
      pub made_open : IsOpen there b u
      made_open = open_aside mid there b u room_open reads (Only name) (λ m same own. apart (subst (λ (n : List ℕ). OfFiles n name) tries.makes.goes.name (subst (OfFiles (name_of b)) same own))) (Remade mid name IsEmpty) makes

      module _ (new : World) (d : Held) (made : IsMade there name) (left : (m : List ℕ) → Leaves there m (there.files m)) (bare : LevelHead) where
        begin_struck : (result : Result LevelHead Fault) → BeginsFor result there new b d u guid (Some ask) session bare → Strikes there new (name_of a) u (begin guid (Some ask) ∷ [])
        begin_struck result begins =
            subst (λ (n : List ℕ). Strikes there new n u (begin guid (Some ask) ∷ [])) tries.makes.goes.name
            (subst (λ (ss : List Stroke). Strikes there new (name_of b) u ss) (unless_none (starting_cause u.base.image) (begin guid (Some ask) ∷ []) starts_there) begins.left)

        begun_left : (result : Result LevelHead Fault) → BeginsFor result there new b d u guid (Some ask) session bare → StartMakes old new name (name_of a) t (started s session since name) (xs ++ begin guid (Some ask) ∷ [])
        begun_left result begins = starts_then name (name_of a) apart t (started s session since name) old there new xs (begin guid (Some ask) ∷ []) (room_made (started s session since name) refl) left (begin_struck result begins)

        begun_grown : (result : Result LevelHead Fault) → BeginsFor result there new b d u guid (Some ask) session bare → GrowsWithin old new (name_of a) a.files.page_size t (xs ++ begin guid (Some ask) ∷ [])
        begun_grown result begins =
            grows_joined old there new (name_of a) a.files.page_size t xs (begin guid (Some ask) ∷ []) made_long
            (subst (λ (n : ℕ). GrowsWithin there new (name_of a) n u (begin guid (Some ask) ∷ [])) tries.makes.goes.page_size
            (subst (λ (n : List ℕ). GrowsWithin there new n b.files.page_size u (begin guid (Some ask) ∷ [])) tries.makes.goes.name
            (subst (λ (ss : List Stroke). GrowsWithin there new (name_of b) b.files.page_size u ss) (unless_none (starting_cause u.base.image) (begin guid (Some ask) ∷ []) starts_there) begins.long)))

        pub still_made : (result : Result LevelHead Fault) → BeginsFor result there new b d u guid (Some ask) session bare → IsMade new name
        still_made result begins = made_kept there new (OfFiles (name_of a)) _ name (begin_struck result begins) apart made

        pub start_unbegun : (fault : Fault) → fault ≢ Memory → BeginsFor (Err fault) there new b d u guid (Some ask) session bare → StartsBackup (Err fault) old new a d t name guid outcome
        start_unbegun (RefusedFault r) sure begins = absurd (none_some r (sym starts_there ∙ begins.test))
        start_unbegun Device sure begins =
            subst (λ (x : Outcome). StartsBackup (Err Device) old new a d t name guid x) (sym (turn_started s session since name none tries.test)) (record {
              says = tt;
              left = begun_left (Err Device) begins;
              long = begun_grown (Err Device) begins;
              frozen = tt;
              stops = tt;
              begun = inr (still_made (Err Device) begins, sure);
              opened = tt;
              running = tt;
              gave = tt;
              times = begins.times ∙ made_gave.times;
              idle = λ told. absurd (true≢false (sym told));
              name = begins.name ∙ tries.makes.goes.name;
              started = tt;
            })
        start_unbegun Memory sure begins = absurd (sure refl)

        -- it has begun
        module _ (begun : LevelHead) (begins : BeginsFor (Ok begun) there new b d u guid (Some ask) session bare) where
          abbrev v : Trail
          v = after_strokes u (begin guid (Some ask) ∷ [])

          all_strokes : after_strokes t (strokes s session since name) ≡ v
          all_strokes = after_all-joined after_stroke t xs (begin guid (Some ask) ∷ [])

          pub start_done : (copier : Backed) → IsStarted new d v copier (started s session since name) → StartsBackup (Ok copier) old new a d t name guid outcome
          start_done copier is_started =
              subst (λ (x : Outcome). StartsBackup (Ok copier) old new a d t name guid x) (sym (turn_started s session since name none tries.test)) (record {
                says = refl;
                left = begun_left (Ok begun) begins;
                long = begun_grown (Ok begun) begins;
                frozen = subst (λ (n : List ℕ). FileIs new n (λ (file : File). file ≡ new.files n)) tries.makes.goes.name begins.frozen;
                stops = tt;
                begun = inr (still_made (Ok begun) begins, tt);
                opened = subst (λ (w : Trail). IsOpen new d w) (sym all_strokes) begins.opened;
                running = begins.running;
                gave = begins.gave ∙ ap (λ (gs : List (List ℕ)). gs ++ guid ∷ []) made_gave.guids;
                times = begins.times ∙ made_gave.times;
                idle = λ told. absurd (true≢false (sym told));
                name = begins.name ∙ tries.makes.goes.name;
                started = subst (λ (w : Trail). IsStarted new d w copier (started s session since name)) (sym all_strokes) is_started;
              })

          -- its copier
          module _ (kept : Kept) (f g : FileCopy) (count : ℕ) (sixteen : length guid ≡ 16) (asked : ask_by bare ≡ ask) (roomed : IsRoomIn image kept) (low : kept.page < length (room_in image).draft.image) (is_new : IsNewFile name bare f) (file : IsStartedFile f g begun count)
              (counted : count ≡ d.files.count) (nine : bare.level ≤ 9) (previous : length bare.previous ≡ 16) (wide : IsTrue (is_page_size bare.page_size)) (size : bare.page_size ≡ a.files.page_size) where
            abbrev its : Backing
            its = record { name = name; ask = ask_by begun; scn = begun.scn; guid = begun.guid; page = kept.page; slot = kept.slot }

            u_header : HasHeader u.base.image
            u_header = record { header = room_open.files.agrees.header; scn = omega (arith, room_open.agrees.scn, room_open.agrees.four) }

            long : length v.base.image ≡ length (room_in image).draft.image
            long = begun_long u guid (Some ask) ∙ ap length seen

            count_is : count ≡ length v.base.image
            count_is = counted ∙ begins.opened.files.agrees.count

            backing_is : ◌≡◌ {A = Backing} (record { name = name; ask = ask; scn = image_scn image; guid = guid; page = (room_in image).page; slot = (room_in image).slot }) its
            backing_is =
                let head = begins.head in
                ap (λ (x : Ask). record { name = name; ask = x; scn = image_scn image; guid = guid; page = (room_in image).page; slot = (room_in image).slot }) (sym (ap (λ (h : LevelHead). ask_by h) head ∙ asked))
                ∙ ap (λ (n : ℕ). record { name = name; ask = ask_by begun; scn = n; guid = guid; page = (room_in image).page; slot = (room_in image).slot }) (sym (ap (λ (h : LevelHead). h.scn) head ∙ ap scn_of same_first))
                ∙ ap (λ (x : List ℕ). record { name = name; ask = ask_by begun; scn = begun.scn; guid = x; page = (room_in image).page; slot = (room_in image).slot }) (sym (ap (λ (h : LevelHead). h.guid) head))
                ∙ ap (λ (n : ℕ). record { name = name; ask = ask_by begun; scn = begun.scn; guid = begun.guid; page = n; slot = (room_in image).slot }) (sym roomed.page)
                ∙ ap (λ (n : ℕ). record { name = name; ask = ask_by begun; scn = begun.scn; guid = begun.guid; page = kept.page; slot = n }) (sym roomed.slot)

            sized : bare.page_size ≡ image_size v.base.frozen
            sized =
                size ∙ is.files.agrees.page_size ∙ ap (λ (x : Base). image_size x.image) at ∙ sym (ap size_of same_first) ∙ sym (begun_size u guid (Some ask) u_header.header sixteen) ∙ ap image_size (sym (begun_frozen u guid (Some ask)))

            now_stalled : d.files.state ≡ stalled_state
            now_stalled = begins.opened.files.agrees.state ∙ begun_state u guid (Some ask) u_header.header sixteen

            frozen_is : IsFrozenOf (image_size v.base.frozen) v.base.frozen
            frozen_is =
                subst (λ (n : ℕ). IsFrozenOf n v.base.frozen) (begins.opened.files.agrees.page_size ∙ ap image_size (sym (begun_frozen u guid (Some ask)))) (frozen_parts new d v begins.opened now_stalled)

            pub started_is : IsStarted new d v (record { backing = its; page_size = begun.page_size; file = g }) (started s session since name)
            started_is =
                let firsts = file_first name bare begun count f g is_new file in
                record {
                  turns = ap (λ (n : ℕ). replicate n Copies ++ ClosesBackup (record { name = name; ask = ask; scn = image_scn image; guid = guid; page = (room_in image).page; slot = (room_in image).slot }) ∷ []) (sym (firsts.0 ∙ count_is ∙ long))
                      ∙ ap (λ (x : Backing). replicate (file_count g) Copies ++ ClosesBackup x ∷ []) backing_is;
                  first = firsts.1;
                  stalled = now_stalled;
                  below = omega (arith, low, long);
                  goes =
                      file_starts new name bare begun guid (image_scn u.base.image) count v.base.frozen kept.page kept.slot begins.head nine sixteen previous u_header.scn wide sized (count_is ∙ ap length (sym (begun_frozen u guid (Some ask)))) frozen_is (omega (arith, least, begun_long u guid (Some ask), ap length (begun_frozen u guid (Some ask)))) (still_made (Ok begun) begins) f g is_new file;
                }
