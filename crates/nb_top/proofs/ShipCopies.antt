-- The copy of a ship that was done: what its begin kept, what the ship file holds, and what was given.
use Rattle.std.proofs.Common.{◌≡◌, ◌≢◌, ◌⊎◌, inl, inr, ⊎_elim, ℕ, zero, suc, ◌+◌, ◌<◌, ◌≤◌, List, [], ◌∷◌, ◌++◌, length, drop, take, map, replicate, get_or, true, false, refl, sym, ap, subst, ◌∙◌, arith, length-append, Bool, ◌&&◌, is_some, IsTrue, Option, Some, None, Result, Ok, Err, Contains}
use Rattle.std.proofs.lemmas.List.{append_cancel_left}
use Rattle.nb_top.proofs.Common.{AllByRecursion, and_parts, append-nil, true≢false, World, LeavesAll, IsTimely, AtEachMoment, weaker, Refusal, RunError, Account, Base, IsBase, Image, image_scn, Kept, Reply, Opening, Now, Event, Played, base_now, begun, opening, play, AreFinished, IsRest, Foretells, Given, guids_in, strokes_of, strokes_in, strokes_in_steps, files_made, replies_of, output, status_of, status_after, steps_of, said_by_generated, last_or_refusal, MadeFile, AreNew, HasHeader, IsSoundImage, IsKeptAs, to_base, owner, delta_name, base_in, base_in_base, records_after, status_one, asks_of, BackupSince, Begins, IsAskable, Plan, plan_of, is_refusal, Status, Done, Sparingly, ToRun, Request, Asked, Knows, MayBeGiven, PerformsRun, RunsTo, Finished, IsScriptRun, IsSure, HasSmallScn, IsUndone, begins_refused, Target, EndsIn, target_of, target_named, pages_first, kept_after, Stroke, HaveNames, StandsFor, is_database, IsReopened, reopened, same_name, number_of, AreKept, first_page, formed_header, has_main, Usage}
use Rattle.std.specs.Cmp.Lexicographic.{told_text}
use Rattle.nb_ended.specs.declared.status.Status.TheVariants.{Device, Memory}
use Rattle.nb_host.specs.declared.faults.RunError.TheVariants.{Device as DeviceError, Memory as MemoryError}
use Rattle.nb_gather.specs.Making.{IsKept}
use Rattle.nb_model.specs.declared.reply.Reply.TheVariants.{Refused}
use Rattle.nb_model.specs.declared.statement.Statement.{Statement}
use Rattle.nb_model.specs.declared.statement.Statement.TheVariants.{OpenDb, BackupSince as BackupOf}
use Rattle.nb_model.specs.Backups.{ask_of, level_behind}
use Rattle.nb_model.specs.Causes.{broken_at}
use Rattle.nb_model.specs.Chains.{History, Slot, Spot, backup_spot, guid_in, is_used, last_such, pages_of, spots}
use Rattle.nb_model.specs.Jobs.{usual_cache}
use Rattle.nb_model.specs.Levels.{file_of}
use Rattle.nb_model.specs.NewGuids.{IsNewGuid}
use Rattle.nb_model.specs.Outcomes.{next_guid, without_guid, without_time}
use Rattle.nb_model.specs.Run.{IsPlayed}
use Rattle.nb_model.specs.Stands.{GoesOn, IsRemembered, NamesPast, nil}
use Rattle.nb_model.proofs.AccountLaws.{play_behind}
use Rattle.nb_model.proofs.BackupWell.{backup_found, chain_rows}
use Rattle.nb_model.proofs.GoingLaws.{begun_at}
use Rattle.nb_model.proofs.HeaderLaws.{same-header}
use Rattle.nb_model.proofs.OutputLaws.{status_events}
use Rattle.nb_model.proofs.SessionLaws.{alone_rounds}
use Rattle.nb_model.proofs.SoundTurns.{seen_now}
use Rattle.nb_model.proofs.TurnCases.{start_cause}
use Rattle.nb_session.specs.Acts.{Grows}
use Rattle.nb_ship.specs.Names.{ship_of}
use Rattle.nb_top.specs.Done.{GoesOn as GoesOnIn}
use Rattle.nb_top.specs.ShipDone.{BacksUp, GivesNew}
use Rattle.nb_top.specs.Shipped.{copying, status_of_end}
use Rattle.nb_top.proofs.JobRuns.{performs_device, performs_ended, performs_memory}
use Rattle.nb_top.proofs.KnownLaws.{free_known}
use Rattle.nb_top.proofs.LoneBackups.{IsBackedUp, IsDenied, allowed_backup, first_finished, lone_backup, untold_first}
use Rattle.nb_top.proofs.LongNames.{ship_file}
use Rattle.nb_top.proofs.OpenLaws.{shown_entry}
use Rattle.nb_top.proofs.RequestLaws.{attach_askable}
use Rattle.nb_top.proofs.ToldLaws.{told_begins, told_files, told_steps}
use Rattle.nb_top.proofs.WordNames.{plain_database}

-- ---- a run that was done refused nothing

pub refusal_counts : (refusal : Refusal) → 1 ≤ status_after (Refused refusal)
refusal_counts Usage = omega arith
refusal_counts other = omega arith

refusal_is : (reply : Reply) → is_refusal reply ≡ true → 1 ≤ status_after reply
refusal_is (Refused refusal) is = refusal_counts refusal
refusal_is other is = absurd (true≢false (sym is))

-- the first event isn't a refusal
fine_begins : (es : List Event) → status_of (replies_of es) ≡ 0 → begins_refused es ≡ false
fine_begins [] fine = refl
fine_begins (e ∷ es) fine = by e.reply refl
  where
    told : (reply : Reply) → e.reply ≡ Some reply → (t : Bool) → is_refusal reply ≡ t → is_refusal reply ≡ false
    told reply says true is =
        let one = status_one e reply says in
        let all = status_events (e ∷ []) es in
        absurd (omega (arith, one, all, fine, refusal_is reply is))
    told reply says false is = is

    by : (reply : Option Reply) → e.reply ≡ reply → elim reply as (λ z. Bool) [ None ↦ false | Some r ↦ is_refusal r ] ≡ false
    by None says = refl
    by (Some reply) says = told reply says (is_refusal reply) refl

-- nor is the second
not_denied : (e : Event) (es : List Event) → status_of (replies_of (said_by_generated (e ∷ es))) ≡ 0 → IsDenied es → ⊥
unfolding said_by_generated
not_denied e es fine denied =
    let f : Event = record denied.first { reply = last_or_refusal denied.first.reply } in
    let is : said_by_generated es ≡ f ∷ said_by_generated denied.rest = ap said_by_generated denied.is in
    let one = status_one f (Refused denied.refusal) (ap last_or_refusal denied.says) in
    let two = status_events (f ∷ []) (said_by_generated denied.rest) in
    let all = status_events (record e { reply = last_or_refusal e.reply } ∷ []) (said_by_generated es) in
    let same = ap (λ (fs : List Event). status_of (replies_of fs)) is in
    omega (arith, fine, one, two, all, same, refusal_counts denied.refusal)

-- an event that makes no file, before others
files_after : (e : Event) (es : List Event) → e.made ≡ None → files_made (e ∷ es) ≡ files_made es
unfolding files_made
files_after e es none = ap (λ (made : Option MadeFile). elim made as (λ z. List MadeFile) [ Some file ↦ file ∷ files_made es | None ↦ files_made es ]) none

-- a front of nothing is nothing
part_of_none : (part : List ℕ) → part ≡ take (length part) [] → part ≡ []
part_of_none [] is = refl
part_of_none (x ∷ xs) is = is

-- ---- the row from which it goes on

last_passes : {X : Type 0} (test : X → Bool) (xs : List X) (x : X) → last_such test xs ≡ Some x → test x ≡ true
unfolding last_such
last_passes test [] x is = cc
last_passes {X = X} test (y ∷ ys) x is = by (λ e. last_passes test ys x e) (last_such test ys) refl is
  where
    own : (t : Bool) → test y ≡ t → elim t as (λ z. Option X) [ true ↦ Some y | false ↦ None ] ≡ Some x → test x ≡ true
    own true e same = let here : y ≡ x = cc in ap test (sym here) ∙ e
    own false e same = cc

    by : (last_such test ys ≡ Some x → test x ≡ true) → (o : Option X) → last_such test ys ≡ o → elim o as (λ z. Option X) [ Some z ↦ Some z | None ↦ elim (test y) as (λ w. Option X) [ true ↦ Some y | false ↦ None ] ] ≡ Some x → test x ≡ true
    by later (Some z) e same = later (e ∙ same)
    by later None e same = own (test y) refl same

pub row_named : (image : Image) (since : List ℕ) (row : Spot) → backup_spot (λ (slot : Slot). same_name (guid_in slot) since) image ≡ Some row → guid_in row.bytes ≡ since
unfolding backup_spot
row_named image since row found =
    told_text (guid_in row.bytes) since true (sym (and_parts (is_used row.bytes) (same_name (guid_in row.bytes) since) (last_passes (λ (s : Spot). is_used s.bytes && same_name (guid_in s.bytes) since) (spots History image) row found)).1)

ask_level : (row : Spot) → (1 ≤ (ask_of (level_behind (Some row)) (Some row)).level) × ((ask_of (level_behind (Some row)) (Some row)).level ≤ 9)
unfolding ask_of level_behind
ask_level row = (omega arith, omega arith)

ask_previous : (level : ℕ) (row : Spot) → (ask_of level (Some row)).previous ≡ guid_in row.bytes
unfolding ask_of
ask_previous level row = refl

-- ---- one more GUID and one more time might have been given

all_more : (ids : List (List ℕ)) (id : List ℕ) → AllByRecursion (λ (x : List ℕ). length x ≡ 16) ids → length id ≡ 16 → AllByRecursion (λ (x : List ℕ). length x ≡ 16) (ids ++ id ∷ [])
all_more [] id all is = (is, tt)
all_more (x ∷ ids) id all is = (all.0, all_more ids id all.1 is)

-- where one is left of those, it is the last
one_left : {A : Type 0} (old new xs ys left : List A) (x : A) → new ≡ old ++ xs → new ≡ old ++ ys → xs ++ x ∷ [] ≡ ys ++ left → left ≡ x ∷ []
one_left old new xs ys left x a b c =
    let same : xs ≡ ys = append_cancel_left old xs ys (sym a ∙ b) in
    sym (append_cancel_left xs (x ∷ []) left (c ∙ ap (λ l. l ++ left) (sym same)))

-- and it is what stands behind the first, so one was taken
one_taken : {A : Type 0} (xs : List A) (x : A) → drop 1 (xs ++ x ∷ []) ≡ x ∷ [] → (y : A) × (xs ≡ y ∷ [])
one_taken [] x is = absurd (let long = ap length is in omega (arith, long))
one_taken (y ∷ []) x is = (y, refl)
one_taken (y ∷ z ∷ zs) x is = absurd (let long = ap length is in omega (arith, long, length-append zs (x ∷ [])))

-- ---- the copy

module _ {H : Type 0} (world : H → World) (tells : Bool) (told : IsTrue tells) (timely : (host : H) → IsTimely (world host)) (beside : (host : H) → LeavesAll (world host) (world host).files)
    (primary standby : List ℕ) (fits : is_database primary ≡ true) (given_fits : is_database standby ≡ true) (since : List ℕ) (old mid : H) where
  abbrev ship : List ℕ
  ship = ship_of standby

  abbrev asked : Asked
  asked = copying primary since ship

  abbrev plan : Plan
  plan = plan_of primary (asks_of (BackupSince since ship))

  abbrev request : Request
  request = ToRun plan Sparingly

  can : IsAskable plan
  can = attach_askable primary (BackupSince since ship) fits (ship_file standby given_fits)

  -- The files stand for an account, and the primary can be opened. One more GUID and one more time might have been given.
  module _ (ended : Result Status RunError) (goes : GoesOnIn world tells ended old mid asked) (account : Account) (stands : StandsFor (world old) account) (names : HaveNames (world old).files)
      (b : Base) (shows : owner primary ((world old).files primary) ((world old).files (delta_name primary)) ≡ Ok b) (further : List ℕ) (further_long : length further ≡ 16) where
    abbrev status : Status
    status = status_of_end ended

    knows : Knows (world old).files account (Ok request)
    knows = (free_known (world old).files account names stands.now, stands.now.same_image primary (plain_database primary fits))

    pub grows : Grows (world old) (world mid)
    grows = goes.grows account told knows

    abbrev pub copy_given : Given
    copy_given = record { guids = grows.ids ++ further ∷ []; times = grows.clock ++ 0 ∷ []; holds = (goes.does told).0 }

    -- what was given is what might have been, but for one
    pub copy_ids : (ids : List (List ℕ)) × ((world mid).guids ≡ (world old).guids ++ ids) × (copy_given.guids ≡ ids ++ further ∷ [])
    copy_ids = (grows.ids, grows.gave.guids, refl)

    may : MayBeGiven copy_given
    may = all_more grows.ids further grows.sixteen further_long

    foretold : Foretells copy_given (goes.does told).0 (world old) (world mid)
    foretold = record {
      ids = grows.ids;
      later_ids = further ∷ [];
      clock = grows.clock;
      later_clock = 0 ∷ [];
      later_shown = [];
      guids = grows.gave.guids;
      guids_first = refl;
      times = grows.gave.times;
      times_first = refl;
      holds_first = sym (append-nil (goes.does told).0);
    }

    runs : RunsTo ended (world old) (world mid) (Ok request) account copy_given
    runs = ((goes.does told).1 account copy_given knows may foretold).whole

    pub copy_performs : PerformsRun status (world old) (world mid) (Ok request) account copy_given
    copy_performs = by ended runs
      where
        by : (e : Result Status RunError) → RunsTo e (world old) (world mid) (Ok request) account copy_given → PerformsRun (status_of_end e) (world old) (world mid) (Ok request) account copy_given
        by (Ok s) r = performs_ended (world old) (world mid) account copy_given may (beside old) (timely mid) (beside mid) asked can s r
        by (Err DeviceError) r = performs_device (world old) (world mid) account copy_given may (beside old) (timely mid) (beside mid) asked can DeviceError r
        by (Err MemoryError) r = performs_memory (world old) (world mid) account copy_given may (beside old) (timely mid) (beside mid) asked can MemoryError r

    abbrev pub events : List Event
    events = copy_performs.events

    -- what stands there is opened
    here : account.entry primary ≡ IsBase b
    here = stands.now.same_image primary (plain_database primary fits) ∙ shown_entry (world old).files primary b shows

    abbrev pub o : Opening
    o = opening account copy_given plan.sessions 1 (OpenDb primary usual_cache)

    pub again : IsReopened account copy_given plan.sessions 1 primary usual_cache b o
    again = reopened account copy_given plan.sessions 1 primary usual_cache b here

    opens_fine : (es : List Event) (last : Account) (left : Given) → IsScriptRun plan Sparingly account copy_given es last left → begins_refused es ≡ false
    opens_fine es last left is = ap begins_refused is.said ∙ told_begins Sparingly (pages_first account plan.first) is.whole ∙ ap begins_refused is.run.is
        ∙ ap (λ (e : Event). begins_refused (e ∷ is.run.rest)) again.event

    pub copy_target : (es : List Event) (last : Account) (left : Given) → IsScriptRun plan Sparingly account copy_given es last left → target_of (Ok request) es ≡ Some (record { name = primary; creates = false })
    copy_target es last left is = by (begins_refused es) (opens_fine es last left is)
      where
        by : (t : Bool) → t ≡ false → elim t as (λ z. Option Target) [ true ↦ None | false ↦ target_named plan.first ] ≡ Some (record { name = primary; creates = false })
        by true is = absurd (true≢false is)
        by false is = refl

    abbrev pub scripted : IsScriptRun plan Sparingly account copy_given events copy_performs.last copy_performs.left
    scripted = copy_performs.performed

    pub its_target : target_of (Ok request) events ≡ Some (record { name = primary; creates = false })
    its_target = copy_target events copy_performs.last copy_performs.left scripted

    sound : IsSoundImage b.image
    sound = stands.now.sound_images.images b.image (to_base primary b here refl)

    base_is : base_in (account.entry primary) ≡ b
    base_is = ap base_in here ∙ base_in_base b

    -- Its SCN is a number of 32 bits, or nothing was done.
    pub copy_opened : (image_scn b.image < 4294967296) ⊎ IsUndone ended (world old) (world mid)
    copy_opened = ⊎_elim
        (λ has. inl (subst (λ (x : Base). image_scn x.image < 4294967296) base_is (subst (HasSmallScn account) (copy_target runs.events runs.last runs.left runs.performed) has refl)))
        inr runs.opened

    module _ (small : image_scn b.image < 4294967296) where
      header : HasHeader b.image
      header =
          let main = has_main primary b ((world old).files primary) ((world old).files (delta_name primary)) shows in
          record { header = same-header (first_page b.image) main.bytes main.front ∙ formed_header main.bytes main.formed; scn = small }

      abbrev pub now : Now
      now = again.now

      pub on : (end : Now) × IsPlayed [] now scripted.run.rest end × (copy_performs.last ≡ end.account) × (copy_performs.left ≡ end.given)
      on = subst (λ (n : Option Now). IsRest [] (record { event = o.event; account = o.account; now = n }) copy_given scripted.run.rest copy_performs.last copy_performs.left) again.goes_on scripted.run.goes_on

      abbrev pub n : ℕ
      n = on.1.how_often

      abbrev pub played : Played
      played = play (replicate n 1) now

      first_todo : get_or now.todo 0 [] ≡ Begins (BackupOf since ship) ∷ []
      first_todo = begun_at now plan.sessions again.todo 0

      none_later : (m i : ℕ) → get_or {A = List Statement} (replicate m []) i [] ≡ []
      none_later zero i = refl
      none_later (suc m) zero = refl
      none_later (suc m) (suc i) = none_later m i

      alone : (i : ℕ) → 1 ≤ i → get_or now.todo i [] ≡ []
      alone zero some = absurd (omega (arith, some))
      alone (suc i) some = begun_at now plan.sessions again.todo (suc i) ∙ ap (map Begins) (none_later 15 i)

      played_is : played ≡ (scripted.run.rest, on.0)
      played_is = sym (alone_rounds n now alone) ∙ on.1.is

      over : get_or played.1.todo 0 [] ≡ []
      over = first_finished played.1 (subst (λ (p : Played). AreFinished p.1.todo) (sym played_is) on.1.finished)

      either : IsDenied played.0 ⊎ IsBackedUp now since ship played
      either = lone_backup now since ship (subst (λ (x : Base). HasHeader x.image) (sym again.base) header) (subst (λ (x : Base). IsSoundImage x.image) (sym again.base) sound) first_todo n over

      -- It isn't refused where the history names the backup and no cause speaks against it.
      pub copy_allowed : is_some (backup_spot (λ (slot : Slot). same_name (guid_in slot) since) b.image) ≡ true → start_cause (seen_now now) ship None ≡ None → IsBackedUp now since ship played
      copy_allowed named none = ⊎_elim (λ denied. absurd (by (backup_spot (λ (slot : Slot). same_name (guid_in slot) since) b.image) refl named denied)) (λ backed. backed) either
        where
          by : (spot : Option Spot) → backup_spot (λ (slot : Slot). same_name (guid_in slot) since) b.image ≡ spot → is_some spot ≡ true → IsDenied played.0 → ⊥
          by None is some denied = true≢false (sym some)
          by (Some row) is some denied =
              allowed_backup now since ship (subst (λ (x : Base). HasHeader x.image) (sym again.base) header) (subst (λ (x : Base). IsSoundImage x.image) (sym again.base) sound) first_todo n row
              (subst (λ (x : Base). backup_spot (λ (slot : Slot). same_name (guid_in slot) since) x.image ≡ Some row) (sym again.base) is) none over denied

      -- and nothing of it is told
      pub copy_untold : IsBackedUp now since ship played → output events ≡ []
      copy_untold backed = ap output scripted.said ∙ ap (λ (es : List Event). output (said_by_generated es)) scripted.run.is
          ∙ untold_first o.event scripted.run.rest (ap (λ (e : Event). last_or_refusal e.reply) again.event) (ap (λ (p : Played). output (said_by_generated p.0)) (sym played_is) ∙ backed.did.untold)

      strokes_are : strokes_of events ≡ strokes_of played.0
      unfolding strokes_of
      strokes_are =
          sym (strokes_in_steps events) ∙ ap strokes_in (ap steps_of scripted.said ∙ told_steps Sparingly (pages_first account plan.first) scripted.whole) ∙ strokes_in_steps scripted.whole
          ∙ ap strokes_of scripted.run.is ∙ ap (λ (e : Event). strokes_of (e ∷ scripted.run.rest)) again.event ∙ ap (λ (p : Played). strokes_of p.0) (sym played_is)

      -- The GUID that its begin takes, if it begins, is the next one.
      abbrev pub copy_guid : List ℕ
      copy_guid = next_guid copy_given

      none_there : (g : List ℕ) → Contains {X = List ℕ} [] g → ⊥
      none_there g there = let low = there.1 in absurd (omega (arith, low))

      pub copy_sure : IsNewGuid (world old) account.kept copy_guid → IsSure (world old) account events
      copy_sure new = record { stands = stands; new = subst (AreNew (world old) account.kept) (sym (ap guids_in strokes_are)) (by either) }
        where
          only : (g : List ℕ) → Contains (copy_guid ∷ []) g → IsNewGuid (world old) account.kept g
          only g (zero, low, is) = subst (IsNewGuid (world old) account.kept) is new
          only g (suc k, low, is) = absurd (omega (arith, low))

          by : IsDenied played.0 ⊎ IsBackedUp now since ship played → AreNew (world old) account.kept (guids_in (strokes_of played.0))
          by (inl denied) = subst (AreNew (world old) account.kept) (sym denied.takes) (record { each = λ g there. absurd (none_there g there); once = tt })
          by (inr backed) = subst (AreNew (world old) account.kept) (sym (backed.did.takes ∙ ap (λ (x : Given). next_guid x ∷ []) again.given_is)) (record { each = only; once = ((λ there. none_there copy_guid there), tt) })

      -- ---- It was done.
      module _ (is_done : ended ≡ Ok Done) where
        status_is : status ≡ Done
        status_is = ap status_of_end is_done

        no_device : status ≢ Device
        no_device e = let no : Done ≡ Device = sym status_is ∙ e in cc

        no_memory : status ≢ Memory
        no_memory e = let no : Done ≡ Memory = sym status_is ∙ e in cc

        done : Finished status (world old) (world mid) account (target_of (Ok request) events) events copy_given copy_performs.left
        done = copy_performs.finished no_device no_memory

        fine : status_of (replies_of events) ≡ 0
        fine = sym done.ended ∙ ap number_of status_is

        its : IsBackedUp now since ship played
        its = ⊎_elim
            (λ denied. absurd (not_denied o.event scripted.run.rest (ap (λ (es : List Event). status_of (replies_of (said_by_generated es))) (sym scripted.run.is) ∙ ap (λ (es : List Event). status_of (replies_of es)) (sym scripted.said) ∙ fine)
            (subst (λ (p : Played). IsDenied p.0) played_is denied)))
            (λ backed. backed) either

        -- what it goes on from
        row_is : guid_in its.row.bytes ≡ since
        row_is = row_named (base_now now).image since its.row its.found

        parent : (r : Kept) × IsKeptAs account.kept since r
        parent =
            let past : NamesPast account.kept (λ (r : Kept). GoesOn r b.image) b.image = stands.now.history.images b.image (to_base primary b here refl) in
            let remembered : IsRemembered account.kept (λ (r : Kept). GoesOn r b.image) its.row.bytes =
            backup_found (IsRemembered account.kept (λ (r : Kept). GoesOn r b.image)) (λ (slot : Slot). same_name (guid_in slot) since) b.image its.row
            (subst (λ (x : Base). broken_at (pages_of History x.image) ≡ None) again.base its.may.unbroken)
            (subst (λ (x : Base). backup_spot (λ (slot : Slot). same_name (guid_in slot) since) x.image ≡ Some its.row) again.base its.found)
            (chain_rows account.kept (λ (r : Kept). GoesOn r b.image) b.image past) in
            (remembered.backup, subst (λ (g : List ℕ). IsKeptAs account.kept g remembered.backup) row_is remembered.kept_as)

        -- what was given
        left_is : copy_performs.left ≡ without_time (without_guid copy_given)
        left_is = on.3 ∙ ap (λ (p : Played). p.1.given) (sym played_is) ∙ its.did.left ∙ ap (λ (g : Given). without_time (without_guid g)) again.given_is

        guids_left : copy_performs.left.guids ≡ further ∷ []
        guids_left = one_left (world old).guids (world mid).guids grows.ids done.gave.ids copy_performs.left.guids further grows.gave.guids done.gave.guids done.gave.guids_first

        times_left : copy_performs.left.times ≡ 0 ∷ []
        times_left = one_left (world old).times (world mid).times grows.clock done.gave.clock copy_performs.left.times 0 grows.gave.times done.gave.times done.gave.times_first

        one_id : (id : List ℕ) × (grows.ids ≡ id ∷ [])
        one_id = one_taken grows.ids further (ap (λ (g : Given). g.guids) (sym left_is) ∙ guids_left)

        one_time : (time : ℕ) × (grows.clock ≡ time ∷ [])
        one_time = one_taken grows.clock 0 (ap (λ (g : Given). g.times) (sym left_is) ∙ times_left)

        guid_is : its.backup.guid ≡ one_id.0
        guid_is = its.named ∙ ap next_guid again.given_is ∙ ap (λ (ids : List (List ℕ)). get_or (ids ++ further ∷ []) 0 nil) one_id.1

        copy_gave : (world mid).guids ≡ (world old).guids ++ its.backup.guid ∷ []
        copy_gave = grows.gave.guids ∙ ap (λ (ids : List (List ℕ)). (world old).guids ++ ids) one_id.1 ∙ ap (λ (id : List ℕ). (world old).guids ++ id ∷ []) (sym guid_is)

        -- what it made and kept
        made_is : files_made events ≡ (ship, file_of 102 its.backup) ∷ []
        made_is = ap files_made scripted.said ∙ told_files Sparingly (pages_first account plan.first) scripted.whole ∙ ap files_made scripted.run.is
            ∙ files_after o.event scripted.run.rest (ap (λ (e : Event). e.made) again.event) ∙ ap (λ (p : Played). files_made p.0) (sym played_is) ∙ its.did.made

        file : IsKept (world mid) ship (file_of 102 its.backup)
        file = subst (AreKept (world mid)) made_is done.kept ship (file_of 102 its.backup) (0, omega arith, refl)

        kept : copy_performs.last.kept ≡ account.kept ++ its.backup ∷ []
        kept =
            let behind = play_behind (replicate n 1) now in
            ap (λ (a : Account). a.kept) on.2 ∙ ap (λ (p : Played). p.1.account.kept) (sym played_is) ∙ behind.kept
            ∙ ap (λ (rs : List Kept). rs ++ records_after (base_now now) (strokes_of played.0)) (ap (λ (a : Account). a.kept) again.account_is ∙ again.kept) ∙ ap (λ (rs : List Kept). account.kept ++ rs) its.did.keeps

        begun_are : kept_after account (Some (record { name = primary; creates = false })) (steps_of events) ≡ copy_performs.last.kept
        begun_are =
            ap (λ (ss : List Stroke). account.kept ++ records_after (base_in (account.entry primary)) ss) (strokes_in_steps events ∙ strokes_are)
            ∙ ap (λ (x : Base). account.kept ++ records_after x (strokes_of played.0)) (base_is ∙ sym again.base) ∙ ap (λ (rs : List Kept). account.kept ++ rs) its.did.keeps ∙ sym kept

        untold : output events ≡ []
        untold = copy_untold its

        nothing_more : (part : List ℕ) → part ≡ [] → (world old).said ++ part ≡ (world old).said
        nothing_more part none = ap (λ (l : List ℕ). (world old).said ++ l) none ∙ append-nil (world old).said

        silent : (world mid).said ≡ (world old).said
        silent = done.said ∙ nothing_more (output events) untold

        quiet : AtEachMoment (world old) (world mid) (λ files said. said ≡ (world old).said)
        quiet = weaker (world old) (world mid) _ _ copy_performs.stops
            (λ files said l. let part : List ℕ = l.left.out.part in l.left.out.is ∙ nothing_more part (part_of_none part (l.left.out.front ∙ ap (take (length part)) untold)))

        module _ (new : GivesNew (world old) (world mid) account.kept) where
          is_new : IsNewGuid (world old) account.kept copy_guid
          is_new = subst (IsNewGuid (world old) account.kept) (its.named ∙ ap next_guid again.given_is) (new its.backup.guid copy_gave)

          pub copy_done : BacksUp (world old) (world mid) account primary since ship
          copy_done = record {
            given = copy_given;
            left = copy_performs.left;
            events = events;
            after = copy_performs.last;
            performed = copy_performs.performed;
            database = subst (λ (t : Option Target). EndsIn (world mid) account t events) its_target done.database;
            stands = copy_performs.stands no_device no_memory (copy_sure is_new);
            backup = its.backup;
            kept = kept;
            begun = begun_are;
            goes_on = (ask_of (level_behind (Some its.row)) (Some its.row), its.asks, ask_previous (level_behind (Some its.row)) its.row ∙ row_is);
            level = ask_level its.row;
            parent = parent;
            file = file;
            guid = copy_gave;
            time = (one_time.0, grows.gave.times ∙ ap (λ (l : List ℕ). (world old).times ++ l) one_time.1);
            silent = silent;
            quiet = quiet;
          }

  -- The copy that was done.
  pub copied : GoesOnIn world tells (Ok Done) old mid asked → (account : Account) → StandsFor (world old) account → HaveNames (world old).files → (b : Base) → owner primary ((world old).files primary) ((world old).files (delta_name primary)) ≡ Ok b
      → GivesNew (world old) (world mid) account.kept → BacksUp (world old) (world mid) account primary since ship
  copied goes account stands names b shows new = elim (copy_opened (Ok Done) goes account stands names b shows nil refl) [
    | inl small ↦ copy_done (Ok Done) goes account stands names b shows nil refl small refl new
    | inr none ↦ absurd none
  ]
