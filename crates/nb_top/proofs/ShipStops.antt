-- A ship that is stopped: what a crash leaves of the primary and of the standby at each of its moments, part by part.
use Rattle.std.proofs.Common.{◌≡◌, ◌≢◌, ◌⊎◌, inl, inr, ⊎_elim, ℕ, zero, suc, ◌<◌, List, [], ◌∷◌, ◌++◌, length, take, replicate, get_or, true, false, refl, sym, ap, subst, ◌∙◌, arith, Bool, IsTrue, Option, Some, None, Result, Ok, Err}
use Rattle.nb_top.proofs.Common.{true≢false, take_all, is_header, File, Files, bytes_of, with_file, is_delta, World, Leaves, LeavesAll, IsTimely, AtEachMoment, Fault, Refused, Device, Memory, RunError, Quiet, Other, joined, weaker, decide, left_before, left_with, with_file-same, with_file-other, Base, Account, Missing, with_entry, with_kept, Kept, delta_name, owner, no_main, delta_same, image_scn, Contents, Reply, Refusal, ShowsIn, StandsIn, Trail, IsMergeable, OneTurn, TakesKept, ServedAs, Serves, merging, HoldsKept, nil, StandsFor, HaveNames, SaysLine, is_database, Status, Done, PerformsRun, RunLeft, StandsAsked, IsUnbegun, Target, IsSure, IsUndone, target_of, seen_after, kept_after, steps_of, MayTouch, TouchesOnly, AnySessionAsks, ToRun, Request, plan_of, asks_of, BackupSince, Sparingly, Event}
use Rattle.nb_ended.specs.declared.status.Status.TheVariants.{Refused as RefusedStatus, Usage as UsageStatus, Device as DeviceStatus, Memory as MemoryStatus}
use Rattle.nb_host.specs.declared.faults.RunError.TheVariants.{Device as DeviceError, Memory as MemoryError}
use Rattle.nb_inplace.specs.Apply.{base_with}
use Rattle.nb_model.specs.NewGuids.{IsNewGuid}
use Rattle.nb_model.specs.Trail.{StandsOn}
use Rattle.nb_ship.specs.Answers.{Says}
use Rattle.nb_ship.specs.Names.{ship_of}
use Rattle.nb_ship.specs.Steps.{steps_from}
use Rattle.nb_ship.specs.declared.steps.Step.{Step}
use Rattle.nb_ship.specs.declared.steps.Step.TheVariants.{Apply, Copy, Discard}
use Rattle.nb_top.specs.declared.ship_plan.ShipPlan.{ShipPlan}
use Rattle.nb_top.specs.Done.{GoesOn}
use Rattle.nb_top.specs.ShipDone.{BacksUp, GivesNew, HasStandby}
use Rattle.nb_top.specs.Shipped.{AfterCopy, AfterMerge, AfterPlan, Copies, IsGone, Merges, Removes, ShipsByPlan, Stops, TakesSteps, copying, merge_turn, status_of_end}
use Rattle.nb_top.specs.ShipStops.{GivesFirstNew, IsShipsOwn, IsStopped, PrimaryLeft, StandbyLeft, as_it_was, in_its_run, is_unbegun, is_half, is_merged, is_own, opened_target, was_begun, was_named}
use Rattle.nb_top.specs.Shipping.{ship_plan}
use Rattle.nb_top.proofs.GoesLaws.{ended_so}
use Rattle.nb_top.proofs.KnownLaws.{told_opened}
use Rattle.nb_top.proofs.LongNames.{ship_apart, ship_file}
use Rattle.nb_top.proofs.OthersStay.{done_touches}
use Rattle.nb_top.proofs.RequestLaws.{attach_askable}
use Rattle.nb_top.proofs.ShipCopies.{copied, copy_given, copy_ids, copy_guid, copy_opened, copy_performs, copy_sure, its_target}
use Rattle.nb_top.proofs.ShipDone.{own_guid, own_takes}
use Rattle.nb_top.proofs.ShipFirsts.{IsPlanned, first_own, first_takes, planned, primary_apart, removed_unheaded}
use Rattle.nb_top.proofs.ShipStages.{IsStage, names_then, primary_plain, same_primary, ship_plain, shows_then, stage_begins, stage_merged, stage_removed, standby_plain, still_for}
use Rattle.nb_top.proofs.ShipStands.{IsMergedFor, merge_left_others, merge_moments, merge_others, merge_stands, merged_for, removed_stands_for, ship_unheaded, without_holds}
use Rattle.nb_top.proofs.SureFiles.{kept_none}

-- what holds at each moment, twice
both : (old new : World) (P Q : Files → List ℕ → Type 0) → AtEachMoment old new P → AtEachMoment old new Q → AtEachMoment old new (λ files said. P files said × Q files said)
both old new P Q a b = record {
  later = a.later;
  each = λ files said left. (a.each files said left, b.each files said left);
  earlier = λ t files said low left. ⊎_elim inl (λ p. ⊎_elim inl (λ q. inr (p, q)) (b.earlier t files said low left)) (a.earlier t files said low left);
}

-- sessions without statements make no file
none_asks : (n : ℕ) (m : List ℕ) → AnySessionAsks (replicate n []) m → ⊥
none_asks zero m asks = asks
none_asks (suc n) m (inl asks) = asks
none_asks (suc n) m (inr asks) = none_asks n m asks

module _ {H : Type 0} (world : H → World) (tells : Bool) (told : IsTrue tells) (timely : (host : H) → IsTimely (world host)) (beside : (host : H) → LeavesAll (world host) (world host).files)
    (primary standby : List ℕ) (fits : is_database primary ≡ true) (given : is_database standby ≡ true) (apart : primary ≢ standby) (off : primary ≢ ship_of standby) (old : H) (account : Account) where
  abbrev ship : List ℕ
  ship = ship_of standby

  plain : is_delta standby ≡ false
  plain = standby_plain primary standby fits given apart

  own_plain : is_delta primary ≡ false
  own_plain = primary_plain primary standby fits given apart

  level_plain : is_delta ship ≡ false
  level_plain = ship_plain primary standby fits given apart

  ship_off : ship ≢ standby
  ship_off = ship_apart standby

  standby_ship : standby ≢ ship
  standby_ship e = ship_off (sym e)

  primary_beside_standby : delta_name primary ≢ standby
  primary_beside_standby = no_main primary standby plain

  primary_beside_ship : delta_name primary ≢ ship
  primary_beside_ship = no_main primary ship level_plain

  standby_beside_ship : delta_name standby ≢ ship
  standby_beside_ship = no_main standby ship level_plain

  standby_beside_own : delta_name standby ≢ standby
  standby_beside_own = no_main standby standby plain

  abbrev At : Files → List ℕ → Type 0
  At files said = IsStopped world old account primary standby files

  abbrev Moments : (from to : H) → Type 0
  Moments from to = AtEachMoment (world from) (world to) At

  -- What stands between two steps: what a crash leaves of the primary and of the standby, by what it leaves of their files.
  record IsMoment (h : H) (now : Account) : Type 0 where
    stands : StandsFor (world h) now
    primary_left : (files : Files) → Leaves (world h) primary (files primary) → Leaves (world h) (delta_name primary) (files (delta_name primary)) → HoldsKept files now.kept → PrimaryLeft (world old) account primary ship files
    standby_left : (files : Files) → Leaves (world h) standby (files standby) → Leaves (world h) (delta_name standby) (files (delta_name standby)) → StandbyLeft world old primary standby files

  -- so it is of any account with the same records
  retold : (h : H) (now other : Account) → IsMoment h now → StandsFor (world h) other → other.kept ≡ now.kept → IsMoment h other
  retold h now other m stands same = record { stands = stands; primary_left = λ files a b holds. m.primary_left files a b (subst (HoldsKept files) same holds); standby_left = m.standby_left }

  at_now : (h : H) (now : Account) → IsMoment h now → (files : Files) → LeavesAll (world h) files → IsStopped world old account primary standby files
  at_now h now m files leaves = record {
    primary_left = m.primary_left files (leaves primary) (leaves (delta_name primary)) (m.stands.left files leaves);
    standby_left = m.standby_left files (leaves standby) (leaves (delta_name standby));
  }

  -- ---- how a part ends

  said_moments : {T E : Type 0} (h : H) (now : Account) → IsMoment h now → (result : Result T E) (new : H) (line : List ℕ) → SaysLine result (world h) (world new) line → Moments h new
  said_moments h now m result new line says = weaker (world h) (world new) _ _ says.moments (λ files said front. at_now h now m files front.left)

  stops_there : (ended result : Result Status RunError) (h mid new : H) → Moments h mid → Stops ended result mid new → Moments h new
  stops_there ended result h mid new moments stops = subst (λ (k : H). Moments h k) (sym stops.1) moments

  then_moments : (h mid new : H) → Moments h mid → Moments mid new → Moments h new
  then_moments h mid new first second = joined (world h) (world mid) (world new) _ _ _ first second (λ files said is. is) (λ files said is. is)

  -- calls that change nothing
  quiet_moments : (h mid : H) (now : Account) → IsMoment h now → Quiet (world h) (world mid) → Moments h mid
  quiet_moments h mid now m quiet = weaker (world h) (world mid) _ _ quiet.moments (λ files said is. at_now h now m files is.left)

  quiet_moment : (h mid : H) (now : Account) → IsMoment h now → Quiet (world h) (world mid) → IsMoment mid now
  quiet_moment h mid now m quiet = record {
    stands = still_for (world h) (world mid) now m.stands (beside mid) quiet.still.files left;
    primary_left = λ files a b holds. m.primary_left files (left primary (files primary) a) (left (delta_name primary) (files (delta_name primary)) b) holds;
    standby_left = λ files a b. m.standby_left files (left standby (files standby) a) (left (delta_name standby) (files (delta_name standby)) b);
  }
    where
      left : (n : List ℕ) (file : File) → Leaves (world mid) n file → Leaves (world h) n file
      left n file leaves = left_before (world h) (world mid) _ quiet.still.left n file tt leaves

  -- ---- the removal

  module _ (h mid : H) (now : Account) (m : IsMoment h now) (unheaded : is_header (bytes_of ((world h).files ship)) ≡ false) (removes : Removes (world h) (world mid) ship) where
    removal_moments : Moments h mid
    removal_moments = weaker (world h) (world mid) _ _ removes.left.moments (λ files said l. record {
      primary_left = m.primary_left files (l.others primary off) (l.others (delta_name primary) primary_beside_ship) (holds files l.others l.has);
      standby_left = m.standby_left files (l.others standby standby_ship) (l.others (delta_name standby) standby_beside_ship);
    })
      where
        holds : (files : Files) → ((n : List ℕ) → n ≢ ship → Leaves (world h) n (files n)) → Leaves (world h) ship (files ship) ⊎ (files ship ≡ None) → HoldsKept files now.kept
        holds files others (inl was) = m.stands.left files (λ n. elim (decide n ship) [ inl same ↦ subst (λ (k : List ℕ). Leaves (world h) k (files k)) (sym same) was | inr other ↦ others n other ])
        holds files others (inr none) = without_holds (world h) now ship m.stands level_plain (beside h) unheaded files others none

    removal_moment : IsGone (world mid) ship → IsMoment mid (with_entry ship (Missing None) now)
    removal_moment gone = record {
      stands = removed_stands_for (world h) (world mid) now ship m.stands level_plain (beside h) unheaded removes gone;
      primary_left = λ files a b holds. m.primary_left files (left primary (files primary) off a) (left (delta_name primary) (files (delta_name primary)) primary_beside_ship b)
          (subst (HoldsKept files) (with_kept ship (Missing None) now) holds);
      standby_left = λ files a b. m.standby_left files (left standby (files standby) standby_ship a) (left (delta_name standby) (files (delta_name standby)) standby_beside_ship b);
    }
      where
        left : (n : List ℕ) (file : File) → n ≢ ship → Leaves (world mid) n file → Leaves (world h) n file
        left n file other leaves = left_before (world h) (world mid) (Other (λ k. k ≡ ship)) removes.left.others n file other leaves

  -- ---- a merge

  module _ (h mid : H) (now : Account) (m : IsMoment h now) (taken : Result Reply Fault) (serves : Serves taken (world h) (world mid) (merging (world h).files standby ship) (merge_turn (world h).files standby ship))
      (takes : (bytes : List ℕ) (c : Contents) → IsMergeable (world h).files standby ship bytes c → TakesKept now.kept bytes c)
      (owns : (bytes : List ℕ) (c : Contents) → IsMergeable (world h).files standby ship bytes c → IsShipsOwn world old primary standby c.head.guid) where
    abbrev job : OneTurn
    job = merging (world h).files standby ship

    stood : (later : Account) × StandsFor (world mid) later × (later.kept ≡ now.kept)
    stood = merge_stands (world h) (world mid) standby ship taken serves now m.stands plain level_plain (beside h) (timely mid) (beside mid) takes

    merge_at : Moments h mid
    merge_at = weaker (world h) (world mid) _ _
        (both (world h) (world mid) _ _ serves.left.moments (merge_moments (world h) (world mid) standby ship taken serves now m.stands plain level_plain (beside h) (timely mid) (beside mid) takes))
        (λ files said l. record {
          primary_left = m.primary_left files (l.0.others primary apart) (l.0.others (delta_name primary) primary_beside_standby) l.1;
          standby_left = by files (l.0.others (delta_name standby) standby_beside_own) l.0.has;
        })
      where
        by : (files : Files) → Leaves (world h) (delta_name standby) (files (delta_name standby)) → (Leaves (world h) standby (files standby) ⊎ job.half files) ⊎ job.done files → StandbyLeft world old primary standby files
        by files near (inl (inl was)) = m.standby_left files was near
        by files near (inl (inr (bytes, c, mergeable, half))) = is_half h bytes c mergeable (owns bytes c mergeable) half
        by files near (inr (bytes, c, mergeable, done)) = is_merged h bytes c mergeable (owns bytes c mergeable) done.shows

    left_mid : (n : List ℕ) (file : File) → n ≢ standby → Leaves (world mid) n file → Leaves (world h) n file
    left_mid = merge_left_others (world h) (world mid) standby ship taken serves

    merge_moment : (reply : Reply) → IsMergedFor (world h) (world mid) standby ship reply → IsMoment mid stood.0
    merge_moment reply did = record {
      stands = stood.1;
      primary_left = λ files a b holds. m.primary_left files (left_mid primary (files primary) apart a) (left_mid (delta_name primary) (files (delta_name primary)) primary_beside_standby b) (subst (HoldsKept files) stood.2 holds);
      standby_left = λ files a b. is_merged h did.bytes did.contents did.mergeable (owns did.bytes did.contents did.mergeable) (shown files a b);
    }
      where
        shown : (files : Files) → Leaves (world mid) standby (files standby) → Leaves (world mid) (delta_name standby) (files (delta_name standby)) → ShowsIn standby (base_with did.bytes did.contents) files
        shown files a b =
            let one : Files = with_file (world mid).files standby (files standby) in
            let two : Files = with_file one (delta_name standby) (files (delta_name standby)) in
            let all_one : LeavesAll (world mid) one = left_with (world mid) standby (world mid).files (files standby) (λ n other. beside mid n) a in
            let all : LeavesAll (world mid) two = left_with (world mid) (delta_name standby) one (files (delta_name standby)) (λ n other. all_one n) b in
            let own : two standby ≡ files standby = with_file-other one (delta_name standby) (files (delta_name standby)) standby (λ e. standby_beside_own (sym e)) ∙ with_file-same (world mid).files standby (files standby) in
            let near : two (delta_name standby) ≡ files (delta_name standby) = with_file-same one (delta_name standby) (files (delta_name standby)) in
            ap (λ (f : File). owner standby f (files (delta_name standby))) (sym own) ∙ ap (owner standby (two standby)) (sym near) ∙ did.left two all

  -- ---- the copy

  module _ (since : List ℕ) (h mid : H) (stage : IsStage standby (world old) (world h) account) (m : IsMoment h stage.now) (ended : Result Status RunError) (goes : GoesOn world tells ended h mid (copying primary since ship))
      (before_stands : StandsFor (world old) account) (names : HaveNames (world old).files) (b : Base) (shows : ShowsIn primary b (world old).files) where
    abbrev request : Request
    request = ToRun (plan_of primary (asks_of (BackupSince since ship))) Sparingly

    -- it leaves all but the primary and the ship file
    touches : TouchesOnly (status_of_end ended) (world h) (world mid) (MayTouch (Ok request))
    touches =
        done_touches world tells told (status_of_end ended) h mid (timely mid) (beside mid) (copying primary since ship) tt (told_opened (world h).files primary (asks_of (BackupSince since ship)) Sparingly fits)
        (ended_so world tells h mid (copying primary since ship) (attach_askable primary (BackupSince since ship) fits (ship_file standby given)) (λ t. beside h) (timely mid) (λ t. beside mid) ended goes)

    untouched : (n : List ℕ) → n ≢ primary → n ≢ delta_name primary → n ≢ ship → Other (MayTouch (Ok request)) n
    untouched n a near c (inl (inl same)) = a same
    untouched n a near c (inl (inr same)) = near same
    untouched n a near c (inr (inl (inl same))) = c same
    untouched n a near c (inr (inl (inr none))) = none
    untouched n a near c (inr (inr later)) = none_asks 15 n later

    standby_off : Other (MayTouch (Ok request)) standby
    standby_off = untouched standby (λ e. apart (sym e)) (λ e. primary_beside_standby (sym e)) standby_ship

    beside_off : Other (MayTouch (Ok request)) (delta_name standby)
    beside_off = untouched (delta_name standby) (no_main standby primary own_plain) (λ e. apart (sym (delta_same standby primary e))) standby_beside_ship

    abbrev names_now : HaveNames (world h).files
    names_now = names_then primary standby fits given apart (world old) (world h) account stage names

    abbrev shows_now : ShowsIn primary b (world h).files
    shows_now = shows_then primary standby fits given apart (world old) (world h) account stage off b shows

    same_now : stage.now.entry primary ≡ account.entry primary
    same_now = same_primary primary standby fits given apart (world old) (world h) account stage off before_stands.now

    module _ (further : List ℕ) (long : length further ≡ 16) where
      abbrev performs : PerformsRun (status_of_end ended) (world h) (world mid) (Ok request) stage.now (copy_given world tells told timely beside primary standby fits given since h mid ended goes stage.now stage.stands names_now b shows_now further long)
      performs = copy_performs world tells told timely beside primary standby fits given since h mid ended goes stage.now stage.stands names_now b shows_now further long

      abbrev events : List Event
      events = performs.events

      abbrev target : Target
      target = opened_target primary

      target_is : target_of (Ok request) events ≡ Some target
      target_is = its_target world tells told timely beside primary standby fits given since h mid ended goes stage.now stage.stands names_now b shows_now further long

      copy_moments : IsSure (world h) stage.now events → Moments h mid
      copy_moments sure = weaker (world h) (world mid) _ _ (both (world h) (world mid) _ _ performs.stops touches.moments) (λ files said l. record {
        primary_left = by files l.0.left (subst (λ (o : Option Target). HoldsKept files (kept_after stage.now o (take l.0.left.count (steps_of events)))) target_is (l.0.stands sure))
            (subst (λ (o : Option Target). StandsAsked (world h) stage.now o events (length l.0.left.out.part) l.0.left.count files) target_is l.0.left.database);
        standby_left = m.standby_left files (l.1.others standby standby_off) (l.1.others (delta_name standby) beside_off);
      })
        where
          by : (files : Files) {said : List ℕ} (left : RunLeft (world h) stage.now (target_of (Ok request) events) events files said) → HoldsKept files (kept_after stage.now (Some target) (take left.count (steps_of events)))
              → StandsIn primary (seen_after stage.now primary (take left.count (steps_of events))) files ⊎ IsUnbegun (world h) target (length left.out.part) left.count files → PrimaryLeft (world old) account primary ship files
          by files left holds (inl stands) = in_its_run (record {
            since = since;
            start = (world h).files;
            before = stage.now;
            same = same_now;
            kept = stage.kept;
            given = copy_given world tells told timely beside primary standby fits given since h mid ended goes stage.now stage.stands names_now b shows_now further long;
            left = performs.left;
            events = events;
            after = performs.last;
            performed = performs.performed;
            count = left.count;
            database = stands;
            stands = holds;
          })
          by files left holds (inr un) = m.primary_left files (⊎_elim (λ was. was) (λ free. absurd (true≢false (sym free.0))) un.main) un.delta
              (subst (HoldsKept files) (ap (λ (n : ℕ). kept_after stage.now (Some target) (take n (steps_of events))) un.none ∙ kept_none stage.now (Some target)) holds)

    -- and then the standby is as it was, and the primary after its run
    copy_moment : (copy : BacksUp (world h) (world mid) stage.now primary since ship) → IsMoment mid copy.after
    copy_moment copy = record {
      stands = copy.stands;
      primary_left = λ files a near holds. in_its_run (record {
        since = since;
        start = (world h).files;
        before = stage.now;
        same = same_now;
        kept = stage.kept;
        given = copy.given;
        left = copy.left;
        events = copy.events;
        after = copy.after;
        performed = copy.performed;
        count = length (steps_of copy.events);
        database = subst (λ ss. StandsIn primary (seen_after stage.now primary ss) files) (sym all) (stood files a near);
        stands = subst (HoldsKept files) (sym (ap (kept_after stage.now (Some (opened_target primary))) all ∙ copy.begun)) holds;
      });
      standby_left = λ files a near. m.standby_left files (touches.left standby (files standby) standby_off a) (touches.left (delta_name standby) (files (delta_name standby)) beside_off near);
    }
      where
        all : take (length (steps_of copy.events)) (steps_of copy.events) ≡ steps_of copy.events
        all = take_all (length (steps_of copy.events)) (steps_of copy.events) (omega arith)

        stood : (files : Files) → Leaves (world mid) primary (files primary) → Leaves (world mid) (delta_name primary) (files (delta_name primary)) → StandsIn primary (seen_after stage.now primary (steps_of copy.events)) files
        stood files a near =
            let t : Trail = seen_after stage.now primary (steps_of copy.events) in
            let one : Files = with_file (world mid).files primary (files primary) in
            let two : Files = with_file one (delta_name primary) (files (delta_name primary)) in
            let beside_own : delta_name primary ≢ primary = no_main primary primary own_plain in
            let all_one : LeavesAll (world mid) one = left_with (world mid) primary (world mid).files (files primary) (λ n other. beside mid n) a in
            let every : LeavesAll (world mid) two = left_with (world mid) (delta_name primary) one (files (delta_name primary)) (λ n other. all_one n) near in
            let own : two primary ≡ files primary = with_file-other one (delta_name primary) (files (delta_name primary)) primary (λ e. beside_own (sym e)) ∙ with_file-same (world mid).files primary (files primary) in
            subst (λ (f : File). StandsOn primary t f (files (delta_name primary))) own
            (subst (λ (f : File). StandsOn primary t (two primary) f) (with_file-same one (delta_name primary) (files (delta_name primary))) (copy.database.left two every))

  -- ---- what the steps after the copy give

  last_guids : (since : List ℕ) (merged : Reply) (result : Result Status RunError) (h new : H) → TakesSteps world tells primary standby since (Discard ∷ []) (Some merged) result h new → (world new).guids ≡ (world h).guids
  last_guids since merged result h new discards = elim discards.after [
    | inl after ↦ after.1.line.gave.guids ∙ discards.removes.gave.guids
    | inr stops ↦ ap (λ (k : H). (world k).guids) stops.1 ∙ discards.removes.gave.guids
  ]

  rest_guids : (since : List ℕ) (result : Result Status RunError) (h new : H) → TakesSteps world tells primary standby since (Apply ∷ (Discard ∷ [])) None result h new → (world new).guids ≡ (world h).guids
  rest_guids since result h new merges = by merges.taken merges.after ∙ merges.serves.gave.guids
    where
      by : (taken : Result Reply Fault) → AfterMerge world (λ reply k. TakesSteps world tells primary standby since (Discard ∷ []) (Some reply) result k new) taken result merges.mid new → (world new).guids ≡ (world merges.mid).guids
      by (Ok reply) after = last_guids since reply result merges.mid new after
      by (Err (Refused refusal)) after = after.line.gave.guids
      by (Err Device) after = ap (λ (k : H). (world k).guids) after.1
      by (Err Memory) after = ap (λ (k : H). (world k).guids) after.1

  -- ---- step by step

  -- a merge, and what comes after it
  module _ (h new : H) (now : Account) (m : IsMoment h now) (result : Result Status RunError) (next : Reply → H → Type 0) (merges : Merges world result h new standby ship next)
      (takes : (bytes : List ℕ) (c : Contents) → IsMergeable (world h).files standby ship bytes c → TakesKept now.kept bytes c)
      (owns : (bytes : List ℕ) (c : Contents) → IsMergeable (world h).files standby ship bytes c → IsShipsOwn world old primary standby c.head.guid) where
    merge_then : ((reply : Reply) → merges.taken ≡ Ok reply → next reply merges.mid → Moments merges.mid new) → Moments h new
    merge_then goes_on = by merges.taken refl merges.after
      where
        here : Moments h merges.mid
        here = merge_at h merges.mid now m merges.taken merges.serves takes owns

        refused : (refusal : Refusal) → merges.taken ≡ Err (Refused refusal) → Quiet (world h) (world merges.mid)
        refused refusal is = (subst (λ (r : Result Reply Fault). ServedAs r (world h) (world merges.mid) (merging (world h).files standby ship) (merge_turn (world h).files standby ship)) is merges.serves.answer).quiet

        by : (taken : Result Reply Fault) → merges.taken ≡ taken → AfterMerge world next taken result merges.mid new → Moments h new
        by (Ok reply) is after = then_moments h merges.mid new here (goes_on reply is after)
        by (Err (Refused refusal)) is after =
            then_moments h merges.mid new here (said_moments merges.mid now (quiet_moment h merges.mid now m (refused refusal is)) result new _ after.line)
        by (Err Device) is after = stops_there (Err DeviceError) result h merges.mid new here after
        by (Err Memory) is after = stops_there (Err MemoryError) result h merges.mid new here after

  -- the last removal, and what is said
  last_moments : (since : List ℕ) (merged : Reply) (result : Result Status RunError) (h new : H) (now : Account) → IsMoment h now → is_header (bytes_of ((world h).files ship)) ≡ false
      → TakesSteps world tells primary standby since (Discard ∷ []) (Some merged) result h new → Moments h new
  last_moments since merged result h new now m unheaded discards = elim discards.after [
    | inl after ↦ then_moments h discards.mid new here (said_moments discards.mid (with_entry ship (Missing None) now) (removal_moment h discards.mid now m unheaded discards.removes after.0) result new _ after.1.line)
    | inr stops ↦ stops_there (Err DeviceError) result h discards.mid new here stops
  ]
    where
      here : Moments h discards.mid
      here = removal_moments h discards.mid now m unheaded discards.removes

  -- what is merged was no database
  module _ (h mid : H) (now : Account) (m : IsMoment h now) (taken : Result Reply Fault) (serves : Serves taken (world h) (world mid) (merging (world h).files standby ship) (merge_turn (world h).files standby ship)) (reply : Reply) (is : taken ≡ Ok reply) where
    its_merge : IsMergedFor (world h) (world mid) standby ship reply
    its_merge = merged_for (world h) (world mid) standby ship taken serves reply is

    unheaded_then : is_header (bytes_of ((world mid).files ship)) ≡ false
    unheaded_then =
        ap (λ (f : File). is_header (bytes_of f)) (merge_others (world h) (world mid) standby ship taken serves ship ship_off)
        ∙ ship_unheaded (world h) (world mid) standby now m.stands level_plain ship_off plain (beside mid) (merge_others (world h) (world mid) standby ship taken serves) (merge_left_others (world h) (world mid) standby ship taken serves) reply its_merge

  -- after the copy
  copied_moments : (since : List ℕ) (result : Result Status RunError) (from mid new : H) (before : Account) (copy : BacksUp (world from) (world mid) before primary since ship) → IsMoment mid copy.after
      → TakesSteps world tells primary standby since (Apply ∷ (Discard ∷ [])) None result mid new → Moments mid new
  copied_moments since result from mid new before copy m merges =
      merge_then mid new copy.after m result _ merges takes owns (λ reply is after.
      last_moments since reply result merges.mid new (stood mid merges.mid copy.after m merges.taken merges.serves takes owns).0
      (merge_moment mid merges.mid copy.after m merges.taken merges.serves takes owns reply (its_merge mid merges.mid copy.after m merges.taken merges.serves reply is))
      (unheaded_then mid merges.mid copy.after m merges.taken merges.serves reply is) after)
    where
      takes : (bytes : List ℕ) (c : Contents) → IsMergeable (world mid).files standby ship bytes c → TakesKept copy.after.kept bytes c
      takes bytes c mergeable = own_takes world tells told timely beside primary standby fits given apart since from mid new before copy off bytes c mergeable

      owns : (bytes : List ℕ) (c : Contents) → IsMergeable (world mid).files standby ship bytes c → IsShipsOwn world old primary standby c.head.guid
      owns bytes c mergeable = is_own from mid before since copy (sym (own_guid world tells told timely beside primary standby fits given apart since from mid new before copy off bytes c mergeable))

  module _ (since : List ℕ) (result : Result Status RunError) (new : H) (before_stands : StandsFor (world old) account) (names : HaveNames (world old).files) (b : Base) (shows : ShowsIn primary b (world old).files)
      (further : List ℕ) (fresh : GivesFirstNew (world old) (world new) account.kept further) where
    abbrev Stage : H → Type 0
    Stage h = IsStage standby (world old) (world h) account

    -- from the copy on
    module _ (h : H) (stage : Stage h) (m : IsMoment h stage.now) (copies : Copies world tells result h new primary since ship (λ k. TakesSteps world tells primary standby since (Apply ∷ (Discard ∷ [])) None result k new)) where
      abbrev mid : H
      mid = copies.mid

      abbrev names_h : HaveNames (world h).files
      names_h = names_then primary standby fits given apart (world old) (world h) account stage names

      abbrev shows_h : ShowsIn primary b (world h).files
      shows_h = shows_then primary standby fits given apart (world old) (world h) account stage off b shows

      -- nothing is given after it
      later_guids : (ended : Result Status RunError) → AfterCopy (λ k. TakesSteps world tells primary standby since (Apply ∷ (Discard ∷ [])) None result k new) ended result mid new → (world new).guids ≡ (world mid).guids
      later_guids (Ok Done) after = rest_guids since result mid new after
      later_guids (Ok RefusedStatus) after = ap (λ (k : H). (world k).guids) after.1
      later_guids (Ok UsageStatus) after = ap (λ (k : H). (world k).guids) after.1
      later_guids (Ok DeviceStatus) after = ap (λ (k : H). (world k).guids) after.1
      later_guids (Ok MemoryStatus) after = ap (λ (k : H). (world k).guids) after.1
      later_guids (Err stop) after = ap (λ (k : H). (world k).guids) after.1

      copy_here : (ended : Result Status RunError) (goes : GoesOn world tells ended h mid (copying primary since ship)) → (world new).guids ≡ (world mid).guids → Moments h mid
      copy_here ended goes later = elim (copy_opened world tells told timely beside primary standby fits given since h mid ended goes stage.now stage.stands names_h b shows_h further fresh.sixteen) [
        | inl small ↦ copy_moments since h mid stage m ended goes before_stands names b shows further fresh.sixteen
            (copy_sure world tells told timely beside primary standby fits given since h mid ended goes stage.now stage.stands names_h b shows_h further fresh.sixteen small (is_new small))
        | inr undone ↦ nothing ended undone
      ]
        where
          ids : (given_ids : List (List ℕ)) × ((world mid).guids ≡ (world h).guids ++ given_ids) × ((copy_given world tells told timely beside primary standby fits given since h mid ended goes stage.now stage.stands names_h b shows_h further fresh.sixteen).guids ≡ given_ids ++ further ∷ [])
          ids = copy_ids world tells told timely beside primary standby fits given since h mid ended goes stage.now stage.stands names_h b shows_h further fresh.sixteen

          moved : (g : List ℕ) → IsNewGuid (world old) account.kept g → IsNewGuid (world h) stage.now.kept g
          moved g new_then = subst (λ (ks : List Kept). IsNewGuid (world h) ks g) (sym stage.kept) (stage.new g new_then)

          is_new : (small : image_scn b.image < 4294967296) → IsNewGuid (world h) stage.now.kept (copy_guid world tells told timely beside primary standby fits given since h mid ended goes stage.now stage.stands names_h b shows_h further fresh.sixteen small)
          is_new small = moved (copy_guid world tells told timely beside primary standby fits given since h mid ended goes stage.now stage.stands names_h b shows_h further fresh.sixteen small)
              (subst (IsNewGuid (world old) account.kept) (ap (λ (gs : List (List ℕ)). get_or gs 0 nil) (sym ids.2)) (fresh.first ids.0 (later ∙ ids.1 ∙ ap (λ (l : List (List ℕ)). l ++ ids.0) stage.guids)))

          nothing : (e : Result Status RunError) → IsUndone e (world h) (world mid) → Moments h mid
          nothing (Ok status) none = absurd none
          nothing (Err stop) quiet = quiet_moments h mid stage.now m quiet

      from_copy : Moments h new
      from_copy = by copies.ended copies.goes copies.after
        where
          by : (ended : Result Status RunError) → GoesOn world tells ended h mid (copying primary since ship) → AfterCopy (λ k. TakesSteps world tells primary standby since (Apply ∷ (Discard ∷ [])) None result k new) ended result mid new → Moments h new
          by (Ok Done) goes after =
              let later : (world new).guids ≡ (world mid).guids = rest_guids since result mid new after in
              let its : GivesNew (world h) (world mid) stage.now.kept = λ guid is.
              subst (λ (ks : List Kept). IsNewGuid (world h) ks guid) (sym stage.kept) (stage.new guid (fresh.first (guid ∷ []) (later ∙ is ∙ ap (λ (l : List (List ℕ)). l ++ guid ∷ []) stage.guids))) in
              let copy : BacksUp (world h) (world mid) stage.now primary since ship = copied world tells told timely beside primary standby fits given since h mid goes stage.now stage.stands names_h b shows_h its in
              then_moments h mid new (copy_here (Ok Done) goes later)
              (copied_moments since result h mid new stage.now copy (copy_moment since h mid stage m (Ok Done) goes before_stands names b shows copy) after)
          by (Ok RefusedStatus) goes after = stops_there (Ok RefusedStatus) result h mid new (copy_here (Ok RefusedStatus) goes (later_guids (Ok RefusedStatus) after)) after
          by (Ok UsageStatus) goes after = stops_there (Ok UsageStatus) result h mid new (copy_here (Ok UsageStatus) goes (later_guids (Ok UsageStatus) after)) after
          by (Ok DeviceStatus) goes after = stops_there (Ok DeviceStatus) result h mid new (copy_here (Ok DeviceStatus) goes (later_guids (Ok DeviceStatus) after)) after
          by (Ok MemoryStatus) goes after = stops_there (Ok MemoryStatus) result h mid new (copy_here (Ok MemoryStatus) goes (later_guids (Ok MemoryStatus) after)) after
          by (Err stop) goes after = stops_there (Err stop) result h mid new (copy_here (Err stop) goes (later_guids (Err stop) after)) after

    -- from a removal on
    from_discard : (merged : Option Reply) (h : H) (stage : Stage h) → IsMoment h stage.now → is_header (bytes_of ((world h).files ship)) ≡ false
        → TakesSteps world tells primary standby since (Discard ∷ (Copy ∷ (Apply ∷ (Discard ∷ [])))) merged result h new → Moments h new
    from_discard merged h stage m unheaded discards = elim discards.after [
      | inl after ↦
          let then : Stage discards.mid = stage_removed primary standby fits given apart (world old) (world h) account stage (world discards.mid) (beside h) unheaded discards.removes after.0 in
          then_moments h discards.mid new here
          (from_copy discards.mid then
          (retold discards.mid (with_entry ship (Missing None) stage.now) then.now (removal_moment h discards.mid stage.now m unheaded discards.removes after.0) then.stands (then.kept ∙ sym (with_kept ship (Missing None) stage.now ∙ stage.kept))) after.1)
      | inr stops ↦ stops_there (Err DeviceError) result h discards.mid new here stops
    ]
      where
        here : Moments h discards.mid
        here = removal_moments h discards.mid stage.now m unheaded discards.removes

    -- from a merge on
    from_apply : (h : H) (stage : Stage h) (m : IsMoment h stage.now) → ((bytes : List ℕ) (c : Contents) → IsMergeable (world h).files standby ship bytes c → TakesKept stage.now.kept bytes c)
        → ((bytes : List ℕ) (c : Contents) → IsMergeable (world h).files standby ship bytes c → IsShipsOwn world old primary standby c.head.guid)
        → TakesSteps world tells primary standby since (Apply ∷ (Discard ∷ (Copy ∷ (Apply ∷ (Discard ∷ []))))) None result h new → Moments h new
    from_apply h stage m takes owns merges = merge_then h new stage.now m result _ merges takes owns (λ reply is after.
        let did : IsMergedFor (world h) (world merges.mid) standby ship reply = its_merge h merges.mid stage.now m merges.taken merges.serves reply is in
        let then : Stage merges.mid = stage_merged primary standby fits given apart (world old) (world h) account stage (world merges.mid) (beside h) (timely merges.mid) (beside merges.mid) merges.taken merges.serves takes reply did in
        let stood_then = stood h merges.mid stage.now m merges.taken merges.serves takes owns in
        from_discard (Some reply) merges.mid then
        (retold merges.mid stood_then.0 then.now (merge_moment h merges.mid stage.now m merges.taken merges.serves takes owns reply did) then.stands (then.kept ∙ sym (stood_then.2 ∙ stage.kept)))
        (unheaded_then h merges.mid stage.now m merges.taken merges.serves reply is) after)

-- ---- from the plan on

module _ {H : Type 0} (world : H → World) (tells : Bool) (told : IsTrue tells) (timely : (host : H) → IsTimely (world host)) (beside : (host : H) → LeavesAll (world host) (world host).files)
    (primary standby : List ℕ) (fits : is_database primary ≡ true) (given : is_database standby ≡ true) (apart : primary ≢ standby) (old new : H) (account : Account) (stands : StandsFor (world old) account) (names : HaveNames (world old).files)
    (standing : HasStandby (world old).files account.kept standby) (further : List ℕ) (fresh : GivesFirstNew (world old) (world new) account.kept further) (result : Result Status RunError) (ships : ShipsByPlan world tells result old new primary standby) where
  abbrev planned_at : H
  planned_at = ships.mid

  abbrev before_plan : Quiet (world old) (world planned_at)
  before_plan = ships.quiet

  abbrev Here : (from to : H) → Type 0
  Here from to = AtEachMoment (world from) (world to) (λ files said. IsStopped world old account primary standby files)

  stage : IsStage standby (world old) (world planned_at) account
  stage = stage_begins primary standby fits given apart (world old) (world planned_at) account stands (beside planned_at) before_plan

  left : (n : List ℕ) (file : File) → Leaves (world planned_at) n file → Leaves (world old) n file
  left n file leaves = left_before (world old) (world planned_at) _ before_plan.still.left n file tt leaves

  -- nothing has happened
  as_before : (files : Files) → LeavesAll (world old) files → IsStopped world old account primary standby files
  as_before files leaves = record { primary_left = is_unbegun (leaves primary) (leaves (delta_name primary)) (stands.left files leaves); standby_left = as_it_was (leaves standby) }

  planning_moments : Here old planned_at
  planning_moments = weaker (world old) (world planned_at) _ _ before_plan.moments (λ files said is. as_before files is.left)

  planned_left : (files : Files) → LeavesAll (world planned_at) files → LeavesAll (world old) files
  planned_left files leaves n = left n (files n) (leaves n)

  joined_on : Here planned_at new → Here old new
  joined_on later = joined (world old) (world planned_at) (world new) _ _ _ planning_moments later (λ files said is. is) (λ files said is. is)

  module _ (off : primary ≢ ship_of standby) where
    moment : IsMoment world tells told timely beside primary standby fits given apart off old account planned_at stage.now
    moment = record {
      stands = stage.stands;
      primary_left = λ files a b holds. is_unbegun (left primary (files primary) a) (left (delta_name primary) (files (delta_name primary)) b) (subst (HoldsKept files) stage.kept holds);
      standby_left = λ files a b. as_it_was (left standby (files standby) a);
    }

  of_plan : (plan : ShipPlan) → ship_plan (world old).files primary standby ≡ Ok plan → TakesSteps world tells primary standby plan.since (steps_from plan.first) None result planned_at new → Here planned_at new
  of_plan plan ok takes = by plan.first refl takes
    where
      its : IsPlanned (world old).files primary standby plan
      its = planned (world old).files primary standby plan ok

      off : primary ≢ ship_of standby
      off = primary_apart (world old).files primary standby plan its

      m : IsMoment world tells told timely beside primary standby fits given apart off old account planned_at stage.now
      m = moment off

      before : (bytes : List ℕ) (c : Contents) → IsMergeable (world planned_at).files standby (ship_of standby) bytes c → IsMergeable (world old).files standby (ship_of standby) bytes c
      before bytes c mergeable = subst (λ (f : Files). IsMergeable f standby (ship_of standby) bytes c) before_plan.still.files mergeable

      by : (step : Step) → plan.first ≡ step → TakesSteps world tells primary standby plan.since (steps_from step) None result planned_at new → Here planned_at new
      by Copy is steps = from_copy world tells told timely beside primary standby fits given apart off old account plan.since result new stands names its.base its.shows further fresh planned_at stage m steps
      by Discard is steps = from_discard world tells told timely beside primary standby fits given apart off old account plan.since result new stands names its.base its.shows further fresh None planned_at stage m
          (ap (λ (f : Files). is_header (bytes_of (f (ship_of standby)))) before_plan.still.files ∙ removed_unheaded (world old).files primary standby plan its is) steps
      by Apply is steps = from_apply world tells told timely beside primary standby fits given apart off old account plan.since result new stands names its.base its.shows further fresh planned_at stage m
          (λ bytes c mergeable. subst (λ (ks : List Kept). TakesKept ks bytes c) (sym stage.kept)
          (first_takes (world old).files primary standby plan its account stands.now (primary_plain primary standby fits given apart) standing bytes c (before bytes c mergeable) is))
          (λ bytes c mergeable. own bytes c (before bytes c mergeable) is) steps
        where
          own : (bytes : List ℕ) (c : Contents) → IsMergeable (world old).files standby (ship_of standby) bytes c → plan.first ≡ Apply → IsShipsOwn world old primary standby c.head.guid
          own bytes c mergeable first = elim (first_own (world old).files primary standby plan its account stands.now (primary_plain primary standby fits given apart) standing bytes c mergeable first) [
            | inl begun ↦ was_begun bytes mergeable.there begun.0 begun.1
            | inr named ↦ was_named its.base its.shows named
          ]

  -- At each moment of it, and after it, what a crash leaves is so.
  pub ship_moments : Here old new
  ship_moments = by ships.planned ships.plan ships.after
    where
      -- where the plan is a refusal nothing but its line comes
      refused : {T E : Type 0} (r : Result T E) (line : List ℕ) → SaysLine r (world planned_at) (world new) line → Here old new
      refused r line says = joined_on (weaker (world planned_at) (world new) _ _ says.moments (λ files said front. as_before files (planned_left files front.left)))

      by : (answer : Result ShipPlan Fault) → Says (ship_plan (world old).files primary standby) answer → AfterPlan world tells primary standby answer result planned_at new → Here old new
      by (Ok plan) says takes = joined_on (of_plan plan says takes)
      by (Err (Refused refusal)) says after = refused result _ after.line
      by (Err Device) says after = subst (λ (k : H). Here old k) (sym after.1) planning_moments
      by (Err Memory) says after = subst (λ (k : H). Here old k) (sym after.1) planning_moments
