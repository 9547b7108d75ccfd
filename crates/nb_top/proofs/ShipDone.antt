-- A ship that was done, part by part: what its last copy kept is what the standby is, for good.
use Rattle.std.proofs.Common.{◌≡◌, ◌≢◌, ◌⊎◌, inl, inr, ⊎_elim, ℕ, ◌+◌, List, [], ◌∷◌, ◌++◌, length, refl, sym, ap, subst, ◌∙◌, arith, Bool, IsTrue, false, true, Option, Some, None, Result, Ok, Err, Contains}
use Rattle.std.proofs.lemmas.List.{take_at}
use Rattle.std.proofs.lemmas.List.Elements.{Contains-append_right}
use Rattle.nb_top.proofs.Common.{is_header, state_of, File, Files, bytes_of, is_delta, World, Leaves, LeavesAll, IsTimely, AtEachMoment, joined, Fault, Refused, Device, Memory, RunError, GaveNothing, Quiet, left_before, Base, Account, Kept, Image, image_in, delta_name, Reply, line_text, merged, Contents, Head, head_for, level_bytes, read_level, no_main, Stands, IsKeptAs, nil, IsMergeable, ShowsIn, Trail, TakesKept, Status, Done, HaveNames, StandsFor, IsEnded, is_database, seen_after, some_same, steps_of, level_told, base_of, as_standby, to_record, IsSoundImage, Missing, with_entry, with_kept, owner, Serves, merging, Contains-append_left, Numbered}
use Rattle.nb_ended.specs.declared.status.Status.TheVariants.{Refused as RefusedStatus, Usage as UsageStatus, Device as DeviceStatus, Memory as MemoryStatus}
use Rattle.nb_host.specs.declared.faults.RunError.TheVariants.{Device as DeviceError, Memory as MemoryError}
use Rattle.nb_fields.specs.Header.{guid_of}
use Rattle.nb_fields.specs.States.{normal_state}
use Rattle.nb_inplace.specs.Kept.{MergesBackup}
use Rattle.nb_inplace.proofs.KeptLaws.{of_record}
use Rattle.nb_inplace.proofs.KeptWay.{kept_gives}
use Rattle.nb_inplace.proofs.VerdictLaws.{IsAccepted, IsFor, accepted, as_it_stands, begun}
use Rattle.nb_model.specs.Account.{Ask}
use Rattle.nb_model.specs.Levels.{file_of, head_in, head_then, taken}
use Rattle.nb_fields.specs.Bytes.{bytes_of as spelled}
use Rattle.nb_model.specs.NewGuids.{IsNewGuid}
use Rattle.nb_model.specs.Stands.{IsBegun}
use Rattle.nb_model.specs.Trail.{StandsOn}
use Rattle.nb_model.specs.declared.reply.Reply.TheVariants.{ScnPages}
use Rattle.nb_restore.proofs.AskLaws.{guid_long}
use Rattle.nb_restore.proofs.KeptNext.{file_level, own_file}
use Rattle.nb_restore.proofs.ReadLaws.{reads_previous}
use Rattle.nb_ship.specs.Answers.{Says}
use Rattle.nb_ship.specs.Names.{ship_of}
use Rattle.nb_ship.specs.Steps.{steps_from}
use Rattle.nb_ship.specs.declared.steps.Step.{Step}
use Rattle.nb_ship.specs.declared.steps.Step.TheVariants.{Apply, Copy, Discard}
use Rattle.nb_top.specs.declared.ship_plan.ShipPlan.{ShipPlan}
use Rattle.nb_top.specs.Done.{GoesOn}
use Rattle.nb_top.specs.ShipDone.{BacksUp, GivesNew, HasStandby, IsShipped, IsStandbyOf}
use Rattle.nb_top.specs.Shipped.{AfterCopy, AfterMerge, AfterPlan, Discards, IsGone, Replies, ShipEnds, ShipsByPlan, Stops, TakesSteps, copying, merge_turn, status_of_end}
use Rattle.nb_top.specs.Shipping.{ship_plan}
use Rattle.nb_top.proofs.AsWas.{as_was, was_has, was_off}
use Rattle.nb_top.proofs.LongNames.{ship_apart}
use Rattle.nb_top.proofs.ShipCopies.{copied}
use Rattle.nb_top.proofs.ShipFirsts.{IsPlanned, first_takes, planned, primary_apart, removed_unheaded}
use Rattle.nb_top.proofs.ShipStages.{IsStage, names_then, primary_plain, same_primary, ship_plain, shows_then, stage_begins, stage_merged, stage_removed, standby_plain, still_for}
use Rattle.nb_top.proofs.ShipStands.{IsMergedFor, merge_left_others, merge_others, merge_stands, merged_for, removed_stands_for, ship_unheaded}

-- ---- the head of the file of a record

level_guid : (h : Head) (rs : List Numbered) → length h.guid ≡ 16 → (head_in (level_bytes 102 h rs)).guid ≡ h.guid
unfolding level_bytes head_in head_then spelled
level_guid h rs sixteen = take_at h.guid _ 16 sixteen

-- what the file of a record says, where that goes on from a backup of that GUID
pub record IsHeadOf (r : Kept) (previous : List ℕ) (c : Contents) : Type 0 where
  pub guid : c.head.guid ≡ r.guid
  pub goes_on : c.head.previous ≡ previous

module _ (files : Files) (account : Account) (stands : Stands files account) (r : Kept) (kept : Contains account.kept r) (parent : Kept) (parent_kept : Contains account.kept parent) (ask : Ask) (asks : r.ask ≡ Some ask) (previous : ask.previous ≡ parent.guid)
    (level : List ℕ) (is : level ≡ file_of 102 r) (c : Contents) (read : read_level level ≡ Ok c) where
  its_begun : IsBegun r
  its_begun = stands.sound_images.records r kept

  its_sound : IsSoundImage r.image
  its_sound = stands.sound_images.images r.image (to_record r kept refl)

  pub head_is : IsHeadOf r ask.previous c
  head_is =
      let spelt = file_level 102 r r.ask level c its_begun its_sound read (is ∙ own_file 102 r) in
      let same : spelt.0 ≡ ask = some_same spelt.0 ask (sym spelt.1 ∙ asks) in
      let h : Head = head_for r spelt.0 in
      let rs : List Numbered = taken spelt.0.previous_scn r.image in
      let told : c.head ≡ head_in (level_bytes 102 h rs) = (level_told level c read).head ∙ ap head_in spelt.2 in
      let long : length r.guid ≡ 16 = guid_long r its_begun in
      let parent_long : length spelt.0.previous ≡ 16 = ap (λ (a : Ask). length a.previous) same ∙ ap length previous ∙ guid_long parent (stands.sound_images.records parent parent_kept) in
      record {
        guid = ap (λ (x : Head). x.guid) told ∙ level_guid h rs long;
        goes_on = ap (λ (x : Head). x.previous) told ∙ reads_previous 102 h rs long parent_long ∙ ap (λ (a : Ask). a.previous) same;
      }

module _ {H : Type 0} (world : H → World) (tells : Bool) (told : IsTrue tells) (timely : (host : H) → IsTimely (world host)) (beside : (host : H) → LeavesAll (world host) (world host).files)
    (primary standby : List ℕ) (fits : is_database primary ≡ true) (given : is_database standby ≡ true) (apart : primary ≢ standby) where
  abbrev ship : List ℕ
  ship = ship_of standby

  plain : is_delta standby ≡ false
  plain = standby_plain primary standby fits given apart

  own_plain : is_delta primary ≡ false
  own_plain = primary_plain primary standby fits given apart

  level_plain : is_delta ship ≡ false
  level_plain = ship_plain primary standby fits given apart

  ship_off : ship ≢ standby
  ship_off = ship_apart standby

  -- a refusal or a failure isn't what was done
  stops_never : {P : Type 0} (ended : Result Status RunError) (mid new : H) → ended ≢ Ok Done → Stops ended (Ok Done) mid new → P
  stops_never ended mid new other stops = absurd (other (sym stops.0))

  -- ---- the steps after the copy

  -- what the last steps gave
  last_gave : (since : List ℕ) (merged : Reply) (mid new : H) → TakesSteps world tells primary standby since (Discard ∷ []) (Some merged) (Ok Done) mid new → GaveNothing (world mid) (world new)
  last_gave since merged mid new discards = elim discards.after [
    | inl after ↦ record { guids = after.1.line.gave.guids ∙ discards.removes.gave.guids; times = after.1.line.gave.times ∙ discards.removes.gave.times }
    | inr stops ↦ stops_never (Err DeviceError) discards.mid new (λ e. cc) stops
  ]

  merge_gave : (since : List ℕ) (mid new : H) → TakesSteps world tells primary standby since (Apply ∷ (Discard ∷ [])) None (Ok Done) mid new → GaveNothing (world mid) (world new)
  merge_gave since mid new merges = by merges.taken merges.after
    where
      by : (taken : Result Reply Fault) → AfterMerge world (λ reply m. TakesSteps world tells primary standby since (Discard ∷ []) (Some reply) (Ok Done) m new) taken (Ok Done) merges.mid new → GaveNothing (world mid) (world new)
      by (Ok reply) after =
          let last = last_gave since reply merges.mid new after in
          record { guids = last.guids ∙ merges.serves.gave.guids; times = last.times ∙ merges.serves.gave.times }
      by (Err (Refused refusal)) after = absurd (let no : Done ≡ RefusedStatus = after.ended in cc)
      by (Err Device) after = stops_never (Err DeviceError) merges.mid new (λ e. cc) after
      by (Err Memory) after = stops_never (Err MemoryError) merges.mid new (λ e. cc) after

  -- After the copy: the merge of what it made, and the removal.
  module _ (since : List ℕ) (from mid new : H) (before : Account) (copy : BacksUp (world from) (world mid) before primary since ship) (off : primary ≢ ship) where
    abbrev backup : Kept
    backup = copy.backup

    backup_kept : Contains copy.after.kept backup
    backup_kept = subst (λ (ks : List Kept). Contains ks backup) (sym copy.kept) (Contains-append_right before.kept (backup ∷ []) backup (0, omega arith, refl))

    abbrev parent : Kept
    parent = copy.parent.0

    parent_kept : Contains copy.after.kept parent
    parent_kept = subst (λ (ks : List Kept). Contains ks parent) (sym copy.kept) (Contains-append_left before.kept (backup ∷ []) parent copy.parent.1.there)

    since_some : since ≢ nil
    since_some none = copy.stands.now.kept_records.not_nil parent parent_kept (copy.parent.1.named ∙ none)

    module _ (bytes : List ℕ) (c : Contents) (m : IsMergeable (world mid).files standby ship bytes c) where
      abbrev its : IsAccepted (world mid).files ship bytes c
      its = accepted (world mid).files standby ship bytes c m

      level_is : its.level ≡ file_of 102 backup
      level_is = some_same its.level (file_of 102 backup) (sym its.there ∙ copy.file.reads)

      head : IsHeadOf backup copy.goes_on.0.previous c
      head = head_is (world mid).files copy.after copy.stands.now backup backup_kept parent parent_kept copy.goes_on.0 copy.goes_on.1 (copy.goes_on.2 ∙ sym copy.parent.1.named) its.level level_is c its.read

      goes_on : c.head.previous ≡ since
      goes_on = head.goes_on ∙ copy.goes_on.2

      named : IsKeptAs copy.after.kept c.head.guid backup
      named = record { there = backup_kept; named = sym head.guid }

      restored : state_of bytes ≡ normal_state → guid_of bytes ≢ nil
      restored zero none = by its.for
        where
          by : IsFor ship bytes c → ⊥
          by (as_it_stands is on) = since_some (sym goes_on ∙ on.previous ∙ none)
          by (begun three same) = absurd (omega (arith, zero, three))

      pub own_guid : c.head.guid ≡ backup.guid
      own_guid = head.guid

      pub own_takes : TakesKept copy.after.kept bytes c
      own_takes = record { backup = backup; kept_as = named; restored = restored }

      backs : MergesBackup (world mid).files standby ship bytes c
      backs = record { plain = plain; level_plain = level_plain; mergeable = m; restored = restored }

      image_is : merged c.pages (image_in bytes) ≡ as_standby backup.image
      image_is = kept_gives (world mid).files copy.after copy.stands.now standby ship bytes c backs backup named

      scn_is : c.head.scn ≡ backup.scn
      scn_is = (of_record (world mid).files copy.after copy.stands.now ship its.level c backup level_plain its.there its.read named (λ none. since_some (sym goes_on ∙ none))).own_scn

    module _ (taken : Result Reply Fault) (later : H) (serves : Serves taken (world mid) (world later) (merging (world mid).files standby ship) (merge_turn (world mid).files standby ship)) (reply : Reply) (is : taken ≡ Ok reply)
        (discards : Discards world (Ok Done) later new ship (λ (m : H). Replies (Ok Done) (world m) (world new) reply)) (gone : IsGone (world discards.mid) ship) (replies : Replies (Ok Done) (world discards.mid) (world new) reply) where
      abbrev end : H
      end = discards.mid

      did : IsMergedFor (world mid) (world later) standby ship reply
      did = merged_for (world mid) (world later) standby ship taken serves reply is

      image : merged did.contents.pages (image_in did.bytes) ≡ as_standby backup.image
      image = image_is did.bytes did.contents did.mergeable

      reply_is : reply ≡ ScnPages backup.scn (length (as_standby backup.image))
      reply_is = did.says ∙ ap (λ (x : Image). ScnPages did.contents.head.scn (length x)) image ∙ ap (λ (n : ℕ). ScnPages n (length (as_standby backup.image))) (scn_is did.bytes did.contents did.mergeable)

      others_later : (m : List ℕ) → m ≢ standby → (world later).files m ≡ (world mid).files m
      others_later = merge_others (world mid) (world later) standby ship taken serves

      left_later : (m : List ℕ) (file : File) → m ≢ standby → Leaves (world later) m file → Leaves (world mid) m file
      left_later = merge_left_others (world mid) (world later) standby ship taken serves

      unheaded : is_header (bytes_of ((world later).files ship)) ≡ false
      unheaded = ap (λ (f : File). is_header (bytes_of f)) (others_later ship ship_off)
          ∙ ship_unheaded (world mid) (world later) standby copy.after copy.stands level_plain ship_off plain (beside later) others_later left_later reply did

      stood : (after : Account) × StandsFor (world later) after × (after.kept ≡ copy.after.kept)
      stood = merge_stands (world mid) (world later) standby ship taken serves copy.after copy.stands plain level_plain (beside mid) (timely later) (beside later) own_takes

      removed : StandsFor (world end) (with_entry ship (Missing None) stood.0)
      removed = removed_stands_for (world later) (world end) stood.0 ship stood.1 level_plain (beside later) unheaded discards.removes gone

      -- what was said last changes no file
      same_end : (world new).files ≡ (world end).files
      same_end = replies.line.still.files

      left_end : (m : List ℕ) (file : File) → Leaves (world new) m file → Leaves (world end) m file
      left_end m file leaves = left_before (world end) (world new) _ replies.line.still.left m file tt leaves

      left_then : (m : List ℕ) (file : File) → m ≢ ship → Leaves (world new) m file → Leaves (world later) m file
      left_then m file other leaves = left_before (world later) (world end) _ discards.removes.left.others m file other (left_end m file leaves)

      reads_then : (m : List ℕ) → m ≢ ship → (world new).files m ≡ (world later).files m
      reads_then m other = ap (λ (f : Files). f m) same_end ∙ discards.removes.left.others_read m other

      -- the standby
      beside_off : delta_name standby ≢ ship
      beside_off = no_main standby ship level_plain

      shows_same : (files same : Files) → same standby ≡ files standby → same (delta_name standby) ≡ files (delta_name standby) → ShowsIn standby (base_of (merged did.contents.pages (image_in did.bytes))) files → IsStandbyOf standby backup same
      shows_same files same own near shows =
          subst (λ (x : Image). ShowsIn standby (base_of x) same) image
          (ap (λ (f : File). owner standby f (same (delta_name standby))) own ∙ ap (owner standby (files standby)) near ∙ shows)

      standby_at_end : (files : Files) → LeavesAll (world end) files → IsStandbyOf standby backup files
      standby_at_end files leaves =
          let was : Files = (world later).files in
          let held : Files = as_was was (ship ∷ []) files in
          let all : LeavesAll (world later) held = λ m. was_has was (Leaves (world later) m) (ship ∷ []) files m (beside later m)
          (λ other. left_before (world later) (world end) _ discards.removes.left.others m (files m) other.0 (leaves m)) in
          shows_same held files (sym (was_off was (ship ∷ []) files standby ((λ e. ship_off (sym e)), tt))) (sym (was_off was (ship ∷ []) files (delta_name standby) (beside_off, tt))) (did.left held all)

      standby_left : (files : Files) → LeavesAll (world new) files → IsStandbyOf standby backup files
      standby_left files leaves = standby_at_end files (λ m. left_end m (files m) (leaves m))

      -- the primary
      beside_apart : delta_name primary ≢ standby
      beside_apart = no_main primary standby plain

      beside_ship : delta_name primary ≢ ship
      beside_ship = no_main primary ship level_plain

      reads_mid : (m : List ℕ) → m ≢ standby → m ≢ ship → (world new).files m ≡ (world mid).files m
      reads_mid m a b = reads_then m b ∙ others_later m a

      abbrev t : Trail
      t = seen_after before primary (steps_of copy.events)

      database : IsEnded (world new) primary t
      database = record {
        shows = ap (λ (f : File). owner primary f ((world new).files (delta_name primary))) (reads_mid primary apart off)
            ∙ ap (owner primary ((world mid).files primary)) (reads_mid (delta_name primary) beside_apart beside_ship) ∙ copy.database.shows;
        left = λ files leaves.
            let was : Files = (world mid).files in
            let held : Files = as_was was (standby ∷ (ship ∷ [])) files in
            let all : LeavesAll (world mid) held = λ m. was_has was (Leaves (world mid) m) (standby ∷ (ship ∷ [])) files m (beside mid m)
            (λ other. left_later m (files m) other.0 (left_then m (files m) other.1.0 (leaves m))) in
            subst (λ (f : File). StandsOn primary t f (files (delta_name primary))) (was_off was (standby ∷ (ship ∷ [])) files primary (apart, (off, tt)))
            (subst (λ (f : File). StandsOn primary t (held primary) f) (was_off was (standby ∷ (ship ∷ [])) files (delta_name primary) (beside_apart, (beside_ship, tt))) (copy.database.left held all));
      }

      pub last_ships : (first : H) (account : Account) → before.entry primary ≡ account.entry primary → before.kept ≡ account.kept → (world from).guids ≡ (world first).guids → (world from).times ≡ (world first).times → (world from).said ≡ (world first).said
          → AtEachMoment (world first) (world from) (λ files said. said ≡ (world first).said) → IsShipped world first new account primary standby
      last_ships first account same kept guids times said quiet =
          let gave : GaveNothing (world mid) (world new) = record {
            guids = replies.line.gave.guids ∙ discards.removes.gave.guids ∙ serves.gave.guids;
            times = replies.line.gave.times ∙ discards.removes.gave.times ∙ serves.gave.times;
          } in
          record {
            since = since;
            from = from;
            to = mid;
            before = before;
            same = same;
            kept = kept;
            copy = copy;
            database = database;
            standby_reads = shows_same (world later).files (world new).files (reads_then standby (λ e. ship_off (sym e))) (reads_then (delta_name standby) beside_off) did.reads;
            standby_left = standby_left;
            gone = record {
              durable = record { none_back = λ file back. own_gone file (inl back); only = λ file now. own_gone file (inr now) };
              reads = ap (λ (f : Files). f ship) same_end ∙ gone.reads;
            };
            guid = gave.guids ∙ copy.guid ∙ ap (λ (l : List (List ℕ)). l ++ backup.guid ∷ []) guids;
            time = (copy.time.0, gave.times ∙ copy.time.1 ∙ ap (λ (l : List ℕ). l ++ copy.time.0 ∷ []) times);
            said = replies.line.said ∙ ap (λ (r : Reply). (world end).said ++ line_text 1 r) reply_is
                ∙ ap (λ (l : List ℕ). l ++ line_text 1 (ScnPages backup.scn (length (as_standby backup.image)))) (discards.removes.left.said ∙ serves.left.said ∙ copy.silent ∙ said);
            acknowledged = joined (world first) (world end) (world new) _ _ _
                (joined (world first) (world later) (world end) _ _ _
                (joined (world first) (world mid) (world later) _ _ _
                (joined (world first) (world from) (world mid) _ _ _ quiet copy.quiet (λ files now is. is) (λ files now is. is ∙ said)) serves.left.moments (λ files now is. is) (λ files now l. l.output ∙ copy.silent ∙ said))
                discards.removes.left.moments (λ files now is. is) (λ files now l. l.output ∙ serves.left.said ∙ copy.silent ∙ said))
                replies.line.moments (λ files now is. inl is) (λ files now front. inr (standby_at_end files front.left));
            later = with_entry ship (Missing None) stood.0;
            stands = still_for (world end) (world new) (with_entry ship (Missing None) stood.0) removed (beside new) same_end left_end;
            records = with_kept ship (Missing None) stood.0 ∙ stood.2 ∙ copy.kept ∙ ap (λ (ks : List Kept). ks ++ backup ∷ []) kept;
          }
        where
          own_gone : (file : File) → Leaves (world new) ship file → file ≡ None
          own_gone file leaves = ⊎_elim (gone.durable.none_back file) (gone.durable.only file) (left_end ship file leaves)

    pub from_merge : (first : H) (account : Account) → before.entry primary ≡ account.entry primary → before.kept ≡ account.kept → (world from).guids ≡ (world first).guids → (world from).times ≡ (world first).times → (world from).said ≡ (world first).said
        → AtEachMoment (world first) (world from) (λ files said. said ≡ (world first).said) → TakesSteps world tells primary standby since (Apply ∷ (Discard ∷ [])) None (Ok Done) mid new → IsShipped world first new account primary standby
    from_merge first account same kept guids times said quiet merges = by merges.taken refl merges.after
      where
        by : (taken : Result Reply Fault) → merges.taken ≡ taken → AfterMerge world (λ reply m. TakesSteps world tells primary standby since (Discard ∷ []) (Some reply) (Ok Done) m new) taken (Ok Done) merges.mid new → IsShipped world first new account primary standby
        by (Ok reply) is discards = elim discards.after [
          | inl after ↦ last_ships merges.taken merges.mid merges.serves reply is discards after.0 after.1 first account same kept guids times said quiet
          | inr stops ↦ stops_never (Err DeviceError) discards.mid new (λ e. cc) stops
        ]
        by (Err (Refused refusal)) is after = absurd (let no : Done ≡ RefusedStatus = after.ended in cc)
        by (Err Device) is after = stops_never (Err DeviceError) merges.mid new (λ e. cc) after
        by (Err Memory) is after = stops_never (Err MemoryError) merges.mid new (λ e. cc) after

  -- ---- all steps

  module _ (since : List ℕ) (first new : H) (account : Account) (stands : StandsFor (world first) account) (names : HaveNames (world first).files) (fresh : GivesNew (world first) (world new) account.kept) (off : primary ≢ ship) (b : Base) (shows : ShowsIn primary b (world first).files) where
    abbrev Stage : H → Type 0
    Stage h = IsStage standby (world first) (world h) account

    from_copy : (h : H) → Stage h → TakesSteps world tells primary standby since (Copy ∷ (Apply ∷ (Discard ∷ []))) None (Ok Done) h new → IsShipped world first new account primary standby
    from_copy h stage copies = by copies.ended copies.goes copies.after
      where
        by : (ended : Result Status RunError) → GoesOn world tells ended h copies.mid (copying primary since ship) → AfterCopy (λ m. TakesSteps world tells primary standby since (Apply ∷ (Discard ∷ [])) None (Ok Done) m new) ended (Ok Done) copies.mid new
            → IsShipped world first new account primary standby
        by (Ok Done) goes after =
            let gave : GaveNothing (world copies.mid) (world new) = merge_gave since copies.mid new after in
            let its : GivesNew (world h) (world copies.mid) stage.now.kept = λ guid is.
            subst (λ (ks : List Kept). IsNewGuid (world h) ks guid) (sym stage.kept)
            (stage.new guid (fresh guid (gave.guids ∙ is ∙ ap (λ (l : List (List ℕ)). l ++ guid ∷ []) stage.guids))) in
            let copy : BacksUp (world h) (world copies.mid) stage.now primary since ship =
            copied world tells told timely beside primary standby fits given since h copies.mid goes stage.now stage.stands (names_then primary standby fits given apart (world first) (world h) account stage names) b (shows_then primary standby fits given apart (world first) (world h) account stage off b shows) its in
            from_merge since h copies.mid new stage.now copy off first account (same_primary primary standby fits given apart (world first) (world h) account stage off stands.now) stage.kept stage.guids stage.times stage.said stage.quiet after
        by (Ok RefusedStatus) goes after = stops_never (Ok RefusedStatus) copies.mid new (λ e. cc) after
        by (Ok UsageStatus) goes after = stops_never (Ok UsageStatus) copies.mid new (λ e. cc) after
        by (Ok DeviceStatus) goes after = stops_never (Ok DeviceStatus) copies.mid new (λ e. cc) after
        by (Ok MemoryStatus) goes after = stops_never (Ok MemoryStatus) copies.mid new (λ e. cc) after
        by (Err stop) goes after = stops_never (Err stop) copies.mid new (λ e. cc) after

    -- from a removal on
    from_discard : (merged : Option Reply) (h : H) → Stage h → is_header (bytes_of ((world h).files ship)) ≡ false → TakesSteps world tells primary standby since (Discard ∷ (Copy ∷ (Apply ∷ (Discard ∷ [])))) merged (Ok Done) h new
        → IsShipped world first new account primary standby
    from_discard merged h stage unheaded discards = elim discards.after [
      | inl after ↦ from_copy discards.mid (stage_removed primary standby fits given apart (world first) (world h) account stage (world discards.mid) (beside h) unheaded discards.removes after.0) after.1
      | inr stops ↦ stops_never (Err DeviceError) discards.mid new (λ e. cc) stops
    ]

    -- from a merge on
    from_apply : (h : H) (stage : Stage h) → ((bytes : List ℕ) (c : Contents) → IsMergeable (world h).files standby ship bytes c → TakesKept stage.now.kept bytes c)
        → TakesSteps world tells primary standby since (Apply ∷ (Discard ∷ (Copy ∷ (Apply ∷ (Discard ∷ []))))) None (Ok Done) h new → IsShipped world first new account primary standby
    from_apply h stage takes merges = by merges.taken refl merges.after
      where
        others : (m : List ℕ) → m ≢ standby → (world merges.mid).files m ≡ (world h).files m
        others = merge_others (world h) (world merges.mid) standby ship merges.taken merges.serves

        left : (m : List ℕ) (file : File) → m ≢ standby → Leaves (world merges.mid) m file → Leaves (world h) m file
        left = merge_left_others (world h) (world merges.mid) standby ship merges.taken merges.serves

        by : (taken : Result Reply Fault) → merges.taken ≡ taken → AfterMerge world (λ reply m. TakesSteps world tells primary standby since (Discard ∷ (Copy ∷ (Apply ∷ (Discard ∷ [])))) (Some reply) (Ok Done) m new) taken (Ok Done) merges.mid new
            → IsShipped world first new account primary standby
        by (Ok reply) is after =
            let did : IsMergedFor (world h) (world merges.mid) standby ship reply = merged_for (world h) (world merges.mid) standby ship merges.taken merges.serves reply is in
            from_discard (Some reply) merges.mid
            (stage_merged primary standby fits given apart (world first) (world h) account stage (world merges.mid) (beside h) (timely merges.mid) (beside merges.mid) merges.taken merges.serves takes reply did)
            (ap (λ (f : File). is_header (bytes_of f)) (others ship ship_off) ∙ ship_unheaded (world h) (world merges.mid) standby stage.now stage.stands level_plain ship_off plain (beside merges.mid) others left reply did) after
        by (Err (Refused refusal)) is after = absurd (let no : Done ≡ RefusedStatus = after.ended in cc)
        by (Err Device) is after = stops_never (Err DeviceError) merges.mid new (λ e. cc) after
        by (Err Memory) is after = stops_never (Err MemoryError) merges.mid new (λ e. cc) after

  -- ---- from the plan on

  module _ (old new : H) (account : Account) (stands : StandsFor (world old) account) (names : HaveNames (world old).files) (standing : HasStandby (world old).files account.kept standby) (fresh : GivesNew (world old) (world new) account.kept)
      (ships : ShipsByPlan world tells (Ok Done) old new primary standby) where
    abbrev mid : H
    mid = ships.mid

    abbrev quiet : Quiet (world old) (world mid)
    quiet = ships.quiet

    begins : IsStage standby (world old) (world mid) account
    begins = stage_begins primary standby fits given apart (world old) (world mid) account stands (beside mid) quiet

    of_plan : (plan : ShipPlan) → ship_plan (world old).files primary standby ≡ Ok plan → TakesSteps world tells primary standby plan.since (steps_from plan.first) None (Ok Done) mid new → IsShipped world old new account primary standby
    of_plan plan ok takes = by plan.first refl takes
      where
        its : IsPlanned (world old).files primary standby plan
        its = planned (world old).files primary standby plan ok

        off : primary ≢ ship
        off = primary_apart (world old).files primary standby plan its

        by : (step : Step) → plan.first ≡ step → TakesSteps world tells primary standby plan.since (steps_from step) None (Ok Done) mid new → IsShipped world old new account primary standby
        by Copy is steps = from_copy plan.since old new account stands names fresh off its.base its.shows mid begins steps
        by Discard is steps = from_discard plan.since old new account stands names fresh off its.base its.shows None mid begins (ap (λ (f : Files). is_header (bytes_of (f ship))) quiet.still.files ∙ removed_unheaded (world old).files primary standby plan its is) steps
        by Apply is steps = from_apply plan.since old new account stands names fresh off its.base its.shows mid begins
            (λ bytes c m. subst (λ (ks : List Kept). TakesKept ks bytes c) (sym begins.kept)
            (first_takes (world old).files primary standby plan its account stands.now own_plain standing bytes c (subst (λ (f : Files). IsMergeable f standby ship bytes c) quiet.still.files m) is))
            steps

    pub ships_done : IsShipped world old new account primary standby
    ships_done = by ships.planned ships.plan ships.after
      where
        by : (answer : Result ShipPlan Fault) → Says (ship_plan (world old).files primary standby) answer → AfterPlan world tells primary standby answer (Ok Done) mid new → IsShipped world old new account primary standby
        by (Ok plan) says takes = of_plan plan says takes
        by (Err (Refused refusal)) says after = absurd (let no : Done ≡ RefusedStatus = after.ended in cc)
        by (Err Device) says after = stops_never (Err DeviceError) mid new (λ e. cc) after
        by (Err Memory) says after = stops_never (Err MemoryError) mid new (λ e. cc) after

-- So it is of a run that ends as one that is done.
pub ships_by_run : {H : Type 0} (world : H → World) (tells : Bool) → IsTrue tells → ((host : H) → IsTimely (world host)) → ((host : H) → LeavesAll (world host) (world host).files) → (primary standby : List ℕ)
    → is_database primary ≡ true → is_database standby ≡ true → primary ≢ standby → (old new : H) (account : Account) → StandsFor (world old) account → HaveNames (world old).files → HasStandby (world old).files account.kept standby
    → GivesNew (world old) (world new) account.kept → ShipEnds world tells Done old new primary standby → IsShipped world old new account primary standby
ships_by_run world tells told timely beside primary standby fits given apart old new account stands names standing fresh ends =
    ships_done world tells told timely beside primary standby fits given apart old new account stands names standing fresh
    (subst (λ (r : Result Status RunError). ShipsByPlan world tells r old new primary standby) (done_is ends.result (sym ends.ended)) (ends.goes told))
  where
    done_is : (r : Result Status RunError) → status_of_end r ≡ Done → r ≡ Ok Done
    done_is (Ok status) is = ap Ok is
    done_is (Err DeviceError) is = cc
    done_is (Err MemoryError) is = cc
