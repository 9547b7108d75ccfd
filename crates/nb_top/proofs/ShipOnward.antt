-- From where a further ship can go on its plan refuses nothing, and neither does the merge that it may begin with.
use Rattle.std.proofs.Common.{◌≡◌, ◌≢◌, inl, inr, ℕ, ◌-◌, ◌<◌, ◌≤◌, List, [], ◌∷◌, length, length-append, IsTrue, true, false, refl, sym, ap, subst, ◌∙◌, arith, Bool, ◌==◌, not, Some, None, Result, Ok, Err, Contains, nat_le}
use Rattle.nb_top.proofs.Common.{AllByRecursion, BadLevel, ChainLevel, and_from, le-leb, first_page, true≢false, le-ltb, state_of, stamp_of, applying_state, normal_state, File, Files, bytes_of, is_delta, same_name, Refusal, ChainGuid, ChainSize, ChainScn, Base, Account, Kept, Image, image_size, image_in, Cause, when, first_cause, not_next, not_standby, written_since, other_pages, in_place, Contents, read_level, Stands, IsKeptAs, IsMergeable, ShowsIn, err_not_ok, some_same, nil, World, LeavesAll, IsTimely, image_scn, image_state, Reply, line_text, text_of, status_of, replies_of, IsBase, is_free_entry, is_free_name, FileExists, opening, HaveNames, StandsFor, Status, Done, is_database, IsReopened, plan_of, asks_of, BackupSince}
use Rattle.std.proofs.lemmas.Bool.{eq-eqb, eqb-true}
use Rattle.nb_ended.specs.declared.status.Status.TheVariants.{Refused as RefusedStatus, Usage as UsageStatus, Device, Memory}
use Rattle.nb_ended.specs.Numbers.{number_of}
use Rattle.nb_fields.specs.Places.{most_pages}
use Rattle.nb_fields.specs.Header.{guid_of, scn_of, size_of}
use Rattle.nb_host.proofs.NameLaws.{same_self}
use Rattle.nb_host.specs.declared.refusals.Refusal.TheVariants.{Access, Full, ScnExhausted, WrongState}
use Rattle.nb_inplace.specs.Half.{IsHalf}
use Rattle.nb_inplace.proofs.AgainLaws.{half_goes_on}
use Rattle.nb_inplace.proofs.HalfLaws.{half_state}
use Rattle.nb_inplace.proofs.KeptLaws.{IsOfRecord, of_record}
use Rattle.nb_inplace.proofs.VerdictLaws.{IsAccepted, IsFor, accepted, answered, as_it_stands, begun, by_state, mergeable_by, verdict_by}
use Rattle.nb_model.specs.Causes.{broken_at}
use Rattle.nb_model.specs.Chains.{History, pages_of}
use Rattle.nb_model.specs.Image.{Page, is_read_only}
use Rattle.nb_model.specs.Rows.{IsNeat}
use Rattle.nb_model.specs.Jobs.{usual_cache}
use Rattle.nb_model.specs.Outcomes.{Seen}
use Rattle.nb_model.specs.declared.statement.Statement.TheVariants.{OpenDb}
use Rattle.nb_model.proofs.HeldChains.{ok_none}
use Rattle.nb_model.proofs.OutputLaws.{line-some}
use Rattle.nb_model.proofs.SoundTurns.{seen_now}
use Rattle.nb_model.proofs.TurnCases.{is_so, start_cause}
use Rattle.nb_model.proofs.NeatLaws.{chains_are}
use Rattle.nb_ship.specs.Finds.{Finds}
use Rattle.nb_ship.specs.Looks.{found_in, look_at, read_in, with_guid}
use Rattle.nb_ship.specs.Names.{ship_of}
use Rattle.nb_ship.specs.Steps.{first_step, since}
use Rattle.nb_ship.specs.declared.found.Found.{Found}
use Rattle.nb_ship.specs.declared.found.Found.TheVariants.{Applied, Broken, Next, Nothing, Pending}
use Rattle.nb_ship.specs.declared.found.Look.{Look}
use Rattle.nb_ship.specs.declared.steps.Step.TheVariants.{Apply}
use Rattle.nb_ship.proofs.FindsLaws.{what_is_found, what_stands_is_found}
use Rattle.nb_ship.proofs.ReadLaws.{no_bytes}
use Rattle.nb_top.specs.ShipOnward.{BeginsWell, CanShip, HasRoomFor, RestsOn, WaitsForMore, is_begun, rests}
use Rattle.nb_top.specs.Shipping.{is_known, names_backup, not_asked, not_normal, plan_by, ship_plan}
use Rattle.nb_fields.specs.Bytes.{number_in}
use Rattle.nb_fields.specs.Header.{signature}
use Rattle.nb_model.specs.Account.{Ask}
use Rattle.nb_model.specs.Levels.{IsHead, begins_level, file_of, head_for}
use Rattle.nb_model.specs.Line.{IsKeptNext}
use Rattle.nb_model.specs.Restoring.{Link, level_link, next_link, not_behind}
use Rattle.nb_model.specs.Sound.{IsSoundImage}
use Rattle.nb_model.specs.Stands.{GoesOnFrom, IsBegun, to_record}
use Rattle.nb_model.proofs.ChainLaws.{kept_accepted}
use Rattle.nb_model.proofs.HeaderLaws.{header-room, header-size}
use Rattle.nb_restore.proofs.AskLaws.{guid_long}
use Rattle.std.proofs.lemmas.List.Elements.{Contains-append_right}
use Rattle.nb_top.specs.ShipDone.{BacksUp}
use Rattle.nb_top.proofs.ShipDone.{head_is}
use Rattle.nb_top.specs.Done.{GoesOn}
use Rattle.nb_top.specs.Shipped.{copying}
use Rattle.nb_top.proofs.KnownLaws.{free_known}
use Rattle.nb_top.proofs.LongNames.{ship_file}
use Rattle.nb_top.proofs.OpenLaws.{shown_entry}
use Rattle.nb_top.proofs.ShipCopies.{again, copy_allowed, copy_given, copy_opened, copy_performs, copy_untold}
use Rattle.nb_top.proofs.ShipFirsts.{history_kept}
use Rattle.nb_top.proofs.ShipPlans.{plan_made}
use Rattle.nb_top.proofs.WordNames.{plain_database, plain_file}

-- ---- no cause

same_texts : (a b : List ℕ) → a ≡ b → same_name a b ≡ true
same_texts a b e = ap (same_name a) (sym e) ∙ same_self a

no_cause : (c : Cause) (cs : List Cause) → c ≡ None → first_cause cs ≡ None → first_cause (c ∷ cs) ≡ None
unfolding first_cause
no_cause None cs none rest = rest
no_cause (Some refusal) cs none rest = cc

no_causes : first_cause [] ≡ None
unfolding first_cause
no_causes = refl

passes : (t : Bool) (refusal : Refusal) → t ≡ true → when (not t) refusal ≡ None
passes t refusal is = ap (λ (x : Bool). when (not x) refusal) is

unwritten_none : (name : List ℕ) (scn : ℕ) (pages : List Page) → AllByRecursion (λ page. stamp_of page ≤ scn) pages → written_since name scn pages ≡ None
unfolding written_since
unwritten_none name scn [] all = refl
unwritten_none name scn (p ∷ ps) all =
    ap (λ (t : Bool). elim t as (λ z. Cause) [ true ↦ Some (ChainScn name (stamp_of p) scn) | false ↦ written_since name scn ps ]) (le-ltb scn (stamp_of p) all.0) ∙ unwritten_none name scn ps all.1

-- what is looked at is a standby
looked_standby : (files : Files) (standby : List ℕ) (look : Look) → look_at files standby ≡ Ok look → not_standby standby (files standby) ≡ None
unfolding look_at
looked_standby files standby look looked = by (not_standby standby (files standby)) looked
  where
    by : (cause : Cause) → elim cause as (λ z. Result Look Refusal) [ Some refusal ↦ Err refusal | None ↦ with_guid (guid_of (bytes_of (files standby))) (found_in files standby (bytes_of (files standby))) ] ≡ Ok look → cause ≡ None
    by None e = refl
    by (Some refusal) e = cc

-- ---- a level file of a kept backup that goes on from the one on which the standby rests is accepted

module _ (files : Files) (account : Account) (stands : Stands files account) (standby bytes : List ℕ) (r : Kept) (on : RestsOn files account.kept standby bytes r) (ship_plain : is_delta (ship_of standby) ≡ false) (looked : not_standby standby (files standby) ≡ None)
    (c : Contents) (read : read_in files (ship_of standby) ≡ Ok c) (goes_on : c.head.previous ≡ guid_of bytes) (q : Kept) (named : IsKeptAs account.kept c.head.guid q) where
  abbrev ship : List ℕ
  ship = ship_of standby

  record IsLevelThere : Type 0 where
    level : List ℕ
    there : files ship ≡ Some level
    is : read_level level ≡ Ok c

  level_there : IsLevelThere
  level_there = by (files ship) refl
    where
      by : (file : File) → files ship ≡ file → IsLevelThere
      by None none = absurd (err_not_ok no_bytes.0 c (read_in files ship) (ap (λ (f : File). read_level (bytes_of f)) none ∙ no_bytes.1) read)
      by (Some level) there = record { level = level; there = there; is = ap (λ (f : File). read_level (bytes_of f)) (sym there) ∙ read }

  some : c.head.previous ≢ nil
  some none = stands.kept_records.not_nil r on.kept_as.there (on.kept_as.named ∙ sym goes_on ∙ none)

  o : IsOfRecord account.kept q c
  o = of_record files account stands ship level_there.level c q ship_plain level_there.there level_there.is named some

  from_is : o.from ≡ r
  from_is = stands.kept_records.distinct o.from r o.there on.kept_as.there (sym o.previous ∙ goes_on ∙ sym on.kept_as.named)

  scn_is : c.head.previous_scn ≡ r.scn
  scn_is = o.scn ∙ ap (λ (k : Kept). k.scn) from_is

  size_is : c.head.size ≡ size_of bytes
  size_is = o.size ∙ o.leads.follows.size ∙ ap (λ (k : Kept). image_size k.image) from_is ∙ sym on.size

  next : not_next ship bytes c ≡ None
  unfolding not_next
  next =
      let standby_scn : c.head.previous_scn ≡ scn_of bytes - 1 = (let a = scn_is in let b = on.scn in omega (arith, a, b)) in
      no_cause _ _ (passes (same_name c.head.previous (guid_of bytes)) (ChainGuid ship c.head.previous (guid_of bytes)) (same_texts c.head.previous (guid_of bytes) goes_on))
      (no_cause _ _ (passes (c.head.size == size_of bytes) (ChainSize ship c.head.size (size_of bytes)) (eq-eqb c.head.size (size_of bytes) size_is))
      (no_cause _ _ (passes (c.head.previous_scn == scn_of bytes - 1) (ChainScn ship c.head.previous_scn (scn_of bytes - 1)) (eq-eqb c.head.previous_scn (scn_of bytes - 1) standby_scn))
      (no_cause _ _ (passes (is_read_only (image_in bytes)) (Access 0) on.ready.read_only)
      (no_cause _ _ unwritten no_causes))))
    where
      unwritten : written_since ship c.head.previous_scn (other_pages (image_in bytes)) ≡ None
      unwritten = ap (λ (n : ℕ). written_since ship n (other_pages (image_in bytes))) scn_is ∙ ap (written_since ship r.scn) on.pages ∙ unwritten_none ship r.scn (other_pages r.image) on.unwritten

  pub rests_accepts : in_place files standby ship ≡ Ok c
  rests_accepts =
      verdict_by files standby ship bytes level_there.level c on.ready.normal.there (ap (not_standby standby) (sym on.ready.normal.there) ∙ looked) level_there.there level_there.is
      ∙ ap (answered c) (mergeable_by bytes ship c ∙ ap (λ (n : ℕ). by_state (n == 3) bytes ship c) on.ready.normal.is ∙ next)

-- ---- the history of a neat primary

neat_unbroken : (image : Image) → IsNeat image → broken_at (pages_of History image) ≡ None
neat_unbroken image neat =
    let history = (subst (AllByRecursion (λ c. (ps : List ℕ) × (pages_of c image ≡ Ok ps))) (chains_are image) neat.formed).1.0 in
    ok_none (pages_of History image) history.0 history.1

-- ---- the plan

module _ (files : Files) (account : Account) (primary standby : List ℕ) (primary_plain : is_delta primary ≡ false) (ship_plain : is_delta (ship_of standby) ≡ false) (can : CanShip files account primary standby) (normal : not_normal can.base.image ≡ None) where
  abbrev image : Image
  image = can.base.image

  -- the history isn't broken
  unbroken : broken_at (pages_of History image) ≡ None
  unbroken = neat_unbroken image can.neat

  asked_none : (found : Found) → not_asked image found ≡ None
  asked_none (Next guid) = unbroken
  asked_none Nothing = refl
  asked_none Broken = refl
  asked_none Applied = refl
  asked_none (Pending guid) = refl

  planned_by : (look : Look) → look_at files standby ≡ Ok look → ship_plan files primary standby ≡ Ok (plan_by look (is_known image look.found))
  planned_by look looked = plan_made files primary standby can.base can.shows normal look looked (is_known image look.found) (asked_none look.found) refl

  -- from a standby that rests
  module _ (bytes : List ℕ) (r : Kept) (on : RestsOn files account.kept standby bytes r) (named : names_backup image (guid_of bytes) ≡ true) where
    abbrev look_of : Found → Look
    look_of found = record { guid = guid_of bytes; found = found }

    rests_with : (found : Found) → Finds files standby bytes found → BeginsWell files primary standby image
    rests_with found finds =
        let looked : look_at files standby ≡ Ok (look_of found) = what_stands_is_found files standby bytes found finds in
        record {
          plan = plan_by (look_of found) (is_known image found);
          is = planned_by (look_of found) looked;
          named = named_by found (is_known image found) refl finds;
          accepts = λ first. accepted_by found (is_known image found) refl first finds looked;
        }
      where
        named_by : (what : Found) (known : Bool) → known ≡ is_known image what → Finds files standby bytes what → names_backup image (since (guid_of bytes) what known) ≡ true
        named_by Nothing known is finds = named
        named_by Broken known is finds = named
        named_by Applied known is finds = named
        named_by (Next guid) true is finds = sym is
        named_by (Next guid) false is finds = named
        named_by (Pending guid) known is finds = absurd (let three = finds.0.is in let zero = on.ready.normal.is in omega (arith, three, zero))

        accepted_by : (what : Found) (known : Bool) → known ≡ is_known image what → first_step what known ≡ Apply → Finds files standby bytes what → look_at files standby ≡ Ok (look_of what) → (c : Contents) × (in_place files standby (ship_of standby) ≡ Ok c)
        accepted_by (Next guid) true is first finds looked =
            let c : Contents = finds.1.contents in
            let kept : (q : Kept) × IsKeptAs account.kept guid q = history_kept files account can.stands primary primary_plain can.base can.shows guid unbroken (sym is) in (
              c,
              rests_accepts files account can.stands standby bytes r on ship_plain (looked_standby files standby (look_of (Next guid)) looked) c finds.1.level.read finds.1.goes_on kept.0
                  (subst (λ (g : List ℕ). IsKeptAs account.kept g kept.0) (sym finds.1.named) kept.1),
            )
        accepted_by (Next guid) false is first finds looked = cc
        accepted_by (Pending guid) known is first finds looked = absurd (let three = finds.0.is in let zero = on.ready.normal.is in omega (arith, three, zero))
        accepted_by Nothing known is first finds looked = cc
        accepted_by Broken known is first finds looked = cc
        accepted_by Applied known is first finds looked = cc

  -- from one that is half way
  half_with : (half : List ℕ) (c : Contents) → IsMergeable files standby (ship_of standby) half c → state_of half ≡ applying_state → names_backup image c.head.guid ≡ true → BeginsWell files primary standby image
  half_with half c m three named = by its.for
    where
      its : IsAccepted files (ship_of standby) half c
      its = accepted files standby (ship_of standby) half c m

      by : IsFor (ship_of standby) half c → BeginsWell files primary standby image
      by (as_it_stands zero on) = absurd (omega (arith, three, zero))
      by (begun is same) =
          let look : Look = record { guid = guid_of half; found = Pending c.head.guid } in
          let looked : look_at files standby ≡ Ok look = what_stands_is_found files standby half (Pending c.head.guid) (
            record { there = m.there; formed = its.formed; is = three },
            record { contents = c; read = ap (λ (f : File). read_level (bytes_of f)) its.there ∙ its.read; named = refl; goes_on = sym same.previous; pending = same.pending },
          ) in
          record { plan = plan_by look (is_known image look.found); is = planned_by look looked; named = named; accepts = λ first. (c, m.accepted) }

  pub begins_well : BeginsWell files primary standby image
  begins_well = by can.waits
    where
      by : WaitsForMore files account.kept image standby → BeginsWell files primary standby image
      by (rests bytes r on named found finds) = rests_with bytes r on named found finds
      by (is_begun half c m three named) = half_with half c m three named

-- ---- where the merge was stopped

-- Half way, with the ship file as it was, and the primary as it was or further on, it goes on as well.
module _ (old files : Files) (standby bytes half : List ℕ) (c : Contents) (m : IsMergeable old standby (ship_of standby) bytes c) (is : IsHalf bytes c half) (here : files standby ≡ Some half) (same : files (ship_of standby) ≡ old (ship_of standby)) where
  pub half_waits : (kept : List Kept) (image : Image) → names_backup image c.head.guid ≡ true → WaitsForMore files kept image standby
  half_waits kept image named = is_begun half c (half_goes_on old files standby (ship_of standby) bytes half c m is here same) (half_state old standby (ship_of standby) bytes c m half is) named

-- ---- what gives it

found_there : (files : Files) (standby bytes : List ℕ) (found : Found) → Finds files standby bytes found → files standby ≡ Some bytes
found_there files standby bytes Nothing finds = finds.0.normal.there
found_there files standby bytes Broken finds = finds.0.normal.there
found_there files standby bytes Applied finds = finds.0.normal.there
found_there files standby bytes (Next guid) finds = finds.0.normal.there
found_there files standby bytes (Pending guid) finds = finds.0.there

-- where a look refuses nothing, and the standby rests on a backup that the history names
pub rests_wait : (files : Files) (kept : List Kept) (image : Image) (standby bytes : List ℕ) (r : Kept) (look : Look) → RestsOn files kept standby bytes r → names_backup image (guid_of bytes) ≡ true → look_at files standby ≡ Ok look
    → WaitsForMore files kept image standby
rests_wait files kept image standby bytes r look on named looked =
    let found = what_is_found files standby look looked in
    let same : found.0 ≡ bytes = some_same found.0 bytes (sym (found_there files standby found.0 look.found found.2) ∙ on.ready.normal.there) in
    rests bytes r on named look.found (subst (λ (l : List ℕ). Finds files standby l look.found) same found.2)

-- ---- the copy

-- a database is no free name
base_used : (b : Base) → is_free_entry (IsBase b) ≡ false
unfolding is_free_entry
base_used b = refl

-- nothing said, no reply
no_replies : (rs : List (ℕ × Reply)) → text_of rs ≡ [] → status_of rs ≡ 0
unfolding text_of status_of
no_replies [] none = refl
no_replies (r ∷ rs) none = let long = ap length none in absurd (omega (arith, long, line-some r.0 r.1, length-append (line_text r.0 r.1) (text_of rs)))

zero_done : (status : Status) → number_of status ≡ 0 → status ≡ Done
zero_done Done is = refl
zero_done RefusedStatus is = absurd (omega (arith, is))
zero_done UsageStatus is = absurd (omega (arith, is))
zero_done Device is = absurd (omega (arith, is))
zero_done Memory is = absurd (omega (arith, is))

module _ (s : Seen) (ship : List ℕ) (writable : is_read_only s.base.image ≡ false) (normal : image_state s.base.image ≡ normal_state) (free : is_free_entry (s.entry ship) ≡ true) (neat : IsNeat s.base.image) (room : HasRoomFor s.base.image) where
  no_cause_at_all : start_cause s ship None ≡ None
  no_cause_at_all =
      no_cause _ _ (ap (λ (t : Bool). when t (Access 1)) writable)
      (no_cause _ _ (passes (image_state s.base.image == normal_state) (WrongState (image_state s.base.image)) (eq-eqb (image_state s.base.image) normal_state normal))
      (no_cause _ _ (passes (is_free_entry (s.entry ship)) (FileExists ship) free)
      (no_cause _ _ (neat_unbroken s.base.image neat)
      (no_cause _ _ refl
      (no_cause _ _ room.long
      (no_cause _ _ room.formed
      (no_cause _ _ (ap (λ (t : Bool). when t (Full most_pages)) room.left)
      (no_cause _ _ (ap (λ (t : Bool). when t (ScnExhausted (image_scn s.base.image))) (le-ltb 4294967293 (image_scn s.base.image) room.scn)) no_causes))))))))

module _ {H : Type 0} (world : H → World) (tells : Bool) (told : IsTrue tells) (timely : (host : H) → IsTimely (world host)) (beside : (host : H) → LeavesAll (world host) (world host).files)
    (primary standby : List ℕ) (fits : is_database primary ≡ true) (given : is_database standby ≡ true) (since : List ℕ) (old mid : H) (status : Status) (goes : GoesOn world tells (Ok status) old mid (copying primary since (ship_of standby)))
    (account : Account) (stands : StandsFor (world old) account) (names : HaveNames (world old).files) (b : Base) (shows : ShowsIn primary b (world old).files) (normal : not_normal b.image ≡ None) (writable : is_read_only b.image ≡ false)
    (neat : IsNeat b.image) (room : HasRoomFor b.image) (named : names_backup b.image since ≡ true) (free : is_free_name (world old).files (ship_of standby) ≡ true) (device : status ≢ Device) (memory : status ≢ Memory) where
  in_normal : image_state b.image ≡ normal_state
  in_normal = eqb-true (image_state b.image) 0 (is_so (image_state b.image == normal_state) (WrongState (image_state b.image)) normal)

  ship_free : is_free_entry (account.entry (ship_of standby)) ≡ true
  ship_free = sym (free_known (world old).files account names stands.now (ship_of standby) (plain_file (ship_of standby) (ship_file standby given))) ∙ free

  here : account.entry primary ≡ IsBase b
  here = stands.now.same_image primary (plain_database primary fits) ∙ shown_entry (world old).files primary b shows

  ship_other : ship_of standby ≢ primary
  ship_other same = true≢false (sym ship_free ∙ ap (λ (n : List ℕ). is_free_entry (account.entry n)) same ∙ ap is_free_entry here ∙ base_used b)

  module _ (small : image_scn b.image < 4294967296) where
    abbrev reopens : IsReopened account (copy_given world tells told timely beside primary standby fits given since old mid (Ok status) goes account stands names b shows nil refl) (plan_of primary (asks_of (BackupSince since (ship_of standby)))).sessions 1 primary usual_cache b
        (opening account (copy_given world tells told timely beside primary standby fits given since old mid (Ok status) goes account stands names b shows nil refl) (plan_of primary (asks_of (BackupSince since (ship_of standby)))).sessions 1 (OpenDb primary usual_cache))
    reopens = again world tells told timely beside primary standby fits given since old mid (Ok status) goes account stands names b shows nil refl

    entry_now : reopens.now.account.entry (ship_of standby) ≡ account.entry (ship_of standby)
    entry_now = ap (λ (a : Account). a.entry (ship_of standby)) reopens.account_is ∙ reopens.others (ship_of standby) ship_other

    ends_done : status ≡ Done
    ends_done =
        let none = no_cause_at_all (seen_now reopens.now) (ship_of standby) (subst (λ (x : Base). is_read_only x.image ≡ false) (sym reopens.base) writable) (subst (λ (x : Base). image_state x.image ≡ normal_state) (sym reopens.base) in_normal)
        (ap is_free_entry entry_now ∙ ship_free) (subst (λ (x : Base). IsNeat x.image) (sym reopens.base) neat) (subst (λ (x : Base). HasRoomFor x.image) (sym reopens.base) room) in
        let backed = copy_allowed world tells told timely beside primary standby fits given since old mid (Ok status) goes account stands names b shows nil refl small named none in
        let quiet = copy_untold world tells told timely beside primary standby fits given since old mid (Ok status) goes account stands names b shows nil refl small backed in
        let performs = copy_performs world tells told timely beside primary standby fits given since old mid (Ok status) goes account stands names b shows nil refl in
        zero_done status ((performs.finished device memory).ended ∙ no_replies (replies_of performs.events) quiet)

  pub copy_is_done : status ≡ Done
  copy_is_done = elim (copy_opened world tells told timely beside primary standby fits given since old mid (Ok status) goes account stands names b shows nil refl) [
    | inl small ↦ ends_done small
    | inr none ↦ absurd none
  ]

-- ---- the level file that was copied

-- a level file that is accepted in a chain is read
link_read : (k : ℕ) (last : Link) (name bytes : List ℕ) (link : Link) → next_link k last name bytes ≡ Ok link → (c : Contents) × (read_level bytes ≡ Ok c)
unfolding next_link
link_read k last name bytes link ok = of_begin (begins_level bytes) ok
  where
    of_read : (read : Result Contents ℕ) → read_level bytes ≡ read
        → elim read as (λ z. Result Link Refusal) [
          | Err at ↦ Err (BadLevel name at)
          | Ok c ↦ elim (not_behind k last name c) as (λ z. Result Link Refusal) [ Some refusal ↦ Err refusal | None ↦ Ok (level_link c) ]
        ] ≡ Ok link → (c : Contents) × (read_level bytes ≡ Ok c)
    of_read (Err at) is e = cc
    of_read (Ok c) is e = (c, is)

    none_begins : (t : Bool) → elim t as (λ z. Result Link Refusal) [ true ↦ Err (ChainLevel name 0 k) | false ↦ Err (BadLevel name 0) ] ≡ Ok link → (c : Contents) × (read_level bytes ≡ Ok c)
    none_begins true e = cc
    none_begins false e = cc

    of_begin : (t : Bool) → elim t as (λ z. Result Link Refusal) [
      | false ↦ elim (number_in 16 4 bytes == signature) as (λ z. Result Link Refusal) [ true ↦ Err (ChainLevel name 0 k) | false ↦ Err (BadLevel name 0) ]
      | true ↦ elim (read_level bytes) as (λ z. Result Link Refusal) [
        | Err at ↦ Err (BadLevel name at)
        | Ok c ↦ elim (not_behind k last name c) as (λ z. Result Link Refusal) [ Some refusal ↦ Err refusal | None ↦ Ok (level_link c) ]
      ]
    ] ≡ Ok link → (c : Contents) × (read_level bytes ≡ Ok c)
    of_begin true e = of_read (read_level bytes) refl e
    of_begin false e = none_begins (number_in 16 4 bytes == signature) e

module _ (old new : World) (account : Account) (primary standby since bytes : List ℕ) (copy : BacksUp old new account primary since (ship_of standby)) (ship_plain : is_delta (ship_of standby) ≡ false)
    (r : Kept) (on : RestsOn new.files copy.after.kept standby bytes r) (same : guid_of bytes ≡ since) (looked : not_standby standby (new.files standby) ≡ None) where
  abbrev q : Kept
  q = copy.backup

  abbrev asked : Ask
  asked = copy.goes_on.0

  q_kept : Contains copy.after.kept q
  q_kept = subst (λ (ks : List Kept). Contains ks q) (sym copy.kept) (Contains-append_right account.kept (q ∷ []) q (0, omega arith, refl))

  q_begun : IsBegun q
  q_begun = copy.stands.now.sound_images.records q q_kept

  q_sound : IsSoundImage q.image
  q_sound = copy.stands.now.sound_images.images q.image (to_record q q_kept refl)

  previous_is : asked.previous ≡ guid_of bytes
  previous_is = copy.goes_on.2 ∙ sym same

  from : GoesOnFrom copy.after.kept q asked
  from = copy.stands.now.history.records q asked q_kept copy.goes_on.1 (λ none. copy.stands.now.kept_records.not_nil r on.kept_as.there (on.kept_as.named ∙ sym previous_is ∙ none))

  long : length asked.previous ≡ 16
  long = ap length (sym from.kept_as.named) ∙ guid_long from.parent (copy.stands.now.sound_images.records from.parent from.kept_as.there)

  head : IsHead (head_for q asked)
  head = record {
    level = and_from (nat_le 1 asked.level) (nat_le asked.level 9) (le-leb 1 asked.level copy.level.0) (le-leb asked.level 9 copy.level.1);
    guid = guid_long q q_begun;
    previous = long;
    size = header-size (first_page q.image) q_begun.header;
    scn = let room = header-room (first_page q.image) q_begun.header q_begun.state in let begun_scn = q_begun.scn in omega (arith, room, begun_scn);
    later = let scn = from.scn in let earlier = from.earlier in omega (arith, scn, earlier);
  }

  next_is : IsKeptNext asked.level 102 from.parent q asked
  next_is = record {
    known = refl;
    asked = copy.goes_on.1;
    level = refl;
    some = copy.level.0;
    guid = sym from.kept_as.named;
    scn = sym from.scn;
    later = from.earlier;
    head = head;
    whole = q_sound;
    begun = q_begun;
    follows = from.follows;
  }

  abbrev link : Link
  link = record { guid = from.parent.guid; scn = from.parent.scn; size = image_size from.parent.image; pages = [] }

  its_read : (c : Contents) × (read_level (file_of 102 q) ≡ Ok c)
  its_read = link_read asked.level link (ship_of standby) (file_of 102 q) _ (kept_accepted asked.level 102 from.parent link (ship_of standby) q asked refl refl refl next_is)

  pub copied_accepts : (c : Contents) × (in_place new.files standby (ship_of standby) ≡ Ok c)
  copied_accepts =
      let c : Contents = its_read.0 in
      let head_of = head_is new.files copy.after copy.stands.now q q_kept from.parent from.kept_as.there asked copy.goes_on.1 (sym from.kept_as.named) (file_of 102 q) refl c its_read.1 in (
        c,
        rests_accepts new.files copy.after copy.stands.now standby bytes r on ship_plain looked c (ap (λ (f : File). read_level (bytes_of f)) copy.file.reads ∙ its_read.1) (head_of.goes_on ∙ previous_is) q
            (record { there = q_kept; named = sym head_of.guid }),
      )
