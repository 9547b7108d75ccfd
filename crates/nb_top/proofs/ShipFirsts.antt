-- What a ship's plan says of the files before its first step: the primary is another file than the ship file, what is removed is no database, and what is
-- merged is of a kept backup.
use Rattle.std.proofs.Common.{◌≡◌, ◌≢◌, ◌⊎◌, inl, inr, ℕ, List, true, false, refl, sym, ap, subst, ◌∙◌, arith, Bool, ◌||◌, not, is_some, Option, Some, None, Result, Ok, Err}
use Rattle.nb_top.proofs.Common.{true≢false, is_header, state_of, applying_state, File, Files, bytes_of, is_delta, Refusal, Base, IsBase, Account, Kept, Cause, Contents, read_level, delta_name, owner, has_main, formed_header, Stands, IsKeptAs, to_base, IsMergeable, TakesKept, ShowsIn, has_delta, is_free_name, is_free_file, some_same, ok_same, same_name, and_parts, err_ok}
use Rattle.nb_fields.specs.Header.{guid_of, pending_of}
use Rattle.nb_inplace.proofs.VerdictLaws.{IsAccepted, IsFor, accepted, as_it_stands, begun}
use Rattle.nb_model.specs.Causes.{broken_at}
use Rattle.nb_model.specs.Chains.{History, Slot, Spot, backup_spot, guid_in, pages_of}
use Rattle.nb_model.specs.Stands.{GoesOn, IsRemembered, NamesPast}
use Rattle.nb_model.proofs.BackupWell.{backup_found, chain_rows}
use Rattle.nb_ship.specs.Finds.{Finds, HoldsNext}
use Rattle.nb_ship.specs.Looks.{is_foreign, look_at, read_in}
use Rattle.nb_ship.specs.Names.{ship_of}
use Rattle.nb_ship.specs.Steps.{first_step}
use Rattle.nb_ship.specs.declared.found.Found.{Found}
use Rattle.nb_ship.specs.declared.found.Found.TheVariants.{Applied, Broken, Next, Nothing, Pending}
use Rattle.nb_ship.specs.declared.found.Look.{Look}
use Rattle.nb_ship.specs.declared.steps.Step.TheVariants.{Apply, Discard}
use Rattle.nb_ship.proofs.FindsLaws.{what_is_found}
use Rattle.nb_top.specs.declared.ship_plan.ShipPlan.{ShipPlan}
use Rattle.nb_top.specs.ShipDone.{HasStandby}
use Rattle.nb_top.specs.Shipping.{after_look, is_known, names_backup, not_asked, not_normal, plan_by, plan_with, ship_plan}
use Rattle.nb_top.proofs.OpenLaws.{shown_entry}
use Rattle.nb_top.proofs.ShipCopies.{row_named}
use Rattle.nb_top.proofs.ShipStands.{level_unheaded}
use Rattle.nb_top.proofs.SureFiles.{opens_in_use}

-- the bytes of a file that isn't there are none
bytes_there : (file : File) (c : Contents) → read_level (bytes_of file) ≡ Ok c → is_header (bytes_of file) ≡ false
bytes_there file c read = level_unheaded (bytes_of file) c read

-- A backup that the history of a database names is kept.
pub history_kept : (files : Files) (account : Account) → Stands files account → (name : List ℕ) → is_delta name ≡ false → (b : Base) → ShowsIn name b files → (guid : List ℕ) → broken_at (pages_of History b.image) ≡ None
    → names_backup b.image guid ≡ true → (r : Kept) × IsKeptAs account.kept guid r
history_kept files account stands name plain b shows guid unbroken named = by (backup_spot (λ (slot : Slot). same_name (guid_in slot) guid) b.image) refl named
  where
    entry : account.entry name ≡ IsBase b
    entry = stands.same_image name plain ∙ shown_entry files name b shows

    by : (spot : Option Spot) → backup_spot (λ (slot : Slot). same_name (guid_in slot) guid) b.image ≡ spot → is_some spot ≡ true → (r : Kept) × IsKeptAs account.kept guid r
    by None is some = absurd (true≢false (sym some))
    by (Some row) is some =
        let past : NamesPast account.kept (λ (r : Kept). GoesOn r b.image) b.image = stands.history.images b.image (to_base name b entry refl) in
        let remembered : IsRemembered account.kept (λ (r : Kept). GoesOn r b.image) row.bytes =
        backup_found (IsRemembered account.kept (λ (r : Kept). GoesOn r b.image)) (λ (slot : Slot). same_name (guid_in slot) guid) b.image row unbroken is (chain_rows account.kept (λ (r : Kept). GoesOn r b.image) b.image past) in
        (remembered.backup, subst (λ (g : List ℕ). IsKeptAs account.kept g remembered.backup) (row_named b.image guid row is) remembered.kept_as)

-- What a plan is made of.
pub record IsPlanned (files : Files) (primary standby : List ℕ) (plan : ShipPlan) : Type 0 where
  pub base : Base
  pub shows : ShowsIn primary base files
  pub normal : not_normal base.image ≡ None
  pub look : Look
  pub looked : look_at files standby ≡ Ok look
  pub asked : not_asked base.image look.found ≡ None
  pub is : plan ≡ plan_by look (is_known base.image look.found)

module _ (files : Files) (primary standby : List ℕ) (plan : ShipPlan) where
  abbrev by_owner : Result Base Refusal → Result ShipPlan Refusal
  by_owner answer = elim answer as (λ z. Result ShipPlan Refusal) [ Err refusal ↦ Err refusal | Ok b ↦ plan_with b.image (look_at files standby) ]

  plan_unfolds : ship_plan files primary standby ≡ by_owner (owner primary (files primary) (files (delta_name primary)))
  unfolding ship_plan
  plan_unfolds = refl

  never : {P : Type 0} (refusal : Refusal) → Err refusal ≡ Ok plan → P
  never refusal e = absurd (err_ok {E = Refusal} {T = ShipPlan} refusal plan e)

  pub planned : ship_plan files primary standby ≡ Ok plan → IsPlanned files primary standby plan
  planned ok = of_owner (owner primary (files primary) (files (delta_name primary))) refl (sym plan_unfolds ∙ ok)
    where
      of_history : (b : Base) → ShowsIn primary b files → not_normal b.image ≡ None → (look : Look) → look_at files standby ≡ Ok look → (cause : Cause) → not_asked b.image look.found ≡ cause
          → elim cause as (λ z. Result ShipPlan Refusal) [ Some refusal ↦ Err refusal | None ↦ Ok (plan_by look (is_known b.image look.found)) ] ≡ Ok plan → IsPlanned files primary standby plan
      of_history b shows normal look looked (Some refusal) asked e = never refusal e
      of_history b shows normal look looked None asked e =
          record { base = b; shows = shows; normal = normal; look = look; looked = looked; asked = asked; is = ok_same plan (plan_by look (is_known b.image look.found)) (Ok plan) refl (sym e) }

      of_look : (b : Base) → ShowsIn primary b files → not_normal b.image ≡ None → (looked : Result Look Refusal) → look_at files standby ≡ looked
          → elim looked as (λ z. Result ShipPlan Refusal) [ Err refusal ↦ Err refusal | Ok look ↦ after_look b.image look ] ≡ Ok plan → IsPlanned files primary standby plan
      of_look b shows normal (Err refusal) is e = never refusal e
      of_look b shows normal (Ok look) is e = of_history b shows normal look is (not_asked b.image look.found) refl e

      of_state : (b : Base) → ShowsIn primary b files → (cause : Cause) → not_normal b.image ≡ cause
          → elim cause as (λ z. Result ShipPlan Refusal) [ Some refusal ↦ Err refusal | None ↦ elim (look_at files standby) as (λ z. Result ShipPlan Refusal) [ Err refusal ↦ Err refusal | Ok look ↦ after_look b.image look ] ] ≡ Ok plan
          → IsPlanned files primary standby plan
      of_state b shows (Some refusal) is e = never refusal e
      of_state b shows None is e = of_look b shows is (look_at files standby) refl e

      of_owner : (answer : Result Base Refusal) → owner primary (files primary) (files (delta_name primary)) ≡ answer → by_owner answer ≡ Ok plan → IsPlanned files primary standby plan
      of_owner (Err refusal) is e = never refusal e
      of_owner (Ok b) is e = of_state b is (not_normal b.image) refl e

module _ (files : Files) (primary standby : List ℕ) (plan : ShipPlan) (its : IsPlanned files primary standby plan) where
  abbrev ship : List ℕ
  ship = ship_of standby

  abbrev look : Look
  look = its.look

  abbrev found : (bytes : List ℕ) × (look.guid ≡ guid_of bytes) × Finds files standby bytes look.found
  found = what_is_found files standby look its.looked

  -- what stands under the ship file's name is free, or no database
  unheaded_by : (what : Found) → Finds files standby found.0 what → (is_free_name files ship ≡ true) ⊎ (is_header (bytes_of (files ship)) ≡ false)
  unfolding is_foreign
  unheaded_by Nothing finds = inl finds.1
  unheaded_by Broken finds = inr (first_false (is_header (bytes_of (files ship))) (has_delta files ship) finds.1.own)
    where
      first_false : (a b : Bool) → (a || b) ≡ false → a ≡ false
      first_false true b e = absurd (true≢false e)
      first_false false b e = refl
  unheaded_by Applied finds = inr (bytes_there (files ship) finds.1.contents finds.1.level.read)
  unheaded_by (Next guid) finds = inr (bytes_there (files ship) finds.1.contents finds.1.level.read)
  unheaded_by (Pending guid) finds = inr (bytes_there (files ship) finds.1.contents finds.1.read)

  primary_headed : is_header (bytes_of (files primary)) ≡ true
  primary_headed =
      let main = has_main primary its.base (files primary) (files (delta_name primary)) its.shows in
      ap (λ (f : File). is_header (bytes_of f)) main.there ∙ formed_header main.bytes main.formed

  free_file : is_free_name files primary ≡ true → is_free_file (files primary) ≡ true
  unfolding is_free_name
  free_file free = (and_parts (is_free_file (files primary)) (not (has_delta files primary)) free).0

  pub primary_apart : primary ≢ ship
  primary_apart same = elim (unheaded_by look.found found.2) [
    | inl free ↦ opens_in_use primary (files primary) (files (delta_name primary)) its.base its.shows (free_file (sym (ap (is_free_name files) (sym same)) ∙ free))
    | inr none ↦ true≢false (sym primary_headed ∙ ap (λ (n : List ℕ). is_header (bytes_of (files n))) same ∙ none)
  ]

  -- what is removed first
  pub removed_unheaded : plan.first ≡ Discard → is_header (bytes_of (files ship)) ≡ false
  removed_unheaded first = by look.found (is_known its.base.image look.found) (ap (λ (p : ShipPlan). p.first) (sym its.is) ∙ first) found.2
    where
      by : (what : Found) (known : Bool) → first_step what known ≡ Discard → Finds files standby found.0 what → is_header (bytes_of (files ship)) ≡ false
      by Nothing known e finds = cc
      by Broken known e finds = elim (unheaded_by Broken finds) [ inl free ↦ absurd (true≢false (sym free ∙ finds.1.used)) | inr none ↦ none ]
      by Applied known e finds = bytes_there (files ship) finds.1.contents finds.1.level.read
      by (Next guid) known e finds = bytes_there (files ship) finds.1.contents finds.1.level.read
      by (Pending guid) known e finds = cc

  -- what is merged first
  module _ (account : Account) (stands : Stands files account) (primary_plain : is_delta primary ≡ false) (standing : HasStandby files account.kept standby) where
    -- a backup that the history of the primary names is kept
    named_kept : (guid : List ℕ) → broken_at (pages_of History its.base.image) ≡ None → names_backup its.base.image guid ≡ true → (r : Kept) × IsKeptAs account.kept guid r
    named_kept guid unbroken named = history_kept files account stands primary primary_plain its.base its.shows guid unbroken named

    module _ (bytes : List ℕ) (c : Contents) (m : IsMergeable files standby ship bytes c) where
      abbrev accepts : IsAccepted files ship bytes c
      accepts = accepted files standby ship bytes c m

      ship_reads : read_in files ship ≡ Ok c
      ship_reads = ap (λ (f : File). read_level (bytes_of f)) accepts.there ∙ accepts.read

      -- its merge was begun
      takes_pending : state_of bytes ≡ applying_state → TakesKept account.kept bytes c
      takes_pending three =
          let begun_of : (r : Kept) × IsKeptAs account.kept (pending_of bytes) r = (standing bytes m.there).begun three in
          record {
            backup = begun_of.0;
            kept_as = subst (λ (g : List ℕ). IsKeptAs account.kept g begun_of.0) (by accepts.for) begun_of.1;
            restored = (standing bytes m.there).restored;
          }
        where
          by : IsFor ship bytes c → pending_of bytes ≡ c.head.guid
          by (as_it_stands zero on) = absurd (omega (arith, three, zero))
          by (begun is same) = same.pending

      takes_next : (guid : List ℕ) → HoldsNext files standby found.0 guid → broken_at (pages_of History its.base.image) ≡ None → names_backup its.base.image guid ≡ true → TakesKept account.kept bytes c
      takes_next guid holds unbroken named =
          let same : holds.contents ≡ c = ok_same holds.contents c (read_in files ship) holds.level.read ship_reads in
          let guid_is : guid ≡ c.head.guid = sym holds.named ∙ ap (λ (d : Contents). d.head.guid) same in
          let kept_of : (r : Kept) × IsKeptAs account.kept guid r = named_kept guid unbroken named in
          record {
            backup = kept_of.0;
            kept_as = subst (λ (g : List ℕ). IsKeptAs account.kept g kept_of.0) guid_is kept_of.1;
            restored = (standing bytes m.there).restored;
          }

      takes_by : (what : Found) (known : Bool) → known ≡ is_known its.base.image what → not_asked its.base.image what ≡ None → first_step what known ≡ Apply → Finds files standby found.0 what → TakesKept account.kept bytes c
      takes_by (Next guid) true known asked e finds = takes_next guid finds.1 asked (sym known)
      takes_by (Next guid) false known asked e finds = cc
      takes_by (Pending guid) known is asked e finds =
          takes_pending (subst (λ (l : List ℕ). state_of l ≡ applying_state) (some_same found.0 bytes (sym finds.0.there ∙ m.there)) finds.0.is)
      takes_by Nothing known is asked e finds = cc
      takes_by Broken known is asked e finds = cc
      takes_by Applied known is asked e finds = cc

      -- the backup of the ship file
      own_by : (what : Found) (known : Bool) → known ≡ is_known its.base.image what → first_step what known ≡ Apply → Finds files standby found.0 what
          → ((state_of bytes ≡ applying_state) × (pending_of bytes ≡ c.head.guid)) ⊎ (names_backup its.base.image c.head.guid ≡ true)
      own_by (Next guid) true known e finds =
          let same : finds.1.contents ≡ c = ok_same finds.1.contents c (read_in files ship) finds.1.level.read ship_reads in
          inr (ap (names_backup its.base.image) (sym (sym finds.1.named ∙ ap (λ (d : Contents). d.head.guid) same)) ∙ sym known)
      own_by (Next guid) false known e finds = cc
      own_by (Pending guid) known is e finds =
          let three : state_of bytes ≡ applying_state = subst (λ (l : List ℕ). state_of l ≡ applying_state) (some_same found.0 bytes (sym finds.0.there ∙ m.there)) finds.0.is in
          inl (three, pending_is three accepts.for)
        where
          pending_is : state_of bytes ≡ applying_state → IsFor ship bytes c → pending_of bytes ≡ c.head.guid
          pending_is three (as_it_stands zero on) = absurd (omega (arith, three, zero))
          pending_is three (begun is same) = same.pending
      own_by Nothing known is e finds = cc
      own_by Broken known is e finds = cc
      own_by Applied known is e finds = cc

      pub first_own : plan.first ≡ Apply → ((state_of bytes ≡ applying_state) × (pending_of bytes ≡ c.head.guid)) ⊎ (names_backup its.base.image c.head.guid ≡ true)
      first_own first = own_by look.found (is_known its.base.image look.found) refl (ap (λ (p : ShipPlan). p.first) (sym its.is) ∙ first) found.2

      pub first_takes : plan.first ≡ Apply → TakesKept account.kept bytes c
      first_takes first = takes_by look.found (is_known its.base.image look.found) refl its.asked (ap (λ (p : ShipPlan). p.first) (sym its.is) ∙ first) found.2
