-- A merge in place that was stopped is finished by the same file.
use Rattle.std.proofs.Common.{true≢false, ◌≡◌, ◌≢◌, ◌⊎◌, inl, inr, ⊎_elim, ℕ, List, [], ◌∷◌, ◌++◌, length, true, false, refl, sym, ap, subst, ◌∙◌, arith, length-append, Bool, IsTrue, Some, None, Result, Err}
use Rattle.nb_top.proofs.Common.{Files, File, World, Leaves, IsTimely, AtEachMoment, apply_turn, delta_name, delta_suffix, owner, weaker, Deed, Foretells, Reply, Pages, Account, Image, image_in, Contents, Given, Event, output, status_of, replies_of, output_one, status_one, line_text, merged, foretold_itself, formed_header, is_header, Refusal, NoFile, bytes_of, base_of, in_place, in_place_of, not_standby, IsMergeable, DoesTurn, IsAsWas, IsOnItsWay, OneTurn, Read, TurnLeft, TurnEnded, Was, leaves_all, merging, one_turn, account_of, Does, Status, Done, number_of, ok_same, some_same}
use Rattle.nb_host.specs.Crash.{IsDurable}
use Rattle.nb_ended.specs.declared.status.Status.TheVariants.{Refused, Usage, Device, Memory}
use Rattle.nb_inplace.specs.Apply.{IsHalfIn, base_with}
use Rattle.nb_inplace.specs.Half.{IsHalf}
use Rattle.nb_inplace.proofs.AgainLaws.{half_goes_on}
use Rattle.nb_inplace.proofs.HalfLaws.{half_gives, half_on}
use Rattle.nb_inplace.proofs.VerdictLaws.{IsAccepted, accepted}
use Rattle.nb_model.proofs.StandsLaws.{header_no_level}
use Rattle.nb_model.specs.Trail.{ShowsIn}
use Rattle.nb_model.specs.declared.job.Deed.TheVariants.{Apply}
use Rattle.nb_top.specs.Goes.{IsRun}
use Rattle.nb_top.specs.Stopped.{IsOnWay, IsMergedIn, FinishesMerge, KeepsMerged}
use Rattle.nb_top.specs.Worlds.{StartsFrom}
use Rattle.nb_top.proofs.MergedAlready.{merged_refuses}
use Rattle.nb_top.proofs.MergeTurns.{MergeTurn, refuses, merges, done_turn, merged_turn, turn_is as turn_is_one}

-- What a run does of a job of one turn, where the account knows what the job asks for.
pub turn_of_run : {H : Type 0} (world : H → World) (tells : Bool) → IsTrue tells → (status : Status) (old new : H) (deed : Deed) (account : Account) → (one_turn (world old).files deed).knows account
    → IsRun world tells status old new (Does deed) → DoesTurn status (world old) (world new) (one_turn (world old).files deed) account
turn_of_run world tells told status old new deed account knows run =
    let grows = run.grows account told knows in
    let does = run.does told in
    let given : Given = record { guids = grows.ids; times = grows.clock; holds = does.0 } in
    let foretold : Foretells given does.0 (world old) (world new) = foretold_itself (world old) (world new) does.0 grows in
    (does.1 account given knows grows.sixteen foretold).whole

-- a crash leaves of that file what reads
abbrev pub IsStill : World → List ℕ → Type 0
IsStill w n = (file : File) → Leaves w n file → file ≡ w.files n

-- so it is of one that is durable
pub durable_left : (w : World) (n : List ℕ) → IsDurable w n (w.files n) → IsStill w n
durable_left w n durable file left = ⊎_elim (durable.none_back file) (durable.only file) left

-- the status of the number 0
done_is : (status : Status) → number_of status ≡ 0 → status ≡ Done
done_is Done is = refl
done_is Refused is = absurd (omega (arith, is))
done_is Usage is = absurd (omega (arith, is))
done_is Device is = absurd (omega (arith, is))
done_is Memory is = absurd (omega (arith, is))

-- the verdict on a merge is that of its two files
abbrev of_two : (db name : List ℕ) (standby level : File) → Result Contents Refusal
of_two db name standby level = elim (not_standby db standby) [
  | Some refusal ↦ Err refusal
  | None ↦ elim level [ None ↦ Err (NoFile name) | Some bytes ↦ in_place_of (bytes_of standby) name bytes ]
]

in_place_two : (files : Files) (db name : List ℕ) → in_place files db name ≡ of_two db name (files db) (files name)
unfolding in_place
in_place_two files db name = refl

in_place_same : (files start : Files) (db name : List ℕ) → files db ≡ start db → files name ≡ start name → in_place files db name ≡ in_place start db name
in_place_same files start db name own level = in_place_two files db name ∙ ap (λ (m : File). of_two db name m (files name)) own ∙ ap (of_two db name (start db)) level ∙ sym (in_place_two start db name)

-- The merge isn't done: the level file reads as it did at the start, and the standby has these bytes still or is half way.
pub record IsUnmerged (start : Files) (db name bytes : List ℕ) (c : Contents) (files : Files) : Type 0 where
  pub level : files name ≡ start name
  pub standby : (files db ≡ Some bytes) ⊎ IsHalfIn db bytes c files

-- The merge of what the level file held at the start into a standby of these bytes.
module _ (start : Files) (db name bytes : List ℕ) (c : Contents) (m : IsMergeable start db name bytes c) where
  abbrev its : IsAccepted start name bytes c
  its = accepted start db name bytes c m

  -- the level file isn't the standby
  apart : name ≢ db
  apart same = header_no_level its.level c (subst (λ (f : List ℕ). is_header f ≡ true) (some_same bytes its.level (sym m.there ∙ ap start (sym same) ∙ its.there)) (formed_header bytes its.formed)) its.read

  -- what is merged next into a standby that isn't merged yet
  record GoesOn (files : Files) : Type 0 where
    now : List ℕ
    mergeable : IsMergeable files db name now c
    same : merged c.pages (image_in now) ≡ merged c.pages (image_in bytes)
    half : (further : List ℕ) → IsHalf now c further → IsHalf bytes c further

  goes_on : (files : Files) → IsUnmerged start db name bytes c files → GoesOn files
  goes_on files un = by un.standby
    where
      by : (files db ≡ Some bytes) ⊎ IsHalfIn db bytes c files → GoesOn files
      by (inl there) = record { now = bytes; mergeable = record { there = there; accepted = in_place_same files start db name (there ∙ sym m.there) un.level ∙ m.accepted }; same = refl; half = λ further h. h }
      by (inr half) = record {
        now = half.half;
        mergeable = half_goes_on start files db name bytes half.half c m half.is half.there un.level;
        same = half_gives start db name bytes c m half.half half.is;
        half = λ further h. half_on start db name bytes c m half.half half.is further h;
      }

  -- One run.
  module _ (status : Status) (old new : World) (account : Account) (does : DoesTurn status old new (merging old.files db name) account) (un : IsUnmerged start db name bytes c old.files) where
    abbrev on : GoesOn old.files
    on = goes_on old.files un

    abbrev job : OneTurn
    job = merging old.files db name

    turn_is : job.turn account ≡ merged_turn on.now c
    turn_is = done_turn old.files db name on.now c on.mergeable

    not_idle : leaves_all (job.turn account) ≡ false
    not_idle = ap leaves_all turn_is

    merged_in : (files : Files) → job.done files → IsMergedIn db bytes c files
    merged_in files done =
        let here = some_same done.0 on.now (sym done.2.there ∙ on.mergeable.there) in
        let read = ok_same done.1 c (in_place old.files db name) done.2.accepted on.mergeable.accepted in
        subst (λ (i : Image). ShowsIn db (base_of i) files) on.same
        (subst (λ (d : Contents). ShowsIn db (base_with on.now d) files) read (subst (λ (l : List ℕ). ShowsIn db (base_with l done.1) files) here done.3.shows))

    half_in : (files : Files) → job.half files → IsHalfIn db bytes c files
    half_in files half =
        let here = some_same half.0 on.now (sym half.2.there ∙ on.mergeable.there) in
        let read = ok_same half.1 c (in_place old.files db name) half.2.accepted on.mergeable.accepted in
        let is : IsHalf on.now c half.3.half = subst (λ (d : Contents). IsHalf on.now d half.3.half) read (subst (λ (l : List ℕ). IsHalf l half.1 half.3.half) here half.3.is) in
        record { half = half.3.half; there = half.3.there; is = on.half half.3.half is }

    -- at a moment
    module _ (was : Was) (files : Files) (said : List ℕ) (left : TurnLeft was old job (job.turn account) files said) (own : was db (files db) → files db ≡ old.files db) (level : was name (files name) → files name ≡ old.files name) where
      level_same : files name ≡ start name
      level_same = level (left.others name apart) ∙ un.level

      unmerged : (files db ≡ Some bytes) ⊎ IsHalfIn db bytes c files → IsOnWay start db name bytes c files
      unmerged is = record { level = level_same; standby = inl is }

      as_it_was : files db ≡ old.files db → IsOnWay start db name bytes c files
      as_it_was same = unmerged (by un.standby)
        where
          by : (old.files db ≡ Some bytes) ⊎ IsHalfIn db bytes c old.files → (files db ≡ Some bytes) ⊎ IsHalfIn db bytes c files
          by (inl there) = inl (same ∙ there)
          by (inr half) = inr (record { half = half.half; there = same ∙ half.there; is = half.is })

      way : IsOnItsWay was job files → IsOnWay start db name bytes c files
      way (inl (inl as_was)) = as_it_was (own as_was)
      way (inl (inr half)) = unmerged (inr (half_in files half))
      way (inr done) = record { level = level_same; standby = inr (merged_in files done) }

      merge_left : IsOnWay start db name bytes c files
      merge_left = by (leaves_all (job.turn account)) not_idle left.own
        where
          by : (t : Bool) → t ≡ false → elim t as (λ none. Type 0) [ true ↦ IsAsWas was job.name files | false ↦ ((IsAsWas was job.name files ⊎ job.half files) × (left.out.part ≡ [])) ⊎ job.done files ] → IsOnWay start db name bytes c files
          by true is l = absurd (true≢false is)
          by false is (inl l) = way (inl l.0)
          by false is (inr done) = way (inr done)

    pub merge_reads : IsOnWay start db name bytes c new.files
    merge_reads = merge_left (Read old.files) new.files new.said does.reads (λ is. is) (λ is. is)

    pub merge_moments : IsStill old db → IsStill old name
        → AtEachMoment old new (λ files said. IsOnWay start db name bytes c files)
    merge_moments own level = weaker old new _ _ does.stops (λ files said left. merge_left (Leaves old) files said left (own (files db)) (level (files name)))

    pub merge_finished : status ≢ Device → status ≢ Memory → FinishesMerge status old new db bytes c
    merge_finished d e =
        let end : TurnEnded status old new job (job.turn account) = does.ended d e in
        let reply : Reply = Pages (length (merged c.pages (image_in on.now))) in
        let done = end.done not_idle in
        record {
          ended = done_is status (end.ended ∙ ap (λ (t : Event). status_of (replies_of (t ∷ []))) turn_is ∙ status_one (merged_turn on.now c) reply refl);
          said = end.said ∙ ap (λ (t : Event). old.said ++ output (t ∷ [])) turn_is ∙ ap (λ (l : List ℕ). old.said ++ l) (output_one (merged_turn on.now c) reply refl)
              ∙ ap (λ (i : Image). old.said ++ line_text 1 (Pages (length i))) on.same;
          reads = merged_in new.files done.now;
          left = λ files leaves. merged_in files (done.left files leaves);
        }

  -- One run on a standby that is merged already: it is refused.
  module _ (status : Status) (old new : World) (account : Account) (does : DoesTurn status old new (merging old.files db name) account) (level : old.files name ≡ start name) (merged_before : IsMergedIn db bytes c old.files) where
    kept_idle : leaves_all (apply_turn old.files db name) ≡ true
    kept_idle = by (turn_is_one old.files db name)
      where
        by : MergeTurn old.files db name → leaves_all (apply_turn old.files db name) ≡ true
        by (refuses refusal why same) = ap leaves_all same
        by (merges now d n same) = absurd (merged_refuses start db name bytes c m old.files merged_before level now d n)

    beside_off : delta_name db ≢ db
    beside_off same = let six : length delta_suffix ≡ 6 = refl in let long = ap length same in omega (arith, long, six, length-append db delta_suffix)

    shows_same : (files : Files) → files db ≡ old.files db → files (delta_name db) ≡ old.files (delta_name db) → IsMergedIn db bytes c files
    shows_same files own beside = ap (λ (f : File). owner db f (files (delta_name db))) own ∙ ap (owner db (old.files db)) beside ∙ merged_before

    -- at a moment
    module _ (was : Was) (files : Files) (said : List ℕ) (left : TurnLeft was old (merging old.files db name) (apply_turn old.files db name) files said) (own_was : was db (files db) → files db ≡ old.files db)
        (beside_was : was (delta_name db) (files (delta_name db)) → files (delta_name db) ≡ old.files (delta_name db)) (level_was : was name (files name) → files name ≡ old.files name) where
      kept_own : files db ≡ old.files db
      kept_own = by (leaves_all (apply_turn old.files db name)) kept_idle left.own
        where
          by : (t : Bool) → t ≡ true → elim t as (λ none. Type 0) [ true ↦ was db (files db) | false ↦ ((was db (files db) ⊎ (merging old.files db name).half files) × (left.out.part ≡ [])) ⊎ (merging old.files db name).done files ] → files db ≡ old.files db
          by true is l = own_was l
          by false is l = absurd (true≢false (sym is))

      kept_merged : IsMergedIn db bytes c files
      kept_merged = shows_same files kept_own (beside_was (left.others (delta_name db) beside_off))

      kept_left : IsOnWay start db name bytes c files
      kept_left = record { level = level_was (left.others name apart) ∙ level; standby = inr kept_merged }

    kept_reads : IsOnWay start db name bytes c new.files
    kept_reads = kept_left (Read old.files) new.files new.said does.reads (λ is. is) (λ is. is) (λ is. is)

    kept_moments : IsStill old db → IsStill old (delta_name db) → IsStill old name → AtEachMoment old new (λ files said. IsOnWay start db name bytes c files)
    kept_moments own beside level_still = weaker old new _ _ does.stops (λ files said left. kept_left (Leaves old) files said left (own (files db)) (beside (files (delta_name db))) (level_still (files name)))

    kept_finished : IsTimely new → IsStill old db → IsStill old (delta_name db) → IsStill old name → status ≢ Device → status ≢ Memory → KeepsMerged old new db bytes c
    kept_finished timely own beside level_still d e = record {
      was = merged_before;
      files = (does.ended d e).unchanged kept_idle;
      left = λ files leaves.
          let left = does.stops.each files new.said (timely.counts_now old.moment files does.stops.later leaves) in
          kept_merged (Leaves old) files new.said left (own (files db)) (beside (files (delta_name db))) (level_still (files name));
    }

  -- files that read the same
  way_same : (files same : Files) → ((n : List ℕ) → same n ≡ files n) → IsOnWay start db name bytes c files → IsOnWay start db name bytes c same
  way_same files same are way = subst (IsOnWay start db name bytes c) (λ i. λ n. sym (are n) i) way

-- before a merge
pub way_first : (files : Files) (db name bytes : List ℕ) (c : Contents) → IsMergeable files db name bytes c → IsOnWay files db name bytes c files
way_first files db name bytes c m = record { level = refl; standby = inl (inl m.there) }

-- Over runs of a program.
module _ {H : Type 0} (world : H → World) (tells : Bool) (told : IsTrue tells) (start : Files) (db name bytes : List ℕ) (c : Contents) (m : IsMergeable start db name bytes c) (status : Status) (old new : H)
    (run : IsRun world tells status old new (Does (Apply db name))) (way : IsOnWay start db name bytes c (world old).files) where
  turn : DoesTurn status (world old) (world new) (merging (world old).files db name) (account_of (world old).files [])
  turn = turn_of_run world tells told status old new (Apply db name) (account_of (world old).files []) refl run

  pub run_stopped : IsStill (world old) db → IsStill (world old) (delta_name db) → IsStill (world old) name → AtEachMoment (world old) (world new) (λ files said. IsOnWay start db name bytes c files)
  run_stopped own beside level = by way.standby
    where
      by : ((world old).files db ≡ Some bytes ⊎ IsHalfIn db bytes c (world old).files) ⊎ IsMergedIn db bytes c (world old).files → AtEachMoment (world old) (world new) (λ files said. IsOnWay start db name bytes c files)
      by (inl un) = merge_moments start db name bytes c m status (world old) (world new) (account_of (world old).files []) turn (record { level = way.level; standby = un }) own level
      by (inr already) = kept_moments start db name bytes c m status (world old) (world new) (account_of (world old).files []) turn way.level already own beside level

  pub run_reads : IsOnWay start db name bytes c (world new).files
  run_reads = by way.standby
    where
      by : ((world old).files db ≡ Some bytes ⊎ IsHalfIn db bytes c (world old).files) ⊎ IsMergedIn db bytes c (world old).files → IsOnWay start db name bytes c (world new).files
      by (inl un) = merge_reads start db name bytes c m status (world old) (world new) (account_of (world old).files []) turn (record { level = way.level; standby = un })
      by (inr already) = kept_reads start db name bytes c m status (world old) (world new) (account_of (world old).files []) turn way.level already

  pub run_finishes : IsTimely (world new) → IsStill (world old) db → IsStill (world old) (delta_name db) → IsStill (world old) name → status ≢ Device → status ≢ Memory
      → FinishesMerge status (world old) (world new) db bytes c ⊎ KeepsMerged (world old) (world new) db bytes c
  run_finishes timely own beside level d e = by way.standby
    where
      by : ((world old).files db ≡ Some bytes ⊎ IsHalfIn db bytes c (world old).files) ⊎ IsMergedIn db bytes c (world old).files → FinishesMerge status (world old) (world new) db bytes c ⊎ KeepsMerged (world old) (world new) db bytes c
      by (inl un) = inl (merge_finished start db name bytes c m status (world old) (world new) (account_of (world old).files []) turn (record { level = way.level; standby = un }) d e)
      by (inr already) = inr (kept_finished start db name bytes c m status (world old) (world new) (account_of (world old).files []) turn way.level already timely own beside level d e)

-- what a host starts from stays as it reads
starts_still : (w : World) (files : Files) → StartsFrom w files → (n : List ℕ) → IsStill w n
starts_still w files starts n file left = starts.only n file left ∙ sym (starts.reads n)

-- Two runs, with a crash between.
pub two_runs : {H : Type 0} (world : H → World) (tells : Bool) → IsTrue tells → (db name bytes : List ℕ) (c : Contents) (first second : Status) (before stopped again end : H) → IsTimely (world end) → IsMergeable (world before).files db name bytes c
    → IsStill (world before) db → IsStill (world before) (delta_name db) → IsStill (world before) name → IsRun world tells first before stopped (Does (Apply db name))
    → (left : Files) (said : List ℕ) → (world stopped).left_since (world before).moment left said → StartsFrom (world again) left
    → IsRun world tells second again end (Does (Apply db name)) → second ≢ Device → second ≢ Memory → FinishesMerge second (world again) (world end) db bytes c ⊎ KeepsMerged (world again) (world end) db bytes c
two_runs world tells told db name bytes c first second before stopped again end timely m own beside level run left said is starts next d e =
    let old : Files = (world before).files in
    let at : IsOnWay old db name bytes c left = (run_stopped world tells told old db name bytes c m first before stopped run (way_first old db name bytes c m) own beside level).each left said is in
    run_finishes world tells told old db name bytes c m second again end next (way_same old db name bytes c m left (world again).files starts.reads at) timely (starts_still (world again) left starts db) (starts_still (world again) left starts (delta_name db))
    (starts_still (world again) left starts name) d e

-- each file that a host starts from is durable
pub starts_durable : (w : World) (files : Files) → StartsFrom w files → (n : List ℕ) → IsDurable w n (w.files n)
starts_durable w files starts n = record { none_back = λ file back. starts_still w files starts n file (inl back); only = λ file now. starts_still w files starts n file (inr now) }
