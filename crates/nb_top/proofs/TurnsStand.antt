-- Where the files stand for an account as a job of one turn begins, they stand for one at each moment of it, and after it, however it ended.
use Rattle.std.proofs.Common.{true≢false, ◌≡◌, ◌≢◌, ◌⊎◌, inl, inr, ℕ, List, [], ◌∷◌, true, false, refl, sym, ap, subst, ◌∙◌, Bool, Ok, Option, Some, None}
use Rattle.nb_top.proofs.Common.{is_free_file, File, Files, with_file, is_delta, World, Leaves, LeavesAll, IsTimely, AtEachMoment, Other, left_with, weaker, decide, with_file-same, with_file-other, Kept, Base, Entry, IsBase, Account, with_entry, account_behind, delta_name, owner, Event, account_after, with_made, Stands, Stroke, ShowsIn, IsWellBaseIn, stands_files, stands_with_well_in, opened_in_use, with_kept, no_main, stands_same, Status, OneTurn, OfName, Was, IsAsWas, Read, IsOnItsWay, behind, TurnEnded, TurnLeft, TurnStands, leaves_all, HoldsKept, StandsFor, some_same}
use Rattle.nb_ended.specs.declared.status.Status.TheVariants.{Device, Memory}
use Rattle.nb_top.proofs.OpenLaws.{none_shown}

-- What a job that isn't refused leaves of the file of that name, half way and once it is done, and the entry that it has in the account after the
-- turn.
pub record IsWellDone (old : World) (account : Account) (job : OneTurn) (name : List ℕ) : Type 0 where
  pub half : (before files : Files) → LeavesAll old before → HoldsKept before account.kept → before name ≡ old.files name → ((m : List ℕ) → m ≢ name → files m ≡ before m) → job.half files → HoldsKept files account.kept
  pub free : (files : Files) → job.half files → is_free_file (files name) ≡ true → is_free_file (old.files name) ≡ true
  pub entry : Entry
  pub stands : (before files : Files) (its : Account) → LeavesAll old before → Stands before its → its.kept ≡ account.kept → before name ≡ old.files name → ((m : List ℕ) → m ≢ name → files m ≡ before m) → job.done files
      → Stands files (with_entry name entry its)
  pub in_use : (files : Files) → job.done files → is_free_file (files name) ≡ false
  pub entries : (n : List ℕ) → (with_entry name entry account).entry n ≡ (account_behind name (job.turn account) account).entry n
  pub kept : account.kept ≡ (account_behind name (job.turn account) account).kept
  pub gives : (files : Files) → job.done files → job.gives account.kept files

-- what has to be known of each job
pub record IsSoundJob (old : World) (account : Account) (job : OneTurn) : Type 0 where
  pub plain : (name : List ℕ) → job.name ≡ Some name → is_delta name ≡ false
  pub done : leaves_all (job.turn account) ≡ false → (name : List ℕ) × (job.name ≡ Some name) × IsWellDone old account job name

-- The same, where it is done to a well database, which the account after the turn has.
pub record IsWellBased (old : World) (account : Account) (job : OneTurn) (name : List ℕ) : Type 0 where
  pub half : (before files : Files) → LeavesAll old before → HoldsKept before account.kept → before name ≡ old.files name → ((m : List ℕ) → m ≢ name → files m ≡ before m) → job.half files → HoldsKept files account.kept
  pub free : (files : Files) → job.half files → is_free_file (files name) ≡ true → is_free_file (old.files name) ≡ true
  pub base : Base
  pub well : IsWellBaseIn account.kept base
  pub shows : (files : Files) → job.done files → ShowsIn name base files
  pub entries : (n : List ℕ) → (with_entry name (IsBase base) account).entry n ≡ (account_behind name (job.turn account) account).entry n
  pub kept : account.kept ≡ (account_behind name (job.turn account) account).kept
  pub gives : (files : Files) → job.done files → job.gives account.kept files

-- a turn that leaves all leaves the account
idle_account : (name : List ℕ) (turn : Event) (account : Account) → leaves_all turn ≡ true → account_behind name turn account ≡ account
unfolding account_behind with_made
idle_account name turn account idle = by turn.made turn.strokes idle
  where
    by : (made : Option (List ℕ × List ℕ)) (ss : List Stroke) → elim made as (λ z. Bool) [ Some file ↦ false | None ↦ elim ss as (λ z. Bool) [ [] ↦ true | s ∷ rest ↦ false ] ] ≡ true
        → with_made made (elim ss as (λ z. Account) [ [] ↦ account | s ∷ rest ↦ account_after name turn.strokes None account ]) ≡ account
    by None [] is = refl
    by None (s ∷ ss) is = absurd (true≢false (sym is))
    by (Some file) ss is = absurd (true≢false (sym is))

idle_behind : (name : Option (List ℕ)) (turn : Event) (account : Account) → leaves_all turn ≡ true → behind name turn account ≡ account
idle_behind None turn account idle = refl
idle_behind (Some name) turn account idle = idle_account name turn account idle

-- a database that is opened has a file in use
shown_in_use : (name : List ℕ) (files : Files) (b : Base) → ShowsIn name b files → is_free_file (files name) ≡ false
shown_in_use name files b shows = by (files name) refl
  where
    by : (file : File) → files name ≡ file → is_free_file (files name) ≡ false
    by None none = absurd (none_shown name (files (delta_name name)) b (subst (λ (f : File). owner name f (files (delta_name name)) ≡ Ok b) none shows))
    by (Some bytes) some = ap is_free_file some ∙ opened_in_use name bytes (files (delta_name name)) b (subst (λ (f : File). owner name f (files (delta_name name)) ≡ Ok b) some shows)

-- a well database is well done
pub well_based : (old : World) (account : Account) (job : OneTurn) (name : List ℕ) → is_delta name ≡ false → IsWellBased old account job name → IsWellDone old account job name
well_based old account job name plain w = record {
  half = w.half;
  free = w.free;
  entry = IsBase w.base;
  stands = λ before files its left stands same as_was rest done.
      stands_with_well_in before files its name w.base stands plain (λ m off beside. rest m off) (w.shows files done) (subst (λ (ks : List Kept). IsWellBaseIn ks w.base) (sym same) w.well);
  in_use = λ files done. shown_in_use name files w.base (w.shows files done);
  entries = w.entries;
  kept = w.kept;
  gives = w.gives;
}

-- a job on the file of that name
pub sound_named : (old : World) (account : Account) (name : List ℕ) (job : OneTurn) → is_delta name ≡ false → job.name ≡ Some name → (leaves_all (job.turn account) ≡ false → IsWellDone old account job name) → IsSoundJob old account job
sound_named old account name job plain named done = record {
  plain = λ n is. subst (λ (m : List ℕ). is_delta m ≡ false) (some_same name n (sym named ∙ is)) plain;
  done = λ some. (name, named, done some);
}

-- the same, on a database
pub sound_on : (old : World) (account : Account) (name : List ℕ) (job : OneTurn) → is_delta name ≡ false → job.name ≡ Some name → (leaves_all (job.turn account) ≡ false → IsWellBased old account job name) → IsSoundJob old account job
sound_on old account name job plain named done = sound_named old account name job plain named (λ some. well_based old account job name plain (done some))

-- ---- the name of a job, as it is known

other_named : (o : Option (List ℕ)) (name m : List ℕ) → o ≡ Some name → m ≢ name → Other (OfName o) m
other_named o name m is off = subst (λ (x : Option (List ℕ)). Other (OfName x) m) (sym is) off

-- where it is as it was, and so are the others, all are
all_as_was : (was : Was) (o : Option (List ℕ)) (files : Files) → IsAsWas was o files → ((m : List ℕ) → Other (OfName o) m → was m (files m)) → (m : List ℕ) → was m (files m)
all_as_was was None files as_it others m = others m (λ none. none)
all_as_was was (Some name) files as_it others m = elim (decide m name) [ inl same ↦ subst (λ (n : List ℕ). was n (files n)) (sym same) as_it | inr off ↦ others m off ]

-- no difference file is that of a job
delta_other : (o : Option (List ℕ)) → ((name : List ℕ) → o ≡ Some name → is_delta name ≡ false) → (n : List ℕ) → Other (OfName o) (delta_name n)
delta_other None plain n none = none
delta_other (Some name) plain n same = no_main n name (plain name refl) same

module _ (old : World) (account : Account) (job : OneTurn) (stands : StandsFor old account) (reads_old : (m : List ℕ) → Leaves old m (old.files m)) (sound : IsSoundJob old account job) where
  abbrev turn : Event
  turn = job.turn account

  -- the file of the job, where its turn changes one
  module _ (some : leaves_all turn ≡ false) where
    abbrev own : List ℕ
    own = (sound.done some).0

    abbrev is_own : job.name ≡ Some own
    is_own = (sound.done some).1

    abbrev well : IsWellDone old account job own
    well = (sound.done some).2

    off_own : (m : List ℕ) → m ≢ own → Other (OfName job.name) m
    off_own m off = other_named job.name own m is_own off

    done_holds : (before files : Files) → LeavesAll old before → HoldsKept before account.kept → before own ≡ old.files own → ((m : List ℕ) → m ≢ own → files m ≡ before m) → job.done files → HoldsKept files account.kept
    done_holds before files left its as_it rest done = record {
      account = with_entry own well.entry its.account;
      stands = well.stands before files its.account left its.stands its.same as_it rest done;
      same = with_kept own well.entry its.account ∙ its.same;
    }

  -- At a moment: what a crash leaves.
  module _ (files : Files) (others : (m : List ℕ) → Other (OfName job.name) m → Leaves old m (files m)) where
    -- the same files, but for that of the job, as it was
    module _ (some : leaves_all turn ≡ false) where
      abbrev before : Files
      before = with_file files (own some) (old.files (own some))

      before_left : LeavesAll old before
      before_left = left_with old (own some) files (old.files (own some)) (λ m off. others m (off_own some m off)) (reads_old (own some))

      rest : (m : List ℕ) → m ≢ own some → files m ≡ before m
      rest m off = sym (with_file-other files (own some) (old.files (own some)) m off)

      same_own : before (own some) ≡ old.files (own some)
      same_own = with_file-same files (own some) (old.files (own some))

    all_left : IsAsWas (Leaves old) job.name files → LeavesAll old files
    all_left as_it = all_as_was (Leaves old) job.name files as_it others

    way_holds : leaves_all turn ≡ false → IsOnItsWay (Leaves old) job files → HoldsKept files account.kept
    way_holds some (inl (inl as_it)) = stands.left files (all_left as_it)
    way_holds some (inl (inr half)) = (well some).half (before some) files (before_left some) (stands.left (before some) (before_left some)) (same_own some) (rest some) half
    way_holds some (inr done) = done_holds some (before some) files (before_left some) (stands.left (before some) (before_left some)) (same_own some) (rest some) done

  turn_holds : (files : Files) (said : List ℕ) → TurnLeft (Leaves old) old job turn files said → HoldsKept files account.kept
  turn_holds files said l = by (leaves_all turn) refl l.own
    where
      by : (t : Bool) → leaves_all turn ≡ t → elim t as (λ none. Type 0) [ true ↦ IsAsWas (Leaves old) job.name files | false ↦ ((IsAsWas (Leaves old) job.name files ⊎ job.half files) × (l.out.part ≡ [])) ⊎ job.done files ] → HoldsKept files account.kept
      by true is as_it = stands.left files (all_left files l.others as_it)
      by false is (inl way) = way_holds files l.others is (inl way.0)
      by false is (inr done) = way_holds files l.others is (inr done)

  -- After it: what reads.
  module _ (new : World) (timely : IsTimely new) (reads_new : LeavesAll new new.files) (stops : AtEachMoment old new (TurnLeft (Leaves old) old job turn)) (reads : TurnLeft (Read old.files) old job turn new.files new.said) where
    pub turn_moments : AtEachMoment old new (λ files said. HoldsKept files account.kept)
    turn_moments = weaker old new _ _ stops turn_holds

    left_now : (files : Files) → LeavesAll new files → TurnLeft (Leaves old) old job turn files new.said
    left_now files leaves = stops.each files new.said (timely.counts_now old.moment files stops.later leaves)

    all_same : IsAsWas (Read old.files) job.name new.files → (m : List ℕ) → new.files m ≡ old.files m
    all_same as_it = all_as_was (Read old.files) job.name new.files as_it reads.others

    abbrev now : HoldsKept old.files account.kept
    now = record { account = account; stands = stands.now; same = refl }

    others_read : (some : leaves_all turn ≡ false) (m : List ℕ) → m ≢ own some → new.files m ≡ old.files m
    others_read some m off = reads.others m (off_own some m off)

    as_now : IsAsWas (Read old.files) job.name new.files → HoldsKept new.files account.kept
    as_now as_it = record { account = account; stands = stands_files old.files new.files account stands.now (all_same as_it); same = refl }

    way_now : leaves_all turn ≡ false → IsOnItsWay (Read old.files) job new.files → HoldsKept new.files account.kept
    way_now some (inl (inl as_it)) = as_now as_it
    way_now some (inl (inr half)) = (well some).half old.files new.files reads_old now refl (others_read some) half
    way_now some (inr done) = done_holds some old.files new.files reads_old now refl (others_read some) done

    abbrev OwnLeft : Bool → Type 0
    OwnLeft t = elim t as (λ none. Type 0) [ true ↦ IsAsWas (Read old.files) job.name new.files | false ↦ ((IsAsWas (Read old.files) job.name new.files ⊎ job.half new.files) × (reads.out.part ≡ [])) ⊎ job.done new.files ]

    -- where a name is free it was
    was_free : (n : List ℕ) → is_free_file (new.files n) ≡ true → is_free_file (old.files n) ≡ true
    was_free n now_free = by (leaves_all turn) refl reads.own
      where
        as_before : IsAsWas (Read old.files) job.name new.files → is_free_file (old.files n) ≡ true
        as_before as_it = ap is_free_file (sym (all_same as_it n)) ∙ now_free

        its : (some : leaves_all turn ≡ false) → (is_free_file (new.files (own some)) ≡ true → is_free_file (old.files (own some)) ≡ true) → is_free_file (old.files n) ≡ true
        its some goes = elim (decide n (own some)) [
          | inl same ↦ subst (λ (m : List ℕ). is_free_file (old.files m) ≡ true) (sym same) (goes (subst (λ (m : List ℕ). is_free_file (new.files m) ≡ true) same now_free))
          | inr off ↦ ap is_free_file (sym (others_read some n off)) ∙ now_free
        ]

        by : (t : Bool) → leaves_all turn ≡ t → OwnLeft t → is_free_file (old.files n) ≡ true
        by true is as_it = as_before as_it
        by false is (inl (inl as_it, none)) = as_before as_it
        by false is (inl (inr half, none)) = its is (λ free. (well is).free new.files half free)
        by false is (inr done) = its is (λ free. absurd (true≢false (sym free ∙ (well is).in_use new.files done)))

    -- an account with these records for which the files stand is one for which the world does
    later_stands : (later : Account) → Stands new.files later → later.kept ≡ account.kept → StandsFor new later
    later_stands later is same = record {
      now = is;
      left = λ files leaves. subst (HoldsKept files) (sym same) (turn_holds files new.said (left_now files leaves));
      free = free;
    }
      where
        beside : (n : List ℕ) → Other (OfName job.name) (delta_name n)
        beside = delta_other job.name sound.plain

        free : (n : List ℕ) → is_delta n ≡ false → is_free_file (new.files n) ≡ true → new.files (delta_name n) ≡ None → (d : File) → Leaves new (delta_name n) d → d ≡ None
        free n plain now_free alone d leaves =
            let files : Files = with_file new.files (delta_name n) d in
            let left : LeavesAll new files = left_with new (delta_name n) new.files d (λ m off. reads_new m) leaves in
            stands.free n plain (was_free n now_free) (sym (reads.others (delta_name n) (beside n)) ∙ alone) d
            (subst (Leaves old (delta_name n)) (with_file-same new.files (delta_name n) d) ((left_now files left).others (delta_name n) (beside n)))

    pub turn_after : (later : Account) × StandsFor new later × (later.kept ≡ account.kept)
    turn_after = by (leaves_all turn) refl reads.own
      where
        of_held : HoldsKept new.files account.kept → (later : Account) × StandsFor new later × (later.kept ≡ account.kept)
        of_held its = (its.account, later_stands its.account its.stands its.same, its.same)

        by : (t : Bool) → leaves_all turn ≡ t → OwnLeft t → (later : Account) × StandsFor new later × (later.kept ≡ account.kept)
        by true is as_it = of_held (as_now as_it)
        by false is (inl way) = of_held (way_now is (inl way.0))
        by false is (inr done) = of_held (way_now is (inr done))

    pub turn_end : (status : Status) → TurnEnded status old new job turn → StandsFor new (behind job.name turn account)
    turn_end status ended = by (leaves_all turn) refl
      where
        by : (t : Bool) → leaves_all turn ≡ t → StandsFor new (behind job.name turn account)
        by true is = subst (StandsFor new) (sym (idle_behind job.name turn account is)) (later_stands account (subst (λ (f : Files). Stands f account) (sym (ended.unchanged is)) stands.now) refl)
        by false is =
            let w : IsWellDone old account job (own is) = well is in
            let later : Account = account_behind (own is) turn account in
            subst (λ (o : Option (List ℕ)). StandsFor new (behind o turn account)) (sym (is_own is))
            (later_stands later
            (stands_same new.files (with_entry (own is) w.entry account) later w.entries (with_kept (own is) w.entry account ∙ w.kept)
            (w.stands old.files new.files account reads_old stands.now refl refl (others_read is) (ended.done is).now))
            (sym w.kept))

    pub turn_stands : (status : Status) → (status ≢ Device → status ≢ Memory → TurnEnded status old new job turn) → TurnStands status old new job turn account
    turn_stands status ended = record { moments = turn_moments; after = turn_after; ended = λ d m. turn_end status (ended d m); gives = λ some. (well some).gives }
