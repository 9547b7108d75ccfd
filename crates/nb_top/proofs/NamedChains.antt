-- A chain of files that hold kept records restores to the kept image, whatever stands under other names.
use Rattle.std.proofs.Common.{true≢false, ◌≡◌, ◌≢◌, ◌⊎◌, inl, inr, ℕ, zero, suc, ◌+◌, ◌≤◌, List, [], ◌∷◌, length, true, false, refl, sym, ap, subst, ◌∙◌, arith, Bool, IsTrue, Some, None, Result, Ok, Err, Contains}
use Rattle.nb_top.proofs.Common.{AllByRecursion, and_parts, is_free_file, is_header, state_of, stalled_state, File, Files, is_delta, World, Leaves, LeavesAll, weaker, Refusal, NoFile, Kept, Base, base_of, IsBase, Account, Image, ShowsIn, Link, delta_name, linked, next_link, next_links, verdict, owner, entry_in, fixed, Restore, formed_header, owner_of_entry, Belongs, to_base, to_record, Stands, chain_kept, is_free_name, is_free_entry, DoesTurn, leaves_all, restoring, Status, TurnLeft, IsAsWas, FitsDeed, Does, account_of, IsTimely, with_entry, with_kept, with_file, with_file-same, left_with, delta_named, no_main, restored_well, stands_with_well_in, ok_same}
use Rattle.nb_fields.specs.States.{applying_state}
use Rattle.nb_model.specs.Restoring.{first_link}
use Rattle.nb_model.specs.Stands.{is_applying}
use Rattle.nb_model.proofs.StandsLaws.{header_no_level}
use Rattle.nb_restore.specs.Kept.{AreKept, GivesKept, last_guid}
use Rattle.nb_restore.specs.Restore.{base_from}
use Rattle.nb_top.specs.Worlds.{empty}
use Rattle.nb_restore.proofs.ChainLaws.{copy_of, split_chain, split_next}
use Rattle.std.proofs.lemmas.Bool.Decides.{eqb_tells}
use Rattle.nb_ended.specs.declared.status.Status.TheVariants.{Device, Memory}
use Rattle.nb_top.specs.Among.{is_among, among, FollowOn, HoldTheirs, RestoresKept, StandAlone}
use Rattle.nb_top.specs.OneTurn.{ShowsKept}
use Rattle.nb_top.specs.Goes.{IsRun}
use Rattle.nb_top.proofs.CopyLaws.{IsAlone, opens_alone}
use Rattle.nb_host.specs.Crash.{IsDurable}
use Rattle.nb_top.proofs.NamedFiles.{is_there, there_is, among_own, among_off, among_there, among_skip}
use Rattle.nb_top.proofs.OpenLaws.{none_shown}
use Rattle.nb_top.proofs.RestoreTurns.{done_turn}
use Rattle.nb_top.proofs.StoppedMerges.{durable_left, turn_of_run}
use Rattle.nb_top.proofs.WordNames.{plain_database, plain_files}
use Rattle.nb_top.proofs.WorldLaws.{none_beside, not_beside}

-- Files that stand for an account hold their records, which follow on records.
pub stand_follow : (files : Files) (account : Account) → Stands files account → FollowOn account.kept
stand_follow files account stands = record {
  distinct = stands.kept_records.distinct;
  not_nil = stands.kept_records.not_nil;
  sound = λ r there. stands.sound_images.images r.image (to_record r there refl);
  begun = stands.sound_images.records;
  past = λ r there. stands.history.images r.image (to_record r there refl);
  goes_on = stands.history.records;
}

all_in : {X : Type 0} (P : X → Type 0) (xs : List X) (x : X) → AllByRecursion P xs → Contains xs x → P x
all_in P [] x all (k, low, is) = absurd (omega (arith, low))
all_in P (y ∷ ys) x all (zero, low, is) = subst P is all.0
all_in P (y ∷ ys) x all (suc k, low, is) = all_in P ys x all.1 (k, omega (arith, low), is)

pub stand_hold : (files : Files) (account : Account) (names : List (List ℕ)) → Stands files account → AllByRecursion (λ (name : List ℕ). is_delta name ≡ false) names → HoldTheirs account.kept names files
stand_hold files account names stands plain name bytes in_it there = stands.kept_records.levels name bytes (all_in (λ (n : List ℕ). is_delta n ≡ false) names name plain in_it) there

-- The files of these names, none of which can be opened alone.
module _ (files : Files) (kept : List Kept) (names : List (List ℕ)) (plain : AllByRecursion (λ (name : List ℕ). is_delta name ≡ false) names) (follow : FollowOn kept) (holds : HoldTheirs kept names files)
    (closed : (name bytes : List ℕ) → Contains names name → files name ≡ Some bytes → is_header bytes ≡ true → state_of bytes ≡ stalled_state) where
  abbrev part : Files
  part = among names files

  plain_there : (name bytes : List ℕ) → part name ≡ Some bytes → is_delta name ≡ false
  plain_there name bytes there = all_in (λ (n : List ℕ). is_delta n ≡ false) names name plain (there_is names name (among_there names files name bytes there).named)

  no_delta : (name : List ℕ) → part (delta_name name) ≡ None
  no_delta = none_beside part plain_there

  header_stalled : (name bytes : List ℕ) → part name ≡ Some bytes → is_header bytes ≡ true → state_of bytes ≡ stalled_state
  header_stalled name bytes there = let its = among_there names files name bytes there in closed name bytes (there_is names name its.named) its.there

  none_opens : (name : List ℕ) (b : Base) → entry_in part name ≡ IsBase b → ⊥
  none_opens name b is = by (part name) refl (owner_of_entry name (part name) (part (delta_name name)) b is)
    where
      by : (file : File) → part name ≡ file → owner name file (part (delta_name name)) ≡ Ok b → ⊥
      by None none opens = none_shown name (part (delta_name name)) b opens
      by (Some bytes) there opens =
          let alone : IsAlone bytes b = opens_alone name bytes b (subst (λ (d : File). owner name (Some bytes) d ≡ Ok b) (no_delta name) opens) in
          let stalled = header_stalled name bytes there (formed_header bytes alone.formed) in
          let normal = alone.normal in
          omega (arith, stalled, normal)

  -- so no standby among them waits
  none_waits : (name bytes : List ℕ) → part name ≡ Some bytes → IsTrue (is_applying bytes) → ⊥
  none_waits name bytes there applying =
      let parts = and_parts (is_header bytes) _ applying in
      let stalled = header_stalled name bytes there parts.0 in
      elim (eqb_tells (state_of bytes) applying_state) [ inl w ↦ (let e = w.1 in omega (arith, stalled, e)) | inr w ↦ true≢false (sym parts.1 ∙ w.0) ]

  records_hold : (P : Image → Type 0) → ((r : Kept) → Contains kept r → P r.image) → (x : Image) → Belongs (account_of part kept) x → P x
  records_hold P each x (to_base name b e is) = absurd (none_opens name b e)
  records_hold P each x (to_record r there is) = subst P is (each r there)

  pub part_stands : Stands part (account_of part kept)
  part_stands = record {
    same_image = λ name plain. refl;
    frozen_main = λ name b e stalled. absurd (none_opens name b e);
    sound_images = record { images = records_hold _ follow.sound; records = follow.begun };
    kept_records = record {
      distinct = follow.distinct;
      not_nil = follow.not_nil;
      stalled = λ name b e stalled. absurd (none_opens name b e);
      levels = λ name bytes plain there. let its = among_there names files name bytes there in holds name bytes (there_is names name its.named) its.there;
    };
    history = record { images = records_hold _ follow.past; records = follow.goes_on };
    no_stray = λ name plain beside. absurd (not_beside (part (delta_name name)) (no_delta name) beside);
    standbys = λ name bytes r plain there applying named. absurd (none_waits name bytes there applying);
  }

-- The verdict on a chain is that of its files.
abbrev with_next : (links : Link → Result (List Link) Refusal) → Result Link Refusal → Result (List Link) Refusal
with_next links answer = elim answer [ Err refusal ↦ Err refusal | Ok l ↦ linked l (links l) ]

abbrev with_file_of : (name : List ℕ) (read : List ℕ → Result Link Refusal) (links : Link → Result (List Link) Refusal) → File → Result (List Link) Refusal
with_file_of name read links file = elim file [ None ↦ Err (NoFile name) | Some bytes ↦ with_next links (read bytes) ]

next_is : (f : Files) (k : ℕ) (last : Link) (name : List ℕ) (names : List (List ℕ)) → next_links f k last (name ∷ names) ≡ with_file_of name (next_link k last name) (λ l. next_links f (k + 1) l names) (f name)
unfolding next_links
next_is f k last name names = refl

verdict_is : (f : Files) (name : List ℕ) (names : List (List ℕ)) → verdict f (name ∷ names) ≡ with_file_of name (first_link name) (λ l. next_links f 1 l names) (f name)
unfolding verdict
verdict_is f name names = refl

none_same : (f g : Files) (k : ℕ) (last : Link) → next_links f k last [] ≡ next_links g k last []
unfolding next_links
none_same f g k last = refl

with_same : (name : List ℕ) (read : List ℕ → Result Link Refusal) (a b : Link → Result (List Link) Refusal) → ((l : Link) → a l ≡ b l) → (file : File) → with_file_of name read a file ≡ with_file_of name read b file
with_same name read a b same None = refl
with_same name read a b same (Some bytes) = by (read bytes)
  where
    by : (answer : Result Link Refusal) → with_next a answer ≡ with_next b answer
    by (Err r) = refl
    by (Ok l) = ap (linked l) (same l)

module _ (f g : Files) where
  next_same : (k : ℕ) (last : Link) (names : List (List ℕ)) → AllByRecursion (λ (n : List ℕ). f n ≡ g n) names → next_links f k last names ≡ next_links g k last names
  next_same k last [] same = none_same f g k last
  next_same k last (name ∷ names) same =
      next_is f k last name names ∙ ap (with_file_of name (next_link k last name) (λ l. next_links f (k + 1) l names)) same.0
      ∙ with_same name (next_link k last name) (λ l. next_links f (k + 1) l names) (λ l. next_links g (k + 1) l names) (λ l. next_same (k + 1) l names same.1) (g name) ∙ sym (next_is g k last name names)

  pub verdict_same : (names : List (List ℕ)) → AllByRecursion (λ (n : List ℕ). f n ≡ g n) names → verdict f names ≡ verdict g names
  unfolding verdict
  verdict_same [] same = refl
  verdict_same (name ∷ names) same =
      verdict_is f name names ∙ ap (with_file_of name (first_link name) (λ l. next_links f 1 l names)) same.0
      ∙ with_same name (first_link name) (λ l. next_links f 1 l names) (λ l. next_links g 1 l names) (λ l. next_same 1 l names same.1) (g name) ∙ sym (verdict_is g name names)

-- the files of a chain are there alone as they are
own_same : (all : List (List ℕ)) (files : Files) (names : List (List ℕ)) → ((n : List ℕ) → Contains names n → is_among all n ≡ true) → AllByRecursion (λ (n : List ℕ). among all files n ≡ files n) names
own_same all files [] each = tt
own_same all files (name ∷ names) each = (among_own all files name (each name (0, omega arith, refl)), own_same all files names (λ n there. each n (suc there.0, omega (arith, there.1), there.2)))

pub verdict_among : (all : List (List ℕ)) (files : Files) (names : List (List ℕ)) → ((n : List ℕ) → Contains names n → is_among all n ≡ true) → verdict (among all files) names ≡ verdict files names
verdict_among all files names each = verdict_same (among all files) files names (own_same all files names each)

-- No file of a chain can be opened alone: the first is a copy of a stalled database, and the others are level files.
next_closed : (files : Files) (k : ℕ) (last : Link) (names : List (List ℕ)) (links : List Link) → next_links files k last names ≡ Ok links → (name bytes : List ℕ) → Contains names name → files name ≡ Some bytes → is_header bytes ≡ true → ⊥
next_closed files k last [] links e name bytes (i, low, is) there header = absurd (omega (arith, low))
next_closed files k last (n ∷ names) links e name bytes (zero, low, is) there header =
    let split = split_next files k last n names links e in
    let same : split.bytes ≡ bytes = some_bytes (sym split.there ∙ ap files is ∙ there) in
    header_no_level split.bytes split.level.contents (ap is_header same ∙ header) split.level.read
  where
    some_bytes : {a b : List ℕ} → Some a ≡ Some b → a ≡ b
    some_bytes e = cc
next_closed files k last (n ∷ names) links e name bytes (suc i, low, is) there header =
    let split = split_next files k last n names links e in
    next_closed files (k + 1) split.link names split.rest split.next name bytes (i, omega (arith, low), is) there header

chain_closed : (files : Files) (names : List (List ℕ)) (links : List Link) → verdict files names ≡ Ok links → (name bytes : List ℕ) → Contains names name → files name ≡ Some bytes → is_header bytes ≡ true → state_of bytes ≡ stalled_state
chain_closed files [] links e name bytes (i, low, is) there header = absurd (omega (arith, low))
chain_closed files (n ∷ names) links e name bytes (zero, low, is) there header =
    let split = split_chain files n names links e in
    let same : split.bytes ≡ bytes = some_bytes (sym split.there ∙ ap files is ∙ there) in
    subst (λ (l : List ℕ). state_of l ≡ stalled_state) same (copy_of n split.bytes split.first split.accepted).stalled
  where
    some_bytes : {a b : List ℕ} → Some a ≡ Some b → a ≡ b
    some_bytes e = cc
chain_closed files (n ∷ names) links e name bytes (suc i, low, is) there header =
    let split = split_chain files n names links e in
    absurd (next_closed files 1 split.first names split.rest split.next name bytes (i, omega (arith, low), is) there header)

-- So a chain that is named gives the kept image.
module _ (files : Files) (kept : List Kept) (names : List (List ℕ)) (links : List Link) (plain : AllByRecursion (λ (name : List ℕ). is_delta name ≡ false) names) (some : 1 ≤ length names) (follow : FollowOn kept) (holds : HoldTheirs kept names files)
    (accepted : verdict files names ≡ Ok links) where
  pub chain_stands : Stands (among names files) (account_of (among names files) kept)
  chain_stands = part_stands files kept names plain follow holds (chain_closed files names links accepted)

  some_link : (ns : List (List ℕ)) → 1 ≤ length ns → verdict files ns ≡ Ok links → 1 ≤ length links
  some_link [] few is = absurd (omega (arith, few))
  some_link (n ∷ ns) few is = let split = split_chain files n ns links is in omega (arith, ap length split.all)

  pub named_gives : AreKept kept links → GivesKept kept links
  named_gives are =
      chain_kept (among names files) (account_of (among names files) kept) names links chain_stands plain (verdict_among names files names (λ n there. is_there names n there) ∙ accepted) (some_link names some accepted) are

-- nothing stands under any name
empty_free : (name : List ℕ) → is_free_entry (empty.entry name) ≡ true
unfolding is_free_entry
empty_free name = refl

-- A run that restores it.
module _ {H : Type 0} (world : H → World) (tells : Bool) (told : IsTrue tells) (status : Status) (before after : H) (db : List ℕ) (names : List (List ℕ)) (kept : List Kept) (links : List Link)
    (fits : FitsDeed (Restore db names)) (run : IsRun world tells status before after (Does (Restore db names))) (follow : FollowOn kept) (holds : HoldTheirs kept names (world before).files)
    (accepted : verdict (world before).files names ≡ Ok links) (are : AreKept kept links) (free : is_free_name (world before).files db ≡ true) where
  abbrev old : World
  old = world before

  abbrev new : World
  new = world after

  turn : DoesTurn status old new (restoring old.files db names) empty
  turn = turn_of_run world tells told status before after (Restore db names) empty (free ∙ sym (empty_free db)) run

  not_idle : leaves_all ((restoring old.files db names).turn empty) ≡ false
  not_idle = ap leaves_all (done_turn old.files empty db names links (empty_free db) accepted)

  its : GivesKept kept links
  its = named_gives old.files kept names links (plain_files names fits.3) fits.1 follow holds accepted are

  shows_image : (files : Files) → (restoring old.files db names).done files → ShowsIn db (base_of (fixed its.backup.image)) files
  shows_image files done = subst (λ (image : Image). ShowsIn db (base_of (fixed image)) files) its.image
      (subst (λ (ls : List Link). ShowsIn db (base_from ls) files) (ok_same done.0 links (verdict old.files names) done.1 accepted) done.2.shows)

  shows_kept : (files : Files) → (restoring old.files db names).done files → ShowsKept kept (last_guid links) fixed db files
  shows_kept files done = record { backup = its.backup; kept_as = its.kept_as; shows = shows_image files done }

  at_moment : (files : Files) (said : List ℕ) → TurnLeft (Leaves old) old (restoring old.files db names) ((restoring old.files db names).turn empty) files said
      → (Leaves old db (files db) ⊎ (is_free_file (files db) ≡ true)) ⊎ ShowsKept kept (last_guid links) fixed db files
  at_moment files said left = by (leaves_all ((restoring old.files db names).turn empty)) not_idle left.own
    where
      by : (t : Bool) → t ≡ false → elim t as (λ none. Type 0) [
        | true ↦ IsAsWas (Leaves old) (Some db) files
        | false ↦ ((IsAsWas (Leaves old) (Some db) files ⊎ (is_free_file (files db) ≡ true)) × (left.out.part ≡ [])) ⊎ (restoring old.files db names).done files
      ] → (Leaves old db (files db) ⊎ (is_free_file (files db) ≡ true)) ⊎ ShowsKept kept (last_guid links) fixed db files
      by true is l = absurd (true≢false is)
      by false is (inl l) = inl l.0
      by false is (inr done) = inr (shows_kept files done)

  pub restores_kept : RestoresKept status old new kept (last_guid links) db
  restores_kept = record {
    moments = weaker old new _ _ turn.stops at_moment;
    reads = λ d m. shows_kept new.files ((turn.ended d m).done not_idle).now;
    left = λ d m files leaves. shows_kept files (((turn.ended d m).done not_idle).left files leaves);
  }

  -- After it the database stands, alone with the files of the chain, where a crash had brought back none of them, nor a difference file.
  module _ (timely : IsTimely new) (reads_new : LeavesAll new new.files) (device : status ≢ Device) (memory : status ≢ Memory) (durable : (n : List ℕ) → Contains (delta_name db ∷ names) n → IsDurable old n (old.files n)) (alone : old.files (delta_name db) ≡ None) where
    abbrev all : List (List ℕ)
    all = db ∷ (delta_name db ∷ names)

    plain_db : is_delta db ≡ false
    plain_db = plain_database db fits.0

    plain_names : AllByRecursion (λ (name : List ℕ). is_delta name ≡ false) names
    plain_names = plain_files names fits.3

    abbrev base : Base
    base = base_of (fixed its.backup.image)

    abbrev chain : Account
    chain = account_of (among names old.files) kept

    stood : Stands (among names old.files) chain
    stood = chain_stands old.files kept names links plain_names fits.1 follow holds accepted

    -- under other names there are the files of the chain
    among_other : (files : Files) → ((m : List ℕ) → m ≢ db → is_among names m ≡ true → files m ≡ old.files m) → (m : List ℕ) → m ≢ db → m ≢ delta_name db → among all files m ≡ among names old.files m
    among_other files same m off beside =
        let skips : is_among all m ≡ is_among names m = among_skip m db (delta_name db ∷ names) off ∙ among_skip m (delta_name db) names beside in
        by (is_among names m) refl skips
      where
        by : (t : Bool) → is_among names m ≡ t → is_among all m ≡ is_among names m → among all files m ≡ among names old.files m
        by true is skips = among_own all files m (skips ∙ is) ∙ same m off is ∙ sym (among_own names old.files m is)
        by false is skips = among_off all files m (skips ∙ is) ∙ sym (among_off names old.files m is)

    opens : (files : Files) → (restoring old.files db names).done files → owner db (among all files db) (among all files (delta_name db)) ≡ Ok base
    opens files done =
        ap (λ (m : File). owner db m (among all files (delta_name db))) (among_own all files db (is_there all db (0, omega arith, refl)))
        ∙ ap (owner db (files db)) (among_own all files (delta_name db) (is_there all (delta_name db) (1, omega arith, refl))) ∙ shows_image files done

    holds_then : (files : Files) → (restoring old.files db names).done files → ((m : List ℕ) → m ≢ db → is_among names m ≡ true → files m ≡ old.files m) → Stands (among all files) (with_entry db (IsBase base) chain)
    holds_then files done same =
        stands_with_well_in (among names old.files) (among all files) chain db base stood plain_db (λ m off beside. among_other files same m off beside) (opens files done)
        (restored_well (among names old.files) chain its.backup stood its.kept_as.there).base

    left_then : (files : Files) → LeavesAll new files → TurnLeft (Leaves old) old (restoring old.files db names) ((restoring old.files db names).turn empty) files new.said
    left_then files leaves = turn.stops.each files new.said (timely.counts_now old.moment files turn.stops.later leaves)

    as_it_was : (files : Files) → LeavesAll new files → (m : List ℕ) → m ≢ db → is_among names m ≡ true → files m ≡ old.files m
    as_it_was files leaves m off is =
        let there = there_is names m is in
        durable_left old m (durable m (suc there.0, omega (arith, there.1), there.2)) (files m) ((left_then files leaves).others m off)

    -- the only difference file among them is that of the database
    is_beside : (name : List ℕ) → is_among all (delta_name name) ≡ true → delta_name name ≡ delta_name db
    is_beside name is = by (there_is all (delta_name name) is)
      where
        by : Contains all (delta_name name) → delta_name name ≡ delta_name db
        by (zero, low, e) = absurd (no_main name db plain_db (sym e))
        by (suc zero, low, e) = sym e
        by (suc (suc k), low, e) = absurd (true≢false (sym (delta_named name) ∙ all_in (λ (n : List ℕ). is_delta n ≡ false) names (delta_name name) plain_names (k, omega (arith, low), e)))

    none_back : (d : File) → Leaves new (delta_name db) d → d ≡ None
    none_back d left =
        let files : Files = with_file new.files (delta_name db) d in
        let all_left : LeavesAll new files = left_with new (delta_name db) new.files d (λ m other. reads_new m) left in
        let was : Leaves old (delta_name db) (files (delta_name db)) = (left_then files all_left).others (delta_name db) (no_main db db plain_db) in
        durable_left old (delta_name db) (durable (delta_name db) (0, omega arith, refl)) d (subst (Leaves old (delta_name db)) (with_file-same new.files (delta_name db) d) was) ∙ alone

    pub restored_alone : (account : Account) × StandAlone all new account × (account.kept ≡ kept)
    restored_alone = (
      with_entry db (IsBase base) chain,
      record {
        now = holds_then new.files ((turn.ended device memory).done not_idle).now (λ m off is. turn.reads.others m off);
        left = λ files leaves. record {
          account = with_entry db (IsBase base) chain;
          stands = holds_then files (((turn.ended device memory).done not_idle).left files leaves) (as_it_was files leaves);
          same = refl;
        };
        free = λ name plain free none is d left. none_back d (subst (λ (n : List ℕ). Leaves new n d) (is_beside name is) left);
      },
      with_kept db (IsBase base) chain,
    )
