-- After the first statement the database stands ready for the turns of its sessions, and the files that they make are none of its two.
use Rattle.std.proofs.Common.{◌≡◌, ◌≢◌, inl, inr, ℕ, ◌+◌, ◌-◌, ◌≤◌, List, [], ◌∷◌, length, get_or, refl, sym, ap, subst, ◌∙◌, arith, Bool, true, false, not, nat_le, is_some, ◌&&◌, Contains}
use Rattle.nb_top.proofs.Common.{AllByRecursion, and_parts, true≢false, Contains-append_left, is_header, is_name, is_delta, World, Other, decide, is_free_name, Statement, CopyTo, CreateTable, IsBase, Account, is_free_entry, IsNamed, IsGoing, IsMaking, Image, first_page, image_state, MadeFile, under_way, Begins, delta_name, Now, Played, base_now, begun, play, files_made, HasHeader, IsSoundImage, ShowsIn, settled, begun_going, begun_making, own_in_use, free_play, delta_named, delta_same, no_main, OfFiles, Held, IsOpen, name_of, shown_settled, IsFurther, IsAskable, Plan, is_given, IsReady, begun_plain, made_named, free_same, own_entry, KnowsNames, MayBeGiven, not_true}
use Rattle.nb_model.specs.declared.statement.Statement.TheVariants.{Backup, BackupSince}
use Rattle.nb_base.proofs.OwnedLaws.{Holds, holds, base-state}
use Rattle.nb_copy.proofs.InUseLaws.{in_use}

-- a name that a user may give, of so many bytes at most
pub record GivenName (most : ℕ) (name : List ℕ) : Type 0 where
  pub named : is_name name ≡ true
  pub short : nat_le (length name) most ≡ true
  pub plain : is_delta name ≡ false

given_name : (most : ℕ) (name : List ℕ) → is_given most name ≡ true → GivenName most name
given_name most name is =
    let parts = and_parts (is_name name && nat_le (length name) most) (not (is_delta name)) is in
    let front = and_parts (is_name name) (nat_le (length name) most) parts.0 in
    record { named = front.0; short = front.1; plain = not_true (is_delta name) parts.1 }

-- that of a database
pub base_name : (name : List ℕ) → is_given 94 name ≡ true → GivenName 94 name
base_name name is = given_name 94 name is

-- The account after the first statement has the database under its name, and under other names what it had.
pub record IsBehind (before : Account) (name : List ℕ) (now : Now) : Type 0 where
  pub here : now.account.entry name ≡ IsBase (base_now now)
  pub others : (m : List ℕ) → m ≢ name → now.account.entry m ≡ before.entry m

-- So it knows of each name whether it is free.
pub known_behind : (old mid : World) (before : Account) (name : List ℕ) (now : Now) → is_delta name ≡ false → KnowsNames old.files before → IsBehind before name now → ShowsIn name (base_now now) mid.files
    → ((m : List ℕ) → Other (OfFiles name) m → mid.files m ≡ old.files m) → (m : List ℕ) → is_delta m ≡ false → is_free_name mid.files m ≡ is_free_entry (now.account.entry m)
known_behind old mid before name now plain names behind shows read m is = elim (decide m name) [
  | inl own ↦ ap (is_free_name mid.files) own ∙ in_use mid.files name (base_now now) shows
      ∙ sym (ap (λ (n : List ℕ). is_free_entry (now.account.entry n)) own ∙ ap is_free_entry behind.here ∙ own_entry (base_now now))
  | inr off ↦ free_same old.files mid.files m (read m (main off)) (ap is_some (read (delta_name m) (beside off))) ∙ names m is ∙ ap is_free_entry (sym (behind.others m off))
]
  where
    main : m ≢ name → Other (OfFiles name) m
    main off (inl e) = off e
    main off (inr e) = true≢false (sym (delta_named name) ∙ ap is_delta (sym e) ∙ is)

    beside : m ≢ name → Other (OfFiles name) (delta_name m)
    beside off (inl e) = no_main m name plain e
    beside off (inr e) = off (delta_same m name e)

-- What is open then stands ready.
module _ (old mid : World) (before : Account) (name : List ℕ) (plain : is_delta name ≡ false) (names : KnowsNames old.files before) (now : Now) (name_is : now.name ≡ name) (behind : IsBehind before name now) (held : Held)
    (named : name_of held ≡ name) (runs : held.running ≡ now.running) (cap : held.cap ≡ now.cache) (read : (m : List ℕ) → Other (OfFiles name) m → mid.files m ≡ old.files m) (opened : IsOpen mid held (settled (base_now now))) where
  pub first_ready : IsReady mid held (settled (base_now now)) now
  first_ready = record {
    opened = opened;
    base = refl;
    there = ap now.account.entry name_is ∙ behind.here;
    named = named ∙ sym name_is;
    running = runs;
    cache = cap;
    known = λ m is none. known_behind old mid before name now plain names behind (subst (λ (n : List ℕ). ShowsIn n (base_now now) mid.files) named (shown_settled mid held (base_now now) opened)) read m is;
  }

-- What a further statement names is a name, and no difference file's.
pub named_further : (s : Statement) → IsFurther s → IsNamed (Begins s)
named_further (Backup level name) is = (given_name 100 name is.fits.1).named
named_further (BackupSince guid name) is = (given_name 100 name is.fits).named
named_further (CopyTo name) is = (given_name 100 name is.fits).named
named_further (CreateTable table) is = is.fits
named_further other is = tt

abbrev pub IsPlain : List ℕ → Type 0
IsPlain name = is_delta name ≡ false

all_so : {A : Type 0} (P Q : A → Type 0) → ((x : A) → P x → Q x) → (xs : List A) → AllByRecursion P xs → AllByRecursion Q xs
all_so P Q so [] all = tt
all_so P Q so (x ∷ xs) all = (so x all.0, all_so P Q so xs all.1)

module _ (plan : Plan) (askable : IsAskable plan) (now : Now) (todo : now.todo ≡ begun plan.sessions) where
  pub each_further : (Q : Statement → Type 0) → ((s : Statement) → IsFurther s → Q s) → (place : ℕ) → AllByRecursion Q (get_or plan.sessions place [])
  each_further Q so place =
      let same : place + 1 - 1 ≡ place = omega arith in
      all_so IsFurther Q so (get_or plan.sessions place []) (subst (λ (k : ℕ). AllByRecursion IsFurther (get_or plan.sessions k [])) same (askable.further (place + 1)))

  -- the turns of its sessions can be taken on a database, whatever its inventories hold
  pub begins_going : {sound : Bool} → (sound ≡ true → IsSoundImage (base_now now).image) → HasHeader (base_now now).image → image_state (base_now now).image ≤ 2
      → (image_state (base_now now).image ≡ 1 → (is_header (first_page (base_now now).frozen) ≡ true) × (image_state (base_now now).frozen ≡ 1)) → MayBeGiven now.given → IsGoing sound now
  begins_going sure header state frozen sixteen = begun_going now plan.sessions todo header sure state (λ stalled. (frozen stalled).0) sixteen

  pub begins_making : HasHeader (base_now now).image → image_state (base_now now).image ≤ 2
      → (image_state (base_now now).image ≡ 1 → (is_header (first_page (base_now now).frozen) ≡ true) × (image_state (base_now now).frozen ≡ 1)) → MayBeGiven now.given → IsMaking now
  begins_making header state frozen sixteen =
      begun_making now plan.sessions todo (each_further (λ s. IsNamed (Begins s)) named_further) (λ stalled. (frozen stalled).1) (begins_going {sound = false} (λ is. absurd (true≢false (sym is))) header state frozen sixteen)

  -- so on one that was opened
  pub opened_making : (w : World) (held : Held) → IsOpen w held (settled (base_now now)) → MayBeGiven now.given → IsMaking now
  opened_making w held opened sixteen =
      begins_making (record { header = opened.files.agrees.header; scn = omega (arith, opened.agrees.scn, opened.agrees.four) }) (omega (arith, opened.files.agrees.state, opened.files.agrees.opened))
      (λ stalled.
      let same : (base_now now).frozen ≡ parts.main = parts.frozen.stalled (sym main_state ∙ stalled) in
      (ap (λ (image : Image). is_header (first_page image)) same ∙ parts.has.laid.header, ap image_state same ∙ sym main_state ∙ stalled))
      sixteen
    where
      parts : Holds (base_now now) (w.files (name_of held)) (w.files (delta_name (name_of held)))
      parts = holds (name_of held) (base_now now) (w.files (name_of held)) (w.files (delta_name (name_of held))) (shown_settled w held (base_now now) opened)

      main_state : image_state (base_now now).image ≡ image_state parts.main
      main_state = base-state (base_now now) (w.files (name_of held)) (w.files (delta_name (name_of held))) parts

  -- The files that they make are neither a difference file
  pub plain_play : (order : List ℕ) (f : MadeFile) → Contains (files_made (play order now).0) f → is_delta f.0 ≡ false
  plain_play order = made_named IsPlain order now (begun_plain plan askable now todo)

  -- nor the database.
  module _ (making : IsMaking now) (order : List ℕ) where
    pub apart_play : (name bytes : List ℕ) → Contains (files_made (play order now).0) (name, bytes) → OfFiles now.name name → ⊥
    apart_play name bytes there (inl own) =
        let p : Played = play order now in
        own_in_use now making.going
        (ap (λ (n : List ℕ). is_free_entry (now.account.entry n)) (sym own) ∙ free_play order now making.named making.going (name, bytes) (Contains-append_left (files_made p.0) (under_way p.1) (name, bytes) there))
    apart_play name bytes there (inr beside) = true≢false (sym (delta_named now.name) ∙ ap is_delta (sym beside) ∙ plain_play order (name, bytes) there)
