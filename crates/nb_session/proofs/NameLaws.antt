-- The files that turns make have the names that their statements give.
use Rattle.std.proofs.Common.{◌≡◌, inl, inr, ℕ, zero, suc, ◌+◌, ◌-◌, List, [], ◌∷◌, ◌++◌, map, length, replicate, get_or, refl, sym, ap, subst, ◌∙◌, arith, Contains, false, not}
use Rattle.nb_session.proofs.Common.{AllByRecursion, slice_index_or, and_parts, eqb_tells, Contains-append_cases, get_or-map, is_delta, Reply, Statement, BackupSince, CopyTo, room_in, close_backup, close_copy, Image, MadeFile, making, Turn, Begins, Copies, ClosesBackup, ClosesCopy, Ends, Merges, Finishes, Seen, Outcome, ends_by, Now, base_now, outcome, stands_then, one_turn, play, files_made, begun, first_turn, turn, one_cases, own_todo, other_todo, event_makes, made_append, turn_makes, statement_cases, begin_either, end_either, activate_either, backup_either, since_either, copy_either, pages_once, IsFurther, IsAskable, FitsAsked, IsFile, Plan, all_append, not_true}
use Rattle.nb_model.specs.declared.statement.Statement.TheVariants.{Backup}
use Rattle.nb_session.specs.MadeNames.{AnyAsks, AnySessionAsks, Asks, ScriptMakes}

-- P holds of the name of the file that a turn makes, or leaves to be made
abbrev pub HasName : (List ℕ → Type 0) → Turn → Type 0
HasName P (Begins (Backup level name)) = P name
HasName P (Begins (BackupSince guid name)) = P name
HasName P (Begins (CopyTo name)) = P name
HasName P (Begins other) = Unit {0}
HasName P Copies = Unit {0}
HasName P (ClosesBackup b) = P b.name
HasName P (ClosesCopy name) = P name
HasName P (Ends reply) = Unit {0}
HasName P Merges = Unit {0}
HasName P (Finishes reply) = Unit {0}

-- of each turn that is to come
abbrev pub HaveNames : (List ℕ → Type 0) → Now → Type 0
HaveNames P now = (place : ℕ) → AllByRecursion (HasName P) (slice_index_or now.todo place [])

module _ (P : List ℕ → Type 0) where
  abbrev Named : List Turn → Type 0
  Named = AllByRecursion (HasName P)

  many : (n : ℕ) (t last : Turn) → HasName P t → HasName P last → Named (replicate n t ++ last ∷ [])
  many zero t last each end = (end, tt)
  many (suc n) t last each end = (each, many n t last each end)

  module _ (session : ℕ) (s : Seen) where
    abbrev Leaves : Outcome → Type 0
    Leaves o = Named o.next

    merging_names : (reply : Reply) → Leaves (ends_by s session reply)
    unfolding ends_by
    merging_names reply = many (length s.base.diverted) Merges (Finishes reply) tt tt

    first_names : (statement : Statement) → HasName P (Begins statement) → Leaves (first_turn s session statement)
    unfolding first_turn
    first_names = statement_cases (λ x. HasName P (Begins x) → Leaves (first_turn s session x))
        (λ x on named. subst Named (sym (pages_once x on s session).next) tt)
        (λ named. begin_either Leaves s (λ r. tt) (λ may. tt))
        (λ named. end_either Leaves s session (λ r. tt) (λ may. merging_names _))
        (λ named. activate_either Leaves s session (λ r. tt) tt (λ may. merging_names _))
        (λ level name named. backup_either Leaves s session level name (λ r. tt) (λ ask is may. many (length (room_in s.base.image).draft.image) Copies _ tt named))
        (λ guid name named. since_either Leaves s session guid name (λ r. tt) (λ ask is may. many (length (room_in s.base.image).draft.image) Copies _ tt named))
        (λ name named. copy_either Leaves s session name (λ r. tt) (λ may. many (length s.base.frozen) Copies (ClosesCopy name) tt named))

    next_names : (u : Turn) → HasName P u → Leaves (turn s session u)
    unfolding turn close_backup close_copy
    next_names (Begins statement) named = first_names statement named
    next_names (Ends reply) named = merging_names reply
    next_names Copies named = tt
    next_names (ClosesBackup b) named = (tt, tt)
    next_names (ClosesCopy name) named = tt
    next_names Merges named = tt
    next_names (Finishes reply) named = tt

  one_names : (session : ℕ) (now : Now) → HaveNames P now → HaveNames P (one_turn session now).1
  unfolding outcome
  one_names session now named = one_cases (λ p. HaveNames P p.1) session now named (λ u rest is place.
      let o : Outcome = outcome session u now in
      let here : Named (u ∷ rest) = subst Named is (named (session - 1)) in
      elim (eqb_tells place (session - 1)) [
        | inl w ↦ subst (λ (p : ℕ). Named (get_or (stands_then session rest o now).todo p [])) (sym w.1)
            (subst Named (sym (own_todo session now u rest is o)) (all_append (HasName P) o.next rest (next_names session _ u here.0) here.1))
        | inr w ↦ subst Named (sym (other_todo session now u rest is o place w.1)) (named place)
      ])

  making_names : (frozen : Image) (ts : List Turn) → Named ts → (f : MadeFile) → Contains (making frozen ts) f → P f.0
  unfolding making
  making_names frozen [] all f there = absurd (omega (arith, there.1))
  making_names frozen (ClosesBackup b ∷ ts) all f (zero, low, is) = subst (λ (file : MadeFile). P file.0) is all.0
  making_names frozen (ClosesBackup b ∷ ts) all f (suc i, low, is) = making_names frozen ts all.1 f (i, omega (arith, low), is)
  making_names frozen (ClosesCopy name ∷ ts) all f (zero, low, is) = subst (λ (file : MadeFile). P file.0) is all.0
  making_names frozen (ClosesCopy name ∷ ts) all f (suc i, low, is) = making_names frozen ts all.1 f (i, omega (arith, low), is)
  making_names frozen (Begins statement ∷ ts) all f there = making_names frozen ts all.1 f there
  making_names frozen (Copies ∷ ts) all f there = making_names frozen ts all.1 f there
  making_names frozen (Ends reply ∷ ts) all f there = making_names frozen ts all.1 f there
  making_names frozen (Merges ∷ ts) all f there = making_names frozen ts all.1 f there
  making_names frozen (Finishes reply ∷ ts) all f there = making_names frozen ts all.1 f there

  -- so P holds of the name of the file that a turn makes
  turn_made : (session : ℕ) (now : Now) → HaveNames P now → (f : MadeFile) → Contains (files_made (one_turn session now).0) f → P f.0
  unfolding files_made
  turn_made session now named = one_cases (λ p. (f : MadeFile) → Contains (files_made p.0) f → P f.0) session now (λ f none. absurd (omega (arith, none.1)))
      (λ u rest is f there.
      let all : Named (u ∷ rest) = subst Named is (named (session - 1)) in
      making_names (base_now now).frozen (u ∷ []) (all.0, tt) f
      (subst (λ (files : List MadeFile). Contains files f) (event_makes session u (outcome session u now) ∙ turn_makes u session now) there))

  -- and of those of all files that turns make
  pub made_named : (order : List ℕ) (now : Now) → HaveNames P now → (f : MadeFile) → Contains (files_made (play order now).0) f → P f.0
  unfolding play files_made
  made_named [] now named f there = absurd (omega (arith, there.1))
  made_named (x ∷ xs) now named f there =
      elim (Contains-append_cases (files_made (one_turn x now).0) (files_made (play xs (one_turn x now).1).0) f
      (subst (λ (files : List MadeFile). Contains files f) (made_append (one_turn x now).0 (play xs (one_turn x now).1).0) there)) [
        | inl one ↦ turn_made x now named f one
        | inr later ↦ made_named xs (one_turn x now).1 (one_names x now named) f later
      ]

-- a name that a user may give is that of no difference file
pub given_plain : (name : List ℕ) → IsFile name → is_delta name ≡ false
given_plain name is = not_true (is_delta name) (and_parts _ (not (is_delta name)) is).1

-- what a script's statements name its turns do, before the first of them
module _ (P : List ℕ → Type 0) where
  begun_turns : (statements : List Statement) → AllByRecursion (λ s. HasName P (Begins s)) statements → AllByRecursion (HasName P) (map Begins statements)
  begun_turns [] all = tt
  begun_turns (s ∷ statements) all = (all.0, begun_turns statements all.1)

  pub begun_names : (sessions : List (List Statement)) (now : Now) → now.todo ≡ begun sessions → ((place : ℕ) → AllByRecursion (λ s. HasName P (Begins s)) (get_or sessions place [])) → HaveNames P now
  begun_names sessions now todo all place =
      subst (AllByRecursion (HasName P)) (sym (ap (λ (x : List (List Turn)). get_or x place []) todo ∙ get_or-map (map Begins) sessions place [])) (begun_turns (get_or sessions place []) (all place))

asked_plain : (statement : Statement) → FitsAsked statement → HasName (λ name. is_delta name ≡ false) (Begins statement)
asked_plain (Backup level name) fits = given_plain name fits.1
asked_plain (BackupSince guid name) fits = given_plain name fits
asked_plain (CopyTo name) fits = given_plain name fits
asked_plain other fits = tt

all_plain : (statements : List Statement) → AllByRecursion IsFurther statements → AllByRecursion (λ s. HasName (λ name. is_delta name ≡ false) (Begins s)) statements
all_plain [] all = tt
all_plain (s ∷ statements) all = (asked_plain s all.0.fits, all_plain statements all.1)

-- so none of those that a script names is
pub begun_plain : (plan : Plan) → IsAskable plan → (now : Now) → now.todo ≡ begun plan.sessions → HaveNames (λ name. is_delta name ≡ false) now
begun_plain plan askable now todo = begun_names (λ name. is_delta name ≡ false) plan.sessions now todo (λ place.
    let same : place + 1 - 1 ≡ place = omega arith in
    all_plain (get_or plan.sessions place []) (subst (λ (k : ℕ). AllByRecursion IsFurther (get_or plan.sessions k [])) same (askable.further (place + 1))))

-- and each is the name of a file that the script asks for
asked_own : (P : List ℕ → Type 0) (statement : Statement) → ((m : List ℕ) → Asks statement m → P m) → HasName P (Begins statement)
asked_own P (Backup level name) asks = asks name refl
asked_own P (BackupSince guid name) asks = asks name refl
asked_own P (CopyTo name) asks = asks name refl
asked_own P other asks = tt

all_own : (P : List ℕ → Type 0) (statements : List Statement) → ((m : List ℕ) → AnyAsks statements m → P m) → AllByRecursion (λ s. HasName P (Begins s)) statements
all_own P [] asks = tt
all_own P (s ∷ statements) asks = (asked_own P s (λ m one. asks m (inl one)), all_own P statements (λ m later. asks m (inr later)))

in_sessions : (sessions : List (List Statement)) (place : ℕ) (m : List ℕ) → AnyAsks (get_or sessions place []) m → AnySessionAsks sessions m
in_sessions [] zero m asks = absurd asks
in_sessions [] (suc place) m asks = absurd asks
in_sessions (statements ∷ others) zero m asks = inl asks
in_sessions (statements ∷ others) (suc place) m asks = inr (in_sessions others place m asks)

pub begun_asked : (plan : Plan) (now : Now) → now.todo ≡ begun plan.sessions → HaveNames (ScriptMakes plan) now
begun_asked plan now todo = begun_names (ScriptMakes plan) plan.sessions now todo (λ place. all_own (ScriptMakes plan) (get_or plan.sessions place []) (in_sessions plan.sessions place))
