-- The files that turns make: each was to be made before, under a name that was free, and each but once.
use Rattle.std.proofs.Common.{◌≡◌, ◌≢◌, inl, inr, ⊎_elim, ◌⊎◌, ℕ, zero, suc, ◌-◌, List, [], ◌∷◌, ◌++◌, take, replicate, get_or, refl, sym, ap, subst, ◌∙◌, arith, append_assoc, Bool, Option, Some, None, true, false, ◌==◌, Contains}
use Rattle.nb_model.proofs.Common.{true≢false, and_parts, false_from_ne_true, eqb_tells, append-nil, Contains-append_left, Contains-append_right, Contains-append_cases, is_free_file, is_header, stalled_state, Reply, Statement, Base, Plain, IsBase, close_backup, close_copy, is_free_entry, AreBeginnings, AreMerging, AreNamed, Runs, IsAt, waits, backs_up, copies, merges, IsGoing, IsMaking, Image, Numbered, first_page, image_state, Head, head_then, level_bytes, head_for, changed, file_for, file_of, joined, MadeFile, kept_of, making, making_by, making_all, under_way, AreAmong, NamesOnce, Turn, Begins, Copies, ClosesBackup, ClosesCopy, Ends, Merges, Finishes, Backing, Seen, Outcome, ends_by, Now, Event, Played, base_now, with_made, account_after, outcome, stands_then, one_turn, play, event_of, files_made, AreFinished, base_in, base_after, first_turn, turn, decide, none_in}
use Rattle.nb_model.specs.Going.{ends as ending}
use Rattle.nb_model.proofs.FreeLaws.{free_cases}
use Rattle.nb_model.proofs.GoingLaws.{IsUndisturbed, one_runs, one_cases, own_in_use, own_todo, then_base, going_turn, named_turn, making_turn, others_stay, none_made}
use Rattle.nb_model.proofs.HeaderLaws.{first_byte, same-header, same-number}
use Rattle.nb_model.proofs.OpenedLaws.{joined_front}
use Rattle.nb_model.proofs.OpeningLaws.{in_use}
use Rattle.nb_model.proofs.RunLaws.{entry_same}
use Rattle.nb_model.proofs.SoundLaws.{kind_of_header}
use Rattle.nb_model.proofs.SoundTurns.{seen_now}
use Rattle.nb_model.proofs.StandsLaws.{entry_other}
use Rattle.nb_model.proofs.TurnCases.{begin_either, end_either, activate_either, backup_either, since_either, copy_either, pages_once, statement_cases}

-- one element
pub one_held : (f g : MadeFile) → Contains (f ∷ []) g → f ≡ g
one_held f g (zero, low, is) = is
one_held f g (suc i, low, is) = absurd (omega (arith, low))

held_as : (xs ys : List MadeFile) (f : MadeFile) → xs ≡ ys → Contains xs f → Contains ys f
held_as xs ys f e h = subst (λ (l : List MadeFile). Contains l f) e h

-- what turns are still to make
making_first : (frozen : Image) (t : Turn) (ts : List Turn) → making frozen (t ∷ ts) ≡ making frozen (t ∷ []) ++ making frozen ts
unfolding making
making_first frozen (Begins statement) ts = refl
making_first frozen Copies ts = refl
making_first frozen (ClosesBackup backing) ts = refl
making_first frozen (ClosesCopy name) ts = refl
making_first frozen (Ends reply) ts = refl
making_first frozen Merges ts = refl
making_first frozen (Finishes reply) ts = refl

-- of one turn it is one file at most
one_making : (frozen : Image) (t : Turn) (f g : MadeFile) → Contains (making frozen (t ∷ [])) f → Contains (making frozen (t ∷ [])) g → f ≡ g
unfolding making
one_making frozen (ClosesBackup backing) f g a b = sym (one_held _ f a) ∙ one_held _ g b
one_making frozen (ClosesCopy name) f g a b = sym (one_held _ f a) ∙ one_held _ g b
one_making frozen (Begins statement) f g a b = absurd (none_in f a)
one_making frozen Copies f g a b = absurd (none_in f a)
one_making frozen (Ends reply) f g a b = absurd (none_in f a)
one_making frozen Merges f g a b = absurd (none_in f a)
one_making frozen (Finishes reply) f g a b = absurd (none_in f a)

pub beginnings_make : (frozen : Image) (ts : List Turn) → AreBeginnings ts → making frozen ts ≡ []
unfolding making
beginnings_make frozen [] all = refl
beginnings_make frozen (Begins statement ∷ ts) all = beginnings_make frozen ts all.1
beginnings_make frozen (other ∷ ts) all = absurd all.0

merging_makes : (frozen : Image) (ts : List Turn) → AreMerging ts → making frozen ts ≡ []
unfolding making
merging_makes frozen (Merges ∷ ts) turns = merging_makes frozen ts turns
merging_makes frozen (Finishes reply ∷ ts) turns = beginnings_make frozen ts turns
merging_makes frozen other turns = absurd turns

copies_make : (frozen : Image) (n : ℕ) (ts : List Turn) → making frozen (replicate n Copies ++ ts) ≡ making frozen ts
unfolding making
copies_make frozen zero ts = refl
copies_make frozen (suc n) ts = copies_make frozen n ts

closing_makes : (frozen : Image) (b : Backing) (ts : List Turn) → making frozen (ClosesBackup b ∷ ts) ≡ (b.name, file_of 102 (kept_of b frozen)) ∷ making frozen ts
unfolding making
closing_makes frozen b ts = refl

copying_makes : (frozen : Image) (name : List ℕ) (ts : List Turn) → making frozen (ClosesCopy name ∷ ts) ≡ (name, joined frozen) ∷ making frozen ts
unfolding making
copying_makes frozen name ts = refl

ending_makes : (frozen : Image) (ts : List Turn) (reply : Reply) → making frozen (Ends reply ∷ ts) ≡ making frozen ts
unfolding making
ending_makes frozen ts reply = refl

-- What the session at a place is to make: one file, for which it runs, and whose name is free.
pub record IsToMake (now : Now) (place : ℕ) (ts : List Turn) (f : MadeFile) : Type 0 where
  pub runs : Runs now place 1
  pub free : is_free_entry (now.account.entry f.0) ≡ true
  pub only : making (base_now now).frozen ts ≡ f ∷ []

module _ (now : Now) (place : ℕ) where
  abbrev frozen_now : Image
  frozen_now = (base_now now).frozen

  at_makes : {sound : Bool} (ts : List Turn) → IsAt sound now place ts → (making frozen_now ts ≡ []) ⊎ ((f : MadeFile) × IsToMake now place ts f)
  at_makes ts (waits all) = inl (beginnings_make frozen_now ts all)
  at_makes ts (backs_up left b tail e all runs room free) = inr (
    (b.name, file_of 102 (kept_of b frozen_now)),
    record {
      runs = runs;
      free = free;
      only = ap (making frozen_now) e ∙ copies_make frozen_now left (ClosesBackup b ∷ tail) ∙ closing_makes frozen_now b tail ∙ ap (λ (fs : List MadeFile). (b.name, file_of 102 (kept_of b frozen_now)) ∷ fs) (beginnings_make frozen_now tail all);
    },
  )
  at_makes ts (copies left name tail e all runs free) = inr (
    (name, joined frozen_now),
    record {
      runs = runs;
      free = free;
      only = ap (making frozen_now) e ∙ copies_make frozen_now left (ClosesCopy name ∷ tail) ∙ copying_makes frozen_now name tail ∙ ap (λ (fs : List MadeFile). (name, joined frozen_now) ∷ fs) (beginnings_make frozen_now tail all);
    },
  )
  at_makes ts (ending reply tail e all runs) = inl (ap (making frozen_now) e ∙ ending_makes frozen_now tail reply ∙ beginnings_make frozen_now tail all)
  at_makes ts (merges turns runs) = inl (merging_makes frozen_now ts turns)

  pub to_make : {sound : Bool} (ts : List Turn) (f : MadeFile) → IsAt sound now place ts → Contains (making frozen_now ts) f → IsToMake now place ts f
  to_make ts f at held = ⊎_elim (λ none. absurd (none_in f (held_as (making frozen_now ts) [] f none held)))
      (λ one. subst (IsToMake now place ts) (one_held one.0 f (held_as (making frozen_now ts) (one.0 ∷ []) f one.1.only held)) one.1) (at_makes ts at)

  -- where one is to be made after the next turn, that one copies a page
  copies_before : {sound : Bool} (u : Turn) (rest : List Turn) (f : MadeFile) → IsAt sound now place (u ∷ rest) → Contains (making frozen_now rest) f → u ≡ Copies
  copies_before u rest f (waits all) held = absurd (none_in f (held_as (making frozen_now rest) [] f (beginnings_make frozen_now rest all.1) held))
  copies_before u rest f (backs_up left b tail e all runs room free) held = by left e
    where
      by : (n : ℕ) → u ∷ rest ≡ replicate n Copies ++ ClosesBackup b ∷ tail → u ≡ Copies
      by zero e = let same : rest ≡ tail = cc in absurd (none_in f (held_as (making frozen_now rest) [] f (ap (making frozen_now) same ∙ beginnings_make frozen_now tail all) held))
      by (suc n) e = cc
  copies_before u rest f (copies left name tail e all runs free) held = by left e
    where
      by : (n : ℕ) → u ∷ rest ≡ replicate n Copies ++ ClosesCopy name ∷ tail → u ≡ Copies
      by zero e = let same : rest ≡ tail = cc in absurd (none_in f (held_as (making frozen_now rest) [] f (ap (making frozen_now) same ∙ beginnings_make frozen_now tail all) held))
      by (suc n) e = cc
  copies_before u rest f (ending reply tail e all runs) held =
      let same : rest ≡ tail = cc in absurd (none_in f (held_as (making frozen_now rest) [] f (ap (making frozen_now) same ∙ beginnings_make frozen_now tail all) held))
  copies_before u rest f (merges turns runs) held = absurd (none_in f (held_as (making frozen_now rest) [] f (none u turns) held))
    where
      none : (u : Turn) → AreMerging (u ∷ rest) → making frozen_now rest ≡ []
      none Merges turns = merging_makes frozen_now rest turns
      none (Finishes reply) turns = beginnings_make frozen_now rest turns
      none other turns = absurd turns

-- What is under way is to be made by the session at one place.
under_at : (frozen : Image) (todo : List (List Turn)) (place : ℕ) (f : MadeFile) → Contains (making frozen (get_or todo place [])) f → Contains (making_all frozen todo) f
unfolding making_all making
under_at frozen [] zero f h = absurd (none_in f h)
under_at frozen [] (suc place) f h = absurd (none_in f h)
under_at frozen (ts ∷ todo) zero f h = Contains-append_left (making frozen ts) (making_all frozen todo) f h
under_at frozen (ts ∷ todo) (suc place) f h = Contains-append_right (making frozen ts) (making_all frozen todo) f (under_at frozen todo place f h)

pub under_place : (frozen : Image) (todo : List (List Turn)) (f : MadeFile) → Contains (making_all frozen todo) f → (place : ℕ) × Contains (making frozen (get_or todo place [])) f
unfolding making_all
under_place frozen [] f h = absurd (none_in f h)
under_place frozen (ts ∷ todo) f h =
    ⊎_elim (λ here. (zero, here)) (λ later. let rest = under_place frozen todo f later in (suc rest.0, rest.1)) (Contains-append_cases (making frozen ts) (making_all frozen todo) f h)

-- where all have finished, nothing is
pub finished_none : (now : Now) → AreFinished now.todo → under_way now ≡ []
unfolding making_all making
finished_none now done = by now.todo done
  where
    by : (todo : List (List Turn)) → AreFinished todo → making_all (base_now now).frozen todo ≡ []
    by [] h = refl
    by ([] ∷ todo) h = by todo h
    by ((t ∷ ts) ∷ todo) h = absurd h

-- The turn of a session makes what its next turn is to make.
pub made_append : (xs ys : List Event) → files_made (xs ++ ys) ≡ files_made xs ++ files_made ys
unfolding files_made
made_append [] ys = refl
made_append (x ∷ xs) ys = by x.made (made_append xs ys)
  where
    by : (made : Option MadeFile) → files_made (xs ++ ys) ≡ files_made xs ++ files_made ys
        → elim made as (λ z. List MadeFile) [ Some file ↦ file ∷ files_made (xs ++ ys) | None ↦ files_made (xs ++ ys) ] ≡ elim made as (λ z. List MadeFile) [ Some file ↦ file ∷ files_made xs | None ↦ files_made xs ] ++ files_made ys
    by None rest = rest
    by (Some file) rest = ap (λ (fs : List MadeFile). file ∷ fs) rest

first_makes : (statement : Statement) → (s : Seen) (session : ℕ) → (first_turn s session statement).made ≡ None
unfolding first_turn ends_by
first_makes statement s session = statement_cases (λ x. (first_turn s session x).made ≡ None)
    (λ x on. (pages_once x on s session).made)
    (begin_either None_made s (λ r. refl) (λ may. refl))
    (end_either None_made s session (λ r. refl) (λ may. refl))
    (activate_either None_made s session (λ r. refl) refl (λ may. refl))
    (λ level name. backup_either None_made s session level name (λ r. refl) (λ ask is may. refl))
    (λ guid name. since_either None_made s session guid name (λ r. refl) (λ ask is may. refl))
    (λ name. copy_either None_made s session name (λ r. refl) (λ may. refl))
    statement
  where
    None_made : Outcome → Type 0
    None_made o = o.made ≡ None

-- the file that an outcome makes
abbrev pub of_made : Option MadeFile → List MadeFile
of_made None = []
of_made (Some file) = file ∷ []

pub turn_makes : (u : Turn) → (session : ℕ) (now : Now) → of_made (outcome session u now).made ≡ making (base_now now).frozen (u ∷ [])
unfolding outcome turn making close_backup close_copy ends_by
turn_makes (Begins statement) session now = ap of_made (first_makes statement (seen_now now) session)
turn_makes Copies session now = refl
turn_makes (ClosesBackup backing) session now = refl
turn_makes (ClosesCopy name) session now = refl
turn_makes (Ends reply) session now = refl
turn_makes Merges session now = refl
turn_makes (Finishes reply) session now = refl

pub event_makes : (session : ℕ) (u : Turn) (o : Outcome) → files_made (event_of session u o ∷ []) ≡ of_made o.made
unfolding files_made
event_makes session u o = by o.made
  where
    by : (made : Option MadeFile) → elim made as (λ z. List MadeFile) [ Some file ↦ file ∷ [] | None ↦ [] ] ≡ of_made made
    by None = refl
    by (Some file) = refl

-- Whole bytes are those of no file whose name may be taken.
pub level_used : (version : ℕ) (h : Head) (pages : List Numbered) → is_free_file (Some (level_bytes version h pages)) ≡ false
unfolding level_bytes head_then
level_used version h pages = false_from_ne_true (is_free_file (Some (level_bytes version h pages))) (λ free. by _ free)
  where
    by : (behind : List ℕ) → is_free_file (Some (78 ∷ behind)) ≡ true → ⊥
    by behind free = elim (free_cases (78 ∷ behind) free) [
      | inl zeros ↦ true≢false (sym zeros)
      | inr unfinished ↦
          let header : is_header (78 ∷ behind) ≡ true = (and_parts _ _ (and_parts _ _ unfinished).0).0 in
          omega (arith, kind_of_header (78 ∷ behind) header, first_byte 78 behind)
    ]

joined_used : (frozen : Image) → is_header (first_page frozen) ≡ true → image_state frozen ≡ stalled_state → is_free_file (Some (joined frozen)) ≡ false
joined_used frozen header stalled =
    let front : take 64 (joined frozen) ≡ take 64 (first_page frozen) = ap (λ (pages : Image). take 64 (joined pages)) (sym (append-nil frozen)) ∙ joined_front frozen [] header in
    in_use (joined frozen) (same-header (joined frozen) (first_page frozen) front ∙ header)
    (ap (λ (n : ℕ). n == 3) (same-number (joined frozen) (first_page frozen) front 22 2 (omega arith) ∙ stalled))

module _ (frozen : Image) (header : is_header (first_page frozen) ≡ true) (stalled : image_state frozen ≡ stalled_state) where
  backup_used : (b : Backing) → is_free_file (Some (file_of 102 (kept_of b frozen))) ≡ false
  unfolding file_of file_for
  backup_used b = elim (eqb_tells b.ask.level 0) [
    | inl w ↦ rw (w.0, file_for) (joined_used frozen header stalled)
    | inr w ↦ rw (w.0, file_for) (level_used 102 (head_for (kept_of b frozen) b.ask) (changed b.ask.previous_scn frozen))
  ]

  turn_used : (t : Turn) (f : MadeFile) → Contains (making frozen (t ∷ [])) f → is_free_file (Some f.1) ≡ false
  unfolding making
  turn_used (ClosesBackup b) f held = ap (λ (x : MadeFile). is_free_file (Some x.1)) (sym (one_held _ f held)) ∙ backup_used b
  turn_used (ClosesCopy name) f held = ap (λ (x : MadeFile). is_free_file (Some x.1)) (sym (one_held _ f held)) ∙ joined_used frozen header stalled
  turn_used (Begins statement) f held = absurd (none_in f held)
  turn_used Copies f held = absurd (none_in f held)
  turn_used (Ends reply) f held = absurd (none_in f held)
  turn_used Merges f held = absurd (none_in f held)
  turn_used (Finishes reply) f held = absurd (none_in f held)

-- The entries after an outcome.
module _ {sound : Bool} (session : ℕ) (rest : List Turn) (o : Outcome) (now : Now) (going : IsGoing sound now) where
  abbrev last : Now
  last = stands_then session rest o now

  own_entry : (n : List ℕ) → n ≡ now.name → is_free_entry (last.account.entry n) ≡ false
  unfolding stands_then account_after is_free_entry
  own_entry n same =
      let b : Base = base_after (base_in (now.account.entry now.name)) o.strokes in
      ap (λ (m : List ℕ). is_free_entry (last.account.entry m)) same ∙ ap is_free_entry (entry_same now.name (IsBase b) (with_made o.made now.account))

  other_entry : (n : List ℕ) → n ≢ now.name → last.account.entry n ≡ (with_made o.made now.account).entry n
  unfolding stands_then account_after
  other_entry n off = entry_other now.name n (IsBase (base_after (base_in (now.account.entry now.name)) o.strokes)) (with_made o.made now.account) off

  -- a name that isn't free stays so, where the file that is made has a free one
  used_then : ((f : MadeFile) → o.made ≡ Some f → is_free_entry (now.account.entry f.0) ≡ true) → (n : List ℕ) → is_free_entry (now.account.entry n) ≡ false → is_free_entry (last.account.entry n) ≡ false
  unfolding with_made
  used_then free n used = ⊎_elim (own_entry n) (λ off. ap is_free_entry (other_entry n off) ∙ by o.made refl) (decide n now.name)
    where
      by : (made : Option MadeFile) → o.made ≡ made → is_free_entry ((with_made made now.account).entry n) ≡ false
      by None is = used
      by (Some f) is = ⊎_elim
          (λ same. absurd (true≢false (sym (free f is) ∙ ap (λ (m : List ℕ). is_free_entry (now.account.entry m)) (sym same) ∙ used)))
          (λ other. ap is_free_entry (entry_other f.0 n (Plain f.1 None) now.account other) ∙ used) (decide n f.0)

  -- and that of the file that is made isn't free
  made_then : (f : MadeFile) → o.made ≡ Some f → is_free_entry (now.account.entry f.0) ≡ true → is_free_file (Some f.1) ≡ false → is_free_entry (last.account.entry f.0) ≡ false
  unfolding with_made is_free_entry
  made_then f is free used =
      ap is_free_entry (other_entry f.0 (λ same. own_in_use now going (subst (λ (n : List ℕ). is_free_entry (now.account.entry n) ≡ true) same free)) ∙ ap (λ (made : Option MadeFile). (with_made made now.account).entry f.0) is ∙ entry_same f.0 (Plain f.1 None) now.account)
      ∙ used

-- The next turn of a session.
module _ {sound : Bool} (session : ℕ) (now : Now) (going : IsGoing sound now) (u : Turn) (rest : List Turn) (is : get_or now.todo (session - 1) [] ≡ u ∷ rest) where
  abbrev o : Outcome
  o = outcome session u now

  abbrev frozen_then : Image
  frozen_then = (base_now now).frozen

  at : IsAt sound now (session - 1) (u ∷ rest)
  at = subst (IsAt sound now (session - 1)) is (going.each (session - 1))

  made_is : of_made o.made ≡ making frozen_then (u ∷ [])
  made_is = turn_makes u session now

  own_held : (f : MadeFile) → Contains (making frozen_then (u ∷ [])) f → Contains (making frozen_then (u ∷ rest)) f
  own_held f held = held_as (making frozen_then (u ∷ []) ++ making frozen_then rest) (making frozen_then (u ∷ rest)) f (sym (making_first frozen_then u rest)) (Contains-append_left (making frozen_then (u ∷ [])) (making frozen_then rest) f held)

  event_held : (f : MadeFile) → Contains (files_made (event_of session u o ∷ [])) f → Contains (making frozen_then (u ∷ [])) f
  event_held f held = held_as (files_made (event_of session u o ∷ [])) (making frozen_then (u ∷ [])) f (event_makes session u o ∙ made_is) held

  held_event : (f : MadeFile) → Contains (making frozen_then (u ∷ [])) f → Contains (files_made (event_of session u o ∷ [])) f
  held_event f held = held_as (making frozen_then (u ∷ [])) (files_made (event_of session u o ∷ [])) f (sym (event_makes session u o ∙ made_is)) held

  made_held : (f : MadeFile) → o.made ≡ Some f → Contains (making frozen_then (u ∷ [])) f
  made_held f made = held_as (of_made o.made) (making frozen_then (u ∷ [])) f made_is (subst (λ (m : Option MadeFile). Contains (of_made m) f) (sym made) (0, omega arith, refl))

  own_to_make : (f : MadeFile) → Contains (making frozen_then (u ∷ [])) f → IsToMake now (session - 1) (u ∷ rest) f
  own_to_make f held = to_make now (session - 1) (u ∷ rest) f at (own_held f held)

  held_made : (f : MadeFile) → Contains (making frozen_then (u ∷ [])) f → o.made ≡ Some f
  held_made f held = by o.made (held_as (making frozen_then (u ∷ [])) (of_made o.made) f (sym made_is) held)
    where
      by : (made : Option MadeFile) → Contains (of_made made) f → made ≡ Some f
      by None h = absurd (none_in f h)
      by (Some g) h = ap Some (one_held g f h)

-- One turn makes what its session was to make.
pub made_among : {sound : Bool} (session : ℕ) (now : Now) → IsGoing sound now → AreAmong (files_made (one_turn session now).0) (making_by session now)
made_among session now going = one_cases (λ p. AreAmong (files_made p.0) (making_by session now)) session now (λ f held. absurd (none_in f (held_as (files_made []) [] f none_made held)))
    (λ u rest is f held. subst (λ (ts : List Turn). Contains (making (base_now now).frozen ts) f) (sym is) (own_held session now going u rest is f (event_held session now going u rest is f held)))

copying_base : (session : ℕ) (rest : List Turn) (now : Now) → base_now (stands_then session rest (outcome session Copies now) now) ≡ base_now now
unfolding outcome turn base_after
copying_base session rest now = then_base session rest (outcome session Copies now) now

copying_next : (session : ℕ) (now : Now) → (outcome session Copies now).next ≡ []
unfolding outcome turn
copying_next session now = refl

-- What is under way was made, or is under way still.
pub under_among : {sound : Bool} (session : ℕ) (now : Now) → AreNamed now → IsGoing sound now → AreAmong (under_way now) (files_made (one_turn session now).0 ++ under_way (one_turn session now).1)
under_among {sound = sound} session now named going f held = by (under_place (base_now now).frozen now.todo f held)
  where
    frozen : Image
    frozen = (base_now now).frozen

    by : (place : ℕ) × Contains (making frozen (get_or now.todo place [])) f → Contains (files_made (one_turn session now).0 ++ under_way (one_turn session now).1) f
    by (place, there) = elim (eqb_tells place (session - 1)) [
      | inl w ↦ own (subst (λ (p : ℕ). Contains (making frozen (get_or now.todo p [])) f) w.1 there)
      | inr w ↦
          let q : Played = one_turn session now in
          let t : IsToMake now place (get_or now.todo place []) f = to_make now place (get_or now.todo place []) f (going.each place) there in
          let still : IsUndisturbed now place q = others_stay session now named going place 1 (omega arith) t.runs (λ e. w.1 (sym e)) in
          Contains-append_right (files_made q.0) (under_way q.1) f (under_at (base_now q.1).frozen q.1.todo place f
          (subst (λ (x : Image). Contains (making x (get_or q.1.todo place [])) f) (sym still.frozen) (subst (λ (ts : List Turn). Contains (making frozen ts) f) (sym still.todo) there)))
    ]
      where
        own : Contains (making frozen (get_or now.todo (session - 1) [])) f → Contains (files_made (one_turn session now).0 ++ under_way (one_turn session now).1) f
        own here = one_cases (λ p. Contains (files_made p.0 ++ under_way p.1) f) session now (Contains-append_right (files_made []) (under_way now) f held) (λ u rest is.
            let after : Now = stands_then session rest (outcome session u now) now in
            let es : List Event = event_of session u (outcome session u now) ∷ [] in
            ⊎_elim
            (λ now_it. Contains-append_left (files_made es) (under_way after) f (held_event session now going u rest is f now_it))
            (λ later. Contains-append_right (files_made es) (under_way after) f (left u rest is later))
            (Contains-append_cases (making frozen (u ∷ [])) (making frozen rest) f
            (held_as (making frozen (u ∷ rest)) (making frozen (u ∷ []) ++ making frozen rest) f (making_first frozen u rest) (subst (λ (ts : List Turn). Contains (making frozen ts) f) is here))))
          where
            left : (u : Turn) (rest : List Turn) → get_or now.todo (session - 1) [] ≡ u ∷ rest → Contains (making frozen rest) f → Contains (under_way (stands_then session rest (outcome session u now) now)) f
            left u rest is later =
                let copies : u ≡ Copies = copies_before now (session - 1) u rest f (subst (IsAt sound now (session - 1)) is (going.each (session - 1))) later in
                subst (λ (x : Turn). Contains (under_way (stands_then session rest (outcome session x now) now)) f) (sym copies)
                (under_at (base_now (stands_then session rest (outcome session Copies now) now)).frozen (stands_then session rest (outcome session Copies now) now).todo (session - 1) f
                (subst (λ (b : Base). Contains (making b.frozen (get_or (stands_then session rest (outcome session Copies now) now).todo (session - 1) [])) f) (sym (copying_base session rest now))
                (subst (λ (ts : List Turn). Contains (making frozen ts) f)
                (sym (own_todo session now u rest is (outcome session Copies now) ∙ ap (λ (ts : List Turn). ts ++ rest) (copying_next session now))) later)))

-- What is under way has a free name,
pub under_free : {sound : Bool} (now : Now) → IsGoing sound now → (f : MadeFile) → Contains (under_way now) f → is_free_entry (now.account.entry f.0) ≡ true
under_free now going f held =
    let at = under_place (base_now now).frozen now.todo f held in
    (to_make now at.0 (get_or now.todo at.0 []) f (going.each at.0) at.1).free

-- and is one file at most.
pub under_one : {sound : Bool} (now : Now) → IsGoing sound now → (f g : MadeFile) → Contains (under_way now) f → Contains (under_way now) g → f ≡ g
under_one now going f g a b =
    let at = under_place (base_now now).frozen now.todo f a in
    let by = under_place (base_now now).frozen now.todo g b in
    let first : IsToMake now at.0 (get_or now.todo at.0 []) f = to_make now at.0 (get_or now.todo at.0 []) f (going.each at.0) at.1 in
    let second : IsToMake now by.0 (get_or now.todo by.0 []) g = to_make now by.0 (get_or now.todo by.0 []) g (going.each by.0) by.1 in
    let same : by.0 ≡ at.0 = one_runs now by.0 at.0 1 1 second.runs first.runs in
    one_held f g (held_as _ (f ∷ []) g first.only (subst (λ (p : ℕ). Contains (making (base_now now).frozen (get_or now.todo p [])) g) same by.1))

-- A name that isn't free stays so,
pub used_turn : {sound : Bool} (session : ℕ) (now : Now) → IsGoing sound now → (n : List ℕ) → is_free_entry (now.account.entry n) ≡ false → is_free_entry ((one_turn session now).1.account.entry n) ≡ false
used_turn session now going n used = one_cases (λ p. is_free_entry (p.1.account.entry n) ≡ false) session now used (λ u rest is.
    used_then session rest (outcome session u now) now going (λ f made. (own_to_make session now going u rest is f (made_held session now going u rest is f made)).free) n used)

pub used_play : {sound : Bool} (order : List ℕ) (now : Now) → AreNamed now → IsGoing sound now → (n : List ℕ) → is_free_entry (now.account.entry n) ≡ false → is_free_entry ((play order now).1.account.entry n) ≡ false
unfolding play
used_play [] now named going n used = used
used_play (x ∷ xs) now named going n used = used_play xs (one_turn x now).1 (named_turn x now named going) (going_turn x now named going) n (used_turn x now going n used)

-- so one that is free was so before.
free_before : {sound : Bool} (session : ℕ) (now : Now) → IsGoing sound now → (n : List ℕ) → is_free_entry ((one_turn session now).1.account.entry n) ≡ true → is_free_entry (now.account.entry n) ≡ true
free_before session now going n free = by (is_free_entry (now.account.entry n)) refl
  where
    by : (t : Bool) → is_free_entry (now.account.entry n) ≡ t → is_free_entry (now.account.entry n) ≡ true
    by true is = is
    by false is = absurd (true≢false (sym free ∙ used_turn session now going n is))

made_free : {sound : Bool} (session : ℕ) (now : Now) → IsGoing sound now → (f : MadeFile) → Contains (files_made (one_turn session now).0) f → is_free_entry (now.account.entry f.0) ≡ true
made_free session now going f held = (to_make now (session - 1) (get_or now.todo (session - 1) []) f (going.each (session - 1)) (made_among session now going f held)).free

-- Each file that turns make, and each that is under way then, has a name that was free before.
pub free_turn : {sound : Bool} (session : ℕ) (now : Now) → AreNamed now → IsGoing sound now → (f : MadeFile) → Contains (files_made (one_turn session now).0 ++ under_way (one_turn session now).1) f → is_free_entry (now.account.entry f.0) ≡ true
free_turn session now named going f held =
    let q : Played = one_turn session now in
    ⊎_elim (made_free session now going f) (λ under. free_before session now going f.0 (under_free q.1 (going_turn session now named going) f under)) (Contains-append_cases (files_made q.0) (under_way q.1) f held)

-- what turns make, and what is under way after them, in two parts
parts : (x : ℕ) (xs : List ℕ) (now : Now)
    → files_made (play (x ∷ xs) now).0 ++ under_way (play (x ∷ xs) now).1 ≡ files_made (one_turn x now).0 ++ (files_made (play xs (one_turn x now).1).0 ++ under_way (play xs (one_turn x now).1).1)
unfolding play
parts x xs now =
    let q : Played = one_turn x now in
    let p : Played = play xs q.1 in
    ap (λ (fs : List MadeFile). fs ++ under_way p.1) (made_append q.0 p.0) ∙ append_assoc (files_made q.0) (files_made p.0) (under_way p.1)

no_turn : (now : Now) → files_made (play [] now).0 ++ under_way (play [] now).1 ≡ under_way now
unfolding play
no_turn now = ap (λ (fs : List MadeFile). fs ++ under_way now) none_made

pub free_play : {sound : Bool} (order : List ℕ) (now : Now) → AreNamed now → IsGoing sound now → (f : MadeFile) → Contains (files_made (play order now).0 ++ under_way (play order now).1) f → is_free_entry (now.account.entry f.0) ≡ true
free_play [] now named going f held = under_free now going f (held_as _ (under_way now) f (no_turn now) held)
free_play (x ∷ xs) now named going f held =
    let q : Played = one_turn x now in
    ⊎_elim (made_free x now going f) (λ later. free_before x now going f.0 (free_play xs q.1 (named_turn x now named going) (going_turn x now named going) f later))
    (Contains-append_cases (files_made q.0) _ f (held_as _ _ f (parts x xs now) held))

-- What is under way was made after turns in an order, or is under way still.
pub under_play : {sound : Bool} (order : List ℕ) (now : Now) → AreNamed now → IsGoing sound now → AreAmong (under_way now) (files_made (play order now).0 ++ under_way (play order now).1)
under_play [] now named going f held = held_as (under_way now) _ f (sym (no_turn now)) held
under_play (x ∷ xs) now named going f held =
    let q : Played = one_turn x now in
    let later : List MadeFile = files_made (play xs q.1).0 ++ under_way (play xs q.1).1 in
    held_as (files_made q.0 ++ later) _ f (sym (parts x xs now)) (⊎_elim
    (λ made. Contains-append_left (files_made q.0) later f made)
    (λ under. Contains-append_right (files_made q.0) later f (under_play xs q.1 (named_turn x now named going) (going_turn x now named going) f under))
    (Contains-append_cases (files_made q.0) (under_way q.1) f (under_among x now named going f held)))

-- The name of a file that was made isn't free,
pub made_used : (session : ℕ) (now : Now) → IsMaking now → (f : MadeFile) → Contains (files_made (one_turn session now).0) f → is_free_entry ((one_turn session now).1.account.entry f.0) ≡ false
made_used session now m f = one_cases (λ p. Contains (files_made p.0) f → is_free_entry (p.1.account.entry f.0) ≡ false) session now
    (λ held. absurd (none_in f (held_as (files_made []) [] f none_made held))) (λ u rest is held.
    let own : Contains (making (base_now now).frozen (u ∷ [])) f = event_held session now m.going u rest is f held in
    let t : IsToMake now (session - 1) (u ∷ rest) f = own_to_make session now m.going u rest is f own in
    made_then session rest (outcome session u now) now m.going f (held_made session now m.going u rest is f own) t.free
    (turn_used (base_now now).frozen (m.going.frozen t.runs.state) (m.stalled t.runs.state) u f own))

pub played_used : (order : List ℕ) (now : Now) → IsMaking now → (f : MadeFile) → Contains (files_made (play order now).0) f → is_free_entry ((play order now).1.account.entry f.0) ≡ false
unfolding play
played_used [] now m f held = absurd (none_in f (held_as (files_made []) [] f none_made held))
played_used (x ∷ xs) now m f held =
    let q : Played = one_turn x now in
    let next : IsMaking q.1 = making_turn x now m in
    ⊎_elim (λ made. used_play xs q.1 next.named next.going f.0 (made_used x now m f made)) (played_used xs q.1 next f)
    (Contains-append_cases (files_made q.0) (files_made (play xs q.1).0) f (held_as _ (files_made q.0 ++ files_made (play xs q.1).0) f (made_append q.0 (play xs q.1).0) held))

-- and so no name comes twice.
made_one : {sound : Bool} (session : ℕ) (now : Now) → IsGoing sound now → (f g : MadeFile) → Contains (files_made (one_turn session now).0) f → Contains (files_made (one_turn session now).0) g → f ≡ g
made_one session now going f g = one_cases (λ p. Contains (files_made p.0) f → Contains (files_made p.0) g → f ≡ g) session now
    (λ a b. absurd (none_in f (held_as (files_made []) [] f none_made a)))
    (λ u rest is a b. one_making (base_now now).frozen u f g (event_held session now going u rest is f a) (event_held session now going u rest is g b))

pub names_once : (order : List ℕ) (now : Now) → IsMaking now → NamesOnce (files_made (play order now).0 ++ under_way (play order now).1)
names_once [] now m n a b x y = ap (λ (f : MadeFile). f.1) (under_one now m.going (n, a) (n, b) (held_as _ (under_way now) (n, a) (no_turn now) x) (held_as _ (under_way now) (n, b) (no_turn now) y))
names_once (s ∷ xs) now m n a b x y = by (λ i j. names_once xs (one_turn s now).1 (making_turn s now m) n a b i j) (cases a x) (cases b y)
  where
    q : Played
    q = one_turn s now

    next : IsMaking q.1
    next = making_turn s now m

    later : List MadeFile
    later = files_made (play xs q.1).0 ++ under_way (play xs q.1).1

    cases : (c : List ℕ) → Contains (files_made (play (s ∷ xs) now).0 ++ under_way (play (s ∷ xs) now).1) (n, c) → Contains (files_made q.0) (n, c) ⊎ Contains later (n, c)
    cases c held = Contains-append_cases (files_made q.0) later (n, c) (held_as _ (files_made q.0 ++ later) (n, c) (parts s xs now) held)

    both : (c d : List ℕ) → Contains (files_made q.0) (n, c) → Contains later (n, d) → ⊥
    both c d made rest = true≢false (sym (free_play xs q.1 next.named next.going (n, d) rest) ∙ made_used s now m (n, c) made)

    by : (Contains later (n, a) → Contains later (n, b) → a ≡ b) → Contains (files_made q.0) (n, a) ⊎ Contains later (n, a) → Contains (files_made q.0) (n, b) ⊎ Contains later (n, b) → a ≡ b
    by rest (inl i) (inl j) = ap (λ (f : MadeFile). f.1) (made_one s now m.going (n, a) (n, b) i j)
    by rest (inl i) (inr j) = absurd (both a b i j)
    by rest (inr i) (inl j) = absurd (both b a j i)
    by rest (inr i) (inr j) = rest i j

pub made_once : (order : List ℕ) (now : Now) → IsMaking now → NamesOnce (files_made (play order now).0)
made_once order now m n a b x y =
    let p : Played = play order now in
    names_once order now m n a b (Contains-append_left (files_made p.0) (under_way p.1) (n, a) x) (Contains-append_left (files_made p.0) (under_way p.1) (n, b) y)
