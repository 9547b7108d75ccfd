-- Which turns make a file of which name.
use Rattle.std.proofs.Common.{◌≡◌, ◌≢◌, inl, inr, ℕ, zero, suc, ◌-◌, ◌<◌, ◌≤◌, List, [], ◌∷◌, ◌++◌, length, get_or, set, refl, sym, ap, subst, arith, get_or-set_same, Bool, Contains}
use Rattle.nb_session.proofs.Common.{AllByRecursion, slice_index_or, Contains-append_left, Contains-append_right, Contains-append_cases, close_backup, close_copy, AreBeginnings, Runs, IsAt, waits, backs_up, copies, ends, merges, IsGoing, Image, file_of, joined, MadeFile, kept_of, making, making_all, under_way, IsNoneOf, Turn, Begins, Copies, ClosesBackup, ClosesCopy, Ends, Merges, Finishes, Outcome, Now, base_now, outcome, event_of, stands_then, files_made, turn, one_held, all_front}
use Rattle.nb_session.proofs.AllLaws.{all_at}

-- the turn makes no file of that name
abbrev pub MakesNo : (name : List ℕ) → Turn → Type 0
MakesNo name (Begins statement) = Unit {0}
MakesNo name Copies = Unit {0}
MakesNo name (ClosesBackup b) = b.name ≢ name
MakesNo name (ClosesCopy n) = n ≢ name
MakesNo name (Ends reply) = Unit {0}
MakesNo name Merges = Unit {0}
MakesNo name (Finishes reply) = Unit {0}

-- none of these turns does
abbrev pub MakeNo : (name : List ℕ) → List Turn → Type 0
MakeNo name ts = AllByRecursion (MakesNo name) ts

first_is : (n name bytes : List ℕ) (files : List MadeFile) → n ≡ name → Contains ((n, bytes) ∷ files) (name, bytes)
first_is n name bytes files same = (0, omega arith, ap (λ (m : List ℕ). (m, bytes)) same)

one_more : (n name bytes : List ℕ) (files : List MadeFile) → IsNoneOf ((n, bytes) ∷ files) name → (n ≢ name) × IsNoneOf files name
one_more n name bytes files none = (λ same. none bytes (first_is n name bytes files same), λ others there. none others (Contains-append_right ((n, bytes) ∷ []) files (name, others) there))

one_less : (n name bytes : List ℕ) (files : List MadeFile) → n ≢ name → IsNoneOf files name → IsNoneOf ((n, bytes) ∷ files) name
one_less n name bytes files other none others there = elim (Contains-append_cases ((n, bytes) ∷ []) files (name, others) there) [
  | inl here ↦ other (ap (λ (f : MadeFile). f.0) (one_held (n, bytes) (name, others) here))
  | inr later ↦ none others later
]

pub none_make : (frozen : Image) (ts : List Turn) (name : List ℕ) → IsNoneOf (making frozen ts) name → MakeNo name ts
unfolding making
none_make frozen [] name none = tt
none_make frozen (Begins statement ∷ ts) name none = (tt, none_make frozen ts name none)
none_make frozen (Copies ∷ ts) name none = (tt, none_make frozen ts name none)
none_make frozen (ClosesBackup b ∷ ts) name none = let both = one_more b.name name (file_of 102 (kept_of b frozen)) (making frozen ts) none in (both.0, none_make frozen ts name both.1)
none_make frozen (ClosesCopy n ∷ ts) name none = let both = one_more n name (joined frozen) (making frozen ts) none in (both.0, none_make frozen ts name both.1)
none_make frozen (Ends reply ∷ ts) name none = (tt, none_make frozen ts name none)
none_make frozen (Merges ∷ ts) name none = (tt, none_make frozen ts name none)
none_make frozen (Finishes reply ∷ ts) name none = (tt, none_make frozen ts name none)

pub make_none : (frozen : Image) (ts : List Turn) (name : List ℕ) → MakeNo name ts → IsNoneOf (making frozen ts) name
unfolding making
make_none frozen [] name all = λ bytes there. omega (arith, there.1)
make_none frozen (Begins statement ∷ ts) name all = make_none frozen ts name all.1
make_none frozen (Copies ∷ ts) name all = make_none frozen ts name all.1
make_none frozen (ClosesBackup b ∷ ts) name all = one_less b.name name (file_of 102 (kept_of b frozen)) (making frozen ts) all.0 (make_none frozen ts name all.1)
make_none frozen (ClosesCopy n ∷ ts) name all = one_less n name (joined frozen) (making frozen ts) all.0 (make_none frozen ts name all.1)
make_none frozen (Ends reply ∷ ts) name all = make_none frozen ts name all.1
make_none frozen (Merges ∷ ts) name all = make_none frozen ts name all.1
make_none frozen (Finishes reply ∷ ts) name all = make_none frozen ts name all.1

-- of all sessions
pub none_make_all : (frozen : Image) (todo : List (List Turn)) (name : List ℕ) → IsNoneOf (making_all frozen todo) name → AllByRecursion (MakeNo name) todo
unfolding making_all
none_make_all frozen [] name none = tt
none_make_all frozen (ts ∷ todo) name none = (
  none_make frozen ts name (λ bytes there. none bytes (Contains-append_left (making frozen ts) (making_all frozen todo) (name, bytes) there)),
  none_make_all frozen todo name (λ bytes there. none bytes (Contains-append_right (making frozen ts) (making_all frozen todo) (name, bytes) there)),
)

pub make_none_all : (frozen : Image) (todo : List (List Turn)) (name : List ℕ) → AllByRecursion (MakeNo name) todo → IsNoneOf (making_all frozen todo) name
unfolding making_all
make_none_all frozen [] name all = λ bytes there. omega (arith, there.1)
make_none_all frozen (ts ∷ todo) name all = λ bytes there. elim (Contains-append_cases (making frozen ts) (making_all frozen todo) (name, bytes) there) [
  | inl here ↦ make_none frozen ts name all.0 bytes here
  | inr later ↦ make_none_all frozen todo name all.1 bytes later
]

-- the parts of what holds of a whole list
all_back : {A : Type 0} (P : A → Type 0) (xs ys : List A) → AllByRecursion P (xs ++ ys) → AllByRecursion P ys
all_back P [] ys all = all
all_back P (x ∷ xs) ys all = all_back P xs ys all.1

-- with the element that stood at a place before
all_unset : {A : Type 0} (P : A → Type 0) (xs : List A) (i : ℕ) (y none : A) → P (get_or xs i none) → AllByRecursion P (set xs i y) → AllByRecursion P xs
all_unset P [] i y none here all = tt
all_unset P (x ∷ xs) zero y none here all = (here, all.1)
all_unset P (x ∷ xs) (suc i) y none here all = (all.0, all_unset P xs i y none here all.1)

-- of each place
all_places : (P : List Turn → Type 0) (todo : List (List Turn)) → ((i : ℕ) → P (get_or todo i [])) → AllByRecursion P todo
all_places P [] each = tt
all_places P (ts ∷ todo) each = (each 0, all_places P todo (λ i. each (suc i)))

-- a place with a turn is one of the list's
pub place_in : (todo : List (List Turn)) (i : ℕ) (u : Turn) (rest : List Turn) → get_or todo i [] ≡ u ∷ rest → i < length todo
place_in [] i u rest is = absurd (no_turn is)
  where
    no_turn : get_or [] i [] ≡ u ∷ rest → ⊥
    no_turn h = cc
place_in (ts ∷ todo) zero u rest is = omega arith
place_in (ts ∷ todo) (suc i) u rest is = let later = place_in todo i u rest is in omega arith

-- A turn that makes none makes none of these.
pub makes_none : (session : ℕ) (u : Turn) (now : Now) (name : List ℕ) → IsNoneOf (files_made (event_of session u (outcome session u now) ∷ [])) name → MakesNo name u
unfolding outcome turn close_backup close_copy files_made
makes_none session (Begins statement) now name none = tt
makes_none session Copies now name none = tt
makes_none session (ClosesBackup b) now name none = (one_more b.name name (file_of 102 (kept_of b (base_now now).frozen)) [] none).0
makes_none session (ClosesCopy n) now name none = (one_more n name (joined (base_now now).frozen) [] none).0
makes_none session (Ends reply) now name none = tt
makes_none session Merges now name none = tt
makes_none session (Finishes reply) now name none = tt

-- What was in the making of a name is made by the turn or still to be made.
module _ (now : Now) (session : ℕ) (u : Turn) (rest : List Turn) (here : slice_index_or now.todo (session - 1) [] ≡ u ∷ rest) (name : List ℕ) where
  then_todo : (o : Outcome) → (stands_then session rest o now).todo ≡ set now.todo (session - 1) (o.next ++ rest)
  unfolding stands_then
  then_todo o = refl

  pub none_before : (o : Outcome) → MakesNo name u → IsNoneOf (under_way (stands_then session rest o now)) name → IsNoneOf (under_way now) name
  none_before o makes none =
      let all : AllByRecursion (MakeNo name) (set now.todo (session - 1) (o.next ++ rest)) =
      subst (AllByRecursion (MakeNo name)) (then_todo o) (none_make_all (base_now (stands_then session rest o now)).frozen (stands_then session rest o now).todo name none) in
      let mine : MakeNo name (o.next ++ rest) =
      subst (MakeNo name) (get_or-set_same now.todo (session - 1) (o.next ++ rest) [] (place_in now.todo (session - 1) u rest here)) (all_at (MakeNo name) (set now.todo (session - 1) (o.next ++ rest)) (session - 1) [] tt all) in
      make_none_all (base_now now).frozen now.todo name
      (all_unset (MakeNo name) now.todo (session - 1) (o.next ++ rest) [] (subst (MakeNo name) (sym here) (makes, all_back (MakesNo name) o.next rest mine)) all)

  -- where nobody makes it, this session doesn't
  pub none_here : (frozen : Image) (tail more : List Turn) → rest ≡ tail ++ more → IsNoneOf (under_way now) name → IsNoneOf (making frozen (u ∷ tail)) name
  none_here frozen tail more is none =
      let mine : MakeNo name (u ∷ rest) = subst (MakeNo name) here (all_at (MakeNo name) now.todo (session - 1) [] tt (none_make_all (base_now now).frozen now.todo name none)) in
      make_none frozen (u ∷ tail) name (mine.0, all_front (MakesNo name) tail more (subst (MakeNo name) is mine.1))

begin_none : (ts : List Turn) (name : List ℕ) → AreBeginnings ts → MakeNo name ts
begin_none [] name all = tt
begin_none (Begins statement ∷ ts) name all = (tt, begin_none ts name all.1)
begin_none (Copies ∷ ts) name all = absurd all.0
begin_none (ClosesBackup b ∷ ts) name all = absurd all.0
begin_none (ClosesCopy n ∷ ts) name all = absurd all.0
begin_none (Ends reply ∷ ts) name all = absurd all.0
begin_none (Merges ∷ ts) name all = absurd all.0
begin_none (Finishes reply ∷ ts) name all = absurd all.0

-- where no copy and no merge is under way, no file is in the making
pub none_runs : {sound : Bool} (now : Now) → IsGoing sound now → ((place number : ℕ) → 1 ≤ number → Runs now place number → ⊥) → (name : List ℕ) → IsNoneOf (under_way now) name
none_runs {sound = sound} now going none name = make_none_all (base_now now).frozen now.todo name (all_places (MakeNo name) now.todo (λ place. at place (slice_index_or now.todo place []) (going.each place)))
  where
    at : (place : ℕ) (ts : List Turn) → IsAt sound now place ts → MakeNo name ts
    at place ts (waits all) = begin_none ts name all
    at place ts (backs_up left b rest is all runs room free) = absurd (none place 1 (omega arith) runs)
    at place ts (copies left n rest is all runs free) = absurd (none place 1 (omega arith) runs)
    at place ts (ends reply rest is all runs) = absurd (none place 1 (omega arith) runs)
    at place ts (merges all runs) = absurd (none place 2 (omega arith) runs)
