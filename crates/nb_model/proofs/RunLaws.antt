-- Laws of runs.
use Rattle.std.proofs.Common.{◌≡◌, ◌⊎◌, inl, inr, ℕ, zero, suc, ◌+◌, ◌-◌, arith, List, [], ◌∷◌, ◌++◌, get_or, refl, sym, ap, subst, ◌∙◌, append_assoc, Option}
use Rattle.nb_model.proofs.Common.{slice_index_or, leb_tells, append-nil, Base, Entry, IsBase, Account, with_entry, Stroke, base_after, base_in, Turn, Outcome, Now, Event, Played, base_now, account_after, with_made, outcome, stands_then, take_turn, one_turn, play, rounds, all_sessions, AreFinished, IsPlayed, event_of, strokes_of, same_self}
use Rattle.nb_model.proofs.StrokeLaws.{base_after-append}
use Rattle.nb_model.proofs.OutputLaws.{strokes_one}

-- one list of turns after another
pub play-append : (xs ys : List ℕ) (now : Now) → play (xs ++ ys) now ≡ ((play xs now).0 ++ (play ys (play xs now).1).0, (play ys (play xs now).1).1)
unfolding play
play-append [] ys now = refl
play-append (x ∷ xs) ys now =
    ap (λ (r : Played). ((one_turn x now).0 ++ r.0, r.1)) (play-append xs ys (one_turn x now).1)
    ∙ ap (λ (es : List Event). (es, (play ys (play xs (one_turn x now).1).1).1)) (sym (append_assoc (one_turn x now).0 (play xs (one_turn x now).1).0 (play ys (play xs (one_turn x now).1).1).0))

pub entry_same : (name : List ℕ) (entry : Entry) (account : Account) → (with_entry name entry account).entry name ≡ entry
unfolding with_entry
entry_same name entry account = rw (same_self name, with_entry) refl

pub base_in_base : (b : Base) → base_in (IsBase b) ≡ b
unfolding base_in
base_in_base b = refl

after_turn : (name : List ℕ) (ss : List Stroke) (made : Option (List ℕ × List ℕ)) (account : Account) → base_in ((account_after name ss made account).entry name) ≡ base_after (base_in (account.entry name)) ss
unfolding account_after
after_turn name ss made account =
    ap base_in (entry_same name (IsBase (base_after (base_in (account.entry name)) ss)) (with_made made account)) ∙ base_in_base (base_after (base_in (account.entry name)) ss)

strokes_none : (b : Base) → base_after b (strokes_of []) ≡ b
unfolding base_after strokes_of
strokes_none b = refl

pub strokes_of-append : (xs ys : List Event) → strokes_of (xs ++ ys) ≡ strokes_of xs ++ strokes_of ys
unfolding strokes_of
strokes_of-append [] ys = refl
strokes_of-append (x ∷ xs) ys = ap (λ (ss : List Stroke). x.strokes ++ ss) (strokes_of-append xs ys) ∙ sym (append_assoc x.strokes (strokes_of xs) (strokes_of ys))

pub turn_stands : (session : ℕ) (rest : List Turn) (o : Outcome) (now : Now) → base_now (stands_then session rest o now) ≡ base_after (base_now now) o.strokes
unfolding stands_then
turn_stands session rest o now = after_turn now.name o.strokes o.made now.account

pub taken_is : (session : ℕ) (ts : List Turn) (now : Now) → base_now (take_turn session ts now).1 ≡ base_after (base_now now) (strokes_of (take_turn session ts now).0)
unfolding take_turn
taken_is session [] now = sym (strokes_none (base_now now))
taken_is session (t ∷ rest) now = turn_stands session rest (outcome session t now) now ∙ ap (base_after (base_now now)) (sym (strokes_one (event_of session t (outcome session t now))))

pub one_is : (session : ℕ) (now : Now) → base_now (one_turn session now).1 ≡ base_after (base_now now) (strokes_of (one_turn session now).0)
unfolding one_turn
one_is session now = taken_is session (slice_index_or now.todo (session - 1) []) now

-- what stands after turns is the database after their strokes
pub play_is : (xs : List ℕ) (now : Now) → base_now (play xs now).1 ≡ base_after (base_now now) (strokes_of (play xs now).0)
unfolding play
play_is [] now = sym (strokes_none (base_now now))
play_is (x ∷ xs) now =
    play_is xs (one_turn x now).1
    ∙ ap (λ (b : Base). base_after b (strokes_of (play xs (one_turn x now).1).0)) (one_is x now)
    ∙ sym (base_after-append (base_now now) (strokes_of (one_turn x now).0) (strokes_of (play xs (one_turn x now).1).0))
    ∙ ap (base_after (base_now now)) (sym (strokes_of-append (one_turn x now).0 (play xs (one_turn x now).1).0))

-- where all sessions have finished, none has a turn
no_turn : (todo : List (List Turn)) → AreFinished todo → (i : ℕ) → get_or todo i [] ≡ []
no_turn [] h zero = refl
no_turn [] h (suc i) = refl
no_turn ([] ∷ rest) h zero = refl
no_turn ([] ∷ rest) h (suc i) = no_turn rest h i
no_turn ((t ∷ ts) ∷ rest) h i = absurd h

pub nothing_taken : (session : ℕ) (now : Now) → take_turn session [] now ≡ ([], now)
unfolding take_turn
nothing_taken session now = refl

idle : (session : ℕ) (now : Now) → AreFinished now.todo → one_turn session now ≡ ([], now)
unfolding one_turn
idle session now h = ap (λ (ts : List Turn). take_turn session ts now) (no_turn now.todo h (session - 1)) ∙ nothing_taken session now

-- and so further turns do nothing
pub play_finished : (xs : List ℕ) (now : Now) → AreFinished now.todo → play xs now ≡ ([], now)
unfolding play
play_finished [] now h = refl
play_finished (x ∷ xs) now h =
    ap (λ (here : Played). (here.0 ++ (play xs here.1).0, (play xs here.1).1)) (idle x now h)
    ∙ play_finished xs now h

rounds-add : (m n : ℕ) → (k : ℕ) → n ≡ m + k → rounds n ≡ rounds m ++ rounds k
unfolding rounds
rounds-add zero n k e = ap rounds (omega arith)
rounds-add (suc m) zero k e = absurd (omega arith)
rounds-add (suc m) (suc n) k e = ap (λ (xs : List ℕ). all_sessions ++ xs) (rounds-add m n k (omega arith)) ∙ sym (append_assoc all_sessions (rounds m) (rounds k))

-- a run that came to its end goes on to nothing
more_rounds : (schedule : List ℕ) (first : Now) (m k : ℕ) → AreFinished (play (schedule ++ rounds m) first).1.todo
    → play (schedule ++ rounds (m + k)) first ≡ play (schedule ++ rounds m) first
more_rounds schedule first m k h =
    ap (λ (xs : List ℕ). play (schedule ++ xs) first) (rounds-add m (m + k) k refl)
    ∙ ap (λ (xs : List ℕ). play xs first) (sym (append_assoc schedule (rounds m) (rounds k)))
    ∙ play-append (schedule ++ rounds m) (rounds k) first
    ∙ ap (λ (r : Played). ((play (schedule ++ rounds m) first).0 ++ r.0, r.1)) (play_finished (rounds k) (play (schedule ++ rounds m) first).1 h)
    ∙ ap (λ (es : List Event). (es, (play (schedule ++ rounds m) first).1)) (append-nil (play (schedule ++ rounds m) first).0)

parts : (r s : Played) → r ≡ s → (r.0 ≡ s.0) × (r.1 ≡ s.1)
parts r s e = (ap (λ (x : Played). x.0) e, ap (λ (x : Played). x.1) e)

-- a script has one run
pub one_run : (schedule : List ℕ) (first : Now) (es fs : List Event) (x y : Now) → IsPlayed schedule first es x → IsPlayed schedule first fs y → (es ≡ fs) × (x ≡ y)
one_run schedule first es fs x y a b = by_order (least a.how_often b.how_often)
  where
    done : (zs : List Event) (z : Now) (p : IsPlayed schedule first zs z) → AreFinished (play (schedule ++ rounds p.how_often) first).1.todo
    done zs z p = subst (λ (r : Played). AreFinished r.1.todo) (sym p.is) p.finished

    least : (m n : ℕ) → ((k : ℕ) × (n ≡ m + k)) ⊎ ((k : ℕ) × (m ≡ n + k))
    least m n = elim (leb_tells m n) [ inl w ↦ inl (n - m, omega (arith, w.1)) | inr w ↦ inr (m - n, omega (arith, w.1)) ]

    by_order : ((k : ℕ) × (b.how_often ≡ a.how_often + k)) ⊎ ((k : ℕ) × (a.how_often ≡ b.how_often + k)) → (es ≡ fs) × (x ≡ y)
    by_order (inl w) = parts (es, x) (fs, y) (sym a.is ∙ sym (more_rounds schedule first a.how_often w.0 (done es x a)) ∙ ap (λ (n : ℕ). play (schedule ++ rounds n) first) (sym w.1) ∙ b.is)
    by_order (inr w) = parts (es, x) (fs, y) (sym a.is ∙ ap (λ (n : ℕ). play (schedule ++ rounds n) first) w.1 ∙ more_rounds schedule first b.how_often w.0 (done fs y b) ∙ b.is)
