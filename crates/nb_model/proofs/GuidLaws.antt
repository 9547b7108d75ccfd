-- The GUIDs of the backups that begin in a part of a run are among those of all of it.
use Rattle.std.proofs.Common.{◌≡◌, ℕ, List, [], ◌∷◌, ◌++◌, take, drop, refl, sym, ap, subst, ◌∙◌, take-append-drop, true, false, Bool}
use Rattle.nb_model.proofs.Common.{append-nil, Contains-append_left, Contains-append_right, World, Kept, Base, ComeOnce, AreNew, guids_in, Event, strokes_of, Step, makes, settles, after_step, after_steps, made, strokes_in, steps_in, steps_of, Stroke, begin, base_after, Trail, settled, after_stroke}
use Rattle.nb_model.proofs.TrailLaws.{trail_base}

pub guids_append : (xs ys : List Stroke) → guids_in (xs ++ ys) ≡ guids_in xs ++ guids_in ys
unfolding guids_in
guids_append [] ys = refl
guids_append (begin guid ask ∷ xs) ys = ap (λ (l : List (List ℕ)). guid ∷ l) (guids_append xs ys)
guids_append (other ∷ xs) ys = guids_append xs ys

-- the strokes among steps
pub strokes_in_append : (xs ys : List Step) → strokes_in (xs ++ ys) ≡ strokes_in xs ++ strokes_in ys
unfolding strokes_in
strokes_in_append [] ys = refl
strokes_in_append (makes s ∷ xs) ys = ap (λ (ss : List Stroke). s ∷ ss) (strokes_in_append xs ys)
strokes_in_append (settles ∷ xs) ys = strokes_in_append xs ys

strokes_in_made : (ss : List Stroke) → strokes_in (made ss) ≡ ss
unfolding strokes_in made
strokes_in_made [] = refl
strokes_in_made (s ∷ ss) = ap (λ (xs : List Stroke). s ∷ xs) (strokes_in_made ss)

settling_none : (waits : Bool) → strokes_in (elim waits as (λ z. List Step) [ true ↦ settles ∷ [] | false ↦ [] ]) ≡ []
unfolding strokes_in
settling_none true = refl
settling_none false = refl

strokes_in_turn : (e : Event) → strokes_in (steps_in e) ≡ e.strokes
strokes_in_turn e =
    let tail : List Step = elim e.syncs as (λ z. List Step) [ true ↦ settles ∷ [] | false ↦ [] ] in
    strokes_in_append (made e.strokes) tail ∙ ap (λ (ss : List Stroke). ss ++ strokes_in tail) (strokes_in_made e.strokes) ∙ ap (λ (ss : List Stroke). e.strokes ++ ss) (settling_none e.syncs) ∙ append-nil e.strokes

-- those of a run's steps are its strokes
pub strokes_in_steps : (es : List Event) → strokes_in (steps_of es) ≡ strokes_of es
unfolding steps_of strokes_of strokes_in
strokes_in_steps [] = refl
strokes_in_steps (e ∷ es) = strokes_in_append (steps_in e) (steps_of es) ∙ ap (λ (ss : List Stroke). ss ++ strokes_in (steps_of es)) (strokes_in_turn e) ∙ ap (λ (ss : List Stroke). e.strokes ++ ss) (strokes_in_steps es)

-- the database that is seen after steps is the one after their strokes
pub seen_strokes : (ss : List Step) (t : Trail) → (after_steps t ss).base ≡ base_after t.base (strokes_in ss)
unfolding after_steps after_step strokes_in base_after
seen_strokes [] t = refl
seen_strokes (makes s ∷ ss) t = seen_strokes ss (after_stroke s t) ∙ ap (λ (b : Base). base_after b (strokes_in ss)) (trail_base s t)
seen_strokes (settles ∷ ss) t = seen_strokes ss (settled t.base)

-- of GUIDs that are new the first are, and the last
once_first : (xs ys : List (List ℕ)) → ComeOnce (xs ++ ys) → ComeOnce xs
once_first [] ys once = tt
once_first (x ∷ xs) ys once = (λ there. once.0 (Contains-append_left xs ys x there), once_first xs ys once.1)

once_last : (xs ys : List (List ℕ)) → ComeOnce (xs ++ ys) → ComeOnce ys
once_last [] ys once = once
once_last (x ∷ xs) ys once = once_last xs ys once.1

pub new_first : (w : World) (kept : List Kept) (xs ys : List (List ℕ)) → AreNew w kept (xs ++ ys) → AreNew w kept xs
new_first w kept xs ys new = record { each = λ guid there. new.each guid (Contains-append_left xs ys guid there); once = once_first xs ys new.once }

pub new_last : (w : World) (kept : List Kept) (xs ys : List (List ℕ)) → AreNew w kept (xs ++ ys) → AreNew w kept ys
new_last w kept xs ys new = record { each = λ guid there. new.each guid (Contains-append_right xs ys guid there); once = once_last xs ys new.once }

-- so are those of some of the steps
module _ (w : World) (kept : List Kept) (xs ys : List Step) (new : AreNew w kept (guids_in (strokes_in (xs ++ ys)))) where
  both : AreNew w kept (guids_in (strokes_in xs) ++ guids_in (strokes_in ys))
  both = subst (AreNew w kept) (ap guids_in (strokes_in_append xs ys) ∙ guids_append (strokes_in xs) (strokes_in ys)) new

  pub first_steps_new : AreNew w kept (guids_in (strokes_in xs))
  first_steps_new = new_first w kept (guids_in (strokes_in xs)) (guids_in (strokes_in ys)) both

  pub last_steps_new : AreNew w kept (guids_in (strokes_in ys))
  last_steps_new = new_last w kept (guids_in (strokes_in xs)) (guids_in (strokes_in ys)) both

pub front_new : (w : World) (kept : List Kept) (ss : List Step) → AreNew w kept (guids_in (strokes_in ss)) → (k : ℕ) → AreNew w kept (guids_in (strokes_in (take k ss)))
front_new w kept ss new k = first_steps_new w kept (take k ss) (drop k ss) (subst (λ (xs : List Step). AreNew w kept (guids_in (strokes_in xs))) (sym (take-append-drop k ss)) new)
