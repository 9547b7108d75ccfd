-- Which GUIDs turns take of those that may be given: one for each backup that they begin, in order.
use Rattle.std.proofs.Common.{◌≡◌, ◌≢◌, ◌⊎◌, inl, inr, ℕ, ◌-◌, List, [], ◌∷◌, ◌++◌, drop, replicate, Bool, true, false, refl, sym, ap, subst, ◌∙◌, append_assoc, ◌==◌, Some}
use Rattle.nb_session.proofs.Common.{AllByRecursion, slice_index_or, append-nil, append_cancel_right, stalled_state, World, Refusal, Reply, Statement, Ask, room_in, close_backup, close_copy, WasGiven, IsMaking, IsNamed, image_state, Turn, Begins, Copies, ClosesBackup, ClosesCopy, Ends, Merges, Finishes, Outcome, Seen, Given, next_guid, ends_by, end_strokes, Now, Played, outcome, one_turn, play, stands_then, strokes_of, Stroke, page, begin, first_turn, turn, making_turn, one_cases, strokes_of-append, MayStart, refused, started, statement_cases, begin_either, end_either, activate_either, backup_either, since_either, copy_either, pages_once, left_guids}
use Rattle.nb_model.specs.NewGuids.{guids_in}
use Rattle.nb_model.specs.Strokes.{ends}
use Rattle.nb_model.proofs.GuidLaws.{guids_append}
use Rattle.nb_model.proofs.PagesOnly.{ArePages, WritesPages, drafts_write_pages, pages_only, close_pages}
use Rattle.nb_model.proofs.RoomThere.{room_keeps}
use Rattle.nb_session.proofs.TurnLaws.{seen_now}

-- page writes begin no backup
pages_none : (ss : List Stroke) → ArePages ss → guids_in ss ≡ []
unfolding guids_in
pages_none [] all = refl
pages_none (page p bytes ∷ ss) all = pages_none ss all.1
pages_none (other ∷ ss) all = absurd all.0

-- It begins no backup and takes no GUID, or it begins one with the next that may be given.
abbrev pub TakesGuids : (before : Given) → List Stroke → (after : Given) → Type 0
TakesGuids before strokes after =
    ((guids_in strokes ≡ []) × (after.guids ≡ before.guids)) ⊎ ((guids_in strokes ≡ next_guid before ∷ []) × (after.guids ≡ drop 1 before.guids))

module _ (session : ℕ) (now : Now) (making : IsMaking now) where
  abbrev s : Seen
  s = seen_now now

  abbrev Taking : Outcome → Type 0
  Taking o = TakesGuids s.given o.strokes o.given

  refused_takes : (r : Refusal) → Taking (refused s r)
  unfolding guids_in
  refused_takes r = inl (refl, refl)

  ends_take : (reply : Reply) → Taking (ends_by s session reply)
  unfolding ends_by end_strokes guids_in
  ends_take reply = inl (by (image_state s.base.image == stalled_state), refl)
    where
      by : (b : Bool) → guids_in (elim b as (λ z. List Stroke) [ true ↦ ends ∷ [] | false ↦ [] ]) ≡ []
      by true = refl
      by false = refl

  started_takes : (name : List ℕ) (ask : Ask) → MayStart s name → Taking (started s session name ask)
  unfolding guids_in
  started_takes name ask may =
      let draft : List Stroke = (room_in s.base.image).draft.strokes in
      let none : guids_in draft ≡ [] = pages_none draft (room_keeps WritesPages drafts_write_pages s.base.image tt) in
      inr (guids_append draft (begin (next_guid s.given) (Some ask) ∷ []) ∙ ap (λ (l : List (List ℕ)). l ++ next_guid s.given ∷ []) none, refl)

  -- the first turn of a statement
  first_takes : (statement : Statement) → IsNamed (Begins statement) → Taking (first_turn s session statement)
  unfolding first_turn guids_in
  first_takes = statement_cases (λ x. IsNamed (Begins x) → Taking (first_turn s session x))
      (λ x on named. inl (pages_none (first_turn s session x).strokes (pages_only x on s session), ap (λ (g : Given). g.guids) (pages_once x on s session).given ∙ left_guids x s.given))
      (λ named. begin_either Taking s refused_takes (λ may. inr (refl, refl)))
      (λ named. end_either Taking s session refused_takes (λ may. ends_take _))
      (λ named. activate_either Taking s session refused_takes (inl (refl, refl)) (λ may. ends_take _))
      (λ level name named. backup_either Taking s session level name refused_takes (λ ask is may. started_takes name ask may))
      (λ guid name named. since_either Taking s session guid name refused_takes (λ ask is may. started_takes name ask may))
      (λ name named. copy_either Taking s session name refused_takes (λ may. inl (refl, refl)))

  -- and every turn
  turn_takes : (u : Turn) → IsNamed u → Taking (outcome session u now)
  unfolding outcome turn close_backup close_copy guids_in
  turn_takes (Begins statement) named = first_takes statement named
  turn_takes Copies named = inl (refl, refl)
  turn_takes (ClosesBackup backing) named = inl (pages_none (close_backup s backing).strokes (close_pages s backing), refl)
  turn_takes (ClosesCopy name) named = inl (refl, refl)
  turn_takes (Ends reply) named = ends_take reply
  turn_takes Merges named = inl (refl, refl)
  turn_takes (Finishes reply) named = inl (refl, refl)

  one_takes : TakesGuids now.given (strokes_of (one_turn session now).0) (one_turn session now).1.given
  unfolding strokes_of stands_then guids_in
  one_takes = one_cases (λ p. TakesGuids now.given (strokes_of p.0) p.1.given) session now (inl (refl, refl))
      (λ u rest is.
      subst (λ (ss : List Stroke). TakesGuids now.given ss (outcome session u now).given) (sym (append-nil (outcome session u now).strokes)) (turn_takes u (subst (AllByRecursion IsNamed) is (making.named (session - 1))).0))

-- where one is left to be taken, the next is the first
first_there : (guids rest : List (List ℕ)) (given : Given) → given.guids ≡ guids → drop 1 guids ≡ rest → rest ≢ [] → given.guids ≡ next_guid given ∷ rest
first_there [] rest given is behind some = absurd (some (sym behind))
first_there (guid ∷ guids) rest given is behind some = is ∙ ap (λ (l : List (List ℕ)). guid ∷ l) behind ∙ ap (λ (l : List (List ℕ)). slice_index_or l 0 (replicate 16 0) ∷ rest) (sym is)

none_front : (xs ys : List (List ℕ)) → xs ++ ys ≡ [] → ys ≡ []
none_front [] ys is = is
none_front (x ∷ xs) ys is = absurd cc

-- Where some GUID is left after turns, they have taken those of the backups that they began, in order.
pub play_takes : (order : List ℕ) (now : Now) → IsMaking now → (play order now).1.given.guids ≢ [] → now.given.guids ≡ guids_in (strokes_of (play order now).0) ++ (play order now).1.given.guids
unfolding play strokes_of guids_in
play_takes [] now making some = refl
play_takes (x ∷ order) now making some =
    let here : Played = one_turn x now in
    let later : Played = play order here.1 in
    let last : List (List ℕ) = later.1.given.guids in
    let rest : here.1.given.guids ≡ guids_in (strokes_of later.0) ++ last = play_takes order here.1 (making_turn x now making) some in
    let both : guids_in (strokes_of (here.0 ++ later.0)) ≡ guids_in (strokes_of here.0) ++ guids_in (strokes_of later.0) = ap guids_in (strokes_of-append here.0 later.0) ∙ guids_append (strokes_of here.0) (strokes_of later.0) in
    let all : now.given.guids ≡ guids_in (strokes_of here.0) ++ here.1.given.guids = elim (one_takes x now making) [
      | inl none ↦ sym none.1 ∙ ap (λ (l : List (List ℕ)). l ++ here.1.given.guids) (sym none.0)
      | inr one ↦
          first_there now.given.guids here.1.given.guids now.given refl (sym one.1) (λ empty. some (none_front (guids_in (strokes_of later.0)) last (sym rest ∙ empty)))
          ∙ ap (λ (l : List (List ℕ)). l ++ here.1.given.guids) (sym one.0)
    ] in
    all ∙ ap (λ (l : List (List ℕ)). guids_in (strokes_of here.0) ++ l) rest ∙ sym (append_assoc (guids_in (strokes_of here.0)) (guids_in (strokes_of later.0)) last)
    ∙ ap (λ (l : List (List ℕ)). l ++ last) (sym both)

-- so just those were given
pub given_taken : (old new : World) (order : List ℕ) (now : Now) → IsMaking now → WasGiven old new now.given (play order now).1.given → (play order now).1.given.guids ≢ [] → new.guids ≡ old.guids ++ guids_in (strokes_of (play order now).0)
given_taken old new order now making given some =
    given.guids
    ∙ ap (λ (l : List (List ℕ)). old.guids ++ l)
    (append_cancel_right given.ids (guids_in (strokes_of (play order now).0)) (play order now).1.given.guids (sym given.guids_first ∙ play_takes order now making some))
