-- What stands after one number more of an order, and what is made then.
use Rattle.std.proofs.Common.{◌≡◌, ◌≢◌, ℕ, ◌-◌, List, [], ◌∷◌, ◌++◌, length, drop, get_or, refl, sym, ap, subst, ◌∙◌, get_or-set_other, length-set, Bool, Contains}
use Rattle.nb_session.proofs.Common.{slice_index_or, true≢false, append-nil, ShowCache, IsAt, waits, backs_up, copies, ends, merges, IsMaking, MadeFile, making_by, under_way, AreAmong, IsNoneOf, NamesOnce, Turn, Begins, Given, Event, Now, Played, outcome, stands_then, take_turn, one_turn, play, files_made, AreFinished, making_play, finished_none, free_turn, under_among, under_play, made_among, played_used, names_once, play-append, turn_holds, Held, AreSixteen, shown_by, begun_first, shown_first, touching_by, Contains-append_left, Contains-append_right}
use Rattle.nb_session.proofs.MadeLaws.{none_among, both_among, once_fewer, made_second, made_ahead, made_both}
use Rattle.nb_session.proofs.PlayLaws.{behind}
use Rattle.nb_session.proofs.TouchingLaws.{touching_among}
use Rattle.nb_session.proofs.TurnLaws.{seen_now}

-- a turn leaves to the other sessions what they have to do
pub keeps_todo : (session i : ℕ) (now : Now) → i ≢ session - 1 → get_or (one_turn session now).1.todo i [] ≡ get_or now.todo i []
unfolding one_turn take_turn stands_then
keeps_todo session i now other = by (get_or now.todo (session - 1) [])
  where
    by : (ts : List Turn) → get_or (take_turn session ts now).1.todo i [] ≡ get_or now.todo i []
    by [] = refl
    by (t ∷ rest) = get_or-set_other now.todo (session - 1) i ((outcome session t now).next ++ rest) [] other

turn_length : (session : ℕ) (now : Now) → length (one_turn session now).1.todo ≡ length now.todo
unfolding one_turn take_turn stands_then
turn_length session now = by (get_or now.todo (session - 1) [])
  where
    by : (ts : List Turn) → length (take_turn session ts now).1.todo ≡ length now.todo
    by [] = refl
    by (t ∷ rest) = length-set now.todo (session - 1) ((outcome session t now).next ++ rest)

pub play_length : (order : List ℕ) (now : Now) → length (play order now).1.todo ≡ length now.todo
unfolding play
play_length [] now = refl
play_length (x ∷ order) now = play_length order (one_turn x now).1 ∙ turn_length x now

play_one : (session : ℕ) (now : Now) → play (session ∷ []) now ≡ one_turn session now
unfolding play
play_one session now = ap (λ (es : List Event). (es, (one_turn session now).1)) (append-nil (one_turn session now).0)

-- one number more of an order
pub play_more : (front : List ℕ) (session : ℕ) (now : Now) → play (front ++ session ∷ []) now ≡ behind (play front now) (one_turn session (play front now).1)
play_more front session now =
    play-append front (session ∷ []) now ∙ ap (λ (p : Played). ((play front now).0 ++ p.0, p.1)) (play_one session (play front now).1)

-- the same, whatever the outside gives
abbrev pub giving : Now → Given → Now
giving now given = record now { given = given }

at_giving : {sound : Bool} (now : Now) (given : Given) (place : ℕ) (todo : List Turn) → IsAt sound now place todo → IsAt sound (giving now given) place todo
at_giving now given place todo (waits all) = waits all
at_giving now given place todo (backs_up left b rest is all runs room free) = backs_up left b rest is all (record { by = runs.by; running = runs.running; its = runs.its; state = runs.state }) room free
at_giving now given place todo (copies left name rest is all runs free) = copies left name rest is all (record { by = runs.by; running = runs.running; its = runs.its; state = runs.state }) free
at_giving now given place todo (ends reply rest is all runs) = ends reply rest is all (record { by = runs.by; running = runs.running; its = runs.its; state = runs.state })
at_giving now given place todo (merges turns runs) = merges turns (record { by = runs.by; running = runs.running; its = runs.its; state = runs.state })

pub making_giving : (now : Now) (given : Given) → AreSixteen given.guids → IsMaking now → IsMaking (giving now given)
making_giving now given sixteen making = record {
  going = record {
    header = making.going.header;
    sure = making.going.sure;
    state = making.going.state;
    frozen = making.going.frozen;
    each = λ place. at_giving now given place (slice_index_or now.todo place []) (making.going.each place);
    sixteen = sixteen;
  };
  named = making.named;
  stalled = making.stalled;
}

-- One number more of an order: of what is made then no two have the same name, and it is among what was made or is under way.
module _ (now : Now) (making : IsMaking now) (front : List ℕ) (session : ℕ) where
  abbrev so_far : Played
  so_far = play front now

  abbrev next : Played
  next = one_turn session so_far.1

  far_making : IsMaking so_far.1
  far_making = making_play front now making

  pub next_others : (n bytes : List ℕ) → Contains (files_made so_far.0) (n, bytes) → IsNoneOf (touching_by session so_far.1) n
  next_others n bytes there other other_there =
      true≢false (sym (free_turn session so_far.1 far_making.named far_making.going (n, other) (touching_among session so_far.1 far_making (n, other) other_there)) ∙ played_used front now making (n, bytes) there)

  module _ (made : List MadeFile) (among : AreAmong made (files_made so_far.0 ++ under_way so_far.1)) where
    abbrev all : List MadeFile
    all = files_made (so_far.0 ++ next.0) ++ under_way next.1

    pub next_among : AreAmong (made ++ touching_by session so_far.1) all
    next_among =
        both_among made (touching_by session so_far.1) all
        (λ file there. made_ahead so_far.0 next.0 (under_way so_far.1) (under_way next.1) (under_among session so_far.1 far_making.named far_making.going) file (among file there))
        (λ file there.
        both_among (files_made next.0) (under_way next.1) all (λ f one. Contains-append_left (files_made (so_far.0 ++ next.0)) (under_way next.1) f (made_second so_far.0 next.0 f one)) (Contains-append_right (files_made (so_far.0 ++ next.0)) (under_way next.1)) file
        (touching_among session so_far.1 far_making file there))

    pub next_once : NamesOnce (made ++ touching_by session so_far.1)
    next_once = once_fewer (made ++ touching_by session so_far.1) all next_among
        (subst (λ (p : Played). NamesOnce (files_made p.0 ++ under_way p.1)) (play_more front session now) (names_once (front ++ session ∷ []) now making))

    pub next_has : AreAmong (files_made so_far.0) made → AreAmong (files_made (so_far.0 ++ next.0)) (made ++ touching_by session so_far.1)
    next_has has = made_both so_far.0 next.0 (made ++ touching_by session so_far.1) (λ file there. Contains-append_left made (touching_by session so_far.1) file (has file there))
        (λ file there.
        Contains-append_right made (touching_by session so_far.1) file
        (Contains-append_right (begun_first session (slice_index_or so_far.1.todo (session - 1) []) so_far.1) (making_by session so_far.1) file (made_among session so_far.1 far_making.going file there)))

-- What is under way after a front of an order was made after all of it, or is under way still.
pub play_ahead : (front rest : List ℕ) (now : Now) → IsMaking now
    → AreAmong (files_made (play front now).0 ++ under_way (play front now).1) (files_made (play (front ++ rest) now).0 ++ under_way (play (front ++ rest) now).1)
play_ahead front rest now making =
    let p : Played = play front now in
    let q : Played = play rest p.1 in
    let behind_it : IsMaking p.1 = making_play front now making in
    subst (λ (r : Played). AreAmong (files_made p.0 ++ under_way p.1) (files_made r.0 ++ under_way r.1)) (sym (play-append front rest now))
    (made_ahead p.0 q.0 (under_way p.1) (under_way q.1) (under_play rest p.1 behind_it.named behind_it.going))

-- once all have finished nothing is
pub finished_among : (events : List Event) (now : Now) → AreFinished now.todo → AreAmong (files_made events ++ under_way now) (files_made events)
finished_among events now finished =
    both_among (files_made events) (under_way now) (files_made events) (λ file there. there) (subst (λ (files : List MadeFile). AreAmong files (files_made events)) (sym (finished_none now finished)) (none_among (files_made events)))

-- A turn takes just the numbers that it shows.
module _ (session : ℕ) (now : Now) (held : Held) (later : List ℕ) where
  holds_then : (t : Turn) → now.given.holds ≡ shown_by t held ++ later → (outcome session t now).given.holds ≡ later
  unfolding outcome
  holds_then (Begins ShowCache) first = turn_holds (seen_now now) session (Begins ShowCache) ∙ ap (drop 1) first
  holds_then t first = turn_holds (seen_now now) session t ∙ first

  pub holds_left : (todo : List Turn) → slice_index_or now.todo (session - 1) [] ≡ todo → now.given.holds ≡ shown_first todo held ++ later → (one_turn session now).1.given.holds ≡ later
  unfolding one_turn take_turn stands_then
  holds_left todo here first = ap (λ (ts : List Turn). (take_turn session ts now).1.given.holds) here ∙ by todo first
    where
      by : (ts : List Turn) → now.given.holds ≡ shown_first ts held ++ later → (take_turn session ts now).1.given.holds ≡ later
      by [] none = none
      by (t ∷ rest) some = holds_then t some
