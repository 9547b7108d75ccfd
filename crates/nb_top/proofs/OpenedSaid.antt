-- The first reply of a run is said, if it says one, and then turns are taken.
use Rattle.std.proofs.Common.{◌≡◌, ℕ, List, [], ◌∷◌, ◌++◌, Bool, false, length, take, refl, sym, ap, subst, ◌∙◌, arith, None, Result, Ok, Err, IfOk}
use Rattle.nb_top.proofs.Common.{IsErr, take_all, Files, World, RunError, weaker, untouched_fewer, is_free_name, Base, IsMaking, MadeFile, NamesOnce, output, status_of, guids_in, Event, Now, Played, base_now, begun, replies_of, files_made, rounds, strokes_of, after_steps, steps_in, steps_of, acked_turns, Trail, StandsIn, settled, made_once, steps_one, acked_steps_most, Held, name_of, IsAskable, Plan, IsReady, FrontSaid, SaysLine, StopLeft, PlayedOut, Plays, given_nothing, AreApart, Telling, PlaysOpened, PlaysTold, begun_turns, played_behind, told_turns, take_self, no_err}
use Rattle.nb_host.specs.Calls.{IsStill}
use Rattle.nb_state.proofs.MakesLaws.{still_open}
use Rattle.nb_session.proofs.PlayLaws.{plays_then, plays_failed, plays_cut, plays_wider}
use Rattle.nb_session.proofs.EndLaws.{HasEnd, turns_end}
use Rattle.nb_top.proofs.FirstLaws.{turns}
use Rattle.nb_top.proofs.FirstReady.{apart_play}
use Rattle.nb_top.proofs.MadeRuns.{no_file, none_front, none_made, open_alone}

-- a result that is a failure
pub opened_err : (result : Result Bool RunError) (P : Result Bool RunError → Type 0) → IsErr result → ((e : RunError) → P (Err e)) → P result
opened_err (Ok x) P is plays = absurd (no_err Bool RunError x is)
opened_err (Err e) P is plays = plays e

-- what stands ready stays so while something is said
pub ready_still : (old mid : World) (held : Held) (now : Now) → IsStill old mid → IsReady old held (settled (base_now now)) now → IsReady mid held (settled (base_now now)) now
ready_still old mid held now still ready = record {
  opened = still_open old mid held (settled (base_now now)) still ready.opened;
  base = ready.base;
  there = ready.there;
  named = ready.named;
  running = ready.running;
  cache = ready.cache;
  known = λ m plain none. ap (λ (f : Files). is_free_name f m) still.files ∙ ready.known m plain none;
}

module _ (old mid new : World) (held after : Held) (start : Base) (now : Now) (plan : Plan) (askable : IsAskable plan) (ready : IsReady old held (settled (base_now now)) now) (todo : now.todo ≡ begun plan.sessions)
    (making : IsMaking now) (event : Event) (telling : Telling) (pages : ℕ) (unmade : event.made ≡ None) (line : List ℕ) (output_is : output (event ∷ []) ≡ line) (trail : after_steps (settled start) (steps_in event) ≡ settled (base_now now))
    {S E : Type 0} (told : Result S E) (says : SaysLine told old mid line) where
  abbrev one : Played
  one = (event ∷ [], now)

  trail_is : after_steps (settled start) (steps_of (event ∷ [])) ≡ settled (base_now now)
  trail_is = ap (after_steps (settled start)) (steps_one event) ∙ trail

  all_steps : settled (base_now now) ≡ after_steps (settled start) (take (length (steps_of (event ∷ []))) (steps_of (event ∷ [])))
  all_steps = sym trail_is ∙ ap (after_steps (settled start)) (sym (take_all (length (steps_of (event ∷ []))) (steps_of (event ∷ [])) (omega arith)))

  -- while the line is said
  saying : (files : Files) (said : List ℕ) → FrontSaid old line files said → StopLeft old (name_of held) (settled start) (event ∷ []) [] files said
  saying files said front =
      let part : List ℕ = take front.count line in
      record {
        out = record { part = part; is = front.is; front = take_self front.count line ∙ ap (take (length part)) (sym output_is) };
        count = length (steps_of (event ∷ []));
        front = record { most = omega arith; acknowledged = acked_steps_most (event ∷ []) (length part); unsaid = open_alone event (length part) };
        database = subst (λ (t : Trail). StandsIn (name_of held) t files) all_steps (ready.opened.files.left files front.left);
        each = λ n bytes there. absurd (no_file (n, bytes) there);
        whole = λ n bytes there. absurd (none_front event unmade (acked_turns (event ∷ []) (length part)) (n, bytes) there);
        begun = λ n bytes there. absurd (none_front event unmade (begun_turns (event ∷ []) (length (steps_of (event ∷ [])))) (n, bytes) there);
        others = λ m other. front.left m;
      }

  plays_one : (result : Result Bool RunError) → IfOk result (λ refused. PlayedOut refused old mid held (settled start) now one) → Plays result old mid held held (settled start) now one []
  plays_one result out = record {
    stops = weaker old mid _ _ says.moments saying;
    left = λ n bytes file there is. absurd (no_file (n, bytes) there);
    apart = λ n bytes there. absurd (no_file (n, bytes) there);
    others = untouched_fewer old mid _ _ says.still.left (λ m other. tt);
    others_read = λ m other. ap (λ (f : Files). f m) says.still.files;
    unchanged = λ settled only. says.still.files;
    name = refl;
    done = out;
  }

  -- the turns after it, with the files that they make, and as they are told
  abbrev behind_it : ℕ → Played
  behind_it n = turns plan now n

  abbrev told_behind : ℕ → Played
  told_behind n = told_turns telling pages (behind_it n)

  once : (n : ℕ) → NamesOnce (files_made (behind_it n).0)
  once n = made_once (plan.schedule ++ rounds n) now making

  -- the line wasn't said whole
  pub reply_unsaid : (e : RunError) → PlaysOpened (Err e) old mid held held start event telling pages now plan
  reply_unsaid e =
      let end : HasEnd plan.schedule now 0 = turns_end plan askable now making.going todo 0 in
      let more : Played = told_behind end.how_often in
      let files : List MadeFile = files_made (behind_it end.how_often).0 in
      record {
        how_often = end.how_often;
        plays = plays_wider (Err e) old mid held held (settled start) now (played_behind event more) [] files (λ file there. absurd (no_file file there)) (once end.how_often)
            (subst (λ (n : List ℕ). AreApart n files) (sym ready.named) (apart_play plan askable now todo making (plan.schedule ++ rounds end.how_often)))
            (plays_cut old mid held held (settled start) now one more.0 more.1 [] e (plays_one (Err e) tt));
        finished = end.finished;
        unchanged = λ only. says.still.files;
        guids = tt;
      }

  pub ready_mid : IsReady mid held (settled (base_now now)) now
  ready_mid = ready_still old mid held now says.still ready

  -- it was
  reply_said : status_of (replies_of (event ∷ [])) ≡ 0 → mid.said ≡ old.said ++ line → Plays (Ok false) old mid held held (settled start) now one []
  reply_said fine said = plays_one (Ok false) (record {
    ready = subst (λ (t : Trail). IsReady mid held t now) (sym trail_is) ready_mid;
    said = said ∙ ap (λ (l : List ℕ). old.said ++ l) (sym output_is);
    status = fine;
    given = given_nothing old mid now.given now.given says.gave refl;
    kept = λ n bytes there. absurd (none_made event unmade (n, bytes) there);
  })

  -- turns after it
  pub reply_said_then : status_of (replies_of (event ∷ [])) ≡ 0 → mid.said ≡ old.said ++ line → (result : Result Bool RunError) → PlaysTold result mid new held after (settled (base_now now)) telling pages now plan.schedule
      → PlaysOpened result old new held after start event telling pages now plan
  reply_said_then fine said (Ok refused) whole =
      let more : Played = told_behind whole.how_often in
      let files : List MadeFile = files_made (behind_it whole.how_often).0 in
      record {
        how_often = whole.how_often;
        plays = plays_then old mid new held held after (settled start) now one more [] files (once whole.how_often) (λ file there. absurd (none_made event unmade file there))
            (λ n bytes there. absurd (none_made event unmade (n, bytes) there)) false refused (reply_said fine said)
            (subst (λ (t : Trail). Plays (Ok refused) mid new held after t now more files) (sym trail_is) whole.plays);
        finished = whole.finished;
        unchanged = λ only. whole.plays.unchanged refl only ∙ says.still.files;
        guids = λ some. whole.guids some ∙ ap (λ (l : List (List ℕ)). l ++ guids_in (strokes_of (behind_it whole.how_often).0)) says.gave.guids;
      }
  reply_said_then fine said (Err e) whole =
      let more : Played = told_behind whole.how_often in
      let files : List MadeFile = files_made (behind_it whole.how_often).0 in
      record {
        how_often = whole.how_often;
        plays = plays_failed old mid new held held after (settled start) now one more [] files (once whole.how_often) (λ file there. absurd (none_made event unmade file there))
            (λ n bytes there. absurd (none_made event unmade (n, bytes) there)) false e (reply_said fine said)
            (subst (λ (t : Trail). Plays (Err e) mid new held after t now more files) (sym trail_is) whole.plays);
        finished = whole.finished;
        unchanged = λ only. whole.plays.unchanged refl only ∙ says.still.files;
        guids = tt;
      }
