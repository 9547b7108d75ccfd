-- A run that is refused at once.
use Rattle.std.proofs.Common.{◌≡◌, inl, ℕ, List, [], ◌∷◌, ◌++◌, length, take, refl, sym, ap, subst, ◌∙◌, arith, Result, Ok, Err, IfOk, OnOk, Option, None}
use Rattle.nb_top.proofs.Common.{append-nil, Files, World, AtEachMoment, Refusal, RunError, weaker, Account, line_text, Given, guids_in, Event, strokes_of, steps_of, acked_turns, status_after, output_one, status_one, acked_steps_most, FrontSaid, SaysLine, given_nothing, Status, number_of, RunLeft, RunReads, RunsTo, Finished, HasSmallScn, IsPerformed, Target, first_event, target_of, Request, ToRun, ToGenerate, begun_turns, take_self}
use Rattle.nb_model.specs.declared.reply.Reply.TheVariants.{Refused}
use Rattle.nb_top.proofs.MadeRuns.{none_front, none_made, open_alone}

module _ (old new : World) (session : ℕ) (refusal : Refusal) (account : Account) (given : Given) (asked : Result Request Refusal) where
  abbrev event : Event
  event = first_event session [] (Refused refusal)

  -- no database is asked for
  none_asked : target_of asked (event ∷ []) ≡ None
  none_asked = by asked
    where
      by : (a : Result Request Refusal) → target_of a (event ∷ []) ≡ None
      by (Ok (ToRun plan telling)) = refl
      by (Ok (ToGenerate number name)) = refl
      by (Err r) = refl

  -- a front of its line was said
  refused_left : (files : Files) (said : List ℕ) → FrontSaid old (line_text session (Refused refusal)) files said → RunLeft old account None (event ∷ []) files said
  refused_left files said front =
      let part : List ℕ = take front.count (line_text session (Refused refusal)) in
      record {
        out = record { part = part; is = front.is; front = take_self front.count (line_text session (Refused refusal)) ∙ ap (take (length part)) (sym (output_one event (Refused refusal) refl)) };
        count = length (steps_of (event ∷ []));
        front = record { most = omega arith; acknowledged = acked_steps_most (event ∷ []) (length part); unsaid = open_alone event (length part) };
        database = tt;
        each = λ n bytes there. absurd (none_made event refl (n, bytes) there);
        whole = λ n bytes there. absurd (none_front event refl (acked_turns (event ∷ []) (length part)) (n, bytes) there);
        begun = λ n bytes there. absurd (none_front event refl (begun_turns (event ∷ []) (length (steps_of (event ∷ [])))) (n, bytes) there);
        others = λ m unasked none. front.left m;
      }

  -- it takes no GUID
  none_given : old.guids ≡ old.guids ++ guids_in (strokes_of (event ∷ []))
  unfolding strokes_of guids_in
  none_given = sym (append-nil old.guids)

  -- no file reads otherwise
  refused_reads : {S E : Type 0} (told : Result S E) → SaysLine told old new (line_text session (Refused refusal)) → RunReads old new account None (event ∷ [])
  refused_reads told says = record { others = λ m unasked none. ap (λ (f : Files). f m) says.still.files; database = tt; unchanged = λ only. says.still.files }

  refused_finished : {S E : Type 0} (told : Result S E) (result : Result Status RunError) → SaysLine told old new (line_text session (Refused refusal)) → IfOk result (λ status. number_of status ≡ status_after (Refused refusal))
      → OnOk result (new.said ≡ old.said ++ line_text session (Refused refusal)) → IfOk result (λ status. Finished status old new account None (event ∷ []) given given)
  refused_finished told (Ok status) says number said = record {
    said = said ∙ ap (λ (l : List ℕ). old.said ++ l) (sym (output_one event (Refused refusal) refl));
    ended = number ∙ sym (status_one event (Refused refusal) refl);
    gave = given_nothing old new given given says.gave refl;
    database = tt;
    kept = λ n bytes there. absurd (none_made event refl (n, bytes) there);
    guids = λ more. says.gave.guids ∙ none_given;
  }
  refused_finished told (Err e) says number said = tt

  pub refused_runs : {S E : Type 0} (told : Result S E) (result : Result Status RunError) → IsPerformed old.files asked account given (event ∷ []) account given → SaysLine told old new (line_text session (Refused refusal))
      → IfOk result (λ status. number_of status ≡ status_after (Refused refusal)) → OnOk result (new.said ≡ old.said ++ line_text session (Refused refusal)) → RunsTo result old new asked account given
  refused_runs told result performed says number said = record {
    events = event ∷ [];
    last = account;
    left = given;
    performed = performed;
    opened = inl (subst (HasSmallScn account) (sym none_asked) tt);
    stops = subst (λ (d : Option Target). AtEachMoment old new (RunLeft old account d (event ∷ []))) (sym none_asked) (weaker old new _ _ says.moments refused_left);
    reads = subst (λ (d : Option Target). RunReads old new account d (event ∷ [])) (sym none_asked) (refused_reads told says);
    finished = subst (λ (d : Option Target). IfOk result (λ status. Finished status old new account d (event ∷ []) given given)) (sym none_asked) (refused_finished told result says number said);
  }
