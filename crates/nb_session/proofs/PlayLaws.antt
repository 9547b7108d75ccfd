-- Turns after turns.
use Rattle.std.proofs.Common.{◌≡◌, inl, inr, ℕ, zero, suc, List, [], ◌∷◌, ◌++◌, take, Bool, false, refl, sym, ap, subst, ◌∙◌, arith, append_assoc, max, Contains, Result, Ok, Err, IfOk, true, ◌||◌, if◌then◌else◌}
use Rattle.nb_session.proofs.Common.{list_all, true≢false, append-nil, Contains-append_cases, File, World, Leaves, Untouched, IsTimely, AtEachMoment, RunError, weaker, untouched_joined, untouched_fewer, untouched_begun, MadeFile, AreAmong, IsNoneOf, NamesOnce, Event, Now, Played, replies_of, files_made, output, status_of, Step, settles, made, steps_in, steps_of, after_step, after_steps, acked_turns, Stroke, Trail, StandsIn, made_append, output_append, status_events, output_no_event, status_no_event, steps_none, steps_append, after_steps_append, after_no_step, acked_steps_none, status_or, IsKept, Held, name_of, Touched, AreKept, IsReady, has_only_told, only_told, StopLeft, PlayedOut, Plays, both_true, Contains-append_left, Contains-append_right, begun_turns}
use Rattle.std.proofs.lemmas.List.Folds.{list_all-append}
use Rattle.nb_change.specs.Changes.{Other}
use Rattle.nb_change.proofs.MomentLaws.{started, joined}
use Rattle.nb_session.proofs.GiftLaws.{given_nothing, given_joined}
use Rattle.nb_session.proofs.StopLaws.{AreApart, FileLeft, Stays, others_fewer, left_more, stop_wider, stop_more, stop_then}

-- one list of turns after another
abbrev pub behind : Played → Played → Played
behind p q = (p.0 ++ q.0, q.1)

-- the trail after turns
abbrev pub trail_after : Trail → Played → Trail
trail_after t p = after_steps t (steps_of p.0)

-- After turns that only told something a settled point is one still.
no_stroke_told : (e : Event) → only_told e ≡ true → e.strokes ≡ []
no_stroke_told e told = by e.strokes told
  where
    by : (ss : List Stroke) → elim ss as (λ z. Bool) [ [] ↦ has_only_told e.reply | s ∷ more ↦ false ] ≡ true → ss ≡ []
    by [] is = refl
    by (s ∷ ss) is = absurd (true≢false (sym is))

after_told : (e : Event) (t : Trail) → t.earlier ≡ [] → only_told e ≡ true → (after_steps t (steps_in e)).earlier ≡ []
unfolding made after_step after_steps
after_told e t settled told =
    subst (λ (ss : List Stroke). (after_steps t (made ss ++ elim e.syncs as (λ z. List Step) [ true ↦ settles ∷ [] | false ↦ [] ])).earlier ≡ []) (sym (no_stroke_told e told)) (by e.syncs)
  where
    by : (b : Bool) → (after_steps t (made [] ++ elim b as (λ z. List Step) [ true ↦ settles ∷ [] | false ↦ [] ])).earlier ≡ []
    by true = refl
    by false = settled

pub told_settled : (es : List Event) (t : Trail) → t.earlier ≡ [] → list_all only_told es ≡ true → (after_steps t (steps_of es)).earlier ≡ []
unfolding steps_of after_steps
told_settled [] t settled told = settled
told_settled (e ∷ es) t settled told =
    let both = both_true (only_told e) (list_all only_told es) told in
    subst (λ (u : Trail). u.earlier ≡ []) (sym (after_steps_append t (steps_in e) (steps_of es))) (told_settled es (after_steps t (steps_in e)) (after_told e t settled both.0) both.1)

-- What holds of turns however they end.
pub record Leads (old new : World) (name : List ℕ) (t : Trail) (events : List Event) (made : List MadeFile) : Type 0 where
  pub stops : AtEachMoment old new (StopLeft old name t events made)
  pub left : (n bytes : List ℕ) (file : File) → Contains made (n, bytes) → Leaves new n file → FileLeft old n bytes file
  pub apart : AreApart name made
  pub others : Untouched old new (Other (Touched name made))
  pub others_read : (m : List ℕ) → Other (Touched name made) m → new.files m ≡ old.files m
  pub unchanged : t.earlier ≡ [] → list_all only_told events ≡ true → new.files ≡ old.files

-- the files that are made are among these
pub leads_wider : (old new : World) (name : List ℕ) (t : Trail) (es : List Event) (few many : List MadeFile) → AreAmong few many → NamesOnce many → AreApart name many → Leads old new name t es few → Leads old new name t es many
leads_wider old new name t es few many among once apart leads = record {
  stops = weaker old new _ _ leads.stops (λ files said left. stop_wider name few many among once apart old t es files said left);
  left = left_more name few many among once apart old new leads.left leads.others;
  apart = apart;
  others = untouched_fewer old new _ _ leads.others (others_fewer name few many among);
  others_read = λ m other. leads.others_read m (others_fewer name few many among m other);
  unchanged = leads.unchanged;
}

-- more turns would have come
leads_more : (old new : World) (name : List ℕ) (t : Trail) (es fs : List Event) (made : List MadeFile) → Leads old new name t es made → Leads old new name t (es ++ fs) made
leads_more old new name t es fs made leads = record {
  stops = weaker old new _ _ leads.stops (λ files said left. stop_more old name t es fs made files said left);
  left = leads.left;
  apart = leads.apart;
  others = leads.others;
  others_read = leads.others_read;
  unchanged = λ settled all. leads.unchanged settled (both_true (list_all only_told es) (list_all only_told fs) (sym (list_all-append only_told es fs) ∙ all)).0;
}

-- Turns after turns, which leave the files that those made whole. No two of all files have the same name.
module _ (old mid new : World) (name : List ℕ) (t : Trail) (es fs : List Event) (made more : List MadeFile) (once : NamesOnce (made ++ more)) where
  abbrev all : List MadeFile
  all = made ++ more

  all_apart : AreApart name made → AreApart name more → AreApart name all
  all_apart first second n bytes there own = elim (Contains-append_cases made more (n, bytes) there) [ inl one ↦ first n bytes one own | inr two ↦ second n bytes two own ]

  leads_then : mid.said ≡ old.said ++ output es → ((n bytes : List ℕ) → Contains (files_made es) (n, bytes) → Stays mid name more n bytes)
      → Leads old mid name t es made → Leads mid new name (after_steps t (steps_of es)) fs more → Leads old new name t (es ++ fs) all
  leads_then said stays first second =
      let apart : AreApart name all = all_apart first.apart second.apart in
      let front : Leads old mid name t es all = leads_wider old mid name t es made all (Contains-append_left made more) once apart first in
      let rest : Leads mid new name (after_steps t (steps_of es)) fs all = leads_wider mid new name (after_steps t (steps_of es)) fs more all (Contains-append_right made more) once apart second in
      record {
        stops = joined old mid new _ _ _ front.stops second.stops
            (λ files s left. stop_more old name t es fs all files s left)
            (λ files s left. stop_then old mid name t es fs more all (Contains-append_right made more) once apart files s said front.others front.left stays left);
        left = λ n bytes file there leaves. elim (rest.left n bytes file there leaves) [ inl before ↦ front.left n bytes file there before | inr is ↦ inr is ];
        apart = apart;
        others = untouched_joined old mid new _ front.others rest.others;
        others_read = λ m other. rest.others_read m other ∙ front.others_read m other;
        unchanged = λ settled all.
            let both = both_true (list_all only_told es) (list_all only_told fs) (sym (list_all-append only_told es fs) ∙ all) in
            second.unchanged (told_settled es t settled both.0) both.1 ∙ first.unchanged settled both.0;
      }

module _ (result : Result Bool RunError) (old new : World) (before after : Held) (t : Trail) (now : Now) (p : Played) where
  leads_of : (made : List MadeFile) → Plays result old new before after t now p made → Leads old new (name_of before) t p.0 made
  leads_of made plays = record { stops = plays.stops; left = plays.left; apart = plays.apart; others = plays.others; others_read = plays.others_read; unchanged = plays.unchanged }

  pub plays_by : (made : List MadeFile) → Leads old new (name_of before) t p.0 made → name_of after ≡ name_of before → IfOk result (λ refused. PlayedOut refused old new after t now p)
      → Plays result old new before after t now p made
  plays_by made leads name done = record { stops = leads.stops; left = leads.left; apart = leads.apart; others = leads.others; others_read = leads.others_read; unchanged = leads.unchanged; name = name; done = done }

  -- the files that they make are among these
  pub plays_wider : (few many : List MadeFile) → AreAmong few many → NamesOnce many → AreApart (name_of before) many → Plays result old new before after t now p few → Plays result old new before after t now p many
  plays_wider few many among once apart plays = plays_by many (leads_wider old new (name_of before) t p.0 few many among once apart (leads_of few plays)) plays.name plays.done

-- no turn yet
pub after_none : (t : Trail) → after_steps t (steps_of []) ≡ t
after_none t = ap (after_steps t) steps_none ∙ after_no_step t

none_made : (k : ℕ) → files_made (take k []) ≡ []
unfolding files_made
none_made zero = refl
none_made (suc k) = refl

pub no_file : (n bytes : List ℕ) → Contains {X = MadeFile} [] (n, bytes) → ⊥
no_file n bytes there = omega (arith, there.1)

pub no_made : (k : ℕ) (n bytes : List ℕ) → Contains (files_made (take k [])) (n, bytes) → ⊥
no_made k n bytes there = no_file n bytes (subst (λ (files : List MadeFile). Contains files (n, bytes)) (none_made k) there)

pub plays_none : (old : World) (held : Held) (t : Trail) (now : Now) → IsTimely old → IsReady old held t now → Plays (Ok false) old old held held t now ([], now) []
plays_none old held t now timely ready = record {
  stops = started old _ timely (λ files said is. record {
    out = record { part = []; is = is.output ∙ sym (append-nil old.said); front = refl };
    count = 0;
    front = record { most = omega arith; acknowledged = omega (arith, acked_steps_none []); unsaid = omega arith };
    database = subst (λ (u : Trail). StandsIn (name_of held) u files) (sym (after_no_step t)) (ready.opened.files.left files is.left);
    each = λ n bytes there. absurd (no_file n bytes there);
    whole = λ n bytes there. absurd (no_made (acked_turns [] 0) n bytes there);
    begun = λ n bytes there. absurd (no_made (begun_turns [] 0) n bytes there);
    others = λ m other. is.left m;
  });
  left = λ n bytes file there leaves. inl leaves;
  apart = λ n bytes there. absurd (no_file n bytes there);
  others = untouched_begun old _;
  others_read = λ m other. refl;
  unchanged = λ settled all. refl;
  name = refl;
  done = record {
    ready = subst (λ (u : Trail). IsReady old held u now) (sym (after_none t)) ready;
    said = sym (append-nil old.said) ∙ ap (λ (l : List ℕ). old.said ++ l) (sym output_no_event);
    status = status_no_event;
    given = given_nothing old old now.given now.given (record { guids = refl; times = refl }) refl;
    kept = λ n bytes there. absurd (no_made 0 n bytes there);
  };
}

-- a file that is kept stays so
kept_on : (mid new : World) (name : List ℕ) (made : List MadeFile) (n bytes : List ℕ) → Untouched mid new (Other (Touched name made)) → ((m : List ℕ) → Other (Touched name made) m → new.files m ≡ mid.files m)
    → Other (Touched name made) n → IsKept mid n bytes → IsKept new n bytes
kept_on mid new name made n bytes same read other kept = record {
  durable = record { none_back = λ c back. kept.durable.none_back c (same.back n c other back); only = λ c now. kept.durable.only c (same.now n c other now) };
  reads = read n other ∙ kept.reads;
}

-- The turns of q after those of p. All files that p made whole are among its own, and q makes none of their names.
module _ (old mid new : World) (e0 e1 e2 : Held) (t : Trail) (now : Now) (p q : Played) (made more : List MadeFile) (once : NamesOnce (made ++ more)) (has : AreAmong (files_made p.0) made)
    (others : (n bytes : List ℕ) → Contains (files_made p.0) (n, bytes) → IsNoneOf more n) where
  trail_is : after_steps (trail_after t p) (steps_of q.0) ≡ after_steps t (steps_of (p.0 ++ q.0))
  trail_is = sym (after_steps_append t (steps_of p.0) (steps_of q.0)) ∙ ap (after_steps t) (sym (steps_append p.0 q.0))

  module _ (a : Bool) (result : Result Bool RunError) (first : Plays (Ok a) old mid e0 e1 t now p made) (second : Plays result mid new e1 e2 (trail_after t p) p.1 q more) where
    rest : Leads mid new (name_of e0) (trail_after t p) q.0 more
    rest = subst (λ (n : List ℕ). Leads mid new n (trail_after t p) q.0 more) first.name (leads_of result mid new e1 e2 (trail_after t p) p.1 q more second)

    other_then : (n bytes : List ℕ) → Contains (files_made p.0) (n, bytes) → Other (Touched (name_of e0) more) n
    other_then n bytes there (inl own) = first.apart n bytes (has (n, bytes) there) own
    other_then n bytes there (inr one) = others n bytes there one.0 one.1

    both : Leads old new (name_of e0) t (p.0 ++ q.0) (made ++ more)
    both = leads_then old mid new (name_of e0) t p.0 q.0 made more once first.done.said
        (λ n bytes there. record { durable = (first.done.kept n bytes there).durable; other = other_then n bytes there }) (leads_of (Ok a) old mid e0 e1 t now p made first) rest

    kept_then : AreKept new (files_made q.0) → AreKept new (files_made (p.0 ++ q.0))
    kept_then kept n bytes there = elim (Contains-append_cases (files_made p.0) (files_made q.0) (n, bytes) (subst (λ (files : List MadeFile). Contains files (n, bytes)) (made_append p.0 q.0) there)) [
      | inl one ↦ kept_on mid new (name_of e0) more n bytes rest.others rest.others_read (other_then n bytes one) (first.done.kept n bytes one)
      | inr two ↦ kept n bytes two
    ]

  -- both to their end
  pub plays_then : (a b : Bool) → Plays (Ok a) old mid e0 e1 t now p made → Plays (Ok b) mid new e1 e2 (trail_after t p) p.1 q more → Plays (Ok (a || b)) old new e0 e2 t now (behind p q) (made ++ more)
  plays_then a b first second = plays_by (Ok (a || b)) old new e0 e2 t now (behind p q) (made ++ more) (both a (Ok b) first second) (second.name ∙ first.name) (record {
    ready = subst (λ (u : Trail). IsReady new e2 u q.1) trail_is second.done.ready;
    said = second.done.said ∙ ap (λ (l : List ℕ). l ++ output q.0) first.done.said ∙ append_assoc old.said (output p.0) (output q.0) ∙ ap (λ (l : List ℕ). old.said ++ l) (sym (output_append p.0 q.0));
    status = status_events p.0 q.0 ∙ ap (λ (x : ℕ). max x (status_of (replies_of q.0))) first.done.status
        ∙ ap (λ (x : ℕ). max (if a then 1 else 0) x) second.done.status ∙ status_or a b;
    given = given_joined old mid new now.given p.1.given q.1.given first.done.given second.done.given;
    kept = kept_then a (Ok b) first second second.done.kept;
  })

  -- the second ends early
  pub plays_failed : (a : Bool) (e : RunError) → Plays (Ok a) old mid e0 e1 t now p made → Plays (Err e) mid new e1 e2 (trail_after t p) p.1 q more → Plays (Err e) old new e0 e2 t now (behind p q) (made ++ more)
  plays_failed a e first second = plays_by (Err e) old new e0 e2 t now (behind p q) (made ++ more) (both a (Err e) first second) (second.name ∙ first.name) tt

-- what turns would have come after those that ended early
pub plays_cut : (old new : World) (before after : Held) (t : Trail) (now : Now) (p : Played) (more : List Event) (last : Now) (made : List MadeFile) (e : RunError) → Plays (Err e) old new before after t now p made
    → Plays (Err e) old new before after t now (p.0 ++ more, last) made
plays_cut old new before after t now p more last made e plays =
    plays_by (Err e) old new before after t now (p.0 ++ more, last) made (leads_more old new (name_of before) t p.0 more made (leads_of (Err e) old new before after t now p made plays)) plays.name tt
