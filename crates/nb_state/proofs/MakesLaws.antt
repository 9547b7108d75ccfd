-- How runs of calls that make strokes go on.
use Rattle.std.proofs.Common.{◌≡◌, ℕ, List, [], ◌∷◌, ◌++◌, refl, sym, ◌∙◌, subst, ap, arith, Option, Result, Ok, Err}
use Rattle.nb_state.proofs.Common.{Files, IsStill, World, Fault, Refused, Device, Memory, RunError, as_fault, Quiet, GaveNothing, rested, after_all-joined, reached_first, reached_front, strokes_composed, weaker_has, Base, Stroke, base_after, Trail, StandsIn, after_stroke, trail_base, OfFiles, IsMerged, GrowsWithin, Strikes, StrikesIn, StrikesOn, WrittenIn, after_strokes, IsNoRefusal, Held, IsOpen, but_pages, name_of, pair_of, WhereEnded, Goes, Makes}
use Rattle.std.proofs.lemmas.List.{append-nil}
use Rattle.nb_host.specs.declared.faults.RunError.TheVariants.{Device as DeviceError, Memory as MemoryError}
use Rattle.nb_change.proofs.GaveLaws.{nothing_joined}
use Rattle.nb_base.proofs.StaysLaws.{grows_joined, grows_front, grows_not}
use Rattle.nb_change.specs.Changes.{Names}
use Rattle.nb_owner.proofs.WaitLaws.{still_open as pair_still}

-- a database stays open
pub still_open : (old new : World) (held : Held) (t : Trail) → IsStill old new → IsOpen old held t → IsOpen new held t
still_open old new held t still is = record {
  files = pair_still old new (pair_of held) t still is.files;
  agrees = is.agrees;
  merged = λ state j low inside. subst (λ (f : Files). IsMerged held.files f j) (sym still.files) (is.merged state j low inside);
  most = is.most;
}

pub open_quiet : (old new : World) (held : Held) (t : Trail) → Quiet old new → IsOpen old held t → IsOpen new held t
open_quiet old new held t quiet is = still_open old new held t quiet.still is

-- and so does what is held of it
pub open_still : (old new : World) (a b : Held) (t : Trail) → b ≡ a → Quiet old new → IsOpen old a t → IsOpen new b t
open_still old new a b t same quiet is = subst (λ (h : Held). IsOpen new h t) (sym same) (open_quiet old new a t quiet is)

-- the database after strokes, as it is seen
pub after_base : (t : Trail) (xs : List Stroke) → (after_strokes t xs).base ≡ base_after t.base xs
unfolding base_after
after_base t [] = refl
after_base t (x ∷ xs) = after_base (after_stroke x t) xs ∙ ap (λ (b : Base). base_after b xs) (trail_base x t)

-- what holds in any case holds where a call ended
pub where_ended : {T : Type 0} (result : Result T Fault) (P : Type 0) → P → WhereEnded result P
where_ended (Ok value) P is = is
where_ended (Err (Refused refusal)) P is = is
where_ended (Err Device) P is = tt
where_ended (Err Memory) P is = tt

-- where it failed, nothing is promised of its end, and it was not refused
pub never_ended : (T : Type 0) (fault : Fault) (P : Type 0) → IsNoRefusal fault → WhereEnded {T = T} (Err fault) P
never_ended T (Refused refusal) P is = absurd is
never_ended T Device P is = tt
never_ended T Memory P is = tt

-- what can't be refused was not
pub none_refused : (error : RunError) → IsNoRefusal (as_fault error)
none_refused DeviceError = tt
none_refused MemoryError = tt

pub goes_on : (a b c : Held) → Goes a b → Goes b c → Goes a c
goes_on a b c first second = record {
  name = second.name ∙ first.name;
  page_size = second.page_size ∙ first.page_size;
  state = second.state ∙ first.state;
  longer = omega (arith, first.longer, second.longer);
  entries = λ merging. second.entries (first.state ∙ merging) ∙ first.entries merging;
  running = second.running ∙ first.running;
  merged = second.merged ∙ first.merged;
  cap = second.cap ∙ first.cap;
}

pub goes_nowhere : (a b : Held) → but_pages b ≡ but_pages a → Goes a b
goes_nowhere a b same = record {
  name = ap (λ (h : Held). name_of h) same;
  page_size = ap (λ (h : Held). h.files.page_size) same;
  state = ap (λ (h : Held). h.files.state) same;
  longer = omega (arith, ap (λ (h : Held). h.files.count) same);
  entries = λ merging. ap (λ (h : Held). h.files.entries) same;
  running = ap (λ (h : Held). h.running) same;
  merged = ap (λ (h : Held). h.merged) same;
  cap = ap (λ (h : Held). h.cap) same;
}

-- calls that change nothing have made no stroke yet
pub none_on : (old new : World) (names : Names) (held : Held) (t : Trail) (xs : List Stroke) → Quiet old new → IsOpen old held t → StrikesOn old new names (name_of held) t xs
none_on old new names held t xs quiet is =
    rested old new names _ quiet.still quiet.said quiet.moments (λ files left. reached_first after_stroke (StandsIn (name_of held)) t xs files (is.files.left files left))

pub none_yet : (old new : World) (held : Held) (t : Trail) (xs : List Stroke) → Quiet old new → IsOpen old held t → Strikes old new (name_of held) t xs
none_yet old new held t xs quiet is = none_on old new (OfFiles (name_of held)) held t xs quiet is

pub gave_none : (old new : World) → Quiet old new → GaveNothing old new
gave_none old new quiet = record { guids = quiet.guids; times = quiet.times }

-- they make no stroke, whatever they answer
pub makes_none : {T : Type 0} (result : Result T Fault) (old new : World) (a b : Held) (t : Trail) → but_pages b ≡ but_pages a → Quiet old new → IsOpen old a t → IsOpen new b t → Makes result old new a b t []
makes_none result old new a b t same quiet is still = record {
  left = none_on old new (WrittenIn a.files.state (name_of a)) a t [] quiet is;
  long = grows_not old new (name_of a) a.files.page_size t [] quiet;
  opened = where_ended result _ still;
  goes = goes_nowhere a b same;
  gave = gave_none old new quiet;
}

-- and where they fail they fail any strokes
pub makes_not : (T : Type 0) (fault : Fault) (old new : World) (a b : Held) (t : Trail) (xs : List Stroke) → IsNoRefusal fault → but_pages b ≡ but_pages a → Quiet old new → IsOpen old a t → Makes {T = T} (Err fault) old new a b t xs
makes_not T fault old new a b t xs fails same quiet is = record {
  left = none_on old new (WrittenIn a.files.state (name_of a)) a t xs quiet is;
  long = grows_not old new (name_of a) a.files.page_size t xs quiet;
  opened = never_ended T fault _ fails;
  goes = goes_nowhere a b same;
  gave = gave_none old new quiet;
}

-- the same under the name, the state and the page size that stay
moved_state : (mid new : World) (a b : Held) → name_of b ≡ name_of a → b.files.state ≡ a.files.state → (t : Trail) (ys : List Stroke) → StrikesIn mid new b.files.state (name_of b) t ys → StrikesIn mid new a.files.state (name_of a) t ys
moved_state mid new a b name state t ys is =
    subst (λ (n : ℕ). StrikesIn mid new n (name_of a) t ys) state (subst (λ (m : List ℕ). StrikesIn mid new b.files.state m t ys) name is)

moved_size : (mid new : World) (a b : Held) → name_of b ≡ name_of a → b.files.page_size ≡ a.files.page_size → (t : Trail) (ys : List Stroke) → GrowsWithin mid new (name_of b) b.files.page_size t ys → GrowsWithin mid new (name_of a) a.files.page_size t ys
moved_size mid new a b name size t ys is =
    subst (λ (n : ℕ). GrowsWithin mid new (name_of a) n t ys) size (subst (λ (m : List ℕ). GrowsWithin mid new m b.files.page_size t ys) name is)

-- one run of strokes after another
pub makes_then : {S T : Type 0} (value : S) (result : Result T Fault) (old mid new : World) (a b c : Held) (t : Trail) (xs ys : List Stroke) → Makes (Ok value) old mid a b t xs
    → Makes result mid new b c (after_strokes t xs) ys → Makes result old new a c t (xs ++ ys)
makes_then value result old mid new a b c t xs ys first second = record {
  left = strokes_composed after_stroke (StandsIn (name_of a)) (WrittenIn a.files.state (name_of a)) old mid new t xs ys first.left
      (moved_state mid new a b first.goes.name first.goes.state (after_strokes t xs) ys second.left);
  long = grows_joined old mid new (name_of a) a.files.page_size t xs ys first.long
      (moved_size mid new a b first.goes.name first.goes.page_size (after_strokes t xs) ys second.long);
  opened = subst (λ (u : Trail). WhereEnded result (IsOpen new c u)) (sym (after_all-joined after_stroke t xs ys)) second.opened;
  goes = goes_on a b c first.goes second.goes;
  gave = nothing_joined old mid new first.gave second.gave;
}

-- a run that failed in its first part
pub makes_front : (S T : Type 0) (fault : Fault) (old new : World) (a b : Held) (t : Trail) (xs ys : List Stroke) → IsNoRefusal fault → Makes {T = S} (Err fault) old new a b t xs
    → Makes {T = T} (Err fault) old new a b t (xs ++ ys)
makes_front S T fault old new a b t xs ys fails first = record {
  left = weaker_has old new (WrittenIn a.files.state (name_of a)) _ _ first.left (reached_front after_stroke (StandsIn (name_of a)) t xs ys);
  long = grows_front old new (name_of a) a.files.page_size t xs ys first.long;
  opened = never_ended T fault _ fails;
  goes = first.goes;
  gave = first.gave;
}

-- calls that change nothing before it
pub makes_after : {T : Type 0} (result : Result T Fault) (old mid new : World) (a b c : Held) (t : Trail) (xs : List Stroke) → but_pages b ≡ but_pages a → Quiet old mid → IsOpen old a t → Makes result mid new b c t xs
    → Makes result old new a c t xs
makes_after result old mid new a b c t xs same quiet is makes = record {
  left = strokes_composed after_stroke (StandsIn (name_of a)) (WrittenIn a.files.state (name_of a)) old mid new t [] xs (none_on old mid (WrittenIn a.files.state (name_of a)) a t [] quiet is)
      (moved_state mid new a b (ap (λ (h : Held). name_of h) same) (ap (λ (h : Held). h.files.state) same) t xs makes.left);
  long = grows_joined old mid new (name_of a) a.files.page_size t [] xs (grows_not old mid (name_of a) a.files.page_size t [] quiet)
      (moved_size mid new a b (ap (λ (h : Held). name_of h) same) (ap (λ (h : Held). h.files.page_size) same) t xs makes.long);
  opened = makes.opened;
  goes = goes_on a b c (goes_nowhere a b same) makes.goes;
  gave = nothing_joined old mid new (gave_none old mid quiet) makes.gave;
}

-- and after it
pub makes_before : {S T : Type 0} (value : S) (result : Result T Fault) (old mid new : World) (a b c : Held) (t : Trail) (xs : List Stroke) → Makes (Ok value) old mid a b t xs
    → but_pages c ≡ but_pages b → Quiet mid new → ((u : Trail) → IsOpen mid b u → IsOpen new c u) → Makes result old new a c t xs
makes_before value result old mid new a b c t xs makes same quiet opens =
    subst (λ (ss : List Stroke). Makes result old new a c t ss) (append-nil xs)
    (makes_then value result old mid new a b c t xs [] makes (makes_none result mid new b c (after_strokes t xs) same quiet makes.opened (opens (after_strokes t xs) makes.opened)))

-- whose copy or merge runs is no matter of what is open
pub open_running : (w : World) (held : Held) (t : Trail) (by : Option ℕ) → IsOpen w held t → IsOpen w (record held { running = by }) t
open_running w held t by is = record { files = is.files; agrees = record { scn = is.agrees.scn; four = is.agrees.four; guid = is.agrees.guid; read_only = is.agrees.read_only }; merged = is.merged; most = is.most }
