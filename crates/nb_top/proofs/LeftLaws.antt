-- What a crash leaves at the moments of a run.
use Rattle.std.proofs.Common.{◌≡◌, inl, inr, ⊎_elim, ℕ, List, [], ◌++◌, length, refl, sym, ap, ◌∙◌, arith, Option, None, Some}
use Rattle.nb_top.proofs.Common.{append-nil, Files, World, Leaves, Untouched, IsNow, left_before, Account, delta_name, Event, acked_steps_none, RunLeft, StandsAsked, Target}
use Rattle.nb_top.proofs.MadeRuns.{none_begun, none_yet}

-- before anything is done, what a crash leaves is as it was
first_asked : (old : World) (account : Account) (target : Option Target) (events : List Event) (files : Files) → ((n : List ℕ) → Leaves old n (files n)) → StandsAsked old account target events 0 0 files
first_asked old account None events files left = tt
first_asked old account (Some target) events files left = inr (record { none = refl; unsaid = refl; main = inl (left target.name); delta = left (delta_name target.name) })

-- nothing has happened yet
pub left_first : (old : World) (account : Account) (target : Option Target) (events : List Event) (files : Files) (said : List ℕ) → IsNow old files said → RunLeft old account target events files said
left_first old account target events files said is = record {
  out = record { part = []; is = is.output ∙ sym (append-nil old.said); front = refl };
  count = 0;
  front = record { most = omega arith; acknowledged = omega (arith, acked_steps_none events); unsaid = omega arith };
  database = first_asked old account target events files is.left;
  each = λ name bytes there. inl (is.left name);
  whole = λ name bytes there. absurd (none_yet events (name, bytes) there);
  begun = λ name bytes there. absurd (none_begun events (name, bytes) there);
  others = λ m unasked none. is.left m;
}

pub first_count : (old : World) (account : Account) (target : Option Target) (events : List Event) (files : Files) (said : List ℕ) (is : IsNow old files said) → (left_first old account target events files said is).count ≡ 0
unfolding left_first
first_count old account target events files said is = refl

-- what is left of a database's files, seen from an earlier moment since which nothing changed
asked_before : (old mid : World) → Untouched old mid (λ _. Unit {0}) → (account : Account) (target : Option Target) (events : List Event) (said count : ℕ) (files : Files)
    → StandsAsked mid account target events said count files → StandsAsked old account target events said count files
asked_before old mid same account None events said count files is = tt
asked_before old mid same account (Some target) events said count files (inl stands) = inl stands
asked_before old mid same account (Some target) events said count files (inr none) = inr (record {
  none = none.none;
  unsaid = none.unsaid;
  main = ⊎_elim (λ left. inl (left_before old mid _ same target.name (files target.name) tt left)) inr none.main;
  delta = left_before old mid _ same (delta_name target.name) (files (delta_name target.name)) tt none.delta;
})

pub left_before_all : (old mid : World) → Untouched old mid (λ _. Unit {0}) → mid.said ≡ old.said → (account : Account) (target : Option Target) (events : List Event) (files : Files) (said : List ℕ)
    → RunLeft mid account target events files said → RunLeft old account target events files said
left_before_all old mid same silent account target events files said left = record {
  out = record { part = left.out.part; is = left.out.is ∙ ap (λ (l : List ℕ). l ++ left.out.part) silent; front = left.out.front };
  count = left.count;
  front = left.front;
  database = asked_before old mid same account target events (length left.out.part) left.count files left.database;
  each = λ name bytes there. ⊎_elim (λ was. inl (left_before old mid _ same name (files name) tt was)) inr (left.each name bytes there);
  whole = left.whole;
  begun = left.begun;
  others = λ m unasked none. left_before old mid _ same m (files m) tt (left.others m unasked none);
}
