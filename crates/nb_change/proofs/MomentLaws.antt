-- How what holds at each moment goes on.
use Rattle.std.proofs.Common.{refl, ◌∙◌, inl, inr, ⊎_elim, ℕ, ◌≤◌, List, arith}
use Rattle.nb_change.proofs.Common.{File, Files, World, Leaves, Untouched, IsNow, IsTimely, Elapses, AtEachMoment}

-- before the first call
pub started : (old : World) (P : Files → List ℕ → Type 0) → IsTimely old → ((files : Files) (said : List ℕ) → IsNow old files said → P files said) → AtEachMoment old old P
started old P timely here = record {
  later = omega arith;
  each = λ files said left. here files said (timely.only_now files said left);
  earlier = λ t files said le left. inl left;
}

-- one call more
pub goes_on : (old mid new : World) (P here : Files → List ℕ → Type 0) → AtEachMoment old mid P → Elapses mid new here → ((files : Files) (said : List ℕ) → here files said → P files said) → AtEachMoment old new P
goes_on old mid new P here so_far time now = record {
  later = omega (arith, so_far.later, time.later);
  each = λ files said left. ⊎_elim (so_far.each files said) (now files said) (time.nothing_else old.moment files said so_far.later left);
  earlier = λ t files said le left.
      ⊎_elim (so_far.earlier t files said le) (λ is. inr (now files said is)) (time.nothing_else t files said (let far : t ≤ mid.moment = omega (arith, le, so_far.later) in far) left);
}

-- one run of calls after another
pub joined : (old mid new : World) (P Q R : Files → List ℕ → Type 0) → AtEachMoment old mid P → AtEachMoment mid new Q
    → ((files : Files) (said : List ℕ) → P files said → R files said) → ((files : Files) (said : List ℕ) → Q files said → R files said) → AtEachMoment old new R
joined old mid new P Q R first second pr qr = record {
  later = omega (arith, first.later, second.later);
  each = λ files said left. ⊎_elim (λ is. pr files said (first.each files said is)) (qr files said) (second.earlier old.moment files said first.later left);
  earlier = λ t files said le left.
      ⊎_elim (λ is. ⊎_elim inl (λ p. inr (pr files said p)) (first.earlier t files said le is)) (λ q. inr (qr files said q))
      (second.earlier t files said (let far : t ≤ mid.moment = omega (arith, le, first.later) in far) left);
}

-- less is said of each moment
pub weaker : (old new : World) (P Q : Files → List ℕ → Type 0) → AtEachMoment old new P → ((files : Files) (said : List ℕ) → P files said → Q files said) → AtEachMoment old new Q
weaker old new P Q is pq = record {
  later = is.later;
  each = λ files said left. pq files said (is.each files said left);
  earlier = λ t files said le left. ⊎_elim inl (λ p. inr (pq files said p)) (is.earlier t files said le left);
}

-- what a crash leaves later it would have left before
pub left_before : (old new : World) (names : List ℕ → Type 0) → Untouched old new names → (name : List ℕ) (file : File) → names name → Leaves new name file → Leaves old name file
left_before old new names same name file is = ⊎_elim (λ b. inl (same.back name file is b)) (λ n. inr (same.now name file is n))

-- names that stay untouched
pub untouched_joined : (old mid new : World) (names : List ℕ → Type 0) → Untouched old mid names → Untouched mid new names → Untouched old new names
untouched_joined old mid new names first second = record {
  back = λ m c is b. first.back m c is (second.back m c is b);
  now = λ m c is n. first.now m c is (second.now m c is n);
}

-- fewer names
pub untouched_fewer : (old new : World) (many few : List ℕ → Type 0) → Untouched old new many → ((m : List ℕ) → few m → many m) → Untouched old new few
untouched_fewer old new many few same are = record {
  back = λ m c is b. same.back m c (are m is) b;
  now = λ m c is n. same.now m c (are m is) n;
}

pub untouched_begun : (old : World) (names : List ℕ → Type 0) → Untouched old old names
untouched_begun old names = record { back = λ m c is b. b; now = λ m c is n. n }
