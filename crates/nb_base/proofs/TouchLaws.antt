-- What calls touch: one call, calls one after another, and by the backup state.
use Rattle.std.proofs.Common.{◌≡◌, ◌≢◌, inl, inr, ⊎_elim, ℕ, zero, suc, List, refl, sym, ◌∙◌, subst, Bool, IsTrue, Result}
use Rattle.nb_base.specs.Takes.{StrikesOn, StrikesIn}
use Rattle.nb_base.specs.Touches.{WrittenIn}
use Rattle.nb_change.specs.Changes.{ChangedLeft}
use Rattle.nb_base.proofs.Common.{Strikes, Stroke, Trail, normal_state, stalled_state, Files, World, WritesPage, IsStill, IsTimely, Passes, Names, Only, Changes, begun, rested, weakened, composed, still_more, page_alone, Quiet, delta_name, OfFiles, Touches, WritesIn}

-- whatever calls make of the files, those alone are touched
pub touched : (old new : World) (names : Names) (P : Files → Type 0) → Changes old new names P → Touches old new names
touched old new names P is = weakened old new names names P _ is (λ m one. one) (λ files others has. tt)

-- more names
pub touched_more : (old new : World) (few many : Names) → Touches old new few → ((m : List ℕ) → few m → many m) → Touches old new many
touched_more old new few many is are = weakened old new few many _ _ is are (λ files others has. tt)

-- calls after calls
pub touched_joined : (old mid new : World) (names : Names) → Touches old mid names → Touches mid new names → Touches old new names
touched_joined old mid new names first second = composed old mid new names _ _ _ first second (λ files has. tt) (λ files has. tt)

-- no call
pub none_touched : (old new : World) (names : Names) → IsTimely old → new ≡ old → Touches old new names
none_touched old new names timely same = subst (λ (w : World). Touches old w names) (sym same) (begun old names _ timely (λ files left. tt))

-- where the world and the name are the same under other words
pub touched_from : (old mid new : World) (name same : List ℕ) → mid ≡ old → same ≡ name → Touches mid new (Only same) → Touches old new (Only name)
touched_from old mid new name same still named is = subst (λ (w : World). Touches w new (Only name)) still (subst (λ (n : List ℕ). Touches mid new (Only n)) named is)

-- calls that change nothing
pub quiet_touched : (old new : World) (names : Names) → Quiet old new → Touches old new names
quiet_touched old new names quiet = rested old new names _ quiet.still quiet.said quiet.moments (λ files left. tt)

-- one call more that changes no file
pub still_touched : (old mid new : World) (names : Names) → Touches old mid names → Passes mid new → IsStill mid new → new.said ≡ mid.said → Touches old new names
still_touched old mid new names is time still silent = still_more old mid new names _ is time still silent

-- a page write
pub page_touched : {T E : Type 0} (tells : Bool) (result : Result T E) (old new : World) (name : List ℕ) (at : ℕ) (page : List ℕ) → IsTrue tells → IsTimely old
    → WritesPage tells result old new name at page → new.said ≡ old.said → Passes old new → Touches old new (Only name)
page_touched tells result old new name at page told timely writes silent time =
    touched old new (Only name) _ (page_alone tells result old new name at page (λ b c. Unit {0}) told timely writes silent time (λ b c was left. tt))

-- the difference file is one of the two
pub delta_of : (old new : World) (name delta : List ℕ) → delta ≡ delta_name name → Touches old new (Only delta) → Touches old new (OfFiles name)
delta_of old new name delta named is = touched_more old new (Only delta) (OfFiles name) is (λ m one. inr (one ∙ named))

-- By the state: the main file but in the stalled one,
pub main_in : (old new : World) (state : ℕ) (name : List ℕ) → state ≢ stalled_state → Touches old new (Only name) → WritesIn old new state name
main_in old new zero name other is = is
main_in old new (suc zero) name other is = absurd (other refl)
main_in old new (suc (suc later)) name other is = touched_more old new (Only name) (OfFiles name) is (λ m one. inl one)

-- the difference file in the stalled one,
pub delta_in : (old new : World) (state : ℕ) (name delta : List ℕ) → state ≡ stalled_state → delta ≡ delta_name name → Touches old new (Only delta) → WritesIn old new state name
delta_in old new state name delta stalled named is = subst (λ n. WritesIn old new n name) (sym stalled) (subst (λ (d : List ℕ). Touches old new (Only d)) named is)

-- and both in the merge.
pub both_in : (old new : World) (state : ℕ) (name : List ℕ) → state ≢ normal_state → state ≢ stalled_state → Touches old new (OfFiles name) → WritesIn old new state name
both_in old new zero name some other is = absurd (some refl)
both_in old new (suc zero) name some other is = absurd (other refl)
both_in old new (suc (suc later)) name some other is = is

-- What calls change, and which files they touch, said apart and as one.
pub narrowed : (old new : World) (many few : Names) (P : Files → Type 0) → Changes old new many P → Touches old new few → Changes old new few P
narrowed old new many few P is touches = record {
  moments = record {
    later = is.moments.later;
    each = λ files said left. both files said (is.moments.each files said left) (touches.moments.each files said left);
    earlier = λ t files said le left. ⊎_elim inl (λ one. ⊎_elim inl (λ two. inr (both files said one two)) (touches.moments.earlier t files said le left)) (is.moments.earlier t files said le left);
  };
  now = is.now;
  others = touches.others;
  others_read = touches.others_read;
  said = is.said;
}
  where
    both : (files : Files) (said : List ℕ) → ChangedLeft old many P files said → ChangedLeft old few (λ x. Unit {0}) files said → ChangedLeft old few P files said
    both files said one two = record { has = one.has; others = two.others; output = one.output }

-- the files that a state has pages written to are the database's
pub written_of : (state : ℕ) (name m : List ℕ) → WrittenIn state name m → OfFiles name m
written_of zero name m one = inl one
written_of (suc zero) name m one = inr one
written_of (suc (suc later)) name m one = one

-- operations that touch fewer files
pub strikes_more : (old new : World) (few many : Names) (name : List ℕ) (t : Trail) (strokes : List Stroke) → StrikesOn old new few name t strokes → ((m : List ℕ) → few m → many m) → StrikesOn old new many name t strokes
strikes_more old new few many name t strokes is are = weakened old new few many _ _ is are (λ files others has. has)

pub strikes_in : (old new : World) (state : ℕ) (name : List ℕ) (t : Trail) (strokes : List Stroke) → StrikesIn old new state name t strokes → Strikes old new name t strokes
strikes_in old new state name t strokes is = strikes_more old new (WrittenIn state name) (OfFiles name) name t strokes is (written_of state name)
