-- What is left where memory ran out.
use Rattle.std.proofs.Common.{inl, inr, ◌≡◌, ℕ, List, [], ◌∷◌, ◌++◌, refl, sym, subst, false, Result, Ok, Err, IsErrAnd}
use Rattle.nb_session.proofs.Common.{World, Fault, Refused, Device, Memory, RunError, weaker, Reached, reached_first, Stroke, Trail, StandsIn, after_stroke, Strikes, Held, name_of, Backed}
use Rattle.nb_copy.specs.Closing.{ClosesShort}
use Rattle.nb_model.specs.Writes.{statement_writes}
use Rattle.nb_model.proofs.ReadTurns.{turn_strokes}
use Rattle.nb_session.proofs.Common.{Statement, Begins, Seen, first_turn, turn}
use Rattle.nb_alloc.specs.Tries.{StopsShort, StopsEarly, WhereMemory}
use Rattle.nb_host.specs.Faults.{as_fault}
use Rattle.nb_host.specs.declared.faults.RunError.TheVariants.{Device as DeviceError, Memory as MemoryError}
use Rattle.nb_session.specs.Short.{LacksLast, RanOut}

-- a turn without operations lacks none
pub lacks_none : (old new : World) (name : List ℕ) (t : Trail) (ss : List Stroke) → ss ≡ [] → Strikes old new name t ss → LacksLast old new name t ss
lacks_none old new name t ss none struck = record {
  few = [];
  rest = [];
  whole = sym none;
  short = λ same. none;
  left = weaker old new _ _ struck.moments (λ files said left. subst (λ (xs : List Stroke). Reached after_stroke (StandsIn name) t xs files) none left.has);
}

pub stops_lack : (old new : World) (a b : Held) (t : Trail) (ss : List Stroke) → StopsShort old new a b t ss → LacksLast old new (name_of a) t ss
stops_lack old new a b t ss stops = record {
  few = stops.made;
  rest = stops.next ∷ stops.rest;
  whole = stops.whole;
  short = λ same. absurd cc;
  left = weaker old new _ _ stops.left.moments (λ files said left. left.has);
}

pub early_lacks : (old new : World) (a b : Held) (t : Trail) (ss : List Stroke) → StopsEarly old new a b t ss → LacksLast old new (name_of a) t ss
early_lacks old new a b t ss stops = record {
  few = stops.made;
  rest = stops.rest;
  whole = stops.whole;
  short = stops.short;
  left = weaker old new _ _ stops.left.moments (λ files said left. left.has);
}

-- in the close of a backup
pub closes_lack : (old new : World) (a b : Held) (copier : Backed) (t : Trail) (ss : List Stroke) → ClosesShort old new a b copier t ss → LacksLast old new (name_of a) t ss
closes_lack old new a b copier t ss stops = record {
  few = stops.made;
  rest = stops.next ∷ stops.rest;
  whole = stops.whole;
  short = λ same. absurd cc;
  left = weaker old new _ _ stops.left.moments (λ files said left. elim left.has [
    | inl before ↦ reached_first after_stroke (StandsIn (name_of a)) t stops.made files before.1
    | inr closing ↦ closing.1
  ]);
}

-- what holds where memory ran out, said otherwise
pub wanted_map : {T P Q : Type 0} (result : Result T Fault) → (P → Q) → WhereMemory result P → WhereMemory result Q
wanted_map (Ok value) f is = is
wanted_map (Err (Refused refusal)) f is = is
wanted_map (Err Device) f is = is
wanted_map (Err Memory) f is = f is

-- it holds whatever was answered
pub wanted_any : {T P : Type 0} (result : Result T Fault) → P → WhereMemory result P
wanted_any (Ok value) is = tt
wanted_any (Err (Refused refusal)) is = tt
wanted_any (Err Device) is = tt
wanted_any (Err Memory) is = is

-- memory ran out in a turn where it did in its call
pub ran_passed : (S : Type 0) {T : Type 0} (result : Result T Fault) (error : RunError) → result ≡ Err (as_fault error) → (P : Type 0) → WhereMemory result P → RanOut {T = S} (Err error) → P
ran_passed S result DeviceError is P wanted out = absurd out
ran_passed S {T = T} result MemoryError is P wanted out = subst (λ (r : Result T Fault). WhereMemory r P) is wanted

-- it did in an answer where it did in what the answer hands on
pub ran_same : (S : Type 0) {T : Type 0} (result : Result T RunError) (error : RunError) → IsErrAnd result (λ e. e ≡ error) → RanOut result → RanOut {T = S} (Err error)
ran_same S (Ok value) error is ran = absurd ran
ran_same S (Err e) error is ran = subst (λ (f : RunError). RanOut {T = S} (Err f)) is ran

-- a fault of the device is no want of memory
pub device_sure : {T : Type 0} (result : Result T RunError) → IsErrAnd result (λ e. e ≡ DeviceError) → RanOut result → ⊥
device_sure (Ok value) is ran = ran
device_sure (Err DeviceError) is ran = ran
device_sure (Err MemoryError) is ran = cc

-- a statement that only reads makes no operation
pub read_strokes : (statement : Statement) → statement_writes statement ≡ false → (s : Seen) (session : ℕ) → (first_turn s session statement).strokes ≡ []
unfolding turn
read_strokes statement reads s session = turn_strokes s session (Begins statement) reads
