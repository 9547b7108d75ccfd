-- What is left where a call has wanted memory.
use Rattle.std.proofs.Common.{◌≡◌, ◌≢◌, ◌∙◌, ℕ, List, [], ◌∷◌, ◌++◌, refl, sym, subst, ap, append_assoc, Result, Ok, Err, IfErr, IsErr, IsErrAnd}
use Rattle.nb_alloc.proofs.Common.{World, Fault, Refused, Device, Memory, Refusal, as_fault, Quiet, strokes_composed, after_all-joined, Stroke, Trail, StandsIn, after_stroke, Strikes, StrikesIn, after_strokes, Held, IsOpen, but_pages, name_of, Makes, none_yet, passed_on, StopsEarly, StopsShort, WhereMemory}
use Rattle.nb_base.specs.Open.{OfFiles}
use Rattle.nb_base.proofs.TouchLaws.{strikes_in}
use Rattle.nb_host.specs.declared.faults.RunError.{RunError}
use Rattle.nb_host.specs.declared.faults.RunError.TheVariants.{Device as DeviceError, Memory as MemoryError}

-- calls that change nothing, before strokes
pub strikes_after : (old mid new : World) (a b : Held) (t : Trail) (xs : List Stroke) → but_pages b ≡ but_pages a → Quiet old mid → IsOpen old a t → Strikes mid new (name_of b) t xs → Strikes old new (name_of a) t xs
strikes_after old mid new a b t xs same quiet is left =
    strokes_composed after_stroke (StandsIn (name_of a)) (OfFiles (name_of a)) old mid new t [] xs (none_yet old mid a t [] quiet is)
    (subst (λ (n : List ℕ). Strikes mid new n t xs) (ap (λ (h : Held). name_of h) same) left)

-- no stroke was made, and the database is open as it was seen
abbrev pub Stays : (old new : World) (a b : Held) → Trail → Type 0
Stays old new a b t = StrikesIn old new a.files.state (name_of a) t [] × IsOpen new b t

-- a refusal is no want of memory
pub refused_memory : (r : Refusal) → Refused r ≢ Memory
refused_memory r e = cc

-- nothing is said under Memory where that isn't answered
pub not_wanted : {T : Type 0} (result : Result T Fault) (P : Type 0) → IfErr result (λ f. f ≢ Memory) → WhereMemory result P
not_wanted (Ok value) P none = tt
not_wanted (Err (Refused r)) P none = tt
not_wanted (Err Device) P none = tt
not_wanted (Err Memory) P none = absurd (none refl)

-- what follows from what is said under it
pub wanted_so : {T : Type 0} (result : Result T Fault) (P Q : Type 0) → (P → Q) → WhereMemory result P → WhereMemory result Q
wanted_so (Ok value) P Q so is = tt
wanted_so (Err (Refused r)) P Q so is = tt
wanted_so (Err Device) P Q so is = tt
wanted_so (Err Memory) P Q so is = so is

-- the same of a result of another type
pub wanted_as : (S T : Type 0) (fault : Fault) (P : Type 0) → WhereMemory {T = S} (Err fault) P → WhereMemory {T = T} (Err fault) P
wanted_as S T (Refused r) P is = tt
wanted_as S T Device P is = tt
wanted_as S T Memory P is = is

-- what a call of the files says of its error
pub wanted_by : (S T : Type 0) (error : RunError) (P : Type 0) → (◌≡◌ {A = Result S RunError} (Err error) (Err MemoryError) → P) → WhereMemory {T = T} (Err (as_fault error)) P
wanted_by S T DeviceError P is = tt
wanted_by S T MemoryError P is = is refl

-- memory was wanted at the first of strokes
pub short_first : (old new : World) (a b : Held) (t : Trail) (x : Stroke) (xs : List Stroke) → Stays old new a b t → StopsShort old new a b t (x ∷ xs)
short_first old new a b t x xs still = record { made = []; next = x; rest = xs; whole = refl; left = strikes_in old new a.files.state (name_of a) t [] still.0; opened = still.1 }

-- more strokes would have followed
pub short_front : (old new : World) (a b : Held) (t : Trail) (xs ys : List Stroke) → StopsShort old new a b t xs → StopsShort old new a b t (xs ++ ys)
short_front old new a b t xs ys stops = record {
  made = stops.made;
  next = stops.next;
  rest = stops.rest ++ ys;
  whole = sym (append_assoc stops.made (stops.next ∷ stops.rest) ys) ∙ ap (λ (ss : List Stroke). ss ++ ys) stops.whole;
  left = stops.left;
  opened = stops.opened;
}

-- strokes were made before
pub short_then : {S : Type 0} (value : S) (old mid new : World) (a b c : Held) (t : Trail) (xs ys : List Stroke) → Makes (Ok value) old mid a b t xs → StopsShort mid new b c (after_strokes t xs) ys → StopsShort old new a c t (xs ++ ys)
short_then value old mid new a b c t xs ys first stops = record {
  made = xs ++ stops.made;
  next = stops.next;
  rest = stops.rest;
  whole = append_assoc xs stops.made (stops.next ∷ stops.rest) ∙ ap (λ (ss : List Stroke). xs ++ ss) stops.whole;
  left = strokes_composed after_stroke (StandsIn (name_of a)) (OfFiles (name_of a)) old mid new t xs stops.made (strikes_in old mid a.files.state (name_of a) t xs first.left)
      (subst (λ (n : List ℕ). Strikes mid new n (after_strokes t xs) stops.made) first.goes.name stops.left);
  opened = subst (λ (u : Trail). IsOpen new c u) (sym (after_all-joined after_stroke t xs stops.made)) stops.opened;
}

-- or calls that change nothing
pub short_after : (old mid new : World) (a b c : Held) (t : Trail) (xs : List Stroke) → but_pages b ≡ but_pages a → Quiet old mid → IsOpen old a t → StopsShort mid new b c t xs → StopsShort old new a c t xs
short_after old mid new a b c t xs same quiet is stops = record {
  made = stops.made;
  next = stops.next;
  rest = stops.rest;
  whole = stops.whole;
  left = strikes_after old mid new a b t stops.made same quiet is stops.left;
  opened = stops.opened;
}

-- `?` passed the fault of a call on that wants no memory
pub not_passed : {T : Type 0} (result : Result T Fault) (fault : Fault) (P : Type 0) → IsErr result × IsErrAnd result (λ f. f ≡ fault) → fault ≢ Memory → WhereMemory result P
not_passed {T} result fault P passed none = subst (λ (r : Result T Fault). WhereMemory r P) (sym (passed_on result fault passed)) (not_wanted {T = T} (Err fault) P none)

-- a call that stops before the last of its strokes doesn't make all of them
pub early_short : (old new : World) (a b : Held) (t : Trail) (xs : List Stroke) → StopsShort old new a b t xs → StopsEarly old new a b t xs
early_short old new a b t xs stops = record {
  made = stops.made;
  rest = stops.next ∷ stops.rest;
  whole = stops.whole;
  short = λ none. cc;
  left = stops.left;
  opened = stops.opened;
}

-- nor does one that changes nothing, whether there are any
pub early_quiet : (old new : World) (a b : Held) (t : Trail) (xs : List Stroke) → Quiet old new → IsOpen old a t → IsOpen new b t → StopsEarly old new a b t xs
early_quiet old new a b t xs quiet is still = record { made = []; rest = xs; whole = refl; short = λ none. none; left = none_yet old new a t [] quiet is; opened = still }

-- what holds in any case
pub wanted_any : {T : Type 0} (result : Result T Fault) (P : Type 0) → P → WhereMemory result P
wanted_any (Ok value) P is = tt
wanted_any (Err (Refused r)) P is = tt
wanted_any (Err Device) P is = tt
wanted_any (Err Memory) P is = is
