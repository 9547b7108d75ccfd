-- What a call does that may be refused before its strokes, and what it does of its turn.
use Rattle.std.proofs.Common.{◌≡◌, List, [], ◌++◌, refl, sym, ap, subst, ◌∙◌, false, Some, None, Result, Ok, Err, OnOk, IfOk, IfErr, IsErr, IsErrAnd, ◌≢◌}
use Rattle.nb_alloc.proofs.Common.{World, Fault, Device, Memory, Refusal, Quiet, quiet_joined, Reply, Base, Stroke, Trail, Cause, Seen, Outcome, says, unless, after_strokes, IsNoRefusal, Held, IsOpen, but_pages, Tested, Answers, WhereEnded, only_tells, unless_by, Makes, Does, passed_on, makes_none, makes_not, makes_then, makes_front, makes_before, makes_after, Tries, StopsShort, WhereMemory, none_there, unless_none}
use Rattle.nb_host.specs.declared.faults.Fault.TheVariants.{Refused as RefusedFault}
use Rattle.nb_model.specs.declared.reply.Reply.TheVariants.{Refused}
use Rattle.nb_alloc.proofs.CauseLaws.{told_some}
use Rattle.nb_alloc.proofs.WantLaws.{not_wanted, wanted_so, wanted_as, short_front, short_then, short_after}

pub unless_some : (cause : Cause) (xs : List Stroke) (r : Refusal) → cause ≡ Some r → unless_by cause xs ≡ []
unless_some cause xs r some = ap (λ (c : Cause). unless_by c xs) some

pub unless_same : (cause : Cause) (xs ys : List Stroke) → (cause ≡ None → xs ≡ ys) → unless_by cause xs ≡ unless_by cause ys
unless_same None xs ys same = same refl
unless_same (Some r) xs ys same = refl

-- what is seen, with this database
abbrev pub seeing : Seen → Base → Seen
seeing s b = record s { base = b }

-- what a test found is what this one finds, where each of its causes is one of this
pub tested_as : (S T : Type 0) (fault : Fault) (found cause : Cause) → ((r : Refusal) → found ≡ Some r → cause ≡ Some r) → Tested {T = S} (Err fault) found → Tested {T = T} (Err fault) cause
tested_as S T (RefusedFault r) found cause are tested = are r tested
tested_as S T Device found cause are tested = tt
tested_as S T Memory found cause are tested = tt

-- the same where `?` passes the fault on
pub tested_on : (S T : Type 0) (result : Result T Fault) (fault : Fault) (found cause : Cause) → IsErr result × IsErrAnd result (λ f. f ≡ fault) → ((r : Refusal) → found ≡ Some r → cause ≡ Some r)
    → Tested {T = S} (Err fault) found → Tested result cause
tested_on S T result fault found cause passed are tested = subst (λ (x : Result T Fault). Tested x cause) (sym (passed_on result fault passed)) (tested_as S T fault found cause are tested)

-- nothing is said under Ok
pub on_err : {T : Type 0} (result : Result T Fault) (fault : Fault) (P : Type 0) → IsErr result × IsErrAnd result (λ f. f ≡ fault) → OnOk result P
on_err {T = T} result fault P passed = subst (λ (x : Result T Fault). OnOk x P) (sym (passed_on result fault passed)) tt

pub if_err : {T : Type 0} (result : Result T Fault) (fault : Fault) (P : T → Type 0) → IsErr result × IsErrAnd result (λ f. f ≡ fault) → IfOk result P
if_err {T = T} result fault P passed = subst (λ (x : Result T Fault). IfOk x P) (sym (passed_on result fault passed)) tt

-- what holds of each value
pub if_ok : {T : Type 0} (result : Result T Fault) (P : T → Type 0) → ((value : T) → P value) → IfOk result P
if_ok (Ok value) P all = all value
if_ok (Err fault) P all = tt

-- what was tested is what this test finds
pub tested_by_name : {T : Type 0} (result : Result T Fault) (found cause : Cause) → cause ≡ found → Tested result found → Tested result cause
tested_by_name result found cause same tested = subst (λ (x : Cause). Tested result x) (sym same) tested

tested_none : {T : Type 0} (result : Result T Fault) (cause : Cause) → cause ≡ None → IfErr result IsNoRefusal → Tested result cause
tested_none (Ok value) cause none never = none
tested_none (Err (RefusedFault r)) cause none never = absurd never
tested_none (Err Device) cause none never = tt
tested_none (Err Memory) cause none never = tt

-- a test without a cause refuses nothing
pub sure_of : {T : Type 0} (result : Result T Fault) (cause : Cause) → cause ≡ None → Tested result cause → IfErr result IsNoRefusal
sure_of (Ok value) cause none tested = tt
sure_of (Err (RefusedFault r)) cause none tested = absurd (none_there (sym none ∙ tested))
sure_of (Err Device) cause none tested = tt
sure_of (Err Memory) cause none tested = tt

-- a failure is the same of a result of another type
pub makes_as : (S T : Type 0) (fault : Fault) (old new : World) (a b : Held) (t : Trail) (xs : List Stroke) → Makes {T = S} (Err fault) old new a b t xs → Makes {T = T} (Err fault) old new a b t xs
makes_as S T fault old new a b t xs makes = record { left = makes.left; long = makes.long; opened = by fault _ makes.opened; goes = makes.goes; gave = makes.gave }
  where
    by : (f : Fault) (P : Type 0) → WhereEnded {T = S} (Err f) P → WhereEnded {T = T} (Err f) P
    by (RefusedFault r) P is = is
    by Device P is = tt
    by Memory P is = tt

pub tries_other : (S T : Type 0) (fault : Fault) (old new : World) (a b : Held) (t : Trail) (cause : Cause) (xs : List Stroke) → Tries {T = S} (Err fault) old new a b t cause xs → Tries {T = T} (Err fault) old new a b t cause xs
tries_other S T fault old new a b t cause xs tries = record {
  test = tested_as S T fault cause cause (λ r e. e) tries.test;
  makes = makes_as S T fault old new a b t (unless_by cause xs) tries.makes;
  idle = tries.idle;
  stops = wanted_as S T fault (StopsShort old new a b t (unless_by cause xs)) tries.stops;
}

-- and so is a call that answers by what another has answered
pub makes_valued : {S T : Type 0} (v : S) (w : T) (old new : World) (a b : Held) (t : Trail) (xs : List Stroke) → Makes (Ok v) old new a b t xs → Makes (Ok w) old new a b t xs
makes_valued v w old new a b t xs makes = record { left = makes.left; long = makes.long; opened = makes.opened; goes = makes.goes; gave = makes.gave }

pub tries_valued : {S T : Type 0} (v : S) (w : T) (old new : World) (a b : Held) (t : Trail) (cause : Cause) (xs : List Stroke) → Tries (Ok v) old new a b t cause xs → Tries (Ok w) old new a b t cause xs
tries_valued v w old new a b t cause xs tries = record { test = tries.test; makes = makes_valued v w old new a b t (unless_by cause xs) tries.makes; idle = tries.idle; stops = tt }

-- a test that wants no memory ended the call before any stroke
pub tries_failed : (T : Type 0) (fault : Fault) (old new : World) (a b : Held) (t : Trail) (cause : Cause) (xs : List Stroke) → fault ≢ Memory → Tested {T = T} (Err fault) cause → but_pages b ≡ but_pages a → Quiet old new → IsOpen old a t → IsOpen new b t
    → Tries {T = T} (Err fault) old new a b t cause xs
tries_failed T (RefusedFault r) old new a b t cause xs none tested same quiet is opened = record {
  test = tested;
  makes = subst (λ (ss : List Stroke). Makes {T = T} (Err (RefusedFault r)) old new a b t ss) (sym (unless_some cause xs r tested)) (makes_none (Err (RefusedFault r)) old new a b t same quiet is opened);
  idle = λ q some. quiet;
  stops = tt;
}
tries_failed T Device old new a b t cause xs none tested same quiet is opened = record { test = tt; makes = makes_not T Device old new a b t (unless_by cause xs) tt same quiet is; idle = λ q some. quiet; stops = tt }
tries_failed T Memory old new a b t cause xs none tested same quiet is opened = absurd (none refl)

-- the same where `?` passes the fault on
pub tries_passed : {T : Type 0} (result : Result T Fault) (fault : Fault) (P : Result T Fault → Type 0) → IsErr result × IsErrAnd result (λ f. f ≡ fault) → P (Err fault) → P result
tries_passed result fault P passed is = subst P (sym (passed_on result fault passed)) is

pub tries_early : (S T : Type 0) (result : Result T Fault) (fault : Fault) (old new : World) (a b : Held) (t : Trail) (found cause : Cause) (xs : List Stroke) → IsErr result × IsErrAnd result (λ f. f ≡ fault) → fault ≢ Memory
    → ((r : Refusal) → found ≡ Some r → cause ≡ Some r) → Tested {T = S} (Err fault) found → but_pages b ≡ but_pages a → Quiet old new → IsOpen old a t → IsOpen new b t → Tries result old new a b t cause xs
tries_early S T result fault old new a b t found cause xs passed none are tested same quiet is opened =
    tries_passed result fault (λ r. Tries r old new a b t cause xs) passed (tries_failed T fault old new a b t cause xs none (tested_as S T fault found cause are tested) same quiet is opened)

-- no cause applies, and the strokes are made
pub tries_made : {T : Type 0} (result : Result T Fault) (old new : World) (a b : Held) (t : Trail) (cause : Cause) (xs : List Stroke) → cause ≡ None → IfErr result IsNoRefusal → Makes result old new a b t xs
    → WhereMemory result (StopsShort old new a b t xs) → Tries result old new a b t cause xs
tries_made result old new a b t cause xs none never makes stops = record {
  test = tested_none result cause none never;
  makes = subst (λ (ss : List Stroke). Makes result old new a b t ss) (sym (unless_none cause xs none)) makes;
  idle = λ r some. absurd (none_there (sym none ∙ some));
  stops = subst (λ (ss : List Stroke). WhereMemory result (StopsShort old new a b t ss)) (sym (unless_none cause xs none)) stops;
}

-- what is open after the strokes
pub tries_opened : {T : Type 0} (value : T) (old new : World) (a b : Held) (t : Trail) (cause : Cause) (xs : List Stroke) → Tries (Ok value) old new a b t cause xs → IsOpen new b (after_strokes t xs)
tries_opened value old new a b t cause xs tries = subst (λ (ss : List Stroke). IsOpen new b (after_strokes t ss)) (unless_none cause xs tries.test) tries.makes.opened

-- more strokes follow
pub tries_then : {S T : Type 0} (value : S) (result : Result T Fault) (old mid new : World) (a b c : Held) (t : Trail) (cause : Cause) (xs ys : List Stroke) → Tries (Ok value) old mid a b t cause xs
    → IfErr result IsNoRefusal → Makes result mid new b c (after_strokes t xs) ys → WhereMemory result (StopsShort mid new b c (after_strokes t xs) ys) → Tries result old new a c t cause (xs ++ ys)
tries_then value result old mid new a b c t cause xs ys first never second stops =
    let made = subst (λ (ss : List Stroke). Makes (Ok value) old mid a b t ss) (unless_none cause xs first.test) first.makes in
    tries_made result old new a c t cause (xs ++ ys) first.test never (makes_then value result old mid new a b c t xs ys made second)
    (wanted_so result (StopsShort mid new b c (after_strokes t xs) ys) (StopsShort old new a c t (xs ++ ys)) (short_then value old mid new a b c t xs ys made) stops)

-- or would have followed, but the first ended the call
pub tries_front : (S T : Type 0) (fault : Fault) (old new : World) (a b : Held) (t : Trail) (cause : Cause) (xs ys : List Stroke) → Tries {T = S} (Err fault) old new a b t cause xs
    → Tries {T = T} (Err fault) old new a b t cause (xs ++ ys)
tries_front S T fault old new a b t cause xs ys first = by fault first
  where
    failed : (f : Fault) (c : Cause) → IsNoRefusal f → Makes {T = S} (Err f) old new a b t (unless_by c xs) → Makes {T = T} (Err f) old new a b t (unless_by c (xs ++ ys))
    failed f None fails makes = makes_front S T f old new a b t xs ys fails makes
    failed f (Some r) fails makes = makes_front S T f old new a b t [] [] fails makes

    stopped : (c : Cause) → StopsShort old new a b t (unless_by c xs) → StopsShort old new a b t (unless_by c (xs ++ ys))
    stopped None stops = short_front old new a b t xs ys stops
    stopped (Some r) stops = stops

    by : (f : Fault) → Tries {T = S} (Err f) old new a b t cause xs → Tries {T = T} (Err f) old new a b t cause (xs ++ ys)
    by (RefusedFault r) first =
        let none : unless_by cause xs ≡ unless_by cause (xs ++ ys) = unless_some cause xs r first.test ∙ sym (unless_some cause (xs ++ ys) r first.test) in
        record {
          test = first.test;
          makes = subst (λ (ss : List Stroke). Makes {T = T} (Err (RefusedFault r)) old new a b t ss) none
              (record { left = first.makes.left; long = first.makes.long; opened = first.makes.opened; goes = first.makes.goes; gave = first.makes.gave });
          idle = first.idle;
          stops = tt;
        }
    by Device first = record { test = tt; makes = failed Device cause tt first.makes; idle = first.idle; stops = tt }
    by Memory first = record { test = tt; makes = failed Memory cause tt first.makes; idle = first.idle; stops = stopped cause first.stops }

-- the same where `?` passes the fault of the last call on
pub tries_on : (S T : Type 0) (result : Result T Fault) (fault : Fault) (old new : World) (a b : Held) (t : Trail) (cause : Cause) (xs : List Stroke) → IsErr result × IsErrAnd result (λ f. f ≡ fault)
    → Tries {T = S} (Err fault) old new a b t cause xs → Tries result old new a b t cause xs
tries_on S T result fault old new a b t cause xs passed tries = tries_passed result fault (λ r. Tries r old new a b t cause xs) passed (tries_other S T fault old new a b t cause xs tries)

-- Another call follows, and no cause applies to either.
pub tries_next : {S T : Type 0} (value : S) (result : Result T Fault) (old mid new : World) (a b c : Held) (t : Trail) (xs ys : List Stroke) → Tries (Ok value) old mid a b t None xs
    → Tries result mid new b c (after_strokes t xs) None ys → Tries result old new a c t None (xs ++ ys)
tries_next value result old mid new a b c t xs ys first second = tries_then value result old mid new a b c t None xs ys first (sure_of result None refl second.test) second.makes second.stops

-- or calls that change nothing, aren't refused and want no memory
pub tries_before : {S T : Type 0} (value : S) (result : Result T Fault) (old mid new : World) (a b c : Held) (t : Trail) (xs : List Stroke) → Tries (Ok value) old mid a b t None xs
    → but_pages c ≡ but_pages b → Quiet mid new → ((u : Trail) → IsOpen mid b u → IsOpen new c u) → IfErr result IsNoRefusal → IfErr result (λ f. f ≢ Memory) → Tries result old new a c t None xs
tries_before value result old mid new a b c t xs first still quiet opens sure none =
    tries_made result old new a c t None xs refl sure (makes_before value result old mid new a b c t xs first.makes still quiet opens) (not_wanted result (StopsShort old new a c t xs) none)

-- calls that change nothing before it
pub tries_after : {T : Type 0} (result : Result T Fault) (old mid new : World) (a b c : Held) (t : Trail) (cause : Cause) (xs : List Stroke) → but_pages b ≡ but_pages a → Quiet old mid → IsOpen old a t → Tries result mid new b c t cause xs
    → Tries result old new a c t cause xs
tries_after result old mid new a b c t cause xs same quiet is tries = record {
  test = tries.test;
  makes = makes_after result old mid new a b c t (unless_by cause xs) same quiet is tries.makes;
  idle = λ r some. quiet_joined old mid new quiet (tries.idle r some);
  stops = wanted_so result (StopsShort mid new b c t (unless_by cause xs)) (StopsShort old new a c t (unless_by cause xs)) (short_after old mid new a b c t (unless_by cause xs) same quiet is) tries.stops;
}

-- the same strokes, where no cause applies
pub tries_these : {T : Type 0} (result : Result T Fault) (old new : World) (a b : Held) (t : Trail) (cause : Cause) (xs ys : List Stroke) → (cause ≡ None → xs ≡ ys) → Tries result old new a b t cause xs
    → Tries result old new a b t cause ys
tries_these result old new a b t cause xs ys same tries = record {
  test = tries.test;
  makes = subst (λ (ss : List Stroke). Makes result old new a b t ss) (unless_same cause xs ys same) tries.makes;
  idle = tries.idle;
  stops = subst (λ (ss : List Stroke). WhereMemory result (StopsShort old new a b t ss)) (unless_same cause xs ys same) tries.stops;
}

-- the strokes and the reply of a turn that is refused where there is a cause
strokes_are : (s : Seen) (cause : Cause) (said : Reply) (xs : List Stroke) → unless_by cause xs ≡ (unless s cause (says s said xs)).strokes
unfolding unless
strokes_are s None said xs = refl
strokes_are s (Some r) said xs = refl

answer_is : {T : Type 0} (reply : T → Reply) (result : Result T Fault) (s : Seen) (cause : Cause) (said : Reply) (xs : List Stroke) → Tested result cause → IfOk result (λ value. reply value ≡ said)
    → Answers reply result (unless s cause (says s said xs)).reply
unfolding unless
answer_is reply (Ok value) s cause said xs none is = ap (λ (c : Cause). (unless s c (says s said xs)).reply) none ∙ ap Some (sym is)
answer_is reply (Err (RefusedFault r)) s cause said xs some is = ap (λ (c : Cause). (unless s c (says s said xs)).reply) some
answer_is reply (Err Device) s cause said xs tested is = tt
answer_is reply (Err Memory) s cause said xs tested is = tt

-- so the call does that turn
pub tries_does : {T : Type 0} (reply : T → Reply) (result : Result T Fault) (old new : World) (a b : Held) (t : Trail) (s : Seen) (turn : Seen → Outcome) (cause : Cause) (said : Reply) → only_tells said ≡ false → (xs : List Stroke)
    → t.base ≡ s.base → turn (seeing s t.base) ≡ unless (seeing s t.base) cause (says (seeing s t.base) said xs) → IfOk result (λ value. reply value ≡ said) → Tries result old new a b t cause xs → Does reply result old new a b t (turn s)
tries_does reply result old new a b t s turn cause said not_told xs same e is tries =
    subst (λ (x : Base). Does reply result old new a b t (turn (seeing s x))) same (subst (λ (o : Outcome). Does reply result old new a b t o) (sym e) (record {
      answer = answer_is reply result (seeing s t.base) cause said xs tries.test is;
      makes = subst (λ (ss : List Stroke). Makes result old new a b t ss) (strokes_are (seeing s t.base) cause said xs) tries.makes;
      idle = λ told. let some = told_some (seeing s t.base) cause (says (seeing s t.base) said xs) not_told told in tries.idle some.0 some.1;
    }))

-- and where it answers Memory, it has stopped before the last stroke of the turn
pub tries_stops : {T : Type 0} (result : Result T Fault) (old new : World) (a b : Held) (t : Trail) (s : Seen) (turn : Seen → Outcome) (cause : Cause) (said : Reply) (xs : List Stroke)
    → t.base ≡ s.base → turn (seeing s t.base) ≡ unless (seeing s t.base) cause (says (seeing s t.base) said xs) → Tries result old new a b t cause xs → WhereMemory result (StopsShort old new a b t (turn s).strokes)
tries_stops result old new a b t s turn cause said xs same e tries =
    subst (λ (x : Base). WhereMemory result (StopsShort old new a b t (turn (seeing s x)).strokes)) same
    (subst (λ (ss : List Stroke). WhereMemory result (StopsShort old new a b t ss)) (strokes_are (seeing s t.base) cause said xs ∙ ap (λ (o : Outcome). o.strokes) (sym e)) tries.stops)

-- calls that change nothing do a turn that says this and has no stroke
pub valued_does : {T : Type 0} (reply : T → Reply) (value : T) (old new : World) (a b : Held) (t : Trail) (s : Seen) (turn : Seen → Outcome) → t.base ≡ s.base → but_pages b ≡ but_pages a → Quiet old new → IsOpen old a t → IsOpen new b t
    → turn (seeing s t.base) ≡ says (seeing s t.base) (reply value) [] → Does reply (Ok value) old new a b t (turn s)
valued_does reply value old new a b t s turn same still quiet is opened e =
    subst (λ (x : Base). Does reply (Ok value) old new a b t (turn (seeing s x))) same
    (subst (λ (o : Outcome). Does reply (Ok value) old new a b t o) (sym e) (record { answer = refl; makes = makes_none (Ok value) old new a b t still quiet is opened; idle = λ told. quiet }))

-- or one that is refused
pub refused_does : {T : Type 0} (reply : T → Reply) (r : Refusal) (old new : World) (a b : Held) (t : Trail) (s : Seen) (turn : Seen → Outcome) → t.base ≡ s.base → but_pages b ≡ but_pages a → Quiet old new → IsOpen old a t → IsOpen new b t
    → turn (seeing s t.base) ≡ says (seeing s t.base) (Refused r) [] → Does reply (Err (RefusedFault r)) old new a b t (turn s)
refused_does reply r old new a b t s turn same still quiet is opened e =
    subst (λ (x : Base). Does reply (Err (RefusedFault r)) old new a b t (turn (seeing s x))) same
    (subst (λ (o : Outcome). Does reply (Err (RefusedFault r)) old new a b t o) (sym e) (record { answer = refl; makes = makes_none (Err (RefusedFault r)) old new a b t still quiet is opened; idle = λ told. quiet }))

-- A test ended the call, and `?` passed its fault on. The turn is refused where the test has a cause.
pub tested_does : (S T : Type 0) (reply : T → Reply) (result : Result T Fault) (fault : Fault) (old new : World) (a b : Held) (t : Trail) (s : Seen) (turn : Seen → Outcome) (found : Cause)
    → IsErr result × IsErrAnd result (λ f. f ≡ fault) → t.base ≡ s.base → but_pages b ≡ but_pages a → Quiet old new → IsOpen old a t → IsOpen new b t → Tested {T = S} (Err fault) found
    → ((r : Refusal) → found ≡ Some r → turn (seeing s t.base) ≡ says (seeing s t.base) (Refused r) []) → Does reply result old new a b t (turn s)
tested_does S T reply result fault old new a b t s turn found passed same still quiet is opened tested refused =
    subst (λ (x : Result T Fault). Does reply x old new a b t (turn s)) (sym (passed_on result fault passed)) (by fault tested)
  where
    by : (f : Fault) → Tested {T = S} (Err f) found → Does reply (Err f) old new a b t (turn s)
    by (RefusedFault r) tested = refused_does reply r old new a b t s turn same still quiet is opened (refused r tested)
    by Device tested = record { answer = tt; makes = makes_not T Device old new a b t (turn s).strokes tt still quiet is; idle = λ told. quiet }
    by Memory tested = record { answer = tt; makes = makes_not T Memory old new a b t (turn s).strokes tt still quiet is; idle = λ told. quiet }
