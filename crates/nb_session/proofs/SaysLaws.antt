-- Saying a line.
use Rattle.std.proofs.Common.{◌≡◌, ℕ, zero, suc, ◌+◌, ◌-◌, List, [], ◌∷◌, ◌++◌, Bool, length, take, sym, ap, ◌∙◌, subst, arith, Result, Ok, Err, IsTrue, OnOk, min}
use Rattle.nb_session.proofs.Common.{take-append-add, append-nil, take_all, Files, World, LeavesAll, IsStill, IsWhileSaying, IsTimely, PassesSaying, AtEachMoment, goes_on, left_before, FrontSaid, SaysLine, no_err}
use Rattle.std.specs.Result.{IsErr}
use Rattle.nb_host.specs.Calls.{Says}
use Rattle.nb_change.proofs.MomentLaws.{started}

left_all : (old new : World) → IsStill old new → (files : Files) → LeavesAll new files → LeavesAll old files
left_all old new still files all name = left_before old new _ still.left name (files name) tt (all name)

-- how much of it was said
record SaidPart (old new : World) (bytes : List ℕ) : Type 0 where
  count : ℕ
  is : new.said ≡ old.said ++ take count bytes

said_part : {T E : Type 0} (tells : Bool) → IsTrue tells → (result : Result T E) (old new : World) (bytes : List ℕ) → Says tells result old new bytes → SaidPart old new bytes
said_part tells told (Ok x) old new bytes says = record { count = length bytes; is = says.said told ∙ ap (λ (l : List ℕ). old.said ++ l) (sym (take_all (length bytes) bytes (omega arith))) }
said_part tells told (Err e) old new bytes says = let part = says.said told in record { count = part.0; is = part.1 }

-- a front of a front
take_fewer : (j k : ℕ) (l : List ℕ) → take j (take k l) ≡ take (min j k) l
take_fewer zero k l = let e : min 0 k ≡ 0 = omega arith in sym (ap (λ (n : ℕ). take n l) e)
take_fewer (suc j) zero l = let e : min (suc j) 0 ≡ 0 = omega arith in sym (ap (λ (n : ℕ). take n l) e)
take_fewer (suc j) (suc k) [] = let e : min (suc j) (suc k) ≡ suc (min j k) = omega arith in sym (ap (λ (n : ℕ). take n []) e)
take_fewer (suc j) (suc k) (x ∷ l) = let e : min (suc j) (suc k) ≡ suc (min j k) = omega arith in ap (λ (r : List ℕ). x ∷ r) (take_fewer j k l) ∙ sym (ap (λ (n : ℕ). take n (x ∷ l)) e)

while_saying : (old new : World) (bytes : List ℕ) (count : ℕ) → IsStill old new → new.said ≡ old.said ++ take count bytes → (files : Files) (said : List ℕ) → IsWhileSaying old new files said → FrontSaid old bytes files said
while_saying old new bytes count still is files said saying =
    let more : ℕ = length said - length old.said in
    let split : length said ≡ length old.said + more = omega (arith, saying.no_shorter) in
    record {
      count = min more count;
      is = saying.part ∙ ap (take (length said)) is ∙ ap (λ (n : ℕ). take n (old.said ++ take count bytes)) split ∙ take-append-add old.said (take count bytes) more
          ∙ ap (λ (l : List ℕ). old.said ++ l) (take_fewer more count bytes);
      left = left_all old new still files saying.left;
    }

before_saying : (old : World) (bytes : List ℕ) → IsTimely old → AtEachMoment old old (FrontSaid old bytes)
before_saying old bytes timely = started old _ timely (λ files said is. record { count = 0; is = is.output ∙ sym (append-nil old.said); left = is.left })

-- the call of the host, whatever comes of its answer
pub says_line : {T E S F : Type 0} (tells : Bool) → IsTrue tells → (result : Result T E) (after : Result S F) (old new : World) (bytes : List ℕ) → IsTimely old → IsStill old new → Says tells result old new bytes → PassesSaying old new
    → OnOk after (new.said ≡ old.said ++ bytes) → SaysLine after old new bytes
says_line tells told result after old new bytes timely still says time done =
    let part = said_part tells told result old new bytes says in
    record {
      still = still;
      moments = goes_on old old new _ _ (before_saying old bytes timely) time (while_saying old new bytes part.count still part.is);
      said = done;
      gave = record { guids = says.guids; times = says.times };
    }

-- a failure said nothing whole
pub err_unsaid : {S F : Type 0} (P : Type 0) (result : Result S F) → IsErr result → OnOk result P
err_unsaid {S} {F} P (Ok x) is = absurd (no_err S F x is)
err_unsaid P (Err e) is = tt

-- the same line
pub says_other : {T E : Type 0} (result : Result T E) (old new : World) (a b : List ℕ) → a ≡ b → SaysLine result old new a → SaysLine result old new b
says_other result old new a b same says = subst (λ (l : List ℕ). SaysLine result old new l) same says
