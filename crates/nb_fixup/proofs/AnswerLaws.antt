-- What is answered, passed on.
use Rattle.std.proofs.Common.{◌≡◌, ℕ, ◌≤◌, List, length, take, sym, ap, subst, ◌∙◌, arith, Option, Some, None, option_map, is_some, Result, Ok, Err, IfOk}
use Rattle.nb_fixup.proofs.Common.{take-take, length-take, size_of, File, Fault, Refused, Device, Memory, Refusal, Cause, IsPageOf, TestedByReads}

-- what is refused by a test
pub refused : (T : Type 0) (cause : Cause) (fault : Fault) (r : Refusal) → fault ≡ Refused r → cause ≡ Some r → TestedByReads {T = T} (Err fault) cause
refused T cause fault r is some = subst (λ (f : Fault). TestedByReads {T = T} (Err f) cause) (sym is) some

-- what is tested by one cause is tested by another that refuses the same
pub tested_by : (S T : Type 0) (fault : Fault) (one two : Cause) → ((r : Refusal) → one ≡ Some r → two ≡ Some r) → TestedByReads {T = S} (Err fault) one → TestedByReads {T = T} (Err fault) two
tested_by S T (Refused r) one two as_well tested = as_well r tested
tested_by S T Device one two as_well tested = tt
tested_by S T Memory one two as_well tested = tested

pub some_length : (file : File) (size : Option ℕ) → size ≡ option_map length file → is_some size ≡ is_some file
some_length None size told = ap is_some told
some_length (Some bytes) size told = ap is_some told

-- page 0 is in front of what was read
page_read : (got size : ℕ) (bytes first : List ℕ) → take got first ≡ take 32768 bytes → size ≤ length (take got first) → take size first ≡ take size bytes
page_read got size bytes first read low =
    let inside : size ≤ got = omega (arith, low, length-take got first) in
    let fits : size ≤ 32768 = omega (arith, low, ap length read, length-take 32768 bytes) in
    sym (take-take size got first inside) ∙ ap (take size) read ∙ take-take size 32768 bytes fits

pub page_of : (got : ℕ) (bytes first : List ℕ) (result : Result ℕ Fault) → take got first ≡ take 32768 bytes → IfOk result (λ size. size ≡ size_of bytes) → IfOk result (λ size. size ≤ length (take got first))
    → IfOk result (IsPageOf bytes first)
page_of got bytes first (Ok size) read is low = (is, page_read got size bytes first read low)
page_of got bytes first (Err fault) read is low = tt
