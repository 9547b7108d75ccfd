-- One step of reading the entries of a difference file.
use Rattle.std.proofs.Common.{◌≡◌, ℕ, suc, ◌+◌, ◌*◌, ◌<◌, true, false, List, [], ◌∷◌, ◌++◌, length, refl, sym, ◌∙◌, subst, nat_eq, nat_le, nat_lt, Result, Ok, Err, IsErr}
use Rattle.nb_delta.proofs.Common.{IsErrAnd, list_any, or_parts, leb-false, number_in, page_in, entries_from, most_pages, Fault, Refused, Device, Memory, BadDelta, is_unfit, Reads, ReadsOn}

-- a refusal that names the broken page
pub on_broken : (form rest : Result (List ℕ) ℕ) (fault : Fault) (page : ℕ) → fault ≡ Refused (BadDelta page) → form ≡ Err page → ReadsOn form (Err fault) rest
on_broken form rest fault page is broken = subst (λ (f : Fault). ReadsOn form (Err f) rest) (sym is) (record { page = page; broken = broken; named = refl })

-- a fault that ends a part of the reading ends the whole
told_on : (form mid rest : Result (List ℕ) ℕ) (entries : List ℕ) (fault : Fault) → form ≡ mid → ReadsOn mid (Err fault) rest → Reads form (Err fault) entries
told_on form mid rest entries (Refused refusal) same told = record { page = told.page; broken = same ∙ told.broken; named = told.named }
told_on form mid rest entries Device same told = tt
told_on form mid rest entries Memory same told = tt

pub passed_on : (form mid rest : Result (List ℕ) ℕ) (entries : List ℕ) (fault : Fault) (result : Result (Unit {0}) Fault) → IsErr result × IsErrAnd result (λ f. f ≡ fault) → form ≡ mid
    → ReadsOn mid (Err fault) rest → Reads form result entries
passed_on form mid rest entries fault (Ok x) is same told = absurd is.1
passed_on form mid rest entries fault (Err e) is same told = subst (λ (f : Fault). Reads form (Err f) entries) (sym is.1) (told_on form mid rest entries fault same told)

-- no entry is left
pub entries_none : (size at i : ℕ) (bytes found : List ℕ) → entries_from size at i 0 bytes found ≡ Ok found
unfolding entries_from
entries_none size at i bytes found = refl

module _ (size at i left : ℕ) (bytes found : List ℕ) where
  abbrev number : ℕ
  number = number_in (4 + 4 * i) 4 (page_in size bytes at)

  pub entry_unfit : is_unfit number found ≡ true → entries_from size at i (suc left) bytes found ≡ Err at
  unfolding entries_from
  entry_unfit is = rw (is, entries_from) refl

  pub entry_cut : is_unfit number found ≡ false → nat_lt (length bytes) ((at + 2 + i) * size) ≡ true → entries_from size at i (suc left) bytes found ≡ Err (at + 1 + i)
  unfolding entries_from
  entry_cut fit is = rw (fit, is, entries_from) refl

  pub entry_read : is_unfit number found ≡ false → nat_lt (length bytes) ((at + 2 + i) * size) ≡ false → entries_from size at i (suc left) bytes found ≡ entries_from size at (i + 1) left bytes (found ++ number ∷ [])
  unfolding entries_from
  entry_read fit whole = rw (fit, whole, entries_from) refl

-- a number that is fit was not named before
pub fit_named : (number : ℕ) (found : List ℕ) → is_unfit number found ≡ false → list_any (nat_eq number) found ≡ false
fit_named number found is = (or_parts (nat_le most_pages number) (list_any (nat_eq number) found) is).1

pub fit_below : (number : ℕ) (found : List ℕ) → is_unfit number found ≡ false → number < most_pages
fit_below number found is = leb-false most_pages number (or_parts (nat_le most_pages number) (list_any (nat_eq number) found) is).0
