-- How a difference file is attached.
use Rattle.std.proofs.Common.{◌≡◌, ℕ, List, sym, subst, Some, Result, Ok, Err, IsErr}
use Rattle.nb_delta.proofs.Common.{IsErrAnd, File, Fault, Refused, Device, Memory, table_of, Known, Reads}
use Rattle.nb_delta.specs.Attaching.{Attaches}

refused : (size : ℕ) (name bytes entries : List ℕ) (fault : Fault) → Reads (table_of size bytes) (Err fault) entries → Attaches size name (Some bytes) (Err fault)
refused size name bytes entries (Refused refusal) told = told
refused size name bytes entries Device told = tt
refused size name bytes entries Memory told = tt

-- a file whose table can't be read isn't attached
pub not_attached : (size : ℕ) (name : List ℕ) (file : File) (bytes entries : List ℕ) (fault : Fault) (result : Result Known Fault) → file ≡ Some bytes → IsErr result × IsErrAnd result (λ f. f ≡ fault)
    → Reads (table_of size bytes) (Err fault) entries → Attaches size name file result
not_attached size name file bytes entries fault (Ok x) there is told = absurd is.1
not_attached size name file bytes entries fault (Err e) named is told =
    subst (λ (x : File). Attaches size name x (Err e)) (sym named) (subst (λ (f : Fault). Attaches size name (Some bytes) (Err f)) (sym is.1) (refused size name bytes entries fault told))
