-- Files and faults, for all crates: bytes with zeros after them, a fault that is passed on, a file that has a length.
use Rattle.std.proofs.Common.{◌≡◌, ℕ, ◌+◌, ◌-◌, ◌≤◌, List, ◌++◌, length, ◌∙◌, ap, arith, replicate, take, length-append, length-take, sym, subst, Result, Ok, Err, IsErr, IsErrAnd, refl, Some, None, Option, option_map}
use Rattle.std.proofs.lemmas.List.{append-nil, length-replicate}
use Rattle.nb_host.specs.Files.{padded, File}
use Rattle.nb_host.specs.declared.faults.Fault.{Fault}
use Rattle.nb_host.specs.declared.faults.Fault.TheVariants.{Device, Memory}

pub padded-short : (bytes : List ℕ) (len : ℕ) → len ≤ length bytes → padded bytes len ≡ bytes
unfolding padded
padded-short bytes len fits = ap (λ (n : ℕ). bytes ++ replicate n 0) (let e : len - length bytes ≡ 0 = omega arith in e) ∙ append-nil bytes

pub length-front : (bytes : List ℕ) (at : ℕ) → length (take at (padded bytes at)) ≡ at
unfolding padded
length-front bytes at = omega (arith, length-take at (bytes ++ replicate (at - length bytes) 0), length-append bytes (replicate (at - length bytes) 0), length-replicate {A = ℕ} (at - length bytes) 0)

-- a fault that is passed on
pub passed : (T : Type 0) (P : Result T Fault → Type 0) (result : Result T Fault) (fault : Fault) → IsErr result × IsErrAnd result (λ f. f ≡ fault) → P (Err fault) → P result
passed T P (Ok value) fault is here = absurd is.1
passed T P (Err e) fault is here = subst (λ (f : Fault). P (Err f)) (sym is.1) here

-- the device isn't memory
pub device_memory : Device ≡ Memory → ⊥
device_memory h = cc

-- a file that has a length has so many bytes
pub record IsLong (file : File) (size : ℕ) : Type 0 where
  pub bytes : List ℕ
  pub is : file ≡ Some bytes
  pub long : length bytes ≡ size

pub long_file : (file : File) (size : Option ℕ) (long : ℕ) → size ≡ option_map length file → size ≡ Some long → IsLong file long
long_file (Some bytes) size long told is = record { bytes = bytes; is = refl; long = cc }
long_file None size long told is = absurd (none_some long (sym told ∙ is))
  where
    none_some : (n : ℕ) → option_map (length {A = ℕ}) None ≡ Some n → ⊥
    none_some n e = cc
