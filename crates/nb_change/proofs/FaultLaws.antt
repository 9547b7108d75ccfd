-- An error of what can't be refused, where `?` makes a fault of it.
use Rattle.std.proofs.Common.{◌≡◌, ◌≢◌, refl, sym, ◌∙◌, subst, Result, Err, IsErr, IsErrAnd, IfErr}
use Rattle.nb_change.proofs.Common.{device_memory}
use Rattle.nb_host.specs.Causes.{CountsDevice, CountsRun, FaultCount}
use Rattle.nb_host.specs.Faults.{as_fault}
use Rattle.nb_host.specs.declared.faults.Fault.{Fault}
use Rattle.nb_host.specs.declared.faults.Fault.TheVariants.{Device, Memory}
use Rattle.nb_host.specs.declared.faults.RunError.{RunError}
use Rattle.nb_host.specs.declared.faults.RunError.TheVariants.{Device as DeviceError, Memory as MemoryError}
use Rattle.nb_change.proofs.ResultLaws.{passed_on}

module _ {T : Type 0} (result : Result T Fault) (error : RunError) (passed : IsErr result × IsErrAnd result (λ f. f ≡ as_fault error)) where
  -- what is said of the error is said of the fault
  is_passed : (P : Result T Fault → Type 0) → P (Err (as_fault error)) → P result
  is_passed P is = subst P (sym (passed_on result (as_fault error) passed)) is

  pub counts_passed : (S : Type 0) (old mid new : FaultCount) → mid ≡ old → CountsRun {T = S} (Err error) mid new → CountsDevice result old new
  counts_passed S old mid new same counts =
      is_passed (λ (r : Result T Fault). CountsDevice r old new) (by error (subst (λ (n : FaultCount). CountsRun {T = S} (Err error) n new) same counts))
    where
      by : (e : RunError) → CountsRun {T = S} (Err e) old new → CountsDevice {T = T} (Err (as_fault e)) old new
      by DeviceError is = is
      by MemoryError is = is

  pub none_wanted : error ≢ MemoryError → IfErr result (λ f. f ≢ Memory)
  none_wanted other = is_passed (λ (r : Result T Fault). IfErr r (λ f. f ≢ Memory)) (by error other)
    where
      by : (e : RunError) → e ≢ MemoryError → as_fault e ≢ Memory
      by DeviceError other = device_memory
      by MemoryError other = absurd (other refl)

  -- where it tells that memory was wanted, it was
  pub memory_wanted : (S : Type 0) → result ≡ Err Memory → ◌≡◌ {A = Result S RunError} (Err error) (Err MemoryError)
  memory_wanted S is = by error (sym (passed_on result (as_fault error) passed) ∙ is)
    where
      device : ◌≡◌ {A = Result T Fault} (Err Device) (Err Memory) → ⊥
      device e = cc

      by : (e : RunError) → ◌≡◌ {A = Result T Fault} (Err (as_fault e)) (Err Memory) → ◌≡◌ {A = Result S RunError} (Err e) (Err MemoryError)
      by DeviceError is = absurd (device is)
      by MemoryError is = refl
