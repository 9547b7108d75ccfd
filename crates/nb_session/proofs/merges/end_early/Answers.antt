use Rattle.std.proofs.Common.{◌≡◌, refl, sym, subst, Err}
use Rattle.nb_session.proofs.Common.{CountsDevice, CountsRun, FaultCount, Fault, Taken, EndsEarly}
use Rattle.nb_host.specs.declared.faults.RunError.TheVariants.{Device as DeviceError, Memory as MemoryError}
use Rattle.nb_session.proofs.merges.end_early.Goals as goal

pub returns-in-Refused-clause-ended : goal.returns-in-Refused-clause-ended
returns-in-Refused-clause-ended g c tells =
    subst (λ (f : Fault). EndsEarly c.args.session f c.say_refused.result (g.H.Host.world c.args.host.now) (g.H.Host.world c.say_refused.new.host) (c.say_refused.new.host ≡ c.args.host.now)) (sym c.in-Refused.is) (c.say_refused.ensures.line tells)

pub returns-in-Device-clause-ended : goal.returns-in-Device-clause-ended
returns-in-Device-clause-ended g c tells =
    let w = g.H.Host.world c.args.host.now in
    subst (λ (f : Fault). EndsEarly {T = Taken} c.args.session f (Err DeviceError) w w (c.args.host.now ≡ c.args.host.now)) (sym c.in-Device.is) (refl, refl)

pub returns-in-Memory-clause-ended : goal.returns-in-Memory-clause-ended
returns-in-Memory-clause-ended g c tells =
    let w = g.H.Host.world c.args.host.now in
    subst (λ (f : Fault). EndsEarly {T = Taken} c.args.session f (Err MemoryError) w w (c.args.host.now ≡ c.args.host.now)) (sym c.in-Memory.is) (refl, refl)

pub returns-in-Refused-clause-cause : goal.returns-in-Refused-clause-cause
returns-in-Refused-clause-cause g c before counts =
    let same : g.H.Host.faults c.args.host.now ≡ before = subst (λ (f : Fault). CountsDevice {T = Taken} (Err f) before (g.H.Host.faults c.args.host.now)) c.in-Refused.is counts in
    subst (λ (n : FaultCount). CountsRun c.say_refused.result n (g.H.Host.faults c.say_refused.new.host)) same c.say_refused.ensures.cause

pub returns-in-Device-clause-cause : goal.returns-in-Device-clause-cause
returns-in-Device-clause-cause g c before counts = subst (λ (f : Fault). CountsDevice {T = Taken} (Err f) before (g.H.Host.faults c.args.host.now)) c.in-Device.is counts

pub returns-in-Memory-clause-cause : goal.returns-in-Memory-clause-cause
returns-in-Memory-clause-cause g c before counts = subst (λ (f : Fault). CountsDevice {T = Taken} (Err f) before (g.H.Host.faults c.args.host.now)) c.in-Memory.is counts
