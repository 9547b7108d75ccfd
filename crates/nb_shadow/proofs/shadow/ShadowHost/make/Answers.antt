-- What is done to a file and then to its twin is done to the file, as the shadow sees it. Of a file that has no twin the call is the host's.
use Rattle.std.proofs.Common.{refl, sym, ◌∙◌, Ok, Err, Some, []}
use Rattle.std.proofs.lemmas.Result.{err_from_is_err_and}
use Rattle.nb_host.specs.declared.faults.HostFault.{HostFault}
use Rattle.nb_shadow.proofs.RemakeLaws.{remakes}
use Rattle.nb_shadow.proofs.ShadowLaws.{refused, alone, alone_in_step, twice, first_failed, twice_in_step}
use Rattle.nb_shadow.proofs.CountLaws.{own_rose, host_counts, second_counts, enters_alone, enters_both, follows_refused, follows_alone, follows_both, follows_failed}
use Rattle.nb_shadow.proofs.shadow.ShadowHost.make.Goals as goal

pub returns-in_err-copy : goal.returns-in_err-copy
returns-in_err-copy g c =
    let p = err_from_is_err_and c.from_residual.result c.from_residual.ensures.1 in
    rw (p.1, c.enter.ensures.pairs)
    (let d = refused _ (remakes (Some [])) g.H.Host.tells p.0 _ c.args.name.now in
    record {
      files = d.what;
      others = d.others;
      log = d.silent;
      time = d.time;
      cause = own_rose _ _ _ _ _ c.in_err-copy.ensures.answer.count;
      follows = follows_refused g.H.Host.faults _ _ _ _ _ _ p.0 _ c.args.self.now.twin.apart c.in_err-copy.ensures.answer;
    })

pub invariant_of-self-in_default : goal.invariant_of-self-in_default
invariant_of-self-in_default g c =
    let e = enters_alone HostFault _ _ _ _ _ _ _ c.in_default.is c.in_ok-copy.ensures.answer in
    rw c.enter.ensures.pairs
    (record {
      in_step = λ kept told. alone_in_step _ (remakes (Some [])) g.H.Host.tells _ c.args.self.now.twin.apart c.make.result _ _ c.args.name.now e.no_twin e.has_none
          (record { what = c.make.ensures.files; others = c.make.ensures.others; silent = c.make.ensures.log; time = c.make.ensures.time })
          (c.args.self.now.in_step (sym e.same ∙ kept)) told;
    })

pub returns-in_default : goal.returns-in_default
returns-in_default g c =
    let e = enters_alone HostFault _ _ _ _ _ _ _ c.in_default.is c.in_ok-copy.ensures.answer in
    rw c.enter.ensures.pairs
    (let d = alone _ (remakes (Some [])) g.H.Host.tells _ c.args.self.now.twin.apart c.make.result _ _ c.args.name.now e.no_twin e.has_none
    (record { what = c.make.ensures.files; others = c.make.ensures.others; silent = c.make.ensures.log; time = c.make.ensures.time }) in
    record {
      files = d.what;
      others = d.others;
      log = d.silent;
      time = d.time;
      cause = host_counts _ _ c.make.result _ _ _ _ c.make.ensures.cause e.count;
      follows = follows_alone g.H.Host.faults _ _ _ _ _ _ c.make.result _ _ e c.make.ensures.cause;
    })

pub returns-in_err-make : goal.returns-in_err-make
returns-in_err-make g c =
    let p = err_from_is_err_and c.from_residual-in_err-make.result c.from_residual-in_err-make.ensures.1 in
    let e = enters_both HostFault _ _ _ _ _ _ _ _ c.in-Some.is c.in_ok-copy.ensures.answer in
    rw (p.1, c.enter.ensures.pairs)
    (let d = first_failed _ (remakes (Some [])) g.H.Host.tells _ c.args.self.now.twin.apart p.0 _ _ c.args.name.now _ e.of
    (g.met.H.Host.reads_left c.args.self.now.host.now) (g.met.H.Host.timely c.args.self.now.host.now) (c.args.self.now.in_step e.kept_up)
    (record { what = c.in_err-make.ensures.files; others = c.in_err-make.ensures.others; silent = c.in_err-make.ensures.log; time = c.in_err-make.ensures.time }) in
    record {
      files = d.what;
      others = d.others;
      log = d.silent;
      time = d.time;
      cause = host_counts _ _ {T = Unit {0}} {E = HostFault} (Err p.0) _ _ _ _ c.in_err-make.ensures.cause e.count;
      follows = follows_failed g.H.Host.faults _ _ _ _ _ _ _ p.0 _ _ _ e refl c.in_err-make.ensures.cause;
    })

pub returns-in_err-make-2 : goal.returns-in_err-make-2
returns-in_err-make-2 g c =
    let p = err_from_is_err_and c.from_residual-in_err-make-2.result c.from_residual-in_err-make-2.ensures.1 in
    let e = enters_both HostFault _ _ _ _ _ _ _ _ c.in-Some.is c.in_ok-copy.ensures.answer in
    rw (p.1, c.enter.ensures.pairs)
    (let d = twice _ (remakes (Some [])) g.H.Host.tells _ c.args.self.now.twin.apart (Ok c.in_ok-make.field-0) (Err p.0) _ _ _ c.args.name.now _ e.of
    (g.met.H.Host.reads_left c.args.self.now.host.now) (g.met.H.Host.timely c.args.self.now.host.now) (c.args.self.now.in_step e.kept_up)
    (record { what = c.in_ok-make.ensures.files; others = c.in_ok-make.ensures.others; silent = c.in_ok-make.ensures.log; time = c.in_ok-make.ensures.time })
    (record { what = c.in_err-make-2.ensures.files; others = c.in_err-make-2.ensures.others; silent = c.in_err-make-2.ensures.log; time = c.in_err-make-2.ensures.time }) in
    record {
      files = d.what;
      others = d.others;
      log = d.silent;
      time = d.time;
      cause = second_counts _ _ {T = Unit {0}} {E = HostFault} (Err p.0) _ _ _ _ _ c.in_ok-make.ensures.cause c.in_err-make-2.ensures.cause e.count;
      follows = follows_failed g.H.Host.faults _ _ _ _ _ _ _ p.0 _ _ _ e c.in_ok-make.ensures.cause c.in_err-make-2.ensures.cause;
    })

pub invariant_of-self-3 : goal.invariant_of-self-3
invariant_of-self-3 g c =
    let e = enters_both HostFault _ _ _ _ _ _ _ _ c.in-Some.is c.in_ok-copy.ensures.answer in
    rw c.enter.ensures.pairs
    (record {
      in_step = λ kept told. twice_in_step _ (remakes (Some [])) g.H.Host.tells _ c.args.self.now.twin.apart c.in_ok-make.field-0 c.in_ok-make-2.field-0 _ _ _ c.args.name.now _ e.of
          (record { what = c.in_ok-make.ensures.files; others = c.in_ok-make.ensures.others; silent = c.in_ok-make.ensures.log; time = c.in_ok-make.ensures.time })
          (record { what = c.in_ok-make-2.ensures.files; others = c.in_ok-make-2.ensures.others; silent = c.in_ok-make-2.ensures.log; time = c.in_ok-make-2.ensures.time })
          (c.args.self.now.in_step e.kept_up) told;
    })

pub returns : goal.returns
returns g c =
    let e = enters_both HostFault _ _ _ _ _ _ _ _ c.in-Some.is c.in_ok-copy.ensures.answer in
    rw c.enter.ensures.pairs
    (let d = twice _ (remakes (Some [])) g.H.Host.tells _ c.args.self.now.twin.apart (Ok c.in_ok-make.field-0) (Ok c.in_ok-make-2.field-0) _ _ _ c.args.name.now _ e.of
    (g.met.H.Host.reads_left c.args.self.now.host.now) (g.met.H.Host.timely c.args.self.now.host.now) (c.args.self.now.in_step e.kept_up)
    (record { what = c.in_ok-make.ensures.files; others = c.in_ok-make.ensures.others; silent = c.in_ok-make.ensures.log; time = c.in_ok-make.ensures.time })
    (record { what = c.in_ok-make-2.ensures.files; others = c.in_ok-make-2.ensures.others; silent = c.in_ok-make-2.ensures.log; time = c.in_ok-make-2.ensures.time }) in
    record {
      files = d.what;
      others = d.others;
      log = d.silent;
      time = d.time;
      cause = second_counts _ _ {T = Unit {0}} {E = HostFault} (Ok c.in_ok-make-2.field-0) _ _ _ _ _ c.in_ok-make.ensures.cause c.in_ok-make-2.ensures.cause e.count;
      follows = follows_both g.H.Host.faults _ _ _ _ _ _ _ c.in_ok-make-2.field-0 _ _ e;
    })
