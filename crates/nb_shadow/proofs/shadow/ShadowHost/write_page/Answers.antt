-- What is done to a file and then to its twin is done to the file, as the shadow sees it. Of a file that has no twin the call is the host's.
use Rattle.std.proofs.Common.{refl, sym, ◌∙◌, Ok, Err, ◌*◌, length}
use Rattle.std.proofs.lemmas.Result.{err_from_is_err_and}
use Rattle.nb_host.specs.declared.faults.HostFault.{HostFault}
use Rattle.nb_shadow.proofs.WriteLaws.{writes}
use Rattle.nb_shadow.proofs.ShadowLaws.{refused, alone, alone_in_step, twice, first_failed, twice_in_step}
use Rattle.nb_shadow.proofs.CountLaws.{own_rose, host_counts, second_counts, enters_alone, enters_both, follows_refused, follows_alone, follows_both, follows_failed}
use Rattle.nb_shadow.proofs.shadow.ShadowHost.write_page.Goals as goal

pub returns-in_err-copy : goal.returns-in_err-copy
returns-in_err-copy g c =
    let p = err_from_is_err_and c.from_residual.result c.from_residual.ensures.1 in
    rw (p.1, c.enter.ensures.pairs)
    (let d = refused _ (writes (c.args.index * length c.args.page.now) c.args.page.now) g.H.Host.tells p.0 _ c.args.name.now in
    record {
      files = d.what;
      others = d.others;
      log = d.silent;
      time = d.time;
      cause = own_rose _ _ _ _ _ c.in_err-copy.ensures.answer.count;
      follows = follows_refused g.H.Host.faults _ _ _ _ _ _ p.0 _ c.args.self.now.twin.apart c.in_err-copy.ensures.answer;
    })

pub invariant_of-self-in_default : goal.invariant_of-self-in_default
invariant_of-self-in_default g c =
    let e = enters_alone HostFault _ _ _ _ _ _ _ c.in_default.is c.in_ok-copy.ensures.answer in
    rw c.enter.ensures.pairs
    (record {
      in_step = λ kept told. alone_in_step _ (writes (c.args.index * length c.args.page.now) c.args.page.now) g.H.Host.tells _ c.args.self.now.twin.apart c.write_page.result _ _ c.args.name.now e.no_twin e.has_none
          (record { what = c.write_page.ensures.files; others = c.write_page.ensures.others; silent = c.write_page.ensures.log; time = c.write_page.ensures.time })
          (c.args.self.now.in_step (sym e.same ∙ kept)) told;
    })

pub returns-in_default : goal.returns-in_default
returns-in_default g c =
    let e = enters_alone HostFault _ _ _ _ _ _ _ c.in_default.is c.in_ok-copy.ensures.answer in
    rw c.enter.ensures.pairs
    (let d = alone _ (writes (c.args.index * length c.args.page.now) c.args.page.now) g.H.Host.tells _ c.args.self.now.twin.apart c.write_page.result _ _ c.args.name.now e.no_twin e.has_none
    (record { what = c.write_page.ensures.files; others = c.write_page.ensures.others; silent = c.write_page.ensures.log; time = c.write_page.ensures.time }) in
    record {
      files = d.what;
      others = d.others;
      log = d.silent;
      time = d.time;
      cause = host_counts _ _ c.write_page.result _ _ _ _ c.write_page.ensures.cause e.count;
      follows = follows_alone g.H.Host.faults _ _ _ _ _ _ c.write_page.result _ _ e c.write_page.ensures.cause;
    })

pub returns-in_err-write_page : goal.returns-in_err-write_page
returns-in_err-write_page g c =
    let p = err_from_is_err_and c.from_residual-in_err-write_page.result c.from_residual-in_err-write_page.ensures.1 in
    let e = enters_both HostFault _ _ _ _ _ _ _ _ c.in-Some.is c.in_ok-copy.ensures.answer in
    rw (p.1, c.enter.ensures.pairs)
    (let d = first_failed _ (writes (c.args.index * length c.args.page.now) c.args.page.now) g.H.Host.tells _ c.args.self.now.twin.apart p.0 _ _ c.args.name.now _ e.of
    (g.met.H.Host.reads_left c.args.self.now.host.now) (g.met.H.Host.timely c.args.self.now.host.now) (c.args.self.now.in_step e.kept_up)
    (record { what = c.in_err-write_page.ensures.files; others = c.in_err-write_page.ensures.others; silent = c.in_err-write_page.ensures.log; time = c.in_err-write_page.ensures.time }) in
    record {
      files = d.what;
      others = d.others;
      log = d.silent;
      time = d.time;
      cause = host_counts _ _ {T = Unit {0}} {E = HostFault} (Err p.0) _ _ _ _ c.in_err-write_page.ensures.cause e.count;
      follows = follows_failed g.H.Host.faults _ _ _ _ _ _ _ p.0 _ _ _ e refl c.in_err-write_page.ensures.cause;
    })

pub returns-in_err-write_page-2 : goal.returns-in_err-write_page-2
returns-in_err-write_page-2 g c =
    let p = err_from_is_err_and c.from_residual-in_err-write_page-2.result c.from_residual-in_err-write_page-2.ensures.1 in
    let e = enters_both HostFault _ _ _ _ _ _ _ _ c.in-Some.is c.in_ok-copy.ensures.answer in
    rw (p.1, c.enter.ensures.pairs)
    (let d = twice _ (writes (c.args.index * length c.args.page.now) c.args.page.now) g.H.Host.tells _ c.args.self.now.twin.apart (Ok c.in_ok-write_page.field-0) (Err p.0) _ _ _ c.args.name.now _ e.of
    (g.met.H.Host.reads_left c.args.self.now.host.now) (g.met.H.Host.timely c.args.self.now.host.now) (c.args.self.now.in_step e.kept_up)
    (record { what = c.in_ok-write_page.ensures.files; others = c.in_ok-write_page.ensures.others; silent = c.in_ok-write_page.ensures.log; time = c.in_ok-write_page.ensures.time })
    (record { what = c.in_err-write_page-2.ensures.files; others = c.in_err-write_page-2.ensures.others; silent = c.in_err-write_page-2.ensures.log; time = c.in_err-write_page-2.ensures.time }) in
    record {
      files = d.what;
      others = d.others;
      log = d.silent;
      time = d.time;
      cause = second_counts _ _ {T = Unit {0}} {E = HostFault} (Err p.0) _ _ _ _ _ c.in_ok-write_page.ensures.cause c.in_err-write_page-2.ensures.cause e.count;
      follows = follows_failed g.H.Host.faults _ _ _ _ _ _ _ p.0 _ _ _ e c.in_ok-write_page.ensures.cause c.in_err-write_page-2.ensures.cause;
    })

pub invariant_of-self-3 : goal.invariant_of-self-3
invariant_of-self-3 g c =
    let e = enters_both HostFault _ _ _ _ _ _ _ _ c.in-Some.is c.in_ok-copy.ensures.answer in
    rw c.enter.ensures.pairs
    (record {
      in_step = λ kept told. twice_in_step _ (writes (c.args.index * length c.args.page.now) c.args.page.now) g.H.Host.tells _ c.args.self.now.twin.apart c.in_ok-write_page.field-0 c.in_ok-write_page-2.field-0 _ _ _ c.args.name.now _ e.of
          (record { what = c.in_ok-write_page.ensures.files; others = c.in_ok-write_page.ensures.others; silent = c.in_ok-write_page.ensures.log; time = c.in_ok-write_page.ensures.time })
          (record { what = c.in_ok-write_page-2.ensures.files; others = c.in_ok-write_page-2.ensures.others; silent = c.in_ok-write_page-2.ensures.log; time = c.in_ok-write_page-2.ensures.time })
          (c.args.self.now.in_step e.kept_up) told;
    })

pub returns : goal.returns
returns g c =
    let e = enters_both HostFault _ _ _ _ _ _ _ _ c.in-Some.is c.in_ok-copy.ensures.answer in
    rw c.enter.ensures.pairs
    (let d = twice _ (writes (c.args.index * length c.args.page.now) c.args.page.now) g.H.Host.tells _ c.args.self.now.twin.apart (Ok c.in_ok-write_page.field-0) (Ok c.in_ok-write_page-2.field-0) _ _ _ c.args.name.now _ e.of
    (g.met.H.Host.reads_left c.args.self.now.host.now) (g.met.H.Host.timely c.args.self.now.host.now) (c.args.self.now.in_step e.kept_up)
    (record { what = c.in_ok-write_page.ensures.files; others = c.in_ok-write_page.ensures.others; silent = c.in_ok-write_page.ensures.log; time = c.in_ok-write_page.ensures.time })
    (record { what = c.in_ok-write_page-2.ensures.files; others = c.in_ok-write_page-2.ensures.others; silent = c.in_ok-write_page-2.ensures.log; time = c.in_ok-write_page-2.ensures.time }) in
    record {
      files = d.what;
      others = d.others;
      log = d.silent;
      time = d.time;
      cause = second_counts _ _ {T = Unit {0}} {E = HostFault} (Ok c.in_ok-write_page-2.field-0) _ _ _ _ _ c.in_ok-write_page.ensures.cause c.in_ok-write_page-2.ensures.cause e.count;
      follows = follows_both g.H.Host.faults _ _ _ _ _ _ _ c.in_ok-write_page-2.field-0 _ _ e;
    })
