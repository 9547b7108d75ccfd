use Rattle.std.proofs.Common.{◌≢◌, ℕ, List, [], ◌∷◌, ◌++◌, length, ap, sym, ◌∙◌, Err}
use Rattle.nb_catalog.proofs.Common.{BadScript, Bytes, left, Numbered, is_next, names_on}
use Rattle.nb_catalog.proofs.FileLaws.{refused}
use Rattle.nb_catalog.proofs.ListLaws.{names_all, names_full, names_bad, names_more, names_few}
use Rattle.nb_catalog.proofs.name_list.names_on.Goals as goal

pub returns-then-len-eq-MOST_NAMES-clause-exact : goal.returns-then-len-eq-MOST_NAMES-clause-exact
returns-then-len-eq-MOST_NAMES-clause-exact c =
    let meant = names_on 1000 [] (left c.args.lines.passed c.args.lines.rest.now) in
    let line : Numbered = (c.next.new.self.passed, c.in-Some.line.now) in
    let full = sym c.len.ensures ∙ c.if-len-eq-MOST_NAMES.true in
    refused meant c.bad.result (BadScript c.passed.result) c.bad.ensures
    (names_full meant c.loop-line.names _ c.loop-line.invariant.so_far line (left c.next.new.self.passed c.next.new.self.rest.now) c.in-Some.ensures.line full ∙ ap (λ (n : ℕ). Err (BadScript n)) (sym c.passed.ensures))

pub returns-in_default-next_name-clause-exact : goal.returns-in_default-next_name-clause-exact
returns-in_default-next_name-clause-exact c =
    let meant = names_on 1000 [] (left c.args.lines.passed c.args.lines.rest.now) in
    let line : Numbered = (c.next.new.self.passed, c.in-Some.line.now) in
    let loop = c.loop-line.invariant in
    refused meant c.bad-in_default-next_name.result (BadScript c.passed-in_default-next_name.result) c.bad-in_default-next_name.ensures
    (names_bad meant c.loop-line.names _ loop.so_far line (left c.next.new.self.passed c.next.new.self.rest.now) c.in-Some.ensures.line loop.most (λ full. c.if-len-eq-MOST_NAMES.false (c.len.ensures ∙ full)) (ap (λ (ns : List Bytes). is_next ns c.in-Some.line.now) (sym c.as_slice.ensures) ∙ sym c.in_default-next_name.ensures.exact)
    ∙ ap (λ (n : ℕ). Err (BadScript n)) (sym c.passed-in_default-next_name.ensures))

pub loop-line-preserved : goal.loop-line-preserved
loop-line-preserved c =
    let meant = names_on 1000 [] (left c.args.lines.passed c.args.lines.rest.now) in
    let line : Numbered = (c.next.new.self.passed, c.in-Some.line.now) in
    let behind = left c.next.new.self.passed c.next.new.self.rest.now in
    let loop = c.loop-line.invariant in
    let room : length c.loop-line.names ≢ 1000 = λ full. c.if-len-eq-MOST_NAMES.false (c.len.ensures ∙ full) in
    let added = c.in_ok-push.ensures.ok ∙ ap (λ (name : Bytes). c.loop-line.names ++ name ∷ []) c.in-Some-next_name.ensures.same in
    record {
      so_far = names_more meant c.loop-line.names _ loop.so_far line behind c.in-Some.ensures.line loop.most room c.push.new.self (ap (λ (ns : List Bytes). is_next ns c.in-Some.line.now) (sym c.as_slice.ensures) ∙ sym c.in-Some-next_name.ensures.exact) added;
      most = names_few meant c.loop-line.names _ loop.so_far line behind c.in-Some.ensures.line loop.most room c.push.new.self added;
    }

pub returns-clause-exact : goal.returns-clause-exact
returns-clause-exact c = names_all (names_on 1000 [] (left c.args.lines.passed c.args.lines.rest.now)) c.loop-line.names _ c.loop-line.invariant.so_far c.in_default.ensures.line.0
