use Rattle.std.proofs.Common.{ℕ, List, take, sym, ap, subst, ◌∙◌, Some}
use Rattle.nb_inplace.proofs.Common.{File, Files, bytes_of, NoFile, not_standby, TestedByReads, IsLong, long_file}
use Rattle.nb_inplace.proofs.StandbyLaws.{not_there}
use Rattle.nb_inplace.proofs.standby.read_standby.Goals as goal

pub returns-clause-test : goal.returns-clause-test
returns-clause-test g c tells =
    let name : List ℕ = c.args.name.now in
    let here : IsLong ((g.H.Host.world c.args.host.now).files name) c.in-Some.len = long_file _ _ _ (c.in_ok-len.ensures.answer tells) c.in-Some.is in
    let read = (c.in_ok-got.ensures.answer tells).bytes ∙ ap (λ (f : Files). take 66 (bytes_of (f name))) c.size.ensures.files.files ∙ ap (λ (x : File). take 66 (bytes_of x)) here.is in
    subst (λ (x : File). TestedByReads c.standby_in.result (not_standby name x)) (sym here.is) (c.standby_in.ensures.test name here.bytes here.long read)

pub returns-in_default-clause-test : goal.returns-in_default-clause-test
returns-in_default-clause-test g c tells =
    let name : List ℕ = c.args.name.now in
    not_there name _ c.in_ok-len.field-0 (c.in_ok-len.ensures.answer tells) c.in_default.is ∙ ap (λ (n : List ℕ). Some (NoFile n)) (sym c.copied.ensures)
