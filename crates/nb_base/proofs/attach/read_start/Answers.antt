use Rattle.std.proofs.Common.{ℕ, List, take, ap, sym, subst, ◌∙◌}
use Rattle.nb_base.proofs.Common.{File, Files, bytes_of, Tested, main_cause, IsLong, long_file}
use Rattle.nb_base.proofs.AttachLaws.{of_length}
use Rattle.nb_base.proofs.attach.read_start.Goals as goal

pub returns-clause-test : goal.returns-clause-test
returns-clause-test g c tells =
    let name : List ℕ = c.args.name.now in
    let here : IsLong ((g.H.Host.world c.args.host.now).files name) c.in-Some.len = long_file _ _ _ (c.in_ok-len.ensures.answer tells) c.in-Some.is in
    let read = (c.in_ok-count.ensures.answer tells).bytes ∙ ap (λ (f : Files). take 64 (bytes_of (f name))) c.size.ensures.files.files ∙ ap (λ (x : File). take 64 (bytes_of x)) here.is in
    subst (λ (x : File). Tested c.start_of.result (main_cause name x)) (sym here.is) (c.start_of.ensures.test here.bytes here.long read)

pub returns-clause-start : goal.returns-clause-start
returns-clause-start g c tells bytes there =
    let name : List ℕ = c.args.name.now in
    let read = (c.in_ok-count.ensures.answer tells).bytes ∙ ap (λ (f : Files). take 64 (bytes_of (f name))) c.size.ensures.files.files ∙ ap (λ (x : File). take 64 (bytes_of x)) there in
    c.start_of.ensures.start bytes (of_length _ _ _ bytes (c.in_ok-len.ensures.answer tells) c.in-Some.is there) read
