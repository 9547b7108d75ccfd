use Rattle.std.proofs.Common.{ℕ, List, take, ap, sym, subst, ◌∙◌}
use Rattle.nb_fixup.proofs.Common.{File, Files, TestedByReads, file_cause, IsLong, long_file}
use Rattle.nb_host.specs.Files.{bytes_of}
use Rattle.nb_fixup.proofs.AnswerLaws.{page_of}
use Rattle.nb_fixup.proofs.copy.read_first.Goals as goal

pub returns-clause-test : goal.returns-clause-test
returns-clause-test g c tells =
    let name : List ℕ = c.args.name.now in
    let here : IsLong ((g.H.Host.world c.args.host.now).files name) c.in-Some.len = long_file _ _ _ (c.in_ok-len.ensures.answer tells) c.in-Some.is in
    let read = (c.in_ok-got.ensures.answer tells).bytes ∙ ap (λ (n : ℕ). take n (bytes_of ((g.H.Host.world c.size.new.self).files name))) c.requires
    ∙ ap (λ (f : Files). take 32768 (bytes_of (f name))) c.size.ensures.files.files ∙ ap (λ (x : File). take 32768 (bytes_of x)) here.is in
    subst (λ (x : File). TestedByReads c.page_size_of.result (file_cause name x)) (sym here.is) (c.page_size_of.ensures.test here.bytes here.long read)

pub returns-clause-page : goal.returns-clause-page
returns-clause-page g c tells bytes there =
    let name : List ℕ = c.args.name.now in
    let read = (c.in_ok-got.ensures.answer tells).bytes ∙ ap (λ (n : ℕ). take n (bytes_of ((g.H.Host.world c.size.new.self).files name))) c.requires
    ∙ ap (λ (f : Files). take 32768 (bytes_of (f name))) c.size.ensures.files.files ∙ ap (λ (x : File). take 32768 (bytes_of x)) there in
    page_of c.in_ok-got.got bytes c.read_at.new.into c.page_size_of.result read (c.page_size_of.ensures.size bytes read) c.page_size_of.ensures.whole
