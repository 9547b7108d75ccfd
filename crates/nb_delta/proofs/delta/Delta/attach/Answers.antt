use Rattle.std.proofs.Common.{◌≡◌, ℕ, length, ap, ◌∙◌, subst, arith, Err}
use Rattle.nb_delta.proofs.Common.{File, Files, table_of, Known, Reads, IsLong, long_file}
use Rattle.nb_delta.proofs.AttachLaws.{not_attached}
use Rattle.nb_delta.proofs.delta.Delta.attach.Goals as goal

pub returns-in_err-read_table-clause-answer : goal.returns-in_err-read_table-clause-answer
returns-in_err-read_table-clause-answer g c tells =
    let file : File = (g.H.Host.world c.args.host.now).files c.args.name.now in
    let here : IsLong file c.in-Some.len = long_file file _ c.in-Some.len (c.in_ok-len.ensures.answer tells) c.in-Some.is in
    let size_is : c.delta.inside.page_size ≡ c.args.page_size = ap (λ (k : Known). k.page_size) (c.delta.view_is ∙ c.in_ok-delta.ensures.ok) in
    let same : length c.deref_mut.result.now ≡ c.args.page_size = omega (arith, c.deref_mut.ensures.len, c.delta.invariant.1, size_is) in
    not_attached c.args.page_size c.args.name.now file here.bytes _ _ _ here.is c.from_residual-in_err-read_table.ensures
    (subst (λ (n : ℕ). Reads (table_of n here.bytes) (Err c.in_err-read_table.field-0.0) c.read_table.new.entries) same
    (c.in_err-read_table.ensures.answer tells here.bytes (ap (λ (f : Files). f c.args.name.now) c.size.ensures.files.files ∙ here.is) here.long))
