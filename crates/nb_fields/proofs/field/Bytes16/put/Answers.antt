use Rattle.std.proofs.Common.{◌≡◌, ◌+◌, ◌-◌, length, ap, ◌∙◌, arith}
use Rattle.nb_fields.proofs.Common.{number_in, part, with_part}
use Rattle.nb_fields.proofs.PartLaws.{part-with_part, part-with_part_other, number_in-with_part_other, put_mid-with_part}
use Rattle.nb_fields.proofs.field.Bytes16.put.Goals as goal

pub returns-clause-written : goal.returns-clause-written
returns-clause-written g c =
    let len : length c.copy_from_slice.new.self ≡ g.row.AT + 16 - g.row.AT = omega arith in
    put_mid-with_part g.row.AT (g.row.AT + 16 - g.row.AT) c.copy_from_slice.new.self c.args.page.now len ∙ ap (λ bytes. with_part g.row.AT bytes c.args.page.now) c.copy_from_slice.ensures.after

pub returns-clause-value : goal.returns-clause-value
returns-clause-value g c =
    ap (part g.row.AT 16) (returns-clause-written g c) ∙ part-with_part g.row.AT 16 c.args.value.now c.args.page.now c.told-value (omega arith)

pub returns-clause-others : goal.returns-clause-others
returns-clause-others g c by v apart =
    ap (number_in by v) (returns-clause-written g c) ∙ number_in-with_part_other g.row.AT 16 by v c.args.value.now c.args.page.now c.told-value c.requires apart

pub returns-clause-parts : goal.returns-clause-parts
returns-clause-parts g c by v apart =
    ap (part by v) (returns-clause-written g c) ∙ part-with_part_other g.row.AT 16 by v c.args.value.now c.args.page.now c.told-value c.requires apart
