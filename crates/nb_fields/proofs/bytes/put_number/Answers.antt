use Rattle.std.proofs.Common.{◌≡◌, ℕ, ◌+◌, ◌-◌, List, length, take, refl, ap, ◌∙◌, arith}
use Rattle.nb_fields.proofs.Common.{bytes_of, number_in, part}
use Rattle.std.proofs.lemmas.Slice.{put_mid-paste}
use Rattle.std.proofs.lemmas.List.Edits.{paste_all}
use Rattle.nb_fields.proofs.NumberLaws.{to_eight_bytes, take-bytes_of, length-bytes_of}
use Rattle.nb_fields.proofs.PartLaws.{number_in-with_part, number_in-with_part_other, part-with_part_other}
use Rattle.nb_fields.proofs.bytes.put_number.Goals as goal

pub returns-clause-written : goal.returns-clause-written
returns-clause-written c =
    let page : List ℕ = c.args.page.now in
    let bytes : List ℕ = bytes_of c.args.width c.args.value in
    let wrote : c.copy_from_slice.new.self ≡ bytes = c.copy_from_slice.ensures.after ∙ ap (take c.args.width) (c.to_le_bytes.ensures ∙ to_eight_bytes c.args.value) ∙ take-bytes_of c.args.width 8 c.args.value c.requires.few in
    let len = length-bytes_of c.args.width c.args.value in
    let k : ℕ = c.args.at + c.args.width - c.args.at in
    let same : length bytes ≡ k = omega arith in
    put_mid-paste c.args.at k page c.copy_from_slice.new.self bytes (length bytes) wrote same refl ∙ paste_all page c.args.at bytes (length bytes) refl

pub returns-clause-value : goal.returns-clause-value
returns-clause-value c =
    ap (number_in c.args.at c.args.width) (returns-clause-written c) ∙ number_in-with_part c.args.at c.args.width c.args.value c.args.page.now c.requires.fits (omega arith)

pub returns-clause-others : goal.returns-clause-others
returns-clause-others c by v apart =
    let bytes : List ℕ = bytes_of c.args.width c.args.value in
    ap (number_in by v) (returns-clause-written c) ∙ number_in-with_part_other c.args.at c.args.width by v bytes c.args.page.now (length-bytes_of c.args.width c.args.value) c.requires.inside apart

pub returns-clause-parts : goal.returns-clause-parts
returns-clause-parts c by v apart =
    let bytes : List ℕ = bytes_of c.args.width c.args.value in
    ap (part by v) (returns-clause-written c) ∙ part-with_part_other c.args.at c.args.width by v bytes c.args.page.now (length-bytes_of c.args.width c.args.value) c.requires.inside apart
