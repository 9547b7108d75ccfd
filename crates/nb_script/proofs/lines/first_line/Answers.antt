use Rattle.std.proofs.Common.{◌≡◌, ◌∙◌, ◌∷◌, ap, ap₂, sym, take, drop}
use Rattle.nb_script.proofs.Common.{Bytes, lines_of, first_len}
use Rattle.nb_script.proofs.LineLaws.{first_of}
use Rattle.nb_script.proofs.lines.first_line.Goals as goal

pub returns-clause-line : goal.returns-clause-line
returns-clause-line c =
    let bytes = c.args.bytes.now in
    let count = c.line_len.ensures.count in
    let line : take (first_len bytes) bytes ≡ c.split_at.result.0.now = sym (c.split_at.ensures.front ∙ ap (λ n. take n bytes) count) in
    let rest : drop 1 (drop (first_len bytes) bytes) ≡ c.without_first.result.now = sym (c.without_first.ensures ∙ ap (drop 1) (c.split_at.ensures.back ∙ ap (λ n. drop n bytes) count)) in
    first_of bytes c.requires ∙ ap₂ (λ (l r : Bytes). l ∷ lines_of r) line rest
