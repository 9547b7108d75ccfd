use Rattle.std.proofs.Common.{◌∙◌, sym, ap, List, ℕ}
use Rattle.nb_words.proofs.Common.{is_plain_number}
use Rattle.nb_words.proofs.Parts.{number_none, number_some}
use Rattle.nb_words.proofs.word.number.Goals as goal

pub returns-then-not-is_plain_number : goal.returns-then-not-is_plain_number
returns-then-not-is_plain_number c =
    number_none c.args.word.now (sym (ap (λ (w : List ℕ). is_plain_number w) c.as_bytes.ensures.value) ∙ sym c.is_plain_number.ensures ∙ c.if-not-is_plain_number.true)

pub returns : goal.returns
returns c =
    c.ok.ensures.value ∙ number_some c.args.word.now c.parse.result
    (sym (ap (λ (w : List ℕ). is_plain_number w) c.as_bytes.ensures.value) ∙ sym c.is_plain_number.ensures ∙ c.if-not-is_plain_number.false) c.parse.ensures.value.0
