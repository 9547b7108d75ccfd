use Rattle.std.proofs.Common.{◌≡◌, ℕ, ◌+◌, ◌∷◌, ◌++◌, [], List, drop, get_or, flat_map, string_bytes, refl, ap, sym, ◌∙◌, arith}
use Rattle.std.proofs.lemmas.List.{append-nil, drop_all, drop_more}
use Rattle.nb_ended.specs.Shown.{shown_byte}
use Rattle.nb_ended.proofs.ShownLaws.{one_more}
use Rattle.nb_ended.proofs.broken.push_bytes.Goals as goal

pub loop-byte-preserved : goal.loop-byte-preserved
loop-byte-preserved c =
    let l = c.loop-byte in
    let i = l.byte-index in
    let bytes = c.args.bytes.now in
    ap (λ (t : List ℕ). t ++ flat_map shown_byte (drop (i + 1) bytes)) c.in_ok-push_byte.ensures
    ∙ one_more (string_bytes l.text) bytes i (get_or bytes i 0) (drop_more bytes i 0 (omega arith)) ∙ l.invariant

pub returns : goal.returns
returns c =
    sym (ap (λ (xs : List ℕ). string_bytes c.loop-byte.text ++ flat_map shown_byte xs) (drop_all c.loop-byte.byte-index c.args.bytes.now (omega arith)) ∙ append-nil (string_bytes c.loop-byte.text)) ∙ c.loop-byte.invariant
