use Rattle.std.proofs.Common.{◌≡◌, ℕ, List, ap, ◌∙◌, length, arith}
use Rattle.uuid.proofs.TextLemmas.{by_index_length}
use Rattle.uuid.specs.Text.{hyphenated_text}
use Rattle.nb_lines.proofs.word.push_guid.Goals as goal

-- a GUID has 36 characters
text_long : (letter : ℕ) (bytes text other : List ℕ) → text ≡ hyphenated_text letter bytes → other ≡ text → length other ≡ 36
text_long letter bytes text other is same = ap {A = List ℕ} length (same ∙ is) ∙ by_index_length 36 _

pub returns-in_err-extend_from_slice-clause-room : goal.returns-in_err-extend_from_slice-clause-room
returns-in_err-extend_from_slice-clause-room c room =
    absurd (omega (arith, room, c.in_err-extend_from_slice.ensures.full, text_long _ _ _ _ c.encode_lower-text.ensures.text c.as_bytes.ensures.value))

pub returns-clause-long : goal.returns-clause-long
returns-clause-long c = omega (arith, c.in_ok-extend_from_slice.ensures.len, text_long _ _ _ _ c.encode_lower-text.ensures.text c.as_bytes.ensures.value)
