use Rattle.std.proofs.Common.{◌≡◌, ◌∙◌, ap, List, ℕ, ◌++◌, ◌∷◌, [], append_assoc}
use Rattle.uuid.specs.Text.{hyphenated_text, lower}
use Rattle.nb_model.specs.Lines.{guid}
use Rattle.nb_lines.proofs.Common.{append-nil, Word, is, number, spaced, word_text}
use Rattle.nb_lines.proofs.WordLaws.{words_then}
use Rattle.nb_lines.proofs.brief.push_level.Goals as goal

-- the name of the GUID and the GUID, each after a space
grouped : (a c : List ℕ) → (a ++ 32 ∷ 103 ∷ 117 ∷ 105 ∷ 100 ∷ 32 ∷ []) ++ c ≡ a ++ (32 ∷ 103 ∷ 117 ∷ 105 ∷ 100 ∷ 32 ∷ (c ++ []))
grouped a c = simp (append_assoc, append-nil)

-- a line after each part
level_said : (one scn pages : List Word) (bytes : List ℕ) (start a b d e end : List ℕ) → a ≡ start ++ spaced one → b ≡ a ++ spaced scn → d ≡ b ++ spaced pages → e ≡ d ++ 32 ∷ 103 ∷ 117 ∷ 105 ∷ 100 ∷ 32 ∷ [] → end ≡ e ++ hyphenated_text lower bytes
    → end ≡ start ++ spaced (((one ++ scn) ++ pages) ++ (is (103 ∷ 117 ∷ 105 ∷ 100 ∷ []) ∷ guid bytes ∷ []))
unfolding spaced word_text
level_said one scn pages bytes start a b d e end first second third name last =
    words_then ((one ++ scn) ++ pages) (is (103 ∷ 117 ∷ 105 ∷ 100 ∷ []) ∷ guid bytes ∷ []) start d end (words_then (one ++ scn) pages start b d (words_then one scn start a b first second) third)
    (last ∙ ap (λ (l : List ℕ). l ++ hyphenated_text lower bytes) name ∙ grouped d (hyphenated_text lower bytes))

pub returns-clause-words : goal.returns-clause-words
returns-clause-words c =
    level_said (is (111 ∷ 107 ∷ []) ∷ is (108 ∷ 101 ∷ 118 ∷ 101 ∷ 108 ∷ []) ∷ number c.args.level ∷ []) (is (115 ∷ 99 ∷ 110 ∷ []) ∷ number c.args.scn ∷ []) (is (112 ∷ 97 ∷ 103 ∷ 101 ∷ 115 ∷ []) ∷ number c.args.pages ∷ []) c.args.guid.now
    _ _ _ _ _ _ c.in_ok-push_one.ensures.words c.in_ok-push_field.ensures.words c.in_ok-push_field-2.ensures.words c.in_ok-extend_from_slice.ensures.items c.in_ok-push_guid.ensures.text
