-- Words after words.
use Rattle.std.proofs.Common.{◌≡◌, ℕ, ◌+◌, ◌<◌, length, take, drop, get_or, map, List, [], ◌∷◌, ◌++◌, refl, sym, ◌∙◌, ap, append_assoc, slice_get, Some, flat_map}
use Rattle.nb_lines.proofs.Common.{take_more, take-append-drop, map-append, append-nil, flat_map_more, Word, is, number, quoted, word_text, spaced, name_words, page_words, row_words, seen}
use Rattle.std.proofs.lemmas.Option.{get_or_from_slice_get}
use Rattle.nb_lines.specs.declared.word.Word.{Word as InLine}

pub spaced-append : (a b : List Word) → spaced (a ++ b) ≡ spaced a ++ spaced b
unfolding spaced
spaced-append [] b = refl
spaced-append (w ∷ a) b = ap (λ (l : List ℕ). 32 ∷ (word_text w ++ l)) (spaced-append a b) ∙ ap (λ (l : List ℕ). 32 ∷ l) (sym (append_assoc (word_text w) (spaced a) (spaced b)))

-- what a line holds after one word more
pub one_word_more : (words : List InLine) (i : ℕ) (word : InLine) (start here spaced_here next : List ℕ) → i < length words
    → here ≡ start ++ spaced (map seen (take i words)) → spaced_here ≡ here ++ 32 ∷ [] → next ≡ spaced_here ++ word_text (seen (get_or words i word)) → next ≡ start ++ spaced (map seen (take (i + 1) words))
unfolding spaced
one_word_more words i word start here spaced_here next low so_far space put =
    let w : Word = seen (get_or words i word) in
    let taken : map seen (take (i + 1) words) ≡ map seen (take i words) ++ w ∷ [] = ap (map seen) (take_more words i word low) ∙ map-append seen (take i words) (get_or words i word ∷ []) in
    let line : next ≡ (start ++ spaced (map seen (take i words)) ++ 32 ∷ []) ++ word_text w = put ∙ ap (λ (l : List ℕ). l ++ word_text w) (space ∙ ap (λ (l : List ℕ). l ++ 32 ∷ []) so_far) in
    line ∙ grouped start (spaced (map seen (take i words))) (word_text w) ∙ sym (ap (λ (ws : List Word). start ++ spaced ws) taken ∙ ap (λ (l : List ℕ). start ++ l) (spaced-append (map seen (take i words)) (w ∷ [])))
  where
    grouped : (a b c : List ℕ) → (a ++ b ++ 32 ∷ []) ++ c ≡ a ++ (b ++ 32 ∷ (c ++ []))
    grouped a b c = simp append_assoc (ap (λ (l : List ℕ). a ++ (b ++ 32 ∷ l)) (sym (append-nil c)))

-- a line with no word more
pub no_words : (line : List ℕ) → line ≡ line ++ spaced []
unfolding spaced
no_words line = sym (append-nil line)

-- words and then more
pub words_then : (a b : List Word) (start middle end : List ℕ) → middle ≡ start ++ spaced a → end ≡ middle ++ spaced b → end ≡ start ++ spaced (a ++ b)
words_then a b start middle end first second = second ∙ ap (λ (l : List ℕ). l ++ spaced b) first ∙ append_assoc start (spaced a) (spaced b) ∙ ap (λ (l : List ℕ). start ++ l) (sym (spaced-append a b))

-- one row more
pub one_row_more : (rows : List (ℕ × List ℕ)) (i : ℕ) (row : ℕ × List ℕ) (start here next : List ℕ) → i < length rows → slice_get rows i ≡ Some row → here ≡ start ++ spaced (row_words (take i rows)) → next ≡ here ++ spaced (number row.0 ∷ quoted row.1 ∷ []) → next ≡ start ++ spaced (row_words (take (i + 1) rows))
one_row_more rows i row start here next low at so_far put =
    put ∙ ap (λ (l : List ℕ). l ++ spaced (words row)) so_far ∙ append_assoc start _ _ ∙ ap (λ (l : List ℕ). start ++ l) (sym (spaced-append (row_words (take i rows)) (words row)))
    ∙ ap (λ (ws : List Word). start ++ spaced ws) (sym (ap row_words (take_more rows i row low ∙ ap (λ (r : ℕ × List ℕ). take i rows ++ r ∷ []) (get_or_from_slice_get rows i row row at)) ∙ row_words-append (take i rows) (row ∷ [])))
  where
    words : ℕ × List ℕ → List Word
    words r = number r.0 ∷ quoted r.1 ∷ []

    row_words-append : (a b : List (ℕ × List ℕ)) → row_words (a ++ b) ≡ row_words a ++ row_words b
    row_words-append [] b = refl
    row_words-append (r ∷ a) b = ap (λ (ws : List Word). number r.0 ∷ quoted r.1 ∷ ws) (row_words-append a b)

-- one name more
pub one_name_more : (names : List (List ℕ)) (i : ℕ) (name start here next : List ℕ) → i < length names → here ≡ start ++ spaced (name_words (take i names)) → next ≡ here ++ spaced (is (get_or names i name) ∷ []) → next ≡ start ++ spaced (name_words (take (i + 1) names))
one_name_more names i name start here next low so_far put =
    words_then (name_words (take i names)) (is (get_or names i name) ∷ []) start here next so_far put
    ∙ ap (λ (ws : List Word). start ++ spaced ws) (sym (ap name_words (take_more names i name low) ∙ map-append is (take i names) (get_or names i name ∷ [])))

-- one page more
pub one_page_more : (pages : List ℕ) (i page : ℕ) (start here next : List ℕ) → i < length pages → here ≡ start ++ spaced (page_words (take i pages)) → next ≡ here ++ spaced (number (get_or pages i page) ∷ []) → next ≡ start ++ spaced (page_words (take (i + 1) pages))
one_page_more pages i page start here next low so_far put =
    words_then (page_words (take i pages)) (number (get_or pages i page) ∷ []) start here next so_far put
    ∙ ap (λ (ws : List Word). start ++ spaced ws) (sym (ap page_words (take_more pages i page low) ∙ map-append number (take i pages) (get_or pages i page ∷ [])))

-- the first so many words and then the others
pub all_then : (n : ℕ) (words : List Word) (start middle end : List ℕ) → middle ≡ start ++ spaced (take n words) → end ≡ middle ++ spaced (drop n words) → end ≡ start ++ spaced words
all_then n words start middle end first second = words_then (take n words) (drop n words) start middle end first second ∙ ap (λ (ws : List Word). start ++ spaced ws) (take-append-drop n words)

-- numbers, and then two lists of names
pub plan_said : (front dropped orphans : List Word) (start first second end : List ℕ) → first ≡ start ++ spaced front → second ≡ first ++ spaced dropped → end ≡ second ++ spaced orphans → end ≡ start ++ spaced (front ++ (dropped ++ orphans))
plan_said front dropped orphans start first second end said named last =
    words_then front (dropped ++ orphans) start first end said (words_then dropped orphans first second end named last)

-- one field more
pub one_field_more : {X : Type 0} (words : X → List Word) (fields : List X) (i : ℕ) (field : X) (front : Word) (start here next : List ℕ) → i < length fields
    → here ≡ start ++ spaced (front ∷ flat_map words (take i fields)) → next ≡ here ++ spaced (words (get_or fields i field)) → next ≡ start ++ spaced (front ∷ flat_map words (take (i + 1) fields))
one_field_more {X = X} words fields i field front start here next low so_far put =
    words_then (front ∷ flat_map words (take i fields)) (words (get_or fields i field)) start here next so_far put
    ∙ ap (λ (ws : List Word). start ++ spaced ws) (flat_map_more words (front ∷ []) (take i fields) (get_or fields i field))
    ∙ ap (λ (taken : List X). start ++ spaced (front ∷ flat_map words taken)) (sym (take_more fields i field low))
