-- A data page is there, and what it then is written as.
use Rattle.std.proofs.Common.{◌≡◌, ℕ, ◌-◌, ◌<◌, List, [], ◌∷◌, ◌++◌, length, take, drop, refl, sym, ap, subst, ◌∙◌, arith, length-drop, Some, None, Result, IsTrue}
use Rattle.nb_engine.proofs.Common.{append-nil, drop_all, padded_whole, with_payload, is_page_size, data_kind, World, Fault, Refusal, NotDatabase, Quiet, Page, Image, is_kind, not_kind, Trail, kind_parts, Held, IsOpen, but_pages, data_cause, put_data, page_strokes, entry_cause, Tries, tries_after, tries_these, tries_named, page_strokes_are, first_here, first_next, is_so, one_cause}

-- a data page is below the length
pub data_there : (image : Image) (p : ℕ) → not_kind image data_kind p ≡ None → p < length image
data_there image p kind = (kind_parts image data_kind p (is_so (is_kind image data_kind p) (NotDatabase p) kind)).0

-- why it isn't written
pub none_there : (image : Image) (p : ℕ) (r : Refusal) → not_kind image data_kind p ≡ Some r → data_cause image p ≡ Some r
none_there image p r e = first_here (not_kind image data_kind p) (entry_cause image p ∷ []) r e

pub by_entry : (image : Image) (p : ℕ) → not_kind image data_kind p ≡ None → entry_cause image p ≡ data_cause image p
by_entry image p kind = sym (first_next (not_kind image data_kind p) (entry_cause image p ∷ []) kind ∙ one_cause (entry_cause image p))

-- A data page that was read is written with what these bytes have after the head.
pub put_tries : {T : Type 0} (result : Result T Fault) (old mid new : World) (a b c : Held) (t : Trail) (p : ℕ) (bytes : Page) → IsOpen old a t → IsTrue (is_page_size a.files.page_size) → not_kind t.base.image data_kind p ≡ None
    → but_pages b ≡ but_pages a → Quiet old mid → Tries result mid new b c t (entry_cause t.base.image p) (page_strokes t.base.image p 5 (drop 16 bytes)) → Tries result old new a c t (data_cause t.base.image p) (put_data p bytes t.base.image).strokes
put_tries result old mid new a b c t p bytes is size kind same quiet tries =
    let image = t.base.image in
    let sized = subst (λ (n : ℕ). IsTrue (is_page_size n)) is.files.agrees.page_size size in
    let strokes = (put_data p bytes image).strokes in
    tries_named result old new a c t (entry_cause image p) (data_cause image p) strokes strokes (by_entry image p kind) refl
    (tries_these result old new a c t (entry_cause image p) _ strokes (λ none. page_strokes_are t.base p 5 (drop 16 bytes) sized none) (tries_after result old mid new a b c t _ _ same quiet is tries))

-- the bytes after the head are the payload
pub behind_payload : (old bytes : List ℕ) → length bytes ≡ length old → take 16 old ++ drop 16 bytes ≡ with_payload old (drop 16 bytes)
unfolding with_payload
behind_payload old bytes same = ap (λ (xs : List ℕ). take 16 old ++ xs) (sym (padded_whole (length old - 16) (drop 16 bytes) (length-drop 16 bytes ∙ ap (λ (n : ℕ). n - 16) same)))

-- nothing is left after the rest of a page
pub put_rest : (page rest : List ℕ) → take 16 page ++ (rest ++ drop (length page - 16) (drop 16 page)) ≡ take 16 page ++ rest
put_rest page rest =
    ap (λ (xs : List ℕ). take 16 page ++ (rest ++ xs)) (drop_all (length page - 16) (drop 16 page) (omega (arith, length-drop 16 page))) ∙ ap (λ (xs : List ℕ). take 16 page ++ xs) (append-nil rest)
