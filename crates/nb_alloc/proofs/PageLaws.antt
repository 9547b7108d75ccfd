-- A page stroke of a page after the first: what is known after it.
use Rattle.std.proofs.Common.{◌∙◌, ◌≡◌, ◌≢◌, ℕ, ◌<◌, List, [], ◌∷◌, ◌++◌, sym, ap, subst, None, Result, Ok, IfErr}
use Rattle.nb_alloc.proofs.Common.{entries_in, kind_of, inventory_kind, scn_kind, World, Fault, Page, Image, page_at, image_size, Base, Stroke, base_after, inventory_of, Cause, not_kind, Trail, after_strokes, IsNoRefusal, Held, IsOpen, Makes, after_base, StopsShort, Tries, WhereMemory, entry_cause, raise_strokes, bit_stroke, mark_cause, mark_stroke, mark_strokes}
use Rattle.nb_alloc.proofs.DoesLaws.{tries_these, tries_then, tries_opened}
use Rattle.nb_alloc.proofs.WantLaws.{Stays, short_first, wanted_so}
use Rattle.nb_alloc.proofs.PutLaws.{Keeps, raise_keeps}
use Rattle.nb_alloc.proofs.MarkLaws.{mark_cause-is, marked-is}

-- one stroke by another name
pub makes_one : {T : Type 0} (result : Result T Fault) (old new : World) (a b : Held) (t : Trail) (s r : Stroke) → s ≡ r → Makes result old new a b t (s ∷ []) → Makes result old new a b t (r ∷ [])
makes_one result old new a b t s r same makes = subst (λ (x : Stroke). Makes result old new a b t (x ∷ [])) same makes

-- what holds of the database after strokes holds of what was seen then
pub seen_after : (t : Trail) (xs : List Stroke) (P : Base → Type 0) → P (base_after t.base xs) → P (after_strokes t xs).base
seen_after t xs P is = subst P (sym (after_base t xs)) is

-- The entry of a page was raised, which left the page and the length.
module _ (old mid : World) (a b : Held) (t : Trail) (p : ℕ) (plain : kind_of (page_at t.base.image p) ≢ scn_kind) (some : 0 < entries_in (image_size t.base.image))
    (first : Tries {T = Unit {0}} (Ok tt) old mid a b t (entry_cause t.base.image p) (raise_strokes t.base.image p)) where
  abbrev image : Image
  image = t.base.image

  abbrev raised : Trail
  raised = after_strokes t (raise_strokes image p)

  keeps : Keeps image p raised.base.image
  keeps = seen_after t (raise_strokes image p) (λ (x : Base). Keeps image p x.image) (raise_keeps t.base p first.test plain some)

  -- Then the page is written. It was read before the raise.
  pub then_page : {T : Type 0} (result : Result T Fault) (new : World) (c : Held) (read : Page) (stroke : Image → Stroke) → read ≡ page_at image p → (Keeps image p raised.base.image → stroke raised.base.image ≡ stroke image)
      → IfErr result IsNoRefusal
      → ((u : Trail) → IsOpen mid b u → read ≡ page_at u.base.image p → Makes result mid new b c u (stroke u.base.image ∷ []))
      → ((u : Trail) → IsOpen mid b u → WhereMemory result (Stays mid new b c u))
      → Tries result old new a c t (entry_cause image p) (raise_strokes image p ++ stroke image ∷ [])
  then_page result new c read stroke is by never writes stays =
      let opened = tries_opened tt old mid a b t (entry_cause image p) (raise_strokes image p) first in
      tries_then tt result old mid new a b c t (entry_cause image p) (raise_strokes image p) (stroke image ∷ []) first never
      (makes_one result mid new b c raised (stroke raised.base.image) (stroke image) (by keeps)
      (writes raised opened (is ∙ sym keeps.same)))
      (wanted_so result (Stays mid new b c raised) (StopsShort mid new b c raised (stroke image ∷ [])) (short_first mid new b c raised (stroke image) []) (stays raised opened))

-- the write of a bit, where its place and its number are known by other names
pub bit_at : {T : Type 0} (result : Result T Fault) (mid new : World) (b c : Held) (read : Page) (place at index number bit : ℕ) → place ≡ at → index ≡ number
    → ((u : Trail) → IsOpen mid b u → read ≡ page_at u.base.image place → Makes result mid new b c u (bit_stroke u.base.image place index bit ∷ []))
    → (u : Trail) → IsOpen mid b u → read ≡ page_at u.base.image at → Makes result mid new b c u (bit_stroke u.base.image at number bit ∷ [])
bit_at result mid new b c read place at index number bit there same writes u opened is =
    makes_one result mid new b c u _ _ (ap (λ (q : ℕ). bit_stroke u.base.image q index bit) there ∙ ap (λ (n : ℕ). bit_stroke u.base.image at n bit) same)
    (writes u opened (is ∙ ap (λ (q : ℕ). page_at u.base.image q) (sym there)))

-- The raise of an entry and then the write of a bit write that bit.
pub mark_tries : {T : Type 0} (result : Result T Fault) (old new : World) (a b : Held) (t : Trail) (p bit : ℕ) → not_kind t.base.image inventory_kind (inventory_of t.base.image p) ≡ None → 0 < entries_in (image_size t.base.image)
    → Tries result old new a b t (entry_cause t.base.image (inventory_of t.base.image p)) (raise_strokes t.base.image (inventory_of t.base.image p) ++ mark_stroke t.base.image p bit ∷ [])
    → Tries result old new a b t (mark_cause t.base.image p) (mark_strokes t.base.image p bit)
mark_tries result old new a b t p bit form some tries =
    let image : Image = t.base.image in
    let both : List Stroke = raise_strokes image (inventory_of image p) ++ mark_stroke image p bit ∷ [] in
    tries_these result old new a b t (mark_cause image p) both (mark_strokes image p bit) (λ none. sym (marked-is t.base p form bit none some))
    (subst (λ (c : Cause). Tries result old new a b t c both) (sym (mark_cause-is t.base p form)) tries)
