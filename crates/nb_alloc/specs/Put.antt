-- The strokes of writing a page, its SCN entry first, one by one, and why they are refused.
use Rattle.std.specs.Prelude.{◌≡◌, ℕ, ◌+◌, ◌*◌, List, [], ◌∷◌, drop, None, Bool, true, false, ◌&&◌, nat_lt, Result, OnOk, IfOk}
use Rattle.nb_fields.specs.Bytes.{bytes_of, with_part}
use Rattle.nb_fields.specs.Page.{stamped}
use Rattle.nb_fields.specs.Payloads.{text_payload}
use Rattle.nb_fields.specs.Kinds.{inventory_kind, scn_kind}
use Rattle.nb_host.specs.declared.faults.Fault.{Fault}
use Rattle.nb_host.specs.declared.refusals.Refusal.TheVariants.{NotAllocated}
use Rattle.nb_model.specs.Image.{Page, Image, page_at, image_scn}
use Rattle.nb_model.specs.Strokes.{Stroke, page}
use Rattle.nb_model.specs.Forms.{inventory_of, is_free_page, scn_page_of, entry_number, scn_entry, has_entry}
use Rattle.nb_model.specs.Causes.{Cause, Tested, first_cause, when, not_kind}

-- page p, which is below the length, isn't taken, or nothing says so
abbrev pub not_taken : Image → ℕ → Cause
not_taken image p = first_cause (not_kind image inventory_kind (inventory_of image p) ∷ when (is_free_page image p) (NotAllocated p) ∷ [])

-- page p has an SCN entry, and its SCN page isn't of the form
abbrev pub entry_cause : Image → ℕ → Cause
entry_cause image p = elim (has_entry image p) [ true ↦ not_kind image scn_kind (scn_page_of image p) | false ↦ None ]

-- the SCN entry of page p, if it has one, is below the current SCN
abbrev pub must_raise : Image → ℕ → Bool
must_raise image p = has_entry image p && nat_lt (scn_entry image p) (image_scn image)

-- the SCN page of page p is written with the current SCN as that entry
abbrev pub raise_stroke : Image → ℕ → Stroke
raise_stroke image p =
    let q : ℕ = scn_page_of image p in
    page q (stamped (page_at image q) scn_kind (drop 16 (with_part (32 + 4 * entry_number image p) (bytes_of 4 (image_scn image)) (page_at image q))) (image_scn image) q)

-- it is where it has to be raised
abbrev pub raise_strokes : Image → ℕ → List Stroke
raise_strokes image p = elim (must_raise image p) [ true ↦ raise_stroke image p ∷ [] | false ↦ [] ]

-- page p gets that kind and that payload
abbrev pub put_stroke : Image → (p kind : ℕ) → (payload : List ℕ) → Stroke
put_stroke image p kind payload = page p (stamped (page_at image p) kind payload (image_scn image) p)

-- page p gets a text
abbrev pub raw_stroke : Image → ℕ → (text : List ℕ) → Stroke
raw_stroke image p text = put_stroke image p 8 (text_payload text)

-- The call tests this, and at Ok it has read page p.
pub record Reads {T : Type 0} (result : Result T Fault) (image : Image) (cause : Cause) (p : ℕ) (into : Page) : Type 0 where
  pub test : Tested result cause
  pub page : OnOk result (into ≡ page_at image p)

-- The call tells whether the SCN entry of page p is raised, and where it is, it has read its SCN page.
pub record TellsRaise (result : Result Bool Fault) (image : Image) (p : ℕ) (into : Page) : Type 0 where
  pub test : Tested result (entry_cause image p)
  pub value : IfOk result (λ raises. raises ≡ must_raise image p)
  pub page : IfOk result (λ raises. raises ≡ true → into ≡ page_at image (scn_page_of image p))
