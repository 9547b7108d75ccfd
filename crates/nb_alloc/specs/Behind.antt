-- A page that is written after a search for new pages: the page of a slot, or the last of a chain.
use Rattle.std.specs.Prelude.{◌≡◌, ◌≢◌, ℕ, List, [], ◌∷◌, ◌++◌, Bool, true, false, not, ◌==◌, ◌||◌, nat_lt, Option, Some, None, Result, Ok, Err}
use Rattle.nb_fields.specs.Places.{is_system_place, most_pages}
use Rattle.nb_fields.specs.Kinds.{inventory_kind, data_kind, scn_kind}
use Rattle.nb_host.specs.declared.faults.Fault.{Fault}
use Rattle.nb_host.specs.declared.faults.Fault.TheVariants.{Refused, Device, Memory}
use Rattle.nb_host.specs.declared.refusals.Refusal.TheVariants.{Full}
use Rattle.nb_model.specs.Image.{Image, image_size}
use Rattle.nb_model.specs.Forms.{Draft, is_kind, other_kind, has_entry, inventory_of, scn_page_of}
use Rattle.nb_model.specs.Causes.{Cause, Tested, first_cause, when, lowest_broken}
use Rattle.nb_state.specs.Does.{WhereEnded}
use Rattle.nb_alloc.specs.declared.behind.Behind.{Behind}

-- why new pages aren't made: these pages aren't of their kind, or no page is left
abbrev pub judged : List ℕ → (full : Bool) → Cause
judged pages full = first_cause (lowest_broken pages ∷ when full (Full most_pages) ∷ [])

-- the SCN page of page p, where page p has an entry and that isn't of its kind
abbrev pub entry_broken : Image → ℕ → List ℕ
entry_broken image p = elim (has_entry image p) [ true ↦ other_kind image scn_kind (scn_page_of image p) | false ↦ [] ]

-- the pages that aren't of their kind of those that change where page p is given back: its inventory page, and the SCN page of that
abbrev pub give_broken : Image → ℕ → List ℕ
give_broken image p = entry_broken image (inventory_of image p) ++ other_kind image inventory_kind (inventory_of image p)

-- why a draft isn't made after which page p, a data page, is written
abbrev pub behind_cause : Draft → ℕ → Cause
behind_cause d p = judged (other_kind d.image data_kind p ++ (entry_broken d.image p ++ d.broken)) d.full

-- the page, if there is one
abbrev pub page_in : Option ℕ → List ℕ
page_in None = []
page_in (Some p) = p ∷ []

-- a page, where it counts
abbrev pub page_if : (counts : Bool) (p : ℕ) → List ℕ
page_if counts p = elim counts [ true ↦ p ∷ [] | false ↦ [] ]

-- What is known of the page: a search that began at one image has come to another.
pub record IsKnown (old now : Image) (b : Behind) : Type 0 where
  pub kind : is_kind now data_kind b.page ≡ not b.lost
  pub place : b.lost ≡ true → is_system_place (image_size old) b.page ≡ true
  pub entry : entry_broken now b.page ≡ page_if (nat_lt 0 b.entry) b.entry
  pub page : b.entry ≢ 0 → b.entry ≡ scn_page_of old b.page

-- the SCN page that isn't of its kind, or 0 where it is made at that place
abbrev pub entry_left : (entry place : ℕ) → ℕ
entry_left entry place = elim (place == entry) [ true ↦ 0 | false ↦ entry ]

-- after a place at which a system page will be made
abbrev pub passed : (place : ℕ) → Behind → Behind
passed place b = record { page = b.page; entry = entry_left b.entry place; lost = b.lost || place == b.page }

-- and after a place of a system page, where the last places without their pages are these
abbrev pub gone : (place made fresh : ℕ) → Behind → Behind
gone place made fresh b = elim (made == place || fresh == place) [ true ↦ passed place b | false ↦ b ]

-- A search tests why that draft isn't made, and where it has ended with a page or a refusal, this is known of the page after it.
pub record Judges {T : Type 0} (result : Result T Fault) (d : Draft) (old : Image) (b : Behind) : Type 0 where
  pub test : Tested result (judged d.broken d.full)
  pub known : WhereEnded result (IsKnown old d.image b)

-- What stopped the first call stopped the second.
abbrev pub EndsAlike : {S T : Type 0} → Result S Fault → Result T Fault → Type 0
EndsAlike (Ok value) result = Unit
EndsAlike (Err (Refused refusal)) result = Unit
EndsAlike (Err Device) result = result ≡ Err Device
EndsAlike (Err Memory) result = result ≡ Err Memory
