-- How a search for new pages goes, on a database that nothing was written to yet: from image to image after what it went past.
use Rattle.std.specs.Prelude.{◌≡◌, ◌≢◌, ℕ, suc, ◌+◌, ◌<◌, ◌≤◌, List, length, true, Some, None, Result, Ok, Err}
use Rattle.nb_fields.specs.Places.{is_system_place, most_pages}
use Rattle.nb_host.specs.declared.faults.Fault.{Fault}
use Rattle.nb_host.specs.declared.faults.Fault.TheVariants.{Refused, Device, Memory}
use Rattle.nb_host.specs.declared.refusals.Refusal.{Refusal}
use Rattle.nb_model.specs.Image.{Image, image_size}
use Rattle.nb_model.specs.Forms.{drafted, first_not, new_within, new_page}
use Rattle.nb_model.specs.Way.{next_place, needed_on, IsMadeBehind, IsFreshBehind}
use Rattle.nb_model.proofs.OnwardLaws.{IsOnTheWay}
use Rattle.nb_model.proofs.StepLaws.{IsShaped}
use Rattle.nb_model.proofs.SearchLaws.{draft_cause}
use Rattle.nb_alloc.specs.declared.behind.Behind.{Behind}
use Rattle.nb_alloc.specs.Behind.{IsKnown}

-- A new page may be looked for in it: it has the first five pages, which no search takes.
pub record IsSearchable (image : Image) : Type 0 where
  pub shaped : IsShaped image
  pub long : 5 ≤ length image

-- what is left of a new page goes as the whole
pub record Rests (start now : Image) (tries kind : ℕ) (payload : ℕ → List ℕ) : Type 0 where
  pub cause : draft_cause (new_page kind payload (drafted start)).0 ≡ draft_cause (new_within tries kind payload (drafted now)).0
  pub image : (new_page kind payload (drafted start)).0.image ≡ (new_within tries kind payload (drafted now)).0.image
  pub number : (new_page kind payload (drafted start)).1 ≡ (new_within tries kind payload (drafted now)).1

-- A search that began at `start` has come to `now`.
pub record Searches (old start now : Image) (first from made fresh tries : ℕ) : Type 0 where
  pub way : IsOnTheWay old now from made fresh
  pub longer : length old ≤ length start
  pub five : 5 ≤ first
  pub near : from ≤ length start + 2
  pub places : (q : ℕ) → length start ≤ q → q < from → is_system_place (image_size old) q ≡ true
  pub enough : length start + 4 + first ≤ tries + from
  pub rests : (kind : ℕ) (payload : ℕ → List ℕ) → Rests start now tries kind payload

-- The search is at a page, which was tested: it began at `start`, and was at `now` before.
pub record AtPlace (old start : Image) (first place made fresh : ℕ) : Type 0 where
  pub now : Image
  pub from : ℕ
  pub made_before : ℕ
  pub fresh_before : ℕ
  pub left : ℕ
  pub search : Searches old start now first from made_before fresh_before (suc left)
  pub at : place ≡ next_place old from fresh_before
  pub none : first_not old (needed_on old from made_before fresh_before place) ≡ None
  pub other : place ≢ most_pages
  pub made_is : IsMadeBehind old place made_before made
  pub fresh_is : IsFreshBehind old place fresh_before fresh

-- The same, with what is known of the page that is written after it.
pub record AtKnown (old start : Image) (first place made fresh : ℕ) (before after : Behind) : Type 0 where
  pub at : AtPlace old start first place made fresh
  pub known : IsKnown old start before → IsKnown old at.now after

-- The search goes on at page `from`.
pub record GoesTo (old start : Image) (first from made fresh : ℕ) (before after : Behind) : Type 0 where
  pub now : Image
  pub tries : ℕ
  pub search : Searches old start now first from made fresh tries
  pub known : IsKnown old start before → IsKnown old now after

-- A payload fits into each page.
abbrev pub IsShort : (ℕ → List ℕ) → Type 0
IsShort payload = (p : ℕ) → length (payload p) ≤ 1008

-- it has found the new page
pub record Finds (old start : Image) (from made fresh : ℕ) (before after : Behind) : Type 0 where
  pub cause : (kind : ℕ) (payload : ℕ → List ℕ) → IsShort payload → draft_cause (new_page kind payload (drafted start)).0 ≡ None
  pub number : (kind : ℕ) (payload : ℕ → List ℕ) → IsShort payload → (new_page kind payload (drafted start)).1 + 1 ≡ from
  pub way : (kind : ℕ) (payload : ℕ → List ℕ) → IsShort payload → IsOnTheWay old (new_page kind payload (drafted start)).0.image from made fresh
  pub known : (payload : ℕ → List ℕ) → IsShort payload → IsKnown old start before → IsKnown old (new_page 5 payload (drafted start)).0.image after

-- or is refused, and would be refused again
pub record Refuses (old start : Image) (before after : Behind) (r : Refusal) : Type 0 where
  pub now : Image
  pub cause : (kind : ℕ) (payload : ℕ → List ℕ) → draft_cause (new_page kind payload (drafted start)).0 ≡ Some r
  pub image : (kind : ℕ) (payload : ℕ → List ℕ) → (new_page kind payload (drafted start)).0.image ≡ now
  pub again : (kind : ℕ) (payload : ℕ → List ℕ) → draft_cause (new_page kind payload (drafted now)).0 ≡ Some r
  pub again_image : (kind : ℕ) (payload : ℕ → List ℕ) → (new_page kind payload (drafted now)).0.image ≡ now
  pub known : IsKnown old start before → IsKnown old now after

-- how it ends
abbrev pub EndsBy : {T : Type 0} → Result T Fault → (old start : Image) (from made fresh : ℕ) (before after : Behind) → Type 0
EndsBy (Ok value) old start from made fresh before after = Finds old start from made fresh before after
EndsBy (Err (Refused r)) old start from made fresh before after = Refuses old start before after r
EndsBy (Err Device) old start from made fresh before after = Unit
EndsBy (Err Memory) old start from made fresh before after = Unit
