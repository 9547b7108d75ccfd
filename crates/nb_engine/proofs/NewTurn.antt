-- What making a new page does of its turn.
use Rattle.std.proofs.Common.{◌≡◌, ◌<◌, ◌≤◌, ℕ, List, [], ◌∷◌, length, refl, sym, ap, subst, ◌∙◌, arith, true, false, IsTrue, Some, None, Result, IfOk}
use Rattle.nb_engine.proofs.Common.{IfOk-weaker, bytes_of, is_page_size, text_payload, World, Fault, Refusal, Access, NotDatabase, Refused, PageMade, Image, image_scn, is_read_only, Stroke, Trail, Draft, first_cause, read_only, too_short, Seen, says, new_turn, lt_no, lt_yes, draft_cause, IsShaped, Held, IsOpen, Does, new_raw, page_made, IsSearchable, StopsShort, Tries, WhereMemory, unless_refused, unless_allowed, refused_by, judged_by, seeing, tries_does, tries_stops, applies, first_here, first_next, no_cause, when_false}
use Rattle.nb_model.specs.declared.reply.Reply.{Reply}
use Rattle.nb_model.specs.Sound.{HasHeader}
use Rattle.nb_state.proofs.SizeLaws.{open_sized}

-- the bytes of the empty text
pub empty_is : 0 ∷ 0 ∷ [] ≡ text_payload []
unfolding text_payload bytes_of
empty_is = refl

-- the facts of an open database that the laws of images ask for
pub header_of : (w : World) (held : Held) (t : Trail) → IsOpen w held t → image_scn t.base.image < 4294967296 → HasHeader t.base.image
header_of w held t is scn = record { header = is.files.agrees.header; scn = scn }

pub shaped_of : (w : World) (held : Held) (t : Trail) → IsOpen w held t → IsTrue (is_page_size held.files.page_size) → 3 ≤ length t.base.image → IsShaped t.base.image
shaped_of w held t is size least = record { size = subst (λ (n : ℕ). IsTrue (is_page_size n)) is.files.agrees.page_size size; least = least; sizes = open_sized w held t is }

pub searchable_of : (w : World) (held : Held) (t : Trail) → IsOpen w held t → IsTrue (is_page_size held.files.page_size) → 5 ≤ length t.base.image → IsSearchable t.base.image
searchable_of w held t is size long = record { shaped = shaped_of w held t is size (omega (arith, long)); long = long }

-- an open database of which a call knows the number of pages
pub count_of : (w : World) (a b : Held) (t : Trail) (count : ℕ) → a ≡ b → IsOpen w b t → count ≡ a.files.count → count ≡ length t.base.image
count_of w a b t count same is counted = let here = subst (λ (h : Held). IsOpen w h t) (sym same) is in counted ∙ here.files.agrees.count

-- and has enough of them
pub ready_of : (w : World) (a b : Held) (t : Trail) (count : ℕ) → a ≡ b → IsOpen w b t → IsTrue (is_page_size a.files.page_size) → count ≡ a.files.count → 5 ≤ count → IsOpen w a t × IsSearchable t.base.image
ready_of w a b t count same is size counted enough =
    let here = subst (λ (h : Held). IsOpen w h t) (sym same) is in
    (here, searchable_of w a t here size (omega (arith, here.files.agrees.count, counted, enough)))

-- the turn, by its causes
module _ (s : Seen) where
  abbrev image : Image
  image = s.base.image

  abbrev draft : Draft
  draft = (new_raw image).0

  abbrev reply : Reply
  reply = PageMade (new_raw image).1

  pub new_closed : is_read_only image ≡ true → new_turn s ≡ says s (Refused (Access 1)) []
  unfolding new_turn
  new_closed closed = refused_by s (read_only image ∷ too_short image ∷ []) draft reply (Access 1) (first_here (read_only image) (too_short image ∷ []) (Access 1) (applies _ _ closed))

  module _ (free : is_read_only image ≡ false) where
    pub new_short : length image < 5 → new_turn s ≡ says s (Refused (NotDatabase (length image))) []
    unfolding new_turn
    new_short low =
        refused_by s (read_only image ∷ too_short image ∷ []) draft reply (NotDatabase (length image))
        (first_next (read_only image) (too_short image ∷ []) (when_false _ _ free) ∙ first_here (too_short image) [] (NotDatabase (length image)) (applies _ _ (lt_yes (length image) 5 low)))

    module _ (long : 5 ≤ length image) where
      open_to_change : first_cause (read_only image ∷ too_short image ∷ []) ≡ None
      open_to_change = first_next (read_only image) (too_short image ∷ []) (when_false _ _ free) ∙ first_next (too_short image) [] (when_false _ _ (lt_no (length image) 5 long)) ∙ no_cause

      pub new_refused : (r : Refusal) → draft_cause draft ≡ Some r → new_turn s ≡ says s (Refused r) []
      unfolding new_turn
      new_refused r e = judged_by s (read_only image ∷ too_short image ∷ []) draft reply open_to_change ∙ unless_refused s (draft_cause draft) (says s reply draft.strokes) r e

      pub new_says : draft_cause draft ≡ None → new_turn s ≡ says s reply draft.strokes
      unfolding new_turn
      new_says none = judged_by s (read_only image ∷ too_short image ∷ []) draft reply open_to_change ∙ unless_allowed s (draft_cause draft) (says s reply draft.strokes) none

-- a run of calls that made the strokes does the turn
pub made_does : (result : Result ℕ Fault) (old new : World) (a b : Held) (t : Trail) (s : Seen) (n : ℕ) (strokes : List Stroke) → t.base ≡ s.base
    → new_turn (seeing s t.base) ≡ says (seeing s t.base) (PageMade n) strokes → IfOk result (λ number. number ≡ n) → Tries result old new a b t None strokes
    → Does page_made result old new a b t (new_turn s)
made_does result old new a b t s n strokes same turn number tries =
    tries_does page_made result old new a b t s new_turn None (PageMade n) refl strokes same
    (turn ∙ sym (unless_allowed (seeing s t.base) None (says (seeing s t.base) (PageMade n) strokes) refl)) (IfOk-weaker result _ _ (λ value is. ap PageMade is) number) tries

-- and where it answers Memory it stopped before the last of them
pub made_stops : (result : Result ℕ Fault) (old new : World) (a b : Held) (t : Trail) (s : Seen) (n : ℕ) (strokes : List Stroke) → t.base ≡ s.base
    → new_turn (seeing s t.base) ≡ says (seeing s t.base) (PageMade n) strokes → Tries result old new a b t None strokes → WhereMemory result (StopsShort old new a b t (new_turn s).strokes)
made_stops result old new a b t s n strokes same turn tries =
    tries_stops result old new a b t s new_turn None (PageMade n) strokes same (turn ∙ sym (unless_allowed (seeing s t.base) None (says (seeing s t.base) (PageMade n) strokes) refl)) tries
