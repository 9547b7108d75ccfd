-- The tests before new pages, and what is written after them.
use Rattle.std.proofs.Common.{◌≡◌, ℕ, ◌+◌, ◌*◌, ◌<◌, ◌≤◌, List, [], ◌∷◌, ◌++◌, length, refl, sym, ap, subst, ◌∙◌, arith, drop, Bool, true, false, not, ◌||◌, nat_lt, min, Some, None, Result, Ok, Err, IfOk, OnOk, IsErr, IsErrAnd}
use Rattle.nb_alloc.proofs.Common.{append-nil, bytes_of, with_part, data_payload, most_pages, data_kind, scn_kind, Fault, Refused, Device, Memory, Refusal, NotDatabase, Full, passed_on, Image, page_at, image_scn, Draft, drafted, is_kind, other_kind, needs, wants, has_entry, scn_page_of, scn_entry, raised, entry_raised, entry_written, put, written, wrote, new_page, Cause, first_cause, when, lowest_of, lowest_broken, too_short, not_of_form, no_room, Chain, Slot, owner_of, last_of, put_slot, grown, joined, joined_new, join_new, draft_cause, joined_cause, IsClear, Tested, WhereEnded, where_ended, Behind, judged, entry_broken, behind_cause, page_if, IsKnown, Judges, EndsAlike, new_behind, second_data, unmade, unmade_behind, entry_cause, new_of, IsShort, Finds, EndsBy, lt_no, lt_yes, applies, first_here, first_next, append_none, when_false, none_some, some_none, or_parts, one_cause}
use Rattle.nb_alloc.proofs.BehindLaws.{other_page, lowest_min}
use Rattle.nb_alloc.proofs.CauseLaws.{none_behind}
use Rattle.nb_alloc.proofs.FullLaws.{put_full}
use Rattle.nb_alloc.proofs.PutLaws.{no_entry_cause, entry_cause-is}
use Rattle.nb_model.proofs.RoomThere.{other_met}

pub not_lost : (t : Bool) → (t ≡ true → ⊥) → not t ≡ true
not_lost false never = refl
not_lost true never = absurd (never refl)

-- P holds where a call ended, and tells what it tested.
pub tested_where : {T : Type 0} (result : Result T Fault) (P : Type 0) (cause : Cause) → WhereEnded result P → (P → Tested result cause) → Tested result cause
tested_where (Ok value) P cause ended told = told ended
tested_where (Err (Refused r)) P cause ended told = told ended
tested_where (Err Device) P cause ended told = tt
tested_where (Err Memory) P cause ended told = tt

pub ended_alike : {S T : Type 0} (found : Result S Fault) (result : Result T Fault) (P : Type 0) → EndsAlike found result → WhereEnded found P → WhereEnded result P
ended_alike (Ok value) result P alike p = where_ended result P p
ended_alike (Err (Refused r)) result P alike p = where_ended result P p
ended_alike {T = T} (Err Device) result P alike p = subst (λ (x : Result T Fault). WhereEnded x P) (sym alike) tt
ended_alike {T = T} (Err Memory) result P alike p = subst (λ (x : Result T Fault). WhereEnded x P) (sym alike) tt

-- where it is answered, it was found
pub found_ok : {T : Type 0} (found result : Result T Fault) (P Q : Type 0) → IfOk result (λ value. found ≡ Ok value) → OnOk result P → OnOk found (P → Q) → OnOk result Q
found_ok {T = T} found (Ok value) P Q same p q = (subst (λ (x : Result T Fault). OnOk x (P → Q)) same q) p
found_ok found (Err fault) P Q same p q = tt

-- what is answered is what was found
pub value_found : {T : Type 0} (found result : Result T Fault) (Q : T → Type 0) → IfOk result (λ value. found ≡ Ok value) → IfOk found Q → IfOk result Q
value_found {T = T} found (Ok value) Q same q = subst (λ (x : Result T Fault). IfOk x Q) same q
value_found found (Err fault) Q same q = tt

-- a draft that nothing keeps from being made
pub judged_clear : (d : Draft) → judged d.broken d.full ≡ None → IsClear d
unfolding first_cause lowest_broken
judged_clear d none = by d.broken d.full refl refl none
  where
    by : (pages : List ℕ) (full : Bool) → d.broken ≡ pages → d.full ≡ full → judged pages full ≡ None → IsClear d
    by [] false a b e = (a, b)
    by [] true a b e = absurd (some_none (Full most_pages) e)
    by (p ∷ ps) full a b e = absurd (some_none (NotDatabase (lowest_of p ps)) e)

-- one that two searches in a row are refused for
pub lowest_append : (p : ℕ) (ps : List ℕ) (q : ℕ) (qs : List ℕ) → lowest_of p (ps ++ q ∷ qs) ≡ min (lowest_of p ps) (lowest_of q qs)
lowest_append p [] q qs = lowest_min p q qs
lowest_append p (r ∷ ps) q qs = lowest_append (min p r) ps q qs

pub judged_twice : (ps qs : List ℕ) (a b : Bool) (r : Refusal) → judged ps a ≡ Some r → judged qs b ≡ Some r → judged (ps ++ qs) (a || b) ≡ Some r
unfolding first_cause lowest_broken
judged_twice [] [] true b r e f = e
judged_twice [] [] false b r e f = absurd (none_some r e)
judged_twice [] (q ∷ qs) a b r e f = f
judged_twice (p ∷ ps) [] a b r e f = ap (λ (xs : List ℕ). Some (NotDatabase (lowest_of p xs))) (append-nil ps) ∙ e
judged_twice (p ∷ ps) (q ∷ qs) a b r e f =
    ap (λ (n : ℕ). Some (NotDatabase n)) (lowest_append p ps q qs ∙ ap (min (lowest_of p ps)) (sym (same (e ∙ sym f))) ∙ (let h : min (lowest_of p ps) (lowest_of p ps) ≡ lowest_of p ps = omega arith in h)) ∙ e
  where
    same : Some (NotDatabase (lowest_of p ps)) ≡ Some (NotDatabase (lowest_of q qs)) → lowest_of p ps ≡ lowest_of q qs
    same h = cc

-- what the end of a search says of its draft
pub ends_judged : {T : Type 0} (result : Result T Fault) (old start : Image) (from made fresh : ℕ) (before after : Behind) (payload : ℕ → List ℕ) → IsShort payload → IsKnown old start before → EndsBy result old start from made fresh before after
    → Judges result (new_page 5 payload (drafted start)).0 old after
ends_judged (Ok value) old start from made fresh before after payload short known ends = record { test = ends.cause 5 payload short; known = ends.known payload short known }
ends_judged (Err (Refused r)) old start from made fresh before after payload short known ends =
    record { test = ends.cause 5 payload; known = subst (λ (x : Image). IsKnown old x after) (sym (ends.image 5 payload)) (ends.known known) }
ends_judged (Err Device) old start from made fresh before after payload short known ends = record { test = tt; known = tt }
ends_judged (Err Memory) old start from made fresh before after payload short known ends = record { test = tt; known = tt }

-- A second page after the first: the draft goes on from the first,
second_is : (first second : ℕ → List ℕ) (image : Image) → second_data first second image ≡ joined_new (new_of 5 first image).0 (new_page 5 second (drafted (new_of 5 first image).0.image))
second_is first second image = join_new (length (new_of 5 first image).0.image + 4) 5 second (new_of 5 first image).0

pub second_judged : {T : Type 0} (result : Result T Fault) (image : Image) (from made fresh a b c : ℕ) (before mid after : Behind) (first second : ℕ → List ℕ) → IsShort first → IsShort second → IsKnown image image before
    → Finds image image from made fresh before mid → EndsBy result image (new_of 5 first image).0.image a b c mid after → Judges result (second_data first second image).0 image after
second_judged {T = T} result image from made fresh a b c before mid after first second short small known found ends =
    let d : Draft = (new_of 5 first image).0 in
    let e : Draft = (new_page 5 second (drafted d.image)).0 in
    let clear : IsClear d = judged_clear d (found.cause 5 first short) in
    let then : Judges result e image after = ends_judged result image d.image a b c mid after second small (found.known first short known) ends in
    subst (λ (x : Draft × ℕ). Judges result x.0 image after) (sym (second_is first second image)) (record { test = subst (Tested result) (sym (joined_cause d e clear)) then.test; known = then.known })

-- or is refused with it
pub twice_judged : (S T : Type 0) (result : Result T Fault) (fault : Fault) (image : Image) (from made fresh : ℕ) (before after : Behind) (first second : ℕ → List ℕ) → IsErr result × IsErrAnd result (λ f. f ≡ fault) → IsKnown image image before
    → EndsBy {T = S} (Err fault) image image from made fresh before after → Judges result (second_data first second image).0 image after
twice_judged S T result fault image from made fresh before after first second passed known ends =
    subst (λ (x : Result T Fault). Judges x (second_data first second image).0 image after) (sym (passed_on result fault passed)) (by fault ends)
  where
    d : Draft
    d = (new_of 5 first image).0

    e : Draft
    e = (new_page 5 second (drafted d.image)).0

    by : (f : Fault) → EndsBy {T = S} (Err f) image image from made fresh before after → Judges {T = T} (Err f) (second_data first second image).0 image after
    by Device ends = record { test = tt; known = tt }
    by Memory ends = record { test = tt; known = tt }
    by (Refused r) ends = subst (λ (x : Draft × ℕ). Judges {T = T} (Err (Refused r)) x.0 image after) (sym (second_is first second image)) (record {
      test = judged_twice e.broken d.broken e.full d.full r (subst (λ (x : Image). draft_cause (new_page 5 second (drafted x)).0 ≡ Some r) (sym (ends.image 5 first)) (ends.again 5 second)) (ends.cause 5 first);
      known = subst (λ (x : Image). IsKnown image x after) (sym (ap (λ (x : Image). (new_page 5 second (drafted x)).0.image) (ends.image 5 first) ∙ ends.again_image 5 second)) (ends.known known);
    })

-- with the page that is written after them
pub behind_judged : (d : Draft) (old : Image) (b : Behind) (number : ℕ) → b.page ≡ number → IsKnown old d.image b → judged (page_if b.lost b.page ++ (page_if (nat_lt 0 b.entry) b.entry ++ d.broken)) d.full ≡ behind_cause d number
behind_judged d old b number is known =
    ap (λ (ps : List ℕ). judged (ps ++ (page_if (nat_lt 0 b.entry) b.entry ++ d.broken)) d.full) (sym (other_page d.image data_kind b.page b.lost known.kind))
    ∙ ap (λ (ps : List ℕ). judged (other_kind d.image data_kind b.page ++ (ps ++ d.broken)) d.full) (sym known.entry) ∙ ap (behind_cause d) is

-- The pages that a page's write finds not to be of their kind.
entry_raised_broken : (p : ℕ) (d : Draft) → (entry_raised p d).broken ≡ d.broken
unfolding entry_raised entry_written written wrote
entry_raised_broken p d = by (nat_lt (scn_entry d.image p) (image_scn d.image))
  where
    by : (t : Bool) → (elim t as (λ z. Draft) [ true ↦ entry_written p d | false ↦ d ]).broken ≡ d.broken
    by true = refl
    by false = refl

pub needs_broken : (kind p : ℕ) (d : Draft) → (needs kind p d).broken ≡ other_kind d.image kind p ++ d.broken
unfolding needs other_kind
needs_broken kind p d = by (is_kind d.image kind p)
  where
    by : (t : Bool) → (elim t as (λ z. Draft) [ true ↦ d | false ↦ record d { broken = p ∷ d.broken } ]).broken ≡ elim t as (λ z. List ℕ) [ true ↦ [] | false ↦ p ∷ [] ] ++ d.broken
    by true = refl
    by false = refl

raised_broken : (p : ℕ) (d : Draft) → (raised p d).broken ≡ entry_broken d.image p ++ d.broken
unfolding raised
raised_broken p d = by (has_entry d.image p)
  where
    by : (t : Bool) → (elim t as (λ z. Draft) [ true ↦ entry_raised p (needs 10 (scn_page_of d.image p) d) | false ↦ d ]).broken ≡ elim t as (λ z. List ℕ) [ true ↦ other_kind d.image scn_kind (scn_page_of d.image p) | false ↦ [] ] ++ d.broken
    by true = entry_raised_broken p (needs 10 (scn_page_of d.image p) d) ∙ needs_broken 10 (scn_page_of d.image p) d
    by false = refl

pub put_broken : (p kind : ℕ) (payload : List ℕ) (d : Draft) → (put p kind payload d).broken ≡ entry_broken d.image p ++ d.broken
unfolding put written wrote
put_broken p kind payload d = raised_broken p d

-- so a draft with a page written after it isn't made
wants_judged : (p : ℕ) (payload : List ℕ) (d : Draft) → draft_cause (wants d.image 5 p (put p data_kind payload d)) ≡ behind_cause d p
wants_judged p payload d =
    ap (λ (ps : List ℕ). judged (other_kind d.image data_kind p ++ ps) (put p data_kind payload d).full) (put_broken p data_kind payload d)
    ∙ ap (judged (other_kind d.image data_kind p ++ (entry_broken d.image p ++ d.broken))) (put_full p data_kind payload d)

pub grown_judged : (chain : Chain) (pages slots : List ℕ) (d : Draft) → draft_cause (grown chain pages slots d).0 ≡ behind_cause (new_page 5 (λ p. data_payload 0 (owner_of chain) slots) d).0 (last_of pages)
unfolding grown
grown_judged chain pages slots d =
    let made : Draft × ℕ = new_page 5 (λ p. data_payload 0 (owner_of chain) slots) d in
    wants_judged (last_of pages) (drop 16 (with_part 16 (bytes_of 4 made.1) (page_at made.0.image (last_of pages)))) made.0

pub slot_judged : (p slot : ℕ) (bytes : Slot) (d : Draft) → draft_cause (wants d.image 5 p (put_slot p slot bytes d)) ≡ behind_cause d p
unfolding put_slot
slot_judged p slot bytes d = wants_judged p (drop 16 (with_part (32 + 256 * slot) bytes (page_at d.image p))) d

-- Nothing keeps a draft from being made, nor page p from being written after it.
pub record IsFreeBehind (d : Draft) (p : ℕ) : Type 0 where
  pub clear : draft_cause d ≡ None
  pub kind : is_kind d.image data_kind p ≡ true
  pub entry : entry_cause d.image p ≡ None

judged_empty : (pages : List ℕ) (full : Bool) → judged pages full ≡ None → (pages ≡ []) × (full ≡ false)
unfolding first_cause lowest_broken
judged_empty [] false none = (refl, refl)
judged_empty [] true none = absurd (some_none (Full most_pages) none)
judged_empty (p ∷ ps) full none = absurd (some_none (NotDatabase (lowest_of p ps)) none)

pub no_entry_broken : (x : Image) (p : ℕ) → entry_broken x p ≡ [] → entry_cause x p ≡ None
no_entry_broken x p none = by (has_entry x p) refl none
  where
    by : (t : Bool) → has_entry x p ≡ t → elim t as (λ z. List ℕ) [ true ↦ other_kind x scn_kind (scn_page_of x p) | false ↦ [] ] ≡ [] → entry_cause x p ≡ None
    by false e h = no_entry_cause x p e
    by true e h = entry_cause-is x p e ∙ ap (λ (t : Bool). when (not t) (NotDatabase (scn_page_of x p))) (other_met x 10 (scn_page_of x p) h)

nothing_judged : judged [] false ≡ None
unfolding first_cause lowest_broken
nothing_judged = refl

pub free_behind : (d : Draft) (p : ℕ) → behind_cause d p ≡ None → IsFreeBehind d p
free_behind d p none =
    let all = judged_empty (other_kind d.image data_kind p ++ (entry_broken d.image p ++ d.broken)) d.full none in
    let page = append_none (other_kind d.image data_kind p) (entry_broken d.image p ++ d.broken) all.0 in
    let entry = append_none (entry_broken d.image p) d.broken page.1 in
    record {
      clear = ap (λ (ps : List ℕ). judged ps d.full) entry.1 ∙ ap (λ (t : Bool). judged [] t) all.1 ∙ nothing_judged;
      kind = other_met d.image 5 p page.0;
      entry = no_entry_broken d.image p entry.0;
    }

-- why new pages aren't made
pub unmade_short : (image : Image) (d : Draft) → length image < 5 → unmade image d ≡ Some (NotDatabase (length image))
unmade_short image d low = first_here (too_short image) (not_of_form d ∷ no_room d ∷ []) (NotDatabase (length image)) (applies _ _ (lt_yes (length image) 5 low))

pub unmade_long : (image : Image) (d : Draft) → 5 ≤ length image → unmade image d ≡ draft_cause d
unmade_long image d long = first_next (too_short image) (not_of_form d ∷ no_room d ∷ []) (when_false _ _ (lt_no (length image) 5 long))

pub behind_short : (image : Image) (d : Draft) (p : ℕ) → length image < 5 → unmade_behind image d p ≡ Some (NotDatabase (length image))
behind_short image d p low = first_here (too_short image) (behind_cause d p ∷ []) (NotDatabase (length image)) (applies _ _ (lt_yes (length image) 5 low))

pub behind_long : (image : Image) (d : Draft) (p : ℕ) → 5 ≤ length image → unmade_behind image d p ≡ behind_cause d p
behind_long image d p long = first_next (too_short image) (behind_cause d p ∷ []) (when_false _ _ (lt_no (length image) 5 long)) ∙ one_cause (behind_cause d p)

pub grown_unmade : (image : Image) (chain : Chain) (pages slots : List ℕ) → 5 ≤ length image → unmade image (grown chain pages slots (drafted image)).0 ≡ behind_cause (new_behind chain slots image).0 (last_of pages)
grown_unmade image chain pages slots long = unmade_long image (grown chain pages slots (drafted image)).0 long ∙ grown_judged chain pages slots (drafted image)

-- the same by two causes
last_grouped : (a b c : Cause) → first_cause (a ∷ b ∷ c ∷ []) ≡ first_cause (a ∷ first_cause (b ∷ c ∷ []) ∷ [])
unfolding first_cause
last_grouped (Some r) b c = refl
last_grouped None (Some r) c = refl
last_grouped None None None = refl
last_grouped None None (Some r) = refl

pub unmade_is : (image : Image) (d : Draft) → unmade image d ≡ first_cause (too_short image ∷ draft_cause d ∷ [])
unmade_is image d = last_grouped (too_short image) (not_of_form d) (no_room d)

pub grown_named : (image : Image) (chain : Chain) (pages slots : List ℕ) (d : Draft) → unmade image (grown chain pages slots d).0 ≡ unmade_behind image (new_page 5 (λ p. data_payload 0 (owner_of chain) slots) d).0 (last_of pages)
grown_named image chain pages slots d = unmade_is image (grown chain pages slots d).0 ∙ ap (λ (c : Cause). first_cause (too_short image ∷ c ∷ [])) (grown_judged chain pages slots d)

pub slot_named : (image : Image) (p slot : ℕ) (bytes : Slot) (d : Draft) → unmade image (wants d.image 5 p (put_slot p slot bytes d)) ≡ unmade_behind image d p
slot_named image p slot bytes d = unmade_is image (wants d.image 5 p (put_slot p slot bytes d)) ∙ ap (λ (c : Cause). first_cause (too_short image ∷ c ∷ [])) (slot_judged p slot bytes d)

-- Where nothing keeps a draft from being made that goes on from another, nothing keeps either.
pub joined_clear : (d e : Draft) → draft_cause (joined d e) ≡ None → (draft_cause d ≡ None) × (draft_cause e ≡ None)
joined_clear d e none =
    let all = judged_empty (e.broken ++ d.broken) (e.full || d.full) none in
    let pages = append_none e.broken d.broken all.0 in
    let full = or_parts e.full d.full all.1 in
    (ap (λ (ps : List ℕ). judged ps d.full) pages.1 ∙ ap (judged []) full.1 ∙ nothing_judged, ap (λ (ps : List ℕ). judged ps e.full) pages.0 ∙ ap (judged []) full.0 ∙ nothing_judged)

-- A page alone is written.
pub entry_lowest : (x : Image) (p : ℕ) → lowest_broken (entry_broken x p) ≡ entry_cause x p
unfolding lowest_broken other_kind
entry_lowest x p = by (has_entry x p) refl
  where
    at : (t : Bool) → lowest_broken (elim t as (λ z. List ℕ) [ true ↦ [] | false ↦ scn_page_of x p ∷ [] ]) ≡ when (not t) (NotDatabase (scn_page_of x p))
    at true = refl
    at false = refl

    by : (t : Bool) → has_entry x p ≡ t → lowest_broken (entry_broken x p) ≡ entry_cause x p
    by false e = ap (λ (t : Bool). lowest_broken (elim t as (λ z. List ℕ) [ true ↦ other_kind x scn_kind (scn_page_of x p) | false ↦ [] ])) e ∙ sym (no_entry_cause x p e)
    by true e = ap (λ (t : Bool). lowest_broken (elim t as (λ z. List ℕ) [ true ↦ other_kind x scn_kind (scn_page_of x p) | false ↦ [] ])) e ∙ at (is_kind x scn_kind (scn_page_of x p)) ∙ sym (entry_cause-is x p e)

pub slot_alone : (image : Image) (p slot : ℕ) (bytes : Slot) → draft_cause (put_slot p slot bytes (drafted image)) ≡ entry_cause image p
unfolding put_slot
slot_alone image p slot bytes =
    let payload : List ℕ = drop 16 (with_part (32 + 256 * slot) bytes (page_at image p)) in
    ap (λ (ps : List ℕ). judged ps (put p data_kind payload (drafted image)).full) (put_broken p data_kind payload (drafted image) ∙ append-nil (entry_broken image p))
    ∙ ap (judged (entry_broken image p)) (put_full p data_kind payload (drafted image)) ∙ ap (λ (c : Cause). first_cause (c ∷ None ∷ [])) (entry_lowest image p) ∙ none_behind (entry_cause image p)
