-- What is told of turns: each event in its place, with its strokes and its file, and of its reply no more than it had.
use Rattle.std.proofs.Common.{◌≡◌, ℕ, List, [], ◌∷◌, ◌++◌, Bool, refl, sym, ap, subst, ◌∙◌, true≢false, true, false, Contains, Option, None, Some}
use Rattle.nb_session.proofs.Common.{Refusal, Reply, Scn, PagesShown, line_text, MadeFile, AreAmong, IsNoneOf, output, status_of, status_after, Event, files_made, replies_of, Step, steps_in, steps_of, Stroke, output_one, status_one, output-quiet, output_no_event, status_no_event, Told, has_only_told, only_told, told_reply, told_events, told_line, told_status}
use Rattle.nb_model.specs.declared.reply.Reply.TheVariants.{Refused}
use Rattle.nb_model.specs.Generated.{last_or_refusal, said_by_generated}
use Rattle.nb_model.specs.Jobs.{sized, all_sized}
use Rattle.nb_session.specs.declared.told.Told.TheVariants.{Whole, WithPages, Sparingly}

pub told_nothing : (how : Told) → told_events how [] ≡ []
unfolding all_sized said_by_generated
told_nothing Whole = refl
told_nothing (WithPages pages) = refl
told_nothing Sparingly = refl

pub told_one : (how : Told) (e : Event) → told_events how (e ∷ []) ≡ record e { reply = told_reply how e.reply } ∷ []
unfolding all_sized said_by_generated
told_one Whole e = refl
told_one (WithPages pages) e = refl
told_one Sparingly e = refl

-- events after events
sized_append : (pages : ℕ) (a b : List Event) → all_sized pages (a ++ b) ≡ all_sized pages a ++ all_sized pages b
unfolding all_sized
sized_append pages [] b = refl
sized_append pages (e ∷ a) b = ap (λ (es : List Event). record e { reply = sized pages e.reply } ∷ es) (sized_append pages a b)

sparing_append : (a b : List Event) → said_by_generated (a ++ b) ≡ said_by_generated a ++ said_by_generated b
unfolding said_by_generated
sparing_append [] b = refl
sparing_append (e ∷ a) b = ap (λ (es : List Event). record e { reply = last_or_refusal e.reply } ∷ es) (sparing_append a b)

pub told_append : (how : Told) (a b : List Event) → told_events how (a ++ b) ≡ told_events how a ++ told_events how b
told_append Whole a b = refl
told_append (WithPages pages) a b = sized_append pages a b
told_append Sparingly a b = sparing_append a b

-- their steps
pub sized_steps : (pages : ℕ) (es : List Event) → steps_of (all_sized pages es) ≡ steps_of es
unfolding steps_of all_sized
sized_steps pages [] = refl
sized_steps pages (e ∷ es) = ap (λ (ss : List Step). steps_in e ++ ss) (sized_steps pages es)

sparing_steps : (es : List Event) → steps_of (said_by_generated es) ≡ steps_of es
unfolding steps_of said_by_generated
sparing_steps [] = refl
sparing_steps (e ∷ es) = ap (λ (ss : List Step). steps_in e ++ ss) (sparing_steps es)

pub told_steps : (how : Told) (es : List Event) → steps_of (told_events how es) ≡ steps_of es
told_steps Whole es = refl
told_steps (WithPages pages) es = sized_steps pages es
told_steps Sparingly es = sparing_steps es

-- their files
pub sized_files : (pages : ℕ) (es : List Event) → files_made (all_sized pages es) ≡ files_made es
unfolding files_made all_sized
sized_files pages [] = refl
sized_files pages (e ∷ es) = ap (λ (files : List MadeFile). elim e.made as (λ z. List MadeFile) [ Some file ↦ file ∷ files | None ↦ files ]) (sized_files pages es)

sparing_files : (es : List Event) → files_made (said_by_generated es) ≡ files_made es
unfolding files_made said_by_generated
sparing_files [] = refl
sparing_files (e ∷ es) = ap (λ (files : List MadeFile). elim e.made as (λ z. List MadeFile) [ Some file ↦ file ∷ files | None ↦ files ]) (sparing_files es)

pub told_files : (how : Told) (es : List Event) → files_made (told_events how es) ≡ files_made es
told_files Whole es = refl
told_files (WithPages pages) es = sized_files pages es
told_files Sparingly es = sparing_files es

-- what isn't said isn't told
pub told_none : (how : Told) (r : Option Reply) → r ≡ None → told_reply how r ≡ None
told_none how r none = ap (told_reply how) none ∙ by how
  where
    by : (how : Told) → told_reply how None ≡ None
    by Whole = refl
    by (WithPages pages) = refl
    by Sparingly = refl

-- the status is that of the reply
pub told_status_is : (how : Told) (r : Reply) → told_status (told_reply how (Some r)) ≡ status_after r
told_status_is Whole r = refl
told_status_is (WithPages pages) (Scn scn) = refl
told_status_is (WithPages pages) other = refl
told_status_is Sparingly (Refused refusal) = refl
told_status_is Sparingly (PagesShown header inventory scn rows raw others free) = refl
told_status_is Sparingly other = refl

-- what only tells something as it is told only tells something
only_reply : (how : Told) (r : Option Reply) → has_only_told (told_reply how r) ≡ true → has_only_told r ≡ true
only_reply Whole r only = only
only_reply (WithPages pages) None only = only
only_reply (WithPages pages) (Some (Scn scn)) only = absurd (true≢false (sym only))
only_reply (WithPages pages) (Some other) only = only
only_reply Sparingly None only = only
only_reply Sparingly (Some (Refused refusal)) only = only
only_reply Sparingly (Some (PagesShown header inventory scn rows raw others free)) only = only
only_reply Sparingly (Some other) only = absurd (true≢false (sym only))

pub told_only : (how : Told) (e : Event) → only_told (record e { reply = told_reply how e.reply }) ≡ true → only_told e ≡ true
told_only how e only = by e.strokes only
  where
    by : (ss : List Stroke) → elim ss as (λ z. Bool) [ [] ↦ has_only_told (told_reply how e.reply) | s ∷ ss ↦ false ] ≡ true → elim ss as (λ z. Bool) [ [] ↦ has_only_told e.reply | s ∷ ss ↦ false ] ≡ true
    by [] is = only_reply how e.reply is
    by (s ∷ ss) is = is

-- the line of one event, and its status
pub output_told : (e : Event) (r : Option Reply) → e.reply ≡ r → output (e ∷ []) ≡ told_line e.session r
output_told e None is = output-quiet e [] is ∙ output_no_event
output_told e (Some r) is = output_one e r is

pub status_unsaid : (e : Event) → e.reply ≡ None → status_of (replies_of (e ∷ [])) ≡ 0
unfolding replies_of
status_unsaid e none = ap (λ (r : Option Reply). status_of (elim r as (λ z. List (ℕ × Reply)) [ Some reply ↦ (e.session, reply) ∷ [] | None ↦ [] ])) none ∙ status_no_event

pub status_told : (e : Event) (r : Option Reply) → e.reply ≡ r → status_of (replies_of (e ∷ [])) ≡ told_status r
status_told e None is = status_unsaid e is
status_told e (Some r) is = status_one e r is

-- a refusal is told
pub refusal_line : (how : Told) (session : ℕ) (refusal : Refusal) → line_text session (Refused refusal) ≡ told_line session (told_reply how (Some (Refused refusal)))
refusal_line Whole session refusal = refl
refusal_line (WithPages pages) session refusal = refl
refusal_line Sparingly session refusal = refl

-- the files that events make, as they are told
pub told_among : (how : Told) (es : List Event) (files : List MadeFile) → AreAmong (files_made es) files → AreAmong (files_made (told_events how es)) files
told_among how es files among = subst (λ (made : List MadeFile). AreAmong made files) (sym (told_files how es)) among

pub told_others : (how : Told) (es : List Event) (files : List MadeFile) → ((n bytes : List ℕ) → Contains (files_made es) (n, bytes) → IsNoneOf files n) → (n bytes : List ℕ) → Contains (files_made (told_events how es)) (n, bytes) → IsNoneOf files n
told_others how es files others n bytes there = others n bytes (subst (λ (made : List MadeFile). Contains made (n, bytes)) (told_files how es) there)
