-- What is told of a run: the same events, a quiet one with no reply of the first but a refusal, and with the number of pages where a begin tells it.
use Rattle.std.proofs.Common.{◌≡◌, ℕ, List, [], ◌∷◌, false, refl, sym, ap, ◌∙◌, Bool, Option, Some, None, if◌then◌else◌}
use Rattle.nb_top.proofs.Common.{normal_state, Refusal, Reply, PagesShown, Statement, OpenDb, Account, last_or_refusal, said_by_generated, all_sized, quiet, refusal_in, sized, line_text, Given, output, status_of, status_after, Event, IsRun, files_made, replies_of, steps_in, steps_of, Stroke, output_one, status_one, output-quiet, output_no_event, Plan, is_refusal, Telling, All, Quietly, WithSize, Sparingly, IsScriptRun, begins_refused, first_event, is_all, opened_reply, pages_first, refused_at, told, told_first, told_later, status_unsaid}
use Rattle.nb_model.specs.declared.reply.Reply.TheVariants.{Refused}
use Rattle.nb_session.specs.declared.told.Told.TheVariants.{Sparingly as SparinglyTold}
use Rattle.nb_session.proofs.ToldLaws.{told_steps as later_steps, told_files as files_as, sized_files, sized_steps}

-- the run of a script to these events
abbrev pub Ran : Account → Given → Plan → List Event → (last : Account) → (left : Given) → Type 0
Ran account given plan events last left = IsRun account given plan.first_session plan.first plan.schedule plan.sessions events last left

-- events whose begins are told with the number of pages
sized_refusal : (pages : ℕ) (reply : Option Reply) → refusal_in reply ≡ sized pages (refusal_in reply)
sized_refusal pages None = refl
sized_refusal pages (Some reply) = by reply
  where
    by : (reply : Reply) → refusal_in (Some reply) ≡ sized pages (refusal_in (Some reply))
    by (Refused refusal) = refl
    by other = refl

pub told_cons : (telling : Telling) (pages : ℕ) (e : Event) (es : List Event) → told_first telling e ∷ told_later telling pages es ≡ told telling pages (e ∷ es)
unfolding all_sized said_by_generated
told_cons All pages e es = refl
told_cons Quietly pages e es = refl
told_cons Sparingly pages e es = refl
told_cons WithSize pages e es = ap (λ (r : Option Reply). record e { reply = r } ∷ all_sized pages es) (sized_refusal pages e.reply)

-- The events that are told have the steps and the strokes of the whole.
quiet_steps : (es : List Event) → steps_of (quiet es) ≡ steps_of es
unfolding steps_of
quiet_steps [] = refl
quiet_steps (e ∷ es) = refl

quiet_files : (es : List Event) → files_made (quiet es) ≡ files_made es
unfolding files_made
quiet_files [] = refl
quiet_files (e ∷ es) = refl

pub told_steps : (telling : Telling) (pages : ℕ) (es : List Event) → steps_of (told telling pages es) ≡ steps_of es
told_steps All pages es = refl
told_steps Quietly pages es = quiet_steps es
told_steps WithSize pages es = sized_steps pages (quiet es) ∙ quiet_steps es
told_steps Sparingly pages es = later_steps SparinglyTold es

-- and make the same files
pub told_files : (telling : Telling) (pages : ℕ) (es : List Event) → files_made (told telling pages es) ≡ files_made es
told_files All pages es = refl
told_files Quietly pages es = quiet_files es
told_files WithSize pages es = sized_files pages (quiet es) ∙ quiet_files es
told_files Sparingly pages es = files_as SparinglyTold es

pub later_files : (telling : Telling) (pages : ℕ) (es : List Event) → files_made (told_later telling pages es) ≡ files_made es
later_files All pages es = refl
later_files Quietly pages es = refl
later_files WithSize pages es = sized_files pages es
later_files Sparingly pages es = files_as SparinglyTold es

pub told_first_steps : (telling : Telling) (e : Event) → steps_in (told_first telling e) ≡ steps_in e
told_first_steps All e = refl
told_first_steps Quietly e = refl
told_first_steps WithSize e = refl
told_first_steps Sparingly e = refl

-- and the first makes the same file, if it makes one
pub told_first_made : (telling : Telling) (e : Event) → (told_first telling e).made ≡ e.made
told_first_made All e = refl
told_first_made Quietly e = refl
told_first_made WithSize e = refl
told_first_made Sparingly e = refl

-- a refusal is told
refused_reply : (reply : Reply) → elim (refusal_in (Some reply)) as (λ z. Bool) [ None ↦ false | Some r ↦ is_refusal r ] ≡ is_refusal reply
refused_reply (Refused refusal) = refl
refused_reply other = refl

refused_in : (reply : Option Reply) → elim (refusal_in reply) as (λ z. Bool) [ None ↦ false | Some r ↦ is_refusal r ] ≡ elim reply as (λ z. Bool) [ None ↦ false | Some r ↦ is_refusal r ]
refused_in None = refl
refused_in (Some reply) = refused_reply reply

last_in : (reply : Option Reply) → elim (last_or_refusal reply) as (λ z. Bool) [ None ↦ false | Some r ↦ is_refusal r ] ≡ elim reply as (λ z. Bool) [ None ↦ false | Some r ↦ is_refusal r ]
last_in None = refl
last_in (Some reply) = by reply
  where
    by : (reply : Reply) → elim (last_or_refusal (Some reply)) as (λ z. Bool) [ None ↦ false | Some r ↦ is_refusal r ] ≡ is_refusal reply
    by (Refused refusal) = refl
    by (PagesShown header inventory scn rows raw others free) = refl
    by other = refl

pub told_begins : (telling : Telling) (pages : ℕ) (es : List Event) → begins_refused (told telling pages es) ≡ begins_refused es
unfolding all_sized said_by_generated
told_begins All pages es = refl
told_begins Quietly pages [] = refl
told_begins Quietly pages (e ∷ es) = refused_in e.reply
told_begins Sparingly pages [] = refl
told_begins Sparingly pages (e ∷ es) = last_in e.reply
told_begins WithSize pages [] = refl
told_begins WithSize pages (e ∷ es) =
    ap (λ (r : Option Reply). elim r as (λ z. Bool) [ None ↦ false | Some reply ↦ is_refusal reply ]) (sym (sized_refusal pages e.reply)) ∙ refused_in e.reply

pub told_refusal : (telling : Telling) (pages session : ℕ) (refusal : Refusal) → refused_at session refusal ≡ told telling pages (refused_at session refusal)
unfolding all_sized said_by_generated
told_refusal All pages session refusal = refl
told_refusal Quietly pages session refusal = refl
told_refusal WithSize pages session refusal = refl
told_refusal Sparingly pages session refusal = refl

-- what is asked for is done
pub performed_told : (telling : Telling) (plan : Plan) (account : Account) (given : Given) (e : Event) (es : List Event) (last : Account) (left : Given) → Ran account given plan (e ∷ es) last left
    → IsScriptRun plan telling account given (told_first telling e ∷ told_later telling (pages_first account plan.first) es) last left
performed_told telling plan account given e es last left ran = record { whole = e ∷ es; run = ran; said = told_cons telling (pages_first account plan.first) e es }

pub performed_refused : (telling : Telling) (plan : Plan) (account : Account) (given : Given) (session : ℕ) (refusal : Refusal) (last : Account) (left : Given) → Ran account given plan (refused_at session refusal) last left
    → IsScriptRun plan telling account given (refused_at session refusal) last left
performed_refused telling plan account given session refusal last left ran =
    record { whole = refused_at session refusal; run = ran; said = told_refusal telling (pages_first account plan.first) session refusal }

-- no reply of a database that is open is a refusal
pub opened_fine : (first : Statement) (pages state : ℕ) → status_after (opened_reply first pages state) ≡ normal_state
opened_fine (OpenDb name cache) pages state = refl
opened_fine other pages state = refl

untold : (first : Statement) (pages state : ℕ) → refusal_in (Some (opened_reply first pages state)) ≡ None
untold (OpenDb name cache) pages state = refl
untold other pages state = refl

unshown : (first : Statement) (pages state : ℕ) → last_or_refusal (Some (opened_reply first pages state)) ≡ None
unshown (OpenDb name cache) pages state = refl
unshown other pages state = refl

-- the line of a first reply, where it is told
module _ (session : ℕ) (strokes : List Stroke) (first : Statement) (pages state : ℕ) where
  abbrev reply : Reply
  reply = opened_reply first pages state

  pub told_output : (telling : Telling) → output (told_first telling (first_event session strokes reply) ∷ []) ≡ (if is_all telling then line_text session reply else [])
  told_output All = output_one (first_event session strokes reply) reply refl
  told_output Quietly = output-quiet (told_first Quietly (first_event session strokes reply)) [] (untold first pages state) ∙ output_no_event
  told_output WithSize = output-quiet (told_first WithSize (first_event session strokes reply)) [] (untold first pages state) ∙ output_no_event
  told_output Sparingly = output-quiet (told_first Sparingly (first_event session strokes reply)) [] (unshown first pages state) ∙ output_no_event

  pub told_status : (telling : Telling) → status_of (replies_of (told_first telling (first_event session strokes reply) ∷ [])) ≡ 0
  told_status All = status_one (first_event session strokes reply) reply refl ∙ opened_fine first pages state
  told_status Quietly = status_unsaid (told_first Quietly (first_event session strokes reply)) (untold first pages state)
  told_status WithSize = status_unsaid (told_first WithSize (first_event session strokes reply)) (untold first pages state)
  told_status Sparingly = status_unsaid (told_first Sparingly (first_event session strokes reply)) (unshown first pages state)
