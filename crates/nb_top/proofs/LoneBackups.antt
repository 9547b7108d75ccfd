-- One backup since another, in a session that is alone: the file that it makes, the record that its begin keeps, the GUID and the time that it takes, and
-- that nothing of it is told. Or it is refused.
use Rattle.std.proofs.Common.{◌≡◌, ◌⊎◌, inl, inr, ℕ, zero, suc, List, [], ◌∷◌, ◌++◌, length, replicate, get_or, true, false, refl, sym, ap, subst, ◌∙◌, arith, length-append, Bool, ◌==◌, nat_lt, Option, None, Some, is_none}
use Rattle.nb_top.proofs.Common.{AllByRecursion, none_some, true≢false, append-nil, Refusal, Reply, Kept, Base, said_by_generated, last_or_refusal, Image, image_scn, image_state, stalled_state, guids_in, MadeFile, Now, Event, Played, base_now, play, files_made, strokes_of, output, output-quiet, output_no_event, AreFinished, HasHeader, IsSoundImage, base_after, records_after, records_of, on_base, Stroke, guids_append, Begins, Given}
use Rattle.nb_host.specs.Names.{same_name}
use Rattle.nb_host.specs.declared.refusals.Refusal.TheVariants.{NoGuid}
use Rattle.nb_model.specs.Account.{Ask}
use Rattle.nb_model.specs.Backups.{room_in, ask_of, level_behind, since_turn, starts, close_backup}
use Rattle.nb_model.specs.Causes.{Cause, broken_at, when}
use Rattle.nb_model.specs.Chains.{History, Slot, Spot, backup_spot, guid_in, pages_of, put_slot}
use Rattle.nb_model.specs.Forms.{Draft, drafted, has_entry, scn_entry, needs, is_kind, entry_raised, entry_written, raised, put, written, wrote, scn_page_of}
use Rattle.nb_model.specs.Levels.{file_of}
use Rattle.nb_model.specs.Making.{kept_of}
use Rattle.nb_model.specs.Outcomes.{Backing, Outcome, Seen, Turn, unless, next_guid, without_guid, without_time}
use Rattle.nb_model.specs.Outcomes.{Copies, ClosesBackup, ClosesCopy, Ends, Merges, Finishes}
use Rattle.nb_model.specs.Pages.{ends_by, end_strokes}
use Rattle.nb_model.specs.Run.{event_of, one_turn, outcome, stands_then, take_turn}
use Rattle.nb_model.specs.Strokes.{begin, ends, finish, page}
use Rattle.nb_model.specs.Turns.{first_turn, turn}
use Rattle.nb_model.specs.declared.reply.Reply.TheVariants.{Refused}
use Rattle.nb_model.specs.declared.statement.Statement.TheVariants.{BackupSince}
use Rattle.nb_model.proofs.FitLaws.{AreFitting, Fits, Stays, fitting_stays}
use Rattle.nb_model.proofs.GoingLaws.{own_todo}
use Rattle.nb_model.proofs.MakingLaws.{event_makes, made_append, of_made}
use Rattle.nb_model.proofs.OutputLaws.{strokes_one}
use Rattle.nb_model.proofs.PutSound.{header_whole, not_when}
use Rattle.nb_model.proofs.RoomLaws.{AnyPage, any_history, room_fits}
use Rattle.nb_model.proofs.RunLaws.{one_is, strokes_of-append}
use Rattle.nb_model.proofs.SoundTurns.{seen_now}
use Rattle.nb_model.proofs.StrokeLaws.{records_after-append, base_after-append}
use Rattle.nb_model.proofs.TurnCases.{MayStart, refused, start_cause, started, starts_either}

-- ---- strokes that only write pages keep no record and take no GUID

abbrev IsPage : Stroke → Type 0
IsPage (page p bytes) = Unit {0}
IsPage other = ⊥

pages_keep : (ss : List Stroke) (b : Base) → AllByRecursion IsPage ss → records_after b ss ≡ []
unfolding records_after records_of
pages_keep [] b all = refl
pages_keep (page p bytes ∷ ss) b all = pages_keep ss (on_base (page p bytes) b) all.1
pages_keep (other ∷ ss) b all = absurd all.0

pages_take : (ss : List Stroke) → AllByRecursion IsPage ss → guids_in ss ≡ []
unfolding guids_in
pages_take [] all = refl
pages_take (page p bytes ∷ ss) all = pages_take ss all.1
pages_take (other ∷ ss) all = absurd all.0

one_more : (ss : List Stroke) (s : Stroke) → AllByRecursion IsPage ss → IsPage s → AllByRecursion IsPage (ss ++ s ∷ [])
one_more [] s all is = (is, tt)
one_more (x ∷ ss) s all is = (all.0, one_more ss s all.1 is)

fitting_pages : (K : List ℕ → Type 0) (ss : List Stroke) (b : Base) → AreFitting K b ss → AllByRecursion IsPage ss
fitting_pages K [] b fits = tt
fitting_pages K (page p bytes ∷ ss) b fits = (tt, fitting_pages K ss (on_base (page p bytes) b) fits.1)
fitting_pages K (other ∷ ss) b fits = absurd fits.0

-- the row of a backup is written by such strokes
written_pages : (p kind : ℕ) (payload : List ℕ) (d : Draft) → AllByRecursion IsPage d.strokes → AllByRecursion IsPage (written p kind payload d).strokes
unfolding written wrote
written_pages p kind payload d all = one_more d.strokes _ all tt

needs_pages : (kind p : ℕ) (d : Draft) → AllByRecursion IsPage d.strokes → AllByRecursion IsPage (needs kind p d).strokes
unfolding needs
needs_pages kind p d all = by (is_kind d.image kind p)
  where
    by : (t : Bool) → AllByRecursion IsPage (elim t as (λ z. Draft) [ true ↦ d | false ↦ record d { broken = p ∷ d.broken } ]).strokes
    by true = all
    by false = all

entry_pages : (p : ℕ) (d : Draft) → AllByRecursion IsPage d.strokes → AllByRecursion IsPage (entry_raised p d).strokes
unfolding entry_raised entry_written
entry_pages p d all = by (nat_lt (scn_entry d.image p) (image_scn d.image))
  where
    by : (t : Bool) → AllByRecursion IsPage (elim t as (λ z. Draft) [ true ↦ entry_written p d | false ↦ d ]).strokes
    by true = written_pages _ 10 _ d all
    by false = all

raised_pages : (p : ℕ) (d : Draft) → AllByRecursion IsPage d.strokes → AllByRecursion IsPage (raised p d).strokes
unfolding raised
raised_pages p d all = by (has_entry d.image p)
  where
    by : (t : Bool) → AllByRecursion IsPage (elim t as (λ z. Draft) [ true ↦ entry_raised p (needs 10 (scn_page_of d.image p) d) | false ↦ d ]).strokes
    by true = entry_pages p (needs 10 (scn_page_of d.image p) d) (needs_pages 10 (scn_page_of d.image p) d all)
    by false = all

slot_pages : (p slot : ℕ) (bytes : Slot) (image : Image) → AllByRecursion IsPage (put_slot p slot bytes (drafted image)).strokes
unfolding put_slot put
slot_pages p slot bytes image = written_pages p 5 _ (raised p (drafted image)) (raised_pages p (drafted image) tt)

-- ---- what turns did

-- The files that they made, the records and GUIDs of the backups that they began, and what is left to be given; nothing of them is told.
pub record Did (b : Base) (played : Played) (files : List MadeFile) (kept : List Kept) (ids : List (List ℕ)) (still : Given) : Type 0 where
  pub made : files_made played.0 ≡ files
  pub keeps : records_after b (strokes_of played.0) ≡ kept
  pub takes : guids_in (strokes_of played.0) ≡ ids
  pub untold : output (said_by_generated played.0) ≡ []
  pub left : played.1.given ≡ still

did_nothing : (b : Base) (now : Now) → Did b ([], now) [] [] [] now.given
unfolding files_made strokes_of records_after guids_in said_by_generated
did_nothing b now = record { made = refl; keeps = refl; takes = refl; untold = output_no_event; left = refl }

told_append : (xs ys : List Event) → said_by_generated (xs ++ ys) ≡ said_by_generated xs ++ said_by_generated ys
unfolding said_by_generated
told_append [] ys = refl
told_append (x ∷ xs) ys = ap (λ (es : List Event). record x { reply = last_or_refusal x.reply } ∷ es) (told_append xs ys)

-- one turn, of which nothing is told
abbrev pub IsUntold : Option Reply → Type 0
IsUntold reply = last_or_refusal reply ≡ None

pub untold_first : (e : Event) (es : List Event) → IsUntold e.reply → output (said_by_generated es) ≡ [] → output (said_by_generated (e ∷ es)) ≡ []
unfolding said_by_generated
untold_first e es quiet rest = output-quiet (record e { reply = last_or_refusal e.reply }) (said_by_generated es) quiet ∙ rest

module _ (now : Now) (t : Turn) (rest : List Turn) (is : get_or now.todo 0 [] ≡ t ∷ rest) where
  abbrev o : Outcome
  o = outcome 1 t now

  abbrev then : Now
  then = stands_then 1 rest o now

  taken : one_turn 1 now ≡ (event_of 1 t o ∷ [], then)
  unfolding one_turn take_turn
  taken = ap (λ (ts : List Turn). take_turn 1 ts now) is

  given_then : then.given ≡ o.given
  unfolding stands_then
  given_then = refl

  todo_then : get_or then.todo 0 [] ≡ o.next ++ rest
  todo_then = own_todo 1 now t rest is o

  base_then : base_now then ≡ base_after (base_now now) o.strokes
  base_then =
      ap (λ (p : Played). base_now p.1) (sym taken) ∙ one_is 1 now
      ∙ ap (λ (p : Played). base_after (base_now now) (strokes_of p.0)) taken ∙ ap (base_after (base_now now)) (strokes_one (event_of 1 t o))

  -- this turn and then others
  did_first : (n : ℕ) (files : List MadeFile) (kept : List Kept) (ids : List (List ℕ)) (left : Given) → IsUntold o.reply
      → Did (base_now then) (play (replicate n 1) then) files kept ids left
      → Did (base_now now) (play (replicate (suc n) 1) now) (of_made o.made ++ files) (records_after (base_now now) o.strokes ++ kept) (guids_in o.strokes ++ ids) left
  unfolding play
  did_first n files kept ids left quiet later =
      subst (λ (p : Played). Did (base_now now) (p.0 ++ (play (replicate n 1) p.1).0, (play (replicate n 1) p.1).1) (of_made o.made ++ files) (records_after (base_now now) o.strokes ++ kept) (guids_in o.strokes ++ ids) left) (sym taken)
      (record {
        made = made_append (event_of 1 t o ∷ []) es ∙ ap (λ (fs : List MadeFile). fs ++ files_made es) (event_makes 1 t o) ∙ ap (λ (fs : List MadeFile). of_made o.made ++ fs) later.made;
        keeps = ap (records_after (base_now now)) strokes_are ∙ records_after-append (base_now now) o.strokes (strokes_of es)
            ∙ ap (λ (rs : List Kept). records_after (base_now now) o.strokes ++ rs) (ap (λ (b : Base). records_after b (strokes_of es)) (sym base_then) ∙ later.keeps);
        takes = ap guids_in strokes_are ∙ guids_append o.strokes (strokes_of es) ∙ ap (λ (gs : List (List ℕ)). guids_in o.strokes ++ gs) later.takes;
        untold = untold_first (event_of 1 t o) es quiet later.untold;
        left = later.left;
      })
    where
      es : List Event
      es = (play (replicate n 1) then).0

      strokes_are : strokes_of (event_of 1 t o ∷ es) ≡ o.strokes ++ strokes_of es
      strokes_are = strokes_of-append (event_of 1 t o ∷ []) es ∙ ap (λ (ss : List Stroke). ss ++ strokes_of es) (strokes_one (event_of 1 t o))

did_as : (b : Base) (p : Played) (fs gs : List MadeFile) (rs qs : List Kept) (is js : List (List ℕ)) (left other : Given) → fs ≡ gs → rs ≡ qs → is ≡ js → left ≡ other → Did b p fs rs is left → Did b p gs qs js other
did_as b p fs gs rs qs is js left other e f g h did = record { made = did.made ∙ e; keeps = did.keeps ∙ f; takes = did.takes ∙ g; untold = did.untold; left = did.left ∙ h }

-- ---- the end of a backup

-- a turn of the end, whose reply isn't told
abbrev IsLate : Turn → Type 0
IsLate (Begins statement) = ⊥
IsLate Copies = ⊥
IsLate (ClosesBackup b) = ⊥
IsLate (ClosesCopy name) = ⊥
IsLate (Ends reply) = IsUntold (Some reply)
IsLate Merges = Unit {0}
IsLate (Finishes reply) = IsUntold (Some reply)

record IsLateOutcome (b : Base) (given : Given) (o : Outcome) : Type 0 where
  made : o.made ≡ None
  keeps : records_after b o.strokes ≡ []
  takes : guids_in o.strokes ≡ []
  untold : IsUntold o.reply
  left : o.given ≡ given
  next : AllByRecursion IsLate o.next

ending_keeps : (b : Base) (t : Bool) → records_after b (elim t as (λ z. List Stroke) [ true ↦ ends ∷ [] | false ↦ [] ]) ≡ []
unfolding records_after records_of
ending_keeps b true = refl
ending_keeps b false = refl

ending_takes : (t : Bool) → guids_in (elim t as (λ z. List Stroke) [ true ↦ ends ∷ [] | false ↦ [] ]) ≡ []
unfolding guids_in
ending_takes true = refl
ending_takes false = refl

none_keeps : (b : Base) → records_after b [] ≡ []
unfolding records_after
none_keeps b = refl

none_takes : guids_in [] ≡ []
unfolding guids_in
none_takes = refl

finish_keeps : (b : Base) → records_after b (finish ∷ []) ≡ []
unfolding records_after records_of
finish_keeps b = refl

finish_takes : guids_in (finish ∷ []) ≡ []
unfolding guids_in
finish_takes = refl

merges_late : (n : ℕ) (reply : Reply) → IsUntold (Some reply) → AllByRecursion IsLate (replicate n Merges ++ Finishes reply ∷ [])
merges_late zero reply quiet = (quiet, tt)
merges_late (suc n) reply quiet = (tt, merges_late n reply quiet)

late_outcome : (t : Turn) (now : Now) → IsLate t → IsLateOutcome (base_now now) now.given (outcome 1 t now)
unfolding outcome turn ends_by end_strokes
late_outcome (Ends reply) now late = record {
  made = refl;
  keeps = ending_keeps (base_now now) (image_state (base_now now).image == stalled_state);
  takes = ending_takes (image_state (base_now now).image == stalled_state);
  untold = refl;
  left = refl;
  next = merges_late (length (base_now now).diverted) reply late;
}
late_outcome Merges now late = record { made = refl; keeps = none_keeps (base_now now); takes = none_takes; untold = refl; left = refl; next = tt }
late_outcome (Finishes reply) now late = record { made = refl; keeps = finish_keeps (base_now now); takes = finish_takes; untold = late; left = refl; next = tt }
late_outcome (Begins statement) now late = absurd late
late_outcome Copies now late = absurd late
late_outcome (ClosesBackup b) now late = absurd late
late_outcome (ClosesCopy name) now late = absurd late

late_both : (xs ys : List Turn) → AllByRecursion IsLate xs → AllByRecursion IsLate ys → AllByRecursion IsLate (xs ++ ys)
late_both [] ys a b = b
late_both (x ∷ xs) ys a b = (a.0, late_both xs ys a.1 b)

no_turns : (now : Now) → play [] now ≡ ([], now)
unfolding play
no_turns now = refl

-- a turn of a session that has nothing to do
idle_first : (n : ℕ) (now : Now) → get_or now.todo 0 [] ≡ [] → play (replicate (suc n) 1) now ≡ play (replicate n 1) now
unfolding play one_turn take_turn
idle_first n now is = ap (λ (ts : List Turn). ((take_turn 1 ts now).0 ++ (play (replicate n 1) (take_turn 1 ts now).1).0, (play (replicate n 1) (take_turn 1 ts now).1).1)) is

late_play : (n : ℕ) (now : Now) → AllByRecursion IsLate (get_or now.todo 0 []) → Did (base_now now) (play (replicate n 1) now) [] [] [] now.given
late_play zero now late = subst (λ (p : Played). Did (base_now now) p [] [] [] now.given) (sym (no_turns now)) (did_nothing (base_now now) now)
late_play (suc n) now late = by (λ next all. late_play n next all) (get_or now.todo 0 []) refl late
  where
    by : ((next : Now) → AllByRecursion IsLate (get_or next.todo 0 []) → Did (base_now next) (play (replicate n 1) next) [] [] [] next.given) → (ts : List Turn) → get_or now.todo 0 [] ≡ ts → AllByRecursion IsLate ts
        → Did (base_now now) (play (replicate (suc n) 1) now) [] [] [] now.given
    by rest_play [] is all = subst (λ (p : Played). Did (base_now now) p [] [] [] now.given) (sym (idle_first n now is)) (rest_play now late)
    by rest_play (t ∷ rest) is all =
        let l : IsLateOutcome (base_now now) now.given (outcome 1 t now) = late_outcome t now all.0 in
        let next : Now = stands_then 1 rest (outcome 1 t now) now in
        let later : Did (base_now next) (play (replicate n 1) next) [] [] [] next.given =
        rest_play next (subst (AllByRecursion IsLate) (sym (todo_then now t rest is)) (late_both (outcome 1 t now).next rest l.next all.1)) in
        did_as (base_now now) (play (replicate (suc n) 1) now) _ [] _ [] _ [] next.given now.given
        (ap (λ (made : Option MadeFile). of_made made ++ []) l.made) (ap (λ (rs : List Kept). rs ++ []) l.keeps) (ap (λ (gs : List (List ℕ)). gs ++ []) l.takes) (given_then now t rest is ∙ l.left)
        (did_first now t rest is n [] [] [] next.given l.untold later)

-- ---- its pages are copied, and it is closed

copied_outcome : (now : Now) → outcome 1 Copies now ≡ record { strokes = []; reply = None; next = []; running = now.running; made = None; given = now.given }
unfolding outcome turn
copied_outcome now = refl

record IsClosing (b : Base) (given : Given) (backing : Backing) (o : Outcome) : Type 0 where
  made : o.made ≡ Some (backing.name, file_of 102 (kept_of backing b.frozen))
  keeps : records_after b o.strokes ≡ []
  takes : guids_in o.strokes ≡ []
  untold : IsUntold o.reply
  left : o.given ≡ without_time given
  next : AllByRecursion IsLate o.next

closing_outcome : (now : Now) (backing : Backing) → IsClosing (base_now now) now.given backing (outcome 1 (ClosesBackup backing) now)
unfolding outcome turn close_backup
closing_outcome now backing = record {
  made = refl;
  keeps = pages_keep _ (base_now now) (slot_pages backing.page backing.slot _ (base_now now).image);
  takes = pages_take _ (slot_pages backing.page backing.slot _ (base_now now).image);
  untold = refl;
  left = refl;
  next = (refl, tt);
}

-- what is left of it makes the file
abbrev its_file : Backing → Image → List MadeFile
its_file backing frozen = (backing.name, file_of 102 (kept_of backing frozen)) ∷ []

no_stroke : (b : Base) → base_after b [] ≡ b
unfolding base_after
no_stroke b = refl

-- what ends after a turn and others ends after the others
ends_then : (n : ℕ) (now next : Now) (es : List Event) → one_turn 1 now ≡ (es, next) → get_or (play (replicate (suc n) 1) now).1.todo 0 [] ≡ [] → get_or (play (replicate n 1) next).1.todo 0 [] ≡ []
unfolding play
ends_then n now next es e at = ap (λ (p : Played). get_or (play (replicate n 1) p.1).1.todo 0 []) (sym e) ∙ at

copy_play : (n left : ℕ) (backing : Backing) (now : Now) → get_or now.todo 0 [] ≡ replicate left Copies ++ ClosesBackup backing ∷ [] → get_or (play (replicate n 1) now).1.todo 0 [] ≡ []
    → Did (base_now now) (play (replicate n 1) now) (its_file backing (base_now now).frozen) [] [] (without_time now.given)
copy_play zero left backing now is done =
    let long = ap length (sym is ∙ sym (ap (λ (p : Played). get_or p.1.todo 0 []) (no_turns now)) ∙ done) in
    absurd (omega (arith, long, length-append (replicate left Copies) (ClosesBackup backing ∷ [])))
copy_play (suc n) zero backing now is done =
    let t : Turn = ClosesBackup backing in
    let c : IsClosing (base_now now) now.given backing (outcome 1 t now) = closing_outcome now backing in
    let next : Now = stands_then 1 [] (outcome 1 t now) now in
    let later : Did (base_now next) (play (replicate n 1) next) [] [] [] next.given =
    late_play n next (subst (AllByRecursion IsLate) (sym (todo_then now t [] is)) (late_both (outcome 1 t now).next [] c.next tt)) in
    did_as (base_now now) (play (replicate (suc n) 1) now) _ (its_file backing (base_now now).frozen) _ [] _ [] next.given (without_time now.given)
    (ap (λ (made : Option MadeFile). of_made made ++ []) c.made) (ap (λ (rs : List Kept). rs ++ []) c.keeps) (ap (λ (gs : List (List ℕ)). gs ++ []) c.takes) (given_then now t [] is ∙ c.left)
    (did_first now t [] is n [] [] [] next.given c.untold later)
copy_play (suc n) (suc left) backing now is done =
    let t : Turn = Copies in
    let rest : List Turn = replicate left Copies ++ ClosesBackup backing ∷ [] in
    let o : Outcome = outcome 1 t now in
    let next : Now = stands_then 1 rest o now in
    let same : base_now next ≡ base_now now = base_then now t rest is ∙ ap (λ (x : Outcome). base_after (base_now now) x.strokes) (copied_outcome now) ∙ no_stroke (base_now now) in
    let given : next.given ≡ now.given = given_then now t rest is ∙ ap (λ (x : Outcome). x.given) (copied_outcome now) in
    let later : Did (base_now next) (play (replicate n 1) next) (its_file backing (base_now next).frozen) [] [] (without_time next.given) =
    copy_play n left backing next (todo_then now t rest is ∙ ap (λ (x : Outcome). x.next ++ rest) (copied_outcome now)) (ends_then n now next _ (taken now t rest is) done) in
    did_as (base_now now) (play (replicate (suc n) 1) now) _ (its_file backing (base_now now).frozen) _ [] _ [] (without_time next.given) (without_time now.given)
    (ap (λ (x : Outcome). of_made x.made ++ its_file backing (base_now next).frozen) (copied_outcome now) ∙ ap (λ (b : Base). its_file backing b.frozen) same)
    (ap (λ (x : Outcome). records_after (base_now now) x.strokes ++ []) (copied_outcome now) ∙ ap (λ (rs : List Kept). rs ++ []) (none_keeps (base_now now)))
    (ap (λ (x : Outcome). guids_in x.strokes ++ []) (copied_outcome now) ∙ ap (λ (gs : List (List ℕ)). gs ++ []) none_takes)
    (ap without_time given)
    (did_first now t rest is n (its_file backing (base_now next).frozen) [] [] (without_time next.given) (ap (λ (x : Outcome). last_or_refusal x.reply) (copied_outcome now)) later)

-- ---- it starts

-- The first turn is refused, or it starts a backup that goes on from that row of the history.
pub data FirstTurn (s : Seen) (since ship : List ℕ) (o : Outcome) : Type 0 where
  is_refused : (r : Refusal) → o ≡ refused s r → FirstTurn s since ship o
  is_started : (row : Spot) → backup_spot (λ (slot : Slot). same_name (guid_in slot) since) s.base.image ≡ Some row → MayStart s ship → o ≡ started s 1 ship (ask_of (level_behind (Some row)) (Some row)) → FirstTurn s since ship o

first_is : (s : Seen) (since ship : List ℕ) → FirstTurn s since ship (since_turn s 1 since ship)
unfolding since_turn
first_is s since ship =
    let found : Option Spot = backup_spot (λ (slot : Slot). same_name (guid_in slot) since) s.base.image in
    starts_either (FirstTurn s since ship) s 1 ship (ask_of (level_behind found) found) (when (is_none found) (NoGuid since)) (λ r. is_refused r refl) (λ may none. by found refl none may)
  where
    by : (found : Option Spot) → backup_spot (λ (slot : Slot). same_name (guid_in slot) since) s.base.image ≡ found → when (is_none found) (NoGuid since) ≡ None → MayStart s ship → FirstTurn s since ship (started s 1 ship (ask_of (level_behind found) found))
    by (Some row) is none may = is_started row is may refl
    by None is none may = absurd (true≢false (not_when true (NoGuid since) none))

-- it is started where no cause speaks against it
since_starts : (s : Seen) (since ship : List ℕ) (row : Spot) → backup_spot (λ (slot : Slot). same_name (guid_in slot) since) s.base.image ≡ Some row → start_cause s ship None ≡ None → since_turn s 1 since ship ≡ started s 1 ship (ask_of (level_behind (Some row)) (Some row))
unfolding since_turn starts unless
since_starts s since ship row found none =
    ap (λ (spot : Option Spot). unless s (start_cause s ship (when (is_none spot) (NoGuid since))) (started s 1 ship (ask_of (level_behind spot) spot))) found
    ∙ ap (λ (c : Cause). unless s c (started s 1 ship (ask_of (level_behind (Some row)) (Some row)))) none

-- lists that are the same begin with the same
first_same : (x y : Event) (xs ys : List Event) → x ∷ xs ≡ y ∷ ys → x ≡ y
first_same x y xs ys e = ap (λ (es : List Event). elim es as (λ z. Event) [ [] ↦ x | z ∷ zs ↦ z ]) e

begin_outcome : (now : Now) (since ship : List ℕ) → outcome 1 (Begins (BackupSince since ship)) now ≡ since_turn (seen_now now) 1 since ship
unfolding outcome turn first_turn
begin_outcome now since ship = refl

-- A backup that starts: its begin keeps one record, and takes one GUID.
module _ (b : Base) (header : HasHeader b.image) (sound : IsSoundImage b.image) (unbroken : broken_at (pages_of History b.image) ≡ None) (left : (room_in b.image).draft.full ≡ false) (guid : List ℕ) (ask : Ask) where
  abbrev ss : List Stroke
  ss = (room_in b.image).draft.strokes

  abbrev begins : Stroke
  begins = begin guid (Some ask)

  fits : Fits AnyPage b (room_in b.image).draft
  fits = room_fits b header sound unbroken AnyPage any_history (λ p is. tt) left

  pages : AllByRecursion IsPage ss
  pages = fitting_pages AnyPage ss b fits.each

  stays : Stays b (base_after b ss)
  stays = fitting_stays AnyPage ss b fits.each (header_whole b.image header sound)

  abbrev begun : Base
  begun = base_after b (ss ++ begins ∷ [])

  begun_is : begun ≡ on_base begins (base_after b ss)
  unfolding base_after
  begun_is = base_after-append b ss (begins ∷ [])

  abbrev its_record : Kept
  its_record = record { guid = guid; scn = image_scn b.image; ask = Some ask; image = begun.frozen }

  one_keeps : (c : Base) → records_after c (begins ∷ []) ≡ record { guid = guid; scn = image_scn c.image; ask = Some ask; image = (on_base begins c).frozen } ∷ []
  unfolding records_after records_of on_base
  one_keeps c = refl

  one_takes : guids_in (begins ∷ []) ≡ guid ∷ []
  unfolding guids_in
  one_takes = refl

  begun_keeps : records_after b (ss ++ begins ∷ []) ≡ its_record ∷ []
  begun_keeps =
      records_after-append b ss (begins ∷ []) ∙ ap (λ (rs : List Kept). rs ++ records_after (base_after b ss) (begins ∷ [])) (pages_keep ss b pages) ∙ one_keeps (base_after b ss)
      ∙ ap (λ (n : ℕ). record { guid = guid; scn = n; ask = Some ask; image = (on_base begins (base_after b ss)).frozen } ∷ []) stays.scn
      ∙ ap (λ (c : Base). record { guid = guid; scn = image_scn b.image; ask = Some ask; image = c.frozen } ∷ []) (sym begun_is)

  begun_takes : guids_in (ss ++ begins ∷ []) ≡ guid ∷ []
  begun_takes = guids_append ss (begins ∷ []) ∙ ap (λ (gs : List (List ℕ)). gs ++ guids_in (begins ∷ [])) (pages_take ss pages) ∙ one_takes

-- ---- all of it

-- The backup since that GUID was made: its record, which the file holds, goes on from the row of the history that was found.
pub record IsBackedUp (now : Now) (since ship : List ℕ) (played : Played) : Type 0 where
  pub row : Spot
  pub found : backup_spot (λ (slot : Slot). same_name (guid_in slot) since) (base_now now).image ≡ Some row
  pub may : MayStart (seen_now now) ship
  pub backup : Kept
  pub asks : backup.ask ≡ Some (ask_of (level_behind (Some row)) (Some row))
  pub named : backup.guid ≡ next_guid now.given
  pub did : Did (base_now now) played ((ship, file_of 102 backup) ∷ []) (backup ∷ []) (next_guid now.given ∷ []) (without_time (without_guid now.given))

-- or its first turn is a refusal
pub record IsDenied (events : List Event) : Type 0 where
  pub refusal : Refusal
  pub first : Event
  pub rest : List Event
  pub is : events ≡ first ∷ rest
  pub says : first.reply ≡ Some (Refused refusal)
  pub takes : guids_in (strokes_of events) ≡ []

module _ (now : Now) (since ship : List ℕ) (header : HasHeader (base_now now).image) (sound : IsSoundImage (base_now now).image) (is : get_or now.todo 0 [] ≡ Begins (BackupSince since ship) ∷ []) where
  abbrev first : Turn
  first = Begins (BackupSince since ship)

  abbrev did_o : Outcome
  did_o = outcome 1 first now

  module _ (n : ℕ) (done : get_or (play (replicate (suc n) 1) now).1.todo 0 [] ≡ []) where
    abbrev all : Played
    all = play (replicate (suc n) 1) now

    abbrev next : Now
    next = stands_then 1 [] did_o now

    -- the events are the first and those after it
    events_are : all.0 ≡ event_of 1 first did_o ∷ (play (replicate n 1) next).0
    unfolding play
    events_are = ap (λ (p : Played). p.0 ++ (play (replicate n 1) p.1).0) (taken now first [] is)

    denied : (r : Refusal) → did_o ≡ refused (seen_now now) r → IsDenied all.0
    denied r e =
        let none : get_or next.todo 0 [] ≡ [] = todo_then now first [] is ∙ append-nil did_o.next ∙ ap (λ (x : Outcome). x.next) e in
        let later : Did (base_now next) (play (replicate n 1) next) [] [] [] next.given = late_play n next (subst (AllByRecursion IsLate) (sym none) tt) in
        record {
          refusal = r;
          first = event_of 1 first did_o;
          rest = (play (replicate n 1) next).0;
          is = events_are;
          says = ap (λ (x : Outcome). x.reply) e;
          takes = ap (λ (es : List Event). guids_in (strokes_of es)) events_are ∙ ap guids_in (strokes_of-append (event_of 1 first did_o ∷ []) (play (replicate n 1) next).0)
              ∙ guids_append (strokes_of (event_of 1 first did_o ∷ [])) (strokes_of (play (replicate n 1) next).0)
              ∙ ap (λ (ss : List Stroke). guids_in ss ++ guids_in (strokes_of (play (replicate n 1) next).0)) (strokes_one (event_of 1 first did_o) ∙ ap (λ (x : Outcome). x.strokes) e)
              ∙ ap (λ (gs : List (List ℕ)). gs ++ guids_in (strokes_of (play (replicate n 1) next).0)) none_takes ∙ later.takes;
        }

    module _ (row : Spot) (found : backup_spot (λ (slot : Slot). same_name (guid_in slot) since) (base_now now).image ≡ Some row) (may : MayStart (seen_now now) ship)
        (e : did_o ≡ started (seen_now now) 1 ship (ask_of (level_behind (Some row)) (Some row))) where
      abbrev asked : Ask
      asked = ask_of (level_behind (Some row)) (Some row)

      abbrev b : Base
      b = base_now now

      abbrev backing : Backing
      backing = record { name = ship; ask = asked; scn = image_scn b.image; guid = next_guid now.given; page = (room_in b.image).page; slot = (room_in b.image).slot }

      abbrev start : List Stroke
      start = (room_in b.image).draft.strokes ++ begin (next_guid now.given) (Some asked) ∷ []

      base_next : base_now next ≡ base_after b start
      base_next = base_then now first [] is ∙ ap (λ (x : Outcome). base_after b x.strokes) e

      given_next : next.given ≡ without_guid now.given
      given_next = given_then now first [] is ∙ ap (λ (x : Outcome). x.given) e

      todo_next : get_or next.todo 0 [] ≡ replicate (length (room_in b.image).draft.image) Copies ++ ClosesBackup backing ∷ []
      todo_next = todo_then now first [] is ∙ append-nil did_o.next ∙ ap (λ (x : Outcome). x.next) e

      ends_next : get_or (play (replicate n 1) next).1.todo 0 [] ≡ []
      ends_next = ends_then n now next _ (taken now first [] is) done

      later : Did (base_now next) (play (replicate n 1) next) (its_file backing (base_now next).frozen) [] [] (without_time next.given)
      later = copy_play n (length (room_in b.image).draft.image) backing next todo_next ends_next

      abbrev its : Kept
      its = its_record b header sound may.unbroken may.left (next_guid now.given) asked

      backed_up : IsBackedUp now since ship all
      backed_up = record {
        row = row;
        found = found;
        may = may;
        backup = its;
        asks = refl;
        named = refl;
        did = did_as b all _ ((ship, file_of 102 its) ∷ []) _ (its ∷ []) _ (next_guid now.given ∷ []) (without_time next.given) (without_time (without_guid now.given))
            (ap (λ (x : Outcome). of_made x.made ++ its_file backing (base_now next).frozen) e ∙ ap (λ (c : Base). its_file backing c.frozen) base_next)
            (ap (λ (x : Outcome). records_after b x.strokes ++ []) e ∙ ap (λ (rs : List Kept). rs ++ []) (begun_keeps b header sound may.unbroken may.left (next_guid now.given) asked))
            (ap (λ (x : Outcome). guids_in x.strokes ++ []) e ∙ ap (λ (gs : List (List ℕ)). gs ++ []) (begun_takes b header sound may.unbroken may.left (next_guid now.given) asked))
            (ap without_time given_next)
            (did_first now first [] is n (its_file backing (base_now next).frozen) [] [] (without_time next.given) (ap (λ (x : Outcome). last_or_refusal x.reply) e) later);
      }

    backed : IsDenied all.0 ⊎ IsBackedUp now since ship all
    backed = by (subst (FirstTurn (seen_now now) since ship) (sym (begin_outcome now since ship)) (first_is (seen_now now) since ship))
      where
        by : FirstTurn (seen_now now) since ship did_o → IsDenied all.0 ⊎ IsBackedUp now since ship all
        by (is_refused r e) = inl (denied r e)
        by (is_started row found may e) = inr (backed_up row found may e)

  -- Where no cause speaks against it, it isn't refused.
  pub allowed_backup : (n : ℕ) → (row : Spot) → backup_spot (λ (slot : Slot). same_name (guid_in slot) since) (base_now now).image ≡ Some row → start_cause (seen_now now) ship None ≡ None → get_or (play (replicate n 1) now).1.todo 0 [] ≡ []
      → IsDenied (play (replicate n 1) now).0 → ⊥
  allowed_backup zero row found none done denied = let long = ap length (sym is ∙ sym (ap (λ (p : Played). get_or p.1.todo 0 []) (no_turns now)) ∙ done) in absurd (omega (arith, long))
  allowed_backup (suc n) row found none done denied =
      let same : event_of 1 first did_o ≡ denied.first = first_same (event_of 1 first did_o) denied.first (play (replicate n 1) (next n done)).0 denied.rest (sym (events_are n done) ∙ denied.is) in
      let silent : did_o.reply ≡ None = ap (λ (x : Outcome). x.reply) (begin_outcome now since ship ∙ since_starts (seen_now now) since ship row found none) in
      let says : None ≡ Some (Refused denied.refusal) = sym silent ∙ ap (λ (e : Event). e.reply) same ∙ denied.says in
      absurd (none_some (Refused denied.refusal) says)

  -- Once the session has nothing left to do, it was refused, or the backup was made.
  pub lone_backup : (n : ℕ) → get_or (play (replicate n 1) now).1.todo 0 [] ≡ [] → IsDenied (play (replicate n 1) now).0 ⊎ IsBackedUp now since ship (play (replicate n 1) now)
  lone_backup zero done = let long = ap length (sym is ∙ sym (ap (λ (p : Played). get_or p.1.todo 0 []) (no_turns now)) ∙ done) in absurd (omega (arith, long))
  lone_backup (suc n) done = backed n done

-- where all sessions have finished, so has the first
pub first_finished : (now : Now) → AreFinished now.todo → get_or now.todo 0 [] ≡ []
first_finished now done = by now.todo done
  where
    by : (todo : List (List Turn)) → AreFinished todo → get_or todo 0 [] ≡ []
    by [] h = refl
    by ([] ∷ rest) h = refl
    by ((t ∷ ts) ∷ rest) h = absurd h
