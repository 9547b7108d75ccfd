-- What holds between two turns holds after each turn.
use Rattle.std.proofs.Common.{◌≡◌, ◌≢◌, inl, inr, ◌⊎◌, ℕ, zero, suc, ◌+◌, ◌-◌, ◌<◌, ◌≤◌, List, [], ◌∷◌, ◌++◌, length, map, drop, replicate, get_or, set, refl, sym, ap, subst, ◌∙◌, arith, append_assoc, Bool, Option, Some, None, true, false, ◌==◌, ◌&&◌}
use Rattle.nb_model.proofs.Common.{AllByRecursion, slice_index_or, true≢false, eqb-true, eqb-false, leb-true, eqb_tells, leb_tells, get_or_past, get_or-set_same, get_or-set_other, is_header, scn_of, guid_of, normal_state, Refused, stalled_state, merge_state, is_name, Refusal, HasItsEntry, Reply, Statement, Base, Account, Ask, room_in, close_backup, close_copy, is_free_entry, runs_other, broken_at, not_of_form, short_for, History, pages_of, spots, free_spot, AreBeginnings, AreMerging, IsNamed, AreNamed, HasRoom, Runs, IsAt, waits, backs_up, copies, merges, IsGoing, IsMaking, Page, Image, first_page, image_size, image_state, image_scn, image_guid, trimmed, Turn, Begins, Copies, ClosesBackup, ClosesCopy, Ends, Merges, Finishes, Backing, Seen, Outcome, says, Given, next_guid, passes, ends_by, end_strokes, Now, Played, base_now, account_after, outcome, stands_then, take_turn, one_turn, play, event_of, begun, files_made, HasHeader, IsSoundImage, Stroke, begin, ends, finish, on_base, base_after, with_control, first_turn, turn, is_on_pages, some_same, nil_cons, none_some}
use Rattle.std.proofs.Math.ListN.{get_or-map}
use Rattle.nb_model.specs.Going.{ends as ending}
use Rattle.nb_model.proofs.ControlMay.{may_begin, may_end, may_finish}
use Rattle.nb_model.proofs.ControlSound.{MayControl, state_then, header_then}
use Rattle.nb_model.proofs.EntryStays.{entry_stays}
use Rattle.nb_model.proofs.OpeningLaws.{after_others}
use Rattle.nb_model.proofs.NoRows.{HasNoRows}
use Rattle.nb_model.proofs.PagesFit.{pages_fit}
use Rattle.nb_model.proofs.PagesOnly.{ArePages, StaysHeaded, drafts_write_pages, WritesPages, pages_stay, pages_only, close_pages}
use Rattle.nb_model.proofs.RoomLaws.{AnyPage, room_with}
use Rattle.nb_model.proofs.RoomThere.{IsThere, room_keeps, room_there_after, begun_there}
use Rattle.nb_model.proofs.RunLaws.{turn_stands}
use Rattle.nb_model.proofs.SoundTurns.{fitting_keeps, begin_keeps, ends_keep, finish_keeps, IsStarted, start_keeps, HasPlace, close_fits, seen_now}
use Rattle.nb_model.proofs.TurnCases.{MayBegin, MayEnd, MayStart, MayCopy, refused, started, copied, IsOnce, refused_once, left_by, left_guids, statement_cases, begin_either, end_either, activate_either, its_own, backup_either, since_either, copy_either, pages_once}
use Rattle.nb_model.proofs.TurnCases as cases
use Rattle.nb_model.proofs.StrokeLaws.{base_after-append}
use Rattle.nb_model.proofs.TrimLaws.{trimmed_front, finish_base}
use Rattle.nb_model.proofs.UnseenLaws.{free_unseen}

-- the GUIDs that may still be given have 16 bytes
abbrev AreSixteen : List (List ℕ) → Type 0
AreSixteen guids = AllByRecursion (λ (guid : List ℕ). length guid ≡ 16) guids

pub next_sixteen : (given : Given) → AreSixteen given.guids → length (next_guid given) ≡ 16
next_sixteen given all = by given.guids all
  where
    by : (guids : List (List ℕ)) → AreSixteen guids → length (slice_index_or guids 0 (replicate 16 0)) ≡ 16
    by [] h = refl
    by (g ∷ gs) h = h.0

rest_sixteen : (guids : List (List ℕ)) → AreSixteen guids → AreSixteen (drop 1 guids)
rest_sixteen [] h = h
rest_sixteen (g ∷ gs) h = h.1

-- one session at most runs
pub one_runs : (now : Now) (place other m n : ℕ) → Runs now place m → Runs now other n → place ≡ other
one_runs now place other m n a b = sym a.its ∙ ap (λ (x : ℕ). x - 1) (some_same a.by b.by (sym a.running ∙ b.running)) ∙ b.its

-- the name of the database isn't free
pub own_in_use : {sound : Bool} (now : Now) → IsGoing sound now → is_free_entry (now.account.entry now.name) ≡ true → ⊥
own_in_use now going free = free_unseen (now.account.entry now.name) free going.header.header going.state

-- What stands after an outcome.
module _ (session : ℕ) (rest : List Turn) (o : Outcome) (now : Now) where
  abbrev pub then : Now
  then = stands_then session rest o now

  pub then_base : base_now then ≡ base_after (base_now now) o.strokes
  then_base = turn_stands session rest o now

  pub then_running : then.running ≡ o.running
  unfolding stands_then
  then_running = refl

  then_given : then.given ≡ o.given
  unfolding stands_then
  then_given = refl

  pub then_todo : then.todo ≡ set now.todo (session - 1) (o.next ++ rest)
  unfolding stands_then
  then_todo = refl

  then_account : then.account ≡ account_after now.name o.strokes o.made now.account
  unfolding stands_then
  then_account = refl

  -- a name that is free stays so, where no file is made
  free_then : {sound : Bool} → IsGoing sound now → o.made ≡ None → (name : List ℕ) → is_free_entry (now.account.entry name) ≡ true → is_free_entry (then.account.entry name) ≡ true
  free_then going none name free =
      ap (λ (a : Account). is_free_entry (a.entry name)) (then_account ∙ ap (λ (made : Option (List ℕ × List ℕ)). account_after now.name o.strokes made now.account) none)
      ∙ ap is_free_entry (after_others now.name o.strokes now.account name (λ same. own_in_use now going (subst (λ (n : List ℕ). is_free_entry (now.account.entry n) ≡ true) same free))) ∙ free

  runs_then : (place by number : ℕ) → o.running ≡ Some by → by - 1 ≡ place → image_state (base_after (base_now now) o.strokes).image ≡ number → Runs then place number
  runs_then place by number running its state = record { by = by; running = then_running ∙ running; its = its; state = ap (λ (b : Base). image_state b.image) then_base ∙ state }

  room_then : {sound : Bool} (p slot : ℕ) → HasRoom sound (base_after (base_now now) o.strokes).image p slot → HasRoom sound (base_now then).image p slot
  room_then {sound = sound} p slot room = subst (λ (b : Base). HasRoom sound b.image p slot) (sym then_base) room

-- A place for a row stays one, where the image keeps its page size, gets no shorter, and keeps the entry.
room_kept : {sound : Bool} (old new : Image) (p slot : ℕ) → image_size new ≡ image_size old → length old ≤ length new → (HasItsEntry old p → HasItsEntry new p) → HasRoom sound old p slot → HasRoom sound new p slot
room_kept old new p slot size longer entry room = record {
  below = let below = room.below in omega (arith, below, longer);
  entry = entry room.entry;
  plain = λ is. (room_with old new p slot size longer (record { below = room.below; plain = room.plain is })).plain;
}

-- What a turn leaves of a copy or a merge of another session: all that it rests on.
pub record OthersStay (sound : Bool) (now : Now) (o : Outcome) : Type 0 where
  pub running : o.running ≡ now.running
  pub state : image_state (base_after (base_now now) o.strokes).image ≡ image_state (base_now now).image
  pub frozen : (base_after (base_now now) o.strokes).frozen ≡ (base_now now).frozen
  pub made : o.made ≡ None
  pub rooms : (p slot : ℕ) → HasRoom sound (base_now now).image p slot → HasRoom sound (base_after (base_now now) o.strokes).image p slot

-- what is frozen stays so in the stalled state, or is the image as it becomes
abbrev pub IsFrozenThen : Base → Base → Type 0
IsFrozenThen old new = ((image_state old.image ≡ stalled_state) × (new.frozen ≡ old.frozen)) ⊎ (new.frozen ≡ new.image)

-- What a turn does where it comes.
pub record IsStep (sound : Bool) (now : Now) (session : ℕ) (o : Outcome) (rest : List Turn) : Type 0 where
  pub header : HasHeader (base_after (base_now now) o.strokes).image
  pub sure : sound ≡ true → IsSoundImage (base_after (base_now now) o.strokes).image
  pub state : image_state (base_after (base_now now) o.strokes).image ≤ 2
  pub frozen : image_state (base_after (base_now now) o.strokes).image ≡ 1 → IsFrozenThen (base_now now) (base_after (base_now now) o.strokes)
  pub sixteen : AreSixteen o.given.guids
  pub own : IsAt sound (stands_then session rest o now) (session - 1) (o.next ++ rest)
  pub others : (other number : ℕ) → other ≢ session - 1 → 1 ≤ number → Runs now other number → OthersStay sound now o

pub merge_turns : (n : ℕ) (reply : Reply) (rest : List Turn) → AreBeginnings rest → AreMerging ((replicate n Merges ++ Finishes reply ∷ []) ++ rest)
merge_turns zero reply rest all = all
merge_turns (suc n) reply rest all = merge_turns n reply rest all

begun_frozen : (b : Base) (guid : List ℕ) (ask : Option Ask) → (base_after b (begin guid ask ∷ [])).frozen ≡ (base_after b (begin guid ask ∷ [])).image
unfolding base_after on_base
begun_frozen b guid ask = refl

pub no_more : (b : Base) → base_after b [] ≡ b
unfolding base_after
no_more b = refl

-- Page 0 gets another state, SCN and GUID.
record IsControlled (state : ℕ) (new : Base) : Type 0 where
  header : HasHeader new.image
  is : image_state new.image ≡ state

controlled_by : (state scn : ℕ) (guid : List ℕ) (image : Image) (new : Base) → HasHeader image → MayControl state scn guid image → new.image ≡ with_control state scn guid image → IsControlled state new
controlled_by state scn guid image new header may is = record {
  header = subst HasHeader (sym is) (header_then state scn guid image header may);
  is = ap image_state is ∙ state_then state scn guid image header may;
}

begin_controls : (b : Base) (guid : List ℕ) (ask : Option Ask) → HasHeader b.image → image_scn b.image ≤ 4294967293 → length guid ≡ 16 → IsControlled 1 (base_after b (begin guid ask ∷ []))
unfolding base_after on_base
begin_controls b guid ask header scn sixteen = controlled_by stalled_state (image_scn b.image + 1) guid b.image _ header (may_begin b.image header guid sixteen scn) refl

ends_control : (b : Base) → HasHeader b.image → image_state b.image ≡ stalled_state → IsControlled 2 (base_after b (ends ∷ []))
unfolding base_after on_base
ends_control b header stalled = controlled_by merge_state (image_scn b.image + 1) (image_guid b.image) b.image _ header (may_end b.image header stalled) refl

-- a merge ends, which drops pages of zeros at the end
finish_controls : (b : Base) → HasHeader b.image → IsControlled 0 (base_after b (finish ∷ []))
unfolding base_after
finish_controls b header =
    let first : first_page (trimmed b.image) ≡ first_page b.image = trimmed_front b.image header.header in
    let still : HasHeader (trimmed b.image) = record { header = ap is_header first ∙ header.header; scn = subst (λ (n : ℕ). n < 4294967296) (sym (ap scn_of first)) header.scn } in
    controlled_by normal_state (image_scn (trimmed b.image)) (image_guid (trimmed b.image)) (trimmed b.image) (on_base finish b) still (may_finish (trimmed b.image) still)
    (ap (λ (c : Base). c.image) (finish_base b) ∙ ap (λ (page : Page). with_control normal_state (scn_of page) (guid_of page) (trimmed b.image)) (sym first))

-- A backup begins after the strokes that make room for its row.
record IsBegunAfter (new : Base) (page : ℕ) : Type 0 where
  header : HasHeader new.image
  state : image_state new.image ≡ stalled_state
  frozen : new.frozen ≡ new.image
  there : IsThere new.image page

begun_one : (b : Base) (guid : List ℕ) (ask : Option Ask) (p : ℕ) → IsThere (on_base (begin guid ask) b).image p → IsThere (base_after b (begin guid ask ∷ [])).image p
unfolding base_after
begun_one b guid ask p there = there

begun_after : (b : Base) (guid : List ℕ) (ask : Ask) → HasHeader b.image → broken_at (pages_of History b.image) ≡ None → short_for (free_spot (spots History b.image)) b.image ≡ None → not_of_form (room_in b.image).draft ≡ None
    → (room_in b.image).draft.full ≡ false → image_scn b.image ≤ 4294967293 → length guid ≡ 16 → IsBegunAfter (base_after b ((room_in b.image).draft.strokes ++ begin guid (Some ask) ∷ [])) (room_in b.image).page
begun_after b guid ask header unbroken short formed left scn sixteen =
    let ss : List Stroke = (room_in b.image).draft.strokes in
    let mid : Base = base_after b ss in
    let headed : StaysHeaded b mid = pages_stay ss b (room_keeps WritesPages drafts_write_pages b.image tt) header in
    let low : image_scn mid.image ≤ 4294967293 = omega (arith, headed.stays.scn, scn) in
    let new : IsControlled 1 (base_after mid (begin guid (Some ask) ∷ [])) = begin_controls mid guid (Some ask) headed.header low sixteen in
    subst (λ (x : Base). IsBegunAfter x (room_in b.image).page) (sym (base_after-append b ss (begin guid (Some ask) ∷ []))) (record {
      header = new.header;
      state = new.is;
      frozen = begun_frozen mid guid (Some ask);
      there = begun_one mid guid (Some ask) (room_in b.image).page
          (begun_there mid guid (Some ask) (room_in b.image).page headed.header sixteen low (room_there_after b header unbroken short formed left));
    })

module _ {sound : Bool} (session : ℕ) (now : Now) (going : IsGoing sound now) where
  abbrev s : Seen
  s = seen_now now

  abbrev b : Base
  b = base_now now

  sure_none : sound ≡ true → IsSoundImage (base_after b []).image
  sure_none is = subst (λ (x : Base). IsSoundImage x.image) (sym (no_more b)) (going.sure is)

  entries_none : (p : ℕ) → HasItsEntry b.image p → HasItsEntry (base_after b []).image p
  entries_none p = subst (λ (x : Base). HasItsEntry x.image p) (sym (no_more b))

  -- It writes pages alone.
  module _ (rest : List Turn) (o : Outcome) (pages : ArePages o.strokes) (sure : sound ≡ true → IsSoundImage (base_after b o.strokes).image) where
    headed : StaysHeaded b (base_after b o.strokes)
    headed = pages_stay o.strokes b pages going.header

    pages_step : o.given.guids ≡ s.given.guids → IsAt sound (stands_then session rest o now) (session - 1) (o.next ++ rest)
        → ((other number : ℕ) → other ≢ session - 1 → Runs now other number → (o.running ≡ s.running) × (o.made ≡ None) × ((p : ℕ) → HasItsEntry b.image p → HasItsEntry (base_after b o.strokes).image p)) → IsStep sound now session o rest
    pages_step given own others = record {
      header = headed.header;
      sure = sure;
      state = omega (arith, headed.stays.state, going.state);
      frozen = λ stalled. inl (sym headed.stays.state ∙ stalled, headed.stays.frozen);
      sixteen = subst AreSixteen (sym given) going.sixteen;
      own = own;
      others = λ other number off some runs. let all = others other number off runs in record {
        running = all.0;
        state = headed.stays.state;
        frozen = headed.stays.frozen;
        made = all.1;
        rooms = λ p slot. room_kept b.image (base_after b o.strokes).image p slot headed.stays.size headed.stays.longer (all.2 p);
      };
    }

    once_step : (left : Given) → left.guids ≡ s.given.guids → IsOnce s left o → AreBeginnings rest → ((p : ℕ) → HasItsEntry b.image p → HasItsEntry (base_after b o.strokes).image p) → IsStep sound now session o rest
    once_step left same once all entries = pages_step (ap (λ (g : Given). g.guids) once.given ∙ same)
        (waits (subst (λ (ts : List Turn). AreBeginnings (ts ++ rest)) (sym once.next) all)) (λ other number off runs. (once.running, once.made, entries))

  -- It only says something, as a refusal.
  said_step : (rest : List Turn) → AreBeginnings rest → (reply : Reply) → IsStep sound now session (says s reply []) rest
  said_step rest all reply = once_step rest (says s reply []) tt sure_none s.given refl (record { next = refl; running = refl; made = refl; given = refl }) all entries_none

  refused_step : (rest : List Turn) → AreBeginnings rest → (r : Refusal) → IsStep sound now session (refused s r) rest
  refused_step rest all r = said_step rest all (Refused r)

  statement_step : (rest : List Turn) (statement : Statement) → is_on_pages statement ≡ true → IsNamed (Begins statement) → AreBeginnings rest → IsStep sound now session (first_turn s session statement) rest
  statement_step rest statement on named all =
      once_step rest (first_turn s session statement) (pages_only statement on s session)
      (λ is. (fitting_keeps HasNoRows (first_turn s session statement).strokes b (pages_fit statement on named s session going.header (going.sure is)) going.header (going.sure is)).sound)
      (left_by statement s.given) (left_guids statement s.given) (pages_once statement on s session) all (entry_stays s session statement on going.header)

  -- no copy and no merge is under way in the normal state
  none_runs : image_state b.image ≡ normal_state → (other number : ℕ) → 1 ≤ number → Runs now other number → ⊥
  none_runs normal other number some runs = omega (arith, normal, some, runs.state)

  begun_step : (rest : List Turn) → AreBeginnings rest → MayBegin b.image → IsStep sound now session (cases.begun s) rest
  begun_step rest all may =
      let sixteen = next_sixteen s.given going.sixteen in
      let new : IsControlled 1 (base_after b (begin (next_guid s.given) None ∷ [])) = begin_controls b (next_guid s.given) None going.header may.scn sixteen in
      record {
        header = new.header;
        sure = λ is. (begin_keeps b (next_guid s.given) None going.header (going.sure is) may.scn sixteen).0.sound;
        state = omega (arith, new.is);
        frozen = λ stalled. inr (begun_frozen b (next_guid s.given) None);
        sixteen = rest_sixteen s.given.guids going.sixteen;
        own = waits all;
        others = λ other number off some runs. absurd (none_runs may.normal other number some runs);
      }

  -- the merge begins
  ended_step : (rest : List Turn) → AreBeginnings rest → (reply : Reply) → image_state b.image ≢ normal_state → ((other number : ℕ) → other ≢ session - 1 → Runs now other number → ⊥) → IsStep sound now session (ends_by s session reply) rest
  unfolding ends_by end_strokes
  ended_step rest all reply some alone = by (image_state b.image == stalled_state) refl
    where
      ended : List Stroke → Outcome
      ended ss = record { strokes = ss; reply = None; next = replicate (length b.diverted) Merges ++ Finishes reply ∷ []; running = Some session; made = None; given = s.given }

      with_strokes : (ss : List Stroke) → HasHeader (base_after b ss).image → (sound ≡ true → IsSoundImage (base_after b ss).image) → image_state (base_after b ss).image ≡ 2 → IsStep sound now session (ended ss) rest
      with_strokes ss header sure state = record {
        header = header;
        sure = sure;
        state = omega (arith, state);
        frozen = λ stalled. absurd (omega (arith, state, stalled));
        sixteen = going.sixteen;
        own = merges (merge_turns (length b.diverted) reply rest all) (runs_then session rest (ended ss) now (session - 1) session 2 refl refl state);
        others = λ other number off some runs. absurd (alone other number off runs);
      }

      by : (test : Bool) → (image_state b.image == stalled_state) ≡ test → IsStep sound now session (ended (elim test as (λ z. List Stroke) [ true ↦ ends ∷ [] | false ↦ [] ])) rest
      by true is =
          let stalled : image_state b.image ≡ stalled_state = eqb-true (image_state b.image) 1 is in
          let new : IsControlled 2 (base_after b (ends ∷ [])) = ends_control b going.header stalled in
          with_strokes (ends ∷ []) new.header (λ sure. (ends_keep b going.header (going.sure sure) stalled).0.sound) new.is
      by false is =
          let two : image_state b.image ≡ merge_state = omega (arith, some, going.state, eqb-false (image_state b.image) 1 is) in
          with_strokes [] (subst (λ (x : Base). HasHeader x.image) (sym (no_more b)) going.header) sure_none (ap (λ (x : Base). image_state x.image) (no_more b) ∙ two)

  -- the backup begins
  started_step : (rest : List Turn) → AreBeginnings rest → (name : List ℕ) (ask : Ask) → MayStart s name → IsStep sound now session (started s session name ask) rest
  started_step rest all name ask may =
      let o : Outcome = started s session name ask in
      let sixteen = next_sixteen s.given going.sixteen in
      let surely : sound ≡ true → IsStarted b (base_after b o.strokes) (room_in b.image).page (room_in b.image).slot = λ is. start_keeps s session name ask going.header (going.sure is) may sixteen in
      let new : IsBegunAfter (base_after b o.strokes) (room_in b.image).page = begun_after b (next_guid s.given) ask going.header may.unbroken may.short may.formed may.left may.may.scn sixteen in
      record {
        header = new.header;
        sure = λ is. (surely is).keeps.sound;
        state = omega (arith, new.state);
        frozen = λ stalled. inr new.frozen;
        sixteen = rest_sixteen s.given.guids going.sixteen;
        own = backs_up (length (room_in b.image).draft.image) _ rest (append_assoc (replicate (length (room_in b.image).draft.image) Copies) _ rest) all
            (runs_then session rest o now (session - 1) session 1 refl refl new.state)
            (room_then session rest o now (room_in b.image).page (room_in b.image).slot (record { below = new.there.below; entry = new.there.entry; plain = λ is. (surely is).room.plain }))
            (free_then session rest o now going refl name may.free);
        others = λ other number off some runs. absurd (none_runs may.may.normal other number some runs);
      }

  -- the copy begins
  copied_step : (rest : List Turn) → AreBeginnings rest → (name : List ℕ) → MayCopy s name → IsStep sound now session (copied s session name) rest
  copied_step rest all name may = pages_step rest (copied s session name) tt sure_none refl
      (copies (length b.frozen) name rest (append_assoc (replicate (length b.frozen) Copies) (ClosesCopy name ∷ []) rest) all
      (runs_then session rest (copied s session name) now (session - 1) session 1 refl refl (ap (λ (x : Base). image_state x.image) (no_more b) ∙ may.stalled))
      (free_then session rest (copied s session name) now going refl name may.free))
      (λ other number off runs. absurd (none_some runs.by (sym may.alone ∙ runs.running)))

  pub first_step : (rest : List Turn) → AreBeginnings rest → (statement : Statement) → IsNamed (Begins statement) → IsStep sound now session (first_turn s session statement) rest
  unfolding first_turn
  first_step rest all = statement_cases (λ x. IsNamed (Begins x) → IsStep sound now session (first_turn s session x) rest)
      (λ x on named. statement_step rest x on named all)
      (λ named. begin_either Step s (refused_step rest all) (begun_step rest all))
      (λ named. end_either Step s session (refused_step rest all) (λ may. ended_step rest all _ may.other (alone may)))
      (λ named. activate_either Step s session (refused_step rest all) (said_step rest all _) (λ may. ended_step rest all _ may.other (alone may)))
      (λ level name named. backup_either Step s session level name (refused_step rest all) (λ ask is. started_step rest all name ask))
      (λ guid name named. since_either Step s session guid name (refused_step rest all) (λ ask is. started_step rest all name ask))
      (λ name named. copy_either Step s session name (refused_step rest all) (copied_step rest all name))
    where
      Step : Outcome → Type 0
      Step o = IsStep sound now session o rest

      alone : MayEnd s session → (other number : ℕ) → other ≢ session - 1 → Runs now other number → ⊥
      alone may other number off runs = off (sym runs.its ∙ ap (λ (x : ℕ). x - 1) (its_own runs.by session (sym (ap (λ (r : Option ℕ). runs_other r session) runs.running) ∙ may.alone)))

  given_is : (backing : Backing) → (close_backup s backing).given.guids ≡ s.given.guids
  unfolding close_backup
  given_is backing = refl

  running_is : (backing : Backing) → (close_backup s backing).running ≡ s.running
  unfolding close_backup
  running_is backing = refl

  closing : (backing : Backing) (rest : List Turn) → AreBeginnings rest → Runs (stands_then session rest (close_backup s backing) now) (session - 1) 1
      → IsAt sound (stands_then session rest (close_backup s backing) now) (session - 1) ((close_backup s backing).next ++ rest)
  unfolding close_backup
  closing backing rest all runs = ending _ rest refl all runs

  -- The session itself runs.
  module _ (number : ℕ) (runs : Runs now (session - 1) number) where
    only_one : (other m : ℕ) → other ≢ session - 1 → Runs now other m → ⊥
    only_one other m off its = off (one_runs now other (session - 1) m number its runs)

    -- a page is copied, or an entry merged
    still_runs : (rest : List Turn) → Runs (stands_then session rest (passes s) now) (session - 1) number
    still_runs rest = runs_then session rest (passes s) now (session - 1) runs.by number runs.running runs.its (ap (λ (x : Base). image_state x.image) (no_more b) ∙ runs.state)

    passed_step : (rest : List Turn) → IsAt sound (stands_then session rest (passes s) now) (session - 1) rest → IsStep sound now session (passes s) rest
    passed_step rest own = pages_step rest (passes s) tt sure_none refl own (λ other m off its. (refl, refl, entries_none))

    -- the level file is whole, and its row is written
    closed_step : (backing : Backing) (rest : List Turn) → number ≡ 1 → AreBeginnings rest → (sound ≡ true → HasPlace b.image backing) → IsStep sound now session (close_backup s backing) rest
    closed_step backing rest one all place = pages_step rest (close_backup s backing) (close_pages s backing)
        (λ is. (fitting_keeps AnyPage (close_backup s backing).strokes b (close_fits s backing going.header (going.sure is) (place is)) going.header (going.sure is)).sound)
        (given_is backing) own (λ other m off its. absurd (only_one other m off its))
      where
        own : IsAt sound (stands_then session rest (close_backup s backing) now) (session - 1) ((close_backup s backing).next ++ rest)
        own = closing backing rest all (runs_then session rest (close_backup s backing) now (session - 1) runs.by 1 (running_is backing ∙ runs.running) runs.its
            ((pages_stay (close_backup s backing).strokes b (close_pages s backing) going.header).stays.state ∙ runs.state ∙ one))

    finished_step : (reply : Reply) (rest : List Turn) → AreBeginnings rest → IsStep sound now session (outcome session (Finishes reply) now) rest
    unfolding outcome turn
    finished_step reply rest all =
        let new : IsControlled 0 (base_after b (finish ∷ [])) = finish_controls b going.header in
        record {
          header = new.header;
          sure = λ is. (finish_keeps b going.header (going.sure is)).0.sound;
          state = omega (arith, new.is);
          frozen = λ stalled. absurd (omega (arith, new.is, stalled));
          sixteen = going.sixteen;
          own = waits all;
          others = λ other m off some its. absurd (only_one other m off its);
        }

-- a name has 100 bytes at most
pub name_short : (name : List ℕ) → is_name name ≡ true → length name ≤ 100
name_short name is = leb-true (length name) 100 (second _ _ _ is)
  where
    second : (a b c : Bool) → (a && b && c) ≡ true → b ≡ true
    second true true c k = refl
    second true false c k = absurd (true≢false (sym k))
    second false b c k = absurd (true≢false (sym k))

-- The turn that a session has next.
module _ {sound : Bool} (session : ℕ) (now : Now) (going : IsGoing sound now) where
  abbrev Steps : Turn → List Turn → Type 0
  Steps u rest = IsStep sound now session (outcome session u now) rest

  step_as : (u v : Turn) (rest tail : List Turn) → u ∷ rest ≡ v ∷ tail → Steps v tail → Steps u rest
  step_as u v rest tail e step =
      let head : v ≡ u = cc in
      let behind : tail ≡ rest = cc in
      subst (λ (x : Turn). Steps x rest) head (subst (Steps v) behind step)

  beginning_step : (u : Turn) (rest : List Turn) → AreBeginnings (u ∷ rest) → AllByRecursion IsNamed (u ∷ rest) → Steps u rest
  unfolding outcome turn
  beginning_step (Begins statement) rest all named = first_step session now going rest all.1 statement named.0
  beginning_step other rest all named = absurd all.0

  copying_step : (rest : List Turn) → Runs now (session - 1) 1 → IsAt sound (stands_then session rest (passes (seen_now now)) now) (session - 1) rest → Steps Copies rest
  unfolding outcome turn
  copying_step rest runs own = passed_step session now going 1 runs rest own

  backup_step : (left : ℕ) (backing : Backing) (u : Turn) (rest tail : List Turn) → u ∷ rest ≡ replicate left Copies ++ ClosesBackup backing ∷ tail → AllByRecursion IsNamed (u ∷ rest) → AreBeginnings tail
      → Runs now (session - 1) 1 → HasRoom sound (base_now now).image backing.page backing.slot → is_free_entry (now.account.entry backing.name) ≡ true → Steps u rest
  unfolding outcome turn
  backup_step zero backing u rest tail e named all runs room free =
      let is : IsNamed (ClosesBackup backing) = (subst (AllByRecursion IsNamed) e named).0 in
      step_as u (ClosesBackup backing) rest tail e
      (closed_step session now going 1 runs backing tail refl all
      (λ sure. record { room = record { below = room.below; plain = room.plain sure }; sixteen = is.1; short = let short = name_short backing.name is.0 in omega (arith, short) }))
  backup_step (suc left) backing u rest tail e named all runs room free =
      let behind : List Turn = replicate left Copies ++ ClosesBackup backing ∷ tail in
      step_as u Copies rest behind e (copying_step behind runs
      (backs_up left backing tail refl all (still_runs session now going 1 runs behind)
      (room_then session behind (passes (seen_now now)) now backing.page backing.slot (subst (λ (x : Base). HasRoom sound x.image backing.page backing.slot) (sym (no_more (base_now now))) room))
      (free_then session behind (passes (seen_now now)) now going refl backing.name free)))

  copy_step : (left : ℕ) (name : List ℕ) (u : Turn) (rest tail : List Turn) → u ∷ rest ≡ replicate left Copies ++ ClosesCopy name ∷ tail → AreBeginnings tail
      → Runs now (session - 1) 1 → is_free_entry (now.account.entry name) ≡ true → Steps u rest
  unfolding outcome turn close_copy
  copy_step zero name u rest tail e all runs free =
      step_as u (ClosesCopy name) rest tail e
      (pages_step session now going tail (close_copy (seen_now now) name) tt (sure_none session now going) refl (waits all) (λ other m off its. absurd (only_one session now going 1 runs other m off its)))
  copy_step (suc left) name u rest tail e all runs free =
      let behind : List Turn = replicate left Copies ++ ClosesCopy name ∷ tail in
      step_as u Copies rest behind e
      (copying_step behind runs (copies left name tail refl all (still_runs session now going 1 runs behind) (free_then session behind (passes (seen_now now)) now going refl name free)))

  merging_step : (u : Turn) (rest : List Turn) → AreMerging (u ∷ rest) → Runs now (session - 1) 2 → Steps u rest
  unfolding outcome turn
  merging_step Merges rest turns runs = passed_step session now going 2 runs rest (merges turns (still_runs session now going 2 runs rest))
  merging_step (Finishes reply) rest turns runs = finished_step session now going 2 runs reply rest turns
  merging_step other rest turns runs = absurd turns

  pub turn_step : (u : Turn) (rest : List Turn) → IsAt sound now (session - 1) (u ∷ rest) → AllByRecursion IsNamed (u ∷ rest) → Steps u rest
  unfolding outcome turn
  turn_step u rest (waits all) named = beginning_step u rest all named
  turn_step u rest (backs_up left backing tail e all runs room free) named = backup_step left backing u rest tail e named all runs room free
  turn_step u rest (copies left name tail e all runs free) named = copy_step left name u rest tail e all runs free
  turn_step u rest (ending reply tail e all runs) named =
      step_as u (Ends reply) rest tail e (ended_step session now going tail all reply (λ e. absurd (omega (arith, e, runs.state))) (only_one session now going 1 runs))
  turn_step u rest (merges turns runs) named = merging_step u rest turns runs

-- What stands after it: what its session has still to do, and the others.
module _ (session : ℕ) (now : Now) (u : Turn) (rest : List Turn) (is : get_or now.todo (session - 1) [] ≡ u ∷ rest) (o : Outcome) where
  inside : session - 1 < length now.todo
  inside = elim (leb_tells (length now.todo) (session - 1)) [
    | inl low ↦ absurd (nil_cons u rest (sym (get_or_past now.todo (session - 1) [] low.1) ∙ is))
    | inr low ↦ omega (arith, low.1)
  ]

  pub own_todo : get_or (stands_then session rest o now).todo (session - 1) [] ≡ o.next ++ rest
  own_todo = ap (λ (todo : List (List Turn)). get_or todo (session - 1) []) (then_todo session rest o now) ∙ get_or-set_same now.todo (session - 1) (o.next ++ rest) [] inside

  pub other_todo : (place : ℕ) → place ≢ session - 1 → get_or (stands_then session rest o now).todo place [] ≡ get_or now.todo place []
  other_todo place off = ap (λ (todo : List (List Turn)). get_or todo place []) (then_todo session rest o now) ∙ get_or-set_other now.todo (session - 1) place (o.next ++ rest) [] off

module _ {sound : Bool} (session : ℕ) (now : Now) (going : IsGoing sound now) (u : Turn) (rest : List Turn) (is : get_or now.todo (session - 1) [] ≡ u ∷ rest) (o : Outcome) (step : IsStep sound now session o rest) where
  abbrev last : Now
  last = stands_then session rest o now

  module _ (place : ℕ) (off : place ≢ session - 1) where
    stays_running : (number : ℕ) → 1 ≤ number → Runs now place number → Runs last place number
    stays_running number some runs =
        let stay : OthersStay sound now o = step.others place number off some runs in
        runs_then session rest o now place runs.by number (stay.running ∙ runs.running) runs.its (stay.state ∙ runs.state)

    at_stays : (ts : List Turn) → IsAt sound now place ts → IsAt sound last place ts
    at_stays ts (waits all) = waits all
    at_stays ts (backs_up left backing tail e all runs room free) =
        backs_up left backing tail e all (stays_running 1 (omega arith) runs)
        (room_then session rest o now backing.page backing.slot ((step.others place 1 off (omega arith) runs).rooms backing.page backing.slot room))
        (free_then session rest o now going (step.others place 1 off (omega arith) runs).made backing.name free)
    at_stays ts (copies left name tail e all runs free) =
        copies left name tail e all (stays_running 1 (omega arith) runs) (free_then session rest o now going (step.others place 1 off (omega arith) runs).made name free)
    at_stays ts (ending reply tail e all runs) = ending reply tail e all (stays_running 1 (omega arith) runs)
    at_stays ts (merges turns runs) = merges turns (stays_running 2 (omega arith) runs)

  frozen_keeps : (P : Image → Type 0) → IsFrozenThen (base_now now) (base_after (base_now now) o.strokes) → (image_state (base_now now).image ≡ 1 → P (base_now now).frozen) → P (base_after (base_now now) o.strokes).image
      → P (base_after (base_now now) o.strokes).frozen
  frozen_keeps P (inl same) before new = subst P (sym same.1) (before same.0)
  frozen_keeps P (inr now_it) before new = subst P (sym now_it) new

  stalled_then : (image_state (base_now now).image ≡ 1 → image_state (base_now now).frozen ≡ 1) → image_state (base_now last).image ≡ 1 → image_state (base_now last).frozen ≡ 1
  stalled_then before = subst (λ (x : Base). image_state x.image ≡ stalled_state → image_state x.frozen ≡ stalled_state) (sym (then_base session rest o now))
      (λ stalled. frozen_keeps (λ image. image_state image ≡ stalled_state) (step.frozen stalled) before stalled)

  pub going_then : IsGoing sound last
  going_then = record {
    header = subst (λ (x : Base). HasHeader x.image) (sym base) step.header;
    sure = λ is. subst (λ (x : Base). IsSoundImage x.image) (sym base) (step.sure is);
    state = subst (λ (x : Base). image_state x.image ≤ 2) (sym base) step.state;
    frozen = subst (λ (x : Base). image_state x.image ≡ stalled_state → is_header (first_page x.frozen) ≡ true) (sym base)
        (λ stalled. frozen_keeps (λ image. is_header (first_page image) ≡ true) (step.frozen stalled) going.frozen step.header.header);
    each = λ place. elim (eqb_tells place (session - 1)) [
      | inl w ↦ subst (λ (p : ℕ). IsAt sound last p (get_or last.todo p [])) (sym w.1) (subst (IsAt sound last (session - 1)) (sym (own_todo session now u rest is o)) step.own)
      | inr w ↦ subst (IsAt sound last place) (sym (other_todo session now u rest is o place w.1)) (at_stays place w.1 (get_or now.todo place []) (going.each place))
    ];
    sixteen = subst (λ (g : Given). AreSixteen g.guids) (sym (then_given session rest o now)) step.sixteen;
  }
    where
      base : base_now last ≡ base_after (base_now now) o.strokes
      base = then_base session rest o now

-- One number of an order: the session has finished, or takes its next turn.
pub one_cases : (P : Played → Type 0) (session : ℕ) (now : Now) → P ([], now)
    → ((u : Turn) (rest : List Turn) → get_or now.todo (session - 1) [] ≡ u ∷ rest → P (event_of session u (outcome session u now) ∷ [], stands_then session rest (outcome session u now) now)) → P (one_turn session now)
unfolding one_turn take_turn
one_cases P session now idle takes = by (get_or now.todo (session - 1) []) refl
  where
    by : (ts : List Turn) → get_or now.todo (session - 1) [] ≡ ts → P (take_turn session ts now)
    by [] is = idle
    by (u ∷ rest) is = takes u rest is

module _ {sound : Bool} (session : ℕ) (now : Now) (named : AreNamed now) (going : IsGoing sound now) where
  pub next_step : (u : Turn) (rest : List Turn) → get_or now.todo (session - 1) [] ≡ u ∷ rest → IsStep sound now session (outcome session u now) rest
  next_step u rest is = turn_step session now going u rest (subst (IsAt sound now (session - 1)) is (going.each (session - 1))) (subst (AllByRecursion IsNamed) is (named (session - 1)))

  -- So it goes on.
  pub going_turn : IsGoing sound (one_turn session now).1
  going_turn = one_cases (λ p. IsGoing sound p.1) session now going (λ u rest is. going_then session now going u rest is (outcome session u now) (next_step u rest is))

many : (P : Turn → Type 0) (n : ℕ) (t : Turn) (ts : List Turn) → P t → AllByRecursion P ts → AllByRecursion P (replicate n t ++ ts)
many P zero t ts h all = all
many P (suc n) t ts h all = (h, many P n t ts h all)

-- The files that are still to be made have names.
module _ (session : ℕ) (s : Seen) (sixteen : length (next_guid s.given) ≡ 16) where
  abbrev Names : Outcome → Type 0
  Names o = AllByRecursion IsNamed o.next

  merging_named : (reply : Reply) → Names (ends_by s session reply)
  unfolding ends_by
  merging_named reply = many IsNamed (length s.base.diverted) Merges (Finishes reply ∷ []) tt (tt, tt)

  started_named : (name : List ℕ) (ask : Ask) → is_name name ≡ true → Names (started s session name ask)
  started_named name ask named = many IsNamed (length (room_in s.base.image).draft.image) Copies _ tt ((named, sixteen), tt)

  first_named : (statement : Statement) → IsNamed (Begins statement) → Names (first_turn s session statement)
  unfolding first_turn
  first_named = statement_cases (λ x. IsNamed (Begins x) → Names (first_turn s session x))
      (λ x on named. subst (AllByRecursion IsNamed) (sym (pages_once x on s session).next) tt)
      (λ named. begin_either Names s (λ r. tt) (λ may. tt))
      (λ named. end_either Names s session (λ r. tt) (λ may. merging_named _))
      (λ named. activate_either Names s session (λ r. tt) tt (λ may. merging_named _))
      (λ level name named. backup_either Names s session level name (λ r. tt) (λ ask is may. started_named name ask named))
      (λ guid name named. since_either Names s session guid name (λ r. tt) (λ ask is may. started_named name ask named))
      (λ name named. copy_either Names s session name (λ r. tt) (λ may. many IsNamed (length s.base.frozen) Copies (ClosesCopy name ∷ []) tt (named, tt)))

  next_named : (u : Turn) → IsNamed u → Names (turn s session u)
  unfolding turn close_backup close_copy
  next_named (Begins statement) named = first_named statement named
  next_named (Ends reply) named = merging_named reply
  next_named Copies named = tt
  next_named (ClosesBackup backing) named = (tt, tt)
  next_named (ClosesCopy name) named = tt
  next_named Merges named = tt
  next_named (Finishes reply) named = tt

named_append : (xs ys : List Turn) → AllByRecursion IsNamed xs → AllByRecursion IsNamed ys → AllByRecursion IsNamed (xs ++ ys)
named_append [] ys a b = b
named_append (x ∷ xs) ys a b = (a.0, named_append xs ys a.1 b)

pub named_turn : {sound : Bool} (session : ℕ) (now : Now) → AreNamed now → IsGoing sound now → AreNamed (one_turn session now).1
unfolding outcome
named_turn {sound = sound} session now named going = one_cases (λ p. AreNamed p.1) session now named (λ u rest is place.
    let step : IsStep sound now session (outcome session u now) rest = next_step session now named going u rest is in
    let o : Outcome = outcome session u now in
    let here : AllByRecursion IsNamed (u ∷ rest) = subst (AllByRecursion IsNamed) is (named (session - 1)) in
    let after : Now = stands_then session rest o now in
    elim (eqb_tells place (session - 1)) [
      | inl w ↦ subst (λ (p : ℕ). AllByRecursion IsNamed (get_or after.todo p [])) (sym w.1)
          (subst (AllByRecursion IsNamed) (sym (own_todo session now u rest is o))
          (named_append o.next rest (next_named session (seen_now now) (next_sixteen now.given going.sixteen) u here.0) here.1))
      | inr w ↦ subst (AllByRecursion IsNamed) (sym (other_todo session now u rest is o place w.1)) (named place)
    ])

-- So do the files that are to be made.
pub making_turn : (session : ℕ) (now : Now) → IsMaking now → IsMaking (one_turn session now).1
making_turn session now m = record {
  going = going_turn session now m.named m.going;
  named = named_turn session now m.named m.going;
  stalled = one_cases (λ p. image_state (base_now p.1).image ≡ 1 → image_state (base_now p.1).frozen ≡ 1) session now m.stalled
      (λ u rest is. stalled_then session now m.going u rest is (outcome session u now) (next_step session now m.named m.going u rest is) m.stalled);
}

pub making_play : (order : List ℕ) (now : Now) → IsMaking now → IsMaking (play order now).1
unfolding play
making_play [] now m = m
making_play (x ∷ xs) now m = making_play xs (one_turn x now).1 (making_turn x now m)

-- What a turn of another session leaves of a copy or a merge that is under way at that place.
pub record IsUndisturbed (now : Now) (place : ℕ) (p : Played) : Type 0 where
  pub running : p.1.running ≡ now.running
  pub state : image_state (base_now p.1).image ≡ image_state (base_now now).image
  pub frozen : (base_now p.1).frozen ≡ (base_now now).frozen
  pub todo : slice_index_or p.1.todo place [] ≡ slice_index_or now.todo place []
  pub made : files_made p.0 ≡ []
  pub free : (name : List ℕ) → is_free_entry (now.account.entry name) ≡ true → is_free_entry (p.1.account.entry name) ≡ true

pub none_made : files_made [] ≡ []
unfolding files_made
none_made = refl

pub made_by : (session : ℕ) (u : Turn) (o : Outcome) → o.made ≡ None → files_made (event_of session u o ∷ []) ≡ []
unfolding files_made
made_by session u o none = ap (λ (made : Option (List ℕ × List ℕ)). elim made as (λ z. List (List ℕ × List ℕ)) [ Some file ↦ file ∷ [] | None ↦ [] ]) none

module _ {sound : Bool} (session : ℕ) (now : Now) (named : AreNamed now) (going : IsGoing sound now) (place number : ℕ) (some : 1 ≤ number) (runs : Runs now place number) (off : session - 1 ≢ place) where
  alone : (m : ℕ) → Runs now (session - 1) m → ⊥
  alone m its = off (one_runs now (session - 1) place m number its runs)

  -- so the session that has the turn waits
  waiting_step : (u : Turn) (rest : List Turn) → IsAt sound now (session - 1) (u ∷ rest) → AllByRecursion IsNamed (u ∷ rest) → IsStep sound now session (outcome session u now) rest
  waiting_step u rest (waits all) its_name = beginning_step session now going u rest all its_name
  waiting_step u rest (backs_up left backing tail e all its room free) its_name = absurd (alone 1 its)
  waiting_step u rest (copies left name tail e all its free) its_name = absurd (alone 1 its)
  waiting_step u rest (ending reply tail e all its) its_name = absurd (alone 1 its)
  waiting_step u rest (merges turns its) its_name = absurd (alone 2 its)

  pub others_stay : IsUndisturbed now place (one_turn session now)
  others_stay = one_cases (IsUndisturbed now place) session now (record { running = refl; state = refl; frozen = refl; todo = refl; made = none_made; free = λ name free. free }) (λ u rest is.
      let o : Outcome = outcome session u now in
      let step : IsStep sound now session o rest = waiting_step u rest (subst (IsAt sound now (session - 1)) is (going.each (session - 1))) (subst (AllByRecursion IsNamed) is (named (session - 1))) in
      let stay : OthersStay sound now o = step.others place number (λ e. off (sym e)) some runs in
      let base : base_now (stands_then session rest o now) ≡ base_after (base_now now) o.strokes = then_base session rest o now in
      record {
        running = then_running session rest o now ∙ stay.running;
        state = ap (λ (x : Base). image_state x.image) base ∙ stay.state;
        frozen = ap (λ (x : Base). x.frozen) base ∙ stay.frozen;
        todo = other_todo session now u rest is o place (λ e. off (sym e));
        made = made_by session u o stay.made;
        free = λ name free. free_then session rest o now going stay.made name free;
      })

-- At the start each session has statements to begin.
pub begun_at : (now : Now) (sessions : List (List Statement)) → now.todo ≡ begun sessions → (place : ℕ) → get_or now.todo place [] ≡ map Begins (get_or sessions place [])
begun_at now sessions is place = ap (λ (todo : List (List Turn)). get_or todo place []) is ∙ get_or-map (map Begins) sessions place []

all_begin : (P : Turn → Type 0) (statements : List Statement) → AllByRecursion (λ (x : Statement). P (Begins x)) statements → AllByRecursion P (map Begins statements)
all_begin P [] h = tt
all_begin P (x ∷ xs) h = (h.0, all_begin P xs h.1)

-- whatever they are
all_beginnings : (statements : List Statement) → AreBeginnings (map Begins statements)
all_beginnings [] = tt
all_beginnings (x ∷ xs) = (tt, all_beginnings xs)

pub begun_going : {sound : Bool} (now : Now) (sessions : List (List Statement)) → now.todo ≡ begun sessions → HasHeader (base_now now).image → (sound ≡ true → IsSoundImage (base_now now).image)
    → image_state (base_now now).image ≤ 2
    → (image_state (base_now now).image ≡ 1 → is_header (first_page (base_now now).frozen) ≡ true) → AllByRecursion (λ (guid : List ℕ). length guid ≡ 16) now.given.guids → IsGoing sound now
begun_going now sessions is header sure state frozen sixteen = record {
  header = header;
  sure = sure;
  state = state;
  frozen = frozen;
  each = λ place. waits (subst AreBeginnings (sym (begun_at now sessions is place)) (all_beginnings (get_or sessions place [])));
  sixteen = sixteen;
}

pub begun_named : (now : Now) (sessions : List (List Statement)) → now.todo ≡ begun sessions → ((place : ℕ) → AllByRecursion (λ (x : Statement). IsNamed (Begins x)) (slice_index_or sessions place [])) → AreNamed now
begun_named now sessions is named place = subst (AllByRecursion IsNamed) (sym (begun_at now sessions is place)) (all_begin IsNamed (get_or sessions place []) (named place))

pub begun_making : (now : Now) (sessions : List (List Statement)) → now.todo ≡ begun sessions → ((place : ℕ) → AllByRecursion (λ (x : Statement). IsNamed (Begins x)) (slice_index_or sessions place []))
    → (image_state (base_now now).image ≡ 1 → image_state (base_now now).frozen ≡ 1) → IsGoing false now → IsMaking now
begun_making now sessions is named stalled going = record { going = going; named = begun_named now sessions is named; stalled = stalled }
