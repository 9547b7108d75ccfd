-- Each turn leaves a neat image neat at each of its strokes, so that no page is in danger.
use Rattle.std.proofs.Common.{◌≡◌, ◌≢◌, ◌⊎◌, inl, inr, ⊎_elim, ℕ, ◌≤◌, List, [], ◌∷◌, ◌++◌, length, take, refl, sym, ap, subst, ◌∙◌, arith, Bool, true, false, ◌==◌, Some, None, Contains}
use Rattle.nb_model.proofs.Common.{AllByRecursion, true≢false, eqb-true, and_parts, stalled_state, is_name, Reply, Done, Freed, Refused, Statement, CreateDb, PageNew, Write, Free, BeginBackup, EndBackup, Activate, Backup, BackupSince, CreateTable, DropTable, Insert, Update, Delete, Forced, Access, Sync, Reclaim, Ask, Base, room_in, close_backup, close_copy, Backing, Cause, reclaim_cause, reclaimed, reclaim_turn, Draft, drafted, give_page, Page, Image, image_state, is_among, leaked, reached, not_true, History, Turn, Begins, Copies, ClosesBackup, ClosesCopy, Ends, Merges, Finishes, Seen, Outcome, says, unless, next_guid, next_time, GivesRows, ChangesRows, IsNeat, HasHeader, IsSoundImage, Stroke, begin, ends, finish, base_after, base_of, all_given, begin_turn, end_turn, activate_turn, ends_by, create_turn, drop_turn, insert_turn, update_turn, delete_turn, first_turn, turn, IsNamed}
unfoldable use Rattle.nb_model.specs.Pages.{end_strokes}
use Rattle.nb_model.specs.Danger.{StaysApart, IsKeyed, HasItsPlace}
use Rattle.nb_model.specs.HistoryRows.{HasFreeRow}
use Rattle.nb_model.specs.Writes.{statement_writes}
use Rattle.nb_model.proofs.Along.{Along, along_front, along_append, along_more}
use Rattle.nb_model.proofs.DangerLaws.{neat_none}
use Rattle.nb_model.proofs.DraftLaws.{IsOf, drafted_is, drafts_are, set_bit_keeps}
use Rattle.nb_model.proofs.DropTurns.{given_none}
use Rattle.nb_model.proofs.FitLaws.{IsWhole, Fits}
use Rattle.nb_model.proofs.FoundSpots.{each_held}
use Rattle.nb_model.proofs.HeldAlong.{of_base, these_along, bit_held_along, longer_along, both_along}
use Rattle.nb_model.proofs.HeldChains.{these_stay}
use Rattle.nb_model.proofs.HeldLaws.{IsHeld, held_bit}
use Rattle.nb_model.proofs.HistoryTurns.{Carries, rows_along, start_along, backup_along, begin_along, ends_along, finish_along}
use Rattle.nb_model.proofs.LeakTurns.{IsGivable, longer_givable, one_fits, one_longer, given_fits, givable, given_first, all_leaked, among_at}
use Rattle.nb_model.proofs.NeatLaws.{stays_neat, no_catalogue_history}
use Rattle.nb_model.proofs.NoRows.{HasNoRows}
use Rattle.nb_model.proofs.PutSound.{header_whole}
use Rattle.nb_model.proofs.RawRows.{new_rows, write_rows, free_rows, forced_rows, access_rows}
use Rattle.nb_model.proofs.ReadTurns.{turn_strokes}
use Rattle.nb_model.proofs.RowLaws.{insert_rows, update_rows, delete_rows, create_rows, drop_rows}
use Rattle.nb_model.proofs.TableCases.{create_either, drop_either, insert_either, update_either, delete_either}
use Rattle.nb_model.proofs.ToldTurns.{told_strokes}
use Rattle.nb_model.proofs.TurnCases.{MayStart, begin_either, end_either, activate_either, backup_either, since_either}

-- at each front of the strokes the image is neat
abbrev NeatAlong : Base → List Stroke → Type 0
NeatAlong b ss = (k : ℕ) → IsNeat (base_after b (take k ss)).image

-- A page that isn't given back stays held.
given_held : (q : ℕ) (bytes : Page) (ps : List ℕ) (b : Base) (z : Image) → b.image ≡ z → IsWhole z → AllByRecursion (IsGivable z) ps → AllByRecursion (λ (p : ℕ). q ≢ p) ps → IsHeld q bytes z → Along (IsHeld q bytes) b (all_given ps (drafted z)).strokes
given_held q bytes [] b z e h pages off held = subst (Along (IsHeld q bytes) b) (sym (given_none z)) (subst (IsHeld q bytes) (sym e) held)
given_held q bytes (p ∷ ps) b z e h pages off held =
    let d : Draft = give_page p (drafted z) in
    let fits : Fits HasNoRows (base_of z) d = one_fits (base_of z) h p pages.0 in
    let mid : (base_after b d.strokes).image ≡ d.image = (of_base (λ y. IsOf b (give_page p y)) b z e (set_bit_keeps (IsOf b) (drafts_are b) 1 p (drafted b.image) (drafted_is b))).is in
    subst (Along (IsHeld q bytes) b) (sym (given_first p ps z))
    (along_append (IsHeld q bytes) b d.strokes (all_given ps (drafted d.image)).strokes (bit_held_along q bytes b z h 1 p e (omega arith) pages.0.two pages.0.below off.0 held)
    (given_held q bytes ps (base_after b d.strokes) d.image mid fits.whole (longer_givable z d.image ps (one_longer (base_of z) h p pages.0) pages.1) off.1 (held_bit q bytes z h 1 p (omega arith) pages.0.two pages.0.below off.0 held)))

module _ (s : Seen) (session : ℕ) (header : HasHeader s.base.image) (is : IsSoundImage s.base.image) (neat : IsNeat s.base.image) where
  none_neat : NeatAlong s.base []
  none_neat = along_front IsNeat s.base [] neat

  no_strokes : (ss : List Stroke) → ss ≡ [] → NeatAlong s.base ss
  no_strokes ss none = subst (NeatAlong s.base) (sym none) none_neat

  carried : (ss : List Stroke) → Along (Carries s.base.image) s.base ss → NeatAlong s.base ss
  carried ss along = (rows_along s.base ss along).neat

  -- it is done, or it does nothing
  abbrev IsDoneOr : Outcome → Type 0
  IsDoneOr o = (o.reply ≡ Some Done) ⊎ (o.strokes ≡ [])

  done_neat : (o : Outcome) (table : List ℕ) (rs : List (ℕ × List ℕ)) → IsDoneOr o → (o.reply ≡ Some Done → ChangesRows s.base o.strokes table rs) → NeatAlong s.base o.strokes
  done_neat o table rs (inl done) does = λ k. ⊎_elim (λ (g : GivesRows s.base.image (base_after s.base (take k o.strokes)).image table _). g.neat) (λ (g : GivesRows s.base.image (base_after s.base (take k o.strokes)).image table rs). g.neat) ((does done).each k)
  done_neat o table rs (inr none) does = no_strokes o.strokes none

  create_done : (table : List ℕ) → IsDoneOr (create_turn s table)
  create_done table = create_either IsDoneOr s (λ r. inr refl) table (λ may. inl refl)

  drop_done : (table : List ℕ) → IsDoneOr (drop_turn s table)
  drop_done table = drop_either IsDoneOr s (λ r. inr refl) table (λ spot may. inl refl)

  insert_done : (table : List ℕ) (key : ℕ) (text : List ℕ) → IsDoneOr (insert_turn s table key text)
  insert_done table key text = insert_either IsDoneOr s (λ r. inr refl) table key text (λ spot may. inl refl)

  update_done : (table : List ℕ) (key : ℕ) (text : List ℕ) → IsDoneOr (update_turn s table key text)
  update_done table key text = update_either IsDoneOr s (λ r. inr refl) table key text (λ spot row short may. inl refl)

  delete_done : (table : List ℕ) (key : ℕ) → IsDoneOr (delete_turn s table key)
  delete_done table key = delete_either IsDoneOr s (λ r. inr refl) table key (λ spot row may. inl refl)

  -- Leaked pages are of no chain.
  abbrev x : Image
  x = s.base.image

  whole : IsWhole x
  whole = header_whole x header is

  off_leaked : (q : ℕ) → Contains (reached x) q → AllByRecursion (λ (p : ℕ). q ≢ p) (leaked x)
  off_leaked q at = all_leaked x (λ (p : ℕ). q ≢ p) (λ p low holds e.
      absurd (true≢false (sym (among_at q (reached x) at) ∙ ap (λ (n : ℕ). is_among n (reached x)) e ∙ not_true _ (and_parts _ _ holds).1)))

  reclaimed_neat : NeatAlong s.base (reclaimed x).strokes
  reclaimed_neat = along_front IsNeat s.base (reclaimed x).strokes
      (along_more (λ z. ((q : ℕ) (bytes : Page) → Contains (reached x) q → IsHeld q bytes x → IsHeld q bytes z) × (length x ≤ length z)) IsNeat s.base (reclaimed x).strokes
      (λ z facts. stays_neat x z neat History no_catalogue_history (these_stay x header is neat z facts.1 (Contains (reached x)) (each_held (reached x)) facts.0) (λ first e. cc))
      (both_along _ _ s.base (reclaimed x).strokes
      (these_along (Contains (reached x)) x s.base (reclaimed x).strokes (λ q bytes at held. given_held q bytes (leaked x) s.base x refl whole (givable s header is) (off_leaked q at) held))
      (longer_along HasNoRows (length x) s.base (reclaimed x).strokes (given_fits (leaked x) s.base whole (givable s header is)) whole (omega arith))))

  reclaim_neat : NeatAlong s.base (reclaim_turn s).strokes
  unfolding reclaim_turn unless
  reclaim_neat = by (reclaim_cause x)
    where
      by : (c : Cause) → NeatAlong s.base (elim c as (λ z. Outcome) [ Some refusal ↦ says s (Refused refusal) [] | None ↦ says s (Freed (length (leaked x))) (reclaimed x).strokes ]).strokes
      by None = reclaimed_neat
      by (Some r) = none_neat

  -- A backup begins and ends.
  abbrev Neat : Outcome → Type 0
  Neat o = NeatAlong s.base o.strokes

  begin_neat : length (next_guid s.given) ≡ 16 → Neat (begin_turn s)
  begin_neat sixteen = begin_either Neat s (λ r. none_neat) (λ may. carried (begin (next_guid s.given) None ∷ []) (begin_along s.base header is neat (next_guid s.given) None may.scn sixteen))

  ends_neat : (reply : Reply) → Neat (ends_by s session reply)
  unfolding ends_by end_strokes
  ends_neat reply = by (image_state x == stalled_state) refl
    where
      by : (t : Bool) → (image_state x == stalled_state) ≡ t → NeatAlong s.base (elim t as (λ z. List Stroke) [ true ↦ ends ∷ [] | false ↦ [] ])
      by true e = carried (ends ∷ []) (ends_along s.base header is neat (eqb-true (image_state x) stalled_state e))
      by false e = none_neat

  end_neat : Neat (end_turn s session)
  end_neat = end_either Neat s session (λ r. none_neat) (λ may. ends_neat _)

  activate_neat : Neat (activate_turn s session)
  activate_neat = activate_either Neat s session (λ r. none_neat) none_neat (λ may. ends_neat _)

  starts_neat : (name : List ℕ) (ask : Ask) → MayStart s name → length (next_guid s.given) ≡ 16 → NeatAlong s.base ((room_in x).draft.strokes ++ begin (next_guid s.given) (Some ask) ∷ [])
  starts_neat name ask may sixteen = carried ((room_in x).draft.strokes ++ begin (next_guid s.given) (Some ask) ∷ []) (start_along s.base header is neat may.left (next_guid s.given) ask may.may.scn sixteen)

  writes_neat : (statement : Statement) → statement_writes statement ≡ true → IsNamed (Begins statement) → IsKeyed statement → length (next_guid s.given) ≡ 16 → Neat (first_turn s session statement)
  unfolding first_turn
  writes_neat (CreateDb name size raw cache) on named keyed sixteen = none_neat
  writes_neat PageNew on named keyed sixteen = (new_rows s header is neat session).neat
  writes_neat (Write p text) on named keyed sixteen = (write_rows s header is neat session p text).neat
  writes_neat (Free p) on named keyed sixteen = (free_rows s header is neat session p).neat
  writes_neat (Forced forced) on named keyed sixteen = (forced_rows s header is neat session forced).neat
  writes_neat (Access closed) on named keyed sixteen = (access_rows s header is neat session closed).neat
  writes_neat BeginBackup on named keyed sixteen = begin_neat sixteen
  writes_neat EndBackup on named keyed sixteen = end_neat
  writes_neat Activate on named keyed sixteen = activate_neat
  writes_neat (Backup level name) on named keyed sixteen = backup_either Neat s session level name (λ r. none_neat) (λ ask from may. starts_neat name ask may sixteen)
  writes_neat (BackupSince guid name) on named keyed sixteen = since_either Neat s session guid name (λ r. none_neat) (λ ask from may. starts_neat name ask may sixteen)
  writes_neat (CreateTable table) on named keyed sixteen = done_neat (create_turn s table) table _ (create_done table) (create_rows s session table header is neat named)
  writes_neat (DropTable table) on named keyed sixteen = done_neat (drop_turn s table) table _ (drop_done table) (drop_rows s session table header is neat)
  writes_neat (Insert table key text) on named keyed sixteen = done_neat (insert_turn s table key text) table _ (insert_done table key text) (insert_rows s session table key header is neat text keyed)
  writes_neat (Update table key text) on named keyed sixteen = done_neat (update_turn s table key text) table _ (update_done table key text) (update_rows s session table key header is neat text keyed)
  writes_neat (Delete table key) on named keyed sixteen = done_neat (delete_turn s table key) table _ (delete_done table key) (delete_rows s session table key header is neat)
  writes_neat Reclaim on named keyed sixteen = reclaim_neat
  writes_neat Sync on named keyed sixteen = no_strokes (first_turn s session Sync).strokes (told_strokes Sync refl s session)
  writes_neat other on named keyed sixteen = absurd (true≢false (sym on))

  statement_neat : (statement : Statement) → IsNamed (Begins statement) → IsKeyed statement → length (next_guid s.given) ≡ 16 → Neat (turn s session (Begins statement))
  unfolding turn
  statement_neat statement named keyed sixteen = by (statement_writes statement) refl
    where
      by : (t : Bool) → statement_writes statement ≡ t → Neat (turn s session (Begins statement))
      by true on = writes_neat statement on named keyed sixteen
      by false off = no_strokes (turn s session (Begins statement)).strokes (turn_strokes s session (Begins statement) off)

  close_neat : (b : Backing) → HasFreeRow x b.page b.slot → is_name b.name ≡ true → length b.guid ≡ 16 → Neat (close_backup s b)
  unfolding close_backup
  close_neat b place named sixteen = carried _ (backup_along s.base header is neat b.page b.slot place b.ask.level b.scn (next_time s.given) b.guid b.name sixteen named)

  pub turn_neat : (t : Turn) → IsNamed t → HasItsPlace x t → length (next_guid s.given) ≡ 16 → NeatAlong s.base (turn s session t).strokes
  unfolding turn close_copy
  turn_neat (Begins statement) named place sixteen = statement_neat statement named place sixteen
  turn_neat Copies named place sixteen = none_neat
  turn_neat (ClosesBackup b) named place sixteen = close_neat b place named.0 named.1
  turn_neat (ClosesCopy name) named place sixteen = none_neat
  turn_neat (Ends reply) named place sixteen = ends_neat reply
  turn_neat Merges named place sixteen = none_neat
  turn_neat (Finishes reply) named place sixteen = carried (finish ∷ []) (finish_along s.base header is neat)

  pub turn_apart : (t : Turn) → IsNamed t → HasItsPlace x t → length (next_guid s.given) ≡ 16 → StaysApart s.base (turn s session t).strokes
  turn_apart t named place sixteen = record { neat = turn_neat t named place sixteen; none = λ k. neat_none _ (turn_neat t named place sixteen k) }
