-- Each stroke of a statement on pages fits at its point, in whatever state, and writes no rows of the history.
use Rattle.std.proofs.Common.{◌≡◌, ℕ, List, refl, sym, arith, subst, Bool, true, Some, None}
use Rattle.nb_model.proofs.Common.{true≢false, Statement, CreateDb, OpenDb, PageNew, Write, Free, CreateTable, DropTable, Insert, Update, Delete, Get, Scan, Forced, Access, Reclaim, ShowCache, Cause, IsNamed, Begins, Seen, Outcome, unless, changes, new_turn, write_turn, free_turn, forced_turn, access_turn, cache_turn, first_turn, IsSoundImage, HasHeader, is_on_pages}
use Rattle.nb_model.proofs.ToldTurns.{does_more, told_strokes, pages_cases}
use Rattle.nb_model.proofs.FitLaws.{AreFitting}
use Rattle.nb_model.proofs.PutSound.{no_first, short_text, text_fits}
use Rattle.nb_model.proofs.NoRows.{HasNoRows, no_rows}
use Rattle.nb_model.proofs.HeadSound.{byte_fits}
use Rattle.nb_model.proofs.BitSound.{give_fits}
use Rattle.nb_model.proofs.LeakTurns.{reclaim_fits}
use Rattle.nb_model.proofs.NewSound.{new_raw_fits}
use Rattle.nb_model.proofs.TableTurns.{create_keeps, drop_keeps, insert_keeps, update_keeps, delete_keeps, get_keeps, scan_keeps}

-- each stroke of its first turn fits
abbrev pub IsFittingStatement : Statement → Type 0
IsFittingStatement statement = (s : Seen) (session : ℕ) → HasHeader s.base.image → IsSoundImage s.base.image → AreFitting HasNoRows s.base (first_turn s session statement).strokes

-- a turn that may be refused
guarded_fits : (s : Seen) (c : Cause) (o : Outcome) → (c ≡ None → AreFitting HasNoRows s.base o.strokes) → AreFitting HasNoRows s.base (unless s c o).strokes
unfolding unless
guarded_fits s None o fits = fits refl
guarded_fits s (Some r) o fits = tt

write_fits : (p : ℕ) (text : List ℕ) → IsFittingStatement (Write p text)
unfolding first_turn write_turn changes
write_fits p text s session h is = guarded_fits s _ _ (λ none.
    let raw = no_first _ _ none in
    let access = no_first _ _ raw.1 in
    let long = no_first _ _ access.1 in
    (text_fits HasNoRows (no_rows 10 (omega arith)) (no_rows 8 (omega arith)) s.base p text h is raw.0 (short_text text long.0)).each)

free_fits : (p : ℕ) → IsFittingStatement (Free p)
unfolding first_turn free_turn changes
free_fits p s session h is = guarded_fits s _ _ (λ none. (give_fits HasNoRows (no_rows 10 (omega arith)) (no_rows 2 (omega arith)) s.base p h is (no_first _ _ none).0).each)

new_fits : IsFittingStatement PageNew
unfolding first_turn new_turn changes
new_fits s session h is = guarded_fits s _ _ (λ none. (new_raw_fits HasNoRows (record { inventories = no_rows 2 (omega arith); scn_pages = no_rows 10 (omega arith) }) (no_rows 8 (omega arith)) s.base h is).each)

forced_fits : (on : Bool) → IsFittingStatement (Forced on)
unfolding first_turn forced_turn
forced_fits on s session h is = guarded_fits s _ _ (λ none. byte_fits HasNoRows (no_rows 1 (omega arith)) s.base 64 _ h is (omega arith))

access_fits : (closed : Bool) → IsFittingStatement (Access closed)
unfolding first_turn access_turn
access_fits closed s session h is = guarded_fits s _ _ (λ none. byte_fits HasNoRows (no_rows 1 (omega arith)) s.base 65 _ h is (omega arith))

more_fit : (statement : Statement) → does_more statement ≡ true → IsNamed (Begins statement) → IsFittingStatement statement
unfolding first_turn cache_turn
more_fit (CreateDb name size raw cache) h named = λ s session header is. tt
more_fit (OpenDb name cache) h named = λ s session header is. tt
more_fit PageNew h named = new_fits
more_fit (Write p text) h named = write_fits p text
more_fit (Free p) h named = free_fits p
more_fit (Forced on) h named = forced_fits on
more_fit (Access closed) h named = access_fits closed
more_fit Reclaim h named = λ s session header is. reclaim_fits s header is
more_fit ShowCache h named = λ s session header is. tt
more_fit (CreateTable table) h named = λ s session header is. (create_keeps s header is table named).fits
more_fit (DropTable table) h named = λ s session header is. (drop_keeps s header is table).fits
more_fit (Insert table key text) h named = λ s session header is. (insert_keeps s header is table key text).fits
more_fit (Update table key text) h named = λ s session header is. (update_keeps s header is table key text).fits
more_fit (Delete table key) h named = λ s session header is. (delete_keeps s header is table key).fits
more_fit (Get table key) h named = λ s session header is. (get_keeps s header is table key).fits
more_fit (Scan table) h named = λ s session header is. (scan_keeps s header is table).fits
more_fit other h named = absurd (true≢false (sym h))

pub pages_fit : (statement : Statement) → is_on_pages statement ≡ true → IsNamed (Begins statement) → IsFittingStatement statement
pages_fit = pages_cases (λ statement. IsNamed (Begins statement) → IsFittingStatement statement)
    (λ statement is named s session header sound. subst (AreFitting HasNoRows s.base) (sym (told_strokes statement is s session)) tt) more_fit
