-- Where files stand for an account as a fold begins, they stand for one with the file that it makes.
use Rattle.std.proofs.Common.{true≢false, ◌≡◌, ◌≢◌, ℕ, ◌≤◌, List, [], ◌∷◌, length, inl, inr, true, false, refl, sym, ap, subst, ◌∙◌, arith, not, is_some, Some, None, Ok}
use Rattle.nb_top.proofs.Common.{AllByRecursion, and_parts, is_free_file, is_header, File, Files, bytes_of, is_delta, World, LeavesAll, IsUnfinished, Account, Kept, Plain, with_entry, is_free_entry, account_behind, Contents, file_for, read_level, delta_name, entry_in, Event, IsInMaking, IsWholeFile, is_free, unfinished, span_whole, stands_closed, stands_making, level_used, free_entry, with_kept, no_main, bytes_for, folded, last_head, chained, fold_turn, made_turn, OneTurn, HoldsSpan, TakesFiles, folding, leaves_all, HoldsKept, StandsFor, not_some, ok_same}
use Rattle.nb_top.proofs.FoldRecords.{IsOfLine, folded_span, is_span, of_line, span_ask}
use Rattle.nb_top.proofs.FoldTurns.{FoldTurn, made_account, turn_is}
use Rattle.nb_top.proofs.TargetTurns.{refuses, makes}
use Rattle.nb_top.proofs.TurnsStand.{IsSoundJob, IsWellDone, sound_named}

-- an unfinished file is one in the making
in_making : (kept : List Kept) (file : File) → IsUnfinished file → IsInMaking kept file
in_making kept file (inl free) = is_free free
in_making kept file (inr none) = unfinished (λ bytes is. record {
  no_level = λ c reads. none.no_level c (ap (λ (f : File). read_level (bytes_of f)) is ∙ reads);
  no_header = ap (λ (f : File). is_header (bytes_of f)) (sym is) ∙ none.no_header;
})

-- two files or more have a first
first_of : (names : List (List ℕ)) → 2 ≤ length names → (name : List ℕ) × (rest : List (List ℕ)) × (names ≡ name ∷ rest)
first_of [] some = absurd (omega (arith, some))
first_of (name ∷ rest) some = (name, rest, refl)

module _ (old : World) (account : Account) (out : List ℕ) (names : List (List ℕ)) (stands : StandsFor old account) (plain : is_delta out ≡ false) (plain_names : AllByRecursion (λ (name : List ℕ). is_delta name ≡ false) names) (some : 2 ≤ length names)
    (takes : (cs : List Contents) → chained old.files names ≡ Ok cs → TakesFiles account.kept cs) where
  abbrev sound_job : OneTurn
  sound_job = folding old.files out names

  -- it isn't refused: the name was free, and the files go on from one another
  module _ (cs : List Contents) (free : is_free_entry (account.entry out) ≡ true) (accepted : chained old.files names ≡ Ok cs) (same : fold_turn old.files account out names ≡ made_turn out (folded cs)) where
    abbrev bytes : List ℕ
    bytes = bytes_for (folded cs)

    line : IsOfLine account.kept cs
    line =
        let first = first_of names some in
        let took : TakesFiles account.kept cs = takes cs accepted in
        of_line old.files account stands.now None first.0 first.1 cs (ap (chained old.files) (sym first.2) ∙ accepted) (subst (AllByRecursion (λ (name : List ℕ). is_delta name ≡ false)) first.2 plain_names) took.of_kept took.goes_on

    spelled : bytes ≡ file_for 102 line.last (Some (span_ask old.files account stands.now names cs accepted line))
    spelled = folded_span old.files account stands.now names cs accepted line

    whole : IsWholeFile account.kept bytes
    whole =
        subst (IsWholeFile account.kept) (sym spelled)
        (span_whole old.files account stands.now line.last (span_ask old.files account stands.now names cs accepted line) line.kept_as.there line.level (is_span old.files account stands.now names cs accepted line))

    was_free : (is_free_file (old.files out) ≡ true) × (old.files (delta_name out) ≡ None)
    was_free =
        let both = and_parts (is_free_file (old.files out)) (not (is_some (old.files (delta_name out)))) (sym (free_entry old.files account out stands.now.same_image plain) ∙ free) in
        (both.0, not_some (old.files (delta_name out)) both.1)

    -- no difference file stands beside it
    alone : (before files : Files) → LeavesAll old before → ((m : List ℕ) → m ≢ out → files m ≡ before m) → files (delta_name out) ≡ None
    alone before files left rest = rest (delta_name out) (no_main out out plain) ∙ stands.free out plain was_free.0 was_free.1 (before (delta_name out)) (left (delta_name out))

    half : (before files : Files) → LeavesAll old before → HoldsKept before account.kept → before out ≡ old.files out → ((m : List ℕ) → m ≢ out → files m ≡ before m) → IsUnfinished (files out) → HoldsKept files account.kept
    half before files left its as_it rest is = record {
      account = with_entry out (entry_in files out) its.account;
      stands = stands_making before files its.account out its.stands plain (λ m off beside. rest m off) (alone before files left rest) (in_making its.account.kept (files out) is);
      same = with_kept out (entry_in files out) its.account ∙ its.same;
    }

    -- what was done is that file
    there : (files : Files) → sound_job.done files → files out ≡ Some bytes
    there files done = done.2 ∙ ap (λ (x : List Contents). Some (bytes_for (folded x))) (ok_same done.0 cs (chained old.files names) done.1 accepted)

    used : is_free_file (Some bytes) ≡ false
    used = level_used (folded cs).version (folded cs).head (folded cs).pages

    behind : account_behind out (fold_turn old.files account out names) account ≡ with_entry out (Plain bytes None) account
    behind = ap (λ (e : Event). account_behind out e account) same ∙ made_account old.files account out names (folded cs)

    well_done : IsWellDone old account sound_job out
    well_done = record {
      half = half;
      free = λ files half_way now_free. was_free.0;
      entry = Plain bytes None;
      stands = λ before files its left now kept as_it rest done.
          stands_closed before files its out now plain (λ m off beside. rest m off) (alone before files left rest) bytes (there files done) (subst (λ (ks : List Kept). IsWholeFile ks bytes) (sym kept) whole);
      in_use = λ files done. ap is_free_file (there files done) ∙ used;
      entries = λ n. ap (λ (a : Account). a.entry n) (sym behind);
      kept = sym (with_kept out (Plain bytes None) account) ∙ ap (λ (a : Account). a.kept) (sym behind);
      gives = λ files done others others_accepted.
          let all = ok_same cs others (chained old.files names) accepted others_accepted in
          subst (λ (x : List Contents). HoldsSpan account.kept (last_head x).guid out files) all (record {
            backup = line.last;
            kept_as = line.kept_as;
            ask = span_ask old.files account stands.now names cs accepted line;
            span = is_span old.files account stands.now names cs accepted line;
            there = there files done ∙ ap (λ (x : List ℕ). Some x) spelled;
          });
    }

  fold_done : leaves_all (fold_turn old.files account out names) ≡ false → IsWellDone old account sound_job out
  fold_done = by (turn_is old.files account out names)
    where
      by : FoldTurn old.files account out names → leaves_all (fold_turn old.files account out names) ≡ false → IsWellDone old account sound_job out
      by (refuses refusal why same) is = absurd (true≢false (sym (ap leaves_all same) ∙ is))
      by (makes cs free accepted same) is = well_done cs free accepted same

pub fold_sound : (old : World) (account : Account) (out : List ℕ) (names : List (List ℕ)) → StandsFor old account → is_delta out ≡ false → AllByRecursion (λ (name : List ℕ). is_delta name ≡ false) names → 2 ≤ length names
    → (leaves_all (fold_turn old.files account out names) ≡ false → (cs : List Contents) → chained old.files names ≡ Ok cs → TakesFiles account.kept cs) → IsSoundJob old account (folding old.files out names)
fold_sound old account out names stands plain plain_names some takes =
    sound_named old account out (folding old.files out names) plain refl (λ is. fold_done old account out names stands plain plain_names some (takes is) is)
