-- A list of names is read, and its files are planned for.
use Rattle.std.proofs.Common.{◌≡◌, ◌≢◌, ℕ, zero, suc, ◌+◌, List, [], ◌∷◌, ◌++◌, length, sym, ap, subst, ◌∙◌, Bool, true, false, Some, None, Result, Ok, Err, IfOk, nat_lt, if◌then◌else◌}
use Rattle.nb_top.proofs.Common.{File, World, Refusal, BadScript, NoFile, ScriptLong, RunError, Quiet, status_after, Plan, Numbered, of_lines, script_of, left, lines_of, with_first, is_next, list_of, names_on, some_names_on, names_in, Status, Goes, number_of, script_in, to_plan, status_refused}
use Rattle.nb_model.specs.declared.reply.Reply.TheVariants.{Refused as RefusedReply}
use Rattle.nb_ended.specs.declared.status.Status.TheVariants.{Refused}
use Rattle.nb_top.proofs.GoesLaws.{goes_quietly, goes_turn_quietly}
use Rattle.nb_top.proofs.ScriptRead.{IsBroken, all_broken}
use Rattle.nb_top.proofs.ChainRefusals.{IsFine}

-- a plan that begins with calls that change nothing
pub plan_quietly : {H : Type 0} (world : H → World) (tells : Bool) (old mid new : H) (keep : ℕ) (names : Result (List (List ℕ)) Refusal) (result : Result Status RunError) → Quiet (world old) (world mid) → Goes world tells result mid new (to_plan keep names)
    → Goes world tells result old new (to_plan keep names)
plan_quietly world tells old mid new keep (Ok names) result quiet goes = goes_turn_quietly world tells old mid new _ result quiet goes
plan_quietly world tells old mid new keep (Err refusal) result quiet goes = goes_quietly world tells old mid new (Err refusal) result quiet goes

-- ---- a list is never refused as words are that name no job

first_fine : (name : List ℕ) (rest : Result (List (List ℕ)) Refusal) → IsFine rest → IsFine (with_first name rest)
first_fine name (Ok names) h = tt
first_fine name (Err refusal) h = h

names_fine : (most : ℕ) (before : List (List ℕ)) (lines : List Numbered) → IsFine (names_on most before lines)
unfolding names_on
names_fine zero before [] = tt
names_fine (suc most) before [] = tt
names_fine zero before (line ∷ lines) = λ e. cc
names_fine (suc most) before (line ∷ lines) = by (is_next before line.1) (names_fine most (before ++ line.1 ∷ []) lines)
  where
    by : (b : Bool) → IsFine (names_on most (before ++ line.1 ∷ []) lines) → IsFine (if b then with_first line.1 (names_on most (before ++ line.1 ∷ []) lines) else Err (BadScript line.0))
    by true rest = first_fine line.1 (names_on most (before ++ line.1 ∷ []) lines) rest
    by false rest = λ e. cc

some_fine : (count : ℕ) (lines : List Numbered) → IsFine (some_names_on count lines)
unfolding some_names_on
some_fine count [] = λ e. cc
some_fine count (line ∷ lines) = names_fine 1000 [] (line ∷ lines)

list_fine : (bytes : List ℕ) → IsFine (list_of bytes)
unfolding list_of
list_fine bytes = by (nat_lt 1048576 (length bytes))
  where
    by : (b : Bool) → IsFine (if b then Err (ScriptLong (length bytes)) else some_names_on (length (lines_of bytes)) (left 0 bytes))
    by true = λ e. cc
    by false = some_fine (length (lines_of bytes)) (left 0 bytes)

in_fine : (list : List ℕ) (file : File) → IsFine (names_in list file)
in_fine list None = λ e. cc
in_fine list (Some bytes) = list_fine bytes

-- so its status is that of a refusal
pub list_number : (list : List ℕ) (file : File) (refusal : Refusal) → names_in list file ≡ Err refusal → (result : Result Status RunError) → IfOk result (λ status. status ≡ Refused) → IfOk result (λ status. number_of status ≡ status_after (RefusedReply refusal))
list_number list file refusal is (Ok status) ended = ap number_of ended ∙ sym (status_refused refusal (subst (λ (r : Result (List (List ℕ)) Refusal). IsFine r) is (in_fine list file)))
list_number list file refusal is (Err e) ended = tt

-- ---- a file that can't be read, as a script or as a list

-- what isn't refused for a line is refused for both alike
pub unread_list : (name : List ℕ) (file : File) (refusal : Refusal) → ((line : ℕ) → refusal ≢ BadScript line) → script_in name file ≡ Err refusal → names_in name file ≡ Err refusal
unfolding script_of list_of
unread_list name None refusal other is = not_read is
  where
    not_read : ◌≡◌ {A = Result Plan Refusal} (Err (NoFile name)) (Err refusal) → ◌≡◌ {A = Result (List (List ℕ)) Refusal} (Err (NoFile name)) (Err refusal)
    not_read h = cc
unread_list name (Some bytes) refusal other is = by (nat_lt 1048576 (length bytes)) is
  where
    by : (b : Bool) → (if b then Err (ScriptLong (length bytes)) else of_lines (length (lines_of bytes)) (left 0 bytes)) ≡ Err refusal
        → (if b then Err (ScriptLong (length bytes)) else some_names_on (length (lines_of bytes)) (left 0 bytes)) ≡ Err refusal
    by true long = too_long_both long
      where
        too_long_both : ◌≡◌ {A = Result Plan Refusal} (Err (ScriptLong (length bytes))) (Err refusal) → ◌≡◌ {A = Result (List (List ℕ)) Refusal} (Err (ScriptLong (length bytes))) (Err refusal)
        too_long_both h = cc
    by false broken = let line = subst IsBroken broken (all_broken (length (lines_of bytes)) (left 0 bytes)) in absurd (other line.0 line.1)
