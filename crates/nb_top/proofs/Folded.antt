-- The job of a fold: its call serves it.
use Rattle.std.proofs.Common.{true≢false, ◌≡◌, ◌⊎◌, ⊎_elim, inl, inr, ℕ, ◌≤◌, List, [], ◌∷◌, length, true, refl, sym, ap, subst, ◌∙◌, arith, nat_le, Some, None, Result, Ok, Err, IfOk}
use Rattle.nb_top.proofs.Common.{and_parts, leb-true, File, Files, World, Leaves, Fault, Refused, Device, Memory, Only, weaker_has, is_free_name, Quiet, Reply, Level, Account, is_free_entry, Contents, Head, Event, first_head, folded, fold_turn, fold_verdict, made_turn, next_files, level_told, OneTurn, folding, leaves_all, ServedAs, Serves}
use Rattle.nb_level.specs.Heads.{head_of}
use Rattle.nb_fold.specs.declared.folded.Folded.{Folded}
use Rattle.nb_fold.specs.Fold.{FoldAnswers, FoldLeft, Folds}
use Rattle.nb_top.proofs.FoldTurns.{FoldTurn, WhyRefused, accepted_is, done_turn, refused_fold, refused_turn, turn_is, verdict_refused, why_refused}
use Rattle.nb_top.proofs.TargetTurns.{refuses, makes}
use Rattle.nb_top.proofs.Turns.{served_as}

-- the reply for a file that was made, with its level as it is said
abbrev pub level_said : (level : ℕ) → Folded → Reply
level_said level made = Level level made.head.scn made.pages made.head.guid

-- what is answered, where the level of the file is said so
abbrev pub fold_said : (level : ℕ) → Result Folded Fault → Result Reply Fault
fold_said level (Ok made) = Ok (level_said level made)
fold_said level (Err fault) = Err fault

-- it is the level in the head, which is 9 at most
abbrev pub IsLevel : (level : ℕ) → Result Folded Fault → Type 0
IsLevel level result = IfOk result (λ made. made.head.level ≤ 9 → level ≡ made.head.level)

-- the first of files that go on from one another has a level of 9 at most, and so has the one that they are folded into
pub fold_level : (files : Files) (out : List ℕ) (names : List (List ℕ)) → 1 ≤ length names → (cs : List Contents) → fold_verdict files out names ≡ Ok cs → (folded cs).head.level ≤ 9
unfolding folded
fold_level files out [] some cs e = absurd (omega (arith, some))
fold_level files out (name ∷ names) some cs e =
    let are = next_files files None name names cs (accepted_is files out (name ∷ names) cs e).1 in
    let low = (and_parts (nat_le 1 are.first.head.level) (nat_le are.first.head.level 9) (level_told are.next.bytes are.first are.next.read).level).1 in
    subst (λ (x : List Contents). (first_head x).level ≤ 9) (sym are.all) (leb-true are.first.head.level 9 low)

module _ (old mid : World) (account : Account) (out : List ℕ) (names : List (List ℕ)) (knows : is_free_name old.files out ≡ is_free_entry (account.entry out)) (some : 1 ≤ length names) (result : Result Folded Fault) (level : ℕ)
    (low : IsLevel level result) (does : Folds result old mid out names) where
  abbrev job : OneTurn
  job = folding old.files out names

  abbrev turn : Event
  turn = fold_turn old.files account out names

  -- it is on its way
  on_way : (was : File → Type 0) (files : Files) → FoldLeft was old.files out names files → (was (files out) ⊎ job.half files) ⊎ job.done files
  on_way was files (inl as_it) = inl (inl as_it)
  on_way was files (inr (cs, accepted, inl unfinished)) = inl (inr unfinished)
  on_way was files (inr (cs, accepted, inr whole)) = inr (cs, (accepted_is old.files out names cs accepted).1, whole)

  idle : leaves_all turn ≡ true → Quiet old mid
  idle is = by (turn_is old.files account out names)
    where
      by : FoldTurn old.files account out names → Quiet old mid
      by (refuses refusal why same) = does.refused refusal (verdict_refused old.files account out names knows refusal why)
      by (makes cs free accepted same) = absurd (true≢false (sym is ∙ ap leaves_all same))

  -- the reply is that of the turn
  same_reply : (made : Folded) (c : Contents) (pages : ℕ) → (made.head.level ≤ 9 → level ≡ made.head.level) → head_of made.head ≡ c.head → c.head.level ≤ 9 → made.pages ≡ pages → Level c.head.level c.head.scn pages c.head.guid ≡ level_said level made
  same_reply made c pages its_level head few count =
      ap (λ (h : Head). Level h.level h.scn pages h.guid) (sym head) ∙ ap (λ (n : ℕ). Level made.head.level made.head.scn n made.head.guid) (sym count)
      ∙ ap (λ (n : ℕ). Level n made.head.scn made.pages made.head.guid) (sym (its_level (subst (λ (h : Head). h.level ≤ 9) (sym head) few)))

  answers : (r : Result Folded Fault) → IsLevel level r → FoldAnswers r old mid out names → ServedAs (fold_said level r) old mid job turn
  answers (Ok made) its_level done =
      let c : Contents = folded done.files in
      let accepted = accepted_is old.files out names done.files done.accepted in
      served_as (level_said level made) (made_turn out c) mid job turn (done_turn old.files account out names done.files (sym knows ∙ accepted.0) accepted.1) refl
      (ap (λ (reply : Reply). Some reply) (same_reply made c _ its_level done.head (fold_level old.files out names some done.files done.accepted) done.pages)) refl
      (λ some. record {
        now = (done.files, accepted.1, done.kept.reads);
        left = λ files leaves. (done.files, accepted.1, ⊎_elim (λ was. done.kept.durable.none_back (files out) was) (λ now. done.kept.durable.only (files out) now) (leaves out));
      })
  answers (Err (Refused refusal)) its_level answer =
      let why : WhyRefused old.files account out names refusal = why_refused old.files account out names knows refusal answer.1 in
      record { is = refused_turn old.files account out names refusal why; other = refused_fold old.files account out names refusal why; quiet = answer.0 }
  answers (Err Device) its_level answer = tt
  answers (Err Memory) its_level answer = tt

  pub fold_serves : Serves (fold_said level result) old mid job turn
  fold_serves = record {
    answer = answers result low does.answer;
    left = weaker_has old mid (Only out) _ _ does.left (λ files. on_way (Leaves old out) files);
    reads = on_way (λ file. file ≡ old.files out) mid.files does.reads;
    gave = does.gave;
    idle = idle;
  }
