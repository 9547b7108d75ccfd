-- A statement that is under way goes on while other sessions take turns.
use Rattle.std.proofs.Common.{◌≡◌, ◌≢◌, inl, inr, ℕ, ◌-◌, List, [], ◌++◌, map, sym, ap, subst, ◌∙◌, arith, Bool, Ok, Option, Some, None}
use Rattle.nb_session.proofs.Common.{World, Untouched, Names, Runs, IsMaking, Image, MadeFile, Begins, ClosesBackup, ClosesCopy, Now, base_now, one_turn, Trail, IsUndisturbed, others_stay, no_main, Copying, IsBegun, IsCopying, IsCopyingTo, file_name, file_count, file_next, IsFileCopying, Backed, IsBackingUp, Held, name_of, Task, Backup, Copy, End, Merge, Told, Touched, Asker, task_first, task_rest, task_todo, HasTodo, IsReady, IsApart, TaskGoes, touching_by, Plays, told_turns}
use Rattle.nb_change.specs.Changes.{Other}
use Rattle.nb_copy.specs.declared.file_copy.FileCopy.{FileCopy}
use Rattle.nb_copy.specs.declared.file_copy.FileCopy.TheVariants.{Pages, Level}
use Rattle.nb_copy.specs.LevelCopying.{LevelCopying, IsLevelCopying}
use Rattle.nb_session.proofs.TouchingLaws.{none_touching}
use Rattle.nb_session.proofs.UnderWayLaws.{IsCopyTurn, first_copies, copy_runs}

-- What touches other files keeps a copy.
module _ (old new : World) (names : Names) (others : Untouched old new (Other names)) (read : (m : List ℕ) → Other names m → new.files m ≡ old.files m) (frozen : Image) where
  begun_kept : (copy : Copying) → Other names copy.name → IsBegun old copy frozen → IsBegun new copy frozen
  begun_kept copy other begun = record { first = begun.first; reads = read copy.name other ∙ begun.reads; blank = λ c now. begun.blank c (others.now copy.name c other now) }

  pages_kept : (copy : Copying) → Other names copy.name → IsCopying old copy frozen → IsCopying new copy frozen
  pages_kept copy other is = record { of = is.of; begun = begun_kept copy other is.begun }

  copy_kept : (copy : Copying) → Other names copy.name → IsCopyingTo old copy frozen → IsCopyingTo new copy frozen
  copy_kept copy other is = record { of = is.of; begun = λ some. begun_kept copy other (is.begun some) }

  level_kept : (copy : LevelCopying) → Other names copy.file.name → IsLevelCopying old copy frozen → IsLevelCopying new copy frozen
  level_kept copy other is = record {
    of = is.of;
    fresh = is.fresh;
    made = λ none.
        let made = is.made none in
        record { reads = read copy.file.name other ∙ made.reads; only = λ c now. made.only c (others.now copy.file.name c other now) };
    begun = λ some.
        let begun = is.begun some in
        record {
          has = record {
            stands = record { reads = read copy.file.name other ∙ begun.has.stands.reads; torn = λ c now. begun.has.stands.torn c (others.now copy.file.name c other now) };
            waits = begun.has.waits;
            counted = begun.has.counted;
          };
          entries = begun.entries;
        };
  }

  file_kept : (f : FileCopy) → Other names (file_name f) → IsFileCopying old f frozen → IsFileCopying new f frozen
  file_kept (Pages copy) other is = pages_kept copy other is
  file_kept (Level copy) other is = level_kept copy other is

  backup_kept : (copier : Backed) → Other names copier.backing.name → IsBackingUp old copier frozen → IsBackingUp new copier frozen
  backup_kept copier other is = record { name = is.name; whole = is.whole; count = is.count; goes = file_kept copier.file (subst (λ (n : List ℕ). Other names n) (sym is.name) other) is.goes }

-- none of the files that are made is that of a copy
apart_other : (held : Held) (name : List ℕ) → IsApart held name → Other (Touched (name_of held) []) name
apart_other held name apart (inl (inl same)) = apart.other same
apart_other held name apart (inl (inr delta)) = no_main (name_of held) name apart.plain (sym delta)
apart_other held name apart (inr made) = omega (arith, made.1.1)

-- A turn of another session.
module _ (session : ℕ) (asker : Asker) (off : session - 1 ≢ asker.number - 1) (how : Told) (refused : Bool) (old new : World) (before after : Held) (t : Trail) (now : Now) (ready : IsReady old before t now) (makes : IsMaking now) (has : HasTodo asker now)
    (plays : Plays (Ok refused) old new before after t now (told_turns how (one_turn session now)) (touching_by session now)) where
  abbrev then : Now
  then = (one_turn session now).1

  apart_kept : (name : List ℕ) → IsApart before name → IsApart after name
  apart_kept name apart = record { plain = apart.plain; other = λ same. apart.other (same ∙ plays.name) }

  -- it keeps all that rests on a session that runs
  module _ (runs : Runs now (asker.number - 1) 1) where
    still : IsUndisturbed now (asker.number - 1) (one_turn session now)
    still = others_stay session now makes.named makes.going (asker.number - 1) 1 (omega arith) runs off

    runs_on : before.running ≡ Some asker.number → after.running ≡ Some asker.number
    runs_on is = plays.done.ready.running ∙ still.running ∙ sym ready.running ∙ is

    untouched : Untouched old new (Other (Touched (name_of before) []))
    untouched = subst (λ (files : List MadeFile). Untouched old new (Other (Touched (name_of before) files))) (none_touching session now makes.going (asker.number - 1) runs off) plays.others

    read_on : (m : List ℕ) → Other (Touched (name_of before) []) m → new.files m ≡ old.files m
    read_on = subst (λ (files : List MadeFile). (m : List ℕ) → Other (Touched (name_of before) files) m → new.files m ≡ old.files m) (none_touching session now makes.going (asker.number - 1) runs off) plays.others_read

  -- who copies, or is to end the stalled state, runs
  runs_by : (task : Task) → asker.task ≡ Some task → IsCopyTurn (task_first task) → Runs now (asker.number - 1) 1
  runs_by task is copies = copy_runs now (asker.number - 1) _ (task_first task) (task_rest task ++ map Begins asker.statements) (makes.going.each (asker.number - 1))
      (has ∙ ap (λ (x : Option Task). task_todo x ++ map Begins asker.statements) is) copies

  pub goes_on : (task : Option Task) → asker.task ≡ task → TaskGoes asker.number old before (base_now now).frozen task → TaskGoes asker.number new after (base_now then).frozen task
  goes_on None is goes = tt
  goes_on (Some (Backup c)) is goes =
      let runs = runs_by (Backup c) is (first_copies (file_count c.file - file_next c.file) (ClosesBackup c.backing) tt) in (
        subst (IsBackingUp new c) (sym (still runs).frozen) (backup_kept old new (Touched (name_of before) []) (untouched runs) (read_on runs) (base_now now).frozen c (apart_other before c.backing.name goes.1) goes.0),
        apart_kept c.backing.name goes.1,
        runs_on runs goes.2,
      )
  goes_on (Some (Copy c)) is goes =
      let runs = runs_by (Copy c) is (first_copies (c.count - c.next) (ClosesCopy c.name) tt) in (
        subst (IsCopyingTo new c) (sym (still runs).frozen) (copy_kept old new (Touched (name_of before) []) (untouched runs) (read_on runs) (base_now now).frozen c (apart_other before c.name goes.1) goes.0),
        apart_kept c.name goes.1,
        runs_on runs goes.2,
      )
  goes_on (Some (End reply)) is goes = runs_on (runs_by (End reply) is tt) goes
  goes_on (Some (Merge m)) is goes = tt
