-- The databases that a run may write.
use Rattle.std.specs.Prelude.{◌≡◌, ℕ, Bool, ◌||◌, List, ◌++◌, Option, Some, None, Ok, Err, Result, codes, cond, option_to_list}
use Rattle.std.specs.List.{list_any}
use Rattle.nb_host.specs.Files.{File, Files}
use Rattle.nb_host.specs.declared.refusals.Refusal.{Refusal}
use Rattle.nb_model.specs.declared.job.Job.{Job}
use Rattle.nb_model.specs.declared.job.Job.TheVariants.{Run, Gen, Attach, Turn, Plan as PlanOf, Ship}
use Rattle.nb_model.specs.declared.statement.Statement.{Statement}
use Rattle.nb_model.specs.declared.statement.Statement.TheVariants.{CreateDb, OpenDb}
use Rattle.nb_model.specs.Jobs.{writes}
use Rattle.nb_model.specs.Words.{deed_database}
use Rattle.nb_script.specs.Scripts.{Plan, script_of}
use Rattle.nb_model.specs.Writes.{statement_writes}

-- the database that words may write first; a script is not read here
abbrev pub changed_by_words : Job → Option (List ℕ)
changed_by_words (Run script) = None
changed_by_words (Gen number script) = Some (codes "gen.db")
changed_by_words (Attach db ask) = cond (writes ask) (Some db) None
changed_by_words (Turn deed) = deed_database deed
changed_by_words (PlanOf keep list) = None
changed_by_words (Ship primary standby) = Some primary

-- the database that a first statement creates or opens
abbrev pub database_in : Statement → Option (List ℕ)
database_in (CreateDb name page_size raw cache) = Some name
database_in (OpenDb name cache) = Some name
database_in _ = None

-- one of these statements may write
abbrev pub any_writes : List Statement → Bool
any_writes statements = list_any statement_writes statements

-- a statement of the script may write
abbrev pub script_writes : Plan → Bool
script_writes plan = statement_writes plan.first || list_any any_writes plan.sessions

-- the database that a script may write, none where it only reads
abbrev pub changed_by_script : Plan → Option (List ℕ)
changed_by_script plan = cond (script_writes plan) (database_in plan.first) None

-- the database that the script which was read may write, none where none was
abbrev pub changed_by_read : Option Plan → Option (List ℕ)
changed_by_read None = None
changed_by_read (Some plan) = changed_by_script plan

-- the database that a job may write first, where this is the script that it runs, none where it runs none or that can't be read
abbrev pub changed_first : Option Plan → Job → Option (List ℕ)
changed_first script (Run name) = changed_by_read script
changed_first script (Gen number name) = changed_by_words (Gen number name)
changed_first script (Attach db ask) = changed_by_words (Attach db ask)
changed_first script (Turn deed) = changed_by_words (Turn deed)
changed_first script (PlanOf keep list) = changed_by_words (PlanOf keep list)
changed_first script (Ship primary standby) = changed_by_words (Ship primary standby)

-- the database that it may write after that one: the standby that is shipped to
abbrev pub changed_next : Job → Option (List ℕ)
changed_next (Ship primary standby) = Some standby
changed_next other = None

-- the databases that a job may write, where this is the script that it runs, in the order of their first use
abbrev pub changed_by : Option Plan → Job → List (List ℕ)
changed_by script job = option_to_list (changed_first script job) ++ option_to_list (changed_next job)

-- these names are held alone in this order besides those that were, and no others
abbrev pub IsHeld : (names old new : List (List ℕ)) → Type 0
IsHeld names old new = new ≡ old ++ names

-- the script of these bytes, if they spell one
abbrev pub spelled : Result Plan Refusal → Option Plan
spelled (Ok plan) = Some plan
spelled (Err refusal) = None

-- the script in a file, if there is one
abbrev pub script_at : File → Option Plan
script_at None = None
script_at (Some bytes) = spelled (script_of bytes)

-- it is the script that the job runs, as the files tell it
abbrev pub IsScriptOf : Files → Job → Option Plan → Type 0
IsScriptOf files (Run name) script = script ≡ script_at (files name)
IsScriptOf files other script = Unit {0}
