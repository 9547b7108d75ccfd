-- The pages in danger that are found of a database.
use Rattle.std.proofs.Common.{◌≡◌, ◌≢◌, ℕ, List, sym, ◌∙◌, subst, Bool, Option, None, Result, Ok, Err, IfOk}
use Rattle.nb_top.proofs.Common.{Refused, Refusal, Fault, RunError, Files, World, Base, Job, Status, EndsAs}
use Rattle.nb_model.specs.Owner.{delta_name, owner}
use Rattle.nb_model.specs.declared.job.Ask.{Ask}
use Rattle.nb_model.specs.declared.job.Ask.TheVariants.{Check as CheckAsk}
use Rattle.nb_model.specs.declared.job.Job.TheVariants.{Attach}
use Rattle.nb_model.specs.declared.statement.Statement.{Statement}
use Rattle.nb_model.specs.declared.statement.Statement.TheVariants.{Check}
use Rattle.nb_model.specs.Trail.{ShowsIn}
use Rattle.nb_session.specs.Dangers.{danger_after}
use Rattle.nb_state.specs.Beginnings.{Attaches}
use Rattle.nb_state.specs.Open.{Held}
use Rattle.nb_top.specs.Dangers.{FindsIn, IsDangerOf}

-- files show one database
one_shown : (a b : Base) (r : Result Base Refusal) → r ≡ Ok a → r ≡ Ok b → a ≡ b
one_shown a b r is other = cc

-- what turns have found of the database that was opened is that of the files
pub found_shown : (files : Files) (name : List ℕ) (opened : Base) (statement : Statement) (found : Option (List ℕ)) (turns : Result Bool RunError) (result : Result Status RunError)
    → EndsAs turns result → ShowsIn name opened files → IfOk turns (λ refused. found ≡ danger_after statement opened.image None) → IfOk result (λ status. FindsIn files name statement found)
found_shown files name opened statement found (Ok refused) (Ok status) ends shows is = λ base also.
    subst (λ (b : Base). found ≡ danger_after statement b.image None) (one_shown opened base (owner name (files name) (files (delta_name name))) shows also) is
found_shown files name opened statement found (Ok refused) (Err error) ends shows is = tt
found_shown files name opened statement found (Err error) (Ok status) ends shows is = absurd ends
found_shown files name opened statement found (Err error) (Err same) ends shows is = tt

-- files that aren't opened show none
pub none_shown : (old new : World) (name : List ℕ) (answer : Result Held Fault) (refusal : Refusal) (statement : Statement) (found : Option (List ℕ)) (result : Result Status RunError)
    → answer ≡ Err (Refused refusal) → Attaches answer old new name → IfOk result (λ status. FindsIn old.files name statement found)
none_shown old new name answer refusal statement found (Ok status) is attaches = λ base shows.
    let not = subst (λ (a : Result Held Fault). Attaches a old new name) is attaches in
    absurd (cc (not, shows))
none_shown old new name answer refusal statement found (Err error) is attaches = tt

module _ (found : Option (List ℕ)) (files : Files) where
  -- a database was asked this
  pub attach_danger : (result : Result Status RunError) (job : Job) (db : List ℕ) (ask : Ask) → job ≡ Attach db ask → (ask ≡ CheckAsk → IfOk result (λ status. FindsIn files db Check found)) → IsDangerOf result found files job
  attach_danger (Ok status) job db ask is finds = λ other same.
      let both : Attach db ask ≡ Attach other CheckAsk = sym is ∙ same in
      let name : db ≡ other = cc both in
      let check : ask ≡ CheckAsk = cc both in
      subst (λ (n : List ℕ). FindsIn files n Check found) name (finds check)
  attach_danger (Err stop) job db ask is finds = tt

  -- none was checked
  pub other_danger : (result : Result Status RunError) (job : Job) → ((db : List ℕ) → job ≢ Attach db CheckAsk) → IsDangerOf result found files job
  other_danger (Ok status) job other = λ db same. absurd (other db same)
  other_danger (Err stop) job other = tt

  pub read_danger : (result : Result Status RunError) (read : Result Job Fault) (job : Job) → read ≡ Ok job → IsDangerOf result found files job
      → IfOk result (λ status. (db : List ℕ) → read ≡ Ok (Attach db CheckAsk) → FindsIn files db Check found)
  read_danger (Ok status) read job is danger = λ db same. let this : job ≡ Attach db CheckAsk = cc (is, same) in danger db this
  read_danger (Err stop) read job is danger = tt

  pub unread_danger : (result : Result Status RunError) (read : Result Job Fault) (fault : Fault) → read ≡ Err fault → IfOk result (λ status. (db : List ℕ) → read ≡ Ok (Attach db CheckAsk) → FindsIn files db Check found)
  unread_danger (Ok status) read fault is = λ db same. absurd (cc (is, same))
  unread_danger (Err stop) read fault is = tt
