-- What was read of the words, and what they ask for.
use Rattle.std.proofs.Common.{◌≡◌, ⊎_elim, ℕ, List, sym, subst, ◌∙◌, String, Result, Ok, Err, map, string_bytes}
use Rattle.nb_cli.proofs.Common.{Asked, IsAskedBy, IsReadJob, IsAskedOf, IsReadOf, device_memory}
use Rattle.std.specs.Global.{Global, Vec}
use Rattle.std.specs.declared.io.Error.{Error}
use Rattle.nb_host.specs.Files.{Files}
use Rattle.nb_host.specs.declared.faults.Fault.{Fault}
use Rattle.nb_host.specs.declared.faults.Fault.TheVariants.{Refused, Device, Memory}
use Rattle.nb_host.specs.declared.refusals.Refusal.TheVariants.{Usage}
use Rattle.nb_model.specs.declared.job.Job.{Job}
use Rattle.nb_top.proofs.RequestLaws.{asked_job, asked_usage}
use Rattle.nb_top.proofs.WordsFit.{fits_words}

-- the bytes of the words
abbrev texts : Vec (String Global) → List (List ℕ)
texts words = map string_bytes words.items

device_refused : Device ≡ Refused Usage → ⊥
device_refused h = cc

-- It can be done: the names are those that words may give.
pub can_be_read : (words : Result (Vec (String Global)) Error) (read : Result Job Fault) → IsReadOf words read → IsReadJob read
can_be_read (Ok words) (Ok job) is = fits_words (texts words) job is
can_be_read (Ok words) (Err (Refused refusal)) is = tt
can_be_read (Ok words) (Err Memory) is = tt
can_be_read (Ok words) (Err Device) is = ⊎_elim device_memory (λ usage. device_refused usage.0) is
can_be_read (Err error) read is = ⊎_elim (λ memory. subst IsReadJob (sym memory.0) tt) (λ usage. subst IsReadJob (sym usage.0) tt) is

-- what the words ask for is what the job asks for that was read of them
pub asked_by : (words : Result (Vec (String Global)) Error) (read : Result Job Fault) (files : Files) (asked : Asked) → IsReadOf words read → IsAskedOf words files asked → IsAskedBy read files asked
asked_by (Ok words) (Ok job) files asked is ask = ask ∙ asked_job files (texts words) job is
asked_by (Ok words) (Err fault) files asked is ask =
    ⊎_elim (λ memory. subst (λ (f : Fault). IsAskedBy (Err f) files asked) (sym memory) (texts words, ask))
    (λ usage. subst (λ (f : Fault). IsAskedBy (Err f) files asked) (sym usage.0) (ask ∙ asked_usage files (texts words) usage.1)) is
asked_by (Err error) read files asked is ask =
    ⊎_elim (λ memory. subst (λ (r : Result Job Fault). IsAskedBy r files asked) (sym memory.0) (ask.1 memory.1)) (λ usage. subst (λ (r : Result Job Fault). IsAskedBy r files asked) (sym usage.0) (ask.0 usage.1)) is
