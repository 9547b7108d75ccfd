-- The words among the arguments.
use Rattle.std.proofs.Common.{◌≡◌, ◌≢◌, ◌⊎◌, ⊎_elim, inl, inr, ℕ, List, refl, sym, ap, subst, ◌∙◌, String, Bool, [], ◌∷◌, ◌++◌, length, drop, append_assoc, Result, Ok, Err, None, Some, Option, IfOk, IfErr, IsErr, arith, MatchOption, ◌+◌, map, string_bytes}
use Rattle.std.specs.Global.{Global, Vec}
use Rattle.std.specs.IoError.{error_kind}
use Rattle.std.specs.declared.io.Error.{Error}
use Rattle.std.specs.declared.io.ErrorKind.TheVariants.{OutOfMemory}
use Rattle.nb_cli.proofs.Common.{Asked, IsAskedOf, IsReadOf, Words, Arguments, AreWordsOf, IsAskedIn, texts_of, IsWithoutMemory, BeginsRun}
use Rattle.nb_host.specs.Calls.{IsSilent, IsStill}
use Rattle.nb_host.specs.Files.{Files}
use Rattle.nb_host.specs.Moments.{Passes}
use Rattle.nb_host.specs.World.{World}
use Rattle.nb_host.specs.declared.faults.Fault.{Fault}
use Rattle.nb_host.specs.declared.faults.Fault.TheVariants.{Refused, Memory}
use Rattle.nb_host.specs.declared.refusals.Refusal.TheVariants.{Usage}
use Rattle.nb_model.specs.declared.job.Job.{Job}
use Rattle.nb_model.specs.Words.{job_of}
use Rattle.nb_script.specs.Scripts.{Plan}
use Rattle.nb_beside.specs.Changed.{IsHeld, IsScriptOf, changed_by}
use Rattle.nb_ended.specs.Numbers.{number_of}
use Rattle.nb_ended.specs.declared.status.Status.{Status}
use Rattle.nb_ended.specs.declared.status.Status.TheVariants.{Done, Refused as RefusedStatus, Usage as UsageStatus, Device as DeviceStatus, Memory as MemoryStatus}
use Rattle.nb_top.specs.Requests.{NamesNone, request_asked}

-- what the arguments ask for is what the words do
pub asked_of : (args : Arguments) (words : Words) (files : Files) (asked : Asked) → AreWordsOf args words → IsAskedIn args files asked → IsAskedOf words files asked
asked_of (Ok args) (Ok words) files asked is ask = ask ∙ ap (λ (xs : List (String Global)). request_asked files (map string_bytes xs)) (sym is)
asked_of (Ok args) (Err error) files asked is ask = (λ not_memory. absurd (not_memory is), λ memory. (texts_of args, ask))
asked_of (Err error) words files asked is ask = subst (λ (w : Words). IsAskedOf w files asked) (sym is) ask

-- it ends neither as done nor as refused
abbrev pub IsNeither : ℕ → Type 0
IsNeither code = code ≢ 0 × code ≢ 1

-- nor as usage
abbrev pub IsShort : ℕ → Error → Type 0
IsShort code error = error_kind error ≡ OutOfMemory → code ≢ 0 × code ≢ 1 × code ≢ 2

pub usage_of : (args : Arguments) (words : Words) (code : ℕ) → AreWordsOf args words → (code ≡ 2 → IfOk words (λ words. job_of (map string_bytes words.items) ≡ None)) → IfErr words (IsShort code) → code ≡ 2 → IfOk args (λ args. job_of (texts_of args) ≡ None)
usage_of (Ok args) (Ok words) code is usage short two = subst (λ (xs : List (String Global)). job_of (map string_bytes xs) ≡ None) is (usage two)
usage_of (Ok args) (Err error) code is usage short two = absurd ((short is).2 two)
usage_of (Err error) words code is usage short two = tt

pub no_job_of : (args : Arguments) (words : Words) (code : ℕ) → AreWordsOf args words → IfOk words (λ words. job_of (map string_bytes words.items) ≡ None → IsNeither code) → IfErr words (IsShort code) → IfOk args (λ args. job_of (texts_of args) ≡ None → IsNeither code)
no_job_of (Ok args) (Ok words) code is no_job short = λ none. no_job (subst (λ (xs : List (String Global)). job_of (map string_bytes xs) ≡ None) (sym is) none)
no_job_of (Ok args) (Err error) code is no_job short = λ none. ((short is).0, (short is).1)
no_job_of (Err error) words code is no_job short = tt

-- what is said of words that weren't read is said of arguments that weren't
pub unread : (args : Arguments) (words : Words) (P : Error → Type 0) → AreWordsOf args words → IfErr words P → IfErr args P
unread (Ok args) words P is holds = tt
unread (Err error) words P is holds = subst (λ (w : Words). IfErr w P) is holds

-- it is this fault
abbrev IsFault : Result Job Fault → Fault → Type 0
IsFault read fault = read ≡ Err fault

ok_err : (job : Job) (fault : Fault) → IsFault (Ok job) fault → ⊥
ok_err job fault h = cc

pub read_without : (words : Words) (job given : Result Job Fault) → IsReadOf words job → IsWithoutMemory job given → IsReadOf words given
read_without (Ok words) (Ok job) given read is = subst (IsReadOf (Ok words)) (sym is) (inl refl)
read_without (Err error) (Ok job) given read is = ⊎_elim (λ memory. absurd (ok_err job Memory memory.0)) (λ usage. absurd (ok_err job (Refused Usage) usage.0)) read
read_without (Ok words) (Err fault) given read is = subst (IsReadOf (Ok words)) (sym is) read
read_without (Err error) (Err fault) given read is = subst (IsReadOf (Err error)) (sym is) read

none_given : (job given : Result Job Fault) → IsWithoutMemory job given → (P : Job → Type 0) → IfOk given P
none_given (Ok job) given is P = subst (λ (g : Result Job Fault). IfOk g P) (sym is) tt
none_given (Err fault) given is P = subst (λ (g : Result Job Fault). IfOk g P) (sym is) tt

-- a run that is given no job holds no database
pub begins_without : {H : Type 0} (tells : Bool) (world : H → World) (alone : H → List (List ℕ)) (words : Words) (job given : Result Job Fault) (script : Option Plan) (old begun : H) → IsReadOf words job → IsWithoutMemory job given
    → IsStill (world old) (world begun) → IsSilent (world old) (world begun) → Passes (world old) (world begun) → BeginsRun tells world alone words given script old begun
begins_without tells world alone words job given script old begun read is still silent passes = record {
  read = read_without words job given read is;
  held = none_given job given is (λ job. IsHeld (changed_by script job) (alone old) (alone begun));
  told = λ _. none_given job given is (λ job. IsScriptOf (world old).files job script);
  still = still;
  silent = silent;
  passes = passes;
}

-- a list without elements
empty : {A : Type 0} (xs : List A) → length xs ≡ 0 → xs ≡ []
empty [] none = refl
empty (x ∷ xs) none = cc

-- what is still to come after the first, where so many were and are
pub after_first : {A : Type 0} (before after : List A) (many few : ℕ) (first : Option A) → many ≡ length before → few ≡ length after
    → MatchOption first ((many ≡ 0) × (few ≡ 0)) (λ x. (before ≡ x ∷ after) × (few + 1 ≡ many)) → after ≡ drop 1 before
after_first before after many few None is_many is_few steps = empty after (sym is_few ∙ steps.1) ∙ sym (ap (drop 1) (empty before (sym is_many ∙ steps.0)))
after_first before after many few (Some x) is_many is_few steps = sym (ap (drop 1) steps.0)

-- none is still to come
pub none_left : {A : Type 0} (left : List A) (many few : ℕ) → many ≡ length left → many ≡ 0 → left ≡ []
none_left left many few is none = empty left (sym is ∙ none)

-- one more is taken
pub one_taken : {A : Type 0} (taken : List A) (x : A) (left : List A) → (taken ++ x ∷ []) ++ left ≡ taken ++ x ∷ left
one_taken taken x left = append_assoc taken (x ∷ []) left

-- the number of a status that is neither
pub code_neither : (status : Status) (code : ℕ) → code ≡ number_of status → status ≢ Done × status ≢ RefusedStatus → IsNeither code
code_neither Done code is other = absurd (other.0 refl)
code_neither RefusedStatus code is other = absurd (other.1 refl)
code_neither UsageStatus code is other = (λ zero. omega arith, λ one. omega arith)
code_neither DeviceStatus code is other = (λ zero. omega arith, λ one. omega arith)
code_neither MemoryStatus code is other = (λ zero. omega arith, λ one. omega arith)

pub code_two : (status : Status) (code : ℕ) → code ≡ number_of status → code ≡ 2 → status ≡ UsageStatus
code_two Done code is two = absurd (omega arith)
code_two RefusedStatus code is two = absurd (omega arith)
code_two UsageStatus code is two = refl
code_two DeviceStatus code is two = absurd (omega arith)
code_two MemoryStatus code is two = absurd (omega arith)

not_some : (read : Option Job) (job : Job) → read ≡ Some job → read ≡ None → ⊥
not_some read job some none = cc

unread_err : (error : Error) (job : Result Job Fault) → IsReadOf (Err error) job → IsErr job
unread_err error job read = ⊎_elim (λ memory. subst IsErr (sym memory.0) refl) (λ usage. subst IsErr (sym usage.0) refl) read

pub no_job_read : (words : Words) (job : Result Job Fault) (code : ℕ) → IsReadOf words job → (IsErr job → IsNeither code) → IfOk words (λ words. job_of (map string_bytes words.items) ≡ None → IsNeither code)
no_job_read (Ok words) (Ok job) code read neither = λ none. absurd (not_some (job_of (map string_bytes words.items)) job read none)
no_job_read (Ok words) (Err fault) code read neither = λ none. neither refl
no_job_read (Err error) job code read neither = tt

pub no_text_read : (words : Words) (job : Result Job Fault) (code : ℕ) → IsReadOf words job → (IsErr job → IsNeither code) → IfErr words (λ error. error_kind error ≢ OutOfMemory → IsNeither code)
no_text_read (Ok words) job code read neither = tt
no_text_read (Err error) job code read neither = λ _. neither (unread_err error job read)

pub memory_read : (words : Words) (job : Result Job Fault) (code : ℕ) → IsReadOf words job → (IsErr job → IsNeither code) → (code ≡ 2 → NamesNone job) → IfErr words (IsShort code)
memory_read (Ok words) job code read neither names = tt
memory_read (Err error) job code read neither names =
    λ short. let other = neither (unread_err error job read) in (other.0, other.1, λ two. ⊎_elim (λ memory. subst NamesNone memory.0 (names two)) (λ usage. usage.1 short) read)
