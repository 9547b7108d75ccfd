-- A script that can't be read is refused, and never as words that name no job.
use Rattle.std.proofs.Common.{◌≡◌, ◌≢◌, ℕ, ◌+◌, ◌<◌, List, [], ◌∷◌, Bool, true, false, length, refl, sym, ap, subst, ◌∙◌, Result, Ok, Err, Option, Some, None, nat_lt, if◌then◌else◌}
use Rattle.nb_top.proofs.Common.{lt-ltb, File, Refusal, Usage, BadScript, ScriptLong, Statement, Bytes, lines_of, left, Plan, Numbered, started, with_statement, or_bad, with_lines, order_in, with_order, of_lines, script_of, script_in, some_none, some_same}
use Rattle.std.specs.Option.{option_map}
use Rattle.nb_script.specs.FirstLine.{first_at}
use Rattle.nb_script.specs.Statements.{statement_at}

-- a script is broken at a line, or spelled
abbrev pub IsBroken : Result Plan Refusal → Type 0
IsBroken (Ok plan) = Unit {0}
IsBroken (Err refusal) = (line : ℕ) × (refusal ≡ BadScript line)

read_broken : (line : Numbered) (o : Option (ℕ × Statement)) (next : ℕ × Statement → Result Plan Refusal) → ((read : ℕ × Statement) → IsBroken (next read)) → IsBroken (or_bad line o next)
read_broken line None next all = (line.0, refl)
read_broken line (Some read) next all = all read

lines_broken : (taken : ℕ) (plan : Plan) (lines : List Numbered) → IsBroken (with_lines taken plan lines)
unfolding with_lines
lines_broken taken plan [] = tt
lines_broken taken plan (line ∷ lines) = read_broken line (if nat_lt taken 10000 then statement_at line.1 else None) _ (λ read. lines_broken (taken + 1) (with_statement plan read) lines)

pub all_broken : (count : ℕ) (lines : List Numbered) → IsBroken (of_lines count lines)
unfolding of_lines with_order
all_broken count [] = (count + 1, refl)
all_broken count (line ∷ lines) = read_broken line (first_at line.1) _ (λ first. lines_broken 1 (started first.0 first.1 (order_in lines).0) (order_in lines).1)

-- a refusal isn't for words
abbrev IsForScript : Result Plan Refusal → Type 0
IsForScript (Ok plan) = Unit {0}
IsForScript (Err refusal) = refusal ≢ Usage

bad_line : (line : ℕ) → BadScript line ≢ Usage
bad_line line h = cc

broken_for : (r : Result Plan Refusal) → IsBroken r → IsForScript r
broken_for (Ok plan) is = tt
broken_for (Err refusal) is = λ (e : refusal ≡ Usage). bad_line is.0 (sym is.1 ∙ e)

script_read : (bytes : Bytes) → IsForScript (script_of bytes)
unfolding script_of
script_read bytes = by (nat_lt 1048576 (length bytes))
  where
    by : (b : Bool) → IsForScript (if b then Err (ScriptLong (length bytes)) else of_lines (length (lines_of bytes)) (left 0 bytes))
    by true = λ e. cc
    by false = broken_for (of_lines (length (lines_of bytes)) (left 0 bytes)) (all_broken (length (lines_of bytes)) (left 0 bytes))

pub file_read : (name : List ℕ) (file : File) → IsForScript (script_in name file)
file_read name None = λ e. cc
file_read name (Some bytes) = script_read bytes

pub refused_script : (name : List ℕ) (file : File) (refusal : Refusal) → script_in name file ≡ Err refusal → refusal ≢ Usage
refused_script name file refusal is = subst IsForScript is (file_read name file)

-- a file that is too long
pub long_file : (name bytes : List ℕ) (file : File) (size : ℕ) → file ≡ Some bytes → size ≡ length bytes → 1048576 < size → script_in name file ≡ Err (ScriptLong size)
unfolding script_of
long_file name bytes file size there is high = ap (script_in name) there ∙ rw (lt-ltb 1048576 (length bytes) (subst (λ n. 1048576 < n) is high)) (ap (λ n. Err (ScriptLong n)) (sym is))

-- a file that has a size
pub record SomeFile (file : File) (size : ℕ) : Type 0 where
  pub bytes : List ℕ
  pub is : file ≡ Some bytes
  pub long : size ≡ length bytes

pub some_file : (file : File) (size : ℕ) → Some size ≡ option_map length file → SomeFile file size
some_file None size is = absurd (some_none size is)
some_file (Some bytes) size is = record { bytes = bytes; is = refl; long = some_same size (length bytes) is }
