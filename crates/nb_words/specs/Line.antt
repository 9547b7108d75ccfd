-- The command line, as `clap` is told of it: seven flags that are counted, and one last argument that takes every plain word.
use Rattle.std.specs.Prelude.{ℕ, List, [], ◌∷◌, Some, codes, unwrap_or, true}
use Rattle.clap.specs.Words.{App, Rule, Row, Text, new_app, new_rule, with_rule, all_of}
use Rattle.clap.specs.Lexer.{usize_max}
use Rattle.clap.specs.declared.builder.action.ArgAction.TheVariants.{Append, Count}

-- what the plain words are called
abbrev pub words_id : Text
words_id = codes "words"

-- a flag of one letter, which is also what it is called; it may be given any number of times
abbrev pub flag : ℕ → Rule
flag letter = record (new_rule (letter ∷ [])) { short = Some letter; action = Some Count }

-- the last argument, which takes every plain word
abbrev pub plain : Rule
plain = record (new_rule words_id) {
  action = Some Append;
  range = Some (record { start_inclusive = 0; end_inclusive = usize_max });
}

-- no name of a program among the words, and no help
abbrev pub bare : App
bare = let a = new_app (codes "nehumiro") in record a { top = record a.top { no_binary_name = true; disable_help_flag = true } }

-- the command line
unfoldable pub line : App
line =
    with_rule (with_rule (with_rule (with_rule (with_rule (with_rule (with_rule (with_rule bare
    (flag 66)) (flag 82)) (flag 76)) (flag 83))
    (flag 78)) (flag 70)) (flag 73)) plain

-- the plain words among what was found
abbrev pub words_in : List Row → List Text
words_in rows = unwrap_or (all_of words_id rows) []
