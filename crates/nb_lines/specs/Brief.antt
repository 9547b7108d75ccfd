-- Replies that say what a statement has done: their lines are brief.
use Rattle.std.specs.Prelude.{◌≡◌, ◌≤◌, ℕ, List, [], Bool, true, false}
use Rattle.std.specs.Global.{Vec}
use Rattle.std.specs.Vec.{vec_capacity}
use Rattle.nb_model.specs.Lines.{Word, reply_words}
use Rattle.nb_model.specs.declared.reply.Reply.{Reply}
use Rattle.nb_model.specs.declared.reply.Reply.TheVariants.{Done, Pages, PageMade, Scn, ScnPages, Level, Freed, Activated}

-- the reply says what was done
abbrev pub is_brief : Reply → Bool
is_brief Done = true
is_brief (Pages pages) = true
is_brief (PageMade page) = true
is_brief (Scn scn) = true
is_brief (ScnPages scn pages) = true
is_brief (Level level scn pages id) = true
is_brief (Freed pages) = true
is_brief (Activated pages scn) = true
is_brief other = false

-- its words, and none of another reply
abbrev pub brief_words : Reply → List Word
brief_words Done = reply_words Done
brief_words (Pages pages) = reply_words (Pages pages)
brief_words (PageMade page) = reply_words (PageMade page)
brief_words (Scn scn) = reply_words (Scn scn)
brief_words (ScnPages scn pages) = reply_words (ScnPages scn pages)
brief_words (Level level scn pages id) = reply_words (Level level scn pages id)
brief_words (Freed pages) = reply_words (Freed pages)
brief_words (Activated pages scn) = reply_words (Activated pages scn)
brief_words other = []

-- an empty line with memory for as many bytes as a brief one has at most
pub record HasRoom (line : Vec ℕ) : Type 0 where
  pub empty : line.items ≡ []
  pub room : 192 ≤ vec_capacity line
