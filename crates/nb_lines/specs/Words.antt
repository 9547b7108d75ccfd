-- A word of a line, without where it lies in memory.
use Rattle.std.specs.Prelude.{ℕ, List, [], ◌∷◌}
use Rattle.std.specs.Borrow.{Bor}
use Rattle.nb_model.specs.Lines.{Word as Spelled, is, number, guid, hex, quoted, reply_words}
use Rattle.nb_model.specs.declared.reply.Reply.{Reply}
use Rattle.nb_model.specs.declared.reply.Reply.TheVariants.{HeaderShown, PagesShown, ImageShown, CacheShown}
use Rattle.nb_lines.specs.declared.word.Word.{Word}
use Rattle.nb_lines.specs.declared.word.Word.TheVariants.{Is, Name, Number, Guid, Digest, Quoted}

abbrev pub seen : Word → Spelled
seen (Is text) = is text.now
seen (Name name) = is name.now
seen (Number n) = number n
seen (Guid bytes) = guid bytes.now
seen (Digest bytes) = hex bytes.now
seen (Quoted text) = quoted text.now

-- the words of a reply that shows something, and none of another
abbrev pub shown_words : Reply → List Spelled
shown_words (HeaderShown page_size pages state scn backup forced access delta) = reply_words (HeaderShown page_size pages state scn backup forced access delta)
shown_words (PagesShown header inventory scn data_pages raw other free) = reply_words (PagesShown header inventory scn data_pages raw other free)
shown_words (ImageShown pages sha256) = reply_words (ImageShown pages sha256)
shown_words (CacheShown capacity held) = reply_words (CacheShown capacity held)
shown_words _ = []

-- the name of a field and then its value
abbrev pub named : Bor (List ℕ) × Word → List Spelled
named field = is field.0.now ∷ seen field.1 ∷ []
