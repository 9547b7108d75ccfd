-- The line of a reply.
use Rattle.std.specs.Prelude.{ℕ, Bool, true, false, List, [], ◌∷◌, ◌++◌, length, map, codes}
use Rattle.std.specs.Fmt.{decimal}
use Rattle.uuid.specs.Text.{hyphenated_text, lower}
use Rattle.hex.specs.Hex.{encode_lower}
use Rattle.nb_host.specs.declared.refusals.Refusal.{Refusal}
use Rattle.nb_host.specs.declared.refusals.Refusal.TheVariants.{Usage, BadScript, NoFile, FileExists, NotDatabase, WrongState, BadDelta, Unfinished, PageRange, NotAllocated, SystemPage, Full, ScnExhausted, NoHistory, BadLevel, ChainLevel, ChainGuid, ChainSize, ChainScn, Access, TextLong, NoTable, TableExists, KeyExists, NoKey, TooManyTables, BackupRunning, DeltaPresent, ScriptLong, NoGuid, Unsound, ShadowName}
use Rattle.nb_model.specs.declared.reply.Reply.{Reply}
use Rattle.nb_model.specs.declared.reply.Reply.TheVariants.{Done, Pages, Opened, PageMade, Value, Scn, Activated, ScnPages, Level, Rows, HeaderShown, PagesShown, ImageShown, CacheShown, Leaked, Freed, Planned, Refused}

-- one word of a line: a fixed one, a number, a name, a GUID, a digest or a quoted text
pub data Word : Type 0 where
  is : List ℕ → Word
  number : ℕ → Word
  guid : List ℕ → Word
  hex : List ℕ → Word
  quoted : List ℕ → Word

-- as it is written; a GUID hyphenated in lower case, a digest as lower-case hexadecimal digits
unfoldable pub word_text : Word → List ℕ
word_text (is text) = text
word_text (number n) = decimal n
word_text (guid bytes) = hyphenated_text lower bytes
word_text (hex bytes) = encode_lower bytes
word_text (quoted text) = 39 ∷ (text ++ 39 ∷ [])

-- each word with a space before it
unfoldable pub spaced : List Word → List ℕ
spaced [] = []
spaced (w ∷ ws) = 32 ∷ (word_text w ++ spaced ws)

abbrev pub flag : Bool → ℕ
flag true = 1
flag false = 0

-- the number of a refusal, its name and the values of its fields
abbrev pub refusal_words : Refusal → List Word
refusal_words Usage = number 1 ∷ is (codes "Usage") ∷ []
refusal_words (BadScript line) = number 2 ∷ is (codes "BadScript") ∷ number line ∷ []
refusal_words (NoFile name) = number 3 ∷ is (codes "NoFile") ∷ is name ∷ []
refusal_words (FileExists name) = number 4 ∷ is (codes "FileExists") ∷ is name ∷ []
refusal_words (NotDatabase page) = number 5 ∷ is (codes "NotDatabase") ∷ number page ∷ []
refusal_words (WrongState found) = number 6 ∷ is (codes "WrongState") ∷ number found ∷ []
refusal_words (BadDelta page) = number 7 ∷ is (codes "BadDelta") ∷ number page ∷ []
refusal_words Unfinished = number 8 ∷ is (codes "Unfinished") ∷ []
refusal_words (PageRange page count) = number 9 ∷ is (codes "PageRange") ∷ number page ∷ number count ∷ []
refusal_words (NotAllocated page) = number 10 ∷ is (codes "NotAllocated") ∷ number page ∷ []
refusal_words (SystemPage page) = number 11 ∷ is (codes "SystemPage") ∷ number page ∷ []
refusal_words (Full count) = number 12 ∷ is (codes "Full") ∷ number count ∷ []
refusal_words (ScnExhausted scn) = number 13 ∷ is (codes "ScnExhausted") ∷ number scn ∷ []
refusal_words (NoHistory level) = number 14 ∷ is (codes "NoHistory") ∷ number level ∷ []
refusal_words (BadLevel name at) = number 15 ∷ is (codes "BadLevel") ∷ is name ∷ number at ∷ []
refusal_words (ChainLevel name found wanted) = number 16 ∷ is (codes "ChainLevel") ∷ is name ∷ number found ∷ number wanted ∷ []
refusal_words (ChainGuid name found wanted) = number 17 ∷ is (codes "ChainGuid") ∷ is name ∷ guid found ∷ guid wanted ∷ []
refusal_words (ChainSize name found wanted) = number 18 ∷ is (codes "ChainSize") ∷ is name ∷ number found ∷ number wanted ∷ []
refusal_words (ChainScn name found wanted) = number 19 ∷ is (codes "ChainScn") ∷ is name ∷ number found ∷ number wanted ∷ []
refusal_words (Access found) = number 20 ∷ is (codes "Access") ∷ number found ∷ []
refusal_words (TextLong len) = number 21 ∷ is (codes "TextLong") ∷ number len ∷ []
refusal_words NoTable = number 22 ∷ is (codes "NoTable") ∷ []
refusal_words TableExists = number 23 ∷ is (codes "TableExists") ∷ []
refusal_words (KeyExists key) = number 24 ∷ is (codes "KeyExists") ∷ number key ∷ []
refusal_words (NoKey key) = number 25 ∷ is (codes "NoKey") ∷ number key ∷ []
refusal_words TooManyTables = number 26 ∷ is (codes "TooManyTables") ∷ []
refusal_words (BackupRunning session) = number 27 ∷ is (codes "BackupRunning") ∷ number session ∷ []
refusal_words (DeltaPresent name) = number 28 ∷ is (codes "DeltaPresent") ∷ is name ∷ []
refusal_words (ScriptLong bytes) = number 29 ∷ is (codes "ScriptLong") ∷ number bytes ∷ []
refusal_words (NoGuid id) = number 30 ∷ is (codes "NoGuid") ∷ guid id ∷ []
refusal_words (Unsound fact page) = number 31 ∷ is (codes "Unsound") ∷ number fact ∷ number page ∷ []
refusal_words (ShadowName name) = number 32 ∷ is (codes "ShadowName") ∷ is name ∷ []

-- key and text of each row
abbrev pub row_words : List (ℕ × List ℕ) → List Word
row_words [] = []
row_words (row ∷ rows) = number row.0 ∷ quoted row.1 ∷ row_words rows

-- each name
abbrev pub name_words : List (List ℕ) → List Word
name_words names = map is names

-- each page
abbrev pub page_words : List ℕ → List Word
page_words pages = map number pages

-- `ok` and what follows, or `refused` and what follows
abbrev pub reply_words : Reply → List Word
reply_words Done = is (codes "ok") ∷ []
reply_words (Pages pages) = is (codes "ok") ∷ is (codes "pages") ∷ number pages ∷ []
reply_words (Opened pages state) = is (codes "ok") ∷ is (codes "pages") ∷ number pages ∷ is (codes "state") ∷ number state ∷ []
reply_words (PageMade page) = is (codes "ok") ∷ is (codes "page") ∷ number page ∷ []
reply_words (Value text) = is (codes "ok") ∷ quoted text ∷ []
reply_words (Scn scn) = is (codes "ok") ∷ is (codes "scn") ∷ number scn ∷ []
reply_words (Activated pages scn) = is (codes "ok") ∷ is (codes "pages") ∷ number pages ∷ is (codes "scn") ∷ number scn ∷ []
reply_words (ScnPages scn pages) = is (codes "ok") ∷ is (codes "scn") ∷ number scn ∷ is (codes "pages") ∷ number pages ∷ []
reply_words (Level level scn pages id) = is (codes "ok") ∷ is (codes "level") ∷ number level ∷ is (codes "scn") ∷ number scn ∷ is (codes "pages") ∷ number pages ∷ is (codes "guid") ∷ guid id ∷ []
reply_words (Rows rows) = is (codes "ok") ∷ is (codes "rows") ∷ number (length rows) ∷ row_words rows
reply_words (HeaderShown page_size pages state scn id forced access delta) = is (codes "ok") ∷ is (codes "size") ∷ number page_size ∷ is (codes "pages") ∷ number pages ∷ is (codes "state") ∷ number state
    ∷ is (codes "scn") ∷ number scn ∷ is (codes "guid") ∷ guid id ∷ is (codes "forced") ∷ number (flag forced) ∷ is (codes "access") ∷ number access ∷ is (codes "delta") ∷ number delta ∷ []
reply_words (PagesShown header inventory scn data_pages raw other free) = is (codes "ok") ∷ is (codes "header") ∷ number header ∷ is (codes "inventory") ∷ number inventory ∷ is (codes "scn") ∷ number scn
    ∷ is (codes "data") ∷ number data_pages ∷ is (codes "raw") ∷ number raw ∷ is (codes "other") ∷ number other ∷ is (codes "free") ∷ number free ∷ []
reply_words (ImageShown pages sha256) = is (codes "ok") ∷ is (codes "pages") ∷ number pages ∷ is (codes "sha256") ∷ hex sha256 ∷ []
reply_words (CacheShown capacity held) = is (codes "ok") ∷ is (codes "cache") ∷ number capacity ∷ is (codes "held") ∷ number held ∷ []
reply_words (Leaked pages) = is (codes "ok") ∷ is (codes "leaked") ∷ number (length pages) ∷ page_words pages
reply_words (Freed pages) = is (codes "ok") ∷ is (codes "freed") ∷ number pages ∷ []
reply_words (Planned kept dropped orphans) = is (codes "ok") ∷ is (codes "keep") ∷ number kept ∷ is (codes "drop") ∷ number (length dropped) ∷ is (codes "orphan") ∷ number (length orphans)
    ∷ (name_words dropped ++ name_words orphans)
reply_words (Refused refusal) = is (codes "refused") ∷ refusal_words refusal

-- the session, a colon, the words, and a line feed
unfoldable pub line_text : ℕ → Reply → List ℕ
line_text session reply = decimal session ++ (58 ∷ (spaced (reply_words reply) ++ 10 ∷ []))
