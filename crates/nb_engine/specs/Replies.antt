-- The replies of calls by what they answer.
use Rattle.std.specs.Prelude.{ℕ}
use Rattle.arrayvec.specs.ArrayVec.{ArrayVec}
use Rattle.nb_model.specs.declared.reply.Reply.{Reply}
use Rattle.nb_model.specs.declared.reply.Reply.TheVariants.{Done, PageMade, Value, Scn}

-- `ok`
abbrev pub done : Unit {0} → Reply
done value = Done

-- the text
abbrev pub valued : ArrayVec ℕ → Reply
valued text = Value text.items

-- the number of a new page
abbrev pub page_made : ℕ → Reply
page_made number = PageMade number

-- the SCN
abbrev pub scn_is : ℕ → Reply
scn_is scn = Scn scn
