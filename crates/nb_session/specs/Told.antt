-- What is told of replies.
use Rattle.std.specs.Prelude.{ℕ, List, [], Option, None, Some}
use Rattle.nb_model.specs.declared.reply.Reply.{Reply}
use Rattle.nb_model.specs.Generated.{last_or_refusal, said_by_generated}
use Rattle.nb_model.specs.Jobs.{sized, all_sized}
use Rattle.nb_model.specs.Lines.{line_text}
use Rattle.nb_model.specs.Output.{status_after}
use Rattle.nb_model.specs.Run.{Event, Played}
use Rattle.nb_session.specs.declared.told.Told.{Told}
use Rattle.nb_session.specs.declared.told.Told.TheVariants.{Whole, WithPages, Sparingly}

-- of one reply, if there is one
abbrev pub told_reply : Told → Option Reply → Option Reply
told_reply Whole reply = reply
told_reply (WithPages pages) reply = sized pages reply
told_reply Sparingly reply = last_or_refusal reply

-- of each event
abbrev pub told_events : Told → List Event → List Event
told_events Whole events = events
told_events (WithPages pages) events = all_sized pages events
told_events Sparingly events = said_by_generated events

-- of turns
abbrev pub told_turns : Told → Played → Played
told_turns told played = (told_events told played.0, played.1)

-- the line of what is told, if anything is
abbrev pub told_line : (session : ℕ) → Option Reply → List ℕ
told_line session None = []
told_line session (Some reply) = line_text session reply

-- the status after it
abbrev pub told_status : Option Reply → ℕ
told_status None = 0
told_status (Some reply) = status_after reply
