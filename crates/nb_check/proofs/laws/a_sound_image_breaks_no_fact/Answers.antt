use Rattle.nb_check.proofs.SoundLaws.{sound_facts, facts_sound, sound_whole}
use Rattle.nb_check.proofs.laws.a_sound_image_breaks_no_fact.Goals as goal

pub returns-clause-sound : goal.returns-clause-sound
returns-clause-sound c image valid none = sound_facts image valid none

pub returns-clause-none : goal.returns-clause-none
returns-clause-none c image valid sound = facts_sound image sound

pub returns-clause-whole : goal.returns-clause-whole
returns-clause-whole c image valid none sizes most = sound_whole image valid none sizes most
