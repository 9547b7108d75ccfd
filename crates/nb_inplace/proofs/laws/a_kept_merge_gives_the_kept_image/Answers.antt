use Rattle.nb_inplace.proofs.KeptWay.{kept_gives}
use Rattle.nb_inplace.proofs.laws.a_kept_merge_gives_the_kept_image.Goals as goal

pub returns : goal.returns
returns c files account standby name bytes contents r stands merges named = kept_gives files account stands standby name bytes contents merges r named
