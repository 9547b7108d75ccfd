use Rattle.nb_inplace.proofs.KeptWay.{half_stands}
use Rattle.nb_inplace.proofs.laws.half_merged_files_stand.Goals as goal

pub returns : goal.returns
returns c old mid files account then standby name bytes half contents stands merges is still same others here = half_stands old account stands standby name bytes contents merges half is then same files here mid still others
