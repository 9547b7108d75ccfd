use Rattle.std.proofs.Common.{refl}
use Rattle.nb_top.proofs.Common.{account_of}
use Rattle.nb_top.proofs.KnownLaws.{known_asked, stands_known}
use Rattle.nb_top.proofs.laws.what_stands_is_known.Goals as goal

pub returns-clause-stands : goal.returns-clause-stands
returns-clause-stands c = λ files account words names stands. stands_known files account names stands words

pub returns-clause-whatever : goal.returns-clause-whatever
returns-clause-whatever c = λ files kept words names. known_asked files names (account_of files kept) (λ name plain. refl) words
