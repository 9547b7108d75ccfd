use Rattle.std.proofs.Common.{List, ℕ, ◌+◌, length, ap, ◌∙◌, Err}
use Rattle.nb_restore.proofs.Common.{ChainGuid}
use Rattle.nb_restore.proofs.KeptChains.{behind_refused, verdict_first, copy_behind, level_behind, wrong_level, wrong_guid}
use Rattle.nb_restore.proofs.laws.a_file_out_of_place_is_refused.Goals as goal

pub returns-clause-first : goal.returns-clause-first
returns-clause-first c = λ files name more bytes contents there read. verdict_first files name more bytes contents there read

pub returns-clause-pages : goal.returns-clause-pages
returns-clause-pages c = λ files account name names r rs next more bytes stands chain there header.
    behind_refused files account stands name names r rs chain _ _ (λ l guid. copy_behind files (1 + length names) l next more bytes there header)

pub returns-clause-level : goal.returns-clause-level
returns-clause-level c = λ files account name names r rs next more bytes contents stands chain there read other.
    behind_refused files account stands name names r rs chain _ _ (λ l guid. level_behind files (1 + length names) l next more bytes contents _ there read (wrong_level (1 + length names) l next contents other))

pub returns-clause-guid : goal.returns-clause-guid
returns-clause-guid c = λ files account name names r rs next more bytes contents stands chain there read same other.
    behind_refused files account stands name names r rs chain _ _
    (λ l guid. level_behind files (1 + length names) l next more bytes contents _ there read (wrong_guid (1 + length names) l next contents same (λ e. other (e ∙ guid)))
    ∙ ap (λ (g : List ℕ). Err (ChainGuid next contents.head.previous g)) guid)
