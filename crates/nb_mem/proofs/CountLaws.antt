-- No more reads, GUIDs and clock values than calls.
use Rattle.std.proofs.Common.{◌+◌, ◌≤◌, List, [], ◌∷◌, length, arith, length-append, reverse}
use Rattle.nb_mem.proofs.Common.{length-reverse, Entry, Changed, Said, Asked, reads_of, guids_of, guid_of, times_of}
use Rattle.nb_mem.specs.declared.entry.Question.TheVariants.{Size, Read, Guid, Time}

pub reads_of-bound : (es : List Entry) → reads_of es ≤ length es
reads_of-bound [] = omega arith
reads_of-bound (Changed n change ∷ es) = omega (arith, reads_of-bound es)
reads_of-bound (Said bytes ∷ es) = omega (arith, reads_of-bound es)
reads_of-bound (Asked Size ∷ es) = omega (arith, reads_of-bound es)
reads_of-bound (Asked Read ∷ es) = omega (arith, reads_of-bound es)
reads_of-bound (Asked Guid ∷ es) = omega (arith, reads_of-bound es)
reads_of-bound (Asked Time ∷ es) = omega (arith, reads_of-bound es)

pub length-guids_of-bound : (es : List Entry) → length (guids_of es) ≤ length es
length-guids_of-bound [] = omega arith
length-guids_of-bound (Changed n change ∷ es) = omega (arith, length-guids_of-bound es)
length-guids_of-bound (Said bytes ∷ es) = omega (arith, length-guids_of-bound es)
length-guids_of-bound (Asked Size ∷ es) = omega (arith, length-guids_of-bound es)
length-guids_of-bound (Asked Read ∷ es) = omega (arith, length-guids_of-bound es)
length-guids_of-bound (Asked Guid ∷ es) = omega (arith, length-guids_of-bound es, length-append (guids_of es) (guid_of (length (guids_of es) + 1) ∷ []))
length-guids_of-bound (Asked Time ∷ es) = omega (arith, length-guids_of-bound es)

pub length-times_of-bound : (es : List Entry) → length (times_of es) ≤ length es
length-times_of-bound [] = omega arith
length-times_of-bound (Changed n change ∷ es) = omega (arith, length-times_of-bound es)
length-times_of-bound (Said bytes ∷ es) = omega (arith, length-times_of-bound es)
length-times_of-bound (Asked Size ∷ es) = omega (arith, length-times_of-bound es)
length-times_of-bound (Asked Read ∷ es) = omega (arith, length-times_of-bound es)
length-times_of-bound (Asked Guid ∷ es) = omega (arith, length-times_of-bound es)
length-times_of-bound (Asked Time ∷ es) = omega (arith, length-times_of-bound es, length-append (times_of es) ((1000000000 + length (times_of es)) ∷ []))

-- of the calls in their order
module _ (calls : List Entry) where
  pub reads-fit : reads_of (reverse calls) ≤ length calls
  reads-fit = omega (arith, reads_of-bound (reverse calls), length-reverse calls)

  pub guids-fit : length (guids_of (reverse calls)) ≤ length calls
  guids-fit = omega (arith, length-guids_of-bound (reverse calls), length-reverse calls)

  pub times-fit : length (times_of (reverse calls)) ≤ length calls
  times-fit = omega (arith, length-times_of-bound (reverse calls), length-reverse calls)
