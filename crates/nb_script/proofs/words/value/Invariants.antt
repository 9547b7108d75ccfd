use Rattle.std.proofs.Common.{◌≡◌, ◌<◌, ◌^◌, drop}
use Rattle.nb_script.proofs.Common.{digits_value, digits_value_after}
use Rattle.nb_script.proofs.words.value.Given as goal

abbrev pub invariant-loop-b : goal.invariant-loop-b
invariant-loop-b l = record {
  fits : l.value < 2 ^ 64;
  reads : digits_value_after 10 l.value (drop l.b-index l.digits) ≡ digits_value 10 l.digits;
}
