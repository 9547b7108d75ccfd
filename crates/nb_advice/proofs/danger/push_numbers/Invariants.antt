use Rattle.std.proofs.Common.{◌≡◌, ◌++◌, drop, string_bytes}
use Rattle.nb_advice.specs.Dangers.{numbers}
use Rattle.nb_advice.proofs.danger.push_numbers.Given as goal

abbrev pub invariant-loop-page : goal.invariant-loop-page
invariant-loop-page l = string_bytes l.text ++ numbers (drop l.page-index l.pages) ≡ string_bytes l.fn.text ++ numbers l.pages
