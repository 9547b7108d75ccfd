use Rattle.std.proofs.Common.{◌≡◌, ◌++◌, drop, flat_map, string_bytes}
use Rattle.nb_ended.specs.Shown.{shown_byte}
use Rattle.nb_ended.proofs.broken.push_bytes.Given as goal

abbrev pub invariant-loop-byte : goal.invariant-loop-byte
invariant-loop-byte l = string_bytes l.text ++ flat_map shown_byte (drop l.byte-index l.bytes) ≡ string_bytes l.fn.text ++ flat_map shown_byte l.bytes
