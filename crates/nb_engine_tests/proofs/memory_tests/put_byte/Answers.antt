use Rattle.std.proofs.Common.{◌∙◌, arith}
use Rattle.std.proofs.lemmas.List.{take-set-le}
use Rattle.nb_engine_tests.proofs.memory_tests.put_byte.Goals as goal

-- The byte is behind the control block, which was read.
pub write-requires-clause-control_block : goal.write-requires-clause-control_block
write-requires-clause-control_block c first tells t opened = take-set-le 64 c.read.new.into 1023 c.args.byte (omega arith) ∙ c.in_ok-read.ensures.control_block first tells t opened
