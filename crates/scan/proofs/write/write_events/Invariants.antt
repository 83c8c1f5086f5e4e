-- `scan::write::write_events` meets its contract.
use Rattle.scan.proofs.Writing.{AfterTurns}
use Rattle.scan.proofs.write.write_events.Given as goal

abbrev pub invariant-loop-x : goal.invariant-loop-x
invariant-loop-x l = AfterTurns l.levels l.runs l.out_levels l.count l.run l.x-index
