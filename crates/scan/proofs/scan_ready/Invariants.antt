-- `scan::scan_ready` meets its contract.
use Prim.Native.Nat.{◌*◌, ◌≤◌}
use Rattle.scan.proofs.Grids.{Scattered}
use Rattle.scan.proofs.scan_ready.Given as goal

abbrev pub invariant-loop-y : goal.invariant-loop-y
invariant-loop-y l = (l.y ≤ 8) × Scattered l.grid l.levels l.out (l.y * 8)
