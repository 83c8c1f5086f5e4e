-- `scan::scan_row` meets its contract.
use Prim.Native.Nat.{◌≤◌}
use mathlib.Core.Path.{◌≡◌}
use Rattle.scan.specs.Told.{put_row}
use Rattle.scan.proofs.scan_row.Given as goal

abbrev pub invariant-loop-x : goal.invariant-loop-x
invariant-loop-x l = (l.x ≤ 8) × (l.out ≡ put_row l.row l.levels l.x l.initial.out)
