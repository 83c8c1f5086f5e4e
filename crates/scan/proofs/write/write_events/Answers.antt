-- `scan::write::write_events` meets its contract.
use Rattle.std.proofs.Common.{rules, arith}
use Rattle.scan.proofs.Writing.{no_turns, next_turn, all_counted, all_runs, all_runs_full, all_values}
use Rattle.scan.proofs.write.write_events.Goals as goal

pub loop-x-init : goal.loop-x-init
loop-x-init c = no_turns c.requires.runs_value c.requires.out_levels_value

pub loop-x-preserved : goal.loop-x-preserved
loop-x-preserved c =
    next_turn _ _ c.loop-x.invariant c.requires.levels_len (omega arith) (search rules) c.from-count.ensures c.run_after-run.ensures

pub returns-then-count-lt64 : goal.returns-then-count-lt64
returns-then-count-lt64 c =
    let t = c.loop-x.invariant in
    let full = c.requires.levels_len in
    record {
      value = all_counted t full (omega arith);
      runs_after = all_runs t full (omega arith);
      out_levels_after = all_values t full (omega arith);
    }

pub returns-else-count-lt64 : goal.returns-else-count-lt64
returns-else-count-lt64 c =
    let t = c.loop-x.invariant in
    let full = c.requires.levels_len in
    record {
      value = all_counted t full (omega arith);
      runs_after = all_runs_full t full (omega arith) (omega arith);
      out_levels_after = all_values t full (omega arith);
    }
