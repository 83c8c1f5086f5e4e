-- `fdct::line::scale_row` meets its contract.
use Rattle.std.proofs.Common.{rules, arith}
use Rattle.fdct.proofs.Lines.{scaled_more}
use Rattle.fdct.proofs.line.scale_row.Goals as goal

pub loop-j-preserved : goal.loop-j-preserved
loop-j-preserved g c =
    let l = c.loop-j in
    (search rules, scaled_more _ c.args.sums.now l.out l.j c.scale.result (omega arith) c.scale.ensures l.invariant.1)

pub returns-clause-each : goal.returns-clause-each
returns-clause-each g c j h = c.loop-j.invariant.1 j (omega arith)
