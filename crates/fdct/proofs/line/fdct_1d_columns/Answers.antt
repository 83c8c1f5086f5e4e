-- `fdct::line::fdct_1d_columns` meets its contract.
use borrow.Author.Rules.{rules}
use Prim.Native.Nat.{◌*◌}
use native.Mathlib.Omega.{arith}
use mathlib.Core.Path.{sym, ap}
use lib.Ieee.{nan, binary64, mul, of_bits}
use Rattle.basis.proofs.Lists.{length-tabulate, laid_none, laid_put, laid_end}
use Rattle.basis.proofs.Slices.{part_length}
use Rattle.fdct.specs.Double.{half_double}
use Rattle.fdct.proofs.Lines.{row_is, each_is}
use Rattle.fdct.proofs.line.fdct_1d_columns.Invariants.{pass_row}
use Rattle.fdct.proofs.line.fdct_1d_columns.Goals as goal

pub loop-u-init : goal.loop-u-init
loop-u-init c = (search rules, search rules, search rules, sym (laid_none _ _ (λ j. length-tabulate _ _) _))

pub scale_row-requires-clause-long : goal.scale_row-requires-clause-long
scale_row-requires-clause-long c =
    let l = c.loop-u in
    part_length l.out (l.u * 8) 8 (omega arith)

pub loop-u-preserved : goal.loop-u-preserved
unfolding of_bits
loop-u-preserved c =
    let l = c.loop-u in
    let sums = c.weighted_sums-sums in
    let row = c.scale_row in (
      omega arith,
      omega arith,
      omega arith,
      laid_put 8 (pass_row c.args.block.now) (λ j. length-tabulate _ _) l.u _ l.out _ l.invariant.3
          (row_is c.args.table.now c.args.block.now sums.result _ l.u _ c.requires.0 (omega arith)
          sums.ensures (ap (mul binary64 half_double) c.c.ensures)
          (each_is 8 _ _ nan row.ensures.len (λ j h. let e = row.ensures.each j h in search rules))),
    )

pub returns : goal.returns
returns c =
    let l = c.loop-u in
    laid_end 8 (pass_row c.args.block.now) (λ j. length-tabulate _ _) 8 l.u _ l.out l.invariant.3 (omega arith) l.invariant.2
