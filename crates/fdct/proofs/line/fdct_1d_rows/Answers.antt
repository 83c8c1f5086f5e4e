-- `fdct::line::fdct_1d_rows` meets its contract.
use borrow.Author.Rules.{rules}
use Prim.Native.Nat.{◌*◌}
use native.Mathlib.Omega.{arith}
use mathlib.Core.Path.{sym}
use Rattle.basis.proofs.Lists.{length-tabulate, laid_none, laid_put, laid_end}
use Rattle.basis.proofs.Slices.{part_length}
use lib.Ieee.{nan, of_bits}
use Rattle.fdct.proofs.Lines.{across_is, each_is}
use Rattle.fdct.proofs.line.fdct_1d_rows.Invariants.{pass_row}
use Rattle.fdct.proofs.line.fdct_1d_rows.Goals as goal

pub loop-y-init : goal.loop-y-init
loop-y-init c = (search rules, search rules, search rules, sym (laid_none _ _ (λ j. length-tabulate _ _) _))

pub scale_row-requires-clause-long : goal.scale_row-requires-clause-long
scale_row-requires-clause-long c =
    let l = c.loop-y in
    part_length l.out (l.y * 8) 8 (omega arith)

pub loop-y-preserved : goal.loop-y-preserved
unfolding of_bits
loop-y-preserved c =
    let l = c.loop-y in
    let sums = c.weighted_sums-sums in
    let row = c.scale_row in (
      omega arith,
      omega arith,
      omega arith,
      laid_put 8 (pass_row c.args.block.now) (λ j. length-tabulate _ _) l.y _ l.out _ l.invariant.3
          (across_is c.args.table.now c.args.block.now sums.result _ l.y c.requires.0 sums.ensures
          (each_is 8 _ _ nan row.ensures.len (λ j h. let e = row.ensures.each j h in search rules))),
    )

pub returns : goal.returns
returns c =
    let l = c.loop-y in
    laid_end 8 (pass_row c.args.block.now) (λ j. length-tabulate _ _) 8 l.y _ l.out l.invariant.3 (omega arith) l.invariant.2
