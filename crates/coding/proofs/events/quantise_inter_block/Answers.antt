-- `coding::events::quantise_inter_block` meets its contract.
use Rattle.std.proofs.Common.{arith}
use Rattle.coding.specs.Coding.{quantised}
use Rattle.coding.proofs.BlockCoding.{transform_done, quantise_done, scan_done, events_done}
use Rattle.coding.proofs.events.quantise_inter_block.Goals as goal

pub unwrap-requires-2 : goal.unwrap-requires-2
unwrap-requires-2 c =
    let set = c.requires.quantisable in
    grind (arith, transform_done, quantise_done _ set c.args.residual.now)

pub unwrap-requires-3 : goal.unwrap-requires-3
unfolding quantised
unwrap-requires-3 c =
    let set = c.requires.quantisable in
    grind (arith, transform_done, quantise_done _ set c.args.residual.now, scan_done _ set c.args.residual.now)

pub unwrap-requires-4 : goal.unwrap-requires-4
unfolding quantised
unwrap-requires-4 c =
    let set = c.requires.quantisable in
    grind (arith, transform_done, quantise_done _ set c.args.residual.now, scan_done _ set c.args.residual.now, events_done _ set c.args.residual.now)
