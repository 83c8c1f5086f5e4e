-- `macroblock::ready::code_ready` meets its contract.
use Rattle.std.proofs.Common.{arith}
use Rattle.coding.specs.Coding.{lent_areas}
use Rattle.macroblock.specs.Request.{lent_request}
use Rattle.macroblock.proofs.Accepted.{accepted}
use Rattle.macroblock.proofs.ready.code_ready.Goals as goal

pub search_vectors-found-requires : goal.search_vectors-found-requires
search_vectors-found-requires c =
    let q = lent_request c.args.request c.args.place (lent_areas c.args.out.now) in
    (accepted q c.requires).searched

pub code_residual-counts-requires : goal.code_residual-counts-requires
code_residual-counts-requires c =
    let q = lent_request c.args.request c.args.place (lent_areas c.args.out.now) in
    grind (arith, accepted q c.requires)
