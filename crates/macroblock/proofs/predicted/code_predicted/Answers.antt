-- `macroblock::predicted::code_predicted` meets its contract.
use Rattle.std.proofs.Common.{arith}
use Rattle.coding.specs.Coding.{lent_areas}
use Rattle.macroblock.specs.Predicted.{lent_predicted}
use Rattle.macroblock.proofs.PredictedAccepted.{predicted_accepted}
use Rattle.macroblock.proofs.predicted.code_predicted.Goals as goal

pub search_vectors-found-requires : goal.search_vectors-found-requires
search_vectors-found-requires c =
    let n = lent_predicted c.args.request c.args.place (lent_areas c.args.out.now) in
    (predicted_accepted n c.requires).searched

pub predict_found-requires : goal.predict_found-requires
predict_found-requires c =
    let n = lent_predicted c.args.request c.args.place (lent_areas c.args.out.now) in
    grind (arith, predicted_accepted n c.requires)

pub code_residual-counts-requires : goal.code_residual-counts-requires
code_residual-counts-requires c =
    let n = lent_predicted c.args.request c.args.place (lent_areas c.args.out.now) in
    grind (arith, predicted_accepted n c.requires)
