-- `macroblock::code_predicted_macroblock` meets its contract.
use Rattle.std.proofs.Common.{sym, arith}
use Rattle.coding.specs.Coding.{lent_areas}
use Rattle.macroblock.specs.Predicted.{lent_predicted}
use Rattle.macroblock.proofs.Answers.{done_answer}
use Rattle.macroblock.proofs.PredictedDemanded.{predicted_demanded}
use Rattle.macroblock.proofs.code_predicted_macroblock.Goals as goal

pub returns-clause-value : goal.returns-clause-value
returns-clause-value c =
    let n = lent_predicted c.args.request c.args.place (lent_areas c.args.out.now) in
    grind (arith, done_answer, predicted_demanded n (sym c.in_ok-predicted_reply.ensures))
