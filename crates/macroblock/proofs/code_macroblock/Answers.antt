-- `macroblock::code_macroblock` meets its contract.
use Rattle.std.proofs.Common.{sym, arith}
use Rattle.coding.specs.Coding.{lent_areas}
use Rattle.macroblock.specs.Request.{lent_request}
use Rattle.macroblock.proofs.Answers.{done_answer}
use Rattle.macroblock.proofs.Demanded.{demanded}
use Rattle.macroblock.proofs.code_macroblock.Goals as goal

pub returns-clause-value : goal.returns-clause-value
returns-clause-value c =
    let q = lent_request c.args.request c.args.place (lent_areas c.args.out.now) in
    grind (arith, done_answer, demanded q (sym c.in_ok-request_reply.ensures))
