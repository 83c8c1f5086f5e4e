-- `full_search::full::copy_from` meets its contract.
use Rattle.full_search.specs.Told.{moved_to}
use Rattle.full_search.proofs.Patches.{copy_is}
use Rattle.full_search.proofs.full.copy_from.Goals as goal

pub returns : goal.returns
returns c =
    let a = c.args in
    let t = a.judged.sought.target in
    copy_is a.judged.sought.reference.now t.geometry c.moved_to-at.result (moved_to t.corner a.d) a.w a.h c.copy_block.result a.out.now _
    a.judged.ready.reference c.requires.1 c.moved_to-at.ensures c.copy_block.ensures.value c.copy_block.ensures.out_after
