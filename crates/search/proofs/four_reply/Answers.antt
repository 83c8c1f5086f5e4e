-- `search::four_reply` meets its contract.
use borrow.Author.Rules.{rules}
use mathlib.Core.Path.{◌≡◌}
use Rattle.std.specs.Prelude.{Ok}
use Rattle.search.specs.Request.{lent_search, search_reply}
use Rattle.search.proofs.Judge.{search_fcode}
use Rattle.search.proofs.four_reply.Goals as goal

pub seed_reply-requires : goal.seed_reply-requires
seed_reply-requires c =
    let q = lent_search c.args.request in
    let e : search_reply q ≡ Ok tt = search rules in
    search_fcode q e
