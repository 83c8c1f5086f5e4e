-- `search::estimate_motion_4mv` meets its contract.
use borrow.Author.Rules.{rules}
use mathlib.Core.Path.{◌≡◌}
use Rattle.std.specs.Prelude.{Ok}
use Rattle.search.specs.Request.{lent_search, four_reply}
use Rattle.search.proofs.Judge.{four_done, seed_done}
use Rattle.search.proofs.estimate_motion_4mv.Goals as goal

pub four_vectors-requires : goal.four_vectors-requires
four_vectors-requires c =
    let q = lent_search c.args.request in
    let e : four_reply q c.args.seed ≡ Ok tt = search rules in
    rw c.settings_in-settings.ensures (four_done q c.args.seed e 0, seed_done q c.args.seed e)
