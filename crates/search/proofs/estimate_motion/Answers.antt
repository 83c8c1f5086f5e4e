-- `search::estimate_motion` meets its contract.
use borrow.Author.Rules.{rules}
use Rattle.search.specs.Request.{lent_search}
use Rattle.search.proofs.Judge.{search_done}
use Rattle.search.proofs.estimate_motion.Goals as goal

pub one_vector-best-requires : goal.one_vector-best-requires
one_vector-best-requires c =
    rw c.settings_in-settings.ensures (search_done (lent_search c.args.request) 0 (search rules))
