-- `fdct::transform` meets its contract. Both tables of constants are held to the rule in m by computing, all 64 entries.
use mathlib.Core.Path.{refl, ◌∙◌}
use lib.Ieee.{of_bits}
use Rattle.fdct.specs.Cosine.{cosines}
use Rattle.fdct.specs.Told.{swapped_cosines}
use Rattle.fdct.proofs.Whole.{arranged}
use Rattle.fdct.proofs.transform.Goals as goal

pub fdct_1d_rows-requires : goal.fdct_1d_rows-requires
unfolding swapped_cosines of_bits
fdct_1d_rows-requires c = (refl, refl)

pub fdct_1d_columns-requires : goal.fdct_1d_columns-requires
unfolding cosines of_bits
fdct_1d_columns-requires c = (refl, refl)

pub returns : goal.returns
returns c =
    c.write_out.ensures
    ∙ arranged c.args.residual.now _ _ _
    c.to_doubles.ensures c.fdct_1d_rows.ensures c.fdct_1d_columns.ensures
