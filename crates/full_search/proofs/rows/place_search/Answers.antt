-- `full_search::rows::place_search` meets its contract.
use mathlib.Core.List.{[], ◌∷◌}
use mathlib.Core.Path.{◌≡◌, sym, ◌∙◌}
use native.Mathlib.Omega.{arith}
use Rattle.full_search.specs.Places.{listed}
use Rattle.full_search.proofs.Listed.{is_listed}
use Rattle.full_search.proofs.OnPatches.{considered, zero_here, other_here}
use Rattle.full_search.proofs.rows.place_search.Goals.{Else-row-far}
use Rattle.full_search.proofs.rows.place_search.Goals as goal

listed_here : (c : Else-row-far)
    → listed c.args.row.inner c.args.row.outer c.args.d ≡ c.args.d ∷ []
listed_here c =
    is_listed c.args.row.inner c.args.row.outer c.args.d (omega (arith, c.distance-far.ensures, c.if-far-row.false))
    (omega (arith, c.distance-far.ensures, c.if-row-far.false))

pub returns-then-far-eq0 : goal.returns-then-far-eq0
returns-then-far-eq0 c =
    let s = c.args in
    considered s.side s.source.now s.patch.now s.at s.discount s.d c.saturating_sub.result s.best c.consider.result
    c.consider.ensures (listed_here (goal.at.returns-then-far-eq0 c).Else-row-far)
    (zero_here s.side s.source.now s.patch.now s.at s.discount s.d c.block-sum.result c.block-sum.ensures c.saturating_sub.result
    c.saturating_sub.ensures (sym c.distance-far.ensures ∙ c.if-far-eq0.true))

pub returns : goal.returns
returns c =
    let s = c.args in
    considered s.side s.source.now s.patch.now s.at s.discount s.d c.block-sum.result s.best c.consider-2.result
    c.consider-2.ensures (listed_here (goal.at.returns c).Else-row-far)
    (other_here s.side s.source.now s.patch.now s.at s.discount s.d c.block-sum.result c.block-sum.ensures
    (λ z. c.if-far-eq0.false (c.distance-far.ensures ∙ z)))
