-- A part is the list of what stands there.
use Rattle.std.proofs.Common.{refl}
use Rattle.basis.proofs.Slices.{part_tabulate}
use Rattle.quarter_sample.proofs.passes.part.Goals as goal

pub returns-clause-samples : goal.returns-clause-samples
returns-clause-samples c = part_tabulate _ _ _ _ 0 c.requires (λ i p. refl)
