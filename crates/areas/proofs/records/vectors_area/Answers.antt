-- `areas::records::vectors_area` meets its contract.
use mathlib.Core.List.{[], ◌∷◌}
use mathlib.Core.Path.{ap, ◌∙◌}
use Rattle.basis.proofs.Signed.{of_bits_lem}
use Rattle.record.specs.Zero.{zero_vector}
use Rattle.areas.specs.Search.{vectors_area}
use Rattle.areas.proofs.Places.{four_elements}
use Rattle.areas.proofs.records.vectors_area.Goals as goal

pub returns : goal.returns
returns c =
    let v0 = c.struct_told-1.given in
    let v1 = c.struct_told-2-1.given in
    let v2 = c.struct_told-3-1.given in
    let v3 = c.struct_told-4-1.given in
    let x0 = of_bits_lem _ v0.0.1 in
    let y0 = of_bits_lem _ v0.1.0.1 in
    let x1 = of_bits_lem _ v1.0.1 in
    let y1 = of_bits_lem _ v1.1.0.1 in
    let x2 = of_bits_lem _ v2.0.1 in
    let y2 = of_bits_lem _ v2.1.0.1 in
    let x3 = of_bits_lem _ v3.0.1 in
    let y3 = of_bits_lem _ v3.1.0.1 in
    (λ i. x0 i ∷ y0 i ∷ x1 i ∷ y1 i ∷ x2 i ∷ y2 i ∷ x3 i ∷ y3 i ∷ []) ∙ ap vectors_area (four_elements c.args.vs zero_vector c.well_formed.0.1.0.1)
