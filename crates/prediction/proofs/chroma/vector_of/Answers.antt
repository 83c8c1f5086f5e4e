-- `prediction::chroma::vector_of` meets its contract.
use mathlib.Core.Path.{sym, ap, ◌∙◌}
use lib.IntN.{◌+ℤ◌}
use Rattle.prediction.specs.Chroma.{chroma_of_one, chroma_of_sum, chroma_vector, motion_in_range}
use Rattle.prediction.proofs.ChromaRange.{third_in, fourth_in}
use Rattle.prediction.proofs.chroma.vector_of.Goals as goal

pub in_halves-requires-in-FourMv-3 : goal.in_halves-requires-in-FourMv-3
in_halves-requires-in-FourMv-3 c =
    let m = c.in-FourMv in
    third_in m.a m.b m.c m.d (sym (ap motion_in_range m.is) ∙ c.requires)

pub in_halves-requires-in-FourMv-4 : goal.in_halves-requires-in-FourMv-4
in_halves-requires-in-FourMv-4 c =
    let m = c.in-FourMv in
    fourth_in m.a m.b m.c m.d (sym (ap motion_in_range m.is) ∙ c.requires)

pub returns-in-OneMv : goal.returns-in-OneMv
unfolding chroma_vector
returns-in-OneMv c =
    let v = c.in_halves.ensures.value in
    c.one_vector.ensures
    ∙ (λ i. record { x = chroma_of_one (v.0 i); y = chroma_of_one (v.1 i) })
    ∙ ap (chroma_vector c.args.mode) (sym c.in-OneMv.is)

pub returns-in-FourMv : goal.returns-in-FourMv
unfolding chroma_vector
returns-in-FourMv c =
    let p = c.in_halves-in-FourMv.ensures.value in
    let q = c.in_halves-in-FourMv-2.ensures.value in
    let r = c.in_halves-in-FourMv-3.ensures.value in
    let s = c.in_halves-in-FourMv-4.ensures.value in
    c.four_vector.ensures
    ∙ (λ i.
    record {
      x = chroma_of_sum (p.0 i +ℤ q.0 i +ℤ r.0 i +ℤ s.0 i);
      y = chroma_of_sum (p.1 i +ℤ q.1 i +ℤ r.1 i +ℤ s.1 i);
    })
    ∙ ap (chroma_vector c.args.mode) (sym c.in-FourMv.is)
