-- `fdct::rounding::nearest_up` meets its contract: `proofs/Wholes.antt` has what it asks.
use mathlib.Core.Path.{sym, ap, ap₂, ◌∙◌, subst}
use lib.Dec.{T}
use lib.Ieee.{Float, binary64, add, in_signed, to_signed}
use lib.Ieee.Casts.{to_signed_in}
use Rattle.basis.proofs.Signed.{of_bits_lem}
use Rattle.fdct.specs.Told.{carried}
use Rattle.fdct.proofs.Wholes.{cast_is}
use Rattle.fdct.proofs.rounding.nearest_up.Goals as goal

pub float_to_int-result : goal.float_to_int-result
float_to_int-result c =
    let x = c.args.x in
    let t = c.rested-t.ensures in
    let sum = ap₂ (add binary64) t (c.carried.ensures ∙ ap (λ (r : Float). carried r x) t) in
    subst (λ (y : Float). T (in_signed binary64 31 y)) (sym sum) (cast_is x c.requires.at_least_zero c.requires.below_4096).castable

pub returns : goal.returns
returns c =
    let x = c.args.x in
    let t = c.rested-t.ensures in
    let sum = ap₂ (add binary64) t (c.carried.ensures ∙ ap (λ (r : Float). carried r x) t) in
    of_bits_lem _ (to_signed_in 31 _) ∙ ap (to_signed 31) sum ∙ (cast_is x c.requires.at_least_zero c.requires.below_4096).is
