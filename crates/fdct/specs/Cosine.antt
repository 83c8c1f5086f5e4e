-- The cosines (rule T4): C, the rule in m, and the table of 64.
use Rattle.std.specs.Prelude.{ℕ, ◌+◌, ◌-◌, ◌*◌, ◌/◌, ◌%◌, cond, List, [], ◌∷◌, leb, Float, get_or}
use Rattle.std.specs.Float.{nan}
use Rattle.std.specs.Float.Ieee.{neg}
use Rattle.basis.specs.Lists.{tabulate}
use Rattle.fdct.specs.Double.{zero_double, one_double, nearest_double}

-- C[0] is 1, C[8] is 0, and C[1..7] are the doubles nearest these decimals
unfoldable pub quarter : List Float
unfolding nearest_double
quarter =
    one_double
    ∷ nearest_double 98078528040323044913
    ∷ nearest_double 92387953251128675613
    ∷ nearest_double 83146961230254523708
    ∷ nearest_double 70710678118654752440
    ∷ nearest_double 55557023301960222474
    ∷ nearest_double 38268343236508977173
    ∷ nearest_double 19509032201612826785
    ∷ zero_double
    ∷ []

unfoldable pub C : ℕ → Float
unfolding quarter
C k = get_or quarter k nan

-- the cosine of m pi / 16, for m below 32
unfoldable pub around : ℕ → Float
unfolding C neg
around m = cond (leb m 8) (C m) (cond (leb m 16) (neg (C (16 - m))) (cond (leb m 24) (neg (C (m - 16))) (C (32 - m))))

-- the entry for u, x: cos((2x + 1) u pi / 16)
unfoldable pub cosine : ℕ → ℕ → Float
unfolding around
cosine u x = around ((2 * x + 1) * u % 32)

-- all of them, that for u, x at 8 u + x
unfoldable pub cosines : List Float
unfolding cosine tabulate
cosines = tabulate 64 (λ k. cosine (k / 8) (k % 8))
