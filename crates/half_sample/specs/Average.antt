-- The averages of 7.6.2.1, Figure 7-29. `rc` is rounding control, the low bit of the rounding type.
use Rattle.std.specs.Prelude.{ℕ, ◌+◌, ◌-◌, ◌/◌, Bool, true, false}

abbrev pub average2_of : ℕ → ℕ → ℕ → ℕ
average2_of a b rc = (a + b + 1 - rc) / 2

abbrev pub average4_of : ℕ → ℕ → ℕ → ℕ → ℕ → ℕ
average4_of a b c d rc = (a + b + c + d + 2 - rc) / 4

-- from a half a sample to the right (first flag) and half a sample down (second flag): b stands to the right of a, c and d below
abbrev pub pixel_of : ℕ → ℕ → ℕ → ℕ → Bool → Bool → ℕ → ℕ
pixel_of a b c d false false rc = a
pixel_of a b c d true false rc = average2_of a b rc
pixel_of a b c d false true rc = average2_of a c rc
pixel_of a b c d true true rc = average4_of a b c d rc
