-- The side of a block is 8 or 16. Assumes nothing.
use Prim.Native.Nat.{ℕ, zero, suc, ◌+◌, ◌-◌, ◌*◌, ◌/◌, ◌≤◌}
use native.Mathlib.Omega.{arith}
use mathlib.Core.Bool.{true}
use mathlib.Core.List.{List}
use mathlib.Core.Path.{◌≡◌, ap}
use borrow.Author.Tests.{eqb-true}
use lib.Dec.{eqb}
use lib.ListN.{length}
use Rattle.basis.proofs.Bounds.{product_le}
use Rattle.refusal.proofs.Tests.{or_elim}
use Rattle.plane.specs.Reference.{is_side}
use Rattle.full_search.specs.ToldPatch.{LinesFit, RowsFit, lines_from}

pub side_least : (n : ℕ) → is_side n ≡ true → 1 ≤ n
side_least n e = or_elim (eqb n 8) (eqb n 16) (1 ≤ n) (λ q. omega (arith, eqb-true n 8 q)) (λ q. omega (arith, eqb-true n 16 q)) e

pub side_most : (n : ℕ) → is_side n ≡ true → n ≤ 16
side_most n e = or_elim (eqb n 8) (eqb n 16) (n ≤ 16) (λ q. omega (arith, eqb-true n 8 q)) (λ q. omega (arith, eqb-true n 16 q)) e

pub side_even : (n : ℕ) → is_side n ≡ true → 2 * (n / 2) ≡ n
side_even n e =
    or_elim (eqb n 8) (eqb n 16) (2 * (n / 2) ≡ n) (λ q. omega (arith, eqb-true n 8 q)) (λ q. omega (arith, eqb-true n 16 q)) e

pub area_most : (n : ℕ) → is_side n ≡ true → n * n ≤ 256
area_most n e = product_le (side_most n e) (side_most n e)

-- a block's last row ends where the block does
pub last_row : (n : ℕ) → 0 + (n - 1) * n + n ≤ n * n
last_row zero = omega arith
last_row (suc n) = omega (arith, ap (λ (k : ℕ). k * suc n) (before n))
  where
    before : (n : ℕ) → suc n - 1 ≡ n
    before n = omega arith

-- so its rows lie within samples that are as many as it has
pub listed_fits : (n : ℕ) (samples : List ℕ) → length samples ≡ n * n → LinesFit n (lines_from 0 n) samples
listed_fits n samples e = omega (arith, last_row n)

pub source_fits : (n : ℕ) (samples : List ℕ) → length samples ≡ n * n → RowsFit n n samples
source_fits n samples e = omega (arith, last_row n)
