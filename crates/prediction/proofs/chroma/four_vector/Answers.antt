-- `prediction::chroma::four_vector` meets its contract.
use Prim.Native.Nat.{◌≤◌}
use native.Mathlib.Omega.{arith}
use mathlib.Core.Path.{◌≡◌, ap, ◌∙◌}
use lib.IntN.{ℤ, nat_abs, ◌+ℤ◌}
use mir.Syntax.{w32}
use mir.Val.{SFits, to_z, of_z}
use mir.ValLaws.{to_z-of_z}
use Rattle.std.proofs.Common.{rules}
use Rattle.basis.proofs.Sizes.{size_add}
use Rattle.prediction.specs.Chroma.{chroma_of_sum, chroma_vector}
use Rattle.prediction.proofs.ChromaRange.{part_x, part_y, first_in, second_in, third_in, fourth_in}
use Rattle.prediction.proofs.Sizes.{sum_is, sum_fits}
use Rattle.prediction.proofs.chroma.four_vector.Goals.{Start}
use Rattle.prediction.proofs.chroma.four_vector.Goals as goal

-- what the machine adds
abbrev added : ℤ → ℤ → ℤ
added x y = to_z w32 (of_z w32 x) +ℤ to_z w32 (of_z w32 y)

-- a part of four vectors
record Parts (p q r s : ℤ) : Type 0 where
  a : nat_abs p ≤ 2048
  b : nat_abs q ≤ 2048
  c : nat_abs r ≤ 2048
  d : nat_abs s ≤ 2048

module _ (p q r s : ℤ) (h : Parts p q r s) where
  two_is : added p q ≡ p +ℤ q
  two_is = sum_is p q (omega arith) (omega arith)

  two_fits : SFits w32 (added p q)
  two_fits = sum_fits p q (omega arith) (omega arith)

  two_size : nat_abs (added p q) ≤ 4096
  two_size = rw two_is (omega (arith, size_add p q))

  three_is : added (added p q) r ≡ p +ℤ q +ℤ r
  three_is = sum_is (added p q) r (omega (arith, two_size)) (omega arith) ∙ ap (λ (z : ℤ). z +ℤ r) two_is

  three_fits : SFits w32 (added (added p q) r)
  three_fits = sum_fits (added p q) r (omega (arith, two_size)) (omega arith)

  three_size : nat_abs (added (added p q) r) ≤ 6144
  three_size = rw three_is (omega (arith, size_add p q, size_add (p +ℤ q) r))

  four_fits : SFits w32 (added (added (added p q) r) s)
  four_fits = sum_fits (added (added p q) r) s (omega (arith, three_size)) (omega arith)

  four_read : to_z w32 (of_z w32 (added (added (added p q) r) s)) ≡ p +ℤ q +ℤ r +ℤ s
  four_read =
      to_z-of_z w32 (added (added (added p q) r) s) four_fits
      ∙ sum_is (added (added p q) r) s (omega (arith, three_size)) (omega arith)
      ∙ ap (λ (z : ℤ). z +ℤ s) three_is

  four_size : nat_abs (to_z w32 (of_z w32 (added (added (added p q) r) s))) ≤ 8192
  four_size = rw four_read (omega (arith, size_add p q, size_add (p +ℤ q) r, size_add (p +ℤ q +ℤ r) s))

module _ (s : Start) where
  across : Parts s.args.a.x s.args.b.x s.args.c.x s.args.d.x
  across = record {
    a = part_x s.args.a (first_in s.args.a s.args.b s.args.c s.args.d s.requires);
    b = part_x s.args.b (second_in s.args.a s.args.b s.args.c s.args.d s.requires);
    c = part_x s.args.c (third_in s.args.a s.args.b s.args.c s.args.d s.requires);
    d = part_x s.args.d (fourth_in s.args.a s.args.b s.args.c s.args.d s.requires);
  }

  down : Parts s.args.a.y s.args.b.y s.args.c.y s.args.d.y
  down = record {
    a = part_y s.args.a (first_in s.args.a s.args.b s.args.c s.args.d s.requires);
    b = part_y s.args.b (second_in s.args.a s.args.b s.args.c s.args.d s.requires);
    c = part_y s.args.c (third_in s.args.a s.args.b s.args.c s.args.d s.requires);
    d = part_y s.args.d (fourth_in s.args.a s.args.b s.args.c s.args.d s.requires);
  }

pub overflow_add-a : goal.overflow_add-a
overflow_add-a c = two_fits _ _ _ _ (across (goal.at.overflow_add-a c).Start)

pub overflow_add-a-2 : goal.overflow_add-a-2
overflow_add-a-2 c = three_fits _ _ _ _ (across (goal.at.overflow_add-a-2 c).Start)

pub overflow_add-a-3 : goal.overflow_add-a-3
overflow_add-a-3 c = four_fits _ _ _ _ (across (goal.at.overflow_add-a-3 c).Start)

pub of_sum-requires : goal.of_sum-requires
of_sum-requires c = four_size _ _ _ _ (across (goal.at.of_sum-requires c).Start)

pub overflow_add-a-4 : goal.overflow_add-a-4
overflow_add-a-4 c = two_fits _ _ _ _ (down (goal.at.overflow_add-a-4 c).Start)

pub overflow_add-a-5 : goal.overflow_add-a-5
overflow_add-a-5 c = three_fits _ _ _ _ (down (goal.at.overflow_add-a-5 c).Start)

pub overflow_add-a-6 : goal.overflow_add-a-6
overflow_add-a-6 c = four_fits _ _ _ _ (down (goal.at.overflow_add-a-6 c).Start)

pub of_sum-requires-2 : goal.of_sum-requires-2
of_sum-requires-2 c = four_size _ _ _ _ (down (goal.at.of_sum-requires-2 c).Start)

pub returns : goal.returns
unfolding chroma_vector
returns c =
    let s = (goal.at.returns c).Start in
    λ i.
    record {
      x = (to_z-of_z w32 c.of_sum.result (search rules) ∙ c.of_sum.ensures ∙ ap chroma_of_sum (four_read _ _ _ _ (across s))) i;
      y = (to_z-of_z w32 c.of_sum-2.result (search rules) ∙ c.of_sum-2.ensures ∙ ap chroma_of_sum (four_read _ _ _ _ (down s))) i;
    }
