-- `search::eight_samples` meets its contract.
use Prim.Native.Nat.{ℕ, ◌*◌, ◌/◌, ◌%◌, ◌<◌}
use native.Mathlib.Omega.{arith}
use mathlib.Core.Path.{◌≡◌, ◌∙◌}
use mir.Syntax.{w32}
use mir.Val.{to_z}
use mir.ValLaws.{to_z_pos}
use Rattle.plane.specs.declared.Point.{Point}
use Rattle.full_search.proofs.Patches.{copy_is}
use Rattle.search.proofs.Eights.{whole, start_of, whole_usable, eight-copied}
use Rattle.search.proofs.eight_samples.Goals as goal

-- where the block starts, as it was made of two casts
start_is : (n : ℕ) → n < 4 → ◌≡◌ {A = Point} (record { x = to_z w32 (8 * (n % 2)); y = to_z w32 (8 * (n / 2)) }) (start_of n)
start_is n h =
    let x = to_z_pos w32 (8 * (n % 2)) (omega arith) in
    let y = to_z_pos w32 (8 * (n / 2)) (omega arith) in
    λ i. record { x = x i; y = y i }

pub returns : goal.returns
returns c =
    let l = c.args.macroblock.now in
    let n = c.args.n in
    copy_is l whole _ _ 8 8 _ _ _ (whole_usable _ c.requires.0) c.requires.2 (start_is n c.requires.1) c.copy_block.ensures.value c.copy_block.ensures.out_after
    ∙ eight-copied l n c.requires.1
