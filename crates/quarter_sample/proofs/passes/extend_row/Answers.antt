-- `extend_row` meets its contract: what the three lent parts leave is the extended row.
use Prim.Native.Nat.{ℕ, ◌+◌, ◌-◌}
use native.Mathlib.Omega.{arith}
use mathlib.Core.List.{List, ◌++◌}
use mathlib.Core.Path.{◌≡◌, sym, ap, ◌∙◌}
use lib.ListN.{length, take, drop, length-take, length-drop, length-append}
use lib.Seq.{length-take-le}
use Rattle.basis.specs.Lists.{tabulate}
use Rattle.basis.proofs.Lists.{length-tabulate}
use Rattle.basis.proofs.Slices.{put_after, put_rest, put_length}
use Rattle.quarter_sample.specs.ToldPasses.{reflected}
use Rattle.quarter_sample.proofs.Buffers.{extended}
use Rattle.quarter_sample.proofs.passes.extend_row.Goals as goal

pub slice_bounds-reflect-end-2 : goal.slice_bounds-reflect-end-2
slice_bounds-reflect-end-2 c = sym (length-take-le 3 c.args.line.now (omega arith))

pub reflect-requires : goal.reflect-requires
reflect-requires c = let e = length-take-le 3 c.args.line.now (omega arith) in (omega arith, omega arith, omega arith)

pub returns : goal.returns
returns c =
    let row = c.args.row.now in
    let line = c.args.line.now in
    let x = c.reflect.new.out in
    let y = c.copy_straight.new.out in
    let z = c.reflect-2.new.out in
    let l = take 3 (x ++ drop 3 line) ++ (y ++ drop (3 + length row - 3) (drop 3 (x ++ drop 3 line))) in
    let pre = c.requires in
    let three = length-take-le 3 line (omega arith) in
    let hx : length x ≡ 3 = ap length c.reflect.ensures ∙ length-tabulate _ _ ∙ three in
    let hy : length y ≡ length row = ap length c.copy_straight.ensures in
    let first : length (x ++ drop 3 line) ≡ length line = length-append x (drop 3 line) ∙ omega (arith, length-drop 3 line) in
    let whole : length l ≡ length row + 6 = put_length (x ++ drop 3 line) y 3 (3 + length row) (omega arith) (omega arith) ∙ first ∙ pre.2 in
    let rest : length (take (length l - (3 + length row)) (drop (3 + length row) l)) ≡ 3 =
    length-take (length l - (3 + length row)) (drop (3 + length row) l) ∙ omega (arith, length-drop (3 + length row) l) in
    put_rest l (x ++ y) z (3 + length row) (put_after x (drop 3 line) y 3 (3 + length row) hx (omega arith))
    ∙ ap (λ (t : List ℕ). (x ++ t) ++ z) c.copy_straight.ensures
    ∙ extended row x z (length line) (omega arith)
    (c.reflect.ensures ∙ ap (λ (n : ℕ). tabulate n (λ k. reflected row (0 + k))) three)
    (c.reflect-2.ensures ∙ ap (λ (n : ℕ). tabulate n (λ k. reflected row (3 + length row + k))) rest)
