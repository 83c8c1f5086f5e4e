-- `full_search::full::lattice_search` meets its contract.
use Prim.Native.Nat.{ℕ, ◌≤◌}
use native.Mathlib.Omega.{arith}
use mathlib.Core.Path.{◌≡◌, refl, ap, ◌∙◌}
use lib.IntN.{ℤ, nat_abs}
use mir.Syntax.{w32}
use mir.Val.{to_z, of_z}
use mir.Facts.{to_z-of_z}
use Rattle.basis.specs.Lists.{rows}
use Rattle.basis.specs.Parts.{above, below}
use Rattle.basis.proofs.Parts.{nat_abs-above, parts_fit}
use Rattle.plane.proofs.Ready.{usable}
use Rattle.full_search.specs.declared.Scored.{Scored}
use Rattle.full_search.specs.Places.{places, lattice_row}
use Rattle.full_search.specs.ToldKept.{kept_of, sixteen_cost, target_lattice}
use Rattle.full_search.proofs.Lattice.{lattice-kept}
use Rattle.full_search.proofs.full.lattice_search.Goals.{After-lattice_from, Start}
use Rattle.full_search.proofs.full.lattice_search.Goals as goal

-- a corner's part, as it is read
part_read : (z : ℤ) → above z ≤ 4088 → below z ≡ 0 → nat_abs (to_z w32 (of_z w32 z)) ≡ above z
part_read z h k = ap nat_abs (to_z-of_z {w = w32} (parts_fit z (omega arith) (omega arith))) ∙ nat_abs-above z k

across : (c : Start) → let z = c.args.judged.sought.target.corner.x in nat_abs (to_z w32 (of_z w32 z)) ≡ above z
across c = let i = c.args.judged.ready.inside in part_read c.args.judged.sought.target.corner.x i.x_most i.x_least

along : (c : Start) → let z = c.args.judged.sought.target.corner.y in nat_abs (to_z w32 (of_z w32 z)) ≡ above z
along c = let i = c.args.judged.ready.inside in part_read c.args.judged.sought.target.corner.y i.y_most i.y_least

pub places-count-requires : goal.places-count-requires
places-count-requires c =
    let s = (goal.at.places-count-requires c).Start in
    let t = c.args.judged.sought.target in (
      c.requires.window_small,
      omega (arith, across s, c.args.judged.ready.inside.x_most),
      (usable c.args.judged.sought.reference.now t.geometry c.args.judged.ready.reference).within.high_w,
    )

pub places-lines-requires : goal.places-lines-requires
places-lines-requires c =
    let s = (goal.at.places-lines-requires c).Start in
    let t = c.args.judged.sought.target in (
      c.requires.window_small,
      omega (arith, along s, c.args.judged.ready.inside.y_most),
      (usable c.args.judged.sought.reference.now t.geometry c.args.judged.ready.reference).within.high_h,
    )

-- what a search over its rows keeps
kept : (c : After-lattice_from) (b : Scored)
    → let a = c.args in
    let cost = sixteen_cost a.judged in
    b ≡ kept_of cost a.best (rows c.places-lines.result (lattice_row a.w c.lattice_from.result c.places-count.result))
    → b ≡ kept_of cost a.best (target_lattice a.w a.judged.sought.target)
kept c b e =
    let s = (goal.at.After-lattice_from c).Start in
    let a = c.args in
    let t = a.judged.sought.target in
    let x = ap (λ (m : ℕ). places a.w m t.geometry.width) (across s) in
    let y = ap (λ (m : ℕ). places a.w m t.geometry.height) (along s) in
    lattice-kept (sixteen_cost a.judged) a.best b a.w t.corner t.geometry.width t.geometry.height
    c.lattice_from.result c.places-count.result c.places-lines.result c.places-lines.result e refl c.lattice_from.ensures
    (c.places-count.ensures ∙ x) (c.places-lines.ensures ∙ y)

pub returns-then-count-le64 : goal.returns-then-count-le64
returns-then-count-le64 c = kept (goal.at.returns-then-count-le64 c).After-lattice_from c.sized_lattice.result c.sized_lattice.ensures

pub returns : goal.returns
returns c = kept (goal.at.returns c).After-lattice_from c.sized_lattice-2.result c.sized_lattice-2.ensures
