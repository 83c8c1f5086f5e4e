-- `clip::Text::push_all` meets its contract.
use Prim.Native.Nat.{ℕ}
use mathlib.Core.List.{List}
use mathlib.Core.Path.{ap, ◌∙◌}
use Rattle.clip.specs.ToldPush.{pushes}
use Rattle.clip.proofs.Filled.{filled, holds_more}
use Rattle.clip.proofs.write.Text.push_all.Goals as goal

pub invariant_of-self : goal.invariant_of-self
invariant_of-self c = filled c.self.inside c.args.s.now _ _ c.self.invariant c.min-n.ensures c.copy_from_slice.ensures.after

pub returns : goal.returns
returns c =
    holds_more c.self.inside c.args.s.now _ _ c.self.invariant c.min-n.ensures c.copy_from_slice.ensures.after
    ∙ ap (λ (t : List ℕ). pushes t c.args.s.now) c.self.view_is
