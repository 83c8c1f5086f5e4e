-- `search::range::vector_in` meets its contract.
use borrow.Author.Rules.{rules}
use mathlib.Core.Bool.{true, false}
use mathlib.Core.Path.{◌≡◌}
use Rattle.refusal.specs.Test.{in_range}
use Rattle.search.specs.Range.{low, high}
use Rattle.search.proofs.range.vector_in.Goals as goal

pub returns-then-contains : goal.returns-then-contains
returns-then-contains c =
    let f = c.args.fcode in
    let v = c.args.v in
    let x : in_range (low f) (high f) v.x ≡ true = search rules in
    let y : c.contains-then-contains.result ≡ in_range (low f) (high f) v.y = search rules in
    rw x y

pub returns-else-contains : goal.returns-else-contains
returns-else-contains c =
    let f = c.args.fcode in
    let v = c.args.v in
    let x : in_range (low f) (high f) v.x ≡ false = search rules in
    rw x (search rules)
