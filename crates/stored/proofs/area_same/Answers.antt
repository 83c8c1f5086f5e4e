-- `stored::area_same` meets its contract.
use Rattle.std.proofs.Common.{◌≡◌, ℕ, length, get_or, refl, ap, ap₂, ◌∙◌, arith}
use Rattle.std.proofs.lemmas.List.{get_or_read_under}
use lib.Dec.{leb}
use Rattle.stored.specs.Same.{up_to, wanted, element_is, area_same}
use Rattle.stored.proofs.Each.{up_none, up_more}
use Rattle.stored.proofs.area_same.Goals as goal

pub loop-i-init : goal.loop-i-init
loop-i-init g c =
    ap (λ (n : ℕ). leb n (length c.args.area.now)) c.answered-count.ensures ∙ up_none _ _

pub loop-i-preserved : goal.loop-i-preserved
loop-i-preserved g c =
    let kind = g.T.Element.kind in
    let at = c.loop-i in
    let call = c.args.call.now in
    let area = c.args.area.now in
    let item : c.index-area-i.result ≡ get_or area at.i kind.none = get_or_read_under area at.i _ _ _ c.index-area-i.is c.loop-i-test.true refl in
    let stored = c.wanted.ensures ∙ ap₂ (λ (p n : ℕ). wanted kind call p n at.i) c.position-from.ensures c.answered-count.ensures in
    up_more _ (element_is kind call c.args.k area) at.i at.same _ _ at.invariant (c.is-same.ensures ∙ ap₂ kind.is item stored) refl

pub returns : goal.returns
unfolding area_same
returns g c =
    let all : c.loop-i.i ≡ length c.args.area.now = omega arith in
    c.loop-i.invariant ∙ ap (up_to _ _) all
