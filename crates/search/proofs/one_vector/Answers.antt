-- `search::one_vector` meets its contract.
use mathlib.Core.Path.{◌≡◌, refl, sym, subst, ap, ◌∙◌}
use Rattle.std.specs.Prelude.{Ok, IsOk}
use Rattle.full_search.specs.declared.Scored.{Scored}
use Rattle.full_search.specs.Block.{lent_block}
use Rattle.full_search.specs.Told.{Within}
use Rattle.full_search.specs.Won.{sixteen_best}
use Rattle.search.specs.Range.{window}
use Rattle.search.specs.Sums.{vector_sum}
use Rattle.search.specs.Sub.{refined}
use Rattle.search.proofs.Searched.{copied_best, best_within, copied_searched}
use Rattle.search.proofs.SourceBlock.{copied_ready}
use Rattle.search.proofs.one_vector.Goals.{After-search_sixteen, After-unwrap-winner}
use Rattle.search.proofs.one_vector.Goals as goal

-- the full-sample winner
abbrev best_in : After-search_sixteen → Scored
best_in c = sixteen_best (lent_block c.copied_macroblock-sought.result) c.args.settings.fcode (window c.args.settings)

told : (c : After-search_sixteen) → c.search_sixteen.result ≡ Ok (best_in c)
told c =
    c.search_sixteen.ensures ∙ copied_best _ c.args.settings _ c.copied_macroblock-sought.ensures c.requires _ c.full_pel_window-w.ensures

found : (c : After-unwrap-winner) → c.unwrap-winner.result ≡ best_in (goal.at.After-unwrap-winner c).After-search_sixteen
found c = let k = told (goal.at.After-unwrap-winner c).After-search_sixteen in cc (k, c.unwrap-winner.ensures)

pub unwrap-winner-requires : goal.unwrap-winner-requires
unwrap-winner-requires c = subst IsOk (sym (told (goal.at.unwrap-winner-requires c).After-search_sixteen)) refl

pub refine_subpel-requires : goal.refine_subpel-requires
refine_subpel-requires c =
    let k = c.copied_macroblock-sought.ensures in
    let w = found (goal.at.refine_subpel-requires c).After-unwrap-winner in (
      copied_ready _ _ k _ c.requires,
      c.requires.settings,
      subst (λ (r : Scored). Within 4096 r.vector) (sym w) (best_within _ c.args.settings _ k c.requires),
    )

pub returns : goal.returns
returns c =
    let t = c.args.settings in
    let b = c.copied_macroblock-sought.result in
    c.refine_subpel.ensures
    ∙ ap (λ (r : Scored). refined (vector_sum t (lent_block b)) t r.vector) (found (goal.at.returns c).After-unwrap-winner)
    ∙ copied_searched _ t b c.copied_macroblock-sought.ensures
