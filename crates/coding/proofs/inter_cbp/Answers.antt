-- `coding::inter_cbp` meets its contract.
use Rattle.std.proofs.Common.{ℕ, Bool, eqb, get_or, ap₂, ◌∙◌}
use Rattle.coding.specs.Coding.{luma_pattern_of, chroma_pattern_of}
use Rattle.coding.proofs.Bits.{four_bits, two_bits}
use Rattle.coding.proofs.inter_cbp.Goals as goal

pub returns : goal.returns
unfolding luma_pattern_of chroma_pattern_of
returns c =
    let none : ℕ → Bool = λ b. eqb (get_or c.args.counts b 0) 0 in
    ap₂ (λ (luma chroma : ℕ). record { luma = luma; chroma = chroma })
    (c.pattern.ensures ∙ (four_bits (none 0) (none 1) (none 2) (none 3)).0) (c.pattern-2.ensures ∙ (two_bits (none 4) (none 5)).0)
