-- The patterns, bit by bit: what is shifted in, or put side by side by shifts and ors, are the bits' worths added up, and a mask reads
-- each bit back.
-- Assumes nothing.
use Prim.Native.Nat.{ℕ, ◌+◌, ◌*◌, ◌%◌, ◌<◌}
use mathlib.Core.Bool.{Bool, true, false, cond, not}
use mathlib.Core.List.{List}
use mathlib.Core.Path.{◌≡◌, refl, ap, ◌∙◌}
use lib.Bits.{bit_and, bit_or}
use lib.Dec.{eqb}
use lib.ListN.{get_or}
use Rattle.basis.proofs.Small.{six}
use Rattle.record.specs.declared.Record.{Record}
use Rattle.record.specs.Pattern.{is_coded}
use Rattle.coding.specs.Coding.{luma_pattern_of, chroma_pattern_of}

-- whether a mask finds a bit
abbrev bit_set : ℕ → ℕ → Bool
bit_set n mask = not (eqb (bit_and n mask) 0)

-- bits with one more shifted in, 0 where a block has no event
abbrev shifted : ℕ → Bool → ℕ
shifted bits none = bit_or (bits * 2 % 256) (cond none 0 1)

-- THE TABLE, by which blocks have no event
pub four_bits : (a b c d : Bool) → let n = 8 * cond a 0 1 + 4 * cond b 0 1 + 2 * cond c 0 1 + cond d 0 1 in
    (shifted (shifted (shifted (shifted 0 a) b) c) d ≡ n)
    × (bit_set n 8 ≡ not a) × (bit_set n 4 ≡ not b) × (bit_set n 2 ≡ not c) × (bit_set n 1 ≡ not d)
    × (bit_or (bit_or (bit_or (cond a 0 1 * 8 % 256) (cond b 0 1 * 4 % 256)) (cond c 0 1 * 2 % 256)) (cond d 0 1) ≡ n)
four_bits true true true true = (refl, refl, refl, refl, refl, refl)
four_bits true true true false = (refl, refl, refl, refl, refl, refl)
four_bits true true false true = (refl, refl, refl, refl, refl, refl)
four_bits true true false false = (refl, refl, refl, refl, refl, refl)
four_bits true false true true = (refl, refl, refl, refl, refl, refl)
four_bits true false true false = (refl, refl, refl, refl, refl, refl)
four_bits true false false true = (refl, refl, refl, refl, refl, refl)
four_bits true false false false = (refl, refl, refl, refl, refl, refl)
four_bits false true true true = (refl, refl, refl, refl, refl, refl)
four_bits false true true false = (refl, refl, refl, refl, refl, refl)
four_bits false true false true = (refl, refl, refl, refl, refl, refl)
four_bits false true false false = (refl, refl, refl, refl, refl, refl)
four_bits false false true true = (refl, refl, refl, refl, refl, refl)
four_bits false false true false = (refl, refl, refl, refl, refl, refl)
four_bits false false false true = (refl, refl, refl, refl, refl, refl)
four_bits false false false false = (refl, refl, refl, refl, refl, refl)

pub two_bits : (a b : Bool) → let n = 2 * cond a 0 1 + cond b 0 1 in
    (shifted (shifted 0 a) b ≡ n) × (bit_set n 2 ≡ not a) × (bit_set n 1 ≡ not b)
    × (bit_or (cond a 0 1 * 2 % 256) (cond b 0 1) ≡ n)
two_bits true true = (refl, refl, refl, refl)
two_bits true false = (refl, refl, refl, refl)
two_bits false true = (refl, refl, refl, refl)
two_bits false false = (refl, refl, refl, refl)

-- a block's bit is set where its count is not 0
pub coded_is : (r : Record) (counts : List ℕ) → r.luma_pattern ≡ luma_pattern_of counts → r.chroma_pattern ≡ chroma_pattern_of counts
    → (b : ℕ) → b < 6 → is_coded r b ≡ not (eqb (get_or counts b 0) 0)
unfolding luma_pattern_of chroma_pattern_of
coded_is r counts luma chroma =
    let none : ℕ → Bool = λ b. eqb (get_or counts b 0) 0 in
    let l = four_bits (none 0) (none 1) (none 2) (none 3) in
    let c = two_bits (none 4) (none 5) in
    six (λ (b : ℕ). is_coded r b ≡ not (none b))
    (ap (λ (n : ℕ). bit_set n 8) luma ∙ l.1)
    (ap (λ (n : ℕ). bit_set n 4) luma ∙ l.2)
    (ap (λ (n : ℕ). bit_set n 2) luma ∙ l.3)
    (ap (λ (n : ℕ). bit_set n 1) luma ∙ l.4)
    (ap (λ (n : ℕ). bit_set n 2) chroma ∙ c.1)
    (ap (λ (n : ℕ). bit_set n 1) chroma ∙ c.2)
