-- Six blocks coded one after the other, each into its own part of the areas: what holds after b of them. Assumes nothing.
use Prim.Native.Nat.{ℕ, ◌+◌, ◌-◌, ◌*◌, ◌≤◌, ◌<◌}
use native.Mathlib.Omega.{arith}
use mathlib.Core.List.{List, ◌++◌}
use mathlib.Core.Path.{◌≡◌, sym, ap, ◌∙◌}
use lib.IntN.{ℤ}
use lib.ListN.{length, take, drop, set}
use Rattle.basis.specs.Lists.{rows}
use Rattle.basis.proofs.Lists.{filled, filled_none, filled_set, filled_all, laid, laid_none, laid_put, laid_end, length_laid}
use Rattle.basis.proofs.Slices.{part_is}
use Rattle.reader.specs.Handed.{Areas, areas, part_of}
use Rattle.coding.specs.Coding.{Quantising, count_of, block_areas, areas_of, counts_of}
use Rattle.coding.proofs.Levels.{same_areas, lasts_long, runs_long, values_long}

-- an area that has its first b blocks
pub record LaidSoFar {X : Type 0} (r : ℕ → List X) (was is : List X) (b : ℕ) : Type 0 where
  pub full : length was ≡ 384
  pub long : length is ≡ 384
  pub laid_is : is ≡ laid 64 r b was

module _ {X : Type 0} (r : ℕ → List X) (len : (b : ℕ) → length (r b) ≡ 64) where
  pub area_none : (was : List X) → length was ≡ 384 → LaidSoFar r was was 0
  area_none was e = record { full = e; long = e; laid_is = sym (laid_none 64 r len was) }

  pub area_more : (was is new : List X) (b : ℕ) → LaidSoFar r was is b → b < 6 → new ≡ r b
      → LaidSoFar r was (take (b * 64) is ++ (new ++ drop (b * 64 + 64 - b * 64) (drop (b * 64) is))) (b + 1)
  area_more was is new b a h e =
      let p = laid_put 64 r len b was is new a.laid_is e in
      record { full = a.full; long = ap length p ∙ length_laid 64 r len (b + 1) was (omega (arith, a.full)) ∙ a.full; laid_is = p }

  pub area_end : (was is : List X) (b : ℕ) → LaidSoFar r was is b → b ≡ 6 → is ≡ rows 6 r
  area_end was is b a e = laid_end 64 r len 6 b was is a.laid_is e a.full

module _ (by : Quantising) (residual : List ℤ) where
  -- the areas and the count of block b
  abbrev areas_at : ℕ → Areas
  areas_at b = block_areas by (part_of b residual)

  abbrev count_at : ℕ → ℕ
  count_at b = count_of by (part_of b residual)

  abbrev lasts_at : ℕ → List ℕ
  lasts_at b = (areas_at b).lasts

  abbrev runs_at : ℕ → List ℕ
  runs_at b = (areas_at b).runs

  abbrev levels_at : ℕ → List ℤ
  levels_at b = (areas_at b).levels

  pub record CodedSoFar (lasts₀ runs₀ : List ℕ) (levels₀ : List ℤ) (counts₀ lasts runs : List ℕ) (levels : List ℤ) (counts : List ℕ) (b : ℕ) : Type 0 where
    pub turns : b ≤ 6
    pub in_lasts : LaidSoFar lasts_at lasts₀ lasts b
    pub in_runs : LaidSoFar runs_at runs₀ runs b
    pub in_levels : LaidSoFar levels_at levels₀ levels b
    pub six : length counts₀ ≡ 6
    pub counted : counts ≡ filled b count_at counts₀

  lasts_len : (b : ℕ) → length (lasts_at b) ≡ 64
  lasts_len b = lasts_long by (part_of b residual)

  runs_len : (b : ℕ) → length (runs_at b) ≡ 64
  runs_len b = runs_long by (part_of b residual)

  levels_len : (b : ℕ) → length (levels_at b) ≡ 64
  levels_len b = values_long by (part_of b residual)

  module _ (lasts₀ runs₀ : List ℕ) (levels₀ : List ℤ) (counts₀ : List ℕ) where
    pub coded_none : length lasts₀ ≡ 384 → length runs₀ ≡ 384 → length levels₀ ≡ 384 → length counts₀ ≡ 6
        → CodedSoFar lasts₀ runs₀ levels₀ counts₀ lasts₀ runs₀ levels₀ counts₀ 0
    coded_none p q r s =
        record {
          turns = omega arith;
          in_lasts = area_none lasts_at lasts_len lasts₀ p;
          in_runs = area_none runs_at runs_len runs₀ q;
          in_levels = area_none levels_at levels_len levels₀ r;
          six = s;
          counted = sym (filled_none count_at counts₀);
        }

    module _ (lasts runs : List ℕ) (levels : List ℤ) (counts : List ℕ) (b : ℕ) (c : CodedSoFar lasts₀ runs₀ levels₀ counts₀ lasts runs levels counts b) where
      -- a turn that lends the three parts
      pub coded_more : (x y : List ℕ) (z : List ℤ) (n : ℕ) → b < 6 → let block = take (b * 64 + 64 - b * 64) (drop (b * 64) residual) in
          n ≡ count_of by block → areas x y z ≡ block_areas by block
          → CodedSoFar lasts₀ runs₀ levels₀ counts₀ (take (b * 64) lasts ++ (x ++ drop (b * 64 + 64 - b * 64) (drop (b * 64) lasts)))
          (take (b * 64) runs ++ (y ++ drop (b * 64 + 64 - b * 64) (drop (b * 64) runs)))
          (take (b * 64) levels ++ (z ++ drop (b * 64 + 64 - b * 64) (drop (b * 64) levels))) (set counts b n) (b + 1)
      coded_more x y z n less count given =
          let part = part_is residual (b * 64) 64 in
          let d : areas x y z ≡ areas_at b = given ∙ ap (block_areas by) part in
          record {
            turns = omega arith;
            in_lasts = area_more lasts_at lasts_len lasts₀ lasts x b c.in_lasts less (ap (λ (a : Areas). a.lasts) d);
            in_runs = area_more runs_at runs_len runs₀ runs y b c.in_runs less (ap (λ (a : Areas). a.runs) d);
            in_levels = area_more levels_at levels_len levels₀ levels z b c.in_levels less (ap (λ (a : Areas). a.levels) d);
            six = c.six;
            counted = filled_set b count_at counts₀ counts n c.counted (count ∙ ap (count_of by) part) (omega (arith, c.six));
          }

      pub coded_end : 6 ≤ b → (counts ≡ counts_of by residual) × (areas lasts runs levels ≡ areas_of by residual)
      unfolding areas_of counts_of
      coded_end h =
          let e : b ≡ 6 = omega (arith, c.turns) in (
            c.counted ∙ ap (λ (k : ℕ). filled k count_at counts₀) e ∙ filled_all 6 count_at counts₀ c.six,
            same_areas
                (area_end lasts_at lasts_len lasts₀ lasts b c.in_lasts e)
                (area_end runs_at runs_len runs₀ runs b c.in_runs e)
                (area_end levels_at levels_len levels₀ levels b c.in_levels e),
          )
