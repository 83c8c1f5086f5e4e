-- `interpolate_place` meets its contract: each arm is its place's rule.
use Rattle.std.proofs.Common.{ℕ, ◌≡◌, ◌+◌, ◌*◌, ◌<◌, List, sym, ap, ◌∙◌, lit<}
use Rattle.quarter_sample.specs.ToldPasses.{rows_at, columns_at, whole_at, both_at, place_at, block_source}
use Rattle.quarter_sample.proofs.Sixteen.{last_place}
use Rattle.quarter_sample.proofs.Blocks.{place_by_steps, whole, across, down}
use Rattle.quarter_sample.proofs.passes.interpolate_place.Goals.{Start}
use Rattle.quarter_sample.proofs.passes.interpolate_place.Goals as goal

-- two steps at the fractions of an arm are its place
rule : (s : Start) (fx fy : ℕ) {out : List ℕ} → fx < 4 → fy < 4 → let a = s.args in a.fractions ≡ fx + 4 * fy
    → out ≡ both_at a.w a.h a.rc a.max fx fy a.block.now
    → out ≡ place_at a.w a.h a.rc a.max a.fractions a.block.now
rule s fx fy {out} p q e o =
    let a = s.args in
    o ∙ place_by_steps a.rc a.max a.w a.h fx fy (block_source a.w a.h a.block.now) p q
    ∙ ap (λ (n : ℕ). place_at a.w a.h a.rc a.max n a.block.now) (sym e)

-- one pass alone, and the copy, are two steps of which one or both stay
module _ (s : Start) where
  abbrev block : List ℕ
  block = s.args.block.now

  abbrev w : ℕ
  w = s.args.w

  abbrev h : ℕ
  h = s.args.h

  abbrev rc : ℕ
  rc = s.args.rc

  abbrev max : ℕ
  max = s.args.max

  whole_is : whole_at w h block ≡ both_at w h rc max 0 0 block
  whole_is = whole rc max w h block

  across_is : (fx : ℕ) → rows_at w h rc max fx block ≡ both_at w h rc max fx 0 block
  across_is = across rc max w h block

  down_is : (fy : ℕ) → columns_at w h rc max fy block (w + 1) ≡ both_at w h rc max 0 fy block
  down_is = down rc max w h block

pub returns-in-0 : goal.returns-in-0
returns-in-0 c =
    rule (goal.at.returns-in-0 c).Start 0 0 (lit< tt) (lit< tt) c.in-0.is (c.copy_rows.ensures ∙ whole_is (goal.at.returns-in-0 c).Start)

pub returns-in-1 : goal.returns-in-1
returns-in-1 c =
    rule (goal.at.returns-in-1 c).Start 1 0 (lit< tt) (lit< tt) c.in-1.is (c.row_pass.ensures ∙ across_is (goal.at.returns-in-1 c).Start 1)

pub returns-in-2 : goal.returns-in-2
returns-in-2 c =
    rule (goal.at.returns-in-2 c).Start 2 0 (lit< tt) (lit< tt) c.in-2.is (c.row_pass-in-2.ensures ∙ across_is (goal.at.returns-in-2 c).Start 2)

pub returns-in-3 : goal.returns-in-3
returns-in-3 c =
    rule (goal.at.returns-in-3 c).Start 3 0 (lit< tt) (lit< tt) c.in-3.is (c.row_pass-in-3.ensures ∙ across_is (goal.at.returns-in-3 c).Start 3)

pub returns-in-4 : goal.returns-in-4
returns-in-4 c =
    rule (goal.at.returns-in-4 c).Start 0 1 (lit< tt) (lit< tt) c.in-4.is (c.column_pass.ensures ∙ down_is (goal.at.returns-in-4 c).Start 1)

pub returns-in-5 : goal.returns-in-5
returns-in-5 c =
    rule (goal.at.returns-in-5 c).Start 1 1 (lit< tt) (lit< tt) c.in-5.is c.both_passes.ensures

pub returns-in-6 : goal.returns-in-6
returns-in-6 c =
    rule (goal.at.returns-in-6 c).Start 2 1 (lit< tt) (lit< tt) c.in-6.is c.both_passes-in-6.ensures

pub returns-in-7 : goal.returns-in-7
returns-in-7 c =
    rule (goal.at.returns-in-7 c).Start 3 1 (lit< tt) (lit< tt) c.in-7.is c.both_passes-in-7.ensures

pub returns-in-8 : goal.returns-in-8
returns-in-8 c =
    rule (goal.at.returns-in-8 c).Start 0 2 (lit< tt) (lit< tt) c.in-8.is (c.column_pass-in-8.ensures ∙ down_is (goal.at.returns-in-8 c).Start 2)

pub returns-in-9 : goal.returns-in-9
returns-in-9 c =
    rule (goal.at.returns-in-9 c).Start 1 2 (lit< tt) (lit< tt) c.in-9.is c.both_passes-in-9.ensures

pub returns-in-10 : goal.returns-in-10
returns-in-10 c =
    rule (goal.at.returns-in-10 c).Start 2 2 (lit< tt) (lit< tt) c.in-10.is c.both_passes-in-10.ensures

pub returns-in-11 : goal.returns-in-11
returns-in-11 c =
    rule (goal.at.returns-in-11 c).Start 3 2 (lit< tt) (lit< tt) c.in-11.is c.both_passes-in-11.ensures

pub returns-in-12 : goal.returns-in-12
returns-in-12 c =
    rule (goal.at.returns-in-12 c).Start 0 3 (lit< tt) (lit< tt) c.in-12.is (c.column_pass-in-12.ensures ∙ down_is (goal.at.returns-in-12 c).Start 3)

pub returns-in-13 : goal.returns-in-13
returns-in-13 c =
    rule (goal.at.returns-in-13 c).Start 1 3 (lit< tt) (lit< tt) c.in-13.is c.both_passes-in-13.ensures

pub returns-in-14 : goal.returns-in-14
returns-in-14 c =
    rule (goal.at.returns-in-14 c).Start 2 3 (lit< tt) (lit< tt) c.in-14.is c.both_passes-in-14.ensures

pub returns-in_default : goal.returns-in_default
returns-in_default c =
    let e = last_place c.args.fractions c.requires.1 c.in_default.in_default-own.rest in
    rule (goal.at.returns-in_default c).Start 3 3 (lit< tt) (lit< tt) e c.both_passes-in_default.ensures
