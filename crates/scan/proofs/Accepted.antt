-- What holds of a call that is not turned back, and back. Assumes nothing.
use Prim.Native.Nat.{ℕ, ◌<◌}
use mathlib.Core.Bool.{true, ◌&&◌}
use mathlib.Core.List.{List}
use mathlib.Core.Path.{◌≡◌, refl}
use lib.Dec.{eqb}
use lib.IntN.{ℤ, pos, negsuc}
use lib.ListN.{length, get_or}
use borrow.Author.Tests.{eqb-true, eq-eqb}
use Rattle.basis.proofs.Case.{both}
use Rattle.refusal.specs.declared.Refusal.TheVariants.{Length, Range, Choice}
use Rattle.std.specs.Prelude.{Ok}
use Rattle.refusal.specs.Test.{between, in_range, all_in_range}
use Rattle.refusal.proofs.Every.{all_in_range_lem}
use Rattle.refusal.proofs.Replies.{unless-done, passed}
use Rattle.refusal.proofs.Tests.{and_left, and_right}
use Rattle.scan.specs.Event.{events_of, lasts_area, runs_area, levels_area}
use Rattle.scan.specs.Grid.{grid_of, scanned, unscanned}
use Rattle.scan.specs.Read.{ReadsBack}
use Rattle.scan.specs.Reply.{scan_reply, events_reply}
use Rattle.scan.proofs.Grids.{returns}
use Rattle.scan.proofs.ReadBack.{reads_back}
use Rattle.scan.specs.Told.{SixtyFours}

pub scan_lengths : (levels : List ℤ) (s n : ℕ) → scan_reply levels s n ≡ Ok tt → (length levels ≡ 64) × (n ≡ 64)
unfolding scan_reply
scan_lengths levels s n e =
    let sizes = unless-done (eqb (length levels) 64 && eqb n 64) Length _ e in
    (eqb-true _ 64 (and_left (eqb (length levels) 64) (eqb n 64) sizes), eqb-true _ 64 (and_right (eqb (length levels) 64) (eqb n 64) sizes))

pub events_lengths : (levels : List ℤ) (a b c : ℕ) → events_reply levels a b c ≡ Ok tt → SixtyFours (length levels) a b c
unfolding events_reply
events_lengths levels a b c e =
    let sizes = unless-done (eqb (length levels) 64 && (eqb a 64 && (eqb b 64 && eqb c 64))) Length _ e in
    let areas = and_right (eqb (length levels) 64) (eqb a 64 && (eqb b 64 && eqb c 64)) sizes in
    let others = and_right (eqb a 64) (eqb b 64 && eqb c 64) areas in
    record {
      levels_long = eqb-true _ 64 (and_left (eqb (length levels) 64) (eqb a 64 && (eqb b 64 && eqb c 64)) sizes);
      lasts_long = eqb-true _ 64 (and_left (eqb a 64) (eqb b 64 && eqb c 64) areas);
      runs_long = eqb-true _ 64 (and_left (eqb b 64) (eqb c 64) others);
      values_long = eqb-true _ 64 (and_right (eqb b 64) (eqb c 64) others);
    }

-- 64 levels in range are not turned back
module _ (levels : List ℤ) (long : length levels ≡ 64) (small : (i : ℕ) → i < 64 → in_range (negsuc 2046) (pos 2047) (get_or levels i (pos 0)) ≡ true) where
  pub scan_ready : (s : ℕ) → between 0 2 s ≡ true → scan_reply levels s 64 ≡ Ok tt
  unfolding scan_reply
  scan_ready s known =
      passed (eqb (length levels) 64 && eqb 64 64) Length (both (eq-eqb _ 64 long) refl)
      (passed (all_in_range (negsuc 2046) (pos 2047) levels) Range (all_in_range_lem (negsuc 2046) (pos 2047) 64 levels long small)
      (passed (between 0 2 s) Choice known refl))

  pub events_ready : (a b c : ℕ) → a ≡ 64 → b ≡ 64 → c ≡ 64 → events_reply levels a b c ≡ Ok tt
  unfolding events_reply
  events_ready a b c p q r =
      passed (eqb (length levels) 64 && (eqb a 64 && (eqb b 64 && eqb c 64))) Length
      (both (eq-eqb _ 64 long) (both (eq-eqb a 64 p) (both (eq-eqb b 64 q) (eq-eqb c 64 r))))
      (passed (all_in_range (negsuc 2046) (pos 2047) levels) Range (all_in_range_lem (negsuc 2046) (pos 2047) 64 levels long small) refl)

-- what is scanned comes back
pub scanned_back : (levels : List ℤ) (s n : ℕ) → scan_reply levels s n ≡ Ok tt → unscanned (grid_of s) (scanned (grid_of s) levels) ≡ levels
scanned_back levels s n e = (returns s).by_rows levels (scan_lengths levels s n e).0

pub unscanned_back : (levels : List ℤ) (s n : ℕ) → scan_reply levels s n ≡ Ok tt → scanned (grid_of s) (unscanned (grid_of s) levels) ≡ levels
unscanned_back levels s n e = (returns s).by_scan levels (scan_lengths levels s n e).0

-- and events read back
pub events_back : (levels : List ℤ) (a b c : ℕ) → events_reply levels a b c ≡ Ok tt
    → ReadsBack levels (lasts_area levels) (runs_area levels) (levels_area levels) (length (events_of levels))
events_back levels a b c e = reads_back levels (events_lengths levels a b c e).levels_long
