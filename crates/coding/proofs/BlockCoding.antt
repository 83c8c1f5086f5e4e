-- A block that is transformed, quantised, scanned and made events of: none of the four steps is refused. Assumes nothing.
use Prim.Native.Nat.{ℕ, ◌<◌}
use mathlib.Core.Bool.{true}
use mathlib.Core.List.{List}
use mathlib.Core.Path.{◌≡◌}
use lib.IntN.{ℤ, pos, negsuc}
use lib.ListN.{length, get_or}
use Rattle.std.specs.Prelude.{Ok}
use Rattle.refusal.specs.Test.{in_range}
use Rattle.fdct.specs.Block.{coefficients}
use Rattle.fdct.specs.Reply.{dct_reply}
use Rattle.fdct.proofs.Ranges.{coefficients-length, coefficients_in}
use Rattle.fdct.proofs.Ready.{dct_ready}
use Rattle.quantise.specs.Block.{quantise_reply}
use Rattle.quantise.proofs.Accepted.{quantise_ready}
use Rattle.quantise.proofs.Ranges.{levels_at_lem}
use Rattle.scan.specs.Reply.{scan_reply, events_reply}
use Rattle.scan.proofs.Accepted.{scan_ready, events_ready}
use Rattle.scan.proofs.Grids.{scanned_each}
use Rattle.coding.specs.Coding.{Quantising, quantised, in_scan}
use Rattle.coding.specs.Residual.{ResidualRange}
use Rattle.coding.specs.Told.{Quantisable}
use Rattle.coding.proofs.Levels.{quantised-length, scan_length}

pub transform_done : (block : List ℤ) → length block ≡ 64 → ResidualRange 64 block → dct_reply block 64 ≡ Ok tt
transform_done block full small = dct_ready block full small.at

module _ (by : Quantising) (set : Quantisable by) (block : List ℤ) where
  pub quantise_done : quantise_reply (coefficients block) by.quantiser by.first by.weights 64 ≡ Ok tt
  quantise_done =
      quantise_ready (coefficients block) by.quantiser by.first by.weights set.weighed
      (coefficients-length block) set.long (coefficients_in block)

  -- levels by rows, and in scan order, are in range
  rows_in : (i : ℕ) → i < 64 → in_range (negsuc 2046) (pos 2047) (get_or (quantised by block) i (pos 0)) ≡ true
  unfolding quantised
  rows_in i l = levels_at_lem by.first by.quantiser by.weights (coefficients block) i l

  scan_in : (k : ℕ) → k < 64 → in_range (negsuc 2046) (pos 2047) (get_or (in_scan by block) k (pos 0)) ≡ true
  scan_in = scanned_each by.scan (quantised by block) (in_range (negsuc 2046) (pos 2047)) rows_in

  pub scan_done : scan_reply (quantised by block) by.scan 64 ≡ Ok tt
  scan_done = scan_ready (quantised by block) (quantised-length by block) rows_in by.scan set.known

  pub events_done : (a b c : ℕ) → a ≡ 64 → b ≡ 64 → c ≡ 64 → events_reply (in_scan by block) a b c ≡ Ok tt
  events_done = events_ready (in_scan by block) (scan_length by block) scan_in
