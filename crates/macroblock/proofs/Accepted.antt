-- What holds of a request that is not refused. Assumes nothing.
use mathlib.Core.Bool.{true}
use mathlib.Core.Path.{◌≡◌}
use Prim.Native.Nat.{ℕ}
use lib.ListN.{length}
use Rattle.std.specs.Prelude.{Ok}
use Rattle.refusal.specs.Test.{between}
use Rattle.std.proofs.lemmas.Bool.Decides.{nat_tests}
use native.Mathlib.Omega.{arith}
use Rattle.plane.specs.Source.{source_reply}
use Rattle.plane.proofs.ReadySource.{luma_alone}
use Rattle.search.specs.Request.{SearchRequest, search_request, search_reply}
use Rattle.search.proofs.Answered.{search_taken}
use Rattle.coding.specs.Told.{Whole, Quantisable}
use Rattle.macroblock.specs.Request.{Request, quantising_in, lengths_reply, choice_reply, request_reply, lengths_of, reply_of}

-- 12
pub record Lent (q : Request) : Type 0 where
  pub whole : Whole q.prediction
  pub weights : length q.weights ≡ 64
  pub lasts : length q.areas.lasts ≡ 384
  pub runs : length q.areas.runs ≡ 384
  pub levels : length q.areas.levels ≡ 384

lent : (q : Request) → lengths_reply (lengths_of q) ≡ Ok tt → Lent q
unfolding lengths_reply
lent q e = grind (arith, nat_tests)

-- 14 of the scan
pub scan_known : (vectors scan : ℕ) → choice_reply vectors scan ≡ Ok tt → between 0 2 scan ≡ true
unfolding choice_reply
scan_known vectors scan e = grind (arith, nat_tests)

-- the search's own request
abbrev pub searched_for : Request → SearchRequest
searched_for q =
    let s = q.settings in
    search_request q.y q.size q.place q.reference q.geometry s.mode s.bpp s.fcode

-- what each part of the work asks
pub record Accepted (q : Request) : Type 0 where
  pub searched : search_reply (searched_for q) ≡ Ok tt
  pub source : source_reply q.size (length q.y) (length q.cb) (length q.cr) q.place ≡ Ok tt
  pub quantisable : Quantisable (quantising_in q)
  pub lent_is : Lent q

pub accepted : (q : Request) → reply_of q ≡ Ok tt → Accepted q
unfolding request_reply
accepted q e = grind (arith, nat_tests, lent, scan_known, search_taken, luma_alone)
