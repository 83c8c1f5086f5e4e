-- Told, not believed: what the private functions here are told of settings, blocks and vectors.
use Rattle.std.specs.Prelude.{ℕ, ◌<◌, ◌≤◌, true, ◌≡◌, ℤ, length, Ok}
use Rattle.basis.specs.Parts.{above, below}
use Rattle.refusal.specs.Test.{between}
use Rattle.record.specs.declared.MotionVector.{MotionVector}
use Rattle.plane.specs.declared.Geometry.{Geometry}
use Rattle.plane.specs.declared.Point.{Point}
use Rattle.plane.specs.declared.MacroblockPlace.{MacroblockPlace}
use Rattle.plane.specs.Corner.{corner_of, block_corner}
use Rattle.plane.specs.Reference.{reference_reply, vector_in_range}
use Rattle.plane.specs.Source.{source_luma_reply, source_luma}
use Rattle.prediction.specs.Macroblock.{mode_reply}
use Rattle.full_search.specs.declared.Sought.{Sought}
use Rattle.full_search.specs.declared.Target.{Target}
use Rattle.full_search.specs.Told.{Within, Ready}
use Rattle.search.specs.declared.SearchSettings.{SearchSettings}
use Rattle.search.specs.Range.{vector_in}
use Rattle.search.specs.Request.{SearchRequest}

-- what the settings have to be
pub record Set (s : SearchSettings) : Type 0 where
  pub mode_usable : mode_reply s.mode ≡ Ok tt
  pub fcode_usable : between 1 7 s.fcode ≡ true

-- a search that is not refused, with these settings
pub record Judged (q : SearchRequest) (s : SearchSettings) : Type 0 where
  pub settings : Set s
  pub reference : reference_reply q.geometry (length q.reference) ≡ Ok tt
  pub luma : source_luma_reply q.size (length q.source) q.place ≡ Ok tt

-- ---- where blocks stand

abbrev pub macroblock_target : Geometry → MacroblockPlace → Target
macroblock_target g at = record { geometry = g; corner = corner_of at; side = 16 }

-- the macroblock that a search is for, its samples copied
pub record Copied (q : SearchRequest) (b : Sought) : Type 0 where
  pub source : b.source.now ≡ source_luma q.source q.size q.place
  pub reference : b.reference.now ≡ q.reference
  pub target : b.target ≡ macroblock_target q.geometry q.place

-- 8 x 8 block n of the macroblock at a target
abbrev pub eight_target : Target → ℕ → Target
eight_target t n = record { geometry = t.geometry; corner = block_corner t.corner n; side = 8 }

-- a corner that a macroblock of a picture can have: within 0..4,080
pub record Placed (corner : Point) : Type 0 where
  pub x_most : above corner.x ≤ 4080
  pub x_least : below corner.x ≡ 0
  pub y_most : above corner.y ≤ 4080
  pub y_least : below corner.y ≡ 0

-- what the search for one of the blocks of a macroblock that is sought is told
pub record EightSought (macroblock : Sought) (n : ℕ) (s : SearchSettings) (seed : MotionVector) : Type 0 where
  pub samples_fit : length macroblock.source.now ≡ 256
  pub block_is : n < 4
  pub reference : reference_reply macroblock.target.geometry (length macroblock.reference.now) ≡ Ok tt
  pub sixteen : macroblock.target.side ≡ 16
  pub placed : Placed macroblock.target.corner
  pub settings : Set s
  pub seed_in : vector_in s.fcode seed ≡ true

-- ---- what the refinement is told

-- a source block and a usable reference, lent
abbrev pub SoughtReady : Sought → Type 0
SoughtReady b = Ready b.source.now b.reference.now b.target

-- a vector whose prediction is not refused
pub record Predictable (b : Sought) (s : SearchSettings) (v : MotionVector) : Type 0 where
  pub ready : SoughtReady b
  pub mode_usable : mode_reply s.mode ≡ Ok tt
  pub vector_in_is : vector_in_range v ≡ true

-- a component and a step from it that fit
pub record Stepping (z : ℤ) (step k : ℕ) : Type 0 where
  pub above_small : above z ≤ 4096
  pub below_small : below z ≤ 4096
  pub step_small : step ≤ 2
  pub side_is : k < 3

-- a place of the 3 x 3 around c
pub record Neighbouring (c : MotionVector) (fcode step n : ℕ) : Type 0 where
  pub centre_small : Within 4096 c
  pub fcode_usable : between 1 7 fcode ≡ true
  pub step_small : step ≤ 2
  pub place_is : n < 9

-- a ring around a centre in range
pub record Ringed (b : Sought) (s : SearchSettings) (step : ℕ) (centre : MotionVector) : Type 0 where
  pub ready : SoughtReady b
  pub settings : Set s
  pub step_small : step ≤ 2
  pub centre_in : vector_in s.fcode centre ≡ true
