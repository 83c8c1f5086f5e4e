-- A call's arguments as one value, and what turns it back, in its order (rules O1 to O6): 1 2 3 4 5 6 7 8 10 11 12 14.
use Rattle.std.specs.Prelude.{ℕ, Bool, ◌&&◌, List, eqb, ℤ, length, Ok}
use Rattle.refusal.specs.declared.Refusal.TheVariants.{Length, Choice}
use Rattle.refusal.specs.Reply.{Reply, unless, and_then}
use Rattle.refusal.specs.Bounds.{is_vector_count}
use Rattle.refusal.specs.Test.{between}
use Rattle.plane.specs.declared.Geometry.{Geometry}
use Rattle.plane.specs.declared.SourceSize.{SourceSize}
use Rattle.plane.specs.declared.MacroblockPlace.{MacroblockPlace}
use Rattle.plane.specs.Plane.{plane_of}
use Rattle.plane.specs.Reference.{reference_reply}
use Rattle.plane.specs.Source.{source_reply}
use Rattle.prediction.specs.declared.BVopSampleMode.{BVopSampleMode}
use Rattle.prediction.specs.Luma.{mode_of}
use Rattle.quantise.specs.Block.{weight_reply}
use Rattle.full_search.specs.Block.{Block}
use Rattle.search.specs.declared.SearchSettings.{SearchSettings}
use Rattle.search.specs.Request.{settings_of, macroblock, settings_reply}
use Rattle.reader.specs.Handed.{Areas, areas}
use Rattle.plane.specs.Samples.{Samples, samples, lent_samples}
use Rattle.coding.specs.Residual.{source_of, residual_of}
use Rattle.coding.specs.Coding.{Quantising, quantising_of}
use Rattle.macroblock.specs.declared.Request as lent
use Rattle.macroblock.specs.declared.Settings.{Settings}
use Rattle.macroblock.specs.declared.Lengths.{Lengths}

pub record Request : Type 0 where
  pub settings : Settings
  pub reference : List ℕ
  pub geometry : Geometry
  -- the source's planes
  pub y : List ℕ
  pub cb : List ℕ
  pub cr : List ℕ
  pub size : SourceSize
  pub place : MacroblockPlace
  pub weights : List ℕ
  -- the lent prediction
  pub prediction : Samples
  -- the lent areas, as they are when the call begins
  pub areas : Areas

-- from its parts, in the order in which C lends them
abbrev pub request : Settings → List ℕ → Geometry → List ℕ → List ℕ → List ℕ → SourceSize → MacroblockPlace
    → List ℕ → List ℕ → List ℕ → List ℕ → List ℕ → List ℕ → List ℤ → Request
request settings reference geometry y cb cr size place weights py pcb pcr lasts runs levels =
    record {
      settings = settings;
      reference = reference;
      geometry = geometry;
      y = y;
      cb = cb;
      cr = cr;
      size = size;
      place = place;
      weights = weights;
      prediction = samples py pcb pcr;
      areas = areas lasts runs levels;
    }

-- what stands in a lent one, for the macroblock at a place
abbrev pub lent_request : lent.Request → MacroblockPlace → Areas → Request
lent_request q place a =
    record {
      settings = q.settings;
      reference = q.reference.now;
      geometry = q.geometry;
      y = q.source.y.now;
      cb = q.source.cb.now;
      cr = q.source.cr.now;
      size = q.size;
      place = place;
      weights = q.weights.now;
      prediction = lent_samples q.prediction;
      areas = a;
    }

-- ---- what a request speaks of

-- the macroblock's samples of the source, and their residual: less the lent prediction
abbrev pub source : Request → Samples
source q = source_of q.y q.cb q.cr q.size q.place

abbrev pub residual : Request → List ℤ
residual q = residual_of (source q) q.prediction

-- what the search goes by, at a rounding type; the mode of its vectors, and the block that is searched for
abbrev pub search_in : ℕ → Settings → SearchSettings
search_in rounding s = settings_of rounding s.mode s.bpp s.fcode

abbrev pub mode_in : Request → BVopSampleMode
mode_in q = mode_of q.settings.mode q.settings.bpp

abbrev pub sought_in : Request → Block
sought_in q = macroblock q.y q.size q.place (plane_of q.reference q.geometry)

-- what levels and events are made by
abbrev pub quantising_in : Request → Quantising
quantising_in q = quantising_of q.settings.quantiser q.settings.first_method q.weights q.settings.scan

-- ---- refusals

-- a matrix of 64, under either method, and areas of 64 per block
abbrev pub areas_long : ℕ → ℕ → ℕ → ℕ → Bool
areas_long weights lasts runs levels = eqb weights 64 && (eqb lasts 384 && (eqb runs 384 && eqb levels 384))

-- 12: prediction not 256, 64, 64; matrix or an area not as long as it has to be
unfoldable pub lengths_reply : Lengths → Reply
lengths_reply n =
    let prediction = eqb n.pred_y 256 && (eqb n.pred_cb 64 && eqb n.pred_cr 64) in
    unless (prediction && areas_long n.weights n.lasts n.runs n.levels) Length (Ok tt)

-- 14: vector count not 1 or 4; scan number not 0..2
unfoldable pub choice_reply : ℕ → ℕ → Reply
choice_reply vectors scan = unless (is_vector_count vectors && between 0 2 scan) Choice (Ok tt)

-- the whole list
unfoldable pub request_reply : Settings → Geometry → SourceSize → MacroblockPlace → List ℕ → Lengths → Reply
request_reply s geometry size place weights n =
    and_then (settings_reply s.fcode s.mode s.bpp)
    (and_then (reference_reply geometry n.reference)
    (and_then (source_reply size n.y n.cb n.cr place)
    (and_then (weight_reply s.quantiser s.first_method weights)
    (and_then (lengths_reply n)
    (choice_reply s.vectors s.scan)))))

abbrev pub lengths_of : Request → Lengths
lengths_of q =
    record {
      reference = length q.reference;
      y = length q.y;
      cb = length q.cb;
      cr = length q.cr;
      weights = length q.weights;
      pred_y = length q.prediction.y;
      pred_cb = length q.prediction.cb;
      pred_cr = length q.prediction.cr;
      lasts = length q.areas.lasts;
      runs = length q.areas.runs;
      levels = length q.areas.levels;
    }

abbrev pub reply_of : Request → Reply
reply_of q = request_reply q.settings q.geometry q.size q.place q.weights (lengths_of q)
