-- What the reader of demand 3 is handed (rule R1): the coder's answer, which is the record with its six
-- event areas, and these of the call's arguments. Neither the source nor the lent prediction is among them.
use Rattle.std.specs.Prelude.{ℕ, ◌*◌, List, ℤ, take, drop}
use Rattle.record.specs.declared.Record.{Record}
use Rattle.plane.specs.declared.MacroblockPlace.{MacroblockPlace}
use Rattle.plane.specs.Plane.{Plane}
use Rattle.prediction.specs.declared.BVopSampleMode.{BVopSampleMode}

-- the six event areas: which event is its block's last, the runs, the levels, 64 of each to a block
pub record Areas : Type 0 where
  pub lasts : List ℕ
  pub runs : List ℕ
  pub levels : List ℤ

abbrev pub areas : List ℕ → List ℕ → List ℤ → Areas
areas lasts runs levels = record { lasts = lasts; runs = runs; levels = levels }

-- part b of six, 64 entries each: block b's
abbrev pub part_of : {X : Type 0} → ℕ → List X → List X
part_of b l = take 64 (drop (b * 64) l)

abbrev pub parts_of : ℕ → Areas → Areas
parts_of b a = areas (part_of b a.lasts) (part_of b a.runs) (part_of b a.levels)

pub record Handed : Type 0 where
  pub coded : Record
  pub areas : Areas
  pub reference : Plane
  pub place : MacroblockPlace
  pub mode : BVopSampleMode
  pub vectors : ℕ
  pub scan : ℕ
  pub quantiser : ℕ
