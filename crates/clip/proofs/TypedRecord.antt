-- What the types of a record's fields say of its numbers. Assumes nothing.
use Prim.Native.Nat.{ℕ, zero, suc, ◌<◌, ◌^◌}
use native.Mathlib.Omega.{arith}
use mathlib.Core.List.{List, [], ◌∷◌}
use lib.ListN.{get_or}
use lib.Signed.{mag}
use mir.Syntax.{w8, w32}
use mir.Val.{Val}
use denote.Array.{each}
use denote.Shadow.{shadow}
use borrow.Author.Rules.{elem_Fits}
use Rattle.record.specs.declared.MotionVector.{MotionVector}
use Rattle.record.specs.declared.Record.{Record}
use Rattle.record.specs.Zero.{zero_vector}
use Rattle.record.specs.contracts.MotionVector as vector-type
use Rattle.record.specs.contracts.Record as record-type

-- the components of a vector have 32 bits
pub record TypedVector (v : MotionVector) : Type 0 where
  pub horizontal : mag v.x < 2 ^ 31
  pub vertical : mag v.y < 2 ^ 31

pub record TypedRecord (m : Record) : Type 0 where
  pub vector : TypedVector m.vector
  pub sum : m.sum < 2 ^ 32
  pub vectors : (i : ℕ) → TypedVector (get_or m.vectors i zero_vector)
  pub sums : (i : ℕ) → get_or m.sums i 0 < 2 ^ 32
  pub luma : m.luma_pattern < 2 ^ 8
  pub chroma : m.chroma_pattern < 2 ^ 8
  pub counts : (i : ℕ) → get_or m.counts i 0 < 2 ^ 8

each_typed : (vs : List MotionVector) (us : List Val) (i : ℕ)
    → shadow (each (vector-type.the_row).Denot (vector-type.the_row).own_val vs us)
    → TypedVector (get_or vs i zero_vector)
each_typed [] us i p = record { horizontal = omega arith; vertical = omega arith }
each_typed (v ∷ vs) [] i p = absurd p
each_typed (v ∷ vs) (u ∷ us) zero p = record { horizontal = p.0.1.1.0.1; vertical = p.0.1.1.1.0.1 }
each_typed (v ∷ vs) (u ∷ us) (suc i) p = each_typed vs us i p.1

-- of a record that a function is given
pub typed_record : (m : Record) (us : List Val) → shadow ((record-type.the_row).own_val m us) → TypedRecord m
typed_record m us p =
    let f = p.1.1 in
    record {
      vector = record { horizontal = f.0.1.1.0.1; vertical = f.0.1.1.1.0.1 };
      sum = f.1.0.1;
      vectors = λ i. each_typed m.vectors f.1.1.0.0 i f.1.1.0.1.1;
      sums = λ i. (elem_Fits w32 w32 m.sums f.1.1.1.0.0 i f.1.1.1.0.1.1 tt).fits;
      luma = f.1.1.1.1.0.1;
      chroma = f.1.1.1.1.1.0.1;
      counts = λ i. (elem_Fits w8 w8 m.counts f.1.1.1.1.1.1.0.0 i f.1.1.1.1.1.1.0.1.1 tt).fits;
    }
