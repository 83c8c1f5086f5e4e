-- What the public searches answer, with their refusals, and the sum of two blocks that are listed row by row. Rules C9, C14, C16.
use Rattle.std.specs.Prelude.{ℕ, ◌&&◌, List, leb, eqb, pos, length, Result, Ok}
use Rattle.refusal.specs.declared.Refusal.{Refusal}
use Rattle.refusal.specs.declared.Refusal.TheVariants.{Fcode, Place, Seed, Choice}
use Rattle.refusal.specs.Reply.{Reply, answer, unless, and_then, done}
use Rattle.refusal.specs.Test.{in_range}
use Rattle.record.specs.declared.MotionVector.{MotionVector}
use Rattle.plane.specs.Reference.{vector_in_range, reference_reply, length_reply, side_reply}
use Rattle.prediction.specs.declared.BVopSampleMode.{BVopSampleMode}
use Rattle.full_search.specs.declared.Scored.{Scored}
use Rattle.full_search.specs.declared.Target.{Target}
use Rattle.full_search.specs.Block.{Block, differences, row_by_row, block_of, copied_sum}
use Rattle.full_search.specs.Costs.{discounted, zero_discount, at_cost}
use Rattle.full_search.specs.Full.{full_winner, four_winner}

-- ---- refusals

-- 1: a window above 1,023 samples
unfoldable pub window_reply : ℕ → Reply
window_reply w = unless (leb w 1023) Fcode (Ok tt)

-- 4, 5; 8: a corner whose parts are not both within 0..4,088
unfoldable pub placed_reply : ℕ → Target → Reply
placed_reply bytes t =
    and_then (reference_reply t.geometry bytes)
    (unless (in_range (pos 0) (pos 4088) t.corner.x && in_range (pos 0) (pos 4088) t.corner.y) Place (Ok tt))

-- 12: a source that is not `side` times `side` samples; 14: another side
unfoldable pub square_reply : ℕ → ℕ → Target → Reply
square_reply side area t = and_then (length_reply area side side) (unless (eqb t.side side) Choice (Ok tt))

-- 1, 4, 5, 8, 12, 14
unfoldable pub sixteen_reply : ℕ → ℕ → Target → ℕ → Reply
sixteen_reply area bytes t w = and_then (window_reply w) (and_then (placed_reply bytes t) (square_reply 16 area t))

-- 9: a part of the seed outside -2,048..2,047
unfoldable pub seed_size_reply : MotionVector → Reply
seed_size_reply seed = unless (vector_in_range seed) Seed (Ok tt)

-- 1, 4, 5, 8, 9, 12, 14
unfoldable pub eight_reply : ℕ → ℕ → Target → ℕ → MotionVector → Reply
eight_reply area bytes t w seed =
    and_then (window_reply w) (and_then (placed_reply bytes t) (and_then (seed_size_reply seed) (square_reply 8 area t)))

-- ---- answers

-- the winner of the list of one vector, with its cost
unfoldable pub sixteen_best : Block → ℕ → ℕ → Scored
sixteen_best b fcode w =
    let cost = discounted zero_discount (copied_sum b) in
    at_cost cost (full_winner cost fcode w b)

-- the winner of the list of one of four, with its sum
unfoldable pub eight_best : Block → BVopSampleMode → ℕ → MotionVector → Scored
eight_best b m w seed = at_cost (copied_sum b) (four_winner (copied_sum b) w m seed)

unfoldable pub sixteen_won : List ℕ → List ℕ → Target → ℕ → ℕ → Result Scored Refusal
sixteen_won source samples t fcode w =
    answer (sixteen_reply (length source) (length samples) t w) (sixteen_best (block_of source samples t) fcode w)

unfoldable pub eight_won : List ℕ → List ℕ → Target → BVopSampleMode → ℕ → MotionVector → Result Scored Refusal
eight_won source samples t m w seed =
    answer (eight_reply (length source) (length samples) t w seed) (eight_best (block_of source samples t) m w seed)

-- ---- sums

-- a side of 8 or 16, and both blocks are as long
unfoldable pub sum_reply : ℕ → ℕ → ℕ → Reply
sum_reply area area' side = and_then (side_reply side side) (and_then (length_reply area side side) (length_reply area' side side))

-- the sum of two blocks, 0 where they are not blocks of this side
unfoldable pub sum_of : List ℕ → List ℕ → ℕ → ℕ
sum_of source predicted side =
    done (sum_reply (length source) (length predicted) side) (differences side (row_by_row side source) (row_by_row side predicted)) 0
