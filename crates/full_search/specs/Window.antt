-- The sum of a block against one that stands in a wider window.
use Rattle.std.specs.Prelude.{ℕ, ◌+◌, ◌-◌, ◌*◌, List, length, get_or}
use Rattle.refusal.specs.Reply.{Reply, and_then, done}
use Rattle.plane.specs.declared.Geometry.{Geometry}
use Rattle.plane.specs.Reference.{length_reply, side_reply, reference_bytes_reply}
use Rattle.full_search.specs.Block.{differences, row_by_row}

-- a block's rows in a window
abbrev pub square_of : ℕ → ℕ → Geometry
square_of side stride = record { width = side; height = side; stride = stride }

-- 14: a side that is not 8 or 16; 12: a source that is not a block of it; 5: the block does not end within the window
unfoldable pub window_sum_reply : ℕ → ℕ → ℕ → ℕ → ℕ → Reply
window_sum_reply area bytes at stride side =
    and_then (side_reply side side)
    (and_then (length_reply area side side) (reference_bytes_reply (square_of side stride) (bytes - at)))

-- the block that begins at a place of a window, row by row
abbrev pub window_at : List ℕ → ℕ → ℕ → ℕ → ℕ → ℕ
window_at window at stride i j = get_or window (at + j * stride + i) 0

-- 0 where there are no such blocks
unfoldable pub window_sum_of : List ℕ → List ℕ → ℕ → ℕ → ℕ → ℕ
window_sum_of source window at stride side =
    done (window_sum_reply (length source) (length window) at stride side)
    (differences side (row_by_row side source) (window_at window at stride)) 0
