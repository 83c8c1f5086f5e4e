-- Searches on a patch of the reference, put together: place by place a row, row by row a square, and a strip. Assumes nothing.
use Prim.Native.Nat.{ℕ, ◌+◌, ◌-◌, ◌*◌, ◌≤◌, ◌<◌}
use native.Mathlib.Nat.{mul-le-mul_left}
use native.Mathlib.Omega.{arith}
use mathlib.Core.List.{List, [], ◌∷◌}
use mathlib.Core.Path.{◌≡◌, refl, sym, ap, ◌∙◌, subst}
use Rattle.basis.specs.Lists.{rows}
use Rattle.record.specs.declared.MotionVector.{MotionVector}
use Rattle.record.specs.Zero.{zero_vector}
use Rattle.plane.specs.declared.Point.{Point}
use Rattle.plane.specs.Plane.{Plane, copied_block}
use Rattle.full_search.specs.declared.Lines.{Lines}
use Rattle.full_search.specs.declared.Row.{Row}
use Rattle.full_search.specs.declared.Scored.{Scored}
use Rattle.full_search.specs.declared.Square.{Square}
use Rattle.full_search.specs.Block.{block_in, copied_sum}
use Rattle.full_search.specs.Costs.{zero_discount, consider}
use Rattle.full_search.specs.Places.{right, down, distance, listed, row_place, row_of, square_row, square_of}
use Rattle.full_search.specs.Full.{near_square, near_rows}
use Rattle.full_search.specs.Told.{moved_to}
use Rattle.full_search.specs.ToldKept.{kept_of, copied_cost, NoMoreThanZero}
use Rattle.full_search.specs.ToldPatch.{lines_sum, lines_from, Shown, lines_right, row_columns, KeptOn, NearPatch, MiddleStart, NearKept}
use Rattle.full_search.proofs.Kept.{pieces_more, kept_small, zero_small}
use Rattle.full_search.proofs.Listed.{consider_cost, zero_costs, other_costs}
use Rattle.full_search.proofs.Patches.{strip_shown, patch_shown, narrower, strip_columns}
use Rattle.full_search.proofs.Shown.{shown_sum, shown_right}

-- what a search keeps costs no more than zero does, where its start does not
kept_by : (cost : MotionVector → ℕ) (s r : Scored) (l : List MotionVector) → r ≡ kept_of cost s l → NoMoreThanZero cost s
    → (r ≡ kept_of cost s l) × NoMoreThanZero cost r
kept_by cost s r l e q = (e, kept_small cost l s r e q)

-- ---- one place

module _ (side : ℕ) (source patch : List ℕ) (at : Lines) (discount : ℕ) (d : MotionVector) where
  abbrev cost_at : Plane → Point → MotionVector → ℕ
  cost_at p corner = copied_cost discount (block_in side source p corner)

  -- that is not listed
  pub passed_over : (s : Scored) {l : List MotionVector} → l ≡ [] → KeptOn side source patch at side d discount l s s
  passed_over s e = record { kept = λ p corner h q. (sym (ap (kept_of (cost_at p corner) s) e), q) }

  -- that is considered at its cost
  pub considered : (n : ℕ) (s r : Scored) {l : List MotionVector} → r ≡ consider (λ v. n) s d → l ≡ d ∷ []
      → ((p : Plane) (corner : Point) → Shown side p corner d patch at side → n ≡ cost_at p corner d)
      → KeptOn side source patch at side d discount l s r
  considered n s r {l} e g f =
      record {
        kept =
            λ p corner h q.
            let cost = cost_at p corner in
            kept_by cost s r l (e ∙ consider_cost (λ v. n) cost s d (f p corner h) ∙ sym (ap (kept_of cost s) g)) q;
      }

  -- zero's cost, and that of any other displacement
  module _ (sum : ℕ) (e : sum ≡ lines_sum side source side patch at) where
    pub zero_here : (n : ℕ) → n ≡ sum - discount → distance d ≡ 0 → (p : Plane) (corner : Point) → Shown side p corner d patch at side
        → n ≡ cost_at p corner d
    zero_here n f z p corner h =
        f
        ∙ ap (λ (k : ℕ). k - discount) (e ∙ shown_sum side p corner d source patch at h)
        ∙ sym (zero_costs discount (copied_sum (block_in side source p corner)) d z)

    pub other_here : (distance d ≡ 0 → ⊥) → (p : Plane) (corner : Point) → Shown side p corner d patch at side → sum ≡ cost_at p corner d
    other_here z p corner h =
        e ∙ shown_sum side p corner d source patch at h ∙ sym (other_costs discount (copied_sum (block_in side source p corner)) d z)

-- ---- a row

-- a place's columns lie among the row's
place_columns : (side : ℕ) (r : Row) (k : ℕ) → k < r.count → r.step * k + side ≤ row_columns side r
place_columns side r k h = omega (arith, mul-le-mul_left r.step (less r.count h))
  where
    less : (n : ℕ) → k < n → k ≤ n - 1
    less n h = omega arith

module _ (side : ℕ) (source patch : List ℕ) (at : Lines) (r : Row) (discount : ℕ) (s : Scored) where
  -- what the first k places of a row keep
  abbrev pub RowKept : ℕ → Scored → Type 0
  RowKept k b = KeptOn side source patch at (row_columns side r) r.from discount (rows k (row_place r)) s b

  pub row_none : RowKept 0 s
  unfolding rows
  row_none = record { kept = λ p corner h q. (refl, q) }

  -- one place more
  pub row_more : (k : ℕ) (d : MotionVector) (b c : Scored) → k < r.count → d ≡ right r.from (r.step * k) → RowKept k b
      → KeptOn side source patch (lines_right at (r.step * k)) side d discount (listed r.inner r.outer d) b c → RowKept (k + 1) c
  row_more k d b c h e before here =
      record {
        kept =
            λ p corner shown q.
            let cost = copied_cost discount (block_in side source p corner) in
            let l = before.kept p corner shown q in
            let seen = shown_right side p corner r.from patch at (row_columns side r) (r.step * k) side (place_columns side r k h) shown in
            let there = subst (λ (v : MotionVector). Shown side p corner v patch (lines_right at (r.step * k)) side) (sym e) seen in
            kept_by cost s c (rows (k + 1) (row_place r))
            ((here.kept p corner there l.1).0 ∙ pieces_more cost s b (row_place r) k l.0 (ap (listed r.inner r.outer) e)) q;
      }

  -- all of them
  pub row_all : (k : ℕ) (b : Scored) → k ≡ r.count → RowKept k b
      → KeptOn side source patch at (row_columns side r) r.from discount (row_of r) s b
  unfolding row_of
  row_all k b e = subst (λ (n : ℕ). RowKept n b) e

-- what the search of a row cites
pub ruleset row_steps = (row_none, row_more, row_all)

-- on a strip that was copied from its first place on
pub strip_kept : (side : ℕ) (source strip : List ℕ) (p : Plane) (corner : Point) (r : Row) (discount : ℕ) (s b : Scored)
    → strip ≡ copied_block p (moved_to corner r.from) (side + r.step * r.count) side
    → KeptOn side source strip (lines_from 0 (side + r.step * r.count)) (row_columns side r) r.from discount (row_of r) s b
    → NoMoreThanZero (copied_cost discount (block_in side source p corner)) s
    → b ≡ kept_of (copied_cost discount (block_in side source p corner)) s (row_of r)
strip_kept side source strip p corner r discount s b e k q =
    let w = side + r.step * r.count in
    (k.kept p corner (narrower w (row_columns side r) (strip_columns side r.step r.count) (strip_shown p corner r.from w side strip e)) q).0

-- ---- rows of places

module _ (side : ℕ) (source patch : List ℕ) (from : MotionVector) (width height discount : ℕ) (line : ℕ → Row) (s : Scored) where
  -- whatever reference and place the patch is of: what the first j rows keep
  pub record RowsKept (j : ℕ) (b : Scored) : Type 0 where
    pub kept : (p : Plane) (corner : Point) → patch ≡ copied_block p (moved_to corner from) width height
        → NoMoreThanZero (copied_cost discount (block_in side source p corner)) s
        → b ≡ kept_of (copied_cost discount (block_in side source p corner)) s (rows j (λ i. row_of (line i)))

  pub rows_none : RowsKept 0 s
  unfolding rows
  rows_none = record { kept = λ p corner e h. refl }

  -- one row more, `by` rows down the patch
  pub rows_more : (j by : ℕ) (r : Row) (b c : Scored) → by + side ≤ height → row_columns side (line j) ≤ width → (line j).from ≡ down from by
      → r ≡ line j → RowsKept j b
      → KeptOn side source patch (record { first = by * width; stride = width }) (row_columns side r) r.from discount (row_of r) b c
      → RowsKept (j + 1) c
  rows_more j by r b c h w f e before here =
      record {
        kept =
            λ p corner held small.
            let cost = copied_cost discount (block_in side source p corner) in
            let l = before.kept p corner held small in
            let lines : Lines = record { first = by * width; stride = width } in
            let seen = narrower width (row_columns side (line j)) w (patch_shown p corner from width height side by patch h held) in
            let down-there = subst (λ (v : MotionVector). Shown side p corner v patch lines (row_columns side (line j))) (sym f) seen in
            let there = subst (λ (r : Row). Shown side p corner r.from patch lines (row_columns side r)) (sym e) down-there in
            let best = (kept_by cost s b (rows j (λ i. row_of (line i))) l small).1 in
            (here.kept p corner there best).0 ∙ pieces_more cost s b (λ i. row_of (line i)) j l (ap row_of e);
      }

  -- all of them
  pub rows_all : (n j : ℕ) (b : Scored) → j ≡ n → RowsKept j b → (p : Plane) (corner : Point)
      → patch ≡ copied_block p (moved_to corner from) width height → NoMoreThanZero (copied_cost discount (block_in side source p corner)) s
      → b ≡ kept_of (copied_cost discount (block_in side source p corner)) s (rows n (λ i. row_of (line i)))
  rows_all n j b e k p corner held small =
      let cost = copied_cost discount (block_in side source p corner) in
      k.kept p corner held small ∙ ap (λ (n : ℕ). kept_of cost s (rows n (λ i. row_of (line i)))) e

-- ---- a square

module _ (side : ℕ) (source patch : List ℕ) (q : Square) (width discount : ℕ) (s : Scored) where
  -- what the first j rows of a square keep
  abbrev pub SquareKept : ℕ → Scored → Type 0
  SquareKept = RowsKept side source patch q.from width width discount (square_row q) s

  pub square_none : SquareKept 0 s
  square_none = rows_none side source patch q.from width width discount (square_row q) s

  -- one row more
  pub square_more : (j : ℕ) (r : Row) (b c : Scored) → j < q.count → width ≡ side + q.count - 1 → r ≡ square_row q j → SquareKept j b
      → KeptOn side source patch (record { first = j * width; stride = width }) (row_columns side r) r.from discount (row_of r) b c
      → SquareKept (j + 1) c
  square_more j r b c h w e =
      rows_more side source patch q.from width width discount (square_row q) s j j r b c (last q.count h w) (columns q.count h w) refl e
    where
      columns : (count : ℕ) → j < count → width ≡ side + count - 1 → 1 * (count - 1) + side ≤ width
      columns count h w = omega arith

      last : (count : ℕ) → j < count → width ≡ side + count - 1 → j + side ≤ width
      last count h w = omega arith

  -- all of them
  pub square_all : (j : ℕ) (b : Scored) → j ≡ q.count → SquareKept j b → (p : Plane) (corner : Point)
      → patch ≡ copied_block p (moved_to corner q.from) width width → NoMoreThanZero (copied_cost discount (block_in side source p corner)) s
      → b ≡ kept_of (copied_cost discount (block_in side source p corner)) s (square_of q)
  unfolding square_of
  square_all = rows_all side source patch q.from width width discount (square_row q) s q.count

-- what the search of a square cites
pub ruleset square_steps = (square_none, square_more, square_all)

-- ---- the square of ±8

-- zero's sum, in the middle of its patch
pub middle_sum : (source patch : List ℕ) (p : Plane) (corner : Point) → NearPatch patch p corner
    → lines_sum 16 source 16 patch (lines_from 264 32) ≡ copied_sum (block_in 16 source p corner) zero_vector
middle_sum source patch p corner e =
    shown_sum 16 p corner zero_vector source patch (lines_from 264 32)
    (shown_right 16 p corner (down near_square.from 8) patch (record { first = 8 * 32; stride = 32 }) 32 8 16 (omega arith)
    (patch_shown p corner near_square.from 32 32 16 8 patch (omega arith) e))

-- what all its rows keep that begin with zero
pub near_all : (source patch : List ℕ) (z : Scored) (j : ℕ) (b : Scored) → MiddleStart source patch z → j ≡ 17
    → SquareKept 16 source patch near_square 32 zero_discount z j b → NearKept source patch b
near_all source patch z j b m e k =
    record {
      kept =
          λ p corner held.
          let cost = copied_cost zero_discount (block_in 16 source p corner) in
          let zero = m.start p corner held in
          square_all 16 source patch near_square 32 zero_discount z j b e k p corner held (zero_small cost z zero)
          ∙ ap (λ (s : Scored). kept_of cost s near_rows) zero;
    }
