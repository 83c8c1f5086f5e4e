-- The areas of a macroblock's record, which the entries that search and code write beside the three event areas: each part in its own.
use Rattle.std.specs.Prelude.{ℕ, List, [], ◌∷◌, ℤ}
use Rattle.record.specs.declared.Record.{Record}
use Rattle.areas.specs.Search.{vector_area, vectors_area}

pub record RecordAreas : Type 0 where
  -- horizontal, vertical
  pub vector : List ℤ
  pub sum : ℕ
  -- each vector's horizontal, then vertical
  pub four_vectors_of : List ℤ
  pub four_sums_of : List ℕ
  -- luma, chroma
  pub patterns : List ℕ
  pub counts : List ℕ

-- in the order of the entry's parameters
abbrev pub record_areas : List ℤ → ℕ → List ℤ → List ℕ → List ℕ → List ℕ → RecordAreas
record_areas vector sum four_vectors_of four_sums_of patterns counts =
    record { vector = vector; sum = sum; four_vectors_of = four_vectors_of; four_sums_of = four_sums_of; patterns = patterns; counts = counts }

-- luma, then chroma
abbrev pub patterns_area : ℕ → ℕ → List ℕ
patterns_area luma chroma = luma ∷ chroma ∷ []

abbrev pub record_areas_of : Record → RecordAreas
record_areas_of r =
    record_areas (vector_area r.vector) r.sum (vectors_area r.vectors) r.sums (patterns_area r.luma_pattern r.chroma_pattern) r.counts
