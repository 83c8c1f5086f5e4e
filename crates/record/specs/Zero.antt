-- The vector and the record that are 0 throughout.
use Rattle.std.specs.Prelude.{pos, replicate}
use Rattle.record.specs.declared.MotionVector.{MotionVector}
use Rattle.record.specs.declared.Record.{Record}

abbrev pub zero_vector : MotionVector
zero_vector = record { x = pos 0; y = pos 0 }

abbrev pub no_record : Record
no_record =
    record {
      vector = zero_vector;
      sum = 0;
      vectors = replicate 4 zero_vector;
      sums = replicate 4 0;
      luma_pattern = 0;
      chroma_pattern = 0;
      counts = replicate 6 0;
    }
