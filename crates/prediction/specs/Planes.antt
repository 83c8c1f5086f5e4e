-- The reference's three planes: luma, and Cb and Cr, whose sides are half of luma's, rounded up, and whose rows are one stride apart.
use Rattle.std.specs.Prelude.{length}
use Rattle.refusal.specs.Reply.{Reply, and_then}
use Rattle.plane.specs.declared.Geometry.{Geometry}
use Rattle.plane.specs.Plane.{Plane, plane_of, geometry_of}
use Rattle.plane.specs.Reference.{reference_size_reply, reference_bytes_reply}
use Rattle.plane.specs.Samples.{Samples}
use Rattle.plane.specs.Source.{halved}
use Rattle.prediction.specs.declared.PlaneLengths.{PlaneLengths}
use Rattle.prediction.specs.declared.ReferenceGeometry.{ReferenceGeometry}

pub record Planes : Type 0 where
  pub y : Plane
  pub cb : Plane
  pub cr : Plane

-- of each chroma plane
abbrev pub chroma_geometry : ReferenceGeometry → Geometry
chroma_geometry g = geometry_of (halved g.luma.width) (halved g.luma.height) g.chroma_stride

abbrev pub planes_of : Samples → ReferenceGeometry → Planes
planes_of s g = record { y = plane_of s.y g.luma; cb = plane_of s.cb (chroma_geometry g); cr = plane_of s.cr (chroma_geometry g) }

-- how long three lists are
abbrev pub lengths_in : Samples → PlaneLengths
lengths_in s = record { y = length s.y; cb = length s.cb; cr = length s.cr }

-- 4 of any plane, then 5 of any
unfoldable pub planes_reply : ReferenceGeometry → PlaneLengths → Reply
planes_reply g n =
    and_then (reference_size_reply g.luma)
    (and_then (reference_size_reply (chroma_geometry g))
    (and_then (reference_bytes_reply g.luma n.y)
    (and_then (reference_bytes_reply (chroma_geometry g) n.cb) (reference_bytes_reply (chroma_geometry g) n.cr))))
