-- Told, not believed: the plane that a lent one is.
use Rattle.plane.specs.Plane.{Plane, plane_of}
use Rattle.plane.specs.declared.held.HeldPlane.{HeldPlane}

abbrev pub lent_plane : HeldPlane → Plane
lent_plane p = plane_of p.samples.now p.geometry
