-- `normals4::tetrahedra::volume_normal` meets its contract. Assumes nothing.
use Rattle.normals4.proofs.Faces.{volume_is}
use Rattle.normals4.proofs.tetrahedra.volume_normal.Goals as goal

pub returns : goal.returns
returns c = λ marks. volume_is _ _ _ marks _ _ _ _ c.requires.below _ _ _ _ _ _ _ _ _ _ c.point_at-origin.ensures c.point_at-v1.ensures c.point_at-v2.ensures c.point_at-v3.ensures c.sub.ensures c.sub-2.ensures c.sub-3.ensures c.minors.ensures c.signs.ensures c.times.ensures
