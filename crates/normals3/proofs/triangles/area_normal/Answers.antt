-- `normals3::triangles::area_normal` meets its contract. Assumes nothing.
use Rattle.normals3.proofs.Faces.{area_is}
use Rattle.normals3.proofs.triangles.area_normal.Goals as goal

pub returns : goal.returns
returns c = λ marks. area_is _ _ _ marks _ _ _ c.requires.below _ _ _ _ _ _ _ _ c.xyz_at-v1.ensures c.xyz_at-v2.ensures c.xyz_at-v3.ensures c.sub.ensures c.sub-2.ensures c.cross.ensures c.sign.ensures c.scale.ensures
