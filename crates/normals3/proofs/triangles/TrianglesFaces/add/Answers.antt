-- `normals3::triangles::Faces::add` of triangles meets its contract. Assumes nothing.
use Rattle.normals3.proofs.Faces.{three_below, triangle_off, triangle_on}
use Rattle.normals3.proofs.triangles.TrianglesFaces.add.Goals as goal

pub area_normal-n-requires-clause-below : goal.area_normal-n-requires-clause-below
area_normal-n-requires-clause-below c = three_below _ _ _ c.requires.signed.elements _ _ _ c.word-a.ensures c.word-b.ensures c.word-c.ensures

pub returns-then-three_corners : goal.returns-then-three_corners
returns-then-three_corners c =
    triangle_on _ _ _ c.requires.signed.elements _ _ _ c.word-a.ensures c.word-b.ensures c.word-c.ensures _ c.three_corners.ensures c.if-three_corners.true _ _ c.area_normal-n.ensures _ _ c.to_corners.ensures

pub returns-else-three_corners : goal.returns-else-three_corners
returns-else-three_corners c = λ marks.
    triangle_off _ _ _ c.requires.signed.elements _ _ _ c.word-a.ensures c.word-b.ensures c.word-c.ensures _ c.three_corners.ensures c.if-three_corners.false _ marks _
