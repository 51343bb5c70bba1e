-- `normals4::tetrahedra::Faces::add` of tetrahedra meets its contract. Assumes nothing.
use Rattle.normals4.proofs.Faces.{four_below, tetrahedron_on}
use Rattle.normals4.proofs.tetrahedra.TetrahedraFaces.add.Goals as goal

pub volume_normal-n-requires-clause-below : goal.volume_normal-n-requires-clause-below
volume_normal-n-requires-clause-below c = four_below _ _ _ c.requires.signed.elements _ _ _ _ c.word-a.ensures c.word-b.ensures c.word-c.ensures c.word-d.ensures

pub returns : goal.returns
returns c = tetrahedron_on _ _ _ c.requires.signed.elements _ _ _ _ c.word-a.ensures c.word-b.ensures c.word-c.ensures c.word-d.ensures _ _ c.volume_normal-n.ensures _ _ c.to_corners.ensures
