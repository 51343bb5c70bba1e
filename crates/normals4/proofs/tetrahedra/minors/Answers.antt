-- `normals4::tetrahedra::minors` meets its contract. Assumes nothing.
use Rattle.normals4.proofs.Faces.{minors_are}
use Rattle.normals4.proofs.tetrahedra.minors.Goals as goal

pub returns : goal.returns
returns c = minors_are _ _ _ _ _ _ _ _ _ _ _ _ _ _ _ _ _ _ _ _ c.firsts-b1.ensures c.seconds-b2.ensures c.thirds-b3.ensures c.firsts-c1.ensures c.seconds-c2.ensures c.thirds-c3.ensures c.firsts.ensures c.crossed.ensures c.times-first.ensures c.seconds.ensures c.crossed-2.ensures c.times-second.ensures c.thirds.ensures c.crossed-3.ensures c.times-third.ensures c.sub.ensures c.add.ensures
