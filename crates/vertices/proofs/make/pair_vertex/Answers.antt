-- `vertices::make::pair_vertex` meets its contract. Assumes nothing.
use Rattle.geom.specs.Floats.{binary32}
use Rattle.vertices.proofs.Making.{first_row, second_row, pair_made}
use Rattle.vertices.proofs.make.pair_vertex.Goals as goal

pub vertex_at-first-requires : goal.vertex_at-first-requires
vertex_at-first-requires c = first_row _ _ _ _ _ _ c.requires.stand c.requires.ends c.word-a.ensures

pub vertex_at-second-requires : goal.vertex_at-second-requires
vertex_at-second-requires c = second_row _ _ _ _ _ _ c.requires.stand c.requires.ends c.word-b.ensures

pub returns : goal.returns
returns c = pair_made binary32 _ _ _ _ _ _ _ _ _ _ c.requires.ends c.word-a.ensures c.word-b.ensures c.vertex_at-first.ensures c.vertex_at-second.ensures c.midpoint_vertex.ensures
