-- The kind that the enum `Kind` says.
-- Assumes nothing.
use Rattle.geom.specs.declared.kind.Kind.{Kind}
use Rattle.geom.specs.declared.kind.Kind.TheVariants.{Cubes, Simplices}
use Rattle.geom.specs.Book as Book

abbrev pub kind_of : Kind → Book.Kind
kind_of Cubes = Book.cubes
kind_of Simplices = Book.simplices
