-- Document 01, sections 1 to 4: the form in which a coordinate is a binary32 number.
-- Says nothing of which element gives when (Smoothing).
-- Assumes nothing.
use Rattle.std.specs.Prelude.{refl, Bool, false, true, ◌&&◌, List, Float, pos, negsuc, get_or, take, drop}
use Rattle.std.specs.Float.Ieee as Ieee
use Rattle.std.specs.Float.{fin}
use Rattle.numbers.specs.declared.vec4.Vec4.{Vec4}
use Rattle.numbers.specs.Binary32.{zero, half, count}
use Rattle.numbers.specs.Points4 as Points4
use Rattle.geom.specs.declared.vertex.Vertex.{Vertex}
use Rattle.geom.specs.Form.{Fourfold, Form}

-- 6: finite, from -1,024 to 1,024
unfoldable pub good_coordinate : Float → Bool
good_coordinate c = Ieee.le (fin true 1 (pos 10)) c && Ieee.le c (fin false 1 (pos 10))

-- Section 4, by section 1's column rule; a line's other columns are +0.
unfoldable pub column_rule : Vec4 → List Vec4 → Vec4
column_rule weights ps =
    Points4.columns
    (get_or ps 0 Points4.origin)
    (get_or ps 1 Points4.origin)
    (get_or ps 2 Points4.origin)
    (get_or ps 3 Points4.origin)
    weights

-- a line's two corners get 1/2, its other weights are +0
abbrev pub LINE_WEIGHTS : Vec4
LINE_WEIGHTS = record { x = half; y = half; z = zero; w = zero }

-- the same weight for each of four corners
abbrev pub broadcast : Float → Vec4
broadcast k = record { x = k; y = k; z = k; w = k }

abbrev pub SQUARE_WEIGHTS : Vec4
SQUARE_WEIGHTS = broadcast (fin false 1 (negsuc 1))

abbrev pub CUBE_WEIGHTS : Vec4
CUBE_WEIGHTS = broadcast (fin false 1 (negsuc 2))

-- A cube adds the rule for corners 0 to 3 and that for 4 to 7.
unfoldable pub cube_rule : List Vec4 → Vec4
cube_rule ps = Points4.sum (column_rule CUBE_WEIGHTS (take 4 ps)) (column_rule CUBE_WEIGHTS (drop 4 ps))

-- four binary32 numbers carried together
abbrev pub points4 : Fourfold Float Vec4
points4 =
    record {
      four = λ x y z w. record { x = x; y = y; z = z; w = w };
      x = λ p. p.x;
      y = λ p. p.y;
      z = λ p. p.z;
      w = λ p. p.w;
      zero = zero;
      axes_of_lem = λ a b c d. (refl, refl, refl, refl);
      own = λ p. refl;
    }

-- the corner sum of a simplex divided by 4, 3, 2; sum/count
abbrev pub binary32 : Form
binary32 =
    record {
      Coordinate = Float;
      good = good_coordinate;
      Point = Vec4;
      points = points4;
      Vertex = Vertex;
      vertex = λ position flags tag k. record { position = position; flags = flags; tag = tag; k = k };
      position = λ v. v.position;
      flags = λ v. v.flags;
      tag = λ v. v.tag;
      k = λ v. v.k;
      parts_of = λ p f t n. (refl, refl, refl, refl);
      whole = λ v. refl;
      midpoint = Points4.midpoint;
      origin = Points4.origin;
      Cell = Float;
      Sum = Vec4;
      sums = points4;
      none = Points4.origin;
      add = Points4.sum;
      segment = Points4.mean;
      triangle = Points4.mean;
      tetrahedron = Points4.mean;
      line = column_rule LINE_WEIGHTS;
      square = column_rule SQUARE_WEIGHTS;
      cube = cube_rule;
      mean = λ sum n. Points4.quotient sum (count n);
    }
