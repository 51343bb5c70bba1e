-- What the entry answers and leaves, as one value.
-- Says nothing of what is right, which is `loaded` of geom's File.
-- Assumes nothing.
use Rattle.geom.specs.declared.answer.Sizes.{Sizes}
use Rattle.geom.specs.Answers.{Judgement, Opening}
use Rattle.geom.specs.Memory.{Bench}
use Rattle.geom.specs.File.{Loaded}

abbrev pub opening : Sizes → Judgement → Opening
opening sizes judgement = record { sizes = sizes; judgement = judgement }

-- the answer, and the first bench afterwards
abbrev pub outcome : Opening → Bench → Loaded
outcome opening bench = record { opening = opening; bench = bench }
