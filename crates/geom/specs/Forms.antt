-- The number forms by name. A contract is a Type 0 and can't speak of every form, which is a Type 1; it can speak of every name.
-- Assumes nothing.
use Rattle.geom.specs.Form.{Form}
use Rattle.geom.specs.Floats.{binary32}

pub data Numbers : Type 0 where
  floats : Numbers

abbrev pub form : Numbers → Form
form floats = binary32
