-- Document 02, U5: 1 minus twice the parity byte is 1 for even and -1 for odd, bit for bit. Assumes nothing.
use mathlib.Core.Path.{◌≡◌, refl}
use lib.Ieee.{of_int, add, sub, sum, mul, neg, round, units, odd}
use Rattle.numbers.specs.Binary32.{one}
use Rattle.geom.specs.declared.parity.Parity.TheVariants.{Even, Odd}
use Rattle.geom.specs.Normals.{sign}

pub sign_even : sign Even ≡ one
unfolding sign of_int add sub sum mul neg round units odd
sign_even = refl

pub sign_odd : sign Odd ≡ neg one
unfolding sign of_int add sub sum mul neg round units odd
sign_odd = refl
