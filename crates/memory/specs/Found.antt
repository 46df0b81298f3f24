-- What an access found, read as a name, a flag or a test for zero.
use Rattle.std.specs.Prelude.{Bool, false, ℤ, pos, negsuc, None, Option, ◌==◌}
use Rattle.terms.specs.declared.Record.{Record}
use Rattle.memory.specs.declared.access.Found.{Found}
use Rattle.memory.specs.declared.access.Found.TheVariants.{Nothing, Name, Flag, Number}

abbrev pub name_in : Found → Option Record
name_in Nothing = None
name_in (Name v) = v
name_in (Flag b) = None
name_in (Number z) = None

abbrev pub flag_in : Found → Bool
flag_in Nothing = false
flag_in (Name v) = false
flag_in (Flag b) = b
flag_in (Number z) = false

abbrev pub is_zero : ℤ → Bool
is_zero (pos n) = n == 0
is_zero (negsuc n) = false

abbrev pub zero_in : Found → Bool
zero_in Nothing = false
zero_in (Name v) = false
zero_in (Flag b) = false
zero_in (Number z) = is_zero z
