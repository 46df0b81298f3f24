-- The words of quantities, as bytes. Assumes nothing.
use Rattle.std.specs.Prelude.{ℕ, cond, List, ◌++◌, codes, decimal, ◌==◌}

abbrev pub byte_count : ℕ → List ℕ
byte_count n = cond (n == 1) (codes "1 byte") (decimal n ++ codes " bytes")
