-- The digits so far and those of the bytes that are left are those of all bytes.
use Rattle.std.proofs.Common.{◌≡◌, ◌+◌, ◌++◌, length, take, drop}
use Rattle.frames.specs.Hexadecimal.{written}
use Rattle.frames.proofs.hex.encode.Given as goal

abbrev pub invariant-loop-byte : goal.invariant-loop-byte
invariant-loop-byte l =
    (take l.len l.signs ++ written (drop l.byte-index l.byte-items) ≡ written l.byte-items)
    × (l.len ≡ l.byte-index + l.byte-index)
    × (length l.signs ≡ 129)
