-- The bytes so far and those of the pairs that are left are those of the line.
use Rattle.std.proofs.Common.{◌≡◌, length, take, drop}
use Rattle.frames.specs.Hexadecimal.{bytes_of_pairs}
use Rattle.frames.proofs.Decoding.{onto, bytes_of_chunks}
use Rattle.frames.proofs.hex.bytes_of_line.Given as goal

abbrev pub invariant-loop-high : goal.invariant-loop-high
invariant-loop-high l =
    (onto (take l.len l.items) (bytes_of_chunks (drop l.high-index l.pairs)) ≡ bytes_of_pairs l.line)
    × (l.len ≡ l.high-index)
    × (length l.items ≡ 64)
