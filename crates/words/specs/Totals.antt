-- How lines are counted.
use Rattle.std.specs.Prelude.{ℕ, ◌+◌, ◌-◌, ◌^◌, min, List, ◌++◌, Some, None, codes, decimal, Option}
use Rattle.frames.specs.declared.refusal.LineFault.{LineFault}
use Rattle.frames.specs.declared.refusal.LineFault.TheVariants as fault
use Rattle.words.specs.declared.totals.Totals.{Totals}

abbrev pub zero_totals : Totals
zero_totals = record { lines = 0; frames = 0; bad_digits = 0; bad_shapes = 0 }

-- one more, up to the largest number
abbrev pub one_more : ℕ → ℕ
one_more n = min (n + 1) (2 ^ 64 - 1)

-- a line is counted, and with it a frame or a fault
abbrev pub counted : Totals → Option LineFault → Totals
counted t None = record { lines = one_more t.lines; frames = one_more t.frames; bad_digits = t.bad_digits; bad_shapes = t.bad_shapes }
counted t (Some fault.Digits) = record { lines = one_more t.lines; frames = t.frames; bad_digits = one_more t.bad_digits; bad_shapes = t.bad_shapes }
counted t (Some fault.Shape) = record { lines = one_more t.lines; frames = t.frames; bad_digits = t.bad_digits; bad_shapes = one_more t.bad_shapes }

abbrev pub totals_words : Totals → List ℕ
totals_words t =
    codes "total: lines " ++ (decimal t.lines
    ++ (codes ", frames " ++ (decimal t.frames
    ++ (codes ", refused with 1: " ++ (decimal t.bad_digits
    ++ (codes ", refused with 2: " ++ decimal t.bad_shapes))))))
