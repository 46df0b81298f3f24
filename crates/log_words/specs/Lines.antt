-- What is said of a line of a log.
use Rattle.std.specs.Prelude.{◌≡◌, ℕ, List, ◌++◌, Some, None, Ok, Err, string_bytes, codes, decimal, Option, Result, String}
use Rattle.std.specs.declared.alloc.AllocError.{AllocError}
use Rattle.std.specs.declared.alloc.Global.{Global}
use Rattle.frames.specs.Frames.{FrameValue, asked}
use Rattle.frames.specs.Refusals.{line_refused}
use Rattle.frames.specs.declared.refusal.LineFault.{LineFault}
use Rattle.settings.specs.declared.choices.KindChoice.{KindChoice}
use Rattle.words.specs.FrameWords.{frame_words}
use Rattle.words.specs.RefusalWords.{refused_words}
use Rattle.words.specs.Totals.{counted}
use Rattle.log_words.specs.Remarks.{remark, KindAfter}
use Rattle.log_words.specs.declared.log.Log.{Log}

-- words, and a remark behind them if there is one
abbrev pub with_remark : List ℕ → Option (List ℕ) → List ℕ
with_remark words None = words
with_remark words (Some more) = words ++ (codes ": " ++ more)

-- the frame, or what the line is refused for
abbrev pub asked_words : Option KindChoice → Result FrameValue LineFault → List ℕ
asked_words k (Ok f) = with_remark (frame_words f) (remark k f)
asked_words k (Err e) = refused_words (line_refused e)

abbrev pub fault_of : Result FrameValue LineFault → Option LineFault
fault_of (Ok f) = None
fault_of (Err e) = Some e

-- "3: station 0 follows link 1 of record 4", where it is the third line
abbrev pub numbered : ℕ → List ℕ → List ℕ
numbered n words = decimal n ++ (codes ": " ++ words)

abbrev pub KindKept : Option KindChoice → Result FrameValue LineFault → Option KindChoice → Type 0
KindKept k (Ok f) after = KindAfter k f after
KindKept k (Err e) after = after ≡ k

-- The text is that of the next line, which is counted, and the kind is what the lines so far have told. Without memory there is no text,
-- and nothing is counted or told.
abbrev pub ExplainsAs : Log → Result FrameValue LineFault → Result (String Global) AllocError → Log → Type 0
ExplainsAs l a (Ok s) m =
    (string_bytes s ≡ numbered m.totals.lines (asked_words l.kind a)) × (m.totals ≡ counted l.totals (fault_of a)) × KindKept l.kind a m.kind
ExplainsAs l a (Err e) m = m ≡ l

abbrev pub Explains : Log → List ℕ → Result (String Global) AllocError → Log → Type 0
Explains l line r m = ExplainsAs l (asked line) r m
