-- The laws of lines: written and read, capitals, the case of letters.
use Rattle.std.proofs.Common.{◌≡◌, ℕ, ◌+◌, ◌*◌, ◌/◌, ◌%◌, ◌<◌, ◌≤◌, List, [], ◌∷◌, map, length, Some, sym, refl, ap, ◌∙◌, arith}
use Rattle.std.proofs.lemmas.List.{length-map}
use Rattle.std.proofs.lemmas.Bool.{cond-true, le-leb}
use Rattle.std.proofs.lemmas.Bool.Decides.{nat_tests}
use Rattle.std.specs.Char.{to_ascii_uppercase}
use Rattle.frames.specs.Hexadecimal.{digit_of, bytes_of_pairs, bytes_of_line, capital_of, written}
use Rattle.frames.specs.Laws.{Bytes, BytesComeBack, Capital, OnlyCapitals, CaseIsFree}

capital_reads : (d : ℕ) → d < 16 → digit_of (capital_of d) ≡ Some d
capital_reads d small = grind (arith, nat_tests)

written_length : (bs : List ℕ) → length (written bs) ≡ length bs + length bs
written_length [] = refl
written_length (b ∷ bs) = let e = written_length bs in omega arith

pairs_back : (bs : List ℕ) → Bytes bs → bytes_of_pairs (written bs) ≡ Some bs
pairs_back [] all = refl
pairs_back (b ∷ bs) all =
    let high : b / 16 < 16 = omega (arith, all.0) in
    let low : b % 16 < 16 = omega arith in
    let whole : (b / 16) * 16 + b % 16 ≡ b = omega arith in
    rw (capital_reads (b / 16) high, capital_reads (b % 16) low, pairs_back bs all.1) (ap (λ n. Some (n ∷ bs)) whole)

pub bytes_back : BytesComeBack
bytes_back bs all short =
    let fits : length (written bs) ≤ 128 = omega (arith, written_length bs) in
    cond-true _ _ _ (le-leb _ _ fits) ∙ pairs_back bs all

capital_sign : (d : ℕ) → d < 16 → Capital (capital_of d)
capital_sign d small = grind (arith, nat_tests)

pub capitals : OnlyCapitals
capitals [] all = tt
capitals (b ∷ bs) all =
    (capital_sign (b / 16) (omega (arith, all.0)), (capital_sign (b % 16) (omega arith), capitals bs all.1))

upper_reads : (c : ℕ) → digit_of (to_ascii_uppercase c) ≡ digit_of c
upper_reads c = grind (arith, nat_tests)

pairs_upper : (s : List ℕ) → bytes_of_pairs (map to_ascii_uppercase s) ≡ bytes_of_pairs s
pairs_upper [] = refl
pairs_upper (a ∷ []) = refl
pairs_upper (a ∷ b ∷ s) = rw (upper_reads a, upper_reads b, pairs_upper s) refl

line_upper : (s : List ℕ) → bytes_of_line (map to_ascii_uppercase s) ≡ bytes_of_line s
line_upper s = rw (length-map s to_ascii_uppercase, pairs_upper s) refl

pub case_free : CaseIsFree
case_free s t same = sym (line_upper s) ∙ ap bytes_of_line same ∙ line_upper t
