-- A number and its bytes, and the numbers of a card and theirs. Assumes nothing.
use Rattle.std.specs.Prelude.{◌≡◌, ℕ, zero, suc, ◌+◌, ◌*◌, ◌/◌, ◌%◌, ◌^◌, ◌<◌, ◌≤◌, Bool, true, false, cond, ◌&&◌, T, List, [], ◌∷◌, ◌++◌, length, take, drop, nat_le, nat_lt, slice_index, slice_index_or, refl}
use Rattle.std.proofs.Common.{sym, ap, subst, ◌∙◌, append-nil, append_assoc, pow-suc, add-zero, arith, leb→le, ltb→lt, length-append, length-drop, Fits}
use Rattle.std.specs.Int.{w8}
use Rattle.std.specs.Int.Digits.{number_from_digits, number_from_digits_after, AllBelowBase}
use Rattle.std.proofs.lemmas.Int.Digits.{number_push}
use Rattle.std.proofs.ByRecursion.{All-append, All-from_get_or, All-push, All-take, All-drop}
use Rattle.std.proofs.lemmas.List.{length_push, length-take-le, take-append-drop, take_at, drop_at}
use Rattle.cards.specs.Fields.{NumberField, size_of, numbers, bytes_of, written, within, first_over, sound}
use Rattle.cards.specs.Truths.{both}

pub length_bytes_of : (w n : ℕ) → length (bytes_of w n) ≡ w
length_bytes_of zero n = refl
length_bytes_of (suc w) n = let e = length_bytes_of w (n / 256) in let p = length_push (bytes_of w (n / 256)) (n % 256) in omega arith

under_bytes_of : (w n : ℕ) → AllBelowBase 256 (bytes_of w n)
under_bytes_of zero n = tt
under_bytes_of (suc w) n = All-push (λ b. b < 256) (bytes_of w (n / 256)) (n % 256) (under_bytes_of w (n / 256)) (omega arith)

-- a number that fits its bytes is read back from them
number_bytes_of : (w n : ℕ) → n < 256 ^ w → number_from_digits 256 (bytes_of w n) ≡ n
number_bytes_of zero n h = let z : n < 1 = h in omega arith
number_bytes_of (suc w) n h =
    let q : n < 256 ^ w * 256 = subst (λ m. n < m) (pow-suc 256 w) h in
    let e = number_bytes_of w (n / 256) (omega arith) in
    let p = number_push 256 (bytes_of w (n / 256)) (n % 256) in
    omega arith

-- bytes are what the number that they stand for is written as
bytes_of_after : (k m : ℕ) (bs : List ℕ) → AllBelowBase 256 bs → bytes_of (k + length bs) (number_from_digits_after 256 m bs) ≡ bytes_of k m ++ bs
bytes_of_after k m [] u = rw add-zero (sym (append-nil _))
bytes_of_after k m (b ∷ bs) u =
    let q : (m * 256 + b) / 256 ≡ m = omega (arith, u.0) in
    let r : (m * 256 + b) % 256 ≡ b = omega (arith, u.0) in
    let n : k + suc (length bs) ≡ suc k + length bs = omega arith in
    ap (λ w. bytes_of w (number_from_digits_after 256 (m * 256 + b) bs)) n
    ∙ bytes_of_after (suc k) (m * 256 + b) bs u.1
    ∙ (λ i. (bytes_of k (q i) ++ r i ∷ []) ++ bs)
    ∙ append_assoc (bytes_of k m) (b ∷ []) bs

bytes_of_number : (w : ℕ) (bs : List ℕ) → AllBelowBase 256 bs → length bs ≡ w → bytes_of w (number_from_digits 256 bs) ≡ bs
bytes_of_number w bs u e = let n : w ≡ 0 + length bs = omega arith in ap (λ k. bytes_of k (number_from_digits 256 bs)) n ∙ bytes_of_after 0 0 bs u

-- lawful bytes, read as numbers and written, come out the same
pub written_numbers : (fs : List NumberField) (bs : List ℕ) → AllBelowBase 256 bs → length bs ≡ size_of fs → written fs (numbers fs bs) ≡ bs
written_numbers [] [] u e = refl
written_numbers [] (b ∷ bs) u e = absurd (omega arith)
written_numbers (f ∷ fs) bs u e =
    let w = f.width in
    let front : length (take w bs) ≡ w = length-take-le w bs (omega arith) in
    let rest : length (drop w bs) ≡ size_of fs = omega (arith, length-drop w bs) in
    (λ i. bytes_of_number w (take w bs) (All-take (λ b. b < 256) w bs u) front i ++ written_numbers fs (drop w bs) (All-drop (λ b. b < 256) w bs u) rest i)
    ∙ take-append-drop w bs

-- numbers within their limits, written and read, come out the same
pub numbers_written : (fs : List NumberField) (vs : List ℕ) → T (sound fs) → T (within fs vs) → numbers fs (written fs vs) ≡ vs
numbers_written [] [] s h = refl
numbers_written [] (v ∷ vs) s h = absurd h
numbers_written (f ∷ fs) [] s h = absurd h
numbers_written (f ∷ fs) (v ∷ vs) s h =
    let w = f.width in
    let fine = both (sound fs) (nat_lt 0 w && nat_lt f.most (256 ^ w)) s in
    let fit = both (within fs vs) (nat_le v f.most) h in
    let top : f.most < 256 ^ w = ltb→lt f.most (256 ^ w) (both (nat_lt 0 w) (nat_lt f.most (256 ^ w)) fine.1).1 in
    let low : v ≤ f.most = leb→le v f.most fit.1 in
    let small : v < 256 ^ w = omega arith in
    let long = length_bytes_of w v in
    (λ i. number_from_digits 256 (take_at (bytes_of w v) (written fs vs) w long i) ∷ numbers fs (drop_at (bytes_of w v) (written fs vs) w long i))
    ∙ (λ i. number_bytes_of w v small i ∷ numbers_written fs vs fine.0 fit.0 i)

pub length_written : (fs : List NumberField) (vs : List ℕ) → T (within fs vs) → length (written fs vs) ≡ size_of fs
length_written [] vs h = refl
length_written (f ∷ fs) [] h = absurd h
length_written (f ∷ fs) (v ∷ vs) h =
    omega (arith, length-append (bytes_of f.width v) (written fs vs), length_bytes_of f.width v, length_written fs vs (both _ _ h).0)

pub under_written : (fs : List NumberField) (vs : List ℕ) → AllBelowBase 256 (written fs vs)
under_written [] vs = tt
under_written (f ∷ fs) [] = tt
under_written (f ∷ fs) (v ∷ vs) = All-append (λ b. b < 256) (bytes_of f.width v) (written fs vs) (under_bytes_of f.width v) (under_written fs vs)

-- a number that is within the limits is within its own
pub within_at : (fs : List NumberField) (vs : List ℕ) (i : ℕ) (d : NumberField) → T (within fs vs) → i < length fs → slice_index vs i ≤ (slice_index_or fs i d).most
within_at [] vs i d h l = absurd (omega arith)
within_at (f ∷ fs) [] i d h l = absurd h
within_at (f ∷ fs) (v ∷ vs) zero d h l = leb→le v f.most (both (within fs vs) (nat_le v f.most) h).1
within_at (f ∷ fs) (v ∷ vs) (suc i) d h l = within_at fs vs i d (both (within fs vs) (nat_le v f.most) h).0 (omega arith)

-- a field whose number is above its limit begins inside the card
over_inside : (f : NumberField) (v rest size : ℕ) (b : Bool) → 0 < f.width → (b ≡ true → rest < size) → cond b (f.width + rest) 0 < f.width + size
over_inside f v rest size true w h = let k = h refl in omega arith
over_inside f v rest size false w h = omega arith

and_false : (a b : Bool) → (a && b) ≡ false → b ≡ true → a ≡ false
and_false true b e h = sym h ∙ e
and_false false b e h = refl

pub first_over_inside : (fs : List NumberField) (bs : List ℕ) → T (sound fs) → within fs (numbers fs bs) ≡ false → first_over fs (numbers fs bs) < size_of fs
first_over_inside [] bs s e = cc
first_over_inside (f ∷ fs) bs s e =
    let fine = both _ _ s in
    let some = ltb→lt 0 f.width (both _ _ fine.1).0 in
    let v = number_from_digits 256 (take f.width bs) in
    let rest = drop f.width bs in
    over_inside f v (first_over fs (numbers fs rest)) (size_of fs) (nat_le v f.most) some
    (λ h. first_over_inside fs rest fine.0 (and_false (within fs (numbers fs rest)) (nat_le v f.most) e h))

-- what a slice of bytes holds is bytes
pub bytes_fit : (bs : List ℕ) → ((i : ℕ) → Fits w8 (slice_index bs i)) → AllBelowBase 256 bs
bytes_fit bs h = All-from_get_or (λ b. b < 256) bs 0 (λ i l. let f = h i in omega arith)
