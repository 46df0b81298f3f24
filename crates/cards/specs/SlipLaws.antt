-- The slip is a kind of card. Assumes nothing.
use Rattle.std.specs.Prelude.{◌≡◌, ℕ, ◌+◌, ◌*◌, ◌<◌, ◌≤◌, true, false, cond, ◌&&◌, T, leb, List, [], ◌∷◌, length, Ok, Err, nat_le, slice_index, refl}
use Rattle.std.proofs.Common.{ap, ◌∙◌, arith, lit≤}
use Rattle.std.proofs.lemmas.Bool.{le-leb, lt-leb}
use Rattle.cards.specs.declared.fault.CardFault.TheVariants.{Field}
use Rattle.cards.specs.declared.slip.Slip.{Slip}
use Rattle.cards.specs.Fields.{within}
use Rattle.cards.specs.Kinds.{Lawful}
use Rattle.cards.specs.Layouts.{slip_fields}
use Rattle.cards.specs.Slips.{slip_size, slip_made, slip_numbers, slip_of, slip_reading, slip_writing}
use Rattle.cards.specs.Laws.{lawful_fields}
use Rattle.cards.specs.Truths.{checked_pass, checked_fail}

parted : (vs : List ℕ) (fit : T (within slip_fields vs)) → slip_numbers (slip_made vs fit) ≡ vs
parted [] fit = absurd fit
parted (o ∷ []) fit = absurd fit
parted (o ∷ v ∷ []) fit = refl
parted (o ∷ v ∷ w ∷ vs) fit = absurd fit

pub slip_lawful : Lawful slip_size slip_reading slip_writing
slip_lawful = lawful_fields slip_fields slip_made slip_numbers tt (lit≤ tt) (λ s. s.fits) parted (λ s. refl)

pub slip_fine : (s : Slip) → slip_of (slip_numbers s) ≡ Ok s
slip_fine s = checked_pass (within slip_fields (slip_numbers s)) (λ fit. Ok (slip_made (slip_numbers s) fit)) _ s.fits

-- a can that is too large is told at the can size, since an order number of four bytes always fits
pub slip_over : (o v : ℕ) → o ≤ 4294967295 → 250 < v → slip_of (o ∷ v ∷ []) ≡ Err (Field 4)
slip_over o v h k =
    let order : leb o 4294967295 ≡ true = le-leb o 4294967295 h in
    let can : leb v 250 ≡ false = lt-leb v 250 k in
    checked_fail _ _ _ (ap (λ t. t && nat_le o 4294967295) can)
    ∙ (λ i. Err (Field (cond (order i) (4 + cond (can i) 2 0) 0)))

-- the two numbers in six bytes
pub slip_in : (bs : List ℕ) (o v : ℕ) → length bs ≡ 6
    → o ≡ slice_index bs 0 * 16777216 + slice_index bs 1 * 65536 + slice_index bs 2 * 256 + slice_index bs 3
    → v ≡ slice_index bs 4 * 256 + slice_index bs 5
    → slip_of (o ∷ v ∷ []) ≡ slip_reading bs
slip_in (a ∷ b ∷ c ∷ d ∷ e ∷ f ∷ []) o v l p q =
    let order : o ≡ (((0 * 256 + a) * 256 + b) * 256 + c) * 256 + d = omega arith in
    let can : v ≡ (0 * 256 + e) * 256 + f = omega arith in
    (λ i. slip_of (order i ∷ can i ∷ []))
slip_in [] o v l p q = absurd (omega arith)
slip_in (a ∷ []) o v l p q = absurd (omega arith)
slip_in (a ∷ b ∷ []) o v l p q = absurd (omega arith)
slip_in (a ∷ b ∷ c ∷ []) o v l p q = absurd (omega arith)
slip_in (a ∷ b ∷ c ∷ d ∷ []) o v l p q = absurd (omega arith)
slip_in (a ∷ b ∷ c ∷ d ∷ e ∷ []) o v l p q = absurd (omega arith)
slip_in (a ∷ b ∷ c ∷ d ∷ e ∷ f ∷ g ∷ bs) o v l p q = absurd (omega arith)
