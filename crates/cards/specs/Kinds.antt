-- What makes a length, a reading of bytes and a writing a kind of card. Assumes nothing.
use Rattle.std.specs.Prelude.{◌≡◌, ℕ, ◌<◌, ◌≤◌, List, length, Ok, Err, Result, ◌≢◌}
use Rattle.std.specs.Int.Digits.{AllBelowBase}
use Rattle.cards.specs.declared.fault.CardFault.{CardFault}
use Rattle.cards.specs.declared.fault.CardFault.TheVariants.{Length, Field}

pub record Lawful {C : Type 0} (size : ℕ) (reading : List ℕ → Result C CardFault) (writing : C → List ℕ) : Type 0 where
  -- a line has at most 64 bytes, and three stand before its card
  pub small : size ≤ 61
  -- a wrong length is told as such, and no right one is
  pub wrong : (bs : List ℕ) → (length bs ≢ size) → reading bs ≡ Err Length
  pub right : (bs : List ℕ) → reading bs ≡ Err Length → length bs ≢ size
  -- a bad field begins inside the card
  pub inside : (bs : List ℕ) (offset : ℕ) → reading bs ≡ Err (Field offset) → offset < size
  -- bytes that are read as a card are the bytes that the card is written as
  pub round : (bs : List ℕ) (c : C) → AllBelowBase 256 bs → reading bs ≡ Ok c → writing c ≡ bs
  -- a card is written as bytes, of the kind's length, that are read as the same card
  pub bytes : (c : C) → AllBelowBase 256 (writing c)
  pub long : (c : C) → length (writing c) ≡ size
  pub back : (c : C) → reading (writing c) ≡ Ok c
