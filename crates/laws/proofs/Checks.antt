-- A new table is sound; checks that all pass, and slots counted.
use Rattle.std.proofs.Common.{◌≡◌, ℕ, zero, suc, ◌+◌, ◌<◌, Bool, true, false, cond, List, [], ◌∷◌, ◌++◌, Some, None, Option, refl, ◌∙◌, inl, inr, arith}
use Rattle.std.proofs.lemmas.Bool.{cond-true, ltb-true, lt-ltb}
use Rattle.terms.specs.declared.Record.{Record}
use Rattle.terms.specs.Words.{is_none}
use Rattle.machine.specs.Tables.{Sizes, new_table}
use Rattle.protocol.proofs.Words.{none_some}
use Rattle.laws.specs.Numbers.{shape}
use Rattle.laws.specs.Mine.{row}
use Rattle.laws.specs.Fits.{Lawful, Sound}
use Rattle.laws.proofs.Rows.{row_tells}
use Rattle.frames.specs.declared.refusal.Refused.{Refused}
use Rattle.machine.specs.Begin as begin
use Rattle.machine.specs.Begin.{Check, first_failing}
use Rattle.protocol.specs.Theorems.{start}
use Rattle.protocol.proofs.All.{starts}

-- A new table.
none_row : (p i : ℕ) → row (λ _. None) p i ≡ None
none_row p i = elim (row_tells (λ _. None) p i) [ inl (e, _) ↦ e | inr (e, _) ↦ e ]

pub new_sound : (z : Sizes) → Lawful z → Sound (new_table z)
new_sound z y = record {
  lawful = y;
  state = start;
  inv = starts shape;
  fits = record {
    agrees = record { roots = λ _ _. refl; links = λ _ _ _. refl; counts = λ _. refl; traces = λ _. refl; deleteds = λ _. refl; standings = λ _. refl; slots = λ _ _ _. refl; places = λ _ _ _. refl; claims = λ _ _ _. refl; beyond = λ _ _. refl; blank = λ _ _ _ _. refl };
    pooled = λ r e. (refl, ltb-true r z.records e);
    complete = λ r l e. lt-ltb r z.records l;
    seats = λ p l. (
      record { ups = refl; clears = refl; downs = refl; stores = refl; hands = refl },
      (λ i. refl),
      record {
        unscanned = record {
          filed = record {
            inside = omega arith;
            room = omega arith;
            front = λ k h. absurd (omega arith);
            back = λ k h. absurd (omega arith);
            front_low = λ k h. absurd (omega arith);
            back_low = λ k h. absurd (omega arith);
            front_apart = λ k i h. absurd (omega arith);
            back_apart = λ k i h. absurd (omega arith);
            apart = λ k i h. absurd (omega arith);
            only = λ j r e. absurd (none_some e);
          };
          kept = refl;
          unseen = λ r. refl;
          named = λ j. refl;
          settled = λ j. inl refl;
        };
        short = y.some_place;
        claimless = refl;
      },
      (0, record { below = (let two = y.two_slots in omega arith); none = none_row p 0 }),
    );
  };
}

-- Checks that all pass.
pub pass : (c : Bool) (x : Option Refused) (r : Refused) → cond c x (Some r) ≡ None → (c ≡ true) × (x ≡ None)
pass true x r e = (refl, e)
pass false x r e = absurd (some_not e)
  where
    some_not : {r : Refused} → ◌≡◌ {A = Option Refused} (Some r) None → ⊥
    some_not e = grind arith

pub passes : (xs ys : List Check) → first_failing (xs ++ ys) ≡ None → (first_failing xs ≡ None) × (first_failing ys ≡ None)
passes [] ys e = (refl, e)
passes (c ∷ xs) ys e =
    let (t, h) = pass c.passes (first_failing (xs ++ ys)) c.refusal e in
    let (u, v) = passes xs ys h in
    (cond-true c.passes (first_failing xs) (Some c.refusal) t ∙ u, v)

-- Slots counted: with fewer names than slots one is empty, with fewer by two, two are.
pub one_empty : (f : ℕ → Option Record) (n : ℕ) → begin.taken f n < n → (i : ℕ) × (i < n) × (is_none (f i) ≡ true)
one_empty f zero l = absurd (omega arith)
one_empty f (suc n) l = go (one_empty f n) (is_none (f n)) refl l
  where
    go : (begin.taken f n < n → (i : ℕ) × (i < n) × (is_none (f i) ≡ true)) → (t : Bool) → is_none (f n) ≡ t → cond t (begin.taken f n) (suc (begin.taken f n)) < suc n → (i : ℕ) × (i < suc n) × (is_none (f i) ≡ true)
    go less true e h = (n, omega arith, e)
    go less false e h = let (i, k, x) = less (omega arith) in (i, omega arith, x)

pub two_empty : (f : ℕ → Option Record) (n : ℕ) → begin.taken f n + 1 < n → (i : ℕ) × (j : ℕ) × (i ≡ j → ⊥) × (i < n) × (j < n) × (is_none (f i) ≡ true) × (is_none (f j) ≡ true)
two_empty f zero l = absurd (omega arith)
two_empty f (suc n) l = go (two_empty f n) (is_none (f n)) refl l
  where
    go : (begin.taken f n + 1 < n → (i : ℕ) × (j : ℕ) × (i ≡ j → ⊥) × (i < n) × (j < n) × (is_none (f i) ≡ true) × (is_none (f j) ≡ true)) → (t : Bool) → is_none (f n) ≡ t → cond t (begin.taken f n) (suc (begin.taken f n)) + 1 < suc n → (i : ℕ) × (j : ℕ) × (i ≡ j → ⊥) × (i < suc n) × (j < suc n) × (is_none (f i) ≡ true) × (is_none (f j) ≡ true)
    go less true e h = let (i, k, x) = one_empty f n (omega arith) in (i, n, (λ q. omega arith), omega arith, omega arith, x, e)
    go less false e h = let (i, j, d, k, l, x, v) = less (omega arith) in (i, j, d, omega arith, omega arith, x, v)
