-- The numbers by which a SETUP line names a kind and a pool. Assumes nothing.
use Rattle.std.specs.Prelude.{◌≡◌, ℕ, ◌≤◌, Some, None, Ok, Err, Option, Result}
use Rattle.settings.specs.declared.choices.KindChoice.{KindChoice}
use Rattle.settings.specs.declared.choices.KindChoice.TheVariants.{ChainOfSlips, BookOfRecipes}
use Rattle.settings.specs.declared.choices.PoolChoice.{PoolChoice}
use Rattle.settings.specs.declared.choices.PoolChoice.TheVariants.{Stack, Ring}
use Rattle.settings.specs.declared.choices.UnknownChoice.{UnknownChoice}

abbrev pub kind_number : KindChoice → ℕ
kind_number ChainOfSlips = 0
kind_number BookOfRecipes = 1

abbrev pub pool_number : PoolChoice → ℕ
pool_number Stack = 0
pool_number Ring = 1

-- The kind of this number; none from 2 on.
abbrev pub NamesKind : ℕ → Option KindChoice → Type 0
NamesKind n (Some k) = kind_number k ≡ n
NamesKind n None = 2 ≤ n

-- The pool of this number; none from 2 on.
abbrev pub NamesPool : ℕ → Option PoolChoice → Type 0
NamesPool n (Some p) = pool_number p ≡ n
NamesPool n None = 2 ≤ n

-- The choice that a number names, or an error that says which number named none.
abbrev pub Decodes : {Choice : Type 0} → (ℕ → Option Choice → Type 0) → ℕ → Result Choice UnknownChoice → Type 0
Decodes Names n (Ok choice) = Names n (Some choice)
Decodes Names n (Err e) = Names n None × (e.number ≡ n)
