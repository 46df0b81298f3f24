-- Tests that passed, as types. Assumes nothing.
use Rattle.std.specs.Prelude.{◌≡◌, Bool, true, false, ◌&&◌, T, refl}
use Rattle.cards.specs.Fields.{checked}

pub both : (a b : Bool) → T (a && b) → T a × T b
both true b h = (tt, h)
both false b h = absurd h

pub pair : (a b : Bool) → T a → T b → T (a && b)
pair true b p q = q
pair false b p q = absurd p

pub holds : (b : Bool) → T b → b ≡ true
holds true h = refl
holds false h = absurd h

pub truly : (b : Bool) → b ≡ true → T b
truly true e = tt
truly false e = cc

pub checked_pass : {X : Type 0} (b : Bool) (pass : T b → X) (other : X) (h : T b) → checked b pass other ≡ pass h
checked_pass true pass other h = refl
checked_pass false pass other h = absurd h

pub checked_fail : {X : Type 0} (b : Bool) (pass : T b → X) (other : X) → b ≡ false → checked b pass other ≡ other
checked_fail true pass other e = cc
checked_fail false pass other e = refl
