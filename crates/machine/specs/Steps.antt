-- A turn of a busy station: one access to a shared word or the pool, and then its private work up to the next access.
use Rattle.std.specs.Prelude.{ℕ, Bool, true, false, cond, Some, None, Option, ◌==◌}
use Rattle.terms.specs.declared.Outcome.{Outcome}
use Rattle.terms.specs.declared.Standing.{Standing}
use Rattle.terms.specs.Words.{put}
use Rattle.memory.specs.declared.access.Access.{Access}
use Rattle.memory.specs.declared.access.Access.TheVariants as t
use Rattle.memory.specs.declared.access.Found.{Found}
use Rattle.memory.specs.Shared.{Shared}
use Rattle.memory.specs.Perform.{found_of, after_of}
use Rattle.memory.specs.Standings.{standing_after}
use Rattle.work.specs.Plans.{Plan, Going, busy, ended, Notes, access_of}
use Rattle.work.specs.Steps.{advance_of, notes_after}
use Rattle.machine.specs.Tables.{Seat, Table, sight_in, record_numbered}

-- What the access of station p finds. Only a take finds something that is not settled by the table: the pool's pick.
abbrev pub found_in : Shared → Option ℕ → ℕ → Option Access → Found
found_in s pick p None = Found.Nothing
found_in s pick p (Some t.Take) = Found.Name (record_numbered pick)
found_in s pick p (Some (t.Give r)) = Found.Nothing
found_in s pick p (Some (t.Word a)) = found_of s p a

-- what it leaves of the shared words
abbrev pub shared_after : Shared → ℕ → Option Access → Shared
shared_after s p None = s
shared_after s p (Some t.Take) = s
shared_after s p (Some (t.Give r)) = s
shared_after s p (Some (t.Word a)) = after_of s p a

-- what it leaves of the standings
abbrev pub standing_then : (ℕ → Standing) → Option Access → Found → ℕ → Standing
standing_then f None x = f
standing_then f (Some a) x = standing_after f a x

-- what it leaves in the pool: a take removes the pick, a give adds a record of the table
abbrev pub without : Option ℕ → (ℕ → Bool) → ℕ → Bool
without None f = f
without (Some r) f = λ x. cond (r == x) false (f x)

abbrev pub pool_after : ℕ → (ℕ → Bool) → Option ℕ → Option Access → ℕ → Bool
pool_after m f pick None = f
pool_after m f pick (Some t.Take) = without pick f
pool_after m f pick (Some (t.Give r)) = put m f r.number true
pool_after m f pick (Some (t.Word a)) = f

abbrev pub work_after : Going → Option Plan
work_after (busy p) = Some p
work_after (ended o) = None

abbrev pub answer_after : Going → Option Outcome
answer_after (busy p) = None
answer_after (ended o) = Some o

abbrev pub seated : (ℕ → Seat) → ℕ → Option Plan → Notes → ℕ → Seat
seated f p w n = put 8 f p (record { work = w; notes = n })

-- The table after a turn of station p, which is in the middle of w.
module _ (t : Table) (pick : Option ℕ) (p : ℕ) (w : Plan) where
  abbrev pub turn_access : Option Access
  turn_access = access_of w

  abbrev pub turn_found : Found
  turn_found = found_in t.shared pick p turn_access

  abbrev pub turn_shared : Shared
  turn_shared = shared_after t.shared p turn_access

  abbrev pub turn_going : Going
  turn_going = advance_of w turn_found (sight_in t.sizes turn_shared p) (t.seats p).notes

  abbrev pub turn_notes : Notes
  turn_notes = notes_after w turn_found (sight_in t.sizes turn_shared p) (t.seats p).notes

  abbrev pub turned : Table
  turned = record {
    sizes = t.sizes;
    shared = turn_shared;
    standing = standing_then t.standing turn_access turn_found;
    seats = seated t.seats p (work_after turn_going) turn_notes;
    pool = pool_after t.sizes.records t.pool pick turn_access;
  }

  -- what the turn answers: nothing while the station is still busy
  abbrev pub turn_answer : Option Outcome
  turn_answer = answer_after turn_going
