-- Operations of one station while no other takes a turn.
use Rattle.std.proofs.Common.{◌≡◌, ℕ, suc, ◌+◌, ◌<◌, Bool, true, cond, List, [], ◌∷◌, length, Some, None, Option, refl, ap, ◌∙◌, subst, inl, inr, arith}
use Rattle.std.proofs.lemmas.Bool.{eq-eqb}
use Rattle.terms.specs.declared.Record.{Record}
use Rattle.terms.specs.declared.Position.{Position}
use Rattle.terms.specs.declared.Spot.{Spot}
use Rattle.terms.specs.declared.Spot.TheVariants as at
use Rattle.terms.specs.declared.Outcome.{Outcome}
use Rattle.terms.specs.declared.Operation.{Operation}
use Rattle.terms.specs.Words.{same_name}
use Rattle.terms.proofs.Puts.{put_tells}
use Rattle.memory.specs.Shared.{Shared, name_at}
use Rattle.work.specs.Plans.{Plan, Notes, plan}
use Rattle.memory.specs.declared.access.Write.{Write}
use Rattle.memory.specs.declared.access.WordAccess.{WordAccess}
use Rattle.memory.specs.Perform.{after_of}
use Rattle.terms.specs.declared.Slot.{Slot}
use Rattle.work.specs.declared.work.AfterLook.TheVariants as look
use Rattle.work.specs.declared.work.AfterStore.TheVariants as store
use Rattle.work.specs.declared.work.Point.TheVariants.{End, Look, LookAgain, Verify, Overwrite}
use Rattle.work.specs.Steps.{settle}
use Rattle.machine.specs.Tables.{Seat, Table}
use Rattle.machine.specs.Steps.{answer_after, seated}
use Rattle.machine.specs.Begin.{begun}
use Rattle.machine.specs.Solo.{Takes, last, more, counted}

-- what a station is in the middle of, after it was set
pub seat_here : (f : ℕ → Seat) (p : ℕ) (w : Option Plan) (n : Notes) → p < 8 → (seated f p w n p).work ≡ w
seat_here f p w n h = elim (put_tells 8 f p (record { work = w; notes = n }) p) [
  | inl (e, y, k) ↦ ap (λ s. s.work) e
  | inr (e, d) ↦ absurd (d refl h)
]

pub same_self : (v : Option Record) → same_name v v ≡ true
same_self None = refl
same_self (Some r) = eq-eqb r.number r.number refl

-- D5 finds the name that D3 found
verified_ends : (v found : Option Record) (other : Plan) → found ≡ v →
    answer_after (settle (cond (same_name found v) (plan [] (End (Outcome.Found v))) other)) ≡ Some (Outcome.Found v)
verified_ends v found other e =
    ap (λ (b : Bool). answer_after (settle (cond b (plan [] (End (Outcome.Found v))) other))) (ap (λ (u : Option Record). same_name u v) e ∙ same_self v)

verify_last : (p : ℕ) (t : Table) (q : Spot) (i : Slot) (v : Option Record) → (t.seats p).work ≡ Some (plan [] (Verify q i v look.Answer)) →
    name_at t.shared q ≡ v → Takes p t 1 (Outcome.Found v)
verify_last p t q i v e named = last t _ _ e (λ c. verified_ends v (name_at t.shared q) (plan [] (LookAgain q i look.Answer)) named)

-- D4 writes a slot, and no spot
fill_keeps : (s : Shared) (p : ℕ) (i : Slot) (v : Option Record) (q : Spot) → name_at (after_of s p (WordAccess.Change (Write.FillSlot i v))) q ≡ name_at s q
fill_keeps s p i v (at.Root g) = refl
fill_keeps s p i v (at.Link r x) = refl

fill_more : (p : ℕ) → p < 8 → (t : Table) (q : Spot) (i : Slot) (v : Option Record) →
    (t.seats p).work ≡ Some (plan (Write.FillSlot i v ∷ []) (Verify q i v look.Answer)) → name_at t.shared q ≡ v → Takes p t 2 (Outcome.Found v)
fill_more p h t q i v e named = more t _ 1 _ e (λ b. refl) (λ b. verify_last p _ q i v (seat_here _ p _ _ h) (fill_keeps t.shared p i v q ∙ named))

look_more : (p : ℕ) → p < 8 → (t : Table) (q : Spot) → (t.seats p).work ≡ Some (plan [] (Look q look.Answer)) → Takes p t 3 (Outcome.Found (name_at t.shared q))
look_more p h t q e = more t _ 2 _ e (λ a. refl) (λ a. fill_more p h _ q _ (name_at t.shared q) (seat_here _ p _ _ h) refl)

pub deref_three : (t : Table) (p : ℕ) (q : Spot) → p < 8 → Takes p (begun t p (Operation.Deref q)) 3 (Outcome.Found (name_at t.shared q))
deref_three t p q h = look_more p h (begun t p (Operation.Deref q)) q (seat_here _ p _ _ h)

pub swap_one : (t : Table) (p : ℕ) (q : Spot) → p < 8 → name_at t.shared q ≡ None → Takes p (begun t p (Operation.Cas q None None)) 1 (Outcome.Swapped true)
swap_one t p q h e = last _ _ _ (seat_here _ p _ _ h)
    (λ a. ap (λ (v : Option Record). answer_after (settle (plan (cond (same_name v None) [] []) (End (Outcome.Swapped (same_name v None)))))) e)

-- writes that are owed take a turn each, and the last one ends the operation
pub owed_takes : (p : ℕ) → p < 8 → (ws : List Write) (w : Write) (t : Table) (o : Outcome) → (t.seats p).work ≡ Some (plan (w ∷ ws) (End o)) → Takes p t (suc (length ws)) o
owed_takes p h [] w t o e = last t _ o e (λ a. refl)
owed_takes p h (v ∷ ws) w t o e = more t _ _ o e (λ a. refl) (λ a. owed_takes p h ws v _ o (seat_here _ p _ _ h))

-- S2 and what it owes
pub overwrite_takes : (p : ℕ) → p < 8 → (q : Spot) (old new : Option Record) (t : Table) → (t.seats p).work ≡ Some (plan [] (Overwrite q old new store.Answer)) →
    Takes p t (1 + counted 2 new + counted 1 old) Outcome.Done
overwrite_takes p h q None None t e = last t _ _ e (λ a. refl)
overwrite_takes p h q None (Some n) t e = more t _ 2 _ e (λ a. refl) (λ a. owed_takes p h (Write.ClearTraceOfHeld n ∷ []) (Write.RaiseCount n) _ _ (seat_here _ p _ _ h))
overwrite_takes p h q (Some o) None t e = more t _ 1 _ e (λ a. refl) (λ a. owed_takes p h [] (Write.LowerCount o) _ _ (seat_here _ p _ _ h))
overwrite_takes p h q (Some o) (Some n) t e =
    more t _ 3 _ e (λ a. refl) (λ a. owed_takes p h (Write.ClearTraceOfHeld n ∷ Write.LowerCount o ∷ []) (Write.RaiseCount n) _ _ (seat_here _ p _ _ h))

pub store_takes : (t : Table) (p : ℕ) (a : Record) (x : Position) (new : Option Record) → p < 8 →
    Takes p (begun t p (Operation.Store a x new)) (2 + counted 2 new + counted 1 (name_at t.shared (Spot.Link a x))) Outcome.Done
store_takes t p a x new h =
    let e : suc (1 + counted 2 new + counted 1 (name_at t.shared (Spot.Link a x))) ≡ 2 + counted 2 new + counted 1 (name_at t.shared (Spot.Link a x)) = omega arith in
    subst (λ (n : ℕ). Takes p (begun t p (Operation.Store a x new)) n Outcome.Done) e
    (more _ _ _ _ (seat_here _ p _ _ h) (λ b. refl) (λ b. overwrite_takes p h _ _ _ _ (seat_here _ p _ _ h)))
