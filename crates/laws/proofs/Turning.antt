-- Every turn of every station keeps the table sound.
use Rattle.std.proofs.Common.{◌≡◌, ℕ, ◌<◌, ◌≤◌, Bool, true, false, cond, eqb, List, [], ◌∷◌, Some, None, Option, sym, refl, ap, ◌∙◌, subst, inl, inr, arith}
use Rattle.std.proofs.lemmas.Bool.{cases_eq, cond-true, cond-false, eq-eqb, ne_eqb, false≢true}
use Rattle.terms.specs.declared.Record.{Record}
use Rattle.terms.specs.declared.Spot.{Spot}
use Rattle.terms.specs.declared.Standing.{Standing}
use Rattle.terms.specs.declared.Standing.TheVariants.{Pooled, Fresh}
use Rattle.terms.specs.Words.{same_name, once_named}
use Rattle.terms.proofs.Puts.{put_tells}
use Rattle.memory.specs.declared.access.Write.{Write}
use Rattle.memory.specs.declared.access.WordAccess.{WordAccess}
use Rattle.memory.specs.declared.access.WordAccess.TheVariants as word
use Rattle.memory.specs.declared.access.Access.{Access}
use Rattle.memory.specs.declared.access.Access.TheVariants as access
use Rattle.memory.specs.declared.access.Found.{Found}
use Rattle.memory.specs.Found.{is_zero, flag_in}
use Rattle.memory.specs.Shared.{Shared, name_at, set_name}
use Rattle.memory.specs.Standings.{named, standing_word}
use Rattle.work.specs.declared.work.AfterSwap.{AfterSwap}
use Rattle.work.specs.declared.work.AfterSwap.TheVariants as swap
use Rattle.work.specs.declared.work.AfterStore.TheVariants as store
use Rattle.work.specs.declared.work.Point.{Point}
use Rattle.work.specs.declared.work.Point.TheVariants.{End, Take, Look, LookAgain, Verify, Swap, Save, Overwrite, AskDeleted, AskPlace, AskDone, AskPlaceAgain, CountFirst, CountAgain, AskSlot, CountSecond, AskTrace, AskClaims, AskLink, Give}
use Rattle.work.specs.Plans.{Plan, Notes, noted, access_at, next_access, access_of}
use Rattle.work.specs.Steps.{decide_of, swapped_of, advanced, note_made}
use Rattle.machine.specs.Tables.{Sizes, Table, sight_in, record_numbered}
use Rattle.machine.specs.Steps.{found_in, shared_after, standing_then, pool_after, work_after, turned}
use Rattle.protocol.specs.State.{State}
use Rattle.protocol.specs.Invariant.{Inv}
use Rattle.protocol.specs.Steps as step
use Rattle.laws.specs.Numbers.{shape}
use Rattle.laws.specs.Agree.{Agrees}
use Rattle.laws.specs.Mine.{mine}
use Rattle.laws.specs.Owes as owes
use Rattle.laws.specs.Owes.{Owes}
use Rattle.laws.specs.Points.{AtPoint}
use Rattle.laws.specs.Fits.{Lawful, Working, Sound, Follows}
use Rattle.laws.proofs.Owed.{Turned, pay}
use Rattle.laws.proofs.Seats.{settles, Decided, decided_works, sound_after}
use Rattle.laws.proofs.Taking.{take_none, take_some}
use Rattle.laws.proofs.Dereference.{look_turn, look_again_turn}
use Rattle.laws.proofs.Writing.{swap_no, swap_yes, save_turn, into_spotted, store_turn}
use Rattle.laws.proofs.Cleaning.{verified_turn, deleted_turn, clean_swap_no, clean_swap_yes, place_turn, done_turn, place_again_turn}
use Rattle.laws.proofs.Marking.{count_first_turn, count_again_turn}
use Rattle.laws.proofs.Reading.{ask_slot_turn}
use Rattle.laws.proofs.Passing.{count_second_turn, trace_turn, claims_turn, ask_link_turn}
use Rattle.laws.proofs.Giving.{clear_no, clear_yes, save_back_turn, store_back_turn, give_turn}

module _ (z : Sizes) (y : Lawful z) (p : ℕ) (pS : p < z.stations) (pN : p < 8) (s : Shared) (f : ℕ → Standing) (a : State) (b : Inv shape a) (g : Agrees z s f a) (n : Notes) where
  swap_turn : (q : Spot) (o v : Option Record) (h : AfterSwap) → AtPoint z n (Swap q o v h) (mine a p) → (t : Bool) → same_name (name_at s q) o ≡ t →
      Decided z p (cond t (set_name s q v) s) (cond t (named f v) f) a n (swapped_of t o v h (sight_in z (cond t (set_name s q v) s) p) n)
  swap_turn q o v swap.Answer x true e = swap_yes z y p pS pN s f a b g n q o v x e (sight_in z (set_name s q v) p)
  swap_turn q o v swap.Answer x false e = swap_no z y p pS pN s f a b g n q o v x
  swap_turn q o v (swap.CleanSwap c r t) x true e = clean_swap_yes z y p pS pN s f a b g n q o v c r t x e (sight_in z (set_name s q v) p)
  swap_turn q o v (swap.CleanSwap c r t) x false e = clean_swap_no z y p pS pN s f a b g n q o v c r t x (sight_in z s p)
  swap_turn q o v (swap.ClearLink c i) x true e = clear_yes z y p pS pN s f a b g n q o v c i x e (set_name s q v)
  swap_turn q o v (swap.ClearLink c i) x false e = clear_no z y p pS pN s f a b g n q o v c i x (sight_in z s p)

  module _ (pick : Option ℕ) (lawful : (r : ℕ) → pick ≡ Some r → (a.standing r ≡ Pooled) × (r < z.records)) where
    take_turn : (x : Option ℕ) → pick ≡ x → AtPoint z n Take (mine a p) →
        Decided z p s (standing_then f (Some access.Take) (Found.Name (record_numbered x))) a n (decide_of Take (Found.Name (record_numbered x)) (sight_in z s p) n)
    take_turn None e k = take_none z y p pS pN s f a b g n k
    take_turn (Some r) e k = let (u, l) = lawful r e in take_some z y p pS pN s f a b g n r u l k

    -- Every decision.
    decide_turn : (x : Point) → AtPoint z n x (mine a p) →
        Decided z p (shared_after s p (access_at x)) (standing_then f (access_at x) (found_in s pick p (access_at x))) a n
        (decide_of x (found_in s pick p (access_at x)) (sight_in z (shared_after s p (access_at x)) p) n)
    decide_turn (End o) k = record { to = a; moves = step.stay; agrees = g; after = owes.paid k }
    decide_turn Take k = take_turn pick refl k
    decide_turn (Look q h) k = look_turn z y p pS pN s f a b g n q h (name_at s q) k
    decide_turn (LookAgain q i h) k = look_again_turn z y p pS pN s f a b g n q i h (name_at s q) k
    decide_turn (Verify q i v h) k = verified_turn z y p pS pN s f a b g n q i v h k
    decide_turn (Swap q o v h) k = swap_turn q o v h k (same_name (name_at s q) o) refl
    decide_turn (Save q v store.Answer) (k, firm, into) = save_turn z y p pS pN s f a b g n q v store.Answer (into_spotted z y p pS pN s f a b g n q v into) k firm into
    decide_turn (Save q v (store.GiveBack e x)) k = save_back_turn z y p pS pN s f a b g n q v e x k
    decide_turn (Overwrite q o v store.Answer) k = store_turn z y p pS pN s f a b g n q o v k (sight_in z (set_name s q v) p)
    decide_turn (Overwrite q o v (store.GiveBack e x)) k = store_back_turn z y p pS pN s f a b g n q o v e x k (set_name s q v)
    decide_turn (AskDeleted c r) k = deleted_turn z y p pS pN s f a b g n c r (s.deleteds r.number) k
    decide_turn (AskPlace q i) k = place_turn z y p pS pN s f a b g n q i (s.places q.number i.index) k
    decide_turn (AskDone q i r) k = done_turn z y p pS pN s f a b g n q i r (s.dones q.number i.index) k
    decide_turn (AskPlaceAgain q i r) k = place_again_turn z y p pS pN s f a b g n q i r k
    decide_turn (CountFirst e) k = count_first_turn z y p pS pN s f a b g n e (is_zero (s.counts e.entry.node.number)) k
    decide_turn (CountAgain e) k = count_again_turn z y p pS pN s f a b g n e k
    decide_turn (AskSlot q i) k = ask_slot_turn z y p pS pN s f a b g n q i k
    decide_turn (CountSecond e) k = count_second_turn z y p pS pN s f a b g n e (is_zero (s.counts e.entry.node.number)) k
    decide_turn (AskTrace e) k = trace_turn z y p pS pN s f a b g n e k
    decide_turn (AskClaims e) k = claims_turn z y p pS pN s f a b g n e k
    decide_turn (AskLink e x) k = ask_link_turn z y p pS pN s f a b g n e x (name_at s (Spot.Link e.entry.node x)) k
    decide_turn (Give e) k = give_turn z y p pS pN s f a b g n e k

    -- Every turn.
    pub plan_turn : (ws : List Write) (x : Point) → Owes z.each (AtPoint z n x) (mine a p) ws →
        Turned z p (shared_after s p (next_access ws x)) (standing_then f (next_access ws x) (found_in s pick p (next_access ws x))) a
        (λ m. Working z (noted n (note_made ws x (found_in s pick p (next_access ws x)) (sight_in z (shared_after s p (next_access ws x)) p) n)) m
        (work_after (advanced ws x (found_in s pick p (next_access ws x)) (sight_in z (shared_after s p (next_access ws x)) p) n)))
    plan_turn [] x (owes.paid k) = decided_works z p (shared_after s p (access_at x)) (standing_then f (access_at x) (found_in s pick p (access_at x))) a n
        (decide_of x (found_in s pick p (access_at x)) (sight_in z (shared_after s p (access_at x)) p) n) (decide_turn x k)
    plan_turn (w ∷ ws) x o = let d = pay z y p pS pN s f a b g (AtPoint z n x) ws w o in
        record { to = d.to; moves = d.moves; agrees = d.agrees; after = settles z n (mine d.to p) ws x d.after }

-- What lies in the pool stays pooled.
module _ (M : ℕ) (small : M ≤ 128) (pool : ℕ → Bool) (f : ℕ → Standing) (all : (r : ℕ) → pool r ≡ true → (f r ≡ Pooled) × (r < M)) where
  once_pooled : (u : Standing) → u ≡ Pooled → once_named u ≡ Pooled
  once_pooled u e = ap once_named e

  named_pooled : (v : Option Record) (r : ℕ) → f r ≡ Pooled → named f v r ≡ Pooled
  named_pooled None r e = e
  named_pooled (Some x) r e = elim (put_tells 128 f x.number (once_named (f x.number)) r) [
    | inl (q, i, _) ↦ q ∙ once_pooled (f x.number) (ap f i ∙ e)
    | inr (q, _) ↦ q ∙ e
  ]

  cond_pooled : (t : Bool) (v : Option Record) (r : ℕ) → f r ≡ Pooled → cond t (named f v) f r ≡ Pooled
  cond_pooled true v r e = named_pooled v r e
  cond_pooled false v r e = e

  word_pooled : (w : WordAccess) (h : Found) (r : ℕ) → f r ≡ Pooled → standing_word f w h r ≡ Pooled
  word_pooled (word.Look q) h r e = e
  word_pooled (word.Swap q o v) h r e = cond_pooled (flag_in h) v r e
  word_pooled (word.Overwrite q v) h r e = named_pooled v r e
  word_pooled (word.AskDeleted x) h r e = e
  word_pooled (word.AskPlace q i) h r e = e
  word_pooled (word.AskDone q i) h r e = e
  word_pooled (word.AskCount x) h r e = e
  word_pooled (word.AskSlot q i) h r e = e
  word_pooled (word.AskTrace x) h r e = e
  word_pooled (word.AskClaims i) h r e = e
  word_pooled (word.Change w) h r e = e

  pub pool_kept : (s : Shared) (p : ℕ) (pick : Option ℕ) (x : Option Access) (r : ℕ) → pool_after M pool pick x r ≡ true → (standing_then f x (found_in s pick p x) r ≡ Pooled) × (r < M)
  pool_kept s p pick None r e = all r e
  pool_kept s p None (Some access.Take) r e = all r e
  pool_kept s p (Some q) (Some access.Take) r e = elim (cases_eq q r) [
    | inl i ↦ absurd (false≢true (sym (cond-true (eqb q r) false (pool r) (eq-eqb q r i)) ∙ e))
    | inr d ↦ let (u, l) = all r (sym (cond-false (eqb q r) false (pool r) (ne_eqb q r d)) ∙ e) in
        elim (put_tells 128 f q Fresh r) [ inl (_, i, _) ↦ absurd (d i) | inr (h, _) ↦ (h ∙ u, l) ]
  ]
  pool_kept s p pick (Some (access.Give x)) r e = elim (put_tells M pool x.number true r) [
    | inl (_, i, l) ↦ (elim (put_tells 128 f x.number Pooled r) [ inl (h, _, _) ↦ h | inr (_, d) ↦ absurd (d i (omega arith)) ], omega arith)
    | inr (h, _) ↦ let (u, l) = all r (sym h ∙ e) in (elim (put_tells 128 f x.number Pooled r) [ inl (c, _, _) ↦ c | inr (c, _) ↦ c ∙ u ], l)
  ]
  pool_kept s p pick (Some (access.Word w)) r e = let (u, l) = all r e in (word_pooled w (found_in s pick p (Some (access.Word w))) r u, l)

-- And every pooled record of the table stays in the pool.
module _ (M : ℕ) (small : M ≤ 128) (pool : ℕ → Bool) (f : ℕ → Standing) (all : (r : ℕ) → r < M → f r ≡ Pooled → pool r ≡ true) where
  was_pooled : (u : Standing) → once_named u ≡ Pooled → u ≡ Pooled
  was_pooled u e = grind arith

  fresh_not : Fresh ≡ Pooled → ⊥
  fresh_not e = grind arith

  named_was : (v : Option Record) (r : ℕ) → named f v r ≡ Pooled → f r ≡ Pooled
  named_was None r e = e
  named_was (Some x) r e = elim (put_tells 128 f x.number (once_named (f x.number)) r) [
    | inl (q, i, _) ↦ ap f (sym i) ∙ was_pooled (f x.number) (sym q ∙ e)
    | inr (q, _) ↦ sym q ∙ e
  ]

  cond_was : (t : Bool) (v : Option Record) (r : ℕ) → cond t (named f v) f r ≡ Pooled → f r ≡ Pooled
  cond_was true v r e = named_was v r e
  cond_was false v r e = e

  word_was : (w : WordAccess) (h : Found) (r : ℕ) → standing_word f w h r ≡ Pooled → f r ≡ Pooled
  word_was (word.Look q) h r e = e
  word_was (word.Swap q o v) h r e = cond_was (flag_in h) v r e
  word_was (word.Overwrite q v) h r e = named_was v r e
  word_was (word.AskDeleted x) h r e = e
  word_was (word.AskPlace q i) h r e = e
  word_was (word.AskDone q i) h r e = e
  word_was (word.AskCount x) h r e = e
  word_was (word.AskSlot q i) h r e = e
  word_was (word.AskTrace x) h r e = e
  word_was (word.AskClaims i) h r e = e
  word_was (word.Change w) h r e = e

  pub pool_whole : (s : Shared) (p : ℕ) (pick : Option ℕ) → ((r : ℕ) → pick ≡ Some r → r < M) → (x : Option Access) (r : ℕ) → r < M → standing_then f x (found_in s pick p x) r ≡ Pooled → pool_after M pool pick x r ≡ true
  pool_whole s p pick own None r l e = all r l e
  pool_whole s p None own (Some access.Take) r l e = all r l e
  pool_whole s p (Some q) own (Some access.Take) r l e = elim (put_tells 128 f q Fresh r) [
    | inl (h, _, _) ↦ absurd (fresh_not (sym h ∙ e))
    | inr (h, d) ↦ let k = own q refl in cond-false (eqb q r) false (pool r) (ne_eqb q r (λ i. d i (omega arith))) ∙ all r l (sym h ∙ e)
  ]
  pool_whole s p pick own (Some (access.Give x)) r l e = elim (put_tells M pool x.number true r) [
    | inl (h, _, _) ↦ h
    | inr (h, d) ↦ elim (put_tells 128 f x.number Pooled r) [ inl (_, i, _) ↦ absurd (d i (omega arith)) | inr (c, _) ↦ h ∙ all r l (sym c ∙ e) ]
  ]
  pool_whole s p pick own (Some (access.Word w)) r l e = all r l (word_was w (found_in s pick p (Some (access.Word w))) r e)

pub turn_sound : (t : Table) (k : Sound t) → (p : ℕ) → p < t.sizes.stations → (w : Plan) → (t.seats p).work ≡ Some w → (pick : Option ℕ) → ((r : ℕ) → pick ≡ Some r → t.pool r ≡ true) → Follows t k p (turned t pick p w)
turn_sound t k p pS w e pick lawful =
    let most = k.lawful.stations in
    let n = (t.seats p).notes in
    let o : Owes t.sizes.each (AtPoint t.sizes (t.seats p).notes w.point) (mine k.state p) w.owed =
    subst (λ (x : Option Plan). Working t.sizes (t.seats p).notes (mine k.state p) x) e (k.fits.seats p pS) in
    sound_after t k p pS (shared_after t.shared p (access_of w)) (standing_then t.standing (access_of w) (found_in t.shared pick p (access_of w))) _ _ _
    (plan_turn t.sizes k.lawful p pS (omega arith) t.shared t.standing k.state k.inv k.fits.agrees (t.seats p).notes pick
    (λ r h. let (u, l) = k.fits.pooled r (lawful r h) in (k.fits.agrees.standings r ∙ u, l)) w.owed w.point o)
    (pool_kept t.sizes.records k.lawful.records t.pool t.standing k.fits.pooled t.shared p pick (access_of w))
    (pool_whole t.sizes.records k.lawful.records t.pool t.standing k.fits.complete t.shared p pick (λ r h. (k.fits.pooled r (lawful r h)).1) (access_of w))
