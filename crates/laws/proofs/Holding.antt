-- What a station holds while it works: whatever it still owes, a slot that names a record holds it, but for one that is about to
-- be written or is not verified yet.
use Rattle.std.proofs.Common.{◌≡◌, ℕ, Bool, true, false, not, ◌&&◌, ◌||◌, eqb, List, Some, None, Option, sym, refl, ap, ◌∙◌, inl, inr}
use Rattle.std.proofs.lemmas.Bool.{cases_eq, eq-eqb, ne_eqb, true≢false}
use Rattle.memory.specs.declared.access.Write.{Write}
use Rattle.work.specs.declared.work.Point.{Point}
use Rattle.work.specs.declared.work.Point.TheVariants.{End, Take, Look, LookAgain, Verify, Swap, Save, Overwrite, AskDeleted, AskPlace, AskDone, AskPlaceAgain, CountFirst, CountAgain, AskSlot, CountSecond, AskTrace, AskClaims, AskLink, Give}
use Rattle.work.specs.Plans.{Plan, Notes}
use Rattle.machine.specs.Tables.{Sizes}
use Rattle.machine.specs.Holds.{owes_fill, looks_into, is_verified}
use Rattle.protocol.specs.Words.{Names, upd}
use Rattle.protocol.proofs.Words.{upd_other, some_same}
use Rattle.laws.specs.Agree.{num}
use Rattle.laws.specs.Mine.{Mine, put_wiped, put_owes_up, put_owes_clear, put_owes_down, put_slot}
use Rattle.laws.specs.Owes.{Owes, emptied_slot, new_held}
use Rattle.laws.specs.Owes as owes
use Rattle.laws.specs.Points.{AtPoint}
use Rattle.laws.specs.Fits.{Working}

-- The slot k holds what it names, if it names a record.
abbrev pub Holds : ℕ → Mine → Type 0
Holds k m = (r : ℕ) → m.slot k ≡ Some r → m.held k ≡ Some r

-- A slot other than the one that was written.
other_slot : (slot held : Names) (i k : ℕ) (v w : Option ℕ) → (i ≡ k → ⊥) → ((r : ℕ) → upd slot i v k ≡ Some r → upd held i w k ≡ Some r) → (r : ℕ) → slot k ≡ Some r → held k ≡ Some r
other_slot slot held i k v w d f r e = sym (upd_other held i w k d) ∙ f r (upd_other slot i v k d ∙ e)

not_that : (i k : ℕ) (b : Bool) → (eqb i k || b) ≡ false → (i ≡ k → ⊥) × (b ≡ false)
not_that i k b e = elim (cases_eq i k) [
  | inl y ↦ absurd (true≢false (sym (ap (λ (x : Bool). x || b) (eq-eqb i k y)) ∙ e))
  | inr d ↦ (d, sym (ap (λ (x : Bool). x || b) (ne_eqb i k d)) ∙ e)
]

-- Whatever is still owed, the slot k holds what it names now, if it does so in the end and no write of it is owed.
pub held_while : {each : ℕ} {At : Mine → Type 0} (k : ℕ) → ((m : Mine) → At m → Holds k m) → (m : Mine) (ws : List Write) → Owes each At m ws → owes_fill ws k ≡ false → Holds k m
held_while k end m _ (owes.paid h) e = end m h
held_while k end m _ (owes.zero_count {ws = ws} r h o) e = held_while k end m ws o e
held_while k end m _ (owes.clear_deleted {ws = ws} r h o) e = held_while k end (put_wiped true m) ws o e
held_while k end m _ (owes.hold_new {ws = ws} i r l h g v o) e =
    let (d, f) = not_that i.index k (owes_fill ws k) e in
    other_slot m.slot m.held i.index k (Some r.number) (Some r.number) d (held_while k end (new_held m i.index r.number) ws o f)
held_while k end m _ (owes.write_slot {ws = ws} i v l h o) e =
    let (d, f) = not_that i.index k (owes_fill ws k) e in
    λ r g. held_while k end (put_slot (upd m.slot i.index (num v)) m) ws o f r (upd_other m.slot i.index (num v) k d ∙ g)
held_while k end m _ (owes.release {ws = ws} r q f i l h o) e = λ s g. elim (cases_eq s r.number) [
  | inl y ↦ f k (g ∙ ap (λ (x : ℕ). Some x) y) ∙ ap (λ (x : ℕ). Some x) (sym y)
  | inr d ↦ other_slot m.slot m.held i k None None (λ y. d (some_same {a = s} {r = r.number} (sym g ∙ ap m.slot (sym y) ∙ h))) (held_while k end (emptied_slot m i) ws (o i l h) e) s g
]
held_while k end m _ (owes.raise_count {ws = ws} r h o) e = held_while k end (put_owes_up None m) ws o e
held_while k end m _ (owes.clear_trace {ws = ws} r h g o) e = held_while k end (put_owes_clear None m) ws o e
held_while k end m _ (owes.lower_count {ws = ws} r h o) e = held_while k end (put_owes_down None m) ws o e
held_while k end m _ (owes.mark_deleted {ws = ws} r j h o) e = held_while k end m ws o e
held_while k end m _ (owes.reset_trace {ws = ws} r j h o) e = held_while k end m ws o e
held_while k end m _ (owes.clear_done {ws = ws} i o) e = held_while k end m ws o e
held_while k end m _ (owes.fill_place {ws = ws} i r h g o) e = held_while k end _ ws o e
held_while k end m _ (owes.mark_trace {ws = ws} r j h g o) e = held_while k end m ws o e
held_while k end m _ (owes.unmark_trace {ws = ws} r j h g x o) e = held_while k end _ ws o e
held_while k end m _ (owes.empty_place {ws = ws} i r h g o) e = held_while k end _ ws o e
held_while k end m _ (owes.set_done {ws = ws} i o) e = held_while k end m ws o e
held_while k end m _ (owes.refill_place {ws = ws} i r h g o) e = held_while k end _ ws o e
held_while k end m _ (owes.claim {ws = ws} z i l h g o) e = held_while k end _ ws o e
held_while k end m _ (owes.unclaim {ws = ws} z i l h g o) e = held_while k end _ ws o e

-- At each decision the slot k holds what it names, unless a dereference is looking into it.
pub held_at : (z : Sizes) (n : Notes) (x : Point) (k : ℕ) → looks_into x k ≡ false → (m : Mine) → AtPoint z n x m → Holds k m
held_at z n (End o) k e m d r h = d.1 k ∙ h
held_at z n Take k e m d r h = d.1 k ∙ h
held_at z n (Look q g) k e m d r h = d.1 k ∙ h
held_at z n (LookAgain q i g) k e m d r h = d.1.others k (λ y. true≢false (sym (eq-eqb i.index k (sym y)) ∙ e)) ∙ h
held_at z n (Verify q i v g) k e m d r h = d.1.others k (λ y. true≢false (sym (eq-eqb i.index k (sym y)) ∙ e)) ∙ h
held_at z n (Swap q o v g) k e m d r h = d.1 k ∙ h
held_at z n (Save q v g) k e m d r h = d.1 k ∙ h
held_at z n (Overwrite q o v g) k e m d r h = d.1 k ∙ h
held_at z n (AskDeleted c i) k e m d r h = d.1 k ∙ h
held_at z n (AskPlace q i) k e m d r h = d.1 k ∙ h
held_at z n (AskDone q i s) k e m d r h = d.1 k ∙ h
held_at z n (AskPlaceAgain q i s) k e m d r h = d.1 k ∙ h
held_at z n (CountFirst c) k e m d r h = d.1 k ∙ h
held_at z n (CountAgain c) k e m d r h = d.1 k ∙ h
held_at z n (AskSlot q i) k e m d r h = d.1 k ∙ h
held_at z n (CountSecond c) k e m d r h = d.1 k ∙ h
held_at z n (AskTrace c) k e m d r h = d.1 k ∙ h
held_at z n (AskClaims c) k e m d r h = d.1 k ∙ h
held_at z n (AskLink c x) k e m d r h = d.1 k ∙ h
held_at z n (Give c) k e m d r h = d.1 k ∙ h

neither : (a b : Bool) → (not a && not b) ≡ true → (a ≡ false) × (b ≡ false)
neither true b e = absurd (true≢false (sym e))
neither false true e = absurd (true≢false (sym e))
neither false false e = (refl, refl)

-- So a verified slot holds what it names, at rest and at work.
pub verified_holds : (z : Sizes) (n : Notes) (m : Mine) (w : Option Plan) (k : ℕ) → Working z n m w → is_verified w k ≡ true → Holds k m
verified_holds z n m None k d e = λ r h. d.1 k ∙ h
verified_holds z n m (Some w) k d e =
    let (owed, looking) = neither (owes_fill w.owed k) (looks_into w.point k) e in
    held_while k (λ i. held_at z n w.point k looking i) m w.owed d owed
