-- Each step keeps the invariant: the writing of spots, and what is owed after it.
use Rattle.std.proofs.Common.{◌≡◌, ℕ, suc, ◌<◌, true, false, Some, None, Option, sym, ap, ◌∙◌, subst, inl, inr, arith}
use Rattle.std.proofs.lemmas.Bool.{cases_eq, false≢true}
use Rattle.protocol.specs.Words.{upd}
use Rattle.protocol.specs.State.{State}
use Rattle.protocol.specs.Setters.{set_low}
use Rattle.protocol.specs.Shape.{Shape, Holds, Carries}
use Rattle.protocol.specs.Clauses.{Cleared}
use Rattle.protocol.specs.Effects.{after_write, after_clear_link, after_begin_store, after_save, after_raise_count, after_clear_trace, after_lower_count}
use Rattle.protocol.specs.Invariant.{Inv}
use Rattle.protocol.specs.Steps.{Ready, Reach}
use Rattle.protocol.proofs.Words.{upd_tells, none_some, some_same}
use Rattle.protocol.proofs.Counted.{counted_write, counted_raise, counted_lower}
use Rattle.protocol.proofs.Named.{named_write}
use Rattle.protocol.proofs.Held.{held_write}
use Rattle.protocol.proofs.Owed.{owed_write, owed_raise, owed_clear, owed_lower}
use Rattle.protocol.proofs.Listed.{listed_write}
use Rattle.protocol.proofs.Marks.{marks_write}
use Rattle.protocol.proofs.Cover.{cover_write, cover_raise, cover_lower, cover_clear}
use Rattle.protocol.proofs.Gone.{unreferenced_write, unreferenced_raise, unreferenced_clear, unreferenced_lower}
use Rattle.protocol.proofs.Rights.{SoleWriterIn, unreferenced_at, carried_live, reach_giving, reach_sole, sole_sole, saved_write, cleared_write, saved_begin, saved_read}
use Rattle.protocol.proofs.Parts.{three, with_debts, with_saved}

module _ (h : Shape) (s : State) (b : Inv h s) (p : ℕ) (pN : p < h.stations) where
  -- The swap that writes, the overwrite, and the overwrite in giving back: p carries what it writes, and nobody
  -- else may write there alone.
  keep_write : (q : ℕ) (o n : Option ℕ) (low : ℕ → ℕ) → q < h.spots → s.names q ≡ o → s.owes_up p ≡ None → s.owes_clear p ≡ None → s.owes_down p ≡ None → Carries h s.held p n →
      ((z r : ℕ) → h.owner q ≡ Some r → SoleWriterIn h s z r → p ≡ z) →
      Cleared h (upd s.names q n) s.lists s.phase low → Inv h (set_low low (after_write s p q o n))
  keep_write q o n low qQ e eU eC eD g sole cleared =
      let t = three h s b (λ a t. t) (λ k m a t u. cover_write p q o n qQ e eC g) (λ a u l. unreferenced_write l p q o n qQ e g) in
      let live = carried_live h s b p n g in
      record {
        counted = counted_write b.counted p pN q o n qQ e eU eD;
        named = named_write b.named q n live;
        held = held_write b.held p n g;
        listed = listed_write b.listed n;
        marks = marks_write b.marks n live;
        owed = owed_write b.owed p o n g (λ r y. b.named.used q r qQ (e ∙ y));
        saved = saved_write h s b p q n g sole;
        claimed = b.claimed;
        traced = t.traced;
        scanned = t.scanned;
        gone = t.gone;
        cleared = cleared;
      }

  pub keep_swap : (q : ℕ) (o n : Option ℕ) → q < h.spots → s.names q ≡ o → Reach h s p q → Carries h s.held p n → Ready s p → Inv h (after_write s p q o n)
  keep_swap q o n qQ e k g m = keep_write q o n s.low qQ e m.ups m.clears m.downs g
      (λ z r own. reach_sole h s b p q r pN own k z)
      (cleared_write h s b p q n g (λ w r wW t l own. reach_giving h s b p q r pN own k w wW t l))

  pub keep_begin_store : (q r : ℕ) → q < h.spots → h.owner q ≡ Some r → SoleWriterIn h s p r → Inv h (after_begin_store s p q)
  keep_begin_store q r qQ d k = with_saved h s b (saved_begin b.saved p q r qQ d k)

  pub keep_save : (q : ℕ) (o : Option ℕ) → s.storing p ≡ Some q → s.names q ≡ o → Inv h (after_save s p o)
  keep_save q o e f = with_saved h s b (saved_read b.saved p q o e f)

  -- The one who may write there alone is p, as its saved name says.
  sole_here : (q : ℕ) → s.storing p ≡ Some q → (z r : ℕ) → h.owner q ≡ Some r → SoleWriterIn h s z r → p ≡ z
  sole_here q e z r own g =
      let k = b.saved.save p q pN e in
      sole_sole h s b r p z (subst (λ a. SoleWriterIn h s p a) (some_same (sym k.link ∙ own)) k.sole) g

  pub keep_store : (q a : ℕ) (o n : Option ℕ) → s.storing p ≡ Some q → s.known p ≡ true → s.saved p ≡ o →
      s.owes_up p ≡ None → s.owes_clear p ≡ None → s.owes_down p ≡ None →
      h.owner q ≡ Some a → Holds h s.held p a → Carries h s.held p n → Inv h (after_write s p q o n)
  keep_store q a o n e kn so eU eC eD own (c, cK, i, y) g =
      let k = b.saved.save p q pN e in
      keep_write q o n s.low k.below (k.same kn ∙ so) eU eC eD g (sole_here q e)
      (cleared_write h s b p q n g (λ w r wW t l f. (unreferenced_at h s b w r wW t l).slots c cK (y ∙ sym own ∙ f)))

  pub keep_clear_link : (q w r k : ℕ) (o : Option ℕ) → s.storing p ≡ Some q → s.known p ≡ true → s.saved p ≡ o →
      s.owes_up p ≡ None → s.owes_clear p ≡ None → s.owes_down p ≡ None →
      w < h.places → s.lists w ≡ Some r → h.owner q ≡ Some r → h.position q ≡ k → s.low w ≡ k → Inv h (after_clear_link s p q o w k)
  keep_clear_link q w r k o e kn so eU eC eD wW l own i j =
      let m = b.saved.save p q pN e in
      keep_write q o None (upd s.low w (suc k)) m.below (m.same kn ∙ so) eU eC eD (λ a y. absurd (none_some y)) (sole_here q e) (cleared m.below)
    where
      cleared : q < h.spots → Cleared h (upd s.names q None) s.lists s.phase (upd s.low w (suc k))
      cleared qQ = record {
        none = λ v a x vW t y xQ f u. elim (upd_tells s.names q None x) [
          | inl (z, _) ↦ z
          | inr (z, n) ↦ z ∙ b.cleared.none v a x vW t y xQ f (elim (upd_tells s.low w (suc k) v) [
            | inl (d, g) ↦ elim (cases_eq (h.position x) k) [
              | inl c ↦ absurd (n (h.one_link q x a qQ xQ (own ∙ sym l ∙ ap s.lists g ∙ y) f (i ∙ sym c)))
              | inr c ↦ let low = ap s.low g in omega arith
            ]
            | inr (d, g) ↦ rw d at u
          ])
        ];
      }

  pub keep_raise_count : (r : ℕ) → s.owes_up p ≡ Some r → Inv h (after_raise_count s p r)
  keep_raise_count r e = with_debts h s b (counted_raise b.counted p pN r e) (owed_raise b.owed p)
      (three h s b (λ a t. t) (λ k m a t u. cover_raise p) (λ a u l. unreferenced_raise l p))

  -- The mark goes off, so a record whose mark is still set is another one.
  pub keep_clear_trace : (r : ℕ) → s.owes_up p ≡ None → s.owes_clear p ≡ Some r → Inv h (after_clear_trace s p r)
  keep_clear_trace r e f =
      let off : (a : ℕ) → upd s.trace r false a ≡ true → (s.trace a ≡ true) × (s.owes_clear p ≡ Some a → ⊥) = λ a t. elim (upd_tells s.trace r false a) [
        | inl (x, y) ↦ absurd (false≢true (sym x ∙ t))
        | inr (x, y) ↦ (sym x ∙ t, λ k. y (some_same (sym f ∙ k)))
      ] in
      with_debts h s b b.counted (owed_clear b.owed p e)
      (three h s b (λ a t. (off a t).0) (λ k m a t u. cover_clear p (off a t).1) (λ a u l. unreferenced_clear l p))

  pub keep_lower_count : (r : ℕ) → s.owes_down p ≡ Some r → Inv h (after_lower_count s p r)
  keep_lower_count r e = with_debts h s b (counted_lower b.counted p pN r e) (owed_lower b.owed p)
      (three h s b (λ a t. t) (λ k m a t u. cover_lower p) (λ a u l. unreferenced_lower l p))
