-- Every ledger that explains a run keeps order: each change of the ledger does, under what its acts ask.
use Rattle.std.proofs.Common.{◌≡◌, ℕ, ◌+◌, ◌-◌, ◌<◌, Bool, true, false, cond, ◌≢◌, Some, None, Option, sym, refl, ap, ◌∙◌, subst, inl, inr, arith}
use Rattle.std.proofs.lemmas.Bool.{both_ways}
use Rattle.terms.specs.declared.Record.{Record}
use Rattle.terms.specs.declared.Station.{Station}
use Rattle.terms.specs.declared.Position.{Position}
use Rattle.terms.specs.declared.Spot.{Spot}
use Rattle.terms.specs.declared.Spot.TheVariants.{Root, Link}
use Rattle.terms.specs.declared.Standing.{Standing}
use Rattle.terms.specs.declared.Standing.TheVariants.{Pooled, Fresh, Linked, Retired}
use Rattle.terms.specs.declared.Operation.{Operation}
use Rattle.terms.specs.declared.Operation.TheVariants.{New, Deref, Release, Cas, Store, Delete}
use Rattle.terms.specs.declared.Outcome.{Outcome}
use Rattle.terms.specs.declared.Outcome.TheVariants.{Found, Swapped, Done}
use Rattle.terms.specs.Words.{same_name}
use Rattle.ledger.specs.Words.{same_record, same_spot, changed}
use Rattle.ledger.specs.Ledger.{Sizes, Ledger, opening, with_holds, with_standing, hold, let_go, naming, noting, write, retire, Inside, Holds, HoldsName, Reaches, Settled, OutOfUse, Makes, Acts, Silent, lead, clear, return, Permits, LeadsTo}
use Rattle.ledger.specs.Explains.{Run, Phases, Explains, start, call, act, silent}
use Rattle.ledger.specs.Laws.{Lawful, LedgersKeepOrder}
use Rattle.ledger.proofs.Words.{same_record_is, same_spot_is, name_same, record_same, tells, pooled≢fresh, pooled≢retired, fresh≢retired, pooled≢linked, fresh≢linked, retired≢linked}
use Rattle.ledger.proofs.Changes.{stand_tells, holds_tells, naming_tells, naming_ends, noting_keeps, noting_notes}

zero_not : {n : ℕ} → n ≡ 0 → 0 < n → ⊥
zero_not e h = omega arith

-- The ledger of a new table.
opening_lawful : (z : Sizes) → Lawful z opening
opening_lawful z = record {
  inside = λ r not. absurd (not refl);
  named = λ q r e. grind arith;
  held = λ s r h. grind arith;
  alone = λ s t r e h k. grind arith;
  noted = λ r x e. grind arith;
}

module _ (z : Sizes) (l : Ledger) (o : Lawful z l) where
  -- One hold more of a record that is neither pooled nor fresh.
  hold_lawful : (s : Station) (r : Record) (n : ℕ) → s.number < z.stations → l.standing r ≢ Pooled → l.standing r ≢ Fresh → Lawful z (with_holds l s r n)
  hold_lawful s r n below p f = record {
    inside = o.inside;
    named = o.named;
    held = λ t m h. elim (holds_tells l s r n t m) [
      | inl (is, is', e) ↦ (rw is below, rw is' p)
      | inr e ↦ o.held t m (rw e at h)
    ];
    alone = λ t u m fresh h k. elim (holds_tells l s r n t m) [
      | inl (is, is', e) ↦ absurd (f (rw is' at fresh))
      | inr e ↦ elim (holds_tells l s r n u m) [
        | inl (is, is', e') ↦ absurd (f (rw is' at fresh))
        | inr e' ↦ o.alone t u m fresh (rw e at h) (rw e' at k)
      ]
    ];
    noted = o.noted;
  }

  -- One hold less of a record that is held.
  let_go_lawful : (s : Station) (r : Record) → Holds l s r → Lawful z (let_go l s r)
  let_go_lawful s r here = record {
    inside = o.inside;
    named = o.named;
    held = λ t m h. o.held t m (was t m h);
    alone = λ t u m fresh h k. o.alone t u m fresh (was t m h) (was u m k);
    noted = o.noted;
  }
    where
      was : (t : Station) (m : Record) → Holds (let_go l s r) t m → Holds l t m
      was t m h = elim (holds_tells l s r (l.holds s r - 1) t m) [
        | inl (is, is', e) ↦ rw (is, is') here
        | inr e ↦ rw e at h
      ]

  -- A retired record that nobody holds and nothing names goes to the pool.
  pool_lawful : (r : Record) → OutOfUse z l r → Lawful z (with_standing l r Pooled)
  pool_lawful r (retired, unheld, unnamed) = record {
    inside = λ m not. elim (stand_tells l.standing r Pooled m) [ inl (is, e) ↦ absurd (not e) | inr (_, e) ↦ o.inside m (rw e at not) ];
    named = λ q m e. let (at, live) = o.named q m e in elim (stand_tells l.standing r Pooled m) [
      | inl (is, _) ↦ absurd (unnamed q at (rw is at e))
      | inr (_, e') ↦ (at, rw e' live)
    ];
    held = λ t m h. let (at, live) = o.held t m h in elim (stand_tells l.standing r Pooled m) [
      | inl (is, _) ↦ let none : l.holds t m ≡ 0 = rw is (unheld t at) in absurd (zero_not none h)
      | inr (_, e') ↦ (at, rw e' live)
    ];
    alone = λ t u m fresh h k. elim (stand_tells l.standing r Pooled m) [ inl (_, e) ↦ absurd (pooled≢fresh _ e fresh) | inr (_, e) ↦ o.alone t u m (rw e at fresh) h k ];
    noted = λ m x ret. elim (stand_tells l.standing r Pooled m) [ inl (_, e) ↦ absurd (pooled≢retired _ e ret) | inr (_, e) ↦ o.noted m x (rw e at ret) ];
  }

  -- A record that is not pooled is retired.
  retire_lawful : (r : Record) → l.standing r ≢ Pooled → Lawful z (retire l r)
  retire_lawful r live = record {
    inside = λ m not. elim (stand_tells l.standing r Retired m) [ inl (is, e) ↦ rw is (o.inside r live) | inr (_, e) ↦ o.inside m (rw e at not) ];
    named = λ q m e. let (at, (p, f)) = o.named q m e in elim (stand_tells l.standing r Retired m) [
      | inl (_, e') ↦ (at, (λ k. pooled≢retired _ k e', λ k. fresh≢retired _ k e'))
      | inr (_, e') ↦ (at, rw e' (p, f))
    ];
    held = λ t m h. let (at, p) = o.held t m h in elim (stand_tells l.standing r Retired m) [
      | inl (_, e') ↦ (at, λ k. pooled≢retired _ k e')
      | inr (_, e') ↦ (at, rw e' p)
    ];
    alone = λ t u m fresh h k. elim (stand_tells l.standing r Retired m) [ inl (_, e) ↦ absurd (fresh≢retired _ fresh e) | inr (_, e) ↦ o.alone t u m (rw e at fresh) h k ];
    noted = λ m x ret. elim (tells same_record l.since r (λ x n. same_name n (l.names (Link r x))) m same_record_is) [
      | inl (is, e) ↦ ap (λ (g : Position → Option Record → Bool). g x (l.names (Link m x))) e ∙ rw is (name_same (l.names (Link r x)))
      | inr (other, e) ↦ ap (λ (g : Position → Option Record → Bool). g x (l.names (Link m x))) e ∙ o.noted m x (ap (λ b. cond b Retired (l.standing m)) (sym other) ∙ ret)
    ];
  }

  -- A pooled record is made fresh, with one hold.
  new_lawful : (s : Station) (r : Record) → s.number < z.stations → r.number < z.records → l.standing r ≡ Pooled → Lawful z (hold (with_standing l r Fresh) s (Some r))
  new_lawful s r below within pooled = record {
    inside = λ m not. elim (stand_tells l.standing r Fresh m) [ inl (is, e) ↦ rw is within | inr (_, e) ↦ o.inside m (rw e at not) ];
    named = λ q m e. let (at, (p, f)) = o.named q m e in elim (stand_tells l.standing r Fresh m) [
      | inl (is, _) ↦ absurd (p (rw is pooled))
      | inr (_, e') ↦ (at, rw e' (p, f))
    ];
    held = λ t m h. elim (stand_tells l.standing r Fresh m) [
      | inl (is, e') ↦ (rw (maker t m is h) below, λ k. pooled≢fresh _ k e')
      | inr (other, e') ↦ let (at, p) = o.held t m (elsewhere t m other h) in (at, rw e' p)
    ];
    alone = λ t u m fresh h k. elim (stand_tells l.standing r Fresh m) [
      | inl (is, _) ↦ maker t m is h ∙ sym (maker u m is k)
      | inr (other, e) ↦ o.alone t u m (rw e at fresh) (elsewhere t m other h) (elsewhere u m other k)
    ];
    noted = λ m x ret. elim (stand_tells l.standing r Fresh m) [ inl (_, e) ↦ absurd (fresh≢retired _ e ret) | inr (_, e) ↦ o.noted m x (rw e at ret) ];
  }
    where
      maker : (t : Station) (m : Record) → m ≡ r → Holds (with_holds l s r (l.holds s r + 1)) t m → t ≡ s
      maker t m is h = elim (holds_tells l s r (l.holds s r + 1) t m) [
        | inl (is', _, _) ↦ is'
        | inr e ↦ absurd ((o.held t m (rw e at h)).1 (rw is pooled))
      ]

      elsewhere : (t : Station) (m : Record) → same_record m r ≡ false → Holds (with_holds l s r (l.holds s r + 1)) t m → Holds l t m
      elsewhere t m other h = elim (holds_tells l s r (l.holds s r + 1) t m) [
        | inl (_, is, _) ↦ absurd (both_ways (same_record m r) other (rw is (record_same r)))
        | inr e ↦ rw e at h
      ]

  -- A spot of the table comes to name none, or a record that is not pooled.
  write_lawful : (q : Spot) (n : Option Record) → Inside z q → ((r : Record) → n ≡ Some r → l.standing r ≢ Pooled) → Lawful z (write l q n)
  write_lawful q n inside live = record {
    inside = λ m not. elim (naming_tells l.standing n m) [
      | inl e ↦ o.inside m (rw e at not)
      | inr (is, _, _) ↦ o.inside m (live m is)
    ];
    named = λ p m e. elim (tells same_spot l.names q n p same_spot_is) [
      | inl (is, e') ↦ (rw is inside, settled m (sym e' ∙ e))
      | inr (_, e') ↦ let (at, (k, f)) = o.named p m (rw e' at e) in (at, (λ e. k (was m e pooled≢linked), λ e. f (was m e fresh≢linked)))
    ];
    held = λ t m h. let (at, k) = o.held t m h in (at, λ e. k (was m e pooled≢linked));
    alone = λ t u m fresh h k. o.alone t u m (was m fresh fresh≢linked) h k;
    noted = λ m x ret. noted q m x (o.noted m x (was m ret retired≢linked));
  }
    where
      was : {t : Standing} (m : Record) → naming l.standing n m ≡ t → t ≢ Linked → l.standing m ≡ t
      was m e not = elim (naming_tells l.standing n m) [ inl same ↦ sym same ∙ e | inr (_, _, linked) ↦ absurd (not (sym e ∙ linked)) ]

      settled : (m : Record) → n ≡ Some m → (naming l.standing n m ≢ Pooled) × (naming l.standing n m ≢ Fresh)
      settled m is = (λ e. live m is (was m e pooled≢linked), rw is (naming_ends l.standing m))

      noted : (q : Spot) (m : Record) (x : Position) → l.since m x (l.names (Link m x)) ≡ true → noting l.since q n m x (changed same_spot l.names q n (Link m x)) ≡ true
      noted (Root g) m x h = h
      noted (Link r y) m x h = elim (tells same_spot l.names (Link r y) n (Link m x) same_spot_is) [
        | inl (is, e) ↦ let a : m ≡ r = cc in let b : x ≡ y = cc in rw (e, a, b) (noting_notes l.since r y n)
        | inr (_, e) ↦ rw e (noting_keeps l.since (Link r y) n m x (l.names (Link m x)) h)
      ]

module _ (z : Sizes) (l : Ledger) (o : Lawful z l) where
  -- A name that a station holds is no pooled record's.
  held_live : (s : Station) (n : Option Record) → HoldsName l s n → (r : Record) → n ≡ Some r → l.standing r ≢ Pooled
  held_live s n h r is = (o.held s r (subst (λ n. HoldsName l s n) is h)).1

  -- A spot that a station may go to is one of the table's.
  reach_inside : (s : Station) (q : Spot) → Reaches z l s q → Inside z q
  reach_inside s (Root g) h = h
  reach_inside s (Link r x) (at, h) = (o.inside r (o.held s r h).1, at)

  -- What a spot names can be held.
  follow_lawful : (s : Station) (q : Spot) (n : Option Record) → s.number < z.stations → l.names q ≡ n → Lawful z (hold l s n)
  follow_lawful s q None below e = o
  follow_lawful s q (Some r) below e = let (_, (k, f)) = o.named q r e in hold_lawful z l o s r (l.holds s r + 1) below k f

  makes_lawful : (s : Station) (answer : Outcome) (after : Ledger) → s.number < z.stations → Makes z l s answer after → Lawful z after
  makes_lawful s (Found None) after below (_, e) = subst (Lawful z) (sym e) o
  makes_lawful s (Found (Some r)) after below (at, pooled, e) = subst (Lawful z) (sym e) (new_lawful z l o s r below at pooled)
  makes_lawful s (Swapped b) after below h = absurd h
  makes_lawful s Done after below h = absurd h

  pub acts_lawful : (s : Station) (op : Operation) (answer : Outcome) (after : Ledger) → s.number < z.stations → Acts z l s op answer after → Lawful z after
  acts_lawful s New answer after below a = makes_lawful s answer after below a
  acts_lawful s (Deref q) answer after below (_, _, e) = subst (Lawful z) (sym e) (follow_lawful s q (l.names q) below refl)
  acts_lawful s (Release r) answer after below (h, _, _, e) = subst (Lawful z) (sym e) (let_go_lawful z l o s r h)
  acts_lawful s (Cas q old new) answer after below (at, h, _, e) = subst (Lawful z) (sym e) (swap (same_name (l.names q) old))
    where
      swap : (b : Bool) → Lawful z (cond b (write l q new) l)
      swap true = write_lawful z l o q new (reach_inside s q at) (held_live s new h)
      swap false = o
  acts_lawful s (Store r x new) answer after below (at, _, h, _, e) =
      subst (Lawful z) (sym e) (write_lawful z l o (Link r x) new (reach_inside s (Link r x) at) (held_live s new h))
  acts_lawful s (Delete r) answer after below (h, _, _, e) =
      subst (Lawful z) (sym e) (retire_lawful z (let_go l s r) (let_go_lawful z l o s r h) r (o.held s r h).1)

  pub silent_lawful : (a : Silent) (after : Ledger) → Permits z l a after → Lawful z after
  silent_lawful (lead r x n) after (_, to, settled, e) =
      subst (Lawful z) (sym e) (write_lawful z l o (Link r x) n (at (l.names (Link r x)) refl to) (λ m is. (subst (λ k. Settled l k) is settled).0))
    where
      at : (k : Option Record) → l.names (Link r x) ≡ k → LeadsTo z l x k n → Inside z (Link r x)
      at None e h = absurd h
      at (Some m) e h = (o.named (Link r x) m e).0
  silent_lawful (clear r x) after (_, at, e) = subst (Lawful z) (sym e) (write_lawful z l o (Link r x) None at (λ m is. grind arith))
  silent_lawful (return r) after (left, _, e) = subst (Lawful z) (sym e) (pool_lawful z l o r left)

lawful : {z : Sizes} {run : Run} {l : Ledger} {phases : Phases} → Explains z run l phases → Lawful z l
lawful {z} start = opening_lawful z
lawful (call h e f) = lawful e
lawful {z} (act {l} {after} s op answer e w (below, a)) = acts_lawful z l (lawful e) s op answer after below a
lawful {z} (silent {l} {after} a e p) = silent_lawful z l (lawful e) a after p

pub ledgers_keep_order : LedgersKeepOrder
ledgers_keep_order z run l phases e = lawful e
