-- What a link of a retired record has named since, over one act.
use Rattle.std.proofs.Common.{◌≡◌, Bool, true, false, cond, ◌≢◌, ◌⊎◌, Some, None, Option, sym, refl, ap, ◌∙◌, subst, inl, inr, arith}
use Rattle.terms.specs.declared.Record.{Record}
use Rattle.terms.specs.declared.Station.{Station}
use Rattle.terms.specs.declared.Position.{Position}
use Rattle.terms.specs.declared.Spot.{Spot}
use Rattle.terms.specs.declared.Spot.TheVariants.{Link}
use Rattle.terms.specs.declared.Standing.{Standing}
use Rattle.terms.specs.declared.Standing.TheVariants.{Pooled, Fresh, Retired}
use Rattle.terms.specs.declared.Operation.{Operation}
use Rattle.terms.specs.declared.Operation.TheVariants.{New, Deref, Release, Cas, Store, Delete}
use Rattle.terms.specs.declared.Outcome.{Outcome}
use Rattle.terms.specs.declared.Outcome.TheVariants.{Found, Swapped, Done}
use Rattle.terms.specs.Words.{same_name}
use Rattle.ledger.specs.Words.{same_record, same_spot}
use Rattle.ledger.specs.Ledger.{Sizes, Ledger, with_standing, hold, let_go, write, retire, Makes, Acts, Silent, lead, clear, return, Permits}
use Rattle.ledger.specs.Laws.{Lawful, Moves, acts, silently, SinceIsWhatWasNamed}
use Rattle.ledger.proofs.Words.{same_record_is, same_name_is, spot_same, at_key, tells, retired≢linked}
use Rattle.ledger.proofs.Changes.{stand_tells, naming_tells, noting_keeps, noting_tells}
use Rattle.ledger.proofs.Order.{acts_lawful, silent_lawful}

module _ (r : Record) (x : Position) (n : Option Record) where
  -- The statement both ways, with the ledgers as variables.
  abbrev Before : Ledger → Type 0
  Before l = (l.standing r ≡ Retired) × (l.since r x n ≡ true)

  record Noted (l after : Ledger) : Type 0 where
    back : after.standing r ≡ Retired → after.since r x n ≡ true → (after.names (Link r x) ≡ n) ⊎ Before l
    on : Before l → after.since r x n ≡ true

  write_noted : (l : Ledger) (q : Spot) (k : Option Record) → Noted l (write l q k)
  write_noted l q k = record {
    back = λ ret h. elim (noting_tells l.since q k r x n h) [
      | inl was ↦ inr (elim (naming_tells l.standing k r) [ inl e ↦ sym e ∙ ret | inr (_, _, e) ↦ absurd (retired≢linked (sym ret ∙ e)) ], was)
      | inr (is, is') ↦ inl (rw (is, is') (at_key same_spot l.names (Link r x) n spot_same))
    ];
    on = λ (_, h). noting_keeps l.since q k r x n h;
  }

  -- Nothing changed but the holds.
  same_noted : (l after : Ledger) → after.standing ≡ l.standing → after.since ≡ l.since → Noted l after
  same_noted l after e f = record {
    back = λ ret h. inr (sym (ap (λ (g : Record → Standing). g r) e) ∙ ret, sym (at f) ∙ h);
    on = λ (_, h). at f ∙ h;
  }
    where
      at : {f g : Record → Position → Option Record → Bool} → f ≡ g → f r x n ≡ g r x n
      at e = ap (λ (g : Record → Position → Option Record → Bool). g r x n) e

  hold_noted : (l : Ledger) (s : Station) (k : Option Record) → Noted l (hold l s k)
  hold_noted l s None = same_noted l l refl refl
  hold_noted l s (Some m) = same_noted l (hold l s (Some m)) refl refl

  -- A record comes to stand elsewhere than among the retired.
  stand_noted : (l after : Ledger) (m : Record) (t : Standing) → t ≢ Retired → after.standing ≡ (with_standing l m t).standing → after.since ≡ l.since → Noted l after
  stand_noted l after m t not e f = record {
    back = λ ret h. elim (stand_tells l.standing m t r) [
      | inl (_, e') ↦ absurd (not (sym (stands ∙ e') ∙ ret))
      | inr (_, e') ↦ inr (sym (stands ∙ e') ∙ ret, sym since ∙ h)
    ];
    on = λ (_, h). since ∙ h;
  }
    where
      stands : after.standing r ≡ (with_standing l m t).standing r
      stands = ap (λ (g : Record → Standing). g r) e

      since : after.since r x n ≡ l.since r x n
      since = ap (λ (g : Record → Position → Option Record → Bool). g r x n) f

  -- A record is retired that was not.
  retire_noted : (l : Ledger) (m : Record) → l.standing m ≢ Retired → Noted l (retire l m)
  retire_noted l m not = record {
    back = λ ret h. elim since [
      | inl (is, e) ↦ inl (ap (λ m. l.names (Link m x)) is ∙ sym (same_name_is n (l.names (Link m x)) (sym e ∙ h)))
      | inr (other, e) ↦ inr (sym (ap (λ b. cond b Retired (l.standing r)) other) ∙ ret, sym e ∙ h)
    ];
    on = λ (ret, h). elim since [ inl (is, e) ↦ absurd (not (rw is at ret)) | inr (_, e) ↦ e ∙ h ];
  }
    where
      since : ((r ≡ m) × ((retire l m).since r x n ≡ same_name n (l.names (Link m x)))) ⊎ ((same_record r m ≡ false) × ((retire l m).since r x n ≡ l.since r x n))
      since = elim (tells same_record l.since m (λ y k. same_name k (l.names (Link m y))) r same_record_is) [
        | inl (is, e) ↦ inl (is, ap (λ (g : Position → Option Record → Bool). g x n) e)
        | inr (other, e) ↦ inr (other, ap (λ (g : Position → Option Record → Bool). g x n) e)
      ]

  makes_noted : (z : Sizes) (l after : Ledger) (s : Station) (answer : Outcome) → Makes z l s answer after → Noted l after
  makes_noted z l after s (Found None) (_, e) = subst (Noted l) (sym e) (same_noted l l refl refl)
  makes_noted z l after s (Found (Some m)) (_, _, e) =
      subst (Noted l) (sym e) (stand_noted l (hold (with_standing l m Fresh) s (Some m)) m Fresh (λ e. grind arith) refl refl)
  makes_noted z l after s (Swapped b) a = absurd a
  makes_noted z l after s Done a = absurd a

  acts_noted : (z : Sizes) (l after : Ledger) (s : Station) (op : Operation) (answer : Outcome) → Acts z l s op answer after → Noted l after
  acts_noted z l after s New answer a = makes_noted z l after s answer a
  acts_noted z l after s (Deref q) answer (_, _, e) = subst (Noted l) (sym e) (hold_noted l s (l.names q))
  acts_noted z l after s (Release m) answer (_, _, _, e) = subst (Noted l) (sym e) (same_noted l (let_go l s m) refl refl)
  acts_noted z l after s (Cas q old new) answer (_, _, _, e) = subst (Noted l) (sym e) (swap (same_name (l.names q) old))
    where
      swap : (b : Bool) → Noted l (cond b (write l q new) l)
      swap true = write_noted l q new
      swap false = same_noted l l refl refl
  acts_noted z l after s (Store m y new) answer (_, _, _, _, e) = subst (Noted l) (sym e) (write_noted l (Link m y) new)
  acts_noted z l after s (Delete m) answer (_, not, _, e) =
      subst (Noted l) (sym e) (let p = retire_noted (let_go l s m) m not in record { back = p.back; on = p.on })

  silent_noted : (z : Sizes) (l after : Ledger) (a : Silent) → Permits z l a after → Noted l after
  silent_noted z l after (lead m y k) (_, _, _, e) = subst (Noted l) (sym e) (write_noted l (Link m y) k)
  silent_noted z l after (clear m y) (_, _, e) = subst (Noted l) (sym e) (write_noted l (Link m y) None)
  silent_noted z l after (return m) (_, _, e) = subst (Noted l) (sym e) (stand_noted l (with_standing l m Pooled) m Pooled (λ e. grind arith) refl refl)

moves_lawful : (z : Sizes) (l after : Ledger) → Lawful z l → Moves z l after → Lawful z after
moves_lawful z l after o (acts s op answer (below, a)) = acts_lawful z l o s op answer after below a
moves_lawful z l after o (silently a p) = silent_lawful z l o a after p

moves_noted : (r : Record) (x : Position) (n : Option Record) (z : Sizes) (l after : Ledger) → Moves z l after → Noted r x n l after
moves_noted r x n z l after (acts s op answer (_, a)) = acts_noted r x n z l after s op answer a
moves_noted r x n z l after (silently a p) = silent_noted r x n z l after a p

pub since_is_what_was_named : SinceIsWhatWasNamed
since_is_what_was_named z l after o m r x n ret = (
  λ h. (moves_noted r x n z l after m).back ret h,
  λ h. elim h [
    | inl is ↦ subst (λ k. after.since r x k ≡ true) is ((moves_lawful z l after o m).noted r x ret)
    | inr was ↦ (moves_noted r x n z l after m).on was
  ],
)
