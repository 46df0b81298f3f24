-- Slots: which is taken next, and which stay empty.
use Rattle.std.proofs.Common.{◌≡◌, ℕ, ◌<◌, true, Some, None, Option, sym, refl, ap, ◌∙◌, inl, inr, arith}
use Rattle.std.proofs.lemmas.Bool.{cases_eq, false≢true}
use Rattle.terms.specs.declared.Record.{Record}
use Rattle.terms.specs.Words.{is_none, lowest}
use Rattle.terms.proofs.Lowest.{lowest_below, lowest_at}
use Rattle.protocol.specs.Words.{Names, upd}
use Rattle.protocol.proofs.Words.{upd_same, upd_other, none_some}
use Rattle.laws.specs.Agree.{num}
use Rattle.laws.specs.Points.{Firm, Opened, Empty, Naming, Room, TwoRooms, RoomBeside}

pub none_is : (v : Option Record) → num v ≡ None → is_none v ≡ true
none_is None e = refl
none_is (Some r) e = absurd (none_some (sym e))

pub is_none_num : (v : Option Record) → is_none v ≡ true → num v ≡ None
is_none_num None e = refl
is_none_num (Some r) e = absurd (false≢true e)

-- The lowest empty slot is empty, where one is.
pub lowest_empty : (each : ℕ) (f : ℕ → Option Record) (slot : Names) → ((k : ℕ) → k < each → slot k ≡ num (f k)) → (i : ℕ) → Empty each slot i →
    Empty each slot (lowest (λ k. is_none (f k)) each)
lowest_empty each f slot same i e =
    let h = lowest_below (λ k. is_none (f k)) each i e.below (none_is (f i) (sym (same i e.below) ∙ e.none)) in
    let b = e.below in
    let l : lowest (λ k. is_none (f k)) each < each = omega arith in
    record { below = l; none = same _ l ∙ is_none_num (f (lowest (λ k. is_none (f k)) each)) (lowest_at (λ k. is_none (f k)) each l) }

module _ {each : ℕ} {slot : Names} where
  -- Another slot set leaves an empty one empty, and a name where it stands.
  pub empty_on : (i k : ℕ) (v : Option ℕ) → (k ≡ i → ⊥) → Empty each slot k → Empty each (upd slot i v) k
  empty_on i k v d e = record { below = e.below; none = upd_other slot i v k (λ y. d (sym y)) ∙ e.none }

  pub naming_on : (i k : ℕ) (v r : Option ℕ) → (k ≡ i → ⊥) → Naming each slot r k → Naming each (upd slot i v) r k
  naming_on i k v r d e = record { below = e.below; names = upd_other slot i v k (λ y. d (sym y)) ∙ e.names }

  -- Of two empty slots one is another than i.
  pub beside : (i : ℕ) → TwoRooms each slot → RoomBeside each slot i
  beside i (k, l, d, e, f) = elim (cases_eq k i) [ inl y ↦ (l, (λ h. d (y ∙ sym h)), f) | inr n ↦ (k, n, e) ]

  pub beside_on : (i : ℕ) (v : Option ℕ) → RoomBeside each slot i → RoomBeside each (upd slot i v) i
  beside_on i v (k, d, e) = (k, d, empty_on i k v d e)

  pub one_room : TwoRooms each slot → Room each slot
  one_room (k, l, d, e, f) = (k, e)

  pub beside_room : (i : ℕ) → RoomBeside each slot i → Room each slot
  beside_room i (k, d, e) = (k, e)

  -- A slot that names a record is not an empty one.
  pub not_empty : (i k r : ℕ) → Empty each slot i → slot k ≡ Some r → k ≡ i → ⊥
  not_empty i k r e h y = none_some (sym e.none ∙ ap slot (sym y) ∙ h)

  -- A taken slot emptied beside an empty one makes two.
  pub two_rooms : (i k r : ℕ) → k < each → Empty each slot i → slot k ≡ Some r → TwoRooms each (upd slot k None)
  two_rooms i k r l e h =
      let d = not_empty i k r e h in
      (i, k, (λ y. d (sym y)), empty_on k i None (λ y. d (sym y)) e, record { below = l; none = upd_same slot k None k refl })

  pub rooms_on : (k : ℕ) → TwoRooms each slot → TwoRooms each (upd slot k None)
  rooms_on k (i, j, d, e, f) = (i, j, d, still i e, still j f)
    where
      still : (i : ℕ) → Empty each slot i → Empty each (upd slot k None) i
      still i e = record { below = e.below; none = elim (cases_eq k i) [ inl y ↦ upd_same slot k None i y | inr n ↦ upd_other slot k None i n ∙ e.none ] }

  pub room_on : (k : ℕ) → Room each slot → Room each (upd slot k None)
  room_on k (i, e) = (i, record { below = e.below; none = elim (cases_eq k i) [ inl y ↦ upd_same slot k None i y | inr n ↦ upd_other slot k None i n ∙ e.none ] })

-- Where every slot holds what it names, one that names a record holds it.
pub held_by : (slot held : Names) → Firm slot held → (r k : ℕ) → slot k ≡ Some r → held k ≡ Some r
held_by slot held firm r k e = firm k ∙ e

-- Slots that hold what they name, one set with its hold.
pub firm_on : (slot held : Names) (i : ℕ) (v : Option ℕ) → Firm slot held → Firm (upd slot i v) (upd held i v)
firm_on slot held i v f k = elim (cases_eq i k) [
  | inl y ↦ upd_same held i v k y ∙ sym (upd_same slot i v k y)
  | inr d ↦ upd_other held i v k d ∙ f k ∙ sym (upd_other slot i v k d)
]

-- A dereference opens an empty slot,
pub opens : (each : ℕ) (slot held : Names) (i : ℕ) (v : Option ℕ) → Firm slot held → Empty each slot i → Opened each (upd slot i v) held i
opens each slot held i v f e = record { below = e.below; unheld = f i ∙ e.none; others = λ k d. f k ∙ sym (upd_other slot i v k (λ y. d (sym y))) }

-- writes into it again,
pub opened_on : (each : ℕ) (slot held : Names) (i : ℕ) (v : Option ℕ) → Opened each slot held i → Opened each (upd slot i v) held i
opened_on each slot held i v o = record { below = o.below; unheld = o.unheld; others = λ k d. o.others k d ∙ sym (upd_other slot i v k (λ y. d (sym y))) }

-- and makes it firm.
pub closes_none : (each : ℕ) (slot held : Names) (i : ℕ) → Opened each slot held i → slot i ≡ None → Firm slot held
closes_none each slot held i o e k = elim (cases_eq k i) [ inl y ↦ ap held y ∙ o.unheld ∙ sym e ∙ ap slot (sym y) | inr d ↦ o.others k d ]

pub closes : (each : ℕ) (slot held : Names) (i : ℕ) (v : Option ℕ) → Opened each slot held i → slot i ≡ v → Firm slot (upd held i v)
closes each slot held i v o e k = elim (cases_eq i k) [
  | inl y ↦ upd_same held i v k y ∙ sym e ∙ ap slot y
  | inr d ↦ upd_other held i v k d ∙ o.others k (λ y. d (sym y))
]
