-- DELETE begins: it acts at once, so the ledger's record is retired with one hold less, while the station still has it in a slot.
use Rattle.std.proofs.Common.{◌≡◌, ℕ, zero, suc, ◌+◌, ◌-◌, ◌<◌, Bool, true, false, cond, not, ◌&&◌, eqb, List, [], ◌∷◌, Some, None, Option, sym, refl, ap, ◌∙◌, subst, inl, inr, arith}
use Rattle.std.proofs.lemmas.Bool.{ltb-true, eq-eqb, ne_eqb, cases_Bool, cases_lt, true≢false, cond-true, cond-false}
use Rattle.terms.specs.declared.Record.{Record}
use Rattle.terms.specs.declared.Station.{Station}
use Rattle.terms.specs.declared.Position.{Position}
use Rattle.terms.specs.declared.Place.{Place}
use Rattle.terms.specs.declared.Spot.{Spot}
use Rattle.terms.specs.declared.Outcome.{Outcome}
use Rattle.terms.specs.declared.Standing.{Standing}
use Rattle.terms.specs.declared.Standing.TheVariants.{Pooled, Fresh, Retired}
use Rattle.terms.specs.declared.Operation.{Operation}
use Rattle.terms.specs.declared.Operation.TheVariants as op
use Rattle.terms.specs.Words.{same_name}
use Rattle.terms.proofs.Lowest.{lowest_at}
use Rattle.terms.proofs.Puts.{put_tells}
use Rattle.memory.specs.declared.access.Write.{Write}
use Rattle.memory.specs.declared.access.Write.TheVariants as w
use Rattle.memory.specs.Shared.{lowest_naming}
use Rattle.memory.specs.Standings.{set_standing}
use Rattle.work.specs.declared.work.Point.{Point}
use Rattle.work.specs.declared.work.Point.TheVariants.{End, Take, Look, LookAgain, Verify, Swap, Save, Overwrite, AskDeleted, AskPlace, AskDone, AskPlaceAgain, CountFirst, CountAgain, AskSlot, CountSecond, AskTrace, AskClaims, AskLink, Give}
use Rattle.work.specs.declared.work.AfterLook.{AfterLook}
use Rattle.work.specs.declared.work.AfterLook.TheVariants as look
use Rattle.work.specs.declared.work.AfterSwap.{AfterSwap}
use Rattle.work.specs.declared.work.AfterSwap.TheVariants as swap
use Rattle.work.specs.Plans.{Plan, plan, Notes, Sight, with_note, head_of}
use Rattle.work.specs.declared.notes.Note.{Note}
use Rattle.work.specs.Steps.{round_at, free_place}
use Rattle.machine.specs.Tables.{Table, sight_in}
use Rattle.machine.specs.Steps.{seated}
use Rattle.machine.specs.Holds.{is_verified}
use Rattle.machine.specs.Begin as begin
use Rattle.machine.specs.Begin.{first_failing, begun}
use Rattle.laws.specs.Fits.{Sound}
use Rattle.laws.proofs.Checks.{pass}
use Rattle.ledger.specs.Words.{same_record, same_station, changed}
use Rattle.ledger.specs.Ledger.{Sizes, Ledger, Allows, let_go, retire, following}
use Rattle.ledger.specs.Explains.{begins, Phase, resting, waiting, acted, Run, Phases, moved}
use Rattle.ledger.proofs.Extend.{begins_acting, moved_there}
use Rattle.ledger.proofs.Words.{same_station_is, same_record_is, station_same, at_key, tells}
use Rattle.ledger.proofs.Changes.{stand_tells}
use Rattle.order.specs.Counts.{count, once}
use Rattle.order.specs.Phases.{InPhase}
use Rattle.order.specs.Relation.{sizes, Past, PastOf, PastLook, PastSwap, Lasting}
use Rattle.order.specs.Theorems.{Explained, BeginningsAreExplained}
use Rattle.order.proofs.Frame.{HoldsBy, seat_tells}
use Rattle.order.proofs.Onward.{Round, round_is}
use Rattle.order.proofs.Begins.{idle_holds, begins_waiting, checked, rests, and_true, count_same, Checked}

-- A slot that names r is counted.
pub counted_at : (f : ℕ → Bool) (n i : ℕ) → i < n → f i ≡ true → 0 < count f n
unfolding count
counted_at f zero i h e = absurd (omega arith)
counted_at f (suc n) i h e = go (f n) refl (λ l. counted_at f n i l e)
  where
    go : (b : Bool) → f n ≡ b → (i < n → 0 < count f n) → 0 < cond b (suc (count f n)) (count f n)
    go true x k = omega arith
    go false x k = k (elim (cases_lt i n) [ inl l ↦ l | inr l ↦ (let same : i ≡ n = omega arith in absurd (true≢false (sym e ∙ ap f same ∙ x))) ])

not_retired : (x : Standing) → not (begin.is_retired x) ≡ true → x ≡ Retired → ⊥
not_retired x e h = grind arith

pub differs : (q s : Station) → (q ≡ s → ⊥) → same_station q s ≡ false
differs q s d = elim (cases_Bool (same_station q s)) [ inl x ↦ absurd (d (same_station_is q s x)) | inr x ↦ x ]

-- Each standing after one is set, in the ledger and in the table.
pub stand_after : (f : Record → Standing) (g : ℕ → Standing) → ((r : Record) → f r ≡ g r.number) → (r : Record) (v : Standing) → r.number < 128 → (c : Record) → changed same_record f r v c ≡ set_standing g r.number v c.number
stand_after f g same r v small c = elim (put_tells 128 g r.number v c.number) [
  | inl (y, d, _) ↦ cond-true _ v (f c) (eq-eqb c.number r.number (sym d)) ∙ sym y
  | inr (y, d) ↦ cond-false _ v (f c) (ne_eqb c.number r.number (λ i. d (sym i) small)) ∙ same c ∙ sym y
]

-- What a phase asks of standings is only that a record to be released is not fresh.
pub still_in_phase : (z : Sizes) (f g : ℕ → Standing) (p : Option Plan) (x : Phase) → ((r : Record) → x ≡ waiting (op.Release r) → g r.number ≡ Fresh → f r.number ≡ Fresh) → InPhase z f p x → InPhase z g p x
still_in_phase z f g None resting h d = d
still_in_phase z f g None (waiting o) h d = absurd d
still_in_phase z f g None (acted a) h d = absurd d
still_in_phase z f g (Some p) resting h d = absurd d
still_in_phase z f g (Some p) (acted a) h d = d
still_in_phase z f g (Some p) (waiting op.New) h d = d
still_in_phase z f g (Some p) (waiting (op.Deref q)) h d = d
still_in_phase z f g (Some p) (waiting (op.Release r)) h (d, e) = (d, λ k. e (h r refl k))
still_in_phase z f g (Some p) (waiting (op.Cas q o n)) h d = d
still_in_phase z f g (Some p) (waiting (op.Store r x n)) h d = d
still_in_phase z f g (Some p) (waiting (op.Delete r)) h d = absurd d

-- What a CLEAN found is still so where withdrawn records stay so, with what their links have named, and lasting ones last.
pub record Lasts (l m : Ledger) : Type 0 where
  pub retired : (r : Record) → l.standing r ≡ Retired → m.standing r ≡ Retired
  pub since : (r : Record) (x : Position) (n : Option Record) → l.standing r ≡ Retired → l.since r x n ≡ true → m.since r x n ≡ true
  pub lasting : (r : Record) → (l.standing r ≡ Pooled → ⊥) → (l.standing r ≡ Fresh → ⊥) → (m.standing r ≡ Pooled → ⊥) × (m.standing r ≡ Fresh → ⊥)

lasts_name : (l m : Ledger) → Lasts l m → (v : Option Record) → Lasting l v → Lasting m v
lasts_name l m k None d = d
lasts_name l m k (Some r) (d, e) = k.lasting r d e

lasts_look : (l m : Ledger) → Lasts l m → (g : AfterLook) → PastLook l g → PastLook m g
lasts_look l m k look.Answer d = d
lasts_look l m k (look.CleanLink c) d = d
lasts_look l m k (look.CleanNext c r) d = k.retired r d

lasts_swap : (z : Sizes) (l m : Ledger) → Lasts l m → (g : AfterSwap) → PastSwap z l g → PastSwap z m g
lasts_swap z l m k swap.Answer d = d
lasts_swap z l m k (swap.CleanSwap c r v) (d, e, f) = (k.retired r d, k.since r (following z c.position) v d e, lasts_name l m k v f)
lasts_swap z l m k (swap.ClearLink e x) d = d

pub lasts_at : (z : Sizes) (l m : Ledger) → Lasts l m → (x : Point) → Past z l x → Past z m x
lasts_at z l m k (Look q g) d = lasts_look l m k g d
lasts_at z l m k (LookAgain q i g) d = lasts_look l m k g d
lasts_at z l m k (Verify q i v g) d = lasts_look l m k g d
lasts_at z l m k (Swap q o v g) d = lasts_swap z l m k g d
lasts_at z l m k (End o) d = d
lasts_at z l m k Take d = d
lasts_at z l m k (Save q v g) d = d
lasts_at z l m k (Overwrite q o v g) d = d
lasts_at z l m k (AskDeleted c r) d = d
lasts_at z l m k (AskPlace q i) d = d
lasts_at z l m k (AskDone q i r) d = d
lasts_at z l m k (AskPlaceAgain q i r) d = d
lasts_at z l m k (CountFirst e) d = d
lasts_at z l m k (CountAgain e) d = d
lasts_at z l m k (AskSlot q i) d = d
lasts_at z l m k (CountSecond e) d = d
lasts_at z l m k (AskTrace e) d = d
lasts_at z l m k (AskClaims e) d = d
lasts_at z l m k (AskLink e x) d = d
lasts_at z l m k (Give e) d = d

pub lasts_of : (z : Sizes) (l m : Ledger) → Lasts l m → (p : Option Plan) → PastOf z l p → PastOf z m p
lasts_of z l m k None d = d
lasts_of z l m k (Some p) d = lasts_at z l m k p.point d

-- The station's record r is withdrawn.
module _ (t : Table) (ok : Sound t) (run : Run) (e : Explained t run) (s : Station) (r : Record) (c : Checked t s.number (op.Delete r)) (low : s.number < 8) where
  abbrev l : Ledger
  l = e.ledger

  abbrev after : Ledger
  after = retire (let_go l s r) r

  small : r.number < 128
  small = let k = ltb-true r.number t.sizes.records (pass _ _ _ c.ranges).0 in let u = ok.lawful.records in omega arith

  held : 0 < l.holds s r
  held =
      let here : lowest_naming (t.shared.slots s.number) r < 8 = ltb-true (lowest_naming (t.shared.slots s.number) r) 8 (pass _ _ _ c.helds).0 in
      let k = counted_at (λ i. same_name (t.shared.slots s.number i) (Some r)) 8 (lowest_naming (t.shared.slots s.number) r) here (lowest_at (λ i. same_name (t.shared.slots s.number i) (Some r)) 8 here) in
      let h = idle_holds t ok run e s c.idle c.station r in
      omega (arith, h, k)

  -- A record that is fresh afterwards was fresh, and one that is withdrawn stays so.
  was_fresh : (k : ℕ) → set_standing t.standing r.number Retired k ≡ Fresh → t.standing k ≡ Fresh
  was_fresh k h = elim (put_tells 128 t.standing r.number Retired k) [
    | inl (y, _, _) ↦ absurd (retired_fresh (sym y ∙ h))
    | inr (y, _) ↦ sym y ∙ h
  ]
    where
      retired_fresh : Retired ≡ Fresh → ⊥
      retired_fresh x = grind arith

  stays : (q : Record) → l.standing q ≡ Retired → after.standing q ≡ Retired
  stays q h = elim (stand_tells l.standing r Retired q) [ inl (_, x) ↦ x | inr (_, x) ↦ x ∙ h ]

  not_yet : l.standing r ≡ Retired → ⊥
  not_yet h = not_retired (t.standing r.number) (pass _ _ _ c.fits).0 (sym (e.related.standings r) ∙ h)

  lasts : Lasts l after
  lasts = record {
    retired = stays;
    since = λ q x n d h. elim (tells same_record l.since r (λ y k. same_name k (l.names (Spot.Link r y))) q same_record_is) [
      | inl (is, _) ↦ absurd (not_yet (ap l.standing (sym is) ∙ d))
      | inr (_, y) ↦ ap (λ (f : Position → Option Record → Bool). f x n) y ∙ h
    ];
    lasting = λ q d h. elim (stand_tells l.standing r Retired q) [
      | inl (_, x) ↦ ((λ k. grind arith), (λ k. grind arith))
      | inr (_, x) ↦ ((λ k. d (sym x ∙ k)), (λ k. h (sym x ∙ k)))
    ];
  }

  -- One hold less of r, and the others as before.
  less_here : (q : Record) → after.holds s q + once (Some r) q ≡ l.holds s q
  less_here q =
      let a : after.holds s q ≡ changed same_record (l.holds s) r (l.holds s r - 1) q =
      ap (λ (f : Record → ℕ). f q) (at_key same_station l.holds s (changed same_record (l.holds s) r (l.holds s r - 1)) station_same) in
      elim (tells same_record (l.holds s) r (l.holds s r - 1) q same_record_is) [
        | inl (is, y) ↦
            let one : once (Some r) q ≡ 1 = cond-true (eqb r.number q.number) 1 0 (eq-eqb r.number q.number (ap (λ (o : Record). o.number) (sym is))) in
            let had : l.holds s q ≡ l.holds s r = ap (l.holds s) is in
            let h = held in
            omega (arith, a, y, one, had, h)
        | inr (is, y) ↦
            let none : once (Some r) q ≡ 0 = cond-false (eqb r.number q.number) 1 0 (ne_eqb r.number q.number (λ h. true≢false (sym (eq-eqb q.number r.number (sym h)) ∙ is))) in
            omega (arith, a, y, none)
      ]

  as_before : (q : Station) (k : Record) → (q ≡ s → ⊥) → after.holds q k ≡ l.holds q k
  as_before q k d = ap (λ (b : Bool). cond b (changed same_record (l.holds s) r (l.holds s r - 1)) (l.holds q) k) (differs q s d)

  abbrev waiting_phases : Phases
  waiting_phases = moved e.phases s (waiting (op.Delete r))

  phase_there : (q : Station) → (q ≡ s → ⊥) → e.phases q ≡ waiting_phases q
  phase_there q d = sym (moved_there e.phases s q (waiting (op.Delete r)) (differs q s d))

  allowed : Allows (sizes t.sizes) l s (op.Delete r) Outcome.Done after
  allowed = (c.station, (held, not_yet, refl, refl))

  abbrev owed : Place → List Write
  owed i = w.Release r ∷ w.SetDeleted r ∷ w.ClearTraceOfListed r ∷ w.ClearDone i ∷ w.FillPlace i r ∷ []

  pub withdraws : (i : Place) (n : Notes) (x : Point) → Round (sizes t.sizes) after x →
      Explained (record { sizes = t.sizes; shared = t.shared; standing = set_standing t.standing r.number Retired; seats = seated t.seats s.number (Some (plan (owed i) x)) n; pool = t.pool }) (begins s (op.Delete r) ∷ run)
  withdraws i n x round = record {
    ledger = after;
    phases = moved waiting_phases s (acted Outcome.Done);
    explains = begins_acting s (op.Delete r) Outcome.Done e.explains (rests (sizes t.sizes) t.standing (t.seats s.number).work (e.phases s) c.idle (e.related.phases s c.station)) allowed;
    related = record {
      names = e.related.names;
      standings = stand_after l.standing t.standing e.related.standings r Retired small;
      holds = λ q k b. each_holds k q b;
      phases = seat_tells t s (Some (plan (owed i) x)) n waiting_phases (acted Outcome.Done) low (λ q y z. q.number < t.sizes.stations → InPhase (sizes t.sizes) (set_standing t.standing r.number Retired) y.work z)
          (λ b. round.acted (owed i) (λ j. refl))
          (λ q d b. subst (λ (y : Phase). InPhase (sizes t.sizes) (set_standing t.standing r.number Retired) (t.seats q.number).work y) (phase_there q d) (still_in_phase (sizes t.sizes) t.standing (set_standing t.standing r.number Retired) (t.seats q.number).work (e.phases q) (λ c _ h. was_fresh c.number h) (e.related.phases q b)));
      past = seat_tells t s (Some (plan (owed i) x)) n waiting_phases (acted Outcome.Done) low (λ q y z. q.number < t.sizes.stations → PastOf (sizes t.sizes) after y.work)
          (λ b. round.past) (λ q d b. lasts_of (sizes t.sizes) l after lasts (t.seats q.number).work (e.related.past q b));
    };
  }
    where
      each_holds : (k : Record) (q : Station) → q.number < t.sizes.stations →
          HoldsBy (t.shared.slots q.number) (after.holds q k) (seated t.seats s.number (Some (plan (owed i) x)) n q.number).work (moved waiting_phases s (acted Outcome.Done) q) k
      each_holds k = seat_tells t s (Some (plan (owed i) x)) n waiting_phases (acted Outcome.Done) low (λ q y z. q.number < t.sizes.stations → HoldsBy (t.shared.slots q.number) (after.holds q k) y.work z k)
          (λ b.
          let h = idle_holds t ok run e s c.idle c.station k in
          let less = less_here k in
          let none = round.nothing k in
          let hand = round.empty (owed i) k refl in
          let all : count (λ j. same_name (t.shared.slots s.number j) (Some k) && is_verified (Some (plan (owed i) x)) j) 8 ≡ count (λ j. same_name (t.shared.slots s.number j) (Some k)) 8 =
          count_same _ _ 8 (λ j. ap (λ (v : Bool). same_name (t.shared.slots s.number j) (Some k) && not v) (round.closed j) ∙ and_true (same_name (t.shared.slots s.number j) (Some k))) in
          omega (arith, h, less, none, hand, all))
          (λ q d b. subst (λ (m : ℕ). HoldsBy (t.shared.slots q.number) m (t.seats q.number).work (waiting_phases q) k) (sym (as_before q k d))
          (subst (λ (y : Phase). HoldsBy (t.shared.slots q.number) (l.holds q k) (t.seats q.number).work y k) (phase_there q d) (e.related.holds q k b)))

-- Every beginning that is not refused.
pub beginnings_explained : BeginningsAreExplained
beginnings_explained t ok run e s o h = go o (checked t s.number o h)
  where
    low : s.number < t.sizes.stations → s.number < 8
    low b = let most = ok.lawful.stations in omega arith

    go : (o : Operation) → Checked t s.number o → Explained (begun t s.number o) (begins s o ∷ run)
    go op.New c = begins_waiting t ok run e s op.New c (low c.station) (λ r x. grind arith)
    go (op.Deref q) c = begins_waiting t ok run e s (op.Deref q) c (low c.station) (λ r x. grind arith)
    go (op.Release r) c = begins_waiting t ok run e s (op.Release r) c (low c.station) (λ k x. grind arith)
    go (op.Cas q old new) c = begins_waiting t ok run e s (op.Cas q old new) c (low c.station) (λ r x. grind arith)
    go (op.Store r x new) c = begins_waiting t ok run e s (op.Store r x new) c (low c.station) (λ k y. grind arith)
    go (op.Delete r) c =
        let sight : Sight = sight_in t.sizes t.shared s.number in
        let i : Place = free_place sight (t.shared.places s.number) in
        let n : Notes = with_note (t.seats s.number).notes (Note.Push (record { place = i; node = r })) in
        withdraws t ok run e s r c (low c.station) i n (round_at sight n (head_of n.list)) (round_is (sizes t.sizes) (retire (let_go e.ledger s r) r) sight n (head_of n.list))
