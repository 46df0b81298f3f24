-- Where a station goes on to without a dereference under way: it has nothing of its own beside what it owes.
use Rattle.std.proofs.Common.{◌≡◌, ℕ, ◌+◌, Bool, true, false, not, ◌&&◌, ◌||◌, ◌==◌, ltb, nat_le, List, [], ◌∷◌, ◌++◌, length, Some, None, Option, sym, refl, ap, ◌∙◌, inl, arith}
use Rattle.std.proofs.lemmas.Bool.{cond_both}
use Rattle.terms.specs.declared.Record.{Record}
use Rattle.terms.specs.declared.Station.{Station}
use Rattle.terms.specs.declared.Slot.{Slot}
use Rattle.terms.specs.declared.Place.{Place}
use Rattle.terms.specs.declared.Outcome.{Outcome}
use Rattle.terms.specs.Words.{same_name}
use Rattle.memory.specs.declared.access.Write.{Write}
use Rattle.memory.specs.declared.access.Write.TheVariants as w
use Rattle.work.specs.declared.work.Reached.{Reached}
use Rattle.work.specs.declared.work.Entry.{Entry}
use Rattle.work.specs.declared.work.Round as rounds
use Rattle.work.specs.declared.work.Round.TheVariants.{Own, All}
use Rattle.work.specs.declared.work.Clean.{Clean}
use Rattle.work.specs.declared.work.Point.{Point}
use Rattle.work.specs.declared.work.Point.TheVariants.{End, AskPlace, CountFirst, AskSlot, CountSecond}
use Rattle.work.specs.Plans.{Plan, plan, Notes, Sight, head_of, reached, station, slot, place}
use Rattle.work.specs.Steps.{round_at, clean_at, first_pass, next_place, own_next, record_clean, link_clean, release_of, scan_end, second_at, second_start, next_slot, lower, count_kept}
use Rattle.machine.specs.Holds.{owes_fill, looks_into, is_verified}
use Rattle.ledger.specs.Ledger.{Sizes, Ledger}
use Rattle.ledger.specs.Explains.{acted}
use Rattle.order.specs.Counts.{count, once, releases_of, filled_with, in_hand_at, cleaning_holds}
use Rattle.order.specs.Phases.{Acted, Calm}
use Rattle.order.specs.Relation.{Past}
use Rattle.order.proofs.Frame.{HoldsBy}
use Rattle.order.proofs.Begins.{count_same}

-- No dereference into a slot is under way, and CLEAN has nothing for itself.
pub record Round (z : Sizes) (l : Ledger) (x : Point) : Type 0 where
  pub closed : (i : ℕ) → looks_into x i ≡ false
  pub nothing : (r : Record) → cleaning_holds x r ≡ 0
  pub empty : (ws : List Write) (r : Record) → filled_with ws r ≡ 0 → in_hand_at ws x r ≡ 0
  pub acted : (ws : List Write) → Calm ws → Acted Outcome.Done ws x
  pub past : Past z l x

module _ (z : Sizes) (l : Ledger) where
  abbrev R : Point → Type 0
  R x = Round z l x

  pub ends_round : R (End Outcome.Done)
  ends_round = record { closed = λ i. refl; nothing = λ r. refl; empty = λ ws r e. e; acted = λ ws k. (refl, inl k); past = tt }

  pub clean_round : (r : Record) (x : ℕ) (g : rounds.Round) → R (clean_at r x g)
  clean_round r x g = record { closed = λ i. refl; nothing = λ r. refl; empty = λ ws r e. refl; acted = λ ws k. (refl, tt, k); past = tt }

  count_round : (e : Reached) → R (CountFirst e)
  count_round e = record { closed = λ i. refl; nothing = λ r. refl; empty = λ ws r e. refl; acted = λ ws k. (refl, k); past = tt }

  second_round : (e : Reached) → R (CountSecond e)
  second_round e = record { closed = λ i. refl; nothing = λ r. refl; empty = λ ws r e. refl; acted = λ ws k. (refl, k); past = tt }

  slot_round : (q : Station) (i : Slot) → R (AskSlot q i)
  slot_round q i = record { closed = λ i. refl; nothing = λ r. refl; empty = λ ws r e. refl; acted = λ ws k. (refl, k); past = tt }

  place_round : (q : Station) (i : Place) → R (AskPlace q i)
  place_round q i = record { closed = λ i. refl; nothing = λ r. refl; empty = λ ws r e. refl; acted = λ ws k. (refl, k); past = tt }

  pub round_is : (s : Sight) (n : Notes) (h : Option Reached) → R (round_at s n h)
  round_is s n None = ends_round
  round_is s n (Some e) = cond_both (length n.list == s.t1) (clean_at e.entry.node 0 (Own e.left)) _ R
      (λ _. clean_round e.entry.node 0 (Own e.left)) (λ _. cond_both (nat_le s.t2 (length n.list)) (CountFirst e) (End Outcome.Done) R (λ _. count_round e) (λ _. ends_round))

  pub first_round : (h : Option Reached) → R (first_pass h)
  first_round None = slot_round (station 0) (slot 0)
  first_round (Some e) = count_round e

  pub next_place_round : (q : Station) (i : Place) (s : Sight) (n : Notes) → R (next_place q i s n)
  next_place_round q i s n = cond_both (ltb (i.index + 1) s.t1) (AskPlace q (place (i.index + 1))) _ R (λ _. place_round q (place (i.index + 1)))
      (λ _. cond_both (ltb (q.number + 1) s.stations) (AskPlace (station (q.number + 1)) (place 0)) _ R (λ _. place_round (station (q.number + 1)) (place 0)) (λ _. round_is s n (head_of n.list)))

  starts_round : (h : Option Reached) → R (second_start h)
  starts_round None = ends_round
  starts_round (Some e) = second_round e

  pub next_slot_round : (q : Station) (i : Slot) (s : Sight) (n : Notes) → R (next_slot q i s n)
  next_slot_round q i s n = cond_both (ltb (i.index + 1) s.each) (AskSlot q (slot (i.index + 1))) _ R (λ _. slot_round q (slot (i.index + 1)))
      (λ _. cond_both (ltb (q.number + 1) s.stations) (AskSlot (station (q.number + 1)) (slot 0)) _ R (λ _. slot_round (station (q.number + 1)) (slot 0)) (λ _. starts_round (head_of n.list)))

  scan_round : (s : Sight) (n : Notes) (k : Option Entry) → R (scan_end s n k)
  scan_round s n k = cond_both (count_kept n k == s.t1) (AskPlace (station 0) (place 0)) (End Outcome.Done) R (λ _. place_round (station 0) (place 0)) (λ _. ends_round)

-- A plan that goes on with the writes ws and maybe more, which release nothing and fill no slot.
pub record Onward (z : Sizes) (l : Ledger) (ws : List Write) (p : Plan) : Type 0 where
  pub round : Round z l p.point
  pub calm : Calm ws → Calm p.owed
  pub releases : (r : Record) → releases_of p.owed r ≡ releases_of ws r
  pub fills : (r : Record) → filled_with ws r ≡ 0 → filled_with p.owed r ≡ 0

-- Writes one after the other.
fill_either : (j : Slot) (a : Bool) (i : ℕ) (b c : Bool) → a ≡ (b || c) → (j.index == i || a) ≡ ((j.index == i || b) || c)
fill_either j a i b c e = go (j.index == i)
  where
    go : (d : Bool) → (d || a) ≡ ((d || b) || c)
    go true = refl
    go false = e

pub owes_both : (ws vs : List Write) (i : ℕ) → owes_fill (ws ++ vs) i ≡ (owes_fill ws i || owes_fill vs i)
owes_both [] vs i = refl
owes_both (w.FillSlot j v ∷ ws) vs i = fill_either j (owes_fill (ws ++ vs) i) i (owes_fill ws i) (owes_fill vs i) (owes_both ws vs i)
owes_both (w.Release r ∷ ws) vs i = owes_both ws vs i
owes_both (w.ZeroCount r ∷ ws) vs i = owes_both ws vs i
owes_both (w.ClearDeleted r ∷ ws) vs i = owes_both ws vs i
owes_both (w.RaiseCount r ∷ ws) vs i = owes_both ws vs i
owes_both (w.ClearTraceOfHeld r ∷ ws) vs i = owes_both ws vs i
owes_both (w.LowerCount r ∷ ws) vs i = owes_both ws vs i
owes_both (w.SetDeleted r ∷ ws) vs i = owes_both ws vs i
owes_both (w.ClearTraceOfListed r ∷ ws) vs i = owes_both ws vs i
owes_both (w.ClearDone j ∷ ws) vs i = owes_both ws vs i
owes_both (w.FillPlace j r ∷ ws) vs i = owes_both ws vs i
owes_both (w.SetTrace r ∷ ws) vs i = owes_both ws vs i
owes_both (w.EmptyPlace j ∷ ws) vs i = owes_both ws vs i
owes_both (w.SetDone j ∷ ws) vs i = owes_both ws vs i
owes_both (w.AddClaim q j ∷ ws) vs i = owes_both ws vs i
owes_both (w.DropClaim q j ∷ ws) vs i = owes_both ws vs i

pub releases_both : (ws vs : List Write) (r : Record) → releases_of (ws ++ vs) r ≡ releases_of ws r + releases_of vs r
releases_both [] vs r = omega arith
releases_both (w.Release x ∷ ws) vs r = let h = releases_both ws vs r in omega (arith, h)
releases_both (w.FillSlot j v ∷ ws) vs r = releases_both ws vs r
releases_both (w.ZeroCount x ∷ ws) vs r = releases_both ws vs r
releases_both (w.ClearDeleted x ∷ ws) vs r = releases_both ws vs r
releases_both (w.RaiseCount x ∷ ws) vs r = releases_both ws vs r
releases_both (w.ClearTraceOfHeld x ∷ ws) vs r = releases_both ws vs r
releases_both (w.LowerCount x ∷ ws) vs r = releases_both ws vs r
releases_both (w.SetDeleted x ∷ ws) vs r = releases_both ws vs r
releases_both (w.ClearTraceOfListed x ∷ ws) vs r = releases_both ws vs r
releases_both (w.ClearDone j ∷ ws) vs r = releases_both ws vs r
releases_both (w.FillPlace j x ∷ ws) vs r = releases_both ws vs r
releases_both (w.SetTrace x ∷ ws) vs r = releases_both ws vs r
releases_both (w.EmptyPlace j ∷ ws) vs r = releases_both ws vs r
releases_both (w.SetDone j ∷ ws) vs r = releases_both ws vs r
releases_both (w.AddClaim q j ∷ ws) vs r = releases_both ws vs r
releases_both (w.DropClaim q j ∷ ws) vs r = releases_both ws vs r

pub filled_both : (ws vs : List Write) (r : Record) → filled_with (ws ++ vs) r ≡ filled_with ws r + filled_with vs r
filled_both [] vs r = omega arith
filled_both (w.FillSlot j v ∷ ws) vs r = let h = filled_both ws vs r in omega (arith, h)
filled_both (w.Release x ∷ ws) vs r = filled_both ws vs r
filled_both (w.ZeroCount x ∷ ws) vs r = filled_both ws vs r
filled_both (w.ClearDeleted x ∷ ws) vs r = filled_both ws vs r
filled_both (w.RaiseCount x ∷ ws) vs r = filled_both ws vs r
filled_both (w.ClearTraceOfHeld x ∷ ws) vs r = filled_both ws vs r
filled_both (w.LowerCount x ∷ ws) vs r = filled_both ws vs r
filled_both (w.SetDeleted x ∷ ws) vs r = filled_both ws vs r
filled_both (w.ClearTraceOfListed x ∷ ws) vs r = filled_both ws vs r
filled_both (w.ClearDone j ∷ ws) vs r = filled_both ws vs r
filled_both (w.FillPlace j x ∷ ws) vs r = filled_both ws vs r
filled_both (w.SetTrace x ∷ ws) vs r = filled_both ws vs r
filled_both (w.EmptyPlace j ∷ ws) vs r = filled_both ws vs r
filled_both (w.SetDone j ∷ ws) vs r = filled_both ws vs r
filled_both (w.AddClaim q j ∷ ws) vs r = filled_both ws vs r
filled_both (w.DropClaim q j ∷ ws) vs r = filled_both ws vs r

module _ (z : Sizes) (l : Ledger) where
  pub plain_onward : (ws : List Write) (x : Point) → Round z l x → Onward z l ws (plan ws x)
  plain_onward ws x k = record { round = k; calm = λ c. c; releases = λ r. refl; fills = λ r e. e }

  -- with more writes behind them, which release nothing and fill nothing
  pub more_onward : (ws vs : List Write) (x : Point) → Calm vs → ((r : Record) → releases_of vs r ≡ 0) → ((r : Record) → filled_with vs r ≡ 0) → Round z l x → Onward z l ws (plan (ws ++ vs) x)
  more_onward ws vs x c a b k = record {
    round = k;
    calm = λ d i. owes_both ws vs i ∙ ap (λ (u : Bool). u || owes_fill vs i) (d i) ∙ c i;
    releases = λ r. let h = releases_both ws vs r in let g = a r in omega (arith, h, g);
    fills = λ r e. let h = filled_both ws vs r in let g = b r in omega (arith, h, g, e);
  }

  own_next_onward : (ws : List Write) (n : Notes) (h : Option Reached) → Onward z l ws (own_next ws n h)
  own_next_onward ws n None = plain_onward ws (first_pass (head_of n.list)) (first_round z l (head_of n.list))
  own_next_onward ws n (Some e) = plain_onward ws (clean_at e.entry.node 0 (Own e.left)) (clean_round z l e.entry.node 0 (Own e.left))

  pub record_clean_onward : (ws : List Write) (g : rounds.Round) (s : Sight) (n : Notes) → Onward z l ws (record_clean ws g s n)
  record_clean_onward ws (Own left) s n = own_next_onward ws n (reached n.list left)
  record_clean_onward ws (All q i) s n = more_onward ws (w.DropClaim q i ∷ []) (next_place q i s n) (λ j. refl) (λ r. refl) (λ r. refl) (next_place_round z l q i s n)

  pub link_clean_onward : (v : Option Record) (c : Clean) (s : Sight) (n : Notes) → Onward z l (release_of v) (link_clean v c s n)
  link_clean_onward v c s n = cond_both (ltb (c.position.index + 1) s.positions) (plan (release_of v) (clean_at c.node (c.position.index + 1) c.round)) _ (λ (p : Plan). Onward z l (release_of v) p)
      (λ _. plain_onward (release_of v) (clean_at c.node (c.position.index + 1) c.round) (clean_round z l c.node (c.position.index + 1) c.round))
      (λ _. record_clean_onward (release_of v) c.round s n)

  pub second_onward : (ws : List Write) (k : Option Entry) (s : Sight) (n : Notes) (h : Option Reached) → Onward z l ws (second_at ws k s n h).does
  second_onward ws k s n None = plain_onward ws (scan_end s n k) (scan_round z l s n k)
  second_onward ws k s n (Some e) = plain_onward ws (CountSecond e) (second_round z l e)

-- What is lowered, raised or released fills no slot and is no slot's.
pub release_calm : (v : Option Record) → Calm (release_of v)
release_calm None i = refl
release_calm (Some r) i = refl

pub release_fills : (v : Option Record) (r : Record) → filled_with (release_of v) r ≡ 0
release_fills None r = refl
release_fills (Some x) r = refl

pub release_once : (v : Option Record) (r : Record) → releases_of (release_of v) r ≡ once v r
release_once None r = refl
release_once (Some x) r = omega arith

pub lower_calm : (v : Option Record) → Calm (lower v)
lower_calm None i = refl
lower_calm (Some r) i = refl

pub lower_fills : (v : Option Record) (r : Record) → filled_with (lower v) r ≡ 0
lower_fills None r = refl
lower_fills (Some x) r = refl

pub lower_releases : (v : Option Record) (r : Record) → releases_of (lower v) r ≡ 0
lower_releases None r = refl
lower_releases (Some x) r = refl

-- A station whose operation acted goes on so, with n holds where it had m, which differ by what it has beside.
pub onward_holds : (z : Sizes) (l : Ledger) (slots : ℕ → Option Record) (m n : ℕ) (x : Point) (ws : List Write) (p : Plan) (a : Outcome) (r : Record) → ((i : ℕ) → looks_into x i ≡ false) → in_hand_at [] x r ≡ 0 →
    m + cleaning_holds x r ≡ n + releases_of ws r → Calm ws → filled_with ws r ≡ 0 → Onward z l ws p → HoldsBy slots m (Some (plan [] x)) (acted a) r → HoldsBy slots n (Some p) (acted a) r
onward_holds z l slots m n x ws p a r closed empty sum calm fills k h =
    let same : count (λ i. same_name (slots i) (Some r) && is_verified (Some (plan [] x)) i) 8 ≡ count (λ i. same_name (slots i) (Some r) && is_verified (Some p) i) 8 =
    count_same _ _ 8 (λ i. ap (λ (v : Bool). same_name (slots i) (Some r) && (true && not v)) (closed i ∙ sym (k.round.closed i)) ∙ ap (λ (v : Bool). same_name (slots i) (Some r) && (not v && not (looks_into p.point i))) (sym (k.calm calm i))) in
    let a1 = k.round.nothing r in
    let a2 = k.releases r in
    let a3 = k.round.empty p.owed r (k.fills r fills) in
    omega (arith, h, same, a1, a2, a3, empty, sum)
