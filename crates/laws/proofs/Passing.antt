-- SCAN, second pass: who is kept, and who is given back.
use Rattle.std.proofs.Common.{◌≡◌, ℕ, ◌+◌, ◌<◌, ◌≤◌, Bool, true, false, not, ◌&&◌, eqb, List, [], ◌∷◌, ◌++◌, length, Some, None, Option, sym, refl, ap, ◌∙◌, subst, inl, inr, arith}
use Rattle.std.proofs.lemmas.Bool.{cases_lt, cond_both, eqb-true, eqb-false, and_parts, not-true}
use Rattle.terms.specs.declared.Record.{Record}
use Rattle.terms.specs.declared.Position.{Position}
use Rattle.terms.specs.declared.Spot.{Spot}
use Rattle.terms.specs.declared.Standing.{Standing}
use Rattle.memory.specs.declared.access.Write.{Write}
use Rattle.memory.specs.Shared.{Shared}
use Rattle.work.specs.declared.work.AfterSwap.TheVariants as swap
use Rattle.work.specs.declared.work.AfterStore.TheVariants as store
use Rattle.work.specs.declared.work.Point.{Point}
use Rattle.work.specs.declared.work.Point.TheVariants.{Swap, Save, CountSecond, AskTrace, AskClaims, AskLink}
use Rattle.work.specs.Plans.{Plan, plan, Notes, Sight, position, reached, with_note, noted, kept_too, pushed}
use Rattle.work.specs.Steps.{quiet, Turn, second_next, second_at, count_kept, counted_second, traced_of, claims_of}
use Rattle.machine.specs.Tables.{Sizes, sight_in}
use Rattle.protocol.specs.Words.{upd}
use Rattle.protocol.specs.State.{State, giving, passed, gone, emptied}
use Rattle.protocol.specs.Invariant.{Inv}
use Rattle.protocol.specs.Steps as step
use Rattle.protocol.proofs.Words.{upd_other}
use Rattle.protocol.proofs.Facts.{one_move}
use Rattle.laws.specs.Numbers.{shape, place_number, spot_number}
use Rattle.laws.specs.Agree.{Agrees}
use Rattle.laws.specs.Mine.{Mine, mine, Quiet, put_phase, put_low}
use Rattle.laws.specs.Owes as owes
use Rattle.laws.specs.Owes.{Owes, Lists}
use Rattle.laws.specs.Lists.{Settled, place_of, entry_at, Stands, Filed, Second}
use Rattle.laws.specs.Points.{AtPoint, Firm, Scanning}
use Rattle.laws.specs.Fits.{Lawful}
use Rattle.laws.proofs.Rows.{upd_here, column_upd}
use Rattle.laws.proofs.Rooms.{one_room}
use Rattle.laws.proofs.Owed.{Turned, own_place, listed_within}
use Rattle.laws.proofs.Spots.{Spotted, link_owner}
use Rattle.laws.proofs.Seats.{Decided}
use Rattle.work.specs.declared.work.Reached.{Reached}
use Rattle.laws.proofs.Walks.{Walk, over, at, walk}
use Rattle.work.specs.declared.work.Entry.{Entry}
use Rattle.protocol.specs.Effects.{after_phase, after_find_unclaimed}
use Rattle.work.specs.declared.notes.Note.{Note}
use Rattle.laws.proofs.Marking.{entry_lists}
use Rattle.laws.proofs.Filing.{snoc_length, pushed_snoc, keeps, shuts}

-- An entry kept is filed with the kept ones.
pub kept_filed : (t1 : ℕ) (lists : ℕ → Option ℕ) (es : List Entry) (k : ℕ) (ks : List Entry) (e : Entry) → t1 ≤ 64 → e ≡ entry_at es k → Filed t1 lists es (k + 1) ks → Filed t1 lists es k (pushed ks e)
kept_filed t1 lists es k ks e l h d =
    let room = d.room in
    subst (λ (x : List Entry). Filed t1 lists es k x) (sym (pushed_snoc ks e (omega arith))) (subst (λ (x : Entry). Filed t1 lists es k (ks ++ x ∷ [])) (sym h) (keeps t1 lists es k ks d))

pub kept_length : (t1 : ℕ) (lists : ℕ → Option ℕ) (es : List Entry) (k : ℕ) (ks : List Entry) (e : Entry) → t1 ≤ 64 → Filed t1 lists es (k + 1) ks → length (pushed ks e) ≡ length ks + 1
kept_length t1 lists es k ks e l d = let room = d.room in ap length (pushed_snoc ks e (omega arith)) ∙ snoc_length ks e

-- The second pass goes on behind an entry that is kept or gone, or SCAN ends.
pub second_point : (z : Sizes) → Lawful z → 0 < z.stations → (n : Notes) (m : Mine) (e : Reached) (keep : Option Entry) (ws : List Write) (u : Sight) → u.t1 ≡ z.t1 →
    Quiet m → Firm m.slot m.held → Scanning z m → Stands n e → Filed z.t1 m.lists n.list e.left (kept_too n.kept keep) → length (kept_too n.kept keep) ≡ count_kept n keep →
    ((i : ℕ) → i < e.left → m.phase (place_of n.list i) ≡ passed) → 64 ≤ m.read → ((r : ℕ) → r < 128 → m.seen r ≡ n.seen r) → ((j : ℕ) → m.place j ≡ m.lists j) → Settled m.phase →
    AtPoint z (noted n (second_next ws e keep u n).note) (second_next ws e keep u n).does.point m
second_point z y some n m e keep ws u same k firm c w d long ahead read seen names settled = go keep d long (reached n.list e.left) (walk n.list e.left (let l = w.below in omega arith))
  where
    go : (keep : Option Entry) → Filed z.t1 m.lists n.list e.left (kept_too n.kept keep) → length (kept_too n.kept keep) ≡ count_kept n keep → (x : Option Reached) → Walk n.list e.left x →
        AtPoint z (noted n (second_at ws keep u n x).note) (second_at ws keep u n x).does.point m
    go keep d long None (over q) =
        let whole : Filed z.t1 m.lists (kept_too n.kept keep) (length (kept_too n.kept keep)) [] = shuts z.t1 m.lists n.list (kept_too n.kept keep) (subst (λ (i : ℕ). Filed z.t1 m.lists n.list i (kept_too n.kept keep)) q d) in
        let room = whole.room in
        cond_both (eqb (count_kept n keep) u.t1) _ _ (λ (x : Point). AtPoint z (with_note n (Note.Close keep)) x m)
        (λ t. (k, firm, record { unscanned = record { filed = whole; kept = refl; unseen = λ r. refl; named = names; settled = settled }; station_in = some; place_in = y.some_place; claim = c.0; rooms = c.1 }))
        (λ t. (k, firm, record { unscanned = record { filed = whole; kept = refl; unseen = λ r. refl; named = names; settled = settled }; short = shorter (length (kept_too n.kept keep)) (λ h. eqb-false (count_kept n keep) u.t1 t (sym long ∙ h)) room; claimless = c.0 }, one_room c.1))
      where
        shorter : (k : ℕ) → (k ≡ u.t1 → ⊥) → k + 0 ≤ z.t1 → k < z.t1
        shorter k d l = elim (cases_lt k z.t1) [ inl i ↦ i | inr i ↦ absurd (d (omega arith)) ]
    go None d long (Some x) (at _ q h) =
        (k, firm, c, record { below = (let l = w.below in omega arith); here = h }, record { filed = subst (λ (i : ℕ). Filed z.t1 m.lists n.list i n.kept) (sym q) d; ahead = λ i l. ahead i (omega arith); all_read = read; saw = seen; named = names; settled = settled })
    go (Some v) d long (Some x) (at _ q h) =
        (k, firm, c, record { below = (let l = w.below in omega arith); here = h }, record { filed = subst (λ (i : ℕ). Filed z.t1 m.lists n.list i (pushed n.kept v)) (sym q) d; ahead = λ i l. ahead i (omega arith); all_read = read; saw = seen; named = names; settled = settled })

pub at_place : (n : Notes) (e : Reached) → Stands n e → place_of n.list e.left ≡ e.entry.place.index
at_place n e w = ap (λ (x : Entry). x.place.index) (sym w.here)

module _ (z : Sizes) (y : Lawful z) (p : ℕ) (pS : p < z.stations) (pN : p < 8) (s : Shared) (f : ℕ → Standing) (a : State) (b : Inv shape a) (g : Agrees z s f a) (n : Notes) where
  pub some_station : 0 < z.stations
  some_station = omega arith

  -- An entry before this one stands under another place.
  pub before_apart : (e : Reached) (ks : List Entry) → Stands n e → Filed z.t1 (mine a p).lists n.list (e.left + 1) ks → (i : ℕ) → i < e.left → place_of n.list i ≡ e.entry.place.index → ⊥
  before_apart e ks w d i l q = let h = d.front_apart i e.left (omega arith) (omega arith) (q ∙ sym (at_place n e w)) in omega arith

  -- The entry is kept.
  kept_turn : (e : Reached) → Quiet (mine a p) → Firm (mine a p).slot (mine a p).held → Scanning z (mine a p) → Stands n e → Second z.t1 n (mine a p) (e.left + 1) →
      Decided z p s f a n (second_next [] e (Some e.entry) (sight_in z s p) n)
  kept_turn e k firm c w d = record {
    to = a;
    moves = step.stay;
    agrees = g;
    after = subst (λ (ws : List Write). Owes z.each (AtPoint z (noted n (second_next [] e (Some e.entry) (sight_in z s p) n).note) (second_next [] e (Some e.entry) (sight_in z s p) n).does.point) (mine a p) ws) (sym (no_writes (reached n.list e.left)))
        (owes.paid (second_point z y some_station n (mine a p) e (Some e.entry) [] (sight_in z s p) refl k firm c w
        (kept_filed z.t1 (mine a p).lists n.list e.left n.kept e.entry y.t1 w.here d.filed) (kept_length z.t1 (mine a p).lists n.list e.left n.kept e.entry y.t1 d.filed)
        (λ i l. d.ahead i (omega arith)) d.all_read d.saw d.named d.settled));
  }
    where
      no_writes : (x : Option Reached) → (second_at [] (Some e.entry) (sight_in z s p) n x).does.owed ≡ []
      no_writes None = refl
      no_writes (Some x) = refl

  -- SC19, the count
  pub count_second_turn : (e : Reached) (zero? : Bool) → AtPoint z n (CountSecond e) (mine a p) → Decided z p s f a n (counted_second e zero? (sight_in z s p) n)
  count_second_turn e true x = record { to = a; moves = step.stay; agrees = g; after = owes.paid x }
  count_second_turn e false (k, firm, c, w, d) = kept_turn e k firm c w d

  -- and the mark.
  pub trace_turn : (e : Reached) → AtPoint z n (AskTrace e) (mine a p) → Decided z p s f a n (traced_of e (s.traces e.entry.node.number) (sight_in z s p) n)
  trace_turn e (k, firm, c, w, d) =
      cond_both (s.traces e.entry.node.number && not (n.seen e.entry.node.number)) _ _ (λ (x : Turn). Decided z p s f a n x)
      (λ t. let (marked, unseen) = and_parts (s.traces e.entry.node.number) (not (n.seen e.entry.node.number)) t in passes marked (not-true (n.seen e.entry.node.number) unseen))
      (λ _. kept_turn e k firm c w d)
    where
      passes : s.traces e.entry.node.number ≡ true → n.seen e.entry.node.number ≡ false → Decided z p s f a n (quiet (plan (Write.EmptyPlace e.entry.place ∷ []) (AskClaims e)))
      passes marked unseen =
          let j : ℕ = e.entry.place.index in
          let r : ℕ = e.entry.node.number in
          let l = entry_lists z y p pS pN s f a b g n e (e.left + 1) n.kept w (omega arith) d.filed k in
          let m : Mine = mine a p in
          let low = listed_within z y p pS pN s f a b g j r l in
          record {
            to = after_phase a (place_number p j) gone;
            moves = one_move shape a p _ (step.pass (place_number p j) r (own_place a p j r pN l) (ap m.phase (sym (at_place n e w)) ∙ d.ahead e.left (omega arith)) d.all_read (g.traces r ∙ marked) (d.saw r low ∙ unseen));
            agrees = record { roots = g.roots; links = g.links; counts = g.counts; traces = g.traces; deleteds = g.deleteds; standings = g.standings; slots = g.slots; places = g.places; claims = g.claims; beyond = g.beyond; blank = g.blank };
            after = subst (λ (x : Mine). Owes z.each (AtPoint z n (AskClaims e)) x (Write.EmptyPlace e.entry.place ∷ [])) (sym (gone_mine j))
                (owes.empty_place e.entry.place r (record { below = l.below; full = l.full; quiet = record { ups = k.ups; clears = k.clears; downs = k.downs; stores = k.stores; hands = k.hands } }) (upd_here m.phase j gone)
                (owes.paid (
                  record { ups = k.ups; clears = k.clears; downs = k.downs; stores = k.stores; hands = k.hands },
                  firm,
                  c,
                  w,
                  record {
                    filed = d.filed;
                    ahead = λ i h. upd_other (upd m.phase j gone) j emptied (place_of n.list i) (λ q. before_apart e n.kept w d.filed i h (sym q)) ∙ upd_other m.phase j gone (place_of n.list i) (λ q. before_apart e n.kept w d.filed i h (sym q)) ∙ d.ahead i (omega arith);
                    all_read = d.all_read;
                    saw = d.saw;
                    here = upd_here (upd m.phase j gone) j emptied;
                    empty = upd_here m.place j None;
                    named = λ i x. upd_other m.place j None i (λ q. x (sym q)) ∙ d.named i;
                    settled = λ i x. let q = upd_other (upd m.phase j gone) j emptied i (λ q. x (sym q)) ∙ upd_other m.phase j gone i (λ q. x (sym q)) in elim (d.settled i) [ inl h ↦ inl (q ∙ h) | inr h ↦ inr (q ∙ h) ];
                  },
                )));
          }
        where
          gone_mine : (j : ℕ) → mine (after_phase a (place_number p j) gone) p ≡ put_phase (upd (mine a p).phase j gone) (mine a p)
          gone_mine j = rw (column_upd a.phase p j gone)

  -- SC21.
  pub claims_turn : (e : Reached) → AtPoint z n (AskClaims e) (mine a p) → Decided z p s f a n (quiet (claims_of e (eqb (s.claims p e.entry.place.index) 0)))
  claims_turn e (k, firm, c, w, d) =
      cond_both (eqb (s.claims p e.entry.place.index) 0) _ _ (λ (x : Plan). Turned z p s f a (λ m. Owes z.each (AtPoint z n x.point) m x.owed))
      (λ t. let j : ℕ = e.entry.place.index in
      let r : ℕ = e.entry.node.number in
      let l = entry_lists z y p pS pN s f a b g n e (e.left + 1) n.kept w (omega arith) d.filed k in
      let m : Mine = mine a p in
      record {
        to = after_find_unclaimed a (place_number p j);
        moves = one_move shape a p _ (step.find_unclaimed (place_number p j) r (own_place a p j r pN l) d.here (g.claims p j pN ∙ eqb-true (s.claims p j) 0 t));
        agrees = record { roots = g.roots; links = g.links; counts = g.counts; traces = g.traces; deleteds = g.deleteds; standings = g.standings; slots = g.slots; places = g.places; claims = g.claims; beyond = g.beyond; blank = g.blank };
        after = subst (λ (x : Mine). Owes z.each (AtPoint z n (Save (Spot.Link e.entry.node (position 0)) None (store.GiveBack e (position 0)))) x []) (sym (found_mine j))
            (owes.paid (
              record { ups = k.ups; clears = k.clears; downs = k.downs; stores = k.stores; hands = k.hands },
              firm,
              (
                w,
                record {
                  filed = d.filed;
                  ahead = λ i h. upd_other m.phase j giving (place_of n.list i) (λ q. before_apart e n.kept w d.filed i h (sym q)) ∙ d.ahead i h;
                  all_read = d.all_read;
                  saw = d.saw;
                  here = upd_here m.phase j giving;
                  empty = d.empty;
                  named = d.named;
                  settled = λ i x. let q = upd_other m.phase j giving i (λ q. x (sym q)) in elim (d.settled i x) [ inl h ↦ inl (q ∙ h) | inr h ↦ inr (q ∙ h) ];
                },
                y.some_link,
                refl,
                refl,
                upd_here m.low j 0,
                c.0,
                c.1,
              ),
            ));
      })
      (λ _. record { to = a; moves = step.stay; agrees = g; after = owes.paid (k, firm, c, w, d, y.some_link) })
    where
      found_mine : (j : ℕ) → mine (after_find_unclaimed a (place_number p j)) p ≡ put_low (upd (mine a p).low j 0) (put_phase (upd (mine a p).phase j giving) (mine a p))
      found_mine j = rw (column_upd a.low p j 0, column_upd a.phase p j giving)

  -- TN6.
  pub ask_link_turn : (e : Reached) (x : Position) (v : Option Record) → AtPoint z n (AskLink e x) (mine a p) →
      Decided z p s f a n (quiet (plan [] (Swap (Spot.Link e.entry.node x) v None (swap.ClearLink e x))))
  ask_link_turn e x v (k, firm, c, w, d, l) = record { to = a; moves = step.stay; agrees = g; after = owes.paid (k, firm, (w, d, l, refl, refl, c.0, c.1)) }

  pub entry_spotted : (e : Reached) (x : Position) (q : Spot) → Lists (mine a p) e.entry.place.index e.entry.node.number → x.index < z.positions → q ≡ Spot.Link e.entry.node x → Spotted q
  entry_spotted e x q l h eq = let u = y.positions in subst Spotted (sym eq) (listed_within z y p pS pN s f a b g e.entry.place.index e.entry.node.number l, omega arith)

  pub entry_owner : (e : Reached) (x : Position) (q : Spot) → x.index < z.positions → q ≡ Spot.Link e.entry.node x → shape.owner (spot_number q) ≡ Some e.entry.node.number
  entry_owner e x q h eq = let u = y.positions in ap (λ (i : Spot). shape.owner (spot_number i)) eq ∙ link_owner e.entry.node.number x.index (omega arith)
