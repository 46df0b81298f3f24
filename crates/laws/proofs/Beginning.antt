-- Every beginning that is not refused keeps the table sound.
use Rattle.std.proofs.Common.{◌≡◌, ℕ, ◌+◌, ◌/◌, ◌%◌, ◌<◌, true, false, cond, not, ltb, ◌⊎◌, List, [], ◌∷◌, ◌++◌, length, Some, None, Option, sym, refl, ap, ◌∙◌, subst, inl, inr, arith}
use Rattle.std.proofs.lemmas.Bool.{cases_eq, false≢true, ltb-true}
use Rattle.terms.specs.declared.Record.{Record}
use Rattle.terms.specs.declared.Position.{Position}
use Rattle.terms.specs.declared.Spot.{Spot}
use Rattle.terms.specs.declared.Spot.TheVariants as at
use Rattle.terms.specs.declared.Outcome.{Outcome}
use Rattle.terms.specs.declared.Standing.{Standing}
use Rattle.terms.specs.declared.Standing.TheVariants.{Pooled, Fresh, Retired}
use Rattle.terms.specs.Words.{is_none, lowest, same_name}
use Rattle.memory.specs.declared.access.Write.{Write}
use Rattle.memory.specs.Shared.{Shared, lowest_naming}
use Rattle.memory.specs.Standings.{set_standing}
use Rattle.work.specs.declared.work.AfterLook.TheVariants as look
use Rattle.work.specs.declared.work.AfterSwap.TheVariants as swap
use Rattle.work.specs.declared.work.AfterStore.TheVariants as store
use Rattle.work.specs.declared.work.Point.TheVariants.{End, Take, Look, Swap, Save}
use Rattle.work.specs.Plans.{Plan, plan, Notes, place, with_note, pushed}
use Rattle.work.specs.Steps.{begin_of}
use Rattle.machine.specs.Tables.{Sizes, sight_in, Table}
use Rattle.protocol.specs.Words.{upd}
use Rattle.protocol.specs.State.{State, resting, passed}
use Rattle.protocol.specs.Invariant.{Inv}
use Rattle.protocol.specs.Steps as step
use Rattle.protocol.proofs.Words.{upd_other, none_some, upd_same, some_same}
use Rattle.protocol.proofs.Facts.{one_move}
use Rattle.laws.specs.Numbers.{shape, place_number, spot_number}
use Rattle.laws.specs.Agree.{Agrees}
use Rattle.laws.specs.Mine.{Mine, mine, put_slot, put_held, put_known, put_place, put_lists, put_storing}
use Rattle.laws.specs.Owes as owes
use Rattle.laws.specs.Owes.{Owes}
use Rattle.laws.specs.Points.{AtPoint, TwoRooms, HeldHere, Carried, Within}
use Rattle.laws.specs.Fits.{Lawful, Working, Sound, Follows}
use Rattle.laws.proofs.Rows.{upd_here, row_at, column_upd}
use Rattle.laws.proofs.Words.{one_word}
use Rattle.laws.proofs.Names.{same_num}
use Rattle.laws.proofs.Rooms.{firm_on, held_by, two_rooms, room_on, is_none_num}
use Rattle.laws.proofs.Owed.{ready_of}
use Rattle.laws.proofs.Spots.{Spotted, spotted_below, link_owner}
use Rattle.protocol.specs.Effects.{after_reset_scan, after_begin_store, after_retire}
use Rattle.work.specs.declared.work.Entry.{Entry}
use Rattle.laws.specs.Lists.{Filed}
use Rattle.laws.proofs.Dereference.{held_holds, held_within}
use Rattle.work.specs.declared.notes.Note.{Note}
use Rattle.laws.proofs.Filing.{pushed_snoc, adds}
use Rattle.terms.specs.declared.Operation.{Operation}
use Rattle.terms.specs.declared.Operation.TheVariants as op
use Rattle.terms.proofs.Lowest.{lowest_at}
use Rattle.frames.specs.declared.refusal.Refusal.{Refusal}
use Rattle.machine.specs.Steps.{seated}
use Rattle.machine.specs.Begin as begin
use Rattle.machine.specs.Begin.{Check, first_failing, begin_refusal, begun}
use Rattle.protocol.specs.Clauses.{making}
use Rattle.terms.proofs.Puts.{put_tells}
use Rattle.laws.proofs.Rounds.{rested, reset_mine, round_point}
use Rattle.laws.proofs.Cleaning.{taken_below}
use Rattle.laws.proofs.Seats.{sound_after}
use Rattle.laws.proofs.Checks.{pass, passes, two_empty}

fresh_is : (x : Standing) → begin.is_fresh x ≡ true → x ≡ Fresh
fresh_is x e = grind arith

not_retired : (x : Standing) → not (begin.is_retired x) ≡ true → x ≡ Retired → ⊥
not_retired x e h = grind arith

retired_not : Retired ≡ Pooled → ⊥
retired_not e = grind arith

-- One station begins, at rest.
module _ (t : Table) (ok : Sound t) (p : ℕ) (pS : p < t.sizes.stations) (idle : AtPoint t.sizes (t.seats p).notes (End Outcome.Done) (mine ok.state p)) where
  abbrev z : Sizes
  z = t.sizes

  abbrev s : Shared
  s = t.shared

  abbrev f : ℕ → Standing
  f = t.standing

  abbrev n : Notes
  n = (t.seats p).notes

  abbrev a : State
  a = ok.state

  y : Lawful t.sizes
  y = ok.lawful

  b : Inv shape ok.state
  b = ok.inv

  g : Agrees t.sizes t.shared t.standing ok.state
  g = ok.fits.agrees

  pN : p < 8
  pN = let most = ok.lawful.stations in omega arith

  -- What the table finds held, the station holds.
  named_here : (r : Record) → begin.holds t p r ≡ true → (i : ℕ) × (i < 8) × ((mine a p).slot i ≡ Some r.number)
  named_here r e =
      let l = ltb-true (lowest_naming (s.slots p) r) 8 e in
      let i : ℕ = lowest_naming (s.slots p) r in
      (i, l, row_at a.slot p i l ∙ g.slots p i l ∙ same_num (s.slots p i) (Some r) (lowest_at (λ j. same_name (s.slots p j) (Some r)) 8 l))

  held_here : (r : Record) → begin.holds t p r ≡ true → HeldHere (mine a p).held r.number
  held_here r e = let (i, l, h) = named_here r e in (i, l, idle.1 i ∙ h)

  within_here : (q : Spot) → first_failing (begin.spot_ranges z q) ≡ None → first_failing (begin.spot_held t p q) ≡ None → Within z (mine a p).held q
  within_here (at.Root i) e h = let k = ltb-true i.index z.roots (pass _ _ _ e).0 in let u = y.roots in omega arith
  within_here (at.Link r x) e h = (ltb-true x.index z.positions (pass _ _ _ (pass _ _ _ e).1).0, held_here r (pass _ _ _ h).0)

  carried_here : (v : Option Record) (i : ℕ) → first_failing (begin.name_held t p v i) ≡ None → Carried (mine a p).held v
  carried_here None i e r h = absurd (none_some h)
  carried_here (Some x) i e r h = subst (λ (o : ℕ). HeldHere (mine a p).held o) (some_same h) (held_here x (pass _ _ _ e).0)

  rooms_here : ltb (begin.taken (s.slots p) z.each + 1) z.each ≡ true → TwoRooms z.each (mine a p).slot
  rooms_here e =
      let u = y.each in
      let (i, j, d, k, l, x, v) = two_empty (s.slots p) z.each (ltb-true (begin.taken (s.slots p) z.each + 1) z.each e) in (
        i,
        j,
        d,
        record { below = k; none = row_at a.slot p i (omega arith) ∙ g.slots p i (omega arith) ∙ is_none_num (s.slots p i) x },
        record { below = l; none = row_at a.slot p j (omega arith) ∙ g.slots p j (omega arith) ∙ is_none_num (s.slots p j) v },
      )

  -- Beginnings that change no word of the protocol.
  plain : (w : Plan) → Owes z.each (AtPoint z n w.point) (mine a p) w.owed → Follows t ok p (record { sizes = z; shared = s; standing = f; seats = seated t.seats p (Some w) n; pool = t.pool })
  plain w o = sound_after t ok p pS s f (Some w) n t.pool (record { to = a; moves = step.stay; agrees = g; after = o }) ok.fits.pooled ok.fits.complete

  begin_new : first_failing (begin.standings_fit t p op.New) ≡ None → Follows t ok p (begun t p op.New)
  begin_new e = let (k, firm, st, room) = idle in plain (plan [] Take) (owes.paid (k, firm, st, rooms_here (pass _ _ _ e).0))

  begin_deref : (q : Spot) → first_failing (begin.ranges z (op.Deref q)) ≡ None → first_failing (begin.held t p (op.Deref q)) ≡ None → first_failing (begin.standings_fit t p (op.Deref q)) ≡ None → Follows t ok p (begun t p (op.Deref q))
  begin_deref q e h w = let (k, firm, st, room) = idle in plain (plan [] (Look q look.Answer)) (owes.paid (k, firm, (st, within_here q e h, rooms_here (pass _ _ _ w).0)))

  begin_release : (r : Record) → first_failing (begin.held t p (op.Release r)) ≡ None → Follows t ok p (begun t p (op.Release r))
  begin_release r e =
      let (k, firm, st, room) = idle in
      let (i, l, h) = named_here r (pass _ _ _ e).0 in
      plain (plan (Write.Release r ∷ []) (End Outcome.Done)) (owes.release r k (held_by (mine a p).slot (mine a p).held firm r.number) i l h (λ j jK ej.
      owes.paid (record { ups = k.ups; clears = k.clears; downs = k.downs; stores = k.stores; hands = k.hands }, firm_on (mine a p).slot (mine a p).held j None firm, st, room_on j room)))

  begin_cas : (q : Spot) (o v : Option Record) → first_failing (begin.ranges z (op.Cas q o v)) ≡ None → first_failing (begin.held t p (op.Cas q o v)) ≡ None → Follows t ok p (begun t p (op.Cas q o v))
  begin_cas q o v e h =
      let (k, firm, st, room) = idle in
      let (e1, _) = passes (begin.spot_ranges z q ++ begin.name_ranges z o 4) (begin.name_ranges z v 5) e in
      let (e2, _) = passes (begin.spot_ranges z q) (begin.name_ranges z o 4) e1 in
      let (h1, h2) = passes (begin.spot_held t p q) (begin.name_held t p v 5) h in
      plain (plan [] (Swap q o v swap.Answer)) (owes.paid (k, firm, (st, within_here q e2 h1, carried_here v 5 h2, room)))

  begin_store : (c : Record) (x : Position) (v : Option Record) → first_failing (begin.ranges z (op.Store c x v)) ≡ None → first_failing (begin.held t p (op.Store c x v)) ≡ None →
      first_failing (begin.standings_fit t p (op.Store c x v)) ≡ None → Follows t ok p (begun t p (op.Store c x v))
  begin_store c x v e h w =
      let (k, firm, st, room) = idle in
      let q : Spot = Spot.Link c x in
      let (e1, _) = passes (begin.spot_ranges z q) (begin.name_ranges z v 4) e in
      let (h1, h2) = passes (begin.name_held t p (Some c) 2) (begin.name_held t p v 4) h in
      let (inside, held) = within_here q e1 h1 in
      let four = y.positions in
      let spot : Spotted q = (held_within z y p pS pN s f a b g n c.number held, omega arith) in
      let a1 : State = after_begin_store a p (spot_number q) in
      let me : mine a1 p ≡ put_storing (Some (spot_number q)) (put_known false (mine a p)) = rw (upd_here a.storing p (Some (spot_number q)), upd_here a.known p false) in
      let fresh : a.standing c.number ≡ Fresh = g.standings c.number ∙ fresh_is (f c.number) (pass _ _ _ w).0 in
      sound_after t ok p pS s f (Some (plan [] (Save q v store.Answer))) n t.pool
      (record {
        to = a1;
        moves = one_move shape a p a1 (step.begin_store (spot_number q) c.number (spotted_below q spot) (link_owner c.number x.index (omega arith)) (making fresh (held_holds z y p pS pN s f a b g n c.number held)) (ready_of a p k));
        agrees = record { roots = g.roots; links = g.links; counts = g.counts; traces = g.traces; deleteds = g.deleteds; standings = g.standings; slots = g.slots; places = g.places; claims = g.claims; beyond = g.beyond; blank = g.blank };
        after = subst (λ (m : Mine). Owes z.each (AtPoint z n (Save q v store.Answer)) m []) (sym me)
            (owes.paid (record { ups = k.ups; clears = k.clears; downs = k.downs; hands = k.hands; spot = refl }, firm, (st, (c, x, refl, inside, held), carried_here v 4 h2, room)));
      })
      ok.fits.pooled ok.fits.complete

  begin_delete : (r : Record) → first_failing (begin.held t p (op.Delete r)) ≡ None → first_failing (begin.standings_fit t p (op.Delete r)) ≡ None → Follows t ok p (begun t p (op.Delete r))
  begin_delete r h w =
      let (k, firm, st, (e0, empty)) = idle in
      let (retired, w2) = pass (not (begin.is_retired (f r.number))) (cond (begin.place_free t p) None (Some (record { why = Refusal.List; place = 1 }))) (record { why = Refusal.Retired; place = 2 }) w in
      let j : ℕ = lowest (λ i. is_none (s.places p i)) z.t1 in
      let low : j < z.t1 = ltb-true j z.t1 (pass (begin.place_free t p) None (record { why = Refusal.List; place = 1 }) w2).0 in
      let (i, iK, names) = named_here r (pass _ _ _ h).0 in
      let held = held_here r (pass _ _ _ h).0 in
      let holds = held_holds z y p pS pN s f a b g n r.number held in
      let small : r.number < 128 = held_within z y p pS pN s f a b g n r.number held in
      let m : Mine = mine a p in
      let many = y.t1 in
      let free : m.lists j ≡ None = sym (st.unscanned.named j) ∙ g.places p j pN ∙ is_none_num (s.places p j) (lowest_at (λ i. is_none (s.places p i)) z.t1 low) in
      let a0 : State = after_reset_scan shape a p in
      let a1 : State = after_retire a0 (place_number p j) r.number in
      let m1 : Mine = put_lists (upd m.lists j (Some r.number)) (rested m) in
      let me : mine a1 p ≡ m1 = ap (λ (x : ℕ → Option ℕ). put_lists x (mine a0 p)) (column_upd a.lists p j (Some r.number)) ∙ ap (put_lists (upd m.lists j (Some r.number))) (reset_mine a p pN) in
      let e : Entry = record { place = place j; node = r } in
      let n1 : Notes = with_note n (Note.Push e) in
      let short = st.short in
      let longer : Filed z.t1 (upd m.lists j (Some r.number)) (pushed n.list e) (length (pushed n.list e)) [] =
      subst (λ (x : List Entry). Filed z.t1 (upd m.lists j (Some r.number)) x (length x) []) (sym (pushed_snoc n.list e (omega arith))) (adds z.t1 m.lists n.list e st.unscanned.filed short low free) in
      let names_too : (x : ℕ) → upd m.place j (Some r.number) x ≡ upd m.lists j (Some r.number) x =
      λ x. elim (cases_eq j x) [
        | inl q ↦ upd_same m.place j (Some r.number) x q ∙ sym (upd_same m.lists j (Some r.number) x q)
        | inr q ↦ upd_other m.place j (Some r.number) x q ∙ st.unscanned.named x ∙ sym (upd_other m.lists j (Some r.number) x q)
      ] in
      let there : upd m.lists j (Some r.number) j ≡ Some r.number = upd_here m.lists j (Some r.number) in
      let settled0 : (x : ℕ) → x < 512 → x % 8 ≡ p → (a.phase x ≡ resting) ⊎ (a.phase x ≡ passed) = λ x l q.
      (let x8 : ℕ = x / 8 in let h8 : place_number p x8 ≡ x = omega arith in subst (λ (o : ℕ). (a.phase o ≡ resting) ⊎ (a.phase o ≡ passed)) h8 (st.unscanned.settled x8)) in
      sound_after t ok p pS s (set_standing f r.number Retired) (Some (begin_of (op.Delete r) (sight_in z s p) (s.places p) n).does) n1 t.pool
      (record {
        to = a1;
        moves = step.go (one_move shape a p a0 (step.reset_scan (ready_of a p k) settled0)) a1
            (step.retire (place_number p j) r.number holds (λ q. not_retired (f r.number) retired (sym (g.standings r.number) ∙ q)) (omega arith) (omega arith) free
            (record { ups = k.ups; clears = k.clears; downs = k.downs; stores = k.stores; hands = k.hands }));
        agrees = record { roots = g.roots; links = g.links; counts = g.counts; traces = g.traces; deleteds = g.deleteds; standings = one_word 128 a.standing f r.number Retired small g.standings; slots = g.slots; places = g.places; claims = g.claims; beyond = λ x l. upd_other a.standing r.number Retired x (λ q. omega arith) ∙ g.beyond x l; blank = g.blank };
        after = subst (λ (x : Mine). Owes z.each (AtPoint z n1 (begin_of (op.Delete r) (sight_in z s p) (s.places p) n).does.point) x (begin_of (op.Delete r) (sight_in z s p) (s.places p) n).does.owed) (sym me)
            (owes.release r (record { ups = k.ups; clears = k.clears; downs = k.downs; stores = k.stores; hands = k.hands }) (held_by m.slot m.held firm r.number) i iK names (λ x xK ex.
            owes.mark_deleted r j (record { below = omega arith; full = there; quiet = record { ups = k.ups; clears = k.clears; downs = k.downs; stores = k.stores; hands = k.hands } })
            (owes.reset_trace r j (record { below = omega arith; full = there; quiet = record { ups = k.ups; clears = k.clears; downs = k.downs; stores = k.stores; hands = k.hands } })
            (owes.clear_done (place j)
            (owes.fill_place (place j) r (record { below = omega arith; full = there; quiet = record { ups = k.ups; clears = k.clears; downs = k.downs; stores = k.stores; hands = k.hands } }) refl
            (owes.paid (round_point z y n1 (put_place (upd m.place j (Some r.number)) (put_slot (upd m.slot x None) (put_held (upd m.held x None) m1))) (sight_in z s p) refl
            (record {
              quiet = record { ups = k.ups; clears = k.clears; downs = k.downs; stores = k.stores; hands = k.hands };
              firm = firm_on m.slot m.held x None firm;
              unscanned = record { filed = longer; kept = st.unscanned.kept; unseen = st.unscanned.unseen; named = names_too; settled = λ o. inl refl };
              rests = λ o. refl;
              unread = refl;
              unseen = λ o. refl;
              claimless = st.claimless;
              rooms = two_rooms e0 x r.number (taken_below z y p pS pN s f a b g n x r.number ex) empty ex;
            }))))))));
      })
      (λ x q. let (u, l) = ok.fits.pooled x q in
      elim (put_tells 128 f r.number Retired x) [
        | inl (_, same, _) ↦ absurd (b.held.live holds.0 r.number holds.1 holds.3 (g.standings r.number ∙ ap f same ∙ u))
        | inr (o, _) ↦ (o ∙ u, l)
      ])
      (λ x l q. elim (put_tells 128 f r.number Retired x) [ inl (o, _, _) ↦ absurd (retired_not (sym o ∙ q)) | inr (o, _) ↦ ok.fits.complete x l (sym o ∙ q) ])

  begins : (o : Operation) → first_failing (begin.ranges z o) ≡ None → first_failing (begin.held t p o) ≡ None → first_failing (begin.standings_fit t p o) ≡ None → Follows t ok p (begun t p o)
  begins op.New e h w = begin_new w
  begins (op.Deref q) e h w = begin_deref q e h w
  begins (op.Release r) e h w = begin_release r h
  begins (op.Cas q o v) e h w = begin_cas q o v e h
  begins (op.Store c x v) e h w = begin_store c x v e h w
  begins (op.Delete r) e h w = begin_delete r h w

idle_none : (x : Option Plan) → begin.is_idle x ≡ true → x ≡ None
idle_none None e = refl
idle_none (Some w) e = absurd (false≢true e)

pub begin_sound : (t : Table) (ok : Sound t) → (p : ℕ) (o : Operation) → begin_refusal t p o ≡ None → Follows t ok p (begun t p o)
begin_sound t ok p o e =
    let c0 : Check = begin.check (ltb p t.sizes.stations) Refusal.Station 1 in
    let c1 : Check = begin.check (begin.is_idle (t.seats p).work) Refusal.Busy 1 in
    let rs : List Check = begin.ranges t.sizes o in
    let hs : List Check = begin.held t p o in
    let (x, w) = passes ((c0 ∷ rs) ++ (c1 ∷ hs)) (begin.standings_fit t p o) e in
    let (x0, x1) = passes (c0 ∷ rs) (c1 ∷ hs) x in
    let (inside, ranges) = pass c0.passes (first_failing rs) c0.refusal x0 in
    let (idle, helds) = pass c1.passes (first_failing hs) c1.refusal x1 in
    let pS : p < t.sizes.stations = ltb-true p t.sizes.stations inside in
    let rest : AtPoint t.sizes (t.seats p).notes (End Outcome.Done) (mine ok.state p) =
    subst (λ (i : Option Plan). Working t.sizes (t.seats p).notes (mine ok.state p) i) (idle_none (t.seats p).work idle) (ok.fits.seats p pS) in
    begins t ok p pS rest o ranges helds w
