-- The invariant put together again where only some words change: what has to be said anew in each case.
use Rattle.std.proofs.Common.{◌≡◌, ℕ, ◌<◌, Bool, true, false, ◌⊎◌, ℤ, Some, refl, inl, inr}
use Rattle.protocol.specs.Words.{Names}
use Rattle.protocol.specs.State.{State}
use Rattle.protocol.specs.Setters.{set_count, set_trace, set_deleted, set_slot, set_place, set_claims, set_held, set_owes_up, set_owes_clear, set_owes_down, set_hand, set_wiped, set_storing, set_known, set_saved, set_read, set_seen, set_claiming, set_valid}
use Rattle.protocol.specs.Shape.{Shape}
use Rattle.protocol.specs.Clauses.{Counted, Held, Marks, Owed, Saved, Claimed, Cover, Traced, Scanned, Unreferenced, Gone}
use Rattle.protocol.specs.Invariant.{Inv}
use Rattle.protocol.proofs.Traced.{traced_map, scanned_map}
use Rattle.protocol.proofs.Gone.{gone_map}

module _ (h : Shape) (s : State) (b : Inv h s) where
  -- The three clauses on marked and scanned records, which change together.
  pub record Three (names : Names) (trace' : ℕ → Bool) (owes_up owes_clear owes_down held : Names) : Type 0 where
    pub traced : Traced h names trace' owes_up owes_clear owes_down held s.lists s.phase
    pub scanned : Scanned h names trace' owes_up owes_clear owes_down held s.lists s.phase s.read s.seen
    pub gone : Gone h names owes_up owes_clear owes_down held s.lists s.phase

  -- Some place lists r.
  abbrev pub Listing : ℕ → Type 0
  Listing r = (w : ℕ) × (w < h.places) × (s.lists w ≡ Some r)

  -- They hold after a change under which no mark goes on, covers stay, and what is unreferenced stays so.
  pub three : {names : Names} {trace : ℕ → Bool} {owes_up owes_clear owes_down held : Names} →
      ((r : ℕ) → trace r ≡ true → s.trace r ≡ true) →
      ((k : ℕ) (n : Bool) (r : ℕ) → trace r ≡ true → (k ≡ 0) ⊎ Listing r →
      Cover h s.names s.owes_up s.owes_clear s.owes_down s.held k n r → Cover h names owes_up owes_clear owes_down held k n r) →
      ((r : ℕ) → Listing r → Unreferenced h s.names s.owes_up s.owes_clear s.owes_down s.held r → Unreferenced h names owes_up owes_clear owes_down held r) →
      Three names trace owes_up owes_clear owes_down held
  three f g k = record {
    traced = traced_map (λ r t. (f r t, g 0 false r t (inl refl))) b.traced;
    scanned = scanned_map (λ w r wW l t. (f r t, λ m n. g m n r t (inr (w, wW, l)))) b.scanned;
    gone = gone_map b.gone (λ w r wW l. k r (w, wW, l));
  }

  -- Slots and a hand change.
  pub with_slots : {slot held hand : Names} → Held h s.standing slot held hand → Marks h s.standing s.deleted hand s.wiped →
      Owed h s.standing held s.owes_up s.owes_clear s.owes_down → Saved h s.names s.standing held s.lists s.phase s.storing s.known s.saved →
      Three s.names s.trace s.owes_up s.owes_clear s.owes_down held → Inv h (set_slot slot (set_held held (set_hand hand s)))
  with_slots k m o v t = record {
    held = k;
    marks = m;
    owed = o;
    saved = v;
    traced = t.traced;
    scanned = t.scanned;
    gone = t.gone;
    counted = b.counted;
    named = b.named;
    listed = b.listed;
    claimed = b.claimed;
    cleared = b.cleared;
  }

  -- A debt is paid.
  pub with_debts : {count : ℕ → ℤ} {trace : ℕ → Bool} {owes_up owes_clear owes_down : Names} → Counted h s.names count owes_up owes_down →
      Owed h s.standing s.held owes_up owes_clear owes_down → Three s.names trace owes_up owes_clear owes_down s.held →
      Inv h (set_count count (set_trace trace (set_owes_up owes_up (set_owes_clear owes_clear (set_owes_down owes_down s)))))
  with_debts k o t = record {
    counted = k;
    owed = o;
    traced = t.traced;
    scanned = t.scanned;
    gone = t.gone;
    named = b.named;
    held = b.held;
    listed = b.listed;
    marks = b.marks;
    saved = b.saved;
    claimed = b.claimed;
    cleared = b.cleared;
  }

  -- Deleted marks change.
  pub with_marks : {deleted wiped : ℕ → Bool} → Marks h s.standing deleted s.hand wiped → Inv h (set_deleted deleted (set_wiped wiped s))
  with_marks k = record {
    marks = k;
    counted = b.counted;
    named = b.named;
    held = b.held;
    listed = b.listed;
    owed = b.owed;
    saved = b.saved;
    claimed = b.claimed;
    traced = b.traced;
    scanned = b.scanned;
    gone = b.gone;
    cleared = b.cleared;
  }

  -- What is about to be overwritten changes.
  pub with_saved : {storing saved : Names} {known : ℕ → Bool} → Saved h s.names s.standing s.held s.lists s.phase storing known saved →
      Inv h (set_storing storing (set_known known (set_saved saved s)))
  with_saved k = record {
    saved = k;
    counted = b.counted;
    named = b.named;
    held = b.held;
    listed = b.listed;
    marks = b.marks;
    owed = b.owed;
    claimed = b.claimed;
    traced = b.traced;
    scanned = b.scanned;
    gone = b.gone;
    cleared = b.cleared;
  }

  -- Places and claims change.
  pub with_claimed : {place : Names} {claims : ℕ → ℕ} {claiming valid : Names} → Claimed h s.lists s.phase place claims claiming valid →
      Inv h (set_place place (set_claims claims (set_claiming claiming (set_valid valid s))))
  with_claimed k = record {
    claimed = k;
    counted = b.counted;
    named = b.named;
    held = b.held;
    listed = b.listed;
    marks = b.marks;
    owed = b.owed;
    saved = b.saved;
    traced = b.traced;
    scanned = b.scanned;
    gone = b.gone;
    cleared = b.cleared;
  }

  -- Trace marks change, or what a scan has read.
  pub with_scanned : {trace : ℕ → Bool} {read : ℕ → ℕ} {seen : ℕ → ℕ → Bool} →
      Traced h s.names trace s.owes_up s.owes_clear s.owes_down s.held s.lists s.phase →
      Scanned h s.names trace s.owes_up s.owes_clear s.owes_down s.held s.lists s.phase read seen →
      Inv h (set_trace trace (set_read read (set_seen seen s)))
  with_scanned k l = record {
    traced = k;
    scanned = l;
    counted = b.counted;
    named = b.named;
    held = b.held;
    listed = b.listed;
    marks = b.marks;
    owed = b.owed;
    saved = b.saved;
    claimed = b.claimed;
    gone = b.gone;
    cleared = b.cleared;
  }
