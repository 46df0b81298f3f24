-- What a spot names, and a name written into it.
use Rattle.std.proofs.Common.{◌≡◌, ℕ, ◌<◌, ◌≤◌, List, [], ◌++◌, Some, None, Option, sym, refl, ap, ◌∙◌, inl, inr, arith}
use Rattle.terms.specs.declared.Record.{Record}
use Rattle.terms.specs.declared.Spot.{Spot}
use Rattle.terms.specs.declared.Spot.TheVariants as at
use Rattle.terms.specs.declared.Standing.{Standing}
use Rattle.terms.specs.declared.Standing.TheVariants.{Pooled}
use Rattle.terms.proofs.Puts.{put_tells}
use Rattle.memory.specs.declared.access.Write.{Write}
use Rattle.memory.specs.Shared.{Shared, name_at, set_name}
use Rattle.terms.specs.Words.{once_named}
use Rattle.memory.specs.Standings.{named}
use Rattle.work.specs.Steps.{counts_of}
use Rattle.machine.specs.Tables.{Sizes}
use Rattle.protocol.specs.Words.{upd}
use Rattle.protocol.specs.State.{State}
use Rattle.protocol.specs.Shape.{linking}
use Rattle.protocol.specs.Effects.{after_write}
use Rattle.protocol.proofs.Words.{upd_same, upd_other, linking_tells}
use Rattle.laws.specs.Numbers.{link_number, spot_number, owner_of, owner_tells}
use Rattle.laws.specs.Agree.{Agrees, num}
use Rattle.laws.specs.Mine.{Mine, mine, put_owes_up, put_owes_clear, put_owes_down, put_storing}
use Rattle.laws.specs.Owes as owes
use Rattle.laws.specs.Owes.{Owes}
use Rattle.laws.proofs.Rows.{upd_here}
use Rattle.laws.proofs.Words.{one_cell}

-- a spot that is one of the table's
abbrev pub Spotted : Spot → Type 0
Spotted (at.Root g) = g.index < 16
Spotted (at.Link r x) = (r.number < 128) × (x.index < 4)

pub spotted_below : (q : Spot) → Spotted q → spot_number q < 528
spotted_below (at.Root g) l = omega arith
spotted_below (at.Link r x) (l, k) = omega arith

pub root_owner : (g : ℕ) → g < 16 → owner_of g ≡ None
root_owner g l = elim (owner_tells g) [ inl (e, _) ↦ e | inr (_, k) ↦ absurd (omega arith) ]

pub link_owner : (r x : ℕ) → x < 4 → owner_of (link_number r x) ≡ Some r
link_owner r x l = elim (owner_tells (link_number r x)) [
  | inl (_, k) ↦ absurd (omega arith)
  | inr (e, k) ↦ e ∙ ap Some (omega arith)
]

module _ (z : Sizes) (s : Shared) (f : ℕ → Standing) (a : State) (g : Agrees z s f a) where
  pub spot_names : (q : Spot) → Spotted q → a.names (spot_number q) ≡ num (name_at s q)
  spot_names (at.Root i) l = g.roots i.index l
  spot_names (at.Link r x) (l, k) = g.links r.number x.index k

  set_roots : (q : Spot) → Spotted q → (v : Option Record) → (i : ℕ) → i < 16 → upd a.names (spot_number q) (num v) i ≡ num ((set_name s q v).roots i)
  set_roots (at.Root j) l v i k = elim (put_tells 16 s.roots j.index v i) [
    | inl (e, y, _) ↦ upd_same a.names j.index (num v) i y ∙ sym (ap num e)
    | inr (e, d) ↦ upd_other a.names j.index (num v) i (λ y. d y l) ∙ g.roots i k ∙ sym (ap num e)
  ]
  set_roots (at.Link r x) (l, m) v i k = upd_other a.names (link_number r.number x.index) (num v) i (λ y. omega arith) ∙ g.roots i k

  set_links : (q : Spot) → Spotted q → (v : Option Record) → (i k : ℕ) → k < 4 → upd a.names (spot_number q) (num v) (link_number i k) ≡ num ((set_name s q v).links i k)
  set_links (at.Root j) l v i k m = upd_other a.names j.index (num v) (link_number i k) (λ y. omega arith) ∙ g.links i k m
  set_links (at.Link r x) (l, h) v i k m =
      one_cell num link_number 128 4 a.names s.links r.number x.index v l h i k (λ y. (omega arith, omega arith)) (g.links i k m)

  set_standings : (v : Option Record) → ((r : ℕ) → num v ≡ Some r → r < 128) → (j : ℕ) → linking (num v) a.standing j ≡ named f v j
  unfolding linking
  set_standings None h j = g.standings j
  set_standings (Some r) h j = elim (put_tells 128 f r.number (once_named (f r.number)) j) [
    | inl (e, y, _) ↦ upd_same a.standing r.number (once_named (a.standing r.number)) j y ∙ ap once_named (g.standings r.number) ∙ sym e
    | inr (e, d) ↦ upd_other a.standing r.number (once_named (a.standing r.number)) j (λ y. d y (h r.number refl)) ∙ g.standings j ∙ sym e
  ]

  set_beyond : (v : Option Record) → ((r : ℕ) → num v ≡ Some r → r < 128) → (j : ℕ) → 128 ≤ j → linking (num v) a.standing j ≡ Pooled
  set_beyond v h j l = elim (linking_tells (num v) a.standing j) [
    | inl (_, e) ↦ let k = h j e in absurd (omega arith)
    | inr (e, _) ↦ e ∙ g.beyond j l
  ]

  -- the words after a write of a name into a spot
  pub write_agrees : (p : ℕ) (q : Spot) → Spotted q → (o : Option ℕ) (v : Option Record) → ((r : ℕ) → num v ≡ Some r → r < 128) →
      Agrees z (set_name s q v) (named f v) (after_write a p (spot_number q) o (num v))
  write_agrees p (at.Root j) l o v h = record { roots = set_roots (at.Root j) l v; links = set_links (at.Root j) l v; counts = g.counts; traces = g.traces; deleteds = g.deleteds; standings = set_standings v h; slots = g.slots; places = g.places; claims = g.claims; beyond = set_beyond v h; blank = g.blank }
  write_agrees p (at.Link r x) l o v h = record { roots = set_roots (at.Link r x) l v; links = set_links (at.Link r x) l v; counts = g.counts; traces = g.traces; deleteds = g.deleteds; standings = set_standings v h; slots = g.slots; places = g.places; claims = g.claims; beyond = set_beyond v h; blank = g.blank }

-- what the station owes then
abbrev pub wrote : Mine → (new old : Option ℕ) → Mine
wrote m new old = put_owes_up new (put_owes_clear new (put_owes_down old (put_storing None m)))

pub write_mine : (a : State) (p q : ℕ) (o n : Option ℕ) → mine (after_write a p q o n) p ≡ wrote (mine a p) n o
write_mine a p q o n = rw (upd_here a.owes_up p n, upd_here a.owes_clear p n, upd_here a.owes_down p o, upd_here a.storing p None)

-- And what it owes then is right, if the rest is.
pub counts_owed : {each : ℕ} {At : Mine → Type 0} (m : Mine) (new old : Option Record) (ws : List Write) → Owes each At (wrote m None None) ws →
    Owes each At (wrote m (num new) (num old)) (counts_of new old ++ ws)
counts_owed m None None ws k = k
counts_owed m None (Some o) ws k = owes.lower_count o refl k
counts_owed m (Some n) None ws k = owes.raise_count n refl (owes.clear_trace n refl refl k)
counts_owed m (Some n) (Some o) ws k = owes.raise_count n refl (owes.clear_trace n refl refl (owes.lower_count o refl k))

pub counts_ended : {each : ℕ} {At : Mine → Type 0} (m : Mine) (new old : Option Record) → Owes each At (wrote m None None) [] → Owes each At (wrote m (num new) (num old)) (counts_of new old)
counts_ended m None None k = k
counts_ended m None (Some o) k = owes.lower_count o refl k
counts_ended m (Some n) None k = owes.raise_count n refl (owes.clear_trace n refl refl k)
counts_ended m (Some n) (Some o) k = owes.raise_count n refl (owes.clear_trace n refl refl (owes.lower_count o refl k))
