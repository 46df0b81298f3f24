-- The shared words as functions from numbers, and one word changed.
use Rattle.std.specs.Prelude.{ℕ, Bool, false, cond, ℤ, pos, ◌+ℤ◌, Some, None, Option, replicate}
use Rattle.std.specs.Int.{saturate_to_bits}
use Rattle.terms.specs.declared.Record.{Record}
use Rattle.terms.specs.declared.Spot.{Spot}
use Rattle.terms.specs.declared.Spot.TheVariants as at
use Rattle.terms.specs.Words.{reads, cells, put, put_in, lowest, same_name}
use Rattle.memory.specs.declared.memory.Memory.{Memory}
use Rattle.memory.specs.declared.memory.RecordWords.{RecordWords}
use Rattle.memory.specs.declared.memory.PlaceWords.{PlaceWords}

pub record Shared : Type 0 where
  -- what each root names
  pub roots : ℕ → Option Record
  -- what each link of each record names
  pub links : ℕ → ℕ → Option Record
  -- the count, the trace mark and the deleted mark of each record
  pub counts : ℕ → ℤ
  pub traces : ℕ → Bool
  pub deleteds : ℕ → Bool
  -- what each slot of each station names
  pub slots : ℕ → ℕ → Option Record
  -- of each place of each station: what it names, its done mark, its claim number
  pub places : ℕ → ℕ → Option Record
  pub dones : ℕ → ℕ → Bool
  pub claims : ℕ → ℕ → ℕ

-- words of a record that are all none, zero and clear, and such words of a place, which are all but what it names
abbrev pub blank_record : RecordWords
blank_record = record { count = pos 0; trace = false; deleted = false; links = replicate 4 None }

abbrev pub blank_place : PlaceWords
blank_place = record { done = false; claims = 0 }

-- what a memory holds of each record, and of each place of each station
abbrev pub record_words : Memory → ℕ → RecordWords
record_words m = reads blank_record m.records

abbrev pub place_words : Memory → ℕ → ℕ → PlaceWords
place_words m = cells blank_place m.places

-- what a memory holds
abbrev pub view : Memory → Shared
view m = record {
  roots = reads None m.roots;
  links = λ r. reads None (record_words m r).links;
  counts = λ r. (record_words m r).count;
  traces = λ r. (record_words m r).trace;
  deleteds = λ r. (record_words m r).deleted;
  slots = cells None m.slots;
  places = cells None m.nodes;
  dones = λ p i. (place_words m p i).done;
  claims = λ p i. (place_words m p i).claims;
}

-- one kind of words anew, the others as they are
abbrev pub with_roots : Shared → (ℕ → Option Record) → Shared
with_roots s f = record { roots = f; links = s.links; counts = s.counts; traces = s.traces; deleteds = s.deleteds; slots = s.slots; places = s.places; dones = s.dones; claims = s.claims }

abbrev pub with_links : Shared → (ℕ → ℕ → Option Record) → Shared
with_links s f = record { roots = s.roots; links = f; counts = s.counts; traces = s.traces; deleteds = s.deleteds; slots = s.slots; places = s.places; dones = s.dones; claims = s.claims }

abbrev pub with_counts : Shared → (ℕ → ℤ) → Shared
with_counts s f = record { roots = s.roots; links = s.links; counts = f; traces = s.traces; deleteds = s.deleteds; slots = s.slots; places = s.places; dones = s.dones; claims = s.claims }

abbrev pub with_traces : Shared → (ℕ → Bool) → Shared
with_traces s f = record { roots = s.roots; links = s.links; counts = s.counts; traces = f; deleteds = s.deleteds; slots = s.slots; places = s.places; dones = s.dones; claims = s.claims }

abbrev pub with_deleteds : Shared → (ℕ → Bool) → Shared
with_deleteds s f = record { roots = s.roots; links = s.links; counts = s.counts; traces = s.traces; deleteds = f; slots = s.slots; places = s.places; dones = s.dones; claims = s.claims }

abbrev pub with_slots : Shared → (ℕ → ℕ → Option Record) → Shared
with_slots s f = record { roots = s.roots; links = s.links; counts = s.counts; traces = s.traces; deleteds = s.deleteds; slots = f; places = s.places; dones = s.dones; claims = s.claims }

abbrev pub with_places : Shared → (ℕ → ℕ → Option Record) → Shared
with_places s f = record { roots = s.roots; links = s.links; counts = s.counts; traces = s.traces; deleteds = s.deleteds; slots = s.slots; places = f; dones = s.dones; claims = s.claims }

abbrev pub with_dones : Shared → (ℕ → ℕ → Bool) → Shared
with_dones s f = record { roots = s.roots; links = s.links; counts = s.counts; traces = s.traces; deleteds = s.deleteds; slots = s.slots; places = s.places; dones = f; claims = s.claims }

abbrev pub with_claims : Shared → (ℕ → ℕ → ℕ) → Shared
with_claims s f = record { roots = s.roots; links = s.links; counts = s.counts; traces = s.traces; deleteds = s.deleteds; slots = s.slots; places = s.places; dones = s.dones; claims = f }

-- a new memory: all none, zero and clear
abbrev pub blank : Shared
blank = record {
  roots = λ _. None;
  links = λ _ _. None;
  counts = λ _. pos 0;
  traces = λ _. false;
  deleteds = λ _. false;
  slots = λ _ _. None;
  places = λ _ _. None;
  dones = λ _ _. false;
  claims = λ _ _. 0;
}

-- The limits of a table, which bound what is written: 8 stations with 8 slots and 64 places each,
-- 128 records with 4 links each, 16 roots.
abbrev pub set_root : Shared → ℕ → Option Record → Shared
set_root s g v = with_roots s (put 16 s.roots g v)

abbrev pub set_link : Shared → ℕ → ℕ → Option Record → Shared
set_link s r x v = with_links s (put_in 128 4 s.links r x v)

abbrev pub set_count : Shared → ℕ → ℤ → Shared
set_count s r z = with_counts s (put 128 s.counts r z)

abbrev pub set_trace : Shared → ℕ → Bool → Shared
set_trace s r b = with_traces s (put 128 s.traces r b)

abbrev pub set_deleted : Shared → ℕ → Bool → Shared
set_deleted s r b = with_deleteds s (put 128 s.deleteds r b)

abbrev pub set_slot : Shared → ℕ → ℕ → Option Record → Shared
set_slot s p i v = with_slots s (put_in 8 8 s.slots p i v)

abbrev pub set_place : Shared → ℕ → ℕ → Option Record → Shared
set_place s p i v = with_places s (put_in 8 64 s.places p i v)

abbrev pub set_done : Shared → ℕ → ℕ → Bool → Shared
set_done s p i b = with_dones s (put_in 8 64 s.dones p i b)

abbrev pub set_claims : Shared → ℕ → ℕ → ℕ → Shared
set_claims s p i n = with_claims s (put_in 8 64 s.claims p i n)

-- all words of a record written at once, and all words of a place but what it names
abbrev pub set_record_words : Shared → ℕ → RecordWords → Shared
set_record_words s r w = record {
  roots = s.roots;
  links = put 128 s.links r (reads None w.links);
  counts = put 128 s.counts r w.count;
  traces = put 128 s.traces r w.trace;
  deleteds = put 128 s.deleteds r w.deleted;
  slots = s.slots;
  places = s.places;
  dones = s.dones;
  claims = s.claims;
}

abbrev pub set_place_words : Shared → ℕ → ℕ → PlaceWords → Shared
set_place_words s p i w = record {
  roots = s.roots;
  links = s.links;
  counts = s.counts;
  traces = s.traces;
  deleteds = s.deleteds;
  slots = s.slots;
  places = s.places;
  dones = put_in 8 64 s.dones p i w.done;
  claims = put_in 8 64 s.claims p i w.claims;
}

-- a count, more by d; it has 16 bits, and every count of a run stays far inside them
abbrev pub add_count : Shared → ℕ → ℤ → Shared
add_count s r d = set_count s r (saturate_to_bits 15 (s.counts r +ℤ d))

-- what a spot names
abbrev pub name_at : Shared → Spot → Option Record
name_at s (at.Root g) = s.roots g.index
name_at s (at.Link r x) = s.links r.number x.index

abbrev pub set_name : Shared → Spot → Option Record → Shared
set_name s (at.Root g) v = set_root s g.index v
set_name s (at.Link r x) v = set_link s r.number x.index v

-- whether a swap from old would write, and what it leaves
abbrev pub swap_answer : Shared → Spot → Option Record → Bool
swap_answer s q old = same_name (name_at s q) old

abbrev pub swapped : Shared → Spot → Option Record → Option Record → Shared
swapped s q old new = cond (swap_answer s q old) (set_name s q new) s

-- the lowest slot of a station that names r, or 8 where none does
abbrev pub lowest_naming : (ℕ → Option Record) → Record → ℕ
lowest_naming slots r = lowest (λ i. same_name (slots i) (Some r)) 8

-- that slot emptied
abbrev pub released : Shared → ℕ → Record → Shared
released s p r = set_slot s p (lowest_naming (s.slots p) r) None
