-- Words that are written together are each of them written, and one word that differs from what stands there is that word written.
use Rattle.std.proofs.Common.{◌≡◌, ℕ, ℤ, Bool, true, false, cond, ◌==◌, ◌&&◌, nat_lt, refl, ap, ◌∙◌, inl, inr, None, Option, List}
use mathlib.Core.Path.{fun_ext}
use Rattle.terms.specs.declared.Record.{Record}
use Rattle.terms.specs.Words.{reads, cells, put, put_in}
use Rattle.terms.proofs.Puts.{put_tells, reads_replicate}
use Rattle.memory.specs.declared.memory.Memory.{Memory}
use Rattle.memory.specs.declared.memory.RecordWords.{RecordWords}
use Rattle.memory.specs.declared.memory.PlaceWords.{PlaceWords}
use Rattle.memory.specs.Shared.{Shared, view, blank, blank_record, blank_place, record_words, place_words, set_record_words, set_place_words, set_count, set_trace, set_deleted, set_link, set_done, set_claims}

-- A part of what is written is that part written.
pub put_map : {A B : Type 0} (g : A → B) (n : ℕ) (f : ℕ → A) (i : ℕ) (v : A) → ◌≡◌ {A = ℕ → B} (λ j. g (put n f i v j)) (put n (λ j. g (f j)) i (g v))
unfolding put
put_map g n f i v = fun_ext (λ j. go j (i == j && nat_lt i n))
  where
    go : (j : ℕ) (b : Bool) → g (cond b v (f j)) ≡ cond b (g v) (g (f j))
    go j true = refl
    go j false = refl

-- What stands there already changes nothing.
pub put_kept : {A : Type 0} (n : ℕ) (f : ℕ → A) (i : ℕ) → ◌≡◌ {A = ℕ → A} (put n f i (f i)) f
put_kept n f i = fun_ext (λ j. elim (put_tells n f i (f i) j) [
  | inl (p, t, h) ↦ p ∙ ap f t
  | inr (p, k) ↦ p
])

-- The same of rows.
pub put_in_map : {A B : Type 0} (g : A → B) (h w : ℕ) (f : ℕ → ℕ → A) (i x : ℕ) (v : A) → ◌≡◌ {A = ℕ → ℕ → B} (λ j y. g (put_in h w f i x v j y)) (put_in h w (λ j y. g (f j y)) i x (g v))
unfolding put_in
put_in_map {A = A} {B = B} g h w f i x v =
    put_map {B = ℕ → B} (λ (row : ℕ → A) y. g (row y)) h f i (put w (f i) x v) ∙ ap (λ (row : ℕ → B). put h (λ j y. g (f j y)) i row) (put_map g w (f i) x v)

pub put_in_kept : {A : Type 0} (h w : ℕ) (f : ℕ → ℕ → A) (i x : ℕ) → ◌≡◌ {A = ℕ → ℕ → A} (put_in h w f i x (f i x)) f
unfolding put_in
put_in_kept {A = A} h w f i x = ap (λ (row : ℕ → A). put h f i row) (put_kept w (f i) x) ∙ put_kept {A = ℕ → A} h f i

-- What is shared where the records read as h.
abbrev over_records : Shared → (ℕ → RecordWords) → Shared
over_records s h = record {
  roots = s.roots;
  links = λ r. reads None (h r).links;
  counts = λ r. (h r).count;
  traces = λ r. (h r).trace;
  deleteds = λ r. (h r).deleted;
  slots = s.slots;
  places = s.places;
  dones = s.dones;
  claims = s.claims;
}

-- The words of a record written at once.
pub record_words_put : (m : Memory) (n r : ℕ) (w : RecordWords) (words : List RecordWords) → n ≡ 128 →
    ◌≡◌ {A = ℕ → RecordWords} (reads blank_record words) (put n (record_words m) r w) →
    view (record { roots = m.roots; records = words; slots = m.slots; nodes = m.nodes; places = m.places }) ≡ set_record_words (view m) r w
record_words_put m n r w words k e =
    let h : ℕ → RecordWords = record_words m in
    let a = ap (over_records (view m)) e in
    let links = put_map {B = ℕ → Option Record} (λ x. reads None x.links) 128 h r w in
    let counts = put_map (λ x. x.count) 128 h r w in
    let traces = put_map (λ x. x.trace) 128 h r w in
    let deleteds = put_map (λ x. x.deleted) 128 h r w in
    rw k at a ∙ (cc)

-- One of them written.
pub count_put : (m : Memory) (r : ℕ) (w : RecordWords) (z : ℤ) → w ≡ record_words m r →
    set_record_words (view m) r (record { count = z; trace = w.trace; deleted = w.deleted; links = w.links }) ≡ set_count (view m) r z
count_put m r w z e = rw e
    (let links = put_kept {A = ℕ → Option Record} 128 (view m).links r in
    let traces = put_kept 128 (view m).traces r in
    let deleteds = put_kept 128 (view m).deleteds r in
    cc)

pub trace_put : (m : Memory) (r : ℕ) (w : RecordWords) (b : Bool) → w ≡ record_words m r →
    set_record_words (view m) r (record { count = w.count; trace = b; deleted = w.deleted; links = w.links }) ≡ set_trace (view m) r b
trace_put m r w b e = rw e
    (let links = put_kept {A = ℕ → Option Record} 128 (view m).links r in
    let counts = put_kept 128 (view m).counts r in
    let deleteds = put_kept 128 (view m).deleteds r in
    cc)

pub deleted_put : (m : Memory) (r : ℕ) (w : RecordWords) (b : Bool) → w ≡ record_words m r →
    set_record_words (view m) r (record { count = w.count; trace = w.trace; deleted = b; links = w.links }) ≡ set_deleted (view m) r b
deleted_put m r w b e = rw e
    (let links = put_kept {A = ℕ → Option Record} 128 (view m).links r in
    let counts = put_kept 128 (view m).counts r in
    let traces = put_kept 128 (view m).traces r in
    cc)

pub link_put : (m : Memory) (n r x : ℕ) (v : Option Record) (w : RecordWords) (names : List (Option Record)) → n ≡ 4 →
    ◌≡◌ {A = ℕ → Option Record} (reads None names) (put n (reads None w.links) x v) → w ≡ record_words m r →
    set_record_words (view m) r (record { count = w.count; trace = w.trace; deleted = w.deleted; links = names }) ≡ set_link (view m) r x v
unfolding put_in
link_put m n r x v w names k p e =
    let q = rw (k, e) at p in
    rw e
    (let counts = put_kept 128 (view m).counts r in
    let traces = put_kept 128 (view m).traces r in
    let deleteds = put_kept 128 (view m).deleteds r in
    cc)

-- What is shared where the places read as h.
abbrev over_places : Shared → (ℕ → ℕ → PlaceWords) → Shared
over_places s h = record {
  roots = s.roots;
  links = s.links;
  counts = s.counts;
  traces = s.traces;
  deleteds = s.deleteds;
  slots = s.slots;
  places = s.places;
  dones = λ p i. (h p i).done;
  claims = λ p i. (h p i).claims;
}

-- The words of a place written at once.
pub place_words_put : (m : Memory) (n p i : ℕ) (w : PlaceWords) (words : List (List PlaceWords)) → n ≡ 8 →
    ◌≡◌ {A = ℕ → ℕ → PlaceWords} (cells blank_place words) (put_in n 64 (place_words m) p i w) →
    view (record { roots = m.roots; records = m.records; slots = m.slots; nodes = m.nodes; places = words }) ≡ set_place_words (view m) p i w
place_words_put m n p i w words k e =
    let h : ℕ → ℕ → PlaceWords = place_words m in
    let a = ap (over_places (view m)) e in
    let dones = put_in_map (λ x. x.done) 8 64 h p i w in
    let claims = put_in_map (λ x. x.claims) 8 64 h p i w in
    rw k at a ∙ (cc)

-- One of them written.
pub done_put : (m : Memory) (p i : ℕ) (w : PlaceWords) (b : Bool) → w ≡ place_words m p i →
    set_place_words (view m) p i (record { done = b; claims = w.claims }) ≡ set_done (view m) p i b
done_put m p i w b e = rw e
    (let claims = put_in_kept 8 64 (view m).claims p i in
    cc)

pub claims_put : (m : Memory) (p i : ℕ) (w : PlaceWords) (n : ℕ) → w ≡ place_words m p i →
    set_place_words (view m) p i (record { done = w.done; claims = n }) ≡ set_claims (view m) p i n
claims_put m p i w n e = rw e
    (let dones = put_in_kept 8 64 (view m).dones p i in
    cc)

-- A memory whose words are all blank.
pub all_blank : (roots : List (Option Record)) (records : List RecordWords) (slots nodes : List (List (Option Record))) (places : List (List PlaceWords)) →
    ◌≡◌ {A = ℕ → Option Record} (reads None roots) (λ _. None) → ◌≡◌ {A = ℕ → RecordWords} (reads blank_record records) (λ _. blank_record) →
    ◌≡◌ {A = ℕ → ℕ → Option Record} (cells None slots) (λ _ _. None) → ◌≡◌ {A = ℕ → ℕ → Option Record} (cells None nodes) (λ _ _. None) →
    ◌≡◌ {A = ℕ → ℕ → PlaceWords} (cells blank_place places) (λ _ _. blank_place) →
    view (record { roots = roots; records = records; slots = slots; nodes = nodes; places = places }) ≡ blank
all_blank roots records slots nodes places a b c e d =
    let s = view (record { roots = roots; records = records; slots = slots; nodes = nodes; places = places }) in
    ap (over_records s) b ∙ ap (over_places (over_records s (λ _. blank_record))) d ∙ simp (a, c, e, reads_replicate)

pub ruleset one_word_put = (count_put, trace_put, deleted_put, done_put, claims_put)
