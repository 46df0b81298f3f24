-- Who may write a link: one station while it is about to be overwritten, nobody while its record is given back.
use Rattle.std.proofs.Common.{◌≡◌, ℕ, ◌<◌, Bool, true, false, ◌⊎◌, Some, None, Option, sym, ap, ◌∙◌, subst, inl, inr, arith}
use Rattle.terms.specs.declared.Standing.{Standing}
use Rattle.terms.specs.declared.Standing.TheVariants.{Pooled, Fresh, Retired}
use Rattle.protocol.specs.Words.{upd, Names}
use Rattle.protocol.specs.State.{State, Phase, giving}
use Rattle.protocol.specs.Shape.{Shape, Holds, Carries, linking, through}
use Rattle.protocol.specs.Clauses.{SoleWriter, making, giving_back, Saved, Cleared, Unreferenced}
use Rattle.protocol.specs.Invariant.{Inv}
use Rattle.protocol.specs.Steps.{Reach, root, holding, listing, claimed}
use Rattle.protocol.proofs.Words.{upd_tells, upd_other, none_some, linking_tells}

-- p alone may write the links of r, in the state s.
abbrev pub SoleWriterIn : Shape → State → ℕ → ℕ → Type 0
SoleWriterIn h s p r = SoleWriter h s.standing s.held s.lists s.phase p r

module _ (h : Shape) (s : State) (b : Inv h s) where
  -- A record that is given back is lost.
  pub unreferenced_at : (w r : ℕ) → w < h.places → s.phase w ≡ giving → s.lists w ≡ Some r → Unreferenced h s.names s.owes_up s.owes_clear s.owes_down s.held r
  unreferenced_at w r wW e l = b.gone.unreferenced w r wW (ap through e) l

  -- What is carried is not pooled.
  pub carried_live : (p : ℕ) (n : Option ℕ) → Carries h s.held p n → (r : ℕ) → n ≡ Some r → s.standing r ≡ Pooled → ⊥
  carried_live p n g r e z = let (c, cK, o, l) = g r e in b.held.live c r cK l z

  module _ (p q r : ℕ) (pN : p < h.stations) (own : h.owner q ≡ Some r) where
    pub reach_giving : Reach h s p q → (w : ℕ) → w < h.places → s.phase w ≡ giving → s.lists w ≡ Some r → ⊥
    reach_giving (root z) w wW g l = none_some (sym z ∙ own)
    reach_giving (holding a e (c, cK, o, y)) w wW g l = (unreferenced_at w r wW g l).slots c cK (y ∙ sym e ∙ own)
    reach_giving (listing v a e vW o y n) w wW g l = n (ap s.phase (b.listed.once v w r vW wW (y ∙ sym e ∙ own) l) ∙ g)
    reach_giving (claimed a e y) w wW g l =
        let (v, vW, x, z, n) = b.claimed.listed p r pN (y ∙ sym e ∙ own) in
        n (ap s.phase (b.listed.once v w r vW wW z l) ∙ g)

    pub reach_standing : Reach h s p q → (s.standing r ≡ Retired) ⊎ Holds h s.held p r
    reach_standing (root z) = absurd (none_some (sym z ∙ own))
    reach_standing (holding a e (c, cK, o, y)) = inr (c, cK, o, y ∙ sym e ∙ own)
    reach_standing (listing v a e vW o y n) = inl (b.listed.retired v r vW (y ∙ sym e ∙ own))
    reach_standing (claimed a e y) =
        let (v, vW, x, z, n) = b.claimed.listed p r pN (y ∙ sym e ∙ own) in
        inl (b.listed.retired v r vW z)

    -- Where another may write alone, p has no reach.
    pub reach_sole : Reach h s p q → (z : ℕ) → SoleWriterIn h s z r → p ≡ z
    reach_sole g z (giving_back w wW o y e) = absurd (reach_giving g w wW e y)
    reach_sole g z (making f (i, iK, u, x)) = elim (reach_standing g) [
      | inl y ↦ absurd (grind arith)
      | inr (c, cK, o, y) ↦ sym o ∙ b.held.alone c i r cK iK y x f ∙ u
    ]

  pub sole_sole : (r y z : ℕ) → SoleWriterIn h s y r → SoleWriterIn h s z r → y ≡ z
  sole_sole r y z (making f (i, iK, u, x)) (making g (j, jK, v, t)) = sym u ∙ b.held.alone i j r iK jK x t f ∙ v
  sole_sole r y z (making f k) (giving_back w wW o l e) = let t = b.listed.retired w r wW l in absurd (grind arith)
  sole_sole r y z (giving_back w wW o l e) (making f k) = let t = b.listed.retired w r wW l in absurd (grind arith)
  sole_sole r y z (giving_back v vW o l e) (giving_back w wW u m f) = sym o ∙ ap h.ofp (b.listed.once v w r vW wW l m) ∙ u

  -- p writes q, whom nobody else can be in the way of.
  module _ (p q : ℕ) (n : Option ℕ) (g : Carries h s.held p n) where
    pub saved_write : ((z r : ℕ) → h.owner q ≡ Some r → SoleWriterIn h s z r → p ≡ z) →
        Saved h (upd s.names q n) (linking n s.standing) s.held s.lists s.phase (upd s.storing p None) s.known s.saved
    saved_write f = record {
      save = λ z i zN e. elim (upd_tells s.storing p None z) [
        | inl (x, y) ↦ absurd (none_some (sym x ∙ e))
        | inr (x, y) ↦
            let k = b.saved.save z i zN (sym x ∙ e) in
            record {
              below = k.below;
              container = k.container;
              link = k.link;
              sole = sole z k.container y k.sole;
              same = λ kn. upd_other s.names q n i (λ t. y (f z k.container (ap h.owner t ∙ k.link) k.sole)) ∙ k.same kn;
            }
      ];
    }
      where
        sole : (z r : ℕ) → (p ≡ z → ⊥) → SoleWriterIn h s z r → SoleWriter h (linking n s.standing) s.held s.lists s.phase z r
        sole z r y (giving_back w wW o l e) = giving_back w wW o l e
        sole z r y (making t (c, cK, o, x)) = making (elim (linking_tells n s.standing r) [
          | inl (u, v) ↦ let (j, jK, i, l) = g r v in absurd (y (sym i ∙ b.held.alone j c r jK cK l x t ∙ o))
          | inr (u, v) ↦ u ∙ t
        ]) (c, cK, o, x)

    pub cleared_write : ((w r : ℕ) → w < h.places → s.phase w ≡ giving → s.lists w ≡ Some r → h.owner q ≡ Some r → ⊥) →
        Cleared h (upd s.names q n) s.lists s.phase s.low
    cleared_write f = record {
      none = λ w r i wW e l iQ o k.
          upd_other s.names q n i (λ t. f w r wW e l (ap h.owner t ∙ o)) ∙ b.cleared.none w r i wW e l iQ o k;
    }

-- Where standings, slots, lists or phases change.
module _ {h : Shape} {names : Names} {standing : ℕ → Standing} {held lists : Names} {phase : ℕ → Phase} {storing : Names} {known : ℕ → Bool} {saved : Names}
    (b : Saved h names standing held lists phase storing known saved) where
  pub saved_map : {standing' : ℕ → Standing} {held' lists' : Names} {phase' : ℕ → Phase} →
      ((z q r : ℕ) → z < h.stations → storing z ≡ Some q → SoleWriter h standing held lists phase z r → SoleWriter h standing' held' lists' phase' z r) →
      Saved h names standing' held' lists' phase' storing known saved
  saved_map f = record {
    save = λ z i zN e.
        let k = b.save z i zN e in
        record { below = k.below; container = k.container; link = k.link; sole = f z i k.container zN e k.sole; same = k.same };
  }

  pub saved_begin : (p q r : ℕ) → q < h.spots → h.owner q ≡ Some r → SoleWriter h standing held lists phase p r →
      Saved h names standing held lists phase (upd storing p (Some q)) (upd known p false) saved
  saved_begin p q r qQ d g = record {
    save = λ z i zN e. elim (upd_tells storing p (Some q) z) [
      | inl (x, y) ↦
          let j : q ≡ i = grind arith in
          record {
            below = subst (λ k. k < h.spots) j qQ;
            container = r;
            link = ap h.owner (sym j) ∙ d;
            sole = subst (λ k. SoleWriter h standing held lists phase k r) y g;
            same = λ kn. absurd (grind (arith, upd_tells));
          }
      | inr (x, y) ↦ rw (upd_other known p false z y) (b.save z i zN (sym x ∙ e))
    ];
  }

  pub saved_read : (p q : ℕ) (o : Option ℕ) → storing p ≡ Some q → names q ≡ o → Saved h names standing held lists phase storing (upd known p true) (upd saved p o)
  saved_read p q o u v = record {
    save = λ z i zN e.
        let k = b.save z i zN e in
        record { below = k.below; container = k.container; link = k.link; sole = k.sole; same = λ kn. grind (arith, upd_tells, k.same) };
  }

  -- Only places of p change, and p is about to overwrite nothing.
  pub saved_place : (p : ℕ) → storing p ≡ None → {lists' : Names} {phase' : ℕ → Phase} →
      ((w : ℕ) → w < h.places → (h.ofp w ≡ p → ⊥) → (lists' w ≡ lists w) × (phase' w ≡ phase w)) → Saved h names standing held lists' phase' storing known saved
  saved_place p e {lists'} {phase'} f = saved_map sole
    where
      sole : (z q r : ℕ) → z < h.stations → storing z ≡ Some q → SoleWriter h standing held lists phase z r → SoleWriter h standing held lists' phase' z r
      sole z q r zN d (making t k) = making t k
      sole z q r zN d (giving_back w wW o l g) =
          let (y, x) = f w wW (λ t. none_some (sym e ∙ ap storing (sym t ∙ o) ∙ d)) in giving_back w wW o (y ∙ l) (x ∙ g)

  -- A slot of p changes: it held nothing, or p is about to overwrite nothing.
  pub saved_slot : (p c : ℕ) (v : Option ℕ) → h.of c ≡ p → (held c ≡ None) ⊎ (storing p ≡ None) → Saved h names standing (upd held c v) lists phase storing known saved
  saved_slot p c v o g = saved_map sole
    where
      sole : (z q r : ℕ) → z < h.stations → storing z ≡ Some q → SoleWriter h standing held lists phase z r → SoleWriter h standing (upd held c v) lists phase z r
      sole z q r zN d (making t (i, iK, u, x)) = making t (i, iK, u, grind (arith, upd_tells))
      sole z q r zN d (giving_back w wW u l e) = giving_back w wW u l e

  -- A standing changes, but not of a fresh record whose holder is about to overwrite one of its links.
  pub saved_standing : (r : ℕ) (t : Standing) → ((z q : ℕ) → z < h.stations → storing z ≡ Some q → Holds h held z r → standing r ≡ Fresh → ⊥) → Saved h names (upd standing r t) held lists phase storing known saved
  saved_standing r t f = saved_map sole
    where
      sole : (z q a : ℕ) → z < h.stations → storing z ≡ Some q → SoleWriter h standing held lists phase z a → SoleWriter h (upd standing r t) held lists phase z a
      sole z q a zN d (making e k) = making (upd_other standing r t a (λ y. f z q zN d (subst (λ i. Holds h held z i) (sym y) k) (ap standing y ∙ e)) ∙ e) k
      sole z q a zN d (giving_back w wW o l e) = giving_back w wW o l e

pub cleared_place : {h : Shape} {names lists : Names} {phase : ℕ → Phase} {low : ℕ → ℕ} → Cleared h names lists phase low → {lists' : Names} {phase' : ℕ → Phase} {low' : ℕ → ℕ} →
    ((w r : ℕ) → w < h.places → phase' w ≡ giving → lists' w ≡ Some r → ((phase w ≡ giving) × (lists w ≡ Some r) × (low' w ≡ low w)) ⊎ (low' w ≡ 0)) → Cleared h names lists' phase' low'
cleared_place b f = record {
  none = λ w r q wW e l qQ o k. elim (f w r wW e l) [
    | inl (x, y, z) ↦ b.none w r q wW x y qQ o (rw z at k)
    | inr z ↦ absurd (omega arith)
  ];
}
