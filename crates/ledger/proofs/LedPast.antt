-- The run in which a link is led past a withdrawn record: each ledger by name.
use Rattle.std.proofs.Common.{ℕ, true, ◌∷◌, Some, None, refl, arith, lit<}
use Rattle.terms.specs.declared.Spot.TheVariants.{Root, Link}
use Rattle.terms.specs.declared.Standing.TheVariants.{Pooled, Fresh}
use Rattle.terms.specs.declared.Operation.{Operation}
use Rattle.terms.specs.declared.Operation.TheVariants.{New, Deref, Cas, Store, Delete}
use Rattle.terms.specs.declared.Outcome.{Outcome}
use Rattle.terms.specs.declared.Outcome.TheVariants.{Found, Swapped, Done}
use Rattle.ledger.specs.Ledger.{Sizes, Ledger, opening, with_standing, hold, let_go, write, retire, Allows, Unnamed, OutOfUse, NamesNothing, Permits, lead, clear, return}
use Rattle.ledger.specs.Explains.{Run, begins, ends}
use Rattle.ledger.specs.Examples.{chain, station, numbered, top, only, LedPastIsExplained}
use Rattle.ledger.proofs.Quiet.{Quiet, quiet_start, quiet_silent, quiet_whole, quiet_explained}

abbrev sizes : Sizes
sizes = chain 1 3

-- What NEW and DELETE of station 0 leave.
abbrev new : Ledger → ℕ → Ledger
new l n = hold (with_standing l (numbered n) Fresh) (station 0) (Some (numbered n))

abbrev delete : Ledger → ℕ → Ledger
delete l n = retire (let_go l (station 0) (numbered n)) (numbered n)

-- Records 0, 1 and 2 are made.
abbrev one : Ledger
one = new opening 0

abbrev two : Ledger
two = new one 1

abbrev three : Ledger
three = new two 2

-- 1 links to 2, 0 links to 1, the root names 0, and 0 is held twice.
abbrev linked : Ledger
linked = write three (Link (numbered 1) only) (Some (numbered 2))

abbrev joined : Ledger
joined = write linked (Link (numbered 0) only) (Some (numbered 1))

abbrev rooted : Ledger
rooted = write joined top (Some (numbered 0))

abbrev twice : Ledger
twice = hold rooted (station 0) (Some (numbered 0))

-- 0 and 1 are withdrawn, and 0 is still held.
abbrev without0 : Ledger
without0 = delete twice 0

abbrev without1 : Ledger
without1 = delete without0 1

-- The link of 0 is led past 1 to 2; the link of 1 is cleared; 1 is returned.
abbrev led : Ledger
led = write without1 (Link (numbered 0) only) (Some (numbered 2))

abbrev cleared : Ledger
cleared = write led (Link (numbered 1) only) None

abbrev returned : Ledger
returned = with_standing cleared (numbered 1) Pooled

-- 1 is made again, and the link of 0 is followed to 2.
abbrev again : Ledger
again = new returned 1

abbrev found : Ledger
found = hold again (station 0) (Some (numbered 2))

-- Each act is allowed.
one_allowed : Allows sizes opening (station 0) New (Found (Some (numbered 0))) one
one_allowed = (lit< tt, (lit< tt, refl, refl))

two_allowed : Allows sizes one (station 0) New (Found (Some (numbered 1))) two
two_allowed = (lit< tt, (lit< tt, refl, refl))

three_allowed : Allows sizes two (station 0) New (Found (Some (numbered 2))) three
three_allowed = (lit< tt, (lit< tt, refl, refl))

linked_allowed : Allows sizes three (station 0) (Store (numbered 1) only (Some (numbered 2))) Done linked
linked_allowed = (lit< tt, ((lit< tt, lit< tt), refl, lit< tt, refl, refl))

joined_allowed : Allows sizes linked (station 0) (Store (numbered 0) only (Some (numbered 1))) Done joined
joined_allowed = (lit< tt, ((lit< tt, lit< tt), refl, lit< tt, refl, refl))

rooted_allowed : Allows sizes joined (station 0) (Cas top None (Some (numbered 0))) (Swapped true) rooted
rooted_allowed = (lit< tt, (lit< tt, lit< tt, refl, refl))

twice_allowed : Allows sizes rooted (station 0) (Deref top) (Found (Some (numbered 0))) twice
twice_allowed = (lit< tt, (lit< tt, refl, refl))

without0_allowed : Allows sizes twice (station 0) (Delete (numbered 0)) Done without0
without0_allowed = (lit< tt, (lit< tt, λ e. grind arith, refl, refl))

without1_allowed : Allows sizes without0 (station 0) (Delete (numbered 1)) Done without1
without1_allowed = (lit< tt, (lit< tt, λ e. grind arith, refl, refl))

led_permitted : Permits sizes without1 (lead (numbered 0) only (Some (numbered 2))) led
led_permitted = (refl, (refl, refl), (λ e. grind arith, λ e. grind arith), refl)

led_left : OutOfUse sizes led (numbered 1)
led_left = (refl, λ s below. grind arith, unnamed)
  where
    unnamed : Unnamed sizes led (numbered 1)
    unnamed (Root g) inside e = grind arith
    unnamed (Link r x) inside e = grind arith

cleared_permitted : Permits sizes led (clear (numbered 1) only) cleared
cleared_permitted = (led_left, (lit< tt, lit< tt), refl)

cleared_left : OutOfUse sizes cleared (numbered 1)
cleared_left = (refl, λ s below. grind arith, unnamed)
  where
    unnamed : Unnamed sizes cleared (numbered 1)
    unnamed (Root g) inside e = grind arith
    unnamed (Link r x) inside e = grind arith

cleared_bare : NamesNothing sizes cleared (numbered 1)
cleared_bare x below = grind arith

again_allowed : Allows sizes returned (station 0) New (Found (Some (numbered 1))) again
again_allowed = (lit< tt, (lit< tt, refl, refl))

found_allowed : Allows sizes again (station 0) (Deref (Link (numbered 0) only)) (Found (Some (numbered 2))) found
found_allowed = (lit< tt, ((lit< tt, lit< tt), refl, refl))

-- A whole operation of station 0.
whole : {run : Run} {l : Ledger} (op : Operation) (answer : Outcome) (after : Ledger) → Quiet sizes run l → Allows sizes l (station 0) op answer after →
    Quiet sizes (ends (station 0) answer ∷ begins (station 0) op ∷ run) after
whole op answer after = quiet_whole (station 0) op answer after

pub led_past_explained : LedPastIsExplained
led_past_explained =
    let a = whole New (Found (Some (numbered 0))) one (quiet_start sizes) one_allowed in
    let b = whole New (Found (Some (numbered 1))) two a two_allowed in
    let c = whole New (Found (Some (numbered 2))) three b three_allowed in
    let d = whole (Store (numbered 1) only (Some (numbered 2))) Done linked c linked_allowed in
    let e = whole (Store (numbered 0) only (Some (numbered 1))) Done joined d joined_allowed in
    let f = whole (Cas top None (Some (numbered 0))) (Swapped true) rooted e rooted_allowed in
    let g = whole (Deref top) (Found (Some (numbered 0))) twice f twice_allowed in
    let h = whole (Delete (numbered 0)) Done without0 g without0_allowed in
    let i = whole (Delete (numbered 1)) Done without1 h without1_allowed in
    let j = quiet_silent (lead (numbered 0) only (Some (numbered 2))) led i led_permitted in
    let k = quiet_silent (clear (numbered 1) only) cleared j cleared_permitted in
    let m = quiet_silent (return (numbered 1)) returned k (cleared_left, cleared_bare, refl) in
    let n = whole New (Found (Some (numbered 1))) again m again_allowed in
    quiet_explained (whole (Deref (Link (numbered 0) only)) (Found (Some (numbered 2))) found n found_allowed)
