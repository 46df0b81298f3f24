-- A kind that is made of numbers keeps the laws of a kind. Assumes nothing.
use Rattle.std.specs.Prelude.{◌≡◌, ℕ, ◌<◌, ◌≤◌, Bool, true, false, cond, T, List, length, Ok, Err, Result, ◌==◌, ◌≢◌, refl}
use Rattle.std.proofs.Common.{sym, ap, subst, ◌∙◌}
use Rattle.std.proofs.lemmas.Bool.{cond-true, cond-false, eqb-true, eq-eqb, ne_eqb}
use Rattle.cards.specs.declared.fault.CardFault.{CardFault}
use Rattle.cards.specs.declared.fault.CardFault.TheVariants.{Length, Field}
use Rattle.cards.specs.Fields.{NumberField, size_of, numbers, written, within, first_over, checked, card_of, card_in, sound}
use Rattle.cards.specs.Kinds.{Lawful}
use Rattle.cards.specs.Truths.{checked_pass}
use Rattle.cards.specs.Numbers.{written_numbers, numbers_written, length_written, under_written, first_over_inside}

-- what an answer says of the tests before it
length_told : {C : Type 0} (b : Bool) (r : Result C CardFault) (c : C) → cond b r (Err Length) ≡ Ok c → (b ≡ true) × (r ≡ Ok c)
length_told true r c e = (refl, e)
length_told false r c e = cc

field_told : {C : Type 0} (b : Bool) (r : Result C CardFault) (o : ℕ) → cond b r (Err Length) ≡ Err (Field o) → r ≡ Err (Field o)
field_told true r o e = e
field_told false r o e = cc

module _ {C : Type 0} (fs : List NumberField) (make : (vs : List ℕ) → T (within fs vs) → C) where
  -- numbers that make a card are the numbers of that card
  made_of : (parts : C → List ℕ) → ((vs : List ℕ) (h : T (within fs vs)) → parts (make vs h) ≡ vs) → (vs : List ℕ) (b : Bool) (pass : T b → T (within fs vs)) (f : CardFault) (c : C) → checked b (λ fit. Ok (make vs (pass fit))) (Err f) ≡ Ok c → parts c ≡ vs
  made_of parts parted vs true pass f c e = let same : make vs (pass tt) ≡ c = cc in sym (ap parts same) ∙ parted vs (pass tt)
  made_of parts parted vs false pass f c e = cc

  never_length : (vs : List ℕ) (b : Bool) (pass : T b → C) (o : ℕ) → checked b (λ fit. Ok (pass fit)) (Err (Field o)) ≢ Err Length
  never_length vs true pass o e = cc
  never_length vs false pass o e = cc

  the_field : (b : Bool) (pass : T b → C) (o p : ℕ) → checked b (λ fit. Ok (pass fit)) (Err (Field o)) ≡ Err (Field p) → (b ≡ false) × (o ≡ p)
  the_field true pass o p e = cc
  the_field false pass o p e = (refl, cc)

-- A kind is given by its fields, by how numbers make a card and by the numbers of a card.
pub lawful_fields : {C : Type 0} (fs : List NumberField) (make : (vs : List ℕ) → T (within fs vs) → C) (parts : C → List ℕ)
    → T (sound fs) → size_of fs ≤ 61
    → (fit : (c : C) → T (within fs (parts c)))
    → ((vs : List ℕ) (h : T (within fs vs)) → parts (make vs h) ≡ vs)
    → ((c : C) → make (parts c) (fit c) ≡ c)
    → Lawful (size_of fs) (card_in fs make) (λ c. written fs (parts c))
lawful_fields {C} fs make parts good few fit parted remade = record {
  small = few;
  wrong = λ bs h. cond-false _ _ _ (ne_eqb (length bs) (size_of fs) h);
  right = λ bs e h.
      never_length fs make (numbers fs bs) (within fs (numbers fs bs)) (make (numbers fs bs)) (first_over fs (numbers fs bs))
      (sym (cond-true _ (card_of fs make (numbers fs bs)) _ (eq-eqb (length bs) (size_of fs) h)) ∙ e);
  inside = λ bs o e.
      let vs = numbers fs bs in
      let told = the_field fs make (within fs vs) (make vs) (first_over fs vs) o (field_told (length bs == size_of fs) (card_of fs make vs) o e) in
      subst (λ n. n < size_of fs) told.1 (first_over_inside fs bs good told.0);
  round = λ bs c u e.
      let vs = numbers fs bs in
      let told = length_told (length bs == size_of fs) (card_of fs make vs) c e in
      let long = eqb-true (length bs) (size_of fs) told.0 in
      ap (written fs) (made_of fs make parts parted vs (within fs vs) (λ h. h) (Field (first_over fs vs)) c told.1) ∙ written_numbers fs bs u long;
  bytes = λ c. under_written fs (parts c);
  long = λ c. length_written fs (parts c) (fit c);
  back = λ c.
      let long = length_written fs (parts c) (fit c) in
      cond-true _ _ _ (eq-eqb (length (written fs (parts c))) (size_of fs) long)
      ∙ ap (card_of fs make) (numbers_written fs (parts c) good (fit c))
      ∙ checked_pass (within fs (parts c)) (λ h. Ok (make (parts c) h)) _ (fit c)
      ∙ ap Ok (remade c);
}
