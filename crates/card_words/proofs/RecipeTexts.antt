-- The words of a recipe, written one colorant after another. Assumes nothing.
use Rattle.std.proofs.Common.{◌≡◌, ℕ, ◌+◌, ◌<◌, ◌≤◌, Bool, true, false, cond, List, [], ◌++◌, length, get_or, drop, codes, decimal, sym, refl, ap, ◌∙◌, append_assoc, arith}
use Rattle.std.specs.declared.fmt.Formatter.{Formatter}
use Rattle.std.specs.Fmt.{IsPlainFormatter, HasWritten}
use Rattle.std.proofs.Output.{writes_in_calls_nil, has_written_append, has_written_of_eq}
use Rattle.std.proofs.lemmas.List.{drop_more, drop_all}
use Rattle.std.proofs.lemmas.Bool.{cond-false, ne_eqb}
use Rattle.card_words.specs.Words.{tenths, pour, pours}

-- Words were written, and with those of the colorants that are left they are the words of all. There is a separator once something was poured.
pub record Poured {W : Type 0} (took : W → List ℕ → W → Type 0) (start now : Formatter W) (separator amounts : List ℕ) (i : ℕ) : Type 0 where
  pub words : List ℕ
  pub put : HasWritten took start words now
  pub first : Bool
  pub apart : separator ≡ cond first [] (codes ", ")
  pub whole : words ++ pours first (i + 1) (drop i amounts) ≡ pours true 1 amounts

-- what is poured of one colorant, behind the separator
abbrev pub poured : List ℕ → ℕ → ℕ → List ℕ
poured separator colorant amount = separator ++ (codes "colorant " ++ (decimal colorant ++ (codes ": " ++ (tenths amount ++ codes " g"))))

poured_is : (first : Bool) (colorant amount : ℕ) → poured (cond first [] (codes ", ")) colorant amount ≡ pour first colorant amount
poured_is true colorant amount = refl
poured_is false colorant amount = refl

-- whether something was poured shows by the separator
first_of : (first : Bool) (separator : List ℕ) → separator ≡ cond first [] (codes ", ") → length separator ≡ 0 → first ≡ true
first_of true separator e h = refl
first_of false separator e h = let l = ap length e in absurd (omega arith)

module _ {W : Type 0} (took : W → List ℕ → W → Type 0) (start : Formatter W) (amounts : List ℕ) where
  pub poured_none : IsPlainFormatter start → Poured took start start [] amounts 0
  poured_none plain = record { words = []; put = record { wrote = writes_in_calls_nil took start.writer; plain = plain }; first = true; apart = refl; whole = refl }

  -- something is poured of this colorant
  pub poured_more : (now next : Formatter W) (separator : List ℕ) (i : ℕ) → i < length amounts → (get_or amounts i 0 ≡ 0 → ⊥) → HasWritten took now (poured separator (i + 1) (get_or amounts i 0)) next → Poured took start now separator amounts i → Poured took start next (codes ", ") amounts (i + 1)
  poured_more now next separator i h e t p =
      let a = get_or amounts i 0 in
      let text = ap (λ s. poured s (i + 1) a) p.apart ∙ poured_is p.first (i + 1) a in
      record {
        words = p.words ++ pour p.first (i + 1) a;
        put = has_written_append took start p.words now (pour p.first (i + 1) a) next p.put (has_written_of_eq took now _ _ next text t);
        first = false;
        apart = refl;
        whole =
            append_assoc p.words (pour p.first (i + 1) a) _
            ∙ ap (λ l. p.words ++ l) (sym (ap (pours p.first (i + 1)) (drop_more amounts i 0 h) ∙ cond-false _ _ _ (ne_eqb a 0 e)))
            ∙ p.whole;
      }

  module _ (all : List ℕ) (same : amounts ≡ all) (now : Formatter W) (separator : List ℕ) (i : ℕ) (h : length amounts ≤ i) (p : Poured took start now separator amounts i) where
    told : (b : Bool) → p.first ≡ b → p.words ++ pours b (i + 1) [] ≡ pours true 1 all
    told b e = (λ j. p.words ++ pours (sym e j) (i + 1) (sym (drop_all i amounts h) j)) ∙ p.whole ∙ ap (pours true 1) same

    -- all colorants are done, and nothing was poured
    pub poured_nothing : (next : Formatter W) → length separator ≡ 0 → HasWritten took now (codes "nothing to pour") next → HasWritten took start (pours true 1 all) next
    poured_nothing next e t =
        has_written_of_eq took start _ _ next (told true (first_of p.first separator p.apart e)) (has_written_append took start p.words now (codes "nothing to pour") next p.put t)
