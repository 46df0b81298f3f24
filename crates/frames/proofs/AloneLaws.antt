-- What is read as a frame or an answer has that frame's or answer's bytes.
use Rattle.std.proofs.Common.{◌≡◌, ℕ, eqb, List, [], ◌∷◌, Option, Some, None, refl, arith}
use Rattle.std.proofs.lemmas.Bool.{cond_both, eqb-true}
use Rattle.std.proofs.lemmas.Bool.Decides.{nat_tests}
use Rattle.std.specs.Option.{option_map}
use Rattle.frames.specs.Answers.{AnswerValue, REFUSED, answer_bytes, granted_of, at_layer, refusal_line, ToldApart}
use Rattle.frames.specs.Frames.{FrameValue, frame_bytes, setup_of, by_first, with_station}
use Rattle.frames.specs.Laws.{FramesAlone, AnswersAlone}
use Rattle.frames.specs.Refusals.{number_of, refusal_of}
use Rattle.frames.specs.declared.refusal.Refusal.{Refusal}

setup_alone : (op : ℕ) (rest : List ℕ) (f : FrameValue) → op ≡ 0x00 → setup_of rest ≡ Some f → frame_bytes f ≡ op ∷ rest
setup_alone op rest f z e = grind (arith, nat_tests)

station_alone : (op st : ℕ) (rest : List ℕ) (f : FrameValue) → by_first op st rest ≡ Some f → frame_bytes f ≡ op ∷ st ∷ rest
station_alone op st rest f e = grind (arith, nat_tests)

with_station_alone : (op : ℕ) (rest : List ℕ) (f : FrameValue) → with_station op rest ≡ Some f → frame_bytes f ≡ op ∷ rest
with_station_alone op [] f e = grind arith
with_station_alone op (st ∷ rest) f e = station_alone op st rest f e

pub frames_alone : FramesAlone
frames_alone [] f e = grind arith
frames_alone (op ∷ rest) f e =
    cond_both (eqb op 0x00) (setup_of rest) (with_station op rest) (λ o. o ≡ Some f → frame_bytes f ≡ op ∷ rest) (λ z. setup_alone op rest f (eqb-true op 0x00 z)) (λ _. with_station_alone op rest f) e

granted_alone : (first : ℕ) (rest : List ℕ) (a : AnswerValue) → first ≡ 0x00 → granted_of rest ≡ Some a → (answer_bytes a ≡ first ∷ rest) × ToldApart a
granted_alone first rest a z e = grind (arith, nat_tests)

numbered : (n : ℕ) (w : Refusal) → refusal_of n ≡ Some w → number_of w ≡ n
numbered n w e = grind (arith, nat_tests)

refused_alone : (n layer place : ℕ) (o : Option Refusal) (a : AnswerValue) → ((w : Refusal) → o ≡ Some w → number_of w ≡ n) → option_map REFUSED (at_layer o layer place) ≡ Some a → (answer_bytes a ≡ n ∷ layer ∷ place ∷ []) × ToldApart a
refused_alone n layer place None a has e = grind arith
refused_alone n layer place (Some w) a has e = let same = has w refl in grind (arith, nat_tests)

refusal_alone : (first : ℕ) (rest : List ℕ) (a : AnswerValue) → refusal_line first rest ≡ Some a → (answer_bytes a ≡ first ∷ rest) × ToldApart a
refusal_alone first [] a e = grind arith
refusal_alone first (layer ∷ []) a e = grind arith
refusal_alone first (layer ∷ place ∷ []) a e = refused_alone first layer place (refusal_of first) a (numbered first) e
refusal_alone first (layer ∷ place ∷ x ∷ more) a e = grind arith

pub answers_alone : AnswersAlone
answers_alone [] a e = grind arith
answers_alone (first ∷ rest) a e =
    cond_both (eqb first 0x00) (granted_of rest) (refusal_line first rest) (λ o. o ≡ Some a → (answer_bytes a ≡ first ∷ rest) × ToldApart a) (λ z. granted_alone first rest a (eqb-true first 0x00 z)) (λ _. refusal_alone first rest a) e
