-- What is said of a frame beyond its own words: a SETUP byte that is out of its limits, and a card, once a SETUP line has told
-- which kind the cards are.
use Rattle.std.specs.Prelude.{◌≡◌, ℕ, List, ◌++◌, Some, None, IfOk, string_bytes, codes, decimal, Option, Result, String}
use Rattle.std.specs.Option.{option_map}
use Rattle.std.specs.declared.alloc.AllocError.{AllocError}
use Rattle.std.specs.declared.alloc.Global.{Global}
use Rattle.frames.specs.Frames.{FrameValue, SETUP, DEREF, RELEASE, CAS, STORE, NEW, DELETE, STEP, FILL, READ}
use Rattle.settings.specs.declared.bytes.SetupByte.{SetupByte}
use Rattle.settings.specs.declared.choices.KindChoice.{KindChoice}
use Rattle.settings.specs.declared.choices.KindChoice.TheVariants.{ChainOfSlips, BookOfRecipes}
use Rattle.settings.specs.Bytes.{place_of, words_of}
use Rattle.settings.specs.Choices.{NamesKind}
use Rattle.settings.specs.Faults.{first_fault}
use Rattle.card_words.specs.FaultWords.{slip_told, recipe_told}

-- what is said beyond the words of a frame, if memory served
abbrev pub Says : Result (Option (String Global)) AllocError → Option (List ℕ) → Type 0
Says r words = IfOk r (λ more. option_map string_bytes more ≡ words)

-- "refused 3 at byte 3: records must be 1 to 128"
abbrev pub setup_remark : Option SetupByte → Option (List ℕ)
setup_remark None = None
setup_remark (Some b) = Some (codes "refused 3 at byte " ++ (decimal (place_of b) ++ (codes ": " ++ words_of b)))

-- the card, or what is wrong with it
abbrev pub card_remark : Option KindChoice → List ℕ → Option (List ℕ)
card_remark None card = None
card_remark (Some ChainOfSlips) card = Some (slip_told card)
card_remark (Some BookOfRecipes) card = Some (recipe_told card)

abbrev pub remark : Option KindChoice → FrameValue → Option (List ℕ)
remark k (SETUP s) = setup_remark (first_fault s)
remark k (DEREF st spot) = None
remark k (RELEASE st node) = None
remark k (CAS st spot old new) = None
remark k (STORE st spot new) = None
remark k (NEW st) = None
remark k (DELETE st node) = None
remark k (STEP st) = None
remark k (FILL st node card) = card_remark k card
remark k (READ st node) = None

-- A SETUP line without a fault tells the kind; any other line leaves what is known.
abbrev pub TellsKind : Option SetupByte → ℕ → Option KindChoice → Option KindChoice → Type 0
TellsKind None number before after = NamesKind number after
TellsKind (Some b) number before after = after ≡ before

abbrev pub KindAfter : Option KindChoice → FrameValue → Option KindChoice → Type 0
KindAfter k (SETUP s) after = TellsKind (first_fault s) s.kind k after
KindAfter k (DEREF st spot) after = after ≡ k
KindAfter k (RELEASE st node) after = after ≡ k
KindAfter k (CAS st spot old new) after = after ≡ k
KindAfter k (STORE st spot new) after = after ≡ k
KindAfter k (NEW st) after = after ≡ k
KindAfter k (DELETE st node) after = after ≡ k
KindAfter k (STEP st) after = after ≡ k
KindAfter k (FILL st node card) after = after ≡ k
KindAfter k (READ st node) after = after ≡ k
