-- Every turn of every station is explained.
use Rattle.std.proofs.Common.{◌≡◌, ℕ, ◌<◌, List, [], ◌∷◌, Some, Option}
use Rattle.terms.specs.declared.Station.{Station}
use Rattle.memory.specs.declared.access.Write.{Write}
use Rattle.work.specs.declared.work.Point.{Point}
use Rattle.work.specs.declared.work.Point.TheVariants.{End, Take, Look, LookAgain, Verify, Swap, Save, Overwrite, AskDeleted, AskPlace, AskDone, AskPlaceAgain, CountFirst, CountAgain, AskSlot, CountSecond, AskTrace, AskClaims, AskLink, Give}
use Rattle.work.specs.Plans.{plan}
use Rattle.machine.specs.Tables.{Table}
use Rattle.laws.specs.Fits.{Sound}
use Rattle.laws.specs.Theorems.{FromPool}
use Rattle.ledger.specs.Explains.{Run}
use Rattle.order.specs.Theorems.{Explained, PicksIfAny, TurnsAreExplained}
use Rattle.order.proofs.Here.{Turned}
use Rattle.order.proofs.Owing.{owed_turn}
use Rattle.order.proofs.Taking.{take_turn}
use Rattle.order.proofs.Looking.{look_turn, look_again_turn, verify_turn, ask_deleted_turn}
use Rattle.order.proofs.Writing.{swap_turn, overwrite_turn}
use Rattle.order.proofs.Quiet.{ask_place_turn, ask_done_turn, ask_place_again_turn, count_first_turn, count_again_turn, ask_slot_turn, count_second_turn, ask_trace_turn, ask_claims_turn, ask_link_turn, save_turn, end_turn}
use Rattle.order.proofs.Giving.{give_turn}

module _ (t : Table) (k : Sound t) (run : Run) (e : Explained t run) (s : Station) (b : s.number < t.sizes.stations) (pick : Option ℕ) (from : FromPool t pick) where
  plan_turn : (ws : List Write) (x : Point) → (t.seats s.number).work ≡ Some (plan ws x) → PicksIfAny t (plan ws x) pick → Turned t run s pick (plan ws x)
  plan_turn (y ∷ ws) x here any = owed_turn t k run e s b pick y ws x here
  plan_turn [] (End o) here any = end_turn t k run e s b pick o here
  plan_turn [] Take here any = take_turn t k run e s b pick from any here
  plan_turn [] (Look q g) here any = look_turn t k run e s b pick q g here
  plan_turn [] (LookAgain q i g) here any = look_again_turn t k run e s b pick q i g here
  plan_turn [] (Verify q i v g) here any = verify_turn t k run e s b pick q i v g here
  plan_turn [] (Swap q o v g) here any = swap_turn t k run e s b q o v g pick here
  plan_turn [] (Save q v g) here any = save_turn t k run e s b pick q v g here
  plan_turn [] (Overwrite q o v g) here any = overwrite_turn t k run e s b q o v g pick here
  plan_turn [] (AskDeleted c m) here any = ask_deleted_turn t k run e s b pick c m here
  plan_turn [] (AskPlace q i) here any = ask_place_turn t k run e s b pick q i here
  plan_turn [] (AskDone q i r) here any = ask_done_turn t k run e s b pick q i r here
  plan_turn [] (AskPlaceAgain q i r) here any = ask_place_again_turn t k run e s b pick q i r here
  plan_turn [] (CountFirst c) here any = count_first_turn t k run e s b pick c here
  plan_turn [] (CountAgain c) here any = count_again_turn t k run e s b pick c here
  plan_turn [] (AskSlot q i) here any = ask_slot_turn t k run e s b pick q i here
  plan_turn [] (CountSecond c) here any = count_second_turn t k run e s b pick c here
  plan_turn [] (AskTrace c) here any = ask_trace_turn t k run e s b pick c here
  plan_turn [] (AskClaims c) here any = ask_claims_turn t k run e s b pick c here
  plan_turn [] (AskLink c x) here any = ask_link_turn t k run e s b pick c x here
  plan_turn [] (Give c) here any = give_turn t k run e s b pick c here

pub turns_explained : TurnsAreExplained
turns_explained t k run e s b w here pick from any = plan_turn t k run e s b pick from w.owed w.point here any
