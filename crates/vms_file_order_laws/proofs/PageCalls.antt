-- The steps of a call on the page counters in which no exchange loses are determined by the history in which it begins,
-- where the rules of thresholds are functions.
use Rattle.std.proofs.Common.{◌≡◌, ℕ, List, [], ◌++◌, refl, sym, ap, subst, ◌∙◌, append-nil}
use Rattle.std.specs.Prelude.{All, Option, Some, None}
use Rattle.vms_world.specs.Common.{Act, Balance, CpuId, Event, Facts, HasWon, Header, IsTurn, Item, Lane, PageSteps}
use Rattle.vms_world.specs.Common.{PlaceId, SetsAfterYes, State, Step, ZoneSize, after, facts_of, owner_of, page_facts}
use Rattle.vms_world.specs.Common.{pages, CallSteps, page_call}
use Rattle.vms_world.specs.declared.worlds.World.{World}
use Rattle.vms_calls.specs.PageCalls.{IsPageCall, owns_cpu}
use Rattle.vms_calls.specs.declared.page_calls.PageAnswer.{PageAnswer}
use Rattle.vms_calls.specs.declared.page_calls.PageAnswer.TheVariants as answer
use Rattle.vms_calls.specs.declared.page_calls.PageCall.{PageCall}
use Rattle.vms_calls.specs.declared.page_calls.PageCall.TheVariants as call
use Rattle.vms_history.specs.Legal.{IsLegal}
use Rattle.vms_history.proofs.Common.{after-steps}
use Rattle.vms_file_order.specs.Common.{IsFileOrder, page_passes}
use Rattle.vms_file_order_laws.specs.Common.{AnswersOnce}
use Rattle.vms_file_order_laws.proofs.LegalSteps.{legal_as, legal_first, legal_later}
use Rattle.vms_file_order_laws.proofs.OneHistory.{IsFileOrder-once}
use Rattle.vms_file_order_laws.proofs.PageChanges.{change-once, fold-once}
use Rattle.vms_file_order_laws.proofs.PageLoads.{Legal}
use Rattle.vms_file_order_laws.proofs.PageLooks.{balance_test-once, place_value-once, snapshot-once, system_value-once}
use Rattle.vms_file_order_laws.proofs.PageLooks.{test-once}
use Rattle.vms_file_order_laws.proofs.PageRatings.{burial-once, sets_normal-once, sets_pressure-once, settles-once}

module _ (header : Header) (base : State) (pressure normal : ZoneSize → ℕ → ℕ → Type 0)
    (pressure_once : AnswersOnce pressure) (normal_once : AnswersOnce normal) (p : ℕ) where
  abbrev Steps : Type 0
  Steps = List Step

  abbrev History : Type 0
  History = List (Event Step)

  abbrev told : Facts
  told = facts_of header base

  turn-once : (n : PlaceId) (order most : ℕ) (a b : Steps) (v v' : Balance) (h : History)
      → IsTurn header base pressure normal n order most p h a v → IsTurn header base pressure normal n order most p h
      b v'
      → Legal told p (a ++ []) h → Legal told p (b ++ []) h → a ≡ b
  turn-once n order most a b v v' h is is' legal legal' =
      let rest = is.test ++ is.further in
      let rest' = is'.test ++ is'.further in
      let at = legal_as pages told p a (is.pressed ++ rest) [] h is.in_order legal in
      let at' = legal_as pages told p b (is'.pressed ++ rest') [] h is'.in_order legal' in
      let first = sets_pressure-once told p normal normal_once pressure pressure_once n is.pressed is'.pressed
      (rest ++ []) (rest' ++ []) h h refl is.presses is'.presses
      (legal_first pages told p is.pressed rest [] h at) (legal_first pages told p is'.pressed rest' [] h at') in
      let k : History = after p is.pressed h in
      let k' : History = after p is'.pressed h in
      let from : k ≡ k' = ap (λ ks. after p ks h) first in
      let there = legal_later pages told p is.pressed rest [] h at in
      let there' = legal_later pages told p is'.pressed rest' [] h at' in
      let tested = balance_test-once told p header n order most is.test is'.test (is.further ++ []) (is'.further ++
      []) v v'
      k k' from is.tests is'.tests (legal_first pages told p is.test is.further [] k there)
      (legal_first pages told p is'.test is'.further [] k' there') in
      let settles : SetsAfterYes told normal n p v (after p is.test k) is.further =
      subst (λ g. SetsAfterYes told normal n p v g is.further) (after-steps p is.pressed is.test h) is.settles in
      let settles' : SetsAfterYes told normal n p v (after p is'.test k') is'.further =
      subst (λ x. SetsAfterYes told normal n p x (after p is'.test k') is'.further) (sym tested.1)
      (subst (λ g. SetsAfterYes told normal n p v' g is'.further) (after-steps p is'.pressed is'.test h) is'.settles) in
      let last = settles-once told p normal normal_once n v is.further is'.further [] [] (after p is.test k)
      (after p is'.test k') (ap (λ ks. after p ks k) tested.0 ∙ ap (after p is'.test) from) settles settles'
      (legal_later pages told p is.test is.further [] k there)
      (legal_later pages told p is'.test is'.further [] k' there') in
      is.in_order ∙ ap (λ ks. ks ++ rest) first ∙ ap (λ ks. is'.pressed ++ (ks ++ is.further)) tested.0
      ∙ ap (λ ks. is'.pressed ++ (is'.test ++ ks)) last ∙ sym is'.in_order

  -- a call on the page counters is made in one way
  call-once : (made : PageCall) (who : Option CpuId) (h : History) (a b : Steps) (v v' : PageAnswer)
      → IsPageCall header base pressure normal made who p h a v → IsPageCall header base pressure normal made who p h
      b v'
      → All HasWon a → All HasWon b → Legal told p (a ++ []) h → Legal told p (b ++ []) h → a ≡ b
  call-once (call.Change k delta how) (Some own) h a b answer.Done answer.Done is is' alone alone' legal legal' =
      change-once told p header.layout own k delta how a b h is is' alone alone' legal legal'
  call-once (call.Fold c) who h a b answer.Done answer.Done is is' alone alone' legal legal' =
      fold-once told p header.layout (owns_cpu who c) c a b [] [] h h refl is is' legal legal'
  call-once (call.Test g mark most) who h a b (answer.Tested v) (answer.Tested v') is is' alone alone' legal legal' =
      (test-once told p header g mark most a b [] [] v v' h h refl is is' legal legal').0
  call-once (call.Value k) who h a b (answer.Value n) (answer.Value n') is is' alone alone' legal legal' =
      place_value-once told p k a b n n' h is is' legal legal'
  call-once (call.Snapshot k) who h a b (answer.Snapshot n) (answer.Snapshot n') is is' alone alone' legal legal' =
      (snapshot-once told p header.layout k a b [] [] n n' h h refl is is' legal legal').0
  call-once (call.System i) who h a b (answer.System n) (answer.System n') is is' alone alone' legal legal' =
      system_value-once told p i a b n n' h is is' legal legal'
  call-once (call.SetPressure n) None h a b answer.Done answer.Done is is' alone alone' legal legal' =
      sets_pressure-once told p normal normal_once pressure pressure_once n a b [] [] h h refl is is' legal legal'
  call-once (call.SetNormal n) None h a b answer.Done answer.Done is is' alone alone' legal legal' =
      sets_normal-once told p normal normal_once n a b [] [] h h refl is is' legal legal'
  call-once (call.Bury c) None h a b answer.Done answer.Done is is' alone alone' legal legal' =
      burial-once told p normal normal_once c a b [] [] h h refl is is' legal legal'
  call-once (call.Turn n order most) None h a b (answer.Balanced v) (answer.Balanced v') is is' alone alone' legal
      legal' = turn-once n order most a b v v' h is is' legal legal'
  call-once (call.Change k delta how) (Some own) h a b answer.Done v' is is' alone alone' legal legal' = absurd is'
  call-once (call.Fold c) who h a b answer.Done v' is is' alone alone' legal legal' = absurd is'
  call-once (call.Test g mark most) who h a b (answer.Tested v) v' is is' alone alone' legal legal' = absurd is'
  call-once (call.Value k) who h a b (answer.Value n) v' is is' alone alone' legal legal' = absurd is'
  call-once (call.Snapshot k) who h a b (answer.Snapshot n) v' is is' alone alone' legal legal' = absurd is'
  call-once (call.System i) who h a b (answer.System n) v' is is' alone alone' legal legal' = absurd is'
  call-once (call.SetPressure n) None h a b answer.Done v' is is' alone alone' legal legal' = absurd is'
  call-once (call.SetNormal n) None h a b answer.Done v' is is' alone alone' legal legal' = absurd is'
  call-once (call.Bury c) None h a b answer.Done v' is is' alone alone' legal legal' = absurd is'
  call-once (call.Turn n order most) None h a b (answer.Balanced v) v' is is' alone alone' legal legal' = absurd is'
  call-once made who h a b v v' is is' alone alone' legal legal' = absurd is

  -- so are the steps of an act
  act-once : (lane : Lane) (act : Act) (h : History) (a b : Steps) → PageSteps header base pressure normal lane p act
      h a
      → PageSteps header base pressure normal lane p act h b → All HasWon a → All HasWon b
      → IsLegal pages told (after p a h) → IsLegal pages told (after p b h) → a ≡ b
  act-once lane act h a b makes makes' alone alone' legal legal' = by (page_call lane act) makes makes'
    where
      by : (made : Option PageCall)
          → CallSteps (λ one ks v. IsPageCall header base pressure normal one (owner_of lane) p h ks v) made a
          → CallSteps (λ one ks v. IsPageCall header base pressure normal one (owner_of lane) p h ks v) made b → a ≡ b
      by None nothing nothing' = nothing ∙ sym nothing'
      by (Some made) (v, is) (v', is') =
          call-once made (owner_of lane) h a b v v' is is' alone alone'
          (subst (λ ks. IsLegal pages told (after p ks h)) (sym (append-nil a)) legal)
          (subst (λ ks. IsLegal pages told (after p ks h)) (sym (append-nil b)) legal')

-- and of a phase in file order
pub phase-once : (header : Header) (w : World) (pressure normal : ZoneSize → ℕ → ℕ → Type 0) → AnswersOnce pressure
    → AnswersOnce normal → (items : List Item) (h h' : List (Event Step)) → IsLegal pages (page_facts header w) h
    → IsLegal pages (page_facts header w) h'
    → IsFileOrder page_passes (PageSteps header w.pages pressure normal) HasWon header.layout items h
    → IsFileOrder page_passes (PageSteps header w.pages pressure normal) HasWon header.layout items h' → h ≡ h'
phase-once header w pressure normal pressure_once normal_once items h h' legal legal' order order' =
    IsFileOrder-once pages page_passes (PageSteps header w.pages pressure normal) HasWon (page_facts header w)
    (λ lane p act g a b makes makes' alone alone' stands stands'. act-once header w.pages pressure normal pressure_once
    normal_once p lane act g a b makes makes' alone alone' stands stands') header.layout items h h' legal legal' order
    order'
