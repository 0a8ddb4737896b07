-- The steps of a call on the event counters are determined by the history in which it begins.
use Rattle.std.proofs.Common.{◌≡◌, ℕ, zero, suc, ◌<◌, List, [], ◌∷◌, ◌++◌, length, refl, sym, ap, subst, ◌∙◌, arith}
use Rattle.std.proofs.Common.{append-nil, ◌⊎◌, inl, inr}
use Rattle.vms_world.specs.Common.{CpuId, Event, after, Act, Lane, EventFacts, EventStep, EventCall, EventAnswer}
use Rattle.vms_world.specs.Common.{IsEventCall, IsLowestOnline, TakeE, AddF, EventSteps, events, folds, online_cpus}
use Rattle.vms_world.specs.Common.{word_at, Total, Count, CallSteps, event_call, Header, Item, event_facts}
use Rattle.vms_history.specs.Legal.{IsLegal, state_after}
use Rattle.vms_base.specs.declared.ids.EventId.{EventId}
use Rattle.vms_event_core.specs.Calls.{loads}
use Rattle.vms_event_core.specs.declared.call_values.EventAnswer.TheVariants.{Done}
use Rattle.vms_event_core.specs.declared.call_values.EventCall.TheVariants.{Sum, FoldDead}
use Rattle.vms_event_core.specs.declared.steps.EventStep.TheVariants.{LoadE}
use Rattle.std.specs.Prelude.{Option, Some, None}
use Rattle.std.proofs.lemmas.Bool.{cases_order}
use Rattle.vms_history.proofs.Common.{same_cpu}
use Rattle.vms_world.specs.declared.worlds.World.{World}
use Rattle.vms_file_order.specs.Common.{IsFileOrder, MeetsNobody, event_makes, event_passes}
use Rattle.vms_file_order_laws.proofs.OneHistory.{IsFileOrder-once}
use Rattle.vms_file_order_laws.proofs.LegalSteps.{met, with_step}

module _ (facts : EventFacts) (p : ℕ) where
  abbrev Legal : List (Event EventStep) → Type 0
  Legal h = IsLegal events facts h

  -- loads of the same words find the same
  loads-once : (k : EventId) (cpus : List CpuId) (found found' : List ℕ) (h h' : List (Event EventStep))
      (more more' : List EventStep) → h ≡ h' → length found ≡ length cpus → length found' ≡ length cpus
      → Legal (after p (loads k cpus found ++ more) h) → Legal (after p (loads k cpus found' ++ more') h')
      → found ≡ found'
  loads-once k [] [] [] h h' more more' from one one' legal legal' = refl
  loads-once k [] (v ∷ found) found' h h' more more' from one one' legal legal' = absurd (omega (arith, one))
  loads-once k [] [] (v ∷ found') h h' more more' from one one' legal legal' = absurd (omega (arith, one'))
  loads-once k (c ∷ cpus) [] found' h h' more more' from one one' legal legal' = absurd (omega (arith, one))
  loads-once k (c ∷ cpus) (v ∷ found) [] h h' more more' from one one' legal legal' = absurd (omega (arith, one'))
  loads-once k (c ∷ cpus) (v ∷ found) (v' ∷ found') h h' more more' from one one' legal legal' =
      let here = met events facts p (LoadE c k v) (loads k cpus found ++ more) h legal in
      let there = met events facts p (LoadE c k v') (loads k cpus found' ++ more') h' legal' in
      let same : v ≡ v' = sym here.value ∙ ap (λ g. word_at (state_after events facts g) c.number k.number) from
      ∙ there.value in
      let next : with_step p (LoadE c k v) h ≡ with_step p (LoadE c k v') h' =
      ap (λ x. with_step p (LoadE c k x) h) same ∙ ap (with_step p (LoadE c k v')) from in
      let rest = loads-once k cpus found found' (with_step p (LoadE c k v) h) (with_step p (LoadE c k v') h') more more'
      next (omega (arith, one)) (omega (arith, one')) legal legal' in
      ap (λ x. x ∷ found) same ∙ ap (λ xs. v' ∷ xs) rest

  -- what was taken first is the same
  take-same : (from : CpuId) (k : EventId) (v v' : ℕ) (more more' : List EventStep) (h h' : List (Event EventStep))
      → h ≡ h' → Legal (after p (TakeE from k v ∷ more) h) → Legal (after p (TakeE from k v' ∷ more') h') → v ≡ v'
  take-same from k v v' more more' h h' from_same legal legal' =
      sym (met events facts p (TakeE from k v) more h legal).finds.value
      ∙ ap (λ g. word_at (state_after events facts g) from.number k.number) from_same
      ∙ (met events facts p (TakeE from k v') more' h' legal').finds.value

  -- folds of the same words find the same
  folds-once : (from into : CpuId) (k : ℕ) (found found' : List ℕ) (h h' : List (Event EventStep))
      (more more' : List EventStep) → h ≡ h' → length found ≡ length found'
      → Legal (after p (folds from into k found ++ more) h) → Legal (after p (folds from into k found' ++ more') h')
      → found ≡ found'
  folds-once from into k [] [] h h' more more' same one legal legal' = refl
  folds-once from into k [] (v ∷ found') h h' more more' same one legal legal' = absurd (omega (arith, one))
  folds-once from into k (v ∷ found) [] h h' more more' same one legal legal' = absurd (omega (arith, one))
  folds-once from into k (zero ∷ found) (zero ∷ found') h h' more more' same one legal legal' =
      let rest = folds-once from into (suc k) found found' (with_step p (TakeE from (record { number = k }) 0) h)
      (with_step p (TakeE from (record { number = k }) 0) h') more more'
      (ap (with_step p (TakeE from (record { number = k }) 0)) same) (omega (arith, one)) legal legal' in
      ap (λ xs. 0 ∷ xs) rest
  folds-once from into k (zero ∷ found) (suc v' ∷ found') h h' more more' same one legal legal' =
      let differ : 0 ≡ suc v' = take-same from (record { number = k }) 0 (suc v') (folds from into (suc k) found ++
      more)
      (AddF into (record { number = k }) (suc v') ∷ (folds from into (suc k) found' ++ more')) h h' same legal legal' in
      absurd (omega (arith, differ))
  folds-once from into k (suc v ∷ found) (zero ∷ found') h h' more more' same one legal legal' =
      let differ : suc v ≡ 0 = take-same from (record { number = k }) (suc v) 0
      (AddF into (record { number = k }) (suc v) ∷ (folds from into (suc k) found ++ more))
      (folds from into (suc k) found' ++ more') h h' same legal legal' in
      absurd (omega (arith, differ))
  folds-once from into k (suc v ∷ found) (suc v' ∷ found') h h' more more' same one legal legal' =
      let equal : suc v ≡ suc v' = take-same from (record { number = k }) (suc v) (suc v')
      (AddF into (record { number = k }) (suc v) ∷ (folds from into (suc k) found ++ more))
      (AddF into (record { number = k }) (suc v') ∷ (folds from into (suc k) found' ++ more')) h h' same legal legal' in
      let both : ℕ → List (Event EventStep) → List (Event EventStep) =
      λ x g. with_step p (AddF into (record { number = k }) x) (with_step p (TakeE from (record { number = k }) x) g) in
      let rest = folds-once from into (suc k) found found' (both (suc v) h) (both (suc v') h') more more'
      (ap (λ x. both x h) equal ∙ ap (both (suc v')) same) (omega (arith, one)) legal legal' in
      ap (λ x. x ∷ found) equal ∙ ap (λ xs. suc v' ∷ xs) rest

  -- one CPU is the lowest that is online
  lowest-once : (c d : CpuId) → IsLowestOnline facts c.number → IsLowestOnline facts d.number → c ≡ d
  lowest-once c d is is' = same_cpu c d (by (cases_order c.number d.number))
    where
      by : (c.number ≡ d.number) ⊎ ((c.number < d.number) ⊎ (d.number < c.number)) → c.number ≡ d.number
      by (inl same) = same
      by (inr (inl below)) = absurd (is'.lowest c.number below is.online)
      by (inr (inr above)) = absurd (is.lowest d.number above is'.online)

  -- a call on the event counters is made in one way
  pub call-once : (call : EventCall) (h : List (Event EventStep)) (a b : List EventStep) (answer answer' : EventAnswer)
      → IsEventCall facts call a answer → IsEventCall facts call b answer' → Legal (after p a h) → Legal (after p b h)
      → a ≡ b
  call-once (Count k n) h a b Done Done is is' legal legal' = is.in_order ∙ sym is'.in_order
  call-once (Sum k) h a b (Total sum) (Total sum') (found, is) (found', is') legal legal' =
      let cpus = online_cpus facts in
      let same = loads-once k cpus found found' h h [] [] refl is.one_each is'.one_each
      (subst (λ ks. Legal (after p ks h)) (is.in_order ∙ sym (append-nil (loads k cpus found))) legal)
      (subst (λ ks. Legal (after p ks h)) (is'.in_order ∙ sym (append-nil (loads k cpus found'))) legal') in
      is.in_order ∙ ap (loads k cpus) same ∙ sym is'.in_order
  call-once (FoldDead c) h a b Done Done (into, found, lowest, is) (into', found', lowest', is') legal legal' =
      let target = lowest-once into into' lowest lowest' in
      let in_order : b ≡ folds c into 0 found' = is'.in_order ∙ ap (λ d. folds c d 0 found') (sym target) in
      let same = folds-once c into 0 found found' h h [] [] refl (is.one_each ∙ sym is'.one_each)
      (subst (λ ks. Legal (after p ks h)) (is.in_order ∙ sym (append-nil (folds c into 0 found))) legal)
      (subst (λ ks. Legal (after p ks h)) (in_order ∙ sym (append-nil (folds c into 0 found'))) legal') in
      is.in_order ∙ ap (folds c into 0) same ∙ sym in_order
  call-once (Count k n) h a b Done (Total sum) is is' legal legal' = absurd is'
  call-once (Count k n) h a b (Total sum) answer is is' legal legal' = absurd is
  call-once (Sum k) h a b (Total sum) Done is is' legal legal' = absurd is'
  call-once (Sum k) h a b Done answer is is' legal legal' = absurd is
  call-once (FoldDead c) h a b Done (Total sum) is is' legal legal' = absurd is'
  call-once (FoldDead c) h a b (Total sum) answer is is' legal legal' = absurd is

  -- so are the steps of an act
  pub act-once : (lane : Lane) (act : Act) (h : List (Event EventStep)) (a b : List EventStep)
      → EventSteps facts lane act a → EventSteps facts lane act b → Legal (after p a h) → Legal (after p b h) → a ≡ b
  act-once lane act h a b makes makes' legal legal' = by (event_call lane act) makes makes'
    where
      by : (call : Option EventCall) → CallSteps (IsEventCall facts) call a → CallSteps (IsEventCall facts) call b
          → a ≡ b
      by None nothing nothing' = nothing ∙ sym nothing'
      by (Some call) (answer, is) (answer', is') = call-once call h a b answer answer' is is' legal legal'

-- and of a phase in file order
pub phase-once : (header : Header) (w : World) (items : List Item) (h h' : List (Event EventStep))
    → IsLegal events (event_facts header w) h → IsLegal events (event_facts header w) h'
    → IsFileOrder event_passes (event_makes (event_facts header w)) MeetsNobody header.layout items h
    → IsFileOrder event_passes (event_makes (event_facts header w)) MeetsNobody header.layout items h' → h ≡ h'
phase-once header w items h h' legal legal' order order' =
    let facts = event_facts header w in
    IsFileOrder-once events event_passes (event_makes facts) MeetsNobody facts
    (λ lane p act g a b makes makes' alone alone' stands stands'. act-once facts p lane act g a b makes makes' stands
    stands') header.layout items h h' legal legal' order order'
