-- What the sum of an event found lies between what stood when the call began and what stands.
use Rattle.std.proofs.Common.{◌≡◌, ℕ, suc, ◌+◌, ◌≤◌, Bool, true, false, List, [], ◌∷◌, ◌++◌, length, All, sym, ap, ◌∙◌}
use Rattle.std.proofs.Common.{subst, arith, if◌then◌else◌, nat_eq}
use Rattle.std.specs.Prelude.{sum}
use Rattle.std.proofs.lemmas.List.Elements.{All-nil, All-cons, All-head, All-tail}
use Rattle.std.proofs.lemmas.List.Sums.{sum_by-cons}
use Rattle.vms_history.specs.Common.{CpuId, EventId, CpuState, Online, Dead, Absent, online_from, state_at, own, after}
use Rattle.vms_history.specs.declared.events.Event.{Event}
use Rattle.vms_history.proofs.Common.{own-on_top, joined-legal, earlier-legal}
use Rattle.vms_event_core.specs.declared.steps.EventFacts.{EventFacts}
use Rattle.vms_event_core.specs.declared.steps.EventStep.{EventStep}
use Rattle.vms_event_core.specs.declared.steps.EventStep.TheVariants.{LoadE}
use Rattle.vms_event_core.specs.Common.{cpu_at, AtMostStands, IsAllEvents, loads, online_cpus, sum_over, events}
use Rattle.vms_event_core.specs.Common.{History, IsLegal, state_after, HasMade, SumsBetween, word_in, IsEvent}
use Rattle.vms_event_core.proofs.OnlineCpus.{word_in-grows}
use Rattle.vms_event_core.proofs.StateWords.{word_at-state_after}

module _ (facts : EventFacts) (earlier : History) where
  -- a load found a number between the word in the earlier history and the one in this, where the CPU is online
  record FoundBetween (now : History) (c k v : ℕ) : Type 0 where
    least : word_in facts earlier c k ≤ v
    most : v ≤ word_in facts now c k

  abbrev StepBetween : History → EventStep → Type 0
  StepBetween now (LoadE c k v) = cpu_at facts c.number ≡ Online → FoundBetween now c.number k.number v
  StepBetween now _ = Unit {0}

  abbrev EventsBetween : History → List (Event EventStep) → Type 0
  EventsBetween now [] = Unit {0}
  EventsBetween now (e ∷ es) = StepBetween now e.step × EventsBetween now es

  abbrev StepsBetween : History → List EventStep → Type 0
  StepsBetween now [] = Unit {0}
  StepsBetween now (step ∷ steps) = StepBetween now step × StepsBetween now steps

  -- the words grow, so what was found stays at most what stands
  StepBetween-next : (e : Event EventStep) (h : History) (step : EventStep) → IsLegal facts (e ∷ h)
      → StepBetween h step → StepBetween (e ∷ h) step
  StepBetween-next e h (LoadE c k v) legal before = λ online.
      let grows = word_in-grows facts (e ∷ []) h c.number k.number legal online in
      let found = before online in
      record { least = found.least; most = omega (arith, grows, found.most) }
  StepBetween-next e h _ legal before = tt

  EventsBetween-next : (e : Event EventStep) (h : History) (es : List (Event EventStep)) → IsLegal facts (e ∷ h)
      → EventsBetween h es → EventsBetween (e ∷ h) es
  EventsBetween-next e h [] legal before = tt
  EventsBetween-next e h (d ∷ es) legal before =
      (StepBetween-next e h d.step legal before.0, EventsBetween-next e h es legal before.1)

  -- a load finds what stands
  StepBetween-made : (m : History) (p : ℕ) (step : EventStep)
      → IsLegal facts (record { caller = p; step = step } ∷ (m ++ earlier))
      → StepBetween (m ++ earlier) step
  StepBetween-made m p (LoadE c k v) legal = λ online.
      let stands = word_at-state_after facts (m ++ earlier) c.number k.number legal.0 legal.2.event in
      let value : word_in facts (m ++ earlier) c.number k.number ≡ v = sym stands ∙ legal.2.value in
      let grows = word_in-grows facts m earlier c.number k.number legal.0 online in
      record { least = omega arith; most = omega arith }
  StepBetween-made m p _ legal = tt

  own-between : (m : History) (p : ℕ) → IsLegal facts (m ++ earlier) → EventsBetween (m ++ earlier) (own m p)
  own-between [] p legal = tt
  own-between (e ∷ m) p legal = by (nat_eq e.caller p) (own-between m p legal.0)
    where
      by : (b : Bool) → EventsBetween (m ++ earlier) (own m p)
          → EventsBetween (e ∷ (m ++ earlier)) (if b then e ∷ own m p else own m p)
      by true before = (
        StepBetween-next e (m ++ earlier) e.step legal (StepBetween-made m e.caller e.step legal),
        EventsBetween-next e (m ++ earlier) (own m p) legal before,
      )
      by false before = EventsBetween-next e (m ++ earlier) (own m p) legal before

  StepsBetween-holds : (now : History) (p : ℕ) (steps : List EventStep) (h : List (Event EventStep))
      → EventsBetween now (after p steps h) → StepsBetween now steps × EventsBetween now h
  StepsBetween-holds now p [] h between = (tt, between)
  StepsBetween-holds now p (step ∷ steps) h between =
      let rest = StepsBetween-holds now p steps (record { caller = p; step = step } ∷ h) between in
      ((rest.1.0, rest.0), rest.1.1)

-- CPUs that are listed as online are online
listed-online : (state : ℕ → CpuState) (c : ℕ) (states : List CpuState)
    → ((i : ℕ) → state (c + i) ≡ state_at states i) → All (λ d. state d.number ≡ Online) (online_from c states)
listed-online state c [] is = All-nil (λ d. state d.number ≡ Online)
listed-online state c (Online ∷ states) is =
    All-cons (λ d. state d.number ≡ Online) (record { number = c }) (online_from (suc c) states)
    (let place : c + 0 ≡ c = omega arith in ap state (sym place) ∙ is 0)
    (listed-online state (suc c) states (λ i.
    let place : c + suc i ≡ suc c + i = omega arith in ap state (sym place) ∙ is (suc i)))
listed-online state c (Dead ∷ states) is =
    listed-online state (suc c) states (λ i.
    let place : c + suc i ≡ suc c + i = omega arith in ap state (sym place) ∙ is (suc i))
listed-online state c (Absent ∷ states) is =
    listed-online state (suc c) states (λ i.
    let place : c + suc i ≡ suc c + i = omega arith in ap state (sym place) ∙ is (suc i))

online_cpus-online : (facts : EventFacts) → All (λ d. cpu_at facts d.number ≡ Online) (online_cpus facts)
online_cpus-online facts =
    listed-online (cpu_at facts) 0 facts.cpus (λ i. let place : 0 + i ≡ i = omega arith in ap (cpu_at facts) place)

module _ (facts : EventFacts) (now earlier : History) (legal : IsLegal facts now)
    (legal_earlier : IsLegal facts earlier) (k : EventId) (k_in : IsEvent k.number) where
  -- loads that found such numbers found such a sum
  record LoadsBetween (cpus : List CpuId) (found : List ℕ) : Type 0 where
    stands : AtMostStands (state_after facts now) k.number cpus found
    least : sum_over (state_after facts earlier) k.number cpus ≤ sum found
    most : sum found ≤ sum_over (state_after facts now) k.number cpus

  loads-between : (cpus : List CpuId) (found : List ℕ) → All (λ d. cpu_at facts d.number ≡ Online) cpus
      → length found ≡ length cpus → StepsBetween facts earlier now (loads k cpus found) → LoadsBetween cpus found
  loads-between [] [] online same between = record { stands = tt; least = omega arith; most = omega arith }
  loads-between [] (v ∷ found) online same between = absurd (omega arith)
  loads-between (c ∷ cpus) [] online same between = absurd (omega arith)
  loads-between (c ∷ cpus) (v ∷ found) online same between =
      let here = between.0 (All-head (λ d. cpu_at facts d.number ≡ Online) c cpus online) in
      let rest = loads-between cpus found (All-tail (λ d. cpu_at facts d.number ≡ Online) c cpus online)
      (omega arith) between.1 in
      let stood = word_at-state_after facts earlier c.number k.number legal_earlier k_in in
      let stand = word_at-state_after facts now c.number k.number legal k_in in
      record {
        stands = (omega (arith, stand, here.most), rest.stands);
        least = omega (arith, stood, here.least, rest.least, sum_by-cons (λ x. x) v found);
        most = omega (arith, stand, here.most, rest.most, sum_by-cons (λ x. x) v found);
      }

pub SumsBetween-holds : (facts : EventFacts) (later earlier : History) (p : ℕ) (k : EventId) (found : List ℕ)
    (steps : List EventStep) (answer : ℕ)
    → HasMade facts later earlier p steps → IsEvent k.number → IsAllEvents (online_cpus facts) k found steps answer
    → SumsBetween facts later earlier k found answer
SumsBetween-holds facts later earlier p k found steps answer made k_in call =
    let is : later ≡ made.extends.0 ++ earlier = made.extends.1 in
    let on_top : own made.extends.0 p ≡ after p steps [] =
    own-on_top made.extends.0 earlier p steps (sym (ap (λ es. own es p) is) ∙ made.made) in
    let between : EventsBetween facts earlier later (after p steps []) =
    subst (EventsBetween facts earlier later) on_top
    (subst (λ g. EventsBetween facts earlier g (own made.extends.0 p)) (sym is)
    (own-between facts earlier made.extends.0 p (joined-legal events facts later earlier p steps made))) in
    let each : StepsBetween facts earlier later (loads k (online_cpus facts) found) =
    subst (StepsBetween facts earlier later) call.in_order
    (StepsBetween-holds facts earlier later p steps [] between).0 in
    let all =
    loads-between facts later earlier made.legal (earlier-legal events facts later earlier p steps made) k k_in
    (online_cpus facts) found (online_cpus-online facts) call.one_each each in
    record {
      stands = all.stands;
      least = rw call.adds_up all.least;
      most = rw call.adds_up all.most;
    }
