-- For other crates too: what each CPU has counted of an event: its bound, its sum over the CPUs, and who knows it.
use Rattle.std.proofs.Common.{◌≡◌, ◌≢◌, ℕ, ◌+◌, ◌≤◌, ◌&&◌, Bool, true, false, [], ◌∷◌, ◌++◌, Option, Some, None, pos}
use Rattle.std.proofs.Common.{◌+ℤ◌, refl, ap, ◌∙◌, arith, if◌then◌else◌, nat_eq, eq-eqb, eqb-true}
use Rattle.std.proofs.lemmas.Int.{ints}
use Rattle.std.proofs.lemmas.Bool.{and_parts, eqb-false}
use Rattle.vms_history.specs.Common.{CpuId, IsCpu, own, total, begun_in, lives_in, owner_in, sum_below, most_volume}
use Rattle.vms_history.specs.declared.events.Event.{Event}
use Rattle.vms_history.proofs.Common.{total-by_parts, if-map, if-never, holds_while_live, own-mine, own-others}
use Rattle.vms_history.proofs.Common.{own-append, same_cpu, owner_is_caller, sum_below-zeros, sum_below-only}
use Rattle.vms_event_core.specs.declared.states.EventState.{EventState}
use Rattle.vms_event_core.specs.declared.steps.EventFacts.{EventFacts}
use Rattle.vms_event_core.specs.declared.steps.EventStep.{EventStep}
use Rattle.vms_event_core.specs.declared.steps.EventStep.TheVariants.{AddE}
use Rattle.vms_event_core.specs.Common.{Meets, events, History, IsLegal, state_after, KeepsSpending, role, counted}
use Rattle.vms_event_core.specs.Common.{spent, spent_by}
use Rattle.vms_event_core.proofs.StateWords.{owner_known}

spent_by-affordable : (facts : EventFacts) (h : History) (s : EventState) (p c k : ℕ) (who : Option CpuId)
    (step : EventStep)
    → owner_in role h p ≡ who → Meets facts h s p step → spent h c k ≤ most_volume
    → spent_by who c k step + spent h c k ≤ most_volume
spent_by-affordable facts h s p c k None (AddE l n) is meets below = omega arith
spent_by-affordable facts h s p c k (Some o) (AddE l n) is meets below =
    by (nat_eq o.number c) (nat_eq l.number k) refl refl
  where
    by : (a b : Bool) → nat_eq o.number c ≡ a → nat_eq l.number k ≡ b
        → (if a && b then n else 0) + spent h c k ≤ most_volume
    by true true cpus kinds =
        let own_cpu : meets.cpu ≡ o = let owns = meets.owns in cc in
        let at : spent h meets.cpu.number l.number ≡ spent h c k =
        ap (λ (d : CpuId). spent h d.number l.number) own_cpu ∙ ap (λ d. spent h d l.number) (eqb-true o.number c cpus)
        ∙ ap (spent h c) (eqb-true l.number k kinds) in
        omega (arith, meets.affordable)
    by true false cpus kinds = omega arith
    by false b cpus kinds = omega arith
spent_by-affordable facts h s p c k (Some o) _ is meets below = omega arith
spent_by-affordable facts h s p c k None _ is meets below = omega arith

pub spent-affordable : (facts : EventFacts) (h : History) (c k : ℕ) → IsLegal facts h → spent h c k ≤ most_volume
spent-affordable facts [] c k legal = omega arith
spent-affordable facts (e ∷ h) c k legal =
    spent_by-affordable facts h (state_after facts h) e.caller c k (owner_in role h e.caller) e.step refl legal.2
    (spent-affordable facts h c k legal.0)

-- a step counts what its CPU spends
spent_by-all : (facts : EventFacts) (h : History) (s : EventState) (p k : ℕ) (who : Option CpuId) (step : EventStep)
    → owner_in role h p ≡ who → ((o : CpuId) → who ≡ Some o → IsCpu facts.layout o.number) → Meets facts h s p step
    → sum_below (λ c. pos (spent_by who c k step)) facts.layout.cpus ≡ counted k step
spent_by-all facts h s p k None (AddE l n) is known meets = let owns = meets.owns in absurd (cc)
spent_by-all facts h s p k (Some o) (AddE l n) is known meets =
    sum_below-only pos 0 n o.number facts.layout.cpus (nat_eq l.number k) refl (known o refl)
    ∙ if-map pos (nat_eq l.number k) n 0
spent_by-all facts h s p k (Some o) _ is known meets = sum_below-zeros (λ c. pos 0) facts.layout.cpus (λ c c_in. refl)
spent_by-all facts h s p k None _ is known meets = sum_below-zeros (λ c. pos 0) facts.layout.cpus (λ c c_in. refl)

pub counted-spent : (facts : EventFacts) (h : History) (k : ℕ) → IsLegal facts h
    → total (counted k) h ≡ sum_below (λ c. pos (spent h c k)) facts.layout.cpus
counted-spent facts h k =
    total-by_parts events facts (counted k) (λ g c. pos (spent g c k))
    (λ e g c. pos (spent_by (owner_in role g e.caller) c k e.step)) facts.layout.cpus
    (λ c c_in. refl) (λ e g c c_in. omega (arith, ints))
    (λ e g legal.
    spent_by-all facts g (state_after facts g) e.caller k (owner_in role g e.caller) e.step refl
    (owner_known facts g e.caller legal.0) legal.2)
    h

-- a step of another than the owner of a CPU spends nothing of it
pub spent_by-others : (who : Option CpuId) (c : CpuId) (k : ℕ) (step : EventStep) → who ≢ Some c
    → spent_by who c.number k step ≡ 0
spent_by-others (Some o) c k (AddE l n) other = if-never (nat_eq o.number c.number && nat_eq l.number k) n 0 (λ here.
    other (ap Some (same_cpu o c
    (eqb-true o.number c.number (and_parts (nat_eq o.number c.number) (nat_eq l.number k) here).0))))
spent_by-others (Some o) c k _ other = refl
spent_by-others None c k _ other = refl

-- a step of the CPU's owner spends what it counts
pub spent_by-owner : (c : CpuId) (k : ℕ) (step : EventStep) → pos (spent_by (Some c) c.number k step) ≡ counted k step
spent_by-owner c k (AddE l n) = rw (eq-eqb c.number c.number refl) (by (nat_eq l.number k))
  where
    by : (b : Bool) → pos (if true && b then n else 0) ≡ (if b then pos n else pos 0)
    by true = refl
    by false = refl
spent_by-owner c k _ = refl

-- the sums on both sides go the same way, whoever made the newest event
module _ (facts : EventFacts) (h : History) (p : ℕ) (c : CpuId) (k : ℕ) (owns : owner_in role h p ≡ Some c) where
  -- what the CPU counted since is what its owner counted since
  abbrev pub GoesAlong : History → Type 0
  GoesAlong g = pos (spent g c.number k) +ℤ total (counted k) (own h p)
      ≡ pos (spent h c.number k) +ℤ total (counted k) (own g p)

  GoesAlong-next : (e : Event EventStep) (g : History) → IsLegal facts (e ∷ g) → lives_in role g p ≡ true
      → owner_in role g p ≡ Some c → GoesAlong g → GoesAlong (e ∷ g)
  GoesAlong-next e g legal lives now before = by (nat_eq e.caller p) refl
    where
      by : (b : Bool) → nat_eq e.caller p ≡ b → GoesAlong (e ∷ g)
      by true same =
          let mine : e.caller ≡ p = eqb-true e.caller p same in
          let grown : spent_by (owner_in role g e.caller) c.number k e.step ≡ spent_by (Some c) c.number k e.step =
          ap (λ who. spent_by who c.number k e.step) (ap (owner_in role g) mine ∙ now) in
          let own_grown : total (counted k) (own (e ∷ g) p) ≡ counted k e.step +ℤ total (counted k) (own g p) =
          ap (total (counted k)) (own-mine e g p mine) in
          omega (arith, ints, grown, own_grown, spent_by-owner c k e.step, before)
      by false differ =
          let others = eqb-false e.caller p differ in
          let nothing = spent_by-others (owner_in role g e.caller) c k e.step (λ acts_for.
          others (owner_is_caller events facts e g p c legal lives now acts_for)) in
          let own_same : total (counted k) (own (e ∷ g) p) ≡ total (counted k) (own g p) =
          ap (total (counted k)) (own-others e g p others) in
          omega (arith, ints, nothing, own_same, before)

  pub spent-goes_along : (m : History) → IsLegal facts (m ++ h) → lives_in role (m ++ h) p ≡ true
      → p ≤ begun_in role h → GoesAlong (m ++ h)
  spent-goes_along m legal lives given =
      holds_while_live events facts h p GoesAlong (λ es. Unit {0}) (λ e es none. tt)
      (λ e m legal lives owner none before. GoesAlong-next e (m ++ h) legal lives (owner ∙ owns) before)
      given refl m legal lives tt

-- so what its CPU has counted is known to a pass that lives
pub spending-known : (facts : EventFacts) (m h : History) (p : ℕ) → IsLegal facts (m ++ h)
    → lives_in role (m ++ h) p ≡ true
    → p ≤ begun_in role h → own m p ≡ [] → KeepsSpending (m ++ h) h p
spending-known facts m h p legal lives given none c k owns =
    let own_same : total (counted k) (own (m ++ h) p) ≡ total (counted k) (own h p) =
    ap (total (counted k)) (own-append m h p ∙ ap (λ es. es ++ own h p) none) in
    omega (arith, ints, spent-goes_along facts h p c k owns m legal lives given, own_same)
