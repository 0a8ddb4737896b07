-- What a pass may still make of the steps of a call, once it has made some of them.
use Rattle.std.proofs.Common.{ℕ, List, [], ◌∷◌, ◌++◌, refl, sym, ap, ◌∙◌, subst, append_assoc}
use Rattle.vms_history.specs.Common.{GoesOnWithout, HasMade}
use Rattle.vms_history.proofs.Common.{made-both}
use Rattle.vms_pcpu_core.specs.declared.steps.PcpuFacts.{PcpuFacts}
use Rattle.vms_pcpu_core.specs.declared.steps.PcpuStep.{PcpuStep}
use Rattle.vms_pcpu_core.specs.Common.{percpu, History, IsLegal, event, MayMake, Tells}
use Rattle.vms_seats.specs.Common.{Pass, Made}

-- the first of the steps
pub may-front : (facts : PcpuFacts) (p : ℕ) (h : History) (front back : List PcpuStep) → MayMake facts p h
    (front ++ back)
    → MayMake facts p h front
may-front facts p h front back may later done step rest is made tells =
    may later done step (rest ++ back) (ap (λ ks. ks ++ back) is ∙ append_assoc done (step ∷ rest) back) made tells

-- the rest of them, once the first are made
pub may-rest : (new old : Pass PcpuFacts PcpuStep) (front back : List PcpuStep) → Made percpu new old front
    → MayMake old.facts old.number old.seen (front ++ back) → MayMake new.facts new.number new.seen back
may-rest new old front back made may later done step rest is then tells =
    let then_old : HasMade percpu old.facts later new.seen old.number done =
    subst (λ facts. HasMade percpu facts later new.seen old.number done) made.facts
    (subst (λ p. HasMade percpu new.facts later new.seen p done) made.number then) in
    let tells_old : Tells old.facts later old.number step =
    subst (λ facts. Tells facts later old.number step) made.facts
    (subst (λ p. Tells new.facts later p step) made.number tells) in
    let legal : IsLegal old.facts (event old.number step ∷ later) =
    may later (front ++ done) step rest (ap (λ ks. front ++ ks) is ∙ sym (append_assoc front done (step ∷ rest)))
    (made-both percpu old.facts later new.seen old.seen old.number front done then_old made.made) tells_old in
    subst (λ facts. IsLegal facts (event new.number step ∷ later)) (sym made.facts)
    (subst (λ p. IsLegal old.facts (event p step ∷ later)) (sym made.number) legal)

-- the next step alone, whatever others did since
pub may-now : (facts : PcpuFacts) (p : ℕ) (h later : History) (step : PcpuStep) → MayMake facts p h (step ∷ [])
    → GoesOnWithout percpu facts later h p → Tells facts later p step → IsLegal facts (event p step ∷ later)
may-now facts p h later step may goes tells = may later [] step [] refl (record {
  legal = goes.legal;
  extends = goes.extends;
  lived = goes.lived;
  lives = goes.lives;
  made = goes.own_same;
}) tells
