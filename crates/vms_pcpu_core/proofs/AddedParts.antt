-- What is added to local parts, CPU by CPU, is no more than what others add in all.
use Rattle.std.proofs.Common.{◌≡◌, ℕ, ◌<◌, ◌&&◌, Bool, true, false, [], ◌∷◌, ◌++◌, Option, Some, None, ℤ, pos, ◌+ℤ◌}
use Rattle.std.proofs.Common.{◌-ℤ◌, ◌≤ℤ◌, refl, sym, ap, subst, ◌∙◌, if◌then◌else◌, nat_eq, eq-eqb, arith}
use Rattle.std.proofs.lemmas.Int.{ints}
use Rattle.std.proofs.lemmas.Bool.{ne_eqb}
use Rattle.vms_history.specs.Common.{CpuId, IsCpu, Extends, own, owner_in, sum_below}
use Rattle.vms_history.proofs.Common.{sum_below-sum, sum_below-zeros, sum_below-changed, sum_below-le}
use Rattle.vms_pcpu_core.specs.declared.steps.PcpuFacts.{PcpuFacts}
use Rattle.vms_pcpu_core.specs.declared.steps.PcpuStep.{PcpuStep}
use Rattle.vms_pcpu_core.specs.declared.steps.PcpuStep.TheVariants.{AddL}
use Rattle.vms_pcpu_core.specs.Common.{History, IsLegal, rise, fall, by_others_between, carried, role, amount_of}
use Rattle.vms_pcpu_core.specs.Common.{IsLoad, AreLoads, added_by, added, added_since}
use Rattle.vms_pcpu_core.proofs.OtherChanges.{rise-fall, rise-least, fall-least}
use Rattle.vms_pcpu_core.proofs.Totals.{owned}
use Rattle.vms_pcpu_core.proofs.KnowledgeKept.{loads-before}

-- the rises, or the falls, of the local part of CPU c for counter j by each amount that its owner added, summed up
abbrev pub added_part : (ℤ → ℤ) → History → ℕ → ℕ → ℤ
added_part part [] c j = pos 0
added_part part (e ∷ h) c j = part (added_by (owner_in role h e.caller) c j e.step) +ℤ added_part part h c j

added-parts : (h : History) (c j : ℕ) → added h c j ≡ added_part rise h c j -ℤ added_part fall h c j
added-parts [] c j = omega (arith, ints)
added-parts (e ∷ h) c j = omega (
  arith,
  ints,
  rise-fall (added_by (owner_in role h e.caller) c j e.step),
  added-parts h
      c j,
)

module _ (part : ℤ → ℤ) (least : (x : ℤ) → pos 0 ≤ℤ part x) (none : part (pos 0) ≡ pos 0) where
  added_part-append : (m h : History) (c j : ℕ) → added_part part h c j ≤ℤ added_part part (m ++ h) c j
  added_part-append [] h c j = omega (arith, ints)
  added_part-append (e ∷ m) h c j =
      omega (arith, ints, least (added_by (owner_in role (m ++ h) e.caller) c j e.step), added_part-append m h c j)

  added_part-grows : (g h : History) (c j : ℕ) → Extends g h → added_part part h c j ≤ℤ added_part part g c j
  added_part-grows g h c j more = subst (λ es. added_part part h c j ≤ℤ added_part part es c j) (sym more.1)
      (added_part-append more.0 h c j)

  no_parts : (f : ℕ → ℤ) (n : ℕ) → ((c : ℕ) → f c ≡ pos 0) → sum_below (λ c. part (f c)) n ≡ pos 0
  no_parts f n zeros = sum_below-zeros (λ c. part (f c)) n (λ c below. ap part (zeros c) ∙ none)

  -- what one step adds to all local parts is at most its amount
  step-parts : (who : Option CpuId) (n j : ℕ) (carrying : ℤ) (step : PcpuStep)
      → ((d : CpuId) → who ≡ Some d → d.number < n)
      → sum_below (λ c. part (added_by who c j step)) n ≤ℤ part (amount_of j carrying step)
  step-parts None n j carrying (AddL i a) within =
      omega (
        arith,
        ints,
        no_parts (λ c. added_by None c j (AddL i a)) n (λ c. refl),
        least
            (amount_of j carrying (AddL i a)),
      )
  step-parts (Some d) n j carrying (AddL i a) within = at (nat_eq i.number j)
    where
      one : (b : Bool) → sum_below (λ c. part (if nat_eq d.number c && b then a else pos 0)) n
          ≡ sum_below (λ c. pos 0) n +ℤ (part (if nat_eq d.number d.number && b then a else pos 0) -ℤ pos 0)
      one b =
          sum_below-changed (λ c. pos 0) (λ c. part (if nat_eq d.number c && b then a else pos 0)) d.number n
          (within d refl)
          (λ c below other.
          ap (λ (t : Bool). part (if t && b then a else pos 0)) (ne_eqb d.number c (λ same. other (sym same))) ∙ none)

      here : (b : Bool) → part (if nat_eq d.number d.number && b then a else pos 0) ≡ part (if b then a else pos 0)
      here b = ap (λ (t : Bool). part (if t && b then a else pos 0)) (eq-eqb d.number d.number refl)

      at : (b : Bool)
          → sum_below (λ c. part (if nat_eq d.number c && b then a else pos 0)) n ≤ℤ part (if b then a else pos 0)
      at b = omega (arith, ints, one b, here b, sum_below-zeros (λ c. pos 0) n (λ c below. refl))
  step-parts who n j carrying step within = omega (
    arith,
    ints,
    no_parts (λ c. pos 0) n (λ c. refl),
    least
        (amount_of j carrying step),
  )

  -- since the lock was won, while p makes only loads
  parts-below : (facts : PcpuFacts) (m won : History) (p j : ℕ) → IsLegal facts (m ++ won) → AreLoads (own m p)
      → sum_below (λ c. added_part part (m ++ won) c j -ℤ added_part part won c j) facts.layout.cpus
      ≤ℤ by_others_between part p j won (m ++ won)
  parts-below facts [] won p j legal own_are =
      let zeros =
      sum_below-zeros (λ c. added_part part won c j -ℤ added_part part won c j) facts.layout.cpus
      (λ c below. omega (arith, ints)) in
      omega (arith, ints, zeros)
  parts-below facts (e ∷ m) won p j legal own_are =
      let g : History = m ++ won in
      let who = owner_in role g e.caller in
      let before = loads-before e m p own_are in
      let rest = parts-below facts m won p j legal.0 before.1 in
      let two =
      sum_below-sum (λ c. part (added_by who c j e.step)) (λ c. added_part part g c j -ℤ added_part part won c j)
      facts.layout.cpus in
      let same =
      sum_below-le (λ c. added_part part (e ∷ g) c j -ℤ added_part part won c j)
      (λ c. part (added_by who c j e.step) +ℤ (added_part part g c j -ℤ added_part part won c j)) facts.layout.cpus
      (λ c below. omega (arith, ints)) in
      let step : sum_below (λ c. part (added_by who c j e.step)) facts.layout.cpus
      ≤ℤ (if nat_eq e.caller p then pos 0 else part (amount_of j (carried j (own g e.caller)) e.step)) =
      by (nat_eq e.caller p) who (carried j (own g e.caller)) before.0 (λ d is. owned facts g e.caller d legal.0 is) in
      omega (arith, ints, rest, two, same, step)
    where
      load-parts : (step : PcpuStep) (who : Option CpuId) → IsLoad step → (c : ℕ) → added_by who c j step ≡ pos 0
      load-parts (AddL i a) who is c = absurd is
      load-parts _ who is c = refl

      by : (b : Bool) (who : Option CpuId) (carrying : ℤ) → (b ≡ true → IsLoad e.step)
          → ((d : CpuId) → who ≡ Some d → IsCpu facts.layout d.number)
          → sum_below (λ c. part (added_by who c j e.step)) facts.layout.cpus
          ≤ℤ (if b then pos 0 else part (amount_of j carrying e.step))
      by true who carrying load within =
          omega (
            arith,
            ints,
            no_parts (λ c. added_by who c j e.step) facts.layout.cpus
                (load-parts e.step who (load refl)),
          )
      by false who carrying load within = step-parts who facts.layout.cpus j carrying e.step within

-- the local parts that are found since the lock was won have moved by what others added up and down in all
module _ (facts : PcpuFacts) (m won : History)
    (between : ℕ → History) (p j : ℕ) (legal : IsLegal facts (m ++ won)) (own_are : AreLoads (own m p))
    (kept : (c : ℕ) → IsCpu facts.layout c → Extends (m ++ won) (between c ++ won)) where
  since-parts : (c : ℕ)
      → added_since (between c) won c j
      ≡ (added_part rise (between c ++ won) c j -ℤ added_part rise won c j) -ℤ
      (added_part fall (between c ++ won) c j -ℤ added_part fall won c j)
  since-parts c = omega (arith, ints, added-parts (between c ++ won) c j, added-parts won c j)

  pub added-most : sum_below (λ c. added_since (between c) won c j) facts.layout.cpus ≤ℤ by_others_between rise p j won
      (m ++ won)
  added-most =
      let each =
      sum_below-le (λ c. added_since (between c) won c j) (λ c. added_part rise (m ++ won) c j -ℤ added_part rise won c
      j) facts.layout.cpus
      (λ c below.
      omega (
        arith,
        ints,
        since-parts c,
        added_part-grows rise rise-least refl (m ++ won) (between c ++ won) c j (kept c below),
        added_part-grows fall fall-least refl (between c ++ won) won c j (between c, refl),
      )) in
      omega (arith, ints, each, parts-below rise rise-least refl facts m won p j legal own_are)

  pub added-least : pos 0 ≤ℤ (sum_below (λ c. added_since (between c) won c j) facts.layout.cpus +ℤ by_others_between
      fall p j won (m ++ won))
  added-least =
      let each =
      sum_below-le (λ c. pos 0)
      (λ c. added_since (between c) won c j +ℤ (added_part fall (m ++ won) c j -ℤ added_part fall won c j))
      facts.layout.cpus
      (λ c below.
      omega (
        arith,
        ints,
        since-parts c,
        added_part-grows fall fall-least refl (m ++ won) (between c ++ won) c j (kept c below),
        added_part-grows rise rise-least refl (between c ++ won) won c j (between c, refl),
      )) in
      let two =
      sum_below-sum (λ c. added_since (between c) won c j) (λ c. added_part fall (m ++ won) c j -ℤ added_part fall won c
      j) facts.layout.cpus in
      omega (
        arith,
        ints,
        each,
        two,
        sum_below-zeros (λ c. pos 0) facts.layout.cpus (λ c below. refl),
        parts-below fall fall-least refl facts m won p j legal own_are,
      )
