-- The steps of the calls that look at values may be made.
use Rattle.std.proofs.Common.{ℕ, suc, ◌+◌, ◌≤◌, ℤ, Bool, true, false, List, [], ◌∷◌, length, sym, subst, arith}
use Rattle.vms_history.specs.Common.{CounterId, IsCounter, IsGroup, IsZone, group_of, owner_in, Header, WaterMark}
use Rattle.vms_history.specs.Common.{CpuId, PlaceId, IsLayout}
use Rattle.vms_history.proofs.Common.{base_can_begin}
use Rattle.vms_core.specs.declared.steps.Facts.{Facts}
use Rattle.vms_core.specs.declared.steps.Step.{Step}
use Rattle.vms_calls.specs.Common.{in_turn, facts_of, Look, Frees, IsPlaceValue, IsSystemValue, IsSnapshot}
use Rattle.vms_calls.specs.Common.{IsWatermarkTest, look_steps, is_doubtful, free_pages, online, other, MakesPlaceValue}
use Rattle.vms_calls.specs.Common.{MakesSystemValue, MakesSnapshot, MakesTest}
use Rattle.vms_calls.specs.declared.answers.Verdict.{Verdict}
use Rattle.vms_core.specs.Common.{pages, History, role}
use Rattle.vms_core.proofs.Common.{first-known}
use Rattle.vms_base.proofs.Common.{group_of-lt}
use Rattle.vms_calls.proofs.MayBegin.{call-begins}
use Rattle.vms_calls.proofs.StepRuns.{Runs, runs-may}
use Rattle.vms_core.specs.declared.states.State.{State}
use Rattle.std.specs.Prelude.{Option}

module _ (facts : Facts) (layout : IsLayout facts.layout) (p : ℕ) (who : Option CpuId) where
  looks-run : (j c : ℕ) (looks : List Look) (h : History) → IsGroup facts.layout j
      → c + length looks ≤ facts.layout.cpus
      → Runs facts p who (in_turn (look_steps j) c looks) h (λ then. Unit {0})
  looks-run j c [] h j_in within = tt
  looks-run j c (online w ∷ looks) h j_in within = (
    λ knows. omega arith,
    λ knows told.
        (λ knows. (omega arith, j_in), λ knows told. looks-run j (suc c) looks _ j_in (omega arith)),
  )
  looks-run j c (other x differs ∷ looks) h j_in within =
      (λ knows. omega arith, λ knows told. looks-run j (suc c) looks _ j_in (omega arith))

  pub snapshot-runs : (k : CounterId) (steps : List Step) (answer : ℕ) (h : History) → IsCounter facts.layout k.number
      → IsSnapshot facts.layout k steps answer → Runs facts p who steps h (λ then. Unit {0})
  snapshot-runs k steps answer h k_in call =
      subst (λ ks. Runs facts p who ks h (λ then. Unit {0})) (sym call.in_order) (
        λ knows. k_in,
        λ knows told. looks-run (group_of k.number) 0 call.looks _ (group_of-lt facts.layout layout k.number k_in)
            (let count = call.one_each in omega arith),
      )

  further-runs : (k : CounterId) (doubt : Bool) (value : ℤ) (steps : List Step) (free : ℕ) (h : History)
      → IsCounter facts.layout k.number → Frees facts.layout k doubt value steps free
      → Runs facts p who steps h (λ then. Unit {0})
  further-runs k true value steps free h k_in frees = snapshot-runs k steps free h k_in frees
  further-runs k false value steps free h k_in frees =
      subst (λ ks. Runs facts p who ks h (λ then. Unit {0})) (sym frees.0) tt

-- a test of a watermark, in a phase of a header
module _ (header : Header) (base : State) (layout : IsLayout header.layout) (p : ℕ) (who : Option CpuId) where
  pub test-runs : (g : PlaceId) (mark : WaterMark) (most : ℕ) (steps : List Step) (answer : Verdict) (h : History)
      → IsZone header.layout g.number → IsWatermarkTest header g mark most steps answer
      → Runs (facts_of header base) p who steps h (λ now. Unit {0})
  test-runs g mark most steps answer h zone call =
      let facts = facts_of header base in
      let k = free_pages header.layout g in
      let k_in : IsCounter header.layout k.number = first-known header.layout layout g.number (omega arith) in
      subst (λ ks. Runs facts p who ks h (λ now. Unit {0})) (sym call.in_order) (
        λ knows. zone,
        λ knows told. (
          λ knows. k_in,
          λ knows told. (
            λ knows. zone,
            λ knows told.
                further-runs facts layout p who k (is_doubtful call.first call.value call.second)
                call.value call.further answer.free _ k_in call.frees,
          ),
        ),
      )

pub place_value-may : MakesPlaceValue
place_value-may facts h p k living k_in =
    call-begins facts p h (λ steps. (answer : ℕ) × IsPlaceValue k steps answer) (λ steps call.
    runs-may facts p h living steps
    (subst (λ ks. Runs facts p (owner_in role h p) ks h (λ then. Unit {0})) (sym call.1.in_order) (
      λ knows. k_in,
      λ knows told. tt,
    )))

pub system_value-may : MakesSystemValue
system_value-may facts h p i living i_in =
    call-begins facts p h (λ steps. (answer : ℕ) × IsSystemValue i steps answer) (λ steps call.
    runs-may facts p h living steps
    (subst (λ ks. Runs facts p (owner_in role h p) ks h (λ then. Unit {0})) (sym call.1.in_order) (
      λ knows. i_in,
      λ knows told. tt,
    )))

pub snapshot-may : MakesSnapshot
snapshot-may facts h p k living k_in =
    call-begins facts p h (λ steps. (answer : ℕ) × IsSnapshot facts.layout k steps answer) (λ steps call.
    runs-may facts p h living steps
    (snapshot-runs facts (base_can_begin pages facts h living.legal).layout p (owner_in role h p)
    k steps call.0 h k_in call.1))

pub test-may : MakesTest
test-may header base h p g mark most living zone =
    let facts = facts_of header base in
    call-begins facts p h (λ steps. (answer : Verdict) × IsWatermarkTest header g mark most steps answer)
    (λ steps call.
    runs-may facts p h living steps
    (test-runs header base (base_can_begin pages facts h living.legal).layout p (owner_in role h p)
    g mark most steps call.0 h zone call.1))
