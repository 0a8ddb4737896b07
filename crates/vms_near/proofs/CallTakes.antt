-- For other crates too: a call takes differentials of no CPU but the one that it folds.
use Rattle.std.proofs.Common.{◌≡◌, ◌≢◌, ℕ, pos, List, [], ◌∷◌, false, Option, Some, None, refl, sym, subst, ◌∙◌, arith}
use Rattle.std.proofs.Common.{suc, ne_eqb}
use Rattle.std.proofs.lemmas.Bool.{eqb-false}
use Rattle.vms_calls.specs.Common.{ByNormal, ByPressure, CpuId, Header, History, State, Step, Take, ZoneSize, facts_of}
use Rattle.vms_calls.specs.PageCalls.{IsPageCall, owns_cpu}
use Rattle.vms_calls.specs.declared.page_calls.PageAnswer.{PageAnswer}
use Rattle.vms_calls.specs.declared.page_calls.PageAnswer.TheVariants as answer
use Rattle.vms_calls.specs.declared.page_calls.PageCall.{PageCall}
use Rattle.vms_calls.specs.declared.page_calls.PageCall.TheVariants.{Bury, Change, Fold, SetNormal, SetPressure}
use Rattle.vms_calls.specs.declared.page_calls.PageCall.TheVariants.{Snapshot, System, Test, Turn, Value}
use Rattle.vms_calls.proofs.Common.{Each, IsStill, looks-still, node-each, ratings-still, snapshot-each, test-each}
use Rattle.vms_calls.proofs.Common.{turn-each}
use Rattle.vms_near.specs.CallFlight.{folds_cpu, most_overstep, takes_from}
use Rattle.vms_near.proofs.CallFlight.{burial-goes, change-kept}
use Rattle.vms_near.proofs.FoldMoves.{fold-goes}
use Rattle.vms_near.proofs.OneCpu.{TakesOf, goes-each, goes-takes}

module _ (c : CpuId) where
  -- a step takes nothing of CPU c
  abbrev pub LeavesCpu : Step → Type 0
  LeavesCpu step = takes_from (Some c) step ≡ false

  still-leaves : (step : Step) → IsStill step → LeavesCpu step
  still-leaves (Take d j w) still = absurd still
  still-leaves _ still = refl

  takes-leave : (d : CpuId) → d.number ≢ c.number → (step : Step) → TakesOf d step → LeavesCpu step
  takes-leave d other (Take b j w) takes =
      ne_eqb c.number b.number (λ same. other (sym takes ∙ sym same))
  takes-leave d other _ takes = refl

  each-leaves : (Kind : Step → Type 0) → ((step : Step) → Kind step → LeavesCpu step) → (steps : List Step)
      → Each Kind steps → Each LeavesCpu steps
  each-leaves Kind leaves [] each = tt
  each-leaves Kind leaves (step ∷ steps) each = (leaves step each.0, each-leaves Kind leaves steps each.1)

  still-each : (steps : List Step) → Each IsStill steps → Each LeavesCpu steps
  still-each = each-leaves IsStill still-leaves

  abbrev next_cpu : CpuId
  next_cpu = record { number = suc c.number }

  module _ (header : Header) (base : State) (pressure normal : ZoneSize → ℕ → ℕ → Type 0) (p : ℕ) (h : History)
      (steps : List Step) where
    pub call-leaves : (call : PageCall) (owner : Option CpuId) (told : PageAnswer)
        → IsPageCall header base pressure normal call owner p h steps told → folds_cpu c call ≡ false
        → Each LeavesCpu steps
    call-leaves (Change k delta how) (Some o) answer.Done is off =
        each-leaves (TakesOf next_cpu) (takes-leave next_cpu (λ same. omega (arith, same))) steps
        (goes-takes (λ z. 0) (Some next_cpu) next_cpu 0 0 (most_overstep how) (λ y. Unit {0}) steps (pos 0)
        (goes-each (λ z. 0) (Some next_cpu) next_cpu 0 0 (most_overstep how) steps (pos 0)
        (change-kept (λ z. 0) (Some next_cpu) next_cpu 0 0 (most_overstep how) header.layout o k delta how steps is
        refl (omega arith) (omega arith))))
    call-leaves (Fold d) owner answer.Done is off =
        each-leaves (TakesOf d) (takes-leave d (eqb-false d.number c.number off)) steps
        (goes-takes (λ z. 0) None d 0 0 0 (λ y. Unit {0}) steps (pos 0)
        (fold-goes (λ z. 0) None d 0 0 0 header.layout (owns_cpu owner d) steps is))
    call-leaves (Bury d) None answer.Done is off =
        each-leaves (TakesOf d) (takes-leave d (eqb-false d.number c.number off)) steps
        (goes-takes (λ z. 0) None d 0 0 0 (λ y. Unit {0}) steps (pos 0)
        (burial-goes (λ z. 0) None d 0 0 0 (facts_of header base) normal p h steps is))
    call-leaves (Test z mark most) owner (answer.Tested verdict) is off =
        still-each steps (test-each IsStill looks-still header z mark most steps verdict is)
    call-leaves (Value k) owner (answer.Value told) is off =
        still-each steps (subst (Each IsStill) (sym is.in_order) (tt, tt))
    call-leaves (Snapshot k) owner (answer.Snapshot told) is off =
        still-each steps (snapshot-each IsStill looks-still header.layout k steps told is)
    call-leaves (System i) owner (answer.System told) is off =
        still-each steps (subst (Each IsStill) (sym is.in_order) (tt, tt))
    call-leaves (SetPressure n) None answer.Done is off = still-each steps
        (node-each IsStill ratings-still (facts_of header base) (ByPressure pressure normal) n p h steps is)
    call-leaves (SetNormal n) None answer.Done is off =
        still-each steps (node-each IsStill ratings-still (facts_of header base) (ByNormal normal) n p h steps is)
    call-leaves (Turn n order most) None (answer.Balanced balance) is off = still-each steps
        (turn-each IsStill ratings-still header base pressure normal n order most p h steps balance is)
    call-leaves _ _ _ is off = absurd is
