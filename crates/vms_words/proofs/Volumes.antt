-- Volumes hold what a CPU has spent, after a step that spends nothing.
use Rattle.std.proofs.Common.{◌≡◌, ℕ, List, [], ◌∷◌, Option, Some, None, refl, sym, ap, ◌∙◌, subst, arith}
use Rattle.vms_calls.specs.Common.{CpuId, owner_in, Facts, Step, Put, SetT, SetM, SetO, LoadA, pages, role, spent}
use Rattle.vms_calls.specs.Common.{spent_by}
use Rattle.vms_seats.specs.Common.{Pass, MadeOne}
use Rattle.vms_seats.proofs.Common.{calls-live}
use Rattle.vms_core.proofs.Common.{OwnerKnows-holds}
use Rattle.vms_words.specs.Common.{HoldsSpending, IsOwningPass, SpendsNothing, KeepsNumbers, groups_start}

pub keeps-spends : (step : Step) → KeepsNumbers step → SpendsNothing step
keeps-spends (Put k w t delta how) keeps = keeps
keeps-spends (SetT c g t) keeps = tt
keeps-spends (SetM g m) keeps = tt
keeps-spends (SetO c) keeps = tt
keeps-spends (LoadA c g x) keeps = tt
keeps-spends _ keeps = tt

spent_by-nothing : (who : Option CpuId) (c k : ℕ) (step : Step) → SpendsNothing step → spent_by who c k step ≡ 0
spent_by-nothing None c k step nothing = refl
spent_by-nothing (Some d) c k (Put l w t delta how) nothing = absurd nothing
spent_by-nothing (Some d) c k _ nothing = refl

module _ (new old : Pass Facts Step) (cpu : CpuId) (volume : List ℕ) (step : Step)
    (owning : IsOwningPass old cpu volume) (made : MadeOne pages new old step) (nothing : SpendsNothing step) where
  spent-same : (k : ℕ) → spent new.seen cpu.number k ≡ spent old.seen cpu.number k
  spent-same k =
      let before = made.at.before in
      let none = spent_by-nothing (owner_in role before old.number) cpu.number k step nothing in
      let was = (OwnerKnows-holds old.facts before old.seen old.number cpu made.at.others
      (owning.live.owner ∙ owning.owns)).volumes k in
      ap (λ h. spent h cpu.number k) made.at.newest ∙ omega (arith, none, was)

  pub owning-step : IsOwningPass new cpu volume
  owning-step = record {
    live = calls-live pages new old (step ∷ []) owning.live made.all;
    owns = made.all.cpu ∙ owning.owns;
    holds = subst (λ facts. HoldsSpending facts.layout new.seen cpu.number volume) (sym made.all.facts) (record {
      one_each = owning.holds.one_each;
      spent_within = λ k known. rw (spent-same k) (owning.holds.spent_within k known);
      most = owning.holds.most;
    });
  }

-- so it is with what the pass keeps beside them: where the CPU's groups begin
pub keeping-step : (new old : Pass Facts Step) (cpu : CpuId) (first : ℕ) (volume : List ℕ) (step : Step)
    → IsOwningPass old cpu volume × (first ≡ groups_start old.facts.layout cpu.number) → MadeOne pages new old step
    → SpendsNothing step
    → IsOwningPass new cpu volume × (first ≡ groups_start new.facts.layout cpu.number)
keeping-step new old cpu first volume step (owning, at) made nothing = (
  owning-step new old cpu volume step owning made nothing,
  subst (λ (facts : Facts). first ≡ groups_start facts.layout cpu.number) (sym made.all.facts) at,
)
