-- For other crates too: an exchange of what its owner found wins, or the group was taken.
use Rattle.std.proofs.Common.{◌≡◌, ℕ, ⊎_elim, ◌∷◌, Some, ℤ, sym, ap, ◌∙◌, subst, arith}
use Rattle.vms_history.specs.Common.{Diffs, CounterId, CpuId, GroupId, Mode, IsGroup, place_of, group_of, own, Acts}
use Rattle.vms_history.specs.Common.{Works}
use Rattle.vms_base.proofs.Common.{group_of-lt}
use Rattle.vms_history.proofs.Common.{live_is_given, base_can_begin}
use Rattle.vms_core.specs.declared.steps.Facts.{Facts}
use Rattle.vms_core.specs.declared.steps.Step.TheVariants.{Put, Miss}
use Rattle.vms_core.specs.Common.{TellsGroup, eight_zeros, Owns, MayExchange, GoesOnWithout, StandsOrTaken, found}
use Rattle.vms_core.specs.Common.{loaded, CarriesNothing, pages, History, IsLegal, state_after}
use Rattle.vms_core.proofs.LiveOwners.{owned-online, found-stands}
use Rattle.vms_core.proofs.KnowledgeKept.{OwnerKnows-holds}

module _ (facts : Facts) (h : History) (p : ℕ) (cpu : CpuId) (k : CounterId) (w : Diffs) (t : ℕ) (delta : ℤ)
    (may : MayExchange facts h p cpu k w t delta) where
  owns : Owns facts h p cpu
  owns = record { owner = may.owner.owner; within = (owned-online facts h may.legal p cpu may.owner.owner).0 }

  acts : Acts pages facts h p Works
  acts =
      let given = live_is_given pages facts h p may.legal may.owner.lives in
      ((λ main. let some = given.0 in absurd (omega arith)), may.owner.lives)

  group_in : IsGroup facts.layout (group_of k.number)
  group_in = group_of-lt facts.layout (base_can_begin pages facts h may.legal).layout k.number may.counter

  stands : StandsOrTaken (state_after facts h) cpu.number (group_of k.number) w.values
  stands = found-stands facts h may.legal p cpu (group_of k.number) w.values may.owner group_in may.as_found

  pub put-follows : (how : Mode) → TellsGroup (state_after facts h) cpu.number (group_of k.number) w.values
      → IsLegal facts (record { caller = p; step = Put k w t delta how } ∷ h)
  put-follows how told = (
    may.legal,
    acts,
    record {
      cpu = cpu;
      owns = owns;
      counter = may.counter;
      values = told;
      as_found = may.as_found;
      number = may.number;
      as_loaded = may.as_loaded;
      online = (owned-online facts h may.legal p cpu may.owner.owner).1;
      nothing_carried = may.nothing_carried;
      affordable = may.affordable;
    },
  )

  pub miss-follows : (j : GroupId) → j.number ≡ group_of k.number
      → (TellsGroup (state_after facts h) cpu.number (group_of k.number) w.values → ⊥)
      → IsLegal facts (record { caller = p; step = Miss j w } ∷ h)
  miss-follows j same lost =
      let zeros : TellsGroup (state_after facts h) cpu.number (group_of k.number) eight_zeros =
      ⊎_elim (λ told. absurd (lost told)) (λ taken. taken) stands in (
        may.legal,
        acts,
        record {
          cpu = cpu;
          owns = owns;
          group = subst (IsGroup facts.layout) (sym same) group_in;
          zeros = subst (λ n. TellsGroup (state_after facts h) cpu.number n eight_zeros) (sym same) zeros;
          as_found = subst (λ n. found cpu n (own h p) ≡ Some w.values) (sym same) may.as_found;
          other = λ none. lost
              (subst (TellsGroup (state_after facts h) cpu.number (group_of k.number)) (sym none) zeros);
        },
      )

  pub zeros-win : w.values ≡ eight_zeros → TellsGroup (state_after facts h) cpu.number (group_of k.number) w.values
  zeros-win none =
      ⊎_elim (λ told. told)
      (λ taken. subst (TellsGroup (state_after facts h) cpu.number (group_of k.number)) (sym none) taken) stands

pub MayExchange-goes_on : (facts : Facts) (later earlier : History) (p : ℕ) (cpu : CpuId) (k : CounterId) (w : Diffs)
    (t : ℕ) (delta : ℤ)
    → GoesOnWithout facts later earlier p → MayExchange facts earlier p cpu k w t delta
    → MayExchange facts later p cpu k w t delta
MayExchange-goes_on facts later earlier p cpu k w t delta goes may =
    let knows = OwnerKnows-holds facts later earlier p cpu goes may.owner.owner in
    let same = goes.own_same in
    record {
      legal = goes.legal;
      owner = record { lives = goes.lives; owner = knows.owner };
      counter = may.counter;
      as_found = ap (found cpu (group_of k.number)) same ∙ may.as_found;
      number = may.number;
      as_loaded = ap (loaded (place_of facts.layout k.number)) same ∙ may.as_loaded;
      nothing_carried = subst (CarriesNothing facts.layout) (sym same) may.nothing_carried;
      affordable = rw (knows.volumes k.number) may.affordable;
    }
