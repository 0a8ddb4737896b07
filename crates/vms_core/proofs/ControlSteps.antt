-- For other crates too: what the control pass may set stays so while others act, and a dead CPU that it emptied may
-- become absent.
use Rattle.std.proofs.Common.{◌≡◌, ℕ, ◌+◌, ◌*◌, ◌%◌, pos, sym, ap, ◌∙◌, arith}
use Rattle.std.proofs.lemmas.List.{get_or-replicate}
use Rattle.vms_history.specs.Common.{CpuId, PlaceId, Dead, IsCpu, group_of, own}
use Rattle.vms_base.proofs.Common.{group_of-lt}
use Rattle.vms_history.proofs.Common.{base_can_begin}
use Rattle.vms_core.specs.declared.steps.Facts.{Facts}
use Rattle.vms_core.specs.declared.steps.Step.TheVariants.{SetT}
use Rattle.vms_core.specs.Common.{diff_at, cpu_at, IsControl, SetsThreshold, SetsMark, SetsAbsent, GoesOnWithout}
use Rattle.vms_core.specs.Common.{HasTakenAll, pages, History, IsLegal, state_after}
use Rattle.vms_core.proofs.DeadCpus.{dead≢online}
use Rattle.vms_core.proofs.LiveOwners.{online-stays}
use Rattle.vms_core.proofs.OfflineGroups.{offline-stay_taken}
use Rattle.vms_core.proofs.KnowledgeKept.{owner_in-goes_on, control-knows_later}

pub SetsThreshold-goes_on : (facts : Facts) (later earlier : History) (p : ℕ) (c : CpuId) (g : PlaceId) (t : ℕ)
    → GoesOnWithout facts later earlier p → SetsThreshold facts earlier (state_after facts earlier) p c g t
    → SetsThreshold facts later (state_after facts later) p c g t
SetsThreshold-goes_on facts later earlier p c g t goes sets =
    let knows = control-knows_later facts later earlier p goes sets.control in
    record {
      control = owner_in-goes_on facts later earlier p goes ∙ sets.control;
      cpu = sets.cpu;
      place = sets.place;
      online = knows.cpus c.number ∙ sets.online;
      least = sets.least;
      most = sets.most;
      covers = λ zone.
          rw (
            knows.marks g.number,
            knows.next_peak_sums
                (record { caller = p; step = SetT c g t }) g.number,
          )
          (sets.covers zone);
    }

pub SetsMark-goes_on : (facts : Facts) (later earlier : History) (p : ℕ) (g : PlaceId) (m : ℕ)
    → GoesOnWithout facts later earlier p → SetsMark facts earlier p g m → SetsMark facts later p g m
SetsMark-goes_on facts later earlier p g m goes sets =
    let knows = control-knows_later facts later earlier p goes sets.control in
    record {
      control = owner_in-goes_on facts later earlier p goes ∙ sets.control;
      zone = sets.zone;
      below = sets.below;
      covers = rw (knows.peak_sums g.number) sets.covers;
    }

pub SetsAbsent-taken : (facts : Facts) (h : History) (p : ℕ) (c : CpuId) → IsLegal facts h → IsControl h p
    → IsCpu facts.layout c.number → cpu_at (state_after facts h) c.number ≡ Dead → HasTakenAll facts c.number (own h p)
    → SetsAbsent facts h (state_after facts h) p c
SetsAbsent-taken facts h p c legal control c_in dead took = record {
  control = control;
  cpu = c_in;
  dead = dead;
  zeros = λ k k_in.
      let group = group_of-lt facts.layout (base_can_begin pages facts h legal).layout k k_in in
      let at : 8 * group_of k + k % 8 ≡ k = omega arith in
      let zero =
      offline-stay_taken facts h legal p c.number (group_of k) c_in group
      (λ online. dead≢online (sym dead ∙ online-stays facts h c.number legal online)) (took (group_of k) group) in
      ap (diff_at (state_after facts h) c.number) (sym at) ∙ sym (zero.each (k % 8) (omega arith))
      ∙ get_or-replicate 8 (k % 8) (pos 0) (pos 0) (omega arith);
}
