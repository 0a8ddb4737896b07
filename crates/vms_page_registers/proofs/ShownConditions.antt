-- The conditions of page steps, as the parts of the registers show them together.
use Rattle.std.proofs.Common.{◌≡◌, ◌↔◌, ℕ, ◌+◌, ◌≤◌, ℤ, ◌∷◌, Some, subst, sym, unsigned_abs}
use Rattle.vms_history.specs.Common.{CounterId, Covers, CpuId, Diffs, GroupId, IsCpu, IsGroup, IsPlace, IsZone, Online}
use Rattle.vms_history.specs.Common.{PlaceId, group_of, most_threshold, most_volume, own, size_at}
use Rattle.vms_base.proofs.Common.{group_of-lt}
use Rattle.vms_core.specs.declared.states.State.{State}
use Rattle.vms_core.specs.declared.steps.Facts.{Facts}
use Rattle.vms_core.specs.declared.steps.Step.TheVariants.{SetT}
use Rattle.vms_core.specs.Common.{FindsGroup, History, Puts, SetsThreshold, TellsGroup, cpu_at, eight_zeros, found}
use Rattle.vms_core.specs.Common.{mark_at, pages, peak_sum, spent, state_after}
use Rattle.vms_core.specs.Conditions.{Misses}
use Rattle.vms_registers.specs.Slots.{StandsIn}
use Rattle.vms_page_words.specs.Words.{state_of}
use Rattle.vms_page_words.proofs.Slots.{base-here, control-here, owned-here, owns-here}
use Rattle.vms_page_passes.specs.Conditions.{KnowsForMiss, KnowsForPut}
use Rattle.vms_page_registers.specs.declared.registers.PageRegisters.{PageRegisters}
use Rattle.vms_page_registers.specs.Keeps.{KeepsPages}

-- what each part shows of an exchange that wins, made on a group
pub record ShowsPut (facts : Facts) (h : History) (s : State) (slot p : ℕ) (k : CounterId) (j : GroupId) (w : Diffs)
    (t : ℕ) (delta : ℤ) : Type 0 where
  pub knows : KnowsForPut facts h p k w t
  pub online : cpu_at s slot ≡ Online
  pub finds : FindsGroup facts s (record { number = slot }) j w
  pub affordable : spent h slot k.number + unsigned_abs delta ≤ most_volume

-- of one that loses
pub record ShowsMiss (facts : Facts) (h : History) (s : State) (slot p : ℕ) (j : GroupId) (w : Diffs) : Type 0 where
  pub knows : KnowsForMiss facts h p j w
  pub zeros : TellsGroup s slot j.number eight_zeros

-- and of a threshold that is set
pub record ShowsThreshold (facts : Facts) (h : History) (s : State) (slot p : ℕ) (c : CpuId) (g : PlaceId)
    (t : ℕ) : Type 0 where
  pub control : slot ≡ facts.layout.cpus
  pub cpu : IsCpu facts.layout c.number
  pub place : IsPlace facts.layout g.number
  pub online : cpu_at s c.number ≡ Online
  pub least : 1 ≤ t
  pub most : t ≤ most_threshold
  pub covers : IsZone facts.layout g.number → Covers (size_at facts.sizes g.number) (mark_at s g.number)
      (peak_sum facts g.number (record { caller = p; step = SetT c g t } ∷ h))

module _ (facts : Facts) (h : History) (held : ℕ → ℕ) (slot p : ℕ)
    (stands : StandsIn pages facts facts.layout.cpus h held slot p) (r : PageRegisters)
    (keeps : KeepsPages facts h held r) where
  pub puts-shown : (k : CounterId) (j : GroupId) (w : Diffs) (t : ℕ) (delta : ℤ) → j.number ≡ group_of k.number
      → ShowsPut facts h (state_of r.words) slot p k j w t delta
      ↔ Puts facts h (state_after facts h) p k w t delta
  puts-shown k j w t delta group = (
    λ shows.
        let own_cpu = owned-here facts h held slot p stands shows.knows.cpu shows.knows.owns in
        record {
          cpu = record { number = slot };
          owns = owns-here facts h held slot p stands own_cpu.0;
          counter = shows.knows.counter;
          values = subst (λ (n : ℕ). TellsGroup (state_after facts h) slot n w.values) group
              (subst (λ (s : State). TellsGroup s slot j.number w.values) keeps.words shows.finds.values);
          as_found = subst (λ (o : CpuId). found o (group_of k.number) (own h p) ≡ Some w.values) own_cpu.1
              shows.knows.as_found;
          number = shows.knows.number;
          as_loaded = shows.knows.as_loaded;
          online = subst (λ (s : State). cpu_at s slot ≡ Online) keeps.words shows.online;
          nothing_carried = shows.knows.nothing_carried;
          affordable = shows.affordable;
        },
    λ puts.
        let own_cpu = owned-here facts h held slot p stands puts.cpu puts.owns in
        let base = base-here facts h held slot p stands in
        record {
          knows = record {
            cpu = puts.cpu;
            owns = puts.owns;
            counter = puts.counter;
            as_found = puts.as_found;
            number = puts.number;
            as_loaded = puts.as_loaded;
            nothing_carried = puts.nothing_carried;
          };
          online = subst (λ (s : State). cpu_at s slot ≡ Online) (sym keeps.words)
              (subst (λ (o : CpuId). cpu_at (state_after facts h) o.number ≡ Online) own_cpu.1 puts.online);
          finds = record {
            cpu = own_cpu.0;
            group = subst (IsGroup facts.layout) (sym group)
                (group_of-lt facts.layout base.layout k.number puts.counter);
            values = subst (λ (s : State). TellsGroup s slot j.number w.values) (sym keeps.words)
                (subst (λ (n : ℕ). TellsGroup (state_after facts h) slot n w.values) (sym group)
                (subst (λ (o : CpuId). TellsGroup (state_after facts h) o.number (group_of k.number) w.values) own_cpu.1
                puts.values));
          };
          affordable = subst (λ (o : CpuId). spent h o.number k.number + unsigned_abs delta ≤ most_volume) own_cpu.1
              puts.affordable;
        },
  )

  pub misses-shown : (j : GroupId) (w : Diffs)
      → ShowsMiss facts h (state_of r.words) slot p j w ↔ Misses facts h (state_after facts h) p j w
  misses-shown j w = (
    λ shows.
        let own_cpu = owned-here facts h held slot p stands shows.knows.cpu shows.knows.owns in
        record {
          cpu = record { number = slot };
          owns = owns-here facts h held slot p stands own_cpu.0;
          group = shows.knows.group;
          zeros = subst (λ (s : State). TellsGroup s slot j.number eight_zeros) keeps.words shows.zeros;
          as_found = subst (λ (o : CpuId). found o j.number (own h p) ≡ Some w.values) own_cpu.1 shows.knows.as_found;
          other = shows.knows.other;
        },
    λ misses.
        let own_cpu = owned-here facts h held slot p stands misses.cpu misses.owns in
        record {
          knows = record {
            cpu = misses.cpu;
            owns = misses.owns;
            group = misses.group;
            as_found = misses.as_found;
            other = misses.other;
          };
          zeros = subst (λ (s : State). TellsGroup s slot j.number eight_zeros) (sym keeps.words)
              (subst (λ (o : CpuId). TellsGroup (state_after facts h) o.number j.number eight_zeros) own_cpu.1
              misses.zeros);
        },
  )

  pub threshold-shown : (c : CpuId) (g : PlaceId) (t : ℕ)
      → ShowsThreshold facts h (state_of r.words) slot p c g t
      ↔ SetsThreshold facts h (state_after facts h) p c g t
  threshold-shown c g t = (
    λ shows. record {
      control = (control-here facts h held slot p stands).0 shows.control;
      cpu = shows.cpu;
      place = shows.place;
      online = subst (λ (s : State). cpu_at s c.number ≡ Online) keeps.words shows.online;
      least = shows.least;
      most = shows.most;
      covers = λ zone. subst (λ (s : State). Covers (size_at facts.sizes g.number) (mark_at s g.number)
          (peak_sum facts g.number (record { caller = p; step = SetT c g t } ∷ h))) keeps.words (shows.covers zone);
    },
    λ sets. record {
      control = (control-here facts h held slot p stands).1 sets.control;
      cpu = sets.cpu;
      place = sets.place;
      online = subst (λ (s : State). cpu_at s c.number ≡ Online) (sym keeps.words) sets.online;
      least = sets.least;
      most = sets.most;
      covers = λ zone. subst (λ (s : State). Covers (size_at facts.sizes g.number) (mark_at s g.number)
          (peak_sum facts g.number (record { caller = p; step = SetT c g t } ∷ h))) (sym keeps.words)
          (sets.covers zone);
    },
  )
