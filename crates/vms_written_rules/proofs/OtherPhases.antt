-- Written phases and histories, under rules that allow what others answered.
use Rattle.std.proofs.Common.{◌≡◌, ℕ, ◌<◌, ◌≤◌, List, [], ◌∷◌, length, ap, ◌∙◌, arith, get_or-set_same, length-set}
use Rattle.std.proofs.lemmas.List.{length-replicate}
use Rattle.std.specs.Prelude.{slice_index_or}
use Rattle.vms_base.specs.declared.kinds.CpuState.TheVariants.{Dead, Online as IsOnline}
use Rattle.vms_core.proofs.Common.{HasShape-state_after}
use Rattle.vms_core.specs.Pages.{History, state_after}
use Rattle.vms_text.specs.declared.acts.Boundary.{Boundary}
use Rattle.vms_text.specs.declared.acts.Boundary.TheVariants.{Online, Sync}
use Rattle.vms_world.proofs.Common.{count_online-least, count_online-most}
use Rattle.vms_world.specs.Common.{Absent, AreAnswers, Between, CpuId, CpuState, Flush, Header, IsHeader, Item}
use Rattle.vms_world.specs.Common.{MayCross, Offline, Phase, Report, Segment, State, ZoneSize, acts_of, bare_pages}
use Rattle.vms_world.specs.Common.{count_online, facts_of, refreshed, settled, size_at, with_cpu}
use Rattle.vms_written.specs.Common.{CrossesPages, IsWrittenHistory, IsWrittenPhase, LeadsThrough}
use Rattle.vms_written_rules.specs.Rules.{Allows}
use Rattle.vms_written_rules.proofs.OtherCalls.{acts-allowed}

module _ (header : Header) (pressure normal pressure' normal' : ZoneSize → ℕ → ℕ → Type 0)
    (by_pressure : Allows pressure' pressure) (by_normal : Allows normal' normal) where
  pub IsWrittenPhase-allowed : (s : State) (items : List Item) (h : History)
      → IsWrittenPhase header pressure normal s items h → IsWrittenPhase header pressure' normal' s items h
  IsWrittenPhase-allowed s items h is = record {
    complete = is.complete;
    pass = is.pass;
    passes = is.passes;
    lines = λ lane among.
        acts-allowed header s pressure normal pressure' normal' by_pressure by_normal (is.pass lane) lane
        (acts_of lane items) h is.complete.legal (is.lines lane among);
  }

  module _ (valid : IsHeader header) where
    AreAnswers-allowed : (online : ℕ) → 1 ≤ online → online ≤ 128 → (zones : List ℕ)
        → AreAnswers header normal online zones → AreAnswers header normal' online zones
    AreAnswers-allowed online least most zones are = record {
      one_each = are.one_each;
      each = λ g g_in.
          by_normal (size_at header.sizes g) online (slice_index_or zones g 0)
          (valid.sizes_valid g (record { managed = 0; min = 0; low = 0; high = 0 })
          (let as_many = valid.sizes_length in omega (arith, g_in, as_many)))
          least most (are.each g g_in);
    }

    -- page counters with a state for each CPU
    abbrev HasEachCpu : State → Type 0
    HasEachCpu s = length s.cpu ≡ header.layout.cpus

    up-online : (s : State) (c : CpuId) → HasEachCpu s → c.number < header.layout.cpus
        → (1 ≤ count_online (with_cpu s c.number IsOnline).cpu)
        × (count_online (with_cpu s c.number IsOnline).cpu ≤ 128)
    up-online s c one_each c_in =
        let states : List CpuState = (with_cpu s c.number IsOnline).cpu in
        let as_many : length states ≡ header.layout.cpus = length-set s.cpu c.number IsOnline ∙ one_each in
        let up : slice_index_or states c.number Absent ≡ IsOnline =
        get_or-set_same s.cpu c.number IsOnline Absent (omega (arith, one_each, c_in)) in (
          count_online-least header.layout states as_many (c.number, c_in, up),
          count_online-most header.layout states valid.is_layout as_many,
        )

    CrossesPages-allowed : (b : Boundary) (s next : State) → HasEachCpu s → MayCross header.layout s b
        → CrossesPages header normal b s next → CrossesPages header normal' b s next
    CrossesPages-allowed (Offline c) s next one_each may is = is
    CrossesPages-allowed (Online c) s next one_each may (zones, answers, is) =
        let online = up-online s c one_each may.0 in
        (zones, AreAnswers-allowed (count_online (with_cpu s c.number IsOnline).cpu) online.0 online.1 zones answers, is)
    CrossesPages-allowed Flush s next one_each may is = is
    CrossesPages-allowed Sync s next one_each may is = is
    CrossesPages-allowed (Report kind) s next one_each may is = is

    HasEachCpu-crossed : (b : Boundary) (s next : State) → HasEachCpu s → CrossesPages header normal b s next
        → HasEachCpu next
    HasEachCpu-crossed (Offline c) s next one_each is =
        ap (λ (x : State). length x.cpu) is ∙ length-set s.cpu c.number Dead ∙ one_each
    HasEachCpu-crossed (Online c) s next one_each (zones, answers, is) =
        ap (λ (x : State). length x.cpu) is ∙ length-set s.cpu c.number IsOnline ∙ one_each
    HasEachCpu-crossed Flush s next one_each is = ap (λ (x : State). length x.cpu) is ∙ one_each
    HasEachCpu-crossed Sync s next one_each is = ap (λ (x : State). length x.cpu) is ∙ one_each
    HasEachCpu-crossed (Report kind) s next one_each is = ap (λ (x : State). length x.cpu) is ∙ one_each

    LeadsThrough-allowed : (segments : List Segment) (hs : List History) (s last : State) → HasEachCpu s
        → LeadsThrough header pressure normal segments hs s last
        → LeadsThrough header pressure' normal' segments hs s last
    LeadsThrough-allowed [] [] s last one_each led = led
    LeadsThrough-allowed [] (h ∷ hs) s last one_each led = led
    LeadsThrough-allowed (Phase items ∷ segments) [] s last one_each led = led
    LeadsThrough-allowed (Phase items ∷ segments) (h ∷ hs) s last one_each (is, led) = (
      IsWrittenPhase-allowed s items h is,
      LeadsThrough-allowed segments hs (settled (state_after (facts_of header s) h)) last
          (HasShape-state_after (facts_of header s) h is.complete.legal).cpu led,
    )
    LeadsThrough-allowed (Between number b ∷ segments) hs s last one_each (next, may, crosses, led) = (
      next,
      may,
      CrossesPages-allowed b s next one_each may crosses,
      LeadsThrough-allowed segments hs next last (HasEachCpu-crossed b s next one_each crosses) led,
    )

    pub IsWrittenHistory-allowed : (segments : List Segment) (hs : List History)
        → IsWrittenHistory header pressure normal segments hs → IsWrittenHistory header pressure' normal' segments hs
    IsWrittenHistory-allowed segments hs is = record {
      zones = is.zones;
      answers = AreAnswers-allowed header.layout.cpus valid.is_layout.cpus_least valid.is_layout.cpus_most is.zones
          is.answers;
      last = is.last;
      leads = LeadsThrough-allowed segments hs (refreshed header is.zones (bare_pages header)) is.last
          (length-replicate header.layout.cpus IsOnline) is.leads;
    }
