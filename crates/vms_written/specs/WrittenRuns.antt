-- A whole written history: a list of page events for each phase of a text.
use Rattle.std.specs.Prelude.{◌≡◌, ℕ, List, [], ◌∷◌}
use Rattle.vms_base.specs.declared.kinds.CpuState.TheVariants.{Dead, Online as IsOnline}
use Rattle.vms_text.specs.declared.acts.Boundary.{Boundary}
use Rattle.vms_world.specs.Common.{Offline, Flush, Header, ZoneSize, State, Segment, Phase, Between, facts_of, settled}
use Rattle.vms_world.specs.Common.{with_cpu, MayCross, flushed_pages, bare_pages, AreAnswers, count_online, refreshed}
use Rattle.vms_text.specs.declared.acts.Boundary.TheVariants.{Online}
use Rattle.vms_core.specs.Pages.{History, state_after}
use Rattle.vms_written.specs.WrittenPhases.{IsWrittenPhase}

-- what a boundary line makes of the page counters, where a rule gives the zones their thresholds
abbrev pub CrossesPages : Header → (ZoneSize → ℕ → ℕ → Type 0) → Boundary → State → State → Type 0
CrossesPages header answers (Offline c) s next = next ≡ with_cpu s c.number Dead
CrossesPages header answers (Online c) s next = (zones : List ℕ)
    × AreAnswers header answers (count_online (with_cpu s c.number IsOnline).cpu) zones
    × (next ≡ refreshed header zones (with_cpu s c.number IsOnline))
CrossesPages header answers Flush s next = next ≡ flushed_pages header.layout s
CrossesPages header answers _ s next = next ≡ s

-- the segments lead from one state to another, each phase by its page events, from where the one before it ended, with
-- nothing acknowledged and nothing set
abbrev pub LeadsThrough : Header → (pressure normal : ZoneSize → ℕ → ℕ → Type 0) → List Segment → List History → State
    → State → Type 0
LeadsThrough header pressure normal [] [] s last = s ≡ last
LeadsThrough header pressure normal (Phase items ∷ segments) (h ∷ more) s last =
    IsWrittenPhase header pressure normal s items h
    × LeadsThrough header pressure normal segments more (settled (state_after (facts_of header s) h)) last
LeadsThrough header pressure normal (Between number b ∷ segments) hs s last = (next : State)
    × MayCross header.layout s b × CrossesPages header normal b s next
    × LeadsThrough header pressure normal segments hs next last
LeadsThrough header pressure normal _ _ s last = ⊥

-- these lists are a written history of these segments, from the page counters that a run begins with
pub record IsWrittenHistory (header : Header) (pressure normal : ZoneSize → ℕ → ℕ → Type 0) (segments : List Segment)
    (hs : List History) : Type 0 where
  pub zones : List ℕ
  pub answers : AreAnswers header normal header.layout.cpus zones
  pub last : State
  pub leads : LeadsThrough header pressure normal segments hs (refreshed header zones (bare_pages header)) last
