-- A world in which a CPU came online stays one of its header.
use Rattle.std.proofs.Common.{◌≡◌, ℕ, List, sym, subst}
use Rattle.std.proofs.Math.ListN.{set}
use Rattle.vms_world.specs.Common.{Header, CpuState, ZoneSize, IsCpu, GivesThresholds, State, AreAnswers, count_online}
use Rattle.vms_world.specs.Common.{refreshed, IsWorldOf}
use Rattle.vms_base.specs.declared.kinds.CpuState.TheVariants.{Online}
use Rattle.vms_world.specs.declared.worlds.World.{World}
use Rattle.vms_world.proofs.Common.{IsWorldOf-brought_up}

module _ (header : Header) (w : World) (c : ℕ) (of : IsWorldOf header w) (c_in : IsCpu header.layout c)
    (answers : ZoneSize → ℕ → ℕ → Type 0) (gives : GivesThresholds answers) (next : State) where
  -- a refresh under these CPU states leads to the next page counters
  abbrev Refreshes : List CpuState → Type 0
  Refreshes states = (zones : List ℕ) × AreAnswers header answers (count_online states) zones
      × (next ≡ refreshed header zones (record w.pages { cpu = states }))

  pub IsWorldOf-up : (states : List CpuState) → states ≡ set w.pages.cpu c Online → Refreshes states
      → IsWorldOf header (record w { pages = next })
  IsWorldOf-up states is refreshes = by (subst Refreshes is refreshes)
    where
      by : Refreshes (set w.pages.cpu c Online) → IsWorldOf header (record w { pages = next })
      by (zones, are, same) = subst (λ (s : State). IsWorldOf header (record w { pages = s })) (sym same)
          (IsWorldOf-brought_up header w c of c_in answers gives zones are)
