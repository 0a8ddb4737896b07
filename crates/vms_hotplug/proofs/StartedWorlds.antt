-- A refresh of the bare page counters, with nothing counted, is the world that a run begins with.
use Rattle.std.proofs.Common.{◌≡◌, ℕ, List, sym, ap, subst}
use Rattle.std.specs.Prelude.{Result, Ok, Err, IfOk}
use Rattle.vms_world.specs.Common.{Memory, Header, ZoneSize, IsHeader, GivesThresholds, State, AreAnswers, MayRefresh}
use Rattle.vms_world.specs.Common.{count_online, refreshed, bare_pages, started, with_nothing_counted, IsWorldOf}
use Rattle.vms_world.specs.declared.worlds.World.{World}
use Rattle.vms_world.proofs.Common.{IsWorldOf-start, MayRefresh-bare, count_online-replicate}

-- what holds of a world holds of a result that is this world
IfOk-is : (P : World → Type 0) (w : World) → P w → (result : Result World Memory) → IfOk result (λ x. x ≡ w)
    → IfOk result P
IfOk-is P w holds (Err e) is = tt
IfOk-is P w holds (Ok x) is = subst P (sym is) holds

module _ (header : Header) (valid : IsHeader header) (answers : ZoneSize → ℕ → ℕ → Type 0) where
  -- a refresh of this state leads to the next page counters
  abbrev Refreshes : State → State → Type 0
  Refreshes next s = (zones : List ℕ) × AreAnswers header answers (count_online s.cpu) zones
      × (next ≡ refreshed header zones s)

  -- the page counters that a run begins with
  abbrev StartsPages : State → Type 0
  StartsPages s = (zones : List ℕ) × AreAnswers header answers header.layout.cpus zones
      × (s ≡ refreshed header zones (bare_pages header))

  abbrev Starts : World → Type 0
  Starts w = (zones : List ℕ) × AreAnswers header answers header.layout.cpus zones × (w ≡ started header zones)

  made-pages : (next : State) → Refreshes next (bare_pages header) → StartsPages next
  made-pages next (zones, are, same) = (
    zones,
    subst (λ (n : ℕ). AreAnswers header answers n zones) (count_online-replicate header.layout.cpus) are,
    same,
  )

  pub MayRefresh-is : (bare : State) → bare ≡ bare_pages header → MayRefresh header.layout bare
  MayRefresh-is bare is = subst (MayRefresh header.layout) (sym is) (MayRefresh-bare header valid)

  pub StartsPages-told : (next bare : State) → bare ≡ bare_pages header → Refreshes next bare → StartsPages next
  StartsPages-told next bare is refreshes = made-pages next (subst (Refreshes next) is refreshes)

  module _ (pages : State) (starts : StartsPages pages) (result : Result World Memory)
      (told : IfOk result (λ w. w ≡ with_nothing_counted header pages)) where
    counted : StartsPages pages → Starts (with_nothing_counted header pages)
    counted (zones, are, same) = (zones, are, ap (with_nothing_counted header) same)

    pub Starts-told : IfOk result Starts
    Starts-told = IfOk-is Starts (with_nothing_counted header pages) (counted starts) result told

    pub IsWorldOf-told : GivesThresholds answers → IfOk result (IsWorldOf header)
    IsWorldOf-told gives = IfOk-is (IsWorldOf header) (with_nothing_counted header pages) (by (counted starts)) result
        told
      where
        by : Starts (with_nothing_counted header pages) → IsWorldOf header (with_nothing_counted header pages)
        by (zones, are, same) =
            subst (IsWorldOf header) (sym same) (IsWorldOf-start header valid answers gives zones are)
