-- For other crates too: a world belongs to its header after each boundary, and what a counter adds up to stays.
use Rattle.std.proofs.Common.{◌≡◌, ℕ, ℤ, ◌+ℤ◌, sym, ap, subst, ◌∙◌}
use Rattle.vms_calls.specs.Common.{Header, ZoneSize, IsCounter, GivesThresholds, value_at, differentials}
use Rattle.vms_text.specs.declared.acts.Boundary.{Boundary}
use Rattle.vms_text.specs.declared.acts.Boundary.TheVariants.{Sync, Offline, Online, Flush, Report}
use Rattle.vms_world.specs.declared.worlds.World.{World}
use Rattle.vms_world.specs.Common.{Crosses, MayCross, IsWorldOf}
use Rattle.vms_world.proofs.BroughtUp.{IsWorldOf-brought_up}
use Rattle.vms_world.proofs.Flushes.{IsWorldOf-flushed, total-flushed}
use Rattle.vms_world.proofs.TakenDown.{IsWorldOf-taken_down}

module _ (header : Header) (answers : ZoneSize → ℕ → ℕ → Type 0) (w next : World) (of : IsWorldOf header w) where
  is : (made : World) → IsWorldOf header made → next ≡ made → IsWorldOf header next
  is made holds same = subst (IsWorldOf header) (sym same) holds

  pub IsWorldOf-crossed : GivesThresholds answers → (boundary : Boundary) → MayCross header.layout w.pages boundary
      → Crosses header answers boundary w next → IsWorldOf header next
  IsWorldOf-crossed gives (Offline c) (c_in, online, (d, other, d_in, runs)) same =
      is _ (IsWorldOf-taken_down header w c.number of c_in online d other d_in runs) same
  IsWorldOf-crossed gives (Online c) (c_in, absent) (zones, are, same) =
      is _ (IsWorldOf-brought_up header w c.number of c_in answers gives zones are) same
  IsWorldOf-crossed gives Flush may same = is _ (IsWorldOf-flushed header w of) same
  IsWorldOf-crossed gives Sync may same = is _ of same
  IsWorldOf-crossed gives (Report kind) may same = is _ of same

  -- what a counter adds up to stays
  pub total-crossed : (boundary : Boundary) → Crosses header answers boundary w next → (k : ℕ)
      → IsCounter header.layout k
      → value_at next.pages k +ℤ differentials header.layout next.pages k
      ≡ value_at w.pages k +ℤ differentials header.layout w.pages k
  total-crossed boundary crossed k k_in = by boundary crossed
    where
      total : World → ℤ
      total x = value_at x.pages k +ℤ differentials header.layout x.pages k

      by : (boundary : Boundary) → Crosses header answers boundary w next → total next ≡ total w
      by (Offline c) same = ap total same
      by (Online c) (zones, are, same) = ap total same
      by Flush same = ap total same
          ∙ total-flushed header.layout of.page_base.layout w.pages of.page_base.opening.shaped k k_in
      by Sync same = ap total same
      by (Report kind) same = ap total same
