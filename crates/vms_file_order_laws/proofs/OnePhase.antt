-- For other crates too: the phase of some lines in file order is one.
use Rattle.std.proofs.Common.{◌≡◌, ℕ, List, ap, ◌∙◌}
use Rattle.vms_world.specs.Common.{Header, Item, TableHistories, ZoneSize}
use Rattle.vms_world.specs.declared.worlds.World.{World}
use Rattle.vms_file_order.specs.Common.{IsFileOrderPhase}
use Rattle.vms_file_order_laws.specs.Common.{AnswersOnce}
use Rattle.vms_file_order_laws.proofs.EventCalls as event_table
use Rattle.vms_file_order_laws.proofs.PageCalls as page_table
use Rattle.vms_file_order_laws.proofs.PcpuCalls as pcpu_table

module _ (header : Header) (pressure normal : ZoneSize → ℕ → ℕ → Type 0) (w : World) (items : List Item)
    (hs hs' : TableHistories) where
  pub events-once : IsFileOrderPhase header pressure normal w items hs
      → IsFileOrderPhase header pressure normal w items hs' → hs.events ≡ hs'.events
  events-once order order' = event_table.phase-once header w items hs.events hs'.events order.complete.events.legal
      order'.complete.events.legal order.event_order order'.event_order

  pub counters-once : IsFileOrderPhase header pressure normal w items hs
      → IsFileOrderPhase header pressure normal w items hs' → hs.counters ≡ hs'.counters
  counters-once order order' = pcpu_table.phase-once header w items hs.counters hs'.counters
      order.complete.counters.legal order'.complete.counters.legal order.pcpu_order order'.pcpu_order

  pub pages-once : AnswersOnce pressure → AnswersOnce normal → IsFileOrderPhase header pressure normal w items hs
      → IsFileOrderPhase header pressure normal w items hs' → hs.pages ≡ hs'.pages
  pages-once pressure_once normal_once order order' = page_table.phase-once header w pressure normal pressure_once
      normal_once items hs.pages hs'.pages order.complete.pages.legal order'.complete.pages.legal order.page_order
      order'.page_order

  pub one-phase : AnswersOnce pressure → AnswersOnce normal → IsFileOrderPhase header pressure normal w items hs
      → IsFileOrderPhase header pressure normal w items hs' → hs ≡ hs'
  one-phase pressure_once normal_once order order' =
      ap (λ h. let all : TableHistories = record { pages = h; events = hs.events; counters = hs.counters } in all)
      (pages-once pressure_once normal_once order order')
      ∙ ap (λ h. let all : TableHistories = record { pages = hs'.pages; events = h; counters = hs.counters } in all)
      (events-once order order')
      ∙ ap (λ h. let all : TableHistories = record { pages = hs'.pages; events = hs'.events; counters = h } in all)
      (counters-once order order')
