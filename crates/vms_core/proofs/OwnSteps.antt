-- What a pass may do by its own events it may still do after steps of others.
use Rattle.std.proofs.Common.{ℕ, ℤ, ap, ◌∙◌}
use Rattle.vms_history.specs.Common.{CounterId, CpuId, ItemId, PlaceId}
use Rattle.vms_core.specs.declared.steps.Facts.{Facts}
use Rattle.vms_core.specs.Common.{Owns, AddsToPlace, AddsToSystem, Acknowledges, GoesOnWithout, loaded, took, has_put}
use Rattle.vms_core.specs.Common.{carried, carried_of_item, History}
use Rattle.vms_core.proofs.KnowledgeKept.{owner_in-goes_on}

module _ (facts : Facts) (later earlier : History) (p : ℕ) (goes : GoesOnWithout facts later earlier p) where
  pub Owns-goes_on : (c : CpuId) → Owns facts earlier p c → Owns facts later p c
  Owns-goes_on c owns =
      record { owner = owner_in-goes_on facts later earlier p goes ∙ owns.owner; within = owns.within }

  pub AddsToPlace-goes_on : (k : CounterId) (amount : ℤ) → AddsToPlace facts earlier p k amount
      → AddsToPlace facts later p k amount
  AddsToPlace-goes_on k amount adds =
      record { counter = adds.counter; carries = ap (carried k.number) goes.own_same ∙ adds.carries; some = adds.some }

  pub AddsToSystem-goes_on : (i : ItemId) (amount : ℤ) → AddsToSystem facts earlier p i amount
      → AddsToSystem facts later p i amount
  AddsToSystem-goes_on i amount adds = record {
    item = adds.item;
    carries = ap (carried_of_item facts.layout i.number) goes.own_same ∙ adds.carries;
    some = adds.some;
  }

  pub Acknowledges-goes_on : (g : PlaceId) (a : ℕ) → Acknowledges facts earlier p g a → Acknowledges facts later p g a
  Acknowledges-goes_on g a acknowledges = record {
    cpu = acknowledges.cpu;
    owns = Owns-goes_on acknowledges.cpu acknowledges.owns;
    zone = acknowledges.zone;
    t = acknowledges.t;
    as_loaded = ap (loaded g.number) goes.own_same ∙ acknowledges.as_loaded;
    took_each = λ j j_in at. ap (took acknowledges.cpu g.number j) goes.own_same ∙ acknowledges.took_each j j_in at;
    put_nothing = ap (has_put facts.layout g.number) goes.own_same ∙ acknowledges.put_nothing;
  }
