-- A refresh: all zones are visited, and then the thresholds of all nodes are set.
use Rattle.std.proofs.Common.{◌≡◌, ℕ, ◌+◌, ◌++◌, List, length, None, sym, ap, ◌∙◌, subst, arith}
use Rattle.vms_calls.specs.Common.{Header, CpuState, ZoneSize, online_from, state_at, IsLayout, GivesThresholds, after}
use Rattle.vms_calls.specs.Common.{LeadsOn, State, HasShape, pages, facts_of, in_turn, ByNormal, Rates, Refreshes}
use Rattle.vms_calls.specs.Common.{VisitsEach, numbers_below, state_steps}
use Rattle.vms_history.proofs.Common.{after-steps, LeadsOn-append, call-goes_on}
use Rattle.vms_calls.specs.MayMake as making
use Rattle.vms_calls.proofs.Common.{refresh-may}
use Rattle.vms_plain_control.specs.Common.{ControlMakes, MakesPart, KnowsState, KnowsPeaks}
use Rattle.vms_plain_pages.specs.Common.{pages_by_state, pages_are_by_state}
use Rattle.vms_plain_control.proofs.Calls.{Controls-Knows, states-lead}
use Rattle.vms_plain_control.proofs.KnownSteps.{KnowsState-states}
use Rattle.vms_plain_control.proofs.NodeThresholds.{SetsNodes, node_steps}

module _ (header : Header) (layout : IsLayout header.layout) (s mid next : State) (peaks known ts : List ℕ)
    (shaped : HasShape header.layout s) (normal : ZoneSize → ℕ → ℕ → Type 0) (normals : GivesThresholds normal) where
  pub refresh-makes : MakesPart header (λ base p h steps. VisitsEach (facts_of header base) p (online_from 0 s.cpu)
      (Rates (facts_of header base) p (online_from 0 s.cpu) (ByNormal normal))
      (numbers_below (length header.layout.zones)) ts h steps) s peaks mid known
      → mid.cpu ≡ s.cpu
      → MakesPart header (SetsNodes header.layout ts mid.cpu header.layout.nodes) mid known next known
      → ControlMakes header (λ base p h steps. Refreshes (facts_of header base) normal p h steps) s peaks next known
  refresh-makes first same second base h p controls =
      let facts = facts_of header base in
      let loads = in_turn state_steps 0 s.cpu in
      let loaded : LeadsOn pages_by_state None loads s s =
      states-lead 0 s.cpu s (λ i less. let i_is : 0 + i ≡ i = omega arith in ap (state_at s.cpu) i_is) in
      let one = first base (after p loads h) p
      (KnowsState-states facts layout p 0 s.cpu h s peaks (Controls-Knows header base h p s peaks controls)) in
      let visited = loads ++ one.0 in
      let come : after p visited h ≡ after p one.0 (after p loads h) = after-steps p loads one.0 h in
      let two = second base (after p visited h) p (subst (λ k. KnowsState facts k mid known) (sym come) one.3) in
      let nodes : two.0 ≡ node_steps header.layout ts s.cpu 0 header.layout.nodes =
      two.1 ∙ ap (λ (xs : List CpuState). node_steps header.layout ts xs 0 header.layout.nodes) same in
      let steps = visited ++ two.0 in
      let leads : LeadsOn pages_by_state None steps s next =
      LeadsOn-append pages_by_state None visited two.0 s mid next
      (LeadsOn-append pages_by_state None loads one.0 s s mid loaded one.2) two.2 in
      let refreshes : Refreshes facts normal p h steps = record {
        states = s.cpu;
        one_each = shaped.cpu;
        thresholds = ts;
        further = one.0;
        visits = one.1;
        in_order = ap (λ ks. visited ++ ks) nodes;
      } in (
        steps,
        refreshes,
        leads,
        call-goes_on pages making.Tells pages_by_state pages_are_by_state facts p None h
            (λ ks. Refreshes facts normal p h ks) steps next controls.control.living.legal
            controls.control.living.lives controls.control.control
            (refresh-may normal normals facts h p controls.control)
            refreshes (subst (λ (x : State). LeadsOn pages_by_state None steps x next) (sym controls.stands) leads),
        subst (λ k. KnowsPeaks facts k known) (sym (after-steps p visited two.0 h)) two.3.known,
      )
