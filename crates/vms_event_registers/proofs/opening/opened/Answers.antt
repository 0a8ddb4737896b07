-- The registers are those of a history without events.
use Rattle.std.proofs.Common.{ℕ, ◌+◌, List, pos, ap, ◌∙◌}
use Rattle.vms_cells.specs.Cells.{filled}
use Rattle.vms_event_core.specs.declared.states.EventState.{EventState}
use Rattle.vms_event_core.specs.Common.{event_count}
use Rattle.vms_event_registers.proofs.Openings.{KeepsEvents-none}
use Rattle.vms_event_registers.proofs.opening.opened.Goals as goal

pub returns : goal.returns
returns c = λ held.
    let state_of : List ℕ → EventState = λ words. record { words = words } in
    KeepsEvents-none c.args.facts.now held _ (ap state_of (c.in_ok-words.ensures ∙ c.as_slice.ensures))
    c.lowest_online.ensures.lowest c.lowest_online.ensures.within
    (c.in_ok-spent.ensures ∙ ap (λ (n : ℕ). filled n event_count 0) c.cpus-cpus.ensures.value)
    (c.in_ok-carried.ensures ∙ ap (λ (n : ℕ). filled (n + 1) event_count (pos 0)) c.cpus-cpus.ensures.value)
