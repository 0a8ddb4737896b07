-- The pass of one lane more begins.
use Rattle.std.proofs.Common.{ap, refl, ℕ, ◌+◌, ◌∙◌}
use Rattle.std.proofs.Math.ListN.{set}
use Rattle.vms_phase_lines.specs.Common.{slot_of}
use Rattle.vms_phase_lines.proofs.Openings.{OpensLanes-more}
use Rattle.vms_phase_lines.proofs.lanes.LanePasses.begin_if.Goals as goal

pub returns-clause-ok : goal.returns-clause-ok
returns-clause-ok c = rw c.if-not-has_lines.false (λ lanes first apart opens.
    OpensLanes-more c.args.header.now lanes c.args.self.now first c.args.out.now.items opens c.args.lane c.requires.lane
    apart c.owner_of.result c.owner_of.ensures (c.args.self.now.begun + 1) refl c.set.new.self
    (c.set.ensures ∙ ap (λ (k : ℕ). set c.args.self.now.passes k (c.args.self.now.begun + 1))
    (c.slot_of.ensures ∙ ap (λ (n : ℕ). slot_of n c.args.lane) c.cpus.ensures.value))
    c.push_event_line.new.out.items c.in_ok-push_event_line.ensures.ok)
