-- Where all CPUs are online.
use Rattle.std.proofs.Common.{◌≡◌, ℕ, ◌<◌, FitsSigned, w64, to_z-of_z, List, length, ap, subst, ◌∙◌, arith}
use Rattle.std.proofs.lemmas.Int.{ints}
use Rattle.vms_calls.specs.Common.{CpuState, Online, state_at, State}
use Rattle.vms_plain_pages.proofs.SnapshotSteps.{online_diffs-all}
use Rattle.vms_plain_pages.proofs.values.hidden.Goals as goal

pub returns-then-are_online-clause-value : goal.returns-then-are_online-clause-value
returns-then-are_online-clause-value c =
    let s = c.args.pages.now in
    let bound = c.hidden_by_all.ensures.bound in
    let fits : FitsSigned w64 c.hidden_by_all.result = omega (arith, ints) in
    let states = c.as_slice.ensures ∙ ap (λ (state : State). state.cpu) c.state.ensures in
    let all = subst (λ (cs : List CpuState). (c : ℕ) → c < length cs → state_at cs c ≡ Online) states
    (c.are_online.ensures.0 c.if-are_online.true) in
    to_z-of_z fits
    ∙ c.hidden_by_all.ensures.value
    ∙ online_diffs-all c.args.layout.now s c.requires.room.shaped.cpu c.args.counter.number all
