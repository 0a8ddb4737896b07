-- A local part stands within the list.
use Rattle.std.proofs.Common.{◌≡◌, ℕ, ◌+◌, ◌*◌, ◌<◌, ap, ◌∙◌, arith}
use Rattle.vms_base.proofs.Common.{cell-lt}
use Rattle.vms_report.proofs.all_cpus.local.Goals as goal

within : (cpus cpu width full counters counter : ℕ) → cpu < cpus → counter < counters → width ≡ counters
    → full ≡ cpus * counters → cpu * width + counter < full
within cpus cpu width full counters counter cpu_in counter_in is filled =
    let inside : cpu * counters + counter < cpus * counters = cell-lt counters cpus cpu counter cpu_in counter_in in
    let same : cpu * width ≡ cpu * counters = ap (λ n. cpu * n) is in
    omega (arith, inside, same)

pub overflow_mul-at : goal.overflow_mul-at
overflow_mul-at c =
    let inside = within c.args.layout.now.cpus c.args.cpu.number c.len-width.result c.len-length.result _
    c.args.counter c.requires.cpu c.requires.room.counter c.len-width.ensures.len
    (c.len-length.ensures.len ∙ c.requires.room.one_local_each) in
    omega (arith, inside)

pub overflow_add-at : goal.overflow_add-at
overflow_add-at c =
    let inside = within c.args.layout.now.cpus c.args.cpu.number c.len-width.result c.len-length.result _
    c.args.counter c.requires.cpu c.requires.room.counter c.len-width.ensures.len
    (c.len-length.ensures.len ∙ c.requires.room.one_local_each) in
    omega (arith, inside)
