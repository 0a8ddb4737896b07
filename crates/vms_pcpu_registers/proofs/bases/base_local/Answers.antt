use Rattle.std.proofs.Common.{◌≡◌, ℕ, ◌+◌, ◌*◌, ◌^◌, ◌<◌, ap, ◌∙◌, arith}
use Rattle.vms_base.proofs.Common.{cell-lt}
use Rattle.vms_pcpu_registers.proofs.bases.base_local.Goals as goal

small : (cpus cpu width full counters counter : ℕ) → cpu < cpus → counter < counters → width ≡ counters
    → full ≡ cpus * counters → full < 2 ^ 63
    → cpu * width + counter < 2 ^ 63
small cpus cpu width full counters counter cpu_in counter_in is filled bound =
    let inside : cpu * counters + counter < cpus * counters = cell-lt counters cpus cpu counter cpu_in counter_in in
    let same : cpu * width ≡ cpu * counters = ap (λ n. cpu * n) is in
    omega (arith, inside, same)

pub overflow_mul-at : goal.overflow_mul-at
overflow_mul-at c =
    let most = small c.args.facts.now.layout.cpus c.args.cpu c.len-counters.result c.len-length.result _ c.args.counter
    c.requires.cpu c.requires.counter c.len-counters.ensures.len (c.len-length.ensures.len ∙ c.requires.full)
    (let bound = c.len-length.ensures.bound in omega (arith, c.len-length.ensures.len)) in
    omega (arith, most)

pub overflow_add-at : goal.overflow_add-at
overflow_add-at c =
    let most = small c.args.facts.now.layout.cpus c.args.cpu c.len-counters.result c.len-length.result _ c.args.counter
    c.requires.cpu c.requires.counter c.len-counters.ensures.len (c.len-length.ensures.len ∙ c.requires.full)
    (let bound = c.len-length.ensures.bound in omega (arith, c.len-length.ensures.len)) in
    omega (arith, most)
