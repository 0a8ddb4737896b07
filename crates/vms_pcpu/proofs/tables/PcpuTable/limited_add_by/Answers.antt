-- The goals were that each step may be made, and that the steps are those of a limited addition.
use Rattle.std.proofs.Common.{◌≡◌, ◌≤◌, ◌+ℤ◌, Bool, true, false, ℤ, unsigned_abs, w64, to_z, of_z, List, [], ◌∷◌, sym}
use Rattle.std.proofs.Common.{subst, arith}
use Rattle.std.proofs.lemmas.Result.{err_from_is_err_and}
use Rattle.vms_history.specs.Common.{IsCpu, most_volume}
use Rattle.vms_pcpu_core.specs.declared.steps.PcpuFacts.{PcpuFacts}
use Rattle.vms_pcpu_core.specs.declared.steps.PcpuStep.{PcpuStep}
use Rattle.vms_pcpu_core.specs.declared.steps.PcpuStep.TheVariants.{TakeL, AddC, Unlock}
use Rattle.vms_pcpu_core.specs.Common.{IsLimitedAdd, Judges, present_cpus, unknown, yes_ends, no_ends, percpu, MayMake}
use Rattle.vms_pcpu_core.specs.Common.{batch_at}
use Rattle.vms_pcpu_core.proofs.Common.{owned}
use Rattle.vms_pcpu.proofs.HeldTries.{gave-up_limited_add}
use Rattle.vms_pcpu.proofs.LimitCalls.{limited_nothing, zero_word, other_word, probes-as, judges-as, ending-may}
use Rattle.vms_pcpu.proofs.LimitCalls.{ending-made}
use Rattle.vms_pcpu.proofs.SmallNumbers.{same_sum, same_word}
use Rattle.vms_pcpu.proofs.tables.PcpuTable.limited_add_by.Goals as goal
use Rattle.vms_seats.specs.Common.{Made}

pub returns-then-amount-eq0-clause-made : goal.returns-then-amount-eq0-clause-made
returns-then-amount-eq0-clause-made g c =
    let old = c.args.worker.now in
    let own = c.args.own in
    let j = c.args.counter in
    let facts = c.args.self.now.facts in
    let limit : ℤ = c.args.limit in
    let amount : ℤ = c.args.amount in
    let room_left = c.requires.may.affordable in
    let most : unsigned_abs amount ≤ most_volume = omega (arith, room_left) in
    limited_nothing old own j limit amount c.requires.may facts c.requires.table.facts
    (zero_word amount most c.if-amount-eq0.true)

pub move_local-requires-clause-cpu : goal.move_local-requires-clause-cpu
move_local-requires-clause-cpu g c =
    let old = c.args.worker.now in
    subst (λ (f : PcpuFacts). IsCpu f.layout c.args.own.number) c.requires.table.facts
    (owned old.facts old.seen old.number c.args.own c.requires.may.calls.legal c.requires.may.owner)

pub move_local-requires-clause-may : goal.move_local-requires-clause-may
move_local-requires-clause-may g c =
    let old = c.args.worker.now in
    let own = c.args.own in
    let j = c.args.counter in
    let facts = c.args.self.now.facts in
    let limit : ℤ = c.args.limit in
    let amount : ℤ = c.args.amount in
    let room_left = c.requires.may.affordable in
    let most : unsigned_abs amount ≤ most_volume = omega (arith, room_left) in
    let small = c.load_count.ensures.bound in
    let limit_most = c.requires.limit in
    let v = c.load_count.result in
    let limits : to_z w64 (of_z w64 limit) ≡ limit = same_word limit (omega (arith, limit_most)) in
    let amounts : to_z w64 (of_z w64 amount) ≡ amount = same_word amount (omega (arith, most)) in
    let value = same_sum v amount (omega (arith, small)) (omega (arith, most)) in
    let probing = c.if-add_unlocked.ensures.0 in
    let probes = probes-as (batch_at facts.base j.number) (unknown facts j.number) _ limit own j _ amount probing limits
    amounts c.if-add_unlocked.ensures.1 in
    let judged = c.keeps_limit-keeps.new.worker in
    let loads = c.keeps_limit-keeps.ensures.0 in
    let judges = subst
    (λ (b : Bool). Judges (unknown facts j.number) limit (present_cpus facts) j amount (v +ℤ amount) loads b)
    c.if-keeps.true
    (judges-as (unknown facts j.number) _ limit (present_cpus facts) j _ amount _ (v +ℤ amount) loads
    c.keeps_limit-keeps.result limits amounts value c.keeps_limit-keeps.ensures.1) in
    subst
    (λ (a : ℤ). (u : ℤ) → MayMake judged.facts judged.number judged.seen
    (TakeL j own u ∷ AddC j (u +ℤ a) ∷ Unlock j ∷ [])) (sym amounts)
    (λ u. ending-may old own j limit amount c.requires.may facts c.requires.table.facts
    (other_word amount c.if-amount-eq0.false) c.add_unlocked.new.worker probing probes c.if-add_unlocked.ensures.2
    c.lock.new.worker c.in_ok-lock.ensures.won.0 c.in_ok-lock.ensures.won.1 c.in_ok-lock.ensures.won.2
    c.load_count.new.worker v
    c.load_count.ensures.made judged loads c.keeps_limit-keeps.ensures.2 true
    (TakeL j own u ∷ AddC j (u +ℤ amount) ∷ Unlock j ∷ []) judges (yes_ends u))

pub unlock-requires-clause-may : goal.unlock-requires-clause-may
unlock-requires-clause-may g c =
    let old = c.args.worker.now in
    let own = c.args.own in
    let j = c.args.counter in
    let facts = c.args.self.now.facts in
    let limit : ℤ = c.args.limit in
    let amount : ℤ = c.args.amount in
    let room_left = c.requires.may.affordable in
    let most : unsigned_abs amount ≤ most_volume = omega (arith, room_left) in
    let small = c.load_count.ensures.bound in
    let limit_most = c.requires.limit in
    let v = c.load_count.result in
    let limits : to_z w64 (of_z w64 limit) ≡ limit = same_word limit (omega (arith, limit_most)) in
    let amounts : to_z w64 (of_z w64 amount) ≡ amount = same_word amount (omega (arith, most)) in
    let value = same_sum v amount (omega (arith, small)) (omega (arith, most)) in
    let probing = c.if-add_unlocked.ensures.0 in
    let probes = probes-as (batch_at facts.base j.number) (unknown facts j.number) _ limit own j _ amount probing limits
    amounts c.if-add_unlocked.ensures.1 in
    let judged = c.keeps_limit-keeps.new.worker in
    let loads = c.keeps_limit-keeps.ensures.0 in
    let judges = subst
    (λ (b : Bool). Judges (unknown facts j.number) limit (present_cpus facts) j amount (v +ℤ amount) loads b)
    c.if-keeps.false
    (judges-as (unknown facts j.number) _ limit (present_cpus facts) j _ amount _ (v +ℤ amount) loads
    c.keeps_limit-keeps.result limits amounts value c.keeps_limit-keeps.ensures.1) in
    ending-may old own j limit amount c.requires.may facts c.requires.table.facts
    (other_word amount c.if-amount-eq0.false) c.add_unlocked.new.worker probing probes c.if-add_unlocked.ensures.2
    c.lock.new.worker c.in_ok-lock.ensures.won.0 c.in_ok-lock.ensures.won.1 c.in_ok-lock.ensures.won.2
    c.load_count.new.worker v
    c.load_count.ensures.made judged loads c.keeps_limit-keeps.ensures.2 false (Unlock j ∷ []) judges no_ends

pub returns-then-keeps-clause-made : goal.returns-then-keeps-clause-made
returns-then-keeps-clause-made g c =
    let old = c.args.worker.now in
    let own = c.args.own in
    let j = c.args.counter in
    let facts = c.args.self.now.facts in
    let limit : ℤ = c.args.limit in
    let amount : ℤ = c.args.amount in
    let room_left = c.requires.may.affordable in
    let most : unsigned_abs amount ≤ most_volume = omega (arith, room_left) in
    let small = c.load_count.ensures.bound in
    let limit_most = c.requires.limit in
    let v = c.load_count.result in
    let limits : to_z w64 (of_z w64 limit) ≡ limit = same_word limit (omega (arith, limit_most)) in
    let amounts : to_z w64 (of_z w64 amount) ≡ amount = same_word amount (omega (arith, most)) in
    let value = same_sum v amount (omega (arith, small)) (omega (arith, most)) in
    let probing = c.if-add_unlocked.ensures.0 in
    let probes = probes-as (batch_at facts.base j.number) (unknown facts j.number) _ limit own j _ amount probing limits
    amounts c.if-add_unlocked.ensures.1 in
    let judged = c.keeps_limit-keeps.new.worker in
    let loads = c.keeps_limit-keeps.ensures.0 in
    let judges = subst
    (λ (b : Bool). Judges (unknown facts j.number) limit (present_cpus facts) j amount (v +ℤ amount) loads b)
    c.if-keeps.true
    (judges-as (unknown facts j.number) _ limit (present_cpus facts) j _ amount _ (v +ℤ amount) loads
    c.keeps_limit-keeps.result limits amounts value c.keeps_limit-keeps.ensures.1) in
    let u = c.move_local.ensures.0 in
    subst
    (λ (b : Bool). (steps : List PcpuStep)
    × IsLimitedAdd (batch_at facts.base j.number) (unknown facts j.number) (present_cpus facts) own j limit
    amount steps b
    × Made percpu c.move_local.new.worker old steps) (sym c.if-keeps.true)
    (ending-made old own j limit amount c.requires.may facts c.requires.table.facts
    (other_word amount c.if-amount-eq0.false) c.add_unlocked.new.worker probing probes c.if-add_unlocked.ensures.2
    c.lock.new.worker c.in_ok-lock.ensures.won.0 c.in_ok-lock.ensures.won.1 c.in_ok-lock.ensures.won.2
    c.load_count.new.worker v
    c.load_count.ensures.made judged loads c.keeps_limit-keeps.ensures.2 true
    (TakeL j own u ∷ AddC j (u +ℤ amount) ∷ Unlock j ∷ []) judges (yes_ends u) c.move_local.new.worker
    (subst (λ (a : ℤ). Made percpu c.move_local.new.worker judged (TakeL j own u ∷ AddC j (u +ℤ a) ∷ Unlock j ∷ []))
    amounts c.move_local.ensures.1))

pub returns-else-keeps-clause-made : goal.returns-else-keeps-clause-made
returns-else-keeps-clause-made g c =
    let old = c.args.worker.now in
    let own = c.args.own in
    let j = c.args.counter in
    let facts = c.args.self.now.facts in
    let limit : ℤ = c.args.limit in
    let amount : ℤ = c.args.amount in
    let room_left = c.requires.may.affordable in
    let most : unsigned_abs amount ≤ most_volume = omega (arith, room_left) in
    let small = c.load_count.ensures.bound in
    let limit_most = c.requires.limit in
    let v = c.load_count.result in
    let limits : to_z w64 (of_z w64 limit) ≡ limit = same_word limit (omega (arith, limit_most)) in
    let amounts : to_z w64 (of_z w64 amount) ≡ amount = same_word amount (omega (arith, most)) in
    let value = same_sum v amount (omega (arith, small)) (omega (arith, most)) in
    let probing = c.if-add_unlocked.ensures.0 in
    let probes = probes-as (batch_at facts.base j.number) (unknown facts j.number) _ limit own j _ amount probing limits
    amounts c.if-add_unlocked.ensures.1 in
    let judged = c.keeps_limit-keeps.new.worker in
    let loads = c.keeps_limit-keeps.ensures.0 in
    let judges = subst
    (λ (b : Bool). Judges (unknown facts j.number) limit (present_cpus facts) j amount (v +ℤ amount) loads b)
    c.if-keeps.false
    (judges-as (unknown facts j.number) _ limit (present_cpus facts) j _ amount _ (v +ℤ amount) loads
    c.keeps_limit-keeps.result limits amounts value c.keeps_limit-keeps.ensures.1) in
    subst
    (λ (b : Bool). (steps : List PcpuStep)
    × IsLimitedAdd (batch_at facts.base j.number) (unknown facts j.number) (present_cpus facts) own j limit
    amount steps b
    × Made percpu c.unlock.new.worker old steps) (sym c.if-keeps.false)
    (ending-made old own j limit amount c.requires.may facts c.requires.table.facts
    (other_word amount c.if-amount-eq0.false) c.add_unlocked.new.worker probing probes c.if-add_unlocked.ensures.2
    c.lock.new.worker c.in_ok-lock.ensures.won.0 c.in_ok-lock.ensures.won.1 c.in_ok-lock.ensures.won.2
    c.load_count.new.worker v
    c.load_count.ensures.made judged loads c.keeps_limit-keeps.ensures.2 false (Unlock j ∷ []) judges no_ends
    c.unlock.new.worker c.unlock.ensures.all)

pub returns-in_err-lock-clause-held : goal.returns-in_err-lock-clause-held
returns-in_err-lock-clause-held g c =
    let p = err_from_is_err_and c.from_residual.result c.from_residual.ensures.1 in
    let own = c.args.own in
    let j = c.args.counter in
    let facts = c.args.self.now.facts in
    let limit : ℤ = c.args.limit in
    let amount : ℤ = c.args.amount in
    let room_left = c.requires.may.affordable in
    let most : unsigned_abs amount ≤ most_volume = omega (arith, room_left) in
    let limit_most = c.requires.limit in
    let limits : to_z w64 (of_z w64 limit) ≡ limit = same_word limit (omega (arith, limit_most)) in
    let amounts : to_z w64 (of_z w64 amount) ≡ amount = same_word amount (omega (arith, most)) in
    let probing = c.if-add_unlocked.ensures.0 in
    let probes = probes-as (batch_at facts.base j.number) (unknown facts j.number) _ limit own j _ amount probing limits
    amounts c.if-add_unlocked.ensures.1 in
    rw p.1 (
      c.in_err-lock.ensures.held.0,
      gave-up_limited_add (batch_at facts.base j.number) (unknown facts j.number) own j limit amount probing
          c.lock.new.worker c.add_unlocked.new.worker c.args.worker.now (other_word amount c.if-amount-eq0.false) probes
          c.if-add_unlocked.ensures.2 c.in_err-lock.ensures.held.1,
    )
