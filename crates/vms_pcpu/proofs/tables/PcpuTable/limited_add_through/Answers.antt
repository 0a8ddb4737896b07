-- The goals were that the pass is ready again, that its volumes hold what its CPU has spent, and what the answer means.
use Rattle.std.proofs.Common.{◌≡◌, ◌+◌, ◌≤◌, Bool, true, false, ℤ, pos, unsigned_abs, slice_index, slice_set, w64, to_z}
use Rattle.std.proofs.Common.{of_z, if◌then◌else◌, ap, sym, ◌∙◌, subst, arith}
use Rattle.std.proofs.lemmas.Int.{ints, to_z-of_z}
use Rattle.vms_pcpu_core.specs.declared.steps.PcpuFacts.{PcpuFacts}
use Rattle.vms_pcpu_core.specs.Common.{IsLimitedAdd, present_cpus, unknown, IsPcpu, batch_at}
use Rattle.vms_pcpu_core.proofs.Common.{limited_add-adds}
use Rattle.vms_pcpu.specs.Common.{LimitedAddMeans, CpuPass, GivesUpLimitedAdd, IsCpuPass, MakesCall}
use Rattle.vms_pcpu.proofs.AnswersMean.{limited_add-means}
use Rattle.vms_pcpu.proofs.HeldTries.{ready-no_limited_add}
use Rattle.vms_pcpu.proofs.ReadyPasses.{owns-amount}
use Rattle.vms_pcpu.proofs.tables.PcpuTable.limited_add_through.Goals as goal
use Rattle.vms_seats.specs.Common.{IsFrom}

-- what is added is no larger than the amount
at_most : (answer : Bool) (passed amount : ℤ) → passed ≡ amount
    → unsigned_abs (if answer then passed else pos 0) ≤ unsigned_abs amount
at_most true passed amount same = let sizes = ap unsigned_abs same in omega (arith, sizes)
at_most false passed amount same = omega arith

pub invariant_of-pass : goal.invariant_of-pass
invariant_of-pass g c =
    let j = c.args.counter in
    let cpu = c.pass.inside.cpu in
    let volume = c.pass.inside.volume in
    let facts = c.args.self.now.facts in
    let amount : ℤ = c.args.amount in
    let passed : ℤ = to_z w64 (of_z w64 amount) in
    let limit : ℤ = to_z w64 (of_z w64 c.args.limit) in
    let steps = c.in-Ok.ensures.made.0 in
    let answer : Bool = c.in-Ok.answer in
    let same : passed ≡ amount = to_z-of_z w64 amount c.ranges.amount in
    let before = ap (λ (p : CpuPass). slice_index p.volume j.number) c.pass.view_is in
    let sum : c.in_ok-volume.volume ≡ slice_index volume j.number + unsigned_abs amount =
    omega (arith, ints, c.in_ok-volume.ensures.fits.0, before, ap unsigned_abs same) in
    let of_pass = ap (λ (p : CpuPass). p.pass.facts) c.pass.view_is ∙ c.requires.table.facts in
    subst (IsCpuPass c.limited_add_by.new.worker cpu)
    (sym (c.set.ensures ∙ ap (slice_set volume j.number) sum))
    (owns-amount c.limited_add_by.new.worker c.pass.inside.worker j (if answer then passed else pos 0)
    (unsigned_abs amount) steps c.in-Ok.ensures.made.2
    (limited_add-adds (batch_at facts.base j.number) (unknown facts j.number) (present_cpus facts) cpu j limit passed
    steps answer c.in-Ok.ensures.made.1) (at_most answer passed amount same)
    (subst (λ (f : PcpuFacts). IsPcpu f j.number) (sym of_pass) c.requires.counter) cpu volume c.pass.invariant)

pub returns-in-Ok-clause-means : goal.returns-in-Ok-clause-means
returns-in-Ok-clause-means g c some =
    let j = c.args.counter in
    let words = c.args.self.now in
    let facts = words.facts in
    let steps = c.in-Ok.ensures.made.0 in
    let answer : Bool = c.in-Ok.answer in
    let cpu = c.pass.inside.cpu in
    let amount : ℤ = c.args.amount in
    let limit : ℤ = c.args.limit in
    let same_amount : to_z w64 (of_z w64 amount) ≡ amount = to_z-of_z w64 amount c.ranges.amount in
    let same_limit : to_z w64 (of_z w64 limit) ≡ limit = to_z-of_z w64 limit c.ranges.limit in
    subst (λ (p : CpuPass). LimitedAddMeans c.limited_add_by.new.worker p.pass j limit amount answer)
    c.pass.view_is
    (limited_add-means c.limited_add_by.new.worker c.pass.inside.worker words
    (subst (λ (p : CpuPass). IsFrom p.pass words) (sym c.pass.view_is) c.requires.table) j limit amount answer
    c.pass.invariant.ready
    (record {
      cpu = cpu;
      owns = c.pass.invariant.owns;
      steps = steps;
      is_call =
          subst
          (λ (a : ℤ).
          IsLimitedAdd (batch_at facts.base j.number) (unknown facts j.number) (present_cpus facts) cpu j limit a steps
          answer) same_amount
          (subst
          (λ (a : ℤ).
          IsLimitedAdd (batch_at facts.base j.number) (unknown facts j.number) (present_cpus facts) cpu j a
          (to_z w64 (of_z w64 amount)) steps answer) same_limit c.in-Ok.ensures.made.1);
      made = c.in-Ok.ensures.made.2;
    })
    some)

pub invariant_of-pass-in-Err : goal.invariant_of-pass-in-Err
invariant_of-pass-in-Err g c =
    let j = c.args.counter in
    let facts = c.args.self.now.facts in
    let cpu = c.pass.inside.cpu in
    let gave = c.in-Err.ensures.held.1 in
    ready-no_limited_add j c.limited_add_by.new.worker c.pass.inside.worker cpu c.pass.inside.volume c.pass.invariant
    (batch_at facts.base j.number) (unknown facts j.number) cpu (to_z w64 (of_z w64 c.args.limit))
    (to_z w64 (of_z w64 c.args.amount)) gave.0 gave.1 gave.2

pub returns-in-Err-clause-held : goal.returns-in-Err-clause-held
returns-in-Err-clause-held g c =
    let j = c.args.counter in
    let facts = c.args.self.now.facts in
    let cpu = c.pass.inside.cpu in
    let batch = batch_at facts.base j.number in
    let hidden = unknown facts j.number in
    let amount : ℤ = c.args.amount in
    let limit : ℤ = c.args.limit in
    let gave = c.in-Err.ensures.held.1 in
    let same_amount : to_z w64 (of_z w64 amount) ≡ amount = to_z-of_z w64 amount c.ranges.amount in
    let same_limit : to_z w64 (of_z w64 limit) ≡ limit = to_z-of_z w64 limit c.ranges.limit in
    subst
    (λ (p : CpuPass). MakesCall c.limited_add_by.new.worker p.pass
    (λ own steps. GivesUpLimitedAdd batch hidden own j limit amount steps))
    c.pass.view_is
    (record {
      cpu = cpu;
      owns = c.pass.invariant.owns;
      steps = gave.0;
      is_call = subst (λ (a : ℤ). GivesUpLimitedAdd batch hidden cpu j limit a gave.0) same_amount
          (subst (λ (a : ℤ). GivesUpLimitedAdd batch hidden cpu j a (to_z w64 (of_z w64 amount)) gave.0) same_limit
          gave.1);
      made = gave.2;
    })
