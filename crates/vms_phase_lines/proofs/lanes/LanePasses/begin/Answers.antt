-- The passes of the lanes of CPUs begin in ascending order, and then that of the control lane.
use Rattle.std.proofs.Common.{◌≡◌, ◌++◌, ◌<◌, Bool, false, [], ◌∷◌, add-one, ap, arith, get_or, if◌then◌else◌, subst}
use Rattle.std.proofs.Common.{sym, ℕ, ◌∙◌}
use Rattle.vms_world.specs.Common.{Control, Cpu, Lane, has_line, lanes_below}
use Rattle.vms_text.proofs.Common.{Begins-after, OnErr-true}
use Rattle.vms_rating_lines.proofs.Common.{Begins-self}
use Rattle.vms_phase_lines.specs.Common.{OpensLanes}
use Rattle.vms_phase_lines.proofs.LanePlaces.{control-apart, length-below, next-apart}
use Rattle.vms_phase_lines.proofs.Openings.{OpensLanes-none}
use Rattle.vms_phase_lines.proofs.lanes.LanePasses.begin.Goals as goal

pub loop-number-init : goal.loop-number-init
loop-number-init c =
    OpensLanes-none c.args.header.now c.in_ok-lanes.lanes c.args.out.now.items c.in_ok-lanes.ensures

pub begin_if-requires-clause-opens : goal.begin_if-requires-clause-opens
begin_if-requires-clause-opens c =
    let n = c.loop-number.number in
    let items = c.args.items.now in (
      lanes_below n items,
      c.args.out.now.items,
      next-apart n items,
      omega (
        arith,
        length-below n items,
        c.loop-number-test.true,
        c.cpus-cpus.ensures.value,
        c.requires.header.is_layout.cpus_most,
      ),
      c.loop-number.invariant,
    )

pub loop-number-preserved : goal.loop-number-preserved
loop-number-preserved c =
    let n = c.loop-number.number in
    let items = c.args.items.now in
    let lane : Lane = Cpu (record { number = n }) in
    let known : n < c.args.header.now.layout.cpus =
    omega (arith, c.loop-number-test.true, c.cpus-cpus.ensures.value) in
    let lined : c.get.result ≡ has_line lane items = sym (c.get.ensures false) ∙ c.in_ok-lined.ensures.each lane known in
    subst (λ (m : ℕ). OpensLanes c.args.header.now (lanes_below m items) c.begin_if.new.self c.args.out.now.items
    c.begin_if.new.out.items) (sym (add-one n))
    (subst (λ (b : Bool). OpensLanes c.args.header.now (lanes_below n items ++ (if b then lane ∷ [] else []))
    c.begin_if.new.self c.args.out.now.items c.begin_if.new.out.items) lined
    (c.in_ok-begin_if.ensures.ok (lanes_below n items) c.args.out.now.items (next-apart n items) c.loop-number.invariant))

pub begin_if-requires-2-clause-opens : goal.begin_if-requires-2-clause-opens
begin_if-requires-2-clause-opens c =
    let n = c.loop-number.number in
    let items = c.args.items.now in (
      lanes_below n items,
      c.args.out.now.items,
      control-apart n items,
      omega (
        arith,
        length-below n items,
        c.loop-number.auto.number-end,
        c.cpus-cpus.ensures.value,
        c.requires.header.is_layout.cpus_most,
      ),
      c.loop-number.invariant,
    )

pub returns-clause-ok : goal.returns-clause-ok
returns-clause-ok c =
    let n = c.loop-number.number in
    let items = c.args.items.now in
    let all : n ≡ c.args.header.now.layout.cpus =
    omega (arith, c.loop-number-test.false, c.loop-number.auto.number-end, c.cpus-cpus.ensures.value) in
    let lined : c.get-2.result ≡ has_line Control items = sym (c.get-2.ensures false)
    ∙ ap (λ (k : ℕ). get_or c.in_ok-lined.lined k false) c.cpus-cpus.ensures.value
    ∙ c.in_ok-lined.ensures.each Control tt in
    subst (λ (m : ℕ). OpensLanes c.args.header.now
    (lanes_below m items ++ (if has_line Control items then Control ∷ [] else [])) c.begin_if-2.new.self
    c.args.out.now.items c.begin_if-2.new.out.items) all
    (subst (λ (b : Bool). OpensLanes c.args.header.now (lanes_below n items ++ (if b then Control ∷ [] else []))
    c.begin_if-2.new.self c.args.out.now.items c.begin_if-2.new.out.items) lined
    (c.in_ok-begin_if-2.ensures.ok (lanes_below n items) c.args.out.now.items (control-apart n items)
    c.loop-number.invariant))

pub returns-in_err-lined-clause-err : goal.returns-in_err-lined-clause-err
returns-in_err-lined-clause-err c =
    OnErr-true c.from_residual.result _ (Begins-self c.args.out.now.items)

pub returns-in_err-lanes-clause-err : goal.returns-in_err-lanes-clause-err
returns-in_err-lanes-clause-err c =
    OnErr-true c.from_residual-in_err-lanes.result _ (Begins-self c.args.out.now.items)

pub returns-in_err-begin_if-clause-err : goal.returns-in_err-begin_if-clause-err
returns-in_err-begin_if-clause-err c =
    OnErr-true c.from_residual-in_err-begin_if.result _
    (Begins-after _ _ _ _ c.loop-number.invariant.lines c.in_err-begin_if.ensures.err)

pub returns-in_err-begin_if-2-clause-err : goal.returns-in_err-begin_if-2-clause-err
returns-in_err-begin_if-2-clause-err c =
    OnErr-true c.from_residual-in_err-begin_if-2.result _
    (Begins-after _ _ _ _ c.loop-number.invariant.lines c.in_err-begin_if-2.ensures.err)
