-- By the plan of the act's call.
use Rattle.vms_world.specs.Common.{page_call}
use Rattle.vms_own_acts.proofs.Acts.{made-call, one-act, some-step}
use Rattle.vms_own_acts.proofs.laws.acts_are_cut_one_way.Goals as goal

pub returns : goal.returns
returns g c =
    let P = g.R.ThresholdRules.pressure in
    let N = g.R.ThresholdRules.normal in
    let plans = c.plans_are_the_calls.ensures in
    record {
      one = λ header base lane p act h first more is_p is_n.
          one-act header base P N lane p plans is_p is_n act h first more;
      some = λ header base lane p act call h layout is made.
          let found = made-call header base P N lane p (page_call lane act) call h _ is made in
          some-step header base P N lane p plans layout call h found.0 found.1;
    }
