-- The formula at no CPU.
use Rattle.std.proofs.Common.{◌≡◌, ℕ, ◌+◌, ◌*◌, ◌/◌, ◌^◌, min, refl, sym, subst, arith}
use Rattle.vms_base.specs.Numbers.{highest_bit}
use Rattle.vms_world.specs.Common.{bits_of, most_threshold, normal_threshold_of}
use Rattle.vms_own_acts.proofs.rules.ExactRulesRuleFunctions.normal_answer.Goals as goal

no_bits : bits_of 0 ≡ 0
unfolding highest_bit
no_bits = refl

none-of_none : (x : ℕ) → 0 ≡ min most_threshold (2 * 0 * (1 + x))
none-of_none x = omega arith

pub returns-then-online-eq0 : goal.returns-then-online-eq0
returns-then-online-eq0 c =
    subst (λ n. 0 ≡ normal_threshold_of c.args.size.now n) (sym c.if-online-eq0.true)
    (subst (λ b. 0 ≡ min most_threshold (2 * b * (1 + bits_of (c.args.size.now.managed / 2 ^ 15)))) (sym no_bits)
    (none-of_none (bits_of (c.args.size.now.managed / 2 ^ 15))))
