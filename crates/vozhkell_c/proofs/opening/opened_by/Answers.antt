-- The thresholds are those of the kernel's normal rule.
use Rattle.std.proofs.Common.{◌≡◌, ℕ, ap, subst, sym}
use Rattle.vms_world.specs.Common.{Header, RulePair, ZoneSize}
use Rattle.vms_counters.specs.Opened.{AreOpened, Opened}
use Rattle.vozhkell_c.specs.Openings.{GoesByNormal, HoldsOpened, normal_rule}
use Rattle.vozhkell_c.proofs.opening.opened_by.Goals as goal

AreOpened-normal : (header : Header) (answers : ZoneSize → ℕ → ℕ → Type 0) (opened : Opened) → GoesByNormal answers
    → AreOpened header answers opened → AreOpened header normal_rule opened
AreOpened-normal header answers opened exact are = record {
  zones = are.zones;
  answers = record {
    one_each = are.answers.one_each;
    each = λ g within. exact _ _ _ (are.answers.each g within);
  };
  opens = are.opens;
}

pub returns : goal.returns
returns g c =
    let same : c.make.result.normal ≡ c.args.normal = ap (λ (pair : RulePair _ _). pair.normal) c.make.ensures in
    let exact = subst (λ n. GoesByNormal (g.N.Rule.answers n)) (sym same) c.requires.exact in
    subst (HoldsOpened c.args.header) (sym c.in_ok-new.ensures.ok)
    (AreOpened-normal c.args.header (g.N.Rule.answers c.make.result.normal) c.in_ok-opened.opened exact
    c.in_ok-opened.ensures)
