-- Rules by which thresholds are set.
use Rattle.std.specs.Prelude.{◌≡◌, ℕ, ◌≤◌}
use Rattle.std.specs.Fn.{Shared}
use denote.Ref.{Bor}
use Rattle.vms_base.specs.declared.kinds.ZoneSize.{ZoneSize}
use Rattle.vms_base.specs.Common.{IsValidSize, GivesThresholds}

-- the predicates of closures that are called at a zone's size and a number of CPUs and answer a number
abbrev pub RulePredicates : Type 0 → Type 1
RulePredicates F = Shared F (Bor ZoneSize × (ℕ × Unit {0})) ℕ

-- a closure may be called at this size and number of CPUs
pub record AcceptsSize {F : Type 0} (g : RulePredicates F) (f : F) (size : ZoneSize) (online : ℕ) : Type 0 where
  pub callable : (shown : Bor ZoneSize) → shown.now ≡ size → g.pre f (shown, (online, tt))

-- a number is what a closure may answer at this size and number of CPUs
pub record AnswersThreshold {F : Type 0} (g : RulePredicates F) (f : F) (size : ZoneSize)
    (online threshold : ℕ) : Type 0 where
  pub shown : Bor ZoneSize
  pub shows : shown.now ≡ size
  pub answered : g.post f (shown, (online, tt)) threshold

-- a rule may be asked at every valid size and 1 to 128 CPUs, and each of its answers is a threshold
pub record IsThresholdRule (accepts : ZoneSize → ℕ → Type 0) (answers : ZoneSize → ℕ → ℕ → Type 0) : Type 0 where
  pub callable : (size : ZoneSize) (online : ℕ) → IsValidSize size → 1 ≤ online → online ≤ 128 → accepts size online
  pub gives : GivesThresholds answers

-- a normal and a pressure rule are kept together
pub record RulePair (N P : Type 0) : Type 0 where
  pub normal : N
  pub pressure : P
