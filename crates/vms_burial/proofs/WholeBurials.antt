-- A burial as a whole: what was folded and taken away, and the refresh after it.
use Rattle.std.proofs.Common.{◌≡◌, ℕ, false, List, [], ◌∷◌, ◌++◌, refl, sym, ap, ◌∙◌, subst, append_assoc}
use Rattle.vms_world.specs.Common.{CpuId, Absent, ZoneSize, IsCpu, after, IsFold, KnowsByOwnSteps, Buries, Refreshes}
use Rattle.vms_world.specs.Common.{Facts, Step, SetO, cpu_at, IsControl, KeepsLaws, pages, cpu_in}
use Rattle.vms_base.specs.declared.kinds.CpuState.TheVariants.{Dead}
use Rattle.vms_control.proofs.Common.{sums-made, refresh-same}
use Rattle.vms_core.specs.Pages.{History, IsLegal, state_after}
use Rattle.vms_seats.specs.Common.{Pass, Shared, IsFrom, Made}
use Rattle.vms_seats.proofs.Common.{calls-both}
use Rattle.vms_burial.proofs.BuriedCpus.{IsGone, absent-later, gone}

-- the pass has made the steps of a burial
pub record HasBuried (words : Shared Facts) (normal : ZoneSize → ℕ → ℕ → Type 0) (c : CpuId)
    (new old : Pass Facts Step) : Type 0 where
  pub steps : List Step
  pub buries : Buries words.facts normal c old.number old.seen steps
  pub made : Made pages new old steps

module _ (words : Shared Facts) (new mid old : Pass Facts Step) (c : CpuId) (of : IsFrom old words) where
  pub has-buried : KnowsByOwnSteps → IsControl old.seen old.number → (normal : ZoneSize → ℕ → ℕ → Type 0)
      → (fold refresh : List Step) → IsFold words.facts.layout false c fold
      → Made pages mid old (fold ++ (SetO c ∷ []))
      → Refreshes words.facts normal mid.number mid.seen refresh → Made pages new mid refresh
      → HasBuried words normal c new old
  has-buried know control normal fold refresh folds taken refreshes made = record {
    steps = fold ++ (SetO c ∷ refresh);
    buries = record {
      fold = fold;
      folds = folds;
      refresh = refresh;
      refreshes = refresh-same words.facts old.number normal mid.seen
          (after old.number (fold ++ (SetO c ∷ [])) old.seen) refresh
          (sums-made words mid old (fold ++ (SetO c ∷ [])) of taken know control)
          (subst (λ p. Refreshes words.facts normal p mid.seen refresh) taken.number refreshes);
      in_order = refl {a = fold ++ (SetO c ∷ refresh)};
    };
    made = subst (Made pages new old) (append_assoc fold (SetO c ∷ []) refresh)
        (calls-both pages new mid old (fold ++ (SetO c ∷ [])) refresh made taken);
  }

  -- the CPU stays absent
  pub gone-still : ((facts : Facts) (more h : History) → IsLegal facts (more ++ h) → KeepsLaws facts h)
      → (taken refresh : List Step) → Made pages mid old taken → Made pages new mid refresh
      → IsCpu words.facts.layout c.number → cpu_at words.facts.base c.number ≡ Dead
      → cpu_at (state_after mid.facts mid.seen) c.number ≡ Absent → IsGone new.facts new.seen c.number
  gone-still laws taken refresh then made c_in dead absent =
      subst (λ (f : Facts). IsGone f new.seen c.number) (sym (made.facts ∙ same))
      (gone words.facts new.seen c.number
      (laws words.facts [] new.seen (subst (λ (f : Facts). IsLegal f new.seen) same made.made.legal)) c_in dead
      (ap (cpu_in words.facts c.number) made.made.extends.1
      ∙ absent-later words.facts c.number made.made.extends.0 mid.seen absent_mid))
    where
      same : mid.facts ≡ words.facts
      same = then.facts ∙ of.facts

      absent_mid : cpu_in words.facts c.number mid.seen ≡ Absent
      absent_mid =
          sym ((laws words.facts [] mid.seen
          (subst (λ (f : Facts). IsLegal f mid.seen) of.facts then.made.legal)).told_cpus c.number c_in)
          ∙ subst (λ (f : Facts). cpu_at (state_after f mid.seen) c.number ≡ Absent) same absent
