-- The control pass folds a dead CPU and makes it absent, whatever others do meanwhile.
use Rattle.std.proofs.Common.{◌≡◌, ℕ, ◌<◌, false, [], ◌∷◌, ◌++◌, length, None, sym, ap, ◌∙◌, subst, arith}
use Rattle.vms_world.specs.Common.{CpuId, Absent, Shape, IsCpu, place_count, own, largest_below, LeavesCaller, IsFold}
use Rattle.vms_world.specs.Common.{MakesBurial, HasMade, Facts, Step, SetO, cpu_at, mark_sets_at, threshold_sets_at}
use Rattle.vms_world.specs.Common.{SetsAbsent, KeepsLaws, carried_of_item, pages, cpu_in}
use Rattle.vms_base.specs.declared.kinds.CpuState.TheVariants.{Dead}
use Rattle.vms_history.proofs.Common.{largest_below-least, largest_below-most}
use Rattle.vms_calls.proofs.Common.{still-leaves, each-append, fold-each}
use Rattle.vms_core.specs.Own.{CarriesNothing, carried}
use Rattle.vms_core.specs.Pages.{History, IsLegal, state_after}
use Rattle.vms_count.specs.Common.{HasFolded, owns_cpu}
use Rattle.vms_seats.specs.Common.{Pass, Shared, IsFrom, IsLive, Made, MadeOne}
use Rattle.vms_seats.proofs.Common.{calls-both}
use Rattle.vms_words.specs.Common.{largest_sets}
use Rattle.vms_burial.proofs.AbsentCpus.{IsOne, folded-absent}
use Rattle.vms_burial.proofs.BuriedCpus.{IsGone, dead-first, absent-now, gone}
use Rattle.vms_burial.proofs.StillSettings.{SetsNothing, StandStill, folds-set_nothing, stand-still}

largest_below-same : (f g : ℕ → ℕ) (n : ℕ) → ((i : ℕ) → i < n → f i ≡ g i) → largest_below f n ≡ largest_below g n
largest_below-same f g n same =
    let most =
    largest_below-most f n (largest_below g n)
    (λ i below. omega (arith, same i below, largest_below-least g n i below)) in
    let least =
    largest_below-most g n (largest_below f n)
    (λ i below. omega (arith, same i below, largest_below-least f n i below)) in
    omega (arith, most, least)

-- the largest number of sets is what it was
pub largest-still : (facts : Facts) (later earlier : History) → StandStill facts later earlier
    → largest_sets facts.layout (state_after facts later) ≡ largest_sets facts.layout (state_after facts earlier)
largest-still facts later earlier stands =
    let rows = largest_below-same
    (λ c. largest_below (λ g. threshold_sets_at (state_after facts later) c g) (place_count facts.layout))
    (λ c. largest_below (λ g. threshold_sets_at (state_after facts earlier) c g) (place_count facts.layout))
    facts.layout.cpus
    (λ c c_in. largest_below-same (λ g. threshold_sets_at (state_after facts later) c g)
    (λ g. threshold_sets_at (state_after facts earlier) c g) (place_count facts.layout) (stands.thresholds c)) in
    let zones = largest_below-same (λ g. mark_sets_at (state_after facts later) g)
    (λ g. mark_sets_at (state_after facts earlier) g) (length facts.layout.zones) (λ g g_in. stands.marks g) in
    omega (arith, rows, zones)

-- to become absent moves nothing
pub absent-carries : (shape : Shape) (new old : Pass Facts Step) (c : CpuId) → Made pages new old (SetO c ∷ [])
    → CarriesNothing shape (own old.seen old.number) → CarriesNothing shape (own new.seen new.number)
absent-carries shape new old c made nothing =
    subst (λ p. CarriesNothing shape (own new.seen p)) (sym made.number) (record {
      counters = λ k. ap (carried k) made.made.made ∙ leaves.carries.counters k ∙ nothing.counters k;
      items = λ i. ap (carried_of_item shape i) made.made.made ∙ leaves.carries.items i ∙ nothing.items i;
    })
  where
    leaves : LeavesCaller shape old.number (SetO c ∷ []) (own old.seen old.number)
    leaves = still-leaves shape old.number (SetO c ∷ []) (own old.seen old.number) (tt, tt)

module _ (laws : (facts : Facts) (more h : History) → IsLegal facts (more ++ h) → KeepsLaws facts h)
    (words : Shared Facts) (old : Pass Facts Step) (c : CpuId) (of : IsFrom old words) (none : old.cpu ≡ None)
    (live : IsLive pages old) (c_in : IsCpu words.facts.layout c.number)
    (dead : cpu_at (state_after words.facts old.seen) c.number ≡ Dead) where
  legal-old : IsLegal words.facts old.seen
  legal-old = subst (λ (f : Facts). IsLegal f old.seen) of.facts live.legal

  pub dead-base : cpu_at words.facts.base c.number ≡ Dead
  dead-base =
      dead-first words.facts c.number old.seen
      (sym ((laws words.facts [] old.seen legal-old).told_cpus c.number c_in) ∙ dead)

  module _ (folded : Pass Facts Step) (folds : HasFolded words.facts.layout folded old c) where
    pub is-fold : IsFold words.facts.layout false c folds.steps
    is-fold = subst (λ b. IsFold words.facts.layout b c folds.steps) (ap (λ who. owns_cpu who c) none) folds.fold

    pub may-be_absent : MakesBurial IsOne → CarriesNothing words.facts.layout (own old.seen old.number)
        → SetsAbsent words.facts folded.seen (state_after words.facts folded.seen) folded.number c
    may-be_absent burial nothing =
        subst (λ p. SetsAbsent words.facts folded.seen (state_after words.facts folded.seen) p c)
        (sym folds.made.number)
        (folded-absent burial words.facts old.seen folded.seen old.number c folds.steps
        (record { living = record { legal = legal-old; lives = live.lives }; control = live.owner ∙ none }) c_in dead
        nothing is-fold
        (subst (λ (f : Facts). HasMade f folded.seen old.seen old.number folds.steps) of.facts folds.made.made))

    module _ (new : Pass Facts Step) (absent : MadeOne pages new folded (SetO c)) where
      pub made-both : Made pages new old (folds.steps ++ (SetO c ∷ []))
      made-both = calls-both pages new folded old folds.steps (SetO c ∷ []) absent.all folds.made

      pub sets-still : largest_sets words.facts.layout (state_after words.facts new.seen)
          ≡ largest_sets words.facts.layout (state_after words.facts old.seen)
      sets-still = largest-still words.facts new.seen old.seen
          (stand-still words.facts new.seen old.seen old.number (folds.steps ++ (SetO c ∷ []))
          (subst (λ (f : Facts). HasMade f new.seen old.seen old.number (folds.steps ++ (SetO c ∷ []))) of.facts
          made-both.made) (live.owner ∙ none)
          (each-append SetsNothing folds.steps (SetO c ∷ [])
          (fold-each SetsNothing folds-set_nothing words.facts.layout false c folds.steps is-fold) (tt, tt)))

      absent-in : cpu_in words.facts c.number new.seen ≡ Absent
      absent-in =
          ap (cpu_in words.facts c.number) absent.at.newest ∙ absent-now words.facts folded.number c absent.at.before

      pub gone-now : IsGone new.facts new.seen c.number
      gone-now =
          subst (λ (f : Facts). IsGone f new.seen c.number) (sym (made-both.facts ∙ of.facts))
          (gone words.facts new.seen c.number
          (laws words.facts [] new.seen (subst (λ (f : Facts). IsLegal f new.seen) of.facts made-both.made.legal)) c_in
          dead-base absent-in)
