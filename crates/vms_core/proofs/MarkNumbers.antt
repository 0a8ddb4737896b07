-- For other crates too: the number of a mark's sets never falls, and while it stands so does the mark.
use Rattle.std.proofs.Common.{◌≡◌, ℕ, suc, ◌≤◌, Bool, true, false, [], ◌∷◌, ◌++◌, refl, sym, ◌∙◌, subst, arith}
use Rattle.std.proofs.Common.{if◌then◌else◌, nat_eq}
use Rattle.vms_history.specs.Common.{PlaceId, Extends}
use Rattle.vms_history.proofs.Common.{prefix_is_legal}
use Rattle.vms_core.specs.declared.steps.Facts.{Facts}
use Rattle.vms_core.specs.declared.steps.Step.{Step}
use Rattle.vms_core.specs.declared.steps.Step.TheVariants.{LoadM, SetM}
use Rattle.vms_core.specs.Common.{mark_at, mark_sets_at, MarkStands, pages, History, IsLegal, state_after}
use Rattle.vms_core.proofs.Settings.{mark_after, mark_sets_after, mark_at-newest, mark_sets_at-newest}

-- a step raises the number or leaves it, and where it leaves it it leaves the mark
number-grows : (g : ℕ) (step : Step) (number : ℕ) → number ≤ mark_sets_after g step number
number-grows g (SetM f m) number = by (nat_eq f.number g)
  where
    by : (b : Bool) → number ≤ (if b then suc number else number)
    by true = omega arith
    by false = omega arith
number-grows g _ number = omega arith

mark-stays : (g : ℕ) (step : Step) (mark number : ℕ) → mark_sets_after g step number ≡ number
    → mark_after g step mark ≡ mark
mark-stays g (SetM f m) mark number same = by (nat_eq f.number g) same
  where
    by : (b : Bool) → (if b then suc number else number) ≡ number → (if b then m else mark) ≡ mark
    by true is = absurd (omega arith)
    by false is = refl
mark-stays g _ mark number same = refl

module _ (facts : Facts) (h : History) (g : ℕ) where
  pub numbers-grow : (more : History) → IsLegal facts (more ++ h)
      → mark_sets_at (state_after facts h) g ≤ mark_sets_at (state_after facts (more ++ h)) g
  numbers-grow [] legal = omega arith
  numbers-grow (e ∷ more) legal = omega (
    arith,
    numbers-grow more legal.0,
    mark_sets_at-newest facts e (more ++ h) legal g,
    number-grows g e.step (mark_sets_at (state_after facts (more ++ h)) g),
  )

  pub marks-stand : (more : History) → IsLegal facts (more ++ h)
      → mark_sets_at (state_after facts (more ++ h)) g ≡ mark_sets_at (state_after facts h) g
      → mark_at (state_after facts (more ++ h)) g ≡ mark_at (state_after facts h) g
  marks-stand [] legal same = refl
  marks-stand (e ∷ more) legal same =
      let newest = mark_sets_at-newest facts e (more ++ h) legal g in
      let number = mark_sets_at (state_after facts (more ++ h)) g in
      let grew = numbers-grow more legal.0 in
      let grows = number-grows g e.step number in
      let unchanged : mark_sets_after g e.step number ≡ number = omega arith in
      let before : number ≡ mark_sets_at (state_after facts h) g = omega arith in
      mark_at-newest facts e (more ++ h) legal g
      ∙ mark-stays g e.step (mark_at (state_after facts (more ++ h)) g) number unchanged
      ∙ marks-stand more legal.0 before

pub numbers_extend : (facts : Facts) (later earlier : History) (g : ℕ) → IsLegal facts later → Extends later earlier
    → mark_sets_at (state_after facts earlier) g ≤ mark_sets_at (state_after facts later) g
numbers_extend facts later earlier g legal extends =
    subst (λ (h : History). mark_sets_at (state_after facts earlier) g ≤ mark_sets_at (state_after facts h) g)
    (sym extends.1)
    (numbers-grow facts earlier g extends.0 (subst (IsLegal facts) extends.1 legal))

pub marks_extend : (facts : Facts) (later earlier : History) (g : ℕ) → IsLegal facts later → Extends later earlier
    → mark_sets_at (state_after facts later) g ≡ mark_sets_at (state_after facts earlier) g
    → mark_at (state_after facts later) g ≡ mark_at (state_after facts earlier) g
marks_extend facts later earlier g legal extends same =
    subst (λ (h : History). mark_sets_at (state_after facts h) g ≡ mark_sets_at (state_after facts earlier) g
    → mark_at (state_after facts h) g ≡ mark_at (state_after facts earlier) g)
    (sym extends.1)
    (marks-stand facts earlier g extends.0 (subst (IsLegal facts) extends.1 legal)) same

-- two loads told the same number
pub marks-stand_between : (facts : Facts) (p q : ℕ) (g : PlaceId) (m n number : ℕ) (last middle first : History)
    → IsLegal facts (record { caller = q; step = LoadM g n number } ∷ last) → Extends last middle
    → Extends middle (record { caller = p; step = LoadM g m number } ∷ first)
    → MarkStands facts middle g.number m number
marks-stand_between facts p q g m n number last middle first legal after since =
    let begun : History = record { caller = p; step = LoadM g m number } ∷ first in
    let legal_middle : IsLegal facts middle =
    prefix_is_legal pages facts after.0 middle (subst (IsLegal facts) after.1 legal.0) in
    let legal_begun : IsLegal facts begun =
    prefix_is_legal pages facts since.0 begun (subst (IsLegal facts) since.1 legal_middle) in
    let told : mark_at (state_after facts begun) g.number ≡ m =
    mark_at-newest facts (record { caller = p; step = LoadM g m number }) first legal_begun g.number
    ∙ legal_begun.2.value in
    let numbered : mark_sets_at (state_after facts begun) g.number ≡ number =
    mark_sets_at-newest facts (record { caller = p; step = LoadM g m number }) first legal_begun g.number
    ∙ legal_begun.2.number in
    let grew = numbers_extend facts middle begun g.number legal_middle since in
    let grows = numbers_extend facts last middle g.number legal.0 after in
    let ends : mark_sets_at (state_after facts last) g.number ≡ number = legal.2.number in
    let stood : mark_sets_at (state_after facts middle) g.number ≡ number = omega arith in
    record {
      mark = marks_extend facts middle begun g.number legal_middle since (stood ∙ sym numbered) ∙ told;
      number = stood;
    }

-- so they told the same mark
pub numbers-tell_marks : (facts : Facts) (p q : ℕ) (g : PlaceId) (m n number : ℕ) (last first : History)
    → IsLegal facts (record { caller = q; step = LoadM g n number } ∷ last)
    → Extends last (record { caller = p; step = LoadM g m number } ∷ first) → n ≡ m
numbers-tell_marks facts p q g m n number last first legal since =
    sym legal.2.value ∙ (marks-stand_between facts p q g m n number last last first legal ([], refl) since).mark
