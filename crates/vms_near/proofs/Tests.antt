-- For other crates too: what a test of a zone's free pages tells.
use Rattle.std.proofs.Common.{◌≡◌, ℕ, ◌<◌, ◌≤◌, Bool, true, false, not, ℤ, List, [], ◌∷◌, refl, sym, ap, ◌∙◌, subst}
use Rattle.std.proofs.Common.{arith}
use Rattle.std.proofs.lemmas.Bool.Decides.{nat_tests}
use Rattle.vms_calls.specs.Common.{Extends, Facts, Frees, Header, IsWatermarkTest, IsZone, LoadG, LoadM, PlaceId, State}
use Rattle.vms_calls.specs.Common.{Step, WaterMark, at_least_zero, counter_at, facts_of, free_pages, is_doubtful, pages}
use Rattle.vms_calls.specs.Common.{place_of, size_at, value_at, History, state_after, MarkRead, MarkStands}
use Rattle.vms_calls.specs.declared.answers.Verdict.{Verdict}
use Rattle.vms_core.specs.Pages.{IsLegal}
use Rattle.vms_core.proofs.Common.{counter_at-first, marks-stand_between}
use Rattle.vms_history.proofs.Common.{Extends-both, Extends-same, base_can_begin}
use Rattle.vms_drift.specs.Moments.{MadeSince}
use Rattle.vms_near.specs.Near.{TellsNearly}
use Rattle.vms_near.specs.Slack.{IsTold, slack_at, slack_of}
use Rattle.vms_near.proofs.ByValue.{values-tell_nearly}
use Rattle.vms_near.specs.Snapshots.{SumsNearly}
use Rattle.vms_near.specs.Tests.{FreeIsTrue, TellsTruly}
use Rattle.vms_near.proofs.Moments.{FirstAt, event, made-first}
use Rattle.vms_near.proofs.SlackBounds.{values-tell}
use Rattle.vms_near.proofs.Snapshots.{sums-nearly, sums-within}

-- where there is no doubt the two loads told the same, and the value isn't below a mark
record NoDoubt (first second : MarkRead) (free : ℕ) : Type 0 where
  pub mark : first.mark ≡ second.mark
  pub number : first.number ≡ second.number
  pub above : 0 < first.mark → first.mark ≤ free

no_doubt : (first second : MarkRead) (value : ℤ) → is_doubtful first value second ≡ false
    → NoDoubt first second (at_least_zero value)
no_doubt first second value none = record {
  mark = grind (arith, nat_tests, none);
  number = grind (arith, nat_tests, none);
  above = λ some. grind (arith, nat_tests, none, some);
}

module _ (facts : Facts) (later earlier : History) (p : ℕ) (g : PlaceId) (first second : MarkRead) (value : ℤ)
    (further : List Step)
    (has : MadeSince facts later earlier p (LoadM g first.mark first.number
    ∷ LoadG (free_pages facts.layout g) value ∷ LoadM g second.mark second.number ∷ further)) where
  -- the three loads
  abbrev one : FirstAt facts later earlier p (LoadM g first.mark first.number)
      (LoadG (free_pages facts.layout g) value ∷ LoadM g second.mark second.number ∷ further)
  one = made-first facts p later earlier (LoadM g first.mark first.number)
      (LoadG (free_pages facts.layout g) value ∷ LoadM g second.mark second.number ∷ further) has

  abbrev two : FirstAt facts later (event p (LoadM g first.mark first.number) ∷ one.moment) p
      (LoadG (free_pages facts.layout g) value) (LoadM g second.mark second.number ∷ further)
  two = made-first facts p later (event p (LoadM g first.mark first.number) ∷ one.moment)
      (LoadG (free_pages facts.layout g) value) (LoadM g second.mark second.number ∷ further) one.rest

  abbrev three : FirstAt facts later (event p (LoadG (free_pages facts.layout g) value) ∷ two.moment) p
      (LoadM g second.mark second.number) further
  three = made-first facts p later (event p (LoadG (free_pages facts.layout g) value) ∷ two.moment)
      (LoadM g second.mark second.number) further two.rest

  abbrev counter : ℕ
  counter = counter_at facts.layout g.number 0

  pub tells-truly : is_doubtful first value second ≡ false
      → TellsTruly facts later earlier p g (at_least_zero value)
  tells-truly none =
      let same = no_doubt first second value none in
      let told_again : LoadM g second.mark second.number ≡ LoadM g first.mark first.number =
      ap (λ (m : ℕ). LoadM g m second.number) (sym same.mark) ∙ ap (LoadM g first.mark) (sym same.number) in
      let stands : MarkStands facts two.moment g.number first.mark first.number =
      marks-stand_between facts p p g first.mark first.mark first.number three.moment two.moment one.moment
      (subst (λ (k : Step). IsLegal facts (event p k ∷ three.moment)) told_again three.legal)
      (Extends-both three.moment (event p (LoadG (free_pages facts.layout g) value) ∷ two.moment) two.moment
      three.begins (event p (LoadG (free_pages facts.layout g) value) ∷ [], refl))
      two.begins in
      let zone : IsZone facts.layout g.number = one.legal.2.zone in
      let layout = (base_can_begin pages facts two.moment two.legal.0).layout in
      let place : place_of facts.layout counter ≡ g.number = counter_at-first facts.layout layout g.number in
      let near = values-tell facts two.moment two.legal.0 counter two.legal.2.0
      (subst (IsZone facts.layout) (sym place) zone) in
      let stood : value_at (state_after facts two.moment) counter ≡ value = two.legal.2.1 in
      record {
        mark = first;
        value = value;
        moment = two.moment;
        between = record {
          first = one.moment;
          last = three.moment;
          begins = one.begins;
          marks = two.begins;
          loads = three.begins;
          marks_again = subst (λ (k : Step). Extends later (event p k ∷ three.moment)) told_again three.rest.extends;
        };
        told = refl;
        legal = two.legal.0;
        stands = stands;
        above = same.above;
        near = subst (λ (m : ℕ). IsTold facts two.moment counter (at_least_zero value)
            (slack_of (size_at facts.sizes g.number) m)) stands.mark
            (subst (λ (n : ℕ). IsTold facts two.moment counter (at_least_zero value) (slack_at facts two.moment n))
            place (subst (λ (z : ℤ). IsTold facts two.moment counter (at_least_zero z)
            (slack_at facts two.moment (place_of facts.layout counter))) stood near));
        nearly = subst (TellsNearly facts two.moment counter) stood
            (values-tell_nearly facts two.moment two.legal.0 counter two.legal.2.0);
      }

  pub sums-after : (free : ℕ) → Frees facts.layout (free_pages facts.layout g) true value further free
      → SumsNearly facts later earlier p (free_pages facts.layout g) free
  sums-after free is =
      sums-within facts later later (event p (LoadM g second.mark second.number) ∷ three.moment) earlier p
      (free_pages facts.layout g) free (Extends-same later)
      (Extends-both (event p (LoadM g second.mark second.number) ∷ three.moment)
      (event p (LoadG (free_pages facts.layout g) value) ∷ two.moment) earlier
      (Extends-both (event p (LoadM g second.mark second.number) ∷ three.moment) three.moment
      (event p (LoadG (free_pages facts.layout g) value) ∷ two.moment)
      (event p (LoadM g second.mark second.number) ∷ [], refl) three.begins)
      (Extends-both (event p (LoadG (free_pages facts.layout g) value) ∷ two.moment)
      (event p (LoadM g first.mark first.number) ∷ one.moment) earlier
      (Extends-both (event p (LoadG (free_pages facts.layout g) value) ∷ two.moment) two.moment
      (event p (LoadM g first.mark first.number) ∷ one.moment)
      (event p (LoadG (free_pages facts.layout g) value) ∷ [], refl) two.begins)
      (Extends-both (event p (LoadM g first.mark first.number) ∷ one.moment) one.moment earlier
      (event p (LoadM g first.mark first.number) ∷ [], refl) one.begins)))
      (sums-nearly facts later (event p (LoadM g second.mark second.number) ∷ three.moment) p
      (free_pages facts.layout g) further free is three.rest)

  -- the free pages, by whether there was doubt
  pub free-is_true : (free : ℕ) (doubt : Bool) → is_doubtful first value second ≡ doubt
      → Frees facts.layout (free_pages facts.layout g) doubt value further free
      → FreeIsTrue facts later earlier p g free (not doubt)
  free-is_true free true is frees = sums-after free frees
  free-is_true free false is frees =
      subst (λ (n : ℕ). TellsTruly facts later earlier p g n) (sym frees.1) (tells-truly is)

-- what a test tells that was made between two histories
pub test-is_true : (header : Header) (base : State) (later earlier : History) (p : ℕ) (g : PlaceId) (mark : WaterMark)
    (most : ℕ) (steps : List Step) (verdict : Verdict) → IsWatermarkTest header g mark most steps verdict
    → MadeSince (facts_of header base) later earlier p steps
    → FreeIsTrue (facts_of header base) later earlier p g verdict.free verdict.fast
test-is_true header base later earlier p g mark most steps verdict is has =
    subst (FreeIsTrue (facts_of header base) later earlier p g verdict.free) (sym is.fast)
    (free-is_true (facts_of header base) later earlier p g is.first is.second is.value is.further
    (subst (MadeSince (facts_of header base) later earlier p) is.in_order has) verdict.free
    (is_doubtful is.first is.value is.second) refl is.frees)

-- the same between histories that lie further apart
pub free-within : (facts : Facts) (last later earlier first : History) (p : ℕ) (g : PlaceId) (free : ℕ) (fast : Bool)
    → Extends last later → Extends earlier first → FreeIsTrue facts later earlier p g free fast
    → FreeIsTrue facts last first p g free fast
free-within facts last later earlier first p g free true until begins tells =
    let mark = tells.mark in
    record {
      mark = mark;
      value = tells.value;
      moment = tells.moment;
      between = record {
        first = tells.between.first;
        last = tells.between.last;
        begins = Extends-both tells.between.first earlier first tells.between.begins begins;
        marks = tells.between.marks;
        loads = tells.between.loads;
        marks_again = Extends-both last later (event p (LoadM g mark.mark mark.number) ∷ tells.between.last) until
            tells.between.marks_again;
      };
      told = tells.told;
      legal = tells.legal;
      stands = tells.stands;
      above = tells.above;
      near = tells.near;
      nearly = tells.nearly;
    }
free-within facts last later earlier first p g free false until begins sums =
    sums-within facts last later earlier first p (free_pages facts.layout g) free until begins sums
