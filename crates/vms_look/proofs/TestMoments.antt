-- For other crates too: what a test without a snapshot says of the moment of its load of the free pages.
use Rattle.std.proofs.Common.{◌≡◌, ℕ, ◌<◌, ◌≤◌, Bool, false, not, ◌&&◌, ◌||◌, nat_eq, nat_lt, ℤ, to_z, of_z, w64, []}
use Rattle.std.proofs.Common.{◌∷◌, refl, sym, ap, ◌∙◌, subst, arith}
use Rattle.std.proofs.lemmas.Bool.Decides.{nat_tests}
use Rattle.vms_calls.specs.Common.{CounterId, PlaceId, IsZone, counter_at, place_of, size_at, at_least_zero, free_pages}
use Rattle.vms_calls.specs.Common.{MarkRead, Facts, Step, LoadG, LoadM, mark_at, value_at, MarkStands, History, pages}
use Rattle.vms_calls.specs.Common.{state_after, Extends}
use Rattle.vms_core.specs.Pages.{IsLegal}
use Rattle.vms_core.proofs.Common.{counter_at-first, first-known, marks-stand_between}
use Rattle.vms_history.proofs.Common.{Extends-both, base_can_begin}
use Rattle.vms_look.specs.Common.{SaysTruly, TellsTruly}
use Rattle.vms_near.specs.Slack.{IsTold, slack_at, slack_of}
use Rattle.vms_near.specs.Tests.{LoadsBetween}
use Rattle.vms_look.proofs.PassSteps.{step-at_first, value-told}
use Rattle.vms_near.proofs.SlackBounds.{values-tell}
use Rattle.vms_look.proofs.TruePages.{marks-keep_high, no_marks-keep_limit}
use Rattle.vms_near.specs.Near.{TellsNearly}
use Rattle.vms_near.proofs.ByValue.{values-tell_nearly}
use Rattle.vms_seats.specs.Common.{Pass, MadeOne, MakesStep}

-- where there is no doubt the two loads told the same, and the value isn't below a mark
no_doubt : (first second : MarkRead) (free : ℕ)
    → (not (nat_eq first.mark second.mark && nat_eq first.number second.number)
    || (not (nat_eq first.mark 0) && nat_lt free first.mark)) ≡ false
    → (first.mark ≡ second.mark) × (first.number ≡ second.number) × (0 < first.mark → first.mark ≤ free)
no_doubt first second free none = (
  grind (arith, nat_tests, none),
  grind (arith, nat_tests, none),
  λ some. grind (arith, nat_tests, none, some),
)

module _ (g : PlaceId) (k : CounterId) (third two one old : Pass Facts Step) (first second : MarkRead) (value : ℤ)
    (made_first : MadeOne pages one old (LoadM g first.mark first.number))
    (made_value : MadeOne pages two one (LoadG k value))
    (made_second : MadeOne pages third two (LoadM g second.mark second.number))
    (zone : IsZone old.facts.layout g.number) (is_free : k.number ≡ counter_at old.facts.layout g.number 0)
    (free : ℕ) (is : free ≡ at_least_zero (to_z w64 (of_z w64 value))) (doubt : Bool)
    (told : doubt ≡ (not (nat_eq first.mark second.mark && nat_eq first.number second.number)
    || (not (nat_eq first.mark 0) && nat_lt free first.mark))) (none : doubt ≡ false) where
  answers : free ≡ at_least_zero value
  answers = is ∙ ap at_least_zero (value-told two one k value made_value)

  loads-told : (first.mark ≡ second.mark) × (first.number ≡ second.number) × (0 < first.mark → first.mark ≤ free)
  loads-told = no_doubt first second free (sym told ∙ none)

  -- the three loads, over what the pass had seen at first
  abbrev loaded_first : MakesStep pages old.facts one.seen old.seen old.number (LoadM g first.mark first.number)
  loaded_first = made_first.at

  abbrev loaded_value : MakesStep pages old.facts two.seen one.seen old.number
      (LoadG (free_pages old.facts.layout g) value)
  loaded_value = subst (λ (j : CounterId). MakesStep pages old.facts two.seen one.seen old.number (LoadG j value))
      (let is : k ≡ free_pages old.facts.layout g = ap (λ (n : ℕ). record { number = n }) is_free in is)
      (step-at_first two one old (LoadG k value) made_first.all.facts made_first.all.number made_value)

  abbrev loaded_second : MakesStep pages old.facts third.seen two.seen old.number (LoadM g first.mark first.number)
  loaded_second = subst (λ (n : ℕ). MakesStep pages old.facts third.seen two.seen old.number (LoadM g first.mark n))
      (sym loads-told.1)
      (subst (λ (m : ℕ). MakesStep pages old.facts third.seen two.seen old.number (LoadM g m second.number))
      (sym loads-told.0)
      (step-at_first third two old (LoadM g second.mark second.number) (made_value.all.facts ∙ made_first.all.facts)
      (made_value.all.number ∙ made_first.all.number) made_second))

  abbrev between : LoadsBetween old.facts.layout third.seen old.seen old.number g first value loaded_value.before
  between = record {
    first = loaded_first.before;
    last = loaded_second.before;
    begins = loaded_first.others.extends;
    marks = subst (Extends loaded_value.before) loaded_first.newest loaded_value.others.extends;
    loads = subst (Extends loaded_second.before) loaded_value.newest loaded_second.others.extends;
    marks_again = ([], loaded_second.newest);
  }

  stands : MarkStands old.facts loaded_value.before g.number first.mark first.number
  stands = marks-stand_between old.facts old.number old.number g first.mark first.mark first.number
      loaded_second.before loaded_value.before loaded_first.before
      (subst (IsLegal old.facts) loaded_second.newest loaded_second.legal)
      (Extends-both loaded_second.before
      (record { caller = old.number; step = LoadG (free_pages old.facts.layout g) value } ∷ loaded_value.before)
      loaded_value.before between.loads
      (record { caller = old.number; step = LoadG (free_pages old.facts.layout g) value } ∷ [], refl))
      between.marks

  value_stood : value_at (state_after old.facts loaded_value.before) (counter_at old.facts.layout g.number 0) ≡ value
  value_stood = (subst (IsLegal old.facts) loaded_value.newest loaded_value.legal).2.1

  abbrev mark_stood : ℕ
  mark_stood = mark_at (state_after old.facts loaded_value.before) g.number

  says_truly : (limit : ℕ) → limit < free → SaysTruly third old g limit
  says_truly limit more = record {
    mark = first;
    value = value;
    moment = loaded_value.before;
    between = between;
    legal = loaded_value.others.legal;
    stands = stands;
    marked = λ some.
        marks-keep_high old.facts loaded_value.before g.number loaded_value.others.legal zone
        (subst (λ (m : ℕ). 0 < m) (sym stands.mark) some)
        (subst (λ (v : ℤ). mark_stood ≤ at_least_zero v) (sym value_stood)
        (subst (λ (m : ℕ). m ≤ at_least_zero value) (sym stands.mark)
        (subst (λ (n : ℕ). first.mark ≤ n) answers (loads-told.2 some))));
    unmarked = λ none.
        no_marks-keep_limit old.facts loaded_value.before g.number limit loaded_value.others.legal zone
        (stands.mark ∙ none) (subst (λ (v : ℤ). limit < at_least_zero v) (sym value_stood)
        (subst (λ (n : ℕ). limit < n) answers more));
  }

  free_near : IsTold old.facts loaded_value.before (counter_at old.facts.layout g.number 0) free
      (slack_of (size_at old.facts.sizes g.number) first.mark)
  free_near =
      let counter = counter_at old.facts.layout g.number 0 in
      let layout = (base_can_begin pages old.facts loaded_value.before loaded_value.others.legal).layout in
      let place : place_of old.facts.layout counter ≡ g.number = counter_at-first old.facts.layout layout g.number in
      let near = values-tell old.facts loaded_value.before loaded_value.others.legal counter
      (first-known old.facts.layout layout g.number (omega (arith, zone)))
      (subst (IsZone old.facts.layout) (sym place) zone) in
      let told : IsTold old.facts loaded_value.before counter free
      (slack_at old.facts loaded_value.before (place_of old.facts.layout counter)) =
      subst (λ (n : ℕ). IsTold old.facts loaded_value.before counter n
      (slack_at old.facts loaded_value.before (place_of old.facts.layout counter)))
      (ap at_least_zero value_stood ∙ sym answers) near in
      subst (λ (m : ℕ). IsTold old.facts loaded_value.before counter free
      (slack_of (size_at old.facts.sizes g.number) m)) stands.mark
      (subst (λ (n : ℕ). IsTold old.facts loaded_value.before counter free (slack_at old.facts loaded_value.before n))
      place told)

  tells_truly : TellsTruly third old g free
  tells_truly = record {
    mark = first;
    value = value;
    moment = loaded_value.before;
    between = between;
    told = answers;
    legal = loaded_value.others.legal;
    stands = stands;
    above = loads-told.2;
    near = free_near;
    nearly =
        let layout = (base_can_begin pages old.facts loaded_value.before loaded_value.others.legal).layout in
        subst (TellsNearly old.facts loaded_value.before (counter_at old.facts.layout g.number 0)) value_stood
        (values-tell_nearly old.facts loaded_value.before loaded_value.others.legal
        (counter_at old.facts.layout g.number 0)
        (first-known old.facts.layout layout g.number (omega (arith, zone))));
  }

  pub tells_and_says : TellsTruly third old g free × ((limit : ℕ) → limit < free → SaysTruly third old g limit)
  tells_and_says = (tells_truly, says_truly)

-- loads that other steps of the call come before and after
abbrev between-whole_call : (facts : Facts) (p : ℕ) (new last first old : History) (g : PlaceId) (mark : MarkRead)
    (value : ℤ) (moment : History) → Extends first old → Extends new last
    → LoadsBetween facts.layout last first p g mark value moment → LoadsBetween facts.layout new old p g mark value moment
between-whole_call facts p new last first old g mark value moment since until loads = record {
  first = loads.first;
  last = loads.last;
  begins = Extends-both loads.first first old loads.begins since;
  marks = loads.marks;
  loads = loads.loads;
  marks_again =
      Extends-both new last (record { caller = p; step = LoadM g mark.mark mark.number } ∷ loads.last)
      until loads.marks_again;
}

-- what a test tells that other steps of the call come before and after
pub tells-whole_call : (new last first old : Pass Facts Step) (g : PlaceId) (free : ℕ) → first.facts ≡ old.facts
    → first.number ≡ old.number → Extends first.seen old.seen → Extends new.seen last.seen
    → TellsTruly last first g free → TellsTruly new old g free
tells-whole_call new last first old g free facts number since until tells =
    let at_first : TellsTruly last (record first { facts = old.facts; number = old.number }) g free =
    subst (λ (p : ℕ). TellsTruly last (record first { facts = old.facts; number = p }) g free) number
    (subst (λ (f : Facts). TellsTruly last (record first { facts = f }) g free) facts tells) in
    record {
      mark = at_first.mark;
      value = at_first.value;
      moment = at_first.moment;
      between = between-whole_call old.facts old.number new.seen last.seen first.seen old.seen g at_first.mark
          at_first.value at_first.moment since until at_first.between;
      told = at_first.told;
      legal = at_first.legal;
      stands = at_first.stands;
      above = at_first.above;
      near = at_first.near;
      nearly = at_first.nearly;
    }

-- what a test says that other steps of the call come before and after
pub truly-whole_call : (new last first old : Pass Facts Step) (g : PlaceId) (limit : ℕ) → first.facts ≡ old.facts
    → first.number ≡ old.number → Extends first.seen old.seen → Extends new.seen last.seen
    → SaysTruly last first g limit → SaysTruly new old g limit
truly-whole_call new last first old g limit facts number since until says =
    let at_first : SaysTruly last (record first { facts = old.facts; number = old.number }) g limit =
    subst (λ (p : ℕ). SaysTruly last (record first { facts = old.facts; number = p }) g limit) number
    (subst (λ (f : Facts). SaysTruly last (record first { facts = f }) g limit) facts says) in
    record {
      mark = at_first.mark;
      value = at_first.value;
      moment = at_first.moment;
      between = between-whole_call old.facts old.number new.seen last.seen first.seen old.seen g at_first.mark
          at_first.value at_first.moment since until at_first.between;
      legal = at_first.legal;
      stands = at_first.stands;
      marked = at_first.marked;
      unmarked = at_first.unmarked;
    }
