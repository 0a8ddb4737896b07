-- For other crates too: the loads of a test of a watermark, and what it rests on then.
use Rattle.std.proofs.Common.{◌≡◌, ℕ, Bool, true, false, not, ◌&&◌, ◌||◌, nat_eq, nat_lt, ℤ, to_z, of_z, w64, List, []}
use Rattle.std.proofs.Common.{◌∷◌, ◌++◌, refl, sym, ap, ◌∙◌, subst}
use Rattle.vms_calls.specs.Common.{Header, CounterId, PlaceId, WaterMark, Shape, counter_at, limit_of, Frees}
use Rattle.vms_calls.specs.Common.{IsSnapshot, IsWatermarkTest, at_least_zero, free_pages, is_doubtful, MarkRead, Facts}
use Rattle.vms_calls.specs.Common.{Step, LoadG, LoadM, pages}
use Rattle.vms_look.specs.Common.{HasFree}
use Rattle.vms_look.proofs.PassSteps.{value-told}
use Rattle.vms_seats.specs.Common.{Pass, Made, MadeOne}
use Rattle.vms_seats.proofs.Common.{calls-both}

-- the loads of a test, and whether there is doubt after them
module _ (shape : Shape) (g : PlaceId) (k : CounterId) (is_free : k.number ≡ counter_at shape g.number 0)
    (third two one old : Pass Facts Step) (first second : MarkRead)
    (made_first : MadeOne pages one old (LoadM g first.mark first.number)) (value : ℤ)
    (made_value : MadeOne pages two one (LoadG k value)) (free : ℕ)
    (is : free ≡ at_least_zero (to_z w64 (of_z w64 value)))
    (made_second : MadeOne pages third two (LoadM g second.mark second.number)) (doubt : Bool)
    (told : doubt ≡ (not (nat_eq first.mark second.mark && nat_eq first.number second.number)
    || (not (nat_eq first.mark 0) && nat_lt free first.mark))) where
  answers : free ≡ at_least_zero value
  answers = is ∙ ap at_least_zero (value-told two one k value made_value)

  same : k ≡ free_pages shape g
  same = ap (λ (n : ℕ). record { number = n }) is_free

  doubt-is : is_doubtful first value second ≡ doubt
  doubt-is = sym (told ∙ ap (λ (v : ℕ). not (nat_eq first.mark second.mark && nat_eq first.number second.number)
      || (not (nat_eq first.mark 0) && nat_lt v first.mark)) answers)

  abbrev loads : List Step
  loads = LoadM g first.mark first.number ∷ LoadG k value ∷ LoadM g second.mark second.number ∷ []

  made_loads : Made pages third old loads
  made_loads =
      calls-both pages third two old (LoadM g first.mark first.number ∷ LoadG k value ∷ [])
      (LoadM g second.mark second.number ∷ []) made_second.all
      (calls-both pages two one old (LoadM g first.mark first.number ∷ []) (LoadG k value ∷ []) made_value.all
      made_first.all)

  at_free : (new : Pass Facts Step) (further : List Step) → Made pages new old (loads ++ further)
      → Made pages new old (LoadM g first.mark first.number ∷ LoadG (free_pages shape g) value
      ∷ LoadM g second.mark second.number ∷ further)
  at_free new further = subst (λ (j : CounterId). Made pages new old (LoadM g first.mark first.number ∷ LoadG j value
      ∷ LoadM g second.mark second.number ∷ further)) same

  pub free-loaded : doubt ≡ false → HasFree shape third old g free true
  free-loaded none = record {
    first = first;
    value = value;
    second = second;
    further = [];
    frees = subst (λ (d : Bool). Frees shape (free_pages shape g) d value [] free) (sym (doubt-is ∙ none))
        (refl, answers);
    is_fast = ap not (sym (doubt-is ∙ none));
    made = at_free third [] made_loads;
  }

  pub free-snapshot : doubt ≡ true → (new : Pass Facts Step) (answer : ℕ)
      → (steps : List Step) × IsSnapshot shape k steps answer × Made pages new third steps
      → HasFree shape new old g answer false
  free-snapshot some new answer took = record {
    first = first;
    value = value;
    second = second;
    further = took.0;
    frees = subst (λ (d : Bool). Frees shape (free_pages shape g) d value took.0 answer) (sym (doubt-is ∙ some))
        (subst (λ (j : CounterId). IsSnapshot shape j took.0 answer) same took.1);
    is_fast = ap not (sym (doubt-is ∙ some));
    made = at_free new took.0 (calls-both pages new third old loads took.0 took.2 made_loads);
  }

-- the whole test, by the header's limit
pub tested : (header : Header) (shape : Shape) → header.layout ≡ shape → (new old : Pass Facts Step) (g : PlaceId)
    (mark : WaterMark) (most free : ℕ) (fast passes : Bool) → passes ≡ nat_lt (limit_of header g.number mark most) free
    → HasFree shape new old g free fast
    → (steps : List Step)
    × IsWatermarkTest header g mark most steps (record { yes = passes; free = free; fast = fast })
    × Made pages new old steps
tested header shape laid new old g mark most free fast passes is found =
    let has = subst (λ (s : Shape). HasFree s new old g free fast) (sym laid) found in (
      LoadM g has.first.mark has.first.number ∷ LoadG (free_pages header.layout g) has.value
          ∷ LoadM g has.second.mark has.second.number ∷ has.further,
      record {
        first = has.first;
        value = has.value;
        second = has.second;
        further = has.further;
        in_order = refl;
        frees = has.frees;
        fast = has.is_fast;
        yes = is;
      },
      has.made,
    )
