-- For other crates too: a limited addition of a caller that is alone with the counter is exact.
use Rattle.std.proofs.Common.{◌≡◌, ◌≢◌, ℕ, Bool, true, false, true≢false, List, [], ◌∷◌, ◌++◌, length, length-append}
use Rattle.std.proofs.Common.{◌+◌, Some, ℤ, pos, ◌+ℤ◌, ◌-ℤ◌, ◌≤ℤ◌, ◌<ℤ◌, refl, sym, ap, subst, ◌∙◌, if◌then◌else◌}
use Rattle.std.proofs.Common.{nat_eq, arith}
use Rattle.std.proofs.lemmas.Int.{ints}
use Rattle.std.proofs.lemmas.Bool.{eqb-false}
use Rattle.vms_history.specs.Common.{CpuId, PcpuId, Extends, own, owner_in}
use Rattle.vms_history.specs.declared.events.Event.{Event}
use Rattle.vms_history.proofs.Common.{Extends-same, Extends-both, own-append, own-mine}
use Rattle.vms_pcpu_core.specs.declared.steps.PcpuFacts.{PcpuFacts}
use Rattle.vms_pcpu_core.specs.declared.steps.PcpuStep.{PcpuStep}
use Rattle.vms_pcpu_core.specs.declared.steps.PcpuStep.TheVariants.{LoadC}
use Rattle.vms_pcpu_core.specs.Common.{batch_at, IsLimitedAdd, unknown, present_cpus, History, rise, fall, by_others}
use Rattle.vms_pcpu_core.specs.Common.{by_others_between, carried_by_others, IsAlone, IsExact, event, MadeSteps}
use Rattle.vms_pcpu_core.specs.Common.{carried, role, amount_of, true_total}
use Rattle.vms_pcpu_core.proofs.LimitedAdds.{limited-says}
use Rattle.vms_pcpu_core.proofs.LimitAnswers.{SaysYes, SaysNo, Says}
use Rattle.vms_pcpu_core.proofs.OtherChanges.{by_self, by_self-others, others-carry_nothing, true_total-between}

module _ (earlier later : History) (p j : ℕ) (alone : IsAlone earlier later p j)
    (part : ℤ → ℤ) (none : part (pos 0) ≡ pos 0) where
  alone-append : (m h : History) → Extends h earlier → Extends later (m ++ h)
      → by_others part p j (m ++ h) ≡ by_others part p j h
  alone-append [] h since kept = refl
  alone-append (e ∷ m) h since kept =
      let below : Extends later (m ++ h) = Extends-both later (e ∷ (m ++ h)) (m ++ h) kept (e ∷ [], refl) in
      let here : (if nat_eq e.caller p then pos 0 else part (amount_of j (carried j (own (m ++ h) e.caller))
      e.step)) ≡ pos 0 =
      by (nat_eq e.caller p) refl (λ other. alone.adds e (m ++ h) (Extends-both (m ++ h) h earlier (m, refl) since) kept
      other) in
      omega (arith, ints, here, alone-append m h since below)
    where
      by : (b : Bool) → nat_eq e.caller p ≡ b
          → (e.caller ≢ p → amount_of j (carried j (own (m ++ h) e.caller)) e.step ≡ pos 0)
          → (if b then pos 0 else part (amount_of j (carried j (own (m ++ h) e.caller)) e.step)) ≡ pos 0
      by true mine adds = refl
      by false other adds = ap part (adds (eqb-false e.caller p other)) ∙ none

  pub alone-changes : (g h : History) → Extends h earlier → Extends g h → Extends later g
      → by_others_between part p j h g ≡ pos 0
  alone-changes g h since more kept =
      let same = alone-append more.0 h since (subst (Extends later) more.1 kept) in
      let whole = ap (by_others part p j) more.1 in
      omega (arith, ints, same, whole)

  pub alone-carries : (h : History) → Extends h earlier → Extends later h → carried_by_others part p j h ≡ pos 0
  alone-carries h since kept =
      others-carry_nothing part p j h none (λ q other. alone.carries h since kept q (eqb-false q p other))

module _ (facts : PcpuFacts) (earlier later : History) (p : ℕ) (j : PcpuId) (limit amount : ℤ)
    (alone : IsAlone earlier later p j.number)
    (more : Extends later earlier) where
  -- the true total moves by what p adds
  alone-total : (g h : History) → Extends h earlier → Extends g h → Extends later g
      → true_total facts g j.number ≡ true_total facts h j.number +ℤ (by_self p j.number g -ℤ by_self p j.number h)
  alone-total g h since on kept =
      omega (
        arith,
        ints,
        true_total-between facts p j.number h g,
        alone-changes earlier later p j.number alone rise refl g h since on kept,
        alone-changes earlier later p j.number alone fall refl g h since on kept,
      )

  last-total : (answer : Bool) (says : Says facts earlier later p j limit amount answer)
      → true_total facts later j.number ≡ true_total facts earlier j.number +ℤ
      (by_self p j.number says.end -ℤ by_self p j.number earlier)
  last-total answer says =
      let same = by_self-others p j.number says.kept.0 says.end says.none_since in
      let whole = ap (by_self p j.number) says.kept.1 in
      omega (arith, ints, alone-total later earlier (Extends-same earlier) more (Extends-same later), same, whole)

  yes-exact : (end : History) → SaysYes facts earlier later p j limit amount end
      → (pos 0 <ℤ amount → (true_total facts earlier j.number +ℤ amount) ≤ℤ limit)
      × (amount <ℤ pos 0 → limit ≤ℤ (true_total facts earlier j.number +ℤ amount))
  yes-exact end yes_says =
      let keeps = yes_says.keeps in
      let total = alone-total keeps.changed earlier (Extends-same earlier) yes_says.changed_on yes_says.changed_kept in
      let begun_on : Extends keeps.begun earlier = keeps.begins.since in
      let loaded_on : Extends keeps.loaded earlier =
      Extends-both keeps.loaded keeps.begun earlier keeps.loads.since begun_on in
      let loaded_kept : Extends later keeps.loaded =
      Extends-both later (event p (LoadC j keeps.count) ∷ keeps.loaded) keeps.loaded keeps.loads.kept
      (event p (LoadC j keeps.count) ∷ [], refl) in
      let change : Event PcpuStep = event p keeps.change in
      let change_on : Extends (change ∷ keeps.unchanged) keeps.loaded =
      Extends-both (change ∷ keeps.unchanged) keeps.unchanged keeps.loaded (change ∷ [], refl) keeps.changes.since in
      let changed_on : Extends keeps.changed keeps.begun =
      Extends-both keeps.changed keeps.loaded keeps.begun
      (subst (λ es. Extends es keeps.loaded) (sym keeps.after_change) change_on) keeps.loads.since in
      let rises =
      alone-changes earlier later p j.number alone rise refl keeps.changed keeps.begun begun_on changed_on
      yes_says.changed_kept in
      let falls =
      alone-changes earlier later p j.number alone fall refl keeps.changed keeps.begun begun_on changed_on
      yes_says.changed_kept in
      let carried_up = alone-carries earlier later p j.number alone rise refl keeps.loaded loaded_on loaded_kept in
      let carried_down = alone-carries earlier later p j.number alone fall refl keeps.loaded loaded_on loaded_kept in (
        λ up. let bound = keeps.most up in omega (arith, ints, yes_says.own_change),
        λ down. let bound = keeps.least down in omega (arith, ints, yes_says.own_change),
      )

  no-exact : (end : History) → SaysNo facts earlier later p j limit amount end
      → (pos 0 <ℤ amount → limit <ℤ (true_total facts earlier j.number +ℤ amount))
      × (amount <ℤ pos 0 → (true_total facts earlier j.number +ℤ amount) <ℤ limit)
  no-exact end no_says =
      let passes = no_says.passes in
      let total = alone-total passes.won earlier (Extends-same earlier) no_says.won_on no_says.won_kept in
      let last_on : Extends passes.last passes.won = passes.reads.since in
      let last_kept : Extends later passes.last =
      Extends-both later (event p passes.reading ∷ passes.last) passes.last passes.reads.kept
      (event p passes.reading ∷ [], refl) in
      let rises =
      alone-changes earlier later p j.number alone rise refl passes.last passes.won no_says.won_on last_on
      last_kept in
      let falls = alone-changes earlier later p j.number alone fall refl passes.last passes.won no_says.won_on last_on
      last_kept in (
        λ up. let bound = passes.most up in omega (arith, ints, no_says.own_won),
        λ down. let bound = passes.least down in omega (arith, ints, no_says.own_won),
      )

pub limited-exact : (facts : PcpuFacts) (earlier later : History) (p : ℕ) (cpu : CpuId) (j : PcpuId) (limit amount : ℤ)
    (steps : List PcpuStep) (answer : Bool) → MadeSteps facts earlier later p steps → owner_in role later p ≡ Some cpu
    → carried j.number (own earlier p) ≡ pos 0 → IsAlone earlier later p j.number → amount ≢ pos 0
    → IsLimitedAdd (batch_at facts.base j.number) (unknown facts j.number) (present_cpus facts) cpu j limit amount steps
    answer
    → IsExact facts earlier later j.number limit amount answer
limited-exact facts earlier later p cpu j limit amount steps answer calls owner nothing_carried alone some is =
    by answer (limited-says facts earlier later p cpu j limit amount steps answer calls owner nothing_carried is)
  where
    by : (answer : Bool) → Says facts earlier later p j limit amount answer
        → IsExact facts earlier later j.number limit amount answer
    by true says =
        let last = says.on_yes refl some in
        let exact = yes-exact facts earlier later p j limit amount alone calls.goes_on says.end last in
        let total = last-total facts earlier later p j limit amount alone calls.goes_on true says in
        record {
          most = λ up. (λ so. exact.0 up, λ within. refl);
          least = λ down. (λ so. exact.1 down, λ within. refl);
          total = omega (arith, ints, total, last.own_change, last.own_end);
        }
    by false says =
        let last = says.on_no refl in
        let exact = no-exact facts earlier later p j limit amount alone calls.goes_on says.end last in
        let total = last-total facts earlier later p j limit amount alone calls.goes_on false says in
        record {
          most =
              λ up.
              (λ so. absurd (true≢false (sym so)), λ within. let past = exact.0 up in absurd (omega (arith, ints)));
          least =
              λ down.
              (λ so. absurd (true≢false (sym so)), λ within. let past = exact.1 down in absurd (omega (arith, ints)));
          total = omega (arith, ints, total, last.own_end);
        }

-- a caller is alone where no other makes a step, and others carry nothing at first
module _ (earlier later : History) (p j : ℕ) (others_rest : (q : ℕ) → q ≢ p → own later q ≡ own earlier q)
    (others_carry : (q : ℕ) → q ≢ p → carried j (own earlier q) ≡ pos 0) where
  -- what others had made at a moment between
  made-then : (h : History) (q : ℕ) → q ≢ p → (since : Extends h earlier) → (kept : Extends later h)
      → (length (own kept.0 q) ≡ 0) × (own since.0 q ≡ [])
  made-then h q other since kept =
      let whole : own later q ≡ own kept.0 q ++ (own since.0 q ++ own earlier q) =
      ap (λ es. own es q) kept.1 ∙ own-append kept.0 h q
      ∙ ap (λ es. own kept.0 q ++ own es q) since.1 ∙ ap (λ es. own kept.0 q ++ es) (own-append since.0 earlier q) in
      let sizes : length (own earlier q) ≡ length (own kept.0 q) + (length (own since.0 q) + length (own earlier q)) =
      ap length (sym (others_rest q other) ∙ whole) ∙ length-append (own kept.0 q) (own since.0 q ++ own earlier q)
      ∙ ap (λ n. length (own kept.0 q) + n) (length-append (own since.0 q) (own earlier q)) in
      (omega arith, empty (own since.0 q) (omega arith))
    where
      empty : (es : History) → length es ≡ 0 → es ≡ []
      empty [] is = refl
      empty (e ∷ es) is = absurd (omega arith)

  pub alone-by_itself : IsAlone earlier later p j
  alone-by_itself =
      record {
        adds =
            λ e h since kept other.
            let below : Extends (e ∷ h) earlier = (e ∷ since.0, ap (λ es. e ∷ es) since.1) in
            let made = made-then (e ∷ h) e.caller other below kept in
            absurd (some e h since (sym (own-mine e since.0 e.caller refl) ∙ made.1));
        carries =
            λ h since kept q other.
            let made = made-then h q other since kept in
            ap (λ es. carried j (own es q)) since.1
            ∙ ap (carried j) (own-append since.0 earlier q ∙ ap (λ es. es ++ own earlier q) made.1)
            ∙ others_carry q other;
      }
    where
      some : (e : Event PcpuStep) (h : History) → (since : Extends h earlier) → e ∷ own since.0 e.caller ≡ [] → ⊥
      some e h since is = cc
