-- The local parts of the CPUs that are present are loaded one after another, and added up.
use Rattle.std.proofs.Common.{◌≡◌, ℕ, zero, suc, ◌+◌, ◌*◌, ◌<◌, ◌≤◌, true, false, List, [], ◌∷◌, ◌++◌, length, drop}
use Rattle.std.proofs.Common.{get_or, ℤ, pos, ◌+ℤ◌, unsigned_abs, refl, sym, ap, ◌∙◌, subst, arith, append_assoc}
use Rattle.std.proofs.Common.{append-nil}
use Rattle.std.proofs.lemmas.Int.{ints}
use Rattle.std.proofs.lemmas.List.{drop_more, drop_all}
use Rattle.vms_history.specs.Common.{CpuId, PcpuId, CpuState, Online, Dead, Absent, is_present, present_from}
use Rattle.vms_pcpu_core.specs.declared.steps.PcpuFacts.{PcpuFacts}
use Rattle.vms_pcpu_core.specs.declared.steps.PcpuStep.{PcpuStep}
use Rattle.vms_pcpu_core.specs.declared.steps.PcpuStep.TheVariants.{LoadL}
use Rattle.vms_pcpu_core.specs.Common.{most_batch, LoadsEach, present_cpus, no_cpu, one_cpu, percpu}
use Rattle.vms_seats.specs.Common.{Pass, IsLive, Made, MadeOne}
use Rattle.vms_seats.proofs.Common.{calls-none, calls-next}

module _ (j : PcpuId) (c : CpuId) (d : ℤ) where
  loads-more : (cpus : List CpuId) (steps : List PcpuStep) (sum : ℤ) → LoadsEach j cpus steps sum
      → LoadsEach j (cpus ++ c ∷ []) (steps ++ LoadL j c d ∷ []) (sum +ℤ d)
  loads-more cpus steps sum no_cpu =
      subst (LoadsEach j (c ∷ []) (LoadL j c d ∷ [])) (omega (arith, ints)) (one_cpu c d [] [] (pos 0) no_cpu)
  loads-more cpus steps sum (one_cpu b x others rest total each) =
      subst (LoadsEach j (b ∷ (others ++ c ∷ [])) (LoadL j b x ∷ (rest ++ LoadL j c d ∷ [])))
      (omega (arith, ints))
      (one_cpu b x (others ++ c ∷ []) (rest ++ LoadL j c d ∷ []) (total +ℤ d) (loads-more others rest total each))

-- the CPUs below n that are present are loaded, and what they hold is added up
pub record SoFar (facts : PcpuFacts) (j : PcpuId) (now old : Pass PcpuFacts PcpuStep) (n : ℕ) (sum : ℤ)
    : Type 0 where
  pub cpus : List CpuId
  pub steps : List PcpuStep
  pub all : present_cpus facts ≡ cpus ++ present_from n (drop n facts.cpus)
  pub each : LoadsEach j cpus steps sum
  pub made : Made percpu now old steps
  pub bound : unsigned_abs sum ≤ n * most_batch

pub so_far-none : (facts : PcpuFacts) (j : PcpuId) (pass : Pass PcpuFacts PcpuStep) → IsLive percpu pass
    → SoFar facts j pass pass 0 (pos 0)
so_far-none facts j pass live = record {
  cpus = [];
  steps = [];
  all = refl;
  each = no_cpu;
  made = calls-none percpu pass live;
  bound = omega arith;
}

get-any : (xs : List CpuState) (n : ℕ) (d e : CpuState) → n < length xs → get_or xs n d ≡ get_or xs n e
get-any [] n d e inside = absurd (omega arith)
get-any (x ∷ xs) zero d e inside = refl
get-any (x ∷ xs) (suc n) d e inside = get-any xs n d e (omega arith)

-- a turn of the loop over the states
module _ (facts : PcpuFacts) (j : PcpuId) (now old : Pass PcpuFacts PcpuStep) (n : ℕ) (sum : ℤ)
    (so_far : SoFar facts j now old n sum) (states : List CpuState) (states_are : states ≡ facts.cpus) (d : CpuState)
    (inside : n < length states) where
  inside_facts : n < length facts.cpus
  inside_facts = subst (λ (xs : List CpuState). n < length xs) states_are inside

  abbrev x : CpuState
  x = get_or facts.cpus n d

  abbrev later : ℕ → List CpuId
  later m = present_from m (drop (n + 1) facts.cpus)

  next : suc n ≡ n + 1
  next = omega arith

  left_is : present_from n (drop n facts.cpus) ≡ present_from n (x ∷ drop (n + 1) facts.cpus)
  left_is = ap (λ (xs : List CpuState). present_from n xs) (drop_more facts.cpus n x inside_facts)
      ∙ ap (λ (y : CpuState). present_from n (y ∷ drop (n + 1) facts.cpus)) (get-any facts.cpus n x d inside_facts)

  present-in : (y : CpuState) → is_present y ≡ true
      → present_from n (y ∷ drop (n + 1) facts.cpus) ≡ record { number = n } ∷ later (n + 1)
  present-in Online is = ap (λ (m : ℕ). record { number = n } ∷ later m) next
  present-in Dead is = ap (λ (m : ℕ). record { number = n } ∷ later m) next
  present-in Absent is = absurd cc

  absent-out : (y : CpuState) → is_present y ≡ false
      → present_from n (y ∷ drop (n + 1) facts.cpus) ≡ later (n + 1)
  absent-out Online is = absurd cc
  absent-out Dead is = absurd cc
  absent-out Absent is = ap later next

  -- a CPU that is present, once its local part is loaded
  pub so_far-then : is_present (get_or states n d) ≡ true → (new : Pass PcpuFacts PcpuStep) (v later_sum : ℤ)
      → MadeOne percpu new now (LoadL j (record { number = n }) v) → unsigned_abs v ≤ most_batch
      → later_sum ≡ sum +ℤ v → SoFar facts j new old (n + 1) later_sum
  so_far-then is new v later_sum one small sums =
      let c : CpuId = record { number = n } in
      let here : is_present x ≡ true =
      subst (λ (xs : List CpuState). is_present (get_or xs n d) ≡ true) states_are is in
      let before = so_far.bound in
      record {
        cpus = so_far.cpus ++ c ∷ [];
        steps = so_far.steps ++ LoadL j c v ∷ [];
        all = so_far.all ∙ ap (λ (rest : List CpuId). so_far.cpus ++ rest) (left_is ∙ present-in x here)
            ∙ sym (append_assoc so_far.cpus (c ∷ []) (later (n + 1)));
        each = subst (LoadsEach j (so_far.cpus ++ c ∷ []) (so_far.steps ++ LoadL j c v ∷ [])) (sym sums)
            (loads-more j c v so_far.cpus so_far.steps sum so_far.each);
        made = calls-next percpu new now old so_far.steps (LoadL j c v) one so_far.made;
        bound = omega (arith, ints, before, small, sums);
      }

  -- a CPU that is absent
  pub so_far-else : is_present (get_or states n d) ≡ false → (later_sum : ℤ) → later_sum ≡ sum
      → SoFar facts j now old (n + 1) later_sum
  so_far-else is later_sum same =
      let gone : is_present x ≡ false =
      subst (λ (xs : List CpuState). is_present (get_or xs n d) ≡ false) states_are is in
      let before = so_far.bound in
      record {
        cpus = so_far.cpus;
        steps = so_far.steps;
        all = so_far.all ∙ ap (λ (rest : List CpuId). so_far.cpus ++ rest) (left_is ∙ absent-out x gone);
        each = subst (LoadsEach j so_far.cpus so_far.steps) (sym same) so_far.each;
        made = so_far.made;
        bound = omega (arith, ints, before, same);
      }

-- once all are past
pub so_far-all : (facts : PcpuFacts) (j : PcpuId) (now old : Pass PcpuFacts PcpuStep) (n : ℕ) (sum : ℤ)
    → SoFar facts j now old n sum → length facts.cpus ≤ n
    → (steps : List PcpuStep) × LoadsEach j (present_cpus facts) steps sum × Made percpu now old steps
so_far-all facts j now old n sum so_far past =
    let none : present_from n (drop n facts.cpus) ≡ [] =
    ap (λ (xs : List CpuState). present_from n xs) (drop_all n facts.cpus past) in
    let whole : present_cpus facts ≡ so_far.cpus =
    so_far.all ∙ ap (λ (rest : List CpuId). so_far.cpus ++ rest) none ∙ append-nil so_far.cpus in (
      so_far.steps,
      subst (λ (cpus : List CpuId). LoadsEach j cpus so_far.steps sum) (sym whole) so_far.each,
      so_far.made,
    )
