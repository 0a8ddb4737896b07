-- The CPUs that were found online so far, and all of them once each was looked at.
use Rattle.std.proofs.Common.{◌≡◌, ◌≢◌, ℕ, suc, ◌+◌, ◌<◌, ◌≤◌, nat_eq, Bool, true, false, true≢false, if◌then◌else◌}
use Rattle.std.proofs.Common.{List, [], ◌∷◌, ◌++◌, length, refl, sym, ap, ◌∙◌, subst, arith, ⊎_elim, append_assoc}
use Rattle.std.proofs.Common.{append-nil, length-append}
use Rattle.std.proofs.Math.ListN.{get_or-append}
use Rattle.std.proofs.Math.Seq.{get_or-append_seam}
use Rattle.std.proofs.lemmas.Bool.{cases_eq}
use Rattle.std.proofs.lemmas.List.Elements.{All-append}
use Rattle.vms_calls.specs.Common.{CpuId, CpuState, Online, Dead, Absent, is_online, online_from, IsCpu, in_turn}
use Rattle.vms_calls.specs.Common.{AreOnline, state_steps, Facts, Step, LoadO, SetO, IsBase, cpu_at, pages, History}
use Rattle.vms_calls.specs.Common.{state_after, cpu_after, cpu_in}
use Rattle.vms_core.specs.Pages.{IsLegal}
use Rattle.vms_core.proofs.Common.{online-stays, cpu_at-state_after}
use Rattle.vms_control.specs.Common.{FoundOnline, no_cpu, cpu_number_in}
use Rattle.vms_seats.specs.Common.{Pass, Shared, IsFrom, IsLive, Made, MadeOne, MakesStep}
use Rattle.vms_seats.proofs.Common.{calls-both, calls-none}
use Rattle.vms_control.proofs.PassCalls.{step-at}

-- one thing more in a row
pub in_turn-more : {X : Type 0} (steps : ℕ → X → List Step) (n : ℕ) (xs : List X) (x : X)
    → in_turn steps n (xs ++ (x ∷ [])) ≡ in_turn steps n xs ++ steps (n + length xs) x
in_turn-more steps n [] x = append-nil (steps n x)
    ∙ ap (λ (m : ℕ). steps m x) (let none : n ≡ n + 0 = omega arith in none)
in_turn-more steps n (y ∷ xs) x =
    ap (λ (ks : List Step). steps n y ++ ks) (in_turn-more steps (suc n) xs x
    ∙ ap (λ (m : ℕ). in_turn steps (suc n) xs ++ steps m x)
    (let same : suc n + length xs ≡ n + suc (length xs) = omega arith in same))
    ∙ sym (append_assoc (steps n y) (in_turn steps (suc n) xs) (steps (n + suc (length xs)) x))

-- one state more
online_from-more : (c : ℕ) (xs : List CpuState) (x : CpuState) → online_from c (xs ++ (x ∷ []))
    ≡ online_from c xs ++ (if is_online x then record { number = c + length xs } ∷ [] else [])
online_from-more c [] x = ap (λ (m : ℕ). if is_online x then record { number = m } ∷ [] else [])
    (let none : c ≡ c + 0 = omega arith in none)
online_from-more c (y ∷ ys) x = by (is_online y)
    (online_from-more (suc c) ys x
    ∙ ap (λ (m : ℕ). online_from (suc c) ys ++ (if is_online x then record { number = m } ∷ [] else []))
    (let same : suc c + length ys ≡ c + suc (length ys) = omega arith in same))
  where
    last : List CpuId
    last = if is_online x then record { number = c + suc (length ys) } ∷ [] else []

    all : List CpuId
    all = online_from (suc c) (ys ++ (x ∷ []))

    by : (b : Bool) → all ≡ online_from (suc c) ys ++ last → (if b then record { number = c } ∷ all else all)
        ≡ (if b then record { number = c } ∷ online_from (suc c) ys else online_from (suc c) ys) ++ last
    by true rest = ap (λ (cs : List CpuId). record { number = c } ∷ cs) rest
    by false rest = rest

online-is : (x : CpuState) → is_online x ≡ true → x ≡ Online
online-is Online is = refl
online-is Dead is = absurd cc
online-is Absent is = absurd cc

-- a CPU that is online was so when the phase began
cpu-was : (c : ℕ) (step : Step) (x : CpuState) → cpu_after c step x ≡ Online → x ≡ Online
cpu-was c (SetO d) x is = by (nat_eq d.number c) is
  where
    by : (b : Bool) → (if b then Absent else x) ≡ Online → x ≡ Online
    by true is = absurd cc
    by false is = is
cpu-was c _ x is = is

cpu_in-was : (facts : Facts) (c : ℕ) (h : History) → cpu_in facts c h ≡ Online → cpu_at facts.base c ≡ Online
cpu_in-was facts c [] is = is
cpu_in-was facts c (e ∷ h) is = cpu_in-was facts c h (cpu-was c e.step (cpu_in facts c h) is)

-- a number more at the end of a list
module _ (online : List CpuId) (c : CpuId) where
  number-earlier : (i : ℕ) → i < length online → cpu_number_in (online ++ (c ∷ [])) i ≡ cpu_number_in online i
  number-earlier i i_in = ap (λ (d : CpuId). d.number) (get_or-append online (c ∷ []) no_cpu i i_in)

  number-last : (i : ℕ) → i ≡ length online → cpu_number_in (online ++ (c ∷ [])) i ≡ c.number
  number-last i is = ap (cpu_number_in (online ++ (c ∷ []))) is
      ∙ ap (λ (d : CpuId). d.number) (get_or-append_seam online c [] no_cpu)

-- the states of the CPUs below n were loaded, and these were online
pub record FoundSoFar (facts : Facts) (now old : Pass Facts Step) (n : ℕ) (online : List CpuId) : Type 0 where
  pub states : List CpuState
  pub one_each : length states ≡ n
  pub found : online ≡ online_from 0 states
  pub made : Made pages now old (in_turn state_steps 0 states)
  pub few : length online ≤ n
  pub some : (c : ℕ) → c < n → cpu_at facts.base c ≡ Online → 1 ≤ length online
  pub each : AreOnline facts.layout facts.base online
  pub below : (i : ℕ) → i < length online → cpu_number_in online i < n
  pub ascending : (i j : ℕ) → i < j → j < length online → cpu_number_in online i < cpu_number_in online j

pub found-none : (facts : Facts) (old : Pass Facts Step) → IsLive pages old → FoundSoFar facts old old 0 []
found-none facts old live = record {
  states = [];
  one_each = refl;
  found = refl;
  made = calls-none pages old live;
  few = omega arith;
  some = λ c c_in up. absurd (omega arith);
  each = λ i d i_in. absurd (omega arith);
  below = λ i i_in. absurd (omega arith);
  ascending = λ i j before j_in. absurd (omega arith);
}

module _ (words : Shared Facts) (now old : Pass Facts Step) (n : ℕ) (online : List CpuId)
    (so_far : FoundSoFar words.facts now old n online) (of : IsFrom now words) (new : Pass Facts Step) (x : CpuState)
    (n_in : IsCpu words.facts.layout n) (one : MadeOne pages new now (LoadO (record { number = n }) x)) where
  abbrev facts : Facts
  facts = words.facts

  at : MakesStep pages facts new.seen now.seen now.number (LoadO (record { number = n }) x)
  at = step-at words new now (LoadO (record { number = n }) x) of one

  legal : IsLegal facts (record { caller = now.number; step = LoadO (record { number = n }) x } ∷ at.before)
  legal = subst (IsLegal facts) at.newest at.legal

  told : cpu_at (state_after facts at.before) n ≡ x
  told = legal.2.1

  -- it tells how the phase began
  was : x ≡ Online → cpu_at facts.base n ≡ Online
  was up = cpu_in-was facts n at.before (sym (cpu_at-state_after facts at.before legal.0 n n_in) ∙ told ∙ up)

  stays : cpu_at facts.base n ≡ Online → x ≡ Online
  stays up = sym told ∙ online-stays facts at.before n legal.0 up

  abbrev then_states : List CpuState
  then_states = so_far.states ++ (x ∷ [])

  then_each : length then_states ≡ n + 1
  then_each = length-append so_far.states (x ∷ []) ∙ ap (λ (m : ℕ). m + 1) so_far.one_each

  then_made : Made pages new old (in_turn state_steps 0 then_states)
  then_made = subst (Made pages new old)
      (ap (λ (m : ℕ). in_turn state_steps 0 so_far.states ++ state_steps m x)
      (let count : n ≡ 0 + length so_far.states = omega (arith, so_far.one_each) in count)
      ∙ sym (in_turn-more state_steps 0 so_far.states x))
      (calls-both pages new now old (in_turn state_steps 0 so_far.states) (state_steps n x) one.all so_far.made)

  then_found : (b : Bool) → is_online x ≡ b
      → online_from 0 then_states ≡ online ++ (if b then record { number = n } ∷ [] else [])
  then_found b is = online_from-more 0 so_far.states x
      ∙ ap (λ (b : Bool). online_from 0 so_far.states
      ++ (if b then record { number = 0 + length so_far.states } ∷ [] else [])) is
      ∙ ap (λ (m : ℕ). online_from 0 so_far.states ++ (if b then record { number = m } ∷ [] else []))
      (let count : 0 + length so_far.states ≡ n = omega (arith, so_far.one_each) in count)
      ∙ ap (λ (cs : List CpuId). cs ++ (if b then record { number = n } ∷ [] else [])) (sym so_far.found)

  pub found-other : is_online x ≡ false → FoundSoFar facts new old (n + 1) online
  found-other off = record {
    states = then_states;
    one_each = then_each;
    found = sym (then_found false off ∙ append-nil online);
    made = then_made;
    few = omega (arith, so_far.few);
    some = λ c c_in up. ⊎_elim
        (λ (here : c ≡ n). absurd (true≢false
        (ap is_online (sym (stays (subst (λ (m : ℕ). cpu_at facts.base m ≡ Online) here up))) ∙ off)))
        (λ (other : c ≡ n → ⊥). so_far.some c (omega arith) up)
        (cases_eq c n);
    each = so_far.each;
    below = λ i i_in. omega (arith, so_far.below i i_in);
    ascending = so_far.ascending;
  }

  pub found-online : is_online x ≡ true → FoundSoFar facts new old (n + 1) (online ++ (record { number = n } ∷ []))
  found-online on =
      let c : CpuId = record { number = n } in
      let long : length (online ++ (c ∷ [])) ≡ length online + 1 = length-append online (c ∷ []) in
      record {
        states = then_states;
        one_each = then_each;
        found = sym (then_found true on);
        made = then_made;
        few = omega (arith, so_far.few, long);
        some = λ d d_in up. omega (arith, long);
        each = All-append (λ (d : CpuId). IsCpu facts.layout d.number × (cpu_at facts.base d.number ≡ Online)) online
            (c ∷ []) so_far.each (λ i d i_in. let first : i ≡ 0 = omega arith in
            rw first (n_in, was (online-is x on)));
        below = λ i i_in. ⊎_elim
            (λ (last : i ≡ length online). omega (arith, number-last online c i last))
            (λ (earlier : i ≢ length online).
            let i_then : i < length online = omega (arith, i_in, long) in
            omega (arith, number-earlier online c i i_then, so_far.below i i_then))
            (cases_eq i (length online));
        ascending = λ i j before j_in.
            let i_then : i < length online = omega (arith, j_in, long) in
            ⊎_elim
            (λ (last : j ≡ length online).
            omega (arith, number-earlier online c i i_then, so_far.below i i_then, number-last online c j last))
            (λ (earlier : j ≢ length online).
            let j_then : j < length online = omega (arith, j_in, long) in
            omega (
              arith,
              number-earlier online c i i_then,
              number-earlier online c j j_then,
              so_far.ascending i j before j_then,
            ))
            (cases_eq j (length online));
      }

pub found-all : (facts : Facts) (now old : Pass Facts Step) (n : ℕ) (online : List CpuId) → IsBase facts
    → FoundSoFar facts now old n online → n ≡ facts.layout.cpus → FoundOnline facts online
found-all facts now old n online base so_far all =
    let up = base.opening.some_online in
    record {
      some = so_far.some up.0 (let within = up.1 in omega (arith, within, all)) up.2;
      few = omega (arith, so_far.few, all);
      most = let cpus = base.layout.cpus_most in omega (arith, so_far.few, all, cpus);
      each = so_far.each;
      ascending = so_far.ascending;
    }

-- they are online at every moment
pub online-now : (facts : Facts) (h : History) → IsLegal facts h → (d : ℕ) → IsCpu facts.layout d
    → cpu_at facts.base d ≡ Online → cpu_in facts d h ≡ Online
online-now facts h legal d d_in up =
    sym (cpu_at-state_after facts h legal d d_in) ∙ online-stays facts h d legal up
