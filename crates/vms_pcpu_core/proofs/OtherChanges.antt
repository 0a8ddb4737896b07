-- What one caller and the others add to a counter, and what they carry for it.
use Rattle.std.proofs.Common.{◌≡◌, ℕ, suc, zero, Bool, true, false, List, [], ◌∷◌, ◌++◌, ℤ, pos, negsuc, ◌+ℤ◌, ◌-ℤ◌}
use Rattle.std.proofs.Common.{◌≤ℤ◌, refl, sym, ap, subst, ◌∙◌, if◌then◌else◌, nat_eq, eq-eqb, eqb-true, true≢false}
use Rattle.std.proofs.Common.{arith}
use Rattle.std.proofs.lemmas.Int.{ints}
use Rattle.vms_history.specs.Common.{Extends, own, after, begun_in, sum_below}
use Rattle.vms_history.proofs.Common.{own-mine, sum_below-zeros}
use Rattle.vms_pcpu_core.specs.declared.steps.PcpuFacts.{PcpuFacts}
use Rattle.vms_pcpu_core.specs.declared.steps.PcpuStep.{PcpuStep}
use Rattle.vms_pcpu_core.specs.declared.steps.PcpuStep.TheVariants.{LoadL, LoadC}
use Rattle.vms_pcpu_core.specs.Common.{IsPcpu, History, IsLegal, carried_by_all, rise, fall, by_others}
use Rattle.vms_pcpu_core.specs.Common.{by_others_between, carried_by_others, holds_lock, carried, as_is, own_added}
use Rattle.vms_pcpu_core.specs.Common.{role, amount_of, amounts, true_total, IsLoad, AreLoads, event}
use Rattle.vms_pcpu_core.proofs.Locks.{holder-one}
use Rattle.vms_pcpu_core.proofs.StepsInRow.{RunsBetween, own-others_on}

pub rise-fall : (x : ℤ) → x ≡ rise x -ℤ fall x
rise-fall (pos n) = omega (arith, ints)
rise-fall (negsuc n) = omega (arith, ints)

pub rise-least : (x : ℤ) → pos 0 ≤ℤ rise x
rise-least (pos n) = omega (arith, ints)
rise-least (negsuc n) = omega (arith, ints)

pub fall-least : (x : ℤ) → pos 0 ≤ℤ fall x
fall-least (pos n) = omega (arith, ints)
fall-least (negsuc n) = omega (arith, ints)

-- the amounts that p adds to counter j
abbrev pub by_self : ℕ → ℕ → History → ℤ
by_self p j h = own_added as_is j (own h p)

pub amounts-parts : (p j : ℕ) (h : History)
    → amounts j h ≡ by_self p j h +ℤ (by_others rise p j h -ℤ by_others fall p j h)
amounts-parts p j [] = omega (arith, ints)
amounts-parts p j (e ∷ h) = parts (nat_eq e.caller p) refl (amounts-parts p j h)
  where
    parts : (b : Bool) → nat_eq e.caller p ≡ b
        → amounts j h ≡ by_self p j h +ℤ (by_others rise p j h -ℤ by_others fall p j h)
        → amount_of j (carried j (own h e.caller)) e.step +ℤ amounts j h
        ≡ own_added as_is j (if b then e ∷ own h p else own h p)
        +ℤ (((if b then pos 0 else rise (amount_of j (carried j (own h e.caller)) e.step)) +ℤ by_others rise p j h)
        -ℤ ((if b then pos 0 else fall (amount_of j (carried j (own h e.caller)) e.step)) +ℤ by_others fall p j h))
    parts true mine is =
        let same : amount_of j (carried j (own h e.caller)) e.step ≡ amount_of j (carried j (own h p)) e.step =
        ap (λ q. amount_of j (carried j (own h q)) e.step) (eqb-true e.caller p mine) in
        omega (arith, ints, is, same)
    parts false other is = omega (arith, ints, is, rise-fall (amount_of j (carried j (own h e.caller)) e.step))

-- from a history to a later one the true total moves by what p adds, and by what others add up and down
pub true_total-between : (facts : PcpuFacts) (p j : ℕ) (h g : History)
    → true_total facts g j ≡ (true_total facts h j +ℤ (by_self p j g -ℤ by_self p j h))
    +ℤ (by_others_between rise p j h g -ℤ by_others_between fall p j h g)
true_total-between facts p j h g = omega (arith, ints, amounts-parts p j h, amounts-parts p j g)

-- where no other caller carries anything, what others carry is 0
pub others-carry_nothing : (part : ℤ → ℤ) (p j : ℕ) (h : History) → part (pos 0) ≡ pos 0
    → ((q : ℕ) → nat_eq q p ≡ false → carried j (own h q) ≡ pos 0) → carried_by_others part p j h ≡ pos 0
others-carry_nothing part p j h none nothing =
    sum_below-zeros (λ q. if nat_eq q p then pos 0 else part (carried j (own h q))) (suc (begun_in role h))
    (λ q below. by (nat_eq q p) q refl)
  where
    by : (b : Bool) (q : ℕ) → nat_eq q p ≡ b → (if b then pos 0 else part (carried j (own h q))) ≡ pos 0
    by true q same = refl
    by false q other = ap part (nothing q other) ∙ none

module _ (part : ℤ → ℤ) (least : (x : ℤ) → pos 0 ≤ℤ part x) (p j : ℕ) where
  by_others-append : (m h : History) → by_others part p j h ≤ℤ by_others part p j (m ++ h)
  by_others-append [] h = omega (arith, ints)
  by_others-append (e ∷ m) h =
      let more : pos 0 ≤ℤ (if nat_eq e.caller p then pos 0 else part (amount_of j (carried j (own (m ++ h) e.caller))
      e.step)) =
      some (nat_eq e.caller p) (amount_of j (carried j (own (m ++ h) e.caller)) e.step) in
      omega (arith, ints, more, by_others-append m h)
    where
      some : (b : Bool) (x : ℤ) → pos 0 ≤ℤ (if b then pos 0 else part x)
      some true x = omega (arith, ints)
      some false x = least x

  -- what others add up, or down, grows
  pub by_others-grows : (g h : History) → Extends g h → by_others part p j h ≤ℤ by_others part p j g
  by_others-grows g h more = subst (λ es. by_others part p j h ≤ℤ by_others part p j es) (sym more.1)
      (by_others-append more.0 h)

  pub carried_by_others-least : (h : History) → pos 0 ≤ℤ carried_by_others part p j h
  carried_by_others-least h = below (suc (begun_in role h))
    where
      some : (b : Bool) (x : ℤ) → pos 0 ≤ℤ (if b then pos 0 else part x)
      some true x = omega (arith, ints)
      some false x = least x

      below : (n : ℕ) → pos 0 ≤ℤ sum_below (λ q. if nat_eq q p then pos 0 else part (carried j (own h q))) n
      below zero = omega (arith, ints)
      below (suc n) = omega (arith, ints, some (nat_eq n p) (carried j (own h n)), below n)

  -- under a lock others carry nothing
  pub carried_by_others-locked : (facts : PcpuFacts) (h : History) → IsLegal facts h → IsPcpu facts j
      → part (pos 0) ≡ pos 0
      → holds_lock j (own h p) ≡ true → carried_by_others part p j h ≡ pos 0
  carried_by_others-locked facts h legal j_in none holding =
      others-carry_nothing part p j h none (λ q other. nothing (holds_lock j (own h q)) q refl other)
    where
      nothing : (b : Bool) (q : ℕ) → holds_lock j (own h q) ≡ b → nat_eq q p ≡ false → carried j (own h q) ≡ pos 0
      nothing true q held other =
          let same : q ≡ p = (holder-one facts h legal j j_in).one q p held holding in
          absurd (true≢false (sym (eq-eqb q p same) ∙ other))
      nothing false q held other = (holder-one facts h legal j j_in).others q held

-- what all carry is what others carry up less what they carry down, where p carries nothing
pub carried_by_all-others : (p j : ℕ) (h : History) → carried j (own h p) ≡ pos 0
    → carried_by_all h j ≡ carried_by_others rise p j h -ℤ carried_by_others fall p j h
carried_by_all-others p j h nothing = below (suc (begun_in role h))
  where
    each : (b : Bool) (q : ℕ) → nat_eq q p ≡ b
        → carried j (own h q) ≡ (if b then pos 0 else rise (carried j (own h q))) -ℤ
        (if b then pos 0 else fall (carried j (own h q)))
    each true q same = ap (λ r. carried j (own h r)) (eqb-true q p same) ∙ nothing
    each false q other = rise-fall (carried j (own h q))

    below : (n : ℕ) → sum_below (λ q. carried j (own h q)) n
        ≡ sum_below (λ q. if nat_eq q p then pos 0 else rise (carried j (own h q))) n
        -ℤ sum_below (λ q. if nat_eq q p then pos 0 else fall (carried j (own h q))) n
    below zero = omega (arith, ints)
    below (suc n) = omega (arith, ints, each (nat_eq n p) n refl, below n)

-- loads add nothing, and leave what is held and carried
abbrev pub LoadSteps : List PcpuStep → Type 0
LoadSteps [] = Unit {0}
LoadSteps (k ∷ ks) = IsLoad k × LoadSteps ks

module _ (p j : ℕ) where
  pub by_self-others : (others h : History) → own others p ≡ [] → by_self p j (others ++ h) ≡ by_self p j h
  by_self-others others h none = ap (own_added as_is j) (own-others_on others h p none)

  pub by_self-step : (k : PcpuStep) (h : History)
      → by_self p j (event p k ∷ h) ≡ amount_of j (carried j (own h p)) k +ℤ by_self p j h
  by_self-step k h = ap (own_added as_is j) (own-mine (event p k) h p refl)

  -- steps that add nothing to the counter
  abbrev pub AddNothing : List PcpuStep → Type 0
  AddNothing [] = Unit {0}
  AddNothing (k ∷ ks) = ((x : ℤ) → amount_of j x k ≡ pos 0) × AddNothing ks

  pub by_self-nothing_added : (ks : List PcpuStep) (h g : History) → AddNothing ks → RunsBetween p ks h g
      → by_self p j g ≡ by_self p j h
  by_self-nothing_added [] h g nothing_added run = ap (by_self p j) run
  by_self-nothing_added (k ∷ ks) h g nothing_added run =
      by_self-nothing_added ks (event p k ∷ (run.0 ++ h)) g nothing_added.1 run.2
      ∙ by_self-step k (run.0 ++ h)
      ∙ omega (arith, ints, nothing_added.0 (carried j (own (run.0 ++ h) p)), by_self-others run.0 h run.1)

  pub nothing_added-loads : (ks : List PcpuStep) → LoadSteps ks → AddNothing ks
  nothing_added-loads [] loads = tt
  nothing_added-loads (LoadL i c v ∷ ks) loads = (λ x. refl, nothing_added-loads ks loads.1)
  nothing_added-loads (LoadC i v ∷ ks) loads = (λ x. refl, nothing_added-loads ks loads.1)
  nothing_added-loads (_ ∷ ks) loads = absurd loads.0

  pub carried-loads : (ks : List PcpuStep) (h : History) → LoadSteps ks → carried j (after p ks h) ≡ carried j h
  carried-loads [] h loads = refl
  carried-loads (LoadL i c v ∷ ks) h loads = carried-loads ks (event p (LoadL i c v) ∷ h) loads.1
  carried-loads (LoadC i v ∷ ks) h loads = carried-loads ks (event p (LoadC i v) ∷ h) loads.1
  carried-loads (_ ∷ ks) h loads = absurd loads.0

  pub holds-loads : (ks : List PcpuStep) (h : History) → LoadSteps ks → holds_lock j (after p ks h) ≡ holds_lock j h
  holds-loads [] h loads = refl
  holds-loads (LoadL i c v ∷ ks) h loads = holds-loads ks (event p (LoadL i c v) ∷ h) loads.1
  holds-loads (LoadC i v ∷ ks) h loads = holds-loads ks (event p (LoadC i v) ∷ h) loads.1
  holds-loads (_ ∷ ks) h loads = absurd loads.0

  pub after-loads : (ks : List PcpuStep) (h : History) → LoadSteps ks → AreLoads h → AreLoads (after p ks h)
  after-loads [] h loads are = are
  after-loads (k ∷ ks) h loads are = after-loads ks (event p k ∷ h) loads.1 (loads.0, are)
