-- For other crates too: what a caller holds, carries and has added goes by its own steps, and the steps of each call
-- leave it idle and add their amount.
use Rattle.std.proofs.Common.{◌≡◌, ℕ, nat_eq, Bool, true, false, List, [], ◌∷◌, ◌++◌, ℤ, pos, ◌+ℤ◌, ◌-ℤ◌, refl, sym, ap}
use Rattle.std.proofs.Common.{subst, ◌∙◌, append_assoc, if◌then◌else◌, arith}
use Rattle.std.proofs.lemmas.Int.{ints}
use Rattle.vms_history.specs.Common.{CpuId, PcpuId, own, after}
use Rattle.vms_history.proofs.Common.{if-map, if-either}
use Rattle.vms_pcpu_core.specs.declared.answers.Compare.{Compare}
use Rattle.vms_pcpu_core.specs.declared.steps.PcpuFacts.{PcpuFacts}
use Rattle.vms_pcpu_core.specs.declared.steps.PcpuStep.{PcpuStep}
use Rattle.vms_pcpu_core.specs.declared.steps.PcpuStep.TheVariants.{AddL, LoadL, LoadC, Missed, TakeL, AddC, Unlock}
use Rattle.vms_pcpu_core.specs.Common.{Locks, IsRead, IsAdd, IsSync, IsFoldDead, LoadsEach, IsSum, IsCompare, Probes}
use Rattle.vms_pcpu_core.specs.Common.{Judges, EndsLimitedAdd, IsLimitedAdd, won, missed, below, reached, moved}
use Rattle.vms_pcpu_core.specs.Common.{no_counter, one_counter, no_cpu, one_cpu, summed, far, near, large, narrow}
use Rattle.vms_pcpu_core.specs.Common.{beyond, inside, close, yes_ends, no_ends, nothing, unlocked, locked, History}
use Rattle.vms_pcpu_core.specs.Common.{event, MadeSteps, holds_lock, carried, carried_after, holds_through}
use Rattle.vms_pcpu_core.specs.Common.{carried_through, as_is, size_of, added_through, own_added, IsIdle}
use Rattle.vms_pcpu_core.specs.Common.{GoesByOwnSteps, AddsAmount, LeavesIdle}

-- by a caller's own steps
module _ (p : ℕ) where
  holds-after_steps : (j : ℕ) (ks : List PcpuStep) (h : History)
      → holds_lock j (after p ks h) ≡ holds_through j ks (holds_lock j h)
  holds-after_steps j [] h = refl
  holds-after_steps j (k ∷ ks) h = holds-after_steps j ks (event p k ∷ h)

  carried-after_steps : (j : ℕ) (ks : List PcpuStep) (h : History)
      → carried j (after p ks h) ≡ carried_through j ks (carried j h)
  carried-after_steps j [] h = refl
  carried-after_steps j (k ∷ ks) h = carried-after_steps j ks (event p k ∷ h)

  own_added-after_steps : (part : ℤ → ℤ) (j : ℕ) (ks : List PcpuStep) (h : History)
      → own_added part j (after p ks h) ≡ own_added part j h +ℤ added_through part j ks (carried j h)
  own_added-after_steps part j [] h = omega (arith, ints)
  own_added-after_steps part j (k ∷ ks) h = omega (arith, ints, own_added-after_steps part j ks (event p k ∷ h))

  pub goes_by_own_steps : (ks : List PcpuStep) (h : History) → GoesByOwnSteps p ks h
  goes_by_own_steps ks h = record {
    held = λ j. holds-after_steps j ks h;
    carrying = λ j. carried-after_steps j ks h;
    added = λ part j. own_added-after_steps part j ks h;
  }

-- steps in a row, and further ones
module _ (i : ℕ) where
  holds_through-append : (ks js : List PcpuStep) (b : Bool)
      → holds_through i (ks ++ js) b ≡ holds_through i js (holds_through i ks b)
  holds_through-append [] js b = refl
  holds_through-append (k ∷ ks) js b = holds_through-append ks js _

  carried_through-append : (ks js : List PcpuStep) (x : ℤ)
      → carried_through i (ks ++ js) x ≡ carried_through i js (carried_through i ks x)
  carried_through-append [] js x = refl
  carried_through-append (k ∷ ks) js x = carried_through-append ks js _

  added_through-append : (part : ℤ → ℤ) (ks js : List PcpuStep) (x : ℤ)
      → added_through part i (ks ++ js) x
      ≡ added_through part i ks x +ℤ added_through part i js (carried_through i ks x)
  added_through-append part [] js x = omega (arith, ints)
  added_through-append part (k ∷ ks) js x = omega (arith, ints, added_through-append part ks js (carried_after i k x))

-- what steps do for counter i: the lock and what is carried before and after, and the one amount that they add
pub record Does (i : ℕ) (ks : List PcpuStep) (b c : Bool) (x y amount : ℤ) : Type 0 where
  pub held : holds_through i ks b ≡ c
  pub carrying : carried_through i ks x ≡ y
  pub added : (part : ℤ → ℤ) → part (pos 0) ≡ pos 0 → added_through part i ks x ≡ part amount

module _ (i : ℕ) where
  pub does-then : (ks js : List PcpuStep) (b c d : Bool) (x y z amount : ℤ) → Does i ks b c x y (pos 0)
      → Does i js c d y z amount → Does i (ks ++ js) b d x z amount
  does-then ks js b c d x y z amount first second = record {
    held = holds_through-append i ks js b ∙ ap (holds_through i js) first.held ∙ second.held;
    carrying = carried_through-append i ks js x ∙ ap (carried_through i js) first.carrying ∙ second.carrying;
    added = λ part none.
        let moved : added_through part i js (carried_through i ks x) ≡ added_through part i js y =
        ap (added_through part i js) first.carrying in
        omega (
          arith,
          ints,
          added_through-append i part ks js x,
          first.added part none,
          none,
          moved,
          second.added part none,
        );
  }

  -- a list of steps each of which leaves all
  does-load : (k : PcpuStep) (ks : List PcpuStep) (b c : Bool) (x y amount : ℤ)
      → ((t : Bool) → holds_through i (k ∷ []) t ≡ t) → ((z : ℤ) → carried_through i (k ∷ []) z ≡ z)
      → ((part : ℤ → ℤ) (z : ℤ) → added_through part i (k ∷ []) z ≡ part (pos 0) +ℤ pos 0)
      → Does i ks b c x y amount → Does i (k ∷ ks) b c x y amount
  does-load k ks b c x y amount held carrying added rest =
      does-then (k ∷ []) ks b b c x x y amount
      (record {
        held = held b;
        carrying = carrying x;
        added = λ part none. omega (arith, ints, added part x);
      }) rest

  pub does-nothing : (b : Bool) (x : ℤ) → Does i [] b b x x (pos 0)
  does-nothing b x = record { held = refl; carrying = refl; added = λ part none. sym none }

  pub does-load_l : (j : PcpuId) (cpu : CpuId) (v : ℤ) (ks : List PcpuStep) (b c : Bool) (x y amount : ℤ)
      → Does i ks b c x y amount → Does i (LoadL j cpu v ∷ ks) b c x y amount
  does-load_l j cpu v ks b c x y amount rest =
      does-load (LoadL j cpu v) ks b c x y amount (λ t. refl) (λ z. refl) (λ part z. refl) rest

  pub does-load_c : (j : PcpuId) (v : ℤ) (ks : List PcpuStep) (b c : Bool) (x y amount : ℤ)
      → Does i ks b c x y amount → Does i (LoadC j v ∷ ks) b c x y amount
  does-load_c j v ks b c x y amount rest =
      does-load (LoadC j v) ks b c x y amount (λ t. refl) (λ z. refl) (λ part z. refl) rest

  -- an addition to the local part
  pub does-add_l : (j : PcpuId) (amount : ℤ) (b : Bool) (x : ℤ)
      → Does i (AddL j amount ∷ []) b b x x (if nat_eq j.number i then amount else pos 0)
  does-add_l j amount b x = record { held = refl; carrying = refl; added = λ part none. omega (arith, ints) }

  -- the lock is won
  pub does-lock : (j : PcpuId) (ks : List PcpuStep) (x : ℤ) → Locks j ks
      → Does i ks false (nat_eq j.number i) x x (pos 0)
  does-lock j ks x won = record {
    held = by (nat_eq j.number i);
    carrying = refl;
    added = λ part none. omega (arith, ints);
  }
    where
      by : (t : Bool) → (if t then true else false) ≡ t
      by true = refl
      by false = refl
  does-lock j ks x (missed rest locks) =
      does-load (Missed j) rest false (nat_eq j.number i) x x (pos 0) (λ t. refl) (λ z. refl) (λ part z. refl)
      (does-lock j rest x locks)

  -- and given back
  pub does-unlock : (j : PcpuId) (x : ℤ) → Does i (Unlock j ∷ []) (nat_eq j.number i) false x x (pos 0)
  does-unlock j x = record {
    held = by (nat_eq j.number i);
    carrying = refl;
    added = λ part none. omega (arith, ints);
  }
    where
      by : (t : Bool) → (if t then false else t) ≡ false
      by true = refl
      by false = refl

  -- under the lock a local part moves to the shared part together with an amount
  pub does-move : (j : PcpuId) (cpu : CpuId) (v w amount : ℤ) → w ≡ v +ℤ amount
      → Does i (TakeL j cpu v ∷ AddC j w ∷ Unlock j ∷ []) (nat_eq j.number i) false (pos 0) (pos 0)
      (if nat_eq j.number i then amount else pos 0)
  does-move j cpu v w amount sum = record {
    held = held (nat_eq j.number i);
    carrying = carrying (nat_eq j.number i);
    added = λ part none. added part none (nat_eq j.number i);
  }
    where
      held : (t : Bool) → (if t then false else t) ≡ false
      held true = refl
      held false = refl

      carrying : (t : Bool) → (if t then pos 0 else (if t then pos 0 +ℤ v else pos 0)) ≡ pos 0
      carrying true = refl
      carrying false = refl

      added : (part : ℤ → ℤ) → part (pos 0) ≡ pos 0 → (t : Bool)
          → part (pos 0) +ℤ (part (if t then w -ℤ (if t then pos 0 +ℤ v else pos 0) else pos 0)
          +ℤ (part (pos 0) +ℤ pos 0))
          ≡ part (if t then amount else pos 0)
      added part none true =
          let same : part (w -ℤ (pos 0 +ℤ v)) ≡ part amount = ap part (omega (arith, ints, sum)) in
          omega (arith, ints, none, same)
      added part none false = omega (arith, ints, none)

  pub does-loads : (j : PcpuId) (cpus : List CpuId) (ks : List PcpuStep) (sum : ℤ) (b : Bool) (x : ℤ)
      → LoadsEach j cpus ks sum → Does i ks b b x x (pos 0)
  does-loads j cpus ks sum b x no_cpu = does-nothing b x
  does-loads j cpus ks sum b x (one_cpu c d others rest total each) =
      does-load_l j c d rest b b x x (pos 0) (does-loads j others rest total b x each)

  pub does-judges : (unknown : ℕ) (limit : ℤ) (cpus : List CpuId) (j : PcpuId) (amount value : ℤ) (ks : List PcpuStep)
      (answer b : Bool) (x : ℤ) → Judges unknown limit cpus j amount value ks answer → Does i ks b b x x (pos 0)
  does-judges unknown limit cpus j amount value ks answer b x (beyond out) = does-nothing b x
  does-judges unknown limit cpus j amount value ks answer b x (inside fits) = does-nothing b x
  does-judges unknown limit cpus j amount value ks answer b x (close loads sum out fits each) =
      does-loads j cpus loads sum b x each

  pub does-probes : (batch unknown : ℕ) (limit : ℤ) (own : CpuId) (j : PcpuId) (amount : ℤ) (ks : List PcpuStep)
      (b : Bool) (x : ℤ) → Probes batch unknown limit own j amount ks → Does i ks b b x x (pos 0)
  does-probes batch unknown limit own j amount ks b x (large l above) =
      does-load_l j own l [] b b x x (pos 0) (does-nothing b x)
  does-probes batch unknown limit own j amount ks b x (narrow l v fits small) =
      does-load_l j own l (LoadC j v ∷ []) b b x x (pos 0)
      (does-load_c j v [] b b x x (pos 0) (does-nothing b x))

  does-settles : (own : CpuId) (j : PcpuId) (amount : ℤ) (answer : Bool) (ks : List PcpuStep)
      → EndsLimitedAdd own j amount answer ks
      → Does i ks (nat_eq j.number i) false (pos 0) (pos 0)
      (if nat_eq j.number i then (if answer then amount else pos 0) else pos 0)
  does-settles own j amount answer ks (yes_ends u) = does-move j own u (u +ℤ amount) amount refl
  does-settles own j amount answer ks no_ends =
      subst (λ a. Does i (Unlock j ∷ []) (nat_eq j.number i) false (pos 0) (pos 0) a)
      (sym (if-either (nat_eq j.number i) (pos 0))) (does-unlock j (pos 0))

  pub does-sync : (cpu : CpuId) (j : PcpuId) (ks : List PcpuStep) → IsSync cpu j ks
      → Does i ks false false (pos 0) (pos 0) (pos 0)
  does-sync cpu j ks (moved v locking locks) =
      does-then locking (TakeL j cpu v ∷ AddC j v ∷ Unlock j ∷ []) false (nat_eq j.number i) false (pos 0) (pos 0)
      (pos 0) (pos 0) (does-lock j locking (pos 0) locks)
      (subst (λ a. Does i (TakeL j cpu v ∷ AddC j v ∷ Unlock j ∷ []) (nat_eq j.number i) false (pos 0) (pos 0) a)
      (if-either (nat_eq j.number i) (pos 0)) (does-move j cpu v v (pos 0) (omega (arith, ints))))

  pub does-fold : (dead : CpuId) (n : ℕ) (ks : List PcpuStep) → IsFoldDead dead n ks
      → Does i ks false false (pos 0) (pos 0) (pos 0)
  does-fold dead n ks no_counter = does-nothing false (pos 0)
  does-fold dead n ks (one_counter m front back before sync) =
      does-then front back false false false (pos 0) (pos 0) (pos 0) (pos 0) (does-fold dead m front before)
      (does-sync dead (record { number = m }) back sync)

  pub does-sum : (cpus : List CpuId) (j : PcpuId) (ks : List PcpuStep) (answer : ℤ) → IsSum cpus j ks answer
      → Does i ks false false (pos 0) (pos 0) (pos 0)
  does-sum cpus j ks answer (summed v sum locking loads locks each) =
      does-then locking (LoadC j v ∷ (loads ++ Unlock j ∷ [])) false (nat_eq j.number i) false (pos 0) (pos 0) (pos 0)
      (pos 0) (does-lock j locking (pos 0) locks)
      (does-load_c j v (loads ++ Unlock j ∷ []) (nat_eq j.number i) false (pos 0) (pos 0) (pos 0)
      (does-then loads (Unlock j ∷ []) (nat_eq j.number i) (nat_eq j.number i) false (pos 0) (pos 0) (pos 0) (pos 0)
      (does-loads j cpus loads sum (nat_eq j.number i) (pos 0) each) (does-unlock j (pos 0))))

  pub does-compare : (unknown : ℕ) (cpus : List CpuId) (j : PcpuId) (rhs : ℤ) (ks : List PcpuStep) (answer : Compare)
      → IsCompare unknown cpus j rhs ks answer → Does i ks false false (pos 0) (pos 0) (pos 0)
  does-compare unknown cpus j rhs ks answer (far v past) =
      does-load_c j v [] false false (pos 0) (pos 0) (pos 0) (does-nothing false (pos 0))
  does-compare unknown cpus j rhs ks answer (near v sum steps within is_sum) =
      does-load_c j v steps false false (pos 0) (pos 0) (pos 0) (does-sum cpus j steps sum is_sum)

  pub does-read : (j : PcpuId) (ks : List PcpuStep) (answer : ℤ) → IsRead j ks answer
      → Does i ks false false (pos 0) (pos 0) (pos 0)
  does-read j ks answer is =
      subst (λ (ls : List PcpuStep). Does i ls false false (pos 0) (pos 0) (pos 0)) (sym is)
      (does-load_c j answer [] false false (pos 0) (pos 0) (pos 0) (does-nothing false (pos 0)))

  pub does-add : (batch : ℕ) (cpu : CpuId) (j : PcpuId) (amount : ℤ) (ks : List PcpuStep) → IsAdd batch cpu j amount ks
      → Does i ks false false (pos 0) (pos 0) (if nat_eq j.number i then amount else pos 0)
  does-add batch cpu j amount ks (below l small) =
      does-load_l j cpu l (AddL j amount ∷ []) false false (pos 0) (pos 0) (if nat_eq j.number i then amount else pos 0)
      (does-add_l j amount false (pos 0))
  does-add batch cpu j amount ks (reached l v locking past locks) =
      does-load_l j cpu l (locking ++ TakeL j cpu v ∷ AddC j (v +ℤ amount) ∷ Unlock j ∷ []) false false (pos 0) (pos 0)
      (if nat_eq j.number i then amount else pos 0)
      (does-then locking (TakeL j cpu v ∷ AddC j (v +ℤ amount) ∷ Unlock j ∷ []) false (nat_eq j.number i) false (pos 0)
      (pos 0) (pos 0) (if nat_eq j.number i then amount else pos 0) (does-lock j locking (pos 0) locks)
      (does-move j cpu v (v +ℤ amount) amount refl))

  pub does-limited_add : (batch unknown : ℕ) (cpus : List CpuId) (cpu : CpuId) (j : PcpuId) (limit amount : ℤ)
      (ks : List PcpuStep) (answer : Bool) → IsLimitedAdd batch unknown cpus cpu j limit amount ks answer
      → Does i ks false false (pos 0) (pos 0)
      (if nat_eq j.number i then (if answer then amount else pos 0) else pos 0)
  does-limited_add batch unknown cpus cpu j limit amount ks answer (nothing none) =
      subst (λ a. Does i [] false false (pos 0) (pos 0) a)
      (sym (ap (λ (a : ℤ). if nat_eq j.number i then a else pos 0) none ∙ if-either (nat_eq j.number i) (pos 0)))
      (does-nothing false (pos 0))
  does-limited_add batch unknown cpus cpu j limit amount ks answer (unlocked l v some fits enough) =
      let a : ℤ = if nat_eq j.number i then amount else pos 0 in
      does-load_l j cpu l (LoadC j v ∷ AddL j amount ∷ []) false false (pos 0) (pos 0) a
      (does-load_c j v (AddL j amount ∷ []) false false (pos 0) (pos 0) a (does-add_l j amount false (pos 0)))
  does-limited_add batch unknown cpus cpu j limit amount ks answer
      (locked v verdict probing locking loads ending some probes locks judges settles) =
      let t : Bool = nat_eq j.number i in
      let a : ℤ = if t then (if verdict then amount else pos 0) else pos 0 in
      subst (λ (ls : List PcpuStep). Does i ls false false (pos 0) (pos 0) a)
      (sym (append_assoc probing locking (LoadC j v ∷ (loads ++ ending))))
      (does-then probing (locking ++ LoadC j v ∷ (loads ++ ending)) false false false (pos 0) (pos 0) (pos 0) a
      (does-probes batch unknown limit cpu j amount probing false (pos 0) probes)
      (does-then locking (LoadC j v ∷ (loads ++ ending)) false t false (pos 0) (pos 0) (pos 0) a
      (does-lock j locking (pos 0) locks)
      (does-load_c j v (loads ++ ending) t false (pos 0) (pos 0) a
      (does-then loads ending t t false (pos 0) (pos 0) (pos 0) a
      (does-judges unknown limit cpus j amount (v +ℤ amount) loads verdict t (pos 0) judges)
      (does-settles cpu j amount verdict ending settles)))))

-- what steps do for every counter, as the amount that they add
AddsAmount-holds : (j : PcpuId) (amount : ℤ) (ks : List PcpuStep)
    → ((i : ℕ) → Does i ks false false (pos 0) (pos 0) (if nat_eq j.number i then amount else pos 0))
    → AddsAmount j amount ks
AddsAmount-holds j amount ks does = record {
  no_lock = λ i. (does i).held;
  nothing_carried = λ i. (does i).carrying;
  amounts = λ i. (does i).added as_is refl;
  sizes = λ i. (does i).added size_of refl ∙ if-map size_of (nat_eq j.number i) amount (pos 0);
}

-- and where they add nothing
adds-nothing : (j : PcpuId) (ks : List PcpuStep) → ((i : ℕ) → Does i ks false false (pos 0) (pos 0) (pos 0))
    → AddsAmount j (pos 0) ks
adds-nothing j ks does =
    AddsAmount-holds j (pos 0) ks
    (λ i. subst (λ a. Does i ks false false (pos 0) (pos 0) a) (sym (if-either (nat_eq j.number i) (pos 0))) (does i))

pub read-adds : (i j : PcpuId) (ks : List PcpuStep) (answer : ℤ) → IsRead j ks answer → AddsAmount i (pos 0) ks
read-adds i j ks answer is = adds-nothing i ks (λ n. does-read n j ks answer is)

pub add-adds : (batch : ℕ) (cpu : CpuId) (j : PcpuId) (amount : ℤ) (ks : List PcpuStep) → IsAdd batch cpu j amount ks
    → AddsAmount j amount ks
add-adds batch cpu j amount ks is = AddsAmount-holds j amount ks (λ n. does-add n batch cpu j amount ks is)

pub sync-adds : (i : PcpuId) (cpu : CpuId) (j : PcpuId) (ks : List PcpuStep) → IsSync cpu j ks
    → AddsAmount i (pos 0) ks
sync-adds i cpu j ks is = adds-nothing i ks (λ n. does-sync n cpu j ks is)

pub fold_dead-adds : (i : PcpuId) (dead : CpuId) (n : ℕ) (ks : List PcpuStep) → IsFoldDead dead n ks
    → AddsAmount i (pos 0) ks
fold_dead-adds i dead n ks is = adds-nothing i ks (λ m. does-fold m dead n ks is)

pub sum-adds : (i : PcpuId) (cpus : List CpuId) (j : PcpuId) (ks : List PcpuStep) (answer : ℤ) → IsSum cpus j ks answer
    → AddsAmount i (pos 0) ks
sum-adds i cpus j ks answer is = adds-nothing i ks (λ n. does-sum n cpus j ks answer is)

pub compare-adds : (i : PcpuId) (unknown : ℕ) (cpus : List CpuId) (j : PcpuId) (rhs : ℤ) (ks : List PcpuStep)
    (answer : Compare) → IsCompare unknown cpus j rhs ks answer → AddsAmount i (pos 0) ks
compare-adds i unknown cpus j rhs ks answer is =
    adds-nothing i ks (λ n. does-compare n unknown cpus j rhs ks answer is)

pub limited_add-adds : (batch unknown : ℕ) (cpus : List CpuId) (cpu : CpuId) (j : PcpuId) (limit amount : ℤ)
    (ks : List PcpuStep) (answer : Bool) → IsLimitedAdd batch unknown cpus cpu j limit amount ks answer
    → AddsAmount j (if answer then amount else pos 0) ks
limited_add-adds batch unknown cpus cpu j limit amount ks answer is =
    AddsAmount-holds j (if answer then amount else pos 0) ks
    (λ n. does-limited_add n batch unknown cpus cpu j limit amount ks answer is)

-- the caller of such steps is idle after them if it was before
pub LeavesIdle-holds : (facts : PcpuFacts) (earlier later : History) (p : ℕ) (j : PcpuId) (amount : ℤ)
    (ks : List PcpuStep)
    → MadeSteps facts earlier later p ks → AddsAmount j amount ks → IsIdle (own earlier p)
    → LeavesIdle earlier later p j amount
LeavesIdle-holds facts earlier later p j amount ks made adds idle =
    let goes = goes_by_own_steps p ks (own earlier p) in
    record {
      idle =
          record {
            no_lock = λ i. ap (holds_lock i) made.made ∙ goes.held i ∙ ap (holds_through i ks) (idle.no_lock i)
                ∙ adds.no_lock i;
            nothing_carried = λ i. ap (carried i) made.made ∙ goes.carrying i
                ∙ ap (carried_through i ks) (idle.nothing_carried i) ∙ adds.nothing_carried i;
          };
      amounts = λ i. ap (own_added as_is i) made.made ∙ goes.added as_is i
          ∙ ap (λ a. own_added as_is i (own earlier p) +ℤ a)
          (ap (added_through as_is i ks) (idle.nothing_carried i) ∙ adds.amounts i);
      sizes = λ i. ap (own_added size_of i) made.made ∙ goes.added size_of i
          ∙ ap (λ a. own_added size_of i (own earlier p) +ℤ a)
          (ap (added_through size_of i ks) (idle.nothing_carried i) ∙ adds.sizes i);
    }
