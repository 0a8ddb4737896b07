-- For other crates too: the steps of each call may be made, whatever other callers do between them.
use Rattle.std.proofs.Common.{◌≡◌, ℕ, suc, ◌+◌, ◌≤◌, ◌<◌, Bool, true, false, List, [], ◌∷◌, ◌++◌, length, Option, Some}
use Rattle.std.proofs.Common.{None, ℤ, pos, ◌+ℤ◌, ◌-ℤ◌, unsigned_abs, refl, sym, ap, subst, ◌∙◌, if◌then◌else◌, nat_eq}
use Rattle.std.proofs.Common.{eq-eqb, arith}
use Rattle.std.proofs.lemmas.Int.{ints}
use Rattle.vms_history.specs.Common.{CpuId, PcpuId, CpuState, is_present, present_from, IsCpu, after, owner_in}
use Rattle.vms_history.proofs.Common.{owner_may_own, base_can_begin}
use Rattle.vms_pcpu_core.specs.declared.answers.Compare.{Compare}
use Rattle.vms_pcpu_core.specs.declared.steps.PcpuFacts.{PcpuFacts}
use Rattle.vms_pcpu_core.specs.declared.steps.PcpuStep.{PcpuStep}
use Rattle.vms_pcpu_core.specs.declared.steps.PcpuStep.TheVariants.{AddL, LoadL, LoadC, Missed, TakeL, AddC, Unlock}
use Rattle.vms_pcpu_core.specs.Common.{Locks, IsAdd, IsSync, IsFoldDead, LoadsEach, IsSum, IsCompare, Probes, Judges}
use Rattle.vms_pcpu_core.specs.Common.{EndsLimitedAdd, IsLimitedAdd, present_cpus, unknown, won, missed, below, reached}
use Rattle.vms_pcpu_core.specs.Common.{moved, no_counter, one_counter, no_cpu, one_cpu, summed, far, near, large}
use Rattle.vms_pcpu_core.specs.Common.{narrow, beyond, inside, close, yes_ends, no_ends, nothing, unlocked, locked}
use Rattle.vms_pcpu_core.specs.Common.{MayTake, MayAdd, percpu, History, IsLegal, event, MakesRead, MakesSum}
use Rattle.vms_pcpu_core.specs.Common.{MakesCompare, MakesAdd, MakesLimitedAdd, MakesSync, MakesFoldDead, holds_lock}
use Rattle.vms_pcpu_core.specs.Common.{carried, holds_through, carried_through, size_of, added_through, own_added}
use Rattle.vms_pcpu_core.specs.Common.{IsPcpu, batch_at, counters_of, role}
use Rattle.vms_pcpu_core.proofs.StepConditions.{found_own, FitsAmount, AllFit, all-fit-append, fit-may}
use Rattle.vms_pcpu_core.proofs.OwnSteps.{Does, goes_by_own_steps, does-then, does-lock, does-loads, does-judges}
use Rattle.vms_pcpu_core.proofs.OwnSteps.{does-probes, does-load_l, does-load_c, does-nothing, does-fold}
use Rattle.vms_pcpu_core.proofs.Sizes.{spent_most}

-- these CPUs have numbers below this one
abbrev AreBelow : ℕ → List CpuId → Type 0
AreBelow most [] = Unit {0}
AreBelow most (c ∷ cpus) = (c.number < most) × AreBelow most cpus

-- what the own events say of counter j: whether its lock is held, that nothing is carried and nothing was added
record StandsIdle (j : ℕ) (o : History) (b : Bool) : Type 0 where
  pub held : holds_lock j o ≡ b
  pub carrying : carried j o ≡ pos 0
  pub added : own_added size_of j o ≡ pos 0

idle-none : (j : ℕ) → StandsIdle j [] false
idle-none j = record { held = refl; carrying = refl; added = refl }

idle-after : (j p : ℕ) (ks : List PcpuStep) (o : History) (b c : Bool) → StandsIdle j o b
    → Does j ks b c (pos 0) (pos 0) (pos 0) → StandsIdle j (after p ks o) c
idle-after j p ks o b c before does =
    let goes = goes_by_own_steps p ks o in
    let adds : own_added size_of j (after p ks o) ≡ own_added size_of j o +ℤ added_through size_of j ks (carried j o) =
    goes.added size_of j in
    let same : added_through size_of j ks (carried j o) ≡ pos 0 =
    ap (added_through size_of j ks) before.carrying ∙ does.added size_of refl in
    record {
      held = goes.held j ∙ ap (holds_through j ks) before.held ∙ does.held;
      carrying = goes.carrying j ∙ ap (carried_through j ks) before.carrying ∙ does.carrying;
      added = omega (arith, ints, adds, same, before.added);
    }

-- the lock is held once it was won
does-win : (j : PcpuId) (ks : List PcpuStep) → Locks j ks → Does j.number ks false true (pos 0) (pos 0) (pos 0)
does-win j ks locks =
    subst (λ b. Does j.number ks false b (pos 0) (pos 0) (pos 0)) (eq-eqb j.number j.number refl)
    (does-lock j.number j ks (pos 0) locks)

-- a load leaves all
idle-load_c : (i p : ℕ) (j : PcpuId) (v : ℤ) (o : History) (b : Bool) → StandsIdle i o b
    → StandsIdle i (event p (LoadC j v) ∷ o) b
idle-load_c i p j v o b before =
    idle-after i p (LoadC j v ∷ []) o b b before
    (does-load_c i j v [] b b (pos 0) (pos 0) (pos 0) (does-nothing i b (pos 0)))

idle-load_l : (i p : ℕ) (j : PcpuId) (c : CpuId) (v : ℤ) (o : History) (b : Bool) → StandsIdle i o b
    → StandsIdle i (event p (LoadL j c v) ∷ o) b
idle-load_l i p j c v o b before =
    idle-after i p (LoadL j c v ∷ []) o b b before
    (does-load_l i j c v [] b b (pos 0) (pos 0) (pos 0) (does-nothing i b (pos 0)))

module _ (facts : PcpuFacts) (earlier : History) (who : Option CpuId) (p : ℕ) where
  abbrev fit_all : History → List PcpuStep → Type 0
  fit_all o ks = AllFit facts earlier who p o ks

  module _ (j : PcpuId) (j_in : IsPcpu facts j.number) where
    fit-locks : (ks : List PcpuStep) (o : History) → Locks j ks → fit_all o ks
    fit-locks ks o won = (j_in, tt)
    fit-locks ks o (missed rest locks) = (j_in, fit-locks rest (event p (Missed j) ∷ o) locks)

    fit-loads : (cpus : List CpuId) (ks : List PcpuStep) (sum : ℤ) (o : History)
        → AreBelow facts.layout.cpus cpus → LoadsEach j cpus ks sum → fit_all o ks
    fit-loads cpus ks sum o are no_cpu = tt
    fit-loads cpus ks sum o are (one_cpu c d others rest total each) =
        ((j_in, are.0), fit-loads others rest total (event p (LoadL j c d) ∷ o) are.1 each)

    fit-unlock : (o : History) → StandsIdle j.number o true → fit_all o (Unlock j ∷ [])
    fit-unlock o standing = ((j_in, standing.held, standing.carrying), tt)

    FitsAmount-holds : (w : Option CpuId) (o : History) (amount : ℤ) → MayAdd earlier w j.number amount
        → own_added size_of j.number o ≡ pos 0 → FitsAmount earlier w o j.number amount
    FitsAmount-holds (Some c) o amount may none = omega (arith, ints, may, none)
    FitsAmount-holds None o amount may none = may

    -- under the lock a local part moves to the shared part together with an amount
    fit-move : (cpu : CpuId) (v w amount : ℤ) (o : History) → StandsIdle j.number o true → IsCpu facts.layout cpu.number
        → MayTake facts who cpu → MayAdd earlier who j.number amount → w ≡ v +ℤ amount
        → fit_all o (TakeL j cpu v ∷ AddC j w ∷ Unlock j ∷ [])
    fit-move cpu v w amount o standing c_in whose may sum =
        let here : nat_eq j.number j.number ≡ true = eq-eqb j.number j.number refl in
        let taken : History = event p (TakeL j cpu v) ∷ o in
        let hand : carried j.number taken ≡ v = rw here (omega (arith, ints, standing.carrying)) in
        let amount_is : amount ≡ w -ℤ carried j.number taken = omega (arith, ints, sum, hand) in
        let none : own_added size_of j.number taken ≡ pos 0 = omega (arith, ints, standing.added) in (
          (j_in, c_in, standing.held, whose),
          (
            (
              j_in,
              standing.held,
              subst (λ (a : ℤ). FitsAmount earlier who taken j.number a) amount_is
                  (FitsAmount-holds who taken amount may none),
            ),
            ((j_in, standing.held, rw here refl), tt),
          ),
        )

    fit-probes : (batch hidden : ℕ) (limit : ℤ) (cpu : CpuId) (amount : ℤ) (ks : List PcpuStep) (o : History)
        → IsCpu facts.layout cpu.number → Probes batch hidden limit cpu j amount ks → fit_all o ks
    fit-probes batch hidden limit cpu amount ks o c_in (large l above) = ((j_in, c_in), tt)
    fit-probes batch hidden limit cpu amount ks o c_in (narrow l v fits small) = ((j_in, c_in), (j_in, tt))

    fit-judges : (hidden : ℕ) (limit : ℤ) (cpus : List CpuId) (amount value : ℤ) (ks : List PcpuStep) (answer : Bool)
        (o : History) → AreBelow facts.layout.cpus cpus
        → Judges hidden limit cpus j amount value ks answer → fit_all o ks
    fit-judges hidden limit cpus amount value ks answer o are (beyond out) = tt
    fit-judges hidden limit cpus amount value ks answer o are (inside fits) = tt
    fit-judges hidden limit cpus amount value ks answer o are (close loads sum out fits each) =
        fit-loads cpus loads sum o are each

    fit-settles : (cpu : CpuId) (amount : ℤ) (answer : Bool) (ks : List PcpuStep) (o : History)
        → StandsIdle j.number o true → IsCpu facts.layout cpu.number → MayTake facts who cpu
        → MayAdd earlier who j.number amount → EndsLimitedAdd cpu j amount answer ks → fit_all o ks
    fit-settles cpu amount answer ks o standing c_in whose may (yes_ends u) =
        fit-move cpu u (u +ℤ amount) amount o standing c_in whose may refl
    fit-settles cpu amount answer ks o standing c_in whose may no_ends = fit-unlock o standing

    standing-won : (ks : List PcpuStep) (o : History) → StandsIdle j.number o false → Locks j ks
        → StandsIdle j.number (after p ks o) true
    standing-won ks o standing locks = idle-after j.number p ks o false true standing (does-win j ks locks)

    fit-sync : (cpu : CpuId) (ks : List PcpuStep) (o : History) → StandsIdle j.number o false
        → IsCpu facts.layout cpu.number → MayTake facts who cpu → MayAdd earlier who j.number (pos 0)
        → IsSync cpu j ks → fit_all o ks
    fit-sync cpu ks o standing c_in whose may (moved v locking locks) =
        all-fit-append facts earlier who p locking (TakeL j cpu v ∷ AddC j v ∷ Unlock j ∷ []) o
        (fit-locks locking o locks)
        (fit-move cpu v v (pos 0) (after p locking o) (standing-won locking o standing locks) c_in whose may
        (omega (arith, ints)))

    fit-sum : (cpus : List CpuId) (ks : List PcpuStep) (answer : ℤ) (o : History) → StandsIdle j.number o false
        → AreBelow facts.layout.cpus cpus → IsSum cpus j ks answer → fit_all o ks
    fit-sum cpus ks answer o standing are (summed v sum locking loads locks each) =
        let loaded : History = event p (LoadC j v) ∷ after p locking o in
        let held : StandsIdle j.number loaded true =
        idle-load_c j.number p j v (after p locking o) true (standing-won locking o standing locks) in
        all-fit-append facts earlier who p locking (LoadC j v ∷ (loads ++ Unlock j ∷ [])) o
        (fit-locks locking o locks) (
          j_in,
          all-fit-append facts earlier who p loads (Unlock j ∷ []) loaded (fit-loads cpus loads sum loaded are each)
              (fit-unlock (after p loads loaded)
              (idle-after j.number p loads loaded true true held
              (does-loads j.number j cpus loads sum true (pos 0) each))),
        )

    fit-compare : (hidden : ℕ) (cpus : List CpuId) (rhs : ℤ) (ks : List PcpuStep) (answer : Compare) (o : History)
        → StandsIdle j.number o false → AreBelow facts.layout.cpus cpus
        → IsCompare hidden cpus j rhs ks answer → fit_all o ks
    fit-compare hidden cpus rhs ks answer o standing are (far v past) = (j_in, tt)
    fit-compare hidden cpus rhs ks answer o standing are (near v sum steps within is_sum) = (
      j_in,
      fit-sum cpus steps sum (event p (LoadC j v) ∷ o) (idle-load_c j.number p j v o false standing) are is_sum,
    )

    -- for the CPU that the pass owns
    module _ (cpu : CpuId) (owner : who ≡ Some cpu) (c_in : IsCpu facts.layout cpu.number) (amount : ℤ)
        (may : MayAdd earlier (Some cpu) j.number amount) where
      whose : MayTake facts who cpu
      whose = let mine : MayTake facts (Some cpu) cpu = refl in subst (λ w. MayTake facts w cpu) (sym owner) mine

      may_who : MayAdd earlier who j.number amount
      may_who = subst (λ w. MayAdd earlier w j.number amount) (sym owner) may

      -- the local part that was found takes the amount
      fit-local : (l : ℤ) (o : History) → StandsIdle j.number o false → found_own cpu j o ≡ Some l
          → unsigned_abs (l +ℤ amount) ≤ batch_at facts.base j.number → fit_all o (AddL j amount ∷ [])
      fit-local l o standing found within = (
        record {
          counter = j_in;
          cpu = cpu;
          owner = owner;
          number = l;
          as_found = found;
          within = within;
          affordable = omega (arith, ints, may, standing.added);
        },
        tt,
      )

      found-here : (l : ℤ) (o : History) → found_own cpu j (event p (LoadL j cpu l) ∷ o) ≡ Some l
      found-here l o =
          let cpus : nat_eq cpu.number cpu.number ≡ true = eq-eqb cpu.number cpu.number refl in
          let counters : nat_eq j.number j.number ≡ true = eq-eqb j.number j.number refl in
          rw (cpus, counters) refl

      fit-add : (ks : List PcpuStep) → IsAdd (batch_at facts.base j.number) cpu j amount ks → fit_all [] ks
      fit-add ks (below l small) =
          let o : History = event p (LoadL j cpu l) ∷ [] in (
            (j_in, c_in),
            fit-local l o (idle-load_l j.number p j cpu l [] false (idle-none j.number)) (found-here l [])
                (omega arith),
          )
      fit-add ks (reached l v locking past locks) =
          let o : History = event p (LoadL j cpu l) ∷ [] in
          let standing = idle-load_l j.number p j cpu l [] false (idle-none j.number) in (
            (j_in, c_in),
            all-fit-append facts earlier who p locking (TakeL j cpu v ∷ AddC j (v +ℤ amount) ∷ Unlock j ∷ []) o
                (fit-locks locking o locks)
                (fit-move cpu v (v +ℤ amount) amount (after p locking o) (standing-won locking o standing locks) c_in
                whose may_who refl),
          )

      fit-limited_add : (hidden : ℕ) (cpus : List CpuId) (limit : ℤ) (ks : List PcpuStep) (answer : Bool)
          → AreBelow facts.layout.cpus cpus
          → IsLimitedAdd (batch_at facts.base j.number) hidden cpus cpu j limit amount ks answer → fit_all [] ks
      fit-limited_add hidden cpus limit ks answer are (nothing none) = tt
      fit-limited_add hidden cpus limit ks answer are (unlocked l v some fits enough) =
          let first : History = event p (LoadL j cpu l) ∷ [] in
          let standing =
          idle-load_c j.number p j v first false
          (idle-load_l j.number p j cpu l [] false (idle-none j.number)) in (
            (j_in, c_in),
            (j_in, fit-local l (event p (LoadC j v) ∷ first) standing (found-here l []) fits),
          )
      fit-limited_add hidden cpus limit ks answer are
          (locked v verdict probing locking loads ending some probes locks judges settles) =
          let front : List PcpuStep = probing ++ locking in
          let before : StandsIdle j.number (after p front []) true =
          idle-after j.number p front [] false true (idle-none j.number)
          (does-then j.number probing locking false false true (pos 0) (pos 0) (pos 0) (pos 0)
          (does-probes j.number (batch_at facts.base j.number) hidden limit cpu j amount probing false (pos 0) probes)
          (does-win j locking locks)) in
          let loaded : History = event p (LoadC j v) ∷ after p front [] in
          let held = idle-load_c j.number p j v (after p front []) true before in
          all-fit-append facts earlier who p front (LoadC j v ∷ (loads ++ ending)) []
          (all-fit-append facts earlier who p probing locking []
          (fit-probes (batch_at facts.base j.number) hidden limit cpu amount probing [] c_in probes)
          (fit-locks locking (after p probing []) locks)) (
            j_in,
            all-fit-append facts earlier who p loads ending loaded
                (fit-judges hidden limit cpus amount (v +ℤ amount) loads verdict loaded are judges)
                (fit-settles cpu amount verdict ending (after p loads loaded)
                (idle-after j.number p loads loaded true true held
                (does-judges j.number hidden limit cpus j amount (v +ℤ amount) loads verdict true (pos 0) judges))
                c_in whose may_who settles),
          )

  -- all local parts of a dead CPU
  fit-fold : (dead : CpuId) (n : ℕ) (ks : List PcpuStep) → n ≤ counters_of facts.base → IsCpu facts.layout dead.number
      → MayTake facts who dead → ((j : ℕ) → MayAdd earlier who j (pos 0)) → IsFoldDead dead n ks → fit_all [] ks
  fit-fold dead n ks within c_in whose may no_counter = tt
  fit-fold dead n ks within c_in whose may (one_counter m front back before sync) =
      let j : PcpuId = record { number = m } in
      all-fit-append facts earlier who p front back []
      (fit-fold dead m front (omega arith) c_in whose may before)
      (fit-sync j (omega arith) dead back (after p front [])
      (idle-after m p front [] false false (idle-none m) (does-fold m dead m front before)) c_in whose (may m)
      sync)

-- the CPUs that are present are CPUs of the layout
present-in : (most n : ℕ) (xs : List CpuState) → n + length xs ≤ most
    → AreBelow most (present_from n xs)
present-in most n [] fits = tt
present-in most n (x ∷ xs) fits = by (is_present x) (present-in most (suc n) xs (omega arith))
  where
    by : (b : Bool) → AreBelow most (present_from (suc n) xs)
        → AreBelow most
        (if b then record { number = n } ∷ present_from (suc n) xs else present_from (suc n) xs)
    by true rest = (omega arith, rest)
    by false rest = rest

are-present : (facts : PcpuFacts) (h : History) → IsLegal facts h
    → AreBelow facts.layout.cpus (present_cpus facts)
are-present facts h legal =
    let full = (base_can_begin percpu facts h legal).lengths.one_state_each in
    present-in facts.layout.cpus 0 facts.cpus (omega (arith, full))

-- every caller may add nothing
may-add_nothing : (facts : PcpuFacts) (h : History) (who : Option CpuId) (j : ℕ) → IsLegal facts h
    → MayAdd h who j (pos 0)
may-add_nothing facts h (Some c) j legal = let most = spent_most facts h c.number j legal in omega (arith, most)
may-add_nothing facts h None j legal = refl

pub MakesRead-holds : MakesRead
MakesRead-holds facts h p j steps answer calls j_in is =
    fit-may facts h p calls steps
    (subst (λ (ks : List PcpuStep). AllFit facts h (owner_in role h p) p [] ks) (sym is) (j_in, tt))

pub MakesSum-holds : MakesSum
MakesSum-holds facts h p j steps answer calls j_in is =
    fit-may facts h p calls steps
    (fit-sum facts h (owner_in role h p) p j j_in (present_cpus facts) steps answer [] (idle-none j.number)
    (are-present facts h calls.legal) is)

pub MakesCompare-holds : MakesCompare
MakesCompare-holds facts h p j rhs steps answer calls j_in is =
    fit-may facts h p calls steps
    (fit-compare facts h (owner_in role h p) p j j_in (unknown facts j.number) (present_cpus facts) rhs steps answer []
    (idle-none j.number) (are-present facts h calls.legal) is)

pub MakesAdd-holds : MakesAdd
MakesAdd-holds facts h p cpu j amount steps may is =
    fit-may facts h p may.calls steps
    (fit-add facts h (owner_in role h p) p j may.counter cpu may.owner
    (owner_may_own percpu facts h p cpu may.calls.legal may.owner).0 amount may.affordable steps is)

pub MakesLimitedAdd-holds : MakesLimitedAdd
MakesLimitedAdd-holds facts h p cpu j limit amount steps answer may is =
    fit-may facts h p may.calls steps
    (fit-limited_add facts h (owner_in role h p) p j may.counter cpu may.owner
    (owner_may_own percpu facts h p cpu may.calls.legal may.owner).0 amount may.affordable (unknown facts j.number)
    (present_cpus facts) limit steps answer (are-present facts h may.calls.legal) is)

pub MakesSync-holds : MakesSync
MakesSync-holds facts h p cpu j steps calls j_in c_in whose is =
    fit-may facts h p calls steps
    (fit-sync facts h (owner_in role h p) p j j_in cpu steps [] (idle-none j.number) c_in whose
    (may-add_nothing facts h (owner_in role h p) j.number calls.legal) is)

pub MakesFoldDead-holds : MakesFoldDead
MakesFoldDead-holds facts h p dead n steps calls within c_in whose is =
    fit-may facts h p calls steps
    (fit-fold facts h (owner_in role h p) p dead n steps within c_in whose
    (λ j. may-add_nothing facts h (owner_in role h p) j calls.legal) is)
