-- For other crates too: the shared part stays near the true total where nobody adds while it carries something.
use Rattle.std.proofs.Common.{◌≡◌, ◌≢◌, ℕ, suc, ◌≤◌, ◌⊎◌, inl, inr, ⊎_elim, ◌&&◌, Bool, true, false, [], ◌∷◌, ◌++◌}
use Rattle.std.proofs.Common.{Option, Some, None, ℤ, pos, ◌+ℤ◌, ◌≤ℤ◌, unsigned_abs, refl, sym, ap, subst, ◌∙◌}
use Rattle.std.proofs.Common.{if◌then◌else◌, nat_eq, eq-eqb, eqb-true, take, is_some, arith}
use Rattle.std.proofs.Math.Bool.{and-false}
use Rattle.std.proofs.lemmas.Bool.{eqb-false, ne_eqb}
use Rattle.std.proofs.lemmas.Int.{ints}
use Rattle.std.proofs.lemmas.List.{take_all}
use Rattle.vms_history.specs.Common.{Absent, CpuId, CpuState, Dead, Extends, IsCpu, Online, PcpuId, begun_in, lives_in}
use Rattle.vms_history.specs.Common.{own, owner_in, sum_below}
use Rattle.vms_history.specs.declared.events.Event.{Event}
use Rattle.vms_history.proofs.Common.{base_can_begin, live_is_given, own-fact, owner_in-append, owner_is_caller}
use Rattle.vms_history.proofs.Common.{owner_may_own, prefix_is_legal, same_cpu, sum_below-changed, sum_below-size}
use Rattle.vms_history.proofs.Common.{sum_below-sum, sum_below-zeros, zero_or_not}
use Rattle.vms_pcpu_core.specs.declared.steps.PcpuFacts.{PcpuFacts}
use Rattle.vms_pcpu_core.specs.declared.steps.PcpuStep.{PcpuStep}
use Rattle.vms_pcpu_core.specs.declared.steps.PcpuStep.TheVariants.{AddL, AddC, TakeL}
use Rattle.vms_pcpu_core.specs.Common.{HasOneHolder, History, IsLegal, IsPcpu, MayTake, Meets, batch_at, carried}
use Rattle.vms_pcpu_core.specs.Common.{carried_after, carried_by_all, cpu_at, holder, holds_lock, local_after, local_at}
use Rattle.vms_pcpu_core.specs.Common.{numbers_after, percpu, role, state_after, unknown}
use Rattle.vms_pcpu_core.proofs.Common.{HasShape-state_after, holder-one, local_at-effect, locals-bounded, owned}
use Rattle.vms_pcpu_core.proofs.Drift.{present-bound}
use Rattle.vms_pcpu_core.proofs.Totals.{totals-kept}
use Rattle.vms_percpu_near.specs.Adds.{AddCarriesNothing, AddsCarryNothing}
use Rattle.vms_percpu_near.specs.Counts.{CountsAreNear}

apart-dead : {x : CpuState} → x ≡ Online → x ≡ Dead → ⊥
apart-dead online dead = cc

module _ (facts : PcpuFacts) (j : ℕ) (j_in : IsPcpu facts j) where
  abbrev local_of : History → ℕ → ℤ
  local_of h c = local_at (numbers_after facts h) c j

  -- what pass p carries, as what it took of single CPUs: with what a CPU has left of it that is at most a batch
  record Parts (h : History) (p : ℕ) : Type 0 where
    pub part : ℕ → ℤ
    pub total : sum_below part facts.layout.cpus ≡ carried j (own h p)
    pub within : (c : ℕ) → IsCpu facts.layout c → unsigned_abs (local_of h c +ℤ part c) ≤ batch_at facts.base j
    pub absent : (c : ℕ) → IsCpu facts.layout c → cpu_at facts c ≡ Absent → local_of h c +ℤ part c ≡ pos 0
    pub whose : (c : ℕ) → (part c ≡ pos 0) ⊎ MayTake facts (owner_in role h p) (record { number = c })

  no-parts : (h : History) (p : ℕ) → IsLegal facts h → carried j (own h p) ≡ pos 0 → Parts h p
  no-parts h p legal none =
      let bounds = locals-bounded facts h legal in
      record {
        part = λ c. pos 0;
        total = sum_below-zeros (λ c. pos 0) facts.layout.cpus (λ c below. refl) ∙ sym none;
        within = λ c c_in. let is = bounds.within c j c_in j_in in omega (arith, ints);
        absent = λ c c_in absent. let is = bounds.absent c j c_in absent j_in in omega (arith, ints);
        whose = λ c. inl refl;
      }

  -- one event more, after which p carries something
  module _ (e : Event PcpuStep) (h : History) (legal : IsLegal facts (e ∷ h)) (p : ℕ) (before : Parts h p)
      (some : carried j (own (e ∷ h) p) ≢ pos 0) where
    abbrev who : Option CpuId
    who = owner_in role h e.caller

    local-next : (c : ℕ) → local_of (e ∷ h) c ≡ local_after who c j e.step (local_of h c)
    local-next c =
        local_at-effect facts h (state_after facts h) e.caller (HasShape-state_after facts h legal.0) who e.step c j
        (λ d is. owned facts h e.caller d legal.0 is) legal.2 j_in

    carried-next : carried j (own (e ∷ h) p) ≡
        (if nat_eq e.caller p then carried_after j e.step (carried j (own h p)) else carried j (own h p))
    carried-next = own-fact (carried j) e h p

    owner-same : lives_in role h p ≡ true → owner_in role (e ∷ h) p ≡ owner_in role h p
    owner-same lives =
        owner_in-append percpu facts (e ∷ []) h p legal (live_is_given percpu facts h p legal.0 lives).1

    -- the parts stay where each local part does of which p has taken something
    kept : lives_in role h p ≡ true → carried j (own (e ∷ h) p) ≡ carried j (own h p)
        → ((c : ℕ) → (local_of (e ∷ h) c ≡ local_of h c) ⊎ (before.part c ≡ pos 0)) → Parts (e ∷ h) p
    kept lives same stays =
        let bounds = locals-bounded facts (e ∷ h) legal in
        record {
          part = before.part;
          total = before.total ∙ sym same;
          within = λ c c_in.
              let was = before.within c c_in in
              let is = bounds.within c j c_in j_in in
              ⊎_elim (λ (still : local_of (e ∷ h) c ≡ local_of h c). rw still was)
              (λ (none : before.part c ≡ pos 0). omega (arith, ints, is, none)) (stays c);
          absent = λ c c_in absent.
              let was = before.absent c c_in absent in
              let is = bounds.absent c j c_in absent j_in in
              ⊎_elim (λ (still : local_of (e ∷ h) c ≡ local_of h c). rw still was)
              (λ (none : before.part c ≡ pos 0). omega (arith, ints, is, none)) (stays c);
          whose = λ c. subst (λ (o : Option CpuId). (before.part c ≡ pos 0) ⊎ MayTake facts o (record { number = c }))
              (sym (owner-same lives)) (before.whose c);
        }

    -- where p carried as much before it held the lock, and so lived
    module _ (same : carried j (own (e ∷ h) p) ≡ carried j (own h p)) where
      holding : holds_lock j (own h p) ≡ true
      holding = by (holds_lock j (own h p)) refl
        where
          by : (b : Bool) → holds_lock j (own h p) ≡ b → b ≡ true
          by true is = refl
          by false is = absurd (some (same ∙ (holder-one facts h legal.0 j j_in).others p is))

      lives : lives_in role h p ≡ true
      lives = (holder-one facts h legal.0 j j_in).lives p holding

      -- who adds to a local part owns its CPU, and isn't p: so p took nothing of it
      none-taken : (d : CpuId) (i : PcpuId) (a : ℤ) → owner_in role h e.caller ≡ Some d → nat_eq i.number j ≡ true
          → AddCarriesNothing (own h e.caller) (AddL i a) → before.part d.number ≡ pos 0
      none-taken d i a owns here free =
          ⊎_elim (λ (none : before.part d.number ≡ pos 0). none)
          (λ (may : MayTake facts (owner_in role h p) d). by (owner_in role h p) refl may) (before.whose d.number)
        where
          by : (o : Option CpuId) → owner_in role h p ≡ o → MayTake facts o d → before.part d.number ≡ pos 0
          by None is dead =
              absurd (apart-dead (owner_may_own percpu facts h e.caller d legal.0 owns).1 dead)
          by (Some own_cpu) is mine =
              let caller : e.caller ≡ p =
              owner_is_caller percpu facts e h p d legal lives (is ∙ ap Some mine) owns in
              let none : carried j (own h p) ≡ pos 0 =
              subst (λ (q : ℕ). carried j (own h q) ≡ pos 0) caller
              (subst (λ (n : ℕ). carried n (own h e.caller) ≡ pos 0) (eqb-true i.number j here) free) in
              absurd (some (same ∙ none))

      -- a step by which p carries as much as before leaves the parts
      stays : (step : PcpuStep) → e.step ≡ step → AddCarriesNothing (own h e.caller) step
          → ((i : PcpuId) (d : CpuId) (v : ℤ) → step ≡ TakeL i d v → nat_eq i.number j ≡ false)
          → (c : ℕ) → (local_after who c j step (local_of h c) ≡ local_of h c) ⊎ (before.part c ≡ pos 0)
      stays (AddL i a) is free others c = by (owner_in role h e.caller) refl (nat_eq i.number j) refl
        where
          by : (o : Option CpuId) → owner_in role h e.caller ≡ o → (b : Bool) → nat_eq i.number j ≡ b
              → (local_after o c j (AddL i a) (local_of h c) ≡ local_of h c) ⊎ (before.part c ≡ pos 0)
          by None owns b here = inl refl
          by (Some d) owns false here = inl (rw (here, and-false (nat_eq d.number c)) refl)
          by (Some d) owns true here = at (nat_eq d.number c) refl
            where
              at : (t : Bool) → nat_eq d.number c ≡ t
                  → (local_after (Some d) c j (AddL i a) (local_of h c) ≡ local_of h c) ⊎ (before.part c ≡ pos 0)
              at true same_cpu = inr (subst (λ (k : ℕ). before.part k ≡ pos 0) (eqb-true d.number c same_cpu)
                  (none-taken d i a owns here free))
              at false other = inl (rw other refl)
      stays (TakeL i d v) is free others c =
          let other = others i d v refl in
          inl (rw (other, and-false (nat_eq d.number c)) refl)
      stays _ is free others c = inl refl

      same-parts : AddCarriesNothing (own h e.caller) e.step
          → ((i : PcpuId) (d : CpuId) (v : ℤ) → e.step ≡ TakeL i d v → nat_eq i.number j ≡ false) → Parts (e ∷ h) p
      same-parts free others = kept lives same
          (λ c. subst (λ (x : ℤ). (x ≡ local_of h c) ⊎ (before.part c ≡ pos 0)) (sym (local-next c))
          (stays e.step refl free others c))

    -- p takes a local part: of the CPU it then has that part too
    takes-part : (i : PcpuId) (d : CpuId) (v : ℤ) → e.step ≡ TakeL i d v → e.caller ≡ p → nat_eq i.number j ≡ true
        → Parts (e ∷ h) p
    takes-part i d v is mine here =
        let meets : Meets facts h (state_after facts h) e.caller (TakeL i d v) =
        subst (λ (k : PcpuStep). Meets facts h (state_after facts h) e.caller k) is legal.2 in
        let same_j : i.number ≡ j = eqb-true i.number j here in
        let holds : holds_lock j (own h p) ≡ true =
        subst (λ (q : ℕ). holds_lock j (own h q) ≡ true) mine
        (subst (λ (n : ℕ). holds_lock n (own h e.caller) ≡ true) same_j meets.holding) in
        let lived : lives_in role h p ≡ true = (holder-one facts h legal.0 j j_in).lives p holds in
        let whose : MayTake facts (owner_in role h p) d =
        subst (λ (q : ℕ). MayTake facts (owner_in role h q) d) mine meets.whose in
        let value : local_of h d.number ≡ v = subst (λ (n : ℕ). local_at (numbers_after facts h) d.number n ≡ v) same_j
        meets.value in
        let next : ℕ → ℤ = λ c. if nat_eq d.number c then before.part c +ℤ v else before.part c in
        let at_d : next d.number ≡ before.part d.number +ℤ v =
        ap (λ (b : Bool). if b then before.part d.number +ℤ v else before.part d.number) (eq-eqb d.number d.number refl)
        in
        let carries : carried j (own (e ∷ h) p) ≡ carried j (own h p) +ℤ v =
        carried-next
        ∙ ap (λ (b : Bool). if b then carried_after j e.step (carried j (own h p)) else carried j (own h p))
        (eq-eqb e.caller p mine) ∙ ap (λ (k : PcpuStep). carried_after j k (carried j (own h p))) is
        ∙ ap (λ (b : Bool). if b then carried j (own h p) +ℤ v else carried j (own h p)) here in
        let sum =
        sum_below-changed before.part next d.number facts.layout.cpus meets.cpu
        (λ c below other. ap (λ (b : Bool). if b then before.part c +ℤ v else before.part c)
        (ne_eqb d.number c (λ (eq : d.number ≡ c). other (sym eq)))) in
        let taken : (c : ℕ) → local_of (e ∷ h) c
        ≡ (if nat_eq d.number c && nat_eq i.number j then pos 0 else local_of h c)
        = λ c. local-next c ∙ ap (λ (k : PcpuStep). local_after who c j k (local_of h c)) is in
        let both : (c : ℕ) → local_of (e ∷ h) c +ℤ next c ≡ local_of h c +ℤ before.part c =
        λ c. by (nat_eq d.number c) c refl (taken c) value in
        record {
          part = next;
          total = omega (arith, ints, sum, at_d, before.total, carries);
          within = λ c c_in. rw (both c) (before.within c c_in);
          absent = λ c c_in absent. both c ∙ before.absent c c_in absent;
          whose = λ c. subst (λ (o : Option CpuId). (next c ≡ pos 0) ⊎ MayTake facts o (record { number = c }))
              (sym (owner-same lived)) (at (nat_eq d.number c) c refl whose);
        }
      where
        by : (b : Bool) (c : ℕ) → nat_eq d.number c ≡ b
            → local_of (e ∷ h) c ≡ (if nat_eq d.number c && nat_eq i.number j then pos 0 else local_of h c)
            → local_of h d.number ≡ v
            → local_of (e ∷ h) c +ℤ (if nat_eq d.number c then before.part c +ℤ v else before.part c)
            ≡ local_of h c +ℤ before.part c
        by true c same left value =
            let gone : local_of (e ∷ h) c ≡ pos 0 = left ∙ rw (same, here) refl in
            let was : local_of h c ≡ v = subst (λ (k : ℕ). local_of h k ≡ v) (eqb-true d.number c same) value in
            rw same (omega (arith, ints, gone, was))
        by false c other left value =
            let still : local_of (e ∷ h) c ≡ local_of h c = left ∙ rw other refl in
            rw other (omega (arith, ints, still))

        at : (b : Bool) (c : ℕ) → nat_eq d.number c ≡ b → MayTake facts (owner_in role h p) d
            → ((if b then before.part c +ℤ v else before.part c) ≡ pos 0)
            ⊎ MayTake facts (owner_in role h p) (record { number = c })
        at true c same whose = inr (subst (λ (k : CpuId). MayTake facts (owner_in role h p) k)
            (same_cpu d (record { number = c }) (eqb-true d.number c same)) whose)
        at false c other whose = before.whose c

    next-parts : AddCarriesNothing (own h e.caller) e.step → Parts (e ∷ h) p
    next-parts free = by e.step refl
      where
        untouched : (carried_after j e.step (carried j (own h p)) ≡ carried j (own h p))
            → carried j (own (e ∷ h) p) ≡ carried j (own h p)
        untouched same = carried-next ∙ at (nat_eq e.caller p) (carried_after j e.step (carried j (own h p))) same
          where
            at : (b : Bool) (x : ℤ) → x ≡ carried j (own h p)
                → (if b then x else carried j (own h p)) ≡ carried j (own h p)
            at true x is = is
            at false x is = refl

        -- a step on the lock's counter is made by its holder, and so by p where p carried something
        caller-is : (i : ℕ) → holds_lock i (own h e.caller) ≡ true → nat_eq i j ≡ true → nat_eq e.caller p ≡ false → ⊥
        caller-is i holds here other =
            let same : carried j (own (e ∷ h) p) ≡ carried j (own h p) =
            carried-next ∙ ap (λ (b : Bool). if b then carried_after j e.step (carried j (own h p)) else carried j
            (own h p)) other in
            let theirs : holds_lock j (own h e.caller) ≡ true =
            subst (λ (n : ℕ). holds_lock n (own h e.caller) ≡ true) (eqb-true i j here) holds in
            eqb-false e.caller p other ((holder-one facts h legal.0 j j_in).one e.caller p theirs (holding same))

        by : (step : PcpuStep) → e.step ≡ step → Parts (e ∷ h) p
        by (TakeL i d v) is = at (nat_eq i.number j) refl (nat_eq e.caller p) refl
          where
            meets : Meets facts h (state_after facts h) e.caller (TakeL i d v)
            meets = subst (λ (k : PcpuStep). Meets facts h (state_after facts h) e.caller k) is legal.2

            at : (b : Bool) → nat_eq i.number j ≡ b → (t : Bool) → nat_eq e.caller p ≡ t → Parts (e ∷ h) p
            at true here true mine = takes-part i d v is (eqb-true e.caller p mine) here
            at true here false other = absurd (caller-is i.number meets.holding here other)
            at false here t who_is =
                same-parts (untouched (ap (λ (k : PcpuStep). carried_after j k (carried j (own h p))) is
                ∙ ap (λ (b : Bool). if b then carried j (own h p) +ℤ v else carried j (own h p)) here)) free
                (λ n k x taken. let both : TakeL i d v ≡ TakeL n k x = sym is ∙ taken in
                let one : i ≡ n = cc in rw one at here)
        by (AddC i a) is = at (nat_eq i.number j) refl (nat_eq e.caller p) refl
          where
            meets : Meets facts h (state_after facts h) e.caller (AddC i a)
            meets = subst (λ (k : PcpuStep). Meets facts h (state_after facts h) e.caller k) is legal.2

            at : (b : Bool) → nat_eq i.number j ≡ b → (t : Bool) → nat_eq e.caller p ≡ t → Parts (e ∷ h) p
            at true here true mine =
                absurd (some (carried-next
                ∙ ap (λ (b : Bool). if b then carried_after j e.step (carried j (own h p)) else
                carried j (own h p)) mine ∙ ap (λ (k : PcpuStep). carried_after j k (carried j (own h p))) is
                ∙ ap (λ (b : Bool). if b then pos 0 else carried j (own h p)) here))
            at true here false other = absurd (caller-is i.number meets.holding here other)
            at false here t who_is =
                same-parts (untouched (ap (λ (k : PcpuStep). carried_after j k (carried j (own h p))) is
                ∙ ap (λ (b : Bool). if b then pos 0 else carried j (own h p)) here)) free
                (λ n k x taken. let both : AddC i a ≡ TakeL n k x = sym is ∙ taken in absurd cc)
        by step is =
            same-parts (untouched (ap (λ (k : PcpuStep). carried_after j k (carried j (own h p))) is)) free
            (λ n k x taken. let both : step ≡ TakeL n k x = sym is ∙ taken in absurd cc)

  parts-of : (h : History) → IsLegal facts h → AddsCarryNothing h → (p : ℕ) → Parts h p
  parts-of [] legal adds p = no-parts [] p legal refl
  parts-of (e ∷ h) legal adds p =
      ⊎_elim (λ (none : carried j (own (e ∷ h) p) ≡ pos 0). no-parts (e ∷ h) p legal none)
      (λ (some : carried j (own (e ∷ h) p) ≢ pos 0). next-parts e h legal p (parts-of h legal.0 adds.1 p) some adds.0)
      (zero_or_not (carried j (own (e ∷ h) p)))

  -- some caller carries all that is carried
  pub carrier : (h : History) → IsLegal facts h → (p : ℕ) × (carried_by_all h j ≡ carried j (own h p))
  carrier h legal = by (holder j h) refl
    where
      one : HasOneHolder facts h j
      one = holder-one facts h legal j j_in

      by : (who : Option ℕ) → holder j h ≡ who → (p : ℕ) × (carried_by_all h j ≡ carried j (own h p))
      by None is =
          let none = one.free (one.held ∙ ap is_some is) in
          (0, sum_below-zeros (λ q. carried j (own h q)) (suc (begun_in role h)) (λ q below. none q) ∙ sym (none 0))
      by (Some p) is =
          let holds : holds_lock j (own h p) ≡ true = (one.own_events p).1 is in
          let given = live_is_given percpu facts h p legal (one.lives p holds) in
          let all =
          sum_below-changed (λ q. pos 0) (λ q. carried j (own h q)) p (suc (begun_in role h)) (omega (arith, given.1))
          (λ q below other. at (holds_lock j (own h q)) q refl other holds) in
          (p, omega (arith, ints, all, sum_below-zeros (λ q. pos 0) (suc (begun_in role h)) (λ q below. refl)))
        where
          at : (b : Bool) (q : ℕ) → holds_lock j (own h q) ≡ b → q ≢ p → holds_lock j (own h p) ≡ true
              → carried j (own h q) ≡ pos 0
          at true q theirs other mine = absurd (other (one.one q p theirs mine))
          at false q theirs other mine = one.others q theirs

pub count-near : (facts : PcpuFacts) (h : History) → IsLegal facts h → AddsCarryNothing h → CountsAreNear facts h
count-near facts h legal adds j j_in =
    let base = base_can_begin percpu facts h legal in
    let carries = carrier facts j j_in h legal in
    let parts = parts-of facts j j_in h legal adds carries.0 in
    let cpus = facts.layout.cpus in
    let full : ℕ → ℤ = λ c. local_of facts j j_in h c +ℤ parts.part c in
    let all : take cpus facts.cpus ≡ facts.cpus =
    take_all cpus facts.cpus (omega (arith, base.lengths.one_state_each)) in
    let bound : sum_below (λ c. pos (unsigned_abs (full c))) cpus ≤ℤ pos (unknown facts j) =
    rw all at (present-bound facts.cpus (λ c. pos (unsigned_abs (full c))) (batch_at facts.base j) cpus
    (omega (arith, base.lengths.one_state_each))
    (λ c below. let within = parts.within c below in omega (arith, ints, within))
    (λ c below absent. let none = parts.absent c below absent in omega (arith, ints, none))) in
    let size = sum_below-size full cpus in
    let sum = sum_below-sum (λ c. local_of facts j j_in h c) parts.part cpus in
    let kept = totals-kept facts h legal j j_in in
    omega (arith, ints, bound, size, sum, kept, parts.total, carries.1)

pub adds-before : (more h : History) → AddsCarryNothing (more ++ h) → AddsCarryNothing h
adds-before [] h adds = adds
adds-before (e ∷ more) h adds = adds-before more h adds.1

pub adds-earlier : (later h : History) → Extends later h → AddsCarryNothing later → AddsCarryNothing h
adds-earlier later h more adds = adds-before more.0 h (subst AddsCarryNothing more.1 adds)

pub counts-near : (facts : PcpuFacts) (more h : History) → IsLegal facts (more ++ h) → AddsCarryNothing (more ++ h)
    → CountsAreNear facts h
counts-near facts more h legal adds =
    count-near facts h (prefix_is_legal percpu facts more h legal) (adds-before more h adds)
