-- For other crates too: what others cannot change while a pass makes only loads.
use Rattle.std.proofs.Common.{◌≡◌, ℕ, zero, suc, ◌<◌, ◌≤◌, ◌&&◌, Bool, true, false, [], ◌∷◌, ◌++◌, Option, Some, None}
use Rattle.std.proofs.Common.{ℤ, pos, negsuc, ◌+ℤ◌, ◌-ℤ◌, unsigned_abs, refl, sym, ap, subst, ◌∙◌, arith, if◌then◌else◌}
use Rattle.std.proofs.Common.{nat_eq, eq-eqb, eqb-true}
use Rattle.std.proofs.Math.Bool.{and-false}
use Rattle.std.proofs.lemmas.Int.{ints}
use Rattle.std.proofs.lemmas.Bool.{eqb-false}
use Rattle.vms_history.specs.Common.{CpuId, PcpuId, CpuState, Online, Dead, IsCpu, own, lives_in, owner_in, begun_in}
use Rattle.vms_history.specs.Common.{sum_below}
use Rattle.vms_history.specs.declared.events.Event.{Event}
use Rattle.vms_history.proofs.Common.{holds_while_live, own-mine, same_cpu, owner_may_own, owner_is_caller}
use Rattle.vms_history.proofs.Common.{owner_is_given, prefix_is_legal, sum_below-size, sum_below-same, sum_below-sum}
use Rattle.vms_history.proofs.Common.{sum_below-zeros}
use Rattle.vms_pcpu_core.specs.declared.steps.PcpuFacts.{PcpuFacts}
use Rattle.vms_pcpu_core.specs.declared.steps.PcpuStep.{PcpuStep}
use Rattle.vms_pcpu_core.specs.declared.steps.PcpuStep.TheVariants.{AddL, LoadL, LoadC, Won, TakeL, AddC}
use Rattle.vms_pcpu_core.specs.Common.{LockedState, count_at, local_at, cpu_at, IsPcpu, sign_of, unknown, Meets}
use Rattle.vms_pcpu_core.specs.Common.{MayTake, percpu, History, IsLegal, state_after, numbers_after, carried_by_all}
use Rattle.vms_pcpu_core.specs.Common.{holds_lock, holds_lock_after, carried, role, amount_of, is_owned, spent}
use Rattle.vms_pcpu_core.specs.Common.{spent_by, true_total, IsLoad, AreLoads, Watches, added_by, added_since}
use Rattle.vms_pcpu_core.specs.Common.{count_after, local_after}
use Rattle.vms_pcpu_core.proofs.Drift.{locals-hide}
use Rattle.vms_pcpu_core.proofs.Effects.{count_at-effect, local_at-effect}
use Rattle.vms_pcpu_core.proofs.Locks.{holder-one, holds-own_event}
use Rattle.vms_pcpu_core.proofs.Shapes.{HasShape-state_after}
use Rattle.vms_pcpu_core.proofs.Totals.{owned, totals-kept}

-- the newest event is a load if it is an own one, and the earlier own ones are loads
pub loads-before : (e : Event PcpuStep) (more : History) (p : ℕ) → AreLoads (own (e ∷ more) p)
    → (nat_eq e.caller p ≡ true → IsLoad e.step) × AreLoads (own more p)
loads-before e more p are = by (nat_eq e.caller p) are
  where
    by : (b : Bool) → AreLoads (if b then e ∷ own more p else own more p)
        → (b ≡ true → IsLoad e.step) × AreLoads (own more p)
    by true all = (λ mine. all.0, all.1)
    by false all = (λ mine. absurd cc, all)

module _ (facts : PcpuFacts) (h : History) (s : LockedState) (p : ℕ) (c : CpuId) (j : ℕ) where
  load-local : (who : Option CpuId) (step : PcpuStep) (x : ℤ) → IsLoad step → local_after who c.number j step x ≡ x
  load-local who (LoadL i d v) x is = refl
  load-local who (LoadC i v) x is = refl
  load-local who _ x is = absurd is

  load-count : (step : PcpuStep) (x : ℤ) → IsLoad step → count_after j step x ≡ x
  load-count (LoadL i d v) x is = refl
  load-count (LoadC i v) x is = refl
  load-count _ x is = absurd is

  load-amount : (step : PcpuStep) (x : ℤ) → IsLoad step → amount_of j x step ≡ pos 0
  load-amount (LoadL i d v) x is = refl
  load-amount (LoadC i v) x is = refl
  load-amount _ x is = absurd is

  -- a step of a pass that doesn't own an online CPU leaves its local parts
  others-local : (who : Option CpuId) (step : PcpuStep) (x : ℤ) → owner_in role h p ≡ who → Meets facts h s p step
      → is_owned who c.number ≡ false → cpu_at facts c.number ≡ Online → local_after who c.number j step x ≡ x
  others-local who (AddL i a) x is meets other online = rw other refl
  others-local None (TakeL i d v) x is meets other online = by (nat_eq d.number c.number) refl
    where
      apart : {y : CpuState} → y ≡ Online → y ≡ Dead → ⊥
      apart on off = cc

      by : (b : Bool) → nat_eq d.number c.number ≡ b → (if b && nat_eq i.number j then pos 0 else x) ≡ x
      by true same =
          let dead : MayTake facts None d = subst (λ o. MayTake facts o d) is meets.whose in
          absurd (apart online (ap (cpu_at facts) (sym (eqb-true d.number c.number same)) ∙ dead))
      by false differ = refl
  others-local (Some o) (TakeL i d v) x is meets other online =
      let mine : MayTake facts (Some o) d = subst (λ w. MayTake facts w d) is meets.whose in
      let differ : nat_eq d.number c.number ≡ false = rw mine at other in
      rw differ refl
  others-local who _ x is meets other online = refl

-- no other pass owns the CPU of a pass that lives
other-owns : (facts : PcpuFacts) (e : Event PcpuStep) (h : History) (p : ℕ) (c : CpuId) → IsLegal facts (e ∷ h)
    → lives_in role h p ≡ true
    → owner_in role h p ≡ Some c → nat_eq e.caller p ≡ false → is_owned (owner_in role h e.caller) c.number ≡ false
other-owns facts e h p c legal lives owner other = by (owner_in role h e.caller) refl
  where
    by : (who : Option CpuId) → owner_in role h e.caller ≡ who → is_owned who c.number ≡ false
    by None is = refl
    by (Some d) is = at (nat_eq d.number c.number) refl
      where
        at : (b : Bool) → nat_eq d.number c.number ≡ b → b ≡ false
        at true same =
            let cpus : d ≡ c = same_cpu d c (eqb-true d.number c.number same) in
            absurd (eqb-false e.caller p other
            (owner_is_caller percpu facts e h p c legal lives owner (is ∙ ap Some cpus)))
        at false differ = refl

-- of all before the newest event
watches-before : (facts : PcpuFacts) (e : Event PcpuStep) (more h : History) (p : ℕ) → Watches facts (e ∷ more) h p
    → Watches facts more h p
watches-before facts e more h p watches =
    record { legal = watches.legal.0; loads = (loads-before e more p watches.loads).1 }

-- while the pass lives, an event leaves the local parts of its CPU and spends none of its volume, unless the pass made
-- it and it is no load
module _ (facts : PcpuFacts) (e : Event PcpuStep) (h : History) (p : ℕ) (c : CpuId) (j : ℕ)
    (legal : IsLegal facts (e ∷ h))
    (lives : lives_in role h p ≡ true) (owner : owner_in role h p ≡ Some c)
    (load : nat_eq e.caller p ≡ true → IsLoad e.step) where
  pub local_after-kept : (x : ℤ) → local_after (owner_in role h e.caller) c.number j e.step x ≡ x
  local_after-kept x = by (nat_eq e.caller p) refl
    where
      who : Option CpuId
      who = owner_in role h e.caller

      s : LockedState
      s = state_after facts h

      by : (b : Bool) → nat_eq e.caller p ≡ b → local_after who c.number j e.step x ≡ x
      by true mine = load-local facts h s e.caller c j who e.step x (load mine)
      by false other =
          let online : cpu_at facts c.number ≡ Online = (owner_may_own percpu facts h p c legal.0 owner).1 in
          others-local facts h s e.caller c j who e.step x refl legal.2
          (other-owns facts e h p c legal lives owner other) online

  pub spent_by-none : spent_by (owner_in role h e.caller) c.number j (carried j (own h e.caller)) e.step ≡ 0
  spent_by-none = by (nat_eq e.caller p) refl
    where
      if_zero : (b : Bool) (n : ℕ) → n ≡ 0 → (if b then n else 0) ≡ 0
      if_zero true n is = is
      if_zero false n is = refl

      by : (b : Bool) → nat_eq e.caller p ≡ b
          → spent_by (owner_in role h e.caller) c.number j (carried j (own h e.caller)) e.step ≡ 0
      by true mine =
          let none = load-amount facts h (state_after facts h) e.caller c j e.step (carried j (own h e.caller))
          (load mine) in
          if_zero (is_owned (owner_in role h e.caller) c.number)
          (unsigned_abs (amount_of j (carried j (own h e.caller)) e.step)) (ap unsigned_abs none)
      by false other = let none = other-owns facts e h p c legal lives owner other in rw none refl

module _ (facts : PcpuFacts) (more h : History) (p : ℕ) (c : CpuId) (j : ℕ) (watches : Watches facts more h p)
    (lives : lives_in role (more ++ h) p ≡ true) (owner : owner_in role h p ≡ Some c) where
  given : p ≤ begun_in role h
  given = (owner_is_given percpu facts h p c (prefix_is_legal percpu facts more h watches.legal) owner).1

  pub local-stays : IsPcpu facts j
      → local_at (numbers_after facts (more ++ h)) c.number j ≡ local_at (numbers_after facts h) c.number j
  local-stays j_in =
      holds_while_live percpu facts h p
      (λ g. local_at (numbers_after facts g) c.number j ≡ local_at (numbers_after facts h) c.number j)
      AreLoads (λ e es loads. loads.1)
      (λ e m legal lived same loads before.
      let g : History = m ++ h in
      local_at-effect facts g (state_after facts g) e.caller (HasShape-state_after facts g legal.0)
      (owner_in role g e.caller)
      e.step c.number j (λ d is. owned facts g e.caller d legal.0 is) legal.2 j_in
      ∙ local_after-kept facts e g p c j legal lived (same ∙ owner) (loads-before e m p loads).0
      (local_at (numbers_after facts g) c.number j)
      ∙ before)
      given refl more watches.legal lives watches.loads

  pub spent-stays : spent (more ++ h) c.number j ≡ spent h c.number j
  spent-stays =
      holds_while_live percpu facts h p (λ g. spent g c.number j ≡ spent h c.number j) AreLoads (λ e es loads. loads.1)
      (λ e m legal lived same loads before.
      let none = spent_by-none facts e (m ++ h) p c j legal lived (same ∙ owner) (loads-before e m p loads).0 in
      omega (arith, none, before))
      given refl more watches.legal lives watches.loads

-- under the lock

load-holds : (j : ℕ) (e : Event PcpuStep) (h : History) (p : ℕ) → (nat_eq e.caller p ≡ true → IsLoad e.step)
    → holds_lock j (own (e ∷ h) p) ≡ holds_lock j (own h p)
load-holds j e h p loads = holds-own_event j e h p ∙ by (nat_eq e.caller p) loads
  where
    at : (step : PcpuStep) (x : Bool) → IsLoad step → holds_lock_after j step x ≡ x
    at (LoadL i d v) x is = refl
    at (LoadC i v) x is = refl
    at _ x is = absurd is

    by : (b : Bool) → (b ≡ true → IsLoad e.step)
        → (if b then holds_lock_after j e.step (holds_lock j (own h p)) else holds_lock j (own h p))
        ≡ holds_lock j (own h p)
    by true loads = at e.step (holds_lock j (own h p)) (loads refl)
    by false loads = refl

pub holds-stays : (facts : PcpuFacts) (more h : History) (p j : ℕ) → Watches facts more h p
    → holds_lock j (own h p) ≡ true
    → holds_lock j (own (more ++ h) p) ≡ true
holds-stays facts [] h p j watches holding = holding
holds-stays facts (e ∷ more) h p j watches holding =
    load-holds j e (more ++ h) p (loads-before e more p watches.loads).0
    ∙ holds-stays facts more h p j (watches-before facts e more h p watches) holding

-- a step of another than the holder neither takes a local part of the counter nor adds to its shared part
module _ (facts : PcpuFacts) (e : Event PcpuStep) (h : History) (p c j : ℕ) (legal : IsLegal facts (e ∷ h))
    (j_in : IsPcpu facts j)
    (holding : holds_lock j (own h p) ≡ true) (loads : nat_eq e.caller p ≡ true → IsLoad e.step) where
  not_under_lock : (i : ℕ) → holds_lock i (own h e.caller) ≡ true → (IsLoad e.step → ⊥) → nat_eq i j ≡ false
  not_under_lock i theirs no_load = by (nat_eq i j) refl
    where
      by : (b : Bool) → nat_eq i j ≡ b → b ≡ false
      by true same =
          let also : holds_lock j (own h e.caller) ≡ true = rw (eqb-true i j same) at theirs in
          let one : e.caller ≡ p = (holder-one facts h legal.0 j j_in).one e.caller p also holding in
          absurd (no_load (loads (rw one (eq-eqb p p refl))))
      by false differ = refl

  holder-count : (step : PcpuStep) (x : ℤ) → e.step ≡ step → Meets facts h (state_after facts h) e.caller step
      → count_after j step x ≡ x
  holder-count (AddC i a) x is meets =
      let other = not_under_lock i.number meets.holding (λ load. subst IsLoad is load) in
      rw other refl
  holder-count _ x is meets = refl

  if-added : (b : Bool) (x a : ℤ) → (if b then x +ℤ a else x) ≡ x +ℤ (if b then a else pos 0)
  if-added true x a = refl
  if-added false x a = omega (arith, ints)

  holder-local : (who : Option CpuId) (step : PcpuStep) (x : ℤ) → e.step ≡ step
      → Meets facts h (state_after facts h) e.caller step
      → local_after who c j step x ≡ x +ℤ added_by who c j step
  holder-local who (AddL i a) x is meets = if-added (is_owned who c && nat_eq i.number j) x a
  holder-local who (TakeL i d v) x is meets =
      let other = not_under_lock i.number meets.holding (λ load. subst IsLoad is load) in
      rw (other, and-false (nat_eq d.number c)) (omega (arith, ints))
  holder-local who _ x is meets = omega (arith, ints)

pub count-stays : (facts : PcpuFacts) (more h : History) (p j : ℕ) → Watches facts more h p → IsPcpu facts j
    → holds_lock j (own h p) ≡ true
    → count_at (numbers_after facts (more ++ h)) j ≡ count_at (numbers_after facts h) j
count-stays facts [] h p j watches j_in holding = refl
count-stays facts (e ∷ more) h p j watches j_in holding =
    let g : History = more ++ h in
    let before = watches-before facts e more h p watches in
    count_at-effect facts g (state_after facts g) e.caller (HasShape-state_after facts g before.legal)
    (owner_in role g e.caller) e.step j watches.legal.2
    ∙ holder-count facts e g p 0 j watches.legal j_in (holds-stays facts more h p j before holding)
    (loads-before e more p watches.loads).0
    e.step (count_at (numbers_after facts g) j) refl watches.legal.2
    ∙ count-stays facts more h p j before j_in holding

pub local-grows : (facts : PcpuFacts) (more h : History) (p c j : ℕ) → Watches facts more h p → IsPcpu facts j
    → holds_lock j (own h p) ≡ true
    → local_at (numbers_after facts (more ++ h)) c j ≡ local_at (numbers_after facts h) c j +ℤ added_since more h c j
local-grows facts [] h p c j watches j_in holding = omega (arith, ints)
local-grows facts (e ∷ more) h p c j watches j_in holding =
    let g : History = more ++ h in
    let who = owner_in role g e.caller in
    let before = watches-before facts e more h p watches in
    let effect =
    local_at-effect facts g (state_after facts g) e.caller (HasShape-state_after facts g before.legal) who e.step c j
    (λ d is. owned facts g e.caller d before.legal is) watches.legal.2 j_in in
    let step =
    holder-local facts e g p c j watches.legal j_in (holds-stays facts more h p j before holding)
    (loads-before e more p watches.loads).0
    who e.step (local_at (numbers_after facts g) c j) refl watches.legal.2 in
    omega (arith, ints, effect, step, local-grows facts more h p c j before j_in holding)

-- nothing is carried when a lock was won
won-carried : (facts : PcpuFacts) (h : History) (p : ℕ) (j : PcpuId)
    → IsLegal facts (record { caller = p; step = Won j } ∷ h)
    → carried_by_all (record { caller = p; step = Won j } ∷ h) j.number ≡ pos 0
won-carried facts h p j legal =
    let e : Event PcpuStep = record { caller = p; step = Won j } in
    let meets = legal.2 in
    let holder = holder-one facts h legal.0 j.number meets.counter in
    let none : (q : ℕ) → carried j.number (own h q) ≡ pos 0 = holder.free meets.free in
    sum_below-zeros (λ q. carried j.number (own (e ∷ h) q)) (suc (begun_in role (e ∷ h)))
    (λ q below. by (nat_eq p q) q (none q))
  where
    by : (b : Bool) (q : ℕ) → carried j.number (own h q) ≡ pos 0
        → carried j.number (if b then record { caller = p; step = Won j } ∷ own h q else own h q) ≡ pos 0
    by true q none = none
    by false q none = none

pub sum-true : (facts : PcpuFacts) (h found : History) (moments : ℕ → History) (p : ℕ) (j : PcpuId)
    → Watches facts found (record { caller = p; step = Won j } ∷ h) p
    → ((c : ℕ) → IsCpu facts.layout c → Watches facts (moments c) (record { caller = p; step = Won j } ∷ h) p)
    → let won : History = record { caller = p; step = Won j } ∷ h in
    count_at (numbers_after facts (found ++ won)) j.number
    +ℤ sum_below (λ c. local_at (numbers_after facts (moments c ++ won)) c j.number) facts.layout.cpus
    ≡ true_total facts won j.number +ℤ sum_below (λ c. added_since (moments c) won c j.number) facts.layout.cpus
sum-true facts h found moments p j finds watches =
    let won : History = record { caller = p; step = Won j } ∷ h in
    let legal : IsLegal facts won = prefix_is_legal percpu facts found won finds.legal in
    let j_in : IsPcpu facts j.number = legal.2.counter in
    let holding : holds_lock j.number (own won p) ≡ true =
    let mine = own-mine (record { caller = p; step = Won j }) h p refl in
    let here = eq-eqb j.number j.number refl in
    rw mine (rw here refl) in
    let kept = totals-kept facts won legal j.number j_in in
    let nothing = won-carried facts h p j legal in
    let count = count-stays facts found won p j.number finds j_in holding in
    let each =
    sum_below-same (λ c. local_at (numbers_after facts (moments c ++ won)) c j.number)
    (λ c. local_at (numbers_after facts won) c j.number +ℤ added_since (moments c) won c j.number) facts.layout.cpus
    (λ c c_in. local-grows facts (moments c) won p c j.number (watches c c_in) j_in holding) in
    let parts =
    sum_below-sum (λ c. local_at (numbers_after facts won) c j.number)
    (λ c. added_since (moments c) won c j.number) facts.layout.cpus in
    omega (arith, ints, kept, nothing, count, each, parts)

-- numbers that are further off than they differ have one sign
sign-same : (x y : ℤ) (u : ℕ) → u < unsigned_abs x → unsigned_abs (y -ℤ x) ≤ u → sign_of x ≡ sign_of y
sign-same (pos zero) y u far near = absurd (omega (arith, ints))
sign-same (pos (suc n)) (pos zero) u far near = absurd (omega (arith, ints))
sign-same (pos (suc n)) (pos (suc m)) u far near = refl
sign-same (pos (suc n)) (negsuc m) u far near = absurd (omega (arith, ints))
sign-same (negsuc n) (pos m) u far near = absurd (omega (arith, ints))
sign-same (negsuc n) (negsuc m) u far near = refl

pub rough-sign : (facts : PcpuFacts) (h : History) (j : ℕ) (rhs : ℤ) → IsLegal facts h → IsPcpu facts j
    → unknown facts j < unsigned_abs (count_at (numbers_after facts h) j -ℤ rhs)
    → sign_of (count_at (numbers_after facts h) j -ℤ rhs)
    ≡ sign_of ((true_total facts h j -ℤ carried_by_all h j) -ℤ rhs)
rough-sign facts h j rhs legal j_in far =
    let kept = totals-kept facts h legal j j_in in
    let size = sum_below-size (λ c. local_at (numbers_after facts h) c j) facts.layout.cpus in
    let hidden = locals-hide facts h j legal j_in in
    sign-same (count_at (numbers_after facts h) j -ℤ rhs) ((true_total facts h j -ℤ carried_by_all h j) -ℤ rhs)
    (unknown facts j) far
    (omega (arith, ints))
