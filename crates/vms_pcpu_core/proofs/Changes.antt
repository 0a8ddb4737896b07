-- What one step does to one counter: nothing, or it adds to a local part, takes one, or adds to the shared part.
use Rattle.std.proofs.Common.{◌≡◌, ◌≢◌, ℕ, ◌<◌, ◌≤◌, ◌&&◌, Bool, true, false, List, Option, Some, None, ℤ, pos, ◌+ℤ◌}
use Rattle.std.proofs.Common.{◌-ℤ◌, unsigned_abs, refl, sym, ap, subst, ◌∙◌, arith, if◌then◌else◌, nat_eq, eq-eqb}
use Rattle.std.proofs.Common.{eqb-true}
use Rattle.std.proofs.lemmas.Bool.{ne_eqb}
use Rattle.std.proofs.lemmas.Int.{ints}
use Rattle.vms_history.specs.Common.{CpuId, PcpuId, IsCpu, own, owner_in}
use Rattle.vms_history.specs.declared.events.Event.{Event}
use Rattle.vms_pcpu_core.specs.declared.steps.PcpuFacts.{PcpuFacts}
use Rattle.vms_pcpu_core.specs.declared.steps.PcpuStep.{PcpuStep}
use Rattle.vms_pcpu_core.specs.declared.steps.PcpuStep.TheVariants.{AddL, TakeL, AddC}
use Rattle.vms_pcpu_core.specs.Common.{LockedState, HasShape, batch_at, count_at, local_at, IsPcpu, Meets, AddsToLocal}
use Rattle.vms_pcpu_core.specs.Common.{TakesLocal, AddsToCount, MayAdd, carried, carried_after, role, effect, amount_of}
use Rattle.vms_pcpu_core.proofs.Effects.{count_at-effect, local_at-effect}

-- the shared part, the local parts and what the acting caller carries, before and after, and the amount: who is the CPU
-- that the pass owns
pub data Change (cpus : ℕ) (who : Option CpuId) (batch : ℕ) (count count' : ℤ)
    (local local' : ℕ → ℤ) (carrying carrying' amount : ℤ) : Type 0 where
  rests : count' ≡ count → ((c : ℕ) → local' c ≡ local c) → carrying' ≡ carrying → amount ≡ pos 0
      → Change cpus who batch count count' local local' carrying carrying' amount
  grows : (d : CpuId) → who ≡ Some d → d.number < cpus → count' ≡ count → ((c : ℕ) → c ≢ d.number → local' c ≡ local c)
      → local' d.number ≡ local d.number +ℤ amount → unsigned_abs (local' d.number) ≤ batch → carrying' ≡ carrying
      → Change cpus who batch count count' local local' carrying carrying' amount
  takes : (d : CpuId) → d.number < cpus → count' ≡ count → ((c : ℕ) → c ≢ d.number → local' c ≡ local c)
      → local' d.number ≡ pos 0 → carrying' ≡ carrying +ℤ local d.number → amount ≡ pos 0
      → Change cpus who batch count count' local local' carrying carrying' amount
  adds : count' ≡ (count +ℤ carrying) +ℤ amount → ((c : ℕ) → local' c ≡ local c) → carrying' ≡ pos 0
      → (who ≡ None → amount ≡ pos 0)
      → Change cpus who batch count count' local local' carrying carrying' amount

module _ (cpus batch : ℕ) (count : ℤ) (local local' : ℕ → ℤ) (carrying : ℤ) where
  added : (d : CpuId) (b : Bool) (a : ℤ) → d.number < cpus
      → ((c : ℕ) → local' c ≡ (if nat_eq d.number c && b then local c +ℤ a else local c))
      → (b ≡ true → unsigned_abs (local d.number +ℤ a) ≤ batch)
      → Change cpus (Some d) batch count count local local' carrying carrying (if b then a else pos 0)
  added d true a d_in write within =
      let here : local' d.number ≡ local d.number +ℤ a = let same = eq-eqb d.number d.number refl in rw same at
      (write d.number) in
      grows d refl d_in refl (λ c other. let differ = ne_eqb d.number c (λ e. other (sym e)) in rw differ at (write c))
      here
      (rw here (within refl)) refl
  added d false a d_in write within = rests refl (λ c. write c ∙ by (nat_eq d.number c) (local c)) refl refl
    where
      by : (t : Bool) (x : ℤ) → (if t && false then x +ℤ a else x) ≡ x
      by true x = refl
      by false x = refl

  taken : (who : Option CpuId) (d : CpuId) (b : Bool) (v : ℤ) → d.number < cpus
      → ((c : ℕ) → local' c ≡ (if nat_eq d.number c && b then pos 0 else local c))
      → (b ≡ true → local d.number ≡ v)
      → Change cpus who batch count count local local' carrying (if b then carrying +ℤ v else carrying) (pos 0)
  taken who d true v d_in write told =
      takes d d_in refl (λ c other. let differ = ne_eqb d.number c (λ e. other (sym e)) in rw differ at (write c))
      (let same = eq-eqb d.number d.number refl in rw same at (write d.number))
      (ap (λ x. carrying +ℤ x) (sym (told refl))) refl
  taken who d false v d_in write told = rests refl (λ c. write c ∙ by (nat_eq d.number c) (local c)) refl refl
    where
      by : (t : Bool) (x : ℤ) → (if t && false then pos 0 else x) ≡ x
      by true x = refl
      by false x = refl

  put : (who : Option CpuId) (b : Bool) (a : ℤ) → ((c : ℕ) → local' c ≡ local c)
      → (b ≡ true → who ≡ None → a -ℤ carrying ≡ pos 0)
      → Change cpus who batch count (if b then count +ℤ a else count) local local' carrying
      (if b then pos 0 else carrying)
      (if b then a -ℤ carrying else pos 0)
  put who true a same control = adds (omega (arith, ints)) same refl (control refl)
  put who false a same control = rests refl same refl refl

module _ (facts : PcpuFacts) (h : List (Event PcpuStep)) (s : LockedState) (p : ℕ) (shaped : HasShape facts s) (j : ℕ)
    (j_in : IsPcpu facts j) where
  -- the step as a change of counter j
  abbrev pub IsChange : Option CpuId → PcpuStep → Type 0
  IsChange who step =
      Change facts.layout.cpus who (batch_at s.numbers j)
      (count_at s.numbers j) (count_at (effect facts who step s).numbers j)
      (λ c. local_at s.numbers c j) (λ c. local_at (effect facts who step s).numbers c j)
      (carried j (own h p)) (carried_after j step (carried j (own h p)))
      (amount_of j (carried j (own h p)) step)

  IsChange-add : (d : CpuId) (i : PcpuId) (a : ℤ) → owner_in role h p ≡ Some d
      → ((c : CpuId) → Some d ≡ Some c → IsCpu facts.layout c.number)
      → AddsToLocal facts h s p i a → IsChange (Some d) (AddL i a)
  IsChange-add d i a is owned meets =
      let same : meets.cpu ≡ d = let owner = meets.owner in cc in
      let within : unsigned_abs (local_at s.numbers d.number i.number +ℤ a) ≤ batch_at s.numbers i.number = rw same at
      meets.within in
      added facts.layout.cpus (batch_at s.numbers j) (count_at s.numbers j) (λ c. local_at s.numbers c j)
      (λ c. local_at (effect facts (Some d) (AddL i a) s).numbers c j) (carried j (own h p)) d (nat_eq i.number j) a
      (owned d refl)
      (λ c. local_at-effect facts h s p shaped (Some d) (AddL i a) c j owned meets j_in)
      (λ here. subst (λ n. unsigned_abs (local_at s.numbers d.number n +ℤ a) ≤ batch_at s.numbers n)
      (eqb-true i.number j here) within)

  IsChange-take : (who : Option CpuId) (i : PcpuId) (d : CpuId) (v : ℤ)
      → ((c : CpuId) → who ≡ Some c → IsCpu facts.layout c.number)
      → TakesLocal facts h s p i d v → IsChange who (TakeL i d v)
  IsChange-take who i d v owned meets =
      taken facts.layout.cpus (batch_at s.numbers j) (count_at s.numbers j) (λ c. local_at s.numbers c j)
      (λ c. local_at (effect facts who (TakeL i d v) s).numbers c j) (carried j (own h p)) who d (nat_eq i.number j) v
      meets.cpu
      (λ c. local_at-effect facts h s p shaped who (TakeL i d v) c j owned meets j_in)
      (λ here. subst (λ n. local_at s.numbers d.number n ≡ v) (eqb-true i.number j here) meets.value)

  control_adds_nothing : (who : Option CpuId) (i : PcpuId) (a : ℤ) → owner_in role h p ≡ who → AddsToCount facts h p i a
      → nat_eq i.number j ≡ true → who ≡ None → a -ℤ carried j (own h p) ≡ pos 0
  control_adds_nothing who i a is meets here none =
      let amount : MayAdd h None i.number (a -ℤ carried i.number (own h p)) =
      subst (λ o. MayAdd h o i.number (a -ℤ carried i.number (own h p))) (is ∙ none) meets.amount in
      subst (λ n. a -ℤ carried n (own h p) ≡ pos 0) (eqb-true i.number j here) amount

  IsChange-put : (who : Option CpuId) (i : PcpuId) (a : ℤ) → owner_in role h p ≡ who → AddsToCount facts h p i a
      → IsChange who (AddC i a)
  IsChange-put who i a is meets =
      subst (λ (count' : ℤ). Change facts.layout.cpus who (batch_at s.numbers j) (count_at s.numbers j) count'
      (λ c. local_at s.numbers c j) (λ c. local_at s.numbers c j) (carried j (own h p))
      (carried_after j (AddC i a) (carried j (own h p))) (amount_of j (carried j (own h p)) (AddC i a)))
      (sym (count_at-effect facts h s p shaped who (AddC i a) j meets))
      (put facts.layout.cpus (batch_at s.numbers j) (count_at s.numbers j) (λ c. local_at s.numbers c j)
      (λ c. local_at s.numbers c j)
      (carried j (own h p)) who (nat_eq i.number j) a (λ c. refl) (control_adds_nothing who i a is meets))

  pub change-step : (who : Option CpuId) (step : PcpuStep) → owner_in role h p ≡ who
      → ((d : CpuId) → who ≡ Some d → IsCpu facts.layout d.number) → Meets facts h s p step → IsChange who step
  change-step None (AddL i a) is owned meets = let owner = meets.owner in absurd cc
  change-step (Some d) (AddL i a) is owned meets = IsChange-add d i a is owned meets
  change-step who (TakeL i d v) is owned meets = IsChange-take who i d v owned meets
  change-step who (AddC i a) is owned meets = IsChange-put who i a is meets
  change-step who _ is owned meets = rests refl (λ c. refl) refl refl
