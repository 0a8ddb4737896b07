-- What others move while one caller adds nothing: by no more than they add up, and down.
use Rattle.std.proofs.Common.{◌≡◌, ℕ, ◌⊎◌, inl, inr, ⊎_elim, ◌&&◌, Bool, true, false, true≢false, [], ◌∷◌, ◌++◌, Option}
use Rattle.std.proofs.Common.{Some, None, ℤ, pos, negsuc, ◌+ℤ◌, ◌-ℤ◌, ◌≤ℤ◌, refl, sym, ap, subst, ◌∙◌, nat_eq}
use Rattle.std.proofs.Common.{if◌then◌else◌, arith}
use Rattle.std.proofs.lemmas.Bool.{cases_lt, ne_eqb}
use Rattle.std.proofs.lemmas.Int.{ints}
use Rattle.vms_history.specs.Common.{CpuId, Extends, own, owner_in, sum_below}
use Rattle.vms_history.proofs.Common.{sum_below-only, sum_below-same, sum_below-sum, sum_below-zeros}
use Rattle.vms_pcpu_core.specs.declared.steps.PcpuFacts.{PcpuFacts}
use Rattle.vms_pcpu_core.specs.declared.steps.PcpuStep.{PcpuStep}
use Rattle.vms_pcpu_core.specs.declared.steps.PcpuStep.TheVariants.{AddC, AddL}
use Rattle.vms_pcpu_core.specs.Common.{AreLoads, History, IsLoad, IsPcpu, Watches, added_by, amount_of, by_others}
use Rattle.vms_pcpu_core.specs.Common.{by_others_between, carried, fall, holds_lock, local_at, numbers_after, rise}
use Rattle.vms_pcpu_core.specs.Common.{role, true_total}
use Rattle.vms_pcpu_core.proofs.KnowledgeKept.{holds-stays, loads-before, local-grows}

-- a number is its rise less its fall, which aren't negative
parts-of_number : (x : ℤ) → (x ≡ rise x -ℤ fall x) × (pos 0 ≤ℤ rise x) × (pos 0 ≤ℤ fall x)
parts-of_number (pos n) = (omega (arith, ints), omega (arith, ints), omega (arith, ints))
parts-of_number (negsuc n) = (omega (arith, ints), omega (arith, ints), omega (arith, ints))

module _ (p j : ℕ) (number : History → ℤ) where
  -- each event leaves a number, or another caller than p makes it and moves the number by its amount
  abbrev pub Follows : History → History → Type 0
  Follows [] h = Unit {0}
  Follows (e ∷ m) h = ((number (e ∷ (m ++ h)) ≡ number (m ++ h))
      ⊎ ((nat_eq e.caller p ≡ false)
      × (number (e ∷ (m ++ h)) ≡ number (m ++ h) +ℤ amount_of j (carried j (own (m ++ h) e.caller)) e.step)))
      × Follows m h

  -- so it moves by no more than others add up and down
  pub follows-others : (m h : History) → Follows m h
      → (number (m ++ h) ≤ℤ (number h +ℤ by_others_between rise p j h (m ++ h)))
      × ((number h -ℤ by_others_between fall p j h (m ++ h)) ≤ℤ number (m ++ h))
  follows-others [] h follows = (omega (arith, ints), omega (arith, ints))
  follows-others (e ∷ m) h follows =
      by (nat_eq e.caller p) (parts-of_number (amount_of j (carried j (own (m ++ h) e.caller)) e.step))
      (follows-others m h follows.1) follows.0
    where
      by : (b : Bool) → let amount : ℤ = amount_of j (carried j (own (m ++ h) e.caller)) e.step in
          (amount ≡ rise amount -ℤ fall amount) × (pos 0 ≤ℤ rise amount) × (pos 0 ≤ℤ fall amount)
          → (number (m ++ h) ≤ℤ (number h +ℤ by_others_between rise p j h (m ++ h)))
          × ((number h -ℤ by_others_between fall p j h (m ++ h)) ≤ℤ number (m ++ h))
          → (number (e ∷ (m ++ h)) ≡ number (m ++ h))
          ⊎ ((b ≡ false) × (number (e ∷ (m ++ h)) ≡ number (m ++ h) +ℤ amount))
          → (number (e ∷ (m ++ h)) ≤ℤ (number h +ℤ (((if b then pos 0 else rise amount) +ℤ by_others rise p j (m ++ h))
          -ℤ by_others rise p j h)))
          × ((number h -ℤ (((if b then pos 0 else fall amount) +ℤ by_others fall p j (m ++ h)) -ℤ by_others fall p j h))
          ≤ℤ number (e ∷ (m ++ h)))
      by true parts before (inl same) = (omega (arith, ints, before.0, same), omega (arith, ints, before.1, same))
      by true parts before (inr moves) = absurd (true≢false moves.0)
      by false parts before (inl same) =
          (omega (arith, ints, before.0, same, parts.1), omega (arith, ints, before.1, same, parts.2))
      by false parts before (inr moves) = (
        omega (arith, ints, before.0, moves.1, parts.0, parts.2),
        omega (arith, ints, before.1, moves.1, parts.0, parts.1),
      )

  -- the same between two histories
  pub follows-between : (h g : History) (more : Extends g h) → Follows more.0 h
      → (number g ≤ℤ (number h +ℤ by_others_between rise p j h g))
      × ((number h -ℤ by_others_between fall p j h g) ≤ℤ number g)
  follows-between h g more follows =
      subst (λ (es : History). (number es ≤ℤ (number h +ℤ by_others_between rise p j h es))
      × ((number h -ℤ by_others_between fall p j h es) ≤ℤ number es)) (sym more.1) (follows-others more.0 h follows)

-- a step that adds nothing, whatever its caller carries
abbrev pub AddsNone : PcpuStep → Type 0
AddsNone (AddL j a) = ⊥
AddsNone (AddC j a) = ⊥
AddsNone _ = Unit {0}

abbrev pub AddNone : History → Type 0
AddNone [] = Unit {0}
AddNone (e ∷ mine) = AddsNone e.step × AddNone mine

adds-none : (j : ℕ) (carrying : ℤ) (step : PcpuStep) → AddsNone step → amount_of j carrying step ≡ pos 0
adds-none j carrying (AddL i a) none = absurd none
adds-none j carrying (AddC i a) none = absurd none
adds-none j carrying _ none = refl

-- the true total follows the others
pub total-follows : (facts : PcpuFacts) (p j : ℕ) (m h : History) → AddNone (own m p)
    → Follows p j (λ g. true_total facts g j) m h
total-follows facts p j [] h none = tt
total-follows facts p j (e ∷ m) h none =
    by (nat_eq e.caller p) refl none (total-follows facts p j m h)
  where
    by : (b : Bool) → nat_eq e.caller p ≡ b → AddNone (if b then e ∷ own m p else own m p)
        → (AddNone (own m p) → Follows p j (λ g. true_total facts g j) m h)
        → Follows p j (λ g. true_total facts g j) (e ∷ m) h
    by true mine adds rest =
        let nothing = adds-none j (carried j (own (m ++ h) e.caller)) e.step adds.0 in
        (inl (omega (arith, ints, nothing)), rest adds.1)
    by false other adds rest = (inr (other, omega (arith, ints)), rest adds)

-- what a step adds to the local parts of the first CPUs is nothing, or its amount
added-first : (who : Option CpuId) (n j : ℕ) (carrying : ℤ) (step : PcpuStep)
    → (sum_below (λ c. added_by who c j step) n ≡ pos 0)
    ⊎ (sum_below (λ c. added_by who c j step) n ≡ amount_of j carrying step)
added-first None n j carrying (AddL i a) = inl (sum_below-zeros (λ c. pos 0) n (λ c below. refl))
added-first (Some d) n j carrying (AddL i a) = elim (cases_lt d.number n) [
  | inl less ↦ inr (sum_below-only (λ x. x) (pos 0) a d.number n (nat_eq i.number j) refl less)
  | inr most ↦ inl (sum_below-zeros (λ c. if nat_eq d.number c && nat_eq i.number j then a else pos 0) n
      (λ c below. ap (λ (t : Bool). if t && nat_eq i.number j then a else pos 0)
      (ne_eqb d.number c (λ (same : d.number ≡ c). absurd (omega arith)))))
]
added-first who n j carrying _ = inl (sum_below-zeros (λ c. pos 0) n (λ c below. refl))

load-adds_none : (who : Option CpuId) (n j : ℕ) (step : PcpuStep) → IsLoad step
    → sum_below (λ c. added_by who c j step) n ≡ pos 0
load-adds_none who n j (AddL i a) load = absurd load
load-adds_none who n j _ load = sum_below-zeros (λ c. pos 0) n (λ c below. refl)

-- the local parts of the first n CPUs, in sum
abbrev pub first_locals : PcpuFacts → ℕ → ℕ → History → ℤ
first_locals facts j n h = sum_below (λ c. local_at (numbers_after facts h) c j) n

-- they follow the others while p holds the lock and makes only loads
pub locals-follow : (facts : PcpuFacts) (p j n : ℕ) (m h : History) → Watches facts m h p → IsPcpu facts j
    → holds_lock j (own h p) ≡ true → Follows p j (first_locals facts j n) m h
locals-follow facts p j n [] h watches j_in holds = tt
locals-follow facts p j n (e ∷ m) h watches j_in holds =
    let before = loads-before e m p watches.loads in
    let earlier : Watches facts m h p = record { legal = watches.legal.0; loads = before.1 } in
    let still : holds_lock j (own (m ++ h) p) ≡ true = holds-stays facts m h p j earlier holds in
    let newest : Watches facts (e ∷ []) (m ++ h) p =
    record { legal = watches.legal; loads = one (nat_eq e.caller p) before.0 } in
    let who = owner_in role (m ++ h) e.caller in
    let each =
    sum_below-same (λ c. local_at (numbers_after facts (e ∷ (m ++ h))) c j)
    (λ c. local_at (numbers_after facts (m ++ h)) c j +ℤ added_by who c j e.step) n
    (λ c below.
    let grown = local-grows facts (e ∷ []) (m ++ h) p c j newest j_in still in
    omega (arith, ints, grown)) in
    let sum =
    sum_below-sum (λ c. local_at (numbers_after facts (m ++ h)) c j) (λ c. added_by who c j e.step) n in
    (by (nat_eq e.caller p) refl before.0 (each ∙ sum), locals-follow facts p j n m h earlier j_in holds)
  where
    one : (b : Bool) → (b ≡ true → IsLoad e.step) → AreLoads (if b then e ∷ [] else [])
    one true load = (load refl, tt)
    one false load = tt

    by : (b : Bool) → nat_eq e.caller p ≡ b → (b ≡ true → IsLoad e.step)
        → first_locals facts j n (e ∷ (m ++ h)) ≡ first_locals facts j n (m ++ h)
        +ℤ sum_below (λ c. added_by (owner_in role (m ++ h) e.caller) c j e.step) n
        → (first_locals facts j n (e ∷ (m ++ h)) ≡ first_locals facts j n (m ++ h))
        ⊎ ((nat_eq e.caller p ≡ false) × (first_locals facts j n (e ∷ (m ++ h)) ≡ first_locals facts j n (m ++ h)
        +ℤ amount_of j (carried j (own (m ++ h) e.caller)) e.step))
    by true mine load moved =
        let none = load-adds_none (owner_in role (m ++ h) e.caller) n j e.step (load refl) in
        inl (omega (arith, ints, moved, none))
    by false other load moved =
        ⊎_elim (λ (none : sum_below (λ c. added_by (owner_in role (m ++ h) e.caller) c j e.step) n ≡ pos 0).
        inl (omega (arith, ints, moved, none)))
        (λ (all : sum_below (λ c. added_by (owner_in role (m ++ h) e.caller) c j e.step) n
        ≡ amount_of j (carried j (own (m ++ h) e.caller)) e.step). inr (other, omega (arith, ints, moved, all)))
        (added-first (owner_in role (m ++ h) e.caller) n j (carried j (own (m ++ h) e.caller)) e.step)
