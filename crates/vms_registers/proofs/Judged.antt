-- For other crates too: what registers show of the passes of a history, and that they show it of the next one.
use Rattle.std.proofs.Common.{◌≡◌, ◌≢◌, ℕ, ◌+◌, ◌<◌, Bool, true, false, true≢false, List, [], ◌∷◌, length, refl, Option}
use Rattle.std.proofs.Common.{Some, sym, ap, ◌∙◌, subst, arith, get_or, replicate, inl, inr, ◌^◌, MatchBool}
use Rattle.std.proofs.Math.ListN.{set, length-set}
use Rattle.std.proofs.lemmas.Bool.{cases_lt}
use Rattle.std.proofs.lemmas.List.{get_or-replicate, get_or_past, length-replicate}
use Rattle.vms_history.specs.Common.{CpuId, Machine, Acts, IsLegal, Role, Works, Begins, Ends, begun_after, begun_in}
use Rattle.vms_history.specs.Common.{lives_in, own}
use Rattle.vms_history.specs.declared.events.Event.{Event}
use Rattle.vms_history.proofs.Common.{get_or-set, live_is_given}
use Rattle.vms_history.proofs.PassLaws.{begun_in-main, begun_in-others}
use Rattle.vms_registers.specs.Shows.{Parts, Shows, held_by}
use Rattle.vms_registers.specs.Slots.{BeginsIn, EndsIn, MayWork, StandsIn, slot_of}
use Rattle.vms_registers.proofs.HeldPasses.{HoldPasses-begins, HoldPasses-ends, HoldPasses-works, free-empty, not-held}
use Rattle.vms_registers.proofs.HeldPasses.{owner_of-slot_of, slot_of-within}

filled-at : {X : Type 0} (n i : ℕ) (v : X) → get_or (replicate n v) i v ≡ v
filled-at n i v = elim (cases_lt i n) [
  | inl within ↦ get_or-replicate n i v v within
  | inr past ↦ get_or_past (replicate n v) i v (rw (length-replicate n v) past)
]

-- before the first event no slot holds a pass
pub Shows-none : {F K S R : Type 0} (machine : Machine F K S) (cpus_of : F → ℕ)
    (Own : F → List (Event K) → (ℕ → ℕ) → R → Type 0) (facts : F) (cpus : ℕ) (own : R)
    → machine.CanBegin facts → cpus ≡ cpus_of facts
    → ((held : ℕ → ℕ) → ((s : ℕ) → held s ≡ 0) → Own facts [] held own)
    → Shows machine cpus_of Own facts []
    (record { passes = record { begun = 0; holders = replicate (cpus + 1) 0 }; own = own })
Shows-none machine cpus_of Own facts cpus own can_begin count kept = record {
  legal = can_begin;
  begun = refl;
  one_each = length-replicate (cpus + 1) 0 ∙ ap (λ n. n + 1) count;
  hold = record {
    lives = λ s some. absurd (some (filled-at (cpus + 1) s 0));
    owner = λ s some. absurd (some (filled-at (cpus + 1) s 0));
    holds = λ q lives. absurd (true≢false (sym lives));
    within = λ q lives. absurd (true≢false (sym lives));
  };
  own = kept (held_by (replicate (cpus + 1) 0)) (λ s. filled-at (cpus + 1) s 0);
}

module _ {F K S R : Type 0} (machine : Machine F K S) (cpus_of : F → ℕ)
    (Own : F → List (Event K) → (ℕ → ℕ) → R → Type 0) (facts : F) (h : List (Event K)) (r : Parts R)
    (shows : Shows machine cpus_of Own facts h r) where
  -- the pass that a slot holds stands there
  pub stands-held : (p slot : ℕ) → (p ≢ 0) × (held_by r.passes.holders slot ≡ p) × (slot < length r.passes.holders)
      → StandsIn machine facts (cpus_of facts) h (held_by r.passes.holders) slot p
  stands-held p slot is = record {
    legal = shows.legal;
    hold = shows.hold;
    here = is.1;
    given = is.0;
    slot_in = omega (arith, is.2, shows.one_each);
  }

  -- a pass that lives stands in some slot
  pub lives-some : (p : ℕ) → lives_in machine.role h p ≡ true → ((s : ℕ) → held_by r.passes.holders s ≡ p → p ≡ 0) → ⊥
  lives-some p lives none =
      let given = live_is_given machine facts h p shows.legal lives in
      true≢false (sym lives ∙ not-held machine facts (cpus_of facts) h (held_by r.passes.holders) shows.hold p
      (λ s same. absurd (omega (arith, given.0, none s same))))

  -- the step of a pass in its slot
  pub may-work : (p slot : ℕ) (step : K)
      → (p ≢ 0) × (held_by r.passes.holders slot ≡ p) × (slot < length r.passes.holders)
      → IsLegal machine facts (record { caller = p; step = step } ∷ h) → length h + 1 < 2 ^ 64
      → machine.role step ≡ Works → MayWork machine facts (cpus_of facts) h (held_by r.passes.holders) slot p step
  may-work p slot step is legal short works =
      record { stands = stands-held p slot is; works = works; meets = legal.2; short = short }

  pub Shows-works : (p : ℕ) (step : K) (next : R) → p ≢ 0
      → IsLegal machine facts (record { caller = p; step = step } ∷ h)
      → Own facts (record { caller = p; step = step } ∷ h) (held_by r.passes.holders) next
      → Shows machine cpus_of Own facts (record { caller = p; step = step } ∷ h)
      (record { passes = r.passes; own = next })
  Shows-works p step next others legal own = record {
    legal = legal;
    begun = begun_in-others machine.role (record { caller = p; step = step }) h others ∙ shows.begun;
    one_each = shows.one_each;
    hold = HoldPasses-works machine facts (cpus_of facts) h (held_by r.passes.holders) shows.hold
        (record { caller = p; step = step }) others;
    own = own;
  }

  -- the slot of a pass that may begin is one of the table
  pub slot-within : (who : Option CpuId) → ((c : CpuId) → who ≡ Some c → c.number < cpus_of facts)
      → slot_of (cpus_of facts) who < length r.passes.holders
  slot-within who within = omega (arith, slot_of-within (cpus_of facts) who within, shows.one_each)

  -- every pass has ended where no slot holds one
  pub all_ended : (b : Bool)
      → MatchBool b ((s : ℕ) → held_by r.passes.holders s ≡ 0) ((s : ℕ) × (held_by r.passes.holders s ≢ 0))
      → MatchBool b ((q : ℕ) → lives_in machine.role h q ≡ false) ((q : ℕ) × (lives_in machine.role h q ≡ true))
  all_ended true none = λ q. by q (lives_in machine.role h q) refl
    where
      by : (q : ℕ) (b : Bool) → lives_in machine.role h q ≡ b → b ≡ false
      by q true lives = absurd (lives-some q lives (λ s same. sym same ∙ none s))
      by q false lives = refl
  all_ended false (s, some) = (held_by r.passes.holders s, shows.hold.lives s some)

  -- a pass begins in the slot that was free
  module _ (q : ℕ) (who : Option CpuId) (step : K)
      (legal : IsLegal machine facts (record { caller = 0; step = step } ∷ h))
      (begins : machine.role step ≡ Begins q who)
      (within : (c : CpuId) → who ≡ Some c → c.number < cpus_of facts) where
    acts : Acts machine facts h 0 (Begins q who)
    acts = subst (Acts machine facts h 0) begins legal.1

    begins-in : BeginsIn machine facts (cpus_of facts) h (held_by r.passes.holders) (slot_of (cpus_of facts) who) q step
        (held_by (set r.passes.holders (slot_of (cpus_of facts) who) q))
    begins-in = record {
      hold = shows.hold;
      begins = begins ∙ ap (Begins q) (sym (owner_of-slot_of (cpus_of facts) who within));
      legal = legal;
      free = free-empty machine facts (cpus_of facts) h (held_by r.passes.holders) shows.hold who within acts.3;
      slot_in = slot_of-within (cpus_of facts) who within;
      fills = λ s. get_or-set r.passes.holders (slot_of (cpus_of facts) who) s q 0 (slot-within who within);
    }

    pub Shows-begins : ((next : ℕ → ℕ)
        → BeginsIn machine facts (cpus_of facts) h (held_by r.passes.holders) (slot_of (cpus_of facts) who) q step next
        → Own facts h (held_by r.passes.holders) r.own
        → Own facts (record { caller = 0; step = step } ∷ h) next r.own)
        → Shows machine cpus_of Own facts (record { caller = 0; step = step } ∷ h) (record {
          passes = record { begun = q; holders = set r.passes.holders (slot_of (cpus_of facts) who) q };
          own = r.own;
        })
    Shows-begins kept = record {
      legal = legal;
      begun =
          begun_in-main machine.role (record { caller = 0; step = step }) h refl
          ∙ ap (λ (t : Role). begun_after t (begun_in machine.role h)) begins ∙ sym acts.1;
      one_each = length-set r.passes.holders _ q ∙ shows.one_each;
      hold = HoldPasses-begins machine facts (cpus_of facts) h (held_by r.passes.holders)
          (slot_of (cpus_of facts) who) q step
          (held_by (set r.passes.holders (slot_of (cpus_of facts) who) q)) begins-in;
      own = kept (held_by (set r.passes.holders (slot_of (cpus_of facts) who) q)) begins-in shows.own;
    }

  -- a pass ends, and its slot is free
  module _ (q slot : ℕ) (step : K) (legal : IsLegal machine facts (record { caller = 0; step = step } ∷ h))
      (ends : machine.role step ≡ Ends q)
      (is : (q ≢ 0) × (held_by r.passes.holders slot ≡ q) × (slot < length r.passes.holders)) where
    ends-in : EndsIn machine facts (cpus_of facts) h (held_by r.passes.holders) slot q step
        (held_by (set r.passes.holders slot 0))
    ends-in = record {
      stands = stands-held q slot is;
      ends = ends;
      legal = legal;
      leaves = λ s. get_or-set r.passes.holders slot s 0 0 is.2;
    }

    pub Shows-ends : ((next : ℕ → ℕ)
        → EndsIn machine facts (cpus_of facts) h (held_by r.passes.holders) slot q step next
        → Own facts h (held_by r.passes.holders) r.own
        → Own facts (record { caller = 0; step = step } ∷ h) next r.own)
        → Shows machine cpus_of Own facts (record { caller = 0; step = step } ∷ h) (record {
          passes = record { begun = r.passes.begun; holders = set r.passes.holders slot 0 };
          own = r.own;
        })
    Shows-ends kept = record {
      legal = legal;
      begun =
          begun_in-main machine.role (record { caller = 0; step = step }) h refl
          ∙ ap (λ (t : Role). begun_after t (begun_in machine.role h)) ends ∙ shows.begun;
      one_each = length-set r.passes.holders _ 0 ∙ shows.one_each;
      hold = HoldPasses-ends machine facts (cpus_of facts) h (held_by r.passes.holders) slot q step
          (held_by (set r.passes.holders slot 0)) ends-in;
      own = kept (held_by (set r.passes.holders slot 0)) ends-in shows.own;
    }
