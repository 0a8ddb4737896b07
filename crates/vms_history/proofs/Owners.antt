-- For other crates too: what legal histories say of the passes that own a CPU.
use Rattle.std.proofs.Common.{◌≡◌, ℕ, ◌<◌, ◌≤◌, ◌==◌, cond, Bool, true, false, List, [], ◌∷◌, Some, inl, inr, sym, ap}
use Rattle.std.proofs.Common.{subst, ◌∙◌, arith}
use Rattle.std.proofs.lemmas.Bool.{cases_lt}
use Rattle.vms_base.specs.declared.ids.CpuId.{CpuId}
use Rattle.vms_history.specs.declared.events.Event.{Event}
use Rattle.vms_history.specs.Common.{Role, begun_in, lives_in, owner_after, owner_in, Works, Begins, Ends, Machine}
use Rattle.vms_history.specs.Common.{IsLegal, Acts}
use Rattle.vms_history.proofs.Prefixes.{legal_before, acts_of}
use Rattle.vms_history.proofs.PassLaws.{owner_in-not_given, owner_in-role, owner_acts_alone}

-- two names of one number are one CPU
pub same_cpu : (d c : CpuId) → d.number ≡ c.number → d ≡ c
same_cpu d c same = ap (λ n. let o : CpuId = record { number = n } in o) same

module _ {F K S : Type 0} (machine : Machine F K S) (facts : F) where
  -- a pass owns a CPU only where the table lets it
  pub owner_may_own : (h : List (Event K)) (q : ℕ) (c : CpuId) → IsLegal machine facts h
      → owner_in machine.role h q ≡ Some c → machine.MayOwn facts (Some c)
  owner_may_own [] q c legal owns = absurd cc
  owner_may_own (e ∷ h) q c legal owns =
      let acts = acts_of machine facts e h legal in
      by (machine.role e.step) acts (owner_may_own h q c (legal_before machine facts e h legal))
      (sym (owner_in-role machine facts e h q acts) ∙ owns)
    where
      by : (t : Role) → Acts machine facts h e.caller t
          → (owner_in machine.role h q ≡ Some c → machine.MayOwn facts (Some c))
          → owner_after t q (owner_in machine.role h q) ≡ Some c → machine.MayOwn facts (Some c)
      by Works may before is = before is
      by (Begins r who) may before is = at (r == q) is
        where
          at : (b : Bool) → cond b who (owner_in machine.role h q) ≡ Some c → machine.MayOwn facts (Some c)
          at true new = subst (machine.MayOwn facts) new may.2
          at false old = before old
      by (Ends r) may before is = before is

  -- who owns a CPU has been given a number
  pub owner_is_given : (h : List (Event K)) (q : ℕ) (c : CpuId) → IsLegal machine facts h
      → owner_in machine.role h q ≡ Some c → (0 < q) × (q ≤ begun_in machine.role h)
  owner_is_given h q c legal owns =
      elim (cases_lt 0 q) [
        | inl some ↦ elim (cases_lt (begun_in machine.role h) q) [
          | inl later ↦ absurd (not_given (λ given. let most = given.1 in omega arith))
          | inr given ↦ (some, given)
        ]
        | inr main ↦ absurd (not_given (λ given. let least = given.0 in omega arith))
      ]
    where
      not_given : ((0 < q) × (q ≤ begun_in machine.role h) → ⊥) → ⊥
      not_given none = let owns_none = owner_in-not_given machine facts h q legal none in let both =
          sym owns ∙ owns_none in cc

  -- who acts for the CPU of a pass that lives is that pass
  pub owner_is_caller : (e : Event K) (h : List (Event K)) (p : ℕ) (c : CpuId) → IsLegal machine facts (e ∷ h)
      → lives_in machine.role h p ≡ true → owner_in machine.role h p ≡ Some c
      → owner_in machine.role h e.caller ≡ Some c → e.caller ≡ p
  owner_is_caller e h p c legal lives owns acts_for =
      let given = owner_is_given h e.caller c (legal_before machine facts e h legal) acts_for in
      owner_acts_alone machine facts e h p legal (omega (arith, given.0)) lives (acts_for ∙ sym owns)
