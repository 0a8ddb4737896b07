-- For other crates too: while no pass that owns a CPU lives and the main pass makes no event, nobody acts for that CPU;
-- the same of the control pass.
use Rattle.std.proofs.Common.{◌≡◌, ◌≢◌, List, [], ◌∷◌, ◌++◌, Option, ap, sym, subst, ◌∙◌, append_assoc}
use Rattle.vms_base.specs.declared.ids.CpuId.{CpuId}
use Rattle.vms_history.specs.declared.events.Event.{Event}
use Rattle.vms_history.specs.Common.{own, Machine, IsLegal, lives, owner, owner_in, IsFree}
use Rattle.vms_history.proofs.Own.{own-none, own-append}
use Rattle.vms_history.proofs.PassLaws.{caller_lives}
use Rattle.vms_history.proofs.Prefixes.{legal_before, acts_of, prefix_is_legal}

module _ {F K S : Type 0} (machine : Machine F K S) (facts : F) (h : List (Event K)) (who : Option CpuId)
    (free : IsFree machine.role h who) where
  -- the next event is by another than the main pass and than an owner of `who`
  next_is_elsewhere : (e : Event K) (m : List (Event K)) → IsLegal machine facts (e ∷ (m ++ h)) → own (e ∷ m) 0 ≡ []
      → owner_in machine.role (m ++ h) e.caller ≢ who
  next_is_elsewhere e m legal none owns =
      let parts = own-none e m 0 none in
      let same : own (m ++ h) 0 ≡ own h 0 = own-append m h 0 ∙ ap (λ es. es ++ own h 0) parts.1 in
      let lived = caller_lives machine facts (m ++ h) e.caller (machine.role e.step)
      (acts_of machine facts e (m ++ h) legal) parts.0 in
      free e.caller (sym (ap (λ es. lives machine.role es e.caller) same) ∙ lived)
      (sym (ap (λ es. owner machine.role es e.caller) same) ∙ owns)

  -- what holds after each step of others still holds
  pub holds_while_free : (Holds : List (Event K) → Type 0)
      → ((e : Event K) (m : List (Event K)) → IsLegal machine facts (e ∷ (m ++ h)) → e.caller ≢ 0
      → owner_in machine.role (m ++ h) e.caller ≢ who → Holds (m ++ h) → Holds (e ∷ (m ++ h)))
      → Holds h → (m : List (Event K)) → IsLegal machine facts (m ++ h) → own m 0 ≡ [] → Holds (m ++ h)
  holds_while_free Holds step holds [] legal none = holds
  holds_while_free Holds step holds (e ∷ m) legal none =
      let parts = own-none e m 0 none in
      step e m legal parts.0 (next_is_elsewhere e m legal none)
      (holds_while_free Holds step holds m (legal_before machine facts e (m ++ h) legal) parts.1)

  pub no_owner_acts : (e : Event K) (more rest : List (Event K)) → IsLegal machine facts ((more ++ (e ∷ rest)) ++ h)
      → own (more ++ (e ∷ rest)) 0 ≡ [] → owner_in machine.role (rest ++ h) e.caller ≢ who
  no_owner_acts e more rest legal none =
      next_is_elsewhere e rest
      (prefix_is_legal machine facts more (e ∷ (rest ++ h))
      (subst (IsLegal machine facts) (append_assoc more (e ∷ rest) h) legal))
      (back (own more 0) (sym (own-append more (e ∷ rest) 0) ∙ none))
    where
      back : (front : List (Event K)) → front ++ own (e ∷ rest) 0 ≡ [] → own (e ∷ rest) 0 ≡ []
      back [] is = is
      back (d ∷ front) is = absurd cc
