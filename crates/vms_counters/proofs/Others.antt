-- What holds of a CPU's volumes stands while no pass that lives owns the CPU, and when its pass ends.
use Rattle.std.proofs.Common.{◌≡◌, ◌≢◌, ℕ, true, List, [], ◌∷◌, ◌++◌, Some, sym, ◌∙◌, subst, arith}
use Rattle.vms_world.specs.Common.{CpuId, Event, IsFree, Machine, lives_in, own, owner_in}
use Rattle.vms_history.specs.Legal.{IsLegal}
use Rattle.vms_history.specs.PassSteps.{GoesOnWithout}
use Rattle.vms_history.proofs.Common.{holds_while_free, holds_while_live, legal_before, live_is_given, own-none}
use Rattle.vms_history.proofs.Common.{own-on_top, owner_is_caller, owner_is_given, prefix_is_legal}
use Rattle.vms_seats.specs.Common.{MainMakes}
use Rattle.vms_counters.specs.Owning.{GoesOnWithOthers}

module _ {F K S V : Type 0} (machine : Machine F K S) (Holds : F → List (Event K) → CpuId → V → Type 0)
    (others : GoesOnWithOthers machine Holds) (facts : F) (cpu : CpuId) (volumes : V) where
  abbrev Stands : List (Event K) → Type 0
  Stands h = Holds facts h cpu volumes

  -- the main pass owns no CPU
  main-apart : (h : List (Event K)) → IsLegal machine facts h → owner_in machine.role h 0 ≢ Some cpu
  main-apart h legal owns = let given = owner_is_given machine facts h 0 cpu legal owns in omega (arith, given.0)

  module _ (later earlier : List (Event K)) (step : K) (made : MainMakes machine facts later earlier step) where
    abbrev last : Event K
    last = record { caller = 0; step = step }

    legal-last : IsLegal machine facts (last ∷ made.before)
    legal-last = subst (IsLegal machine facts) made.newest made.legal

    legal-before : IsLegal machine facts made.before
    legal-before = legal_before machine facts last made.before legal-last

    stands-last : Stands made.before → Stands later
    stands-last holds = subst Stands (sym made.newest)
        (others facts cpu volumes last made.before (main-apart made.before legal-before) holds)

    -- of a CPU that is free
    pub stands-free : IsFree machine.role earlier (Some cpu) → Stands earlier → Stands later
    stands-free free holds =
        let more = made.extends.0 in
        let is = made.extends.1 in
        stands-last (subst Stands (sym is)
        (holds_while_free machine facts earlier (Some cpu) free Stands
        (λ e m legal main other before. others facts cpu volumes e (m ++ earlier) other before) holds more
        (subst (IsLegal machine facts) is legal-before)
        (own-on_top more earlier 0 [] (subst (λ (g : List (Event K)). own g 0 ≡ own earlier 0) is made.own_same))))

    -- of the CPU of a pass that made no step since
    pub stands-owned : (seen : List (Event K)) (p : ℕ) → GoesOnWithout machine facts made.before seen p
        → owner_in machine.role seen p ≡ Some cpu → Stands seen → Stands later
    stands-owned seen p goes owns holds =
        let more = goes.extends.0 in
        let is = goes.extends.1 in
        let legal : IsLegal machine facts (more ++ seen) = subst (IsLegal machine facts) is goes.legal in
        let given = live_is_given machine facts seen p (prefix_is_legal machine facts more seen legal) goes.lived in
        stands-last (subst Stands (sym is)
        (holds_while_live machine facts seen p Stands (λ es. es ≡ []) (λ e es none. absurd cc)
        (λ e m legal_then lives same none before.
        others facts cpu volumes e (m ++ seen) (λ acts_for. (own-none e m p none).0
        (owner_is_caller machine facts e (m ++ seen) p cpu legal_then lives (same ∙ owns) acts_for)) before)
        given.1 holds more legal
        (subst (λ (g : List (Event K)). lives_in machine.role g p ≡ true) is goes.lives)
        (own-on_top more seen p [] (subst (λ (g : List (Event K)). own g p ≡ own seen p) is goes.own_same))))
