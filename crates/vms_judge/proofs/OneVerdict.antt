-- At most one verdict is true of facts and events.
use Rattle.std.proofs.Common.{◌≡◌, ℕ, ◌+◌, ◌<◌, ◌≤◌, List, take, true≢false, refl, sym, ◌∙◌, ap, subst, arith, ⊎_elim}
use Rattle.std.specs.Prelude.{reverse}
use Rattle.std.proofs.lemmas.List.{take-take}
use Rattle.std.proofs.lemmas.Bool.{cases_lt}
use Rattle.vms_history.specs.declared.events.Event.{Event}
use Rattle.vms_history.specs.Common.{Machine, IsLegal, IsComplete}
use Rattle.vms_history.proofs.Common.{base_can_begin}
use Rattle.vms_judge.specs.declared.verdicts.Verdict.{Verdict}
use Rattle.vms_judge.specs.declared.verdicts.Verdict.TheVariants.{NoBase, Illegal, Open, Complete}
use Rattle.vms_judge.specs.Common.{IsFirstIllegal, IsOpen, IsVerdict}
use Rattle.vms_judge.proofs.Prefixes.{legal_first}

module _ {F K S : Type 0} (machine : Machine F K S) (facts : F) (events : List (Event K)) where
  -- an event after which a legal list stands isn't at fault
  legal_refuses : (n : ℕ) → IsLegal machine facts (reverse events) → IsFirstIllegal machine facts events n → ⊥
  legal_refuses n legal first = first.refused (legal_first machine facts events (n + 1) legal)

  -- nor is one before the first that is
  earlier_is_legal : (n m : ℕ) → IsFirstIllegal machine facts events n → IsFirstIllegal machine facts events m
      → n < m → ⊥
  earlier_is_legal n m first second before =
      first.refused (subst (λ es. IsLegal machine facts (reverse es)) (take-take (n + 1) m events (omega arith))
      (legal_first machine facts (take m events) (n + 1) second.before))

  same_number : (n m : ℕ) → IsFirstIllegal machine facts events n → IsFirstIllegal machine facts events m → n ≡ m
  same_number n m first second =
      ⊎_elim (λ (before : n < m). absurd (earlier_is_legal n m first second before))
      (λ (not_before : m ≤ n). ⊎_elim (λ (after : m < n). absurd (earlier_is_legal m n second first after))
      (λ (not_after : n ≤ m). omega arith) (cases_lt m n)) (cases_lt n m)

  not_both : IsOpen machine facts (reverse events) → IsComplete machine facts (reverse events) → ⊥
  not_both some none = true≢false (sym some.alive.1 ∙ none.ended some.alive.0)

  pub one_verdict : (first second : Verdict) → IsVerdict machine facts events first
      → IsVerdict machine facts events second → first ≡ second
  one_verdict NoBase NoBase is also = refl
  one_verdict NoBase (Illegal m) is also =
      absurd (is (base_can_begin machine facts (reverse (take m events)) also.before))
  one_verdict NoBase Open is also = absurd (is (base_can_begin machine facts (reverse events) also.legal))
  one_verdict NoBase Complete is also = absurd (is (base_can_begin machine facts (reverse events) also.legal))
  one_verdict (Illegal n) NoBase is also =
      absurd (also (base_can_begin machine facts (reverse (take n events)) is.before))
  one_verdict (Illegal n) (Illegal m) is also = ap Illegal (same_number n m is also)
  one_verdict (Illegal n) Open is also = absurd (legal_refuses n also.legal is)
  one_verdict (Illegal n) Complete is also = absurd (legal_refuses n also.legal is)
  one_verdict Open NoBase is also = absurd (also (base_can_begin machine facts (reverse events) is.legal))
  one_verdict Open (Illegal m) is also = absurd (legal_refuses m is.legal also)
  one_verdict Open Open is also = refl
  one_verdict Open Complete is also = absurd (not_both is also)
  one_verdict Complete NoBase is also = absurd (also (base_can_begin machine facts (reverse events) is.legal))
  one_verdict Complete (Illegal m) is also = absurd (legal_refuses m is.legal also)
  one_verdict Complete Open is also = absurd (not_both also is)
  one_verdict Complete Complete is also = refl
