-- What registers, walks and tests say, where their arguments are known to be others.
use Rattle.std.proofs.Common.{◌≡◌, ◌≢◌, ℕ, ◌+◌, ◌<◌, ◌^◌, List, ◌∷◌, length, Option, Some, None, refl, sym, subst}
use Rattle.std.specs.Prelude.{MatchOption}
use Rattle.vms_world.specs.Common.{Facts, Header, State, Step, facts_of, pages}
use Rattle.vms_core.specs.Pages.{History, IsLegal}
use Rattle.vms_registers.specs.Shows.{Parts}
use Rattle.vms_page_registers.specs.declared.registers.PageRegisters.{PageRegisters}
use Rattle.vms_phase_checks.specs.Common.{ShowsPages}

-- the registers after a step
abbrev pub TakesShown : Facts → ℕ → Step → Parts PageRegisters → Parts PageRegisters → Type 0
TakesShown facts pass step r next = (h : History) → ShowsPages facts h r
    → IsLegal facts (record { caller = pass; step = step } ∷ h) → length h + 1 < 2 ^ 64
    → ShowsPages facts (record { caller = pass; step = step } ∷ h) next

pub shown-next : (facts : Facts) (header : Header) (s : State) → facts ≡ facts_of header s → (pass caller : ℕ)
    → pass ≡ caller → (step : Step) (r next : Parts PageRegisters) → TakesShown facts pass step r next
    → TakesShown (facts_of header s) caller step r next
shown-next facts header s same pass caller pass-is step r next takes =
    subst (λ (f : Facts). TakesShown f caller step r next) same
    (subst (λ (p : ℕ). TakesShown facts p step r next) pass-is takes)

-- what holds at one place and value holds at those that are the same
pub moved : {A B : Type 0} (P : A → B → Type 0) (a b : A) (x y : B) → a ≡ b → x ≡ y → P b y → P a x
moved {A} {B} P a b x y first second holds =
    subst (λ (c : A). P c x) (sym first) (subst (λ (z : B). P b z) (sym second) holds)

module _ {X : Type 0} where
  pub none-is : (x : Option X) → ((v : X) → x ≢ Some v) → x ≡ None
  none-is None other = refl
  none-is (Some v) other = absurd (other v refl)

  pub match-none : (x : Option X) (A : Type 0) (B : X → Type 0) → ((v : X) → x ≢ Some v) → MatchOption x A B → A
  match-none None A B other is = is
  match-none (Some v) A B other is = absurd (other v refl)

  pub match-some : (x : Option X) (A : Type 0) (B : X → Type 0) (v : X) → x ≡ Some v → MatchOption x A B → B v
  match-some None A B v same is = absurd cc
  match-some (Some w) A B v same is = let one : w ≡ v = cc in subst B one is
