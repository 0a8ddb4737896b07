-- For other crates too: of which kinds the steps of a call are that asks no rule.
use Rattle.std.proofs.Common.{◌≡◌, ℕ, false, ℤ, List, [], ◌∷◌, Option, Some, sym, subst}
use Rattle.std.specs.Prelude.{All}
use Rattle.std.proofs.lemmas.List.Elements.{All-cons, All-nil}
use Rattle.vms_calls.specs.Common.{Diffs, GroupId, Header, CounterId, CpuId, ItemId, PlaceId, Mode, ZoneSize, Shape}
use Rattle.vms_calls.specs.Common.{State, Step, AddG, AddS, LoadD, LoadT, Miss, Put, Carries, Exchanges, IsChange}
use Rattle.vms_calls.specs.Common.{History, HasWon, amount, nothing, missed, won}
use Rattle.vms_calls.specs.PageCalls.{IsPageCall, asks_rules, owns_cpu}
use Rattle.vms_calls.specs.declared.page_calls.PageAnswer.{PageAnswer}
use Rattle.vms_calls.specs.declared.page_calls.PageAnswer.TheVariants as answer
use Rattle.vms_calls.specs.declared.page_calls.PageCall.{PageCall}
use Rattle.vms_calls.specs.declared.page_calls.PageCall.TheVariants.{Change, Fold, Test, Value, Snapshot, System}
use Rattle.vms_calls.specs.declared.page_calls.PageCall.TheVariants.{SetPressure, SetNormal, Bury, Turn}
use Rattle.vms_calls.proofs.Common.{Each, OfFolds, OfLooks, OfRatings, each-append, fold-each, snapshot-each, test-each}

-- the steps of changes are of the kind
pub record OfChanges (Kind : Step → Type 0) : Type 0 where
  pub threshold : (g : PlaceId) (t a : ℕ) → Kind (LoadT g t a)
  pub group : (c : CpuId) (j : GroupId) (w : Diffs) → Kind (LoadD c j w)
  pub exchange : (k : CounterId) (w : Diffs) (t : ℕ) (delta : ℤ) (how : Mode) → Kind (Put k w t delta how)
  pub miss : (j : GroupId) (w : Diffs) → Kind (Miss j w)
  pub place : (k : CounterId) (z : ℤ) → Kind (AddG k z)
  pub system : (i : ItemId) (z : ℤ) → Kind (AddS i z)

module _ (Kind : Step → Type 0) where
  pub All-each : (steps : List Step) → Each Kind steps → All Kind steps
  All-each [] each = All-nil Kind
  All-each (step ∷ steps) each = All-cons Kind step steps each.0 (All-each steps each.1)

  module _ (of : OfChanges Kind) where
    additions-each : (shape : Shape) (k : CounterId) (z : ℤ) (steps : List Step) → Carries shape k z steps
        → Each Kind steps
    additions-each shape k z steps nothing = tt
    additions-each shape k z steps (amount a some) = (of.place _ _, (of.system _ _, tt))

    exchange-each : (k : CounterId) (w : Diffs) (t : ℕ) (delta : ℤ) (how : Mode) (last : Diffs) (steps : List Step)
        → Exchanges k w t delta how last steps → Each Kind steps
    exchange-each k w t delta how last steps won = (of.exchange _ _ _ _ _, tt)
    exchange-each k w t delta how last steps (missed zeros are) = (of.miss _ _, (of.exchange _ _ _ _ _, tt))

    pub change-each : (shape : Shape) (cpu : CpuId) (k : CounterId) (delta : ℤ) (how : Mode) (steps : List Step)
        → IsChange shape cpu k delta how steps → Each Kind steps
    change-each shape cpu k delta how steps change = subst (Each Kind) (sym change.in_order) (
      of.threshold _ _ _,
      (
        of.group _ _ _,
        each-append Kind change.exchange change.additions
            (exchange-each k change.first change.t delta how change.last change.exchange change.exchanges)
            (additions-each shape k _ change.additions change.carries),
      ),
    )

  module _ (looks : OfLooks Kind) (folds : OfFolds Kind) (changes : OfChanges Kind) (header : Header) (base : State)
      (pressure normal : ZoneSize → ℕ → ℕ → Type 0) where
    pub unruled-each : (call : PageCall) (owner : Option CpuId) (p : ℕ) (h : History) (steps : List Step)
        (told : PageAnswer) → asks_rules call ≡ false
        → IsPageCall header base pressure normal call owner p h steps told → Each Kind steps
    unruled-each (Change k delta how) (Some own) p h steps answer.Done asks is =
        change-each changes header.layout own k delta how steps is
    unruled-each (Fold c) owner p h steps answer.Done asks is =
        fold-each Kind folds header.layout (owns_cpu owner c) c steps is
    unruled-each (Test g mark most) owner p h steps (answer.Tested verdict) asks is =
        test-each Kind looks header g mark most steps verdict is
    unruled-each (Value k) owner p h steps (answer.Value pages) asks is =
        subst (Each Kind) (sym is.in_order) (looks.value k is.value, tt)
    unruled-each (Snapshot k) owner p h steps (answer.Snapshot pages) asks is =
        snapshot-each Kind looks header.layout k steps pages is
    unruled-each (System i) owner p h steps (answer.System pages) asks is =
        subst (Each Kind) (sym is.in_order) (looks.system i is.value, tt)
    unruled-each (SetPressure n) owner p h steps told asks is = absurd cc
    unruled-each (SetNormal n) owner p h steps told asks is = absurd cc
    unruled-each (Bury c) owner p h steps told asks is = absurd cc
    unruled-each (Turn n order most) owner p h steps told asks is = absurd cc
    unruled-each _ _ p h steps _ asks is = absurd is

-- no step of a call but a change is a lost exchange
looks-won : OfLooks HasWon
looks-won = record {
  value = λ k v. tt;
  system = λ i v. tt;
  group = λ c j w. tt;
  mark = λ g m a. tt;
  cpu = λ c x. tt;
}

pub ratings-won : OfRatings HasWon
ratings-won = record {
  looks = looks-won;
  acknowledged = λ c g x. tt;
  threshold = λ c g t. tt;
  set_mark = λ g m. tt;
}

pub folds-won : OfFolds HasWon
folds-won = record {
  threshold = λ g t a. tt;
  take = λ c j w. tt;
  place = λ k z. tt;
  system = λ i z. tt;
  acknowledge = λ g a. tt;
}
