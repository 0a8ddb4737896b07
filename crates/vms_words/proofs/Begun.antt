-- A pass that begins has seen its CPU spend what the main pass had seen.
use Rattle.std.proofs.Common.{◌≡◌, ℕ, List, ◌∷◌, Option, Some, None, refl, sym, ap, ◌∙◌, subst, arith}
use Rattle.vms_calls.specs.Common.{CpuId, owner_in, IsFree, Facts, Step, Split, pages, History, role, spent, spent_by}
use Rattle.vms_history.specs.Legal.{IsLegal}
use Rattle.vms_seats.specs.Common.{HasBegun, next_number, Pass}
use Rattle.vms_core.proofs.Common.{cpu-stands}
use Rattle.vms_words.specs.Common.{HoldsSpending, IsOwningPass}

module _ (new old pass : Pass Facts Step) (cpu : CpuId) (begun : HasBegun pages Split new old pass (Some cpu))
    (free : IsFree role old.seen (Some cpu)) where
  abbrev before : History
  before = begun.made.before

  legal_now : IsLegal pages old.facts
      (record { caller = 0; step = Split (next_number pages old.seen) (Some cpu) } ∷ before)
  legal_now = subst (IsLegal pages old.facts) begun.made.newest begun.made.legal

  spent-before : (k : ℕ) → spent before cpu.number k ≡ spent old.seen cpu.number k
  spent-before k =
      (cpu-stands old.facts before old.seen
      (record { legal = legal_now.0; extends = begun.made.extends; own_same = begun.made.own_same }) cpu free).volumes k

  spent-split : (who : Option CpuId) (q : ℕ) (k : ℕ) → spent_by who cpu.number k (Split q (Some cpu)) ≡ 0
  spent-split None q k = refl
  spent-split (Some d) q k = refl

  spent-same : (k : ℕ) → spent pass.seen cpu.number k ≡ spent old.seen cpu.number k
  spent-same k =
      let nothing = spent-split (owner_in role before 0) (next_number pages old.seen) k in
      let was = spent-before k in
      ap (λ h. spent h cpu.number k) (begun.seen ∙ begun.made.newest) ∙ omega (arith, nothing, was)

  pub owning-begun : (volume : List ℕ) → HoldsSpending old.facts.layout old.seen cpu.number volume
      → IsOwningPass pass cpu volume
  owning-begun volume holds = record {
    live = begun.live;
    owns = begun.cpu;
    holds = subst (λ facts. HoldsSpending facts.layout pass.seen cpu.number volume) (sym begun.facts) (record {
      one_each = holds.one_each;
      spent_within = λ k known. rw (spent-same k) (holds.spent_within k known);
      most = holds.most;
    });
  }
