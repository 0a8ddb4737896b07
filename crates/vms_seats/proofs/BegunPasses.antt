-- What the main pass counts of others stands when it begins a pass: no number of a CPU that nobody owns changes.
use Rattle.std.proofs.Common.{◌≡◌, ℕ, List, [], ◌∷◌, ◌++◌, Option, ap, sym, ◌∙◌, subst}
use Rattle.vms_history.specs.Common.{CpuId, own, Machine, IsLegal}
use Rattle.vms_history.specs.declared.events.Event.{Event}
use Rattle.vms_history.proofs.Common.{own-on_top}
use Rattle.vms_seats.specs.Common.{HasBegun, next_number, Pass}

module _ {F K S : Type 0} (machine : Machine F K S) (begins : ℕ → Option CpuId → K) (new old pass : Pass F K)
    (who : Option CpuId) (begun : HasBegun machine begins new old pass who) where
  -- a number that neither the step by which the pass begins nor what others do before it changes
  pub begun-keeps : (number : List (Event K) → ℕ)
      → ((h : List (Event K))
      → number (record { caller = 0; step = begins (next_number machine old.seen) who } ∷ h) ≡ number h)
      → ((m : List (Event K)) → IsLegal machine old.facts (m ++ old.seen) → own m 0 ≡ []
      → number (m ++ old.seen) ≡ number old.seen)
      → number new.seen ≡ number old.seen
  begun-keeps number step others =
      let m = begun.made.extends.0 in
      let is = begun.made.extends.1 in
      ap number begun.made.newest ∙ step begun.made.before ∙ ap number is
      ∙ others m
      (subst (IsLegal machine old.facts) is (subst (IsLegal machine old.facts) begun.made.newest begun.made.legal).0)
      (own-on_top m old.seen 0 [] (ap (λ g. own g 0) (sym is) ∙ begun.made.own_same))
