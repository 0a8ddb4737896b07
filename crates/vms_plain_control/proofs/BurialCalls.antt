-- A burial: a fold, a CPU that becomes absent, and a refresh.
use Rattle.std.proofs.Common.{◌≡◌, ℕ, if◌then◌else◌, false, pos, List, [], ◌∷◌, ◌++◌, None, refl, sym, ap, subst, ◌∙◌}
use Rattle.std.proofs.Common.{eq-eqb}
use Rattle.vms_calls.specs.Common.{Header, CpuId, CpuState, Absent, Dead, ZoneSize, state_at, Shape, IsCpu, IsCounter}
use Rattle.vms_calls.specs.Common.{after, GoesOnTo, LeadsOn, State, SetO, cpu_at, diff_at, with_cpu, pages, IsFold}
use Rattle.vms_calls.specs.Common.{facts_of, MakesFold, Buries, Refreshes}
use Rattle.vms_history.proofs.Common.{after-steps, LeadsOn-append, call-goes_on}
use Rattle.vms_calls.specs.MayMake as making
use Rattle.vms_calls.proofs.Common.{fold-each}
use Rattle.vms_plain_pages.specs.Common.{CallLeadsAlone, FoldsCpu, pages_by_state, pages_are_by_state}
use Rattle.vms_plain_control.specs.Common.{ControlMakes, MakesUnladenCall, KnowsPeaks}
use Rattle.vms_plain_control.proofs.ControlledHistories.{Controls-after, GoesOnTo-both, absent-goes_on}
use Rattle.vms_plain_control.proofs.UntouchedPeaks.{KnowsPeaks-left, LeavesPeaks, folds-leave}

module _ (header : Header) (c : CpuId) (s folded : State) (folds : FoldsCpu header.layout false c.number s folded) where
  abbrev shape : Shape
  shape = header.layout

  -- the state in which the CPU is absent
  abbrev pub buried : State
  buried = with_cpu folded c.number Absent

  folded-cpus : folded.cpu ≡ s.cpu
  folded-cpus = ap (λ (x : State). x.cpu) folds.rest

  folded-zeros : IsCpu shape c.number → (k : ℕ) → IsCounter shape k → diff_at folded c.number k ≡ pos 0
  folded-zeros c_in k k_in = folds.diffs c.number k c_in k_in
      ∙ ap (λ b. if b then pos 0 else diff_at s c.number k) (eq-eqb c.number c.number refl)

  module _ (peaks known : List ℕ) (next : State) (normal : ZoneSize → ℕ → ℕ → Type 0) (c_in : IsCpu shape c.number)
      (dead : cpu_at s c.number ≡ Dead) (may_fold : MakesFold)
      (made : CallLeadsAlone None (IsFold shape false c) s folded)
      (refreshes : ControlMakes header
      (λ base p h steps. Refreshes (facts_of header base) normal p h steps) buried peaks
      next known) where
    pub burial-makes : MakesUnladenCall header (λ base p h steps. Buries (facts_of header base) normal c p h steps) s
        peaks next known
    burial-makes base h p controls unladen =
        let facts = facts_of header base in
        let fold = made.0 in
        let set = SetO c ∷ [] in
        let begun = after p fold h in
        let first : GoesOnTo pages facts p fold h folded =
        call-goes_on pages making.Tells pages_by_state pages_are_by_state facts p None h
        (λ ks. IsFold shape false c ks) fold folded controls.control.living.legal controls.control.living.lives
        controls.control.control
        (may_fold facts h p false c controls.control.living c_in (λ is. absurd cc) unladen) made.1
        (subst (λ (x : State). LeadsOn pages_by_state None fold x folded) (sym controls.stands) made.2) in
        let one = Controls-after header base h p s peaks controls fold folded peaks first
        (KnowsPeaks-left facts p fold (fold-each LeavesPeaks folds-leave shape false c fold made.1)
        h peaks controls.known) in
        let second = absent-goes_on header base begun p folded peaks one c c_in
        (ap (λ (xs : List CpuState). state_at xs c.number) folded-cpus ∙ dead) (folded-zeros c_in) in
        let two = Controls-after header base begun p folded peaks one set buried peaks second
        (KnowsPeaks-left facts p set (tt, tt) begun peaks one.known) in
        let last = refreshes base (after p set begun) p two in
        let steps = fold ++ (SetO c ∷ last.0) in
        let come : after p (fold ++ set) h ≡ after p set begun = after-steps p fold set h in
        let whole : after p steps h ≡ after p last.0 (after p set begun) =
        after-steps p fold (SetO c ∷ last.0) h in (
          steps,
          record {
            fold = fold;
            folds = made.1;
            refresh = last.0;
            refreshes = subst (λ k. Refreshes facts normal p k last.0) (sym come) last.1;
            in_order = refl;
          },
          LeadsOn-append pages_by_state None fold (SetO c ∷ last.0) s folded next made.2 (tt, last.2),
          GoesOnTo-both facts p fold (SetO c ∷ last.0) h folded next first
              (record { legal = last.3.legal; state = last.3.state }),
          subst (λ k. KnowsPeaks facts k known) (sym whole) last.4,
        )
