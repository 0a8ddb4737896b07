-- For other crates too: how a job takes a line, and comes to its end, with one outcome at most.
use Rattle.std.proofs.Common.{◌≡◌, ℕ, Bool, true, false, List, [], ◌∷◌, ◌++◌, Option, Some, None, is_some, Ok, Err}
use Rattle.std.proofs.Common.{Result, refl, sym, ap, subst, ◌∙◌}
use Rattle.std.specs.Prelude.{IfOk}
use Rattle.vms_stream.specs.declared.statuses.Status.{Status}
use Rattle.vms_stream.specs.declared.statuses.Status.TheVariants.{Header, TooLong}
use Rattle.vms_stream.specs.Common.{state_after, Closes, TakesLines, PhasedBehavior, ending_at, halt_at, printed_at}
use Rattle.vms_stream.specs.Common.{printed_from, printed_last, supply, way_after, with_outcomes, Gives, On}
use Rattle.vms_stream.specs.Common.{OutcomesLead, UsedAtEnd, leads_on, none_after, ClosesPhased, Grows, MayGive}
use Rattle.vms_stream.specs.Common.{StandsOn, TakesPhased, at_most_one, shown_on, shown_with}
use Rattle.vms_stream.proofs.TakenLines.{TakesLines-exceeding, TakesLines-one, TakesLines-answered}
use Rattle.vms_stream.proofs.LeadingOutcomes.{OutcomesLead-none, none_after-used}
use Rattle.vms_stream.proofs.LongerWays.{StandsOn-also}

-- a phase that ends gets the outcome that is given
supply-given : {O : Type 0} (ends : Bool) (given : Option O) → ends ≡ is_some given
    → supply ends (at_most_one given) ≡ Gives given []
supply-given false None is = refl
supply-given true None is = absurd cc
supply-given false (Some outcome) is = absurd cc
supply-given true (Some outcome) is = refl

module _ {S O : Type 0} (phased : PhasedBehavior S O) where
  OutcomesLead-given : (s : S) (line : List ℕ) (given : Option O)
      → MayGive (phased.ends_phase s line) (phased.Allows s line) given
      → OutcomesLead phased s (at_most_one given) (line ∷ [])
  OutcomesLead-given s line None may = OutcomesLead-none phased s (line ∷ [])
  OutcomesLead-given s line (Some outcome) may =
      subst (λ (ends : Bool). leads_on ends (outcome ∷ []) (phased.Allows s line)
      (λ given left. none_after (phased.halts s line given) left
      (OutcomesLead phased (phased.next s line given) left [])))
      (sym may.0) (
        may.1,
        none_after-used phased (phased.halts s line (Some outcome))
            (OutcomesLead phased (phased.next s line (Some outcome)) [] []) refl,
      )

  UsedAtEnd-given : (s : S) (given : Option O) → MayGive (phased.ends_last s) (phased.AllowsLast s) given
      → UsedAtEnd phased s (at_most_one given)
  UsedAtEnd-given s None may = by (phased.ends_last s)
    where
      by : (ends : Bool) → leads_on {O = O} ends [] (phased.AllowsLast s) (λ given left. left ≡ [])
      by false = refl
      by true = tt
  UsedAtEnd-given s (Some outcome) may =
      subst (λ (ends : Bool). leads_on ends (outcome ∷ []) (phased.AllowsLast s) (λ given left. left ≡ []))
      (sym may.0) (may.1, refl)

  -- a line with the outcome of the phase that ends there, if one does
  module _ (stands' : S → Type 0) (s : S) (line out out' : List ℕ) (given : Option O)
      (ended : phased.ends_phase s line ≡ is_some given) where
    abbrev got : supply (phased.ends_phase s line) (at_most_one given) ≡ Gives given []
    got = supply-given (phased.ends_phase s line) given ended

    pub TakesLines-given : phased.halts s line given ≡ None → out' ≡ out ++ phased.prints s line given
        → stands' (phased.next s line given)
        → TakesLines (with_outcomes phased (at_most_one given)) (StandsOn stands') (On s (at_most_one given))
        (line ∷ []) None out out'
    TakesLines-given none prints stands =
        TakesLines-one (with_outcomes phased (at_most_one given)) (StandsOn stands') (On s (at_most_one given)) line
        out out' (ap (halt_at phased s line) got ∙ none)
        (prints ∙ ap (λ (bytes : List ℕ). out ++ bytes) (sym (ap (printed_at phased s line) got)))
        (subst (StandsOn stands') (sym (ap (way_after phased s line) got)) (stands, refl))

    pub TakesLines-given_answered : (halt : Status)
        → ((text later : List ℕ) → printed_from (Some halt) text later ≡ text)
        → phased.halts s line given ≡ Some halt → out' ≡ out ++ phased.prints s line given
        → TakesLines (with_outcomes phased (at_most_one given)) (StandsOn stands') (On s (at_most_one given))
        (line ∷ []) (Some halt) out out'
    TakesLines-given_answered halt told stopped prints =
        TakesLines-answered (with_outcomes phased (at_most_one given)) (StandsOn stands') halt told
        (On s (at_most_one given)) line out out' (ap (halt_at phased s line) got ∙ stopped)
        (prints ∙ ap (λ (bytes : List ℕ). out ++ bytes) (sym (ap (printed_at phased s line) got)))

    pub TakesLines-given_refused : phased.halts s line given ≡ Some Header → out' ≡ out ++ phased.prints s line given
        → TakesLines (with_outcomes phased (at_most_one given)) (StandsOn stands') (On s (at_most_one given))
        (line ∷ []) (Some Header) out out'
    TakesLines-given_refused = TakesLines-given_answered Header (λ text later. refl)

    pub TakesLines-given_exceeding : phased.halts s line given ≡ Some TooLong → out' ≡ out
        → TakesLines (with_outcomes phased (at_most_one given)) (StandsOn stands') (On s (at_most_one given))
        (line ∷ []) (Some TooLong) out out'
    TakesLines-given_exceeding exceeding same =
        TakesLines-exceeding (with_outcomes phased (at_most_one given)) (StandsOn stands') (On s (at_most_one given))
        line out out' (ap (halt_at phased s line) got ∙ exceeding) same

  module _ {E : Type 0} (made made' : Option (List O)) (line out out' : List ℕ)
      (result : Result (Option Status) E) where
    pub TakesPhased-given : (stands stands' : S → Type 0) (given : Option O) → Grows made made' (at_most_one given)
        → ((s : S) → stands s → MayGive (phased.ends_phase s line) (phased.Allows s line) given)
        → IfOk result (λ halt. (s : S) → stands s →
        TakesLines (with_outcomes phased (at_most_one given)) (StandsOn stands') (On s (at_most_one given))
        (line ∷ []) halt out out')
        → TakesPhased phased stands stands' made made' line result out out'
    TakesPhased-given stands stands' given grows may goes = record {
      outcomes = at_most_one given;
      grows = grows;
      leads = λ s here. OutcomesLead-given s line given (may s here);
      goes = goes;
    }

    -- where the job stands in fewer states before, and in more after
    pub TakesPhased-also : (stands stands' before after : S → Type 0) → ((s : S) → before s → stands s)
        → ((s : S) → stands' s → after s) → TakesPhased phased stands stands' made made' line result out out'
        → TakesPhased phased before after made made' line result out out'
    TakesPhased-also stands stands' before after first last took = record {
      outcomes = took.outcomes;
      grows = took.grows;
      leads = λ s here. took.leads s (first s here);
      goes = by result took.goes;
    }
      where
        by : (r : Result (Option Status) E)
            → IfOk r (λ halt. (s : S) → stands s →
            TakesLines (with_outcomes phased took.outcomes) (StandsOn stands') (On s took.outcomes) (line ∷ [])
            halt out out')
            → IfOk r (λ halt. (s : S) → before s →
            TakesLines (with_outcomes phased took.outcomes) (StandsOn after) (On s took.outcomes) (line ∷ [])
            halt out out')
        by (Ok halt) goes = λ s here.
            let takes = goes s (first s here) in
            record {
              halt_of = takes.halt_of;
              prints = takes.prints;
              stands_after = λ none. StandsOn-also stands' after
                  (state_after (with_outcomes phased took.outcomes) (On s took.outcomes) (line ∷ [])) last
                  (takes.stands_after none);
            }
        by (Err error) goes = tt

  module _ {E : Type 0} (shows : S → Option O → Type 0) (made made' : Option (List O)) (out out' : List ℕ)
      (result : Result Status E) where
    pub ClosesPhased-given : (stands : S → Type 0) (given : Option O) → Grows made made' (at_most_one given)
        → ((s : S) → stands s → MayGive (phased.ends_last s) (phased.AllowsLast s) given)
        → IfOk result (λ ending. (s : S) → stands s →
        Closes (with_outcomes phased (at_most_one given)) (shown_on phased shows) (On s (at_most_one given)) ending
        out out')
        → ClosesPhased phased stands shows made made' result out out'
    ClosesPhased-given stands given grows may goes = record {
      outcomes = at_most_one given;
      grows = grows;
      leads = λ s here. UsedAtEnd-given s given (may s here);
      goes = goes;
    }

    pub ClosesPhased-also : (stands before : S → Type 0) → ((s : S) → before s → stands s)
        → ClosesPhased phased stands shows made made' result out out'
        → ClosesPhased phased before shows made made' result out out'
    ClosesPhased-also stands before first closed = record {
      outcomes = closed.outcomes;
      grows = closed.grows;
      leads = λ s here. closed.leads s (first s here);
      goes = by result closed.goes;
    }
      where
        by : (r : Result Status E)
            → IfOk r (λ ending. (s : S) → stands s →
            Closes (with_outcomes phased closed.outcomes) (shown_on phased shows) (On s closed.outcomes) ending
            out out')
            → IfOk r (λ ending. (s : S) → before s →
            Closes (with_outcomes phased closed.outcomes) (shown_on phased shows) (On s closed.outcomes) ending
            out out')
        by (Ok ending) goes = λ s here. goes s (first s here)
        by (Err error) goes = tt

  pub Closes-given : (shows : S → Option O → Type 0) (s : S) (given : Option O) (ending : Status) (out out' : List ℕ)
      → phased.ends_last s ≡ is_some given → ending ≡ phased.ends s given → out' ≡ out ++ phased.last s given
      → shows s given
      → Closes (with_outcomes phased (at_most_one given)) (shown_on phased shows) (On s (at_most_one given)) ending
      out out'
  Closes-given shows s given ending out out' ended ends prints shown =
      let got = supply-given (phased.ends_last s) given ended in
      record {
        ends = ends ∙ sym (ap (ending_at phased s) got);
        prints = prints ∙ ap (λ (bytes : List ℕ). out ++ bytes) (sym (ap (printed_last phased s) got));
        shown = subst (shown_with shows s) (sym got) shown;
      }
