-- Whether a phase may begin.
use Rattle.std.proofs.Common.{◌≡◌, ◌≢◌, ℕ, suc, ◌<◌, ◌≤◌, List, [], ◌∷◌, length, get_or, drop, refl, sym, subst, ◌∙◌}
use Rattle.std.proofs.Common.{◌⊎◌, inl, inr, arith}
use Rattle.std.proofs.lemmas.Bool.{cases_eq}
use Rattle.std.specs.Prelude.{Option, Some, None, Result, Ok, Err, IsErrAnd}
use Rattle.std.proofs.Math.ListN.{drop_of_length-le}
use Rattle.std.proofs.Math.Seq.{drop-cons}
use Rattle.vms_world.specs.Common.{Act, Header, Item, Lane, Segment, State, ZoneSize}
use Rattle.vms_core.specs.Pages.{History}
use Rattle.vms_written_lines.specs.declared.lines.WrittenLine.TheVariants.{Phase as PhaseLine}
use Rattle.vms_phase_checks.specs.declared.checks.PhaseCheck.{PhaseCheck}
use Rattle.vms_phase_checks.specs.declared.faults.EventCause.TheVariants.{Incomplete, NotInScript}
use Rattle.vms_history_checks.specs.declared.checks.HistoryCheck.{HistoryCheck}
use Rattle.vms_history_checks.specs.declared.errors.CheckError.{CheckError}
use Rattle.vms_history_checks.specs.declared.errors.CheckError.TheVariants.{Memory}
use Rattle.vms_history_checks.specs.Accepts.{IsAt, IsLineFault, IsWholeAt, MayBegin}
use Rattle.vms_history_checks.specs.Bounds.{scripts_of}
use Rattle.vms_history_checks.specs.Says.{IsSaidError, Says}

-- a number that isn't the last
pub less : (n m k : ℕ) → n ≤ m → k ≡ m → (n ≡ k → ⊥) → n < m
less n m k within same apart = by (cases_eq n m)
  where
    by : (n ≡ m) ⊎ (n ≢ m) → n < m
    by (inl is) = absurd (apart (is ∙ sym same))
    by (inr isnt) = omega (arith, within, isnt)

-- none is left, or one
pub none-left : (scripts : List (List Item)) (n : ℕ) (left : List Segment) → n ≡ length scripts
    → drop n scripts ≡ scripts_of left → scripts_of left ≡ []
none-left scripts n left past is = sym is ∙ drop_of_length-le scripts (omega (arith, past))

pub some-left : (scripts : List (List Item)) (n : ℕ) (left : List Segment) → n < length scripts
    → drop n scripts ≡ scripts_of left → scripts_of left ≢ []
some-left scripts n left within is none =
    let one : [] ≡ get_or scripts n [] ∷ drop (suc n) scripts = sym (is ∙ none) ∙ drop-cons scripts n [] within in
    absurd cc

module _ {W : Type 0} (Stands : Header → State → Lane → ℕ → List Act → History → W → Type 0)
    (pressure normal : ZoneSize → ℕ → ℕ → Type 0) (header : Header) (segments : List Segment) where
  abbrev At : List History → Option (PhaseCheck W) → List Segment → Type 0
  At = IsAt Stands pressure normal header segments

  abbrev WholeAt : (hs : List History) (phase : Option (PhaseCheck W)) (left : List Segment) → At hs phase left → Type 0
  WholeAt = IsWholeAt Stands pressure normal header segments

  pub past-last : (hs : List History) (phase : Option (PhaseCheck W)) (left : List Segment) → At hs phase left
      → scripts_of left ≡ [] → IsLineFault pressure normal header segments hs (Some PhaseLine) NotInScript
  past-last [] None left at none = (refl, subst (λ (xs : List Segment). scripts_of xs ≡ []) at none)
  past-last [] (Some check) left at none = absurd at
  past-last (h ∷ older) None left at none = absurd at
  past-last (h ∷ older) (Some check) left at none = (at.s, at.items, left, at.begins, none)

  pub too-early : (hs : List History) (phase : Option (PhaseCheck W)) (left : List Segment) (at : At hs phase left)
      → scripts_of left ≢ [] → (WholeAt hs phase left at → ⊥)
      → IsLineFault pressure normal header segments hs (Some PhaseLine) Incomplete
  too-early [] None left at some unfinished = absurd (unfinished tt)
  too-early [] (Some check) left at some unfinished = absurd at
  too-early (h ∷ older) None left at some unfinished = absurd at
  too-early (h ∷ older) (Some check) left at some unfinished = (at.s, at.items, left, at.begins, (some, unfinished))

  pub may-begin : (hs : List History) (phase : Option (PhaseCheck W)) (left : List Segment) (at : At hs phase left)
      → scripts_of left ≢ [] → WholeAt hs phase left at → MayBegin pressure normal header segments hs
  may-begin [] None left at some whole = subst (λ (xs : List Segment). scripts_of xs ≢ []) at some
  may-begin [] (Some check) left at some whole = absurd at
  may-begin (h ∷ older) None left at some whole = absurd at
  may-begin (h ∷ older) (Some check) left at some whole = (at.s, at.items, left, at.begins, some, whole)

  -- where there is no memory for it
  pub says-memory : (hs : List History) (check : HistoryCheck W) → MayBegin pressure normal header segments hs
      → (result : Result (Unit {0}) CheckError) → IsErrAnd result (λ error. error ≡ Memory)
      → Says Stands pressure normal header segments hs (Some PhaseLine) check check result
  says-memory hs check may (Ok x) told = absurd told
  says-memory hs check may (Err error) told =
      (refl, subst (IsSaidError Stands pressure normal header segments hs (Some PhaseLine)) (sym told) (refl, may))
