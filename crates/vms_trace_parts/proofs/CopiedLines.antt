-- What lines print that stop nothing is their copy.
use Rattle.std.proofs.Common.{◌≡◌, ℕ, List, [], ◌++◌, None, refl, sym, ap, subst, ◌∙◌, append-nil}
use Rattle.std.specs.Prelude.{Result}
use Rattle.vms_base.specs.declared.headers.Header.{Header}
use Rattle.vms_header.specs.Common.{Fault, Opening, spelled_header}
use Rattle.vms_script.specs.Common.{BoundariesCut, LinesMakeOnePhase}
use Rattle.vms_stream.specs.Common.{halted, printed, state_after}
use Rattle.vms_command.specs.Common.{Body, Heading, LinesAbove}
use Rattle.vms_trace_parts.specs.Common.{TracePart, copied_text, copied_under}
use Rattle.vms_trace_parts.proofs.TextWalks.{Stood, counted, walk}
use Rattle.vms_trace_parts.proofs.PlainWays.{State, plain}
use Rattle.vms_trace_parts.proofs.UsedParts.{parts_made}

abbrev pub first : State
first = Heading 1 Opening

pub stood-first : (all : List (List ℕ)) → Stood all first [] [] all
stood-first all =
    record { none_done = refl; nothing = refl; above = 0; number = refl; after = refl; read = refl }

module _ (cuts : BoundariesCut) (one : LinesMakeOnePhase) where
  -- where lines that stop nothing lead
  pub stood-after : (lines : List (List ℕ)) → halted plain first lines ≡ None
      → Stood lines (state_after plain first lines) (parts_made first lines) (printed plain first lines) []
  stood-after lines none =
      walk lines cuts one lines [] first [] []
      (subst (λ (more : List (List ℕ)). Stood lines first [] [] more) (sym (append-nil lines)) (stood-first lines)) none

  -- what lines print that stop nothing is their copy
  pub stood-copied : (lines : List (List ℕ)) (s : State) (done : List TracePart) (out : List ℕ)
      → Stood lines s done out [] → out ≡ copied_text lines
  stood-copied lines (Heading n stage) done out stood =
      stood.nothing ∙ ap (λ (found : Result (Header × ℕ) Fault). copied_under found lines) stood.read
  stood-copied lines (Body n header above part) done out stood =
      stood.out_is
      ∙ ap (λ (come : LinesAbove). spelled_header header ++ counted header come.lines) stood.come
      ∙ ap (λ (found : Result (Header × ℕ) Fault). copied_under found lines) (sym stood.header_is)

  pub copied : (lines : List (List ℕ)) → halted plain first lines ≡ None → printed plain first lines ≡ copied_text lines
  copied lines none = stood-copied lines (state_after plain first lines) (parts_made first lines)
      (printed plain first lines) (stood-after lines none)
