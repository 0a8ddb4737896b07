-- The totals that a report prints are the plain sums.
use Rattle.std.proofs.Common.{◌≡◌, ℕ, ◌+◌, ◌<◌, List, [], ◌∷◌, ◌++◌, ℤ, length, refl, ap, ap₂, ◌∙◌, arith, flat_map}
use Rattle.std.proofs.Common.{append_assoc, sym, Some, Ok, Err}
use Rattle.std.specs.List.{enumerate_from}
use Rattle.std.specs.Prelude.{OnOk, Result}
use Rattle.vms_base.specs.declared.failures.Memory.{Memory}
use Rattle.vms_command.specs.Common.{line_prefix}
use Rattle.vms_group_core.specs.declared.states.GroupState.{GroupState}
use Rattle.vms_group_core.specs.declared.trees.Tree.{Tree}
use Rattle.vms_group_core.specs.Common.{as_is, standing, value_at}
use Rattle.vms_group_lines.specs.declared.headers.GroupHeader.{GroupHeader}
use Rattle.vms_group_lines.specs.Common.{IsGroupHeader}
use Rattle.vms_group_phase.specs.declared.worlds.GroupWorld.{GroupWorld}
use Rattle.vms_group_report.specs.Common.{group_lines, group_words, pending_under}
use Rattle.vms_stream.specs.Common.{Text}
use Rattle.vms_text.specs.Common.{sentence}
use Rattle.vms_groups.specs.declared.open_phases.OpenPhase.{OpenPhase}
use Rattle.vms_groups.specs.GroupStates.{PhaseStands}
use Rattle.vms_groups.specs.GroupTexts.{GroupsKept, report_lines}
use Rattle.vms_groups.specs.Common.{PastGroupPhase, plain_total}
use Rattle.vms_groups.proofs.EndedPhases.{Some-same}

module _ (tree : Tree) (w : GroupState) (f h : ℕ → ℤ) where
  lines-same : (k : ℕ) (names : List (List ℕ)) → ((g : ℕ) → g < k + length names → f g ≡ h g)
      → flat_map (λ (x : ℕ × List ℕ). sentence (group_words x.1 (value_at w x.0) (pending_under tree w x.0) (f x.0)))
      (enumerate_from k names)
      ≡ flat_map (λ (x : ℕ × List ℕ). sentence (group_words x.1 (value_at w x.0) (pending_under tree w x.0) (h x.0)))
      (enumerate_from k names)
  lines-same k [] same = refl
  lines-same k (name ∷ names) same =
      ap₂ (λ (z : ℤ) (rest : List ℕ).
      sentence (group_words name (value_at w k) (pending_under tree w k) z) ++ rest) (same k (omega arith))
      (lines-same (k + 1) names (λ g below. same g (omega (arith, below))))

  group_lines-same : (names : List (List ℕ)) → ((g : ℕ) → g < length names → f g ≡ h g)
      → group_lines names tree w f ≡ group_lines names tree w h
  group_lines-same names same = lines-same 0 names (λ g below. same g (omega (arith, below)))

parts-written : (out prefix words end lines first second last : List ℕ) → first ≡ out ++ prefix
    → second ≡ first ++ (words ++ end) → last ≡ second ++ lines
    → last ≡ out ++ (((prefix ++ words) ++ end) ++ lines)
parts-written out prefix words end lines first second last one two three =
    three ∙ ap (λ (l : List ℕ). l ++ lines) (two ∙ ap (λ (l : List ℕ). l ++ (words ++ end)) one)
    ∙ simp append_assoc

-- a report of the world that is held, in parts
module _ (header : GroupHeader) (valid : IsGroupHeader header) (n : ℕ) (phase : OpenPhase) (w : GroupWorld)
    (is : phase.world ≡ Some w) (out first second last : List ℕ) where
  reported : first ≡ out ++ line_prefix n
      → second ≡ first ++ 114 ∷ 101 ∷ 112 ∷ 111 ∷ 114 ∷ 116 ∷ 32 ∷ 103 ∷ 114 ∷ 111 ∷ 117 ∷ 112 ∷ 115 ∷ 10 ∷ []
      → last ≡ second ++ group_lines header.names header.tree w.words (standing as_is header.tree w.words)
      → (kept : GroupsKept) (texts : List (Text PastGroupPhase)) → PhaseStands header kept texts phase
      → last ≡ out ++ report_lines header n kept.world kept.past
  reported one two three kept texts stands =
      let same : w ≡ kept.world = Some-same w kept.world (sym is ∙ stands.in_world) in
      parts-written out (line_prefix n)
      (114 ∷ 101 ∷ 112 ∷ 111 ∷ 114 ∷ 116 ∷ 32 ∷ 103 ∷ 114 ∷ 111 ∷ 117 ∷ 112 ∷ 115 ∷ []) (10 ∷ [])
      (group_lines header.names header.tree kept.world.words (plain_total header.tree kept.past)) first second last one
      two
      (three ∙ ap (λ (lines : List ℕ). second ++ lines)
      (ap (λ (v : GroupWorld). group_lines header.names header.tree v.words (standing as_is header.tree v.words)) same
      ∙ group_lines-same header.tree kept.world.words (standing as_is header.tree kept.world.words)
      (plain_total header.tree kept.past) header.names
      (λ g below. stands.totals g (omega (arith, below, valid.named)))))

  pub reported-if : first ≡ out ++ line_prefix n
      → second ≡ first ++ 114 ∷ 101 ∷ 112 ∷ 111 ∷ 114 ∷ 116 ∷ 32 ∷ 103 ∷ 114 ∷ 111 ∷ 117 ∷ 112 ∷ 115 ∷ 10 ∷ []
      → (result : Result (Unit {0}) Memory)
      → OnOk result (last ≡ second ++ group_lines header.names header.tree w.words
      (standing as_is header.tree w.words))
      → OnOk result ((kept : GroupsKept) (texts : List (Text PastGroupPhase)) → PhaseStands header kept texts phase
      → last ≡ out ++ report_lines header n kept.world kept.past)
  reported-if one two (Ok done) three = reported one two three
  reported-if one two (Err error) three = tt
