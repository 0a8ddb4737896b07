-- For other crates too: the lines of phases, and their volumes.
use Rattle.std.proofs.Common.{◌≡◌, ℕ, ◌+◌, List, [], ◌∷◌, ◌++◌, map, refl, sym, ap, ◌∙◌, arith, append_assoc}
use Rattle.std.proofs.Common.{append-nil}
use Rattle.std.proofs.lemmas.List.{map-append}
use Rattle.vms_script.specs.Common.{line_of, lines_of_phases, by_cpu, volume}
use Rattle.vms_text.specs.declared.acts.Act.{Act}
use Rattle.vms_text.specs.declared.acts.Item.{Item}
use Rattle.vms_text.specs.declared.acts.Line.{Line}

-- the lines of phases and more phases
pub lines_of_phases-append : (phases more : List (List Item))
    → lines_of_phases (phases ++ more) ≡ lines_of_phases phases ++ lines_of_phases more
lines_of_phases-append [] more = refl
lines_of_phases-append (items ∷ phases) more =
    ap (λ (lines : List Line). map line_of items ++ lines) (lines_of_phases-append phases more)
    ∙ sym (append_assoc (map line_of items) (lines_of_phases phases) (lines_of_phases more))

-- a phase without a line has none
pub lines_of_phases-open : (phases : List (List Item)) → lines_of_phases (phases ++ [] ∷ []) ≡ lines_of_phases phases
lines_of_phases-open phases = lines_of_phases-append phases ([] ∷ []) ∙ append-nil (lines_of_phases phases)

pub volume-append : (measure : Act → ℕ) (c : ℕ) (lines more : List Line)
    → volume measure c (lines ++ more) ≡ volume measure c lines + volume measure c more
volume-append measure c [] more = omega arith
volume-append measure c (first ∷ lines) more = omega (arith, volume-append measure c lines more)

-- the volumes with a line more in the last phase
pub volume-item : (ended : List (List Item)) (items : List Item) (item : Item) (measure : Act → ℕ) (c : ℕ)
    → volume measure c (lines_of_phases (ended ++ (items ++ item ∷ []) ∷ []))
    ≡ by_cpu c measure (line_of item) + volume measure c (lines_of_phases (ended ++ items ∷ []))
volume-item ended items item measure c = omega (
  arith,
  ap (volume measure c) (lines_of_phases-append ended ((items ++ item ∷ []) ∷ [])),
  ap (volume measure c) (lines_of_phases-append ended (items ∷ [])),
  volume-append measure c (lines_of_phases ended) (lines_of_phases ((items ++ item ∷ []) ∷ [])),
  volume-append measure c (lines_of_phases ended) (lines_of_phases (items ∷ [])),
  ap (volume measure c) (append-nil (map line_of (items ++ item ∷ []))),
  ap (volume measure c) (append-nil (map line_of items)),
  ap (volume measure c) (map-append line_of items (item ∷ [])),
  volume-append measure c (map line_of items) (line_of item ∷ []),
)
