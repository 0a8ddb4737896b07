use Rattle.std.proofs.Common.{◌≡◌, ℕ, List, ◌++◌, ap, ◌∙◌, append_assoc}
use Rattle.vms_certifying.proofs.printing.write_certified_line.Goals as goal

-- what was appended in five parts
parts-appended : (out a b c d e first second third fourth last : List ℕ) → first ≡ out ++ a → second ≡ first ++ b
    → third ≡ second ++ c
    → fourth ≡ third ++ d → last ≡ fourth ++ e → last ≡ out ++ (a ++ b ++ c ++ d ++ e)
parts-appended out a b c d e first second third fourth last one two three four five =
    five ∙ ap (λ (l : List ℕ). l ++ e) (four
    ∙ ap (λ (l : List ℕ). l ++ d) (three ∙ ap (λ (l : List ℕ). l ++ c) (two ∙ ap (λ (l : List ℕ). l ++ b) one)))
    ∙ simp append_assoc

pub returns-clause-ok : goal.returns-clause-ok
returns-clause-ok c =
    parts-appended _ _ _ _ _ _ _ _ _ _ _ c.in_ok-extend_from_slice.ensures.items c.in_ok-write_number.ensures.ok
    c.in_ok-extend_from_slice-2.ensures.items
    c.in_ok-write_number-2.ensures.ok c.in_ok-push.ensures.items
