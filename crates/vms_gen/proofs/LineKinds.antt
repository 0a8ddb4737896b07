-- The words of a line of each kind, and a line that was put after nothing.
use Rattle.std.proofs.Common.{ℕ, ◌≡◌, ◌≤◌, ◌<◌, ◌%◌, ◌==◌, nat_lt, false, true, List, [], ◌∷◌, ◌++◌, refl, ap, ◌∙◌}
use Rattle.std.proofs.Common.{arith, codes}
use Rattle.std.proofs.lemmas.Bool.Decides.{nat_tests}
use Rattle.std.specs.Fmt.{decimal}
use Rattle.vms_text.specs.Common.{sentence}
use Rattle.vms_gen.specs.Common.{amount_word, cpu_lane_word, made_line_words}

pub put-alone : (text before : List ℕ) (words line : List (List ℕ)) → text ≡ before ++ sentence words → before ≡ []
    → words ≡ line → text ≡ sentence line
put-alone text before words line is empty same =
    is ∙ ap (λ front. front ++ sentence words) empty ∙ ap sentence same

module _ (cpus kind cpu rest lane : ℕ) (same : lane ≡ cpu) where
  pub inc-words : 8 ≤ kind → kind < 10
      → cpu_lane_word lane ∷ codes "inc" ∷ codes "0" ∷ codes "Normal" ∷ codes "nr_free_pages" ∷ []
      ≡ made_line_words cpus kind cpu rest
  inc-words least most =
      let first : nat_lt kind 8 ≡ false = grind (arith, nat_tests) in
      let second : nat_lt kind 10 ≡ true = grind (arith, nat_tests) in
      rw (same, first, second) refl

  pub dec-words : kind ≡ 10
      → cpu_lane_word lane ∷ codes "dec" ∷ codes "0" ∷ codes "node" ∷ codes "nr_dirty" ∷ []
      ≡ made_line_words cpus kind cpu rest
  dec-words is = rw (same, is) refl

  pub ev-words : kind ≡ 11
      → cpu_lane_word lane ∷ codes "ev" ∷ codes "pgfault" ∷ decimal (rest % 4) ∷ [] ≡ made_line_words cpus kind cpu rest
  ev-words is = rw (same, is) refl

  pub cnt-words : (amount : List ℕ) → kind ≡ 12 → amount ≡ amount_word rest 129 64
      → cpu_lane_word lane ∷ codes "cnt" ∷ codes "files" ∷ amount ∷ [] ≡ made_line_words cpus kind cpu rest
  cnt-words amount is value = rw (same, is, value) refl

  pub node-words : (amount : List ℕ) → kind ≡ 15 → (rest % 64 == 0) ≡ false → amount ≡ amount_word rest 65 32
      → cpu_lane_word lane ∷ codes "mod" ∷ codes "0" ∷ codes "node" ∷ codes "nr_file_pages" ∷ amount ∷ []
      ≡ made_line_words cpus kind cpu rest
  node-words amount is odd value = rw (same, is, odd, value) refl
