-- Where the first line stops a behavior.
use Rattle.std.proofs.Common.{◌≡◌, List, [], ◌∷◌, ◌++◌, ℕ, Option, Some, None, refl, sym, ap, ◌∙◌, append_assoc}
use Rattle.vms_stream.specs.declared.statuses.Status.{Status}
use Rattle.vms_stream.specs.declared.statuses.Status.TheVariants.{Header, NotCertified}
use Rattle.vms_stream.specs.Common.{Behavior, first_halt, halted, printed, printed_from, state_after}

-- nothing is printed after a line that stops a behavior
pub stopped-prints : (halt : Status) (line later other : List ℕ)
    → printed_from (Some halt) line later ≡ printed_from (Some halt) line other
stopped-prints Header line later other = refl
stopped-prints NotCertified line later other = refl
stopped-prints _ line later other = refl

pub first-none : (first later : Option Status) → first_halt first later ≡ None → first ≡ None
first-none None later is = refl
first-none (Some halt) later is = absurd cc

pub later-none : (first later : Option Status) → first_halt first later ≡ None → later ≡ None
later-none None later is = is
later-none (Some halt) later is = absurd cc

module _ {S : Type 0} (behavior : Behavior S) where
  -- the lines above the first one that stops it, and what that line prints
  pub record Cut (s : S) (lines : List (List ℕ)) (halt : Status) : Type 0 where
    pub front : List (List ℕ)
    pub line : List ℕ
    pub rest : List (List ℕ)
    pub parts : lines ≡ front ++ line ∷ rest
    pub none_above : halted behavior s front ≡ None
    pub stops : halted behavior s (front ++ line ∷ []) ≡ Some halt
    pub halts : behavior.halts (state_after behavior s front) line ≡ Some halt
    pub prints : printed behavior s lines ≡ printed behavior s front
        ++ printed_from (Some halt) (behavior.prints (state_after behavior s front) line) []

  -- by whether the first line does
  module _ (s : S) (line : List ℕ) (lines : List (List ℕ)) (halt : Status)
      (some : halted behavior s (line ∷ lines) ≡ Some halt) where
    abbrev next : S
    next = behavior.next s line

    cut-line : (first : Option Status) → behavior.halts s line ≡ first
        → (halted behavior next lines ≡ Some halt → Cut next lines halt) → Cut s (line ∷ lines) halt
    cut-line None is again =
        let later : halted behavior next lines ≡ Some halt =
        sym (ap (λ (first : Option Status). first_halt first (halted behavior next lines)) is) ∙ some in
        let on = again later in
        record {
          front = line ∷ on.front;
          line = on.line;
          rest = on.rest;
          parts = ap (λ (more : List (List ℕ)). line ∷ more) on.parts;
          none_above = ap (λ (first : Option Status). first_halt first (halted behavior next on.front)) is
              ∙ on.none_above;
          stops = ap (λ (first : Option Status).
              first_halt first (halted behavior next (on.front ++ on.line ∷ []))) is ∙ on.stops;
          halts = on.halts;
          prints = ap (λ (first : Option Status). printed_from first (behavior.prints s line)
              (printed behavior next lines)) is
              ∙ ap (λ (bytes : List ℕ). behavior.prints s line ++ bytes) on.prints
              ∙ sym (append_assoc (behavior.prints s line) (printed behavior next on.front) _)
              ∙ ap (λ (first : Option Status). printed_from first (behavior.prints s line)
              (printed behavior next on.front)
              ++ printed_from (Some halt) (behavior.prints (state_after behavior next on.front) on.line) []) (sym is);
        }
    cut-line (Some found) is again =
        let same : Some found ≡ Some halt =
        sym (ap (λ (first : Option Status). first_halt first (halted behavior next lines)) is) ∙ some in
        let halts : behavior.halts s line ≡ Some halt = is ∙ same in
        record {
          front = [];
          line = line;
          rest = lines;
          parts = refl;
          none_above = refl;
          stops = ap (λ (first : Option Status). first_halt first None) halts;
          halts = halts;
          prints = ap (λ (first : Option Status). printed_from first (behavior.prints s line)
              (printed behavior next lines)) halts
              ∙ stopped-prints halt (behavior.prints s line) (printed behavior next lines) [];
        }

  pub cut : (s : S) (lines : List (List ℕ)) (halt : Status) → halted behavior s lines ≡ Some halt → Cut s lines halt
  cut s [] halt some = absurd cc
  cut s (line ∷ lines) halt some =
      cut-line s line lines halt some (behavior.halts s line) refl (cut (behavior.next s line) lines halt)
