-- How a job takes lines in two parts.
use Rattle.std.proofs.Common.{◌≡◌, ◌≢◌, ℕ, ◌==◌, Bool, false, List, [], ◌∷◌, ◌++◌, length, Option, Some, None, sym, ap}
use Rattle.std.proofs.Common.{subst, ◌∙◌, append_assoc, append-nil, true≢false}
use Rattle.vms_stream.specs.declared.statuses.Status.{Status}
use Rattle.vms_stream.specs.declared.statuses.Status.TheVariants.{TooLong}
use Rattle.vms_stream.specs.Common.{TakesLines, Behavior, state_after, first_halt, halted, printed_from, printed}
use Rattle.vms_stream.proofs.BehaviorLaws.{state_after-append, halted-append, printed-append, halted-stops}
use Rattle.vms_text.proofs.Common.{lines_of-begin}
use Rattle.vms_text.specs.Common.{lines_of, SplitsLine}

-- a list whose length isn't 0 isn't empty
pub nonempty : (xs : List ℕ) (b : Bool) → b ≡ (length xs == 0) → b ≡ false → xs ≢ []
nonempty xs b tested isnt = λ empty. true≢false (sym (tested ∙ ap (λ (ys : List ℕ). length ys == 0) empty) ∙ isnt)

module _ {S : Type 0} (behavior : Behavior S) (stands : S → Type 0) where
  -- after one line: the job takes it, refuses it, or the line exceeds a limit
  pub TakesLines-one : (s : S) (line out out' : List ℕ) → behavior.halts s line ≡ None
      → out' ≡ out ++ behavior.prints s line
      → stands (behavior.next s line) → TakesLines behavior stands s (line ∷ []) None out out'
  TakesLines-one s line out out' open_line prints after = record {
    halt_of = ap (λ (halt : Option Status). first_halt halt None) (sym open_line);
    prints = prints ∙ ap (λ (bytes : List ℕ). out ++ bytes) (sym (append-nil (behavior.prints s line))
        ∙ ap (λ (halt : Option Status). printed_from halt (behavior.prints s line) []) (sym open_line));
    stands_after = λ _. after;
  }

  -- a line that stops the command with a status under which it prints
  pub TakesLines-answered : (halt : Status) → ((text later : List ℕ) → printed_from (Some halt) text later ≡ text)
      → (s : S) (line out out' : List ℕ) → behavior.halts s line ≡ Some halt → out' ≡ out ++ behavior.prints s line
      → TakesLines behavior stands s (line ∷ []) (Some halt) out out'
  TakesLines-answered halt told s line out out' stopped prints = record {
    halt_of = ap (λ (halt : Option Status). first_halt halt None) (sym stopped);
    prints = prints ∙ ap (λ (bytes : List ℕ). out ++ bytes) (sym (told (behavior.prints s line) [])
        ∙ ap (λ (halt : Option Status). printed_from halt (behavior.prints s line) []) (sym stopped));
    stands_after = λ none. absurd cc;
  }

  pub TakesLines-exceeding : (s : S) (line out out' : List ℕ) → behavior.halts s line ≡ Some TooLong → out' ≡ out
      → TakesLines behavior stands s (line ∷ []) (Some TooLong) out out'
  TakesLines-exceeding s line out out' exceeding same = record {
    halt_of = ap (λ (halt : Option Status). first_halt halt None) (sym exceeding);
    prints = same ∙ sym (append-nil out)
        ∙ ap (λ (bytes : List ℕ). out ++ bytes)
        (ap (λ (halt : Option Status). printed_from halt (behavior.prints s line) []) (sym exceeding));
    stands_after = λ none. absurd cc;
  }

  -- after lines of which none stops it, and then past more
  pub TakesLines-both : (s : S) (lines more all : List (List ℕ)) (halt : Option Status) (first out out' : List ℕ)
      → halted behavior s lines ≡ None
      → out ≡ first ++ printed behavior s lines → lines ++ more ≡ all
      → TakesLines behavior stands (state_after behavior s lines) more halt out out'
      → TakesLines behavior stands s all halt first out'
  TakesLines-both s lines more all halt first out out' none written joined goes =
      subst (λ (ls : List (List ℕ)). TakesLines behavior stands s ls halt first out') joined (record {
        halt_of = goes.halt_of ∙ sym (halted-append behavior s lines more none);
        prints = goes.prints ∙ ap (λ (front : List ℕ). front ++ printed behavior (state_after behavior s lines) more)
            written
            ∙ append_assoc first (printed behavior s lines) (printed behavior (state_after behavior s lines) more)
            ∙ ap (λ (rest : List ℕ). first ++ rest) (sym (printed-append behavior s lines more none));
        stands_after = λ open_end. subst stands (sym (state_after-append behavior s lines more))
            (goes.stands_after open_end);
      })

  -- what stands after a line that stops it doesn't matter
  pub TakesLines-stopped : (s : S) (lines more : List (List ℕ)) (halt : Status) (out out' : List ℕ)
      → TakesLines behavior stands s lines (Some halt) out out'
      → TakesLines behavior stands s (lines ++ more) (Some halt) out out'
  TakesLines-stopped s lines more halt out out' goes =
      let stops = halted-stops behavior s lines more halt (sym goes.halt_of) in
      record {
        halt_of = sym stops.0;
        prints = goes.prints ∙ ap (λ (rest : List ℕ). out ++ rest) (sym stops.1);
        stands_after = λ none. absurd cc;
      }

  -- what was printed before
  pub TakesLines-after : (s : S) (lines : List (List ℕ)) (halt : Option Status) (front out out' : List ℕ) → out ≡ []
      → TakesLines behavior stands s lines halt out out' → TakesLines behavior stands s lines halt front (front ++ out')
  TakesLines-after s lines halt front out out' none goes = record {
    halt_of = goes.halt_of;
    prints = ap (λ (rest : List ℕ). front ++ rest) (goes.prints
        ∙ ap (λ (o : List ℕ). o ++ printed behavior s lines) none);
    stands_after = goes.stands_after;
  }

-- a line is after the lines above it
pub one_further : (all above : List (List ℕ)) (rest line after : List ℕ) → all ≡ above ++ lines_of rest
    → rest ≢ [] → SplitsLine rest line after
    → all ≡ (above ++ (line ∷ [])) ++ lines_of after
one_further all above rest line after parts some splits =
    parts ∙ ap (λ (lines : List (List ℕ)). above ++ lines) (lines_of-begin rest line after splits some)
    ∙ sym (append_assoc above (line ∷ []) (lines_of after))
