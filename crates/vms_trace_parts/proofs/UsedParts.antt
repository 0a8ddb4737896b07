-- The parts that are kept are those that end at the lines.
use Rattle.std.proofs.Common.{◌≡◌, ℕ, Bool, true, false, List, [], ◌∷◌, ◌++◌, Option, Some, None, refl, sym, ap, ap₂}
use Rattle.std.proofs.Common.{subst, ◌∙◌, append_assoc}
use Rattle.std.specs.Prelude.{Result, Ok, Err}
use Rattle.vms_text.specs.declared.acts.Line.{Line}
use Rattle.vms_text.specs.declared.acts.Line.TheVariants.{Blank, Lane, Boundary}
use Rattle.vms_line.specs.declared.causes.LineCause.{LineCause}
use Rattle.vms_script.specs.Common.{judged}
use Rattle.vms_stream.specs.declared.statuses.Status.{Status}
use Rattle.vms_stream.specs.Common.{Gives, HasAllOutcomes, On, OutcomesLeadThrough, Waiting, Way, halted, leads_on}
use Rattle.vms_stream.specs.Common.{none_after, state_after, supply, unless_stopped, with_outcomes}
use Rattle.vms_command.specs.Common.{Body, Heading, ends_at_judged}
use Rattle.vms_trace_parts.specs.Common.{TracePart}
use Rattle.vms_trace_parts.proofs.CutLines.{first-none, later-none}
use Rattle.vms_trace_parts.proofs.PlainWays.{next-at, State, at, ends, goes, has-later, phased, plain}

-- the part that ends at a line, by what was judged of it, and those that end at lines
abbrev pub part_ended : Result Line LineCause → TracePart → List TracePart
part_ended (Ok (Boundary boundary)) part = part ∷ []
part_ended _ part = []

abbrev pub parts_at : State → List ℕ → List TracePart
parts_at (Heading n stage) line = []
parts_at (Body n header above part) line = part_ended (judged header above.lines line) part

abbrev pub parts_made : State → List (List ℕ) → List TracePart
parts_made s [] = []
parts_made s (line ∷ lines) = parts_at s line ++ parts_made (plain.next s line) lines

-- the part that a line gets is the one that ends there
module _ (asked : Waiting State TracePart → List TracePart → Type 0) where
  abbrev pub Later : State → List TracePart → List (List ℕ) → Type 0
  Later s left lines = OutcomesLeadThrough phased asked (at s) left lines

  -- the parts that end at these lines are used, and what is asked of those that are left holds
  pub record Used (outcomes : List TracePart) (s : State) (left : List TracePart) (lines : List (List ℕ)) : Type 0 where
    pub others : List TracePart
    pub used : left ≡ parts_made s lines ++ others
    pub asks : asked (at (state_after plain s lines)) others
    pub way : state_after (with_outcomes phased outcomes) (On (at s) left) lines
        ≡ On (at (state_after plain s lines)) others

  -- what a line uses
  record Uses (s : State) (line : List ℕ) (lines : List (List ℕ)) (left left' : List TracePart) : Type 0 where
    pub used : left ≡ parts_at s line ++ left'
    pub leads : Later (plain.next s line) left' lines

  abbrev LeadsBy : State → List ℕ → List (List ℕ) → Bool → List TracePart → Type 0
  LeadsBy s line lines e left = leads_on e left (phased.Allows (at s) line)
      (λ given left'. none_after (phased.halts (at s) line given) left'
      (OutcomesLeadThrough phased asked (phased.next (at s) line given) left' lines))

  on-at : (s : State) (line : List ℕ) (lines : List (List ℕ)) (given : Option TracePart) (left' : List TracePart)
      → plain.halts s line ≡ None
      → none_after (phased.halts (at s) line given) left'
      (OutcomesLeadThrough phased asked (phased.next (at s) line given) left' lines)
      → Later (plain.next s line) left' lines
  on-at s line lines given left' none leads =
      subst (λ (now : Waiting State TracePart). OutcomesLeadThrough phased asked now left' lines) (next-at s line given)
      (subst (λ (h : Option Status). none_after h left'
      (OutcomesLeadThrough phased asked (phased.next (at s) line given) left' lines)) none leads)

  -- in the header none ends, and in the body at a boundary line
  uses-none : (s : State) (line : List ℕ) (lines : List (List ℕ)) (left : List TracePart) (given : Option TracePart)
      (left' : List TracePart) (e : Bool) → e ≡ false → parts_at s line ≡ [] → supply e left ≡ Gives given left'
      → plain.halts s line ≡ None → LeadsBy s line lines e left → Uses s line lines left left'
  uses-none s line lines left given left' true is nothing got none leads = absurd cc
  uses-none s line lines left given left' false is nothing got none leads =
      let same : left ≡ left' = cc in
      record {
        used = same ∙ ap (λ (front : List TracePart). front ++ left') (sym nothing);
        leads = subst (λ (xs : List TracePart). Later (plain.next s line) xs lines) same
            (on-at s line lines None left none leads);
      }

  uses-part : (s : State) (line : List ℕ) (lines : List (List ℕ)) (left : List TracePart) (given : Option TracePart)
      (left' : List TracePart) (part : TracePart) (e : Bool) → e ≡ true → parts_at s line ≡ part ∷ []
      → ((other : TracePart) → phased.Allows (at s) line other → other ≡ part)
      → supply e left ≡ Gives given left' → plain.halts s line ≡ None → LeadsBy s line lines e left
      → Uses s line lines left left'
  uses-part s line lines left given left' part false is one is_part got none leads = absurd cc
  uses-part s line lines [] given left' part true is one is_part got none leads = absurd cc
  uses-part s line lines (other ∷ more) given left' part true is one is_part got none leads =
      let same : more ≡ left' = cc in
      record {
        used = ap₂ (λ (x : TracePart) (xs : List TracePart). x ∷ xs) (is_part other leads.0) same
            ∙ ap (λ (front : List TracePart). front ++ left') (sym one);
        leads = subst (λ (xs : List TracePart). Later (plain.next s line) xs lines) same
            (on-at s line lines (Some other) more none leads.1);
      }

  never-ends : (h : Option Status) → unless_stopped h false ≡ false
  never-ends None = refl
  never-ends (Some halt) = refl

  uses : (s : State) (line : List ℕ) (lines : List (List ℕ)) (left : List TracePart) (given : Option TracePart)
      (left' : List TracePart) → supply (ends s line) left ≡ Gives given left' → plain.halts s line ≡ None
      → OutcomesLeadThrough phased asked (at s) left (line ∷ lines) → Uses s line lines left left'
  uses (Heading n stage) line lines left given left' got none leads =
      uses-none (Heading n stage) line lines left given left' (ends (Heading n stage) line)
      (never-ends (plain.halts (Heading n stage) line)) refl got none leads
  uses (Body n header above part) line lines left given left' got none leads =
      by (judged header above.lines line) refl
    where
      open_ends : ends (Body n header above part) line ≡ ends_at_judged true (judged header above.lines line)
      open_ends = ap (λ (h : Option Status). unless_stopped h
          (ends_at_judged true (judged header above.lines line))) none

      no_end : (j : Result Line LineCause) → judged header above.lines line ≡ j → ends_at_judged true j ≡ false
          → part_ended j part ≡ [] → Uses (Body n header above part) line lines left left'
      no_end j is closed nothing =
          uses-none (Body n header above part) line lines left given left' (ends (Body n header above part) line)
          (open_ends ∙ ap (ends_at_judged true) is ∙ closed)
          (ap (λ (r : Result Line LineCause). part_ended r part) is ∙ nothing) got none leads

      by : (j : Result Line LineCause) → judged header above.lines line ≡ j
          → Uses (Body n header above part) line lines left left'
      by (Ok Blank) is = no_end (Ok Blank) is refl refl
      by (Ok (Lane lane act)) is = no_end (Ok (Lane lane act)) is refl refl
      by (Ok (Boundary boundary)) is =
          uses-part (Body n header above part) line lines left given left' part (ends (Body n header above part) line)
          (open_ends ∙ ap (ends_at_judged true) is)
          (ap (λ (r : Result Line LineCause). part_ended r part) is) (λ other same. same) got none leads
      by (Err cause) is = no_end (Err cause) is refl refl

  pub used : (outcomes : List TracePart) (lines : List (List ℕ)) (s : State) (left : List TracePart)
      → HasAllOutcomes phased (On (at s) left) lines → halted plain s lines ≡ None
      → OutcomesLeadThrough phased asked (at s) left lines → Used outcomes s left lines
  used outcomes [] s left has none leads = record { others = left; used = refl; asks = leads; way = refl }
  used outcomes (line ∷ lines) s left has none leads =
      let here = first-none (plain.halts s line) (halted plain (plain.next s line) lines) none in
      goes s line left lines has
      (λ given left' step.
      let line_uses = uses s line lines left given left' step.got here leads in
      let on = used outcomes lines (plain.next s line) left' (has-later s line left lines given left' step here has)
      (later-none (plain.halts s line) (halted plain (plain.next s line) lines) none) line_uses.leads in
      record {
        others = on.others;
        used = line_uses.used ∙ ap (λ (more : List TracePart). parts_at s line ++ more) on.used
            ∙ sym (append_assoc (parts_at s line) (parts_made (plain.next s line) lines) on.others);
        asks = on.asks;
        way = ap (λ (w : Way (Waiting State TracePart) TracePart).
            state_after (with_outcomes phased outcomes) w lines) step.way ∙ on.way;
      })
