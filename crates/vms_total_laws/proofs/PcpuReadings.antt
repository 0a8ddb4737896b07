-- For other crates too: what the acts of a CPU's lane add to percpu counters is what their steps tell.
use Rattle.std.proofs.Common.{◌≡◌, ℕ, nat_eq, Bool, ℤ, pos, ◌+ℤ◌, List, [], ◌∷◌, ◌++◌, map, reverse, Option, Some, None}
use Rattle.std.proofs.Common.{refl, sym, ap, subst, ◌∙◌, arith, if◌then◌else◌, append_assoc, append-nil}
use Rattle.std.proofs.lemmas.Int.{ints}
use Rattle.std.proofs.lemmas.List.{map-append, reverse-append}
use Rattle.vms_world.specs.Common.{Header, CpuId, Event, after, own, PcpuAnswer, Limited, PcpuCall, PcpuFacts, PcpuStep}
use Rattle.vms_world.specs.Common.{IsIdle, own_added, AddsAmounts, MakesPcpuCall, pcpu_added, read_pcpu_call}
use Rattle.vms_world.specs.Common.{says_made as was_made, Act, Cnt, Lim, Cpu, PcpuSteps, pcpu_call, MakesActs}
use Rattle.vms_world.specs.Common.{act as one_act, pcpu_facts}
use Rattle.vms_pcpu_core.specs.Histories.{History}
use Rattle.vms_pcpu_core.proofs.Common.{adds-call, idle-after, tells-call}
use Rattle.vms_world.specs.declared.worlds.World.{World}
use Rattle.vms_world.specs.Lanes.MakesActs.{none as no_act}
use Rattle.vms_answers.specs.declared.answers.Answer.{Answer}
use Rattle.vms_answers.specs.Common.{LaneSteps, joined, pcpu_told, read_act, read_pcpu_act, told}
use Rattle.vms_answers.proofs.Common.{read-by_call}
use Rattle.vms_total_laws.specs.Common.{amount_added, says_made}

-- steps of a caller after others, the oldest first
pub steps_by-after : {K : Type 0} (p : ℕ) (ks : List K) (g : List (Event K))
    → map (λ e. e.step) (reverse (after p ks g)) ≡ map (λ e. e.step) (reverse g) ++ ks
steps_by-after p [] g = sym (append-nil (map (λ e. e.step) (reverse g)))
steps_by-after p (k ∷ ks) g =
    let e : Event _ = record { caller = p; step = k } in
    let before = map (λ (x : Event _). x.step) (reverse g) in
    steps_by-after p ks (e ∷ g)
    ∙ ap (λ (es : List (Event _)). map (λ x. x.step) es ++ ks) (reverse-append (e ∷ []) g)
    ∙ ap (λ (front : List _). front ++ ks) (map-append (λ (x : Event _). x.step) (reverse g) (e ∷ []))
    ∙ append_assoc before (k ∷ []) ks

-- steps that add amounts add the part of each to what their caller has added: all of it, or its size
abbrev pub AddsParts : (ℤ → ℤ) → Type 0
AddsParts part = (added : ℕ → ℤ) (p : ℕ) (steps : List PcpuStep) → AddsAmounts added steps → (g : History) → IsIdle g
    → (j : ℕ) → own_added part j (after p steps g) ≡ own_added part j g +ℤ part (added j)

module _ (header : Header) (w : World) (j : ℕ) (c : CpuId) where
  abbrev facts : PcpuFacts
  facts = pcpu_facts header w

  -- what an act adds by what its call answers, and without a call
  abbrev added_with : PcpuAnswer → Option PcpuCall → ℤ
  added_with answer (Some call) = pcpu_added call answer j
  added_with answer None = pos 0

  added-call : (a : Act) (call : PcpuCall) → pcpu_call (Cpu c) a ≡ Some call → (answer : PcpuAnswer)
      → amount_added j a (pcpu_told answer) ≡ pcpu_added call answer j
  added-call a call is answer = by a ∙ ap (added_with answer) is
    where
      made : (answer : PcpuAnswer) → says_made (pcpu_told answer) ≡ was_made answer
      made (Limited b) = refl
      made _ = refl

      by : (b : Act) → amount_added j b (pcpu_told answer) ≡ added_with answer (pcpu_call (Cpu c) b)
      by (Lim i limit amount) =
          ap (λ (b : Bool). if nat_eq i.number j then (if b then amount else pos 0) else pos 0) (made answer)
      by _ = refl

  added-none : (a : Act) → pcpu_call (Cpu c) a ≡ None → (answered : Option Answer) → amount_added j a answered ≡ pos 0
  added-none (Cnt i amount) none answered = absurd cc
  added-none (Lim i limit amount) none answered = absurd cc
  added-none _ none answered = refl

  -- the steps after those of the lane's acts
  abbrev left_of_acts : List Act → LaneSteps → LaneSteps
  left_of_acts [] s = s
  left_of_acts (a ∷ acts) s = left_of_acts acts (read_act header w (Cpu c) a s).1

  left-last : (acts : List Act) (a : Act) (s : LaneSteps)
      → left_of_acts (acts ++ a ∷ []) s ≡ (read_act header w (Cpu c) a (left_of_acts acts s)).1
  left-last [] a s = refl
  left-last (first ∷ acts) a s = left-last acts a (read_act header w (Cpu c) first s).1

  module _ (part : ℤ → ℤ) where
    -- what the acts of the lane add by what is read of steps, of each amount its part
    abbrev pub added_of_acts : List Act → LaneSteps → ℤ
    added_of_acts [] s = pos 0
    added_of_acts (a ∷ acts) s =
        part (amount_added j a (read_act header w (Cpu c) a s).0)
        +ℤ added_of_acts acts (read_act header w (Cpu c) a s).1

    added-last : (acts : List Act) (a : Act) (s : LaneSteps)
        → added_of_acts (acts ++ a ∷ []) s
        ≡ added_of_acts acts s +ℤ part (amount_added j a (read_act header w (Cpu c) a (left_of_acts acts s)).0)
    added-last [] a s = omega (arith, ints)
    added-last (first ∷ acts) a s =
        omega (arith, ints, added-last acts a (read_act header w (Cpu c) first s).1)

    -- where the part of nothing is nothing
    module _ (nothing : part (pos 0) ≡ pos 0) (adds-parts : AddsParts part) where
      -- these steps of an act add the part of an amount, and tell the amount
      record Tells (a : Act) (first : List PcpuStep) (amount : ℤ) : Type 0 where
        pub idle : (p : ℕ) (g : History) → IsIdle g → IsIdle (after p first g)
        pub adds : (p : ℕ) (g : History) → IsIdle g
            → own_added part j (after p first g) ≡ own_added part j g +ℤ part amount
        pub left : (s : LaneSteps) (rest : List PcpuStep) → s.counters ≡ first ++ rest
            → (read_act header w (Cpu c) a s).1.counters ≡ rest
        pub told : (s : LaneSteps) (rest : List PcpuStep) → s.counters ≡ first ++ rest
            → amount_added j a (read_act header w (Cpu c) a s).0 ≡ amount

      Tells-act : (a : Act) (first : List PcpuStep) → PcpuSteps facts (Cpu c) a first
          → (amount : ℤ) × Tells a first amount
      Tells-act a first makes = by (pcpu_call (Cpu c) a) refl makes
        where
          by : (made : Option PcpuCall) → pcpu_call (Cpu c) a ≡ made → MakesPcpuCall facts (Some c) made first
              → (amount : ℤ) × Tells a first amount
          by (Some call) is (answer, called) =
              let adds = adds-call facts (Some c) call first answer called in
              let reads : (s : LaneSteps) (rest : List PcpuStep) → s.counters ≡ first ++ rest
              → read_act header w (Cpu c) a s ≡ (pcpu_told answer, record s { counters = rest }) =
              λ s rest parts.
              read-by_call header w c call a is s
              ∙ ap (λ ks. joined (None, s.pages) (None, s.events) (told pcpu_told (read_pcpu_call facts call ks))) parts
              ∙ ap (λ read. joined (None, s.pages) (None, s.events) (told pcpu_told read))
              (tells-call facts (Some c) call first rest answer called) in (
                pcpu_added call answer j,
                record {
                  idle = λ p g. idle-after (pcpu_added call answer) p first adds g;
                  adds = λ p g idle. adds-parts (pcpu_added call answer) p first adds g idle j;
                  left = λ s rest parts. ap (λ x. x.1.counters) (reads s rest parts);
                  told = λ s rest parts. ap (λ x. amount_added j a x.0) (reads s rest parts)
                      ∙ added-call a call is answer;
                },
              )
          by None is none = (
            pos 0,
            record {
              idle = λ p g idle. subst (λ ks. IsIdle (after p ks g)) (sym none) idle;
              adds = λ p g idle. omega (arith, ints, nothing, ap (λ ks. own_added part j (after p ks g)) none);
              left = λ s rest parts. ap (λ made. (read_pcpu_act facts made s.counters).1) is ∙ parts
                  ∙ ap (λ ks. ks ++ rest) none;
              told = λ s rest parts. added-none a is (read_act header w (Cpu c) a s).0;
            },
          )

      -- what a caller has made of the lane's acts adds what is read of its steps
      pub record TellsLane (acts : List Act) (mine : History) : Type 0 where
        pub idle : IsIdle mine
        pub left : (s : LaneSteps) (rest : List PcpuStep) → s.counters ≡ map (λ e. e.step) (reverse mine) ++ rest
            → (left_of_acts acts s).counters ≡ rest
        pub adds : (s : LaneSteps) (rest : List PcpuStep) → s.counters ≡ map (λ e. e.step) (reverse mine) ++ rest
            → own_added part j mine ≡ added_of_acts acts s

      pub TellsLane-made : (p : ℕ) (acts : List Act) (h : History)
          → MakesActs (λ a (before : History) steps. PcpuSteps facts (Cpu c) a steps) p acts h
          → TellsLane acts (own h p)
      TellsLane-made p acts h (no_act h' unmade) = subst (TellsLane []) (sym unmade) (record {
        idle = record { no_lock = λ i. refl; nothing_carried = λ i. refl };
        left = λ s rest is. is;
        adds = λ s rest is. refl;
      })
      TellsLane-made p acts h (one_act before next h' more steps made making own_is) =
          let was = TellsLane-made p before h' made in
          let (amount, tells) = Tells-act next steps making in
          subst (TellsLane (before ++ next ∷ [])) (sym own_is) (record {
            idle = tells.idle p (own h' p) was.idle;
            left = λ s rest is.
                let before_rest = was.left s (steps ++ rest) (in_parts h' steps s rest is) in
                ap (λ x. x.counters) (left-last before next s) ∙ tells.left (left_of_acts before s) rest before_rest;
            adds = λ s rest is.
                let before_rest = was.left s (steps ++ rest) (in_parts h' steps s rest is) in
                omega (
                  arith,
                  ints,
                  tells.adds p (own h' p) was.idle,
                  was.adds s (steps ++ rest) (in_parts h' steps s rest is),
                  added-last before next s,
                  ap part (tells.told (left_of_acts before s) rest before_rest),
                );
          })
        where
          in_parts : (h' : History) (steps : List PcpuStep) (s : LaneSteps) (rest : List PcpuStep)
              → s.counters ≡ map (λ e. e.step) (reverse (after p steps (own h' p))) ++ rest
              → s.counters ≡ map (λ e. e.step) (reverse (own h' p)) ++ (steps ++ rest)
          in_parts h' steps s rest is = is ∙ ap (λ ks. ks ++ rest) (steps_by-after p steps (own h' p))
              ∙ append_assoc (map (λ e. e.step) (reverse (own h' p))) steps rest
