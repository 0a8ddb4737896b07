-- The pass in a slot, and the walk of its lane.
use Rattle.std.proofs.Common.{◌≡◌, ◌≢◌, ℕ, ◌<◌, ◌≤◌, true, List, ◌∷◌, length, get_or, Option, Some, None, refl, sym, ap}
use Rattle.std.proofs.Common.{subst, ◌∙◌, arith}
use Rattle.vms_world.specs.Common.{Header, ZoneSize, State, Step, Event, Act, Item, Lane, acts_of, begun_in, facts_of}
use Rattle.vms_world.specs.Common.{lives_in, owner_in, owner_of as owner_of_lane, pages}
use Rattle.vms_history.proofs.Common.{live_is_given, owner_in-others}
use Rattle.vms_history.proofs.PassLaws.{begun_in-others}
use Rattle.vms_core.specs.Pages.{History, IsLegal}
use Rattle.vms_core.specs.Steps.{role}
use Rattle.vms_registers.specs.Slots.{owner_of}
use Rattle.vms_registers.specs.Shows.{held_by}
use Rattle.vms_phase_checks.specs.declared.checks.PhaseCheck.{PhaseCheck}
use Rattle.vms_phase_checks.specs.Common.{Checks, IsAloneIn, WalksIn, lane_in}
use Rattle.vms_phase_checks.proofs.KeptPhases.{IsAloneIn-apart, owner_of-lane_for}

-- pass p stands in a slot
pub record InSlot (header : Header) (h : History) (p slot : ℕ) : Type 0 where
  pub slot_in : slot ≤ header.layout.cpus
  pub least : 1 ≤ p
  pub most : p ≤ begun_in role h
  pub owns : owner_in role h p ≡ owner_of header.layout.cpus slot

module _ {W : Type 0} (Stands : Header → State → Lane → ℕ → List Act → History → W → Type 0)
    (pressure normal : ZoneSize → ℕ → ℕ → Type 0) (header : Header) (s : State) (items : List Item) (h : History)
    (check : PhaseCheck W) (is : Checks Stands pressure normal header s items h check) where
  abbrev cpus : ℕ
  cpus = header.layout.cpus

  abbrev holders : List ℕ
  holders = check.registers.passes.holders

  pub in-slot : (p slot : ℕ) → p ≢ 0 → held_by holders slot ≡ p → slot < length holders → InSlot header h p slot
  in-slot p slot given here within =
      let some : held_by holders slot ≢ 0 = λ none. given (sym here ∙ none) in
      let lives : lives_in role h p ≡ true = ap (lives_in role h) (sym here) ∙ is.shows.hold.lives slot some in
      let begun = live_is_given pages (facts_of header s) h p is.keeps.legal lives in
      record {
        slot_in = omega (arith, within, is.shows.one_each);
        least = begun.0;
        most = begun.1;
        owns = ap (owner_in role h) (sym here) ∙ is.shows.hold.owner slot some;
      }

  -- a pass that lives stands in some slot
  pub lives-somewhere : (p : ℕ) → lives_in role h p ≡ true → ((slot : ℕ) → held_by holders slot ≡ p → p ≡ 0) → ⊥
  lives-somewhere p lives none =
      let given = live_is_given pages (facts_of header s) h p is.keeps.legal lives in
      absurd (omega (arith, given.0, none _ (is.shows.hold.holds p lives)))

  -- the walk that stands in a slot is that of its pass
  module _ (p slot : ℕ) (at : InSlot header h p slot) where
    stands-of : (walk : Option W) → WalksIn Stands pressure normal header s items h slot walk → (w : W) → walk ≡ Some w
        → Stands header s (lane_in cpus slot) p (acts_of (lane_in cpus slot) items) h w
    stands-of None none w same = absurd cc
    stands-of (Some walk) (q, least, most, owns, stands) w same =
        let one : q ≡ p = is.keeps.apart q p least most at.least at.most (owns ∙ sym at.owns) in
        let walks : walk ≡ w = cc in
        subst (λ (v : W). Stands header s (lane_in cpus slot) p (acts_of (lane_in cpus slot) items) h v) walks
        (subst (λ (r : ℕ). Stands header s (lane_in cpus slot) r (acts_of (lane_in cpus slot) items) h walk) one stands)

    pub stands-in : (w : W) → get_or check.walks slot None ≡ Some w
        → Stands header s (lane_in cpus slot) p (acts_of (lane_in cpus slot) items) h w
    stands-in w same = stands-of (get_or check.walks slot None) (is.walks slot at.slot_in) w same

    none-of : (walk : Option W) → WalksIn Stands pressure normal header s items h slot walk → walk ≡ None → ⊥
    none-of None none same = none p at.least at.most at.owns
    none-of (Some walk) stands same = absurd cc

    pub has-walk : get_or check.walks slot None ≡ None → ⊥
    has-walk same = none-of (get_or check.walks slot None) (is.walks slot at.slot_in) same

    some-of : (walk : Option W) → walk ≢ None → (w : W) × (walk ≡ Some w)
    some-of None some = absurd (some refl)
    some-of (Some w) some = (w, refl)

    pub walk-in : (w : W) × (get_or check.walks slot None ≡ Some w)
    walk-in = some-of (get_or check.walks slot None) has-walk

    owns-lane : owner_in role h p ≡ owner_of_lane (lane_in cpus slot)
    owns-lane = at.owns ∙ sym (owner_of-lane_for (owner_of cpus slot))

    pub alone-in : IsAloneIn header s (lane_in cpus slot) p h
    alone-in = IsAloneIn-apart pressure normal header s items h p is.keeps.legal at.least at.most is.keeps.apart
        (lane_in cpus slot) owns-lane

    -- also with a step of a pass
    pub alone-with : (e : Event Step) → IsLegal (facts_of header s) (e ∷ h) → e.caller ≢ 0
        → IsAloneIn header s (lane_in cpus slot) p (e ∷ h)
    alone-with e legal others = IsAloneIn-apart pressure normal header s items (e ∷ h) p legal at.least
        (omega (arith, at.most, same))
        (λ r t r_least r_most t_least t_most owners. is.keeps.apart r t r_least (omega (arith, r_most, same)) t_least
        (omega (arith, t_most, same))
        (sym (owner_in-others role e h r others) ∙ owners ∙ owner_in-others role e h t others))
        (lane_in cpus slot) (owner_in-others role e h p others ∙ owns-lane)
      where
        same : begun_in role (e ∷ h) ≡ begun_in role h
        same = begun_in-others role e h others
