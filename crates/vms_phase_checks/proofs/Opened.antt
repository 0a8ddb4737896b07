-- The check of a phase before its first event.
use Rattle.std.proofs.Common.{◌≡◌, ℕ, ◌+◌, ◌≤◌, List, [], length, get_or, Option, None, refl, sym, ap, subst, ◌∙◌}
use Rattle.std.proofs.Common.{arith, replicate}
use Rattle.std.proofs.lemmas.List.{length-replicate}
use Rattle.vms_world.specs.Common.{Act, Facts, Header, Item, Lane, State, ZoneSize, facts_of}
use Rattle.vms_core.specs.Pages.{History}
use Rattle.vms_core.proofs.Common.{get_or-copies}
use Rattle.vms_registers.specs.Shows.{Parts}
use Rattle.vms_page_registers.specs.declared.registers.PageRegisters.{PageRegisters}
use Rattle.vms_phase_checks.specs.declared.checks.PhaseCheck.{PhaseCheck}
use Rattle.vms_phase_checks.specs.Common.{AreLaneActs, Checks, ShowsPages, WalksIn}

module _ {W : Type 0} (Stands : Header → State → Lane → ℕ → List Act → History → W → Type 0)
    (pressure normal : ZoneSize → ℕ → ℕ → Type 0) (header : Header) (s : State) (items : List Item) (facts : Facts)
    (facts-is : facts ≡ facts_of header s) (r : Parts PageRegisters) (shows : ShowsPages (facts_of header s) [] r)
    (n : ℕ) (n-is : n ≡ header.layout.cpus) (lanes : List (List Act)) (acts : AreLaneActs n items lanes)
    (walks : List (Option W)) (walks-is : walks ≡ replicate (n + 1) None) where
  acts-of : AreLaneActs header.layout.cpus items lanes
  acts-of = subst (λ (m : ℕ). AreLaneActs m items lanes) n-is acts

  none-in : (slot : ℕ) → get_or walks slot None ≡ None
  none-in slot = ap (λ (ws : List (Option W)). get_or ws slot None) walks-is ∙ get_or-copies (n + 1) slot None

  pub Checks-opened : Checks Stands pressure normal header s items []
      (record { facts = facts; registers = r; lanes = lanes; walks = walks; events = 0 })
  Checks-opened = record {
    facts = facts-is;
    keeps = record {
      legal = shows.legal;
      among = λ q least most. absurd (omega (arith, least, most));
      apart = λ q t q_least q_most t_least t_most same. absurd (omega (arith, q_least, q_most));
      along = λ q least most. absurd (omega (arith, least, most));
      ended = λ q least most gone. absurd (omega (arith, least, most));
    };
    shows = shows;
    one_list_each = acts-of.one_each;
    acts = acts-of.each;
    one_walk_each = ap (λ (ws : List (Option W)). length ws) walks-is ∙ length-replicate (n + 1) None
        ∙ ap (λ (m : ℕ). m + 1) n-is;
    walks = λ slot slot_in. subst (WalksIn Stands pressure normal header s items [] slot) (sym (none-in slot))
        (λ q least most owns. absurd (omega (arith, least, most)));
    counted = refl;
  }
