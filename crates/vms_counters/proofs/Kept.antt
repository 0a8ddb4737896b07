-- What the main pass of a table knows of its passes, when it has begun or ended one, and when they have all ended.
use Rattle.std.proofs.Common.{◌≡◌, ◌≢◌, ℕ, ◌<◌, nat_eq, if◌then◌else◌, Bool, true, false, true≢false, List, [], length}
use Rattle.std.proofs.Common.{get_or, set, replicate, Option, Some, None, refl, ap, sym, ◌∙◌, subst, arith, eqb-true}
use Rattle.std.proofs.Common.{length-set, All, IsSome}
use Rattle.std.proofs.lemmas.Bool.{eqb-false}
use Rattle.std.proofs.lemmas.List.{length-replicate, get_or-replicate}
use Rattle.std.proofs.lemmas.List.Elements.{All-get_or}
use Rattle.vms_world.specs.Common.{CpuId, Ends, Event, IsFree, Machine, lives_in}
use Rattle.vms_history.specs.Legal.{IsLegal}
use Rattle.vms_history.specs.Passes.Role.{Begins}
use Rattle.vms_history.proofs.Common.{get_or-set, same_cpu}
use Rattle.vms_seats.specs.Common.{HasBegun, HasEnded, IsFrom, IsLive, Pass, Shared, next_number}
use Rattle.vms_seats.proofs.Common.{free-first, is_of-later}
use Rattle.vms_counters.specs.Owning.{GoesOnWithOthers, IsOut, KnowsControl, KnowsOwner, KnowsPasses}
use Rattle.vms_counters.proofs.Others.{stands-free, stands-owned}
use Rattle.vms_counters.proofs.Owning.{free-begun, out-begun, out-still_begun, goes-before, free-still_ended}
use Rattle.vms_counters.proofs.Owning.{free-ended, out-still_ended, none-live}

number_of : Option CpuId → ℕ
number_of (Some c) = c.number
number_of None = 0

same_number : (d c : CpuId) → Some d ≡ Some c → c.number ≡ d.number
unfolding number_of
same_number d c same = sym (ap number_of same)

cpu_is_some : (c : CpuId) → None ≡ Some c → ⊥
cpu_is_some c same = cc

none_is_no_cpu : (c : CpuId) → Some c ≡ None → ⊥
none_is_no_cpu c same = cc

module _ {F K S V : Type 0} (machine : Machine F K S) (Holds : F → List (Event K) → CpuId → V → Type 0)
    (others : GoesOnWithOthers machine Holds) (begins : ℕ → Option CpuId → K)
    (begins_it : (q : ℕ) (who : Option CpuId) → machine.role (begins q who) ≡ Begins q who) (ends : ℕ → K)
    (ends_it : (q : ℕ) → machine.role (ends q) ≡ Ends q) (words : Shared F) (new old pass : Pass F K)
    (volumes : List (Option V)) (control : Bool) (knows : KnowsPasses machine Holds words old volumes control) where
  abbrev Knows : List (Event K) → CpuId → Option V → Type 0
  Knows seen cpu kept = KnowsOwner machine Holds old.facts seen cpu kept

  -- the volumes of one CPU are others, and those of each other CPU stay
  each-set : (cpu : CpuId) (kept : Option V) → cpu.number < length volumes → Knows new.seen cpu kept
      → ((d : CpuId) → Some d ≢ Some cpu → (before : Option V) → Knows old.seen d before → Knows new.seen d before)
      → (d : CpuId) → d.number < length (set volumes cpu.number kept)
      → Knows new.seen d (get_or (set volumes cpu.number kept) d.number None)
  each-set cpu kept known here elsewhere d d_in =
      subst (Knows new.seen d) (sym (get_or-set volumes cpu.number d.number kept None known))
      (by (nat_eq cpu.number d.number) refl)
    where
      by : (b : Bool) → nat_eq cpu.number d.number ≡ b
          → Knows new.seen d (if b then kept else get_or volumes d.number None)
      by true same = subst (λ c. Knows new.seen c kept) (same_cpu cpu d (eqb-true cpu.number d.number same)) here
      by false apart =
          elsewhere d (λ same. eqb-false cpu.number d.number apart (same_number d cpu same))
          (get_or volumes d.number None)
          (knows.each d (omega (arith, d_in, length-set volumes cpu.number kept)))

  -- what is known by the facts of a table is known by the same facts
  each-facts : (later : List (Option V)) → new.facts ≡ old.facts
      → ((d : CpuId) → d.number < length later → Knows new.seen d (get_or later d.number None))
      → (d : CpuId) → d.number < length later
      → KnowsOwner machine Holds new.facts new.seen d (get_or later d.number None)
  each-facts later same each d d_in =
      subst (λ (facts : F). KnowsOwner machine Holds facts new.seen d (get_or later d.number None)) (sym same)
      (each d d_in)

  -- the main pass began a pass
  module _ (who : Option CpuId) (begun : HasBegun machine begins new old pass who) where
    knows-begun : (d : CpuId) → Some d ≢ who → (kept : Option V) → Knows old.seen d kept → Knows new.seen d kept
    knows-begun d other (Some kept) home = record {
      free = free-begun machine begins begins_it ends ends_it new old pass knows.legal who begun (Some d) other
          home.free;
      holds = stands-free machine Holds others old.facts d kept new.seen old.seen
          (begins (next_number machine old.seen) who) begun.made home.free home.holds;
    }
    knows-begun d other None out =
        out-still_begun machine begins begins_it ends ends_it new old pass knows.legal who begun (Some d) out

    control-begun : None ≢ who → (b : Bool) → KnowsControl machine.role old.seen b
        → KnowsControl machine.role new.seen b
    control-begun other true free =
        free-begun machine begins begins_it ends ends_it new old pass knows.legal who begun None other free
    control-begun other false out =
        out-still_begun machine begins begins_it ends ends_it new old pass knows.legal who begun None out

    legal-begun : IsLegal machine new.facts new.seen
    legal-begun = subst (λ (facts : F). IsLegal machine facts new.seen) (sym begun.main.facts) begun.made.legal

  pub knows-begun_cpu : (cpu : CpuId) → cpu.number < length volumes → HasBegun machine begins new old pass (Some cpu)
      → KnowsPasses machine Holds words new (set volumes cpu.number None) control
  knows-begun_cpu cpu known begun = record {
    of = is_of-later words new old begun.main knows.of;
    legal = legal-begun (Some cpu) begun;
    knows_control = control-begun (Some cpu) begun (cpu_is_some cpu) control knows.knows_control;
    each = each-facts (set volumes cpu.number None) begun.main.facts
        (each-set cpu None known
        (out-begun machine begins begins_it ends ends_it new old pass knows.legal (Some cpu) begun)
        (knows-begun (Some cpu) begun));
  }

  pub knows-begun_control : HasBegun machine begins new old pass None
      → KnowsPasses machine Holds words new volumes false
  knows-begun_control begun = record {
    of = is_of-later words new old begun.main knows.of;
    legal = legal-begun None begun;
    knows_control = out-begun machine begins begins_it ends ends_it new old pass knows.legal None begun;
    each = each-facts volumes begun.main.facts (λ d d_in.
        knows-begun None begun d (none_is_no_cpu d) (get_or volumes d.number None) (knows.each d d_in));
  }

  -- it ended a pass
  module _ (live : IsLive machine pass) (same : pass.facts ≡ old.facts) (ended : HasEnded machine ends new old pass)
    where
      knows-ended : (d : CpuId) → Some d ≢ pass.cpu → (before : Option V) → Knows old.seen d before
          → Knows new.seen d before
      knows-ended d other (Some before) home = record {
        free = free-still_ended machine begins begins_it ends ends_it new old pass knows.legal live same ended (Some d)
            home.free;
        holds = stands-free machine Holds others old.facts d before new.seen old.seen (ends pass.number) ended.made
            home.free home.holds;
      }
      knows-ended d other None out =
          out-still_ended machine begins begins_it ends ends_it new old pass knows.legal live same ended (Some d) other
          out

      control-ended : None ≢ pass.cpu → (b : Bool) → KnowsControl machine.role old.seen b
          → KnowsControl machine.role new.seen b
      control-ended other true free =
          free-still_ended machine begins begins_it ends ends_it new old pass knows.legal live same ended None free
      control-ended other false out =
          out-still_ended machine begins begins_it ends ends_it new old pass knows.legal live same ended None other out

      legal-ended : IsLegal machine new.facts new.seen
      legal-ended = subst (λ (facts : F). IsLegal machine facts new.seen) (sym ended.main.facts) ended.made.legal

      pub knows-ended_control : pass.cpu ≡ None → KnowsPasses machine Holds words new volumes true
      knows-ended_control none = record {
        of = is_of-later words new old ended.main knows.of;
        legal = legal-ended;
        knows_control = subst (IsFree machine.role new.seen) none
            (free-ended machine begins begins_it ends ends_it new old pass knows.legal live same ended);
        each = each-facts volumes ended.main.facts (λ d d_in.
            knows-ended d (λ is. none_is_no_cpu d (is ∙ none)) (get_or volumes d.number None) (knows.each d d_in));
      }

      pub knows-ended_cpu : (cpu : CpuId) (kept : V) → pass.cpu ≡ Some cpu → cpu.number < length volumes
          → Holds pass.facts pass.seen cpu kept
          → KnowsPasses machine Holds words new (set volumes cpu.number (Some kept)) control
      knows-ended_cpu cpu kept owns known holds = record {
        of = is_of-later words new old ended.main knows.of;
        legal = legal-ended;
        knows_control = control-ended (λ is. cpu_is_some cpu (is ∙ owns)) control knows.knows_control;
        each = each-facts (set volumes cpu.number (Some kept)) ended.main.facts
            (each-set cpu (Some kept) known at_home (λ d other. knows-ended d (λ is. other (is ∙ owns))));
      }
        where
          at_home : Knows new.seen cpu (Some kept)
          at_home = record {
            free = subst (IsFree machine.role new.seen) owns
                (free-ended machine begins begins_it ends ends_it new old pass knows.legal live same ended);
            holds = stands-owned machine Holds others old.facts cpu kept new.seen old.seen (ends pass.number) ended.made
                pass.seen pass.number
                (goes-before machine begins begins_it ends ends_it new old pass knows.legal live same ended)
                (live.owner ∙ owns)
                (subst (λ (facts : F). Holds facts pass.seen cpu kept) same holds);
          }

module _ {F K S V : Type 0} (machine : Machine F K S) (Holds : F → List (Event K) → CpuId → V → Type 0)
    (words : Shared F) (main : Pass F K) where
  -- what a CPU's volumes say of the passes
  module _ (volumes : List (Option V)) (control : Bool) (knows : KnowsPasses machine Holds words main volumes control)
      (cpu : CpuId) (known : cpu.number < length volumes) where
    pub home-kept : (kept : V) → get_or volumes cpu.number None ≡ Some kept
        → KnowsOwner machine Holds main.facts main.seen cpu (Some kept)
    home-kept kept is = subst (KnowsOwner machine Holds main.facts main.seen cpu) is (knows.each cpu known)

    pub out-kept : get_or volumes cpu.number None ≡ None → IsOut machine.role main.seen (Some cpu)
    out-kept is = subst (KnowsOwner machine Holds main.facts main.seen cpu) is (knows.each cpu known)

  -- where all volumes are kept and no control pass lives, no pass lives
  module _ (volumes : List (Option V)) (knows : KnowsPasses machine Holds words main volumes true) where
    free-known : (cpu : CpuId) (kept : Option V) → IsSome kept
        → KnowsOwner machine Holds main.facts main.seen cpu kept → IsFree machine.role main.seen (Some cpu)
    free-known cpu (Some kept) some home = home.free
    free-known cpu None some out = absurd (true≢false (sym some))

    pub none-live-kept : All IsSome volumes
        → ((cpu : CpuId) → machine.MayOwn main.facts (Some cpu) → cpu.number < length volumes)
        → (q : ℕ) → lives_in machine.role main.seen q ≡ false
    none-live-kept all known =
        none-live machine main.facts main.seen knows.legal
        (λ cpu may. free-known cpu (get_or volumes cpu.number None)
        (All-get_or IsSome volumes cpu.number None (known cpu may) all) (knows.each cpu (known cpu may)))
        knows.knows_control

  -- before any pass has begun each CPU is at home, with volumes that hold nothing
  pub knows-first : IsFrom main words → main.seen ≡ [] → machine.CanBegin main.facts → (n : ℕ) (kept : V)
      → ((cpu : CpuId) → cpu.number < n → Holds main.facts [] cpu kept)
      → KnowsPasses machine Holds words main (replicate n (Some kept)) true
  knows-first of nothing base n kept holds = record {
    of = of;
    legal = subst (IsLegal machine main.facts) (sym nothing) base;
    knows_control = free-first machine main.seen None nothing;
    each = λ cpu cpu_in.
        let known : cpu.number < n = omega (arith, cpu_in, length-replicate n (Some kept)) in
        subst (KnowsOwner machine Holds main.facts main.seen cpu)
        (sym (get_or-replicate n cpu.number (Some kept) None known))
        (record {
          free = free-first machine main.seen (Some cpu) nothing;
          holds = subst (λ (h : List (Event K)). Holds main.facts h cpu kept) (sym nothing) (holds cpu known);
        });
  }
