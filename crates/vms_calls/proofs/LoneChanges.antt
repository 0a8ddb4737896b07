-- For other crates too: a change that meets no other caller follows any legal history in which its pass may make it.
use Rattle.std.proofs.Common.{◌≡◌, ◌≢◌, ℕ, ◌+◌, nat_eq, ◌&&◌, Bool, true, false, ℤ, pos, ◌+ℤ◌, List, [], ◌∷◌, Some}
use Rattle.std.proofs.Common.{refl, sym, ap, ◌∙◌, subst, arith, eq-eqb, if◌then◌else◌, unsigned_abs, ⊎_elim}
use Rattle.std.proofs.lemmas.Int.{ints}
use Rattle.std.proofs.lemmas.List.Elements.{All-from_recursion}
use Rattle.vms_history.specs.Common.{Diffs, CounterId, CpuId, Online, Mode, IsLayout, place_of, group_of, item_of, own}
use Rattle.vms_history.specs.Common.{Works}
use Rattle.vms_base.proofs.Common.{place_of-lt, group_of-lt, item_of-lt}
use Rattle.vms_history.specs.declared.events.Event.{Event}
use Rattle.vms_history.proofs.Common.{own-after_others, base_can_begin, zero_or_not}
use Rattle.vms_core.proofs.Common.{event, Stands, Stands-next, owner_now, spent-after, with_carried-nothing}
use Rattle.vms_core.proofs.Common.{with_change-steps, group_is_list}
use Rattle.vms_calls.proofs.Amounts.{if-cancelled}
use Rattle.vms_core.specs.declared.states.State.{State}
use Rattle.vms_core.specs.declared.steps.Facts.{Facts}
use Rattle.vms_core.specs.declared.steps.Step.{Step}
use Rattle.vms_core.specs.declared.steps.Step.TheVariants.{LoadT, LoadD, Put, AddG, AddS}
use Rattle.vms_calls.specs.Common.{Carries, HasWon, nothing, amount, won, MayChange, FollowsAlone, GoesOnWithChange}
use Rattle.vms_core.specs.Common.{TellsGroup, entry, value_at, threshold_at, threshold_sets_at, cpu_at, with_value}
use Rattle.vms_core.specs.Common.{with_diff, differential_after, carried_by, Meets, Owns, with_carried, with_change}
use Rattle.vms_core.specs.Common.{CarriesNothing, carried, carried_of_item, found, loaded, pages, History, state_after}
use Rattle.vms_core.specs.Common.{role, own_effect, effect_of, spent, spent_by}

if_zero : (b : Bool) (z rest : ℤ) → z ≡ pos 0 → rest ≡ pos 0 → (if b then z else pos 0) +ℤ rest ≡ pos 0
if_zero true z rest none e = omega (arith, ints)
if_zero false z rest none e = omega (arith, ints)

module _ (facts : Facts) (h : History) (p : ℕ) (cpu : CpuId) (k : CounterId) (delta : ℤ) (how : Mode)
    (may : MayChange facts h p cpu k delta) (s : State) (s_is : state_after facts h ≡ s) (t number : ℕ) (w : Diffs)
    (t_told : threshold_at s cpu.number (place_of facts.layout k.number) ≡ t)
    (number_told : threshold_sets_at s cpu.number (place_of facts.layout k.number) ≡ number)
    (told : TellsGroup s cpu.number (group_of k.number) w.values) where
  abbrev load_t : Step
  load_t = LoadT (record { number = place_of facts.layout k.number }) t number

  abbrev load_d : Step
  load_d = LoadD cpu (record { number = group_of k.number }) w

  abbrev put : Step
  put = Put k w t delta how

  abbrev z : ℤ
  z = carried_by how t (entry w.values k.number) delta

  abbrev changed : State
  changed = with_diff s cpu.number k.number (differential_after how t (entry w.values k.number) delta)

  abbrev made : Step → Event Step
  made step = event facts p cpu may.other_than_main step

  -- pass p has made the events `mine`, and the state is `now`
  abbrev Now : History → State → History → Type 0
  Now mine now g = Stands facts p cpu may.other_than_main (own h 0) mine now g

  next : (mine : History) (now : State) (g : History) (step : Step) → role step ≡ Works → Now mine now g
      → Meets facts g now p step → Now (made step ∷ mine) (own_effect cpu step (effect_of step now)) (made step ∷ g)
  next = Stands-next facts p cpu may.other_than_main (own h 0) may.lives may.owner

  spent_next : (mine : History) (now : State) (g : History) (step : Step) → Now mine now g → (c l : ℕ)
      → spent (made step ∷ g) c l ≡ spent_by (Some cpu) c l step + spent g c l
  spent_next = spent-after facts p cpu may.other_than_main (own h 0) may.lives may.owner

  is_layout : IsLayout facts.layout
  is_layout = (base_can_begin pages facts h may.legal).layout

  owned : (mine : History) (now : State) (g : History) → Now mine now g → Owns facts g p cpu
  owned mine now g stands = record {
    owner = owner_now facts p cpu may.other_than_main (own h 0) may.lives may.owner mine now g stands;
    within = may.cpu_known;
  }

  start : Now (own h p) s h
  start = record { legal = may.legal; main_is = refl; mine_is = refl; state_is = s_is }

  after_threshold : Now (made load_t ∷ own h p) s (made load_t ∷ h)
  after_threshold = next (own h p) s h load_t refl start (record {
    cpu = cpu;
    owns = owned (own h p) s h start;
    place = place_of-lt facts.layout is_layout k.number may.counter_known;
    value = t_told;
    number = number_told;
  })

  after_diffs : Now (made load_d ∷ made load_t ∷ own h p) s (made load_d ∷ made load_t ∷ h)
  after_diffs = next (made load_t ∷ own h p) s (made load_t ∷ h) load_d refl after_threshold (record {
    cpu = may.cpu_known;
    group = group_of-lt facts.layout is_layout k.number may.counter_known;
    values = told;
  })

  found_there : found cpu (group_of k.number) (made load_d ∷ made load_t ∷ own h p) ≡ Some w.values
  found_there = rw (eq-eqb cpu.number cpu.number refl, eq-eqb (group_of k.number) (group_of k.number) refl)

  loaded_there : loaded (place_of facts.layout k.number) (made load_d ∷ made load_t ∷ own h p)
      ≡ Some (record { t = t; number = number })
  loaded_there = rw (eq-eqb (place_of facts.layout k.number) (place_of facts.layout k.number) refl)

  nothing_yet : CarriesNothing facts.layout (made load_d ∷ made load_t ∷ own h p)
  nothing_yet = record {
    counters = λ l. omega (arith, ints, may.nothing_carried.counters l);
    items = λ i. omega (arith, ints, may.nothing_carried.items i);
  }

  spent_yet : (c l : ℕ) → spent (made load_d ∷ made load_t ∷ h) c l ≡ spent h c l
  spent_yet c l = omega (
    arith,
    spent_next (made load_t ∷ own h p) s (made load_t ∷ h) load_d after_threshold c l,
    spent_next (own h p) s h load_t start c l,
  )

  after_put : Now (made put ∷ made load_d ∷ made load_t ∷ own h p) changed
      (made put ∷ made load_d ∷ made load_t ∷ h)
  after_put = next (made load_d ∷ made load_t ∷ own h p) s
      (made load_d ∷ made load_t ∷ h) put refl after_diffs (record {
        cpu = cpu;
        owns = owned (made load_d ∷ made load_t ∷ own h p) s (made load_d ∷ made load_t ∷ h) after_diffs;
        counter = may.counter_known;
        values = told;
        as_found = ap (found cpu (group_of k.number)) after_diffs.mine_is ∙ found_there;
        number = number;
        as_loaded = ap (loaded (place_of facts.layout k.number)) after_diffs.mine_is ∙ loaded_there;
        online = subst (λ (now : State). cpu_at now cpu.number ≡ Online) s_is may.online;
        nothing_carried = subst (λ (mine : History). CarriesNothing facts.layout mine)
            (sym after_diffs.mine_is) nothing_yet;
        affordable = rw spent_yet may.affordable;
      })

  spent_then : (c l : ℕ) → spent (made put ∷ made load_d ∷ made load_t ∷ h) c l
      ≡ (if nat_eq cpu.number c && nat_eq k.number l then unsigned_abs delta + spent h c l else spent h c l)
  spent_then c l =
      spent_next (made load_d ∷ made load_t ∷ own h p) s
      (made load_d ∷ made load_t ∷ h) put after_diffs c l
      ∙ ap (λ n. (if nat_eq cpu.number c && nat_eq k.number l then unsigned_abs delta else 0) + n) (spent_yet c l)
      ∙ by (nat_eq cpu.number c && nat_eq k.number l)
    where
      by : (b : Bool) → (if b then unsigned_abs delta else 0) + spent h c l
          ≡ (if b then unsigned_abs delta + spent h c l else spent h c l)
      by true = refl
      by false = omega arith

  state_next : with_carried facts.layout k.number z changed ≡ with_change facts.layout cpu.number k.number delta how s
  state_next = with_change-steps facts.layout s cpu.number k.number t w.values delta how t_told told

  -- nothing is carried: the put is the last step
  module _ (none : z ≡ pos 0) where
    without_additions : FollowsAlone facts h p cpu k delta how (load_t ∷ load_d ∷ put ∷ [])
        (with_change facts.layout cpu.number k.number delta how s)
    without_additions = record {
      change = record {
        change = record {
          t = t;
          number = number;
          first = w;
          last = w;
          exchange = put ∷ [];
          additions = [];
          exchanges = won;
          carries = subst (λ (a : ℤ). Carries facts.layout k a []) (sym none) nothing;
          in_order = refl;
        };
        alone = All-from_recursion HasWon (load_t ∷ load_d ∷ put ∷ []) (tt, (tt, (tt, tt)));
      };
      legal = after_put.legal;
      state = after_put.state_is ∙ sym (with_carried-nothing facts.layout k.number z changed none) ∙ state_next;
      nothing_carried = subst (λ (mine : History). CarriesNothing facts.layout mine) (sym after_put.mine_is) (record {
        counters = λ l. if_zero (nat_eq k.number l) z (carried l (made load_d ∷ made load_t ∷ own h p)) none
            (nothing_yet.counters l);
        items = λ i. if_zero (nat_eq (item_of facts.layout k.number) i) z
            (carried_of_item facts.layout i (made load_d ∷ made load_t ∷ own h p)) none (nothing_yet.items i);
      });
      others = λ q other. own-after_others p (load_t ∷ load_d ∷ put ∷ []) h q other;
      spends = spent_then;
    }

  -- an amount is carried, to the counter's global value and then to its item's
  module _ (some : z ≢ pos 0) where
    abbrev add_g : Step
    add_g = AddG k z

    abbrev add_s : Step
    add_s = AddS (record { number = item_of facts.layout k.number }) z

    abbrev mine_then : History
    mine_then = made put ∷ made load_d ∷ made load_t ∷ own h p

    abbrev history_then : History
    history_then = made put ∷ made load_d ∷ made load_t ∷ h

    carries_z : carried k.number mine_then ≡ z
    carries_z = rw (eq-eqb k.number k.number refl) (omega (arith, ints, nothing_yet.counters k.number))

    carries_z_of_item : carried_of_item facts.layout (item_of facts.layout k.number) (made add_g ∷ mine_then) ≡ z
    carries_z_of_item = rw (eq-eqb (item_of facts.layout k.number) (item_of facts.layout k.number) refl)
        (omega (arith, ints, nothing_yet.items (item_of facts.layout k.number)))

    after_place : Now (made add_g ∷ mine_then)
        (with_value changed k.number (value_at changed k.number +ℤ z)) (made add_g ∷ history_then)
    after_place = next mine_then changed history_then add_g refl after_put (record {
      counter = may.counter_known;
      carries = ap (carried k.number) after_put.mine_is ∙ carries_z;
      some = some;
    })

    after_system : Now (made add_s ∷ made add_g ∷ mine_then)
        (with_carried facts.layout k.number z changed) (made add_s ∷ made add_g ∷ history_then)
    after_system = next (made add_g ∷ mine_then)
        (with_value changed k.number (value_at changed k.number +ℤ z))
        (made add_g ∷ history_then) add_s refl after_place (record {
          item = item_of-lt facts.layout is_layout k.number;
          carries = ap (carried_of_item facts.layout (item_of facts.layout k.number)) after_place.mine_is
              ∙ carries_z_of_item;
          some = some;
        })

    with_additions : FollowsAlone facts h p cpu k delta how (load_t ∷ load_d ∷ put ∷ add_g ∷ add_s ∷ [])
        (with_change facts.layout cpu.number k.number delta how s)
    with_additions = record {
      change = record {
        change = record {
          t = t;
          number = number;
          first = w;
          last = w;
          exchange = put ∷ [];
          additions = add_g ∷ add_s ∷ [];
          exchanges = won;
          carries = amount z some;
          in_order = refl;
        };
        alone = All-from_recursion HasWon (load_t ∷ load_d ∷ put ∷ add_g ∷ add_s ∷ []) (tt, (tt, (tt, (tt, (tt, tt)))));
      };
      legal = after_system.legal;
      state = after_system.state_is ∙ state_next;
      nothing_carried = subst (λ (mine : History). CarriesNothing facts.layout mine) (sym after_system.mine_is)
          (record {
            counters = λ l. omega (
              arith,
              ints,
              if-cancelled (nat_eq k.number l) z (carried l (made load_d ∷ made load_t ∷ own h p)),
              nothing_yet.counters l,
            );
            items = λ i. omega (
              arith,
              ints,
              if-cancelled (nat_eq (item_of facts.layout k.number) i) z
                  (carried_of_item facts.layout i (made load_d ∷ made load_t ∷ own h p)),
              nothing_yet.items i,
            );
          });
      others = λ q other. own-after_others p (load_t ∷ load_d ∷ put ∷ add_g ∷ add_s ∷ []) h q other;
      spends = λ c l. omega (
        arith,
        spent_next (made add_g ∷ mine_then)
            (with_value changed k.number (value_at changed k.number +ℤ z))
            (made add_g ∷ history_then) add_s after_place c l,
        spent_next mine_then changed history_then add_g after_put c l,
        spent_then c l,
      );
    }

  pub follows_alone : (more : List Step) × FollowsAlone facts h p cpu k delta how more
      (with_change facts.layout cpu.number k.number delta how s)
  follows_alone = ⊎_elim
      (λ (none : z ≡ pos 0). (load_t ∷ load_d ∷ put ∷ [], without_additions none))
      (λ (some : z ≢ pos 0). (load_t ∷ load_d ∷ put ∷ add_g some ∷ add_s some ∷ [], with_additions some))
      (zero_or_not z)

-- the eight differentials of the group are a list that a load may tell
pub GoesOnWithChange-holds : GoesOnWithChange
GoesOnWithChange-holds facts h p cpu k delta how may =
    let layout = (base_can_begin pages facts h may.legal).layout in
    let told = group_is_list facts h may.legal cpu.number (group_of k.number) may.cpu_known
    (group_of-lt facts.layout layout k.number may.counter_known) in
    follows_alone facts h p cpu k delta how may (state_after facts h) refl
    (threshold_at (state_after facts h) cpu.number (place_of facts.layout k.number))
    (threshold_sets_at (state_after facts h) cpu.number (place_of facts.layout k.number)) told.0 refl refl told.1
