-- For other crates too: which histories of a lowered threshold are legal, and which aren't.
use Rattle.std.proofs.Common.{◌≡◌, ℕ, ◌+◌, ◌*◌, ◌≤◌, Bool, true, false, true≢false, [], length, get_or, Option, Some}
use Rattle.std.proofs.Common.{None, inl, pos, refl, sym, ap, ◌∙◌, arith, subst, if◌then◌else◌, nat_eq}
use Rattle.std.proofs.lemmas.List.Elements.{All-nil, All-cons}
use Rattle.vms_history.specs.Common.{Diffs, Covers, IsLayout, cell, IsValidSize, size_at, own}
use Rattle.vms_core.specs.declared.states.Threshold.{Threshold}
use Rattle.vms_core.specs.Common.{IsBase, mark_at, eight_zeros, took, IsLegal, peak_sum, state_of_one, one_zone, cpu}
use Rattle.vms_core.specs.Common.{threshold_lowered, threshold_loaded, after_take, acknowledged, found_none}
use Rattle.vms_core.specs.Common.{found_newest, found_older, uncovered_threshold, uncovered_mark, acknowledged_early}
use Rattle.vms_core.specs.Common.{acknowledged_other}
use Rattle.vms_core.proofs.LevelStates.{IsOpening-level, get_or-copies}

layout : IsLayout one_zone.layout
layout = record {
  some_zone = omega arith;
  zones_most = omega arith;
  zones_ascend = λ k within. absurd (omega arith);
  nodes_ascend = λ k within. absurd (omega arith);
  nodes_named = λ node. (λ x. x, λ x. x);
  nodes_most = All-cons (λ node. node ≤ 15) 0 [] (omega arith) (All-nil (λ node. node ≤ 15));
  cpus_least = omega arith;
  cpus_most = omega arith;
  positions = inl refl;
  narrow_cpus = λ e. omega arith;
}

base : IsBase one_zone
base = record {
  layout = layout;
  one_size_each = refl;
  sizes = All-cons IsValidSize (size_at one_zone.sizes 0) []
      (record {
        managed_least = omega arith;
        managed_most = omega arith;
        low_above_min = omega arith;
        high_above_low = omega arith;
        high_most = omega arith;
      })
      (All-nil IsValidSize);
  opening = IsOpening-level one_zone.layout layout state_of_one (pos 0) 20 (omega arith) (omega arith) (omega arith)
      refl refl refl refl refl refl refl refl refl refl;
  covered = λ g known.
      let only : g ≡ 0 = omega arith in
      subst (λ n. Covers (size_at one_zone.sizes n) (mark_at one_zone.base n) (peak_sum one_zone n [])) (sym only)
      (record { unset = λ none. omega arith; set = λ some. absurd (omega arith) });
}

-- the pass that lives owns the CPU, so the control pass may begin
none_controls : (b : Bool) → (if b then true else false) ≡ true → (if b then Some cpu else None) ≡ None → ⊥
none_controls true lives owner = cc
none_controls false lives owner = cc

pub lowered_legal : IsLegal one_zone threshold_lowered
lowered_legal = (
  (
    (base, (refl, refl, (omega arith, refl), λ q lives owner. true≢false (sym lives)), tt),
    (refl, refl, tt, λ q lives owner. none_controls (nat_eq 1 q) lives owner),
    tt,
  ),
  (λ main. omega arith, refl),
  record {
    control = refl;
    cpu = omega arith;
    place = omega arith;
    online = refl;
    least = omega arith;
    most = omega arith;
    covers = λ known. record { unset = λ none. omega arith; set = λ some. absurd (omega arith) };
  },
)

told_legal : IsLegal one_zone threshold_loaded
told_legal = (
  lowered_legal,
  (λ main. omega arith, refl),
  record {
    cpu = cpu;
    owns = record { owner = refl; within = omega arith };
    place = omega arith;
    value = refl;
    number = refl;
  },
)

module _ (zeros : Diffs) (are : zeros.values ≡ eight_zeros) where
  taken_legal : IsLegal one_zone (after_take zeros)
  taken_legal = (
    told_legal,
    (λ main. omega arith, refl),
    record {
      cpu = omega arith;
      group = omega arith;
      values = record {
        eight = ap length are;
        each = λ i within.
            ap (λ values. get_or values i (pos 0)) are ∙ get_or-copies 8 i (pos 0)
            ∙ sym (get_or-copies 16 (cell 16 0 (8 * 0 + i)) (pos 0));
      };
    },
  )

  acknowledged_legal : IsLegal one_zone (acknowledged zeros)
  acknowledged_legal = (
    taken_legal,
    (λ main. omega arith, refl),
    record {
      cpu = cpu;
      owns = record { owner = refl; within = omega arith };
      zone = omega arith;
      t = 5;
      as_loaded = refl;
      took_each = λ j known there.
          let only : j ≡ 0 = omega arith in
          subst (λ n. took cpu 0 n (own (after_take zeros) 1) ≡ true)
          (sym only) refl;
      put_nothing = refl;
    },
  )

  pub found_newest_legal : IsLegal one_zone (found_newest zeros)
  found_newest_legal = (
    acknowledged_legal,
    (λ main. omega arith, refl),
    record { control = refl; cpu = omega arith; zone = omega arith; value = refl },
  )

  pub found_older_legal : IsLegal one_zone (found_older zeros)
  found_older_legal = (
    (
      acknowledged_legal,
      (λ main. omega arith, refl),
      record {
        control = refl;
        cpu = omega arith;
        place = omega arith;
        online = refl;
        least = omega arith;
        most = omega arith;
        covers = λ known. record { unset = λ none. omega arith; set = λ some. absurd (omega arith) };
      },
    ),
    (λ main. omega arith, refl),
    record { control = refl; cpu = omega arith; zone = omega arith; value = refl },
  )

pub found_none_legal : IsLegal one_zone found_none
found_none_legal = (
  lowered_legal,
  (λ main. omega arith, refl),
  record { control = refl; cpu = omega arith; zone = omega arith; value = refl },
)

pub uncovered_threshold_illegal : IsLegal one_zone uncovered_threshold → ⊥
uncovered_threshold_illegal legal = let enough = (legal.2.covers (omega arith)).unset refl in omega arith

pub uncovered_mark_illegal : IsLegal one_zone uncovered_mark → ⊥
uncovered_mark_illegal legal = let enough = legal.2.covers.set (omega arith) in omega arith

pub acknowledged_early_illegal : IsLegal one_zone acknowledged_early → ⊥
acknowledged_early_illegal legal = true≢false (sym (legal.2.took_each 0 (omega arith) refl))

-- the number that was told, or 0
abbrev number_told : Option Threshold → ℕ
number_told None = 0
number_told (Some told) = told.number

pub acknowledged_other_illegal : (zeros : Diffs) → IsLegal one_zone (acknowledged_other zeros) → ⊥
acknowledged_other_illegal zeros legal =
    let numbers : ◌≡◌ {A = ℕ} 1 0 = ap number_told legal.2.as_loaded in different numbers
  where
    different : ◌≡◌ {A = ℕ} 1 0 → ⊥
    different same = omega arith
