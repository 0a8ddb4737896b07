-- Which words a change of differentials leaves.
use Rattle.std.proofs.Common.{◌≡◌, ◌≢◌, ℕ, ◌+◌, ◌*◌, ◌<◌, ◌&&◌, Bool, true, List, ℤ, refl, sym, ap, ◌∙◌, arith}
use Rattle.std.proofs.Common.{if◌then◌else◌, nat_eq, eqb-true}
use Rattle.std.proofs.lemmas.Bool.{and_parts}
use Rattle.vms_calls.specs.Common.{CpuId, GroupId, Shape, IsCounter, IsGroup, group_of, counter_count, State, diff_at}
use Rattle.vms_base.specs.Groups.{word_of_bytes}
use Rattle.vms_history.proofs.Common.{if-never}
use Rattle.vms_core.proofs.Common.{group-within}
use Rattle.vms_words.specs.declared.spots.Spot.{Spot}
use Rattle.vms_words.specs.declared.spots.Spot.TheVariants.{Value, System, Group, Threshold, Mark, Cpu, Acknowledgement}
use Rattle.vms_words.specs.Common.{spot_word, group_at, IsSpot}
use Rattle.vms_words.proofs.GroupWords.{length-group_at, get_or-group_at, group-is}

pub known-member : (shape : Shape) (j n : ℕ) → IsGroup shape j → n < 8 → IsCounter shape (8 * j + n)
known-member shape j n j_in less = omega (arith, group-within (counter_count shape) j j_in)

pub group-same : (s later : State) (c j : ℕ)
    → ((n : ℕ) → n < 8 → diff_at later c (8 * j + n) ≡ diff_at s c (8 * j + n)) → group_at later c j ≡ group_at s c j
group-same s later c j same =
    sym (group-is later c j (group_at s c j) (record {
      eight = length-group_at s c j;
      each = λ n less. get_or-group_at s c j n less ∙ sym (same n less);
    }))

-- where only differentials of CPU c in group j changed, the other words stay
module _ (shape : Shape) (s : State) (diffs : List ℤ) (c : CpuId) (j : GroupId) (at : ℕ → Bool) (new : ℤ)
    (inside : (k : ℕ) → at k ≡ true → group_of k ≡ j.number)
    (changes : (d k : ℕ) → IsCounter shape k → diff_at (record s { diff = diffs }) d k
    ≡ (if nat_eq c.number d && at k then new else diff_at s d k)) where
  abbrev later : State
  later = record s { diff = diffs }

  pub diffs-others : (other : Spot) → IsSpot shape other → other ≢ Group c j → spot_word later other ≡ spot_word s other
  diffs-others (Value k) known differs = refl
  diffs-others (System i) known differs = refl
  diffs-others (Group d i) known differs =
      ap word_of_bytes (group-same s later d.number i.number (λ n less.
      changes d.number (8 * i.number + n) (known-member shape i.number n known.1 less)
      ∙ if-never (nat_eq c.number d.number && at (8 * i.number + n)) new (diff_at s d.number (8 * i.number + n))
      (λ here.
      let both = and_parts (nat_eq c.number d.number) (at (8 * i.number + n)) here in
      let cpu : d.number ≡ c.number = sym (eqb-true c.number d.number both.0) in
      let group : i.number ≡ j.number = omega (arith, less, inside (8 * i.number + n) both.1) in
      differs (λ e. Group (record { number = cpu e }) (record { number = group e })))))
  diffs-others (Threshold d g) known differs = refl
  diffs-others (Mark g) known differs = refl
  diffs-others (Cpu d) known differs = refl
  diffs-others (Acknowledgement d g) known differs = refl
