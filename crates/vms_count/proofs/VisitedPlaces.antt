-- Places that a fold visits one after another, and the whole fold.
use Rattle.std.proofs.Common.{◌≡◌, ℕ, suc, ◌+◌, ◌*◌, ◌/◌, ◌<◌, ◌≤◌, ⊎_elim, Bool, true, false, nat_lt, ◌&&◌, ℤ, pos}
use Rattle.std.proofs.Common.{unsigned_abs, ◌+ℤ◌, List, [], ◌∷◌, ◌++◌, length, Some, refl, sym, ap, subst, ◌∙◌, arith}
use Rattle.std.proofs.Common.{append_assoc, length-append, append-nil, eq-eqb}
use Rattle.std.specs.Prelude.{replicate, All}
use Rattle.std.proofs.lemmas.Bool.Decides.{nat_tests}
use Rattle.vms_core.proofs.Common.{get_or-copies}
use Rattle.std.proofs.lemmas.Int.{ints}
use Rattle.std.proofs.lemmas.List.Elements.{All-append, All-cons, All-nil}
use Rattle.vms_calls.specs.Common.{Diffs, CpuId, Shape, IsLayout, IsCpu, IsGroup, IsPlace, IsZone, counter_at}
use Rattle.vms_calls.specs.Common.{first_of_group, group_of, item_count, place_count, place_of, own, after, FoundPlace}
use Rattle.vms_calls.specs.Common.{HasGroups, acknowledges, group_steps, lists_of, place_steps, system_steps}
use Rattle.vms_calls.specs.Common.{taken_of_item, in_turn, Facts, Step, LoadT, SetA, Acknowledges, CarriesNothing}
use Rattle.vms_calls.specs.Common.{carried, carried_of_item, has_put, pages}
use Rattle.vms_base.proofs.Common.{place_count-most}
use Rattle.vms_calls.proofs.Common.{fold-leaves}
use Rattle.vms_seats.specs.Common.{Pass, IsLive, Made, MadeOne}
use Rattle.vms_seats.proofs.Common.{calls-none, calls-both, calls-live}
use Rattle.vms_count.specs.Common.{owns_cpu, mine, sum_at, AreSums, NoneForCounters, FoldsGroups, FoldsPlace}
use Rattle.vms_count.specs.Common.{FoldsPlaces, HasFolded}
use Rattle.vms_count.proofs.PassEvents.{own-next, carried-next, carried_of_item-next, loaded-load}
use Rattle.vms_count.proofs.FoldEvents.{mine-after}
use Rattle.vms_count.proofs.TakenGroups.{in_turn-append, taken_of_item-append}

module _ (shape : Shape) (layout : IsLayout shape) where
  by_positions : (P : ℕ → Type 0) → P 8 → P 16 → P shape.positions
  by_positions P narrow wide = ⊎_elim (λ (is : shape.positions ≡ 8). subst P (sym is) narrow)
      (λ (is : shape.positions ≡ 16). subst P (sym is) wide) layout.positions

  pub first_group : (g : ℕ) → group_of (counter_at shape g 0) ≡ shape.positions / 8 * g
  first_group g = by_positions (λ n. (n * g + 0) / 8 ≡ n / 8 * g) (omega arith) (omega arith)

  pub item_count-most : item_count shape ≤ 32
  item_count-most = by_positions (λ n. 2 * n ≤ 32) (omega arith) (omega arith)

  -- each group of a place is one of the layout
  pub group-within : (g n : ℕ) → IsPlace shape g → n < shape.positions / 8 → IsGroup shape (shape.positions / 8 * g + n)
  group-within g n g_in = by_positions (λ w. n < w / 8 → w / 8 * g + n < w * place_count shape / 8)
      (λ within. omega arith) (λ within. omega arith)

  pub groups-few : (g : ℕ) → IsPlace shape g → group_of (counter_at shape g 0) < 64
  groups-few g g_in =
      let most = place_count-most shape layout in
      by_positions (λ w. (w * g + 0) / 8 < 64) (omega (arith, most)) (omega (arith, most))

  -- the groups of a place stand in a row
  group-range : (g j : ℕ) → place_of shape (first_of_group j) ≡ g
      → (group_of (counter_at shape g 0) ≤ j) × (j < group_of (counter_at shape g 0) + shape.positions / 8)
  group-range g j = by_positions
      (λ w. (8 * j) / w ≡ g → ((w * g + 0) / 8 ≤ j) × (j < (w * g + 0) / 8 + w / 8))
      (λ at. (omega arith, omega arith)) (λ at. (omega arith, omega arith))

  lists_of-append : (xs ys : List FoundPlace) → lists_of (xs ++ ys) ≡ lists_of xs ++ lists_of ys
  lists_of-append [] ys = refl
  lists_of-append (found ∷ xs) ys = ap (λ ws. found.groups ++ ws) (lists_of-append xs ys)
      ∙ sym (append_assoc found.groups (lists_of xs) (lists_of ys))

  lists_of-length : (g : ℕ) (places : List FoundPlace) → All (HasGroups shape) places
      → group_of (counter_at shape g 0) + length (lists_of places)
      ≡ group_of (counter_at shape (g + length places) 0)
  lists_of-length g [] has = let at : g + 0 ≡ g = omega arith in rw at (omega arith)
  lists_of-length g (found ∷ places) has =
      let here = (has 0 found (omega arith)).one_each in
      let rest = lists_of-length (suc g) places (λ n d less. has (suc n) d (omega arith)) in
      let at : g + suc (length places) ≡ suc g + length places = omega arith in
      rw at (omega (
        arith,
        length-append found.groups (lists_of places),
        here,
        rest,
        first_group g,
        first_group (suc g),
        next (shape.positions / 8) g,
      ))
    where
      next : (m n : ℕ) → m * suc n ≡ m * n + m
      next m n = omega arith

-- the owner of a CPU acknowledges the thresholds of zones, and nobody others
module _ (shape : Shape) (own : Bool) (g : ℕ) where
  pub acknowledges-zone : own ≡ true → IsZone shape g → acknowledges shape own g ≡ true
  acknowledges-zone is zone =
      let lt : nat_lt g (length shape.zones) ≡ true = grind (arith, nat_tests) in rw (is, lt) refl

  pub acknowledges-node : length shape.zones ≤ g → acknowledges shape own g ≡ false
  acknowledges-node past =
      let lt : nat_lt g (length shape.zones) ≡ false = grind (arith, nat_tests) in rw lt (by own)
    where
      by : (b : Bool) → (b && false) ≡ false
      by true = refl
      by false = refl

  pub acknowledges-none : own ≡ false → acknowledges shape own g ≡ false
  acknowledges-none is = rw is refl

-- the sums that a fold begins with
abbrev pub no_sums : List ℤ
no_sums = replicate 32 (pos 0)

pub sum_at-none : (i : ℕ) → sum_at no_sums i ≡ pos 0
sum_at-none i = get_or-copies 32 i (pos 0)

pub AreSums-none : AreSums 0 no_sums
AreSums-none = record { each = λ i. subst (λ z. unsigned_abs z ≤ 0) (sym (sum_at-none i)) (omega arith) }

-- what a load of a threshold and an acknowledgement leave
module _ (shape : Shape) (new old : Pass Facts Step) (g t a : ℕ) where
  pub none-load : MadeOne pages new old (LoadT (record { number = g }) t a) → NoneForCounters old → NoneForCounters new
  none-load one none k =
      carried-next new old (LoadT (record { number = g }) t a) one k ∙ omega (arith, ints, none k)

  none-set : MadeOne pages new old (SetA (record { number = g }) a) → NoneForCounters old → NoneForCounters new
  none-set one none k = carried-next new old (SetA (record { number = g }) a) one k ∙ omega (arith, ints, none k)

  unput-load : MadeOne pages new old (LoadT (record { number = g }) t a) → has_put shape g (mine new) ≡ false
  unput-load one = ap (has_put shape g) (own-next new old (LoadT (record { number = g }) t a) one)
      ∙ rw (eq-eqb g g refl) refl

-- a place whose groups were taken
module _ (shape : Shape) (c : CpuId) (g : ℕ) (groups : List Diffs) (long : length groups ≡ shape.positions / 8)
    (before after : List ℤ) where
  pub FoldsPlace-plain : (new old : Pass Facts Step)
      → FoldsGroups shape c (group_of (counter_at shape g 0)) groups new old before after
      → (b : Bool) → b ≡ false → FoldsPlace shape b c g new old before after
  FoldsPlace-plain new old folds b none = record {
    found = found;
    groups = record { one_each = long; eight_each = folds.eight_each };
    made = subst (λ b. Made pages new old (place_steps shape b c g found)) (sym none) folds.made;
    none = folds.none;
    gathers = folds.gathers;
  }
    where
      found : FoundPlace
      found = record { threshold = record { t = 0; number = 0 }; groups = groups }

  module _ (t number : ℕ) (mid looked old : Pass Facts Step)
      (load : MadeOne pages looked old (LoadT (record { number = g }) t number))
      (folds : FoldsGroups shape c (group_of (counter_at shape g 0)) groups mid looked before after) where
    taken : Made pages mid old
        (LoadT (record { number = g }) t number ∷ in_turn (group_steps c) (group_of (counter_at shape g 0)) groups)
    taken = calls-both pages mid looked old (LoadT (record { number = g }) t number ∷ [])
        (in_turn (group_steps c) (group_of (counter_at shape g 0)) groups) folds.made load.all

    -- the threshold that was loaded may be acknowledged
    pub may-acknowledge : (facts : Facts) → facts.layout ≡ shape → IsLayout shape → IsLive pages old
        → old.cpu ≡ Some c → IsCpu shape c.number → IsZone shape g
        → Acknowledges facts mid.seen mid.number (record { number = g }) number
    may-acknowledge facts same layout live owner c_in zone =
        subst (λ s. Acknowledges (record { layout = s; sizes = facts.sizes; base = facts.base }) mid.seen mid.number
        (record { number = g }) number) (sym same) (record {
          cpu = c;
          owns = record {
            owner = (calls-live pages mid old _ live taken).owner ∙ taken.cpu ∙ owner;
            within = c_in;
          };
          zone = zone;
          t = t;
          as_loaded = folds.keeps.loads g ∙ loaded-load looked old g t number load;
          took_each = λ j j_in at. let range = group-range shape layout g j at in
              folds.took_each g j range.0 (omega (arith, range.1, long));
          put_nothing = folds.keeps.puts g ∙ unput-load shape looked old g t number load;
        })

    pub FoldsPlace-acknowledged : (new : Pass Facts Step) → MadeOne pages new mid (SetA (record { number = g }) number)
        → (b : Bool) → b ≡ true → FoldsPlace shape b c g new old before after
    FoldsPlace-acknowledged new set b own = record {
      found = found;
      groups = record { one_each = long; eight_each = folds.eight_each };
      made = subst (λ b. Made pages new old (place_steps shape b c g found)) (sym own)
          (calls-both pages new mid old
          (LoadT (record { number = g }) t number ∷ in_turn (group_steps c) (group_of (counter_at shape g 0)) groups)
          (SetA (record { number = g }) number ∷ []) set.all taken);
      none = none-set shape new mid g t number set folds.none;
      gathers = record {
        items = λ i. omega (
          arith,
          ints,
          carried_of_item-next new mid (SetA (record { number = g }) number) set shape i,
          folds.gathers.items i,
          carried_of_item-next looked old (LoadT (record { number = g }) t number) load shape i,
        );
        sums = folds.gathers.sums;
      };
    }
      where
        found : FoundPlace
        found = record { threshold = record { t = t; number = number }; groups = groups }

module _ (shape : Shape) (is_own : Bool) (c : CpuId) where
  abbrev visit : ℕ → FoundPlace → List Step
  visit g found = place_steps shape (acknowledges shape is_own g) c g found

  pub FoldsPlaces-none : (pass : Pass Facts Step) (sums : List ℤ) → IsLive pages pass → NoneForCounters pass
      → FoldsPlaces shape is_own c 0 pass pass sums sums
  FoldsPlaces-none pass sums live none = record {
    places = [];
    one_each = refl;
    groups = All-nil (HasGroups shape);
    made = calls-none pages pass live;
    none = none;
    gathers = record { items = λ i. omega (arith, ints); sums = λ i. omega (arith, ints) };
  }

  pub FoldsPlaces-more : IsLayout shape → (n : ℕ) (new now old : Pass Facts Step) (before sums after : List ℤ)
      → FoldsPlaces shape is_own c n now old before sums
      → FoldsPlace shape (acknowledges shape is_own n) c n new now sums after
      → FoldsPlaces shape is_own c (n + 1) new old before after
  FoldsPlaces-more layout n new now old before sums after first place = record {
    places = first.places ++ place.found ∷ [];
    one_each = length-append first.places (place.found ∷ []) ∙ omega (arith, first.one_each);
    groups = All-append (HasGroups shape) first.places (place.found ∷ []) first.groups
        (All-cons (HasGroups shape) place.found [] place.groups (All-nil (HasGroups shape)));
    made = subst (Made pages new old) (sym split)
        (calls-both pages new now old (in_turn visit 0 first.places) (visit n place.found) place.made first.made);
    none = place.none;
    gathers = record {
      items = λ i. omega (arith, ints, place.gathers.items i, first.gathers.items i, more i);
      sums = λ i. omega (arith, ints, place.gathers.sums i, first.gathers.sums i, more i);
    };
  }
    where
      here : 0 + length first.places ≡ n
      here = omega (arith, first.one_each)

      split : in_turn visit 0 (first.places ++ place.found ∷ []) ≡ in_turn visit 0 first.places ++ visit n place.found
      split = in_turn-append visit 0 first.places (place.found ∷ [])
          ∙ ap (λ ks. in_turn visit 0 first.places ++ ks)
          (append-nil (visit (0 + length first.places) place.found) ∙ ap (λ m. visit m place.found) here)

      at : 0 + length (lists_of first.places) ≡ group_of (counter_at shape n 0)
      at = omega (
        arith,
        lists_of-length shape layout 0 first.places first.groups,
        first_group shape layout 0,
        ap (λ m. group_of (counter_at shape m 0)) first.one_each,
      )

      more : (i : ℕ) → taken_of_item shape i 0 (lists_of (first.places ++ place.found ∷ []))
          ≡ taken_of_item shape i 0 (lists_of first.places)
          +ℤ taken_of_item shape i (group_of (counter_at shape n 0)) place.found.groups
      more i = ap (taken_of_item shape i 0) (lists_of-append shape layout first.places (place.found ∷ []))
          ∙ taken_of_item-append shape i 0 (lists_of first.places) (place.found.groups ++ [])
          ∙ ap (λ ws. taken_of_item shape i 0 (lists_of first.places)
          +ℤ taken_of_item shape i (0 + length (lists_of first.places)) ws) (append-nil place.found.groups)
          ∙ ap (λ m. taken_of_item shape i 0 (lists_of first.places)
          +ℤ taken_of_item shape i m place.found.groups) at

-- the whole fold
module _ (shape : Shape) (c : CpuId) (new now old : Pass Facts Step) (before sums : List ℤ)
    (places : FoldsPlaces shape (owns_cpu old.cpu c) c (place_count shape) now old before sums)
    (added : Made pages new now (system_steps shape (lists_of places.places) 0 (item_count shape))) where
  pub folded-whole : HasFolded shape new old c
  folded-whole = record {
    steps = in_turn (visit shape (owns_cpu old.cpu c) c) 0 places.places
        ++ system_steps shape (lists_of places.places) 0 (item_count shape);
    fold = record {
      places = places.places;
      one_each = places.one_each;
      groups = places.groups;
      in_order = refl;
    };
    made = calls-both pages new now old (in_turn (visit shape (owns_cpu old.cpu c) c) 0 places.places)
        (system_steps shape (lists_of places.places) 0 (item_count shape)) added places.made;
  }

-- a pass that carried nothing carries nothing after a fold
pub folded-nothing : (shape : Shape) → IsLayout shape → (new old : Pass Facts Step) (c : CpuId)
    → HasFolded shape new old c → CarriesNothing shape (mine old) → CarriesNothing shape (mine new)
folded-nothing shape layout new old c has nothing =
    let leaves = fold-leaves shape layout (owns_cpu old.cpu c) c old.number has.steps (mine old) has.fold in
    let after_all = mine-after new old has.steps has.made in
    record {
      counters = λ k. ap (carried k) after_all ∙ leaves.carries.counters k ∙ nothing.counters k;
      items = λ i. ap (carried_of_item shape i) after_all ∙ leaves.carries.items i ∙ nothing.items i;
    }
