-- For other crates too: what the tests of a balance test tell.
use Rattle.std.proofs.Common.{◌≡◌, ◌≢◌, ℕ, zero, suc, ◌^◌, ◌<◌, Bool, true, false, nat_lt, inl, inr, List, ◌∷◌, ◌++◌}
use Rattle.std.proofs.Common.{Option, Some, None, refl, sym, ap, ◌∙◌, subst, arith}
use Rattle.std.specs.Prelude.{All, Contains, is_some}
use Rattle.std.proofs.lemmas.Bool.Decides.{nat_tests}
use Rattle.std.proofs.lemmas.List.Elements.{All-cons, All-nil}
use Rattle.vms_calls.specs.Common.{Area, Extends, Facts, Header, High, PlaceId, State, Step, ZoneSize, areas_from}
use Rattle.vms_calls.specs.Common.{areas_of, blocks_at, facts_of, has_room, limit_of, IsBalanceTest, IsTurn}
use Rattle.vms_calls.specs.Common.{node_number, zones_up_to, Balances, FindsBlock, Further, IsOrderTest, LooksForBlock}
use Rattle.vms_calls.specs.Common.{History, empty, nowhere, some, fails, no_zone, passes}
use Rattle.vms_calls.specs.declared.answers.Balance.{Balance}
use Rattle.vms_calls.specs.declared.answers.Balance.TheVariants.{No, Yes}
use Rattle.vms_calls.specs.declared.answers.OrderVerdict.{OrderVerdict}
use Rattle.vms_calls.specs.declared.answers.Verdict.{Verdict}
use Rattle.vms_history.proofs.Common.{Extends-both, Extends-same}
use Rattle.vms_near.specs.Balances.{BalanceIsTrue, FailsTruly, PassesTruly, least_free}
use Rattle.vms_drift.specs.Moments.{MadeSince}
use Rattle.vms_near.specs.Snapshots.{SumsNearly}
use Rattle.vms_near.specs.Tests.{FreeIsTrue}
use Rattle.vms_near.proofs.Moments.{Cut, made-cut}
use Rattle.vms_near.proofs.Snapshots.{sums-nearly, sums-within}
use Rattle.vms_near.proofs.Tests.{free-within, test-is_true}

-- a list has its first element, and those of its rest
has-first : {A : Type 0} (x : A) (xs : List A) → Contains (x ∷ xs) x
has-first x xs = (0, omega arith, refl)

has-later : {A : Type 0} (x y : A) (xs : List A) → Contains xs y → Contains (x ∷ xs) y
has-later x y xs (n, below, same) = (suc n, omega arith, same)

module _ (header : Header) (base : State) (last first : History) (p : ℕ) where
  abbrev facts : Facts
  facts = facts_of header base

  -- a snapshot of an area's blocks
  abbrev Sums : PlaceId → Area → ℕ → Type 0
  Sums g area blocks = SumsNearly facts last first p (blocks_at header.layout g area) blocks

  -- what a look for a free block found in these areas
  abbrev BlocksAre : PlaceId → List Area → Option ℕ → Type 0
  BlocksAre g areas None = All (λ area. Sums g area 0) areas
  BlocksAre g areas (Some order) = (area : Area) × (blocks : ℕ) × (order ≡ area.order) × (blocks ≢ 0)
      × Contains areas area × Sums g area blocks

  more-blocks : (g : PlaceId) (area : Area) (areas : List Area) (found : Option ℕ) → Sums g area 0
      → BlocksAre g areas found → BlocksAre g (area ∷ areas) found
  more-blocks g area areas None here rest = All-cons (λ a. Sums g a 0) area areas here rest
  more-blocks g area areas (Some order) here (at, blocks, same, some_blocks, within, sums) =
      (at, blocks, same, some_blocks, has-later area at areas within, sums)

  blocks-are : (g : PlaceId) (areas : List Area) (steps : List Step) (found : Option ℕ) (later earlier : History)
      → Extends last later → Extends earlier first → FindsBlock header.layout g areas steps found
      → MadeSince facts later earlier p steps → BlocksAre g areas found
  blocks-are g areas steps found later earlier until begins nowhere has = All-nil (λ area. Sums g area 0)
  blocks-are g areas steps found later earlier until begins (empty area rest_areas front rest found' is finds) has =
      let cut = made-cut facts p earlier front rest later has in
      more-blocks g area rest_areas found'
      (sums-within facts last cut.mid earlier first p (blocks_at header.layout g area) 0
      (Extends-both last later cut.mid until cut.back.extends) begins
      (sums-nearly facts cut.mid earlier p (blocks_at header.layout g area) front 0 is cut.front))
      (blocks-are g rest_areas rest found' later cut.mid until
      (Extends-both cut.mid earlier first cut.front.extends begins) finds cut.back)
  blocks-are g areas steps found later earlier until begins (some area rest_areas ks blocks is some_blocks) has = (
    area,
    blocks,
    refl,
    some_blocks,
    has-first area rest_areas,
    sums-within facts last later earlier first p (blocks_at header.layout g area) blocks until begins
        (sums-nearly facts later earlier p (blocks_at header.layout g area) ks blocks is has),
  )

  -- what a test for an order tells
  record OrderIsTrue (g : PlaceId) (most order : ℕ) (answer : OrderVerdict) : Type 0 where
    pub free : FreeIsTrue facts last first p g answer.free answer.fast
    pub passing : answer.yes ≡ true → PassesTruly header base last first p most order g answer
    pub failing : answer.yes ≡ false → FailsTruly header base last first p most order g.number

  module _ (g : PlaceId) (most : ℕ) (answer : OrderVerdict)
      (free : FreeIsTrue facts last first p g answer.free answer.fast) where
    -- by the watermark test alone
    at-lowest : (verdict : Verdict) → verdict.free ≡ answer.free → answer.yes ≡ verdict.yes
        → verdict.yes ≡ nat_lt (limit_of header g.number High most) verdict.free → OrderIsTrue g most 0 answer
    at-lowest verdict same agrees told = record {
      free = free;
      passing = λ passed. record {
        free = free;
        room =
            let more : nat_lt (limit_of header g.number High most) verdict.free ≡ true =
            sym told ∙ sym agrees ∙ passed in
            let lowest : 2 ^ 0 ≡ 1 = refl in
            grind (arith, nat_tests, more, same, lowest);
        block = λ above. absurd (omega arith);
      };
      failing = λ failed. record {
        pages = answer.free;
        fast = answer.fast;
        free = free;
        fails =
            let less : nat_lt (limit_of header g.number High most) verdict.free ≡ false =
            sym told ∙ sym agrees ∙ failed in
            let lowest : 2 ^ 0 ≡ 1 = refl in
            inl (grind (arith, nat_tests, less, same, lowest));
      };
    }

    -- and by a look for a block, where there is room
    module _ (n : ℕ) where
      abbrev areas : List Area
      areas = areas_from (suc n) (areas_of header.items)

      with_area : (found : Option ℕ) → answer.area ≡ found → answer.yes ≡ is_some answer.area
          → least_free header g.number most (suc n) < answer.free → BlocksAre g areas found
          → OrderIsTrue g most (suc n) answer
      with_area None is agrees room blocks = record {
        free = free;
        passing = λ passed. absurd (let none : true ≡ false = sym passed ∙ agrees ∙ ap is_some is in cc);
        failing = λ failed. record {
          pages = answer.free;
          fast = answer.fast;
          free = free;
          fails = inr (omega arith, blocks);
        };
      }
      with_area (Some order) is agrees room (area, blocks, same, some_blocks, within, sums) = record {
        free = free;
        passing = λ passed. record {
          free = free;
          room = room;
          block = λ above. (area, blocks, is ∙ ap (λ (o : ℕ). Some o) same, some_blocks, within, sums);
        };
        failing = λ failed. absurd (let none : false ≡ true = sym failed ∙ agrees ∙ ap is_some is in cc);
      }

      by-room : (room : Bool) (verdict : Verdict) → verdict.free ≡ answer.free
          → has_room (limit_of header g.number High most) (suc n) verdict.free ≡ room → (further : List Step)
          → LooksForBlock header g (suc n) room further answer → (later earlier : History)
          → Extends last later → Extends earlier first → MadeSince facts later earlier p further
          → OrderIsTrue g most (suc n) answer
      by-room true verdict same is further (finds, agrees) later earlier until begins has =
          with_area answer.area refl agrees
          (grind (arith, nat_tests, is, same))
          (blocks-are g areas further answer.area later earlier until begins finds has)
      by-room false verdict same is further (none, denies, nothing) later earlier until begins has = record {
        free = free;
        passing = λ passed. absurd (let both : true ≡ false = sym passed ∙ denies in cc);
        failing = λ failed. record {
          pages = answer.free;
          fast = answer.fast;
          free = free;
          fails = inl (grind (arith, nat_tests, is, same));
        };
      }

  order-is_true : (g : PlaceId) (most order : ℕ) (steps : List Step) (answer : OrderVerdict) (later earlier : History)
      → Extends last later → Extends earlier first → IsOrderTest header g High most order steps answer
      → MadeSince facts later earlier p steps → OrderIsTrue g most order answer
  order-is_true g most order steps answer later earlier until begins is has = by order is.blocks
    where
      cut : Cut facts later earlier p is.test is.further
      cut = made-cut facts p earlier is.test is.further later (subst (MadeSince facts later earlier p) is.in_order has)

      free : FreeIsTrue facts last first p g answer.free answer.fast
      free = subst (λ (n : ℕ). FreeIsTrue facts last first p g n answer.fast) (sym is.free)
          (subst (FreeIsTrue facts last first p g is.verdict.free) (sym is.fast)
          (free-within facts last cut.mid earlier first p g is.verdict.free is.verdict.fast
          (Extends-both last later cut.mid until cut.back.extends) begins
          (test-is_true header base cut.mid earlier p g High most is.test is.verdict is.tests cut.front)))

      by : (o : ℕ) → Further header g High most o is.verdict is.further answer → OrderIsTrue g most o answer
      by zero (none, agrees, nothing) = at-lowest g most answer free is.verdict (sym is.free) agrees is.tests.yes
      by (suc n) looks = by-room g most answer free n
          (has_room (limit_of header g.number High most) (suc n) is.verdict.free) is.verdict (sym is.free) refl
          is.further looks later cut.mid until (Extends-both cut.mid earlier first cut.front.extends begins) cut.back

  -- what the tests of these zones tell
  abbrev BalanceOver : (most order : ℕ) → List ℕ → Balance → Type 0
  BalanceOver most order zones (Yes g verdict) =
      Contains zones g.number × PassesTruly header base last first p most order g verdict
  BalanceOver most order zones No = All (FailsTruly header base last first p most order) zones

  one-more : (most order g : ℕ) (gs : List ℕ) (answer : Balance) → FailsTruly header base last first p most order g
      → BalanceOver most order gs answer → BalanceOver most order (g ∷ gs) answer
  one-more most order g gs (Yes zone verdict) here (within, is) = (has-later g zone.number gs within, is)
  one-more most order g gs No here rest = All-cons (FailsTruly header base last first p most order) g gs here rest

  balance-over : (most order : ℕ) (zones : List ℕ) (steps : List Step) (answer : Balance) (later earlier : History)
      → Extends last later → Extends earlier first → Balances header most order zones steps answer
      → MadeSince facts later earlier p steps → BalanceOver most order zones answer
  balance-over most order zones steps answer later earlier until begins no_zone has =
      All-nil (FailsTruly header base last first p most order)
  balance-over most order zones steps answer later earlier until begins
      (fails g gs front rest verdict answer' is failed balances) has =
      let cut = made-cut facts p earlier front rest later has in
      one-more most order g gs answer'
      ((order-is_true (record { number = g }) most order front verdict cut.mid earlier
      (Extends-both last later cut.mid until cut.back.extends) begins is cut.front).failing failed)
      (balance-over most order gs rest answer' later cut.mid until
      (Extends-both cut.mid earlier first cut.front.extends begins) balances cut.back)
  balance-over most order zones steps answer later earlier until begins (passes g gs ks verdict is passed) has = (
    has-first g gs,
    (order-is_true (record { number = g }) most order ks verdict later earlier until begins is has).passing passed,
  )

-- what a balance test answers that was made between two histories
pub balance-is_true : (header : Header) (base : State) (n : PlaceId) (order most p : ℕ) (later earlier : History)
    (steps : List Step) (answer : Balance) → IsBalanceTest header n order most steps answer
    → MadeSince (facts_of header base) later earlier p steps
    → BalanceIsTrue header base later earlier p n order most answer
balance-is_true header base n order most p later earlier steps answer is has =
    by answer (balance-over header base later earlier p most order
    (zones_up_to header.layout most (node_number header.layout n)) steps answer later earlier
    (Extends-same later) (Extends-same earlier) is has)
  where
    by : (told : Balance) → BalanceOver header base later earlier p most order
        (zones_up_to header.layout most (node_number header.layout n)) told
        → BalanceIsTrue header base later earlier p n order most told
    by (Yes g verdict) is = is
    by No is = is

-- what a turn of kswapd answers that was made between two histories
pub turn-is_true : (header : Header) (base : State) (pressure normal : ZoneSize → ℕ → ℕ → Type 0) (n : PlaceId)
    (order most p : ℕ) (later earlier : History) (steps : List Step) (answer : Balance)
    → IsTurn header base pressure normal n order most p earlier steps answer
    → MadeSince (facts_of header base) later earlier p steps
    → BalanceIsTrue header base later earlier p n order most answer
turn-is_true header base pressure normal n order most p later earlier steps answer is has =
    let facts = facts_of header base in
    let pressed = made-cut facts p earlier is.pressed (is.test ++ is.further) later
    (subst (MadeSince facts later earlier p) is.in_order has) in
    let tested = made-cut facts p pressed.mid is.test is.further later pressed.back in
    by answer (balance-over header base later earlier p most order
    (zones_up_to header.layout most (node_number header.layout n)) is.test answer tested.mid pressed.mid
    tested.back.extends pressed.front.extends is.tests tested.front)
  where
    by : (told : Balance) → BalanceOver header base later earlier p most order
        (zones_up_to header.layout most (node_number header.layout n)) told
        → BalanceIsTrue header base later earlier p n order most told
    by (Yes g verdict) is = is
    by No is = is
