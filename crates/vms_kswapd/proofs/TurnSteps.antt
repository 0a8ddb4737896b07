-- For other crates too: a turn from its three calls, and what the calls leave.
use Rattle.std.proofs.Common.{◌≡◌, ℕ, ◌≤◌, List, ◌++◌, refl, sym, ap, subst, ◌∙◌, arith, append_assoc}
use Rattle.vms_calls.specs.Common.{Header, PlaceId, ZoneSize, Shape, facts_of, KnowsByOwnSteps, HasMade, ByNormal}
use Rattle.vms_calls.specs.Common.{SetsPressure, IsBalanceTest, IsTurn, SetsAfterYes, Facts, Step, IsControl}
use Rattle.vms_calls.specs.Common.{CarriesNothing, carried, carried_of_item, pages, History, state_after, after, own}
use Rattle.vms_calls.specs.declared.answers.Balance.{Balance}
use Rattle.vms_calls.specs.declared.answers.Balance.TheVariants.{Yes, No}
use Rattle.vms_calls.proofs.Common.{looks-still, still-leaves, balance-each}
use Rattle.vms_control.specs.Common.{never}
use Rattle.vms_control.proofs.Common.{largest-grows, control-new, of-new, sums-made, SetsNothing, looks-set_nothing}
use Rattle.vms_control.proofs.Common.{quiet-sets, SameSums, node-same}
use Rattle.vms_kswapd.specs.Common.{YesPassed}
use Rattle.vms_seats.specs.Common.{Pass, Shared, IsFrom, Made}
use Rattle.vms_seats.proofs.Common.{calls-both}
use Rattle.vms_words.specs.Common.{largest_sets}

-- a balance test after the first call of a turn sets nothing, and the pass carries what it carried
module _ (words : Shared Facts) (header : Header) (n : PlaceId) (order most : ℕ) (answer : Balance)
    (new mid old : Pass Facts Step) (of : IsFrom old words) (pressed : List Step)
    (made_first : Made pages mid old pressed)
    (tested : (steps : List Step) × IsBalanceTest header n order most steps answer × Made pages new mid steps) where
  tested-made : HasMade words.facts new.seen mid.seen mid.number tested.0
  tested-made = subst (λ (f : Facts). HasMade f new.seen mid.seen mid.number tested.0)
      (of-new words mid old pressed of made_first).facts tested.2.made

  pub tested-sets : IsControl old.seen old.number
      → largest_sets words.facts.layout (state_after words.facts new.seen)
      ≤ largest_sets words.facts.layout (state_after words.facts mid.seen)
  tested-sets control =
      let sets = quiet-sets words.facts new.seen mid.seen mid.number tested.0 tested-made
      (control-new words mid old pressed of made_first control)
      (balance-each SetsNothing looks-set_nothing header most order _ tested.0 answer tested.1) in
      let most = largest-grows words.facts never never 0 new.seen mid.seen sets (λ n. omega arith) (λ n. omega arith) in
      omega (arith, most)

  pub tested-carries : (shape : Shape) → CarriesNothing shape (own mid.seen mid.number)
      → CarriesNothing shape (own new.seen new.number)
  tested-carries shape nothing =
      let mine : own new.seen new.number ≡ after mid.number tested.0 (own mid.seen mid.number) =
      ap (own new.seen) tested.2.number ∙ tested.2.made.made in
      let leaves = still-leaves shape mid.number tested.0 (own mid.seen mid.number)
      (balance-each _ looks-still header most order _ tested.0 answer tested.1) in
      record {
        counters = λ k. ap (carried k) mine ∙ leaves.carries.counters k ∙ nothing.counters k;
        items = λ i. ap (carried_of_item shape i) mine ∙ leaves.carries.items i ∙ nothing.items i;
      }

-- the facts of the words are the header's
pub facts-are : (header : Header) (facts : Facts) → header.layout ≡ facts.layout → header.sizes ≡ facts.sizes
    → facts_of header facts.base ≡ facts
facts-are header facts laid sized =
    ap (λ (shape : Shape). record { layout = shape; sizes = header.sizes; base = facts.base }) laid
    ∙ ap (λ (sizes : List ZoneSize). record { layout = facts.layout; sizes = sizes; base = facts.base }) sized

-- the three calls are a turn
module _ (words : Shared Facts) (header : Header) (pressure normal : ZoneSize → ℕ → ℕ → Type 0) (n : PlaceId)
    (order most : ℕ) (same : facts_of header words.facts.base ≡ words.facts) (two one old : Pass Facts Step)
    (of : IsFrom old words) where
  settles-same : (answer : Balance) (h k : History) (steps : List Step) → SameSums words.facts old.number h k
      → SetsAfterYes words.facts normal n old.number answer h steps →
      SetsAfterYes words.facts normal n old.number answer k steps
  settles-same (Yes g verdict) h k steps sums settles =
      node-same words.facts old.number (ByNormal normal) n h k steps sums settles
  settles-same No h k steps sums settles = settles

  pub turn-made : KnowsByOwnSteps → IsControl old.seen old.number → (pressed test : List Step) (answer : Balance)
      → SetsPressure words.facts pressure normal n old.number old.seen pressed → Made pages one old pressed
      → IsBalanceTest header n order most test answer → Made pages two one test → (new : Pass Facts Step)
      → (further : List Step) × SetsAfterYes words.facts normal n two.number answer two.seen further
      × Made pages new two further
      → (steps : List Step)
      × IsTurn header words.facts.base pressure normal n order most old.number old.seen steps answer
      × Made pages new old steps
  turn-made know control pressed test answer presses made_first tests made_test new settled =
      let both = calls-both pages two one old pressed test made_test made_first in
      let number : two.number ≡ old.number = both.number in
      let sums = sums-made words two old (pressed ++ test) of both know control in
      let settles = settles-same answer two.seen (after old.number (pressed ++ test) old.seen) settled.0 sums
      (subst (λ (p : ℕ). SetsAfterYes words.facts normal n p answer two.seen settled.0) number settled.1) in (
        pressed ++ (test ++ settled.0),
        record {
          pressed = pressed;
          presses = subst (λ (f : Facts). SetsPressure f pressure normal n old.number old.seen pressed) (sym same)
              presses;
          test = test;
          tests = tests;
          further = settled.0;
          settles = subst (λ (f : Facts). SetsAfterYes f normal n old.number answer
              (after old.number (pressed ++ test) old.seen) settled.0) (sym same) settles;
          in_order = refl;
        },
        subst (Made pages new old) (append_assoc pressed test settled.0)
            (calls-both pages new two old (pressed ++ test) settled.0 settled.2 both),
      )

-- what a yes of the balance test says, it says of the whole turn
pub names-whole : (header : Header) (new two one old : Pass Facts Step) (n : PlaceId) (order most : ℕ)
    (answer : Balance) (pressed further : List Step) → Made pages one old pressed → Made pages new two further
    → YesPassed header two one n order most answer → YesPassed header new old n order most answer
names-whole header new two one old n order most (Yes g verdict) pressed further first last named = record {
  one_of = named.one_of;
  passed = named.passed;
  earlier = pressed ++ named.earlier;
  test = named.test;
  later = named.later ++ further;
  before = named.before;
  after = named.after;
  came = calls-both pages named.before one old pressed named.earlier named.came first;
  tested = named.tested;
  went_on = calls-both pages new two named.after named.later further last named.went_on;
  tests = named.tests;
  near = named.near;
  truly = named.truly;
  summed = named.summed;
  block = named.block;
  counts = named.counts;
}
names-whole header new two one old n order most No pressed further first last named = tt
