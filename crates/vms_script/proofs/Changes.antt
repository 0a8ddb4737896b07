-- For other crates too: what an act changes the totals by.
use Rattle.std.proofs.Common.{◌≡◌, ℕ, ℤ, pos, negsuc, ◌+ℤ◌, ◌+◌, ◌<◌, ◌≤◌, ◌^◌, List, [], ◌∷◌, length, drop, get_or}
use Rattle.std.proofs.Common.{set, length-set, get_or-set_same, get_or-set_other, nat_eq, if◌then◌else◌, unsigned_abs}
use Rattle.std.proofs.Common.{refl, sym, ap, subst, ◌∙◌, arith, inl, inr, Some, None, All, IfSome, w64, FitsSigned}
use Rattle.std.proofs.lemmas.Bool.{cases_eq}
use Rattle.std.proofs.lemmas.Bool.Decides.{nat_tests}
use Rattle.std.proofs.lemmas.Int.{ints, fits_signed_from_abs}
use Rattle.std.proofs.lemmas.List.{at_drop_more}
use Rattle.std.proofs.lemmas.List.Elements.{All-get_or}
use Rattle.vms_base.specs.declared.ids.CounterId.{CounterId}
use Rattle.vms_base.specs.declared.headers.Header.{Header}
use Rattle.vms_base.specs.Common.{IsHeader, counter_count}
use Rattle.vms_text.specs.declared.acts.Act.{Act}
use Rattle.vms_text.specs.declared.acts.Act.TheVariants.{Mod, Inc, Dec, Ev}
use Rattle.vms_text.specs.declared.acts.Item.{Item}
use Rattle.vms_text.specs.declared.acts.Lane.{Lane}
use Rattle.vms_line.specs.Common.{IsActOf, IsLineOf}
use Rattle.vms_script.specs.Common.{ArePhases, HasTotal, line_of, plain_total, change_by, act_change, changes_by}
use Rattle.vms_script.specs.Common.{sizes_by, changes_by_all, sizes_by_all, spent_on_counter}
use Rattle.vms_script.proofs.Sizes.{sizes_by_all-most}

-- what changes the totals, of an act that changes none and of one that changes one
pub change_by-none : (k : ℕ) (act : Act) → act_change act ≡ None → change_by k act ≡ pos 0
change_by-none k (Mod counter pages) none = cc
change_by-none k (Inc counter) none = cc
change_by-none k (Dec counter) none = cc
change_by-none k (Ev event n) none = refl
change_by-none k _ none = refl

pub change_by-some : (k : ℕ) (act : Act) (change : CounterId × ℤ) → act_change act ≡ Some change
    → change_by k act ≡ (if nat_eq change.0.number k then change.1 else pos 0)
change_by-some k (Mod counter pages) change some = cc
change_by-some k (Inc counter) change some = cc
change_by-some k (Dec counter) change some = cc
change_by-some k (Ev event n) change some = cc
change_by-some k _ change some = cc

-- the size of a change
unsigned_abs-if : (a b : ℕ) (pages : ℤ)
    → unsigned_abs (if nat_eq a b then pages else pos 0) ≡ (if nat_eq a b then unsigned_abs pages else 0)
unsigned_abs-if a b pages = grind (arith, nat_tests)

pub unsigned_abs-change_by : (k : ℕ) (act : Act) → unsigned_abs (change_by k act) ≡ spent_on_counter k act
unsigned_abs-change_by k (Mod counter pages) = unsigned_abs-if counter.number k pages
unsigned_abs-change_by k (Inc counter) = unsigned_abs-if counter.number k (pos 1)
unsigned_abs-change_by k (Dec counter) = unsigned_abs-if counter.number k (negsuc 0)
unsigned_abs-change_by k (Ev event n) = refl
unsigned_abs-change_by k _ = refl

-- the size of many changes is at most that of each
pub unsigned_abs-changes_by : (k : ℕ) (items : List Item) → unsigned_abs (changes_by k items) ≤ sizes_by k items
unsigned_abs-changes_by k [] = omega arith
unsigned_abs-changes_by k (item ∷ items) =
    omega (arith, ints, unsigned_abs-change_by k item.act, unsigned_abs-changes_by k items)

-- the totals with a change of one
pub change_by-set : (totals : List ℤ) (act : Act) (change : CounterId × ℤ) (k : ℕ) → act_change act ≡ Some change
    → change.0.number < length totals
    → get_or (set totals change.0.number (get_or totals change.0.number (pos 0) +ℤ change.1)) k (pos 0)
    ≡ get_or totals k (pos 0) +ℤ change_by k act
change_by-set totals act change k some within = elim (cases_eq change.0.number k) [
  | inl same ↦
      let by : change_by k act ≡ change.1 = change_by-some k act change some ∙ grind (arith, nat_tests) in
      subst (λ j. get_or (set totals change.0.number (get_or totals change.0.number (pos 0) +ℤ change.1)) j (pos 0)
      ≡ get_or totals j (pos 0) +ℤ change_by k act) same
      (get_or-set_same totals change.0.number (get_or totals change.0.number (pos 0) +ℤ change.1) (pos 0) within
      ∙ ap (λ n. get_or totals change.0.number (pos 0) +ℤ n) (sym by))
  | inr other ↦
      let by : change_by k act ≡ pos 0 = change_by-some k act change some ∙ grind (arith, nat_tests) in
      get_or-set_other totals change.0.number k (get_or totals change.0.number (pos 0) +ℤ change.1) (pos 0)
      (λ e. other (sym e)) ∙ omega (arith, ints, by)
]

-- the size of the change of the counter that it is of
pub spent_on_counter-some : (act : Act) (change : CounterId × ℤ) → act_change act ≡ Some change
    → spent_on_counter change.0.number act ≡ unsigned_abs change.1
spent_on_counter-some act change some =
    let by : change_by change.0.number act ≡ change.1 =
    change_by-some change.0.number act change some ∙ grind (arith, nat_tests) in
    sym (unsigned_abs-change_by change.0.number act) ∙ ap unsigned_abs by

-- totals of every counter have one of the counter that an act changes
HasTotal-of : (header : Header) (lane : Lane) (act : Act) (totals : List ℤ)
    → length totals ≡ counter_count header.layout → IsActOf header lane act → HasTotal totals act
HasTotal-of header lane (Mod counter pages) totals each known = omega (arith, known.1.0)
HasTotal-of header lane (Inc counter) totals each known = omega (arith, known.1.0)
HasTotal-of header lane (Dec counter) totals each known = omega (arith, known.1.0)
HasTotal-of header lane (Ev event n) totals each known = tt
HasTotal-of header lane _ totals each known = tt

-- the total that an item of a phase changes
pub act_change-within : (totals first : List ℤ) (items : List Item) (i : ℕ) (d : Item) (change : CounterId × ℤ)
    → i < length items → act_change (get_or items i d).act ≡ Some change → length totals ≡ length first
    → All (λ item. HasTotal first item.act) items → change.0.number < length totals
act_change-within totals first items i d change here some each known =
    let has : HasTotal first (get_or items i d).act =
    All-get_or (λ item. HasTotal first item.act) items i d here known in
    let within : change.0.number < length first =
    subst (λ found. IfSome found (λ change. change.0.number < length first)) some has in
    omega arith

-- totals on the way: what is left to add leads each to what is wanted of it, and its size leaves room
pub record Leads (count : ℕ) (wanted : ℕ → ℤ) (left : ℕ → ℤ) (sizes : ℕ → ℕ) (totals : List ℤ) : Type 0 where
  pub each : length totals ≡ count
  pub is : (k : ℕ) → k < count → get_or totals k (pos 0) +ℤ left k ≡ wanted k
  pub room : (k : ℕ) → k < count → unsigned_abs (get_or totals k (pos 0)) + sizes k < 2 ^ 63

-- totals stay on the way past a change of each
pub Leads-past : (count : ℕ) (wanted change left left' : ℕ → ℤ) (size sizes sizes' : ℕ → ℕ) (totals totals' : List ℤ)
    → length totals' ≡ length totals
    → ((k : ℕ) → k < count → get_or totals' k (pos 0) ≡ get_or totals k (pos 0) +ℤ change k)
    → ((k : ℕ) → unsigned_abs (change k) ≤ size k)
    → ((k : ℕ) → left k ≡ change k +ℤ left' k) → ((k : ℕ) → sizes k ≡ size k + sizes' k)
    → Leads count wanted left sizes totals → Leads count wanted left' sizes' totals'
Leads-past count wanted change left left' size sizes sizes' totals totals' each changed most next nexts leads = record {
  each = each ∙ leads.each;
  is = λ k within. omega (arith, ints, changed k within, next k, leads.is k within);
  room = λ k within. omega (arith, ints, changed k within, most k, nexts k, leads.room k within);
}

-- past one item of a phase
pub Leads-item : (count : ℕ) (wanted : ℕ → ℤ) (items : List Item) (i : ℕ) (d : Item) (totals totals' : List ℤ)
    → i < length items → length totals' ≡ length totals
    → ((k : ℕ) → k < count → get_or totals' k (pos 0) ≡ get_or totals k (pos 0) +ℤ change_by k (get_or items i d).act)
    → Leads count wanted (λ k. changes_by k (drop i items)) (λ k. sizes_by k (drop i items)) totals
    → Leads count wanted (λ k. changes_by k (drop (i + 1) items)) (λ k. sizes_by k (drop (i + 1) items)) totals'
Leads-item count wanted items i d totals totals' here each changed leads =
    Leads-past count wanted (λ k. change_by k (get_or items i d).act) (λ k. changes_by k (drop i items))
    (λ k. changes_by k (drop (i + 1) items)) (λ k. spent_on_counter k (get_or items i d).act)
    (λ k. sizes_by k (drop i items)) (λ k. sizes_by k (drop (i + 1) items)) totals totals' each changed
    (λ k. omega (arith, unsigned_abs-change_by k (get_or items i d).act))
    (λ k. at_drop_more (changes_by k) items i d here) (λ k. at_drop_more (sizes_by k) items i d here) leads

-- past an item that changes none, and one that changes one
pub Leads-unchanged : (count : ℕ) (wanted : ℕ → ℤ) (items : List Item) (i : ℕ) (d : Item) (totals : List ℤ)
    → i < length items → act_change (get_or items i d).act ≡ None
    → Leads count wanted (λ k. changes_by k (drop i items)) (λ k. sizes_by k (drop i items)) totals
    → Leads count wanted (λ k. changes_by k (drop (i + 1) items)) (λ k. sizes_by k (drop (i + 1) items)) totals
Leads-unchanged count wanted items i d totals here none leads =
    Leads-item count wanted items i d totals totals here refl
    (λ k within. omega (arith, ints, change_by-none k (get_or items i d).act none)) leads

pub Leads-some : (count : ℕ) (wanted : ℕ → ℤ) (items : List Item) (i : ℕ) (d : Item) (totals : List ℤ)
    → (change : CounterId × ℤ) (value : ℤ) → i < length items → act_change (get_or items i d).act ≡ Some change
    → change.0.number < length totals → value ≡ get_or totals change.0.number (pos 0) +ℤ change.1
    → Leads count wanted (λ k. changes_by k (drop i items)) (λ k. sizes_by k (drop i items)) totals
    → Leads count wanted (λ k. changes_by k (drop (i + 1) items)) (λ k. sizes_by k (drop (i + 1) items))
    (set totals change.0.number value)
Leads-some count wanted items i d totals change value here some within is leads =
    Leads-item count wanted items i d totals (set totals change.0.number value) here
    (length-set totals change.0.number value)
    (λ k below. ap (λ n. get_or (set totals change.0.number n) k (pos 0)) is
    ∙ change_by-set totals (get_or items i d).act change k some within) leads

-- the total that an item changes has room for that
pub change-fits : (count : ℕ) (wanted : ℕ → ℤ) (items : List Item) (i : ℕ) (d : Item) (totals : List ℤ)
    → (change : CounterId × ℤ) → i < length items → act_change (get_or items i d).act ≡ Some change
    → change.0.number < length totals
    → Leads count wanted (λ k. changes_by k (drop i items)) (λ k. sizes_by k (drop i items)) totals
    → FitsSigned w64 (get_or totals change.0.number (pos 0) +ℤ change.1)
change-fits count wanted items i d totals change here some within leads =
    fits_signed_from_abs w64 (get_or totals change.0.number (pos 0) +ℤ change.1) (omega (
      arith,
      ints,
      leads.room change.0.number (omega (arith, leads.each)),
      at_drop_more (sizes_by change.0.number) items i d here,
      spent_on_counter-some (get_or items i d).act change some,
    ))

-- past one phase
pub Leads-phase : (count : ℕ) (wanted : ℕ → ℤ) (phases : List (List Item)) (i : ℕ) (d : List Item)
    (totals totals' : List ℤ) → i < length phases → length totals' ≡ length totals
    → ((k : ℕ) → k < count → get_or totals' k (pos 0) ≡ get_or totals k (pos 0) +ℤ changes_by k (get_or phases i d))
    → Leads count wanted (λ k. changes_by_all k (drop i phases)) (λ k. sizes_by_all k (drop i phases)) totals
    → Leads count wanted (λ k. changes_by_all k (drop (i + 1) phases)) (λ k. sizes_by_all k (drop (i + 1) phases))
    totals'
Leads-phase count wanted phases i d totals totals' here each changed leads =
    Leads-past count wanted (λ k. changes_by k (get_or phases i d))
    (λ k. changes_by_all k (drop i phases)) (λ k. changes_by_all k (drop (i + 1) phases))
    (λ k. sizes_by k (get_or phases i d)) (λ k. sizes_by_all k (drop i phases))
    (λ k. sizes_by_all k (drop (i + 1) phases)) totals totals' each changed
    (λ k. unsigned_abs-changes_by k (get_or phases i d))
    (λ k. at_drop_more (changes_by_all k) phases i d here) (λ k. at_drop_more (sizes_by_all k) phases i d here) leads

-- the totals have one of each counter that a phase changes
pub HasTotal-each : (header : Header) (phases : List (List Item)) (i : ℕ) (d : List Item) (totals : List ℤ)
    → ArePhases header phases → i < length phases → length totals ≡ counter_count header.layout
    → All (λ item. HasTotal totals item.act) (get_or phases i d)
HasTotal-each header phases i d totals are here each =
    let known = All-get_or (All (λ item. IsLineOf header (line_of item))) phases i d here are.known in
    λ k item below. HasTotal-of header (get_or (get_or phases i d) k item).lane (get_or (get_or phases i d) k item).act
    totals each (known k item below).1

-- the bases are on the way to the plain totals
pub Leads-first : (header : Header) (phases : List (List Item)) → IsHeader header → ArePhases header phases
    → Leads (counter_count header.layout) (plain_total header phases) (λ k. changes_by_all k phases)
    (λ k. sizes_by_all k phases) header.bases
Leads-first header phases is_header are = record {
  each = is_header.bases_length;
  is = λ k below. refl;
  room = λ k below. omega (
    arith,
    is_header.bases_most k (pos 0) (omega (arith, is_header.bases_length)),
    sizes_by_all-most header k phases is_header are below,
  );
}
