-- For other crates too: what the readings of steps say of them.
use Rattle.std.proofs.Common.{◌≡◌, ℕ, nat_eq, ◌&&◌, Bool, true, false, ℤ, List, refl, sym, ap, subst, ◌∙◌}
use Rattle.std.proofs.Common.{if◌then◌else◌}
use Rattle.std.proofs.Math.Dec.{T_prop}
use Rattle.std.proofs.lemmas.Bool.{and_parts, eq-eqb, eqb-true}
use Rattle.std.specs.Prelude.{Option, Some, None}
use Rattle.vms_calls.specs.Common.{AreBytes, AddG, AddS, CounterId, CpuId, CpuState, Diffs, GroupId, ItemId, LoadD}
use Rattle.vms_calls.specs.Common.{LoadG, LoadO, LoadM, LoadS, LoadT, MarkRead, Miss, PlaceId, SetA, SetM, SetT, Step}
use Rattle.vms_calls.specs.Common.{Take, LoadA}
use Rattle.vms_plans.specs.declared.due_steps.DueStep.TheVariants.{LoadsAcknowledged, LoadsGroup, LoadsMark, LoadsState}
use Rattle.vms_plans.specs.declared.due_steps.DueStep.TheVariants.{LoadsSystem, LoadsThreshold, LoadsValue, Takes}
use Rattle.vms_plans.specs.Common.{Fits}
use Rattle.vms_cursors.specs.StepReadings.{added_in, added_to_item_in, group_in, mark_in, missed_in, state_in}
use Rattle.vms_cursors.specs.StepReadings.{acknowledged_in, number_in, number_told_in, set_mark_in, set_threshold_in}
use Rattle.vms_cursors.specs.StepReadings.{system_in, taken_in, threshold_in, value_in}

choice-some : {X : Type 0} (b : Bool) (x y : X) → (if b then Some x else None) ≡ Some y → (b ≡ true) × (x ≡ y)
choice-some true x y is = (refl, cc)
choice-some false x y is = absurd cc

choice-none : {X : Type 0} (b : Bool) (x : X) → (if b then Some x else None) ≡ None → b ≡ true → ⊥
choice-none b x none holds =
    let here : Some x ≡ None = subst (λ c. (if c then Some x else None) ≡ None) holds none in cc

none-some : {X : Type 0} (x : X) → None ≡ Some x → ⊥
none-some x is = cc

place : ℕ → PlaceId
place n = record { number = n }

place-same : (f g : PlaceId) → nat_eq f.number g.number ≡ true → f ≡ g
unfolding place
place-same f g same = ap place (eqb-true f.number g.number same)

cpu : ℕ → CpuId
cpu n = record { number = n }

cpu-same : (c d : CpuId) → nat_eq c.number d.number ≡ true → c ≡ d
unfolding cpu
cpu-same c d same = ap cpu (eqb-true c.number d.number same)

group : ℕ → GroupId
group n = record { number = n }

group-same : (i j : GroupId) → nat_eq i.number j.number ≡ true → i ≡ j
unfolding group
group-same i j same = ap group (eqb-true i.number j.number same)

counter : ℕ → CounterId
counter n = record { number = n }

counter-same : (k l : CounterId) → nat_eq k.number l.number ≡ true → k ≡ l
unfolding counter
counter-same k l same = ap counter (eqb-true k.number l.number same)

item : ℕ → ItemId
item n = record { number = n }

item-same : (i l : ItemId) → nat_eq i.number l.number ≡ true → i ≡ l
unfolding item
item-same i l same = ap item (eqb-true i.number l.number same)

pub threshold-read : (g : PlaceId) (step : Step) (t : ℕ) → threshold_in g.number step ≡ Some t
    → (a : ℕ) × (LoadT g t a ≡ step)
threshold-read g (LoadT f u a) t is =
    let parts = choice-some (nat_eq f.number g.number) u t is in
    (a, ap (λ x. LoadT x t a) (sym (place-same f g parts.0)) ∙ ap (λ x. LoadT f x a) (sym parts.1))
threshold-read g step t is = absurd (none-some t is)

pub threshold-other : (g : PlaceId) (step : Step) → threshold_in g.number step ≡ None
    → Fits (LoadsThreshold g) step → ⊥
threshold-other g (LoadT f u a) none fits = choice-none (nat_eq f.number g.number) u none
    (eq-eqb f.number g.number (ap (λ (x : PlaceId). x.number) (sym fits)))
threshold-other g step none fits = fits

pub group-read : (c : CpuId) (j : GroupId) (step : Step) (w : Diffs) → group_in c.number j.number step ≡ Some w
    → LoadD c j w ≡ step
group-read c j (LoadD d i v) w is =
    let parts = choice-some (nat_eq d.number c.number && nat_eq i.number j.number) v w is in
    let both = and_parts (nat_eq d.number c.number) (nat_eq i.number j.number) parts.0 in
    ap (λ x. LoadD x j w) (sym (cpu-same d c both.0)) ∙ ap (λ x. LoadD d x w) (sym (group-same i j both.1))
    ∙ ap (LoadD d i) (sym parts.1)
group-read c j step w is = absurd (none-some w is)

pub group-other : (c : CpuId) (j : GroupId) (step : Step) → group_in c.number j.number step ≡ None
    → Fits (LoadsGroup c j) step → ⊥
group-other c j (LoadD d i v) none fits =
    choice-none (nat_eq d.number c.number && nat_eq i.number j.number) v none
    (ap (λ b. b && nat_eq i.number j.number) (eq-eqb d.number c.number (ap (λ (x : CpuId). x.number) (sym fits.0)))
    ∙ eq-eqb i.number j.number (ap (λ (x : GroupId). x.number) (sym fits.1)))
group-other c j step none fits = fits

pub missed-read : (j : GroupId) (step : Step) (w : Diffs) → missed_in j.number step ≡ Some w → Miss j w ≡ step
missed-read j (Miss i v) w is =
    let parts = choice-some (nat_eq i.number j.number) v w is in
    ap (λ x. Miss x w) (sym (group-same i j parts.0)) ∙ ap (Miss i) (sym parts.1)
missed-read j step w is = absurd (none-some w is)

pub missed-other : (j : GroupId) (step : Step) → missed_in j.number step ≡ None → (w : Diffs) → Miss j w ≡ step → ⊥
missed-other j (Miss i v) none w same = choice-none (nat_eq i.number j.number) v none
    (let there : j ≡ i = cc in eq-eqb i.number j.number (ap (λ (x : GroupId). x.number) (sym there)))
missed-other j step none w same = cc

pub added-read : (k : CounterId) (step : Step) (a : ℤ) → added_in k.number step ≡ Some a → AddG k a ≡ step
added-read k (AddG l b) a is =
    let parts = choice-some (nat_eq l.number k.number) b a is in
    ap (λ x. AddG x a) (sym (counter-same l k parts.0)) ∙ ap (AddG l) (sym parts.1)
added-read k step a is = absurd (none-some a is)

pub added-other : (k : CounterId) (step : Step) → added_in k.number step ≡ None → (a : ℤ) → AddG k a ≡ step → ⊥
added-other k (AddG l b) none a same = choice-none (nat_eq l.number k.number) b none
    (let there : k ≡ l = cc in eq-eqb l.number k.number (ap (λ (x : CounterId). x.number) (sym there)))
added-other k step none a same = cc

pub added_to_item-read : (i : ItemId) (step : Step) (a : ℤ) → added_to_item_in i.number step ≡ Some a → AddS i a ≡ step
added_to_item-read i (AddS l b) a is =
    let parts = choice-some (nat_eq l.number i.number) b a is in
    ap (λ x. AddS x a) (sym (item-same l i parts.0)) ∙ ap (AddS l) (sym parts.1)
added_to_item-read i step a is = absurd (none-some a is)

pub added_to_item-other : (i : ItemId) (step : Step) → added_to_item_in i.number step ≡ None → (a : ℤ)
    → AddS i a ≡ step → ⊥
added_to_item-other i (AddS l b) none a same = choice-none (nat_eq l.number i.number) b none
    (let there : i ≡ l = cc in eq-eqb l.number i.number (ap (λ (x : ItemId). x.number) (sym there)))
added_to_item-other i step none a same = cc

pub value-read : (k : CounterId) (step : Step) (v : ℤ) → value_in k.number step ≡ Some v → LoadG k v ≡ step
value-read k (LoadG l u) v is =
    let parts = choice-some (nat_eq l.number k.number) u v is in
    ap (λ x. LoadG x v) (sym (counter-same l k parts.0)) ∙ ap (LoadG l) (sym parts.1)
value-read k step v is = absurd (none-some v is)

pub value-other : (k : CounterId) (step : Step) → value_in k.number step ≡ None → Fits (LoadsValue k) step → ⊥
value-other k (LoadG l u) none fits = choice-none (nat_eq l.number k.number) u none
    (eq-eqb l.number k.number (ap (λ (x : CounterId). x.number) (sym fits)))
value-other k step none fits = fits

pub state-read : (c : CpuId) (step : Step) (x : CpuState) → state_in c.number step ≡ Some x → LoadO c x ≡ step
state-read c (LoadO d y) x is =
    let parts = choice-some (nat_eq d.number c.number) y x is in
    ap (λ e. LoadO e x) (sym (cpu-same d c parts.0)) ∙ ap (LoadO d) (sym parts.1)
state-read c step x is = absurd (none-some x is)

pub state-other : (c : CpuId) (step : Step) → state_in c.number step ≡ None → Fits (LoadsState c) step → ⊥
state-other c (LoadO d y) none fits = choice-none (nat_eq d.number c.number) y none
    (eq-eqb d.number c.number (ap (λ (x : CpuId). x.number) (sym fits)))
state-other c step none fits = fits

pub mark-read : (g : PlaceId) (step : Step) (r : MarkRead) → mark_in g.number step ≡ Some r
    → LoadM g r.mark r.number ≡ step
mark-read g (LoadM f m a) r is =
    let found : MarkRead = record { mark = m; number = a } in
    let parts = choice-some (nat_eq f.number g.number) found r is in
    ap (λ x. LoadM x r.mark r.number) (sym (place-same f g parts.0))
    ∙ ap (λ (x : MarkRead). LoadM f x.mark x.number) (sym parts.1)
mark-read g step r is = absurd (none-some r is)

pub mark-other : (g : PlaceId) (step : Step) → mark_in g.number step ≡ None → Fits (LoadsMark g) step → ⊥
mark-other g (LoadM f m a) none fits =
    let found : MarkRead = record { mark = m; number = a } in
    choice-none (nat_eq f.number g.number) found none
    (eq-eqb f.number g.number (ap (λ (x : PlaceId). x.number) (sym fits)))
mark-other g step none fits = fits

pub system-read : (i : ItemId) (step : Step) (v : ℤ) → system_in i.number step ≡ Some v → LoadS i v ≡ step
system-read i (LoadS l u) v is =
    let parts = choice-some (nat_eq l.number i.number) u v is in
    ap (λ x. LoadS x v) (sym (item-same l i parts.0)) ∙ ap (LoadS l) (sym parts.1)
system-read i step v is = absurd (none-some v is)

pub system-other : (i : ItemId) (step : Step) → system_in i.number step ≡ None → Fits (LoadsSystem i) step → ⊥
system-other i (LoadS l u) none fits = choice-none (nat_eq l.number i.number) u none
    (eq-eqb l.number i.number (ap (λ (x : ItemId). x.number) (sym fits)))
system-other i step none fits = fits

pub number-read : (g : PlaceId) (step : Step) (a : ℕ) → number_in g.number step ≡ Some a
    → (t : ℕ) × (LoadT g t a ≡ step)
number-read g (LoadT f t b) a is =
    let parts = choice-some (nat_eq f.number g.number) b a is in
    (t, ap (λ x. LoadT x t a) (sym (place-same f g parts.0)) ∙ ap (LoadT f t) (sym parts.1))
number-read g step a is = absurd (none-some a is)

pub number-other : (g : PlaceId) (step : Step) → number_in g.number step ≡ None
    → Fits (LoadsThreshold g) step → ⊥
number-other g (LoadT f u a) none fits = choice-none (nat_eq f.number g.number) a none
    (eq-eqb f.number g.number (ap (λ (x : PlaceId). x.number) (sym fits)))
number-other g step none fits = fits

pub acknowledged-read : (g : PlaceId) (step : Step) (a : ℕ) → acknowledged_in g.number step ≡ Some a
    → SetA g a ≡ step
acknowledged-read g (SetA f b) a is =
    let parts = choice-some (nat_eq f.number g.number) b a is in
    ap (λ x. SetA x a) (sym (place-same f g parts.0)) ∙ ap (SetA f) (sym parts.1)
acknowledged-read g step a is = absurd (none-some a is)

pub acknowledged-other : (g : PlaceId) (step : Step) → acknowledged_in g.number step ≡ None → (a : ℕ)
    → SetA g a ≡ step → ⊥
acknowledged-other g (SetA f b) none a same = choice-none (nat_eq f.number g.number) b none
    (let there : g ≡ f = cc in eq-eqb f.number g.number (ap (λ (x : PlaceId). x.number) (sym there)))
acknowledged-other g step none a same = cc

pub taken-read : (c : CpuId) (j : GroupId) (step : Step) (w : Diffs) → taken_in c.number j.number step ≡ Some w
    → Take c j w ≡ step
taken-read c j (Take d i v) w is =
    let parts = choice-some (nat_eq d.number c.number && nat_eq i.number j.number) v w is in
    let both = and_parts (nat_eq d.number c.number) (nat_eq i.number j.number) parts.0 in
    ap (λ x. Take x j w) (sym (cpu-same d c both.0)) ∙ ap (λ x. Take d x w) (sym (group-same i j both.1))
    ∙ ap (Take d i) (sym parts.1)
taken-read c j step w is = absurd (none-some w is)

pub taken-other : (c : CpuId) (j : GroupId) (step : Step) → taken_in c.number j.number step ≡ None
    → Fits (Takes c j) step → ⊥
taken-other c j (Take d i v) none fits =
    choice-none (nat_eq d.number c.number && nat_eq i.number j.number) v none
    (ap (λ b. b && nat_eq i.number j.number) (eq-eqb d.number c.number (ap (λ (x : CpuId). x.number) (sym fits.0)))
    ∙ eq-eqb i.number j.number (ap (λ (x : GroupId). x.number) (sym fits.1)))
taken-other c j step none fits = fits

pub number_told-read : (c : CpuId) (g : PlaceId) (step : Step) (x : Option ℕ)
    → number_told_in c.number g.number step ≡ Some x → LoadA c g x ≡ step
number_told-read c g (LoadA d f y) x is =
    let parts = choice-some (nat_eq d.number c.number && nat_eq f.number g.number) y x is in
    let both = and_parts (nat_eq d.number c.number) (nat_eq f.number g.number) parts.0 in
    ap (λ e. LoadA e g x) (sym (cpu-same d c both.0)) ∙ ap (λ e. LoadA d e x) (sym (place-same f g both.1))
    ∙ ap (LoadA d f) (sym parts.1)
number_told-read c g step x is = absurd (none-some x is)

pub number_told-other : (c : CpuId) (g : PlaceId) (step : Step) → number_told_in c.number g.number step ≡ None
    → Fits (LoadsAcknowledged c g) step → ⊥
number_told-other c g (LoadA d f y) none fits =
    choice-none (nat_eq d.number c.number && nat_eq f.number g.number) y none
    (ap (λ b. b && nat_eq f.number g.number) (eq-eqb d.number c.number (ap (λ (x : CpuId). x.number) (sym fits.0)))
    ∙ eq-eqb f.number g.number (ap (λ (x : PlaceId). x.number) (sym fits.1)))
number_told-other c g step none fits = fits

pub set_mark-read : (g : PlaceId) (step : Step) (m : ℕ) → set_mark_in g.number step ≡ Some m → SetM g m ≡ step
set_mark-read g (SetM f n) m is =
    let parts = choice-some (nat_eq f.number g.number) n m is in
    ap (λ x. SetM x m) (sym (place-same f g parts.0)) ∙ ap (SetM f) (sym parts.1)
set_mark-read g step m is = absurd (none-some m is)

pub set_mark-other : (g : PlaceId) (step : Step) → set_mark_in g.number step ≡ None → (m : ℕ) → SetM g m ≡ step → ⊥
set_mark-other g (SetM f n) none m same = choice-none (nat_eq f.number g.number) n none
    (let there : g ≡ f = cc in eq-eqb f.number g.number (ap (λ (x : PlaceId). x.number) (sym there)))
set_mark-other g step none m same = cc

pub set_threshold-read : (c : CpuId) (g : PlaceId) (step : Step) (t : ℕ)
    → set_threshold_in c.number g.number step ≡ Some t → SetT c g t ≡ step
set_threshold-read c g (SetT d f u) t is =
    let parts = choice-some (nat_eq d.number c.number && nat_eq f.number g.number) u t is in
    let both = and_parts (nat_eq d.number c.number) (nat_eq f.number g.number) parts.0 in
    ap (λ e. SetT e g t) (sym (cpu-same d c both.0)) ∙ ap (λ e. SetT d e t) (sym (place-same f g both.1))
    ∙ ap (SetT d f) (sym parts.1)
set_threshold-read c g step t is = absurd (none-some t is)

pub set_threshold-other : (c : CpuId) (g : PlaceId) (step : Step) → set_threshold_in c.number g.number step ≡ None
    → (t : ℕ) → SetT c g t ≡ step → ⊥
set_threshold-other c g (SetT d f u) none t same =
    choice-none (nat_eq d.number c.number && nat_eq f.number g.number) u none
    (let cpus : c ≡ d = cc in let places : g ≡ f = cc in
    ap (λ b. b && nat_eq f.number g.number) (eq-eqb d.number c.number (ap (λ (x : CpuId). x.number) (sym cpus)))
    ∙ eq-eqb f.number g.number (ap (λ (x : PlaceId). x.number) (sym places)))
set_threshold-other c g step none t same = cc

-- a set of another number
pub set_mark-same : (g : PlaceId) (a b : ℕ) → SetM g a ≡ SetM g b → a ≡ b
set_mark-same g a b same = cc

pub set_threshold-same : (c : CpuId) (g : PlaceId) (a b : ℕ) → SetT c g a ≡ SetT c g b → a ≡ b
set_threshold-same c g a b same = cc

-- lists of the same entries are one
are_bytes-prop : (values : List ℤ) → IsProp (AreBytes values)
are_bytes-prop values = hlevel T_prop

listed : (values : List ℤ) → AreBytes values → Diffs
listed values bytes = record { values = values; bytes = bytes }

pub one_list : (w w' : Diffs) → w.values ≡ w'.values → w ≡ w'
unfolding listed
one_list w w' same =
    subst (λ (values : List ℤ). (bytes : AreBytes values) → w ≡ listed values bytes) same
    (λ bytes. ap (listed w.values) (are_bytes-prop w.values w.bytes bytes)) w'.bytes
