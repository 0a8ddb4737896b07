-- Thresholds of a place that are set on the online CPUs: afterwards they tell what was set.
use Rattle.std.proofs.Common.{◌≡◌, ◌≢◌, ℕ, zero, suc, ◌+◌, ◌*◌, ◌/◌, ◌<◌, ◌≤◌, ◌&&◌, nat_eq, Bool, true, false, List}
use Rattle.std.proofs.Common.{[], if◌then◌else◌, ◌∷◌, length, map, get_or, None, refl, sym, ap, subst, ◌∙◌, arith}
use Rattle.std.proofs.Common.{eq-eqb, length-set}
use Rattle.std.proofs.Math.ListN.{set}
use Rattle.std.proofs.lemmas.Bool.{ne_eqb}
use Rattle.vms_calls.specs.Common.{CpuId, CpuState, HasShape, IsCpu, IsLayout, IsPlace, LeadsOn, SetT, Shape, State}
use Rattle.vms_calls.specs.Common.{cell, is_online, mark_at, online_from, places_of, state_at, threshold_at}
use Rattle.vms_calls.specs.Common.{threshold_steps, with_threshold}
use Rattle.vms_history.proofs.Common.{get_or-set_cell}
use Rattle.vms_core.proofs.Common.{HasShape-effect, places_of-shaped}
use Rattle.vms_plain_pages.specs.Common.{pages_by_state}
use Rattle.vms_plain_control.specs.Common.{online_in}
use Rattle.vms_rating_lines.specs.ToldSteps.{thresholds_told}
use Rattle.vms_rating_lines.proofs.LeftPlaces.{Leaves, leaves-both, leaves-same}

-- what is the same for each CPU that is online
map-online : {B : Type 0} (F G : CpuId → B) (n : ℕ) (xs : List CpuState)
    → ((i : ℕ) → i < length xs → is_online (state_at xs i) ≡ true
    → F (record { number = n + i }) ≡ G (record { number = n + i }))
    → map F (online_from n xs) ≡ map G (online_from n xs)
map-online F G n [] each = refl
map-online {B} F G n (x ∷ xs) each = by (is_online x) refl (map-online F G (suc n) xs later)
  where
    at : (i j : ℕ) → i ≡ j → F (record { number = i }) ≡ G (record { number = i })
        → F (record { number = j }) ≡ G (record { number = j })
    at i j same = subst (λ (k : ℕ). F (record { number = k }) ≡ G (record { number = k })) same

    later : (i : ℕ) → i < length xs → is_online (state_at xs i) ≡ true
        → F (record { number = suc n + i }) ≡ G (record { number = suc n + i })
    later i less on = at (n + suc i) (suc n + i) (omega arith) (each (suc i) (omega arith) on)

    by : (b : Bool) → is_online x ≡ b → map F (online_from (suc n) xs) ≡ map G (online_from (suc n) xs)
        → map F (if b then record { number = n } ∷ online_from (suc n) xs else online_from (suc n) xs)
        ≡ map G (if b then record { number = n } ∷ online_from (suc n) xs else online_from (suc n) xs)
    by true on rest =
        ap (λ (y : B). y ∷ map F (online_from (suc n) xs)) (at (n + 0) n (omega arith) (each 0 (omega arith) on))
        ∙ ap (λ ys. G (record { number = n }) ∷ ys) rest
    by false off rest = rest

module _ (shape : Shape) (layout : IsLayout shape) where
  -- thresholds of a place that stay are told alike
  pub thresholds-same : (g : ℕ) (s next : State) → next.cpu ≡ s.cpu
      → ((c : ℕ) → threshold_at next c g ≡ threshold_at s c g) → thresholds_told s g ≡ thresholds_told next g
  thresholds-same g s next cpus stay =
      map-online (λ c. SetT c (record { number = g }) (threshold_at s c.number g))
      (λ c. SetT c (record { number = g }) (threshold_at next c.number g)) 0 s.cpu
      (λ i less on. ap (λ (t : ℕ). SetT (record { number = 0 + i }) (record { number = g }) t) (sym (stay (0 + i))))
      ∙ ap (λ (xs : List CpuState). map (λ c. SetT c (record { number = g }) (threshold_at next c.number g))
      (online_from 0 xs)) (sym cpus)

  module _ (g t : ℕ) (g_in : IsPlace shape g) where
    -- the threshold is set on one CPU
    module _ (n : ℕ) (n_in : IsCpu shape n) (s : State) (shaped : HasShape shape s) where
      abbrev one : State
      one = with_threshold s n g t

      full : length s.threshold ≡ shape.cpus * places_of s
      full = rw (places_of-shaped shape s layout shaped) shaped.threshold

      read : (c f : ℕ) → IsPlace shape f
          → threshold_at one c f ≡ (if nat_eq n c && nat_eq g f then t else threshold_at s c f)
      read c f f_in =
          ap (λ m. get_or (set s.threshold (cell (places_of s) n g) t) (cell m c f) 0)
          (ap (λ m. m / length s.cpu) (length-set s.threshold (cell (places_of s) n g) t))
          ∙ get_or-set_cell (places_of s) shape.cpus s.threshold n g c f t 0 full n_in
          (rw (places_of-shaped shape s layout shaped) g_in) (rw (places_of-shaped shape s layout shaped) f_in)

      here : threshold_at one n g ≡ t
      here = read n g g_in
          ∙ ap (λ b. if b && nat_eq g g then t else threshold_at s n g) (eq-eqb n n refl)
          ∙ ap (λ b. if b then t else threshold_at s n g) (eq-eqb g g refl)

      earlier : (c : ℕ) → c < n → threshold_at one c g ≡ threshold_at s c g
      earlier c before = read c g g_in
          ∙ ap (λ b. if b && nat_eq g g then t else threshold_at s c g)
          (ne_eqb n c (λ same. omega (arith, before, same)))

      one-leaves : Leaves shape (λ f. f ≢ g) s one
      one-leaves = record {
        cpus = refl;
        acknowledged = refl;
        shaped = HasShape-effect shape (record { layout = shape; sizes = []; base = s }) None
            (SetT (record { number = n }) (record { number = g }) t) s shaped;
        marks = λ f other. refl;
        numbers = λ f other. refl;
        thresholds = λ c f f_in other. read c f f_in
            ∙ neither (nat_eq n c) (nat_eq g f) (threshold_at s c f) (ne_eqb g f (λ same. other (sym same)));
      }
        where
          neither : (b e : Bool) (v : ℕ) → e ≡ false → (if b && e then t else v) ≡ v
          neither true e v is = ap (λ e. if e then t else v) is
          neither false e v is = refl

    -- it is set on those of the CPUs from n on that are online
    record Gives (n : ℕ) (xs : List CpuState) (s last : State) : Type 0 where
      leaves : Leaves shape (λ f. f ≢ g) s last
      marks : last.mark ≡ s.mark
      before : (c : ℕ) → c < n → threshold_at last c g ≡ threshold_at s c g
      given : (i : ℕ) → i < length xs → is_online (state_at xs i) ≡ true → threshold_at last (n + i) g ≡ t

    gives-each : (n : ℕ) (xs : List CpuState) (s last : State) → n + length xs ≤ shape.cpus → HasShape shape s
        → LeadsOn pages_by_state None (threshold_steps g t (online_from n xs)) s last → Gives n xs s last
    gives-each n [] s last within shaped leads = record {
      leaves = leaves-same shape (λ f. f ≢ g) s last shaped leads;
      marks = ap (λ (x : State). x.mark) (sym leads);
      before = λ c below. ap (λ (x : State). threshold_at x c g) (sym leads);
      given = λ i less on. absurd (omega arith);
    }
    gives-each n (x ∷ xs) s last within shaped leads =
        by (is_online x) refl
        (gives-each (suc n) xs set last (omega (arith, within)) (one-leaves n n_in s shaped).shaped)
        (gives-each (suc n) xs s last (omega (arith, within)) shaped) leads
      where
        n_in : IsCpu shape n
        n_in = omega (arith, within)

        set : State
        set = with_threshold s n g t

        each : (from : State) → Gives (suc n) xs from last
            → (is_online x ≡ true → threshold_at last n g ≡ t)
            → (i : ℕ) → i < length (x ∷ xs) → is_online (state_at (x ∷ xs) i) ≡ true → threshold_at last (n + i) g ≡ t
        each from rest first zero less on =
            ap (λ (m : ℕ). threshold_at last m g) (let same : n + 0 ≡ n = omega arith in same) ∙ first on
        each from rest first (suc i) less on =
            ap (λ (m : ℕ). threshold_at last m g) (let same : n + suc i ≡ suc n + i = omega arith in same)
            ∙ rest.given i (omega (arith, less)) on

        by : (b : Bool) → is_online x ≡ b
            → (LeadsOn pages_by_state None (threshold_steps g t (online_from (suc n) xs)) set last
            → Gives (suc n) xs set last)
            → (LeadsOn pages_by_state None (threshold_steps g t (online_from (suc n) xs)) s last
            → Gives (suc n) xs s last)
            → LeadsOn pages_by_state None (threshold_steps g t
            (if b then record { number = n } ∷ online_from (suc n) xs else online_from (suc n) xs)) s last
            → Gives n (x ∷ xs) s last
        by true on after_set after_none leads =
            let rest = after_set leads.1 in
            record {
              leaves = leaves-both shape (λ f. f ≢ g) s set last (one-leaves n n_in s shaped) rest.leaves;
              marks = rest.marks;
              before = λ c below. rest.before c (omega (arith, below)) ∙ earlier n n_in s shaped c below;
              given = each set rest (λ up. rest.before n (omega arith) ∙ here n n_in s shaped);
            }
        by false off after_set after_none leads =
            let rest = after_none leads in
            record {
              leaves = rest.leaves;
              marks = rest.marks;
              before = λ c below. rest.before c (omega (arith, below));
              given = each s rest (λ up. absurd cc);
            }

    module _ (s next : State) (shaped : HasShape shape s)
        (leads : LeadsOn pages_by_state None (threshold_steps g t (online_in s)) s next) where
      gives : Gives 0 s.cpu s next
      gives = gives-each 0 s.cpu s next (omega (arith, shaped.cpu)) shaped leads

      pub thresholds-leave : Leaves shape (λ f. f ≢ g) s next
      thresholds-leave = gives.leaves

      pub thresholds-marks : (f : ℕ) → mark_at next f ≡ mark_at s f
      thresholds-marks f = ap (λ (ms : List ℕ). get_or ms f 0) gives.marks

      pub thresholds-are : threshold_steps g t (online_in s) ≡ thresholds_told next g
      thresholds-are =
          map-online (λ c. SetT c (record { number = g }) t)
          (λ c. SetT c (record { number = g }) (threshold_at next c.number g)) 0 s.cpu
          (λ i less on. ap (λ (t : ℕ). SetT (record { number = 0 + i }) (record { number = g }) t)
          (sym (gives.given i less on)))
          ∙ ap (λ (xs : List CpuState). map (λ c. SetT c (record { number = g }) (threshold_at next c.number g))
          (online_from 0 xs)) (sym gives.leaves.cpus)
