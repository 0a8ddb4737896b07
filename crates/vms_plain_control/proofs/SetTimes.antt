-- How often thresholds and marks are set, and what stays.
use Rattle.std.proofs.Common.{◌≡◌, ◌≢◌, ℕ, suc, ◌+◌, ◌<◌, ◌≤◌, ◌&&◌, nat_eq, if◌then◌else◌, Bool, true, false, ◌⊎◌, inl}
use Rattle.std.proofs.Common.{inr, List, [], ◌∷◌, length, None, refl, sym, ap, ◌∙◌, subst, arith, ⊎_elim, eq-eqb}
use Rattle.std.proofs.Common.{add-one}
use Rattle.std.proofs.lemmas.Bool.{cases_eq, cases_lt, ne_eqb}
use Rattle.vms_calls.specs.Common.{CpuId, CpuState, is_online, online_from, Shape, IsLayout, IsCpu, IsPlace, IsZone}
use Rattle.vms_calls.specs.Common.{State, SetM, HasShape, threshold_sets_at, mark_at, mark_sets_at, with_mark}
use Rattle.vms_calls.specs.Common.{with_threshold}
use Rattle.vms_history.proofs.Common.{get_or-changed}
use Rattle.vms_core.proofs.Common.{HasShape-effect}
use Rattle.vms_plain_control.specs.Common.{marked, with_place_thresholds, SetsOnce, SetsOnly}
use Rattle.vms_plain_control.proofs.ThresholdWrites.{HasShape-with_threshold, threshold_sets_at-with_threshold}

pub SetsOnly-both : (s t u : State) → SetsOnly s t → SetsOnly t u → SetsOnly s u
SetsOnly-both s t u first second = second ∙ ap (λ (x : State). record x {
  threshold = u.threshold;
  threshold_sets = u.threshold_sets;
  mark = u.mark;
  mark_sets = u.mark_sets;
}) first

module _ (shape : Shape) where
  pub SetsOnce-none : (from to : ℕ) (s : State) → SetsOnce shape from to s s
  SetsOnce-none from to s = record {
    thresholds = λ c g c_in g_in least most. omega arith;
    other_thresholds = λ c g c_in g_in out. refl;
    marks = λ g least most. omega arith;
    other_marks = λ g out. refl;
  }

  pub SetsOnce-both : (from mid to : ℕ) (s t u : State) → from ≤ mid → mid ≤ to → SetsOnce shape from mid s t
      → SetsOnce shape mid to t u → SetsOnce shape from to s u
  SetsOnce-both from mid to s t u low high first second = record {
    thresholds = λ c g c_in g_in least most. ⊎_elim
        (λ (early : g < mid). omega (
          arith,
          first.thresholds c g c_in g_in least early,
          second.other_thresholds c g c_in g_in (inl early),
        ))
        (λ (late : mid ≤ g). omega (
          arith,
          first.other_thresholds c g c_in g_in (inr late),
          second.thresholds c g c_in g_in late most,
        ))
        (cases_lt g mid);
    other_thresholds = λ c g c_in g_in out. second.other_thresholds c g c_in g_in (below g out)
        ∙ first.other_thresholds c g c_in g_in (above g out);
    marks = λ g least most. ⊎_elim
        (λ (early : g < mid). omega (arith, first.marks g least early, second.other_marks g (inl early)))
        (λ (late : mid ≤ g). omega (arith, first.other_marks g (inr late), second.marks g late most))
        (cases_lt g mid);
    other_marks = λ g out. second.other_marks g (below g out) ∙ first.other_marks g (above g out);
  }
    where
      below : (g : ℕ) → (g < from) ⊎ (to ≤ g) → (g < mid) ⊎ (to ≤ g)
      below g (inl early) = inl (omega arith)
      below g (inr late) = inr late

      above : (g : ℕ) → (g < from) ⊎ (to ≤ g) → (g < from) ⊎ (mid ≤ g)
      above g (inl early) = inl early
      above g (inr late) = inr (omega arith)

  -- a place more
  pub SetsOnce-next : (n : ℕ) (s t u : State) → SetsOnce shape 0 n s t → SetsOnce shape n (suc n) t u
      → SetsOnce shape 0 (n + 1) s u
  SetsOnce-next n s t u first second = subst (λ (m : ℕ). SetsOnce shape 0 m s u) (sym (add-one n))
      (SetsOnce-both 0 n (suc n) s t u (omega arith) (omega arith) first second)

module _ (shape : Shape) (layout : IsLayout shape) (g t : ℕ) (g_in : IsPlace shape g) where
  pub HasShape-thresholds : (cs : List CpuId) (s : State) → HasShape shape s →
      HasShape shape (with_place_thresholds g t cs s)
  HasShape-thresholds [] s shaped = shaped
  HasShape-thresholds (c ∷ cs) s shaped = HasShape-thresholds cs (with_threshold s c.number g t)
      (HasShape-with_threshold shape layout s shaped c.number g t)

  pub SetsOnly-thresholds : (cs : List CpuId) (s : State) → SetsOnly s (with_place_thresholds g t cs s)
  SetsOnly-thresholds [] s = refl
  SetsOnly-thresholds (c ∷ cs) s = SetsOnly-both s (with_threshold s c.number g t)
      (with_place_thresholds g t cs (with_threshold s c.number g t)) refl
      (SetsOnly-thresholds cs (with_threshold s c.number g t))

  pub marks-thresholds : (cs : List CpuId) (s : State) → (with_place_thresholds g t cs s).mark_sets ≡ s.mark_sets
  marks-thresholds [] s = refl
  marks-thresholds (c ∷ cs) s = marks-thresholds cs (with_threshold s c.number g t)

  module _ (n : ℕ) (xs : List CpuState) (s : State) where
    -- the state in which CPU n has the threshold
    abbrev one : State
    one = with_threshold s n g t

    -- how often a threshold was set once it is set on CPU n, if that is online, and on the online CPUs after it
    abbrev sets_then : Bool → ℕ → ℕ → ℕ
    sets_then b c f = threshold_sets_at (with_place_thresholds g t
        (if b then record { number = n } ∷ online_from (suc n) xs else online_from (suc n) xs) s) c f

    module _ (shaped : HasShape shape s) (n_in : IsCpu shape n) (c f : ℕ) (f_in : IsPlace shape f) where
      set-one : threshold_sets_at one c f
          ≡ (if nat_eq n c && nat_eq g f then suc (threshold_sets_at s c f) else threshold_sets_at s c f)
      set-one = threshold_sets_at-with_threshold shape layout s shaped n g t n_in g_in c f f_in

      others-by : (b : Bool) → (nat_eq n c && nat_eq g f) ≡ false
          → threshold_sets_at (with_place_thresholds g t (online_from (suc n) xs) one) c f ≡ threshold_sets_at one c f
          → threshold_sets_at (with_place_thresholds g t (online_from (suc n) xs) s) c f ≡ threshold_sets_at s c f
          → sets_then b c f ≡ threshold_sets_at s c f
      others-by true apart set kept = set ∙ set-one
          ∙ ap (λ b. if b then suc (threshold_sets_at s c f) else threshold_sets_at s c f) apart
      others-by false apart set kept = kept

  later : (n c f : ℕ) → (c < n) ⊎ (f ≢ g) → (c < suc n) ⊎ (f ≢ g)
  later n c f (inl before) = inl (omega arith)
  later n c f (inr elsewhere) = inr elsewhere

  apart : (n c f : ℕ) → (c < n) ⊎ (f ≢ g) → (nat_eq n c && nat_eq g f) ≡ false
  apart n c f (inl before) = ap (λ b. b && nat_eq g f) (ne_eqb n c (λ same. omega arith))
  apart n c f (inr elsewhere) = by (nat_eq n c) (ne_eqb g f (λ same. elsewhere (sym same)))
    where
      by : (b : Bool) → nat_eq g f ≡ false → (b && nat_eq g f) ≡ false
      by true is = is
      by false is = refl

  -- the thresholds of other CPUs, and those of other places, are set no more
  others-thresholds : (xs : List CpuState) (n : ℕ) (s : State) → HasShape shape s → n + length xs ≤ shape.cpus
      → (c f : ℕ) → IsPlace shape f → (c < n) ⊎ (f ≢ g)
      → threshold_sets_at (with_place_thresholds g t (online_from n xs) s) c f ≡ threshold_sets_at s c f
  others-thresholds [] n s shaped within c f f_in other = refl
  others-thresholds (x ∷ xs) n s shaped within c f f_in other =
      others-by n xs s shaped (omega arith) c f f_in (is_online x) (apart n c f other)
      (others-thresholds xs (suc n) (one n xs s) (HasShape-with_threshold shape layout s shaped n g t) (omega arith) c f
      f_in (later n c f other))
      (others-thresholds xs (suc n) s shaped (omega arith) c f f_in (later n c f other))

  -- each is set once at most
  once-thresholds : (xs : List CpuState) (n : ℕ) (s : State) → HasShape shape s → n + length xs ≤ shape.cpus
      → (c : ℕ) → threshold_sets_at (with_place_thresholds g t (online_from n xs) s) c g ≤ suc (threshold_sets_at s c g)
  once-thresholds [] n s shaped within c = omega arith
  once-thresholds (x ∷ xs) n s shaped within c =
      by (is_online x)
      (once-thresholds xs (suc n) (one n xs s) (HasShape-with_threshold shape layout s shaped n g t) (omega arith) c)
      (once-thresholds xs (suc n) s shaped (omega arith) c)
    where
      set : threshold_sets_at (one n xs s) c g
          ≡ (if nat_eq n c && nat_eq g g then suc (threshold_sets_at s c g) else threshold_sets_at s c g)
      set = set-one n xs s shaped (omega arith) c g g_in

      here : n ≡ c → sets_then n xs s true c g ≤ suc (threshold_sets_at s c g)
      here same =
          let kept = others-thresholds xs (suc n) (one n xs s)
          (HasShape-with_threshold shape layout s shaped n g t) (omega arith) c g g_in (inl (omega arith)) in
          let last = set ∙ ap (λ b. if b && nat_eq g g then suc (threshold_sets_at s c g) else threshold_sets_at s c g)
          (eq-eqb n c same)
          ∙ ap (λ b. if b then suc (threshold_sets_at s c g) else threshold_sets_at s c g) (eq-eqb g g refl) in
          omega (arith, kept, last)

      there : threshold_sets_at (with_place_thresholds g t (online_from (suc n) xs) (one n xs s)) c g
          ≤ suc (threshold_sets_at (one n xs s) c g) → n ≢ c → sets_then n xs s true c g ≤ suc (threshold_sets_at s c g)
      there rest other =
          let last = set ∙ ap (λ b. if b && nat_eq g g then suc (threshold_sets_at s c g) else threshold_sets_at s c g)
          (ne_eqb n c other) in
          omega (arith, rest, last)

      by : (b : Bool) → threshold_sets_at (with_place_thresholds g t (online_from (suc n) xs) (one n xs s)) c g
          ≤ suc (threshold_sets_at (one n xs s) c g)
          → threshold_sets_at (with_place_thresholds g t (online_from (suc n) xs) s) c g ≤ suc (threshold_sets_at s c g)
          → sets_then n xs s b c g ≤ suc (threshold_sets_at s c g)
      by true rest kept = ⊎_elim here (there rest) (cases_eq n c)
      by false rest kept = kept

  module _ (s : State) (shaped : HasShape shape s) where
    -- thresholds that are set on the online CPUs are set once
    pub SetsOnce-thresholds : SetsOnce shape g (suc g) s (with_place_thresholds g t (online_from 0 s.cpu) s)
    SetsOnce-thresholds = record {
      thresholds = λ c f c_in f_in least most.
          let same : g ≡ f = omega arith in
          subst (λ (n : ℕ). threshold_sets_at (with_place_thresholds g t (online_from 0 s.cpu) s) c n
          ≤ suc (threshold_sets_at s c n)) same
          (once-thresholds s.cpu 0 s shaped (omega (arith, shaped.cpu)) c);
      other_thresholds = λ c f c_in f_in out. others-thresholds s.cpu 0 s shaped (omega (arith, shaped.cpu)) c f f_in
          (inr (apart f out));
      marks = λ f least most. let kept = ap (λ (ms : List ℕ). mark_sets_at (record s { mark_sets = ms }) f)
          (marks-thresholds (online_from 0 s.cpu) s) in omega (arith, kept);
      other_marks = λ f out. ap (λ (ms : List ℕ). mark_sets_at (record s { mark_sets = ms }) f)
          (marks-thresholds (online_from 0 s.cpu) s);
    }
      where
        apart : (f : ℕ) → (f < g) ⊎ (suc g ≤ f) → f ≢ g
        apart f (inl before) same = omega arith
        apart f (inr past) same = omega arith

module _ (shape : Shape) (g m : ℕ) (zone : IsZone shape g) (s : State) (shaped : HasShape shape s) where
  pub HasShape-marked : HasShape shape (marked g m s)
  HasShape-marked = by (nat_eq m (mark_at s g))
    where
      by : (b : Bool) → HasShape shape (if b then s else with_mark s g m)
      by true = shaped
      by false = HasShape-effect shape (record { layout = shape; sizes = []; base = s }) None
          (SetM (record { number = g }) m) s shaped

  pub SetsOnly-marked : SetsOnly s (marked g m s)
  SetsOnly-marked = by (nat_eq m (mark_at s g))
    where
      by : (b : Bool) → SetsOnly s (if b then s else with_mark s g m)
      by true = refl
      by false = refl

  pub SetsOnce-marked : SetsOnce shape g (suc g) s (marked g m s)
  SetsOnce-marked = by (nat_eq m (mark_at s g))
    where
      set : (f : ℕ) → mark_sets_at (with_mark s g m) f
          ≡ (if nat_eq g f then suc (mark_sets_at s f) else mark_sets_at s f)
      set f = get_or-changed (λ n. n + 1) s.mark_sets g f 0 (rw shaped.mark_sets zone)
          ∙ ap (λ n. if nat_eq g f then n else mark_sets_at s f) (add-one (mark_sets_at s f))

      little : (b : Bool) (n : ℕ) → (if b then suc n else n) ≤ suc n
      little true n = omega arith
      little false n = omega arith

      other : (f : ℕ) → (f < g) ⊎ (suc g ≤ f) → nat_eq g f ≡ false
      other f (inl before) = ne_eqb g f (λ same. omega arith)
      other f (inr past) = ne_eqb g f (λ same. omega arith)

      by : (b : Bool) → SetsOnce shape g (suc g) s (if b then s else with_mark s g m)
      by true = SetsOnce-none shape g (suc g) s
      by false = record {
        thresholds = λ c f c_in f_in least most. omega arith;
        other_thresholds = λ c f c_in f_in out. refl;
        marks = λ f least most. omega (arith, set f, little (nat_eq g f) (mark_sets_at s f));
        other_marks = λ f out. set f ∙ ap (λ b. if b then suc (mark_sets_at s f) else mark_sets_at s f) (other f out);
      }

  -- under a mark that is set
  pub SetsOnce-under : (u : State) → SetsOnce shape g (suc g) (marked g m s) u
      → ((f : ℕ) → mark_sets_at u f ≡ mark_sets_at (marked g m s) f) → SetsOnce shape g (suc g) s u
  SetsOnce-under u once marks = record {
    thresholds = λ c f c_in f_in least most. omega (arith, once.thresholds c f c_in f_in least most, same c f);
    other_thresholds = λ c f c_in f_in out. once.other_thresholds c f c_in f_in out ∙ same c f;
    marks = λ f least most. omega (arith, marks f, SetsOnce-marked.marks f least most);
    other_marks = λ f out. marks f ∙ SetsOnce-marked.other_marks f out;
  }
    where
      same : (c f : ℕ) → threshold_sets_at (marked g m s) c f ≡ threshold_sets_at s c f
      same c f = by (nat_eq m (mark_at s g))
        where
          by : (b : Bool) → threshold_sets_at (if b then s else with_mark s g m) c f ≡ threshold_sets_at s c f
          by true = refl
          by false = refl

-- a zone that is rated
module _ (shape : Shape) (layout : IsLayout shape) (g m t : ℕ) (zone : IsZone shape g) (s : State)
    (shaped : HasShape shape s) where
  abbrev pub both : State
  both = with_place_thresholds g t (online_from 0 s.cpu) (marked g m s)

  place : IsPlace shape g
  place = omega (arith, zone)

  same-cpus : (marked g m s).cpu ≡ s.cpu
  same-cpus = by (nat_eq m (mark_at s g))
    where
      by : (b : Bool) → (if b then s else with_mark s g m).cpu ≡ s.cpu
      by true = refl
      by false = refl

  pub HasShape-rated : HasShape shape both
  HasShape-rated = HasShape-thresholds shape layout g t place (online_from 0 s.cpu) (marked g m s)
      (HasShape-marked shape g m zone s shaped)

  pub SetsOnly-rated : SetsOnly s both
  SetsOnly-rated = SetsOnly-both s (marked g m s) both (SetsOnly-marked shape g m zone s shaped)
      (SetsOnly-thresholds shape layout g t place (online_from 0 s.cpu) (marked g m s))

  pub SetsOnce-rated : SetsOnce shape g (suc g) s both
  SetsOnce-rated = SetsOnce-under shape g m zone s shaped both
      (subst (λ (xs : List CpuState). SetsOnce shape g (suc g) (marked g m s)
      (with_place_thresholds g t (online_from 0 xs) (marked g m s))) same-cpus
      (SetsOnce-thresholds shape layout g t place (marked g m s) (HasShape-marked shape g m zone s shaped)))
      (λ f. ap (λ (ms : List ℕ). mark_sets_at (record s { mark_sets = ms }) f)
      (marks-thresholds shape layout g t place (online_from 0 s.cpu) (marked g m s)))
