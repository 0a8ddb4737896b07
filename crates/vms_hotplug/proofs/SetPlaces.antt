-- One CPU more gets its threshold of a place, if it is online.
use Rattle.std.proofs.Common.{◌≡◌, ◌≢◌, ℕ, ◌+◌, ◌*◌, ◌<◌, ◌≤◌, Bool, true, false, List, length, get_or, if◌then◌else◌}
use Rattle.std.proofs.Common.{sym, ap, subst, ◌∙◌, arith, ⊎_elim, length-set, get_or-set_same, get_or-set_other}
use Rattle.std.proofs.Math.ListN.{set}
use Rattle.std.proofs.lemmas.Bool.{cases_eq}
use Rattle.vms_world.specs.Common.{CpuState, is_online, state_at, cell}
use Rattle.vms_base.proofs.Common.{cell-injective, cell-lt}

module _ (states : List CpuState) (places g t : ℕ) (before : List ℕ) where
  -- what CPU c is to have
  abbrev wanted : ℕ → ℕ
  wanted c = if is_online (state_at states c) then t else get_or before (cell places c g) 0

  -- the CPUs below n have it
  pub record SetsBelow (n : ℕ) (now : List ℕ) : Type 0 where
    pub same_length : length now ≡ length before
    pub here : (c : ℕ) → c < n → get_or now (cell places c g) 0 ≡ wanted c
    pub later : (c : ℕ) → n ≤ c → c < length states
        → get_or now (cell places c g) 0 ≡ get_or before (cell places c g) 0
    pub others : (c h : ℕ) → c < length states → h < places → h ≢ g
        → get_or now (cell places c h) 0 ≡ get_or before (cell places c h) 0

  module _ (n : ℕ) (now : List ℕ) (so_far : SetsBelow n now) (g_in : g < places) (n_in : n < length states)
      (full : length before ≡ length states * places) where
    -- CPU n isn't online
    pub SetsBelow-kept : is_online (state_at states n) ≡ false → SetsBelow (n + 1) now
    SetsBelow-kept offline = record {
      same_length = so_far.same_length;
      here = here;
      later = λ c past c_in. so_far.later c (omega arith) c_in;
      others = so_far.others;
    }
      where
        here : (c : ℕ) → c < n + 1 → get_or now (cell places c g) 0 ≡ wanted c
        here c below = ⊎_elim
            (λ (same : c ≡ n). subst (λ (d : ℕ). get_or now (cell places d g) 0 ≡ wanted d) (sym same)
            (so_far.later n (omega arith) n_in
            ∙ sym (ap (λ (b : Bool). if b then t else get_or before (cell places n g) 0) offline)))
            (λ (other : c ≢ n). so_far.here c (omega arith))
            (cases_eq c n)

    -- CPU n is online and gets the threshold
    pub SetsBelow-set : is_online (state_at states n) ≡ true → SetsBelow (n + 1) (set now (cell places n g) t)
    SetsBelow-set online = record {
      same_length = length-set now (cell places n g) t ∙ so_far.same_length;
      here = here;
      later = λ c past c_in. elsewhere c g g_in (λ same. omega (arith, same.0)) ∙ so_far.later c (omega arith) c_in;
      others = λ c h c_in h_in other. elsewhere c h h_in (λ same. other same.1) ∙ so_far.others c h c_in h_in other;
    }
      where
        within : cell places n g < length now
        within = subst (λ (m : ℕ). cell places n g < m) (sym (so_far.same_length ∙ full))
            (cell-lt places (length states) n g n_in g_in)

        elsewhere : (c h : ℕ) → h < places → (((c ≡ n) × (h ≡ g)) → ⊥)
            → get_or (set now (cell places n g) t) (cell places c h) 0 ≡ get_or now (cell places c h) 0
        elsewhere c h h_in differ = get_or-set_other now (cell places n g) (cell places c h) t 0
            (λ same. differ (cell-injective places c h n g h_in g_in same))

        here : (c : ℕ) → c < n + 1 → get_or (set now (cell places n g) t) (cell places c g) 0 ≡ wanted c
        here c below = ⊎_elim
            (λ (same : c ≡ n).
            subst (λ (d : ℕ). get_or (set now (cell places n g) t) (cell places d g) 0 ≡ wanted d) (sym same)
            (get_or-set_same now (cell places n g) t 0 within
            ∙ sym (ap (λ (b : Bool). if b then t else get_or before (cell places n g) 0) online)))
            (λ (other : c ≢ n). elsewhere c g g_in (λ same. other same.0) ∙ so_far.here c (omega arith))
            (cases_eq c n)
