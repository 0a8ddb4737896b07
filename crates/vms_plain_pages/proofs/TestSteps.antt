-- For other crates too: the steps of a test of a watermark.
use Rattle.std.proofs.Common.{◌≡◌, ℕ, ◌^◌, ◌&&◌, ◌||◌, nat_eq, not, Bool, true, false, List, [], ◌∷◌, Option}
use Rattle.std.proofs.Common.{if◌then◌else◌, refl, sym, ap, subst, eq-eqb, arith}
use Rattle.vms_calls.specs.Common.{Header, CpuId, PlaceId, WaterMark, Shape, IsLayout, IsZone, counter_at, LeadsOn}
use Rattle.vms_calls.specs.Common.{MarkRead, State, Step, LoadG, LoadM, mark_at, mark_sets_at, value_at, Frees}
use Rattle.vms_calls.specs.Common.{IsWatermarkTest, free_pages, is_doubtful}
use Rattle.vms_core.proofs.Common.{first-known}
use Rattle.vms_plain_pages.specs.Common.{IsSmallState, CallLeadsAlone, pages_by_state, snapshot_of, free_of, free_value}
use Rattle.vms_plain_pages.specs.Common.{takes_snapshot, verdict_at}
use Rattle.vms_plain_pages.proofs.SnapshotSteps.{snapshot-made}

module _ (shape : Shape) (layout : IsLayout shape) (s : State) (room : IsSmallState shape (2 ^ 61) s) (g : PlaceId)
    (g_in : IsZone shape g.number) where
  abbrev mark_read : MarkRead
  mark_read = record { mark = mark_at s g.number; number = mark_sets_at s g.number }

  -- nobody sets the mark between its loads
  is_doubtful-alone : is_doubtful mark_read (value_at s (counter_at shape g.number 0)) mark_read
      ≡ takes_snapshot shape s g.number
  is_doubtful-alone = ap (λ (b : Bool). not b || takes_snapshot shape s g.number) same
    where
      both : (a b : Bool) → a ≡ true → b ≡ true → (a && b) ≡ true
      both true b is also = also
      both false b is also = is

      same : (nat_eq (mark_at s g.number) (mark_at s g.number)
          && nat_eq (mark_sets_at s g.number) (mark_sets_at s g.number)) ≡ true
      same = both (nat_eq (mark_at s g.number) (mark_at s g.number))
          (nat_eq (mark_sets_at s g.number) (mark_sets_at s g.number))
          (eq-eqb (mark_at s g.number) (mark_at s g.number) refl)
          (eq-eqb (mark_sets_at s g.number) (mark_sets_at s g.number) refl)

  further-made : (who : Option CpuId) (b : Bool) → (steps : List Step)
      × Frees shape (free_pages shape g) b (value_at s (counter_at shape g.number 0)) steps
      (if b then snapshot_of shape s (counter_at shape g.number 0) else free_value shape s g.number)
      × LeadsOn pages_by_state who steps s s
  further-made who true =
      snapshot-made shape layout s room (free_pages shape g) (first-known shape layout g.number (omega arith)) who
  further-made who false = ([], (refl, refl), refl)

-- a test is made, and answers what the state tells
pub test-made : (header : Header) → IsLayout header.layout → (s : State) → IsSmallState header.layout (2 ^ 61) s
    → (g : PlaceId) → IsZone header.layout g.number → (mark : WaterMark) (most : ℕ) (who : Option CpuId)
    → CallLeadsAlone who (λ steps.
    IsWatermarkTest header g mark most steps (verdict_at header g.number mark most s)) s s
test-made header layout s room g g_in mark most who =
    let shape = header.layout in
    let value = value_at s (counter_at shape g.number 0) in
    let more = further-made shape layout s room g g_in who (takes_snapshot shape s g.number) in
    let doubt = is_doubtful-alone shape layout s room g g_in in (
      LoadM g (mark_at s g.number) (mark_sets_at s g.number) ∷ LoadG (free_pages shape g) value
          ∷ LoadM g (mark_at s g.number) (mark_sets_at s g.number) ∷ more.0,
      record {
        first = record { mark = mark_at s g.number; number = mark_sets_at s g.number };
        value = value;
        second = record { mark = mark_at s g.number; number = mark_sets_at s g.number };
        further = more.0;
        in_order = refl;
        frees = subst (λ b. Frees shape (free_pages shape g) b value more.0 (free_of shape s g.number)) (sym doubt)
            more.1;
        fast = ap not (sym doubt);
        yes = refl;
      },
      ((refl, refl), (refl, ((refl, refl), more.2))),
    )
