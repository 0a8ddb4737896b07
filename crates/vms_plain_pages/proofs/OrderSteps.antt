-- The steps of a test of a zone for an order.
use Rattle.std.proofs.Common.{◌≡◌, ℕ, zero, suc, ◌+◌, ◌^◌, ◌<◌, nat_eq, not, Bool, true, false, List, [], ◌∷◌, ◌++◌}
use Rattle.std.proofs.Common.{◌-◌, drop, Option, Some, None, if◌then◌else◌, refl, sym, ap, subst, arith, eqb-true}
use Rattle.std.specs.List.{find}
use Rattle.std.specs.Prelude.{is_some, option_map}
use Rattle.std.proofs.lemmas.Bool.{eqb-false}
use Rattle.vms_calls.specs.Common.{Header, CpuId, PlaceId, WaterMark, Area, area_at, area_names, areas_from}
use Rattle.vms_calls.specs.Common.{areas_named, areas_of, IsHeader, IsPlace, IsZone, counter_at, limit_of, LeadsOn}
use Rattle.vms_calls.specs.Common.{State, Step, IsSnapshot, LooksForBlock, FindsBlock, IsOrderTest, blocks_at, has_room}
use Rattle.vms_calls.specs.Common.{nowhere, empty, some}
use Rattle.vms_history.proofs.Common.{LeadsOn-append}
use Rattle.vms_core.proofs.Common.{counter_at-known}
use Rattle.vms_plain_pages.specs.Common.{IsSmallState, CallLeadsAlone, area_found, block_found, has_block}
use Rattle.vms_plain_pages.specs.Common.{order_verdict_at, pages_by_state, snapshot_of, free_of, verdict_at}
use Rattle.vms_calc.proofs.Common.{areas_from-later, index_of, position-within}
use Rattle.vms_plain_pages.proofs.SnapshotSteps.{snapshot-made}
use Rattle.vms_plain_pages.proofs.TestSteps.{test-made}

module _ (header : Header) (valid : IsHeader header) (s : State)
    (room : IsSmallState header.layout (2 ^ 61) s) (g : PlaceId)
    (g_in : IsZone header.layout g.number) (who : Option CpuId) where
  -- a block is looked for in these areas
  abbrev Looked : List Area → Option ℕ → Type 0
  Looked areas found = (steps : List Step) × FindsBlock header.layout g areas steps found
      × LeadsOn pages_by_state who steps s s

  place : IsPlace header.layout g.number
  place = omega arith

  first-looked : (area : Area) → area.position < header.layout.positions → (areas : List Area)
      → Looked areas (block_found header.layout s g.number areas)
      → Looked (area ∷ areas) (block_found header.layout s g.number (area ∷ areas))
  first-looked area within areas rest = by (nat_eq blocks 0) refl
    where
      blocks : ℕ
      blocks = snapshot_of header.layout s (counter_at header.layout g.number area.position)

      by : (b : Bool) → nat_eq (snapshot_of header.layout s (counter_at header.layout g.number area.position)) 0 ≡ b
          → Looked (area ∷ areas) (option_map (λ (a : Area). a.order)
          (if not b then Some area else find (has_block header.layout s g.number) areas))
      by true none =
          let snap = snapshot-made header.layout valid.is_layout s room (blocks_at header.layout g area)
          (counter_at-known header.layout valid.is_layout g.number area.position place within) who in
          let zero_blocks = eqb-true (snapshot_of header.layout s (counter_at header.layout g.number area.position))
          0 none in (
            snap.0 ++ rest.0,
            empty area areas snap.0 rest.0 (block_found header.layout s g.number areas)
                (subst (λ n. IsSnapshot header.layout (blocks_at header.layout g area) snap.0 n) zero_blocks snap.1)
                rest.1,
            LeadsOn-append pages_by_state who snap.0 rest.0 s s s snap.2 rest.2,
          )
      by false other =
          let snap = snapshot-made header.layout valid.is_layout s room (blocks_at header.layout g area)
          (counter_at-known header.layout valid.is_layout g.number area.position place within) who in (
            snap.0,
            some area areas snap.0 (snapshot_of header.layout s (counter_at header.layout g.number area.position))
                snap.1
                (eqb-false (snapshot_of header.layout s (counter_at header.layout g.number area.position)) 0 other),
            snap.2,
          )

  area-looked : (k : ℕ) (found : Option ℕ)
      → ((index : ℕ) → found ≡ Some index → 8 + index < header.layout.positions) → (areas : List Area)
      → Looked areas (block_found header.layout s g.number areas)
      → Looked (area_at k found ++ areas) (block_found header.layout s g.number (area_at k found ++ areas))
  area-looked k None within areas rest = rest
  area-looked k (Some index) within areas rest =
      first-looked (record { order = k; position = 8 + index }) (within index refl) areas rest

  names-looked : (k : ℕ) (names : List (List ℕ)) → Looked (areas_named header.items k names)
      (block_found header.layout s g.number (areas_named header.items k names))
  names-looked k [] = ([], nowhere, refl)
  names-looked k (name ∷ names) =
      area-looked k (index_of header.items name) (position-within header valid name)
      (areas_named header.items (suc k) names) (names-looked (suc k) names)

  areas-looked : (n : ℕ) → Looked (areas_from (suc n) (areas_of header.items))
      (block_found header.layout s g.number (areas_from (suc n) (areas_of header.items)))
  areas-looked n = subst (λ areas. Looked areas (block_found header.layout s g.number areas))
      (sym (areas_from-later header.items (suc n) 1 area_names (omega arith)))
      (names-looked (suc n) (drop (suc n - 1) area_names))

  -- a test is made, and answers what the state tells
  module _ (mark : WaterMark) (most : ℕ) where
    further-made : (n : ℕ) (b : Bool)
        → has_room (limit_of header g.number mark most) (suc n) (free_of header.layout s g.number) ≡ b
        → (steps : List Step) × LooksForBlock header g (suc n) b steps
        (order_verdict_at header g.number mark most (suc n) s)
        × LeadsOn pages_by_state who steps s s
    further-made n true is =
        let found = areas-looked n in
        let here : block_found header.layout s g.number (areas_from (suc n) (areas_of header.items))
        ≡ area_found header g.number mark most (suc n) s =
        sym (ap (λ b. if b then block_found header.layout s g.number (areas_from (suc n) (areas_of header.items))
        else None) is) in (
          found.0,
          (
            subst (FindsBlock header.layout g (areas_from (suc n) (areas_of header.items)) found.0) here found.1,
            refl,
          ),
          found.2,
        )
    further-made n false is =
        let none : area_found header g.number mark most (suc n) s ≡ None =
        ap (λ b. if b then block_found header.layout s g.number (areas_from (suc n) (areas_of header.items)) else None)
        is in
        ([], (refl, ap is_some none, none), refl)

    pub order-made : (order : ℕ) → CallLeadsAlone who (λ steps. IsOrderTest header g mark most order steps
        (order_verdict_at header g.number mark most order s)) s s
    order-made zero =
        let test = test-made header valid.is_layout s room g g_in mark most who in (
          test.0 ++ [],
          record {
            verdict = verdict_at header g.number mark most s;
            test = test.0;
            tests = test.1;
            further = [];
            blocks = (refl, refl, refl);
            in_order = refl;
            free = refl;
            fast = refl;
          },
          LeadsOn-append pages_by_state who test.0 [] s s s test.2 refl,
        )
    order-made (suc n) =
        let test = test-made header valid.is_layout s room g g_in mark most who in
        let more = further-made n (has_room (limit_of header g.number mark most) (suc n)
        (free_of header.layout s g.number)) refl in (
          test.0 ++ more.0,
          record {
            verdict = verdict_at header g.number mark most s;
            test = test.0;
            tests = test.1;
            further = more.0;
            blocks = more.1;
            in_order = refl;
            free = refl;
            fast = refl;
          },
          LeadsOn-append pages_by_state who test.0 more.0 s s s test.2 more.2,
        )
