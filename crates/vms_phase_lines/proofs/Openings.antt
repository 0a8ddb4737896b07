-- The passes of lanes begin one after another, and their lines are written.
use Rattle.std.proofs.Common.{◌≡◌, ◌≢◌, ℕ, suc, ◌+◌, ◌<◌, nat_eq, Bool, true, false, List, [], ◌∷◌, ◌++◌, append-nil}
use Rattle.std.proofs.Common.{get_or, sym, ap, ◌∙◌, arith, if◌then◌else◌, eq-eqb, length, length-append, length-set}
use Rattle.std.proofs.Common.{inl, inr, ne_eqb, Option, refl, replicate, ◌⊎◌}
use Rattle.std.proofs.Math.ListN.{set}
use Rattle.std.proofs.lemmas.List.{length-replicate}
use Rattle.vms_world.specs.Common.{CpuId, Header, IsLaneOf, Lane, after, is_among, owner_of}
use Rattle.vms_core.specs.declared.steps.Step.TheVariants.{Split}
use Rattle.vms_core.specs.Pages.{History}
use Rattle.vms_history.proofs.Common.{get_or-set}
use Rattle.vms_written_lines.specs.Spelling.{event_line}
use Rattle.vms_written_lines.specs.WideSteps.{widened}
use Rattle.vms_file_order.specs.Common.{begins_from, opening_of, page_passes, pass_of}
use Rattle.vms_phase_lines.specs.declared.lanes.LanePasses.{LanePasses}
use Rattle.vms_phase_lines.specs.Common.{HaveBegun, OpensLanes, event_lines, slot_of}
use Rattle.vms_phase_lines.proofs.EventLines.{lines-more}
use Rattle.vms_phase_lines.proofs.LanePlaces.{among-more, pass_of-kept, pass_of-last, slot_of-injective, slot_of-within}

begins-last : (m : ℕ) (lanes : List Lane) (lane : Lane) (g : History)
    → after 0 (begins_from page_passes m (lanes ++ lane ∷ [])) g
    ≡ record { caller = 0; step = Split (m + length lanes) (owner_of lane) }
    ∷ after 0 (begins_from page_passes m lanes) g
begins-last m [] lane g =
    let at : m + 0 ≡ m = omega arith in
    ap (λ (q : ℕ). record { caller = 0; step = Split q (owner_of lane) } ∷ g) (sym at)
begins-last m (first ∷ lanes) lane g =
    let at : suc m + length lanes ≡ m + suc (length lanes) = omega arith in
    begins-last (suc m) lanes lane (record { caller = 0; step = Split m (owner_of first) } ∷ g)
    ∙ ap (λ (q : ℕ). record { caller = 0; step = Split q (owner_of lane) }
    ∷ after 0 (begins_from page_passes (suc m) lanes) (record { caller = 0; step = Split m (owner_of first) } ∷ g)) at

-- the opening of one lane more
pub opening-last : (lanes : List Lane) (lane : Lane) (n : ℕ) → n ≡ length lanes + 1
    → record { caller = 0; step = Split n (owner_of lane) } ∷ opening_of page_passes lanes
    ≡ opening_of page_passes (lanes ++ lane ∷ [])
opening-last lanes lane n is =
    let at : n ≡ 1 + length lanes = omega (arith, is) in
    ap (λ (q : ℕ). record { caller = 0; step = Split q (owner_of lane) } ∷ opening_of page_passes lanes) at
    ∙ sym (begins-last 1 lanes lane [])

-- no lane's pass has begun
pub HaveBegun-none : (header : Header) (passes : List ℕ) → passes ≡ replicate (header.layout.cpus + 1) 0
    → HaveBegun header [] (record { passes = passes; begun = 0 })
HaveBegun-none header passes is = record {
  count = refl;
  one_each = ap (λ (ns : List ℕ). length ns) is ∙ length-replicate (header.layout.cpus + 1) 0;
  passes = λ lane known among. absurd cc;
}

pub OpensLanes-none : (header : Header) (begun : LanePasses) (out : List ℕ) → HaveBegun header [] begun
    → OpensLanes header [] begun out out
OpensLanes-none header begun out begins = record { begins = begins; lines = sym (append-nil out) }

module _ (header : Header) (lanes : List Lane) (begun : LanePasses) (out out' : List ℕ)
    (opens : OpensLanes header lanes begun out out') (lane : Lane) (known : IsLaneOf header lane)
    (apart : is_among lane lanes ≡ false) (who : Option CpuId) (who-is : who ≡ owner_of lane) (n : ℕ)
    (is : n ≡ begun.begun + 1) (passes : List ℕ)
    (set_is : passes ≡ set begun.passes (slot_of header.layout.cpus lane) n)
    (last : List ℕ) (line : last ≡ out' ++ event_line 0 (widened (Split n who))) where
  abbrev cpus : ℕ
  cpus = header.layout.cpus

  count : n ≡ length lanes + 1
  count = is ∙ ap (λ (m : ℕ). m + 1) opens.begins.count

  within : slot_of cpus lane < length begun.passes
  within = omega (arith, slot_of-within header lane known, opens.begins.one_each)

  number : (other : Lane) → IsLaneOf header other → (is_among other lanes ≡ true) ⊎ (lane ≡ other)
      → (if nat_eq (slot_of cpus lane) (slot_of cpus other) then n else get_or begun.passes (slot_of cpus other) 0)
      ≡ pass_of (lanes ++ lane ∷ []) other
  number other other_in (inl among) =
      let differ : slot_of cpus lane ≢ slot_of cpus other =
      λ same. (let both : true ≡ false = sym among ∙ ap (λ (l : Lane). is_among l lanes)
      (sym (slot_of-injective header lane other known other_in same)) ∙ apart in absurd cc) in
      ap (λ (b : Bool). if b then n else get_or begun.passes (slot_of cpus other) 0)
      (ne_eqb (slot_of cpus lane) (slot_of cpus other) differ)
      ∙ opens.begins.passes other other_in among ∙ sym (pass_of-kept lanes lane other among)
  number other other_in (inr same) =
      ap (λ (b : Bool). if b then n else get_or begun.passes (slot_of cpus other) 0)
      (eq-eqb (slot_of cpus lane) (slot_of cpus other) (ap (slot_of cpus) same))
      ∙ (let next : n ≡ suc (length lanes) = omega (arith, count) in next)
      ∙ sym (pass_of-last lanes lane apart) ∙ ap (pass_of (lanes ++ lane ∷ [])) same

  -- a pass begins for this lane too
  pub OpensLanes-more : OpensLanes header (lanes ++ lane ∷ []) (record { passes = passes; begun = n }) out last
  OpensLanes-more = record {
    begins = record {
      count = count ∙ sym (length-append lanes (lane ∷ []));
      one_each = ap (λ (ns : List ℕ). length ns) set_is ∙ length-set begun.passes (slot_of cpus lane) n
          ∙ opens.begins.one_each;
      passes = λ other other_in among. ap (λ (ns : List ℕ). get_or ns (slot_of cpus other) 0) set_is
          ∙ get_or-set begun.passes (slot_of cpus lane) (slot_of cpus other) n 0 within
          ∙ number other other_in (among-more lanes lane other among);
    };
    lines = lines-more out out' last (opening_of page_passes lanes) 0 (Split n (owner_of lane)) opens.lines
        (line ∙ ap (λ (w : Option CpuId). out' ++ event_line 0 (widened (Split n w))) who-is)
        ∙ ap (λ (h : History). out ++ event_lines h) (opening-last lanes lane n count);
  }
