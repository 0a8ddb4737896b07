-- For other crates too: the header of a draft with a zone can be written.
use Rattle.std.proofs.Common.{ℕ, ◌≡◌, ◌≢◌, ◌*◌, ◌/◌, ◌^◌, ◌<◌, ◌≤◌, Bool, true, false, List, [], ◌∷◌, length, get_or}
use Rattle.std.proofs.Common.{replicate, Option, Some, None, IfSome, refl, sym, subst, ◌∙◌, arith, pos, unsigned_abs}
use Rattle.std.proofs.Common.{suc, Result, Ok, Err, zero}
use Rattle.std.proofs.Math.Nat.{div-le_of_le-mul, mul-le-mul_left}
use Rattle.std.proofs.lemmas.List.Sums.{get_or-le-sum_by}
use Rattle.std.proofs.lemmas.List.{get_or-set_other, length-map}
use Rattle.std.proofs.lemmas.List.Elements.{All-head, All-map, All-replicate, All-set, All-tail, All-weaker}
use Rattle.std.specs.List.{All}
use Rattle.vms_base.specs.declared.headers.Header.{Header}
use Rattle.vms_base.specs.Common.{IsNamed, counter_count, IsValidSize, zone_marks_of}
use Rattle.vms_header.specs.Common.{IsNamedBase, IsDraft, IsShare, IsSized, IsStage, Base, Draft, Share, Zone, bases_of}
use Rattle.vms_header.specs.Common.{header_of, managed_pages, positions_of, shape_of, sizes_under, Fault, Stage}
use Rattle.vms_header.specs.Common.{head_line, header_from, on_step, read_header, Opening, Goes, Ends, IsWritable}
use Rattle.vms_text.specs.Common.{declared_items}
use Rattle.vms_header.proofs.DraftBases.{length-bases_of}
use Rattle.vms_header.proofs.DraftLines.{draft-layout, head_line-keeps}

share-most : (pages managed total : ℕ) → managed ≤ total → pages * managed / total ≤ pages
share-most pages managed total within = div-le_of_le-mul total (omega (arith, mul-le-mul_left pages within))

step-most : (managed scale : ℕ) → managed ≤ 2 ^ 40 → scale ≤ 3000 → managed * scale / 10000 ≤ 329853488333
step-most managed scale within most = div-le_of_le-mul 10000 (omega (arith, mul-le-mul_left managed most))

marks-sized : (kbytes scale managed total : ℕ) → kbytes ≤ 2 ^ 40 → scale ≤ 3000 → 1 ≤ managed → managed ≤ 2 ^ 40
    → managed ≤ total → IsSized (zone_marks_of kbytes scale managed total)
marks-sized kbytes scale managed total kbytes_most scale_most least managed_most within =
    let lowest = share-most (kbytes / 4) managed total within in
    let step = step-most managed scale managed_most scale_most in
    record {
      valid = record {
        managed_least = least;
        managed_most = managed_most;
        low_above_min = omega arith;
        high_above_low = omega arith;
        high_most = omega (arith, lowest, step);
      };
      high_most = omega (arith, lowest, step);
    }

managed-within : (zones : List Zone) (k : ℕ) (d : Zone) → k < length zones
    → (get_or zones k d).size.managed ≤ managed_pages zones
managed-within zones k d below = get_or-le-sum_by (λ zone. zone.size.managed) zones k d below

sizes_length-holds : (share : Option Share) (zones : List Zone) → length (sizes_under share zones) ≡ length zones
sizes_length-holds None zones = length-map zones (λ zone. zone.size)
sizes_length-holds (Some share) zones =
    length-map zones (λ zone. zone_marks_of share.kbytes share.scale zone.size.managed (managed_pages zones))

sizes-sized : (share : Option Share) (zones : List Zone) → IfSome share IsShare → All (λ zone. IsSized zone.size) zones
    → All IsSized (sizes_under share zones)
sizes-sized None zones valid all = All-map IsSized (λ zone. zone.size) zones all
sizes-sized (Some share) zones valid all =
    All-map IsSized (λ zone. zone_marks_of share.kbytes share.scale zone.size.managed (managed_pages zones)) zones
    (λ k d below. marks-sized share.kbytes share.scale (get_or zones k d).size.managed
    (managed_pages zones) valid.kbytes_most valid.scale_most (all k d below).valid.managed_least
    (all k d below).valid.managed_most (managed-within zones k d below))

bases_most-holds : (draft : Draft) (count : ℕ) (bases : List Base) → All (IsNamedBase draft) bases
    → All (λ base. unsigned_abs base ≤ 2 ^ 48) (bases_of count bases)
bases_most-holds draft count [] all = All-replicate (λ base. unsigned_abs base ≤ 2 ^ 48) count (pos 0) (omega arith)
bases_most-holds draft count (base ∷ bases) all =
    All-set (λ base. unsigned_abs base ≤ 2 ^ 48) (bases_of count bases) base.counter base.value
    (All-head (IsNamedBase draft) base bases all).most
    (bases_most-holds draft count bases (All-tail (IsNamedBase draft) base bases all))

zeros : (count counter : ℕ) → get_or (replicate count (pos 0)) counter (pos 0) ≡ pos 0
zeros zero counter = refl
zeros (suc count) zero = refl
zeros (suc count) (suc counter) = zeros count counter

bases_unnamed-holds : (draft : Draft) (count : ℕ) (bases : List Base) (counter : ℕ) → All (IsNamedBase draft) bases
    → ¬ IsNamed (header_of draft) counter → get_or (bases_of count bases) counter (pos 0) ≡ pos 0
bases_unnamed-holds draft count [] counter all unnamed = zeros count counter
bases_unnamed-holds draft count (base ∷ bases) counter all unnamed =
    let named = (All-head (IsNamedBase draft) base bases all).named in
    let other : counter ≢ base.counter = λ same. unnamed (subst (IsNamed (header_of draft)) (sym same) named) in
    get_or-set_other (bases_of count bases) base.counter counter base.value (pos 0) other
    ∙ bases_unnamed-holds draft count bases counter (All-tail (IsNamedBase draft) base bases all) unnamed

narrow-items : (draft : Draft) → IsDraft draft → positions_of draft.wide ≡ 8 → draft.items ≡ []
narrow-items draft is narrow = is.items_wide (by draft.wide narrow)
  where
    by : (wide : Bool) → positions_of wide ≡ 8 → wide ≡ false
    by true same = absurd (omega arith)
    by false same = refl

pub header_of-writable : (draft : Draft) → IsDraft draft → 0 < length draft.zones → IsWritable (header_of draft)
header_of-writable draft is some =
    let sized = sizes-sized draft.share draft.zones is.share_valid is.zones_sized in
    let sizes = sizes_under draft.share draft.zones in
    record {
      is_header = record {
        is_layout = draft-layout draft is some;
        sizes_length = sizes_length-holds draft.share draft.zones ∙ sym (length-map draft.zones (λ zone. zone.name));
        sizes_valid = All-weaker IsSized IsValidSize (λ size sized. sized.valid) sizes sized;
        bases_length = length-bases_of (counter_count (shape_of draft)) draft.bases;
        bases_most = bases_most-holds draft (counter_count (shape_of draft)) draft.bases is.bases_valid;
        bases_unnamed = λ counter unnamed. bases_unnamed-holds draft
            (counter_count (shape_of draft)) draft.bases counter is.bases_valid unnamed;
        counters_most = is.counters_most;
        counters_valid = is.counters_valid;
        counters_differ = is.counters_differ;
        items_wide = narrow-items draft is;
        zone_items_most = omega (
          arith,
          length-map (declared_items false draft.items) (λ item. item.name),
          is.zone_items_most,
        );
        node_items_most = omega (
          arith,
          length-map (declared_items true draft.items) (λ item. item.name),
          is.node_items_most,
        );
        items_valid = is.items_valid;
        items_differ = is.items_differ;
      };
      marks_most = All-weaker IsSized (λ size. size.high ≤ 2 ^ 40) (λ size sized. sized.high_most) sizes sized;
    }

abbrev IsFound : Result (Header × ℕ) Fault → Type 0
IsFound (Ok found) = IsWritable found.0
IsFound (Err fault) = Unit {0}

pub header_from-writable : (n : ℕ) (stage : Stage) (lines : List (List ℕ)) → IsStage stage
    → IsFound (header_from n stage lines)
header_from-writable n stage [] is = tt
header_from-writable n stage (line ∷ lines) is =
    elim (head_line stage line) as (λ step. head_line stage line ≡ step
    → IsFound (on_step n step (λ next. header_from (suc n) next lines))) [
      | Ok (Goes next) ↦ λ goes. header_from-writable (suc n) next lines
          (head_line-keeps stage line (Goes next) is goes)
      | Ok (Ends draft) ↦ λ ends. let valid = head_line-keeps stage line (Ends draft) is ends in
          header_of-writable draft valid.0 valid.1
      | Err cause ↦ λ refused. tt
    ] refl

pub read_header-writable : (lines : List (List ℕ)) (header : Header) (count : ℕ)
    → read_header lines ≡ Ok (header, count) → IsWritable header
read_header-writable lines header count is = subst IsFound is (header_from-writable 1 Opening lines tt)
