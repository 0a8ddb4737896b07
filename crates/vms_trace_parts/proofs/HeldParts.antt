-- What a copy holds past a line, and at the end.
use Rattle.std.proofs.Common.{◌≡◌, ℕ, suc, ◌≤◌, ◌<◌, Bool, true, List, [], ◌∷◌, ◌++◌, Option, Some, None, is_some, refl}
use Rattle.std.proofs.Common.{sym, ap, ap₂, subst, ◌∙◌, arith, append-nil, length, length-append, map}
use Rattle.std.proofs.lemmas.List.{map-append}
use Rattle.std.proofs.lemmas.List.Elements.{All-map, All-nil, All-push, All-weaker}
use Rattle.std.specs.List.Sorted.{IsStrictlyIncreasing}
use Rattle.std.specs.Prelude.{All, OnOk, Result, Ok, Err}
use Rattle.vms_base.specs.declared.failures.Memory.{Memory}
use Rattle.vms_base.specs.declared.headers.Header.{Header}
use Rattle.vms_text.specs.declared.acts.Boundary.{Boundary as BoundaryOf}
use Rattle.vms_text.specs.declared.acts.Item.{Item}
use Rattle.vms_text.specs.declared.acts.Line.{Line}
use Rattle.vms_text.specs.declared.acts.Line.TheVariants.{Blank, Lane, Boundary}
use Rattle.vms_line.specs.declared.causes.LineCause.{LineCause}
use Rattle.vms_script.specs.Common.{IsPhaseScript}
use Rattle.vms_script.proofs.Fitting.{IsStrictlyIncreasing-onto}
use Rattle.vms_stream.specs.declared.statuses.Status.{Status}
use Rattle.vms_stream.specs.Common.{MayGive, Plain, Text, printed_with, waits_after}
use Rattle.vms_command.specs.Common.{BodyTakes, ClosesBody, GoesPast, IsJudgedAfter, LinesAbove, ends_at_judged}
use Rattle.vms_command.specs.Common.{status_at_end, with_judged}
use Rattle.vms_trace_parts.specs.declared.bodies.TraceCopy.{TraceCopy}
use Rattle.vms_trace_parts.specs.Common.{StandsBefore, TakesLine, TracePart, copied_line, copying, held_part, part_past}
use Rattle.vms_trace_parts.specs.Common.{held_begin, shown_by_copy}

-- lane lines above line n make a script with any line from there on
record HoldItems (n : ℕ) (items : List Item) : Type 0 where
  ascend : IsStrictlyIncreasing (map (λ item. item.number) items)
  below : All (λ item. item.number < n) items
  fewer : length items < n

-- past line n, by what was judged of it
items-past : (n : ℕ) (said : Result Line LineCause) (part : TracePart) → HoldItems n part.items
    → HoldItems (suc n) (part_past n said part).items
items-past n (Ok Blank) part holds = record {
  ascend = holds.ascend;
  below = All-weaker (λ (i : Item). i.number < n) (λ (i : Item). i.number < suc n) (λ i less. omega (arith, less))
      part.items holds.below;
  fewer = omega (arith, holds.fewer);
}
items-past n (Err cause) part holds = record {
  ascend = holds.ascend;
  below = All-weaker (λ (i : Item). i.number < n) (λ (i : Item). i.number < suc n) (λ i less. omega (arith, less))
      part.items holds.below;
  fewer = omega (arith, holds.fewer);
}
items-past n (Ok (Boundary boundary)) part holds = record {
  ascend = λ k within. absurd (omega (arith, within));
  below = All-nil (λ (i : Item). i.number < suc n);
  fewer = omega arith;
}
items-past n (Ok (Lane lane act)) part holds =
    let item : Item = record { number = n; lane = lane; act = act } in
    record {
      ascend = subst IsStrictlyIncreasing (sym (map-append (λ (i : Item). i.number) part.items (item ∷ [])))
          (IsStrictlyIncreasing-onto (map (λ (i : Item). i.number) part.items) n holds.ascend
          (All-map (λ (m : ℕ). m < n) (λ (i : Item). i.number) part.items holds.below));
      below = All-push (λ (i : Item). i.number < suc n) part.items item
          (All-weaker (λ (i : Item). i.number < n) (λ (i : Item). i.number < suc n) (λ i less. omega (arith, less))
          part.items holds.below) (omega arith);
      fewer = omega (arith, holds.fewer, length-append part.items (item ∷ []));
    }

-- what nothing waits for is printed at once, whatever part ends
printed-given : (waits : List (Text TracePart)) (bytes : List ℕ) (given : Option TracePart) → waits ≡ []
    → printed_with waits (Plain bytes) given ≡ bytes
printed-given waits bytes None none =
    ap (λ (ws : List (Text TracePart)). printed_with ws (Plain bytes) None) none
printed-given waits bytes (Some part) none =
    ap (λ (ws : List (Text TracePart)). printed_with ws (Plain bytes) (Some part)) none

waits-given : (waits : List (Text TracePart)) (bytes : List ℕ) (given : Option TracePart) → waits ≡ []
    → waits_after waits (Plain bytes) given ≡ []
waits-given waits bytes None none =
    ap (λ (ws : List (Text TracePart)). waits_after ws (Plain bytes) None) none
waits-given waits bytes (Some part) none = refl

may-give : (e : Bool) (held part : TracePart) (given : Option TracePart) → held ≡ part
    → MayGive e (λ other. other ≡ held) given → MayGive e (λ other. other ≡ part) given
may-give e held part None same may = tt
may-give e held part (Some other) same may = (may.0, may.1 ∙ same)

module _ (copy : TraceCopy) (header : Header) where
  -- the lane lines that are held make a script
  pub script-held : (n : ℕ) (above : LinesAbove) (part : TracePart) (waits : List (Text TracePart)) → n ≤ 1000001
      → StandsBefore copy header n above part waits → IsPhaseScript copy.items.items
  script-held n above part waits most stands =
      record { few = omega (arith, most, stands.fewer); ascend = stands.ascend }

  module _ (copy' : TraceCopy) (n : ℕ) (said : Result Line LineCause) (parts parts' : List TracePart) where
    stands-past : (given : Option TracePart) → held_part header copy' ≡ part_past n said (held_part header copy)
        → (above : LinesAbove) (part : TracePart) (waits : List (Text TracePart))
        → StandsBefore copy header n above part waits
        → StandsBefore copy' header (suc n) (with_judged said above) (part_past n said part)
        (waits_after waits (Plain (copied_line header said)) given)
    stands-past given holds above part waits stands =
        let past : HoldItems (suc n) (part_past n said (held_part header copy)).items =
        items-past n said (held_part header copy)
        (record { ascend = stands.ascend; below = stands.below; fewer = stands.fewer }) in
        let held : HoldItems (suc n) copy'.items.items =
        subst (HoldItems (suc n)) (sym (ap (λ (p : TracePart). p.items) holds)) past in
        record {
          holds = holds ∙ ap (part_past n said) stands.holds;
          ascend = held.ascend;
          below = held.below;
          fewer = held.fewer;
          no_waits = waits-given waits (copied_line header said) given stands.no_waits;
        }

    -- a line was taken, and what it prints was written
    pub BodyTakes-line : (result : Result (Unit {0}) Memory) (out out' : List ℕ)
        → TakesLine header n said copy copy' parts parts' result → out' ≡ out ++ copied_line header said
        → BodyTakes copying (StandsBefore copy) (StandsBefore copy') (Some parts) (Some parts') header n said result
        out out'
    BodyTakes-line result out out' takes prints = record {
      given = takes.given;
      grows = ap Some takes.adds;
      may_give = λ above part waits stands judged_is.
          may-give (ends_at_judged true said) (held_part header copy) part takes.given stands.holds takes.may_give;
      goes = by result takes.ended takes.holds;
    }
      where
        by : (r : Result (Unit {0}) Memory) → OnOk r (ends_at_judged true said ≡ is_some takes.given)
            → OnOk r (held_part header copy' ≡ part_past n said (held_part header copy))
            → OnOk r ((above : LinesAbove) (part : TracePart) (waits : List (Text TracePart))
            → StandsBefore copy header n above part waits → IsJudgedAfter header above said
            → GoesPast copying (StandsBefore copy') header n above part waits said takes.given out out')
        by (Ok done) ended holds = λ above part waits stands judged_is. record {
          ended = ended;
          prints = prints ∙ ap (λ (bytes : List ℕ). out ++ bytes)
              (sym (printed-given waits (copied_line header said) takes.given stands.no_waits));
          stands_after = stands-past takes.given holds above part waits stands;
        }
        by (Err error) ended holds = tt

    -- memory ran out before
    pub BodyTakes-failed : (result : Result (Unit {0}) Memory) (error : Memory) (out out' : List ℕ)
        → result ≡ Err error → parts' ≡ parts
        → BodyTakes copying (StandsBefore copy) (StandsBefore copy') (Some parts) (Some parts') header n said result
        out out'
    BodyTakes-failed result error out out' is same =
        subst (λ (r : Result (Unit {0}) Memory). BodyTakes copying (StandsBefore copy) (StandsBefore copy') (Some parts)
        (Some parts') header n said r out out') (sym is)
        (record {
          given = None;
          grows = ap Some (same ∙ sym (append-nil parts));
          may_give = λ above part waits stands judged_is. tt;
          goes = tt;
        })

  -- a line that doesn't count is passed over
  pub TakesLine-refused : (n : ℕ) (cause : LineCause) (parts : List TracePart)
      → TakesLine header n (Err cause) copy copy parts parts (Ok tt)
  TakesLine-refused n cause parts =
      record { given = None; adds = sym (append-nil parts); may_give = tt; ended = refl; holds = refl }

  -- a boundary line that counts ends the part so far
  pub TakesLine-boundary : (copy' : TraceCopy) (n : ℕ) (boundary : BoundaryOf) (parts parts' : List TracePart)
      → parts' ≡ parts ++ held_part header copy ∷ [] → copy'.boundary ≡ Some (n, boundary) → copy'.items.items ≡ []
      → TakesLine header n (Ok (Boundary boundary)) copy copy' parts parts' (Ok tt)
  TakesLine-boundary copy' n boundary parts parts' adds begins none = record {
    given = Some (held_part header copy);
    adds = adds;
    may_give = (refl, refl);
    ended = refl;
    holds = ap₂ (λ (b : Option (ℕ × BoundaryOf)) (items : List Item). record {
      begin = held_begin header b;
      items = items;
    }) begins none;
  }

  -- at the end of a trace the part so far is the last one
  module _ (parts parts' : List TracePart) (accepted refused : ℕ) (out : List ℕ) where
    pub ClosesBody-ended : (ending : Status) → parts' ≡ parts ++ held_part header copy ∷ []
        → ending ≡ status_at_end refused
        → ClosesBody {E = Memory} copying (StandsBefore copy) shown_by_copy (Some parts) (Some parts') header accepted
        refused (Ok ending) out out
    ClosesBody-ended ending adds is = record {
      given = Some (held_part header copy);
      grows = ap Some adds;
      may_give = λ n above part waits stands accepts refuses. (refl, stands.holds);
      goes = λ n above part waits stands accepts refuses. record {
        ended = refl;
        ends = is ∙ ap status_at_end refuses;
        prints = sym (append-nil out) ∙ ap (λ (bytes : List ℕ). out ++ bytes)
            (sym (printed-given waits [] (Some (held_part header copy)) stands.no_waits));
        shown = tt;
      };
    }

    pub ClosesBody-failed : (result : Result Status Memory) (error : Memory) → result ≡ Err error → parts' ≡ parts
        → ClosesBody copying (StandsBefore copy) shown_by_copy (Some parts) (Some parts') header accepted refused
        result out out
    ClosesBody-failed result error is same =
        subst (λ (r : Result Status Memory). ClosesBody copying (StandsBefore copy) shown_by_copy (Some parts)
        (Some parts') header accepted refused r out out) (sym is)
        (record {
          given = None;
          grows = ap Some (same ∙ sym (append-nil parts));
          may_give = λ n above part waits stands accepts refuses. tt;
          goes = tt;
        })
