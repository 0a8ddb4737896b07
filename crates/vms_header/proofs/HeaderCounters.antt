-- The percpu counters' lines of a header are read back as its percpu counters.
use Rattle.std.proofs.Common.{◌≡◌, ◌≢◌, ◌<◌, ◌^◌, true, false, nat_le, nat_lt, List, [], ◌∷◌, ◌++◌, refl, sym, subst}
use Rattle.std.proofs.Common.{◌∙◌, ap, arith, append_assoc, append-nil, length, length-append, map}
use Rattle.std.proofs.lemmas.Bool.Decides.{nat_tests}
use Rattle.std.proofs.lemmas.List.{map-append}
use Rattle.std.specs.List.{All, list_any}
use Rattle.std.specs.Prelude.{AllPairs, Ok, bytes_eq}
use Rattle.vms_base.specs.declared.headers.Decl.{Decl}
use Rattle.vms_base.specs.declared.headers.Header.{Header}
use Rattle.vms_base.specs.Common.{IsHeader, IsValidDecl, is_name}
use Rattle.vms_header.specs.Common.{Base, Draft, Section, AtCounters, going, stage_line, Drafting, Goes, with_counter}
use Rattle.vms_header.specs.Common.{counter_line_words}
use Rattle.vms_header.proofs.HeaderBases.{some_zones, zones_of}
use Rattle.vms_header.proofs.HeaderItems.{after-differs, drafted, list_any-none}
use Rattle.vms_header.proofs.HeaderSteps.{LinesLead, LinesLead-cons, LinesLead-none, LinesLead-one}
use Rattle.vms_text.proofs.Common.{name-short, IsFew, decimal-short, unsigned_of-decimal}
use Rattle.vms_header.proofs.Middles.{All-from_map, All-middle}

module _ (header : Header) (is : IsHeader header) (bases : List Base) where
  abbrev at : Section → List Decl → Draft
  at section counters = drafted header section header.items (zones_of header) bases counters

  module _ (done rest : List Decl) (decl : Decl) (whole : done ++ decl ∷ rest ≡ header.counters) where
    decl_valid : IsValidDecl decl
    decl_valid = All-middle done rest decl IsValidDecl (subst (All IsValidDecl) (sym whole) is.counters_valid)

    batch_fits : decl.batch < 2 ^ 64
    batch_fits = let most = decl_valid.batch_most in omega (arith, most)

    decl_new : list_any (λ other. bytes_eq decl.name other.name) done ≡ false
    decl_new =
        let name_of = λ (other : Decl). other.name in
        let pairs = subst (AllPairs ◌≢◌) (map-append name_of done (decl ∷ rest))
        (subst (λ all. AllPairs ◌≢◌ (map name_of all)) (sym whole) is.counters_differ) in
        list_any-none (λ (other : Decl). bytes_eq decl.name other.name) done
        (All-from_map name_of (λ other. bytes_eq decl.name other ≡ false) done
        (after-differs (map name_of done) (map name_of rest) decl.name pairs))

    few_counters : nat_le 16 (length done) ≡ false
    few_counters =
        let most = is.counters_most in
        let all = ap length whole in
        let below : length done < 16 = omega (arith, most, all, length-append done (decl ∷ rest)) in
        grind (arith, nat_tests)

    decl_few : IsFew (counter_line_words decl)
    decl_few = record {
      some = omega arith;
      few = omega arith;
      short = rw (name-short decl.name decl_valid.form, decimal-short decl.batch batch_fits) refl;
      said = refl;
    }

    decl_leads : (section : Section)
        → LinesLead (Drafting (at section done)) (counter_line_words decl ∷ []) (Drafting
        (at AtCounters (done ++ decl ∷ [])))
    decl_leads section =
        let draft = at section done in
        let least = decl_valid.batch_least in
        let most = decl_valid.batch_most in
        let named : is_name decl.name ≡ true = decl_valid.form in
        let low : nat_lt decl.batch 1 ≡ false = grind (arith, nat_tests) in
        let high : nat_lt 65536 decl.batch ≡ false = grind (arith, nat_tests) in
        let read : stage_line (Drafting draft) true (counter_line_words decl) ≡ going
        (with_counter draft decl.name decl.batch) =
        rw (some_zones header is, named, unsigned_of-decimal decl.batch batch_fits) refl in
        let goes : going (with_counter draft decl.name decl.batch)
        ≡ Ok (Goes (Drafting (at AtCounters (done ++ decl ∷ [])))) = rw (decl_new, low, high, few_counters) refl in
        LinesLead-one (Drafting draft) (Drafting (at AtCounters (done ++ decl ∷ []))) (counter_line_words decl) decl_few
        (read ∙ goes)

  pub counters_lead : (done rest : List Decl) (section : Section) → done ++ rest ≡ header.counters
      → (after : Section) × LinesLead (Drafting (drafted header section header.items (zones_of header) bases done))
      (map counter_line_words rest)
      (Drafting (drafted header after header.items (zones_of header) bases header.counters))
  counters_lead done [] section whole = (
    section,
    subst (λ counters. LinesLead (Drafting (at section done)) [] (Drafting (at section counters)))
        (sym (append-nil done) ∙ whole) (LinesLead-none (Drafting (at section done))),
  )
  counters_lead done (decl ∷ rest) section whole =
      let next = counters_lead (done ++ decl ∷ []) rest AtCounters (append_assoc done (decl ∷ []) rest ∙ whole) in (
        next.0,
        LinesLead-cons (Drafting (at section done)) (Drafting (at AtCounters (done ++ decl ∷ [])))
            (Drafting (at next.0 header.counters)) (counter_line_words decl) (map counter_line_words rest)
            (decl_leads done rest decl whole section) next.1,
      )
