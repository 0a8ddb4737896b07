-- Each line of a header keeps what is true of every stage.
use Rattle.std.proofs.Common.{ℕ, ◌≡◌, ◌≢◌, ◌+◌, ◌<◌, ◌≤◌, ◌&&◌, Bool, true, false, nat_eq, nat_le, nat_lt, bytes_eq}
use Rattle.std.proofs.Common.{List, [], ◌∷◌, ◌++◌, length, get_or, Option, Some, None, Ok, Err, IfOk, ok_or, refl, sym}
use Rattle.std.proofs.Common.{subst, ap, ◌∙◌, arith, length-append, position, codes}
use Rattle.std.proofs.lemmas.Bool.Decides.{nat_tests}
use Rattle.std.proofs.lemmas.List.{get_or_append_left, get_or_past, get_or_push}
use Rattle.std.proofs.lemmas.List.Elements.{All-push}
use Rattle.std.proofs.lemmas.List.Folds.{list_any_at}
use Rattle.std.proofs.lemmas.List.Quantifiers.{all_pairs_push}
use Rattle.std.proofs.lemmas.Result.{IfOk-at_ok}
use Rattle.std.proofs.lemmas.Slice.Eq.{bytes_eq-Decides}
use Rattle.std.specs.List.{list_any}
use Rattle.std.specs.Prelude.{IsTrue}
use Rattle.vms_base.specs.Names.{is_name}
use Rattle.vms_group_core.specs.Common.{group_count}
use Rattle.vms_text.specs.Common.{is_clean, is_ignored, most_line, unsigned_of, words_of}
use Rattle.vms_text.proofs.Common.{and_left, and_right, position-lt}
use Rattle.vms_group_lines.specs.declared.causes.GroupCause.TheVariants.{LineTooLong, BadMagic, Malformed, BadNumber}
use Rattle.vms_group_lines.specs.declared.causes.GroupCause.TheVariants.{BadName, BadCpus, DoubledGroup, TooManyGroups}
use Rattle.vms_group_lines.specs.declared.causes.GroupCause.TheVariants.{UnknownGroup}
use Rattle.vms_group_lines.specs.declared.headers.GroupHeader.{GroupHeader}
use Rattle.vms_group_lines.specs.declared.stages.GroupStage.{GroupStage}
use Rattle.vms_group_lines.specs.declared.stages.GroupStage.TheVariants.{Opening, Versioned, Declaring}
use Rattle.vms_group_lines.specs.declared.stages.HeadStep.TheVariants.{Goes, Ends}
use Rattle.vms_group_lines.specs.Common.{IsGroupDraft, IsGroupStage, IsHeadStep, first_draft, group_field, cpus_line}
use Rattle.vms_group_lines.specs.Common.{declaring_line, go_row, group_head_line, group_row, stage_line, with_cpus}
use Rattle.vms_group_lines.specs.Common.{with_group}
use Rattle.vms_group_lines.specs.HeadLines.{are_magic}
use Rattle.vms_group_lines.proofs.Results.{IfOk-if, IfOk-and_then}

-- a group that a word names is one of the header
pub group_field-known : (header : GroupHeader) (word : List ℕ) → length header.names ≡ group_count header.tree
    → IfOk (group_field header word) (λ g. g < group_count header.tree)
group_field-known header word named = by (position (bytes_eq word) header.names) refl
  where
    by : (found : Option ℕ) → position (bytes_eq word) header.names ≡ found
        → IfOk (ok_or found UnknownGroup) (λ g. g < group_count header.tree)
    by (Some g) is = let below = position-lt (bytes_eq word) header.names g is in omega (arith, below, named)
    by None is = tt

-- with one group more, each parent is still declared above
parents_above-push : (parents : List (Option ℕ)) (parent : Option ℕ)
    → ((g p : ℕ) → get_or parents g None ≡ Some p → p < g)
    → ((p : ℕ) → parent ≡ Some p → p < length parents)
    → (g p : ℕ) → get_or (parents ++ parent ∷ []) g None ≡ Some p → p < g
parents_above-push parents parent above new g p is =
    by (nat_lt g (length parents)) (nat_eq (length parents) g) refl refl
  where
    by : (earlier last : Bool) → nat_lt g (length parents) ≡ earlier → nat_eq (length parents) g ≡ last → p < g
    by true last before at =
        let below : g < length parents = grind (arith, nat_tests) in
        above g p (sym (get_or_append_left parents (parent ∷ []) None g below) ∙ is)
    by false true before at =
        let same : length parents ≡ g = grind (arith, nat_tests) in
        let within = new p (sym (get_or_push parents parent None g same) ∙ is) in
        omega (arith, within, same)
    by false false before at =
        let far : length parents + 1 ≤ g = grind (arith, nat_tests) in
        let past : length (parents ++ parent ∷ []) ≤ g = omega (arith, far, length-append parents (parent ∷ [])) in
        let none = sym (get_or_past (parents ++ parent ∷ []) g None past) ∙ is in
        absurd cc

-- a name that no test finds is none of the list's
none-here : (name : List ℕ) (names : List (List ℕ)) → list_any (bytes_eq name) names ≡ false → (k : ℕ) (d : List ℕ)
    → k < length names → get_or names k d ≢ name
none-here name names none k d below same =
    let here = ap (bytes_eq name) same ∙ (bytes_eq-Decides name name).1 refl in
    let found = list_any_at (bytes_eq name) names k d below here in
    absurd cc

with_group-keeps : (header : GroupHeader) (name : List ℕ) (parent : Option ℕ) → IsGroupDraft header
    → is_name name ≡ true → ((p : ℕ) → parent ≡ Some p → p < group_count header.tree)
    → IfOk (with_group header name parent) IsGroupDraft
with_group-keeps header name parent is form above =
    IfOk-if IsGroupDraft (list_any (bytes_eq name) header.names) (Err DoubledGroup) _ (λ doubled. tt) (λ new.
    IfOk-if IsGroupDraft (nat_le 64 (group_count header.tree)) (Err TooManyGroups) _ (λ full. tt) (λ room.
    let few : group_count header.tree < 64 = grind (arith, nat_tests) in
    record {
      groups_most = omega (arith, few, length-append header.tree.parents (parent ∷ []));
      cpus_least = is.cpus_least;
      cpus_most = is.cpus_most;
      parents_above = parents_above-push header.tree.parents parent is.parents_above above;
      named = omega (
        arith,
        is.named,
        length-append header.tree.parents (parent ∷ []),
        length-append header.names
            (name ∷ []),
      );
      valid = All-push (λ name. IsTrue (is_name name)) header.names name is.valid form;
      differ = all_pairs_push ◌≢◌ header.names name is.differ (none-here name header.names new);
    }))

group_row-keeps : (header : GroupHeader) (fields : List (List ℕ)) → IsGroupDraft header
    → IfOk (group_row header fields) IsGroupDraft
group_row-keeps header [] is = tt
group_row-keeps header (name ∷ []) is =
    IfOk-if IsGroupDraft (is_name name) (with_group header name None) (Err BadName)
    (λ form. with_group-keeps header name None is form (λ p none. absurd cc)) (λ _. tt)
group_row-keeps header (name ∷ parent ∷ []) is =
    IfOk-if IsGroupDraft (is_name name) _ (Err BadName) (λ form.
    IfOk-and_then IsGroupDraft (group_field header parent) (λ g. with_group header name (Some g)) (λ g found.
    let below = IfOk-at_ok (λ g. g < group_count header.tree) found (group_field-known header parent is.named) in
    with_group-keeps header name (Some g) is form (above g below))) (λ _. tt)
  where
    above : (g : ℕ) → g < group_count header.tree → (p : ℕ) → ◌≡◌ {A = Option ℕ} (Some g) (Some p)
        → p < group_count header.tree
    above g below p same = let is_g : g ≡ p = cc in subst (λ n. n < group_count header.tree) is_g below
group_row-keeps header (name ∷ parent ∷ other ∷ more) is = tt

go_row-keeps : (header : GroupHeader) (fields : List (List ℕ)) → IsGroupDraft header
    → IfOk (go_row header fields) IsHeadStep
go_row-keeps header [] is =
    IfOk-if IsHeadStep (nat_eq (group_count header.tree) 0) (Err Malformed) (Ok (Ends header)) (λ _. tt) (λ some.
    let least : 1 ≤ group_count header.tree = grind (arith, nat_tests) in
    record {
      tree = record {
        groups_least = least;
        groups_most = is.groups_most;
        cpus_least = is.cpus_least;
        cpus_most = is.cpus_most;
        parents_above = is.parents_above;
      };
      named = is.named;
      valid = is.valid;
      differ = is.differ;
    })
go_row-keeps header (field ∷ fields) is = tt

declaring_line-keeps : (header : GroupHeader) (words : List (List ℕ)) → IsGroupDraft header
    → IfOk (declaring_line header words) IsHeadStep
declaring_line-keeps header [] is = tt
declaring_line-keeps header (word ∷ fields) is =
    IfOk-if IsHeadStep (bytes_eq word (codes "group")) _ _ (λ _.
    IfOk-and_then IsHeadStep (group_row header fields) (λ header. Ok (Goes (Declaring header))) (λ next found.
    IfOk-at_ok IsGroupDraft found (group_row-keeps header fields is))) (λ _.
    IfOk-if IsHeadStep (bytes_eq word (codes "go")) (go_row header fields) (Err Malformed)
    (λ _. go_row-keeps header fields is) (λ _. tt))

first_draft-valid : (cpus : ℕ) → 1 ≤ cpus → cpus ≤ 64 → IsGroupDraft (first_draft cpus)
first_draft-valid cpus least most = record {
  groups_most = omega arith;
  cpus_least = least;
  cpus_most = most;
  parents_above = λ g p is. absurd cc;
  named = refl;
  valid = λ k d below. absurd (omega (arith, below));
  differ = λ i j d before below. absurd (omega (arith, below));
}

with_cpus-keeps : (n : ℕ) → IfOk (with_cpus n) IsHeadStep
with_cpus-keeps n =
    IfOk-if IsHeadStep (nat_le 1 n && nat_le n 64) (Ok (Goes (Declaring (first_draft n)))) (Err BadCpus) (λ fits.
    first_draft-valid n (within 1 n (and_left (nat_le 1 n) (nat_le n 64) fits))
    (within n 64 (and_right (nat_le 1 n) (nat_le n 64) fits))) (λ _. tt)
  where
    within : (a b : ℕ) → nat_le a b ≡ true → a ≤ b
    within a b test = grind (arith, nat_tests)

cpus_line-keeps : (words : List (List ℕ)) → IfOk (cpus_line words) IsHeadStep
cpus_line-keeps [] = tt
cpus_line-keeps (word ∷ []) = tt
cpus_line-keeps (word ∷ n ∷ []) =
    IfOk-if IsHeadStep (bytes_eq word (codes "cpus")) _ (Err Malformed) (λ _.
    IfOk-and_then IsHeadStep (ok_or (unsigned_of n) BadNumber) with_cpus (λ cpus _. with_cpus-keeps cpus)) (λ _. tt)
cpus_line-keeps (word ∷ n ∷ other ∷ words) = tt

stage_line-keeps : (stage : GroupStage) (clean : Bool) (words : List (List ℕ)) → IsGroupStage stage
    → IfOk (stage_line stage clean words) IsHeadStep
stage_line-keeps Opening clean words is =
    IfOk-if IsHeadStep (are_magic words) _ (Err BadMagic) (λ _.
    IfOk-if IsHeadStep clean (Ok (Goes Versioned)) (Err Malformed) (λ _. tt) (λ _. tt)) (λ _. tt)
stage_line-keeps Versioned clean words is =
    IfOk-if IsHeadStep clean (cpus_line words) (Err Malformed) (λ _. cpus_line-keeps words) (λ _. tt)
stage_line-keeps (Declaring header) clean words is =
    IfOk-if IsHeadStep clean (declaring_line header words) (Err Malformed)
    (λ _. declaring_line-keeps header words is) (λ _. tt)

pub group_head_line-keeps : (stage : GroupStage) (line : List ℕ) → IsGroupStage stage
    → IfOk (group_head_line stage line) IsHeadStep
group_head_line-keeps stage line is =
    IfOk-if IsHeadStep (nat_lt most_line (length line)) (Err LineTooLong) _ (λ _. tt) (λ _.
    IfOk-if IsHeadStep (is_ignored line) (Ok (Goes stage)) _ (λ _. is) (λ _.
    stage_line-keeps stage (is_clean line) (words_of line) is))
