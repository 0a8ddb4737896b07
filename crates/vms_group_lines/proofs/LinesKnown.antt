-- For other crates too: every line that is read is one of its header.
use Rattle.std.proofs.Common.{ℕ, ◌≡◌, ◌<◌, ◌&&◌, true, nat_lt, bytes_eq, codes, List, [], ◌∷◌, ℤ, Option, Some, None}
use Rattle.std.proofs.Common.{Result, Ok, Err, IfOk, ok_or, length, arith}
use Rattle.std.proofs.lemmas.Bool.Decides.{nat_tests}
use Rattle.std.proofs.lemmas.Result.{IfOk-at_ok}
use Rattle.vms_history.specs.Common.{CpuId}
use Rattle.vms_group_core.specs.declared.call_values.GroupCall.{GroupCall}
use Rattle.vms_group_core.specs.declared.call_values.GroupCall.TheVariants.{Change, Flush, Value}
use Rattle.vms_group_core.specs.Common.{IsGroup, IsTreeCpu}
use Rattle.vms_text.specs.Common.{and_then, signed_of, is_clean, is_ignored, most_line, words_of}
use Rattle.vms_text.proofs.Common.{signed_of-fits}
use Rattle.vms_group_lines.specs.declared.causes.GroupCause.{GroupCause}
use Rattle.vms_group_lines.specs.declared.causes.GroupCause.TheVariants.{LineTooLong, Malformed, BadNumber, UnknownLane}
use Rattle.vms_group_lines.specs.declared.headers.GroupHeader.{GroupHeader}
use Rattle.vms_group_lines.specs.declared.lines.GroupLine.TheVariants.{Blank, Lane, Sync, Report}
use Rattle.vms_group_lines.specs.Common.{IsGroupCallOf, IsGroupHeader, IsGroupLineOf, amount_field, boundary_line}
use Rattle.vms_group_lines.specs.Common.{call_line, group_field, is_lane_word, lane_cpu, lane_line, lane_number}
use Rattle.vms_group_lines.specs.Common.{read_group_line, read_words}
use Rattle.vms_group_lines.proofs.HeadersKept.{group_field-known}
use Rattle.vms_group_lines.proofs.Results.{IfOk-if, IfOk-and_then}

lane_cpu-known : (header : GroupHeader) (n : ℕ) → IfOk (lane_cpu header n) (λ cpu. IsTreeCpu header.tree cpu.number)
lane_cpu-known header n =
    IfOk-if (λ (cpu : CpuId). IsTreeCpu header.tree cpu.number) (nat_lt n header.tree.cpus)
    (Ok (record { number = n })) (Err UnknownLane) (λ test. below n header.tree.cpus test) (λ _. tt)
  where
    below : (a b : ℕ) → nat_lt a b ≡ true → a < b
    below a b test = grind (arith, nat_tests)

amount_field-fits : (word : List ℕ) (amount : ℤ) → amount_field word ≡ Ok amount → signed_of word ≡ Some amount
amount_field-fits word amount = by (signed_of word)
  where
    by : (found : Option ℤ) → ◌≡◌ {A = Result ℤ GroupCause} (ok_or found BadNumber) (Ok amount) → found ≡ Some amount
    by (Some other) is = cc
    by None is = absurd cc

module _ (header : GroupHeader) (is : IsGroupHeader header) where
  call_line-known : (n : ℕ) (name : List ℕ) (call : ℕ → Result GroupCall GroupCause)
      → ((g : ℕ) → IsGroup header.tree g → IfOk (call g) (IsGroupCallOf header))
      → IfOk (call_line header n name call) (IsGroupLineOf header)
  call_line-known n name call known =
      IfOk-and_then (IsGroupLineOf header) (lane_cpu header n) _ (λ cpu found.
      let cpu_known = IfOk-at_ok (λ cpu. IsTreeCpu header.tree cpu.number) found (lane_cpu-known header n) in
      IfOk-and_then (IsGroupLineOf header) (group_field header name) _ (λ g named.
      let group_known = IfOk-at_ok (λ g. IsGroup header.tree g) named (group_field-known header name is.named) in
      IfOk-and_then (IsGroupLineOf header) (call g) (λ call. Ok (Lane cpu call)) (λ call made.
      (cpu_known, IfOk-at_ok (IsGroupCallOf header) made (known g group_known)))))

  change-known : (delta : List ℕ) (g : ℕ) → IsGroup header.tree g
      → IfOk (and_then (amount_field delta) (λ amount. Ok (Change g amount))) (IsGroupCallOf header)
  change-known delta g below =
      IfOk-and_then (IsGroupCallOf header) (amount_field delta) (λ amount. Ok (Change g amount)) (λ amount found.
      (below, signed_of-fits delta amount (amount_field-fits delta amount found)))

  lane_line-known : (n : ℕ) (words : List (List ℕ)) → IfOk (lane_line header n words) (IsGroupLineOf header)
  lane_line-known n [] = tt
  lane_line-known n (verb ∷ []) = tt
  lane_line-known n (verb ∷ name ∷ []) =
      IfOk-if (IsGroupLineOf header) (bytes_eq verb (codes "flush")) _ _
      (λ _. call_line-known n name (λ g. Ok (Flush g)) (λ g below. below)) (λ _.
      IfOk-if (IsGroupLineOf header) (bytes_eq verb (codes "value")) _ (Err Malformed)
      (λ _. call_line-known n name (λ g. Ok (Value g)) (λ g below. below)) (λ _. tt))
  lane_line-known n (verb ∷ name ∷ delta ∷ []) =
      IfOk-if (IsGroupLineOf header) (bytes_eq verb (codes "add")) _ (Err Malformed)
      (λ _. call_line-known n name (λ g. and_then (amount_field delta) (λ amount. Ok (Change g amount)))
      (change-known delta)) (λ _. tt)
  lane_line-known n (verb ∷ name ∷ delta ∷ other ∷ words) = tt

  boundary_line-known : (words : List (List ℕ)) → IfOk (boundary_line words) (IsGroupLineOf header)
  boundary_line-known [] = tt
  boundary_line-known (word ∷ []) =
      IfOk-if (IsGroupLineOf header) (bytes_eq word (codes "sync")) (Ok Sync) (Err Malformed) (λ _. tt) (λ _. tt)
  boundary_line-known (word ∷ kind ∷ []) =
      IfOk-if (IsGroupLineOf header) (bytes_eq word (codes "report") && bytes_eq kind (codes "groups")) (Ok Report)
      (Err Malformed) (λ _. tt) (λ _. tt)
  boundary_line-known (word ∷ kind ∷ other ∷ words) = tt

  read_words-known : (words : List (List ℕ)) → IfOk (read_words header words) (IsGroupLineOf header)
  read_words-known [] = tt
  read_words-known (first ∷ words) =
      IfOk-if (IsGroupLineOf header) (is_lane_word first) _ _ (λ _. lane_line-known (lane_number first) words)
      (λ _. boundary_line-known (first ∷ words))

  pub read_group_line-known : (text : List ℕ) → IfOk (read_group_line header text) (IsGroupLineOf header)
  read_group_line-known text =
      IfOk-if (IsGroupLineOf header) (nat_lt most_line (length text)) (Err LineTooLong) _ (λ _. tt) (λ _.
      IfOk-if (IsGroupLineOf header) (is_ignored text) (Ok Blank) _ (λ _. tt) (λ _.
      IfOk-if (IsGroupLineOf header) (is_clean text) (read_words header (words_of text)) (Err Malformed)
      (λ _. read_words-known (words_of text)) (λ _. tt)))
