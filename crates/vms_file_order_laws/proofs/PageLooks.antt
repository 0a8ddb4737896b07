-- The steps of a look at values, of a test and of a balance test are determined, and with them what it answers.
use Rattle.std.proofs.Common.{◌≡◌, ℕ, zero, suc, Bool, true, false, not, nat_lt, ℤ, ◌+ℤ◌, List, [], ◌∷◌, ◌++◌, length}
use Rattle.std.proofs.Common.{refl, sym, ap, subst, ◌∙◌, arith}
use Rattle.std.specs.Prelude.{Option, Some, is_some}
use Rattle.vms_world.specs.Common.{Area, Balance, CounterId, CpuId, Diffs, Event, Facts, Header, High, LoadD, LoadG}
use Rattle.vms_world.specs.Common.{LoadM, LoadO, LoadS, OrderVerdict, PlaceId, Shape, Step, Verdict, WaterMark, after}
use Rattle.vms_world.specs.Common.{IsPlaceValue, IsSnapshot, IsSystemValue, IsWatermarkTest, ItemId, Look, Frees}
use Rattle.vms_world.specs.Common.{at_least_zero, free_pages, group_of, in_turn, is_doubtful, limit_of, look_steps}
use Rattle.vms_world.specs.Common.{online, other, pages, blocks_at, has_room, zones_up_to, node_number, areas_from}
use Rattle.vms_world.specs.Common.{areas_of, Yes, entry}
use Rattle.vms_base.specs.declared.kinds.CpuState.TheVariants.{Online}
use Rattle.vms_calls.specs.Looks.{hidden}
use Rattle.vms_calls.specs.Turns.{Balances, FindsBlock, Further, IsBalanceTest, IsOrderTest, LooksForBlock}
use Rattle.vms_calls.specs.Turns.FindsBlock.{nowhere, empty, some}
use Rattle.vms_calls.specs.Turns.Balances.{no_zone, fails, passes}
use Rattle.vms_core.specs.declared.states.MarkRead.{MarkRead}
use Rattle.vms_file_order_laws.proofs.LegalSteps.{legal_as, legal_first, legal_later, with_step}
use Rattle.vms_file_order_laws.proofs.PageLoads.{Legal, diffs-same, mark-same, next-same, state-same, system-same}
use Rattle.vms_file_order_laws.proofs.PageLoads.{value-same}

-- answers are one where all that they say is
verdict-same : (v v' : Verdict) → v.yes ≡ v'.yes → v.free ≡ v'.free → v.fast ≡ v'.fast → v ≡ v'
verdict-same v v' passed free fast =
    ap (λ x. let w : Verdict = record { yes = x; free = v.free; fast = v.fast } in w) passed
    ∙ ap (λ x. let w : Verdict = record { yes = v'.yes; free = x; fast = v.fast } in w) free
    ∙ ap (λ x. let w : Verdict = record { yes = v'.yes; free = v'.free; fast = x } in w) fast

order_verdict-same : (v v' : OrderVerdict) → v.yes ≡ v'.yes → v.free ≡ v'.free → v.fast ≡ v'.fast → v.area ≡ v'.area
    → v ≡ v'
order_verdict-same v v' passed free fast area =
    ap (λ x. let w : OrderVerdict = record { yes = x; free = v.free; fast = v.fast; area = v.area } in w) passed
    ∙ ap (λ x. let w : OrderVerdict = record { yes = v'.yes; free = x; fast = v.fast; area = v.area } in w) free
    ∙ ap (λ x. let w : OrderVerdict = record { yes = v'.yes; free = v'.free; fast = x; area = v.area } in w) fast
    ∙ ap (λ x. let w : OrderVerdict = record { yes = v'.yes; free = v'.free; fast = v'.fast; area = x } in w) area

mark_read-same : (r r' : MarkRead) → r.mark ≡ r'.mark → r.number ≡ r'.number → r ≡ r'
mark_read-same r r' mark number =
    ap (λ x. let w : MarkRead = record { mark = x; number = r.number } in w) mark
    ∙ ap (λ x. let w : MarkRead = record { mark = r'.mark; number = x } in w) number

module _ (facts : Facts) (p : ℕ) where
  abbrev Steps : Type 0
  Steps = List Step

  abbrev History : Type 0
  History = List (Event Step)

  pub place_value-once : (k : CounterId) (a b : Steps) (n n' : ℕ) (h : History) → IsPlaceValue k a n
      → IsPlaceValue k b n' → Legal facts p (a ++ []) h → Legal facts p (b ++ []) h → a ≡ b
  place_value-once k a b n n' h is is' legal legal' =
      let same = value-same facts p [] [] h h refl k is.value is'.value
      (legal_as pages facts p a (LoadG k is.value ∷ []) [] h is.in_order legal)
      (legal_as pages facts p b (LoadG k is'.value ∷ []) [] h is'.in_order legal') in
      is.in_order ∙ ap (λ v. LoadG k v ∷ []) same ∙ sym is'.in_order

  pub system_value-once : (i : ItemId) (a b : Steps) (n n' : ℕ) (h : History) → IsSystemValue i a n
      → IsSystemValue i b n' → Legal facts p (a ++ []) h → Legal facts p (b ++ []) h → a ≡ b
  system_value-once i a b n n' h is is' legal legal' =
      let same = system-same facts p [] [] h h refl i is.value is'.value
      (legal_as pages facts p a (LoadS i is.value ∷ []) [] h is.in_order legal)
      (legal_as pages facts p b (LoadS i is'.value ∷ []) [] h is'.in_order legal') in
      is.in_order ∙ ap (λ v. LoadS i v ∷ []) same ∙ sym is'.in_order

  -- looks at the same CPUs
  looks-once : (k j c : ℕ) (looks looks' : List Look) (more more' : Steps) (h h' : History) → h ≡ h'
      → length looks ≡ length looks' → Legal facts p (in_turn (look_steps j) c looks ++ more) h
      → Legal facts p (in_turn (look_steps j) c looks' ++ more') h'
      → (in_turn (look_steps j) c looks ≡ in_turn (look_steps j) c looks') × (hidden k looks ≡ hidden k looks')
  looks-once k j c [] [] more more' h h' from one legal legal' = (refl, refl)
  looks-once k j c [] (l ∷ looks') more more' h h' from one legal legal' = absurd (omega (arith, one))
  looks-once k j c (l ∷ looks) [] more more' h h' from one legal legal' = absurd (omega (arith, one))
  looks-once k j c (online w ∷ looks) (online w' ∷ looks') more more' h h' from one legal legal' =
      let cpu : CpuId = record { number = c } in
      let rest = in_turn (look_steps j) (suc c) looks in
      let rest' = in_turn (look_steps j) (suc c) looks' in
      let g : History = with_step p (LoadO cpu Online) h in
      let g' : History = with_step p (LoadO cpu Online) h' in
      let entered : g ≡ g' = ap (with_step p (LoadO cpu Online)) from in
      let same = diffs-same facts p (rest ++ more) (rest' ++ more') g g' entered cpu (record { number = j }) w w' legal
      legal' in
      let load : Diffs → Step = λ x. LoadD cpu (record { number = j }) x in
      let later = looks-once k j (suc c) looks looks' more more' (with_step p (load w) g) (with_step p (load w') g')
      (next-same facts p (load w) (load w') g g' (ap load same) entered) (omega (arith, one)) legal legal' in (
        ap (λ x. LoadO cpu Online ∷ load x ∷ rest) same ∙ ap (λ ks. LoadO cpu Online ∷ load w' ∷ ks) later.0,
        ap (λ (x : Diffs). entry x.values k +ℤ hidden k looks) same ∙ ap (λ x. entry w'.values k +ℤ x) later.1,
      )
  looks-once k j c (online w ∷ looks) (other x differs ∷ looks') more more' h h' from one legal legal' =
      let cpu : CpuId = record { number = c } in
      absurd (differs (sym (state-same facts p
      (LoadD cpu (record { number = j }) w ∷ (in_turn (look_steps j) (suc c) looks ++ more))
      (in_turn (look_steps j) (suc c) looks' ++ more') h h' from cpu Online x legal legal')))
  looks-once k j c (other x differs ∷ looks) (online w ∷ looks') more more' h h' from one legal legal' =
      let cpu : CpuId = record { number = c } in
      absurd (differs (state-same facts p (in_turn (look_steps j) (suc c) looks ++ more)
      (LoadD cpu (record { number = j }) w ∷ (in_turn (look_steps j) (suc c) looks' ++ more')) h h' from cpu x Online
      legal legal'))
  looks-once k j c (other x differs ∷ looks) (other x' differs' ∷ looks') more more' h h' from one legal legal' =
      let cpu : CpuId = record { number = c } in
      let rest = in_turn (look_steps j) (suc c) looks in
      let rest' = in_turn (look_steps j) (suc c) looks' in
      let same = state-same facts p (rest ++ more) (rest' ++ more') h h' from cpu x x' legal legal' in
      let later = looks-once k j (suc c) looks looks' more more' (with_step p (LoadO cpu x) h)
      (with_step p (LoadO cpu x') h') (next-same facts p (LoadO cpu x) (LoadO cpu x') h h' (ap (LoadO cpu) same) from)
      (omega (arith, one)) legal legal' in
      (ap (λ y. LoadO cpu y ∷ rest) same ∙ ap (λ ks. LoadO cpu x' ∷ ks) later.0, later.1)

  pub snapshot-once : (shape : Shape) (k : CounterId) (a b more more' : Steps) (n n' : ℕ) (h h' : History) → h ≡ h'
      → IsSnapshot shape k a n → IsSnapshot shape k b n' → Legal facts p (a ++ more) h → Legal facts p (b ++ more') h'
      → (a ≡ b) × (n ≡ n')
  snapshot-once shape k a b more more' n n' h h' from is is' legal legal' =
      let j = group_of k.number in
      let rest = in_turn (look_steps j) 0 is.looks in
      let rest' = in_turn (look_steps j) 0 is'.looks in
      let at = legal_as pages facts p a (LoadG k is.value ∷ rest) more h is.in_order legal in
      let at' = legal_as pages facts p b (LoadG k is'.value ∷ rest') more' h' is'.in_order legal' in
      let same = value-same facts p (rest ++ more) (rest' ++ more') h h' from k is.value is'.value at at' in
      let later = looks-once k.number j 0 is.looks is'.looks more more' (with_step p (LoadG k is.value) h)
      (with_step p (LoadG k is'.value) h')
      (next-same facts p (LoadG k is.value) (LoadG k is'.value) h h' (ap (LoadG k) same) from)
      (is.one_each ∙ sym is'.one_each) at at' in (
        is.in_order ∙ ap (λ v. LoadG k v ∷ rest) same ∙ ap (λ ks. LoadG k is'.value ∷ ks) later.0 ∙ sym is'.in_order,
        is.answers ∙ ap (λ v. at_least_zero (v +ℤ hidden k.number is.looks)) same
            ∙ ap (λ x. at_least_zero (is'.value +ℤ x)) later.1 ∙ sym is'.answers,
      )

  frees-once : (shape : Shape) (k : CounterId) (doubt : Bool) (value : ℤ) (a b more more' : Steps) (n n' : ℕ)
      (h h' : History) → h ≡ h' → Frees shape k doubt value a n → Frees shape k doubt value b n'
      → Legal facts p (a ++ more) h → Legal facts p (b ++ more') h' → (a ≡ b) × (n ≡ n')
  frees-once shape k true value a b more more' n n' h h' from is is' legal legal' =
      snapshot-once shape k a b more more' n n' h h' from is is' legal legal'
  frees-once shape k false value a b more more' n n' h h' from is is' legal legal' =
      (is.0 ∙ sym is'.0, is.1 ∙ sym is'.1)

  pub test-once : (header : Header) (g : PlaceId) (mark : WaterMark) (most : ℕ) (a b more more' : Steps)
      (v v' : Verdict) (h h' : History) → h ≡ h' → IsWatermarkTest header g mark most a v
      → IsWatermarkTest header g mark most b v' → Legal facts p (a ++ more) h → Legal facts p (b ++ more') h'
      → (a ≡ b) × (v ≡ v')
  test-once header g mark most a b more more' v v' h h' from is is' legal legal' =
      let k = free_pages header.layout g in
      let one : MarkRead → Step = λ r. LoadM g r.mark r.number in
      let at = legal_as pages facts p a (one is.first ∷ LoadG k is.value ∷ one is.second ∷ is.further) more h
      is.in_order
      legal in
      let at' = legal_as pages facts p b (one is'.first ∷ LoadG k is'.value ∷ one is'.second ∷ is'.further) more' h'
      is'.in_order legal' in
      let marks = mark-same facts p (LoadG k is.value ∷ one is.second ∷ (is.further ++ more))
      (LoadG k is'.value ∷ one is'.second ∷ (is'.further ++ more')) h h' from g is.first.mark is.first.number
      is'.first.mark is'.first.number at at' in
      let first : is.first ≡ is'.first = mark_read-same is.first is'.first marks.0 marks.1 in
      let g1 : History = with_step p (one is.first) h in
      let g1' : History = with_step p (one is'.first) h' in
      let from1 : g1 ≡ g1' = next-same facts p (one is.first) (one is'.first) h h' (ap one first) from in
      let value : is.value ≡ is'.value = value-same facts p (one is.second ∷ (is.further ++ more))
      (one is'.second ∷ (is'.further ++ more')) g1 g1' from1 k is.value is'.value at at' in
      let g2 : History = with_step p (LoadG k is.value) g1 in
      let g2' : History = with_step p (LoadG k is'.value) g1' in
      let from2 : g2 ≡ g2' = next-same facts p (LoadG k is.value) (LoadG k is'.value) g1 g1' (ap (LoadG k) value)
      from1 in
      let marks2 = mark-same facts p (is.further ++ more) (is'.further ++ more') g2 g2' from2 g is.second.mark
      is.second.number is'.second.mark is'.second.number at at' in
      let second : is.second ≡ is'.second = mark_read-same is.second is'.second marks2.0 marks2.1 in
      let g3 : History = with_step p (one is.second) g2 in
      let g3' : History = with_step p (one is'.second) g2' in
      let from3 : g3 ≡ g3' = next-same facts p (one is.second) (one is'.second) g2 g2' (ap one second) from2 in
      let doubt : MarkRead → ℤ → MarkRead → Bool = λ x y z. is_doubtful x y z in
      let doubts : doubt is.first is.value is.second ≡ doubt is'.first is'.value is'.second =
      ap (λ x. doubt x is.value is.second) first ∙ ap (λ y. doubt is'.first y is.second) value
      ∙ ap (λ z. doubt is'.first is'.value z) second in
      let frees' : Frees header.layout k (doubt is.first is.value is.second) is.value is'.further v'.free =
      subst (λ d. Frees header.layout k d is.value is'.further v'.free) (sym doubts)
      (subst (λ y. Frees header.layout k (doubt is'.first is'.value is'.second) y is'.further v'.free) (sym value)
      is'.frees) in
      let later = frees-once header.layout k (doubt is.first is.value is.second) is.value is.further is'.further more
      more'
      v.free v'.free g3 g3' from3 is.frees frees' at at' in (
        is.in_order ∙ ap (λ x. one x ∷ LoadG k is.value ∷ one is.second ∷ is.further) first
            ∙ ap (λ y. one is'.first ∷ LoadG k y ∷ one is.second ∷ is.further) value
            ∙ ap (λ z. one is'.first ∷ LoadG k is'.value ∷ one z ∷ is.further) second
            ∙ ap (λ ks. one is'.first ∷ LoadG k is'.value ∷ one is'.second ∷ ks) later.0 ∙ sym is'.in_order,
        verdict-same v v'
            (is.yes ∙ ap (λ n. nat_lt (limit_of header g.number mark most) n) later.1 ∙ sym is'.yes) later.1
            (is.fast ∙ ap not doubts ∙ sym is'.fast),
      )

  blocks-once : (shape : Shape) (g : PlaceId) (areas areas' : List Area) (a b more more' : Steps)
      (found found' : Option ℕ) (h h' : History) → areas ≡ areas' → h ≡ h' → FindsBlock shape g areas a found
      → FindsBlock shape g areas' b found' → Legal facts p (a ++ more) h → Legal facts p (b ++ more') h'
      → (a ≡ b) × (found ≡ found')
  blocks-once shape g areas areas' a b more more' found found' h h' same from nowhere nowhere legal legal' =
      (refl, refl)
  blocks-once shape g areas areas' a b more more' found found' h h' same from nowhere
      (empty area' tail' first' rest' f' is' finds') legal legal' = absurd cc
  blocks-once shape g areas areas' a b more more' found found' h h' same from nowhere
      (some area' tail' steps' n' is' not') legal legal' = absurd cc
  blocks-once shape g areas areas' a b more more' found found' h h' same from
      (empty area tail first rest f is finds) nowhere legal legal' = absurd cc
  blocks-once shape g areas areas' a b more more' found found' h h' same from (some area tail steps n is none) nowhere
      legal legal' = absurd cc
  blocks-once shape g areas areas' a b more more' found found' h h' same from
      (empty area tail first rest f is finds) (empty area' tail' first' rest' f' is' finds') legal legal' =
      let one : area ≡ area' = cc in
      let others : tail ≡ tail' = cc in
      let is_here : IsSnapshot shape (blocks_at shape g area) first' 0 =
      subst (λ x. IsSnapshot shape (blocks_at shape g x) first' 0) (sym one) is' in
      let here = snapshot-once shape (blocks_at shape g area) first first' (rest ++ more) (rest' ++ more') 0 0 h h' from
      is is_here (legal_first pages facts p first rest more h legal)
      (legal_first pages facts p first' rest' more' h' legal') in
      let later = blocks-once shape g tail tail' rest rest' more more' f f' (after p first h) (after p first' h') others
      (ap (λ ks. after p ks h) here.0 ∙ ap (after p first') from) finds finds'
      (legal_later pages facts p first rest more h legal) (legal_later pages facts p first' rest' more' h' legal') in
      (ap (λ ks. ks ++ rest) here.0 ∙ ap (λ ks. first' ++ ks) later.0, later.1)
  blocks-once shape g areas areas' a b more more' found found' h h' same from
      (empty area tail first rest f is finds) (some area' tail' steps' n' is' none') legal legal' =
      let one : area ≡ area' = cc in
      let is_here : IsSnapshot shape (blocks_at shape g area) steps' n' =
      subst (λ x. IsSnapshot shape (blocks_at shape g x) steps' n') (sym one) is' in
      let here = snapshot-once shape (blocks_at shape g area) first steps' (rest ++ more) more' 0 n' h h' from is
      is_here
      (legal_first pages facts p first rest more h legal) legal' in
      absurd (none' (sym here.1))
  blocks-once shape g areas areas' a b more more' found found' h h' same from (some area tail steps n is none)
      (empty area' tail' first' rest' f' is' finds') legal legal' =
      let one : area ≡ area' = cc in
      let is_here : IsSnapshot shape (blocks_at shape g area) first' 0 =
      subst (λ x. IsSnapshot shape (blocks_at shape g x) first' 0) (sym one) is' in
      let here = snapshot-once shape (blocks_at shape g area) steps first' more (rest' ++ more') n 0 h h' from is
      is_here
      legal (legal_first pages facts p first' rest' more' h' legal') in
      absurd (none here.1)
  blocks-once shape g areas areas' a b more more' found found' h h' same from (some area tail steps n is none)
      (some area' tail' steps' n' is' none') legal legal' =
      let one : area ≡ area' = cc in
      let is_here : IsSnapshot shape (blocks_at shape g area) steps' n' =
      subst (λ x. IsSnapshot shape (blocks_at shape g x) steps' n') (sym one) is' in
      let here = snapshot-once shape (blocks_at shape g area) steps steps' more more' n n' h h' from is is_here legal
      legal' in
      (here.0, ap (λ (x : Area). Some x.order) one)

  -- what a test for an order looks at further
  looks_for_block-once : (header : Header) (g : PlaceId) (order : ℕ) (room : Bool) (a b more more' : Steps)
      (v v' : OrderVerdict) (h h' : History) → h ≡ h' → LooksForBlock header g order room a v
      → LooksForBlock header g order room b v' → Legal facts p (a ++ more) h → Legal facts p (b ++ more') h'
      → (a ≡ b) × (v.yes ≡ v'.yes) × (v.area ≡ v'.area)
  looks_for_block-once header g order true a b more more' v v' h h' from is is' legal legal' =
      let areas = areas_from order (areas_of header.items) in
      let found = blocks-once header.layout g areas areas a b more more' v.area v'.area h h' refl from is.0 is'.0 legal
      legal' in
      (found.0, is.1 ∙ ap is_some found.1 ∙ sym is'.1, found.1)
  looks_for_block-once header g order false a b more more' v v' h h' from is is' legal legal' =
      (is.0 ∙ sym is'.0, is.1 ∙ sym is'.1, is.2 ∙ sym is'.2)

  further-once : (header : Header) (g : PlaceId) (mark : WaterMark) (most order : ℕ) (tested : Verdict)
      (a b more more' : Steps) (v v' : OrderVerdict) (h h' : History) → h ≡ h'
      → Further header g mark most order tested a v → Further header g mark most order tested b v'
      → Legal facts p (a ++ more) h → Legal facts p (b ++ more') h' → (a ≡ b) × (v.yes ≡ v'.yes) × (v.area ≡ v'.area)
  further-once header g mark most zero tested a b more more' v v' h h' from is is' legal legal' =
      (is.0 ∙ sym is'.0, is.1 ∙ sym is'.1, is.2 ∙ sym is'.2)
  further-once header g mark most (suc n) tested a b more more' v v' h h' from is is' legal legal' =
      looks_for_block-once header g (suc n) (has_room (limit_of header g.number mark most) (suc n) tested.free) a b more
      more' v v' h h' from is is' legal legal'

  pub order_test-once : (header : Header) (g : PlaceId) (mark : WaterMark) (most order : ℕ) (a b more more' : Steps)
      (v v' : OrderVerdict) (h h' : History) → h ≡ h' → IsOrderTest header g mark most order a v
      → IsOrderTest header g mark most order b v' → Legal facts p (a ++ more) h → Legal facts p (b ++ more') h'
      → (a ≡ b) × (v ≡ v')
  order_test-once header g mark most order a b more more' v v' h h' from is is' legal legal' =
      let at = legal_as pages facts p a (is.test ++ is.further) more h is.in_order legal in
      let at' = legal_as pages facts p b (is'.test ++ is'.further) more' h' is'.in_order legal' in
      let first = test-once header g mark most is.test is'.test (is.further ++ more) (is'.further ++ more') is.verdict
      is'.verdict h h' from is.tests is'.tests (legal_first pages facts p is.test is.further more h at)
      (legal_first pages facts p is'.test is'.further more' h' at') in
      let blocks' : Further header g mark most order is.verdict is'.further v' =
      subst (λ (t : Verdict). Further header g mark most order t is'.further v') (sym first.1) is'.blocks in
      let later = further-once header g mark most order is.verdict is.further is'.further more more' v v'
      (after p is.test h) (after p is'.test h')
      (ap (λ ks. after p ks h) first.0 ∙ ap (after p is'.test) from) is.blocks blocks'
      (legal_later pages facts p is.test is.further more h at)
      (legal_later pages facts p is'.test is'.further more' h' at') in (
        is.in_order ∙ ap (λ ks. ks ++ is.further) first.0 ∙ ap (λ ks. is'.test ++ ks) later.0 ∙ sym is'.in_order,
        order_verdict-same v v' later.1
            (is.free ∙ ap (λ (t : Verdict). t.free) first.1 ∙ sym is'.free)
            (is.fast ∙ ap (λ (t : Verdict). t.fast) first.1 ∙ sym is'.fast) later.2,
      )

  balance-once : (header : Header) (most order : ℕ) (zones zones' : List ℕ) (a b more more' : Steps)
      (v v' : Balance) (h h' : History) → zones ≡ zones' → h ≡ h' → Balances header most order zones a v
      → Balances header most order zones' b v' → Legal facts p (a ++ more) h → Legal facts p (b ++ more') h'
      → (a ≡ b) × (v ≡ v')
  balance-once header most order zones zones' a b more more' v v' h h' same from no_zone no_zone legal legal' =
      (refl, refl)
  balance-once header most order zones zones' a b more more' v v' h h' same from no_zone
      (fails g' gs' first' rest' one' answer' tests' failed' later') legal legal' = absurd cc
  balance-once header most order zones zones' a b more more' v v' h h' same from no_zone
      (passes g' gs' steps' one' tests' passed') legal legal' = absurd cc
  balance-once header most order zones zones' a b more more' v v' h h' same from
      (fails g gs first rest one answer tests failed later) no_zone legal legal' = absurd cc
  balance-once header most order zones zones' a b more more' v v' h h' same from (passes g gs steps one tests passed)
      no_zone legal legal' = absurd cc
  balance-once header most order zones zones' a b more more' v v' h h' same from
      (fails g gs first rest one answer tests failed later) (fails g' gs' first' rest' one' answer' tests' failed'
      later') legal
      legal' =
      let zone : g ≡ g' = cc in
      let others : gs ≡ gs' = cc in
      let tests_here : IsOrderTest header (record { number = g }) High most order first' one' =
      subst (λ x. let n : PlaceId = record { number = x } in IsOrderTest header n High most order first' one') (sym
      zone)
      tests' in
      let here = order_test-once header (record { number = g }) High most order first first' (rest ++ more)
      (rest' ++ more') one one' h h' from tests tests_here (legal_first pages facts p first rest more h legal)
      (legal_first pages facts p first' rest' more' h' legal') in
      let next = balance-once header most order gs gs' rest rest' more more' answer answer' (after p first h)
      (after p first' h') others (ap (λ ks. after p ks h) here.0 ∙ ap (after p first') from) later later'
      (legal_later pages facts p first rest more h legal) (legal_later pages facts p first' rest' more' h' legal') in
      (ap (λ ks. ks ++ rest) here.0 ∙ ap (λ ks. first' ++ ks) next.0, next.1)
  balance-once header most order zones zones' a b more more' v v' h h' same from
      (fails g gs first rest one answer tests failed later) (passes g' gs' steps' one' tests' passed') legal legal' =
      let zone : g ≡ g' = cc in
      let tests_here : IsOrderTest header (record { number = g }) High most order steps' one' =
      subst (λ x. let n : PlaceId = record { number = x } in IsOrderTest header n High most order steps' one') (sym
      zone)
      tests' in
      let here = order_test-once header (record { number = g }) High most order first steps' (rest ++ more) more' one
      one'
      h h' from tests tests_here (legal_first pages facts p first rest more h legal) legal' in
      let wrong : false ≡ true = sym failed ∙ ap (λ (t : OrderVerdict). t.yes) here.1 ∙ passed' in absurd cc
  balance-once header most order zones zones' a b more more' v v' h h' same from
      (passes g gs steps one tests passed) (fails g' gs' first' rest' one' answer' tests' failed' later') legal legal' =
      let zone : g ≡ g' = cc in
      let tests_here : IsOrderTest header (record { number = g }) High most order first' one' =
      subst (λ x. let n : PlaceId = record { number = x } in IsOrderTest header n High most order first' one') (sym
      zone)
      tests' in
      let here = order_test-once header (record { number = g }) High most order steps first' more (rest' ++ more') one
      one' h h' from tests tests_here legal (legal_first pages facts p first' rest' more' h' legal') in
      let wrong : false ≡ true = sym failed' ∙ ap (λ (t : OrderVerdict). t.yes) (sym here.1) ∙ passed in absurd cc
  balance-once header most order zones zones' a b more more' v v' h h' same from
      (passes g gs steps one tests passed) (passes g' gs' steps' one' tests' passed') legal legal' =
      let zone : g ≡ g' = cc in
      let tests_here : IsOrderTest header (record { number = g }) High most order steps' one' =
      subst (λ x. let n : PlaceId = record { number = x } in IsOrderTest header n High most order steps' one') (sym
      zone)
      tests' in
      let here = order_test-once header (record { number = g }) High most order steps steps' more more' one one' h h'
      from
      tests tests_here legal legal' in (
        here.0,
        ap (λ x. Yes (record { number = x }) one) zone ∙ ap (λ (t : OrderVerdict). Yes (record { number = g' }) t)
            here.1,
      )

  pub balance_test-once : (header : Header) (n : PlaceId) (order most : ℕ) (a b more more' : Steps) (v v' : Balance)
      (h h' : History) → h ≡ h' → IsBalanceTest header n order most a v → IsBalanceTest header n order most b v'
      → Legal facts p (a ++ more) h → Legal facts p (b ++ more') h' → (a ≡ b) × (v ≡ v')
  balance_test-once header n order most a b more more' v v' h h' from is is' legal legal' =
      balance-once header most order (zones_up_to header.layout most (node_number header.layout n))
      (zones_up_to header.layout most (node_number header.layout n)) a b more more' v v' h h' refl from is is' legal
      legal'
