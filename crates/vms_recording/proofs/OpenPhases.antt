-- A phase whose first lines are made.
use Rattle.std.proofs.Common.{◌≡◌, ℕ, ◌+◌, ◌<◌, ◌≤◌, List, [], ◌∷◌, ◌++◌, Option, add-one, ap, append-nil, append_assoc}
use Rattle.std.proofs.Common.{drop, get_or, length, refl, subst, sym, take, take-append-drop, ◌∙◌}
use Rattle.std.proofs.KnownBytes.{Appends-nil, Appends-trans}
use Rattle.std.proofs.Math.Seq.{take-suc}
use Rattle.std.proofs.lemmas.List.{drop_more, take_all}
use Rattle.std.specs.Io.KnownBytes.{Appends}
use Rattle.std.specs.Prelude.{Err, Ok}
use Rattle.vms_core.specs.Pages.{History}
use Rattle.vms_phase_lines.specs.Common.{IsWriting, event_lines}
use Rattle.vms_phase_lines.specs.declared.phases.PhaseWriter.{PhaseWriter}
use Rattle.vms_stream.specs.declared.statuses.Status.{Status}
use Rattle.vms_world.specs.Common.{Header, Item, State}
use Rattle.vms_recording.specs.Common.{BeginsPhase, WritesLines}
use Rattle.vms_recording.proofs.EventLines.{events-more, front-moved, text-more}

module _ (header : Header) (s : State) (items : List Item) (h : History) (waiting : List ℕ) (held : Option (List ℕ)) where
  -- so many lines are made, and of what waited and what they make the front is written
  pub record IsOpen (n : ℕ) (phase : PhaseWriter) (waiting' : List ℕ) (held' : Option (List ℕ)) : Type 0 where
    pub more : History
    pub moved : List ℕ
    pub writing : IsWriting header s items (take n items) (more ++ h) phase
    pub appends : Appends held held' moved
    pub text : moved ++ waiting' ≡ waiting ++ event_lines more

  pub IsOpen-first : (phase : PhaseWriter) → IsWriting header s items [] h phase → IsOpen 0 phase waiting held
  IsOpen-first phase writing = record {
    more = [];
    moved = [];
    writing = writing;
    appends = Appends-nil held;
    text = sym (append-nil waiting);
  }

  module _ (n : ℕ) (phase : PhaseWriter) (waiting' : List ℕ) (held' : Option (List ℕ))
      (is : IsOpen n phase waiting' held') where
    begins : BeginsPhase header s items (is.more ++ h)
    begins = record {
      made = take n items;
      left = drop n items;
      parts = sym (take-append-drop n items);
      legal = is.writing.stands.legal;
      follow = is.writing.follow;
    }

    -- the front of what waits is written
    pub IsOpen-moved : (held'' : Option (List ℕ)) (front back : List ℕ) → waiting' ≡ front ++ back
        → Appends held' held'' front → (last : List ℕ) → last ≡ back → IsOpen n phase last held''
    IsOpen-moved held'' front back parts appends last left = record {
      more = is.more;
      moved = is.moved ++ front;
      writing = is.writing;
      appends = Appends-trans held held' held'' is.moved front is.appends appends;
      text = ap (λ (bytes : List ℕ). (is.moved ++ front) ++ bytes) left
          ∙ front-moved (waiting ++ event_lines is.more) is.moved waiting' front back is.text parts;
    }

    -- the writing stops here
    pub WritesLines-stopped : (last : List ℕ) (phase' : PhaseWriter) (error : Status)
        → WritesLines header s items h waiting last held held' phase' (Err error)
    WritesLines-stopped last phase' error = record {
      more = is.more;
      begins = begins;
      moved = is.moved;
      rest = waiting';
      appends = is.appends;
      parts = is.text;
      goes = tt;
    }

    -- all lines are made
    pub WritesLines-whole : length items ≤ n → WritesLines header s items h waiting waiting' held held' phase (Ok (tt {0}))
    WritesLines-whole past = record {
      more = is.more;
      begins = begins;
      moved = is.moved;
      rest = waiting';
      appends = is.appends;
      parts = is.text;
      goes = (
        refl,
        subst (λ (made : List Item). IsWriting header s items made (is.more ++ h) phase)
            (take_all n items past) is.writing,
      );
    }

    module _ (item d : Item) (below : n < length items) (item-is : item ≡ get_or items n d) where
      -- the next line stands between those that are made and those that are left
      pub parts-next : items ≡ take n items ++ item ∷ drop (n + 1) items
      parts-next = sym (take-append-drop n items) ∙ ap (λ (rest : List Item). take n items ++ rest)
          (drop_more items n d below ∙ ap (λ (i : Item). i ∷ drop (n + 1) items) (sym item-is))

      -- the next line is made
      pub IsOpen-line : (later : History) (phase' : PhaseWriter)
          → IsWriting header s items (take n items ++ item ∷ []) (later ++ (is.more ++ h)) phase'
          → (waiting'' : List ℕ) → waiting'' ≡ waiting' ++ event_lines later → IsOpen (n + 1) phase' waiting'' held'
      IsOpen-line later phase' writing waiting'' text = record {
        more = later ++ is.more;
        moved = is.moved;
        writing = subst (λ (made : List Item). IsWriting header s items made ((later ++ is.more) ++ h) phase')
            (sym taken) (subst (λ (g : History). IsWriting header s items (take n items ++ item ∷ []) g phase')
            (sym (append_assoc later is.more h)) writing);
        appends = is.appends;
        text = text-more _ is.moved waiting' (event_lines later) waiting'' is.text text
            ∙ events-more waiting later is.more;
      }
        where
          taken : take (n + 1) items ≡ take n items ++ item ∷ []
          taken = ap (λ (m : ℕ). take m items) (add-one n) ∙ take-suc items n d below
              ∙ ap (λ (i : Item). take n items ++ i ∷ []) (sym item-is)
