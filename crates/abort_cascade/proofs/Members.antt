-- Lists of the marked nodes, as the marks grow.
use Rattle.std.proofs.Common.{◌≡◌, ℕ, zero, suc, ◌+◌, ◌<◌, ◌≤◌, Bool, true, false, List, [], ◌∷◌, length, get_or, set}
use Rattle.std.proofs.Common.{take, count_by, replicate, refl, sym, subst, ◌∙◌, inl, inr, arith, length-take}
use Rattle.std.specs.Prelude.{◌↔◌, Contains}
use Rattle.std.proofs.lemmas.Bool.{cases_eq}
use Rattle.std.proofs.lemmas.List.{get_or_read, get_or-set_other, get_or-set_same, get_or-take, length-set}
use Rattle.std.proofs.lemmas.List.Elements.{Contains-get_or}
use Rattle.std.proofs.lemmas.List.Sums.{count_by-le-length, count_by_more_yes, count_by_more_no}
use Rattle.abort_cascade.specs.Cascade.{Marked, IsClosed}
use Rattle.abort_cascade.specs.Growth.{Spreads, IsListOf}
use Rattle.abort_cascade.proofs.Union.{unmarked}
use Rattle.abort_cascade.proofs.Rounds.{count-mark, Spreads-none, Spreads-more, Spreads-mark}

-- only a node that is there is marked
pub marked_within : (marks : List Bool) (node : ℕ) → Marked marks node → node < length marks
marked_within [] node marked = absurd (cc marked)
marked_within (mark ∷ marks) zero marked = omega arith
marked_within (mark ∷ marks) (suc node) marked = omega (arith, marked_within marks node marked)

-- of marks that are all false none is listed
pub IsListOf-none : (n : ℕ) (members : List ℕ) → IsListOf (replicate n false) members 0
IsListOf-none n members =
    record {
      marked = λ k below. absurd (omega (arith, below));
      all = λ node marked. absurd (cc (unmarked n node, marked));
      size = sym (counts_none n);
    }
  where
    counts_none : (n : ℕ) → count_by (λ mark. mark) (replicate n false) ≡ 0
    counts_none zero = refl
    counts_none (suc n) = counts_none n

-- the marked nodes below a place are listed
pub record ListsTo (upto : ℕ) (marks : List Bool) (members : List ℕ) (found : ℕ) : Type 0 where
  pub marked : (k : ℕ) → k < found → Marked marks (get_or members k 0)
  pub all : (node : ℕ) → node < upto → Marked marks node → (k : ℕ) × (k < found) × (get_or members k 0 ≡ node)
  pub size : found ≡ count_by (λ mark. mark) (take upto marks)

pub ListsTo-below : (upto : ℕ) (marks : List Bool) (members : List ℕ) (found : ℕ) → ListsTo upto marks members found
    → found ≤ upto
ListsTo-below upto marks members found lists =
    omega (arith, lists.size, count_by-le-length (λ (mark : Bool). mark) (take upto marks), length-take upto marks)

pub ListsTo-skip : (upto : ℕ) (marks : List Bool) (members : List ℕ) (found : ℕ)
    → upto < length marks → get_or marks upto false ≡ false → ListsTo upto marks members found
    → ListsTo (upto + 1) marks members found
ListsTo-skip upto marks members found within unmarked lists =
    record {
      marked = lists.marked;
      all = λ node below marked. elim (cases_eq node upto) [
        | inl here ↦ absurd (cc (rw here at marked, unmarked))
        | inr other ↦ lists.all node (omega (arith, below, other)) marked
      ];
      size = lists.size ∙ sym (count_by_more_no (λ mark. mark) marks upto false within unmarked);
    }

pub ListsTo-more : (upto : ℕ) (marks : List Bool) (members : List ℕ) (found : ℕ)
    → upto < length marks → found < length members → Marked marks upto → ListsTo upto marks members found
    → ListsTo (upto + 1) marks (set members found upto) (found + 1)
ListsTo-more upto marks members found within inside here lists =
    record {
      marked = λ k below. elim (cases_eq k found) [
        | inl last ↦ rw last (subst (Marked marks) (sym (get_or-set_same members found upto 0 inside)) here)
        | inr other ↦ subst (Marked marks) (sym (get_or-set_other members found k upto 0 other)) (lists.marked k (omega (arith, below, other)))
      ];
      all = λ node below marked. elim (cases_eq node upto) [
        | inl same ↦ (found, omega arith, get_or-set_same members found upto 0 inside ∙ sym same)
        | inr other ↦
            let old = lists.all node (omega (arith, below, other)) marked in
            (old.0, omega (arith, old.1), get_or-set_other members found old.0 upto 0 (λ same. absurd (omega (arith, old.1, same))) ∙ old.2)
      ];
      size = omega (arith, lists.size, count_by_more_yes (λ (mark : Bool). mark) marks upto false within here);
    }

-- where a node is unmarked, fewer are listed than there are nodes
pub listed_below : (marks : List Bool) (members : List ℕ) (found node : ℕ)
    → IsListOf marks members found → node < length marks → get_or marks node false ≡ false → found < length marks
listed_below marks members found node listed within unmarked =
    omega (arith, listed.size, count-mark marks node within unmarked, count_by-le-length (λ (mark : Bool). mark) (set marks node true), length-set marks node true)

-- one more node is marked and listed
pub IsListOf-mark : (marks : List Bool) (members : List ℕ) (found node : ℕ)
    → node < length marks → found < length members → get_or marks node false ≡ false → IsListOf marks members found
    → IsListOf (set marks node true) (set members found node) (found + 1)
IsListOf-mark marks members found node within inside unmarked listed =
    record {
      marked = λ k below. elim (cases_eq k found) [
        | inl last ↦ rw last (subst (Marked (set marks node true)) (sym (get_or-set_same members found node 0 inside)) (get_or-set_same marks node true false within))
        | inr other ↦ subst (Marked (set marks node true)) (sym (get_or-set_other members found k node 0 other)) (stays (get_or members k 0) (listed.marked k (omega (arith, below, other))))
      ];
      all = λ a marked. elim (cases_eq a node) [
        | inl same ↦ (found, omega arith, get_or-set_same members found node 0 inside ∙ sym same)
        | inr other ↦
            let old = listed.all a (sym (get_or-set_other marks node a true false other) ∙ marked) in
            (old.0, omega (arith, old.1), get_or-set_other members found old.0 node 0 (λ same. absurd (omega (arith, old.1, same))) ∙ old.2)
      ];
      size = omega (arith, listed.size, count-mark marks node within unmarked);
    }
  where
    stays : (a : ℕ) → Marked marks a → Marked (set marks node true) a
    stays a at = elim (cases_eq a node) [
      | inl same ↦ absurd (cc (rw same at at, unmarked))
      | inr other ↦ get_or-set_other marks node a true false other ∙ at
    ]

-- the marked nodes are those at the front of the members
pub listed_front : (marks : List Bool) (members : List ℕ) (found node : ℕ)
    → found ≤ length members → IsListOf marks members found → Marked marks node ↔ Contains (take found members) node
listed_front marks members found node inside listed = (
  λ marked.
      let at = listed.all node marked in
      subst (Contains (take found members)) (get_or-take found members at.0 0 at.1 ∙ at.2) (Contains-get_or (take found members) at.0 0 (omega (arith, at.1, length-take found members))),
  λ there.
      let below : there.0 < found = omega (arith, there.1, length-take found members) in
      let here = get_or_read members there.0 node (omega (arith, below, inside)) (sym there.2 ∙ get_or-take found members there.0 node below) 0 in
      subst (Marked marks) (sym here) (listed.marked there.0 below),
)

module _ (count : ℕ) (pull : ℕ → ℕ → Bool) where
  -- what a node pulls is marked and listed as far as some place
  pub record SpreadsTo (node upto : ℕ) (old new : List Bool) (before after : List ℕ) (found size : ℕ) : Type 0 where
    pub spreads : Spreads count pull old new
    pub all : (b : ℕ) → b < upto → pull node b ≡ true → Marked new b
    pub listed : IsListOf new after size
    pub stay : (k : ℕ) → k < found → get_or after k 0 ≡ get_or before k 0
    pub more : found ≤ size

  pub SpreadsTo-none : (node : ℕ) (marks : List Bool) (members : List ℕ) (found : ℕ) → IsListOf marks members found
      → SpreadsTo node 0 marks marks members members found found
  SpreadsTo-none node marks members found listed =
      record {
        spreads = Spreads-none count pull marks;
        all = λ b below. absurd (omega (arith, below));
        listed = listed;
        stay = λ k below. refl;
        more = omega arith;
      }

  pub SpreadsTo-skip : (node upto : ℕ) (old new : List Bool) (before after : List ℕ) (found size : ℕ)
      → (pull node upto ≡ true → Marked new upto) → SpreadsTo node upto old new before after found size
      → SpreadsTo node (upto + 1) old new before after found size
  SpreadsTo-skip node upto old new before after found size here to =
      record {
        spreads = to.spreads;
        all = λ b below pulled. elim (cases_eq b upto) [
          | inl at ↦ rw at (here (rw at at pulled))
          | inr other ↦ to.all b (omega (arith, below, other)) pulled
        ];
        listed = to.listed;
        stay = to.stay;
        more = to.more;
      }

  pub SpreadsTo-mark : (node upto : ℕ) (old new : List Bool) (before after : List ℕ) (found size : ℕ)
      → node < count → upto < count → upto < length new → size < length after → Marked old node → pull node upto ≡ true
      → get_or new upto false ≡ false
      → SpreadsTo node upto old new before after found size
      → SpreadsTo node (upto + 1) old (set new upto true) before (set after size upto) found (size + 1)
  SpreadsTo-mark node upto old new before after found size low high within inside marked pulled unmarked to =
      let one = Spreads-mark count pull new node upto low high within (to.spreads.stay node marked) pulled in
      record {
        spreads = Spreads-more count pull old new (set new upto true) to.spreads one;
        all = λ b below pulled'. elim (cases_eq b upto) [
          | inl at ↦ rw at (get_or-set_same new upto true false within)
          | inr other ↦ one.stay b (to.all b (omega (arith, below, other)) pulled')
        ];
        listed = IsListOf-mark new after size upto within inside unmarked to.listed;
        stay =
            λ k below. get_or-set_other after size k upto 0 (λ same. absurd (omega (arith, same, below, to.more))) ∙ to.stay k below;
        more = omega (arith, to.more);
      }

  -- the marks have grown, their nodes are listed, and what the first of these pull is marked
  pub record IsWalked (old new : List Bool) (members : List ℕ) (next found : ℕ) : Type 0 where
    pub spreads : Spreads count pull old new
    pub listed : IsListOf new members found
    pub done : (k : ℕ) → k < next → (b : ℕ) → b < count → pull (get_or members k 0) b ≡ true → Marked new b
    pub upto : next ≤ found

  pub IsWalked-none : (marks : List Bool) (members : List ℕ) (found : ℕ) → IsListOf marks members found
      → IsWalked marks marks members 0 found
  IsWalked-none marks members found listed =
      record {
        spreads = Spreads-none count pull marks;
        listed = listed;
        done = λ k below. absurd (omega (arith, below));
        upto = omega arith;
      }

  pub IsWalked-more : (old mid new : List Bool) (before after : List ℕ) (next found size : ℕ)
      → length mid ≡ count → next < found → Spreads count pull mid new
      → ((b : ℕ) → b < length mid → pull (get_or before next 0) b ≡ true → Marked new b)
      → IsListOf new after size → ((k : ℕ) → k < found → get_or after k 0 ≡ get_or before k 0) → found ≤ size
      → IsWalked old mid before next found → IsWalked old new after (next + 1) size
  IsWalked-more old mid new before after next found size long below spreads all listed stay more walked =
      record {
        spreads = Spreads-more count pull old mid new walked.spreads spreads;
        listed = listed;
        done = λ k low b high pulled. elim (cases_eq k next) [
          | inl at ↦ all b (omega (arith, high, long)) (rw (at, stay next below) at pulled)
          | inr other ↦
              let past : k < next = omega (arith, low, other) in
              spreads.stay b (walked.done k past b high (rw (stay k (omega (arith, past, below))) at pulled))
        ];
        upto = omega (arith, below, more);
      }

  -- at the end of the walk the marks are closed
  pub walked_closed : (old new : List Bool) (members : List ℕ) (next found : ℕ) → found ≤ next
      → IsWalked old new members next found → IsClosed count pull (Marked new)
  walked_closed old new members next found end walked a b low high pulled marked =
      let at = walked.listed.all a marked in
      walked.done at.0 (omega (arith, at.1, end)) b high (subst (λ n. pull n b ≡ true) (sym at.2) pulled)
