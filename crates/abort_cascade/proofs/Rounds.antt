-- What stays true while marks spread.
use Rattle.std.proofs.Common.{◌≡◌, ℕ, ◌+◌, ◌<◌, Bool, true, false, List, length, get_or, set, count_by, refl, sym, ap}
use Rattle.std.proofs.Common.{subst, ◌∙◌, inl, inr, arith, cond, ◌||◌}
use Rattle.std.proofs.lemmas.Bool.{cases_eq}
use Rattle.std.proofs.lemmas.List.{get_or-set_other, get_or-set_same, length-set}
use Rattle.std.proofs.lemmas.List.Sums.{sum_by-set}
use Rattle.abort_cascade.specs.Cascade.{Marked, Reached, start, step}
use Rattle.abort_cascade.specs.Growth.{Spreads, SaysGrown}
use Rattle.abort_cascade.proofs.Union.{reached_twice}

-- a new mark is one more
pub count-mark : (marks : List Bool) (b : ℕ) → b < length marks → get_or marks b false ≡ false
    → count_by (λ mark. mark) (set marks b true) ≡ count_by (λ mark. mark) marks + 1
count-mark marks b within unmarked =
    omega (arith, sum_by-set (λ mark. cond mark 1 0) marks b true false within, ap {B = ℕ} (λ mark. cond mark 1 0) unmarked)

module _ (count : ℕ) (pull : ℕ → ℕ → Bool) where
  pub Spreads-none : (marks : List Bool) → Spreads count pull marks marks
  Spreads-none marks = record { stay = λ node at. at; reached = λ node at. start node at; size = refl }

  pub Spreads-more : (a b c : List Bool) → Spreads count pull a b → Spreads count pull b c → Spreads count pull a c
  Spreads-more a b c one two =
      record {
        stay = λ node at. two.stay node (one.stay node at);
        reached = λ node at. reached_twice count pull (Marked a) (Marked b) one.reached node (two.reached node at);
        size = two.size ∙ one.size;
      }

  -- marks spread to a node that a marked one pulls
  pub Spreads-mark : (marks : List Bool) (a b : ℕ) → a < count → b < count → b < length marks → Marked marks a
      → pull a b ≡ true → Spreads count pull marks (set marks b true)
  Spreads-mark marks a b low high within marked pulled =
      record {
        stay = λ node at. elim (cases_eq node b) [
          | inl here ↦ ap (λ k. get_or (set marks b true) k false) here ∙ get_or-set_same marks b true false within
          | inr other ↦ get_or-set_other marks b node true false other ∙ at
        ];
        reached = λ node at. elim (cases_eq node b) [
          | inl here ↦ subst (Reached count pull (Marked marks)) (sym here) (step b (start a marked) low high pulled)
          | inr other ↦ start node (sym (get_or-set_other marks b node true false other) ∙ at)
        ];
        size = length-set marks b true;
      }

  -- what one node pulls is marked, up to a place, and it is told whether a mark is new
  pub record RoundOf (a upto : ℕ) (old new : List Bool) (grown : Bool) : Type 0 where
    pub spreads : Spreads count pull old new
    pub all : (b : ℕ) → b < upto → pull a b ≡ true → Marked new b
    pub tells : SaysGrown old new grown

  pub RoundOf-none : (a : ℕ) (marks : List Bool) → RoundOf a 0 marks marks false
  RoundOf-none a marks =
      record {
        spreads = Spreads-none marks;
        all = λ b below. absurd (omega (arith, below));
        tells = record { same = λ _. refl; more = λ no. absurd (cc) };
      }

  pub RoundOf-skip : (a upto : ℕ) (old new : List Bool) (grown : Bool) → (pull a upto ≡ true → Marked new upto)
      → RoundOf a upto old new grown → RoundOf a (upto + 1) old new grown
  RoundOf-skip a upto old new grown here round =
      record {
        spreads = round.spreads;
        all = λ b below pulled. elim (cases_eq b upto) [
          | inl at ↦ rw at (here (rw at at pulled))
          | inr other ↦ round.all b (omega (arith, below, other)) pulled
        ];
        tells = round.tells;
      }

  pub RoundOf-mark : (a upto : ℕ) (old new : List Bool) (grown : Bool) → a < count → upto < count → upto < length new
      → Marked old a → pull a upto ≡ true → get_or new upto false ≡ false → RoundOf a upto old new grown
      → RoundOf a (upto + 1) old (set new upto true) true
  RoundOf-mark a upto old new grown low high within marked pulled unmarked round =
      let one = Spreads-mark new a upto low high within (round.spreads.stay a marked) pulled in
      record {
        spreads = Spreads-more old new (set new upto true) round.spreads one;
        all = λ b below pulled'. elim (cases_eq b upto) [
          | inl at ↦ rw at (get_or-set_same new upto true false within)
          | inr other ↦ one.stay b (round.all b (omega (arith, below, other)) pulled')
        ];
        tells = record {
          same = λ no. absurd (cc);
          more = λ _. grew grown round.tells;
        };
      }
    where
      grew : (g : Bool) → SaysGrown old new g
          → count_by (λ mark. mark) old < count_by (λ mark. mark) (set new upto true)
      grew true tells = omega (arith, count-mark new upto within unmarked, tells.more refl)
      grew false tells =
          omega (arith, count-mark new upto within unmarked, ap (count_by (λ mark. mark)) (tells.same refl))

  -- a pass over all nodes has come to a place
  pub record PassTo (upto : ℕ) (old new : List Bool) (grown : Bool) : Type 0 where
    pub spreads : Spreads count pull old new
    pub closed : grown ≡ false → (a b : ℕ) → a < upto → b < count → pull a b ≡ true → Marked new a → Marked new b
    pub tells : SaysGrown old new grown

  pub PassTo-none : (marks : List Bool) → PassTo 0 marks marks false
  PassTo-none marks =
      record {
        spreads = Spreads-none marks;
        closed = λ same a b below. absurd (omega (arith, below));
        tells = record { same = λ _. refl; more = λ no. absurd (cc) };
      }

  pub PassTo-skip : (upto : ℕ) (old new : List Bool) (grown : Bool) → get_or new upto false ≡ false
      → PassTo upto old new grown → PassTo (upto + 1) old new grown
  PassTo-skip upto old new grown unmarked done =
      record {
        spreads = done.spreads;
        closed = λ same a b below high pulled marked. elim (cases_eq a upto) [
          | inl at ↦ absurd (cc (rw at at marked, unmarked))
          | inr other ↦ done.closed same a b (omega (arith, below, other)) high pulled marked
        ];
        tells = done.tells;
      }

  pub PassTo-spread : (upto : ℕ) (old mid new : List Bool) (grown more : Bool) → Spreads count pull mid new
      → ((b : ℕ) → b < count → pull upto b ≡ true → Marked new b) → SaysGrown mid new more → PassTo upto old mid grown
      → PassTo (upto + 1) old new (grown || more)
  PassTo-spread upto old mid new grown more spreads all tells done =
      record {
        spreads = Spreads-more old mid new done.spreads spreads;
        closed = closed grown more tells done;
        tells = told grown more tells done.tells;
      }
    where
      told : (g h : Bool) → SaysGrown mid new h → SaysGrown old mid g → SaysGrown old new (g || h)
      told true true two one =
          record { same = λ no. absurd (cc); more = λ _. omega (arith, one.more refl, two.more refl) }
      told true false two one =
          record {
            same = λ no. absurd (cc);
            more = λ _. omega (arith, one.more refl, ap (count_by (λ mark. mark)) (two.same refl));
          }
      told false true two one =
          record {
            same = λ no. absurd (cc);
            more = λ _. omega (arith, ap (count_by (λ mark. mark)) (one.same refl), two.more refl);
          }
      told false false two one = record { same = λ _. two.same refl ∙ one.same refl; more = λ no. absurd (cc) }

      closed : (g h : Bool) → SaysGrown mid new h → PassTo upto old mid g → (g || h) ≡ false → (a b : ℕ) → a < upto + 1
          → b < count → pull a b ≡ true → Marked new a → Marked new b
      closed true h two one = λ e a b below high pulled marked. absurd (cc)
      closed false true two one = λ e a b below high pulled marked. absurd (cc)
      closed false false two one = λ same a b below high pulled marked.
          elim (cases_eq a upto) [
            | inl at ↦ all b high (rw at at pulled)
            | inr other ↦ rw (two.same refl) (one.closed refl a b (omega (arith, below, other)) high pulled (rw (two.same refl) at marked))
          ]
