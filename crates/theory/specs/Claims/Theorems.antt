-- What is proved of which protocols. Statements only; proofs/Claims/Proved.antt proves them.
use Rattle.std.specs.Prelude.{◌≡◌, true, false, cond, List, ◌↔◌, ◌⊎◌, ℕ, ◌+◌, ◌*◌, ◌≤◌, ◌<◌, length, ◌≤ℤ◌}
use Rattle.theory.specs.Protocol.{Protocol, WellFormed, size, terminal, Shows, Start, start_test, after, meetings}
use Rattle.theory.specs.Ladder.{Layers, OrderedPartition, handover_at, handover, Broken, layered, Alone, Laddered, spread}
use Rattle.theory.specs.Facts.{Facts}
use Rattle.theory.specs.Leaf.{leaf_closes, signed, LeafRule}
use Rattle.theory.specs.Remainder.{remainder_closes, RemainderRule}
use Rattle.theory.specs.Tree.{Tree, Assumption, next, refused, tree_answer}
use Rattle.theory.specs.Subtree.{TreeStands, TreeFails}
use Rattle.theory.specs.Potential.{Potential}
use Rattle.theory.specs.Sheet.{Sheet, at_least, at_most, sheet_closes, first_walk, second_walk, sheet_answer, limit_of, weighed_sum, FirstRule, SecondRule}
use Rattle.theory.specs.Sheet.Claimed.{claimed}
use Rattle.theory.specs.Machine.{is_sized, admitted, reply}
use Rattle.theory.specs.Potential.Runs.{parikh}
use Rattle.theory.specs.Machine.Lists.{last_counts, reported}
use Rattle.theory.specs.Claims.{Certified, AsPublished, LayersAre, LayeredBy, LayeredTermination, Consensus, StrongConsensus, Termination, WS², WS³}
use Rattle.theory.specs.Claims.{Reaches, ReachesPotentially, Rests, OneOutput}
use Rattle.theory.specs.Claims.{AllRefused, CallsMake, CallsRest, Rank}

module _ (P : Protocol) where
  -- The handover test passes just where no configuration of any size breaks the handover, at each rule and as a whole.
  pub record HandoverExact (L : Layers) : Type 0 where
    pub at_rule : (s : ℕ) → s < P.rules → (handover_at P L s ≡ true) ↔ (Broken P L s → ⊥)
    -- Where it fails there is a configuration that breaks the handover.
    pub broken : (s : ℕ) → s < P.rules → handover_at P L s ≡ false → Broken P L s
    pub whole : (handover P L ≡ true) ↔ ((s : ℕ) → s < P.rules → Broken P L s → ⊥)

  -- The start test (refusal 22) passes just the starts.
  abbrev pub StartExact : Type 0
  StartExact = (c : List ℕ) → length c ≡ P.states → 2 ≤ size c → (start_test P c ≡ P.states) ↔ Start P c

module _ (P : Protocol) (Z : Sheet) where
  -- The sheet is accepted: both its trees are (tests 12 and 13). No rule of its bytes (test 15) is needed.
  abbrev pub SheetAccepted : Type 0
  SheetAccepted = sheet_answer P Z ≡ next (Z.first.nodes + Z.second.nodes)

  -- Every terminal configuration reachable from a start shows what the sheet claims for that start.
  abbrev pub Decides : Type 0
  Decides = (c d : List ℕ) → Start P c → Reaches P c d → terminal P d ≡ true → Shows P (claimed Z c) d

  -- Every terminal configuration potentially reachable from it does.
  abbrev pub DecidesPotentially : Type 0
  DecidesPotentially = (c d : List ℕ) → Start P c → ReachesPotentially P c d → terminal P d ≡ true → Shows P (claimed Z c) d

  -- Of lists of things tried in turn on c, as in demand 3: from a start every list that ends terminal shows what is claimed.
  abbrev pub DecidedBy : List ℕ → {X : Type 0} → (List X → List ℕ) → Type 0
  DecidedBy c {X} last = Start P c → (xs : List X) → terminal P (last xs) ≡ true → Shows P (claimed Z c) (last xs)

  -- What a sheet says is document 02's, in signed numbers.
  pub record SheetIs : Type 0 where
    -- It claims 1 just where the weighed sum is at least the limit.
    pub claimed_is : (c : List ℕ) → length c ≡ P.states → (claimed Z c ≡ true) ↔ (limit_of Z ≤ℤ weighed_sum P Z c)
    -- The leaf rules of its two trees, w s being the biased weight of state s and k the multiplier. Of the second, where the
    -- numbers are of 16 bits.
    pub first_is : (F : Facts) (w : ℕ → ℕ) (k : ℕ) → (sheet_closes P (at_least Z) F w k ≡ true) ↔ FirstRule P Z F (λ s. signed (w s)) k
    pub second_is : ((s : ℕ) → s < P.states → Z.numbers s < 65536) → (F : Facts) (w : ℕ → ℕ) (k : ℕ)
        → (sheet_closes P (at_most Z) F w k ≡ true) ↔ SecondRule P Z F (λ s. signed (w s)) k

-- Of a ladder that passes, for configurations of any size.
pub record OfLadder (P : Protocol) (L : Layers) (w : ℕ → ℕ → ℕ) : Type 0 where
  -- Layered Termination, by the ladder's own layers; each of them alone makes at most size times its spread meetings.
  pub layered_by : LayeredBy P L
  pub layer_bound : (i : ℕ) (c rs : List ℕ) → length c ≡ P.states → Alone P L i c rs → meetings P c rs ≤ size c * spread P.states (w i)
  pub rank_is : (c : List ℕ) → length c ≡ P.states → Rank P L w c
  -- From every configuration some layered list ends terminal.
  pub some_list : (c : List ℕ) → length c ≡ P.states → (rs : List ℕ) × (layered P L c rs ≡ true) × (terminal P (after P c rs) ≡ true)
  -- Demand 3, but for the verdict: of lists of rule numbers, and of lists of calls.
  pub rests : (c : List ℕ) → length c ≡ P.states → Rests P L w c (after P c) (meetings P c) (layered P L c)
  pub calls_rest : (c : List ℕ) → length c ≡ P.states → CallsRest P L w c (reply P L) (last_counts P L c) (reported P L c)

pub record Theorems (P : Protocol) : Type 0 where
  -- The definitions are the paper's, document 01's and, for kind 7, document 02's; the leaf rule and the remainder rule on
  -- biased weights are those on signed ones.
  pub as_published : WellFormed P → (c : List ℕ) → length c ≡ P.states → AsPublished P c
  pub layers_are : WellFormed P → {L : Layers} → OrderedPartition P L → (w : ℕ → ℕ → ℕ) (c : List ℕ) → LayersAre P L w c
  pub tree_stands : (H : Assumption) (T : Tree) → (tree_answer P H T ≡ next T.nodes) ↔ TreeStands P H T
  pub tree_fails : (H : Assumption) (T : Tree) (n k : ℕ) → (tree_answer P H T ≡ refused n k) ↔ TreeFails P H T n k
  pub leaf_is : (F : Facts) (w : ℕ → ℕ → ℕ) → (leaf_closes P F w ≡ true) ↔ LeafRule P F (λ k s. signed (w k s))
  pub remainder_is : (m : ℕ) (F : Facts) (w : ℕ → ℕ → ℕ) → (remainder_closes P m F w ≡ true) ↔ RemainderRule P F (λ k s. signed (w k s)) m
  pub start_exact : StartExact P
  pub handover_exact : WellFormed P → (L : Layers) → HandoverExact P L
  -- Calls make a list of rule numbers, or are all refused.
  pub calls_make : {L : Layers} → WellFormed P → OrderedPartition P L → (c : List ℕ) → admitted P c ≡ true
      → CallsMake P L c (reply P L) (last_counts P L c) (reported P L c)
  pub calls_refused : (L : Layers) (c : List ℕ) → admitted P c ≡ false → AllRefused c (reply P L) (last_counts P L c) (reported P L c)
      (cond (is_sized P c) 21 20) 0
  -- Consensus gives the verdict of demand 3, of lists of rule numbers and of lists of calls.
  pub one_output : Consensus P → (c : List ℕ) → OneOutput P c (after P c)
  pub calls_one_output : Consensus P → (L : Layers) (c : List ℕ) → OneOutput P c (last_counts P L c)
  -- What a list reaches is potentially reachable through the meetings of each rule (Observation 4.8), so Strong Consensus
  -- is the stronger, and WS³ lies in WS².
  pub potentially : WellFormed P → (c rs : List ℕ) → length c ≡ P.states → Potential P (parikh P c rs) c (after P c rs)
  pub stronger : WellFormed P → StrongConsensus P → Consensus P
  pub layered_terminates : LayeredTermination P → Termination P
  pub ws³_in_ws² : WellFormed P → WS³ P → WS² P
  -- What a ladder that passes proves, and what a certificate proves.
  pub of_ladder : {L : Layers} {w : ℕ → ℕ → ℕ} → Laddered P L w → OfLadder P L w
  pub ws³ : Certified P → WS³ P
  pub ws² : Certified P → WS² P
  -- What a claim sheet says, and when it is accepted: where both its trees are. A refusal is the first tree's; or that one is
  -- accepted, and it is the second's, at its place numbered on from the first's nodes.
  pub sheet_is : (Z : Sheet) → SheetIs P Z
  pub sheet_accepted : (Z : Sheet) → SheetAccepted P Z ↔ ((first_walk P Z ≡ next Z.first.nodes) × (second_walk P Z ≡ next Z.second.nodes))
  pub sheet_refused : (Z : Sheet) (n k : ℕ) → (sheet_answer P Z ≡ refused n k)
      ↔ ((first_walk P Z ≡ refused n k)
      ⊎ ((first_walk P Z ≡ next Z.first.nodes) × ((j : ℕ) × (second_walk P Z ≡ refused n j) × (k ≡ Z.first.nodes + j))))
  -- What an accepted sheet proves, whatever the size; no ladder is needed. So it says what lists of rule numbers and lists of
  -- calls show that end terminal.
  pub decides_potentially : WellFormed P → (Z : Sheet) → SheetAccepted P Z → DecidesPotentially P Z
  pub decides : WellFormed P → (Z : Sheet) → SheetAccepted P Z → Decides P Z
  pub decides_lists : (Z : Sheet) → Decides P Z → (c : List ℕ) → DecidedBy P Z c (after P c)
  pub decides_calls : (Z : Sheet) → Decides P Z → (L : Layers) (c : List ℕ) → DecidedBy P Z c (last_counts P L c)
