-- What is claimed of protocols, ladders, certificates and lists. Statements only: Claims/Theorems.antt says which of them are
-- proved of which protocols, with what is claimed of claim sheets, and proofs/Claims/Proved.antt proves it.
use Rattle.std.specs.Prelude.{◌≡◌, Bool, true, false, not, ◌&&◌, List, [], ◌∷◌, ◌++◌, ◌↔◌, ℕ, suc, ◌+◌, ◌-◌, ◌*◌, ◌≤◌, ◌<◌, length, eqb}
use Rattle.theory.specs.Bool.{imp}
use Rattle.theory.specs.Protocol.{Protocol, agreed, mixed, count, size, pre, post, enabled, fire, terminal, Shows}
use Rattle.theory.specs.Protocol.{shows, output_of, StartRule, Start, Unfixed, fires}
use Rattle.theory.specs.Protocol.{after, meetings, EachTried, EachMeeting}
use Rattle.theory.specs.Ladder.{Layers, OrderedPartition, active, QuietBelow, lowest, layered, Alone, Laddered, spread, spreads, rank}
use Rattle.theory.specs.Tree.{Tree, next, takes, puts, is_trap, is_siphon, disagreement, tree_answer}
use Rattle.theory.specs.Potential.{Potential}
use Rattle.theory.specs.Machine.{Call, step, run, Reply, stepped, ran, refused, is_refused, admitted, Uses, run_numbers, numbers_of}
pub mod Theorems

-- A certificate of P: a ladder that passes (tests 6, 8, 9 and 10), and a tree that is accepted (tests 12 and 13).
-- leaf_weight l k s is the weight, plus 10,000, of state s at end k in leaf l.
-- That the weights of layers and leaves are within their limits (tests 8 and 11) is not needed.
pub record Certified (P : Protocol) : Type 0 where
  pub layers : Layers
  pub weight : ℕ → ℕ → ℕ
  pub ladder : Laddered P layers weight
  pub tree : Tree
  pub leaf_weight : ℕ → ℕ → ℕ → ℕ
  pub closed : tree_answer P (disagreement P leaf_weight) tree ≡ next tree.nodes

module _ (P : Protocol) where
  -- ---- The paper's definitions and properties

  -- d is reachable from c.
  abbrev pub Reaches : List ℕ → List ℕ → Type 0
  Reaches c d = (rs : List ℕ) × (after P c rs ≡ d)

  -- The definitions are the paper's (Section 2, Definition 4.7), at a configuration c.
  pub record AsPublished (c : List ℕ) : Type 0 where
    -- Rule r is enabled if c ≥ pre r.
    pub enabled_is : (r : ℕ) → r < P.rules → (enabled P c r ≡ true) ↔ ((s : ℕ) → pre P r s ≤ count c s)
    -- The occurrence of rule r leads to (c ⊖ pre r) + post r.
    pub fire_is : (r : ℕ) → r < P.rules → enabled P c r ≡ true → (s : ℕ) → count (fire P c r) s ≡ (count c s - pre P r s) + post P r s
    -- c is terminal if it reaches only itself.
    pub terminal_is : (terminal P c ≡ true) ↔ ((d : List ℕ) → Reaches c d → d ≡ c)
    -- c is a consensus configuration with output v if all its occupied states have that output; where it is none, there
    -- are two occupied states of different outputs.
    pub shows_is : (v : Bool) → (shows P v c ≡ true) ↔ Shows P v c
    pub output_is : 0 < size c → (v : Bool) → (output_of P c ≡ agreed v) ↔ Shows P v c
    pub mixed_is : (output_of P c ≡ mixed) ↔ ((s : ℕ) × (t : ℕ) × (0 < count c s) × (0 < count c t) × (P.output s ≡ false) × (P.output t ≡ true))
    -- Where no state has fixed agents, c is a start if it has two agents or more, in input states only.
    pub start_is : Unfixed P → Start P c ↔ ((2 ≤ size c) × ((s : ℕ) → s < P.states → P.input s ≡ false → count c s ≡ 0))
    -- A rule takes from a set if some state of the set is in its pre, and puts into it if one is in its post.
    pub takes_is : (A : ℕ → Bool) (r : ℕ) → (takes P A r ≡ true) ↔ ((s : ℕ) × (A s ≡ true) × (0 < pre P r s))
    pub puts_is : (A : ℕ → Bool) (r : ℕ) → (puts P A r ≡ true) ↔ ((s : ℕ) × (A s ≡ true) × (0 < post P r s))
    -- A is a U-trap if each rule of U, those not unused, that takes from A puts into it, and a U-siphon if each that puts
    -- takes.
    pub trap_is : (unused A : ℕ → Bool) → (is_trap P unused A ≡ true) ↔ ((r : ℕ) → r < P.rules → unused r ≡ false → takes P A r ≡ true → puts P A r ≡ true)
    pub siphon_is : (unused A : ℕ → Bool) → (is_siphon P unused A ≡ true) ↔ ((r : ℕ) → r < P.rules → unused r ≡ false → puts P A r ≡ true → takes P A r ≡ true)

  -- The words about layers are document 01's, at a configuration c; w k s is layer k's weight of state s.
  pub record LayersAre (L : Layers) (w : ℕ → ℕ → ℕ) (c : List ℕ) : Type 0 where
    -- A layer is active if one of its rules is enabled, and quiet if none is.
    pub active_is : (k : ℕ) → (active P L c k ≡ true) ↔ ((r : ℕ) × (r < P.rules) × (L.of r ≡ k) × (enabled P c r ≡ true))
    pub quiet_is : (k : ℕ) → (active P L c k ≡ false) ↔ ((r : ℕ) → r < P.rules → L.of r ≡ k → enabled P c r ≡ false)
    -- The lowest layer is the one that is active while none below it is; it is the number of layers just where c is terminal.
    pub lowest_is : (k : ℕ) → k < L.count → (lowest P L c ≡ k) ↔ ((active P L c k ≡ true) × QuietBelow P L k c)
    pub no_lowest : (lowest P L c ≡ L.count) ↔ (terminal P c ≡ true)
    -- A list is layered if just before each of its meetings every layer below that of its rule is quiet.
    pub layered_is : (rs : List ℕ) → (layered P L c rs ≡ true) ↔ EachMeeting P (λ d r. QuietBelow P L (L.of r) d) c rs
    -- A layer's spread is the difference of two of its weights, the greatest and the least.
    pub spread_is : (k : ℕ) → (s : ℕ) × (t : ℕ) × (s < P.states) × (t < P.states)
        × (spread P.states (w k) ≡ w k s - w k t) × ((u : ℕ) → u < P.states → (w k t ≤ w k u) × (w k u ≤ w k s))

  -- The layers L are an ordered partition of the rules with (a) and (b) of Definition 4.1.
  pub record LayeredBy (L : Layers) : Type 0 where
    pub partition : OrderedPartition P L
    -- (a) Every execution of layer i alone is silent: from one configuration it makes at most so many meetings, however
    -- it goes on.
    pub silent : (i : ℕ) (c : List ℕ) → length c ≡ P.states → (bound : ℕ) × ((rs : List ℕ) → Alone P L i c rs → meetings P c rs ≤ bound)
    -- (b) What is terminal for the layers below i is so after every execution of layer i alone.
    pub kept : (i : ℕ) (c rs : List ℕ) → length c ≡ P.states → Alone P L i c rs → QuietBelow P L i c → QuietBelow P L i (after P c rs)

  -- Layered Termination (Definition 4.1): there is such an ordered partition.
  abbrev pub LayeredTermination : Type 0
  LayeredTermination = (L : Layers) × LayeredBy L

  -- Termination (Section 4): every configuration reaches a terminal one.
  abbrev pub Termination : Type 0
  Termination = (c : List ℕ) → length c ≡ P.states → (d : List ℕ) × Reaches c d × (terminal P d ≡ true)

  -- Consensus (Section 4): for every start there is one output that every terminal configuration reachable from it shows.
  abbrev pub Consensus : Type 0
  Consensus = (c : List ℕ) → Start P c → (v : Bool) × ((d : List ℕ) → Reaches c d → terminal P d ≡ true → Shows P v d)

  -- d is potentially reachable from c (Definition 4.9).
  abbrev pub ReachesPotentially : List ℕ → List ℕ → Type 0
  ReachesPotentially c d = (x : ℕ → ℕ) × Potential P x c d

  -- Strong Consensus (Definition 4.11): for every start there is one output that every terminal configuration potentially
  -- reachable from it shows.
  abbrev pub StrongConsensus : Type 0
  StrongConsensus = (c : List ℕ) → Start P c → (v : Bool) × ((d : List ℕ) → ReachesPotentially c d → terminal P d ≡ true → Shows P v d)

  -- The class WS² of well-specified silent protocols, as Section 4 characterises it.
  pub record WS² : Type 0 where
    pub termination : Termination
    pub consensus : Consensus

  -- The class WS³ of well-specified strongly silent protocols (Section 4.3).
  pub record WS³ : Type 0 where
    pub layered_termination : LayeredTermination
    pub strong_consensus : StrongConsensus

  -- ---- Demand 3, of lists of things X tried in turn on c: rule numbers, or calls. last xs is the configuration after the list xs.

  -- What the ladder gives. met xs is the number of meetings, and isLayered xs says whether each was by a rule of the
  -- lowest layer that had an enabled rule just before it.
  pub record Rests (L : Layers) (w : ℕ → ℕ → ℕ) (c : List ℕ) {X : Type 0} (last : List X → List ℕ) (met : List X → ℕ) (isLayered : List X → Bool) : Type 0 where
    -- After every list there are as many agents as before.
    pub size_kept : (xs : List X) → size (last xs) ≡ size c
    -- A layer k once quiet together with all below it stays quiet through the rest of a layered list.
    pub quiet_stays : (k : ℕ) (xs ys : List X) → isLayered (xs ++ ys) ≡ true → QuietBelow P L (suc k) (last xs)
        → QuietBelow P L (suc k) (last (xs ++ ys))
    -- A layered list makes no more meetings than the rest bound, size times the sum of the spreads; one that makes as
    -- many ends terminal.
    pub rest_bound : (xs : List X) → isLayered xs ≡ true → met xs ≤ size c * spreads P L w
    pub rests : (xs : List X) → isLayered xs ≡ true → met xs ≡ size c * spreads P L w → terminal P (last xs) ≡ true
    -- Each meeting of a layered list takes at least 1 off the rank; a list that makes as many meetings as the rank of c
    -- ends terminal.
    pub rank_falls : (xs : List X) → isLayered xs ≡ true → rank P L w (last xs) + met xs ≤ rank P L w c
    pub rests_by_rank : (xs : List X) → isLayered xs ≡ true → met xs ≡ rank P L w c → terminal P (last xs) ≡ true

  -- What consensus gives: from counts that keep the start rule, whatever the size, any two lists, layered or not, that end
  -- terminal show one output.
  abbrev pub OneOutput : List ℕ → {X : Type 0} → (List X → List ℕ) → Type 0
  OneOutput c {X} last =
      length c ≡ P.states → ((s : ℕ) → s < P.states → StartRule P c s)
      → (xs ys : List X) → terminal P (last xs) ≡ true → terminal P (last ys) ≡ true → (v : Bool) × Shows P v (last xs) × Shows P v (last ys)

-- ---- Lists of calls: say d x is what call x says on counts d, last xs are the counts that the calls xs leave, from counts c,
-- and total xs is how many meetings they report

-- Every call is refused with number n and place k, and nothing changes.
pub record AllRefused (c : List ℕ) (say : List ℕ → Call → Reply) (last : List Call → List ℕ) (total : List Call → ℕ) (n k : ℕ) : Type 0 where
  pub says : (xs : List Call) (x : Call) → say (last xs) x ≡ refused n k
  pub unchanged : (xs : List Call) → last xs ≡ c
  pub no_meetings : (xs : List Call) → total xs ≡ 0

module _ (P : Protocol) (L : Layers) (c : List ℕ) (say : List ℕ → Call → Reply) (last : List Call → List ℕ) (total : List Call → ℕ) where
  -- The list of rule numbers that the calls make.
  abbrev made : List Call → List ℕ
  made = numbers_of P L c

  -- A run behind the calls xs.
  pub record RunMakes (xs : List Call) (limit : ℕ) : Type 0 where
    pub steps : ℕ
    pub rests : Bool
    pub says : say (last xs) (run limit) ≡ ran steps rests
    -- Each number that it uses is the lowest rule number of the lowest layer that has an enabled rule just before it.
    pub uses : EachTried P (Uses P L) (last xs) (run_numbers P L limit (last xs))
    -- The run's steps are its meetings, and it says rest just when it leaves a terminal configuration.
    pub are_meetings : meetings P c (made (xs ++ run limit ∷ [])) ≡ meetings P c (made xs) + steps
    pub at_rest : rests ≡ terminal P (last (xs ++ run limit ∷ []))
    -- The run stops short of its limit only at rest.
    pub limited : steps ≤ limit
    pub short : steps < limit → rests ≡ true

  -- From counts that pass 20 and 21, step and run calls in any order, refused ones included.
  pub record CallsMake : Type 0 where
    -- No calls make the empty list. A step adds its number, a run the numbers that it uses.
    pub none_add : made [] ≡ []
    pub step_adds : (xs : List Call) (r : ℕ) → made (xs ++ step r ∷ []) ≡ made xs ++ r ∷ []
    pub run_adds : (xs : List Call) (limit : ℕ) → made (xs ++ run limit ∷ []) ≡ made xs ++ run_numbers P L limit (last xs)
    -- The counts at the end are the list's last configuration, and its meetings are the steps not refused plus the totals
    -- that the runs return.
    pub counts : (xs : List Call) → last xs ≡ after P c (made xs)
    pub meetings_are : (xs : List Call) → total xs ≡ meetings P c (made xs)
    -- A step is refused just where the list refuses its number; a refused step changes nothing.
    pub step_refused : (xs : List Call) (r : ℕ) → is_refused (say (last xs) (step r)) ≡ not (fires P (after P c (made xs)) r)
    pub makes_meeting : (xs : List Call) (r : ℕ) → fires P (last xs) r ≡ true → say (last xs) (step r) ≡ stepped
    pub no_rule : (xs : List Call) (r : ℕ) → P.rules ≤ r → say (last xs) (step r) ≡ refused 23 r
    pub not_enabled : (xs : List Call) (r : ℕ) → r < P.rules → enabled P (last xs) r ≡ false → say (last xs) (step r) ≡ refused 24 r
    pub unchanged : (xs : List Call) (r : ℕ) → fires P (last xs) r ≡ false → last (xs ++ step r ∷ []) ≡ last xs
    pub run_makes : (xs : List Call) (limit : ℕ) → RunMakes xs limit
    -- A run keeps a list layered; a step keeps it so just where it is refused or by a rule of the lowest layer that has
    -- an enabled rule.
    pub run_layered : (xs : List Call) (limit : ℕ) → layered P L c (made (xs ++ run limit ∷ [])) ≡ layered P L c (made xs)
    pub step_layered : (xs : List Call) (r : ℕ)
        → layered P L c (made (xs ++ step r ∷ [])) ≡ (layered P L c (made xs) && imp (fires P (last xs) r) (eqb (L.of r) (lowest P L (last xs))))

-- What a ladder that passes adds to CallsMake.
pub record CallsRest (P : Protocol) (L : Layers) (w : ℕ → ℕ → ℕ) (c : List ℕ) (say : List ℕ → Call → Reply) (last : List Call → List ℕ)
    (total : List Call → ℕ) : Type 0 where
  -- All of Rests, in the calls' own counts and totals.
  pub rests : Rests P L w c last total (λ xs. layered P L c (numbers_of P L c xs))
  -- Quiet layers stay quiet at every place of the list that the calls make, in the middle of a run too.
  pub quiet_within : (xs : List Call) (k : ℕ) (us vs ws : List ℕ) → numbers_of P L c xs ≡ (us ++ vs) ++ ws → layered P L c (numbers_of P L c xs) ≡ true
      → QuietBelow P L (suc k) (after P c us) → QuietBelow P L (suc k) (after P c (us ++ vs))
  -- On counts that pass, a run with a limit of the rest bound, or more, rests.
  pub enough : admitted P c ≡ true → (xs : List Call) (limit : ℕ) → size c * spreads P L w ≤ limit → (n : ℕ) × (say (last xs) (run limit) ≡ ran n true)

module _ (P : Protocol) where
  -- The rank of c (Job 13: the figure) is 0 just at rest, and never exceeds the rest bound.
  pub record Rank (L : Layers) (w : ℕ → ℕ → ℕ) (c : List ℕ) : Type 0 where
    pub zero_at_rest : (rank P L w c ≡ 0) ↔ (terminal P c ≡ true)
    pub bound : rank P L w c ≤ size c * spreads P L w
