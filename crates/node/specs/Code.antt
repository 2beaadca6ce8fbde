-- What a tree refutes, and what one node of it comes to (document 01, "The tree"), over the sections and words that the
-- code has.
use Rattle.std.specs.Prelude.{◌≡◌, Bool, true, false, not, cond, ◌&&◌, List, [], ◌∷◌, ℕ, ◌^◌, ◌≤◌, ◌<◌, leb, ltb, eqb, Result, Ok, Err}
use Rattle.std.specs.Bool.{beq}
use Rattle.theory.specs.Bool.{member, imp}
use Rattle.theory.specs.Below.{all_below}
use Rattle.theory.specs.Protocol.{Protocol}
use Rattle.theory.specs.Facts.{Facts, with_absent, with_at_most_one, with_unused}
use Rattle.theory.specs.Tree as theory
use Rattle.theory.specs.Tree.{Assumption, refusal_number, ground, children, takes, puts, touches, within, is_trap, is_siphon, node}
use Rattle.refusals.specs.Code.{number_of}
use Rattle.refusals.specs.declared.Fault.{Fault}
use Rattle.refusals.specs.declared.Fault.TheVariants.{Fields, Ground}
use Rattle.bits.specs.Code.{among_of, without_of, in_words, in_word}
use Rattle.format.specs.Format.{is_output, rule_p, rule_q, node_kind, node_party, node_argument, node_set}
use Rattle.format.specs.Format.{protocol_of, tree_of}
use Rattle.format.specs.declared.Sizes.{Sizes}
use Rattle.facts.specs.Code.{facts_of, is_end, only_if}
use Rattle.threshold.specs.Code.{closes_for, moduli_for, closes_modulo_for}
use Rattle.threshold.specs.declared.Leaves.{Leaves}
use Rattle.node.specs.declared.Aim.{Aim}
use Rattle.node.specs.declared.Children.{Children}
use Rattle.node.specs.declared.Children.TheVariants.{None, One, Two}
use Rattle.node.specs.declared.Flow.{Flow}
use Rattle.node.specs.declared.Kind.{Kind}
use Rattle.node.specs.declared.Kind.TheVariants.{Leaf, Output, Contradiction, Disabled, Split, Trap, Siphon, Remainder}
use Rattle.node.specs.declared.Node.{Node}
pub mod Laws

-- ---- What a tree refutes

-- The output that the aim assumes for end k.
abbrev pub output_at : Aim → ℕ → Bool
output_at a k = cond (eqb k 2) a.second a.first

-- The word of the states of that output.
abbrev pub assumed_word : Aim → ℕ → ℕ
assumed_word a k = cond (output_at a k) a.ones a.zeros

-- What the aim assumes, of a tree with these leaves; the numbers are those of a claim sheet.
abbrev pub assumption_of : Protocol → Sizes → List ℕ → List ℕ → Aim → Assumption
assumption_of P z numbers leaves a =
    record {
      runs = a.runs;
      assumed = output_at a;
      closes = closes_for P z numbers leaves a.whose;
      moduli = moduli_for a.whose;
      closes_modulo = closes_modulo_for P z leaves a.whose;
    }

-- The aim speaks of at most two runs, and its words hold the states of each output.
pub record AimFits (z : Sizes) (states : List ℕ) (a : Aim) : Type 0 where
  pub runs_most : a.runs ≤ 2
  pub zeros : member a.zeros ≡ among_of z.states (λ s. not (is_output z states s))
  pub ones : member a.ones ≡ among_of z.states (is_output z states)

-- ---- The fields of a node

-- The number of a kind.
abbrev pub number_of_kind : Kind → ℕ
number_of_kind Leaf = 0
number_of_kind Output = 1
number_of_kind Contradiction = 2
number_of_kind Disabled = 3
number_of_kind Split = 4
number_of_kind Trap = 5
number_of_kind Siphon = 6
number_of_kind Remainder = 7

-- The kind of this number; another number is a bad field.
abbrev pub kind_of : ℕ → Result Kind Fault
kind_of n =
    cond (eqb n 0) (Ok Leaf) (
    cond (eqb n 1) (Ok Output) (
    cond (eqb n 2) (Ok Contradiction) (
    cond (eqb n 3) (Ok Disabled) (
    cond (eqb n 4) (Ok Split) (
    cond (eqb n 5) (Ok Trap) (
    cond (eqb n 6) (Ok Siphon) (
    cond (eqb n 7) (Ok Remainder) (
    Err Fields))))))))

-- The fields of node i, where its kind is k.
abbrev pub node_with : List ℕ → ℕ → Result Kind Fault → Result Node Fault
node_with nodes i (Ok k) = Ok (record { kind = k; party = node_party nodes i; argument = node_argument nodes i; set = node_set nodes i })
node_with nodes i (Err f) = Err f

-- The fields of node i.
abbrev pub node_of : List ℕ → ℕ → Result Node Fault
node_of nodes i = node_with nodes i (kind_of (node_kind nodes i))

-- ---- Rules and a set, in words of 64 rules

-- The rules of P that pass f.
unfoldable pub rules_in : Protocol → (ℕ → Bool) → ℕ → Bool
rules_in P f r = ltb r P.rules && f r

-- The words of f have, of the 64 rules from 64 q on, those that take from the set A and those that put into it.
pub record FlowAt (P : Protocol) (A : ℕ → Bool) (q : ℕ) (f : Flow) : Type 0 where
  pub taking : member f.taking ≡ in_word q (rules_in P (takes P A))
  pub putting : member f.putting ≡ in_word q (rules_in P (puts P A))

-- The rules that take from a set and put nothing into it; with reversed, those that put into it and take nothing from it.
abbrev pub breaking_of : Bool → Flow → ℕ → Bool
breaking_of reversed f = cond reversed (without_of f.putting f.taking) (without_of f.taking f.putting)

-- Whether the set A is a trap of the rules that are not unused; with reversed, of the reversed rules, that is, a siphon.
unfoldable pub is_trap_of : Bool → Protocol → (ℕ → Bool) → (ℕ → Bool) → Bool
is_trap_of reversed P unused A = cond reversed (is_siphon P unused A) (is_trap P unused A)

-- ---- What a node comes to

-- A refusal's number, or the facts of the children.
pub data Turn : Type 0 where
  refuse : ℕ → Turn
  proceed : List Facts → Turn

-- Where the test fails, the refusal with number n; else t.
abbrev pub check : Bool → ℕ → Turn → Turn
check true n t = t
check false n t = refuse n

-- What a node comes to: bad fields are 12, a ground that does not hold is 13.
abbrev pub judged : Bool → Bool → List Facts → Turn
judged fields ground Fs = check fields 12 (check ground 13 (proceed Fs))

-- What node n comes to on the facts F, in the terms of theory.
unfoldable pub node_turn : Protocol → Assumption → Facts → theory.Node → Turn
node_turn P H F n = check (ground P H F n) (refusal_number n) (proceed (children P F n))

-- What node i of the sections comes to.
unfoldable pub turn_at : Sizes → List ℕ → List ℕ → List ℕ → List ℕ → List ℕ → Aim → Facts → ℕ → Turn
turn_at z states rules nodes numbers leaves aim F i =
    let P = protocol_of z states rules in
    let H = assumption_of P z numbers leaves aim in
    node_turn P H F (node P H (tree_of z nodes) i)

-- Fields are tested before the ground.
abbrev pub tested : Bool → Bool → Result (Unit {0}) Fault
tested fields ground = cond fields (cond ground (Ok tt) (Err Ground)) (Err Fields)

-- The facts of the children, and what an answer of the code says.
abbrev pub facts_in : Children → List Facts
facts_in None = []
facts_in (One F) = facts_of F ∷ []
facts_in (Two F G) = facts_of F ∷ facts_of G ∷ []

abbrev pub turn_of_step : Result Children Fault → Turn
turn_of_step (Ok c) = proceed (facts_in c)
turn_of_step (Err f) = refuse (number_of f)

-- ---- Fields, grounds and children, by kind; there are so many runs

-- Kind 0: the argument is a leaf.
abbrev pub leaf_fields : Sizes → Node → Bool
leaf_fields z n = eqb n.party 0 && ltb n.argument z.leaves && eqb n.set 0

-- Kind 1: a run.
abbrev pub run_fields : ℕ → Node → Bool
run_fields runs n = leb 1 n.party && leb n.party runs && eqb n.argument 0 && eqb n.set 0

-- Kinds 2 and 4: a party, and the argument is a state.
abbrev pub state_fields : Sizes → ℕ → Node → Bool
state_fields z runs n = leb n.party runs && ltb n.argument z.states && eqb n.set 0

-- Kind 3: a run, and the argument is a rule.
abbrev pub rule_fields : Sizes → ℕ → Node → Bool
rule_fields z runs n = leb 1 n.party && leb n.party runs && ltb n.argument z.rules && eqb n.set 0

-- Kinds 5 and 6: a run, and a non-empty set of states.
abbrev pub set_fields : Sizes → ℕ → Node → Bool
set_fields z runs n =
    leb 1 n.party && leb n.party runs && eqb n.argument 0 && (ltb 0 n.set && ltb n.set (2 ^ z.states))

-- Kind 7: the argument is a leaf, the set a modulus.
abbrev pub remainder_fields : Sizes → Leaves → Node → Bool
remainder_fields z whose n = eqb n.party 0 && ltb n.argument z.leaves && moduli_for whose n.set

-- Kind 1: all states of the output assumed for end k are absent there.
unfoldable pub output_gone : Sizes → List ℕ → Aim → Facts → ℕ → Bool
output_gone z states a F k = all_below z.states (λ s. imp (beq (is_output z states s) (output_at a k)) (F.absent k s))

-- Kind 3: t says whether the fields are good; then they name a run, and a rule whose before pair is below 64.
pub record NamesRule (z : Sizes) (rules : List ℕ) (runs : ℕ) (n : Node) (t : Bool) : Type 0 where
  pub is : t ≡ rule_fields z runs n
  pub party_least : t ≡ true → 1 ≤ n.party
  pub party_lt : t ≡ true → n.party < 3
  pub p_lt : t ≡ true → rule_p rules n.argument < 64
  pub q_lt : t ≡ true → rule_q rules n.argument < 64

-- Kind 3: the facts of the children where a rule with the before pair p, q is not enabled at end k.
unfoldable pub disabled_children : Facts → ℕ → ℕ → ℕ → List Facts
disabled_children F k p q =
    elim (eqb p q) [
      | true ↦ with_at_most_one F k (eqb p) ∷ []
      | false ↦ with_absent F k (eqb p) ∷ with_absent F k (eqb q) ∷ []
    ]

-- Kinds 5 and 6: t says whether the fields are good; then they name a run, and a set of states, which a word holds.
pub record NamesSet (z : Sizes) (runs : ℕ) (n : Node) (t : Bool) : Type 0 where
  pub is : t ≡ set_fields z runs n
  pub party_least : t ≡ true → 1 ≤ n.party
  pub party_lt : t ≡ true → n.party < 3
  pub set_lt : t ≡ true → n.set < 2 ^ z.states
  pub states_most : z.states ≤ 64

-- The party k where the test passed, otherwise the start.
abbrev pub party_if : Bool → ℕ → ℕ
party_if t k = cond t k 0

-- Kinds 5 and 6: a trap is absent at its end, a siphon (reversed) at the start.
unfoldable pub set_ground : Bool → Protocol → Facts → Node → Bool
set_ground reversed P F n =
    within P (member n.set) (F.absent (party_if (not reversed) n.party)) && is_trap_of reversed P (F.unused n.party) (member n.set)

-- Kinds 5 and 6: then the trap is absent at the start, a siphon at its end, and the rules that touch it are unused in
-- the run.
unfoldable pub set_child : Bool → Protocol → Facts → Node → Facts
set_child reversed P F n =
    with_unused (with_absent F (party_if reversed n.party) (member n.set)) n.party (touches P (member n.set))

-- The facts F, and that the set in the word w is absent at party k and the rules in the words ws are unused in run j.
unfoldable pub gone_of : Facts → ℕ → ℕ → ℕ → List ℕ → Facts
gone_of F k w j ws = with_unused (with_absent F k (only_if (ltb k 3) (member w))) j (only_if (is_end j) (in_words ws))
