-- Population protocols (Blondin, Esparza, Jaax and Meyer, PODC 2017, Section 2): document 01, "Meetings and standstill".
use Rattle.std.specs.Prelude.{◌≡◌, Bool, true, false, not, cond, ◌&&◌, List, [], ◌∷◌, ℕ, ◌+◌, ◌-◌, ◌≤◌, ◌<◌, length, get_or, set, ltb, eqb}
use Rattle.std.specs.Bool.{beq}
use Rattle.theory.specs.Bool.{imp, bit}
use Rattle.theory.specs.Below.{all_below, first_below}
use Rattle.theory.specs.Weigh.{weigh}

-- Rule r < rules takes one agent from each of p r, q r (document 01: the before pair) and puts one into each of p' r, q'
-- r (the after pair). A before pair may have several rules.
-- At every start there are fixed s agents in state s (document 02, Job 4), in an input state perhaps more. In a docket of
-- version 1 there are none.
pub record Protocol : Type 0 where
  pub states : ℕ
  pub rules : ℕ
  pub p : ℕ → ℕ
  pub q : ℕ → ℕ
  pub p' : ℕ → ℕ
  pub q' : ℕ → ℕ
  pub output : ℕ → Bool
  pub input : ℕ → Bool
  pub fixed : ℕ → ℕ

-- Some state is an input.
abbrev pub HasInput : Protocol → Type 0
HasInput P = (s : ℕ) × (s < P.states) × (P.input s ≡ true)

-- What tests 5 and 6 say of a protocol: every rule names states, its pairs are in order and differ, and some state is an
-- input. That rules differ from each other (test 7) is not needed.
pub record WellFormed (P : Protocol) : Type 0 where
  pub p_lt : (r : ℕ) → r < P.rules → P.p r < P.states
  pub q_lt : (r : ℕ) → r < P.rules → P.q r < P.states
  pub p'_lt : (r : ℕ) → r < P.rules → P.p' r < P.states
  pub q'_lt : (r : ℕ) → r < P.rules → P.q' r < P.states
  pub pre_ordered : (r : ℕ) → r < P.rules → P.p r ≤ P.q r
  pub post_ordered : (r : ℕ) → r < P.rules → P.p' r ≤ P.q' r
  pub pairs_differ : (r : ℕ) → r < P.rules → P.p r ≡ P.p' r → P.q r ≡ P.q' r → ⊥
  pub some_input : HasInput P

-- The output of a configuration (document 01: its verdict): one, 0 (false) or 1 (true), in all its occupied states; or both.
pub data Output : Type 0 where
  agreed : Bool → Output
  mixed : Output

-- A configuration (document 01: a group) is a list with a count of agents (workers) for each state.
abbrev pub count : List ℕ → ℕ → ℕ
count c s = get_or c s 0

-- The size of a configuration is the sum of its counts.
unfoldable pub size : List ℕ → ℕ
size c = weigh (λ _. 1) c

-- c with one agent of state s less.
unfoldable pub lose : List ℕ → ℕ → List ℕ
lose c s = set c s (count c s - 1)

-- c with one agent of state s more.
unfoldable pub gain : List ℕ → ℕ → List ℕ
gain c s = set c s (count c s + 1)

module _ (P : Protocol) where
  -- How many agents of state s rule r takes.
  abbrev pub pre : ℕ → ℕ → ℕ
  pre r s = bit (eqb (P.p r) s) + bit (eqb (P.q r) s)

  -- How many agents rule r puts into state s.
  abbrev pub post : ℕ → ℕ → ℕ
  post r s = bit (eqb (P.p' r) s) + bit (eqb (P.q' r) s)

  -- Whether rule r is enabled (document 01: can act): p and q each hold an agent, or, where p = q, at least two.
  unfoldable pub enabled : List ℕ → ℕ → Bool
  enabled c r = elim (eqb (P.p r) (P.q r)) [ true ↦ ltb 1 (count c (P.p r)) | false ↦ ltb 0 (count c (P.p r)) && ltb 0 (count c (P.q r)) ]

  -- The configuration after rule r has fired (document 01: acted).
  unfoldable pub fire : List ℕ → ℕ → List ℕ
  fire c r = gain (gain (lose (lose c (P.p r)) (P.q r)) (P.p' r)) (P.q' r)

  -- A terminal configuration (document 01: a standstill) enables no rule.
  unfoldable pub terminal : List ℕ → Bool
  terminal c = all_below P.rules (λ r. not (enabled c r))

  -- Every occupied state has output v (document 01: the verdict is v).
  abbrev pub Shows : Bool → List ℕ → Type 0
  Shows v c = (s : ℕ) → 0 < count c s → P.output s ≡ v

  -- Whether every occupied state has output v.
  unfoldable pub shows : Bool → List ℕ → Bool
  shows v c = all_below P.states (λ s. imp (ltb 0 (count c s)) (beq (P.output s) v))

  -- The output of a configuration, terminal or not. Where no state is occupied it is agreed false.
  unfoldable pub output_of : List ℕ → Output
  output_of c = cond (shows false c) (agreed false) (cond (shows true c) (agreed true) mixed)

  -- The start rule at state s: where it is no input just its fixed agents, where it is one at least these.
  pub record StartRule (c : List ℕ) (s : ℕ) : Type 0 where
    pub others : P.input s ≡ false → count c s ≡ P.fixed s
    pub inputs : P.input s ≡ true → P.fixed s ≤ count c s

  -- A start: two agents or more, and every state keeps the start rule.
  -- Fixed agents are added to the paper, which has none (in the literature they are called leaders). Where no state has fixed
  -- agents a start is the paper's initial configuration: two agents or more, in input states only (unfixed_rule, in proofs/Protocol/Laws).
  pub record Start (c : List ℕ) : Type 0 where
    pub sized : length c ≡ P.states
    pub enough : 2 ≤ size c
    pub rule : (s : ℕ) → s < P.states → StartRule c s

  -- Whether state s has fixed agents and is no input: then every start has just these there.
  abbrev pub only_fixed : ℕ → Bool
  only_fixed s = ltb 0 (P.fixed s) && not (P.input s)

  -- No state has fixed agents (in the field's words: the protocol is leaderless).
  abbrev pub Unfixed : Type 0
  Unfixed = (s : ℕ) → s < P.states → P.fixed s ≡ 0

  -- Whether the count of state s is against the start rule.
  unfoldable pub unfit : List ℕ → ℕ → Bool
  unfit c s = elim (P.input s) [ true ↦ ltb (count c s) (P.fixed s) | false ↦ not (eqb (count c s) (P.fixed s)) ]

  -- The start test: the lowest state whose count is against the start rule (the place of refusal 22), or `states` where
  -- there is none.
  unfoldable pub start_test : List ℕ → ℕ
  start_test c = first_below P.states (unfit c)

  -- Whether rule number r, tried on c, fires (document 01: makes its meeting).
  unfoldable pub fires : List ℕ → ℕ → Bool
  fires c r = ltb r P.rules && enabled c r

  -- Rule number r tried: a number that names no rule, or a rule that is not enabled, is refused and changes nothing.
  unfoldable pub tried : List ℕ → ℕ → List ℕ
  tried c r = elim (fires c r) [ true ↦ fire c r | false ↦ c ]

  -- The last configuration of a list of rule numbers, each tried on the configuration that the one before it leads to.
  unfoldable pub after : List ℕ → List ℕ → List ℕ
  after c [] = c
  after c (r ∷ rs) = after (tried c r) rs

  -- How many numbers of such a list fire (document 01: its meetings).
  unfoldable pub meetings : List ℕ → List ℕ → ℕ
  meetings c [] = 0
  meetings c (r ∷ rs) = bit (fires c r) + meetings (tried c r) rs

  -- Every number of the list is of the kind Q, which speaks of the configuration on which it is tried and of the number.
  abbrev pub EachTried : (List ℕ → ℕ → Type 0) → List ℕ → List ℕ → Type 0
  EachTried Q c [] = Unit {0}
  EachTried Q c (r ∷ rs) = Q c r × EachTried Q (tried c r) rs

  -- Every meeting of the list is of the kind Q.
  abbrev pub EachMeeting : (List ℕ → ℕ → Type 0) → List ℕ → List ℕ → Type 0
  EachMeeting Q c rs = EachTried (λ d r. fires d r ≡ true → Q d r) c rs
