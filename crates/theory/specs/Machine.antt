-- The machine's step and run calls on the counts of one configuration, and lists of them (document 01, "What a call says"
-- and "Demand 3 over lists").
use Rattle.std.specs.Prelude.{◌≡◌, Bool, true, false, cond, ◌&&◌, List, [], ◌∷◌, ◌++◌, ℕ, zero, suc, ◌*◌, ◌<◌, length, leb, ltb, eqb}
use Rattle.theory.specs.Below.{first_below}
use Rattle.theory.specs.Protocol.{Protocol, size, enabled, fire, terminal, fires, after}
use Rattle.theory.specs.Ladder.{Layers, enabled_in, QuietBelow, lowest, spreads}
pub mod Lists

-- A step names a rule number, a run its limit.
pub data Call : Type 0 where
  step : ℕ → Call
  run : ℕ → Call

-- What a call says: stepped, the step makes its meeting; ran, the run's steps and whether it rests; refused, the number
-- and the place.
pub data Reply : Type 0 where
  stepped : Reply
  ran : ℕ → Bool → Reply
  refused : ℕ → ℕ → Reply

-- Whether a reply is a refusal.
unfoldable pub is_refused : Reply → Bool
is_refused stepped = false
is_refused (ran n rests) = false
is_refused (refused n place) = true

-- The meetings that a reply reports: 1 for a step that is not refused, a run's steps, none for a refusal.
unfoldable pub meetings_of : Reply → ℕ
meetings_of stepped = 1
meetings_of (ran n rests) = n
meetings_of (refused n place) = 0

-- Whether the size is 2 to 1,000,000 (else refusal 21).
unfoldable pub is_within : List ℕ → Bool
is_within c = leb 2 (size c) && leb (size c) 1000000

module _ (P : Protocol) where
  -- Whether there is a count for each state (else refusal 20).
  unfoldable pub is_sized : List ℕ → Bool
  is_sized c = eqb (length c) P.states

  -- Whether counts pass 20 and 21.
  unfoldable pub admitted : List ℕ → Bool
  admitted c = is_sized c && is_within c

  -- x where the counts c pass 20 and 21, and refuse n where they are refused by n; 20 comes before 21.
  unfoldable pub admit : {A : Type 0} → List ℕ → (ℕ → A) → A → A
  admit c refuse x = cond (is_sized c) (cond (is_within c) x (refuse 21)) (refuse 20)

  -- What a step says of counts that pass: 23 where its number names no rule, 24 where the rule is not enabled. The place
  -- of both is the number given.
  unfoldable pub step_reply : List ℕ → ℕ → Reply
  step_reply c r = cond (ltb r P.rules) (cond (enabled P c r) stepped (refused 24 r)) (refused 23 r)

module _ (P : Protocol) (L : Layers) where
  -- The rule that a run uses at c, where c is not terminal: the lowest rule number of the lowest layer that has an
  -- enabled rule.
  unfoldable pub chosen : List ℕ → ℕ
  chosen c = first_below P.rules (enabled_in P L c (lowest P L c))

  -- Rule r is the one that a run uses at c, in document 01's words: it is enabled, no lower layer has an enabled rule, and no
  -- lower number of its layer is enabled.
  pub record Uses (c : List ℕ) (r : ℕ) : Type 0 where
    pub fires_there : fires P c r ≡ true
    pub lowest_layer : QuietBelow P L (L.of r) c
    pub lowest_number : (k : ℕ) → k < r → L.of k ≡ L.of r → enabled P c k ≡ false

  -- The rule numbers that a run uses from c: it stops at its limit, or before it where c is terminal.
  unfoldable pub run_numbers : ℕ → List ℕ → List ℕ
  run_numbers zero c = []
  run_numbers (suc limit) c = elim (terminal P c) [ true ↦ [] | false ↦ chosen c ∷ run_numbers limit (fire P c (chosen c)) ]

  -- What a run says of counts that pass.
  unfoldable pub run_reply : List ℕ → ℕ → Reply
  run_reply c limit = ran (length (run_numbers limit c)) (terminal P (after P c (run_numbers limit c)))

  -- What a call says.
  unfoldable pub reply : List ℕ → Call → Reply
  reply c (step r) = admit P c (λ n. refused n 0) (step_reply P c r)
  reply c (run limit) = admit P c (λ n. refused n 0) (run_reply c limit)

  -- The rule numbers that a call tries: none on counts that do not pass.
  unfoldable pub adds : List ℕ → Call → List ℕ
  adds c (step r) = cond (admitted P c) (r ∷ []) []
  adds c (run limit) = cond (admitted P c) (run_numbers limit c) []

  -- The counts that a call leaves.
  unfoldable pub counts_after : List ℕ → Call → List ℕ
  counts_after c x = after P c (adds c x)

  -- The list of rule numbers that the calls make.
  unfoldable pub numbers_of : List ℕ → List Call → List ℕ
  numbers_of c [] = []
  numbers_of c (x ∷ xs) = adds c x ++ numbers_of (counts_after c x) xs

module _ (P : Protocol) (L : Layers) (w : ℕ → ℕ → ℕ) where
  -- The rule numbers that runs use from c until they rest (document 02, Job 9): those of a run whose limit is the rest bound. Where the
  -- ladder passes they lead to rest (rest-terminal, in Rest).
  unfoldable pub rest_numbers : List ℕ → List ℕ
  rest_numbers c = run_numbers P L (size c * spreads P L w) c

  -- The configuration that they lead to.
  unfoldable pub rest_of : List ℕ → List ℕ
  rest_of c = after P c (rest_numbers c)
