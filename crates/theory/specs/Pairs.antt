-- How many pairs of agents could make a meeting (document 02, Job 6).
use Rattle.std.specs.Prelude.{◌≡◌, Bool, true, false, ◌&&◌, ◌||◌, List, ℕ, ◌-◌, ◌*◌, ◌/◌, eqb}
use Rattle.theory.specs.Bool.{bit}
use Rattle.theory.specs.Below.{sum_below}
use Rattle.theory.specs.Protocol.{Protocol, count}

-- The number of pairs of agents of c, one in state p and the other in state q. A pair is two different agents, in no order.
unfoldable pub pairs_between : List ℕ → ℕ → ℕ → ℕ
pairs_between c p q = elim (eqb p q) [ true ↦ (count c p * (count c p - 1)) / 2 | false ↦ count c p * count c q ]

-- The number of pairs of agents that could make the meeting of rule r. Rules with the same before pair have the same pairs.
abbrev pub pairs : Protocol → List ℕ → ℕ → ℕ
pairs P c r = pairs_between c (P.p r) (P.q r)

-- ---- The same number, pair by pair

-- n agents, of which agent i is in state a i, are the agents of c: each state has as many of them as c counts there.
abbrev pub Agents : List ℕ → ℕ → (ℕ → ℕ) → Type 0
Agents c n a = (s : ℕ) → sum_below n (λ i. bit (eqb (a i) s)) ≡ count c s

-- Whether, of an agent in state s and one in state t, one is in p and the other in q.
abbrev pub is_between : ℕ → ℕ → ℕ → ℕ → Bool
is_between p q s t = eqb s p && eqb t q || eqb s q && eqb t p

-- How many pairs of n agents, i and j with i < j, have one in p and the other in q.
unfoldable pub pairs_among : ℕ → (ℕ → ℕ) → ℕ → ℕ → ℕ
pairs_among n a p q = sum_below n (λ j. sum_below j (λ i. bit (is_between p q (a i) (a j))))

-- By how many rules an agent in state s and one in state t could meet.
unfoldable pub rules_between : Protocol → ℕ → ℕ → ℕ
rules_between P s t = sum_below P.rules (λ r. bit (is_between (P.p r) (P.q r) s t))
