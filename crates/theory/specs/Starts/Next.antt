-- The first start, and the next one after a start, as the code finds them.
use Rattle.std.specs.Prelude.{Bool, List, ℕ, ◌+◌, ◌-◌, set, ltb}
use Rattle.theory.specs.Below.Ends.{first_from, end_below, table}
use Rattle.theory.specs.Protocol.{Protocol, count}

module _ (P : Protocol) where
  -- The last input.
  unfoldable pub last_input : ℕ
  last_input = end_below P.states P.input - 1

  -- Whether state s has more than its fixed agents.
  abbrev pub has_spare : List ℕ → ℕ → Bool
  has_spare c s = ltb (P.fixed s) (count c s)

  -- One past the last state, before the last input, that has more than its fixed agents; 0 where there is none.
  unfoldable pub givers_end : List ℕ → ℕ
  givers_end c = end_below last_input (has_spare c)

  -- The first input from that place on.
  unfoldable pub taker : List ℕ → ℕ
  taker c = first_from (givers_end c) P.states P.input

  -- One agent goes on from the giver to the taker, and so do all that the last input has besides its fixed ones.
  unfoldable pub next_start : List ℕ → List ℕ
  next_start c =
      let l = last_input in
      let g = givers_end c - 1 in
      let t = taker c in
      set (set (set c l (P.fixed l)) g (count c g - 1)) t (P.fixed t + (count c l - P.fixed l) + 1)

  -- All n agents are in the first input.
  unfoldable pub first_start : ℕ → List ℕ
  first_start n = let i = first_from 0 P.states P.input in set (table P.states P.fixed) i (P.fixed i + n)
