-- The first start is the first member of the list of starts, and the next start the next one: no start is between. Assumes nothing.
use Rattle.std.specs.Prelude.{◌≡◌, true, false, List, ℕ, ◌+◌, ◌-◌, ◌*◌, ◌≤◌, ◌<◌, set}
use Rattle.std.proofs.Math.Path.{sym, ap}
use Rattle.std.proofs.Common.{◌∙◌, subst}
use Rattle.std.proofs.Math.Logic.{by_cases}
use Rattle.std.proofs.Math.Decide.{dec_lt, ℕ_discrete}
use native.Mathlib.Omega.{arith}
use borrow.Author.Tests.{ltb-true, ltb-false}
use Rattle.std.proofs.Math.ListN.{length, length-set}
use Rattle.std.proofs.Math.Seq.{get_or-set_same, get_or-set_other}
use Rattle.theory.proofs.Bool.Laws.{not_both}
use Rattle.theory.specs.Order.{lex_less}
use Rattle.theory.proofs.Order.Laws.{LessAt, less_place, place_less}
use Rattle.theory.specs.Below.Ends.{first_from, end_below, table}
use Rattle.theory.proofs.Below.Laws.{from_ge, from_passes, from_min, end_le, end-passes, end_clear, sum_same, length-table, get_or-table}
use Rattle.theory.proofs.Weigh.Laws.{weigh_set, weigh_less, weigh-table}
use Rattle.theory.specs.Protocol.{Protocol, HasInput, count, size, StartRule}
use Rattle.theory.proofs.Protocol.Laws.{rule_bare, rule_input, rule_fixed, rule_spare}
use Rattle.theory.specs.Starts.{fixed_total}
use Rattle.theory.proofs.Starts.Laws.{StartWith}
use Rattle.theory.specs.Starts.Next.{last_input, has_spare, givers_end, taker, next_start, first_start}

module _ (P : Protocol) where
  -- Above the last input there is no input.
  last_clear : (s : ℕ) → last_input P < s → s < P.states → P.input s ≡ false
  unfolding last_input
  last_clear s h l = end_clear P.states P.input s (omega arith) l

  module _ (has : HasInput P) where
    pub some_end : 0 < end_below P.states P.input
    some_end =
        by_cases (dec_lt 0 (end_below P.states P.input)) (λ l. l)
        (λ g. absurd (not_both has.2 (end_clear P.states P.input has.0 (omega arith) has.1)))

    pub last_lt : last_input P < P.states
    unfolding last_input
    last_lt = omega (arith, some_end, end_le P.states P.input)

    pub last_input_lem : P.input (last_input P) ≡ true
    unfolding last_input
    last_input_lem = end-passes P.states P.input (end_below P.states P.input - 1) (omega (arith, some_end))

  module _ (n : ℕ) where
    -- Two starts with as many agents, and e has more at place k, the first in which they differ. Then d has more than its fixed
    -- agents at a later one.
    no_excess : (d e : List ℕ) → StartWith P n d → StartWith P n e → (k : ℕ) → LessAt d e k
        → ((s : ℕ) → k < s → s < P.states → count d s ≡ P.fixed s) → ⊥
    unfolding size
    no_excess d e sd se k p bare =
        let long : length d ≡ P.states = sd.sized in
        omega (
          arith,
          sd.agents,
          se.agents,
          weigh_less (λ _. 1) d e (sd.sized ∙ sym se.sized) (λ s l. omega (arith, up s (omega arith))) k p.inside (omega (arith, p.less)),
        )
      where
        up : (s : ℕ) → s < P.states → count d s ≤ count e s
        up s l =
            by_cases (dec_lt s k)
            (λ m. omega (arith, p.same s m))
            (λ g.
            by_cases (dec_lt k s)
            (λ m. omega (arith, bare s m l, rule_fixed P e s (se.rule s l)))
            (λ h. let q : s ≡ k = omega arith in omega (arith, p.less, ap (count d) q, ap (count e) q)))

    -- The first place in which they differ is an input.
    pub excess_input : (d e : List ℕ) → StartWith P n d → StartWith P n e → (k : ℕ) → LessAt d e k → P.input k ≡ true
    excess_input d e sd se k p =
        let l : k < P.states = omega (arith, p.inside, sd.sized) in
        rule_spare P e k (se.rule k l) (omega (arith, p.less, rule_fixed P d k (sd.rule k l)))

  module _ (has : HasInput P) (n : ℕ) where
    -- ---- The first start

    abbrev first_input : ℕ
    first_input = first_from 0 P.states P.input

    pub first_lt : first_input < P.states
    first_lt = omega (arith, has.1, from_min 0 P.states P.input has.0 (omega arith) has.2)

    -- Just the fixed agents.
    abbrev bare : List ℕ
    bare = table P.states P.fixed

    first-inside : first_input < length bare
    first-inside = omega (arith, first_lt, length-table P.states P.fixed)

    first_sized : length (first_start P n) ≡ P.states
    unfolding first_start
    first_sized = length-set bare first_input _ ∙ length-table P.states P.fixed

    first-all : count (first_start P n) first_input ≡ P.fixed first_input + n
    unfolding first_start
    first-all = get_or-set_same bare first_input _ 0 first-inside

    first-bare : (s : ℕ) → s < P.states → (s ≡ first_input → ⊥) → count (first_start P n) s ≡ P.fixed s
    unfolding first_start
    first-bare s l other = get_or-set_other bare first_input s _ 0 other ∙ get_or-table P.states P.fixed s l

    first-agents : size (first_start P n) ≡ n + fixed_total P
    unfolding first_start size fixed_total
    first-agents =
        omega (
          arith,
          weigh_set (λ _. 1) bare first_input (P.fixed first_input + n) first-inside,
          get_or-table P.states P.fixed first_input first_lt,
          weigh-table (λ _. 1) P.fixed P.states,
          sum_same P.states (λ i. 1 * P.fixed i) P.fixed (λ i l. omega arith),
        )

    first_rule : (s : ℕ) → s < P.states → StartRule P (first_start P n) s
    first_rule s l =
        by_cases (ℕ_discrete s first_input)
        (λ e.
        subst (StartRule P (first_start P n)) (sym e)
        (rule_input P (first_start P n) first_input (from_passes 0 P.states P.input first_lt) (omega (arith, first-all))))
        (λ o. rule_bare P (first_start P n) s (first-bare s l o))

    pub first_is : StartWith P n (first_start P n) × ((e : List ℕ) → StartWith P n e → lex_less (first_start P n) e ≡ true → ⊥)
    first_is = (start, none)
      where
        start : StartWith P n (first_start P n)
        start = record { sized = first_sized; agents = first-agents; rule = first_rule }

        none : (e : List ℕ) → StartWith P n e → lex_less (first_start P n) e ≡ true → ⊥
        none e se h =
            let p = less_place (first_start P n) e (first_sized ∙ sym se.sized) h in
            let i = from_min 0 P.states P.input p.0 (omega arith) (excess_input n (first_start P n) e start se p.0 p.1) in
            no_excess n (first_start P n) e start se p.0 p.1 (λ s m l. first-bare s l (λ o. omega arith))

    -- ---- The next one

    module _ (c : List ℕ) (start : StartWith P n c) where
      -- From the end of the givers up to the last input every state has just its fixed agents.
      no_spare : (s : ℕ) → givers_end P c ≤ s → s < last_input P → count c s ≡ P.fixed s
      unfolding givers_end
      no_spare s h l =
          omega (
            arith,
            ltb-false (P.fixed s) (count c s) (end_clear (last_input P) (has_spare P c) s h l),
            rule_fixed P c s (start.rule s (omega (arith, last_lt has))),
          )

      -- A start before c differs from it first at an earlier state.
      none_past : (e : List ℕ) → StartWith P n e → (k : ℕ) → LessAt e c k → givers_end P c ≤ k → ⊥
      none_past e se k p h =
          let l : k < P.states = omega (arith, p.inside, se.sized) in
          by_cases (dec_lt k (last_input P))
          (λ m. omega (arith, p.less, no_spare k h m, rule_fixed P e k (se.rule k l)))
          (λ g. no_excess n e c se start k p (λ s m j. (se.rule s j).others (last_clear s (omega arith) j)))

      module _ (some : 0 < givers_end P c) where
        -- The giver is before the last input and has a spare agent; the taker is the first input behind it.
        abbrev giver : ℕ
        giver = givers_end P c - 1

        giver_lt : giver < last_input P
        unfolding givers_end
        giver_lt = omega (arith, end_le (last_input P) (has_spare P c))

        giver_in : giver < P.states
        giver_in = omega (arith, giver_lt, last_lt has)

        giver-spare : P.fixed giver < count c giver
        unfolding givers_end
        giver-spare = ltb-true _ _ (end-passes (last_input P) (has_spare P c) giver (omega arith))

        taker_gt : giver < taker P c
        unfolding taker
        taker_gt = omega (arith, from_ge (givers_end P c) P.states P.input)

        taker_min : (s : ℕ) → giver < s → P.input s ≡ true → taker P c ≤ s
        unfolding taker
        taker_min s h e = from_min (givers_end P c) P.states P.input s (omega arith) e

        taker_le : taker P c ≤ last_input P
        taker_le = taker_min (last_input P) giver_lt (last_input_lem has)

        taker_lt : taker P c < P.states
        taker_lt = omega (arith, taker_le, last_lt has)

        taker_input : P.input (taker P c) ≡ true
        unfolding taker
        taker_input = from_passes (givers_end P c) P.states P.input taker_lt

        -- c without the last input's spare agents, and then without one of the giver's.
        abbrev emptied : List ℕ
        emptied = set c (last_input P) (P.fixed (last_input P))

        abbrev lowered : List ℕ
        lowered = set emptied giver (count c giver - 1)

        length-emptied : length emptied ≡ P.states
        length-emptied = length-set c (last_input P) _ ∙ start.sized

        length-lowered : length lowered ≡ P.states
        length-lowered = length-set emptied giver _ ∙ length-emptied

        -- Up to the giver the counts are as they were,
        emptied-kept : (s : ℕ) → s ≤ giver → count emptied s ≡ count c s
        emptied-kept s h = get_or-set_other c (last_input P) s _ 0 (λ e. omega (arith, giver_lt))

        -- and beyond it there are just the fixed agents.
        lowered-bare : (s : ℕ) → giver < s → s < P.states → count lowered s ≡ P.fixed s
        lowered-bare s h l =
            get_or-set_other emptied giver s _ 0 (λ e. omega arith)
            ∙ by_cases (ℕ_discrete s (last_input P))
            (λ e. ap (count emptied) e ∙ get_or-set_same c (last_input P) _ 0 (omega (arith, start.sized, last_lt has)) ∙ ap P.fixed (sym e))
            (λ o.
            get_or-set_other c (last_input P) s _ 0 o
            ∙ by_cases (dec_lt s (last_input P))
            (no_spare s (omega arith))
            (λ g. (start.rule s l).others (last_clear s (omega arith) l)))

        -- The counts and the size of the next start.
        next_sized : length (next_start P c) ≡ P.states
        unfolding next_start
        next_sized = length-set lowered (taker P c) _ ∙ length-lowered

        next_kept : (s : ℕ) → s < giver → count (next_start P c) s ≡ count c s
        unfolding next_start
        next_kept s h =
            get_or-set_other lowered (taker P c) s _ 0 (λ e. omega (arith, taker_gt))
            ∙ get_or-set_other emptied giver s _ 0 (λ e. omega arith)
            ∙ emptied-kept s (omega arith)

        next_gave : count (next_start P c) giver ≡ count c giver - 1
        unfolding next_start
        next_gave =
            get_or-set_other lowered (taker P c) giver _ 0 (λ e. omega (arith, taker_gt))
            ∙ get_or-set_same emptied giver _ 0 (omega (arith, length-emptied, giver_in))

        -- Up to the giver at most one agent is missing.
        next_near : (s : ℕ) → s ≤ giver → count c s ≤ count (next_start P c) s + 1
        next_near s h =
            by_cases (dec_lt s giver)
            (λ l. omega (arith, next_kept s l))
            (λ g. let o : s ≡ giver = omega arith in omega (arith, next_gave, ap (count c) o, ap (count (next_start P c)) o))

        next_took : count (next_start P c) (taker P c) ≡ P.fixed (taker P c) + (count c (last_input P) - P.fixed (last_input P)) + 1
        unfolding next_start
        next_took = get_or-set_same lowered (taker P c) _ 0 (omega (arith, length-lowered, taker_lt))

        next_bare : (s : ℕ) → giver < s → s < P.states → (s ≡ taker P c → ⊥) → count (next_start P c) s ≡ P.fixed s
        unfolding next_start
        next_bare s h l other = get_or-set_other lowered (taker P c) s _ 0 other ∙ lowered-bare s h l

        next_agents : size (next_start P c) ≡ size c
        unfolding next_start size
        next_agents =
            omega (
              arith,
              weigh_set (λ _. 1) c (last_input P) (P.fixed (last_input P)) (omega (arith, start.sized, last_lt has)),
              rule_fixed P c (last_input P) (start.rule (last_input P) (last_lt has)),
              weigh_set (λ _. 1) emptied giver (count c giver - 1) (omega (arith, length-emptied, giver_in)),
              emptied-kept giver (omega arith),
              giver-spare,
              weigh_set (λ _. 1) lowered (taker P c) (P.fixed (taker P c) + (count c (last_input P) - P.fixed (last_input P)) + 1)
                  (omega (arith, length-lowered, taker_lt)),
              lowered-bare (taker P c) taker_gt taker_lt,
            )

        next_rule : (s : ℕ) → s < P.states → StartRule P (next_start P c) s
        next_rule s l =
            by_cases (dec_lt s giver)
            (λ h.
            record {
              others = λ e. next_kept s h ∙ (start.rule s l).others e;
              inputs = λ e. omega (arith, next_kept s h, (start.rule s l).inputs e);
            })
            (λ g.
            by_cases (ℕ_discrete s giver)
            (λ e.
            subst (StartRule P (next_start P c)) (sym e)
            (rule_input P (next_start P c) giver (rule_spare P c giver (start.rule giver giver_in) giver-spare) (omega (arith, next_gave, giver-spare))))
            (λ o.
            by_cases (ℕ_discrete s (taker P c))
            (λ e. subst (StartRule P (next_start P c)) (sym e) (rule_input P (next_start P c) (taker P c) taker_input (omega (arith, next_took))))
            (λ h. rule_bare P (next_start P c) s (next_bare s (omega arith) l h))))

        next_start_lem : StartWith P n (next_start P c)
        next_start_lem = record { sized = next_sized; agents = next_agents ∙ start.agents; rule = next_rule }

        next_less : LessAt (next_start P c) c giver
        next_less =
            record { inside = omega (arith, next_sized, giver_in); same = next_kept; less = omega (arith, next_gave, giver-spare) }

        -- A start between the two that differs from c first up to the giver differs from the next one first beyond the giver.
        past_giver : (e : List ℕ) (k i : ℕ) → LessAt e c k → k ≤ giver → LessAt (next_start P c) e i → giver < i
        past_giver e k i p h q =
            by_cases (dec_lt giver i) (λ l. l)
            (λ g.
            absurd
            (by_cases (dec_lt i k)
            (λ l. omega (arith, q.less, p.same i l, next_kept i (omega arith)))
            (λ m.
            by_cases (dec_lt k i)
            (λ l. omega (arith, p.less, q.same k l, next_kept k (omega arith)))
            (λ l.
            let o : i ≡ k = omega arith in
            omega (arith, p.less, q.less, ap (count e) o, ap (count (next_start P c)) o, next_near k h)))))

        next_nearest : (e : List ℕ) → StartWith P n e → lex_less (next_start P c) e ≡ true → lex_less e c ≡ true → ⊥
        next_nearest e se f h =
            let p = less_place e c (se.sized ∙ sym start.sized) h in
            let q = less_place (next_start P c) e (next_sized ∙ sym se.sized) f in
            by_cases (dec_lt giver p.0)
            (λ l. none_past e se p.0 p.1 (omega arith))
            (λ g.
            let m = past_giver e p.0 q.0 p.1 (omega arith) q.1 in
            let t = taker_min q.0 m (excess_input n (next_start P c) e next_start_lem se q.0 q.1) in
            no_excess n (next_start P c) e next_start_lem se q.0 q.1 (λ s j l. next_bare s (omega arith) l (λ o. omega arith)))

    pub next_is : (c : List ℕ) → StartWith P n c → 0 < givers_end P c
        → StartWith P n (next_start P c) × (lex_less (next_start P c) c ≡ true)
        × ((e : List ℕ) → StartWith P n e → lex_less (next_start P c) e ≡ true → lex_less e c ≡ true → ⊥)
    next_is c start some = (
      next_start_lem c start some,
      place_less (next_start P c) c _ (next_sized c start some ∙ sym start.sized) (next_less c start some),
      next_nearest c start some,
    )

    pub next_none : (c : List ℕ) → StartWith P n c → givers_end P c ≡ 0 → (e : List ℕ) → StartWith P n e → lex_less e c ≡ true → ⊥
    next_none c start z e se h =
        let p = less_place e c (se.sized ∙ sym start.sized) h in
        none_past c start e se p.0 p.1 (omega arith)
