-- The starts counted one after the other: the totals of the first k of them, and the one that is next. Assumes nothing.
use Rattle.std.specs.Prelude.{◌≡◌, refl, Bool, cond, List, [], ltb, length, Option, Result, Ok}
use Rattle.std.proofs.Math.Path.{sym, ap}
use Rattle.std.proofs.Common.{◌∙◌, subst, true≢false}
use Rattle.std.proofs.Math.Bool.{true, false}
use Rattle.std.proofs.Math.Logic.{by_cases}
use Prim.Native.Nat.{ℕ, suc, ◌+◌, ◌-◌, ◌≤◌, ◌<◌, max}
use Rattle.std.proofs.Math.Decide.{dec_lt}
use native.Mathlib.Omega.{arith}
use borrow.Author.Tests.{ltb-true, ltb-false, eq-eqb, ne_eqb, eqb-false}
use Rattle.std.proofs.Math.Dec.{eqb}
use Rattle.theory.specs.Bool.{bit}
use Rattle.theory.proofs.Bool.Laws.{by_test, or_resolve, or_fails}
use Rattle.theory.specs.Below.{sum_below, greatest, first_greatest}
use Rattle.theory.proofs.Below.Laws.{sum_const, sum_mono, le_greatest, place-new, place_same}
use Rattle.theory.proofs.Below.Scan.{sum_more}
use Rattle.theory.specs.Order.{lex_less}
use Rattle.theory.specs.Protocol.{Protocol, HasInput, Output, agreed, mixed, output_of}
use Rattle.theory.proofs.Protocol.Laws.{rule_fixed}
use Rattle.theory.specs.Ladder.{Layers}
use Rattle.theory.specs.Starts.{fixed_total, starts, start_at}
use Rattle.theory.proofs.Starts.Laws.{StartWith, each_start, first-place, next_place, last-place}
use Rattle.theory.proofs.Starts.Number.{starts-most}
use Rattle.theory.specs.Starts.Next.{last_input, givers_end, taker, first_start, next_start}
use Rattle.theory.proofs.Starts.Next.Laws.{first_is, next_is, next_none}
use Rattle.theory.specs.Machine.{admitted, rest_of}
use Rattle.theory.proofs.Machine.Laws.{admit_on, admitted-after}
use Rattle.format.specs.Format.{sections_of, protocol_of, protocol_in, layers_in, weight_in}
use Rattle.format.specs.declared.Header.{Header}
use Rattle.machine.specs.Calls.{verdict_as, verdict_answer}
use Rattle.refusals.specs.declared.Refusal.{Refusal}
use Rattle.starts.specs.Code.{AtLeastFixed}
use Rattle.totals.specs.Totals.{is_agreed, steps_to_rest, rests_on, resting_on, steps_at, totals_of, first_most, Allowed}
use Rattle.totals.specs.Code.{Runs, Group, agrees_on, Room, added, with_start, needs_most, counted, Tallying}
use Rattle.totals.proofs.CodeLaws.{bit-most, group_admitted}
use Rattle.totals.specs.declared.Totals.{Totals}

-- ---- One start

pub group_same : (P : Protocol) (c d : List ℕ) → Group P c → d ≡ c → Group P d
group_same P c d g e = subst (Group P) (sym e) g

verdict_is : (v : Bool) (o : Output) → agrees_on v (Ok (verdict_as o)) ≡ is_agreed v o
verdict_is v (agreed u) = refl
verdict_is v mixed = refl

module _ (b : List ℕ) (h : Header) (good : Runs b h) where
  abbrev P : Protocol
  P = protocol_in b h

  abbrev L : Layers
  L = layers_in b h

  abbrev w : ℕ → ℕ → ℕ
  w = weight_in b h

  -- Start c is copied to d, which is run to rest.
  module _ (c d : List ℕ) (group : Group P c) (hd : d ≡ c) where
    module _ (steps : ℕ) (hs : steps ≡ steps_to_rest P L w d) (t : Totals) where
      steps_is : steps ≡ steps_to_rest P L w c
      steps_is = hs ∙ ap (steps_to_rest P L w) hd

      pub counted_is : (e : List ℕ) (v : Result (Option Bool) Refusal) (r : Totals) → e ≡ rest_of P L w d → v ≡ verdict_answer P e → r ≡ with_start t steps v → r ≡ counted P L w t c
      unfolding rests_on verdict_answer rest_of
      counted_is e v r he hv hr =
          let to : e ≡ rest_of P L w c = he ∙ ap (rest_of P L w) hd in
          let on : admitted P e ≡ true = ap (admitted P) to ∙ admitted-after P L good.ladder.formed c _ (group_admitted b h good c group) in
          let says : v ≡ Ok (verdict_as (output_of P (rest_of P L w c))) =
          hv ∙ admit_on P e _ (Ok (verdict_as (output_of P e))) on ∙ ap (λ x. Ok (verdict_as (output_of P x))) to in
          let of : (u : Bool) → agrees_on u v ≡ rests_on P L w u c = λ u. ap (agrees_on u) says ∙ verdict_is u (output_of P (rest_of P L w c)) in
          hr ∙ rw (of false, of true, steps_is)

      module _ (f old : List ℕ) (q : Bool) (hq : q ≡ needs_most t steps) where
        needs_is : needs_most t (steps_to_rest P L w c) ≡ q
        needs_is = ap (needs_most t) (sym steps_is) ∙ sym hq

        pub first-new : q ≡ true → f ≡ c → f ≡ cond (needs_most t (steps_to_rest P L w c)) c old
        first-new u g = rw (needs_is, u) g

        pub first_old : q ≡ false → f ≡ old → f ≡ cond (needs_most t (steps_to_rest P L w c)) c old
        first_old u g = rw (needs_is, u) g

  -- ---- All starts

  -- The states section is `states`; P' is the protocol that the functions on starts speak of, which is the docket's but for the rules.
  module _ (states : List ℕ) (here : states ≡ (sections_of b h).states) where
    abbrev P' : Protocol
    P' = protocol_of h.sizes states []

    pub has_input : HasInput P'
    has_input = rw here good.sound.sections.formed.some_input

    has : HasInput P
    has = good.sound.sections.formed.some_input

    givers_end_same : (c : List ℕ) → givers_end P' c ≡ givers_end P c
    unfolding givers_end last_input
    givers_end_same c = ap (λ x. givers_end (protocol_of h.sizes x []) c) here

    next_same : (c : List ℕ) → next_start P' c ≡ next_start P c
    unfolding next_start taker givers_end last_input
    next_same c = ap (λ x. next_start (protocol_of h.sizes x []) c) here

    first_same : (n : ℕ) → first_start P' n ≡ first_start P n
    unfolding first_start
    first_same n = ap (λ x. first_start (protocol_of h.sizes x []) n) here

    -- There are at most 64,000 fixed agents.
    fixed_most : fixed_total P ≤ 64000
    unfolding fixed_total
    fixed_most =
        omega (
          arith,
          sum_mono P.states P.fixed (λ _. 1000) good.sound.sections.fixed_most,
          sum_const 1000 P.states,
          good.sound.limits.states_most,
        )

    module _ (n : ℕ) (small : Allowed P n) where
      pub start_group : (c : List ℕ) → StartWith P n c → Group P c
      start_group c s = record {
        sized = s.sized;
        enough = omega (arith, s.agents, small.least);
        small = omega (arith, s.agents, small.most, fixed_most);
      }

      resting_most : (v : Bool) (k : ℕ) → resting_on P L w n v k ≤ k
      unfolding resting_on
      resting_most v k =
          omega (arith, sum_mono k (λ i. bit (rests_on P L w v (start_at P n i))) (λ _. 1) (λ i l. bit-most (rests_on P L w v (start_at P n i))), sum_const 1 k)

      -- No start is counted yet.
      pub tallying_none : (first c : List ℕ) → c ≡ first_start P' n
          → Tallying P L w n (record { states = h.sizes.states; starts = 0; zeros = 0; ones = 0; most = 0 }) first true c
      unfolding resting_on sum_below
      tallying_none first c e =
          let s = first_is P has n in
          let p = first-place P n (first_start P n) s.0 s.1 in
          record {
            states = refl;
            zeros = refl;
            ones = refl;
            most = refl;
            first_is = λ l. absurd (omega arith);
            next = λ _. (p.0, e ∙ first_same n ∙ sym p.1);
            done = λ u. absurd (true≢false u);
          }

      module _ (t : Totals) (first : List ℕ) (going : Bool) (c : List ℕ) (g : Tallying P L w n t first going c) where
        -- One start more.
        module _ (on : going ≡ true) where
          start : StartWith P n c
          start = let s = g.next on in subst (StartWith P n) (sym s.1) (each_start P n t.starts s.0)

          pub tallying_group : Group P c
          tallying_group = start_group c start

          pub tallying_fixed : AtLeastFixed h.sizes states c
          tallying_fixed = record {
            sized = start.sized;
            small = omega (arith, tallying_group.small);
            fixed = rw here (λ s l. rule_fixed P c s (start.rule s l));
          }

          pub tallying_room : Room t
          tallying_room = record {
            starts = omega (arith, (g.next on).0, starts-most P n small.most small.inputs);
            zeros = omega (arith, g.zeros, resting_most false t.starts);
            ones = omega (arith, g.ones, resting_most true t.starts);
          }

          abbrev steps : ℕ
          steps = steps_to_rest P L w c

          abbrev f : ℕ → ℕ
          f = steps_at P L w n

          steps-here : f t.starts ≡ steps
          unfolding steps_at
          steps-here = ap (steps_to_rest P L w) (sym (g.next on).1)

          -- How many rest on v.
          resting_more : (v : Bool) (a : ℕ) → a ≡ resting_on P L w n v t.starts → a + bit (rests_on P L w v c) ≡ resting_on P L w n v (t.starts + 1)
          unfolding resting_on
          resting_more v a e =
              sum_more (λ i. bit (rests_on P L w v (start_at P n i))) t.starts a _ e (ap (λ x. bit (rests_on P L w v x)) (g.next on).1)

          -- The greatest step total.
          one_more : greatest (t.starts + 1) f ≡ max (greatest t.starts f) steps
          unfolding greatest
          one_more = let s : t.starts + 1 ≡ suc t.starts = omega arith in ap (λ k. greatest k f) s ∙ ap (max (greatest t.starts f)) steps-here

          most_more : max t.most steps ≡ cond (eqb (t.starts + 1) 0) 0 (greatest (t.starts + 1) f)
          unfolding greatest
          most_more =
              let some : eqb (t.starts + 1) 0 ≡ false = ne_eqb (t.starts + 1) 0 (λ e. omega arith) in
              rw some
              (by_cases (dec_lt 0 t.starts)
              (λ l. ap (λ m. max m steps) (g.most ∙ rw (ne_eqb t.starts 0 (λ e. omega arith))) ∙ sym one_more)
              (λ k.
              let none : t.starts ≡ 0 = omega arith in
              let zero-most : t.most ≡ 0 = g.most ∙ rw (eq-eqb t.starts 0 none) in
              let first_one : greatest t.starts f ≡ steps = ap (λ i. greatest i f) none ∙ ap f (sym none) ∙ steps-here in
              omega (arith, one_more)))

          -- The first start that needs it.
          pub place_more : (first' : List ℕ) → first' ≡ cond (needs_most t steps) c first → first' ≡ start_at P n (first_greatest (t.starts + 1) f)
          unfolding needs_most
          place_more first' e =
              let s : t.starts + 1 ≡ suc t.starts = omega arith in
              by_test (needs_most t steps)
              (λ u.
              let new : first_greatest (suc t.starts) f ≡ t.starts = place-new t.starts f (λ k l. less u k l) in
              e ∙ rw u (g.next on).1 ∙ sym (ap (λ k. start_at P n (first_greatest k f)) s ∙ ap (start_at P n) new))
              (λ u.
              let o = or_fails (eqb t.starts 0) (ltb t.most steps) u in
              let some : 0 < t.starts = omega (arith, eqb-false t.starts 0 o.0) in
              let same : first_greatest (suc t.starts) f ≡ first_greatest t.starts f =
              place_same t.starts f some (omega (arith, steps-here, ltb-false t.most steps o.1, greatest_so_far some)) in
              e ∙ rw u (g.first_is some) ∙ sym (ap (λ k. start_at P n (first_greatest k f)) s ∙ ap (start_at P n) same))
            where
              greatest_so_far : 0 < t.starts → t.most ≡ greatest t.starts f
              greatest_so_far l = g.most ∙ rw (ne_eqb t.starts 0 (λ e. omega arith))

              less : needs_most t steps ≡ true → (k : ℕ) → k < t.starts → f k < f t.starts
              less u k l =
                  let more : t.most < steps = ltb-true _ _ (or_resolve (eqb t.starts 0) (ltb t.most steps) (ne_eqb t.starts 0 (λ e. omega arith)) u) in
                  omega (arith, le_greatest t.starts f k l, greatest_so_far (omega arith), steps-here)

          module _ (t' : Totals) (ht : t' ≡ counted P L w t c) where
            one_start : t'.starts ≡ t.starts + 1
            unfolding added
            one_start = ap (λ x. x.starts) ht

            pub tallying_less : length (starts P n) - t'.starts < length (starts P n) - t.starts
            tallying_less = omega (arith, one_start, (g.next on).0)

            module _ (first' : List ℕ) (hf : first' ≡ cond (needs_most t steps) c first) (going' : Bool) (hg : going' ≡ ltb 0 (givers_end P' c))
                (c' : List ℕ) (hc : c' ≡ cond going' (next_start P' c) c) where
              next_more : going' ≡ true → (t.starts + 1 < length (starts P n)) × (c' ≡ start_at P n (t.starts + 1))
              next_more u =
                  let s : t.starts + 1 ≡ suc t.starts = omega arith in
                  let some : 0 < givers_end P c = omega (arith, ltb-true 0 (givers_end P' c) (sym hg ∙ u), givers_end_same c) in
                  let k = next_is P has n c start some in
                  let at : c ≡ start_at P n t.starts = (g.next on).1 in
                  let p =
                  next_place P n t.starts (g.next on).0 (next_start P c) k.0 (ap (lex_less (next_start P c)) (sym at) ∙ k.1)
                  (λ e se l m. k.2 e se l (ap (lex_less e) at ∙ m)) in
                  (omega (arith, p.0), hc ∙ rw u (next_same c) ∙ sym (ap (start_at P n) s ∙ p.1))

              done_more : going' ≡ false → t.starts + 1 ≡ length (starts P n)
              done_more u =
                  let none : givers_end P c ≡ 0 = omega (arith, ltb-false 0 (givers_end P' c) (sym hg ∙ u), givers_end_same c) in
                  let at : c ≡ start_at P n t.starts = (g.next on).1 in
                  omega (
                    arith,
                    last-place P n t.starts (g.next on).0 (λ e se l. next_none P has n c start none e se (ap (lex_less e) at ∙ l)),
                  )

              pub tallying_more : Tallying P L w n t' first' going' c'
              unfolding added
              tallying_more = rw ht (record {
                states = g.states;
                zeros = resting_more false t.zeros g.zeros;
                ones = resting_more true t.ones g.ones;
                most = most_more;
                first_is = λ _. place_more first' hf;
                next = next_more;
                done = done_more;
              })

        -- All starts have been counted.
        module _ (off : going ≡ false) where
          all : t.starts ≡ length (starts P n)
          all = g.done off

          some : 0 < length (starts P n)
          some = let s = first_is P has n in (first-place P n (first_start P n) s.0 s.1).0

          pub tallying_totals : t ≡ totals_of P L w n
          tallying_totals =
              same t
              g.states
              all
              (g.zeros ∙ ap (resting_on P L w n false) all)
              (g.ones ∙ ap (resting_on P L w n true) all)
              (g.most ∙ rw (ne_eqb t.starts 0 (λ e. omega (arith, some, all))) (ap (λ k. greatest k (steps_at P L w n)) all))
            where
              same : (r : Totals) {s a z o m : ℕ} → r.states ≡ s → r.starts ≡ a → r.zeros ≡ z → r.ones ≡ o → r.most ≡ m
                  → ◌≡◌ {A = Totals} r (record { states = s; starts = a; zeros = z; ones = o; most = m })
              same r hs ha hz ho hm = rw (← hs, ← ha, ← hz, ← ho, ← hm) refl

          pub tallying_first : first ≡ first_most P L w n
          unfolding first_most
          tallying_first = g.first_is (omega (arith, some, all)) ∙ ap (λ k. start_at P n (first_greatest k (steps_at P L w n))) all

pub ruleset tallying = (tallying_none, tallying_group, tallying_fixed, tallying_room, tallying_less, tallying_more, tallying_totals, tallying_first)
