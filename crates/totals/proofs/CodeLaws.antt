-- What the functions of the totals need. Assumes nothing.
use Rattle.std.specs.Prelude.{◌≡◌, refl, Bool, true, false, not, List, Option, Result}
use Rattle.std.proofs.Math.Path.{sym, ap, subst}
use Rattle.std.proofs.Common.{◌∙◌, true≢false, mul-le-mul_left}
use Rattle.std.proofs.Math.Logic.{by_cases}
use Prim.Native.Nat.{ℕ, suc, ◌+◌, ◌-◌, ◌*◌, ◌≤◌, ◌<◌, max}
use Rattle.std.proofs.Math.Decide.{dec_lt}
use native.Mathlib.Omega.{arith}
use borrow.Author.Tests.{eq-eqb, le-leb, not-true, not-false}
use Rattle.std.proofs.Math.ListN.{length}
use Rattle.theory.specs.Bool.{bit}
use Rattle.theory.proofs.Bool.Laws.{by_test, not_both, and_intro}
use Rattle.theory.specs.Below.{greatest}
use Rattle.theory.proofs.Below.Laws.{sum_const, sum_mono, greatest_at}
use Rattle.theory.specs.Protocol.{Protocol, size, terminal, after}
use Rattle.theory.specs.Ladder.{Layers, spread, spreads}
use Rattle.theory.specs.Machine.{Reply, ran, run, meetings_of, is_sized, is_within, admitted, run_numbers, run_reply, counts_after, rest_of}
use Rattle.theory.proofs.Machine.Laws.{admitted_sized, adds_on, reply_run, RunList, admitted-after, run_numbers_is}
use Rattle.theory.proofs.Machine.Rest.{RunsTo, runs_to_none, runs_to_more, runs_to_bound, rest-steps, rest_stands}
use Rattle.format.specs.Format.{protocol_in, layers_in, weight_in}
use Rattle.format.specs.declared.Header.{Header}
use Rattle.machine.specs.Code.{Replies}
use Rattle.refusals.specs.declared.Refusal.{Refusal}
use Rattle.totals.specs.Totals.{steps_to_rest}
use Rattle.totals.specs.Code.{Runs, Group, Turning, goes_on, agrees_on, added, with_start}
use Rattle.totals.specs.declared.Totals.{Totals}

-- ---- Runs until rest

module _ (b : List ℕ) (h : Header) (good : Runs b h) where
  abbrev P : Protocol
  P = protocol_in b h

  abbrev L : Layers
  L = layers_in b h

  abbrev w : ℕ → ℕ → ℕ
  w = weight_in b h

  -- A spread is at most a million, and there are at most sixteen.
  spread-most : (k : ℕ) → k < h.sizes.layers → spread P.states (w k) ≤ 1000000
  unfolding spread
  spread-most k l =
      let n = P.states - 1 in
      let some : suc n ≡ P.states = omega (arith, good.sound.limits.states_least) in
      let a = greatest_at (w k) n in
      omega (
        arith,
        ap (λ m. greatest m (w k)) some,
        a.2,
        good.sound.sections.weights_most k a.0 l (omega (arith, a.1)),
      )

  spreads-most : spreads P L w ≤ 16000000
  unfolding spreads
  spreads-most =
      omega (
        arith,
        sum_mono h.sizes.layers (λ k. spread P.states (w k)) (λ _. 1000000) spread-most,
        sum_const 1000000 h.sizes.layers,
        good.sound.limits.layers_most,
      )

  pub group_admitted : (c : List ℕ) → Group P c → admitted P c ≡ true
  unfolding admitted is_sized is_within
  group_admitted c g =
      and_intro _ _ (eq-eqb _ _ g.sized) (and_intro _ _ (le-leb 2 (size c) g.enough) (le-leb (size c) 1000000 (omega (arith, g.small))))

  module _ (c : List ℕ) (group : Group P c) where
    abbrev bound : ℕ
    bound = size c * spreads P L w

    pub bound_small : bound ≤ 1024192000000
    bound_small = omega (arith, mul-le-mul_left (size c) spreads-most, group.small)

    pub turning_none : Turning b h c 0 true c
    turning_none = record { made = runs_to_none P L c; passes = group_admitted c group; rests = λ e. absurd (true≢false e) }

    pub turning_bound : (k : ℕ) (going : Bool) (d : List ℕ) → Turning b h c k going d → k ≤ bound
    turning_bound k going d g = runs_to_bound P good.ladder c k d g.made group.sized

    -- One run more, which says `said` and leaves e.
    module _ (k : ℕ) (going : Bool) (d : List ℕ) (g : Turning b h c k going d) (limit : ℕ) (said : Reply) (e : List ℕ)
        (r : Replies P L d (run limit) said e) where
      numbers : List ℕ
      numbers = run_numbers P L limit d

      says : said ≡ ran (length numbers) (terminal P (after P d numbers))
      unfolding run_reply numbers
      says = r.says ∙ reply_run P L d limit g.passes

      leaves : e ≡ after P d numbers
      unfolding counts_after numbers
      leaves = r.leaves ∙ ap (after P d) (adds_on P L d (run limit) g.passes)

      module _ (n : ℕ) (hn : n ≡ meetings_of said) (t : Bool) (ht : t ≡ goes_on said) where
        steps_are : n ≡ length numbers
        unfolding meetings_of
        steps_are = hn ∙ ap meetings_of says

        goes_is : t ≡ not (terminal P e)
        goes_is = ht ∙ ap goes_on says ∙ ap (λ x. not (terminal P x)) (sym leaves)

        pub turning_more : Turning b h c (k + n) t e
        unfolding numbers
        turning_more = record {
          made =
              subst (λ m. RunsTo P L c (k + m) e) (sym steps_are)
              (subst (RunsTo P L c (k + length numbers)) (sym leaves) (runs_to_more P good.ladder c k d g.made limit));
          passes = ap (admitted P) leaves ∙ admitted-after P L good.ladder.formed d numbers g.passes;
          rests = λ u. not-false _ (sym goes_is ∙ u);
        }

        -- One that goes on has made as many steps as its limit lets it.
        goes_limit : t ≡ true → n ≡ limit
        unfolding numbers
        goes_limit u =
            let ran : RunList P L limit d numbers = run_numbers_is P good.ladder.partition limit d in
            by_cases (dec_lt (length numbers) limit)
            (λ l. absurd (not_both (ap (terminal P) leaves ∙ ran.short l) (not-true _ (sym goes_is ∙ u))))
            (λ m. omega (arith, steps_are, ran.kept))

        pub turning_less : 0 < limit → going ≡ true → (bound - (k + n)) + bit t < (bound - k) + bit going
        turning_less some on =
            by_test t
            (λ u. omega (arith, turning_bound (k + n) t e turning_more, goes_limit u, ap bit u, ap bit on))
            (λ u. omega (arith, ap bit u, ap bit on))

      pub turning_small : (n : ℕ) → n ≡ meetings_of said → k + n ≤ 1024192000000
      turning_small n hn = omega (arith, turning_bound (k + n) (goes_on said) e (turning_more n hn (goes_on said) refl), bound_small)

    pub turning_length : (k : ℕ) (going : Bool) (d : List ℕ) → Turning b h c k going d → length d ≡ length c
    turning_length k going d g = admitted_sized P d g.passes ∙ sym group.sized

    module _ (k : ℕ) (going : Bool) (d : List ℕ) (g : Turning b h c k going d) (off : going ≡ false) where
      pub turning_steps : k ≡ steps_to_rest P L w c
      unfolding steps_to_rest
      turning_steps = sym (rest-steps P good.ladder c k d g.made group.sized (g.rests off))

      pub turning_counts : d ≡ rest_of P L w c
      turning_counts = sym (rest_stands P good.ladder c k d g.made group.sized (g.rests off))

pub ruleset turning = (turning_none, turning_more, turning_less, turning_length, turning_steps, turning_counts)

-- ---- One start more

pub bit-most : (t : Bool) → bit t ≤ 1
bit-most true = omega arith
bit-most false = omega arith

pub with_start_lem : (t : Totals) (steps : ℕ) (v : Result (Option Bool) Refusal) (z o m : ℕ) → z ≡ bit (agrees_on false v) → o ≡ bit (agrees_on true v) → m ≡ max t.most steps
    → ◌≡◌ {A = Totals} (record { states = t.states; starts = t.starts + 1; zeros = t.zeros + z; ones = t.ones + o; most = m }) (with_start t steps v)
unfolding added
with_start_lem t steps v z o m hz ho hm = rw (hz, ho, hm)
