-- Runs behind each other until one rests: the steps and the configuration are those of one run that has the rest bound as its
-- limit. Assumes nothing.
use Rattle.std.specs.Prelude.{◌≡◌, false, length, replicate}
use Rattle.std.proofs.Math.Path.{refl, sym, ap}
use Rattle.std.proofs.Common.{◌∙◌, subst, arith, suc-add, zero-add, length-append}
use Rattle.std.proofs.Math.Bool.{true}
use Rattle.std.proofs.Math.Logic.{by_cases}
use mathlib.Core.List.{List, [], ◌∷◌, ◌++◌, map, append-nil}
use Prim.Native.Nat.{ℕ, zero, suc, ◌+◌, ◌-◌, ◌*◌, ◌≤◌, ◌<◌}
use Rattle.std.proofs.Math.Decide.{dec_lt}
use Rattle.theory.proofs.Bool.Laws.{by_test}
use Rattle.theory.specs.Protocol.{Protocol, WellFormed, size, fire, terminal, after}
use Rattle.theory.proofs.Protocol.Lists.{tried-fires, after-append}
use Rattle.theory.specs.Ladder.{Layers, OrderedPartition, Laddered, spreads, rank}
use Rattle.theory.proofs.Ladder.Rank.{rank-bound, rank_zero}
use Rattle.theory.proofs.Ladder.Lists.{rank-after, layered_rests}
use Rattle.theory.specs.Machine.{run, meetings_of, admitted, chosen, run_numbers, run_reply, reply, counts_after, rest_numbers, rest_of}
use Rattle.theory.specs.Machine.Lists.{last_counts, reported}
use Rattle.theory.proofs.Machine.Laws.{admitted_sized, adds_on, reply_run, chosen-fires, RunList, admitted-after, run_numbers_is}

-- ---- The numbers of a run

module _ (P : Protocol) (L : Layers) where
  pub at_rest : (n : ℕ) (c : List ℕ) → terminal P c ≡ true → run_numbers P L n c ≡ []
  unfolding run_numbers
  at_rest zero c t = refl
  at_rest (suc n) c t = rw (t, run_numbers)

  pub not_at_rest : (n : ℕ) (c : List ℕ) → terminal P c ≡ false → run_numbers P L (suc n) c ≡ chosen P L c ∷ run_numbers P L n (fire P c (chosen P L c))
  unfolding run_numbers
  not_at_rest n c t = rw (t, run_numbers)

  -- A run whose limit is the steps that it makes makes the same.
  pub exact_limit : (n : ℕ) (c : List ℕ) → run_numbers P L (length (run_numbers P L n c)) c ≡ run_numbers P L n c
  unfolding run_numbers
  exact_limit zero c = refl
  exact_limit (suc n) c =
      by_test (terminal P c)
      (λ t. at_rest (length (run_numbers P L (suc n) c)) c t ∙ sym (at_rest (suc n) c t))
      (λ t.
      let d = fire P c (chosen P L c) in
      ap (λ rs. run_numbers P L (length rs) c) (not_at_rest n c t)
      ∙ not_at_rest (length (run_numbers P L n d)) c t
      ∙ ap (λ rs. chosen P L c ∷ rs) (exact_limit n d)
      ∙ sym (not_at_rest n c t))

module _ (P : Protocol) {L : Layers} (part : OrderedPartition P L) where
  -- A run of m + n steps is one of m, and then one of n.
  pub run_on : (m n : ℕ) (c : List ℕ) → run_numbers P L (m + n) c ≡ run_numbers P L m c ++ run_numbers P L n (after P c (run_numbers P L m c))
  unfolding run_numbers after
  run_on zero n c = ap (λ k. run_numbers P L k c) (zero-add n)
  run_on (suc m) n c =
      by_test (terminal P c)
      (λ t. at_rest P L (suc m + n) c t ∙ sym (ap (λ rs. rs ++ run_numbers P L n (after P c rs)) (at_rest P L (suc m) c t) ∙ at_rest P L n c t))
      (λ t.
      let r = chosen P L c in
      let d = fire P c r in
      let to = tried-fires P c r (chosen-fires P part c t).0 in
      ap (λ k. run_numbers P L k c) (suc-add m n)
      ∙ not_at_rest P L (m + n) c t
      ∙ ap (λ rs. r ∷ rs) (run_on m n d)
      ∙ sym (
      ap (λ rs. rs ++ run_numbers P L n (after P c rs)) (not_at_rest P L m c t)
      ∙ ap (λ e. r ∷ (run_numbers P L m d ++ run_numbers P L n (after P e (run_numbers P L m d)))) to))

  -- One that rests goes no further, whatever the limit.
  pub rests_on_lem : (m n : ℕ) (c : List ℕ) → m ≤ n → terminal P (after P c (run_numbers P L m c)) ≡ true → run_numbers P L n c ≡ run_numbers P L m c
  rests_on_lem m n c l t =
      let to : n ≡ m + (n - m) = omega arith in
      ap (λ k. run_numbers P L k c) to
      ∙ run_on m (n - m) c
      ∙ ap (λ rs. run_numbers P L m c ++ rs) (at_rest P L (n - m) _ t)
      ∙ append-nil (run_numbers P L m c)

-- ---- Runs behind each other

-- Runs from c have made k steps, and stand at d.
pub record RunsTo (P : Protocol) (L : Layers) (c : List ℕ) (k : ℕ) (d : List ℕ) : Type 0 where
  pub steps : length (run_numbers P L k c) ≡ k
  pub stands : after P c (run_numbers P L k c) ≡ d

module _ (P : Protocol) (L : Layers) (c : List ℕ) where
  pub runs_to_none : RunsTo P L c 0 c
  unfolding run_numbers after
  runs_to_none = record { steps = refl; stands = refl }

module _ (P : Protocol) {L : Layers} (part : OrderedPartition P L) where
  -- One run, with limit n; and runs behind runs.
  pub runs_to_run : (n : ℕ) (d : List ℕ) → RunsTo P L d (length (run_numbers P L n d)) (after P d (run_numbers P L n d))
  runs_to_run n d = record { steps = ap length (exact_limit P L n d); stands = ap (after P d) (exact_limit P L n d) }

  pub runs_to_join : (c : List ℕ) (k : ℕ) (d : List ℕ) (j : ℕ) (e : List ℕ) → RunsTo P L c k d → RunsTo P L d j e → RunsTo P L c (k + j) e
  runs_to_join c k d j e g h =
      let all : run_numbers P L (k + j) c ≡ run_numbers P L k c ++ run_numbers P L j d =
      run_on P part k j c ∙ ap (λ x. run_numbers P L k c ++ run_numbers P L j x) g.stands in
      record {
        steps = ap length all ∙ length-append (run_numbers P L k c) (run_numbers P L j d) ∙ omega (arith, g.steps, h.steps);
        stands =
            ap (after P c) all ∙ after-append P c (run_numbers P L k c) (run_numbers P L j d)
            ∙ ap (λ x. after P x (run_numbers P L j d)) g.stands ∙ h.stands;
      }

  -- One run call on counts that pass,
  call_steps : (c : List ℕ) (limit : ℕ) → admitted P c ≡ true → meetings_of (reply P L c (run limit)) ≡ length (run_numbers P L limit c)
  unfolding run_reply meetings_of
  call_steps c limit on = ap meetings_of (reply_run P L c limit on)

  call_leaves : (c : List ℕ) (limit : ℕ) → admitted P c ≡ true → counts_after P L c (run limit) ≡ after P c (run_numbers P L limit c)
  unfolding counts_after
  call_leaves c limit on = ap (after P c) (adds_on P L c (run limit) on)

  -- and a list of them, whatever their limits.
  pub runs_to_calls : WellFormed P → (c limits : List ℕ) → admitted P c ≡ true
      → RunsTo P L c (reported P L c (map run limits)) (last_counts P L c (map run limits))
  unfolding reported last_counts
  runs_to_calls good c [] on = runs_to_none P L c
  runs_to_calls good c (limit ∷ limits) on =
      let rs = run_numbers P L limit c in
      let leaves : counts_after P L c (run limit) ≡ after P c rs = call_leaves c limit on in
      let passes : admitted P (counts_after P L c (run limit)) ≡ true = ap (admitted P) leaves ∙ admitted-after P L good c rs on in
      runs_to_join c (meetings_of (reply P L c (run limit))) (counts_after P L c (run limit)) _ _
      (subst (λ m. RunsTo P L c m (counts_after P L c (run limit))) (sym (call_steps c limit on))
      (subst (RunsTo P L c (length rs)) (sym leaves) (runs_to_run limit c)))
      (runs_to_calls good (counts_after P L c (run limit)) limits passes)

module _ (P : Protocol) {L : Layers} {w : ℕ → ℕ → ℕ} (lad : Laddered P L w) (c : List ℕ) (k : ℕ) (d : List ℕ) (g : RunsTo P L c k d) where
  part : OrderedPartition P L
  part = lad.partition

  -- One run more, with limit n.
  pub runs_to_more : (n : ℕ) → RunsTo P L c (k + length (run_numbers P L n d)) (after P d (run_numbers P L n d))
  runs_to_more n = runs_to_join P part c k d _ _ g (runs_to_run P part n d)

  module _ (long : length c ≡ P.states) where
    -- The steps keep to the rest bound.
    pub runs_to_bound : k ≤ size c * spreads P L w
    runs_to_bound =
        let ran : RunList P L k c (run_numbers P L k c) = run_numbers_is P part k c in
        omega (
          arith,
          ran.all_meet,
          g.steps,
          rank-after P lad c (run_numbers P L k c) long ran.is_layered,
          rank-bound P L w part c long,
        )

    -- Where they rest they have made all steps.
    module _ (t : terminal P d ≡ true) where
      rest-numbers : rest_numbers P L w c ≡ run_numbers P L k c
      unfolding rest_numbers
      rest-numbers = rests_on_lem P part k (size c * spreads P L w) c runs_to_bound (ap (terminal P) g.stands ∙ t)

      pub rest-steps : length (rest_numbers P L w c) ≡ k
      rest-steps = ap length rest-numbers ∙ g.steps

      pub rest_stands : rest_of P L w c ≡ d
      unfolding rest_of
      rest_stands = ap (after P c) rest-numbers ∙ g.stands

-- A run whose limit is no less than the rest bound rests.
module _ (P : Protocol) {L : Layers} {w : ℕ → ℕ → ℕ} (lad : Laddered P L w) (c : List ℕ) (long : length c ≡ P.states) where
  pub run_rests : (limit : ℕ) → size c * spreads P L w ≤ limit → terminal P (after P c (run_numbers P L limit c)) ≡ true
  run_rests limit h =
      let r : RunList P L limit c (run_numbers P L limit c) = run_numbers_is P lad.partition limit c in
      by_cases (dec_lt (length (run_numbers P L limit c)) limit) r.short
      (λ g. layered_rests P lad c (run_numbers P L limit c) long r.is_layered (omega (arith, rank-bound P L w lad.partition c long, r.all_meet)))

  pub rest-terminal : terminal P (rest_of P L w c) ≡ true
  unfolding rest_of rest_numbers
  rest-terminal = run_rests (size c * spreads P L w) (omega arith)

-- Run calls with one limit, any but 0, leave a terminal configuration at last: each lowers the rank.
module _ (P : Protocol) {L : Layers} {w : ℕ → ℕ → ℕ} (lad : Laddered P L w) (limit : ℕ) (some : 0 < limit) where
  lowers : (c : List ℕ) → length c ≡ P.states → rank P L w (after P c (run_numbers P L limit c)) ≤ rank P L w c - 1
  lowers c long =
      let ran : RunList P L limit c (run_numbers P L limit c) = run_numbers_is P lad.partition limit c in
      let falls = rank-after P lad c (run_numbers P L limit c) long ran.is_layered in
      by_test (terminal P c)
      (λ t. omega (arith, falls, (rank_zero P lad c long).1 t))
      (λ t.
      let to : suc (limit - 1) ≡ limit = omega arith in
      let one : length (run_numbers P L limit c) ≡ suc _ = ap (λ k. length (run_numbers P L k c)) (sym to) ∙ ap length (not_at_rest P L (limit - 1) c t) in
      omega (arith, falls, ran.all_meet, one))

  pub runs_rest : (k : ℕ) (c : List ℕ) → admitted P c ≡ true → rank P L w c ≤ k → terminal P (last_counts P L c (map run (replicate k limit))) ≡ true
  unfolding last_counts
  runs_rest zero c on l = (rank_zero P lad c (admitted_sized P c on)).0 (omega arith)
  runs_rest (suc k) c on l =
      let leaves = call_leaves P lad.partition c limit on in
      runs_rest k (counts_after P L c (run limit))
      (ap (admitted P) leaves ∙ admitted-after P L lad.formed c (run_numbers P L limit c) on)
      (omega (arith, ap (rank P L w) leaves, lowers c (admitted_sized P c on)))
