-- What potential reachability says of weights, and of traps and siphons that are empty. Assumes nothing.
use Rattle.std.specs.Prelude.{◌≡◌, Bool, true, false, ◌||◌, List, length, ltb, eqb}
use Rattle.std.proofs.Common.{sym, ap, ◌∙◌, arith, eq-zero-or-pos, mul-le-mul_left}
use Rattle.std.proofs.Math.Path.{fun_ext}
use Rattle.std.proofs.Math.Logic.{⊎_elim}
use Prim.Native.Nat.{ℕ, zero, suc, ◌+◌, ◌*◌, ◌≤◌, ◌<◌}
use borrow.Author.Tests.{ltb-true, eq-eqb, ne_eqb}
use Rattle.theory.specs.Bool.{bit}
use Rattle.theory.proofs.Bool.Laws.{not_both, and_elim, or_none}
use Rattle.theory.specs.Below.{sum_below}
use Rattle.theory.proofs.Below.Laws.{sum_zero, sum_add, sum_mono, sum_same, sum_one}
use Rattle.theory.specs.Weigh.{weigh}
use Rattle.theory.proofs.Weigh.Laws.{weigh-sum, pair_weightless}
use Rattle.theory.specs.Protocol.{Protocol, WellFormed, count, pre, post}
use Rattle.theory.specs.Tree.{takes, puts, touches, is_trap, is_siphon}
use Rattle.theory.proofs.Tree.Traps.{follows_none, follows-fewer}
use Rattle.theory.specs.Potential.{count_in, Potential}

-- The pairs a r, b r of the rules below n, each x r times: a sum over the states s below m is one over the rules.
pairs-sum : (m : ℕ) (w x a b : ℕ → ℕ) (n : ℕ) → ((r : ℕ) → r < n → a r < m) → ((r : ℕ) → r < n → b r < m)
    → sum_below m (λ s. w s * sum_below n (λ r. x r * (bit (eqb (a r) s) + bit (eqb (b r) s)))) ≡ sum_below n (λ r. x r * (w (a r) + w (b r)))
unfolding sum_below
pairs-sum m w x a b zero ha hb = ap (sum_below m) (fun_ext (λ s. omega arith)) ∙ sum_zero m
pairs-sum m w x a b (suc n) ha hb =
    let rest : ℕ → ℕ = λ s. sum_below n (λ r. x r * (bit (eqb (a r) s) + bit (eqb (b r) s))) in
    let f : ℕ → ℕ = λ s. bit (eqb (a n) s) * (x n * w s) in
    let g : ℕ → ℕ = λ s. bit (eqb (b n) s) * (x n * w s) in
    let split : sum_below m (λ s. w s * (rest s + x n * (bit (eqb (a n) s) + bit (eqb (b n) s)))) ≡ sum_below m (λ s. w s * rest s + (f s + g s)) =
    ap (sum_below m) (fun_ext (λ s. omega arith)) in
    omega (
      arith,
      split,
      sum_add m (λ s. w s * rest s) (λ s. f s + g s),
      sum_add m f g,
      sum_one m (λ s. x n * w s) (a n) (ha n (omega arith)),
      sum_one m (λ s. x n * w s) (b n) (hb n (omega arith)),
      pairs-sum m w x a b n (λ r l. ha r (omega arith)) (λ r l. hb r (omega arith)),
    )

module _ (P : Protocol) (good : WellFormed P) {x : ℕ → ℕ} {c d : List ℕ} (long : length c ≡ P.states) (h : Potential P x c d) where
  -- The flow equation of a weight.
  pub flow_weigh : (w : ℕ → ℕ) → weigh w d + sum_below P.rules (λ r. x r * (w (P.p r) + w (P.q r))) ≡ weigh w c + sum_below P.rules
      (λ r. x r * (w (P.p' r) + w (P.q' r)))
  flow_weigh w =
      let into : ℕ → ℕ = λ s. sum_below P.rules (λ r. x r * post P r s) in
      let out : ℕ → ℕ = λ s. sum_below P.rules (λ r. x r * pre P r s) in
      let each : sum_below P.states (λ s. w s * count d s + w s * out s) ≡ sum_below P.states (λ s. w s * count c s + w s * into s) =
      sum_same P.states (λ s. w s * count d s + w s * out s) (λ s. w s * count c s + w s * into s) (λ s l. omega (arith, ap (λ n. w s * n) (h.flow s l))) in
      omega (
        arith,
        each,
        sum_add P.states (λ s. w s * count d s) (λ s. w s * out s),
        sum_add P.states (λ s. w s * count c s) (λ s. w s * into s),
        pairs-sum P.states w x P.p P.q P.rules good.p_lt good.q_lt,
        pairs-sum P.states w x P.p' P.q' P.rules good.p'_lt good.q'_lt,
        rw h.sized at (weigh-sum w d),
        rw long at (weigh-sum w c),
      )

  -- A weight that no rule raises that fires is not raised.
  pub weigh-kept : (w : ℕ → ℕ) → ((r : ℕ) → r < P.rules → 0 < x r → w (P.p' r) + w (P.q' r) ≤ w (P.p r) + w (P.q r)) → weigh w d ≤ weigh w c
  weigh-kept w falls =
      let t = sum_mono P.rules (λ r. x r * (w (P.p' r) + w (P.q' r))) (λ r. x r * (w (P.p r) + w (P.q r)))
      (λ r l. ⊎_elim (λ (z : x r ≡ 0). rw z (omega arith)) (λ (z : 0 < x r). mul-le-mul_left (x r) (falls r l z)) (eq-zero-or-pos (x r))) in
      omega (arith, flow_weigh w, t)

  -- A weight that is the same in every state is kept.
  pub even_kept : (b : ℕ) → weigh (λ _. b) d ≡ weigh (λ _. b) c
  even_kept b = omega (arith, flow_weigh (λ _. b))

  -- The rules that do not fire.
  idle : ℕ → Bool
  idle r = eqb (x r) 0

  not_idle : (r : ℕ) → 0 < x r → idle r ≡ false
  unfolding idle
  not_idle r l = ne_eqb (x r) 0 (λ z. omega arith)

  module _ (A : ℕ → Bool) where
    -- A set that no rule touches that fires holds as many agents at the end as at the start.
    untouched : ((r : ℕ) → r < P.rules → 0 < x r → takes P A r ≡ false) → ((r : ℕ) → r < P.rules → 0 < x r → puts P A r ≡ false)
        → (count_in A d ≡ count_in A c) × ((r : ℕ) → touches P A r ≡ true → x r ≡ 0)
    unfolding takes puts touches
    untouched t p = (
      omega (arith, flow_weigh (λ s. bit (A s)), none P.p P.q t, none P.p' P.q' p),
      λ r e.
          ⊎_elim
          (λ (z : x r ≡ 0). z)
          (λ (z : 0 < x r).
          let s = and_elim (ltb r P.rules) (takes P A r || puts P A r) e in
          let l = ltb-true _ _ s.0 in
          absurd (not_both s.1 (or_none _ _ (t r l z) (p r l z))))
          (eq-zero-or-pos (x r)),
    )
      where
        none : (a b : ℕ → ℕ) → ((r : ℕ) → r < P.rules → 0 < x r → A (a r) || A (b r) ≡ false)
            → sum_below P.rules (λ r. x r * (bit (A (a r)) + bit (A (b r)))) ≡ 0
        none a b out =
            sum_same P.rules (λ r. x r * (bit (A (a r)) + bit (A (b r)))) (λ _. 0)
            (λ r l. ⊎_elim (λ (z : x r ≡ 0). rw z (omega arith)) (λ (z : 0 < x r). rw (pair_weightless A (a r) (b r) (out r l z)) (omega arith))
            (eq-zero-or-pos (x r)))
            ∙ sum_zero P.rules

    -- The rules of u are known not to fire.
    module _ (u : ℕ → Bool) (unused : (r : ℕ) → u r ≡ true → x r ≡ 0) where
      -- A trap empty at the end was empty at the start, and no rule that fires touches it.
      pub trap_empty : is_trap P u A ≡ true → count_in A d ≡ 0 → (count_in A c ≡ 0) × ((r : ℕ) → touches P A r ≡ true → x r ≡ 0)
      unfolding is_trap idle
      trap_empty t e =
          let trap = follows-fewer P u idle (takes P A) (puts P A) (λ r y. eq-eqb _ _ (unused r y)) t in
          let p = h.traps A trap e in
          let s = untouched (λ r l y. follows_none P idle (takes P A) (puts P A) trap r l (not_idle r y) (p r l y)) p in
          (sym s.0 ∙ e, s.1)

      -- A siphon empty at the start is empty at the end, and no rule that fires touches it.
      pub siphon_empty : is_siphon P u A ≡ true → count_in A c ≡ 0 → (count_in A d ≡ 0) × ((r : ℕ) → touches P A r ≡ true → x r ≡ 0)
      unfolding is_siphon idle
      siphon_empty t e =
          let siphon = follows-fewer P u idle (puts P A) (takes P A) (λ r y. eq-eqb _ _ (unused r y)) t in
          let q = h.siphons A siphon e in
          let s = untouched q (λ r l y. follows_none P idle (puts P A) (takes P A) siphon r l (not_idle r y) (q r l y)) in
          (s.0 ∙ e, s.1)
