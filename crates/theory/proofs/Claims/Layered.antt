-- Layered Termination gives Termination: the layers are run one after the other, each alone until it is quiet. Assumes nothing.
use Rattle.std.specs.Prelude.{◌≡◌, refl, false, length}
use Rattle.std.proofs.Common.{sym, ◌∙◌, subst, arith}
use Rattle.std.proofs.Math.Path.{ap}
use mathlib.Core.List.{List, [], ◌∷◌, ◌++◌}
use Prim.Native.Nat.{ℕ, zero, suc, ◌≤◌}
use Rattle.theory.specs.Bool.{bit}
use Rattle.theory.proofs.Bool.Laws.{by_test, not_both, is_true, is_false}
use Rattle.theory.proofs.Below.Laws.{below_suc}
use Rattle.theory.specs.Protocol.{Protocol, tried, after, meetings}
use Rattle.theory.proofs.Protocol.Laws.{not_terminal_on}
use Rattle.theory.proofs.Protocol.Lists.{rule_fires, length-after, after-append}
use Rattle.theory.specs.Ladder.{Layers, active, QuietBelow, Alone}
use Rattle.theory.proofs.Ladder.Active.{active_elim, active_intro}
use Rattle.theory.specs.Claims.{LayeredBy, LayeredTermination, Termination}

module _ (P : Protocol) (L : Layers) where
  -- A layer that makes at most n meetings alone can be run alone until it is quiet.
  run_alone : (i n : ℕ) (c : List ℕ) → ((rs : List ℕ) → Alone P L i c rs → meetings P c rs ≤ n) → (rs : List ℕ) × Alone P L i c rs
      × (active P L (after P c rs) i ≡ false)
  unfolding after meetings
  run_alone i zero c bound = (
    [],
    tt,
    is_false _ (λ e. let f = active_elim P L c i e in omega
        (arith, bound (f.0 ∷ []) (λ _. f.2, tt), ap bit (rule_fires P c f.0 f.1 f.3))),
  )
  run_alone i (suc n) c bound =
      by_test (active P L c i)
      (λ e.
      let f = active_elim P L c i e in
      let r = f.0 in
      let rest = run_alone i n (tried P c r) (λ rs a. omega (arith, bound (r ∷ rs) (λ _. f.2, a), ap bit (rule_fires P c r f.1 f.3))) in
      (r ∷ rest.0, (λ _. f.2, rest.1), rest.2))
      (λ e. ([], tt, e))

  module _ (by : LayeredBy P L) where
    -- Some list makes the layers below k quiet, one after the other from the lowest.
    quieten : (k : ℕ) (c : List ℕ) → length c ≡ P.states → (rs : List ℕ) × QuietBelow P L k (after P c rs)
    quieten zero c long = ([], λ j l. absurd (omega arith))
    quieten (suc k) c long =
        let below = quieten k c long in
        let d = after P c below.0 in
        let sized : length d ≡ P.states = length-after P c below.0 ∙ long in
        let bound = by.silent k d sized in
        let here = run_alone k bound.0 d bound.1 in
        let rs = here.0 in
        let quiet = by.kept k d rs sized here.1 below.1 in (
          below.0 ++ rs,
          subst (QuietBelow P L (suc k)) (sym (after-append P c below.0 rs))
              (below_suc (λ j. active P L (after P d rs) j ≡ false) k here.2 quiet),
        )

pub layered_terminates : (P : Protocol) → LayeredTermination P → Termination P
layered_terminates P (L, by) c long =
    let all = quieten P L by L.count c long in
    let d = after P c all.0 in (
      d,
      (all.0, refl),
      is_true _
          (λ t. let f = not_terminal_on P d t in not_both (active_intro P L d f.0 f.1 f.2)
          (all.1 (L.of f.0) (by.partition.covers f.0 f.1))),
    )
