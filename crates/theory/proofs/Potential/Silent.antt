-- The paper has silent transitions besides, from a pair to itself. Potential reachability is the same with them. Assumes nothing.
use Rattle.std.specs.Prelude.{◌≡◌, refl, Bool, true, cond, List, ◌↔◌, ℕ, ◌+◌, ◌-◌, ◌*◌, ◌≤◌, ◌<◌, ltb}
use Rattle.std.proofs.Math.Path.{sym}
use Rattle.std.proofs.Common.{ap, ◌∙◌, arith, lt-ltb, le-ltb}
use Rattle.std.proofs.Math.Logic.{by_cases}
use Rattle.std.proofs.Math.Decide.{dec_lt}
use Rattle.std.proofs.Math.Dec.{eqb}
use Rattle.theory.specs.Below.{sum_below}
use Rattle.theory.proofs.Below.Laws.{sum_to, sum_same}
use Rattle.theory.specs.Protocol.{Protocol, pre, post}
use Rattle.theory.specs.Tree.{takes, puts, follows, is_trap, is_siphon}
use Rattle.theory.proofs.Tree.Traps.{follows_is}
use Rattle.theory.specs.Potential.{Potential}

module _ (P : Protocol) (m : ℕ) (a b : ℕ → ℕ) where
  -- f of the rules of P, g of the numbers behind them.
  abbrev before : {A : Type 0} → (ℕ → A) → (ℕ → A) → ℕ → A
  before f g r = cond (ltb r P.rules) (f r) (g r)

  -- P with m silent rules behind its own: rule r takes from a r and b r, and puts into the same.
  abbrev pub with_silent : Protocol
  with_silent = record {
    states = P.states;
    rules = P.rules + m;
    p = before P.p a;
    q = before P.q b;
    p' = before P.p' a;
    q' = before P.q' b;
    output = P.output;
    input = P.input;
    fixed = P.fixed;
  }

  abbrev Q : Protocol
  Q = with_silent

  -- ---- Rules of P are as they were, the others take and put alike

  module _ (r : ℕ) (l : r < P.rules) where
    pre_same : (s : ℕ) → pre Q r s ≡ pre P r s
    pre_same s = rw (lt-ltb r P.rules l)

    post_same : (s : ℕ) → post Q r s ≡ post P r s
    post_same s = rw (lt-ltb r P.rules l)

    takes_same : (A : ℕ → Bool) → takes Q A r ≡ takes P A r
    unfolding takes
    takes_same A = rw (lt-ltb r P.rules l)

    puts_same : (A : ℕ → Bool) → puts Q A r ≡ puts P A r
    unfolding puts
    puts_same A = rw (lt-ltb r P.rules l)

  module _ (r : ℕ) (l : P.rules ≤ r) where
    silent_same : (s : ℕ) → pre Q r s ≡ post Q r s
    silent_same s = rw (le-ltb r P.rules l)

    silent_flow : (A : ℕ → Bool) → takes Q A r ≡ puts Q A r
    unfolding takes puts
    silent_flow A = rw (le-ltb r P.rules l)

  -- ---- Traps and siphons

  -- f follows g in Q just where it does in P, if they are as in P below its rules and alike behind them.
  module _ (u v f g f' g' : ℕ → Bool) (uv : (r : ℕ) → r < P.rules → v r ≡ u r) (ff : (r : ℕ) → r < P.rules → f' r ≡ f r)
      (gg : (r : ℕ) → r < P.rules → g' r ≡ g r) (alike : (r : ℕ) → P.rules ≤ r → f' r ≡ g' r) where
    follows_to : follows P u f g ≡ true → follows Q v f' g' ≡ true
    follows_to e =
        (follows_is Q v f' g').1
        (λ r l off on.
        by_cases (dec_lt r P.rules)
        (λ k. gg r k ∙ (follows_is P u f g).0 e r k (sym (uv r k) ∙ off) (sym (ff r k) ∙ on))
        (λ k. sym (alike r (omega arith)) ∙ on))

    follows_from : follows Q v f' g' ≡ true → follows P u f g ≡ true
    follows_from e =
        (follows_is P u f g).1
        (λ r l off on. sym (gg r l) ∙ (follows_is Q v f' g').0 e r (omega arith) (uv r l ∙ off) (ff r l ∙ on))

  -- ---- The flow equation

  module _ (x : ℕ → ℕ) where
    -- The part of a sum that the silent rules make.
    abbrev rest : (ℕ → ℕ) → ℕ
    rest f = sum_below (P.rules + m - P.rules) (λ k. x (P.rules + k) * f (P.rules + k))

    -- The sum over the rules of Q, of x times f, is that over the rules of P, on which f is g, and the rest.
    split : (f g : ℕ → ℕ) → ((r : ℕ) → r < P.rules → f r ≡ g r)
        → sum_below (P.rules + m) (λ r. x r * f r) ≡ sum_below P.rules (λ r. x r * g r) + rest f
    split f g same =
        sum_to P.rules (P.rules + m) (λ r. x r * f r) (omega arith)
        ∙ ap (λ n. n + rest f) (sum_same P.rules _ _ (λ r l. ap (λ n. x r * n) (same r l)))

    module _ (s : ℕ) where
      rest_same : rest (λ r. pre Q r s) ≡ rest (λ r. post Q r s)
      rest_same = sum_same _ _ _ (λ k l. ap (λ n. x (P.rules + k) * n) (silent_same (P.rules + k) (omega arith) s))

      -- What x takes from state s, and puts into it, in Q and in P, differs by the same rest.
      flow_same : sum_below (P.rules + m) (λ r. x r * pre Q r s) + sum_below P.rules (λ r. x r * post P r s)
          ≡ sum_below (P.rules + m) (λ r. x r * post Q r s) + sum_below P.rules (λ r. x r * pre P r s)
      flow_same =
          let pres = split (λ r. pre Q r s) (λ r. pre P r s) (λ r l. pre_same r l s) in
          let posts = split (λ r. post Q r s) (λ r. post P r s) (λ r l. post_same r l s) in
          omega (arith, pres, posts, rest_same)

  -- ---- Both ways

  without_silent : (x : ℕ → ℕ) (c d : List ℕ) → Potential Q x c d → Potential P x c d
  unfolding is_trap is_siphon
  without_silent x c d h = record {
    sized = h.sized;
    flow = λ s l. omega (arith, h.flow s l, flow_same x s);
    traps = λ A t e r l on.
        sym (puts_same r l A)
        ∙ h.traps A
        (follows_to (λ r. eqb (x r) 0) (λ r. eqb (x r) 0) (takes P A) (puts P A) (takes Q A) (puts Q A) (λ r l. refl)
        (λ r l. takes_same r l A) (λ r l. puts_same r l A) (λ r l. silent_flow r l A) t)
        e r (omega arith) on;
    siphons = λ A t e r l on.
        sym (takes_same r l A)
        ∙ h.siphons A
        (follows_to (λ r. eqb (x r) 0) (λ r. eqb (x r) 0) (puts P A) (takes P A) (puts Q A) (takes Q A) (λ r l. refl)
        (λ r l. puts_same r l A) (λ r l. takes_same r l A) (λ r l. sym (silent_flow r l A)) t)
        e r (omega arith) on;
  }

  -- The silent rules do not fire.
  abbrev still : (ℕ → ℕ) → ℕ → ℕ
  still x = before x (λ _. 0)

  with_silent_lem : (x : ℕ → ℕ) (c d : List ℕ) → Potential P x c d → Potential Q (still x) c d
  unfolding is_trap is_siphon
  with_silent_lem x c d h = record {
    sized = h.sized;
    flow = λ s l.
        omega (arith, h.flow s l, flow_same (still x) s, below (λ r. pre P r s), below (λ r. post P r s));
    traps = λ A t e r l on.
        puts_same r (fires r on) A
        ∙ h.traps A
        (follows_from (λ r. eqb (x r) 0) (λ r. eqb (still x r) 0) (takes P A) (puts P A) (takes Q A) (puts Q A) unused
        (λ r l. takes_same r l A) (λ r l. puts_same r l A) (λ r l. silent_flow r l A) t)
        e r (fires r on) (moves r on);
    siphons = λ A t e r l on.
        takes_same r (fires r on) A
        ∙ h.siphons A
        (follows_from (λ r. eqb (x r) 0) (λ r. eqb (still x r) 0) (puts P A) (takes P A) (puts Q A) (takes Q A) unused
        (λ r l. puts_same r l A) (λ r l. takes_same r l A) (λ r l. sym (silent_flow r l A)) t)
        e r (fires r on) (moves r on);
  }
    where
      here : (r : ℕ) → r < P.rules → still x r ≡ x r
      here r l = rw (lt-ltb r P.rules l)

      unused : (r : ℕ) → r < P.rules → eqb (still x r) 0 ≡ eqb (x r) 0
      unused r l = ap (λ n. eqb n 0) (here r l)

      below : (f : ℕ → ℕ) → sum_below P.rules (λ r. still x r * f r) ≡ sum_below P.rules (λ r. x r * f r)
      below f = sum_same P.rules _ _ (λ r l. ap (λ n. n * f r) (here r l))

      fires : (r : ℕ) → 0 < still x r → r < P.rules
      fires r on =
          by_cases (dec_lt r P.rules) (λ l. l)
          (λ g. absurd (let z : still x r ≡ 0 = rw (le-ltb r P.rules (omega arith)) in omega arith))

      moves : (r : ℕ) → 0 < still x r → 0 < x r
      moves r on = omega (arith, here r (fires r on))

  -- The same configurations are potentially reachable.
  pub silent_potential : (c d : List ℕ) → ((x : ℕ → ℕ) × Potential with_silent x c d) ↔ ((x : ℕ → ℕ) × Potential P x c d)
  silent_potential c d = (λ h. (h.0, without_silent h.0 c d h.1), λ h. (still h.0, with_silent_lem h.0 c d h.1))
