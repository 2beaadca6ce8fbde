-- Lists of rule numbers under a ladder: layered lists, and lists of one layer alone. Assumes nothing.
use Rattle.std.specs.Prelude.{◌≡◌, true, ◌&&◌, ℕ, ◌+◌, ◌*◌, ◌≤◌, ◌<◌, length, eqb}
use Rattle.std.proofs.Math.Path.{refl, sym, ap}
use Rattle.std.proofs.Common.{◌∙◌, subst, arith}
use Rattle.std.proofs.Math.Bool.{and_assoc}
use mathlib.Core.List.{List, [], ◌∷◌, ◌++◌}
use Rattle.std.proofs.Math.Logic.{by_cases}
use Rattle.std.proofs.Math.Decide.{dec_lt}
use borrow.Author.Tests.{eqb-true}
use Rattle.theory.specs.Bool.{imp}
use Rattle.theory.proofs.Bool.Laws.{not_both, is_true, and_elim, imp_elim}
use Rattle.theory.specs.Below.{least}
use Rattle.theory.specs.Weigh.{weigh}
use Rattle.theory.specs.Protocol.{Protocol, WellFormed, size, fire, terminal, fires, tried, after, meetings, EachMeeting}
use Rattle.theory.proofs.Protocol.Lists.{length-after, keeps, meetings_fall, size-after}
use Rattle.theory.specs.Ladder.{Layers, handover, Laddered, QuietBelow, lowest, layered, Alone, spread, rank}
use Rattle.theory.proofs.Ladder.Active.{active_intro, lowest_quiet}
use Rattle.theory.proofs.Ladder.Handover.{quiet_fire}
use Rattle.theory.proofs.Ladder.Rank.{weigh-least, weigh-spread, weigh_falls, rank_falls, rank_positive}

module _ (P : Protocol) (L : Layers) where
  -- A meeting by a rule of the lowest layer that has an enabled rule.
  abbrev pub Lowest : List ℕ → ℕ → Type 0
  Lowest c r = L.of r ≡ lowest P L c

  pub layered-each : (c rs : List ℕ) → layered P L c rs ≡ true → EachMeeting P Lowest c rs
  unfolding layered
  layered-each c [] h = tt
  layered-each c (r ∷ rs) h =
      let s = and_elim _ _ h in
      (λ a. eqb-true _ _ (imp_elim _ _ s.0 a), layered-each (tried P c r) rs s.1)

  pub layered-append : (c xs ys : List ℕ) → layered P L c (xs ++ ys) ≡ (layered P L c xs && layered P L (after P c xs) ys)
  unfolding layered after
  layered-append c [] ys = refl
  layered-append c (r ∷ rs) ys =
      let first = imp (fires P c r) (eqb (L.of r) (lowest P L c)) in
      ap (λ b. first && b) (layered-append (tried P c r) rs ys) ∙ sym
      (and_assoc first (layered P L (tried P c r) rs) (layered P L (after P (tried P c r) rs) ys))

-- The handover test passes.
module _ (P : Protocol) (L : Layers) (good : WellFormed P) (passes : handover P L ≡ true) where
  -- Layers that are quiet, together with all below them, stay quiet through a layered list.
  pub quiet_layered : (k : ℕ) (c rs : List ℕ) → length c ≡ P.states → layered P L c rs ≡ true → QuietBelow P L k c → QuietBelow P L k (after P c rs)
  quiet_layered k c rs long h =
      keeps P (Lowest P L) (QuietBelow P L k)
      (λ d r m low q j l.
      let k-le : k ≤ L.of r = by_cases (dec_lt (L.of r) k) (λ g. absurd (not_both (active_intro P L d r m.rule m.on) (q (L.of r) g)))
      (λ g. omega arith) in
      quiet_fire P L good passes d r m (rw low (lowest_quiet P L d)) j (omega arith))
      c rs long (layered-each P L c rs h)

  -- The layers below layer k, where all are quiet, stay quiet through a list of layer k alone.
  pub quiet_alone : (k : ℕ) (c rs : List ℕ) → length c ≡ P.states → Alone P L k c rs → QuietBelow P L k c → QuietBelow P L k (after P c rs)
  quiet_alone k c rs long =
      keeps P (λ _ r. L.of r ≡ k) (QuietBelow P L k)
      (λ d r m e q. subst (λ n. QuietBelow P L n (fire P d r)) e (quiet_fire P L good passes d r m (subst (λ n. QuietBelow P L n d) (sym e) q)))
      c rs long

module _ (P : Protocol) {L : Layers} {w : ℕ → ℕ → ℕ} (lad : Laddered P L w) where
  -- A list of layer k alone makes at most size times its spread meetings.
  pub meetings_alone : (k : ℕ) (c rs : List ℕ) → length c ≡ P.states → Alone P L k c rs → meetings P c rs ≤ size c * spread P.states (w k)
  meetings_alone k c rs long h =
      omega (
        arith,
        meetings_fall P (λ _ r. L.of r ≡ k) (weigh (w k))
            (λ d r m e. subst (λ n. weigh (w n) (fire P d r) < weigh (w n) d) e (weigh_falls P lad d r m)) c rs long h,
        weigh-least P.states (w k) (after P c rs) (length-after P c rs ∙ long),
        ap (λ n. n * least P.states (w k)) (size-after P lad.formed c rs long),
        weigh-spread P.states (w k) c long,
      )

  -- Each meeting of a layered list takes at least 1 off the rank.
  pub rank-after : (c rs : List ℕ) → length c ≡ P.states → layered P L c rs ≡ true → rank P L w (after P c rs) + meetings P c rs ≤ rank P L w c
  rank-after c rs long h = meetings_fall P (Lowest P L) (rank P L w) (rank_falls P lad) c rs long (layered-each P L c rs h)

  -- A layered list with as many meetings as the rank, or more, ends terminal.
  pub layered_rests : (c rs : List ℕ) → length c ≡ P.states → layered P L c rs ≡ true → rank P L w c ≤ meetings P c rs → terminal P (after P c rs) ≡ true
  layered_rests c rs long h e =
      is_true _ (λ t. omega (arith, rank-after c rs long h, rank_positive P lad (after P c rs) (length-after P c rs ∙ long) t))
