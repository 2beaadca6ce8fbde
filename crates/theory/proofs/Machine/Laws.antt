-- What calls do on counts that pass 20 and 21 and on others. A run is layered. The counts and meetings of a list of calls
-- are those of the list of rule numbers that it makes. Assumes nothing.
use Rattle.std.specs.Prelude.{◌≡◌, not, cond, length, ltb, eqb}
use Rattle.std.proofs.Math.Path.{refl, sym, ap}
use Rattle.std.proofs.Common.{◌∙◌, arith}
use Rattle.std.proofs.Math.Bool.{true, false}
use mathlib.Core.List.{List, [], ◌∷◌, ◌++◌, map, append_assoc, append-nil}
use Prim.Native.Nat.{ℕ, zero, suc, ◌≤◌, ◌<◌}
use borrow.Author.Tests.{lt-ltb, le-ltb, eqb-true, eq-eqb}
use Rattle.theory.specs.Bool.{bit}
use Rattle.theory.proofs.Bool.Laws.{by_test, not_both, is_false, and_intro, and_elim, imp_intro}
use Rattle.theory.proofs.Below.Laws.{any_elim, first_passes, first-lowest, first_min}
use Rattle.theory.specs.Protocol.{Protocol, WellFormed, enabled, fire, terminal, fires, tried, after, meetings, EachTried}
use Rattle.theory.proofs.Protocol.Lists.{tried-fires, rule_fires, length-after, size-after, after-append, meetings-append}
use Rattle.theory.specs.Ladder.{Layers, OrderedPartition, enabled_in, active, lowest, layered}
use Rattle.theory.proofs.Ladder.Lists.{layered-append}
use Rattle.theory.proofs.Ladder.Active.{enabled_in_elim, lowest_quiet, lowest-active, not_terminal-lowest}
use Rattle.theory.specs.Machine.Lists.{last_counts, reported}
use Rattle.theory.specs.Machine.{Call, step, run, stepped, refused, is_refused, meetings_of, is_sized, is_within, admitted, admit, chosen, Uses}
use Rattle.theory.specs.Machine.{run_numbers, step_reply, run_reply, reply, adds, counts_after, numbers_of}

module _ (P : Protocol) where
  -- ---- Counts that pass, and others

  pub admitted_sized : (c : List ℕ) → admitted P c ≡ true → length c ≡ P.states
  unfolding admitted is_sized
  admitted_sized c e = eqb-true _ _ (and_elim _ _ e).0

  module _ {A : Type 0} (c : List ℕ) (f : ℕ → A) (x : A) where
    pub admit_on : admitted P c ≡ true → admit P c f x ≡ x
    unfolding admitted admit
    admit_on e = let t = and_elim (is_sized P c) (is_within c) e in rw (t.0, t.1)

    admit_off : admitted P c ≡ false → admit P c f x ≡ f (cond (is_sized P c) 21 20)
    unfolding admitted admit
    admit_off e = by_test (is_sized P c) (λ s. let w : is_within c ≡ false = rw s at e in rw (s, w)) (λ s. rw s)

  -- ---- What a step says

  module _ (c : List ℕ) (r : ℕ) where
    pub step_no_rule : P.rules ≤ r → step_reply P c r ≡ refused 23 r
    unfolding step_reply
    step_no_rule l = rw (le-ltb _ _ l)

    pub step_not_enabled : r < P.rules → enabled P c r ≡ false → step_reply P c r ≡ refused 24 r
    unfolding step_reply
    step_not_enabled l off = rw (lt-ltb _ _ l, off)

    pub step_fires : fires P c r ≡ true → step_reply P c r ≡ stepped
    unfolding step_reply fires
    step_fires e = let t = and_elim (ltb r P.rules) (enabled P c r) e in rw (t.0, t.1)

    pub step_refused : is_refused (step_reply P c r) ≡ not (fires P c r)
    unfolding step_reply fires is_refused
    step_refused = by_test (ltb r P.rules) (λ e. by_test (enabled P c r) (λ f. rw (e, f)) (λ f. rw (e, f))) (λ e. rw e)

    step_meets : meetings_of (step_reply P c r) ≡ bit (fires P c r)
    unfolding step_reply fires meetings_of
    step_meets = by_test (ltb r P.rules) (λ e. by_test (enabled P c r) (λ f. rw (e, f)) (λ f. rw (e, f))) (λ e. rw e)

module _ (P : Protocol) (L : Layers) where
  -- The rule numbers that a call tries on counts that pass.
  abbrev pub tries : List ℕ → Call → List ℕ
  tries c (step r) = r ∷ []
  tries c (run limit) = run_numbers P L limit c

  pub adds_on : (c : List ℕ) (x : Call) → admitted P c ≡ true → adds P L c x ≡ tries c x
  unfolding adds
  adds_on c (step r) e = rw e
  adds_on c (run limit) e = rw e

  pub adds_off : (c : List ℕ) (x : Call) → admitted P c ≡ false → adds P L c x ≡ []
  unfolding adds
  adds_off c (step r) e = rw e
  adds_off c (run limit) e = rw e

  pub reply_step : (c : List ℕ) (r : ℕ) → admitted P c ≡ true → reply P L c (step r) ≡ step_reply P c r
  unfolding reply
  reply_step c r = admit_on P c (λ n. refused n 0) (step_reply P c r)

  pub reply_run : (c : List ℕ) (limit : ℕ) → admitted P c ≡ true → reply P L c (run limit) ≡ run_reply P L c limit
  unfolding reply
  reply_run c limit = admit_on P c (λ n. refused n 0) (run_reply P L c limit)

  pub reply_off : (c : List ℕ) (x : Call) → admitted P c ≡ false → reply P L c x ≡ refused (cond (is_sized P c) 21 20) 0
  unfolding reply
  reply_off c (step r) = admit_off P c (λ n. refused n 0) (step_reply P c r)
  reply_off c (run limit) = admit_off P c (λ n. refused n 0) (run_reply P L c limit)

  -- On counts that do not pass no call changes anything, or reports a meeting.
  pub last_counts_off : (c : List ℕ) (xs : List Call) → admitted P c ≡ false → last_counts P L c xs ≡ c
  unfolding last_counts counts_after after
  last_counts_off c [] e = refl
  last_counts_off c (x ∷ xs) e = rw (adds_off c x e) (last_counts_off c xs e)

  pub reported_off : (c : List ℕ) (xs : List Call) → admitted P c ≡ false → reported P L c xs ≡ 0
  unfolding reported counts_after after meetings_of
  reported_off c [] e = refl
  reported_off c (x ∷ xs) e = rw (adds_off c x e, reply_off c x e) (omega (arith, reported_off c xs e))

  -- ---- Lists of calls

  -- The counts that a list of calls leaves are the last configuration of the list of rule numbers that it makes.
  pub last_counts-after : (c : List ℕ) (xs : List Call) → last_counts P L c xs ≡ after P c (numbers_of P L c xs)
  unfolding last_counts numbers_of after counts_after
  last_counts-after c [] = refl
  last_counts-after c (x ∷ xs) = last_counts-after (counts_after P L c x) xs ∙ sym (after-append P c (adds P L c x) (numbers_of P L (counts_after P L c x) xs))

  pub numbers_of-append : (c : List ℕ) (xs ys : List Call) → numbers_of P L c (xs ++ ys) ≡ numbers_of P L c xs ++ numbers_of P L (last_counts P L c xs) ys
  unfolding numbers_of last_counts
  numbers_of-append c [] ys = refl
  numbers_of-append c (x ∷ xs) ys =
      ap (λ zs. adds P L c x ++ zs) (numbers_of-append (counts_after P L c x) xs ys)
      ∙ sym (append_assoc (adds P L c x) (numbers_of P L (counts_after P L c x) xs) (numbers_of P L (last_counts P L (counts_after P L c x) xs) ys))

  -- What one call more adds to the list of rule numbers, where the counts before it pass.
  pub numbers_of_snoc : (c : List ℕ) (xs : List Call) (x : Call) → admitted P (last_counts P L c xs) ≡ true
      → numbers_of P L c (xs ++ x ∷ []) ≡ numbers_of P L c xs ++ tries (last_counts P L c xs) x
  unfolding numbers_of
  numbers_of_snoc c xs x e =
      let d = last_counts P L c xs in
      numbers_of-append c xs (x ∷ []) ∙ ap (λ ys. numbers_of P L c xs ++ ys) (append-nil (adds P L d x) ∙ adds_on d x e)

  -- What is true of the list rs that a run of that limit uses from c: it is layered, each of its numbers makes a meeting,
  -- it keeps to the limit, and stops short of it only at rest.
  pub record RunList (limit : ℕ) (c rs : List ℕ) : Type 0 where
    pub is_layered : layered P L c rs ≡ true
    pub all_meet : meetings P c rs ≡ length rs
    pub kept : length rs ≤ limit
    pub short : length rs < limit → terminal P (after P c rs) ≡ true
    pub uses : EachTried P (Uses P L) c rs

  -- Counts that pass do so after every list of rule numbers, and of calls.
  pub admitted-after : WellFormed P → (c rs : List ℕ) → admitted P c ≡ true → admitted P (after P c rs) ≡ true
  unfolding admitted is_sized is_within
  admitted-after good c rs e = let long = admitted_sized P c e in rw (length-after P c rs, size-after P good c rs long) e

  pub admitted-last : WellFormed P → (c : List ℕ) (xs : List Call) → admitted P c ≡ true → admitted P (last_counts P L c xs) ≡ true
  admitted-last good c xs e = ap (admitted P) (last_counts-after c xs) ∙ admitted-after good c (numbers_of P L c xs) e

module _ (P : Protocol) {L : Layers} (part : OrderedPartition P L) where
  -- ---- Runs

  -- The rule that a run uses makes a meeting, and is of the lowest layer that has an enabled rule.
  pub chosen-fires : (c : List ℕ) → terminal P c ≡ false → (fires P c (chosen P L c) ≡ true) × (L.of (chosen P L c) ≡ lowest P L c)
  unfolding chosen active
  chosen-fires c t =
      let test = enabled_in P L c (lowest P L c) in
      let f = any_elim _ _ (lowest-active P L c (not_terminal-lowest P L c part t)) in
      let below : chosen P L c < P.rules = omega (arith, f.1, first_min P.rules test f.0 f.2) in
      let s = enabled_in_elim P L c (lowest P L c) (chosen P L c) (first_passes _ _ below) in
      (rule_fires P c (chosen P L c) below s.1, s.0)

  -- It is what document 01 says that a run uses.
  chosen_used : (c : List ℕ) → terminal P c ≡ false → Uses P L c (chosen P L c)
  unfolding chosen enabled_in
  chosen_used c t =
      let m = chosen-fires c t in
      record {
        fires_there = m.0;
        lowest_layer = rw m.1 (lowest_quiet P L c);
        lowest_number = λ k l e.
            is_false _ (λ on. not_both (and_intro _ _ (eq-eqb _ _ (e ∙ m.1)) on) (first-lowest P.rules (enabled_in P L c (lowest P L c)) k l));
      }

  pub run_numbers_is : (limit : ℕ) (c : List ℕ) → RunList P L limit c (run_numbers P L limit c)
  unfolding run_numbers layered meetings after
  run_numbers_is zero c = record { is_layered = refl; all_meet = refl; kept = omega arith; short = λ l. absurd (omega arith); uses = tt }
  run_numbers_is (suc limit) c =
      by_test (terminal P c)
      (λ e. rw (e, run_numbers) (record { is_layered = refl; all_meet = refl; kept = omega arith; short = λ l. e; uses = tt }))
      (λ e.
      let r = chosen P L c in
      let rs = run_numbers P L limit (fire P c r) in
      let ih : RunList P L limit (fire P c r) rs = run_numbers_is limit (fire P c r) in
      let m = chosen-fires c e in
      let to : tried P c r ≡ fire P c r = tried-fires P c r m.0 in
      rw (e, run_numbers) (record {
        is_layered = and_intro _ _ (imp_intro (fires P c r) (eqb (L.of r) (lowest P L c)) (λ _. eq-eqb _ _ m.1)) (rw to ih.is_layered);
        all_meet = omega (arith, ap bit m.0, ap (λ d. meetings P d rs) to, ih.all_meet);
        kept = omega (arith, ih.kept);
        short = λ l. ap (λ d. terminal P (after P d rs)) to ∙ ih.short (omega arith);
        uses = (chosen_used c e, rw to ih.uses);
      }))

  -- The list that run calls make is layered.
  pub runs_layered : (c limits : List ℕ) → layered P L c (numbers_of P L c (map run limits)) ≡ true
  unfolding numbers_of layered counts_after
  runs_layered c [] = refl
  runs_layered c (limit ∷ limits) =
      let d = counts_after P L c (run limit) in
      let first : layered P L c (adds P L c (run limit)) ≡ true =
      by_test (admitted P c)
      (λ e. ap (layered P L c) (adds_on P L c (run limit) e) ∙ (run_numbers_is limit c).is_layered)
      (λ e. ap (layered P L c) (adds_off P L c (run limit) e)) in
      layered-append P L c (adds P L c (run limit)) (numbers_of P L d (map run limits)) ∙ and_intro _ _ first (runs_layered d limits)

  -- ---- What calls report

  meetings_of_is : (c : List ℕ) (x : Call) → meetings_of (reply P L c x) ≡ meetings P c (adds P L c x)
  unfolding meetings_of run_reply meetings
  meetings_of_is c x =
      by_test (admitted P c)
      (λ e. rw (adds_on P L c x e) (on x e))
      (λ e. rw (adds_off P L c x e, reply_off P L c x e) refl)
    where
      on : (x : Call) → admitted P c ≡ true → meetings_of (reply P L c x) ≡ meetings P c (tries P L c x)
      on (step r) e = rw (reply_step P L c r e) (omega (arith, step_meets P c r))
      on (run limit) e = rw (reply_run P L c limit e) (sym (run_numbers_is limit c).all_meet)

  -- The meetings that the calls report are those of the list of rule numbers.
  pub reported-meetings : (c : List ℕ) (xs : List Call) → reported P L c xs ≡ meetings P c (numbers_of P L c xs)
  unfolding reported numbers_of meetings counts_after
  reported-meetings c [] = refl
  reported-meetings c (x ∷ xs) =
      omega (arith, meetings_of_is c x, reported-meetings (counts_after P L c x) xs, meetings-append P c (adds P L c x) (numbers_of P L (counts_after P L c x) xs))
