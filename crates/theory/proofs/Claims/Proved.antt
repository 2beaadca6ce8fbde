-- The claims are proved. Assumes nothing.
use Rattle.std.specs.Prelude.{◌≡◌, Bool, false, cond, ◌&&◌, eqb}
use Rattle.std.proofs.Math.Path.{refl, sym, ap}
use Rattle.std.proofs.Common.{◌∙◌, subst, arith}
use Rattle.std.proofs.Math.Bool.{true, not, and-true}
use mathlib.Core.List.{List, [], ◌∷◌, ◌++◌}
use Rattle.std.proofs.Math.Logic.{by_cases}
use Prim.Native.Nat.{ℕ, suc, ◌+◌, ◌*◌, ◌≤◌, ◌<◌}
use Rattle.std.proofs.Math.Decide.{dec_lt}
use Rattle.std.proofs.Math.ListN.{length}
use Rattle.theory.specs.Bool.{imp}
use Rattle.theory.proofs.Bool.Laws.{not_both, is_true, and_elim}
use Rattle.theory.specs.Protocol.{Protocol, WellFormed, size, terminal, tried, Shows, StartRule, fires, after, meetings}
use Rattle.theory.proofs.Protocol.Laws.{enabled-pre, pre-enabled, count-fire, fire_moves, terminal_off, not_terminal_on, shows_is, output_is}
use Rattle.theory.proofs.Protocol.Laws.{mixed_is, start_test_lem, unfixed_rule}
use Rattle.theory.proofs.Protocol.Small.{small_after, small_shows}
use Rattle.theory.proofs.Protocol.Lists.{tried-fires, tried_not, rule_fires, each, keeps, length-after, after-append, meetings-append, size-after}
use Rattle.theory.specs.Ladder.{Layers, OrderedPartition, QuietBelow, lowest, layered, Laddered, spread, spreads, rank}
use Rattle.theory.proofs.Ladder.Handover.{handover_at_fails, handover_at_exact, handover_exact}
use Rattle.theory.proofs.Ladder.Rank.{rank-bound, rank_zero}
use Rattle.theory.proofs.Ladder.Lists.{layered-append, quiet_layered, quiet_alone, meetings_alone, rank-after, layered_rests}
use Rattle.theory.proofs.Leaf.Signed.{leaf_is}
use Rattle.theory.proofs.Remainder.Signed.{remainder_is}
use Rattle.theory.specs.Tree.{takes, puts, is_trap, is_siphon}
use Rattle.theory.proofs.Tree.Traps.{takes_is, puts_is, follows_is}
use Rattle.theory.proofs.Tree.Consensus.{consensus}
use Rattle.theory.specs.Potential.Runs.{parikh}
use Rattle.theory.specs.Potential.{Potential}
use Rattle.theory.proofs.Potential.Reached.{reached, reach}
use Rattle.theory.specs.Sheet.{Sheet}
use Rattle.theory.proofs.Sheet.Laws.{answer_accepted, answer_refused, sheet_decides}
use Rattle.theory.proofs.Sheet.Signed.{claimed_is, first_is, second_is}
use Rattle.theory.specs.Machine.Lists.{last_counts, reported}
use Rattle.theory.specs.Machine.{Call, step, run, ran, is_refused, is_sized, admitted, run_numbers, step_reply, run_reply, reply, numbers_of}
use Rattle.theory.proofs.Machine.Rest.{run_rests}
use Rattle.theory.proofs.Machine.Laws.{RunList, admitted-last, tries, reply_step, reply_run, reply_off, last_counts_off, reported_off}
use Rattle.theory.proofs.Machine.Laws.{step_no_rule, step_not_enabled, step_fires, step_refused, run_numbers_is, last_counts-after}
use Rattle.theory.proofs.Machine.Laws.{numbers_of-append, numbers_of_snoc, reported-meetings}
use Rattle.theory.specs.Claims.Theorems.{SheetAccepted, Decides, DecidesPotentially, SheetIs, HandoverExact, Theorems}
use Rattle.theory.specs.Claims.{Certified, Reaches, AsPublished, LayeredBy, LayeredTermination, Consensus, ReachesPotentially, StrongConsensus}
use Rattle.theory.specs.Claims.{WS², WS³, Rests}
use Rattle.theory.specs.Claims.{RunMakes, CallsMake, CallsRest, Rank, AllRefused}
use Rattle.theory.proofs.Subtree.Laws.{tree_stands, tree_fails}
use Rattle.theory.proofs.Claims.LayerWords.{layers_are}
use Rattle.theory.proofs.Claims.Layered.{layered_terminates}

module _ (P : Protocol) (good : WellFormed P) where
  -- ---- The paper's definitions

  as_published : (c : List ℕ) → length c ≡ P.states → AsPublished P c
  unfolding is_trap is_siphon after
  as_published c long = record {
    enabled_is = λ r l. (enabled-pre P c r, λ h. pre-enabled P c r (λ i _. h i) (good.p_lt r l) (good.q_lt r l));
    fire_is = λ r l on s. omega (arith, count-fire P good c r (record { sized = long; rule = l; on = on }) s, enabled-pre P c r on s);
    terminal_is = (stays, alone);
    shows_is = shows_is P c long;
    output_is = output_is P c long;
    mixed_is = mixed_is P c long;
    start_is = λ none. (
      λ start. (start.enough, λ s l. (unfixed_rule P c none s l).0 (start.rule s l)),
      λ t. record { sized = long; enough = t.0; rule = λ s l. (unfixed_rule P c none s l).1 (t.1 s l) },
    );
    takes_is = takes_is P;
    puts_is = puts_is P;
    trap_is = λ u A. follows_is P u (takes P A) (puts P A);
    siphon_is = λ u A. follows_is P u (puts P A) (takes P A);
  }
    where
      stays : terminal P c ≡ true → (d : List ℕ) → Reaches P c d → d ≡ c
      stays t d r =
          sym r.1
          ∙ keeps P (λ _ _. Unit {0}) (λ e. e ≡ c)
          (λ e x m o i. absurd (not_both m.on (terminal_off P e (ap (terminal P) i ∙ t) x m.rule)))
          c r.0 long (each P (λ _ _. Unit {0}) (λ _ _. tt) c r.0) refl

      alone : ((d : List ℕ) → Reaches P c d → d ≡ c) → terminal P c ≡ true
      alone h =
          is_true _
          (λ t.
          let f = not_terminal_on P c t in
          let r = f.0 in
          fire_moves P good c r (record { sized = long; rule = f.1; on = f.2 })
          (sym (tried-fires P c r (rule_fires P c r f.1 f.2)) ∙ h (tried P c r) (r ∷ [], refl)))

  handover_is_exact : (L : Layers) → HandoverExact P L
  handover_is_exact L = record { at_rule = handover_at_exact P L good; broken = handover_at_fails P L good; whole = handover_exact P L good }

  -- ---- Consensus

  -- What is reachable is potentially reachable.
  potential : (c d : List ℕ) → length c ≡ P.states → Reaches P c d → ReachesPotentially P c d
  potential c d long r = (parikh P c r.0, subst (Potential P (parikh P c r.0) c) r.1 (reached P good c r.0 long))

  stronger : StrongConsensus P → Consensus P
  stronger strong c start = let v = strong c start in (v.0, λ d r x. v.1 d (potential c d start.sized r) x)

  ws³_in_ws² : WS³ P → WS² P
  ws³_in_ws² w = record { termination = layered_terminates P w.layered_termination; consensus = stronger w.strong_consensus }

-- Two terminal configurations that lists lead to, from counts that keep the start rule, show one output.
agreeing : (P : Protocol) → Consensus P → (c : List ℕ) → length c ≡ P.states → ((s : ℕ) → s < P.states → StartRule P c s)
    → (rs ss : List ℕ) → terminal P (after P c rs) ≡ true → terminal P (after P c ss) ≡ true
    → (v : Bool) × Shows P v (after P c rs) × Shows P v (after P c ss)
agreeing P one c long rule rs ss x y =
    by_cases (dec_lt (size c) 2)
    (λ l.
    let v = small_shows P c l in
    (v.0, subst (Shows P v.0) (sym (small_after P c l rs)) v.1, subst (Shows P v.0) (sym (small_after P c l ss)) v.1))
    (λ g.
    let v = one c (record { sized = long; enough = omega arith; rule = rule }) in
    (v.0, v.1 (after P c rs) (rs, refl) x, v.1 (after P c ss) (ss, refl) y))

-- ---- Lists of calls on counts that pass

module _ (P : Protocol) {L : Layers} (good : WellFormed P) (part : OrderedPartition P L) (c : List ℕ) (passes : admitted P c ≡ true) where
  module _ (xs : List Call) where
    abbrev d : List ℕ
    d = last_counts P L c xs

    abbrev made : List ℕ
    made = numbers_of P L c xs

    still : admitted P d ≡ true
    still = admitted-last P L good c xs passes

    to : d ≡ after P c made
    to = last_counts-after P L c xs

    says : (r : ℕ) → reply P L d (step r) ≡ step_reply P d r
    says r = reply_step P L d r still

    -- One call more: the list of rule numbers, the counts, and whether the list is layered.
    module _ (x : Call) where
      more : numbers_of P L c (xs ++ x ∷ []) ≡ made ++ tries P L d x
      more = numbers_of_snoc P L c xs x still

      counts_more : last_counts P L c (xs ++ x ∷ []) ≡ after P d (tries P L d x)
      counts_more =
          last_counts-after P L c (xs ++ x ∷ [])
          ∙ ap (after P c) more
          ∙ after-append P c made (tries P L d x)
          ∙ ap (λ e. after P e (tries P L d x)) (sym to)

      layered_more : layered P L c (numbers_of P L c (xs ++ x ∷ [])) ≡ (layered P L c made && layered P L d (tries P L d x))
      layered_more =
          ap (layered P L c) more
          ∙ layered-append P L c made (tries P L d x)
          ∙ ap (λ e. layered P L c made && layered P L e (tries P L d x)) (sym to)

    run_makes : (limit : ℕ) → RunMakes P L c (reply P L) (last_counts P L c) (reported P L c) xs limit
    unfolding run_reply
    run_makes limit = record {
      steps = length rs;
      rests = terminal P (after P d rs);
      says = reply_run P L d limit still;
      uses = r.uses;
      are_meetings = omega (arith, ap (meetings P c) (more (run limit)), meetings-append P c made rs, ap (λ e. meetings P e rs) to, r.all_meet);
      at_rest = ap (terminal P) (sym (counts_more (run limit)));
      limited = r.kept;
      short = r.short;
    }
      where
        rs : List ℕ
        rs = run_numbers P L limit d

        r : RunList P L limit d rs
        r = run_numbers_is P part limit d

  calls_make : CallsMake P L c (reply P L) (last_counts P L c) (reported P L c)
  unfolding layered numbers_of after
  calls_make = record {
    none_add = refl;
    step_adds = λ xs r. more xs (step r);
    run_adds = λ xs limit. more xs (run limit);
    counts = to;
    meetings_are = reported-meetings P part c;
    step_refused = λ xs r. ap is_refused (says xs r) ∙ step_refused P (d xs) r ∙ ap (λ e. not (fires P e r)) (to xs);
    makes_meeting = λ xs r e. says xs r ∙ step_fires P (d xs) r e;
    no_rule = λ xs r l. says xs r ∙ step_no_rule P (d xs) r l;
    not_enabled = λ xs r l off. says xs r ∙ step_not_enabled P (d xs) r l off;
    unchanged = λ xs r e. counts_more xs (step r) ∙ tried_not P (d xs) r e;
    run_makes = run_makes;
    run_layered =
        λ xs limit. layered_more xs (run limit) ∙ ap (λ b. layered P L c (made xs) && b) (run_numbers_is P part limit (d xs)).is_layered
        ∙ and-true (layered P L c (made xs));
    step_layered =
        λ xs r. layered_more xs (step r) ∙ ap (λ b. layered P L c (made xs) && b) (and-true (imp (fires P (d xs) r) (eqb (L.of r) (lowest P L (d xs)))));
  }

-- ---- Lists of calls on counts that do not pass

calls_refused : (P : Protocol) (L : Layers) (c : List ℕ) → admitted P c ≡ false
    → AllRefused c (reply P L) (last_counts P L c) (reported P L c) (cond (is_sized P c) 21 20) 0
calls_refused P L c fails = record {
  says = λ xs x. ap (λ d. reply P L d x) (last_counts_off P L c xs fails) ∙ reply_off P L c x fails;
  unchanged = λ xs. last_counts_off P L c xs fails;
  no_meetings = λ xs. reported_off P L c xs fails;
}

-- ---- What a ladder proves

module _ (P : Protocol) {L : Layers} {w : ℕ → ℕ → ℕ} (lad : Laddered P L w) where
  layered_by : LayeredBy P L
  layered_by = record {
    partition = lad.partition;
    silent = λ i c long. (size c * spread P.states (w i), λ rs. meetings_alone P lad i c rs long);
    kept = quiet_alone P L lad.formed lad.handover_passes;
  }

  module _ (c : List ℕ) (long : length c ≡ P.states) where
    rank_is : Rank P L w c
    rank_is = record { zero_at_rest = rank_zero P lad c long; bound = rank-bound P L w lad.partition c long }

    rests : Rests P L w c (after P c) (meetings P c) (layered P L c)
    rests = record {
      size_kept = λ rs. size-after P lad.formed c rs long;
      quiet_stays = λ k xs ys h q.
          let rest = and_elim (layered P L c xs) (layered P L (after P c xs) ys) (sym (layered-append P L c xs ys) ∙ h) in
          subst (QuietBelow P L (suc k)) (sym (after-append P c xs ys))
          (quiet_layered P L lad.formed lad.handover_passes (suc k) (after P c xs) ys (length-after P c xs ∙ long) rest.1 q);
      rest_bound = λ rs h. omega (arith, falls rs h, rank_is.bound);
      rests = λ rs h e. layered_rests P lad c rs long h (omega (arith, rank_is.bound));
      rank_falls = falls;
      rests_by_rank = λ rs h e. layered_rests P lad c rs long h (omega arith);
    }
      where
        falls : (rs : List ℕ) → layered P L c rs ≡ true → rank P L w (after P c rs) + meetings P c rs ≤ rank P L w c
        falls rs = rank-after P lad c rs long

    some_list : (rs : List ℕ) × (layered P L c rs ≡ true) × (terminal P (after P c rs) ≡ true)
    some_list =
        let limit = size c * spreads P L w in
        (run_numbers P L limit c, (run_numbers_is P lad.partition limit c).is_layered, run_rests P lad c long limit (omega arith))

  module _ (c : List ℕ) (long : length c ≡ P.states) where
    calls_rest : CallsRest P L w c (reply P L) (last_counts P L c) (reported P L c)
    calls_rest = record {
      rests = record {
        size_kept = λ xs. ap size (to xs) ∙ numbers.size_kept (numbers_of P L c xs);
        quiet_stays = λ k xs ys h q.
            let front = numbers_of-append P L c xs ys in
            let quiet = numbers.quiet_stays k (numbers_of P L c xs) (numbers_of P L (last_counts P L c xs) ys)
            (sym (ap (layered P L c) front) ∙ h) (subst (QuietBelow P L (suc k)) (to xs) q) in
            subst (QuietBelow P L (suc k)) (sym (to (xs ++ ys) ∙ ap (after P c) front)) quiet;
        rest_bound = λ xs h. omega (arith, total xs, numbers.rest_bound (numbers_of P L c xs) h);
        rests = λ xs h e. ap (terminal P) (to xs) ∙ numbers.rests (numbers_of P L c xs) h (sym (total xs) ∙ e);
        rank_falls = λ xs h. omega (arith, total xs, ap (rank P L w) (to xs), numbers.rank_falls (numbers_of P L c xs) h);
        rests_by_rank = λ xs h e. ap (terminal P) (to xs) ∙ numbers.rests_by_rank (numbers_of P L c xs) h (sym (total xs) ∙ e);
      };
      quiet_within = λ xs k us vs ws e h.
          numbers.quiet_stays k us vs (and_elim _ _ (sym (layered-append P L c (us ++ vs) ws) ∙ ap (layered P L c) (sym e) ∙ h)).0;
      enough = λ on xs limit l.
          let d = last_counts P L c xs in
          let said = run_makes P lad.formed lad.partition c on xs limit in
          let end = counts_more P lad.formed lad.partition c on xs (run limit) in
          let rest = run_rests P lad d (ap length (to xs) ∙ length-after P c (numbers_of P L c xs) ∙ long) limit
          (rw (to xs, numbers.size_kept (numbers_of P L c xs)) l) in
          (said.steps, said.says ∙ ap (ran said.steps) (said.at_rest ∙ ap (terminal P) end ∙ rest));
    }
      where
        numbers : Rests P L w c (after P c) (meetings P c) (layered P L c)
        numbers = rests c long

        to : (xs : List Call) → last_counts P L c xs ≡ after P c (numbers_of P L c xs)
        to = last_counts-after P L c

        total : (xs : List Call) → reported P L c xs ≡ meetings P c (numbers_of P L c xs)
        total = reported-meetings P lad.partition c

-- ---- What a certificate proves

module _ (P : Protocol) (cert : Certified P) where
  ws³ : WS³ P
  ws³ = record { layered_termination = layers; strong_consensus = strong_consensus }
    where
      good : WellFormed P
      good = cert.ladder.formed

      layers : LayeredTermination P
      layers = (cert.layers, layered_by P cert.ladder)

      strong_consensus : StrongConsensus P
      strong_consensus c start =
          let t = layered_terminates P layers c start.sized in
          let v = consensus P good cert.leaf_weight cert.tree cert.tree.nodes cert.closed c start
          (reach P good c t.1.0 start.sized) (ap (terminal P) t.1.1 ∙ t.2) in
          (v.0, λ d r x. v.1 (record { end = d; through = r.0; potential = r.1 }) x)

-- ---- Claim sheets

module _ (P : Protocol) (Z : Sheet) where
  sheet_is : SheetIs P Z
  sheet_is = record { claimed_is = claimed_is P Z; first_is = λ F w k. first_is P F w k Z; second_is = λ small F w k. second_is P F w k Z small }

  decides_potentially : WellFormed P → SheetAccepted P Z → DecidesPotentially P Z
  decides_potentially good e c d start r =
      sheet_decides P good Z (Z.first.nodes + Z.second.nodes) e c start (record { end = d; through = r.0; potential = r.1 })

  decides : WellFormed P → SheetAccepted P Z → Decides P Z
  decides good e c d start r = decides_potentially good e c d start (potential P good c d start.sized r)

pub theorems : (P : Protocol) → Theorems P
theorems P = record {
  as_published = as_published P;
  layers_are = λ good part. layers_are P part good;
  tree_stands = tree_stands P;
  tree_fails = tree_fails P;
  leaf_is = leaf_is P;
  remainder_is = remainder_is P;
  start_exact = start_test_lem P;
  handover_exact = handover_is_exact P;
  calls_make = calls_make P;
  calls_refused = calls_refused P;
  one_output = agreeing P;
  calls_one_output = λ one L c long inputs xs ys x y.
      let to = last_counts-after P L c in
      let v = agreeing P one c long inputs (numbers_of P L c xs) (numbers_of P L c ys) (ap (terminal P) (sym (to xs)) ∙ x) (ap (terminal P) (sym (to ys)) ∙ y) in
      (v.0, subst (Shows P v.0) (sym (to xs)) v.1, subst (Shows P v.0) (sym (to ys)) v.2);
  potentially = reached P;
  stronger = stronger P;
  layered_terminates = layered_terminates P;
  ws³_in_ws² = ws³_in_ws² P;
  of_ladder = λ lad. record {
    layered_by = layered_by P lad;
    layer_bound = meetings_alone P lad;
    rank_is = rank_is P lad;
    some_list = some_list P lad;
    rests = rests P lad;
    calls_rest = calls_rest P lad;
  };
  ws³ = ws³ P;
  ws² = λ cert. ws³_in_ws² P cert.ladder.formed (ws³ P cert);
  sheet_is = sheet_is P;
  sheet_accepted = answer_accepted P;
  sheet_refused = answer_refused P;
  decides_potentially = λ good Z. decides_potentially P Z good;
  decides = λ good Z. decides P Z good;
  decides_lists = λ Z all c start rs. all c (after P c rs) start (rs, refl);
  decides_calls = λ Z all L c start xs. all c (last_counts P L c xs) start (numbers_of P L c xs, sym (last_counts-after P L c xs));
}
