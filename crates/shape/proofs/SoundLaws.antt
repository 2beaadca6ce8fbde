-- A shape is sound just where the docket keeps the rules of tests 1 to 8. Assumes nothing.
use Rattle.std.specs.Prelude.{◌≡◌, refl, true, false, ◌||◌, ◌&&◌, List, ◌↔◌, leb, ltb, length}
use Rattle.std.proofs.Common.{sym, ap, ◌∙◌, subst, ⊎_elim, arith, length-take, length-drop}
use Rattle.std.proofs.Math.Bool.{Bool, not, and-false}
use Rattle.std.proofs.Math.Logic.{⊎_map}
use Prim.Native.Nat.{ℕ, zero, suc, ◌+◌, ◌≤◌, ◌<◌}
use borrow.Author.Tests.{ltb-true, ltb-false, leb-false, eqb-true, eqb-false, eq-eqb, lt-ltb, le-ltb, lt-leb, not-true, not-false}
use Rattle.std.proofs.Math.Dec.{eqb}
use Rattle.theory.proofs.Bool.Laws.{not_both, is_true, is_false, and_elim, and_intro, and_fails, or_fails, or_none, or_left, or_right, or_elim}
use Rattle.theory.specs.Below.{any_below, Clear}
use Rattle.theory.proofs.Below.Laws.{any_elim, any_intro, any_fails}
use Rattle.theory.specs.Protocol.{WellFormed}
use Rattle.theory.specs.Ladder.{OrderedPartition}
use Rattle.format.specs.Bytes.{section}
use Rattle.format.specs.Format.{header_of, Sections, sections_of, is_input, rule_p, rule_q, rule_p', rule_q', rule_layer, rule_of, layer_weight}
use Rattle.format.specs.Format.{protocol_of, layers_of}
use Rattle.format.specs.declared.Sizes.{Sizes}
use Rattle.format.specs.declared.Header.{Header}
use Rattle.theory.specs.Judge.{Passes}
use Rattle.theory.proofs.Judge.Laws.{judge-passes, passes-judge, passes_both}
use Rattle.shape.specs.Shape.{wrong_version, count_faults, offset_faults, nth, other_bits, too_many_fixed, bad_record}
use Rattle.shape.specs.Shape.{same_before, same_rule, in_layer, too_large}
use Rattle.shape.specs.Shape.{bad_state, bad_rule, repeats, out_of_order, bad_layer, section_tests, header_tests, shape_tests, header_shape, shape_of}
use Rattle.refusals.specs.declared.Refusal.{Refusal}
use Rattle.refusals.specs.Refusal.{refusal}
use Rattle.shape.specs.declared.sound.Docket.{Docket}
use Rattle.std.specs.Prelude.{Result, Ok, Err}
use Rattle.shape.proofs.MarkLaws.{pair_same}
use Rattle.shape.specs.Sound.{IsVersion, Limits, Laid, InOrder, SoundSections, SoundShape}
use Rattle.shape.specs.Code.{Lengths, SoundRules}

-- ---- The version

pub version_passes : (v : ℕ) → (wrong_version v ≡ false) ↔ IsVersion v
version_passes v = (
  λ e. ⊎_map (eqb-true v 1) (eqb-true v 2) (or_elim (eqb v 1) (eqb v 2) (not-false _ e)),
  λ k. ap not (⊎_elim (λ (e : v ≡ 1). or_left _ _ (eq-eqb v 1 e)) (λ (e : v ≡ 2). or_right (eqb v 1) _ (eq-eqb v 2 e)) k),
)

-- ---- From the tests to the words

module _ (z : Sizes) where
  pub limits : Clear (nth (count_faults z)) 5 → Limits z
  limits clear =
      let states = or_fails (ltb z.states 2) (ltb 64 z.states) (clear 0 (omega arith)) in
      let nodes = or_fails (ltb z.nodes 1) (ltb 2048 z.nodes) (clear 3 (omega arith)) in
      let layers = or_fails _ (eqb z.layers 0 && not (eqb z.rules 0)) (clear 2 (omega arith)) in
      let most = or_fails (ltb 16 z.layers) (not (eqb z.layers 0) && eqb z.rules 0) layers.0 in
      record {
        states_least = ltb-false _ _ states.0;
        states_most = ltb-false _ _ states.1;
        rules_most = ltb-false _ _ (clear 1 (omega arith));
        layers_most = ltb-false _ _ most.0;
        no_layers = λ e.
            ⊎_elim
            (λ (n : eqb z.layers 0 ≡ false). absurd (eqb-false _ _ n e))
            (λ (n : not (eqb z.rules 0) ≡ false). eqb-true _ _ (not-false _ n))
            (and_fails _ _ layers.1);
        no_rules = λ e.
            ⊎_elim
            (λ (n : not (eqb z.layers 0) ≡ false). eqb-true _ _ (not-false _ n))
            (λ (n : eqb z.rules 0 ≡ false). absurd (eqb-false _ _ n e))
            (and_fails _ _ most.1);
        nodes_least = ltb-false _ _ nodes.0;
        nodes_most = ltb-false _ _ nodes.1;
        leaves_most = ltb-false _ _ (clear 4 (omega arith));
      }

  module _ (x : Sections) where
    abbrev states : List ℕ
    states = x.states

    abbrev rules : List ℕ
    rules = x.rules

    abbrev layers : List ℕ
    layers = x.layers

    -- Test 5.
    state_clear : Clear (bad_state z states) (z.states + 1) → ((s : ℕ) → s < z.states → bad_record z states s ≡ false)
        × (any_below z.states (is_input z states) ≡ true)
    unfolding bad_state
    state_clear clear = (
      λ s l.
          let f = or_fails (ltb s z.states && bad_record z states s) (at_end s) (clear s (omega arith)) in
          is_false _ (λ e. not_both (and_intro _ _ (lt-ltb _ _ l) e) f.0),
      let n = z.states in
          let f = or_fails (ltb n n && bad_record z states n) (at_end n) (clear n (omega arith)) in
          is_true _ (λ e. not_both (and_intro _ _ (eq-eqb n n refl) (ap not e)) f.1),
    )
      where
        at_end : ℕ → Bool
        at_end s = eqb s z.states && not (any_below z.states (is_input z states))

    -- Test 7. Rules with the same four states are found equal.
    pub same_rule_lem : (e r : ℕ) → rule_p rules e ≡ rule_p rules r → rule_q rules e ≡ rule_q rules r → rule_p' rules e ≡ rule_p' rules r
        → rule_q' rules e ≡ rule_q' rules r → same_rule rules r e ≡ true
    same_rule_lem e r p q p' q' = and_intro _ _ (and_intro _ _ (eq-eqb _ _ p) (eq-eqb _ _ q)) (and_intro _ _ (eq-eqb _ _ p') (eq-eqb _ _ q'))

    repeat_clear : Clear (repeats rules) z.rules → (e r : ℕ) → e < r → r < z.rules → rule_p rules e ≡ rule_p rules r → rule_q rules e ≡ rule_q rules r
        → rule_p' rules e ≡ rule_p' rules r → rule_q' rules e ≡ rule_q' rules r → ⊥
    unfolding repeats
    repeat_clear clear e r k l p q p' q' =
        not_both (same_rule_lem e r p q p' q') (any_fails r (same_rule rules r) (clear r l) e k)

    -- Test 14.
    order_clear : Clear (out_of_order z rules) z.rules → z.version ≡ 2 → InOrder z.rules rules
    unfolding out_of_order
    order_clear clear v r l = not-false _ (is_false _ (λ e. not_both (and_intro _ _ (eq-eqb _ _ v) e) (clear (suc r) l)))

    pub clear_order : (z.version ≡ 2 → InOrder z.rules rules) → Clear (out_of_order z rules) z.rules
    unfolding out_of_order
    clear_order up zero l = and-false (eqb z.version 2)
    clear_order up (suc r) l =
        is_false _ (λ e. let f = and_elim (eqb z.version 2) _ e in not_both f.1 (ap not (up (eqb-true _ _ f.0) r l)))

    -- Test 8.
    layer_clear : Clear (bad_layer z rules layers) z.layers → (l : ℕ) → l < z.layers
        → (any_below z.rules (in_layer rules l) ≡ true) × (any_below z.states (too_large z.states layers l) ≡ false)
    unfolding bad_layer
    layer_clear clear l k = let f = or_fails _ _ (clear l k) in (not-false _ f.0, f.1)

    -- Test 6, one rule.
    pub record SoundRule (r : ℕ) : Type 0 where
      pub p_lt : rule_p rules r < z.states
      pub q_lt : rule_q rules r < z.states
      pub p'_lt : rule_p' rules r < z.states
      pub q'_lt : rule_q' rules r < z.states
      pub pre_ordered : rule_p rules r ≤ rule_q rules r
      pub post_ordered : rule_p' rules r ≤ rule_q' rules r
      pub differ : eqb (rule_p rules r) (rule_p' rules r) && eqb (rule_q rules r) (rule_q' rules r) ≡ false
      pub layer_lt : rule_layer rules r < z.layers

    rule_clear : (r : ℕ) → bad_rule z rules r ≡ false → SoundRule r
    rule_clear r e =
        let n = z.states in
        let f8 = or_fails _ (leb z.layers (rule_layer rules r)) e in
        let f7 = or_fails _ (eqb (rule_p rules r) (rule_p' rules r) && eqb (rule_q rules r) (rule_q' rules r)) f8.0 in
        let f6 = or_fails _ (ltb (rule_q' rules r) (rule_p' rules r)) f7.0 in
        let f5 = or_fails _ (ltb (rule_q rules r) (rule_p rules r)) f6.0 in
        let f4 = or_fails _ (leb n (rule_q' rules r)) f5.0 in
        let f3 = or_fails _ (leb n (rule_p' rules r)) f4.0 in
        let f2 = or_fails (leb n (rule_p rules r)) (leb n (rule_q rules r)) f3.0 in
        record {
          p_lt = leb-false _ _ f2.0;
          q_lt = leb-false _ _ f2.1;
          p'_lt = leb-false _ _ f3.1;
          q'_lt = leb-false _ _ f4.1;
          pre_ordered = ltb-false _ _ f5.1;
          post_ordered = ltb-false _ _ f6.1;
          differ = f7.1;
          layer_lt = leb-false _ _ f8.1;
        }

    clear_rule : (r : ℕ) → SoundRule r → bad_rule z rules r ≡ false
    clear_rule r g =
        or_none _ _
        (or_none _ _
        (or_none _ _
        (or_none _ _
        (or_none _ _
        (or_none _ _
        (or_none _ _ (lt-leb _ _ g.p_lt) (lt-leb _ _ g.q_lt))
        (lt-leb _ _ g.p'_lt))
        (lt-leb _ _ g.q'_lt))
        (le-ltb _ _ g.pre_ordered))
        (le-ltb _ _ g.post_ordered))
        g.differ)
        (lt-leb _ _ g.layer_lt)

    -- Tests 5 to 8, with 14.
    pub sound_sections : Passes (section_tests z x) → SoundSections z x
    sound_sections (t5, (t6, (t7, (t14, (t8, end))))) =
        let inputs = state_clear t5 in
        let rule : (r : ℕ) → r < z.rules → SoundRule r = λ r l. rule_clear r (t6 r l) in
        record {
          state_bits = λ s l. ltb-false _ _ (or_fails (other_bits z states s) (too_many_fixed z states s) (inputs.0 s l)).0;
          fixed_most = λ s l. ltb-false _ _ (or_fails (other_bits z states s) (too_many_fixed z states s) (inputs.0 s l)).1;
          formed = record {
            p_lt = λ r l. (rule r l).p_lt;
            q_lt = λ r l. (rule r l).q_lt;
            p'_lt = λ r l. (rule r l).p'_lt;
            q'_lt = λ r l. (rule r l).q'_lt;
            pre_ordered = λ r l. (rule r l).pre_ordered;
            post_ordered = λ r l. (rule r l).post_ordered;
            pairs_differ = λ r l p q. not_both (and_intro _ _ (eq-eqb _ _ p) (eq-eqb _ _ q)) (rule r l).differ;
            some_input = any_elim _ _ inputs.1;
          };
          partition = record {
            covers = λ r l. (rule r l).layer_lt;
            non_empty = λ k l. let f = any_elim _ _ (layer_clear t8 k l).0 in (f.0, f.1, eqb-true _ _ f.2);
          };
          rules_distinct = repeat_clear t7;
          ascending = order_clear t14;
          weights_most = λ l s k m. ltb-false _ _ (any_fails _ _ (layer_clear t8 l k).1 s m);
        }

    sections_sound : SoundSections z x → Passes (section_tests z x)
    unfolding bad_state repeats bad_layer
    sections_sound g = (t5, (t6, (t7, (clear_order g.ascending, (t8, tt)))))
      where
        P : WellFormed (protocol_of z states rules)
        P = g.formed

        L : OrderedPartition (protocol_of z states rules) (layers_of z rules)
        L = g.partition

        t5 : Clear (bad_state z states) (z.states + 1)
        t5 s l =
            or_none _ _
            (is_false (ltb s z.states && bad_record z states s)
            (λ e.
            let f = and_elim (ltb s z.states) _ e in
            let l = ltb-true _ _ f.0 in
            not_both f.1 (or_none _ _ (le-ltb _ _ (g.state_bits s l)) (le-ltb _ _ (g.fixed_most s l)))))
            (is_false _
            (λ e.
            let f = and_elim (eqb s z.states) (not (any_below z.states (is_input z states))) e in
            let i = P.some_input in
            not_both (any_intro z.states (is_input z states) i.0 i.1 i.2) (not-true _ f.1)))

        t6 : Clear (bad_rule z rules) z.rules
        t6 r l =
            clear_rule r (record {
              p_lt = P.p_lt r l;
              q_lt = P.q_lt r l;
              p'_lt = P.p'_lt r l;
              q'_lt = P.q'_lt r l;
              pre_ordered = P.pre_ordered r l;
              post_ordered = P.post_ordered r l;
              differ =
                  is_false _ (λ e. let f = and_elim (eqb (rule_p rules r) (rule_p' rules r)) _ e in P.pairs_differ r l (eqb-true _ _ f.0)
                  (eqb-true _ _ f.1));
              layer_lt = L.covers r l;
            })

        t7 : Clear (repeats rules) z.rules
        t7 r l =
            is_false _
            (λ e.
            let f = any_elim r (same_rule rules r) e in
            let s = and_elim (same_before (rule_of rules f.0) (rule_of rules r)) _ f.2 in
            let before = pair_same _ _ _ _ s.0 in
            let after = pair_same _ _ _ _ s.1 in
            g.rules_distinct f.0 r f.1 l before.0 before.1 after.0 after.1)

        t8 : Clear (bad_layer z rules layers) z.layers
        t8 l k =
            let f = L.non_empty l k in
            or_none _ _
            (ap not (any_intro z.rules (in_layer rules l) f.0 f.1 (eq-eqb _ _ f.2)))
            (is_false _ (λ e. let h = any_elim z.states (too_large z.states layers l) e in omega
            (arith, ltb-true 1000000 (layer_weight z.states layers l h.0) h.2, g.weights_most l h.0 k h.1)))

-- ---- The header

module _ (b : List ℕ) (h : Header) where
  laid : ltb (length b) 24 || not (eqb (length b) h.at.total) ≡ false → Clear (nth (offset_faults h)) 6 → Laid b h
  laid e clear = record {
    states = at 0 _ _ (clear 0 (omega arith));
    rules = at 1 _ _ (clear 1 (omega arith));
    layers = at 2 _ _ (clear 2 (omega arith));
    nodes = at 3 _ _ (clear 3 (omega arith));
    leaves = at 4 _ _ (clear 4 (omega arith));
    total = at 5 _ _ (clear 5 (omega arith));
    whole = eqb-true _ _ (not-false _ (or_fails (ltb (length b) 24) _ e).1);
  }
    where
      at : (k m n : ℕ) → not (eqb m n) ≡ false → m ≡ n
      at k m n d = eqb-true _ _ (not-false _ d)

  -- Tests 1 to 8 pass just where their rules are kept.
  passes_sound : h ≡ header_of b → Passes (shape_tests b h) → SoundShape b h
  passes_sound e (t1, (t2, (t3, (t4, rest)))) = record {
    header = e;
    version = (version_passes h.sizes.version).0 (t2 0 (omega arith));
    limits = limits h.sizes t3;
    laid = laid (t1 0 (omega arith)) t4;
    sections = sound_sections h.sizes (sections_of b h) rest;
  }

  pub header_passes : IsVersion h.sizes.version → Limits h.sizes → Laid b h → Passes (header_tests b h)
  header_passes v L D = (t1, (t2, (t3, (t4, tt))))
    where
      z : Sizes
      z = h.sizes

      t1 : (k : ℕ) → k < 1 → ltb (length b) 24 || not (eqb (length b) h.at.total) ≡ false
      t1 k l =
          or_none _ _ (le-ltb (length b) 24 (omega (arith, D.whole, D.total, D.leaves, D.nodes, D.layers, D.rules, D.states)))
          (ap not (eq-eqb _ _ D.whole))

      t2 : (k : ℕ) → k < 1 → wrong_version z.version ≡ false
      t2 k l = (version_passes z.version).1 v

      t3 : Clear (nth (count_faults z)) 5
      t3 zero l = or_none _ _ (le-ltb _ _ L.states_least) (le-ltb _ _ L.states_most)
      t3 (suc zero) l = le-ltb _ _ L.rules_most
      t3 (suc (suc zero)) l =
          or_none _ _
          (or_none _ _ (le-ltb _ _ L.layers_most)
          (is_false _ (λ e. let f = and_elim (not (eqb z.layers 0)) _ e in eqb-false _ _ (not-true _ f.0) (L.no_rules (eqb-true _ _ f.1)))))
          (is_false _ (λ e. let f = and_elim (eqb z.layers 0) _ e in eqb-false _ _ (not-true _ f.1) (L.no_layers (eqb-true _ _ f.0))))
      t3 (suc (suc (suc zero))) l = or_none _ _ (le-ltb _ _ L.nodes_least) (le-ltb _ _ L.nodes_most)
      t3 (suc (suc (suc (suc zero)))) l = le-ltb _ _ L.leaves_most
      t3 (suc (suc (suc (suc (suc k))))) l = absurd (omega arith)

      t4 : Clear (nth (offset_faults h)) 6
      t4 zero l = ap not (eq-eqb _ _ D.states)
      t4 (suc zero) l = ap not (eq-eqb _ _ D.rules)
      t4 (suc (suc zero)) l = ap not (eq-eqb _ _ D.layers)
      t4 (suc (suc (suc zero))) l = ap not (eq-eqb _ _ D.nodes)
      t4 (suc (suc (suc (suc zero)))) l = ap not (eq-eqb _ _ D.leaves)
      t4 (suc (suc (suc (suc (suc zero))))) l = ap not (eq-eqb _ _ D.total)
      t4 (suc (suc (suc (suc (suc (suc k)))))) l = absurd (omega arith)

  pub sound_passes : SoundShape b h → Passes (shape_tests b h)
  sound_passes g =
      passes_both (header_tests b h) (section_tests h.sizes (sections_of b h))
      (header_passes g.version g.limits g.laid) (sections_sound h.sizes (sections_of b h) g.sections)

  lengths : SoundShape b h → Lengths b h
  lengths g = record {
    states = within h.at.states (omega arith);
    rules = within h.at.rules (omega arith);
    layers = within h.at.layers (omega arith);
    nodes = within h.at.nodes (omega arith);
    leaves = within h.at.leaves (omega arith);
  }
    where
      D : Laid b h
      D = g.laid

      within : (k : ℕ) {n : ℕ} → k + n ≤ length b → length (section b k n) ≡ n
      within k {n} l = simp (length-take, length-drop) (omega arith)

refused_not_sound : {r : Refusal} {h : Header} → Err r ≡ Ok h → ⊥
refused_not_sound {r} {h} e = let z : ◌≡◌ {A = ℕ} 0 1 = cc in omega arith

abbrev refuse : ℕ → ℕ → Result Header Refusal
refuse n k = Err (refusal n k)

-- What read_shape's callers use.
pub sound_shape : (b : List ℕ) (h : Header) → shape_of b ≡ Ok h → SoundShape b h
unfolding shape_of header_shape
sound_shape b h e =
    let passes = judge-passes refuse (Ok (header_of b)) (Ok h) (λ n k. refused_not_sound) (shape_tests b (header_of b)) e in
    let same : Ok (header_of b) ≡ Ok h = sym (passes-judge refuse (Ok (header_of b)) (shape_tests b (header_of b)) passes) ∙ e in
    let eq : header_of b ≡ h = cc in
    subst (SoundShape b) eq (passes_sound b (header_of b) refl passes)

pub sound_lengths : (b : List ℕ) (h : Header) → SoundShape b h → Lengths b h
sound_lengths = lengths

-- Nothing else is refused.
pub shape_sound : (b : List ℕ) (h : Header) → SoundShape b h → shape_of b ≡ Ok h
unfolding shape_of header_shape
shape_sound b h g =
    let at : SoundShape b (header_of b) = subst (SoundShape b) g.header g in
    passes-judge refuse (Ok (header_of b)) (shape_tests b (header_of b)) (sound_passes b (header_of b) at) ∙ ap Ok (sym g.header)

pub sound_at : (b : List ℕ) (s : Result Header Refusal) (h : Header) → s ≡ shape_of b → s ≡ Ok h → SoundShape b h
sound_at b s h e u = sound_shape b h (sym e ∙ u)

pub shape_at : (b : List ℕ) (h : Header) (s : Result Header Refusal) → s ≡ header_shape b (header_of b) → s ≡ Ok h → shape_of b ≡ Ok h
unfolding shape_of
shape_at b h s e u = sym e ∙ u

-- A docket's bytes and header are of sound shape.
pub docket_sound : (d : Docket) → SoundShape d.bytes.now d.header
docket_sound d = sound_shape d.bytes.now d.header d.sound

pub sound_rules : (b : List ℕ) (h : Header) → SoundShape b h → SoundRules h.sizes (sections_of b h).rules
sound_rules b h s =
    let l = (sound_lengths b h s).rules in
    record {
      states_most = s.limits.states_most;
      rules_most = s.limits.rules_most;
      whole = omega arith;
      p_lt = s.sections.formed.p_lt;
      q_lt = s.sections.formed.q_lt;
      p'_lt = s.sections.formed.p'_lt;
      q'_lt = s.sections.formed.q'_lt;
    }
